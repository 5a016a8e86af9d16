use Rattle.std.proofs.Common.{List, [], ℕ, Bor, Ok, Err, rules}
use Rattle.std.proofs.lemmas.Fn.{always_returns_same}
use Rattle.markdown_util.proofs.SortedTable.{compared, searched}
use Rattle.markdown_util.proofs.util.character_reference.text_of.Goals as goal

pub returns-in-Ok : goal.returns-in-Ok
returns-in-Ok c =
    searched c.args.rows.now c.args.name.now _ (Ok c.in-Ok.at) c.requires c.in-Ok.ensures.bound
    (c.in-Ok.ensures.position (compared c.args.name.now) (always_returns_same _ _ _ (λ a r g called. search rules)))

pub returns-in-Err : goal.returns-in-Err
returns-in-Err c =
    let none : Bor (List ℕ) = record { ref_ptr = (0, 0); now = [] } in
    searched c.args.rows.now c.args.name.now (none, none) (Err c.in-Err.field-0) c.requires c.in-Err.ensures.bound
    (c.in-Err.ensures.position (compared c.args.name.now) (always_returns_same _ _ _ (λ a r g called. search rules)))
