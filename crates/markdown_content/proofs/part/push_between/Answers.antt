use Rattle.std.proofs.Common.{ℕ, List, ◌∙◌, sym, ap, ◌+◌, ◌++◌, append-nil, append_assoc, drop, arith}
use Rattle.std.specs.Prelude.{slice_range}
use Rattle.std.proofs.lemmas.List.{at_drop_more, at_drop_all}
use Rattle.markdown_content.specs.declared.parser.Piece.{Piece}
use Rattle.markdown_content.proofs.BytesOfContent.{all_of, content-bytes, earlier-none, row-dropped}
use Rattle.markdown_content.proofs.part.push_between.Goals as goal

abbrev nowhere : Piece
nowhere = record { start = (0, 0); end = (0, 0) }

pub loop-at-init : goal.loop-at-init
loop-at-init c =
    ap (λ bs. c.args.out.now.items ++ bs)
    (earlier-none c.args.text.now c.args.from c.args.to c.args.pieces.now c.ending_by-at.result nowhere (λ i l m. c.ending_by-at.ensures.0 i nowhere (omega arith) l)
    ∙ sym (content-bytes c.args.text.now c.args.from c.args.to c.args.bytes.now c.args.pieces.now c.requires.content.in_order))

pub returns-then-to-piece : goal.returns-then-to-piece
returns-then-to-piece c = grind (arith, append-nil, row-dropped)

pub loop-at-preserved : goal.loop-at-preserved
loop-at-preserved c =
    let left : List ℕ = all_of c.args.text.now c.args.from c.args.to (drop (c.loop-at.at + 1) c.args.pieces.now) in
    ap (λ bs. bs ++ left) c.in_ok-extend_from_slice.ensures.items
    ∙ append_assoc c.loop-at.out.items c.part.result.now left
    ∙ ap (λ bs. c.loop-at.out.items ++ (bs ++ left)) (c.part.ensures ∙ (λ i. slice_range c.args.text.now (c.max.ensures i) (c.min.ensures i)))
    ∙ ap (λ bs. c.loop-at.out.items ++ bs) (sym (at_drop_more (all_of c.args.text.now c.args.from c.args.to) c.args.pieces.now c.loop-at.at nowhere c.loop-at-test.true))
    ∙ c.loop-at.invariant

pub returns : goal.returns
returns c =
    sym (append-nil c.loop-at.out.items)
    ∙ ap (λ bs. c.loop-at.out.items ++ bs) (sym (at_drop_all (all_of c.args.text.now c.args.from c.args.to) c.args.pieces.now c.loop-at.at (omega (arith, c.loop-at-test.false))))
    ∙ c.loop-at.invariant
