use Rattle.std.proofs.Common.{◌≡◌, ◌∙◌, sym, ap, subst, IfOk, List, ℕ, string_bytes}
use Rattle.markdown_util.specs.Identifier.{identifier_by, identifier_of}
use Rattle.markdown_util.proofs.ReplacedNul.{without-nul}
use Rattle.markdown_util.proofs.util.normalize_identifier.identifier_by.Goals as goal
use Rattle.markdown_util.proofs.util.normalize_identifier.identifier_by.Goals.{then-not-nul_is_replaced-via-then-not-nul_is_replaced, then-not-nul_is_replaced-via-else-not-nul_is_replaced+then-not-has_nul}

pub returns-then-not-nul_is_replaced : goal.returns-then-not-nul_is_replaced
returns-then-not-nul_is_replaced c =
    let text = c.args.value.now in
    let same : identifier_of text ≡ identifier_by c.args.nul_is_replaced text =
    elim c.then-not-nul_is_replaced.branch [
      | then-not-nul_is_replaced-via-then-not-nul_is_replaced w ↦ ap (λ b. identifier_by b text) (sym w.if-not-nul_is_replaced.true)
      | then-not-nul_is_replaced-via-else-not-nul_is_replaced+then-not-has_nul w ↦
          without-nul text c.utf8.value (sym w.has_nul.ensures ∙ w.if-not-has_nul.true) ∙ ap (λ b. identifier_by b text) (sym w.if-not-nul_is_replaced.false)
    ] in
    subst (λ (name : List ℕ). IfOk c.normalize_identifier.result (λ identifier. string_bytes identifier ≡ name)) same c.normalize_identifier.ensures
