-- The first name that does not come before a text settles it.
use Rattle.std.proofs.Common.{◌∙◌, ℕ, Bool, List, sym, ap, subst, get_or, string_bytes, arith}
use Rattle.std.specs.List.{list_any}
use Rattle.std.specs.List.Sorted.{IsSorted}
use Rattle.std.specs.Str.{bytes_eq}
use Rattle.std.specs.String.{string_cmp}
use Rattle.std.proofs.lemmas.Bool.{le-ltb}
use Rattle.markdown_notes.proofs.NameOrder.{same-after, same-between, any_map, found, none}
use Rattle.markdown_notes.proofs.name_index.NameIndex.has.Goals as goal

pub returns-then-at-len : goal.returns-then-at-len
returns-then-at-len c =
    let p : List ℕ → Bool = bytes_eq c.args.name.now in
    let same = c.as_slice.ensures.value in
    let sorted = subst (IsSorted string_cmp) (sym same) c.self.invariant.0 in
    let at = c.first_from-at.result in
    c.eq.ensures ∙ ap p c.as_str.ensures.value
    ∙ ap (λ x. p (string_bytes x)) (c.index.ensures ∙ ap (λ zs. get_or zs at c.index.result.now) (sym same))
    ∙ found string_bytes c.as_slice.result.now at c.args.name.now sorted c.first_from-at.ensures.before c.first_from-at.ensures.after p (same-after c.args.name.now) (same-between c.args.name.now) c.index.result.now (omega (arith, c.if-at-len.true, c.len.ensures, c.as_slice.ensures.len))
    ∙ ap (list_any (λ x. p (string_bytes x))) same
    ∙ sym (ap (list_any p) (sym c.self.view_is) ∙ any_map p string_bytes c.self.inside.names.items)

pub returns-else-at-len : goal.returns-else-at-len
returns-else-at-len c =
    let p : List ℕ → Bool = bytes_eq c.args.name.now in
    let same = c.as_slice.ensures.value in
    let sorted = subst (IsSorted string_cmp) (sym same) c.self.invariant.0 in
    let at = c.first_from-at.result in
    le-ltb at c.len.result c.if-at-len.false
    ∙ none string_bytes c.as_slice.result.now at c.args.name.now sorted c.first_from-at.ensures.before c.first_from-at.ensures.after p (same-after c.args.name.now) (same-between c.args.name.now) (omega (arith, c.if-at-len.false, c.len.ensures, c.as_slice.ensures.len))
    ∙ ap (list_any (λ x. p (string_bytes x))) same
    ∙ sym (ap (list_any p) (sym c.self.view_is) ∙ any_map p string_bytes c.self.inside.names.items)
