use Rattle.std.proofs.Common.{rules, arith, ◌≡◌, ◌≤◌, ◌+◌, ◌∙◌, sym, ap, ℕ, suc, List, ◌∷◌, map, reverse, length, string_bytes}
use Rattle.std.proofs.lemmas.List.{length-map, length-reverse}
use Rattle.std.proofs.lemmas.Map.Text.{btree_map_updates_text}
use Rattle.markdown_html_model.specs.Html.{footnote_number, footnotes_called, times_called}
use Rattle.markdown_html.proofs.OneMoreCall.{first-after, known-set, later-after, one-later, times-bounded, footnotes-bounded}
use Rattle.markdown_html.proofs.footnotes.FootnoteCalls.push.Goals as goal

pub overflow_add-called : goal.overflow_add-called
overflow_add-called c =
    let x : List ℕ = string_bytes c.args.identifier in
    let calls : List (List ℕ) = reverse (map string_bytes c.self.inside.calls.items) in
    let is : c.footnote-footnote.result.calls ≡ times_called x calls = search rules in
    let bound : times_called x calls ≤ length calls = times-bounded x calls in
    let len : length calls ≡ length c.self.inside.calls.items = length-reverse (map string_bytes c.self.inside.calls.items) ∙ length-map c.self.inside.calls.items string_bytes in
    omega arith

pub overflow_add-self : goal.overflow_add-self
overflow_add-self c =
    let calls : List (List ℕ) = reverse (map string_bytes c.self.inside.calls.items) in
    let is : c.self.inside.next ≡ suc (footnotes_called calls) = c.self.invariant.0 in
    let bound : footnotes_called calls ≤ length calls = footnotes-bounded calls in
    let len : length calls ≡ length c.self.inside.calls.items = length-reverse (map string_bytes c.self.inside.calls.items) ∙ length-map c.self.inside.calls.items string_bytes in
    omega arith

pub invariant_of-self-then-footnote-eq0 : goal.invariant_of-self-then-footnote-eq0
invariant_of-self-then-footnote-eq0 c =
    let x : List ℕ = string_bytes c.args.identifier in
    let calls : List (List ℕ) = reverse (map string_bytes c.self.inside.calls.items) in
    let all : List (List ℕ) = reverse (map string_bytes c.push.new.self.items) in
    let more : all ≡ x ∷ calls = one-later c.self.inside.calls.items c.push.new.self.items c.args.identifier c.in_ok-push.ensures.items in
    let number : c.footnote-footnote.result.number ≡ footnote_number x calls = search rules in
    let times : c.footnote-footnote.result.calls ≡ times_called x calls = search rules in
    let same : string_bytes c.in_ok-key.key ≡ x = search rules in
    let first : footnotes_called (x ∷ calls) ≡ suc (footnotes_called calls) = first-after x calls (sym times ∙ c.if-footnote-eq0.true) in
    let next : c.self.inside.next ≡ suc (footnotes_called calls) = c.self.invariant.0 in
    let later : c.self.inside.next + 1 ≡ suc (footnotes_called (x ∷ calls)) = omega arith in (
      later ∙ ap (λ ys. suc (footnotes_called ys)) (sym more),
      λ q. known-set x (string_bytes c.in_ok-key.key) q calls all c.footnote-footnote.result.number c.footnote-footnote.result.calls _ _ same more number times
          (c.self.invariant.1 q)
          (btree_map_updates_text (string_bytes c.in_ok-key.key) c.self.inside.footnotes c.insert.new.self _ c.in-Ok.ensures.updates q),
    )

pub invariant_of-self-else-footnote-eq0 : goal.invariant_of-self-else-footnote-eq0
invariant_of-self-else-footnote-eq0 c =
    let x : List ℕ = string_bytes c.args.identifier in
    let calls : List (List ℕ) = reverse (map string_bytes c.self.inside.calls.items) in
    let all : List (List ℕ) = reverse (map string_bytes c.push.new.self.items) in
    let more : all ≡ x ∷ calls = one-later c.self.inside.calls.items c.push.new.self.items c.args.identifier c.in_ok-push.ensures.items in
    let number : c.footnote-footnote.result.number ≡ footnote_number x calls = search rules in
    let times : c.footnote-footnote.result.calls ≡ times_called x calls = search rules in
    let same : string_bytes c.in_ok-key.key ≡ x = search rules in
    let none : footnotes_called (x ∷ calls) ≡ footnotes_called calls = later-after x calls (λ e. c.if-footnote-eq0.false (times ∙ e)) in (
      c.self.invariant.0 ∙ ap suc (sym none) ∙ ap (λ ys. suc (footnotes_called ys)) (sym more),
      λ q. known-set x (string_bytes c.in_ok-key.key) q calls all c.footnote-footnote.result.number c.footnote-footnote.result.calls _ _ same more number times
          (c.self.invariant.1 q)
          (btree_map_updates_text (string_bytes c.in_ok-key.key) c.self.inside.footnotes c.insert.new.self _ c.in-Ok.ensures.updates q),
    )
