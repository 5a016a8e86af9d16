-- Those between are those before the one index, without those before the other.
use Rattle.std.proofs.Common.{◌≡◌, ◌∙◌, ◌+◌, ◌-◌, ◌&&◌, ℕ, Bool, nat_le, nat_lt, ap, arith}
use Rattle.std.specs.List.{count_by}
use Rattle.markdown_notes.specs.BracketIndex.{BracketPlaces, counted}
use Rattle.markdown_notes.proofs.BracketIndexLemmas.{count-between, counted-known}
use Rattle.markdown_notes.proofs.bracket_index.BracketIndex.between.Goals as goal

pub overflow_sub-result : goal.overflow_sub-result
overflow_sub-result c =
    omega (arith, count-between c.args.from c.args.to c.first_from-then-to-self.result c.first_from.result c.as_slice-places.result.now c.if-from-to.true c.first_from-then-to-self.ensures.within c.first_from.ensures.within c.first_from-then-to-self.ensures.point c.first_from.ensures.point)

pub returns-then-to-self : goal.returns-then-to-self
returns-then-to-self c =
    let test : ℕ → Bool = λ p. nat_le c.args.from p && nat_lt p c.args.to in
    let sum : c.first_from.result ≡ count_by test c.as_slice-places.result.now + c.first_from-then-to-self.result =
    count-between c.args.from c.args.to c.first_from-then-to-self.result c.first_from.result c.as_slice-places.result.now c.if-from-to.true c.first_from-then-to-self.ensures.within c.first_from.ensures.within c.first_from-then-to-self.ensures.point c.first_from.ensures.point in
    let less : c.first_from.result - c.first_from-then-to-self.result ≡ count_by test c.as_slice-places.result.now = omega (arith, sum) in
    counted-known (record { start = c.self.inside.start; end = c.self.inside.end; places = c.self.inside.places.items }) c.args.from c.args.to (c.first_from.result - c.first_from-then-to-self.result)
    c.if-self-from.true c.if-from-to.true c.if-to-self.true (less ∙ ap (count_by test) c.as_slice-places.ensures.value)
    ∙ ap (λ (b : BracketPlaces). counted b c.args.from c.args.to) c.self.view_is
