-- From one of the two bytes to the next.
use Rattle.std.proofs.Common.{◌≡◌, ◌∙◌, ◌++◌, ◌∷◌, [], ◌<◌, ◌≤◌, false, length, sym, ap, arith}
use Rattle.std.proofs.lemmas.Bool.{ne_eqb}
use Rattle.markdown_notes.specs.TitleIndex.{title_bytes}
use Rattle.markdown_content.specs.Stretch.{past_stretch}
use Rattle.markdown_content.specs.Place.{Place, ahead_at}
use Rattle.markdown_notes.proofs.TitleIndexLemmas.{found-start, found-at, found-closer, found-escaped, found-free, found-all, found-rises, left-stop, left-escaped}
use Rattle.markdown_notes.proofs.title_index.TitleIndex.over.Goals as goal

pub loop-code-init : goal.loop-code-init
loop-code-init c =
    found-start c.args.cursor.now c.restart-place.result c.new-closers.result.items c.restart-place.ensures c.new-closers.ensures.items

pub loop-code-smaller-in-Continue-1 : goal.loop-code-smaller-in-Continue-1
loop-code-smaller-in-Continue-1 c = grind (arith, left-stop)

pub loop-code-preserved-in-Continue-1 : goal.loop-code-preserved-in-Continue-1
loop-code-preserved-in-Continue-1 c =
    let q : Place = c.seek.new.self in
    let at : q ≡ past_stretch title_bytes c.loop-code.place = c.seek.ensures.place ∙ ap (λ ms. past_stretch ms c.loop-code.place) c.title_bytes-stops.ensures in
    found-closer c.args.cursor.now.codes q c.consume.new.self c.in-Some.code c.loop-code.closers.items c.push.new.self.items (sym c.seek.ensures.code ∙ c.in-Some.is) c.if-code-eq41.true c.consume.ensures
    (c.in_ok-push.ensures.items ∙ ap (λ n. c.loop-code.closers.items ++ record { at = n; twice = c.closes_past_spacing-twice.result } ∷ []) c.passed-at.ensures ∙ ap (λ b. c.loop-code.closers.items ++ record { at = q.at; twice = b } ∷ []) c.closes_past_spacing-twice.ensures)
    (found-at c.args.cursor.now.codes c.loop-code.place q c.loop-code.closers.items at c.loop-code.invariant)

pub loop-code-smaller-then-code-eq92 : goal.loop-code-smaller-then-code-eq92
loop-code-smaller-then-code-eq92 c =
    let at : c.seek.new.self ≡ past_stretch title_bytes c.loop-code.place = c.seek.ensures.place ∙ ap (λ ms. past_stretch ms c.loop-code.place) c.title_bytes-stops.ensures in
    let less : length (ahead_at c.consume.new.self) < length (ahead_at c.loop-code.place) = left-stop c.loop-code.place c.seek.new.self c.consume.new.self c.in-Some.code at (sym c.seek.ensures.code ∙ c.in-Some.is) c.consume.ensures in
    let more : length (ahead_at c.pass_escaped.new.place) ≤ length (ahead_at c.consume.new.self) = left-escaped c.consume.new.self c.pass_escaped.new.place c.pass_escaped.ensures.passed c.pass_escaped.ensures.stays in
    omega (arith, less, more)

pub loop-code-preserved-then-code-eq92 : goal.loop-code-preserved-then-code-eq92
loop-code-preserved-then-code-eq92 c =
    let at : c.seek.new.self ≡ past_stretch title_bytes c.loop-code.place = c.seek.ensures.place ∙ ap (λ ms. past_stretch ms c.loop-code.place) c.title_bytes-stops.ensures in
    found-escaped c.args.cursor.now.codes c.seek.new.self c.consume.new.self c.pass_escaped.new.place c.in-Some.code c.loop-code.closers.items (sym c.seek.ensures.code ∙ c.in-Some.is) c.if-code-eq92.true c.consume.ensures c.pass_escaped.ensures.passed c.pass_escaped.ensures.stays
    (found-at c.args.cursor.now.codes c.loop-code.place c.seek.new.self c.loop-code.closers.items at c.loop-code.invariant)

pub loop-code-smaller : goal.loop-code-smaller
loop-code-smaller c = grind (arith, left-stop)

pub loop-code-preserved : goal.loop-code-preserved
loop-code-preserved c =
    let at : c.seek.new.self ≡ past_stretch title_bytes c.loop-code.place = c.seek.ensures.place ∙ ap (λ ms. past_stretch ms c.loop-code.place) c.title_bytes-stops.ensures in
    found-free c.args.cursor.now.codes c.seek.new.self c.consume.new.self c.in-Some.code c.loop-code.closers.items (sym c.seek.ensures.code ∙ c.in-Some.is) c.consume.ensures (ne_eqb c.in-Some.code 41 c.if-code-eq41.false) (ne_eqb c.in-Some.code 92 c.if-code-eq92.false)
    (found-at c.args.cursor.now.codes c.loop-code.place c.seek.new.self c.loop-code.closers.items at c.loop-code.invariant)

pub invariant_of-result : goal.invariant_of-result
invariant_of-result c =
    let at : c.seek.new.self ≡ past_stretch title_bytes c.loop-code.place = c.seek.ensures.place ∙ ap (λ ms. past_stretch ms c.loop-code.place) c.title_bytes-stops.ensures in
    found-rises c.args.cursor.now.codes c.loop-code.closers.items (found-all c.args.cursor.now.codes c.seek.new.self false c.loop-code.closers.items (sym c.seek.ensures.code ∙ c.in_default.is) (found-at c.args.cursor.now.codes c.loop-code.place c.seek.new.self c.loop-code.closers.items at c.loop-code.invariant))

pub returns : goal.returns
returns c =
    let at : c.seek.new.self ≡ past_stretch title_bytes c.loop-code.place = c.seek.ensures.place ∙ ap (λ ms. past_stretch ms c.loop-code.place) c.title_bytes-stops.ensures in
    found-all c.args.cursor.now.codes c.seek.new.self false c.loop-code.closers.items (sym c.seek.ensures.code ∙ c.in_default.is) (found-at c.args.cursor.now.codes c.loop-code.place c.seek.new.self c.loop-code.closers.items at c.loop-code.invariant)
