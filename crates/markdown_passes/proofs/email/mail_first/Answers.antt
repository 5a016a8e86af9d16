use Rattle.std.proofs.Common.{◌≡◌, ◌&&◌, ◌==◌, false, sym, ap, ◌∙◌, arith}
use Rattle.std.proofs.Math.Bool.{and-false}
use Rattle.std.proofs.lemmas.Bool.{ne_eqb}
use Rattle.markdown_passes.specs.MergedEvents.{opens_data}
use Rattle.markdown_passes.proofs.TrimEdits.{closes-first, next-within}
use Rattle.markdown_passes.proofs.EmailEditLemmas.{mail-unlinked, stretch-at, mailed-at, unsigned-at, other-at}
use Rattle.markdown_passes.proofs.email.mail_first.Goals as goal
use Rattle.markdown_passes.proofs.email.mail_first.Goals.{else-opens_data-via-then-opens_data+else-links-eq0, else-opens_data-via-else-opens_data}

pub overflow_add-index : goal.overflow_add-index
overflow_add-index c = omega (arith, c.requires.within, c.requires.counted)

pub bare_at-exit-requires : goal.bare_at-exit-requires
bare_at-exit-requires c =
    next-within c.args.bytes.now c.args.index c.args.events.now c.bare_at-enter.result (closes-first c.args.bytes.now c.args.index c.args.events.now c.bare_at-enter.result c.requires.within c.bare_at-enter.ensures.event (sym c.opens_data.ensures ∙ c.if-opens_data.true) c.requires.places)

pub has_sign-requires-clause-stretch : goal.has_sign-requires-clause-stretch
has_sign-requires-clause-stretch c =
    stretch-at c.args.bytes.now c.args.index c.args.links c.args.events.now c.bare_at-enter.result c.requires.within c.bare_at-enter.ensures.event c.bare_at-exit.result c.bare_at-exit.ensures.event (sym c.opens_data.ensures ∙ c.if-opens_data.true) c.requires.places

pub mailed_data-requires-clause-stretch : goal.mailed_data-requires-clause-stretch
mailed_data-requires-clause-stretch c =
    stretch-at c.args.bytes.now c.args.index c.args.links c.args.events.now c.bare_at-enter.result c.requires.within c.bare_at-enter.ensures.event c.bare_at-exit.result c.bare_at-exit.ensures.event (sym c.opens_data.ensures ∙ c.if-opens_data.true) c.requires.places

pub add-requires : goal.add-requires
add-requires c = mail-unlinked c.args.bytes.now _ _ _ c.in_ok-mailed.ensures

pub returns-in_ok-add : goal.returns-in_ok-add
returns-in_ok-add c =
    let none : c.args.links ≡ 0 = omega arith in
    mailed-at c.args.bytes.now c.args.index c.args.links c.args.events.now c.bare_at-enter.result c.requires.within c.bare_at-enter.ensures.event c.bare_at-exit.result c.in_ok-mailed.mailed.items c.args.map.now c.add.new.self c.bare_at-exit.ensures.event (sym c.opens_data.ensures ∙ c.if-opens_data.true) c.requires.places none (sym c.has_sign.ensures ∙ c.if-has_sign.true) c.in_ok-mailed.ensures c.in_ok-add.ensures.ok

pub returns-else-has_sign : goal.returns-else-has_sign
returns-else-has_sign c =
    unsigned-at c.args.bytes.now c.args.index c.args.links c.args.events.now c.bare_at-enter.result c.requires.within c.bare_at-enter.ensures.event c.bare_at-exit.result c.args.map.now c.bare_at-exit.ensures.event (sym c.opens_data.ensures ∙ c.if-opens_data.true) c.requires.places c.if-links-eq0.true (sym c.has_sign.ensures ∙ c.if-has_sign.false)

pub returns-else-opens_data : goal.returns-else-opens_data
returns-else-opens_data c =
    let enter = c.bare_at-enter.result in
    let none : (c.args.links == 0) && opens_data enter ≡ false =
    elim c.else-opens_data.branch [
      | else-opens_data-via-then-opens_data+else-links-eq0 w ↦ ap (λ b. b && opens_data enter) (ne_eqb c.args.links 0 w.if-links-eq0.false)
      | else-opens_data-via-else-opens_data w ↦ ap (λ b. (c.args.links == 0) && b) (sym c.opens_data.ensures ∙ w.if-opens_data.false) ∙ and-false (c.args.links == 0)
    ] in
    other-at c.args.bytes.now c.args.index c.args.links c.args.events.now enter c.requires.within c.bare_at-enter.ensures.event c.args.map.now none
