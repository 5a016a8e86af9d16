use Rattle.std.proofs.Common.{◌≡◌, ◌∙◌, sym, ap, ◌+◌, arith, drop, None}
use Rattle.markdown_inline_c.specs.References.{character_ahead}
use Rattle.markdown_inline_c.proofs.Told.{past_others, past_sign}
use Rattle.markdown_inline_c.proofs.form.has_characters.Goals as goal

pub loop-at-init : goal.loop-at-init
loop-at-init c =
    let next = c.next_sign-at in
    record {
      within = next.ensures.high;
      none = past_others c.args.how c.args.bytes.now 0 next.result next.ensures.low next.ensures.high (λ i l. absurd (omega (arith, l))) next.ensures.others;
    }

pub loop-at-preserved : goal.loop-at-preserved
loop-at-preserved c =
    let how = c.args.how in
    let bytes = c.args.bytes.now in
    let at = c.loop-at.at in
    let next = c.next_sign-at-in-None in
    let here : character_ahead how (drop at bytes) ≡ None =
    sym (ap (character_ahead how) c.bytes_from.ensures) ∙ sym c.in_ok-character_ahead.ensures ∙ c.in-None.is in
    record {
      within = next.ensures.high;
      none = past_others how bytes (at + 1) next.result next.ensures.low next.ensures.high (past_sign how bytes at c.loop-at.invariant.none here) next.ensures.others;
    }
