use Rattle.std.proofs.Common.{◌≡◌, ◌∙◌, sym, ℕ, ◌≤◌, ◌⊎◌, inl, inr, arith}
use Rattle.markdown_util.proofs.NumberValues.{number_read, replaced_out, character_kept, character_replaced}
use Rattle.markdown_util.proofs.decoding.decode_numeric.Goals as goal
use Rattle.markdown_util.proofs.decoding.decode_numeric.Goals.{in_default-via-in-Some+else-not-is_replaced, in_default-via-in_default}

low : (radix : ℕ) → (radix ≡ 10) ⊎ (radix ≡ 16) → radix ≤ 36
low radix (inl e) = omega arith
low radix (inr e) = omega arith

pub returns-in-Some : goal.returns-in-Some
returns-in-Some c =
    let read = number_read c.args.radix c.args.value.now _ _ (low _ c.requires.radix) c.requires.number c.from_str_radix.ensures.value c.unwrap-number.ensures in
    character_kept _ _ (c.in-Some.ensures.value.1 ∙ read) (sym c.is_replaced.ensures ∙ c.if-not-is_replaced.true)

pub returns-in_default : goal.returns-in_default
returns-in_default c =
    let read = number_read c.args.radix c.args.value.now _ _ (low _ c.requires.radix) c.requires.number c.from_str_radix.ensures.value c.unwrap-number.ensures in
    elim c.in_default.branch [
      | in_default-via-in-Some+else-not-is_replaced w ↦
          character_replaced w.in-Some.c _ (w.in-Some.ensures.value.1 ∙ read) (sym w.is_replaced.ensures ∙ w.if-not-is_replaced.false)
      | in_default-via-in_default w ↦ character_replaced _ _ read (replaced_out _ w.in_default.ensures.cases)
    ]
