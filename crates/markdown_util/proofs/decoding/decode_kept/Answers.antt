use Rattle.std.proofs.Common.{◌≡◌, ◌∙◌, sym, subst, ℕ, ◌≤◌, ◌⊎◌, inl, inr, arith}
use Rattle.std.specs.Char.{InScalarRange, OutOfScalarRange}
use Rattle.markdown_util.proofs.NumberValues.{number_read, character_stays, no_character_stays, null_replaced}
use Rattle.markdown_util.proofs.decoding.decode_kept.Goals as goal
use Rattle.markdown_util.proofs.decoding.decode_kept.Goals.{in_default-via-in-Some+else-not-is_null, in_default-via-in_default}

low : (radix : ℕ) → (radix ≡ 10) ⊎ (radix ≡ 16) → radix ≤ 36
low radix (inl e) = omega arith
low radix (inr e) = omega arith

pub returns-in-Some : goal.returns-in-Some
returns-in-Some c =
    let read = number_read c.args.radix c.args.value.now _ _ (low _ c.requires.radix) c.requires.number c.from_str_radix.ensures.value c.unwrap-number.ensures in
    character_stays _ _ (c.in-Some.ensures.value.1 ∙ read) (subst InScalarRange read c.in-Some.ensures.cases) (sym c.is_null.ensures ∙ c.if-not-is_null.true)

pub returns-in_default : goal.returns-in_default
returns-in_default c =
    let read = number_read c.args.radix c.args.value.now _ _ (low _ c.requires.radix) c.requires.number c.from_str_radix.ensures.value c.unwrap-number.ensures in
    elim c.in_default.branch [
      | in_default-via-in-Some+else-not-is_null w ↦
          null_replaced w.in-Some.c _ (w.in-Some.ensures.value.1 ∙ read) (sym w.is_null.ensures ∙ w.if-not-is_null.false)
      | in_default-via-in_default w ↦ no_character_stays _ (subst OutOfScalarRange read w.in_default.ensures.cases)
    ]
