use Rattle.std.proofs.Common.{◌≡◌, sym, ◌∙◌, ℕ, List, Option, Some, None, Bor, inl, inr, refl, lit<}
use Rattle.std.specs.Option.{option_or}
use Rattle.markdown_util.proofs.StripPrefix.{strip_prefix-none, strip_prefix-some}
use Rattle.markdown_util.proofs.decoding.marker_of.Goals as goal

neither : (r s : Option (Bor (List ℕ))) → option_or r s ≡ None → (r ≡ None) × (s ≡ None)
neither None s e = (refl, e)
neither (Some x) s e = cc

pub returns-in_default : goal.returns-in_default
returns-in_default c =
    let after = c.args.after.now in
    inl (refl, refl, strip_prefix-none 35 after c.strip_prefix.result (lit< tt) c.strip_prefix.ensures.cases c.in_default.is)

pub returns-in-None : goal.returns-in-None
returns-in-None c =
    let after = c.args.after.now in
    let number = c.in-Some.number.now in
    let off = neither c.strip_prefix-2.result c.strip_prefix-3.result (sym c.or.ensures ∙ c.in-None.is) in
    inr (inl (
      refl,
      strip_prefix-some 35 after c.strip_prefix.result c.in-Some.number (lit< tt) c.strip_prefix.ensures.cases c.in-Some.is,
      strip_prefix-none 120 number c.strip_prefix-2.result (lit< tt) c.strip_prefix-2.ensures.cases off.0,
      strip_prefix-none 88 number c.strip_prefix-3.result (lit< tt) c.strip_prefix-3.ensures.cases off.1,
    ))
