-- One sequence shows at the code, and the others do not.
use Rattle.std.proofs.Common.{◌≡◌, ◌||◌, ◌==◌, cond, false, inl, inr, Some, ap, refl, sym, ◌∙◌, arith}
use Rattle.std.specs.List.{list_any}
use Rattle.std.proofs.lemmas.Bool.{ne_eqb, or_from, or_parts}
use Rattle.std.proofs.lemmas.Bool.Decides.{nat_tests}
use Rattle.markdown_notes.specs.SequenceIndex.{stop_bytes}
use Rattle.markdown_notes.specs.declared.sequence_index.Sequence.TheVariants.{CommentEnd, SectionEnd, InstructionEnd, DeclarationEnd, ResourceEnd, WwwDot, SpanMark}
use Rattle.markdown_notes.proofs.SequenceIndexLemmas.{next-is, none-shows, span-here, told, unmoved}
use Rattle.markdown_notes.proofs.sequence_index.found_at.Goals as goal

pub returns-in-45 : goal.returns-in-45
returns-in-45 c CommentEnd = told _ _ _ _ _ _ c.at_or-last.ensures c.stand_next.ensures c.passed-at.ensures
returns-in-45 c s = unmoved s c.args.place.now 45 c.args.last (c.requires ∙ ap (λ n. Some n) c.in-45.is) refl

pub returns-in-93 : goal.returns-in-93
returns-in-93 c SectionEnd = told _ _ _ _ _ _ c.at_or-last-in-93.ensures c.stand_next-in-93.ensures c.passed-at.ensures
returns-in-93 c s = unmoved s c.args.place.now 93 c.args.last (c.requires ∙ ap (λ n. Some n) c.in-93.is) refl

pub returns-in-63 : goal.returns-in-63
returns-in-63 c InstructionEnd = told _ _ _ _ _ _ c.at_or-last-in-63.ensures c.stand_next-in-63.ensures c.passed-at.ensures
returns-in-63 c s = unmoved s c.args.place.now 63 c.args.last (c.requires ∙ ap (λ n. Some n) c.in-63.is) refl

pub returns-in-62 : goal.returns-in-62
returns-in-62 c DeclarationEnd =
    ap (λ n. Some n) c.passed-at.ensures ∙ ap (λ b. cond b (Some c.args.place.now.at) c.args.last.declaration_end) (sym (next-is 62 c.args.place.now (c.requires ∙ ap (λ n. Some n) c.in-62.is)))
returns-in-62 c s = unmoved s c.args.place.now 62 c.args.last (c.requires ∙ ap (λ n. Some n) c.in-62.is) refl

pub returns-in-41 : goal.returns-in-41
returns-in-41 c ResourceEnd = told _ _ _ _ _ _ c.at_or-last-in-41.ensures c.closes_twice.ensures c.passed-at.ensures
returns-in-41 c s = unmoved s c.args.place.now 41 c.args.last (c.requires ∙ ap (λ n. Some n) c.in-41.is) refl

pub returns-in-46 : goal.returns-in-46
returns-in-46 c WwwDot = c.before_dot-last.ensures
returns-in-46 c s = unmoved s c.args.place.now 46 c.args.last (c.requires ∙ ap (λ n. Some n) c.in-46.is) refl

pub returns-in-96 : goal.returns-in-96
returns-in-96 c SpanMark =
    ap (λ n. Some n) c.passed-at.ensures ∙ ap (λ b. cond b (Some c.args.place.now.at) c.args.last.span_mark) (sym (span-here c.args.place.now c.args.code c.requires c.in-96.is))
returns-in-96 c s = elim c.in-96.is [
  | inl e ↦ unmoved s c.args.place.now 36 c.args.last (c.requires ∙ ap (λ n. Some n) e) refl
  | inr e ↦ unmoved s c.args.place.now 96 c.args.last (c.requires ∙ ap (λ n. Some n) e) refl
]

not-span : (c : goal.In_default) → (c.args.code == 96 || c.args.code == 36) ≡ false
not-span c = grind (arith, nat_tests)

-- the code is none of those at which the walk stops
free : (c : goal.In_default) → list_any (λ n. c.args.code == n) stop_bytes ≡ false
free c = grind (arith, or_parts, not-span, or_from, ne_eqb)

pub returns-in_default : goal.returns-in_default
returns-in_default c s = unmoved s c.args.place.now c.args.code c.args.last c.requires (none-shows s c.args.code (free c))
