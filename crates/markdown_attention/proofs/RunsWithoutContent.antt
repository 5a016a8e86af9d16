-- The runs of events are the same whatever the codes of the content, unless the rules take what stands beside a run from the content.
use Rattle.std.proofs.Common.{◌≡◌, ◌∙◌, ap, refl, ℕ, suc, ◌+◌, ◌-◌, true, false, if◌then◌else◌, List, ◌∷◌, ◌++◌, length, slice_index_or, arith, []}
use Rattle.std.proofs.lemmas.Bool.{cases_Bool}
use Rattle.markdown_content.specs.Codes.{Code}
use Rattle.markdown_content.specs.CommonMark.{rules_of}
use Rattle.markdown_content.specs.declared.configuration.ParseOptions.{ParseOptions}
use Rattle.markdown_event.specs.declared.event.Event.{Event}
use Rattle.markdown_event.specs.declared.event.Point.{Point}
use Rattle.markdown_model.specs.Runs.{before_run, after_run, is_flanking, may_act}
use Rattle.markdown_attention.specs.RunsRead.{Container, event_around, text_around, opens_run, sequence_at, where_after, outermost, first_run, runs_from}
use Rattle.markdown_attention.specs.declared.attention.reading.Where.{Where}
use Rattle.markdown_attention.specs.declared.attention.runs.Sequence.{Sequence}

-- Where the rules take it from the document, for any codes of the content.

module _ (o : ParseOptions) (bytes : List ℕ) (c d : List Code) (off : (rules_of o).neighbours_in_content ≡ false) where
  same-before : (i : ℕ) → before_run o bytes c i ≡ before_run o bytes d i
  same-before i = grind arith

  same-after : (i : ℕ) → after_run o bytes c i ≡ after_run o bytes d i
  same-after i = grind arith

  same-sequence : (n i : ℕ) (k : Container) (from to : Point) → sequence_at o bytes c n i k from to ≡ sequence_at o bytes d n i k from to
  same-sequence n i k from to = λ j.
      let marker = slice_index_or bytes from.index 0 in
      let b = same-before from.index j in
      let a = same-after to.index j in
      let left = is_flanking o marker b a in
      let right = is_flanking o marker a b in
      record {
        number = n;
        event = i;
        container = event_around k;
        text = text_around k;
        marker = marker;
        size = to.index - from.index;
        remaining = to.index - from.index;
        may_open = may_act o marker b left right;
        may_close = may_act o marker a right left;
      }

  same-first : (n i : ℕ) (k : Container) (es : List Event) → first_run o bytes c n i k es ≡ first_run o bytes d n i k es
  same-first n i k [] = refl
  same-first n i k (e ∷ []) = refl
  same-first n i k (e ∷ x ∷ es) = ap (λ s. if opens_run e then s ∷ [] else []) (same-sequence n i k e.point x.point)

  same-from : (n i : ℕ) (w : Where) (es : List Event) → runs_from o bytes c n i w es ≡ runs_from o bytes d n i w es
  same-from n i w [] = refl
  same-from n i w (e ∷ es) =
      ap (λ first. first ++ runs_from o bytes c (n + length first) (suc i) (where_after i e w) es) (same-first n i w.container (e ∷ es))
      ∙ (let first : List Sequence = first_run o bytes d n i w.container (e ∷ es) in
      ap (λ rest. first ++ rest) (same-from (n + length first) (suc i) (where_after i e w) es))

-- For the codes of two contents that are the same wherever the rules ask for them.
pub same-runs : (o : ParseOptions) (bytes : List ℕ) (c d : List Code) (es : List Event) → ((rules_of o).neighbours_in_content ≡ true → c ≡ d) →
    runs_from o bytes c 0 0 outermost es ≡ runs_from o bytes d 0 0 outermost es
same-runs o bytes c d es same = grind (arith, cases_Bool, same-from)
