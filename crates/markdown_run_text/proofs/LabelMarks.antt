-- What a run leaves past the start of a label is a mark of a row; so is what it leaves past an end that makes one.
use Rattle.std.proofs.Common.{◌≡◌, ℕ, ◌==◌, ◌⊎◌, Bool, true, false, ◌&&◌, ◌||◌, not, List, [], ◌∷◌, ◌++◌, Option, None, Some, refl, sym, ap, subst, ◌∙◌, arith}
use Rattle.std.proofs.lemmas.Bool.{or_parts}
use Rattle.markdown_content.specs.Codes.{Code, is_line_ending}
use Rattle.markdown_engine.specs.Operations.{Op, ahead, done, scratched}
use Rattle.markdown_content.specs.Tree.{Forest, empty, leaf_then, group_then, leaf_codes, event_count}
use Rattle.markdown_engine.specs.TreeOps.{ops_of, IsSolid}
use Rattle.markdown_content.specs.declared.label_kind.LabelKind.{LabelKind}
use Rattle.markdown_engine.specs.declared.tokenizer.LabelStart as Kept
use Rattle.markdown_engine.specs.declared.tokenizer.Tokenizer.{Tokenizer}
use Rattle.markdown_engine.proofs.TreeEvents.{ops-past, ahead-past}
use Rattle.markdown_attention.proofs.AttentionTreeLabels.{quiet-run}
use Rattle.markdown_model.proofs.PlainTrees.{marks, quiet_after_label}
use Rattle.markdown_label.specs.LabelFields.{bars}
use Rattle.markdown_label.specs.LabelEnd.{outcome_by, end_reading, is_on}
use Rattle.markdown_model.specs.SingleConstructs.{outcome}
use Rattle.markdown_label.specs.LabelStarts.{kept_start, link_ops, link_ends, footnote_front, footnote_back, footnote_ends, image_front, image_back, image_ends}
use Rattle.markdown_label_names.specs.LabelSetting.{setting_in}
use Rattle.markdown_label.proofs.LabelEndLemmas.{cursor-before}
use Rattle.markdown_label.proofs.AfterLabelSound.{tails-are-sound}
use Rattle.markdown_model.specs.CodeTests.{is_value}
use Rattle.markdown_model.specs.Grammar.{Reading, ◌>>=◌, gives, one}
use Rattle.markdown_model.specs.LabelEnd.{is_footnote, link_kind, names_footnote}
use Rattle.markdown_model.specs.Passes.{start_tree}
use Rattle.markdown_model.specs.Setting.{Setting}
use Rattle.markdown_model.proofs.NoLinkInConstructs.{PassesValue, Yields, yields_bind, yields_gives, yields_passed, yields_either}
use Rattle.markdown_model.proofs.GrammarSteps.{switched-off}
use Rattle.markdown_run_text.specs.Row.{begins, past_mark, kinds_of, IsStartMarker, IsMade}
use Rattle.markdown_run_text.specs.RowTreeNames.{IsRunless}

-- Starts.

-- U is T past a start of this kind
pub record PastStart (kind : LabelKind) (marker rest : List Code) (T U : Tokenizer) : Type 0 where
  pub is : IsStartMarker kind marker
  pub left : U ≡ past_mark (begins kind marker) T
  pub whole : ahead T ≡ marker ++ rest
  pub after : ahead U ≡ rest

start-is : (kind : LabelKind) (marker : List Code) (ops : List Op) (size : ℕ) (rest : List Code) (T : Tokenizer) → IsSolid (start_tree kind marker) → ops ≡ ops_of (start_tree kind marker) → size ≡ event_count (start_tree kind marker) → ahead T ≡ leaf_codes (start_tree kind marker) ++ rest
    → kept_start kind size (done ops T) ≡ past_mark (begins kind marker) T
unfolding past_mark
start-is kind marker ops size rest T solid is count whole = grind (arith, ops-past)

start-ahead : (kind : LabelKind) (marker : List Code) (rest : List Code) (T : Tokenizer) →
    ahead T ≡ leaf_codes (start_tree kind marker) ++ rest → ahead (past_mark (begins kind marker) T) ≡ rest
unfolding past_mark scratched
start-ahead kind marker rest T whole = grind (arith, cursor-before, ahead-past)

past-start : (kind : LabelKind) (marker rest : List Code) (ops : List Op) (size : ℕ) (T U : Tokenizer) → IsStartMarker kind marker → IsSolid (start_tree kind marker) → ops ≡ ops_of (start_tree kind marker) → size ≡ event_count (start_tree kind marker)
    → ahead T ≡ leaf_codes (start_tree kind marker) ++ rest → ahead T ≡ marker ++ rest → U ≡ kept_start kind size (done ops T) → PastStart kind marker rest T U
past-start kind marker rest ops size T U is solid same count codes whole left = grind (arith, start-is kind marker ops size rest T, start-ahead kind marker rest T)

one-line : (c : Code) (v : ℕ) → c.value ≡ v → (v == 10) ≡ false → is_line_ending c ≡ false
one-line c v e k = ap (λ n. n == 10) e ∙ k

no-endings : (a b : Bool) → a ≡ false → b ≡ false → (a || (b || false)) ≡ false
no-endings a b e f = grind arith

pub link-past : (c : Code) (rest : List Code) (T U : Tokenizer) → ahead T ≡ c ∷ rest → c.value ≡ 91 →
    link_ends T true U → PastStart LabelKind.Link (c ∷ []) rest T U
link-past c rest T U whole v k = grind (arith, past-start LabelKind.Link (c ∷ []) rest link_ops 4 T U, one-line c 91)

pub footnote-past : (c d : Code) (rest : List Code) (T U : Tokenizer) → ahead T ≡ c ∷ d ∷ rest → c.value ≡ 91 →
    d.value ≡ 94 → footnote_ends T true U → PastStart LabelKind.GfmFootnote (c ∷ d ∷ []) rest T U
footnote-past c d rest T U whole v w k = grind (arith, past-start LabelKind.GfmFootnote (c ∷ d ∷ []) rest (footnote_front ++ footnote_back) 6 T U, no-endings, one-line c 91, one-line d 94)

pub image-past : (c d : Code) (rest : List Code) (T U : Tokenizer) → ahead T ≡ c ∷ d ∷ rest → c.value ≡ 33 →
    d.value ≡ 91 → image_ends T true U → PastStart LabelKind.Image (c ∷ d ∷ []) rest T U
image-past c d rest T U whole v w k = grind (arith, past-start LabelKind.Image (c ∷ d ∷ []) rest (image_front ++ image_back) 6 T U, no-endings, one-line c 33, one-line d 91)

-- Ends.

-- no run stands in what may follow a label
runless-quiet : (t : Forest) → marks false t ≡ false → IsRunless t
runless-quiet empty h = tt
runless-quiet (leaf_then name link cs rest) h = grind (arith, or_parts, quiet-run, runless-quiet rest)
runless-quiet (group_then name enter exit inside rest) h = grind (arith, or_parts, runless-quiet inside, runless-quiet rest)

-- a label of this kind, made of a start of another
abbrev IsOutcome : LabelKind → LabelKind × Forest → Type 0
IsOutcome start o = ((o.0 ≡ start) ⊎ (o.0 ≡ link_kind start)) × IsRunless o.1

call-kind : (start : LabelKind) (b : Bool) → is_footnote start && b ≡ true → LabelKind.GfmFootnote ≡ start
call-kind start b e = grind arith

outcome-is : (s : Setting) (start : LabelKind) (name : Option (List ℕ)) → Yields (IsOutcome start) (outcome s start name)
unfolding outcome
outcome-is s start name = grind (arith, yields_either, yields_bind, quiet_after_label s, yields_gives, runless-quiet, yields_passed, call-kind start (names_footnote s name), switched-off)

-- the outcome of an end is that of the last start
record IsOfLast (ls : List Kept.LabelStart) (r : List Code × (LabelKind × Forest)) : Type 0 where
  code : Code
  one : r.0 ≡ code ∷ []
  start : Kept.LabelStart
  before : List Kept.LabelStart
  waits : ls ≡ start ∷ before
  is : IsOutcome start.kind r.1

weaker : {A : Type 0} (P Q : A → Type 0) (a : Reading A) → ((x : A) → P x → Q x) → Yields P a → Yields Q a
weaker {A} P Q a f h = record { at = λ cs. by_answer (a cs) (h.at cs) }
  where
    by_answer : (o : Option (A × List Code)) → PassesValue P o → PassesValue Q o
    by_answer None k = tt
    by_answer (Some r) k = f r.0 k

by-start : (T : Tokenizer) (c : Code) (ls : List Kept.LabelStart) →
    Yields (λ o. IsOfLast ls (c ∷ [], o)) (outcome_by ls T (c ∷ []))
by-start T c [] = record { at = λ cs. tt }
by-start T c (l ∷ ls) = record {
  at = λ cs. (yields_passed _ (not (bars l)) _ (weaker (IsOutcome l.kind) (λ o. IsOfLast (l ∷ ls) (c ∷ [], o)) (outcome (setting_in T) l.kind _) (λ o k. record { code = c; one = refl; start = l; before = ls; waits = refl; is = k }) (outcome-is (setting_in T) l.kind _))).at cs;
}

one_yields : (p : Code → Bool) → Yields (λ xs. (c : Code) × (xs ≡ c ∷ [])) (one p)
unfolding one
one_yields p = grind arith

end-is : (T : Tokenizer) → Yields (λ r. IsOfLast T.tokenize_state.label_starts r) (end_reading T)
end-is T =
    yields_passed _ (is_on T) _ (yields_bind (λ xs. (c : Code) × (xs ≡ c ∷ [])) _ _ _ (one_yields (is_value 93)) λ back k.
    subst (λ xs. Yields (λ r. IsOfLast T.tokenize_state.label_starts r) (outcome_by T.tokenize_state.label_starts T xs >>= λ o. gives (xs, o))) (sym k.1)
    (yields_bind (λ o. IsOfLast T.tokenize_state.label_starts (k.0 ∷ [], o)) _ _ _ (by-start T k.0 T.tokenize_state.label_starts) λ o h. yields_gives _ _ h))

-- an end that makes a label is made of the last start that waits
pub end-made-of : (T : Tokenizer) (back : List Code) (kind : LabelKind) (tail : Forest) (rest : List Code) →
    end_reading T (ahead T) ≡ Some ((back, (kind, tail)), rest) → IsMade (kinds_of T) back kind tail
end-made-of T back kind tail rest e = grind (arith, end-is T, tails-are-sound T back kind tail rest)
