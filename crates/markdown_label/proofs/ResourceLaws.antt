-- The laws of the states of a resource.
use Rattle.std.proofs.Common.{◌≡◌, ℕ, ◌+◌, ◌<◌, ◌==◌, Bool, true, false, ◌||◌, Option, Some, None, List, [], ◌∷◌, ◌++◌, length, refl, sym, ap, subst, ◌∙◌, arith, append_assoc}
use Rattle.std.proofs.lemmas.Bool.{or_parts}
use Rattle.markdown_content.specs.Codes.{Code, is_blank, is_line_ending}
use Rattle.markdown_engine.specs.FailedRun.{Grown}
use Rattle.markdown_content.specs.ListFunctions.{rest_of}
use Rattle.markdown_engine.specs.Operations.{Exit, ahead, applied, current_of, frame_of, scratched}
use Rattle.markdown_engine.specs.PastTree.{TreeReading, Reads, Refuses, past, last_link, behind}
use Rattle.markdown_engine.specs.StateRuns.{restored}
use Rattle.markdown_notes.specs.SequenceIndex.{KnowsLastBegins, last_begins}
use Rattle.markdown_engine.specs.StateWords.{Words, Law, GoesIn}
use Rattle.markdown_notes.specs.TitleIndex as Titles
use Rattle.markdown_content.specs.Tree.{Forest, empty, leaf_then, group_then, ◌⊕◌, leaf_codes, event_count}
use Rattle.markdown_engine.specs.Weights.{weight_at}
use Rattle.markdown_event.specs.declared.event.Name.{Name}
use Rattle.markdown_event.specs.declared.event.Name.TheVariants as N
use Rattle.markdown_event.specs.declared.state.State.{State}
use Rattle.markdown_event.specs.declared.state.State.TheVariants.{Next, Retry}
use Rattle.markdown_event.specs.declared.state.StateName.{StateName}
use Rattle.markdown_event.specs.declared.state.StateName.TheVariants.{LabelEndResourceOpen, SpaceOrTabEolStart}
use Rattle.markdown_engine.specs.declared.tokenizer.TokenizeState.{TokenizeState}
use Rattle.markdown_engine.specs.declared.tokenizer.Tokenizer.{Tokenizer}
use Rattle.markdown_engine.proofs.ReadingSequences.{left-read, scratched-same}
use Rattle.markdown_engine.proofs.LawSteps.{if-step, restored-fails}
use Rattle.markdown_engine.proofs.OperationFields.{BeginsWithValue, ahead-none, ahead-some, attempts-scratched, left-scratched}
use Rattle.markdown_engine.proofs.OperationLemmas.{Grown-scratched}
use Rattle.markdown_engine.proofs.TreeEvents.{Grown-past, past-past}
use Rattle.markdown_content.proofs.TreeCodes.{leaf_codes-row}
use Rattle.markdown_model.specs.CodeTests.{is_value, next_is}
use Rattle.markdown_model.specs.Whitespace.{space_or_tab_eol, spaces_across, spaces_on_line}
use Rattle.markdown_model.specs.TextLines.{linked_leaf}
use Rattle.markdown_model.proofs.NoLinkInConstructs.{PassesValue, Yields, yields_either, yields_gives, then_any}
use Rattle.markdown_model.proofs.GrammarSteps.{if-false}
use Rattle.markdown_plan.specs.LayerEquation.{EqualsLayer}
use Rattle.markdown_plan.proofs.LawStepsOfLayer.{FollowsIn, follows, Goes-attempt, Goes-plain}
use Rattle.markdown_partial.specs.PartialSpaceOrTabEol.{WhitespaceAtRest, eol_asked, at_ending}
use Rattle.markdown_partial.proofs.WhitespaceAttempts.{eol-asked-ready, eol-asked-ends}
use Rattle.markdown_partial.proofs.WhitespaceReadings.{spacing-none}
use Rattle.markdown_label.specs.AfterLabelParts.{PartReady, rested}
use Rattle.markdown_label.proofs.NextCodeTests.{same-codes}
use Rattle.markdown_label.specs.Resource.{at_space, at_close, spaced, or_without, opened, inside, asks_both, InReady, RowEnds, before_ends, open_ends, before_words, states_and_called}

-- Rows.

-- no leaf of the row itself is linked
abbrev pub NoLinks : Forest → Type 0
NoLinks empty = Unit {0}
NoLinks (leaf_then n link cs rest) = (link ≡ None) × NoLinks rest
NoLinks (group_then n a b i rest) = NoLinks rest

unlinked : (n : ℕ) (t : Forest) → NoLinks t → last_link n None t ≡ None
unlinked n empty h = refl
unlinked n (leaf_then name None cs rest) h = unlinked (n + 2) rest h.1
unlinked n (leaf_then name (Some c) cs rest) h = cc
unlinked n (group_then name a b i rest) h = unlinked (n + 2 + event_count i) rest h

pub past-then : (t u : Forest) (s1 s2 : TokenizeState) (T U : Tokenizer) → NoLinks t →
    U ≡ past None t (scratched s1 T) → past None u (scratched s2 U) ≡ past None (t ⊕ u) (scratched s2 T)
unfolding past scratched
past-then t u s1 s2 T U none e =
    ap (λ (x : Tokenizer). past None u (scratched s2 x)) e
    ∙ ap (λ q. past q u (past None t (scratched s2 T))) (sym (unlinked (length T.events) t none))
    ∙ past-past None t u (scratched s2 T)

-- a part is read, and then the rest of the row
pub row-then : (r1 r2 : TreeReading) (t : Forest) (s1 s2 : TokenizeState) (T U : Tokenizer) → NoLinks t →
    U ≡ past None t (scratched s1 T) → ahead T ≡ leaf_codes t ++ ahead U → r1 (ahead T) ≡ behind t (r2 (ahead U)) →
    (ok : Bool) (V : Tokenizer) → RowEnds r2 s2 U ok V → RowEnds r1 s2 T ok V
row-then r1 r2 t s1 s2 T U none e w h true V k =
    record {
      tree = t ⊕ k.tree;
      rest = k.rest;
      holds = h ∙ ap (behind t) k.holds;
      left = k.left ∙ ap (applied (Exit N.Resource)) (past-then t k.tree s1 s2 T U none e);
      whole = w ∙ ap (λ x. leaf_codes t ++ x) k.whole ∙ sym (append_assoc (leaf_codes t) (leaf_codes k.tree) k.rest) ∙ ap (λ x. x ++ k.rest) (sym (leaf_codes-row t k.tree));
      after = k.after;
    }
row-then r1 r2 t s1 s2 T U none e w h false V k =
    record {
      refused = h ∙ ap (behind t) k.refused;
      grown = Grown-scratched 1 s1 T V (Grown-past 1 None t (scratched s1 T) V (subst (λ (x : Tokenizer). Grown 1 x V) e k.grown));
      scratch = k.scratch;
    }

pub row-scratched : (r : TreeReading) (s q : TokenizeState) (T : Tokenizer) (ok : Bool) (V : Tokenizer) →
    RowEnds r s (scratched q T) ok V → RowEnds r s T ok V
unfolding scratched
row-scratched r s q T true V k =
    record { tree = k.tree; rest = k.rest; holds = k.holds; left = k.left; whole = k.whole; after = k.after }
row-scratched r s q T false V k =
    record { refused = k.refused; grown = Grown-scratched 1 q T V k.grown; scratch = k.scratch }

pub row-same : (r1 r2 : TreeReading) (s : TokenizeState) (T : Tokenizer) → r1 (ahead T) ≡ r2 (ahead T) →
    (ok : Bool) (V : Tokenizer) → RowEnds r1 s T ok V → RowEnds r2 s T ok V
row-same r1 r2 s T e true V k =
    record { tree = k.tree; rest = k.rest; holds = sym e ∙ k.holds; left = k.left; whole = k.whole; after = k.after }
row-same r1 r2 s T e false V k = record { refused = sym e ∙ k.refused; grown = k.grown; scratch = k.scratch }

-- The next code.

-- no whitespace begins where none of its codes stands
no-ending : (cs : List Code) → next_is is_line_ending cs ≡ false → at_ending None false cs ≡ None
no-ending [] e = refl
no-ending (c ∷ cs) e = if-false _ _ _ e

pub no-space : (T : Tokenizer) (o : Option ℕ) → current_of T ≡ o → at_space o ≡ false →
    space_or_tab_eol None (ahead T) ≡ None
no-space T None e h =
    let none : ahead T ≡ [] = ahead-none T e in
    spacing-none None (ahead T) (ap (next_is is_blank) none) ∙ no-ending (ahead T) (ap (next_is is_line_ending) none)
no-space T (Some v) e h =
    let b : BeginsWithValue v (ahead T) = ahead-some T v e in
    let tab = or_parts (v == 9) (v == 10 || v == 32) h in
    let rest = or_parts (v == 10) (v == 32) tab.1 in
    spacing-none None (ahead T) (ap (next_is is_blank) b.whole ∙ ap (λ x. x == 32 || x == 9) b.value ∙ (λ i. rest.1 i || tab.0 i))
    ∙ no-ending (ahead T) (ap (next_is is_line_ending) b.whole ∙ ap (λ x. x == 10) b.value ∙ rest.0)

pub closes-here : (T : Tokenizer) (o : Option ℕ) → current_of T ≡ o → at_close o ≡ next_is (is_value 41) (ahead T)
closes-here T None e = sym (ap (next_is (is_value 41)) (ahead-none T e))
closes-here T (Some v) e =
    let b : BeginsWithValue v (ahead T) = ahead-some T v e in sym (ap (next_is (is_value 41)) b.whole ∙ ap (λ x. x == 41) b.value)

-- Past a part with the fields as before.

pub fields-read : (r : TreeReading) (T U : Tokenizer) → (k : Reads r None T.tokenize_state T U) →
    U.tokenize_state ≡ T.tokenize_state
unfolding past scratched
fields-read r T U k = ap (λ (x : Tokenizer). x.tokenize_state) k.left

pub asks-read : (r : TreeReading) (T U : Tokenizer) → (k : Reads r None T.tokenize_state T U) → asks_both U ≡ asks_both T
unfolding past scratched
asks-read r T U k = ap asks_both k.left

stack-read : (r : TreeReading) (T U : Tokenizer) → (k : Reads r None T.tokenize_state T U) → U.stack ≡ T.stack
unfolding past scratched
stack-read r T U k = ap (λ (x : Tokenizer). x.stack) k.left

-- what is known of sequences is right for a tokenizer with the same codes, of which as much is known
pub indexed-same : (T U : Tokenizer) → U.cursor.codes ≡ T.cursor.codes →
    U.tokenize_state.sequences ≡ T.tokenize_state.sequences → KnowsLastBegins T.cursor.codes T.tokenize_state.sequences →
    KnowsLastBegins U.cursor.codes U.tokenize_state.sequences
indexed-same T U codes same right last known = right last (sym same ∙ known) ∙ ap last_begins (sym codes)

-- and so is what is known of the ends of titles
pub titled-same : (T U : Tokenizer) → U.cursor.codes ≡ T.cursor.codes →
    U.tokenize_state.titles ≡ T.tokenize_state.titles → Titles.KnowsClosers T.cursor.codes T.tokenize_state.titles →
    Titles.KnowsClosers U.cursor.codes U.tokenize_state.titles
titled-same T U codes same right closers known = right closers (sym same ∙ known) ∙ ap Titles.closers_of (sym codes)

pub codes-read : (r : TreeReading) (s : TokenizeState) (T U : Tokenizer) → (k : Reads r None s T U) →
    U.cursor.codes ≡ T.cursor.codes
unfolding past scratched
codes-read r s T U k = ap (λ (x : Tokenizer). x.cursor.codes) k.left ∙ same-codes (leaf_codes k.tree) T.cursor

pub part-read : (r : TreeReading) (T U : Tokenizer) → Reads r None T.tokenize_state T U → PartReady T → PartReady U
part-read r T U k p =
    let same : U.tokenize_state ≡ T.tokenize_state = fields-read r T U k in
    record {
      short = omega (arith, left-read r None T.tokenize_state T U k, p.short);
      indexed = indexed-same T U (codes-read r T.tokenize_state T U k) (ap (λ (s : TokenizeState). s.sequences) same) p.indexed;
      titled = titled-same T U (codes-read r T.tokenize_state T U k) (ap (λ (s : TokenizeState). s.titles) same) p.titled;
      spaces = subst WhitespaceAtRest (sym same) p.spaces;
      rest = subst (λ (s : TokenizeState). rested s ≡ s) (sym same) p.rest;
    }

pub in-read : (r : TreeReading) (T U : Tokenizer) → Reads r None T.tokenize_state T U → InReady T → InReady U
in-read r T U k p =
    record { part = part-read r T U k p.part; whole = subst (λ ns. ns ≡ N.Resource ∷ rest_of ns) (sym (stack-read r T U k)) p.whole }

-- whitespace by itself is not linked

leaf-unlinked : (name : Name) (cs : List Code) → NoLinks (linked_leaf name None cs)
leaf-unlinked name [] = tt
leaf-unlinked name (c ∷ cs) = (refl, tt)

row-unlinked : (t u : Forest) → NoLinks t → NoLinks u → NoLinks (t ⊕ u)
row-unlinked empty u h k = k
row-unlinked (leaf_then n link cs rest) u h k = (h.0, row-unlinked rest u h.1 k)
row-unlinked (group_then n a b i rest) u h k = row-unlinked rest u h k

spacing-yields : Yields NoLinks (space_or_tab_eol None)
unfolding space_or_tab_eol spaces_across spaces_on_line
spacing-yields =
    yields_either _ _ _
    (then_any _ _ _ λ front. then_any _ _ _ λ ending. then_any _ _ _ λ back. yields_gives _ _
    (row-unlinked (linked_leaf N.SpaceOrTab None front) _ (leaf-unlinked N.SpaceOrTab front) (row-unlinked (linked_leaf N.LineEnding None ending) _ (leaf-unlinked N.LineEnding ending) (leaf-unlinked N.SpaceOrTab back))))
    (then_any _ _ _ λ blank. yields_gives _ _ (leaf-unlinked N.SpaceOrTab blank))

pub spacing-unlinked : (cs : List Code) (t : Forest) (rest : List Code) → space_or_tab_eol None cs ≡ Some (t, rest) →
    NoLinks t
spacing-unlinked cs t rest e = subst (λ o. PassesValue NoLinks o) e (spacing-yields.at cs)

same-frame : (r : Bool) (ok nok : State) (s : TokenizeState) (T : Tokenizer) →
    frame_of r ok nok (scratched s T) ≡ frame_of r ok nok T
unfolding frame_of scratched
same-frame r ok nok s T = refl

module _ (W : Words) (within : EqualsLayer states_and_called W) where
  -- whitespace is tried
  pub spaced-law : (n : ℕ) (End : Bool → Tokenizer → Type 0) (ok nok : StateName) (T : Tokenizer) → T.attempts ≡ [] → PartReady T → weight_at 8 T < n
      → ((U : Tokenizer) → Reads (space_or_tab_eol None) None T.tokenize_state T U → FollowsIn W n End (Next ok) U)
      → (space_or_tab_eol None (ahead T) ≡ None → FollowsIn W n End (Next nok) T)
      → GoesIn W n End (spaced ok nok T)
  spaced-law n End ok nok T alone p room some none =
      let s : TokenizeState = eol_asked false None T.tokenize_state in
      let M : Tokenizer = scratched s T in
      Goes-attempt W n End (Retry SpaceOrTabEolStart) (within SpaceOrTabEolStart) (Next ok) (Next nok) M (attempts-scratched s T ∙ alone)
      (eol-asked-ready false None T p.short p.spaces (λ e. cc) (λ e. cc) (λ e. refl))
      (omega (arith, left-scratched s T, room))
      (λ U now h. some U (eol-asked-ends false None T p.spaces true U h))
      (λ U now h.
      let k : Refuses (space_or_tab_eol None) T.tokenize_state T U = eol-asked-ends false None T p.spaces false U h in
      subst (λ (x : Tokenizer). FollowsIn W n End (Next nok) x) (sym (ap (λ f. restored f U) (same-frame false (Next ok) (Next nok) s T) ∙ restored-fails false (Next ok) (Next nok) T.tokenize_state T U k.fails ∙ scratched-same T)) (none k.refused))

  -- behind the opening marker
  before-open : (T U : Tokenizer) → InReady T → Reads (space_or_tab_eol None) None T.tokenize_state T U →
      FollowsIn W (weight_at 15 T) (before_ends T) (Next LabelEndResourceOpen) U
  before-open T U p k =
      follows W (weight_at 15 T) (before_ends T) (Next LabelEndResourceOpen) (within LabelEndResourceOpen) U (in-read (space_or_tab_eol None) T U k p) (omega (arith, left-read (space_or_tab_eol None) None T.tokenize_state T U k))
      (λ ok V h.
      row-then (inside (asks_both T)) (opened (asks_both T)) k.tree T.tokenize_state T.tokenize_state T U (spacing-unlinked (ahead T) k.tree k.rest k.holds) k.left (k.whole ∙ ap (λ xs. leaf_codes k.tree ++ xs) (sym k.after))
      (ap (λ o. or_without o (opened (asks_both T)) (ahead T)) k.holds ∙ ap (λ xs. behind k.tree (opened (asks_both T) xs)) (sym k.after)) ok V
      (subst (λ (s : TokenizeState). RowEnds (opened (asks_both T)) s U ok V) (fields-read (space_or_tab_eol None) T U k)
      (subst (λ b. RowEnds (opened b) U.tokenize_state U ok V) (asks-read (space_or_tab_eol None) T U k) h)))

  -- where no whitespace stands
  open-closed : (T : Tokenizer) → space_or_tab_eol None (ahead T) ≡ None → (ok : Bool) (V : Tokenizer) →
      open_ends T ok V → before_ends T ok V
  open-closed T none ok V h =
      row-same (opened (asks_both T)) (inside (asks_both T)) T.tokenize_state T (sym (ap (λ o. or_without o (opened (asks_both T)) (ahead T)) none)) ok V h

  pub before-law : Law W before_words
  before-law T alone p =
      if-step (GoesIn W (weight_at 15 T) (before_ends T)) (at_space (current_of T)) _ _
      (λ h. spaced-law (weight_at 15 T) (before_ends T) LabelEndResourceOpen LabelEndResourceOpen T alone p.part (omega arith) (λ U k. before-open T U p k)
      (λ none. follows W (weight_at 15 T) (before_ends T) (Next LabelEndResourceOpen) (within LabelEndResourceOpen) T p (omega arith) (open-closed T none)))
      (λ h. Goes-plain W (weight_at 15 T) (before_ends T) (Retry LabelEndResourceOpen) (within LabelEndResourceOpen) T alone p (omega arith) (open-closed T (no-space T (current_of T) refl h)))
