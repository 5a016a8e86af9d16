-- What a row leaves of a tokenizer beside its events and its labels.
use Rattle.std.proofs.Common.{◌≡◌, ℕ, Bool, true, false, ◌||◌, if◌then◌else◌, List, [], ◌∷◌, ◌++◌, map, refl, sym, ap, subst, ◌∙◌, append_assoc, append-nil, arith}
use Rattle.markdown_content.specs.Codes.{Code}
use Rattle.markdown_engine.specs.Operations.{registered_before, is_registered, scratched}
use Rattle.markdown_engine.specs.PastTree.{moved_by, past}
use Rattle.markdown_content.specs.Place.{Place}
use Rattle.markdown_content.specs.Tree.{Forest, leaf, leaf_codes}
use Rattle.markdown_event.specs.declared.event.Event.{Event}
use Rattle.markdown_event.specs.declared.event.Name.TheVariants as N
use Rattle.markdown_event.specs.declared.resolve.ResolveName.{ResolveName}
use Rattle.markdown_event.specs.declared.resolve.ResolveName.TheVariants as R
use Rattle.markdown_content.specs.declared.label_kind.LabelKind.{LabelKind}
use Rattle.markdown_engine.specs.declared.tokenizer.LabelStart.{LabelStart}
use Rattle.markdown_engine.specs.declared.tokenizer.TokenizeState.{TokenizeState}
use Rattle.markdown_engine.specs.declared.tokenizer.Tokenizer.{Tokenizer}
use Rattle.markdown_engine.proofs.PlaceAfterCodes.{moved_by-append}
use Rattle.markdown_attention.specs.RunsOfTree.{has_run}
use Rattle.markdown_label.specs.LabelFields.{with_kind, as_link, marked, labelled, loosened}
use Rattle.markdown_label.specs.LabelEnd.{end_tree, ended_at, starts_set, made, end_made, lost_by}
use Rattle.markdown_label.proofs.LabelEndLemmas.{scratch-before, input-before, cursor-before}
use Rattle.markdown_label.proofs.NextCodeTests.{same-codes}
use Rattle.markdown_label.specs.LabelsHandedOver.{unlabelled}
use Rattle.markdown_content.specs.ListFunctions.{rest_of}
use Rattle.markdown_model.specs.Passes.{start_tree}
use Rattle.markdown_model.proofs.LeafCodes.{codes-leaf}
use Rattle.markdown_model.proofs.LabelsCover.{codes-start_tree}
use Rattle.markdown_run_text.specs.Row.{Mark, begins, makes, loses, Row, row_end, row_then, passes_after, past_tree, past_mark, past_row, mark_codes, row_codes, row_has_run, kinds_of, kinds_past, kinds_after, IsMarkAt, IsRowAt}
use Rattle.markdown_run_text.proofs.PastTrees.{or-apart}
use Rattle.markdown_run_text.proofs.OpenStartLemmas.{no-kinds}
use Rattle.markdown_run_text.specs.RowStart.{IsFreshRow, IsPastCodes, registers, row_registers, passes_of}

-- Passes.

passes-tree : (a b r : Bool) → passes_after r (passes_of a b) ≡ passes_of a (b || r)
passes-tree a b r = grind arith

-- with the pass of labels first, unless it is there
abbrev with_labels : List ResolveName → List ResolveName
with_labels ns = if is_registered R.Label ns then ns else R.Label ∷ ns

passes-labels : (a b : Bool) → with_labels (passes_of a b) ≡ passes_of (a || true) b
passes-labels a b = grind arith

by-before : (b : Bool) (T : Tokenizer) →
    (if b then T else record T { resolvers = R.Label ∷ T.resolvers }) ≡ record T { resolvers = if b then T.resolvers else R.Label ∷ T.resolvers }
by-before b T = grind arith

before-is : (T : Tokenizer) → registered_before R.Label T ≡ record T { resolvers = with_labels T.resolvers }
unfolding registered_before
before-is T = by-before (is_registered R.Label T.resolvers) T

or-nothing : (a : Bool) → a ≡ (a || false)
or-nothing a = grind arith

-- Each step.

module _ (a b : Bool) (cs : List Code) (T U : Tokenizer) (h : IsPastCodes a b cs T U) where
  past-cursor : (ds : List Code) → moved_by ds U.cursor ≡ moved_by (cs ++ ds) T.cursor
  past-cursor ds = ap (λ (V : Tokenizer). moved_by ds V.cursor) h.same ∙ sym (moved_by-append cs ds T.cursor)

  rest-tree : (t : Forest) → IsPastCodes a (b || has_run t) (cs ++ leaf_codes t) T (past_tree t U)
  unfolding past past_tree
  rest-tree t = grind (arith, passes-tree, past-cursor)

  -- with the pass of labels registered, and these fields
  rest-labels : (ds : List Code) (p : Place) (es : List Event) (s : TokenizeState) → p ≡ moved_by ds U.cursor → unlabelled s ≡ unlabelled U.tokenize_state → s.end ≡ 0 → s.seen ≡ false
      → IsPastCodes (a || true) b (cs ++ ds) T (registered_before R.Label (record U { events = es; cursor = p; tokenize_state = s }))
  rest-labels ds p es s place fields end seen = grind (arith, passes-labels, past-cursor, before-is)

  rest-lost : (s : TokenizeState) → unlabelled s ≡ unlabelled U.tokenize_state → s.end ≡ 0 → s.seen ≡ false →
      IsPastCodes (a || false) b (cs ++ []) T (scratched s U)
  unfolding scratched
  rest-lost s fields end seen = record {
    same = λ i. record (h.same i) { cursor = past-cursor [] i; resolvers = (ap (λ (W : Tokenizer). W.resolvers) h.same ∙ ap (λ x. passes_of x b) (or-nothing a)) i; tokenize_state = s };
    fields = fields ∙ h.fields;
    end = end;
    seen = seen;
  }

-- The kinds of the starts that wait.

abbrev kinds : List LabelStart → List LabelKind
kinds ls = map (λ (l : LabelStart). l.kind) ls

kinds-marked : (ls : List LabelStart) → kinds (marked ls) ≡ kinds ls
kinds-marked [] = refl
kinds-marked (l ∷ ls) = ap (λ ks. l.kind ∷ ks) (kinds-marked ls)

kinds-barred : (b : Bool) (ls : List LabelStart) → kinds (if b then ls else marked ls) ≡ kinds ls
kinds-barred b ls = grind (arith, kinds-marked)

kinds-made : (kind : LabelKind) (ls : List LabelStart) (last n : ℕ) (s : TokenizeState) →
    kinds (labelled (with_kind kind ls) last (starts_set (with_kind kind ls) (ended_at n s))).label_starts ≡ rest_of (kinds ls)
kinds-made kind ls last n s = grind (arith, kinds-barred)

kinds-lost-by : (b : Bool) (l : LabelStart) (ls : List LabelStart) (s : TokenizeState) →
    kinds (loosened (if b then l ∷ ls else as_link (l ∷ ls)) s).label_starts ≡ kinds ls
kinds-lost-by b l ls s = grind arith

kinds-lost : (s : TokenizeState) (ls : List LabelStart) → s.label_starts ≡ ls →
    kinds (lost_by ls s).label_starts ≡ rest_of (kinds ls)
kinds-lost s ls e = grind (arith, kinds-lost-by)

pub kinds-mark : (mark : Mark) (T : Tokenizer) → kinds_of (past_mark mark T) ≡ kinds_past mark (kinds_of T)
unfolding past past_mark scratched made end_made
kinds-mark (begins kind marker) T = ap (λ s. kinds s.label_starts) (scratch-before R.Label _)
kinds-mark (makes back kind tail) T = grind (arith, scratch-before, kinds-made)
kinds-mark loses T = kinds-lost T.tokenize_state T.tokenize_state.label_starts refl

pub kinds-tree : (t : Forest) (T : Tokenizer) → kinds_of (past_tree t T) ≡ kinds_of T
unfolding past past_tree
kinds-tree t T = refl

pub kinds-row : (row : Row) (T : Tokenizer) → kinds_of (past_row row T) ≡ kinds_after row (kinds_of T)
kinds-row (row_end t) T = kinds-tree t T
kinds-row (row_then t mark rest) T = grind (arith, kinds-mark, kinds-tree, kinds-row rest (past_mark mark (past_tree t T)))

-- What is read.

pub mark-input : (mark : Mark) (T : Tokenizer) → (past_mark mark T).parse_state ≡ T.parse_state
unfolding past_mark end_made made past scratched
mark-input (begins kind marker) T = input-before R.Label _
mark-input (makes back kind tail) T = input-before R.Label _
mark-input loses T = refl

tree-input : (t : Forest) (T : Tokenizer) → (past_tree t T).parse_state ≡ T.parse_state
unfolding past_tree past
tree-input t T = refl

pub row-input : (row : Row) (T : Tokenizer) → (past_row row T).parse_state ≡ T.parse_state
row-input (row_end t) T = tree-input t T
row-input (row_then t mark rest) T = grind (arith, mark-input, tree-input, row-input rest (past_mark mark (past_tree t T)))

-- The codes of the content.

mark-content : (mark : Mark) (T : Tokenizer) → (past_mark mark T).cursor.codes ≡ T.cursor.codes
unfolding past_mark end_made made past scratched
mark-content (begins kind marker) T = ap (λ (p : Place). p.codes) (cursor-before R.Label _) ∙ same-codes (leaf_codes (start_tree kind marker)) T.cursor
mark-content (makes back kind tail) T = grind (arith, cursor-before, same-codes)
mark-content loses T = refl

tree-content : (t : Forest) (T : Tokenizer) → (past_tree t T).cursor.codes ≡ T.cursor.codes
unfolding past_tree past
tree-content t T = same-codes (leaf_codes t) T.cursor

pub row-content : (row : Row) (T : Tokenizer) → (past_row row T).cursor.codes ≡ T.cursor.codes
row-content (row_end t) T = tree-content t T
row-content (row_then t mark rest) T = grind (arith, mark-content, tree-content, row-content rest (past_mark mark (past_tree t T)))

-- A mark.

record IsRested (s V : TokenizeState) : Type 0 where
  fields : unlabelled V ≡ unlabelled s
  end : V.end ≡ 0
  seen : V.seen ≡ false

made-rests : (kind : LabelKind) (ls : List LabelStart) (k : LabelKind) (ks : List LabelKind) (last n : ℕ) (s : TokenizeState) →
    kinds ls ≡ k ∷ ks → s.end ≡ 0 → s.seen ≡ false →
    IsRested s (labelled (with_kind kind ls) last (starts_set (with_kind kind ls) (ended_at n s)))
made-rests kind ls k ks last n s e end seen = grind (arith, no-kinds)

lost-rests : (ls : List LabelStart) (s : TokenizeState) → s.end ≡ 0 → s.seen ≡ false → IsRested s (lost_by ls s)
lost-rests ls s end seen = grind arith

module _ (a b : Bool) (cs : List Code) (T U : Tokenizer) (h : IsPastCodes a b cs T U) where
  rest-mark : (mark : Mark) → IsMarkAt (kinds_of U) mark →
      IsPastCodes (a || registers mark) b (cs ++ mark_codes mark) T (past_mark mark U)
  unfolding past past_mark scratched made end_made
  rest-mark (begins kind marker) at =
      let t : Forest = start_tree kind marker in
      subst (λ ds. IsPastCodes (a || true) b (cs ++ ds) T (past_mark (begins kind marker) U)) (codes-start_tree kind marker) (rest-labels a b cs T U h (leaf_codes t) _ _ _ refl refl h.end h.seen)
  rest-mark (makes back kind tail) at =
      let codes : leaf_codes (end_tree back) ≡ back = append-nil (leaf_codes (leaf N.LabelMarker back)) ∙ codes-leaf N.LabelMarker back in
      let place : moved_by (leaf_codes tail) (moved_by (leaf_codes (end_tree back)) U.cursor) ≡ moved_by (back ++ leaf_codes tail) U.cursor =
      ap (λ ds. moved_by (leaf_codes tail) (moved_by ds U.cursor)) codes ∙ sym (moved_by-append back (leaf_codes tail) U.cursor) in
      let r = made-rests kind U.tokenize_state.label_starts at.start at.before _ _ U.tokenize_state at.waits h.end h.seen in
      rest-labels a b cs T U h (back ++ leaf_codes tail) _ _ _ place r.fields r.end r.seen
  rest-mark loses at =
      let r = lost-rests U.tokenize_state.label_starts U.tokenize_state h.end h.seen in rest-lost a b cs T U h (lost_by U.tokenize_state.label_starts U.tokenize_state) r.fields r.end r.seen

-- A row.

pub row-rest : (row : Row) (a b : Bool) (cs : List Code) (T U : Tokenizer) → IsPastCodes a b cs T U →
    IsRowAt (kinds_of U) row →
    IsPastCodes (a || row_registers row) (b || row_has_run row) (cs ++ row_codes row) T (past_row row U)
row-rest (row_end t) a b cs T U h at =
    subst (λ x. IsPastCodes x (b || has_run t) (cs ++ leaf_codes t) T (past_tree t U)) (or-nothing a) (rest-tree a b cs T U h t)
row-rest (row_then t mark rest) a b cs T U h at =
    let V : Tokenizer = past_tree t U in
    let W : Tokenizer = past_mark mark V in
    let one = rest-tree a b cs T U h t in
    let here : IsMarkAt (kinds_of V) mark = subst (λ ks. IsMarkAt ks mark) (sym (kinds-tree t U)) at.1.0 in
    let two = rest-mark a (b || has_run t) (cs ++ leaf_codes t) T V one mark here in
    let next : IsRowAt (kinds_of W) rest = subst (λ ks. IsRowAt ks rest) (sym (kinds-mark mark V ∙ ap (kinds_past mark) (kinds-tree t U))) at.1.1 in
    let three = row-rest rest (a || registers mark) (b || has_run t) ((cs ++ leaf_codes t) ++ mark_codes mark) T W two next in
    let codes : ((cs ++ leaf_codes t) ++ mark_codes mark) ++ row_codes rest ≡ cs ++ (leaf_codes t ++ (mark_codes mark ++ row_codes rest)) = append_assoc (cs ++ leaf_codes t) (mark_codes mark) (row_codes rest) ∙ append_assoc cs (leaf_codes t) (mark_codes mark ++ row_codes rest) in
    subst (λ x. IsPastCodes x (b || (has_run t || row_has_run rest)) (cs ++ row_codes (row_then t mark rest)) T (past_row rest W)) (sym (or-apart a (registers mark) (row_registers rest)))
    (subst (λ y. IsPastCodes ((a || registers mark) || row_registers rest) y (cs ++ row_codes (row_then t mark rest)) T (past_row rest W)) (sym (or-apart b (has_run t) (row_has_run rest)))
    (subst (λ ds. IsPastCodes ((a || registers mark) || row_registers rest) ((b || has_run t) || row_has_run rest) ds T (past_row rest W)) codes three))

-- from a run's start on
pub past-rest : (row : Row) (T : Tokenizer) → IsRowAt [] row → IsFreshRow T → T.resolvers ≡ [] →
    IsPastCodes (row_registers row) (row_has_run row) (row_codes row) T (past_row row T)
past-rest row T at h none =
    let start : IsPastCodes false false [] T T = record { same = λ i. record T { resolvers = none i }; fields = refl; end = h.end; seen = h.seen } in
    row-rest row false false [] T T start (subst (λ ks. IsRowAt ks row) (sym (ap kinds h.starts)) at)
