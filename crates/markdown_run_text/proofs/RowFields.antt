-- What a row leaves of the fields of a tokenizer: its place is behind the row's codes, and of the scratch fields only the lists of labels change.
use Rattle.std.proofs.Common.{◌≡◌, ℕ, List, [], ◌∷◌, refl, sym, ap, subst, ◌∙◌, append-nil, arith}
use Rattle.markdown_run_text.proofs.RowScratch.{kinds-mark, kinds-tree, mark-input, row-input}
use Rattle.markdown_plan.proofs.ContentCharacters.{text-moved_by}
use Rattle.markdown_content.specs.Codes.{Code}
use Rattle.markdown_engine.specs.Operations.{scratched}
use Rattle.markdown_engine.specs.PastTree.{past, moved_by}
use Rattle.markdown_content.specs.Tree.{Forest, leaf_codes}
use Rattle.markdown_content.specs.declared.label_kind.LabelKind.{LabelKind}
use Rattle.markdown_engine.specs.declared.tokenizer.LabelStart as Kept
use Rattle.markdown_engine.specs.declared.tokenizer.TokenizeState.{TokenizeState}
use Rattle.markdown_engine.specs.declared.tokenizer.Tokenizer.{Tokenizer}
use Rattle.markdown_engine.proofs.PlaceAfterCodes.{moved_by-append}
use Rattle.markdown_plan.specs.Characters.{bytes_of, ReadsText}
use Rattle.markdown_label.specs.LabelFields.{with_kind, labelled}
use Rattle.markdown_label.specs.LabelEnd.{AreStartsWithin, end_made, made, lost_by}
use Rattle.markdown_label.proofs.LabelEndLemmas.{scratch-before}
use Rattle.markdown_label.proofs.KeptStartPlaces.{within-grown, within-rest, within-barred}
use Rattle.markdown_run_text.specs.Row.{EndsRest, Mark, begins, makes, loses, Row, row_end, row_then, past_tree, past_mark, past_row, mark_codes, row_codes, kinds_of, kinds_past, IsMarkAt, IsRowAt}
use Rattle.markdown_run_text.proofs.OpenStartKinds.{kinds_in}
use Rattle.markdown_run_text.proofs.LabelSteps.{start-moves, end-moves, end-events, end-starts, lost-starts}

-- The place.

tree-cursor : (t : Forest) (T : Tokenizer) → (past_tree t T).cursor ≡ moved_by (leaf_codes t) T.cursor
unfolding past_tree past
tree-cursor t T = refl

mark-cursor : (ks : List LabelKind) (mark : Mark) (T : Tokenizer) → IsMarkAt ks mark →
    (past_mark mark T).cursor ≡ moved_by (mark_codes mark) T.cursor
unfolding past_mark scratched
mark-cursor ks (begins kind marker) T h = start-moves kind marker T h.0
mark-cursor ks (makes back kind tail) T h = end-moves back kind tail T
mark-cursor ks loses T h = refl

-- the place behind a row
pub row-cursor : (ks : List LabelKind) (row : Row) (T : Tokenizer) → IsRowAt ks row →
    (past_row row T).cursor ≡ moved_by (row_codes row) T.cursor
row-cursor ks (row_end t) T h = tree-cursor t T
row-cursor ks (row_then t mark rest) T h = grind (arith, mark-cursor, tree-cursor, moved_by-append, row-cursor (kinds_past mark ks) rest (past_mark mark (past_tree t T)))

-- What is read.

-- behind a row the content is as before
pub row-text : (ks : List LabelKind) (row : Row) (T : Tokenizer) → IsRowAt ks row → ReadsText T →
    ReadsText (past_row row T)
row-text ks row T is h = grind (arith, row-input row T, row-cursor ks row T, text-moved_by (bytes_of T) (row_codes row) T.cursor)

-- The scratch fields.

-- with the lists of labels that another has
abbrev pub relisted : TokenizeState → TokenizeState → TokenizeState
relisted u s = record s { labels = u.labels; label_starts = u.label_starts; label_starts_loose = u.label_starts_loose }

rest-same : (u s : TokenizeState) → u ≡ relisted u s → EndsRest s → EndsRest u
rest-same u s e k = grind arith

tree-fields : (t : Forest) (T : Tokenizer) → (past_tree t T).tokenize_state ≡ T.tokenize_state
unfolding past_tree past
tree-fields t T = refl

labelled-fields : (kind : LabelKind) (ls : List Kept.LabelStart) (start : LabelKind) (ks : List LabelKind) (n m : ℕ) (s : TokenizeState) → kinds_in ls ≡ start ∷ ks → EndsRest s
    → (let u : TokenizeState = labelled (with_kind kind ls) n (record (record s { end = m }) { label_starts = with_kind kind ls }) in u ≡ relisted u s)
labelled-fields kind ls start ks n m s e k = grind arith

lost-relisted : (ls : List Kept.LabelStart) (s : TokenizeState) → EndsRest s → lost_by ls s ≡ relisted (lost_by ls s) s
lost-relisted ls s k = grind arith

mark-fields : (ks : List LabelKind) (mark : Mark) (T : Tokenizer) → kinds_of T ≡ ks → IsMarkAt ks mark →
    EndsRest T.tokenize_state →
    (let U : Tokenizer = past_mark mark T in U.tokenize_state ≡ relisted U.tokenize_state T.tokenize_state)
unfolding past_mark end_made made past scratched
mark-fields ks (begins kind marker) T e h k = grind (arith, scratch-before)
mark-fields ks (makes back kind tail) T e h k = grind (arith, scratch-before, labelled-fields)
mark-fields ks loses T e h k = lost-relisted T.tokenize_state.label_starts T.tokenize_state k

both-relisted : (w u s : TokenizeState) → w ≡ relisted w u → u ≡ relisted u s → w ≡ relisted w s
both-relisted w u s e f = e ∙ ap (relisted w) f

-- behind a row only the lists of labels have changed
pub row-fields : (ks : List LabelKind) (row : Row) (T : Tokenizer) → kinds_of T ≡ ks → IsRowAt ks row →
    EndsRest T.tokenize_state →
    (let U : Tokenizer = past_row row T in U.tokenize_state ≡ relisted U.tokenize_state T.tokenize_state)
row-fields ks (row_end t) T e h k = grind (arith, tree-fields)
row-fields ks (row_then t mark rest) T e h k = grind (arith, kinds-tree, tree-fields, mark-fields, kinds-mark, rest-same, both-relisted, row-fields (kinds_past mark ks) rest)

-- The kept starts go on ending between characters.

-- past a tree
pub tree-within : (t : Forest) (T : Tokenizer) → AreStartsWithin T T.tokenize_state.label_starts →
    AreStartsWithin (past_tree t T) (past_tree t T).tokenize_state.label_starts
unfolding past_tree past
tree-within t T k = within-grown T (past_tree t T) _ refl refl T.tokenize_state.label_starts k

-- past an end that makes a label
pub made-within : (back : List Code) (kind : LabelKind) (tail : Forest) (T : Tokenizer) →
    AreStartsWithin T T.tokenize_state.label_starts →
    (let U : Tokenizer = past_mark (makes back kind tail) T in AreStartsWithin U U.tokenize_state.label_starts)
unfolding past_mark
made-within back kind tail T k = grind (arith, end-starts back kind tail T, within-grown T, mark-input (makes back kind tail) T, end-events back kind tail T, within-barred T kind, within-rest T T.tokenize_state.label_starts)

-- past one that makes none
pub lost-within : (T : Tokenizer) → AreStartsWithin T T.tokenize_state.label_starts →
    (let U : Tokenizer = past_mark loses T in AreStartsWithin U U.tokenize_state.label_starts)
unfolding past_mark scratched
lost-within T k =
    subst (λ ls. AreStartsWithin (past_mark loses T) ls) (sym (lost-starts T)) (within-grown T (past_mark loses T) [] refl (sym (append-nil T.events)) _ (within-rest T T.tokenize_state.label_starts k))
