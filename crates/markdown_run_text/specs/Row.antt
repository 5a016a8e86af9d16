-- What a run over the elements of a content leaves behind, in order: trees, and between them the starts and the ends of labels (CommonMark
-- 6.3 and 6.4, and footnote calls). A tokenizer past a row is a function of the row.
use Rattle.std.specs.Prelude.{◌≡◌, ◌≢◌, ◌⊎◌, Bool, true, false, ◌||◌, if◌then◌else◌, List, [], ◌∷◌, ◌++◌, map, Some, None}
use Rattle.std.specs.List.{list_any}
use Rattle.markdown_content.specs.Codes.{Code, is_line_ending}
use Rattle.markdown_content.specs.ListFunctions.{rest_of}
use Rattle.markdown_engine.specs.Operations.{is_registered, scratched}
use Rattle.markdown_engine.specs.PastTree.{past}
use Rattle.markdown_content.specs.Tree.{Forest, empty, leaf, ◌⊕◌, leaf_codes, event_count}
use Rattle.markdown_event.specs.declared.event.Name.TheVariants as N
use Rattle.markdown_event.specs.declared.resolve.ResolveName.{ResolveName}
use Rattle.markdown_event.specs.declared.resolve.ResolveName.TheVariants as R
use Rattle.markdown_content.specs.declared.label_kind.LabelKind.{LabelKind}
use Rattle.markdown_engine.specs.declared.tokenizer.LabelStart as Kept
use Rattle.markdown_engine.specs.declared.tokenizer.TokenizeState.{TokenizeState}
use Rattle.markdown_engine.specs.declared.tokenizer.Tokenizer.{Tokenizer}
use Rattle.markdown_attention.specs.RunsOfTree.{has_run}
use Rattle.markdown_run_text.specs.CutData.{split, HasCodes}
use Rattle.markdown_label.specs.LabelEnd.{end_made, lost_by}
use Rattle.markdown_label.specs.LabelStarts.{kept_start}
use Rattle.markdown_model.specs.LabelEnd.{Element, plain, starts, ends, link_kind}
use Rattle.markdown_model.specs.Passes.{start_tree}
use Rattle.markdown_label.specs.AfterLabel.{IsSoundTail}
use Rattle.markdown_run_text.specs.RowTreeNames.{IsRowPart, IsRunless}

-- a start with its codes; an end that makes a label of this kind, with its `]` and what follows; or an end that makes none, whose `]` belongs
-- to the tree behind it
pub data Mark : Type 0 where
  begins : LabelKind → List Code → Mark
  makes : List Code → LabelKind → Forest → Mark
  loses : Mark

pub data Row : Type 0 where
  row_end : Forest → Row
  row_then : Forest → Mark → Row → Row

-- a tree before a row
abbrev pub tree_onto : Forest → Row → Row
tree_onto t (row_end u) = row_end (t ⊕ u)
tree_onto t (row_then u mark rest) = row_then (t ⊕ u) mark rest

-- one row behind another
abbrev pub joined_rows : Row → Row → Row
joined_rows (row_end t) q = tree_onto t q
joined_rows (row_then t mark rest) q = row_then t mark (joined_rows rest q)

-- The tokenizer past a row.

-- the passes registered after a tree, by whether a run stands in it
abbrev pub passes_after : Bool → List ResolveName → List ResolveName
passes_after true ns = if is_registered R.Attention ns then ns else ns ++ R.Attention ∷ []
passes_after false ns = ns

unfoldable pub past_tree : Forest → Tokenizer → Tokenizer
past_tree tree T = record (past None tree T) { resolvers = passes_after (has_run tree) T.resolvers }

unfoldable pub past_mark : Mark → Tokenizer → Tokenizer
past_mark (begins kind marker) T = kept_start kind (event_count (start_tree kind marker)) (past None (start_tree kind marker) T)
past_mark (makes back kind tail) T = end_made back kind tail T
past_mark loses T = scratched (lost_by T.tokenize_state.label_starts T.tokenize_state) T

abbrev pub past_row : Row → Tokenizer → Tokenizer
past_row (row_end t) T = past_tree t T
past_row (row_then t mark rest) T = past_row rest (past_mark mark (past_tree t T))

-- the codes that a row covers
abbrev pub mark_codes : Mark → List Code
mark_codes (begins kind marker) = marker
mark_codes (makes back kind tail) = back ++ leaf_codes tail
mark_codes loses = []

abbrev pub row_codes : Row → List Code
row_codes (row_end t) = leaf_codes t
row_codes (row_then t mark rest) = leaf_codes t ++ (mark_codes mark ++ row_codes rest)

-- a run of markers stands in one of its trees
abbrev pub row_has_run : Row → Bool
row_has_run (row_end t) = has_run t
row_has_run (row_then t mark rest) = has_run t || row_has_run rest

-- Rows as runs leave them.

-- the codes of a start: one or two by its kind
abbrev pub IsFront : LabelKind → List Code → Type 0
IsFront LabelKind.Link cs = (c : Code) × (cs ≡ c ∷ [])
IsFront LabelKind.Image cs = (c : Code) × ((d : Code) × (cs ≡ c ∷ d ∷ []))
IsFront LabelKind.GfmFootnote cs = (c : Code) × ((d : Code) × (cs ≡ c ∷ d ∷ []))
IsFront LabelKind.GfmUndefinedFootnote cs = ⊥

-- no line ending is among them
abbrev pub IsStartMarker : LabelKind → List Code → Type 0
IsStartMarker kind cs = IsFront kind cs × (list_any is_line_ending cs ≡ false)

-- the kinds of the starts that still wait for an end, the last one first
abbrev pub kinds_of : Tokenizer → List LabelKind
kinds_of T = map (λ (l : Kept.LabelStart). l.kind) T.tokenize_state.label_starts

abbrev pub kinds_past : Mark → List LabelKind → List LabelKind
kinds_past (begins kind marker) ks = kind ∷ ks
kinds_past (makes back kind tail) ks = rest_of ks
kinds_past loses ks = rest_of ks

abbrev pub kinds_after : Row → List LabelKind → List LabelKind
kinds_after (row_end t) ks = ks
kinds_after (row_then t mark rest) ks = kinds_after rest (kinds_past mark ks)

-- a label of this kind is made of the last start: of the start's own, or a link's of a footnote's that is not defined
pub record IsMade (ks : List LabelKind) (back : List Code) (kind : LabelKind) (tail : Forest) : Type 0 where
  pub start : LabelKind
  pub before : List LabelKind
  pub waits : ks ≡ start ∷ before
  pub kinds : (kind ≡ start) ⊎ (kind ≡ link_kind start)
  pub code : Code
  pub one : back ≡ code ∷ []
  pub sound : IsSoundTail tail
  pub runless : IsRunless tail

abbrev pub IsMarkAt : List LabelKind → Mark → Type 0
IsMarkAt ks (begins kind marker) = IsStartMarker kind marker
IsMarkAt ks (makes back kind tail) = IsMade ks back kind tail
IsMarkAt ks loses = Unit {0}

-- the fields that an end of a label counts in are at rest
pub record EndsRest (s : TokenizeState) : Type 0 where
  pub end : s.end ≡ 0
  pub seen : s.seen ≡ false

-- a row that a run leaves where starts of these kinds wait
abbrev pub IsRowAt : List LabelKind → Row → Type 0
IsRowAt ks (row_end t) = IsRowPart t
IsRowAt ks (row_then t mark rest) = IsRowPart t × (IsMarkAt ks mark × IsRowAt (kinds_past mark ks) rest)

-- Rows and elements.

-- how data is cut is no matter
abbrev pub split_row : Row → Row
split_row (row_end t) = row_end (split t)
split_row (row_then t mark rest) = row_then (split t) mark (split_row rest)

-- an element before a row; the `]` of an end that makes nothing is data
abbrev pub element_onto : Element → Row → Row
element_onto (plain t) r = tree_onto t r
element_onto (starts kind marker) r = row_then empty (begins kind marker) r
element_onto (ends back (Some outcome)) r = row_then empty (makes back outcome.0 outcome.1) r
element_onto (ends back None) r = row_then empty loses (tree_onto (leaf N.Data back) r)

abbrev pub row_of_elements : List Element → Row
row_of_elements [] = row_end empty
row_of_elements (e ∷ es) = element_onto e (row_of_elements es)

-- no data of an element is empty
abbrev pub HasElementCodes : Element → Type 0
HasElementCodes (plain t) = HasCodes t
HasElementCodes (starts kind marker) = marker ≢ []
HasElementCodes (ends back None) = back ≢ []
HasElementCodes (ends back (Some outcome)) = HasCodes outcome.1

abbrev pub HaveCodes : List Element → Type 0
HaveCodes [] = Unit {0}
HaveCodes (e ∷ es) = HasElementCodes e × HaveCodes es
