-- The runs of a tree: those of the whole, and those of each label's text.
use Rattle.std.specs.Prelude.{◌≡◌, ℕ, suc, ◌+◌, Bool, true, false, ◌||◌, if◌then◌else◌, List, [], ◌∷◌, ◌++◌, length, map, slice_index_or, Some, All}
use Rattle.markdown_content.specs.Codes.{Code, stop_of, document_start}
use Rattle.markdown_content.specs.CommonMark.{rules_of}
use Rattle.markdown_content.specs.declared.configuration.ParseOptions.{ParseOptions}
use Rattle.markdown_content.specs.Tree.{Forest, empty, leaf_then, group_then, event_count, start_of, leaf_codes}
use Rattle.markdown_event.specs.declared.event.Name.{Name}
use Rattle.markdown_event.specs.declared.event.Point.{Point}
use Rattle.markdown_engine.specs.declared.tokenizer.Tokenizer.{Tokenizer}
use Rattle.markdown_model.specs.Laws.{shape_of}
use Rattle.markdown_model.specs.Runs.{runs_of}
use Rattle.markdown_model.specs.Setting.{Setting}
use Rattle.markdown_attention.specs.RunContainers.{whole_shape, runs_in}
use Rattle.markdown_attention.specs.RunsRead.{Container, is_run, is_text, sequence_at}
use Rattle.markdown_attention.specs.declared.attention.runs.Sequence.{Sequence}

-- the run of a leaf from one place to another
abbrev pub leaf_run : ParseOptions → List ℕ → List Code → ℕ → ℕ → Container → Name → Point → Point → List Sequence
leaf_run options bytes content n i k name from to = if is_run name then sequence_at options bytes content n i k from to ∷ [] else []

-- the container of what stands in a group, where i events and m texts come before
abbrev pub inner : ℕ → ℕ → Container → Name → Container
inner i m k name = if is_text name then Some (record { event = i; number = m }) else k

-- 1 for the text of a label
abbrev pub as_text : Name → ℕ
as_text name = if is_text name then 1 else 0

-- how many texts of labels these siblings have, at any depth
abbrev pub text_count : Forest → ℕ
text_count empty = 0
text_count (leaf_then name link cs rest) = text_count rest
text_count (group_then name enter exit inside rest) = as_text name + text_count inside + text_count rest

-- the runs among siblings that stand in this container, and inside them, where n runs, i events and m texts come before
abbrev pub tree_runs : ParseOptions → List ℕ → List Code → ℕ → ℕ → ℕ → Container → Forest → List Sequence
tree_runs options bytes content n i m k empty = []
tree_runs options bytes content n i m k (leaf_then name link cs rest) =
    let here = leaf_run options bytes content n i k name (start_of cs) (stop_of document_start cs) in
    here ++ tree_runs options bytes content (n + length here) (i + 2) m k rest
tree_runs options bytes content n i m k (group_then name enter exit inside rest) =
    let front = tree_runs options bytes content n (i + 1) (m + as_text name) (inner i m k name) inside in
    front ++ tree_runs options bytes content (n + length front) (i + 2 + event_count inside) (m + as_text name + text_count inside) k rest

-- the text of each label with its number, where m texts come before
abbrev pub texts_of : ℕ → Forest → List (ℕ × Forest)
texts_of m empty = []
texts_of m (leaf_then name link cs rest) = texts_of m rest
texts_of m (group_then name enter exit inside rest) =
    (if is_text name then (m, inside) ∷ [] else []) ++ (texts_of (m + as_text name) inside ++ texts_of (m + as_text name + text_count inside) rest)

-- the codes of a run: as many bytes of the document, the first of which is its marker
abbrev pub IsRun : List ℕ → List Code → Type 0
IsRun bytes [] = ⊥
IsRun bytes (c ∷ cs) = (slice_index_or bytes c.start.index 0 ≡ c.value) × ((stop_of c.stop cs).index ≡ c.start.index + suc (length cs))

abbrev pub has_run : Forest → Bool
has_run empty = false
has_run (leaf_then name link cs rest) = is_run name || has_run rest
has_run (group_then name enter exit inside rest) = has_run rest

-- A tree of labels: runs are leaves, and stand at the top or in the text of a label.
abbrev pub HasRuns : List ℕ → Forest → Type 0
HasRuns bytes empty = Unit {0}
HasRuns bytes (leaf_then name link cs rest) = ((is_text name ≡ false) × (is_run name ≡ true → IsRun bytes cs)) × HasRuns bytes rest
HasRuns bytes (group_then name enter exit inside rest) =
    ((is_run name ≡ false) × (is_text name ≡ false → has_run inside ≡ false)) × (HasRuns bytes inside × HasRuns bytes rest)

-- What the tokenizer is given is this. Where the rules take what stands beside a run from the content, the tree is one of the content that the
-- tokenizer reads.
pub record IsOf (s : Setting) (tree : Forest) (T : Tokenizer) : Type 0 where
  pub bytes : s.bytes ≡ T.parse_state.now.bytes.now
  pub options : s.options ≡ T.parse_state.now.options.now
  pub codes : (rules_of T.parse_state.now.options.now).neighbours_in_content ≡ true → leaf_codes tree ≡ T.cursor.codes

-- the runs of each container are those that the definition has, in order
pub record HasRows (s : Setting) (tree : Forest) (list : List Sequence) : Type 0 where
  pub whole : map shape_of (runs_of s tree) ≡ map whole_shape (runs_in 0 list)
  pub texts : All (λ (text : ℕ × Forest). map shape_of (runs_of s text.1) ≡ map whole_shape (runs_in (text.0 + 1) list)) (texts_of 0 tree)
