-- The inline tree of a content, its events, and the counts that bound the probes.
use Rattle.std.specs.Prelude.{◌≡◌, ℕ, ◌+◌, ◌*◌, true, false, List, length, sum_by, count_by}
use Rattle.markdown_content.specs.declared.parser.Piece.{Piece}
use Rattle.markdown_event.specs.declared.event.Event.{Event}
use Rattle.markdown_content.specs.Codes.{Code}
use Rattle.markdown_content.specs.Content.{content_of}
use Rattle.markdown_content.specs.Tree.{Forest, events_of, leaf_codes}
use Rattle.markdown_content.specs.declared.configuration.Rules.{Rules}
use Rattle.markdown_model.specs.Setting.{Setting, rules, within}
use Rattle.markdown_model.specs.LabelEnd.{Element}
use Rattle.markdown_model.specs.Elements.{elements_of, string_elements_of, AreElements, AreStringElements}
use Rattle.markdown_model.specs.Runs.{Run, containers_of}
use Rattle.markdown_model.specs.Pairs.{Pair, IsPairList, pair_list}
use Rattle.markdown_model.specs.BracketGroups.{paired}
use Rattle.markdown_model.specs.Passes.{breaks, no_breaks, labels_of, merged, trimmed, with_emails_apart}

-- The tree of labels: the runs among siblings are those of a container.
unfoldable pub label_tree : Setting → List Code → Forest
label_tree s cs = labels_of (elements_of s cs)

-- The pairs of each container of the tree of labels of a whole content.
abbrev pub paired_whole : Setting → (List Run → List Pair) → Forest → Forest
paired_whole s pairs_of tree = paired (within (leaf_codes tree) s) pairs_of tree

-- The raw tree: labels, then the pairs of each container.
unfoldable pub raw_tree : Setting → (List Run → List Pair) → List Element → Forest
raw_tree s pairs_of es = paired_whole s pairs_of (labels_of es)

-- the tree of a text with these elements and pairs
unfoldable pub finished_text : Setting → (List Run → List Pair) → List Element → Forest
finished_text s pairs_of es =
    let t = trimmed (breaks s) true true (merged (raw_tree s pairs_of es)) in
    elim (s.options.constructs.gfm_autolink_literal) [ true ↦ with_emails_apart t | false ↦ t ]

-- the tree of a string with these elements, which are no labels and hold no runs
unfoldable pub finished_string : Rules → List Element → Forest
finished_string rules es = trimmed (no_breaks rules) false false (merged (labels_of es))

-- The inline tree of a text: that of the content's elements and of each container's pairs.
pub record IsTextTree (s : Setting) (cs : List Code) (tree : Forest) : Type 0 where
  pub elements : List Element
  pub pairs_of : List Run → List Pair
  pub are_elements : AreElements s cs elements
  pub are_pairs : (runs : List Run) → IsPairList s runs (pairs_of runs)
  pub finished : tree ≡ finished_text s pairs_of elements

-- The inline tree of a string.
pub record IsStringTree (s : Setting) (cs : List Code) (tree : Forest) : Type 0 where
  pub elements : List Element
  pub are_elements : AreStringElements s cs elements
  pub finished : tree ≡ finished_string (rules s) elements

-- The same, computed.

unfoldable pub text_tree : Setting → List Code → Forest
text_tree s cs = finished_text s (pair_list s) (elements_of s cs)

unfoldable pub string_tree : Setting → List Code → Forest
string_tree s cs = finished_string (rules s) (string_elements_of s cs)

abbrev pub text_events : Setting → List Piece → List Event
text_events s pieces = events_of (text_tree s (content_of s.bytes pieces))

abbrev pub string_events : Setting → List Piece → List Event
string_events s pieces = events_of (string_tree s (content_of s.bytes pieces))

-- Counts over all containers of a tree of labels.

abbrev pub run_count : Setting → Forest → ℕ
run_count s tree = sum_by length (containers_of s tree)

abbrev pub pair_count : Setting → Forest → ℕ
pair_count s tree = sum_by (λ runs. length (pair_list s runs)) (containers_of s tree)

abbrev pub opener_count : Setting → Forest → ℕ
opener_count s tree = sum_by (count_by (λ r. r.may_open)) (containers_of s tree)

abbrev pub closer_count : Setting → Forest → ℕ
closer_count s tree = sum_by (count_by (λ r. r.may_close)) (containers_of s tree)

-- The most probes, looks at a run as a possible opener of one closer.

abbrev pub probe_bound : Setting → Forest → ℕ
probe_bound s tree = (run_count s tree + pair_count s tree) * run_count s tree

abbrev pub list_probe_bound : Setting → Forest → ℕ
list_probe_bound s tree = 6 * opener_count s tree + closer_count s tree + 8 * pair_count s tree
