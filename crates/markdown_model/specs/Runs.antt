-- Runs of markers, and whether they may open and close emphasis (CommonMark 6.2; GFM 6.5).
use Rattle.std.specs.Prelude.{ℕ, Bool, true, false, if◌then◌else◌, ◌&&◌, ◌||◌, not, ◌==◌, List, [], ◌∷◌, ◌++◌, Option, Some, None}
use Rattle.std.specs.Str.{byte}
use Rattle.markdown_event.specs.declared.event.Name.{Name}
use Rattle.markdown_content.specs.Beside.{has_code_before, has_code_behind}
use Rattle.markdown_content.specs.Codes.{Code, stop_of}
use Rattle.markdown_content.specs.CommonMark.{rules_of}
use Rattle.markdown_content.specs.declared.configuration.ParseOptions.{ParseOptions}
use Rattle.markdown_content.specs.declared.configuration.Rules.{Rules}
use Rattle.markdown_content.specs.Tree.{Forest, empty, leaf_then, group_then, leaf_codes}
use Rattle.markdown_util.specs.Neighbours.{class_of, listed_class_of, before_index, after_index}
use Rattle.markdown_util.specs.declared.util.char.Kind.{Kind}
use Rattle.markdown_model.specs.GfmAutolinkLiteral.{is_other}
use Rattle.markdown_model.specs.Setting.{Setting, within}

-- A run of equal markers, and whether it may open and may close.
pub record Run : Type 0 where
  pub codes : List Code
  pub may_open : Bool
  pub may_close : Bool

abbrev pub marker_of : List Code → ℕ
marker_of [] = 0
marker_of (c ∷ cs) = c.value

abbrev pub is_punctuation_class : Kind → Bool
is_punctuation_class Kind.Punctuation = true
is_punctuation_class _ = false

-- What CommonMark reads at a character: at NUL it reads U+FFFD (2.3).
abbrev pub as_read : Rules → Option ℕ → Option ℕ
as_read r None = None
as_read r (Some c) = Some (if r.nul_is_replaced && c == 0 then 0xFFFD else c)

-- The class of a character beside a run. Whitespace is here Unicode's White_Space, and in CommonMark what the standard lists (2.1).
unfoldable pub class_beside : Rules → Option ℕ → Kind
class_beside r c = if r.listed_spaces then listed_class_of (as_read r c) else class_of (as_read r c)

-- Here `*` and `_` also open and close beside another marker. In CommonMark a marker is punctuation, and nothing more.
abbrev pub is_beside_marker : ParseOptions → ℕ → Option ℕ → Bool
is_beside_marker o marker None = false
is_beside_marker o marker (Some c) =
    not (rules_of o).markers_are_punctuation
    && (not (marker == byte "~") && ((c == byte "*" || c == byte "_") || (c == byte "~" && o.constructs.gfm_strikethrough)))

-- Left-flanking by the characters before a run and after it, and, with these exchanged, right-flanking.
abbrev pub is_flanking : ParseOptions → ℕ → Option ℕ → Option ℕ → Bool
is_flanking o marker b a =
    let before = class_beside (rules_of o) b in
    let after = class_beside (rules_of o) a in
    (is_other after || (is_punctuation_class after && not (is_other before))) || is_beside_marker o marker a

-- By the characters before it and after it, a run that is left-flanking may open, and one that is right-flanking may close. A run of `_`
-- that is both may open only behind a character that is not of class other, and close only before one.
abbrev pub may_act : ParseOptions → ℕ → Option ℕ → Bool → Bool → Bool
may_act o marker beside here there =
    here && (not (marker == byte "_") || (not (is_other (class_beside (rules_of o) beside)) || not there))

-- The characters beside a run that begins or ends at an index. Here they are those of the document, left-out bytes included; in CommonMark (6.2)
-- those of the content, so that none stands where its codes leave off.

abbrev pub before_run : ParseOptions → List ℕ → List Code → ℕ → Option ℕ
before_run o bytes content i =
    if (rules_of o).neighbours_in_content && not (has_code_before content i) then None else before_index bytes i

abbrev pub after_run : ParseOptions → List ℕ → List Code → ℕ → Option ℕ
after_run o bytes content i =
    if (rules_of o).neighbours_in_content && not (has_code_behind content i) then None else after_index bytes i

unfoldable pub run_of : Setting → List Code → Run
run_of s [] = record { codes = []; may_open = false; may_close = false }
run_of s (c ∷ cs) =
    let b = before_run s.options s.bytes s.content c.start.index in
    let a = after_run s.options s.bytes s.content (stop_of c.stop cs).index in
    let left = is_flanking s.options c.value b a in
    let right = is_flanking s.options c.value a b in
    record { codes = c ∷ cs; may_open = may_act s.options c.value b left right; may_close = may_act s.options c.value a right left }

-- Containers: the whole content, and the text of each label. The runs of one are siblings in the tree of
-- labels, and runs that are no siblings do not pair.

-- the runs among siblings, in order
unfoldable pub runs_of : Setting → Forest → List Run
runs_of s empty = []
runs_of s (leaf_then Name.AttentionSequence link cs rest) = run_of s cs ∷ runs_of s rest
runs_of s (leaf_then name link cs rest) = runs_of s rest
runs_of s (group_then name enter exit inside rest) = runs_of s rest

-- the runs of the siblings inside each group, at any depth
unfoldable pub rows_inside : Setting → Forest → List (List Run)
rows_inside s empty = []
rows_inside s (leaf_then name link cs rest) = rows_inside s rest
rows_inside s (group_then name enter exit inside rest) = (runs_of s inside ∷ rows_inside s inside) ++ rows_inside s rest

-- the runs of all siblings and of those inside each group
unfoldable pub rows_of : Setting → Forest → List (List Run)
rows_of s tree = runs_of s tree ∷ rows_inside s tree

-- The same of the tree of a whole content; those that make no container have none.
abbrev pub containers_of : Setting → Forest → List (List Run)
containers_of s tree = rows_of (within (leaf_codes tree) s) tree
