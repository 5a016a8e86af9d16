-- The elements of a content: at each place the first construct that holds there.
use Rattle.std.specs.Prelude.{◌≡◌, ℕ, zero, suc, ◌-◌, Bool, true, false, ◌&&◌, ◌||◌, not, nat_lt, ◌==◌, List, [], ◌∷◌, length, take, codes, Option, Some, None, is_none}
use Rattle.std.specs.Str.{byte}
use Rattle.std.specs.List.{list_any}
use Rattle.markdown_event.specs.declared.event.Name.{Name}
use Rattle.markdown_content.specs.declared.label_kind.LabelKind.{LabelKind}
use Rattle.markdown_content.specs.Codes.{Code, is_line_ending, stop_of, document_start}
use Rattle.markdown_content.specs.Tree.{Forest, group_then, leaf}
use Rattle.markdown_model.specs.CodeTests.{is_value, next_is, last_code}
use Rattle.markdown_model.specs.Grammar.{Reading, ◌>>=◌, ◌>>◌, gives, either, provided, one, some, word, before}
use Rattle.markdown_model.specs.LeafConstructs.{character_escape, hard_break_escape, character_reference, span_here, code_names, math_names, autolink, gfm_task_list_item_check}
use Rattle.markdown_model.specs.HtmlText.{html_text}
use Rattle.markdown_model.specs.GfmAutolinkLiteral.{schemes, www, first_letters, gfm_autolink_literal_protocol, gfm_autolink_literal_www}
use Rattle.markdown_model.specs.Setting.{Setting, rules, within}
use Rattle.markdown_model.specs.LabelEnd.{Element, plain, starts, label_end}

-- Single elements.

unfoldable pub as_plain : Reading Forest → Reading Element
as_plain a = do
  tree ← a
  gives (plain tree)

-- where the construct is switched on
unfoldable pub switched : Bool → Reading Element → Reading Element
switched on a = provided on >> a

unfoldable pub line_ending : Reading Element
line_ending = do
  c ← one is_line_ending
  gives (plain (leaf Name.LineEnding c))

unfoldable pub data_code : Reading Element
data_code = do
  c ← one (λ c. true)
  gives (plain (leaf Name.Data c))

-- a delimiter run (CommonMark 6.2): this marker, as often as it stands there
unfoldable pub attention_run : ℕ → Reading Element
attention_run marker = do
  markers ← some (is_value marker)
  gives (plain (leaf Name.AttentionSequence markers))

-- Label starts (CommonMark 6.3 and 6.4; footnotes).

-- `![`, but not before a caret where footnotes are on
unfoldable pub label_start_image : Bool → Reading Element
label_start_image footnotes = do
  marker ← before (word "![") (λ cs. not (footnotes && next_is (is_value (byte "^")) cs))
  gives (starts LabelKind.Image marker)

unfoldable pub gfm_label_start_footnote : Reading Element
gfm_label_start_footnote = do
  marker ← word "[^"
  gives (starts LabelKind.GfmFootnote marker)

unfoldable pub label_start_link : Reading Element
label_start_link = do
  marker ← one (is_value (byte "["))
  gives (starts LabelKind.Link marker)

-- The order of tries. The elements before are given last one first.

-- the last element is an escape
abbrev pub ends_escaped : List Element → Bool
ends_escaped (plain (group_then Name.CharacterEscape enter exit inside rest) ∷ earlier) = true
ends_escaped _ = false

-- what is tried at which codes
abbrev pub Tries : Type 0
Tries = List (List ℕ × Reading Element)

-- spans of code and math, by the elements and the code before
unfoldable pub code_text : List Element → Option Code → Reading Element
code_text earlier previous = as_plain (span_here (byte "`") code_names (λ n. true) (ends_escaped earlier) previous)

unfoldable pub math_text : Bool → List Element → Option Code → Reading Element
math_text single earlier previous = as_plain (span_here (byte "$") math_names (λ n. single || nat_lt 1 n) (ends_escaped earlier) previous)

-- the line of a code; a code without one is data
unfoldable pub tried : Tries → ℕ → Reading Element
tried [] v = data_code
tried (row ∷ rows) v = elim (list_any (λ n. v == n) row.0) [ true ↦ row.1 | false ↦ tried rows v ]

-- `end` is the index where the content ends, `previous` the code before
module _ (s : Setting) (end : ℕ) (earlier : List Element) (previous : Option Code) where
  unfoldable pub tries : Tries
  tries =
      (codes "\n", line_ending)
      ∷ (codes "!", switched on.label_start_image (label_start_image on.gfm_label_start_footnote))
      ∷ (codes "$", switched on.math_text (math_text s.options.math_text_single_dollar earlier previous))
      ∷ (codes "`", switched on.code_text (code_text earlier previous))
      ∷ (codes "&", switched on.character_reference (as_plain (character_reference s.references)))
      ∷ (codes "*", switched on.attention (attention_run (byte "*")))
      ∷ (codes "_", switched on.attention (attention_run (byte "_")))
      ∷ (codes "~", switched on.gfm_strikethrough (attention_run (byte "~")))
      ∷ (codes "<", either (switched on.autolink (as_plain (autolink (rules s)))) (switched on.html_text (as_plain (html_text (rules s).slashes_in_values))))
      ∷ (first_letters schemes, switched on.gfm_autolink_literal (as_plain (gfm_autolink_literal_protocol s.bytes end previous)))
      ∷ (first_letters (www ∷ []), switched on.gfm_autolink_literal (as_plain (gfm_autolink_literal_www s.bytes end previous)))
      ∷ (codes "[", either (switched on.gfm_label_start_footnote gfm_label_start_footnote) (switched on.label_start_link label_start_link))
      ∷ (codes "\\", either (switched on.character_escape (as_plain character_escape)) (switched on.hard_break_escape (as_plain hard_break_escape)))
      ∷ (codes "]", switched on.label_end (label_end s earlier))
      ∷ []
    where
      open s.options use {constructs as on}

  -- at the content's first code, a list item's check
  unfoldable pub first_check : Reading Element
  first_check = switched ((is_none previous && s.first_of_item) && s.options.constructs.gfm_task_list_item) (as_plain gfm_task_list_item_check)

  -- the element that begins at the code at hand, which is data where no construct holds
  unfoldable pub text_element : Reading Element
  text_element [] = None
  text_element (c ∷ cs) = either first_check (either (tried tries c.value) data_code) (c ∷ cs)

-- in a string: escapes, character references, line endings and data
unfoldable pub string_element : Setting → Reading Element
string_element s =
    either (switched s.options.constructs.character_escape (as_plain character_escape))
    (either (switched s.options.constructs.character_reference (as_plain (character_reference s.references)))
    (either line_ending data_code))

-- The list of elements: each is the one at its place, and the next begins where it ends.

-- an element by those before it, last one first, and by the code before
abbrev pub Choice : Type 0
Choice = List Element → Option Code → Reading Element

-- the code just before the rest
abbrev pub code_before : List Code → List Code → Option Code
code_before cs rest = last_code (take (length cs - length rest) cs)

module _ (choice : Choice) where
  -- the elements from here on, after these elements and this code
  abbrev pub AreElementsFrom : List Element → Option Code → List Code → List Element → Type 0
  AreElementsFrom earlier previous cs [] = cs ≡ []
  AreElementsFrom earlier previous cs (e ∷ es) =
      (rest : List Code) × (choice earlier previous cs ≡ Some (e, rest))
      × AreElementsFrom (e ∷ earlier) (code_before cs rest) rest es

  -- the same, computed; n bounds their number
  unfoldable pub elements_from : ℕ → List Element → Option Code → List Code → List Element
  elements_from zero earlier previous cs = []
  elements_from (suc n) earlier previous cs =
      elim (choice earlier previous cs) [
        | None ↦ []
        | Some r ↦ r.0 ∷ elements_from n (r.0 ∷ earlier) (code_before cs r.1) r.1
      ]

abbrev pub text_choice : Setting → List Code → Choice
text_choice s cs = text_element (within cs s) (stop_of document_start cs).index

abbrev pub string_choice : Setting → Choice
string_choice s earlier previous = string_element s

abbrev pub AreElements : Setting → List Code → List Element → Type 0
AreElements s cs es = AreElementsFrom (text_choice s cs) [] None cs es

abbrev pub AreStringElements : Setting → List Code → List Element → Type 0
AreStringElements s cs es = AreElementsFrom (string_choice s) [] None cs es

unfoldable pub elements_of : Setting → List Code → List Element
elements_of s cs = elements_from (text_choice s cs) (length cs) [] None cs

unfoldable pub string_elements_of : Setting → List Code → List Element
string_elements_of s cs = elements_from (string_choice s) (length cs) [] None cs
