-- Single constructs: what one construct reads by itself at a place, where no other is tried. Each is the reading of its section where the construct
-- is switched on, by what stands before the place.
use Rattle.std.specs.Prelude.{ℕ, Bool, true, false, ◌&&◌, ◌||◌, not, nat_lt, ◌==◌, if◌then◌else◌, List, [], ◌∷◌, Option, Some, None}
use Rattle.std.specs.Str.{byte}
use Rattle.markdown_content.specs.declared.configuration.Constructs.{Constructs}
use Rattle.markdown_content.specs.declared.configuration.ParseOptions.{ParseOptions}
use Rattle.markdown_event.specs.declared.event.Event.{Event}
use Rattle.markdown_event.specs.declared.event.Kind.{Kind}
use Rattle.markdown_event.specs.declared.event.Name.{Name}
use Rattle.markdown_event.specs.declared.event.Point.{Point}
use Rattle.markdown_content.specs.declared.label_kind.LabelKind.{LabelKind}
use Rattle.markdown_content.specs.Codes.{Code}
use Rattle.markdown_content.specs.CommonMark.{rules_of}
use Rattle.markdown_content.specs.Tree.{Forest, empty, start_of}
use Rattle.markdown_util.specs.Reference.{Table}
use Rattle.markdown_model.specs.CodeTests.{is_value}
use Rattle.markdown_model.specs.Elements.{switched, attention_run, label_start_image, gfm_label_start_footnote, label_start_link}
use Rattle.markdown_model.specs.Grammar.{Reading, ◌>>=◌, ◌>>◌, gives, either, provided, one}
use Rattle.markdown_model.specs.HtmlText.{html_text}
use Rattle.markdown_model.specs.LabelEnd.{Element, plain, starts, ends, is_footnote, label_name, after_label, link_kind, names_footnote, names_definition}
use Rattle.markdown_model.specs.LeafConstructs.{character_escape, hard_break_escape, character_reference, span_here, code_names, math_names, autolink, gfm_task_list_item_check}
use Rattle.markdown_model.specs.GfmAutolinkLiteral.{gfm_autolink_literal_protocol, gfm_autolink_literal_www}
use Rattle.markdown_model.specs.Setting.{Setting}

-- Whether an escape ends right before the place, by the events before.

abbrev pub is_exit : Kind → Bool
is_exit Kind.Exit = true
is_exit Kind.Enter = false

abbrev pub is_escape : Name → Bool
is_escape Name.CharacterEscape = true
is_escape _ = false

abbrev pub ends_escape : Event → Bool
ends_escape e = is_exit e.kind && is_escape e.name

-- the last event is the end of an escape
abbrev pub follows_escape : List Event → Bool
follows_escape [] = false
follows_escape (e ∷ es) = elim es [ [] ↦ ends_escape e | x ∷ xs ↦ follows_escape es ]

-- The constructs without inline content, the starts of labels, and runs. `previous` is the code before the place.

-- the switch of a run's marker
abbrev pub begins_run : Constructs → ℕ → Bool
begins_run on c = if c == byte "*" || c == byte "_" then on.attention else (if c == byte "~" then on.gfm_strikethrough else false)

-- the tree of an element that is a whole construct
abbrev pub plain_tree : Option (Element × List Code) → Option (Forest × List Code)
plain_tree None = None
plain_tree (Some r) =
    elim r.0 [
      | plain tree ↦ Some (tree, r.1)
      | starts kind codes ↦ None
      | ends codes result ↦ None
    ]

module _ (options : ParseOptions) where
  abbrev pub character_escape_here : Reading Forest
  character_escape_here = provided options.constructs.character_escape >> character_escape

  abbrev pub character_reference_here : Table → Reading Forest
  character_reference_here table = provided options.constructs.character_reference >> character_reference table

  abbrev pub hard_break_escape_here : Reading Forest
  hard_break_escape_here = provided options.constructs.hard_break_escape >> hard_break_escape

  abbrev pub autolink_here : Reading Forest
  autolink_here = provided options.constructs.autolink >> autolink (rules_of options)

  abbrev pub html_text_here : Reading Forest
  html_text_here = provided options.constructs.html_text >> html_text (rules_of options).slashes_in_values

  -- a code span or a math span; `escaped` says that an escape ends right before
  abbrev pub raw_text_here : Bool → Option Code → Reading Forest
  raw_text_here escaped previous =
      either (provided options.constructs.code_text >> span_here (byte "`") code_names (λ n. true) escaped previous)
      (provided options.constructs.math_text >> span_here (byte "$") math_names (λ n. options.math_text_single_dollar || nat_lt 1 n) escaped previous)

  -- a check is looked for in the first paragraph of a list item, where no code stands before
  abbrev pub looks_for_check : Bool → Bool → Bool
  looks_for_check first_of_item at_start = options.constructs.gfm_task_list_item && (first_of_item && at_start)

  abbrev pub gfm_task_list_item_check_here : Bool → Bool → Reading Forest
  gfm_task_list_item_check_here first_of_item at_start = provided (looks_for_check first_of_item at_start) >> gfm_task_list_item_check

  -- literals in a document of these bytes, in a content that ends at this index
  abbrev pub gfm_autolink_literal_protocol_here : List ℕ → ℕ → Option Code → Reading Forest
  gfm_autolink_literal_protocol_here bytes end previous = provided options.constructs.gfm_autolink_literal >> gfm_autolink_literal_protocol bytes end previous

  abbrev pub gfm_autolink_literal_www_here : List ℕ → ℕ → Option Code → Reading Forest
  gfm_autolink_literal_www_here bytes end previous = provided options.constructs.gfm_autolink_literal >> gfm_autolink_literal_www bytes end previous

  -- a run of the marker at hand
  abbrev pub attention_here : Reading Forest
  attention_here [] = None
  attention_here (c ∷ cs) = plain_tree (switched (begins_run options.constructs c.value) (attention_run c.value) (c ∷ cs))

  abbrev pub label_start_image_here : Reading Element
  label_start_image_here = switched options.constructs.label_start_image (label_start_image options.constructs.gfm_label_start_footnote)

  abbrev pub label_start_link_here : Reading Element
  label_start_link_here = switched options.constructs.label_start_link label_start_link

  abbrev pub gfm_label_start_footnote_here : Reading Element
  gfm_label_start_footnote_here = switched options.constructs.gfm_label_start_footnote gfm_label_start_footnote

-- The end of a label, by the start that it takes.

-- a start of a label: its kind, where its marker ends, and whether it is barred
pub record WaitingStart : Type 0 where
  pub kind : LabelKind
  pub stop : Point
  pub barred : Bool

-- what an end makes, by the kind of its start and the identifier of its label, where the start is not barred
unfoldable pub outcome : Setting → LabelKind → Option (List ℕ) → Reading (LabelKind × Forest)
outcome s kind name =
    either
    (provided (is_footnote kind && names_footnote s name) >> gives (LabelKind.GfmFootnote, empty))
    (after_label s (names_definition s kind name) >>= λ tail. gives (link_kind kind, tail))

-- what an end makes whose `]` this is
abbrev pub outcome_at : Setting → Option WaitingStart → List Code → Reading (LabelKind × Forest)
outcome_at s None back cs = None
outcome_at s (Some l) back cs = (provided (not l.barred) >> outcome s l.kind (label_name s l.kind l.stop.index (start_of back).index)) cs

-- the end's `]`, and what it makes with what follows it
abbrev pub label_end_here : Setting → Option WaitingStart → Reading (List Code × (LabelKind × Forest))
label_end_here s start = provided s.options.constructs.label_end >> (one (is_value (byte "]")) >>= λ back. outcome_at s start back >>= λ o. gives (back, o))
