-- What the types of the writer are, as the definitions see them.
use Rattle.std.specs.Prelude.{◌≡◌, List, map, reverse, true}
use Rattle.std.specs.Option.{option_map}
use Rattle.markdown_content.specs.CommonMark.{rules_of}
use Rattle.markdown_content.specs.Content.{IsContent, content_of}
use Rattle.markdown_content.specs.declared.parser.ParseState.{ParseState}
use Rattle.markdown_content.specs.declared.parser.Piece.{Piece}
use Rattle.markdown_html_model.specs.Html.{Defined, Page, PartsSoFar, Target}
use Rattle.markdown_html_model.specs.Resolved.{decoding_of}
use Rattle.markdown_html_model.specs.declared.options.HtmlOptions.{HtmlOptions}
use Rattle.markdown_html.specs.EventWalk.{OpenPart, State}
use Rattle.markdown_html.specs.declared.addresses.Given.{Given}
use Rattle.markdown_html.specs.declared.found.Found.{Found}
use Rattle.markdown_html.specs.declared.targets.Goal.{Goal}
use Rattle.markdown_html.specs.declared.writer.Entry.{Entry}
use Rattle.markdown_html.specs.declared.writer.Writer.{Writer}

-- what stands beside the tree of a run over these pieces with this parse state
abbrev pub page_from : ParseState → List Piece → List Defined → HtmlOptions → Page
page_from s pieces definitions options = record {
  bytes = s.bytes.now;
  content = content_of s.bytes.now pieces;
  rules = rules_of s.options.now;
  footnotes_on = s.options.now.constructs.gfm_label_start_footnote;
  decoding = decoding_of s.options.now;
  definitions = definitions;
  options = options;
}

abbrev pub page_of : Given → Page
page_of g = record {
  bytes = g.bytes.now;
  content = content_of g.bytes.now g.pieces.now;
  rules = g.rules;
  footnotes_on = g.footnotes_on;
  decoding = g.decoding;
  definitions = g.definitions.now;
  options = g.options;
}

-- the pieces are a content, where labels go by their text in it
abbrev pub HasContent : Given → Type 0
HasContent g = g.rules.labels_by_text ≡ true → IsContent g.bytes.now g.pieces.now

abbrev pub parts_of : Found → PartsSoFar
parts_of f = record { destination = option_map (λ v. v.items) f.destination; title = option_map (λ v. v.items) f.title; label = f.label; reference = f.reference }

abbrev pub target_view : Goal → Target
target_view g = record { destination = g.destination.now; title = option_map (λ t. t.now) g.title }

abbrev pub open_view : Entry → OpenPart
open_view e = record { start = e.start; point = e.point; within = e.within; kept = e.kept }

-- of what is open, and of the parts that were set apart, the innermost comes first
abbrev pub state_of : Writer → State
state_of w = record { out = w.out.items; within = w.within; parts = parts_of w.found; opened = reverse (map open_view w.entries.items); before = reverse (map parts_of w.before.items); calls = w.calls }
