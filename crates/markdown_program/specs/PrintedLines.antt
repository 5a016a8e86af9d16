-- The lines that the program prints, one for each event: whether it begins or ends, its name, its place, and its link if it has one.
use Rattle.std.specs.Prelude.{◌≡◌, ℕ, ◌≤◌, List, [], ◌++◌, codes, decimal, length, Option, Some, None}
use Rattle.std.specs.List.{flat_map}
use Rattle.markdown_event.specs.EventNames.{name_text}
use Rattle.markdown_event.specs.declared.event.Content.{Content}
use Rattle.markdown_event.specs.declared.event.Event.{Event}
use Rattle.markdown_event.specs.declared.event.Kind.{Kind}
use Rattle.markdown_event.specs.declared.event.Link.{Link}
use Rattle.markdown_event.specs.declared.event.Name.{Name}
use Rattle.markdown_event.specs.declared.event.Point.{Point}

abbrev pub kind_text : Kind → List ℕ
kind_text Kind.Enter = codes "Enter"
kind_text Kind.Exit = codes "Exit"

-- whether an event begins or ends, and its name
abbrev pub words_text : Kind → Name → List ℕ
words_text kind name = kind_text kind ++ codes " " ++ name_text name

abbrev pub content_text : Content → List ℕ
content_text Content.String = codes "String"
content_text Content.Text = codes "Text"

-- the number of an event, or `-` where there is none
abbrev pub number_text : Option ℕ → List ℕ
number_text None = codes "-"
number_text (Some n) = decimal n

-- a space and a number, for each of column, byte, and the codes of a tab before the place
abbrev pub rest_text : Point → List ℕ
rest_text p = codes " " ++ decimal p.column ++ codes " " ++ decimal p.index ++ codes " " ++ decimal p.vs

-- the same of the line, and of these
abbrev pub point_text : Point → List ℕ
point_text p = codes " " ++ decimal p.line ++ rest_text p

-- the place is printed in two parts, each number at most 20 digits long
pub record IsPrinted (p : Point) (first rest : List ℕ) : Type 0 where
  pub line : first ≡ codes " " ++ decimal p.line
  pub others : rest ≡ rest_text p
  pub line_fits : length first ≤ 21
  pub others_fit : length rest ≤ 63

-- the content of the link, and the events before and after on its chain
abbrev pub link_text : Option Link → List ℕ
link_text None = []
link_text (Some l) = codes " link " ++ content_text l.content ++ codes " " ++ number_text l.previous ++ codes " " ++ number_text l.next

unfoldable pub line_of : Event → List ℕ
line_of e = words_text e.kind e.name ++ point_text e.point ++ link_text e.link ++ codes "\n"

unfoldable pub lines_of : List Event → List ℕ
lines_of es = flat_map line_of es
