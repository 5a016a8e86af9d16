-- What the writer does at each event, on lists.
use Rattle.std.specs.Prelude.{ℕ, Bool, true, false, if◌then◌else◌, ◌&&◌, ◌||◌, List, [], ◌∷◌, ◌++◌, length, take, drop, codes, Option, None, Some}
use Rattle.std.specs.Option.{is_some}
use Rattle.markdown_event.specs.declared.event.Event.{Event}
use Rattle.markdown_event.specs.declared.event.Kind.TheVariants.{Enter, Exit}
use Rattle.markdown_event.specs.declared.event.Point.{Point}
use Rattle.markdown_html_model.specs.Html.{Page, PartsSoFar, no_parts, joined_parts, own_calls, own_parts, string_of, text_between, leaf_html, within_of, opening, closing, group_html, span_html, span_text, link_html, image_html, check_html, target_of}
use Rattle.markdown_html_model.specs.Roles.{role_of}
use Rattle.markdown_html_model.specs.declared.role.Role.{Role}
use Rattle.markdown_html_model.specs.declared.role.Within.{Within}

-- what is kept of something that is open: where its inside begins in what is written, and in the document; where it stands; and whether parts before it were set apart
pub record OpenPart : Type 0 where
  pub start : ℕ
  pub point : Point
  pub within : Within
  pub kept : Bool

-- what is written, and where it goes on, with the calls so far; of what is open the innermost comes first, and of the parts that were set apart too
pub record State : Type 0 where
  pub out : List ℕ
  pub within : Within
  pub parts : PartsSoFar
  pub opened : List OpenPart
  pub before : List PartsSoFar
  pub calls : List (List ℕ)

-- what is written anew around what is inside, whatever calls stand before it
abbrev pub rewritten : Page → Within → Role → List ℕ → PartsSoFar → List ℕ
rewritten p within Role.Code inside parts = span_html within (codes "<code>") (span_text inside)
rewritten p within Role.Math inside parts = span_html within (codes "<code class=\"language-math math-inline\">") (span_text inside)
rewritten p within Role.Link inside parts = link_html p within (target_of p parts) inside
rewritten p within Role.Image inside parts = image_html p within (target_of p parts) inside
rewritten p within Role.Check inside parts = check_html within inside
rewritten p within role inside parts = []

-- the inside stays as it is written
abbrev pub keeps_inside : Role → Bool
keeps_inside Role.Code = false
keeps_inside Role.Math = false
keeps_inside Role.Reference = false
keeps_inside Role.Footnote = false
keeps_inside Role.Link = false
keeps_inside Role.Image = false
keeps_inside Role.Check = false
keeps_inside Role.Destination = false
keeps_inside Role.TitleText = false
keeps_inside Role.Resource = false
keeps_inside Role.Tail = false
keeps_inside role = true

-- mere tags around its inside, or a text: no entry is kept of it while it is open
abbrev pub is_light : Role → Bool
is_light Role.Plain = true
is_light Role.LineEnd = true
is_light Role.Break = true
is_light Role.Raw = true
is_light Role.Uri = true
is_light Role.Email = true
is_light Role.UriLiteral = true
is_light Role.WwwLiteral = true
is_light Role.EmailLiteral = true
is_light Role.Emphasis = true
is_light Role.Strong = true
is_light Role.Strikethrough = true
is_light Role.Silent = true
is_light role = false

-- it has parts of its own: its surroundings find other parts in it than were found inside it
abbrev pub is_apart : Role → Bool
is_apart Role.Link = true
is_apart Role.Image = true
is_apart Role.Footnote = true
is_apart Role.Label = true
is_apart Role.FullReference = true
is_apart Role.Destination = true
is_apart Role.TitleText = true
is_apart Role.Title = true
is_apart Role.Resource = true
is_apart role = false

-- it is written as its text
abbrev pub is_leaf : Role → Bool
is_leaf Role.Plain = true
is_leaf Role.LineEnd = true
is_leaf Role.Break = true
is_leaf Role.Raw = true
is_leaf Role.Uri = true
is_leaf Role.Email = true
is_leaf Role.UriLiteral = true
is_leaf Role.WwwLiteral = true
is_leaf Role.EmailLiteral = true
is_leaf role = false

-- nothing is written of it by itself
abbrev pub is_silent : Role → Bool
is_silent Role.Silent = true
is_silent role = false

-- nothing is written at its ends
abbrev pub is_bare : Role → Bool
is_bare Role.Silent = true
is_bare role = is_leaf role

-- something was found
abbrev pub has_parts : PartsSoFar → Bool
has_parts parts = is_some parts.destination || is_some parts.title || is_some parts.label || is_some parts.reference

abbrev pub open_of : State → Point → Bool → OpenPart
open_of s point kept = record { start = length s.out; point = point; within = s.within; kept = kept }

-- the parts that were set apart, with these, where they are kept
abbrev pub before_with : Bool → PartsSoFar → List PartsSoFar → List PartsSoFar
before_with kept parts before = if kept then parts ∷ before else before

-- something of which an entry is kept
abbrev pub opened_by : State → Role → Point → Bool → State
opened_by s role point kept = record s {
  within = within_of s.within role;
  parts = if kept then no_parts else s.parts;
  opened = open_of s point kept ∷ s.opened;
  before = before_with kept s.parts s.before;
}

unfoldable pub entered : State → Role → Point → State
entered s role point = if is_light role then record s { out = s.out ++ opening s.within role } else opened_by s role point (is_apart role && has_parts s.parts)

-- something innermost, entered already
unfoldable pub filled : Page → State → Role → Point → Point → State
filled p s role a b = record s { out = s.out ++ leaf_html p s.within role (text_between p.bytes a b) }

-- a link or an image that is its inside alone, as in the description of an image
abbrev pub is_text_alone : Within → Role → Bool
is_text_alone Within.InText Role.Link = true
is_text_alone Within.InText Role.Image = true
is_text_alone within role = false

unfoldable pub closed_out : Page → List (List ℕ) → OpenPart → Role → Point → List ℕ → PartsSoFar → List ℕ
closed_out p before o role to out parts =
    elim (keeps_inside role) [
      | true ↦ out ++ closing o.within role
      | false ↦ take o.start out ++ group_html p before o.within role o.point to (drop o.start out) parts
    ]

-- the parts before something, where they were set apart
abbrev pub before_parts : Bool → List PartsSoFar → PartsSoFar
before_parts true (parts ∷ before) = parts
before_parts kept before = no_parts

abbrev pub before_left : Bool → List PartsSoFar → List PartsSoFar
before_left true (parts ∷ before) = before
before_left kept before = before

-- the end of something that has parts of its own
unfoldable pub closed_apart : Page → State → OpenPart → Role → Point → State
closed_apart p s o role to = record s {
  out = closed_out p s.calls o role to s.out s.parts;
  within = o.within;
  parts = joined_parts (before_parts o.kept s.before) (own_parts role o.point to (string_of p.decoding role (drop o.start s.out)) s.parts);
  before = before_left o.kept s.before;
  calls = own_calls p role s.parts ++ s.calls;
}

-- the end of something around what is part of its own surroundings
abbrev pub closed_around : Page → State → OpenPart → Role → Point → State
closed_around p s o role to = record s { out = closed_out p s.calls o role to s.out s.parts; within = o.within }

abbrev pub closed : Page → State → List OpenPart → Role → Point → State
closed p s [] role to = s
closed p s (o ∷ opened) role to =
    let left = record s { opened = opened } in
    if is_apart role then closed_apart p left o role to else closed_around p left o role to

unfoldable pub exited : Page → State → Role → Point → State
exited p s role to = if is_light role then record s { out = s.out ++ closing s.within role } else closed p s s.opened role to

-- where the Exit stands with which these begin
abbrev pub exit_first : List Event → Option Point
exit_first [] = None
exit_first (x ∷ rest) = elim (x.kind) [ Enter ↦ None | Exit ↦ Some x.point ]

-- with nothing between the Enter at hand and its Exit
abbrev pub filled_before : Page → State → Role → Point → List Event → State
filled_before p s role a rest = elim (exit_first rest) [ None ↦ s | Some b ↦ filled p s role a b ]

abbrev pub stepped : Page → State → Event → List Event → State
stepped p s e rest =
    elim (e.kind) [
      | Enter ↦ filled_before p (entered s (role_of e.name) e.point) (role_of e.name) e.point rest
      | Exit ↦ exited p s (role_of e.name) e.point
    ]

-- all events
abbrev pub walked : Page → State → List Event → State
walked p s [] = s
walked p s (e ∷ rest) = walked p (stepped p s e rest) rest

-- before all events, which stand somewhere, behind what is written and these calls
abbrev pub beginning : List ℕ → List (List ℕ) → Within → State
beginning out before within = record { out = out; within = within; parts = no_parts; opened = []; before = []; calls = before }
