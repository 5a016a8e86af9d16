-- What is done at each event to know how much definitions bring.
use Rattle.std.specs.Prelude.{ℕ, true, false, if◌then◌else◌, ◌||◌, List, [], ◌∷◌, reverse, Option, None, Some}
use Rattle.std.specs.Option.{is_some}
use Rattle.markdown_event.specs.declared.event.Event.{Event}
use Rattle.markdown_event.specs.declared.event.Kind.{Kind}
use Rattle.markdown_event.specs.declared.event.Kind.TheVariants.{Enter, Exit}
use Rattle.markdown_html_model.specs.Html.{Page, PartsSoFar, or_else, reference_target}
use Rattle.markdown_html_model.specs.Roles.{role_of}
use Rattle.markdown_html_model.specs.declared.role.Role.{Role}
use Rattle.markdown_html.specs.Brought.{left_of, target_bytes}
use Rattle.markdown_html.specs.EventWalk.{is_apart}
use Rattle.markdown_html.specs.declared.brought.Before.{Before}
use Rattle.markdown_html.specs.declared.brought.Count.{Count}
use Rattle.markdown_html.specs.declared.brought.Seen.{Seen}

-- parts, without the text of a destination and of a title
abbrev pub seen_of : PartsSoFar → Seen
seen_of parts = record { has_destination = is_some parts.destination; label = parts.label; reference = parts.reference }

abbrev pub nothing_seen : Seen
nothing_seen = record { has_destination = false; label = None; reference = None }

-- siblings: what comes later counts
abbrev pub joined_seen : Seen → Seen → Seen
joined_seen x y = record { has_destination = y.has_destination || x.has_destination; label = or_else y.label x.label; reference = or_else y.reference x.reference }

-- what something from a byte to a byte shows to what is around it, by what is seen inside
abbrev pub own_seen : Role → ℕ → ℕ → Seen → Seen
own_seen Role.Destination from to inside = record nothing_seen { has_destination = true }
own_seen Role.TitleText from to inside = nothing_seen
own_seen Role.Resource from to inside = record inside { has_destination = true }
own_seen Role.Label from to inside = record nothing_seen { label = Some (from, to) }
own_seen Role.FullReference from to inside = record nothing_seen { reference = Some (from, to) }
own_seen Role.Link from to inside = nothing_seen
own_seen Role.Image from to inside = nothing_seen
own_seen Role.Footnote from to inside = nothing_seen
own_seen role from to inside = inside

-- what a definition brings to a link or an image in which this is seen
abbrev pub brought_where : Page → Seen → ℕ
brought_where p seen = if seen.has_destination then 0 else target_bytes (reference_target p seen.label seen.reference)

abbrev pub seen_brought : Page → Role → Seen → ℕ
seen_brought p Role.Link seen = brought_where p seen
seen_brought p Role.Image seen = brought_where p seen
seen_brought p role seen = 0

-- what is seen, what is open, of which the innermost comes first, and what is left
pub record Counted : Type 0 where
  pub seen : Seen
  pub opened : List Before
  pub left : Option ℕ

abbrev pub count_of : Count → Counted
count_of c = record { seen = c.seen; opened = reverse c.opened.items; left = c.left }

abbrev pub counted_enter : Counted → ℕ → Counted
counted_enter s at = record { seen = nothing_seen; opened = record { from = at; seen = s.seen } ∷ s.opened; left = s.left }

abbrev pub counted_close : Page → Counted → List Before → Role → ℕ → Counted
counted_close p s [] role to = s
counted_close p s (o ∷ opened) role to = record {
  seen = joined_seen o.seen (own_seen role o.from to s.seen);
  opened = opened;
  left = left_of s.left (seen_brought p role s.seen);
}

abbrev pub counted_apart : Page → Counted → Role → Kind → ℕ → Counted
counted_apart p s role Enter at = counted_enter s at
counted_apart p s role Exit at = counted_close p s s.opened role at

-- what has no parts of its own shows all that is seen inside it
abbrev pub counted_step : Page → Counted → Event → Counted
counted_step p s e = if is_apart (role_of e.name) then counted_apart p s (role_of e.name) e.kind e.point.index else s

-- all events
abbrev pub counted : Page → Counted → List Event → Counted
counted p s [] = s
counted p s (e ∷ rest) = counted p (counted_step p s e) rest

-- before all events, with so much left
abbrev pub count_begun : Option ℕ → Counted
count_begun left = record { seen = nothing_seen; opened = []; left = left }
