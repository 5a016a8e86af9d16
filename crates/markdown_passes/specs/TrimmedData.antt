-- Trimming: the codes of data between two places, and where its blank codes stop in front and begin at its back.
use Rattle.std.specs.Prelude.{ℕ, Bool, false, ◌&&◌, ◌||◌, ◌==◌, List, [], ◌∷◌, filter, reverse, IsTrue, Option, Some, None, if◌then◌else◌}
use Rattle.markdown_content.specs.Codes.{Code, space_value, is_blank, is_code_before, is_at_or_after, place_of, stop_of}
use Rattle.markdown_engine.specs.PastTree.{appended_from}
use Rattle.markdown_content.specs.Tree.{event}
use Rattle.markdown_content.specs.DocumentWalk.{codes_after, IsPoint}
use Rattle.markdown_event.specs.declared.event.Event.{Event}
use Rattle.markdown_event.specs.declared.event.Kind.TheVariants as Kind
use Rattle.markdown_event.specs.declared.event.Name.{Name}
use Rattle.markdown_event.specs.declared.event.Point.{Point}
use Rattle.markdown_model.specs.CodeTests.{next_is}
use Rattle.markdown_model.specs.Grammar.{span}
use Rattle.markdown_model.specs.Passes.{HardBreaks, trimmed_data}

-- the codes of a document from one place to another
unfoldable pub between : List ℕ → Point → Point → List Code
between bytes from to = filter (is_code_before (place_of to)) (codes_after bytes (place_of from))

-- two places of a document, the second not before the first
pub record IsStretch (bytes : List ℕ) (from to : Point) : Type 0 where
  pub from_place : IsPoint bytes from
  pub to_place : IsPoint bytes to
  pub forward : IsTrue (is_at_or_after (place_of from) (place_of to))

-- where codes from a place on end, without the blank ones at their back
unfoldable pub end_of_kept : Point → List Code → Point
end_of_kept from cs = stop_of from (reverse (span is_blank (reverse cs)).1)

-- where the blank codes in front of them end
unfoldable pub end_of_lead : Point → List Code → Point
end_of_lead from cs = stop_of from (span is_blank cs).0

-- codes that begin with a blank one, and those that end with one
abbrev pub starts_blank : List Code → Bool
starts_blank cs = next_is is_blank cs

abbrev pub ends_blank : List Code → Bool
ends_blank cs = next_is is_blank (reverse cs)

-- codes some of which go, where blank ones go in front, at their back, or both
abbrev pub loses_blank : Bool → Bool → List Code → Bool
loses_blank front back cs = (front && starts_blank cs) || (back && ends_blank cs)

-- the code that begins at a place is a space that is no column of a tab
abbrev pub at_real_space : Option ℕ → Point → Bool
at_real_space None p = false
at_real_space (Some v) p = v == space_value && p.vs == 0

abbrev pub is_same_place : Point → Point → Bool
is_same_place p q = p.index == q.index && p.vs == q.vs

-- the events of a leaf from one place to another; none where there is no code between
unfoldable pub leaf_events : Name → Point → Point → List Event
leaf_events name from to = if is_same_place from to then [] else event Kind.Enter name from ∷ event Kind.Exit name to ∷ []

-- the events of data from one place to another that loses its blank codes in front, at its back, or both; `hard` says that those at
-- its back may be a hard break
unfoldable pub trimmed_events : Bool → Bool → HardBreaks → List ℕ → Point → Point → List Event
trimmed_events front back hard bytes from to = appended_from 0 None (trimmed_data front back hard (between bytes from to))
