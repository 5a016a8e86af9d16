-- The chain of linked leaves is not broken: the Exit of each is the event behind its Enter, and the next one's Enter is the event behind that.
use Rattle.std.specs.Prelude.{◌≡◌, ℕ, ◌+◌, List, Some, slice_get, option_map}
use Rattle.markdown_event.specs.declared.event.Event.{Event}
use Rattle.markdown_event.specs.declared.event.Kind.{Kind}
use Rattle.markdown_event.specs.declared.event.Link.{Link}
use Rattle.markdown_content.specs.declared.parser.Piece.{Piece}
use Rattle.markdown_model.specs.InlineTree.{text_events, string_events}
use Rattle.markdown_model.specs.Setting.{Setting}

-- of the event with this number and link
pub record ChainGoesOn (es : List Event) (n : ℕ) (l : Link) : Type 0 where
  pub exit : option_map (λ (x : Event). x.kind) (slice_get es (n + 1)) ≡ Some Kind.Exit
  pub next : (m : ℕ) → l.next ≡ Some m → m ≡ n + 2

abbrev pub AreUnbroken : List Event → Type 0
AreUnbroken es = (n : ℕ) (e : Event) (l : Link) → slice_get es n ≡ Some e → e.link ≡ Some l → ChainGoesOn es n l

abbrev pub ChainsAreUnbroken : Type 0
ChainsAreUnbroken = (s : Setting) (pieces : List Piece) → AreUnbroken (text_events s pieces) × AreUnbroken (string_events s pieces)
