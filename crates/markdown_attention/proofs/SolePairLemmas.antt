-- The events of a run that one pair takes whole.
use Rattle.std.proofs.Common.{◌≡◌, ℕ, List, ◌∷◌, get_or, refl, sym, ap, ◌∙◌, arith, []}
use Rattle.markdown_event.specs.declared.event.Event.{Event}
use Rattle.markdown_event.specs.declared.event.Point.{Point}
use Rattle.markdown_attention.specs.declared.attention.edits.Sole.TheVariants as S
use Rattle.markdown_attention.specs.declared.attention.pairing.Pair.{Pair}
use Rattle.markdown_attention.specs.declared.attention.runs.Sequence.{Sequence}
use Rattle.markdown_attention.specs.PairSizes.{HasRoom}
use Rattle.markdown_attention.specs.RunEdits.{closed_sizes, point_in}
use Rattle.markdown_attention.specs.RunEvents.{closing_at, opening_at, marker_events}
use Rattle.markdown_attention.specs.SolePairs.{IsSole, HasRoomFrom}
use Rattle.markdown_attention.proofs.BracketAppends.{shift-none}
use Rattle.markdown_attention.proofs.PairSizeSteps.{room-read}

alike : (m : ℕ) (p : Point) (f g b d : List ℕ) (k n : ℕ) → f ≡ g → k ≡ n → b ≡ d →
    marker_events m p f k b ≡ marker_events m p g n d
alike m p f g b d k n e h j = λ i. marker_events m p (e i) (h i) (j i)

closing-is : (m : ℕ) (p : Point) (k : ℕ) → closing_at m p k ≡ marker_events m p (k ∷ []) 0 []
unfolding marker_events
closing-is m p k = refl

opening-is : (m : ℕ) (p : Point) (k : ℕ) → opening_at m p k ≡ marker_events m p [] 0 (k ∷ [])
unfolding marker_events
opening-is m p k = ap (λ q. opening_at m q k) (shift-none p)

pub closing-alone : (m : ℕ) (p : Point) (fronts backs : List ℕ) (kept k : ℕ) → IsSole (S.Closing k) fronts kept backs →
    closing_at m p k ≡ marker_events m p fronts kept backs
closing-alone m p fronts backs kept k h =
    closing-is m p k ∙ sym (alike m p fronts (k ∷ []) backs [] kept 0 h.0 h.1.0 h.1.1)

pub opening-alone : (m : ℕ) (p : Point) (fronts backs : List ℕ) (kept k : ℕ) → IsSole (S.Opening k) fronts kept backs →
    opening_at m p k ≡ marker_events m p fronts kept backs
opening-alone m p fronts backs kept k h =
    opening-is m p k ∙ sym (alike m p fronts [] backs (k ∷ []) kept 0 h.0 h.1.0 h.1.1)

pub room-from : (p : Point) (es : List Event) (pairs : List Pair) (fronts : List ℕ) (backs : List (List ℕ)) (r : Sequence) → p ≡ point_in es r.event →
    fronts ≡ closed_sizes r.number pairs → HasRoom es pairs backs r → HasRoomFrom p fronts (get_or backs r.number []) r
room-from p es pairs fronts backs r e f h = grind (arith, room-read)
