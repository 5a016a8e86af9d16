-- The last event of a list.
use Rattle.std.proofs.Common.{◌≡◌, ℕ, zero, suc, ◌+◌, List, [], ◌∷◌, length, slice_index_or, ap, arith}
use Rattle.markdown_event.specs.declared.event.Event.{Event}
use Rattle.markdown_model.specs.SingleConstructs.{ends_escape, follows_escape}

pub last-escape : (es : List Event) (n : ℕ) (e : Event) → n + 1 ≡ length es → e ≡ slice_index_or es n e →
    ends_escape e ≡ follows_escape es
last-escape [] n e h k = absurd (omega (arith, h))
last-escape (x ∷ []) zero e h k = ap ends_escape k
last-escape (x ∷ []) (suc n) e h k = absurd (omega (arith, h))
last-escape (x ∷ y ∷ ys) zero e h k = absurd (omega (arith, h))
last-escape (x ∷ y ∷ ys) (suc n) e h k = last-escape (y ∷ ys) n e (omega (arith, h)) k
