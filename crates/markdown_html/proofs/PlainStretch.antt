-- A stretch of the document with no part of a tab at its ends.
use Rattle.std.proofs.Common.{◌≡◌, ap, refl, subst, ℕ, ◌+◌, ◌-◌, ◌≤◌, Bool, true, false, ◌&&◌, nat_lt, if◌then◌else◌, List, length, append-nil, arith}
use Rattle.std.specs.List.{slice_range}
use Rattle.markdown_event.specs.declared.event.Point.{Point}
use Rattle.markdown_content.specs.Slices.{byte_from, codes_between, virtual_spaces, spaces_before, spaces_after}
use Rattle.markdown_content.proofs.VirtualSpaces.{after-is, byte_from-in, byte_from-order}
use Rattle.markdown_passes.specs.TrimmedData.{IsStretch}
use Rattle.markdown_html_model.specs.Html.{text_between}

none-before : (bytes : List ℕ) (a b : Point) → a.vs ≡ 0 → spaces_before bytes a b ≡ 0
unfolding spaces_before
none-before bytes a b e = ap (λ v. if nat_lt 0 v then virtual_spaces a.index (codes_between bytes a b) else 0) e

abbrev after-by : Bool → ℕ → ℕ → ℕ
after-by t v w = if t && nat_lt 0 v then 0 else w - 1

none-by : (t : Bool) → after-by t 0 0 ≡ 0
none-by true = refl
none-by false = refl

none-after : (bytes : List ℕ) (a b : Point) → IsStretch bytes a b → a.vs ≡ 0 → b.vs ≡ 0 → spaces_after bytes a b ≡ 0
none-after bytes a b h e f = grind (arith, after-is, none-by)

from-index : (a : Point) → a.vs ≡ 0 → byte_from a ≡ a.index
from-index a e = ap (λ v. if nat_lt 0 v then a.index + 1 else a.index) e

pub plain-order : (bytes : List ℕ) (a b : Point) → IsStretch bytes a b → a.vs ≡ 0 → b.vs ≡ 0 → a.index ≤ b.index
plain-order bytes a b h e f = subst (λ n. n ≤ b.index) (from-index a e) (subst (λ n. byte_from a ≤ n) (from-index b f) (byte_from-order a b h.forward))

pub plain-end : (bytes : List ℕ) (a b : Point) → IsStretch bytes a b → b.vs ≡ 0 → b.index ≤ length bytes
plain-end bytes a b h f = subst (λ n. n ≤ length bytes) (from-index b f) (byte_from-in bytes b h.to_place)

pub plain-text : (bytes : List ℕ) (a b : Point) → IsStretch bytes a b → a.vs ≡ 0 → b.vs ≡ 0 → slice_range bytes a.index b.index ≡ text_between bytes a b
unfolding text_between
plain-text bytes a b h e f = grind (arith, none-before, none-after, append-nil, from-index)
