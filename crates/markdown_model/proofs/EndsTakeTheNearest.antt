-- An end takes the nearest unused start.
use Rattle.std.proofs.Common.{◌≡◌, ℕ, zero, suc, Bool, false, ◌&&◌, ◌||◌, not, List, [], ◌∷◌, map, drop, refl, sym, ◌∙◌, subst, Option, Some, None}
use Rattle.std.proofs.Math.Bool.{or-false}
use Rattle.std.specs.List.{list_any}
use Rattle.markdown_model.specs.LabelEnd.{Element, plain, starts, ends, Label, label_back, label_before, is_image, makes_link, is_barred}
use Rattle.markdown_model.specs.Laws.{UnusedStart, with_link, unused_starts, IsLabelOf, EndsTakeTheNearest}
use Rattle.markdown_model.proofs.NoLinkInConstructs.{or_assoc}

-- the label found, where `link` says that a link or a call stands inside it already
abbrev IsNearestLabel : Bool → List UnusedStart → Option Label → Type 0
IsNearestLabel link [] l = l ≡ None
IsNearestLabel link (u ∷ more) l =
    (label : Label) × (l ≡ Some label) × (label.kind ≡ u.kind) × (label.marker ≡ u.marker) × (list_any makes_link label.inside ≡ (u.before_link || link))

drop-map : (link : Bool) (d : ℕ) (us : List UnusedStart) →
    drop d (map (with_link link) (drop 1 us)) ≡ map (with_link link) (drop (suc d) us)
drop-map link d [] = none d
  where
    none : (n : ℕ) → drop n (map (with_link link) []) ≡ []
    none zero = refl
    none (suc n) = refl
drop-map link zero (u ∷ us) = refl
drop-map link (suc d) (u ∷ []) = refl
drop-map link (suc d) (u ∷ v ∷ us) = drop-map link d (v ∷ us)

-- a link that stood inside is one that ended after the start
passed : (link more : Bool) (us : List UnusedStart) (l : Option Label) → IsNearestLabel (link || more) us l →
    IsNearestLabel more (map (with_link link) us) l
passed link more [] l h = h
passed link more (u ∷ us) l h = (h.0, h.1, h.2, h.3, h.4 ∙ sym (or_assoc u.before_link link more))

found : (d : ℕ) (inside earlier : List Element) →
    IsNearestLabel (list_any makes_link inside) (drop d (unused_starts earlier)) (label_back d inside earlier)
found zero inside [] = refl
found (suc d) inside [] = refl
found d inside (plain tree ∷ earlier) = found d (plain tree ∷ inside) earlier
found zero inside (starts kind marker ∷ earlier) =
    (record { kind = kind; marker = marker; inside = inside }, refl, refl, refl, refl)
found (suc d) inside (starts kind marker ∷ earlier) = found d (starts kind marker ∷ inside) earlier
found d inside (ends marker outcome ∷ earlier) =
    subst (λ x. IsNearestLabel (list_any makes_link inside) x (label_back (suc d) (ends marker outcome ∷ inside) earlier)) (sym (drop-map (makes_link (ends marker outcome)) d (unused_starts earlier)))
    (passed (makes_link (ends marker outcome)) (list_any makes_link inside) (drop (suc d) (unused_starts earlier)) _ (found (suc d) (ends marker outcome ∷ inside) earlier))

pub ends_take_the_nearest : EndsTakeTheNearest
unfolding label_before is_barred
ends_take_the_nearest earlier = as_label (unused_starts earlier) (label_back 0 [] earlier) (found 0 [] earlier)
  where
    as_label : (us : List UnusedStart) (l : Option Label) → IsNearestLabel false us l → IsLabelOf us l
    as_label [] l h = h
    as_label (u ∷ us) l h = (h.0, h.1, h.2, h.3, λ i. not (is_image (h.2 i)) && (h.4 ∙ or-false u.before_link) i)
