-- Rows of places, each at the one before it or behind it.
use Rattle.std.proofs.Common.{◌≡◌, ℕ, false, List, [], ◌∷◌, ◌++◌, refl, subst, append-nil, arith}
use Rattle.markdown_content.proofs.PlaceOrder.{is_before, before-self, not_before-trans}

abbrev pub BytePlace : Type 0
BytePlace = ℕ × ℕ

-- the second stands at the first or behind it
abbrev pub IsAtOrBehind : BytePlace → BytePlace → Type 0
IsAtOrBehind p q = is_before q p ≡ false

pub on-itself : (p : BytePlace) → IsAtOrBehind p p
on-itself p = before-self p

pub on-trans : (p q r : BytePlace) → IsAtOrBehind p q → IsAtOrBehind q r → IsAtOrBehind p r
on-trans p q r h k = not_before-trans r q p k h

-- the places go on from the first place to the last
abbrev pub GoOn : BytePlace → List BytePlace → BytePlace → Type 0
GoOn low [] high = IsAtOrBehind low high
GoOn low (p ∷ ps) high = IsAtOrBehind low p × GoOn p ps high

abbrev pub last_of : BytePlace → List BytePlace → BytePlace
last_of p [] = p
last_of p (q ∷ qs) = last_of q qs

pub last-join : (p : BytePlace) (xs ys : List BytePlace) → last_of p (xs ++ ys) ≡ last_of (last_of p xs) ys
last-join p [] ys = refl
last-join p (x ∷ xs) ys = last-join x xs ys

pub on-split : (low : BytePlace) (xs ys : List BytePlace) (high : BytePlace) → GoOn low (xs ++ ys) high →
    GoOn low xs (last_of low xs) × GoOn (last_of low xs) ys high
on-split low [] ys high h = (on-itself low, h)
on-split low (x ∷ xs) ys high h = let r = on-split x xs ys high h.1 in ((h.0, r.0), r.1)

on-from : (low middle : BytePlace) (ys : List BytePlace) (high : BytePlace) → IsAtOrBehind low middle → GoOn middle ys high →
    GoOn low ys high
on-from low middle [] high h k = on-trans low middle high h k
on-from low middle (y ∷ ys) high h k = (on-trans low middle y h k.0, k.1)

pub on-join : (low : BytePlace) (xs : List BytePlace) (middle : BytePlace) (ys : List BytePlace) (high : BytePlace) → GoOn low xs middle →
    GoOn middle ys high → GoOn low (xs ++ ys) high
on-join low [] middle ys high h k = on-from low middle ys high h k
on-join low (x ∷ xs) middle ys high h k = (h.0, on-join x xs middle ys high h.1 k)

-- One row goes on wherever another does.

abbrev pub Allows : List BytePlace → List BytePlace → Type 0
Allows xs ys = (low high : BytePlace) → GoOn low xs high → GoOn low ys high

pub allows-itself : (xs : List BytePlace) → Allows xs xs
allows-itself xs low high h = h

pub allows-then : (xs ys zs : List BytePlace) → Allows xs ys → Allows ys zs → Allows xs zs
allows-then xs ys zs f g low high h = g low high (f low high h)

pub allows-join : (a b c d : List BytePlace) → Allows a b → Allows c d → Allows (a ++ c) (b ++ d)
allows-join a b c d f g low high h =
    let parts = on-split low a c high h in
    on-join low b (last_of low a) d high (f low (last_of low a) parts.0) (g (last_of low a) high parts.1)

pub allows-behind : (a c d : List BytePlace) → Allows c d → Allows (a ++ c) (a ++ d)
allows-behind a c d g = allows-join a a c d (allows-itself a) g

pub allows-same : (xs ys : List BytePlace) → xs ≡ ys → Allows xs ys
allows-same xs ys e = subst (Allows xs) e (allows-itself xs)

-- A place once more, where it stands.

again : (p : BytePlace) (ys : List BytePlace) → Allows (p ∷ ys) (p ∷ p ∷ ys)
again p ys low high h = (h.0, (on-itself p, h.1))

-- the last of a row
last-again : (x : BytePlace) (xs ys : List BytePlace) → Allows (x ∷ (xs ++ ys)) (x ∷ (xs ++ (last_of x xs ∷ ys)))
last-again x [] ys low high h = (h.0, (on-itself x, h.1))
last-again x (y ∷ xs) ys low high h = (h.0, last-again y xs ys x high h.1)

-- a row between two places, in front of its first and behind its last
pub allows-around : (x : BytePlace) (xs : List BytePlace) → Allows (x ∷ xs) (x ∷ (x ∷ xs ++ (last_of x xs ∷ [])))
allows-around x xs = grind (arith, allows-then, again x xs, append-nil (x ∷ xs), last-again)

-- a row between the last place before it and the first behind it
pub allows-between : (x : BytePlace) (xs middle : List BytePlace) (y : BytePlace) (ys : List BytePlace) →
    Allows ((x ∷ xs) ++ (middle ++ (y ∷ ys))) ((x ∷ xs) ++ (last_of x xs ∷ (middle ++ (y ∷ y ∷ ys))))
allows-between x xs middle y ys =
    allows-then ((x ∷ xs) ++ (middle ++ (y ∷ ys))) ((x ∷ xs) ++ (middle ++ (y ∷ y ∷ ys))) ((x ∷ xs) ++ (last_of x xs ∷ (middle ++ (y ∷ y ∷ ys))))
    (allows-behind (x ∷ xs) (middle ++ (y ∷ ys)) (middle ++ (y ∷ y ∷ ys)) (allows-behind middle (y ∷ ys) (y ∷ y ∷ ys) (again y ys)))
    (last-again x xs (middle ++ (y ∷ y ∷ ys)))
