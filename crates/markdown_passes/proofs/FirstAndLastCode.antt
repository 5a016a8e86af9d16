-- the first and the last code of a stretch
use Rattle.std.proofs.Common.{◌≡◌, ℕ, ◌+◌, ◌-◌, ◌<◌, ◌≤◌, ◌==◌, ◌&&◌, ◌||◌, nat_lt, Bool, true, false, List, [], ◌∷◌, ◌++◌, length, drop, reverse, get_or, refl, sym, ap, ◌∙◌, arith, inl, inr, if◌then◌else◌}
use Rattle.std.proofs.lemmas.List.{drop_more, get_or-drop, reverse-append}
use Rattle.std.proofs.lemmas.Bool.Decides.{nat_tests}
use Rattle.markdown_content.specs.Codes.{Code, is_blank, place_of, tab_value, line_feed, carriage_return, space_value, is_line_ending_byte, line_ending_len, line_start, next_column}
use Rattle.markdown_content.specs.DocumentWalk.{value_from}
use Rattle.markdown_event.specs.declared.event.Point.{Point}
use Rattle.markdown_content.proofs.AdjacentCodes.{head_same, tail_same, cons≢nil}
use Rattle.markdown_content.proofs.PlaceOrder.{is_before, before-reach}
use Rattle.markdown_content.proofs.DocumentPlaces.{stands-point}
use Rattle.markdown_content.proofs.DocumentCodes.{code_here, stop_at, tab_left, len-bounds}
use Rattle.markdown_model.specs.CodeTests.{next_is}
use Rattle.markdown_passes.specs.TrimmedData.{between, IsStretch, is_same_place, starts_blank, ends_blank}
use Rattle.markdown_passes.proofs.TrimmedLeaves.{none-ends}
use Rattle.markdown_passes.proofs.TrimWalks.{IsBegun, IsEnded, backward, begun-where, ended-where, stretch-cases}
use Rattle.markdown_plan.specs.ByteTests.{at_blank}

-- The code before a place.

abbrev pub blank_byte : ℕ → Bool
blank_byte b = b == space_value || b == tab_value

-- it is blank: the place is inside a tab, or a blank byte stands before it
abbrev pub blank_before : List ℕ → Point → Bool
blank_before bytes q = nat_lt 0 q.vs || blank_byte (get_or bytes (q.index - 1) 0)

not-blank : (b : ℕ) → is_line_ending_byte b ≡ true → false ≡ blank_byte b
not-blank b h = grind (arith, nat_tests)

feed-not-blank : (b c : ℕ) → (b == carriage_return && c == line_feed) ≡ true → false ≡ blank_byte c
feed-not-blank b c h = grind (arith, nat_tests)

ending-last : (b : ℕ) (rest : List ℕ) → is_line_ending_byte b ≡ true →
    false ≡ blank_byte (get_or (b ∷ rest) (line_ending_len b rest - 1) 0)
ending-last b [] h = not-blank b h
ending-last b (c ∷ cs) h = by-feed (b == carriage_return && c == line_feed) refl
  where
    by-feed : (t : Bool) → (b == carriage_return && c == line_feed) ≡ t →
        false ≡ blank_byte (get_or (b ∷ c ∷ cs) ((if t then 2 else 1) - 1) 0)
    by-feed true e = feed-not-blank b c e
    by-feed false e = not-blank b h

tab-blank : (b : ℕ) → (b == tab_value) ≡ true → blank_byte b ≡ true
tab-blank b h = grind (arith, nat_tests)

inside-more : (n : ℕ) → nat_lt 0 (n + 1) ≡ true
inside-more n = grind (arith, nat_tests)

or-left : (a b : Bool) → a ≡ true → true ≡ a || b
or-left true b h = refl
or-left false b h = cc

byte-before : (bytes : List ℕ) (i : ℕ) → get_or bytes (i + 1 - 1) 0 ≡ get_or bytes i 0
byte-before bytes i = let same : i + 1 - 1 ≡ i = omega arith in ap (λ n. get_or bytes n 0) same

value-in-tab : (b : ℕ) (t : Bool) → (b == tab_value) ≡ true → blank_byte (if t then space_value else b) ≡ true
value-in-tab b true h = refl
value-in-tab b false h = tab-blank b h

stop-in-tab : (bytes : List ℕ) (p : Point) (t : Bool) → (get_or bytes p.index 0 == tab_value) ≡ true →
    true ≡ blank_before bytes (if t then next_column p p.index (p.vs + 1) else next_column p (p.index + 1) 0)
stop-in-tab bytes p true h =
    or-left (nat_lt 0 (p.vs + 1)) (blank_byte (get_or bytes (p.index - 1) 0)) (inside-more p.vs)
stop-in-tab bytes p false h = sym (ap blank_byte (byte-before bytes p.index) ∙ tab-blank (get_or bytes p.index 0) h)

ending-here : (bytes : List ℕ) (p : Point) → p.index < length bytes →
    is_line_ending_byte (get_or bytes p.index 0) ≡ true →
    false ≡ blank_byte (get_or bytes (p.index + line_ending_len (get_or bytes p.index 0) (drop (p.index + 1) bytes) - 1) 0)
ending-here bytes p l h =
    let b : ℕ = get_or bytes p.index 0 in
    let rest : List ℕ = drop (p.index + 1) bytes in
    let n : ℕ = line_ending_len b rest in
    let some : 1 ≤ n = (len-bounds b rest).0 in
    let same : p.index + (n - 1) ≡ p.index + n - 1 = omega (arith, some) in
    ending-last b rest h
    ∙ ap (λ xs. blank_byte (get_or xs (n - 1) 0)) (sym (drop_more bytes p.index 0 l))
    ∙ ap blank_byte (get_or-drop p.index bytes (n - 1) 0)
    ∙ ap (λ i. blank_byte (get_or bytes i 0)) same

-- a code is blank where it is so by the place behind it
here-blank : (bytes : List ℕ) (p : Point) → p.index < length bytes →
    is_blank (code_here bytes p) ≡ blank_before bytes (stop_at bytes p)
here-blank bytes p l = by-ending (is_line_ending_byte (get_or bytes p.index 0)) refl
  where
    by-tab : (t : Bool) → (get_or bytes p.index 0 == tab_value) ≡ t →
        blank_byte (if t && nat_lt 0 p.vs then space_value else get_or bytes p.index 0) ≡ blank_before bytes (if t && nat_lt 0 (tab_left p) then next_column p p.index (p.vs + 1) else next_column p (p.index + 1) 0)
    by-tab true e =
        value-in-tab (get_or bytes p.index 0) (nat_lt 0 p.vs) e ∙ stop-in-tab bytes p (nat_lt 0 (tab_left p)) e
    by-tab false e = sym (ap blank_byte (byte-before bytes p.index))

    by-ending : (t : Bool) → is_line_ending_byte (get_or bytes p.index 0) ≡ t →
        is_blank (code_here bytes p) ≡ blank_before bytes (stop_at bytes p)
    by-ending true e =
        ap (λ t. blank_byte (if t then line_feed else (if get_or bytes p.index 0 == tab_value && nat_lt 0 p.vs then space_value else get_or bytes p.index 0))) e
        ∙ ending-here bytes p l e
        ∙ ap (λ t. blank_before bytes (if t then line_start (p.line + 1) (p.index + line_ending_len (get_or bytes p.index 0) (drop (p.index + 1) bytes)) else (if get_or bytes p.index 0 == tab_value && nat_lt 0 (tab_left p) then next_column p p.index (p.vs + 1) else next_column p (p.index + 1) 0))) (sym e)
    by-ending false e =
        ap (λ t. blank_byte (if t then line_feed else (if get_or bytes p.index 0 == tab_value && nat_lt 0 p.vs then space_value else get_or bytes p.index 0))) e
        ∙ by-tab (get_or bytes p.index 0 == tab_value) refl
        ∙ ap (λ t. blank_before bytes (if t then line_start (p.line + 1) (p.index + line_ending_len (get_or bytes p.index 0) (drop (p.index + 1) bytes)) else (if get_or bytes p.index 0 == tab_value && nat_lt 0 (tab_left p) then next_column p p.index (p.vs + 1) else next_column p (p.index + 1) 0))) (sym e)

-- The last code.

first-more : (xs : List Code) (d : Code) (ys : List Code) →
    next_is is_blank ((xs ++ d ∷ []) ++ ys) ≡ next_is is_blank (xs ++ d ∷ [])
first-more [] d ys = refl
first-more (x ∷ xs) d ys = refl

ends-more : (c d : Code) (cs : List Code) → ends_blank (c ∷ d ∷ cs) ≡ ends_blank (d ∷ cs)
ends-more c d cs =
    ap (next_is is_blank) (reverse-append (c ∷ []) (d ∷ cs))
    ∙ ap (λ xs. next_is is_blank (xs ++ c ∷ [])) (reverse-append (d ∷ []) cs)
    ∙ first-more (reverse cs) d (c ∷ [])
    ∙ ap (next_is is_blank) (sym (reverse-append (d ∷ []) cs))

ends-where : (bytes : List ℕ) (p q : Point) (c : Code) (cs : List Code) → IsStretch bytes p q → IsBegun bytes p q →
    between bytes p q ≡ c ∷ cs → ends_blank (c ∷ cs) ≡ blank_before bytes q
ends-where bytes p q c [] s f e =
    let same : c ≡ code_here bytes p = head_same c (code_here bytes p) [] (between bytes (stop_at bytes p) q) (sym e ∙ f.codes) in
    let none : [] ≡ between bytes (stop_at bytes p) q = tail_same c (code_here bytes p) [] (between bytes (stop_at bytes p) q) (sym e ∙ f.codes) in
    let end : IsEnded bytes (stop_at bytes p) q = none-ends bytes (stop_at bytes p) q f.stretch (sym none) in
    ap is_blank same ∙ here-blank bytes p f.in_bytes ∙ ap (blank_before bytes) end.point
ends-where bytes p q c (d ∷ cs) s f e =
    let rest : d ∷ cs ≡ between bytes (stop_at bytes p) q = tail_same c (code_here bytes p) (d ∷ cs) (between bytes (stop_at bytes p) q) (sym e ∙ f.codes) in
    ends-more c d cs
    ∙ elim (stretch-cases bytes (stop_at bytes p) q f.stretch) [
      | inl g ↦ ends-where bytes (stop_at bytes p) q d cs f.stretch g (sym rest)
      | inr n ↦ absurd (cons≢nil d cs (rest ∙ n.none))
    ]

-- a stretch with a code ends with the code before its end
pub ends-is : (bytes : List ℕ) (p q : Point) → IsStretch bytes p q → is_same_place p q ≡ false →
    ends_blank (between bytes p q) ≡ blank_before bytes q
ends-is bytes p q s h =
    let f : IsBegun bytes p q = begun-where bytes p q s h in
    ap ends_blank f.codes ∙ ends-where bytes p q (code_here bytes p) (between bytes (stop_at bytes p) q) s f f.codes

pub ends-none : (bytes : List ℕ) (p q : Point) → IsStretch bytes p q → is_same_place p q ≡ true →
    ends_blank (between bytes p q) ≡ false
ends-none bytes p q s h = ap ends_blank (ended-where bytes p q s h).none

-- a stretch begins with the code at its start
pub starts-is : (bytes : List ℕ) (p q : Point) → IsStretch bytes p q → is_same_place p q ≡ false →
    starts_blank (between bytes p q) ≡ at_blank (value_from bytes p)
starts-is bytes p q s h =
    let f : IsBegun bytes p q = begun-where bytes p q s h in ap starts_blank f.codes ∙ sym (ap at_blank f.value)

pub starts-none : (bytes : List ℕ) (p q : Point) → IsStretch bytes p q → is_same_place p q ≡ true →
    starts_blank (between bytes p q) ≡ false
starts-none bytes p q s h = ap starts_blank (ended-where bytes p q s h).none

later-index : (i v a : ℕ) → is_before (i, v) (a, 0) ≡ true → 1 ≤ a
later-index i v a h = grind (arith, nat_tests)

-- the byte before the end of a stretch with a code, where the end is not inside a tab
pub end-within : (bytes : List ℕ) (p q : Point) → IsStretch bytes p q → is_same_place p q ≡ false → q.vs ≡ 0 →
    (1 ≤ q.index) × (q.index ≤ length bytes)
end-within bytes p q s h v =
    let f : IsBegun bytes p q = begun-where bytes p q s h in
    let before : is_before (place_of p) (place_of q) ≡ true = before-reach (place_of p) (place_of (stop_at bytes p)) (place_of q) f.later (backward bytes (stop_at bytes p) q f.stretch) in
    (later-index p.index p.vs q.index (ap (λ k. is_before (p.index, p.vs) (q.index, k)) (sym v) ∙ before), (stands-point bytes q s.to_place).in_bytes)

inside-yes : (v : ℕ) → 0 < v → nat_lt 0 v ≡ true
inside-yes v h = grind (arith, nat_tests)

-- a stretch that ends inside a tab ends with a blank code
pub ends-inside : (bytes : List ℕ) (p q : Point) → IsStretch bytes p q → is_same_place p q ≡ false → 0 < q.vs →
    nat_lt 0 q.vs ≡ ends_blank (between bytes p q)
ends-inside bytes p q s h k =
    inside-yes q.vs k
    ∙ or-left (nat_lt 0 q.vs) (blank_byte (get_or bytes (q.index - 1) 0)) (inside-yes q.vs k)
    ∙ sym (ends-is bytes p q s h)

-- any other ends with a byte
pub ends-byte : (bytes : List ℕ) (p q : Point) → IsStretch bytes p q → is_same_place p q ≡ false → q.vs ≡ 0 →
    blank_byte (get_or bytes (q.index - 1) 0) ≡ ends_blank (between bytes p q)
ends-byte bytes p q s h k =
    ap (λ v. nat_lt 0 v || blank_byte (get_or bytes (q.index - 1) 0)) (sym k) ∙ sym (ends-is bytes p q s h)
