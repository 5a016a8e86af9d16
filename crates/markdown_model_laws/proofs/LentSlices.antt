-- What is lent for the leaves of a tree, by the codes that they cover.
use Rattle.std.proofs.Common.{◌≡◌, ℕ, ◌+◌, ◌-◌, ◌≤◌, nat_lt, true, false, List, [], ◌∷◌, ◌++◌, drop, map, if◌then◌else◌, refl, sym, subst, ◌∙◌, arith, append_assoc}
use Rattle.std.specs.Prelude.{slice_range}
use Rattle.markdown_content.proofs.VirtualSpaces.{byte-order}
use Rattle.std.proofs.lemmas.List.{drop-drop}
use Rattle.std.proofs.Math.Seq.{take-add}
use Rattle.std.proofs.lemmas.Bool.Decides.{nat_tests}
use Rattle.markdown_event.specs.declared.event.Name.{Name}
use Rattle.markdown_event.specs.declared.event.Point.{Point}
use Rattle.markdown_content.specs.Codes.{Code, stop_of, document_start, place_of}
use Rattle.markdown_content.specs.Slices.{position_bytes, byte_from}
use Rattle.markdown_content.specs.Tree.{Forest, empty, leaf_then, group_then, leaf_codes, start_of}
use Rattle.markdown_content.proofs.PlaceOrder.{is_before}
use Rattle.markdown_content.proofs.AdjacentCodes.{IsChain, chain-back, stop-later}
use Rattle.markdown_innermost.specs.InnermostEvents.{Span, lent, leaves_of}
use Rattle.markdown_model_laws.specs.EscapedText.{is_text, text_of}

-- Bytes between places.

pub slice-more : (bytes : List ℕ) (a b c : ℕ) → a ≤ b → b ≤ c →
    slice_range bytes a b ++ slice_range bytes b c ≡ slice_range bytes a c
slice-more bytes a b c h k = grind (arith, drop-drop (b - a) a bytes, take-add (b - a) (c - b) (drop a bytes))

pub slice-none : (bytes : List ℕ) (a : ℕ) → slice_range bytes a a ≡ []
slice-none bytes a = let none : a - a ≡ 0 = omega arith in rw none refl

from-later : (p q : Point) → is_before (place_of q) (place_of p) ≡ false → byte_from p ≤ byte_from q
from-later p q h = byte-order p.index p.vs q.index q.vs h

-- the bytes of each code, joined
abbrev pub codes_bytes : List ℕ → List Code → List ℕ
codes_bytes bytes [] = []
codes_bytes bytes (c ∷ cs) = position_bytes bytes c.start c.stop ++ codes_bytes bytes cs

pub codes_bytes-append : (bytes : List ℕ) (cs ds : List Code) →
    codes_bytes bytes (cs ++ ds) ≡ codes_bytes bytes cs ++ codes_bytes bytes ds
codes_bytes-append bytes [] ds = refl
codes_bytes-append bytes (c ∷ cs) ds = grind (arith, codes_bytes-append bytes cs ds, append_assoc)

-- codes that follow one another are lent as one
chain-bytes : (bytes : List ℕ) (p : Point) (cs back : List Code) → IsChain p (cs ++ back) →
    position_bytes bytes p (stop_of p cs) ≡ codes_bytes bytes cs
chain-bytes bytes p [] back h = slice-none bytes (byte_from p)
chain-bytes bytes p (c ∷ cs) back h =
    sym (slice-more bytes (byte_from p) (byte_from c.stop) (byte_from (stop_of c.stop cs)) first (from-later c.stop (stop_of c.stop cs) (stop-later c.stop cs back h.2)))
    ∙ (λ i. position_bytes bytes (sym h.0 i) c.stop ++ chain-bytes bytes c.stop cs back h.2 i)
  where
    later-numbers : (i v j w : ℕ) → is_before (i, v) (j, w) ≡ true →
        (if nat_lt 0 v then i + 1 else i) ≤ (if nat_lt 0 w then j + 1 else j)
    later-numbers i v j w k = grind (arith, nat_tests)

    first : byte_from p ≤ byte_from c.stop
    first = later-numbers p.index p.vs c.stop.index c.stop.vs h.1

leaf-bytes : (bytes : List ℕ) (p : Point) (cs back : List Code) → IsChain p (cs ++ back) →
    position_bytes bytes (start_of cs) (stop_of document_start cs) ≡ codes_bytes bytes cs
leaf-bytes bytes p [] back h = slice-none bytes (byte_from document_start)
leaf-bytes bytes p (c ∷ cs) back h = grind (arith, chain-bytes bytes p (c ∷ cs) back h)

-- The text of a tree.

-- the codes of leaves that are text
abbrev pub kept : Forest → List Code
kept empty = []
kept (leaf_then name link cs rest) = (if is_text name then cs else []) ++ kept rest
kept (group_then name a b inside rest) = kept inside ++ kept rest

-- no group is text
abbrev pub HasNoTextGroup : Forest → Type 0
HasNoTextGroup empty = Unit {0}
HasNoTextGroup (leaf_then name link cs rest) = HasNoTextGroup rest
HasNoTextGroup (group_then name a b inside rest) = (is_text name ≡ false) × HasNoTextGroup inside × HasNoTextGroup rest

abbrev spans_text : List ℕ → List Span → List ℕ
spans_text bytes ss = text_of (map (lent bytes) ss)

span-text : (bytes : List ℕ) (s : Span) (ss : List Span) →
    spans_text bytes (s ∷ ss) ≡ (if is_text s.name then position_bytes bytes s.start s.end else []) ++ spans_text bytes ss
unfolding lent
span-text bytes s ss = refl

spans_text-append : (bytes : List ℕ) (ss ts : List Span) →
    spans_text bytes (ss ++ ts) ≡ spans_text bytes ss ++ spans_text bytes ts
spans_text-append bytes [] ts = refl
spans_text-append bytes (s ∷ ss) ts = grind (arith, span-text, spans_text-append bytes ss ts, append_assoc)

abbrev SliceLaw : List ℕ → Forest → Type 0
SliceLaw bytes t =
    (p : Point) (back : List Code) → IsChain p (leaf_codes t ++ back) → HasNoTextGroup t → spans_text bytes (leaves_of t) ≡ codes_bytes bytes (kept t)

leaf-law : (bytes : List ℕ) (name : Name) (cs : List Code) (ss : List Span) (ds : List Code) → position_bytes bytes (start_of cs) (stop_of document_start cs) ≡ codes_bytes bytes cs
    → spans_text bytes ss ≡ codes_bytes bytes ds → spans_text bytes (record { name = name; start = start_of cs; end = stop_of document_start cs } ∷ ss) ≡ codes_bytes bytes ((if is_text name then cs else []) ++ ds)
leaf-law bytes name cs ss ds h k = grind (arith, span-text, codes_bytes-append)

nothing-law : (bytes : List ℕ) (name : Name) (a b : Point) (ss : List Span) → is_text name ≡ false →
    spans_text bytes (record { name = name; start = a; end = b } ∷ ss) ≡ spans_text bytes ss
nothing-law bytes name a b ss h = grind (arith, span-text)

group-law : (bytes : List ℕ) (inside rest : Forest) → SliceLaw bytes inside → SliceLaw bytes rest → (p : Point) (back : List Code) → IsChain p ((leaf_codes inside ++ leaf_codes rest) ++ back)
    → HasNoTextGroup inside → HasNoTextGroup rest → spans_text bytes (leaves_of inside ++ leaves_of rest) ≡ codes_bytes bytes (kept inside ++ kept rest)
group-law bytes inside rest in_law rest_law p back h k l = grind (arith, append_assoc, spans_text-append, chain-back, codes_bytes-append)

-- what is lent for the leaves of a tree that are text is the bytes of their codes
pub kept-lent : (bytes : List ℕ) (t : Forest) → SliceLaw bytes t
kept-lent bytes empty p back h k = refl
kept-lent bytes (leaf_then name link cs rest) p back h k =
    let apart : IsChain p (cs ++ (leaf_codes rest ++ back)) = subst (λ xs. IsChain p xs) (append_assoc cs (leaf_codes rest) back) h in
    leaf-law bytes name cs (leaves_of rest) (kept rest) (leaf-bytes bytes p cs (leaf_codes rest ++ back) apart)
    (kept-lent bytes rest (stop_of p cs) back (chain-back p cs (leaf_codes rest ++ back) apart) k)
kept-lent bytes (group_then name a b empty rest) p back h k = grind (arith, nothing-law, kept-lent bytes rest p back h k.2)
kept-lent bytes (group_then name a b (leaf_then m l cs more) rest) p back h k =
    group-law bytes (leaf_then m l cs more) rest (kept-lent bytes (leaf_then m l cs more)) (kept-lent bytes rest) p back h k.1 k.2
kept-lent bytes (group_then name a b (group_then m c d inner more) rest) p back h k =
    group-law bytes (group_then m c d inner more) rest (kept-lent bytes (group_then m c d inner more)) (kept-lent bytes rest) p back h k.1 k.2
