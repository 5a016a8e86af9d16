-- Lowercase ASCII letters are their own identifier.
use Rattle.std.proofs.Common.{◌≡◌, ◌∙◌, sym, ap, refl, ℕ, ◌+◌, ◌<◌, Bool, true, false, List, [], ◌∷◌, ◌++◌, ◌-◌, get_or, length, length-drop, take, drop, map, subst, IsAscii, arith}
use Rattle.std.specs.Char.{is_ascii_lowercase, to_ascii_lowercase}
use Rattle.std.specs.List.{All, slice_range, join_with_byte, filter}
use Rattle.std.specs.Str.{byte, encode_utf8_all}
use Rattle.std.proofs.lemmas.List.{take_more, get_or-drop}
use Rattle.std.proofs.lemmas.Bool.Decides.{nat_tests}
use Rattle.std.proofs.lemmas.List.Elements.{All-nil, All-cons, All-append, All-weaker, All-head, All-tail}
use Rattle.std.proofs.lemmas.List.Splits.{slice_split_none}
use Rattle.std.proofs.lemmas.Str.{chars-IsAscii, encodes-IsAscii, IsCharBoundary-after_ascii}
use Rattle.std.proofs.lemmas.Str.Ascii.{IsAscii-from_all}
use Rattle.caseless.specs.Caseless.{default_case_fold}
use Rattle.markdown_util.specs.Identifier.{separates_words, is_nonempty, joined_words, identifier_by, identifier_of, read_text, replaced_nul}
use Rattle.markdown_util.proofs.AsciiFold.{folded-ascii}
use Rattle.markdown_label_names.specs.IdentifierFronts.{AreCuts}

abbrev pub IsLetter : ℕ → Type 0
IsLetter b = is_ascii_lowercase b ≡ true

small : (b : ℕ) → IsLetter b → b < 128
small b k = grind (arith, nat_tests)

ascii : (bs : List ℕ) → All IsLetter bs → IsAscii bs
ascii bs h = IsAscii-from_all bs (All-weaker IsLetter (λ b. b < 128) small bs h)

joined-one : (bs : List ℕ) → join_with_byte (byte " ") (filter is_nonempty (bs ∷ [])) ≡ bs
joined-one [] = refl
joined-one (b ∷ bs) = refl

joined-letters : (bs : List ℕ) → All IsLetter bs → joined_words bs ≡ bs
joined-letters bs h =
    ap (λ ps. join_with_byte (byte " ") (filter is_nonempty ps))
    (slice_split_none separates_words bs (All-weaker IsLetter (λ b. separates_words b ≡ false) (λ b k. grind (arith, nat_tests)) bs h))
    ∙ joined-one bs

lower-one : (b : ℕ) → IsLetter b → to_ascii_lowercase b ≡ b
lower-one b k = grind (arith, nat_tests)

lower-letters : (bs : List ℕ) → All IsLetter bs → map to_ascii_lowercase bs ≡ bs
lower-letters [] h = refl
lower-letters (b ∷ bs) h = cc (lower-one b (All-head IsLetter b bs h), lower-letters bs (All-tail IsLetter b bs h))

letters-kept : (bs : List ℕ) → All IsLetter bs → identifier_of bs ≡ bs
unfolding identifier_of
letters-kept bs h =
    let plain : IsAscii bs = ascii bs h in
    ap (λ cs. encode_utf8_all (default_case_fold (joined_words cs))) (chars-IsAscii bs plain)
    ∙ ap (λ cs. encode_utf8_all (default_case_fold cs)) (joined-letters bs h)
    ∙ folded-ascii bs bs (sym (encodes-IsAscii bs plain)) plain
    ∙ lower-letters bs h

-- and none of them is NUL
none-nul : (bs : List ℕ) → All IsLetter bs → map replaced_nul bs ≡ bs
none-nul [] h = refl
none-nul (b ∷ bs) h = cc (one b (All-head IsLetter b bs h), none-nul bs (All-tail IsLetter b bs h))
  where
    one : (b : ℕ) → IsLetter b → replaced_nul b ≡ b
    one b k = grind (arith, nat_tests)

read-letters : (replaced : Bool) (bs : List ℕ) → All IsLetter bs → read_text replaced bs ≡ bs
read-letters false bs h = refl
read-letters true bs h =
    let plain : IsAscii bs = ascii bs h in
    ap (λ cs. encode_utf8_all (map replaced_nul cs)) (chars-IsAscii bs plain) ∙ ap encode_utf8_all (none-nul bs h) ∙ encodes-IsAscii bs plain

-- a part of a text that is such letters
pub record IsWord (bs : List ℕ) (from to : ℕ) : Type 0 where
  pub cuts : AreCuts bs from to
  pub letters : All IsLetter (slice_range bs from to)

pub word-none : (bs : List ℕ) (i k : ℕ) → AreCuts bs i k → IsWord bs i i
word-none bs i k c =
    let none : 0 ≡ i - i = omega arith in
    record {
      cuts = record { text = c.text; in_order = omega arith; first = c.first; last = c.first };
      letters = subst (λ n. All IsLetter (take n (drop i bs))) none (All-nil IsLetter);
    }

pub word-more : (bs : List ℕ) (i j : ℕ) → IsWord bs i j → j < length bs → IsLetter (get_or bs j 0) → IsWord bs i (j + 1)
word-more bs i j w h k =
    let b : ℕ = get_or bs j 0 in
    let more : slice_range bs i (j + 1) ≡ slice_range bs i j ++ b ∷ [] =
    ap (λ n. take n (drop i bs)) (omega (arith, w.cuts.in_order))
    ∙ take_more (drop i bs) (j - i) 0 (omega (arith, length-drop i bs, w.cuts.in_order, h))
    ∙ ap (λ x. slice_range bs i j ++ x ∷ []) (get_or-drop i bs (j - i) 0 ∙ ap (λ n. get_or bs n 0) (omega (arith, w.cuts.in_order))) in
    record {
      cuts = record { text = w.cuts.text; in_order = omega (arith, w.cuts.in_order); first = w.cuts.first; last = IsCharBoundary-after_ascii bs j w.cuts.text h (small b k) };
      letters = subst (All IsLetter) (sym more) (All-append IsLetter (slice_range bs i j) (b ∷ []) w.letters (All-cons IsLetter b [] k (All-nil IsLetter)));
    }

pub word-kept : (bs : List ℕ) (i j : ℕ) → IsWord bs i j → (replaced : Bool) → identifier_by replaced (slice_range bs i j) ≡ slice_range bs i j
word-kept bs i j w replaced = ap identifier_of (read-letters replaced (slice_range bs i j) w.letters) ∙ letters-kept (slice_range bs i j) w.letters
