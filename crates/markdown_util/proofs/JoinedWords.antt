-- The words of a text joined by one space, a character at a time.
use Rattle.std.proofs.Common.{◌≡◌, ◌==◌, ◌∙◌, sym, ap, refl, ℕ, Bool, true, false, List, [], ◌∷◌, ◌++◌, ◌+◌, ◌<◌, ◌≤◌, length, get_or, drop, append-nil, append_assoc, arith}
use Rattle.std.specs.List.{slice_split, onto_first, filter, join_with_byte}
use Rattle.std.specs.Str.{encode_utf8_all}
use Rattle.std.specs.Char.{encode_utf8}
use Rattle.std.proofs.lemmas.List.{at_drop_more, at_drop_all}
use Rattle.std.proofs.lemmas.List.Splits.{slice_split-cons_yes, slice_split-cons_no}
use Rattle.std.proofs.lemmas.Str.{length-encode, len_utf8_bounds}
use Rattle.markdown_util.specs.Identifier.{separates_words, is_nonempty, words, joined_words}
use Rattle.markdown_util.proofs.ValueBytes.{eqb_off}

-- what further words add
abbrev pub more_words : List (List ℕ) → List ℕ
more_words [] = []
more_words (w ∷ ws) = 32 ∷ join_with_byte 32 (w ∷ ws)

-- what the parts of a text add where the first of them goes on a word
abbrev pub from_part : List (List ℕ) → List ℕ
from_part [] = []
from_part (p ∷ ps) = p ++ more_words (filter is_nonempty ps)

-- what a text still adds: behind a word and a space, in a word, or with no word yet
abbrev pub behind_word : List ℕ → List ℕ
behind_word cs = more_words (words cs)

abbrev pub within_word : List ℕ → List ℕ
within_word cs = from_part (slice_split separates_words cs)

unfoldable pub to_come : Bool → Bool → List ℕ → List ℕ
to_come true pending cs = joined_words cs
to_come false true cs = behind_word cs
to_come false false cs = within_word cs

join-cons : (w : List ℕ) (ws : List (List ℕ)) → join_with_byte 32 (w ∷ ws) ≡ w ++ more_words ws
join-cons w [] = sym (append-nil w)
join-cons w (v ∷ ws) = refl

words-space : (c : ℕ) (cs : List ℕ) → separates_words c ≡ true → words (c ∷ cs) ≡ words cs
words-space c cs h = ap (filter is_nonempty) (slice_split-cons_yes separates_words c cs h)

within-word : (c : ℕ) (cs : List ℕ) → separates_words c ≡ false → within_word (c ∷ cs) ≡ c ∷ within_word cs
within-word c cs h = ap from_part (slice_split-cons_no separates_words c cs h) ∙ go (slice_split separates_words cs)
  where
    go : (ps : List (List ℕ)) → from_part (onto_first c ps) ≡ c ∷ from_part ps
    go [] = refl
    go (p ∷ ps) = refl

joined-word : (c : ℕ) (cs : List ℕ) → separates_words c ≡ false → joined_words (c ∷ cs) ≡ c ∷ within_word cs
joined-word c cs h = ap (λ ps. join_with_byte 32 (filter is_nonempty ps)) (slice_split-cons_no separates_words c cs h) ∙ go (slice_split separates_words cs)
  where
    go : (ps : List (List ℕ)) → join_with_byte 32 (filter is_nonempty (onto_first c ps)) ≡ c ∷ from_part ps
    go [] = refl
    go (p ∷ ps) = join-cons (c ∷ p) (filter is_nonempty ps)

behind-word : (c : ℕ) (cs : List ℕ) → separates_words c ≡ false → behind_word (c ∷ cs) ≡ 32 ∷ c ∷ within_word cs
behind-word c cs h = ap (λ ps. more_words (filter is_nonempty ps)) (slice_split-cons_no separates_words c cs h) ∙ go (slice_split separates_words cs)
  where
    go : (ps : List (List ℕ)) → more_words (filter is_nonempty (onto_first c ps)) ≡ 32 ∷ c ∷ from_part ps
    go [] = refl
    go (p ∷ ps) = ap (λ cs. 32 ∷ cs) (join-cons (c ∷ p) (filter is_nonempty ps))

-- a space adds nothing yet
to_come-space : (fresh pending : Bool) (c : ℕ) (cs : List ℕ) → separates_words c ≡ true →
    to_come fresh pending (c ∷ cs) ≡ to_come fresh true cs
unfolding to_come
to_come-space true pending c cs h = ap (join_with_byte 32) (words-space c cs h)
to_come-space false true c cs h = ap more_words (words-space c cs h)
to_come-space false false c cs h = ap from_part (slice_split-cons_yes separates_words c cs h)

-- any other character adds itself, after a space where one is due
to_come-next : (c : ℕ) (cs : List ℕ) → separates_words c ≡ false →
    to_come false true (c ∷ cs) ≡ 32 ∷ c ∷ to_come false false cs
unfolding to_come
to_come-next c cs h = behind-word c cs h

to_come-fresh : (pending : Bool) (c : ℕ) (cs : List ℕ) → separates_words c ≡ false →
    to_come true pending (c ∷ cs) ≡ c ∷ to_come false false cs
unfolding to_come
to_come-fresh pending c cs h = joined-word c cs h

to_come-within : (c : ℕ) (cs : List ℕ) → separates_words c ≡ false →
    to_come false false (c ∷ cs) ≡ c ∷ to_come false false cs
unfolding to_come
to_come-within c cs h = within-word c cs h

to_come-end : (fresh pending : Bool) → to_come fresh pending [] ≡ []
unfolding to_come
to_come-end true pending = refl
to_come-end false true = refl
to_come-end false false = refl

-- The character at i is c, and what is joined so far makes the whole with what is still to come from i on.
pub record IsTurn (fresh pending : Bool) (bs total cs : List ℕ) (i c : ℕ) : Type 0 where
  pub inside : i < length cs
  pub read : c ≡ get_or cs i c
  pub whole : bs ++ encode_utf8_all (to_come fresh pending (drop i cs)) ≡ total

here : (cs : List ℕ) (i c : ℕ) → i < length cs → c ≡ get_or cs i c → drop i cs ≡ c ∷ drop (i + 1) cs
here cs i c h e = at_drop_more (λ xs. xs) cs i c h ∙ ap (λ x. x ∷ drop (i + 1) cs) (sym e)

come : (fresh pending : Bool) (bs total cs next : List ℕ) (i c : ℕ) → IsTurn fresh pending bs total cs i c →
    to_come fresh pending (c ∷ drop (i + 1) cs) ≡ next → bs ++ encode_utf8_all next ≡ total
come fresh pending bs total cs next i c t e =
    ap (λ xs. bs ++ encode_utf8_all xs) (sym (ap (to_come fresh pending) (here cs i c t.inside t.read) ∙ e)) ∙ t.whole

pub turn-start : (total cs bs : List ℕ) (fresh pending : Bool) → fresh ≡ true → bs ≡ [] →
    total ≡ encode_utf8_all (joined_words cs) → bs ++ encode_utf8_all (to_come fresh pending (drop 0 cs)) ≡ total
unfolding to_come
turn-start total cs bs fresh pending f e t = rw (f, e, t) refl

pub turn-end : (fresh pending : Bool) (bs total cs : List ℕ) (i : ℕ) → length cs ≤ i →
    bs ++ encode_utf8_all (to_come fresh pending (drop i cs)) ≡ total → bs ≡ total
turn-end fresh pending bs total cs i past h =
    sym (append-nil bs)
    ∙ ap (λ xs. bs ++ encode_utf8_all xs) (sym (at_drop_all (to_come fresh pending) cs i past ∙ to_come-end fresh pending)) ∙ h

-- a space
pub turn-space : (fresh pending : Bool) (bs total cs : List ℕ) (i c : ℕ) → IsTurn fresh pending bs total cs i c → separates_words c ≡ true
    → bs ++ encode_utf8_all (to_come fresh true (drop (i + 1) cs)) ≡ total
turn-space fresh pending bs total cs i c t h =
    come fresh pending bs total cs _ i c t (to_come-space fresh pending c (drop (i + 1) cs) h)

-- the first character of a further word, before which a space is pushed
pub turn-next : (fresh pending : Bool) (bs total cs : List ℕ) (i c : ℕ) → IsTurn fresh pending bs total cs i c → separates_words c ≡ false → fresh ≡ false → pending ≡ true
    → (bs ++ encode_utf8 32) ++ encode_utf8_all (c ∷ to_come false false (drop (i + 1) cs)) ≡ total
turn-next true pending bs total cs i c t h f p = cc
turn-next false false bs total cs i c t h f p = cc
turn-next false true bs total cs i c t h f p =
    append_assoc bs (encode_utf8 32) (encode_utf8_all (c ∷ to_come false false (drop (i + 1) cs)))
    ∙ come false true bs total cs _ i c t (to_come-next c (drop (i + 1) cs) h)

-- any other character of a word
pub turn-first : (fresh pending : Bool) (bs total cs : List ℕ) (i c : ℕ) → IsTurn fresh pending bs total cs i c → separates_words c ≡ false → fresh ≡ true
    → bs ++ encode_utf8_all (c ∷ to_come false false (drop (i + 1) cs)) ≡ total
turn-first false pending bs total cs i c t h f = cc
turn-first true pending bs total cs i c t h f =
    come true pending bs total cs _ i c t (to_come-fresh pending c (drop (i + 1) cs) h)

pub turn-within : (fresh pending : Bool) (bs total cs : List ℕ) (i c : ℕ) → IsTurn fresh pending bs total cs i c → separates_words c ≡ false → pending ≡ false
    → bs ++ encode_utf8_all (c ∷ to_come false false (drop (i + 1) cs)) ≡ total
turn-within fresh true bs total cs i c t h p = cc
turn-within true false bs total cs i c t h p =
    come true false bs total cs _ i c t (to_come-fresh false c (drop (i + 1) cs) h)
turn-within false false bs total cs i c t h p =
    come false false bs total cs _ i c t (to_come-within c (drop (i + 1) cs) h)

-- and then it is pushed
pub turn-push : (fresh : Bool) (bs new total cs : List ℕ) (i c : ℕ) → bs ++ encode_utf8_all (c ∷ to_come false false (drop (i + 1) cs)) ≡ total → new ≡ bs ++ encode_utf8 c → fresh ≡ false
    → new ++ encode_utf8_all (to_come fresh false (drop (i + 1) cs)) ≡ total
turn-push true bs new total cs i c h e f = cc
turn-push false bs new total cs i c h e f =
    ap (λ xs. xs ++ encode_utf8_all (to_come false false (drop (i + 1) cs))) e
    ∙ append_assoc bs (encode_utf8 c) (encode_utf8_all (to_come false false (drop (i + 1) cs))) ∙ h

pub same_whole : (new bs more total : List ℕ) → new ≡ bs → bs ++ more ≡ total → new ++ more ≡ total
same_whole new bs more total e h = ap (λ xs. xs ++ more) e ∙ h

-- a text to which a character was pushed is not empty
pub not_empty : (n m c : ℕ) → n ≡ m + length (encode_utf8 c) → (n == 0) ≡ false
not_empty n m c e = eqb_off n 0 (λ z. absurd (omega (arith, length-encode c, len_utf8_bounds c)))
