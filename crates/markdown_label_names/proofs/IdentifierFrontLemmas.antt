-- The identifier of a text begins with the identifier of what the text begins with.
use Rattle.std.proofs.Common.{◌≡◌, ◌∙◌, sym, ap, refl, subst, ℕ, Bool, true, false, ◌&&◌, ◌==◌, List, [], ◌∷◌, ◌++◌, length, drop, append-nil, append_assoc, length-take, length-drop, ◌≤◌, ◌+◌, ◌-◌, take, arith}
use Rattle.std.specs.List.{flat_map, filter, join_with_byte, onto_first, slice_split, starts_with, slice_range}
use Rattle.std.proofs.Math.Bool.{and-false}
use Rattle.std.specs.Str.{IsUtf8, bytes_eq, chars, encode_utf8_all, IsCharBoundary}
use Rattle.std.proofs.lemmas.Bool.{false≢true, or_parts, or_from}
use Rattle.std.proofs.lemmas.Bool.Decides.{Decides-eqb}
use Rattle.std.proofs.lemmas.Grind.{flat_map-append}
use Rattle.std.proofs.lemmas.List.Folds.{drop_split}
use Rattle.std.proofs.Math.Seq.{take-append-add}
use Rattle.std.proofs.lemmas.List.Splits.{slice_split-cons_yes, slice_split-cons_no, length-slice_split}
use Rattle.std.proofs.lemmas.Slice.Eq.{bytes_eq-Decides, starts_is}
use Rattle.std.proofs.lemmas.Str.{chars-append, encodes-append, IsUtf8-between}
use Rattle.caseless.proofs.CaselessLemmas.{default_case_fold-append}
use Rattle.caseless.specs.Caseless.{default_case_fold}
use Rattle.markdown_util.specs.Identifier.{separates_words, is_nonempty, joined_words, identifier_of}
use Rattle.markdown_content.specs.declared.label_kind.LabelKind.{LabelKind}
use Rattle.markdown_model.specs.LabelEnd.{is_footnote, with_caret}
use Rattle.markdown_model.specs.Setting.{Setting, is_defined}
use Rattle.markdown_label_names.specs.IdentifierFronts.{AreCuts, IsUnknown, begins_one, begins_defined}

-- the second begins with the first
abbrev pub IsFrontOf : List ℕ → List ℕ → Type 0
IsFrontOf front whole = (more : List ℕ) × (whole ≡ front ++ more)

-- Where a text is cut, one part may be cut in two.

record Seam (xs ys : List ℕ) : Type 0 where
  before : List (List ℕ)
  left : List ℕ
  right : List ℕ
  after : List (List ℕ)
  front : slice_split separates_words xs ≡ before ++ left ∷ []
  whole : slice_split separates_words (xs ++ ys) ≡ before ++ (left ++ right) ∷ after

seam-nil : (ys : List ℕ) → Seam [] ys
seam-nil ys = go (slice_split separates_words ys) refl
  where
    go : (ps : List (List ℕ)) → slice_split separates_words ys ≡ ps → Seam [] ys
    go [] e = absurd (omega (arith, length-slice_split separates_words ys, ap length e))
    go (p ∷ ps) e = record { before = []; left = []; right = p; after = ps; front = refl; whole = e }

onto-parts : (x : ℕ) (before : List (List ℕ)) (left : List ℕ) →
    (b : List (List ℕ)) × (l : List ℕ) × ((right : List ℕ) (after : List (List ℕ)) → onto_first x (before ++ (left ++ right) ∷ after) ≡ b ++ (l ++ right) ∷ after)
onto-parts x [] left = ([], x ∷ left, λ right after. refl)
onto-parts x (p ∷ before) left = ((x ∷ p) ∷ before, left, λ right after. refl)

seam : (xs ys : List ℕ) → Seam xs ys
seam [] ys = seam-nil ys
seam (x ∷ xs) ys = go (seam xs ys) (separates_words x) refl
  where
    go : Seam xs ys → (b : Bool) → separates_words x ≡ b → Seam (x ∷ xs) ys
    go s true e = record {
      before = [] ∷ s.before;
      left = s.left;
      right = s.right;
      after = s.after;
      front = slice_split-cons_yes separates_words x xs e ∙ ap (λ ps. [] ∷ ps) s.front;
      whole = slice_split-cons_yes separates_words x (xs ++ ys) e ∙ ap (λ ps. [] ∷ ps) s.whole;
    }
    go s false e =
        let parts = onto-parts x s.before s.left in
        record {
          before = parts.0;
          left = parts.1;
          right = s.right;
          after = s.after;
          front = slice_split-cons_no separates_words x xs e ∙ ap (onto_first x) (s.front ∙ ap (λ l. s.before ++ l ∷ []) (sym (append-nil s.left))) ∙ parts.2 [] [] ∙ ap (λ l. parts.0 ++ l ∷ []) (append-nil parts.1);
          whole = slice_split-cons_no separates_words x (xs ++ ys) e ∙ ap (onto_first x) s.whole ∙ parts.2 s.right s.after;
        }

-- The words, each behind a space.

abbrev spaced : List ℕ → List ℕ
spaced [] = []
spaced (c ∷ cs) = 32 ∷ c ∷ cs

spaced-begins : (left right : List ℕ) → IsFrontOf (spaced left) (spaced (left ++ right))
spaced-begins [] right = (spaced right, refl)
spaced-begins (c ∷ cs) right = (right, refl)

join-cons : (w : List ℕ) (ws : List (List ℕ)) → join_with_byte 32 (w ∷ ws) ≡ w ++ flat_map (λ v. 32 ∷ v) ws
join-cons w [] = sym (append-nil w)
join-cons w (v ∷ ws) = ap (λ xs. w ++ (32 ∷ xs)) (join-cons v ws)

join-drop : (ws : List (List ℕ)) → join_with_byte 32 ws ≡ drop 1 (flat_map (λ v. 32 ∷ v) ws)
join-drop [] = refl
join-drop (w ∷ ws) = join-cons w ws

spaced-words : (ps : List (List ℕ)) → flat_map (λ v. 32 ∷ v) (filter is_nonempty ps) ≡ flat_map spaced ps
spaced-words [] = refl
spaced-words ([] ∷ ps) = spaced-words ps
spaced-words ((c ∷ cs) ∷ ps) = ap (λ xs. 32 ∷ c ∷ cs ++ xs) (spaced-words ps)

joined-drop : (cs : List ℕ) → joined_words cs ≡ drop 1 (flat_map spaced (slice_split separates_words cs))
joined-drop cs =
    join-drop (filter is_nonempty (slice_split separates_words cs)) ∙ ap (drop 1) (spaced-words (slice_split separates_words cs))

spaced-front : (xs ys : List ℕ) →
    IsFrontOf (flat_map spaced (slice_split separates_words xs)) (flat_map spaced (slice_split separates_words (xs ++ ys)))
spaced-front xs ys =
    let s = seam xs ys in
    let b = spaced-begins s.left s.right in
    let all : List ℕ = flat_map spaced s.before in
    let rest : List ℕ = flat_map spaced s.after in (
      b.0 ++ rest,
      ap (flat_map spaced) s.whole ∙ flat_map-append spaced s.before ((s.left ++ s.right) ∷ s.after)
          ∙ ap (λ xs. all ++ (xs ++ rest)) b.1 ∙ ap (λ xs. all ++ xs) (append_assoc (spaced s.left) b.0 rest)
          ∙ sym (append_assoc all (spaced s.left) (b.0 ++ rest))
          ∙ ap (λ xs. xs ++ (b.0 ++ rest)) (sym (ap (flat_map spaced) s.front ∙ flat_map-append spaced s.before (s.left ∷ []) ∙ ap (λ xs. all ++ xs) (append-nil (spaced s.left)))),
    )

drop-begins : (front whole : List ℕ) → IsFrontOf front whole → IsFrontOf (drop 1 front) (drop 1 whole)
drop-begins [] whole b = (drop 1 whole, refl)
drop-begins (x ∷ front) whole b = (b.0, ap (drop 1) b.1)

joined-front : (xs ys : List ℕ) → IsFrontOf (joined_words xs) (joined_words (xs ++ ys))
joined-front xs ys =
    let b = drop-begins _ _ (spaced-front xs ys) in
    (b.0, joined-drop (xs ++ ys) ∙ b.1 ∙ ap (λ zs. zs ++ b.0) (sym (joined-drop xs)))

-- Case folding and UTF-8 go character by character.

folded-front : (front whole : List ℕ) → IsFrontOf front whole →
    IsFrontOf (encode_utf8_all (default_case_fold front)) (encode_utf8_all (default_case_fold whole))
folded-front front whole b = (
  encode_utf8_all (default_case_fold b.0),
  ap (λ cs. encode_utf8_all (default_case_fold cs)) b.1 ∙ ap encode_utf8_all (default_case_fold-append front b.0) ∙ encodes-append (default_case_fold front) (default_case_fold b.0),
)

pub identifier-front : (xs ys : List ℕ) → IsUtf8 xs → IsFrontOf (identifier_of xs) (identifier_of (xs ++ ys))
unfolding identifier_of
identifier-front xs ys u =
    folded-front _ _ (subst (λ cs. IsFrontOf (joined_words (chars xs)) (joined_words cs)) (sym (chars-append xs ys u)) (joined-front (chars xs) (chars ys)))

-- What begins unlike all of these is none of them.

not-begun : (d front more : List ℕ) → starts_with (◌==◌) d front ≡ false → bytes_eq (front ++ more) d ≡ false
not-begun d front more h = go (bytes_eq (front ++ more) d) refl
  where
    go : (b : Bool) → bytes_eq (front ++ more) d ≡ b → b ≡ false
    go false e = refl
    go true e = absurd (false≢true (sym h ∙ (starts_is Decides-eqb d front _ refl).1 more (sym ((bytes_eq-Decides (front ++ more) d).0 e))))

pub none-begins : (ds : List (List ℕ)) (front more : List ℕ) → begins_one ds front ≡ false →
    is_defined ds (front ++ more) ≡ false
none-begins [] front more h = refl
none-begins (d ∷ ds) front more h =
    let parts = or_parts (starts_with (◌==◌) d front) (begins_one ds front) h in
    or_from (bytes_eq (front ++ more) d) (is_defined ds (front ++ more)) (not-begun d front more parts.0) (none-begins ds front more parts.1)

link-front : (kind : LabelKind) (front more : List ℕ) →
    with_caret kind (front ++ more) ≡ with_caret kind front ++ more
link-front kind front more = go (is_footnote kind)
  where
    go : (b : Bool) →
        (elim b [ true ↦ 94 ∷ (front ++ more) | false ↦ front ++ more ]) ≡ (elim b [ true ↦ 94 ∷ front | false ↦ front ]) ++ more
    go true = refl
    go false = refl

pub unknown-by : (s : Setting) (kind : LabelKind) (front name : List ℕ) → IsFrontOf front name →
    begins_defined s kind front ≡ false → IsUnknown s kind name
unknown-by s kind front name b h =
    let parts = or_parts (is_footnote kind && begins_one s.footnotes front) (begins_one s.definitions (with_caret kind front)) h in
    subst (IsUnknown s kind) (sym b.1) (record {
      call = calls (is_footnote kind) parts.0;
      link = ap (is_defined s.definitions) (link-front kind front b.0) ∙ none-begins s.definitions (with_caret kind front) b.0 parts.1;
    })
  where
    calls : (is : Bool) → is && begins_one s.footnotes front ≡ false →
        is && is_defined s.footnotes (front ++ b.0) ≡ false
    calls true e = none-begins s.footnotes front b.0 e
    calls false e = refl

pub range-parts : (bs : List ℕ) (i j k : ℕ) → i ≤ j → j ≤ k → j ≤ length bs →
    slice_range bs i k ≡ slice_range bs i j ++ slice_range bs j k
range-parts bs i j k ij jk inside =
    let size : length (slice_range bs i j) ≡ j - i = omega (arith, length-take (j - i) (drop i bs), length-drop i bs) in
    let sum : k - i ≡ length (slice_range bs i j) + (k - j) = omega (arith, size) in
    ap (take (k - i)) (drop_split bs i j ij) ∙ ap (λ n. take n (slice_range bs i j ++ drop j bs)) sum ∙ take-append-add (slice_range bs i j) (drop j bs) (k - j)

pub cuts-text : (bs : List ℕ) (i j : ℕ) → AreCuts bs i j → IsUtf8 (slice_range bs i j)
cuts-text bs i j k = IsUtf8-between bs i j k.text k.in_order k.first k.last

-- a front is such a part too
pub front-cuts : (bs : List ℕ) (i j k n : ℕ) → AreCuts bs i k → i + n ≤ j → IsCharBoundary bs j → AreCuts bs i j
front-cuts bs i j k n cuts after last =
    record { text = cuts.text; in_order = omega (arith, after); first = cuts.first; last = last }

-- and where nothing is defined
pub unknown-nothing : (s : Setting) (kind : LabelKind) (name : List ℕ) → s.definitions ≡ [] → s.footnotes ≡ [] →
    IsUnknown s kind name
unknown-nothing s kind name d f =
    record { call = ap (λ fs. is_footnote kind && is_defined fs name) f ∙ and-false (is_footnote kind); link = ap (λ ds. is_defined ds (with_caret kind name)) d }
