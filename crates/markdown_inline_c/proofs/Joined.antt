-- The parts of a string, one after another.
use Rattle.std.proofs.Common.{◌≡◌, ◌∙◌, sym, ap, subst, ℕ, ◌+◌, ◌<◌, ◌≤◌, List, [], ◌∷◌, ◌++◌, get_or, length, take, append-nil, arith, refl}
use Rattle.std.specs.List.{All, flat_map}
use Rattle.std.proofs.lemmas.List.{flat_map_more, take_more, take_all}
use Rattle.std.proofs.lemmas.List.Elements.{All-more}
use Rattle.markdown_inline_c.specs.FlatInput.{IsLabelRange, range_bytes}
use Rattle.markdown_inline_c.specs.FlatStrings.{joined}
use Rattle.markdown_inline_c.specs.declared.flat.Range.{Range}

-- what is found are the bytes of the first parts, which are texts
pub record AreJoined (bytes : List ℕ) (parts : List Range) (found : List ℕ) (i : ℕ) : Type 0 where
  pub found_are : found ≡ joined bytes (take i parts)
  pub are_texts : All (IsLabelRange bytes) (take i parts)

pub one_more : (bytes : List ℕ) (parts : List Range) (i : ℕ) (d : Range) (found more : List ℕ)
    → i < length parts → AreJoined bytes parts found i → IsLabelRange bytes (get_or parts i d) → more ≡ found ++ range_bytes bytes (get_or parts i d)
    → AreJoined bytes parts more (i + 1)
one_more bytes parts i d found more h so_far is_text e =
    let part = get_or parts i d in
    let f : Range → List ℕ = range_bytes bytes in
    record {
      found_are =
          e
          ∙ ap (λ xs. xs ++ f part) so_far.found_are
          ∙ flat_map_more f [] (take i parts) part
          ∙ ap (flat_map f) (sym (take_more parts i d h));
      are_texts = All-more (IsLabelRange bytes) parts i d h so_far.are_texts is_text;
    }

pub all_joined : (bytes : List ℕ) (parts : List Range) (found : List ℕ) (i : ℕ) → length parts ≤ i → AreJoined bytes parts found i
    → (found ≡ joined bytes parts) × All (IsLabelRange bytes) parts
all_joined bytes parts found i h read =
    let e : take i parts ≡ parts = take_all i parts h in
    (read.found_are ∙ ap (joined bytes) e, subst (λ (x : List Range). All (IsLabelRange bytes) x) e read.are_texts)

-- one part alone
pub joined_one : (bytes : List ℕ) (part : Range) → joined bytes (part ∷ []) ≡ range_bytes bytes part
joined_one bytes part = append-nil (range_bytes bytes part)

-- a list of one
pub one_listed : (xs : List Range) (d : Range) → length xs ≡ 1 → get_or xs 0 d ∷ [] ≡ xs
one_listed [] d h = absurd (omega (arith, h))
one_listed (x ∷ []) d h = refl
one_listed (x ∷ y ∷ xs) d h = absurd (omega (arith, h))
