-- One definition counts of those that have an identifier: the first.
use Rattle.std.proofs.Common.{◌≡◌, ℕ, refl, sym, ap, ◌∙◌, List, [], ◌∷◌, Bool, true, false, ◌||◌, not, cond, filter, find, Some, bytes_eq}
use Rattle.std.specs.List.{list_any}
use Rattle.std.proofs.lemmas.Slice.Eq.{bytes_eq-Decides}
use Rattle.markdown_block_model.specs.FirstOnes.{has_key, first_ones}
use Rattle.markdown_block_model.specs.LinkDefinitions.{identifier}
use Rattle.markdown_block_model.specs.Footnotes.{Footnote}
use Rattle.markdown_block_model.specs.BlockLaws.{AreDifferent, OneDefinition}

-- no other one passes once those that pass are left out
none-left : {A : Type 0} (q : A → Bool) (ds : List A) → list_any q (filter (λ e. not (q e)) ds) ≡ false
none-left q [] = refl
none-left q (d ∷ ds) = by_test (q d) refl (none-left q ds)
  where
    by_test : (b : Bool) → q d ≡ b → list_any q (filter (λ e. not (q e)) ds) ≡ false
        → list_any q (cond (not b) (d ∷ filter (λ e. not (q e)) ds) (filter (λ e. not (q e)) ds)) ≡ false
    by_test true h k = k
    by_test false h k = ap (λ v. v || list_any q (filter (λ e. not (q e)) ds)) h ∙ k

-- nor does one of a part
none-of-part : {A : Type 0} (p q : A → Bool) (ds : List A) → list_any q ds ≡ false → list_any q (filter p ds) ≡ false
none-of-part p q [] h = refl
none-of-part p q (d ∷ ds) h = by_test (p d) (q d) refl h (none-of-part p q ds)
  where
    by_test : (b r : Bool) → q d ≡ r → (r || list_any q ds) ≡ false → (list_any q ds ≡ false → list_any q (filter p ds) ≡ false)
        → list_any q (cond b (d ∷ filter p ds) (filter p ds)) ≡ false
    by_test b true e h k = absurd (no h)
      where
        no : true ≡ false → ⊥
        no e = cc
    by_test true false e h k = ap (λ v. v || list_any q (filter p ds)) e ∙ k h
    by_test false false e h k = k h

part-differs : {A : Type 0} (key : A → List ℕ) (p : A → Bool) (ds : List A) → AreDifferent key ds → AreDifferent key (filter p ds)
part-differs key p [] h = tt
part-differs key p (d ∷ ds) h = by_test (p d) (none-of-part p (has_key key (key d)) ds h.0) (part-differs key p ds h.1)
  where
    by_test : (b : Bool) → list_any (has_key key (key d)) (filter p ds) ≡ false → AreDifferent key (filter p ds) → AreDifferent key (cond b (d ∷ filter p ds) (filter p ds))
    by_test true n k = (n, k)
    by_test false n k = k

differ : {A : Type 0} (key : A → List ℕ) (ds : List A) → AreDifferent key (first_ones key ds)
differ key [] = tt
differ key (d ∷ ds) =
    (none-left (has_key key (key d)) (first_ones key ds), part-differs key (λ e. not (has_key key (key d) e)) (first_ones key ds) (differ key ds))

-- what has another identifier is found as before
found-in-part : {A : Type 0} (key : A → List ℕ) (name other : List ℕ) (ds : List A) → bytes_eq name other ≡ false → find (has_key key name) (filter (λ e. not (has_key key other e)) ds) ≡ find (has_key key name) ds
found-in-part key name other [] h = refl
found-in-part key name other (d ∷ ds) h = by_test (bytes_eq other (key d)) (bytes_eq name (key d)) refl refl (found-in-part key name other ds h)
  where
    by_test : (k n : Bool) → bytes_eq other (key d) ≡ k → bytes_eq name (key d) ≡ n
        → find (has_key key name) (filter (λ e. not (has_key key other e)) ds) ≡ find (has_key key name) ds
        → find (has_key key name) (cond (not k) (d ∷ filter (λ e. not (has_key key other e)) ds) (filter (λ e. not (has_key key other e)) ds)) ≡ cond n (Some d) (find (has_key key name) ds)
    by_test true true e f more =
        let same : other ≡ key d = (bytes_eq-Decides other (key d)).0 e in
        let differs : bytes_eq name other ≡ true = ap (bytes_eq name) same ∙ f in
        absurd (no (sym differs ∙ h))
      where
        no : true ≡ false → ⊥
        no e = cc
    by_test true false e f more = more
    by_test false true e f more = ap (λ v. cond v (Some d) (find (has_key key name) (filter (λ e. not (has_key key other e)) ds))) f
    by_test false false e f more = ap (λ v. cond v (Some d) (find (has_key key name) (filter (λ e. not (has_key key other e)) ds))) f ∙ more

first : {A : Type 0} (key : A → List ℕ) (name : List ℕ) (ds : List A) → find (has_key key name) (first_ones key ds) ≡ find (has_key key name) ds
first key name [] = refl
first key name (d ∷ ds) = by_test (bytes_eq name (key d)) refl (first key name ds)
  where
    by_test : (b : Bool) → bytes_eq name (key d) ≡ b → find (has_key key name) (first_ones key ds) ≡ find (has_key key name) ds
        → cond b (Some d) (find (has_key key name) (filter (λ e. not (has_key key (key d) e)) (first_ones key ds))) ≡ cond b (Some d) (find (has_key key name) ds)
    by_test true h k = refl
    by_test false h k = found-in-part key name (key d) (first_ones key ds) h ∙ k

pub one_definition : OneDefinition
one_definition = record {
  differ = differ identifier;
  first = first identifier;
  footnotes_differ = differ (λ (f : Footnote). f.identifier);
  first_footnote = first (λ (f : Footnote). f.identifier);
}
