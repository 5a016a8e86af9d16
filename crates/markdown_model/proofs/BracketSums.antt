-- What adds up along rows of trees adds up over a bracket word that is grouped.
use Rattle.std.proofs.Common.{◌≡◌, ℕ, zero, suc, List, [], ◌∷◌, ◌++◌, refl, sym, ◌∙◌, ap, arith}
use Rattle.std.proofs.lemmas.List.{append_assoc, append-nil}
use Rattle.markdown_content.specs.Codes.{Code}
use Rattle.markdown_content.specs.Tree.{Forest, empty, ◌⊕◌, leaf_codes}
use Rattle.markdown_model.specs.BracketGroups.{Bracketed, item, opens, closes, nest, nested, onto, after_loose, joined}
use Rattle.markdown_content.proofs.TreeCodes.{leaf_codes-row}

pub record Adds (M : Type 0) : Type 0 where
  pub none : M
  pub plus : M → M → M
  pub of : Forest → M
  pub assoc : (a b c : M) → plus (plus a b) c ≡ plus a (plus b c)
  pub left : (a : M) → plus none a ≡ a
  pub right : (a : M) → plus a none ≡ a
  pub nothing : of empty ≡ none
  pub row : (t u : Forest) → of (t ⊕ u) ≡ plus (of t) (of u)

module _ {M : Type 0} (m : Adds M) where
  abbrev pub sum_of : List Forest → M
  sum_of [] = m.none
  sum_of (f ∷ fs) = m.plus (m.of f) (sum_of fs)

  pub sum-joined : (fs : List Forest) → m.of (joined fs) ≡ sum_of fs
  sum-joined [] = m.nothing
  sum-joined (f ∷ fs) = m.row f (joined fs) ∙ ap (m.plus (m.of f)) (sum-joined fs)

  pub sum-append : (fs gs : List Forest) → sum_of (fs ++ gs) ≡ m.plus (sum_of fs) (sum_of gs)
  sum-append [] gs = sym (m.left (sum_of gs))
  sum-append (f ∷ fs) gs = ap (m.plus (m.of f)) (sum-append fs gs) ∙ sym (m.assoc (m.of f) (sum_of fs) (sum_of gs))

  -- The sum of a bracket word, where so many opening brackets without a partner stand before: `opened`
  -- and `closed` are those of brackets with a partner.
  module _ {O C : Type 0} (loose_close : C → List Forest) (opened : O → M) (closed : C → M) where
    abbrev pub word_sum : ℕ → List (Bracketed O C Forest) → M
    word_sum d [] = m.none
    word_sum d (item f ∷ w) = m.plus (m.of f) (word_sum d w)
    word_sum d (opens o ∷ w) = m.plus (opened o) (word_sum (suc d) w)
    word_sum zero (closes c ∷ w) = m.plus (sum_of (loose_close c)) (word_sum zero w)
    word_sum (suc d) (closes c ∷ w) = m.plus (closed c) (word_sum d w)

    -- of closing brackets, each with the items after it
    abbrev frame_sum : ℕ → List (C × List Forest) → M
    frame_sum d [] = m.none
    frame_sum zero (f ∷ fs) = m.plus (sum_of (loose_close f.0)) (m.plus (sum_of f.1) (frame_sum zero fs))
    frame_sum (suc d) (f ∷ fs) = m.plus (closed f.0) (m.plus (sum_of f.1) (frame_sum d fs))

  module _ {O C : Type 0} (wrap : O → List Forest → C → List Forest) (loose_open : O → List Forest) (loose_close : C → List Forest) (opened : O → M) (closed : C → M)
      (sum-wrap : (o : O) (inside : List Forest) (c : C) → sum_of (wrap o inside c) ≡ m.plus (opened o) (m.plus (sum_of inside) (closed c)))
      (sum-open : (o : O) → sum_of (loose_open o) ≡ opened o) where
    abbrev GroupFrames : Type 0
    GroupFrames = List Forest × List (C × List Forest)

    abbrev nest_word : List (Bracketed O C Forest) → GroupFrames
    nest_word w = nest wrap loose_open loose_close w

    abbrev frames : ℕ → List (C × List Forest) → M
    frames d fs = frame_sum loose_close opened closed d fs

    sum-onto : (d : ℕ) (o : O) (inside : List Forest) (more : List (C × List Forest))
        → let r : GroupFrames = onto wrap loose_open loose_close o inside more in
        m.plus (sum_of r.0) (frames d r.1) ≡ m.plus (opened o) (m.plus (sum_of inside) (frames (suc d) more))
    sum-onto d o inside [] =
        m.right _ ∙ sum-append (loose_open o) inside ∙ (λ i. m.plus (sum-open o i) (sym (m.right (sum_of inside)) i))
    sum-onto d o inside (c ∷ more) =
        (λ i. m.plus ((sum-append (wrap o inside c.0) c.1 ∙ (λ j. m.plus (sum-wrap o inside c.0 j) (sum_of c.1))) i) (frames d more))
        ∙ m.assoc (m.plus (opened o) (m.plus (sum_of inside) (closed c.0))) (sum_of c.1) (frames d more)
        ∙ m.assoc (opened o) (m.plus (sum_of inside) (closed c.0)) (m.plus (sum_of c.1) (frames d more))
        ∙ ap (m.plus (opened o)) (m.assoc (sum_of inside) (closed c.0) (m.plus (sum_of c.1) (frames d more)))

    sum-nest : (d : ℕ) (w : List (Bracketed O C Forest)) →
        m.plus (sum_of (nest_word w).0) (frames d (nest_word w).1) ≡ word_sum loose_close opened closed d w
    sum-nest d [] = m.left m.none
    sum-nest d (item f ∷ w) =
        m.assoc (m.of f) (sum_of (nest_word w).0) (frames d (nest_word w).1) ∙ ap (m.plus (m.of f)) (sum-nest d w)
    sum-nest zero (closes c ∷ w) = m.left _ ∙ ap (m.plus (sum_of (loose_close c))) (sum-nest zero w)
    sum-nest (suc d) (closes c ∷ w) = m.left _ ∙ ap (m.plus (closed c)) (sum-nest d w)
    sum-nest d (opens o ∷ w) =
        sum-onto d o (nest_word w).0 (nest_word w).1 ∙ ap (m.plus (opened o)) (sum-nest (suc d) w)

    sum-after_loose : (fs : List (C × List Forest)) →
        sum_of (after_loose wrap loose_open loose_close fs) ≡ frames zero fs
    sum-after_loose [] = refl
    sum-after_loose (f ∷ fs) =
        sum-append (loose_close f.0 ++ f.1) (after_loose wrap loose_open loose_close fs)
        ∙ (λ i. m.plus (sum-append (loose_close f.0) f.1 i) (sum-after_loose fs i))
        ∙ m.assoc (sum_of (loose_close f.0)) (sum_of f.1) (frames zero fs)

    pub sum-nested : (w : List (Bracketed O C Forest)) →
        sum_of (nested wrap loose_open loose_close w) ≡ word_sum loose_close opened closed zero w
    sum-nested w = grind (arith, sum-append, sum-after_loose, sum-nest)

-- The codes that leaves cover.

abbrev pub codes_add : Adds (List Code)
codes_add = record {
  none = [];
  plus = ◌++◌;
  of = leaf_codes;
  assoc = append_assoc;
  left = λ a. refl;
  right = append-nil;
  nothing = refl;
  row = leaf_codes-row;
}

abbrev pub codes_of_all : List Forest → List Code
codes_of_all fs = sum_of codes_add fs

pub codes-joined : (fs : List Forest) → leaf_codes (joined fs) ≡ codes_of_all fs
codes-joined fs = sum-joined codes_add fs
