-- Pairs do not look at how data is cut.
use Rattle.std.proofs.Common.{◌≡◌, ℕ, Option, Some, None, List, [], ◌∷◌, ◌++◌, length, refl, sym, ap, ◌∙◌, arith}
use Rattle.markdown_content.specs.Codes.{Code, stop_of, document_start}
use Rattle.markdown_content.specs.Tree.{Forest, empty, leaf_then, group_then, leaf, ◌⊕◌, group, text_group, start_of, enter_of, exit_after}
use Rattle.markdown_event.specs.declared.event.Content.{Content}
use Rattle.markdown_event.specs.declared.event.Name.{Name}
use Rattle.markdown_event.specs.declared.event.Name.TheVariants as N
use Rattle.markdown_event.specs.declared.event.Point.{Point}
use Rattle.markdown_model.specs.BracketGroups.{item, opens, closes, onto, nest, after_loose, joined, loose, pair_names, pair_group, Token, assembled, tokens_of, paired}
use Rattle.markdown_model.specs.Pairs.{Pair}
use Rattle.markdown_model.specs.Runs.{Run, marker_of, run_of, runs_of}
use Rattle.markdown_model.specs.Setting.{Setting}
use Rattle.markdown_run_text.specs.CutData.{each_code, split}
use Rattle.markdown_run_text.proofs.CutDataLemmas.{row-assoc, split-join, split-twice}

-- A pair's group.

pub enter-same : (a : Forest) (m : Name) (p q : Point) (x y b : Forest) →
    enter_of (a ⊕ (group_then m p q x empty ⊕ b)) ≡ enter_of (a ⊕ (group_then m p q y empty ⊕ b))
enter-same empty m p q x y b = refl
enter-same (leaf_then name link cs rest) m p q x y b = refl
enter-same (group_then name c d inside rest) m p q x y b = refl

pub exit-same : (r : Point) (a : Forest) (m : Name) (p q : Point) (x y b : Forest) →
    exit_after r (a ⊕ (group_then m p q x empty ⊕ b)) ≡ exit_after r (a ⊕ (group_then m p q y empty ⊕ b))
exit-same r empty m p q x y b = refl
exit-same r (leaf_then name link cs rest) m p q x y b = exit-same (stop_of r cs) rest m p q x y b
exit-same r (group_then name c d inside rest) m p q x y b = exit-same d rest m p q x y b

group-same : (n : Name) (a : Forest) (m : Name) (p q : Point) (x b : Forest) →
    split (group n (a ⊕ (group_then m p q x empty ⊕ b))) ≡ split (group n (a ⊕ (group_then m p q (split x) empty ⊕ b)))
group-same n a m p q x b = grind (arith, split-join, split-twice, enter-same, exit-same)

-- the group of a pair around a row
abbrev around : List Code → Forest → List Code → Forest
around front inside back =
    let names = pair_names (marker_of front) (length front) in
    group names.0 (leaf names.1 front ⊕ text_group names.2 (stop_of document_start front) (start_of back) inside ⊕ leaf names.1 back)

around-same : (front : List Code) (x : Forest) (back : List Code) →
    split (around front x back) ≡ split (around front (split x) back)
around-same front x back = grind (arith, group-same)

-- Words, cut.

abbrev Cuts : Type 0
Cuts = Forest × List (List Code × Forest)

abbrev opened : List Code → Forest → List (List Code × Forest) → Cuts
opened o inside [] = (split (leaf Name.Data o) ⊕ inside, [])
opened o inside (c ∷ more) = (split (around o inside c.0) ⊕ c.1, more)

-- what `nest` finds, joined and cut
abbrev pub cut_nest : List Token → Cuts
cut_nest [] = (empty, [])
cut_nest (item f ∷ w) = let r = cut_nest w in (split f ⊕ r.0, r.1)
cut_nest (closes c ∷ w) = let r = cut_nest w in (empty, (c, r.0) ∷ r.1)
cut_nest (opens o ∷ w) = let r = cut_nest w in opened o r.0 r.1

abbrev cuts : List (List Code × List Forest) → List (List Code × Forest)
cuts [] = []
cuts (c ∷ more) = (c.0, split (joined c.1)) ∷ cuts more

abbrev found : List Token → List Forest × List (List Code × List Forest)
found w = nest pair_group loose loose w

joined-append : (a b : List Forest) → joined (a ++ b) ≡ joined a ⊕ joined b
joined-append [] b = refl
joined-append (t ∷ a) b = ap (λ x. t ⊕ x) (joined-append a b) ∙ sym (row-assoc t (joined a) (joined b))

opened-is : (o : List Code) (inside : List Forest) (more : List (List Code × List Forest)) →
    opened o (split (joined inside)) (cuts more) ≡ (split (joined (onto pair_group loose loose o inside more).0), cuts (onto pair_group loose loose o inside more).1)
opened-is o inside more = grind (arith, split-join, around-same)

pub cut_nest-is : (w : List Token) → cut_nest w ≡ (split (joined (found w).0), cuts (found w).1)
cut_nest-is [] = refl
cut_nest-is (item f ∷ w) = grind (arith, split-join, cut_nest-is w)
cut_nest-is (closes c ∷ w) = ap (λ (r : Cuts). (empty, (c, r.0) ∷ r.1)) (cut_nest-is w)
cut_nest-is (opens o ∷ w) = ap (λ (r : Cuts). opened o r.0 r.1) (cut_nest-is w) ∙ opened-is o (found w).0 (found w).1

abbrev finish : List (List Code × Forest) → Forest
finish [] = empty
finish (c ∷ more) = split (leaf Name.Data c.0) ⊕ (c.1 ⊕ finish more)

finish-is : (more : List (List Code × List Forest)) →
    split (joined (after_loose pair_group loose loose more)) ≡ finish (cuts more)
finish-is [] = refl
finish-is (c ∷ more) = grind (arith, joined-append, split-join, row-assoc, finish-is more)

abbrev pub whole : Cuts → Forest
whole r = r.0 ⊕ finish r.1

pub assembled-cut : (w : List Token) → split (assembled w) ≡ whole (cut_nest w)
assembled-cut w = grind (arith, joined-append, split-join, finish-is, cut_nest-is)

-- what stands behind counts only as it is cut
behind-same : (a v w : List Token) → cut_nest v ≡ cut_nest w → cut_nest (a ++ v) ≡ cut_nest (a ++ w)
behind-same [] v w h = h
behind-same (item f ∷ a) v w h = ap (λ (r : Cuts). (split f ⊕ r.0, r.1)) (behind-same a v w h)
behind-same (closes c ∷ a) v w h = ap (λ (r : Cuts). (empty, (c, r.0) ∷ r.1)) (behind-same a v w h)
behind-same (opens o ∷ a) v w h = ap (λ (r : Cuts). opened o r.0 r.1) (behind-same a v w h)

-- Trees.

each-runs : (s : Setting) (cs : List Code) (t : Forest) → runs_of s (each_code cs t) ≡ runs_of s t
unfolding runs_of
each-runs s [] t = refl
each-runs s (c ∷ cs) t = each-runs s cs t

leaf-runs : (s : Setting) (name : Name) (link : Option Content) (cs : List Code) (rest : Forest) →
    runs_of s (split rest) ≡ runs_of s rest →
    runs_of s (split (leaf_then name link cs rest)) ≡ runs_of s (leaf_then name link cs rest)
unfolding runs_of
leaf-runs s N.AttentionSequence link cs rest h = ap (λ rs. run_of s cs ∷ rs) h
leaf-runs s N.Data None cs rest h = each-runs s cs (split rest) ∙ h
leaf-runs s N.Data (Some c) cs rest h = h
leaf-runs s _ link cs rest h = h

pub runs-split : (s : Setting) (t : Forest) → runs_of s (split t) ≡ runs_of s t
unfolding runs_of
runs-split s empty = refl
runs-split s (leaf_then name link cs rest) = leaf-runs s name link cs rest (runs-split s rest)
runs-split s (group_then name a b inside rest) = runs-split s rest

each-empty : (cs : List Code) (t : Forest) → each_code cs empty ⊕ t ≡ each_code cs t
each-empty [] t = refl
each-empty (c ∷ cs) t = ap (leaf_then N.Data None (c ∷ [])) (each-empty cs t)

module _ (s : Setting) (pairs_of : List Run → List Pair) where
  abbrev T : Forest → List Pair → ℕ → List Token
  T t ps n = tokens_of s pairs_of t ps n

  each-tokens : (cs : List Code) (t : Forest) (ps : List Pair) (n : ℕ) →
      cut_nest (T (each_code cs t) ps n) ≡ (each_code cs (cut_nest (T t ps n)).0, (cut_nest (T t ps n)).1)
  unfolding tokens_of
  each-tokens [] t ps n = refl
  each-tokens (c ∷ cs) t ps n = ap (λ (r : Cuts). (leaf_then N.Data None (c ∷ []) r.0, r.1)) (each-tokens cs t ps n)

  abbrev Same : Forest → Type 0
  Same t = (ps : List Pair) (n : ℕ) → cut_nest (T t ps n) ≡ cut_nest (T (split t) ps n)

  leaf-same : (name : Name) (link : Option Content) (cs : List Code) (rest : Forest) → Same rest →
      Same (leaf_then name link cs rest)
  unfolding tokens_of
  leaf-same N.AttentionSequence link cs rest h ps n = grind (arith, behind-same)
  leaf-same N.Data None cs rest h ps n = grind (arith, each-empty, each-tokens)
  leaf-same N.Data (Some c) cs rest h ps n = ap (λ (r : Cuts). (leaf_then N.Data (Some c) cs r.0, r.1)) (h ps n)
  leaf-same name link cs rest h ps n = ap (λ (r : Cuts). (leaf_then name link cs r.0, r.1)) (h ps n)

  abbrev grouped_row : Forest → Forest
  grouped_row t = assembled (T t (pairs_of (runs_of s t)) 0)

  row-same : (t : Forest) → Same t → split (grouped_row t) ≡ split (grouped_row (split t))
  row-same t h = grind (arith, assembled-cut, runs-split)

  same : (t : Forest) → Same t
  unfolding tokens_of
  same empty ps n = refl
  same (leaf_then name link cs rest) ps n = leaf-same name link cs rest (same rest) ps n
  same (group_then name a b inside rest) ps n = grind (arith, row-same, same inside, same rest)

  -- pairs do not look at how data is cut
  pub paired-split : (t : Forest) → split (paired s pairs_of t) ≡ split (paired s pairs_of (split t))
  unfolding paired
  paired-split t = row-same t (same t)

  pub paired-same : (t u : Forest) → split t ≡ split u → split (paired s pairs_of t) ≡ split (paired s pairs_of u)
  paired-same t u h = paired-split t ∙ ap (λ x. split (paired s pairs_of x)) h ∙ sym (paired-split u)
