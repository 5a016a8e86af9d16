-- What adds up along rows of trees adds up over words of markers that are grouped, where a marker counts as much with a partner as without.
use Rattle.std.proofs.Common.{◌≡◌, ℕ, zero, suc, ◌-◌, ◌≤◌, List, [], ◌∷◌, ◌++◌, length, take, drop, reverse, map, sum_by, refl, sym, ◌∙◌, ap, arith}
use Rattle.std.proofs.lemmas.List.{append_assoc, append-nil, take-append-drop, length-drop}
use Rattle.std.proofs.lemmas.List.Sums.{sum_by-cons}
use Rattle.markdown_event.specs.declared.event.Name.{Name}
use Rattle.markdown_content.specs.Codes.{Code}
use Rattle.markdown_content.specs.Tree.{Forest, leaf}
use Rattle.markdown_model.specs.BracketGroups.{Token, item, opens, closes, nested, loose, pair_group, closing_sizes, opening_sizes, cut_front, run_tokens, assembled}
use Rattle.markdown_model.specs.LeafConstructs.{joined_codes}
use Rattle.markdown_model.specs.Pairs.{Pair}
use Rattle.markdown_model.specs.Runs.{Run}
use Rattle.markdown_model.proofs.BracketSums.{Adds, sum_of, sum-joined, sum-nested, word_sum}

cut_front-append : (ns : List ℕ) (cs : List Code) → joined_codes (cut_front ns cs).0 ++ (cut_front ns cs).1 ≡ cs
cut_front-append [] cs = refl
cut_front-append (n ∷ ns) cs =
    append_assoc (take n cs) (joined_codes (cut_front ns (drop n cs)).0) (cut_front ns (drop n cs)).1 ∙ ap (λ x. take n cs ++ x) (cut_front-append ns (drop n cs)) ∙ take-append-drop n cs

cut_front_all : (ns : List ℕ) (cs : List Code) → length cs ≤ sum_by (λ n. n) ns → (cut_front ns cs).1 ≡ []
cut_front_all [] [] h = refl
cut_front_all [] (c ∷ cs) h = absurd (omega arith)
cut_front_all (n ∷ ns) cs h = cut_front_all ns (drop n cs) (omega (arith, length-drop n cs, sum_by-cons (λ n. n) n ns))

module _ {M : Type 0} (m : Adds M) (marks : List Code → M) (sum-data : (cs : List Code) → m.of (leaf Name.Data cs) ≡ marks cs) where
  abbrev pub token_sum : List Token → M
  token_sum [] = m.none
  token_sum (item f ∷ w) = m.plus (m.of f) (token_sum w)
  token_sum (opens o ∷ w) = m.plus (marks o) (token_sum w)
  token_sum (closes c ∷ w) = m.plus (marks c) (token_sum w)

  pub token-append : (w v : List Token) → token_sum (w ++ v) ≡ m.plus (token_sum w) (token_sum v)
  token-append [] v = sym (m.left (token_sum v))
  token-append (item f ∷ w) v =
      ap (m.plus (m.of f)) (token-append w v) ∙ sym (m.assoc (m.of f) (token_sum w) (token_sum v))
  token-append (opens o ∷ w) v =
      ap (m.plus (marks o)) (token-append w v) ∙ sym (m.assoc (marks o) (token_sum w) (token_sum v))
  token-append (closes c ∷ w) v =
      ap (m.plus (marks c)) (token-append w v) ∙ sym (m.assoc (marks c) (token_sum w) (token_sum v))

  pub sum-loose : (cs : List Code) → sum_of m (loose cs) ≡ marks cs
  sum-loose cs = m.right _ ∙ sum-data cs

  word-token : (d : ℕ) (w : List Token) → word_sum m loose marks marks d w ≡ token_sum w
  word-token d [] = refl
  word-token d (item f ∷ w) = ap (m.plus (m.of f)) (word-token d w)
  word-token d (opens o ∷ w) = ap (m.plus (marks o)) (word-token (suc d) w)
  word-token zero (closes c ∷ w) = λ i. m.plus (sum-loose c i) (word-token zero w i)
  word-token (suc d) (closes c ∷ w) = ap (m.plus (marks c)) (word-token d w)

  pub sum-assembled : ((front : List Code) (inside : List Forest) (back : List Code) → sum_of m (pair_group front inside back) ≡ m.plus (marks front) (m.plus (sum_of m inside) (marks back)))
      → (w : List Token) → m.of (assembled w) ≡ token_sum w
  sum-assembled group w =
      sum-joined m (nested pair_group loose loose w) ∙ sum-nested m pair_group loose loose marks marks group sum-loose w ∙ word-token zero w

  -- A run's tokens are its markers, whatever the pairs.
  module _ (marks-none : marks [] ≡ m.none) (marks-both : (xs ys : List Code) → marks (xs ++ ys) ≡ m.plus (marks xs) (marks ys)) where
    sum-closes : (cs : List (List Code)) → token_sum (map closes cs) ≡ marks (joined_codes cs)
    sum-closes [] = sym marks-none
    sum-closes (c ∷ cs) = ap (m.plus (marks c)) (sum-closes cs) ∙ sym (marks-both c (joined_codes cs))

    sum-opens : (cs : List (List Code)) → token_sum (map opens cs) ≡ marks (joined_codes cs)
    sum-opens [] = sym marks-none
    sum-opens (c ∷ cs) = ap (m.plus (marks c)) (sum-opens cs) ∙ sym (marks-both c (joined_codes cs))

    pub sum-run : (pairs : List Pair) (i : ℕ) (r : Run) → token_sum (run_tokens pairs i r) ≡ marks r.codes
    sum-run pairs i r =
        token-append (map closes front.0) _
        ∙ (λ j. m.plus (sum-closes front.0 j) (m.plus (sum-data (take kept front.1) j) ((sum-opens back.0 ∙ ap marks whole) j)))
        ∙ ap (m.plus (marks (joined_codes front.0))) (sym (marks-both (take kept front.1) (drop kept front.1)) ∙ ap marks (take-append-drop kept front.1))
        ∙ sym (marks-both (joined_codes front.0) front.1)
        ∙ ap marks (cut_front-append (closing_sizes i pairs) r.codes)
      where
        front : List (List Code) × List Code
        front = cut_front (closing_sizes i pairs) r.codes

        sizes : List ℕ
        sizes = reverse (opening_sizes i pairs)

        kept : ℕ
        kept = length front.1 - sum_by (λ n. n) sizes

        back : List (List Code) × List Code
        back = cut_front sizes (drop kept front.1)

        whole : joined_codes back.0 ≡ drop kept front.1
        whole =
            sym (append-nil (joined_codes back.0)) ∙ ap (λ x. joined_codes back.0 ++ x) (sym (cut_front_all sizes (drop kept front.1) (omega (arith, length-drop kept front.1))))
            ∙ cut_front-append sizes (drop kept front.1)
