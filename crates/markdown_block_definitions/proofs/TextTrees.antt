-- Labels, titles and destinations, from the values of codes.
use Rattle.std.proofs.Common.{◌≡◌, ℕ, zero, suc, ◌+◌, ◌≤◌, ◌<◌, refl, ap, ◌∙◌, sym, List, [], ◌∷◌, ◌++◌, length, take, drop, Bool, true, false, ◌&&◌, ◌||◌, not, Some, None, Option, arith, drop-drop}
use Rattle.std.specs.Prelude.{nat_le, codes}
use Rattle.std.proofs.lemmas.Bool.Decides.{nat_tests}
use Rattle.std.proofs.Math.Seq.{take-add}
use Rattle.std.specs.List.{list_any, list_all}
use Rattle.markdown_content.specs.Codes.{Code, is_line_ending}
use Rattle.markdown_content.specs.Content.{has_no_blank_line}
use Rattle.markdown_content.specs.Tree.{Forest}
use Rattle.markdown_model.specs.CodeTests.{values_of, is_value, is_among, is_empty, next_is, is_whitespace_code}
use Rattle.markdown_model.specs.Grammar.{Reading, ◌>>=◌, ◌>>◌, gives, provided, one, up_to}
use Rattle.markdown_model.specs.Resource.{label, counted, reference_names, between_markers, title_between, title, title_names, escaped_between, is_bare_opener, literal_destination, raw_from, raw_destination, destination, resource_names}
use Rattle.markdown_model.proofs.ReadingsCover.{itself, takes_one, takes_up_to, takes_raw}
use Rattle.markdown_block_line.proofs.RestValues.{values-drop, values-take}
use Rattle.markdown_block_definitions.specs.TextReadings.{left_by, text_of, firsts_of}
use Rattle.markdown_block_definitions.specs.declared.texts.Text.TheVariants.{Label, Title, Literal}
use Rattle.markdown_block_definitions.proofs.CodesAt.{firsts-drop}
use Rattle.markdown_block_definitions.proofs.ReadingRests.{left-any, left-bind, left-bind-none, left-gives, left-first, left-second, left-one, left-one-none, left-provided, left-refused, next-first, next-second}

-- Parts of a slice.

pub part-values : (cs : List Code) (vs : List ℕ) (n m : ℕ) → values_of cs ≡ vs → m ≡ n → values_of (take n (drop 1 cs)) ≡ take m (drop 1 vs)
part-values cs vs n m h e = values-take n (drop 1 cs) ∙ ap (take n) (values-drop 1 cs ∙ ap (drop 1) h) ∙ ap (λ k. take k (drop 1 vs)) (sym e)

pub firsts-take : (k : ℕ) (cs : List Code) → firsts_of (take k cs) ≡ take k (firsts_of cs)
firsts-take zero cs = refl
firsts-take (suc k) [] = refl
firsts-take (suc k) (c ∷ cs) = ap (λ bs. onto_firsts c bs) (firsts-take k cs)
  where
    onto_firsts : Code → List Bool → List Bool
    onto_firsts c bs = (firsts_of (c ∷ [])) ++ bs

pub later-firsts : (cs : List Code) (bs : List Bool) (n m : ℕ) → firsts_of cs ≡ bs → m ≡ n → firsts_of (take n (drop 1 cs)) ≡ take m (drop 1 bs)
later-firsts cs bs n m h e = firsts-take n (drop 1 cs) ∙ ap (take n) (firsts-drop 1 cs ∙ ap (drop 1) h) ∙ ap (λ k. take k (drop 1 bs)) (sym e)

any-all : (p : Code → Bool) (cs : List Code) (b : Bool) → list_all p cs ≡ b → list_any (λ c. not (p c)) cs ≡ not b
any-all p cs b e = here cs ∙ ap not e
  where
    both : (a b : Bool) → (not a || not b) ≡ not (a && b)
    both true b = refl
    both false b = refl

    here : (cs : List Code) → list_any (λ c. not (p c)) cs ≡ not (list_all p cs)
    here [] = refl
    here (c ∷ cs) = ap (λ b. not (p c) || b) (here cs) ∙ both (p c) (list_all p cs)

-- the codes up to a place, and the one there
take-one : (n : ℕ) (ds : List Code) → take n ds ++ take 1 (drop n ds) ≡ take (n + 1) ds
take-one n ds = sym (take-add n 1 ds)

past-all : (n : ℕ) (cs : List Code) → drop 1 (drop n (drop 1 cs)) ≡ drop (1 + n + 1) cs
past-all n cs = ap (drop 1) (drop-drop n 1 cs) ∙ drop-drop 1 (1 + n) cs

pub is-long : (n m : ℕ) → n ≡ m → 999 < m → nat_le n 999 ≡ false
is-long n m e l = grind (arith, nat_tests, e, l)

pub is-short : (n m : ℕ) → n ≡ m → m ≤ 999 → nat_le n 999 ≡ true
is-short n m e l = grind (arith, nat_tests, e, l)

-- Labels.

abbrev label-end : List Code → List Code → Reading Forest
label-end front text = provided (list_any (λ c. not (is_whitespace_code c)) text) >> (provided (nat_le (counted true false text) 999) >> (one (is_value 93) >>= λ back. provided (has_no_blank_line true (text ++ back)) >> gives (between_markers reference_names front text back)))

module _ (cs : List Code) where
  pub label-none : next_is (is_value 91) cs ≡ false → left_by (label true reference_names cs) ≡ None
  unfolding label
  label-none e = left-bind-none (one (is_value 91)) _ cs (left-one-none (is_value 91) cs e)

  module _ (opens : next_is (is_value 91) cs ≡ true) where
    pub label-open : left_by (text_of Label (drop 1 cs)) ≡ None → left_by (label true reference_names cs) ≡ None
    unfolding label up_to
    label-open t = left-any (one (is_value 91)) _ cs (drop 1 cs) None (left-one (is_value 91) cs opens) λ front. left-bind-none (up_to (is_value 93) (is_among (codes "[\\]")) (is_value 91)) _ (drop 1 cs) t

    module _ (n : ℕ) (reads : left_by (text_of Label (drop 1 cs)) ≡ Some (drop n (drop 1 cs))) (closes : next_is (is_value 93) (drop n (drop 1 cs)) ≡ true) where
      label-from : (o : Option (List Code)) → ((front text : List Code) → text ≡ take n (drop 1 cs) → left_by (label-end front text (drop n (drop 1 cs))) ≡ o) → left_by (label true reference_names cs) ≡ o
      unfolding label up_to
      label-from o g =
          left-any (one (is_value 91)) _ cs (drop 1 cs) o (left-one (is_value 91) cs opens) λ front.
          left-bind (up_to (is_value 93) (is_among (codes "[\\]")) (is_value 91)) itself (label-end front) (drop 1 cs) n o (takes_up_to (is_value 93) (is_among (codes "[\\]")) (is_value 91)) reads (λ text e. g front text e)

      pub label-blank : list_all is_whitespace_code (take n (drop 1 cs)) ≡ true → left_by (label true reference_names cs) ≡ None
      label-blank e = label-from None λ front text i. left-refused (list_any (λ c. not (is_whitespace_code c)) text) _ (drop n (drop 1 cs)) (ap (list_any (λ c. not (is_whitespace_code c))) i ∙ any-all is_whitespace_code (take n (drop 1 cs)) true e)

      module _ (ink : list_all is_whitespace_code (take n (drop 1 cs)) ≡ false) where
        has-ink : (text : List Code) → text ≡ take n (drop 1 cs) → list_any (λ c. not (is_whitespace_code c)) text ≡ true
        has-ink text i = ap (list_any (λ c. not (is_whitespace_code c))) i ∙ any-all is_whitespace_code (take n (drop 1 cs)) false ink

        pub label-long : nat_le (counted true false (take n (drop 1 cs))) 999 ≡ false → left_by (label true reference_names cs) ≡ None
        label-long e = label-from None λ front text i.
            left-provided (list_any (λ c. not (is_whitespace_code c)) text) _ (drop n (drop 1 cs)) None (has-ink text i)
            (left-refused (nat_le (counted true false text) 999) _ (drop n (drop 1 cs)) (ap (λ (t : List Code). nat_le (counted true false t) 999) i ∙ e))

        module _ (short : nat_le (counted true false (take n (drop 1 cs))) 999 ≡ true) where
          label-back : (o : Option (List Code)) → ((front text back : List Code) → text ++ back ≡ take (n + 1) (drop 1 cs) → left_by ((provided (has_no_blank_line true (text ++ back)) >> gives (between_markers reference_names front text back)) (drop 1 (drop n (drop 1 cs)))) ≡ o) → left_by (label true reference_names cs) ≡ o
          label-back o g = label-from o λ front text i.
              left-provided (list_any (λ c. not (is_whitespace_code c)) text) _ (drop n (drop 1 cs)) o (has-ink text i)
              (left-provided (nat_le (counted true false text) 999) _ (drop n (drop 1 cs)) o (ap (λ (t : List Code). nat_le (counted true false t) 999) i ∙ short)
              (left-bind (one (is_value 93)) itself _ (drop n (drop 1 cs)) 1 o (takes_one (is_value 93)) (left-one (is_value 93) (drop n (drop 1 cs)) closes) λ back b.
              g front text back (ap (λ (t : List Code). t ++ back) i ∙ ap (λ (x : List Code). take n (drop 1 cs) ++ x) b ∙ take-one n (drop 1 cs))))

          pub label-gap : has_no_blank_line true (take (n + 1) (drop 1 cs)) ≡ false → left_by (label true reference_names cs) ≡ None
          label-gap e = label-back None λ front text back i. left-refused (has_no_blank_line true (text ++ back)) _ (drop 1 (drop n (drop 1 cs))) (ap (has_no_blank_line true) i ∙ e)

          pub label-reads : has_no_blank_line true (take (n + 1) (drop 1 cs)) ≡ true → left_by (label true reference_names cs) ≡ Some (drop (1 + n + 1) cs)
          label-reads e = label-back (Some (drop (1 + n + 1) cs)) λ front text back i.
              left-provided (has_no_blank_line true (text ++ back)) _ (drop 1 (drop n (drop 1 cs))) (Some (drop (1 + n + 1) cs)) (ap (has_no_blank_line true) i ∙ e)
              (left-gives _ (drop 1 (drop n (drop 1 cs))) ∙ ap (λ (r : List Code). Some r) (past-all n cs))

-- Titles.

module _ (both : Bool) (o c : ℕ) (cs : List Code) where
  pub title-none : next_is (is_value o) cs ≡ false → left_by (title_between both o c title_names cs) ≡ None
  unfolding title_between
  title-none e = left-bind-none (one (is_value o)) _ cs (left-one-none (is_value o) cs e)

  module _ (opens : next_is (is_value o) cs ≡ true) where
    pub title-open : left_by (text_of (Title both o c) (drop 1 cs)) ≡ None → left_by (title_between both o c title_names cs) ≡ None
    unfolding title_between up_to
    title-open t = left-any (one (is_value o)) _ cs (drop 1 cs) None (left-one (is_value o) cs opens) λ front. left-bind-none (up_to (is_value c) (escaped_between both o c) (is_bare_opener both o)) _ (drop 1 cs) t

    module _ (n : ℕ) (reads : left_by (text_of (Title both o c) (drop 1 cs)) ≡ Some (drop n (drop 1 cs))) (closes : next_is (is_value c) (drop n (drop 1 cs)) ≡ true) where
      title-back : (x : Option (List Code)) → ((front text back : List Code) → text ++ back ≡ take (n + 1) (drop 1 cs) → left_by ((provided (has_no_blank_line true (text ++ back)) >> gives (between_markers title_names front text back)) (drop 1 (drop n (drop 1 cs)))) ≡ x) → left_by (title_between both o c title_names cs) ≡ x
      unfolding title_between up_to
      title-back x g =
          left-any (one (is_value o)) _ cs (drop 1 cs) x (left-one (is_value o) cs opens) λ front.
          left-bind (up_to (is_value c) (escaped_between both o c) (is_bare_opener both o)) itself _ (drop 1 cs) n x (takes_up_to (is_value c) (escaped_between both o c) (is_bare_opener both o)) reads λ text i.
          left-bind (one (is_value c)) itself _ (drop n (drop 1 cs)) 1 x (takes_one (is_value c)) (left-one (is_value c) (drop n (drop 1 cs)) closes) λ back b.
          g front text back (ap (λ (t : List Code). t ++ back) i ∙ ap (λ (y : List Code). take n (drop 1 cs) ++ y) b ∙ take-one n (drop 1 cs))

      pub title-gap : has_no_blank_line true (take (n + 1) (drop 1 cs)) ≡ false → left_by (title_between both o c title_names cs) ≡ None
      title-gap e = title-back None λ front text back i. left-refused (has_no_blank_line true (text ++ back)) _ (drop 1 (drop n (drop 1 cs))) (ap (has_no_blank_line true) i ∙ e)

      pub title-reads : has_no_blank_line true (take (n + 1) (drop 1 cs)) ≡ true → left_by (title_between both o c title_names cs) ≡ Some (drop (1 + n + 1) cs)
      title-reads e = title-back (Some (drop (1 + n + 1) cs)) λ front text back i.
          left-provided (has_no_blank_line true (text ++ back)) _ (drop 1 (drop n (drop 1 cs))) (Some (drop (1 + n + 1) cs)) (ap (has_no_blank_line true) i ∙ e)
          (left-gives _ (drop 1 (drop n (drop 1 cs))) ∙ ap (λ (r : List Code). Some r) (past-all n cs))

module _ (cs : List Code) where
  pub double-title : (rest : List Code) → left_by (title_between false 34 34 title_names cs) ≡ Some rest → left_by (title true title_names cs) ≡ Some rest
  unfolding title
  double-title rest e = left-first (title_between false 34 34 title_names) _ cs rest e

  pub single-title : (rest : List Code) → left_by (title_between false 34 34 title_names cs) ≡ None → left_by (title_between false 39 39 title_names cs) ≡ Some rest → left_by (title true title_names cs) ≡ Some rest
  unfolding title
  single-title rest e f = left-second (title_between false 34 34 title_names) _ cs (Some rest) e (left-first (title_between false 39 39 title_names) _ cs rest f)

  pub other-title : (o : Option (List Code)) → left_by (title_between false 34 34 title_names cs) ≡ None → left_by (title_between false 39 39 title_names cs) ≡ None → left_by (title_between true 40 41 title_names cs) ≡ o → left_by (title true title_names cs) ≡ o
  unfolding title
  other-title o e f g = left-second (title_between false 34 34 title_names) _ cs o e (left-second (title_between false 39 39 title_names) _ cs o f g)

  -- Destinations.

  pub literal-none : next_is (is_value 60) cs ≡ false → left_by (literal_destination resource_names cs) ≡ None
  unfolding literal_destination
  literal-none e = left-bind-none (one (is_value 60)) _ cs (left-one-none (is_value 60) cs e)

  module _ (opens : next_is (is_value 60) cs ≡ true) where
    pub literal-open : left_by (text_of Literal (drop 1 cs)) ≡ None → left_by (literal_destination resource_names cs) ≡ None
    unfolding literal_destination up_to
    literal-open t = left-any (one (is_value 60)) _ cs (drop 1 cs) None (left-one (is_value 60) cs opens) λ front. left-bind-none (up_to (is_value 62) (is_among (codes "<>\\")) (λ c. is_value 60 c || is_line_ending c)) _ (drop 1 cs) t

    pub literal-reads : (n : ℕ) → left_by (text_of Literal (drop 1 cs)) ≡ Some (drop n (drop 1 cs)) → next_is (is_value 62) (drop n (drop 1 cs)) ≡ true → left_by (literal_destination resource_names cs) ≡ Some (drop (1 + n + 1) cs)
    unfolding literal_destination up_to
    literal-reads n t closes =
        left-any (one (is_value 60)) _ cs (drop 1 cs) (Some (drop (1 + n + 1) cs)) (left-one (is_value 60) cs opens) λ front.
        left-any (up_to (is_value 62) (is_among (codes "<>\\")) (λ c. is_value 60 c || is_line_ending c)) _ (drop 1 cs) (drop n (drop 1 cs)) _ t λ text.
        left-any (one (is_value 62)) _ (drop n (drop 1 cs)) (drop 1 (drop n (drop 1 cs))) _ (left-one (is_value 62) (drop n (drop 1 cs)) closes) λ back.
        left-gives _ (drop 1 (drop n (drop 1 cs))) ∙ ap (λ (r : List Code). Some r) (past-all n cs)

    pub destination-literal : (o : Option (List Code)) → left_by (literal_destination resource_names cs) ≡ o → left_by (destination 32 resource_names cs) ≡ o
    unfolding destination
    destination-literal o e = ap left_by (next-first (is_value 60) (literal_destination resource_names) (raw_destination 32 resource_names) cs opens) ∙ e

  module _ (bare : next_is (is_value 60) cs ≡ false) where
    destination-raw : (o : Option (List Code)) → left_by (raw_destination 32 resource_names cs) ≡ o → left_by (destination 32 resource_names cs) ≡ o
    unfolding destination
    destination-raw o e = ap left_by (next-second (is_value 60) (literal_destination resource_names) (raw_destination 32 resource_names) cs bare) ∙ e

    pub raw-none : left_by (raw_from 32 false 0 cs) ≡ None → left_by (destination 32 resource_names cs) ≡ None
    unfolding raw_destination
    raw-none e = destination-raw None (left-bind-none (raw_from 32 false 0) _ cs e)

    pub raw-empty : (n : ℕ) → left_by (raw_from 32 false 0 cs) ≡ Some (drop n cs) → n ≡ 0 → left_by (destination 32 resource_names cs) ≡ None
    unfolding raw_destination
    raw-empty n e z = destination-raw None (left-bind (raw_from 32 false 0) itself _ cs n None (takes_raw 32) e λ text i.
        left-refused (not (is_empty text)) _ (drop n cs) (ap (λ (t : List Code). not (is_empty t)) (i ∙ ap (λ m. take m cs) z)))

    pub raw-reads : (n : ℕ) → left_by (raw_from 32 false 0 cs) ≡ Some (drop n cs) → (n ≡ 0 → ⊥) → n ≤ length cs → left_by (destination 32 resource_names cs) ≡ Some (drop n cs)
    unfolding raw_destination
    raw-reads n e z l = destination-raw (Some (drop n cs)) (left-bind (raw_from 32 false 0) itself _ cs n (Some (drop n cs)) (takes_raw 32) e λ text i.
        left-provided (not (is_empty text)) _ (drop n cs) (Some (drop n cs)) (ap (λ (t : List Code). not (is_empty t)) i ∙ filled n cs z l) (left-gives _ (drop n cs)))
      where
        filled : (n : ℕ) (cs : List Code) → (n ≡ 0 → ⊥) → n ≤ length cs → not (is_empty (take n cs)) ≡ true
        filled zero cs z l = absurd (z refl)
        filled (suc n) [] z l = absurd (omega (arith, l))
        filled (suc n) (c ∷ cs) z l = refl
