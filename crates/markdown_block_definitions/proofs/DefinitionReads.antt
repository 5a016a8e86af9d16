-- Definitions, from the values of codes.
use Rattle.std.proofs.Common.{◌≡◌, ℕ, zero, suc, ◌+◌, ◌≤◌, ◌<◌, refl, ap, ◌∙◌, sym, List, [], ◌∷◌, ◌++◌, length, take, drop, get_or, ◌==◌, Bool, true, false, ◌||◌, not, Some, None, Option, arith, drop-drop, length-drop, append_assoc, append-nil}
use Rattle.std.specs.Prelude.{nat_lt}
use Rattle.std.proofs.Math.ListN.{drop_of_length-le}
use Rattle.std.proofs.lemmas.Bool.Decides.{nat_tests}
use Rattle.markdown_content.specs.Codes.{Code, codes_of}
use Rattle.markdown_content.specs.Content.{piece_codes, content_of}
use Rattle.markdown_content.specs.declared.parser.Piece.{Piece}
use Rattle.markdown_content.specs.Tree.{Forest, leaf_codes}
use Rattle.markdown_model.specs.CodeTests.{values_of, is_value, is_empty, next_is}
use Rattle.markdown_model.specs.Grammar.{Reading, ◌>>=◌, ◌>>◌, gives, one, before, optional_tree}
use Rattle.markdown_model.specs.Whitespace.{space_or_tab_eol}
use Rattle.markdown_model.specs.Resource.{label, reference_names, title, title_names, begins_title, destination, resource_names}
use Rattle.markdown_model.proofs.GrammarSteps.{bind-some, bind-none, either-some, either-second}
use Rattle.markdown_model.proofs.ReadingsCover.{covers_label, covers_title, covers_destination}
use Rattle.markdown_block_model.specs.LinkDefinitions.{Definition, definition, title_of_definition, line_end, between, destination_text, taken, taken_by, definitions_of, has_text}
use Rattle.markdown_block_line.proofs.RestValues.{by_bool, values-length}
use Rattle.markdown_block_definitions.specs.TextReadings.{left_by}
use Rattle.markdown_block_definitions.specs.DefinitionParts.{ending}
use Rattle.markdown_block_definitions.proofs.ReadingRests.{bind-left, by-none, none-after, after-left, left-first, left-second, left-gives, left-one, left-one-none, left-before, left-before-other, left-before-none}
use Rattle.markdown_block_definitions.proofs.GapRests.{empty-not}
use Rattle.markdown_block_definitions.proofs.TextTrees.{label-none, title-none, other-title}

-- What is optional.

module _ (cs : List Code) where
  pub gap-some : (rest : List Code) → left_by (space_or_tab_eol None cs) ≡ Some rest → left_by (optional_tree (space_or_tab_eol None) cs) ≡ Some rest
  unfolding optional_tree
  gap-some rest e = left-first (space_or_tab_eol None) _ cs rest e

  pub gap-nothing : left_by (space_or_tab_eol None cs) ≡ None → left_by (optional_tree (space_or_tab_eol None) cs) ≡ Some cs
  unfolding optional_tree
  gap-nothing e = left-second (space_or_tab_eol None) _ cs (Some cs) e (left-gives _ cs)

-- Titles.

title-away : (ds : List Code) → begins_title ds ≡ false → left_by (title true title_names ds) ≡ None
title-away ds e = other-title ds None (title-none false 34 34 ds (first ds e)) (title-none false 39 39 ds (second ds e)) (title-none true 40 41 ds (third ds e))
  where
    none : (a b c : Bool) → (a || (b || (c || false))) ≡ false → (a ≡ false) × (b ≡ false) × (c ≡ false)
    none false false false e = (refl, refl, refl)
    none true b c e = absurd (grind (arith, e))
    none false true c e = absurd (grind (arith, e))
    none false false true e = absurd (grind (arith, e))

    first : (ds : List Code) → begins_title ds ≡ false → next_is (is_value 34) ds ≡ false
    first [] e = refl
    first (d ∷ ds) e = (none (is_value 34 d) (is_value 39 d) (is_value 40 d) e).0

    second : (ds : List Code) → begins_title ds ≡ false → next_is (is_value 39) ds ≡ false
    second [] e = refl
    second (d ∷ ds) e = (none (is_value 34 d) (is_value 39 d) (is_value 40 d) e).1

    third : (ds : List Code) → begins_title ds ≡ false → next_is (is_value 40) ds ≡ false
    third [] e = refl
    third (d ∷ ds) e = (none (is_value 34 d) (is_value 39 d) (is_value 40 d) e).2

abbrev spaced : Reading Forest
spaced = before (space_or_tab_eol None) begins_title

module _ (cs : List Code) where
  pub titled-none : left_by (space_or_tab_eol None cs) ≡ None → title_of_definition cs ≡ None
  unfolding title_of_definition
  titled-none e = none-after spaced _ cs (left-before-none (space_or_tab_eol None) begins_title cs e)

  module _ (s : ℕ) (gap : left_by (space_or_tab_eol None cs) ≡ Some (drop s cs)) where
    away : begins_title (drop s cs) ≡ false → title_of_definition cs ≡ None
    unfolding title_of_definition
    away e = none-after spaced _ cs (left-before-other (space_or_tab_eol None) begins_title cs (drop s cs) gap e)

    pub titled-not : left_by (title true title_names (drop s cs)) ≡ None → title_of_definition cs ≡ None
    unfolding title_of_definition
    titled-not e = by_bool (begins_title (drop s cs))
        (λ (b : begins_title (drop s cs) ≡ true).
        after-left spaced _ cs (drop s cs) None (left-before (space_or_tab_eol None) begins_title cs (drop s cs) gap b) (bind-none (title true title_names) _ (drop s cs) (by-none (title true title_names (drop s cs)) e)))
        (λ (b : begins_title (drop s cs) ≡ false). away b)

    module _ (n : ℕ) (reads : left_by (title true title_names (drop s cs)) ≡ Some (drop n (drop s cs))) where
      begins : begins_title (drop s cs) ≡ true
      begins = by_bool (begins_title (drop s cs)) (λ (b : begins_title (drop s cs) ≡ true). b) (λ (b : begins_title (drop s cs) ≡ false). absurd (grind (arith, reads, title-away (drop s cs) b)))

      titled : (y : Option (Option (List Code) × List Code)) → ((text : Forest) → leaf_codes text ≡ take n (drop s cs) → (line_end >> gives (Some (between (leaf_codes text)))) (drop n (drop s cs)) ≡ y) → title_of_definition cs ≡ y
      unfolding title_of_definition
      titled y g =
          after-left spaced _ cs (drop s cs) y (left-before (space_or_tab_eol None) begins_title cs (drop s cs) gap begins)
          (bind-left leaf_codes (title true title_names) _ (drop s cs) n y (covers_title true title_names) reads g)

      pub titled-open : left_by (line_end (drop n (drop s cs))) ≡ None → title_of_definition cs ≡ None
      titled-open e = titled None λ text i. none-after line_end _ (drop n (drop s cs)) e

      pub titled-reads : (k : ℕ) → left_by (line_end (drop n (drop s cs))) ≡ Some (drop k (drop n (drop s cs))) → title_of_definition cs ≡ Some (Some (between (take n (drop s cs))), drop (s + n + k) cs)
      unfolding gives
      titled-reads k e = titled _ λ text i.
          after-left line_end (gives (Some (between (leaf_codes text)))) (drop n (drop s cs)) (drop k (drop n (drop s cs))) _ e
          (ap (λ (t : List Code). Some (Some (between t), drop k (drop n (drop s cs)))) i
          ∙ ap (λ (r : List Code). Some (Some (between (take n (drop s cs))), r)) (ap (drop k) (drop-drop n s cs) ∙ drop-drop k (s + n) cs))

  pub ends-titled : (y : Option (List Code) × List Code) → title_of_definition cs ≡ Some y → ending cs ≡ Some y
  unfolding ending
  ends-titled y e = either-some title_of_definition _ cs y e

  module _ (none : title_of_definition cs ≡ None) where
    pub ends-open : left_by (line_end cs) ≡ None → ending cs ≡ None
    unfolding ending
    ends-open e = either-second title_of_definition _ cs none ∙ none-after line_end (gives None) cs e

    pub ends-bare : (k : ℕ) → left_by (line_end cs) ≡ Some (drop k cs) → ending cs ≡ Some (None, drop k cs)
    unfolding ending gives
    ends-bare k e = either-second title_of_definition _ cs none ∙ after-left line_end (gives None) cs (drop k cs) _ e refl

-- Definitions.

module _ (cs : List Code) where
  pub defined-none : left_by (label true reference_names cs) ≡ None → definition cs ≡ None
  unfolding definition
  defined-none e = bind-none (label true reference_names) _ cs (by-none (label true reference_names cs) e)

  module _ (l : ℕ) (named : left_by (label true reference_names cs) ≡ Some (drop l cs)) where
    pub defined-not : next_is (is_value 58) (drop l cs) ≡ false → definition cs ≡ None
    unfolding definition
    defined-not e = bind-left leaf_codes (label true reference_names) _ cs l None (covers_label true reference_names) named λ name i. none-after (one (is_value 58)) _ (drop l cs) (left-one-none (is_value 58) (drop l cs) e)

    module _ (colon : next_is (is_value 58) (drop l cs) ≡ true) (g : ℕ) (gap : left_by (optional_tree (space_or_tab_eol None) (drop (l + 1) cs)) ≡ Some (drop g (drop (l + 1) cs))) where
      spot : left_by (one (is_value 58) (drop l cs)) ≡ Some (drop (l + 1) cs)
      spot = left-one (is_value 58) (drop l cs) colon ∙ ap (λ (r : List Code). Some r) (drop-drop 1 l cs)

      gone : left_by (optional_tree (space_or_tab_eol None) (drop (l + 1) cs)) ≡ Some (drop (l + 1 + g) cs)
      gone = gap ∙ ap (λ (r : List Code). Some r) (drop-drop g (l + 1) cs)

      abbrev ended : Forest → Forest → Reading Definition
      ended name target = ending >>= λ text. gives (record { label = between (leaf_codes name); destination = destination_text (leaf_codes target); title = text })

      behind-name : (y : Option (Definition × List Code)) → ((name : Forest) → leaf_codes name ≡ take l cs → (destination 32 resource_names >>= ended name) (drop (l + 1 + g) cs) ≡ y) → definition cs ≡ y
      unfolding definition ending
      behind-name y f = bind-left leaf_codes (label true reference_names) _ cs l y (covers_label true reference_names) named λ name i.
          after-left (one (is_value 58)) _ (drop l cs) (drop (l + 1) cs) y spot (after-left (optional_tree (space_or_tab_eol None)) _ (drop (l + 1) cs) (drop (l + 1 + g) cs) y gone (f name i))

      pub defined-bare : left_by (destination 32 resource_names (drop (l + 1 + g) cs)) ≡ None → definition cs ≡ None
      defined-bare e = behind-name None λ name i. bind-none (destination 32 resource_names) (ended name) (drop (l + 1 + g) cs) (by-none (destination 32 resource_names (drop (l + 1 + g) cs)) e)

      module _ (n : ℕ) (aims : left_by (destination 32 resource_names (drop (l + 1 + g) cs)) ≡ Some (drop n (drop (l + 1 + g) cs))) where
        behind-target : (y : Option (Definition × List Code)) → ((name target : Forest) → leaf_codes name ≡ take l cs → leaf_codes target ≡ take n (drop (l + 1 + g) cs) → ended name target (drop (l + 1 + g + n) cs) ≡ y) → definition cs ≡ y
        behind-target y f = behind-name y λ name i.
            bind-left leaf_codes (destination 32 resource_names) (ended name) (drop (l + 1 + g) cs) n y (covers_destination 32 resource_names) aims λ target j.
            ap (ended name target) (drop-drop n (l + 1 + g) cs) ∙ f name target i j

        pub defined-open : ending (drop (l + 1 + g + n) cs) ≡ None → definition cs ≡ None
        defined-open e = behind-target None λ name target i j. bind-none ending _ (drop (l + 1 + g + n) cs) e

        pub defined-reads : (t : Option (List Code)) (k : ℕ) → ending (drop (l + 1 + g + n) cs) ≡ Some (t, drop k (drop (l + 1 + g + n) cs))
            → definition cs ≡ Some (record { label = between (take l cs); destination = destination_text (take n (drop (l + 1 + g) cs)); title = t }, drop (l + 1 + g + n + k) cs)
        unfolding gives
        defined-reads t k e = behind-target _ λ name target i j.
            bind-some ending _ (drop (l + 1 + g + n) cs) t (drop k (drop (l + 1 + g + n) cs)) _ e
            (ap (λ (x : List Code). Some (record { label = between x; destination = destination_text (leaf_codes target); title = t }, drop k (drop (l + 1 + g + n) cs))) i
            ∙ ap (λ (x : List Code). Some (record { label = between (take l cs); destination = destination_text x; title = t }, drop k (drop (l + 1 + g + n) cs))) j
            ∙ ap (λ (r : List Code). Some (record { label = between (take l cs); destination = destination_text (take n (drop (l + 1 + g) cs)); title = t }, r)) (drop-drop k (l + 1 + g + n) cs))

-- The loop.

-- so many codes are these definitions; the others are taken from the rest with enough steps
pub record IsDefinedTo (cs : List Code) (len : ℕ) : Type 0 where
  pub done : List Definition
  pub steps : ℕ
  pub enough : length (drop len cs) ≤ steps
  pub found : (definitions_of cs).0 ≡ done ++ (taken steps (drop len cs)).0
  pub rest : (definitions_of cs).1 ≡ (taken steps (drop len cs)).1

pub front-start : (cs : List Code) → IsDefinedTo cs 0
front-start cs = record { done = []; steps = length cs; enough = omega arith; found = refl; rest = refl }

pub start-none : (cs : List Code) → (front-start cs).done ≡ []
unfolding front-start
start-none cs = refl

pub front-more : (cs : List Code) (len k : ℕ) (d : Definition) → (h : IsDefinedTo cs len) → definition (drop len cs) ≡ Some (d, drop k (drop len cs)) → 0 < k → len + k ≤ length cs → (f : IsDefinedTo cs (len + k)) × (f.done ≡ h.done ++ d ∷ [])
front-more cs len k d h e z l = by_steps h.steps refl
  where
    by_steps : (n : ℕ) → h.steps ≡ n → (f : IsDefinedTo cs (len + k)) × (f.done ≡ h.done ++ d ∷ [])
    by_steps zero i = absurd (omega (arith, i, h.enough, length-drop len cs, z, l))
    by_steps (suc n) i =
        let f : IsDefinedTo cs (len + k) = record {
          done = h.done ++ d ∷ [];
          steps = n;
          enough = omega (arith, i, h.enough, length-drop len cs, length-drop (len + k) cs, z, l);
          found =
              h.found ∙ ap (λ m. h.done ++ (taken m (drop len cs)).0) i
              ∙ ap (λ (o : Option (Definition × List Code)). h.done ++ (taken_by (taken n) (drop len cs) o).0) e
              ∙ ap (λ (r : List Code). h.done ++ (d ∷ (taken n r).0)) (drop-drop k len cs)
              ∙ sym (append_assoc h.done (d ∷ []) (taken n (drop (len + k) cs)).0);
          rest =
              h.rest ∙ ap (λ m. (taken m (drop len cs)).1) i
              ∙ ap (λ (o : Option (Definition × List Code)). (taken_by (taken n) (drop len cs) o).1) e
              ∙ ap (λ (r : List Code). (taken n r).1) (drop-drop k len cs);
        } in
        (f, refl)

module _ (cs : List Code) (len : ℕ) (h : IsDefinedTo cs len) (e : definition (drop len cs) ≡ None) where
  pub front-end : (definitions_of cs).1 ≡ drop len cs
  front-end = h.rest ∙ by_steps h.steps
    where
      by_steps : (n : ℕ) → (taken n (drop len cs)).1 ≡ drop len cs
      by_steps zero = refl
      by_steps (suc n) = ap (λ (o : Option (Definition × List Code)). (taken_by (taken n) (drop len cs) o).1) e

  pub front-all : (definitions_of cs).0 ≡ h.done
  front-all = h.found ∙ ap (λ (ds : List Definition). h.done ++ ds) (by_steps h.steps) ∙ append-nil h.done
    where
      by_steps : (n : ℕ) → (taken n (drop len cs)).0 ≡ []
      by_steps zero = refl
      by_steps (suc n) = ap (λ (o : Option (Definition × List Code)). (taken_by (taken n) (drop len cs) o).0) e

-- what is left
pub left-is : (cs : List Code) (vs : List ℕ) (k : ℕ) → values_of cs ≡ vs → (definitions_of cs).1 ≡ drop k cs → nat_lt k (length vs) ≡ has_text cs
left-is cs vs k h e = by_bool (nat_lt k (length vs))
    (λ (b : nat_lt k (length vs) ≡ true).
    let l : k < length vs = grind (arith, nat_tests, b) in
    b ∙ sym (ap (λ (ds : List Code). not (is_empty ds)) e ∙ ap not (empty-not cs vs k h l)))
    (λ (b : nat_lt k (length vs) ≡ false).
    let l : length vs ≤ k = grind (arith, nat_tests, b) in
    b ∙ sym (ap (λ (ds : List Code). not (is_empty ds)) e ∙ ap (λ (ds : List Code). not (is_empty ds)) (drop_of_length-le cs (omega (arith, l, ap length h, values-length cs)))))

-- A text that does not begin with `[` has no definitions.

-- it is all text
abbrev pub IsAllText : List Code → Type 0
IsAllText cs = (definitions_of cs ≡ ([], cs)) × (has_text cs ≡ true)

has-all : (c : Code) (cs : List Code) → definition (c ∷ cs) ≡ None → IsAllText (c ∷ cs)
has-all c cs e =
    let whole : definitions_of (c ∷ cs) ≡ ([], c ∷ cs) = ap (λ (o : Option (Definition × List Code)). taken_by (taken (length cs)) (c ∷ cs) o) e in
    (whole, ap (λ (r : List Definition × List Code). not (is_empty r.1)) whole)

begins-other : (cs : List Code) (v : ℕ) → next_is (is_value v) cs ≡ true → (v ≡ 91 → ⊥) → IsAllText cs
begins-other [] v e f = absurd (grind (arith, e))
begins-other (c ∷ cs) v e f = has-all c cs (defined-none (c ∷ cs) (label-none (c ∷ cs) (other c.value v e f)))
  where
    other : (a b : ℕ) → (a == b) ≡ true → (b ≡ 91 → ⊥) → (a == 91) ≡ false
    other a b e f = grind (arith, nat_tests, e, f)

next-append : (p : Code → Bool) (cs ds : List Code) → next_is p cs ≡ true → next_is p (cs ++ ds) ≡ true
next-append p [] ds e = absurd (grind (arith, e))
next-append p (c ∷ cs) ds e = e

pub text-other : (bytes : List ℕ) (ps : List Piece) (d : Piece) (v : ℕ) → (length ps ≡ 0 → ⊥) → next_is (is_value v) (piece_codes (codes_of bytes) (get_or ps 0 d)) ≡ true → (v ≡ 91 → ⊥) → IsAllText (content_of bytes ps)
text-other bytes [] d v l e f = absurd (l refl)
text-other bytes (p ∷ ps) d v l e f = begins-other (piece_codes (codes_of bytes) p ++ content_of bytes ps) v (next-append (is_value v) (piece_codes (codes_of bytes) p) (content_of bytes ps) e) f
