-- Titles, labels and destinations in angle brackets: where their readings hold.
use Rattle.std.proofs.Common.{◌≡◌, ◌==◌, inl, inr, ℕ, ◌≤◌, nat_le, ◌||◌, not, Bool, true, false, codes, Some, None, List, [], ◌∷◌, ◌++◌, refl, sym, ap, ◌∙◌, arith, rules}
use Rattle.std.proofs.lemmas.Bool.{eqb-true, and_from, or_from, or_parts, or_right, or_left}
use Rattle.std.proofs.lemmas.Grind.{common_steps}
use Rattle.std.proofs.lemmas.Bool.Decides.{nat_tests}
use Rattle.std.specs.List.{list_any}
use Rattle.markdown_content.specs.Codes.{Code, is_line_ending}
use Rattle.markdown_content.specs.Content.{has_no_blank_line}
use Rattle.markdown_content.specs.Tree.{Forest, leaf_codes}
use Rattle.markdown_model.specs.CodeTests.{is_value, is_among, is_whitespace_code}
use Rattle.markdown_model.specs.Grammar.{Reading, ◌>>=◌, gives, either, up_to}
use Rattle.markdown_model.specs.Resource.{StringNames, DestinationNames, between_markers, counted, escaped_between, is_bare_opener, label, title, title_between, literal_destination}
use Rattle.markdown_model.proofs.ReadingsCover.{covers_label, covers_title, takes_up_to, itself}
use Rattle.markdown_model.proofs.DefinitionSteps.{read-codes}
use Rattle.markdown_model.proofs.GrammarSteps.{bind-some, bind-none, after-some, one-here, one-other, provided-true, either-some, either-second, and-left, and-right}
use Rattle.markdown_model_laws.specs.LinkParts.{IsEscapedIn, IsLabel, IsBetween, IsTitle, IsEnclosed, Marked, enclosed_tree, TitlesAreFound, LabelsAreFound}
use Rattle.markdown_model_laws.proofs.BoolParts.{or-parts, or-last, other}
use Rattle.markdown_model_laws.proofs.EscapedTexts.{Escaped, escapes-after, read, found}
use Rattle.markdown_model_laws.proofs.ReadingsInverted.{Went, WentOne, bind-back, one-back, provided-back, gives-back, either-back}

-- Texts up to a code that stops them.

pub record WentText (stop takes refuses : Code → Bool) (next : List Code → Reading Forest) (cs : List Code) (r : Forest × List Code) : Type 0 where
  pub text : List Code
  pub after : List Code
  pub whole : cs ≡ text ++ after
  pub is : Escaped (λ c. stop c || refuses c) takes false text
  pub second : next text after ≡ Some r

module _ (stop takes refuses : Code → Bool) (slashes : (c : Code) → is_value 92 c ≡ true → takes c ≡ true) (stops : (c : Code) → stop c ≡ true → takes c ≡ true) where
  text-back : (next : List Code → Reading Forest) (cs : List Code) (r : Forest × List Code) →
      (up_to stop takes refuses >>= next) cs ≡ Some r → WentText stop takes refuses next cs r
  unfolding up_to
  text-back next cs r e =
      let w : Went (up_to stop takes refuses) next cs r = bind-back (up_to stop takes refuses) next cs r e in
      record {
        text = w.value;
        after = w.after;
        whole = read-codes itself (up_to stop takes refuses) (takes_up_to stop takes refuses) cs w.after w.value w.first;
        is = read stop takes refuses slashes stops false cs (w.value, w.after) w.first;
        second = w.second;
      }

  text-some : (text : List Code) (back : Code) (rest : List Code) →
      Escaped (λ c. stop c || refuses c) takes false text → stop back ≡ true →
      up_to stop takes refuses (text ++ (back ∷ rest)) ≡ Some (text, back ∷ rest)
  unfolding up_to
  text-some text back rest i h = found stop takes refuses slashes stops false text (back ∷ rest) i h

-- the escaped codes of a text, by the words of the grammar
escaped-in : (marks stops takes : Code → Bool) (text : List Code) → ((c : Code) → marks c ≡ true → stops c ≡ true) →
    Escaped stops takes false text → IsEscapedIn marks text
escaped-in marks stops takes text more i = search (rules, escapes-after, and-left)

escaped-of : (marks stops takes : Code → Bool) (text : List Code) → ((before after : List Code) (c : Code) → text ≡ before ++ (c ∷ after) → stops c ≡ true → (marks c ≡ true) × (takes c ≡ true))
    → IsEscapedIn marks text → Escaped stops takes false text
escaped-of marks stops takes text less i = search (rules, and_from, escapes-after)

-- Titles.

module _ (both : Bool) (opener closer : ℕ) (names : StringNames) where
  abbrev takes : Code → Bool
  takes c = escaped_between both opener closer c

  abbrev bare : Code → Bool
  bare c = is_bare_opener both opener c

  abbrev marks : Code → Bool
  marks c = is_value closer c || bare c

  slashes : (c : Code) → is_value 92 c ≡ true → takes c ≡ true
  slashes c h = or_left _ _ h

  stops : (c : Code) → is_value closer c ≡ true → takes c ≡ true
  stops c h = or_right (c.value == 92) _ (or_left _ (bare c) h)

  marked : (c : Code) → marks c ≡ true → takes c ≡ true
  marked c h = or_right (c.value == 92) _ h

  between-back : (cs : List Code) (tree : Forest) (rest : List Code) →
      title_between both opener closer names cs ≡ Some (tree, rest) →
      Marked (IsBetween both opener closer) (between_markers names) cs tree rest
  unfolding title_between
  between-back cs tree rest e =
      let a : WentOne (is_value opener) _ cs (tree, rest) = one-back (is_value opener) _ cs (tree, rest) e in
      let b : WentText (is_value closer) takes bare _ a.after (tree, rest) = text-back (is_value closer) takes bare slashes stops _ a.after (tree, rest) a.second in
      let d : WentOne (is_value closer) _ b.after (tree, rest) = one-back (is_value closer) _ b.after (tree, rest) b.second in
      let p : (has_no_blank_line true (b.text ++ (d.code ∷ [])) ≡ true) × (gives (between_markers names (a.code ∷ []) b.text (d.code ∷ [])) d.after ≡ Some (tree, rest)) = provided-back _ _ d.after (tree, rest) d.second in
      let g : (tree ≡ between_markers names (a.code ∷ []) b.text (d.code ∷ [])) × (d.after ≡ rest) = gives-back _ tree d.after rest p.1 in
      record {
        front = a.code;
        text = b.text;
        back = d.code;
        stands = a.is ∙ ap (λ xs. a.code ∷ xs) (b.whole ∙ ap (λ xs. b.text ++ xs) (d.is ∙ ap (λ xs. d.code ∷ xs) g.1));
        is = record {
          opens = a.passes;
          closes = d.passes;
          escaped = escaped-in marks marks takes b.text (λ c h. h) b.is;
          lines = p.0;
        };
        tree_is = g.0;
      }

  between-found : (front : Code) (text : List Code) (back : Code) (rest : List Code) → IsBetween both opener closer front text back
      → title_between both opener closer names (front ∷ (text ++ (back ∷ rest))) ≡ Some (between_markers names (front ∷ []) text (back ∷ []), rest)
  unfolding title_between gives
  between-found front text back rest i =
      bind-some _ _ (front ∷ (text ++ (back ∷ rest))) (front ∷ []) (text ++ (back ∷ rest)) _ (one-here (is_value opener) front (text ++ (back ∷ rest)) i.opens)
      (bind-some _ _ (text ++ (back ∷ rest)) text (back ∷ rest) _ (text-some (is_value closer) takes bare slashes stops text back rest
      (escaped-of marks marks takes text (λ before after c e h. (h, marked c h)) i.escaped) i.closes)
      (bind-some _ _ (back ∷ rest) (back ∷ []) rest _ (one-here (is_value closer) back rest i.closes)
      (after-some _ _ rest [] rest _ (provided-true _ rest i.lines) refl)))

  -- it does not begin with another code
  between-none : (front : Code) (cs : List Code) → is_value opener front ≡ false →
      title_between both opener closer names (front ∷ cs) ≡ None
  unfolding title_between
  between-none front cs h = bind-none _ _ (front ∷ cs) (one-other (is_value opener) front cs h)

module _ (both : Bool) (names : StringNames) where
  weaker : (asked : Bool) (opener closer : ℕ) (cs : List Code) (tree : Forest) (rest : List Code) → ((front : Code) (text : List Code) (back : Code) → IsBetween asked opener closer front text back → IsTitle both front text back)
      → Marked (IsBetween asked opener closer) (between_markers names) cs tree rest → Marked (IsTitle both) (between_markers names) cs tree rest
  weaker asked opener closer cs tree rest f m = search (rules)

  pub title-back : (cs : List Code) (tree : Forest) (rest : List Code) → title both names cs ≡ Some (tree, rest) →
      Marked (IsTitle both) (between_markers names) cs tree rest
  unfolding title
  title-back cs tree rest e =
      elim (either-back (title_between false 34 34 names) (either (title_between false 39 39 names) (title_between both 40 41 names)) cs (tree, rest) e) [
        | inl h ↦ weaker false 34 34 cs tree rest (λ a b c i. inl i) (between-back false 34 34 names cs tree rest h)
        | inr h ↦ elim (either-back (title_between false 39 39 names) (title_between both 40 41 names) cs (tree, rest) h) [
          | inl k ↦ weaker false 39 39 cs tree rest (λ a b c i. inr (inl i)) (between-back false 39 39 names cs tree rest k)
          | inr k ↦ weaker both 40 41 cs tree rest (λ a b c i. inr (inr i)) (between-back both 40 41 names cs tree rest k)
        ]
      ]

  pub found-title : (front : Code) (text : List Code) (back : Code) (rest : List Code) → IsTitle both front text back →
      title both names (front ∷ (text ++ (back ∷ rest))) ≡ Some (between_markers names (front ∷ []) text (back ∷ []), rest)
  unfolding title
  found-title front text back rest h0 = grind (arith, either-some, between-found, either-second, between-none, other)

-- a reading that holds at three parts with their tree holds where they stand
pub marked-found : (a : Reading Forest) (Is : Code → List Code → Code → Type 0) (tree_of : List Code → List Code → List Code → Forest)
    → ((front : Code) (text : List Code) (back : Code) (rest : List Code) → Is front text back → a (front ∷ (text ++ (back ∷ rest))) ≡ Some (tree_of (front ∷ []) text (back ∷ []), rest))
    → (cs : List Code) (tree : Forest) (rest : List Code) → Marked Is tree_of cs tree rest → a cs ≡ Some (tree, rest)
marked-found a Is tree_of found cs tree rest m = grind (arith, found)

pub titles_are_found : TitlesAreFound
titles_are_found both names =
    let found : (cs : List Code) (tree : Forest) (rest : List Code) → Marked (IsTitle both) (between_markers names) cs tree rest → title both names cs ≡ Some (tree, rest) = marked-found (title both names) (IsTitle both) (between_markers names) (found-title both names) in
    record {
      found = λ cs tree rest. (title-back both names cs tree rest, found cs tree rest);
      covers = λ cs tree rest m. read-codes leaf_codes (title both names) (covers_title both names) cs rest tree (found cs tree rest m);
    }

-- Labels.

at_most : (n : ℕ) → nat_le n 999 ≡ true → n ≤ 999
at_most n e = grind (arith, nat_tests, common_steps)

is_at_most : (n : ℕ) → n ≤ 999 → nat_le n 999 ≡ true
is_at_most n h = grind (arith, nat_tests, common_steps)

abbrev brackets : Code → Bool
brackets c = is_among (codes "[]") c

abbrev bracket_takes : Code → Bool
bracket_takes c = is_among (codes "[\\]") c

abbrev is_bracket : Code → Bool
is_bracket c = is_value 93 c || is_value 91 c

bracket_slashes : (c : Code) → is_value 92 c ≡ true → bracket_takes c ≡ true
bracket_slashes c h = or_right (c.value == 91) _ (or_left _ _ h)

bracket_stops : (c : Code) → is_value 93 c ≡ true → bracket_takes c ≡ true
bracket_stops c h = or_right (c.value == 91) _ (or_right (c.value == 92) _ (or_left _ false h))

to-bracket : (c : Code) → brackets c ≡ true → is_bracket c ≡ true
to-bracket c h = grind (arith, or-parts, or_right, or_left, or-last)

from-bracket : (c : Code) → is_bracket c ≡ true → (brackets c ≡ true) × (bracket_takes c ≡ true)
from-bracket c h = grind (arith, or-parts (c.value == 93) _ h, or_right, or_left, bracket_stops)

module _ (characters : Bool) (names : StringNames) where
  abbrev some_filled : List Code → Bool
  some_filled text = list_any (λ c. not (is_whitespace_code c)) text

  pub label-back : (cs : List Code) (tree : Forest) (rest : List Code) → label characters names cs ≡ Some (tree, rest) →
      Marked (IsLabel characters) (between_markers names) cs tree rest
  unfolding label
  label-back cs tree rest e =
      let a : WentOne (is_value 91) _ cs (tree, rest) = one-back (is_value 91) _ cs (tree, rest) e in
      let b : WentText (is_value 93) bracket_takes (is_value 91) _ a.after (tree, rest) = text-back (is_value 93) bracket_takes (is_value 91) bracket_slashes bracket_stops _ a.after (tree, rest) a.second in
      let f : (some_filled b.text ≡ true) × (_ ≡ Some (tree, rest)) = provided-back _ _ b.after (tree, rest) b.second in
      let n : (nat_le (counted characters false b.text) 999 ≡ true) × (_ ≡ Some (tree, rest)) = provided-back _ _ b.after (tree, rest) f.1 in
      let d : WentOne (is_value 93) _ b.after (tree, rest) = one-back (is_value 93) _ b.after (tree, rest) n.1 in
      let p : (has_no_blank_line true (b.text ++ (d.code ∷ [])) ≡ true) × (gives (between_markers names (a.code ∷ []) b.text (d.code ∷ [])) d.after ≡ Some (tree, rest)) = provided-back _ _ d.after (tree, rest) d.second in
      let g : (tree ≡ between_markers names (a.code ∷ []) b.text (d.code ∷ [])) × (d.after ≡ rest) = gives-back _ tree d.after rest p.1 in
      record {
        front = a.code;
        text = b.text;
        back = d.code;
        stands = a.is ∙ ap (λ xs. a.code ∷ xs) (b.whole ∙ ap (λ xs. b.text ++ xs) (d.is ∙ ap (λ xs. d.code ∷ xs) g.1));
        is = record {
          opens = a.passes;
          closes = d.passes;
          escaped = escaped-in brackets is_bracket bracket_takes b.text to-bracket b.is;
          filled = f.0;
          size = at_most (counted characters false b.text) n.0;
          lines = p.0;
        };
        tree_is = g.0;
      }

  pub label-found : (front : Code) (text : List Code) (back : Code) (rest : List Code) → IsLabel characters front text back
      → label characters names (front ∷ (text ++ (back ∷ rest))) ≡ Some (between_markers names (front ∷ []) text (back ∷ []), rest)
  unfolding label gives
  label-found front text back rest i =
      bind-some _ _ (front ∷ (text ++ (back ∷ rest))) (front ∷ []) (text ++ (back ∷ rest)) _ (one-here (is_value 91) front (text ++ (back ∷ rest)) i.opens)
      (bind-some _ _ (text ++ (back ∷ rest)) text (back ∷ rest) _ (text-some (is_value 93) bracket_takes (is_value 91) bracket_slashes bracket_stops text back rest
      (escaped-of brackets is_bracket bracket_takes text (λ before after c e h. from-bracket c h) i.escaped) i.closes)
      (after-some _ _ (back ∷ rest) [] (back ∷ rest) _ (provided-true _ (back ∷ rest) i.filled)
      (after-some _ _ (back ∷ rest) [] (back ∷ rest) _ (provided-true _ (back ∷ rest) (is_at_most (counted characters false text) i.size))
      (bind-some _ _ (back ∷ rest) (back ∷ []) rest _ (one-here (is_value 93) back rest i.closes)
      (after-some _ _ rest [] rest _ (provided-true _ rest i.lines) refl)))))

pub labels_are_found : LabelsAreFound
labels_are_found characters names =
    let found : (cs : List Code) (tree : Forest) (rest : List Code) → Marked (IsLabel characters) (between_markers names) cs tree rest → label characters names cs ≡ Some (tree, rest) = marked-found (label characters names) (IsLabel characters) (between_markers names) (label-found characters names) in
    record {
      found = λ cs tree rest. (label-back characters names cs tree rest, found cs tree rest);
      covers = λ cs tree rest m. read-codes leaf_codes (label characters names) (covers_label characters names) cs rest tree (found cs tree rest m);
    }

-- Destinations in angle brackets.

abbrev angles : Code → Bool
angles c = is_among (codes "<>") c

abbrev angle_takes : Code → Bool
angle_takes c = is_among (codes "<>\\") c

abbrev angle_refuses : Code → Bool
angle_refuses c = is_value 60 c || is_line_ending c

abbrev is_angle : Code → Bool
is_angle c = is_value 62 c || angle_refuses c

angle_slashes : (c : Code) → is_value 92 c ≡ true → angle_takes c ≡ true
angle_slashes c h = or_right (c.value == 60) _ (or_right (c.value == 62) _ (or_left _ false h))

angle_stops : (c : Code) → is_value 62 c ≡ true → angle_takes c ≡ true
angle_stops c h = or_right (c.value == 60) _ (or_left _ _ h)

to-angle : (c : Code) → angles c ≡ true → is_angle c ≡ true
to-angle c h = grind (arith, or-parts, or_right, or_left, or-last)

-- a code of a list in which none passes does not pass
pub none-passes : (p : Code → Bool) (before after : List Code) (c : Code) (text : List Code) →
    text ≡ before ++ (c ∷ after) → list_any p text ≡ false → p c ≡ false
none-passes p before after c text e h = here before (sym (ap (list_any p) e) ∙ h)
  where
    here : (xs : List Code) → list_any p (xs ++ (c ∷ after)) ≡ false → p c ≡ false
    here [] k = (or_parts (p c) _ k).0
    here (x ∷ xs) k = here xs (or_parts (p x) _ k).1

-- and where each does not pass, none does
none-of : (p : Code → Bool) (text : List Code) →
    ((before after : List Code) (c : Code) → text ≡ before ++ (c ∷ after) → p c ≡ false) → list_any p text ≡ false
none-of p [] f = refl
none-of p (c ∷ text) f =
    or_from (p c) (list_any p text) (f [] text c refl) (none-of p text (λ before after d e. f (c ∷ before) after d (ap (λ xs. c ∷ xs) e)))

from-angle : (c : Code) → is_line_ending c ≡ false → is_angle c ≡ true → (angles c ≡ true) × (angle_takes c ≡ true)
from-angle c n h = grind (arith, or-parts (c.value == 62) _ h, or_right, or_left, angle_stops, or-parts)

-- a line ending is none of the marks
ending-taken : (c : Code) (b : Bool) → is_line_ending c ≡ b → angle_takes c ≡ true → b ≡ false
ending-taken c true e h = grind (arith, eqb-true)
ending-taken c false e h = refl

module _ (names : DestinationNames) where
  pub enclosed-back : (cs : List Code) (tree : Forest) (rest : List Code) →
      literal_destination names cs ≡ Some (tree, rest) → Marked IsEnclosed (enclosed_tree names) cs tree rest
  unfolding literal_destination
  enclosed-back cs tree rest e =
      let a : WentOne (is_value 60) _ cs (tree, rest) = one-back (is_value 60) _ cs (tree, rest) e in
      let b : WentText (is_value 62) angle_takes angle_refuses _ a.after (tree, rest) = text-back (is_value 62) angle_takes angle_refuses angle_slashes angle_stops _ a.after (tree, rest) a.second in
      let d : WentOne (is_value 62) _ b.after (tree, rest) = one-back (is_value 62) _ b.after (tree, rest) b.second in
      let g : (tree ≡ enclosed_tree names (a.code ∷ []) b.text (d.code ∷ [])) × (d.after ≡ rest) = gives-back _ tree d.after rest d.second in
      record {
        front = a.code;
        text = b.text;
        back = d.code;
        stands = a.is ∙ ap (λ xs. a.code ∷ xs) (b.whole ∙ ap (λ xs. b.text ++ xs) (d.is ∙ ap (λ xs. d.code ∷ xs) g.1));
        is = record {
          opens = a.passes;
          closes = d.passes;
          escaped = escaped-in angles is_angle angle_takes b.text to-angle b.is;
          one_line = none-of is_line_ending b.text (λ before after c k. by_test before after c k (is_line_ending c) refl b.is);
        };
        tree_is = g.0;
      }
    where
      by_test : {text : List Code} (before after : List Code) (c : Code) → text ≡ before ++ (c ∷ after) → (x : Bool) →
          is_line_ending c ≡ x → Escaped is_angle angle_takes false text → is_line_ending c ≡ false
      by_test before after c k true h i = grind (arith, ending-taken, and-right, or_right)
      by_test before after c k false h i = h

  pub enclosed-found : (front : Code) (text : List Code) (back : Code) (rest : List Code) → IsEnclosed front text back
      → literal_destination names (front ∷ (text ++ (back ∷ rest))) ≡ Some (enclosed_tree names (front ∷ []) text (back ∷ []), rest)
  unfolding literal_destination gives
  enclosed-found front text back rest i =
      bind-some _ _ (front ∷ (text ++ (back ∷ rest))) (front ∷ []) (text ++ (back ∷ rest)) _ (one-here (is_value 60) front (text ++ (back ∷ rest)) i.opens)
      (bind-some _ _ (text ++ (back ∷ rest)) text (back ∷ rest) _ (text-some (is_value 62) angle_takes angle_refuses angle_slashes angle_stops text back rest
      (escaped-of angles is_angle angle_takes text (λ before after c e h. from-angle c (none-passes is_line_ending before after c text e i.one_line) h) i.escaped) i.closes)
      (bind-some _ _ (back ∷ rest) (back ∷ []) rest _ (one-here (is_value 62) back rest i.closes) refl))
