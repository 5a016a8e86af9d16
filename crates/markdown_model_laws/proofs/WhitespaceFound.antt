-- Whitespace between the parts of a resource: where its reading holds.
use Rattle.std.proofs.Common.{◌≡◌, ◌==◌, ◌⊎◌, inl, inr, ◌+◌, ◌<◌, ◌||◌, not, Bool, true, false, Option, Some, None, List, [], ◌∷◌, ◌++◌, length, refl, sym, ap, ◌∙◌, length-append, arith, rules}
use Rattle.std.proofs.lemmas.Bool.{eqb-true, or_parts}
use Rattle.std.specs.List.{list_all}
use Rattle.markdown_content.specs.Codes.{Code, is_line_ending, is_blank}
use Rattle.markdown_content.specs.Tree.{Forest, empty, ◌⊕◌}
use Rattle.markdown_event.specs.declared.event.Name.{Name}
use Rattle.markdown_model.specs.CodeTests.{next_is, is_empty, is_whitespace_code}
use Rattle.markdown_model.specs.Grammar.{gives, either, before, some, any_number, span, optional_tree}
use Rattle.markdown_model.specs.TextLines.{linked_leaf}
use Rattle.markdown_model.specs.Whitespace.{space_or_tab_eol, spaces_across, spaces_on_line, begins_filled_line}
use Rattle.markdown_model.proofs.LeafCodes.{span-append}
use Rattle.markdown_model.proofs.DefinitionSteps.{span-all}
use Rattle.markdown_model.proofs.GrammarSteps.{bind-some, bind-none, one-here, one-not, before-some, before-none, some-span, some-nothing, any-number-is, either-some, either-second, span-takes, span-none, and-left, and-right}
use Rattle.markdown_model_laws.specs.ResourceParts.{Spacing, SomeSpacing}
use Rattle.markdown_model_laws.proofs.ReadingsInverted.{Went, WentOne, bind-back, one-back, gives-back, either-back, before-back}

-- codes that pass, up to one that does not
pub record Spans (p : Code → Bool) (cs value after : List Code) : Type 0 where
  pub whole : cs ≡ value ++ after
  pub all : list_all p value ≡ true

spans : (p : Code → Bool) (cs value after : List Code) → ◌≡◌ {A = List Code × List Code} (span p cs) (value, after) →
    Spans p cs value after
spans p cs value after e =
    record { whole = sym (span-append p cs) ∙ ap (λ (s : List Code × List Code). s.0 ++ s.1) e; all = sym (ap (λ (s : List Code × List Code). list_all p s.0) e) ∙ span-all p cs }

some-pair : (s r : List Code × List Code) → ◌≡◌ {A = Option (List Code × List Code)} (Some s) (Some r) → s ≡ r
some-pair s r e = cc

any-back : (p : Code → Bool) (cs value after : List Code) → any_number p cs ≡ Some (value, after) →
    Spans p cs value after
any-back p cs value after e =
    spans p cs value after (some-pair (span p cs) (value, after) (sym (any-number-is p cs) ∙ e))

pub record SpansSome (p : Code → Bool) (cs value after : List Code) : Type 0 where
  pub is : Spans p cs value after
  pub some : is_empty value ≡ false

some-back : (p : Code → Bool) (cs value after : List Code) → some p cs ≡ Some (value, after) →
    SpansSome p cs value after
unfolding some
some-back p cs value after e = by_test (is_empty (span p cs).0) refl e
  where
    by_test : (b : Bool) → is_empty (span p cs).0 ≡ b →
        elim b as (λ _. Option (List Code × List Code)) [ true ↦ None | false ↦ Some (span p cs) ] ≡ Some (value, after) →
        SpansSome p cs value after
    by_test true h k = cc
    by_test false h k =
        let same : span p cs ≡ (value, after) = some-pair (span p cs) (value, after) k in
        record { is = spans p cs value after same; some = sym (ap (λ (s : List Code × List Code). is_empty s.0) same) ∙ h }

span-exact : (p : Code → Bool) (xs ys : List Code) → list_all p xs ≡ true → next_is p ys ≡ false →
    ◌≡◌ {A = List Code × List Code} (span p (xs ++ ys)) (xs, ys)
span-exact p [] ys h k = span-none p ys k
span-exact p (x ∷ xs) ys h k = grind (arith, span-takes, and-left, span-exact p xs ys (and-right (p x) _ h) k, and-right)

any-some : (p : Code → Bool) (xs ys : List Code) → list_all p xs ≡ true → next_is p ys ≡ false →
    any_number p (xs ++ ys) ≡ Some (xs, ys)
any-some p xs ys h k = any-number-is p (xs ++ ys) ∙ ap (λ (s : List Code × List Code). Some s) (span-exact p xs ys h k)

-- The tree of whitespace on one line.

row-end : (name : Name) (cs : List Code) → linked_leaf name None cs ⊕ empty ≡ linked_leaf name None cs
row-end name [] = refl
row-end name (c ∷ cs) = refl

-- What the reading gives is such whitespace.

across-back : (cs : List Code) (tree : Forest) (rest : List Code) → spaces_across None cs ≡ Some (tree, rest) →
    SomeSpacing cs tree rest
unfolding spaces_across
across-back cs tree rest e =
    let a : Went (any_number is_blank) _ cs (tree, rest) = bind-back (any_number is_blank) _ cs (tree, rest) e in
    let o : WentOne is_line_ending _ a.after (tree, rest) = one-back is_line_ending _ a.after (tree, rest) a.second in
    let b : Went (before (any_number is_blank) begins_filled_line) _ o.after (tree, rest) = bind-back (before (any_number is_blank) begins_filled_line) _ o.after (tree, rest) o.second in
    let g : (tree ≡ linked_leaf Name.SpaceOrTab None a.value ⊕ linked_leaf Name.LineEnding None (o.code ∷ []) ⊕ linked_leaf Name.SpaceOrTab None b.value) × (b.after ≡ rest) = gives-back _ tree b.after rest b.second in
    let front : Spans is_blank cs a.value a.after = any-back is_blank cs a.value a.after a.first in
    let back : Spans is_blank o.after b.value b.after = any-back is_blank o.after b.value b.after (before-back (any_number is_blank) begins_filled_line o.after (b.value, b.after) b.first).0 in
    let whole : cs ≡ a.value ++ ((o.code ∷ []) ++ (b.value ++ rest)) = front.whole ∙ ap (λ xs. a.value ++ xs) (o.is ∙ ap (λ xs. o.code ∷ xs) (back.whole ∙ ap (λ xs. b.value ++ xs) g.1)) in (
      record { front = a.value; ending = o.code ∷ []; back = b.value; stands = whole; front_blank = front.all; up_to_one = inr (o.code, refl, o.passes); back_blank = back.all; tree_is = g.0 },
      omega (arith, ap length whole, length-append a.value ((o.code ∷ []) ++ (b.value ++ rest)), length-append b.value rest),
    )

line-back : (cs : List Code) (tree : Forest) (rest : List Code) → spaces_on_line None cs ≡ Some (tree, rest) →
    SomeSpacing cs tree rest
unfolding spaces_on_line
line-back cs tree rest e =
    let a : Went (before (some is_blank) (λ ds. not (next_is is_line_ending ds))) _ cs (tree, rest) = bind-back (before (some is_blank) (λ ds. not (next_is is_line_ending ds))) _ cs (tree, rest) e in
    let g : (tree ≡ linked_leaf Name.SpaceOrTab None a.value) × (a.after ≡ rest) = gives-back _ tree a.after rest a.second in
    let front : SpansSome is_blank cs a.value a.after = some-back is_blank cs a.value a.after (before-back (some is_blank) (λ ds. not (next_is is_line_ending ds)) cs (a.value, a.after) a.first).0 in
    let whole : cs ≡ a.value ++ rest = front.is.whole ∙ ap (λ xs. a.value ++ xs) g.1 in (
      record { front = a.value; ending = []; back = []; stands = whole; front_blank = front.is.all; up_to_one = inl (refl, refl); back_blank = refl; tree_is = g.0 ∙ sym (row-end Name.SpaceOrTab a.value) },
      shorter a.value front.some (ap length whole ∙ length-append a.value rest),
    )
  where
    shorter : (xs : List Code) → is_empty xs ≡ false → length cs ≡ length xs + length rest → length rest < length cs
    shorter [] h k = cc
    shorter (x ∷ xs) h k = omega (arith, k)

pub spacing-back : (cs : List Code) (tree : Forest) (rest : List Code) → space_or_tab_eol None cs ≡ Some (tree, rest) →
    SomeSpacing cs tree rest
unfolding space_or_tab_eol
spacing-back cs tree rest e =
    elim (either-back (spaces_across None) (spaces_on_line None) cs (tree, rest) e) [ inl h ↦ across-back cs tree rest h | inr h ↦ line-back cs tree rest h ]

pub optional-back : (cs : List Code) (tree : Forest) (rest : List Code) →
    optional_tree (space_or_tab_eol None) cs ≡ Some (tree, rest) → Spacing cs tree rest
unfolding optional_tree
optional-back cs tree rest e =
    elim (either-back (space_or_tab_eol None) (gives empty) cs (tree, rest) e) [
      | inl h ↦ (spacing-back cs tree rest h).0
      | inr h ↦ let g : (tree ≡ empty) × (cs ≡ rest) = gives-back empty tree cs rest h in
          record { front = []; ending = []; back = []; stands = g.1; front_blank = refl; up_to_one = inl (refl, refl); back_blank = refl; tree_is = g.0 }
    ]

-- And such whitespace is read, before a code that is none.

pub record BeginsUnspaced (rest : List Code) : Type 0 where
  pub code : Code
  pub more : List Code
  pub is : rest ≡ code ∷ more
  pub plain : is_whitespace_code code ≡ false

no-blank : (rest : List Code) → BeginsUnspaced rest → next_is is_blank rest ≡ false
no-blank rest h = ap (next_is is_blank) h.is ∙ (or_parts _ _ h.plain).0

no-ending : (rest : List Code) → BeginsUnspaced rest → next_is is_line_ending rest ≡ false
no-ending rest h = ap (next_is is_line_ending) h.is ∙ (or_parts _ _ h.plain).1

filled-line : (rest : List Code) → BeginsUnspaced rest → begins_filled_line rest ≡ true
filled-line rest h = ap begins_filled_line h.is ∙ ap not (or_parts _ _ h.plain).1

across-found : (front : List Code) (e : Code) (back rest : List Code) → list_all is_blank front ≡ true → is_line_ending e ≡ true → list_all is_blank back ≡ true → BeginsUnspaced rest
    → spaces_across None (front ++ (e ∷ (back ++ rest))) ≡ Some (linked_leaf Name.SpaceOrTab None front ⊕ linked_leaf Name.LineEnding None (e ∷ []) ⊕ linked_leaf Name.SpaceOrTab None back, rest)
unfolding spaces_across gives
across-found front e back rest h l k p =
    bind-some _ _ (front ++ (e ∷ (back ++ rest))) front (e ∷ (back ++ rest)) _ (any-some is_blank front (e ∷ (back ++ rest)) h (ap (λ v. v == 32 || v == 9) (eqb-true e.value 10 l)))
    (bind-some _ _ (e ∷ (back ++ rest)) (e ∷ []) (back ++ rest) _ (one-here is_line_ending e (back ++ rest) l)
    (bind-some _ _ (back ++ rest) back rest _ (before-some (any_number is_blank) begins_filled_line (back ++ rest) back rest (any-some is_blank back rest k (no-blank rest p)) (filled-line rest p)) refl))

across-none : (front rest : List Code) → list_all is_blank front ≡ true → BeginsUnspaced rest →
    spaces_across None (front ++ rest) ≡ None
unfolding spaces_across
across-none front rest h p =
    bind-some _ _ (front ++ rest) front rest _ (any-some is_blank front rest h (no-blank rest p)) (bind-none _ _ rest (one-not is_line_ending rest (no-ending rest p)))

line-found : (c : Code) (front rest : List Code) → list_all is_blank (c ∷ front) ≡ true → BeginsUnspaced rest →
    spaces_on_line None (c ∷ (front ++ rest)) ≡ Some (linked_leaf Name.SpaceOrTab None (c ∷ front), rest)
unfolding spaces_on_line gives
line-found c front rest h p =
    bind-some _ _ (c ∷ (front ++ rest)) (c ∷ front) rest _
    (before-some (some is_blank) (λ ds. not (next_is is_line_ending ds)) (c ∷ (front ++ rest)) (c ∷ front) rest (some-span is_blank (c ∷ (front ++ rest)) c front rest (span-exact is_blank (c ∷ front) rest h (no-blank rest p))) (ap not (no-ending rest p)))
    refl

nothing-read : (rest : List Code) → BeginsUnspaced rest → space_or_tab_eol None rest ≡ None
unfolding space_or_tab_eol spaces_on_line
nothing-read rest p =
    either-second _ _ rest (across-none [] rest refl p)
    ∙ bind-none _ _ rest (before-none (some is_blank) (λ ds. not (next_is is_line_ending ds)) rest (some-nothing is_blank rest rest (span-none is_blank rest (no-blank rest p))))

-- whether it is some, or none
pub record Read (cs : List Code) (tree : Forest) (rest : List Code) : Type 0 where
  pub is : (space_or_tab_eol None cs ≡ Some (tree, rest)) ⊎ ((space_or_tab_eol None cs ≡ None) × ((cs ≡ rest) × (tree ≡ empty)))

ending-read : (front : List Code) (e : Code) (back rest : List Code) → list_all is_blank front ≡ true → is_line_ending e ≡ true → list_all is_blank back ≡ true → BeginsUnspaced rest
    → Read (front ++ (e ∷ (back ++ rest))) (linked_leaf Name.SpaceOrTab None front ⊕ linked_leaf Name.LineEnding None (e ∷ []) ⊕ linked_leaf Name.SpaceOrTab None back) rest
unfolding space_or_tab_eol
ending-read front e back rest h l k p = search (rules, either-some, across-found)

line-read : (front rest : List Code) → list_all is_blank front ≡ true → BeginsUnspaced rest →
    Read (front ++ rest) (linked_leaf Name.SpaceOrTab None front ⊕ empty) rest
unfolding space_or_tab_eol
line-read [] rest h p = record { is = inr (nothing-read rest p, (refl, refl)) }
line-read (c ∷ front) rest h p =
    record { is = inl (either-second _ _ (c ∷ (front ++ rest)) (across-none (c ∷ front) rest h p) ∙ line-found c front rest h p) }

pub spacing-read : (cs : List Code) (tree : Forest) (rest : List Code) → Spacing cs tree rest → BeginsUnspaced rest →
    Read cs tree rest
spacing-read cs tree rest s p = grind (arith, line-read, ending-read)

pub optional-found : (cs : List Code) (tree : Forest) (rest : List Code) → Spacing cs tree rest → BeginsUnspaced rest →
    optional_tree (space_or_tab_eol None) cs ≡ Some (tree, rest)
unfolding optional_tree gives
optional-found cs tree rest s p = by_read (spacing-read cs tree rest s p).is
  where
    by_read : ((space_or_tab_eol None cs ≡ Some (tree, rest)) ⊎ ((space_or_tab_eol None cs ≡ None) × ((cs ≡ rest) × (tree ≡ empty)))) →
        either (space_or_tab_eol None) (gives empty) cs ≡ Some (tree, rest)
    by_read (inl h) = either-some _ _ cs (tree, rest) h
    by_read (inr h) = either-second _ _ cs h.0 ∙ (λ i. Some (sym h.1.1 i, h.1.0 i))

pub spacing-found : (cs : List Code) (tree : Forest) (rest : List Code) → SomeSpacing cs tree rest → BeginsUnspaced rest →
    space_or_tab_eol None cs ≡ Some (tree, rest)
spacing-found cs tree rest s p = by_read (spacing-read cs tree rest s.0 p).is
  where
    by_read : ((space_or_tab_eol None cs ≡ Some (tree, rest)) ⊎ ((space_or_tab_eol None cs ≡ None) × ((cs ≡ rest) × (tree ≡ empty)))) →
        space_or_tab_eol None cs ≡ Some (tree, rest)
    by_read (inl h) = h
    by_read (inr h) = absurd (omega (arith, ap length h.1.0, s.1))
