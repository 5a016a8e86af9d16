-- What definitions in characters say is characters.
use Rattle.std.proofs.Common.{◌≡◌, ℕ, zero, suc, ◌-◌, refl, sym, ap, subst, ◌∙◌, List, [], ◌∷◌, ◌++◌, length, take, drop, map, Bool, true, false, ◌&&◌, ◌||◌, ◌==◌, nat_lt, Option, Some, None, arith}
use Rattle.std.specs.Prelude.{IfSome, flat_map, option_map, codes}
use Rattle.std.specs.List.{All}
use Rattle.std.specs.Str.{IsUtf8}
use Rattle.std.proofs.Math.Seq.{take-append_seam}
use Rattle.std.proofs.lemmas.Bool.{eqb-true}
use Rattle.std.proofs.lemmas.Bool.Decides.{nat_tests}
use Rattle.std.proofs.lemmas.List.{length-append}
use Rattle.std.proofs.lemmas.List.Elements.{All-nil, All-cons, All-head, All-tail, All-append}
use Rattle.markdown_content.specs.Codes.{Code, is_line_ending, is_blank}
use Rattle.markdown_content.specs.Content.{content_of}
use Rattle.markdown_content.specs.Tree.{Forest, empty, leaf, linked, group, ◌⊕◌, leaf_codes}
use Rattle.markdown_event.specs.declared.event.Name.{Name}
use Rattle.markdown_model.specs.CodeTests.{is_value, is_among, is_empty, next_is, is_whitespace_code, is_control}
use Rattle.markdown_model.specs.Grammar.{Reading, with_first, ◌>>=◌, ◌>>◌, gives, either, provided, if_next, before, one, some, any_number, span, up_to, optional_tree}
use Rattle.markdown_model.specs.Whitespace.{space_or_tab_eol, spaces_across, spaces_on_line}
use Rattle.markdown_model.specs.Resource.{StringNames, label, reference_names, between_markers, string_group, title_between, title, title_names, raw_from, literal_destination, raw_destination, destination, resource_names}
use Rattle.markdown_model.proofs.GivenByReadings.{IfGiven, given-map, given-bind, given-gives, given-passed, given-either, given-before, given-test, given-one, given-some, given-first, given-escaped}
use Rattle.markdown_model.proofs.ReadingsCover.{string_laws}
use Rattle.markdown_block_model.specs.LinkDefinitions.{Definition, between, destination_text, line_end, title_of_definition, definition, taken_by, taken, definitions_in}
use Rattle.markdown_blocks.specs.BlockRows.{leaf_of}
use Rattle.markdown_blocks.specs.TextRows.{HasPlacedText, IsPlacedRow}
use Rattle.markdown_blocks.specs.declared.block.Leaf.{Leaf}
use Rattle.markdown_blocks.specs.declared.block.Leaf.TheVariants.{Blank, ThematicBreak, Heading, Underlined, Paragraph, IndentedCode, FencedCode, Html, FrontMatter}
use Rattle.markdown_blocks.specs.declared.block.Row.{Row}
use Rattle.markdown_blocks.specs.declared.block.Row.TheVariants.{LeafAt, ContainerAt}
use Rattle.markdown_page_model.specs.PageTexts.{text_of}
use Rattle.markdown_block_model.specs.LineRests.{trimmed_end}
use Rattle.markdown_block_definitions.specs.DefinitionTexts.{AreUtf8Texts, texts_in}
use Rattle.markdown_block_definitions.specs.ResolvedRows.{definitions_of_row}
use Rattle.markdown_block_definitions.proofs.FrontTexts.{destination-bare, destination-inside}
use Rattle.markdown_block_definitions.proofs.CharacterCodes.{is_low, AreCharacters, Early, characters-cut, characters-past, low-early, text-utf8}
use Rattle.markdown_block_definitions.proofs.CharacterContents.{content-characters, trimmed-characters}

-- Readings that stop between characters.

abbrev Wholly : {A : Type 0} → (A → Type 0) → A → List Code → Type 0
Wholly P x rest = P x × AreCharacters rest

record ReadsWholly {A : Type 0} (P : A → Type 0) (a : Reading A) : Type 0 where
  at : (cs : List Code) → AreCharacters cs → IfGiven (Wholly P) (a cs)

abbrev Anything : {A : Type 0} → A → Type 0
Anything x = Unit {0}

module _ {A B : Type 0} (Q : A → Type 0) (P : B → Type 0) (a : Reading A) where
  wholly-bind : (b : A → Reading B) → ReadsWholly Q a → ((x : A) → Q x → ReadsWholly P (b x)) → ReadsWholly P (a >>= b)
  wholly-bind b h k = record { at = λ cs u. given-bind (Wholly Q) (Wholly P) a b cs (h.at cs u) (λ x rest w. (k x w.0).at rest w.1) }

  wholly-next : (b : Reading B) → ReadsWholly Q a → ReadsWholly P b → ReadsWholly P (a >> b)
  unfolding ◌>>◌
  wholly-next b h k = record { at = λ cs u. by (a cs) (h.at cs u) }
    where
      by : (o : Option (A × List Code)) → IfGiven (Wholly Q) o → IfGiven (Wholly P) (elim o as (λ _. Option (B × List Code)) [ None ↦ None | Some r ↦ b r.1 ])
      by None w = tt
      by (Some r) w = k.at r.1 w.1

module _ {A : Type 0} (P : A → Type 0) where
  wholly-gives : (x : A) → P x → ReadsWholly P (gives x)
  wholly-gives x h = record { at = λ cs u. given-gives (Wholly P) x cs (h, u) }

  wholly-passed : (test : Bool) (b : Reading A) → ReadsWholly P b → ReadsWholly P (provided test >> b)
  wholly-passed test b h = record { at = λ cs u. given-passed (Wholly P) test b cs (λ _. h.at cs u) }

  wholly-either : (a b : Reading A) → ReadsWholly P a → ReadsWholly P b → ReadsWholly P (either a b)
  wholly-either a b h k = record { at = λ cs u. given-either (Wholly P) a b cs (h.at cs u) (k.at cs u) }

  wholly-before : (a : Reading A) (test : List Code → Bool) → ReadsWholly P a → ReadsWholly P (before a test)
  wholly-before a test h = record { at = λ cs u. given-before (Wholly P) a test cs (h.at cs u) }

-- One code of this value.
abbrev IsOne : ℕ → List Code → Type 0
IsOne n [] = ⊥
IsOne n (c ∷ cs) = ((c.value == n) ≡ true) × (cs ≡ [])

value-low : (n : ℕ) (c : Code) → nat_lt n 128 ≡ true → (c.value == n) ≡ true → is_low c ≡ true
value-low n c l h = ap (λ v. nat_lt v 128) (eqb-true c.value n h) ∙ l

wholly-one : (n : ℕ) → nat_lt n 128 ≡ true → ReadsWholly (IsOne n) (one (is_value n))
wholly-one n l = record {
  at = λ cs u.
      given-map (λ x rest. AreCharacters cs → Wholly (IsOne n) x rest) (Wholly (IsOne n)) (one (is_value n) cs) (λ x rest k. k u)
      (given-one (λ cs x rest. AreCharacters cs → Wholly (IsOne n) x rest) (is_value n) (λ c ds e k. ((e, refl), characters-past c ds (value-low n c l e) k)) cs);
}

-- Blank codes.

blank-low : (c : Code) → is_blank c ≡ true → is_low c ≡ true
blank-low c h = grind (arith, nat_tests)

span-past : (cs : List Code) → AreCharacters cs → AreCharacters (span is_blank cs).1
span-past [] u = u
span-past (c ∷ cs) u = by (is_blank c) refl (λ k. span-past cs k)
  where
    by : (b : Bool) → is_blank c ≡ b → (AreCharacters cs → AreCharacters (span is_blank cs).1)
        → AreCharacters (elim b as (λ _. List Code × List Code) [ true ↦ let s = span is_blank cs in (c ∷ s.0, s.1) | false ↦ ([], c ∷ cs) ]).1
    by true e more = more (characters-past c cs (blank-low c e) u)
    by false e more = u

wholly-blanks : ReadsWholly Anything (any_number is_blank)
unfolding any_number
wholly-blanks = record { at = λ cs u. (tt, span-past cs u) }

wholly-some : ReadsWholly Anything (some is_blank)
wholly-some = record { at = λ cs u. given-some (Wholly Anything) (Wholly Anything) is_blank cs (tt, span-past cs u) (λ c x rest w. w) }

wholly-across : ReadsWholly Anything (spaces_across None)
unfolding spaces_across
wholly-across =
    wholly-bind Anything Anything _ _ wholly-blanks λ front f.
    wholly-bind (IsOne 10) Anything _ _ (wholly-one 10 refl) λ ending e.
    wholly-bind Anything Anything _ _ (wholly-before Anything _ _ wholly-blanks) λ back b.
    wholly-gives Anything _ tt

wholly-on-line : ReadsWholly Anything (spaces_on_line None)
unfolding spaces_on_line
wholly-on-line = wholly-bind Anything Anything _ _ (wholly-before Anything _ _ wholly-some) λ blank b. wholly-gives Anything _ tt

wholly-spacing : ReadsWholly Anything (space_or_tab_eol None)
unfolding space_or_tab_eol
wholly-spacing = wholly-either Anything _ _ wholly-across wholly-on-line

wholly-optional : ReadsWholly Anything (optional_tree (space_or_tab_eol None))
unfolding optional_tree
wholly-optional = wholly-either Anything _ _ wholly-spacing (wholly-gives Anything empty tt)

-- Texts up to a code.

abbrev Cuts : List Code → List Code → List Code → Type 0
Cuts cs x rest = (x ++ rest ≡ cs) × Early rest

cuts-first : (c : Code) (cs x rest : List Code) → Cuts cs x rest → Cuts (c ∷ cs) (c ∷ x) rest
cuts-first c cs x rest k = (ap (λ zs. c ∷ zs) k.0, k.1)

cuts-wholly : (cs x rest : List Code) → AreCharacters cs → Cuts cs x rest → Wholly AreCharacters x rest
cuts-wholly cs x rest u k = characters-cut x rest (subst AreCharacters (sym k.0) u) k.1

wholly-up-to : (n : ℕ) (takes refuses : Code → Bool) → nat_lt n 128 ≡ true → ReadsWholly AreCharacters (up_to (is_value n) takes refuses)
unfolding up_to
wholly-up-to n takes refuses l = record {
  at = λ cs u.
      given-map (Cuts cs) (Wholly AreCharacters) _ (λ x rest k. cuts-wholly cs x rest u k)
      (given-escaped Cuts (is_value n) takes refuses (λ c ds s. (refl, low-early c (value-low n c l s))) (λ c ds x rest t k. cuts-first c ds x rest k) (λ c ds x rest s r k. cuts-first c ds x rest k) false cs);
}

stop-early : (c : Code) (b : Bool) → (is_whitespace_code c || (is_value 41 c && b)) ≡ true → Early (c ∷ [])
stop-early c b h = grind (arith, nat_tests)

raw-cuts : (slash : Bool) (depth : ℕ) (cs : List Code) → IfGiven (Cuts cs) (raw_from 32 slash depth cs)
unfolding raw_from
raw-cuts slash zero [] = (refl, tt)
raw-cuts slash (suc d) [] = tt
raw-cuts slash depth (c ∷ cs) = cases (λ b d. given-first (Cuts cs) (Cuts (c ∷ cs)) c (raw_from 32 b d cs) (λ x rest k. cuts-first c cs x rest k) (raw-cuts b d cs))
  where
    stopped : (n : ℕ) → Early (c ∷ []) → IfGiven (Cuts (c ∷ cs)) (elim n as (λ _. Option (List Code × List Code)) [ zero ↦ Some ([], c ∷ cs) | suc d ↦ None ])
    stopped zero e = (refl, e)
    stopped (suc n) e = tt

    cases : ((b : Bool) (d : ℕ) → IfGiven (Cuts (c ∷ cs)) (with_first c (raw_from 32 b d cs))) → IfGiven (Cuts (c ∷ cs)) (raw_from 32 slash depth (c ∷ cs))
    cases more =
        given-test (Cuts (c ∷ cs)) _ _ (slash && is_among (codes "()\\") c) (λ _. more false depth) λ _.
        given-test (Cuts (c ∷ cs)) _ _ (is_whitespace_code c || (is_value 41 c && depth == 0)) (λ e. stopped depth (stop-early c (depth == 0) e)) λ _.
        given-test (Cuts (c ∷ cs)) _ _ (is_control c) (λ _. tt) λ _.
        given-test (Cuts (c ∷ cs)) _ _ (is_value 40 c) (λ _. given-test (Cuts (c ∷ cs)) _ _ (nat_lt depth 32) (λ _. more false (suc depth)) (λ _. tt)) λ _.
        given-test (Cuts (c ∷ cs)) _ _ (is_value 41 c) (λ _. more false (depth - 1)) (λ _. more (is_value 92 c) depth)

-- Texts between two markers.

between-one : (n m : ℕ) (front text back : List Code) → IsOne n front → IsOne m back → between (front ++ text ++ back) ≡ text
between-one n m [] text back f b = absurd f
between-one n m (c ∷ front) text [] f b = absurd b
between-one n m (c ∷ front) text (d ∷ back) f b =
    ap (λ (zs : List Code). between (c ∷ zs ++ text ++ d ∷ back)) f.1 ∙ ap (λ (zs : List Code). between (c ∷ text ++ d ∷ zs)) b.1
    ∙ ap (λ k. drop 1 (take k (c ∷ text ++ d ∷ []))) long ∙ take-append_seam text (d ∷ [])
  where
    long : length (c ∷ text ++ d ∷ []) - 1 ≡ suc (length text)
    long = omega (arith, length-append text (d ∷ []))

abbrev SaysCharacters : Forest → Type 0
SaysCharacters t = AreCharacters (between (leaf_codes t))

inside-markers : (names : StringNames) (n m : ℕ) (front text back : List Code) → IsOne n front → AreCharacters text → IsOne m back → SaysCharacters (between_markers names front text back)
inside-markers names n m front text back f u b =
    let whole : leaf_codes (between_markers names front text back) ≡ front ++ text ++ back = simp string_laws in
    subst AreCharacters (sym (ap between whole ∙ between-one n m front text back f b)) u

wholly-label : ReadsWholly SaysCharacters (label true reference_names)
unfolding label
wholly-label =
    wholly-bind (IsOne 91) SaysCharacters _ _ (wholly-one 91 refl) λ front f.
    wholly-bind AreCharacters SaysCharacters _ _ (wholly-up-to 93 _ _ refl) λ text u.
    wholly-passed SaysCharacters _ _ (wholly-passed SaysCharacters _ _ (wholly-bind (IsOne 93) SaysCharacters _ _ (wholly-one 93 refl) λ back b.
    wholly-passed SaysCharacters _ _ (wholly-gives SaysCharacters _ (inside-markers reference_names 91 93 front text back f u b))))

wholly-between : (both : Bool) (o c : ℕ) → nat_lt o 128 ≡ true → nat_lt c 128 ≡ true → ReadsWholly SaysCharacters (title_between both o c title_names)
unfolding title_between
wholly-between both o c l k =
    wholly-bind (IsOne o) SaysCharacters _ _ (wholly-one o l) λ front f.
    wholly-bind AreCharacters SaysCharacters _ _ (wholly-up-to c _ _ k) λ text u.
    wholly-bind (IsOne c) SaysCharacters _ _ (wholly-one c k) λ back b.
    wholly-passed SaysCharacters _ _ (wholly-gives SaysCharacters _ (inside-markers title_names o c front text back f u b))

wholly-title : ReadsWholly SaysCharacters (title true title_names)
unfolding title
wholly-title = wholly-either SaysCharacters _ _ (wholly-between false 34 34 refl refl) (wholly-either SaysCharacters _ _ (wholly-between false 39 39 refl refl) (wholly-between true 40 41 refl refl))

-- Destinations.

abbrev NamesCharacters : Forest → Type 0
NamesCharacters t = AreCharacters (destination_text (leaf_codes t))

inside-angles : (front text back : List Code) → IsOne 60 front → AreCharacters text → IsOne 62 back → AreCharacters (destination_text (front ++ text ++ back))
inside-angles [] text back f u b = absurd f
inside-angles (c ∷ front) text back f u b =
    subst AreCharacters (sym (destination-inside (c ∷ front ++ text ++ back) f.0 ∙ between-one 60 62 (c ∷ front) text back f b)) u

wholly-literal : ReadsWholly NamesCharacters (literal_destination resource_names)
unfolding literal_destination
wholly-literal =
    wholly-bind (IsOne 60) NamesCharacters _ _ (wholly-one 60 refl) λ front f.
    wholly-bind AreCharacters NamesCharacters _ _ (wholly-up-to 62 _ _ refl) λ text u.
    wholly-bind (IsOne 62) NamesCharacters _ _ (wholly-one 62 refl) λ back b.
    wholly-gives NamesCharacters _
    (subst (λ (cs : List Code). AreCharacters (destination_text cs)) (sym (whole front text back)) (inside-angles front text back f u b))
  where
    whole : (front text back : List Code)
        → leaf_codes (group resource_names.whole (group resource_names.literal (leaf resource_names.marker front ⊕ string_group resource_names.text (linked Name.Data text) ⊕ leaf resource_names.marker back))) ≡ front ++ text ++ back
    whole front text back = simp string_laws

bare-front : (text rest cs : List Code) → text ++ rest ≡ cs → next_is (is_value 60) cs ≡ false → next_is (is_value 60) text ≡ false
bare-front [] rest cs e h = refl
bare-front (c ∷ text) rest cs e h = ap (next_is (is_value 60)) e ∙ h

raw-given : (cs : List Code) → next_is (is_value 60) cs ≡ false → AreCharacters cs → IfGiven (Wholly NamesCharacters) (raw_destination 32 resource_names cs)
unfolding raw_destination
raw-given cs bare u =
    given-bind (Cuts cs) (Wholly NamesCharacters) (raw_from 32 false 0) _ cs (raw-cuts false 0 cs) λ text rest k.
    given-passed (Wholly NamesCharacters) _ _ rest λ _.
    given-gives (Wholly NamesCharacters) _ rest
    (let parts : Wholly AreCharacters text rest = cuts-wholly cs text rest u k in
    (subst AreCharacters (sym (ap destination_text (whole text) ∙ destination-bare text (bare-front text rest cs k.0 bare))) parts.0, parts.1))
  where
    whole : (text : List Code) → leaf_codes (group resource_names.whole (group resource_names.raw (group resource_names.text (linked Name.Data text)))) ≡ text
    whole text = simp string_laws

wholly-destination : ReadsWholly NamesCharacters (destination 32 resource_names)
unfolding destination if_next
wholly-destination = record {
  at = λ cs u. given-test (Wholly NamesCharacters) _ _ (next_is (is_value 60) cs) (λ _. wholly-literal.at cs u) (λ e. raw-given cs e u);
}

-- Definitions.

ending-given : (cs : List Code) → AreCharacters cs → IfGiven (Wholly Anything) (provided (is_empty cs) cs)
unfolding provided
ending-given [] u = (tt, u)
ending-given (c ∷ cs) u = tt

wholly-ending : ReadsWholly Anything (one is_line_ending)
wholly-ending = record { at = λ cs u. given-map (Wholly (IsOne 10)) (Wholly Anything) (one is_line_ending cs) (λ x rest w. (tt, w.1)) ((wholly-one 10 refl).at cs u) }

wholly-end : ReadsWholly Anything line_end
unfolding line_end
wholly-end = wholly-next Anything Anything _ _ wholly-blanks (wholly-either Anything _ _ wholly-ending (record { at = ending-given }))

abbrev MaySay : Option (List Code) → Type 0
MaySay o = IfSome o AreCharacters

wholly-title-of : ReadsWholly MaySay title_of_definition
unfolding title_of_definition
wholly-title-of =
    wholly-next Anything MaySay _ _ (wholly-before Anything _ _ wholly-spacing)
    (wholly-bind SaysCharacters MaySay _ _ wholly-title λ text u. wholly-next Anything MaySay _ _ wholly-end (wholly-gives MaySay (Some (between (leaf_codes text))) u))

record IsSaid (d : Definition) : Type 0 where
  label : AreCharacters d.label
  destination : AreCharacters d.destination
  title : MaySay d.title

wholly-definition : ReadsWholly IsSaid definition
unfolding definition
wholly-definition =
    wholly-bind SaysCharacters IsSaid _ _ wholly-label λ name n.
    wholly-next (IsOne 58) IsSaid _ _ (wholly-one 58 refl) (wholly-next Anything IsSaid _ _ wholly-optional
    (wholly-bind NamesCharacters IsSaid _ _ wholly-destination λ target t.
    wholly-bind MaySay IsSaid _ _ (wholly-either MaySay _ _ wholly-title-of (wholly-next Anything MaySay _ _ wholly-end (wholly-gives MaySay None tt))) λ text u.
    wholly-gives IsSaid _ (record { label = n; destination = t; title = u })))

-- as bytes
abbrev Utf8In : Definition → Type 0
Utf8In d = AreUtf8Texts (texts_in d)

said-utf8 : (d : Definition) → IsSaid d → Utf8In d
said-utf8 d h = record { label = h.label.values; destination = text-utf8 d.destination h.destination; title = titles d.title h.title }
  where
    titles : (t : Option (List Code)) → MaySay t → IfSome (option_map text_of t) IsUtf8
    titles None u = tt
    titles (Some t) u = text-utf8 t u

taken-utf8 : (n : ℕ) (cs : List Code) → AreCharacters cs → All Utf8In (taken n cs).0
taken-utf8 zero cs u = All-nil Utf8In
taken-utf8 (suc n) cs u = by (definition cs) (wholly-definition.at cs u) (λ rest k. taken-utf8 n rest k)
  where
    by : (o : Option (Definition × List Code)) → IfGiven (Wholly IsSaid) o → ((rest : List Code) → AreCharacters rest → All Utf8In (taken n rest).0) → All Utf8In (taken_by (taken n) cs o).0
    by None w more = All-nil Utf8In
    by (Some r) w more = All-cons Utf8In r.0 (taken n r.1).0 (said-utf8 r.0 w.0) (more r.1 w.1)

-- Rows.

module _ (bytes : List ℕ) (utf8 : IsUtf8 bytes) where
  leaf-utf8 : (l : Leaf) → HasPlacedText bytes l → All Utf8In (definitions_in (leaf_of bytes l))
  leaf-utf8 Blank h = All-nil Utf8In
  leaf-utf8 ThematicBreak h = All-nil Utf8In
  leaf-utf8 (Heading n piece) h = All-nil Utf8In
  leaf-utf8 (Underlined n text) h =
      let cs : List Code = content_of bytes text.items in
      taken-utf8 (length (trimmed_end cs)) (trimmed_end cs) (trimmed-characters cs (content-characters bytes utf8 text.items h.in_order (h.between_characters utf8)))
  leaf-utf8 (Paragraph text) h =
      let cs : List Code = content_of bytes text.items in
      taken-utf8 (length cs) cs (content-characters bytes utf8 text.items h.in_order (h.between_characters utf8))
  leaf-utf8 (IndentedCode ls) h = All-nil Utf8In
  leaf-utf8 (FencedCode f info ls ended) h = All-nil Utf8In
  leaf-utf8 (Html k text ended) h = All-nil Utf8In
  leaf-utf8 (FrontMatter ls) h = All-nil Utf8In

  row-utf8 : (r : Row) → IsPlacedRow bytes r → All Utf8In (definitions_of_row bytes r)
  row-utf8 (LeafAt d l) h = leaf-utf8 l h
  row-utf8 (ContainerAt d c) h = All-nil Utf8In

  -- what the rows of a document of UTF-8 define
  pub definitions-utf8 : (rs : List Row) → All (IsPlacedRow bytes) rs → All (λ d. AreUtf8Texts (texts_in d)) (flat_map (definitions_of_row bytes) rs)
  definitions-utf8 [] h = All-nil Utf8In
  definitions-utf8 (r ∷ rs) h =
      All-append Utf8In (definitions_of_row bytes r) (flat_map (definitions_of_row bytes) rs) (row-utf8 r (All-head (IsPlacedRow bytes) r rs h))
      (definitions-utf8 rs (All-tail (IsPlacedRow bytes) r rs h))

-- where the same is made of other things
pub all-alike : {X Y T : Type 0} (P : T → Type 0) (f : X → T) (g : Y → T) (xs : List X) (ys : List Y) → map f xs ≡ map g ys → All (λ x. P (f x)) xs → All (λ y. P (g y)) ys
all-alike P f g [] [] e h = All-nil (λ y. P (g y))
all-alike P f g [] (y ∷ ys) e h = absurd (cc)
all-alike P f g (x ∷ xs) [] e h = absurd (cc)
all-alike P f g (x ∷ xs) (y ∷ ys) e h =
    let first : f x ≡ g y = cc in
    let others : map f xs ≡ map g ys = cc in
    All-cons (λ y. P (g y)) y ys (subst P first (All-head (λ x. P (f x)) x xs h)) (all-alike P f g xs ys others (All-tail (λ x. P (f x)) x xs h))
