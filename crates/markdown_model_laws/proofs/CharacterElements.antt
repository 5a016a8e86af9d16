-- Elements, labels and pairs: each leaf begins with a character, but for data behind data.
use Rattle.std.proofs.Common.{◌≡◌, ◌≢◌, ◌==◌, ◌&&◌, ◌||◌, not, nat_lt, ℕ, zero, suc, Bool, true, false, List, [], ◌∷◌, ◌++◌, take, drop, map, Option, Some, None, refl, sym, ap, subst, ◌∙◌, ◌⊎◌, inl, inr, append_assoc, arith}
use Rattle.std.specs.Prelude.{codes, is_none}
use Rattle.std.specs.List.{list_any, list_all}
use Rattle.std.proofs.lemmas.Bool.{both_ways, and_parts}
use Rattle.markdown_event.specs.declared.event.Name.{Name}
use Rattle.markdown_event.specs.declared.event.Name.TheVariants as N
use Rattle.markdown_event.specs.declared.event.Content.{Content}
use Rattle.markdown_content.specs.declared.label_kind.LabelKind.{LabelKind}
use Rattle.markdown_content.specs.Codes.{Code}
use Rattle.markdown_content.specs.Tree.{Forest, empty, leaf_then, group_then, leaf, ◌⊕◌}
use Rattle.markdown_model.specs.BracketGroups.{Bracketed, item, opens, closes, onto, nest, nested, after_loose, joined, loose, Token, pair_group, cut_front, run_tokens, assembled, tokens_of, paired}
use Rattle.markdown_model.specs.CodeTests.{is_value, is_later_byte}
use Rattle.markdown_model.specs.Elements.{as_plain, switched, line_ending, data_code, attention_run, label_start_image, gfm_label_start_footnote, label_start_link, code_text, math_text, Tries, tries, tried, first_check, text_element, string_element, text_choice, string_choice, Choice, AreElementsFrom, code_before, elements_of, string_elements_of}
use Rattle.markdown_model.specs.Grammar.{Reading, ◌>>=◌, ◌>>◌, gives, either, provided, one, word, word_of}
use Rattle.markdown_model.specs.LabelEnd.{Element, plain, starts, ends, Label, label_before, is_barred, footnote_call, link_or_image, outcome_of, label_end}
use Rattle.markdown_model.specs.LeafConstructs.{character_escape, character_reference, named_parts, decimal_parts, hexadecimal_parts, gfm_task_list_item_check}
use Rattle.markdown_model.specs.Laws.{is_run}
use Rattle.markdown_model.specs.Pairs.{Pair}
use Rattle.markdown_model.specs.Passes.{Start, End, as_bracket, start_marker, start_tree, label_group, labelled, labels_of}
use Rattle.markdown_model.specs.Runs.{Run, run_of, runs_of}
use Rattle.markdown_model.specs.Setting.{Setting}
use Rattle.markdown_model.proofs.GivenByReadings.{IfGiven, given-map}
use Rattle.markdown_model.proofs.ElementCases.{either_has}
use Rattle.markdown_model.proofs.GivenNames.{pair-named}
use Rattle.markdown_model.proofs.GrammarSteps.{bind-none, one-other, either-second, switched-on, switched-off}
use Rattle.markdown_model.proofs.OneElementList.{text_elements, string_elements}
use Rattle.markdown_model.proofs.PassesKeepCodes.{codes-run_of}
use Rattle.markdown_model.proofs.ReadingsCover.{takes_word_of}
use Rattle.markdown_model_laws.proofs.CharacterRows.{low-early, Early, HasNoStrays, AllLow, Lows, lows-all, value-low, ReadsFrom, reads_bind, reads_gives, reads_passed, reads_either, reads_before, reads_anywhere, reads_lows, reads_one, reads_some_low}
use Rattle.markdown_model_laws.proofs.EachRow.{EachRow, OfConstructs, tried-has}
use Rattle.markdown_model_laws.proofs.CharacterConstructs.{HasLeads, leads-row, low-leaf, ReadsLeads, AllBelow, word-lows, leads_character_reference, leads_gfm_task_list_item_check, leads_after_label}
use Rattle.markdown_model_laws.proofs.ConstructLaws.{leads_character_escape, leads_constructs}

-- Rows: `f` says that unlinked data stands before.

abbrev pub is_open : Name → Option Content → Bool
is_open N.Data None = true
is_open _ _ = false

abbrev pub Lead : Bool → List Code → Type 0
Lead true cs = Unit {0}
Lead false cs = Early cs

abbrev pub Flagged : Bool → Forest → Type 0
Flagged f empty = Unit {0}
Flagged f (leaf_then name link cs rest) =
    (Lead (f && is_open name link) cs × ((cs ≢ []) × (is_run name ≡ true → AllLow cs))) × Flagged (is_open name link) rest
Flagged f (group_then name a b inside rest) = Flagged false inside × Flagged false rest

-- whether it ends with unlinked data
abbrev pub out : Bool → Forest → Bool
out f empty = f
out f (leaf_then name link cs rest) = out (is_open name link) rest
out f (group_then name a b inside rest) = out false rest

pub row : (f : Bool) (t u : Forest) → Flagged f t → Flagged (out f t) u → Flagged f (t ⊕ u)
row f empty u h k = k
row f (leaf_then name link cs rest) u h k = (h.0, row (is_open name link) rest u h.1 k)
row f (group_then name a b inside rest) u h k = (h.0, row false rest u h.1 k)

lead-more : (f x : Bool) (cs : List Code) → Early cs → Lead (f && x) cs
lead-more f x cs h = grind arith

pub more : (f : Bool) (t : Forest) → Flagged false t → Flagged f t
more f empty h = tt
more f t h = grind arith

pub of-leads : (f : Bool) (t : Forest) → HasLeads t → Flagged f t
of-leads f empty h = tt
of-leads f (leaf_then name link cs rest) h = grind (arith, both_ways, of-leads (is_open name link) rest h.1)
of-leads f (group_then name a b inside rest) h = (of-leads false inside h.0, of-leads false rest h.1)

low-data : (f : Bool) (cs : List Code) → AllLow cs → Flagged f (leaf N.Data cs)
low-data f cs h = of-leads f (leaf N.Data cs) (low-leaf N.Data cs refl h)

-- Elements.

abbrev ElementHasLeads : Element → Type 0
ElementHasLeads (plain t) = (f : Bool) → Flagged f t
ElementHasLeads (starts kind marker) = Lows marker
ElementHasLeads (ends marker None) = Lows marker
ElementHasLeads (ends marker (Some outcome)) = Lows marker × HasLeads outcome.1

abbrev HaveLeads : Reading Element → Type 0
HaveLeads a = ReadsFrom true true ElementHasLeads a

alone : (a : Reading Forest) → ReadsLeads a → HaveLeads (as_plain a)
unfolding as_plain
alone a h = reads_bind true true true HasLeads ElementHasLeads a _ h λ tree k. reads_gives ElementHasLeads true (plain tree) (λ f. of-leads f tree k)

ending : HaveLeads line_ending
unfolding line_ending
ending =
    reads_bind true true true Lows ElementHasLeads _ _ (reads_anywhere Lows true true _ (reads_one _ (value-low 10 refl))) λ c h.
    reads_gives ElementHasLeads true (plain (leaf N.LineEnding c)) (λ f. of-leads f (leaf N.LineEnding c) (low-leaf N.LineEnding c refl (lows-all c h)))

run-leaf : (f : Bool) (cs : List Code) → Lows cs → Flagged f (leaf N.AttentionSequence cs)
run-leaf f [] h = tt
run-leaf f (c ∷ cs) h = ((lead-more f false (c ∷ cs) (low-early c h.0), ((λ e. cc), λ e. h)), tt)

run-read : (marker : ℕ) → nat_lt marker 128 ≡ true → HaveLeads (attention_run marker)
unfolding attention_run
run-read marker l =
    reads_bind true true true Lows ElementHasLeads _ _ (reads_anywhere Lows true true _ (reads_some_low _ (value-low marker l))) λ markers h.
    reads_gives ElementHasLeads true (plain (leaf N.AttentionSequence markers)) (λ f. run-leaf f markers h)

a-word : (n : ℕ) (ns : List ℕ) → AllBelow (n ∷ ns) → ReadsFrom true true Lows (word_of (n ∷ ns))
a-word n ns l = reads_anywhere Lows true true _ (reads_lows (word_of (n ∷ ns)) (takes_word_of (n ∷ ns)) (word-lows n ns l))

image-read : (footnotes : Bool) → HaveLeads (label_start_image footnotes)
unfolding label_start_image word
image-read footnotes =
    reads_bind true true true Lows ElementHasLeads _ _ (reads_before Lows true true _ _ (a-word 33 (codes "[") (refl, (refl, tt)))) λ marker h. reads_gives ElementHasLeads true (starts LabelKind.Image marker) h

footnote-read : HaveLeads gfm_label_start_footnote
unfolding gfm_label_start_footnote word
footnote-read =
    reads_bind true true true Lows ElementHasLeads _ _ (a-word 91 (codes "^") (refl, (refl, tt))) λ marker h. reads_gives ElementHasLeads true
    (starts LabelKind.GfmFootnote marker) h

link-read : HaveLeads label_start_link
unfolding label_start_link
link-read =
    reads_bind true true true Lows ElementHasLeads _ _ (reads_anywhere Lows true true _ (reads_one _ (value-low 91 refl))) λ marker h. reads_gives ElementHasLeads true (starts LabelKind.Link marker) h

abbrev OutcomeHasLeads : LabelKind × Forest → Type 0
OutcomeHasLeads o = HasLeads o.1

outcome-read : (s : Setting) (l : Option Label) (back : List Code) → ReadsFrom true true OutcomeHasLeads (outcome_of s l back)
unfolding outcome_of footnote_call link_or_image
outcome-read s None back = record { at = λ cs x w. tt }
outcome-read s (Some l) back = record { at = λ cs x w. whole.at cs x w }
  where
    whole : ReadsFrom true true OutcomeHasLeads (provided (not (is_barred l)) >> either (footnote_call s l back) (link_or_image s l back))
    whole = reads_passed OutcomeHasLeads true true _ _ (reads_either OutcomeHasLeads true true _ _ (reads_passed OutcomeHasLeads true true _ _ (reads_gives OutcomeHasLeads true _ tt)) (reads_bind true true true HasLeads OutcomeHasLeads _ _ (leads_after_label s _) λ tail k. reads_gives OutcomeHasLeads true _ k))

end-read : (s : Setting) (earlier : List Element) → HaveLeads (label_end s earlier)
unfolding label_end
end-read s earlier =
    reads_bind true true true Lows ElementHasLeads _ _ (reads_anywhere Lows true true _ (reads_one _ (value-low 93 refl)))
    λ back b. reads_either ElementHasLeads true true _ _
    (reads_bind true true true OutcomeHasLeads ElementHasLeads _ _ (outcome-read s (label_before earlier) back) λ outcome k. reads_gives ElementHasLeads true (ends back (Some outcome)) (b, k))
    (reads_gives ElementHasLeads true (ends back None) b)

-- What is read at some codes: the code at hand as data, or an element behind which no later byte of a character stands.

abbrev IsCodeOf : List Code → Element → List Code → Type 0
IsCodeOf cs e rest = (c : Code) × ((e ≡ plain (leaf_then N.Data None (c ∷ []) empty)) × (cs ≡ c ∷ rest))

abbrev ElementFits : List Code → Element → List Code → Type 0
ElementFits cs e rest = IsCodeOf cs e rest ⊎ (ElementHasLeads e × Early rest)

abbrev FitsBefore : List Code → Element → List Code → Type 0
FitsBefore cs e rest = ElementFits cs e rest × HasNoStrays rest

abbrev AnswerFits : List Code → Option (Element × List Code) → Type 0
AnswerFits cs o = IfGiven (FitsBefore cs) o

gone-read : (cs : List Code) (a : Reading Element) → HaveLeads a → HasNoStrays cs → Early cs → AnswerFits cs (a cs)
gone-read cs a h s w = grind (arith, given-map)

gone-data : (c : Code) (cs : List Code) → HasNoStrays (c ∷ cs) → AnswerFits (c ∷ cs) (data_code (c ∷ cs))
unfolding data_code one ◌>>=◌ gives
gone-data c cs s = (inl (c, (refl, refl)), s.1)

gone-switched : (cs : List Code) (on : Bool) (a : Reading Element) → AnswerFits cs (a cs) → AnswerFits cs (switched on a cs)
unfolding switched provided ◌>>◌
gone-switched cs true a h = h
gone-switched cs false a h = tt

gone-none : (cs : List Code) (o : Option (Element × List Code)) → o ≡ None → AnswerFits cs o
gone-none cs o e = subst (AnswerFits cs) (sym e) tt

nowhere : (on : Bool) (a : Reading Element) (cs : List Code) → a cs ≡ None → switched on a cs ≡ None
unfolding switched
nowhere true a cs h = switched-on a true cs refl ∙ h
nowhere false a cs h = switched-off a false cs refl

module _ (c : Code) (cs : List Code) (s : HasNoStrays (c ∷ cs)) where
  abbrev GoneFromHere : Reading Element → Type 0
  GoneFromHere a = AnswerFits (c ∷ cs) (a (c ∷ cs))

  both : (a b : Reading Element) → GoneFromHere a → GoneFromHere b → GoneFromHere (either a b)
  both a b h k = either_has (AnswerFits (c ∷ cs)) tt (c ∷ cs) a b h k

  here-data : GoneFromHere data_code
  here-data = gone-data c cs s

  -- where the code at hand begins a character
  module _ (w : is_later_byte c ≡ false) where
    here : (a : Reading Element) → HaveLeads a → GoneFromHere a
    here a h = gone-read (c ∷ cs) a h s w

    on : (b : Bool) (a : Reading Element) → HaveLeads a → GoneFromHere (switched b a)
    on b a h = gone-switched (c ∷ cs) b a (here a h)

    own : (b : Bool) (a : Reading Forest) → ReadsLeads a → GoneFromHere (switched b (as_plain a))
    own b a h = on b (as_plain a) (alone a h)

    module _ (set : Setting) (end : ℕ) (earlier : List Element) (previous : Option Code) where
      rows-have : (H : Reading Element → Type 0) → OfConstructs ReadsLeads H set earlier → EachRow H (tries set end earlier previous)
      unfolding tries code_text math_text
      rows-have H r = search (r.ending, r.on, r.own, r.both, r.image, r.footnote, r.link, r.stars, r.underscores, r.tildes, r.last, leads_constructs) parts 20 depth 30 fits 5000

      each-here : EachRow GoneFromHere (tries set end earlier previous)
      each-here = rows-have GoneFromHere (record {
        ending = here line_ending ending;
        on = λ b a h. gone-switched (c ∷ cs) b a h;
        own = own;
        both = both;
        image = λ f. here _ (image-read f);
        footnote = here _ footnote-read;
        link = here _ link-read;
        stars = here _ (run-read _ refl);
        underscores = here _ (run-read _ refl);
        tildes = here _ (run-read _ refl);
        last = here _ (end-read set earlier);
      })

      text-first : GoneFromHere (text_element set end earlier previous)
      unfolding text_element first_check
      text-first =
          both _ _ (own _ _ leads_gfm_task_list_item_check)
          (both _ _ (tried-has GoneFromHere (tries set end earlier previous) c.value each-here here-data) here-data)

    string-first : (set : Setting) → GoneFromHere (string_element set)
    unfolding string_element
    string-first set =
        both _ _ (own _ _ leads_character_escape) (both _ _ (own _ _ (leads_character_reference _)) (both _ _ (here line_ending ending) here-data))

  -- where a later byte of one is at hand
  module _ (w : is_later_byte c ≡ true) where
    other : (n : ℕ) → nat_lt n 128 ≡ true → is_value n c ≡ false
    other n l = grind (arith, both_ways, low-early, value-low)

    abbrev KeysBelow : List ℕ → Bool
    KeysBelow ns = list_all (λ n. nat_lt n 128) ns

    no-key : (ns : List ℕ) → KeysBelow ns ≡ true → list_any (λ n. c.value == n) ns ≡ false
    no-key [] l = refl
    no-key (n ∷ ns) l =
        let q = and_parts (nat_lt n 128) (KeysBelow ns) l in λ i. other n q.0 i || no-key ns q.1 i

    tried-later : (rows : Tries) → list_all (λ (line : List ℕ × Reading Element). KeysBelow line.0) rows ≡ true → GoneFromHere (tried rows c.value)
    unfolding tried
    tried-later [] l = here-data
    tried-later (line ∷ rows) l = by_test (list_any (λ n. c.value == n) line.0) (no-key line.0 q.0) (tried-later rows q.1)
      where
        q : (KeysBelow line.0 ≡ true) × (list_all (λ (row : List ℕ × Reading Element). KeysBelow row.0) rows ≡ true)
        q = and_parts (KeysBelow line.0) (list_all (λ (row : List ℕ × Reading Element). KeysBelow row.0) rows) l

        by_test : (b : Bool) → b ≡ false → GoneFromHere (tried rows c.value) →
            GoneFromHere (elim b as (λ _. Reading Element) [ true ↦ line.1 | false ↦ tried rows c.value ])
        by_test true e k = cc
        by_test false e k = k

    no-check : as_plain gfm_task_list_item_check (c ∷ cs) ≡ None
    unfolding as_plain gfm_task_list_item_check
    no-check = bind-none _ _ (c ∷ cs) (bind-none _ _ (c ∷ cs) (one-other _ c cs (other 91 refl)))

    no-escape : as_plain character_escape (c ∷ cs) ≡ None
    unfolding as_plain character_escape
    no-escape = bind-none _ _ (c ∷ cs) (bind-none _ _ (c ∷ cs) (one-other _ c cs (other 92 refl)))

    no-reference : (set : Setting) → as_plain (character_reference set.references) (c ∷ cs) ≡ None
    unfolding as_plain character_reference named_parts decimal_parts hexadecimal_parts
    no-reference set =
        bind-none _ _ (c ∷ cs) (bind-none _ _ (c ∷ cs)
        (either-second _ _ (c ∷ cs) (bind-none _ _ (c ∷ cs) (one-other _ c cs (other 38 refl))) ∙ either-second _ _ (c ∷ cs) (bind-none _ _ (c ∷ cs) (one-other _ c cs (other 38 refl))) ∙ bind-none _ _ (c ∷ cs) (one-other _ c cs (other 38 refl))))

    no-ending : line_ending (c ∷ cs) ≡ None
    unfolding line_ending
    no-ending = bind-none _ _ (c ∷ cs) (one-other _ c cs (other 10 refl))

    none-here : (a : Reading Element) → a (c ∷ cs) ≡ None → GoneFromHere a
    none-here a e = gone-none (c ∷ cs) (a (c ∷ cs)) e

    text-later : (set : Setting) (end : ℕ) (earlier : List Element) (previous : Option Code) → GoneFromHere (text_element set end earlier previous)
    unfolding text_element first_check tries
    text-later set end earlier previous =
        both _ _ (none-here (first_check set end earlier previous) (nowhere ((is_none previous && set.first_of_item) && set.options.constructs.gfm_task_list_item) (as_plain gfm_task_list_item_check) (c ∷ cs) no-check)) (both _ _ (tried-later (tries set end earlier previous) refl) here-data)

    string-later : (set : Setting) → GoneFromHere (string_element set)
    unfolding string_element
    string-later set =
        both (switched set.options.constructs.character_escape (as_plain character_escape)) _ (none-here (switched set.options.constructs.character_escape (as_plain character_escape)) (nowhere set.options.constructs.character_escape (as_plain character_escape) (c ∷ cs) no-escape))
        (both (switched set.options.constructs.character_reference (as_plain (character_reference set.references))) _ (none-here (switched set.options.constructs.character_reference (as_plain (character_reference set.references))) (nowhere set.options.constructs.character_reference (as_plain (character_reference set.references)) (c ∷ cs) (no-reference set)))
        (both line_ending data_code (none-here line_ending no-ending) here-data))

abbrev KeepsFitting : Choice → Type 0
KeepsFitting choice = (earlier : List Element) (previous : Option Code) (cs : List Code) → HasNoStrays cs → AnswerFits cs (choice earlier previous cs)

text-going : (set : Setting) (all : List Code) → KeepsFitting (text_choice set all)
unfolding text_element
text-going set all h0 h1 h2 h3 = grind (arith, text-later, text-first)

no-data : AnswerFits [] (data_code [])
unfolding data_code one ◌>>=◌
no-data = tt

own-nothing : (on : Bool) (a : Reading Forest) → ReadsLeads a → AnswerFits [] (switched on (as_plain a) [])
own-nothing on a h = gone-switched [] on (as_plain a) (gone-read [] (as_plain a) (alone a h) tt tt)

string-nothing : (set : Setting) → AnswerFits [] (string_element set [])
unfolding string_element
string-nothing set =
    either_has (AnswerFits []) tt [] _ _ (own-nothing set.options.constructs.character_escape character_escape leads_character_escape)
    (either_has (AnswerFits []) tt [] _ _ (own-nothing set.options.constructs.character_reference (character_reference set.references) (leads_character_reference set.references)) (either_has (AnswerFits []) tt [] line_ending data_code (gone-read [] line_ending ending tt tt) no-data))

string-going : (set : Setting) → KeepsFitting (string_choice set)
string-going set earlier previous [] s = string-nothing set
string-going set earlier previous (c ∷ cs) s = grind (arith, string-later, string-first)

-- Lists of elements.

abbrev ElementsFit : Bool → List Element → Type 0
ElementsFit f [] = Unit {0}
ElementsFit f (plain t ∷ es) = Flagged f t × ElementsFit (out f t) es
ElementsFit f (starts kind marker ∷ es) = Lows marker × ElementsFit false es
ElementsFit f (ends marker None ∷ es) = Lows marker × ElementsFit false es
ElementsFit f (ends marker (Some outcome) ∷ es) = (Lows marker × HasLeads outcome.1) × ElementsFit false es

lead-code : (f : Bool) (c : Code) (rest cs : List Code) → cs ≡ c ∷ rest → (f ≡ false → Early cs) → Lead (f && true) (c ∷ [])
lead-code true c rest cs e h = tt
lead-code false c rest cs e h = subst Early e (h refl)

never : true ≡ false → ⊥
never e = cc

fit-code : (f : Bool) (e : Element) (es : List Element) (cs rest : List Code) → IsCodeOf cs e rest → (f ≡ false → Early cs) → ElementsFit true es →
    ElementsFit f (e ∷ es)
fit-code f e es cs rest (c, both_are) h k = grind (arith, lead-code, never)

fit-element : (f : Bool) (e : Element) (es : List Element) → ElementHasLeads e → ((g : Bool) → ElementsFit g es) → ElementsFit f (e ∷ es)
fit-element f e es g h0 = grind arith

elements-fit : (choice : Choice) → KeepsFitting choice → (es earlier : List Element) (previous : Option Code) (cs : List Code) → HasNoStrays cs → AreElementsFrom choice earlier previous cs es → (f : Bool) → (f ≡ false → Early cs) →
    ElementsFit f es
elements-fit choice going [] earlier previous cs s h f k = tt
elements-fit choice going (e ∷ es) earlier previous cs s h f k =
    let g : ElementFits cs e h.0 × HasNoStrays h.0 = subst (AnswerFits cs) h.1 (going earlier previous cs s) in
    let more_fit = elements-fit choice going es (e ∷ earlier) (code_before cs h.0) h.0 g.1 h.2 in
    elim g.0 [
      | inl code ↦ fit-code f e es cs h.0 code k (more_fit true (λ x. absurd (never x)))
      | inr has ↦ fit-element f e es has.0 (λ g. more_fit g (λ _. has.1))
    ]

-- Words.

row-assoc : (t u v : Forest) → (t ⊕ u) ⊕ v ≡ t ⊕ (u ⊕ v)
row-assoc empty u v = refl
row-assoc (leaf_then name link cs rest) u v = ap (leaf_then name link cs) (row-assoc rest u v)
row-assoc (group_then name a b inside rest) u v = ap (group_then name a b inside) (row-assoc rest u v)

joined-both : (a b : List Forest) → joined (a ++ b) ≡ joined a ⊕ joined b
joined-both [] b = refl
joined-both (t ∷ a) b = ap (λ x. t ⊕ x) (joined-both a b) ∙ sym (row-assoc t (joined a) (joined b))

-- of two rows, the second of which holds anywhere
joined-row : (f : Bool) (a b : List Forest) → Flagged f (joined a) → Flagged false (joined b) → Flagged f (joined (a ++ b))
joined-row f a b h k =
    subst (Flagged f) (sym (joined-both a b)) (row f (joined a) (joined b) h (more (out f (joined a)) (joined b) k))

module _ {O C : Type 0} (IsOpen : O → Type 0) (IsClose : C → Type 0) where
  abbrev WordFits : Bool → List (Bracketed O C Forest) → Type 0
  WordFits f [] = Unit {0}
  WordFits f (item t ∷ w) = Flagged f t × WordFits (out f t) w
  WordFits f (opens o ∷ w) = IsOpen o × WordFits false w
  WordFits f (closes c ∷ w) = IsClose c × WordFits false w

  abbrev CutsFit : List (C × List Forest) → Type 0
  CutsFit [] = Unit {0}
  CutsFit (c ∷ cuts) = (IsClose c.0 × Flagged false (joined c.1)) × CutsFit cuts

  module _ (open_codes : O → List Code) (close_codes : C → List Code) (wrap : O → List Forest → C → List Forest)
      (open-low : (o : O) → IsOpen o → AllLow (open_codes o)) (close-low : (c : C) → IsClose c → AllLow (close_codes c))
      (wrap-fits : (o : O) (inside : List Forest) (c : C) → IsOpen o → Flagged false (joined inside) → IsClose c → (f : Bool) → Flagged f (joined (wrap o inside c))) where
    abbrev loose_o : O → List Forest
    loose_o o = loose (open_codes o)

    abbrev loose_c : C → List Forest
    loose_c c = loose (close_codes c)

    onto-fits : (f : Bool) (o : O) (inside : List Forest) (cuts : List (C × List Forest)) → IsOpen o → Flagged false (joined inside) → CutsFit cuts →
        Flagged f (joined (onto wrap loose_o loose_c o inside cuts).0) × CutsFit (onto wrap loose_o loose_c o inside cuts).1
    onto-fits f o inside cuts h0 h1 h2 = grind (arith, row, low-data, more, joined-row)

    nest-fits : (f : Bool) (w : List (Bracketed O C Forest)) → WordFits f w →
        Flagged f (joined (nest wrap loose_o loose_c w).0) × CutsFit (nest wrap loose_o loose_c w).1
    nest-fits f [] h = (tt, tt)
    nest-fits f (item t ∷ w) h =
        let r = nest-fits (out f t) w h.1 in (row f t (joined (nest wrap loose_o loose_c w).0) h.0 r.0, r.1)
    nest-fits f (closes c ∷ w) h = let r = nest-fits false w h.1 in (tt, ((h.0, r.0), r.1))
    nest-fits f (opens o ∷ w) h = grind (arith, nest-fits false w h.1, onto-fits)

    after-fits : (cuts : List (C × List Forest)) → CutsFit cuts → Flagged false (joined (after_loose wrap loose_o loose_c cuts))
    after-fits [] h = tt
    after-fits (c ∷ cuts) h =
        joined-row false (loose_c c.0 ++ c.1) (after_loose wrap loose_o loose_c cuts)
        (row false (leaf N.Data (close_codes c.0)) (joined c.1) (low-data false (close_codes c.0) (close-low c.0 h.0.0)) (more _ (joined c.1) h.0.1)) (after-fits cuts h.1)

    nested-fits : (f : Bool) (w : List (Bracketed O C Forest)) → WordFits f w → Flagged f (joined (nested wrap loose_o loose_c w))
    nested-fits f w h =
        let r = nest-fits f w h in
        joined-row f (nest wrap loose_o loose_c w).0 (after_loose wrap loose_o loose_c (nest wrap loose_o loose_c w).1) r.0 (after-fits (nest wrap loose_o loose_c w).1 r.1)

-- Labels.

low-take : (n : ℕ) (cs : List Code) → AllLow cs → AllLow (take n cs)
low-take (suc n) (c ∷ cs) h = (h.0, low-take n cs h.1)
low-take n cs h = tt

low-drop : (n : ℕ) (cs : List Code) → AllLow cs → AllLow (drop n cs)
low-drop zero cs h = h
low-drop (suc n) [] h = tt
low-drop (suc n) (c ∷ cs) h = low-drop n cs h.1

front-low : (kind : LabelKind) (cs : List Code) → AllLow cs → AllLow (start_marker kind cs)
front-low kind cs h0 = grind (arith, low-take)

start-leads : (kind : LabelKind) (cs : List Code) → AllLow cs → HasLeads (start_tree kind cs)
start-leads kind cs h0 = grind (arith, leads-row, low-leaf, low-take, low-drop)

label-fits : (kind : LabelKind) (marker : List Code) (inside : Forest) (back : List Code) (tail : Forest) → AllLow marker → Flagged false inside → AllLow back → HasLeads tail →
    (f : Bool) → Flagged f (label_group kind marker inside back tail)
label-fits kind marker inside back tail m h b k f = grind (arith, row, low-data, low-drop, more, of-leads, start-leads, front-low, both, low-leaf)

abbrev HasLowStart : Start → Type 0
HasLowStart o = Lows o.1

abbrev HasLowEnd : End → Type 0
HasLowEnd (back, None) = Lows back
HasLowEnd (back, Some outcome) = Lows back × HasLeads outcome.1

end-low : (c : End) → HasLowEnd c → AllLow c.0
end-low (back, None) h = lows-all back h
end-low (back, Some outcome) h = lows-all back h.0

labelled-fits : (o : Start) (inside : List Forest) (c : End) → HasLowStart o → Flagged false (joined inside) → HasLowEnd c → (f : Bool) → Flagged f (joined (labelled o inside c))
labelled-fits o inside (back, None) s h e f =
    row f (leaf N.Data o.1) (joined (inside ++ loose back)) (low-data f o.1 (lows-all o.1 s))
    (more _ (joined (inside ++ loose back)) (joined-row false inside (loose back) h (row false (leaf N.Data back) empty (low-data false back (lows-all back e)) tt)))
labelled-fits o inside (back, Some outcome) s h e f =
    row f (label_group outcome.0 o.1 (joined inside) back outcome.1) empty (label-fits outcome.0 o.1 (joined inside) back outcome.1 (lows-all o.1 s) h (lows-all back e.0) e.1 f) tt

word-fits : (f : Bool) (es : List Element) → ElementsFit f es → WordFits HasLowStart HasLowEnd f (map as_bracket es)
word-fits f [] h = tt
word-fits f (plain t ∷ es) h = (h.0, word-fits (out f t) es h.1)
word-fits f (starts kind marker ∷ es) h = (h.0, word-fits false es h.1)
word-fits f (ends marker None ∷ es) h = (h.0, word-fits false es h.1)
word-fits f (ends marker (Some outcome) ∷ es) h = (h.0, word-fits false es h.1)

labels-fit : (f : Bool) (es : List Element) → ElementsFit f es → Flagged f (labels_of es)
unfolding labels_of
labels-fit f es h =
    nested-fits HasLowStart HasLowEnd (λ o. o.1) (λ c. c.0) labelled (λ o k. lows-all o.1 k) end-low labelled-fits f (map as_bracket es) (word-fits f es h)

pub text-labels-fit : (set : Setting) (cs : List Code) → HasNoStrays cs → Early cs → Flagged false (labels_of (elements_of set cs))
text-labels-fit set cs s w =
    labels-fit false (elements_of set cs) (elements-fit (text_choice set cs) (text-going set cs) (elements_of set cs) [] None cs s (text_elements set cs) false (λ _. w))

pub string-labels-fit : (set : Setting) (cs : List Code) → HasNoStrays cs → Early cs → Flagged false (labels_of (string_elements_of set cs))
string-labels-fit set cs s w =
    labels-fit false (string_elements_of set cs) (elements-fit (string_choice set) (string-going set) (string_elements_of set cs) [] None cs s (string_elements set cs) false (λ _. w))

-- Pairs.

pair-fits : (front : List Code) (inside : List Forest) (back : List Code) → AllLow front → Flagged false (joined inside) → AllLow back → (f : Bool) →
    Flagged f (joined (pair_group front inside back))
pair-fits front inside back k h b f = grind (arith, pair-named, of-leads, low-leaf, row)

abbrev TokensFit : Bool → List Token → Type 0
TokensFit f w = WordFits AllLow AllLow f w

assembled-fits : (f : Bool) (w : List Token) → TokensFit f w → Flagged f (assembled w)
assembled-fits f w h =
    nested-fits AllLow AllLow (λ cs. cs) (λ cs. cs) pair_group (λ o k. k) (λ c k. k) pair-fits f w h

-- in front of tokens that fit anywhere
abbrev Anywhere : List Token → Type 0
Anywhere w = (g : Bool) → TokensFit g w

abbrev AllMarkersLow : List (List Code) → Type 0
AllMarkersLow [] = Unit {0}
AllMarkersLow (cs ∷ rest) = AllLow cs × AllMarkersLow rest

cut-low : (sizes : List ℕ) (cs : List Code) → AllLow cs → AllMarkersLow (cut_front sizes cs).0 × AllLow (cut_front sizes cs).1
cut-low [] cs h = (tt, h)
cut-low (n ∷ ns) cs h = grind (arith, cut-low ns (drop n cs) (low-drop n cs h), low-drop, low-take)

closes-fit : (cs : List (List Code)) (w : List Token) → AllMarkersLow cs → Anywhere w → Anywhere (map closes cs ++ w)
closes-fit [] w l h = h
closes-fit (c ∷ cs) w l h = λ g. (l.0, closes-fit cs w l.1 h false)

opens-fit : (cs : List (List Code)) (w : List Token) → AllMarkersLow cs → Anywhere w → Anywhere (map opens cs ++ w)
opens-fit [] w l h = h
opens-fit (c ∷ cs) w l h = λ g. (l.0, opens-fit cs w l.1 h false)

run-fits : (ps : List Pair) (n : ℕ) (r : Run) (w : List Token) → AllLow r.codes → Anywhere w → Anywhere (run_tokens ps n r ++ w)
run-fits ps n r w l h = grind (arith, cut-low, low-drop, low-data, low-take, opens-fit, append_assoc, closes-fit)

module _ (s : Setting) (pairs_of : List Run → List Pair) where
  tokens-fit : (t : Forest) (ps : List Pair) (n : ℕ) (f : Bool) → Flagged f t → TokensFit f (tokens_of s pairs_of t ps n)
  unfolding tokens_of
  tokens-fit empty ps n f h = tt
  tokens-fit (leaf_then N.AttentionSequence link cs rest) ps n f h =
      run-fits ps n (run_of s cs) (tokens_of s pairs_of rest ps (suc n)) (subst AllLow (sym (codes-run_of s cs)) (h.0.1.1 refl)) (λ g. tokens-fit rest ps (suc n) g (more g rest h.1)) f
  tokens-fit (leaf_then name link cs rest) ps n f h = ((h.0, tt), tokens-fit rest ps n (is_open name link) h.1)
  tokens-fit (group_then name a b inside rest) ps n f h =
      let own : List Pair = pairs_of (runs_of s inside) in
      ((assembled-fits false (tokens_of s pairs_of inside own 0) (tokens-fit inside own 0 false h.0), tt), tokens-fit rest ps n false h.1)

  pub paired-fits : (t : Forest) → Flagged false t → Flagged false (paired s pairs_of t)
  unfolding paired
  paired-fits t h =
      assembled-fits false (tokens_of s pairs_of t (pairs_of (runs_of s t)) 0) (tokens-fit t (pairs_of (runs_of s t)) 0 false h)
