-- A text that is escaped, read as a string, is given back.
use Rattle.std.proofs.Common.{◌≡◌, ℕ, Bool, true, false, ◌&&◌, ◌||◌, List, [], ◌∷◌, ◌++◌, length, if◌then◌else◌, refl, sym, ap, subst, ◌∙◌, zero-add, Option, Some, None, append_assoc, append-nil, arith}
use Rattle.markdown_model_laws.proofs.TreesFilledLaws.{more-codes}
use Rattle.std.proofs.lemmas.List.{reverse-reverse}
use Rattle.markdown_event.specs.declared.event.Name.{Name}
use Rattle.markdown_content.specs.Codes.{Code, codes_of, document_start, stop_of, place_of}
use Rattle.markdown_content.specs.Content.{content_of}
use Rattle.markdown_content.specs.Tree.{Forest, empty, leaf_then, group_then, leaf, ◌⊕◌, leaf_codes, events_of}
use Rattle.markdown_content.proofs.AdjacentCodes.{IsChain, before_in-split, from_in-all}
use Rattle.markdown_content.proofs.DocumentPlaces.{chain-document}
use Rattle.markdown_content.proofs.ContentCodes.{piece-codes-is}
use Rattle.markdown_model.specs.CodeTests.{is_value, is_empty, is_ascii_punctuation}
use Rattle.markdown_model.specs.Grammar.{Reading, gives}
use Rattle.markdown_model.specs.LeafConstructs.{character_escape, escape_tree, character_reference, named_parts, decimal_parts, hexadecimal_parts}
use Rattle.markdown_model.specs.Setting.{Setting, rules}
use Rattle.markdown_model.specs.LabelEnd.{Element, plain}
use Rattle.markdown_model.specs.Elements.{as_plain, switched, line_ending, data_code, string_element, string_choice, string_elements_of, AreElementsFrom, code_before}
use Rattle.markdown_content.specs.declared.configuration.Rules.{Rules}
use Rattle.markdown_model.specs.Passes.{no_breaks, data_onto, merged, trimmed, trimmed_data, begins_line_ending, is_nothing}
use Rattle.markdown_model.specs.InlineTree.{finished_string, string_tree, string_events}
use Rattle.markdown_model.proofs.StringTreeIsElements.{ArePlainElements, row_of, labels_of-plain}
use Rattle.markdown_model.proofs.OneElementList.{string_elements, same_string_elements}
use Rattle.markdown_model.proofs.GrammarSteps.{bind-some, bind-none, one-here, one-other, either-some, either-second, switched-on, switched-off}
use Rattle.markdown_model.proofs.OneTree.{leaves_cover}
use Rattle.markdown_passes.specs.TrimmedEvents.{is_ending}
use Rattle.markdown_innermost.proofs.InnermostEventsLaws.{lent-leaves}
use Rattle.markdown_model_laws.specs.EscapedText.{Escapes, is_text, escaped, whole, text_of}
use Rattle.markdown_model_laws.proofs.LentSlices.{codes_bytes, kept, HasNoTextGroup, kept-lent}
use Rattle.markdown_model_laws.proofs.EscapedItems.{Item, itself, escape_of, item_codes, kept_codes, IsOrdinary, AreEscapedItems, SpellsText, read}

-- Elements.

nowhere : (on : Bool) (a : Reading Element) (cs : List Code) → a cs ≡ None → switched on a cs ≡ None
unfolding switched
nowhere true a cs h = switched-on a true cs refl ∙ h
nowhere false a cs h = switched-off a false cs refl

no-escape : (c : Code) (cs : List Code) → is_value 92 c ≡ false → as_plain character_escape (c ∷ cs) ≡ None
unfolding as_plain character_escape
no-escape c cs h = bind-none _ _ (c ∷ cs) (bind-none _ _ (c ∷ cs) (one-other _ c cs h))

no-reference : (s : Setting) (c : Code) (cs : List Code) → is_value 38 c ≡ false →
    as_plain (character_reference s.references) (c ∷ cs) ≡ None
unfolding as_plain character_reference named_parts decimal_parts hexadecimal_parts
no-reference s c cs h =
    bind-none _ _ (c ∷ cs) (bind-none _ _ (c ∷ cs)
    (either-second _ _ (c ∷ cs) (bind-none _ _ (c ∷ cs) (one-other _ c cs h)) ∙ either-second _ _ (c ∷ cs) (bind-none _ _ (c ∷ cs) (one-other _ c cs h)) ∙ bind-none _ _ (c ∷ cs) (one-other _ c cs h)))

read-itself : (s : Setting) (c : Code) (cs : List Code) → IsOrdinary c.value →
    string_element s (c ∷ cs) ≡ Some (plain (leaf Name.Data (c ∷ [])), cs)
unfolding string_element line_ending data_code gives
read-itself s c cs h =
    either-second _ _ (c ∷ cs) (nowhere s.options.constructs.character_escape _ (c ∷ cs) (no-escape c cs h.2))
    ∙ either-second _ _ (c ∷ cs) (nowhere s.options.constructs.character_reference _ (c ∷ cs) (no-reference s c cs h.1))
    ∙ either-second _ _ (c ∷ cs) (bind-none _ _ (c ∷ cs) (one-other _ c cs h.0))
    ∙ bind-some _ _ (c ∷ cs) (c ∷ []) cs _ (one-here _ c cs refl) refl

read-escape : (s : Setting) (slash c : Code) (cs : List Code) → s.options.constructs.character_escape ≡ true → is_value 92 slash ≡ true → is_ascii_punctuation c ≡ true
    → string_element s (slash ∷ c ∷ cs) ≡ Some (plain (escape_tree (slash ∷ []) (c ∷ [])), cs)
unfolding string_element switched as_plain character_escape gives
read-escape s slash c cs on h k =
    either-some _ _ (slash ∷ c ∷ cs) (plain (escape_tree (slash ∷ []) (c ∷ [])), cs)
    (switched-on _ _ (slash ∷ c ∷ cs) on
    ∙ bind-some _ _ (slash ∷ c ∷ cs) (escape_tree (slash ∷ []) (c ∷ [])) cs _ (bind-some _ _ (slash ∷ c ∷ cs) (slash ∷ []) (c ∷ cs) _ (one-here _ slash (c ∷ cs) h) (bind-some _ _ (c ∷ cs) (c ∷ []) cs _ (one-here _ c cs k) refl)) refl)

elements : List Item → List Element
elements [] = []
elements (itself c ∷ is) = plain (leaf Name.Data (c ∷ [])) ∷ elements is
elements (escape_of slash c ∷ is) = plain (escape_tree (slash ∷ []) (c ∷ [])) ∷ elements is

are-elements : (s : Setting) (is : List Item) (earlier : List Element) (previous : Option Code) → s.options.constructs.character_escape ≡ true →
    AreEscapedItems is
    → AreElementsFrom (string_choice s) earlier previous (item_codes is) (elements is)
unfolding elements
are-elements s [] earlier previous on h = refl
are-elements s (itself c ∷ is) earlier previous on h = grind (arith, read-itself, are-elements s is (plain (leaf Name.Data (c ∷ [])) ∷ earlier) (code_before (c ∷ item_codes is) (item_codes is)) on h.1)
are-elements s (escape_of slash c ∷ is) earlier previous on h = grind (arith, read-escape, are-elements s is (plain (escape_tree (slash ∷ []) (c ∷ [])) ∷ earlier) (code_before (slash ∷ c ∷ item_codes is) (item_codes is)) on h.1)

are-plain : (is : List Item) → ArePlainElements (elements is)
unfolding elements
are-plain [] = tt
are-plain (itself c ∷ is) = (tt, are-plain is)
are-plain (escape_of slash c ∷ is) = (tt, are-plain is)

-- The tree.

-- it has no line ending, and each leaf has a code
abbrev HasNoEndings : Forest → Type 0
HasNoEndings empty = Unit {0}
HasNoEndings (leaf_then name link cs rest) = (is_ending name ≡ false) × (is_empty cs ≡ false) × HasNoEndings rest
HasNoEndings (group_then name enter exit inside rest) = HasNoEndings inside × HasNoEndings rest

row : List Item → Forest
row is = row_of (elements is)

row-fine : (is : List Item) → HasNoEndings (row is) × HasNoTextGroup (row is)
unfolding row elements
row-fine [] = (tt, tt)
row-fine (itself c ∷ is) = let r = row-fine is in ((refl, refl, r.0), r.1)
row-fine (escape_of slash c ∷ is) = let r = row-fine is in (((refl, refl, (refl, refl, tt)), r.0), (refl, tt, r.1))

row-kept : (is : List Item) → kept (row is) ≡ kept_codes is
unfolding row elements
row-kept [] = refl
row-kept (itself c ∷ is) = ap (λ x. c ∷ x) (row-kept is)
row-kept (escape_of slash c ∷ is) = ap (λ x. c ∷ x) (row-kept is)

-- Merging.

fine-onto : (cs : List Code) (f : Forest) → is_empty cs ≡ false → HasNoEndings f → HasNoEndings (data_onto cs f)
fine-onto cs (leaf_then Name.Data None more rest) h k = (k.0, more-codes cs more h, k.2)
fine-onto cs rest h k = (refl, h, k)

fine-merged : (f : Forest) → HasNoEndings f → HasNoEndings (merged f)
unfolding merged
fine-merged empty h = tt
fine-merged (leaf_then Name.Data None cs rest) h = fine-onto cs (merged rest) h.1 (fine-merged rest h.2)
fine-merged (leaf_then name link cs rest) h = (h.0, h.1, fine-merged rest h.2)
fine-merged (group_then name enter exit inside rest) h = (fine-merged inside h.0, fine-merged rest h.1)

groups-onto : (cs : List Code) (f : Forest) → HasNoTextGroup f → HasNoTextGroup (data_onto cs f)
groups-onto cs (leaf_then Name.Data None more rest) h = h
groups-onto cs rest h = h

groups-merged : (f : Forest) → HasNoTextGroup f → HasNoTextGroup (merged f)
unfolding merged
groups-merged empty h = tt
groups-merged (leaf_then Name.Data None cs rest) h = groups-onto cs (merged rest) (groups-merged rest h)
groups-merged (leaf_then name link cs rest) h = groups-merged rest h
groups-merged (group_then name enter exit inside rest) h = (h.0, groups-merged inside h.1, groups-merged rest h.2)

kept-onto : (cs : List Code) (f : Forest) → kept (data_onto cs f) ≡ cs ++ kept f
kept-onto cs (leaf_then Name.Data None more rest) = append_assoc cs more (kept rest)
kept-onto cs rest = refl

kept-merged : (f : Forest) → kept (merged f) ≡ kept f
unfolding merged
kept-merged empty = refl
kept-merged (leaf_then Name.Data None cs rest) = kept-onto cs (merged rest) ∙ ap (λ x. cs ++ x) (kept-merged rest)
kept-merged (leaf_then name link cs rest) = ap (λ x. (if is_text name then cs else []) ++ x) (kept-merged rest)
kept-merged (group_then name enter exit inside rest) = λ i. kept-merged inside i ++ kept-merged rest i

-- Trimming does nothing.

fine-next : (f : Forest) → HasNoEndings f → begins_line_ending f ≡ false
fine-next f h0 = grind arith

whole-data : (rules : Rules) (cs : List Code) (f : Forest) → is_empty cs ≡ false →
    trimmed_data false false (no_breaks rules) cs ⊕ f ≡ leaf_then Name.Data None cs f
whole-data rules cs f h0 = grind (arith, reverse-reverse)

untrimmed : (rules : Rules) (f : Forest) → HasNoEndings f → trimmed (no_breaks rules) false false f ≡ f
unfolding trimmed
untrimmed rules empty h = refl
untrimmed rules (leaf_then Name.Data None cs rest) h =
    (λ i. trimmed_data false (fine-next rest h.2 i || (false && is_nothing rest)) (no_breaks rules) cs ⊕ untrimmed rules rest h.2 i) ∙ whole-data rules cs rest h.1
untrimmed rules (leaf_then Name.LineEnding link cs rest) h = cc
untrimmed rules (leaf_then name link cs rest) h = ap (leaf_then name link cs) (untrimmed rules rest h.2)
untrimmed rules (group_then name enter exit inside rest) h =
    λ i. group_then name enter exit (untrimmed rules inside h.0 i) (untrimmed rules rest h.1 i)

finished : (rules : Rules) (is : List Item) → finished_string rules (elements is) ≡ merged (row is)
unfolding finished_string row
finished rules is = grind (arith, labels_of-plain, are-plain, untrimmed, fine-merged, row-fine)

-- The content of the whole document.

all-codes : (bytes : List ℕ) → place_of (stop_of document_start (codes_of bytes)) ≡ (length bytes, 0) →
    content_of bytes (whole bytes) ≡ codes_of bytes
all-codes bytes e = grind (arith, append-nil, piece-codes-is, from_in-all document_start (codes_of bytes) (0, 0) (chain-document bytes) refl, chain-document bytes, append-nil (codes_of bytes), before_in-split)

pub escapes : Escapes
unfolding string_tree
escapes s text line on e = ap text_of (lent-leaves s.bytes tree (string_events s (whole s.bytes)) (ap events_of same))
    ∙ kept-lent s.bytes tree document_start [] chain (groups-merged (row r.items) (row-fine r.items).1)
    ∙ ap (codes_bytes s.bytes) (kept-merged (row r.items) ∙ row-kept r.items) ∙ r.bytes
  where
    r : SpellsText s.bytes document_start (codes_of s.bytes) text
    r = subst (λ (bytes : List ℕ). SpellsText bytes document_start (codes_of bytes) text) (sym e) (read (escaped text) text 0 document_start line (record { vs = refl; bytes = refl; size = zero-add (length (escaped text)) }))

    tree : Forest
    tree = merged (row r.items)

    content : content_of s.bytes (whole s.bytes) ≡ codes_of s.bytes
    content = all-codes s.bytes (λ i. (r.ends.index i, r.ends.vs i))

    read_elements : string_elements_of s (codes_of s.bytes) ≡ elements r.items
    read_elements = same_string_elements s (codes_of s.bytes) (string_elements_of s (codes_of s.bytes)) (elements r.items) (string_elements s (codes_of s.bytes))
        (subst (λ cs. AreElementsFrom (string_choice s) [] None cs (elements r.items)) r.codes (are-elements s r.items [] None on r.are))

    same : string_tree s (content_of s.bytes (whole s.bytes)) ≡ tree
    same = ap (λ cs. finished_string (rules s) (string_elements_of s cs)) content ∙ ap (finished_string (rules s)) read_elements ∙ finished (rules s) r.items

    covered : leaf_codes tree ≡ codes_of s.bytes
    covered = ap leaf_codes (sym same) ∙ (leaves_cover s (content_of s.bytes (whole s.bytes))).1 ∙ content

    chain : IsChain document_start (leaf_codes tree ++ [])
    chain = subst (λ cs. IsChain document_start cs) (sym covered ∙ sym (append-nil (leaf_codes tree))) (chain-document s.bytes)
