-- What a reading gives covers what it reads.
use Rattle.std.proofs.Common.{◌≡◌, ◌==◌, ℕ, zero, suc, ◌-◌, nat_lt, Bool, true, false, ◌&&◌, ◌||◌, not, List, [], ◌∷◌, ◌++◌, length, refl, sym, ◌∙◌, ap, subst, Option, Some, None, arith}
use Rattle.std.specs.Prelude.{codes}
use Prim.Native.String.{String}
use Rattle.std.proofs.lemmas.List.{append_assoc, append-nil}
use Rattle.markdown_event.specs.declared.event.Name.{Name}
use Rattle.markdown_event.specs.declared.event.Content.{Content}
use Rattle.markdown_content.specs.Codes.{Code, is_line_ending, is_blank}
use Rattle.markdown_content.specs.Tree.{Forest, empty, leaf_then, group_then, leaf, linked, ◌⊕◌, group, leaf_codes}
use Rattle.markdown_model.specs.CodeTests.{is_value, is_among, next_is, is_whitespace_code, is_control}
use Rattle.markdown_model.specs.Grammar.{word, through, Reading, ◌>>=◌, ◌>>◌, gives, either, unless, if_next, provided, span, one, any_number, some, with_first, word_of, up_to_word, before, ◌then_◌, repeatedly, optional, optional_tree, up_to}
use Rattle.markdown_model.specs.TextLines.{stretches, onto_stretch, joins, linked_leaf, line_leaf, line_leaves, lines_from, lines}
use Rattle.markdown_model.specs.Whitespace.{space_or_tab_eol, spaces_across, spaces_on_line}
use Rattle.markdown_model.specs.LeafConstructs.{scheme, domain_label, uri, email_address, closing_run, closing, joined_codes}
use Rattle.markdown_model.specs.HtmlText.{html_codes, spaces, optional_spaces, quoted_value, unquoted_value, attribute_name, attribute_value, attribute, tag_name, open_tag, closing_tag, comment, instruction, declaration, cdata}
use Rattle.markdown_model.specs.Resource.{string_group, between_markers, StringNames, label, title_between, title, title_names, raw_from, literal_destination, raw_destination, destination, DestinationNames, resource_names, spaced_title, destination_and_title, resource}
use Rattle.markdown_model.proofs.GivenByReadings.{IfGiven, given-map, given-bind, given-gives, given-passed, given-either, given-before, given-next, given-unless, given-one, given-some, given-then, given-repeatedly, given-first, given-word, given-up-to-word, given-escaped}
use Rattle.markdown_model.proofs.LeafCodes.{codes-leaf, span-append}
use Rattle.markdown_content.proofs.TreeCodes.{leaf_codes-row}

-- `codes_of` says which codes a value covers, and `read` what was read before the reading.
abbrev pub Splits : {A : Type 0} → (A → List Code) → List Code → A → List Code → Type 0
Splits codes_of all x rest = codes_of x ++ rest ≡ all

abbrev pub At : {A : Type 0} → (A → List Code) → List Code → List Code → Option (A × List Code) → Type 0
At codes_of read cs o = IfGiven (Splits codes_of (read ++ cs)) o

-- a record, so that antt finds the reading by its parameters
pub record Covers {A : Type 0} (codes_of : A → List Code) (read : List Code) (a : Reading A) : Type 0 where
  pub at : (cs : List Code) → At codes_of read cs (a cs)

abbrev pub itself : List Code → List Code
itself cs = cs

pub ruleset codes_laws = (leaf_codes-row, codes-leaf, append-nil, append_assoc)

module _ {A B : Type 0} (f : A → List Code) (g : B → List Code) (read : List Code) where
  pub bind : (a : Reading A) (b : A → Reading B) → Covers f [] a → ((x : A) → Covers g (read ++ f x) (b x)) →
      Covers g read (a >>= b)
  bind a b ha hb = record { at = λ cs. given-bind (Splits f cs) (Splits g (read ++ cs)) a b cs (ha.at cs) (λ x rest e. behind cs x rest e (b x rest) ((hb x).at rest)) }
    where
      behind : (cs : List Code) (x : A) (rest : List Code) → f x ++ rest ≡ cs → (o : Option (B × List Code)) → At g (read ++ f x) rest o → At g read cs o
      behind cs x rest e o h =
          given-map (Splits g ((read ++ f x) ++ rest)) (Splits g (read ++ cs)) o (λ y left k. k ∙ append_assoc read (f x) rest ∙ ap (λ z. read ++ z) e) h

module _ {A : Type 0} (f : A → List Code) (read : List Code) where
  abbrev whole : List Code → A → List Code → Type 0
  whole cs = Splits f (read ++ cs)

  pub given : (x : A) → f x ≡ read → Covers f read (gives x)
  given x e = record { at = λ cs. given-gives (whole cs) x cs (ap (λ z. z ++ cs) e) }

  pub if_passed : (test : Bool) (b : Reading A) → Covers f read b → Covers f read (provided test >> b)
  if_passed test b h = record { at = λ cs. given-passed (whole cs) test b cs (λ _. h.at cs) }

  pub one_of : (a b : Reading A) → Covers f read a → Covers f read b → Covers f read (either a b)
  one_of a b h k = record { at = λ cs. given-either (whole cs) a b cs (h.at cs) (k.at cs) }

  pub seen_before : (a : Reading A) (p : List Code → Bool) → Covers f read a → Covers f read (before a p)
  seen_before a p h = record { at = λ cs. given-before (whole cs) a p cs (h.at cs) }

  pub by_next : (p : Code → Bool) (a b : Reading A) → Covers f read a → Covers f read b → Covers f read (if_next p a b)
  by_next p a b h k = record { at = λ cs. given-next (whole cs) p a b cs (h.at cs) (k.at cs) }

  pub where_not : {B : Type 0} (a : Reading B) (b : Reading A) → Covers f read b → Covers f read (unless a b)
  where_not a b h = record { at = λ cs. given-unless (whole cs) a b cs (h.at cs) }

-- a choice by a test
pub chosen_at : {A : Type 0} (f : A → List Code) (read cs : List Code) (b : Bool) (x y : Option (A × List Code)) →
    At f read cs x → At f read cs y → At f read cs (elim b [ true ↦ x | false ↦ y ])
chosen_at f read cs true x y h k = h
chosen_at f read cs false x y h k = k

abbrev pub Takes : Reading (List Code) → Type 0
Takes a = Covers itself [] a

pub takes_one : (p : Code → Bool) → Takes (one p)
takes_one p = record { at = given-one (λ cs x rest. x ++ rest ≡ cs) p (λ c cs e. refl) }

pub takes_any_number : (p : Code → Bool) → Takes (any_number p)
unfolding any_number
takes_any_number p = record { at = λ cs. span-append p cs }

pub takes_some : (p : Code → Bool) → Takes (some p)
takes_some p =
    record { at = λ cs. given-some (Splits itself cs) (Splits itself cs) p cs (span-append p cs) (λ c x rest e. e) }

-- one after the other
rows : (cs x rest y left : List Code) → x ++ rest ≡ cs → y ++ left ≡ rest → (x ++ y) ++ left ≡ cs
rows cs x rest y left e k = append_assoc x y left ∙ ap (λ z. x ++ z) k ∙ e

pub takes_then : (a b : Reading (List Code)) → Takes a → Takes b → Takes (a then_ b)
takes_then a b ha hb =
    record { at = λ cs. given-then (Splits itself cs) (Splits itself cs) a b cs (ha.at cs) (λ x rest e. given-map (Splits itself rest) (λ y left. (x ++ y) ++ left ≡ cs) (b rest) (λ y left k. rows cs x rest y left e k) (hb.at rest)) }

pub takes_nothing : Takes (gives [])
takes_nothing = given itself [] [] refl

pub takes_optional : (a : Reading (List Code)) → Takes a → Takes (optional a)
unfolding optional
takes_optional a h = one_of itself [] a (gives []) h takes_nothing

pub takes_repeatedly : (a : Reading (List Code)) → Takes a → Takes (repeatedly a)
takes_repeatedly a h = record { at = given-repeatedly (λ cs x rest. x ++ rest ≡ cs) (λ cs. refl) rows a h.at }

first_at : (c : Code) (cs : List Code) (r : Option (List Code × List Code)) → At itself [] cs r →
    At itself [] (c ∷ cs) (with_first c r)
first_at c cs r h = given-first (Splits itself cs) (Splits itself (c ∷ cs)) c r (λ x rest e. ap (λ z. c ∷ z) e) h

word_at : (ns : List ℕ) (cs : List Code) → At itself [] cs (word_of ns cs)
word_at = given-word (λ ns cs x rest. x ++ rest ≡ cs) (λ cs. refl) (λ n ns c cs x rest v e. ap (λ z. c ∷ z) e)

pub takes_word_of : (ns : List ℕ) → Takes (word_of ns)
takes_word_of ns = record { at = word_at ns }

pub takes_up_to_word : (ns : List ℕ) → Takes (up_to_word ns)
takes_up_to_word ns =
    record { at = given-up-to-word (λ cs x rest. x ++ rest ≡ cs) ns (word_at ns) (λ c cs x rest e. ap (λ z. c ∷ z) e) }

-- Parts of autolinks.

pub takes_scheme : Takes scheme
unfolding scheme
takes_scheme = bind _ _ _ _ _ (takes_then _ _ (takes_one _) (takes_some _)) λ text. if_passed _ _ _ _ (given _ _ _ refl)

pub takes_domain_label : Takes domain_label
unfolding domain_label
takes_domain_label = bind _ _ _ _ _ (takes_some _) λ text. if_passed _ _ _ _ (given _ _ _ refl)

pub takes_uri : (replaced : Bool) → Takes (uri replaced)
unfolding uri
takes_uri replaced = takes_then _ _ takes_scheme (takes_then _ _ (takes_one _) (takes_any_number _))

pub takes_email_address : (all : Bool) → Takes (email_address all)
unfolding email_address
takes_email_address all =
    takes_then _ _ (takes_some _) (takes_then _ _ (takes_one _) (takes_then _ _ takes_domain_label (takes_repeatedly _ (takes_then _ _ (takes_one _) takes_domain_label))))

-- Lines and stretches.

joined_codes-onto : (p : Code → Bool) (c : Code) (ss : List (List Code)) →
    joined_codes (onto_stretch p c ss) ≡ c ∷ joined_codes ss
joined_codes-onto p c [] = refl
joined_codes-onto p c ([] ∷ more) = refl
joined_codes-onto p c ((d ∷ ds) ∷ more) = by_test (joins p c d)
  where
    by_test : (b : Bool) →
        joined_codes (elim b [ true ↦ (c ∷ d ∷ ds) ∷ more | false ↦ (c ∷ []) ∷ (d ∷ ds) ∷ more ]) ≡ c ∷ d ∷ ds ++ joined_codes more
    by_test true = refl
    by_test false = refl

pub joined_codes-stretches : (p : Code → Bool) (cs : List Code) → joined_codes (stretches p cs) ≡ cs
joined_codes-stretches p [] = refl
joined_codes-stretches p (c ∷ cs) =
    joined_codes-onto p c (stretches p cs) ∙ ap (λ z. c ∷ z) (joined_codes-stretches p cs)

pub codes-linked_leaf : (name : Name) (link : Option Content) (s : List Code) → leaf_codes (linked_leaf name link s) ≡ s
codes-linked_leaf name link [] = refl
codes-linked_leaf name link (c ∷ cs) = append-nil (c ∷ cs)

pub codes-line_leaf : (name : Name) (link : Option Content) (s : List Code) → leaf_codes (line_leaf name link s) ≡ s
codes-line_leaf name link s = by_test (next_is is_line_ending s)
  where
    by_test : (b : Bool) →
        leaf_codes (elim b [ true ↦ linked_leaf Name.LineEnding link s | false ↦ linked_leaf name link s ]) ≡ s
    by_test true = codes-linked_leaf Name.LineEnding link s
    by_test false = codes-linked_leaf name link s

pub codes-line_leaves : (name : Name) (ss : List (List Code)) → leaf_codes (line_leaves name ss) ≡ joined_codes ss
codes-line_leaves name [] = refl
codes-line_leaves name (s ∷ ss) =
    leaf_codes-row (line_leaf name None s) (line_leaves name ss) ∙ (λ i. codes-line_leaf name None s i ++ codes-line_leaves name ss i)

codes-lines_from : (name : Name) (link : Option Content) (later : Bool) (ss : List (List Code)) →
    leaf_codes (lines_from name link later ss) ≡ joined_codes ss
codes-lines_from name link later [] = refl
codes-lines_from name link later (s ∷ ss) = by_test (later && not (next_is is_line_ending s)) (λ b. codes-lines_from name link b ss)
  where
    by_test : (b : Bool) → ((f : Bool) → leaf_codes (lines_from name link f ss) ≡ joined_codes ss)
        → leaf_codes (elim b [
          | true ↦ linked_leaf Name.SpaceOrTab link (span is_blank s).0 ⊕ linked_leaf name link (span is_blank s).1 ⊕ lines_from name link false ss
          | false ↦ line_leaf name link s ⊕ lines_from name link (next_is is_line_ending s) ss
        ]) ≡ s ++ joined_codes ss
    by_test true h =
        leaf_codes-row (linked_leaf Name.SpaceOrTab link (span is_blank s).0) (linked_leaf name link (span is_blank s).1 ⊕ lines_from name link false ss)
        ∙ (λ i. codes-linked_leaf Name.SpaceOrTab link (span is_blank s).0 i ++ (leaf_codes-row (linked_leaf name link (span is_blank s).1) (lines_from name link false ss) ∙ (λ j. codes-linked_leaf name link (span is_blank s).1 j ++ h false j)) i)
        ∙ sym (append_assoc (span is_blank s).0 (span is_blank s).1 (joined_codes ss)) ∙ ap (λ z. z ++ joined_codes ss) (span-append is_blank s)
    by_test false h =
        leaf_codes-row (line_leaf name link s) (lines_from name link (next_is is_line_ending s) ss) ∙ (λ i. codes-line_leaf name link s i ++ h (next_is is_line_ending s) i)

pub codes-lines : (name : Name) (link : Option Content) (cs : List Code) → leaf_codes (lines name link cs) ≡ cs
codes-lines name link cs =
    codes-lines_from name link false (stretches (λ c. true) cs) ∙ joined_codes-stretches (λ c. true) cs

-- HTML.

pub takes_word : (text : String) → Takes (word text)
unfolding word
takes_word text = takes_word_of (codes text)

pub takes_through : (text : String) → Takes (through text)
unfolding through
takes_through text = takes_up_to_word (codes text)

pub takes_spaces : Takes spaces
unfolding spaces
takes_spaces = takes_some _

pub takes_optional_spaces : Takes optional_spaces
unfolding optional_spaces
takes_optional_spaces = takes_any_number _

pub takes_tag_name : Takes tag_name
unfolding tag_name
takes_tag_name = takes_then _ _ (takes_one _) (takes_any_number _)

pub takes_attribute_name : Takes attribute_name
unfolding attribute_name
takes_attribute_name = takes_then _ _ (takes_one _) (takes_any_number _)

takes_quoted_value : (q : ℕ) → Takes (quoted_value q)
unfolding quoted_value
takes_quoted_value q = takes_then _ _ (takes_one _) (takes_then _ _ (takes_any_number _) (takes_one _))

takes_unquoted_value : (slashes : Bool) → Takes (unquoted_value slashes)
unfolding unquoted_value
takes_unquoted_value slashes = seen_before _ _ _ _ (takes_then _ _ (takes_one _) (takes_any_number _))

pub takes_attribute_value : (slashes : Bool) → Takes (attribute_value slashes)
unfolding attribute_value
takes_attribute_value slashes =
    one_of _ _ _ _ (takes_quoted_value 34) (one_of _ _ _ _ (takes_quoted_value 39) (takes_unquoted_value slashes))

pub takes_attribute : (slashes : Bool) → Takes (attribute slashes)
unfolding attribute
takes_attribute slashes =
    takes_then _ _ takes_attribute_name (takes_optional _ (takes_then _ _ takes_optional_spaces (takes_then _ _ (takes_one _) (takes_then _ _ takes_optional_spaces (takes_attribute_value slashes)))))

takes_open_tag : (slashes : Bool) → Takes (open_tag slashes)
unfolding open_tag
takes_open_tag slashes =
    takes_then _ _ (takes_word "<") (takes_then _ _ takes_tag_name (takes_then _ _ (takes_repeatedly _ (takes_then _ _ takes_spaces (takes_attribute slashes))) (takes_then _ _ takes_optional_spaces (takes_then _ _ (takes_optional _ (takes_word "/")) (takes_word ">")))))

takes_closing_tag : Takes closing_tag
unfolding closing_tag
takes_closing_tag =
    takes_then _ _ (takes_word "</") (takes_then _ _ takes_tag_name (takes_then _ _ takes_optional_spaces (takes_word ">")))

takes_comment : Takes comment
unfolding comment
takes_comment =
    one_of _ _ _ _ (takes_word "<!-->") (one_of _ _ _ _ (takes_word "<!--->") (takes_then _ _ (takes_word "<!--") (takes_through "-->")))

takes_instruction : Takes instruction
unfolding instruction
takes_instruction = takes_then _ _ (takes_word "<?") (takes_through "?>")

takes_declaration : Takes declaration
unfolding declaration
takes_declaration = takes_then _ _ (takes_word "<!") (takes_then _ _ (takes_one _) (takes_through ">"))

takes_cdata : Takes cdata
unfolding cdata
takes_cdata = takes_then _ _ (takes_word "<![CDATA[") (takes_through "]]>")

pub takes_html_text : (slashes : Bool) → Takes (html_codes slashes)
unfolding html_codes
takes_html_text slashes =
    one_of _ _ _ _ (takes_open_tag slashes) (one_of _ _ _ _ takes_closing_tag (one_of _ _ _ _ takes_comment (one_of _ _ _ _ takes_instruction (one_of _ _ _ _ takes_declaration takes_cdata))))

-- Labels, destinations, titles and resources.

pub codes-string_group : (name : Name) (f : Forest) → leaf_codes (string_group name f) ≡ leaf_codes f
codes-string_group name empty = refl
codes-string_group name (leaf_then n l c r) = append-nil _
codes-string_group name (group_then n a b i r) = append-nil _

pub codes-linked : (name : Name) (cs : List Code) → leaf_codes (linked name cs) ≡ cs
codes-linked name [] = refl
codes-linked name (c ∷ cs) = append-nil (c ∷ cs)

pub ruleset string_laws = (codes_laws, codes-string_group, codes-lines, codes-linked, codes-linked_leaf)

pub takes_up_to : (stop takes refuses : Code → Bool) → Takes (up_to stop takes refuses)
unfolding up_to
takes_up_to stop takes refuses =
    record { at = given-escaped (λ cs x rest. x ++ rest ≡ cs) stop takes refuses (λ c cs s. refl) (λ c cs x rest t e. ap (λ z. c ∷ z) e) (λ c cs x rest s r e. ap (λ z. c ∷ z) e) false }

pub covers_label : (characters : Bool) (names : StringNames) → Covers leaf_codes [] (label characters names)
unfolding label
covers_label characters names =
    bind _ _ _ _ _ (takes_one _) λ front. bind _ _ _ _ _ (takes_up_to _ _ _) λ text.
    if_passed _ _ _ _ (if_passed _ _ _ _ (bind _ _ _ _ _ (takes_one _) λ back. if_passed _ _ _ _ (given _ _ (between_markers names front text back) (simp string_laws))))

covers_title_between : (both : Bool) (opener closer : ℕ) (names : StringNames) →
    Covers leaf_codes [] (title_between both opener closer names)
unfolding title_between
covers_title_between both opener closer names =
    bind _ _ _ _ _ (takes_one _) λ front. bind _ _ _ _ _ (takes_up_to _ _ _) λ text.
    bind _ _ _ _ _ (takes_one _) λ back. if_passed _ _ _ _ (given _ _ (between_markers names front text back) (simp string_laws))

pub covers_title : (both : Bool) (names : StringNames) → Covers leaf_codes [] (title both names)
unfolding title
covers_title both names =
    one_of _ _ _ _ (covers_title_between false 34 34 names) (one_of _ _ _ _ (covers_title_between false 39 39 names) (covers_title_between both 40 41 names))

covers_spaces_across : (link : Option Content) → Covers leaf_codes [] (spaces_across link)
unfolding spaces_across
covers_spaces_across link =
    bind _ _ _ _ _ (takes_any_number _) λ front. bind _ _ _ _ _ (takes_one _) λ ending. bind _ _ _ _ _ (seen_before _ _ _ _ (takes_any_number _)) λ back. given _ _ (linked_leaf Name.SpaceOrTab link front ⊕ linked_leaf Name.LineEnding link ending ⊕ linked_leaf Name.SpaceOrTab link back) (simp string_laws)

covers_spaces_on_line : (link : Option Content) → Covers leaf_codes [] (spaces_on_line link)
unfolding spaces_on_line
covers_spaces_on_line link = bind _ _ _ _ _ (seen_before _ _ _ _ (takes_some _)) λ blank. given _ _ _ (simp string_laws)

pub covers_spacing : (link : Option Content) → Covers leaf_codes [] (space_or_tab_eol link)
unfolding space_or_tab_eol
covers_spacing link = one_of _ _ _ _ (covers_spaces_across link) (covers_spaces_on_line link)

-- Destinations and resources.

raw_at : (max : ℕ) (slash : Bool) (depth : ℕ) (cs : List Code) → At itself [] cs (raw_from max slash depth cs)
unfolding raw_from
raw_at max slash zero [] = refl
raw_at max slash (suc d) [] = tt
raw_at max slash depth (c ∷ cs) = cases (λ b d. first_at c cs (raw_from max b d cs) (raw_at max b d cs))
  where
    stopped : (n : ℕ) → At itself [] (c ∷ cs) (elim n [ zero ↦ Some ([], c ∷ cs) | suc d ↦ None ])
    stopped zero = refl
    stopped (suc n) = tt

    cases : ((b : Bool) (d : ℕ) → At itself [] (c ∷ cs) (with_first c (raw_from max b d cs))) →
        At itself [] (c ∷ cs) (raw_from max slash depth (c ∷ cs))
    cases more =
        chosen_at itself [] (c ∷ cs) (slash && is_among (codes "()\\") c) _ _ (more false depth)
        (chosen_at itself [] (c ∷ cs) (is_whitespace_code c || (is_value 41 c && depth == 0)) _ _ (stopped depth)
        (chosen_at itself [] (c ∷ cs) (is_control c) None _ tt
        (chosen_at itself [] (c ∷ cs) (is_value 40 c) _ _ (chosen_at itself [] (c ∷ cs) (nat_lt depth max) _ None (more false (suc depth)) tt)
        (chosen_at itself [] (c ∷ cs) (is_value 41 c) _ _ (more false (depth - 1)) (more (is_value 92 c) depth)))))

pub takes_raw : (max : ℕ) → Takes (raw_from max false 0)
takes_raw max = record { at = raw_at max false 0 }

covers_literal_destination : (names : DestinationNames) → Covers leaf_codes [] (literal_destination names)
unfolding literal_destination
covers_literal_destination names =
    bind _ _ _ _ _ (takes_one _) λ front. bind _ _ _ _ _ (takes_up_to _ _ _) λ text. bind _ _ _ _ _ (takes_one _) λ back. given _ _ (group names.whole (group names.literal (leaf names.marker front ⊕ string_group names.text (linked Name.Data text) ⊕ leaf names.marker back))) (simp string_laws)

covers_raw_destination : (max : ℕ) (names : DestinationNames) → Covers leaf_codes [] (raw_destination max names)
unfolding raw_destination
covers_raw_destination max names =
    bind _ _ _ _ _ (takes_raw max) λ text. if_passed _ _ _ _ (given _ _ _ (simp string_laws))

pub covers_destination : (max : ℕ) (names : DestinationNames) → Covers leaf_codes [] (destination max names)
unfolding destination
covers_destination max names = by_next _ _ _ _ _ (covers_literal_destination names) (covers_raw_destination max names)

pub covers_optional_tree : (a : Reading Forest) → Covers leaf_codes [] a → Covers leaf_codes [] (optional_tree a)
unfolding optional_tree
covers_optional_tree a h = one_of _ _ a (gives empty) h (given _ _ empty refl)

covers_spaced_title : (both : Bool) → Covers leaf_codes [] (spaced_title both)
unfolding spaced_title
covers_spaced_title both =
    bind _ _ _ _ _ (seen_before _ _ _ _ (covers_spacing None)) λ space. bind _ _ _ _ _ (covers_title both title_names) λ text.
    bind _ _ _ _ _ (covers_optional_tree _ (covers_spacing None)) λ back. given _ _ (space ⊕ text ⊕ back) (simp codes_laws)

covers_destination_and_title : (both : Bool) → Covers leaf_codes [] (destination_and_title both)
unfolding destination_and_title
covers_destination_and_title both =
    bind _ _ _ _ _ (covers_destination 32 resource_names) λ target. bind _ _ _ _ _ (one_of _ _ _ _ (covers_spaced_title both) (covers_optional_tree _ (covers_spacing None))) λ after.
    given _ _ (target ⊕ after) (simp codes_laws)

pub covers_resource : (both : Bool) → Covers leaf_codes [] (resource both)
unfolding resource
covers_resource both =
    bind _ _ _ _ _ (takes_one _) λ front. bind _ _ _ _ _ (covers_optional_tree _ (covers_spacing None)) λ space.
    bind _ _ _ _ _ (by_next _ _ _ _ _ (given _ _ empty refl) (covers_destination_and_title both)) λ inside.
    bind _ _ _ _ _ (takes_one _) λ back. given _ _ (group Name.Resource (leaf Name.ResourceMarker front ⊕ space ⊕ inside ⊕ leaf Name.ResourceMarker back)) (simp codes_laws)

-- Spans.

abbrev pub span_codes : List (List Code) × List Code → List Code
span_codes r = joined_codes r.0 ++ r.1

closing_at : (marker : Code → Bool) (n : ℕ) (ss : List (List Code)) →
    At span_codes [] (joined_codes ss) (closing_run marker n ss)
unfolding closing_run
closing_at marker n [] = tt
closing_at marker n (s ∷ ss) = by_test (next_is marker s && length s == n) (closing_run marker n ss) (closing_at marker n ss)
  where
    by_test : (b : Bool) (r : Option ((List (List Code) × List Code) × List Code)) → At span_codes [] (joined_codes ss) r
        → At span_codes [] (s ++ joined_codes ss) (elim b [ true ↦ Some (([], s), joined_codes ss) | false ↦ elim r [ None ↦ None | Some x ↦ Some ((s ∷ x.0.0, x.0.1), x.1) ] ])
    by_test true r h = refl
    by_test false None h = tt
    by_test false (Some x) h =
        ap (λ z. z ++ x.1) (append_assoc s (joined_codes x.0.0) x.0.1) ∙ append_assoc s (joined_codes x.0.0 ++ x.0.1) x.1 ∙ ap (λ z. s ++ z) h

pub covers_closing : (marker : Code → Bool) (n : ℕ) → Covers span_codes [] (closing marker n)
covers_closing marker n =
    record { at = λ cs. subst (λ z. At span_codes [] z (closing marker n cs)) (joined_codes-stretches marker cs) (closing_at marker n (stretches marker cs)) }
