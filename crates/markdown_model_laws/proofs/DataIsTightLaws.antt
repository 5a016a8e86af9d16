-- No blank code stands in data beside a line ending, nor first or last in a text.
use Rattle.std.proofs.Common.{◌≡◌, ℕ, zero, suc, Bool, true, false, ◌&&◌, ◌||◌, not, List, [], ◌∷◌, ◌++◌, length, reverse, refl, sym, ap, subst, ◌∙◌, append_assoc, append-nil, Option, Some, None, arith}
use Rattle.std.proofs.Math.Bool.{and-false}
use Rattle.std.proofs.lemmas.Bool.{both_ways}
use Rattle.markdown_event.proofs.AndParts.{and-left, and-right}
use Rattle.markdown_model.specs.Setting.{rules}
use Rattle.markdown_model.proofs.GivenNames.{blank-named}
use Rattle.markdown_event.specs.declared.event.Name.{Name}
use Rattle.markdown_content.specs.Codes.{Code, is_blank}
use Rattle.markdown_content.specs.Tree.{Forest, empty, leaf_then, group_then, leaf, ◌⊕◌}
use Rattle.markdown_model.specs.CodeTests.{is_empty, next_is, is_some_code, last_code}
use Rattle.markdown_model.specs.Grammar.{span}
use Rattle.markdown_model.specs.Elements.{string_elements_of}
use Rattle.markdown_model.specs.Passes.{HardBreaks, breaks_where, breaks, no_breaks, begins_line_ending, is_nothing, blank_name, trimmed_data, trimmed, merged, with_emails_apart, labels_of}
use Rattle.markdown_model.specs.GfmEmailLiteral.{email_at, email_leaves, with_emails}
use Rattle.markdown_model.specs.InlineTree.{finished_string, string_tree}
use Rattle.markdown_model.specs.Laws.{begins_data, IsDataApart}
use Rattle.markdown_model.proofs.LeafCodes.{span-append}
use Rattle.markdown_model.proofs.LiteralCodes.{HasCodesAround, found, reverse-first}
use Rattle.markdown_model.proofs.MergedDataIsApart.{merged_data_is_apart}
use Rattle.markdown_model.proofs.DefinitionSteps.{span-stops}
use Rattle.markdown_model_laws.specs.EmailsInData.{is_email}
use Rattle.markdown_model_laws.specs.DataIsTight.{IsTight, DataIsTight}
use Rattle.markdown_model_laws.proofs.CodesAtEnds.{last-of-more, last-reversed}
use Rattle.markdown_model_laws.proofs.EachPass.{pairs_in, unmailed, text-has}
use Rattle.markdown_model_laws.proofs.EmailLeaves.{IsEmailLeaf, AnswerIsEmail, answer-email}

-- Last codes.

-- what the last code of a list fails, the last one of its back fails too
last-of-back : (xs ys : List Code) → is_some_code is_blank (last_code (xs ++ ys)) ≡ false →
    is_some_code is_blank (last_code ys) ≡ false
last-of-back xs [] h = refl
last-of-back xs (y ∷ ys) h = ap (is_some_code is_blank) (sym (last-of-more xs y ys)) ∙ h

-- Leaves that are no data and no line ending.

abbrev is_other : Name → Bool
is_other Name.Data = false
is_other Name.LineEnding = false
is_other _ = true

tight-other : (tight : Bool) (front whole : Bool) (name : Name) (cs : List Code) (f : Forest) → is_other name ≡ true →
    IsTight tight false whole f → IsTight tight front whole (leaf_then name None cs f)
tight-other tight front whole name cs f h k = grind arith

not-ending : (name : Name) (cs : List Code) (f : Forest) → is_other name ≡ true →
    begins_line_ending (leaf_then name None cs f) ≡ false
not-ending Name.LineEnding cs f h = cc
not-ending name cs f h = refl

blank-other : (hard : HardBreaks) (cs : List Code) → is_other (blank_name hard cs) ≡ true
blank-other = blank-named (λ name. is_other name ≡ true) refl refl

email-other : (name : Name) → is_email name ≡ true → is_other name ≡ true
email-other Name.Data h = cc
email-other name h = cc

-- One data.

-- what a row before this one has to end with: the row begins with a line ending, or is nothing at the whole's end
abbrev ends_before : Bool → Forest → Bool
ends_before whole f = begins_line_ending f || (whole && is_nothing f)

-- its last code is to be no blank one then, if blank codes go there
abbrev goes_last : Bool → Bool → Forest → Bool
goes_last tight whole f = tight && ends_before whole f

abbrev NotBlankFirst : Bool → List Code → Type 0
NotBlankFirst front cs = front ≡ true → next_is is_blank cs ≡ false

abbrev NotBlankLast : Bool → List Code → Type 0
NotBlankLast back cs = back ≡ true → is_some_code is_blank (last_code cs) ≡ false

never : {A : Type 0} → (b : Bool) → b ≡ false → b ≡ true → A
never b h k = absurd (both_ways b h k)

-- data, and blank codes behind it or none
tight-back : (tight : Bool) (front whole : Bool) (ys zs : List Code) (name : Name) (f : Forest) → is_other name ≡ true → NotBlankFirst front ys → NotBlankLast (goes_last tight whole f) ys
    → IsTight tight front whole f → IsTight tight false whole f → IsTight tight front whole ((leaf Name.Data ys ⊕ leaf name zs) ⊕ f)
tight-back tight front whole ys zs name f h0 h1 h2 h3 h4 = grind (arith, tight-other, never, not-ending, and-false)

-- blank codes before it or none
tight-three : (tight : Bool) (front whole : Bool) (xs ys zs : List Code) (name : Name) (f : Forest) → is_other name ≡ true → NotBlankFirst front ys → NotBlankLast (goes_last tight whole f) ys
    → IsTight tight front whole f → IsTight tight false whole f → IsTight tight front whole ((leaf Name.SpaceOrTab xs ⊕ leaf Name.Data ys ⊕ leaf name zs) ⊕ f)
tight-three tight front whole [] ys zs name f o first last h k = tight-back tight front whole ys zs name f o first last h k
tight-three tight front whole (x ∷ xs) ys zs name f o first last h k = grind (arith, tight-back, never)

-- Trimming.

trimmed-next : (hard : HardBreaks) (front whole : Bool) (f : Forest) → begins_data f ≡ false →
    ends_before whole (trimmed hard front whole f) ≡ ends_before whole f
unfolding trimmed
trimmed-next hard front whole f h0 = grind arith

abbrev back_cut : Bool → List Code → List Code × List Code
back_cut back cs = elim back [ true ↦ span is_blank (reverse cs) | false ↦ ([], reverse cs) ]

abbrev front_cut : Bool → List Code → List Code × List Code
front_cut front cs = elim front [ true ↦ span is_blank cs | false ↦ ([], cs) ]

front-first : (front : Bool) (cs : List Code) → NotBlankFirst front (front_cut front cs).1
front-first true cs h = span-stops is_blank cs
front-first false cs h = cc

front-last : (front : Bool) (cs : List Code) → is_some_code is_blank (last_code cs) ≡ false →
    is_some_code is_blank (last_code (front_cut front cs).1) ≡ false
front-last true cs h = grind (arith, last-of-back, span-append is_blank cs)
front-last false cs h = h

back-last : (back : Bool) (cs : List Code) → back ≡ true →
    is_some_code is_blank (last_code (reverse (back_cut back cs).1)) ≡ false
back-last true cs h = ap (is_some_code is_blank) (last-reversed (span is_blank (reverse cs)).1) ∙ span-stops is_blank (reverse cs)
back-last false cs h = cc

tight-data : (front whole back : Bool) (hard : HardBreaks) (cs : List Code) (f : Forest) → ends_before whole f ≡ back →
    IsTight (not hard.keeps) front whole f → IsTight (not hard.keeps) false whole f → IsTight (not hard.keeps) front whole (trimmed_data front back hard cs ⊕ f)
tight-data front whole back hard cs f e h k = grind (arith, tight-three, blank-other, front-first, front-last, back-last, and-right, and-left)

-- what does not begin with data is tight whatever stands before
tight-any : (tight : Bool) (front whole : Bool) (f : Forest) → begins_data f ≡ false → IsTight tight false whole f → IsTight tight front whole f
tight-any tight front whole f h0 h1 = grind arith

trimmed-no-data : (hard : HardBreaks) (front whole : Bool) (f : Forest) → begins_data f ≡ false →
    begins_data (trimmed hard front whole f) ≡ false
unfolding trimmed
trimmed-no-data hard front whole f h0 = grind arith

tight-trimmed : (hard : HardBreaks) (front whole : Bool) (f : Forest) → IsDataApart f →
    IsTight (not hard.keeps) front whole (trimmed hard front whole f)
unfolding trimmed
tight-trimmed hard front whole empty h = tt
tight-trimmed hard front whole (leaf_then Name.Data None cs rest) h =
    let k = tight-trimmed hard false whole rest h.1 in
    tight-data front whole (ends_before whole rest) (breaks_where hard (begins_line_ending rest)) cs (trimmed hard false whole rest) (trimmed-next hard false whole rest h.0)
    (tight-any (not hard.keeps) front whole (trimmed hard false whole rest) (trimmed-no-data hard false whole rest h.0) k) k
tight-trimmed hard front whole (leaf_then Name.LineEnding link cs rest) h = tight-trimmed hard true whole rest h
tight-trimmed hard front whole (leaf_then Name.Data (Some link) cs rest) h = tight-trimmed hard false whole rest h
tight-trimmed hard front whole (leaf_then name link cs rest) h = tight-trimmed hard false whole rest h
tight-trimmed hard front whole (group_then name enter exit inside rest) h =
    (tight-trimmed hard false false inside h.0, tight-trimmed hard false whole rest h.1)

-- Emails.

-- there are codes, or nothing is asked of the first
abbrev HasCodesIfAsked : Bool → List Code → Type 0
HasCodesIfAsked front cs = is_empty cs ≡ true → front ≡ false

first-of-more : (y : Code) (ys ds cs : List Code) → (y ∷ ys) ++ ds ≡ cs →
    next_is is_blank cs ≡ next_is is_blank (y ∷ ys)
first-of-more y ys ds cs h = ap (next_is is_blank) (sym h)

tight-piece : (tight : Bool) (front whole : Bool) (cs : List Code) (f : Forest) → HasCodesIfAsked front cs → NotBlankFirst front cs →
    NotBlankLast (goes_last tight whole f) cs → IsTight tight false whole f → IsTight tight front whole (leaf Name.Data cs ⊕ f)
tight-piece tight front whole [] f b first last k = subst (λ x. IsTight tight x whole f) (sym (b refl)) k
tight-piece tight front whole (c ∷ cs) f b first last k = (refl, first, last, k)

module _ (tight whole : Bool) (f : Forest) (k : IsTight tight false whole f) where
  abbrev TightLaw : Bool → List Code → Forest → Type 0
  TightLaw front cs t =
      HasCodesIfAsked front cs → NotBlankFirst front cs → NotBlankLast (goes_last tight whole f) cs → IsTight tight front whole (t ⊕ f)

  email-tight : (front : Bool) (xs : List Code) (e more : Forest) → IsEmailLeaf e → NotBlankFirst front xs →
      IsTight tight false whole (more ⊕ f) → IsTight tight front whole ((leaf Name.Data xs ⊕ e ⊕ more) ⊕ f)
  email-tight front xs e more h first l = grind (arith, email-other, tight-other, never, not-ending, and-false)

  first-part : (front : Bool) (xs ds cs : List Code) → xs ++ ds ≡ cs → NotBlankFirst front cs → NotBlankFirst front xs
  first-part front [] ds cs e g h = refl
  first-part front (x ∷ xs) ds cs e g h = sym (first-of-more x xs ds cs e) ∙ g h

  last-part : (b : Bool) (xs ys ds cs : List Code) → xs ++ (ys ++ ds) ≡ cs → NotBlankLast b cs → NotBlankLast b ds
  last-part b xs ys ds cs e g h = grind (arith, last-of-back, append_assoc)

  emails-tight : (n : ℕ) (front : Bool) (before cs : List Code) →
      TightLaw front (reverse before ++ cs) (email_leaves n before cs)
  unfolding email_leaves
  emails-tight n front before [] b first last =
      let e : reverse before ++ [] ≡ reverse before = append-nil (reverse before) in
      tight-piece tight front whole (reverse before) f (subst (HasCodesIfAsked front) e b) (subst (NotBlankFirst front) e first) (subst (NotBlankLast (goes_last tight whole f)) e last) k
  emails-tight zero front before (c ∷ cs) b first last =
      tight-piece tight front whole (reverse before ++ c ∷ cs) f b first last k
  emails-tight (suc n) front before (c ∷ cs) b first last =
      by_answer (email_at before c cs) (found before c cs) (answer-email before c cs) (emails-tight n front (c ∷ before) cs) (λ ds. emails-tight n false [] ds)
    where
      all : List Code
      all = reverse before ++ c ∷ cs

      by_answer : (r : Option (List Code × Forest × List Code)) → HasCodesAround before c cs r → AnswerIsEmail r
          → TightLaw front (reverse (c ∷ before) ++ cs) (email_leaves n (c ∷ before) cs) → ((ds : List Code) → TightLaw false ds (email_leaves n [] ds))
          → IsTight tight front whole ((elim r as (λ _. Forest) [ None ↦ email_leaves n (c ∷ before) cs | Some x ↦ leaf Name.Data x.0 ⊕ x.1 ⊕ email_leaves n [] x.2 ]) ⊕ f)
      by_answer None h l more after =
          let e : all ≡ reverse (c ∷ before) ++ cs = sym (reverse-first c before cs) in
          more (subst (HasCodesIfAsked front) e b) (subst (NotBlankFirst front) e first) (subst (NotBlankLast (goes_last tight whole f)) e last)
      by_answer (Some x) h l more after = grind (arith, email-tight, first-part, never, last-part)

-- a row begins with a leaf that is no line ending
abbrev pub BeginsLeaf : Forest → Type 0
BeginsLeaf f = (begins_line_ending f ≡ false) × (is_nothing f ≡ false)

data-begins : (cs : List Code) (f : Forest) → is_empty cs ≡ false → BeginsLeaf (leaf Name.Data cs ⊕ f)
data-begins [] f h = cc
data-begins (c ∷ cs) f h = (refl, refl)

pub emails-begin : (n : ℕ) (before cs : List Code) (f : Forest) → is_empty (reverse before ++ cs) ≡ false →
    BeginsLeaf (email_leaves n before cs ⊕ f)
unfolding email_leaves
emails-begin n before [] f h = data-begins (reverse before) f (ap is_empty (sym (append-nil (reverse before))) ∙ h)
emails-begin zero before (c ∷ cs) f h = data-begins (reverse before ++ c ∷ cs) f h
emails-begin (suc n) before (c ∷ cs) f h = grind (arith, answer-email, emails-begin n (c ∷ before) cs f, not-ending, email-other, reverse-first)

-- a tight row ends before as it did when its emails are found
email-next : (tight : Bool) (whole : Bool) (f : Forest) → IsTight tight false whole f →
    ends_before whole (with_emails_apart f) ≡ ends_before whole f
unfolding with_emails_apart with_emails
email-next tight whole f h0 = grind (arith, emails-begin)

tight-mailed : (tight : Bool) (front whole : Bool) (f : Forest) → IsTight tight front whole f → IsTight tight front whole (with_emails_apart f)
unfolding with_emails_apart with_emails
tight-mailed tight front whole empty h = tt
tight-mailed tight front whole (leaf_then Name.Data None [] rest) h = absurd (both_ways true h.0 refl)
tight-mailed tight front whole (leaf_then Name.Data None (c ∷ cs) rest) h =
    emails-tight tight whole (with_emails_apart rest) (tight-mailed tight false whole rest h.3) (length (c ∷ cs)) front [] (c ∷ cs) (λ e. cc) h.1 (λ e. h.2 ((λ i. tight && sym (email-next tight whole rest h.3) i) ∙ e))
tight-mailed tight front whole (leaf_then Name.LineEnding link cs rest) h = tight-mailed tight true whole rest h
tight-mailed tight front whole (leaf_then Name.Data (Some link) cs rest) h = tight-mailed tight false whole rest h
tight-mailed tight front whole (leaf_then name link cs rest) h = tight-mailed tight false whole rest h
tight-mailed tight front whole (group_then Name.Link enter exit inside rest) h = (h.0, tight-mailed tight false whole rest h.1)
tight-mailed tight front whole (group_then name enter exit inside rest) h =
    (tight-mailed tight false false inside h.0, tight-mailed tight false whole rest h.1)

pub data_is_tight : DataIsTight
unfolding string_tree finished_string
data_is_tight s cs =
    (text-has (IsTight true true true) s cs (tight-mailed true true true (unmailed s cs) is_tight) is_tight, tight-trimmed (no_breaks (rules s)) false false (merged (labels_of (string_elements_of s cs))) (merged_data_is_apart (labels_of (string_elements_of s cs))))
  where
    is_tight : IsTight true true true (unmailed s cs)
    is_tight =
        tight-trimmed (breaks s) true true (merged (pairs_in s cs)) (merged_data_is_apart (pairs_in s cs))
