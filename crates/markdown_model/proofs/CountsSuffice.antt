-- The numbers of steps that definitions count down are enough.
use Rattle.std.proofs.Common.{◌≡◌, Bool, ℕ, zero, suc, ◌+◌, ◌≤◌, List, [], ◌++◌, length, refl, sym, ◌∙◌, ap, subst, arith, Option, Some, None}
use Rattle.std.specs.Str.{byte}
use Rattle.markdown_content.specs.Codes.{Code}
use Rattle.markdown_model.specs.CodeTests.{is_value}
use Rattle.markdown_model.specs.Grammar.{Reading, one, ◌then_◌, repeated, repeatedly}
use Rattle.markdown_model.specs.LeafConstructs.{domain_label}
use Rattle.markdown_model.specs.HtmlText.{spaces, attribute}
use Rattle.markdown_model.specs.CodeTests.{is_whitespace_code}
use Rattle.markdown_model.specs.GfmEmailLiteral.{email_leaves, with_emails}
use Rattle.markdown_model.specs.Laws.{ReadsACode, CountsSuffice}
use Rattle.markdown_model.proofs.ReadingsCover.{takes_attribute, takes_domain_label}
use Rattle.markdown_model.proofs.ReadsACode.{Left, Consumes, one_takes, some_takes, then_takes, takes_no_more}
use Rattle.markdown_model.proofs.DefinitionSteps.{and_then, Holds, repeated-holds, email_leaves-more, read-shorter}

rest_of : Option (List Code × List Code) → List Code
rest_of None = []
rest_of (Some r) = r.1

consumes : (a : Reading (List Code)) → ReadsACode a → Consumes 1 a
consumes a h = record { at = λ cs. by_answer cs (a cs) refl }
  where
    by_answer : (cs : List Code) (r : Option (List Code × List Code)) → a cs ≡ r → Left 1 cs r
    by_answer cs None e = tt
    by_answer cs (Some x) e = let shorter : 1 + length x.1 ≤ length cs = omega (arith, h cs x.0 x.1 e) in shorter

reads : (a : Reading (List Code)) → Consumes 1 a → ReadsACode a
reads a h cs text rest e = omega (arith, read-shorter 1 a h cs rest text e)

module _ (a : Reading (List Code)) (takes : Consumes 1 a) where
  stops : (n : ℕ) (cs text rest : List Code) → length cs ≤ n → repeated n a cs ≡ Some (text, rest) → a rest ≡ None
  unfolding repeated rest_of
  stops zero cs text rest h e = subst (λ z. a z ≡ None) (ap rest_of e) (by_answer (a cs) refl (takes.at cs))
    where
      by_answer : (r : Option (List Code × List Code)) → a cs ≡ r → Left 1 cs r → a cs ≡ None
      by_answer None f l = f
      by_answer (Some x) f l = absurd (omega arith)
  stops (suc n) cs text rest h e = by_answer (a cs) refl (takes.at cs) e (λ ds more after. stops n ds more after)
    where
      by_answer : (r : Option (List Code × List Code)) → a cs ≡ r → Left 1 cs r → and_then (repeated n a) cs r ≡ Some (text, rest)
          → ((ds more after : List Code) → length ds ≤ n → repeated n a ds ≡ Some (more, after) → a after ≡ None) → a rest ≡ None
      by_answer None f l k next = subst (λ z. a z ≡ None) (ap rest_of k) f
      by_answer (Some x) f l k next =
          let more : Holds (repeated n a x.1) = repeated-holds a n x.1 in
          let same : more.rest ≡ rest =
          ap rest_of (sym (λ i. elim (more.is i) as (λ _. Option (List Code × List Code)) [ None ↦ Some x | Some y ↦ Some (x.0 ++ y.0, y.1) ]) ∙ k) in
          subst (λ z. a z ≡ None) same (next x.1 more.codes more.rest (omega arith) more.is)

repeats : (a : Reading (List Code)) → ReadsACode a → (cs text rest : List Code) → repeatedly a cs ≡ Some (text, rest) →
    a rest ≡ None
unfolding repeatedly
repeats a h cs text rest e = stops a (consumes a h) (length cs) cs text rest (omega arith) e

attribute_takes : (slashes : Bool) → Consumes 1 (spaces then_ attribute slashes)
unfolding spaces
attribute_takes slashes =
    then_takes _ _ (some_takes is_whitespace_code) (takes_no_more _ (attribute slashes) (takes_attribute slashes))

label_takes : Consumes 1 (one (is_value (byte ".")) then_ domain_label)
label_takes = then_takes _ _ (one_takes (is_value (byte "."))) (takes_no_more _ domain_label takes_domain_label)

all_emails : (n : ℕ) (cs : List Code) → length cs ≤ n → email_leaves n [] cs ≡ with_emails cs
unfolding with_emails
all_emails n cs h = email_leaves-more n (length cs) [] cs h (omega arith)

pub counts_suffice : CountsSuffice
counts_suffice = record {
  repeats = repeats;
  an_attribute = λ slashes. reads (spaces then_ attribute slashes) (attribute_takes slashes);
  a_label = reads (one (is_value (byte ".")) then_ domain_label) label_takes;
  emails = all_emails;
}
