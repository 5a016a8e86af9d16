-- The strings of definitions, one after another.
use Rattle.std.proofs.Common.{◌≡◌, ℕ, suc, refl, ap, ◌∙◌, sym, subst, List, [], ◌∷◌, ◌++◌, map, Some, None, Option, arith}
use Rattle.std.specs.Prelude.{All, option_map}
use Rattle.std.proofs.lemmas.List.{map-append}
use Rattle.std.proofs.lemmas.List.Elements.{All-cons, All-nil}
use Rattle.markdown_content.specs.Codes.{Code}
use Rattle.markdown_util.specs.declared.decoding.Decoding.{Decoding}
use Rattle.markdown_html_model.specs.Html.{Defined}
use Rattle.markdown_html_model.specs.Resolved.{resolved}
use Rattle.markdown_block_model.specs.LinkDefinitions as link_definitions
use Rattle.markdown_block_model.specs.LinkDefinitions.{identifier}
use Rattle.markdown_page_model.specs.PageHtml.{defined_by}
use Rattle.markdown_page_model.specs.PageTexts.{text_of}
use Rattle.markdown_block_definitions.specs.DefinitionTexts.{Texts, texts_of, texts_in}
use Rattle.markdown_block_definitions.specs.declared.front.Definition.{Definition}
use Rattle.markdown_page.specs.DefinitionStrings.{AreTextsOf, defined_in}

-- What is made of each text, where the text has a property.
pub record AreMade {B : Type 0} (P : Texts → Type 0) (f : Texts → B) (xs : List Definition) (made : List B) : Type 0 where
  pub same : All (λ x. P (texts_of x)) xs → made ≡ map (λ x. f (texts_of x)) xs

all-front : (P : Definition → Type 0) (xs : List Definition) (x : Definition) → All P (xs ++ x ∷ []) → All P xs
all-front P [] x h = All-nil P
all-front P (y ∷ xs) x h = All-cons P y xs (h 0 y (omega arith)) (all-front P xs x (λ k d l. h (suc k) d (omega (arith, l))))

all-last : (P : Definition → Type 0) (xs : List Definition) (x : Definition) → All P (xs ++ x ∷ []) → P x
all-last P [] x h = h 0 x (omega arith)
all-last P (y ∷ xs) x h = all-last P xs x (λ k d l. h (suc k) d (omega (arith, l)))

module _ {B : Type 0} (P : Texts → Type 0) (f : Texts → B) where
  pub made-none : (made : List B) → made ≡ [] → AreMade P f [] made
  made-none made e = record { same = λ a. e }

  pub made-more : (xs ys : List Definition) (x : Definition) (made more : List B) (b : B) → ys ≡ xs ++ x ∷ [] → AreMade P f xs made → more ≡ made ++ b ∷ [] → (P (texts_of x) → b ≡ f (texts_of x)) → AreMade P f ys more
  made-more xs ys x made more b e h m g = record {
    same = λ a.
        let all : All (λ y. P (texts_of y)) (xs ++ x ∷ []) = subst (λ zs. All (λ y. P (texts_of y)) zs) e a in
        m ∙ ap (λ bs. bs ++ b ∷ []) (h.same (all-front (λ y. P (texts_of y)) xs x all))
        ∙ ap (λ c. map (λ y. f (texts_of y)) xs ++ c ∷ []) (g (all-last (λ y. P (texts_of y)) xs x all))
        ∙ sym (ap (map (λ y. f (texts_of y))) e ∙ map-append (λ y. f (texts_of y)) xs (x ∷ []));
  }

  -- of all definitions
  pub made-all : (xs : List Definition) (ds : List link_definitions.Definition) (made : List B) → AreMade P f xs made → AreTextsOf xs ds → All (λ d. P (texts_in d)) ds → made ≡ map (λ d. f (texts_in d)) ds
  made-all xs ds made h e a = let both = along xs ds e a in h.same both.0 ∙ both.1
    where
      along : (xs : List Definition) (ds : List link_definitions.Definition) → AreTextsOf xs ds → All (λ d. P (texts_in d)) ds
          → All (λ x. P (texts_of x)) xs × (map (λ x. f (texts_of x)) xs ≡ map (λ d. f (texts_in d)) ds)
      along [] [] e a = (All-nil (λ x. P (texts_of x)), refl)
      along [] (d ∷ ds) e a = absurd (cc)
      along (x ∷ xs) [] e a = absurd (cc)
      along (x ∷ xs) (d ∷ ds) e a =
          let first : texts_of x ≡ texts_in d = cc in
          let others : map texts_of xs ≡ map texts_in ds = cc in
          let more = along xs ds others (λ k c l. a (suc k) c (omega (arith, l))) in (
            All-cons (λ y. P (texts_of y)) x xs (subst P (sym first) (a 0 d (omega arith))) more.0,
            ap (λ t. f t ∷ map (λ y. f (texts_of y)) xs) first ∙ ap (λ bs. f (texts_in d) ∷ bs) more.1,
          )

pub defined-same : (how : Decoding) (ds : List link_definitions.Definition) → map (λ d. defined_in how (texts_in d)) ds ≡ map (defined_by how) ds
defined-same how [] = refl
defined-same how (d ∷ ds) =
    ap (λ (t : Option (List ℕ)). (let r : Defined = record { identifier = identifier d; destination = resolved how (text_of d.destination); title = t } in r) ∷ map (λ e. defined_in how (texts_in e)) ds) (titles d.title)
    ∙ ap (λ bs. defined_by how d ∷ bs) (defined-same how ds)
  where
    titles : (t : Option (List Code)) → option_map (resolved how) (option_map text_of t) ≡ option_map (λ x. resolved how (text_of x)) t
    titles None = refl
    titles (Some t) = refl
