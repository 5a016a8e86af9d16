-- Destinations: where their reading holds.
use Rattle.std.proofs.Common.{◌≡◌, ℕ, not, Bool, true, false, Some, List, [], ◌∷◌, ◌++◌, refl, sym, ap, subst, ◌∙◌, arith}
use Rattle.markdown_partial.proofs.PartialDestinationReadings.{if-here, if-other}
use Rattle.std.proofs.lemmas.Bool.{not-true}
use Rattle.markdown_content.specs.Codes.{Code}
use Rattle.markdown_content.specs.Tree.{Forest, leaf_codes}
use Rattle.markdown_model.specs.CodeTests.{is_value, is_empty, next_is}
use Rattle.markdown_model.specs.Grammar.{gives}
use Rattle.markdown_model.specs.Resource.{DestinationNames, destination, literal_destination, raw_destination, raw_from}
use Rattle.markdown_model.proofs.ReadingsCover.{covers_destination, takes_raw, itself}
use Rattle.markdown_model.proofs.DefinitionSteps.{read-codes}
use Rattle.markdown_model.proofs.GrammarSteps.{bind-some, after-some, provided-true}
use Rattle.markdown_model_laws.specs.LinkParts.{opening, closing, IsRaw, Raw, raw_tree_of, IsDestination, DestinationsAreFound}
use Rattle.markdown_model_laws.proofs.EscapedTexts.{escapes-after}
use Rattle.markdown_model_laws.proofs.ReadingsInverted.{Went, bind-back, provided-back, gives-back}
use Rattle.markdown_model_laws.proofs.LinkTextsFound.{enclosed-back, enclosed-found, marked-found}
use Rattle.markdown_model_laws.proofs.RawDestinationsFound.{bare_from, bare-from, RawFrom, raw-reads, raw-found}

opening-from : (text : List Code) → opening text ≡ bare_from 40 false text
opening-from text = bare-from 40 false [] text refl

closing-from : (text : List Code) → closing text ≡ bare_from 41 false text
closing-from text = bare-from 41 false [] text refl

to-raw : (max : ℕ) (text rest : List Code) → is_empty text ≡ false → next_is (is_value 60) text ≡ false →
    RawFrom max false 0 text rest → IsRaw max text rest
to-raw max text rest some first r = grind (arith, opening-from, closing-from, escapes-after)

of-raw : (max : ℕ) (text rest : List Code) → IsRaw max text rest → RawFrom max false 0 text rest
of-raw max text rest i = grind (arith, opening-from, closing-from, escapes-after)

-- the next code of a text is that of the codes from it on
next-first : (p : Code → Bool) (text rest : List Code) → is_empty text ≡ false →
    next_is p (text ++ rest) ≡ next_is p text
next-first p [] rest e = cc
next-first p (c ∷ text) rest e = refl

module _ (max : ℕ) (names : DestinationNames) where
  raw-back : (cs : List Code) (tree : Forest) (rest : List Code) → next_is (is_value 60) cs ≡ false →
      raw_destination max names cs ≡ Some (tree, rest) → Raw max names cs tree rest
  unfolding raw_destination
  raw-back cs tree rest h e =
      let w : Went (raw_from max false 0) _ cs (tree, rest) = bind-back (raw_from max false 0) _ cs (tree, rest) e in
      let p : (not (is_empty w.value) ≡ true) × (gives (raw_tree_of names w.value) w.after ≡ Some (tree, rest)) = provided-back _ _ w.after (tree, rest) w.second in
      let g : (tree ≡ raw_tree_of names w.value) × (w.after ≡ rest) = gives-back _ tree w.after rest p.1 in
      let whole : cs ≡ w.value ++ w.after = read-codes itself (raw_from max false 0) (takes_raw max) cs w.after w.value w.first in
      let some : is_empty w.value ≡ false = not-true (is_empty w.value) p.0 in
      let first : next_is (is_value 60) w.value ≡ false = sym (next-first (is_value 60) w.value w.after some) ∙ ap (next_is (is_value 60)) (sym whole) ∙ h in
      record {
        text = w.value;
        stands = whole ∙ ap (λ xs. w.value ++ xs) g.1;
        is = subst (λ xs. IsRaw max w.value xs) g.1 (to-raw max w.value w.after some first (raw-reads max cs false 0 (w.value, w.after) (omega arith) w.first));
        tree_is = g.0;
      }

  raw-some : (text rest : List Code) → IsRaw max text rest →
      raw_destination max names (text ++ rest) ≡ Some (raw_tree_of names text, rest)
  unfolding raw_destination gives
  raw-some text rest i =
      bind-some _ _ (text ++ rest) text rest _ (raw-found max text rest false 0 (of-raw max text rest i))
      (after-some _ _ rest [] rest _ (provided-true _ rest (ap not i.some)) refl)

  at-bracket : (cs : List Code) → next_is (is_value 60) cs ≡ true →
      destination max names cs ≡ literal_destination names cs
  unfolding destination
  at-bracket cs e = if-here (is_value 60) (literal_destination names) (raw_destination max names) cs e

  at-other : (cs : List Code) → next_is (is_value 60) cs ≡ false →
      destination max names cs ≡ raw_destination max names cs
  unfolding destination
  at-other cs e = if-other (is_value 60) (literal_destination names) (raw_destination max names) cs e

  pub destination-back : (cs : List Code) (tree : Forest) (rest : List Code) →
      destination max names cs ≡ Some (tree, rest) → IsDestination max names cs tree rest
  destination-back cs tree rest e = grind (arith, enclosed-back, at-bracket, raw-back, at-other)

  pub destination-found : (cs : List Code) (tree : Forest) (rest : List Code) → IsDestination max names cs tree rest →
      destination max names cs ≡ Some (tree, rest)
  destination-found cs tree rest h0 = grind (arith, at-bracket, marked-found, enclosed-found, at-other, next-first, raw-some)

pub destinations_are_found : DestinationsAreFound
destinations_are_found max names = record {
  found = λ cs tree rest. (destination-back max names cs tree rest, destination-found max names cs tree rest);
  covers = λ cs tree rest m. read-codes leaf_codes (destination max names) (covers_destination max names) cs rest tree (destination-found max names cs tree rest m);
}
