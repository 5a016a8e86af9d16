-- An escape that is at the place is read; where none is, none is read.
use Rattle.std.proofs.Common.{◌≡◌, ◌&&◌, ◌||◌, ◌==◌, Bool, true, false, List, [], ◌∷◌, ◌++◌, None, Some, refl, sym, ap, ◌∙◌, arith}
use Rattle.std.specs.Prelude.{codes}
use Rattle.std.proofs.Math.Bool.{and-false, or-false}
use Rattle.markdown_content.specs.Codes.{Code}
use Rattle.markdown_content.specs.Place.{Place, ahead_at, code_at, moved}
use Rattle.markdown_content.specs.Tree.{Forest, leaf_codes}
use Rattle.markdown_content.proofs.PlaceRules.{ahead_moved, code_at_ahead, code_at_end}
use Rattle.markdown_engine.specs.Operations.{ahead, done}
use Rattle.markdown_engine.specs.PastTree.{Reads, TreeReading}
use Rattle.markdown_engine.specs.TreeOps.{IsSolid, ops_of}
use Rattle.markdown_engine.specs.declared.tokenizer.Tokenizer.{Tokenizer}
use Rattle.markdown_engine.proofs.ReadingSequences.{scratched-same}
use Rattle.markdown_engine.proofs.SolidTrees.{IsSolid-group, IsSolid-leaf, IsSolid-row}
use Rattle.markdown_engine.proofs.TreeEvents.{ahead-past, ops-past}
use Rattle.markdown_leaf.specs.CharacterEscape.{is_on, is_punctuation, opening, value}
use Rattle.markdown_model.specs.CodeTests.{is_ascii_punctuation, is_value}
use Rattle.markdown_model.specs.Grammar.{gives}
use Rattle.markdown_model.specs.LeafConstructs.{character_escape, escape_tree}
use Rattle.markdown_model.specs.SingleConstructs.{character_escape_here}
use Rattle.markdown_model.proofs.GrammarSteps.{and-left, and-right, bind-none, bind-some, one-here, one-not, one-other, switched-off, switched-on}
use Rattle.markdown_partial.specs.PartialData.{is_some_mark}
use Rattle.markdown_run_text.specs.PlacesPassed.{begins_escape, escapes_here, is_some_punctuation}
use Rattle.markdown_run_text.specs.ReaderEnds.{options_here}

-- a solid tree that is read, with its operations
pub solid-reads : (r : TreeReading) (tree : Forest) (rest : List Code) (T U : Tokenizer) → IsSolid tree → r (ahead T) ≡ Some (tree, rest) →
    ahead T ≡ leaf_codes tree ++ rest → U ≡ done (ops_of tree) T → Reads r None T.tokenize_state T U
solid-reads r tree rest T U solid reads whole e = grind (arith, ops-past, scratched-same, ahead-past)

escape-solid : (c d : Code) → IsSolid (escape_tree (c ∷ []) (d ∷ []))
escape-solid c d = grind (arith, IsSolid-group, IsSolid-row, IsSolid-leaf)

escape-codes : (c d : Code) (cs : List Code) → is_value 92 c ≡ true → is_ascii_punctuation d ≡ true →
    character_escape (c ∷ d ∷ cs) ≡ Some (escape_tree (c ∷ []) (d ∷ []), cs)
unfolding character_escape gives
escape-codes c d cs h k =
    bind-some _ _ _ _ _ _ (one-here (is_value 92) c (d ∷ cs) h) (bind-some _ _ _ _ _ _ (one-here is_ascii_punctuation d cs k) refl)

-- the test of a place, by its codes
test-two : (p : Place) (c d : Code) (cs : List Code) → ahead_at p ≡ c ∷ d ∷ cs →
    begins_escape p ≡ (((c.value == 92) || false) && is_punctuation d.value)
test-two p c d cs e = grind (arith, code_at_ahead p c (d ∷ cs), code_at_ahead (moved p) d cs, ahead_moved p c (d ∷ cs))

test-one : (p : Place) (c : Code) → ahead_at p ≡ c ∷ [] → begins_escape p ≡ false
test-one p c e = grind (arith, code_at_end, ahead_moved, and-false)

test-none : (p : Place) → ahead_at p ≡ [] → begins_escape p ≡ false
test-none p e = ap (λ o. is_some_mark (codes "\\") o && is_some_punctuation (code_at (moved p))) (code_at_end p e)

clash : {A : Type 0} → (b : Bool) → b ≡ true → b ≡ false → A
clash b h k = grind arith

module _ (T U : Tokenizer) (here : escapes_here T ≡ true) (appended : U ≡ done (opening ++ value) T) where
  reads-from : (cs : List Code) → ahead T ≡ cs → Reads (character_escape_here (options_here T)) None T.tokenize_state T U
  reads-from [] e = clash (begins_escape T.cursor) (and-right (is_on T) (begins_escape T.cursor) here) (test-none T.cursor e)
  reads-from (c ∷ []) e =
      clash (begins_escape T.cursor) (and-right (is_on T) (begins_escape T.cursor) here) (test-one T.cursor c e)
  reads-from (c ∷ d ∷ cs) e =
      let test : (((c.value == 92) || false) && is_punctuation d.value) ≡ true = sym (test-two T.cursor c d cs e) ∙ and-right (is_on T) (begins_escape T.cursor) here in
      let slash : (c.value == 92) ≡ true = sym (or-false (c.value == 92)) ∙ and-left ((c.value == 92) || false) (is_punctuation d.value) test in
      let mark : is_ascii_punctuation d ≡ true = and-right ((c.value == 92) || false) (is_punctuation d.value) test in
      solid-reads (character_escape_here (options_here T)) (escape_tree (c ∷ []) (d ∷ [])) cs T U (escape-solid c d)
      (ap (character_escape_here (options_here T)) e
      ∙ switched-on character_escape (is_on T) (c ∷ d ∷ cs) (and-left (is_on T) (begins_escape T.cursor) here) ∙ escape-codes c d cs slash mark)
      e appended

  pub escape-reads : Reads (character_escape_here (options_here T)) None T.tokenize_state T U
  escape-reads = reads-from (ahead T) refl

-- where none is at the place
none-from : (cs : List Code) (p : Place) → ahead_at p ≡ cs → begins_escape p ≡ false → character_escape cs ≡ None
unfolding character_escape
none-from [] p e h = bind-none _ _ _ (one-not (is_value 92) [] refl)
none-from (c ∷ []) p e h = by_slash (c.value == 92) refl
  where
    by_slash : (b : Bool) → (c.value == 92) ≡ b → character_escape (c ∷ []) ≡ None
    by_slash false k = bind-none _ _ _ (one-other (is_value 92) c [] k)
    by_slash true k =
        bind-some _ _ _ _ _ _ (one-here (is_value 92) c [] k) (bind-none _ _ _ (one-not is_ascii_punctuation [] refl))
none-from (c ∷ d ∷ cs) p e h = by_slash (c.value == 92) refl
  where
    by_slash : (b : Bool) → (c.value == 92) ≡ b → character_escape (c ∷ d ∷ cs) ≡ None
    by_slash false k = bind-none _ _ _ (one-other (is_value 92) c (d ∷ cs) k)
    by_slash true k =
        let other : is_ascii_punctuation d ≡ false = ap (λ b. (b || false) && is_punctuation d.value) (sym k) ∙ sym (test-two p c d cs e) ∙ h in
        bind-some _ _ _ _ _ _ (one-here (is_value 92) c (d ∷ cs) k) (bind-none _ _ _ (one-other is_ascii_punctuation d cs other))

pub no-escape : (T : Tokenizer) → escapes_here T ≡ false → character_escape_here (options_here T) (ahead T) ≡ None
no-escape T h = grind (arith, switched-off, switched-on, none-from)
