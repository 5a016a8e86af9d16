-- Rows in which nothing is empty but the texts of labels.
use Rattle.std.proofs.Common.{◌≡◌, ℕ, Bool, true, false, ◌&&◌, ◌||◌, not, List, [], ◌∷◌, ◌++◌, refl, arith}
use Rattle.std.proofs.lemmas.Bool.{and_parts, not-true}
use Rattle.markdown_event.specs.declared.event.Name.{Name}
use Rattle.markdown_content.specs.Codes.{Code}
use Rattle.markdown_content.specs.Tree.{Forest, empty, leaf_then, group_then, leaf, ◌⊕◌, leaf_codes, enter_of, exit_after}
use Rattle.markdown_model.specs.CodeTests.{is_empty}
use Rattle.markdown_model.specs.BracketGroups.{assembled, tokens_of}
use Rattle.markdown_model.specs.Pairs.{Pair, pair_list}
use Rattle.markdown_model.specs.Passes.{is_nothing}
use Rattle.markdown_model.specs.Setting.{Setting}
use Rattle.markdown_model.proofs.PassesKeepCodes.{codes-assembled, codes-tokens_of}
use Rattle.markdown_model.proofs.PassedTrees.{HoldsByParts, walks-row}
use Rattle.markdown_model_laws.specs.EmailsInData.{is_email}
use Rattle.markdown_model_laws.specs.TreesFilled.{is_label_text, IsFilled}
use Rattle.markdown_model_laws.proofs.MadeConstructs.{is_at, is_single, reaches, made}

-- Rows.

pub filled-leaf : (name : Name) (cs : List Code) → IsFilled (leaf name cs)
filled-leaf name [] = tt
filled-leaf name (c ∷ cs) = (refl, tt)

pub filled : HoldsByParts IsFilled (λ name link cs. is_empty cs ≡ false) (λ name a b inside. is_nothing inside ≡ true → is_label_text name ≡ true)
filled = grind arith

pub filled-join : (a b : Forest) → IsFilled a → IsFilled b → IsFilled (a ⊕ b)
filled-join a b h k = walks-row filled a b h k

-- What labels make.

either-text : (a b c : Bool) → (a || (not b && c)) ≡ true → b ≡ true → a ≡ true
either-text a b c h k = grind arith

pub made-filled : (f : Forest) → made true f ≡ true → IsFilled f
made-filled empty h = tt
made-filled (leaf_then name link cs rest) h =
    let p = and_parts (not (is_empty cs)) (not (is_email name) && made true rest) h in
    (not-true (is_empty cs) p.0, made-filled rest (and_parts (not (is_email name)) (made true rest) p.1).1)
made-filled (group_then name enter exit inside rest) h =
    let p = and_parts (is_label_text name || reaches enter exit inside) (is_single name inside && (made true inside && made true rest)) h in
    let q = and_parts (is_single name inside) (made true inside && made true rest) p.1 in
    let r = and_parts (made true inside) (made true rest) q.1 in
    ((λ e. either-text (is_label_text name) (is_nothing inside) (is_at enter (enter_of inside) && is_at exit (exit_after (enter_of inside) inside)) p.0 e), made-filled inside r.0, made-filled rest r.1)

pub nothing-codes : (f : Forest) → is_nothing f ≡ true → leaf_codes f ≡ []
nothing-codes empty h = refl
nothing-codes f h = cc

some-codes : (cs ds : List Code) → is_empty cs ≡ false → cs ++ ds ≡ [] → ⊥
some-codes [] ds h e = cc
some-codes (c ∷ cs) ds h e = cc

module _ (s : Setting) where
  -- a row that is assembled is nothing only if it was
  pub nothing-assembled : (f : Forest) (pairs : List Pair) (n : ℕ) → IsFilled f →
      is_nothing (assembled (tokens_of s (pair_list s) f pairs n)) ≡ true → is_nothing f ≡ true
  unfolding tokens_of
  nothing-assembled f pairs n h0 h1 = grind (arith, some-codes, nothing-codes, codes-assembled, codes-tokens_of)
