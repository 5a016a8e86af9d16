-- Data with a leaf for each line, and data with a leaf for each code, are cut alike.
use Rattle.std.proofs.Common.{◌≡◌, true, None, List, [], ◌∷◌, refl, arith}
use Rattle.markdown_content.specs.Codes.{Code}
use Rattle.markdown_content.specs.Tree.{Forest, ◌⊕◌}
use Rattle.markdown_event.specs.declared.event.Name.TheVariants as N
use Rattle.markdown_model.specs.TextLines.{line_leaf, line_leaves, lines_of, onto_stretch, code_leaf}
use Rattle.markdown_model.proofs.StringTreeIsElements.{code_leaves}
use Rattle.markdown_run_text.specs.CutData.{split}
use Rattle.markdown_run_text.proofs.CutDataLemmas.{split-join}

alone : (c : Code) (more : Forest) → split (line_leaf N.Data None (c ∷ []) ⊕ more) ≡ split (code_leaf c ⊕ more)
alone c more = grind arith

-- one more code before the stretches
onto-cut : (c : Code) (ss : List (List Code)) →
    split (line_leaves N.Data (onto_stretch (λ x. true) c ss)) ≡ split (code_leaf c ⊕ line_leaves N.Data ss)
onto-cut c ss = grind (arith, alone)

pub lines-cut : (cs : List Code) → split (line_leaves N.Data (lines_of cs)) ≡ split (code_leaves cs)
lines-cut [] = refl
lines-cut (c ∷ cs) = grind (arith, onto-cut, split-join, lines-cut cs)
