-- The elements of a text that a run has found, some of which are read otherwise: they pair as the text's tree of labels does.
use Rattle.std.proofs.Common.{◌≡◌, ℕ, false, List, refl, sym, ap, subst, ◌∙◌, arith}
use Rattle.markdown_content.specs.Codes.{Code}
use Rattle.markdown_attention.specs.AttentionPass.{IsProbed}
use Rattle.markdown_attention.proofs.AttentionTreeLabels.{IsGood, IsElementRead}
use Rattle.markdown_attention.proofs.ElementsHaveMarkerRuns.{sound-elements}
use Rattle.markdown_attention.proofs.MarkerCodes.{AreSingles}
use Rattle.markdown_label.specs.Brackets.{grouped}
use Rattle.markdown_model.specs.Elements.{text_choice}
use Rattle.markdown_model.specs.InlineTree.{label_tree, paired_whole}
use Rattle.markdown_model.specs.Pairs.{pair_list}
use Rattle.markdown_model.specs.Passes.{labels_of}
use Rattle.markdown_model.specs.Setting.{Setting}
use Rattle.markdown_model.proofs.ElementCases.{AllAre}
use Rattle.markdown_run_text.specs.OpenStarts.{brackets_of}
use Rattle.markdown_run_text.specs.Row.{Row, row_has_run}
use Rattle.markdown_run_text.proofs.PairsAsRead.{good-read, paired-read, probed-read, read-runless}
use Rattle.markdown_run.proofs.MayPairOfCutData.{good-alike}
use Rattle.markdown_run.proofs.RowsWithoutRuns.{row-still}
use Rattle.markdown_run.proofs.TextTree.{text-labels, text-still}
use Rattle.markdown_run.proofs.WholeRun.{IsRowRead}
use Rattle.markdown_content.specs.Tree.{leaf_codes}
use Rattle.markdown_run_text.specs.ElementsAsRead.{Source}
use Rattle.markdown_attention.proofs.LabelTreeMayPair.{codes-tree}

module _ (s : Setting) (cs : List Code) (row : Row) (found : IsRowRead s.bytes (text_choice s cs) cs row) where
  -- the document and the codes of the content
  abbrev source : Source
  source = record { bytes = s.bytes; content = cs }

  -- the tree of the labels covers these codes
  whole : leaf_codes (labels_of found.elements) ≡ cs
  whole = ap leaf_codes (sym (text-labels s cs found.elements found.are)) ∙ codes-tree s cs

  -- where runs are not looked for none stands in the row
  pub found-still : s.options.constructs.attention ≡ false → s.options.constructs.gfm_strikethrough ≡ false → row_has_run row ≡ false
  found-still off none = grind (arith, text-still, read-runless, row-still)

  module _ (singles : AreSingles s.bytes cs) where
    sound : AllAre (IsElementRead s.bytes) found.elements
    sound = sound-elements s.bytes s cs found.elements singles found.are

    -- the runs of the row with its labels grouped are such as may be paired
    pub found-good : IsGood s.bytes (grouped (brackets_of row))
    found-good = grind (arith, good-alike, good-read, sound)

    -- what is read is paired as the elements are
    pub found-pairs : paired_whole s (pair_list s) (labels_of found.read) ≡ paired_whole s (pair_list s) (labels_of found.elements)
    found-pairs = paired-read source found.elements found.read found.read_as s refl sound whole

    -- looks within the bounds of what is read are within those of the content's tree of labels
    pub found-probed : (n : ℕ) → IsProbed s (labels_of found.read) n → IsProbed s (label_tree s cs) n
    found-probed n k =
        subst (λ t. IsProbed s t n) (sym (text-labels s cs found.elements found.are))
        (probed-read source found.elements found.read found.read_as s refl sound whole n k)
