-- What the passes keep holds of the inline trees.
use Rattle.std.proofs.Common.{Bool, true, false, List, arith}
use Rattle.markdown_content.specs.Codes.{Code}
use Rattle.markdown_content.specs.Tree.{Forest}
use Rattle.markdown_model.specs.Elements.{elements_of, string_elements_of}
use Rattle.markdown_model.specs.InlineTree.{raw_tree, finished_text, finished_string, text_tree, string_tree, paired_whole}
use Rattle.markdown_model.specs.Pairs.{pair_list}
use Rattle.markdown_model.specs.Passes.{no_breaks, HardBreaks, breaks, merged, trimmed, with_emails_apart, labels_of}
use Rattle.markdown_model.specs.Setting.{Setting, rules}

-- the tree of a text before pairing, before merging, and before emails are set apart
abbrev pub labels_in : Setting → List Code → Forest
labels_in s cs = labels_of (elements_of s cs)

abbrev pub pairs_in : Setting → List Code → Forest
pairs_in s cs = paired_whole s (pair_list s) (labels_in s cs)

abbrev pub unmailed : Setting → List Code → Forest
unmailed s cs = trimmed (breaks s) true true (merged (pairs_in s cs))

-- what holds of it, and of what it is with emails apart, holds of the text's tree
pub text-has : (P : Forest → Type 0) (s : Setting) (cs : List Code) → P (with_emails_apart (unmailed s cs)) → P (unmailed s cs) → P (text_tree s cs)
unfolding text_tree finished_text raw_tree
text-has P s cs apart whole = grind arith

-- The passes behind the pairing keep it.
pub record IsKeptByPasses (P : Forest → Type 0) : Type 0 where
  pub merging : (t : Forest) → P t → P (merged t)
  pub trimming : (hard : HardBreaks) (front whole : Bool) (t : Forest) → P t → P (trimmed hard front whole t)
  pub mailing : (t : Forest) → P t → P (with_emails_apart t)

pub trees-have : (P : Forest → Type 0) → IsKeptByPasses P → (s : Setting) (cs : List Code) → P (pairs_in s cs)
    → P (labels_of (string_elements_of s cs)) → P (text_tree s cs) × P (string_tree s cs)
unfolding string_tree finished_string
trees-have P k s cs text string =
    (text-has P s cs (k.mailing (unmailed s cs) done) done, k.trimming (no_breaks (rules s)) false false (merged plain) (k.merging plain string))
  where
    plain : Forest
    plain = labels_of (string_elements_of s cs)

    done : P (unmailed s cs)
    done = k.trimming (breaks s) true true (merged (pairs_in s cs)) (k.merging (pairs_in s cs) text)
