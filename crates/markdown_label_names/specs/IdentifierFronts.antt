-- What identifiers that begin alike say of one another: by the front of a label alone it may be known that the label is not defined.
use Rattle.std.specs.Prelude.{◌≡◌, ◌≤◌, ℕ, Bool, false, ◌==◌, ◌&&◌, ◌||◌, not, List, Some, None, IsUtf8}
use Rattle.std.specs.List.{list_any, starts_with}
use Rattle.std.specs.Str.{IsCharBoundary}
use Rattle.markdown_notes.specs.BracketIndex.{counted, has_brackets}
use Rattle.markdown_notes.specs.declared.name_index.Names.{Names}
use Rattle.markdown_content.specs.declared.label_kind.LabelKind.{LabelKind}
use Rattle.markdown_model.specs.LabelEnd.{is_footnote, with_caret}
use Rattle.markdown_model.specs.Setting.{Setting, is_defined}

-- both ends of a part of a text stand between characters
pub record AreCuts (bs : List ℕ) (from to : ℕ) : Type 0 where
  pub text : IsUtf8 bs
  pub in_order : from ≤ to
  pub first : IsCharBoundary bs from
  pub last : IsCharBoundary bs to

-- one of these begins so
abbrev pub begins_one : List (List ℕ) → List ℕ → Bool
begins_one definitions front = list_any (λ definition. starts_with (◌==◌) definition front) definitions

-- what a label of this kind may stand for begins so
abbrev pub begins_defined : Setting → LabelKind → List ℕ → Bool
begins_defined s kind front = (is_footnote kind && begins_one s.footnotes front) || begins_one s.definitions (with_caret kind front)

-- it is known that none of these names that a label of this kind, from an index of the document to another, may stand for has as many
-- opening brackets as that part of the document
abbrev pub lacks_count : Names → LabelKind → ℕ → ℕ → Bool
lacks_count names kind from to =
    elim (counted names.brackets from to) [ None ↦ false | Some n ↦ not ((is_footnote kind && has_brackets n names.footnotes) || has_brackets n names.definitions) ]

-- nothing is defined that a label of this kind with this identifier may stand for
pub record IsUnknown (s : Setting) (kind : LabelKind) (name : List ℕ) : Type 0 where
  pub call : is_footnote kind && is_defined s.footnotes name ≡ false
  pub link : is_defined s.definitions (with_caret kind name) ≡ false
