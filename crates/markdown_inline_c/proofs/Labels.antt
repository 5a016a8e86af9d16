-- The identifiers of labels, one after another.
use Rattle.std.proofs.Common.{◌≡◌, ◌∙◌, sym, ap, subst, ℕ, ◌+◌, ◌<◌, ◌≤◌, Bool, List, [], ◌∷◌, ◌++◌, get_or, length, map, take, string_bytes}
use Rattle.std.specs.List.{All}
use Rattle.std.proofs.lemmas.List.{map-append, take_more, take_all}
use Rattle.std.proofs.lemmas.List.Elements.{All-more}
use Rattle.std.specs.declared.alloc.Global.{Global}
use Rattle.std.specs.declared.string.String.{String}
use Rattle.markdown_util.specs.Identifier.{identifier_by}
use Rattle.markdown_inline_c.specs.FlatInput.{range_bytes, identifiers, IsLabelRange}
use Rattle.markdown_inline_c.specs.declared.flat.Range.{Range}

-- what is found are the identifiers of the labels at the first ranges, which are labels
pub record LabelsAreRead (replaced : Bool) (labels : List ℕ) (ranges : List Range) (found : List (String Global)) (i : ℕ) : Type 0 where
  pub read : map string_bytes found ≡ identifiers replaced labels (take i ranges)
  pub are_labels : All (IsLabelRange labels) (take i ranges)

pub one_more : (replaced : Bool) (labels : List ℕ) (ranges : List Range) (i : ℕ) (d : Range) (found more : List (String Global))
    → i < length ranges → LabelsAreRead replaced labels ranges found i → IsLabelRange labels (get_or ranges i d)
    → map string_bytes more ≡ map string_bytes found ++ identifier_by replaced (range_bytes labels (get_or ranges i d)) ∷ []
    → LabelsAreRead replaced labels ranges more (i + 1)
one_more replaced labels ranges i d found more h so_far is_label e =
    let f : Range → List ℕ = λ r. identifier_by replaced (range_bytes labels r) in
    record {
      read =
          e
          ∙ ap (λ xs. xs ++ f (get_or ranges i d) ∷ []) so_far.read
          ∙ sym (map-append f (take i ranges) (get_or ranges i d ∷ []))
          ∙ ap (map f) (sym (take_more ranges i d h));
      are_labels = All-more (IsLabelRange labels) ranges i d h so_far.are_labels is_label;
    }

pub all_read : (replaced : Bool) (labels : List ℕ) (ranges : List Range) (found : List (String Global)) (i : ℕ)
    → length ranges ≤ i → LabelsAreRead replaced labels ranges found i → (map string_bytes found ≡ identifiers replaced labels ranges) × All (IsLabelRange labels) ranges
all_read replaced labels ranges found i h read =
    let e : take i ranges ≡ ranges = take_all i ranges h in
    (read.read ∙ ap (identifiers replaced labels) e, subst (λ (x : List Range). All (IsLabelRange labels) x) e read.are_labels)
