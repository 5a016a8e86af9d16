-- The data of a content's tree is part of the document.
use Rattle.std.proofs.Common.{◌≡◌, ◌≢◌, ℕ, true, false, List, [], ◌++◌, None, refl, sym, ◌∙◌, append-nil, arith}
use Rattle.std.specs.List.{list_any}
use Rattle.markdown_content.specs.Codes.{Code, is_line_ending}
use Rattle.markdown_content.specs.Content.{IsContent, content_of}
use Rattle.markdown_content.specs.Tree.{Forest, empty, leaf_then, group_then, leaf_codes}
use Rattle.markdown_event.specs.declared.event.Name.{Name}
use Rattle.markdown_event.specs.declared.event.Name.TheVariants as N
use Rattle.markdown_content.specs.declared.parser.Piece.{Piece}
use Rattle.markdown_model.specs.Passes.{data_onto, merged}
use Rattle.markdown_run_text.specs.CutData.{HasCodes}
use Rattle.markdown_passes.specs.MergedEvents.{HasData, is_data}
use Rattle.markdown_passes.specs.TrimmedEvents.{AreDocumentCodes, HasParts}
use Rattle.markdown_run_text.specs.RowTreeNames.{HasRowLines}
use Rattle.markdown_innermost.specs.OneLineLeaves.{makes_data, IsIn}
use Rattle.markdown_model.proofs.OneLineReadings.{line-join, some-join}
use Rattle.markdown_innermost.proofs.LinesAreInDocument.{both-in, line-ends, part-of-content}

-- Trees over a content.

data-makes : (n : Name) → is_data n ≡ true → makes_data n ≡ true
data-makes N.Data e = refl
data-makes _ e = cc

module _ (bytes : List ℕ) (all : List Code)
    (part : (xs : List Code) → xs ≢ [] → list_any is_line_ending xs ≡ false → IsIn xs all → AreDocumentCodes bytes xs) where
  parts-row : (t : Forest) (before after : List Code) → all ≡ before ++ (leaf_codes t ++ after) → HasRowLines t →
      HasParts bytes t
  parts-row empty before after e h = tt
  parts-row (leaf_then name link cs rest) before after e h = grind (arith, both-in, data-makes, parts-row rest (before ++ cs) after)
  parts-row (group_then name enter exit inside rest) before after e h = grind (arith, both-in, parts-row inside before (leaf_codes rest ++ after), parts-row rest (before ++ leaf_codes inside) after)

-- the data of a tree over a content is part of the document
pub parts-of : (bytes : List ℕ) (pieces : List Piece) (t : Forest) → IsContent bytes pieces →
    leaf_codes t ≡ content_of bytes pieces → HasRowLines t → HasParts bytes t
parts-of bytes pieces t content e h =
    parts-row bytes (content_of bytes pieces) (λ xs some none k. part-of-content bytes pieces xs content.in_order some (line-ends xs none) k) t [] [] (sym e ∙ sym (append-nil (leaf_codes t))) h

-- Merging.

lines-onto : (cs : List Code) (f : Forest) → cs ≢ [] → list_any is_line_ending cs ≡ false → HasRowLines f →
    HasRowLines (data_onto cs f)
lines-onto cs rest some none h = grind (arith, some-join, line-join)

pub HasLines-merged : (t : Forest) → HasRowLines t → HasRowLines (merged t)
unfolding merged
HasLines-merged empty h = tt
HasLines-merged (leaf_then N.Data None cs rest) h = grind (arith, lines-onto, HasLines-merged rest)
HasLines-merged (leaf_then name link cs rest) h = (h.0, HasLines-merged rest h.1)
HasLines-merged (group_then name enter exit inside rest) h = grind (arith, HasLines-merged inside, HasLines-merged rest)

pub HasLines-HasData : (t : Forest) → HasRowLines t → HasData t
HasLines-HasData empty h = tt
HasLines-HasData (leaf_then name link cs rest) h = (λ e l. (h.0 (data-makes name e) l).0, HasLines-HasData rest h.1)
HasLines-HasData (group_then name enter exit inside rest) h = grind (arith, HasLines-HasData inside, HasLines-HasData rest)

pub HasLines-HasCodes : (t : Forest) → HasRowLines t → HasCodes t
HasLines-HasCodes empty h = tt
HasLines-HasCodes (leaf_then name link cs rest) h = (λ e l. (h.0 (data-makes name e) l).0, HasLines-HasCodes rest h.1)
HasLines-HasCodes (group_then name enter exit inside rest) h = grind (arith, HasLines-HasCodes inside, HasLines-HasCodes rest)
