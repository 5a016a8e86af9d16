-- The search of a name in a text of lines, by halving: the lines that are left, and what they say of the name.
use Rattle.std.proofs.Common.{◌≡◌, ◌∙◌, sym, ap, refl, ℕ, ◌+◌, ◌<◌, true, List, [], ◌∷◌, ◌++◌, length, Some, None, arith}
use Rattle.std.specs.Cmp.Lexicographic.{slice_cmp}
use Rattle.std.specs.List.{list_all}
use Rattle.std.specs.Ordering.{nat_cmp}
use Rattle.std.specs.declared.cmp.Ordering.TheVariants.{Less, Equal, Greater}
use Rattle.std.proofs.lemmas.Bool.{and_parts}
use Rattle.std.proofs.lemmas.Cmp.{nat_list_cmp_total}
use Rattle.std.proofs.lemmas.List.{append_assoc, length-append}
use Rattle.std.proofs.lemmas.List.Folds.{list_all-append}
use Rattle.markdown_util.specs.Reference.{Table, named_value, is_sorted}
use Rattle.markdown_util.specs.TableText.{line_text, table_text, is_parted, IsSortedText, IsLineOf}
use Rattle.markdown_util.proofs.SortedTable.{sorted-front, sorted-back, at-row, before-row, behind-row, equal-same}

-- lines that say of the name what the table does
pub record IsLeft (table : Table) (name lines : List ℕ) : Type 0 where
  pub rows : Table
  pub text : IsSortedText rows lines
  pub same : named_value rows name ≡ named_value table name

text-joined : (low high : Table) → table_text (low ++ high) ≡ table_text low ++ table_text high
text-joined [] high = refl
text-joined (row ∷ low) high =
    ap (λ t. line_text row ++ t) (text-joined low high) ∙ sym (append_assoc (line_text row) (table_text low) (table_text high))

pub none-left : {table : Table} {name lines : List ℕ} (left : IsLeft table name lines) → left.rows ≡ [] → None ≡ named_value table name
none-left {table} {name} left e = sym (ap (λ t. named_value t name) e) ∙ left.same

module _ {table : Table} {name lines before here text behind : List ℕ} (left : IsLeft table name lines)
    (line : IsLineOf left.rows before here text behind) where
  abbrev row : List ℕ × List ℕ
  row = (here, text)

  sorted : is_sorted (line.low ++ (row ∷ line.high)) ≡ true
  sorted = ap is_sorted (sym line.is) ∙ left.text.sorted

  parted : (list_all is_parted line.low ≡ true) × (list_all is_parted (row ∷ line.high) ≡ true)
  parted = grind (arith, and_parts, list_all-append)

  named : named_value (line.low ++ (row ∷ line.high)) name ≡ named_value table name
  named = ap (λ t. named_value t name) (sym line.is) ∙ left.same

  size : length lines ≡ length before + (length (line_text row) + length behind)
  size = grind (arith, text-joined, length-append)

  pub found : Equal ≡ slice_cmp nat_cmp here name → Some text ≡ named_value table name
  found e =
      let same = equal-same here name (sym e) in
      sym (at-row line.low line.high here text sorted) ∙ ap (named_value (line.low ++ (row ∷ line.high))) same ∙ named

  pub left-behind : Less ≡ slice_cmp nat_cmp here name → IsLeft table name behind
  left-behind e = grind (arith, parted, and_parts, sorted, sorted-back, behind-row, named)

  pub left-before : Greater ≡ slice_cmp nat_cmp here name → IsLeft table name before
  left-before e = grind (arith, nat_list_cmp_total, parted, sorted, sorted-front, before-row, named)

  pub behind-shorter : length behind < length lines
  behind-shorter = omega (arith, size, length-append here (59 ∷ (text ++ (32 ∷ []))))

  pub before-shorter : length before < length lines
  before-shorter = omega (arith, size, length-append here (59 ∷ (text ++ (32 ∷ []))))
