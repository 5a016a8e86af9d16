-- What is true of the trees of a row is true of its grouped tree; and the codes of both.
use Rattle.std.proofs.Common.{◌≡◌, ℕ, zero, suc, Bool, true, false, Some, None, List, [], ◌∷◌, ◌++◌, drop, length, refl, sym, ap, ◌∙◌, append_assoc, append-nil, arith}
use Rattle.markdown_run_text.proofs.PairsLeaveNoEmptyData.{has-join, has-leaf}
use Rattle.std.proofs.lemmas.Bool.{or_parts, both_ways}
use Rattle.std.specs.List.{list_any}
use Rattle.markdown_content.specs.Codes.{Code, is_line_ending, stop_of, document_start}
use Rattle.markdown_content.specs.Tree.{Forest, empty, leaf_then, group_then, leaf, ◌⊕◌, group, text_group, start_of, enter_of, exit_after, leaf_codes}
use Rattle.markdown_event.specs.declared.event.Name.{Name}
use Rattle.markdown_event.specs.declared.event.Name.TheVariants as N
use Rattle.markdown_event.specs.declared.event.Point.{Point}
use Rattle.markdown_content.specs.declared.label_kind.LabelKind.{LabelKind}
use Rattle.markdown_content.proofs.TreeCodes.{leaf_codes-row}
use Rattle.markdown_attention.specs.RunsRead.{is_run}
use Rattle.markdown_run_text.specs.CutData.{HasCodes}
use Rattle.markdown_label.specs.Brackets.{grouped}
use Rattle.markdown_model.specs.LabelEnd.{Element, plain, starts, ends}
use Rattle.markdown_model.specs.Passes.{End, label_group, label_name, start_marker, start_tree, labels_of}
use Rattle.markdown_model.specs.CodeLines.{IsLine}
use Rattle.markdown_model.proofs.LabelsCover.{codes-label_group}
use Rattle.markdown_model.proofs.LeafCodes.{codes-leaf}
use Rattle.markdown_passes.specs.DataOnLines as DataOnLines
use Rattle.markdown_passes.specs.MergedEvents.{is_data}
use Rattle.markdown_passes.specs.TrimmedEvents.{is_ending}
use Rattle.markdown_innermost.specs.OneLineLeaves.{makes_data}
use Rattle.markdown_run_text.specs.RowTreeNames.{HasRowLines, IsRunless}
use Rattle.markdown_run_text.specs.Row.{Mark, begins, makes, loses, Row, row_end, row_then, mark_codes, row_codes, row_has_run, kinds_past, IsMarkAt, IsRowAt, HaveCodes}
use Rattle.markdown_run_text.specs.OpenStarts.{brackets_of}
use Rattle.markdown_run_text.proofs.PastTrees.{outer-runless, leaf-runless}
use Rattle.markdown_run_text.proofs.RowJoins.{HasLines-row}
use Rattle.markdown_run_text.proofs.OpenStartTrees.{OpenTrees, outside, within, whole, put_row, made_row, lost_row, marked_row, filled, AreMarksAt, marks-of, IsFor, for-put, not-made, for-marked, grouped-filled}
use Rattle.markdown_run_text.proofs.RowElements.{whole-put, FoundLabels, wrapped, opened, read, word_of, finish, labels-read}

-- Names that are neither of data nor of runs nor of line endings.
abbrev pub is_plain : Name → Bool
is_plain N.Data = false
is_plain N.AttentionSequence = false
is_plain N.LineEnding = false
is_plain _ = true

-- a fact on trees that rows and the groups of labels keep, where what is data has codes that are fit
pub record IsKeptByRows (P : Forest → Type 0) (Fit : List Code → Type 0) : Type 0 where
  pub nil : P empty
  pub row : (t u : Forest) → P t → P u → P (t ⊕ u)
  pub some_data : (cs : List Code) → Fit cs → P (leaf N.Data cs)
  pub fewer : (n : ℕ) (cs : List Code) → Fit cs → Fit (drop n cs)
  pub one_leaf : (n : Name) (cs : List Code) → is_plain n ≡ true → P (leaf n cs)
  pub one_group : (n : Name) (p q : Point) (x : Forest) → is_plain n ≡ true → P x → P (group_then n p q x empty)

module _ (P : Forest → Type 0) (Fit : List Code → Type 0) (k : IsKeptByRows P Fit) where
  grouped-kept : (n : Name) (x : Forest) → is_plain n ≡ true → P x → P (group n x)
  grouped-kept n x e h = k.one_group n (enter_of x) (exit_after (enter_of x) x) x e h

  start-kept : (kind : LabelKind) (cs : List Code) → P (start_tree kind cs)
  start-kept kind cs = grind (arith, grouped-kept)

  name-plain : (kind : LabelKind) → is_plain (label_name kind) ≡ true
  name-plain kind = grind arith

  pub label-kept : (kind : LabelKind) (marker : List Code) (inside : Forest) (back : List Code) (tail : Forest) →
      Fit marker → P inside → P tail → P (label_group kind marker inside back tail)
  label-kept kind marker inside back tail fit h t =
      let front : List Code = start_marker kind marker in
      let caret : Forest = leaf N.Data (drop (length front) marker) in
      let text : Forest = text_group N.LabelText (stop_of document_start front) (start_of back) (caret ⊕ inside) in
      let end : Forest = group N.LabelEnd (leaf N.LabelMarker back) in
      let texts : P text = k.one_group N.LabelText _ _ (caret ⊕ inside) refl (k.row caret inside (k.some_data _ (k.fewer (length front) marker fit)) h) in
      let ends : P end = grouped-kept N.LabelEnd _ refl (k.one_leaf N.LabelMarker back refl) in
      let label : P (start_tree kind front ⊕ (text ⊕ end)) = k.row (start_tree kind front) (text ⊕ end) (start-kept kind front) (k.row text end texts ends) in
      grouped-kept (label_name kind) _ (name-plain kind) (k.row (group N.Label (start_tree kind front ⊕ (text ⊕ end))) tail (grouped-kept N.Label _ refl label) t)

  -- Rows.

  abbrev IsKeptIn : OpenTrees → Type 0
  IsKeptIn (outside u) = P u
  IsKeptIn (within o m x) = IsKeptIn o × (Fit m × P x)

  whole-kept : (o : OpenTrees) → IsKeptIn o → P (whole o)
  whole-kept (outside u) h = h
  whole-kept (within o m x) h = grind (arith, whole-kept o)

  put-kept : (t : Forest) (o : OpenTrees) → P t → IsKeptIn o → IsKeptIn (put_row t o)
  put-kept t o h i = grind arith

  abbrev pub IsMarkKept : Mark → Type 0
  IsMarkKept (begins kind marker) = Fit marker
  IsMarkKept (makes back kind tail) = P tail
  IsMarkKept loses = Unit {0}

  abbrev pub IsRowKept : Row → Type 0
  IsRowKept (row_end t) = P t
  IsRowKept (row_then t mark rest) = P t × (IsMarkKept mark × IsRowKept rest)

  marked-kept : (mark : Mark) (o : OpenTrees) → IsMarkKept mark → IsKeptIn o → IsKeptIn (marked_row mark o)
  marked-kept (begins kind marker) o h i = (i, (h, k.nil))
  marked-kept (makes back kind tail) (outside u) h i = i
  marked-kept (makes back kind tail) (within o m x) h i = grind (arith, put-kept, label-kept)
  marked-kept loses (outside u) h i = i
  marked-kept loses (within o m x) h i = grind (arith, put-kept)

  filled-kept : (row : Row) (o : OpenTrees) → IsRowKept row → IsKeptIn o → IsKeptIn (filled row o)
  filled-kept (row_end t) o h i = put-kept t o h i
  filled-kept (row_then t mark rest) o h i = grind (arith, marked-kept, put-kept, filled-kept rest (marked_row mark (put_row t o)))

  pub row-kept : (row : Row) → AreMarksAt [] row → IsRowKept row → P (grouped (brackets_of row))
  row-kept row at h = grind (arith, grouped-filled, whole-kept, filled-kept)

-- Data on single lines.

plain-data : (n : Name) → is_plain n ≡ true → makes_data n ≡ false
plain-data N.Data e = cc
plain-data N.AttentionSequence e = cc
plain-data _ e = refl

plain-not_data : (n : Name) → is_plain n ≡ true → is_data n ≡ false
plain-not_data N.Data e = cc
plain-not_data _ e = refl

plain-not_ending : (n : Name) → is_plain n ≡ true → is_ending n ≡ false
plain-not_ending n e = grind arith

plain-not_run : (n : Name) → is_plain n ≡ true → is_run n ≡ false
plain-not_run n e = grind arith

line-fewer : (n : ℕ) (cs : List Code) → IsLine cs → IsLine (drop n cs)
line-fewer zero cs h = h
line-fewer (suc n) [] h = refl
line-fewer (suc n) (c ∷ cs) h = line-fewer n cs (or_parts (is_line_ending c) (list_any is_line_ending cs) h).1

line-data : (cs : List Code) → IsLine cs → HasRowLines (leaf N.Data cs)
line-data cs h = grind arith

line-leaf : (n : Name) (cs : List Code) → is_plain n ≡ true → HasRowLines (leaf n cs)
line-leaf n cs e = grind (arith, both_ways, plain-data)

lines-kept : IsKeptByRows HasRowLines IsLine
lines-kept = grind (arith, HasLines-row, line-data, line-fewer, line-leaf, plain-not_data, plain-not_ending)

leaf-lines : (n : Name) → is_run n ≡ false → makes_data n ≡ true → is_data n ≡ true
leaf-lines N.Data e f = refl
leaf-lines N.AttentionSequence e f = cc
leaf-lines _ e f = cc

-- what follows a label
tail-lines : (t : Forest) → DataOnLines.HasLines t → IsRunless t → HasRowLines t
tail-lines empty h r = tt
tail-lines (leaf_then n l cs rest) h r = ((λ e f. h.0 (leaf-lines n r.0 e) f), tail-lines rest h.1 r.1)
tail-lines (group_then n a b inside rest) h r = (h.0, (tail-lines inside h.1.0 r.0, tail-lines rest h.1.1 r.1))

row-lines : (ks : List LabelKind) (row : Row) → IsRowAt ks row → IsRowKept HasRowLines IsLine lines-kept row
row-lines ks (row_end t) h = h.lines
row-lines ks (row_then t mark rest) h = grind (arith, lines-kept, tail-lines, row-lines (kinds_past mark ks) rest)

pub grouped-lines : (row : Row) → IsRowAt [] row → HasRowLines (grouped (brackets_of row))
grouped-lines row at = row-kept HasRowLines IsLine lines-kept row (marks-of [] row at) (row-lines [] row at)

-- No runs.

abbrev IsAny : List Code → Type 0
IsAny cs = Unit {0}

runless-row : (t u : Forest) → IsRunless t → IsRunless u → IsRunless (t ⊕ u)
runless-row empty u h k = k
runless-row (leaf_then n l cs rest) u h k = (h.0, runless-row rest u h.1 k)
runless-row (group_then n a b inside rest) u h k = (h.0, runless-row rest u h.1 k)

runless-kept : IsKeptByRows IsRunless IsAny
runless-kept = grind (arith, runless-row, leaf-runless, plain-not_run)

row-runless : (ks : List LabelKind) (row : Row) → IsRowAt ks row → row_has_run row ≡ false →
    IsRowKept IsRunless IsAny runless-kept row
row-runless ks (row_end t) h e = outer-runless t h.outer e
row-runless ks (row_then t mark rest) h e = grind (arith, or_parts, outer-runless, runless-kept, row-runless (kinds_past mark ks) rest)

pub grouped-runless : (row : Row) → IsRowAt [] row → row_has_run row ≡ false → IsRunless (grouped (brackets_of row))
grouped-runless row at e = row-kept IsRunless IsAny runless-kept row (marks-of [] row at) (row-runless [] row at e)

-- Codes.

abbrev codes_in : OpenTrees → List Code
codes_in o = leaf_codes (whole o)

codes-put : (t : Forest) (o : OpenTrees) → codes_in (put_row t o) ≡ codes_in o ++ leaf_codes t
codes-put t o = ap leaf_codes (whole-put t o) ∙ leaf_codes-row (whole o) t

codes-within : (o : OpenTrees) (m : List Code) (x : Forest) → codes_in (within o m x) ≡ codes_in o ++ (m ++ leaf_codes x)
codes-within o m x = grind (arith, leaf_codes-row, codes-leaf)

codes-made : (back : List Code) (kind : LabelKind) (tail : Forest) (o : OpenTrees) (m : List Code) (x : Forest)
    → codes_in (made_row back kind tail (within o m x)) ≡ codes_in (within o m x) ++ (back ++ leaf_codes tail)
codes-made back kind tail o m x =
    codes-put (label_group kind m x back tail) o
    ∙ ap (λ cs. codes_in o ++ cs) (codes-label_group kind m x back tail ∙ sym (append_assoc m (leaf_codes x) (back ++ leaf_codes tail)))
    ∙ sym (append_assoc (codes_in o) (m ++ leaf_codes x) (back ++ leaf_codes tail))
    ∙ ap (λ cs. cs ++ (back ++ leaf_codes tail)) (sym (codes-within o m x))

codes-lost : (o : OpenTrees) → codes_in (lost_row o) ≡ codes_in o
codes-lost o = grind (arith, whole-put)

codes-marked : (ks : List LabelKind) (mark : Mark) (o : OpenTrees) → IsMarkAt ks mark → IsFor ks o →
    codes_in (marked_row mark o) ≡ codes_in o ++ mark_codes mark
codes-marked ks (begins kind marker) o at h = grind (arith, codes-within)
codes-marked [] (makes back kind tail) o at h = absurd (not-made back kind tail at)
codes-marked (k ∷ ks) (makes back kind tail) (outside u) at h = absurd h
codes-marked (k ∷ ks) (makes back kind tail) (within o m x) at h = codes-made back kind tail o m x
codes-marked ks loses o at h = codes-lost o ∙ sym (append-nil (codes_in o))

codes-filled : (ks : List LabelKind) (row : Row) (o : OpenTrees) → AreMarksAt ks row → IsFor ks o →
    codes_in (filled row o) ≡ codes_in o ++ row_codes row
codes-filled ks (row_end t) o at h = codes-put t o
codes-filled ks (row_then t mark rest) o at h =
    let p : OpenTrees = put_row t o in
    codes-filled (kinds_past mark ks) rest (marked_row mark p) at.1 (for-marked ks mark p at.0 (for-put ks t o h))
    ∙ ap (λ cs. cs ++ row_codes rest) (codes-marked ks mark p at.0 (for-put ks t o h) ∙ ap (λ cs. cs ++ mark_codes mark) (codes-put t o))
    ∙ append_assoc (codes_in o ++ leaf_codes t) (mark_codes mark) (row_codes rest)
    ∙ append_assoc (codes_in o) (leaf_codes t) (mark_codes mark ++ row_codes rest)

pub grouped-codes : (row : Row) → IsRowAt [] row → leaf_codes (grouped (brackets_of row)) ≡ row_codes row
grouped-codes row at = grind (arith, marks-of, grouped-filled, codes-filled)

-- No data without codes.

codes-kept : IsKeptByRows HasCodes IsAny
codes-kept = grind (arith, has-join, has-leaf)

abbrev HasEndCodes : End → Type 0
HasEndCodes (back, None) = Unit {0}
HasEndCodes (back, Some outcome) = HasCodes outcome.1

abbrev HaveEndCodes : List (End × Forest) → Type 0
HaveEndCodes [] = Unit {0}
HaveEndCodes (c ∷ more) = HasEndCodes c.0 × (HasCodes c.1 × HaveEndCodes more)

abbrev HasFoundCodes : FoundLabels → Type 0
HasFoundCodes r = HasCodes r.0 × HaveEndCodes r.1

wrapped-codes : (m : List Code) (x : Forest) (end : End) → HasCodes x → HasEndCodes end → HasCodes (wrapped m x end)
wrapped-codes m x end h k = grind (arith, has-join, has-leaf, label-kept, codes-kept)

opened-codes : (m : List Code) (x : Forest) (more : List (End × Forest)) → HasCodes x → HaveEndCodes more →
    HasFoundCodes (opened m x more)
opened-codes m x more h k = grind (arith, has-join, has-leaf, wrapped-codes)

read-codes : (es : List Element) → HaveCodes es → HasFoundCodes (read (word_of es))
read-codes [] h = (tt, tt)
read-codes (plain t ∷ es) h = let r = read-codes es h.1 in (has-join t (read (word_of es)).0 h.0 r.0, r.1)
read-codes (starts kind marker ∷ es) h = grind (arith, opened-codes, read-codes es)
read-codes (ends back None ∷ es) h = let r = read-codes es h.1 in (tt, (tt, (r.0, r.1)))
read-codes (ends back (Some outcome) ∷ es) h = let r = read-codes es h.1 in (tt, (h.0, (r.0, r.1)))

finish-codes : (more : List (End × Forest)) → HaveEndCodes more → HasCodes (finish more)
finish-codes [] h = tt
finish-codes (c ∷ more) h = grind (arith, has-join, has-leaf, finish-codes more)

-- no data of the tree of labels is empty where none of the elements is
pub codes-labels : (es : List Element) → HaveCodes es → HasCodes (labels_of es)
codes-labels es h = grind (arith, read-codes, labels-read, has-join, finish-codes)
