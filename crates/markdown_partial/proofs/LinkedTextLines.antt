-- The lines of a text, and the operations that pass their leaves.
use Rattle.std.proofs.Common.{◌≡◌, ◌≢◌, ◌&&◌, ◌||◌, not, Bool, true, false, List, [], ◌∷◌, ◌++◌, refl, sym, ap, subst, ◌∙◌, append_assoc}
use Rattle.std.proofs.lemmas.Bool.{not_from_false}
use Rattle.markdown_content.specs.Codes.{Code, is_line_ending, is_blank}
use Rattle.markdown_engine.specs.Operations.{Enter, Exit, Consume}
use Rattle.markdown_content.specs.Tree.{Forest, leaf_then, leaf, ◌⊕◌}
use Rattle.markdown_engine.specs.TreeOps.{consumes}
use Rattle.markdown_event.specs.declared.event.Name.{Name}
use Rattle.markdown_event.specs.declared.event.Name.TheVariants as N
use Rattle.markdown_model.specs.CodeTests.{next_is}
use Rattle.markdown_model.specs.Grammar.{span}
use Rattle.markdown_model.specs.TextLines.{joins, lines_of, linked_leaf, line_leaf, lines_from, lines}
use Rattle.markdown_model.specs.Resource.{StringNames, string_group, between_markers}
use Rattle.markdown_plan.proofs.FirstStretch.{stretch-span}
use Rattle.markdown_model.proofs.OneLineReadings.{some-join}
use Rattle.markdown_model.proofs.ReadingsCover.{codes-lines}
use Rattle.markdown_partial.specs.LinkedTreeOps.{enter_op, linked_ops, IsLinkedInOrder}
use Rattle.markdown_partial.specs.LinkedText.{string, enter_text, break_ops, line_of, inside_ops}
use Rattle.markdown_partial.proofs.LinkedTreeLemmas.{CoversRow, Row-leaf, Row-last, Row-string, Row-whole}
use Rattle.markdown_model.proofs.DefinitionSteps.{lines_of-ending}
use Rattle.markdown_model.proofs.GrammarSteps.{span-takes, span-none}

-- Stretches of a text.

abbrev goes_on : Code → Bool
goes_on c = not (is_line_ending c)

join-by : (a b : Bool) → not a ≡ true → not (a || b) && ((true && true) || not (true || true)) ≡ not b
join-by false false e = refl
join-by false true e = refl
join-by true b e = cc

join-is : (c d : Code) → goes_on c ≡ true → joins (λ x. true) c d ≡ goes_on d
join-is c d e = join-by (is_line_ending c) (is_line_ending d) e

-- the first line, from a code of it on
first-line : (c : Code) (text : List Code) → is_line_ending c ≡ false →
    lines_of (c ∷ text) ≡ (c ∷ (line_of text).0) ∷ lines_of (line_of text).1
first-line c text e = stretch-span (λ x. true) goes_on join-is c text (not_from_false (is_line_ending c) e)

line-leaf : (c : Code) (cs : List Code) → is_line_ending c ≡ false →
    line_leaf N.Data string (c ∷ cs) ≡ linked_leaf N.Data string (c ∷ cs)
line-leaf c cs e =
    ap (λ (b : Bool). let t : Forest = elim b [ true ↦ linked_leaf N.LineEnding string (c ∷ cs) | false ↦ linked_leaf N.Data string (c ∷ cs) ] in t) e

ending-leaf : (c : Code) (cs : List Code) → is_line_ending c ≡ true →
    line_leaf N.Data string (c ∷ cs) ≡ linked_leaf N.LineEnding string (c ∷ cs)
ending-leaf c cs e =
    ap (λ (b : Bool). let t : Forest = elim b [ true ↦ linked_leaf N.LineEnding string (c ∷ cs) | false ↦ linked_leaf N.Data string (c ∷ cs) ] in t) e

-- the tree of a line and of those behind it
pub lines-data : (c : Code) (text : List Code) → is_line_ending c ≡ false →
    lines N.Data string (c ∷ text) ≡ linked_leaf N.Data string (c ∷ (line_of text).0) ⊕ lines N.Data string (line_of text).1
lines-data c text e =
    ap (lines_from N.Data string false) (first-line c text e)
    ∙ ap (λ t. t ⊕ lines_from N.Data string (is_line_ending c) (lines_of (line_of text).1)) (line-leaf c (line_of text).0 e)
    ∙ ap (λ b. linked_leaf N.Data string (c ∷ (line_of text).0) ⊕ lines_from N.Data string b (lines_of (line_of text).1)) e

lines-ended : (c : Code) (text : List Code) → is_line_ending c ≡ true →
    lines N.Data string (c ∷ text) ≡ linked_leaf N.LineEnding string (c ∷ []) ⊕ lines_from N.Data string true (lines_of text)
lines-ended c text e =
    ap (lines_from N.Data string false) (lines_of-ending c text e)
    ∙ ap (λ t. t ⊕ lines_from N.Data string (is_line_ending c) (lines_of text)) (ending-leaf c [] e)
    ∙ ap (λ b. linked_leaf N.LineEnding string (c ∷ []) ⊕ lines_from N.Data string b (lines_of text)) e

-- A text of which a code that is blank or a line ending does not begin.

abbrev pub BeginsWithText : List Code → Type 0
BeginsWithText [] = Unit {0}
BeginsWithText (c ∷ cs) = (is_line_ending c ≡ false) × (is_blank c ≡ false)

abbrev pub AreBlank : List Code → Type 0
AreBlank [] = Unit {0}
AreBlank (c ∷ cs) = ((is_blank c ≡ true) × (is_line_ending c ≡ false)) × AreBlank cs

span-over : (p : Code → Bool) (c : Code) (cs xs ys : List Code) → p c ≡ true → span p cs ≡ (xs, ys) →
    span p (c ∷ cs) ≡ (c ∷ xs, ys)
span-over p c cs xs ys e h = span-takes p c cs e ∙ ap (λ (s : List Code × List Code). (c ∷ s.0, s.1)) h

blank-line : (ws text : List Code) → AreBlank ws → line_of (ws ++ text) ≡ (ws ++ (line_of text).0, (line_of text).1)
blank-line [] text k = refl
blank-line (w ∷ ws) text k =
    span-over goes_on w (ws ++ text) (ws ++ (line_of text).0) (line_of text).1 (not_from_false (is_line_ending w) k.0.1) (blank-line ws text k.1)

line-begins : (text : List Code) → BeginsWithText text → BeginsWithText (line_of text).0
line-begins [] k = tt
line-begins (c ∷ text) k =
    subst (λ (s : List Code × List Code). BeginsWithText s.0) (sym (span-takes goes_on c text (not_from_false (is_line_ending c) k.0))) k

blank-span : (ws text : List Code) → AreBlank ws → BeginsWithText text → span is_blank (ws ++ text) ≡ (ws, text)
blank-span [] [] k b = refl
blank-span [] (c ∷ text) k b = span-none is_blank (c ∷ text) b.1
blank-span (w ∷ ws) text k b = span-over is_blank w (ws ++ text) ws text k.0.0 (blank-span ws text k.1 b)

-- on a later line the blank codes in front are a leaf of their own
abbrev later_line : List Code → List (List Code) → Forest
later_line s ss =
    linked_leaf N.SpaceOrTab string (span is_blank s).0 ⊕ linked_leaf N.Data string (span is_blank s).1 ⊕ lines_from N.Data string false ss

later-by : (c : Code) (cs : List Code) (ss : List (List Code)) → is_line_ending c ≡ false →
    lines_from N.Data string true ((c ∷ cs) ∷ ss) ≡ later_line (c ∷ cs) ss
later-by c cs ss e =
    ap (λ (b : Bool). let t : Forest = elim (not b) [ true ↦ later_line (c ∷ cs) ss | false ↦ line_leaf N.Data string (c ∷ cs) ⊕ lines_from N.Data string b ss ] in t) e

indented-first : (c : Code) (cs : List Code) (ys : List Code) → is_line_ending c ≡ false → (ws text : List Code) →
    AreBlank ws → BeginsWithText text → c ∷ cs ≡ ws ++ text →
    later_line (c ∷ cs) (lines_of ys) ≡ linked_leaf N.SpaceOrTab string ws ⊕ linked_leaf N.Data string text ⊕ lines N.Data string ys
indented-first c cs ys e ws text k b same =
    ap (λ xs. later_line xs (lines_of ys)) same ∙ ap (λ (s : List Code × List Code). linked_leaf N.SpaceOrTab string s.0 ⊕ linked_leaf N.Data string s.1 ⊕ lines_from N.Data string false (lines_of ys)) (blank-span ws text k b)

-- a text that begins so is data up to its first line ending
data-first : (text : List Code) → BeginsWithText text →
    linked_leaf N.Data string (line_of text).0 ⊕ lines N.Data string (line_of text).1 ≡ lines N.Data string text
data-first [] b = refl
data-first (c ∷ text) b =
    ap (λ (s : List Code × List Code). linked_leaf N.Data string s.0 ⊕ lines N.Data string s.1) (span-takes goes_on c text (not_from_false (is_line_ending c) b.0))
    ∙ sym (lines-data c text b.0)

later-lines : (ws text : List Code) → AreBlank ws → BeginsWithText text →
    lines_from N.Data string true (lines_of (ws ++ text)) ≡ linked_leaf N.SpaceOrTab string ws ⊕ lines N.Data string text
later-lines [] [] k b = refl
later-lines [] (c ∷ text) k b =
    ap (lines_from N.Data string true) (first-line c text b.0)
    ∙ later-by c (line_of text).0 (lines_of (line_of text).1) b.0
    ∙ indented-first c (line_of text).0 (line_of text).1 b.0 [] (c ∷ (line_of text).0) tt b refl
    ∙ sym (lines-data c text b.0)
later-lines (w ∷ ws) text k b =
    let t : List Code × List Code = line_of text in
    ap (lines_from N.Data string true) (first-line w (ws ++ text) k.0.1)
    ∙ ap (λ (s : List Code × List Code). lines_from N.Data string true ((w ∷ s.0) ∷ lines_of s.1)) (blank-line ws text k.1)
    ∙ later-by w (ws ++ t.0) (lines_of t.1) k.0.1
    ∙ indented-first w (ws ++ t.0) t.1 k.0.1 (w ∷ ws) t.0 k (line-begins text b) refl
    ∙ ap (λ u. linked_leaf N.SpaceOrTab string (w ∷ ws) ⊕ u) (data-first text b)

-- Operations.

pub leaf-ops : (n : Name) (ws : List Code) (u : Forest) →
    linked_ops true (linked_leaf n string ws ⊕ u) ≡ linked_ops true (linked_leaf n string ws) ++ linked_ops true u
leaf-ops n [] u = refl
leaf-ops n (w ∷ ws) u =
    ap (λ os. enter_op true n string ∷ Consume ∷ os) (sym (append_assoc (consumes ws) (Exit n ∷ []) (linked_ops true u)))

-- data begins
pub break-data : (connect : Bool) (c : Code) (text : List Code) → is_line_ending c ≡ false →
    break_ops connect (c ∷ text) ≡ (enter_text connect ∷ Consume ∷ []) ++ inside_ops text
break-data connect c text e = ap (linked_ops connect) (lines-data c text e)

-- the leaves of a line ending and the blank codes behind it
abbrev pub ending_leaves : Code → List Code → Forest
ending_leaves c ws = linked_leaf N.LineEnding string (c ∷ []) ⊕ linked_leaf N.SpaceOrTab string ws

pub break-ending : (connect : Bool) (c : Code) (ws text : List Code) → is_line_ending c ≡ true → AreBlank ws →
    BeginsWithText text → break_ops connect (c ∷ ws ++ text) ≡ linked_ops connect (ending_leaves c ws) ++ break_ops true text
break-ending connect c ws text e k b =
    ap (linked_ops connect) (lines-ended c (ws ++ text) e ∙ ap (λ u. linked_leaf N.LineEnding string (c ∷ []) ⊕ u) (later-lines ws text k b))
    ∙ ap (λ os. enter_op connect N.LineEnding string ∷ Consume ∷ Exit N.LineEnding ∷ os) (leaf-ops N.SpaceOrTab ws (lines N.Data string text))

-- in data
pub inside-more : (c : Code) (text : List Code) → is_line_ending c ≡ false →
    inside_ops (c ∷ text) ≡ (Consume ∷ []) ++ inside_ops text
inside-more c text e =
    ap (λ (s : List Code × List Code). consumes s.0 ++ Exit N.Data ∷ break_ops true s.1) (span-takes goes_on c text (not_from_false (is_line_ending c) e))

-- a text that does not go on on the line
abbrev pub IsLineEnded : List Code → Type 0
IsLineEnded [] = Unit {0}
IsLineEnded (c ∷ cs) = is_line_ending c ≡ true

pub inside-end : (text : List Code) → IsLineEnded text → inside_ops text ≡ (Exit N.Data ∷ []) ++ break_ops true text
inside-end [] k = refl
inside-end (c ∷ text) k =
    ap (λ (s : List Code × List Code). consumes s.0 ++ Exit N.Data ∷ break_ops true s.1) (span-none goes_on (c ∷ text) (ap not k))

-- The group of a text.

lines-some : (c : Code) (text : List Code) (b : Bool) → is_line_ending c ≡ b →
    (n : Name) × ((more : List Code) × ((u : Forest) × (lines N.Data string (c ∷ text) ≡ leaf_then n string (c ∷ more) u)))
lines-some c text true e = (N.LineEnding, ([], (lines_from N.Data string true (lines_of text), lines-ended c text e)))
lines-some c text false e = (N.Data, ((line_of text).0, (lines N.Data string (line_of text).1, lines-data c text e)))

group-ops : (name n : Name) (c : Code) (more : List Code) (t u v : Forest) → t ≡ leaf_then n string (c ∷ more) u →
    linked_ops false (string_group name t ⊕ v) ≡ Enter name ∷ (linked_ops false t ++ Exit name ∷ linked_ops false v)
group-ops name n c more t u v e =
    subst (λ (x : Forest). linked_ops false (string_group name x ⊕ v) ≡ Enter name ∷ (linked_ops false x ++ Exit name ∷ linked_ops false v)) (sym e) refl

pub text-group : (name : Name) (c : Code) (text : List Code) (v : Forest) →
    linked_ops false (string_group name (lines N.Data string (c ∷ text)) ⊕ v) ≡ Enter name ∷ (break_ops false (c ∷ text) ++ Exit name ∷ linked_ops false v)
text-group name c text v =
    let x = lines-some c text (is_line_ending c) refl in
    group-ops name x.0 c x.1.0 (lines N.Data string (c ∷ text)) x.1.1.0 v x.1.1.1

-- The leaves are a row.

row-leaf : (linked : Bool) (n : Name) (ws : List Code) (u : Forest) → ((b : Bool) → IsLinkedInOrder b u) →
    IsLinkedInOrder linked (linked_leaf n string ws ⊕ u)
row-leaf linked n [] u k = k linked
row-leaf linked n (w ∷ ws) u k = (λ e. refl, (λ e. cc, k true))

row-line : (linked b : Bool) (s : List Code) (u : Forest) → next_is is_line_ending s ≡ b → ((x : Bool) → IsLinkedInOrder x u) →
    IsLinkedInOrder linked (line_leaf N.Data string s ⊕ u)
row-line linked true s u e k =
    subst (λ (b : Bool). let t : Forest = elim b [ true ↦ linked_leaf N.LineEnding string s | false ↦ linked_leaf N.Data string s ] in IsLinkedInOrder linked (t ⊕ u)) (sym e) (row-leaf linked N.LineEnding s u k)
row-line linked false s u e k =
    subst (λ (b : Bool). let t : Forest = elim b [ true ↦ linked_leaf N.LineEnding string s | false ↦ linked_leaf N.Data string s ] in IsLinkedInOrder linked (t ⊕ u)) (sym e) (row-leaf linked N.Data s u k)

row-stretch : (linked b : Bool) (s : List Code) (x y : Forest) → ((c : Bool) → IsLinkedInOrder c x) → ((c : Bool) → IsLinkedInOrder c y) →
    IsLinkedInOrder linked (elim b as (λ _. Forest) [ true ↦ x | false ↦ y ])
row-stretch linked true s x y h k = h linked
row-stretch linked false s x y h k = k linked

row-lines : (linked later : Bool) (ss : List (List Code)) → IsLinkedInOrder linked (lines_from N.Data string later ss)
row-lines linked later [] = tt
row-lines linked later (s ∷ ss) =
    row-stretch linked (later && not (next_is is_line_ending s)) s _ _
    (λ b. row-leaf b N.SpaceOrTab (span is_blank s).0 _ (λ c. row-leaf c N.Data (span is_blank s).1 _ (λ d. row-lines d false ss)))
    (λ b. row-line b (next_is is_line_ending s) s _ refl (λ c. row-lines c (next_is is_line_ending s) ss))

pub Row-ending : (connect : Bool) (c : Code) (ws : List Code) → IsLinkedInOrder connect (ending_leaves c ws)
Row-ending connect c ws = (λ e. refl, (λ e. cc, row-last true ws)) where
  row-last : (b : Bool) (xs : List Code) → IsLinkedInOrder b (linked_leaf N.SpaceOrTab string xs)
  row-last b [] = tt
  row-last b (x ∷ xs) = (λ e. refl, (λ e. cc, tt))

pub Row-lines : (text xs : List Code) → text ≡ xs → CoversRow (lines N.Data string text) xs
Row-lines text xs e = (row-lines false false (lines_of text), codes-lines N.Data string text ∙ e)

-- a text between its markers
pub between-linked : (names : StringNames) (front text back : List Code) → front ≢ [] →
    IsLinkedInOrder false (between_markers names front text back)
between-linked names front text back some =
    let row : Forest = string_group names.text (lines N.Data string text) ⊕ leaf names.marker back in
    let all : List Code = front ++ (text ++ (back ++ [])) in
    (Row-whole names.whole all (leaf names.marker front ⊕ row) (some-join front (text ++ (back ++ [])) some)
    (Row-leaf names.marker front front (text ++ (back ++ [])) row refl
    (Row-string names.text text (back ++ []) (lines N.Data string text) (leaf names.marker back) (Row-lines text text refl) (Row-last names.marker back back refl)))).0
