-- A container that begins with a line takes a code of it at least, so that the number of steps suffices.
use Rattle.std.proofs.Common.{◌≡◌, ℕ, zero, suc, ◌+◌, ◌<◌, ◌≤◌, refl, ap, List, [], ◌∷◌, length, drop, length-drop, Bool, true, false, not, ◌&&◌, ◌||◌, ◌==◌, nat_lt, Option, Some, None, if◌then◌else◌, arith}
use Rattle.std.specs.Str.{byte}
use Rattle.markdown_content.specs.Codes.{Code, is_blank}
use Rattle.markdown_model.specs.CodeTests.{is_value, is_between, next_is, is_digit}
use Rattle.markdown_model.specs.Grammar.{span}
use Rattle.markdown_block_model.specs.LineRests.{indent, trimmed, is_blank_line, past_blank, skip, first_value, only_if}
use Rattle.markdown_block_model.specs.BlockTree.{Extensions, Marker, bullet, ordered, Container, item, footnote, Leaf, thematic_break, indented_code, Tree, nothing, and_container}
use Rattle.markdown_block_model.specs.LeafStarts.{is_break, heading_at, fence_at}
use Rattle.markdown_block_model.specs.HtmlStarts.{html_at}
use Rattle.markdown_block_model.specs.ContainerStarts.{onto_label, ends_label, label_from, is_closed_label, footnote_at, in_quote, quote_at, number_from, or_else, marker_at, padding, may_begin, item_by, item_at}
use Rattle.markdown_block_model.specs.BlockStarts.{Begun, leaf_begins, container_begins, leaf_begun, container_begun, first_of, begun, with_found, with_rest}
use Rattle.markdown_block_model.specs.BlockLaws.{StepsSuffice}

-- fewer codes than this are left for a container
abbrev Leaves : ℕ → Option (Container × List Code) → Type 0
Leaves n None = Unit {0}
Leaves n (Some r) = length r.1 < n

abbrev pub LeavesFewer : ℕ → Option Begun → Type 0
LeavesFewer n None = Unit {0}
LeavesFewer n (Some (leaf_begins l)) = Unit {0}
LeavesFewer n (Some (container_begins c rest)) = length rest < n

past-le : (cs : List Code) → length (past_blank cs) ≤ length cs
past-le [] = omega arith
past-le (c ∷ cs) = by_test (is_blank c)
  where
    by_test : (b : Bool) → length (if b then cs else c ∷ cs) ≤ suc (length cs)
    by_test true = omega arith
    by_test false = omega arith

skip-le : (n : ℕ) (cs : List Code) → length (skip n cs) ≤ length cs
skip-le zero cs = omega arith
skip-le (suc n) cs = omega (arith, skip-le n (past_blank cs), past-le cs)

span-le : (p : Code → Bool) (cs : List Code) → length (span p cs).1 ≤ length cs
span-le p [] = omega arith
span-le p (c ∷ cs) = by_test (p c) (span-le p cs)
  where
    by_test : (b : Bool) → length (span p cs).1 ≤ length cs
        → length (elim b as (λ _. List Code × List Code) [ true ↦ (c ∷ (span p cs).0, (span p cs).1) | false ↦ ([], c ∷ cs) ]).1 ≤ suc (length cs)
    by_test true h = omega (arith, h)
    by_test false h = omega arith

drop-shorter : (j : ℕ) (c : Code) (cs : List Code) → 1 ≤ j → length (drop j (c ∷ cs)) ≤ length cs
drop-shorter zero c cs h = absurd (omega (arith, h))
drop-shorter (suc i) c cs h = let e = length-drop i cs in omega (arith, e)

-- Quotes.

quote-leaves : (n : ℕ) (near : Bool) (t : List Code) → length t ≤ n → Leaves n (in_quote (only_if (near && next_is (is_value (byte ">")) t) (skip 1 (drop 1 t))))
quote-leaves n true [] h = tt
quote-leaves n false [] h = tt
quote-leaves n near (c ∷ t) h = by_test (near && is_value (byte ">") c)
  where
    by_test : (b : Bool) → Leaves n (in_quote (only_if b (past_blank t)))
    by_test true = omega (arith, past-le t, h)
    by_test false = tt

-- Items.

abbrev IsLong : Option (Marker × ℕ) → Type 0
IsLong None = Unit {0}
IsLong (Some m) = 1 ≤ m.1

markers-long : (is_bullet is_number : Bool) (m k : Marker) (n : ℕ) → IsLong (or_else (only_if is_bullet (m, 1)) (only_if is_number (k, n + 1)))
markers-long true is_number m k n = omega arith
markers-long false true m k n = omega arith
markers-long false false m k n = tt

marker-long : (cs : List Code) → IsLong (marker_at cs)
marker-long cs =
    markers-long (first_value cs == byte "-" || (first_value cs == byte "+" || first_value cs == byte "*"))
    (is_between 1 9 (length (span is_digit cs).0) && (first_value (span is_digit cs).1 == byte "." || first_value (span is_digit cs).1 == byte ")"))
    (bullet (first_value cs)) (ordered (first_value (span is_digit cs).1) (number_from 0 (span is_digit cs).0)) (length (span is_digit cs).0)

item-leaves : (n : ℕ) (in_paragraph : Bool) (columns : ℕ) (c : Code) (t : List Code) (m : Option (Marker × ℕ)) → IsLong m → suc (length t) ≤ n
    → Leaves n (item_by in_paragraph columns (c ∷ t) m)
item-leaves n in_paragraph columns c t None long h = tt
item-leaves n in_paragraph columns c t (Some m) long h = by_test (may_begin in_paragraph m.0 after)
  where
    after : List Code
    after = drop m.1 (c ∷ t)

    by_test : (b : Bool) → Leaves n (only_if b (item m.0 (columns + m.1 + padding after), skip (padding after) after))
    by_test true = omega (arith, skip-le (padding after) after, drop-shorter m.1 c t long, h)
    by_test false = tt

items-leave : (n : ℕ) (in_paragraph : Bool) (columns : ℕ) (t : List Code) → length t ≤ n → Leaves n (item_at in_paragraph columns t)
items-leave n in_paragraph columns [] h = tt
items-leave n in_paragraph columns (c ∷ t) h = item-leaves n in_paragraph columns c t (marker_at (c ∷ t)) (marker-long (c ∷ t)) h

-- Footnote definitions.

label-le : (taken : Bool) (cs : List Code) → length (label_from taken cs).1 ≤ length cs
label-le taken [] = omega arith
label-le taken (c ∷ cs) = by_test (ends_label taken c) (label-le next cs)
  where
    next : Bool
    next = not taken && is_value (byte "\\") c

    by_test : (b : Bool) → length (label_from next cs).1 ≤ length cs → length (if b then ([], c ∷ cs) else onto_label c (label_from next cs)).1 ≤ suc (length cs)
    by_test true h = omega arith
    by_test false h = omega (arith, h)

footnote-leaves : (n : ℕ) (t : List Code) → length t ≤ n → Leaves n (footnote_at t)
footnote-leaves n [] h = tt
footnote-leaves n (c ∷ t) h =
    by_test ((next_is (is_value (byte "[")) (c ∷ t) && next_is (is_value (byte "^")) t) && is_closed_label found)
  where
    found : List Code × List Code
    found = label_from false (drop 1 t)

    by_test : (b : Bool) → Leaves n (only_if b (footnote found.0, trimmed (drop 2 found.1)))
    by_test true =
        omega (arith, span-le is_blank (drop 2 found.1), length-drop 2 found.1, label-le false (drop 1 t), length-drop 1 t, h)
    by_test false = tt

footnotes-leave : (n : ℕ) (b : Bool) (t : List Code) → length t ≤ n → Leaves n (if b then footnote_at t else None)
footnotes-leave n true t h = footnote-leaves n t h
footnotes-leave n false t h = tt

-- All that begins.

of-container : (n : ℕ) (o : Option (Container × List Code)) → Leaves n o → LeavesFewer n (container_begun o)
of-container n None h = tt
of-container n (Some r) h = h

of-leaf : (n : ℕ) (o : Option Leaf) → LeavesFewer n (leaf_begun o)
of-leaf n None = tt
of-leaf n (Some l) = tt

of-first : (n : ℕ) (o : Option Begun) (os : List (Option Begun)) → LeavesFewer n o → LeavesFewer n (first_of os) → LeavesFewer n (first_of (o ∷ os))
of-first n None os h k = k
of-first n (Some b) os h k = h

of-either : (n : ℕ) (b : Bool) (o p : Option Begun) → LeavesFewer n o → LeavesFewer n p → LeavesFewer n (if b then o else p)
of-either n true o p h k = h
of-either n false o p h k = k

pub begun-leaves : (e : Extensions) → (in_paragraph after_text : Bool) (cs : List Code) → LeavesFewer (length cs) (begun e in_paragraph after_text cs)
begun-leaves e in_paragraph after_text cs =
    let n = length cs in
    let behind = span-le is_blank cs in
    of-either n (nat_lt (indent cs) 4) _ _
    (of-first n _ _ (of-container n (quote_at cs) (quote-leaves n (nat_lt (indent cs) 4) (trimmed cs) behind))
    (of-first n _ _ (of-leaf n (heading_at (trimmed cs)))
    (of-first n _ _ (of-leaf n (fence_at e (indent cs) (trimmed cs)))
    (of-first n _ _ (of-leaf n (html_at after_text cs))
    (of-first n _ _ (of-leaf n (only_if (is_break (trimmed cs)) thematic_break))
    (of-first n _ _ (of-container n (if e.footnotes then footnote_at (trimmed cs) else None) (footnotes-leave n e.footnotes (trimmed cs) behind))
    (of-first n _ [] (of-container n (item_at in_paragraph (indent cs) (trimmed cs)) (items-leave n in_paragraph (indent cs) (trimmed cs) behind)) tt)))))))
    (of-either n (after_text || is_blank_line cs) None (Some (leaf_begins (indented_code (skip 4 cs ∷ [])))) tt tt)

-- Enough steps.

same-found : (e : Extensions) → (n m : ℕ) (cs : List Code) (s : Tree) → ((rest : List Code) → length rest < n → length rest < m → with_rest e n rest nothing ≡ with_rest e m rest nothing)
    → (o : Option Begun) → LeavesFewer (length cs) o → length cs < suc n → length cs < suc m
    → with_found (λ rest. with_rest e n rest nothing) cs s o ≡ with_found (λ rest. with_rest e m rest nothing) cs s o
same-found e n m cs s same None f h k = refl
same-found e n m cs s same (Some (leaf_begins l)) f h k = refl
same-found e n m cs s same (Some (container_begins c rest)) f h k = ap (and_container s c) (same rest (omega (arith, f, h)) (omega (arith, f, k)))

pub same-rest : (e : Extensions) → (n m : ℕ) (cs : List Code) (s : Tree) → length cs < n → length cs < m → with_rest e n cs s ≡ with_rest e m cs s
same-rest e zero m cs s h k = absurd (omega (arith, h))
same-rest e (suc n) zero cs s h k = absurd (omega (arith, k))
same-rest e (suc n) (suc m) cs s h k =
    same-found e n m cs s (λ rest. same-rest e n m rest nothing) (begun e false false cs) (begun-leaves e false false cs) h k

pub steps_suffice : StepsSuffice
steps_suffice e n cs siblings h = same-rest e n (suc (length cs)) cs siblings h (omega arith)
