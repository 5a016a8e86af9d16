-- what each step of a run changes: a tree is passed, a start opens, an end closes the last start, or fails
use Rattle.std.proofs.Common.{◌≡◌, ℕ, suc, ◌+◌, ◌-◌, List, [], ◌∷◌, ◌++◌, refl, sym, ap, ◌∙◌, arith, append_assoc}
use Rattle.markdown_engine.proofs.ReadingSequences.{row-empty}
use Rattle.std.proofs.lemmas.List.{append-nil}
use Rattle.markdown_content.specs.Codes.{Code}
use Rattle.markdown_content.specs.Tree.{Forest, empty, leaf, leaf_then, group_then, ◌⊕◌, event_count}
use Rattle.markdown_event.specs.declared.event.Name.{Name}
use Rattle.markdown_engine.specs.declared.tokenizer.Label.{Label}
use Rattle.markdown_model.specs.BracketGroups.{joined}
use Rattle.markdown_model.specs.Passes.{label_group}
use Rattle.markdown_label.specs.Brackets.{Front, codes_of, grouped, Tail, tail_row, start_row, end_row, kind_of, Brackets, nothing, tree_then, label_then, unused_then, failed_then, flat, IsApart, last_of, count, numbers_of, labels_at, unused_at, failed_at}
use Rattle.markdown_label.specs.BracketsJoined.{behind, IsClosed}

pub row-assoc : (t u v : Forest) → (t ⊕ u) ⊕ v ≡ t ⊕ (u ⊕ v)
row-assoc empty u v = refl
row-assoc (leaf_then name link cs rest) u v = ap (leaf_then name link cs) (row-assoc rest u v)
row-assoc (group_then name a b inside rest) u v = ap (group_then name a b inside) (row-assoc rest u v)

pub flat-behind : (b c : Brackets) → flat (behind b c) ≡ flat b ⊕ flat c
flat-behind nothing c = refl
flat-behind (tree_then t rest) c = ap (λ x. t ⊕ x) (flat-behind rest c) ∙ sym (row-assoc t (flat rest) (flat c))
flat-behind (label_then f inside back tail rest) c =
    ap (λ x. start_row f ⊕ (flat inside ⊕ (end_row back ⊕ (tail_row tail ⊕ x)))) (flat-behind rest c)
    ∙ ap (λ x. start_row f ⊕ (flat inside ⊕ (end_row back ⊕ x))) (sym (row-assoc (tail_row tail) (flat rest) (flat c)))
    ∙ ap (λ x. start_row f ⊕ (flat inside ⊕ x)) (sym (row-assoc (end_row back) (tail_row tail ⊕ flat rest) (flat c)))
    ∙ ap (λ x. start_row f ⊕ x) (sym (row-assoc (flat inside) (end_row back ⊕ (tail_row tail ⊕ flat rest)) (flat c)))
    ∙ sym (row-assoc (start_row f) (flat inside ⊕ (end_row back ⊕ (tail_row tail ⊕ flat rest))) (flat c))
flat-behind (unused_then f rest) c =
    ap (λ x. start_row f ⊕ x) (flat-behind rest c) ∙ sym (row-assoc (start_row f) (flat rest) (flat c))
flat-behind (failed_then f inside rest) c =
    ap (λ x. start_row f ⊕ (flat inside ⊕ x)) (flat-behind rest c)
    ∙ ap (λ x. start_row f ⊕ x) (sym (row-assoc (flat inside) (flat rest) (flat c)))
    ∙ sym (row-assoc (start_row f) (flat inside ⊕ flat rest) (flat c))

pub count-behind : (b c : Brackets) → count (behind b c) ≡ count b + count c
count-behind nothing c = omega arith
count-behind (tree_then t rest) c = omega (arith, count-behind rest c)
count-behind (label_then f inside back tail rest) c = omega (arith, count-behind rest c)
count-behind (unused_then f rest) c = omega (arith, count-behind rest c)
count-behind (failed_then f inside rest) c = omega (arith, count-behind rest c)

pub labels-behind : (n : ℕ) (b c : Brackets) → labels_at n (behind b c) ≡ labels_at n b ++ labels_at (n + count b) c
labels-behind n nothing c = ap (λ i. labels_at i c) (omega arith)
labels-behind n (tree_then t rest) c =
    let same : n + event_count t + count rest ≡ n + (event_count t + count rest) = omega arith in
    labels-behind (n + event_count t) rest c ∙ ap (λ i. labels_at (n + event_count t) rest ++ labels_at i c) same
labels-behind n (label_then f inside back tail rest) c =
    let k : ℕ = n + suc (last_of f) in
    let e : ℕ = k + count inside in
    let x : ℕ = e + 4 + event_count (tail_row tail) in
    let l : Label = record { kind = kind_of f; start = numbers_of n f; end = (e, x - 1) } in
    let same : x + count rest ≡ n + (suc (last_of f) + (count inside + (4 + (event_count (tail_row tail) + count rest)))) = omega arith in
    ap (λ ls. labels_at k inside ++ (l ∷ ls)) (labels-behind x rest c ∙ ap (λ i. labels_at x rest ++ labels_at i c) same)
    ∙ sym (append_assoc (labels_at k inside) (l ∷ labels_at x rest) (labels_at (n + (suc (last_of f) + (count inside + (4 + (event_count (tail_row tail) + count rest))))) c))
labels-behind n (unused_then f rest) c =
    let k : ℕ = n + suc (last_of f) in
    let same : k + count rest ≡ n + (suc (last_of f) + count rest) = omega arith in
    labels-behind k rest c ∙ ap (λ i. labels_at k rest ++ labels_at i c) same
labels-behind n (failed_then f inside rest) c =
    let k : ℕ = n + suc (last_of f) in
    let e : ℕ = k + count inside in
    let same : e + count rest ≡ n + (suc (last_of f) + (count inside + count rest)) = omega arith in
    ap (λ ls. labels_at k inside ++ ls) (labels-behind e rest c ∙ ap (λ i. labels_at e rest ++ labels_at i c) same)
    ∙ sym (append_assoc (labels_at k inside) (labels_at e rest) (labels_at (n + (suc (last_of f) + (count inside + count rest))) c))

pub failed-behind : (n : ℕ) (b c : Brackets) → failed_at n (behind b c) ≡ failed_at n b ++ failed_at (n + count b) c
failed-behind n nothing c = ap (λ i. failed_at i c) (omega arith)
failed-behind n (tree_then t rest) c =
    let same : n + event_count t + count rest ≡ n + (event_count t + count rest) = omega arith in
    failed-behind (n + event_count t) rest c ∙ ap (λ i. failed_at (n + event_count t) rest ++ failed_at i c) same
failed-behind n (label_then f inside back tail rest) c =
    let k : ℕ = n + suc (last_of f) in
    let x : ℕ = k + count inside + 4 + event_count (tail_row tail) in
    let same : x + count rest ≡ n + (suc (last_of f) + (count inside + (4 + (event_count (tail_row tail) + count rest)))) = omega arith in
    ap (λ ls. failed_at k inside ++ ls) (failed-behind x rest c ∙ ap (λ i. failed_at x rest ++ failed_at i c) same)
    ∙ sym (append_assoc (failed_at k inside) (failed_at x rest) (failed_at (n + (suc (last_of f) + (count inside + (4 + (event_count (tail_row tail) + count rest))))) c))
failed-behind n (unused_then f rest) c =
    let k : ℕ = n + suc (last_of f) in
    let same : k + count rest ≡ n + (suc (last_of f) + count rest) = omega arith in
    failed-behind k rest c ∙ ap (λ i. failed_at k rest ++ failed_at i c) same
failed-behind n (failed_then f inside rest) c =
    let k : ℕ = n + suc (last_of f) in
    let e : ℕ = k + count inside in
    let same : e + count rest ≡ n + (suc (last_of f) + (count inside + count rest)) = omega arith in
    ap (λ ls. failed_at k inside ++ (numbers_of n f ∷ ls)) (failed-behind e rest c ∙ ap (λ i. failed_at e rest ++ failed_at i c) same)
    ∙ sym (append_assoc (failed_at k inside) (numbers_of n f ∷ failed_at e rest) (failed_at (n + (suc (last_of f) + (count inside + count rest))) c))

pub unused-behind : (n : ℕ) (b c : Brackets) → unused_at n (behind b c) ≡ unused_at (n + count b) c ++ unused_at n b
unused-behind n nothing c = ap (λ i. unused_at i c) (omega arith) ∙ sym (append-nil (unused_at (n + 0) c))
unused-behind n (tree_then t rest) c =
    let same : n + event_count t + count rest ≡ n + (event_count t + count rest) = omega arith in
    unused-behind (n + event_count t) rest c ∙ ap (λ i. unused_at i c ++ unused_at (n + event_count t) rest) same
unused-behind n (label_then f inside back tail rest) c =
    let k : ℕ = n + suc (last_of f) in
    let x : ℕ = k + count inside + 4 + event_count (tail_row tail) in
    let y : ℕ = n + (suc (last_of f) + (count inside + (4 + (event_count (tail_row tail) + count rest)))) in
    let same : x + count rest ≡ y = omega arith in
    ap (λ ls. ls ++ unused_at k inside) (unused-behind x rest c ∙ ap (λ i. unused_at i c ++ unused_at x rest) same)
    ∙ append_assoc (unused_at y c) (unused_at x rest) (unused_at k inside)
unused-behind n (unused_then f rest) c =
    let k : ℕ = n + suc (last_of f) in
    let y : ℕ = n + (suc (last_of f) + count rest) in
    let same : k + count rest ≡ y = omega arith in
    ap (λ ls. ls ++ numbers_of n f ∷ []) (unused-behind k rest c ∙ ap (λ i. unused_at i c ++ unused_at k rest) same)
    ∙ append_assoc (unused_at y c) (unused_at k rest) (numbers_of n f ∷ [])
unused-behind n (failed_then f inside rest) c =
    let k : ℕ = n + suc (last_of f) in
    let e : ℕ = k + count inside in
    let y : ℕ = n + (suc (last_of f) + (count inside + count rest)) in
    let same : e + count rest ≡ y = omega arith in
    ap (λ ls. ls ++ unused_at k inside) (unused-behind e rest c ∙ ap (λ i. unused_at i c ++ unused_at e rest) same)
    ∙ append_assoc (unused_at y c) (unused_at e rest) (unused_at k inside)

pub closed-unused : (n : ℕ) (b : Brackets) → IsClosed b → unused_at n b ≡ []
closed-unused n nothing h = refl
closed-unused n (tree_then t rest) h = closed-unused (n + event_count t) rest h
closed-unused n (label_then f inside back tail rest) h =
    let k : ℕ = n + suc (last_of f) in
    let x : ℕ = k + count inside + 4 + event_count (tail_row tail) in
    ap (λ ls. ls ++ unused_at k inside) (closed-unused x rest h.1) ∙ closed-unused k inside h.0
closed-unused n (unused_then f rest) h = absurd h
closed-unused n (failed_then f inside rest) h =
    let k : ℕ = n + suc (last_of f) in
    let e : ℕ = k + count inside in
    ap (λ ls. ls ++ unused_at k inside) (closed-unused e rest h.1) ∙ closed-unused k inside h.0

-- An end: the last start waits, with closed brackets behind it.

abbrev pub waiting : Brackets → Front → Brackets → Brackets
waiting a f inside = behind a (unused_then f inside)

abbrev pub labelled : Brackets → Front → Brackets → Code → Tail → Brackets
labelled a f inside back tail = behind a (label_then f inside back tail nothing)

abbrev pub failed : Brackets → Front → Brackets → Brackets
failed a f inside = behind a (failed_then f inside nothing)

-- the label that an end makes
abbrev pub new_label : Brackets → Front → Brackets → Tail → Label
new_label a f inside tail =
    let e = count a + suc (last_of f) + count inside in
    record { kind = kind_of f; start = numbers_of (count a) f; end = (e, e + 4 + event_count (tail_row tail) - 1) }

at-zero : (b : Brackets) → 0 + count b ≡ count b
at-zero b = omega arith

-- where an end makes a label, its events come, its start is no longer waiting, and the label is the last one
pub labelled-flat : (a : Brackets) (f : Front) (inside : Brackets) (back : Code) (tail : Tail) →
    flat (labelled a f inside back tail) ≡ flat (waiting a f inside) ⊕ (end_row back ⊕ tail_row tail)
labelled-flat a f inside back tail =
    flat-behind a (label_then f inside back tail nothing)
    ∙ ap (λ x. flat a ⊕ (start_row f ⊕ (flat inside ⊕ (end_row back ⊕ x)))) (row-empty (tail_row tail))
    ∙ ap (λ x. flat a ⊕ x) (sym (row-assoc (start_row f) (flat inside) (end_row back ⊕ tail_row tail)))
    ∙ sym (row-assoc (flat a) (start_row f ⊕ flat inside) (end_row back ⊕ tail_row tail))
    ∙ ap (λ x. x ⊕ (end_row back ⊕ tail_row tail)) (sym (flat-behind a (unused_then f inside)))

pub labelled-labels : (a : Brackets) (f : Front) (inside : Brackets) (back : Code) (tail : Tail) →
    labels_at 0 (labelled a f inside back tail) ≡ labels_at 0 (waiting a f inside) ++ new_label a f inside tail ∷ []
labelled-labels a f inside back tail =
    let k : ℕ = count a + suc (last_of f) in
    labels-behind 0 a (label_then f inside back tail nothing)
    ∙ ap (λ i. labels_at 0 a ++ labels_at i (label_then f inside back tail nothing)) (at-zero a)
    ∙ sym (append_assoc (labels_at 0 a) (labels_at k inside) (new_label a f inside tail ∷ []))
    ∙ ap (λ i. (labels_at 0 a ++ labels_at (i + suc (last_of f)) inside) ++ new_label a f inside tail ∷ []) (sym (at-zero a))
    ∙ ap (λ ls. ls ++ new_label a f inside tail ∷ []) (sym (labels-behind 0 a (unused_then f inside)))

pub waiting-unused : (a : Brackets) (f : Front) (inside : Brackets) → IsClosed inside →
    unused_at 0 (waiting a f inside) ≡ numbers_of (count a) f ∷ unused_at 0 a
waiting-unused a f inside h =
    unused-behind 0 a (unused_then f inside)
    ∙ ap (λ i. unused_at i (unused_then f inside) ++ unused_at 0 a) (at-zero a)
    ∙ ap (λ ls. (ls ++ numbers_of (count a) f ∷ []) ++ unused_at 0 a) (closed-unused (count a + suc (last_of f)) inside h)

pub labelled-unused : (a : Brackets) (f : Front) (inside : Brackets) (back : Code) (tail : Tail) → IsClosed inside →
    unused_at 0 (labelled a f inside back tail) ≡ unused_at 0 a
labelled-unused a f inside back tail h =
    unused-behind 0 a (label_then f inside back tail nothing) ∙ ap (λ ls. ls ++ unused_at 0 a) (closed-unused (0 + count a + suc (last_of f)) inside h)

pub labelled-failed : (a : Brackets) (f : Front) (inside : Brackets) (back : Code) (tail : Tail) →
    failed_at 0 (labelled a f inside back tail) ≡ failed_at 0 (waiting a f inside)
labelled-failed a f inside back tail =
    failed-behind 0 a (label_then f inside back tail nothing)
    ∙ ap (λ ls. failed_at 0 a ++ ls) (append-nil (failed_at (0 + count a + suc (last_of f)) inside))
    ∙ sym (failed-behind 0 a (unused_then f inside))

-- where it fails, no event comes, and its start is the last of those whose ends failed
pub failed-flat : (a : Brackets) (f : Front) (inside : Brackets) → flat (failed a f inside) ≡ flat (waiting a f inside)
failed-flat a f inside =
    flat-behind a (failed_then f inside nothing) ∙ ap (λ x. flat a ⊕ (start_row f ⊕ x)) (row-empty (flat inside)) ∙ sym (flat-behind a (unused_then f inside))

pub failed-labels : (a : Brackets) (f : Front) (inside : Brackets) →
    labels_at 0 (failed a f inside) ≡ labels_at 0 (waiting a f inside)
failed-labels a f inside =
    labels-behind 0 a (failed_then f inside nothing)
    ∙ ap (λ ls. labels_at 0 a ++ ls) (append-nil (labels_at (0 + count a + suc (last_of f)) inside))
    ∙ sym (labels-behind 0 a (unused_then f inside))

pub failed-unused : (a : Brackets) (f : Front) (inside : Brackets) → IsClosed inside →
    unused_at 0 (failed a f inside) ≡ unused_at 0 a
failed-unused a f inside h =
    unused-behind 0 a (failed_then f inside nothing) ∙ ap (λ ls. ls ++ unused_at 0 a) (closed-unused (0 + count a + suc (last_of f)) inside h)

pub failed-failed : (a : Brackets) (f : Front) (inside : Brackets) →
    failed_at 0 (failed a f inside) ≡ failed_at 0 (waiting a f inside) ++ numbers_of (count a) f ∷ []
failed-failed a f inside =
    let k : ℕ = count a + suc (last_of f) in
    failed-behind 0 a (failed_then f inside nothing)
    ∙ ap (λ i. failed_at 0 a ++ failed_at i (failed_then f inside nothing)) (at-zero a)
    ∙ sym (append_assoc (failed_at 0 a) (failed_at k inside) (numbers_of (count a) f ∷ []))
    ∙ ap (λ i. (failed_at 0 a ++ failed_at (i + suc (last_of f)) inside) ++ numbers_of (count a) f ∷ []) (sym (at-zero a))
    ∙ ap (λ ls. ls ++ numbers_of (count a) f ∷ []) (sym (failed-behind 0 a (unused_then f inside)))

-- a start, or a tree by itself, behind all

abbrev pub started : Brackets → Front → Brackets
started b f = behind b (unused_then f nothing)

pub started-flat : (b : Brackets) (f : Front) → flat (started b f) ≡ flat b ⊕ start_row f
started-flat b f = flat-behind b (unused_then f nothing) ∙ ap (λ x. flat b ⊕ x) (row-empty (start_row f))

pub started-labels : (b : Brackets) (f : Front) → labels_at 0 (started b f) ≡ labels_at 0 b
started-labels b f = labels-behind 0 b (unused_then f nothing) ∙ append-nil (labels_at 0 b)

pub started-unused : (b : Brackets) (f : Front) → unused_at 0 (started b f) ≡ numbers_of (count b) f ∷ unused_at 0 b
started-unused b f = waiting-unused b f nothing tt

pub started-failed : (b : Brackets) (f : Front) → failed_at 0 (started b f) ≡ failed_at 0 b
started-failed b f = failed-behind 0 b (unused_then f nothing) ∙ append-nil (failed_at 0 b)

abbrev pub passed : Brackets → Forest → Brackets
passed b t = behind b (tree_then t nothing)

pub passed-flat : (b : Brackets) (t : Forest) → flat (passed b t) ≡ flat b ⊕ t
passed-flat b t = flat-behind b (tree_then t nothing) ∙ ap (λ x. flat b ⊕ x) (row-empty t)

pub passed-labels : (b : Brackets) (t : Forest) → labels_at 0 (passed b t) ≡ labels_at 0 b
passed-labels b t = labels-behind 0 b (tree_then t nothing) ∙ append-nil (labels_at 0 b)

pub passed-unused : (b : Brackets) (t : Forest) → unused_at 0 (passed b t) ≡ unused_at 0 b
passed-unused b t = unused-behind 0 b (tree_then t nothing)

pub passed-failed : (b : Brackets) (t : Forest) → failed_at 0 (passed b t) ≡ failed_at 0 b
passed-failed b t = failed-behind 0 b (tree_then t nothing) ∙ append-nil (failed_at 0 b)

pub apart-behind : (b c : Brackets) → IsApart b → IsApart c → IsApart (behind b c)
apart-behind nothing c g h = h
apart-behind (tree_then t rest) c g h = (g.0, apart-behind rest c g.1 h)
apart-behind (label_then f inside back tail rest) c g h = (g.0, apart-behind rest c g.1 h)
apart-behind (unused_then f rest) c g h = apart-behind rest c g h
apart-behind (failed_then f inside rest) c g h = (g.0, apart-behind rest c g.1 h)

pub closed-behind : (b c : Brackets) → IsClosed b → IsClosed c → IsClosed (behind b c)
closed-behind nothing c g h = h
closed-behind (tree_then t rest) c g h = closed-behind rest c g h
closed-behind (label_then f inside back tail rest) c g h = (g.0, closed-behind rest c g.1 h)
closed-behind (unused_then f rest) c g h = absurd g
closed-behind (failed_then f inside rest) c g h = (g.0, closed-behind rest c g.1 h)

behind-assoc : (a b c : Brackets) → behind (behind a b) c ≡ behind a (behind b c)
behind-assoc nothing b c = refl
behind-assoc (tree_then t rest) b c = ap (tree_then t) (behind-assoc rest b c)
behind-assoc (label_then f inside back tail rest) b c = ap (label_then f inside back tail) (behind-assoc rest b c)
behind-assoc (unused_then f rest) b c = ap (unused_then f) (behind-assoc rest b c)
behind-assoc (failed_then f inside rest) b c = ap (failed_then f inside) (behind-assoc rest b c)

-- behind a start that waits, all that follows comes inside it
pub waiting-behind : (a : Brackets) (f : Front) (inside c : Brackets) →
    behind (waiting a f inside) c ≡ waiting a f (behind inside c)
waiting-behind a f inside c = behind-assoc a (unused_then f inside) c

-- Trees of rows that are joined.

pub joined-append : (a b : List Forest) → joined (a ++ b) ≡ joined a ⊕ joined b
joined-append [] b = refl
joined-append (t ∷ a) b = ap (λ x. t ⊕ x) (joined-append a b) ∙ sym (row-assoc t (joined a) (joined b))

pub grouped-behind : (b c : Brackets) → grouped (behind b c) ≡ grouped b ⊕ grouped c
grouped-behind nothing c = refl
grouped-behind (tree_then t rest) c =
    ap (λ x. t ⊕ x) (grouped-behind rest c) ∙ sym (row-assoc t (grouped rest) (grouped c))
grouped-behind (label_then f inside back tail rest) c =
    let g : Forest = label_group (kind_of f) (codes_of f) (grouped inside) (back ∷ []) (tail_row tail) in
    ap (λ x. g ⊕ x) (grouped-behind rest c) ∙ sym (row-assoc g (grouped rest) (grouped c))
grouped-behind (unused_then f rest) c =
    ap (λ x. leaf Name.Data (codes_of f) ⊕ x) (grouped-behind rest c) ∙ sym (row-assoc (leaf Name.Data (codes_of f)) (grouped rest) (grouped c))
grouped-behind (failed_then f inside rest) c =
    ap (λ x. leaf Name.Data (codes_of f) ⊕ (grouped inside ⊕ x)) (grouped-behind rest c)
    ∙ ap (λ x. leaf Name.Data (codes_of f) ⊕ x) (sym (row-assoc (grouped inside) (grouped rest) (grouped c)))
    ∙ sym (row-assoc (leaf Name.Data (codes_of f)) (grouped inside ⊕ grouped rest) (grouped c))
