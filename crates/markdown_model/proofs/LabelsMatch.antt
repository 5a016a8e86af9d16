-- An end closes the start before it between which and it the starts and ends are balanced.
use Rattle.std.proofs.Common.{◌≡◌, ℕ, zero, suc, List, [], ◌∷◌, ◌++◌, reverse, refl, sym, ◌∙◌, ap, subst, arith, Some, None}
use Rattle.std.proofs.lemmas.Option.{same_Some}
use Rattle.std.proofs.lemmas.List.{append_assoc, append-nil, reverse-append, reverse-reverse}
use Rattle.markdown_content.specs.declared.label_kind.LabelKind.{LabelKind}
use Rattle.markdown_content.specs.Codes.{Code}
use Rattle.markdown_model.specs.LabelEnd.{Element, plain, starts, ends, Label, label_back, label_before}
use Rattle.markdown_model.specs.Laws.{unused_after, Closes, LabelsMatch}

pub reverse-first : (e : Element) (es more : List Element) → reverse (e ∷ es) ++ more ≡ reverse es ++ e ∷ more
reverse-first e es more = ap (λ x. x ++ more) (reverse-append (e ∷ []) es) ∙ append_assoc (reverse es) (e ∷ []) more

-- the count before is known from the count after
same_before : (a b x : ℕ) (es : List Element) → unused_after a es ≡ Some x → unused_after b es ≡ Some x → a ≡ b
same_before a b x [] h k = same_Some a x h ∙ sym (same_Some b x k)
same_before a b x (plain tree ∷ es) h k = same_before a b x es h k
same_before a b x (starts kind marker ∷ es) h k = let e = same_before (suc a) (suc b) x es h k in omega arith
same_before zero b x (ends marker outcome ∷ es) h k = absurd (no h)
  where
    no : None ≡ Some x → ⊥
    no e = cc
same_before (suc a) zero x (ends marker outcome ∷ es) h k = absurd (no k)
  where
    no : None ≡ Some x → ⊥
    no e = cc
same_before (suc a) (suc b) x (ends marker outcome ∷ es) h k = ap suc (same_before a b x es h k)

-- the count between two parts
between : (a x : ℕ) (es more : List Element) → unused_after a (es ++ more) ≡ Some x →
    (b : ℕ) × (unused_after b more ≡ Some x)
between a x [] more h = (a, h)
between a x (plain tree ∷ es) more h = between a x es more h
between a x (starts kind marker ∷ es) more h = between (suc a) x es more h
between zero x (ends marker outcome ∷ es) more h = absurd (no h)
  where
    no : None ≡ Some x → ⊥
    no e = cc
between (suc a) x (ends marker outcome ∷ es) more h = between a x es more h

-- what is found closes: `inside` stands between, and wants d starts before it
found_closes : (d : ℕ) (inside earlier : List Element) (l : Label) → label_back d inside earlier ≡ Some l → unused_after d inside ≡ Some 0
    → Closes (reverse inside ++ earlier) l
found_closes d inside [] l h k = absurd (no h)
  where
    no : None ≡ Some l → ⊥
    no e = cc
found_closes d inside (plain tree ∷ earlier) l h k =
    subst (λ x. Closes x l) (reverse-first (plain tree) inside earlier) (found_closes d (plain tree ∷ inside) earlier l h k)
found_closes d inside (ends marker outcome ∷ earlier) l h k =
    subst (λ x. Closes x l) (reverse-first (ends marker outcome) inside earlier) (found_closes (suc d) (ends marker outcome ∷ inside) earlier l h k)
found_closes (suc d) inside (starts kind marker ∷ earlier) l h k =
    subst (λ x. Closes x l) (reverse-first (starts kind marker) inside earlier) (found_closes d (starts kind marker ∷ inside) earlier l h k)
found_closes zero inside (starts kind marker ∷ earlier) l h k = subst (λ x. Closes (reverse inside ++ starts kind marker ∷ earlier) x) same (record { balanced = k; before = earlier; stands = refl })
  where
    same : record { kind = kind; marker = marker; inside = inside } ≡ l
    same = cc

-- what closes is found: `passed` stands before what was passed, last one first
closes_found : (d : ℕ) (inside passed before : List Element) (kind : LabelKind) (marker : List Code)
    → unused_after d inside ≡ Some 0 → unused_after 0 (reverse passed ++ inside) ≡ Some 0
    → label_back d inside (passed ++ starts kind marker ∷ before) ≡ Some (record { kind = kind; marker = marker; inside = reverse passed ++ inside })
closes_found d inside [] before kind marker h k = at_start d (same_before d 0 0 inside h k)
  where
    at_start : (n : ℕ) → n ≡ 0 →
        label_back n inside (starts kind marker ∷ before) ≡ Some (record { kind = kind; marker = marker; inside = inside })
    at_start zero e = refl
    at_start (suc n) e = absurd (omega arith)
closes_found d inside (plain tree ∷ passed) before kind marker h k =
    subst (λ x. label_back d inside ((plain tree ∷ passed) ++ starts kind marker ∷ before) ≡ Some (record { kind = kind; marker = marker; inside = x })) (sym (reverse-first (plain tree) passed inside))
    (closes_found d (plain tree ∷ inside) passed before kind marker h (subst (λ x. unused_after 0 x ≡ Some 0) (reverse-first (plain tree) passed inside) k))
closes_found d inside (ends m outcome ∷ passed) before kind marker h k =
    subst (λ x. label_back d inside ((ends m outcome ∷ passed) ++ starts kind marker ∷ before) ≡ Some (record { kind = kind; marker = marker; inside = x })) (sym (reverse-first (ends m outcome) passed inside))
    (closes_found (suc d) (ends m outcome ∷ inside) passed before kind marker h (subst (λ x. unused_after 0 x ≡ Some 0) (reverse-first (ends m outcome) passed inside) k))
closes_found (suc d) inside (starts other m ∷ passed) before kind marker h k =
    subst (λ x. label_back (suc d) inside ((starts other m ∷ passed) ++ starts kind marker ∷ before) ≡ Some (record { kind = kind; marker = marker; inside = x })) (sym (reverse-first (starts other m) passed inside))
    (closes_found d (starts other m ∷ inside) passed before kind marker h (subst (λ x. unused_after 0 x ≡ Some 0) (reverse-first (starts other m) passed inside) k))
closes_found zero inside (starts other m ∷ passed) before kind marker h k = absurd (omega (arith, same_before (suc rest.0) 0 0 inside rest.1 h))
  where
    rest : (b : ℕ) × (unused_after b (starts other m ∷ inside) ≡ Some 0)
    rest = between 0 0 (reverse passed) (starts other m ∷ inside) (subst (λ x. unused_after 0 x ≡ Some 0) (reverse-first (starts other m) passed inside) k)

pub labels_match : LabelsMatch
unfolding label_before
labels_match earlier l = (λ h. found_closes 0 [] earlier l h refl, λ c. closed c)
  where
    closed : Closes earlier l → label_back 0 [] earlier ≡ Some l
    closed c =
        ap (λ x. label_back 0 [] x) c.stands
        ∙ closes_found 0 [] (reverse l.inside) c.before l.kind l.marker refl (subst (λ x. unused_after 0 x ≡ Some 0) (sym whole) c.balanced)
        ∙ ap (λ x. Some (record { kind = l.kind; marker = l.marker; inside = x })) whole
      where
        whole : reverse (reverse l.inside) ++ [] ≡ l.inside
        whole = append-nil _ ∙ reverse-reverse l.inside
