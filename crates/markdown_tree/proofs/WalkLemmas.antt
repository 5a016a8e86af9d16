-- What a walk from an event finds, one event further.
use Rattle.std.proofs.Common.{◌≡◌, ◌∙◌, sym, ap, ℕ, zero, suc, ◌+◌, ◌-◌, ◌<◌, ◌≤◌, List, ◌∷◌, Option, None, Some, get_or, length, drop, slice_get, arith}
use Rattle.std.proofs.lemmas.List.{drop_all, drop_more}
use Rattle.markdown_content.specs.Nesting.{open_before, opened}
use Rattle.markdown_content.proofs.NestingLemmas.{open_before-more}
use Rattle.markdown_event.specs.declared.event.Event.{Event}
use Rattle.markdown_event.specs.declared.event.Kind.{Kind}
use Rattle.markdown_event.specs.declared.event.Kind.TheVariants.{Enter, Exit}
use Rattle.markdown_tree.specs.Nodes.{closed, exits_ahead}
use Rattle.markdown_tree.proofs.IndexLemmas.{past-outer}

-- Forward: an Exit that ends so many Enters before it is ahead.

ahead-of : (es : List Event) (i d : ℕ) (e : Event) (kind : Kind) → i < length es → e ≡ get_or es i e → e.kind ≡ kind →
    slice_get (exits_ahead i (drop i es)) d ≡ slice_get (closed i kind (exits_ahead (i + 1) (drop (i + 1) es))) d
ahead-of es i d e kind l is k = grind (arith, drop_more es i e l)

pub over_enter : (es : List Event) (i d : ℕ) (e : Event) (o : Option ℕ) → i < length es → e ≡ get_or es i e → e.kind ≡ Enter →
    slice_get (exits_ahead i (drop i es)) d ≡ o → slice_get (exits_ahead (i + 1) (drop (i + 1) es)) (d + 1) ≡ o
over_enter es i d e o l is k h = grind (arith, past-outer (exits_ahead (i + 1) (drop (i + 1) es)) d, ahead-of es i d e Enter l is k)

past-first : (i d : ℕ) (xs : List ℕ) → 0 < d → slice_get (i ∷ xs) d ≡ slice_get xs (d - 1)
past-first i zero xs l = absurd (omega arith)
past-first i (suc d) xs l = ap (slice_get xs) (omega arith)

pub over_exit : (es : List Event) (i d : ℕ) (e : Event) (o : Option ℕ) → i < length es → e ≡ get_or es i e → e.kind ≡ Exit → 0 < d →
    slice_get (exits_ahead i (drop i es)) d ≡ o → slice_get (exits_ahead (i + 1) (drop (i + 1) es)) (d - 1) ≡ o
over_exit es i d e o l is k more h = grind (arith, past-first i d (exits_ahead (i + 1) (drop (i + 1) es)) more, ahead-of es i d e Exit l is k)

pub at_exit : (es : List Event) (i d : ℕ) (e : Event) (o : Option ℕ) → i < length es → e ≡ get_or es i e → e.kind ≡ Exit → d ≡ 0 →
    slice_get (exits_ahead i (drop i es)) d ≡ o → Some i ≡ o
at_exit es i d e o l is k none h = grind (arith, ahead-of es i d e Exit l is k)

pub no_exit : (es : List Event) (i d : ℕ) (o : Option ℕ) → length es ≤ i → slice_get (exits_ahead i (drop i es)) d ≡ o → None ≡ o
no_exit es i d o l h = sym (ap (λ xs. slice_get (exits_ahead i xs) d) (drop_all i es l)) ∙ h

-- Back: an Enter is open that stands so many Enters before the innermost.

before-of : (es : List Event) (i d : ℕ) (e : Event) (kind : Kind) → i < length es → e ≡ get_or es i e → e.kind ≡ kind →
    slice_get (open_before es (i + 1)) d ≡ slice_get (opened i kind (open_before es i)) d
before-of es i d e kind l is k = grind (arith, open_before-more es i e l)

pub back_exit : (es : List Event) (i d : ℕ) (e : Event) (o : Option ℕ) → i < length es → e ≡ get_or es i e → e.kind ≡ Exit →
    slice_get (open_before es (i + 1)) d ≡ o → slice_get (open_before es i) (d + 1) ≡ o
back_exit es i d e o l is k h = grind (arith, past-outer (open_before es i) d, before-of es i d e Exit l is k)

pub back_enter : (es : List Event) (i d : ℕ) (e : Event) (o : Option ℕ) → i < length es → e ≡ get_or es i e → e.kind ≡ Enter → 0 < d →
    slice_get (open_before es (i + 1)) d ≡ o → slice_get (open_before es i) (d - 1) ≡ o
back_enter es i d e o l is k more h = sym (past-first i d (open_before es i) more) ∙ sym (before-of es i d e Enter l is k) ∙ h

pub at_enter : (es : List Event) (i d : ℕ) (e : Event) (o : Option ℕ) → i < length es → e ≡ get_or es i e → e.kind ≡ Enter → d ≡ 0 →
    slice_get (open_before es (i + 1)) d ≡ o → Some i ≡ o
at_enter es i d e o l is k none h = sym (ap (slice_get (i ∷ open_before es i)) none) ∙ sym (before-of es i d e Enter l is k) ∙ h
