-- the first innermost event of a list
use Rattle.std.proofs.Common.{◌≡◌, ℕ, suc, ◌-◌, ◌<◌, ◌≤◌, List, [], ◌∷◌, length, drop, get_or, take, refl, sym, subst, ◌∙◌, arith}
use Rattle.std.proofs.lemmas.List.{length-drop, get_or_default, take_all}
use Rattle.std.specs.List.{All}
use Rattle.markdown_content.specs.Codes.{document_start}
use Rattle.markdown_content.specs.Tree.{event}
use Rattle.markdown_event.specs.declared.event.Kind.{Kind}
use Rattle.markdown_event.specs.declared.event.Name.TheVariants as N
use Rattle.markdown_event.specs.declared.event.Event.{Event}
use Rattle.markdown_innermost.specs.InnermostEvents.{Span, innermost, span_of, BeginsInnermost, IsSpanInOrder}

-- from the last event on there is none
pub none-left : (es : List Event) (i : ℕ) → 0 < i → length es ≤ i → innermost (drop (i - 1) es) ≡ innermost es →
    innermost es ≡ []
none-left es i z l k = sym k ∙ few (drop (i - 1) es) (let n = length-drop (i - 1) es in omega (arith, n))
  where
    few : (xs : List Event) → length xs ≤ 1 → innermost xs ≡ []
    few [] h = refl
    few (e ∷ []) h = refl
    few (e ∷ x ∷ xs) h = absurd (omega (arith, h))

-- what holds of all holds of the first, and of those behind it

pub first-in-order : (bytes : List ℕ) (es : List Event) (i : ℕ) (enter exit : Event) → BeginsInnermost es i → enter ≡ get_or es (i - 1) enter →
    exit ≡ get_or es i exit → All (IsSpanInOrder bytes) (innermost es) → IsSpanInOrder bytes (span_of enter exit)
first-in-order bytes es i enter exit b before at h =
    let first : IsSpanInOrder bytes (span_of (get_or es (i - 1) enter) (get_or es i enter)) = (subst (All (IsSpanInOrder bytes)) (b.first enter) h) 0 (span_of enter exit) (omega arith) in
    subst (λ e. IsSpanInOrder bytes (span_of e exit)) (sym before)
    (subst (λ x. IsSpanInOrder bytes (span_of (get_or es (i - 1) enter) x)) (get_or_default es i enter exit b.within ∙ sym at) first)

all-behind : (bytes : List ℕ) (s : Span) (ss : List Span) → All (IsSpanInOrder bytes) (s ∷ ss) → All (IsSpanInOrder bytes) ss
all-behind bytes s ss h = λ k d l. h (suc k) d (omega (arith, l))

pub others-in-order : (bytes : List ℕ) (es more : List Event) (i n : ℕ) → BeginsInnermost es i →
    n ≡ length es → more ≡ take (n - i) (drop i es) → All (IsSpanInOrder bytes) (innermost es) →
    All (IsSpanInOrder bytes) (innermost more)
others-in-order bytes es more i n b c m h =
    let d : Event = event Kind.Enter N.Data document_start in
    let whole : more ≡ drop i es = m ∙ take_all (n - i) (drop i es) (let l = length-drop i es in omega (arith, l, c)) in
    subst (λ xs. All (IsSpanInOrder bytes) (innermost xs)) (sym whole) (all-behind bytes (span_of (get_or es (i - 1) d) (get_or es i d)) (innermost (drop i es)) (subst (All (IsSpanInOrder bytes)) (b.first d) h))
