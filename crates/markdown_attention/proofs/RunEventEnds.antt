-- The events of a tree of stripes have the ends that the edits ask for.
use Rattle.std.proofs.Common.{◌≡◌, ◌≢◌, ℕ, ◌+◌, ◌-◌, false, List, ◌∷◌, ◌++◌, Option, Some, None, refl, sym, subst, ◌∙◌, arith, append_assoc, append-nil, []}
use Rattle.std.proofs.lemmas.Bool.{both_ways}
use Rattle.markdown_content.specs.Codes.{Code, stop_of, document_start}
use Rattle.markdown_engine.specs.PastTree.{appended_from}
use Rattle.markdown_content.specs.Tree.{Forest, empty, leaf_then, group_then, event, event_count, start_of}
use Rattle.markdown_event.specs.declared.event.Content.{Content}
use Rattle.markdown_event.specs.declared.event.Event.{Event}
use Rattle.markdown_event.specs.declared.event.Kind.TheVariants as Kind
use Rattle.markdown_model.specs.Runs.{marker_of}
use Rattle.markdown_attention.specs.RunsRead.{opens_run}
use Rattle.markdown_attention.specs.RunEvents.{IsStripe, shifted}
use Rattle.markdown_attention.specs.AttentionTrees.{HasStripes}
use Rattle.markdown_attention.specs.RunEdits.{HaveRunEnds}
use Rattle.markdown_attention.proofs.TokenEvents.{stripe-stop}

no-link : {A : Type 0} → (c : Content) → ◌≡◌ {A = Option Content} (Some c) None → A
no-link c e = cc

stripe-end : (cs : List Code) → cs ≢ [] → IsStripe (marker_of cs) (start_of cs) cs →
    stop_of document_start cs ≡ shifted (start_of cs) ((stop_of document_start cs).index - (start_of cs).index)
stripe-end [] n h = absurd (n refl)
stripe-end (c ∷ cs) n h = grind (arith, stripe-stop)

other-event : (e : Event) (es : List Event) → opens_run e ≡ false → HaveRunEnds es → HaveRunEnds (e ∷ es)
other-event e es o h = (λ y. absurd (both_ways (opens_run e) o y), h)

pub ends-row : (t : Forest) (n : ℕ) (previous : Option ℕ) (rest : List Event) → HasStripes t → HaveRunEnds rest →
    HaveRunEnds (appended_from n previous t ++ rest)
ends-row empty n previous rest h r = r
ends-row (leaf_then name None cs t) n previous rest h r = grind (arith, ends-row t (n + 2) previous rest h.1 r, stripe-end, other-event)
ends-row (leaf_then name (Some c) cs t) n previous rest h r = grind (arith, ends-row t (n + 2) (Some n) rest h.1 r, no-link, other-event)
ends-row (group_then name a b inside t) n previous rest h r =
    let m : ℕ = n + 2 + event_count inside in
    let x : Event = event Kind.Exit name b in
    let row : List Event = appended_from m previous t in
    let inner : List Event = appended_from (n + 1) None inside in
    let behind : HaveRunEnds (x ∷ (row ++ rest)) = other-event x (row ++ rest) refl (ends-row t m previous rest h.1.1 r) in
    let whole : HaveRunEnds (inner ++ (x ∷ (row ++ rest))) = ends-row inside (n + 1) None (x ∷ (row ++ rest)) h.1.0 behind in
    let apart : (inner ++ (x ∷ row)) ++ rest ≡ inner ++ (x ∷ (row ++ rest)) = append_assoc inner (x ∷ row) rest in
    other-event (event Kind.Enter name a) ((inner ++ (x ∷ row)) ++ rest) h.0.0 (subst (λ (xs : List Event). HaveRunEnds xs) (sym apart) whole)

pub ends-of : (t : Forest) (es : List Event) → HasStripes t → es ≡ appended_from 0 None t → HaveRunEnds es
ends-of t es h e =
    subst (λ (xs : List Event). HaveRunEnds xs) (append-nil (appended_from 0 None t) ∙ sym e) (ends-row t 0 None [] h tt)
