-- The edits of runs can be made.
use Rattle.std.proofs.Common.{◌≡◌, ℕ, zero, suc, ◌+◌, ◌≤◌, Bool, true, false, List, [], ◌∷◌, ◌++◌, length, drop, if◌then◌else◌, refl, sym, ap, subst, arith, inl, inr}
use Rattle.std.proofs.lemmas.Bool.{cases_Bool}
use Rattle.std.proofs.lemmas.List.Elements.{All-nil, All-cons}
use Rattle.std.specs.List.{All}
use Rattle.markdown_content.specs.declared.configuration.ParseOptions.{ParseOptions}
use Rattle.markdown_engine_events.specs.EventChains.{has_link, linked_at}
use Rattle.markdown_engine_events.specs.Edits.{added_at, CanEdit}
use Rattle.markdown_event.specs.declared.event.Event.{Event}
use Rattle.markdown_engine_events.specs.declared.util.edit_map.Edit.{Edit}
use Rattle.markdown_engine_events.proofs.EditSteps.{goes-unlinked}
use Rattle.markdown_attention.specs.RunsRead.{outermost, opens_run, sequence_at, runs_from, first_run, where_after, Around, HaveRunPlaces}
use Rattle.markdown_attention.specs.declared.attention.runs.Sequence.{Sequence}
use Rattle.markdown_attention.specs.RunEdits.{edits_by, HaveRunEnds}
use Rattle.markdown_attention.specs.TokenWord.{begins_run}
use Rattle.markdown_attention.proofs.RunEditPlaces.{pass-log}
use Rattle.markdown_attention.proofs.AttentionPassLaw.{runs-of-two}
use Rattle.markdown_content.specs.Codes.{Code}

ends-drop : (j : ℕ) (es : List Event) → HaveRunEnds es → HaveRunEnds (drop j es)
ends-drop zero es h = h
ends-drop (suc j) [] h = h
ends-drop (suc j) (e ∷ es) h = ends-drop j es h.1

run-unlinked : (xs : List Event) → HaveRunEnds xs → begins_run xs ≡ true → (linked_at xs 0 ≡ false) × (linked_at xs 1 ≡ false)
run-unlinked [] h b = cc
run-unlinked (e ∷ []) h b = (ap has_link (h.0 b).0, refl)
run-unlinked (e ∷ x ∷ xs) h b = (ap has_link (h.0 b).0, ap has_link (h.0 b).1.0)

module _ (comes : Sequence → List Event) (options : ParseOptions) (bytes : List ℕ) (content : List Code) where
  abbrev from : ℕ → ℕ → Around → List Event → List Sequence
  from n i w es = runs_from options bytes content n i w es

  abbrev RunEditsWithin : ℕ → List Sequence → Type 0
  RunEditsWithin m rs = All (λ e. e.at ≤ m) (edits_by comes rs)

  within : (es : List Event) (n i : ℕ) (w : Around) (m : ℕ) → i + length es ≤ m → RunEditsWithin m (from n i w es)
  within [] n i w m l = All-nil (λ e. e.at ≤ m)
  within (e ∷ []) n i w m l = All-nil (λ e. e.at ≤ m)
  within (e ∷ x ∷ es) n i w m l =
      let r : Sequence = sequence_at options bytes content n i w.container e.point x.point in
      let first : List Sequence = first_run options bytes content n i w.container (e ∷ x ∷ es) in
      let rest : List Sequence = from (n + length first) (suc i) (where_after i e w) (x ∷ es) in
      let ih : RunEditsWithin m rest = within (x ∷ es) (n + length first) (suc i) (where_after i e w) m (omega (arith, l)) in
      elim (cases_Bool (opens_run e)) [
        | inl o ↦
            let is : first ≡ r ∷ [] = ap (λ (b : Bool). if b then r ∷ [] else []) o in
            subst (λ (xs : List Sequence). RunEditsWithin m (xs ++ rest)) (sym is) (All-cons (λ e. e.at ≤ m) (record { at = i; remove = 2; events = comes r; before = false }) (edits_by comes rest) (omega (arith, l)) ih)
        | inr o ↦
            let is : first ≡ [] = ap (λ (b : Bool). if b then r ∷ [] else []) o in
            subst (λ (xs : List Sequence). RunEditsWithin m (xs ++ rest)) (sym is) ih
      ]

  abbrev log_of : List Event → List Edit
  log_of es = edits_by comes (from 0 0 outermost es)

  pub can-group : (es : List Event) → HaveRunPlaces bytes es → HaveRunEnds es → CanEdit (log_of es) es
  can-group es p h =
      let log : List Edit = log_of es in
      record {
        places = within es 0 0 outermost (length es) (omega arith);
        unlinked = goes-unlinked log (λ k. begins_run (drop k es)) (λ k. added_at k log) (runs-of-two es log (λ k. added_at k log) (pass-log comes options bytes content es outermost p)) es (λ k b. run-unlinked (drop k es) (ends-drop k es h) b);
      }
