-- The events of a tree of labels have the places of runs that the pass asks for.
use Rattle.std.proofs.Common.{◌≡◌, ℕ, ◌+◌, false, List, ◌∷◌, ◌++◌, Option, Some, None, refl, sym, subst, append_assoc, append-nil, ◌^◌, ◌<◌, ◌≤◌, length, arith, []}
use Rattle.std.specs.Prelude.{IsUtf8}
use Rattle.std.proofs.lemmas.Bool.{both_ways}
use Rattle.markdown_content.specs.Codes.{Code, stop_of, document_start}
use Rattle.markdown_content.specs.Content.{document_limit}
use Rattle.markdown_engine.specs.PastTree.{appended_from}
use Rattle.markdown_content.specs.Tree.{Forest, empty, leaf_then, group_then, event, event_count}
use Rattle.markdown_event.specs.declared.event.Event.{Event}
use Rattle.markdown_event.specs.declared.event.Kind.TheVariants as Kind
use Rattle.markdown_attention.specs.RunsRead.{opens_run, HaveRunPlaces}
use Rattle.markdown_attention.specs.RunsOfTree.{HasRuns}
use Rattle.markdown_attention.proofs.RunEventEnds.{ends-of}
use Rattle.markdown_attention.specs.AttentionTrees.{IsStriped}
use Rattle.markdown_attention.specs.RunEdits.{HaveRunEnds}
use Rattle.markdown_attention.specs.RunEdits.{HaveRunRoom}
use Rattle.markdown_attention.proofs.AttentionTreeLabels.{EachRun, IsGood}
use Rattle.markdown_attention.proofs.MarkerCodes.{IsPlaced}

module _ (bytes : List ℕ) (u : IsUtf8 bytes) where
  other-event : (e : Event) (es : List Event) → opens_run e ≡ false → HaveRunPlaces bytes es →
      HaveRunPlaces bytes (e ∷ es)
  other-event e es o h = (λ y. absurd (both_ways (opens_run e) o y), h)

  pub places-row : (t : Forest) (n : ℕ) (previous : Option ℕ) (rest : List Event) → HasRuns bytes t →
      EachRun (IsPlaced bytes) t → HaveRunPlaces bytes rest → HaveRunPlaces bytes (appended_from n previous t ++ rest)
  places-row empty n previous rest g h r = r
  places-row (leaf_then name None cs t) n previous rest g h r = grind (arith, places-row t (n + 2) previous rest g.1 h.1 r, other-event)
  places-row (leaf_then name (Some c) cs t) n previous rest g h r = grind (arith, places-row t (n + 2) (Some n) rest g.1 h.1 r, other-event)
  places-row (group_then name a b inside t) n previous rest g h r =
      let m : ℕ = n + 2 + event_count inside in
      let x : Event = event Kind.Exit name b in
      let row : List Event = appended_from m previous t in
      let inner : List Event = appended_from (n + 1) None inside in
      let behind : HaveRunPlaces bytes (x ∷ (row ++ rest)) = other-event x (row ++ rest) refl (places-row t m previous rest g.1.1 h.1 r) in
      let whole : HaveRunPlaces bytes (inner ++ (x ∷ (row ++ rest))) = places-row inside (n + 1) None (x ∷ (row ++ rest)) g.1.0 h.0 behind in
      let apart : (inner ++ (x ∷ row)) ++ rest ≡ inner ++ (x ∷ (row ++ rest)) = append_assoc inner (x ∷ row) rest in
      other-event (event Kind.Enter name a) ((inner ++ (x ∷ row)) ++ rest) g.0.0 (subst (λ (xs : List Event). HaveRunPlaces bytes xs) (sym apart) whole)

-- the place where a run ends fits
module _ (bytes : List ℕ) (u : IsUtf8 bytes) (few : length bytes ≤ document_limit) where
  end-fits : (cs : List Code) → IsPlaced bytes cs →
      ((stop_of document_start cs).column < 2 ^ 64) × ((stop_of document_start cs).index < 2 ^ 64)
  end-fits cs h = grind arith

  no-room : (e : Event) (es : List Event) → opens_run e ≡ false → HaveRunRoom es → HaveRunRoom (e ∷ es)
  no-room e es o h = (λ y. absurd (both_ways (opens_run e) o y), h)

  room-row : (t : Forest) (n : ℕ) (previous : Option ℕ) (rest : List Event) → HasRuns bytes t →
      EachRun (IsPlaced bytes) t → HaveRunRoom rest → HaveRunRoom (appended_from n previous t ++ rest)
  room-row empty n previous rest g h r = r
  room-row (leaf_then name None cs t) n previous rest g h r = grind (arith, room-row t (n + 2) previous rest g.1 h.1 r, end-fits, no-room)
  room-row (leaf_then name (Some c) cs t) n previous rest g h r = grind (arith, room-row t (n + 2) (Some n) rest g.1 h.1 r, end-fits, no-room)
  room-row (group_then name a b inside t) n previous rest g h r =
      let m : ℕ = n + 2 + event_count inside in
      let x : Event = event Kind.Exit name b in
      let row : List Event = appended_from m previous t in
      let inner : List Event = appended_from (n + 1) None inside in
      let behind : HaveRunRoom (x ∷ (row ++ rest)) = no-room x (row ++ rest) refl (room-row t m previous rest g.1.1 h.1 r) in
      let whole : HaveRunRoom (inner ++ (x ∷ (row ++ rest))) = room-row inside (n + 1) None (x ∷ (row ++ rest)) g.1.0 h.0 behind in
      let apart : (inner ++ (x ∷ row)) ++ rest ≡ inner ++ (x ∷ (row ++ rest)) = append_assoc inner (x ∷ row) rest in
      no-room (event Kind.Enter name a) ((inner ++ (x ∷ row)) ++ rest) g.0.0 (subst (λ (xs : List Event). HaveRunRoom xs) (sym apart) whole)

-- what the pass asks of a tree and of its events
pub record MeetsPass (bytes : List ℕ) (t : Forest) : Type 0 where
  pub runs : HasRuns bytes t
  pub striped : IsStriped t
  pub places : HaveRunPlaces bytes (appended_from 0 None t)
  pub ends : HaveRunEnds (appended_from 0 None t)
  pub room : HaveRunRoom (appended_from 0 None t)

pub good-meets : (bytes : List ℕ) (t : Forest) → IsUtf8 bytes → length bytes ≤ document_limit → IsGood bytes t →
    MeetsPass bytes t
good-meets bytes t u few g = record {
  runs = g.0;
  striped = ((λ e. g.1.1.0), g.1.0);
  places = subst (λ (xs : List Event). HaveRunPlaces bytes xs) (append-nil (appended_from 0 None t)) (places-row bytes u t 0 None [] g.0 g.1.1.1 tt);
  ends = ends-of t (appended_from 0 None t) g.1.0 refl;
  room = subst (λ (xs : List Event). HaveRunRoom xs) (append-nil (appended_from 0 None t)) (room-row bytes u few t 0 None [] g.0 g.1.1.1 tt);
}
