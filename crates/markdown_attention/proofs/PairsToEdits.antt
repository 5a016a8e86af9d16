-- From what pairing leaves to what the edits ask for, and to what they leave.
use Rattle.std.proofs.Common.{◌≡◌, ◌∙◌, ℕ, ◌<◌, List, length, arith, sym, ap, subst}
use Rattle.std.specs.List.{All}
use Rattle.markdown_content.specs.declared.configuration.ParseOptions.{ParseOptions}
use Rattle.markdown_engine_events.specs.Edits.{CanEdit, edited}
use Rattle.markdown_event.specs.declared.event.Event.{Event}
use Rattle.markdown_engine.specs.declared.tokenizer.Tokenizer.{Tokenizer}
use Rattle.markdown_engine_events.specs.declared.util.edit_map.Edit.{Edit}
use Rattle.markdown_attention.specs.RunsOfEvents.{runs_of_events}
use Rattle.markdown_attention.specs.NumberedPairs.{run_at}
use Rattle.markdown_attention.specs.PairScan.{Numbered}
use Rattle.markdown_attention.specs.declared.attention.pairing.Pair.{Pair}
use Rattle.markdown_attention.specs.declared.attention.runs.Sequence.{Sequence}
use Rattle.markdown_attention.specs.AttentionPass.{MayPair, IsPairing, IsGrouped}
use Rattle.markdown_attention.specs.RunEdits.{run_edits, point_in}
use Rattle.markdown_attention.specs.PairSizes.{HasRoomFor}
use Rattle.markdown_attention.proofs.RunRoom.{has-room, have-openers}
use Rattle.markdown_attention.proofs.AttentionEditsLaw.{log-same, group-can, numbered-is}
use Rattle.markdown_content.specs.Codes.{Code}

-- U is T; these runs and pairs are what pairing leaves of the runs of T
module _ (T U : Tokenizer) (same : U ≡ T) (may : MayPair T) (list fin runs : List Sequence) (found pairs : List Pair) (probes : ℕ) (read : list ≡ runs_of_events T)
    (left : IsPairing T.parse_state.now.options.now list fin found probes) (are : runs ≡ fin) (as_found : pairs ≡ found) where
  abbrev options : ParseOptions
  options = T.parse_state.now.options.now

  abbrev bytes : List ℕ
  bytes = T.parse_state.now.bytes.now

  abbrev content : List Code
  content = T.cursor.codes

  pairing : IsPairing T.parse_state.now.options.now (runs_of_events T) runs pairs probes
  pairing = grind arith

  pub numbered-in : Numbered runs
  numbered-in i l = grind (arith, pairing, numbered-is)

  pub openers-in : All (λ p. p.opener < length runs) pairs
  openers-in = have-openers options bytes content T.events may.places may.ends may.room runs pairs pairing.left pairing.within

  pub room-in : (i : ℕ) → i < length runs → HasRoomFor U.events (length runs) pairs (run_at runs i)
  room-in i l =
      subst (λ (X : Tokenizer). HasRoomFor X.events (length runs) pairs (run_at runs i)) (sym same)
      (has-room options bytes content T.events may.places may.ends may.room runs pairs pairing.left pairing.within pairing.once i l)

  pub can-in : CanEdit (run_edits (point_in U.events) pairs runs) U.events
  can-in =
      subst (λ (X : Tokenizer). CanEdit (run_edits (point_in X.events) pairs runs) X.events) (sym same)
      (group-can options bytes content T.events may.places runs pairs pairing.left may.ends)

  pub grouped-in : (after : List Event) → after ≡ edited (run_edits (point_in U.events) pairs runs) U.events →
      IsGrouped T.parse_state.now.options.now (runs_of_events T) T.events after probes
  grouped-in after e = record {
    pairs = pairs;
    lists = pairing.lists;
    within = pairing.within;
    once = pairing.once;
    events =
        e ∙ ap (λ (X : Tokenizer). edited (run_edits (point_in X.events) pairs runs) X.events) same
        ∙ ap (λ (x : List Edit). edited x T.events) (log-same options bytes content T.events may.places runs pairs pairing.left);
    at_least = pairing.at_least;
    at_most = pairing.at_most;
    scan = pairing.scan;
  }
