-- A whole run over a text by its states alone.
use Rattle.std.proofs.Common.{◌≡◌, Bool, false, List, None, refl, arith}
use Rattle.markdown_engine_events.specs.EventChains.{chained}
use Rattle.markdown_content.specs.Content.{IsContent, content_of}
use Rattle.markdown_content.specs.Place.{Place}
use Rattle.markdown_content.specs.declared.parser.ParseState.{ParseState}
use Rattle.markdown_content.specs.declared.parser.Piece.{Piece}
use Rattle.markdown_engine.specs.Operations.{scratched}
use Rattle.markdown_engine.specs.PassesInOrder.{MayResolve, Resolves, unregistered}
use Rattle.markdown_engine.specs.declared.tokenizer.TokenizeState.{TokenizeState}
use Rattle.markdown_engine.specs.declared.tokenizer.Tokenizer.{Tokenizer}
use Rattle.markdown_attention.specs.AttentionPass.{IsProbed}
use Rattle.markdown_model.specs.InlineTree.{text_events, label_tree}
use Rattle.markdown_model.specs.Setting.{Setting}
use Rattle.markdown_run_text.specs.RunOverElements.{Finishes}
use Rattle.markdown_run_text.specs.ContentPasses.{may_resolve_of, resolves_of}
use Rattle.markdown_run_text.specs.RunSetting.{text_setting_of}
use Rattle.markdown_run_text.specs.TextContent.{marked_fields, text_choice_of, text_marked, text_passed, start_ends}
use Rattle.markdown_run.proofs.FinishedTexts.{read-may, read-probes, read-no-probes, read-events}
use Rattle.markdown_run.proofs.TextRun.{text_fields, text_start}
use Rattle.markdown_run.proofs.WholeRun.{StartsContent, start-with, AreFresh}

-- the fields are fresh where data stops at the markers of a text
fresh-marked : (first : Bool) (c : Place) (p : ParseState) → AreFresh (marked_fields c p (text_fields None first))
fresh-marked first c p = record { labels = refl; starts = refl; loose = refl; end = refl; seen = refl; probes = refl }

module _ (p : ParseState) (pieces : List Piece) (first : Bool) (content : IsContent p.bytes.now pieces) (T U : Tokenizer) (start : text_start p pieces None first T) where
  abbrev M : Tokenizer
  M = text_marked T

  abbrev Fields : TokenizeState
  Fields = marked_fields T.cursor T.parse_state.now (text_fields None first)

  S : StartsContent p pieces Fields M
  unfolding scratched
  S = grind (arith, start-with)

  F : AreFresh Fields
  F = fresh-marked first T.cursor T.parse_state.now

  ended : (ok : Bool) → start_ends T ok U → Finishes (text_choice_of M) text_passed M U
  ended ok k = grind arith

  -- however the states end
  module _ (ok : Bool) (k : start_ends T ok U) where
    pub states-may : MayResolve may_resolve_of resolves_of U.resolvers (unregistered U)
    states-may = read-may p pieces first content Fields F refl M U S (ended ok k)

    module _ (V : Tokenizer) (r : Resolves resolves_of U.resolvers (unregistered U) V) where
      abbrev setting : Setting
      setting = text_setting_of p first

      -- the looks that pairing took are within the bounds of the content's tree of labels
      pub states-probes : IsProbed setting (label_tree setting (content_of p.bytes.now pieces)) V.tokenize_state.probes
      states-probes = read-probes p pieces first content Fields F refl M U S (ended ok k) V r

      -- where runs are not looked for none is taken
      pub states-no-probes : setting.options.constructs.attention ≡ false →
          setting.options.constructs.gfm_strikethrough ≡ false → V.tokenize_state.probes ≡ 0
      states-no-probes = read-no-probes p pieces first content Fields F refl M U S (ended ok k) V r

      -- the events after the states and their passes
      pub states-run : chained V.events ≡ text_events setting pieces
      states-run = read-events p pieces first content Fields F refl M U S (ended ok k) V r
