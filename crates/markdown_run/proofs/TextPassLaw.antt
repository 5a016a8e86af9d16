-- The last pass of a text: trimming, and then emails where they are looked for.
use Rattle.std.proofs.Common.{◌≡◌, ℕ, true, List, None, arith}
use Rattle.markdown_engine.specs.PastTree.{appended_from}
use Rattle.markdown_content.specs.CommonMark.{rules_of}
use Rattle.markdown_content.specs.Tree.{Forest}
use Rattle.markdown_content.specs.declared.configuration.Constructs.{Constructs}
use Rattle.markdown_engine.specs.declared.tokenizer.Tokenizer.{Tokenizer}
use Rattle.markdown_model.specs.Passes.{HardBreaks, hard_breaks, with_emails_apart, trimmed}
use Rattle.markdown_passes.specs.TrimmedEvents.{HasParts, HasPlaces}
use Rattle.markdown_passes.proofs.TrimPassLaw.{places-of}
use Rattle.markdown_passes.proofs.TrimmedDataInDocument.{parts-kept}
use Rattle.markdown_run_text.specs.ContentPasses.{FinishesText}

abbrev bytes_in : Tokenizer → List ℕ
bytes_in T = T.parse_state.now.bytes.now

abbrev on_in : Tokenizer → Constructs
on_in T = T.parse_state.now.options.now.constructs

abbrev breaks_in : Tokenizer → HardBreaks
breaks_in T = hard_breaks (on_in T).hard_break_trailing true (rules_of T.parse_state.now.options.now)

-- W is T trimmed
module _ (T W : Tokenizer) (same : W ≡ record T { events = W.events })
    (trims : (t : Forest) → HasParts (bytes_in T) t → T.events ≡ appended_from 0 None t → W.events ≡ appended_from 0 None (trimmed (breaks_in T) true true t)) where
  parts-there : (t : Forest) → HasParts (bytes_in T) t →
      HasParts (bytes_in W) (trimmed (breaks_in T) true true t)
  parts-there t h = grind (arith, parts-kept)

  -- its data stands at places of the document
  pub places-there : (t : Forest) → HasParts (bytes_in T) t → T.events ≡ appended_from 0 None t →
      HasPlaces (bytes_in W) W.events
  places-there t h e = grind (arith, places-of, parts-there)

  -- and V is W with its emails set apart
  pub finishes-with : (V : Tokenizer) → V ≡ record W { events = V.events } →
      ((t : Forest) → HasParts (bytes_in W) t → W.events ≡ appended_from 0 None t → V.events ≡ appended_from 0 None (with_emails_apart t)) →
      (on_in T).gfm_autolink_literal ≡ true → FinishesText T V
  finishes-with V last mails on = grind (arith, parts-there)
