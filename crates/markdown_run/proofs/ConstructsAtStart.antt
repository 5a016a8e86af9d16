-- At the start of a content every construct may be read.
use Rattle.std.proofs.Common.{◌≡◌, ℕ, ◌≤◌, true, false, Option, None, is_some, List, ap, sym, ◌∙◌, arith}
use Rattle.markdown_content.specs.Codes.{Code}
use Rattle.markdown_content.specs.Content.{IsContent, IsTextContent}
use Rattle.markdown_engine.specs.Operations.{Consume, applied, current_of, scratched}
use Rattle.markdown_content.specs.Place.{Place, start_of_content}
use Rattle.markdown_engine.specs.RestingFields.{at_rest}
use Rattle.markdown_notes.specs.RunIndex.{LastRuns, last_runs, no_runs}
use Rattle.markdown_engine.specs.Weights.{left_at, codes_left}
use Rattle.markdown_content.specs.declared.parser.Piece.{Piece}
use Rattle.markdown_event.specs.declared.event.Name.TheVariants as N
use Rattle.markdown_engine.specs.declared.tokenizer.TokenizeState.{TokenizeState}
use Rattle.markdown_engine.specs.declared.tokenizer.Tokenizer.{Tokenizer}
use Rattle.markdown_engine.proofs.OperationFields.{left-consumed}
use Rattle.markdown_engine.proofs.PlaceBounds.{codes-fit}
use Rattle.markdown_notes.proofs.RunIndexFacts.{none-known}
use Rattle.markdown_plan.specs.Characters.{bytes_of, ReadsText}
use Rattle.markdown_plan.proofs.ContentCharacters.{content-text}
use Rattle.markdown_plan.proofs.ContentEnds.{content-ends}
use Rattle.markdown_leaf_gfm.specs.GfmAutolinkLiteral as GfmAutolinkLiteral
use Rattle.markdown_leaf.specs.RawText as RawText
use Rattle.markdown_partial.proofs.WhitespaceAttempts.{asked-ready, eol-asked-ready}
use Rattle.markdown_partial.specs.PartialSpaceOrTabEol as PartialSpaceOrTabEol
use Rattle.markdown_partial.specs.PartialSpaceOrTab as PartialSpaceOrTab
use Rattle.markdown_partial.specs.PartialSpaceOrTab.{most}
use Rattle.markdown_run_text.specs.TextContent.{EndsWithCodes}

pub start-fits : (bytes : List ℕ) (pieces : List Piece) (T : Tokenizer) → IsContent bytes pieces →
    T.cursor ≡ start_of_content bytes pieces → codes_left T ≤ most
start-fits bytes pieces T k e = omega (arith, codes-fit bytes pieces k, ap left_at e)

-- nothing is known of the runs
pub unknown-runs : (s : TokenizeState) (cs : List Code) → s.runs ≡ no_runs → s.runs ≡ last_runs s.runs.asked cs
unknown-runs s cs e = e ∙ none-known cs ∙ ap (λ (x : LastRuns). last_runs x.asked cs) (sym e)

pub start-spans : (T : Tokenizer) → T.tokenize_state ≡ at_rest → codes_left T ≤ most → RawText.RawTextStartReady T
start-spans T e fits = grind arith

-- Literals.

-- the content is read as characters
pub start-reads : (bytes : List ℕ) (pieces : List Piece) (T : Tokenizer) → IsContent bytes pieces → bytes_of T ≡ bytes →
    T.cursor ≡ start_of_content bytes pieces → ReadsText T
unfolding start_of_content
start-reads bytes pieces T content input place = grind (arith, content-text bytes pieces 0)

pub start-literals : (bytes : List ℕ) (pieces : List Piece) (T : Tokenizer) → IsContent bytes pieces →
    bytes_of T ≡ bytes → T.cursor ≡ start_of_content bytes pieces →
    GfmAutolinkLiteral.rested T.tokenize_state ≡ T.tokenize_state → GfmAutolinkLiteral.LiteralStartReady T
start-literals bytes pieces T content input place resting = grind (arith, start-reads bytes pieces T, start-fits bytes pieces T)

-- a text content that has codes ends with the last of them
pub start-last : (bytes : List ℕ) (pieces : List Piece) (p : Place) → IsTextContent bytes pieces →
    p ≡ start_of_content bytes pieces → EndsWithCodes p
unfolding start_of_content
start-last bytes pieces p text place = grind (arith, content-ends)

-- Whitespace that is asked for, where nothing is.

pub start-space : (min max : ℕ) (T : Tokenizer) → T.tokenize_state ≡ at_rest →
    PartialSpaceOrTab.SpaceOrTabStartReady (scratched (PartialSpaceOrTab.asked min max N.SpaceOrTab false None T.tokenize_state) T)
start-space min max T e = grind (arith, asked-ready)

pub start-spacing : (T : Tokenizer) → T.tokenize_state ≡ at_rest → codes_left T ≤ most →
    PartialSpaceOrTabEol.SpaceOrTabEolStartReady (scratched (PartialSpaceOrTabEol.eol_asked false None T.tokenize_state) T)
start-spacing T e fits = grind (arith, eol-asked-ready false None T)

pub past-fits : (o : Option ℕ) (T : Tokenizer) → o ≡ current_of T → is_some o ≡ true → codes_left T ≤ most →
    codes_left (applied Consume T) ≤ most
past-fits o T e h fits = grind (arith, left-consumed)
