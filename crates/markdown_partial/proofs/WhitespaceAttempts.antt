-- whitespace as it was asked for, for the states that attempt it
use Rattle.std.proofs.Common.{◌≡◌, ℕ, ◌≤◌, Bool, true, Option, None, is_some, sym, ap, subst}
use Rattle.markdown_engine.specs.Operations.{current_of, scratched, LinkedBefore}
use Rattle.markdown_engine.specs.PastTree.{EndsAs, link_before}
use Rattle.markdown_engine.specs.Weights.{codes_left}
use Rattle.markdown_event.specs.declared.event.Content.{Content}
use Rattle.markdown_event.specs.declared.event.Name.{Name}
use Rattle.markdown_engine.specs.declared.tokenizer.TokenizeState.{TokenizeState}
use Rattle.markdown_engine.specs.declared.tokenizer.Tokenizer.{Tokenizer}
use Rattle.markdown_engine.proofs.ReadingSequences.{EndsAs-scratched}
use Rattle.markdown_model.specs.Whitespace.{space_or_tab, space_or_tab_eol}
use Rattle.markdown_partial.specs.PartialSpaceOrTab as PartialSpaceOrTab
use Rattle.markdown_partial.specs.PartialSpaceOrTab.{most, asked, rested}
use Rattle.markdown_partial.specs.PartialSpaceOrTabEol as PartialSpaceOrTabEol
use Rattle.markdown_partial.specs.PartialSpaceOrTabEol.{WhitespaceAtRest, eol_asked, eol_rested}
use Rattle.markdown_plan.specs.ByteTests.{at_blank}

-- where the fields of whitespace are at rest it may be asked for
pub asked-ready : (min max : ℕ) (kind : Name) (connect : Bool) (content : Option Content) (T : Tokenizer) →
    rested T.tokenize_state ≡ T.tokenize_state → (connect ≡ true → LinkedBefore T) →
    PartialSpaceOrTab.SpaceOrTabStartReady (scratched (asked min max kind connect content T.tokenize_state) T)
unfolding scratched
asked-ready min max kind connect content T r linked =
    record { none_yet = ap (λ (s : TokenizeState). s.space_or_tab_size) (sym r); linked = linked }

-- and it is read as it was asked for, with the fields at rest
pub asked-ends : (min max : ℕ) (kind : Name) (connect : Bool) (content : Option Content) (T : Tokenizer) →
    rested T.tokenize_state ≡ T.tokenize_state → (ok : Bool) (U : Tokenizer) →
    PartialSpaceOrTab.start_ends (scratched (asked min max kind connect content T.tokenize_state) T) ok U →
    EndsAs (space_or_tab kind content min max) (link_before connect T) T.tokenize_state T ok U
unfolding scratched
asked-ends min max kind connect content T r ok U k =
    let s : TokenizeState = asked min max kind connect content T.tokenize_state in
    let P : TokenizeState → Type 0 = λ q. EndsAs (space_or_tab kind content min max) (link_before connect T) q T ok U in
    subst P r (EndsAs-scratched _ _ (rested T.tokenize_state) s T ok U k)

-- The same for whitespace with a line ending.

pub eol-asked-ready : (connect : Bool) (content : Option Content) (T : Tokenizer) → codes_left T ≤ most →
    WhitespaceAtRest T.tokenize_state → (connect ≡ true → LinkedBefore T) → (connect ≡ true → is_some content ≡ true) →
    (at_blank (current_of T) ≡ true → content ≡ None) →
    PartialSpaceOrTabEol.SpaceOrTabEolStartReady (scratched (eol_asked connect content T.tokenize_state) T)
unfolding scratched
eol-asked-ready connect content T short r linked contents plain =
    record {
      begins = record { short = short; resting = ap (eol_asked connect content) r.space; linked = linked; contents = contents };
      none_yet = ap (λ (s : TokenizeState). s.space_or_tab_eol_ok) (sym r.eol);
      plain = plain;
    }

pub eol-asked-ends : (connect : Bool) (content : Option Content) (T : Tokenizer) → WhitespaceAtRest T.tokenize_state →
    (ok : Bool) (U : Tokenizer) →
    PartialSpaceOrTabEol.start_ends (scratched (eol_asked connect content T.tokenize_state) T) ok U →
    EndsAs (space_or_tab_eol content) (link_before connect T) T.tokenize_state T ok U
unfolding scratched
eol-asked-ends connect content T r ok U k =
    let s : TokenizeState = eol_asked connect content T.tokenize_state in
    let P : TokenizeState → Type 0 = λ q. EndsAs (space_or_tab_eol content) (link_before connect T) q T ok U in
    subst P r.eol (EndsAs-scratched _ _ (eol_rested T.tokenize_state) s T ok U k)
