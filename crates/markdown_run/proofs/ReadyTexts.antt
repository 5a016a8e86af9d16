-- A text where constructs may be tried: at its start, and once more or less is known of the content.
use Rattle.std.proofs.Common.{◌≡◌, [], Some, refl, sym, ap, subst, append-nil, arith}
use Rattle.markdown_notes.specs.SequenceIndex.{last_begins}
use Rattle.markdown_notes.specs.TitleIndex.{closers_of}
use Rattle.markdown_notes.proofs.SequenceIndexLemmas.{right-made}
use Rattle.markdown_engine.specs.Operations.{scratched}
use Rattle.markdown_engine.specs.RestingFields.{at_rest}
use Rattle.markdown_engine.specs.declared.tokenizer.TokenizeState.{TokenizeState}
use Rattle.markdown_engine.specs.declared.tokenizer.Tokenizer.{Tokenizer}
use Rattle.markdown_label.proofs.KeptStartPlaces.{within-grown}
use Rattle.markdown_leaf_gfm.proofs.DomainOutlookLemmas.{right-unknown}
use Rattle.markdown_plan.proofs.CharactersAlongContent.{text-scratched}
use Rattle.markdown_run_text.specs.TextContent.{TextStartReady, indexed_fields, named_fields, titles_pay}
use Rattle.markdown_run_text.proofs.TextSteps.{made-known, names-known}
use Rattle.markdown_run.proofs.ConstructsAtStart.{unknown-runs}
use Rattle.markdown_run.specs.ElementsOfText.{indexed, KnowsNothing, text_named, MayTry, IsReady, FinishesAt, LeadsTo, Learns}

-- what is known of the content is right
ready-indexed : (T : Tokenizer) → TextStartReady T → TextStartReady (scratched (indexed_fields T.cursor T.parse_state.now T.tokenize_state) T)
unfolding scratched
ready-indexed T r =
    let f : TokenizeState → TokenizeState = indexed_fields T.cursor T.parse_state.now in
    let U : Tokenizer = scratched (f T.tokenize_state) T in
    record {
      spans = record { rest = ap f r.spans.rest; fits = r.spans.fits };
      look = record { resting = ap f r.look.resting; short = r.look.short };
      literals = record { text = text-scratched (f T.tokenize_state) T r.literals.text; resting = ap f r.literals.resting; short = r.literals.short };
      ends = record {
        part = record { short = r.ends.part.short; indexed = right-made T.cursor.codes (Some (last_begins T.cursor.codes)) refl; titled = λ closers. made-known (titles_pay T.cursor.codes) (closers_of T.cursor.codes) closers; spaces = record { space = ap f r.ends.part.spaces.space; eol = ap f r.ends.part.spaces.eol }; rest = ap f r.ends.part.rest };
        listed = r.ends.listed;
        text = text-scratched (f T.tokenize_state) T r.ends.text;
        within = within-grown T U [] refl (sym (append-nil T.events)) T.tokenize_state.label_starts r.ends.within;
        resting = r.ends.resting;
      };
      last = r.last;
    }

-- once it is known
pub learned : (T U : Tokenizer) → IsReady T → U ≡ scratched (indexed_fields T.cursor T.parse_state.now T.tokenize_state) T → Learns T U
unfolding scratched
learned T U r e = grind (arith, ready-indexed, made-known)

-- nothing more is known
pub learned-nothing : (T : Tokenizer) → IsReady T → Learns T T
unfolding scratched
learned-nothing T r = record { ready = r; same = refl }

-- at the start
ready-named : (T : Tokenizer) → TextStartReady T → TextStartReady (text_named T)
unfolding scratched
ready-named T r =
    let f : TokenizeState → TokenizeState = named_fields T.cursor T.parse_state.now in
    let U : Tokenizer = text_named T in
    record {
      spans = record { rest = ap f r.spans.rest; fits = r.spans.fits };
      look = record { resting = ap f r.look.resting; short = r.look.short };
      literals = record { text = text-scratched (f T.tokenize_state) T r.literals.text; resting = ap f r.literals.resting; short = r.literals.short };
      ends = record {
        part = record { short = r.ends.part.short; indexed = r.ends.part.indexed; titled = r.ends.part.titled; spaces = record { space = ap f r.ends.part.spaces.space; eol = ap f r.ends.part.spaces.eol }; rest = ap f r.ends.part.rest };
        listed = λ names known. names-known T.cursor T.parse_state.now T.tokenize_state.names names r.ends.listed known;
        text = text-scratched (f T.tokenize_state) T r.ends.text;
        within = within-grown T U [] refl (sym (append-nil T.events)) T.tokenize_state.label_starts r.ends.within;
        resting = r.ends.resting;
      };
      last = r.last;
    }

pub named-ready : (T U : Tokenizer) → TextStartReady T → KnowsNothing T → T.attempts ≡ [] → U ≡ text_named T → MayTry U
unfolding scratched
named-ready T U r unknown alone e = grind (arith, ready-named, unknown-runs, right-unknown)

-- it leads to where it stands
pub named-leads : (T U : Tokenizer) → U ≡ text_named T → LeadsTo (text_named T) U
named-leads T U e s V h = subst (λ (x : Tokenizer). FinishesAt (indexed s x) V) e h

-- nothing is known there
pub forgotten-start : (T : Tokenizer) → KnowsNothing T → indexed at_rest (text_named T) ≡ text_named T
unfolding scratched
forgotten-start T h = λ i. record T { tokenize_state = named_fields T.cursor T.parse_state.now (sym h i) }
