-- A construct that does not hold is put back.
use Rattle.std.proofs.Common.{◌≡◌, ◌-◌, ℕ, Bool, true, false, List, Option, None, Some, length, take, drop, refl, ◌∙◌, arith}
use Rattle.markdown_content.specs.Codes.{Code}
use Rattle.markdown_engine.specs.Operations.{ahead, frame_of}
use Rattle.markdown_engine.specs.PastTree.{TreeReading, Refuses, EndsAs}
use Rattle.markdown_engine.specs.StateRuns.{restored}
use Rattle.markdown_event.specs.declared.state.State.TheVariants as State
use Rattle.markdown_event.specs.declared.state.StateName.{StateName}
use Rattle.markdown_event.specs.declared.state.StateName.TheVariants.{AttentionStart, DataStart, DestinationStart, LabelStart, TitleStart, GfmLabelStartFootnoteStart}
use Rattle.markdown_event.specs.declared.state.StateName.TheVariants.{LabelEndStart, LabelStartImageStart, LabelStartLinkStart, SpaceOrTabStart, SpaceOrTabEolStart}
use Rattle.markdown_engine.specs.declared.tokenizer.TokenizeState.{TokenizeState}
use Rattle.markdown_engine.specs.declared.tokenizer.Tokenizer.{Tokenizer}
use Rattle.markdown_engine.proofs.ReadingSequences.{scratched-same}
use Rattle.markdown_engine.proofs.LawSteps.{restored-fails}
use Rattle.markdown_attention.specs.Attention.{ReadsRun}
use Rattle.markdown_label.specs.LabelEnd.{Ends, EndFails, lost_fields}
use Rattle.markdown_label.specs.LabelStarts.{BeginsNot, image_test, link_test, footnote_test}
use Rattle.markdown_model.specs.Grammar.{Reading}
use Rattle.markdown_model.specs.LabelEnd.{Element}
use Rattle.markdown_run_text.specs.ReaderEnds.{ReadsOrStays, BeginsOrStays}
use Rattle.markdown_run_text.specs.Row.{past_mark}
use Rattle.markdown_run_text.specs.TextContent.{tried_reading}
use Rattle.markdown_run.specs.RunConstruct.{IsConstruct, OtherAsks, TriedAsks, Asks, chain_before, fields_after, start_reading, EndsOrLoses, OtherEnds, EndsBy, ConstructEnds}
use Rattle.markdown_run_text.proofs.LabelStartConstructs.{image-begins, link-begins, footnote-begins, image-not, link-not, footnote-not}
use Rattle.markdown_run.specs.Layer.{ends_of, ready_of}

-- U with the events, the edits, the open names and the place of T
abbrev pub put_back : Tokenizer → Tokenizer → Tokenizer
put_back T U =
    record U { events = take (length T.events) U.events; map = take (length T.map) U.map; stack = drop (length U.stack - length T.stack) U.stack; cursor = T.cursor }

refuses-stays : (r : TreeReading) (previous : Option ℕ) (s : TokenizeState) (T U V : Tokenizer) → Refuses r s T U →
    V ≡ put_back T U → ReadsOrStays None r previous s T false V
unfolding restored frame_of
refuses-stays r previous s T U V k e = (k.refused, e ∙ restored-fails false State.Ok State.Nok s T U k.fails)

-- the start of a label that is not read

begins-not : (reading : Reading Element) (d : ℕ) (test : List Code → Bool) (T U V : Tokenizer) → d ≡ 0 →
    (test (ahead T) ≡ false → reading (ahead T) ≡ None) → BeginsNot d test T U → V ≡ put_back T U →
    BeginsOrStays reading T false V
unfolding restored frame_of
begins-not reading d test T U V h none k e = grind (arith, restored-fails false State.Ok State.Nok T.tokenize_state T U, scratched-same T)

ends-not : (T U V : Tokenizer) → EndFails T U → V ≡ put_back T U → EndsOrLoses T false V
unfolding restored frame_of
ends-not T U V k e = (k.refused, e ∙ restored-fails false State.Ok State.Nok (lost_fields T) T U k.fails)

-- how runs of the states of a construct end, by what it reads where it is tried in a text
abbrev TriedEnds : Option (Tokenizer → TreeReading) → StateName → Tokenizer → Bool → Tokenizer → Type 0
TriedEnds None name T ok U = ends_of name T ok U
TriedEnds (Some reading) name T ok U = EndsAs (reading T) None T.tokenize_state T ok U

tried-ends : (name : StateName) (T U : Tokenizer) (ok : Bool) → ends_of name T ok U →
    TriedEnds (tried_reading name) name T ok U
tried-ends name T U ok k = grind arith

-- what a construct asks, the state that starts it asks

other-ready : (name : StateName) (T : Tokenizer) → OtherAsks name T → ready_of name T
other-ready name T c = grind arith

tried-ready : (name : StateName) (T : Tokenizer) → TriedAsks name T → ready_of name T
tried-ready name T c = grind arith

-- and the other way round
pub ready-tried : (name : StateName) (T : Tokenizer) (reading : Tokenizer → TreeReading) → tried_reading name ≡ Some reading → ready_of name T →
    TriedAsks name T
ready-tried name T reading e c = grind arith

asks-ready : (o : Option (Tokenizer → TreeReading)) (name : StateName) (T : Tokenizer) → Asks o name T → ready_of name T
asks-ready o name T c = grind (arith, other-ready, tried-ready)

pub construct-ready : (name : StateName) (T : Tokenizer) → IsConstruct name T → ready_of name T
construct-ready name T c = asks-ready (tried_reading name) name T c

-- a construct that is refused

refused-other : (name : StateName) (T U V : Tokenizer) → OtherAsks name T → ends_of name T false U → V ≡ put_back T U →
    OtherEnds name T false V
refused-other AttentionStart T U V c k e = refuses-stays _ None T.tokenize_state T U V k e
refused-other DestinationStart T U V c k e = refuses-stays _ None T.tokenize_state T U V k e
refused-other TitleStart T U V c k e = refuses-stays _ None T.tokenize_state T U V k e
refused-other LabelStart T U V c k e = refuses-stays _ None T.tokenize_state T U V k e
refused-other DataStart T U V c k e = refuses-stays _ None T.tokenize_state T U V k e
refused-other SpaceOrTabStart T U V c k e =
    refuses-stays _ (chain_before SpaceOrTabStart T) (fields_after SpaceOrTabStart T.tokenize_state) T U V k e
refused-other SpaceOrTabEolStart T U V c k e =
    refuses-stays _ (chain_before SpaceOrTabEolStart T) (fields_after SpaceOrTabEolStart T.tokenize_state) T U V k e
refused-other LabelStartImageStart T U V c k e =
    begins-not (start_reading LabelStartImageStart T) 0 (image_test T) T U V refl (image-not T) k e
refused-other LabelStartLinkStart T U V c k e =
    begins-not (start_reading LabelStartLinkStart T) 0 (link_test T) T U V refl (link-not T) k e
refused-other GfmLabelStartFootnoteStart T U V c k e =
    begins-not (start_reading GfmLabelStartFootnoteStart T) 0 (footnote_test T) T U V refl (footnote-not T) k e
refused-other LabelEndStart T U V c k e = ends-not T U V k e
refused-other _ T U V c k e = absurd c

refused-stays : (o : Option (Tokenizer → TreeReading)) (name : StateName) (T U V : Tokenizer) → Asks o name T →
    TriedEnds o name T false U → V ≡ put_back T U → EndsBy o name T false V
refused-stays None name T U V c k e = refused-other name T U V c k e
refused-stays (Some reading) name T U V c k e = refuses-stays (reading T) None T.tokenize_state T U V k e

pub construct-stays : (name : StateName) (T U V : Tokenizer) (ok : Bool) → IsConstruct name T → ok ≡ false →
    ends_of name T ok U → V ≡ put_back T U → ConstructEnds name T ok V
construct-stays name T U V ok c h k e = grind (arith, refused-stays, tried-ends)

-- an end of a label that is read
pub ends-made : (T U : Tokenizer) → Ends T U → EndsOrLoses T true U
unfolding past_mark
ends-made T U k = grind arith

-- a construct that holds

other-reads : (name : StateName) (T U : Tokenizer) → OtherAsks name T → ends_of name T true U → OtherEnds name T true U
other-reads AttentionStart T U c k = let r : ReadsRun T U = k in (r.there, (r.reads, r.left))
other-reads DestinationStart T U c k = k
other-reads TitleStart T U c k = k
other-reads LabelStart T U c k = k
other-reads DataStart T U c k = k
other-reads SpaceOrTabStart T U c k = k
other-reads SpaceOrTabEolStart T U c k = k
other-reads LabelStartImageStart T U c k = image-begins T U k
other-reads LabelStartLinkStart T U c k = link-begins T U k
other-reads GfmLabelStartFootnoteStart T U c k = footnote-begins T U k
other-reads LabelEndStart T U c k = ends-made T U k
other-reads _ T U c k = absurd c

read-so : (o : Option (Tokenizer → TreeReading)) (name : StateName) (T U : Tokenizer) → Asks o name T →
    TriedEnds o name T true U → EndsBy o name T true U
read-so o name T U c k = grind (arith, other-reads)

pub construct-reads : (name : StateName) (T U : Tokenizer) (ok : Bool) → IsConstruct name T → ok ≡ true →
    ends_of name T ok U → ConstructEnds name T ok U
construct-reads name T U ok c h k = grind (arith, read-so, tried-ends)
