-- The events of the starts of labels.
use Rattle.std.proofs.Common.{◌≡◌, ℕ, ◌+◌, ◌≤◌, List, [], ◌∷◌, length, refl, arith, length-append}
use Rattle.markdown_engine.specs.Operations.{Op, Enter, Exit, EnterLink, EnterConnected, Consume, applied, done}
use Rattle.markdown_engine.specs.declared.tokenizer.Tokenizer.{Tokenizer}
use Rattle.markdown_label.specs.LabelStarts.{link_ops, footnote_front, footnote_back, image_front, image_back, FootnoteOpenReady, ImageOpenReady, ImageAfterReady}

abbrev op_writes : Op → ℕ
op_writes Consume = 0
op_writes _ = 1

-- how many events operations append
abbrev pub writes : List Op → ℕ
writes [] = 0
writes (o ∷ os) = op_writes o + writes os

op-written : (o : Op) (T : Tokenizer) → length (applied o T).events ≡ length T.events + op_writes o
unfolding applied
op-written (Enter n) T = length-append T.events _
op-written (Exit n) T = length-append T.events _
op-written (EnterLink n c) T = length-append T.events _
op-written (EnterConnected n c) T = length-append T.events _
op-written Consume T = omega arith

pub written : (os : List Op) (T : Tokenizer) → length (done os T).events ≡ length T.events + writes os
written [] T = omega arith
written (o ∷ os) T = omega (arith, written os (applied o T), op-written o T)

pub long-link : (T : Tokenizer) → 4 ≤ length (done link_ops T).events
long-link T = omega (arith, written link_ops T)

pub long-footnote : (T : Tokenizer) → 3 ≤ length T.events → 6 ≤ length (done footnote_back T).events
long-footnote T h = omega (arith, h, written footnote_back T)

pub footnote-open-ready : (T : Tokenizer) → FootnoteOpenReady (done footnote_front T)
unfolding applied
footnote-open-ready T = record { whole = refl; begun = omega (arith, written footnote_front T) }

pub image-open-ready : (T : Tokenizer) → ImageOpenReady (done image_front T)
unfolding applied
image-open-ready T = record { whole = refl; begun = omega (arith, written image_front T) }

pub image-after-ready : (T : Tokenizer) → ImageOpenReady T → ImageAfterReady (done image_back T)
image-after-ready T h = omega (arith, h.begun, written image_back T)
