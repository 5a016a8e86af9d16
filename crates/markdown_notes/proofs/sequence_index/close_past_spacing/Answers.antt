-- The byte behind the whitespace settles it.
use Rattle.std.proofs.Common.{◌+◌, sym, refl, ◌∙◌}
use Rattle.markdown_content.specs.Place.{ahead_at, moved}
use Rattle.markdown_notes.proofs.SequenceIndexLemmas.{spaced-end, spaced-other, spaced-one}
use Rattle.markdown_notes.proofs.SequenceBytes.{place_in, code-in, code-none}
use Rattle.markdown_notes.proofs.sequence_index.close_past_spacing.Goals as goal

pub returns-then-not-is_spacing : goal.returns-then-not-is_spacing
unfolding ahead_at
returns-then-not-is_spacing c =
    λ cs h.
    spaced-other (place_in cs 0) (place_in cs c.loop-byte.byte-index) _ (c.loop-byte.invariant cs h) (code-in c.args.bytes.now cs c.loop-byte.byte-index h c.loop-byte-test.true) (sym c.is_spacing.ensures ∙ c.if-not-is_spacing.true)

pub loop-byte-preserved : goal.loop-byte-preserved
unfolding moved
loop-byte-preserved c =
    λ cs h.
    spaced-one (place_in cs 0) (place_in cs c.loop-byte.byte-index) (place_in cs (c.loop-byte.byte-index + 1)) _ (c.loop-byte.invariant cs h) (code-in c.args.bytes.now cs c.loop-byte.byte-index h c.loop-byte-test.true) (sym c.is_spacing.ensures ∙ c.if-not-is_spacing.false) refl

pub returns : goal.returns
unfolding ahead_at
returns c =
    λ cs h.
    spaced-end (place_in cs 0) (place_in cs c.loop-byte.byte-index) (c.loop-byte.invariant cs h) (code-none c.args.bytes.now cs c.loop-byte.byte-index h c.loop-byte-test.false)
