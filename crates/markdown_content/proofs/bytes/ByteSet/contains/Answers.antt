use Rattle.std.proofs.Common.{◌∙◌, ap, arith, ℕ, ◌==◌, List}
use Rattle.std.specs.List.{list_any}
use Rattle.markdown_content.proofs.ByteSetLemmas.{contained-above}
use Rattle.markdown_content.proofs.bytes.ByteSet.contains.Goals as goal

pub returns-then-byte-gt13 : goal.returns-then-byte-gt13
returns-then-byte-gt13 c =
    contained-above c.self.inside.bytes.now c.self.inside.plain.now c.args.byte c.self.invariant.0 (omega arith) c.if-byte-gt13.true
    ∙ ap (λ (set : List ℕ). list_any (λ n. c.args.byte == n) set) c.self.view_is
