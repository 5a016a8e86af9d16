use Rattle.std.proofs.Common.{◌≡◌, ◌∙◌, ◌++◌, ◌∷◌, [], ◌-◌, sym, subst, arith, length, List, ℕ, Bool}
use Rattle.std.specs.Prelude.{slice_range}
use Rattle.markdown_block_definitions.specs.TextCopies.{IsCopied}
use Rattle.markdown_block_definitions.proofs.TextPushes.{copied-one}
use Rattle.markdown_block_definitions.proofs.PlainRuns.{copied-run, filled-up}
use Rattle.markdown_block_definitions.proofs.copy.push_codes.Goals as goal

pub returns-then-behind-spot : goal.returns-then-behind-spot
returns-then-behind-spot c =
    let bytes = c.args.bytes.now in
    let s = c.args.spot in
    let t = c.past_plain-behind.result in
    let v = c.args.values.now.items in
    let b = c.args.firsts.now.items in
    let len : c.len.result ≡ length b = omega arith in
    subst (λ (v1 : List ℕ). IsCopied bytes c.args.piece s t v b v1 c.resize.new.self.items) (sym c.in_ok-extend_from_slice.ensures.items)
    (subst (λ (b1 : List Bool). IsCopied bytes c.args.piece s t v b (v ++ slice_range bytes s.index t.index) b1) (sym (c.in_ok-resize.ensures.items ∙ filled-up b c.len.result _ (t.index - s.index) c.len.ensures len))
    (copied-run bytes c.args.piece s t v b c.requires.is_spot c.past_plain-behind.ensures c.if-behind-spot.true))

pub returns : goal.returns
returns c =
    let bytes = c.args.bytes.now in
    let s = c.args.spot in
    let t = c.read-value.result.1 in
    let v = c.args.values.now.items in
    let b = c.args.firsts.now.items in
    subst (λ (v1 : List ℕ). IsCopied bytes c.args.piece s t v b v1 c.push-2.new.self.items) (sym c.in_ok-push.ensures.items)
    (subst (λ (b1 : List Bool). IsCopied bytes c.args.piece s t v b (v ++ c.read-value.result.0 ∷ []) b1) (sym c.in_ok-push-2.ensures.items)
    (copied-one bytes c.args.piece s t c.read-value.result.0 c.read-value.ensures v b c.requires.started c.requires.before_end))
