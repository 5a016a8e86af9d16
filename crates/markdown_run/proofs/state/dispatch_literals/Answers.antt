use Rattle.std.proofs.Common.{subst}
use Rattle.markdown_event.specs.declared.state.StateName.{StateName}
use Rattle.markdown_leaf_gfm.specs.GfmAutolinkLiteral.{LiteralReady, PathReady, CodeReady, LookReady}
use Rattle.markdown_leaf_gfm.proofs.TrailChecks.{may-class, may-count, trail-ready}
use Rattle.markdown_run.specs.Layer.{ready_of}
use Rattle.markdown_run.proofs.state.dispatch_literals.Goals as goal

pub domain_inside-requires : goal.domain_inside-requires
domain_inside-requires c =
    let r : LiteralReady c.args.tokenizer.now = subst (λ (n : StateName). ready_of n c.args.tokenizer.now) c.in-GfmAutolinkLiteralDomainInside.is c.requires.ready in
    may-class c.args.tokenizer.now r.text

pub path_inside-requires-clause-class : goal.path_inside-requires-clause-class
path_inside-requires-clause-class c =
    let r : PathReady c.args.tokenizer.now = subst (λ (n : StateName). ready_of n c.args.tokenizer.now) c.in-GfmAutolinkLiteralPathInside.is c.requires.ready in
    may-class c.args.tokenizer.now r.literal.text

pub path_inside-requires-clause-count : goal.path_inside-requires-clause-count
path_inside-requires-clause-count c =
    let r : PathReady c.args.tokenizer.now = subst (λ (n : StateName). ready_of n c.args.tokenizer.now) c.in-GfmAutolinkLiteralPathInside.is c.requires.ready in
    may-count c.args.tokenizer.now r.literal

pub path_at_punctuation-requires-clause-count : goal.path_at_punctuation-requires-clause-count
path_at_punctuation-requires-clause-count c =
    let r : CodeReady c.args.tokenizer.now = subst (λ (n : StateName). ready_of n c.args.tokenizer.now) c.in-GfmAutolinkLiteralPathAtPunctuation.is c.requires.ready in
    may-count c.args.tokenizer.now r.goes_on

pub trail-requires : goal.trail-requires
trail-requires c =
    let r : LookReady c.args.tokenizer.now = subst (λ (n : StateName). ready_of n c.args.tokenizer.now) c.in-GfmAutolinkLiteralTrail.is c.requires.ready in
    trail-ready c.args.tokenizer.now r
