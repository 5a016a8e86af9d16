-- A code that is no later byte begins a character.
use Rattle.std.proofs.Common.{sym, subst}
use Rattle.std.specs.Str.{IsCharBoundary}
use Rattle.markdown_event.specs.declared.event.Point.{Point}
use Rattle.markdown_leaf_gfm.proofs.TrailChecks.{class-by}
use Rattle.markdown_leaf_gfm.proofs.domain_outlook.class_at.Goals as goal

pub kind_after_index-requires-clause-boundary : goal.kind_after_index-requires-clause-boundary
kind_after_index-requires-clause-boundary c =
    subst (λ (q : Point). IsCharBoundary c.args.bytes.now q.index) (sym c.point.ensures) (class-by c.args.bytes.now c.args.place.now c.requires.text c.requires.begins)
