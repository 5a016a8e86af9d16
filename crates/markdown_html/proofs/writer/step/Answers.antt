use Rattle.std.proofs.Common.{◌≡◌, ◌∙◌, ◌+◌, sym, ap, subst, drop, All, IfOk}
use Rattle.markdown_innermost.specs.InnermostEvents.{innermost, IsSpanInOrder}
use Rattle.markdown_html.specs.View.{page_of, state_of}
use Rattle.markdown_html.specs.EventWalk.{State, walked}
use Rattle.markdown_html.proofs.WalkTree.{passed, silent-passed, step-exit, step-leaf, step-enter}
use Rattle.markdown_html.proofs.Lists.{drop_at, first_within, places_from}
use Rattle.markdown_html.proofs.writer.step.Goals.{in-Exit+in_ok-exit-in-Exit, in-Enter-2+in_ok-enter-in-Enter-2}
use Rattle.markdown_html.proofs.writer.step.Goals as goal

pub leaf-requires-clause-in_order : goal.leaf-requires-clause-in_order
leaf-requires-clause-in_order c =
    let bytes = c.args.given.now.bytes.now in
    let events = c.args.events.now in
    first_within bytes c.at-event.result (drop (c.args.index + 1) events) c.in-Enter.is
    (subst (λ es. All (IsSpanInOrder bytes) (innermost es)) (drop_at events c.args.index c.at-event.result c.requires.index c.at-event.ensures) (places_from bytes c.args.index events c.requires.places))

pub returns-in-Enter-clause-walk : goal.returns-in-Enter-clause-walk
returns-in-Enter-clause-walk c =
    let p = page_of c.args.given.now in
    let s : State = state_of c.args.writer.now in
    let events = c.args.events.now in
    subst (λ y. IfOk c.leaf.result (λ next. walked p (state_of c.leaf.new.self) (drop next events) ≡ y))
    (passed p s _ events c.args.index c.at-event.result c.requires.index c.at-event.ensures
    (step-leaf p s c.at-event.result (drop (c.args.index + 1) events) c.role_of-role.result c.role_of-role.ensures c.in-Enter.is (sym c.is_leaf.ensures ∙ c.if-is_leaf.true)))
    c.leaf.ensures.walk

pub returns-clause-walk : goal.returns-clause-walk
returns-clause-walk c =
    let p = page_of c.args.given.now in
    let s : State = state_of c.args.writer.now in
    let events = c.args.events.now in
    let rest = drop (c.args.index + 1) events in
    passed p s (state_of c.match-event.writer) events c.args.index c.at-event.result c.requires.index c.at-event.ensures
    (elim c.match-event.branch [
      | in-Exit+in_ok-exit-in-Exit w ↦
          step-exit p s c.at-event.result rest c.role_of-role.result c.role_of-role.ensures w.in-Exit.is ∙ sym w.in_ok-exit-in-Exit.ensures ∙ ap state_of (sym w.writer-is)
      | in-Enter-2+in_ok-enter-in-Enter-2 w ↦
          step-enter p s c.at-event.result rest c.role_of-role.result c.role_of-role.ensures w.in-Enter-2.is (sym w.is_leaf.ensures ∙ w.if-is_leaf.false)
          ∙ sym w.in_ok-enter-in-Enter-2.ensures ∙ ap state_of (sym w.writer-is)
    ])

pub returns-then-is_silent-clause-walk : goal.returns-then-is_silent-clause-walk
returns-then-is_silent-clause-walk c =
    silent-passed (page_of c.args.given.now) (state_of c.args.writer.now) c.args.events.now c.args.index c.at-event.result c.role_of-role.result c.is_silent.result
    c.requires.index c.at-event.ensures c.role_of-role.ensures c.is_silent.ensures c.if-is_silent.true
