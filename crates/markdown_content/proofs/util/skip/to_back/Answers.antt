use Rattle.std.proofs.Common.{◌≡◌, ◌<◌, ◌∙◌, sym, arith, ℕ, ◌↔◌, IsTrue, Bool, false, List, get_or, length, Contains}
use Rattle.std.proofs.lemmas.Bool.{false≢true}
use Rattle.markdown_event.specs.declared.event.Event.{Event}
use Rattle.markdown_event.specs.declared.event.Name.{Name}
use Rattle.markdown_content.specs.Nesting.{IsNamed}
use Rattle.markdown_content.proofs.NestingLemmas.{named-at, named-from, named-below, none-further}
use Rattle.markdown_content.proofs.util.skip.to_back.Goals as goal

-- the test failed, so the event has none of the names
unnamed : (names : List Name) (es : List Event) (i : ℕ) (x : Event) (b : Bool) → i < length es →
    IsTrue b ↔ Contains names (get_or es i x).name → b ≡ false → IsNamed names es i → ⊥
unnamed names es i x b l t f h = false≢true (sym f ∙ t.1 (named-at names es i x l h))

some-before : (c : goal.In-loop-at) → 0 < c.loop-at.at
some-before c =
    let within : c.loop-at.at < length c.args.events.now = omega arith in
    named-below c.args.names.now c.args.events.now c.args.index c.loop-at.at c.loop-at.invariant.nearest (unnamed c.args.names.now c.args.events.now c.loop-at.at _ _ within c.is_one_of.ensures c.loop-at-test.true) c.requires.some

pub overflow_sub-at : goal.overflow_sub-at
overflow_sub-at c = let l = some-before c in omega arith

pub loop-at-smaller : goal.loop-at-smaller
loop-at-smaller c = let l = some-before c in omega arith

pub loop-at-preserved : goal.loop-at-preserved
loop-at-preserved c =
    let within : c.loop-at.at < length c.args.events.now = omega arith in
    record {
      back = omega arith;
      nearest = none-further c.args.names.now c.args.events.now c.args.index c.loop-at.at c.loop-at.invariant.nearest (unnamed c.args.names.now c.args.events.now c.loop-at.at _ _ within c.is_one_of.ensures c.loop-at-test.true);
    }

pub returns : goal.returns
returns c =
    let within : c.loop-at.at < length c.args.events.now = omega arith in
    record {
      back = c.loop-at.invariant.back;
      named = named-from c.args.names.now c.args.events.now c.loop-at.at _ within (c.is_one_of.ensures.0 c.loop-at-test.false);
      nearest = c.loop-at.invariant.nearest;
    }
