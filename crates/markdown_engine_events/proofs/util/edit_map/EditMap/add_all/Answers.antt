use Rattle.std.proofs.Common.{◌≡◌, ◌∙◌, arith, ◌<◌, ◌≤◌, ◌+◌, ◌-◌, take, drop, length, false}
use Rattle.markdown_engine_events.specs.Edits.{is_removed, edits_of, renumbered}
use Rattle.markdown_engine_events.proofs.EditLemmas.{unlinked-seen, renumbered-moved, notes-kept, notes-gone, notes-alone, range-next, stays-from, step-kept, step-chains, placed-put, IsLinked-edited}
use Rattle.markdown_engine_events.proofs.EditRules.{placed-from}
use Rattle.markdown_engine_events.proofs.EditOrder.{adds-unlinked, put-place, rest-place, range-place, rest-later, rest-self}
use Rattle.markdown_engine_events.proofs.EditStretches.{fresh-first, none-more, range-behind, goes-behind, events-gone, events-first}
use Rattle.markdown_engine_events.proofs.util.edit_map.EditMap.add_all.Goals as goal

pub pass_alone-requires-clause-rest : goal.pass_alone-requires-clause-rest
pass_alone-requires-clause-rest c =
    rest-self (c.loop-index.index + 1) c.loop-index.index _ _ (omega arith) c.in_ok-passed.ensures.rest

pub keep-requires-clause-chains : goal.keep-requires-clause-chains
keep-requires-clause-chains c =
    let log = c.args.self.now in
    let es = c.args.events.now in
    let i = c.loop-index.index in
    let l = c.loop-index.invariant in
    let within : i < length es = omega arith in
    let none = none-more c.pass_place.new.done c.pass_alone.new.done es i c.in_ok-alone_to.alone_to (omega (arith, c.if-alone_to-index.false)) c.in_ok-alone_to.ensures.done in
    let put = none ∙ put-place log i c.loop-index.passed.edits (edits_of c.args.edits.now) l.rest c.loop-index.done c.pass_place.new.done c.in_ok-passed.ensures.done in
    let range = range-place log i c.loop-index.passed.edits (edits_of c.args.edits.now) l.rest _ _ (omega arith) l.removed c.in_ok-passed.ensures.removed in
    let stays : is_removed log i ≡ false = stays-from log i c.in_ok-passed.passed.removed_to (omega arith) range c.if-passed-index.false in
    let event = renumbered-moved log es i c.loop-index.notes c.bare_at.result within c.bare_at.ensures.event c.bare_at.ensures.chains l.notes in
    let chains = IsLinked-edited log es (unlinked-seen _ _ c.self.view_is (adds-unlinked c.self.inside.comes c.self.inside.log c.self.invariant.brought.unlinked)) c.requires.can c.bare_at.ensures.chains in
    step-chains log es i c.loop-index.done c.pass_alone.new.done within l.events put c.bare_at.result (renumbered c.loop-index.notes c.bare_at.result) c.bare_at.ensures.event event stays chains

pub loop-index-preserved-then-passed-index : goal.loop-index-preserved-then-passed-index
loop-index-preserved-then-passed-index c =
    let log = c.args.self.now in
    let es = c.args.events.now in
    let i = c.loop-index.index in
    let l = c.loop-index.invariant in
    let d = c.in_ok-passed.passed.removed_to in
    let m = c.next_place-index.result in
    let rest = drop c.in_ok-passed.passed.edits (edits_of c.args.edits.now) in
    let s = c.next_place-index.ensures in
    let past : i < d = c.if-passed-index.true in
    let put = put-place log i c.loop-index.passed.edits (edits_of c.args.edits.now) l.rest c.loop-index.done c.pass_place.new.done c.in_ok-passed.ensures.done in
    let range = range-place log i c.loop-index.passed.edits (edits_of c.args.edits.now) l.rest _ _ (omega arith) l.removed c.in_ok-passed.ensures.removed in
    let behind = rest-place log i c.loop-index.passed.edits (edits_of c.args.edits.now) l.rest c.in_ok-passed.passed.edits c.in_ok-passed.ensures.rest in
    let order = s.from (i + 1) (omega (arith, past, c.min.ensures)) behind.ahead in
    let more : i < m = omega (arith, order) in
    let ahead = s.rest behind.rises in
    let within : m ≤ length es = omega (arith, s.within, c.min.ensures) in
    let upto : m ≤ d = omega (arith, s.within, c.min.ensures) in
    record {
      within = omega (arith, c.in_ok-passed.ensures.within);
      here = within;
      rest = rest-later (i + 1) m log rest order behind ahead;
      events = events-gone log rest es i m d more within behind ahead range upto c.loop-index.done c.pass_place.new.done l.events put;
      notes = notes-gone log es i m c.loop-index.notes (λ j low high. c.requires.can.unlinked j (goes-behind log rest es i m d more within behind ahead range upto j low high)) l.notes;
      removed = range-behind log rest es i m d more within behind ahead (omega arith) range;
    }

pub loop-index-preserved-then-alone_to-index : goal.loop-index-preserved-then-alone_to-index
loop-index-preserved-then-alone_to-index c =
    let log = c.args.self.now in
    let es = c.args.events.now in
    let i = c.loop-index.index in
    let l = c.loop-index.invariant in
    let d = c.in_ok-passed.passed.removed_to in
    let m = c.in_ok-alone_to.alone_to in
    let rest = drop c.in_ok-passed.passed.edits (edits_of c.args.edits.now) in
    let s = c.in_ok-alone_to.ensures in
    let more : i < m = c.if-alone_to-index.true in
    let low : d ≤ i = c.if-passed-index.false in
    let put = put-place log i c.loop-index.passed.edits (edits_of c.args.edits.now) l.rest c.loop-index.done c.pass_place.new.done c.in_ok-passed.ensures.done in
    let range = range-place log i c.loop-index.passed.edits (edits_of c.args.edits.now) l.rest _ _ (omega arith) l.removed c.in_ok-passed.ensures.removed in
    let behind = rest-place log i c.loop-index.passed.edits (edits_of c.args.edits.now) l.rest c.in_ok-passed.passed.edits c.in_ok-passed.ensures.rest in
    let stays : is_removed log i ≡ false = stays-from log i d (omega arith) range low in
    record {
      within = omega (arith, c.in_ok-passed.ensures.within);
      here = s.within;
      rest = rest-later (i + 1) m log rest (omega (arith, more)) behind s.rest;
      events = events-first log rest es i m d more s.within behind s.rest (fresh-first (take (m - i) (drop i es)) s.fresh) (omega arith) range low stays c.loop-index.done c.pass_place.new.done c.pass_alone.new.done l.events put s.done;
      notes = notes-alone log es i m c.loop-index.notes s.ends l.notes;
      removed = range-behind log rest es i m d more s.within behind s.rest (omega arith) range;
    }

pub loop-index-preserved : goal.loop-index-preserved
loop-index-preserved c =
    let log = c.args.self.now in
    let es = c.args.events.now in
    let i = c.loop-index.index in
    let l = c.loop-index.invariant in
    let within : i < length es = omega arith in
    let none = none-more c.pass_place.new.done c.pass_alone.new.done es i c.in_ok-alone_to.alone_to (omega (arith, c.if-alone_to-index.false)) c.in_ok-alone_to.ensures.done in
    let put = none ∙ put-place log i c.loop-index.passed.edits (edits_of c.args.edits.now) l.rest c.loop-index.done c.pass_place.new.done c.in_ok-passed.ensures.done in
    let range = range-place log i c.loop-index.passed.edits (edits_of c.args.edits.now) l.rest _ _ (omega arith) l.removed c.in_ok-passed.ensures.removed in
    let placed = placed-put log i c.loop-index.done c.pass_alone.new.done (placed-from log es c.loop-index.done i l.here l.events) put in
    let stays : is_removed log i ≡ false = stays-from log i c.in_ok-passed.passed.removed_to (omega arith) range c.if-passed-index.false in
    let event = renumbered-moved log es i c.loop-index.notes c.bare_at.result within c.bare_at.ensures.event c.bare_at.ensures.chains l.notes in
    record {
      within = omega (arith, c.in_ok-passed.ensures.within);
      here = omega (arith, within);
      rest = rest-place log i c.loop-index.passed.edits (edits_of c.args.edits.now) l.rest c.in_ok-passed.passed.edits c.in_ok-passed.ensures.rest;
      events = rw c.in_ok-keep.ensures.ok (step-kept log es i c.loop-index.done c.pass_alone.new.done within l.events put c.bare_at.result (renumbered c.loop-index.notes c.bare_at.result) c.bare_at.ensures.event event stays);
      notes = rw c.in_ok-keep.ensures.notes (notes-kept log es i (length c.pass_alone.new.done) c.bare_at.result c.loop-index.notes within c.bare_at.ensures.event placed l.notes);
      removed = range-next log i c.in_ok-passed.passed.removed_to range;
    }
