use Rattle.std.proofs.Common.{◌≡◌, ◌≤◌, ◌<◌, ◌+◌, ◌-◌, length, take, drop, sym, ap, subst, ◌∙◌, arith}
use Rattle.std.specs.List.{All}
use Rattle.std.proofs.lemmas.List.{length-take, length-drop}
use Rattle.std.proofs.lemmas.List.Edits.{length-paste}
use Rattle.std.proofs.Math.Seq.{paste}
use Rattle.markdown_engine_events.specs.EventChains.{IsAlone}
use Rattle.markdown_engine_events.specs.Edits.{edit_of, kept, edited_from, grown}
use Rattle.markdown_engine_events.proofs.EventViewLemmas.{all-alone-unnamed, all-unlinked-alone, alone-front-part, alone-part}
use Rattle.markdown_engine_events.proofs.EditOrder.{entry}
use Rattle.markdown_engine_events.proofs.EditsInPlace.{fits-here, ahead-here, edit-below, edit-first, edit-grows, edit-grown, grown-part, spread-back, spread-front, spread-all}
use Rattle.markdown_engine_events.proofs.util.edits_in_place.spread.Goals as goal

pub overflow_add-from : goal.overflow_add-from
overflow_add-from c =
    let h = fits-here c.args.comes.now c.args.entries.now (c.loop-index.index - 1) c.args.count (omega (arith, c.loop-index-test.true)) c.requires.apart in
    omega (arith, h, c.ranges.count.fits)

pub overflow_sub-end : goal.overflow_sub-end
overflow_sub-end c =
    let l = c.loop-index.invariant in
    edit-below c.args.comes.now c.args.entries.now c.loop-index.index c.args.count c.loop-index.read c.loop-index-test.true (omega arith) c.requires.apart l.next

pub move_within-requires-clause-order : goal.move_within-requires-clause-order
move_within-requires-clause-order c =
    let l = c.loop-index.invariant in
    edit-below c.args.comes.now c.args.entries.now c.loop-index.index c.args.count c.loop-index.read c.loop-index-test.true (omega arith) c.requires.apart l.next

pub overflow_sub-end-in-loop-index-2 : goal.overflow_sub-end-in-loop-index-2
overflow_sub-end-in-loop-index-2 c =
    let l = c.loop-index.invariant in
    let cs = c.args.comes.now in
    let es = c.args.entries.now in
    let i = c.loop-index.index in
    let below = edit-below cs es i c.args.count c.loop-index.read c.loop-index-test.true (omega arith) c.requires.apart l.next in
    let grows = edit-grows cs es i c.args.count c.loop-index.read c.loop-index-test.true (omega arith) c.requires.apart c.requires.growing in
    let sum = edit-grown cs es i c.args.count c.loop-index.read c.loop-index-test.true (omega arith) c.requires.apart in
    omega (arith, l.gap, ap length c.slice-given.ensures)

pub move_within-requires-clause-alone : goal.move_within-requires-clause-alone
move_within-requires-clause-alone c =
    let l = c.loop-index.invariant in
    let below = edit-below c.args.comes.now c.args.entries.now c.loop-index.index c.args.count c.loop-index.read c.loop-index-test.true (omega arith) c.requires.apart l.next in
    alone-front-part _ _ _ _ below l.front c.requires.alone

pub write-requires-clause-alone : goal.write-requires-clause-alone
write-requires-clause-alone c =
    subst (All IsAlone) (sym c.slice-given.ensures) (alone-part c.args.comes.now _ _ (all-unlinked-alone _ c.requires.brought.unlinked))

pub write-requires-clause-room : goal.write-requires-clause-room
write-requires-clause-room c =
    let l = c.loop-index.invariant in
    let cs = c.args.comes.now in
    let es = c.args.entries.now in
    let i = c.loop-index.index in
    let e = edit_of cs (entry es (i - 1)) in
    let items = c.loop-index.items in
    let below = edit-below cs es i c.args.count c.loop-index.read c.loop-index-test.true (omega arith) c.requires.apart l.next in
    let part = grown-part (kept c.args.comes.now c.args.entries.now) i in
    let n = c.loop-index.read - (e.at + e.remove) in
    let size : length (paste items (c.loop-index.end - n) (drop (e.at + e.remove) items) n) ≡ length items =
    length-paste items (c.loop-index.end - n) (drop (e.at + e.remove) items) n (omega (arith, l.gap, l.size)) (omega (arith, l.gap, l.size, length-drop (e.at + e.remove) items)) in
    let grows = edit-grows cs es i c.args.count c.loop-index.read c.loop-index-test.true (omega arith) c.requires.apart c.requires.growing in
    let sum = edit-grown cs es i c.args.count c.loop-index.read c.loop-index-test.true (omega arith) c.requires.apart in
    omega (arith, l.gap, l.size, size, ap length c.move_within.ensures, ap length c.slice-given.ensures)

pub loop-index-preserved : goal.loop-index-preserved
loop-index-preserved c =
    let l = c.loop-index.invariant in
    let cs = c.args.comes.now in
    let es = c.args.entries.now in
    let i = c.loop-index.index in
    let k = i - 1 in
    let count = c.args.count in
    let read = c.loop-index.read in
    let end = c.loop-index.end in
    let log = kept c.args.comes.now c.args.entries.now in
    let e = edit_of cs (entry es k) in
    let items = c.loop-index.items in
    let old = take count c.args.items.now in
    let within : i ≤ length es = omega arith in
    let here : k < length es = omega (arith, c.loop-index-test.true) in
    let last : k + 1 ≡ i = omega (arith, c.loop-index-test.true) in
    let below = edit-below cs es i count read c.loop-index-test.true within c.requires.apart l.next in
    let grows = edit-grows cs es i count read c.loop-index-test.true within c.requires.apart c.requires.growing in
    let sum = edit-grown cs es i count read c.loop-index-test.true within c.requires.apart in
    let part = grown-part log i in
    let from = e.at + e.remove in
    let n = read - from in
    let between = end - n in
    let xs = c.slice-given.result in
    let brings = c.slice-given.ensures in
    let comes = ap length brings in
    let count_of = c.len-end-in-loop-index.ensures in
    let to = between - c.len-end-in-loop-index.result in
    let room : end ≤ length items = omega (arith, l.gap, l.size) in
    let start : read ≤ end = omega (arith, l.gap) in
    let first : length (drop from items) ≡ length items - from = length-drop from items in
    let moved_size : length (paste items between (drop from items) n) ≡ length items = length-paste items between (drop from items) n (omega arith) (omega arith) in
    let low : to ≡ e.at + grown (take k log) = omega (arith, l.gap) in
    let write_size : length (paste c.move_within.new.self to xs (length xs)) ≡ length c.move_within.new.self =
    length-paste c.move_within.new.self to xs (length xs) (omega (arith, ap length c.move_within.ensures)) (omega arith) in
    let size : length old ≡ count = omega (arith, length-take count c.args.items.now, c.requires.room) in
    record {
      size = omega (arith, ap length c.write.ensures, write_size, ap length c.move_within.ensures, moved_size, l.size);
      front = spread-front cs es k count here c.requires.apart old items c.move_within.new.self c.write.new.self xs read between to n (omega arith) (omega (arith, low)) (omega arith) (omega arith) (omega arith) c.move_within.ensures c.write.ensures l.front;
      back = spread-back cs es k count here c.requires.apart old items c.move_within.new.self c.write.new.self xs read end between to size (all-alone-unnamed _ c.requires.alone) below l.within start room (omega arith) (omega arith) c.move_within.ensures c.write.ensures brings l.front
          (subst (λ j. All (λ x. read ≤ x.at) (drop j log)) (sym last) l.ahead) (l.back ∙ ap (λ j. edited_from (drop j log) read (drop read old)) (sym last));
      gap = low;
      within = omega (arith, l.within);
      ahead = ahead-here cs es k count here c.requires.apart;
      next = λ j w h. edit-first cs es i count read c.loop-index-test.true within c.requires.apart j h;
    }

pub returns : goal.returns
returns c =
    let l = c.loop-index.invariant in
    let none : c.loop-index.index ≡ 0 = omega (arith, c.loop-index-test.false) in
    let log = kept c.args.comes.now c.args.entries.now in
    let old = take c.args.count c.args.items.now in
    let all = ap (λ j. grown (take j log)) none in
    let size : length old ≡ c.args.count = omega (arith, length-take c.args.count c.args.items.now, c.requires.room) in
    spread-all log old c.loop-index.items c.loop-index.read c.loop-index.end (omega (arith, l.gap, all)) (omega (arith, l.within)) (all-alone-unnamed _ c.requires.alone) l.front
    (subst (λ j. All (λ x. c.loop-index.read ≤ x.at) (drop j log)) none l.ahead) (l.back ∙ ap (λ j. edited_from (drop j log) c.loop-index.read (drop c.loop-index.read old)) none)
