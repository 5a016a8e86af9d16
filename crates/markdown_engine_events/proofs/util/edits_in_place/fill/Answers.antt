use Rattle.std.proofs.Common.{◌≡◌, ◌+◌, ◌-◌, ◌++◌, ℕ, List, length, take, drop, sym, ap, subst, ◌∙◌, arith, refl}
use Rattle.std.specs.List.{All}
use Rattle.std.proofs.lemmas.List.{length-drop, length-map}
use Rattle.std.proofs.lemmas.List.Edits.{length-paste}
use Rattle.markdown_engine_events.specs.EventChains.{IsAlone, NamesNone}
use Rattle.markdown_engine_events.proofs.EventViewLemmas.{all-alone-unnamed, all-unlinked-alone, alone-part}
use Rattle.markdown_event.specs.declared.event.Event.{Event}
use Rattle.markdown_engine_events.specs.Edits.{edit_of, kept, edited, edited_from}
use Rattle.markdown_engine_events.proofs.EditOrder.{entry}
use Rattle.markdown_engine_events.proofs.EditsInPlace.{fits-here, next-above, next-grown, next-ahead, fill-front, fill-back, fill-all}
use Rattle.markdown_engine_events.proofs.util.edits_in_place.fill.Goals as goal

pub loop-edit-init : goal.loop-edit-init
loop-edit-init c =
    record {
      size = omega (arith, c.len-len.ensures, c.requires.room);
      front = refl;
      back = ap (λ k. drop k c.args.items.now) (omega arith);
      order = omega (arith, c.len-len.ensures, c.requires.room);
      within = omega arith;
      ahead = λ k d l. omega arith;
    }

pub overflow_add-room-in-loop-edit : goal.overflow_add-room-in-loop-edit
overflow_add-room-in-loop-edit c =
    let fits = fits-here c.args.comes.now c.args.entries.now c.loop-edit.edit-index c.args.count c.loop-edit-test.true c.requires.apart in
    omega (arith, c.len-len.ensures, c.requires.room)

pub move_within-requires-clause-order : goal.move_within-requires-clause-order
move_within-requires-clause-order c =
    let above = next-above c.args.comes.now c.args.entries.now c.loop-edit.edit-index c.args.count c.loop-edit-test.true c.requires.apart c.loop-edit.read c.loop-edit.invariant.ahead in
    omega arith

pub move_within-requires-clause-within : goal.move_within-requires-clause-within
move_within-requires-clause-within c =
    let fits = fits-here c.args.comes.now c.args.entries.now c.loop-edit.edit-index c.args.count c.loop-edit-test.true c.requires.apart in
    omega (arith, c.loop-edit.invariant.size)

pub move_within-requires-clause-room : goal.move_within-requires-clause-room
move_within-requires-clause-room c =
    let l = c.loop-edit.invariant in
    let fits = fits-here c.args.comes.now c.args.entries.now c.loop-edit.edit-index c.args.count c.loop-edit-test.true c.requires.apart in
    let above = next-above c.args.comes.now c.args.entries.now c.loop-edit.edit-index c.args.count c.loop-edit-test.true c.requires.apart c.loop-edit.read l.ahead in
    omega (arith, l.size, l.order, l.within)

pub overflow_sub-end : goal.overflow_sub-end
overflow_sub-end c =
    next-above c.args.comes.now c.args.entries.now c.loop-edit.edit-index c.args.count c.loop-edit-test.true c.requires.apart c.loop-edit.read c.loop-edit.invariant.ahead

pub overflow_add-end : goal.overflow_add-end
overflow_add-end c =
    let l = c.loop-edit.invariant in
    let fits = fits-here c.args.comes.now c.args.entries.now c.loop-edit.edit-index c.args.count c.loop-edit-test.true c.requires.apart in
    let above = next-above c.args.comes.now c.args.entries.now c.loop-edit.edit-index c.args.count c.loop-edit-test.true c.requires.apart c.loop-edit.read l.ahead in
    omega (arith, l.order, c.len-len.ensures, c.requires.room)

pub move_within-requires-clause-alone : goal.move_within-requires-clause-alone
move_within-requires-clause-alone c =
    let room = c.len-len.result - c.args.count in
    let read = c.loop-edit.read in
    let n = room + (edit_of c.args.comes.now (entry c.args.entries.now c.loop-edit.edit-index)).at - (room + read) in
    subst (λ (xs : List Event). All IsAlone (take n xs)) (sym c.loop-edit.invariant.back)
    (alone-part (drop room c.args.items.now) n read (subst (λ k. All IsAlone (drop (k - c.args.count) c.args.items.now)) (sym c.len-len.ensures) c.requires.alone))

pub write-requires-clause-alone : goal.write-requires-clause-alone
write-requires-clause-alone c =
    subst (All IsAlone) (sym c.slice-given.ensures) (alone-part c.args.comes.now _ _ (all-unlinked-alone _ c.requires.brought.unlinked))

pub write-requires-clause-room : goal.write-requires-clause-room
write-requires-clause-room c =
    let l = c.loop-edit.invariant in
    let cs = c.args.comes.now in
    let es = c.args.entries.now in
    let i = c.loop-edit.edit-index in
    let e = edit_of cs (entry es i) in
    let room = c.len-len.result - c.args.count in
    let fits = fits-here cs es i c.args.count c.loop-edit-test.true c.requires.apart in
    let above = next-above cs es i c.args.count c.loop-edit-test.true c.requires.apart c.loop-edit.read l.ahead in
    let more = next-grown cs es i c.args.count c.loop-edit-test.true c.requires.apart in
    let size : length c.move_within.new.self ≡ length c.loop-edit.items =
    ap length c.move_within.ensures ∙ length-paste c.loop-edit.items c.loop-edit.end (drop (room + c.loop-edit.read) c.loop-edit.items) (room + e.at - (room + c.loop-edit.read)) (omega (arith, l.size, l.order)) (omega (arith, l.size, length-drop (room + c.loop-edit.read) c.loop-edit.items)) in
    omega (arith, l.size, l.order, size, ap length c.slice-given.ensures)

pub overflow_add-end-in-loop-edit : goal.overflow_add-end-in-loop-edit
overflow_add-end-in-loop-edit c =
    let l = c.loop-edit.invariant in
    let cs = c.args.comes.now in
    let es = c.args.entries.now in
    let i = c.loop-edit.edit-index in
    let fits = fits-here cs es i c.args.count c.loop-edit-test.true c.requires.apart in
    let above = next-above cs es i c.args.count c.loop-edit-test.true c.requires.apart c.loop-edit.read l.ahead in
    let more = next-grown cs es i c.args.count c.loop-edit-test.true c.requires.apart in
    omega (arith, l.size, l.order, c.len-len.ensures, c.requires.room, ap length c.slice-given.ensures)

pub overflow_add-read : goal.overflow_add-read
overflow_add-read c =
    let fits = fits-here c.args.comes.now c.args.entries.now c.loop-edit.edit-index c.args.count c.loop-edit-test.true c.requires.apart in
    omega (arith, c.len-len.ensures, c.requires.room)

pub loop-edit-preserved : goal.loop-edit-preserved
loop-edit-preserved c =
    let l = c.loop-edit.invariant in
    let cs = c.args.comes.now in
    let es = c.args.entries.now in
    let i = c.loop-edit.edit-index in
    let count = c.args.count in
    let room = c.len-len.result - c.args.count in
    let last = drop room c.args.items.now in
    let items = c.loop-edit.items in
    let read = c.loop-edit.read in
    let end = c.loop-edit.end in
    let e = edit_of cs (entry es i) in
    let xs = c.slice-given.result in
    let n = room + e.at - (room + read) in
    let fits = fits-here cs es i count c.loop-edit-test.true c.requires.apart in
    let above = next-above cs es i count c.loop-edit-test.true c.requires.apart read l.ahead in
    let more = next-grown cs es i count c.loop-edit-test.true c.requires.apart in
    let brings = ap length c.slice-given.ensures in
    let plain = subst (λ k. All NamesNone (drop (k - count) c.args.items.now)) (sym c.len-len.ensures) (all-alone-unnamed _ c.requires.alone) in
    let whole : length last ≡ count = omega (arith, length-drop room c.args.items.now, c.len-len.ensures, c.requires.room) in
    let long : length c.move_within.new.self ≡ length items =
    ap length c.move_within.ensures ∙ length-paste items end (drop (room + read) items) n (omega (arith, l.size, l.order)) (omega (arith, l.size, length-drop (room + read) items)) in
    let written : length c.write.new.self ≡ length c.move_within.new.self =
    ap length c.write.ensures ∙ length-paste c.move_within.new.self (end + (e.at - read)) xs (length xs) (omega (arith, l.size, l.order, long, brings)) (omega arith) in
    record {
      size = omega (arith, written, long, l.size);
      front = subst (λ (j : ℕ). take (end + (e.at - read) + j) c.write.new.self ++ edited_from (drop (i + 1) (kept c.args.comes.now c.args.entries.now)) (e.at + e.remove) (drop (e.at + e.remove) last) ≡ edited (kept c.args.comes.now c.args.entries.now) last) (sym c.len-end.ensures) (fill-front cs es i count c.loop-edit-test.true c.requires.apart last items c.move_within.new.self c.write.new.self xs room read end n whole l.size plain (omega (arith, l.order)) (omega (arith, l.size, l.order, brings)) l.ahead (omega arith) c.move_within.ensures c.write.ensures c.slice-given.ensures l.back l.front);
      back = fill-back cs es i count c.loop-edit-test.true c.requires.apart last items c.move_within.new.self c.write.new.self xs room read end n l.size above (omega (arith, l.order)) (omega (arith, l.order, brings)) (omega arith) long c.move_within.ensures c.write.ensures l.back;
      order = omega (arith, l.order, brings);
      within = omega (arith, fits);
      ahead = next-ahead cs es i count c.loop-edit-test.true c.requires.apart;
    }

pub returns : goal.returns
returns c =
    let l = c.loop-edit.invariant in
    let cs = c.args.comes.now in
    let es = c.args.entries.now in
    let count = c.args.count in
    let room = c.len-len.result - c.args.count in
    let size = length-map es (edit_of cs) in
    let whole : length (drop room c.args.items.now) ≡ count = omega (arith, length-drop room c.args.items.now, c.len-len.ensures, c.requires.room) in
    fill-all (kept c.args.comes.now c.args.entries.now) (drop room c.args.items.now) c.loop-edit.items c.move_within-2.new.self c.truncate.new.self c.loop-edit.edit-index room c.loop-edit.read c.loop-edit.end count (c.len-len.result - (room + c.loop-edit.read)) whole l.size (omega (arith, l.order)) l.within (omega (arith, size, c.loop-edit-test.false)) (omega (arith, c.len-len.ensures, c.requires.room)) c.move_within-2.ensures c.truncate.ensures l.back l.front ∙ ap (λ k. edited (kept c.args.comes.now c.args.entries.now) (drop (k - count) c.args.items.now)) c.len-len.ensures
