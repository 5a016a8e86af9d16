use Rattle.std.proofs.Common.{◌≡◌, refl, length}
use Rattle.markdown_inline_c.specs.HandingOut.{HasRoom, IsPlaced, counted}
use Rattle.markdown_inline_c.proofs.HandedOut.{is_written, one_more_counted, one_more_placed}
use Rattle.markdown_inline_c.proofs.outcome.Outcome.hand_out.Goals as goal

pub returns-in-Some : goal.returns-in-Some
returns-in-Some g c =
    let at = c.args in
    let from = c.in-Some.from in
    let n = c.count-count.result in
    let items = g.F.Found.items at.found.now in
    let counted : n ≡ length items = c.count-count.ensures in
    let room : HasRoom at.self.now at.number n (length at.array.now) (length at.ends.now) = rw c.in-Some.is at c.in_ok-from.ensures.room in
    let placed : IsPlaced n at.self.now c.place.new.self from = rw c.in-Some.is at c.in_ok-from.ensures.placed in
    record {
      ok = λ all old ends_old is_next handed.
          one_more_placed all items old at.array.now _ ends_old at.ends.now _ at.self.now c.place.new.self at.number from n is_next counted handed room placed
          (is_written items c.write.new.array at.array.now from at.self.now.count n placed.from_is counted c.write.ensures room.fits) refl;
      err = tt;
    }

pub returns-in-None : goal.returns-in-None
returns-in-None g c =
    let at = c.args in
    let n = c.count-count.result in
    let items = g.F.Found.items at.found.now in
    let none : HasRoom at.self.now at.number n (length at.array.now) (length at.ends.now) → ⊥ = rw c.in-None.is at c.in_ok-from.ensures.room in
    let is : c.place.new.self ≡ counted n at.self.now = rw c.in-None.is at c.in_ok-from.ensures.placed in
    record {
      ok = λ all old ends_old is_next handed.
          one_more_counted all items old at.array.now ends_old at.ends.now at.self.now c.place.new.self at.number n is_next c.count-count.ensures handed none is;
      err = tt;
    }
