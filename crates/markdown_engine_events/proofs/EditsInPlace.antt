-- Edits that stand apart, applied in the list itself.
use Rattle.std.proofs.Common.{suc, zero, ◌≡◌, ◌≢◌, ℕ, ◌+◌, ◌-◌, ◌<◌, ◌≤◌, ◌||◌, nat_lt, inl, inr, Bool, true, false, cond, max, Option, Some, None, List, [], ◌∷◌, ◌++◌, length, take, drop, get_or, sym, ap, subst, ◌∙◌, arith, append_assoc, refl}
use Rattle.std.specs.List.{All}
use Rattle.std.specs.Option.{option_map}
use Rattle.std.proofs.lemmas.Option.{slice_get-get_or}
use Rattle.std.proofs.Math.Seq.{paste}
use Rattle.std.proofs.lemmas.List.{take-append-drop, append-nil, length-take, length-drop, drop_more, drop-drop, take_all, drop_all, take_more, length-map}
use Rattle.std.proofs.lemmas.List.Edits.{length-paste, take-paste}
use Rattle.std.proofs.lemmas.List.Elements.{All-take, All-drop, All-append}
use Rattle.std.proofs.lemmas.List.Sums.{sum_by_push, sum_by-cons, sum_by-take-le}
use Rattle.std.proofs.lemmas.Bool.{le-ltb}
use Rattle.std.proofs.lemmas.Bool.Decides.{eqb_tells}
use Rattle.markdown_event.specs.declared.event.Event.{Event}
use Rattle.markdown_engine_events.specs.declared.util.edit_map.Edit.{Edit}
use Rattle.markdown_engine_events.specs.declared.util.edit_map.Entry.{Entry}
use Rattle.markdown_engine_events.specs.EventChains.{NamesNone, previous_of, with_previous, bares, OnlyEnters, IsFresh, IsUnlinked, IsLinked, IsNoted}
use Rattle.markdown_engine_events.proofs.EventChainLemmas.{fresh-unnamed, fresh-of, unlinked-fresh}
use Rattle.markdown_engine_events.proofs.EditLemmas.{added-zero, added-more, added-unlinked, some-none, EachEvent}
use Rattle.markdown_engine_events.specs.Edits.{edit_of, kept, removed_at, added_at, removed_by, is_removed, moved, edited_from, edited, grown, StandApart, AreGrowing, AddsUnlinked, IsRest, added_up_to, removed_before, moved_number}
use Rattle.markdown_engine_events.proofs.EditRules.{nil-from, stays-where, goes-where, added-none, removed-none, added-first, added-second, edited_until, edited-split}
use Rattle.markdown_engine_events.proofs.EditOrder.{one-comes, at-place, at-other, entry, kept-read, next-from}
use Rattle.markdown_event.proofs.PastedParts.{take-take-le, part-same, pasted-front, pasted-back, pasted-past}
use Rattle.markdown_engine_events.proofs.EventViewLemmas.{bares-same, enters-each, noted, noted-extended}
use Rattle.markdown_engine_events.proofs.EditStretches.{first-moved, until-plain, until-gone}

-- Edits apart.

pub apart-from : (n count : ℕ) (log : List Edit) → StandApart n count log → All (λ x. n ≤ x.at) log
apart-from n count [] h = λ k d l. absurd (omega arith)
apart-from n count (e ∷ log) h = grind (arith, apart-from (e.at + max 1 e.remove) count log h.1.1)

pub apart-less : (n m count : ℕ) (log : List Edit) → m ≤ n → StandApart n count log → StandApart m count log
apart-less n m count [] l h = h
apart-less n m count (e ∷ log) l h = let low = h.0 in (omega arith, h.1)

-- those behind the first ones
pub apart-drop : (n count k : ℕ) (log : List Edit) → StandApart n count log → (m : ℕ) × StandApart m count (drop k log)
apart-drop n count zero log h = (n, h)
apart-drop n count (suc k) [] h = (n, h)
apart-drop n count (suc k) (e ∷ log) h = apart-drop (e.at + max 1 e.remove) count k log h.1.1

-- One edit, with those behind it.

module _ (e : Edit) (rest : List Edit) (later : All (λ x. suc e.at ≤ x.at) rest) (beyond : All (λ x. e.at + e.remove ≤ x.at) rest) where
  alone : All (λ x. x.at < suc e.at) (e ∷ [])
  alone = grind arith

  comes-here : added_at e.at (e ∷ rest) ≡ e.events
  comes-here = added-first (e ∷ []) rest (suc e.at) alone later e.at (omega arith) ∙ one-comes e e.at e.before refl refl

  comes-later : (j : ℕ) → suc e.at ≤ j → added_at j (e ∷ rest) ≡ added_at j rest
  comes-later j l = added-second (e ∷ []) rest (suc e.at) alone later j l

  elsewhere : (i : ℕ) → i ≢ e.at → removed_at i (e ∷ rest) ≡ removed_at i rest
  elsewhere i f = omega (arith, at-other e.at i e.remove (λ q. f (sym q)))

  -- whether event j goes, by what stands at one place
  goes-term : (j i : ℕ) → e.at < j → e.at + e.remove ≤ j → nat_lt j (i + removed_at i (e ∷ rest)) ≡ nat_lt j (i + removed_at i rest)
  goes-term j i l h = grind (arith, eqb_tells, at-place, removed-none, le-ltb, elsewhere)

  goes-upto : (j i : ℕ) → e.at < j → e.at + e.remove ≤ j → removed_by (e ∷ rest) j i ≡ removed_by rest j i
  goes-upto j zero l h =
      let first : removed_at 0 (e ∷ rest) ≡ 0 + removed_at 0 (e ∷ rest) = omega arith in
      let second : 0 + removed_at 0 rest ≡ removed_at 0 rest = omega arith in
      ap (nat_lt j) first ∙ goes-term j 0 l h ∙ ap (nat_lt j) second
  goes-upto j (suc i) l h = simp (goes-term, goes-upto j i l h)

  goes-later : (j : ℕ) → e.at < j → e.at + e.remove ≤ j → is_removed (e ∷ rest) j ≡ is_removed rest j
  goes-later j l h = goes-upto j j l h

  -- behind the edit, and what it removes, the others alone tell what becomes of the list
  same-later : (i : ℕ) (es : List Event) → e.at < i → e.at + e.remove ≤ i → All NamesNone es → edited_from (e ∷ rest) i es ≡ edited_from rest i es
  same-later i [] l h u = comes-later i (omega arith)
  same-later i (x ∷ es) l h u =
      let plain = u 0 x (omega arith) in
      let stays = first-moved (e ∷ rest) x plain ∙ sym (first-moved rest x plain) in
      ap (λ xs. xs ++ (cond (is_removed (e ∷ rest) i) [] (moved (e ∷ rest) x ∷ []) ++ edited_from (e ∷ rest) (suc i) es)) (comes-later i (omega arith)) ∙ ap (λ b. added_at i rest ++ (cond b [] (moved (e ∷ rest) x ∷ []) ++ edited_from (e ∷ rest) (suc i) es)) (goes-later i l h) ∙ ap (λ y. added_at i rest ++ (cond (is_removed rest i) [] (y ∷ []) ++ edited_from (e ∷ rest) (suc i) es)) stays ∙ ap (λ xs. added_at i rest ++ (cond (is_removed rest i) [] (moved rest x ∷ []) ++ xs)) (same-later (suc i) es (omega arith) (omega arith) (λ k d g. u (suc k) d (omega arith)))

  none-before : (p : ℕ) → p < e.at → removed_at p (e ∷ rest) ≡ 0
  none-before p l = grind (arith, removed-none, at-other)

  removes-here : removed_at e.at (e ∷ rest) ≡ e.remove
  removes-here = grind (arith, removed-none, at-place)

  -- an edit that removes nothing
  at-keeps : (ys : List Event) → e.remove ≡ 0 → All NamesNone ys → edited_from (e ∷ rest) e.at ys ≡ e.events ++ edited_from rest e.at ys
  at-keeps [] z u = comes-here ∙ sym (append-nil e.events) ∙ ap (λ xs. e.events ++ xs) (sym (added-none e.at rest (λ k d g q. let m = later k d g in omega arith)))
  at-keeps (y ∷ ys) z u =
      let plain = u 0 y (omega arith) in
      let none = added-none e.at rest (λ k d g q. let m = later k d g in omega arith) in
      let stays : is_removed (e ∷ rest) e.at ≡ false = grind (arith, stays-where, eqb_tells, removes-here, none-before) in
      let stays_there : is_removed rest e.at ≡ false = stays-where rest e.at (λ p l. let m = removed-none p rest (λ k d g q. let m = later k d g in omega arith) in omega arith) in
      let behind = same-later (suc e.at) ys (omega arith) (omega arith) (λ k d g. u (suc k) d (omega arith)) in
      ap (λ xs. xs ++ (cond (is_removed (e ∷ rest) e.at) [] (moved (e ∷ rest) y ∷ []) ++ edited_from (e ∷ rest) (suc e.at) ys)) comes-here ∙ ap (λ b. e.events ++ (cond b [] (moved (e ∷ rest) y ∷ []) ++ edited_from (e ∷ rest) (suc e.at) ys)) stays ∙ ap (λ z. e.events ++ (z ∷ edited_from (e ∷ rest) (suc e.at) ys)) (first-moved (e ∷ rest) y plain ∙ sym (first-moved rest y plain)) ∙ ap (λ xs. e.events ++ (moved rest y ∷ xs)) behind ∙ sym (ap (λ b. e.events ++ (cond b [] (moved rest y ∷ []) ++ edited_from rest (suc e.at) ys)) stays_there) ∙ ap (λ xs. e.events ++ (xs ++ (cond (is_removed rest e.at) [] (moved rest y ∷ []) ++ edited_from rest (suc e.at) ys))) (sym none)

  -- the events that an edit removes
  gone-all : (xs : List Event) → length xs ≡ e.remove → 0 < e.remove → edited_until (e ∷ rest) e.at xs ≡ e.events
  gone-all [] z l = absurd (omega arith)
  gone-all (x ∷ xs) z l =
      let gone = goes-where (e ∷ rest) in
      let here = removes-here in
      let none = until-gone (e ∷ rest) (suc e.at) xs
      (λ j low high. comes-later j (omega arith) ∙ added-none j rest (λ k d g q. let m = beyond k d g in omega arith))
      (λ j low high. gone j e.at (omega arith) (omega arith)) in
      ap (λ ys. ys ++ (cond (is_removed (e ∷ rest) e.at) [] (moved (e ∷ rest) x ∷ []) ++ edited_until (e ∷ rest) (suc e.at) xs)) comes-here ∙ ap (λ b. e.events ++ (cond b [] (moved (e ∷ rest) x ∷ []) ++ edited_until (e ∷ rest) (suc e.at) xs)) (gone e.at e.at (omega arith) (omega arith)) ∙ ap (λ ys. e.events ++ ys) none ∙ append-nil e.events

  -- at the edit's place: what it brings, and the rest behind what it removes
  pub edit-here : (es : List Event) → e.at + e.remove ≤ length es → All NamesNone es →
      edited_from (e ∷ rest) e.at (drop e.at es) ≡ e.events ++ edited_from rest (e.at + e.remove) (drop (e.at + e.remove) es)
  edit-here es w u =
      elim (eqb_tells e.remove 0) [
        | inl t ↦
            let same : e.at + e.remove ≡ e.at = omega (arith, t.1) in
            at-keeps (drop e.at es) t.1 (All-drop NamesNone e.at es u) ∙ ap (λ n. e.events ++ edited_from rest n (drop n es)) (sym same)
        | inr f ↦
            let some : 0 < e.remove = omega (arith, f.1) in
            let xs = take e.remove (drop e.at es) in
            let size : length xs ≡ e.remove = omega (arith, length-take e.remove (drop e.at es), length-drop e.at es) in
            let parts : drop e.at es ≡ xs ++ drop (e.at + e.remove) es = sym (take-append-drop e.remove (drop e.at es)) ∙ ap (λ ys. xs ++ ys) (drop-drop e.remove e.at es) in
            ap (edited_from (e ∷ rest) e.at) parts ∙ edited-split (e ∷ rest) e.at (e.at + e.remove) xs (drop (e.at + e.remove) es) (omega (arith, size)) ∙ ap (λ ys. ys ++ edited_from (e ∷ rest) (e.at + e.remove) (drop (e.at + e.remove) es)) (gone-all xs size some) ∙ ap (λ ys. e.events ++ ys) (same-later (e.at + e.remove) (drop (e.at + e.remove) es) (omega (arith, some)) (omega arith) (All-drop NamesNone (e.at + e.remove) es u))
      ]

-- Up to the next edit nothing changes.
pub plain-on : (log : List Edit) (n m : ℕ) (es : List Event) → n ≤ m → m ≤ length es → All (λ x. m ≤ x.at) log → All NamesNone es →
    edited_from log n (drop n es) ≡ take (m - n) (drop n es) ++ edited_from log m (drop m es)
plain-on log n m es l w a u =
    let xs = take (m - n) (drop n es) in
    let size : length xs ≡ m - n = omega (arith, length-take (m - n) (drop n es), length-drop n es) in
    let e : n + (m - n) ≡ m = omega arith in
    let parts : drop n es ≡ xs ++ drop m es = sym (take-append-drop (m - n) (drop n es)) ∙ ap (λ ys. xs ++ ys) (drop-drop (m - n) n es ∙ ap (λ k. drop k es) e) in
    let none = λ (p : ℕ) (g : p < m). removed-none p log (λ k d h q. let b = a k d h in omega arith) in
    ap (edited_from log n) parts ∙ edited-split log n m xs (drop m es) (omega (arith, size)) ∙ ap (λ ys. ys ++ edited_from log m (drop m es)) (until-plain log n xs
    (λ j low high. added-none j log (λ k d h q. let b = a k d h in omega (arith, size)))
    (λ j low high. stays-where log j (λ p g. let z = none p (omega (arith, size)) in omega arith))
    (All-take NamesNone (m - n) (drop n es) (All-drop NamesNone n es u)))

-- The edits that entries keep, one by one.

module _ (cs : List Event) (E : List Entry) (k count : ℕ) (within : k < length E) (apart : StandApart 0 count (kept cs E)) where
  abbrev pub one : Edit
  one = edit_of cs (entry E k)

  abbrev pub behind : List Edit
  behind = drop (k + 1) (kept cs E)

  sized : k < length (kept cs E)
  sized = omega (arith, length-map E (edit_of cs))

  pub first-of : drop k (kept cs E) ≡ one ∷ behind
  first-of = drop_more (kept cs E) k one sized ∙ ap (λ e. e ∷ behind) (kept-read cs E k within one)

  apart-here : (m : ℕ) × StandApart m count (one ∷ behind)
  apart-here =
      let a = apart-drop 0 count k (kept cs E) apart in
      (a.0, subst (λ log. StandApart a.0 count log) first-of a.1)

  pub fits-here : one.at + one.remove ≤ count
  fits-here = apart-here.1.1.0

  pub apart-behind : StandApart (one.at + max 1 one.remove) count behind
  apart-behind = apart-here.1.1.1

  pub ahead-behind : All (λ x. one.at + max 1 one.remove ≤ x.at) behind
  ahead-behind = apart-from (one.at + max 1 one.remove) count behind apart-behind

  pub ahead-here : All (λ x. one.at ≤ x.at) (drop k (kept cs E))
  ahead-here = grind (arith, first-of, ahead-behind)

  -- what becomes of the list from the edit's place on
  pub from-here : (es : List Event) → length es ≡ count → All NamesNone es →
      edited_from (drop k (kept cs E)) one.at (drop one.at es) ≡ one.events ++ edited_from behind (one.at + one.remove) (drop (one.at + one.remove) es)
  from-here es size plain =
      ap (λ log. edited_from log one.at (drop one.at es)) first-of ∙ edit-here one behind (λ i d l. let b = ahead-behind i d l in omega arith) (λ i d l. let b = ahead-behind i d l in omega arith) es (omega (arith, fits-here, size)) plain

  pub grown-here : grown (take (k + 1) (kept cs E)) ≡ grown (take k (kept cs E)) + (length one.events - one.remove)
  grown-here =
      ap grown (take_more (kept cs E) k one sized ∙ ap (λ e. take k (kept cs E) ++ e ∷ []) (kept-read cs E k within one)) ∙ sum_by_push (λ e. length e.events - e.remove) (take k (kept cs E)) one

  -- A list that is filled from its end, after one edit more.
  pub spread-back : (es items moved_items filled : List Event) (xs : List Event) (read end between to : ℕ) → length es ≡ count → All NamesNone es →
      one.at + one.remove ≤ read → read ≤ count → read ≤ end → end ≤ length items → between + (read - (one.at + one.remove)) ≡ end → to + length xs ≡ between →
      moved_items ≡ paste items between (drop (one.at + one.remove) items) (read - (one.at + one.remove)) → filled ≡ paste moved_items to xs (length xs) → xs ≡ one.events →
      take read items ≡ take read es → All (λ x. read ≤ x.at) behind → drop end items ≡ edited_from behind read (drop read es) →
      drop to filled ≡ edited_from (drop k (kept cs E)) one.at (drop one.at es)
  spread-back es items moved_items filled xs read end between to size plain l m le room e1 e2 move write brings front ahead back =
      let from = one.at + one.remove in
      let rest = drop from items in
      let long : length moved_items ≡ length items = omega (arith, ap length move, length-paste items between rest (read - from) (omega arith) (omega (arith, length-drop from items))) in
      let moved_part = take (read - from) rest in
      let behind_moved : drop between moved_items ≡ moved_part ++ drop end items = grind (arith, pasted-back) in
      let read_part : moved_part ≡ take (read - from) (drop from es) = part-same items es from read l front in
      ap (drop to) write ∙ pasted-back moved_items to xs (length xs) (omega arith) ∙ ap (λ ys. ys ++ drop (to + length xs) moved_items) (take_all (length xs) xs (omega arith) ∙ brings) ∙ ap (λ n. one.events ++ drop n moved_items) e2 ∙ ap (λ ys. one.events ++ ys) (behind_moved ∙ ap (λ ys. ys ++ drop end items) read_part ∙ ap (λ ys. take (read - from) (drop from es) ++ ys) back ∙ sym (plain-on behind from read es l (omega arith) ahead plain)) ∙ sym (from-here es size plain)

  pub spread-front : (es items moved_items filled : List Event) (xs : List Event) (read between to n : ℕ) →
      one.at ≤ read → one.at ≤ to → to ≤ between → between + n ≤ length items → n ≤ length (drop (one.at + one.remove) items) →
      moved_items ≡ paste items between (drop (one.at + one.remove) items) n → filled ≡ paste moved_items to xs (length xs) →
      take read items ≡ take read es → take one.at filled ≡ take one.at es
  spread-front es items moved_items filled xs read between to n l a b w s move write front =
      let rest = drop (one.at + one.remove) items in
      let long : length moved_items ≡ length items = omega (arith, ap length move, length-paste items between rest n w s) in
      ap (take one.at) write ∙ pasted-front moved_items to xs (length xs) (omega arith) one.at a ∙ ap (take one.at) move ∙ pasted-front items between rest n (omega arith) one.at (omega arith) ∙ sym (take-take-le one.at read items l) ∙ ap (take one.at) front ∙ take-take-le one.at read es l

-- The edit before the i-th, as the loop from the last edit to the first meets it.

module _ (cs : List Event) (E : List Entry) (i count read : ℕ) (some : 0 < i) (within : i ≤ length E) (apart : StandApart 0 count (kept cs E)) where
  before : i - 1 < length E
  before = omega arith

  last : i - 1 + 1 ≡ i
  last = omega arith

  pub edit-below : ((k : ℕ) → k ≤ count → StandApart k count (drop i (kept cs E)) → k ≤ read) →
      (edit_of cs (entry E (i - 1))).at + (edit_of cs (entry E (i - 1))).remove ≤ read
  edit-below next =
      let e = edit_of cs (entry E (i - 1)) in
      let far = apart-behind cs E (i - 1) count before apart in
      next (e.at + e.remove) (fits-here cs E (i - 1) count before apart) (apart-less (e.at + max 1 e.remove) (e.at + e.remove) count (drop i (kept cs E)) (omega arith) (subst (λ n. StandApart (e.at + max 1 e.remove) count (drop n (kept cs E))) last far))

  pub edit-first : (k : ℕ) → StandApart k count (drop (i - 1) (kept cs E)) → k ≤ (edit_of cs (entry E (i - 1))).at
  edit-first k h = grind (arith, first-of, before)

  pub edit-grows : AreGrowing (kept cs E) → (edit_of cs (entry E (i - 1))).remove ≤ length (edit_of cs (entry E (i - 1))).events
  edit-grows growing =
      let e = edit_of cs (entry E (i - 1)) in
      let same = kept-read cs E (i - 1) before e in
      let size = length-map E (edit_of cs) in
      let h = growing (i - 1) e (omega arith) in
      subst (λ x. x.remove ≤ length x.events) same h

  pub edit-grown : grown (take i (kept cs E)) ≡ grown (take (i - 1) (kept cs E)) + (length (edit_of cs (entry E (i - 1))).events - (edit_of cs (entry E (i - 1))).remove)
  edit-grown = ap (λ n. grown (take n (kept cs E))) (sym last) ∙ grown-here cs E (i - 1) count before apart

pub grown-part : (log : List Edit) (i : ℕ) → grown (take i log) ≤ grown log
grown-part log i = sum_by-take-le (λ e. length e.events - e.remove) log i

-- The i-th edit, as a loop from the first to the last meets it.

module _ (cs : List Event) (E : List Entry) (i count : ℕ) (within : i < length E) (apart : StandApart 0 count (kept cs E)) where
  pub next-above : (read : ℕ) → All (λ x. read ≤ x.at) (drop i (kept cs E)) → read ≤ (edit_of cs (entry E i)).at
  next-above read ahead = next-from cs E i read within ahead

  -- what the edits from the i-th on bring beyond what they remove
  pub next-grown : grown (drop i (kept cs E)) ≡ (length (edit_of cs (entry E i)).events - (edit_of cs (entry E i)).remove) + grown (drop (i + 1) (kept cs E))
  next-grown =
      ap grown (first-of cs E i count within apart) ∙ sum_by-cons (λ e. length e.events - e.remove) (edit_of cs (entry E i)) (drop (i + 1) (kept cs E))

  pub next-ahead : All (λ x. (edit_of cs (entry E i)).at + (edit_of cs (entry E i)).remove ≤ x.at) (drop (i + 1) (kept cs E))
  next-ahead = λ k d l. let b = ahead-behind cs E i count within apart k d l in omega arith

  -- A list that is filled from its front, after one edit more: its events stand behind some room.
  pub fill-front : (es items moved_items filled : List Event) (xs : List Event) (room read end n : ℕ) → length es ≡ count → length items ≡ count + room → All NamesNone es →
      end ≤ room + read → end + n + length xs ≤ length items → All (λ x. read ≤ x.at) (drop i (kept cs E)) → n ≡ (edit_of cs (entry E i)).at - read →
      moved_items ≡ paste items end (drop (room + read) items) n → filled ≡ paste moved_items (end + ((edit_of cs (entry E i)).at - read)) xs (length xs) →
      xs ≡ (edit_of cs (entry E i)).events → drop (room + read) items ≡ drop read es →
      take end items ++ edited_from (drop i (kept cs E)) read (drop read es) ≡ edited (kept cs E) es →
      take (end + ((edit_of cs (entry E i)).at - read) + length xs) filled ++ edited_from (drop (i + 1) (kept cs E)) ((edit_of cs (entry E i)).at + (edit_of cs (entry E i)).remove) (drop ((edit_of cs (entry E i)).at + (edit_of cs (entry E i)).remove) es) ≡ edited (kept cs E) es
  fill-front es items moved_items filled xs room read end n size length_is plain order space ahead far move write brings back front =
      let e = edit_of cs (entry E i) in
      let m = e.at - read in
      let above = next-above read ahead in
      let fits = fits-here cs E i count within apart in
      let rest_size : length (drop (room + read) items) ≡ count - read = omega (arith, length-drop (room + read) items) in
      let long : length moved_items ≡ length items = omega (arith, ap length move, length-paste items end (drop (room + read) items) n (omega arith) (omega arith)) in
      let behind_it = edited_from (drop (i + 1) (kept cs E)) (e.at + e.remove) (drop (e.at + e.remove) es) in
      let first : take (end + m) moved_items ≡ take end items ++ take m (drop read es) = grind (arith, take-paste) in
      let second : take (end + m + length xs) filled ≡ take end items ++ (take m (drop read es) ++ e.events) =
      ap (take (end + m + length xs)) write ∙ take-paste moved_items (end + m) xs (length xs) (omega arith) (omega arith) ∙ ap (λ ys. take (end + m) moved_items ++ ys) (take_all (length xs) xs (omega arith) ∙ brings) ∙ ap (λ ys. ys ++ e.events) first ∙ append_assoc (take end items) (take m (drop read es)) e.events in
      let rest : edited_from (drop i (kept cs E)) read (drop read es) ≡ take m (drop read es) ++ (e.events ++ behind_it) =
      plain-on (drop i (kept cs E)) read e.at es above (omega arith) (ahead-here cs E i count within apart) plain ∙ ap (λ ys. take m (drop read es) ++ ys) (from-here cs E i count within apart es size plain) in
      ap (λ ys. ys ++ behind_it) second ∙ append_assoc (take end items) (take m (drop read es) ++ e.events) behind_it ∙ ap (λ ys. take end items ++ ys) (append_assoc (take m (drop read es)) e.events behind_it ∙ sym rest) ∙ front

  pub fill-back : (es items moved_items filled : List Event) (xs : List Event) (room read end n : ℕ) → length items ≡ count + room → read ≤ (edit_of cs (entry E i)).at →
      end ≤ room + read → end + n + length xs ≤ room + ((edit_of cs (entry E i)).at + (edit_of cs (entry E i)).remove) → n ≡ (edit_of cs (entry E i)).at - read → length moved_items ≡ length items →
      moved_items ≡ paste items end (drop (room + read) items) n → filled ≡ paste moved_items (end + ((edit_of cs (entry E i)).at - read)) xs (length xs) →
      drop (room + read) items ≡ drop read es →
      drop (room + ((edit_of cs (entry E i)).at + (edit_of cs (entry E i)).remove)) filled ≡ drop ((edit_of cs (entry E i)).at + (edit_of cs (entry E i)).remove) es
  fill-back es items moved_items filled xs room read end n size above order space far long move write back =
      let e = edit_of cs (entry E i) in
      let m = e.at - read in
      let to = e.at + e.remove in
      let fits = fits-here cs E i count within apart in
      let there : room + read + (to - read) ≡ room + to = omega arith in
      let here : read + (to - read) ≡ to = omega arith in
      ap (drop (room + to)) write ∙ pasted-past moved_items (end + m) xs (length xs) (omega arith) (room + to) (omega arith) (omega arith) ∙ ap (drop (room + to)) move ∙ pasted-past items end (drop (room + read) items) n (omega arith) (room + to) (omega (arith, length-drop (room + read) items)) (omega arith) ∙ ap (λ k. drop k items) (sym there) ∙ sym (drop-drop (to - read) (room + read) items) ∙ ap (drop (to - read)) back ∙ drop-drop (to - read) read es ∙ ap (λ k. drop k es) here

-- the last of the list follows
pub fill-all : (log : List Edit) (es items moved_items all : List Event) (i room read end count n : ℕ) → length es ≡ count → length items ≡ count + room → end ≤ room + read → read ≤ count → length log ≤ i →
    n ≡ count - read → moved_items ≡ paste items end (drop (room + read) items) n → all ≡ take (end + (count - read)) moved_items →
    drop (room + read) items ≡ drop read es → take end items ++ edited_from (drop i log) read (drop read es) ≡ edited log es → all ≡ edited log es
fill-all log es items moved_items all i room read end count n whole size order within past far move cut back front = grind (arith, length-drop, take-paste, take_all, nil-from, drop_all)

-- all edits are applied
pub spread-all : (log : List Edit) (es items : List Event) (read end : ℕ) → read ≡ end → read ≤ length es → All NamesNone es →
    take read items ≡ take read es → All (λ x. read ≤ x.at) log → drop end items ≡ edited_from log read (drop read es) → items ≡ edited log es
spread-all log es items read end e w plain front ahead back =
    let whole : read ≡ read - 0 = omega arith in
    sym (take-append-drop read items) ∙ ap (λ xs. xs ++ drop read items) front ∙ ap (λ xs. take read es ++ xs) (ap (λ n. drop n items) e ∙ back) ∙ ap (λ n. take n es ++ edited_from log read (drop read es)) whole ∙ sym (plain-on log 0 read es (omega arith) w ahead plain)

-- Tests of edits, from the last to the first.

-- edit i and those behind it
module _ (cs : List Event) (E : List Entry) (i : ℕ) (some : 0 < i) (within : i ≤ length E) where
  there : i - 1 < length E
  there = omega arith

  part-of : drop (i - 1) (kept cs E) ≡ edit_of cs (entry E (i - 1)) ∷ drop i (kept cs E)
  part-of =
      let e = edit_of cs (entry E (i - 1)) in
      let last : i - 1 + 1 ≡ i = omega arith in
      let size = length-map E (edit_of cs) in
      drop_more (kept cs E) (i - 1) e (omega arith) ∙ ap (λ x. x ∷ drop (i - 1 + 1) (kept cs E)) (kept-read cs E (i - 1) there e) ∙ ap (λ n. edit_of cs (entry E (i - 1)) ∷ drop n (kept cs E)) last

  all-more : (P : Edit → Type 0) → P (edit_of cs (entry E (i - 1))) → All P (drop i (kept cs E)) → All P (drop (i - 1) (kept cs E))
  all-more P p all = grind (arith, part-of)

  pub growing-more : AreGrowing (drop i (kept cs E)) → (edit_of cs (entry E (i - 1))).remove ≤ length (edit_of cs (entry E (i - 1))).events → AreGrowing (drop (i - 1) (kept cs E))
  growing-more all h = all-more (λ e. e.remove ≤ length e.events) h all

  pub grown-more : grown (drop (i - 1) (kept cs E)) ≡ (length (edit_of cs (entry E (i - 1))).events - (edit_of cs (entry E (i - 1))).remove) + grown (drop i (kept cs E))
  grown-more = ap grown part-of ∙ sum_by-cons (λ e. length e.events - e.remove) (edit_of cs (entry E (i - 1))) (drop i (kept cs E))

  pub apart-more : (count next : ℕ) → ((n : ℕ) → n ≤ next → StandApart n count (drop i (kept cs E))) →
      (edit_of cs (entry E (i - 1))).at + (edit_of cs (entry E (i - 1))).remove ≤ count → (edit_of cs (entry E (i - 1))).at < next →
      (edit_of cs (entry E (i - 1))).at + (edit_of cs (entry E (i - 1))).remove ≤ next →
      (n : ℕ) → n ≤ (edit_of cs (entry E (i - 1))).at → StandApart n count (drop (i - 1) (kept cs E))
  apart-more count next rest fits below beyond n low = grind (arith, part-of)

-- What a list is that edits are applied in.

all-fresh : (xs : List Event) → EachEvent IsUnlinked xs → All IsFresh xs
all-fresh xs h = λ k d l. unlinked-fresh (get_or xs k d) (h k (get_or xs k d) (slice_get-get_or xs k d l))

fresh-cond : (b : Bool) (e : Event) → IsFresh e → All IsFresh (cond b [] (e ∷ []))
fresh-cond true e f = λ k d l. absurd (omega arith)
fresh-cond false e f = grind arith

fresh-from : (log : List Edit) (i : ℕ) (es : List Event) → AddsUnlinked log → All IsFresh es → All IsFresh (edited_from log i es)
fresh-from log i [] u f = all-fresh (added_at i log) (added-unlinked log i u)
fresh-from log i (e ∷ es) u f =
    let first = f 0 e (omega arith) in
    let stays = subst IsFresh (sym (first-moved log e (fresh-unnamed e first))) first in
    All-append IsFresh (added_at i log) (cond (is_removed log i) [] (moved log e ∷ []) ++ edited_from log (suc i) es) (all-fresh (added_at i log) (added-unlinked log i u)) (All-append IsFresh (cond (is_removed log i) [] (moved log e ∷ [])) (edited_from log (suc i) es) (fresh-cond (is_removed log i) (moved log e) stays) (fresh-from log (suc i) es u (λ k d l. f (suc k) d (omega arith))))

-- where no chain is noted, the events are as contracts see them
pub alone-seen : (b : Bool) (items vs : List Event) → IsNoted b items → b ≡ false → bares items ≡ vs → items ≡ vs
alone-seen b items vs n off v = sym (bares-same items (λ k d l. let a = n.alone off k d l in a.1)) ∙ v

fresh-items : (b : Bool) (items : List Event) → IsNoted b items → b ≡ false → All IsFresh items
fresh-items b items n off =
    let same = alone-seen b items (bares items) n off refl in
    let enters = enters-each items (subst OnlyEnters (sym same) n.linked.enters) in
    λ k d l. let a = n.alone off k d l in fresh-of (get_or items k d).kind (get_or items k d).link (enters k d l) a.0 a.1

noted-nil : IsNoted false []
noted-nil = grind (arith, some-none, noted)

pub noted-edited : (b : Bool) (log : List Edit) (items all : List Event) → IsNoted b items → b ≡ false → AddsUnlinked log → all ≡ edited log items → IsNoted b all
noted-edited b log items all n off u h =
    subst (λ c. IsNoted c all) (sym off) (noted-extended false [] (edited log items) all noted-nil (fresh-from log 0 items u (fresh-items b items n off)) h)

pub view-edited : (b : Bool) (log : List Edit) (items vs all : List Event) → IsNoted b items → b ≡ false → AddsUnlinked log → bares items ≡ vs → all ≡ edited log items →
    bares all ≡ edited log vs
view-edited b log items vs all n off u v h =
    sym (alone-seen b all (bares all) (noted-edited b log items all n off u h) off refl) ∙ h ∙ ap (edited log) (alone-seen b items vs n off v)

-- Edits in the order of their places do what the edits do.

module _ (log rest : List Edit) (same : IsRest 0 log rest) where
  removed-same : (j i : ℕ) → removed_by rest j i ≡ removed_by log j i
  removed-same j zero = ap (nat_lt j) (same.removed 0 (omega arith))
  removed-same j (suc i) = grind (arith, removed-same j i)

  goes-same : (j : ℕ) → is_removed rest j ≡ is_removed log j
  goes-same j = removed-same j j

  added-same : (i : ℕ) → added_up_to rest i ≡ added_up_to log i
  added-same zero = added-zero rest ∙ ap length (same.added 0 (omega arith)) ∙ sym (added-zero log)
  added-same (suc i) = omega (arith, ap length (same.added (suc i) (omega arith)), added-more rest i, added-more log i, added-same i)

  before-same : (i : ℕ) → removed_before rest i ≡ removed_before log i
  before-same zero = refl
  before-same (suc i) = ap (λ n. n + cond (is_removed rest i) 1 0) (before-same i) ∙ ap (λ b. removed_before log i + cond b 1 0) (goes-same i)

  number-same : (i : ℕ) → moved_number rest i ≡ moved_number log i
  number-same i = omega (arith, added-same i, before-same i)

  option-same : (o : Option ℕ) → option_map (moved_number rest) o ≡ option_map (moved_number log) o
  option-same None = refl
  option-same (Some n) = ap (λ x. Some x) (number-same n)

  from-same : (i : ℕ) (es : List Event) → edited_from rest i es ≡ edited_from log i es
  from-same i [] = same.added i (omega arith)
  from-same i (e ∷ es) = grind (arith, goes-same, option-same, from-same (suc i) es)

  pub edited-same : (es : List Event) → edited rest es ≡ edited log es
  edited-same es = from-same 0 es
