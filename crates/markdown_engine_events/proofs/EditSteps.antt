-- Edits that each take two events away: which events go, and what is left, event by event.
use Rattle.std.proofs.Common.{◌≡◌, ℕ, zero, suc, ◌+◌, ◌≤◌, Bool, true, false, List, [], ◌∷◌, ◌++◌, length, drop, if◌then◌else◌, cond, refl, sym, ap, subst, ◌∙◌, arith, inl, inr}
use Rattle.std.proofs.lemmas.Bool.{cases_lt, cases_Bool, both_ways}
use Rattle.std.proofs.lemmas.List.{drop-drop, drop_at}
use Rattle.markdown_event.specs.declared.event.Event.{Event}
use Rattle.markdown_engine_events.specs.declared.util.edit_map.Edit.{Edit}
use Rattle.markdown_engine_events.specs.EventChains.{linked_at}
use Rattle.markdown_engine_events.specs.Edits.{removed_at, is_removed, added_at, moved_number, moved, edited_from}
use Rattle.markdown_engine_events.proofs.EditRules.{stays-where, goes-where}
use Rattle.markdown_engine_events.proofs.EditLemmas.{start, moved-start}

-- Lists from an index on.

pub drop-next : {A : Type 0} (n : ℕ) (xs : List A) (y : A) (ys : List A) → drop n xs ≡ y ∷ ys → drop (n + 1) xs ≡ ys
drop-next n xs y ys h = sym (drop-drop 1 n xs) ∙ ap (drop 1) h

pub drop-part : {A : Type 0} (n k : ℕ) (zs xs ys : List A) → drop n zs ≡ xs ++ ys → length xs ≡ k → drop (n + k) zs ≡ ys
drop-part n k zs xs ys h l = sym (drop-drop k n zs) ∙ ap (drop k) h ∙ drop_at xs ys k l

-- where `begins` says so, this event and the next go, and those of `comes` come; elsewhere nothing changes
pub record AreOfTwo (log : List Edit) (begins : ℕ → Bool) (comes : ℕ → List Event) : Type 0 where
  pub added : (k : ℕ) → added_at k log ≡ (if begins k then comes k else [])
  pub removed : (k : ℕ) → removed_at k log ≡ (if begins k then 2 else 0)

-- neither of the two events that go carries a link
abbrev pub TwoGoUnlinked : List Event → (ℕ → Bool) → Type 0
TwoGoUnlinked es begins = (k : ℕ) → begins k ≡ true → (linked_at (drop k es) 0 ≡ false) × (linked_at (drop k es) 1 ≡ false)

linked-drop : (k j : ℕ) (es : List Event) (i : ℕ) → i ≡ j + k → linked_at es i ≡ linked_at (drop j es) k
linked-drop k zero es i e = let same : i ≡ k = omega (arith, e) in ap (linked_at es) same
linked-drop k (suc j) [] i e = refl
linked-drop k (suc j) (x ∷ es) zero e = absurd (omega (arith, e))
linked-drop k (suc j) (x ∷ es) (suc i) e = linked-drop k j es i (omega (arith, e))

two-most : (b : Bool) → (if b then 2 else 0) ≤ 2
two-most true = omega arith
two-most false = omega arith

module _ (log : List Edit) (begins : ℕ → Bool) (comes : ℕ → List Event) (of_two : AreOfTwo log begins comes) where
  -- the event before this one does not go together with it
  abbrev pub Fresh : ℕ → Type 0
  Fresh n = (p : ℕ) → suc p ≡ n → begins p ≡ false

  fresh-after : (n : ℕ) → begins n ≡ false → Fresh (n + 1)
  fresh-after n h p k = let same : p ≡ n = omega (arith, k) in ap begins same ∙ h

  -- Which events go.

  removed-here : (k : ℕ) (b : Bool) → begins k ≡ b → removed_at k log ≡ (if b then 2 else 0)
  removed-here k b h = of_two.removed k ∙ ap (λ c. if c then 2 else 0) h

  added-here : (k : ℕ) (b : Bool) → begins k ≡ b → added_at k log ≡ (if b then comes k else [])
  added-here k b h = of_two.added k ∙ ap (λ c. if c then comes k else []) h

  stays-here : (j : ℕ) → begins j ≡ false → Fresh j → is_removed log j ≡ false
  stays-here j h k = stays-where log j (λ p l. reach p l)
    where
      reach : (p : ℕ) → p ≤ j → p + removed_at p log ≤ j
      reach p l =
          elim (cases_lt (p + 1) j) [
            | inl far ↦ let most = two-most (begins p) in let r = of_two.removed p in omega (arith, far, most, r)
            | inr near ↦
                elim (cases_lt p j) [
                  | inl below ↦ let next : suc p ≡ j = omega (arith, near, below) in let r = removed-here p false (k p next) in omega (arith, r, next)
                  | inr at ↦ let same : p ≡ j = omega (arith, at, l) in let r = removed-here p false (ap begins same ∙ h) in omega (arith, r, same)
                ]
          ]

  goes-first : (j : ℕ) → begins j ≡ true → is_removed log j ≡ true
  goes-first j h = let r = removed-here j true h in goes-where log j j (omega arith) (omega (arith, r))

  goes-second : (j : ℕ) → begins j ≡ true → is_removed log (suc j) ≡ true
  goes-second j h = let r = removed-here j true h in goes-where log (suc j) j (omega arith) (omega (arith, r))

  pub goes-unlinked : (es : List Event) → TwoGoUnlinked es begins → (j : ℕ) → is_removed log j ≡ true → linked_at es j ≡ false
  goes-unlinked es h j r =
      elim (cases_Bool (begins j)) [
        | inl b ↦ linked-drop 0 j es j (omega arith) ∙ (h j b).0
        | inr b ↦ second j b r
      ]
    where
      stays : (j : ℕ) → begins j ≡ false → Fresh j → is_removed log j ≡ true → linked_at es j ≡ false
      stays j b f r = absurd (both_ways (is_removed log j) (stays-here j b f) r)

      second : (j : ℕ) → begins j ≡ false → is_removed log j ≡ true → linked_at es j ≡ false
      second zero b r = stays zero b (λ q e. absurd (omega (arith, e))) r
      second (suc j) b r =
          elim (cases_Bool (begins j)) [
            | inl d ↦ linked-drop 1 j es (suc j) (omega arith) ∙ (h j d).1
            | inr d ↦ stays (suc j) b (λ q e. let same : q ≡ j = omega (arith, e) in ap begins same ∙ d) r
          ]

  -- What is left.

  -- where the next event is placed, by how many come and whether this one goes
  start-next : (n k : ℕ) (b : Bool) → is_removed log n ≡ b → length (added_at n log) ≡ k →
      start log (suc n) ≡ start log n + k + cond b 0 1
  start-next n k b h l =
      ap (λ c. start log n + length (added_at n log) + cond c 0 1) h ∙ ap (λ i. start log n + i + cond b 0 1) l

  module _ (es : List Event) where
    -- past an event that stays
    pub record OneStays (n : ℕ) (e : Event) (rest : List Event) : Type 0 where
      pub events : edited_from log n (e ∷ rest) ≡ moved log e ∷ edited_from log (n + 1) rest
      pub placed : start log (n + 1) ≡ start log n + 1
      pub number : moved_number log n ≡ start log n
      pub there : drop (n + 1) es ≡ rest
      pub fresh : Fresh (n + 1)

    pub one-stays : (n : ℕ) (e : Event) (rest : List Event) → drop n es ≡ e ∷ rest → begins n ≡ false → Fresh n →
        OneStays n e rest
    one-stays n e rest h b f = grind (arith, stays-here, added-here, start-next, moved-start, drop-next, fresh-after)

    -- past two events that stay
    pub record TwoStay (n : ℕ) (e x : Event) (rest : List Event) : Type 0 where
      pub events : edited_from log n (e ∷ x ∷ rest) ≡ moved log e ∷ moved log x ∷ edited_from log (n + 2) rest
      pub placed : start log (n + 2) ≡ start log n + 2
      pub number : moved_number log n ≡ start log n
      pub there : drop (n + 2) es ≡ rest
      pub fresh : Fresh (n + 2)

    pub two-stay : (n : ℕ) (e x : Event) (rest : List Event) → drop n es ≡ e ∷ x ∷ rest → begins n ≡ false →
        begins (n + 1) ≡ false → Fresh n → TwoStay n e x rest
    two-stay n e x rest h b c f =
        let first : OneStays n e (x ∷ rest) = one-stays n e (x ∷ rest) h b f in
        let second : OneStays (n + 1) x rest = one-stays (n + 1) x rest first.there c first.fresh in
        let same : n + 1 + 1 ≡ n + 2 = omega arith in
        record {
          events = first.events ∙ ap (λ xs. moved log e ∷ xs) (second.events ∙ ap (λ i. moved log x ∷ edited_from log i rest) same);
          placed = ap (start log) (sym same) ∙ second.placed ∙ omega (arith, first.placed);
          number = first.number;
          there = ap (λ i. drop i es) (sym same) ∙ second.there;
          fresh = subst (λ (i : ℕ). Fresh i) same second.fresh;
        }

    -- past two events that go
    pub record TwoGo (n : ℕ) (e x : Event) (rest : List Event) : Type 0 where
      pub events : edited_from log n (e ∷ x ∷ rest) ≡ comes n ++ edited_from log (n + 2) rest
      pub placed : start log (n + 2) ≡ start log n + length (comes n)
      pub there : drop (n + 2) es ≡ rest
      pub fresh : Fresh (n + 2)

    pub two-go : (n : ℕ) (e x : Event) (rest : List Event) → drop n es ≡ e ∷ x ∷ rest → begins n ≡ true →
        begins (n + 1) ≡ false → TwoGo n e x rest
    two-go n e x rest h b c = grind (arith, goes-first, goes-second, added-here, start-next, drop-next, fresh-after)
