-- What is found in many, handed out one after another.
use Rattle.std.proofs.Common.{◌≡◌, ◌∙◌, sym, ap, subst, refl, ◌⊎◌, inl, inr, ℕ, ◌+◌, ◌<◌, ◌≤◌, List, [], ◌∷◌, ◌++◌, set, length, take, drop, ◌-◌, append_assoc, arith, suc}
use Rattle.std.proofs.Math.Seq.{take-append_seam, drop-append-add}
use Rattle.std.proofs.lemmas.Bool.{cases_lt}
use Rattle.std.proofs.lemmas.List.{drop-drop, flat_map_more, length-append, length-drop, length-take-le, set_split, take-append-drop, take-append-le, take_all}
use Rattle.std.proofs.lemmas.Slice.{drop-put_mid, take-put_mid}
use borrow.Rule.Slice.PartMut.{put_mid}
use Rattle.markdown_inline_c.specs.HandingOut.{HasRoom, IsPlaced, counted}
use Rattle.markdown_inline_c.specs.Many.{AreHandedOut, ends_behind, one_list}
use Rattle.markdown_inline_c.specs.declared.outcome.Outcome.{Outcome}

one-push : {X : Type 0} (found : List (List X)) (x : List X) → one_list (found ++ x ∷ []) ≡ one_list found ++ x
one-push found x = sym (flat_map_more (λ list. list) [] found x)

pub ends-push : {X : Type 0} (n : ℕ) (found : List (List X)) (x : List X) → ends_behind n (found ++ x ∷ []) ≡ ends_behind n found ++ (n + length (one_list found ++ x)) ∷ []
ends-push n [] x = refl
ends-push n (y ∷ found) x =
    let e : (n + length y) + length (one_list found ++ x) ≡ n + length (one_list (y ∷ found) ++ x) =
    omega (arith, length-append (one_list found) x, length-append (y ++ one_list found) x, length-append y (one_list found))
    in
    ap (λ xs. (n + length y) ∷ xs) (ends-push (n + length y) found x ∙ ap (λ m. ends_behind (n + length y) found ++ m ∷ []) e)

length-ends : {X : Type 0} (n : ℕ) (found : List (List X)) → length (ends_behind n found) ≡ length found
length-ends n [] = refl
length-ends n (x ∷ found) = omega (arith, length-ends (n + length x) found)

-- a list is written behind so many elements
pub record IsWritten {X : Type 0} (x array array' : List X) (n : ℕ) : Type 0 where
  pub front : take (n + length x) array' ≡ take n array ++ x
  pub back : drop (n + length x) array' ≡ drop (n + length x) array

pub is_written : {X : Type 0} (x ys array : List X) (from n k : ℕ) → from ≡ n → k ≡ length x → ys ≡ x → n + k ≤ length array → IsWritten x array (put_mid from (from + k - from) array ys) n
is_written x ys array from n k e counted same fits =
    let long : length ys ≡ length x = ap length same in
    subst
    (λ m. IsWritten x array (put_mid from (from + k - from) array ys) m)
    e
    (record {
      front = take-put_mid from (from + k - from) array ys (from + length x) (omega (arith, long)) (omega (arith, e, fits)) ∙ ap (λ xs. take from array ++ xs) same;
      back = drop-put_mid from (from + k - from) array ys (from + length x) (omega (arith, counted)) (omega (arith, e, fits)) (omega (arith, long, counted));
    })

written-more : {X : Type 0} (front x old array array' : List X) (n : ℕ) → n ≡ length front → array ≡ front ++ drop n old → IsWritten x array array' n
    → array' ≡ (front ++ x) ++ drop (length (front ++ x)) old
written-more front x old array array' n e a w =
    let t : take n array ≡ front = ap (λ m. take m array) e ∙ ap (take (length front)) a ∙ take-append_seam front (drop n old) in
    let d : drop (n + length x) array ≡ drop (length (front ++ x)) old =
    ap (λ m. drop (m + length x) array) e
    ∙ ap (drop (length front + length x)) a
    ∙ drop-append-add front (drop n old) (length x)
    ∙ drop-drop (length x) n old
    ∙ ap (λ m. drop m old) (omega (arith, e, length-append front x))
    in
    sym (take-append-drop (n + length x) array')
    ∙ ap (λ xs. xs ++ drop (n + length x) array') (w.front ∙ ap (λ xs. xs ++ x) t)
    ∙ ap (λ xs. (front ++ x) ++ xs) (w.back ∙ d)

-- ends, and one more behind them
ended-more : (front old ends : List ℕ) (n v : ℕ) → n ≡ length front → n < length old → ends ≡ front ++ drop n old → set ends n v ≡ (front ++ v ∷ []) ++ drop (n + 1) old
ended-more front old ends n v e h is =
    let long : length ends ≡ length front + (length old - n) = ap length is ∙ length-append front (drop n old) ∙ ap (λ m. length front + m) (length-drop n old) in
    let t : take n ends ≡ front = ap (λ m. take m ends) e ∙ ap (take (length front)) is ∙ take-append_seam front (drop n old) in
    let next : suc n ≡ length front + 1 = omega (arith, e) in
    let d : drop (suc n) ends ≡ drop (n + 1) old =
    ap (λ m. drop m ends) next ∙ ap (drop (length front + 1)) is ∙ drop-append-add front (drop n old) 1 ∙ drop-drop 1 n old ∙ ap (λ m. drop m old) (omega arith)
    in
    set_split ends n v (omega (arith, long, h, e)) ∙ ap (λ xs. xs ++ v ∷ drop (suc n) ends) t ∙ ap (λ xs. front ++ v ∷ xs) d ∙ sym (append_assoc front (v ∷ []) (drop (n + 1) old))

array-long : {X : Type 0} (found : List (List X)) (old array : List X) (ends_old ends : List ℕ) (o : Outcome) → AreHandedOut found old array ends_old ends o → length array ≡ length old
array-long found old array ends_old ends o handed =
    ap length handed.array
    ∙ length-append (one_list (take o.done found)) (drop (length (one_list (take o.done found))) old)
    ∙ omega (arith, length-drop (length (one_list (take o.done found))) old, handed.done.fits)

ends-long : {X : Type 0} (found : List (List X)) (old array : List X) (ends_old ends : List ℕ) (o : Outcome) → AreHandedOut found old array ends_old ends o → length ends ≡ length ends_old
ends-long found old array ends_old ends o handed =
    ap length handed.ends
    ∙ length-append (ends_behind 0 (take o.done found)) (drop o.done ends_old)
    ∙ omega (arith, length-ends 0 (take o.done found), length-take-le o.done found handed.done.within, length-drop o.done ends_old, handed.done.has_ends)

pub none_handed_out : {X : Type 0} (old : List X) (ends_old : List ℕ) (o : Outcome) → o.done ≡ 0 → o.count ≡ 0 → AreHandedOut [] old old ends_old ends_old o
none_handed_out {X = X} old ends_old o done count =
    let e : take {A = List X} o.done [] ≡ [] = take_all o.done [] (omega arith) in
    record {
      done = record { within = omega (arith, done); fits = rw e (omega arith); has_ends = omega (arith, done); most = inl done };
      count = count;
      array = rw e refl;
      ends = rw (e, done) refl;
    }

-- one more, for which there is room
pub one_more_placed : {X : Type 0} (found : List (List X)) (x old array array' : List X) (ends_old ends ends' : List ℕ) (o o' : Outcome) (number from n : ℕ) → length found ≡ number → n ≡ length x
    → AreHandedOut found old array ends_old ends o → HasRoom o number n (length array) (length ends) → IsPlaced n o o' from
    → IsWritten x array array' o.count → ends' ≡ set ends number (from + n) → AreHandedOut (found ++ x ∷ []) old array' ends_old ends' o'
one_more_placed found x old array array' ends_old ends ends' o o' number from n is_next counted_is so_far room placed written ended =
    let done : o'.done ≡ o.done + 1 = ap (λ (p : Outcome). p.done) placed.new_is in
    let count : o'.count ≡ o.count + length x = ap (λ (p : Outcome). p.count) placed.new_is ∙ ap (λ m. o.count + m) counted_is in
    let all : take o.done found ≡ found = take_all o.done found (omega (arith, is_next, room.all_before)) in
    let more : List (List _) = found ++ x ∷ [] in
    let long : length more ≡ number + 1 = length-append found (x ∷ []) ∙ omega (arith, is_next) in
    let whole : take o'.done more ≡ more = take_all o'.done more (omega (arith, long, done, room.all_before)) in
    let count_is : o.count ≡ length (one_list found) = so_far.count in
    let array_is : array ≡ one_list found ++ drop (length (one_list found)) old = so_far.array ∙ ap (λ xs. one_list xs ++ drop (length (one_list xs)) old) all in
    let ends_is : ends ≡ ends_behind 0 found ++ drop number ends_old =
    so_far.ends ∙ ap (λ xs. ends_behind 0 xs ++ drop o.done ends_old) all ∙ ap (λ m. ends_behind 0 found ++ drop m ends_old) room.all_before
    in
    let array_long : length array ≡ length old = array-long found old array ends_old ends o so_far in
    let ends_long : length ends ≡ length ends_old = ends-long found old array ends_old ends o so_far in
    let total : o'.count ≡ length (one_list more) = count ∙ omega (arith, count_is, ap length (one-push found x), length-append (one_list found) x) in
    record {
      done = record {
        within = omega (arith, long, done, room.all_before);
        fits = subst (λ xs. length (one_list xs) ≤ length old) (sym whole) (omega (arith, total, count, counted_is, room.fits, array_long));
        has_ends = omega (arith, done, room.all_before, room.end, ends_long);
        most = inl (omega (arith, long, done, room.all_before));
      };
      count = total;
      array =
          written-more (one_list found) x old array array' o.count count_is (array_is ∙ ap (λ m. one_list found ++ drop m old) (sym count_is)) written
          ∙ ap (λ xs. xs ++ drop (length xs) old) (sym (one-push found x))
          ∙ ap (λ xs. one_list xs ++ drop (length (one_list xs)) old) (sym whole);
      ends =
          ended
          ∙ ap (set ends number) (omega (arith, placed.from_is, counted_is, count_is, length-append (one_list found) x))
          ∙ ended-more (ends_behind 0 found) ends_old ends number (0 + length (one_list found ++ x)) (omega (arith, length-ends 0 found, is_next)) (omega (arith, room.end, ends_long)) ends_is
          ∙ ap (λ xs. xs ++ drop (number + 1) ends_old) (sym (ends-push 0 found x))
          ∙ ap (λ m. ends_behind 0 more ++ drop m ends_old) (omega (arith, done, room.all_before))
          ∙ ap (λ xs. ends_behind 0 xs ++ drop o'.done ends_old) (sym whole);
    }

-- one more, for which there is none
pub one_more_counted : {X : Type 0} (found : List (List X)) (x old array : List X) (ends_old ends : List ℕ) (o o' : Outcome) (number n : ℕ) → length found ≡ number → n ≡ length x
    → AreHandedOut found old array ends_old ends o → (HasRoom o number n (length array) (length ends) → ⊥) → o' ≡ counted n o → AreHandedOut (found ++ x ∷ []) old array ends_old ends o'
one_more_counted found x old array ends_old ends o o' number n is_next counted_is so_far no_room is =
    let done : o'.done ≡ o.done = ap (λ (p : Outcome). p.done) is in
    let count : o'.count ≡ o.count + length x = ap (λ (p : Outcome). p.count) is ∙ ap (λ m. o.count + m) counted_is in
    let more : List (List _) = found ++ x ∷ [] in
    let long : length more ≡ number + 1 = length-append found (x ∷ []) ∙ omega (arith, is_next) in
    let same : take o'.done more ≡ take o.done found = ap (λ m. take m more) done ∙ take-append-le o.done found (x ∷ []) so_far.done.within in
    let whole : one_list more ≡ one_list found ++ x = one-push found x in
    let array_long : length array ≡ length old = array-long found old array ends_old ends o so_far in
    let ends_long : length ends ≡ length ends_old = ends-long found old array ends_old ends o so_far in
    let Most : Type 0 = (o'.done ≡ length more) ⊎ ((length old < length (one_list (take (o'.done + 1) more))) ⊎ (length ends_old ≡ o'.done)) in
    let past : o.done ≡ number → (number < length ends) ⊎ (length ends ≤ number) → (length array < o.count + length x) ⊎ (o.count + length x ≤ length array) → Most =
    λ before. elim [
      | inr no_end ↦ λ _. inr (inr (omega (arith, done, before, no_end, ends_long, so_far.done.has_ends)))
      | inl end ↦ elim [
        | inr fits ↦ absurd (no_room (record { all_before = before; end = end; fits = omega (arith, fits, counted_is) }))
        | inl high ↦ inr (inl (
            subst (λ xs. length old < length (one_list xs)) (sym (take_all (o'.done + 1) more (omega (arith, done, before, long))))
            (omega (arith, ap length whole, length-append (one_list found) x, so_far.count, high, array_long))))
      ]
    ]
    in
    let earlier : o.done < number → (o.done ≡ length found) ⊎ ((length old < length (one_list (take (o.done + 1) found))) ⊎ (length ends_old ≡ o.done)) → Most =
    λ before. elim [
      | inl e ↦ absurd (omega (arith, e, before, is_next))
      | inr (inl high) ↦ inr (inl (
          subst (λ xs. length old < length (one_list xs)) (sym (ap (λ m. take (m + 1) more) done ∙ take-append-le (o.done + 1) found (x ∷ []) (omega (arith, before, is_next)))) high))
      | inr (inr e) ↦ inr (inr (e ∙ sym done))
    ]
    in
    let by_number : (o.done < number) ⊎ (number ≤ o.done) → Most = elim [
      | inl before ↦ earlier before so_far.done.most
      | inr at ↦ past (omega (arith, at, so_far.done.within, is_next)) (cases_lt number (length ends)) (cases_lt (length array) (o.count + length x))
    ]
    in
    record {
      done = record {
        within = omega (arith, long, done, so_far.done.within, is_next);
        fits = subst (λ xs. length (one_list xs) ≤ length old) (sym same) so_far.done.fits;
        has_ends = omega (arith, done, so_far.done.has_ends);
        most = by_number (cases_lt o.done number);
      };
      count = count ∙ omega (arith, so_far.count, ap length whole, length-append (one_list found) x);
      array = so_far.array ∙ ap (λ xs. one_list xs ++ drop (length (one_list xs)) old) (sym same);
      ends = so_far.ends ∙ ap (λ m. ends_behind 0 (take o.done found) ++ drop m ends_old) (sym done) ∙ ap (λ xs. ends_behind 0 xs ++ drop o'.done ends_old) (sym same);
    }
