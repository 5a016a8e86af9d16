-- Starts of lines, tested one after another.
use Rattle.std.proofs.Common.{◌≡◌, ℕ, zero, suc, ◌+◌, ◌<◌, ◌≤◌, ap, refl, sym, ◌∙◌, subst, IsTrue, List, [], ◌∷◌, ◌++◌, length, take, drop, get_or, Option, Some, None, IfSome, arith, length-take}
use Rattle.std.proofs.lemmas.List.{drop_more, take_all, take_more, take-append-drop}
use Rattle.markdown_lines.specs.PiecesOfLines.{AreLines, AreLinesBehind, AreLinesRefused, IsStartFault, MayBegin, is_filled, last_behind}
use Rattle.markdown_lines.specs.declared.lines.LineFault.{LineFault}

pub start_within : (bytes : List ℕ) (before : Option ℕ) (at : ℕ) → MayBegin bytes before at → at ≤ length bytes
start_within bytes before at h = grind arith

-- a line may begin here that is not blank
pub record IsNextLine (bytes : List ℕ) (before : Option ℕ) (at : ℕ) : Type 0 where
  pub may_begin : MayBegin bytes before at
  pub filled : IsTrue (is_filled bytes at)

lines-push : (bytes : List ℕ) (before : Option ℕ) (xs : List ℕ) (at : ℕ) → AreLinesBehind bytes before xs → IsNextLine bytes (last_behind before xs) at → AreLinesBehind bytes before (xs ++ at ∷ [])
lines-push bytes before [] at h k = ((k.may_begin, k.filled), tt)
lines-push bytes before (x ∷ xs) at h k = (h.0, lines-push bytes (Some x) xs at h.1 k)

last-push : (before : Option ℕ) (xs : List ℕ) (at : ℕ) → last_behind before (xs ++ at ∷ []) ≡ Some at
last-push before [] at = refl
last-push before (x ∷ xs) at = last-push (Some x) xs at

-- so many starts are those of lines, and this is the last of them
pub record AreChecked (bytes starts : List ℕ) (number : ℕ) (before : Option ℕ) : Type 0 where
  pub lines : AreLines bytes (take number starts)
  pub last : before ≡ last_behind None (take number starts)
  pub within : IfSome before (λ b. b ≤ length bytes)

pub none_yet : (bytes starts : List ℕ) → AreChecked bytes starts 0 None
none_yet bytes starts = record { lines = tt; last = refl; within = tt }

pub one_more : (bytes starts : List ℕ) (number : ℕ) (before : Option ℕ) → number < length starts → AreChecked bytes starts number before
    → MayBegin bytes before (get_or starts number 0) → IsTrue (is_filled bytes (get_or starts number 0)) → AreChecked bytes starts (number + 1) (Some (get_or starts number 0))
one_more bytes starts number before l h m f = grind (arith, take_more starts number 0 l, lines-push bytes None (take number starts), last-push None (take number starts), start_within bytes before)

pub all_checked : (bytes starts : List ℕ) (number : ℕ) (before : Option ℕ) → AreChecked bytes starts number before → length starts ≤ number → AreLines bytes starts
all_checked bytes starts number before h l = subst (λ (xs : List ℕ). AreLines bytes xs) (take_all number starts l) h.lines

pub first_refused : (bytes starts : List ℕ) (number : ℕ) (before : Option ℕ) (fault : LineFault) → number < length starts → AreChecked bytes starts number before
    → IsStartFault bytes before (get_or starts number 0) number fault → AreLinesRefused bytes starts fault
first_refused bytes starts number before fault l h r =
    let at : ℕ = get_or starts number 0 in
    let n : number ≡ length (take number starts) = omega (arith, l, length-take number starts) in
    record {
      before = take number starts;
      at = at;
      after = drop (number + 1) starts;
      parts = sym (take-append-drop number starts) ∙ ap (λ (xs : List ℕ). take number starts ++ xs) (drop_more starts number 0 l);
      hold = h.lines;
      refused = subst (λ (m : ℕ). IsStartFault bytes (last_behind None (take number starts)) at m fault) n (subst (λ (o : Option ℕ). IsStartFault bytes o at number fault) h.last r);
    }

-- each start of lines stands within the document
within-behind : (bytes : List ℕ) (before : Option ℕ) (starts : List ℕ) (i : ℕ) → AreLinesBehind bytes before starts → i < length starts → get_or starts i 0 ≤ length bytes
within-behind bytes before [] i h l = absurd (omega (arith, l))
within-behind bytes before (x ∷ xs) zero h l = start_within bytes before x h.0.0
within-behind bytes before (x ∷ xs) (suc i) h l = within-behind bytes (Some x) xs i h.1 (omega (arith, l))

pub each_within : (bytes starts : List ℕ) (i : ℕ) → AreLines bytes starts → i < length starts → get_or starts i 0 ≤ length bytes
each_within bytes starts i h l = within-behind bytes None starts i h l
