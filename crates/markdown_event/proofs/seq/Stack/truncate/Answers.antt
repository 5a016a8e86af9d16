use Rattle.std.proofs.Common.{◌≡◌, ◌-◌, ℕ, List, ◌++◌, length, take, drop, reverse, sym, ap, ◌∙◌, arith}
use Rattle.std.proofs.lemmas.List.{reverse-append, length-reverse, take-append-drop}
use Rattle.std.proofs.lemmas.Grind.{common_steps}
use Rattle.markdown_event.proofs.seq.Stack.truncate.Goals as goal

-- dropping a first part of known length
drop-first : {X : Type 0} → (a b : List X) (n : ℕ) → n ≡ length a → drop n (a ++ b) ≡ b
drop-first a b n e = grind (arith, common_steps)

reverse-take : {X : Type 0} → (xs : List X) (n : ℕ) → reverse (take n xs) ≡ drop (length (reverse xs) - n) (reverse xs)
reverse-take xs n =
    let parts : reverse xs ≡ reverse (drop n xs) ++ reverse (take n xs) = ap reverse (sym (take-append-drop n xs)) ∙ reverse-append (take n xs) (drop n xs) in
    let size : length (reverse xs) - n ≡ length (reverse (drop n xs)) = grind (arith, common_steps, length-reverse) in
    sym (ap (λ x. drop (length (reverse xs) - n) x) parts ∙ drop-first (reverse (drop n xs)) (reverse (take n xs)) _ size)

pub returns : goal.returns
returns g c = rw (c.truncate.ensures.items, ← c.self.view_is) (reverse-take c.self.inside.bottom_up.items c.args.n)
