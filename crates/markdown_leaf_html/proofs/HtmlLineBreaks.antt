-- Whitespace with line endings in a text that a reading gives: it ends a line's data, and the data of the next line goes on.
use Rattle.std.proofs.Common.{◌≡◌, ℕ, suc, ◌+◌, ◌≤◌, Bool, true, false, ◌&&◌, ◌||◌, Option, Some, None, List, [], ◌∷◌, ◌++◌, length, drop, refl, sym, ap, subst, ◌∙◌, append_assoc, arith}
use Rattle.markdown_event.proofs.AndParts.{and-right}
use Rattle.std.proofs.lemmas.Bool.{or_right}
use Rattle.markdown_content.specs.Codes.{Code, is_line_ending, is_blank}
use Rattle.markdown_engine.specs.Operations.{Op, Exit, Consume, moves, stays}
use Rattle.markdown_event.specs.declared.event.Name.TheVariants as N
use Rattle.markdown_model.specs.CodeTests.{is_whitespace_code}
use Rattle.markdown_model.specs.Grammar.{Reading, with_first}
use Rattle.markdown_model.proofs.ReadingsCover.{At, Covers, itself}
use Rattle.markdown_model.proofs.ReadsACode.{Left, Consumes}
use Rattle.markdown_plan.specs.Plan.{preceded, depth_after}
use Rattle.markdown_plan.proofs.PlanSteps.{preceded-twice}
use Rattle.markdown_leaf_html.specs.HtmlLines.{Mode, InLine, AtStart, InBlank, takes_blank, left_open, to_data, to_blank, ending_ops, ops_from, break_from, text_from, text_of}
use Rattle.markdown_leaf_html.proofs.HtmlLineLemmas.{from-ending, from-blank, from-data}

-- it gives codes that it has passed, and there are some; whitespace at hand is a part of them
pub record PassesItsCodes (r : Reading (List Code)) : Type 0 where
  pub takes : Covers itself [] r
  pub consumes : Consumes 1 r
  pub skips : (c : Code) (cs : List Code) → is_whitespace_code c ≡ true → r (c ∷ cs) ≡ with_first c (r cs)

-- One code of a text.

pub text-ending : (m : Mode) (c : Code) (o : Option (List Code × List Code)) → is_line_ending c ≡ true →
    text_from m (with_first c o) ≡ preceded (left_open m ++ ending_ops) (text_from AtStart o)
text-ending m c None e = refl
text-ending m c (Some r) e =
    ap (λ os. Some (os ++ Exit N.HtmlText ∷ [])) (from-ending m c r.0 e ∙ sym (append_assoc (left_open m) ending_ops (ops_from AtStart r.0)))
    ∙ ap (λ os. Some os) (append_assoc (left_open m ++ ending_ops) (ops_from AtStart r.0) (Exit N.HtmlText ∷ []))

pub text-blank : (m : Mode) (c : Code) (o : Option (List Code × List Code)) → is_line_ending c ≡ false →
    takes_blank m && is_blank c ≡ true →
    text_from m (with_first c o) ≡ preceded (to_blank m ++ Consume ∷ []) (text_from InBlank o)
text-blank m c None e h = refl
text-blank m c (Some r) e h =
    ap (λ os. Some (os ++ Exit N.HtmlText ∷ [])) (from-blank m c r.0 e h ∙ sym (append_assoc (to_blank m) (Consume ∷ []) (ops_from InBlank r.0)))
    ∙ ap (λ os. Some os) (append_assoc (to_blank m ++ Consume ∷ []) (ops_from InBlank r.0) (Exit N.HtmlText ∷ []))

pub text-code : (c : Code) (o : Option (List Code × List Code)) → is_line_ending c ≡ false →
    text_from InLine (with_first c o) ≡ preceded (Consume ∷ []) (text_from InLine o)
text-code c None e = refl
text-code c (Some r) e = ap (λ os. Some (os ++ Exit N.HtmlText ∷ [])) (from-data InLine c r.0 e refl)

-- on to data, before a code that is data
to-data : (m : Mode) (c : Code) (cs : List Code) → is_line_ending c ≡ false → takes_blank m && is_blank c ≡ false →
    ops_from m (c ∷ cs) ≡ to_data m ++ ops_from InLine (c ∷ cs)
to-data m c cs e h = from-data m c cs e h ∙ ap (λ os. to_data m ++ os) (sym (from-data InLine c cs e refl))

-- what a reading gives begins with the code at hand
first-by : (c : Code) (cs x rest : List Code) → x ++ rest ≡ c ∷ cs → 1 + length rest ≤ suc (length cs) →
    (xs : List Code) × (x ≡ c ∷ xs)
first-by c cs [] rest e h = absurd (omega (arith, ap length e, h))
first-by c cs (x ∷ xs) rest e h = (xs, ap (λ y. y ∷ xs) (cc))

text-data-by : (m : Mode) (c : Code) (cs : List Code) (o : Option (List Code × List Code)) → At itself [] (c ∷ cs) o →
    Left 1 (c ∷ cs) o → is_line_ending c ≡ false → takes_blank m && is_blank c ≡ false →
    text_from m o ≡ preceded (to_data m) (text_from InLine o)
text-data-by m c cs None a l e h = refl
text-data-by m c cs (Some r) a l e h =
    let f = first-by c cs r.0 r.1 a l in
    let same : ops_from m r.0 ≡ to_data m ++ ops_from InLine r.0 = ap (ops_from m) f.1 ∙ to-data m c f.0 e h ∙ ap (λ xs. to_data m ++ ops_from InLine xs) (sym f.1) in
    ap (λ os. Some (os ++ Exit N.HtmlText ∷ [])) same ∙ ap (λ os. Some os) (append_assoc (to_data m) (ops_from InLine r.0) (Exit N.HtmlText ∷ []))

text-end-by : (m : Mode) (o : Option (List Code × List Code)) → Left 1 [] o →
    text_from m o ≡ preceded (to_data m) (text_from InLine o)
text-end-by m None l = refl
text-end-by m (Some r) l = absurd (omega (arith, l))

-- The operations of a break.

pub break-ending : (m : Mode) (c : Code) (cs : List Code) → is_line_ending c ≡ true →
    break_from m (c ∷ cs) ≡ (left_open m ++ ending_ops) ++ break_from AtStart cs
break-ending m c cs e = rw e (sym (append_assoc (left_open m) ending_ops (break_from AtStart cs)))

pub break-blank : (m : Mode) (c : Code) (cs : List Code) → is_line_ending c ≡ false →
    takes_blank m && is_blank c ≡ true → break_from m (c ∷ cs) ≡ (to_blank m ++ Consume ∷ []) ++ break_from InBlank cs
break-blank m c cs e h = rw (e, h) (sym (append_assoc (to_blank m) (Consume ∷ []) (break_from InBlank cs)))

pub break-data : (m : Mode) (c : Code) (cs : List Code) → is_line_ending c ≡ false →
    takes_blank m && is_blank c ≡ false → break_from m (c ∷ cs) ≡ to_data m
break-data m c cs e h = rw (e, h) refl

pub moves-row : (xs ys : List Op) → moves (xs ++ ys) ≡ moves xs + moves ys
moves-row [] ys = omega arith
moves-row (x ∷ xs) ys = omega (arith, moves-row xs ys)

moves-ending : (m : Mode) → moves (left_open m ++ ending_ops) ≡ 1
moves-ending InLine = refl
moves-ending AtStart = refl
moves-ending InBlank = refl

moves-blank : (m : Mode) → moves (to_blank m ++ Consume ∷ []) ≡ 1
moves-blank InLine = refl
moves-blank AtStart = refl
moves-blank InBlank = refl

moves-data : (m : Mode) → moves (to_data m) ≡ 0
moves-data InLine = refl
moves-data AtStart = refl
moves-data InBlank = refl

-- past one code and then more
moves-on : (xs ys : List Op) → moves xs ≡ 1 → moves (xs ++ ys) ≡ suc (moves ys)
moves-on xs ys e = omega (arith, moves-row xs ys, e)

-- A text from whitespace on: the break, and the text from the next line's data on.

abbrev HtmlBreaks : Reading (List Code) → Mode → List Code → List Op → Type 0
HtmlBreaks r m cs os = text_from m (r cs) ≡ preceded os (text_of r (drop (moves os) cs))

breaks-more : (r : Reading (List Code)) (m n : Mode) (c : Code) (cs : List Code) (front os : List Op) →
    moves front ≡ 1 → text_from m (r (c ∷ cs)) ≡ preceded front (text_from n (r cs)) → HtmlBreaks r n cs os →
    HtmlBreaks r m (c ∷ cs) (front ++ os)
breaks-more r m n c cs front os one e k =
    let rest : drop (moves (front ++ os)) (c ∷ cs) ≡ drop (moves os) cs = ap (λ x. drop x (c ∷ cs)) (moves-on front os one) in
    e ∙ ap (preceded front) k ∙ sym (preceded-twice front os (text_of r (drop (moves os) cs))) ∙ ap (λ xs. preceded (front ++ os) (text_of r xs)) (sym rest)

whitespace-is : (c : Code) → is_blank c ≡ true → is_whitespace_code c ≡ true
whitespace-is c e = ap (λ b. b || is_line_ending c) e

breaks-by : (ending blank : Bool) (r : Reading (List Code)) → PassesItsCodes r → (m : Mode) (c : Code) (cs : List Code) →
    is_line_ending c ≡ ending → takes_blank m && is_blank c ≡ blank → ((n : Mode) → HtmlBreaks r n cs (break_from n cs)) →
    HtmlBreaks r m (c ∷ cs) (break_from m (c ∷ cs))
breaks-by true blank r g m c cs e h more =
    subst (λ os. HtmlBreaks r m (c ∷ cs) os) (sym (break-ending m c cs e))
    (breaks-more r m AtStart c cs (left_open m ++ ending_ops) (break_from AtStart cs) (moves-ending m)
    (ap (text_from m) (g.skips c cs (or_right (is_blank c) _ e)) ∙ text-ending m c (r cs) e) (more AtStart))
breaks-by false true r g m c cs e h more =
    subst (λ os. HtmlBreaks r m (c ∷ cs) os) (sym (break-blank m c cs e h))
    (breaks-more r m InBlank c cs (to_blank m ++ Consume ∷ []) (break_from InBlank cs) (moves-blank m)
    (ap (text_from m) (g.skips c cs (whitespace-is c (and-right (takes_blank m) _ h))) ∙ text-blank m c (r cs) e h) (more InBlank))
breaks-by false false r g m c cs e h more =
    subst (λ os. HtmlBreaks r m (c ∷ cs) os) (sym (break-data m c cs e h))
    (text-data-by m c cs (r (c ∷ cs)) (g.takes.at (c ∷ cs)) (g.consumes.at (c ∷ cs)) e h
    ∙ ap (λ n. preceded (to_data m) (text_of r (drop n (c ∷ cs)))) (sym (moves-data m)))

pub breaks : (r : Reading (List Code)) → PassesItsCodes r → (m : Mode) (cs : List Code) → HtmlBreaks r m cs (break_from m cs)
breaks r g m [] =
    text-end-by m (r []) (g.consumes.at []) ∙ ap (λ n. preceded (to_data m) (text_of r (drop n []))) (sym (moves-data m))
breaks r g m (c ∷ cs) =
    breaks-by (is_line_ending c) (takes_blank m && is_blank c) r g m c cs refl refl (λ n. breaks r g n cs)

-- What a break leaves open.

abbrev depth_of : Mode → ℕ
depth_of InLine = 2
depth_of AtStart = 1
depth_of InBlank = 2

record Steady (d : ℕ) (os : List Op) : Type 0 where
  closes : stays d os ≡ true
  depth : depth_after d os ≡ 2

steady-by : (ending blank : Bool) (m : Mode) (c : Code) (cs : List Code) → is_line_ending c ≡ ending →
    takes_blank m && is_blank c ≡ blank → ((n : Mode) → Steady (depth_of n) (break_from n cs)) →
    Steady (depth_of m) (break_from m (c ∷ cs))
steady-by true blank m c cs e h more = subst (λ os. Steady (depth_of m) os) (sym (break-ending m c cs e)) (past-ending m (more AtStart))
  where
    past-ending : (n : Mode) → Steady 1 (break_from AtStart cs) →
        Steady (depth_of n) ((left_open n ++ ending_ops) ++ break_from AtStart cs)
    past-ending InLine k = record { closes = k.closes; depth = k.depth }
    past-ending AtStart k = record { closes = k.closes; depth = k.depth }
    past-ending InBlank k = record { closes = k.closes; depth = k.depth }
steady-by false true m c cs e h more = subst (λ os. Steady (depth_of m) os) (sym (break-blank m c cs e h)) (past-blank m h (more InBlank))
  where
    past-blank : (n : Mode) → takes_blank n && is_blank c ≡ true → Steady 2 (break_from InBlank cs) →
        Steady (depth_of n) ((to_blank n ++ Consume ∷ []) ++ break_from InBlank cs)
    past-blank InLine i k = cc
    past-blank AtStart i k = record { closes = k.closes; depth = k.depth }
    past-blank InBlank i k = record { closes = k.closes; depth = k.depth }
steady-by false false m c cs e h more = subst (λ os. Steady (depth_of m) os) (sym (break-data m c cs e h)) (past-data m)
  where
    past-data : (n : Mode) → Steady (depth_of n) (to_data n)
    past-data InLine = record { closes = refl; depth = refl }
    past-data AtStart = record { closes = refl; depth = refl }
    past-data InBlank = record { closes = refl; depth = refl }

steady-end : (m : Mode) → Steady (depth_of m) (to_data m)
steady-end InLine = record { closes = refl; depth = refl }
steady-end AtStart = record { closes = refl; depth = refl }
steady-end InBlank = record { closes = refl; depth = refl }

steady : (m : Mode) (cs : List Code) → Steady (depth_of m) (break_from m cs)
steady m [] = steady-end m
steady m (c ∷ cs) = steady-by (is_line_ending c) (takes_blank m && is_blank c) m c cs refl refl (λ n. steady n cs)

pub break-stays : (cs : List Code) → stays 2 (break_from InLine cs) ≡ true
break-stays cs = (steady InLine cs).closes

pub break-depth : (cs : List Code) → depth_after 2 (break_from InLine cs) ≡ 2
break-depth cs = (steady InLine cs).depth

-- How many codes a break passes.

fewer-by : (ending blank : Bool) (m : Mode) (c : Code) (cs : List Code) → is_line_ending c ≡ ending →
    takes_blank m && is_blank c ≡ blank → ((n : Mode) → moves (break_from n cs) ≤ length cs) →
    moves (break_from m (c ∷ cs)) ≤ suc (length cs)
fewer-by true blank m c cs e h more =
    omega (arith, ap moves (break-ending m c cs e), moves-on (left_open m ++ ending_ops) (break_from AtStart cs) (moves-ending m), more AtStart)
fewer-by false true m c cs e h more =
    omega (arith, ap moves (break-blank m c cs e h), moves-on (to_blank m ++ Consume ∷ []) (break_from InBlank cs) (moves-blank m), more InBlank)
fewer-by false false m c cs e h more = omega (arith, ap moves (break-data m c cs e h), moves-data m)

pub break-fits : (m : Mode) (cs : List Code) → moves (break_from m cs) ≤ length cs
break-fits m [] = omega (arith, moves-data m)
break-fits m (c ∷ cs) =
    fewer-by (is_line_ending c) (takes_blank m && is_blank c) m c cs refl refl (λ n. break-fits n cs)

pub break-moves : (m : Mode) (c : Code) (cs : List Code) → is_line_ending c ≡ true → 1 ≤ moves (break_from m (c ∷ cs))
break-moves m c cs e =
    omega (arith, ap moves (break-ending m c cs e), moves-on (left_open m ++ ending_ops) (break_from AtStart cs) (moves-ending m))
