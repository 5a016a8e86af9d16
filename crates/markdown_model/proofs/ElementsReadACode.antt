-- An element begins at each code, and what reads it takes a code at least.
use Rattle.std.proofs.Common.{◌≡◌, ◌≢◌, ℕ, ◌+◌, ◌≤◌, List, [], ◌∷◌, ◌++◌, length, refl, ap, arith, Option, Some, None}
use Rattle.std.proofs.lemmas.List.{length-append}
use Rattle.markdown_content.specs.Codes.{Code}
use Rattle.markdown_content.specs.Tree.{Forest}
use Rattle.markdown_model.specs.Grammar.{Reading, ◌>>=◌, gives, either, one}
use Rattle.markdown_model.specs.Setting.{Setting}
use Rattle.markdown_model.specs.LabelEnd.{Element, label_before, label_end}
use Rattle.markdown_model.specs.Elements.{as_plain, line_ending, data_code, attention_run, tries, tried, first_check, text_element, string_element}
use Rattle.markdown_model.proofs.ReadsACode.{Left, Consumes, taking, first_takes, both_take, gives_takes, either_takes, takes_no_more, one_takes}
use Rattle.markdown_model.proofs.LabelsCover.{covers_outcome}
use Rattle.markdown_model.proofs.PlainConstructs.{ReadsPlain, plain-takes}
use Rattle.markdown_model.proofs.ElementCases.{EachConstruct, string_has, text_has}

plain_takes : (bytes : List ℕ) (a : Reading Forest) → ReadsPlain bytes a → Consumes 1 (as_plain a)
unfolding as_plain
plain_takes bytes a h = first_takes _ _ (plain-takes bytes a h) λ tree. gives_takes _

line_ending_takes : Consumes 1 line_ending
unfolding line_ending
line_ending_takes = search taking depth 8

data_code_takes : Consumes 1 data_code
unfolding data_code
data_code_takes = search taking depth 8

run_takes : (marker : ℕ) → Consumes 1 (attention_run marker)
unfolding attention_run
run_takes marker = search taking depth 8

-- some codes before others
shorter : (xs ys cs : List Code) → xs ≢ [] → xs ++ ys ≡ cs → 1 + length ys ≤ length cs
shorter [] ys cs some e = absurd (some refl)
shorter (x ∷ xs) ys cs some e = omega (arith, length-append xs ys, ap length e)

label_end_takes : (s : Setting) (earlier : List Element) → Consumes 1 (label_end s earlier)
unfolding label_end
label_end_takes s earlier =
    first_takes _ _ (one_takes _) λ back.
    either_takes _ _ _ (both_take _ _ (takes_no_more _ _ (covers_outcome s (label_before earlier) back)) λ outcome. gives_takes _) (gives_takes _)

pub text_element_takes : (s : Setting) (end : ℕ) (earlier : List Element) (previous : Option Code) →
    Consumes 1 (text_element s end earlier previous)
text_element_takes s end earlier previous = record { at = λ cs. text_has s end earlier previous (Left 1 cs) cs (each cs) (data_code_takes.at cs) }
  where
    each : (cs : List Code) → EachConstruct s end earlier previous (Left 1 cs) cs
    each cs = record {
      none = tt;
      ending = line_ending_takes.at cs;
      plain_has = λ a h. (plain_takes s.bytes a h).at cs;
      stars = λ _. (run_takes 42).at cs;
      underscores = λ _. (run_takes 95).at cs;
      tildes = λ _. (run_takes 126).at cs;
      starts_has = λ kind marker rest some whole. shorter marker rest cs some.0 whole;
      ended = (label_end_takes s earlier).at cs;
    }

pub string_element_takes : (s : Setting) → Consumes 1 (string_element s)
string_element_takes s =
    record { at = λ cs. string_has (Left 1 cs) tt cs s (λ a h. (plain_takes s.bytes a h).at cs) ((either_takes 1 _ _ line_ending_takes data_code_takes).at cs) }

-- Where a code is left, an element begins; data does, if nothing else.

abbrev pub GivesSome : {A : Type 0} → Option (A × List Code) → Type 0
GivesSome None = ⊥
GivesSome (Some r) = Unit {0}

or_holds : {A : Type 0} (a b : Reading A) (cs : List Code) → GivesSome (b cs) → GivesSome (either a b cs)
unfolding either
or_holds {A} a b cs h = by_answer (a cs)
  where
    by_answer : (r : Option (A × List Code)) → GivesSome (elim r [ None ↦ b cs | Some x ↦ Some x ])
    by_answer None = h
    by_answer (Some x) = tt

data_holds : (c : Code) (cs : List Code) → GivesSome (data_code (c ∷ cs))
unfolding data_code ◌>>=◌ one gives
data_holds c cs = tt

pub text_element_holds : (s : Setting) (end : ℕ) (earlier : List Element) (previous : Option Code) (c : Code) (cs : List Code) →
    GivesSome (text_element s end earlier previous (c ∷ cs))
unfolding text_element
text_element_holds s end earlier previous c cs =
    or_holds (first_check s end earlier previous) _ (c ∷ cs) (or_holds (tried (tries s end earlier previous) c.value) data_code (c ∷ cs) (data_holds c cs))

pub string_element_holds : (s : Setting) (c : Code) (cs : List Code) → GivesSome (string_element s (c ∷ cs))
unfolding string_element
string_element_holds s c cs = or_holds _ _ (c ∷ cs) (or_holds _ _ (c ∷ cs) (or_holds _ _ (c ∷ cs) (data_holds c cs)))
