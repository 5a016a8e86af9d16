-- Codes over which the text of a destination or a title goes on by itself.
use Rattle.std.proofs.Common.{◌≡◌, None, if◌then◌else◌, ◌∙◌, refl, sym, ap, ℕ, ◌==◌, Bool, true, false, ◌&&◌, Some, List, [], ◌∷◌}
use Rattle.std.specs.List.{list_any}
use Rattle.std.proofs.Math.Bool.{and-false}
use Rattle.std.specs.Prelude.{codes}
use Rattle.std.proofs.lemmas.Bool.{both_ways, or_parts, eqb-true}
use Rattle.markdown_engine.specs.Operations.{current_of, consumed}
use Rattle.markdown_engine.specs.StateRuns.{stepped}
use Rattle.markdown_content.specs.Stretch.{is_free}
use Rattle.markdown_event.specs.declared.state.State.TheVariants.{Next}
use Rattle.markdown_event.specs.declared.state.StateName.TheVariants.{DestinationEnclosed, DestinationRaw, TitleInside}
use Rattle.markdown_engine.specs.declared.tokenizer.Tokenizer.{Tokenizer}
use Rattle.markdown_engine.proofs.SteadyLemmas.{steady-at}
use Rattle.markdown_model.specs.CodeTests.{is_between}
use Rattle.markdown_partial.specs.PartialDestination.{enclosed_at, enclosed_step, enclosed_stops, raw_at, raw_step, raw_stops, stops_in, stops_value}
use Rattle.markdown_plan.proofs.ByteTestLemmas.{no-control}
use Rattle.markdown_partial.proofs.BoolLemmas.{same-value}
use Rattle.markdown_partial.specs.LinkedText.{rules_in}
use Rattle.markdown_partial.specs.PartialTitle.{inside_at, inside_step, inside_stops}

pub enclosed-steady : (T : Tokenizer) (set : List ℕ) → stops_in DestinationEnclosed ≡ Some set →
    is_free set (current_of T) ≡ true → enclosed_step T ≡ stepped (Next DestinationEnclosed) (consumed T)
enclosed-steady T set known free =
    steady-at set T enclosed_at (stepped (Next DestinationEnclosed) (consumed T)) free (λ v a b.
    let same : set ≡ enclosed_stops = cc in
    let none : list_any (λ n. v == n) enclosed_stops ≡ false = ap (λ (ns : List ℕ). list_any (λ n. v == n) ns) (sym same) ∙ b in
    let less = or_parts (v == 60) _ none in
    let greater = or_parts (v == 62) _ less.1 in
    let slash = or_parts (v == 92) _ greater.1 in
    rw (greater.0, less.0, a, slash.0) refl)

-- a tab is a control
no-tab : (v : ℕ) → is_between 1 31 v ≡ false → (b : Bool) → (v == 9) ≡ b → (v == 9) ≡ false
no-tab v h false e = e
no-tab v h true e = absurd (both_ways (is_between 1 31 v) h (same-value v 9 e (is_between 1 31)))

pub raw-steady : (T : Tokenizer) (set : List ℕ) → stops_in DestinationRaw ≡ Some set →
    is_free set (current_of T) ≡ true → raw_step T ≡ stepped (Next DestinationRaw) (consumed T)
raw-steady T set known free =
    steady-at set T raw_at (stepped (Next DestinationRaw) (consumed T)) free (λ v a b.
    let same : set ≡ raw_stops = cc in
    let none : list_any (λ n. v == n) raw_stops ≡ false = ap (λ (ns : List ℕ). list_any (λ n. v == n) ns) (sym same) ∙ b in
    let space = or_parts (v == 32) _ none in
    let opening = or_parts (v == 40) _ space.1 in
    let close = or_parts (v == 41) _ opening.1 in
    let slash = or_parts (v == 92) _ close.1 in
    let control = no-control v slash.1 in
    let stop : stops_value v ≡ false = rw (a, space.0, close.0, no-tab v control.0 _ refl) refl in
    let on : (T.tokenize_state.size == 0 && stops_value v) ≡ false = ap (λ x. T.tokenize_state.size == 0 && x) stop ∙ and-false (T.tokenize_state.size == 0) in
    rw (on, opening.0, close.0, control.0, control.1, space.0, slash.0) refl)

-- a byte that is none of those of a title with this marker is neither the marker, nor a backslash, nor refused
title-free : (m v : ℕ) (rule : Bool) (set : List ℕ) → list_any (λ n. v == n) set ≡ false → (d q r : Bool) → (m == 34) ≡ d → (m == 39) ≡ q → (m == 41) ≡ r
    → (if d then Some (codes "\"\\") else (if q then Some (codes "'\\") else (if r then Some (codes ")\\(") else None))) ≡ Some set
    → ((v == m) ≡ false) × (((v == 92) ≡ false) × (((m == 41 && rule) && v == 40) ≡ false))
title-free m v rule set b true q r d e f h =
    let same : m ≡ 34 = eqb-true m 34 d in
    let is : set ≡ 34 ∷ 92 ∷ [] = cc in
    let none : list_any (λ n. v == n) (34 ∷ 92 ∷ []) ≡ false = ap (λ (ns : List ℕ). list_any (λ n. v == n) ns) (sym is) ∙ b in
    let marker = or_parts (v == 34) _ none in
    let slash = or_parts (v == 92) _ marker.1 in
    (ap (λ n. v == n) same ∙ marker.0, (slash.0, ap (λ n. (n == 41 && rule) && v == 40) same))
title-free m v rule set b false true r d e f h =
    let same : m ≡ 39 = eqb-true m 39 e in
    let is : set ≡ 39 ∷ 92 ∷ [] = cc in
    let none : list_any (λ n. v == n) (39 ∷ 92 ∷ []) ≡ false = ap (λ (ns : List ℕ). list_any (λ n. v == n) ns) (sym is) ∙ b in
    let marker = or_parts (v == 39) _ none in
    let slash = or_parts (v == 92) _ marker.1 in
    (ap (λ n. v == n) same ∙ marker.0, (slash.0, ap (λ n. (n == 41 && rule) && v == 40) same))
title-free m v rule set b false false true d e f h =
    let same : m ≡ 41 = eqb-true m 41 f in
    let is : set ≡ 41 ∷ 92 ∷ 40 ∷ [] = cc in
    let none : list_any (λ n. v == n) (41 ∷ 92 ∷ 40 ∷ []) ≡ false = ap (λ (ns : List ℕ). list_any (λ n. v == n) ns) (sym is) ∙ b in
    let marker = or_parts (v == 41) _ none in
    let slash = or_parts (v == 92) _ marker.1 in
    let parenthesis = or_parts (v == 40) _ slash.1 in
    (ap (λ n. v == n) same ∙ marker.0, (slash.0, ap (λ x. (m == 41 && rule) && x) parenthesis.0 ∙ and-false (m == 41 && rule)))
title-free m v rule set b false false false d e f h = cc

pub title-steady : (T : Tokenizer) (set : List ℕ) → inside_stops T.tokenize_state ≡ Some set →
    is_free set (current_of T) ≡ true → inside_step T ≡ stepped (Next TitleInside) (consumed T)
title-steady T set known free =
    steady-at set T inside_at (stepped (Next TitleInside) (consumed T)) free (λ v a b.
    let free = title-free T.tokenize_state.marker v (rules_in T).escaped_parentheses set b _ _ _ refl refl refl known in
    rw (a, free.0, free.1.1, free.1.0) refl)
