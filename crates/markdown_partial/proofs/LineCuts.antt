-- how codes are cut into lines and stretches of data
use Rattle.std.proofs.Common.{◌≡◌, Bool, true, false, ◌&&◌, ◌||◌, not, Some, None, List, [], ◌∷◌, refl, sym, ap, subst, ◌∙◌}
use Rattle.std.proofs.lemmas.Bool.{or_from, or_left, or_right}
use Rattle.markdown_content.specs.Codes.{Code, is_line_ending}
use Rattle.markdown_engine.specs.PastTree.{behind}
use Rattle.markdown_content.specs.Tree.{Forest, empty, leaf, ◌⊕◌}
use Rattle.markdown_event.specs.declared.event.Name.TheVariants as N
use Rattle.markdown_model.specs.Grammar.{until}
use Rattle.markdown_model.specs.TextLines.{joins, onto_stretch, lines_of, line_leaf, line_leaves, data_up_to}
use Rattle.markdown_partial.specs.PartialData.{ends_stretch, more_data}
use Rattle.markdown_model.proofs.GrammarSteps.{until-goes, until-stops}
use Rattle.markdown_model.proofs.DefinitionSteps.{lines_of-ending}

onto : (b : Bool) → Code → Code → List Code → List (List Code) → List (List Code)
onto true c d ds more = (c ∷ d ∷ ds) ∷ more
onto false c d ds more = (c ∷ []) ∷ (d ∷ ds) ∷ more

onto-first : (c d : Code) (ds : List Code) (more : List (List Code)) (b : Bool) → joins (λ x. true) c d ≡ b →
    onto_stretch (λ x. true) c ((d ∷ ds) ∷ more) ≡ onto b c d ds more
unfolding onto
onto-first c d ds more true e =
    ap (λ (b : Bool). let ss : List (List Code) = elim b [ true ↦ (c ∷ d ∷ ds) ∷ more | false ↦ (c ∷ []) ∷ (d ∷ ds) ∷ more ] in ss) e
onto-first c d ds more false e =
    ap (λ (b : Bool). let ss : List (List Code) = elim b [ true ↦ (c ∷ d ∷ ds) ∷ more | false ↦ (c ∷ []) ∷ (d ∷ ds) ∷ more ] in ss) e

-- whether two codes join where every code passes
tied : Bool → Bool → Bool
tied a b = not (a || b) && ((true && true) || not (true || true))

tied-second : (a b : Bool) → b ≡ true → tied a b ≡ false
unfolding tied
tied-second true true e = refl
tied-second false true e = refl
tied-second a false e = cc

tied-both : (a b : Bool) → a ≡ false → b ≡ false → tied a b ≡ true
unfolding tied
tied-both false false e f = refl
tied-both true b e f = cc
tied-both false true e f = cc

onto-before : (c d : Code) (ds : List Code) (more : List (List Code)) → is_line_ending d ≡ true →
    onto_stretch (λ x. true) c ((d ∷ ds) ∷ more) ≡ (c ∷ []) ∷ (d ∷ ds) ∷ more
unfolding onto tied
onto-before c d ds more e = onto-first c d ds more false (tied-second (is_line_ending c) (is_line_ending d) e)

onto-same : (c d : Code) (ds : List Code) (more : List (List Code)) → is_line_ending c ≡ false →
    is_line_ending d ≡ false → onto_stretch (λ x. true) c ((d ∷ ds) ∷ more) ≡ (c ∷ d ∷ ds) ∷ more
unfolding onto tied
onto-same c d ds more e f = onto-first c d ds more true (tied-both (is_line_ending c) (is_line_ending d) e f)

-- The codes of the stretch at hand.

abbrev pub up_to_break : (List Code → Bool) → List Code → List Code × List Code
up_to_break stops cs = until (ends_stretch stops) cs

pub break-stops : (stops : List Code → Bool) (c : Code) (cs : List Code) → is_line_ending c || stops (c ∷ cs) ≡ true →
    up_to_break stops (c ∷ cs) ≡ ([], c ∷ cs)
break-stops stops c cs e = until-stops (ends_stretch stops) c cs e

pub break-goes : (stops : List Code → Bool) (c : Code) (cs : List Code) → is_line_ending c || stops (c ∷ cs) ≡ false →
    up_to_break stops (c ∷ cs) ≡ (c ∷ (up_to_break stops cs).0, (up_to_break stops cs).1)
break-goes stops c cs e = until-goes (ends_stretch stops) c cs e

-- a stretch of data, from a code that is no line ending on: the codes up to where data stops are its codes and those of what is left behind them
abbrev CutsTheLine : (List Code → Bool) → Code → List Code × List Code → List Code × List Code → Type 0
CutsTheLine stops c whole part =
    (lines_of (c ∷ whole.0) ≡ (c ∷ part.0) ∷ lines_of (until stops part.1).0) × (whole.1 ≡ (until stops part.1).1)

cut-by : (stop ending : Bool) → (stops : List Code → Bool) (c d : Code) (cs : List Code) → is_line_ending c ≡ false →
    stops (d ∷ cs) ≡ stop → is_line_ending d ≡ ending →
    (is_line_ending d ≡ false → CutsTheLine stops d (until stops cs) (up_to_break stops cs)) →
    CutsTheLine stops c (until stops (d ∷ cs)) (up_to_break stops (d ∷ cs))
cut-by true ending stops c d cs e f g h =
    let whole : until stops (d ∷ cs) ≡ ([], d ∷ cs) = until-stops stops d cs f in
    let part : up_to_break stops (d ∷ cs) ≡ ([], d ∷ cs) = break-stops stops d cs (or_right (is_line_ending d) (stops (d ∷ cs)) f) in
    let now : CutsTheLine stops c ([], d ∷ cs) ([], d ∷ cs) = (ap (λ (s : List Code × List Code). (c ∷ []) ∷ lines_of s.0) (sym whole), ap (λ (s : List Code × List Code). s.1) (sym whole)) in
    subst (λ s. CutsTheLine stops c s (up_to_break stops (d ∷ cs))) (sym whole) (subst (λ s. CutsTheLine stops c ([], d ∷ cs) s) (sym part) now)
cut-by false true stops c d cs e f g h =
    let whole : until stops (d ∷ cs) ≡ (d ∷ (until stops cs).0, (until stops cs).1) = until-goes stops d cs f in
    let part : up_to_break stops (d ∷ cs) ≡ ([], d ∷ cs) = break-stops stops d cs (or_left (is_line_ending d) (stops (d ∷ cs)) g) in
    let lines : lines_of (d ∷ (until stops cs).0) ≡ (d ∷ []) ∷ lines_of (until stops cs).0 = lines_of-ending d (until stops cs).0 g in
    let two : lines_of (c ∷ d ∷ (until stops cs).0) ≡ (c ∷ []) ∷ lines_of (d ∷ (until stops cs).0) =
    ap (onto_stretch (λ x. true) c) lines ∙ onto-before c d [] (lines_of (until stops cs).0) g ∙ ap (λ ss. (c ∷ []) ∷ ss) (sym lines) in
    let now : CutsTheLine stops c (until stops (d ∷ cs)) ([], d ∷ cs) =
    (ap (λ (s : List Code × List Code). lines_of (c ∷ s.0)) whole ∙ two ∙ ap (λ (s : List Code × List Code). (c ∷ []) ∷ lines_of s.0) (sym whole), refl) in
    subst (λ s. CutsTheLine stops c (until stops (d ∷ cs)) s) (sym part) now
cut-by false false stops c d cs e f g h =
    let whole : until stops (d ∷ cs) ≡ (d ∷ (until stops cs).0, (until stops cs).1) = until-goes stops d cs f in
    let part : up_to_break stops (d ∷ cs) ≡ (d ∷ (up_to_break stops cs).0, (up_to_break stops cs).1) = break-goes stops d cs (or_from (is_line_ending d) (stops (d ∷ cs)) g f) in
    let now : CutsTheLine stops c (d ∷ (until stops cs).0, (until stops cs).1) (d ∷ (up_to_break stops cs).0, (up_to_break stops cs).1) =
    (ap (onto_stretch (λ x. true) c) (h g).0 ∙ onto-same c d (up_to_break stops cs).0 (lines_of (until stops (up_to_break stops cs).1).0) e g, (h g).1) in
    subst (λ s. CutsTheLine stops c s (up_to_break stops (d ∷ cs))) (sym whole)
    (subst (λ s. CutsTheLine stops c (d ∷ (until stops cs).0, (until stops cs).1) s) (sym part) now)

cut : (stops : List Code → Bool) (c : Code) (cs : List Code) → is_line_ending c ≡ false →
    CutsTheLine stops c (until stops cs) (up_to_break stops cs)
cut stops c [] e = (refl, refl)
cut stops c (d ∷ cs) e = cut-by (stops (d ∷ cs)) (is_line_ending d) stops c d cs e refl refl (λ f. cut stops d cs f)

-- Data from a code on.

leaf-data : (c : Code) (cs : List Code) → is_line_ending c ≡ false →
    line_leaf N.Data None (c ∷ cs) ≡ leaf N.Data (c ∷ cs)
leaf-data c cs e =
    ap (λ (b : Bool). let t : Forest = elim b [ true ↦ leaf N.LineEnding (c ∷ cs) | false ↦ leaf N.Data (c ∷ cs) ] in t) e

leaf-ending : (c : Code) (cs : List Code) → is_line_ending c ≡ true →
    line_leaf N.Data None (c ∷ cs) ≡ leaf N.LineEnding (c ∷ cs)
leaf-ending c cs e =
    ap (λ (b : Bool). let t : Forest = elim b [ true ↦ leaf N.LineEnding (c ∷ cs) | false ↦ leaf N.Data (c ∷ cs) ] in t) e

-- a stretch, and then more
pub data-then : (stops : List Code → Bool) (c : Code) (cs : List Code) → is_line_ending c ≡ false →
    data_up_to stops (c ∷ cs) ≡ behind (leaf N.Data (c ∷ (up_to_break stops cs).0)) (more_data stops (up_to_break stops cs).1)
unfolding data_up_to
data-then stops c cs e =
    let k = cut stops c cs e in
    let more : Forest = line_leaves N.Data (lines_of (until stops (up_to_break stops cs).1).0) in
    let tree : line_leaves N.Data (lines_of (c ∷ (until stops cs).0)) ≡ leaf N.Data (c ∷ (up_to_break stops cs).0) ⊕ more =
    ap (line_leaves N.Data) k.0 ∙ ap (λ t. t ⊕ more) (leaf-data c (up_to_break stops cs).0 e) in
    ap (λ t. Some (t, (until stops cs).1)) tree ∙ ap (λ r. Some (leaf N.Data (c ∷ (up_to_break stops cs).0) ⊕ more, r)) k.1

-- a line ending, and then more
pub ending-then : (stops : List Code → Bool) (c : Code) (cs : List Code) → is_line_ending c ≡ true →
    data_up_to stops (c ∷ cs) ≡ behind (leaf N.LineEnding (c ∷ [])) (more_data stops cs)
unfolding data_up_to
ending-then stops c cs e =
    let more : Forest = line_leaves N.Data (lines_of (until stops cs).0) in
    ap (λ ss. Some (line_leaves N.Data ss, (until stops cs).1)) (lines_of-ending c (until stops cs).0 e)
    ∙ ap (λ t. Some (t ⊕ more, (until stops cs).1)) (leaf-ending c [] e)

-- where data does not stop more data is data from here on
pub more-goes : (stops : List Code → Bool) (c : Code) (cs : List Code) → stops (c ∷ cs) ≡ false →
    more_data stops (c ∷ cs) ≡ data_up_to stops (c ∷ cs)
unfolding data_up_to
more-goes stops c cs e =
    ap (λ (s : List Code × List Code). Some (line_leaves N.Data (lines_of s.0), s.1)) (until-goes stops c cs e)

pub more-stops : (stops : List Code → Bool) (c : Code) (cs : List Code) → stops (c ∷ cs) ≡ true →
    more_data stops (c ∷ cs) ≡ Some (empty, c ∷ cs)
more-stops stops c cs e =
    ap (λ (s : List Code × List Code). Some (line_leaves N.Data (lines_of s.0), s.1)) (until-stops stops c cs e)
