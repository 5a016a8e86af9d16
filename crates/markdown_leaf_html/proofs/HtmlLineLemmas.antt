-- The operations of the lines of a text, code by code.
use Rattle.std.proofs.Common.{◌≡◌, Bool, true, false, ◌&&◌, ◌||◌, not, None, List, [], ◌∷◌, ◌++◌, refl, sym, ap, ◌∙◌, append_assoc}
use Rattle.markdown_content.specs.Codes.{Code, is_line_ending, is_blank}
use Rattle.markdown_engine.specs.Operations.{Op, Enter, Exit, Consume}
use Rattle.markdown_content.specs.Tree.{Forest, empty, leaf_then, group_then, ◌⊕◌}
use Rattle.markdown_engine.specs.TreeOps.{ops_of, consumes}
use Rattle.markdown_event.specs.declared.event.Name.TheVariants as N
use Rattle.markdown_model.specs.Grammar.{span}
use Rattle.markdown_model.specs.TextLines.{lines_of, lines_from, linked_leaf, joins}
use Rattle.markdown_model.proofs.DefinitionSteps.{lines_of-ending, lines_of-line, is_in_line}
use Rattle.markdown_plan.proofs.FirstStretch.{stretch-joined}
use Rattle.markdown_leaf_html.specs.HtmlLines.{Mode, InLine, AtStart, InBlank, takes_blank, left_open, to_data, to_blank, ending_ops, ops_from}

pub ops-row : (t u : Forest) → ops_of (t ⊕ u) ≡ ops_of t ++ ops_of u
ops-row empty u = refl
ops-row (leaf_then n l cs r) u =
    ap (λ os. Enter n ∷ (consumes cs ++ Exit n ∷ os)) (ops-row r u) ∙ ap (λ os. Enter n ∷ os) (sym (append_assoc (consumes cs) (Exit n ∷ ops_of r) (ops_of u)))
ops-row (group_then n a b i r) u =
    ap (λ os. Enter n ∷ (ops_of i ++ Exit n ∷ os)) (ops-row r u) ∙ ap (λ os. Enter n ∷ os) (sym (append_assoc (ops_of i) (Exit n ∷ ops_of r) (ops_of u)))

-- One code.

pub from-ending : (m : Mode) (c : Code) (cs : List Code) → is_line_ending c ≡ true →
    ops_from m (c ∷ cs) ≡ left_open m ++ (ending_ops ++ ops_from AtStart cs)
from-ending m c cs e = rw e refl

pub from-blank : (m : Mode) (c : Code) (cs : List Code) → is_line_ending c ≡ false →
    takes_blank m && is_blank c ≡ true → ops_from m (c ∷ cs) ≡ to_blank m ++ Consume ∷ ops_from InBlank cs
from-blank m c cs e h = rw (e, h) refl

pub from-data : (m : Mode) (c : Code) (cs : List Code) → is_line_ending c ≡ false →
    takes_blank m && is_blank c ≡ false → ops_from m (c ∷ cs) ≡ to_data m ++ Consume ∷ ops_from InLine cs
from-data m c cs e h = rw (e, h) refl

-- The lines of a model.

abbrev line_ops : Bool → List (List Code) → List Op
line_ops later ss = ops_of (lines_from N.HtmlTextData None later ss)

-- a line from one code on
record HtmlLine (c : Code) (cs : List Code) : Type 0 where
  more : List Code
  others : List (List Code)
  whole : lines_of (c ∷ cs) ≡ (c ∷ more) ∷ others
  inside : ops_from InLine cs ≡ consumes more ++ Exit N.HtmlTextData ∷ line_ops false others
  blank : ops_from InBlank cs ≡ consumes (span is_blank more).0 ++ Exit N.SpaceOrTab ∷ (ops_of (linked_leaf N.HtmlTextData None (span is_blank more).1) ++ line_ops false others)

record HtmlLined (cs : List Code) : Type 0 where
  start : ops_from AtStart cs ≡ line_ops true (lines_of cs)
  line : (c : Code) → is_line_ending c ≡ false → HtmlLine c cs

-- the leaves of a line and those after it, by two tests
abbrev leaves : Bool → Bool → Bool → Code → List Code → List (List Code) → Forest
leaves later ending blank c cs ss =
    elim (later && not ending) as (λ _. Forest) [
      | true ↦ let s : List Code × List Code = elim blank as (λ _. List Code × List Code) [ true ↦ (c ∷ (span is_blank cs).0, (span is_blank cs).1) | false ↦ ([], c ∷ cs) ] in linked_leaf N.SpaceOrTab None s.0 ⊕ linked_leaf N.HtmlTextData None s.1 ⊕ lines_from N.HtmlTextData None false ss
      | false ↦ (elim ending as (λ _. Forest) [ true ↦ linked_leaf N.LineEnding None (c ∷ cs) | false ↦ linked_leaf N.HtmlTextData None (c ∷ cs) ]) ⊕ lines_from N.HtmlTextData None ending ss
    ]

by-leaves : (later ending blank : Bool) (c : Code) (cs : List Code) (ss : List (List Code)) →
    is_line_ending c ≡ ending → is_blank c ≡ blank →
    line_ops later ((c ∷ cs) ∷ ss) ≡ ops_of (leaves later ending blank c cs ss)
by-leaves later ending blank c cs ss e h =
    ap (λ b. ops_of (leaves later b (is_blank c) c cs ss)) e ∙ ap (λ b. ops_of (leaves later ending b c cs ss)) h

-- a line ending
ops-ending : (later : Bool) (c : Code) (ss : List (List Code)) → is_line_ending c ≡ true →
    line_ops later ((c ∷ []) ∷ ss) ≡ ending_ops ++ line_ops true ss
ops-ending true c ss e = by-leaves true true (is_blank c) c [] ss e refl
ops-ending false c ss e = by-leaves false true (is_blank c) c [] ss e refl

lined-ending : (later : Bool) (c : Code) (cs : List Code) → is_line_ending c ≡ true → HtmlLined cs →
    line_ops later (lines_of (c ∷ cs)) ≡ ending_ops ++ ops_from AtStart cs
lined-ending later c cs e k =
    ap (line_ops later) (lines_of-ending c cs e) ∙ ops-ending later c (lines_of cs) e ∙ ap (λ os. ending_ops ++ os) (sym k.start)

-- data at the start of a text or a line
ops-data : (later : Bool) (c : Code) (cs : List Code) (ss : List (List Code)) → is_line_ending c ≡ false →
    later && is_blank c ≡ false →
    line_ops later ((c ∷ cs) ∷ ss) ≡ Enter N.HtmlTextData ∷ Consume ∷ (consumes cs ++ Exit N.HtmlTextData ∷ line_ops false ss)
ops-data true c cs ss e h = by-leaves true false false c cs ss e h
ops-data false c cs ss e h = by-leaves false false (is_blank c) c cs ss e refl

-- blank codes at the start of a later line
ops-blank : (c : Code) (cs : List Code) (ss : List (List Code)) → is_line_ending c ≡ false → is_blank c ≡ true →
    line_ops true ((c ∷ cs) ∷ ss) ≡ Enter N.SpaceOrTab ∷ Consume ∷ (consumes (span is_blank cs).0 ++ Exit N.SpaceOrTab ∷ (ops_of (linked_leaf N.HtmlTextData None (span is_blank cs).1) ++ line_ops false ss))
ops-blank c cs ss e h =
    by-leaves true false true c cs ss e h
    ∙ ap (λ os. Enter N.SpaceOrTab ∷ Consume ∷ (consumes (span is_blank cs).0 ++ Exit N.SpaceOrTab ∷ os)) (ops-row (linked_leaf N.HtmlTextData None (span is_blank cs).1) (lines_from N.HtmlTextData None false ss))

-- one code more

none-more : (c d : Code) (ds : List Code) → is_line_ending c ≡ false → is_line_ending d ≡ true →
    lines_of (c ∷ d ∷ ds) ≡ (c ∷ []) ∷ lines_of (d ∷ ds)
none-more c d ds e h =
    lines_of-line c (d ∷ ds) e ∙ ap (λ (b : Bool). let s : List Code × List Code = elim b as (λ _. List Code × List Code) [ true ↦ (d ∷ (span is_in_line ds).0, (span is_in_line ds).1) | false ↦ ([], d ∷ ds) ] in (c ∷ s.0) ∷ lines_of s.1) (ap not h)

line-ended : (c d : Code) (ds : List Code) → is_line_ending c ≡ false → is_line_ending d ≡ true → HtmlLined ds →
    HtmlLine c (d ∷ ds)
line-ended c d ds e h k =
    record {
      more = [];
      others = lines_of (d ∷ ds);
      whole = none-more c d ds e h;
      inside = from-ending InLine d ds h ∙ ap (λ os. Exit N.HtmlTextData ∷ os) (sym (lined-ending false d ds h k));
      blank = from-ending InBlank d ds h ∙ ap (λ os. Exit N.SpaceOrTab ∷ os) (sym (lined-ending false d ds h k));
    }

joins-is : (c d : Code) → is_line_ending c ≡ false → is_line_ending d ≡ false → joins (λ x. true) c d ≡ true
joins-is c d e h = ap (λ a. not (a || is_line_ending d) && true) e ∙ ap (λ b. not b && true) h

-- blank codes of a line whose next code is this one
blank-by : (b : Bool) (d : Code) (ds : List Code) → is_line_ending d ≡ false → is_blank d ≡ b → (k : HtmlLine d ds) →
    ops_from InBlank (d ∷ ds) ≡ consumes (span is_blank (d ∷ k.more)).0 ++ Exit N.SpaceOrTab ∷ (ops_of (linked_leaf N.HtmlTextData None (span is_blank (d ∷ k.more)).1) ++ line_ops false k.others)
blank-by true d ds e h k =
    from-blank InBlank d ds e h ∙ ap (λ os. Consume ∷ os) k.blank
    ∙ ap (λ (b : Bool). let s : List Code × List Code = elim b as (λ _. List Code × List Code) [ true ↦ (d ∷ (span is_blank k.more).0, (span is_blank k.more).1) | false ↦ ([], d ∷ k.more) ] in consumes s.0 ++ Exit N.SpaceOrTab ∷ (ops_of (linked_leaf N.HtmlTextData None s.1) ++ line_ops false k.others)) (sym h)
blank-by false d ds e h k =
    from-data InBlank d ds e h ∙ ap (λ os. Exit N.SpaceOrTab ∷ Enter N.HtmlTextData ∷ Consume ∷ os) (k.inside ∙ sym (append_assoc (consumes k.more) (Exit N.HtmlTextData ∷ []) (line_ops false k.others)))
    ∙ ap (λ (b : Bool). let s : List Code × List Code = elim b as (λ _. List Code × List Code) [ true ↦ (d ∷ (span is_blank k.more).0, (span is_blank k.more).1) | false ↦ ([], d ∷ k.more) ] in consumes s.0 ++ Exit N.SpaceOrTab ∷ (ops_of (linked_leaf N.HtmlTextData None s.1) ++ line_ops false k.others)) (sym h)

line-joined : (c d : Code) (ds : List Code) → is_line_ending c ≡ false → is_line_ending d ≡ false → HtmlLine d ds →
    HtmlLine c (d ∷ ds)
line-joined c d ds e h k =
    record {
      more = d ∷ k.more;
      others = k.others;
      whole = stretch-joined (λ x. true) c d ds k.more k.others (joins-is c d e h) k.whole;
      inside = from-data InLine d ds h refl ∙ ap (λ os. Consume ∷ os) k.inside;
      blank = blank-by (is_blank d) d ds h refl k;
    }

line-by : (b : Bool) (c d : Code) (ds : List Code) → is_line_ending c ≡ false → is_line_ending d ≡ b → HtmlLined ds →
    HtmlLine c (d ∷ ds)
line-by true c d ds e h k = line-ended c d ds e h k
line-by false c d ds e h k = line-joined c d ds e h (k.line d h)

start-line : (b : Bool) (c : Code) (cs : List Code) → is_line_ending c ≡ false → is_blank c ≡ b → (k : HtmlLine c cs) →
    ops_from AtStart (c ∷ cs) ≡ line_ops true ((c ∷ k.more) ∷ k.others)
start-line true c cs e h k =
    from-blank AtStart c cs e h ∙ ap (λ os. Enter N.SpaceOrTab ∷ Consume ∷ os) k.blank ∙ sym (ops-blank c k.more k.others e h)
start-line false c cs e h k =
    from-data AtStart c cs e h ∙ ap (λ os. Enter N.HtmlTextData ∷ Consume ∷ os) k.inside ∙ sym (ops-data true c k.more k.others e h)

start-by : (b : Bool) (c : Code) (cs : List Code) → is_line_ending c ≡ b → HtmlLined cs →
    ops_from AtStart (c ∷ cs) ≡ line_ops true (lines_of (c ∷ cs))
start-by true c cs e k = from-ending AtStart c cs e ∙ sym (lined-ending true c cs e k)
start-by false c cs e k =
    let l : HtmlLine c cs = k.line c e in start-line (is_blank c) c cs e refl l ∙ ap (line_ops true) (sym l.whole)

lined : (cs : List Code) → HtmlLined cs
lined [] = record { start = refl; line = λ c e. record { more = []; others = []; whole = refl; inside = refl; blank = refl } }
lined (d ∷ ds) =
    let k : HtmlLined ds = lined ds in record { start = start-by (is_line_ending d) d ds refl k; line = λ c e. line-by (is_line_ending d) c d ds e refl k }

-- A text whose first code is no line ending.
pub ops-lines : (c : Code) (cs : List Code) → is_line_ending c ≡ false →
    ops_of (lines_from N.HtmlTextData None false (lines_of (c ∷ cs))) ≡ Enter N.HtmlTextData ∷ Consume ∷ ops_from InLine cs
ops-lines c cs e =
    let k : HtmlLined cs = lined cs in
    let l : HtmlLine c cs = k.line c e in
    ap (line_ops false) l.whole ∙ ops-data false c l.more l.others e refl ∙ ap (λ os. Enter N.HtmlTextData ∷ Consume ∷ os) (sym l.inside)
