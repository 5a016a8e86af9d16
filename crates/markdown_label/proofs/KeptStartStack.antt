-- The starts that a tokenizer keeps go on standing for the unused ones.
use Rattle.std.proofs.Common.{◌≡◌, ℕ, zero, suc, ◌<◌, true, false, ◌&&◌, not, if◌then◌else◌, List, [], ◌∷◌, ◌++◌, map, length, slice_get, drop, Option, Some, None, refl, sym, ap, subst, ◌∙◌, arith, length-append}
use Rattle.std.proofs.Math.Bool.{or-true, or-false}
use Rattle.markdown_content.specs.Codes.{Code, stop_of, document_start}
use Rattle.markdown_content.specs.ListFunctions.{rest_of}
use Rattle.markdown_content.specs.Tree.{Forest, start_of}
use Rattle.markdown_event.specs.declared.event.Event.{Event}
use Rattle.markdown_content.specs.declared.label_kind.LabelKind.{LabelKind}
use Rattle.markdown_engine.specs.declared.tokenizer.LabelStart.{LabelStart}
use Rattle.markdown_model.specs.Grammar.{Reading, ◌>>◌, gives, provided, one}
use Rattle.markdown_model.specs.CodeTests.{is_value}
use Rattle.markdown_model.specs.LabelEnd.{Element, plain, starts, ends, Label, label_before, is_image, is_barred, label_identifier, footnote_call, link_or_image, outcome_of, label_name, label_end}
use Rattle.markdown_model.specs.Laws.{UnusedStart, with_link, unused_starts, IsLabelOf}
use Rattle.markdown_model.specs.Setting.{Setting}
use Rattle.markdown_model.proofs.GrammarSteps.{bind-some, bind-none, one-here, either-some, either-second}
use Rattle.markdown_model.proofs.EndsTakeTheNearest.{ends_take_the_nearest}
use Rattle.markdown_label.specs.LabelFields.{bars, marked, barred_by}
use Rattle.markdown_label.specs.LabelEnd.{last_start}
use Rattle.markdown_label_names.specs.LabelNames.{point_or, place_at}
use Rattle.markdown_model.specs.SingleConstructs.{outcome, outcome_at}
use Rattle.markdown_label.specs.KeptStarts.{StandsFor, StandFor}

-- Events that are appended move no start.

pub get-front : {A : Type 0} → (xs ys : List A) (n : ℕ) → n < length xs → slice_get (xs ++ ys) n ≡ slice_get xs n
get-front [] ys n h = absurd (omega arith)
get-front (x ∷ xs) ys zero h = refl
get-front (x ∷ xs) ys (suc n) h = get-front xs ys n (omega (arith, h))

pub place-front : (xs ys : List Event) (n : ℕ) → n < length xs → place_at (xs ++ ys) n ≡ place_at xs n
place-front xs ys n h = ap point_or (get-front xs ys n h)

grown-one : (es more : List Event) (u : UnusedStart) (l : LabelStart) → StandsFor es u l → StandsFor (es ++ more) u l
grown-one es more u l k =
    record { kind = k.kind; marked = k.marked; within = omega (arith, k.within, length-append es more); place = place-front es more l.start.1 k.within ∙ k.place }

pub starts-grown : (es more : List Event) (us : List UnusedStart) (ls : List LabelStart) → StandFor es us ls →
    StandFor (es ++ more) us ls
starts-grown es more [] [] k = tt
starts-grown es more [] (l ∷ ls) k = k
starts-grown es more (u ∷ us) [] k = k
starts-grown es more (u ∷ us) (l ∷ ls) k = (grown-one es more u l k.0, starts-grown es more us ls k.1)

-- One more element.

-- a tree that stands by itself
pub starts-plain : (earlier : List Element) (tree : Forest) (es more : List Event) (ls : List LabelStart) →
    StandFor es (unused_starts earlier) ls → StandFor (es ++ more) (unused_starts (plain tree ∷ earlier)) ls
starts-plain earlier tree es more ls k = starts-grown es more (unused_starts earlier) ls k

-- a start, whose events are appended
pub starts-start : (earlier : List Element) (kind : LabelKind) (marker : List Code) (es more : List Event) (ls : List LabelStart) (first last : ℕ) → StandFor es (unused_starts earlier) ls → last < length (es ++ more) → place_at (es ++ more) last ≡ stop_of document_start marker
    → StandFor (es ++ more) (unused_starts (starts kind marker ∷ earlier)) (record { kind = kind; start = (first, last); inactive = false } ∷ ls)
starts-start earlier kind marker es more ls first last k within place =
    (record { kind = refl; marked = refl; within = within; place = place }, starts-grown es more (unused_starts earlier) ls k)

pub starts-rest : (es : List Event) (us : List UnusedStart) (ls : List LabelStart) → StandFor es us ls →
    StandFor es (drop 1 us) (rest_of ls)
starts-rest es [] [] k = tt
starts-rest es [] (l ∷ ls) k = absurd k
starts-rest es (u ∷ us) [] k = absurd k
starts-rest es (u ∷ us) (l ∷ ls) k = k.1

-- Marks.

link-none : (us : List UnusedStart) → map (with_link false) us ≡ us
link-none [] = refl
link-none (u ∷ us) = λ i. (record u { before_link = or-false u.before_link i }) ∷ link-none us i

mark-all : (es : List Event) (us : List UnusedStart) (ls : List LabelStart) → StandFor es us ls →
    StandFor es (map (with_link true) us) (marked ls)
mark-all es [] [] k = tt
mark-all es [] (l ∷ ls) k = absurd k
mark-all es (u ∷ us) [] k = absurd k
mark-all es (u ∷ us) (l ∷ ls) k =
    (record { kind = k.0.kind; marked = sym (or-true u.before_link); within = k.0.within; place = k.0.place }, mark-all es us ls k.1)

bar-all : (es : List Event) (kind : LabelKind) (us : List UnusedStart) (ls : List LabelStart) →
    StandFor es us ls → StandFor es (map (with_link (not (is_image kind))) us) (barred_by kind ls)
bar-all es kind us ls k =
    elim (is_image kind) as (λ b. StandFor es (map (with_link (not b)) us) (if b then ls else marked ls)) [
      | true ↦ subst (λ x. StandFor es x ls) (sym (link-none us)) k
      | false ↦ mark-all es us ls k
    ]

-- an end that makes a label of this kind takes the last start, and marks those before it where it is a link's or a call's
pub starts-made : (earlier : List Element) (back : List Code) (kind : LabelKind) (tail : Forest) (es more : List Event) (ls : List LabelStart) → StandFor es (unused_starts earlier) ls
    → StandFor (es ++ more) (unused_starts (ends back (Some (kind, tail)) ∷ earlier)) (barred_by kind (rest_of ls))
starts-made earlier back kind tail es more ls k =
    bar-all (es ++ more) kind (drop 1 (unused_starts earlier)) (rest_of ls) (starts-rest (es ++ more) (unused_starts earlier) ls (starts-grown es more (unused_starts earlier) ls k))

-- an end that fails takes the last start
pub starts-lost : (earlier : List Element) (back : List Code) (es more : List Event) (ls : List LabelStart) →
    StandFor es (unused_starts earlier) ls →
    StandFor (es ++ more) (unused_starts (ends back None ∷ earlier)) (rest_of ls)
starts-lost earlier back es more ls k =
    subst (λ us. StandFor (es ++ more) us (rest_of ls)) (sym (link-none (drop 1 (unused_starts earlier)))) (starts-rest (es ++ more) (unused_starts earlier) ls (starts-grown es more (unused_starts earlier) ls k))

-- The label that an end closes.

-- what an end after these elements makes, by the last start that is kept
abbrev pub made_by : Setting → List Event → List LabelStart → List Code → Reading (LabelKind × Forest)
made_by s es ls = outcome_at s (last_start es ls)

outcome-parts : (s : Setting) (l : Label) (back cs : List Code) →
    outcome_of s (Some l) back cs ≡ (provided (not (is_barred l)) >> outcome s l.kind (label_identifier s l back)) cs
unfolding outcome_of footnote_call link_or_image outcome
outcome-parts s l back cs = refl

outcome-same : (s : Setting) (es : List Event) (us : List UnusedStart) (ls : List LabelStart) (o : Option Label) (back cs : List Code) →
    StandFor es us ls → IsLabelOf us o → outcome_of s o back cs ≡ made_by s es ls back cs
unfolding outcome_of label_identifier
outcome-same s es [] [] o back cs k h = ap (λ x. outcome_of s x back cs) h
outcome-same s es [] (l ∷ ls) o back cs k h = absurd k
outcome-same s es (u ∷ us) [] o back cs k h = absurd k
outcome-same s es (u ∷ us) (l ∷ ls) o back cs k h =
    let kind : h.0.kind ≡ l.kind = h.2 ∙ sym k.0.kind in
    let barred : is_barred h.0 ≡ bars l = h.4 ∙ (λ i. not (is_image (sym k.0.kind i)) && sym k.0.marked i) in
    let place : stop_of document_start h.0.marker ≡ place_at es l.start.1 = ap (stop_of document_start) h.3 ∙ sym k.0.place in
    ap (λ x. outcome_of s x back cs) h.1
    ∙ outcome-parts s h.0 back cs
    ∙ (λ i. (provided (not (barred i)) >> outcome s (kind i) (label_name s (kind i) (place i).index (start_of back).index)) cs)

pub outcome-kept : (s : Setting) (earlier : List Element) (es : List Event) (ls : List LabelStart) (back cs : List Code) →
    StandFor es (unused_starts earlier) ls → outcome_of s (label_before earlier) back cs ≡ made_by s es ls back cs
outcome-kept s earlier es ls back cs k =
    outcome-same s es (unused_starts earlier) ls (label_before earlier) back cs k (ends_take_the_nearest earlier)

-- the element that begins with a `]`
pub end-made : (s : Setting) (earlier : List Element) (es : List Event) (ls : List LabelStart) (c : Code) (cs : List Code) (kind : LabelKind) (tail : Forest) (rest : List Code) → StandFor es (unused_starts earlier) ls → is_value 93 c ≡ true → made_by s es ls (c ∷ []) cs ≡ Some ((kind, tail), rest)
    → label_end s earlier (c ∷ cs) ≡ Some (ends (c ∷ []) (Some (kind, tail)), rest)
unfolding label_end gives
end-made s earlier es ls c cs kind tail rest k e h =
    bind-some (one (is_value 93)) _ (c ∷ cs) (c ∷ []) cs _ (one-here (is_value 93) c cs e)
    (either-some _ _ cs (ends (c ∷ []) (Some (kind, tail)), rest) (bind-some (outcome_of s (label_before earlier) (c ∷ [])) _ cs (kind, tail) rest _ (outcome-kept s earlier es ls (c ∷ []) cs k ∙ h) refl))

pub end-fails : (s : Setting) (earlier : List Element) (es : List Event) (ls : List LabelStart) (c : Code) (cs : List Code) → StandFor es (unused_starts earlier) ls → is_value 93 c ≡ true → made_by s es ls (c ∷ []) cs ≡ None
    → label_end s earlier (c ∷ cs) ≡ Some (ends (c ∷ []) None, cs)
unfolding label_end gives
end-fails s earlier es ls c cs k e h =
    bind-some (one (is_value 93)) _ (c ∷ cs) (c ∷ []) cs _ (one-here (is_value 93) c cs e)
    (either-second _ _ cs (bind-none (outcome_of s (label_before earlier) (c ∷ [])) _ cs (outcome-kept s earlier es ls (c ∷ []) cs k ∙ h)))
