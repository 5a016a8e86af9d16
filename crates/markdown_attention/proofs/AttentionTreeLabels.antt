-- Rows as the pass of runs wants them, and the groups of labels of such rows.
use Rattle.std.proofs.Common.{◌≡◌, ℕ, Bool, true, false, ◌&&◌, ◌||◌, List, ◌∷◌, length, drop, refl, Option, Some, None, arith, []}
use Rattle.markdown_attention.proofs.BracketEventsOfGroups.{unlinked-row}
use Rattle.std.proofs.lemmas.Bool.{or_parts, both_ways}
use Rattle.markdown_event.specs.declared.event.Content.{Content}
use Rattle.markdown_event.specs.declared.event.Name.{Name}
use Rattle.markdown_event.specs.declared.event.Point.{Point}
use Rattle.markdown_content.specs.declared.label_kind.LabelKind.{LabelKind}
use Rattle.markdown_content.specs.Codes.{Code, stop_of, document_start}
use Rattle.markdown_content.specs.Tree.{Forest, empty, leaf_then, group_then, leaf, ◌⊕◌, group, text_group, start_of}
use Rattle.markdown_model.specs.LabelEnd.{Element, plain, starts, ends}
use Rattle.markdown_model.specs.Passes.{start_marker, start_tree, label_name, label_group, labels_of}
use Rattle.markdown_model.proofs.ElementCases.{AllAre}
use Rattle.markdown_model.proofs.LabelTreeFacts.{labels-have}
use Rattle.markdown_attention.specs.RunsRead.{is_run, is_text}
use Rattle.markdown_attention.specs.RunsOfTree.{has_run, HasRuns}
use Rattle.markdown_attention.specs.AttentionTrees.{HasStripes}
use Rattle.markdown_attention.specs.TokenWord.{IsUnlinkedRow}
use Rattle.markdown_model.specs.Laws
use Rattle.markdown_model.proofs.PlainTrees
use Rattle.markdown_model.proofs.PlainTrees.{is_mark, is_linked, marks, IsQuiet, mark_laws}
use Rattle.markdown_attention.proofs.MarkerCodes.{AreRunCodes, IsPlaced}

-- each run of a row and inside it is a leaf that passes
abbrev pub EachRun : (List Code → Type 0) → Forest → Type 0
EachRun P empty = Unit {0}
EachRun P (leaf_then name link cs rest) = (is_run name ≡ true → P cs) × EachRun P rest
EachRun P (group_then name enter exit inside rest) = EachRun P inside × EachRun P rest

-- a row, and all inside it, with no linked leaf of its own
abbrev pub IsGood : List ℕ → Forest → Type 0
IsGood bytes t = HasRuns bytes t × (HasStripes t × (IsUnlinkedRow t × EachRun (IsPlaced bytes) t))

-- Rows without runs.

same-run : (name : Name) → Laws.is_run name ≡ is_run name
same-run Name.AttentionSequence = refl
same-run name = refl

same-text : (name : Name) → PlainTrees.is_text name ≡ is_text name
same-text Name.LabelText = refl
same-text name = refl

pub quiet-run : (name : Name) → is_mark name ≡ false → (is_run name ≡ false) × (is_text name ≡ false)
quiet-run name h = grind (arith, or_parts, same-run, same-text)

some-linked : {A : Type 0} → (c : Content) → (is_linked (Some c) && true) ≡ false → A
some-linked c e = cc

module _ (b : Bool) where
  -- what a quiet leaf or group says of its parts
  leaf-parts : (name : Name) (link : Option Content) (cs : List Code) (rest : Forest) → marks b (leaf_then name link cs rest) ≡ false
      → ((is_mark name ≡ false) × ((is_linked link && b) ≡ false)) × (marks b rest ≡ false)
  leaf-parts name link cs rest h = grind (arith, or_parts)

  group-parts : (name : Name) (from to : Point) (inside rest : Forest) → marks b (group_then name from to inside rest) ≡ false
      → (is_mark name ≡ false) × ((marks b inside ≡ false) × (marks b rest ≡ false))
  group-parts name from to inside rest h = grind (arith, or_parts)

  pub quiet-none : (t : Forest) → marks b t ≡ false → has_run t ≡ false
  quiet-none empty h = refl
  quiet-none (leaf_then name link cs rest) h =
      let p = leaf-parts name link cs rest h in
      λ i. (quiet-run name p.0.0).0 i || quiet-none rest p.1 i
  quiet-none (group_then name from to inside rest) h = quiet-none rest (group-parts name from to inside rest h).1.1

  pub quiet-runs : (bytes : List ℕ) (t : Forest) → marks b t ≡ false → HasRuns bytes t
  quiet-runs bytes empty h = tt
  quiet-runs bytes (leaf_then name link cs rest) h =
      let p = leaf-parts name link cs rest h in
      (((quiet-run name p.0.0).1, λ e. absurd (both_ways (is_run name) (quiet-run name p.0.0).0 e)), quiet-runs bytes rest p.1)
  quiet-runs bytes (group_then name from to inside rest) h =
      let p = group-parts name from to inside rest h in
      (((quiet-run name p.0).0, λ e. quiet-none inside p.1.0), (quiet-runs bytes inside p.1.0, quiet-runs bytes rest p.1.1))

  pub quiet-stripes : (t : Forest) → marks b t ≡ false → HasStripes t
  quiet-stripes empty h = tt
  quiet-stripes (leaf_then name link cs rest) h =
      let p = leaf-parts name link cs rest h in
      ((λ e. absurd (both_ways (is_run name) (quiet-run name p.0.0).0 e)), quiet-stripes rest p.1)
  quiet-stripes (group_then name from to inside rest) h =
      let p = group-parts name from to inside rest h in
      (((quiet-run name p.0).0, λ e. absurd (both_ways (has_run inside) (quiet-none inside p.1.0) e)), (quiet-stripes inside p.1.0, quiet-stripes rest p.1.1))

  pub quiet-each : (P : List Code → Type 0) (t : Forest) → marks b t ≡ false → EachRun P t
  quiet-each P empty h = tt
  quiet-each P (leaf_then name link cs rest) h =
      let p = leaf-parts name link cs rest h in
      ((λ e. absurd (both_ways (is_run name) (quiet-run name p.0.0).0 e)), quiet-each P rest p.1)
  quiet-each P (group_then name from to inside rest) h =
      let p = group-parts name from to inside rest h in
      (quiet-each P inside p.1.0, quiet-each P rest p.1.1)

quiet-unlinked : (t : Forest) → marks true t ≡ false → IsUnlinkedRow t
quiet-unlinked empty h = tt
quiet-unlinked (leaf_then name None cs rest) h = (refl, quiet-unlinked rest (leaf-parts true name None cs rest h).1)
quiet-unlinked (leaf_then name (Some c) cs rest) h = some-linked c (leaf-parts true name (Some c) cs rest h).0.1
quiet-unlinked (group_then name from to inside rest) h =
    quiet-unlinked rest (group-parts true name from to inside rest h).1.1

pub quiet-good : (bytes : List ℕ) (t : Forest) → IsQuiet true t → IsGood bytes t
quiet-good bytes t h =
    (quiet-runs true bytes t h, (quiet-stripes true t h, (quiet-unlinked t h, quiet-each true (IsPlaced bytes) t h)))

-- Leaves and rows.

no-case : {A : Type 0} → true ≡ false → A
no-case e = cc

pub good-run : (bytes : List ℕ) (cs : List Code) → AreRunCodes bytes cs → IsGood bytes (leaf Name.AttentionSequence cs)
good-run bytes [] h = (tt, (tt, (tt, tt)))
good-run bytes (c ∷ cs) h = (((refl, λ e. h.1.0), tt), (((λ e. (refl, h.0)), tt), ((refl, tt), ((λ e. h.1.1), tt))))

pub good-leaf : (bytes : List ℕ) (name : Name) (cs : List Code) → is_mark name ≡ false → IsGood bytes (leaf name cs)
good-leaf bytes name [] m = (tt, (tt, (tt, tt)))
good-leaf bytes name (c ∷ cs) m = grind (arith, quiet-run, both_ways)

runs-join : (bytes : List ℕ) (x y : Forest) → HasRuns bytes x → HasRuns bytes y → HasRuns bytes (x ⊕ y)
runs-join bytes empty y h k = k
runs-join bytes (leaf_then name link cs rest) y h k = (h.0, runs-join bytes rest y h.1 k)
runs-join bytes (group_then name from to inside rest) y h k = (h.0, (h.1.0, runs-join bytes rest y h.1.1 k))

stripes-join : (x y : Forest) → HasStripes x → HasStripes y → HasStripes (x ⊕ y)
stripes-join empty y h k = k
stripes-join (leaf_then name link cs rest) y h k = (h.0, stripes-join rest y h.1 k)
stripes-join (group_then name from to inside rest) y h k = (h.0, (h.1.0, stripes-join rest y h.1.1 k))

each-join : (P : List Code → Type 0) (x y : Forest) → EachRun P x → EachRun P y → EachRun P (x ⊕ y)
each-join P empty y h k = k
each-join P (leaf_then name link cs rest) y h k = (h.0, each-join P rest y h.1 k)
each-join P (group_then name from to inside rest) y h k = (h.0, each-join P rest y h.1 k)

no-run-join : (x y : Forest) → has_run x ≡ false → has_run y ≡ false → has_run (x ⊕ y) ≡ false
no-run-join empty y h k = k
no-run-join (leaf_then name link cs rest) y h k =
    let p = or_parts (is_run name) (has_run rest) h in
    λ i. p.0 i || no-run-join rest y p.1 k i
no-run-join (group_then name from to inside rest) y h k = no-run-join rest y h k

pub good-join : (bytes : List ℕ) (x y : Forest) → IsGood bytes x → IsGood bytes y → IsGood bytes (x ⊕ y)
good-join bytes x y h k =
    (runs-join bytes x y h.0 k.0, (stripes-join x y h.1.0 k.1.0, (unlinked-row x y h.1.1.0 k.1.1.0, each-join (IsPlaced bytes) x y h.1.1.1 k.1.1.1)))

-- Labels.

pub quiet-start_tree : (kind : LabelKind) (cs : List Code) → marks true (start_tree kind cs) ≡ false
quiet-start_tree LabelKind.Image cs = simp mark_laws
quiet-start_tree LabelKind.GfmFootnote cs = simp mark_laws
quiet-start_tree LabelKind.Link cs = simp mark_laws
quiet-start_tree LabelKind.GfmUndefinedFootnote cs = simp mark_laws

label-name : (kind : LabelKind) → (is_run (label_name kind) ≡ false) × (is_text (label_name kind) ≡ false)
label-name LabelKind.Image = (refl, refl)
label-name LabelKind.GfmFootnote = (refl, refl)
label-name LabelKind.Link = (refl, refl)
label-name LabelKind.GfmUndefinedFootnote = (refl, refl)

pub quiet-label_end : (back : List Code) → marks true (group Name.LabelEnd (leaf Name.LabelMarker back)) ≡ false
quiet-label_end back = simp mark_laws

abbrev caret_of : LabelKind → List Code → List Code
caret_of kind marker = drop (length (start_marker kind marker)) marker

abbrev label_text : LabelKind → List Code → Forest → List Code → Forest
label_text kind marker inside back =
    text_group Name.LabelText (stop_of document_start (start_marker kind marker)) (start_of back) (leaf Name.Data (caret_of kind marker) ⊕ inside)

abbrev label_row : LabelKind → List Code → Forest → List Code → Forest
label_row kind marker inside back =
    start_tree kind (start_marker kind marker) ⊕ label_text kind marker inside back ⊕ group Name.LabelEnd (leaf Name.LabelMarker back)

module _ (bytes : List ℕ) (kind : LabelKind) (marker : List Code) (inside : Forest) (back : List Code) (g : IsGood bytes inside) where
  good-text : IsGood bytes (label_text kind marker inside back)
  good-text = grind (arith, good-join, good-leaf, no-case)

  good-row : IsGood bytes (label_row kind marker inside back)
  good-row = grind (arith, good-join, quiet-good, quiet-start_tree, good-text, quiet-label_end)

  no-run-row : has_run (label_row kind marker inside back) ≡ false
  no-run-row = grind (arith, no-run-join, quiet-none, quiet-start_tree)

  good-label_group : (tail : Forest) → IsQuiet false tail → IsGood bytes (label_group kind marker inside back tail)
  good-label_group tail q = grind (arith, label-name, quiet-none, no-run-row, good-row, quiet-runs, both_ways, quiet-stripes, quiet-each)

-- An element as it is read.
abbrev pub IsElementRead : List ℕ → Element → Type 0
IsElementRead bytes (plain t) = IsGood bytes t
IsElementRead bytes (starts kind marker) = Unit {0}
IsElementRead bytes (ends marker None) = Unit {0}
IsElementRead bytes (ends marker (Some outcome)) = IsQuiet false outcome.1

pub good-labels : (bytes : List ℕ) (es : List Element) → AllAre (IsElementRead bytes) es → IsGood bytes (labels_of es)
good-labels bytes es h =
    labels-have (IsGood bytes) (IsElementRead bytes) (tt, (tt, (tt, tt))) (good-join bytes) (λ t g. g) (λ kind marker g. good-leaf bytes Name.Data marker refl) (λ marker outcome g. good-leaf bytes Name.Data marker refl)
    (λ kind marker inside back outcome s g q. good-label_group bytes outcome.0 marker inside back g outcome.1 q) es h
