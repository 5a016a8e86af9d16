-- The runs of a tree of labels: the codes of each are one marker, and no two runs of one marker are neighbours.
use Rattle.std.proofs.Common.{◌≡◌, ℕ, ◌+◌, ◌≤◌, ◌==◌, Bool, true, false, ◌&&◌, ◌||◌, List, [], ◌∷◌, ◌++◌, length, map, refl, sym, subst, arith, append_assoc, append-nil, Option, Some, None, ◌⊎◌, inl, inr}
use Rattle.markdown_attention.proofs.AttentionTreeLabels.{quiet-start_tree, quiet-label_end}
use Rattle.std.specs.Str.{byte}
use Rattle.std.specs.List.{list_all}
use Rattle.std.proofs.lemmas.Bool.{and_parts, or_parts, both_ways, eqb-true}
use Rattle.std.proofs.lemmas.Bool.Decides.{nat_tests}
use Rattle.markdown_event.specs.declared.event.Name.{Name}
use Rattle.markdown_content.specs.declared.label_kind.LabelKind.{LabelKind}
use Rattle.markdown_content.specs.Codes.{Code}
use Rattle.markdown_content.specs.Tree.{Forest, empty, leaf_then, group_then, leaf, ◌⊕◌, leaf_codes}
use Rattle.markdown_model.specs.CodeTests.{is_value, is_empty, next_is}
use Rattle.markdown_model.specs.Grammar.{Reading, ◌>>=◌, gives, some, span}
use Rattle.markdown_model.specs.Setting.{Setting, within}
use Rattle.markdown_model.specs.Runs.{marker_of}
use Rattle.markdown_model.specs.LabelEnd.{Element, plain, starts, ends, Label, label_before, outcome_of, label_end}
use Rattle.markdown_model.specs.Elements.{as_plain, line_ending, data_code, attention_run, text_element, AreElementsFrom, code_before, elements_of}
use Rattle.markdown_model.specs.BracketGroups.{nest, onto, after_loose, joined, loose}
use Rattle.markdown_model.specs.Passes.{Start, End, as_bracket, label_group, loose_start, loose_end, labelled, labels_of, is_nothing}
use Rattle.markdown_model.proofs.ReadsACode.{Left}
use Rattle.markdown_model.proofs.ElementsReadACode.{text_element_takes}
use Rattle.markdown_model.proofs.ElementCases.{EachConstruct, outcome_yields, text_has}
use Rattle.markdown_model.proofs.ElementsCover.{covers_text_element}
use Rattle.markdown_model.proofs.OneElementList.{text_elements}
use Rattle.markdown_model.proofs.LabelsCover.{element_codes, unused}
use Rattle.markdown_model.proofs.NoLinkInConstructs.{Yields, yields_bind, yields_gives, yields_either, then_any}
use Rattle.markdown_model.proofs.ReadingsCover.{At}
use Rattle.markdown_model.proofs.DefinitionSteps.{span-all, span-stops}
use Rattle.markdown_model.proofs.PlainTrees.{is_mark, is_linked, marks, IsQuiet, plain-quiet, quiet_after_label}
use Rattle.markdown_model.proofs.PlainConstructs.{IsPlainTree, ReadsPlain}
use Rattle.markdown_model_laws.proofs.AfterLabelTrees.{IsSome}
use Rattle.markdown_model_laws.proofs.MadeElements.{AllGood, good-text}

abbrev pub is_marker : ℕ → Bool
is_marker m = m == byte "*" || (m == byte "_" || m == byte "~")

-- one marker at least, and no other code
pub record IsMarkerStripe (m : ℕ) (cs : List Code) : Type 0 where
  pub kind : is_marker m ≡ true
  pub some : is_empty cs ≡ false
  pub all : list_all (is_value m) cs ≡ true

-- In a row, and in each row inside it, each run is one marker, which is not that of a run just before it; p is the marker
-- of a run just before the row, or zero.
abbrev pub HasApartRuns : ℕ → Forest → Type 0
HasApartRuns p empty = Unit {0}
HasApartRuns p (leaf_then Name.AttentionSequence link cs rest) =
    IsMarkerStripe (marker_of cs) cs × ((marker_of cs == p) ≡ false) × HasApartRuns (marker_of cs) rest
HasApartRuns p (leaf_then name link cs rest) = HasApartRuns 0 rest
HasApartRuns p (group_then name enter exit inside rest) = HasApartRuns 0 inside × HasApartRuns 0 rest

-- the marker of the run that such a row ends with
abbrev last_run : ℕ → Forest → ℕ
last_run p empty = p
last_run p (leaf_then Name.AttentionSequence link cs rest) = last_run (marker_of cs) rest
last_run p (leaf_then name link cs rest) = last_run 0 rest
last_run p (group_then name enter exit inside rest) = last_run 0 rest

no-marker : (m : ℕ) → is_marker m ≡ true → (m == 0) ≡ false
no-marker m h = grind (arith, nat_tests)

-- Rows.

-- a row without runs
quiet-apart : (b : Bool) (p : ℕ) (t : Forest) → marks b t ≡ false → HasApartRuns p t
quiet-apart b p empty h = tt
quiet-apart b p (leaf_then Name.AttentionSequence link cs rest) h = cc
quiet-apart b p (leaf_then name link cs rest) h =
    quiet-apart b 0 rest (or_parts (is_mark name || (is_linked link && b)) (marks b rest) h).1
quiet-apart b p (group_then name enter exit inside rest) h =
    let q = or_parts (marks b inside) (marks b rest) (or_parts (is_mark name) (marks b inside || marks b rest) h).1 in
    (quiet-apart b 0 inside q.0, quiet-apart b 0 rest q.1)

quiet-after : (b : Bool) (t : Forest) → marks b t ≡ false → last_run 0 t ≡ 0
quiet-after b empty h = refl
quiet-after b (leaf_then Name.AttentionSequence link cs rest) h = cc
quiet-after b (leaf_then name link cs rest) h =
    quiet-after b rest (or_parts (is_mark name || (is_linked link && b)) (marks b rest) h).1
quiet-after b (group_then name enter exit inside rest) h =
    quiet-after b rest (or_parts (marks b inside) (marks b rest) (or_parts (is_mark name) (marks b inside || marks b rest) h).1).1

quiet-last : (b : Bool) (p : ℕ) (t : Forest) → marks b t ≡ false → is_nothing t ≡ false → last_run p t ≡ 0
quiet-last b p t h0 h1 = grind (arith, quiet-after)

apart-join : (p : ℕ) (a b : Forest) → HasApartRuns p a → HasApartRuns (last_run p a) b → HasApartRuns p (a ⊕ b)
apart-join p empty b h k = k
apart-join p (leaf_then Name.AttentionSequence link cs rest) b h k = (h.0, h.1, apart-join (marker_of cs) rest b h.2 k)
apart-join p (leaf_then name link cs rest) b h k = apart-join 0 rest b h k
apart-join p (group_then name enter exit inside rest) b h k = (h.0, apart-join 0 rest b h.1 k)

abbrev ListApart : ℕ → List Forest → Type 0
ListApart p [] = Unit {0}
ListApart p (f ∷ fs) = HasApartRuns p f × ListApart (last_run p f) fs

abbrev list_last : ℕ → List Forest → ℕ
list_last p [] = p
list_last p (f ∷ fs) = list_last (last_run p f) fs

apart-joined : (p : ℕ) (fs : List Forest) → ListApart p fs → HasApartRuns p (joined fs)
apart-joined p [] h = tt
apart-joined p (f ∷ fs) h = apart-join p f (joined fs) h.0 (apart-joined (last_run p f) fs h.1)

apart-append : (p : ℕ) (fs gs : List Forest) → ListApart p fs → ListApart (list_last p fs) gs → ListApart p (fs ++ gs)
apart-append p [] gs h k = k
apart-append p (f ∷ fs) gs h k = (h.0, apart-append (last_run p f) fs gs h.1 k)

data-apart : (p : ℕ) (cs : List Code) → HasApartRuns p (leaf Name.Data cs)
data-apart p [] = tt
data-apart p (c ∷ cs) = tt

data-last : (p : ℕ) (cs : List Code) → IsSome cs → last_run p (leaf Name.Data cs) ≡ 0
data-last p [] h = cc
data-last p (c ∷ cs) h = refl

caret-last : (cs : List Code) → last_run 0 (leaf Name.Data cs) ≡ 0
caret-last [] = refl
caret-last (c ∷ cs) = refl

-- data before a list of trees
after-loose : (p : ℕ) (cs : List Code) (fs : List Forest) → IsSome cs → ListApart 0 fs → ListApart p (loose cs ++ fs)
after-loose p cs fs h k = (data-apart p cs, subst (λ x. ListApart x fs) (sym (data-last p cs h)) k)

-- Elements.

-- an element with the codes after it
record IsRunTree (t : Forest) (rest : List Code) : Type 0 where
  codes : List Code
  is : t ≡ leaf_then Name.AttentionSequence None codes empty
  stripe : IsMarkerStripe (marker_of codes) codes
  stops : next_is (is_value (marker_of codes)) rest ≡ false

abbrev IsQuietElement : Element → List Code → Type 0
IsQuietElement (plain t) rest = IsQuiet true t ⊎ IsRunTree t rest
IsQuietElement (starts kind marker) rest = Unit {0}
IsQuietElement (ends marker None) rest = Unit {0}
IsQuietElement (ends marker (Some outcome)) rest = IsQuiet false outcome.1

abbrev AnswersFine : Option (Element × List Code) → Type 0
AnswersFine None = Unit {0}
AnswersFine (Some r) = IsQuietElement r.0 r.1

record Fine (a : Reading Element) : Type 0 where
  at : (cs : List Code) → AnswersFine (a cs)

-- whatever the codes after it are
abbrev Always : Element → Type 0
Always e = (rest : List Code) → IsQuietElement e rest

fine_always : (a : Reading Element) → Yields Always a → Fine a
fine_always a h = grind arith

fine_plain : (bytes : List ℕ) (a : Reading Forest) → ReadsPlain bytes a → Fine (as_plain a)
unfolding as_plain
fine_plain bytes a h =
    fine_always _ (yields_bind (IsPlainTree bytes) _ _ _ h.plain λ tree k. yields_gives _ (plain tree) (λ rest. inl (plain-quiet bytes tree k)))

quiet-leaf : (name : Name) (cs : List Code) → is_mark name ≡ false → IsQuiet true (leaf name cs)
quiet-leaf name [] h = refl
quiet-leaf name (c ∷ cs) h = λ i. (h i || false) || false

fine_line_ending : Fine line_ending
unfolding line_ending
fine_line_ending =
    fine_always _ (then_any _ _ _ λ c. yields_gives _ (plain (leaf Name.LineEnding c)) (λ rest. inl (quiet-leaf Name.LineEnding c refl)))

fine_data_code : Fine data_code
unfolding data_code
fine_data_code =
    fine_always _ (then_any _ _ _ λ c. yields_gives _ (plain (leaf Name.Data c)) (λ rest. inl (quiet-leaf Name.Data c refl)))

fine_run : (m : ℕ) → is_marker m ≡ true → Fine (attention_run m)
unfolding attention_run ◌>>=◌ gives some
fine_run m h = record { at = λ cs. by_codes (span (is_value m) cs) (span-all (is_value m) cs) (span-stops (is_value m) cs) }
  where
    read : (c : Code) (ds rest : List Code) → list_all (is_value m) (c ∷ ds) ≡ true →
        next_is (is_value m) rest ≡ false → IsRunTree (leaf_then Name.AttentionSequence None (c ∷ ds) empty) rest
    read c ds rest k l = grind (arith, eqb-true, and_parts)

    by_codes : (r : List Code × List Code) → list_all (is_value m) r.0 ≡ true → next_is (is_value m) r.1 ≡ false
        → AnswersFine (elim (elim (is_empty r.0) as (λ _. Option (List Code × List Code)) [ true ↦ None | false ↦ Some r ]) [ None ↦ None | Some x ↦ Some (plain (leaf Name.AttentionSequence x.0), x.1) ])
    by_codes ([], rest) k l = tt
    by_codes (c ∷ ds, rest) k l = inr (read c ds rest k l)

abbrev QuietOutcome : LabelKind × Forest → Type 0
QuietOutcome outcome = IsQuiet false outcome.1

quiet_outcome : (s : Setting) (l : Option Label) (back : List Code) → Yields QuietOutcome (outcome_of s l back)
quiet_outcome s l back = outcome_yields (IsQuiet false) refl s (quiet_after_label s) l back

fine_label_end : (s : Setting) (earlier : List Element) → Fine (label_end s earlier)
unfolding label_end
fine_label_end s earlier =
    fine_always _ (then_any _ _ _ λ back. yields_either _ _ _
    (yields_bind QuietOutcome _ _ _ (quiet_outcome s (label_before earlier) back) λ outcome k. yields_gives _ (ends back (Some outcome)) (λ rest. k))
    (yields_gives _ (ends back None) (λ rest. tt)))

fine_text_element : (s : Setting) (end : ℕ) (earlier : List Element) (previous : Option Code) (cs : List Code) →
    AnswersFine (text_element s end earlier previous cs)
fine_text_element s end earlier previous cs = text_has s end earlier previous AnswersFine cs each (fine_data_code.at cs)
  where
    each : EachConstruct s end earlier previous AnswersFine cs
    each = record {
      none = tt;
      ending = fine_line_ending.at cs;
      plain_has = λ a h. (fine_plain s.bytes a h).at cs;
      stars = λ _. (fine_run 42 refl).at cs;
      underscores = λ _. (fine_run 95 refl).at cs;
      tildes = λ _. (fine_run 126 refl).at cs;
      starts_has = λ kind marker rest some whole. tt;
      ended = (fine_label_end s earlier).at cs;
    }

-- Lists of elements, where p is the marker of a run just before, or zero.

abbrev AreApartElements : ℕ → List Element → Type 0
AreApartElements p [] = Unit {0}
AreApartElements p (plain t ∷ es) = HasApartRuns p t × AreApartElements (last_run p t) es
AreApartElements p (starts kind marker ∷ es) = AreApartElements 0 es
AreApartElements p (ends marker None ∷ es) = AreApartElements 0 es
AreApartElements p (ends marker (Some outcome) ∷ es) = IsQuiet false outcome.1 × AreApartElements 0 es

-- no code of this marker is at hand
abbrev IsPastMarker : ℕ → List Code → Type 0
IsPastMarker p cs = (next_is (is_value p) cs ≡ false) ⊎ (p ≡ 0)

not-before : (p : ℕ) (xs rest cs : List Code) → IsMarkerStripe (marker_of xs) xs → xs ++ rest ≡ cs → IsPastMarker p cs →
    (marker_of xs == p) ≡ false
not-before p xs rest cs h e k = grind (arith, both_ways, no-marker)

some-tree : (t : Forest) (rest cs : List Code) → leaf_codes t ++ rest ≡ cs → 1 + length rest ≤ length cs →
    is_nothing t ≡ false
some-tree t rest cs h k = grind arith

module _ (s : Setting) (end : ℕ) where
  abbrev From : List Element → Option Code → List Code → List Element → Type 0
  From earlier previous cs es = AreElementsFrom (text_element s end) earlier previous cs es

  apart-element : (e : Element) (es : List Element) (d p : ℕ) (rest cs : List Code) → IsQuietElement e rest → element_codes d e ++ rest ≡ cs → 1 + length rest ≤ length cs → IsPastMarker p cs
      → ((q : ℕ) → IsPastMarker q rest → AreApartElements q es) → AreApartElements p (e ∷ es)
  apart-element e es d p rest cs q h0 h1 h2 h3 = grind (arith, quiet-apart, quiet-last, some-tree, not-before, append-nil)

  all-apart : (es earlier : List Element) (previous : Option Code) (cs : List Code) (p : ℕ) → IsPastMarker p cs →
      From earlier previous cs es → AreApartElements p es
  all-apart [] earlier previous cs p k h = tt
  all-apart (e ∷ es) earlier previous cs p k h =
      apart-element e es (unused earlier) p h.0 cs
      (subst AnswersFine h.1 (fine_text_element s end earlier previous cs))
      (subst (At (element_codes (unused earlier)) [] cs) h.1 ((covers_text_element s end earlier previous).at cs))
      (subst (Left 1 cs) h.1 ((text_element_takes s end earlier previous).at cs)) k
      (λ q l. all-apart es (e ∷ earlier) (code_before cs h.0) h.0 q l h.2)

-- Groups of labels.

apart-label : (p : ℕ) (kind : LabelKind) (marker : List Code) (inside : Forest) (back : List Code) (tail : Forest) →
    HasApartRuns 0 inside → IsQuiet false tail → HasApartRuns p (label_group kind marker inside back tail)
apart-label p kind marker inside back tail h q = grind (arith, apart-join, quiet-apart, quiet-start_tree, quiet-label_end, caret-last)

abbrev QuietEnd : End → Type 0
QuietEnd (back, None) = IsSome back
QuietEnd (back, Some outcome) = IsSome back × IsQuiet false outcome.1

end-some : (end : End) → QuietEnd end → IsSome end.0
end-some (back, None) h = h
end-some (back, Some outcome) h = h.0

labelled-apart : (p : ℕ) (start : Start) (inside : List Forest) (end : End) (after : List Forest) → IsSome start.1 → QuietEnd end → ListApart 0 inside → ListApart 0 after
    → ListApart p (labelled start inside end ++ after)
labelled-apart p start inside (back, None) after h k l m = grind (arith, after-loose, apart-append, append_assoc)
labelled-apart p start inside (back, Some outcome) after h k l m =
    (apart-label p outcome.0 start.1 (joined inside) back outcome.1 (apart-joined 0 inside l) k.1, m)

abbrev LabelFrames : Type 0
LabelFrames = List (End × List Forest)

abbrev AreQuietFrames : LabelFrames → Type 0
AreQuietFrames [] = Unit {0}
AreQuietFrames (f ∷ fs) = QuietEnd f.0 × ListApart 0 f.1 × AreQuietFrames fs

abbrev nest_labels : List Element → List Forest × LabelFrames
nest_labels es = nest labelled loose_start loose_end (map as_bracket es)

apart-onto : (p : ℕ) (start : Start) (inside : List Forest) (more : LabelFrames) → IsSome start.1 → ListApart 0 inside → AreQuietFrames more →
    let r : List Forest × LabelFrames = onto labelled loose_start loose_end start inside more in
    ListApart p r.0 × AreQuietFrames r.1
apart-onto p start inside [] h k l = (after-loose p start.1 inside h k, tt)
apart-onto p start inside (f ∷ fs) h k l = (labelled-apart p start inside f.0 f.1 h l.0 k l.1, l.2)

apart-nest : (p : ℕ) (es : List Element) → AllGood es → AreApartElements p es →
    ListApart p (nest_labels es).0 × AreQuietFrames (nest_labels es).1
apart-nest p [] g h = (tt, tt)
apart-nest p (plain tree ∷ es) g h = let r = apart-nest (last_run p tree) es g.1 h.1 in ((h.0, r.0), r.1)
apart-nest p (starts kind marker ∷ es) g h =
    let r = apart-nest 0 es g.1 h in apart-onto p (kind, marker) (nest_labels es).0 (nest_labels es).1 g.0 r.0 r.1
apart-nest p (ends back None ∷ es) g h = let r = apart-nest 0 es g.1 h in (tt, (g.0, r.0, r.1))
apart-nest p (ends back (Some outcome) ∷ es) g h = let r = apart-nest 0 es g.1 h.1 in (tt, ((g.0.0, h.0), r.0, r.1))

apart-after : (p : ℕ) (fs : LabelFrames) → AreQuietFrames fs → ListApart p (after_loose labelled loose_start loose_end fs)
apart-after p [] h = tt
apart-after p (f ∷ fs) h =
    apart-append p (loose_end f.0 ++ f.1) (after_loose labelled loose_start loose_end fs) (after-loose p f.0.0 f.1 (end-some f.0 h.0) h.1)
    (apart-after (list_last p (loose_end f.0 ++ f.1)) fs h.2)

-- in the tree of labels of a text, and in each row of it, runs are so
pub apart-text-labels : (s : Setting) (cs : List Code) → HasApartRuns 0 (labels_of (elements_of s cs))
unfolding labels_of
apart-text-labels s cs =
    apart-joined 0 _ (apart-append 0 (nest_labels es).0 (after_loose labelled loose_start loose_end (nest_labels es).1) r.0 (apart-after (list_last 0 (nest_labels es).0) (nest_labels es).1 r.1))
  where
    es : List Element
    es = elements_of s cs

    r : ListApart 0 (nest_labels es).0 × AreQuietFrames (nest_labels es).1
    r = apart-nest 0 es (good-text s cs) (all-apart (within cs s) _ es [] None cs 0 (inr refl) (text_elements s cs))
