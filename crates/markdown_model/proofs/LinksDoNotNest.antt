-- A link or a footnote call does not stand inside another.
use Rattle.std.proofs.Common.{◌≡◌, ℕ, Bool, true, false, ◌&&◌, ◌||◌, not, List, [], ◌∷◌, ◌++◌, length, drop, map, refl, sym, ◌∙◌, ap, subst, Option, Some, None, arith}
use Rattle.std.proofs.Math.Bool.{or-false}
use Rattle.std.proofs.lemmas.Bool.{not-true}
use Rattle.markdown_event.specs.declared.event.Name.{Name}
use Rattle.markdown_content.specs.declared.label_kind.LabelKind.{LabelKind}
use Rattle.markdown_content.specs.Codes.{Code, stop_of, document_start}
use Rattle.markdown_content.specs.Tree.{Forest, leaf, ◌⊕◌, group, text_group, start_of, leaf_codes}
use Rattle.markdown_model.specs.Grammar.{Reading, ◌>>=◌, ◌>>◌, gives, provided, either}
use Rattle.markdown_model.specs.Setting.{Setting, within}
use Rattle.markdown_model.specs.LabelEnd.{Element, plain, starts, ends, Label, label_before, is_image, is_footnote, is_barred, makes_link, footnote_call, link_or_image, link_kind, outcome_of, label_end}
use Rattle.markdown_model.specs.Elements.{as_plain, line_ending, data_code, attention_run, text_element, Choice, AreElementsFrom, code_before, text_choice, elements_of}
use Rattle.markdown_model.specs.Pairs.{pair_list}
use Rattle.markdown_model.specs.BracketGroups.{nest, onto, after_loose, joined, loose}
use Rattle.markdown_model.specs.Passes.{breaks, Start, End, as_bracket, start_marker, start_tree, label_name, label_group, loose_start, loose_end, labelled, labels_of, merged, trimmed, with_emails_apart}
use Rattle.markdown_model.specs.InlineTree.{raw_tree, finished_text, text_tree, paired_whole}
use Rattle.markdown_model.specs.Laws.{UnusedStart, with_link, unused_starts, IsLabelOf, is_link, holds_link, AreApart, LinksDoNotNest}
use Rattle.markdown_model.proofs.OneElementList.{text_elements}
use Rattle.markdown_model.proofs.EndsTakeTheNearest.{ends_take_the_nearest}
use Rattle.markdown_model.proofs.NoLinkInConstructs.{IsFree, PassesValue, Yields, yields_bind, yields_gives, yields_either, then_any, holds-join, holds-leaf, free-apart, or_assoc}
use Rattle.markdown_model.proofs.PlainTrees.{IsQuiet, quiet-free, plain-quiet, quiet_after_label}
use Rattle.markdown_model.proofs.PlainConstructs.{IsPlainTree, ReadsPlain}
use Rattle.markdown_model.proofs.PassesKeepLinks.{apart-leaf, apart-join, apart-merged, apart-trimmed, apart-mailed, apart-paired, any_holds, holds_add, apart-joined, holds-loose}
use Rattle.markdown_model.proofs.BracketSums.{sum-append, sum-joined}
use Rattle.markdown_model.proofs.BracketGroupFacts.{AllHave, all-append}
use Rattle.markdown_model.proofs.ElementCases.{EachConstruct, text_has}

-- What an element is, where these starts before it are unused: no construct but a label is a link, and
-- where an end makes one, none ended after its start.
abbrev IsAllowed : List UnusedStart → Element → Type 0
IsAllowed us (plain t) = IsFree t
IsAllowed us (starts kind marker) = Unit {0}
IsAllowed us (ends marker None) = Unit {0}
IsAllowed [] (ends marker (Some outcome)) = Unit {0}
IsAllowed (u ∷ us) (ends marker (Some outcome)) =
    IsFree outcome.1 × (not (is_image outcome.0) ≡ true → u.before_link ≡ false)

-- Outcomes.

pub yields_passed_if : {A : Type 0} (P : A → Type 0) (test : Bool) (b : Reading A) → (test ≡ true → Yields P b) →
    Yields P (provided test >> b)
unfolding provided ◌>>◌
yields_passed_if P true b h = record { at = (h refl).at }
yields_passed_if P false b h = record { at = λ cs. tt }

abbrev IsAllowedOutcome : UnusedStart → LabelKind × Forest → Type 0
IsAllowedOutcome u outcome = IsFree outcome.1 × (not (is_image outcome.0) ≡ true → u.before_link ≡ false)

-- a start that is no image's and not barred
not_after_link : (kind : LabelKind) (link : Bool) → (not (is_image kind) && link) ≡ false → not (is_image kind) ≡ true →
    link ≡ false
not_after_link LabelKind.Image link h k = absurd (cc)
not_after_link LabelKind.Link link h k = h
not_after_link LabelKind.GfmFootnote link h k = h
not_after_link LabelKind.GfmUndefinedFootnote link h k = h

image_kind : (kind : LabelKind) → is_image (link_kind kind) ≡ is_image kind
image_kind LabelKind.Image = refl
image_kind LabelKind.Link = refl
image_kind LabelKind.GfmFootnote = refl
image_kind LabelKind.GfmUndefinedFootnote = refl

footnote_image : (kind : LabelKind) (b : Bool) → (is_footnote kind && b) ≡ true → not (is_image kind) ≡ true
footnote_image LabelKind.Image b h = h
footnote_image LabelKind.Link b h = refl
footnote_image LabelKind.GfmFootnote b h = refl
footnote_image LabelKind.GfmUndefinedFootnote b h = refl

allowed_outcome : (s : Setting) (u : UnusedStart) (l : Label) (back : List Code) → l.kind ≡ u.kind → is_barred l ≡ (not (is_image u.kind) && u.before_link)
    → Yields (IsAllowedOutcome u) (outcome_of s (Some l) back)
unfolding outcome_of footnote_call link_or_image
allowed_outcome s u l back same barred = record { at = λ cs. whole.at cs }
  where
    free_start : not (is_barred l) ≡ true → not (is_image l.kind) ≡ true → u.before_link ≡ false
    free_start h k =
        not_after_link u.kind u.before_link (sym barred ∙ not-true (is_barred l) h) (subst (λ x. not (is_image x) ≡ true) same k)

    whole : Yields (IsAllowedOutcome u) (provided (not (is_barred l)) >> either (footnote_call s l back) (link_or_image s l back))
    whole = yields_passed_if _ _ _ λ h. yields_either _ _ _
        (yields_passed_if _ _ _ λ k. yields_gives _ _ (refl, λ _. free_start h (footnote_image l.kind _ k)))
        (yields_bind (IsQuiet false) _ _ _ (quiet_after_label s _) λ tail k. yields_gives _ _ (quiet-free false tail k, λ e. free_start h (ap not (sym (image_kind l.kind)) ∙ e)))

allowed_ended : (s : Setting) (us : List UnusedStart) (l : Option Label) (back : List Code) → IsLabelOf us l
    → Yields (IsAllowed us) (outcome_of s l back >>= λ outcome. gives (ends back (Some outcome)))
unfolding outcome_of ◌>>=◌
allowed_ended s [] None back h = record { at = λ cs. tt }
allowed_ended s [] (Some l) back h = absurd (no h)
  where
    no : Some l ≡ None → ⊥
    no e = cc
allowed_ended s (u ∷ us) l back h =
    subst (λ x. Yields (IsAllowed (u ∷ us)) (outcome_of s x back >>= λ outcome. gives (ends back (Some outcome)))) (sym h.1)
    (yields_bind (IsAllowedOutcome u) _ _ _ (allowed_outcome s u h.0 back h.2 h.4) λ outcome k. yields_gives _ (ends back (Some outcome)) k)

allowed_label_end : (s : Setting) (earlier : List Element) →
    Yields (IsAllowed (unused_starts earlier)) (label_end s earlier)
unfolding label_end
allowed_label_end s earlier =
    then_any _ _ _ λ back. yields_either _ _ _ (allowed_ended s (unused_starts earlier) (label_before earlier) back (ends_take_the_nearest earlier)) (yields_gives _ (ends back None) tt)

-- Other elements.

module _ (us : List UnusedStart) where
  allowed_plain : (bytes : List ℕ) (a : Reading Forest) → ReadsPlain bytes a → Yields (IsAllowed us) (as_plain a)
  unfolding as_plain
  allowed_plain bytes a h =
      yields_bind (IsPlainTree bytes) _ _ _ h.plain λ tree k. yields_gives _ (plain tree) (quiet-free true tree (plain-quiet bytes tree k))

  allowed_line_ending : Yields (IsAllowed us) line_ending
  unfolding line_ending
  allowed_line_ending =
      then_any _ _ _ λ c. yields_gives _ (plain (leaf Name.LineEnding c)) (holds-leaf Name.LineEnding c)

  allowed_data_code : Yields (IsAllowed us) data_code
  unfolding data_code
  allowed_data_code = then_any _ _ _ λ c. yields_gives _ (plain (leaf Name.Data c)) (holds-leaf Name.Data c)

  allowed_run : (marker : ℕ) → Yields (IsAllowed us) (attention_run marker)
  unfolding attention_run
  allowed_run marker =
      then_any _ _ _ λ markers. yields_gives _ (plain (leaf Name.AttentionSequence markers)) (holds-leaf Name.AttentionSequence markers)

allowed_text_element : (s : Setting) (end : ℕ) (earlier : List Element) (previous : Option Code) →
    Yields (IsAllowed (unused_starts earlier)) (text_element s end earlier previous)
allowed_text_element s end earlier previous = record { at = λ cs. text_has s end earlier previous (PassesValue (IsAllowed us)) cs (each cs) ((allowed_data_code us).at cs) }
  where
    us : List UnusedStart
    us = unused_starts earlier

    each : (cs : List Code) → EachConstruct s end earlier previous (PassesValue (IsAllowed us)) cs
    each cs = record {
      none = tt;
      ending = (allowed_line_ending us).at cs;
      plain_has = λ a h. (allowed_plain us s.bytes a h).at cs;
      stars = λ _. (allowed_run us 42).at cs;
      underscores = λ _. (allowed_run us 95).at cs;
      tildes = λ _. (allowed_run us 126).at cs;
      starts_has = λ kind marker rest some whole. tt;
      ended = (allowed_label_end s earlier).at cs;
    }

-- Lists of elements.

abbrev starts_after : List UnusedStart → Element → List UnusedStart
starts_after us (plain tree) = us
starts_after us (starts kind marker) = record { kind = kind; marker = marker; before_link = false } ∷ us
starts_after us (ends marker outcome) = map (with_link (makes_link (ends marker outcome))) (drop 1 us)

starts_after-is : (earlier : List Element) (e : Element) →
    unused_starts (e ∷ earlier) ≡ starts_after (unused_starts earlier) e
starts_after-is earlier (plain tree) = refl
starts_after-is earlier (starts kind marker) = refl
starts_after-is earlier (ends marker outcome) = refl

abbrev AllAllowed : List UnusedStart → List Element → Type 0
AllAllowed us [] = Unit {0}
AllAllowed us (e ∷ es) = IsAllowed us e × AllAllowed (starts_after us e) es

all_allowed : (choice : Choice) → ((earlier : List Element) (previous : Option Code) → Yields (IsAllowed (unused_starts earlier)) (choice earlier previous))
    → (es earlier : List Element) (previous : Option Code) (cs : List Code) → AreElementsFrom choice earlier previous cs es → AllAllowed (unused_starts earlier) es
all_allowed choice yields [] earlier previous cs h = tt
all_allowed choice yields (e ∷ es) earlier previous cs h = (
  at_some (choice earlier previous cs) h.1 ((yields earlier previous).at cs),
  subst (λ x. AllAllowed x es) (starts_after-is earlier e) (all_allowed choice yields es (e ∷ earlier) (code_before cs h.0) h.0 h.2),
)
  where
    at_some : (r : Option (Element × List Code)) → r ≡ Some (e, h.0) → PassesValue (IsAllowed (unused_starts earlier)) r →
        IsAllowed (unused_starts earlier) e
    at_some r k x = subst (λ z. PassesValue (IsAllowed (unused_starts earlier)) z) k x

-- Groups of labels.

abbrev new_link : End → Bool
new_link (marker, None) = false
new_link (marker, Some outcome) = not (is_image outcome.0)

abbrev OutcomeIsFree : End → Type 0
OutcomeIsFree (marker, None) = Unit {0}
OutcomeIsFree (marker, Some outcome) = IsFree outcome.1

link_name : (kind : LabelKind) → is_link (label_name kind) ≡ not (is_image kind)
link_name LabelKind.Image = refl
link_name LabelKind.Link = refl
link_name LabelKind.GfmFootnote = refl
link_name LabelKind.GfmUndefinedFootnote = refl

holds-start_tree : (kind : LabelKind) (cs : List Code) → holds_link (start_tree kind cs) ≡ false
holds-start_tree LabelKind.Image cs = simp (holds-join, holds-leaf)
holds-start_tree LabelKind.GfmFootnote cs = simp (holds-join, holds-leaf)
holds-start_tree LabelKind.Link cs = simp holds-leaf
holds-start_tree LabelKind.GfmUndefinedFootnote cs = simp holds-leaf

-- the parts of a label's group
abbrev caret_of : LabelKind → List Code → List Code
caret_of kind marker = drop (length (start_marker kind marker)) marker

abbrev label_row : LabelKind → List Code → Forest → List Code → Forest
label_row kind marker inside back =
    start_tree kind (start_marker kind marker)
    ⊕ text_group Name.LabelText (stop_of document_start (start_marker kind marker)) (start_of back) (leaf Name.Data (caret_of kind marker) ⊕ inside)
    ⊕ group Name.LabelEnd (leaf Name.LabelMarker back)

holds-label_row : (kind : LabelKind) (marker : List Code) (inside : Forest) (back : List Code) →
    holds_link (label_row kind marker inside back) ≡ holds_link inside
holds-label_row kind marker inside back = grind (arith, holds-join, holds-start_tree, holds-leaf, or-false)

apart-label_row : (kind : LabelKind) (marker : List Code) (inside : Forest) (back : List Code) → AreApart inside →
    AreApart (label_row kind marker inside back)
apart-label_row kind marker inside back h =
    apart-join (start_tree kind (start_marker kind marker)) _ (free-apart (start_tree kind (start_marker kind marker)) (holds-start_tree kind (start_marker kind marker)))
    ((λ e. absurd (no e)), apart-join (leaf Name.Data (caret_of kind marker)) inside (apart-leaf Name.Data (caret_of kind marker)) h, ((λ e. absurd (no e)), apart-leaf Name.LabelMarker back, tt))
  where
    no : false ≡ true → ⊥
    no e = cc

holds-inner : (kind : LabelKind) (marker : List Code) (inside : Forest) (back : List Code) (tail : Forest) → IsFree tail
    → holds_link (group Name.Label (label_row kind marker inside back) ⊕ tail) ≡ holds_link inside
holds-inner kind marker inside back tail h =
    (λ i. holds-label_row kind marker inside back i || h i) ∙ or-false (holds_link inside)

holds-label_group : (kind : LabelKind) (marker : List Code) (inside : Forest) (back : List Code) (tail : Forest) → IsFree tail
    → holds_link (label_group kind marker inside back tail) ≡ (not (is_image kind) || holds_link inside)
holds-label_group kind marker inside back tail h =
    λ i. link_name kind i || (or-false _ ∙ holds-inner kind marker inside back tail h) i

apart-label_group : (kind : LabelKind) (marker : List Code) (inside : Forest) (back : List Code) (tail : Forest)
    → IsFree tail → (not (is_image kind) ≡ true → holds_link inside ≡ false) → AreApart inside → AreApart (label_group kind marker inside back tail)
apart-label_group kind marker inside back tail h k a = (
  (λ e. holds-inner kind marker inside back tail h ∙ k (sym (link_name kind) ∙ e)),
  ((λ e. absurd (no e)), apart-label_row kind marker inside back a, free-apart tail h),
  tt,
)
  where
    no : false ≡ true → ⊥
    no e = cc

apart-loose : (cs : List Code) → AllHave AreApart (loose cs)
apart-loose cs = (apart-leaf Name.Data cs, tt)

holds-labelled : (start : Start) (inside : List Forest) (end : End) → OutcomeIsFree end →
    any_holds (labelled start inside end) ≡ (new_link end || any_holds inside)
holds-labelled start inside (marker, None) h =
    sum-append holds_add (loose start.1) (inside ++ loose marker)
    ∙ (λ i. holds-loose start.1 i || (sum-append holds_add inside (loose marker) ∙ ap (λ x. any_holds inside || x) (holds-loose marker) ∙ or-false (any_holds inside)) i)
holds-labelled start inside (marker, Some outcome) h =
    or-false _ ∙ holds-label_group outcome.0 start.1 (joined inside) marker outcome.1 h ∙ ap (λ x. not (is_image outcome.0) || x) (sum-joined holds_add inside)

apart-labelled : (start : Start) (inside : List Forest) (end : End) → OutcomeIsFree end →
    (new_link end ≡ true → any_holds inside ≡ false) → AllHave AreApart inside →
    AllHave AreApart (labelled start inside end)
apart-labelled start inside (marker, None) h k a =
    all-append AreApart (loose start.1) (inside ++ loose marker) (apart-loose start.1) (all-append AreApart inside (loose marker) a (apart-loose marker))
apart-labelled start inside (marker, Some outcome) h k a =
    (apart-label_group outcome.0 start.1 (joined inside) marker outcome.1 h (λ e. sum-joined holds_add inside ∙ k e) (apart-joined inside a), tt)

abbrev LinkFrames : Type 0
LinkFrames = List (End × List Forest)

abbrev FramesApart : LinkFrames → Type 0
FramesApart [] = Unit {0}
FramesApart (f ∷ fs) = AllHave AreApart f.1 × FramesApart fs

-- Ends that wait for their starts: where one makes a link, none stands between; `link` says that one
-- stands before the first of them.
abbrev AreReady : Bool → List UnusedStart → LinkFrames → Type 0
AreReady link us [] = Unit {0}
AreReady link [] (f ∷ fs) = Unit {0}
AreReady link (u ∷ us) (f ∷ fs) =
    OutcomeIsFree f.0 × (new_link f.0 ≡ true → (u.before_link || link) ≡ false) × AreReady (link || (new_link f.0 || any_holds f.1)) us fs

earlier_link : (b link : Bool) (us : List UnusedStart) (fs : LinkFrames) → AreReady link (map (with_link b) us) fs →
    AreReady (b || link) us fs
earlier_link b link us [] h = tt
earlier_link b link [] (f ∷ fs) h = tt
earlier_link b link (u ∷ us) (f ∷ fs) h = (
  h.0,
  (λ e. sym (or_assoc u.before_link b link) ∙ h.1 e),
  subst (λ x. AreReady x us fs) (sym (or_assoc b link (new_link f.0 || any_holds f.1))) (earlier_link b (link || (new_link f.0 || any_holds f.1)) us fs h.2),
)

abbrev nest_labels : List Element → List Forest × LinkFrames
nest_labels es = nest labelled loose_start loose_end (map as_bracket es)

exchanged : (a b c : Bool) → ((a || b) || c) ≡ (b || (a || c))
exchanged true true c = refl
exchanged true false c = refl
exchanged false true c = refl
exchanged false false c = refl

abbrev IsNested : List UnusedStart → List Forest × LinkFrames → Type 0
IsNested us r = AllHave AreApart r.0 × FramesApart r.1 × AreReady (any_holds r.0) us r.1

nested_start : (us : List UnusedStart) (kind : LabelKind) (marker : List Code) (inside : List Forest) (more : LinkFrames)
    → IsNested (record { kind = kind; marker = marker; before_link = false } ∷ us) (inside, more) → IsNested us (onto labelled loose_start loose_end (kind, marker) inside more)
nested_start us kind marker inside [] h = (all-append AreApart (loose marker) inside (apart-loose marker) h.0, tt, tt)
nested_start us kind marker inside (f ∷ fs) h = (
  all-append AreApart (labelled (kind, marker) inside f.0) f.1 (apart-labelled (kind, marker) inside f.0 h.2.0 h.2.1 h.0) h.1.0,
  h.1.1,
  subst (λ x. AreReady x us fs)
      (sym (sum-append holds_add (labelled (kind, marker) inside f.0) f.1 ∙ ap (λ x. x || any_holds f.1) (holds-labelled (kind, marker) inside f.0 h.2.0) ∙ exchanged (new_link f.0) (any_holds inside) (any_holds f.1)))
      h.2.2,
)

all_nested : (us : List UnusedStart) (es : List Element) → AllAllowed us es → IsNested us (nest_labels es)
all_nested us [] h = (tt, tt, tt)
all_nested us (plain t ∷ es) h =
    let r = all_nested us es h.1 in
    ((free-apart t h.0, r.0), r.1, subst (λ x. AreReady x us (nest_labels es).1) (sym (ap (λ x. x || any_holds (nest_labels es).0) h.0)) r.2)
all_nested us (starts kind marker ∷ es) h =
    nested_start us kind marker (nest_labels es).0 (nest_labels es).1 (all_nested (record { kind = kind; marker = marker; before_link = false } ∷ us) es h.1)
all_nested [] (ends marker outcome ∷ es) h = let r = all_nested [] es h.1 in (tt, (r.0, r.1), tt)
all_nested (u ∷ us) (ends marker None ∷ es) h =
    let r = all_nested (map (with_link false) us) es h.1 in
    (tt, (r.0, r.1), (tt, (λ e. absurd (no e)), earlier_link false (any_holds (nest_labels es).0) us (nest_labels es).1 r.2))
  where
    no : false ≡ true → ⊥
    no e = cc
all_nested (u ∷ us) (ends marker (Some outcome) ∷ es) h =
    let r = all_nested (map (with_link (not (is_image outcome.0))) us) es h.1 in
    (tt, (r.0, r.1), (h.0.0, (λ e. or-false u.before_link ∙ h.0.1 e), earlier_link (not (is_image outcome.0)) (any_holds (nest_labels es).0) us (nest_labels es).1 r.2))

apart-after_loose : (fs : LinkFrames) → FramesApart fs → AllHave AreApart (after_loose labelled loose_start loose_end fs)
apart-after_loose [] h = tt
apart-after_loose (f ∷ fs) h =
    all-append AreApart (loose_end f.0 ++ f.1) (after_loose labelled loose_start loose_end fs) (all-append AreApart (loose_end f.0) f.1 (apart-loose f.0.0) h.0) (apart-after_loose fs h.1)

apart-labels_of : (es : List Element) → AllAllowed [] es → AreApart (labels_of es)
unfolding labels_of
apart-labels_of es h = grind (arith, all_nested, apart-joined, all-append, apart-after_loose)

pub links_do_not_nest : LinksDoNotNest
unfolding text_tree finished_text raw_tree
links_do_not_nest s cs = by_test s.options.constructs.gfm_autolink_literal
  where
    es : List Element
    es = elements_of s cs

    labels : AreApart (labels_of es)
    labels = apart-labels_of es (all_allowed (text_choice s cs) (λ earlier previous. allowed_text_element (within cs s) _ earlier previous) es [] None cs (text_elements s cs))

    tree : Forest
    tree = trimmed (breaks s) true true (merged (paired_whole s (pair_list s) (labels_of es)))

    trimmed_apart : AreApart tree
    trimmed_apart =
        apart-trimmed (breaks s) true true _ (apart-merged _ (apart-paired (within (leaf_codes (labels_of es)) s) (pair_list s) (labels_of es) labels))

    by_test : (b : Bool) → AreApart (elim b [ true ↦ with_emails_apart tree | false ↦ tree ])
    by_test true = apart-mailed tree trimmed_apart
    by_test false = trimmed_apart
