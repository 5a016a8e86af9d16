-- No event of a content stands before an earlier one: the passes behind pairs keep all places of a tree, and its events stand at some of them.
use Rattle.std.proofs.Common.{◌≡◌, ℕ, ◌+◌, Bool, true, false, ◌&&◌, ◌||◌, not, filter, List, [], ◌∷◌, ◌++◌, refl, sym, ap, subst, ◌∙◌, arith, append_assoc, Option, Some, None, IsTrue}
use Rattle.std.specs.List.{All}
use Rattle.std.proofs.lemmas.Bool.Decides.{nat_tests}
use Rattle.std.proofs.lemmas.List.Elements.{All-nil, All-cons}
use Rattle.markdown_attention.proofs.AttentionTreeLabels.{IsGood}
use Rattle.markdown_attention.proofs.PairedContainersFlat.{flat-row, ready-row}
use Rattle.markdown_attention.proofs.MarkerCodes.{singles-content}
use Rattle.markdown_attention.proofs.ElementsHaveMarkerRuns.{good-tree}
use Rattle.markdown_content.specs.Codes.{Code, codes_of, document_start, is_at_or_after, place_of, stop_of}
use Rattle.markdown_content.specs.Content.{IsContent, content_of}
use Rattle.markdown_content.specs.Tree.{Forest, empty, leaf_then, group_then, leaf_codes, event_count, events_from, events_of}
use Rattle.markdown_event.specs.declared.event.Event.{Event}
use Rattle.markdown_event.specs.declared.event.Name.{Name}
use Rattle.markdown_event.specs.declared.event.Point.{Point}
use Rattle.markdown_content.specs.declared.parser.Piece.{Piece}
use Rattle.markdown_content.proofs.AdjacentCodes.{IsChain}
use Rattle.markdown_content.proofs.PlaceOrder.{before-asym, at_or_after-is}
use Rattle.markdown_content.proofs.DocumentPlaces.{chain-document}
use Rattle.markdown_model.specs.Elements.{elements_of, string_elements_of}
use Rattle.markdown_model.specs.GfmEmailLiteral.{with_emails}
use Rattle.markdown_model.specs.InlineTree.{label_tree, finished_string, text_tree, string_tree, text_events, string_events, paired_whole}
use Rattle.markdown_model.specs.LabelEnd.{Element}
use Rattle.markdown_model.specs.Pairs.{pair_list}
use Rattle.markdown_model.specs.Passes.{no_breaks, HardBreaks, breaks_where, breaks, data_onto, merged, begins_line_ending, is_nothing, trimmed_data, trimmed, with_emails_apart, labels_of}
use Rattle.markdown_model.specs.Setting.{Setting, rules}
use Rattle.markdown_model.proofs.PassesKeepCodes.{codes-trimmed_data}
use Rattle.markdown_model.proofs.LabelsCover.{codes-labels_of}
use Rattle.markdown_model.proofs.LiteralCodes.{codes-with_emails}
use Rattle.markdown_model.proofs.OneTree.{codes-finished_text, codes-finished_string, leaves_cover}
use Rattle.markdown_model_laws.specs.EventOrder.{NeverGoBack, EventsNeverGoBack}
use Rattle.markdown_model_laws.specs.TreesFilled.{IsFilled}
use Rattle.markdown_model_laws.proofs.EachPass.{unmailed, text-has}
use Rattle.markdown_model_laws.proofs.TreesFilledLaws.{trees_are_filled}
use Rattle.markdown_model_laws.proofs.MadeElements.{good-text, good-string}
use Rattle.markdown_model_laws.proofs.PairPlaces.{paired-allows}
use Rattle.markdown_model_laws.proofs.PlacesInOrder.{BytePlace, IsAtOrBehind, on-itself, on-trans, GoOn, last_of, Allows, allows-itself, allows-then, allows-join, allows-behind}
use Rattle.markdown_model_laws.proofs.TreePlaces.{ends_of, ends-join, ends-last, places_of, places-join, fit-labels}
use Rattle.markdown_innermost.proofs.LeafOrder.{EachCode, NotBefore, Later, content-later}
use Rattle.markdown_innermost.proofs.OneLineTrees.{AreLeaves, leaves-trimmed_data, leaves-with_emails}
use Rattle.markdown_model.proofs.PairListsWithin.{whole-pairs}

-- Rows of leaves.

leaves-places : (f : Forest) → AreLeaves f → places_of f ≡ ends_of (leaf_codes f)
leaves-places empty h = refl
leaves-places (leaf_then name link cs rest) h = grind (arith, leaves-places rest h.1, ends-join)
leaves-places (group_then name enter exit inside rest) h = absurd h

-- Merging.

onto-places : (cs : List Code) (f : Forest) → places_of (data_onto cs f) ≡ ends_of cs ++ places_of f
onto-places cs (leaf_then Name.Data None more rest) = grind (arith, ends-join, append_assoc)
onto-places cs rest = refl

merged-places : (f : Forest) → places_of (merged f) ≡ places_of f
unfolding merged
merged-places empty = refl
merged-places (leaf_then Name.Data None cs rest) = grind (arith, onto-places, merged-places rest)
merged-places (leaf_then name link cs rest) = ap (λ x. ends_of cs ++ x) (merged-places rest)
merged-places (group_then name enter exit inside rest) =
    λ i. place_of enter ∷ (merged-places inside i ++ (place_of exit ∷ merged-places rest i))

-- Trimming.

trimmed_data-places : (front back : Bool) (hard : HardBreaks) (cs : List Code) →
    places_of (trimmed_data front back hard cs) ≡ ends_of cs
trimmed_data-places front back hard cs = grind (arith, leaves-places, leaves-trimmed_data, codes-trimmed_data)

trimmed-places : (hard : HardBreaks) (front whole : Bool) (f : Forest) → places_of (trimmed hard front whole f) ≡ places_of f
unfolding trimmed
trimmed-places hard front whole empty = refl
trimmed-places hard front whole (leaf_then Name.Data None cs rest) =
    places-join (trimmed_data front (begins_line_ending rest || (whole && is_nothing rest)) (breaks_where hard (begins_line_ending rest)) cs) (trimmed hard false whole rest)
    ∙ (λ i. trimmed_data-places front (begins_line_ending rest || (whole && is_nothing rest)) (breaks_where hard (begins_line_ending rest)) cs i ++ trimmed-places hard false whole rest i)
trimmed-places hard front whole (leaf_then Name.LineEnding link cs rest) = grind (arith, trimmed-places hard true whole rest)
trimmed-places hard front whole (leaf_then name link cs rest) = grind (arith, trimmed-places hard false whole rest)
trimmed-places hard front whole (group_then name enter exit inside rest) =
    λ i. place_of enter ∷ (trimmed-places hard false false inside i ++ (place_of exit ∷ trimmed-places hard false whole rest i))

-- Emails.

emails-places : (cs : List Code) → places_of (with_emails cs) ≡ ends_of cs
emails-places cs = leaves-places (with_emails cs) (leaves-with_emails cs) ∙ ap ends_of (codes-with_emails cs)

mailed-places : (f : Forest) → places_of (with_emails_apart f) ≡ places_of f
unfolding with_emails_apart
mailed-places empty = refl
mailed-places (leaf_then Name.Data None cs rest) =
    places-join (with_emails cs) (with_emails_apart rest) ∙ (λ i. emails-places cs i ++ mailed-places rest i)
mailed-places (leaf_then name link cs rest) = ap (λ x. ends_of cs ++ x) (mailed-places rest)
mailed-places (group_then Name.Link enter exit inside rest) = grind (arith, mailed-places rest)
mailed-places (group_then name enter exit inside rest) =
    λ i. place_of enter ∷ (mailed-places inside i ++ (place_of exit ∷ mailed-places rest i))

-- Events.

abbrev event_places : List Event → List BytePlace
event_places [] = []
event_places (e ∷ es) = place_of e.point ∷ event_places es

event-join : (es fs : List Event) → event_places (es ++ fs) ≡ event_places es ++ event_places fs
event-join [] fs = refl
event-join (e ∷ es) fs = ap (λ x. place_of e.point ∷ x) (event-join es fs)

-- a row goes on to its last place
on-last : (p : BytePlace) (xs : List BytePlace) (high : BytePlace) → GoOn p xs high →
    IsAtOrBehind p (last_of p xs) × IsAtOrBehind (last_of p xs) high
on-last p [] high h = (on-itself p, h)
on-last p (x ∷ xs) high h = let r = on-last x xs high h.1 in (on-trans p x (last_of x xs) h.0 r.0, r.1)

leaf-allows : (c : Code) (cs : List Code) →
    Allows (ends_of (c ∷ cs)) (place_of c.start ∷ place_of (stop_of c.stop cs) ∷ [])
leaf-allows c cs low high h =
    let r = on-last (place_of c.stop) (ends_of cs) high h.1.1 in
    subst (λ x. GoOn low (place_of c.start ∷ x ∷ []) high) (ends-last c.stop cs) (h.0, (on-trans (place_of c.start) (place_of c.stop) (last_of (place_of c.stop) (ends_of cs)) h.1.0 r.0, r.1))

events-allow : (n : ℕ) (previous : Option ℕ) (f : Forest) → IsFilled f →
    Allows (places_of f) (event_places (events_from n previous f))
events-allow n previous empty h = allows-itself []
events-allow n previous (leaf_then name link [] rest) h = absurd (let no : true ≡ false = h.0 in cc)
events-allow n previous (leaf_then name None (c ∷ cs) rest) h =
    allows-join (ends_of (c ∷ cs)) (place_of c.start ∷ place_of (stop_of c.stop cs) ∷ []) (places_of rest) (event_places (events_from (n + 2) previous rest)) (leaf-allows c cs) (events-allow (n + 2) previous rest h.1)
events-allow n previous (leaf_then name (Some content) (c ∷ cs) rest) h =
    allows-join (ends_of (c ∷ cs)) (place_of c.start ∷ place_of (stop_of c.stop cs) ∷ []) (places_of rest) (event_places (events_from (n + 2) (Some n) rest)) (leaf-allows c cs) (events-allow (n + 2) (Some n) rest h.1)
events-allow n previous (group_then name enter exit inside rest) h = grind (arith, allows-behind, event-join, allows-join, events-allow (n + 1) None inside h.1, events-allow (n + 2 + event_count inside) previous rest h.2)

abbrev StandsOn : BytePlace → Event → Type 0
StandsOn p f = IsTrue (is_at_or_after p (place_of f.point))

stands-on : (p q : BytePlace) → IsAtOrBehind p q → IsTrue (is_at_or_after p q)
stands-on p q h = at_or_after-is p q ∙ ap not h

all-on : (p q : BytePlace) (es : List Event) (high : BytePlace) → IsAtOrBehind p q → GoOn q (event_places es) high → All (StandsOn p) es
all-on p q [] high h k = All-nil (StandsOn p)
all-on p q (e ∷ es) high h k =
    let here : IsAtOrBehind p (place_of e.point) = on-trans p q (place_of e.point) h k.0 in
    All-cons (StandsOn p) e es (stands-on p (place_of e.point) here) (all-on p (place_of e.point) es high here k.1)

never-back : (p : BytePlace) (es : List Event) (high : BytePlace) → GoOn p (event_places es) high → NeverGoBack es
never-back p [] high h = tt
never-back p (e ∷ es) high h =
    (all-on (place_of e.point) (place_of e.point) es high (on-itself (place_of e.point)) h.1, never-back (place_of e.point) es high h.1)

-- The codes of a content.

abbrev IsForward : Code → Type 0
IsForward c = IsAtOrBehind (place_of c.start) (place_of c.stop)

chain-forward : (p : Point) (cs : List Code) → IsChain p cs → EachCode IsForward cs
chain-forward p [] h = tt
chain-forward p (c ∷ cs) h = grind (arith, before-asym, chain-forward c.stop cs h.2)

forward-join : (xs ys : List Code) → EachCode IsForward xs → EachCode IsForward ys → EachCode IsForward (xs ++ ys)
forward-join [] ys h k = k
forward-join (c ∷ xs) ys h k = (h.0, forward-join xs ys h.1 k)

forward-filter : (p : Code → Bool) (cs : List Code) → EachCode IsForward cs → EachCode IsForward (filter p cs)
forward-filter p [] h = tt
forward-filter p (c ∷ cs) h = grind (arith, forward-filter p cs h.1)

forward-pieces : (bytes : List ℕ) (pieces : List Piece) → EachCode IsForward (codes_of bytes) →
    EachCode IsForward (content_of bytes pieces)
forward-pieces bytes [] h = tt
forward-pieces bytes (piece ∷ more) h = grind (arith, forward-join, forward-filter, forward-pieces bytes more h)

codes-on : (p : BytePlace) (cs : List Code) → EachCode (NotBefore p) cs → Later cs → EachCode IsForward cs →
    GoOn p (ends_of cs) (last_of p (ends_of cs))
codes-on p [] h k f = on-itself p
codes-on p (c ∷ cs) h k f = (h.0, (f.0, codes-on (place_of c.stop) cs k.0 k.1 f.1))

from-start : (cs : List Code) → EachCode (NotBefore (place_of document_start)) cs
from-start [] = tt
from-start (c ∷ cs) = grind (arith, from-start cs, nat_tests)

module _ (s : Setting) (pieces : List Piece) (content : IsContent s.bytes pieces) where
  abbrev all : List Code
  all = content_of s.bytes pieces

  abbrev first : BytePlace
  first = place_of document_start

  content-on : GoOn first (ends_of all) (last_of first (ends_of all))
  content-on =
      codes-on first all (from-start all) (content-later s.bytes pieces content.in_order)
      (forward-pieces s.bytes pieces (chain-forward document_start (codes_of s.bytes) (chain-document s.bytes)))

  -- of a tree whose places go on where the codes do
  tree-back : (f : Forest) → IsFilled f → Allows (ends_of all) (places_of f) → NeverGoBack (events_of f)
  tree-back f h k =
      never-back first (events_of f) (last_of first (ends_of all)) (events-allow 0 None f h first (last_of first (ends_of all)) (k first (last_of first (ends_of all)) content-on))

  -- Texts.

  abbrev read_elements : List Element
  read_elements = elements_of s all

  abbrev label_row : Forest
  label_row = labels_of read_elements

  codes-labels : leaf_codes label_row ≡ all
  unfolding text_tree
  codes-labels = codes-labels_of read_elements ∙ sym (codes-finished_text s (pair_list s) read_elements) ∙ (leaves_cover s all).0

  good : IsGood s.bytes label_row
  unfolding label_tree
  good = good-tree s.bytes s all (singles-content s.bytes pieces content.in_order)

  abbrev paired_row : Forest
  paired_row = paired_whole s (pair_list s) label_row

  pairs-allow : Allows (ends_of all) (places_of paired_row)
  pairs-allow = grind (arith, good, codes-labels, allows-then, fit-labels, good-text, whole-pairs, paired-allows, flat-row, ready-row)

  trimmed-same : places_of (unmailed s all) ≡ places_of paired_row
  trimmed-same = trimmed-places (breaks s) true true (merged paired_row) ∙ merged-places paired_row

  text-same : places_of (text_tree s all) ≡ places_of paired_row
  text-same =
      text-has (λ t. places_of t ≡ places_of paired_row) s all (mailed-places (unmailed s all) ∙ trimmed-same) trimmed-same

  text-back : NeverGoBack (text_events s pieces)
  text-back = tree-back (text_tree s all) (trees_are_filled s all).0 (subst (Allows (ends_of all)) (sym text-same) pairs-allow)

  -- Strings.

  abbrev plain_row : Forest
  plain_row = labels_of (string_elements_of s all)

  codes-plain : leaf_codes plain_row ≡ all
  unfolding string_tree
  codes-plain =
      codes-labels_of (string_elements_of s all) ∙ sym (codes-finished_string (rules s) (string_elements_of s all)) ∙ (leaves_cover s all).1

  string-same : places_of (string_tree s all) ≡ places_of plain_row
  unfolding string_tree finished_string
  string-same = trimmed-places (no_breaks (rules s)) false false (merged plain_row) ∙ merged-places plain_row

  string-back : NeverGoBack (string_events s pieces)
  string-back =
      tree-back (string_tree s all) (trees_are_filled s all).1
      (subst (Allows (ends_of all)) (sym string-same) (subst (λ xs. Allows (ends_of xs) (places_of plain_row)) codes-plain (fit-labels (string_elements_of s all) (good-string s all))))

pub events_never_go_back : EventsNeverGoBack
events_never_go_back s pieces content = (text-back s pieces content, string-back s pieces content)
