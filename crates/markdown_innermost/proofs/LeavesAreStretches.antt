-- The leaves of the inline tree of each content are stretches of the document.
use Rattle.std.proofs.Common.{◌≡◌, Bool, true, false, List, map, refl, sym, subst, ◌∙◌, inl}
use Rattle.std.specs.List.{All}
use Rattle.markdown_attention.specs.AttentionTrees.{HasStripes}
use Rattle.markdown_attention.specs.TokenWord.{IsUnlinkedRow}
use Rattle.markdown_attention.proofs.AttentionTreeLabels.{IsGood}
use Rattle.markdown_attention.proofs.PairedContainersFlat.{flat-row, ready-row}
use Rattle.markdown_attention.proofs.MarkerCodes.{singles-content}
use Rattle.markdown_attention.proofs.ElementsHaveMarkerRuns.{good-tree}
use Rattle.markdown_content.specs.Codes.{Code}
use Rattle.markdown_content.specs.Content.{IsContent, content_of}
use Rattle.markdown_content.specs.Tree.{Forest, leaf_codes}
use Rattle.markdown_event.specs.declared.event.Event.{Event}
use Rattle.markdown_event.specs.declared.event.Point.{Point}
use Rattle.markdown_content.specs.declared.parser.Piece.{Piece}
use Rattle.markdown_innermost.specs.InnermostEvents.{HasLeaves, IsSpanInOrder, covered, innermost, lent}
use Rattle.markdown_innermost.proofs.InnermostEventsLaws.{innermost-leaves, leaves-in-order, lent-covers}
use Rattle.markdown_model.specs.Elements.{elements_of, string_elements_of}
use Rattle.markdown_model.specs.BracketGroups.{paired}
use Rattle.markdown_model.specs.InlineTree.{label_tree, raw_tree, finished_text, finished_string, text_tree, string_tree, text_events, string_events, paired_whole}
use Rattle.markdown_model.specs.LabelEnd.{Element}
use Rattle.markdown_model.specs.Pairs.{pair_list}
use Rattle.markdown_model.specs.Passes.{no_breaks, breaks, labels_of, merged, trimmed, with_emails_apart}
use Rattle.markdown_model.specs.Setting.{Setting, rules, within}
use Rattle.markdown_model.proofs.PassesKeepCodes.{codes-paired}
use Rattle.markdown_model.proofs.OneElementList.{text_elements, string_elements}
use Rattle.markdown_model.proofs.LabelsCover.{codes-labels_of}
use Rattle.markdown_model.proofs.OneTree.{codes-finished_text, codes-finished_string, leaves_cover}
use Rattle.markdown_innermost.specs.LeafLaws.{LeavesAreStretches, EventsGiveContent, FollowOn, filled}
use Rattle.markdown_innermost.proofs.LeafOrder.{StandsStill, leaves-follow, leaves-still}
use Rattle.markdown_innermost.specs.OneLineLeaves.{IsLined, AtStart, HoldsOrIsBetween, IsApartTree}
use Rattle.markdown_innermost.proofs.OneLineElements.{text-lined, string-lined}
use Rattle.markdown_innermost.proofs.OneLineLabels.{apart-labels}
use Rattle.markdown_innermost.proofs.OneLineLeafLemmas.{lined-leaves-of}
use Rattle.markdown_innermost.proofs.OneLinePairs.{apart-paired}
use Rattle.markdown_innermost.proofs.OneLineTrees.{lined-weaker, lined-merged, lined-trimmed, lined-mailed}
use Rattle.markdown_innermost.proofs.LineEndingsAreSpace.{spaced-content}
use Rattle.markdown_model.proofs.PairListsWithin.{whole-pairs}

-- a tree that is apart, by the codes that it covers
stands-in : (B : Point → Point → Type 0) (t : Forest) (cs : List Code) → leaf_codes t ≡ cs → IsApartTree B t →
    IsLined (HoldsOrIsBetween B cs) t
stands-in B t cs e h = subst (λ xs. IsLined (HoldsOrIsBetween B xs) t) e h

module _ (s : Setting) (pieces : List Piece) (content : IsContent s.bytes pieces) where
  abbrev all : List Code
  all = content_of s.bytes pieces

  abbrev E : Point → Point → Type 0
  E = HoldsOrIsBetween (HoldsOrIsBetween AtStart all) all

  -- Texts.

  abbrev read_elements : List Element
  read_elements = elements_of s all

  abbrev label_row : Forest
  label_row = labels_of read_elements

  codes-labels : leaf_codes label_row ≡ all
  unfolding text_tree
  codes-labels = codes-labels_of read_elements ∙ sym (codes-finished_text s (pair_list s) read_elements) ∙ (leaves_cover s all).0

  lined-labels : IsLined (HoldsOrIsBetween AtStart all) label_row
  lined-labels =
      stands-in AtStart label_row all codes-labels (apart-labels read_elements (text-lined s all read_elements (spaced-content s.bytes pieces content.is_text) (text_elements s all)))

  good : IsGood s.bytes label_row
  unfolding label_tree
  good = good-tree s.bytes s all (singles-content s.bytes pieces content.in_order)

  abbrev paired_row : Forest
  paired_row = paired_whole s (pair_list s) label_row

  -- the setting in which they are paired
  abbrev there : Setting
  there = within (leaf_codes label_row) s

  lined-pairs : IsLined E paired_row
  lined-pairs =
      let stripes : HasStripes label_row = good.1.0 in
      let unlinked : IsUnlinkedRow label_row = good.1.1.0 in
      stands-in (HoldsOrIsBetween AtStart all) paired_row all (codes-paired there (pair_list s) label_row ∙ codes-labels)
      (subst (λ t. IsApartTree (HoldsOrIsBetween AtStart all) t) (sym (whole-pairs s label_row))
      (apart-paired (HoldsOrIsBetween AtStart all) there (pair_list there) label_row (flat-row there label_row stripes (λ _. unlinked))
      (ready-row there label_row stripes) lined-labels))

  abbrev trimmed_row : Forest
  trimmed_row = trimmed (breaks s) true true (merged paired_row)

  lined-text-trimmed : IsLined E trimmed_row
  lined-text-trimmed =
      lined-trimmed E (breaks s) true true (merged paired_row) (lined-merged E paired_row lined-pairs)

  lined-text : IsLined E (text_tree s all)
  unfolding text_tree finished_text raw_tree
  lined-text = by_test s.options.constructs.gfm_autolink_literal
    where
      by_test : (b : Bool) → IsLined E (elim b as (λ _. Forest) [ true ↦ with_emails_apart trimmed_row | false ↦ trimmed_row ])
      by_test true = lined-mailed E trimmed_row lined-text-trimmed
      by_test false = lined-text-trimmed

  pub text-leaves : HasLeaves s.bytes (text_tree s all)
  text-leaves = lined-leaves-of s.bytes pieces content.in_order (text_tree s all) (leaves_cover s all).0 lined-text

  -- Strings.

  abbrev plain_elements : List Element
  plain_elements = string_elements_of s all

  codes-row : leaf_codes (labels_of plain_elements) ≡ all
  unfolding string_tree
  codes-row = codes-labels_of plain_elements ∙ sym (codes-finished_string (rules s) plain_elements) ∙ (leaves_cover s all).1

  lined-row-of : IsLined E (labels_of plain_elements)
  lined-row-of =
      lined-weaker (HoldsOrIsBetween AtStart all) E (λ a b h. inl h) (labels_of plain_elements)
      (stands-in AtStart (labels_of plain_elements) all codes-row (apart-labels plain_elements (string-lined s all plain_elements (spaced-content s.bytes pieces content.is_text) (string_elements s all))))

  lined-string : IsLined E (string_tree s all)
  unfolding string_tree finished_string
  lined-string =
      lined-trimmed E (no_breaks (rules s)) false false (merged (labels_of plain_elements)) (lined-merged E (labels_of plain_elements) lined-row-of)

  pub string-leaves : HasLeaves s.bytes (string_tree s all)
  string-leaves =
      lined-leaves-of s.bytes pieces content.in_order (string_tree s all) (leaves_cover s all).1 lined-string

pub leaves-are-stretches : LeavesAreStretches
leaves-are-stretches s pieces content = (text-leaves s pieces content, string-leaves s pieces content)

-- Events.

pub text-in-order : (s : Setting) (pieces : List Piece) (es : List Event) → IsContent s.bytes pieces →
    es ≡ text_events s pieces → All (IsSpanInOrder s.bytes) (innermost es)
text-in-order s pieces es content e =
    leaves-in-order s.bytes (text_tree s (content_of s.bytes pieces)) es (text-leaves s pieces content) e

pub text-covers : (s : Setting) (pieces : List Piece) (es : List Event) → IsContent s.bytes pieces →
    es ≡ text_events s pieces → covered s.bytes (map (lent s.bytes) (innermost es)) ≡ content_of s.bytes pieces
text-covers s pieces es content e =
    lent-covers s.bytes (text_tree s (content_of s.bytes pieces)) es (text-leaves s pieces content) e ∙ (leaves_cover s (content_of s.bytes pieces)).0

pub string-in-order : (s : Setting) (pieces : List Piece) (es : List Event) → IsContent s.bytes pieces →
    es ≡ string_events s pieces → All (IsSpanInOrder s.bytes) (innermost es)
string-in-order s pieces es content e =
    leaves-in-order s.bytes (string_tree s (content_of s.bytes pieces)) es (string-leaves s pieces content) e

pub string-covers : (s : Setting) (pieces : List Piece) (es : List Event) → IsContent s.bytes pieces →
    es ≡ string_events s pieces → covered s.bytes (map (lent s.bytes) (innermost es)) ≡ content_of s.bytes pieces
string-covers s pieces es content e =
    lent-covers s.bytes (string_tree s (content_of s.bytes pieces)) es (string-leaves s pieces content) e ∙ (leaves_cover s (content_of s.bytes pieces)).1

-- what is said of the leaves of a tree is said of the innermost of its events
text-order : (s : Setting) (pieces : List Piece) → IsContent s.bytes pieces →
    FollowOn (filled s.bytes (innermost (text_events s pieces)))
text-order s pieces content =
    let t : Forest = text_tree s (content_of s.bytes pieces) in
    subst (λ ss. FollowOn (filled s.bytes ss)) (sym (innermost-leaves t)) (leaves-follow s.bytes pieces content.in_order t (text-leaves s pieces content) (leaves_cover s (content_of s.bytes pieces)).0)

text-still : (s : Setting) (pieces : List Piece) → IsContent s.bytes pieces →
    All (StandsStill s.bytes) (innermost (text_events s pieces))
text-still s pieces content =
    let t : Forest = text_tree s (content_of s.bytes pieces) in
    subst (All (StandsStill s.bytes)) (sym (innermost-leaves t)) (leaves-still s.bytes pieces content.in_order t (text-leaves s pieces content) (leaves_cover s (content_of s.bytes pieces)).0)

string-order : (s : Setting) (pieces : List Piece) → IsContent s.bytes pieces →
    FollowOn (filled s.bytes (innermost (string_events s pieces)))
string-order s pieces content =
    let t : Forest = string_tree s (content_of s.bytes pieces) in
    subst (λ ss. FollowOn (filled s.bytes ss)) (sym (innermost-leaves t)) (leaves-follow s.bytes pieces content.in_order t (string-leaves s pieces content) (leaves_cover s (content_of s.bytes pieces)).1)

string-still : (s : Setting) (pieces : List Piece) → IsContent s.bytes pieces →
    All (StandsStill s.bytes) (innermost (string_events s pieces))
string-still s pieces content =
    let t : Forest = string_tree s (content_of s.bytes pieces) in
    subst (All (StandsStill s.bytes)) (sym (innermost-leaves t)) (leaves-still s.bytes pieces content.in_order t (string-leaves s pieces content) (leaves_cover s (content_of s.bytes pieces)).1)

pub events-give-content : EventsGiveContent
events-give-content s pieces content = (
  record { places = text-in-order s pieces (text_events s pieces) content refl; order = text-order s pieces content; empty = text-still s pieces content; leaves = text-covers s pieces (text_events s pieces) content refl },
  record { places = string-in-order s pieces (string_events s pieces) content refl; order = string-order s pieces content; empty = string-still s pieces content; leaves = string-covers s pieces (string_events s pieces) content refl },
)
