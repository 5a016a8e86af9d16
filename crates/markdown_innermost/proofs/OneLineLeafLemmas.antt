-- The leaves of a tree on lines over a content are stretches of the document.
use Rattle.std.proofs.Common.{◌≡◌, ◌≢◌, ℕ, true, List, [], ◌∷◌, ◌++◌, inl, inr, refl, sym, ap, subst, ◌∙◌, append_assoc, append-nil}
use Rattle.markdown_content.specs.Codes.{Code, codes_of, document_start, stop_of}
use Rattle.markdown_content.specs.Content.{content_of, are_pieces}
use Rattle.markdown_content.specs.Tree.{Forest, empty, leaf_then, group_then, leaf_codes}
use Rattle.markdown_content.specs.DocumentWalk.{IsPoint}
use Rattle.markdown_event.specs.declared.event.Point.{Point}
use Rattle.markdown_content.specs.declared.parser.Piece.{Piece}
use Rattle.markdown_content.proofs.AdjacentCodes.{first-start}
use Rattle.markdown_content.proofs.DocumentPlaces.{chain-split, point-split, point_start}
use Rattle.markdown_engine.proofs.SolidTrees.{stop_of-append, stop_of-some}
use Rattle.markdown_innermost.specs.InnermostEvents.{HasLeaves}
use Rattle.markdown_passes.specs.TrimmedEvents.{AreDocumentCodes}
use Rattle.markdown_model.specs.CodeLines.{IsOnLine}
use Rattle.markdown_innermost.specs.OneLineLeaves.{IsLined, AtStart, StandsBetween, HoldsOrIsBetween}
use Rattle.markdown_innermost.proofs.OneLineTrees.{on-some}
use Rattle.markdown_innermost.proofs.LinesAreInDocument.{both-in, on-line-ends, next-ends, part-of-content}

joins-some : (xs : List Code) (c : Code) → xs ++ c ∷ [] ≢ []
joins-some [] c e = cc
joins-some (x ∷ xs) c e = cc

-- a place, and the same place
abbrev IsSamePlace : List ℕ → Point → Point → Type 0
IsSamePlace bytes a b = IsPoint bytes a × (a ≡ b)

start-same : (bytes : List ℕ) (a b : Point) → AtStart a b → IsSamePlace bytes a b
start-same bytes a b h = (subst (λ (p : Point). IsPoint bytes p) (sym h.0) (point_start bytes), h.0 ∙ sym h.1)

part-same : (bytes : List ℕ) (front : List Code) (c : Code) → front ≢ [] → AreDocumentCodes bytes (front ++ c ∷ []) →
    IsSamePlace bytes (stop_of document_start front) c.start
part-same bytes front c some h =
    let before : List Code = h.before ++ front in
    let whole : codes_of bytes ≡ before ++ c ∷ h.after = h.whole ∙ ap (λ x. h.before ++ x) (append_assoc front (c ∷ []) h.after) ∙ sym (append_assoc h.before front (c ∷ h.after)) in
    let stop : stop_of document_start before ≡ stop_of document_start front = stop_of-append document_start h.before front ∙ stop_of-some (stop_of document_start h.before) document_start front some in
    let here : IsPoint bytes (stop_of document_start before) = record { here = point-split bytes before (c ∷ h.after) whole } in
    (subst (λ (p : Point). IsPoint bytes p) stop here, sym stop ∙ sym (first-start document_start before c h.after (chain-split bytes before (c ∷ h.after) whole)))

module _ (bytes : List ℕ) (pieces : List Piece) (order : are_pieces bytes pieces ≡ true) where
  abbrev all : List Code
  all = content_of bytes pieces

  between-same : (a b : Point) → StandsBetween all a b → IsSamePlace bytes a b
  between-same a b h =
      let part : AreDocumentCodes bytes (h.front ++ h.next ∷ []) = part-of-content bytes pieces (h.front ++ h.next ∷ []) order (joins-some h.front h.next) (next-ends h.front h.next h.line.1) h.stands in
      let same = part-same bytes h.front h.next h.line.0 part in
      (subst (λ (p : Point). IsPoint bytes p) (sym h.from) same.0, h.from ∙ same.1 ∙ sym h.to)

  abbrev E : Point → Point → Type 0
  E = HoldsOrIsBetween (HoldsOrIsBetween AtStart all) all

  stands-same : (a b : Point) → E a b → IsSamePlace bytes a b
  stands-same a b (inl (inl h)) = start-same bytes a b h
  stands-same a b (inl (inr h)) = between-same a b h
  stands-same a b (inr h) = between-same a b h

  leaf-part : (cs before after : List Code) → all ≡ before ++ (cs ++ after) → IsOnLine cs → AreDocumentCodes bytes cs
  leaf-part cs before after e h =
      part-of-content bytes pieces cs order (on-some cs h) (on-line-ends cs h) (before, after, e)

  leaves-row : (t : Forest) (before after : List Code) → all ≡ before ++ (leaf_codes t ++ after) → IsLined E t →
      HasLeaves bytes t
  leaves-row empty before after e h = tt
  leaves-row (leaf_then name link cs rest) before after e h =
      let p = both-in all cs (leaf_codes rest) before after e in
      (leaf-part cs before (leaf_codes rest ++ after) p.0 h.0.0, leaves-row rest (before ++ cs) after p.1 h.1)
  leaves-row (group_then name a b empty rest) before after e h =
      (stands-same a b (h.0 refl), leaves-row rest before after e h.1.1)
  leaves-row (group_then name a b (leaf_then m l cs more) rest) before after e h =
      let p = both-in all (leaf_codes (leaf_then m l cs more)) (leaf_codes rest) before after e in
      (leaves-row (leaf_then m l cs more) before (leaf_codes rest ++ after) p.0 h.1.0, leaves-row rest (before ++ leaf_codes (leaf_then m l cs more)) after p.1 h.1.1)
  leaves-row (group_then name a b (group_then m c d inner more) rest) before after e h =
      let p = both-in all (leaf_codes (group_then m c d inner more)) (leaf_codes rest) before after e in
      (leaves-row (group_then m c d inner more) before (leaf_codes rest ++ after) p.0 h.1.0, leaves-row rest (before ++ leaf_codes (group_then m c d inner more)) after p.1 h.1.1)

  pub lined-leaves-of : (t : Forest) → leaf_codes t ≡ all → IsLined E t → HasLeaves bytes t
  lined-leaves-of t e h = leaves-row t [] [] (sym e ∙ sym (append-nil (leaf_codes t))) h
