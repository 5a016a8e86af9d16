-- What is lent for the value of a reference is decodable.
use Rattle.std.proofs.Common.{◌≡◌, ◌≢◌, ℕ, true, List, [], ◌∷◌, ◌++◌, map, refl, sym, ap, subst, inl, inr, append_assoc, append-nil, arith}
use Rattle.std.proofs.lemmas.Bool.{both_ways}
use Rattle.markdown_content.specs.Codes.{Code, document_start, stop_of}
use Rattle.markdown_content.specs.Content.{content_of}
use Rattle.markdown_content.specs.Slices.{position_bytes}
use Rattle.markdown_content.specs.Tree.{Forest, empty, leaf_then, group_then, events_of, start_of}
use Rattle.markdown_event.specs.declared.event.Name.{Name}
use Rattle.markdown_event.specs.declared.event.Name.TheVariants as N
use Rattle.markdown_event.specs.declared.event.Point.{Point}
use Rattle.markdown_util.specs.Reference.{IsReferenceMarker, IsNumber, radix_of}
use Rattle.markdown_util.proofs.WholeReference.{number_from_value}
use Rattle.markdown_model.specs.CodeTests.{values_of}
use Rattle.markdown_model.specs.InlineTree.{text_tree, string_tree}
use Rattle.markdown_passes.specs.TrimmedEvents.{AreDocumentCodes}
use Rattle.markdown_innermost.specs.InnermostEvents.{HasLeaves, Span, lent, leaves_of}
use Rattle.markdown_innermost.proofs.InnermostEventsLaws.{lent-leaves}
use Rattle.markdown_innermost.proofs.LeavesAreStretches.{leaves-are-stretches}
use Rattle.markdown_model_laws.proofs.ReferenceTrees.{is_free, named_row, decimal_row, hexadecimal_row, IsDecimalTree, IsHexadecimalTree, IsReference, HasReferences}
use Rattle.markdown_model_laws.specs.DecodableValues.{IsDecodable, HaveValues, EventsHaveValues, ValuesAreDecodable}
use Rattle.markdown_model_laws.proofs.ReferenceBytes.{AreLetters, named-letters, decimal-letters, hexadecimal-letters, lent-letters, letters-text, decimal-value, hexadecimal-value}
use Rattle.markdown_model_laws.proofs.ReferencePasses.{references-known}

module _ (bytes : List ℕ) where
  abbrev lent_of : List Code → List ℕ
  lent_of cs = position_bytes bytes (start_of cs) (stop_of document_start cs)

  spelled : (cs : List Code) → AreDocumentCodes bytes cs → AreLetters cs → lent_of cs ≡ values_of cs
  spelled cs part h = lent-letters bytes cs part.before part.after part.whole h

  -- what stands for a marker, and behind another than `&` for a number
  fits : (marker : ℕ) (cs : List Code) → AreDocumentCodes bytes cs → AreLetters cs → IsReferenceMarker marker
      → (marker ≢ 38 → IsNumber (radix_of marker) (values_of cs)) → IsDecodable marker (lent_of cs)
  fits marker cs part h known number = grind (arith, spelled, letters-text)

  named-fits : (cs : List Code) → AreDocumentCodes bytes cs → AreLetters cs → IsDecodable 38 (lent_of cs)
  named-fits cs part h = fits 38 cs part h (inl refl) (λ off. absurd (off refl))

  decimal-fits : (t : Forest) (h : IsDecimalTree t) → AreDocumentCodes bytes h.value → IsDecodable 35 (lent_of h.value)
  decimal-fits t h part =
      fits 35 h.value part (decimal-letters h.value h.digits) (inr (inl refl))
      (number_from_value 35 (values_of h.value) (inr (inl refl)) (decimal-value h.value h.some h.few h.digits))

  hexadecimal-fits : (t : Forest) (h : IsHexadecimalTree t) → AreDocumentCodes bytes h.value → IsDecodable 120 (lent_of h.value)
  hexadecimal-fits t h part =
      fits 120 h.value part (hexadecimal-letters h.value h.digits) (inr (inr refl))
      (number_from_value 120 (values_of h.value) (inr (inr refl)) (hexadecimal-value h.value h.some h.few h.digits))

  -- Spans.

  abbrev Good : List Span → Type 0
  Good ss = (before : Name) → HaveValues before (map (lent bytes) ss)

  free-value : (name : Name) → is_free name ≡ true → name ≡ N.CharacterReferenceValue → ⊥
  free-value name h e = both_ways (is_free name) (ap is_free e) h

  good-free : (s : Span) (ss : List Span) → is_free s.name ≡ true → Good ss → Good (s ∷ ss)
  unfolding lent
  good-free s ss h g = λ before. ((λ e. absurd (free-value s.name h e)), g s.name)

  abbrev KeepsGood : Forest → Type 0
  KeepsGood t = HasReferences t → HasLeaves bytes t → (ss : List Span) → Good ss → Good (leaves_of t ++ ss)

  group-goes : (inside rest : Forest) → KeepsGood inside → KeepsGood rest → HasReferences inside → HasReferences rest →
      HasLeaves bytes inside → HasLeaves bytes rest → (ss : List Span) → Good ss →
      Good ((leaves_of inside ++ leaves_of rest) ++ ss)
  group-goes inside rest in_goes rest_goes h k l m ss g = grind (arith, append_assoc)

  named-goes : (a b : Point) (front value back : List Code) (rest : Forest) (ss : List Span) → AreLetters value →
      HasLeaves bytes (group_then N.CharacterReference a b (named_row front value back) rest) → Good (leaves_of rest ++ ss) →
      Good (leaves_of (group_then N.CharacterReference a b (named_row front value back) rest) ++ ss)
  unfolding lent
  named-goes a b front value back rest ss h l g = grind (arith, named-fits value l.0.1.0 h)

  decimal-goes : (a b : Point) (t : Forest) (h : IsDecimalTree t) (rest : Forest) (ss : List Span) →
      HasLeaves bytes (group_then N.CharacterReference a b (decimal_row h.front h.number h.value h.back) rest) → Good (leaves_of rest ++ ss) →
      Good (leaves_of (group_then N.CharacterReference a b (decimal_row h.front h.number h.value h.back) rest) ++ ss)
  unfolding lent
  decimal-goes a b t h rest ss l g = grind (arith, decimal-fits t h l.0.1.1.0)

  hexadecimal-goes : (a b : Point) (t : Forest) (h : IsHexadecimalTree t) (rest : Forest) (ss : List Span) →
      HasLeaves bytes (group_then N.CharacterReference a b (hexadecimal_row h.front h.number h.x h.value h.back) rest) → Good (leaves_of rest ++ ss) →
      Good (leaves_of (group_then N.CharacterReference a b (hexadecimal_row h.front h.number h.x h.value h.back) rest) ++ ss)
  unfolding lent
  hexadecimal-goes a b t h rest ss l g = grind (arith, hexadecimal-fits t h l.0.1.1.1.0)

  abbrev reference_group : Point → Point → Forest → Forest → Forest
  reference_group a b rest inside = group_then N.CharacterReference a b inside rest

  rest-leaves : (a b : Point) (inside rest : Forest) → HasLeaves bytes (reference_group a b rest inside) → HasLeaves bytes rest
  rest-leaves a b empty rest l = l.1
  rest-leaves a b inside rest l = l.1

  reference-goes : (a b : Point) (inside rest : Forest) → KeepsGood rest → IsReference inside → HasReferences rest →
      HasLeaves bytes (reference_group a b rest inside) → (ss : List Span) → Good ss → Good (leaves_of (reference_group a b rest inside) ++ ss)
  reference-goes a b inside rest more (inl h) k l ss g =
      subst (λ x. Good (leaves_of (reference_group a b rest x) ++ ss)) (sym h.row)
      (named-goes a b h.front h.value h.back rest ss (named-letters h.value h.letters) (subst (λ x. HasLeaves bytes (reference_group a b rest x)) h.row l) (more k (rest-leaves a b inside rest l) ss g))
  reference-goes a b inside rest more (inr (inl h)) k l ss g =
      subst (λ x. Good (leaves_of (reference_group a b rest x) ++ ss)) (sym h.row)
      (decimal-goes a b inside h rest ss (subst (λ x. HasLeaves bytes (reference_group a b rest x)) h.row l) (more k (rest-leaves a b inside rest l) ss g))
  reference-goes a b inside rest more (inr (inr h)) k l ss g =
      subst (λ x. Good (leaves_of (reference_group a b rest x) ++ ss)) (sym h.row)
      (hexadecimal-goes a b inside h rest ss (subst (λ x. HasLeaves bytes (reference_group a b rest x)) h.row l) (more k (rest-leaves a b inside rest l) ss g))

  goes : (t : Forest) → KeepsGood t
  goes empty h l ss g = g
  goes (leaf_then name link cs rest) h l ss g =
      good-free (record { name = name; start = start_of cs; end = stop_of document_start cs }) (leaves_of rest ++ ss) h.0 (goes rest h.1 l.1 ss g)
  goes (group_then N.CharacterReference a b inside rest) h l ss g = reference-goes a b inside rest (goes rest) h.0 h.1 l ss g
  goes (group_then name a b empty rest) h l ss g =
      good-free (record { name = name; start = a; end = b }) (leaves_of rest ++ ss) h.0 (goes rest h.1.1 l.1 ss g)
  goes (group_then name a b (leaf_then m k cs more) rest) h l ss g =
      group-goes (leaf_then m k cs more) rest (goes (leaf_then m k cs more)) (goes rest) h.1.0 h.1.1 l.0 l.1 ss g
  goes (group_then name a b (group_then m c d inner more) rest) h l ss g =
      group-goes (group_then m c d inner more) rest (goes (group_then m c d inner more)) (goes rest) h.1.0 h.1.1 l.0 l.1 ss g

  none-good : Good []
  none-good = λ before. tt

  tree-values : (t : Forest) → HasReferences t → HasLeaves bytes t → EventsHaveValues bytes (events_of t)
  tree-values t h l before =
      subst (HaveValues before) (sym (lent-leaves bytes t (events_of t) refl)) (subst Good (append-nil (leaves_of t)) (goes t h l [] none-good) before)

pub values-are-decodable : ValuesAreDecodable
values-are-decodable s pieces content =
    let known = references-known s (content_of s.bytes pieces) in
    let leaves = leaves-are-stretches s pieces content in
    (tree-values s.bytes (text_tree s (content_of s.bytes pieces)) known.0 leaves.0, tree-values s.bytes (string_tree s (content_of s.bytes pieces)) known.1 leaves.1)
