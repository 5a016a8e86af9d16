-- The text of a full reference stands between characters.
use Rattle.std.proofs.Common.{◌≡◌, ℕ, ◌+◌, ◌-◌, ◌≤◌, None, List, [], ◌∷◌, ◌++◌, length, sym, ap, subst, ◌∙◌, arith, length-append, append_assoc}
use Rattle.std.specs.Prelude.{IsUtf8}
use Rattle.std.specs.Str.{IsCharBoundary}
use Rattle.markdown_content.specs.Codes.{stop_of, document_start}
use Rattle.markdown_content.specs.PlaceInDocument.{IsPlaceOf}
use Rattle.markdown_engine.specs.PastTree.{appended_from}
use Rattle.markdown_content.specs.Tree.{Forest, event, start_of}
use Rattle.markdown_event.specs.declared.event.Event.{Event}
use Rattle.markdown_event.specs.declared.event.Kind.TheVariants as Kind
use Rattle.markdown_event.specs.declared.event.Name.TheVariants as N
use Rattle.markdown_event.specs.declared.event.Point.{Point}
use Rattle.markdown_engine.specs.declared.tokenizer.Tokenizer.{Tokenizer}
use Rattle.markdown_plan.specs.Characters.{bytes_of}
use Rattle.markdown_label.specs.LabelEnd.{ReferenceIsAround}
use Rattle.markdown_label_names.specs.LabelNames.{point_or, place_at}
use Rattle.markdown_label_names.specs.LabelSetting.{IsListed}
use Rattle.markdown_label.proofs.ReferenceFullTree.{IsReferenceGroup, get-after}
use Rattle.markdown_label.proofs.ReferenceFullPlaces.{HasText}

-- the Enter and the Exit of its text
pub record AreThere (es whole : List Event) (from to : Point) : Type 0 where
  pub enter : place_at whole (length es + 3) ≡ from
  pub exit : place_at whole (length whole - 4) ≡ to
  pub long : length es + 8 ≤ length whole

pub text-there : (es : List Event) (t : Forest) (k : IsReferenceGroup t) →
    AreThere es (es ++ appended_from (length es) None t) k.from k.to
text-there es t k =
    let n : ℕ = length es in
    let A : List Event = appended_from (n + 1 + 2 + 1) None k.inside in
    let first : List Event = event Kind.Enter N.Reference k.a ∷ event Kind.Enter N.ReferenceMarker (start_of k.front) ∷ event Kind.Exit N.ReferenceMarker (stop_of document_start k.front) ∷ event Kind.Enter N.ReferenceString k.from ∷ A in
    let last : List Event = event Kind.Enter N.ReferenceMarker (start_of k.back) ∷ event Kind.Exit N.ReferenceMarker (stop_of document_start k.back) ∷ event Kind.Exit N.Reference k.b ∷ [] in
    let close : Event = event Kind.Exit N.ReferenceString k.to in
    let whole : es ++ appended_from n None t ≡ (es ++ first) ++ close ∷ last =
    ap (λ x. es ++ appended_from n None x) k.is
    ∙ ap (λ x. es ++ (event Kind.Enter N.Reference k.a ∷ event Kind.Enter N.ReferenceMarker (start_of k.front) ∷ event Kind.Exit N.ReferenceMarker (stop_of document_start k.front) ∷ event Kind.Enter N.ReferenceString k.from ∷ x)) (append_assoc A (close ∷ event Kind.Enter N.ReferenceMarker (start_of k.back) ∷ event Kind.Exit N.ReferenceMarker (stop_of document_start k.back) ∷ []) (event Kind.Exit N.Reference k.b ∷ []))
    ∙ sym (append_assoc es first (close ∷ last)) in
    let size : length (es ++ appended_from n None t) - 4 ≡ length (es ++ first) + 0 = omega (arith, ap length whole, length-append (es ++ first) (close ∷ last)) in
    record {
      enter = ap (λ xs. place_at xs (n + 3)) whole ∙ ap (λ x. place_at x (n + 3)) (append_assoc es first (close ∷ last)) ∙ ap point_or (get-after es (first ++ close ∷ last) 3);
      exit = (λ i. place_at (whole i) (size i)) ∙ ap point_or (get-after (es ++ first) (close ∷ last) 0);
      long = omega (arith, ap length whole, length-append (es ++ first) (close ∷ last), length-append es first);
    }

-- so its identifier may be asked for
pub reference-around : (T U : Tokenizer) (t : Forest) (k : HasText t) → IsListed U → IsUtf8 (bytes_of U) → IsPlaceOf (bytes_of U) U.cursor → U.events ≡ T.events ++ appended_from (length T.events) None t → length T.events ≡ U.tokenize_state.end + 4
    → IsCharBoundary (bytes_of U) k.x.start.index → IsCharBoundary (bytes_of U) (stop_of document_start (k.x ∷ k.xs)).index → ReferenceIsAround U
reference-around T U t k listed text own events end from to =
    let r : AreThere T.events (T.events ++ appended_from (length T.events) None t) k.shape.from k.shape.to = text-there T.events t k.shape in
    let number : U.tokenize_state.end + 7 ≡ length T.events + 3 = omega (arith, end) in
    let enters : place_at U.events (U.tokenize_state.end + 7) ≡ k.x.start = (λ i. place_at (events i) (number i)) ∙ r.enter ∙ k.from in
    let exits : place_at U.events (length U.events - 4) ≡ stop_of document_start (k.x ∷ k.xs) = (λ i. place_at (events i) (length (events i) - 4)) ∙ r.exit ∙ k.to in (
      omega (arith, r.long, ap length events),
      record {
        listed = listed;
        text = text;
        own = own;
        first = omega (arith, end, r.long, ap length events);
        last = omega (arith, r.long, ap length events);
        from = subst (λ (p : Point). IsCharBoundary (bytes_of U) p.index) (sym enters) from;
        to = subst (λ (p : Point). IsCharBoundary (bytes_of U) p.index) (sym exits) to;
      },
    )
