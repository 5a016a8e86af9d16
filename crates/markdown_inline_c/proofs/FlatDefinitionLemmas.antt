-- Definitions that are written one after another.
use Rattle.std.proofs.Common.{◌≡◌, ◌∙◌, sym, ap, subst, refl, inl, inr, ℕ, ◌-◌, ◌≤◌, List, [], ◌∷◌, ◌++◌, length, take, drop, arith, ◌+◌, append_assoc, append-nil, Option, Some, None, option_map, IfSome, IsUtf8, if◌then◌else◌, ◌==◌}
use Rattle.std.proofs.lemmas.Grind.{flat_map-append}
use Rattle.std.proofs.lemmas.List.{length-append, length-drop, take-append-le, drop-append-le, take_all, drop_all}
use Rattle.markdown_block_definitions.specs.DefinitionTexts.{Texts, AreUtf8Texts}
use Rattle.markdown_html_model.specs.Resolved.{resolved}
use Rattle.markdown_inline_c.specs.FlatDefinitions.{AreFlat, AreWritten, IsFlat, IsAppendedText, IsTargetOf, IsTitle, title_bytes, texts_bytes, flat_labels, stretch, flat_target, flat_ranges, flat_targets}
use Rattle.markdown_inline_c.specs.FlatHtml.{IsTitleRange, title_of}
use Rattle.markdown_inline_c.specs.FlatInput.{IsLabelRange, range_bytes}
use Rattle.markdown_inline_c.specs.declared.flat.FlatTarget.{FlatTarget}
use Rattle.markdown_inline_c.specs.declared.flat.Range.{Range}
use Rattle.markdown_page.proofs.ResolvedUtf8.{resolved-utf8}
use Rattle.markdown_util.specs.declared.decoding.Decoding.{Decoding}

-- Stretches.

-- a range in front of more bytes
kept-bytes : (labels more : List ℕ) (r : Range) → r.start ≤ r.end → r.end ≤ length labels → range_bytes (labels ++ more) r ≡ range_bytes labels r
kept-bytes labels more r order within =
    ap (take (r.end - r.start)) (drop-append-le r.start labels more (omega (arith, order, within)))
    ∙ take-append-le (r.end - r.start) (drop r.start labels) more (omega (arith, order, within, length-drop r.start labels))

kept-range : (labels more : List ℕ) (r : Range) → IsLabelRange labels r → IsLabelRange (labels ++ more) r
kept-range labels more r h = record {
  in_order = h.in_order;
  within = omega (arith, h.within, length-append labels more);
  is_utf_8 = subst IsUtf8 (sym (kept-bytes labels more r h.in_order h.within)) h.is_utf_8;
}

-- the bytes of a stretch are its text
stretch-bytes : (text before : List ℕ) (r : Range) → r.start ≡ length before → r.end ≡ length (before ++ text) → range_bytes (before ++ text) r ≡ text
stretch-bytes text before r start end =
    let many : r.end - r.start ≡ length text = omega (arith, start, end, length-append before text) in
    ap (λ (k : ℕ). take k (drop r.start (before ++ text))) many
    ∙ ap (λ (k : ℕ). take (length text) (drop k (before ++ text))) start
    ∙ ap (take (length text)) (drop-append-le (length before) before text (omega arith) ∙ ap (λ (xs : List ℕ). xs ++ text) (drop_all (length before) before (omega arith)))
    ∙ take_all (length text) text (omega arith)

module _ (text before after : List ℕ) (r : Range) (h : IsAppendedText text before after r) where
  text-there : range_bytes after r ≡ text
  text-there = rw h.after_is (stretch-bytes text before r h.start_is (rw (← h.after_is) h.end_is))

  range-there : IsUtf8 text → IsLabelRange after r
  range-there u = record {
    in_order = omega (arith, h.start_is, h.end_is, ap length h.after_is, length-append before text);
    within = omega (arith, h.end_is);
    is_utf_8 = subst IsUtf8 (sym text-there) u;
  }

-- A definition in front of more bytes.

kept-title : (labels more : List ℕ) (target : FlatTarget) → IsTitleRange labels target → (title_of (labels ++ more) target ≡ title_of labels target) × IsTitleRange (labels ++ more) target
kept-title labels more target (inl none) = (rw none refl, inl none)
kept-title labels more target (inr h) =
    (ap (λ (bs : List ℕ). if target.has_title == 0 then None else Some bs) (kept-bytes labels more target.title h.in_order h.within), inr (kept-range labels more target.title h))

kept-flat : (how : Decoding) (labels more : List ℕ) (t : Texts) (r : Range) (target : FlatTarget) → IsFlat how labels t r target → IsFlat how (labels ++ more) t r target
kept-flat how labels more t r target h =
    let title = kept-title labels more target h.target_range.title in
    let label = h.label_range in
    let destination = h.target_range.destination in
    record {
      label_range = kept-range labels more r label;
      label_is = kept-bytes labels more r label.in_order label.within ∙ h.label_is;
      target_range = record { destination = kept-range labels more target.destination destination; title = title.1 };
      destination_is = kept-bytes labels more target.destination destination.in_order destination.within ∙ h.destination_is;
      title_is = title.0 ∙ h.title_is;
      reserved_is = h.reserved_is;
    }

kept-all : (how : Decoding) (labels more : List ℕ) (ts : List Texts) (rs : List Range) (targets : List FlatTarget) → AreFlat how labels ts rs targets → AreFlat how (labels ++ more) ts rs targets
kept-all how labels more [] [] [] h = tt
kept-all how labels more (t ∷ ts) (r ∷ rs) (g ∷ targets) h = (kept-flat how labels more t r g h.0, kept-all how labels more ts rs targets h.1)
kept-all how labels more [] [] (g ∷ targets) h = absurd h
kept-all how labels more [] (r ∷ rs) targets h = absurd h
kept-all how labels more (t ∷ ts) [] targets h = absurd h
kept-all how labels more (t ∷ ts) (r ∷ rs) [] h = absurd h

-- One more.

last-flat : (how : Decoding) (labels : List ℕ) (ts : List Texts) (rs : List Range) (targets : List FlatTarget) (t : Texts) (r : Range) (target : FlatTarget)
    → AreFlat how labels ts rs targets → IsFlat how labels t r target → AreFlat how labels (ts ++ t ∷ []) (rs ++ r ∷ []) (targets ++ target ∷ [])
last-flat how labels [] [] [] t r target h one = (one, tt)
last-flat how labels (s ∷ ts) (q ∷ rs) (g ∷ targets) t r target h one = (h.0, last-flat how labels ts rs targets t r target h.1 one)
last-flat how labels [] [] (g ∷ targets) t r target h one = absurd h
last-flat how labels [] (q ∷ rs) targets t r target h one = absurd h
last-flat how labels (s ∷ ts) [] targets t r target h one = absurd h
last-flat how labels (s ∷ ts) (q ∷ rs) [] t r target h one = absurd h

title-flat : (how : Decoding) (title : Option (List ℕ)) (before after : List ℕ) (target : FlatTarget) → IsTitle how title before after target → IfSome title IsUtf8
    → (title_of after target ≡ option_map (resolved how) title) × IsTitleRange after target
title-flat how None before after target h u = (rw h.told refl, inl h.told)
title-flat how (Some title) before after target h u =
    let there : title_of after target ≡ Some (range_bytes after target.title) = rw h.told refl in
    (there ∙ ap Some (text-there (resolved how title) before after target.title h.stretch), inr (range-there (resolved how title) before after target.title h.stretch (resolved-utf8 how title u)))

-- a label, and behind it where the definition leads
pub one-flat : (how : Decoding) (t : Texts) (before between after : List ℕ) (r : Range) (target : FlatTarget) → AreUtf8Texts t → IsAppendedText t.label before between r → IsTargetOf how t between after target
    → IsFlat how after t r target
one-flat how t before between after r target u label h =
    let middle = h.between in
    let title = title-flat how t.title middle after target h.title u.title in
    let destination = range-there (resolved how t.destination) between middle target.destination h.destination (resolved-utf8 how t.destination u.destination) in
    let named = range-there t.label before between r label u.label in
    let named' : IsLabelRange middle r = rw h.destination.after_is (kept-range between (resolved how t.destination) r named) in
    let rest = h.title.stretch.after_is in
    let named-middle : range_bytes middle r ≡ range_bytes between r = rw h.destination.after_is (kept-bytes between (resolved how t.destination) r named.in_order named.within) in
    let named-after : range_bytes after r ≡ range_bytes middle r = rw rest (kept-bytes middle (title_bytes (option_map (resolved how) t.title)) r named'.in_order named'.within) in
    let led-after : range_bytes after target.destination ≡ range_bytes middle target.destination =
    rw rest (kept-bytes middle (title_bytes (option_map (resolved how) t.title)) target.destination destination.in_order destination.within)
    in
    record {
      label_range = rw rest (kept-range middle (title_bytes (option_map (resolved how) t.title)) r named');
      label_is = named-after ∙ named-middle ∙ text-there t.label before between r label;
      target_range = record { destination = rw rest (kept-range middle (title_bytes (option_map (resolved how) t.title)) target.destination destination); title = title.1 };
      destination_is = led-after ∙ text-there (resolved how t.destination) between middle target.destination h.destination;
      title_is = title.0;
      reserved_is = h.reserved_is;
    }

one-more-flat : (how : Decoding) (ts : List Texts) (t : Texts) (before between after : List ℕ) (rs : List Range) (targets : List FlatTarget) (r : Range) (target : FlatTarget)
    → AreFlat how before ts rs targets → AreUtf8Texts t → IsAppendedText t.label before between r → IsTargetOf how t between after target
    → AreFlat how after (ts ++ t ∷ []) (rs ++ r ∷ []) (targets ++ target ∷ [])
one-more-flat how ts t before between after rs targets r target all u label h =
    let behind-label : AreFlat how between ts rs targets = rw label.after_is (kept-all how before t.label ts rs targets all) in
    let behind-destination : AreFlat how h.between ts rs targets = rw h.destination.after_is (kept-all how between _ ts rs targets behind-label) in
    let behind : AreFlat how after ts rs targets = rw h.title.stretch.after_is (kept-all how h.between _ ts rs targets behind-destination) in
    last-flat how after ts rs targets t r target behind (one-flat how t before between after r target u label h)

-- Exactly these.

range-is : (r : Range) (before len : ℕ) → r.start ≡ before → r.end ≡ before + len → r ≡ stretch before len
range-is r before len e f =
    ap (λ (x : ℕ). let q : Range = record { start = x; end = r.end } in q) e ∙ ap (λ (x : ℕ). let q : Range = record { start = before; end = x } in q) f

appended-is : (text before after : List ℕ) (r : Range) → IsAppendedText text before after r → r ≡ stretch (length before) (length text)
appended-is text before after r h = range-is r (length before) (length text) h.start_is (h.end_is ∙ ap length h.after_is ∙ length-append before text)

target-is : (g : FlatTarget) (d t : Range) (has : ℕ) → g.destination ≡ d → g.title ≡ t → g.has_title ≡ has → g.reserved ≡ 0
    → g ≡ record { destination = d; title = t; has_title = has; reserved = 0 }
target-is g d t has a b c e =
    ap (λ (x : Range). let q : FlatTarget = record { destination = x; title = g.title; has_title = g.has_title; reserved = g.reserved } in q) a
    ∙ ap (λ (x : Range). let q : FlatTarget = record { destination = d; title = x; has_title = g.has_title; reserved = g.reserved } in q) b
    ∙ ap (λ (x : ℕ). let q : FlatTarget = record { destination = d; title = t; has_title = x; reserved = g.reserved } in q) c
    ∙ ap (λ (x : ℕ). let q : FlatTarget = record { destination = d; title = t; has_title = has; reserved = x } in q) e

written-target : (how : Decoding) (t : Texts) (before between after : List ℕ) (r : Range) (target : FlatTarget) → IsAppendedText t.label before between r → IsTargetOf how t between after target
    → target ≡ flat_target how (length before) t
written-target how t before between after r target label h =
    let b : length between ≡ length before + length t.label = ap length label.after_is ∙ length-append before t.label in
    let m : length h.between ≡ length before + length t.label + length (resolved how t.destination) = ap length h.destination.after_is ∙ length-append between (resolved how t.destination) ∙ ap (λ (k : ℕ). k + length (resolved how t.destination)) b in
    target-is target _ _ _
    (appended-is (resolved how t.destination) between h.between target.destination h.destination ∙ ap (λ (k : ℕ). stretch k (length (resolved how t.destination))) b)
    (appended-is (title_bytes (option_map (resolved how) t.title)) h.between after target.title h.title.stretch ∙ ap (λ (k : ℕ). stretch k (length (title_bytes (option_map (resolved how) t.title)))) m)
    h.title.told h.reserved_is

written-bytes : (how : Decoding) (t : Texts) (before between after : List ℕ) (r : Range) (target : FlatTarget) → IsAppendedText t.label before between r → IsTargetOf how t between after target
    → after ≡ before ++ texts_bytes how t
written-bytes how t before between after r target label h =
    let title = title_bytes (option_map (resolved how) t.title) in
    h.title.stretch.after_is ∙ ap (λ (xs : List ℕ). xs ++ title) (h.destination.after_is ∙ ap (λ (xs : List ℕ). xs ++ resolved how t.destination) label.after_is)
    ∙ append_assoc (before ++ t.label) (resolved how t.destination) title ∙ append_assoc before t.label (resolved how t.destination ++ title)

more-ranges : (how : Decoding) (n : ℕ) (ts : List Texts) (t : Texts) → flat_ranges how n (ts ++ t ∷ []) ≡ flat_ranges how n ts ++ stretch (n + length (flat_labels how ts)) (length t.label) ∷ []
more-ranges how n [] t = let e : n ≡ n + 0 = omega arith in ap (λ (k : ℕ). stretch k (length t.label) ∷ []) e
more-ranges how n (s ∷ ts) t =
    let e : n + length (texts_bytes how s) + length (flat_labels how ts) ≡ n + length (texts_bytes how s ++ flat_labels how ts) = omega (arith, length-append (texts_bytes how s) (flat_labels how ts)) in
    ap (λ (rs : List Range). stretch n (length s.label) ∷ rs)
    (more-ranges how (n + length (texts_bytes how s)) ts t ∙ ap (λ (k : ℕ). flat_ranges how (n + length (texts_bytes how s)) ts ++ stretch k (length t.label) ∷ []) e)

more-targets : (how : Decoding) (n : ℕ) (ts : List Texts) (t : Texts) → flat_targets how n (ts ++ t ∷ []) ≡ flat_targets how n ts ++ flat_target how (n + length (flat_labels how ts)) t ∷ []
more-targets how n [] t = let e : n ≡ n + 0 = omega arith in ap (λ (k : ℕ). flat_target how k t ∷ []) e
more-targets how n (s ∷ ts) t =
    let e : n + length (texts_bytes how s) + length (flat_labels how ts) ≡ n + length (texts_bytes how s ++ flat_labels how ts) = omega (arith, length-append (texts_bytes how s) (flat_labels how ts)) in
    ap (λ (gs : List FlatTarget). flat_target how n s ∷ gs)
    (more-targets how (n + length (texts_bytes how s)) ts t ∙ ap (λ (k : ℕ). flat_targets how (n + length (texts_bytes how s)) ts ++ flat_target how k t ∷ []) e)

pub one-more-written : (how : Decoding) (ts : List Texts) (t : Texts) (before between after : List ℕ) (rs : List Range) (targets : List FlatTarget) (r : Range) (target : FlatTarget)
    → AreWritten how before ts rs targets → AreUtf8Texts t → IsAppendedText t.label before between r → IsTargetOf how t between after target
    → AreWritten how after (ts ++ t ∷ []) (rs ++ r ∷ []) (targets ++ target ∷ [])
one-more-written how ts t before between after rs targets r target all u label h =
    let n : length before ≡ 0 + length (flat_labels how ts) = omega (arith, ap length all.labels_are) in
    record {
      flat = one-more-flat how ts t before between after rs targets r target all.flat u label h;
      labels_are = written-bytes how t before between after r target label h ∙ ap (λ (xs : List ℕ). xs ++ texts_bytes how t) all.labels_are
          ∙ sym (flat_map-append (texts_bytes how) ts (t ∷ []) ∙ ap (λ (xs : List ℕ). flat_labels how ts ++ xs) (append-nil (texts_bytes how t)));
      ranges_are = ap (λ (xs : List Range). xs ++ r ∷ []) all.ranges_are
          ∙ ap (λ (x : Range). flat_ranges how 0 ts ++ x ∷ []) (appended-is t.label before between r label ∙ ap (λ (k : ℕ). stretch k (length t.label)) n)
          ∙ sym (more-ranges how 0 ts t);
      targets_are = ap (λ (xs : List FlatTarget). xs ++ target ∷ []) all.targets_are
          ∙ ap (λ (x : FlatTarget). flat_targets how 0 ts ++ x ∷ []) (written-target how t before between after r target label h ∙ ap (λ (k : ℕ). flat_target how k t) n)
          ∙ sym (more-targets how 0 ts t);
    }
