-- A span whose text is a single stretch is read as the definition reads it.
use Rattle.std.proofs.Common.{◌≡◌, ◌≢◌, ℕ, suc, ◌==◌, ◌&&◌, ◌||◌, not, nat_lt, if◌then◌else◌, Bool, true, false, List, [], ◌∷◌, ◌++◌, None, Some, refl, sym, ap, ◌∙◌, append_assoc, append-nil, length, arith}
use Rattle.std.proofs.lemmas.Bool.Decides.{nat_tests}
use Rattle.std.proofs.lemmas.Grind.{common_steps}
use Rattle.std.proofs.lemmas.Bool.{and_left, both_ways, eq-eqb, eqb-true}
use Rattle.std.proofs.lemmas.Option.{same_Some}
use Rattle.markdown_content.specs.Codes.{Code, document_start, is_line_ending, line_feed, stop_of}
use Rattle.markdown_content.specs.Place.{Place, ahead_at, code_at, code_before, exit_point, moved, point_of}
use Rattle.markdown_content.specs.Stretch.{past_stretch, stretch, stops}
use Rattle.markdown_content.specs.Tree.{Forest, empty, event, leaf_then, ◌⊕◌, leaf, leaf_codes, group}
use Rattle.markdown_event.specs.declared.event.Event.{Event}
use Rattle.markdown_event.specs.declared.event.Kind.TheVariants as Kind
use Rattle.markdown_event.specs.declared.event.Name.{Name}
use Rattle.markdown_event.specs.declared.event.Point.{Point}
use Rattle.markdown_content.proofs.PlaceRules.{IsAhead, ahead_moved, ahead_some, code_at_ahead, point_ahead}
use Rattle.markdown_notes.specs.RunIndex.{leading}
use Rattle.markdown_content.proofs.StretchLemmas.{stretch-goes, stretch-stops}
use Rattle.markdown_engine.specs.Operations.{ahead, current_of}
use Rattle.markdown_engine.specs.PastTree.{Reads, TreeReading, moved_by, past}
use Rattle.markdown_engine.specs.declared.tokenizer.Tokenizer.{Tokenizer}
use Rattle.markdown_engine.proofs.PlaceAfterCodes.{ahead-moved_by, moved_by-append, stop-moved}
use Rattle.markdown_engine.proofs.ReadingSequences.{scratched-same}
use Rattle.markdown_engine.proofs.TreeEvents.{ahead-past}
use Rattle.markdown_leaf.specs.RawText.{code_is_on, code_just_before, is_barred, math_is_on, single_dollar, span_at}
use Rattle.markdown_leaf.proofs.RawTextLaws.{barred-is}
use Rattle.markdown_leaf.proofs.RawTextWithoutEnd.{run-length}
use Rattle.markdown_leaf.proofs.RawTextReadings.{agree-data, agree-marker, here-off, here-on, other-value}
use Rattle.markdown_model.specs.CodeTests.{is_some_code, is_value, next_is}
use Rattle.markdown_model.specs.Grammar.{gives, span}
use Rattle.markdown_model.specs.LeafConstructs.{SpanNames, closing, closing_run, code_names, math_names, span_of}
use Rattle.markdown_model.specs.SingleConstructs.{follows_escape}
use Rattle.markdown_model.specs.TextLines.{joins, line_leaf, stretches}
use Rattle.markdown_model.proofs.GrammarSteps.{and-left, and-right, bind-some, either-first, either-second, if-false, if-true, some-span, span-none, span-takes, switched-on}
use Rattle.markdown_model.proofs.ReadingsCover.{joined_codes-stretches}
use Rattle.markdown_plan.proofs.FirstStretch.{stretch-span}
use Rattle.markdown_run_text.specs.PlacesPassed.{is_some_value, past_run}
use Rattle.markdown_run_text.proofs.AttentionReads.{marker-here, span-parts}
use Rattle.markdown_run_text.proofs.StretchParts.{walked-moved}
use Rattle.markdown_run_text.proofs.WordsAndSigns.{before-moved}
use Rattle.markdown_run_text.specs.PlainSpan.{begins_span, is_text, names_for, opens_span, past_span_text, with_span}

-- Cuts of codes.

-- a run of some codes: the first of them, and the others
record StretchRun (p : Code → Bool) (cs : List Code) : Type 0 where
  first : Code
  others : List Code
  rest : List Code
  passes : p first ≡ true
  cut : ◌≡◌ {A = List Code × List Code} (span p cs) (first ∷ others, rest)
  whole : cs ≡ (first ∷ others) ++ rest

run-of : (p : Code → Bool) (c : Code) (cs : List Code) → p c ≡ true → StretchRun p (c ∷ cs)
run-of p c cs h = grind (arith, span-takes p c cs, span-parts p cs)

no-run : (p : Code → Bool) (c : Code) (cs : List Code) → p c ≡ false → length (span p (c ∷ cs)).0 ≡ 0
no-run p c cs h = ap (λ (s : List Code × List Code). length s.0) (span-none p (c ∷ cs) h)

-- where it has some
some-run : (p : Code → Bool) (cs : List Code) → length (span p cs).0 ≢ 0 → StretchRun p cs
some-run p [] some = absurd (some refl)
some-run p (c ∷ cs) some = grind (arith, run-of, no-run)

-- behind a run stands no such code
run-ends : (p : Code → Bool) (cs : List Code) → next_is p (span p cs).1 ≡ false
run-ends p [] = refl
run-ends p (c ∷ cs) = grind (arith, span-takes, span-none, run-ends p cs)

-- The text and the closing run.

module _ (m : ℕ) (other : (m == 10) ≡ false) where
  not-ending : (c : Code) → is_value m c ≡ true → is_line_ending c ≡ false
  not-ending c h = other-value c.value m 10 other h

  -- text of spans, and the marker
  parts : (a b : Bool) → not (a || b) ≡ true → (a ≡ false) × (b ≡ false)
  parts a b h = grind arith

  text-parts : (c : Code) → is_text m c ≡ true → (is_line_ending c ≡ false) × (is_value m c ≡ false)
  text-parts c h = parts (is_line_ending c) (is_value m c) h

  -- text is passed, and then the closing run
  closing-passes : (n : ℕ) (s r rest : List Code) (ss : List (List Code)) → next_is (is_value m) s ≡ false →
      closing_run (is_value m) n ss ≡ Some (([], r), rest) → closing_run (is_value m) n (s ∷ ss) ≡ Some ((s ∷ [], r), rest)
  unfolding closing_run
  closing-passes n s r rest ss h e = rw (h, e, closing_run) refl

  closing-here : (n : ℕ) (s rest : List Code) → next_is (is_value m) s ≡ true → length s ≡ n →
      closing_run (is_value m) n (s ∷ stretches (is_value m) rest) ≡ Some (([], s), rest)
  unfolding closing_run
  closing-here n s rest h e = grind (arith, eq-eqb, joined_codes-stretches)

  -- the first stretch is a run
  stretches-run : (q : Code → Bool) → ((c d : Code) → q c ≡ true → joins (is_value m) c d ≡ q d) → (cs : List Code) (r : StretchRun q cs) →
      stretches (is_value m) cs ≡ (r.first ∷ r.others) ∷ stretches (is_value m) r.rest
  stretches-run q agrees h r = grind (arith, stretch-span, span-takes)

  -- text from the first code on, and the run behind it
  closing-from : (n : ℕ) (cs : List Code) (t : StretchRun (is_text m) cs) (d : StretchRun (is_value m) t.rest) → length (d.first ∷ d.others) ≡ n →
      closing (is_value m) n cs ≡ Some (((t.first ∷ t.others) ∷ [], d.first ∷ d.others), d.rest)
  closing-from n cs t d e = grind (arith, stretches-run (is_text m), stretches-run (is_value m), agree-data m code_names, closing-passes n (t.first ∷ t.others) (d.first ∷ d.others) d.rest (stretches (is_value m) t.rest), text-parts t.first, agree-marker, closing-here n (d.first ∷ d.others) d.rest)

-- The whole span.

-- an opening run, text, and a closing run as long
record IsPlainSpan (m : ℕ) (cs : List Code) : Type 0 where
  front : StretchRun (is_value m) cs
  text : StretchRun (is_text m) front.rest
  close : StretchRun (is_value m) text.rest
  same : length (close.first ∷ close.others) ≡ length (front.first ∷ front.others)

span_tree : (m : ℕ) (names : SpanNames) (cs : List Code) → IsPlainSpan m cs → Forest
span_tree m names cs k =
    group names.whole (leaf names.sequence (k.front.first ∷ k.front.others) ⊕ (leaf names.text (k.text.first ∷ k.text.others) ⊕ leaf names.sequence (k.close.first ∷ k.close.others)))

text-leaf : (n : Name) (c : Code) (cs : List Code) → is_line_ending c ≡ false →
    line_leaf n None (c ∷ cs) ≡ leaf_then n None (c ∷ cs) empty
text-leaf n c cs e = rw (e, line_leaf) refl

module _ (m : ℕ) (other : (m == 10) ≡ false) (names : SpanNames) (cs : List Code) (k : IsPlainSpan m cs) where
  span-is : (allowed : ℕ → Bool) → allowed (length (k.front.first ∷ k.front.others)) ≡ true →
      span_of m names allowed cs ≡ Some (span_tree m names cs k, k.close.rest)
  unfolding span_of gives span_tree
  span-is allowed h =
      let front : List Code = k.front.first ∷ k.front.others in
      let close : List Code = k.close.first ∷ k.close.others in
      bind-some _ _ cs front k.front.rest _ (some-span (is_value m) cs k.front.first k.front.others k.front.rest k.front.cut)
      (switched-on _ (allowed (length front)) k.front.rest h
      ∙ bind-some _ _ k.front.rest ((k.text.first ∷ k.text.others) ∷ [], close) k.close.rest _ (closing-from m other (length front) k.front.rest k.text k.close k.same)
      (ap (λ t. Some (group names.whole (leaf names.sequence front ⊕ ((t ⊕ empty) ⊕ leaf names.sequence close)), k.close.rest)) (text-leaf names.text k.text.first k.text.others (text-parts m other k.text.first k.text.passes).0)))

-- by the lengths of the runs
module _ (m : ℕ) where
  text-run : (cs : List Code) (n : ℕ) → next_is (is_value m) cs ≡ false → length (span (is_value m) (span (is_text m) cs).1).0 ≡ suc n →
      StretchRun (is_text m) cs
  text-run cs n h e = grind (arith, run-of, no-run, span-none)

  close-run : (cs : List Code) (front : StretchRun (is_value m) cs) (text : StretchRun (is_text m) front.rest) →
      length (span (is_value m) text.rest).0 ≡ length (front.first ∷ front.others) → IsPlainSpan m cs
  close-run cs front text e = by_run (some-run (is_value m) text.rest (λ z. omega (arith, z, e)))
    where
      by_run : StretchRun (is_value m) text.rest → IsPlainSpan m cs
      by_run close = record { front = front; text = text; close = close; same = ap (λ (s : List Code × List Code). length s.0) (sym close.cut) ∙ e }

  plain-from : (cs : List Code) (front : StretchRun (is_value m) cs) →
      length (span (is_value m) (span (is_text m) front.rest).1).0 ≡ length (front.first ∷ front.others) → IsPlainSpan m cs
  plain-from cs front e =
      by_text (text-run front.rest (length front.others) (ap (λ (s : List Code × List Code). next_is (is_value m) s.1) (sym front.cut) ∙ run-ends (is_value m) cs) e)
    where
      by_text : StretchRun (is_text m) front.rest → IsPlainSpan m cs
      by_text text = close-run cs front text (ap (λ (s : List Code × List Code). length (span (is_value m) s.1).0) (sym text.cut) ∙ e)

-- Its events.

-- with the events of a span between these points, past it
placed : SpanNames → Point → Point → Point → Point → Point → Point → Point → Place → Tokenizer → Tokenizer
placed names start opened from to close stop end P T =
    record T {
      events = T.events ++ event Kind.Enter names.whole start ∷ event Kind.Enter names.sequence start ∷ event Kind.Exit names.sequence opened ∷ event Kind.Enter names.text from ∷ event Kind.Exit names.text to ∷ event Kind.Enter names.sequence close ∷ event Kind.Exit names.sequence stop ∷ event Kind.Exit names.whole end ∷ [];
      cursor = P;
    }

eight : (xs : List Event) (a b c d e f g h : Event) →
    ((((((((xs ++ a ∷ []) ++ b ∷ []) ++ c ∷ []) ++ d ∷ []) ++ e ∷ []) ++ f ∷ []) ++ g ∷ []) ++ h ∷ []) ≡ xs ++ (a ∷ b ∷ c ∷ d ∷ e ∷ f ∷ g ∷ h ∷ [])
eight xs a b c d e f g h = simp append_assoc

span-placed : (names : SpanNames) (start from to : Point) (P : Place) (T : Tokenizer) →
    with_span names start from to (record T { cursor = P }) ≡ placed names start from from to to (exit_point P) (exit_point P) P T
unfolding placed
span-placed names start from to P T = ap (λ es. record T { events = es; cursor = P }) (eight T.events _ _ _ _ _ _ _ _)

module _ (m : ℕ) (names : SpanNames) (T : Tokenizer) (k : IsPlainSpan m (ahead T)) where
  abbrev front : List Code
  front = k.front.first ∷ k.front.others

  abbrev text : List Code
  text = k.text.first ∷ k.text.others

  abbrev close : List Code
  close = k.close.first ∷ k.close.others

  abbrev tree : Forest
  tree = span_tree m names (ahead T) k

  placed-past : placed names k.front.first.start (stop_of document_start front) k.text.first.start (stop_of document_start text) k.close.first.start (stop_of document_start close) (stop_of document_start close) (moved_by close (moved_by text (moved_by front T.cursor))) T ≡ past None tree T
  unfolding placed past span_tree
  placed-past = grind (arith, moved_by-append)

  tree-codes : leaf_codes tree ++ k.close.rest ≡ ahead T
  unfolding span_tree
  tree-codes =
      ap (λ cs. cs ++ k.close.rest) (append-nil (front ++ (text ++ (close ++ []))) ∙ ap (λ cs. front ++ (text ++ cs)) (append-nil close))
      ∙ append_assoc front (text ++ close) k.close.rest
      ∙ ap (λ cs. front ++ cs) (append_assoc text close k.close.rest ∙ ap (λ cs. text ++ cs) (sym k.close.whole) ∙ sym k.text.whole)
      ∙ sym k.front.whole

-- The places.

-- the code before the place, past codes that are no line ending
no-line-before : (q : Code → Bool) → ((c : Code) → q c ≡ true → is_line_ending c ≡ false) → (c : Code) (cs : List Code) (p : Place) →
    ahead_at p ≡ c ∷ cs → q c ≡ true → code_before (moved_by (c ∷ (span q cs).0) p) ≡ Some line_feed → ⊥
no-line-before q free c [] p e h k = grind (arith, both_ways, eq-eqb, same_Some, before-moved, code_at_ahead)
no-line-before q free c (d ∷ ds) p e h k =
    by_test (q d) refl (λ g. no-line-before q free d ds (moved p) (ahead_moved p c (d ∷ ds) e) g)
  where
    by_test : (b : Bool) → q d ≡ b → (q d ≡ true → code_before (moved_by (d ∷ (span q ds).0) (moved p)) ≡ Some line_feed → ⊥) → ⊥
    by_test true g more = more g (ap (λ (s : List Code × List Code). code_before (moved_by s.0 (moved p))) (sym (span-takes q d ds g)) ∙ k)
    by_test false g more =
        both_ways (c.value == 10) (free c h) (eq-eqb c.value 10 (same_Some c.value 10 (sym (ap (λ (s : List Code × List Code). code_before (moved_by s.0 (moved p))) (span-none q (d ∷ ds) g) ∙ before-moved p ∙ code_at_ahead p c (d ∷ ds) e) ∙ k)))

within-line : (q : Code → Bool) → ((c : Code) → q c ≡ true → is_line_ending c ≡ false) → (cs : List Code) (p : Place) → ahead_at p ≡ cs →
    StretchRun q cs → code_before (moved_by (span q cs).0 p) ≡ Some line_feed → ⊥
within-line q free h p e r k = grind (arith, no-line-before, span-takes)

module _ (m : ℕ) (other : (m == 10) ≡ false) (T : Tokenizer) where
  abbrev P1 : Place
  P1 = past_run m T.cursor

  abbrev P2 : Place
  P2 = past_span_text m P1

  abbrev P3 : Place
  P3 = past_run m P2

  behind : (q : Code → Bool) (p : Place) → ahead_at (moved_by (span q (ahead_at p)).0 p) ≡ (span q (ahead_at p)).1
  behind q p = ahead-moved_by (span q (ahead_at p)).0 (span q (ahead_at p)).1 p (sym (span-parts q (ahead_at p)))

  plain-here : StretchRun (is_value m) (ahead T) → leading m (ahead_at P2) ≡ leading m (ahead T) → IsPlainSpan m (ahead T)
  plain-here front e =
      plain-from m (ahead T) front
      (ap (λ cs. length (span (is_value m) (span (is_text m) cs).1).0) (sym (behind (is_value m) T.cursor ∙ ap (λ (s : List Code × List Code). s.1) front.cut))
      ∙ ap (λ cs. length (span (is_value m) cs).0) (sym (behind (is_text m) P1))
      ∙ run-length m (ahead_at P2)
      ∙ e
      ∙ sym (run-length m (ahead T))
      ∙ ap (λ (s : List Code × List Code). length s.0) front.cut)

  module _ (names : SpanNames) (k : IsPlainSpan m (ahead T)) where
    abbrev opening : List Code
    opening = k.front.first ∷ k.front.others

    abbrev inside : List Code
    inside = k.text.first ∷ k.text.others

    abbrev closes : List Code
    closes = k.close.first ∷ k.close.others

    first-place : P1 ≡ moved_by opening T.cursor
    first-place = ap (λ (s : List Code × List Code). moved_by s.0 T.cursor) k.front.cut

    first-ahead : ahead_at P1 ≡ k.front.rest
    first-ahead = ap ahead_at first-place ∙ ahead-moved_by opening k.front.rest T.cursor k.front.whole

    second-place : P2 ≡ moved_by inside P1
    second-place = grind (arith, first-ahead)

    second-ahead : ahead_at P2 ≡ k.text.rest
    second-ahead = ap ahead_at second-place ∙ ahead-moved_by inside k.text.rest P1 (first-ahead ∙ k.text.whole)

    third-place : P3 ≡ moved_by closes P2
    third-place = grind (arith, second-ahead)

    last-place : P3 ≡ moved_by closes (moved_by inside (moved_by opening T.cursor))
    last-place = third-place ∙ ap (moved_by closes) (second-place ∙ ap (moved_by inside) first-place)

    run-no-line : (p : Place) → StretchRun (is_value m) (ahead_at p) → code_before (past_run m p) ≡ Some line_feed → ⊥
    run-no-line p r h = within-line (is_value m) (not-ending m other) (ahead_at p) p refl r h

    text-no-line : code_before P2 ≡ Some line_feed → ⊥
    text-no-line h = grind (arith, within-line, text-parts, first-ahead)

    -- the span is passed, with its events
    span-past : (start from to : Point) → start ≡ point_of T.cursor → from ≡ exit_point P1 →
        ((code_before P1 ≡ Some line_feed → ⊥) → from ≡ point_of P1) → to ≡ exit_point P2 →
        ((code_before P2 ≡ Some line_feed → ⊥) → to ≡ point_of P2) →
        with_span names start from to (record T { cursor = P3 }) ≡ past None (span_tree m names (ahead T) k) T
    span-past start from to at exit1 point1 exit2 point2 =
        let a : start ≡ k.front.first.start = at ∙ point_ahead T.cursor k.front.first (k.front.others ++ k.front.rest) k.front.whole in
        let b : from ≡ stop_of document_start opening =
        exit1 ∙ ap exit_point first-place ∙ stop-moved document_start k.front.first k.front.others k.front.rest T.cursor k.front.whole in
        let c : from ≡ k.text.first.start = point1 (run-no-line T.cursor k.front) ∙ point_ahead P1 k.text.first (k.text.others ++ k.text.rest) (first-ahead ∙ k.text.whole) in
        let d : to ≡ stop_of document_start inside =
        exit2 ∙ ap exit_point second-place ∙ stop-moved document_start k.text.first k.text.others k.text.rest P1 (first-ahead ∙ k.text.whole) in
        let e : to ≡ k.close.first.start = point2 text-no-line ∙ point_ahead P2 k.close.first (k.close.others ++ k.close.rest) (second-ahead ∙ k.close.whole) in
        let f : exit_point P3 ≡ stop_of document_start closes =
        ap exit_point third-place ∙ stop-moved document_start k.close.first k.close.others k.close.rest P2 (second-ahead ∙ k.close.whole) in
        span-placed names start from to P3 T
        ∙ ap (λ x. placed names x from from to to (exit_point P3) (exit_point P3) P3 T) a
        ∙ ap (λ x. placed names k.front.first.start x from to to (exit_point P3) (exit_point P3) P3 T) b
        ∙ ap (λ x. placed names k.front.first.start (stop_of document_start opening) x to to (exit_point P3) (exit_point P3) P3 T) c
        ∙ ap (λ x. placed names k.front.first.start (stop_of document_start opening) k.text.first.start x to (exit_point P3) (exit_point P3) P3 T) d
        ∙ ap (λ x. placed names k.front.first.start (stop_of document_start opening) k.text.first.start (stop_of document_start inside) x (exit_point P3) (exit_point P3) P3 T) e
        ∙ ap (λ x. placed names k.front.first.start (stop_of document_start opening) k.text.first.start (stop_of document_start inside) k.close.first.start x x P3 T) f
        ∙ ap (λ x. placed names k.front.first.start (stop_of document_start opening) k.text.first.start (stop_of document_start inside) k.close.first.start (stop_of document_start closes) (stop_of document_start closes) x T) last-place
        ∙ placed-past m names T k

    -- and read
    span-reads : (reading : TreeReading) (allowed : ℕ → Bool) (V : Tokenizer) → reading (ahead T) ≡ span_of m names allowed (ahead T) →
        allowed (length opening) ≡ true → V ≡ past None (span_tree m names (ahead T) k) T → Reads reading None T.tokenize_state T V
    span-reads reading allowed V same h over =
        let tree : Forest = span_tree m names (ahead T) k in
        let whole : ahead T ≡ leaf_codes tree ++ k.close.rest = sym (tree-codes m names T k) in
        record {
          tree = tree;
          rest = k.close.rest;
          holds = same ∙ span-is m other names (ahead T) k allowed h;
          left = over ∙ ap (past None tree) (sym (scratched-same T));
          whole = whole;
          after = ap ahead over ∙ ahead-past None tree T k.close.rest whole;
        }

-- By the marker.

run-here : (p : Code → Bool) (cs : List Code) → next_is p cs ≡ true → StretchRun p cs
run-here p cs h = grind (arith, run-of)

next-other : (m n : ℕ) (cs : List Code) → (m == n) ≡ false → next_is (is_value m) cs ≡ true → next_is (is_value n) cs ≡ false
next-other m n cs e h = grind (arith, other-value)

next-here : (T : Tokenizer) (m : ℕ) → current_of T ≡ Some m → next_is (is_value m) (ahead T) ≡ true
next-here T m e = let a : IsAhead T.cursor m = ahead_some T.cursor m e in ap (next_is (is_value m)) a.codes ∙ eq-eqb a.code.value m a.value

-- nothing bars a span
free : (T : Tokenizer) (m : ℕ) → is_barred m T ≡ false →
    (follows_escape T.events || not (is_some_code (is_value m) (code_just_before T))) ≡ true
free T m h = sym (barred-is m T) ∙ ap not h

code-here : (T : Tokenizer) → current_of T ≡ Some 96 → code_is_on T ≡ true → is_barred 96 T ≡ false →
    span_at T (ahead T) ≡ span_of 96 code_names (λ n. true) (ahead T)
code-here T e on bare = grind (arith, either-first, here-off, and_left, next-other, next-here, here-on, free)

math-here : (T : Tokenizer) → current_of T ≡ Some 36 → math_is_on T ≡ true → is_barred 36 T ≡ false →
    span_at T (ahead T) ≡ span_of 36 math_names (λ n. single_dollar T || nat_lt 1 n) (ahead T)
math-here T e on bare = grind (arith, either-second, here-off, and_left, next-other, next-here, here-on, free)

more-than-one : (n : ℕ) → nat_lt 1 (suc (suc n)) ≡ true
more-than-one n = grind (arith, nat_tests, common_steps)

leading-more : (m : ℕ) (c : Code) (cs : List Code) → c.value ≡ m → leading m (c ∷ cs) ≡ suc (leading m cs)
leading-more m c cs e = ap (λ b. if b then suc (leading m cs) else 0) (eq-eqb c.value m e)

two-here : (m : ℕ) (p : Place) → code_at p ≡ Some m → code_at (moved p) ≡ Some m → nat_lt 1 (leading m (ahead_at p)) ≡ true
two-here m p e h = grind (arith, ahead_some p m, ahead_some (moved p) m, leading-more m, more-than-one (leading m (ahead_at (moved (moved p)))))

or-so : (a b c : Bool) → a || b ≡ true → (b ≡ true → c ≡ true) → a || c ≡ true
or-so a b c h k = grind arith

not-so : (b : Bool) → not b ≡ true → b ≡ false
not-so b h = grind arith

-- a span that is passed: where it begins, and where its text stands
record SpanPassed (m : ℕ) (T : Tokenizer) (start from to : Point) : Type 0 where
  same : leading m (ahead_at (past_span_text m (past_run m T.cursor))) ≡ leading m (ahead T)
  begin : start ≡ point_of T.cursor
  opened : from ≡ exit_point (past_run m T.cursor)
  inner : (code_before (past_run m T.cursor) ≡ Some line_feed → ⊥) → from ≡ point_of (past_run m T.cursor)
  ended : to ≡ exit_point (past_span_text m (past_run m T.cursor))
  close : (code_before (past_span_text m (past_run m T.cursor)) ≡ Some line_feed → ⊥) → to ≡ point_of (past_span_text m (past_run m T.cursor))

module _ (T V : Tokenizer) (m : ℕ) (here : current_of T ≡ Some m) (begins : begins_span m T ≡ true) (start from to : Point) (passes : SpanPassed m T start from to) (left : V ≡ with_span (names_for m) start from to (record T { cursor = past_run m (past_span_text m (past_run m T.cursor)) })) where
  by-names : (m == 10) ≡ false → (names : SpanNames) (allowed : ℕ → Bool) → names_for m ≡ names →
      span_at T (ahead T) ≡ span_of m names allowed (ahead T) → allowed (leading m (ahead T)) ≡ true →
      Reads (span_at T) None T.tokenize_state T V
  by-names other names allowed named reads h =
      let k : IsPlainSpan m (ahead T) = plain-here m other T (run-here (is_value m) (ahead T) (next-here T m here)) passes.same in
      let size : length (k.front.first ∷ k.front.others) ≡ leading m (ahead T) = sym (ap (λ (s : List Code × List Code). length s.0) k.front.cut) ∙ run-length m (ahead T) in
      span-reads m other T names k (span_at T) allowed V reads (ap allowed size ∙ h)
      (left
      ∙ ap (λ n. with_span n start from to (record T { cursor = past_run m (past_span_text m (past_run m T.cursor)) })) named
      ∙ span-past m other T names k start from to passes.begin passes.opened passes.inner passes.ended passes.close)

  opens : opens_span m T ≡ true
  opens = and-left (opens_span m T) (not (is_barred m T)) begins

  bare : is_barred m T ≡ false
  bare = not-so (is_barred m T) (and-right (opens_span m T) (not (is_barred m T)) begins)

  by-code : (m == 96) ≡ true → Reads (span_at T) None T.tokenize_state T V
  by-code e = grind (arith, eqb-true m 96 e, if-true (m == 96) (code_is_on T), if-true (m == 96) code_names math_names, opens, by-names, code-here T, bare)

  by-math : (m == 96) ≡ false → Reads (span_at T) None T.tokenize_state T V
  by-math e =
      let rest : ((m == 36) && (math_is_on T && (single_dollar T || is_some_value 36 (code_at (moved T.cursor))))) ≡ true = sym (if-false (m == 96) (code_is_on T) _ e) ∙ opens in
      let math : m ≡ 36 = eqb-true m 36 (and-left (m == 36) _ rest) in
      let on : math_is_on T ≡ true = and-left (math_is_on T) _ (and-right (m == 36) _ rest) in
      let long : (single_dollar T || is_some_value 36 (code_at (moved T.cursor))) ≡ true = and-right (math_is_on T) _ (and-right (m == 36) _ rest) in
      let there : current_of T ≡ Some 36 = here ∙ ap (λ n. Some n) math in
      by-names (ap (λ n. n == 10) math) math_names (λ n. single_dollar T || nat_lt 1 n) (if-false (m == 96) code_names math_names e)
      (math-here T there on (ap (λ n. is_barred n T) (sym math) ∙ bare) ∙ ap (λ n. span_of n math_names (λ k. single_dollar T || nat_lt 1 k) (ahead T)) (sym math))
      (ap (λ n. single_dollar T || nat_lt 1 (leading n (ahead T))) math
      ∙ or-so (single_dollar T) (is_some_value 36 (code_at (moved T.cursor))) (nat_lt 1 (leading 36 (ahead T))) long (λ h. two-here 36 T.cursor there (marker-here 36 (code_at (moved T.cursor)) h)))

  by-marker : (b : Bool) → (m == 96) ≡ b → Reads (span_at T) None T.tokenize_state T V
  by-marker b e = grind (arith, by-code, by-math)

  passes-reads : Reads (span_at T) None T.tokenize_state T V
  passes-reads = by-marker (m == 96) refl

-- so with the places that are passed, the sizes of both runs, and the points
pub record SpanWalks (m : ℕ) (T : Tokenizer) (behind inside past : Place) (size closing : ℕ) (start from to : Point) : Type 0 where
  pub first : behind ≡ past_run m T.cursor
  pub second : inside ≡ past_span_text m behind
  pub third : past ≡ past_run m inside
  pub opening : size ≡ leading m (ahead_at T.cursor)
  pub closes : closing ≡ leading m (ahead_at inside)
  pub same : closing ≡ size
  pub begin : start ≡ point_of T.cursor
  pub opened : from ≡ exit_point behind
  pub inner : (code_before behind ≡ Some line_feed → ⊥) → from ≡ point_of behind
  pub ended : to ≡ exit_point inside
  pub close : (code_before inside ≡ Some line_feed → ⊥) → to ≡ point_of inside

-- it is read
pub walk-reads : (T V : Tokenizer) (m : ℕ) (behind inside past : Place) (size closing : ℕ) (start from to : Point) → current_of T ≡ Some m →
    begins_span m T ≡ true → SpanWalks m T behind inside past size closing start from to →
    V ≡ with_span (names_for m) start from to (record T { cursor = past }) → Reads (span_at T) None T.tokenize_state T V
walk-reads T V m behind inside past size closing start from to here begins w left = grind (arith, passes-reads)

-- Text is passed as far as a stretch goes.

stops-are : (m : ℕ) (c : Code) → stops (m ∷ []) c.value ≡ not (is_text m c)
stops-are m c = grind arith

stretch-is : (m : ℕ) (cs : List Code) → stretch (m ∷ []) cs ≡ (span (is_text m) cs).0
stretch-is m [] = refl
stretch-is m (c ∷ cs) = grind (arith, stretch-goes, stops-are, span-takes, stretch-stops, span-none, stretch-is m cs)

pub text-passed : (m : ℕ) (p : Place) → past_stretch (m ∷ []) p ≡ past_span_text m p
unfolding past_stretch
text-passed m p = walked-moved (stretch (m ∷ []) (ahead_at p)) p ∙ ap (λ cs. moved_by cs p) (stretch-is m (ahead_at p))
