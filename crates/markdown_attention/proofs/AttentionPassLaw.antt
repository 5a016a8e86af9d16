-- What one edit for each run leaves of the events of a tree: those of the tree with its pairs grouped.
use Rattle.std.proofs.Common.{◌≡◌, ℕ, suc, ◌+◌, ◌-◌, Bool, true, false, List, ◌∷◌, ◌++◌, length, drop, map, Option, Some, None, if◌then◌else◌, refl, sym, ap, subst, ◌∙◌, arith, append_assoc, append-nil, []}
use Rattle.std.specs.Option.{option_map}
use Rattle.std.proofs.lemmas.List.{drop_all}
use Rattle.markdown_content.specs.Codes.{Code, stop_of, document_start}
use Rattle.markdown_engine_events.specs.Edits.{moved_number, edited_from, edited}
use Rattle.markdown_engine.specs.Operations.{link_back}
use Rattle.markdown_engine.specs.PastTree.{appended_from}
use Rattle.markdown_content.specs.Tree.{Forest, empty, leaf_then, group_then, leaf, event, event_count, start_of}
use Rattle.markdown_event.specs.declared.event.Content.{Content}
use Rattle.markdown_event.specs.declared.event.Event.{Event}
use Rattle.markdown_event.specs.declared.event.Kind.TheVariants as Kind
use Rattle.markdown_event.specs.declared.event.Name.{Name}
use Rattle.markdown_event.specs.declared.event.Name.TheVariants as N
use Rattle.markdown_event.specs.declared.event.Point.{Point}
use Rattle.markdown_engine_events.specs.declared.util.edit_map.Edit.{Edit}
use Rattle.markdown_engine_events.proofs.EditLemmas.{start}
use Rattle.markdown_engine_events.proofs.EditSteps.{AreOfTwo, Fresh, OneStays, one-stays, TwoStay, two-stay, TwoGo, two-go, drop-next, drop-part}
use Rattle.markdown_engine.proofs.TreeEvents.{length-appended_from}
use Rattle.markdown_model.specs.Setting.{Setting}
use Rattle.markdown_model.specs.Runs.{Run, run_of, runs_of}
use Rattle.markdown_model.specs.Pairs.{Pair}
use Rattle.markdown_model.specs.BracketGroups.{item, opens, closes, Token, run_tokens, assembled, tokens_of, paired}
use Rattle.markdown_attention.specs.RunsRead.{is_run, opens_run}
use Rattle.markdown_attention.specs.TokenWord.{word_events, word_count, word_link, closed_events, opened_events, closed_all, opened_all, left_over, cut_events, run_events, begins_run, IsPassLog, IsFlat, IsPairable, IsLogged}
use Rattle.markdown_attention.proofs.BracketEventsOfGroups.{flat-events, flat-count, length-word, word-append}
use Rattle.markdown_attention.proofs.ContainerBrackets.{run-name, tokens-empty, tokens-run, tokens-leaf, tokens-group}

-- The tokens of one run.

abbrev run_word : List (List Code) → List Code → List (List Code) → List Token
run_word front kept back = map closes front ++ (item (leaf N.Data kept) ∷ map opens back)

opens-events : (back : List (List Code)) (n : ℕ) (p : Option ℕ) → word_events n p (map opens back) ≡ opened_all back
opens-events [] n p = refl
opens-events (cs ∷ more) n p = ap (λ es. opened_events cs ++ es) (opens-events more (n + 4) p)

opens-link : (back : List (List Code)) (n : ℕ) (p : Option ℕ) → word_link n p (map opens back) ≡ p
opens-link [] n p = refl
opens-link (cs ∷ more) n p = opens-link more (n + 4) p

cut-word : (front : List (List Code)) (kept : List Code) (back : List (List Code)) (n : ℕ) (p : Option ℕ) →
    word_events n p (run_word front kept back) ≡ cut_events front kept back
cut-word [] [] back n p = opens-events back (n + 0) p
cut-word [] (c ∷ cs) back n p = ap (λ es. left_over (c ∷ cs) ++ es) (opens-events back (n + 2) p)
cut-word (f ∷ fs) kept back n p =
    ap (λ es. closed_events f ++ es) (cut-word fs kept back (n + 4) p) ∙ sym (append_assoc (closed_events f) (closed_all fs) (left_over kept ++ opened_all back))

cut-link : (front : List (List Code)) (kept : List Code) (back : List (List Code)) (n : ℕ) (p : Option ℕ) →
    word_link n p (run_word front kept back) ≡ p
cut-link [] [] back n p = opens-link back (n + 0) p
cut-link [] (c ∷ cs) back n p = opens-link back (n + 2) p
cut-link (f ∷ fs) kept back n p = cut-link fs kept back (n + 4) p

pub run-word : (ps : List Pair) (i : ℕ) (r : Run) (n : ℕ) (p : Option ℕ) →
    word_events n p (run_tokens ps i r) ≡ run_events ps i r.codes
unfolding run_events
run-word ps i r n p = grind (arith, cut-word)

run-link : (ps : List Pair) (i : ℕ) (r : Run) (n : ℕ) (p : Option ℕ) → word_link n p (run_tokens ps i r) ≡ p
run-link ps i r n p = grind (arith, cut-link)

pub run-codes : (s : Setting) (cs : List Code) → (run_of s cs).codes ≡ cs
unfolding run_of
run-codes s [] = refl
run-codes s (c ∷ cs) = refl

no-link : (c : Content) → ◌≡◌ {A = Option Content} (Some c) None → ⊥
no-link c k = cc

-- The edits.

begins-first : (xs : List Event) (e : Event) (rest : List Event) (b : Bool) → xs ≡ e ∷ rest → opens_run e ≡ b →
    begins_run xs ≡ b
begins-first xs e rest b h o = ap begins_run h ∙ o

module _ (es : List Event) (log : List Edit) (comes : ℕ → List Event) (is_log : IsPassLog es log comes) where
  abbrev runs_at : ℕ → Bool
  runs_at k = begins_run (drop k es)

  pub runs-of-two : AreOfTwo log runs_at comes
  runs-of-two = record { added = is_log.added; removed = is_log.removed }

  abbrev FreshForRuns : ℕ → Type 0
  FreshForRuns n = Fresh log runs_at comes runs-of-two n

  -- what stands at the next event
  second : (n : ℕ) (e x : Event) (rest : List Event) → drop n es ≡ e ∷ x ∷ rest → opens_run x ≡ false → runs_at (n + 1) ≡ false
  second n e x rest h k = begins-first (drop (n + 1) es) x rest false (drop-next n es e (x ∷ rest) h) k

  -- past an event that stays
  abbrev OneStaysForRuns : ℕ → Event → List Event → Type 0
  OneStaysForRuns n e rest = OneStays log runs_at comes runs-of-two es n e rest

  step : (n : ℕ) (e : Event) (rest : List Event) → drop n es ≡ e ∷ rest → opens_run e ≡ false → FreshForRuns n → OneStaysForRuns n e rest
  step n e rest h o f = one-stays log runs_at comes runs-of-two es n e rest h (begins-first (drop n es) e rest false h o) f

  -- past two events that stay
  abbrev TwoStayForRuns : ℕ → Event → Event → List Event → Type 0
  TwoStayForRuns n e x rest = TwoStay log runs_at comes runs-of-two es n e x rest

  both : (n : ℕ) (e x : Event) (rest : List Event) → drop n es ≡ e ∷ x ∷ rest → opens_run e ≡ false →
      opens_run x ≡ false → FreshForRuns n → TwoStayForRuns n e x rest
  both n e x rest h o k f =
      two-stay log runs_at comes runs-of-two es n e x rest h (begins-first (drop n es) e (x ∷ rest) false h o) (second n e x rest h k) f

  -- past a run
  abbrev TwoGoForRuns : ℕ → Event → Event → List Event → Type 0
  TwoGoForRuns n e x rest = TwoGo log runs_at comes runs-of-two es n e x rest

  run-cut : (n : ℕ) (e x : Event) (rest : List Event) → drop n es ≡ e ∷ x ∷ rest → opens_run e ≡ true →
      opens_run x ≡ false → TwoGoForRuns n e x rest
  run-cut n e x rest h o k =
      two-go log runs_at comes runs-of-two es n e x rest h (begins-first (drop n es) e (x ∷ rest) true h o) (second n e x rest h k)

  -- Rows.

  module _ (s : Setting) (pairs_of : List Run → List Pair) where
    abbrev tokens : Forest → List Pair → ℕ → List Token
    tokens t ps i = tokens_of s pairs_of t ps i

    -- a row of the events: those from n on, followed by others; its first event is to have number m
    record RunRowHere (n m : ℕ) (ps : List Pair) (i : ℕ) (previous : Option ℕ) (row : Forest) (tail : List Event) : Type 0 where
      there : drop n es ≡ appended_from n previous row ++ tail
      placed : start log n ≡ m
      fresh : FreshForRuns n
      ready : IsPairable s pairs_of row
      logged : IsLogged s pairs_of comes n ps i row

    -- what the edits leave of it are the events of its tokens
    record LeavesTokens (n m : ℕ) (previous : Option ℕ) (row : Forest) (tail : List Event) (w : List Token) : Type 0 where
      events : edited_from log n (appended_from n previous row ++ tail) ≡ word_events m (option_map (moved_number log) previous) w ++ edited_from log (n + event_count row) tail
      placed : start log (n + event_count row) ≡ m + word_count w
      fresh : FreshForRuns (n + event_count row)

    abbrev RunRowLaw : Forest → Type 0
    RunRowLaw row = (n m : ℕ) (ps : List Pair) (i : ℕ) (previous : Option ℕ) (tail : List Event) → RunRowHere n m ps i previous row tail → LeavesTokens n m previous row tail (tokens row ps i)

    by-tokens : (n m : ℕ) (previous : Option ℕ) (row : Forest) (tail : List Event) (v w : List Token) → v ≡ w →
        LeavesTokens n m previous row tail w → LeavesTokens n m previous row tail v
    by-tokens n m previous row tail v w e l = subst (λ (x : List Token). LeavesTokens n m previous row tail x) (sym e) l

    law-empty : RunRowLaw empty
    law-empty n m ps i previous tail h = grind (arith, by-tokens, tokens-empty)

    leaf-other : (name : Name) (cs : List Code) (rest : Forest) → is_run name ≡ false → RunRowLaw rest →
        RunRowLaw (leaf_then name None cs rest)
    leaf-other name cs rest other law n m ps i previous tail h =
        let e : Event = event Kind.Enter name (start_of cs) in
        let x : Event = event Kind.Exit name (stop_of document_start cs) in
        let q : Option ℕ = option_map (moved_number log) previous in
        let W : List Token = tokens rest ps i in
        let p : TwoStayForRuns n e x (appended_from (n + 2) previous rest ++ tail) = both n e x (appended_from (n + 2) previous rest ++ tail) h.there other refl h.fresh in
        let r : LeavesTokens (n + 2) (m + 2) previous rest tail W =
        law (n + 2) (m + 2) ps i previous tail (record { there = p.there; placed = omega (arith, p.placed, h.placed); fresh = p.fresh; ready = h.ready.1; logged = h.logged.1.1 other }) in
        let same : n + 2 + event_count rest ≡ n + (2 + event_count rest) = omega arith in
        by-tokens n m previous (leaf_then name None cs rest) tail (tokens (leaf_then name None cs rest) ps i) (item (leaf_then name None cs empty) ∷ W) (tokens-leaf s pairs_of name None cs rest ps i other) (record {
          events = p.events ∙ ap (λ xs. e ∷ x ∷ xs) (r.events ∙ ap (λ k. word_events (m + 2) q W ++ edited_from log k tail) same);
          placed = ap (start log) (sym same) ∙ r.placed ∙ omega arith;
          fresh = subst (λ (k : ℕ). FreshForRuns k) same r.fresh;
        })

    leaf-linked : (name : Name) (c : Content) (cs : List Code) (rest : Forest) → is_run name ≡ false → RunRowLaw rest →
        RunRowLaw (leaf_then name (Some c) cs rest)
    leaf-linked name c cs rest other law n m ps i previous tail h =
        let e : Event = record { kind = Kind.Enter; name = name; point = start_of cs; link = Some (link_back previous c) } in
        let x : Event = event Kind.Exit name (stop_of document_start cs) in
        let q : Option ℕ = option_map (moved_number log) previous in
        let e2 : Event = record { kind = Kind.Enter; name = name; point = start_of cs; link = Some (link_back q c) } in
        let W : List Token = tokens rest ps i in
        let p : TwoStayForRuns n e x (appended_from (n + 2) (Some n) rest ++ tail) = both n e x (appended_from (n + 2) (Some n) rest ++ tail) h.there other refl h.fresh in
        let r : LeavesTokens (n + 2) (m + 2) (Some n) rest tail W =
        law (n + 2) (m + 2) ps i (Some n) tail (record { there = p.there; placed = omega (arith, p.placed, h.placed); fresh = p.fresh; ready = h.ready.1; logged = h.logged.1.1 other }) in
        let same : n + 2 + event_count rest ≡ n + (2 + event_count rest) = omega arith in
        by-tokens n m previous (leaf_then name (Some c) cs rest) tail (tokens (leaf_then name (Some c) cs rest) ps i) (item (leaf_then name (Some c) cs empty) ∷ W) (tokens-leaf s pairs_of name (Some c) cs rest ps i other) (record {
          events = p.events
              ∙ ap (λ xs. e2 ∷ x ∷ xs) (r.events ∙ ap (λ k. word_events (m + 2) (Some k) W ++ edited_from log (n + 2 + event_count rest) tail) (p.number ∙ h.placed) ∙ ap (λ k. word_events (m + 2) (Some m) W ++ edited_from log k tail) same);
          placed = ap (start log) (sym same) ∙ r.placed ∙ omega arith;
          fresh = subst (λ (k : ℕ). FreshForRuns k) same r.fresh;
        })

    leaf-run : (cs : List Code) (rest : Forest) → RunRowLaw rest → RunRowLaw (leaf_then N.AttentionSequence None cs rest)
    leaf-run cs rest law n m ps i previous tail h =
        let e : Event = event Kind.Enter N.AttentionSequence (start_of cs) in
        let x : Event = event Kind.Exit N.AttentionSequence (stop_of document_start cs) in
        let q : Option ℕ = option_map (moved_number log) previous in
        let V : List Token = run_tokens ps i (run_of s cs) in
        let W : List Token = tokens rest ps (suc i) in
        let k : ℕ = word_count V in
        let c : TwoGoForRuns n e x (appended_from (n + 2) previous rest ++ tail) =
        run-cut n e x (appended_from (n + 2) previous rest ++ tail) h.there refl refl in
        let is : comes n ≡ word_events m q V = h.logged.0 refl ∙ sym (ap (run_events ps i) (run-codes s cs)) ∙ sym (run-word ps i (run_of s cs) m q) in
        let size : length (comes n) ≡ k = ap length is ∙ length-word V m q in
        let r : LeavesTokens (n + 2) (m + k) previous rest tail W =
        law (n + 2) (m + k) ps (suc i) previous tail (record { there = c.there; placed = omega (arith, c.placed, h.placed, size); fresh = c.fresh; ready = h.ready.1; logged = h.logged.1.0 refl }) in
        let same : n + 2 + event_count rest ≡ n + (2 + event_count rest) = omega arith in
        let Z : List Event = edited_from log (n + (2 + event_count rest)) tail in
        let count : word_count (V ++ W) ≡ k + word_count W = count-append V W in
        by-tokens n m previous (leaf_then N.AttentionSequence None cs rest) tail (tokens (leaf_then N.AttentionSequence None cs rest) ps i) (V ++ W) (tokens-run s pairs_of None cs rest ps i) (record {
          events = c.events
              ∙ ap (λ xs. comes n ++ xs) (r.events ∙ ap (λ j. word_events (m + k) q W ++ edited_from log j tail) same)
              ∙ ap (λ xs. xs ++ (word_events (m + k) q W ++ Z)) is
              ∙ ap (λ o. word_events m q V ++ (word_events (m + k) o W ++ Z)) (sym (run-link ps i (run_of s cs) m q))
              ∙ sym (append_assoc (word_events m q V) (word_events (m + k) (word_link m q V) W) Z)
              ∙ ap (λ xs. xs ++ Z) (sym (word-append V W m q));
          placed = ap (start log) (sym same) ∙ r.placed ∙ omega (arith, count);
          fresh = subst (λ (j : ℕ). FreshForRuns j) same r.fresh;
        })
      where
        count-append : (v w : List Token) → word_count (v ++ w) ≡ word_count v + word_count w
        count-append [] w = omega arith
        count-append (item f ∷ v) w = let y = count-append v w in omega (arith, y)
        count-append (opens o ∷ v) w = let y = count-append v w in omega (arith, y)
        count-append (closes o ∷ v) w = let y = count-append v w in omega (arith, y)

    law-group : (name : Name) (a b : Point) (inside rest : Forest) → RunRowLaw inside → RunRowLaw rest →
        RunRowLaw (group_then name a b inside rest)
    law-group name a b inside rest law_inside law_rest n m ps i previous tail h =
        let ci : ℕ = event_count inside in
        let cr : ℕ = event_count rest in
        let own : List Pair = pairs_of (runs_of s inside) in
        let V : List Token = tokens inside own 0 in
        let W : List Token = tokens rest ps i in
        let A : Forest = assembled V in
        let mi : ℕ = word_count V in
        let count : event_count A ≡ mi = flat-count V h.ready.0.1 in
        let q : Option ℕ = option_map (moved_number log) previous in
        let e : Event = event Kind.Enter name a in
        let x : Event = event Kind.Exit name b in
        let inner : List Event = appended_from (n + 1) None inside in
        let more : List Event = appended_from (n + 2 + ci) previous rest ++ tail in
        let apart : (inner ++ x ∷ appended_from (n + 2 + ci) previous rest) ++ tail ≡ inner ++ x ∷ more = append_assoc inner (x ∷ appended_from (n + 2 + ci) previous rest) tail in
        let s1 : OneStaysForRuns n e (inner ++ x ∷ more) = step n e (inner ++ x ∷ more) (h.there ∙ ap (λ xs. e ∷ xs) apart) h.ready.0.0 h.fresh in
        let r1 : LeavesTokens (n + 1) (m + 1) None inside (x ∷ more) V =
        law_inside (n + 1) (m + 1) own 0 None (x ∷ more) (record { there = s1.there; placed = omega (arith, s1.placed, h.placed); fresh = s1.fresh; ready = h.ready.1.0; logged = h.logged.0 }) in
        let k : ℕ = n + 1 + ci in
        let there2 : drop k es ≡ x ∷ more = drop-part (n + 1) ci es inner (x ∷ more) s1.there (length-appended_from (n + 1) None inside) in
        let s2 : OneStaysForRuns k x more = step k x more there2 refl r1.fresh in
        let next : k + 1 ≡ n + 2 + ci = omega arith in
        let next2 : m + 1 + mi + 1 ≡ m + (2 + event_count A) = omega (arith, count) in
        let r2 : LeavesTokens (n + 2 + ci) (m + (2 + event_count A)) previous rest tail W =
        law_rest (n + 2 + ci) (m + (2 + event_count A)) ps i previous tail (record {
          there = ap (λ j. drop j es) (sym next) ∙ s2.there;
          placed = ap (start log) (sym next) ∙ s2.placed ∙ ap (λ j. j + 1) r1.placed ∙ next2;
          fresh = subst (λ (j : ℕ). FreshForRuns j) next s2.fresh;
          ready = h.ready.1.1;
          logged = h.logged.1;
        }) in
        let same : n + 2 + ci + cr ≡ n + (2 + ci + cr) = omega arith in
        let Z : List Event = edited_from log (n + (2 + ci + cr)) tail in
        let B : List Event = word_events (m + 1) None V in
        let R : List Event = word_events (m + (2 + event_count A)) q W in
        let zero-more : m + (2 + event_count A) ≡ m + (2 + event_count A + 0) = omega arith in
        let from_x : edited_from log k (x ∷ more) ≡ x ∷ R ++ Z =
        s2.events ∙ ap (λ xs. x ∷ xs) (ap (λ j. edited_from log j more) next ∙ r2.events ∙ ap (λ j. R ++ edited_from log j tail) same) in
        by-tokens n m previous (group_then name a b inside rest) tail (tokens (group_then name a b inside rest) ps i) (item (group_then name a b A empty) ∷ W) (tokens-group s pairs_of name a b inside rest ps i) (record {
          events = ap (λ xs. edited_from log n (e ∷ xs)) apart
              ∙ s1.events
              ∙ ap (λ xs. e ∷ xs) (r1.events ∙ ap (λ xs. B ++ xs) from_x)
              ∙ ap (λ xs. e ∷ (xs ++ (x ∷ R ++ Z))) (sym (flat-events V (m + 1) None h.ready.0.1))
              ∙ ap (λ j. e ∷ (appended_from (m + 1) None A ++ (x ∷ (word_events j q W ++ Z)))) zero-more
              ∙ sym (ap (λ xs. e ∷ xs) (ap (λ xs. xs ++ Z) (append_assoc (appended_from (m + 1) None A) (x ∷ []) (word_events (m + (2 + event_count A + 0)) q W)) ∙ append_assoc (appended_from (m + 1) None A) (x ∷ word_events (m + (2 + event_count A + 0)) q W) Z));
          placed = ap (start log) (sym same) ∙ r2.placed ∙ omega arith;
          fresh = subst (λ (j : ℕ). FreshForRuns j) same r2.fresh;
        })

    leaf-plain : (name : Name) (cs : List Code) (rest : Forest) (b : Bool) → is_run name ≡ b → RunRowLaw rest →
        RunRowLaw (leaf_then name None cs rest)
    leaf-plain name cs rest true e law =
        subst (λ (x : Name). RunRowLaw (leaf_then x None cs rest)) (sym (run-name name e)) (leaf-run cs rest law)
    leaf-plain name cs rest false e law = leaf-other name cs rest e law

    -- a run is not linked
    leaf-some : (name : Name) (c : Content) (cs : List Code) (rest : Forest) (b : Bool) → is_run name ≡ b → RunRowLaw rest →
        RunRowLaw (leaf_then name (Some c) cs rest)
    leaf-some name c cs rest true e law = λ n m ps i previous tail h. absurd (no-link c (h.ready.0 e))
    leaf-some name c cs rest false e law = leaf-linked name c cs rest e law

    law : (row : Forest) → RunRowLaw row
    law empty = law-empty
    law (leaf_then name None cs rest) = leaf-plain name cs rest (is_run name) refl (law rest)
    law (leaf_then name (Some c) cs rest) = leaf-some name c cs rest (is_run name) refl (law rest)
    law (group_then name a b inside rest) = law-group name a b inside rest (law inside) (law rest)

    -- the edits leave the events of the tree with its pairs grouped
    pub paired-events : (t : Forest) → es ≡ appended_from 0 None t → IsPairable s pairs_of t →
        IsFlat (tokens_of s pairs_of t (pairs_of (runs_of s t)) 0) →
        IsLogged s pairs_of comes 0 (pairs_of (runs_of s t)) 0 t →
        edited log es ≡ appended_from 0 None (paired s pairs_of t)
    unfolding paired
    paired-events t e ready flat logged =
        let own : List Pair = pairs_of (runs_of s t) in
        let W : List Token = tokens t own 0 in
        let all : es ≡ appended_from 0 None t ++ [] = e ∙ sym (append-nil (appended_from 0 None t)) in
        let r : LeavesTokens 0 0 None t [] W = law t 0 0 own 0 None [] (record { there = all; placed = refl; fresh = λ p k. absurd (omega (arith, k)); ready = ready; logged = logged }) in
        let end : ℕ = 0 + event_count t in
        let size : length es ≡ event_count t = ap length e ∙ length-appended_from 0 None t in
        let left : drop end es ≡ [] = drop_all end es (omega (arith, size)) in
        ap (edited_from log 0) all
        ∙ r.events
        ∙ ap (λ xs. word_events 0 None W ++ xs) (is_log.added end ∙ ap (λ xs. if begins_run xs then comes end else []) left)
        ∙ append-nil (word_events 0 None W)
        ∙ sym (flat-events W 0 None flat)
