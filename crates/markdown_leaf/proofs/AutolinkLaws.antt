-- The laws of the states of an autolink.
use Rattle.std.proofs.Common.{◌≡◌, ℕ, ◌+◌, ◌<◌, ◌≤◌, ◌==◌, ◌&&◌, ◌||◌, nat_le, nat_lt, Bool, true, false, Option, Some, None, List, [], ◌∷◌, length, drop, refl, sym, ap, subst, ◌∙◌, arith}
use Rattle.std.proofs.Math.Bool.{and-false}
use Rattle.std.proofs.lemmas.Bool.{eqb-true, or_left, or_parts, ltb-true, ltb-false, leb-true, le-leb}
use Rattle.std.specs.List.{list_any}
use Rattle.markdown_content.specs.Codes.{Code}
use Rattle.markdown_content.specs.ListFunctions.{rest_of}
use Rattle.markdown_engine.specs.FailedRun.{unwound}
use Rattle.markdown_engine.specs.Operations.{Op, Consume, current_of, ahead, applied, consumed, done, scratched}
use Rattle.markdown_engine.specs.StateRuns.{Stepped, stepped}
use Rattle.markdown_content.specs.Stretch.{is_free}
use Rattle.markdown_engine.proofs.SteadyLemmas.{steady-at}
use Rattle.markdown_plan.proofs.ByteTestLemmas.{no-control}
use Rattle.markdown_engine.specs.Weights.{weight_at}
use Rattle.markdown_event.specs.declared.event.Name.{Name}
use Rattle.markdown_event.specs.declared.event.Name.TheVariants as N
use Rattle.markdown_event.specs.declared.state.State.TheVariants.{Next, Retry}
use Rattle.markdown_event.specs.declared.state.State.TheVariants as State
use Rattle.markdown_event.specs.declared.state.StateName.{StateName}
use Rattle.markdown_event.specs.declared.state.StateName.TheVariants as H
use Rattle.markdown_event.specs.declared.state.StateName.TheVariants.{AutolinkOpen, AutolinkSchemeOrEmailAtext, AutolinkSchemeInsideOrEmailAtext, AutolinkUrlInside, AutolinkEmailAtext, AutolinkEmailAtSignOrDot, AutolinkEmailLabel, AutolinkEmailValue}
use Rattle.markdown_engine.specs.declared.tokenizer.TokenizeState.{TokenizeState}
use Rattle.markdown_engine.specs.declared.tokenizer.Tokenizer.{Tokenizer}
use Rattle.markdown_engine.proofs.LawSteps.{if-step, code-step}
use Rattle.markdown_engine.proofs.OperationFields.{ahead-none, ahead-some, attempts-scratched, left-scratched, BeginsWithValue, some-codes}
use Rattle.markdown_model.specs.CodeTests.{is_value, is_alphanumeric, is_letter, next_is}
use Rattle.markdown_model.specs.Grammar.{any_number, with_first}
use Rattle.markdown_model.specs.LeafConstructs.{uri, email_address, is_scheme_code, is_uri_code, is_local_code}
use Rattle.markdown_plan.specs.ByteTests.{letter_value, alphanumeric_value}
use Rattle.markdown_leaf.specs.Autolink.{all_marks, replaces_nul, rules_here, scheme_value, local_value, uri_value, is_on, opening, ending, start_at, start_step, open_at, scheme_or_at, scheme_inside_at, url_inside_at, url_inside_step, uri_stops, email_atext_at, email_at_sign_or_dot_at, in_label_at, email_label_at}
use Rattle.markdown_leaf.specs.Autolink.{AutolinkInsideReady, FreshReady, LabelReady, no_scheme, link_here, start_ends, ended, up_to_bracket, or_else, scheme_rest, local_rest, domains, is_label_code, label_rest, open_naming, scheme_naming, open_ends, scheme_or_ends, scheme_inside_ends, url_inside_ends}
use Rattle.markdown_leaf.specs.Autolink.{email_atext_ends, email_at_sign_or_dot_ends, email_label_ends, states, email_at_sign_or_dot_words, email_atext_words, email_label_words, email_value_words, open_words, scheme_inside_words, scheme_or_words, start_words, url_inside_words}
use Rattle.markdown_plan.specs.Plan.{Plan, preceded, plan_of, DoesAs, KeepsAs}
use Rattle.markdown_plan.specs.ScratchFields.{with_size}
use Rattle.markdown_plan.specs.LateNames.{Naming, NamesAs, renamed, unopened, preceded_by, opening_of}
use Rattle.markdown_leaf.proofs.AutolinkReadings.{bracket-next, or-next, scheme-more, scheme-colon, scheme-here, scheme-other, scheme-long, uri-first, uri-none, url-more, url-end, local-more, local-at, local-other, email-first, email-none, label-more, label-long, label-unended, label-ended, domains-first, domains-none}
use Rattle.markdown_leaf.proofs.AutolinkCovers.{whole-link, ended-here, ended-other, more-none, more-dot, bracket_ops, link-here, no-link}
use Rattle.markdown_plan.proofs.LateNameSteps.{renamed-entered, renamed-consumed, renamed-scratched, DoesAs-entered}
use Rattle.markdown_plan.proofs.PlanSteps.{EndsAs-plan, DoesAs-then, kept}
use Rattle.markdown_leaf.proofs.RawTextReady.{some-event}
use Rattle.markdown_model.proofs.GrammarSteps.{and-left, and-right}
use Rattle.markdown_engine.specs.StateWords.{StateWords, Words, words_in, Law, GoesIn}
use Rattle.markdown_plan.proofs.LawStepsOfLayer.{GoesOn-map, Goes-plain, Goes-to, Goes-inside, Goes-inside-kept, Goes-over, Goes-no, Goes-named, Goes-refused}
use Rattle.markdown_plan.specs.LayerEquation.{EqualsLayer, AreLawful}

-- Tests.

letter-local : (all : Bool) (c : Code) → is_letter c ≡ true → is_local_code all c ≡ true
letter-local all c h = or_left _ _ (or_left (is_alphanumeric c) _ (or_left (is_letter c) _ h))

or-here : (a b e : Bool) → a || b ≡ true → (a ≡ true → e ≡ true) → (b ≡ true → e ≡ true) → e ≡ true
or-here true b e h f g = f refl
or-here false b e h f g = g h

-- a code of a scheme may stand in an address
pub scheme-local : (all : Bool) (v : ℕ) → scheme_value v ≡ true → local_value all v ≡ true
scheme-local all v h =
    or-here (alphanumeric_value v) _ (local_value all v) h (λ e. or_left _ _ (or_left (alphanumeric_value v) _ e)) (λ e.
    or-here (v == 43) _ (local_value all v) e (λ f. ap (local_value all) (eqb-true v 43 f)) (λ f.
    or-here (v == 45) _ (local_value all v) f (λ g. ap (local_value all) (eqb-true v 45 g)) (λ g.
    or-here (v == 46) false (local_value all v) g (λ i. ap (local_value all) (eqb-true v 46 i)) (λ i. cc))))

pub or-both : (os : List Op) (a b x y : Option (Name × List Op)) → a ≡ preceded_by os x → b ≡ preceded_by os y →
    or_else a b ≡ preceded_by os (or_else x y)
or-both os a b x y e f = ap (λ z. or_else z b) e ∙ ap (λ z. or_else (preceded_by os x) z) f ∙ or-next os x y

pub or-right : (a b x : Option (Name × List Op)) → a ≡ None → b ≡ x → or_else a b ≡ x
or-right a b x e f = ap (λ z. or_else z b) e ∙ f

or-none : (a : Option (Name × List Op)) → or_else a None ≡ a
or-none None = refl
or-none (Some x) = refl

pub or-left : (a b x : Option (Name × List Op)) → a ≡ x → b ≡ None → or_else a b ≡ x
or-left a b x e f = ap (λ z. or_else a z) f ∙ or-none a ∙ e

left-test : (t a b : Bool) → (t && a) ≡ false → (t && b) ≡ false → (a || b) ≡ true → t ≡ false
left-test false a b e f g = refl
left-test true true b e f g = cc
left-test true false b e f g = sym g ∙ f

-- Between the brackets.

inside-kept : (T : Tokenizer) → AutolinkInsideReady T → AutolinkInsideReady (done (Consume ∷ []) T)
unfolding applied
inside-kept T k =
    record { stand_open = k.stand_open; some = k.some; entered = renamed-consumed N.AutolinkProtocol T ∙ ap (λ (x : Tokenizer). applied Consume x) k.entered }

inside-next : (r : TokenizeState) (T : Tokenizer) → AutolinkInsideReady T → AutolinkInsideReady (scratched r (done (Consume ∷ []) T))
unfolding applied scratched
inside-next r T k =
    record {
      stand_open = k.stand_open;
      some = k.some;
      entered = renamed-scratched N.AutolinkProtocol r (applied Consume T) ∙ ap (λ (x : Tokenizer). scratched r x) (renamed-consumed N.AutolinkProtocol T ∙ ap (λ (x : Tokenizer). applied Consume x) k.entered);
    }

inside-entered : (T : Tokenizer) → AutolinkInsideReady (done opening T)
unfolding applied
inside-entered T =
    record { stand_open = refl; some = some-event (done bracket_ops T) N.AutolinkProtocol; entered = renamed-entered N.AutolinkProtocol N.AutolinkProtocol (done bracket_ops T) }

inside-scratched : (r : TokenizeState) (T : Tokenizer) → AutolinkInsideReady T → AutolinkInsideReady (scratched r T)
unfolding scratched
inside-scratched r T k =
    record { stand_open = k.stand_open; some = k.some; entered = renamed-scratched N.AutolinkProtocol r T ∙ ap (λ (x : Tokenizer). scratched r x) k.entered }

-- at the same place with other scratch fields
NamesAs-over : (p q : Naming) (s r : TokenizeState) (T : Tokenizer) → p (ahead T) ≡ q (ahead T) →
    (ok : Bool) (U : Tokenizer) → NamesAs 1 q s (scratched r T) ok U → NamesAs 1 p s T ok U
unfolding scratched renamed unopened unwound
NamesAs-over p q s r T e true U k = record { name = k.name; ops = k.ops; holds = e ∙ k.holds; left = k.left }
NamesAs-over p q s r T e false U k =
    let g = k.grown in
    record {
      none = e ∙ k.none;
      grown = record { added = g.added; events = g.events; edits = g.edits; map = g.map; opened = g.opened; stack = g.stack; same = g.same };
      scratch = k.scratch;
    }

-- an address begins with a code that may stand before its `@`, so before another that is no `@` it is the rest of one
email-here : (all : Bool) (cs : List Code) → next_is (is_value 64) cs ≡ false → email_address all cs ≡ local_rest all cs
email-here all [] h = email-none all [] refl ∙ sym (local-other all [] refl refl)
email-here all (c ∷ cs) h =
    (elim (is_local_code all c) as (λ z. is_local_code all c ≡ z → email_address all (c ∷ cs) ≡ local_rest all (c ∷ cs)) [
      | true ↦ λ i. email-first all c cs i ∙ sym (local-more all c cs i)
      | false ↦ λ i. email-none all (c ∷ cs) i ∙ sym (local-other all (c ∷ cs) i h)
    ]) refl

-- a domain whose first code is a letter or a digit is the rest of a label
domains-here : (c : Code) (cs : List Code) → is_alphanumeric c ≡ true → domains (c ∷ cs) ≡ label_rest 0 false (c ∷ cs)
domains-here c cs h =
    domains-first c cs h
    ∙ sym (label-more 0 false c cs (ap (λ z. z || is_value 45 c) h) ∙ ap (λ z. with_first c (label_rest 1 z cs)) h)

-- whether a label may end does not matter where it goes on
label-goes-on : (k : ℕ) (c : Code) (cs : List Code) → is_label_code c ≡ true → label_rest k true (c ∷ cs) ≡ label_rest k false (c ∷ cs)
label-goes-on k c cs h = label-more k true c cs h ∙ sym (label-more k false c cs h)

or-first : (a b : Bool) → a || b ≡ true → b ≡ false → a ≡ true
or-first true b h l = refl
or-first false b h l = sym l ∙ h

at-least-two : (k : ℕ) (b : Bool) → nat_le 2 k || b ≡ true → b ≡ false → 2 ≤ k
at-least-two k b h l = leb-true 2 k (or-first (nat_le 2 k) b h l)

fresh-kept : (T : Tokenizer) → FreshReady T → FreshReady (done (Consume ∷ []) T)
unfolding applied
fresh-kept T k = record { inside = inside-kept T k.inside; none_yet = k.none_yet }

two-codes : (k : ℕ) (b : Bool) → 1 ≤ k → nat_le 2 (k + 1) || b ≡ true
two-codes k b h = or_left (nat_le 2 (k + 1)) b (le-leb 2 (k + 1) (omega (arith, h)))

fresh-entered : (T : Tokenizer) → T.tokenize_state.size ≡ 0 → FreshReady (done opening T)
unfolding applied
fresh-entered T k = record { inside = inside-entered T; none_yet = k }

-- what the run after the bracket says
open-says : (T : Tokenizer) (ok : Bool) (U : Tokenizer) → T.tokenize_state.size ≡ 0 → open_ends (done opening T) ok U →
    NamesAs 1 (open_naming (replaces_nul T) (all_marks T)) T.tokenize_state (done opening T) ok U
unfolding applied
open-says T ok U k x =
    subst (λ (s : TokenizeState). NamesAs 1 (open_naming (replaces_nul T) (all_marks T)) s (done opening T) ok U) (ap (λ n. with_size n T.tokenize_state) (sym k)) x

module _ (W : Words) (within : EqualsLayer states W) where
  -- on with a state at the same place, with these scratch fields
  goes-over : (k : ℕ) (p q : Naming) (s r : TokenizeState) (T : Tokenizer) (st : StateName) {w : StateWords} → words_in W st ≡ w →
      T.attempts ≡ [] → w.rank (scratched r T) < k → p (ahead T) ≡ q (ahead T) → w.ready (scratched r T) →
      ((ok : Bool) (U : Tokenizer) → w.ends (scratched r T) ok U → NamesAs 1 q s (scratched r T) ok U) →
      GoesIn W (weight_at k T) (NamesAs 1 p s T) (stepped (Retry st) (scratched r T))
  goes-over k p q s r T st {w} say alone less e on closed =
      Goes-plain W (weight_at k T) (NamesAs 1 p s T) (Retry st) {w = w} say (scratched r T) (attempts-scratched r T ∙ alone) on (omega (arith, less, left-scratched r T)) (λ ok U x. NamesAs-over p q s r T e ok U (closed ok U x))

  pub open-law : Law W open_words
  unfolding applied scratched
  open-law T alone k =
      let s : TokenizeState = with_size 0 T.tokenize_state in
      let m : Bool = all_marks T in
      let q : Naming = up_to_bracket N.AutolinkEmail (local_rest m) in
      let P : Stepped → Type 0 = GoesIn W (weight_at 2 T) (open_ends T) in
      let address : next_is is_letter (ahead T) ≡ false → next_is (is_value 64) (ahead T) ≡ false → P (stepped (Retry AutolinkEmailAtext) T) = λ h l.
      Goes-over W 2 1 (open_naming (replaces_nul T) m) q s T (Retry AutolinkEmailAtext) (within AutolinkEmailAtext) alone (omega arith)
      (or-right (up_to_bracket N.AutolinkProtocol (uri (replaces_nul T)) (ahead T)) (up_to_bracket N.AutolinkEmail (email_address m) (ahead T)) (q (ahead T)) (ap (ended N.AutolinkProtocol) (uri-none (replaces_nul T) (ahead T) h)) (ap (ended N.AutolinkEmail) (email-here m (ahead T) l)))
      k (λ ok U x. x) in
      code-step P (current_of T) (λ o. open_at o T)
      (λ e. address (ap (λ cs. next_is is_letter cs) (ahead-none T e)) (ap (λ cs. next_is (is_value 64) cs) (ahead-none T e)))
      (λ c e.
      let b : BeginsWithValue c (ahead T) = ahead-some T c e in
      let cs : List Code = rest_of (ahead T) in
      if-step P (letter_value c) _ _
      (λ h. let letter : is_letter b.code ≡ true = ap letter_value b.value ∙ h in
      Goes-inside-kept W 2 1 (open_naming (replaces_nul T) m) (scheme_naming (replaces_nul T) m 1) s T (Next AutolinkSchemeOrEmailAtext) (within AutolinkSchemeOrEmailAtext) alone refl (some-codes T c e) (omega arith)
      (ap (open_naming (replaces_nul T) m) b.whole ∙ or-both (Consume ∷ []) _ _ _ _ (bracket-next N.AutolinkProtocol (uri (replaces_nul T)) (scheme_rest (replaces_nul T) 1) b.code cs (uri-first (replaces_nul T) b.code cs letter)) (bracket-next N.AutolinkEmail (email_address m) (local_rest m) b.code cs (email-first m b.code cs (letter-local m b.code letter))))
      (fresh-kept T k) (λ ok U x. x))
      (λ h. let letter : is_letter b.code ≡ false = ap letter_value b.value ∙ h in
      if-step P (c == 64) _ _
      (λ l. let at : is_value 64 b.code ≡ true = ap (λ v. v == 64) b.value ∙ l in
      Goes-refused W 2 1 (open_naming (replaces_nul T) m) s T alone
      (ap (open_naming (replaces_nul T) m) b.whole ∙ or-right (up_to_bracket N.AutolinkProtocol (uri (replaces_nul T)) (b.code ∷ cs)) (up_to_bracket N.AutolinkEmail (email_address m) (b.code ∷ cs)) None (ap (ended N.AutolinkProtocol) (uri-none (replaces_nul T) (b.code ∷ cs) letter)) (ap (ended N.AutolinkEmail) (email-none m (b.code ∷ cs) (ap (local_value m) (eqb-true b.code.value 64 at))))))
      (λ l. address (ap (λ xs. next_is is_letter xs) b.whole ∙ letter) (ap (λ xs. next_is (is_value 64) xs) b.whole ∙ ap (λ v. v == 64) b.value ∙ l))))

  pub scheme_or-law : Law W scheme_or_words
  unfolding applied scratched
  scheme_or-law T alone k =
      let s : TokenizeState = with_size 0 T.tokenize_state in
      let m : Bool = all_marks T in
      let P : Stepped → Type 0 = GoesIn W (weight_at 3 T) (scheme_or_ends T) in
      let other : next_is is_scheme_code (ahead T) ≡ false → P (stepped (Retry AutolinkEmailAtext) T) = λ h.
      Goes-over W 3 1 (scheme_naming (replaces_nul T) m 1) (up_to_bracket N.AutolinkEmail (local_rest m)) s T (Retry AutolinkEmailAtext) (within AutolinkEmailAtext) alone (omega arith)
      (or-right _ _ _ (ap (ended N.AutolinkProtocol) (scheme-here (replaces_nul T) 1 (ahead T) h)) refl)
      k (λ ok U x. x) in
      code-step P (current_of T) (λ o. scheme_or_at o T)
      (λ e. other (ap (λ cs. next_is is_scheme_code cs) (ahead-none T e)))
      (λ c e.
      let b : BeginsWithValue c (ahead T) = ahead-some T c e in
      if-step P (scheme_value c) _ _
      (λ h. let here : next_is is_scheme_code (ahead T) ≡ true = ap (λ xs. next_is is_scheme_code xs) b.whole ∙ ap scheme_value b.value ∙ h in
      goes-over 3 (scheme_naming (replaces_nul T) m 1) (scheme_naming (replaces_nul T) m 1) s (with_size 1 T.tokenize_state) T AutolinkSchemeInsideOrEmailAtext (within AutolinkSchemeInsideOrEmailAtext) alone (omega arith) refl
      (record { inside = inside-scratched (with_size 1 T.tokenize_state) T k.inside; some = omega arith; least = here; most = omega arith }) (λ ok U x. x))
      (λ h. other (ap (λ xs. next_is is_scheme_code xs) b.whole ∙ ap scheme_value b.value ∙ h)))

  pub scheme_inside-law : Law W scheme_inside_words
  unfolding applied scratched
  scheme_inside-law T alone k =
      let n : ℕ = T.tokenize_state.size in
      let s : TokenizeState = with_size 0 T.tokenize_state in
      let m : Bool = all_marks T in
      let P : Stepped → Type 0 = GoesIn W (weight_at 2 T) (scheme_inside_ends T) in
      let other : scheme_rest (replaces_nul T) n (ahead T) ≡ None → P (no_scheme T) = λ h.
      goes-over 2 (scheme_naming (replaces_nul T) m n) (up_to_bracket N.AutolinkEmail (local_rest m)) s s T AutolinkEmailAtext (within AutolinkEmailAtext) alone (omega arith)
      (or-right _ _ _ (ap (ended N.AutolinkProtocol) h) refl)
      (record { inside = inside-scratched s T k.inside; none_yet = refl }) (λ ok U x. x) in
      code-step P (current_of T) (λ o. scheme_inside_at o T)
      (λ e. other (ap (scheme_rest (replaces_nul T) n) (ahead-none T e) ∙ scheme-other (replaces_nul T) n [] refl refl))
      (λ c e.
      let b : BeginsWithValue c (ahead T) = ahead-some T c e in
      let cs : List Code = rest_of (ahead T) in
      let more : 1 ≤ length (ahead T) = some-codes T c e in
      if-step P (c == 58) _ _
      (λ h. let colon : is_value 58 b.code ≡ true = ap (λ v. v == 58) b.value ∙ h in
      let two : 2 ≤ n = at-least-two n _ k.least (ap (λ xs. next_is is_scheme_code xs) b.whole ∙ ap scheme_value (eqb-true b.code.value 58 colon)) in
      Goes-inside W 2 1 (scheme_naming (replaces_nul T) m n) (up_to_bracket N.AutolinkProtocol (any_number (is_uri_code (replaces_nul T)))) s s T (Next AutolinkUrlInside) (within AutolinkUrlInside) alone refl more (omega arith)
      (ap (scheme_naming (replaces_nul T) m n) b.whole ∙ or-left _ _ _ (bracket-next N.AutolinkProtocol (scheme_rest (replaces_nul T) n) (any_number (is_uri_code (replaces_nul T))) b.code cs (scheme-colon (replaces_nul T) n b.code cs colon two k.most)) (ap (ended N.AutolinkEmail) (local-other m (b.code ∷ cs) (ap (local_value m) (eqb-true b.code.value 58 colon)) (ap (λ v. v == 64) (eqb-true b.code.value 58 colon)))))
      (inside-next s T k.inside) (λ ok U x. x))
      (λ g. if-step P (scheme_value c && nat_lt n 32) _ _
      (λ h. let here : is_scheme_code b.code ≡ true = ap scheme_value b.value ∙ and-left (scheme_value c) _ h in
      let less : n < 32 = ltb-true n 32 (and-right (scheme_value c) _ h) in
      Goes-inside W 2 1 (scheme_naming (replaces_nul T) m n) (scheme_naming (replaces_nul T) m (n + 1)) s (with_size (n + 1) T.tokenize_state) T (Next AutolinkSchemeInsideOrEmailAtext) (within AutolinkSchemeInsideOrEmailAtext) alone refl more (omega arith)
      (ap (scheme_naming (replaces_nul T) m n) b.whole ∙ or-both (Consume ∷ []) _ _ _ _ (bracket-next N.AutolinkProtocol (scheme_rest (replaces_nul T) n) (scheme_rest (replaces_nul T) (n + 1)) b.code cs (scheme-more (replaces_nul T) n b.code cs here)) (bracket-next N.AutolinkEmail (local_rest m) (local_rest m) b.code cs (local-more m b.code cs (scheme-local m b.code.value here))))
      (record { inside = inside-next (with_size (n + 1) T.tokenize_state) T k.inside; some = omega arith; least = two-codes n _ k.some; most = omega (arith, less) }) (λ ok U x. x))
      (λ h. other (ap (scheme_rest (replaces_nul T) n) b.whole ∙ (elim (is_scheme_code b.code) as (λ z. is_scheme_code b.code ≡ z → scheme_rest (replaces_nul T) n (b.code ∷ cs) ≡ None) [
        | true ↦ λ i. scheme-long (replaces_nul T) n b.code cs i (ltb-false n 32 (ap (λ z. z && nat_lt n 32) (sym (sym (ap scheme_value b.value) ∙ i)) ∙ h))
        | false ↦ λ i. scheme-other (replaces_nul T) n (b.code ∷ cs) i (ap (λ v. v == 58) b.value ∙ g)
      ] refl)))))

  pub url_inside-law : Law W url_inside_words
  unfolding applied scratched
  url_inside-law T alone k =
      let s : TokenizeState = with_size 0 T.tokenize_state in
      let p : Naming = up_to_bracket N.AutolinkProtocol (any_number (is_uri_code (replaces_nul T))) in
      let P : Stepped → Type 0 = GoesIn W (weight_at 1 T) (url_inside_ends T) in
      let none : (cs : List Code) → next_is (is_uri_code (replaces_nul T)) cs ≡ false → next_is (is_value 62) cs ≡ false → p cs ≡ None = λ cs h l. ap (ended N.AutolinkProtocol) (url-end (replaces_nul T) cs h) ∙ ended-other N.AutolinkProtocol cs l in
      code-step P (current_of T) (λ o. url_inside_at o T)
      (λ e. Goes-refused W 1 1 p s T alone (ap p (ahead-none T e) ∙ none [] refl refl))
      (λ c e.
      let b : BeginsWithValue c (ahead T) = ahead-some T c e in
      let cs : List Code = rest_of (ahead T) in
      if-step P (c == 62) _ _
      (λ h. let here : is_value 62 b.code ≡ true = ap (λ v. v == 62) b.value ∙ h in
      subst (λ (x : Tokenizer). P (stepped State.Ok (scratched s (done (ending N.AutolinkProtocol) x)))) k.entered
      (Goes-named W 1 1 p N.AutolinkProtocol (ending N.AutolinkProtocol) s T alone
      (ap p b.whole ∙ ap (ended N.AutolinkProtocol) (url-end (replaces_nul T) (b.code ∷ cs) (ap (uri_value (replaces_nul T)) (eqb-true b.code.value 62 here))) ∙ ended-here N.AutolinkProtocol b.code cs here)))
      (λ g. if-step P (uri_value (replaces_nul T) c) _ _
      (λ h. Goes-inside-kept W 1 1 p p s T (Next AutolinkUrlInside) (within AutolinkUrlInside) alone refl (some-codes T c e) (omega arith)
      (ap p b.whole ∙ bracket-next N.AutolinkProtocol (any_number (is_uri_code (replaces_nul T))) (any_number (is_uri_code (replaces_nul T))) b.code cs (url-more (replaces_nul T) b.code cs (ap (uri_value (replaces_nul T)) b.value ∙ h)))
      (inside-kept T k) (λ ok U x. x))
      (λ h. Goes-refused W 1 1 p s T alone (ap p b.whole ∙ none (b.code ∷ cs) (ap (uri_value (replaces_nul T)) b.value ∙ h) (ap (λ v. v == 62) b.value ∙ g)))))

  pub email_atext-law : Law W email_atext_words
  unfolding applied scratched
  email_atext-law T alone k =
      let s : TokenizeState = with_size 0 T.tokenize_state in
      let m : Bool = all_marks T in
      let p : Naming = up_to_bracket N.AutolinkEmail (local_rest m) in
      let P : Stepped → Type 0 = GoesIn W (weight_at 1 T) (email_atext_ends T) in
      code-step P (current_of T) (λ o. email_atext_at o T)
      (λ e. Goes-refused W 1 1 p s T alone (ap p (ahead-none T e) ∙ ap (ended N.AutolinkEmail) (local-other m [] refl refl)))
      (λ c e.
      let b : BeginsWithValue c (ahead T) = ahead-some T c e in
      let cs : List Code = rest_of (ahead T) in
      let more : 1 ≤ length (ahead T) = some-codes T c e in
      if-step P (c == 64) _ _
      (λ h. Goes-inside-kept W 1 1 p (up_to_bracket N.AutolinkEmail domains) s T (Next AutolinkEmailAtSignOrDot) (within AutolinkEmailAtSignOrDot) alone refl more (omega arith)
      (ap p b.whole ∙ bracket-next N.AutolinkEmail (local_rest m) domains b.code cs (local-at m b.code cs (ap (λ v. v == 64) b.value ∙ h)))
      (fresh-kept T k) (λ ok U x. x))
      (λ g. if-step P (local_value m c) _ _
      (λ h. Goes-inside-kept W 1 1 p p s T (Next AutolinkEmailAtext) (within AutolinkEmailAtext) alone refl more (omega arith)
      (ap p b.whole ∙ bracket-next N.AutolinkEmail (local_rest m) (local_rest m) b.code cs (local-more m b.code cs (ap (local_value m) b.value ∙ h)))
      (fresh-kept T k) (λ ok U x. x))
      (λ h. Goes-refused W 1 1 p s T alone (ap p b.whole ∙ ap (ended N.AutolinkEmail) (local-other m (b.code ∷ cs) (ap (local_value m) b.value ∙ h) (ap (λ v. v == 64) b.value ∙ g))))))

  pub email_at_sign_or_dot-law : Law W email_at_sign_or_dot_words
  unfolding applied scratched
  email_at_sign_or_dot-law T alone k =
      let n : ℕ = T.tokenize_state.size in
      let s : TokenizeState = with_size 0 T.tokenize_state in
      let p : Naming = up_to_bracket N.AutolinkEmail domains in
      let q : Naming = up_to_bracket N.AutolinkEmail (label_rest n false) in
      let P : Stepped → Type 0 = GoesIn W (weight_at 2 T) (email_at_sign_or_dot_ends T) in
      code-step P (current_of T) (λ o. email_at_sign_or_dot_at o T)
      (λ e. Goes-refused W 2 1 p s T alone (ap p (ahead-none T e) ∙ ap (ended N.AutolinkEmail) (domains-none [] refl)))
      (λ c e.
      let b : BeginsWithValue c (ahead T) = ahead-some T c e in
      let cs : List Code = rest_of (ahead T) in
      if-step P (alphanumeric_value c) _ _
      (λ h. Goes-over W 2 1 p q s T (Retry AutolinkEmailValue) (within AutolinkEmailValue) alone (omega arith)
      (ap p b.whole ∙ ap (ended N.AutolinkEmail) (domains-here b.code cs (ap alphanumeric_value b.value ∙ h) ∙ ap (λ m. label_rest m false (b.code ∷ cs)) (sym k.none_yet)) ∙ ap q (sym b.whole))
      (record { inside = k.inside; most = omega (arith, k.none_yet) }) (λ ok U x. x))
      (λ h. Goes-refused W 2 1 p s T alone (ap p b.whole ∙ ap (ended N.AutolinkEmail) (domains-none (b.code ∷ cs) (ap alphanumeric_value b.value ∙ h)))))

  -- at a code of a label, where the link does not hold at any other
  in-label : (well : Bool) (T : Tokenizer) → T.attempts ≡ [] → LabelReady T →
      (next_is is_label_code (ahead T) ≡ false → up_to_bracket N.AutolinkEmail (label_rest T.tokenize_state.size well) (ahead T) ≡ None) →
      GoesIn W (weight_at 1 T) (NamesAs 1 (up_to_bracket N.AutolinkEmail (label_rest T.tokenize_state.size well)) (with_size 0 T.tokenize_state) T) (in_label_at (current_of T) T)
  unfolding applied scratched
  in-label well T alone k end =
      let n : ℕ = T.tokenize_state.size in
      let s : TokenizeState = with_size 0 T.tokenize_state in
      let p : Naming = up_to_bracket N.AutolinkEmail (label_rest n well) in
      let P : Stepped → Type 0 = GoesIn W (weight_at 1 T) (NamesAs 1 p s T) in
      code-step P (current_of T) (λ o. in_label_at o T)
      (λ e. Goes-refused W 1 1 p s T alone (end (ap (λ cs. next_is is_label_code cs) (ahead-none T e))))
      (λ c e.
      let b : BeginsWithValue c (ahead T) = ahead-some T c e in
      let cs : List Code = rest_of (ahead T) in
      let more : 1 ≤ length (ahead T) = some-codes T c e in
      if-step P (nat_lt n 63 && alphanumeric_value c) _ _
      (λ h. let less : n < 63 = ltb-true n 63 (and-left (nat_lt n 63) _ h) in
      let here : is_alphanumeric b.code ≡ true = ap alphanumeric_value b.value ∙ and-right (nat_lt n 63) _ h in
      Goes-inside W 1 1 p (up_to_bracket N.AutolinkEmail (label_rest (n + 1) true)) s (with_size (n + 1) T.tokenize_state) T (Next AutolinkEmailLabel) (within AutolinkEmailLabel) alone refl more (omega arith)
      (ap p b.whole ∙ bracket-next N.AutolinkEmail (label_rest n well) (label_rest (n + 1) (is_alphanumeric b.code)) b.code cs (label-more n well b.code cs (ap (λ z. z || is_value 45 b.code) here)) ∙ ap (λ z. preceded_by (Consume ∷ []) (up_to_bracket N.AutolinkEmail (label_rest (n + 1) z) cs)) here)
      (record { inside = inside-next (with_size (n + 1) T.tokenize_state) T k.inside; most = omega (arith, less) }) (λ ok U x. x))
      (λ g. if-step P (nat_lt n 63 && (c == 45)) _ _
      (λ h. let less : n < 63 = ltb-true n 63 (and-left (nat_lt n 63) _ h) in
      let hyphen : is_value 45 b.code ≡ true = ap (λ v. v == 45) b.value ∙ and-right (nat_lt n 63) _ h in
      let other : is_alphanumeric b.code ≡ false = ap alphanumeric_value (eqb-true b.code.value 45 hyphen) in
      Goes-inside W 1 1 p (up_to_bracket N.AutolinkEmail (label_rest (n + 1) false)) s (with_size (n + 1) T.tokenize_state) T (Next AutolinkEmailValue) (within AutolinkEmailValue) alone refl more (omega arith)
      (ap p b.whole ∙ bracket-next N.AutolinkEmail (label_rest n well) (label_rest (n + 1) (is_alphanumeric b.code)) b.code cs (label-more n well b.code cs (ap (λ z. z || is_value 45 b.code) other ∙ hyphen)) ∙ ap (λ z. preceded_by (Consume ∷ []) (up_to_bracket N.AutolinkEmail (label_rest (n + 1) z) cs)) other)
      (record { inside = inside-next (with_size (n + 1) T.tokenize_state) T k.inside; most = omega (arith, less) }) (λ ok U x. x))
      (λ h. Goes-refused W 1 1 p s T alone (elim (is_label_code b.code) as (λ z. is_label_code b.code ≡ z → p (ahead T) ≡ None) [
        | true ↦ λ i. ap p b.whole ∙ ap (ended N.AutolinkEmail) (label-long n well b.code cs i (ltb-false n 63 (left-test (nat_lt n 63) (alphanumeric_value c) (c == 45) g h (sym (ap (λ v. alphanumeric_value v || v == 45) b.value) ∙ i))))
        | false ↦ λ i. end (ap (λ xs. next_is is_label_code xs) b.whole ∙ i)
      ] refl))))

  pub email_value-law : Law W email_value_words
  email_value-law T alone k =
      in-label false T alone k (λ h. ap (ended N.AutolinkEmail) (label-unended T.tokenize_state.size (ahead T) h))

  pub email_label-law : Law W email_label_words
  unfolding applied scratched renamed
  email_label-law T alone k =
      let n : ℕ = T.tokenize_state.size in
      let s : TokenizeState = with_size 0 T.tokenize_state in
      let p : Naming = up_to_bracket N.AutolinkEmail (label_rest n true) in
      let q : Naming = up_to_bracket N.AutolinkEmail (label_rest n false) in
      let P : Stepped → Type 0 = GoesIn W (weight_at 2 T) (email_label_ends T) in
      let end : (cs : List Code) → next_is is_label_code cs ≡ false → next_is (is_value 46) cs ≡ false → next_is (is_value 62) cs ≡ false → p cs ≡ q cs = λ cs h i j.
      ap (ended N.AutolinkEmail) (label-ended n cs h k.most ∙ more-none cs i) ∙ ended-other N.AutolinkEmail cs j ∙ sym (ap (ended N.AutolinkEmail) (label-unended n cs h)) in
      let on : p (ahead T) ≡ q (ahead T) → P (stepped (Retry AutolinkEmailValue) T) = λ h.
      Goes-over W 2 1 p q s T (Retry AutolinkEmailValue) (within AutolinkEmailValue) alone (omega arith) h k (λ ok U x. x) in
      code-step P (current_of T) (λ o. email_label_at o T)
      (λ e. on (ap p (ahead-none T e) ∙ end [] refl refl refl ∙ ap q (sym (ahead-none T e))))
      (λ c e.
      let b : BeginsWithValue c (ahead T) = ahead-some T c e in
      let cs : List Code = rest_of (ahead T) in
      if-step P (c == 46) _ _
      (λ h. let dot : is_value 46 b.code ≡ true = ap (λ v. v == 46) b.value ∙ h in
      Goes-inside W 2 1 p (up_to_bracket N.AutolinkEmail domains) s s T (Next AutolinkEmailAtSignOrDot) (within AutolinkEmailAtSignOrDot) alone refl (some-codes T c e) (omega arith)
      (ap p b.whole ∙ ap (ended N.AutolinkEmail) (label-ended n (b.code ∷ cs) (ap (λ v. alphanumeric_value v || v == 45) (eqb-true b.code.value 46 dot)) k.most) ∙ more-dot b.code cs dot)
      (record { inside = inside-next s T k.inside; none_yet = refl }) (λ ok U x. x))
      (λ g. if-step P (c == 62) _ _
      (λ h. let here : is_value 62 b.code ≡ true = ap (λ v. v == 62) b.value ∙ h in
      Goes-named W 2 1 p N.AutolinkEmail (ending N.AutolinkEmail) s T alone
      (ap p b.whole ∙ ap (ended N.AutolinkEmail) (label-ended n (b.code ∷ cs) (ap (λ v. alphanumeric_value v || v == 45) (eqb-true b.code.value 62 here)) k.most ∙ more-none (b.code ∷ cs) (ap (λ v. v == 46) (eqb-true b.code.value 62 here))) ∙ ended-here N.AutolinkEmail b.code cs here))
      (λ h. on (ap p b.whole ∙ (elim (is_label_code b.code) as (λ z. is_label_code b.code ≡ z → p (b.code ∷ cs) ≡ q (b.code ∷ cs)) [
        | true ↦ λ i. ap (ended N.AutolinkEmail) (label-goes-on n b.code cs i)
        | false ↦ λ i. end (b.code ∷ cs) i (ap (λ v. v == 46) b.value ∙ g) (ap (λ v. v == 62) b.value ∙ h)
      ]) refl ∙ ap q (sym b.whole)))))

  -- past the bracket, the leaf entered
  link-opened : (T : Tokenizer) → 1 ≤ length (ahead T) → T.attempts ≡ [] → T.tokenize_state.size ≡ 0 →
      plan_of (link_here T) (ahead T) ≡ preceded bracket_ops (opening_of (open_naming (replaces_nul T) (all_marks T)) (drop 1 (ahead T))) →
      GoesIn W (weight_at 3 T) (KeepsAs 0 (plan_of (link_here T)) T) (stepped (Next AutolinkOpen) (done opening T))
  link-opened T more alone k e =
      let s : TokenizeState = T.tokenize_state in
      let p : Plan = plan_of (link_here T) in
      let E : Bool → Tokenizer → Type 0 = KeepsAs 0 p T in
      subst (λ (V : Tokenizer). FreshReady V → ((ok : Bool) (U : Tokenizer) → open_ends V ok U → E ok U) → GoesIn W (weight_at 3 T) E (stepped (Next AutolinkOpen) V)) (kept opening T)
      (Goes-to W 3 E opening s T T (Next AutolinkOpen) (within AutolinkOpen) alone refl more (omega arith))
      (fresh-entered T k)
      (λ ok U x. DoesAs-then 0 p (opening_of (open_naming (replaces_nul T) (all_marks T))) bracket_ops s s T refl e ok U
      (subst (λ (V : Tokenizer). DoesAs 1 (opening_of (open_naming (replaces_nul T) (all_marks T))) s V ok U) (sym (kept bracket_ops T))
      (DoesAs-entered 1 (opening_of (open_naming (replaces_nul T) (all_marks T))) (open_naming (replaces_nul T) (all_marks T)) N.AutolinkProtocol s (done bracket_ops T) refl ok U (open-says T ok U k x))))

  pub start-law : Law W start_words
  start-law T alone k =
      let p : Plan = plan_of (link_here T) in
      let E : Bool → Tokenizer → Type 0 = KeepsAs 0 p T in
      let P : Stepped → Type 0 = GoesIn W (weight_at 3 T) E in
      GoesOn-map W (weight_at 3 T) E (start_ends T) (start_step T) (λ ok U x. EndsAs-plan (link_here T) (whole-link (is_on T) (rules_here T)) T.tokenize_state T ok U x)
      (code-step P (current_of T) (λ o. start_at o T)
      (λ e. Goes-no W 3 0 p T alone (ap p (ahead-none T e) ∙ no-link (is_on T) (rules_here T) [] (and-false (is_on T))))
      (λ c e.
      let b : BeginsWithValue c (ahead T) = ahead-some T c e in
      if-step P (is_on T && (c == 60)) _ _
      (λ h. link-opened T (some-codes T c e) alone k (ap p b.whole ∙ link-here (is_on T) (rules_here T) b.code (rest_of (ahead T)) (and-left (is_on T) _ h) (ap (λ v. v == 60) b.value ∙ and-right (is_on T) _ h)))
      (λ h. Goes-no W 3 0 p T alone (ap p b.whole ∙ no-link (is_on T) (rules_here T) (b.code ∷ rest_of (ahead T)) (ap (λ v. is_on T && (v == 60)) b.value ∙ h)))))

-- over a code that is none of those at which a URI ends, a call does no more than pass it
pub uri-steady : (T : Tokenizer) (set : List ℕ) → Some uri_stops ≡ Some set → is_free set (current_of T) ≡ true →
    url_inside_step T ≡ stepped (Next AutolinkUrlInside) (consumed T)
uri-steady T set known free =
    steady-at set T url_inside_at (stepped (Next AutolinkUrlInside) (consumed T)) free (λ v a b.
    let same : set ≡ uri_stops = cc in
    let none : list_any (λ n. v == n) uri_stops ≡ false = ap (λ (ns : List ℕ). list_any (λ n. v == n) ns) (sym same) ∙ b in
    let nul = or_parts (v == 0) _ none in
    let space = or_parts (v == 32) _ nul.1 in
    let less = or_parts (v == 60) _ space.1 in
    let greater = or_parts (v == 62) _ less.1 in
    let control = no-control v greater.1 in
    rw (greater.0, nul.0, space.0, less.0, control.0, control.1) refl)

-- of these states, and of any other as it is given
pub laws : (W : Words) → EqualsLayer states W → (t : StateName → StateWords) → AreLawful W t → AreLawful W (states t)
laws W within t other H.AutolinkStart = start-law W within
laws W within t other H.AutolinkOpen = open-law W within
laws W within t other H.AutolinkSchemeOrEmailAtext = scheme_or-law W within
laws W within t other H.AutolinkSchemeInsideOrEmailAtext = scheme_inside-law W within
laws W within t other H.AutolinkUrlInside = url_inside-law W within
laws W within t other H.AutolinkEmailAtext = email_atext-law W within
laws W within t other H.AutolinkEmailAtSignOrDot = email_at_sign_or_dot-law W within
laws W within t other H.AutolinkEmailLabel = email_label-law W within
laws W within t other H.AutolinkEmailValue = email_value-law W within
laws W within t other s = other s
