-- The states of HTML in text: when the next one may be called.
use Rattle.std.proofs.Common.{◌≡◌, ℕ, ◌+◌, ◌<◌, ◌≤◌, ◌&&◌, Bool, true, false, List, [], ◌∷◌, ◌++◌, length, drop, refl, sym, ap, subst, ◌∙◌, arith}
use Rattle.markdown_content.specs.Codes.{Code, is_line_ending, is_blank}
use Rattle.markdown_engine.specs.Operations.{Op, Exit, Consume, ahead, applied, done, moves, op_stack, scratched}
use Rattle.markdown_event.specs.declared.event.Name.{Name}
use Rattle.markdown_event.specs.declared.event.Name.TheVariants as N
use Rattle.markdown_engine.specs.declared.tokenizer.TokenizeState.{TokenizeState}
use Rattle.markdown_engine.specs.declared.tokenizer.Tokenizer.{Tokenizer}
use Rattle.markdown_engine.proofs.OperationFields.{stack-applied}
use Rattle.markdown_engine.proofs.OperationLemmas.{left-done, scratch-done}
use Rattle.markdown_event.proofs.AndParts.{and-left}
use Rattle.markdown_partial.specs.PartialSpaceOrTab as PartialSpaceOrTab
use Rattle.markdown_plan.proofs.OpenEvents.{second-open}
use Rattle.markdown_plan.specs.ScratchFields.{AreOpen, with_size}
use Rattle.markdown_leaf_html.specs.HtmlLines.{Mode, InLine, AtStart, InBlank, takes_blank, left_open, to_data, to_blank, ending_ops, break_from}
use Rattle.markdown_leaf_html.specs.HtmlText.{rested, with_marker, opening, HtmlStartReady, SpacesReady, HtmlInsideReady, HtmlPartReady, CdataReady, QuotedReady, HtmlAfterReady}
use Rattle.markdown_leaf_html.specs.HtmlByteTests.{whitespace_value}
use Rattle.markdown_leaf_html.proofs.HtmlLineBreaks.{break-ending, break-blank, break-data, break-fits}

-- The open events after operations.

abbrev stacks : List Op → List Name → List Name
stacks [] ns = ns
stacks (o ∷ os) ns = stacks os (op_stack o ns)

stack-done : (os : List Op) (T : Tokenizer) → (done os T).stack ≡ stacks os T.stack
stack-done [] T = refl
stack-done (o ∷ os) T = stack-done os (applied o T) ∙ ap (stacks os) (stack-applied o T)

stacks-append : (xs ys : List Op) (ns : List Name) → stacks (xs ++ ys) ns ≡ stacks ys (stacks xs ns)
stacks-append [] ys ns = refl
stacks-append (x ∷ xs) ys ns = stacks-append xs ys (op_stack x ns)

-- what stands open besides
abbrev opened : Mode → List Name → List Name
opened InLine ns = N.HtmlTextData ∷ ns
opened AtStart ns = ns
opened InBlank ns = N.SpaceOrTab ∷ ns

after-ending : (m : Mode) (ns : List Name) → stacks (left_open m ++ ending_ops) (opened m ns) ≡ ns
after-ending InLine ns = refl
after-ending AtStart ns = refl
after-ending InBlank ns = refl

after-blank : (m : Mode) (ns : List Name) → takes_blank m ≡ true →
    stacks (to_blank m ++ Consume ∷ []) (opened m ns) ≡ N.SpaceOrTab ∷ ns
after-blank InLine ns e = cc
after-blank AtStart ns e = refl
after-blank InBlank ns e = refl

after-data : (m : Mode) (ns : List Name) → stacks (to_data m) (opened m ns) ≡ N.HtmlTextData ∷ ns
after-data InLine ns = refl
after-data AtStart ns = refl
after-data InBlank ns = refl

broken-by : (ending blank : Bool) (m : Mode) (ns : List Name) (c : Code) (cs : List Code) → is_line_ending c ≡ ending →
    takes_blank m && is_blank c ≡ blank → ((n : Mode) → stacks (break_from n cs) (opened n ns) ≡ N.HtmlTextData ∷ ns) →
    stacks (break_from m (c ∷ cs)) (opened m ns) ≡ N.HtmlTextData ∷ ns
broken-by true blank m ns c cs e h more =
    ap (λ os. stacks os (opened m ns)) (break-ending m c cs e) ∙ stacks-append (left_open m ++ ending_ops) (break_from AtStart cs) (opened m ns) ∙ ap (stacks (break_from AtStart cs)) (after-ending m ns) ∙ more AtStart
broken-by false true m ns c cs e h more =
    ap (λ os. stacks os (opened m ns)) (break-blank m c cs e h) ∙ stacks-append (to_blank m ++ Consume ∷ []) (break_from InBlank cs) (opened m ns) ∙ ap (stacks (break_from InBlank cs)) (after-blank m ns (and-left (takes_blank m) _ h)) ∙ more InBlank
broken-by false false m ns c cs e h more = ap (λ os. stacks os (opened m ns)) (break-data m c cs e h) ∙ after-data m ns

broken-stack : (m : Mode) (ns : List Name) (cs : List Code) →
    stacks (break_from m cs) (opened m ns) ≡ N.HtmlTextData ∷ ns
broken-stack m ns [] = after-data m ns
broken-stack m ns (c ∷ cs) =
    broken-by (is_line_ending c) (takes_blank m && is_blank c) m ns c cs refl refl (λ n. broken-stack n ns cs)

-- these two are open, with others behind them
open-by : (xs : List Name) (a b : Name) (ns : List Name) → xs ≡ a ∷ b ∷ ns → xs ≡ a ∷ b ∷ drop 2 xs
open-by xs a b ns e = e ∙ ap (λ z. a ∷ b ∷ z) (ap (drop 2) (sym e))

open-broken : (T : Tokenizer) (cs : List Code) → AreOpen N.HtmlTextData N.HtmlText T →
    AreOpen N.HtmlTextData N.HtmlText (done (break_from InLine cs) T)
open-broken T cs h =
    let ns : List Name = N.HtmlText ∷ drop 2 T.stack in
    open-by _ N.HtmlTextData N.HtmlText (drop 2 T.stack) (stack-done (break_from InLine cs) T ∙ ap (stacks (break_from InLine cs)) h ∙ broken-stack InLine ns cs)

-- Whitespace.

pub spaces-done : (os : List Op) (T : Tokenizer) → moves os ≤ length (ahead T) → SpacesReady T → SpacesReady (done os T)
spaces-done os T h k =
    record { resting = subst (λ (s : TokenizeState). PartialSpaceOrTab.rested s ≡ s) (sym (scratch-done os T)) k.resting; short = omega (arith, left-done os T h, k.short) }

-- The states of one place.

pub inside-next : (T : Tokenizer) → 1 ≤ length (ahead T) → HtmlInsideReady T → HtmlInsideReady (done (Consume ∷ []) T)
unfolding applied
inside-next T more k =
    record { stand_open = k.stand_open; spaces = spaces-done (Consume ∷ []) T more k.spaces }

pub inside-broken : (T : Tokenizer) → HtmlInsideReady T → HtmlInsideReady (done (break_from InLine (ahead T)) T)
inside-broken T k =
    let os : List Op = break_from InLine (ahead T) in
    record { stand_open = open-broken T (ahead T) k.stand_open; spaces = spaces-done os T (break-fits InLine (ahead T)) k.spaces }

rest-done : (os : List Op) (T : Tokenizer) (P : TokenizeState → Type 0) → P T.tokenize_state →
    P (done os T).tokenize_state
rest-done os T P k = subst P (sym (scratch-done os T)) k

pub part-next : (T : Tokenizer) → 1 ≤ length (ahead T) → HtmlPartReady T → HtmlPartReady (done (Consume ∷ []) T)
part-next T more k =
    record { inside = inside-next T more k.inside; rest = rest-done (Consume ∷ []) T (λ s. rested s ≡ s) k.rest }

pub part-broken : (T : Tokenizer) → HtmlPartReady T → HtmlPartReady (done (break_from InLine (ahead T)) T)
part-broken T k =
    record { inside = inside-broken T k.inside; rest = rest-done (break_from InLine (ahead T)) T (λ s. rested s ≡ s) k.rest }

pub quoted-next : (T : Tokenizer) → 1 ≤ length (ahead T) → QuotedReady T → QuotedReady (done (Consume ∷ []) T)
quoted-next T more k =
    record {
      inside = inside-next T more k.inside;
      rest = rest-done (Consume ∷ []) T (λ s. rested s ≡ with_marker 0 s) k.rest;
      quote = rest-done (Consume ∷ []) T (λ s. whitespace_value s.marker ≡ false) k.quote;
    }

pub quoted-broken : (T : Tokenizer) → QuotedReady T → QuotedReady (done (break_from InLine (ahead T)) T)
quoted-broken T k =
    record {
      inside = inside-broken T k.inside;
      rest = rest-done (break_from InLine (ahead T)) T (λ s. rested s ≡ with_marker 0 s) k.rest;
      quote = rest-done (break_from InLine (ahead T)) T (λ s. whitespace_value s.marker ≡ false) k.quote;
    }

-- with other scratch fields, where those of whitespace are at rest
pub inside-scratched : (r : TokenizeState) (T : Tokenizer) → PartialSpaceOrTab.rested r ≡ r →
    HtmlInsideReady T → HtmlInsideReady (scratched r T)
unfolding scratched
inside-scratched r T e k =
    record { stand_open = k.stand_open; spaces = record { resting = e; short = k.spaces.short } }

pub quoted-opened : (c : ℕ) (T : Tokenizer) → 1 ≤ length (ahead T) → whitespace_value c ≡ false → HtmlPartReady T →
    QuotedReady (scratched (with_marker c T.tokenize_state) (done (Consume ∷ []) T))
unfolding scratched applied
quoted-opened c T more h k =
    let s : TokenizeState = T.tokenize_state in
    record {
      inside = inside-scratched (with_marker c s) (done (Consume ∷ []) T) (ap (with_marker c) k.inside.spaces.resting) (inside-next T more k.inside);
      rest = ap (with_marker 0) k.rest;
      quote = h;
    }

pub quoted-closed : (T : Tokenizer) → 1 ≤ length (ahead T) → QuotedReady T →
    HtmlPartReady (scratched (with_marker 0 T.tokenize_state) (done (Consume ∷ []) T))
unfolding scratched applied
quoted-closed T more k =
    record { inside = inside-scratched (with_marker 0 T.tokenize_state) (done (Consume ∷ []) T) (ap (with_marker 0) k.inside.spaces.resting) (inside-next T more k.inside); rest = k.rest }

pub cdata-opened : (T : Tokenizer) → HtmlPartReady T → CdataReady T
cdata-opened T k =
    let size : T.tokenize_state.size ≡ 0 = ap (λ (s : TokenizeState). s.size) (sym k.rest) in
    record { inside = k.inside; rest = k.rest ∙ ap (λ n. with_size n T.tokenize_state) size; size = omega (arith, size) }

pub cdata-next : (T : Tokenizer) → 1 ≤ length (ahead T) → T.tokenize_state.size + 1 < 6 → CdataReady T →
    CdataReady (scratched (with_size (T.tokenize_state.size + 1) T.tokenize_state) (done (Consume ∷ []) T))
unfolding scratched applied
cdata-next T more h k =
    let s : TokenizeState = T.tokenize_state in
    record {
      inside = inside-scratched (with_size (s.size + 1) s) (done (Consume ∷ []) T) (ap (with_size (s.size + 1)) k.inside.spaces.resting) (inside-next T more k.inside);
      rest = k.rest;
      size = h;
    }

pub cdata-closed : (T : Tokenizer) → 1 ≤ length (ahead T) → CdataReady T →
    HtmlPartReady (scratched (with_size 0 T.tokenize_state) (done (Consume ∷ []) T))
unfolding scratched applied
cdata-closed T more k =
    record { inside = inside-scratched (with_size 0 T.tokenize_state) (done (Consume ∷ []) T) (ap (with_size 0) k.inside.spaces.resting) (inside-next T more k.inside); rest = k.rest }

pub start-opened : (T : Tokenizer) → 1 ≤ length (ahead T) → HtmlStartReady T → HtmlPartReady (done opening T)
unfolding applied
start-opened T more k =
    record { inside = record { stand_open = refl; spaces = spaces-done opening T more k.spaces }; rest = k.rest }

-- Line endings.

pub before-passed : (T : Tokenizer) → 1 ≤ length (ahead T) → HtmlInsideReady T →
    HtmlAfterReady (done (Exit N.HtmlTextData ∷ ending_ops) T)
unfolding applied
before-passed T more k =
    record { stand_open = second-open T.stack N.HtmlTextData N.HtmlText k.stand_open; spaces = spaces-done (Exit N.HtmlTextData ∷ ending_ops) T more k.spaces }

pub ending-passed : (T : Tokenizer) → 1 ≤ length (ahead T) → HtmlAfterReady T → HtmlAfterReady (done ending_ops T)
unfolding applied
ending-passed T more k = record { stand_open = k.stand_open; spaces = spaces-done ending_ops T more k.spaces }
