-- The runs of a list of events, event by event.
use Rattle.std.proofs.Common.{cond, ◌≡◌, ℕ, zero, suc, ◌+◌, ◌<◌, ◌≤◌, true, List, ◌∷◌, ◌++◌, length, drop, get_or, refl, sym, ap, subst, ◌∙◌, arith, add-one, append_assoc, append-nil, length-append, inl, inr, []}
use Rattle.std.proofs.lemmas.Bool.{cases_Bool, cases_lt}
use Rattle.std.proofs.lemmas.List.{drop_more, get_or_append_left, get_or_push}
use Rattle.std.proofs.lemmas.List.{length-drop}
use Rattle.std.proofs.lemmas.List.Elements.{All-append, All-head, All-nil, All-tail}
use Rattle.std.proofs.lemmas.List.Sums.{sum_by-cons}
use Rattle.std.specs.List.{count_by}
use Rattle.std.specs.Prelude.{All}
use Rattle.markdown_content.specs.declared.configuration.ParseOptions.{ParseOptions}
use Rattle.markdown_content.specs.ListFunctions.{rest_of}
use Rattle.markdown_attention.specs.OpenRuns.{IsMarker}
use Rattle.markdown_event.specs.declared.event.Event.{Event}
use Rattle.markdown_attention.specs.NumberedPairs.{row_of, run_at}
use Rattle.markdown_attention.specs.RunsRead.{Container, row_around, left_to, opens_run, opens_text, where_after, outermost, first_run, runs_from, IsRunPlace, EndsRun, FirstHasPlaces, HaveRunPlaces}
use Rattle.markdown_attention.specs.PairScan.{Numbered}
use Rattle.markdown_attention.specs.declared.attention.reading.Where.{Where}
use Rattle.markdown_attention.specs.declared.attention.runs.Sequence.{Sequence}
use Rattle.markdown_content.specs.Codes.{Code}

-- the first of the events from i on, and those behind it
pub first-event : (events : List Event) (i : ℕ) (e : Event) → i < length events → e ≡ get_or events i e →
    drop i events ≡ e ∷ drop (i + 1) events
first-event events i e l h = drop_more events i e l ∙ ap (λ x. x ∷ drop (i + 1) events) (sym h)

-- behind the Enter of a run stands another event
some-behind : (bytes : List ℕ) (e : Event) (es : List Event) → EndsRun bytes e es → 1 ≤ length es
some-behind bytes e [] h = absurd h
some-behind bytes e (x ∷ es) h = omega arith

module _ (bytes : List ℕ) (events : List Event) (i : ℕ) (e : Event) (l : i < length events) (h : e ≡ get_or events i e)
    (places : FirstHasPlaces bytes (drop i events)) (opens : opens_run e ≡ true) where
  behind : EndsRun bytes e (drop (i + 1) events)
  behind = let p : FirstHasPlaces bytes (e ∷ drop (i + 1) events) = subst (FirstHasPlaces bytes) (first-event events i e l h) places in p opens

  pub exit-within : i + 1 < length events
  exit-within =
      let some = some-behind bytes e (drop (i + 1) events) behind in let n = length-drop (i + 1) events in omega arith

  module _ (x : Event) (k : x ≡ get_or events (i + 1) x) where
    pub exit-place : IsRunPlace bytes e.point x.point
    exit-place = subst (EndsRun bytes e) (first-event events (i + 1) x exit-within k) behind

-- 1 for the Enter of a text
abbrev as_opened : Event → ℕ
as_opened e = cond (opens_text e) 1 0

texts-more : (e : Event) (es : List Event) → count_by opens_text (e ∷ es) ≡ as_opened e + count_by opens_text es
texts-more e es = sum_by-cons as_opened e es

texts-after : (i : ℕ) (e : Event) (w : Where) → (where_after i e w).texts ≡ w.texts + as_opened e
texts-after i e w = grind arith

one-opened : (e : Event) → as_opened e ≤ 1
one-opened e = elim (cases_Bool (opens_text e)) [ inl is ↦ rw is (omega arith) | inr off ↦ rw off (omega arith) ]

-- the runs so far, and those that are still to come
pub record RunsSoFar (options : ParseOptions) (bytes : List ℕ) (content : List Code) (events : List Event) (i : ℕ) (list : List Sequence) (w : Where) : Type 0 where
  pub all : list ++ runs_from options bytes content (length list) i w (drop i events) ≡ runs_from options bytes content 0 0 outermost events
  pub numbered : Numbered list
  pub places : HaveRunPlaces bytes (drop i events)
  pub counted : w.texts + count_by opens_text (drop i events) ≡ count_by opens_text events
  pub few : w.texts ≤ i

pub reading-start : (options : ParseOptions) (bytes : List ℕ) (content : List Code) (events : List Event) → HaveRunPlaces bytes events →
    RunsSoFar options bytes content events 0 [] outermost
reading-start options bytes content events h =
    record { all = refl; numbered = λ i l. absurd (omega arith); places = h; counted = omega arith; few = omega arith }

numbered-one : (list : List Sequence) (r : Sequence) → Numbered list → r.number ≡ length list →
    Numbered (list ++ r ∷ [])
numbered-one list r h e i l = grind (arith, cases_lt, get_or_append_left, length-append, get_or_push)

numbered-more : (options : ParseOptions) (bytes : List ℕ) (content : List Code) (i : ℕ) (c : Container) (list : List Sequence) (es : List Event) → Numbered list
    → Numbered (list ++ first_run options bytes content (length list) i c es)
numbered-more options bytes content i c list [] h = subst Numbered (sym (append-nil list)) h
numbered-more options bytes content i c list (e ∷ []) h = subst Numbered (sym (append-nil list)) h
numbered-more options bytes content i c list (e ∷ x ∷ es) h = grind (arith, cases_Bool, numbered-one, append-nil)

pub reading-more : (options : ParseOptions) (bytes : List ℕ) (content : List Code) (events : List Event) (i : ℕ) (list list' : List Sequence) (w w' : Where) (e : Event)
    → i < length events → e ≡ get_or events i e → list' ≡ list ++ first_run options bytes content (length list) i w.container (drop i events) → w' ≡ where_after i e w
    → RunsSoFar options bytes content events i list w → RunsSoFar options bytes content events (i + 1) list' w'
reading-more options bytes content events i list list' w w' e l h lists wheres r =
    let first : List Sequence = first_run options bytes content (length list) i w.container (drop i events) in
    let es : List Event = drop (i + 1) events in
    let split : drop i events ≡ e ∷ es = first-event events i e l h in
    let head : first ≡ first_run options bytes content (length list) i w.container (e ∷ es) = ap (first_run options bytes content (length list) i w.container) split in
    let size : length list' ≡ length list + length first = ap length lists ∙ length-append list first in
    let rest : runs_from options bytes content (length list) i w (drop i events) ≡ first ++ runs_from options bytes content (length list') (i + 1) w' es =
    ap (runs_from options bytes content (length list) i w) split
    ∙ ap (λ (f : List Sequence). f ++ runs_from options bytes content (length list + length f) (suc i) (where_after i e w) es) (sym head)
    ∙ (λ z. first ++ runs_from options bytes content (sym size z) (sym (add-one i) z) (sym wheres z) es) in
    let more : w'.texts ≡ w.texts + as_opened e = ap (λ (x : Where). x.texts) wheres ∙ texts-after i e w in
    let front : count_by opens_text (drop i events) ≡ as_opened e + count_by opens_text es = ap (λ xs. count_by opens_text xs) split ∙ texts-more e es in
    let counted = r.counted in
    let few = r.few in
    record {
      all = ap (λ xs. xs ++ runs_from options bytes content (length list') (i + 1) w' es) lists ∙ append_assoc list first _ ∙ ap (λ xs. list ++ xs) (sym rest) ∙ r.all;
      numbered = subst Numbered (sym lists) (numbered-more options bytes content i w.container list (drop i events) r.numbered);
      places = (let p : HaveRunPlaces bytes (e ∷ es) = subst (HaveRunPlaces bytes) split r.places in p.1);
      counted = omega (arith, more, front, counted);
      few = omega (arith, more, one-opened e, few);
    }

pub reading-first : (bytes : List ℕ) (es : List Event) → HaveRunPlaces bytes es → FirstHasPlaces bytes es
reading-first bytes [] h = tt
reading-first bytes (e ∷ es) h = h.0

nothing-left : (events : List Event) (i : ℕ) → length events ≤ i → drop i events ≡ []
nothing-left [] zero l = refl
nothing-left [] (suc i) l = refl
nothing-left (e ∷ es) zero l = absurd (omega arith)
nothing-left (e ∷ es) (suc i) l = nothing-left es i (omega arith)

pub reading-end : (options : ParseOptions) (bytes : List ℕ) (content : List Code) (events : List Event) (i : ℕ) (list : List Sequence) (w : Where) → length events ≤ i
    → RunsSoFar options bytes content events i list w → list ≡ runs_from options bytes content 0 0 outermost events
reading-end options bytes content events i list w l r =
    sym (append-nil list) ∙ ap (λ es. list ++ runs_from options bytes content (length list) i w es) (sym (nothing-left events i l)) ∙ r.all

pub texts-end : (options : ParseOptions) (bytes : List ℕ) (content : List Code) (events : List Event) (i : ℕ) (list : List Sequence) (w : Where) → length events ≤ i
    → RunsSoFar options bytes content events i list w → w.texts ≡ count_by opens_text events
texts-end options bytes content events i list w l r = grind (arith, nothing-left)

-- What is so of each run that is read.

pub record IsRunAsRead (high : ℕ) (r : Sequence) : Type 0 where
  pub whole : r.remaining ≡ r.size
  pub marker : IsMarker r.marker
  pub row : row_of r.text ≤ high

-- containers that are no later
pub record AreBefore (high : ℕ) (w : Where) : Type 0 where
  pub container : row_around w.container ≤ high
  pub outer : All (λ k. row_around k ≤ high) w.outer

left-before : (high : ℕ) (ks : List Container) → All (λ k. row_around k ≤ high) ks → row_around (left_to ks) ≤ high
left-before high [] h = omega arith
left-before high (k ∷ ks) h = All-head (λ k. row_around k ≤ high) k ks h

rest-before : (high : ℕ) (ks : List Container) → All (λ k. row_around k ≤ high) ks →
    All (λ k. row_around k ≤ high) (rest_of ks)
rest-before high [] h = h
rest-before high (k ∷ ks) h = All-tail (λ k. row_around k ≤ high) k ks h

before-after : (high i : ℕ) (e : Event) (w : Where) → w.texts + as_opened e ≤ high → AreBefore high w →
    AreBefore high (where_after i e w)
before-after high i e w = grind (arith, left-before, rest-before)

first-read : (options : ParseOptions) (bytes : List ℕ) (content : List Code) (high n i : ℕ) (k : Container) (es : List Event) → FirstHasPlaces bytes es → row_around k ≤ high
    → All (IsRunAsRead high) (first_run options bytes content n i k es)
first-read options bytes content high n i k [] h l = All-nil (IsRunAsRead high)
first-read options bytes content high n i k (e ∷ []) h l = All-nil (IsRunAsRead high)
first-read options bytes content high n i k (e ∷ x ∷ es) h l = grind arith

pub are-read : (options : ParseOptions) (bytes : List ℕ) (content : List Code) (high : ℕ) (es : List Event) (n i : ℕ) (w : Where) → HaveRunPlaces bytes es → w.texts + count_by opens_text es ≤ high → AreBefore high w
    → All (IsRunAsRead high) (runs_from options bytes content n i w es)
are-read options bytes content high [] n i w h l b = All-nil (IsRunAsRead high)
are-read options bytes content high (e ∷ es) n i w h l b =
    let first : List Sequence = first_run options bytes content n i w.container (e ∷ es) in
    let more = texts-more e es in
    All-append (IsRunAsRead high) first (runs_from options bytes content (n + length first) (suc i) (where_after i e w) es)
    (first-read options bytes content high n i w.container (e ∷ es) h.0 b.container)
    (are-read options bytes content high es (n + length first) (suc i) (where_after i e w) h.1 (omega (arith, l, more, texts-after i e w)) (before-after high i e w (omega (arith, l, more)) b))

-- of all runs
pub all-read : (options : ParseOptions) (bytes : List ℕ) (content : List Code) (es : List Event) (list : List Sequence) → HaveRunPlaces bytes es → list ≡ runs_from options bytes content 0 0 outermost es
    → (i : ℕ) → i < length list → IsRunAsRead (count_by opens_text es) (run_at list i)
all-read options bytes content es list h e i l = grind (arith, are-read)
