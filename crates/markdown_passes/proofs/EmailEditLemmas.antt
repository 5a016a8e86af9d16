-- the edits of the email pass, one by one
use Rattle.std.proofs.Common.{◌≡◌, ℕ, zero, suc, ◌+◌, ◌-◌, ◌<◌, ◌≤◌, ◌==◌, ◌&&◌, Bool, true, false, List, [], ◌∷◌, ◌++◌, length, take, drop, get_or, refl, sym, ap, subst, ◌∙◌, arith, append_assoc, append-nil, if◌then◌else◌, inl, inr}
use Rattle.std.proofs.lemmas.Bool.{and_parts, cases_lt}
use Rattle.std.proofs.lemmas.List.{drop_all, get_or-drop, length-drop, take_more}
use Rattle.std.specs.List.{All}
use Rattle.markdown_engine_events.specs.EventChains.{has_link, linked_at, IsUnlinked}
use Rattle.markdown_engine_events.specs.Edits.{CanEdit}
use Rattle.markdown_event.specs.declared.event.Event.{Event}
use Rattle.markdown_event.specs.declared.event.Point.{Point}
use Rattle.markdown_engine_events.specs.declared.util.edit_map.Edit.{Edit}
use Rattle.markdown_engine_events.proofs.EditSteps.{AreOfTwo}
use Rattle.markdown_engine_events.proofs.WalkedEdits.{walked, state_at, state-next, of-two, can-walk}
use Rattle.markdown_passes.specs.MergedEvents.{is_enter, is_data, opens_data}
use Rattle.markdown_passes.specs.TrimmedData.{between, IsStretch}
use Rattle.markdown_passes.specs.TrimmedEvents.{FirstDataHasPlaces, HasPlaces}
use Rattle.markdown_passes.proofs.DataSearch.{BeginsNone, event-at}
use Rattle.markdown_passes.proofs.TrimEdits.{head-drop, closes-first, next-within, stretch-first, places-drop, opens-unlinked}
use Rattle.markdown_passes.specs.EmailEdits.{begins_signed, links_after, links_past, may_mail, mail, mail_first, mails}
use Rattle.markdown_passes.specs.EmailScan.{has_sign, mail_events}
use Rattle.markdown_passes.proofs.UnlinkedLeaves.{plain-emails, plain-unlinked}

-- One after the other.

pub mails-more : (bytes : List ℕ) (i links more : ℕ) (es : List Event) (e : Event) (old new all : List Edit) →
    i < length es → e ≡ get_or es i e → more ≡ links_after links e → new ≡ old ++ mail_first bytes i links (drop i es) →
    old ++ mails bytes i links (drop i es) ≡ all → new ++ mails bytes (i + 1) more (drop (i + 1) es) ≡ all
mails-more bytes i links more es e old new all l h c g k =
    let here : List Edit = mail_first bytes i links (drop i es) in
    let rest : List Edit = mails bytes (i + 1) more (drop (i + 1) es) in
    let one : suc i ≡ i + 1 = omega arith in
    let step : mails bytes i links (drop i es) ≡ here ++ rest =
    ap (mails bytes i links) (head-drop i es e l h)
    ∙ ap (λ ys. mail_first bytes i links ys ++ mails bytes (suc i) (links_after links e) (drop (i + 1) es)) (sym (head-drop i es e l h))
    ∙ ap (λ j. here ++ mails bytes j (links_after links e) (drop (i + 1) es)) one
    ∙ ap (λ b. here ++ mails bytes (i + 1) b (drop (i + 1) es)) (sym c) in
    ap (λ ys. ys ++ rest) g ∙ append_assoc old here rest ∙ ap (λ ys. old ++ ys) (sym step) ∙ k

-- Where no data holds an `@`.

unsigned-first : (bytes : List ℕ) (n links : ℕ) (es : List Event) → begins_signed bytes es ≡ false → mail_first bytes n links es ≡ []
unsigned-first bytes n links [] h = refl
unsigned-first bytes n links (e ∷ []) h = refl
unsigned-first bytes n links (e ∷ x ∷ es) h = off (links == 0) (opens_data e) (has_sign bytes e.point x.point) h
  where
    off : (l o s : Bool) → o && s ≡ false → (if (l && o) && s then mail bytes n e x ∷ [] else []) ≡ []
    off false o s k = refl
    off true o s k = ap (λ b. if b then mail bytes n e x ∷ [] else []) k

none-first : (bytes : List ℕ) (e : Event) (es : List Event) → opens_data e ≡ false → begins_signed bytes (e ∷ es) ≡ false
none-first bytes e [] h = refl
none-first bytes e (x ∷ es) h = ap (λ b. b && has_sign bytes e.point x.point) h

-- From one data with an `@` to the next.

-- no data with an `@` begins from a place up to another
abbrev pub SignsNone : List ℕ → List Event → ℕ → ℕ → Type 0
SignsNone bytes es i k = (j : ℕ) → i ≤ j → j < k → begins_signed bytes (drop j es) ≡ false

pub signs-before : (bytes : List ℕ) (es : List Event) (i k : ℕ) → k ≤ length es → BeginsNone es i k → SignsNone bytes es i k
signs-before bytes es i k within none j low high =
    let there : j < length es = omega (arith, high, within) in
    let at = event-at j es there in
    ap (begins_signed bytes) (head-drop j es at.0 there at.1) ∙ none-first bytes at.0 (drop (j + 1) es) (ap opens_data at.1 ∙ none j at.0 low high)

pub signs-more : (bytes : List ℕ) (es : List Event) (i k n : ℕ) → begins_signed bytes (drop k es) ≡ false → n ≤ length es →
    BeginsNone es (k + 1) n → SignsNone bytes es i k → SignsNone bytes es i n
signs-more bytes es i k n here within more none j low high =
    elim (cases_lt j k) [
      | inl b ↦ none j low b
      | inr a ↦
          elim (cases_lt k j) [
            | inl past ↦ signs-before bytes es (k + 1) n within more j (omega (arith, past)) high
            | inr le ↦ let same : j ≡ k = omega (arith, a, le) in ap (λ m. begins_signed bytes (drop m es)) same ∙ here
          ]
    ]

-- an event more before the links are counted
links-first : (es : List Event) (i k links : ℕ) (e : Event) → i < k → k ≤ length es → e ≡ get_or es i e →
    links_past links (take (k - i) (drop i es)) ≡ links_past (links_after links e) (take (k - (i + 1)) (drop (i + 1) es))
links-first es i k links e lt within is =
    let size : k - i ≡ suc (k - (i + 1)) = omega (arith, lt) in
    ap (λ n. links_past links (take n (drop i es))) size
    ∙ ap (λ xs. links_past links (take (suc (k - (i + 1))) xs)) (head-drop i es e (omega (arith, lt, within)) is)

mails-skip : (bytes : List ℕ) (es : List Event) (d i k links : ℕ) → k ≡ i + d → k ≤ length es → SignsNone bytes es i k →
    mails bytes i links (drop i es) ≡ mails bytes k (links_past links (take (k - i) (drop i es))) (drop k es)
mails-skip bytes es zero i k links h within none =
    let same : i ≡ k = omega (arith, h) in
    let size : 0 ≡ k - i = omega (arith, h) in
    ap (λ n. mails bytes n links (drop n es)) same ∙ ap (λ n. mails bytes k (links_past links (take n (drop i es))) (drop k es)) size
mails-skip bytes es (suc d) i k links h within none =
    let there : i < length es = omega (arith, h, within) in
    let at = event-at i es there in
    let e : Event = at.0 in
    let rest : List Event = drop (i + 1) es in
    let split : drop i es ≡ e ∷ rest = head-drop i es e there at.1 in
    let one : suc i ≡ i + 1 = omega arith in
    ap (mails bytes i links) split
    ∙ ap (λ xs. xs ++ mails bytes (suc i) (links_after links e) rest) (unsigned-first bytes i links (e ∷ rest) (ap (begins_signed bytes) (sym split) ∙ none i (omega arith) (omega (arith, h))))
    ∙ ap (λ n. mails bytes n (links_after links e) rest) one
    ∙ mails-skip bytes es d (i + 1) k (links_after links e) (omega (arith, h)) within (λ j low high. none j (omega (arith, low)) high)
    ∙ ap (λ l. mails bytes k l (drop k es)) (sym (links-first es i k links e (omega (arith, h)) within at.1))

-- the edits so far, and those from the next data with an `@` on, before which so many links are open
abbrev pub IsMailing : List ℕ → List Event → List Edit → ℕ → ℕ → ℕ → Type 0
IsMailing bytes es map from index links =
    map ++ mails bytes index (links_past links (take (index - from) (drop from es))) (drop index es) ≡ mails bytes 0 0 es

pub mailing-start : (bytes : List ℕ) (es : List Event) (map : List Edit) (index : ℕ) → map ≡ [] → index ≤ length es → SignsNone bytes es 0 index →
    IsMailing bytes es map 0 index 0
mailing-start bytes es map index h within none =
    ap (λ xs. xs ++ mails bytes index (links_past 0 (take (index - 0) (drop 0 es))) (drop index es)) h
    ∙ sym (mails-skip bytes es index 0 index 0 (omega arith) within none)

pub mailing-next : (bytes : List ℕ) (es : List Event) (old new : List Edit) (from index next before links : ℕ) → index < length es → index + 1 ≤ next →
    next ≤ length es → SignsNone bytes es (index + 1) next → links ≡ links_past before (take (index - from) (drop from es)) →
    new ≡ old ++ mail_first bytes index links (drop index es) → IsMailing bytes es old from index before → IsMailing bytes es new index next links
mailing-next bytes es old new from index next before links there on within none counted add k =
    let at = event-at index es there in
    let e : Event = at.0 in
    let here : old ++ mails bytes index links (drop index es) ≡ mails bytes 0 0 es =
    ap (λ l. old ++ mails bytes index l (drop index es)) counted ∙ k in
    ap (λ l. new ++ mails bytes next l (drop next es)) (links-first es index next links e (omega (arith, on)) within at.1)
    ∙ ap (λ xs. new ++ xs) (sym (mails-skip bytes es (next - (index + 1)) (index + 1) next (links_after links e) (omega (arith, on)) within none))
    ∙ mails-more bytes index links (links_after links e) es e old new (mails bytes 0 0 es) there at.1 refl add here

pub mailing-end : (bytes : List ℕ) (es : List Event) (map : List Edit) (from index links : ℕ) → length es ≤ index → IsMailing bytes es map from index links →
    map ≡ mails bytes 0 0 es
mailing-end bytes es map from index links past k =
    sym (append-nil map)
    ∙ ap (λ xs. map ++ mails bytes index (links_past links (take (index - from) (drop from es))) xs) (sym (drop_all index es past))
    ∙ k

-- one event more behind which the links are counted
pub links-more : (es : List Event) (from index before links : ℕ) (e : Event) → from ≤ index → index < length es → e ≡ get_or es index e →
    links ≡ links_past before (take (index - from) (drop from es)) → links_after links e ≡ links_past before (take (index + 1 - from) (drop from es))
links-more es from index before links e up lt is h =
    let rest : List Event = drop from es in
    let size : index + 1 - from ≡ index - from + 1 = omega (arith, up) in
    let here : from + (index - from) ≡ index = omega (arith, up) in
    let long : index - from < length rest = omega (arith, length-drop from es, up, lt) in
    let same : get_or rest (index - from) e ≡ e = get_or-drop from es (index - from) e ∙ ap (λ n. get_or es n e) here ∙ sym is in
    sym (
    ap (λ n. links_past before (take n rest)) size
    ∙ ap (links_past before) (take_more rest (index - from) e long)
    ∙ behind (take (index - from) rest) (get_or rest (index - from) e) before
    ∙ ap (λ l. links_after l (get_or rest (index - from) e)) (sym h)
    ∙ ap (links_after links) same
    )
  where
    behind : (xs : List Event) (x : Event) (l : ℕ) → links_past l (xs ++ x ∷ []) ≡ links_after (links_past l xs) x
    behind [] x l = refl
    behind (y ∷ xs) x l = behind xs x (links_after l y)

pub places-first : (bytes : List ℕ) (es : List Event) → HasPlaces bytes es → FirstDataHasPlaces bytes es
places-first bytes [] p = tt
places-first bytes (e ∷ es) p = p.0

-- the events that come carry no link
pub mail-unlinked : (bytes : List ℕ) (p q : Point) (es : List Event) → es ≡ mail_events bytes p q → All IsUnlinked es
unfolding mail_events
mail-unlinked bytes p q es e = subst (All IsUnlinked) (sym e) (plain-unlinked 0 _ _ (plain-emails (between bytes p q)))

-- The edit at an event of a list.

module _ (bytes : List ℕ) (i links : ℕ) (es : List Event) (e : Event) (within : i < length es) (is : e ≡ get_or es i e) where
  -- the places of data, which begins with this event
  pub stretch-at : (x : Event) → x ≡ get_or es (i + 1) x → opens_data e ≡ true → FirstDataHasPlaces bytes (drop i es) → IsStretch bytes e.point x.point
  stretch-at x k o p = let c = closes-first bytes i es e within is o p in stretch-first bytes i es e x (next-within bytes i es e c) k c

  -- whether it is data with an `@`
  pub signed-at : (x : Event) → x ≡ get_or es (i + 1) x → opens_data e ≡ true → FirstDataHasPlaces bytes (drop i es) →
      has_sign bytes e.point x.point ≡ begins_signed bytes (drop i es)
  signed-at x k o p =
      let more : i + 1 < length es = next-within bytes i es e (closes-first bytes i es e within is o p) in
      sym (
      ap (begins_signed bytes) (head-drop i es e within is ∙ ap (λ ys. e ∷ ys) (head-drop (i + 1) es x more k))
      ∙ ap (λ a. a && has_sign bytes e.point x.point) o
      )

  edit-at : (x : Event) (b : Bool) → x ≡ get_or es (i + 1) x → opens_data e ≡ true → FirstDataHasPlaces bytes (drop i es) → links ≡ 0 →
      has_sign bytes e.point x.point ≡ b → mail_first bytes i links (drop i es) ≡ (if b then mail bytes i e x ∷ [] else [])
  edit-at x b k o p none sign =
      let more : i + 1 < length es = next-within bytes i es e (closes-first bytes i es e within is o p) in
      let may : may_mail bytes links e x ≡ b =
      ap (λ n. (n == 0 && opens_data e) && has_sign bytes e.point x.point) none ∙ ap (λ a. a && has_sign bytes e.point x.point) o ∙ sign in
      ap (mail_first bytes i links) (head-drop i es e within is ∙ ap (λ ys. e ∷ ys) (head-drop (i + 1) es x more k))
      ∙ ap (λ a. if a then mail bytes i e x ∷ [] else []) may

  -- data with an `@`
  pub mailed-at : (x : Event) (ds : List Event) (old new : List Edit) → x ≡ get_or es (i + 1) x → opens_data e ≡ true →
      FirstDataHasPlaces bytes (drop i es) → links ≡ 0 → has_sign bytes e.point x.point ≡ true → ds ≡ mail_events bytes e.point x.point →
      new ≡ old ++ (record { at = i; remove = 2; events = ds; before = false }) ∷ [] → new ≡ old ++ mail_first bytes i links (drop i es)
  mailed-at x ds old new k o p none sign comes add =
      add
      ∙ ap (λ xs. old ++ (record { at = i; remove = 2; events = xs; before = false }) ∷ []) comes
      ∙ ap (λ xs. old ++ xs) (sym (edit-at x true k o p none sign))

  -- data without one
  pub unsigned-at : (x : Event) (log : List Edit) → x ≡ get_or es (i + 1) x → opens_data e ≡ true → FirstDataHasPlaces bytes (drop i es) → links ≡ 0 →
      has_sign bytes e.point x.point ≡ false → log ≡ log ++ mail_first bytes i links (drop i es)
  unsigned-at x log k o p none sign = sym (append-nil log) ∙ ap (λ xs. log ++ xs) (sym (edit-at x false k o p none sign))

  -- an event that is not the start of data outside links
  pub other-at : (log : List Edit) → (links == 0) && opens_data e ≡ false → log ≡ log ++ mail_first bytes i links (drop i es)
  other-at log h =
      sym (append-nil log) ∙ ap (λ xs. log ++ xs) (sym (ap (mail_first bytes i links) (head-drop i es e within is) ∙ none (drop (i + 1) es)))
    where
      none : (ys : List Event) → mail_first bytes i links (e ∷ ys) ≡ []
      none [] = refl
      none (x ∷ ys) = ap (λ b. if b && has_sign bytes e.point x.point then mail bytes i e x ∷ [] else []) h

-- The edits are those of a walk.

-- data that the pass edits begins these events, before which so many links are open
abbrev pub begins_mail : List ℕ → ℕ → List Event → Bool
begins_mail bytes links [] = false
begins_mail bytes links (e ∷ []) = false
begins_mail bytes links (e ∷ x ∷ es) = may_mail bytes links e x

abbrev pub comes : List ℕ → List Event → List Event
comes bytes [] = []
comes bytes (e ∷ []) = []
comes bytes (e ∷ x ∷ es) = mail_events bytes e.point x.point

module _ (bytes : List ℕ) where
  abbrev walk : ℕ → ℕ → List Event → List Edit
  walk n links es = walked links_after (begins_mail bytes) (λ l. comes bytes) (λ l. refl) n links es

  -- how many links are open before event k
  abbrev pub links_at : List Event → ℕ → ℕ
  links_at es k = state_at links_after (begins_mail bytes) (λ l. comes bytes) (λ l. refl) k 0 es

  pub links-next : (n : ℕ) (es : List Event) (e : Event) (rest : List Event) → drop n es ≡ e ∷ rest →
      links_at es (n + 1) ≡ links_after (links_at es n) e
  links-next n es e rest h = state-next links_after (begins_mail bytes) (λ l. comes bytes) (λ l. refl) n 0 es e rest h

  mails-walk : (n links : ℕ) (es : List Event) → mails bytes n links es ≡ walk n links es
  mails-walk n links [] = refl
  mails-walk n links (e ∷ []) = refl
  mails-walk n links (e ∷ x ∷ es) =
      ap (λ log. mail_first bytes n links (e ∷ x ∷ es) ++ log) (mails-walk (suc n) (links_after links e) (x ∷ es))

  abbrev pub log_of : List Event → List Edit
  log_of es = mails bytes 0 0 es

  abbrev pub mails_at : List Event → ℕ → Bool
  mails_at es k = begins_mail bytes (links_at es k) (drop k es)

  abbrev pub comes_at : List Event → ℕ → List Event
  comes_at es k = comes bytes (drop k es)

  pub mails-of-two : (es : List Event) → AreOfTwo (log_of es) (mails_at es) (comes_at es)
  mails-of-two es =
      subst (λ (log : List Edit). AreOfTwo log (mails_at es) (comes_at es)) (sym (mails-walk 0 0 es))
      (of-two links_after (begins_mail bytes) (λ l. comes bytes) (λ l. refl) 0 es)

  -- The edits may be made.

  unlinked : (links : ℕ) (xs : List Event) → HasPlaces bytes xs → begins_mail bytes links xs ≡ true →
      (linked_at xs 0 ≡ false) × (linked_at xs 1 ≡ false)
  unlinked links [] p h = cc
  unlinked links (e ∷ []) p h = cc
  unlinked links (e ∷ x ∷ xs) p h =
      let opens : opens_data e ≡ true = (and_parts (links == 0) (opens_data e) (and_parts (links == 0 && opens_data e) (has_sign bytes e.point x.point) h).0).1 in
      (opens-unlinked (is_enter e.kind) (is_data e.name) (has_link e.link) opens, ap has_link (p.0 opens).1)

  pub can-mail : (es : List Event) → HasPlaces bytes es → CanEdit (log_of es) es
  can-mail es p =
      subst (λ (log : List Edit). CanEdit log es) (sym (mails-walk 0 0 es))
      (can-walk links_after (begins_mail bytes) (λ l. comes bytes) (λ l. refl) 0 es (λ k h. unlinked (links_at es k) (drop k es) (places-drop bytes k es p) h))
