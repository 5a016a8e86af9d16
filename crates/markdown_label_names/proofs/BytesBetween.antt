-- The bytes of a text between two places at which it may be cut.
use Rattle.std.proofs.Common.{◌≡◌, ℕ, zero, suc, ◌-◌, ◌<◌, ◌≤◌, Bool, true, false, ◌&&◌, if◌then◌else◌, List, [], ◌∷◌, ◌++◌, length, get_or, None, Some, refl, sym, ap, subst, ◌∙◌, arith, inl, inr}
use Rattle.std.specs.Prelude.{max, min}
use Rattle.markdown_event.specs.declared.event.Point.{Point}
use Rattle.markdown_util.specs.Identifier.{identifier_by}
use Rattle.markdown_content.specs.Codes.{Code}
use Rattle.markdown_content.specs.ContentBytes.{bytes_within}
use Rattle.markdown_content.specs.declared.label_kind.LabelKind.{LabelKind}
use Rattle.markdown_content.proofs.BytesOfContent.{range-none}
use Rattle.markdown_model.specs.LabelEnd.{is_too_long, label_name, name_between, text_between, with_caret}
use Rattle.markdown_model.specs.Setting.{Setting, rules}
use Rattle.markdown_label_names.specs.LabelSetting.{setting_in}
use Rattle.std.specs.List.{slice_range, slice_index_or}
use Rattle.std.specs.Str.{IsCharBoundary}
use Rattle.std.proofs.lemmas.Bool.{cases_lt}
use Rattle.std.proofs.Math.Nat.{le-max_left, le-max_right, max-eq_left, max-le, min-le_left, sub-add-eq-max}
use Rattle.markdown_engine_events.specs.EventChains.{chained}
use Rattle.markdown_event.specs.declared.event.Event.{Event}
use Rattle.markdown_engine.specs.declared.tokenizer.Tokenizer.{Tokenizer}
use Rattle.markdown_engine_events.proofs.EventChainLemmas.{chained-point}
use Rattle.markdown_plan.specs.Characters.{bytes_of}
use Rattle.markdown_label_names.specs.LabelNames.{AreAround}
use Rattle.markdown_label_names.specs.LabelNames.{place_at, identifier_between, label_between}
use Rattle.markdown_label_names.specs.IdentifierFronts.{AreCuts}

-- what is lent for an event stands where the event does
place-get : (es : List Event) (i : ℕ) (d : Event) → i < length es → (get_or es i d).point ≡ place_at es i
place-get [] i d h = absurd (omega arith)
place-get (x ∷ es) zero d h = refl
place-get (x ∷ es) (suc i) d h = place-get es i d (omega (arith, h))

pub place-lent : (es : List Event) (i : ℕ) (e : Event) → i < length es → e ≡ slice_index_or (chained es) i e →
    e.point ≡ place_at es i
place-lent es i e h same = ap (λ (x : Event). x.point) same ∙ chained-point 0 i es e ∙ place-get es i e h

-- from a place to another, which need not be behind it: then there is nothing between
pub max-between : (bs : List ℕ) (i j : ℕ) → IsCharBoundary bs i → IsCharBoundary bs j → IsCharBoundary bs (max j i)
max-between bs i j from to =
    by-size (j - i) refl
  where
    by-size : (d : ℕ) → j - i ≡ d → IsCharBoundary bs (max j i)
    by-size zero e =
        let is : i ≡ max j i = omega (arith, e, sub-add-eq-max j i) in
        subst (λ n. IsCharBoundary bs n) is from
    by-size (suc d) e =
        let is : j ≡ max j i = omega (arith, e, sub-add-eq-max j i) in
        subst (λ n. IsCharBoundary bs n) is to

-- then there is nothing between
none-within : (bs : List ℕ) (i j : ℕ) (cs : List Code) → j ≤ i → bytes_within bs i j cs ≡ []
none-within bs i j [] h = refl
none-within bs i j (c ∷ cs) h =
    (λ k. range-none bs (max i c.start.index) (min j c.stop.index) (omega (arith, h, le-max_left i c.start.index, min-le_left j c.stop.index)) k ++ none-within bs i j cs h k)

none-between : (s : Setting) (i j : ℕ) → j ≤ i → text_between s i j ≡ []
none-between s i j h = by (rules s).labels_by_text
  where
    by : (b : Bool) → (if b then bytes_within s.bytes i j s.content else slice_range s.bytes i j) ≡ []
    by true = none-within s.bytes i j s.content h
    by false = range-none s.bytes i j h

text-from : (s : Setting) (i j : ℕ) → text_between s i (max j i) ≡ text_between s i j
text-from s i j =
    elim (cases_lt j i) [
      | inl l ↦ none-between s i (max j i) (omega (arith, max-le {a = j} {b = i} {k = i} (omega (arith, l)) (omega arith))) ∙ sym (none-between s i j (omega (arith, l)))
      | inr l ↦ ap (text_between s i) (max-eq_left {n = j} {m = i} l)
    ]

-- what is lent for two such events

module _ (T : Tokenizer) (m n : ℕ) (a b : Event) (k : AreAround T m n) (front : a ≡ slice_index_or (chained T.events) m a) (back : b ≡ slice_index_or (chained T.events) n b) where
  first : a.point ≡ place_at T.events m
  first = place-lent T.events m a k.first front

  last : b.point ≡ place_at T.events n
  last = place-lent T.events n b k.last back

  from-between : IsCharBoundary (bytes_of T) a.point.index
  from-between = subst (λ (p : Point). IsCharBoundary (bytes_of T) p.index) (sym first) k.from

  to-between : IsCharBoundary (bytes_of T) b.point.index
  to-between = subst (λ (p : Point). IsCharBoundary (bytes_of T) p.index) (sym last) k.to

  pub lent-cuts : (end : ℕ) → end ≡ max b.point.index a.point.index → AreCuts (bytes_of T) a.point.index end
  lent-cuts end e = subst (AreCuts (bytes_of T) a.point.index) (sym e) (record {
    text = k.text;
    in_order = le-max_right b.point.index a.point.index;
    first = from-between;
    last = max-between (bytes_of T) a.point.index b.point.index from-between to-between;
  })

  lent-text : (end : ℕ) → end ≡ max b.point.index a.point.index →
      text_between (setting_in T) a.point.index end ≡ text_between (setting_in T) (place_at T.events m).index (place_at T.events n).index
  lent-text end e =
      ap (text_between (setting_in T) a.point.index) e ∙ text-from (setting_in T) a.point.index b.point.index
      ∙ (λ i. text_between (setting_in T) (first i).index (last i).index)

  pub lent-name : (end : ℕ) → end ≡ max b.point.index a.point.index → name_between (setting_in T) a.point.index end ≡ identifier_between T m n
  lent-name end e = ap (identifier_by (rules (setting_in T)).nul_is_replaced) (lent-text end e)

  pub lent-label : (kind : LabelKind) (end : ℕ) → end ≡ max b.point.index a.point.index →
      label_name (setting_in T) kind a.point.index end ≡ label_between T kind m n
  lent-label kind end e =
      ap (λ text. if (rules (setting_in T)).definitions_have_labels && is_too_long (with_caret kind text) then None else Some (identifier_by (rules (setting_in T)).nul_is_replaced text)) (lent-text end e)
