-- the events of a tree, with its data trimmed
use Rattle.std.proofs.Common.{◌≡◌, ◌≢◌, ℕ, zero, suc, ◌+◌, ◌&&◌, ◌||◌, Bool, true, false, List, [], ◌∷◌, ◌++◌, length, drop, reverse, inl, inr, Option, Some, None, if◌then◌else◌, refl, sym, ap, subst, ◌∙◌, arith, append_assoc, append-nil, not}
use Rattle.std.specs.Option.{option_map}
use Rattle.std.proofs.lemmas.List.{drop_all, reverse-reverse}
use Rattle.std.proofs.lemmas.Bool.{cases_Bool, or_parts}
use Rattle.markdown_content.specs.Codes.{Code, is_blank, stop_of, document_start}
use Rattle.markdown_engine_events.specs.Edits.{moved_number, edited_from, edited}
use Rattle.markdown_engine.specs.Operations.{link_back}
use Rattle.markdown_engine.specs.PastTree.{appended_from, last_link}
use Rattle.markdown_content.specs.Tree.{Forest, empty, leaf_then, group_then, leaf, ◌⊕◌, event, event_count, start_of}
use Rattle.markdown_event.specs.declared.event.Content.{Content}
use Rattle.markdown_event.specs.declared.event.Event.{Event}
use Rattle.markdown_event.specs.declared.event.Kind.TheVariants as Kind
use Rattle.markdown_event.specs.declared.event.Name.{Name}
use Rattle.markdown_event.specs.declared.event.Name.TheVariants as N
use Rattle.markdown_event.specs.declared.event.Point.{Point}
use Rattle.markdown_engine_events.specs.declared.util.edit_map.Edit.{Edit}
use Rattle.markdown_engine_events.proofs.EditLemmas.{start}
use Rattle.markdown_engine_events.proofs.EditSteps.{AreOfTwo, Fresh, OneStays, one-stays, TwoStay, two-stay, TwoGo, two-go, drop-next, drop-part}
use Rattle.markdown_engine.proofs.TreeEvents.{length-appended_from, appended_from-row}
use Rattle.markdown_model.specs.Passes.{HardBreaks, breaks_where, trimmed, trimmed_data, blank_name, begins_line_ending, is_nothing}
use Rattle.markdown_passes.specs.MergedEvents.{is_data, opens_data}
use Rattle.markdown_passes.specs.TrimmedData.{trimmed_events, between, loses_blank, starts_blank, ends_blank}
use Rattle.markdown_passes.specs.TrimmedEvents.{flag, is_ending, closes_ending, goes_before, loses, loses_first, HasParts}
use Rattle.markdown_content.specs.DocumentWalk.{IsPoint}
use Rattle.markdown_content.specs.Codes.{codes_of, is_code_before, place_of, point_at}
use Rattle.std.proofs.Common.{filter}
use Rattle.std.proofs.Math.Bool.{and-false}
use Rattle.std.proofs.lemmas.Bool.{and_left, both_ways}
use Rattle.markdown_content.proofs.AdjacentCodes.{IsChain, chain-back, first-start, before_in-split, stop-later}
use Rattle.markdown_content.proofs.DocumentPlaces.{chain-split, point-split, after-split}
use Rattle.markdown_passes.specs.TrimmedData.{IsStretch}
use Rattle.markdown_passes.specs.TrimmedEvents.{AreDocumentCodes, HasPlaces}
use Rattle.markdown_passes.proofs.TrimWalks.{forward-as}
use Rattle.markdown_passes.proofs.TrimEdits.{comes, log_of, loses_at, comes_at, trims-of-two}
use Rattle.markdown_passes.proofs.TrimmedLeaves.{three-leaves, kept_of, lead_of, tail_of, cut}
use Rattle.markdown_model.proofs.GrammarSteps.{span-none}

-- Trimming, step by step.

pub trimmed-data : (hard : HardBreaks) (front whole : Bool) (cs : List Code) (rest : Forest) →
    trimmed hard front whole (leaf_then N.Data None cs rest) ≡ trimmed_data front (begins_line_ending rest || (whole && is_nothing rest)) (breaks_where hard (begins_line_ending rest)) cs ⊕ trimmed hard false whole rest
unfolding trimmed
trimmed-data hard front whole cs rest = refl

pub trimmed-other : (hard : HardBreaks) (front whole : Bool) (n : Name) (cs : List Code) (rest : Forest) → is_data n ≡ false →
    trimmed hard front whole (leaf_then n None cs rest) ≡ leaf_then n None cs (trimmed hard (is_ending n) whole rest)
unfolding trimmed
trimmed-other hard front whole N.Data cs rest e = cc
trimmed-other hard front whole N.LineEnding cs rest e = refl
trimmed-other hard front whole _ cs rest e = refl

pub trimmed-linked : (hard : HardBreaks) (front whole : Bool) (n : Name) (c : Content) (cs : List Code) (rest : Forest) →
    trimmed hard front whole (leaf_then n (Some c) cs rest) ≡ leaf_then n (Some c) cs (trimmed hard (is_ending n) whole rest)
unfolding trimmed
trimmed-linked hard front whole N.Data c cs rest = refl
trimmed-linked hard front whole N.LineEnding c cs rest = refl
trimmed-linked hard front whole _ c cs rest = refl

pub trimmed-group : (hard : HardBreaks) (front whole : Bool) (n : Name) (p q : Point) (inside rest : Forest) →
    trimmed hard front whole (group_then n p q inside rest) ≡ group_then n p q (trimmed hard false false inside) (trimmed hard false whole rest)
unfolding trimmed
trimmed-group hard front whole n p q inside rest = refl

pub data-name : (n : Name) → is_data n ≡ true → n ≡ N.Data
data-name N.Data e = refl
data-name _ e = cc

-- data that loses no code

cut-none : (back keeps : Bool) (cs : List Code) → back && ends_blank cs ≡ false → cut (back && not keeps) cs ≡ ([], reverse cs)
cut-none true true cs h = refl
cut-none true false cs h = span-none is_blank (reverse cs) h
cut-none false keeps cs h = refl

lead-none : (front : Bool) (cs : List Code) → front && starts_blank cs ≡ false → lead_of front cs ≡ ([], cs)
lead-none true cs h = span-none is_blank cs h
lead-none false cs h = refl

leaf-alone : (name : Name) (cs : List Code) → leaf name cs ⊕ empty ≡ leaf name cs
leaf-alone name [] = refl
leaf-alone name (c ∷ cs) = refl

pub leaf-some : (name : Name) (cs : List Code) (rest : Forest) → cs ≢ [] → leaf name cs ⊕ rest ≡ leaf_then name None cs rest
leaf-some name [] rest h = absurd (h refl)
leaf-some name (c ∷ cs) rest h = refl

pub trimmed-none : (front back : Bool) (hard : HardBreaks) (cs : List Code) → loses_blank front back cs ≡ false →
    trimmed_data front back hard cs ≡ leaf N.Data cs
trimmed-none front back hard cs h =
    let parts = or_parts (front && starts_blank cs) (back && ends_blank cs) h in
    ap (λ (d : List Code × List Code). leaf N.SpaceOrTab (lead_of front (reverse d.1)).0 ⊕ leaf N.Data (lead_of front (reverse d.1)).1 ⊕ leaf (blank_name hard (reverse d.0)) (reverse d.0)) (cut-none back hard.keeps cs parts.1)
    ∙ ap (λ ds. leaf N.SpaceOrTab (lead_of front ds).0 ⊕ leaf N.Data (lead_of front ds).1 ⊕ empty) (reverse-reverse cs)
    ∙ ap (λ (d : List Code × List Code). leaf N.SpaceOrTab d.0 ⊕ leaf N.Data d.1 ⊕ empty) (lead-none front cs parts.0)
    ∙ leaf-alone N.Data cs

-- What follows a data.

begins-is : (n : Name) (l : Option Content) (cs : List Code) (rest : Forest) →
    begins_line_ending (leaf_then n l cs rest) ≡ is_ending n
begins-is N.LineEnding l cs rest = refl
begins-is _ l cs rest = refl

or-none : (a w : Bool) → a ≡ a || (w && false)
or-none true w = refl
or-none false true = refl
or-none false false = refl

and-one : (w : Bool) → w ≡ w && true
and-one true = refl
and-one false = refl

pub before-row : (bytes : List ℕ) (whole w : Bool) (n : ℕ) (previous : Option ℕ) (row : Forest) (tail : List Event) →
    HasParts bytes row → w ≡ goes_before whole tail →
    goes_before whole (appended_from n previous row ++ tail) ≡ begins_line_ending row || (w && is_nothing row)
before-row bytes whole w n previous empty tail h e = sym e ∙ and-one w
before-row bytes whole w n previous (leaf_then name None cs rest) tail h e =
    sym (begins-is name None cs rest) ∙ or-none (begins_line_ending (leaf_then name None cs rest)) w
before-row bytes whole w n previous (leaf_then name (Some c) cs rest) tail h e =
    sym (begins-is name (Some c) cs rest) ∙ or-none (begins_line_ending (leaf_then name (Some c) cs rest)) w
before-row bytes whole w n previous (group_then name p q inside rest) tail h e = h.0.1 ∙ or-none false w

-- a row that no line ending stands behind
ending-row : (bytes : List ℕ) (n : ℕ) (previous : Option ℕ) (row : Forest) (tail : List Event) → HasParts bytes row →
    goes_before false tail ≡ false → goes_before false (appended_from n previous row ++ tail) ≡ begins_line_ending row
ending-row bytes n previous row tail h e =
    before-row bytes false false n previous row tail h (sym e) ∙ sym (or-none (begins_line_ending row) false)

-- Part of a document.

pub stop-over : (p : Point) (front : List Code) (c : Code) (cs : List Code) →
    stop_of p (front ++ c ∷ cs) ≡ stop_of c.stop cs
stop-over p [] c cs = refl
stop-over p (d ∷ front) c cs = stop-over d.stop front c cs

pub record IsStretchOf (bytes : List ℕ) (cs : List Code) : Type 0 where
  pub stretch : IsStretch bytes (start_of cs) (stop_of document_start cs)
  pub codes : between bytes (start_of cs) (stop_of document_start cs) ≡ cs

pub part-of : (bytes : List ℕ) (cs : List Code) → AreDocumentCodes bytes cs → IsStretchOf bytes cs
unfolding between
part-of bytes [] h = absurd (h.some refl)
part-of bytes (c ∷ cs) h =
    let front : List Code = h.before in
    let back : List Code = h.after in
    let p : Point = stop_of document_start front in
    let q : Point = stop_of c.stop cs in
    let chain : IsChain document_start (front ++ ((c ∷ cs) ++ back)) = chain-split bytes front ((c ∷ cs) ++ back) h.whole in
    let from : IsPoint bytes p = record { here = point-split bytes front ((c ∷ cs) ++ back) h.whole } in
    let starts : c.start ≡ p = first-start document_start front c (cs ++ back) chain in
    let inner : IsChain p ((c ∷ cs) ++ back) = chain-back document_start front ((c ∷ cs) ++ back) chain in
    let again : codes_of bytes ≡ (front ++ c ∷ cs) ++ back = h.whole ∙ sym (append_assoc front (c ∷ cs) back) in
    let to : IsPoint bytes q = record { here = subst (λ (x : Point). point_at bytes (place_of x) ≡ x) (stop-over document_start front c cs) (point-split bytes (front ++ c ∷ cs) back again) } in
    let stretch : IsStretch bytes p q = record { from_place = from; to_place = to; forward = forward-as p q (stop-later p (c ∷ cs) back inner) } in
    let codes : between bytes p q ≡ c ∷ cs = ap (filter (is_code_before (place_of q))) (after-split bytes front ((c ∷ cs) ++ back) h.whole) ∙ before_in-split p (c ∷ cs) back inner in
    record { stretch = subst (λ (x : Point). IsStretch bytes x q) (sym starts) stretch; codes = ap (λ (x : Point). between bytes x q) starts ∙ codes }

-- the events of data that is trimmed, whatever their number

plain-last : (m : ℕ) (q : Option ℕ) (a b c : Name) (xs ys zs : List Code) →
    last_link m q (leaf a xs ⊕ leaf b ys ⊕ leaf c zs) ≡ q
plain-last m q a b c [] [] [] = refl
plain-last m q a b c [] [] (z ∷ zs) = refl
plain-last m q a b c [] (y ∷ ys) [] = refl
plain-last m q a b c [] (y ∷ ys) (z ∷ zs) = refl
plain-last m q a b c (x ∷ xs) [] [] = refl
plain-last m q a b c (x ∷ xs) [] (z ∷ zs) = refl
plain-last m q a b c (x ∷ xs) (y ∷ ys) [] = refl
plain-last m q a b c (x ∷ xs) (y ∷ ys) (z ∷ zs) = refl

trimmed-last : (m : ℕ) (q : Option ℕ) (front back : Bool) (hard : HardBreaks) (cs : List Code) →
    last_link m q (trimmed_data front back hard cs) ≡ q
trimmed-last m q front back hard cs =
    let goes : Bool = back && not hard.keeps in
    let lead : List Code × List Code = lead_of front (kept_of goes cs) in plain-last m q N.SpaceOrTab N.Data (blank_name hard (tail_of goes cs)) lead.0 lead.1 (tail_of goes cs)

trimmed-same : (m : ℕ) (q : Option ℕ) (front back : Bool) (hard : HardBreaks) (cs : List Code) →
    appended_from m q (trimmed_data front back hard cs) ≡ appended_from 0 None (trimmed_data front back hard cs)
trimmed-same m q front back hard cs =
    let goes : Bool = back && not hard.keeps in
    let lead : List Code × List Code = lead_of front (kept_of goes cs) in
    three-leaves m q N.SpaceOrTab N.Data (blank_name hard (tail_of goes cs)) lead.0 lead.1 (tail_of goes cs) ∙ sym (three-leaves 0 None N.SpaceOrTab N.Data (blank_name hard (tail_of goes cs)) lead.0 lead.1 (tail_of goes cs))

trimmed-row : (m : ℕ) (q : Option ℕ) (front back : Bool) (hard : HardBreaks) (cs : List Code) (t : Forest) →
    appended_from m q (trimmed_data front back hard cs ⊕ t) ≡ appended_from 0 None (trimmed_data front back hard cs) ++ appended_from (m + event_count (trimmed_data front back hard cs)) q t
trimmed-row m q front back hard cs t =
    let D : Forest = trimmed_data front back hard cs in
    appended_from-row m q D t
    ∙ ap (λ xs. xs ++ appended_from (m + event_count D) (last_link m q D) t) (trimmed-same m q front back hard cs)
    ∙ ap (λ o. appended_from 0 None D ++ appended_from (m + event_count D) o t) (trimmed-last m q front back hard cs)

pub count-row : (t u : Forest) → event_count (t ⊕ u) ≡ event_count t + event_count u
count-row empty u = omega arith
count-row (leaf_then name link cs rest) u = let r = count-row rest u in omega arith
count-row (group_then name p q inside rest) u = let r = count-row rest u in omega arith

events-are : (front back : Bool) (hard : HardBreaks) (bytes : List ℕ) (p q : Point) →
    trimmed_events front back hard bytes p q ≡ appended_from 0 None (trimmed_data front back hard (between bytes p q))
unfolding trimmed_events
events-are front back hard bytes p q = refl

-- One event.

cut-first : (bytes : List ℕ) (whole front : Bool) (xs : List Event) (e : Event) (rest : List Event) → xs ≡ e ∷ rest →
    opens_data e ≡ false → loses_first bytes whole front xs ≡ false
cut-first bytes whole front [] e rest h o = cc
cut-first bytes whole front (x ∷ []) e rest h o = refl
cut-first bytes whole front (x ∷ y ∷ xs) e rest h o = ap (λ b. b && loses front (goes_before whole xs) bytes x.point y.point) (ap first-opens h ∙ o)
  where
    first-opens : List Event → Bool
    first-opens [] = false
    first-opens (z ∷ zs) = opens_data z

abbrev first_closes : List Event → Bool
first_closes [] = false
first_closes (e ∷ es) = closes_ending e

flag-next : (n : ℕ) (front : Bool) (es : List Event) (e : Event) (rest : List Event) → drop n es ≡ e ∷ rest →
    flag (suc n) front es ≡ first_closes (drop n es)
flag-next zero front [] e rest h = cc
flag-next zero front (x ∷ es) e rest h = refl
flag-next (suc n) front [] e rest h = cc
flag-next (suc n) front (x ∷ es) e rest h = flag-next n (closes_ending x) es e rest h

module _ (bytes : List ℕ) (hard : HardBreaks) (whole : Bool) (es : List Event) where
  abbrev log : List Edit
  log = log_of bytes hard whole es

  -- no data that loses codes begins here
  abbrev LosesNothing : ℕ → Type 0
  LosesNothing n = loses_at bytes hard whole es n ≡ false

  abbrev two : AreOfTwo log (loses_at bytes hard whole es) (comes_at bytes hard whole es)
  two = trims-of-two bytes hard whole es

  abbrev FreshForTrims : ℕ → Type 0
  FreshForTrims n = Fresh log (loses_at bytes hard whole es) (comes_at bytes hard whole es) two n

  other-stays : (n : ℕ) (e : Event) (rest : List Event) → drop n es ≡ e ∷ rest → opens_data e ≡ false → LosesNothing n
  other-stays n e rest h o = cut-first bytes whole (flag n whole es) (drop n es) e rest h o

  flag-after : (n : ℕ) (e : Event) (rest : List Event) → drop n es ≡ e ∷ rest → flag (n + 1) whole es ≡ closes_ending e
  flag-after n e rest h =
      let one : n + 1 ≡ suc n = omega arith in ap (λ i. flag i whole es) one ∙ flag-next n whole es e rest h ∙ ap first_closes h

  flag-two : (n : ℕ) (e x : Event) (rest : List Event) → drop n es ≡ e ∷ x ∷ rest → flag (n + 2) whole es ≡ closes_ending x
  flag-two n e x rest h =
      let same : n + 1 + 1 ≡ n + 2 = omega arith in
      ap (λ i. flag i whole es) (sym same) ∙ flag-after (n + 1) x rest (drop-next n es e (x ∷ rest) h)

  -- past an event that stays
  abbrev OneStaysForTrims : ℕ → Event → List Event → Type 0
  OneStaysForTrims n e rest = OneStays log (loses_at bytes hard whole es) (comes_at bytes hard whole es) two es n e rest

  step : (n : ℕ) (e : Event) (rest : List Event) → drop n es ≡ e ∷ rest → opens_data e ≡ false → FreshForTrims n → OneStaysForTrims n e rest
  step n e rest h o f =
      one-stays log (loses_at bytes hard whole es) (comes_at bytes hard whole es) two es n e rest h (other-stays n e rest h o) f

  -- past two events that stay
  abbrev TwoStayForTrims : ℕ → Event → Event → List Event → Type 0
  TwoStayForTrims n e x rest = TwoStay log (loses_at bytes hard whole es) (comes_at bytes hard whole es) two es n e x rest

  pair : (n : ℕ) (e x : Event) (rest : List Event) → drop n es ≡ e ∷ x ∷ rest → LosesNothing n → opens_data x ≡ false →
      FreshForTrims n → TwoStayForTrims n e x rest
  pair n e x rest h o k f =
      two-stay log (loses_at bytes hard whole es) (comes_at bytes hard whole es) two es n e x rest h o (other-stays (n + 1) x rest (drop-next n es e (x ∷ rest) h) k) f

  -- past data that loses codes
  abbrev TwoGoForTrims : ℕ → Event → Event → List Event → Type 0
  TwoGoForTrims n e x rest = TwoGo log (loses_at bytes hard whole es) (comes_at bytes hard whole es) two es n e x rest

  data-cut : (n : ℕ) (front : Bool) (e x : Event) (rest : List Event) → drop n es ≡ e ∷ x ∷ rest → opens_data e ≡ true →
      opens_data x ≡ false → flag n whole es ≡ front →
      loses front (goes_before whole rest) bytes e.point x.point ≡ true → TwoGoForTrims n e x rest
  data-cut n front e x rest h o k f l =
      let begins : loses_at bytes hard whole es n ≡ true = ap (λ b. loses_first bytes whole b (drop n es)) f ∙ ap (loses_first bytes whole front) h ∙ ap (λ b. b && loses front (goes_before whole rest) bytes e.point x.point) o ∙ l in
      two-go log (loses_at bytes hard whole es) (comes_at bytes hard whole es) two es n e x rest h begins (other-stays (n + 1) x rest (drop-next n es e (x ∷ rest) h) k)

  -- Rows.

  -- a row of the events: those from n on, followed by others; its first event is to have number m
  record TrimRowHere (n m : ℕ) (front w : Bool) (previous : Option ℕ) (row : Forest) (tail : List Event) : Type 0 where
    there : drop n es ≡ appended_from n previous row ++ tail
    flagged : flag n whole es ≡ front
    placed : start log n ≡ m
    fresh : FreshForTrims n
    ends : w ≡ goes_before whole tail
    plain : goes_before false tail ≡ false
    has_parts : HasParts bytes row

  -- what the edits leave of it are the events of the trimmed row
  record Trims (n m : ℕ) (front w : Bool) (previous : Option ℕ) (row : Forest) (tail : List Event) : Type 0 where
    events : edited_from log n (appended_from n previous row ++ tail) ≡ appended_from m (option_map (moved_number log) previous) (trimmed hard front w row) ++ edited_from log (n + event_count row) tail
    placed : start log (n + event_count row) ≡ m + event_count (trimmed hard front w row)
    fresh : FreshForTrims (n + event_count row)

  abbrev TrimRowLaw : Forest → Type 0
  TrimRowLaw row = (n m : ℕ) (front w : Bool) (previous : Option ℕ) (tail : List Event) → TrimRowHere n m front w previous row tail →
      Trims n m front w previous row tail

  law-empty : TrimRowLaw empty
  unfolding trimmed
  law-empty n m front w previous tail h =
      let same : n ≡ n + 0 = omega arith in
      record {
        events = ap (λ i. edited_from log i tail) same;
        placed = ap (start log) (sym same) ∙ h.placed ∙ omega arith;
        fresh = subst (λ (i : ℕ). FreshForTrims i) same h.fresh;
      }

  leaf-other : (name : Name) (cs : List Code) (rest : Forest) → is_data name ≡ false → TrimRowLaw rest →
      TrimRowLaw (leaf_then name None cs rest)
  leaf-other name cs rest other law n m front w previous tail h =
      let e : Event = event Kind.Enter name (start_of cs) in
      let x : Event = event Kind.Exit name (stop_of document_start cs) in
      let q : Option ℕ = option_map (moved_number log) previous in
      let p : TwoStayForTrims n e x (appended_from (n + 2) previous rest ++ tail) = pair n e x (appended_from (n + 2) previous rest ++ tail) h.there (other-stays n e (x ∷ appended_from (n + 2) previous rest ++ tail) h.there (and_left (is_data name) true other)) refl h.fresh in
      let r : Trims (n + 2) (m + 2) (is_ending name) w previous rest tail =
      law (n + 2) (m + 2) (is_ending name) w previous tail (record { there = p.there; flagged = flag-two n e x (appended_from (n + 2) previous rest ++ tail) h.there; placed = omega (arith, p.placed, h.placed); fresh = p.fresh; ends = h.ends; plain = h.plain; has_parts = h.has_parts.1 }) in
      let same : n + 2 + event_count rest ≡ n + (2 + event_count rest) = omega arith in
      let is = trimmed-other hard front w name cs rest other in
      record {
        events = p.events
            ∙ ap (λ xs. e ∷ x ∷ xs) (r.events ∙ ap (λ i. appended_from (m + 2) q (trimmed hard (is_ending name) w rest) ++ edited_from log i tail) same)
            ∙ ap (λ t. appended_from m q t ++ edited_from log (n + (2 + event_count rest)) tail) (sym is);
        placed = ap (start log) (sym same) ∙ r.placed ∙ omega arith ∙ ap (λ t. m + event_count t) (sym is);
        fresh = subst (λ (i : ℕ). FreshForTrims i) same r.fresh;
      }

  leaf-linked : (name : Name) (c : Content) (cs : List Code) (rest : Forest) → TrimRowLaw rest →
      TrimRowLaw (leaf_then name (Some c) cs rest)
  leaf-linked name c cs rest law n m front w previous tail h =
      let e : Event = record { kind = Kind.Enter; name = name; point = start_of cs; link = Some (link_back previous c) } in
      let x : Event = event Kind.Exit name (stop_of document_start cs) in
      let q : Option ℕ = option_map (moved_number log) previous in
      let e2 : Event = record { kind = Kind.Enter; name = name; point = start_of cs; link = Some (link_back q c) } in
      let p : TwoStayForTrims n e x (appended_from (n + 2) (Some n) rest ++ tail) = pair n e x (appended_from (n + 2) (Some n) rest ++ tail) h.there (other-stays n e (x ∷ appended_from (n + 2) (Some n) rest ++ tail) h.there (and-false (is_data name))) refl h.fresh in
      let r : Trims (n + 2) (m + 2) (is_ending name) w (Some n) rest tail =
      law (n + 2) (m + 2) (is_ending name) w (Some n) tail (record { there = p.there; flagged = flag-two n e x (appended_from (n + 2) (Some n) rest ++ tail) h.there; placed = omega (arith, p.placed, h.placed); fresh = p.fresh; ends = h.ends; plain = h.plain; has_parts = h.has_parts.1 }) in
      let same : n + 2 + event_count rest ≡ n + (2 + event_count rest) = omega arith in
      let is = trimmed-linked hard front w name c cs rest in
      record {
        events = p.events
            ∙ ap (λ xs. e2 ∷ x ∷ xs) (r.events ∙ ap (λ i. appended_from (m + 2) (Some i) (trimmed hard (is_ending name) w rest) ++ edited_from log (n + 2 + event_count rest) tail) (p.number ∙ h.placed) ∙ ap (λ i. appended_from (m + 2) (Some m) (trimmed hard (is_ending name) w rest) ++ edited_from log i tail) same)
            ∙ ap (λ t. appended_from m q t ++ edited_from log (n + (2 + event_count rest)) tail) (sym is);
        placed = ap (start log) (sym same) ∙ r.placed ∙ omega arith ∙ ap (λ t. m + event_count t) (sym is);
        fresh = subst (λ (i : ℕ). FreshForTrims i) same r.fresh;
      }

  -- whether data loses codes, by the tree
  abbrev lost : Bool → Bool → List Code → Forest → Bool
  lost front w cs rest = loses_blank front (begins_line_ending rest || (w && is_nothing rest)) cs

  lost-is : (n m : ℕ) (front w : Bool) (previous : Option ℕ) (tail : List Event) (cs : List Code) (rest : Forest) →
      TrimRowHere n m front w previous (leaf_then N.Data None cs rest) tail →
      loses front (goes_before whole (appended_from (n + 2) previous rest ++ tail)) bytes (start_of cs) (stop_of document_start cs) ≡ lost front w cs rest
  lost-is n m front w previous tail cs rest h =
      ap (λ b. loses_blank front b (between bytes (start_of cs) (stop_of document_start cs))) (before-row bytes whole w (n + 2) previous rest tail h.has_parts.1 h.ends)
      ∙ ap (loses_blank front (begins_line_ending rest || (w && is_nothing rest))) (part-of bytes cs (h.has_parts.0 refl refl)).codes

  -- data that loses none stays
  data-whole : (cs : List Code) (rest : Forest) → TrimRowLaw rest →
      (n m : ℕ) (front w : Bool) (previous : Option ℕ) (tail : List Event) →
      TrimRowHere n m front w previous (leaf_then N.Data None cs rest) tail → lost front w cs rest ≡ false →
      Trims n m front w previous (leaf_then N.Data None cs rest) tail
  data-whole cs rest law n m front w previous tail h l =
      let e : Event = event Kind.Enter N.Data (start_of cs) in
      let x : Event = event Kind.Exit N.Data (stop_of document_start cs) in
      let q : Option ℕ = option_map (moved_number log) previous in
      let more : List Event = appended_from (n + 2) previous rest ++ tail in
      let stays : LosesNothing n =
      ap (λ b. loses_first bytes whole b (drop n es)) h.flagged ∙ ap (loses_first bytes whole front) h.there ∙ lost-is n m front w previous tail cs rest h ∙ l in
      let p : TwoStayForTrims n e x more = pair n e x more h.there stays refl h.fresh in
      let r : Trims (n + 2) (m + 2) false w previous rest tail =
      law (n + 2) (m + 2) false w previous tail (record { there = p.there; flagged = flag-two n e x more h.there; placed = omega (arith, p.placed, h.placed); fresh = p.fresh; ends = h.ends; plain = h.plain; has_parts = h.has_parts.1 }) in
      let same : n + 2 + event_count rest ≡ n + (2 + event_count rest) = omega arith in
      let is : trimmed hard front w (leaf_then N.Data None cs rest) ≡ leaf_then N.Data None cs (trimmed hard false w rest) =
      trimmed-data hard front w cs rest
      ∙ ap (λ D. D ⊕ trimmed hard false w rest) (trimmed-none front (begins_line_ending rest || (w && is_nothing rest)) (breaks_where hard (begins_line_ending rest)) cs l)
      ∙ leaf-some N.Data cs (trimmed hard false w rest) (h.has_parts.0 refl refl).some in
      record {
        events = p.events
            ∙ ap (λ xs. e ∷ x ∷ xs) (r.events ∙ ap (λ i. appended_from (m + 2) q (trimmed hard false w rest) ++ edited_from log i tail) same)
            ∙ ap (λ t. appended_from m q t ++ edited_from log (n + (2 + event_count rest)) tail) (sym is);
        placed = ap (start log) (sym same) ∙ r.placed ∙ omega arith ∙ ap (λ t. m + event_count t) (sym is);
        fresh = subst (λ (i : ℕ). FreshForTrims i) same r.fresh;
      }

  data-trimmed : (cs : List Code) (rest : Forest) → TrimRowLaw rest →
      (n m : ℕ) (front w : Bool) (previous : Option ℕ) (tail : List Event) →
      TrimRowHere n m front w previous (leaf_then N.Data None cs rest) tail → lost front w cs rest ≡ true →
      Trims n m front w previous (leaf_then N.Data None cs rest) tail
  data-trimmed cs rest law n m front w previous tail h l =
      let e : Event = event Kind.Enter N.Data (start_of cs) in
      let x : Event = event Kind.Exit N.Data (stop_of document_start cs) in
      let q : Option ℕ = option_map (moved_number log) previous in
      let more : List Event = appended_from (n + 2) previous rest ++ tail in
      let part : IsStretchOf bytes cs = part-of bytes cs (h.has_parts.0 refl refl) in
      let back : Bool = begins_line_ending rest || (w && is_nothing rest) in
      let may : HardBreaks = breaks_where hard (begins_line_ending rest) in
      let D : Forest = trimmed_data front back may cs in
      let R : Forest = trimmed hard false w rest in
      let T : List Event = comes_at bytes hard whole es n in
      let k : TwoGoForTrims n e x more = data-cut n front e x more h.there refl refl h.flagged (lost-is n m front w previous tail cs rest h ∙ l) in
      let T-is : T ≡ appended_from 0 None D =
      ap (λ b. comes bytes hard whole b (drop n es)) h.flagged
      ∙ ap (comes bytes hard whole front) h.there
      ∙ events-are front (goes_before whole more) (breaks_where hard (goes_before false more)) bytes e.point x.point
      ∙ ap (λ b. appended_from 0 None (trimmed_data front b (breaks_where hard (goes_before false more)) (between bytes e.point x.point))) (before-row bytes whole w (n + 2) previous rest tail h.has_parts.1 h.ends)
      ∙ ap (λ b. appended_from 0 None (trimmed_data front back (breaks_where hard b) (between bytes e.point x.point))) (ending-row bytes (n + 2) previous rest tail h.has_parts.1 h.plain)
      ∙ ap (λ ds. appended_from 0 None (trimmed_data front back may ds)) part.codes in
      let size : length T ≡ event_count D = ap length T-is ∙ length-appended_from 0 None D in
      let r : Trims (n + 2) (m + event_count D) false w previous rest tail =
      law (n + 2) (m + event_count D) false w previous tail (record { there = k.there; flagged = flag-two n e x more h.there; placed = omega (arith, k.placed, h.placed, size); fresh = k.fresh; ends = h.ends; plain = h.plain; has_parts = h.has_parts.1 }) in
      let same : n + 2 + event_count rest ≡ n + (2 + event_count rest) = omega arith in
      let is = trimmed-data hard front w cs rest in
      let Z : List Event = edited_from log (n + (2 + event_count rest)) tail in
      let A : List Event = appended_from (m + event_count D) q R in
      let count : event_count (D ⊕ R) ≡ event_count D + event_count R = count-row D R in
      record {
        events = k.events
            ∙ ap (λ xs. T ++ xs) (r.events ∙ ap (λ i. A ++ edited_from log i tail) same)
            ∙ sym (append_assoc T A Z)
            ∙ ap (λ xs. (xs ++ A) ++ Z) T-is
            ∙ ap (λ xs. xs ++ Z) (sym (trimmed-row m q front back may cs R))
            ∙ ap (λ t. appended_from m q t ++ Z) (sym is);
        placed = ap (start log) (sym same) ∙ r.placed ∙ omega (arith, count) ∙ ap (λ t. m + event_count t) (sym is);
        fresh = subst (λ (i : ℕ). FreshForTrims i) same r.fresh;
      }

  leaf-data : (cs : List Code) (rest : Forest) → TrimRowLaw rest → TrimRowLaw (leaf_then N.Data None cs rest)
  leaf-data cs rest law n m front w previous tail h =
      elim (cases_Bool (lost front w cs rest)) [
        | inl l ↦ data-trimmed cs rest law n m front w previous tail h l
        | inr l ↦ data-whole cs rest law n m front w previous tail h l
      ]

  law-group : (name : Name) (a b : Point) (inside rest : Forest) → TrimRowLaw inside → TrimRowLaw rest →
      TrimRowLaw (group_then name a b inside rest)
  law-group name a b inside rest law_inside law_rest n m front w previous tail h =
      let ci : ℕ = event_count inside in
      let cr : ℕ = event_count rest in
      let I : Forest = trimmed hard false false inside in
      let R : Forest = trimmed hard false w rest in
      let mi : ℕ = event_count I in
      let q : Option ℕ = option_map (moved_number log) previous in
      let e : Event = event Kind.Enter name a in
      let x : Event = event Kind.Exit name b in
      let inner : List Event = appended_from (n + 1) None inside in
      let more : List Event = appended_from (n + 2 + ci) previous rest ++ tail in
      let apart : (inner ++ x ∷ appended_from (n + 2 + ci) previous rest) ++ tail ≡ inner ++ x ∷ more = append_assoc inner (x ∷ appended_from (n + 2 + ci) previous rest) tail in
      let there1 : drop n es ≡ e ∷ (inner ++ x ∷ more) = h.there ∙ ap (λ xs. e ∷ xs) apart in
      let s1 : OneStaysForTrims n e (inner ++ x ∷ more) = step n e (inner ++ x ∷ more) there1 (and_left (is_data name) true h.has_parts.0.0) h.fresh in
      let r1 : Trims (n + 1) (m + 1) false false None inside (x ∷ more) =
      law_inside (n + 1) (m + 1) false false None (x ∷ more) (record { there = s1.there; flagged = flag-after n e (inner ++ x ∷ more) there1; placed = omega (arith, s1.placed, h.placed); fresh = s1.fresh; ends = refl; plain = refl; has_parts = h.has_parts.1.0 }) in
      let k : ℕ = n + 1 + ci in
      let there2 : drop k es ≡ x ∷ more = drop-part (n + 1) ci es inner (x ∷ more) s1.there (length-appended_from (n + 1) None inside) in
      let s2 : OneStaysForTrims k x more = step k x more there2 refl r1.fresh in
      let next : k + 1 ≡ n + 2 + ci = omega arith in
      let next2 : m + 1 + mi + 1 ≡ m + 2 + mi = omega arith in
      let r2 : Trims (n + 2 + ci) (m + 2 + mi) false w previous rest tail =
      law_rest (n + 2 + ci) (m + 2 + mi) false w previous tail (record {
        there = ap (λ i. drop i es) (sym next) ∙ s2.there;
        flagged = ap (λ i. flag i whole es) (sym next) ∙ flag-after k x more there2 ∙ h.has_parts.0.1;
        placed = ap (start log) (sym next) ∙ s2.placed ∙ ap (λ i. i + 1) r1.placed ∙ next2;
        fresh = subst (λ (i : ℕ). FreshForTrims i) next s2.fresh;
        ends = h.ends;
        plain = h.plain;
        has_parts = h.has_parts.1.1;
      }) in
      let same : n + 2 + ci + cr ≡ n + (2 + ci + cr) = omega arith in
      let Z : List Event = edited_from log (n + (2 + ci + cr)) tail in
      let B : List Event = appended_from (m + 1) None I in
      let A : List Event = appended_from (m + 2 + mi) q R in
      let is = trimmed-group hard front w name a b inside rest in
      let from_x : edited_from log k (x ∷ more) ≡ x ∷ A ++ Z =
      s2.events ∙ ap (λ xs. x ∷ xs) (ap (λ i. edited_from log i more) next ∙ r2.events ∙ ap (λ i. A ++ edited_from log i tail) same) in
      record {
        events = ap (λ xs. edited_from log n (e ∷ xs)) apart
            ∙ s1.events
            ∙ ap (λ xs. e ∷ xs) (r1.events ∙ ap (λ xs. B ++ xs) from_x ∙ sym (append_assoc B (x ∷ A) Z))
            ∙ ap (λ t. appended_from m q t ++ Z) (sym is);
        placed = ap (start log) (sym same) ∙ r2.placed ∙ omega arith ∙ ap (λ t. m + event_count t) (sym is);
        fresh = subst (λ (i : ℕ). FreshForTrims i) same r2.fresh;
      }

  leaf-plain : (name : Name) (cs : List Code) (rest : Forest) (b : Bool) → is_data name ≡ b → TrimRowLaw rest →
      TrimRowLaw (leaf_then name None cs rest)
  leaf-plain name cs rest true e law =
      subst (λ (x : Name). TrimRowLaw (leaf_then x None cs rest)) (sym (data-name name e)) (leaf-data cs rest law)
  leaf-plain name cs rest false e law = leaf-other name cs rest e law

  law : (row : Forest) → TrimRowLaw row
  law empty = law-empty
  law (leaf_then name None cs rest) = leaf-plain name cs rest (is_data name) refl (law rest)
  law (leaf_then name (Some c) cs rest) = leaf-linked name c cs rest (law rest)
  law (group_then name a b inside rest) = law-group name a b inside rest (law inside) (law rest)

-- trimming the events of a tree leaves those of the trimmed tree
pub trimmed-tree : (bytes : List ℕ) (hard : HardBreaks) (whole : Bool) (t : Forest) → HasParts bytes t → (es : List Event) →
    es ≡ appended_from 0 None t →
    edited (log_of bytes hard whole es) es ≡ appended_from 0 None (trimmed hard whole whole t)
trimmed-tree bytes hard whole t h es e =
    let all : es ≡ appended_from 0 None t ++ [] = e ∙ sym (append-nil (appended_from 0 None t)) in
    let r : Trims bytes hard whole es 0 0 whole whole None t [] = law bytes hard whole es t 0 0 whole whole None [] (record { there = all; flagged = refl; placed = refl; fresh = λ p k. absurd (omega (arith, k)); ends = refl; plain = refl; has_parts = h }) in
    let end : ℕ = 0 + event_count t in
    let size : length es ≡ event_count t = ap length e ∙ length-appended_from 0 None t in
    let left : drop end es ≡ [] = drop_all end es (omega (arith, size)) in
    ap (edited_from (log_of bytes hard whole es) 0) all
    ∙ r.events
    ∙ ap (λ xs. appended_from 0 None (trimmed hard whole whole t) ++ xs) ((trims-of-two bytes hard whole es).added end ∙ ap (λ xs. if loses_first bytes whole (flag end whole es) xs then comes bytes hard whole (flag end whole es) xs else []) left)
    ∙ append-nil (appended_from 0 None (trimmed hard whole whole t))

-- The data of such a tree has its places.

places-other : (bytes : List ℕ) (e : Event) (es : List Event) → opens_data e ≡ false → HasPlaces bytes es →
    HasPlaces bytes (e ∷ es)
places-other bytes e es h p = (λ o. absurd (both_ways (opens_data e) h o), p)

places-leaf : (bytes : List ℕ) (name : Name) (cs : List Code) (rest : List Event) (b : Bool) → is_data name ≡ b →
    (is_data name ≡ true → AreDocumentCodes bytes cs) → HasPlaces bytes rest →
    HasPlaces bytes (event Kind.Enter name (start_of cs) ∷ event Kind.Exit name (stop_of document_start cs) ∷ rest)
places-leaf bytes name cs rest true e h p =
    (λ o. ((part-of bytes cs (h e)).stretch, refl), places-other bytes (event Kind.Exit name (stop_of document_start cs)) rest refl p)
places-leaf bytes name cs rest false e h p =
    places-other bytes (event Kind.Enter name (start_of cs)) (event Kind.Exit name (stop_of document_start cs) ∷ rest) (ap (λ b. b && true) e) (places-other bytes (event Kind.Exit name (stop_of document_start cs)) rest refl p)

pub places-row : (bytes : List ℕ) (t : Forest) (n : ℕ) (previous : Option ℕ) (rest : List Event) → HasParts bytes t →
    HasPlaces bytes rest → HasPlaces bytes (appended_from n previous t ++ rest)
places-row bytes empty n previous rest h p = p
places-row bytes (leaf_then name None cs t) n previous rest h p =
    places-leaf bytes name cs (appended_from (n + 2) previous t ++ rest) (is_data name) refl (λ e. h.0 e refl) (places-row bytes t (n + 2) previous rest h.1 p)
places-row bytes (leaf_then name (Some c) cs t) n previous rest h p =
    places-other bytes (record { kind = Kind.Enter; name = name; point = start_of cs; link = Some (link_back previous c) }) (event Kind.Exit name (stop_of document_start cs) ∷ appended_from (n + 2) (Some n) t ++ rest) (and-false (is_data name))
    (places-other bytes (event Kind.Exit name (stop_of document_start cs)) (appended_from (n + 2) (Some n) t ++ rest) refl (places-row bytes t (n + 2) (Some n) rest h.1 p))
places-row bytes (group_then name a b inside t) n previous rest h p =
    let m : ℕ = n + 2 + event_count inside in
    let x : Event = event Kind.Exit name b in
    let row : List Event = appended_from m previous t in
    let inner : List Event = appended_from (n + 1) None inside in
    let behind : HasPlaces bytes (x ∷ (row ++ rest)) = places-other bytes x (row ++ rest) refl (places-row bytes t m previous rest h.1.1 p) in
    let whole : HasPlaces bytes (inner ++ (x ∷ (row ++ rest))) = places-row bytes inside (n + 1) None (x ∷ (row ++ rest)) h.1.0 behind in
    let apart : (inner ++ (x ∷ row)) ++ rest ≡ inner ++ (x ∷ (row ++ rest)) = append_assoc inner (x ∷ row) rest in
    places-other bytes (event Kind.Enter name a) ((inner ++ (x ∷ row)) ++ rest) (ap (λ c. c && true) h.0.0) (subst (λ (xs : List Event). HasPlaces bytes xs) (sym apart) whole)

-- so the premise on the places follows from that on the tree
pub places-of : (bytes : List ℕ) (t : Forest) (es : List Event) → HasParts bytes t → es ≡ appended_from 0 None t →
    HasPlaces bytes es
places-of bytes t es h e =
    subst (λ (xs : List Event). HasPlaces bytes xs) (append-nil (appended_from 0 None t) ∙ sym e) (places-row bytes t 0 None [] h tt)
