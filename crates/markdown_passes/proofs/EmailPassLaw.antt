-- the events of a tree, with its email literals
use Rattle.std.proofs.Common.{◌≡◌, ◌≢◌, ℕ, ◌+◌, ◌==◌, ◌&&◌, not, Bool, true, false, List, [], ◌∷◌, ◌++◌, length, drop, Option, Some, None, if◌then◌else◌, refl, sym, ap, subst, ◌∙◌, arith, append_assoc, append-nil}
use Rattle.std.proofs.lemmas.Bool.{and_left}
use Rattle.std.proofs.Math.Bool.{and-false, and-true}
use Rattle.std.specs.Option.{option_map}
use Rattle.std.proofs.lemmas.Bool.Decides.{nat_tests}
use Rattle.std.proofs.lemmas.List.{drop_all}
use Rattle.markdown_content.specs.Codes.{Code, stop_of, document_start}
use Rattle.markdown_engine_events.specs.Edits.{moved_number, edited_from, edited}
use Rattle.markdown_engine.specs.Operations.{link_back}
use Rattle.markdown_engine.specs.PastTree.{appended_from, last_link}
use Rattle.markdown_content.specs.Tree.{Forest, empty, leaf_then, group_then, leaf, ◌⊕◌, event, event_count, start_of}
use Rattle.markdown_event.specs.declared.event.Content.{Content}
use Rattle.markdown_event.specs.declared.event.Event.{Event}
use Rattle.markdown_event.specs.declared.event.Kind.TheVariants.{Enter, Exit}
use Rattle.markdown_event.specs.declared.event.Name.{Name}
use Rattle.markdown_event.specs.declared.event.Name.TheVariants as N
use Rattle.markdown_event.specs.declared.event.Point.{Point}
use Rattle.markdown_engine_events.specs.declared.util.edit_map.Edit.{Edit}
use Rattle.markdown_engine_events.proofs.EditLemmas.{start}
use Rattle.markdown_engine_events.proofs.EditSteps.{AreOfTwo, Fresh, OneStays, one-stays, TwoStay, two-stay, TwoGo, two-go, drop-next, drop-part}
use Rattle.markdown_engine.proofs.TreeEvents.{length-appended_from, appended_from-row}
use Rattle.markdown_model.specs.GfmEmailLiteral.{with_emails}
use Rattle.markdown_model.specs.Passes.{with_emails_apart}
use Rattle.markdown_passes.specs.MergedEvents.{is_data, opens_data}
use Rattle.markdown_passes.specs.TrimmedData.{between}
use Rattle.markdown_passes.specs.TrimmedEvents.{AreDocumentCodes, HasParts}
use Rattle.markdown_passes.proofs.TrimPassLaw.{IsStretchOf, part-of, count-row, data-name}
use Rattle.markdown_passes.specs.EmailEdits.{links_behind, links_after, may_mail}
use Rattle.markdown_passes.specs.EmailScan.{has_sign, mail_events}
use Rattle.markdown_passes.proofs.EmailEditLemmas.{begins_mail, comes, links_at, links-next, mails_at, comes_at, log_of, mails-of-two}
use Rattle.markdown_passes.proofs.UnlinkedLeaves.{plain-events, plain-last, plain-emails, unsigned-emails}

-- Emails, step by step, where they are asked for.

abbrev is_link : Name → Bool
is_link N.Link = true
is_link _ = false

abbrev mail_row : Bool → Forest → Forest
mail_row true t = with_emails_apart t
mail_row false t = t

row-nothing : (b : Bool) → mail_row b empty ≡ empty
unfolding with_emails_apart
row-nothing true = refl
row-nothing false = refl

row-data : (cs : List Code) (rest : Forest) →
    mail_row true (leaf_then N.Data None cs rest) ≡ with_emails cs ⊕ mail_row true rest
unfolding with_emails_apart
row-data cs rest = refl

row-other : (b : Bool) (n : Name) (cs : List Code) (rest : Forest) → is_data n ≡ false →
    mail_row b (leaf_then n None cs rest) ≡ leaf_then n None cs (mail_row b rest)
unfolding with_emails_apart
row-other false n cs rest e = refl
row-other true N.Data cs rest e = cc
row-other true _ cs rest e = refl

row-linked : (b : Bool) (n : Name) (c : Content) (cs : List Code) (rest : Forest) →
    mail_row b (leaf_then n (Some c) cs rest) ≡ leaf_then n (Some c) cs (mail_row b rest)
unfolding with_emails_apart
row-linked false n c cs rest = refl
row-linked true N.Data c cs rest = refl
row-linked true _ c cs rest = refl

row-group : (b : Bool) (n : Name) (p q : Point) (inside rest : Forest) →
    mail_row b (group_then n p q inside rest) ≡ group_then n p q (mail_row (b && not (is_link n)) inside) (mail_row b rest)
unfolding with_emails_apart
row-group false n p q inside rest = refl
row-group true N.Link p q inside rest = refl
row-group true _ p q inside rest = refl

-- Links that are open.

-- inside a group, and behind it
links-inside : (n : Name) (links : ℕ) → (links_behind links Enter n == 0) ≡ (links == 0) && not (is_link n)
links-inside N.Link links = plus-one links ∙ sym (and-false (links == 0))
  where
    plus-one : (k : ℕ) → (k + 1 == 0) ≡ false
    plus-one k = grind (arith, nat_tests)
links-inside _ links = sym (and-true (links == 0))

links-closed : (n : Name) (links : ℕ) → links_behind (links_behind links Enter n) Exit n ≡ links
links-closed N.Link links = omega arith
links-closed _ links = refl

-- the events of data with its literals are the same wherever they stand

emails-row : (m : ℕ) (q : Option ℕ) (cs : List Code) (t : Forest) →
    appended_from m q (with_emails cs ⊕ t) ≡ appended_from 0 None (with_emails cs) ++ appended_from (m + event_count (with_emails cs)) q t
emails-row m q cs t =
    let D : Forest = with_emails cs in
    appended_from-row m q D t
    ∙ ap (λ xs. xs ++ appended_from (m + event_count D) (last_link m q D) t) (plain-events m 0 q None D (plain-emails cs))
    ∙ ap (λ o. appended_from 0 None D ++ appended_from (m + event_count D) o t) (plain-last m q D (plain-emails cs))

events-are : (bytes : List ℕ) (p q : Point) →
    mail_events bytes p q ≡ appended_from 0 None (with_emails (between bytes p q))
unfolding mail_events
events-are bytes p q = refl

-- data without an `@` stays as it is

no-emails : (bytes : List ℕ) (p q : Point) → has_sign bytes p q ≡ false →
    with_emails (between bytes p q) ≡ leaf N.Data (between bytes p q)
unfolding has_sign
no-emails bytes p q h = unsigned-emails (between bytes p q) h

leaf-some : (name : Name) (cs : List Code) → cs ≢ [] → leaf name cs ≡ leaf_then name None cs empty
leaf-some name [] h = absurd (h refl)
leaf-some name (c ∷ cs) h = refl

-- One event.

-- an event that is no Enter of data, and two that are not such data

opens-not : (bytes : List ℕ) (links : ℕ) (xs : List Event) (e : Event) (rest : List Event) → xs ≡ e ∷ rest →
    opens_data e ≡ false → begins_mail bytes links xs ≡ false
opens-not bytes links [] e rest h o = cc
opens-not bytes links (x ∷ []) e rest h o = refl
opens-not bytes links (x ∷ y ∷ xs) e rest h o = by (links == 0) (opens_data x) (has_sign bytes x.point y.point) (ap first_opens h ∙ o)
  where
    first_opens : List Event → Bool
    first_opens [] = false
    first_opens (z ∷ zs) = opens_data z

    by : (a b c : Bool) → b ≡ false → (a && b) && c ≡ false
    by true b c k = ap (λ d. d && c) k
    by false b c k = refl

module _ (bytes : List ℕ) (es : List Event) where
  abbrev log : List Edit
  log = log_of bytes es

  abbrev two : AreOfTwo log (mails_at bytes es) (comes_at bytes es)
  two = mails-of-two bytes es

  abbrev FreshForMails : ℕ → Type 0
  FreshForMails n = Fresh log (mails_at bytes es) (comes_at bytes es) two n

  other-stays : (n : ℕ) (e : Event) (rest : List Event) → drop n es ≡ e ∷ rest → opens_data e ≡ false → mails_at bytes es n ≡ false
  other-stays n e rest h o = opens-not bytes (links_at bytes es n) (drop n es) e rest h o

  links-two : (n : ℕ) (e x : Event) (rest : List Event) → drop n es ≡ e ∷ x ∷ rest →
      links_at bytes es (n + 2) ≡ links_after (links_after (links_at bytes es n) e) x
  links-two n e x rest h =
      let same : n + 1 + 1 ≡ n + 2 = omega arith in
      ap (links_at bytes es) (sym same)
      ∙ links-next bytes (n + 1) es x rest (drop-next n es e (x ∷ rest) h)
      ∙ ap (λ l. links_after l x) (links-next bytes n es e (x ∷ rest) h)

  -- past an event that stays
  abbrev OneStaysForMails : ℕ → Event → List Event → Type 0
  OneStaysForMails n e rest = OneStays log (mails_at bytes es) (comes_at bytes es) two es n e rest

  step : (n : ℕ) (e : Event) (rest : List Event) → drop n es ≡ e ∷ rest → mails_at bytes es n ≡ false → FreshForMails n →
      OneStaysForMails n e rest
  step n e rest h o f = one-stays log (mails_at bytes es) (comes_at bytes es) two es n e rest h o f

  -- past two events that stay
  abbrev TwoStayForMails : ℕ → Event → Event → List Event → Type 0
  TwoStayForMails n e x rest = TwoStay log (mails_at bytes es) (comes_at bytes es) two es n e x rest

  pair : (n : ℕ) (e x : Event) (rest : List Event) → drop n es ≡ e ∷ x ∷ rest → mails_at bytes es n ≡ false →
      opens_data x ≡ false → FreshForMails n → TwoStayForMails n e x rest
  pair n e x rest h o k f =
      two-stay log (mails_at bytes es) (comes_at bytes es) two es n e x rest h o (other-stays (n + 1) x rest (drop-next n es e (x ∷ rest) h) k) f

  -- past data that is edited
  abbrev TwoGoForMails : ℕ → Event → Event → List Event → Type 0
  TwoGoForMails n e x rest = TwoGo log (mails_at bytes es) (comes_at bytes es) two es n e x rest

  data-cut : (n : ℕ) (e x : Event) (rest : List Event) → drop n es ≡ e ∷ x ∷ rest →
      may_mail bytes (links_at bytes es n) e x ≡ true → opens_data x ≡ false → TwoGoForMails n e x rest
  data-cut n e x rest h o k =
      two-go log (mails_at bytes es) (comes_at bytes es) two es n e x rest h (ap (begins_mail bytes (links_at bytes es n)) h ∙ o) (other-stays (n + 1) x rest (drop-next n es e (x ∷ rest) h) k)

  -- Rows.

  -- a row of the events: those from n on, followed by others; its first event is to have number m, and so many links are open before it
  record MailRowHere (n m links : ℕ) (previous : Option ℕ) (row : Forest) (tail : List Event) : Type 0 where
    there : drop n es ≡ appended_from n previous row ++ tail
    open_links : links_at bytes es n ≡ links
    placed : start log n ≡ m
    fresh : FreshForMails n
    has_parts : HasParts bytes row

  -- what the edits leave of it are the events of the row with its literals
  record Mails (n m links : ℕ) (previous : Option ℕ) (row : Forest) (tail : List Event) : Type 0 where
    events : edited_from log n (appended_from n previous row ++ tail) ≡ appended_from m (option_map (moved_number log) previous) (mail_row (links == 0) row) ++ edited_from log (n + event_count row) tail
    placed : start log (n + event_count row) ≡ m + event_count (mail_row (links == 0) row)
    open_links : links_at bytes es (n + event_count row) ≡ links
    fresh : FreshForMails (n + event_count row)

  abbrev MailRowLaw : Forest → Type 0
  MailRowLaw row = (n m links : ℕ) (previous : Option ℕ) (tail : List Event) → MailRowHere n m links previous row tail → Mails n m links previous row tail

  law-empty : MailRowLaw empty
  law-empty n m links previous tail h =
      let same : n ≡ n + 0 = omega arith in
      let nothing = row-nothing (links == 0) in
      record {
        events = ap (λ i. edited_from log i tail) same ∙ ap (λ t. appended_from m (option_map (moved_number log) previous) t ++ edited_from log (n + 0) tail) (sym nothing);
        placed = ap (start log) (sym same) ∙ h.placed ∙ omega arith ∙ ap (λ t. m + event_count t) (sym nothing);
        open_links = ap (links_at bytes es) (sym same) ∙ h.open_links;
        fresh = subst (λ (i : ℕ). FreshForMails i) same h.fresh;
      }

  -- a leaf that stays
  leaf-stays : (name : Name) (cs : List Code) (rest : Forest) (n m links : ℕ) (previous : Option ℕ) (tail : List Event) →
      MailRowHere n m links previous (leaf_then name None cs rest) tail →
      may_mail bytes links (event Enter name (start_of cs)) (event Exit name (stop_of document_start cs)) ≡ false →
      mail_row (links == 0) (leaf_then name None cs rest) ≡ leaf_then name None cs (mail_row (links == 0) rest) →
      MailRowLaw rest → Mails n m links previous (leaf_then name None cs rest) tail
  leaf-stays name cs rest n m links previous tail h o is law =
      let e : Event = event Enter name (start_of cs) in
      let x : Event = event Exit name (stop_of document_start cs) in
      let q : Option ℕ = option_map (moved_number log) previous in
      let R : Forest = mail_row (links == 0) rest in
      let p : TwoStayForMails n e x (appended_from (n + 2) previous rest ++ tail) = pair n e x (appended_from (n + 2) previous rest ++ tail) h.there (ap (begins_mail bytes (links_at bytes es n)) h.there ∙ ap (λ l. may_mail bytes l e x) h.open_links ∙ o) refl h.fresh in
      let kept : links_at bytes es (n + 2) ≡ links = links-two n e x (appended_from (n + 2) previous rest ++ tail) h.there ∙ links-closed name (links_at bytes es n) ∙ h.open_links in
      let r : Mails (n + 2) (m + 2) links previous rest tail =
      law (n + 2) (m + 2) links previous tail (record { there = p.there; open_links = kept; placed = omega (arith, p.placed, h.placed); fresh = p.fresh; has_parts = h.has_parts.1 }) in
      let same : n + 2 + event_count rest ≡ n + (2 + event_count rest) = omega arith in
      record {
        events = p.events
            ∙ ap (λ xs. e ∷ x ∷ xs) (r.events ∙ ap (λ i. appended_from (m + 2) q R ++ edited_from log i tail) same)
            ∙ ap (λ t. appended_from m q t ++ edited_from log (n + (2 + event_count rest)) tail) (sym is);
        placed = ap (start log) (sym same) ∙ r.placed ∙ omega arith ∙ ap (λ t. m + event_count t) (sym is);
        open_links = ap (links_at bytes es) (sym same) ∙ r.open_links;
        fresh = subst (λ (i : ℕ). FreshForMails i) same r.fresh;
      }

  leaf-linked : (name : Name) (c : Content) (cs : List Code) (rest : Forest) → MailRowLaw rest →
      MailRowLaw (leaf_then name (Some c) cs rest)
  leaf-linked name c cs rest law n m links previous tail h =
      let e : Event = record { kind = Enter; name = name; point = start_of cs; link = Some (link_back previous c) } in
      let x : Event = event Exit name (stop_of document_start cs) in
      let q : Option ℕ = option_map (moved_number log) previous in
      let e2 : Event = record { kind = Enter; name = name; point = start_of cs; link = Some (link_back q c) } in
      let R : Forest = mail_row (links == 0) rest in
      let p : TwoStayForMails n e x (appended_from (n + 2) (Some n) rest ++ tail) = pair n e x (appended_from (n + 2) (Some n) rest ++ tail) h.there (other-stays n e (x ∷ appended_from (n + 2) (Some n) rest ++ tail) h.there (and-false (is_data name))) refl h.fresh in
      let kept : links_at bytes es (n + 2) ≡ links = links-two n e x (appended_from (n + 2) (Some n) rest ++ tail) h.there ∙ links-closed name (links_at bytes es n) ∙ h.open_links in
      let r : Mails (n + 2) (m + 2) links (Some n) rest tail =
      law (n + 2) (m + 2) links (Some n) tail (record { there = p.there; open_links = kept; placed = omega (arith, p.placed, h.placed); fresh = p.fresh; has_parts = h.has_parts.1 }) in
      let same : n + 2 + event_count rest ≡ n + (2 + event_count rest) = omega arith in
      let is = row-linked (links == 0) name c cs rest in
      record {
        events = p.events
            ∙ ap (λ xs. e2 ∷ x ∷ xs) (r.events ∙ ap (λ i. appended_from (m + 2) (Some i) R ++ edited_from log (n + 2 + event_count rest) tail) (p.number ∙ h.placed) ∙ ap (λ i. appended_from (m + 2) (Some m) R ++ edited_from log i tail) same)
            ∙ ap (λ t. appended_from m q t ++ edited_from log (n + (2 + event_count rest)) tail) (sym is);
        placed = ap (start log) (sym same) ∙ r.placed ∙ omega arith ∙ ap (λ t. m + event_count t) (sym is);
        open_links = ap (links_at bytes es) (sym same) ∙ r.open_links;
        fresh = subst (λ (i : ℕ). FreshForMails i) same r.fresh;
      }

  -- data outside links
  leaf-mailed : (cs : List Code) (rest : Forest) (n m links : ℕ) (previous : Option ℕ) (tail : List Event) →
      MailRowHere n m links previous (leaf_then N.Data None cs rest) tail → (links == 0) ≡ true →
      has_sign bytes (start_of cs) (stop_of document_start cs) ≡ true → MailRowLaw rest →
      Mails n m links previous (leaf_then N.Data None cs rest) tail
  leaf-mailed cs rest n m links previous tail h outside sign law =
      let e : Event = event Enter N.Data (start_of cs) in
      let x : Event = event Exit N.Data (stop_of document_start cs) in
      let q : Option ℕ = option_map (moved_number log) previous in
      let more : List Event = appended_from (n + 2) previous rest ++ tail in
      let part : IsStretchOf bytes cs = part-of bytes cs (h.has_parts.0 refl refl) in
      let D : Forest = with_emails cs in
      let R : Forest = mail_row (links == 0) rest in
      let T : List Event = comes_at bytes es n in
      let may : may_mail bytes (links_at bytes es n) e x ≡ true = ap (λ l. may_mail bytes l e x) h.open_links ∙ ap (λ b. (b && true) && has_sign bytes e.point x.point) outside ∙ sign in
      let k : TwoGoForMails n e x more = data-cut n e x more h.there may refl in
      let T-is : T ≡ appended_from 0 None D = ap (comes bytes) h.there ∙ events-are bytes e.point x.point ∙ ap (λ ds. appended_from 0 None (with_emails ds)) part.codes in
      let size : length T ≡ event_count D = ap length T-is ∙ length-appended_from 0 None D in
      let r : Mails (n + 2) (m + event_count D) links previous rest tail =
      law (n + 2) (m + event_count D) links previous tail (record { there = k.there; open_links = links-two n e x more h.there ∙ h.open_links; placed = omega (arith, k.placed, h.placed, size); fresh = k.fresh; has_parts = h.has_parts.1 }) in
      let same : n + 2 + event_count rest ≡ n + (2 + event_count rest) = omega arith in
      let is : mail_row (links == 0) (leaf_then N.Data None cs rest) ≡ D ⊕ R = ap (λ b. mail_row b (leaf_then N.Data None cs rest)) outside ∙ row-data cs rest ∙ ap (λ b. D ⊕ mail_row b rest) (sym outside) in
      let Z : List Event = edited_from log (n + (2 + event_count rest)) tail in
      let A : List Event = appended_from (m + event_count D) q R in
      let count : event_count (D ⊕ R) ≡ event_count D + event_count R = count-row D R in
      record {
        events = k.events
            ∙ ap (λ xs. T ++ xs) (r.events ∙ ap (λ i. A ++ edited_from log i tail) same)
            ∙ sym (append_assoc T A Z)
            ∙ ap (λ xs. (xs ++ A) ++ Z) T-is
            ∙ ap (λ xs. xs ++ Z) (sym (emails-row m q cs R))
            ∙ ap (λ t. appended_from m q t ++ Z) (sym is);
        placed = ap (start log) (sym same) ∙ r.placed ∙ omega (arith, count) ∙ ap (λ t. m + event_count t) (sym is);
        open_links = ap (links_at bytes es) (sym same) ∙ r.open_links;
        fresh = subst (λ (i : ℕ). FreshForMails i) same r.fresh;
      }

  leaf-data : (cs : List Code) (rest : Forest) → MailRowLaw rest → MailRowLaw (leaf_then N.Data None cs rest)
  leaf-data cs rest law n m links previous tail h = by (links == 0) (has_sign bytes (start_of cs) (stop_of document_start cs)) refl refl
    where
      by : (b c : Bool) → (links == 0) ≡ b → has_sign bytes (start_of cs) (stop_of document_start cs) ≡ c →
          Mails n m links previous (leaf_then N.Data None cs rest) tail
      by true true e s = leaf-mailed cs rest n m links previous tail h e s law
      by true false e s =
          let part : AreDocumentCodes bytes cs = h.has_parts.0 refl refl in
          let stays : with_emails cs ≡ leaf_then N.Data None cs empty = ap with_emails (sym (part-of bytes cs part).codes) ∙ no-emails bytes (start_of cs) (stop_of document_start cs) s ∙ ap (leaf N.Data) (part-of bytes cs part).codes ∙ leaf-some N.Data cs part.some in
          leaf-stays N.Data cs rest n m links previous tail h (ap (λ b. (b && true) && has_sign bytes (start_of cs) (stop_of document_start cs)) e ∙ s)
          (ap (λ b. mail_row b (leaf_then N.Data None cs rest)) e ∙ row-data cs rest ∙ ap (λ t. t ⊕ mail_row true rest) stays ∙ ap (λ b. leaf_then N.Data None cs (mail_row b rest)) (sym e)) law
      by false c e s =
          leaf-stays N.Data cs rest n m links previous tail h (ap (λ b. (b && true) && has_sign bytes (start_of cs) (stop_of document_start cs)) e)
          (ap (λ b. mail_row b (leaf_then N.Data None cs rest)) e ∙ ap (λ b. leaf_then N.Data None cs (mail_row b rest)) (sym e)) law

  leaf-other : (name : Name) (cs : List Code) (rest : Forest) → is_data name ≡ false → MailRowLaw rest →
      MailRowLaw (leaf_then name None cs rest)
  leaf-other name cs rest e law n m links previous tail h =
      leaf-stays name cs rest n m links previous tail h (opens-not bytes links (event Enter name (start_of cs) ∷ event Exit name (stop_of document_start cs) ∷ []) (event Enter name (start_of cs)) (event Exit name (stop_of document_start cs) ∷ []) refl (and_left (is_data name) true e)) (row-other (links == 0) name cs rest e) law

  leaf-plain : (name : Name) (cs : List Code) (rest : Forest) (b : Bool) → is_data name ≡ b → MailRowLaw rest →
      MailRowLaw (leaf_then name None cs rest)
  leaf-plain name cs rest true e law =
      subst (λ (x : Name). MailRowLaw (leaf_then x None cs rest)) (sym (data-name name e)) (leaf-data cs rest law)
  leaf-plain name cs rest false e law = leaf-other name cs rest e law

  law-group : (name : Name) (a b : Point) (inside rest : Forest) → MailRowLaw inside → MailRowLaw rest →
      MailRowLaw (group_then name a b inside rest)
  law-group name a b inside rest law_inside law_rest n m links previous tail h =
      let ci : ℕ = event_count inside in
      let cr : ℕ = event_count rest in
      let deeper : ℕ = links_behind links Enter name in
      let I : Forest = mail_row (deeper == 0) inside in
      let R : Forest = mail_row (links == 0) rest in
      let mi : ℕ = event_count I in
      let q : Option ℕ = option_map (moved_number log) previous in
      let e : Event = event Enter name a in
      let x : Event = event Exit name b in
      let inner : List Event = appended_from (n + 1) None inside in
      let more : List Event = appended_from (n + 2 + ci) previous rest ++ tail in
      let apart : (inner ++ x ∷ appended_from (n + 2 + ci) previous rest) ++ tail ≡ inner ++ x ∷ more = append_assoc inner (x ∷ appended_from (n + 2 + ci) previous rest) tail in
      let there1 : drop n es ≡ e ∷ (inner ++ x ∷ more) = h.there ∙ ap (λ xs. e ∷ xs) apart in
      let s1 : OneStaysForMails n e (inner ++ x ∷ more) = step n e (inner ++ x ∷ more) there1 (other-stays n e (inner ++ x ∷ more) there1 (and_left (is_data name) true h.has_parts.0.0)) h.fresh in
      let r1 : Mails (n + 1) (m + 1) deeper None inside (x ∷ more) =
      law_inside (n + 1) (m + 1) deeper None (x ∷ more) (record { there = s1.there; open_links = links-next bytes n es e (inner ++ x ∷ more) there1 ∙ ap (λ l. links_behind l Enter name) h.open_links; placed = omega (arith, s1.placed, h.placed); fresh = s1.fresh; has_parts = h.has_parts.1.0 }) in
      let k : ℕ = n + 1 + ci in
      let there2 : drop k es ≡ x ∷ more = drop-part (n + 1) ci es inner (x ∷ more) s1.there (length-appended_from (n + 1) None inside) in
      let s2 : OneStaysForMails k x more = step k x more there2 (other-stays k x more there2 refl) r1.fresh in
      let next : k + 1 ≡ n + 2 + ci = omega arith in
      let next2 : m + 1 + mi + 1 ≡ m + 2 + mi = omega arith in
      let r2 : Mails (n + 2 + ci) (m + 2 + mi) links previous rest tail =
      law_rest (n + 2 + ci) (m + 2 + mi) links previous tail (record {
        there = ap (λ i. drop i es) (sym next) ∙ s2.there;
        open_links =
            ap (links_at bytes es) (sym next) ∙ links-next bytes k es x more there2 ∙ ap (λ l. links_behind l Exit name) r1.open_links ∙ links-closed name links;
        placed = ap (start log) (sym next) ∙ s2.placed ∙ ap (λ i. i + 1) r1.placed ∙ next2;
        fresh = subst (λ (i : ℕ). FreshForMails i) next s2.fresh;
        has_parts = h.has_parts.1.1;
      }) in
      let same : n + 2 + ci + cr ≡ n + (2 + ci + cr) = omega arith in
      let Z : List Event = edited_from log (n + (2 + ci + cr)) tail in
      let B : List Event = appended_from (m + 1) None I in
      let A : List Event = appended_from (m + 2 + mi) q R in
      let is : mail_row (links == 0) (group_then name a b inside rest) ≡ group_then name a b I R = row-group (links == 0) name a b inside rest ∙ ap (λ c. group_then name a b (mail_row c inside) R) (sym (links-inside name links)) in
      let from_x : edited_from log k (x ∷ more) ≡ x ∷ A ++ Z =
      s2.events ∙ ap (λ xs. x ∷ xs) (ap (λ i. edited_from log i more) next ∙ r2.events ∙ ap (λ i. A ++ edited_from log i tail) same) in
      record {
        events = ap (λ xs. edited_from log n (e ∷ xs)) apart
            ∙ s1.events
            ∙ ap (λ xs. e ∷ xs) (r1.events ∙ ap (λ xs. B ++ xs) from_x ∙ sym (append_assoc B (x ∷ A) Z))
            ∙ ap (λ t. appended_from m q t ++ Z) (sym is);
        placed = ap (start log) (sym same) ∙ r2.placed ∙ omega arith ∙ ap (λ t. m + event_count t) (sym is);
        open_links = ap (links_at bytes es) (sym same) ∙ r2.open_links;
        fresh = subst (λ (i : ℕ). FreshForMails i) same r2.fresh;
      }

  law : (row : Forest) → MailRowLaw row
  law empty = law-empty
  law (leaf_then name None cs rest) = leaf-plain name cs rest (is_data name) refl (law rest)
  law (leaf_then name (Some c) cs rest) = leaf-linked name c cs rest (law rest)
  law (group_then name a b inside rest) = law-group name a b inside rest (law inside) (law rest)

-- the pass over the events of a tree leaves those of the tree with its literals
pub mailed-tree : (bytes : List ℕ) (t : Forest) → HasParts bytes t → (es : List Event) → es ≡ appended_from 0 None t →
    edited (log_of bytes es) es ≡ appended_from 0 None (with_emails_apart t)
mailed-tree bytes t h es e =
    let all : es ≡ appended_from 0 None t ++ [] = e ∙ sym (append-nil (appended_from 0 None t)) in
    let r : Mails bytes es 0 0 0 None t [] = law bytes es t 0 0 0 None [] (record { there = all; open_links = refl; placed = refl; fresh = λ p k. absurd (omega (arith, k)); has_parts = h }) in
    let end : ℕ = 0 + event_count t in
    let size : length es ≡ event_count t = ap length e ∙ length-appended_from 0 None t in
    let left : drop end es ≡ [] = drop_all end es (omega (arith, size)) in
    ap (edited_from (log_of bytes es) 0) all
    ∙ r.events
    ∙ ap (λ xs. appended_from 0 None (with_emails_apart t) ++ xs) ((mails-of-two bytes es).added end ∙ ap (λ xs. if begins_mail bytes (links_at bytes es end) xs then comes bytes xs else []) left)
    ∙ append-nil (appended_from 0 None (with_emails_apart t))
