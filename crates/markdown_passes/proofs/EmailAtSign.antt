-- the literal at an `@`, and the events of a data with its literals
use Rattle.std.proofs.Common.{◌≡◌, ℕ, zero, suc, ◌<◌, ◌≤◌, ◌&&◌, not, Bool, true, false, if◌then◌else◌, Option, Some, None, List, [], ◌∷◌, ◌++◌, length, reverse, refl, sym, ap, subst, ◌∙◌, append_assoc, arith}
use Rattle.markdown_passes.proofs.TrimPassLaw.{stop-over}
use Rattle.std.specs.Option.{option_map}
use Rattle.std.proofs.lemmas.List.{reverse-append, reverse-reverse, length-append}
use Rattle.markdown_content.specs.Codes.{Code, stop_of}
use Rattle.markdown_engine.specs.PastTree.{appended_from}
use Rattle.markdown_content.specs.Tree.{Forest, leaf, ◌⊕◌}
use Rattle.markdown_content.specs.DocumentWalk.{IsPoint, next_point, value_from}
use Rattle.markdown_event.specs.declared.event.Event.{Event}
use Rattle.markdown_event.specs.declared.event.Name.{Name}
use Rattle.markdown_event.specs.declared.event.Name.TheVariants as N
use Rattle.markdown_event.specs.declared.event.Point.{Point}
use Rattle.markdown_content.proofs.DocumentCodes.{code_here, stop_at}
use Rattle.markdown_model.specs.CodeTests.{is_value, is_empty, next_is}
use Rattle.markdown_model.specs.GfmEmailLiteral.{is_local, email_protocol, is_xmpp, email_domain, is_email_domain, email_at, email_leaves, with_emails}
use Rattle.markdown_model.specs.Grammar.{span}
use Rattle.markdown_model.proofs.LeafCodes.{span-append}
use Rattle.markdown_model.proofs.LiteralCodes.{domain_of_split, protocol_split}
use Rattle.markdown_passes.specs.TrimmedData.{between, IsStretch, leaf_events}
use Rattle.markdown_passes.proofs.TrimWalks.{IsBegun, IsEnded, shorter, stretch-next}
use Rattle.markdown_passes.proofs.TrimmedLeaves.{IsSplitInTwo, split, leaf-is, stretch-self}
use Rattle.markdown_passes.specs.EmailScan.{scan_of, scan_at, domain_end, is_sign, literal_to, literal_here, literal_events, mail_events}
use Rattle.markdown_passes.specs.declared.literal.Scan.{Scan}
use Rattle.markdown_passes.specs.declared.literal.Literal.{Literal}
use Rattle.markdown_passes.proofs.UnlinkedLeaves.{AreUnlinkedLeaves, plain-leaf, plain-row, plain-join, plain-leaves}
use Rattle.markdown_passes.proofs.StretchesInOrder.{none-self, join, IsLonger, longer}

-- At a code.

module _ (bytes : List ℕ) (p q : Point) (scan : Scan) (v : ℕ) (t : Bool) (b : IsBegun bytes p q) (value : value_from bytes p ≡ Some v) (test : t ≡ is_sign scan v) where
  same : v ≡ (code_here bytes p).value
  same = let both : Some v ≡ Some (code_here bytes p).value = sym value ∙ b.value in cc

  here : literal_here scan (between bytes p q) ≡ (if t then option_map (literal_to scan) (domain_end (is_xmpp scan.name) (stop_at bytes p) (between bytes (stop_at bytes p) q)) else None)
  unfolding literal_here
  here =
      ap (literal_here scan) b.codes
      ∙ ap (λ x. if x then option_map (literal_to scan) (domain_end (is_xmpp scan.name) (stop_at bytes p) (between bytes (stop_at bytes p) q)) else None) (ap (is_sign scan) (sym same) ∙ sym test)

  pub no-literal : t ≡ false → None ≡ literal_here scan (between bytes p q)
  no-literal h =
      sym (here ∙ ap (λ x. if x then option_map (literal_to scan) (domain_end (is_xmpp scan.name) (stop_at bytes p) (between bytes (stop_at bytes p) q)) else None) h)

  pub literal-by : (r : Point) (x : Bool) (o : Option Point) → t ≡ true → r ≡ next_point bytes p →
      x ≡ is_xmpp scan.name → o ≡ domain_end x r (between bytes r q) →
      option_map (literal_to scan) o ≡ literal_here scan (between bytes p q)
  literal-by r x o h e f g =
      ap (option_map (literal_to scan)) (g ∙ ap (λ y. domain_end y r (between bytes r q)) f ∙ ap (λ (y : Point). domain_end (is_xmpp scan.name) y (between bytes y q)) (e ∙ b.next))
      ∙ sym (here ∙ ap (λ y. if y then option_map (literal_to scan) (domain_end (is_xmpp scan.name) (stop_at bytes p) (between bytes (stop_at bytes p) q)) else None) h)

-- As the codes say it.

-- what a literal of codes and a literal of places have in common, where the data begins at p and ends at e
record IsSameLiteral (bytes : List ℕ) (p e : Point) (r : List Code × Forest × List Code) (l : Literal) : Type 0 where
  before : IsStretch bytes p l.start
  front : between bytes p l.start ≡ r.0
  events : appended_from 0 None r.1 ≡ leaf_events l.name l.start l.end
  behind : IsStretch bytes l.end e
  back : between bytes l.end e ≡ r.2

-- both find none, or the same one, with no more codes behind it than these
abbrev AreSame : List ℕ → Point → Point → List Code → Option (List Code × Forest × List Code) → Option Literal → Type 0
AreSame bytes p e cs None None = Unit {0}
AreSame bytes p e cs None (Some l) = ⊥
AreSame bytes p e cs (Some r) None = ⊥
AreSame bytes p e cs (Some r) (Some l) = IsSameLiteral bytes p e r l × AreUnlinkedLeaves r.1 × (length r.2 ≤ length cs)

-- a row of codes in three
record IsThree (bytes : List ℕ) (p e : Point) (a b c : List Code) : Type 0 where
  one : IsSplitInTwo bytes p e a (b ++ c)
  two : IsSplitInTwo bytes (stop_of p a) e b c

three : (bytes : List ℕ) (p e : Point) (a b c : List Code) → IsStretch bytes p e → between bytes p e ≡ a ++ (b ++ c) →
    IsThree bytes p e a b c
three bytes p e a b c s h =
    let one : IsSplitInTwo bytes p e a (b ++ c) = split bytes p e a (b ++ c) s h in
    record { one = one; two = split bytes (stop_of p a) e b c one.after one.back_codes }

literal-same : (bytes : List ℕ) (p e : Point) (name : Name) (a front : List Code) (c : Code) (domain rest : List Code) → IsStretch bytes p e → between bytes p e ≡ a ++ ((front ++ c ∷ domain) ++ rest)
    → IsSameLiteral bytes p e (a, leaf name (front ++ c ∷ domain), rest) (record { name = name; start = stop_of p a; end = stop_of c.stop domain })
literal-same bytes p e name a front c domain rest s h =
    let b : List Code = front ++ c ∷ domain in
    let t : IsThree bytes p e a b rest = three bytes p e a b rest s h in
    let end : stop_of (stop_of p a) b ≡ stop_of c.stop domain = stop-over (stop_of p a) front c domain in
    record {
      before = t.one.before;
      front = t.one.front_codes;
      events = leaf-is bytes (stop_of p a) (stop_of (stop_of p a) b) name b 0 None t.two.before t.two.front_codes ∙ ap (leaf_events name (stop_of p a)) end;
      behind = subst (λ (x : Point). IsStretch bytes x e) end t.two.after;
      back = ap (λ (x : Point). between bytes x e) (sym end) ∙ t.two.back_codes;
    }

-- an `@` with these codes before it and after it
same-at : (bytes : List ℕ) (p q e : Point) (before : List Code) (c : Code) (cs : List Code) → IsStretch bytes p e →
    between bytes p e ≡ reverse before ++ c ∷ cs →
    AreSame bytes p e cs (email_at before c cs) (literal_here (scan_of p q before) (c ∷ cs))
unfolding email_at literal_here scan_of domain_end
same-at bytes p q e before c cs s h = by (is_value 64 c && (not (is_empty local.0) && not (next_is (is_value 47) local.1))) (is_email_domain domain.0)
  where
    local : List Code × List Code
    local = span is_local before

    protocol : Name × List Code × List Code
    protocol = email_protocol local.1

    domain : List Code × List Code
    domain = email_domain (is_xmpp protocol.0) cs

    whole : between bytes p e ≡ reverse protocol.2 ++ ((reverse (local.0 ++ protocol.1) ++ c ∷ domain.0) ++ domain.1)
    whole =
        h
        ∙ ap (λ xs. reverse xs ++ c ∷ cs) (sym (append_assoc local.0 protocol.1 protocol.2 ∙ ap (λ x. local.0 ++ x) (protocol_split local.1) ∙ span-append is_local before))
        ∙ ap (λ xs. xs ++ c ∷ cs) (reverse-append (local.0 ++ protocol.1) protocol.2)
        ∙ ap (λ xs. (reverse protocol.2 ++ reverse (local.0 ++ protocol.1)) ++ c ∷ xs) (sym (domain_of_split (is_xmpp protocol.0) cs))
        ∙ append_assoc (reverse protocol.2) (reverse (local.0 ++ protocol.1)) (c ∷ (domain.0 ++ domain.1))
        ∙ ap (λ xs. reverse protocol.2 ++ xs) (sym (append_assoc (reverse (local.0 ++ protocol.1)) (c ∷ domain.0) domain.1))

    fewer : length domain.1 ≤ length cs
    fewer = let parts = ap length (domain_of_split (is_xmpp protocol.0) cs) in let size = length-append domain.0 domain.1 in omega (arith, parts, size)

    by : (a d : Bool) → AreSame bytes p e cs
        (elim (a && d) [ true ↦ Some (reverse protocol.2, leaf protocol.0 (reverse (local.0 ++ protocol.1) ++ c ∷ domain.0), domain.1) | false ↦ None ])
        (if a then option_map (literal_to (scan_of p q before)) (if d then Some (stop_of c.stop domain.0) else None) else None)
    by true true =
        (literal-same bytes p e protocol.0 (reverse protocol.2) (reverse (local.0 ++ protocol.1)) c domain.0 domain.1 s whole, plain-leaf protocol.0 (reverse (local.0 ++ protocol.1) ++ c ∷ domain.0), fewer)
    by true false = tt
    by false d = tt

-- The events that are left.

-- those of data that begins at p, is read to q and ends at e
abbrev pub rest_events : List ℕ → ℕ → Point → Point → Point → List Event
rest_events bytes n p q e = appended_from 0 None (email_leaves n (reverse (between bytes p q)) (between bytes q e))

-- the events so far and those that are left are these
abbrev pub AreLeftEvents : List ℕ → Point → Point → Point → List Event → List Event → Type 0
AreLeftEvents bytes p q e events all =
    (n : ℕ) × (length (between bytes q e) ≤ n) × (events ++ rest_events bytes n p q e ≡ all)

abbrev chosen : ℕ → List Code → Code → List Code → Option (List Code × Forest × List Code) → Forest
chosen n before c cs o =
    elim o as (λ _. Forest) [ None ↦ email_leaves n (c ∷ before) cs | Some r ↦ leaf N.Data r.0 ⊕ r.1 ⊕ email_leaves n [] r.2 ]

leaves-more : (n : ℕ) (before : List Code) (c : Code) (cs : List Code) →
    email_leaves (suc n) before (c ∷ cs) ≡ chosen n before c cs (email_at before c cs)
unfolding email_leaves
leaves-more n before c cs = refl

leaves-none : (n : ℕ) (before : List Code) → email_leaves n before [] ≡ leaf N.Data (reverse before)
unfolding email_leaves
leaves-none n before = refl

module _ (bytes : List ℕ) (p q e : Point) (scan : Scan) (front : IsStretch bytes p q) (left : IsStretch bytes q e) (read : scan ≡ scan_at bytes p q) (b : IsBegun bytes q e) where
  abbrev before : List Code
  before = reverse (between bytes p q)

  abbrev after : List Code
  after = between bytes (stop_at bytes q) e

  whole : between bytes p e ≡ reverse (reverse (between bytes p q)) ++ code_here bytes q ∷ between bytes (stop_at bytes q) e
  whole = (join bytes p q e front left).codes ∙ ap (λ xs. xs ++ between bytes q e) (sym (reverse-reverse (between bytes p q))) ∙ ap (λ xs. reverse (reverse (between bytes p q)) ++ xs) b.codes

  alike : AreSame bytes p e after (email_at before (code_here bytes q) after) (literal_here scan (between bytes q e))
  unfolding scan_at
  alike =
      subst (λ (x : Scan). AreSame bytes p e after (email_at before (code_here bytes q) after) (literal_here x (between bytes q e))) (sym read)
      (subst (λ (xs : List Code). AreSame bytes p e after (email_at before (code_here bytes q) after) (literal_here (scan_of p q before) xs)) (sym b.codes)
      (same-at bytes p q e before (code_here bytes q) after (join bytes p q e front left).whole whole))

  one-less : (n : ℕ) → length (between bytes q e) ≤ n → (m : ℕ) × (n ≡ suc m) × (length after ≤ m)
  one-less zero l = absurd (let size = ap length b.codes in omega (arith, l, size))
  one-less (suc m) l = (m, refl, let size = ap length b.codes in omega (arith, l, size))

  read-on : (m : ℕ) →
      rest_events bytes (suc m) p q e ≡ appended_from 0 None (chosen m before (code_here bytes q) after (email_at before (code_here bytes q) after))
  read-on m = ap (λ xs. appended_from 0 None (email_leaves (suc m) before xs)) b.codes ∙ ap (appended_from 0 None) (leaves-more m before (code_here bytes q) after)

  nothing-found : (o : Option (List Code × Forest × List Code)) (l : Option Literal) → l ≡ None →
      AreSame bytes p e after o l → (m : ℕ) →
      chosen m before (code_here bytes q) after o ≡ email_leaves m (code_here bytes q ∷ before) after
  nothing-found None l h s m = refl
  nothing-found (Some r) None h s m = absurd s
  nothing-found (Some r) (Some l) h s m = cc

  -- past a code that is no `@` of a literal
  left-passed : (events all : List Event) (r : Point) → literal_here scan (between bytes q e) ≡ None →
      r ≡ next_point bytes q → AreLeftEvents bytes p q e events all → AreLeftEvents bytes p r e events all
  left-passed events all r h g (n, l, w) =
      let more = one-less n l in
      let m : ℕ = more.0 in
      let long : IsLonger bytes p q = longer bytes p q front b.in_bytes in
      let there : r ≡ stop_at bytes q = g ∙ b.next in
      let same : rest_events bytes n p q e ≡ rest_events bytes m p r e =
      ap (λ k. rest_events bytes k p q e) more.1
      ∙ read-on m
      ∙ ap (appended_from 0 None) (nothing-found (email_at before (code_here bytes q) after) (literal_here scan (between bytes q e)) h alike m)
      ∙ ap (λ xs. appended_from 0 None (email_leaves m xs after)) (sym long.turned)
      ∙ ap (λ (x : Point). rest_events bytes m p x e) (sym there) in
      (m, subst (λ (x : Point). length (between bytes x e) ≤ m) (sym there) more.2, ap (λ xs. events ++ xs) (sym same) ∙ w)

  found-as : (o : Option (List Code × Forest × List Code)) (k : Option Literal) (l : Literal) → k ≡ Some l →
      AreSame bytes p e after o k →
      (r : List Code × Forest × List Code) × (o ≡ Some r) × IsSameLiteral bytes p e r l × AreUnlinkedLeaves r.1 × (length r.2 ≤ length after)
  found-as None None l h s = cc
  found-as None (Some k) l h s = absurd s
  found-as (Some r) None l h s = absurd s
  found-as (Some r) (Some k) l h s = let same : k ≡ l = some-injective k l h in (r, refl, subst (IsSameLiteral bytes p e r) same s.0, s.1, s.2)
    where
      some-injective : (x y : Literal) → Some x ≡ Some y → x ≡ y
      some-injective x y g = cc

  -- past a literal
  record IsPastLiteral (events new all : List Event) (l : Literal) : Type 0 where
    stretch : IsStretch bytes l.end e
    left_over : AreLeftEvents bytes l.end l.end e new all
    fewer : length (between bytes l.end e) < length (between bytes q e)

  left-found : (events new all : List Event) (l : Literal) → literal_here scan (between bytes q e) ≡ Some l →
      new ≡ events ++ literal_events p l → AreLeftEvents bytes p q e events all → IsPastLiteral events new all l
  unfolding literal_events
  left-found events new all l h added (n, k, w) =
      let more = one-less n k in
      let m : ℕ = more.0 in
      let f = found-as (email_at before (code_here bytes q) after) (literal_here scan (between bytes q e)) l h alike in
      let r : List Code × Forest × List Code = f.0 in
      let s : IsSameLiteral bytes p e r l = f.2 in
      let rest : Forest = email_leaves m [] r.2 in
      let plain : AreUnlinkedLeaves rest = plain-leaves m [] r.2 in
      let nothing : between bytes l.end l.end ≡ [] = none-self bytes l.end s.behind.from_place in
      let found : List Event = leaf_events N.Data p l.start ++ leaf_events l.name l.start l.end in
      let same : rest_events bytes n p q e ≡ found ++ rest_events bytes m l.end l.end e =
      ap (λ i. rest_events bytes i p q e) more.1
      ∙ read-on m
      ∙ ap (λ o. appended_from 0 None (chosen m before (code_here bytes q) after o)) f.1
      ∙ plain-join (leaf N.Data r.0) (r.1 ⊕ rest) (plain-row r.1 rest f.3 plain)
      ∙ ap (λ xs. xs ++ appended_from 0 None (r.1 ⊕ rest)) (leaf-is bytes p l.start N.Data r.0 0 None s.before s.front)
      ∙ ap (λ xs. leaf_events N.Data p l.start ++ xs) (plain-join r.1 rest plain ∙ ap (λ xs. xs ++ appended_from 0 None rest) s.events)
      ∙ sym (append_assoc (leaf_events N.Data p l.start) (leaf_events l.name l.start l.end) (appended_from 0 None rest))
      ∙ ap (λ xs. found ++ appended_from 0 None (email_leaves m [] xs)) (sym s.back)
      ∙ ap (λ xs. found ++ appended_from 0 None (email_leaves m (reverse xs) (between bytes l.end e))) (sym nothing) in
      let back : length (between bytes l.end e) ≤ length after = let size = ap length s.back in let few = f.4 in omega (arith, size, few) in
      let all_of : length (between bytes q e) ≡ suc (length after) = ap length b.codes in
      record {
        stretch = s.behind;
        left_over = (m, let most = more.2 in omega (arith, back, most), ap (λ xs. xs ++ rest_events bytes m l.end l.end e) added ∙ append_assoc events found (rest_events bytes m l.end l.end e) ∙ ap (λ xs. events ++ xs) (sym same) ∙ w);
        fewer = omega (arith, back, all_of);
      }

-- At every step of the walk.

-- what is read of the data at hand, and the events so far with those that are left
abbrev pub IsUnder : List ℕ → Scan → Point → List Event → List Event → Type 0
IsUnder bytes scan e events all =
    IsStretch bytes scan.from scan.point × IsStretch bytes scan.point e × (scan ≡ scan_at bytes scan.from scan.point) × AreLeftEvents bytes scan.from scan.point e events all

places : (bytes : List ℕ) (p q : Point) (scan : Scan) → scan ≡ scan_at bytes p q → (scan.from ≡ p) × (scan.point ≡ q)
unfolding scan_at scan_of
places bytes p q scan h = (ap (λ (x : Scan). x.from) h, ap (λ (x : Scan). x.point) h)

-- a scan stands under what its places do
under-at : (bytes : List ℕ) (p q e : Point) (scan : Scan) (events all : List Event) → IsStretch bytes p q →
    IsStretch bytes q e → scan ≡ scan_at bytes p q → AreLeftEvents bytes p q e events all → IsUnder bytes scan e events all
under-at bytes p q e scan events all f s h l =
    let there = places bytes p q scan h in
    let Under : Point → Point → Type 0 = λ x y. IsStretch bytes x y × IsStretch bytes y e × (scan ≡ scan_at bytes x y) × AreLeftEvents bytes x y e events all in
    subst (λ (x : Point). Under x scan.point) (sym there.0) (subst (λ (y : Point). Under p y) (sym there.1) (f, s, h, l))

-- at first all is left
pub under-first : (bytes : List ℕ) (p e : Point) (scan : Scan) (events : List Event) → IsStretch bytes p e →
    scan ≡ scan_at bytes p p → events ≡ [] → IsUnder bytes scan e events (mail_events bytes p e)
unfolding mail_events with_emails
under-first bytes p e scan events s h g =
    let size : ℕ = length (between bytes p e) in
    under-at bytes p p e scan events (mail_events bytes p e) (stretch-self bytes p s.from_place) s h
    (size, omega arith, ap (λ xs. xs ++ rest_events bytes size p p e) g ∙ ap (λ xs. appended_from 0 None (email_leaves size (reverse xs) (between bytes p e))) (none-self bytes p s.from_place))

module _ (bytes : List ℕ) (e : Point) (scan : Scan) (events all : List Event) (under : IsUnder bytes scan e events all) (b : IsBegun bytes scan.point e) where
  pub end-place : (l : Literal) → literal_here scan (between bytes scan.point e) ≡ Some l → IsPoint bytes l.end
  end-place l h =
      (left-found bytes scan.from scan.point e scan under.0 under.1 under.2 b events (events ++ literal_events scan.from l) all l h refl under.3).stretch.from_place

  pub under-literal : (l : Literal) (more : Scan) (new : List Event) →
      literal_here scan (between bytes scan.point e) ≡ Some l → new ≡ events ++ literal_events scan.from l →
      more ≡ scan_at bytes l.end l.end →
      IsUnder bytes more e new all × (length (between bytes more.point e) < length (between bytes scan.point e))
  under-literal l more new h g k =
      let past : IsPastLiteral bytes scan.from scan.point e scan under.0 under.1 under.2 b events new all l = left-found bytes scan.from scan.point e scan under.0 under.1 under.2 b events new all l h g under.3 in (
        under-at bytes l.end l.end e more new all (stretch-self bytes l.end past.stretch.from_place) past.stretch k past.left_over,
        subst (λ (x : Point). length (between bytes x e) < length (between bytes scan.point e)) (sym (places bytes l.end l.end more k).1) past.fewer,
      )

  pub under-passed : (more : Scan) → literal_here scan (between bytes scan.point e) ≡ None →
      more ≡ scan_at bytes scan.from (next_point bytes scan.point) →
      IsUnder bytes more e events all × (length (between bytes more.point e) < length (between bytes scan.point e))
  under-passed more h k =
      let r : Point = next_point bytes scan.point in
      let long : IsLonger bytes scan.from scan.point = longer bytes scan.from scan.point under.0 b.in_bytes in
      let front : IsStretch bytes scan.from r = subst (λ (x : Point). IsStretch bytes scan.from x) (sym long.next) long.stretch in
      let behind : IsStretch bytes r e = stretch-next bytes scan.point e r b refl in (
        under-at bytes scan.from r e more events all front behind k (left-passed bytes scan.from scan.point e scan under.0 under.1 under.2 b events all r h refl under.3),
        subst (λ (x : Point). length (between bytes x e) < length (between bytes scan.point e)) (sym (places bytes scan.from r more k).1) (shorter bytes scan.point e r b refl),
      )

-- at the end the data alone is left
pub under-end : (bytes : List ℕ) (e : Point) (scan : Scan) (events all new : List Event) →
    IsUnder bytes scan e events all → IsEnded bytes scan.point e → new ≡ events ++ leaf_events N.Data scan.from e →
    new ≡ all
under-end bytes e scan events all new (s, t, r, (n, l, w)) d h =
    let p : Point = scan.from in
    let q : Point = scan.point in
    let same : rest_events bytes n p q e ≡ leaf_events N.Data p e =
    ap (λ xs. appended_from 0 None (email_leaves n (reverse (between bytes p q)) xs)) d.none
    ∙ ap (appended_from 0 None) (leaves-none n (reverse (between bytes p q)))
    ∙ leaf-is bytes p q N.Data (reverse (reverse (between bytes p q))) 0 None s (sym (reverse-reverse (between bytes p q)))
    ∙ ap (leaf_events N.Data p) d.point in
    h ∙ ap (λ xs. events ++ xs) (sym same) ∙ w
