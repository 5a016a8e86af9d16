-- the events of data that is trimmed
use Rattle.std.proofs.Common.{◌≡◌, ℕ, ◌+◌, Bool, true, false, List, [], ◌∷◌, ◌++◌, reverse, length, Option, None, refl, sym, ap, subst, ◌∙◌, append_assoc, append-nil, inl, inr, if◌then◌else◌, arith, ◌&&◌, not}
use Rattle.std.proofs.lemmas.List.{reverse-append, reverse-reverse}
use Rattle.std.proofs.lemmas.List.Elements.{All-nil, All-cons, All-append}
use Rattle.std.specs.List.{All}
use Rattle.markdown_engine_events.specs.EventChains.{IsUnlinked}
use Rattle.markdown_content.specs.Codes.{Code, is_blank, place_of, stop_of}
use Rattle.markdown_engine.specs.PastTree.{appended_from, last_link}
use Rattle.markdown_content.specs.Tree.{Forest, leaf, ◌⊕◌, event, event_count}
use Rattle.markdown_content.specs.DocumentWalk.{IsPoint}
use Rattle.markdown_event.specs.declared.event.Event.{Event}
use Rattle.markdown_event.specs.declared.event.Kind.TheVariants as Kind
use Rattle.markdown_event.specs.declared.event.Name.{Name}
use Rattle.markdown_event.specs.declared.event.Name.TheVariants as N
use Rattle.markdown_event.specs.declared.event.Point.{Point}
use Rattle.markdown_content.proofs.PlaceOrder.{is_before, before-self, before-reach, before-asym}
use Rattle.markdown_content.proofs.AdjacentCodes.{head_same, tail_same, cons≢nil}
use Rattle.markdown_content.proofs.DocumentPlaces.{stop-more}
use Rattle.markdown_content.proofs.DocumentCodes.{code_here, stop_at}
use Rattle.markdown_engine.proofs.TreeEvents.{appended_from-row}
use Rattle.markdown_model.specs.Grammar.{span}
use Rattle.markdown_model.specs.CodeTests.{is_real_space}
use Rattle.markdown_model.specs.Passes.{HardBreaks, last_spaces, blank_name}
use Rattle.markdown_model.proofs.LeafCodes.{span-append}
use Rattle.markdown_model.proofs.GrammarSteps.{span-takes, span-none}
use Rattle.markdown_passes.specs.TrimmedData.{between, IsStretch, end_of_kept, end_of_lead, is_same_place, leaf_events, trimmed_events}
use Rattle.markdown_passes.proofs.TrimWalks.{IsBegun, IsEnded, stretch-cases, forward-as, backward, begun-of, ended-of, ended-where, begun-where, last_kept, spaces_after}

-- Stretches, split.

-- a stretch in two: the codes of the first part, and of the second
pub record IsSplitInTwo (bytes : List ℕ) (p q : Point) (front back : List Code) : Type 0 where
  pub before : IsStretch bytes p (stop_of p front)
  pub after : IsStretch bytes (stop_of p front) q
  pub front_codes : between bytes p (stop_of p front) ≡ front
  pub back_codes : between bytes (stop_of p front) q ≡ back

pub stretch-self : (bytes : List ℕ) (p : Point) → IsPoint bytes p → IsStretch bytes p p
stretch-self bytes p h = record { from_place = h; to_place = h; forward = forward-as p p (before-self (place_of p)) }

pub split : (bytes : List ℕ) (p q : Point) (front back : List Code) → IsStretch bytes p q →
    between bytes p q ≡ front ++ back → IsSplitInTwo bytes p q front back
split bytes p q [] back s e =
    let self : IsStretch bytes p p = stretch-self bytes p s.from_place in
    record { before = self; after = s; front_codes = (ended-of bytes p p self (before-self (place_of p))).none; back_codes = e }
split bytes p q (c ∷ front) back s e =
    elim (stretch-cases bytes p q s) [
      | inl f ↦
          let both : c ∷ (front ++ back) ≡ code_here bytes p ∷ between bytes (stop_at bytes p) q = sym e ∙ f.codes in
          let same : c ≡ code_here bytes p = head_same c (code_here bytes p) (front ++ back) (between bytes (stop_at bytes p) q) both in
          let rest : front ++ back ≡ between bytes (stop_at bytes p) q = tail_same c (code_here bytes p) (front ++ back) (between bytes (stop_at bytes p) q) both in
          let stops : stop_at bytes p ≡ c.stop = ap (λ (x : Code). x.stop) (sym same) in
          let more : IsSplitInTwo bytes c.stop q front back =
          split bytes c.stop q front back (subst (λ (x : Point). IsStretch bytes x q) stops f.stretch) (ap (λ (x : Point). between bytes x q) (sym stops) ∙ sym rest) in
          let m : Point = stop_of c.stop front in
          let later : is_before (place_of p) (place_of c.stop) ≡ true = subst (λ (x : Point). is_before (place_of p) (place_of x) ≡ true) stops f.later in
          let reaches : is_before (place_of p) (place_of m) ≡ true = before-reach (place_of p) (place_of c.stop) (place_of m) later (backward bytes c.stop m more.before) in
          let first : IsStretch bytes p m = record { from_place = s.from_place; to_place = more.before.to_place; forward = forward-as p m (before-asym (place_of p) (place_of m) reaches) } in
          let g : IsBegun bytes p m = begun-of bytes p m first reaches in
          record {
            before = first;
            after = more.after;
            front_codes = g.codes
                ∙ ap (λ (x : Code). x ∷ between bytes (stop_at bytes p) m) (sym same)
                ∙ ap (λ (x : Point). c ∷ between bytes x m) stops
                ∙ ap (λ xs. c ∷ xs) more.front_codes;
            back_codes = more.back_codes;
          }
      | inr n ↦ absurd (cons≢nil c (front ++ back) (sym e ∙ n.none))
    ]

pub none-ends : (bytes : List ℕ) (p q : Point) → IsStretch bytes p q → between bytes p q ≡ [] → IsEnded bytes p q
none-ends bytes p q s e =
    elim (stretch-cases bytes p q s) [
      | inl f ↦ absurd (cons≢nil (code_here bytes p) (between bytes (stop_at bytes p) q) (sym f.codes ∙ e))
      | inr n ↦ n
    ]

-- codes from a place to another stop at the other
pub stop-is : (bytes : List ℕ) (p q : Point) (cs : List Code) → IsStretch bytes p q → between bytes p q ≡ cs →
    stop_of p cs ≡ q
stop-is bytes p q cs s e =
    let h : IsSplitInTwo bytes p q cs [] = split bytes p q cs [] s (e ∙ sym (append-nil cs)) in
    (none-ends bytes (stop_of p cs) q h.after h.back_codes).point

-- What a walk keeps.

-- codes that are not blank at their end, with one more behind them, back to front
abbrev tailed : List Code → Code → List Code
tailed [] c = if is_blank c then [] else c ∷ []
tailed (x ∷ xs) c = x ∷ xs ++ c ∷ []

one-span : (c : Code) (b : Bool) → is_blank c ≡ b → (span is_blank (c ∷ [])).1 ≡ (if b then [] else c ∷ [])
one-span c true h = ap (λ (s : List Code × List Code). s.1) (span-takes is_blank c [] h)
one-span c false h = ap (λ (s : List Code × List Code). s.1) (span-none is_blank (c ∷ []) h)

span-one : (x : Code) (xs : List Code) (c : Code) (b : Bool) → is_blank x ≡ b →
    (span is_blank (xs ++ c ∷ [])).1 ≡ tailed (span is_blank xs).1 c →
    (span is_blank (x ∷ xs ++ c ∷ [])).1 ≡ tailed (span is_blank (x ∷ xs)).1 c
span-one x xs c true h more =
    ap (λ (s : List Code × List Code). s.1) (span-takes is_blank x (xs ++ c ∷ []) h)
    ∙ more
    ∙ ap (λ (s : List Code × List Code). tailed s.1 c) (sym (span-takes is_blank x xs h))
span-one x xs c false h more =
    ap (λ (s : List Code × List Code). s.1) (span-none is_blank (x ∷ xs ++ c ∷ []) h)
    ∙ ap (λ (s : List Code × List Code). tailed s.1 c) (sym (span-none is_blank (x ∷ xs) h))

span-snoc : (xs : List Code) (c : Code) → (span is_blank (xs ++ c ∷ [])).1 ≡ tailed (span is_blank xs).1 c
span-snoc [] c = one-span c (is_blank c) refl
span-snoc (x ∷ xs) c = span-one x xs c (is_blank x) refl (span-snoc xs c)

reverse-first : (c : Code) (cs : List Code) → reverse (c ∷ cs) ≡ reverse cs ++ c ∷ []
reverse-first c cs = reverse-append (c ∷ []) cs

stop-any : (p q : Point) (c : Code) (cs : List Code) → stop_of p (reverse (c ∷ cs)) ≡ stop_of q (reverse (c ∷ cs))
stop-any p q c cs =
    ap (stop_of p) (reverse-first c cs) ∙ stop-more p (reverse cs) c ∙ sym (stop-more q (reverse cs) c) ∙ ap (stop_of q) (sym (reverse-first c cs))

kept-one : (p : Point) (c : Code) (b : Bool) →
    stop_of p (reverse (if b then [] else c ∷ [])) ≡ (if b then p else c.stop)
kept-one p c true = refl
kept-one p c false = refl

kept-step : (xs : List Code) (p : Point) (c : Code) →
    stop_of p (reverse (tailed xs c)) ≡ stop_of (if is_blank c then p else c.stop) (reverse xs)
kept-step [] p c = kept-one p c (is_blank c)
kept-step (x ∷ xs) p c =
    ap (stop_of p) (reverse-append (x ∷ xs) (c ∷ [])) ∙ stop-any c.stop (if is_blank c then p else c.stop) x xs

pub last-is : (p : Point) (cs : List Code) → last_kept p cs ≡ end_of_kept p cs
unfolding end_of_kept
last-is p [] = refl
last-is p (c ∷ cs) =
    last-is (if is_blank c then p else c.stop) cs
    ∙ sym (kept-step (span is_blank (reverse cs)).1 p c)
    ∙ ap (λ xs. stop_of p (reverse xs)) (sym (span-snoc (reverse cs) c))
    ∙ ap (λ xs. stop_of p (reverse (span is_blank xs).1)) (sym (reverse-first c cs))

spaces-first : (c : Code) (xs : List Code) (b : Bool) → is_real_space c ≡ b →
    length (span is_real_space (c ∷ xs)).0 ≡ (if b then length (span is_real_space xs).0 + 1 else 0)
spaces-first c xs true h =
    let one : length (c ∷ (span is_real_space xs).0) ≡ length (span is_real_space xs).0 + 1 = omega arith in
    ap (λ (s : List Code × List Code). length s.0) (span-takes is_real_space c xs h) ∙ one
spaces-first c xs false h = ap (λ (s : List Code × List Code). length s.0) (span-none is_real_space (c ∷ xs) h)

-- behind codes that stand back to front
spaces-behind : (xs cs : List Code) →
    spaces_after (length (span is_real_space xs).0) cs ≡ length (span is_real_space (reverse cs ++ xs)).0
spaces-behind xs [] = refl
spaces-behind xs (c ∷ cs) =
    ap (λ n. spaces_after n cs) (sym (spaces-first c xs (is_real_space c) refl))
    ∙ spaces-behind (c ∷ xs) cs
    ∙ ap (λ ys. length (span is_real_space ys).0) (sym (ap (λ ys. ys ++ xs) (reverse-first c cs) ∙ append_assoc (reverse cs) (c ∷ []) xs))

pub spaces-are : (cs : List Code) → spaces_after 0 cs ≡ last_spaces cs
spaces-are cs = spaces-behind [] cs ∙ ap (λ ys. length (span is_real_space ys).0) (append-nil (reverse cs))

-- Leaves.

pub leaf-some : (name : Name) (p q : Point) (b : Bool) → b ≡ is_same_place p q → b ≡ false →
    event Kind.Enter name p ∷ event Kind.Exit name q ∷ [] ≡ leaf_events name p q
unfolding leaf_events
leaf-some name p q b e h = ap (λ x. if x then [] else event Kind.Enter name p ∷ event Kind.Exit name q ∷ []) (sym h ∙ e)

leaf-nothing : (name : Name) (p q : Point) → is_same_place p q ≡ true → leaf_events name p q ≡ []
unfolding leaf_events
leaf-nothing name p q e = ap (λ x. if x then [] else event Kind.Enter name p ∷ event Kind.Exit name q ∷ []) e

pub leaf-none : (name : Name) (p q : Point) (es : List Event) (b : Bool) → b ≡ is_same_place p q → b ≡ true →
    es ≡ es ++ leaf_events name p q
leaf-none name p q es b e h = sym (append-nil es) ∙ ap (λ xs. es ++ xs) (sym (leaf-nothing name p q (sym e ∙ h)))

start-first : (bytes : List ℕ) (p q : Point) (c : Code) (cs : List Code) → IsBegun bytes p q →
    between bytes p q ≡ c ∷ cs → c.start ≡ p
start-first bytes p q c cs b e =
    ap (λ (x : Code). x.start) (head_same c (code_here bytes p) cs (between bytes (stop_at bytes p) q) (sym e ∙ b.codes))

same-by : (bytes : List ℕ) (p q : Point) (c : Code) (cs : List Code) → IsStretch bytes p q →
    between bytes p q ≡ c ∷ cs → (b : Bool) → is_same_place p q ≡ b → is_same_place p q ≡ false
same-by bytes p q c cs s e true h = absurd (cons≢nil c cs (sym e ∙ (ended-where bytes p q s h).none))
same-by bytes p q c cs s e false h = h

ended-same : (bytes : List ℕ) (p q : Point) → IsStretch bytes p q → between bytes p q ≡ [] → (b : Bool) →
    is_same_place p q ≡ b → is_same_place p q ≡ true
ended-same bytes p q s e true h = h
ended-same bytes p q s e false h =
    let f : IsBegun bytes p q = begun-where bytes p q s h in absurd (cons≢nil (code_here bytes p) (between bytes (stop_at bytes p) q) (sym f.codes ∙ e))

-- the events of a leaf over the codes from one place to another
pub leaf-is : (bytes : List ℕ) (p q : Point) (name : Name) (cs : List Code) (n : ℕ) (previous : Option ℕ) →
    IsStretch bytes p q → between bytes p q ≡ cs → appended_from n previous (leaf name cs) ≡ leaf_events name p q
leaf-is bytes p q name [] n previous s e =
    sym (leaf-nothing name p q (ended-same bytes p q s e (is_same_place p q) refl))
leaf-is bytes p q name (c ∷ cs) n previous s e =
    let differ : is_same_place p q ≡ false = same-by bytes p q c cs s e (is_same_place p q) refl in
    ap (λ (x : Point). event Kind.Enter name x ∷ event Kind.Exit name (stop_of c.stop cs) ∷ []) (start-first bytes p q c cs (begun-where bytes p q s differ) e)
    ∙ ap (λ (x : Point). event Kind.Enter name p ∷ event Kind.Exit name x ∷ []) (stop-is bytes p q (c ∷ cs) s e)
    ∙ leaf-some name p q (is_same_place p q) refl differ

-- Data, trimmed.

abbrev pub cut : Bool → List Code → List Code × List Code
cut back cs = elim back [ true ↦ span is_blank (reverse cs) | false ↦ ([], reverse cs) ]

abbrev pub kept_of : Bool → List Code → List Code
kept_of back cs = reverse (cut back cs).1

abbrev pub tail_of : Bool → List Code → List Code
tail_of back cs = reverse (cut back cs).0

abbrev pub lead_of : Bool → List Code → List Code × List Code
lead_of front kept = elim front [ true ↦ span is_blank kept | false ↦ ([], kept) ]

cut-parts : (back : Bool) (cs : List Code) → (cut back cs).0 ++ (cut back cs).1 ≡ reverse cs
cut-parts true cs = span-append is_blank (reverse cs)
cut-parts false cs = refl

pub kept-parts : (back : Bool) (cs : List Code) → cs ≡ kept_of back cs ++ tail_of back cs
kept-parts back cs =
    sym (reverse-reverse cs) ∙ ap reverse (sym (cut-parts back cs)) ∙ reverse-append (cut back cs).0 (cut back cs).1

pub lead-parts : (front : Bool) (kept : List Code) → kept ≡ (lead_of front kept).0 ++ (lead_of front kept).1
lead-parts true kept = sym (span-append is_blank kept)
lead-parts false kept = refl

end-is : (bytes : List ℕ) (p q : Point) (back : Bool) → IsStretch bytes p q →
    (if back then end_of_kept p (between bytes p q) else q) ≡ stop_of p (kept_of back (between bytes p q))
unfolding end_of_kept
end-is bytes p q true s = refl
end-is bytes p q false s =
    sym (stop-is bytes p q (reverse (reverse (between bytes p q))) s (sym (reverse-reverse (between bytes p q))))

start-is : (front : Bool) (p : Point) (cs : List Code) →
    (if front then end_of_lead p cs else p) ≡ stop_of p (lead_of front cs).0
unfolding end_of_lead
start-is true p cs = refl
start-is false p cs = refl

three : (n : ℕ) (previous : Option ℕ) (a b c : Forest) (xs ys zs : List Event) →
    ((m : ℕ) (o : Option ℕ) → appended_from m o a ≡ xs) → ((m : ℕ) (o : Option ℕ) → appended_from m o b ≡ ys) →
    ((m : ℕ) (o : Option ℕ) → appended_from m o c ≡ zs) → appended_from n previous (a ⊕ b ⊕ c) ≡ (xs ++ ys) ++ zs
three n previous a b c xs ys zs f g h =
    let m : ℕ = n + event_count a in
    let o : Option ℕ = last_link n previous a in
    appended_from-row n previous a (b ⊕ c)
    ∙ ap (λ w. w ++ appended_from m o (b ⊕ c)) (f n previous)
    ∙ ap (λ w. xs ++ w) (appended_from-row m o b c ∙ ap (λ w. w ++ appended_from (m + event_count b) (last_link m o b) c) (g m o) ∙ ap (λ w. ys ++ w) (h (m + event_count b) (last_link m o b)))
    ∙ sym (append_assoc xs ys zs)

-- a trimmed stretch is cut in two where its blank codes at the back begin
pub end-stretch : (bytes : List ℕ) (p q e : Point) (back : Bool) → IsStretch bytes p q →
    e ≡ (if back then end_of_kept p (between bytes p q) else q) → IsStretch bytes p e
end-stretch bytes p q e back s h =
    let cs : List Code = between bytes p q in
    let one : IsSplitInTwo bytes p q (kept_of back cs) (tail_of back cs) = split bytes p q (kept_of back cs) (tail_of back cs) s (kept-parts back cs) in
    subst (λ (x : Point). IsStretch bytes p x) (sym (h ∙ end-is bytes p q back s)) one.before

pub back-stretch : (bytes : List ℕ) (p q e : Point) (back : Bool) → IsStretch bytes p q →
    e ≡ (if back then end_of_kept p (between bytes p q) else q) → IsStretch bytes e q
back-stretch bytes p q e back s h =
    let cs : List Code = between bytes p q in
    let one : IsSplitInTwo bytes p q (kept_of back cs) (tail_of back cs) = split bytes p q (kept_of back cs) (tail_of back cs) s (kept-parts back cs) in
    subst (λ (x : Point). IsStretch bytes x q) (sym (h ∙ end-is bytes p q back s)) one.after

trimmed-at : (bytes : List ℕ) (p q : Point) (front back : Bool) (hard : HardBreaks) → IsStretch bytes p q → (e s : Point) →
    e ≡ stop_of p (kept_of (back && not hard.keeps) (between bytes p q)) →
    s ≡ stop_of p (lead_of front (kept_of (back && not hard.keeps) (between bytes p q))).0 →
    trimmed_events front back hard bytes p q ≡ (leaf_events N.SpaceOrTab p s ++ leaf_events N.Data s e) ++ leaf_events (blank_name hard (between bytes e q)) e q
unfolding trimmed_events
trimmed-at bytes p q front back hard r e s h k =
    let cs : List Code = between bytes p q in
    let goes : Bool = back && not hard.keeps in
    let kept : List Code = kept_of goes cs in
    let lead : List Code × List Code = lead_of front kept in
    let last : Name = blank_name hard (tail_of goes cs) in
    let one : IsSplitInTwo bytes p q kept (tail_of goes cs) = split bytes p q kept (tail_of goes cs) r (kept-parts goes cs) in
    let two : IsSplitInTwo bytes p (stop_of p kept) lead.0 lead.1 = split bytes p (stop_of p kept) lead.0 lead.1 one.before (one.front_codes ∙ lead-parts front kept) in
    three 0 None (leaf N.SpaceOrTab lead.0) (leaf N.Data lead.1) (leaf last (tail_of goes cs))
    (leaf_events N.SpaceOrTab p (stop_of p lead.0)) (leaf_events N.Data (stop_of p lead.0) (stop_of p kept)) (leaf_events last (stop_of p kept) q)
    (λ m o. leaf-is bytes p (stop_of p lead.0) N.SpaceOrTab lead.0 m o two.before two.front_codes)
    (λ m o. leaf-is bytes (stop_of p lead.0) (stop_of p kept) N.Data lead.1 m o two.after two.back_codes)
    (λ m o. leaf-is bytes (stop_of p kept) q last (tail_of goes cs) m o one.after one.back_codes)
    ∙ ap (λ (x : Point). (leaf_events N.SpaceOrTab p x ++ leaf_events N.Data x (stop_of p kept)) ++ leaf_events last (stop_of p kept) q) (sym k)
    ∙ ap (λ (x : Point). (leaf_events N.SpaceOrTab p s ++ leaf_events N.Data s x) ++ leaf_events last x q) (sym h)
    ∙ ap (λ (ds : List Code). (leaf_events N.SpaceOrTab p s ++ leaf_events N.Data s e) ++ leaf_events (blank_name hard ds) e q) (sym one.back_codes ∙ ap (λ (x : Point). between bytes x q) (sym h))

-- the events of data that is trimmed are those of its three leaves
pub trimmed-is : (bytes : List ℕ) (p q e s : Point) (front back : Bool) (hard : HardBreaks) (last : Name) → IsStretch bytes p q →
    e ≡ (if back && not hard.keeps then end_of_kept p (between bytes p q) else q) →
    s ≡ (if front then end_of_lead p (between bytes p e) else p) → last ≡ blank_name hard (between bytes e q) →
    (leaf_events N.SpaceOrTab p s ++ leaf_events N.Data s e) ++ leaf_events last e q ≡ trimmed_events front back hard bytes p q
trimmed-is bytes p q e s front back hard last r h k l =
    let cs : List Code = between bytes p q in
    let goes : Bool = back && not hard.keeps in
    let kept : List Code = kept_of goes cs in
    let one : IsSplitInTwo bytes p q kept (tail_of goes cs) = split bytes p q kept (tail_of goes cs) r (kept-parts goes cs) in
    let end : e ≡ stop_of p kept = h ∙ end-is bytes p q goes r in
    let codes : between bytes p e ≡ kept = ap (between bytes p) end ∙ one.front_codes in
    ap (λ (name : Name). (leaf_events N.SpaceOrTab p s ++ leaf_events N.Data s e) ++ leaf_events name e q) l
    ∙ sym (trimmed-at bytes p q front back hard r e s end (k ∙ start-is front p (between bytes p e) ∙ ap (λ xs. stop_of p (lead_of front xs).0) codes))

pub pushed-leaf : (name : Name) (p q : Point) (old one two : List Event) (b : Bool) → b ≡ is_same_place p q →
    b ≡ false → one ≡ old ++ event Kind.Enter name p ∷ [] → two ≡ one ++ event Kind.Exit name q ∷ [] →
    two ≡ old ++ leaf_events name p q
pushed-leaf name p q old one two b e h f g =
    g ∙ ap (λ xs. xs ++ event Kind.Exit name q ∷ []) f ∙ append_assoc old (event Kind.Enter name p ∷ []) (event Kind.Exit name q ∷ []) ∙ ap (λ xs. old ++ xs) (leaf-some name p q b e h)

pub chosen-yes : (b : Bool) (e x y z : Point) → b ≡ true → e ≡ z → z ≡ x → e ≡ (if b then x else y)
chosen-yes true e x y z h k l = k ∙ l
chosen-yes false e x y z h k l = cc

pub chosen-no : (b : Bool) (e x y : Point) → b ≡ false → e ≡ y → e ≡ (if b then x else y)
chosen-no true e x y h k = cc
chosen-no false e x y h k = k

-- The events that come carry no link.

leaf-unlinked : (name : Name) (cs : List Code) → All IsUnlinked (appended_from 0 None (leaf name cs))
leaf-unlinked name [] = All-nil IsUnlinked
leaf-unlinked name (c ∷ cs) =
    All-cons IsUnlinked (event Kind.Enter name c.start) (event Kind.Exit name (stop_of c.stop cs) ∷ []) refl (All-cons IsUnlinked (event Kind.Exit name (stop_of c.stop cs)) [] refl (All-nil IsUnlinked))

pub leaf-same : (name : Name) (cs : List Code) (m : ℕ) (o : Option ℕ) →
    appended_from m o (leaf name cs) ≡ appended_from 0 None (leaf name cs)
leaf-same name [] m o = refl
leaf-same name (c ∷ cs) m o = refl

pub three-leaves : (n : ℕ) (previous : Option ℕ) (a b c : Name) (xs ys zs : List Code) →
    appended_from n previous (leaf a xs ⊕ leaf b ys ⊕ leaf c zs) ≡ (appended_from 0 None (leaf a xs) ++ appended_from 0 None (leaf b ys)) ++ appended_from 0 None (leaf c zs)
three-leaves n previous a b c xs ys zs =
    three n previous (leaf a xs) (leaf b ys) (leaf c zs) (appended_from 0 None (leaf a xs)) (appended_from 0 None (leaf b ys)) (appended_from 0 None (leaf c zs)) (leaf-same a xs) (leaf-same b ys) (leaf-same c zs)

pub trimmed-unlinked : (front back : Bool) (hard : HardBreaks) (bytes : List ℕ) (p q : Point) (es : List Event) →
    es ≡ trimmed_events front back hard bytes p q → All IsUnlinked es
unfolding trimmed_events
trimmed-unlinked front back hard bytes p q es e =
    let goes : Bool = back && not hard.keeps in
    let kept : List Code = kept_of goes (between bytes p q) in
    let lead : List Code × List Code = lead_of front kept in
    let tail : List Code = tail_of goes (between bytes p q) in
    let last : Name = blank_name hard tail in
    subst (λ (xs : List Event). All IsUnlinked xs) (sym (e ∙ three-leaves 0 None N.SpaceOrTab N.Data last lead.0 lead.1 tail))
    (All-append IsUnlinked (appended_from 0 None (leaf N.SpaceOrTab lead.0) ++ appended_from 0 None (leaf N.Data lead.1)) (appended_from 0 None (leaf last tail)) (All-append IsUnlinked (appended_from 0 None (leaf N.SpaceOrTab lead.0)) (appended_from 0 None (leaf N.Data lead.1)) (leaf-unlinked N.SpaceOrTab lead.0) (leaf-unlinked N.Data lead.1)) (leaf-unlinked last tail))
