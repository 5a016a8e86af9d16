-- stretches one after the other
use Rattle.std.proofs.Common.{◌≡◌, ℕ, ◌<◌, true, Some, List, [], ◌∷◌, ◌++◌, length, reverse, refl, sym, ap, subst, ◌∙◌, inl, inr}
use Rattle.markdown_passes.proofs.TrimmedLeaves.{stretch-self}
use Rattle.std.proofs.lemmas.List.{reverse-append}
use Rattle.markdown_content.specs.Codes.{Code, place_of}
use Rattle.markdown_content.specs.DocumentWalk.{IsPoint, next_point, value_from}
use Rattle.markdown_event.specs.declared.event.Point.{Point}
use Rattle.markdown_content.proofs.AdjacentCodes.{tail_same, cons≢nil}
use Rattle.markdown_content.proofs.PlaceOrder.{is_before, before-self, before-reach, before-asym}
use Rattle.markdown_content.proofs.DocumentPlaces.{IsNextPlace, next}
use Rattle.markdown_content.proofs.DocumentCodes.{code_here, stop_at}
use Rattle.markdown_passes.specs.TrimmedData.{between, IsStretch}
use Rattle.markdown_passes.proofs.TrimWalks.{IsBegun, stretch-cases, forward-as, backward, begun-of, ended-of}

pub none-self : (bytes : List ℕ) (p : Point) → IsPoint bytes p → between bytes p p ≡ []
none-self bytes p h = (ended-of bytes p p (stretch-self bytes p h) (before-self (place_of p))).none

-- two stretches as one
pub record IsJoined (bytes : List ℕ) (p m q : Point) : Type 0 where
  pub whole : IsStretch bytes p q
  pub codes : between bytes p q ≡ between bytes p m ++ between bytes m q

join-by : (bytes : List ℕ) (cs : List Code) (p m q : Point) → IsStretch bytes p m → IsStretch bytes m q →
    between bytes p m ≡ cs → IsJoined bytes p m q
join-by bytes [] p m q s t e =
    elim (stretch-cases bytes p m s) [
      | inl b ↦ absurd (cons≢nil (code_here bytes p) (between bytes (stop_at bytes p) m) (sym b.codes ∙ e))
      | inr d ↦
          record {
            whole = subst (λ (x : Point). IsStretch bytes x q) (sym d.point) t;
            codes = ap (λ (x : Point). between bytes x q) d.point ∙ ap (λ xs. xs ++ between bytes m q) (sym d.none);
          }
    ]
join-by bytes (c ∷ cs) p m q s t e =
    elim (stretch-cases bytes p m s) [
      | inl b ↦
          let more : IsJoined bytes (stop_at bytes p) m q = join-by bytes cs (stop_at bytes p) m q b.stretch t (tail_same (code_here bytes p) c (between bytes (stop_at bytes p) m) cs (sym b.codes ∙ e)) in
          let reaches : is_before (place_of p) (place_of q) ≡ true = before-reach (place_of p) (place_of (stop_at bytes p)) (place_of q) b.later (backward bytes (stop_at bytes p) q more.whole) in
          let whole : IsStretch bytes p q = record { from_place = s.from_place; to_place = t.to_place; forward = forward-as p q (before-asym (place_of p) (place_of q) reaches) } in
          let f : IsBegun bytes p q = begun-of bytes p q whole reaches in
          record { whole = whole; codes = f.codes ∙ ap (λ xs. code_here bytes p ∷ xs) more.codes ∙ ap (λ xs. xs ++ between bytes m q) (sym b.codes) }
      | inr d ↦ absurd (cons≢nil c cs (sym e ∙ d.none))
    ]

pub join : (bytes : List ℕ) (p m q : Point) → IsStretch bytes p m → IsStretch bytes m q → IsJoined bytes p m q
join bytes p m q s t = join-by bytes (between bytes p m) p m q s t refl

-- a stretch, and the code behind it
pub record IsLonger (bytes : List ℕ) (p q : Point) : Type 0 where
  pub stretch : IsStretch bytes p (stop_at bytes q)
  pub turned : reverse (between bytes p (stop_at bytes q)) ≡ code_here bytes q ∷ reverse (between bytes p q)
  pub next : next_point bytes q ≡ stop_at bytes q
  pub value : value_from bytes q ≡ Some (code_here bytes q).value

pub longer : (bytes : List ℕ) (p q : Point) → IsStretch bytes p q → q.index < length bytes → IsLonger bytes p q
longer bytes p q s l =
    let n : IsNextPlace bytes q = next bytes q s.to_place l in
    let r : Point = stop_at bytes q in
    let one : IsStretch bytes q r = record { from_place = s.to_place; to_place = n.point; forward = forward-as q r (before-asym (place_of q) (place_of r) n.later) } in
    let b : IsBegun bytes q r = begun-of bytes q r one n.later in
    let single : between bytes q r ≡ code_here bytes q ∷ [] = b.codes ∙ ap (λ xs. code_here bytes q ∷ xs) (none-self bytes r n.point) in
    let j : IsJoined bytes p q r = join bytes p q r s one in
    record {
      stretch = j.whole;
      turned = ap reverse (j.codes ∙ ap (λ xs. between bytes p q ++ xs) single) ∙ reverse-append (between bytes p q) (code_here bytes q ∷ []);
      next = n.next;
      value = b.value;
    }
