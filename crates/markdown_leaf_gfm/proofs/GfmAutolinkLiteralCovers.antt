-- Whole literals: the tree that the definition gives, and the codes that it covers.
use Rattle.std.proofs.Common.{◌≡◌, ℕ, ◌&&◌, not, Bool, true, false, if◌then◌else◌, Option, Some, None, List, [], ◌∷◌, ◌++◌, refl, sym, ap, ◌∙◌, append_assoc}
use Rattle.markdown_content.specs.Codes.{Code}
use Rattle.markdown_engine.specs.Operations.{Op, Enter, Exit, Consume}
use Rattle.markdown_content.specs.Tree.{Forest, leaf}
use Rattle.markdown_engine.specs.TreeOps.{consumes, ops_of}
use Rattle.markdown_event.specs.declared.event.Name.{Name}
use Rattle.markdown_event.specs.declared.event.Name.TheVariants as N
use Rattle.markdown_model.specs.CodeTests.{is_letter, is_some_code}
use Rattle.markdown_model.specs.Grammar.{Reading, ◌>>=◌, ◌>>◌, ◌then_◌, gives, provided}
use Rattle.markdown_model.specs.GfmAutolinkLiteral.{schemes, one_word_of, domain, path, gfm_autolink_literal_protocol, www_from_here, gfm_autolink_literal_www, may_precede_www, begins_with_www}
use Rattle.markdown_plan.specs.Plan.{tree_ops, plan_of}
use Rattle.markdown_plan.specs.PrecededReadings.{after}
use Rattle.markdown_plan.proofs.PrecededReadingLemmas.{then-after}
use Rattle.markdown_model.proofs.PlainConstructs.{reads_switched, reads_gfm_autolink_literal_protocol, reads_gfm_autolink_literal_www}
use Rattle.markdown_plan.proofs.SolidReadings.{ReadsSolid, plain-reads}
use Rattle.markdown_leaf_gfm.specs.GfmAutolinkLiteral.{address, protocol_reading}
use Rattle.markdown_model.proofs.GrammarSteps.{bind-some, bind-none, then-none, switched-on, switched-off}

-- Readings in a row give what the parts give.

abbrev Codes : Type 0
Codes = Option (List Code × List Code)

mapped : (List Code → Forest) → Codes → Option (Forest × List Code)
mapped f None = None
mapped f (Some r) = Some (f r.0, r.1)

bind-gives : (a : Reading (List Code)) (f : List Code → Forest) (cs : List Code) →
    (a >>= λ x. gives (f x)) cs ≡ mapped f (a cs)
unfolding mapped gives
bind-gives a f cs = by_what (a cs) refl
  where
    by_what : (o : Codes) → a cs ≡ o → (a >>= λ x. gives (f x)) cs ≡ mapped f (a cs)
    by_what None e = bind-none a (λ x. gives (f x)) cs e ∙ ap (mapped f) (sym e)
    by_what (Some r) e = bind-some a (λ x. gives (f x)) cs r.0 r.1 (Some (f r.0, r.1)) e refl ∙ ap (mapped f) (sym e)

mapped-after : (f : List Code → Forest) (x : List Code) (o : Codes) → mapped (λ y. f (x ++ y)) o ≡ mapped f (after x o)
unfolding mapped
mapped-after f x None = refl
mapped-after f x (Some r) = refl

bind-then : (a k : Reading (List Code)) (next : List Code → Reading Forest) (f : List Code → Forest) →
    ((x r : List Code) → next x r ≡ mapped (λ y. f (x ++ y)) (k r)) → (cs : List Code) →
    (a >>= next) cs ≡ mapped f ((a then_ k) cs)
unfolding mapped
bind-then a k next f h cs = by_what (a cs) refl
  where
    by_what : (o : Codes) → a cs ≡ o → (a >>= next) cs ≡ mapped f ((a then_ k) cs)
    by_what None e = bind-none a next cs e ∙ ap (mapped f) (sym (then-none a k cs e))
    by_what (Some r) e =
        bind-some a next cs r.0 r.1 (mapped f (after r.0 (k r.1))) e (h r.0 r.1 ∙ mapped-after f r.0 (k r.1))
        ∙ ap (mapped f) (sym (then-after a k cs r.0 r.1 e))

mapped-same : (f g : List Code → Forest) → ((x : List Code) → f x ≡ g x) → (o : Codes) → mapped f o ≡ mapped g o
unfolding mapped
mapped-same f g h None = refl
mapped-same f g h (Some r) = ap (λ t. Some (t, r.1)) (h r.0)

-- the operations of a leaf of these codes
abbrev pub leaf_ops : Name → Codes → Option (List Op)
leaf_ops name None = None
leaf_ops name (Some r) = Some (ops_of (leaf name r.0))

mapped-ops : (name : Name) (o : Codes) → tree_ops (mapped (leaf name) o) ≡ leaf_ops name o
unfolding mapped
mapped-ops name None = refl
mapped-ops name (Some r) = refl

pub ops-leaf : (name : Name) (x : List Code) (os : List Op) → consumes x ≡ Consume ∷ os →
    ops_of (leaf name x) ≡ Enter name ∷ (consumes x ++ Exit name ∷ [])
ops-leaf name [] os e = cc
ops-leaf name (c ∷ cs) os e = refl

module _ (bytes : List ℕ) (end : ℕ) where
  protocol-text : (cs : List Code) →
      (one_word_of schemes >>= λ scheme. domain bytes end >>= λ host. path bytes end >>= λ further. gives (leaf N.GfmAutolinkLiteralProtocol (scheme ++ host ++ further))) cs ≡ mapped (leaf N.GfmAutolinkLiteralProtocol) (protocol_reading bytes end cs)
  protocol-text cs =
      let name : List Code → Forest = leaf N.GfmAutolinkLiteralProtocol in
      bind-then (one_word_of schemes) (address bytes end) _ name (λ x r.
      bind-then (domain bytes end) (path bytes end) _ (λ z. name (x ++ z)) (λ z t.
      bind-gives (path bytes end) (λ w. name (x ++ z ++ w)) t ∙ mapped-same _ (λ w. name (x ++ (z ++ w))) (λ w. ap name (append_assoc x z w)) (path bytes end t)) r) cs

  -- where no letter stands before
  protocol-by : (previous : Option Code) (cs : List Code) (b : Bool) → is_some_code is_letter previous ≡ b →
      tree_ops (gfm_autolink_literal_protocol bytes end previous cs) ≡ (if not b then leaf_ops N.GfmAutolinkLiteralProtocol (protocol_reading bytes end cs) else None)
  unfolding gfm_autolink_literal_protocol
  protocol-by previous cs true e = ap tree_ops (switched-off _ _ cs (ap not e))
  protocol-by previous cs false e =
      ap tree_ops (switched-on _ _ cs (ap not e) ∙ protocol-text cs) ∙ mapped-ops N.GfmAutolinkLiteralProtocol (protocol_reading bytes end cs)

  pub protocol-is : (on : Bool) (previous : Option Code) (cs : List Code) →
      plan_of (provided on >> gfm_autolink_literal_protocol bytes end previous) cs ≡ (if on && not (is_some_code is_letter previous) then leaf_ops N.GfmAutolinkLiteralProtocol (protocol_reading bytes end cs) else None)
  protocol-is true previous cs =
      ap tree_ops (switched-on (gfm_autolink_literal_protocol bytes end previous) true cs refl) ∙ protocol-by previous cs (is_some_code is_letter previous) refl
  protocol-is false previous cs =
      ap tree_ops (switched-off (gfm_autolink_literal_protocol bytes end previous) false cs refl)

-- What they cover.

module _ (bytes : List ℕ) (end : ℕ) where
  pub whole-protocol : (on : Bool) (previous : Option Code) →
      ReadsSolid (provided on >> gfm_autolink_literal_protocol bytes end previous)
  whole-protocol on previous =
      plain-reads bytes _ (reads_switched bytes on _ (reads_gfm_autolink_literal_protocol bytes end previous))

  pub whole-www : (on : Bool) (previous : Option Code) →
      ReadsSolid (provided on >> gfm_autolink_literal_www bytes end previous)
  whole-www on previous =
      plain-reads bytes _ (reads_switched bytes on _ (reads_gfm_autolink_literal_www bytes end previous))

  www-text : (cs : List Code) →
      www_from_here bytes end cs ≡ mapped (leaf N.GfmAutolinkLiteralWww) (address bytes end cs)
  unfolding www_from_here
  www-text cs =
      bind-then (domain bytes end) (path bytes end) _ (leaf N.GfmAutolinkLiteralWww) (λ z t. bind-gives (path bytes end) (λ w. leaf N.GfmAutolinkLiteralWww (z ++ w)) t) cs

  pub from-here-is : (cs : List Code) →
      plan_of (www_from_here bytes end) cs ≡ leaf_ops N.GfmAutolinkLiteralWww (address bytes end cs)
  from-here-is cs = ap tree_ops (www-text cs) ∙ mapped-ops N.GfmAutolinkLiteralWww (address bytes end cs)

  pub www-is : (on : Bool) (previous : Option Code) (cs : List Code) →
      on && (may_precede_www previous && begins_with_www cs) ≡ true →
      plan_of (provided on >> gfm_autolink_literal_www bytes end previous) cs ≡ plan_of (www_from_here bytes end) cs
  unfolding gfm_autolink_literal_www
  www-is true previous cs e =
      ap tree_ops (switched-on (gfm_autolink_literal_www bytes end previous) true cs refl ∙ switched-on (www_from_here bytes end) (may_precede_www previous && begins_with_www cs) cs e)
  www-is false previous cs e = cc

  pub www-none : (on : Bool) (previous : Option Code) (cs : List Code) →
      on && (may_precede_www previous && begins_with_www cs) ≡ false →
      plan_of (provided on >> gfm_autolink_literal_www bytes end previous) cs ≡ None
  unfolding gfm_autolink_literal_www
  www-none true previous cs e =
      ap tree_ops (switched-on (gfm_autolink_literal_www bytes end previous) true cs refl ∙ switched-off (www_from_here bytes end) (may_precede_www previous && begins_with_www cs) cs e)
  www-none false previous cs e = ap tree_ops (switched-off (gfm_autolink_literal_www bytes end previous) false cs refl)
