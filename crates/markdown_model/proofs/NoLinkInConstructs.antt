-- No construct but a label reads a link or a footnote call.
use Rattle.std.proofs.Common.{◌≡◌, Bool, true, false, ◌||◌, List, [], ◌∷◌, refl, sym, ◌∙◌, ap, Option}
use Rattle.std.proofs.lemmas.Bool.{or_parts}
use Rattle.markdown_event.specs.declared.event.Name.{Name}
use Rattle.markdown_content.specs.Codes.{Code}
use Rattle.markdown_content.specs.Tree.{Forest, empty, leaf_then, group_then, leaf, ◌⊕◌}
use Rattle.markdown_model.specs.Grammar.{Reading, ◌>>=◌, ◌>>◌, gives, either, unless, if_next, provided, before}
use Rattle.markdown_model.proofs.GivenByReadings.{IfGiven, given-bind, given-any, given-gives, given-passed, given-either, given-before, given-next, given-unless}
use Rattle.markdown_model.specs.Laws.{is_link, holds_link, AreApart}

abbrev pub IsFree : Forest → Type 0
IsFree t = holds_link t ≡ false

pub or_assoc : (a b c : Bool) → ((a || b) || c) ≡ (a || (b || c))
or_assoc true b c = refl
or_assoc false b c = refl

pub holds-join : (a b : Forest) → holds_link (a ⊕ b) ≡ (holds_link a || holds_link b)
holds-join empty b = refl
holds-join (leaf_then name link cs rest) b = holds-join rest b
holds-join (group_then name enter exit inside rest) b =
    ap (λ x. is_link name || (holds_link inside || x)) (holds-join rest b)
    ∙ ap (λ x. is_link name || x) (sym (or_assoc (holds_link inside) (holds_link rest) (holds_link b)))
    ∙ sym (or_assoc (is_link name) (holds_link inside || holds_link rest) (holds_link b))

pub holds-leaf : (name : Name) (cs : List Code) → holds_link (leaf name cs) ≡ false
holds-leaf name [] = refl
holds-leaf name (c ∷ cs) = refl

-- Readings whose values all pass.

abbrev pub PassesValue : {A : Type 0} → (A → Type 0) → Option (A × List Code) → Type 0
PassesValue P o = IfGiven (λ x _. P x) o

pub record Yields {A : Type 0} (P : A → Type 0) (a : Reading A) : Type 0 where
  pub at : (cs : List Code) → PassesValue P (a cs)

module _ {A B : Type 0} (Q : A → Type 0) (P : B → Type 0) where
  pub yields_bind : (a : Reading A) (b : A → Reading B) → Yields Q a → ((x : A) → Q x → Yields P (b x)) →
      Yields P (a >>= b)
  yields_bind a b ha hb =
      record { at = λ cs. given-bind (λ x _. Q x) (λ x _. P x) a b cs (ha.at cs) (λ x rest h. (hb x h).at rest) }

module _ {A : Type 0} where
  pub yields_any : (a : Reading A) → Yields (λ _. Unit {0}) a
  yields_any a = record { at = λ cs. given-any (a cs) }

module _ {A : Type 0} (P : A → Type 0) where
  abbrev value : A → List Code → Type 0
  value x _ = P x

  pub yields_gives : (x : A) → P x → Yields P (gives x)
  yields_gives x h = record { at = λ cs. given-gives value x cs h }

  pub yields_passed : (test : Bool) (b : Reading A) → Yields P b → Yields P (provided test >> b)
  yields_passed test b h = record { at = λ cs. given-passed value test b cs (λ _. h.at cs) }

  pub yields_either : (a b : Reading A) → Yields P a → Yields P b → Yields P (either a b)
  yields_either a b h k = record { at = λ cs. given-either value a b cs (h.at cs) (k.at cs) }

  pub yields_before : (a : Reading A) (p : List Code → Bool) → Yields P a → Yields P (before a p)
  yields_before a p h = record { at = λ cs. given-before value a p cs (h.at cs) }

  pub yields_next : (p : Code → Bool) (a b : Reading A) → Yields P a → Yields P b → Yields P (if_next p a b)
  yields_next p a b h k = record { at = λ cs. given-next value p a b cs (h.at cs) (k.at cs) }

  pub yields_unless : {B : Type 0} (a : Reading B) (b : Reading A) → Yields P b → Yields P (unless a b)
  yields_unless a b h = record { at = λ cs. given-unless value a b cs (h.at cs) }

-- whatever comes first
pub then_any : {A B : Type 0} (P : B → Type 0) (a : Reading A) (b : A → Reading B) → ((x : A) → Yields P (b x)) →
    Yields P (a >>= b)
then_any P a b h = yields_bind (λ _. Unit {0}) P a b (yields_any a) (λ x _. h x)

-- A row without links has them apart.

pub free-apart : (f : Forest) → holds_link f ≡ false → AreApart f
free-apart empty h = tt
free-apart (leaf_then name link cs rest) h = free-apart rest h
free-apart (group_then name enter exit inside rest) h =
    let parts = or_parts (is_link name) (holds_link inside || holds_link rest) h in
    let more = or_parts (holds_link inside) (holds_link rest) parts.1 in
    (λ _. more.0, free-apart inside more.0, free-apart rest more.1)
