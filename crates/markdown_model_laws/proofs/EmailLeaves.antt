-- The leaf of an email literal.
use Rattle.std.proofs.Common.{◌≡◌, true, List, [], ◌∷◌, ◌++◌, refl, Option, Some, None, arith}
use Rattle.markdown_event.specs.declared.event.Name.{Name}
use Rattle.markdown_content.specs.Codes.{Code}
use Rattle.markdown_content.specs.Tree.{Forest, empty, leaf_then, leaf}
use Rattle.markdown_model.specs.GfmEmailLiteral.{email_at, email_protocol}
use Rattle.markdown_model_laws.specs.EmailsInData.{is_email}

-- a leaf with a code, named for an email literal
pub record IsEmailLeaf (f : Forest) : Type 0 where
  pub name : Name
  pub first : Code
  pub more : List Code
  pub is : f ≡ leaf_then name None (first ∷ more) empty
  pub named : is_email name ≡ true

email-name : (before : List Code) → is_email (email_protocol before).0 ≡ true
unfolding email_protocol
email-name [] = refl
email-name (c ∷ cs) = grind arith

email-leaf : (name : Name) (xs : List Code) (at : Code) (ys : List Code) → is_email name ≡ true →
    IsEmailLeaf (leaf name (xs ++ at ∷ ys))
email-leaf name [] at ys h = record { name = name; first = at; more = ys; is = refl; named = h }
email-leaf name (x ∷ xs) at ys h = record { name = name; first = x; more = xs ++ at ∷ ys; is = refl; named = h }

abbrev pub AnswerIsEmail : Option (List Code × Forest × List Code) → Type 0
AnswerIsEmail None = Unit {0}
AnswerIsEmail (Some r) = IsEmailLeaf r.1

pub answer-email : (before : List Code) (at : Code) (after : List Code) → AnswerIsEmail (email_at before at after)
unfolding email_at
answer-email before at after = grind (arith, email-leaf, email-name)
