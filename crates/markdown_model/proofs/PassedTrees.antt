-- What holds of trees of which each leaf and each group satisfies something, and what the passes make of them.
use Rattle.std.proofs.Common.{ℕ, zero, suc, Bool, true, false, ◌&&◌, ◌||◌, not, List, [], ◌∷◌, ◌++◌, length, reverse, Option, Some, None}
use Rattle.markdown_event.specs.declared.event.Name.{Name}
use Rattle.markdown_content.specs.Codes.{Code, is_blank}
use Rattle.markdown_content.specs.Tree.{Forest, empty, leaf_then, group_then, leaf, ◌⊕◌}
use Rattle.markdown_event.specs.declared.event.Content.{Content}
use Rattle.markdown_event.specs.declared.event.Point.{Point}
use Rattle.markdown_model.specs.Grammar.{span}
use Rattle.markdown_model.specs.GfmEmailLiteral.{email_at, email_leaves, with_emails, is_local, is_xmpp, email_protocol, email_domain}
use Rattle.markdown_model.specs.Passes.{HardBreaks, breaks_where, data_onto, merged, begins_line_ending, is_nothing, blank_name, trimmed_data, trimmed, with_emails_apart}
use Rattle.markdown_model.proofs.GivenNames.{blank-named}

-- What passes make of one data is a row of leaves: what holds of such leaves and of two rows holds of it.
module _ (P : Forest → Type 0) (row : (t u : Forest) → P t → P u → P (t ⊕ u)) (plain : (cs : List Code) → P (leaf Name.Data cs)) where
  pub trimmed_data-has : ((cs : List Code) → P (leaf Name.HardBreakTrailing cs)) →
      ((cs : List Code) → P (leaf Name.SpaceOrTab cs)) → (front back : Bool) (hard : HardBreaks) (cs : List Code) →
      P (trimmed_data front back hard cs)
  trimmed_data-has break blank front back hard cs =
      row (leaf Name.SpaceOrTab lead.0) (leaf Name.Data lead.1 ⊕ behind) (blank lead.0)
      (row (leaf Name.Data lead.1) behind (plain lead.1) (blank-named (λ name. P (leaf name (reverse cut.0))) (break (reverse cut.0)) (blank (reverse cut.0)) hard (reverse cut.0)))
    where
      cut : List Code × List Code
      cut = elim (back && not hard.keeps) [ true ↦ span is_blank (reverse cs) | false ↦ ([], reverse cs) ]

      lead : List Code × List Code
      lead = elim front [ true ↦ span is_blank (reverse cut.1) | false ↦ ([], reverse cut.1) ]

      behind : Forest
      behind = leaf (blank_name hard (reverse cut.0)) (reverse cut.0)

  module _ (literal : (before cs : List Code) → P (leaf (email_protocol before).0 cs)) where
    abbrev AnswerHas : Option (List Code × Forest × List Code) → Type 0
    AnswerHas None = Unit {0}
    AnswerHas (Some r) = P r.1

    email_at-has : (before : List Code) (at : Code) (after : List Code) → AnswerHas (email_at before at after)
    unfolding email_at
    email_at-has before at after = by_test _
      where
        by_test : (b : Bool) →
            let local : List Code × List Code = span is_local before in
            let protocol : Name × List Code × List Code = email_protocol local.1 in
            let domain : List Code × List Code = email_domain (is_xmpp protocol.0) after in
            AnswerHas (elim b [ true ↦ Some (reverse protocol.2, leaf protocol.0 (reverse (local.0 ++ protocol.1) ++ at ∷ domain.0), domain.1) | false ↦ None ])
        by_test true = literal (span is_local before).1 _
        by_test false = tt

    emails-have : (n : ℕ) (before cs : List Code) → P (email_leaves n before cs)
    unfolding email_leaves
    emails-have n before [] = plain (reverse before)
    emails-have zero before (c ∷ cs) = plain (reverse before ++ c ∷ cs)
    emails-have (suc n) before (c ∷ cs) = by_answer (email_at before c cs) (email_at-has before c cs) (emails-have n)
      where
        by_answer : (r : Option (List Code × Forest × List Code)) → AnswerHas r → ((front ds : List Code) → P (email_leaves n front ds))
            → P (elim r as (λ _. Forest) [ None ↦ email_leaves n (c ∷ before) cs | Some x ↦ leaf Name.Data x.0 ⊕ x.1 ⊕ email_leaves n [] x.2 ])
        by_answer None h more = more (c ∷ before) cs
        by_answer (Some x) h more =
            row (leaf Name.Data x.0) (x.1 ⊕ email_leaves n [] x.2) (plain x.0) (row x.1 (email_leaves n [] x.2) h (more [] x.2))

    pub with_emails-has : (cs : List Code) → P (with_emails cs)
    unfolding with_emails
    with_emails-has cs = emails-have (length cs) [] cs

-- It holds of a tree where one thing holds of each leaf, and another of each group.
pub record HoldsByParts (P : Forest → Type 0) (L : Name → Option Content → List Code → Type 0) (G : Name → Point → Point → Forest → Type 0) : Type 0 where
  pub none : P empty
  pub leaf_of : (name : Name) (link : Option Content) (cs : List Code) (rest : Forest) →
      P (leaf_then name link cs rest) → L name link cs × P rest
  pub leaf_to : (name : Name) (link : Option Content) (cs : List Code) (rest : Forest) → L name link cs → P rest →
      P (leaf_then name link cs rest)
  pub group_of : (name : Name) (a b : Point) (inside rest : Forest) → P (group_then name a b inside rest) →
      G name a b inside × P inside × P rest
  pub group_to : (name : Name) (a b : Point) (inside rest : Forest) → G name a b inside → P inside → P rest →
      P (group_then name a b inside rest)

module _ {P : Forest → Type 0} {L : Name → Option Content → List Code → Type 0} {G : Name → Point → Point → Forest → Type 0} (w : HoldsByParts P L G) where
  pub walks-row : (t u : Forest) → P t → P u → P (t ⊕ u)
  walks-row empty u h k = k
  walks-row (leaf_then name link cs rest) u h k =
      let r = w.leaf_of name link cs rest h in w.leaf_to name link cs (rest ⊕ u) r.0 (walks-row rest u r.1 k)
  walks-row (group_then name a b inside rest) u h k =
      let r = w.group_of name a b inside rest h in w.group_to name a b inside (rest ⊕ u) r.0 r.1 (walks-row rest u r.2 k)

  -- a pass keeps what is said of groups
  abbrev Keeps : (Forest → Forest) → Type 0
  Keeps pass = (name : Name) (a b : Point) (inside : Forest) → P inside → G name a b inside → G name a b (pass inside)

  module _ (joins : (cs ds : List Code) → L Name.Data None cs → L Name.Data None ds → L Name.Data None (cs ++ ds)) (keeps : Keeps merged) where
    walks-onto : (cs : List Code) (t : Forest) → L Name.Data None cs → P t → P (data_onto cs t)
    walks-onto cs (leaf_then Name.Data None more rest) h k =
        let r = w.leaf_of Name.Data None more rest k in w.leaf_to Name.Data None (cs ++ more) rest (joins cs more h r.0) r.1
    walks-onto cs rest h k = w.leaf_to Name.Data None cs rest h k

    pub walks-merged : (t : Forest) → P t → P (merged t)
    unfolding merged
    walks-merged empty h = h
    walks-merged (leaf_then Name.Data None cs rest) h =
        let r = w.leaf_of Name.Data None cs rest h in walks-onto cs (merged rest) r.0 (walks-merged rest r.1)
    walks-merged (leaf_then name link cs rest) h =
        let r = w.leaf_of name link cs rest h in w.leaf_to name link cs (merged rest) r.0 (walks-merged rest r.1)
    walks-merged (group_then name a b inside rest) h =
        let r = w.group_of name a b inside rest h in
        w.group_to name a b (merged inside) (merged rest) (keeps name a b inside r.1 r.0) (walks-merged inside r.1) (walks-merged rest r.2)

  module _ (hard : HardBreaks) (cuts : (front back : Bool) (hard : HardBreaks) (cs : List Code) → L Name.Data None cs → P (trimmed_data front back hard cs)) (keeps : Keeps (trimmed hard false false)) where
    pub walks-trimmed : (front whole : Bool) (t : Forest) → P t → P (trimmed hard front whole t)
    unfolding trimmed
    walks-trimmed front whole empty h = h
    walks-trimmed front whole (leaf_then Name.Data None cs rest) h =
        let r = w.leaf_of Name.Data None cs rest h in
        walks-row (trimmed_data front (begins_line_ending rest || (whole && is_nothing rest)) (breaks_where hard (begins_line_ending rest)) cs) (trimmed hard false whole rest) (cuts front (begins_line_ending rest || (whole && is_nothing rest)) (breaks_where hard (begins_line_ending rest)) cs r.0) (walks-trimmed false whole rest r.1)
    walks-trimmed front whole (leaf_then Name.LineEnding link cs rest) h =
        let r = w.leaf_of Name.LineEnding link cs rest h in w.leaf_to Name.LineEnding link cs (trimmed hard true whole rest) r.0 (walks-trimmed true whole rest r.1)
    walks-trimmed front whole (leaf_then name link cs rest) h =
        let r = w.leaf_of name link cs rest h in w.leaf_to name link cs (trimmed hard false whole rest) r.0 (walks-trimmed false whole rest r.1)
    walks-trimmed front whole (group_then name a b inside rest) h =
        let r = w.group_of name a b inside rest h in
        w.group_to name a b (trimmed hard false false inside) (trimmed hard false whole rest) (keeps name a b inside r.1 r.0) (walks-trimmed false false inside r.1) (walks-trimmed false whole rest r.2)

  module _ (finds : (cs : List Code) → L Name.Data None cs → P (with_emails cs)) (keeps : Keeps with_emails_apart) where
    pub walks-mailed : (t : Forest) → P t → P (with_emails_apart t)
    unfolding with_emails_apart
    walks-mailed empty h = h
    walks-mailed (leaf_then Name.Data None cs rest) h =
        let r = w.leaf_of Name.Data None cs rest h in walks-row (with_emails cs) (with_emails_apart rest) (finds cs r.0) (walks-mailed rest r.1)
    walks-mailed (leaf_then name link cs rest) h =
        let r = w.leaf_of name link cs rest h in w.leaf_to name link cs (with_emails_apart rest) r.0 (walks-mailed rest r.1)
    walks-mailed (group_then Name.Link a b inside rest) h =
        let r = w.group_of Name.Link a b inside rest h in w.group_to Name.Link a b inside (with_emails_apart rest) r.0 r.1 (walks-mailed rest r.2)
    walks-mailed (group_then name a b inside rest) h =
        let r = w.group_of name a b inside rest h in
        w.group_to name a b (with_emails_apart inside) (with_emails_apart rest) (keeps name a b inside r.1 r.0) (walks-mailed inside r.1) (walks-mailed rest r.2)
