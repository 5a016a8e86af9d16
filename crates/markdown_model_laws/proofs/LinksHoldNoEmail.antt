-- No email literal stands in a link or an autolink: none stands in the tree before they are found, they are not sought in links, and an autolink holds no data.
use Rattle.std.proofs.Common.{◌≡◌, ℕ, suc, Bool, true, false, ◌&&◌, ◌||◌, not, List, [], ◌∷◌, refl, None, arith}
use Rattle.std.proofs.lemmas.Bool.{both_ways, and_parts, or_parts, or_from, and_from, not-true}
use Rattle.markdown_model.proofs.GivenNames.{pair-named}
use Rattle.markdown_event.specs.declared.event.Name.{Name}
use Rattle.markdown_event.specs.declared.event.Point.{Point}
use Rattle.markdown_content.specs.Codes.{Code}
use Rattle.markdown_content.specs.Tree.{Forest, empty, leaf_then, group_then, leaf, ◌⊕◌, leaf_codes}
use Rattle.markdown_model.specs.CodeTests.{is_empty}
use Rattle.markdown_model.specs.Elements.{string_elements_of}
use Rattle.markdown_model.specs.GfmEmailLiteral.{with_emails}
use Rattle.markdown_model.specs.BracketGroups.{Token, nested, loose, pair_names, pair_group, run_tokens, assembled, tokens_of, paired}
use Rattle.markdown_model.specs.Laws.{is_run}
use Rattle.markdown_model.specs.InlineTree.{finished_string, string_tree}
use Rattle.markdown_model.specs.Pairs.{Pair, pair_list}
use Rattle.markdown_model.specs.Passes.{HardBreaks, breaks, no_breaks, merged, trimmed, with_emails_apart, labels_of}
use Rattle.markdown_model.specs.Runs.{Run, run_of, runs_of}
use Rattle.markdown_model.specs.Setting.{Setting, rules, within}
use Rattle.markdown_model_laws.specs.EmailsInData.{is_email, holds_email, HasPlainLinks, LinksHoldNoEmail}
use Rattle.markdown_model_laws.specs.TreesFilled.{is_label_text}
use Rattle.markdown_model_laws.specs.MarkersHeld.{is_data}
use Rattle.markdown_model_laws.specs.PairGroups.{is_pair}
use Rattle.markdown_model_laws.proofs.EachPass.{labels_in, pairs_in, unmailed, text-has}
use Rattle.markdown_model_laws.proofs.MadeConstructs.{is_autolink, is_sealed, is_shut, is_single, reaches, made}
use Rattle.markdown_model_laws.proofs.MadeElements.{made-text-labels, made-string-labels}
use Rattle.markdown_model.proofs.PairGroupFacts.{Any, any-parts, HasWord, run-has, assembled-has}
use Rattle.markdown_model.proofs.PassedTrees.{HoldsByParts, walks-row, walks-merged, walks-trimmed, trimmed_data-has, with_emails-has}
use Rattle.markdown_model.proofs.BracketGroupFacts.{WordHas, joined-has, nested-has, word-append}

-- Trees without email literals, whose autolinks hold leaves alone, none of them data or a run.

abbrev seals : Forest → Bool
seals empty = true
seals (leaf_then name link cs rest) = seals rest
seals (group_then name enter exit inside rest) = is_shut name inside && (seals inside && seals rest)

abbrev SealsNoEmail : Forest → Type 0
SealsNoEmail f = (holds_email f ≡ false) × (seals f ≡ true)

abbrev IsSealed : Forest → Type 0
IsSealed f = is_sealed f ≡ true

sealed : HoldsByParts IsSealed (λ name link cs. not (is_data name || is_run name) ≡ true) (λ name a b inside. ⊥)
sealed = grind (arith, and_parts, and_from, both_ways)

plain-leaf : (name : Name) (cs : List Code) → is_email name ≡ false → SealsNoEmail (leaf name cs)
plain-leaf name [] h = (refl, refl)
plain-leaf name (c ∷ cs) h = (or_from (is_email name) false h refl, refl)

-- the parts of a group
group-parts : (name : Name) (enter exit : Point) (inside rest : Forest) →
    SealsNoEmail (group_then name enter exit inside rest) → (is_shut name inside ≡ true) × SealsNoEmail inside × SealsNoEmail rest
group-parts name enter exit inside rest h = grind (arith, or_parts, and_parts)

is-plain : HoldsByParts SealsNoEmail (λ name link cs. is_email name ≡ false) (λ name a b inside. is_shut name inside ≡ true)
is-plain = grind (arith, or_parts, or_from, group-parts, and_from)

plain-join : (a b : Forest) → SealsNoEmail a → SealsNoEmail b → SealsNoEmail (a ⊕ b)
plain-join a b h k = walks-row is-plain a b h k

plain-group : (name : Name) (enter exit : Point) (f : Forest) → is_shut name f ≡ true → SealsNoEmail f →
    SealsNoEmail (group_then name enter exit f empty)
plain-group name enter exit f k h = is-plain.group_to name enter exit f empty k h (refl, refl)

-- what labels are made of
plain-made : (f : Forest) → made true f ≡ true → SealsNoEmail f
plain-made empty h = (refl, refl)
plain-made (leaf_then name link cs rest) h =
    let p = and_parts (not (is_empty cs)) (not (is_email name) && made true rest) h in
    let q = and_parts (not (is_email name)) (made true rest) p.1 in
    let r = plain-made rest q.1 in
    (or_from (is_email name) (holds_email rest) (not-true (is_email name) q.0) r.0, r.1)
plain-made (group_then name enter exit inside rest) h =
    let p = and_parts (is_label_text name || reaches enter exit inside) (is_single name inside && (made true inside && made true rest)) h in
    let q = and_parts (is_single name inside) (made true inside && made true rest) p.1 in
    let r = and_parts (made true inside) (made true rest) q.1 in
    plain-join (group_then name enter exit inside empty) rest (plain-group name enter exit inside (and_parts (not (is_pair name)) (is_shut name inside) q.0).1 (plain-made inside r.0)) (plain-made rest r.1)

-- Pairs.

sequence-plain : (marker size : ℕ) → is_email (pair_names marker size).1 ≡ false
sequence-plain = pair-named (λ names. is_email names.1 ≡ false) refl refl refl

pair-open : (marker size : ℕ) → is_autolink (pair_names marker size).0 ≡ false
pair-open = pair-named (λ names. is_autolink names.0 ≡ false) refl refl refl

text-open : (marker size : ℕ) → is_autolink (pair_names marker size).2 ≡ false
text-open = pair-named (λ names. is_autolink names.2 ≡ false) refl refl refl

open-shut : (name : Name) (f : Forest) → is_autolink name ≡ false → is_shut name f ≡ true
open-shut name f h = λ i. not (h i) || is_sealed f

plain-data : (cs : List Code) → Any cs → SealsNoEmail (leaf Name.Data cs)
plain-data cs h = plain-leaf Name.Data cs refl

abbrev PlainWord : List Token → Type 0
PlainWord w = HasWord SealsNoEmail Any plain-data w

plain-assembled : (w : List Token) → PlainWord w → SealsNoEmail (assembled w)
plain-assembled w h =
    assembled-has SealsNoEmail Any plain-data (refl, refl) plain-join (λ m n cs _. plain-leaf _ cs (sequence-plain m n)) (λ m n a b f k. plain-group _ a b f (open-shut _ f (pair-open m n)) k)
    (λ m n a b f k. plain-group _ a b f (open-shut _ f (text-open m n)) k) w h

abbrev Never : List Code → Type 0
Never cs = ⊥

sealed-assembled : (w : List Token) → WordHas IsSealed Never Never w → IsSealed (assembled w)
sealed-assembled w h =
    joined-has IsSealed refl (walks-row sealed) (nested pair_group loose loose w)
    (nested-has IsSealed Never Never pair_group loose loose (λ o inside c k l m. absurd k) (λ o k. absurd k) (λ c k. absurd k) w h)

module _ (s : Setting) (pairs_of : List Run → List Pair) where
  -- a row of such leaves has no bracket
  sealed-tokens : (f : Forest) (pairs : List Pair) (n : ℕ) → IsSealed f →
      WordHas IsSealed Never Never (tokens_of s pairs_of f pairs n)
  unfolding tokens_of
  sealed-tokens empty pairs n h = tt
  sealed-tokens (leaf_then Name.AttentionSequence link cs rest) pairs n h = cc
  sealed-tokens (leaf_then name link cs rest) pairs n h =
      let p = and_parts (not (is_data name || is_run name)) (is_sealed rest) h in
      (and_from (not (is_data name || is_run name)) true p.0 refl, sealed-tokens rest pairs n p.1)
  sealed-tokens (group_then name enter exit inside rest) pairs n h = cc

  shut-tokens : (name : Name) (f : Forest) (pairs : List Pair) (n : ℕ) → is_shut name f ≡ true →
      is_shut name (assembled (tokens_of s pairs_of f pairs n)) ≡ true
  shut-tokens name f pairs n h = grind (arith, sealed-assembled, sealed-tokens)

  plain-tokens : (f : Forest) (pairs : List Pair) (n : ℕ) → SealsNoEmail f → PlainWord (tokens_of s pairs_of f pairs n)
  unfolding tokens_of
  plain-tokens empty pairs n h = tt
  plain-tokens (leaf_then Name.AttentionSequence link cs rest) pairs n h =
      word-append SealsNoEmail Any Any (run_tokens pairs n (run_of s cs)) (tokens_of s pairs_of rest pairs (suc n)) (run-has SealsNoEmail Any plain-data any-parts pairs n (run_of s cs) tt) (plain-tokens rest pairs (suc n) h)
  plain-tokens (leaf_then name link cs rest) pairs n h =
      let p = or_parts (is_email name) (holds_email rest) h.0 in
      ((or_from (is_email name) false p.0 refl, refl), plain-tokens rest pairs n (p.1, h.1))
  plain-tokens (group_then name enter exit inside rest) pairs n h =
      let p = group-parts name enter exit inside rest h in
      let own : List Pair = pairs_of (runs_of s inside) in (
        plain-group name enter exit (assembled (tokens_of s pairs_of inside own 0)) (shut-tokens name inside own 0 p.0) (plain-assembled (tokens_of s pairs_of inside own 0) (plain-tokens inside own 0 p.1)),
        plain-tokens rest pairs n p.2,
      )

  plain-paired : (f : Forest) → SealsNoEmail f → SealsNoEmail (paired s pairs_of f)
  unfolding paired
  plain-paired f h =
      plain-assembled (tokens_of s pairs_of f (pairs_of (runs_of s f)) 0) (plain-tokens f (pairs_of (runs_of s f)) 0 h)

-- Merging and trimming.

sealed-merged : (f : Forest) → IsSealed f → IsSealed (merged f)
sealed-merged f h = walks-merged sealed (λ cs ds k _. k) (λ name a b inside _ g. g) f h

-- where such leaves are kept so, so is what an autolink holds
still-shut : (name : Name) (f g : Forest) → (IsSealed f → IsSealed g) → is_shut name f ≡ true → is_shut name g ≡ true
still-shut name f g more h = grind arith

plain-merged : (f : Forest) → SealsNoEmail f → SealsNoEmail (merged f)
plain-merged f h =
    walks-merged is-plain (λ cs ds _ _. refl) (λ name a b inside _ g. still-shut name inside (merged inside) (sealed-merged inside) g) f h

sealed-trimmed : (hard : HardBreaks) (front whole : Bool) (f : Forest) → IsSealed f → IsSealed (trimmed hard front whole f)
sealed-trimmed hard front whole f h =
    walks-trimmed sealed hard (λ x y z cs k. absurd (both_ways false refl k)) (λ name a b inside _ g. g) front whole f h

plain-trimmed : (hard : HardBreaks) (front whole : Bool) (f : Forest) → SealsNoEmail f → SealsNoEmail (trimmed hard front whole f)
plain-trimmed hard front whole f h =
    walks-trimmed is-plain hard
    (λ x y z cs _. trimmed_data-has SealsNoEmail plain-join (λ ds. plain-data ds tt) (λ ds. plain-leaf Name.HardBreakTrailing ds refl) (λ ds. plain-leaf Name.SpaceOrTab ds refl) x y z cs)
    (λ name a b inside _ g. still-shut name inside (trimmed hard false false inside) (sealed-trimmed hard false false inside) g) front whole f h

-- Emails.

links-join : (a b : Forest) → HasPlainLinks a → HasPlainLinks b → HasPlainLinks (a ⊕ b)
links-join empty b h k = k
links-join (leaf_then name link cs rest) b h k = links-join rest b h k
links-join (group_then Name.Link enter exit inside rest) b h k = (h.0, links-join rest b h.1 k)
links-join (group_then Name.Autolink enter exit inside rest) b h k = (h.0, links-join rest b h.1 k)
links-join (group_then name enter exit inside rest) b h k = (h.0, links-join rest b h.1 k)

links-leaf : (name : Name) (cs : List Code) → HasPlainLinks (leaf name cs)
links-leaf name [] = tt
links-leaf name (c ∷ cs) = tt

links-emails : (cs : List Code) → HasPlainLinks (with_emails cs)
links-emails cs = with_emails-has HasPlainLinks links-join (links-leaf Name.Data) (λ before ds. links-leaf _ ds) cs

-- no data stands in an autolink, so no email is found there
sealed-mailed : (f : Forest) → IsSealed f → holds_email f ≡ false → holds_email (with_emails_apart f) ≡ false
unfolding with_emails_apart
sealed-mailed empty h k = refl
sealed-mailed (leaf_then Name.Data None cs rest) h k = cc
sealed-mailed (leaf_then name link cs rest) h k =
    let p = or_parts (is_email name) (holds_email rest) k in
    or_from (is_email name) (holds_email (with_emails_apart rest)) p.0 (sealed-mailed rest (and_parts (not (is_data name || is_run name)) (is_sealed rest) h).1 p.1)
sealed-mailed (group_then name enter exit inside rest) h k = cc

links-mailed : (f : Forest) → SealsNoEmail f → HasPlainLinks (with_emails_apart f)
unfolding with_emails_apart
links-mailed empty h = tt
links-mailed (leaf_then Name.Data None cs rest) h = grind (arith, links-join, links-emails, links-mailed rest h)
links-mailed (leaf_then name link cs rest) h =
    links-mailed rest ((or_parts (is_email name) (holds_email rest) h.0).1, h.1)
links-mailed (group_then Name.Link enter exit inside rest) h =
    let p = group-parts Name.Link enter exit inside rest h in (p.1.0, links-mailed rest p.2)
links-mailed (group_then Name.Autolink enter exit inside rest) h =
    let p = group-parts Name.Autolink enter exit inside rest h in (sealed-mailed inside p.0 p.1.0, links-mailed rest p.2)
links-mailed (group_then name enter exit inside rest) h =
    let p = group-parts name enter exit inside rest h in (links-mailed inside p.1, links-mailed rest p.2)

links-plain : (f : Forest) → SealsNoEmail f → HasPlainLinks f
links-plain empty h = tt
links-plain (leaf_then name link cs rest) h =
    links-plain rest ((or_parts (is_email name) (holds_email rest) h.0).1, h.1)
links-plain (group_then Name.Link enter exit inside rest) h =
    let p = group-parts Name.Link enter exit inside rest h in (p.1.0, links-plain rest p.2)
links-plain (group_then Name.Autolink enter exit inside rest) h =
    let p = group-parts Name.Autolink enter exit inside rest h in (p.1.0, links-plain rest p.2)
links-plain (group_then name enter exit inside rest) h =
    let p = group-parts name enter exit inside rest h in (links-plain inside p.1, links-plain rest p.2)

pub links_hold_no_email : LinksHoldNoEmail
unfolding string_tree finished_string
links_hold_no_email s cs =
    (text-has HasPlainLinks s cs (links-mailed (unmailed s cs) is_plain) (links-plain (unmailed s cs) is_plain), (plain-trimmed (no_breaks (rules s)) false false (merged plain) (plain-merged plain (plain-made plain (made-string-labels s cs)))).0)
  where
    plain : Forest
    plain = labels_of (string_elements_of s cs)

    is_plain : SealsNoEmail (unmailed s cs)
    is_plain =
        plain-trimmed (breaks s) true true (merged (pairs_in s cs))
        (plain-merged (pairs_in s cs) (plain-paired (within (leaf_codes (labels_in s cs)) s) (pair_list s) (labels_in s cs) (plain-made (labels_in s cs) (made-text-labels s cs))))
