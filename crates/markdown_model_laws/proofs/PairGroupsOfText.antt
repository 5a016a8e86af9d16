-- The groups of pairs in the inline tree of a text.
use Rattle.std.proofs.Common.{◌≡◌, ℕ, ◌+◌, Bool, true, false, ◌&&◌, ◌||◌, not, List, [], ◌∷◌, length, if◌then◌else◌, refl, sym, ap, subst, ◌∙◌, arith, None, rules}
use Rattle.std.proofs.lemmas.Bool.{and_parts}
use Rattle.markdown_event.specs.declared.event.Name.{Name}
use Rattle.markdown_event.specs.declared.event.Point.{Point}
use Rattle.markdown_content.specs.Codes.{Code}
use Rattle.markdown_content.specs.Tree.{Forest, empty, leaf_then, group_then, leaf, ◌⊕◌, leaf_codes}
use Rattle.markdown_model.specs.CodeTests.{is_empty}
use Rattle.markdown_model.specs.GfmEmailLiteral.{with_emails}
use Rattle.markdown_model.specs.Passes.{HardBreaks, breaks_where, breaks, data_onto, merged, begins_line_ending, is_nothing, trimmed_data, trimmed, with_emails_apart}
use Rattle.markdown_model.specs.InlineTree.{label_tree, text_tree, pair_count}
use Rattle.markdown_model.proofs.PassedTrees.{walks-merged, walks-trimmed, walks-mailed, trimmed_data-has, with_emails-has}
use Rattle.markdown_model_laws.specs.EmailsInData.{is_email}
use Rattle.markdown_model_laws.specs.TreesFilled.{is_label_text}
use Rattle.markdown_model_laws.specs.PairGroups.{is_pair, is_sequence, pair_groups, HasSides, EachPairHas, AreOfPair, EachPairIsAGroup, PairsAreEven, PairsTakeTheirMarkers}
use Rattle.markdown_model_laws.proofs.EachPass.{labels_in, pairs_in, unmailed, text-has}
use Rattle.markdown_model_laws.proofs.FilledTrees.{made-filled}
use Rattle.markdown_model_laws.proofs.MadeConstructs.{is_shut, is_single, reaches, made}
use Rattle.markdown_model_laws.proofs.MadeElements.{made-text-labels}
use Rattle.markdown_model_laws.proofs.PairGroupLaws.{groups-leaf, groups-join, groups-paired}
use Rattle.markdown_model_laws.proofs.PairSides.{right-paired, pairs, pairs-join}
use Rattle.markdown_model_laws.proofs.LabelTreeRuns.{apart-text-labels}
use Rattle.markdown_model.specs.Setting.{Setting, within}
use Rattle.markdown_model.proofs.PairListsWithin.{lists-within, whole-pairs}
use Rattle.markdown_model.specs.BracketGroups.{paired}
use Rattle.markdown_model.specs.Pairs.{pair_list}

-- The passes keep the groups of pairs.

groups-onto : (cs : List Code) (f : Forest) → pair_groups (data_onto cs f) ≡ pair_groups f
groups-onto cs (leaf_then Name.Data None more rest) = refl
groups-onto cs rest = refl

groups-merged : (f : Forest) → pair_groups (merged f) ≡ pair_groups f
unfolding merged
groups-merged empty = refl
groups-merged (leaf_then Name.Data None cs rest) = groups-onto cs (merged rest) ∙ groups-merged rest
groups-merged (leaf_then name link cs rest) = groups-merged rest
groups-merged (group_then name enter exit inside rest) =
    λ i. (if is_pair name then 1 else 0) + groups-merged inside i + groups-merged rest i

groups-both : (a b : Forest) → pair_groups a ≡ 0 → pair_groups b ≡ 0 → pair_groups (a ⊕ b) ≡ 0
groups-both a b h k = omega (arith, groups-join a b, h, k)

groups-data : (front back : Bool) (hard : HardBreaks) (cs : List Code) → pair_groups (trimmed_data front back hard cs) ≡ 0
groups-data front back hard cs = grind (arith, groups-both, groups-leaf)

groups-trimmed : (hard : HardBreaks) (front whole : Bool) (f : Forest) → pair_groups (trimmed hard front whole f) ≡ pair_groups f
unfolding trimmed
groups-trimmed hard front whole empty = refl
groups-trimmed hard front whole (leaf_then Name.Data None cs rest) =
    let back : Bool = begins_line_ending rest || (whole && is_nothing rest) in
    let ending : HardBreaks = breaks_where hard (begins_line_ending rest) in
    omega (arith, groups-join (trimmed_data front back ending cs) (trimmed hard false whole rest), groups-data front back ending cs, groups-trimmed hard false whole rest)
groups-trimmed hard front whole (leaf_then Name.LineEnding link cs rest) = groups-trimmed hard true whole rest
groups-trimmed hard front whole (leaf_then name link cs rest) = groups-trimmed hard false whole rest
groups-trimmed hard front whole (group_then name enter exit inside rest) =
    λ i. (if is_pair name then 1 else 0) + groups-trimmed hard false false inside i + groups-trimmed hard false whole rest i

groups-emails : (cs : List Code) → pair_groups (with_emails cs) ≡ 0
groups-emails cs =
    with_emails-has (λ t. pair_groups t ≡ 0) groups-both (groups-leaf Name.Data) (λ before ds. groups-leaf _ ds) cs

groups-mailed : (f : Forest) → pair_groups (with_emails_apart f) ≡ pair_groups f
unfolding with_emails_apart
groups-mailed empty = refl
groups-mailed (leaf_then Name.Data None cs rest) = grind (arith, groups-join, groups-emails, groups-mailed rest)
groups-mailed (leaf_then name link cs rest) = groups-mailed rest
groups-mailed (group_then Name.Link enter exit inside rest) = ap (λ n. 0 + pair_groups inside + n) (groups-mailed rest)
groups-mailed (group_then name enter exit inside rest) =
    λ i. (if is_pair name then 1 else 0) + groups-mailed inside i + groups-mailed rest i

-- The tree of labels has none.

not-pair : (b : Bool) → not b ≡ true → ◌≡◌ {A = ℕ} (if b then 1 else 0) 0
not-pair true h = cc
not-pair false h = refl

pub no-groups : (f : Forest) → made true f ≡ true → pair_groups f ≡ 0
no-groups empty h = refl
no-groups (leaf_then name link cs rest) h =
    no-groups rest (and_parts (not (is_email name)) (made true rest) (and_parts (not (is_empty cs)) (not (is_email name) && made true rest) h).1).1
no-groups (group_then name enter exit inside rest) h =
    let p = and_parts (is_label_text name || reaches enter exit inside) (is_single name inside && (made true inside && made true rest)) h in
    let q = and_parts (is_single name inside) (made true inside && made true rest) p.1 in
    let r = and_parts (made true inside) (made true rest) q.1 in
    omega (arith, not-pair (is_pair name) (and_parts (not (is_pair name)) (is_shut name inside) q.0).0, no-groups inside r.0, no-groups rest r.1)

pub each_pair_is_a_group : EachPairIsAGroup
unfolding label_tree
each_pair_is_a_group s cs =
    text-has (λ t. pair_groups t ≡ pair_count s (labels_in s cs)) s cs (groups-mailed (unmailed s cs) ∙ kept) kept
  where
    kept : pair_groups (unmailed s cs) ≡ pair_count s (labels_in s cs)
    kept = grind (arith, groups-trimmed, groups-merged, groups-paired, no-groups, made-text-labels)

-- The passes keep the sides of pairs.

not-data : {A : Type 0} → is_sequence Name.Data ≡ true → A
not-data h = cc

not-ending : {A : Type 0} → is_sequence Name.LineEnding ≡ true → A
not-ending h = cc

module _ (P : List Code → List Code → Type 0) where
  -- two sequences with a text between them
  record Sides (f : Forest) : Type 0 where
    name : Name
    front : List Code
    back : List Code
    text : Name
    enter : Point
    exit : Point
    inside : Forest
    is : f ≡ leaf_then name None front (group_then text enter exit inside (leaf_then name None back empty))
    sequence : is_sequence name ≡ true
    said : P front back

  sides-of : (f : Forest) → HasSides P f → Sides f
  sides-of f h0 = grind arith

  -- a pass that keeps sequences, and groups whatever it makes of what they have inside
  record KeepsSides (pass : Forest → Forest) : Type 0 where
    sequence : (name : Name) (cs : List Code) (rest : Forest) → is_sequence name ≡ true →
        pass (leaf_then name None cs rest) ≡ leaf_then name None cs (pass rest)
    group : (name : Name) (enter exit : Point) (inside rest : Forest) →
        (other : Forest) × (pass (group_then name enter exit inside rest) ≡ group_then name enter exit other (pass rest))
    nothing : pass empty ≡ empty

  sides-kept : (pass : Forest → Forest) → KeepsSides pass → (f : Forest) → HasSides P f → HasSides P (pass f)
  sides-kept pass k f h =
      let x = sides-of f h in
      let g = k.group x.text x.enter x.exit x.inside (leaf_then x.name None x.back empty) in
      subst (HasSides P)
      (sym
      (ap pass x.is ∙ k.sequence x.name x.front (group_then x.text x.enter x.exit x.inside (leaf_then x.name None x.back empty)) x.sequence
      ∙ ap (leaf_then x.name None x.front) (g.1 ∙ ap (group_then x.text x.enter x.exit g.0) (k.sequence x.name x.back empty x.sequence ∙ ap (leaf_then x.name None x.back) k.nothing))))
      (x.sequence, refl, x.said)

  pairs-leaf : (name : Name) (cs : List Code) → EachPairHas P (leaf name cs)
  pairs-leaf name [] = tt
  pairs-leaf name (c ∷ cs) = tt

  merged-keeps : KeepsSides merged
  unfolding merged
  merged-keeps = record { sequence = sequence; group = λ name enter exit inside rest. (merged inside, refl); nothing = refl }
    where
      sequence : (name : Name) (cs : List Code) (rest : Forest) → is_sequence name ≡ true →
          merged (leaf_then name None cs rest) ≡ leaf_then name None cs (merged rest)
      sequence Name.Data cs rest h = not-data h
      sequence name cs rest h = refl

  pairs-merged : (f : Forest) → EachPairHas P f → EachPairHas P (merged f)
  pairs-merged f h =
      walks-merged (pairs P) (λ cs ds _ _. tt) (λ name a b inside _ g e. sides-kept merged merged-keeps inside (g e)) f h

  -- a pair's own row is trimmed at neither end
  trimmed-keeps : (hard : HardBreaks) → KeepsSides (trimmed hard false false)
  unfolding trimmed
  trimmed-keeps hard = record { sequence = sequence; group = λ name enter exit inside rest. (trimmed hard false false inside, refl); nothing = refl }
    where
      sequence : (name : Name) (cs : List Code) (rest : Forest) → is_sequence name ≡ true →
          trimmed hard false false (leaf_then name None cs rest) ≡ leaf_then name None cs (trimmed hard false false rest)
      sequence name cs rest h = grind (arith, not-data, not-ending)

  pairs-trimmed : (hard : HardBreaks) (front whole : Bool) (f : Forest) → EachPairHas P f → EachPairHas P (trimmed hard front whole f)
  pairs-trimmed hard front whole f h =
      walks-trimmed (pairs P) hard (λ x y z cs _. trimmed_data-has (EachPairHas P) (pairs-join P) (pairs-leaf Name.Data) (pairs-leaf Name.HardBreakTrailing) (pairs-leaf Name.SpaceOrTab) x y z cs)
      (λ name a b inside _ g e. sides-kept (trimmed hard false false) (trimmed-keeps hard) inside (g e)) front whole f h

  mailed-keeps : KeepsSides with_emails_apart
  unfolding with_emails_apart
  mailed-keeps = record { sequence = sequence; group = group; nothing = refl }
    where
      sequence : (name : Name) (cs : List Code) (rest : Forest) → is_sequence name ≡ true →
          with_emails_apart (leaf_then name None cs rest) ≡ leaf_then name None cs (with_emails_apart rest)
      sequence Name.Data cs rest h = not-data h
      sequence name cs rest h = refl

      group : (name : Name) (enter exit : Point) (inside rest : Forest) →
          (other : Forest) × (with_emails_apart (group_then name enter exit inside rest) ≡ group_then name enter exit other (with_emails_apart rest))
      group Name.Link enter exit inside rest = (inside, refl)
      group name enter exit inside rest = (with_emails_apart inside, refl)

  pairs-mailed : (f : Forest) → EachPairHas P f → EachPairHas P (with_emails_apart f)
  pairs-mailed f h =
      walks-mailed (pairs P) (λ cs _. with_emails-has (EachPairHas P) (pairs-join P) (pairs-leaf Name.Data) (λ before ds. pairs-leaf _ ds) cs)
      (λ name a b inside _ g e. sides-kept with_emails_apart mailed-keeps inside (g e)) f h

-- What is said of the sides of pairs may be weakened.

module _ (P R : List Code → List Code → Type 0) (weaker : (front back : List Code) → P front back → R front back) where
  sides-weaker : (f : Forest) → HasSides P f → HasSides R f
  sides-weaker f h = grind arith

  pairs-weaker : (f : Forest) → EachPairHas P f → EachPairHas R f
  pairs-weaker empty h = tt
  pairs-weaker (leaf_then name link cs rest) h = pairs-weaker rest h
  pairs-weaker (group_then name enter exit inside rest) h = grind (arith, sides-weaker, pairs-weaker inside h.1, pairs-weaker rest h.2)

pub pairs_take_their_markers : PairsTakeTheirMarkers
unfolding label_tree
pairs_take_their_markers s cs = text-has (EachPairHas P) s cs (pairs-mailed P (unmailed s cs) kept) kept
  where
    labels : Forest
    labels = labels_in s cs

    P : List Code → List Code → Type 0
    P front back = AreOfPair s labels front back

    there : Setting
    there = within (leaf_codes labels) s

    right : EachPairHas (AreOfPair there labels) (paired there (pair_list there) labels)
    right = grind (arith, right-paired, no-groups, made-text-labels, made-filled, apart-text-labels)

    same_lists : (front back : List Code) → AreOfPair there labels front back → P front back
    same_lists front back h = search (rules, lists-within)

    kept : EachPairHas P (unmailed s cs)
    kept =
        pairs-trimmed P (breaks s) true true (merged (pairs_in s cs))
        (pairs-merged P (pairs_in s cs) (subst (EachPairHas P) (sym (whole-pairs s labels)) (pairs-weaker (AreOfPair there labels) P same_lists (paired there (pair_list there) labels) right)))

pub pairs_are_even : PairsAreEven
pairs_are_even s cs =
    pairs-weaker (AreOfPair s (label_tree s cs)) (λ front back. length front ≡ length back) (λ front back h. h.opener_size ∙ sym h.closer_size) (text_tree s cs) (pairs_take_their_markers s cs)
