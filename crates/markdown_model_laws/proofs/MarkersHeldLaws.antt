-- Each marker of a run is a marker of a pair, data, or part of an email literal.
use Rattle.std.proofs.Common.{◌≡◌, ℕ, suc, ◌==◌, Bool, true, false, ◌&&◌, ◌||◌, List, [], ◌∷◌, ◌++◌, length, reverse, map, refl, sym, ap, subst, ◌∙◌, arith, append_assoc, append-nil, None}
use Rattle.std.specs.List.{list_all}
use Rattle.std.proofs.lemmas.Bool.{both_ways, and_parts}
use Rattle.std.proofs.lemmas.Bool.Decides.{nat_tests}
use Rattle.std.proofs.lemmas.List.{map-append, reverse-append}
use Rattle.std.proofs.lemmas.List.Folds.{list_all-append}
use Rattle.markdown_model.proofs.GivenNames.{pair-named, email-named}
use Rattle.markdown_model.proofs.BracketSums.{Adds, sum_of, sum-joined}
use Rattle.markdown_model.proofs.PairSums.{token_sum, token-append, sum-assembled, sum-run}
use Rattle.markdown_model.proofs.PassedTrees.{with_emails-has}
use Rattle.markdown_content.proofs.AdjacentCodes.{head_same, tail_same}
use Rattle.markdown_event.specs.declared.event.Name.{Name}
use Rattle.markdown_content.specs.Codes.{Code, is_blank}
use Rattle.markdown_content.specs.Tree.{Forest, empty, leaf_then, group_then, leaf, ◌⊕◌, leaf_codes}
use Rattle.markdown_model.specs.CodeTests.{is_value}
use Rattle.markdown_model.specs.GfmEmailLiteral.{with_emails}
use Rattle.markdown_model.specs.Setting.{Setting, within}
use Rattle.markdown_model.specs.Runs.{Run, run_of, runs_of, marker_of}
use Rattle.markdown_model.specs.Pairs.{Pair, pair_list}
use Rattle.markdown_model.specs.BracketGroups.{Token, pair_names, pair_group, run_tokens, assembled, tokens_of, paired}
use Rattle.markdown_model.specs.Passes.{HardBreaks, breaks_where, breaks, data_onto, merged, begins_line_ending, is_nothing, trimmed_data, trimmed, with_emails_apart}
use Rattle.markdown_model.specs.InlineTree.{label_tree}
use Rattle.markdown_model.specs.Laws.{is_run}
use Rattle.markdown_model.proofs.PassesKeepCodes.{codes-trimmed_data, codes-run_of}
use Rattle.markdown_model.proofs.LiteralCodes.{codes-with_emails}
use Rattle.markdown_model.proofs.DefinitionSteps.{span-all}
use Rattle.markdown_model_laws.specs.MarkersHeld.{by_code, may_hold_marker, AreAlso, EachMarkerIsHeld}
use Rattle.markdown_model_laws.proofs.EachPass.{labels_in, pairs_in, unmailed, text-has}
use Rattle.markdown_model_laws.proofs.LabelTreeRuns.{is_marker, HasApartRuns, apart-text-labels}
use Rattle.markdown_model.proofs.PairListsWithin.{whole-pairs}

-- Codes with a mark.

abbrev MarkedCodes : Type 0
MarkedCodes = List (Bool × Code)

abbrev marked : Bool → List Code → MarkedCodes
marked b cs = map (λ c. (b, c)) cs

marked-append : (b : Bool) (cs ds : List Code) → marked b (cs ++ ds) ≡ marked b cs ++ marked b ds
marked-append b cs ds = map-append (λ c. (b, c)) cs ds

-- the codes of a tree, each with whether the name of its leaf passes
module _ (passes : Name → Bool) where
  abbrev codes_by : Forest → MarkedCodes
  codes_by empty = []
  codes_by (leaf_then name link cs rest) = marked (passes name) cs ++ codes_by rest
  codes_by (group_then name enter exit inside rest) = codes_by inside ++ codes_by rest

  by-join : (a b : Forest) → codes_by (a ⊕ b) ≡ codes_by a ++ codes_by b
  by-join empty b = refl
  by-join (leaf_then name link cs rest) b = grind (arith, by-join rest b, append_assoc)
  by-join (group_then name enter exit inside rest) b = grind (arith, by-join rest b, append_assoc)

  by-leaf : (name : Name) (cs : List Code) → codes_by (leaf name cs) ≡ marked (passes name) cs
  by-leaf name [] = refl
  by-leaf name (c ∷ cs) = append-nil (marked (passes name) (c ∷ cs))

  marks-leaf : (b : Bool) (cs : List Code) (xs : MarkedCodes) →
      map (λ x. x.0) (marked b cs ++ xs) ≡ map (λ c. b) cs ++ map (λ x. x.0) xs
  marks-leaf b [] xs = refl
  marks-leaf b (c ∷ cs) xs = ap (λ x. b ∷ x) (marks-leaf b cs xs)

  by-code : (f : Forest) → map (λ x. x.0) (codes_by f) ≡ by_code passes f
  by-code empty = refl
  by-code (leaf_then name link cs rest) = grind (arith, marks-leaf, by-code rest)
  by-code (group_then name enter exit inside rest) =
      map-append (λ x. x.0) (codes_by inside) (codes_by rest) ∙ (λ i. by-code inside i ++ by-code rest i)

abbrev held : Forest → MarkedCodes
held f = codes_by may_hold_marker f

-- Code by code: what the first marks is not blank, and the second marks it.
abbrev AreHeld : MarkedCodes → MarkedCodes → Type 0
AreHeld [] [] = Unit {0}
AreHeld [] (y ∷ ys) = ⊥
AreHeld (x ∷ xs) [] = ⊥
AreHeld (x ∷ xs) (y ∷ ys) = (x.0 ≡ true → (is_blank y.1 ≡ false) × (y.0 ≡ true)) × AreHeld xs ys

-- Code by code: the same codes, and where the first marks one that is not blank, the second does.
abbrev KeepMarks : MarkedCodes → MarkedCodes → Type 0
KeepMarks [] [] = Unit {0}
KeepMarks [] (y ∷ ys) = ⊥
KeepMarks (x ∷ xs) [] = ⊥
KeepMarks (x ∷ xs) (y ∷ ys) = (x.1 ≡ y.1) × (x.0 ≡ true → is_blank y.1 ≡ false → y.0 ≡ true) × KeepMarks xs ys

held-append : (xs ys zs ws : MarkedCodes) → AreHeld xs ys → AreHeld zs ws → AreHeld (xs ++ zs) (ys ++ ws)
held-append (x ∷ xs) (y ∷ ys) zs ws h k = (h.0, held-append xs ys zs ws h.1 k)
held-append xs ys zs ws h k = grind arith

kept-append : (xs ys zs ws : MarkedCodes) → KeepMarks xs ys → KeepMarks zs ws → KeepMarks (xs ++ zs) (ys ++ ws)
kept-append (x ∷ xs) (y ∷ ys) zs ws h k = (h.0, h.1, kept-append xs ys zs ws h.2 k)
kept-append xs ys zs ws h k = grind arith

kept-same : (xs : MarkedCodes) → KeepMarks xs xs
kept-same [] = tt
kept-same (x ∷ xs) = (refl, (λ e f. e), kept-same xs)

held-kept : (xs ys zs : MarkedCodes) → AreHeld xs ys → KeepMarks ys zs → AreHeld xs zs
held-kept (x ∷ xs) (y ∷ ys) (z ∷ zs) h k =
    ((λ e. let f : is_blank z.1 ≡ false = ap is_blank (sym k.0) ∙ (h.0 e).0 in (f, k.1 (h.0 e).1 f)), held-kept xs ys zs h.1 k.2)
held-kept xs ys zs h k = grind arith

marks-held : (xs ys : MarkedCodes) → AreHeld xs ys → AreAlso (map (λ x. x.0) xs) (map (λ x. x.0) ys)
marks-held (x ∷ xs) (y ∷ ys) h = ((λ e. (h.0 e).1), marks-held xs ys h.1)
marks-held xs ys h = grind arith

-- Pairs.

abbrev held_add : Adds MarkedCodes
held_add = record {
  none = [];
  plus = ◌++◌;
  of = held;
  assoc = append_assoc;
  left = λ a. refl;
  right = append-nil;
  nothing = refl;
  row = by-join may_hold_marker;
}

abbrev held_all : List Forest → MarkedCodes
held_all fs = sum_of held_add fs

held-data : (cs : List Code) → held (leaf Name.Data cs) ≡ marked true cs
held-data cs = by-leaf may_hold_marker Name.Data cs

sequence-held : (marker size : ℕ) → may_hold_marker (pair_names marker size).1 ≡ true
sequence-held = pair-named (λ names. may_hold_marker names.1 ≡ true) refl refl refl

held-group : (front : List Code) (inside : List Forest) (back : List Code) →
    held_all (pair_group front inside back) ≡ marked true front ++ (held_all inside ++ marked true back)
held-group front inside back =
    append-nil _ ∙ append-nil _
    ∙ by-join may_hold_marker (leaf name front) _
    ∙ (λ i. side front i ++ (sum-joined held_add inside i ++ side back i))
  where
    name : Name
    name = (pair_names (marker_of front) (length front)).1

    side : (cs : List Code) → held (leaf (pair_names (marker_of front) (length front)).1 cs) ≡ marked true cs
    side cs = by-leaf may_hold_marker (pair_names (marker_of front) (length front)).1 cs ∙ ap (λ b. marked b cs) (sequence-held (marker_of front) (length front))

abbrev held_word : List Token → MarkedCodes
held_word w = token_sum held_add (marked true) held-data w

held-assembled : (w : List Token) → held (assembled w) ≡ held_word w
held-assembled w = sum-assembled held_add (marked true) held-data held-group w

word-run : (pairs : List Pair) (i : ℕ) (r : Run) → held_word (run_tokens pairs i r) ≡ marked true r.codes
word-run pairs i r = sum-run held_add (marked true) held-data refl (marked-append true) pairs i r

-- Rows.

abbrev runs_marked : Forest → MarkedCodes
runs_marked f = codes_by is_run f

not-blank : (v m : ℕ) → is_marker m ≡ true → (v == m) ≡ true → (v == 32 || v == 9) ≡ false
not-blank v m h k = grind (arith, nat_tests)

stripe-held : (m : ℕ) (cs : List Code) → is_marker m ≡ true → list_all (is_value m) cs ≡ true →
    AreHeld (marked true cs) (marked true cs)
stripe-held m [] h k = tt
stripe-held m (c ∷ cs) h k =
    let p = and_parts (is_value m c) (list_all (is_value m) cs) k in
    ((λ e. (not-blank c.value m h p.0, refl)), stripe-held m cs h p.1)

unmarked-held : (b : Bool) (cs : List Code) → AreHeld (marked false cs) (marked b cs)
unmarked-held b [] = tt
unmarked-held b (c ∷ cs) = ((λ e. absurd (both_ways false refl e)), unmarked-held b cs)

module _ (s : Setting) where
  abbrev words : Forest → List Pair → ℕ → List Token
  words f pairs n = tokens_of s (pair_list s) f pairs n

  held-words : (f : Forest) (m : ℕ) (pairs : List Pair) (n : ℕ) → HasApartRuns m f →
      AreHeld (runs_marked f) (held_word (words f pairs n))
  unfolding tokens_of
  held-words empty m pairs n h = tt
  held-words (leaf_then Name.AttentionSequence link cs rest) m pairs n h =
      subst (λ x. AreHeld (marked true cs ++ runs_marked rest) x)
      (sym (token-append held_add (marked true) held-data (run_tokens pairs n (run_of s cs)) (words rest pairs (suc n)) ∙ ap (λ x. x ++ held_word (words rest pairs (suc n))) (word-run pairs n (run_of s cs) ∙ ap (marked true) (codes-run_of s cs))))
      (held-append (marked true cs) (marked true cs) (runs_marked rest) (held_word (words rest pairs (suc n))) (stripe-held (marker_of cs) cs h.0.kind h.0.all) (held-words rest (marker_of cs) pairs (suc n) h.2))
  held-words (leaf_then name link cs rest) m pairs n h = grind (arith, held-append, append-nil, unmarked-held, held-words rest 0 pairs n h)
  held-words (group_then name enter exit inside rest) m pairs n h = grind (arith, held-append, append-nil, held-assembled, held-words inside 0 (pair_list s (runs_of s inside)) 0 h.0, held-words rest 0 pairs n h.1)

  held-paired : (f : Forest) → HasApartRuns 0 f → AreHeld (runs_marked f) (held (paired s (pair_list s) f))
  unfolding paired
  held-paired f h = grind (arith, held-assembled, held-words)

-- Merging.

held-data_onto : (cs : List Code) (f : Forest) → held (data_onto cs f) ≡ marked true cs ++ held f
held-data_onto cs (leaf_then Name.Data None more rest) = grind (arith, marked-append, append_assoc)
held-data_onto cs rest = refl

held-merged : (f : Forest) → held (merged f) ≡ held f
unfolding merged
held-merged empty = refl
held-merged (leaf_then Name.Data None cs rest) = grind (arith, held-data_onto, held-merged rest)
held-merged (leaf_then name link cs rest) = ap (λ x. marked (may_hold_marker name) cs ++ x) (held-merged rest)
held-merged (group_then name enter exit inside rest) = λ i. held-merged inside i ++ held-merged rest i

-- Trimming.

abbrev AreBlankOrMarked : MarkedCodes → Type 0
AreBlankOrMarked [] = Unit {0}
AreBlankOrMarked (x ∷ xs) = (is_blank x.1 ≡ false → x.0 ≡ true) × AreBlankOrMarked xs

abbrev codes_in : MarkedCodes → List Code
codes_in xs = map (λ x. x.1) xs

codes-marked : (b : Bool) (cs : List Code) → codes_in (marked b cs) ≡ cs
codes-marked b [] = refl
codes-marked b (c ∷ cs) = ap (λ x. c ∷ x) (codes-marked b cs)

codes-held : (f : Forest) → codes_in (held f) ≡ leaf_codes f
codes-held empty = refl
codes-held (leaf_then name link cs rest) =
    map-append (λ x. x.1) (marked (may_hold_marker name) cs) (held rest) ∙ (λ i. codes-marked (may_hold_marker name) cs i ++ codes-held rest i)
codes-held (group_then name enter exit inside rest) =
    map-append (λ x. x.1) (held inside) (held rest) ∙ (λ i. codes-held inside i ++ codes-held rest i)

-- marked codes, and codes marked where they are not blank
kept-any : (xs ys : MarkedCodes) → codes_in xs ≡ codes_in ys → AreBlankOrMarked ys → KeepMarks xs ys
kept-any (x ∷ xs) (y ∷ ys) e h =
    (head_same x.1 y.1 (codes_in xs) (codes_in ys) e, (λ f g. h.0 g), kept-any xs ys (tail_same x.1 y.1 (codes_in xs) (codes_in ys) e) h.1)
kept-any xs ys e h = grind arith

either-append : (xs ys : MarkedCodes) → AreBlankOrMarked xs → AreBlankOrMarked ys → AreBlankOrMarked (xs ++ ys)
either-append [] ys h k = k
either-append (x ∷ xs) ys h k = (h.0, either-append xs ys h.1 k)

either-marked : (cs : List Code) → AreBlankOrMarked (marked true cs)
either-marked [] = tt
either-marked (c ∷ cs) = ((λ e. refl), either-marked cs)

either-blank : (b : Bool) (cs : List Code) → list_all is_blank cs ≡ true → AreBlankOrMarked (marked b cs)
either-blank b [] h = tt
either-blank b (c ∷ cs) h =
    let p = and_parts (is_blank c) (list_all is_blank cs) h in
    ((λ e. absurd (both_ways (is_blank c) e p.0)), either-blank b cs p.1)

blank-reverse : (cs : List Code) → list_all is_blank cs ≡ true → list_all is_blank (reverse cs) ≡ true
blank-reverse [] h = refl
blank-reverse (c ∷ cs) h =
    let p = and_parts (is_blank c) (list_all is_blank cs) h in
    ap (list_all is_blank) (reverse-append (c ∷ []) cs) ∙ list_all-append is_blank (reverse cs) (c ∷ []) ∙ (λ i. blank-reverse cs p.1 i && (p.0 i && true))

either-data : (front back : Bool) (hard : HardBreaks) (cs : List Code) → AreBlankOrMarked (held (trimmed_data front back hard cs))
either-data front back hard cs = grind (arith, blank-reverse, span-all, by-join, by-leaf, either-append, either-blank, either-marked)

kept-data : (front back : Bool) (hard : HardBreaks) (cs : List Code) →
    KeepMarks (marked true cs) (held (trimmed_data front back hard cs))
kept-data front back hard cs = grind (arith, kept-any, codes-marked, codes-trimmed_data, codes-held, either-data)

kept-trimmed : (hard : HardBreaks) (front whole : Bool) (f : Forest) → KeepMarks (held f) (held (trimmed hard front whole f))
unfolding trimmed
kept-trimmed hard front whole empty = tt
kept-trimmed hard front whole (leaf_then Name.Data None cs rest) =
    let back : Bool = begins_line_ending rest || (whole && is_nothing rest) in
    subst (KeepMarks (marked true cs ++ held rest)) (sym (by-join may_hold_marker (trimmed_data front back (breaks_where hard (begins_line_ending rest)) cs) (trimmed hard false whole rest)))
    (kept-append (marked true cs) (held (trimmed_data front back (breaks_where hard (begins_line_ending rest)) cs)) (held rest) (held (trimmed hard false whole rest))
    (kept-data front back (breaks_where hard (begins_line_ending rest)) cs) (kept-trimmed hard false whole rest))
kept-trimmed hard front whole (leaf_then Name.LineEnding link cs rest) =
    kept-append (marked false cs) (marked false cs) (held rest) (held (trimmed hard true whole rest)) (kept-same (marked false cs)) (kept-trimmed hard true whole rest)
kept-trimmed hard front whole (leaf_then name link cs rest) =
    kept-append (marked (may_hold_marker name) cs) (marked (may_hold_marker name) cs) (held rest) (held (trimmed hard false whole rest)) (kept-same (marked (may_hold_marker name) cs)) (kept-trimmed hard false whole rest)
kept-trimmed hard front whole (group_then name enter exit inside rest) =
    kept-append (held inside) (held (trimmed hard false false inside)) (held rest) (held (trimmed hard false whole rest)) (kept-trimmed hard false false inside) (kept-trimmed hard false whole rest)

-- Emails.

either-leaf : (name : Name) (cs : List Code) → may_hold_marker name ≡ true → AreBlankOrMarked (held (leaf name cs))
either-leaf name cs h = grind (arith, by-leaf, either-marked)

either-with : (cs : List Code) → AreBlankOrMarked (held (with_emails cs))
either-with cs =
    with_emails-has (λ t. AreBlankOrMarked (held t)) (λ t u h k. subst AreBlankOrMarked (sym (by-join may_hold_marker t u)) (either-append (held t) (held u) h k)) (λ ds. either-leaf Name.Data ds refl)
    (λ before ds. either-leaf _ ds (email-named (λ name. may_hold_marker name ≡ true) refl refl refl before)) cs

kept-mailed : (f : Forest) → KeepMarks (held f) (held (with_emails_apart f))
unfolding with_emails_apart
kept-mailed empty = tt
kept-mailed (leaf_then Name.Data None cs rest) =
    subst (KeepMarks (marked true cs ++ held rest)) (sym (by-join may_hold_marker (with_emails cs) (with_emails_apart rest)))
    (kept-append (marked true cs) (held (with_emails cs)) (held rest) (held (with_emails_apart rest))
    (kept-any (marked true cs) (held (with_emails cs)) (codes-marked true cs ∙ sym (codes-with_emails cs) ∙ sym (codes-held (with_emails cs))) (either-with cs)) (kept-mailed rest))
kept-mailed (leaf_then name link cs rest) =
    kept-append (marked (may_hold_marker name) cs) (marked (may_hold_marker name) cs) (held rest) (held (with_emails_apart rest)) (kept-same (marked (may_hold_marker name) cs)) (kept-mailed rest)
kept-mailed (group_then Name.Link enter exit inside rest) =
    kept-append (held inside) (held inside) (held rest) (held (with_emails_apart rest)) (kept-same (held inside)) (kept-mailed rest)
kept-mailed (group_then name enter exit inside rest) =
    kept-append (held inside) (held (with_emails_apart inside)) (held rest) (held (with_emails_apart rest)) (kept-mailed inside) (kept-mailed rest)

pub each_marker_is_held : EachMarkerIsHeld
unfolding label_tree
each_marker_is_held s cs =
    text-has (λ f. AreAlso (by_code is_run labels) (by_code may_hold_marker f)) s cs
    (also (with_emails_apart done) (held-kept (runs_marked labels) (held done) (held (with_emails_apart done)) kept (kept-mailed done))) (also done kept)
  where
    labels : Forest
    labels = labels_in s cs

    pairs : Forest
    pairs = pairs_in s cs

    done : Forest
    done = unmailed s cs

    kept : AreHeld (runs_marked labels) (held done)
    kept =
        held-kept (runs_marked labels) (held pairs) (held done) (subst (λ f. AreHeld (runs_marked labels) (held f)) (sym (whole-pairs s labels)) (held-paired (within (leaf_codes labels) s) labels (apart-text-labels s cs)))
        (subst (λ x. KeepMarks x (held done)) (held-merged pairs) (kept-trimmed (breaks s) true true (merged pairs)))

    also : (f : Forest) → AreHeld (runs_marked labels) (held f) →
        AreAlso (by_code is_run labels) (by_code may_hold_marker f)
    also f h = subst (λ x. AreAlso (by_code is_run labels) x) (by-code may_hold_marker f) (subst (λ x. AreAlso x (map (λ y. y.0) (held f))) (by-code is_run labels) (marks-held (runs_marked labels) (held f) h))
