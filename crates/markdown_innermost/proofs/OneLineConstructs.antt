-- The trees of constructs are on lines.
use Rattle.std.proofs.Common.{◌≡◌, ◌≢◌, ◌≤◌, ℕ, zero, suc, ◌-◌, Bool, true, false, ◌&&◌, ◌||◌, ◌==◌, List, [], ◌∷◌, length, Option, Some, None, refl, sym, ap, subst, arith}
use Rattle.std.specs.Prelude.{codes, nat_lt}
use Rattle.std.proofs.lemmas.Bool.{both_ways, or_parts}
use Rattle.markdown_content.specs.Codes.{Code, is_blank, is_line_ending}
use Rattle.markdown_content.specs.Tree.{Forest, empty, leaf_then, group_then, leaf, leaf_codes, linked, group, ◌⊕◌}
use Rattle.markdown_event.specs.declared.event.Content.{Content}
use Rattle.markdown_event.specs.declared.event.Name.{Name}
use Rattle.markdown_event.specs.declared.event.Name.TheVariants as N
use Rattle.markdown_model.specs.CodeLines.{IsLine, IsSomeLine, IsOnLine, AreSpaced}
use Rattle.markdown_model.specs.CodeTests.{is_value, is_among, is_whitespace_code, is_control}
use Rattle.markdown_model.specs.Grammar.{Reading, with_first, optional_tree, up_to}
use Rattle.markdown_model.specs.LabelEnd.{full_reference, collapsed_reference, shortcut, shortcut_before_bracket, reference_after_label, after_label}
use Rattle.markdown_model.specs.TextLines.{linked_leaf, lines}
use Rattle.markdown_model.specs.Resource.{string_group, StringNames, between_markers, label, title_between, title, title_names, literal_destination, raw_from, raw_destination, destination, resource_names, spaced_title, destination_and_title, resource, reference_names}
use Rattle.markdown_model.specs.Setting.{Setting}
use Rattle.markdown_model.specs.Whitespace.{space_or_tab_eol, spaces_across, spaces_on_line}
use Rattle.markdown_model.proofs.LeafRows.{Leaves}
use Rattle.markdown_model.proofs.NoLinkInConstructs.{PassesValue, Yields, yields_bind, yields_gives, yields_passed, yields_either, yields_before, yields_next, yields_unless, then_any}
use Rattle.markdown_model.proofs.OneLineLiterals.{spaced-both}
use Rattle.markdown_model.proofs.OneLineReadings.{not-ending, IsOneCode, one-some, one-one, some-line, any-line, with-first-line, escaped-lines}
use Rattle.markdown_model.proofs.PlainConstructs.{is_own, leaf-own, IsOwnLeaf, IsPlainTree, leaves-some}
use Rattle.markdown_innermost.specs.OneLineLeaves.{makes_data, IsLined, AtStart}
use Rattle.markdown_innermost.proofs.OneLineTrees.{AreLeaves, none-left, full-linked, full-lines, lined-row, lined-leaf, lined-linked, lined-lines, lined-one, lined-group}

abbrev pub IsLinedTree : Forest → Type 0
IsLinedTree t = IsLined AtStart t

abbrev pub Trees : Reading Forest → Type 0
Trees a = Yields IsLinedTree a

-- Leaves and groups.

row : (t u : Forest) → IsLinedTree t → IsLinedTree u → IsLinedTree (t ⊕ u)
row t u h k = lined-row AtStart t u h k

pub one-leaf : (name : Name) (cs : List Code) → makes_data name ≡ false → IsOneCode cs → IsLinedTree (leaf name cs)
one-leaf name [] e h = absurd h
one-leaf name (c ∷ []) e h = lined-one AtStart name c e
one-leaf name (c ∷ d ∷ cs) e h = absurd h

pub line-leaf : (name : Name) (cs : List Code) → IsLine cs → IsLinedTree (leaf name cs)
line-leaf name cs h = lined-leaf AtStart name cs h

-- a group that begins with a marker
marked : (name n : Name) (cs : List Code) (more : Forest) → cs ≢ [] → IsLinedTree (leaf n cs) → IsLinedTree more →
    IsLinedTree (group name (leaf n cs ⊕ more))
marked name n cs more some h k = lined-group AtStart name _ _ n cs more some (row (leaf n cs) more h k)

one-marked : (name n : Name) (cs : List Code) (more : Forest) → makes_data n ≡ false → IsOneCode cs → IsLinedTree more →
    IsLinedTree (group name (leaf n cs ⊕ more))
one-marked name n cs more e h k = marked name n cs more (one-some cs h) (one-leaf n cs e h) k

-- a group around nothing stands at the document's start
around : (name : Name) (inside : Forest) → (leaf_codes inside ≡ [] → inside ≡ empty) → IsLinedTree inside →
    IsLinedTree (group name inside)
around name empty e h = ((λ k. (refl, refl)), (tt, tt))
around name (leaf_then n l cs rest) e h = ((λ k. absurd (clash (e k))), (h, tt))
  where
    clash : leaf_then n l cs rest ≡ empty → ⊥
    clash x = cc
around name (group_then n a b i rest) e h = ((λ k. absurd (clash (e k))), (h, tt))
  where
    clash : group_then n a b i rest ≡ empty → ⊥
    clash x = cc

leaves-none : (t : Forest) → AreLeaves t → leaf_codes t ≡ [] → t ≡ empty
leaves-none empty h e = refl
leaves-none (leaf_then n l cs rest) h e = absurd (h.0 (none-left cs (leaf_codes rest) e).0)
leaves-none (group_then n a b i rest) h e = absurd h

pub leaves-group : (name : Name) (t : Forest) → AreLeaves t → IsLinedTree t → IsLinedTree (group name t)
leaves-group name t l h = around name t (leaves-none t l) h

-- What stands by itself, in a document that has whitespace at each line ending.

own-data : (name : Name) → is_own name ≡ true → makes_data name ≡ false
own-data N.Data e = cc
own-data N.AttentionSequence e = cc
own-data _ e = refl

module _ (bytes : List ℕ) where
  leaf-lined : (name : Name) (link : Option Content) (cs : List Code) → IsOwnLeaf bytes name link cs →
      AreSpaced bytes cs → IsOnLine cs × (makes_data name ≡ true → IsLine cs)
  leaf-lined name link cs h k =
      (h.line k, λ e. absurd (both_ways (makes_data name) (own-data name (leaf-own name h.named)) e))

  leaves-lined : (t : Forest) → Leaves (IsOwnLeaf bytes) t → AreSpaced bytes (leaf_codes t) → IsLinedTree t
  leaves-lined empty h k = tt
  leaves-lined (leaf_then name link cs rest) h k =
      let p = spaced-both bytes cs (leaf_codes rest) k in (leaf-lined name link cs h.0 p.0, leaves-lined rest h.1 p.1)
  leaves-lined (group_then name enter exit inside rest) h k = absurd h

  nothing-lined : (t : Forest) → t ≡ empty → IsLinedTree t
  nothing-lined t e = subst IsLinedTree (sym e) tt

  pub plain-lined : (t : Forest) → IsPlainTree bytes t → AreSpaced bytes (leaf_codes t) → IsLinedTree t
  plain-lined empty h k = absurd h
  plain-lined (leaf_then name link cs rest) h k =
      (leaf-lined name link cs h.0 (spaced-both bytes cs (leaf_codes rest) k).0, nothing-lined rest h.1)
  plain-lined (group_then name enter exit inside rest) h k =
      ((λ e. absurd (no-codes (leaf_codes inside) (leaves-some bytes inside h.0.leaves h.0.some) e)), (leaves-lined inside h.0.leaves (spaced-both bytes (leaf_codes inside) (leaf_codes rest) k).0, nothing-lined rest h.1))
    where
      no-codes : (cs : List Code) → 1 ≤ length cs → cs ≡ [] → ⊥
      no-codes cs h e = omega (arith, h, ap length e)

-- Whitespace.

optional-tree : (a : Reading Forest) → Trees a → Trees (optional_tree a)
unfolding optional_tree
optional-tree a h = yields_either _ _ _ h (yields_gives _ _ tt)

one-linked : (link : Option Content) (cs : List Code) → IsOneCode cs → IsLinedTree (linked_leaf N.LineEnding link cs)
one-linked link [] h = absurd h
one-linked link (c ∷ []) h = ((tt, λ e. cc), tt)
one-linked link (c ∷ d ∷ cs) h = absurd h

spacing-tree : (link : Option Content) → Trees (space_or_tab_eol link)
unfolding space_or_tab_eol spaces_across spaces_on_line
spacing-tree link = yields_either _ _ _
    (yields_bind IsLine _ _ _ (any-line _ λ c. refl) λ front f. yields_bind IsOneCode _ _ _ (one-one _) λ ending e. yields_bind IsLine _ _ _ (yields_before _ _ _ (any-line _ λ c. refl)) λ back b. yields_gives _ _
    (row (linked_leaf N.SpaceOrTab link front) _ (lined-linked AtStart N.SpaceOrTab link front f) (row (linked_leaf N.LineEnding link ending) _ (one-linked link ending e) (lined-linked AtStart N.SpaceOrTab link back b))))
    (yields_bind IsSomeLine _ _ _ (yields_before _ _ _ (some-line _ λ c. refl)) λ blank h. yields_gives _ _ (lined-linked AtStart N.SpaceOrTab link blank h.1))

-- Labels, titles and destinations.

string-tree : (name : Name) (t : Forest) → AreLeaves t → IsLinedTree t → IsLinedTree (string_group name t)
string-tree name empty l h = tt
string-tree name (leaf_then n k cs rest) l h = leaves-group name (leaf_then n k cs rest) l h
string-tree name (group_then n a b i rest) l h = absurd l

between-tree : (names : StringNames) (front text back : List Code) → makes_data names.marker ≡ false → IsOneCode front →
    IsOneCode back → IsLinedTree (between_markers names front text back)
between-tree names front text back e f b =
    let inside : Forest = lines N.Data (Some Content.String) text in
    one-marked names.whole names.marker front _ e f
    (row (string_group names.text inside) _ (string-tree names.text inside (full-lines N.Data (Some Content.String) text) (lined-lines AtStart N.Data (Some Content.String) text)) (one-leaf names.marker back e b))

label-tree : (characters : Bool) → Trees (label characters reference_names)
unfolding label
label-tree characters =
    yields_bind IsOneCode _ _ _ (one-one _) λ front f. then_any _ _ _ λ text. yields_passed _ _ _ (yields_passed _ _ _ (
    yields_bind IsOneCode _ _ _ (one-one _) λ back b. yields_passed _ _ _ (yields_gives _ _ (between-tree reference_names front text back refl f b))
    ))

title-between-tree : (both : Bool) (opener closer : ℕ) → Trees (title_between both opener closer title_names)
unfolding title_between
title-between-tree both opener closer =
    yields_bind IsOneCode _ _ _ (one-one _) λ front f. then_any _ _ _ λ text. yields_bind IsOneCode _ _ _ (one-one _) λ back b. yields_passed _ _ _ (yields_gives _ _ (between-tree title_names front text back refl f b))

title-tree : (both : Bool) → Trees (title both title_names)
unfolding title
title-tree both =
    yields_either _ _ _ (title-between-tree _ _ _) (yields_either _ _ _ (title-between-tree _ _ _) (title-between-tree _ _ _))

linked-tree : (text : List Code) → IsLine text → AreLeaves (linked N.Data text) × IsLinedTree (linked N.Data text)
linked-tree [] h = (tt, tt)
linked-tree (c ∷ cs) h =
    (full-linked N.Data (Some Content.String) (c ∷ cs), lined-linked AtStart N.Data (Some Content.String) (c ∷ cs) h)

-- a group around one that holds a code, or around one at the document's start
wrapped : (outer name n : Name) (front : List Code) (more : Forest) → makes_data n ≡ false → IsOneCode front → IsLinedTree more →
    IsLinedTree (group outer (group name (leaf n front ⊕ more)))
wrapped outer name n [] more e f h = absurd f
wrapped outer name n (c ∷ []) more e f h = ((λ k. cc), (one-marked name n (c ∷ []) more e f h, tt))
wrapped outer name n (c ∷ d ∷ cs) more e f h = absurd f

neither : (a b c : Bool) → a ≡ false → (b || c) ≡ false → c ≡ false
neither a true c h k = cc
neither a false c h k = k

literal-tree : Trees (literal_destination resource_names)
unfolding literal_destination up_to
literal-tree =
    yields_bind IsOneCode _ _ _ (one-one _) λ front f.
    yields_bind IsLine _ _ _ (record { at = λ cs. escaped-lines (is_value 62) (is_among (codes "<>\\")) (λ c. is_value 60 c || is_line_ending c) (λ c. refl) (λ c h k. neither (is_value 62 c) (is_value 60 c) (is_line_ending c) h k) false cs }) λ text t.
    yields_bind IsOneCode _ _ _ (one-one _) λ back b. yields_gives _ _
    (let l = linked-tree text t in
    wrapped N.ResourceDestination N.ResourceDestinationLiteral N.ResourceDestinationLiteralMarker front (string_group N.ResourceDestinationString (linked N.Data text) ⊕ leaf N.ResourceDestinationLiteralMarker back) refl f
    (row (string_group N.ResourceDestinationString (linked N.Data text)) _ (string-tree N.ResourceDestinationString (linked N.Data text) l.0 l.1) (one-leaf N.ResourceDestinationLiteralMarker back refl b)))

-- the codes of a raw destination are none of them whitespace
module _ (max : ℕ) (c : Code) (cs : List Code) (more : (s : Bool) (d : ℕ) → PassesValue IsLine (raw_from max s d cs)) where
  abbrev on : Bool → ℕ → Option (List Code × List Code)
  on s d = raw_from max s d cs

  abbrev closes : ℕ → Option (List Code × List Code)
  closes depth = elim depth [ zero ↦ Some ([], c ∷ cs) | suc d ↦ None ]

  abbrev opened : ℕ → Bool → Option (List Code × List Code)
  opened depth t = elim t [ true ↦ with_first c (on false (suc depth)) | false ↦ None ]

  abbrev others : ℕ → Bool → Option (List Code × List Code)
  others depth t =
      elim t [ true ↦ with_first c (on false (depth - 1)) | false ↦ with_first c (on (is_value 92 c) depth) ]

  closes-line : (depth : ℕ) → PassesValue IsLine (closes depth)
  closes-line zero = refl
  closes-line (suc d) = tt

  opened-line : (depth : ℕ) (t : Bool) → is_line_ending c ≡ false → PassesValue IsLine (opened depth t)
  opened-line depth true h = with-first-line c (on false (suc depth)) h (more false (suc depth))
  opened-line depth false h = tt

  others-line : (depth : ℕ) (t : Bool) → is_line_ending c ≡ false → PassesValue IsLine (others depth t)
  others-line depth true h = with-first-line c (on false (depth - 1)) h (more false (depth - 1))
  others-line depth false h = with-first-line c (on (is_value 92 c) depth) h (more (is_value 92 c) depth)

  abbrev passed : ℕ → Bool → Bool → Bool → Option (List Code × List Code)
  passed depth control o k =
      elim control [ true ↦ None | false ↦ elim o [ true ↦ opened depth (nat_lt depth max) | false ↦ others depth k ] ]

  passed-line : (depth : ℕ) (control o k : Bool) → is_line_ending c ≡ false → PassesValue IsLine (passed depth control o k)
  passed-line depth true o k h = tt
  passed-line depth false true k h = opened-line depth (nat_lt depth max) h
  passed-line depth false false k h = others-line depth k h

  abbrev unescaped : ℕ → Bool → Option (List Code × List Code)
  unescaped depth stops =
      elim stops [ true ↦ closes depth | false ↦ passed depth (is_control c) (is_value 40 c) (is_value 41 c) ]

  unescaped-line : (depth : ℕ) (white last : Bool) → is_whitespace_code c ≡ white →
      PassesValue IsLine (unescaped depth (white || last))
  unescaped-line depth true last h = closes-line depth
  unescaped-line depth false true h = closes-line depth
  unescaped-line depth false false h =
      passed-line depth (is_control c) (is_value 40 c) (is_value 41 c) (or_parts (is_blank c) (is_line_ending c) h).1

  escaped-line : (depth : ℕ) (slash takes : Bool) → is_among (codes "()\\") c ≡ takes
      → PassesValue IsLine (elim (slash && takes) [ true ↦ with_first c (on false depth) | false ↦ unescaped depth (is_whitespace_code c || (is_value 41 c && depth == 0)) ])
  escaped-line depth true true h =
      with-first-line c (on false depth) (not-ending (is_among (codes "()\\")) (λ d. refl) c h) (more false depth)
  escaped-line depth true false h = unescaped-line depth (is_whitespace_code c) (is_value 41 c && depth == 0) refl
  escaped-line depth false takes h = unescaped-line depth (is_whitespace_code c) (is_value 41 c && depth == 0) refl

raw-lines : (max : ℕ) (slash : Bool) (depth : ℕ) (cs : List Code) → PassesValue IsLine (raw_from max slash depth cs)
unfolding raw_from
raw-lines max slash zero [] = refl
raw-lines max slash (suc d) [] = tt
raw-lines max slash depth (c ∷ cs) =
    escaped-line max c cs (λ s d. raw-lines max s d cs) depth slash (is_among (codes "()\\") c) refl

raw-tree : (max : ℕ) → Trees (raw_destination max resource_names)
unfolding raw_destination
raw-tree max = yields_bind IsLine _ _ _ (record { at = raw-lines max false 0 }) λ text t. yields_passed _ _ _ (yields_gives _ _ (by_text text t))
  where
    by_text : (text : List Code) → IsLine text →
        IsLinedTree (group N.ResourceDestination (group N.ResourceDestinationRaw (group N.ResourceDestinationString (linked N.Data text))))
    by_text [] h = ((λ e. (refl, refl)), (((λ e. (refl, refl)), (((λ e. (refl, refl)), (tt, tt)), tt)), tt))
    by_text (c ∷ cs) h =
        ((λ e. cc), (((λ e. cc), (leaves-group N.ResourceDestinationString (linked N.Data (c ∷ cs)) (linked-tree (c ∷ cs) h).0 (linked-tree (c ∷ cs) h).1, tt)), tt))

destination-tree : (max : ℕ) → Trees (destination max resource_names)
unfolding destination
destination-tree max = yields_next _ _ _ _ literal-tree (raw-tree max)

-- Resources and references.

spaced-tree : (both : Bool) → Trees (spaced_title both)
unfolding spaced_title
spaced-tree both =
    yields_bind IsLinedTree _ _ _ (yields_before _ _ _ (spacing-tree None)) λ space h. yields_bind IsLinedTree _ _ _ (title-tree both) λ text k.
    yields_bind IsLinedTree _ _ _ (optional-tree _ (spacing-tree None)) λ back l. yields_gives _ _ (row space _ h (row text back k l))

both-tree : (both : Bool) → Trees (destination_and_title both)
unfolding destination_and_title
both-tree both =
    yields_bind IsLinedTree _ _ _ (destination-tree 32) λ target h.
    yields_bind IsLinedTree _ _ _ (yields_either _ _ _ (spaced-tree both) (optional-tree _ (spacing-tree None))) λ after k. yields_gives _ _ (row target after h k)

resource-tree : (both : Bool) → Trees (resource both)
unfolding resource
resource-tree both =
    yields_bind IsOneCode _ _ _ (one-one _) λ front f. yields_bind IsLinedTree _ _ _ (optional-tree _ (spacing-tree None)) λ space h.
    yields_bind IsLinedTree _ _ _ (yields_next _ _ _ _ (yields_gives _ _ tt) (both-tree both)) λ inside k.
    yields_bind IsOneCode _ _ _ (one-one _) λ back b. yields_gives _ _
    (one-marked N.Resource N.ResourceMarker front _ refl f (row space _ h (row inside _ k (one-leaf N.ResourceMarker back refl b))))

full-tree : (s : Setting) → Trees (full_reference s)
unfolding full_reference
full-tree s = yields_bind IsLinedTree _ _ _ (label-tree _) λ tree h. yields_passed _ _ _ (yields_gives _ _ h)

collapsed-tree : Trees collapsed_reference
unfolding collapsed_reference
collapsed-tree =
    yields_bind IsOneCode _ _ _ (one-one _) λ front f. yields_bind IsOneCode _ _ _ (one-one _) λ back b. yields_gives _ _
    (one-marked N.Reference N.ReferenceMarker front (leaf N.ReferenceMarker back) refl f (one-leaf N.ReferenceMarker back refl b))

shortcut-tree : (defined : Bool) → Trees (shortcut defined)
unfolding shortcut
shortcut-tree defined = yields_passed _ _ _ (yields_gives _ _ tt)

pub after-tree : (s : Setting) (defined : Bool) → Trees (after_label s defined)
unfolding after_label reference_after_label shortcut_before_bracket
after-tree s defined =
    yields_next _ _ _ _ (yields_either _ _ _ (resource-tree _) (shortcut-tree defined))
    (yields_next _ _ _ _
    (yields_either _ _ _ (full-tree s) (yields_either _ _ _ (yields_passed _ _ _ collapsed-tree) (yields_unless _ _ _ (shortcut-tree _))))
    (shortcut-tree defined))
