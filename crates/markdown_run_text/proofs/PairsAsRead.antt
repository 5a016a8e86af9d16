-- Where underscores between letters or digits are read as data, the trees of labels are paired to one tree, and what is asked of them holds.
use Rattle.std.proofs.Common.{◌≡◌, ℕ, ◌+◌, ◌*◌, ◌≤◌, false, List, [], ◌∷◌, length, None, refl, sym, ◌∙◌, ap, subst, le_trans, mul-le-mul, arith, sum_by, ◌++◌}
use Rattle.std.proofs.lemmas.Bool.{or_parts}
use Rattle.std.specs.List.{count_by}
use Rattle.markdown_attention.specs.AttentionPass.{IsProbed}
use Rattle.markdown_attention.specs.RunsOfTree.{has_run}
use Rattle.markdown_attention.proofs.AttentionTreeLabels.{IsGood, IsElementRead, good-leaf, good-labels}
use Rattle.markdown_content.specs.Codes.{Code}
use Rattle.markdown_content.specs.Tree.{Forest, leaf_then, ◌⊕◌, leaf_codes, group_then}
use Rattle.markdown_event.specs.declared.event.Name.TheVariants as N
use Rattle.markdown_model.specs.BracketGroups.{paired}
use Rattle.markdown_model.specs.InlineTree.{run_count, pair_count, opener_count, closer_count, paired_whole}
use Rattle.markdown_model.specs.LabelEnd.{Element}
use Rattle.markdown_model.specs.Pairs.{pair_list}
use Rattle.markdown_model.specs.Passes.{labels_of}
use Rattle.markdown_model.specs.Runs.{Run, runs_of, containers_of}
use Rattle.markdown_model.specs.Setting.{Setting, within}
use Rattle.markdown_model.proofs.ElementCases.{AllAre}
use Rattle.markdown_run_text.specs.ElementsAsRead.{IsIntraword, IsReadAs, AreReadAs, Source}
use Rattle.markdown_run_text.specs.Row.{Row, tree_onto, element_onto, row_has_run, row_of_elements}
use Rattle.markdown_run_text.proofs.LabelsAsRead.{labels-as-read}
use Rattle.markdown_run_text.proofs.NeutralRunCounts.{over_rows, with-group, with-data, fewer-runs, as-many-pass}
use Rattle.markdown_run_text.proofs.NeutralRuns.{IsNeutral, neutral_is_data, neutral_row_count, paired-inside, intraword-neutral}
use Rattle.markdown_run_text.proofs.PastTrees.{has_run-row}
use Rattle.markdown_model.proofs.PairListsWithin.{lists-within}
use Rattle.markdown_content.proofs.TreeCodes.{leaf_codes-row}

-- Rows without runs.

rest-runless : (t : Forest) (r : Row) → row_has_run (tree_onto t r) ≡ false → (has_run t ≡ false) × (row_has_run r ≡ false)
rest-runless t r h = grind (arith, or_parts, has_run-row)

behind-runless : (e : Element) (r : Row) → row_has_run (element_onto e r) ≡ false → row_has_run r ≡ false
behind-runless e r h = grind (arith, rest-runless)

module _ (source : Source) where
  itself : (e f : Element) (r : Row) → IsReadAs source e f → row_has_run (element_onto e r) ≡ false → f ≡ e
  itself e f r k h = grind (arith, rest-runless)

  -- where no run is among the elements, they are read as themselves
  pub read-runless : (elements read : List Element) → AreReadAs source elements read → row_has_run (row_of_elements elements) ≡ false →
      read ≡ elements
  read-runless [] [] read_as h = refl
  read-runless (e ∷ es) (f ∷ fs) read_as h = grind (arith, itself, behind-runless, read-runless es fs)
  read-runless [] (f ∷ fs) read_as h = absurd read_as
  read-runless (e ∷ es) [] read_as h = absurd read_as

  -- Sound elements.

  sound-element : (e f : Element) → IsReadAs source e f → IsElementRead source.bytes e → IsElementRead source.bytes f
  sound-element e f k h = grind (arith, good-leaf)

  sound-read : (elements read : List Element) → AreReadAs source elements read → AllAre (IsElementRead source.bytes) elements →
      AllAre (IsElementRead source.bytes) read
  sound-read [] [] read_as h = tt
  sound-read (e ∷ es) (f ∷ fs) read_as h = (sound-element e f read_as.0 h.0, sound-read es fs read_as.1 h.1)
  sound-read [] (f ∷ fs) read_as h = absurd read_as
  sound-read (e ∷ es) [] read_as h = absurd read_as

  -- the tree of labels of what is read is as the pass of runs wants it
  pub good-read : (elements read : List Element) → AreReadAs source elements read → AllAre (IsElementRead source.bytes) elements →
      IsGood source.bytes (labels_of read)
  good-read elements read read_as h = good-labels source.bytes read (sound-read elements read read_as h)

module _ (source : Source) (elements read : List Element) (read_as : AreReadAs source elements read) (s : Setting) (same_bytes : s.bytes ≡ source.bytes) (sound : AllAre (IsElementRead source.bytes) elements)
    (whole : leaf_codes (labels_of elements) ≡ source.content) where
  -- the setting in which the runs are paired
  abbrev there : Setting
  there = within source.content s

  neutral : (c : Code) → IsIntraword source c → c.stop.index ≡ c.start.index + 1 → IsNeutral there (c ∷ [])
  neutral c h e = intraword-neutral there c (subst (λ x. IsIntraword (record { bytes = x; content = source.content }) c) (sym same_bytes) h) e

  -- what is read covers the same codes
  whole_read : leaf_codes (labels_of read) ≡ source.content
  whole_read =
      sym (labels-as-read (λ t u. leaf_codes t ≡ leaf_codes u) (λ t. refl) (λ t u v h k. h ∙ k)
      (λ a name p q t u rest h. leaf_codes-row a (group_then name p q t rest) ∙ ap (λ xs. leaf_codes a ++ (xs ++ leaf_codes rest)) h ∙ sym (leaf_codes-row a (group_then name p q u rest)))
      source (λ a c b h e. leaf_codes-row a (leaf_then N.AttentionSequence None (c ∷ []) b) ∙ sym (leaf_codes-row a (leaf_then N.Data None (c ∷ []) b))) elements read read_as sound)
      ∙ whole

  -- Pairs.

  paired-alike : paired there (pair_list there) (labels_of read) ≡ paired there (pair_list there) (labels_of elements)
  paired-alike =
      sym (labels-as-read (λ t u. paired there (pair_list there) t ≡ paired there (pair_list there) u) (λ t. refl) (λ t u v h k. h ∙ k)
      (λ a name p q t u rest h. paired-inside there (pair_list there) name p q t u rest h a)
      source (λ a c b h e. neutral_is_data there a None c [] b (neutral c h e)) elements read read_as sound)

  -- in the setting of the content the pairs are those of the whole tree
  paired-there : (t : Forest) → leaf_codes t ≡ source.content → paired_whole s (pair_list s) t ≡ paired there (pair_list there) t
  paired-there t e = (λ i. paired (within (e i) s) (pair_list s) t) ∙ (λ i. paired there (sym (lists-within source.content s) i) t)

  pub paired-read : paired_whole s (pair_list s) (labels_of read) ≡ paired_whole s (pair_list s) (labels_of elements)
  paired-read = paired-there (labels_of read) whole_read ∙ paired-alike ∙ sym (paired-there (labels_of elements) whole)

  -- Counts.

  same-rows : (m : List Run → ℕ)
      → ((a : Forest) (c : Code) (b : Forest) → IsNeutral there (c ∷ []) → m (runs_of there (a ⊕ leaf_then N.AttentionSequence None (c ∷ []) b)) ≡ m (runs_of there (a ⊕ leaf_then N.Data None (c ∷ []) b)))
      → over_rows there m (labels_of elements) ≡ over_rows there m (labels_of read)
  same-rows m leaves =
      labels-as-read (λ t u. over_rows there m t ≡ over_rows there m u) (λ t. refl) (λ t u v h k. h ∙ k)
      (λ a name p q t u rest h. omega (arith, with-group there m a name p q t rest, with-group there m a name p q u rest, h))
      source (λ a c b h e. with-data there m a b (c ∷ []) (λ x y. x ≡ y) (λ k x y h. ap (λ z. z + k) h) (leaves a c b (neutral c h e))) elements read read_as sound

  -- the containers of the whole tree are its rows in the setting of the content
  over-there : (m : List Run → ℕ) (t : Forest) → leaf_codes t ≡ source.content → sum_by m (containers_of s t) ≡ over_rows there m t
  over-there m t e = λ i. over_rows (within (e i) s) m t

  same-counts : (m : List Run → ℕ)
      → ((a : Forest) (c : Code) (b : Forest) → IsNeutral there (c ∷ []) → m (runs_of there (a ⊕ leaf_then N.AttentionSequence None (c ∷ []) b)) ≡ m (runs_of there (a ⊕ leaf_then N.Data None (c ∷ []) b)))
      → sum_by m (containers_of s (labels_of elements)) ≡ sum_by m (containers_of s (labels_of read))
  same-counts m leaves = grind (arith, over-there, same-rows, whole_read)

  same-pairs : pair_count s (labels_of elements) ≡ pair_count s (labels_of read)
  same-pairs = grind (arith, same-counts, lists-within source.content s, neutral_row_count)

  same-openers : opener_count s (labels_of elements) ≡ opener_count s (labels_of read)
  same-openers = same-counts (count_by (λ r. r.may_open)) (λ a c b n. as-many-pass there a c [] b (λ r. r.may_open) n.may_not_open)

  same-closers : closer_count s (labels_of elements) ≡ closer_count s (labels_of read)
  same-closers = same-counts (count_by (λ r. r.may_close)) (λ a c b n. as-many-pass there a c [] b (λ r. r.may_close) n.may_not_close)

  fewer-rows : over_rows there length (labels_of read) ≤ over_rows there length (labels_of elements)
  fewer-rows =
      labels-as-read (λ t u. over_rows there length u ≤ over_rows there length t) (λ t. omega arith) (λ t u v h k. le_trans k h)
      (λ a name p q t u rest h. omega (arith, with-group there length a name p q t rest, with-group there length a name p q u rest, h))
      source (λ a c b h e. with-data there length a b (c ∷ []) (λ x y. y ≤ x) (λ k x y h. omega (arith, h)) (fewer-runs there a c [] b)) elements read read_as sound

  fewer : run_count s (labels_of read) ≤ run_count s (labels_of elements)
  fewer = omega (arith, fewer-rows, over-there length (labels_of read) whole_read, over-there length (labels_of elements) whole)

  fewer-looks : (m n p : ℕ) → m ≤ n → (m + p) * m ≤ (n + p) * n
  fewer-looks m n p h = mul-le-mul (omega (arith, h)) h

  -- so many looks as are within the bounds of what is read are within those of the definition's
  pub probed-read : (probes : ℕ) → IsProbed s (labels_of read) probes → IsProbed s (labels_of elements) probes
  probed-read probes k = grind (arith, same-pairs, same-openers, same-closers, fewer-looks, fewer)
