-- Stretches of a list of events, passed up to the next edit.
use Rattle.std.proofs.Common.{suc, zero, Option, Some, None, ◌≡◌, ◌≢◌, ℕ, ◌+◌, ◌-◌, ◌^◌, ◌<◌, ◌≤◌, true, false, cond, max, List, [], ◌∷◌, ◌++◌, length, take, drop, get_or, sym, ap, subst, ◌∙◌, arith, append_assoc, refl}
use Rattle.std.specs.List.{All}
use Rattle.std.specs.Option.{option_map}
use Rattle.std.proofs.lemmas.List.{take-append-drop, append-nil, length-take, length-drop, drop_more, drop-drop}
use Rattle.std.proofs.lemmas.Bool.{le-ltb, lt-ltb}
use Rattle.markdown_event.specs.declared.event.Event.{Event}
use Rattle.markdown_event.specs.declared.event.Link.{Link}
use Rattle.markdown_engine_events.specs.declared.util.edit_map.Edit.{Edit}
use Rattle.markdown_engine_events.specs.EventChains.{previous_link, link_previous, NamesNone, IsFresh}
use Rattle.markdown_engine_events.specs.Edits.{removed_at, added_at, is_removed, moved_number, moved, edited_from, edited, IsRest}
use Rattle.markdown_engine_events.proofs.EventChainLemmas.{fresh-unnamed}
use Rattle.markdown_engine_events.proofs.EditLemmas.{range_end, range-next, removed-test, found, step-kept, step-gone, KnowsRangeEnds}
use Rattle.markdown_engine_events.proofs.EditRules.{added-none, removed-none, edited_until, edited-split}

pub fresh-first : (xs : List Event) → All IsFresh xs → All NamesNone xs
fresh-first xs u = λ k d l. fresh-unnamed (get_or xs k d) (u k d l)

same-first : (f : ℕ → ℕ) (l : Option Link) → link_previous l ≡ None →
    previous_link (option_map f (link_previous l)) l ≡ l
same-first f None h = refl
same-first f (Some l) h = ap (λ (p : Option ℕ). Some (record l { previous = p })) (ap (option_map f) h ∙ sym h)

pub first-moved : (log : List Edit) (e : Event) → NamesNone e → moved log e ≡ e
first-moved log e h = ap (λ (l : Option Link). record e { link = l }) (same-first (moved_number log) e.link h)

-- events that stay, where nothing comes, and that name none before them
pub until-plain : (log : List Edit) (i : ℕ) (xs : List Event) →
    ((j : ℕ) → i ≤ j → j < i + length xs → added_at j log ≡ []) →
    ((j : ℕ) → i ≤ j → j < i + length xs → is_removed log j ≡ false) → All NamesNone xs → edited_until log i xs ≡ xs
until-plain log i [] a r u = refl
until-plain log i (x ∷ xs) a r u =
    ap (λ y. y ++ (cond (is_removed log i) [] (moved log x ∷ []) ++ edited_until log (suc i) xs)) (a i (omega arith) (omega arith)) ∙ ap (λ b. cond b [] (moved log x ∷ []) ++ edited_until log (suc i) xs) (r i (omega arith) (omega arith)) ∙ ap (λ y. y ∷ edited_until log (suc i) xs) (first-moved log x (u 0 x (omega arith))) ∙ ap (λ y. x ∷ y) (until-plain log (suc i) xs (λ j l h. a j (omega arith) (omega arith)) (λ j l h. r j (omega arith) (omega arith)) (λ k d l. u (suc k) d (omega arith)))

-- events that go, where nothing comes
pub until-gone : (log : List Edit) (i : ℕ) (xs : List Event) → ((j : ℕ) → i ≤ j → j < i + length xs → added_at j log ≡ []) →
    ((j : ℕ) → i ≤ j → j < i + length xs → is_removed log j ≡ true) → edited_until log i xs ≡ []
until-gone log i [] a r = refl
until-gone log i (x ∷ xs) a r =
    ap (λ y. y ++ (cond (is_removed log i) [] (moved log x ∷ []) ++ edited_until log (suc i) xs)) (a i (omega arith) (omega arith)) ∙ ap (λ b. cond b [] (moved log x ∷ []) ++ edited_until log (suc i) xs) (r i (omega arith) (omega arith)) ∙ until-gone log (suc i) xs (λ j l h. a j (omega arith) (omega arith)) (λ j l h. r j (omega arith) (omega arith))

-- A stretch with no edit, from place n up to place m.

module _ (log rest : List Edit) (es : List Event) (n m d : ℕ) (le : n ≤ m) (within : m ≤ length es) (left_over : IsRest n log rest) (ahead : All (λ e. m ≤ e.at) rest) where
  nowhere : (j : ℕ) → j < m → All (λ e. e.at ≢ j) rest
  nowhere j l = λ k x h e. let a = ahead k x h in omega arith

  quiet-added : (j : ℕ) → n ≤ j → j < m → added_at j log ≡ []
  quiet-added j l h = sym (left_over.added j l) ∙ added-none j rest (nowhere j h)

  quiet-removed : (j : ℕ) → n ≤ j → j < m → removed_at j log ≡ 0
  quiet-removed j l h = sym (left_over.removed j l) ∙ removed-none j rest (nowhere j h)

  range-quiet : (k : ℕ) → n + k ≤ m →
      (range_end log n ≤ range_end log (n + k)) × (range_end log (n + k) ≤ max (range_end log n) (n + k - 1))
  range-quiet zero h = let e : n + 0 ≡ n = omega arith in rw e (omega arith, omega arith)
  range-quiet (suc k) h =
      let e : n + suc k ≡ suc (n + k) = omega arith in
      let before = range-quiet k (omega arith) in
      let none = quiet-removed (n + k) (omega arith) (omega arith) in
      let low = before.0 in
      let high = before.1 in
      rw e (omega arith, omega arith)

  pub range-stretch : m < 2 ^ 64 → KnowsRangeEnds log n n d → KnowsRangeEnds log m m d
  range-stretch g h =
      let e : n + (m - n) ≡ m = omega arith in
      let bounds = range-quiet (m - n) (omega arith) in
      let low = bounds.0 in
      let high = bounds.1 in
      omega (arith, ap (range_end log) e)

  quiet-stays : m < 2 ^ 64 → KnowsRangeEnds log n n d → d ≤ n → (j : ℕ) → n ≤ j → j < m → is_removed log j ≡ false
  quiet-stays g h f j l k =
      let e : n + (j - n) ≡ j = omega arith in
      let bounds = range-quiet (j - n) (omega arith) in
      let high = bounds.1 in
      let none = quiet-removed j l k in
      let after : range_end log (suc j) ≤ j = omega (arith, ap (range_end log) e) in
      removed-test log j ∙ le-ltb j (range_end log (suc j)) after

  size-stretch : length (take (m - n) (drop n es)) ≡ m - n
  size-stretch = omega (arith, length-take (m - n) (drop n es), length-drop n es)

  cut-stretch : drop n es ≡ take (m - n) (drop n es) ++ drop m es
  cut-stretch =
      let e : n + (m - n) ≡ m = omega arith in
      sym (take-append-drop (m - n) (drop n es)) ∙ ap (λ x. take (m - n) (drop n es) ++ x) (drop-drop (m - n) n es ∙ ap (λ k. drop k es) e)

-- The same of events that name none before them.

module _ (log rest : List Edit) (es : List Event) (n m d : ℕ) (le : n ≤ m) (within : m ≤ length es) (left_over : IsRest n log rest) (ahead : All (λ e. m ≤ e.at) rest) (plain : All NamesNone (take (m - n) (drop n es))) where
  events-stretch : m < 2 ^ 64 → KnowsRangeEnds log n n d → (n < m → d ≤ n) → (done put : List Event) →
      done ++ edited_from log n (drop n es) ≡ edited log es → put ≡ done ++ take (m - n) (drop n es) →
      put ++ edited_from log m (drop m es) ≡ edited log es
  events-stretch g h f done put k s =
      let xs = take (m - n) (drop n es) in
      let size = size-stretch log rest es n m d le within left_over ahead in
      let same : m ≡ n + length xs = omega arith in
      let quiet = λ (j : ℕ) (low : n ≤ j) (high : j < n + length xs). quiet-added log rest es n m d le within left_over ahead j low (omega arith) in
      let still = λ (j : ℕ) (low : n ≤ j) (high : j < n + length xs). quiet-stays log rest es n m d le within left_over ahead g h (f (omega arith)) j low (omega arith) in
      ap (λ x. x ++ edited_from log m (drop m es)) s ∙ append_assoc done xs (edited_from log m (drop m es)) ∙ ap (λ x. done ++ (x ++ edited_from log m (drop m es))) (sym (until-plain log n xs quiet still plain)) ∙ ap (λ x. done ++ x) (sym (edited-split log n m xs (drop m es) same)) ∙ ap (λ x. done ++ edited_from log n x) (sym (cut-stretch log rest es n m d le within left_over ahead)) ∙ k

-- A stretch from a place at which the edits have been passed.

pub none-more : (xs ys es : List Event) (n m : ℕ) → m ≤ n → ys ≡ xs ++ take (m - n) (drop n es) → ys ≡ xs
none-more xs ys es n m l h = grind (arith, append-nil)

module _ (log rest : List Edit) (es : List Event) (i m d : ℕ) (le : i < m) (within : m ≤ length es) (left_over : IsRest (i + 1) log rest) (ahead : All (λ e. m ≤ e.at) rest) where
  pub range-behind : m < 2 ^ 64 → KnowsRangeEnds log i (i + 1) d → KnowsRangeEnds log m m d
  range-behind g h = range-stretch log rest es (i + 1) m d (omega arith) within left_over ahead g (range-next log i d h)

  -- all events of it go
  pub goes-behind : KnowsRangeEnds log i (i + 1) d → m ≤ d → (j : ℕ) → i ≤ j → j < m → is_removed log j ≡ true
  goes-behind h f j l k =
      let e : i + 1 + (j - i) ≡ suc j = omega arith in
      let bounds = range-quiet log rest es (i + 1) m d (omega arith) within left_over ahead (j - i) (omega arith) in
      let low = bounds.0 in
      let past : j < range_end log (suc j) = omega (arith, ap (range_end log) e) in
      removed-test log j ∙ lt-ltb j (range_end log (suc j)) past

  pub events-gone : KnowsRangeEnds log i (i + 1) d → m ≤ d → (done put : List Event) →
      done ++ edited_from log i (drop i es) ≡ edited log es → put ≡ done ++ added_at i log →
      put ++ edited_from log m (drop m es) ≡ edited log es
  events-gone h f done put k s =
      let xs = take (m - (i + 1)) (drop (i + 1) es) in
      let size = size-stretch log rest es (i + 1) m d (omega arith) within left_over ahead in
      let same : m ≡ i + 1 + length xs = omega arith in
      let quiet = λ (j : ℕ) (low : i + 1 ≤ j) (high : j < i + 1 + length xs). quiet-added log rest es (i + 1) m d (omega arith) within left_over ahead j low (omega arith) in
      let gone = λ (j : ℕ) (low : i + 1 ≤ j) (high : j < i + 1 + length xs). goes-behind h f j (omega arith) (omega arith) in
      ap (λ x. put ++ (x ++ edited_from log m (drop m es))) (sym (until-gone log (i + 1) xs quiet gone)) ∙ ap (λ x. put ++ x) (sym (edited-split log (i + 1) m xs (drop m es) same)) ∙ ap (λ x. put ++ edited_from log (i + 1) x) (sym (cut-stretch log rest es (i + 1) m d (omega arith) within left_over ahead)) ∙ step-gone log es i done put (omega arith) k s (goes-behind h f i (omega arith) le)

-- The same where its events stay, and name none before them.

module _ (log rest : List Edit) (es : List Event) (i m d : ℕ) (le : i < m) (within : m ≤ length es) (left_over : IsRest (i + 1) log rest) (ahead : All (λ e. m ≤ e.at) rest) (plain : All NamesNone (take (m - i) (drop i es))) where
  first : (e : Event) × (e ≡ get_or es i e)
  first = found es i (omega arith)

  cut-first : take (m - i) (drop i es) ≡ first.0 ∷ take (m - (i + 1)) (drop (i + 1) es)
  cut-first = grind (arith, drop_more, first)

  plain-both : All NamesNone (first.0 ∷ take (m - (i + 1)) (drop (i + 1) es))
  plain-both = subst (λ (xs : List Event). All NamesNone xs) cut-first plain

  plain-behind : All NamesNone (take (m - (i + 1)) (drop (i + 1) es))
  plain-behind = λ k x l. plain-both (suc k) x (omega arith)

  pub events-first : m < 2 ^ 64 → KnowsRangeEnds log i (i + 1) d → d ≤ i → is_removed log i ≡ false →
      (done put more : List Event) → done ++ edited_from log i (drop i es) ≡ edited log es →
      put ≡ done ++ added_at i log → more ≡ put ++ take (m - i) (drop i es) →
      more ++ edited_from log m (drop m es) ≡ edited log es
  events-first g h f stays done put more k s t =
      let kept_first = step-kept log es i done put (omega arith) k s first.0 first.0 first.1 (sym (first-moved log first.0 (plain-both 0 first.0 (omega arith)))) stays in
      events-stretch log rest es (i + 1) m d (omega arith) within left_over ahead plain-behind g (range-next log i d h) (λ l. omega arith) (put ++ first.0 ∷ []) more kept_first (t ∙ ap (λ x. put ++ x) cut-first ∙ sym (append_assoc put (first.0 ∷ []) (take (m - (i + 1)) (drop (i + 1) es))))
