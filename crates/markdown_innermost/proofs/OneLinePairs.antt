-- Trees on lines with their pairs grouped: the text of a pair without a code stands between its markers.
use Rattle.std.proofs.Common.{◌≡◌, ℕ, suc, List, [], ◌∷◌, ◌++◌, length, inl, inr, refl, sym, ap, ◌∙◌, append-nil}
use Rattle.std.specs.List.{list_any}
use Rattle.markdown_content.specs.Codes.{Code, document_start, is_line_ending, stop_of}
use Rattle.markdown_content.specs.Tree.{Forest, empty, leaf_then, group_then, leaf, leaf_codes, ◌⊕◌, group, text_group, start_of}
use Rattle.markdown_event.specs.declared.event.Name.{Name}
use Rattle.markdown_event.specs.declared.event.Name.TheVariants as N
use Rattle.markdown_event.specs.declared.event.Point.{Point}
use Rattle.markdown_attention.specs.TokenWord.{Matches, AreItems, IsFlat, IsPairable}
use Rattle.markdown_model.specs.BracketGroups.{item, opens, closes, nested, joined, loose, pair_names, pair_group, Token, assembled, run_tokens, tokens_of, paired}
use Rattle.markdown_model.specs.Pairs.{Pair}
use Rattle.markdown_model.specs.Runs.{Run, marker_of, run_of, runs_of}
use Rattle.markdown_model.specs.Setting.{Setting}
use Rattle.markdown_model.proofs.PassesKeepCodes.{codes-pair_group, codes-assembled, codes-tokens_of, codes-run_of}
use Rattle.markdown_model.proofs.BracketSums.{codes-joined}
use Rattle.markdown_model.specs.CodeLines.{IsLine, IsSomeLine}
use Rattle.markdown_innermost.specs.OneLineLeaves.{IsLined, HoldsOrIsBetween, IsApartTree}
use Rattle.markdown_innermost.proofs.OneLineLabels.{apart-in, apart-joined, apart-loose, stands-between}
use Rattle.markdown_innermost.proofs.OneLineTrees.{line-parts, lined-group, lined-leaf, lined-row}
use Rattle.markdown_model.proofs.PairGroupFacts.{run-has}
use Rattle.markdown_model.proofs.BracketGroupFacts.{AllHave, WordHas, word-append, nested-has}

module _ (B : Point → Point → Type 0) where
  module _ (front : List Code) (inside : List Forest) (back : List Code) (f : IsSomeLine front) (h : AllHave (IsApartTree B) inside) (b : IsSomeLine back) where
    abbrev names : Name × Name × Name
    names = pair_names (marker_of front) (length front)

    abbrev pair_text : Forest
    pair_text = text_group names.2 (stop_of document_start front) (start_of back) (joined inside)

    abbrev whole_pair : Forest
    whole_pair = group names.0 (leaf names.1 front ⊕ pair_text ⊕ leaf names.1 back)

    codes : leaf_codes whole_pair ≡ front ++ (leaf_codes (joined inside) ++ back)
    codes = sym (append-nil (leaf_codes whole_pair)) ∙ codes-pair_group front inside back ∙ ap (λ x. front ++ (x ++ back)) (sym (codes-joined inside))

    abbrev F : Point → Point → Type 0
    F = HoldsOrIsBetween B (leaf_codes whole_pair)

    text-stands : leaf_codes (joined inside) ≡ [] → F (stop_of document_start front) (start_of back)
    text-stands e =
        stands-between B (leaf_codes whole_pair) [] front back []
        (codes ∙ ap (λ x. front ++ (x ++ back)) e ∙ ap (λ x. front ++ x) (sym (append-nil back))) f b.0

    text : IsLined F pair_text
    text = (text-stands, (apart-in B (leaf_codes whole_pair) front back (joined inside) codes (apart-joined B inside h), tt))

    apart-pair : IsApartTree B whole_pair
    apart-pair =
        lined-group F names.0 _ _ names.1 front (pair_text ⊕ leaf names.1 back) f.0 (lined-row F (leaf names.1 front) (pair_text ⊕ leaf names.1 back) (lined-leaf F names.1 front f.1) (lined-row F pair_text (leaf names.1 back) text (lined-leaf F names.1 back b.1)))

  -- Words.

  -- brackets of a flat word are not empty
  matches-some : (keys : List (ℕ × ℕ)) (w : List Token) → Matches keys w → WordHas (IsApartTree B) IsLine IsLine w →
      WordHas (IsApartTree B) IsSomeLine IsSomeLine w
  matches-some keys [] m h = tt
  matches-some keys (item t ∷ w) m h = (h.0, matches-some keys w m.1 h.1)
  matches-some keys (opens o ∷ w) m h = ((m.0, h.0), matches-some _ w m.1 h.1)
  matches-some [] (closes c ∷ w) m h = absurd m
  matches-some (key ∷ keys) (closes c ∷ w) m h = ((m.0, h.0), matches-some keys w m.1.1 h.1)

  items-some : (w : List Token) → AreItems w → WordHas (IsApartTree B) IsLine IsLine w →
      WordHas (IsApartTree B) IsSomeLine IsSomeLine w
  items-some [] m h = tt
  items-some (item t ∷ w) m h = (h.0, items-some w m h.1)
  items-some (opens o ∷ w) m h = absurd m
  items-some (closes c ∷ w) m h = absurd m

  flat-some : (w : List Token) → IsFlat w → WordHas (IsApartTree B) IsLine IsLine w →
      WordHas (IsApartTree B) IsSomeLine IsSomeLine w
  flat-some w (inl m) h = matches-some [] w m h
  flat-some w (inr m) h = items-some w m h

  apart-assembled : (w : List Token) → IsFlat w → WordHas (IsApartTree B) IsLine IsLine w → IsApartTree B (assembled w)
  apart-assembled w m h =
      apart-joined B (nested pair_group loose loose w)
      (nested-has (IsApartTree B) IsSomeLine IsSomeLine pair_group loose loose (λ o inside c f k b. (apart-pair o inside c f k b, tt)) (λ o k. apart-loose B o k.1) (λ c k. apart-loose B c k.1) w (flat-some w m h))

  -- Trees.

  data-has : (cs : List Code) → IsLine cs → IsApartTree B (leaf N.Data cs)
  data-has cs h = (apart-loose B cs h).0

  module _ (s : Setting) (pairs_of : List Run → List Pair) where
    tokens-has : (t : Forest) (ps : List Pair) (n : ℕ) → IsPairable s pairs_of t → IsLined B t →
        WordHas (IsApartTree B) IsLine IsLine (tokens_of s pairs_of t ps n)
    unfolding tokens_of
    tokens-has empty ps n r h = tt
    tokens-has (leaf_then N.AttentionSequence link cs rest) ps n r h =
        word-append (IsApartTree B) IsLine IsLine (run_tokens ps n (run_of s cs)) (tokens_of s pairs_of rest ps (suc n))
        (run-has (IsApartTree B) IsLine data-has line-parts ps n (run_of s cs) (ap (list_any is_line_ending) (codes-run_of s cs) ∙ h.0.1 refl)) (tokens-has rest ps (suc n) r.1 h.1)
    tokens-has (leaf_then name link cs rest) ps n r h = ((h.0, tt), tokens-has rest ps n r.1 h.1)
    tokens-has (group_then name a b inside rest) ps n r h =
        let w : List Token = tokens_of s pairs_of inside (pairs_of (runs_of s inside)) 0 in
        let same : leaf_codes (assembled w) ≡ leaf_codes inside = codes-assembled w ∙ codes-tokens_of s pairs_of inside (pairs_of (runs_of s inside)) 0 in
        let k : IsApartTree B (assembled w) = apart-assembled w r.0.1 (tokens-has inside (pairs_of (runs_of s inside)) 0 r.1.0 h.1.0) in
        (((λ e. inl (h.0 (sym same ∙ e))), (apart-in B (leaf_codes (assembled w) ++ []) [] [] (assembled w) refl k, tt)), tokens-has rest ps n r.1.1 h.1.1)

    pub apart-paired : (t : Forest) → IsFlat (tokens_of s pairs_of t (pairs_of (runs_of s t)) 0) →
        IsPairable s pairs_of t → IsLined B t → IsApartTree B (paired s pairs_of t)
    unfolding paired
    apart-paired t m r h =
        apart-assembled (tokens_of s pairs_of t (pairs_of (runs_of s t)) 0) m (tokens-has t (pairs_of (runs_of s t)) 0 r h)
