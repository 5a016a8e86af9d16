-- What holds of data, of the markers and the groups of pairs, and of rows of these, holds of a word of markers that is grouped.
use Rattle.std.proofs.Common.{ℕ, List, [], ◌∷◌, ◌++◌, length, take, drop, reverse, map, sum_by, arith}
use Rattle.markdown_event.specs.declared.event.Name.{Name}
use Rattle.markdown_event.specs.declared.event.Point.{Point}
use Rattle.markdown_content.specs.Codes.{Code, stop_of, document_start}
use Rattle.markdown_content.specs.Tree.{Forest, empty, group_then, leaf, text_group, start_of, ◌⊕◌}
use Rattle.markdown_model.specs.BracketGroups.{Token, opens, closes, nested, joined, loose, pair_names, pair_group, cut_front, run_tokens, assembled}
use Rattle.markdown_model.specs.Pairs.{Pair}
use Rattle.markdown_model.specs.Runs.{Run, marker_of}
use Rattle.markdown_model.proofs.BracketGroupFacts.{AllHave, joined-has, WordHas, nested-has}

-- of markers nothing is asked
abbrev pub Any : List Code → Type 0
Any cs = Unit {0}

pub any-parts : (n : ℕ) (cs : List Code) → Any cs → Any (take n cs) × Any (drop n cs)
any-parts n cs h = (tt, tt)

-- `IsMarker` is what is asked of them, and of parts of them
module _ (P : Forest → Type 0) (IsMarker : List Code → Type 0) (plain : (cs : List Code) → IsMarker cs → P (leaf Name.Data cs)) where
  abbrev pub HasWord : List Token → Type 0
  HasWord w = WordHas P IsMarker IsMarker w

  module _ (parts : (n : ℕ) (cs : List Code) → IsMarker cs → IsMarker (take n cs) × IsMarker (drop n cs)) where
    abbrev AllMarkers : List (List Code) → Type 0
    AllMarkers [] = Unit {0}
    AllMarkers (cs ∷ more) = IsMarker cs × AllMarkers more

    cut-has : (sizes : List ℕ) (cs : List Code) → IsMarker cs →
        AllMarkers (cut_front sizes cs).0 × IsMarker (cut_front sizes cs).1
    cut-has [] cs h = (tt, h)
    cut-has (n ∷ ns) cs h =
        let p = parts n cs h in
        let r = cut-has ns (drop n cs) p.1 in
        ((p.0, r.0), r.1)

    closes-has : (cs : List (List Code)) (w : List Token) → AllMarkers cs → HasWord w → HasWord (map closes cs ++ w)
    closes-has [] w l h = h
    closes-has (c ∷ cs) w l h = (l.0, closes-has cs w l.1 h)

    opens-has : (cs : List (List Code)) → AllMarkers cs → HasWord (map opens cs)
    opens-has [] l = tt
    opens-has (c ∷ cs) l = (l.0, opens-has cs l.1)

    pub run-has : (ps : List Pair) (n : ℕ) (r : Run) → IsMarker r.codes → HasWord (run_tokens ps n r)
    run-has ps n r h = grind (arith, reverse, sum_by, cut-has, closes-has, opens-has)

  module _ (none : P empty) (row : (t u : Forest) → P t → P u → P (t ⊕ u)) (sequence : (m n : ℕ) (cs : List Code) → IsMarker cs → P (leaf (pair_names m n).1 cs))
      (whole : (m n : ℕ) (a b : Point) (f : Forest) → P f → P (group_then (pair_names m n).0 a b f empty))
      (text : (m n : ℕ) (a b : Point) (f : Forest) → P f → P (group_then (pair_names m n).2 a b f empty)) where
    pair-has : (front : List Code) (inside : List Forest) (back : List Code) → IsMarker front → AllHave P inside →
        IsMarker back → AllHave P (pair_group front inside back)
    pair-has front inside back f h b = (
      whole m n _ _ (leaf names.1 front ⊕ T ⊕ leaf names.1 back)
          (row (leaf names.1 front) (T ⊕ leaf names.1 back) (sequence m n front f) (row T (leaf names.1 back) (text m n _ _ (joined inside) (joined-has P none row inside h)) (sequence m n back b))),
      tt,
    )
      where
        m : ℕ
        m = marker_of front

        n : ℕ
        n = length front

        names : Name × Name × Name
        names = pair_names m n

        T : Forest
        T = text_group names.2 (stop_of document_start front) (start_of back) (joined inside)

    pub assembled-has : (w : List Token) → HasWord w → P (assembled w)
    assembled-has w h =
        joined-has P none row (nested pair_group loose loose w) (nested-has P IsMarker IsMarker pair_group loose loose pair-has (λ o k. (plain o k, tt)) (λ c k. (plain c k, tt)) w h)
