-- A tree with all codes of a document: those that no leaf of it has become leaves where they stand.
use Rattle.std.specs.Prelude.{◌≡◌, List, length, take, drop}
use Rattle.markdown_event.specs.declared.event.Point.{Point}
use Rattle.markdown_content.specs.Codes.{Code, is_code_before, place_of}
use Rattle.markdown_content.specs.Tree.{Forest, empty, leaf_then, group_then, ◌⊕◌, start_of, leaf_codes}
use Rattle.markdown_model.specs.Grammar.{span}

-- the codes before a place, and those from there on
abbrev pub cut_at : Point → List Code → List Code × List Code
cut_at p cs = span (is_code_before (place_of p)) cs

-- The siblings with leaves for the codes that stand before or between their leaves, and the codes behind them. `gap` says which leaves. Codes before the place at which
-- a group begins stand before it, and those before the place at which it ends stand in it.
abbrev pub filled : (List Code → Forest) → List Code → Forest → Forest × List Code
filled gap cs empty = (empty, cs)
filled gap cs (leaf_then name link codes rest) =
    let cut = cut_at (start_of codes) cs in
    let more = filled gap (drop (length codes) cut.1) rest in
    (gap cut.0 ⊕ leaf_then name link (take (length codes) cut.1) more.0, more.1)
filled gap cs (group_then name enter exit inside rest) =
    let cut = cut_at enter cs in
    let within = filled gap cut.1 inside in
    let end = cut_at exit within.1 in
    let more = filled gap end.1 rest in
    (gap cut.0 ⊕ group_then name enter exit (within.0 ⊕ gap end.0) more.0, more.1)

abbrev pub whole : (List Code → Forest) → List Code → Forest → Forest
whole gap cs t = let f = filled gap cs t in f.0 ⊕ gap f.1

-- the leaves have all codes, each once and in order
abbrev pub LeavesHaveAllCodes : Type 0
LeavesHaveAllCodes =
    (gap : List Code → Forest) (cs : List Code) (t : Forest) → ((some : List Code) → leaf_codes (gap some) ≡ some) → leaf_codes (whole gap cs t) ≡ cs
