-- The leaves of a filled tree have all codes.
use Rattle.std.proofs.Common.{◌≡◌, refl, ap, ◌∙◌, List, ◌++◌, length, take, drop, append_assoc}
use Rattle.std.proofs.lemmas.List.{take-append-drop}
use Rattle.markdown_event.specs.declared.event.Point.{Point}
use Rattle.markdown_content.specs.Codes.{Code, is_code_before, place_of}
use Rattle.markdown_content.specs.Tree.{Forest, empty, leaf_then, group_then, ◌⊕◌, start_of, leaf_codes}
use Rattle.markdown_content.proofs.TreeCodes.{leaf_codes-row}
use Rattle.markdown_model.proofs.LeafCodes.{span-append}
use Rattle.markdown_block_model.specs.WholeForests.{cut_at, filled, LeavesHaveAllCodes}

-- a gap, what stands behind it, and further siblings
three : (a b c r w : List Code) → c ++ r ≡ w → (a ++ (b ++ c)) ++ r ≡ a ++ (b ++ w)
three a b c r w h = append_assoc a (b ++ c) r ∙ ap (λ x. a ++ x) (append_assoc b c r ∙ ap (λ x. b ++ x) h)

cut-whole : (p : Point) (cs : List Code) → (cut_at p cs).0 ++ (cut_at p cs).1 ≡ cs
cut-whole p cs = span-append (is_code_before (place_of p)) cs

covers : (gap : List Code → Forest) → ((some : List Code) → leaf_codes (gap some) ≡ some) → (cs : List Code) (t : Forest)
    → leaf_codes (filled gap cs t).0 ++ (filled gap cs t).1 ≡ cs
covers gap g cs empty = refl
covers gap g cs (leaf_then name link codes rest) =
    let cut = cut_at (start_of codes) cs in
    let n = length codes in
    let more = filled gap (drop n cut.1) rest in
    ap (λ x. x ++ more.1) (leaf_codes-row (gap cut.0) (leaf_then name link (take n cut.1) more.0) ∙ ap (λ x. x ++ (take n cut.1 ++ leaf_codes more.0)) (g cut.0))
    ∙ (three cut.0 (take n cut.1) (leaf_codes more.0) more.1 (drop n cut.1) (covers gap g (drop n cut.1) rest)
    ∙ (ap (λ x. cut.0 ++ x) (take-append-drop n cut.1) ∙ cut-whole (start_of codes) cs))
covers gap g cs (group_then name enter exit inside rest) =
    let cut = cut_at enter cs in
    let within = filled gap cut.1 inside in
    let end = cut_at exit within.1 in
    let more = filled gap end.1 rest in
    let inner : leaf_codes (within.0 ⊕ gap end.0) ≡ leaf_codes within.0 ++ end.0 =
    leaf_codes-row within.0 (gap end.0) ∙ ap (λ x. leaf_codes within.0 ++ x) (g end.0) in
    let front : leaf_codes (gap cut.0 ⊕ group_then name enter exit (within.0 ⊕ gap end.0) more.0) ≡ cut.0 ++ ((leaf_codes within.0 ++ end.0) ++ leaf_codes more.0) =
    leaf_codes-row (gap cut.0) (group_then name enter exit (within.0 ⊕ gap end.0) more.0)
    ∙ (ap (λ x. x ++ (leaf_codes (within.0 ⊕ gap end.0) ++ leaf_codes more.0)) (g cut.0) ∙ ap (λ x. cut.0 ++ (x ++ leaf_codes more.0)) inner) in
    let middle : (leaf_codes within.0 ++ end.0) ++ end.1 ≡ cut.1 =
    append_assoc (leaf_codes within.0) end.0 end.1 ∙ (ap (λ x. leaf_codes within.0 ++ x) (cut-whole exit within.1) ∙ covers gap g cut.1 inside) in
    ap (λ x. x ++ more.1) front
    ∙ (three cut.0 (leaf_codes within.0 ++ end.0) (leaf_codes more.0) more.1 end.1 (covers gap g end.1 rest)
    ∙ (ap (λ x. cut.0 ++ x) middle ∙ cut-whole enter cs))

pub leaves_have_all_codes : LeavesHaveAllCodes
leaves_have_all_codes gap cs t g =
    let f = filled gap cs t in
    leaf_codes-row f.0 (gap f.1) ∙ (ap (λ x. leaf_codes f.0 ++ x) (g f.1) ∙ covers gap g cs t)
