use Rattle.std.proofs.Common.{◌∙◌, ◌≡◌, ◌&&◌, refl, ap, sym, subst, not, if◌then◌else◌, None, length}
use Rattle.std.specs.Prelude.{option_map}
use Rattle.markdown_block_model.specs.BlockTree.{Tree, and_leaf}
use Rattle.markdown_blocks.specs.TreeDepth.{inside_at, at_depth}
use Rattle.markdown_blocks.specs.BlockRows.{leaf_of}
use Rattle.markdown_page.specs.declared.lists.Walk.{Walk}
use Rattle.markdown_page.specs.ListWalks.{IsWalked, is_blank_leaf, places_so_far, item_of}
use Rattle.markdown_page.proofs.ListSteps.{appended-leaf, walked-leaf}
use Rattle.markdown_page.proofs.lists.Walk.put_leaf.Goals.{then-self, else-self, then-not-is_blank, else-not-is_blank}
use Rattle.markdown_page.proofs.lists.Walk.put_leaf.Goals as goal

pub returns-clause-walked : goal.returns-clause-walked
returns-clause-walked c = λ t h.
    let w = c.leave.new.self in
    let walked = c.leave.ensures.walked t h in
    let l = leaf_of c.args.document.now c.args.leaf.now in
    let n = length w.path.items in
    let f : Tree → Tree = λ s. and_leaf s l in
    let is : c.is_blank-is_blank.result ≡ is_blank_leaf l = c.is_blank-is_blank.ensures c.args.document.now in
    let apart : c.if-self.put ≡ (w.ends_with_blank && not (is_blank_leaf l)) =
    elim c.if-self.branch [ then-self v ↦ rw v.if-self.true (v.put-is ∙ ap not is) | else-self v ↦ rw v.if-self.false (v.put-is ∙ v.if-self.false) ] in
    let put : c.put.new.self.places.items ≡ places_so_far (at_depth n f t) = c.in_ok-put.ensures.places t f walked (appended-leaf (inside_at n t) l c.if-self.put (apart ∙ ap (λ v. v && not (is_blank_leaf l)) walked.blank)) in
    let path : c.if-not-is_blank.self.path.items ≡ w.path.items =
    elim c.if-not-is_blank.branch [ then-not-is_blank v ↦ rw (v.self-is, c.in_ok-put.ensures.path) refl | else-not-is_blank v ↦ rw (v.self-is, c.in_ok-put.ensures.path) refl ] in
    let places : c.if-not-is_blank.self.places.items ≡ places_so_far (at_depth n f t) = elim c.if-not-is_blank.branch [ then-not-is_blank v ↦ rw v.self-is put | else-not-is_blank v ↦ rw v.self-is put ] in
    let last : option_map item_of c.if-not-is_blank.self.last ≡ (if is_blank_leaf l then option_map item_of w.last else None) =
    elim c.if-not-is_blank.branch [
      | then-not-is_blank v ↦ rw (v.self-is, sym is ∙ v.if-not-is_blank.true) refl
      | else-not-is_blank v ↦ rw (v.self-is, sym is ∙ v.if-not-is_blank.false, c.in_ok-put.ensures.last) refl
    ] in
    let after : Walk = record { places = c.if-not-is_blank.self.places; path = c.if-not-is_blank.self.path; last = c.if-not-is_blank.self.last; ends_with_blank = c.ends_with_blank-self.result } in
    subst (λ k. IsWalked (at_depth k f t) after) c.leave.ensures.depth (walked-leaf t w after l walked path places last c.ends_with_blank-self.ensures)
