use Rattle.std.proofs.Common.{◌≡◌, ◌∙◌, ap, sym, ℕ, suc, ◌+◌, ◌-◌, List, ◌++◌, length, length-append, append_assoc, append-nil, replicate, arith}
use Rattle.std.proofs.lemmas.List.{length-replicate}
use Rattle.markdown_block_model.specs.BlockTree.{nothing}
use Rattle.markdown_block_model.specs.BlockLines.{block_count}
use Rattle.markdown_blocks.specs.BlockRows.{whole_tree}
use Rattle.markdown_blocks.specs.LinesLeft.{begins_on}
use Rattle.markdown_blocks.proofs.ReaderCounts.{count-rows, count-read}
use Rattle.markdown_blocks.proofs.DocumentTrees.{read-all, begins-all}
use Rattle.markdown_blocks.proofs.document.blocks.Goals as goal

pub loop-point-init : goal.loop-point-init
loop-point-init g c = c.in_ok-reader.ensures g.T.HasText.has_text

pub loop-point-preserved : goal.loop-point-preserved
loop-point-preserved g c =
    let bytes = c.args.bytes.now in
    let has_text = g.T.HasText.has_text in
    let l = c.loop-point in
    let stop = c.in_ok-point in
    let r = c.read_line_at.new.reader in
    let before = block_count (whole_tree bytes l.reader) in
    let after = block_count (whole_tree bytes r) in
    let counted : after ≡ c.count.result = count-read bytes r stop.ensures.between stop.ensures.texts.0.1 ∙ sym c.count.ensures in
    let noted : c.note_line.new.lines.items ≡ l.lines.items ++ replicate (after - before) l.number =
    c.in_ok-note_line.ensures ∙ ap (λ k. l.lines.items ++ replicate k l.number) (omega (arith, counted, l.invariant.lined)) in
    let next : suc l.number ≡ l.number + 1 = omega arith in
    record {
      is_point = stop.ensures.is_point;
      between = stop.ensures.between;
      characters = stop.ensures.characters;
      texts = stop.ensures.texts;
      same = stop.ensures.same ∙ l.invariant.same;
      begins =
          ap (λ (ls : List ℕ). ls ++ begins_on c.args.extensions has_text (l.number + 1) bytes r stop.point) noted
          ∙ append_assoc l.lines.items (replicate (after - before) l.number) (begins_on c.args.extensions has_text (l.number + 1) bytes r stop.point)
          ∙ ap (λ n. l.lines.items ++ (replicate (after - before) l.number ++ begins_on c.args.extensions has_text n bytes r stop.point)) (sym next)
          ∙ ap (λ ls. l.lines.items ++ ls) (sym (stop.ensures.begins l.number))
          ∙ l.invariant.begins;
      lined =
          ap length noted ∙ length-append l.lines.items (replicate (after - before) l.number)
          ∙ omega (arith, l.invariant.lined, length-replicate (after - before) l.number, stop.ensures.more);
      numbered = omega (arith, l.invariant.numbered, stop.ensures.forward);
    }

pub returns-clause-tree : goal.returns-clause-tree
returns-clause-tree g c =
    let bytes = c.args.bytes.now in
    let l = c.loop-point in
    c.in_ok-put_open.ensures.tree bytes ∙ sym (read-all c.args.extensions g.T.HasText.has_text bytes l.reader l.point l.invariant.is_point c.loop-point-test.false) ∙ l.invariant.same

pub returns-clause-texts : goal.returns-clause-texts
returns-clause-texts g c = (c.in_ok-put_open.ensures.texts c.args.bytes.now c.loop-point.point c.loop-point.invariant.between c.loop-point.invariant.texts).0

pub returns-clause-nested : goal.returns-clause-nested
returns-clause-nested g c = (c.in_ok-put_open.ensures.texts c.args.bytes.now c.loop-point.point c.loop-point.invariant.between c.loop-point.invariant.texts).1

pub returns-clause-begins : goal.returns-clause-begins
returns-clause-begins g c =
    let l = c.loop-point in
    sym (append-nil l.lines.items)
    ∙ ap (λ ls. l.lines.items ++ ls) (sym (begins-all c.args.extensions g.T.HasText.has_text l.number c.args.bytes.now l.reader l.point l.invariant.is_point c.loop-point-test.false))
    ∙ l.invariant.begins

pub returns-clause-lined : goal.returns-clause-lined
returns-clause-lined g c =
    let bytes = c.args.bytes.now in
    let l = c.loop-point in
    let rows = c.put_open.new.reader.rows.items in
    let nested = (c.in_ok-put_open.ensures.texts bytes l.point l.invariant.between l.invariant.texts).1 in
    l.invariant.lined ∙ ap block_count (sym (c.in_ok-put_open.ensures.tree bytes)) ∙ omega (arith, count-rows bytes rows nothing nested)
