use Rattle.std.proofs.Common.{◌≡◌, ◌∙◌, sym, ap, ◌||◌, ◌&&◌, true, false, get_or, subst, arith}
use Rattle.markdown_content.specs.Codes.{is_line_ending_byte}
use Rattle.markdown_model.specs.LabelEnd.{is_blank_byte}
use Rattle.markdown_label_names.proofs.LongLabels.{counting-end, counting-past, counting-start, counting-step, IsCounting}
use Rattle.markdown_label_names.proofs.label_text.is_too_long.Goals as goal
use Rattle.markdown_label_names.proofs.label_text.is_too_long.Goals.{then-begins_counted+else-left-eq0, else-begins_counted, then-is_line_ending, else-is_line_ending+then-indent, else-is_line_ending+else-indent}

pub loop-byte-init : goal.loop-byte-init
loop-byte-init c = omega (arith, counting-start c.args.kind c.args.text.now c.is_footnote.result c.is_footnote.ensures)

pub returns-then-left-eq0 : goal.returns-then-left-eq0
returns-then-left-eq0 c =
    counting-past c.args.kind c.args.text.now c.loop-byte.byte-index c.loop-byte.indent c.loop-byte.returned c.loop-byte-test.true
    (subst (λ left. IsCounting c.args.kind c.args.text.now c.loop-byte.byte-index left c.loop-byte.indent c.loop-byte.returned) c.if-left-eq0.true c.loop-byte.invariant)
    (sym c.if-begins_counted.true ∙ c.begins_counted.ensures)

pub loop-byte-preserved : goal.loop-byte-preserved
loop-byte-preserved c =
    let i = c.loop-byte.byte-index in
    let b = get_or c.args.text.now i 0 in
    let indent : c.if-is_line_ending.indent ≡ (is_line_ending_byte b || (c.loop-byte.indent && is_blank_byte b)) =
    elim c.if-is_line_ending.branch [
      | then-is_line_ending w ↦ w.indent-is ∙ w.if-is_line_ending.true ∙ ap (λ t. t || (c.loop-byte.indent && is_blank_byte b)) (sym w.if-is_line_ending.true ∙ c.is_line_ending.ensures)
      | else-is_line_ending+then-indent w ↦
          let none : false ≡ is_line_ending_byte b = sym w.if-is_line_ending.false ∙ c.is_line_ending.ensures in
          w.indent-is ∙ w.is_blank.ensures ∙ (λ j. none j || (sym w.if-indent.true j && is_blank_byte b))
      | else-is_line_ending+else-indent w ↦
          let none : false ≡ is_line_ending_byte b = sym w.if-is_line_ending.false ∙ c.is_line_ending.ensures in
          w.indent-is ∙ w.if-indent.false ∙ (λ j. none j || (sym w.if-indent.false j && is_blank_byte b))
    ] in
    elim c.if-begins_counted.branch [
      | then-begins_counted+else-left-eq0 w ↦
          counting-step c.args.kind c.args.text.now i c.loop-byte.left c.if-begins_counted.left c.loop-byte.indent c.loop-byte.returned c.if-is_line_ending.indent true c.loop-byte-test.true c.loop-byte.invariant
          (sym w.if-begins_counted.true ∙ c.begins_counted.ensures) (omega (arith, w.left-is, w.if-left-eq0.false)) indent
      | else-begins_counted w ↦
          counting-step c.args.kind c.args.text.now i c.loop-byte.left c.if-begins_counted.left c.loop-byte.indent c.loop-byte.returned c.if-is_line_ending.indent false c.loop-byte-test.true c.loop-byte.invariant
          (sym w.if-begins_counted.false ∙ c.begins_counted.ensures) (omega (arith, w.left-is)) indent
    ]

pub returns : goal.returns
returns c = counting-end c.args.kind c.args.text.now c.loop-byte.byte-index c.loop-byte.left c.loop-byte.indent c.loop-byte.returned (omega (arith, c.loop-byte-test.false)) c.loop-byte.invariant
