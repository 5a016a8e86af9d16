use Rattle.std.proofs.Common.{◌≡◌, ◌∙◌, refl, sym, ap, arith, List, ◌∷◌, [], ◌++◌, map, length-append}
use Rattle.std.proofs.lemmas.List.{map-append}
use Rattle.markdown_content.specs.Codes.{Code, codes_of, place_of}
use Rattle.markdown_content.specs.Content.{piece_codes}
use Rattle.markdown_content.specs.DocumentWalk.{codes_after}
use Rattle.markdown_content.proofs.DocumentPlaces.{codes-point, stands-point}
use Rattle.markdown_content.proofs.DocumentWalkLemmas.{past-end}
use Rattle.markdown_block_model.specs.LineRests.{lines_of}
use Rattle.markdown_block_model.specs.FrontMatter.{matter_before}
use Rattle.markdown_block_line.specs.DocumentLines.{line_from}
use Rattle.markdown_blocks.proofs.MatterLemmas.{onto_lines, onto-none, before-line, before-fence, before-end}
use Rattle.markdown_blocks.proofs.PlacedPieces.{next-lines, lines-end, no-lines, line-between}
use Rattle.markdown_blocks.proofs.matter.lines_before.Goals as goal

pub loop-point-init : goal.loop-point-init
loop-point-init c = rw c.new-lines.ensures.items (record {
  is_point = c.requires.is_point;
  between = c.requires.between;
  placed = no-lines c.args.bytes.now;
  ends = λ _. tt;
  counted = omega arith;
  same = onto-none (matter_before c.args.marker (lines_of (codes_after c.args.bytes.now (place_of c.args.start))));
})

pub line_at-requires-clause-is_point : goal.line_at-requires-clause-is_point
line_at-requires-clause-is_point c = c.loop-point.invariant.is_point

pub returns-then-is_matter_fence : goal.returns-then-is_matter_fence
returns-then-is_matter_fence c =
    let bytes = c.args.bytes.now in
    let l = c.loop-point in
    let line = c.in_ok-line.ensures in
    let fence = sym (c.is_matter_fence.ensures (line_from bytes l.point) line.values) ∙ c.if-is_matter_fence.true in (
      l.invariant.same ∙ before-fence c.args.marker _ (map (piece_codes (codes_of bytes)) l.lines.items) _ _ line.line.lines fence,
      record {
        is_point = line.line.is_point;
        between = line-between bytes l.point _ l.invariant.is_point line.line;
        placed = l.invariant.placed;
        counted = omega (arith, l.invariant.counted, line.line.forward);
      },
    )

pub new-requires-clause-is_point : goal.new-requires-clause-is_point
new-requires-clause-is_point c = c.loop-point.invariant.is_point

pub new-requires-clause-between : goal.new-requires-clause-between
new-requires-clause-between c = c.loop-point.invariant.between

pub loop-point-preserved : goal.loop-point-preserved
loop-point-preserved c =
    let bytes = c.args.bytes.now in
    let l = c.loop-point in
    let line = c.in_ok-line.ensures in
    let items = c.in_ok-push.ensures.items in
    let codes : piece_codes (codes_of bytes) c.piece_from.result ≡ line_from bytes l.point = rw c.new.ensures at c.piece_from.ensures.codes in
    let rest = (rw c.new.ensures at c.piece_from.ensures.rest) refl in
    let other = sym (c.is_matter_fence.ensures (line_from bytes l.point) line.values) ∙ c.if-is_matter_fence.false in
    rw items (record {
      is_point = line.line.is_point;
      between = line-between bytes l.point _ l.invariant.is_point line.line;
      placed = next-lines bytes l.point l.lines.items c.piece_from.result l.invariant.placed (l.invariant.ends c.loop-point-test.true) rest;
      ends = rw line.line.stop at (lines-end bytes l.point l.lines.items c.piece_from.result rest);
      counted = omega (arith, l.invariant.counted, line.line.forward, length-append l.lines.items (c.piece_from.result ∷ []));
      same =
          l.invariant.same ∙ before-line c.args.marker _ (map (piece_codes (codes_of bytes)) l.lines.items) _ _ line.line.lines other
          ∙ ap (λ (x : List (List Code)). onto_lines x (matter_before c.args.marker (lines_of (codes_after bytes (place_of c.in_ok-line.line.stop)))))
          (ap (λ (x : List Code). map (piece_codes (codes_of bytes)) l.lines.items ++ x ∷ []) (sym codes) ∙ sym (map-append (piece_codes (codes_of bytes)) l.lines.items (c.piece_from.result ∷ [])));
    })

pub returns : goal.returns
returns c =
    let bytes = c.args.bytes.now in
    let l = c.loop-point in
    let none : codes_after bytes (place_of l.point) ≡ [] = sym (codes-point bytes l.point l.invariant.is_point) ∙ past-end bytes l.point (stands-point bytes l.point l.invariant.is_point) c.loop-point-test.false in
    l.invariant.same ∙ before-end c.args.marker _ (map (piece_codes (codes_of bytes)) l.lines.items) (ap lines_of none)
