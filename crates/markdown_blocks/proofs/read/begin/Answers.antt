use Rattle.std.proofs.Common.{◌+◌, ◌≤◌, ◌∙◌, refl, ap, arith, List, [], ◌∷◌, length, map, take, drop, false}
use Rattle.markdown_content.specs.Codes.{Code, codes_of}
use Rattle.markdown_content.specs.Content.{piece_codes}
use Rattle.markdown_block_model.specs.BlockTree.{heading, html, indented_code, fenced_code}
use Rattle.markdown_block_model.proofs.TextsAreContents.{heading-begins}
use Rattle.markdown_block_line.specs.LineBlocks.{extensions_of, container_of, fence_of}
use Rattle.markdown_block_line.specs.LineStarts.{begun_of}
use Rattle.markdown_blocks.specs.declared.block.Leaf.TheVariants.{ThematicBreak, Heading}
use Rattle.markdown_blocks.proofs.BeginLines.{opened-leaf}
use Rattle.markdown_blocks.proofs.OuterCodes.{outside-begun, outside-heading, behind-heading, outside-info, behind-info, outside-indented}
use Rattle.markdown_blocks.proofs.PlacedTexts.{heading-text, opened-line, html-filled, first-filled}
use Rattle.markdown_blocks.proofs.PlacedPieces.{no-lines}
use Rattle.markdown_blocks.proofs.TextPieces.{one-text}
use Rattle.markdown_blocks.proofs.read.begin.Goals as goal

pub returns-in_ok-put_container-in-Container-clause-outer : goal.returns-in_ok-put_container-in-Container-clause-outer
returns-in_ok-put_container-in-Container-clause-outer c =
    let i = c.requires.is in
    outside-begun c.args.rest.now.extensions i.in_paragraph i.after_text (container_of c.in-Container.container) c.args.rest.now.codes c.in-Container.outside (rw c.in-Container.is at c.requires.within).1 (rw c.in-Container.is at i.is)

pub returns-in_ok-put_container-in-Container-clause-texts : goal.returns-in_ok-put_container-in-Container-clause-texts
returns-in_ok-put_container-in-Container-clause-texts c =
    let bytes = c.args.rest.now.bytes in
    (c.in_ok-put_container-in-Container.ensures.texts bytes c.requires.standing c.requires.texts, rw (c.in_ok-put_container-in-Container.ensures.deeper bytes c.requires.standing).standing.open_none tt)

pub returns-in-Heading-clause-texts : goal.returns-in-Heading-clause-texts
returns-in-Heading-clause-texts c =
    let i = c.requires.is in
    let codes = c.args.rest.now.codes in
    let h = c.in-Heading.heading in
    let w : h.start + h.len ≤ length codes = rw c.in-Heading.is at c.requires.within in
    let s = rw c.in-Heading.is at i.stands in
    let text = take h.len (drop h.start codes) in
    let b = heading-begins (extensions_of c.args.rest.now.extensions) i.in_paragraph i.after_text codes h.level text c.piece-text.ensures.is_line (rw c.in-Heading.is at i.is) in
    rw c.open_leaf-in-Heading.ensures (
      c.requires.texts,
      (
        heading-text c.args.rest.now.bytes c.piece-text.result text c.piece-text.ensures.codes
            (c.piece-text.ensures.placed (outside-heading codes h.start (omega (arith, w)) s) (behind-heading c.args.rest.now.extensions i.in_paragraph i.after_text codes h.level h.start h.len w s (rw c.in-Heading.is at i.is)) b.0) b.1,
        tt,
      ),
    )

pub returns-in-ThematicBreak-clause-begun : goal.returns-in-ThematicBreak-clause-begun
returns-in-ThematicBreak-clause-begun c =
    opened-leaf c.args.rest.now.bytes _ _ ThematicBreak _ _ c.open_leaf.ensures c.requires.standing (ap (λ b. begun_of c.args.rest.now.codes b) c.in-ThematicBreak.is) refl

pub returns-in-Heading-clause-begun : goal.returns-in-Heading-clause-begun
returns-in-Heading-clause-begun c =
    opened-leaf c.args.rest.now.bytes _ _ (Heading c.in-Heading.heading.level c.piece-text.result) _ _ c.open_leaf-in-Heading.ensures c.requires.standing (ap (λ b. begun_of c.args.rest.now.codes b) c.in-Heading.is)
    (ap (λ (cs : List Code). heading c.in-Heading.heading.level cs) c.piece-text.ensures.codes)

pub returns-in_ok-text-in-Html-clause-begun : goal.returns-in_ok-text-in-Html-clause-begun
returns-in_ok-text-in-Html-clause-begun c =
    opened-leaf c.args.rest.now.bytes _ _ _ _ _ c.open_leaf-in-Html.ensures c.requires.standing (ap (λ b. begun_of c.args.rest.now.codes b) c.in-Html.is)
    (ap (λ (cs : List Code). html c.in-Html.html.kind cs c.in-Html.html.ended) (one-text c.args.rest.now.bytes _ _ c.args.rest.now.codes c.in_ok-text-in-Html.ensures c.piece_from.ensures.codes))

pub returns-in_ok-lines-in-IndentedCode-clause-begun : goal.returns-in_ok-lines-in-IndentedCode-clause-begun
returns-in_ok-lines-in-IndentedCode-clause-begun c =
    opened-leaf c.args.rest.now.bytes _ _ _ _ _ c.open_leaf-in-IndentedCode.ensures c.requires.standing (ap (λ b. begun_of c.args.rest.now.codes b) c.in-IndentedCode.is)
    (ap (λ (ls : List (List Code)). indented_code ls) (ap (map (piece_codes (codes_of c.args.rest.now.bytes))) c.in_ok-lines-in-IndentedCode.ensures ∙ ap (λ (cs : List Code). cs ∷ []) c.piece_from-in-IndentedCode.ensures.codes))

pub returns-in-FencedCode-clause-begun : goal.returns-in-FencedCode-clause-begun
returns-in-FencedCode-clause-begun c =
    opened-leaf c.args.rest.now.bytes _ _ _ _ _ c.open_leaf-in-FencedCode.ensures c.requires.standing (ap (λ b. begun_of c.args.rest.now.codes b) c.in-FencedCode.is)
    (rw c.new.ensures.items (ap (λ (cs : List Code). fenced_code (fence_of c.in-FencedCode.found.fence) cs [] false) c.piece-info.ensures.codes))

pub returns-in-FencedCode-clause-texts : goal.returns-in-FencedCode-clause-texts
returns-in-FencedCode-clause-texts c =
    let i = c.requires.is in
    let codes = c.args.rest.now.codes in
    let f = c.in-FencedCode.found in
    let w : f.start + f.len ≤ length codes = rw c.in-FencedCode.is at c.requires.within in
    let s = rw c.in-FencedCode.is at i.stands in
    let b = rw c.in-FencedCode.is at i.is in
    let info = c.piece-info.ensures.inside (outside-info c.args.rest.now.extensions i.in_paragraph i.after_text codes (fence_of f.fence) (take f.len (drop f.start codes)) f.start (omega (arith, w)) s b)
    (behind-info c.args.rest.now.extensions i.in_paragraph i.after_text codes (fence_of f.fence) f.start f.len w s b) in
    rw (c.open_leaf-in-FencedCode.ensures, c.new.ensures.items) (c.requires.texts, ((info, no-lines c.args.rest.now.bytes), λ _ _. tt))

pub returns-in_ok-text-in-Html-clause-texts : goal.returns-in_ok-text-in-Html-clause-texts
returns-in_ok-text-in-Html-clause-texts c =
    let i = c.requires.is in
    let bytes = c.args.rest.now.bytes in
    let text = c.in_ok-text-in-Html.ensures in
    let lines = opened-line bytes c.args.rest.now.start _ _ text (c.piece_from.ensures.rest refl) in
    let codes = html-filled c.args.rest.now.extensions i.in_paragraph i.after_text c.in-Html.html.ended c.in-Html.html.kind c.args.rest.now.codes (rw c.in-Html.is at i.is) in
    rw c.open_leaf-in-Html.ensures (c.requires.texts, ((lines.0, first-filled bytes _ _ _ text c.piece_from.ensures.codes codes), lines.1))

pub returns-in_ok-lines-in-IndentedCode-clause-texts : goal.returns-in_ok-lines-in-IndentedCode-clause-texts
returns-in_ok-lines-in-IndentedCode-clause-texts c =
    let i = c.requires.is in
    let o = outside-indented c.args.rest.now.extensions i.in_paragraph i.after_text c.args.rest.now.codes (rw c.in-IndentedCode.is at c.requires.within) (rw c.in-IndentedCode.is at i.is) in
    rw c.open_leaf-in-IndentedCode.ensures (c.requires.texts, opened-line c.args.rest.now.bytes c.args.rest.now.start _ _ c.in_ok-lines-in-IndentedCode.ensures (c.piece_from-in-IndentedCode.ensures.rest o))
