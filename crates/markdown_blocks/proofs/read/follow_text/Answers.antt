use Rattle.std.proofs.Common.{◌≡◌, ◌∙◌, ap, sym, List, None, true}
use Rattle.markdown_content.specs.Codes.{Code}
use Rattle.markdown_content.specs.Content.{content_of}
use Rattle.markdown_block_model.specs.BlockTree.{paragraph}
use Rattle.markdown_block_model.specs.DocumentBlocks.{heading_level}
use Rattle.markdown_block_line.specs.LineStarts.{begun_of}
use Rattle.markdown_blocks.specs.declared.block.Leaf.TheVariants.{Paragraph}
use Rattle.markdown_blocks.proofs.FollowLines.{text-blank, text-longer, text-begun}
use Rattle.markdown_blocks.proofs.PlacedTexts.{opened-more}
use Rattle.markdown_blocks.proofs.TextPieces.{text-more, trimmed-is}
use Rattle.markdown_blocks.proofs.read.follow_text.Goals as goal

pub returns-then-is_blank-clause-tree : goal.returns-then-is_blank-clause-tree
returns-then-is_blank-clause-tree g c =
    let bytes = c.args.rest.now.bytes in
    rw c.open_leaf.ensures (text-blank c.args.rest.now.extensions g.T.HasText.has_text bytes c.args.rest.now.codes (content_of bytes c.args.text.items) c.args.reader.now c.put_leaf.new.reader (sym c.is_blank.ensures ∙ c.if-is_blank.true)
    c.put_leaf.ensures.path (c.in_ok-put_leaf.ensures.tree bytes))

pub returns-in_ok-push-in-None-clause-tree : goal.returns-in_ok-push-in-None-clause-tree
returns-in_ok-push-in-None-clause-tree g c =
    let bytes = c.args.rest.now.bytes in
    let codes = c.args.rest.now.codes in
    let none : heading_level g.T.HasText.has_text codes (content_of bytes c.args.text.items) ≡ None = rw (sym c.deref.ensures.value) (sym c.in_ok-heading.ensures ∙ c.in_default.is) in
    rw c.open_leaf-in-None.ensures (text-longer c.args.rest.now.extensions g.T.HasText.has_text bytes codes (content_of bytes c.args.text.items) c.args.reader.now (Paragraph c.push.new.self) (sym c.is_blank.ensures ∙ c.if-is_blank.false) none c.in-None.ensures.found
    (ap (λ (cs : List Code). paragraph cs) (text-more bytes _ _ _ _ c.in_ok-push-in-None.ensures.items (trimmed-is codes _ c.trimmed_piece.ensures.codes))))

pub returns-in_ok-begin_all-in-Some-begun-clause-tree : goal.returns-in_ok-begin_all-in-Some-begun-clause-tree
returns-in_ok-begin_all-in-Some-begun-clause-tree g c =
    let bytes = c.args.rest.now.bytes in
    let codes = c.args.rest.now.codes in
    let none : heading_level g.T.HasText.has_text codes (content_of bytes c.args.text.items) ≡ None = rw (sym c.deref.ensures.value) (sym c.in_ok-heading.ensures ∙ c.in_default.is) in
    text-begun c.args.rest.now.extensions g.T.HasText.has_text bytes codes (content_of bytes c.args.text.items) c.args.reader.now c.put_leaf-in-Some-begun.new.reader c.begin_all.new.reader (begun_of codes c.in-Some-begun.begun)
    (sym c.is_blank.ensures ∙ c.if-is_blank.false) none c.in-Some-begun.ensures.found c.put_leaf-in-Some-begun.ensures.path (c.in_ok-put_leaf-in-Some-begun.ensures.tree bytes) c.in_ok-begin_all-in-Some-begun.ensures.tree

pub begin_all-requires-clause-is : goal.begin_all-requires-clause-is
begin_all-requires-clause-is g c = record { in_paragraph = true; after_text = true; is = c.in-Some-begun.ensures.found; stands = c.in-Some-begun.ensures.start }

pub returns-in_ok-push-in-None-clause-texts : goal.returns-in_ok-push-in-None-clause-texts
returns-in_ok-push-in-None-clause-texts g c =
    rw c.open_leaf-in-None.ensures (
      c.requires.texts,
      opened-more c.args.rest.now.bytes c.args.rest.now.start c.args.text.items _ _ c.in_ok-push-in-None.ensures.items c.requires.text (c.trimmed_piece.ensures.line (sym c.is_blank.ensures ∙ c.if-is_blank.false)),
    )
