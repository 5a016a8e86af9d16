use Rattle.std.proofs.Common.{◌≡◌, true, sym, ◌∙◌, arith}
use Rattle.markdown_engine.specs.Operations.{ahead}
use Rattle.markdown_engine.specs.declared.tokenizer.Tokenizer.{Tokenizer}
use Rattle.markdown_label.specs.LabelStarts.{image_test}
use Rattle.markdown_run_text.proofs.ImageStarts.{image-codes, image-here, image-reads, image-ready, no-image}
use Rattle.markdown_run_text.proofs.readers.label_start_image.read.Goals as goal

pub returns-then-not-is_here-clause-reads : goal.returns-then-not-is_here-clause-reads
returns-then-not-is_here-clause-reads c = grind (arith, no-image, image-here, c.is_here.ensures, c.if-not-is_here.true)

pub read_front-requires : goal.read_front-requires
read_front-requires c = grind (arith, image-codes, image-here, c.is_here.ensures, c.if-not-is_here.false)

pub after-requires : goal.after-requires
after-requires c = image-ready c.args.tokenizer.now c.read_front.new.tokenizer c.in_ok-read_front.ensures.ok

pub returns-clause-reads : goal.returns-clause-reads
returns-clause-reads c =
    let T : Tokenizer = c.args.tokenizer.now in
    let here : image_test T (ahead T) ≡ true = sym (image-here T) ∙ sym c.is_here.ensures ∙ c.if-not-is_here.false in
    image-reads T c.read_front.new.tokenizer c.after.new.tokenizer c.in_ok-_kept._kept here c.in_ok-read_front.ensures.ok c.in_ok-_kept.ensures.ok
