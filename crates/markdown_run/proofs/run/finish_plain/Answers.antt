use Rattle.markdown_run_text.specs.ContentPasses.{MergesData}
use Rattle.markdown_run.proofs.PlainEnds.{plain-found, plain-may, plain-merge}
use Rattle.markdown_run.proofs.run.finish_plain.Goals as goal

pub resolve-requires : goal.resolve-requires
resolve-requires c = plain-merge c.args.tokenizer.now c.requires.passes

pub resolve-requires-2 : goal.resolve-requires-2
resolve-requires-2 c =
    plain-may c.args.tokenizer.now c.resolve.new.tokenizer c.requires.passes (record { same = c.in_ok-resolve.ensures.same; merges = c.in_ok-resolve.ensures.merged })

pub returns : goal.returns
returns c =
    let merged : MergesData c.args.tokenizer.now c.resolve.new.tokenizer = record { same = c.in_ok-resolve.ensures.same; merges = c.in_ok-resolve.ensures.merged } in
    plain-found c.args.tokenizer.now c.resolve.new.tokenizer c.resolve-2.new.tokenizer c.found_in.result c.requires.none merged c.in_ok-resolve-2.ensures.ok c.found_in.ensures.events c.found_in.ensures.probes
