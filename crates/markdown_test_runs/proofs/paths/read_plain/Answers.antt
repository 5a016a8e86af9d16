use Rattle.markdown_inline.proofs.markdown_run.ConstructsAtStart.{start-spans}
use Rattle.markdown_test_runs.proofs.paths.read_plain.Goals as goal

pub construct-requires-in-span-clause-construct : goal.construct-requires-in-span-clause-construct
construct-requires-in-span-clause-construct c = λ _. start-spans c.args.tokenizer.now c.requires.rest c.requires.fits
