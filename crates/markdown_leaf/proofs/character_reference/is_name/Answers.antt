use Rattle.std.proofs.Common.{sym}
use Rattle.markdown_util.proofs.ReferenceTables.{named_sound}
use Rattle.markdown_util.specs.Reference.{rows_named}
use Rattle.markdown_leaf.proofs.CharacterReferenceNames.{no-text}
use Rattle.markdown_leaf.proofs.character_reference.is_name.Goals as goal

pub returns-in-Err : goal.returns-in-Err
returns-in-Err c = sym (no-text (rows_named c.args.names) (named_sound c.args.names) c.args.bytes.now c.in-Err.ensures.cases.0)
