-- Lowercase letters are their own identifier.
use Rattle.std.proofs.Common.{subst, sym}
use Rattle.std.specs.Str.{IsUtf8}
use Rattle.markdown_plan.specs.Characters.{bytes_of}
use Rattle.markdown_label_names.proofs.IdentifierFrontLemmas.{cuts-text}
use Rattle.markdown_label_names.proofs.identifier.letters_between.Goals as goal

pub as_str-requires : goal.as_str-requires
as_str-requires c =
    subst IsUtf8 (sym c.from_indices.ensures.bytes) (cuts-text (bytes_of c.args.tokenizer.now) c.args.start c.args.end c.requires)
