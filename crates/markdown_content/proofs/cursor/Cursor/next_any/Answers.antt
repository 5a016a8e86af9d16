use Rattle.std.proofs.Common.{◌∙◌, ap, sym}
use Rattle.markdown_content.specs.ListFunctions.{rest_of}
use Rattle.markdown_content.specs.Place.{moved}
use Rattle.markdown_content.proofs.PlaceRules.{ahead-moved}
use Rattle.markdown_content.proofs.PlaceRules.{ahead_none, code_at_end}
use Rattle.markdown_content.proofs.cursor.Cursor.next_any.Goals as goal

pub returns-in_err-current : goal.returns-in_err-current
returns-in_err-current c =
    c.from_residual.ensures ∙ sym (code_at_end (moved c.args.self.now) (ahead-moved c.args.self.now ∙ ap rest_of (ahead_none c.args.self.now (sym c.in_err-current.ensures))))
