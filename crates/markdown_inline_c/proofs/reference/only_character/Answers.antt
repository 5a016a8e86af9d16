use Rattle.std.proofs.Common.{◌∙◌, sym}
use Rattle.std.specs.Str.Iter.{chars_rest}
use Rattle.markdown_inline_c.proofs.OneCharacter.{only_ends, only_goes_on}
use Rattle.markdown_inline_c.proofs.reference.only_character.Goals as goal

pub returns-in-Some : goal.returns-in-Some
returns-in-Some c =
    only_goes_on c.args.text.now (chars_rest c.next.new.self) (chars_rest c.next-2.new.self) c.in_ok-first.first c.in-Some.field-0 c.utf8.text
    (sym c.chars-characters.ensures.rest ∙ c.in_ok-first.ensures.steps.0) c.in-Some.ensures.steps.0

pub returns-in-None : goal.returns-in-None
returns-in-None c =
    only_ends c.args.text.now (chars_rest c.next.new.self) c.in_ok-first.first c.utf8.text
    (sym c.chars-characters.ensures.rest ∙ c.in_ok-first.ensures.steps.0) c.in-None.ensures.steps.0.0
