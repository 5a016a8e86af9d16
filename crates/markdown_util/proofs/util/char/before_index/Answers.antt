use Rattle.std.proofs.Common.{◌∙◌, rules, MatchOption, take}
use Rattle.std.specs.Char.{IsScalar}
use Rattle.std.proofs.lemmas.Str.{IsUtf8-take}
use Rattle.markdown_util.proofs.LastChar.{last_from_back}
use Rattle.markdown_util.proofs.util.char.before_index.Goals as goal

pub from_utf8_unchecked-front-requires : goal.from_utf8_unchecked-front-requires
from_utf8_unchecked-front-requires c = IsUtf8-take c.args.bytes.now c.args.index c.requires.utf8 c.requires.boundary

pub returns : goal.returns
returns c =
    let scalar : MatchOption c.next_back.result (Unit {0}) IsScalar = search (rules, c.next_back.type_inv) in
    let bytes = c.args.bytes.now in
    let index = c.args.index in
    last_from_back _ (take index bytes) _ c.next_back.result _
    (c.chars.ensures.rest ∙ c.from_utf8_unchecked-front.ensures) (IsUtf8-take bytes index c.requires.utf8 c.requires.boundary) scalar c.next_back.ensures.steps
