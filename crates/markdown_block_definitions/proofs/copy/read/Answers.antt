use Rattle.std.proofs.Common.{◌∙◌, sym, subst}
use Rattle.markdown_block_definitions.specs.TextCopies.{IsRead}
use Rattle.markdown_block_definitions.specs.declared.copy.Spot.{Spot}
use Rattle.markdown_block_definitions.proofs.SpotReads.{read-ending, read-plain, read-tab, spot-small, tab-later, tab-first}
use Rattle.markdown_block_definitions.proofs.copy.read.Goals as goal

pub returns-then-is_line_ending : goal.returns-then-is_line_ending
returns-then-is_line_ending c = read-ending c.args.bytes.now c.args.spot c.requires.is_spot c.requires.begins _ (sym c.is_line_ending.ensures ∙ c.if-is_line_ending.true) c.line_ending_len.ensures

pub returns-then-byte-ne9 : goal.returns-then-byte-ne9
returns-then-byte-ne9 c = read-plain c.args.bytes.now c.args.spot c.requires.is_spot c.requires.begins (sym c.is_line_ending.ensures ∙ c.if-is_line_ending.false) c.if-byte-ne9.true

pub past_tab-requires-clause-inside : goal.past_tab-requires-clause-inside
past_tab-requires-clause-inside c = (spot-small c.args.bytes.now c.args.spot c.requires.is_spot).0

pub past_tab-requires-2-clause-inside : goal.past_tab-requires-2-clause-inside
past_tab-requires-2-clause-inside c = (spot-small c.args.bytes.now c.args.spot c.requires.is_spot).0

pub returns-then-spot-gt0 : goal.returns-then-spot-gt0
returns-then-spot-gt0 c = subst (λ (t : Spot). IsRead c.args.bytes.now c.args.spot 32 t) (sym c.past_tab.ensures) (read-tab c.args.bytes.now c.args.spot c.requires.is_spot c.requires.begins 32 c.if-byte-ne9.false (tab-later c.args.spot.vs c.if-spot-gt0.true))

pub returns : goal.returns
returns c = subst (λ (t : Spot). IsRead c.args.bytes.now c.args.spot 9 t) (sym c.past_tab-2.ensures) (read-tab c.args.bytes.now c.args.spot c.requires.is_spot c.requires.begins 9 c.if-byte-ne9.false (tab-first c.args.spot.vs c.if-spot-gt0.false))
