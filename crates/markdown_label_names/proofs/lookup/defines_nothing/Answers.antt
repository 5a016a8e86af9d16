-- Of an empty list there are no texts.
use Rattle.std.proofs.Common.{map, string_bytes, sym, ap, ◌∙◌, arith}
use Rattle.std.proofs.lemmas.Bool.{eqb-true}
use Rattle.std.proofs.lemmas.List.{nil_from_length}
use Rattle.markdown_label_names.proofs.lookup.defines_nothing.Goals as goal

pub returns-then-is_empty-clause-definitions : goal.returns-then-is_empty-clause-definitions
returns-then-is_empty-clause-definitions c = λ _.
    ap (map string_bytes) (nil_from_length c.args.tokenizer.now.parse_state.now.definitions.items (omega (arith, eqb-true _ 0 (sym c.is_empty.ensures ∙ c.if-is_empty.true))))

pub returns-then-is_empty-clause-footnotes : goal.returns-then-is_empty-clause-footnotes
returns-then-is_empty-clause-footnotes c = λ is.
    ap (map string_bytes) (nil_from_length c.args.tokenizer.now.parse_state.now.gfm_footnote_definitions.items (omega (arith, eqb-true _ 0 (sym c.is_empty-then-is_empty.ensures ∙ is))))
