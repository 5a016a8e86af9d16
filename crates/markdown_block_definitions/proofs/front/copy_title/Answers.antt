use Rattle.std.proofs.Common.{◌∙◌, ap, sym, Some, Option, List, ℕ, arith, length}
use Rattle.std.specs.Prelude.{option_map}
use Rattle.markdown_page_model.specs.PageTexts.{text_of}
use Rattle.markdown_block_model.specs.LinkDefinitions.{between}
use Rattle.markdown_block_line.proofs.RestValues.{values-length}
use Rattle.markdown_block_definitions.specs.DefinitionParts.{stretch_of}
use Rattle.markdown_block_definitions.specs.declared.definition.Stretch.{Stretch}
use Rattle.markdown_block_definitions.proofs.FrontTexts.{part-of, part-firsts}
use Rattle.markdown_block_definitions.proofs.front.copy_title.Goals as goal

pub returns-in_ok-text-in-Some : goal.returns-in_ok-text-in-Some
returns-in_ok-text-in-Some c = λ cs h b.
    let s = c.inside-title.result in
    let whole = (rw c.in-Some.is at c.requires.within) in
    ap (λ (v : List ℕ). Some v)
    (c.in_ok-text-in-Some.ensures (stretch_of s cs) (part-of cs c.args.values.now s.start s.len _ h (omega arith)) (part-firsts cs c.args.firsts.now s.start s.len _ b (omega arith))
    ∙ ap text_of (c.inside-title.ensures.is cs (omega (arith, whole.0, whole.1, values-length cs, ap length h))))
    ∙ sym (ap (λ (t : Option Stretch). option_map text_of (option_map (λ x. between (stretch_of x cs)) t)) c.in-Some.is)
