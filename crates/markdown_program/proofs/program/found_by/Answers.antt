use Rattle.std.proofs.Common.{[], ◌∷◌, sym, subst, ◌∙◌}
use Rattle.std.proofs.lemmas.Bool.{both_ways}
use Rattle.markdown_content.specs.Content.{IsTextContent}
use Rattle.markdown_content.specs.declared.parser.Piece.{Piece}
use Rattle.markdown_program.proofs.program.found_by.Goals as goal

pub returns-then-not-is_text-clause-blank_line : goal.returns-then-not-is_text-clause-blank_line
returns-then-not-is_text-clause-blank_line c = λ e. (
  sym c.reads_text.ensures ∙ c.if-not-reads_text.false,
  λ t. both_ways c.is_text.result c.if-not-is_text.true (c.is_text.ensures.1 (subst (λ (x : Piece). IsTextContent c.args.parse_state.now.bytes.now (x ∷ [])) (sym c.whole_document.ensures.whole) t)),
)

pub returns-clause-text : goal.returns-clause-text
returns-clause-text c =
    λ e. subst (λ (x : Piece). IsTextContent c.args.parse_state.now.bytes.now (x ∷ [])) c.whole_document.ensures.whole (c.is_text.ensures.0 c.if-not-is_text.false)
