use Rattle.std.proofs.Common.{rules, ◌≡◌, ℕ, ◌-◌, ◌≤◌, List, length, sym, subst}
use Rattle.std.specs.List.{slice_range}
use Rattle.markdown_event.specs.declared.event.Point.{Point}
use Rattle.markdown_engine.specs.declared.tokenizer.Tokenizer.{Tokenizer}
use Rattle.markdown_leaf.specs.CharacterReference.{is_known, read_of, references_here}
use Rattle.markdown_leaf.proofs.CharacterReferenceBytes.{value-back}
use Rattle.markdown_leaf.proofs.character_reference.is_known.Goals as goal

pub overflow_sub-start : goal.overflow_sub-start
overflow_sub-start c =
    let T : Tokenizer = c.args.tokenizer.now in
    subst (λ (p : Point). T.tokenize_state.size ≤ p.index) (sym c.point-end.ensures) (value-back c.document-bytes.result.now T c.requires c.document-bytes.ensures).begins

pub from_indices-value-requires-clause-in_bytes : goal.from_indices-value-requires-clause-in_bytes
from_indices-value-requires-clause-in_bytes c =
    subst (λ (p : Point). p.index ≤ length c.document-bytes.result.now) (sym c.point-end.ensures) (value-back c.document-bytes.result.now c.args.tokenizer.now c.requires c.document-bytes.ensures).inside

pub returns-else-tokenizer-ne38 : goal.returns-else-tokenizer-ne38
returns-else-tokenizer-ne38 c =
    let T : Tokenizer = c.args.tokenizer.now in
    let n : ℕ = T.tokenize_state.size in
    let bytes : List ℕ = c.document-bytes.result.now in
    let same : slice_range bytes (c.point-end.result.index - n) c.point-end.result.index ≡ read_of T = subst (λ (p : Point). slice_range bytes (p.index - n) p.index ≡ read_of T) (sym c.point-end.ensures) (value-back bytes T c.requires c.document-bytes.ensures).same in
    let known : c.is_name.result ≡ is_known (references_here T) T.tokenize_state.marker (slice_range bytes (c.point-end.result.index - n) c.point-end.result.index) = search rules in
    subst (λ (vs : List ℕ). c.is_name.result ≡ is_known (references_here T) T.tokenize_state.marker vs) same known
