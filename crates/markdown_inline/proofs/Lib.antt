pub mod LastPieceLemmas
-- The lemmas of the crates below, each under the name of its crate, for callers whose proofs cite them.
pub use Rattle.markdown_event.proofs as markdown_event
pub use Rattle.markdown_notes.proofs as markdown_notes
pub use Rattle.markdown_content.proofs as markdown_content
pub use Rattle.markdown_engine_events.proofs as markdown_engine_events
pub use Rattle.markdown_engine.proofs as markdown_engine
pub use Rattle.markdown_util.proofs as markdown_util
pub use Rattle.markdown_model.proofs as markdown_model
pub use Rattle.markdown_plan.proofs as markdown_plan
pub use Rattle.markdown_partial.proofs as markdown_partial
pub use Rattle.markdown_leaf.proofs as markdown_leaf
pub use Rattle.markdown_leaf_gfm.proofs as markdown_leaf_gfm
pub use Rattle.markdown_leaf_html.proofs as markdown_leaf_html
pub use Rattle.markdown_label_names.proofs as markdown_label_names
pub use Rattle.markdown_label.proofs as markdown_label
pub use Rattle.markdown_label_pass.proofs as markdown_label_pass
pub use Rattle.markdown_passes.proofs as markdown_passes
pub use Rattle.markdown_attention.proofs as markdown_attention
pub use Rattle.markdown_innermost.proofs as markdown_innermost
pub use Rattle.markdown_model_laws.proofs as markdown_model_laws
pub use Rattle.markdown_run_text.proofs as markdown_run_text
pub use Rattle.markdown_program.proofs as markdown_program
pub use Rattle.markdown_run.proofs as markdown_run
pub use Rattle.markdown_document.proofs as markdown_document
pub use Rattle.markdown_tree.proofs as markdown_tree
