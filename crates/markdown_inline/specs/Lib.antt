-- The definitions of this crate.
-- What has to be believed: what public contracts and the theorem cite.
-- What serves proofs: what functions promise each other.
pub mod LastPiece
-- The definitions of the crates below, each under the name of its crate, for callers whose contracts cite them.
pub use Rattle.markdown_event.specs as markdown_event
pub use Rattle.markdown_notes.specs as markdown_notes
pub use Rattle.markdown_content.specs as markdown_content
pub use Rattle.markdown_engine_events.specs as markdown_engine_events
pub use Rattle.markdown_engine.specs as markdown_engine
pub use Rattle.markdown_util.specs as markdown_util
pub use Rattle.markdown_model.specs as markdown_model
pub use Rattle.markdown_plan.specs as markdown_plan
pub use Rattle.markdown_partial.specs as markdown_partial
pub use Rattle.markdown_leaf.specs as markdown_leaf
pub use Rattle.markdown_leaf_gfm.specs as markdown_leaf_gfm
pub use Rattle.markdown_leaf_html.specs as markdown_leaf_html
pub use Rattle.markdown_label_names.specs as markdown_label_names
pub use Rattle.markdown_label.specs as markdown_label
pub use Rattle.markdown_label_pass.specs as markdown_label_pass
pub use Rattle.markdown_passes.specs as markdown_passes
pub use Rattle.markdown_attention.specs as markdown_attention
pub use Rattle.markdown_innermost.specs as markdown_innermost
pub use Rattle.markdown_model_laws.specs as markdown_model_laws
pub use Rattle.markdown_run_text.specs as markdown_run_text
pub use Rattle.markdown_program.specs as markdown_program
pub use Rattle.markdown_run.specs as markdown_run
pub use Rattle.markdown_document.specs as markdown_document
pub use Rattle.markdown_tree.specs as markdown_tree
