-- The passes of inline content by name: when they may be called, and what they leave.
use Rattle.std.specs.Prelude.{◌≡◌, ◌≤◌, Bool, true, false, [], length, None}
use Rattle.markdown_content.specs.CommonMark.{rules_of}
use Rattle.markdown_content.specs.Content.{document_limit}
use Rattle.markdown_engine.specs.PastTree.{appended_from}
use Rattle.markdown_content.specs.Tree.{Forest}
use Rattle.markdown_event.specs.declared.resolve.ResolveName.{ResolveName}
use Rattle.markdown_event.specs.declared.resolve.ResolveName.TheVariants as R
use Rattle.markdown_engine.specs.declared.tokenizer.Tokenizer.{Tokenizer}
use Rattle.markdown_attention.specs.RunsOfTree.{IsOf, HasRuns}
pub use Rattle.markdown_attention.specs.AttentionPass.{MayPair}
use Rattle.markdown_attention.specs.AttentionPass.{IsProbed}
use Rattle.markdown_attention.specs.AttentionTrees.{IsStriped}
use Rattle.markdown_label.specs.Brackets.{Brackets, grouped}
use Rattle.markdown_label.specs.LabelsHandedOver.{HasBrackets, MayGroup, unlabelled}
use Rattle.markdown_model.specs.Pairs.{pair_list}
use Rattle.markdown_model.specs.Passes.{HardBreaks, no_breaks, hard_breaks, with_emails_apart, merged, trimmed}
use Rattle.markdown_model.specs.Setting.{Setting}
use Rattle.markdown_passes.specs.MergedEvents.{HasData}
use Rattle.markdown_passes.specs.TrimmedEvents.{HasParts, HasPlaces}
use Rattle.markdown_model.specs.InlineTree.{paired_whole}

-- U is T with other events and without labels and starts: where T hands over brackets, with the events of their grouped tree
pub record GroupsLabels (T U : Tokenizer) : Type 0 where
  pub same : U ≡ record T { events = U.events; tokenize_state = unlabelled T.tokenize_state }
  pub grouped : (b : Brackets) → HasBrackets b T.tokenize_state T.events → U.events ≡ appended_from 0 None (grouped b)

-- U is T with other events: where T has those of a tree, those of the tree with its data merged
pub record MergesData (T U : Tokenizer) : Type 0 where
  pub same : U ≡ record T { events = U.events }
  pub merges : (t : Forest) → HasData t → T.events ≡ appended_from 0 None t → U.events ≡ appended_from 0 None (merged t)

-- no edit is left, the document has at most so many bytes, and its data stands at places of the document
pub record MayTrim (T : Tokenizer) : Type 0 where
  pub map : T.map ≡ []
  pub fits : length T.parse_state.now.bytes.now ≤ document_limit
  pub places : HasPlaces T.parse_state.now.bytes.now T.events

-- no edit is left, the document has at most so many bytes, and the events are those of a tree whose data is part of the document
pub record MayFinish (T : Tokenizer) : Type 0 where
  pub map : T.map ≡ []
  pub fits : length T.parse_state.now.bytes.now ≤ document_limit
  pub tree : (t : Forest) × (HasParts T.parse_state.now.bytes.now t × (T.events ≡ appended_from 0 None t))

-- the email literals of a tree set apart, where they are looked for
abbrev pub mailed_where : Bool → Forest → Forest
mailed_where true t = with_emails_apart t
mailed_where false t = t

-- U is T with other events: where T has those of a tree, those of the tree with its data trimmed, and then its email literals set apart, if
-- they are looked for; `hard` says that hard breaks are looked for, and `whole` that it is trimmed at the start and the end of the whole too
pub record TrimsData (hard : HardBreaks) (whole emails : Bool) (T U : Tokenizer) : Type 0 where
  pub same : U ≡ record T { events = U.events }
  pub trims : (t : Forest) → HasParts T.parse_state.now.bytes.now t → T.events ≡ appended_from 0 None t → U.events ≡ appended_from 0 None (mailed_where emails (trimmed hard whole whole t))

-- U is T as the passes behind a text leave it
abbrev pub FinishesText : Tokenizer → Tokenizer → Type 0
FinishesText T U =
    let on = T.parse_state.now.options.now.constructs in
    TrimsData (hard_breaks on.hard_break_trailing true (rules_of T.parse_state.now.options.now)) true on.gfm_autolink_literal T U

-- U is T with other events, and with the number of looks that pairing took: where T has the events of a tree, those of the tree with the
-- pairs of its containers grouped
pub record PairsRuns (T U : Tokenizer) : Type 0 where
  pub same : U ≡ record T { events = U.events; tokenize_state = record T.tokenize_state { probes = U.tokenize_state.probes } }
  pub paired : (s : Setting) (t : Forest) → IsOf s t T → HasRuns T.parse_state.now.bytes.now t → IsStriped t → T.events ≡ appended_from 0 None t
      → U.events ≡ appended_from 0 None (paired_whole s (pair_list s) t)
  pub probed : (s : Setting) (t : Forest) → IsOf s t T → HasRuns T.parse_state.now.bytes.now t → T.events ≡ appended_from 0 None t → IsProbed s t U.tokenize_state.probes

abbrev pub may_resolve_of : ResolveName → Tokenizer → Type 0
may_resolve_of R.Label T = MayGroup T
may_resolve_of R.Attention T = MayPair T
may_resolve_of R.Data T = T.map ≡ []
may_resolve_of R.String T = MayTrim T
may_resolve_of R.Text T = MayFinish T

abbrev pub resolves_of : ResolveName → Tokenizer → Tokenizer → Type 0
resolves_of R.Label T U = GroupsLabels T U
resolves_of R.Attention T U = PairsRuns T U
resolves_of R.Data T U = MergesData T U
resolves_of R.String T U = TrimsData (no_breaks (rules_of T.parse_state.now.options.now)) false false T U
resolves_of R.Text T U = FinishesText T U
