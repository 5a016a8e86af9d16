-- Definitions of a document as a caller in C gets them (CommonMark 4.7).
use Rattle.std.specs.Prelude.{◌≡◌, ◌<◌, ◌⊎◌, ◌++◌, ◌∷◌, [], ℕ, ◌+◌, if◌then◌else◌, List, length, map, flat_map, Option, None, Some, option_map, is_some}
use Rattle.markdown_block_definitions.specs.DefinitionTexts.{Texts, texts_in}
use Rattle.markdown_block_model.specs.LinkDefinitions.{definitions}
use Rattle.markdown_content.specs.KnownPlaces.{IsDocument}
use Rattle.markdown_html_model.specs.Resolved.{decoding_of, resolved}
use Rattle.markdown_inline_c.specs.Answers.{IsRefused, over}
use Rattle.markdown_inline_c.specs.FlatHtml.{IsTarget, title_of}
use Rattle.markdown_inline_c.specs.FlatInput.{IsLabelRange, range_bytes}
use Rattle.markdown_inline_c.specs.FlatExtensions.{AreKnownBlocks, IsBlocksFault, extensions_in}
use Rattle.markdown_inline_c.specs.declared.flat.DefinitionsCount.{DefinitionsCount}
use Rattle.markdown_inline_c.specs.declared.flat.FlatTarget.{FlatTarget}
use Rattle.markdown_inline_c.specs.declared.flat.Range.{Range}
use Rattle.markdown_page_model.specs.PageHtml.{commonmark}
use Rattle.markdown_util.specs.declared.decoding.Decoding.{Decoding}

-- One definition.

-- A definition with these texts: its label stands at the range as it is written, and the target says where its destination and its title stand, with escapes and references
-- resolved. Each is UTF-8.
pub record IsFlat (how : Decoding) (labels : List ℕ) (t : Texts) (r : Range) (target : FlatTarget) : Type 0 where
  pub label_range : IsLabelRange labels r
  pub label_is : range_bytes labels r ≡ t.label
  pub target_range : IsTarget labels target
  pub destination_is : range_bytes labels target.destination ≡ resolved how t.destination
  pub title_is : title_of labels target ≡ option_map (resolved how) t.title
  pub reserved_is : target.reserved ≡ 0

-- Definitions, each with its range and its target, in their order.
abbrev pub AreFlat : Decoding → (labels : List ℕ) → List Texts → List Range → List FlatTarget → Type 0
AreFlat how labels [] [] [] = Unit {0}
AreFlat how labels (t ∷ ts) (r ∷ ranges) (target ∷ targets) = IsFlat how labels t r target × AreFlat how labels ts ranges targets
AreFlat how labels ts ranges targets = ⊥

-- Their bytes, and where these stand: of each definition its label, its destination and its title, one behind another and nothing between.

-- the title's text, if there is one
abbrev pub title_bytes : Option (List ℕ) → List ℕ
title_bytes None = []
title_bytes (Some title) = title

abbrev pub texts_bytes : Decoding → Texts → List ℕ
texts_bytes how t = t.label ++ (resolved how t.destination ++ title_bytes (option_map (resolved how) t.title))

abbrev pub flat_labels : Decoding → List Texts → List ℕ
flat_labels how ts = flat_map (texts_bytes how) ts

-- so many bytes, behind so many
abbrev pub stretch : ℕ → ℕ → Range
stretch before len = record { start = before; end = before + len }

abbrev pub flat_target : Decoding → ℕ → Texts → FlatTarget
flat_target how before t =
    let destination = before + length t.label in
    let title = destination + length (resolved how t.destination) in
    record {
      destination = stretch destination (length (resolved how t.destination));
      title = stretch title (length (title_bytes (option_map (resolved how) t.title)));
      has_title = if is_some t.title then 1 else 0;
      reserved = 0;
    }

-- of definitions behind so many bytes
abbrev pub flat_ranges : Decoding → ℕ → List Texts → List Range
flat_ranges how before [] = []
flat_ranges how before (t ∷ ts) = stretch before (length t.label) ∷ flat_ranges how (before + length (texts_bytes how t)) ts

abbrev pub flat_targets : Decoding → ℕ → List Texts → List FlatTarget
flat_targets how before [] = []
flat_targets how before (t ∷ ts) = flat_target how before t ∷ flat_targets how (before + length (texts_bytes how t)) ts

-- these and no others
pub record AreWritten (how : Decoding) (labels : List ℕ) (ts : List Texts) (ranges : List Range) (targets : List FlatTarget) : Type 0 where
  pub flat : AreFlat how labels ts ranges targets
  pub labels_are : labels ≡ flat_labels how ts
  pub ranges_are : ranges ≡ flat_ranges how 0 ts
  pub targets_are : targets ≡ flat_targets how 0 ts

-- Those of a document, read with the blocks that the bits ask for.

abbrev pub texts_of_document : ℕ → List ℕ → List Texts
texts_of_document bits bytes = map texts_in (definitions (extensions_in bits) bytes)

abbrev pub document_labels : ℕ → List ℕ → List ℕ
document_labels bits bytes = flat_labels (decoding_of commonmark) (texts_of_document bits bytes)

abbrev pub document_ranges : ℕ → List ℕ → List Range
document_ranges bits bytes = flat_ranges (decoding_of commonmark) 0 (texts_of_document bits bytes)

abbrev pub document_targets : ℕ → List ℕ → List FlatTarget
document_targets bits bytes = flat_targets (decoding_of commonmark) 0 (texts_of_document bits bytes)

abbrev pub AreDefinitions : ℕ → List ℕ → (labels : List ℕ) (ranges : List Range) (targets : List FlatTarget) → Type 0
AreDefinitions bits bytes labels ranges targets = AreWritten (decoding_of commonmark) labels (texts_of_document bits bytes) ranges targets

-- What the call leaves.

-- they stand at the fronts of the arrays, and what follows there is as before
pub record AreDefinitionsDone (labels labels_old labels_new : List ℕ) (ranges ranges_old ranges_new : List Range) (targets targets_old targets_new : List FlatTarget) (status : ℕ) : Type 0 where
  pub status_is : status ≡ 0
  pub labels_done : labels_new ≡ over labels_old labels
  pub ranges_done : ranges_new ≡ over ranges_old ranges
  pub targets_done : targets_new ≡ over targets_old targets

-- one of the arrays has too little room, and all are as before
pub record AreDefinitionsTooMany (labels labels_old labels_new : List ℕ) (ranges ranges_old ranges_new : List Range) (targets targets_old targets_new : List FlatTarget) (status : ℕ) : Type 0 where
  pub status_is : status ≡ 6
  pub no_room : (length labels_old < length labels) ⊎ ((length ranges_old < length ranges) ⊎ (length targets_old < length targets))
  pub labels_kept : labels_new ≡ labels_old
  pub ranges_kept : ranges_new ≡ ranges_old
  pub targets_kept : targets_new ≡ targets_old

-- definitions are handed out, and counted
pub record AreDefinitionsHandedOut (labels labels_old labels_new : List ℕ) (ranges ranges_old ranges_new : List Range) (targets targets_old targets_new : List FlatTarget) (count : DefinitionsCount) (status : ℕ) : Type 0 where
  pub count_is : count ≡ record { definitions = length ranges; labels = length labels }
  pub handed_out : AreDefinitionsDone labels labels_old labels_new ranges ranges_old ranges_new targets targets_old targets_new status
      ⊎ AreDefinitionsTooMany labels labels_old labels_new ranges ranges_old ranges_new targets targets_old targets_new status

-- the document is read, and its definitions are handed out
pub record IsDefinitionsRead (bits : ℕ) (bytes labels_old labels_new : List ℕ) (ranges_old ranges_new : List Range) (targets_old targets_new : List FlatTarget) (count : DefinitionsCount) (status : ℕ) : Type 0 where
  pub known : AreKnownBlocks bits
  pub is_document : IsDocument bytes
  pub flat : AreFlat (decoding_of commonmark) (document_labels bits bytes) (texts_of_document bits bytes) (document_ranges bits bytes) (document_targets bits bytes)
  pub handed_out : AreDefinitionsHandedOut (document_labels bits bytes) labels_old labels_new (document_ranges bits bytes) ranges_old ranges_new (document_targets bits bytes) targets_old targets_new count status

-- the document is read, or it is refused and nothing is written
abbrev pub IsDefinitionsAnswer : (bits : ℕ) (bytes labels_old labels_new : List ℕ) (ranges_old ranges_new : List Range) (targets_old targets_new : List FlatTarget) (count_old count_new : DefinitionsCount) (status : ℕ) → Type 0
IsDefinitionsAnswer bits bytes labels_old labels_new ranges_old ranges_new targets_old targets_new count_old count_new status =
    IsDefinitionsRead bits bytes labels_old labels_new ranges_old ranges_new targets_old targets_new count_new status
    ⊎ (IsRefused (IsBlocksFault bits bytes) status × ((labels_new ≡ labels_old) × ((ranges_new ≡ ranges_old) × ((targets_new ≡ targets_old) × (count_new ≡ count_old)))))

-- What functions promise each other.

-- a text is put behind others, and stands at this range
pub record IsAppendedText (text before after : List ℕ) (r : Range) : Type 0 where
  pub after_is : after ≡ before ++ text
  pub start_is : r.start ≡ length before
  pub end_is : r.end ≡ length after

-- a title that is there stands at the range of the target, which says that there is one
pub record IsTitle (how : Decoding) (title : Option (List ℕ)) (before after : List ℕ) (target : FlatTarget) : Type 0 where
  pub stretch : IsAppendedText (title_bytes (option_map (resolved how) title)) before after target.title
  pub told : target.has_title ≡ (if is_some title then 1 else 0)

-- behind these bytes stand a destination, and behind it a title
pub record IsTargetOf (how : Decoding) (t : Texts) (before after : List ℕ) (target : FlatTarget) : Type 0 where
  pub between : List ℕ
  pub destination : IsAppendedText (resolved how t.destination) before between target.destination
  pub title : IsTitle how t.title between after target
  pub reserved_is : target.reserved ≡ 0
