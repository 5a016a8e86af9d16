-- Documents that are written as HTML, and what is wrong with one that is refused.
use Rattle.std.specs.Prelude.{◌≡◌, ◌⊎◌, ℕ, Bool, false, ◌&&◌, ◌==◌, if◌then◌else◌, IsTrue, List, [], length, None}
use Rattle.std.specs.List.{list_all}
use Rattle.markdown_content.specs.DefaultOptions.{AreKnown, has_option, options_of}
use Rattle.markdown_content.specs.KnownPlaces.{IsDocument}
use Rattle.markdown_content.specs.declared.configuration.ParseOptions.{ParseOptions}
use Rattle.markdown_page.specs.DocumentBrought.{document_brought}
use Rattle.markdown_page_model.specs.PageHtml.{commonmark, document_html}
use Rattle.markdown_inline_c.specs.Answers.{IsHandedOut}
use Rattle.markdown_inline_c.specs.FlatEvents.{number_or_max}
use Rattle.markdown_inline_c.specs.FlatExtensions.{AreKnownBlocks, extensions_in}
use Rattle.markdown_inline_c.specs.FlatHtml.{AreKnownForHtml, IsWithinLimit, html_options_of, limit_in}
use Rattle.markdown_inline_c.specs.Refusals.{IsDocumentRefused, blames_none}
use Rattle.markdown_inline_c.specs.Statuses.{fault_status}
use Rattle.markdown_inline_c.specs.declared.fault.Fault.{Fault}
use Rattle.markdown_inline_c.specs.declared.flat.DocumentOptions.{DocumentOptions}
use Rattle.markdown_inline_c.specs.declared.outcome.Outcome.{Outcome}
use Rattle.markdown_inline_c.specs.declared.refusal.Refusal.{Refusal}

-- What the options of a document mean.

-- how its texts are read: 0 is CommonMark
abbrev pub reading_of : ℕ → ParseOptions
reading_of options = if options == 0 then commonmark else options_of options

-- Each bit is one of an option. A document itself knows which text is the first of an item (0x10_0000), and it has no footnotes (0x40).
pub record IsReadingKnown (options : ℕ) : Type 0 where
  pub known : AreKnown options
  pub first_of_item : has_option options 0x10_0000 ≡ false
  pub footnote_calls : has_option options 0x40 ≡ false

abbrev pub reserves_nothing : DocumentOptions → Bool
reserves_nothing o = o.reserved == 0 && list_all (λ word. word == 0) o.reserved_words

-- each bit is known, and the reserved words are 0
pub record AreDocumentOptions (o : DocumentOptions) : Type 0 where
  pub reading : IsReadingKnown o.options
  pub html : AreKnownForHtml o.html []
  pub blocks : AreKnownBlocks o.blocks
  pub reserved : IsTrue (reserves_nothing o)

abbrev pub html_of_document : List ℕ → DocumentOptions → List ℕ
html_of_document bytes o = document_html (reading_of o.options) (extensions_in o.blocks) (html_options_of o.html) bytes

-- what definitions bring to the document is no more than the limit
abbrev pub IsDocumentWithin : List ℕ → DocumentOptions → Type 0
IsDocumentWithin bytes o = IsWithinLimit (limit_in o.limit (length bytes)) (document_brought (reading_of o.options) (extensions_in o.blocks) (html_options_of o.html) bytes)

-- the options are known, the bytes are a document, and definitions bring no more to it than the limit
pub record IsDocumentInput (bytes : List ℕ) (o : DocumentOptions) : Type 0 where
  pub options_known : AreDocumentOptions o
  pub is_document : IsDocument bytes
  pub within_limit : IsDocumentWithin bytes o

-- what is wrong with the bytes, or with what definitions bring to the document; memory may be refused at any time
abbrev pub IsPageRefused : List ℕ → DocumentOptions → Refusal → Type 0
IsPageRefused bytes o r =
    (r ≡ blames_none Fault.Memory)
    ⊎ (IsDocumentRefused bytes r
    ⊎ ((r ≡ blames_none Fault.References) × (IsDocument bytes × (IsDocumentWithin bytes o → ⊥))))

-- what is wrong with the options, or else with the document
abbrev pub IsDocumentHtmlRefused : List ℕ → DocumentOptions → Refusal → Type 0
IsDocumentHtmlRefused bytes o r = ((r ≡ blames_none Fault.UnknownOption) × (AreDocumentOptions o → ⊥)) ⊎ (AreDocumentOptions o × IsPageRefused bytes o r)

-- What the call leaves.

-- the HTML is handed out and counted, and the document is done where its HTML is written
pub record IsDocumentWritten (bytes : List ℕ) (o : DocumentOptions) (old new : List ℕ) (told : Outcome) (status : ℕ) : Type 0 where
  pub input : IsDocumentInput bytes o
  pub handed_out : IsHandedOut (html_of_document bytes o) old new told.count status
  pub done : told.done ≡ (if status == 0 then 1 else 0)
  pub blames_nothing : told.blamed ≡ number_or_max None

-- the document is refused, and nothing is written but the outcome
pub record IsDocumentBlamed (bytes : List ℕ) (o : DocumentOptions) (old new : List ℕ) (told : Outcome) (status : ℕ) : Type 0 where
  pub refusal : Refusal
  pub refused : IsDocumentHtmlRefused bytes o refusal
  pub status_is : status ≡ fault_status refusal.fault
  pub outcome : told ≡ record { done = 0; count = 0; blamed = number_or_max refusal.at }
  pub array : new ≡ old

abbrev pub IsDocumentAnswer : List ℕ → DocumentOptions → (old new : List ℕ) → Outcome → ℕ → Type 0
IsDocumentAnswer bytes o old new told status = IsDocumentWritten bytes o old new told status ⊎ IsDocumentBlamed bytes o old new told status
