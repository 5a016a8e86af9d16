-- What is wrong with an input that is refused, and the status that says so. Each fault is the first one, in the order of their numbers below.
use Rattle.std.specs.Prelude.{◌≡◌, ◌⊎◌, ℕ, ◌<◌, ◌≤◌, false, List, length, IsUtf8}
use Rattle.std.specs.Option.{is_some}
use Rattle.markdown_content.specs.Content.{document_limit, IsContent, IsTextContent}
use Rattle.markdown_content.specs.DefaultOptions.{AreKnown}
use Rattle.markdown_content.specs.declared.parser.Piece.{Piece}
use Rattle.markdown_inline_c.specs.FlatHtml.{AreKnownForHtml, AreTargets, IsBroughtWithin}
use Rattle.markdown_inline_c.specs.FlatInput.{AreInputOptions, AreLabels, IsTextInput, pieces_of}
use Rattle.markdown_inline_c.specs.FlatStrings.{IsStringAt}
use Rattle.markdown_inline_c.specs.FlatTexts.{IsContentAt, IsTextAt}
use Rattle.markdown_inline_c.specs.References.{decoding_by, reference_value}
use Rattle.markdown_inline_c.specs.declared.fault.Fault.{Fault}
use Rattle.markdown_inline_c.specs.declared.flat.FlatContent.{FlatContent}
use Rattle.markdown_inline_c.specs.declared.flat.FlatPiece.{FlatPiece}
use Rattle.markdown_inline_c.specs.declared.flat.FlatTarget.{FlatTarget}
use Rattle.markdown_inline_c.specs.declared.flat.Input.{Input}
use Rattle.markdown_inline_c.specs.declared.flat.Range.{Range}

abbrev pub fault_status : Fault → ℕ
fault_status Fault.UnknownOption = 2
fault_status Fault.NotUtf8 = 3
fault_status Fault.BlankLine = 4
fault_status Fault.Memory = 5
fault_status Fault.NoContent = 7
fault_status Fault.Definition = 8
fault_status Fault.TooLong = 9
fault_status Fault.NoReference = 10
fault_status Fault.References = 11
fault_status Fault.NoString = 12

-- this fault, where something does not hold; memory may be refused at any time
abbrev pub IsFaultUnless : Fault → (holds : Type 0) → Fault → Type 0
IsFaultUnless named holds fault = (fault ≡ Fault.Memory) ⊎ ((fault ≡ named) × (holds → ⊥))

-- of a document
abbrev pub IsDocumentFault : List ℕ → Fault → Type 0
IsDocumentFault bytes Fault.TooLong = document_limit < length bytes
IsDocumentFault bytes Fault.NotUtf8 = (length bytes ≤ document_limit) × (IsUtf8 bytes → ⊥)
IsDocumentFault bytes _ = ⊥

-- of a document that is to be read; memory may be refused at any time
abbrev pub IsReadFault : List ℕ → Fault → Type 0
IsReadFault bytes Fault.Memory = Unit {0}
IsReadFault bytes fault = IsDocumentFault bytes fault

-- of pieces that are to be a content; memory may be refused at any time
abbrev pub IsContentFault : List ℕ → List Piece → Fault → Type 0
IsContentFault bytes pieces Fault.Memory = Unit {0}
IsContentFault bytes pieces Fault.NoContent = (IsUtf8 bytes × (length bytes ≤ document_limit)) × (IsContent bytes pieces → ⊥)
IsContentFault bytes pieces fault = IsDocumentFault bytes fault

-- of pieces that are to be a text
abbrev pub IsPiecesFault : List ℕ → List Piece → Fault → Type 0
IsPiecesFault bytes pieces Fault.BlankLine = IsContent bytes pieces × (IsTextContent bytes pieces → ⊥)
IsPiecesFault bytes pieces fault = IsContentFault bytes pieces fault

-- of an input that is to be read as a string
abbrev pub IsStringFault : Input → Fault → Type 0
IsStringFault i Fault.UnknownOption = AreInputOptions i → ⊥
IsStringFault i fault = AreInputOptions i × IsContentFault i.bytes.now (pieces_of i.pieces.now) fault

-- of an input that is to be read as a text
abbrev pub IsTextFault : Input → Fault → Type 0
IsTextFault i Fault.UnknownOption = AreInputOptions i → ⊥
IsTextFault i Fault.Definition = AreInputOptions i × (IsTextContent i.bytes.now (pieces_of i.pieces.now) × (AreLabels i → ⊥))
IsTextFault i fault = AreInputOptions i × IsPiecesFault i.bytes.now (pieces_of i.pieces.now) fault

-- of a label
abbrev pub IsLabelFault : List ℕ → Fault → Type 0
IsLabelFault label Fault.NotUtf8 = IsUtf8 label → ⊥
IsLabelFault label Fault.Memory = Unit {0}
IsLabelFault label _ = ⊥

-- of bytes that are to be a character reference by options
abbrev pub IsReferenceFault : ℕ → List ℕ → Fault → Type 0
IsReferenceFault options bytes Fault.UnknownOption = AreKnown options → ⊥
IsReferenceFault options bytes Fault.NoReference = AreKnown options × (is_some (reference_value (decoding_by options) bytes) ≡ false)
IsReferenceFault options bytes Fault.Memory = AreKnown options
IsReferenceFault options bytes _ = ⊥

-- of where definitions lead
abbrev pub IsTargetsFault : Input → List FlatTarget → Fault → Type 0
IsTargetsFault i targets = IsFaultUnless Fault.Definition (AreTargets i targets)

-- of what definitions bring to the tree of the input
abbrev pub IsLimitFault : Input → List FlatTarget → (options limit : ℕ) → Fault → Type 0
IsLimitFault i targets options limit = IsFaultUnless Fault.References (IsBroughtWithin i targets options limit)

-- of an input that is to be written as HTML: of what may be written, then of the text, then of where its definitions lead, then of what they bring
abbrev pub IsHtmlFault : Input → List FlatTarget → (options limit : ℕ) → Fault → Type 0
IsHtmlFault i targets options limit fault =
    ((fault ≡ Fault.UnknownOption) × (AreKnownForHtml options targets → ⊥))
    ⊎ (AreKnownForHtml options targets × (IsTextFault i fault ⊎ (IsTextInput i × (IsTargetsFault i targets fault ⊎ (AreTargets i targets × IsLimitFault i targets options limit fault)))))

-- of one of many contents
abbrev pub IsContentAtFault : List ℕ → List FlatPiece → FlatContent → Fault → Type 0
IsContentAtFault bytes pieces c fault =
    ((fault ≡ Fault.NoContent) × (IsContentAt bytes pieces c → ⊥))
    ⊎ ((fault ≡ Fault.BlankLine) × (IsContentAt bytes pieces c × (IsTextAt bytes pieces c → ⊥)))

-- of one of many strings
abbrev pub IsStringAtFault : List ℕ → (parts : List Range) → Range → Fault → Type 0
IsStringAtFault bytes parts s fault = (fault ≡ Fault.NoString) × (IsStringAt bytes parts s → ⊥)
