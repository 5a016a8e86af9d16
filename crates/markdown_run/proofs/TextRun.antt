-- A whole run over a text.
use Rattle.std.proofs.Common.{◌≡◌, ℕ, Bool, false, List, Option, Some, None, map, string_bytes, refl, sym, ap, ◌∙◌, arith}
use Rattle.markdown_engine_events.specs.EventChains.{chained}
use Rattle.markdown_content.specs.Content.{IsContent, IsTextContent, content_of}
use Rattle.markdown_engine.specs.Operations.{scratched}
use Rattle.markdown_content.specs.Place.{Place}
use Rattle.markdown_engine.specs.RestingFields.{at_rest}
use Rattle.markdown_engine.specs.PassesInOrder.{MayResolve, Resolves, unregistered}
use Rattle.markdown_content.specs.declared.parser.ParseState.{ParseState}
use Rattle.markdown_content.specs.declared.parser.Piece.{Piece}
use Rattle.markdown_engine.specs.declared.tokenizer.TokenizeState.{TokenizeState}
use Rattle.markdown_engine.specs.declared.tokenizer.Tokenizer.{Tokenizer}
use Rattle.markdown_notes.proofs.SequenceIndexLemmas.{right-unknown}
use Rattle.markdown_label_names.specs.LabelSetting.{setting_of, AreListed, IsListed}
use Rattle.markdown_notes.specs.BracketIndex.{no_brackets}
use Rattle.markdown_notes.specs.NameIndex.{in_order, names_in_order}
use Rattle.markdown_notes.specs.declared.name_index.Names.{Names}
use Rattle.markdown_model.specs.InlineTree.{text_events, label_tree}
use Rattle.markdown_model.specs.Setting.{Setting}
use Rattle.markdown_run_text.specs.RunOverElements.{Finishes}
use Rattle.markdown_run_text.specs.ContentPasses.{may_resolve_of, resolves_of}
use Rattle.markdown_run_text.specs.RunSetting.{text_setting_of}
use Rattle.markdown_run_text.specs.TextContent.{TextStartReady, named_fields, text_passed, text_choice_of}
use Rattle.markdown_run.specs.ElementsOfText.{KnowsNothing, text_named, with_indexes}
use Rattle.markdown_attention.specs.AttentionPass.{IsProbed}
use Rattle.markdown_run.proofs.FinishedTexts.{read-may, read-probes, read-no-probes, read-events}
use Rattle.markdown_run.proofs.WholeRun.{StartsContent, start-with, AreFresh}
use Rattle.markdown_run.proofs.ConstructsAtStart.{start-fits, start-last, start-literals, start-reads}

-- Runs.

-- the scratch fields at the start of a text, to which names may be lent, and which may be the first of a list item
abbrev pub text_fields : Option Names → Bool → TokenizeState
text_fields lent first = record at_rest { names = lent; document_at_first_paragraph_of_list_item = first }

abbrev pub text_start : ParseState → List Piece → Option Names → Bool → Tokenizer → Type 0
text_start p pieces lent first T = StartsContent p pieces (text_fields lent first) T

-- names that are lent are right
abbrev pub AreRightNames : ParseState → Option Names → Type 0
AreRightNames p lent = (names : Names) → lent ≡ Some names → AreListed (setting_of p) names

absent : (names : Names) → None ≡ Some names → ⊥
absent names e = cc

pub none-lent : (p : ParseState) → AreRightNames p None
none-lent p names e = absurd (absent names e)

-- the names of a document, in order
abbrev pub document_names : ParseState → Names
document_names p = names_in_order (map string_bytes p.definitions.items) (map string_bytes p.gfm_footnote_definitions.items) no_brackets

-- names that are put in order are those
pub names-of-document : (p : ParseState) (definitions footnotes : List (List ℕ)) → definitions ≡ in_order (map string_bytes p.definitions.items) →
    footnotes ≡ in_order (map string_bytes p.gfm_footnote_definitions.items) →
    record { definitions = definitions; footnotes = footnotes; brackets = no_brackets } ≡ document_names p
names-of-document p definitions footnotes h k = rw (h, k) refl

some-same : (a b : Names) → Some a ≡ Some b → a ≡ b
some-same a b e = cc

pub document-lent : (p : ParseState) (lent : Names) → lent ≡ document_names p → AreRightNames p (Some lent)
document-lent p lent h names e = grind (arith, some-same)

-- a new tokenizer that is told so
pub started : (p : ParseState) (pieces : List Piece) (first : Bool) (B : Tokenizer) → StartsContent p pieces at_rest B →
    text_start p pieces None first (record B { tokenize_state = record B.tokenize_state { document_at_first_paragraph_of_list_item = first } })
started p pieces first B k = grind (arith, start-with)

-- and to which names are lent
pub started-lent : (p : ParseState) (pieces : List Piece) (lent : Option Names) (first : Bool) (B : Tokenizer) → StartsContent p pieces at_rest B →
    text_start p pieces lent first (record B { tokenize_state = record B.tokenize_state { names = lent; document_at_first_paragraph_of_list_item = first } })
started-lent p pieces lent first B k = grind (arith, start-with)

listed-lent : (p : ParseState) (pieces : List Piece) (lent : Option Names) (first : Bool) (T : Tokenizer) → AreRightNames p lent →
    text_start p pieces lent first T → IsListed T
listed-lent p pieces lent first T right k names known = grind arith

pub text-ready : (p : ParseState) (pieces : List Piece) (lent : Option Names) (first : Bool) (T : Tokenizer) →
    IsTextContent p.bytes.now pieces → AreRightNames p lent → text_start p pieces lent first T → TextStartReady T
text-ready p pieces lent first T text right k = grind (arith, start-fits p.bytes.now pieces T, start-literals p.bytes.now pieces T, start-last p.bytes.now pieces T.cursor, right-unknown T.cursor.codes T.tokenize_state.sequences, listed-lent p pieces lent first T, start-reads p.bytes.now pieces T)

-- and where the names of what is defined are made known
named-start : (p : ParseState) (pieces : List Piece) (lent : Option Names) (first : Bool) (T : Tokenizer) → text_start p pieces lent first T →
    StartsContent p pieces (named_fields T.cursor T.parse_state.now (text_fields lent first)) (text_named T)
unfolding scratched
named-start p pieces lent first T k = grind (arith, start-with)

fresh-fields : (lent : Option Names) (first : Bool) (c : Place) (p : ParseState) → AreFresh (named_fields c p (text_fields lent first))
fresh-fields lent first c p = record { labels = refl; starts = refl; loose = refl; end = refl; seen = refl; probes = refl }

-- nothing is known of the content
pub text-unknown : (p : ParseState) (pieces : List Piece) (lent : Option Names) (first : Bool) (T : Tokenizer) → text_start p pieces lent first T →
    KnowsNothing T
text-unknown p pieces lent first T k = k.fields ∙ ap (with_indexes at_rest) (sym k.fields)

module _ (p : ParseState) (pieces : List Piece) (lent : Option Names) (first : Bool) (content : IsContent p.bytes.now pieces) (T U : Tokenizer) (start : text_start p pieces lent first T) where
  abbrev M : Tokenizer
  M = text_named T

  abbrev Fields : TokenizeState
  Fields = named_fields T.cursor T.parse_state.now (text_fields lent first)

  S : StartsContent p pieces Fields M
  S = named-start p pieces lent first T start

  F : AreFresh Fields
  F = fresh-fields lent first T.cursor T.parse_state.now

  module _ (E : Finishes (text_choice_of M) text_passed M U) where
    pub text-may : MayResolve may_resolve_of resolves_of U.resolvers (unregistered U)
    text-may = read-may p pieces first content Fields F refl M U S E

    module _ (V : Tokenizer) (r : Resolves resolves_of U.resolvers (unregistered U) V) where
      abbrev setting : Setting
      setting = text_setting_of p first

      -- the looks that pairing took are within the bounds of the content's tree of labels
      pub text-probes : IsProbed setting (label_tree setting (content_of p.bytes.now pieces)) V.tokenize_state.probes
      text-probes = read-probes p pieces first content Fields F refl M U S E V r

      -- where runs are not looked for none is taken
      pub text-no-probes : setting.options.constructs.attention ≡ false →
          setting.options.constructs.gfm_strikethrough ≡ false → V.tokenize_state.probes ≡ 0
      text-no-probes = read-no-probes p pieces first content Fields F refl M U S E V r

      -- the events after a run over a text and its passes
      pub text-run : chained V.events ≡ text_events setting pieces
      text-run = read-events p pieces first content Fields F refl M U S E V r
