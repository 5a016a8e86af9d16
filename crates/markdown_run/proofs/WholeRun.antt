-- A whole run over the elements of a content, from its start to what the passes leave.
use Rattle.std.proofs.Common.{◌≡◌, ℕ, true, false, List, [], map, None, ap, subst, ◌∙◌, arith}
use Rattle.std.specs.Borrow.{Bor}
use Rattle.std.specs.declared.alloc.Global.{Global}
use Rattle.markdown_engine.specs.RunStart.{begun, begun_at}
use Rattle.markdown_engine_events.specs.EventChains.{chained}
use Rattle.markdown_content.specs.Codes.{Code}
use Rattle.markdown_content.specs.Content.{IsContent, content_of}
use Rattle.markdown_engine.specs.Operations.{ahead, registered}
use Rattle.markdown_content.specs.Place.{Place, start_of_content}
use Rattle.markdown_engine.specs.RestingFields.{at_rest}
use Rattle.markdown_engine.specs.PassesInOrder.{MayResolve, Resolves, unregistered}
use Rattle.markdown_content.specs.Tree.{Forest, events_of}
use Rattle.markdown_content.specs.declared.parser.ParseState.{ParseState}
use Rattle.markdown_content.specs.declared.parser.Piece.{Piece}
use Rattle.markdown_event.specs.declared.resolve.ResolveName.{ResolveName}
use Rattle.markdown_event.specs.declared.resolve.ResolveName.TheVariants as R
use Rattle.markdown_engine.specs.declared.tokenizer.LabelStart.{LabelStart}
use Rattle.markdown_engine.specs.declared.tokenizer.TokenizeState.{TokenizeState}
use Rattle.markdown_engine.specs.declared.tokenizer.Tokenizer.{Tokenizer}
use Rattle.markdown_engine.proofs.TreeChains.{chained-whole}
use Rattle.markdown_run_text.specs.CutData.{split, HasCodes}
use Rattle.markdown_run_text.proofs.PairsLeaveNoEmptyData.{merged-paired}
use Rattle.markdown_attention.specs.AttentionPass.{IsProbed}
use Rattle.markdown_attention.proofs.AttentionTreeLabels.{IsGood}
use Rattle.markdown_label.specs.Brackets.{grouped}
use Rattle.markdown_model.specs.Elements.{Choice, AreElementsFrom}
use Rattle.markdown_model.specs.LabelEnd.{Element}
use Rattle.markdown_model.specs.Pairs.{pair_list}
use Rattle.markdown_model.specs.Passes.{labels_of, merged}
use Rattle.markdown_model.specs.Setting.{Setting}
use Rattle.markdown_run_text.specs.ElementsAsRead.{AreReadAs, Source, source_of}
use Rattle.markdown_run_text.specs.RunOverElements.{AllElements, Finishes, StandsAfter}
use Rattle.markdown_run_text.specs.RowStart.{IsFreshRow}
use Rattle.markdown_run_text.specs.OpenStarts.{brackets_of}
use Rattle.markdown_run_text.specs.Row.{Row, row_has_run, IsRowAt, split_row, row_of_elements}
use Rattle.markdown_run_text.proofs.RowElements.{grouped-alike}
use Rattle.markdown_run_text.proofs.RowTreeFacts.{grouped-lines, codes-labels}
use Rattle.markdown_run_text.specs.ContentPasses.{may_resolve_of, resolves_of}
use Rattle.markdown_run.proofs.PassesAfterRun.{codes-read}
use Rattle.markdown_run.proofs.DataInDocument.{HasLines-HasCodes}
use Rattle.markdown_run.proofs.PassesAfterRun.{IsTrimming, IsRunStart, IsGiven, IsResolved, codes-ahead}
use Rattle.markdown_run.proofs.ProbeBoundsOfCutData.{probes-alike}
use Rattle.markdown_run.proofs.RowPasses.{row-may, row-left}
use Rattle.markdown_model.specs.InlineTree.{paired_whole}
use Rattle.markdown_run_text.proofs.RunsOfCutData.{codes-same}

-- T stands at the start of the content of these pieces, with no events and these scratch fields
pub record StartsContent (p : ParseState) (pieces : List Piece) (s : TokenizeState) (T : Tokenizer) : Type 0 where
  pub input : T.parse_state.now ≡ p
  pub place : T.cursor ≡ start_of_content p.bytes.now pieces
  pub events : T.events ≡ []
  pub map : T.map ≡ []
  pub resolvers : T.resolvers ≡ []
  pub fields : T.tokenize_state ≡ s

pub begun-starts : (alloc : Global) (p : Bor ParseState) (pieces : List Piece) (T : Tokenizer) →
    T ≡ begun alloc p pieces → StartsContent p.now pieces at_rest T
begun-starts alloc p pieces T e = grind arith

-- and so does one that a cursor begins at that start
pub content-starts : (alloc : Global) (input : Bor ParseState) (p : ParseState) (pieces : List Piece) (cursor : Place) (T : Tokenizer) →
    T ≡ begun_at alloc input cursor → input.now ≡ p → cursor ≡ start_of_content p.bytes.now pieces → StartsContent p pieces at_rest T
content-starts alloc input p pieces cursor T e i k = grind arith

-- with other scratch fields
pub start-with : (p : ParseState) (pieces : List Piece) (s r : TokenizeState) (T : Tokenizer) → StartsContent p pieces s T →
    StartsContent p pieces r (record T { tokenize_state = r })
start-with p pieces s r T k = grind arith

-- nothing stands before the start
pub start-stands : (p : ParseState) (pieces : List Piece) (s : TokenizeState) (T : Tokenizer) → s.label_starts ≡ [] →
    StartsContent p pieces s T → StandsAfter [] None T
unfolding start_of_content
start-stands p pieces s T none k = grind arith

pub start-ahead : (p : ParseState) (pieces : List Piece) (s : TokenizeState) (T : Tokenizer) → StartsContent p pieces s T →
    ahead T ≡ content_of p.bytes.now pieces
start-ahead p pieces s T k = codes-ahead p pieces T k.place

-- scratch fields without labels and looks, those of ends at rest
pub record AreFresh (s : TokenizeState) : Type 0 where
  pub labels : s.labels ≡ []
  pub starts : s.label_starts ≡ []
  pub loose : s.label_starts_loose ≡ []
  pub end : s.end ≡ 0
  pub seen : s.seen ≡ false
  pub probes : s.probes ≡ 0

fresh-start : (p : ParseState) (pieces : List Piece) (s : TokenizeState) (T : Tokenizer) → AreFresh s →
    StartsContent p pieces s T → IsFreshRow T
fresh-start p pieces s T h k = grind arith

-- the elements of these codes, and how they are read: a row with its labels grouped is the tree of their labels but for how data is cut
pub record IsRowRead (bytes : List ℕ) (choice : Choice) (cs : List Code) (row : Row) : Type 0 where
  pub elements : List Element
  pub are : AreElementsFrom choice [] None cs elements
  pub read : List Element
  pub read_as : AreReadAs (record { bytes = bytes; content = cs }) elements read
  pub have_codes : HasCodes (labels_of read)
  pub alike : split_row row ≡ split_row (row_of_elements read)
  pub is_row : IsRowAt [] row
  pub trees : split (grouped (brackets_of row)) ≡ split (labels_of read)

module _ (last : ResolveName) (finish : ParseState → Forest → Forest) (trims : IsTrimming last finish) (choice : Choice) (p : ParseState) (pieces : List Piece) (content : IsContent p.bytes.now pieces) (setting : Setting) (is_given : IsGiven setting p) (s : TokenizeState) (fresh : AreFresh s) (T U : Tokenizer) (start : StartsContent p pieces s T) (k : Finishes choice (λ X. registered last (registered R.Data X)) T U) where
  -- the row with its labels grouped
  abbrev pub Grouped : Forest
  Grouped = grouped (brackets_of k.row)

  begins : IsRunStart p pieces T
  begins = record { content = content; place = start.place; input = start.input; events = start.events; map = start.map; resolvers = start.resolvers; probes = ap (λ (x : TokenizeState). x.probes) start.fields ∙ fresh.probes }

  -- no start waits at the run's start
  is_row : IsRowAt [] k.row
  is_row = subst (λ ks. IsRowAt ks k.row) (ap (λ (x : TokenizeState). map (λ (l : LabelStart). l.kind) x.label_starts) start.fields ∙ ap (map (λ (l : LabelStart). l.kind)) fresh.starts) k.is_row

  -- it reads the content of the document
  source-is : ◌≡◌ {A = Source} (source_of T) (record { bytes = p.bytes.now; content = content_of p.bytes.now pieces })
  source-is = λ i. record { bytes = (start.input i).bytes.now; content = codes-read p pieces T start.place i }

  pub finished-elements : IsRowRead p.bytes.now choice (content_of p.bytes.now pieces) k.row
  finished-elements =
      let all : AllElements (source_of T) choice [] None k.row (ahead T) = k.elements [] None (start-stands p pieces s T fresh.starts start) in
      record {
        elements = all.elements;
        are = subst (λ cs. AreElementsFrom choice [] None cs all.elements) (start-ahead p pieces s T start) all.are;
        read = all.read;
        read_as = subst (λ x. AreReadAs x all.elements all.read) source-is all.read_as;
        have_codes = codes-labels all.read all.have_codes;
        alike = all.alike;
        is_row = is_row;
        trees = grouped-alike k.row all.read is_row all.alike;
      }

  module _ (good : row_has_run k.row ≡ true → IsGood p.bytes.now Grouped) where
    pub finished-may : MayResolve may_resolve_of resolves_of U.resolvers (unregistered U)
    finished-may =
        row-may p pieces setting is_given k.row last finish T U trims begins (fresh-start p pieces s T fresh start) is_row k.whole good k.left

    pub finished-left : (V : Tokenizer) → Resolves resolves_of U.resolvers (unregistered U) V →
        IsResolved setting (finish p) Grouped V
    finished-left V r =
        row-left p pieces setting is_given k.row last finish T U trims begins (fresh-start p pieces s T fresh start) is_row k.whole good k.left V r

    -- what the passes leave, of a tree that differs from it only in how data is cut
    pub finished-events : (V : Tokenizer) (labels : Forest) → HasCodes labels → split Grouped ≡ split labels → Resolves resolves_of U.resolvers (unregistered U) V
        → chained V.events ≡ events_of (finish p (merged (paired_whole setting (pair_list setting) labels)))
    finished-events V labels codes alike r = grind (arith, codes-same, merged-paired, HasLines-HasCodes, grouped-lines, is_row, finished-left, chained-whole)

    pub finished-probes : (V : Tokenizer) (labels : Forest) → split Grouped ≡ split labels →
        Resolves resolves_of U.resolvers (unregistered U) V → IsProbed setting labels V.tokenize_state.probes
    finished-probes V labels alike r = grind (arith, probes-alike setting Grouped labels V.tokenize_state.probes, finished-left V)
