-- The passes of a text after a run that leaves a row: labels are grouped, then pairs, and the tree is merged and trimmed.
use Rattle.std.proofs.Common.{◌≡◌, Bool, true, false, List, [], ◌∷◌, None, refl, sym, ap, subst, ◌∙◌, arith}
use Rattle.markdown_engine.specs.Operations.{registered, ahead}
use Rattle.markdown_engine.specs.PastTree.{appended_from}
use Rattle.markdown_engine.specs.PassesInOrder.{MayResolve, Resolves, unregistered}
use Rattle.markdown_content.specs.Tree.{Forest}
use Rattle.markdown_content.specs.declared.parser.ParseState.{ParseState}
use Rattle.markdown_content.specs.declared.parser.Piece.{Piece}
use Rattle.markdown_event.specs.declared.resolve.ResolveName.{ResolveName}
use Rattle.markdown_event.specs.declared.resolve.ResolveName.TheVariants as R
use Rattle.markdown_engine.specs.declared.tokenizer.TokenizeState.{TokenizeState}
use Rattle.markdown_engine.specs.declared.tokenizer.Tokenizer.{Tokenizer}
use Rattle.markdown_attention.proofs.AttentionTreeLabels.{IsGood}
use Rattle.markdown_label.specs.Brackets.{Brackets, grouped}
use Rattle.markdown_label.specs.LabelsHandedOver.{HasBrackets, MayGroup}
use Rattle.markdown_model.specs.Setting.{Setting}
use Rattle.markdown_run_text.specs.RowStart.{IsFreshRow, IsPastCodes, row_registers}
use Rattle.markdown_run_text.specs.OpenStarts.{brackets_of}
use Rattle.markdown_run_text.specs.Row.{Row, past_row, row_codes, row_has_run, IsRowAt}
use Rattle.markdown_run_text.proofs.RowBrackets.{row-brackets}
use Rattle.markdown_run_text.proofs.RowTreeFacts.{grouped-lines, grouped-codes, grouped-runless}
use Rattle.markdown_run_text.proofs.RowScratch.{past-rest, row-content}
use Rattle.markdown_run_text.proofs.RowWithoutLabels.{flat-grouped}
use Rattle.markdown_run_text.specs.RowTreeNames.{IsRunless}
use Rattle.markdown_run_text.specs.ContentPasses.{may_resolve_of, GroupsLabels, resolves_of}
use Rattle.markdown_run.proofs.PassesAfterRun.{passes_first, labels_first, IsTrimming, HasTreeEvents, IsGiven, IsRunStart, IsResolved, codes-ahead, first-may, first-leaves, codes-read}
use Rattle.markdown_content.specs.Content.{content_of}

module _ (p : ParseState) (pieces : List Piece) (s : Setting) (given : IsGiven s p) (row : Row) (last : ResolveName) (finish : ParseState → Forest → Forest) (S U : Tokenizer) (t : IsTrimming last finish) (start : IsRunStart p pieces S) (fresh : IsFreshRow S)
    (at : IsRowAt [] row) (codes : row_codes row ≡ ahead S) (good : row_has_run row ≡ true → IsGood p.bytes.now (grouped (brackets_of row))) (left : U ≡ registered last (registered R.Data (past_row row S))) where
  -- the run's brackets, and the tree of their groups
  abbrev B : Brackets
  B = brackets_of row

  abbrev tree : Forest
  tree = grouped B

  abbrev P : Tokenizer
  P = past_row row S

  -- past the row, with no pass registered
  abbrev X : Tokenizer
  X = unregistered P

  rest : IsPastCodes (row_registers row) (row_has_run row) (row_codes row) S P
  rest = past-rest row S at fresh start.resolvers

  has : HasBrackets B P.tokenize_state P.events
  has = row-brackets row S at fresh

  map-none : P.map ≡ []
  map-none = ap (λ (x : Tokenizer). x.map) rest.same ∙ start.map

  input : P.parse_state.now ≡ p
  input = ap (λ (x : Tokenizer). x.parse_state.now) rest.same ∙ start.input

  probes : P.tokenize_state.probes ≡ 0
  probes = ap (λ (x : TokenizeState). x.probes) rest.fields ∙ start.probes

  reads : P.cursor.codes ≡ content_of p.bytes.now pieces
  reads = row-content row S ∙ codes-read p pieces S start.place

  runless : row_has_run row ≡ false → IsRunless tree
  runless e = grouped-runless row at e

  -- with the events of the grouped tree
  read-with : (Y : Tokenizer) → Y.map ≡ [] → Y.events ≡ appended_from 0 None tree → Y.parse_state.now ≡ p →
      Y.cursor.codes ≡ content_of p.bytes.now pieces → HasTreeEvents p pieces tree Y
  read-with Y map events input reads = grind (arith, grouped-lines, grouped-codes, codes-ahead)

  -- U is past the row, with the passes of data and of the whole registered, and before them those of labels and runs if such stand in it
  left-is : U ≡ record P { resolvers = labels_first (row_registers row) (passes_first (row_has_run row) (R.Data ∷ last ∷ [])) }
  left-is = left ∙ t.registers (row_registers row) (row_has_run row) P (ap (λ (x : Tokenizer). x.resolvers) rest.same)

  abbrev Others : List ResolveName
  Others = passes_first (row_has_run row) (R.Data ∷ last ∷ [])

  -- where no label is looked for, the brackets are trees alone
  read-plain : row_registers row ≡ false → HasTreeEvents p pieces tree X
  unfolding unregistered
  read-plain e = read-with X map-none (has.events ∙ ap (appended_from 0 None) (flat-grouped row e)) input reads

  may-group : MayGroup X
  unfolding unregistered
  may-group = record { map = map-none; brackets = (B, has) }

  plain-probes : X.tokenize_state.probes ≡ 0
  unfolding unregistered
  plain-probes = probes

  -- what the pass of labels leaves
  read-grouped : (Y : Tokenizer) → GroupsLabels X Y → HasTreeEvents p pieces tree Y
  unfolding unregistered
  read-grouped Y g = grind (arith, read-with Y, map-none, has, input, reads)

  grouped-probes : (Y : Tokenizer) → GroupsLabels X Y → Y.tokenize_state.probes ≡ 0
  unfolding unregistered
  grouped-probes Y g = ap (λ (x : Tokenizer). x.tokenize_state.probes) g.same ∙ probes

  labels-may : (a : Bool) → row_registers row ≡ a → MayResolve may_resolve_of resolves_of (labels_first a Others) X
  labels-may true e =
      (may-group, λ Y g. first-may p pieces tree s given last finish Y t (read-grouped Y g) (row_has_run row) good)
  labels-may false e = first-may p pieces tree s given last finish X t (read-plain e) (row_has_run row) good

  -- after the run the passes may be run
  pub row-may : MayResolve may_resolve_of resolves_of U.resolvers (unregistered U)
  unfolding unregistered
  row-may = subst (λ (x : Tokenizer). MayResolve may_resolve_of resolves_of x.resolvers (unregistered x)) (sym left-is) (labels-may (row_registers row) refl)

  labels-leave : (a : Bool) → row_registers row ≡ a → (V : Tokenizer) →
      Resolves resolves_of (labels_first a Others) X V → IsResolved s (finish p) tree V
  labels-leave true e V r =
      first-leaves p pieces tree s given last finish r.0 t (read-grouped r.0 r.1.0) (row_has_run row) good runless (grouped-probes r.0 r.1.0) V r.1.1
  labels-leave false e V r =
      first-leaves p pieces tree s given last finish X t (read-plain e) (row_has_run row) good runless plain-probes V r

  -- and what they leave
  pub row-left : (V : Tokenizer) → Resolves resolves_of U.resolvers (unregistered U) V → IsResolved s (finish p) tree V
  unfolding unregistered
  row-left V r = grind (arith, labels-leave, left-is)
