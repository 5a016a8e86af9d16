-- The passes of a string and of a text, after a run over a content: they may be called, and leave its tree merged and trimmed.
use Rattle.std.proofs.Common.{◌≡◌, ℕ, Bool, true, false, List, [], ◌∷◌, None, refl, sym, ap, subst, ◌∙◌, arith}
use Rattle.markdown_content.specs.CommonMark.{rules_of}
use Rattle.markdown_content.specs.Content.{IsContent, content_of}
use Rattle.markdown_engine.specs.Operations.{registered, ahead}
use Rattle.markdown_engine.specs.PastTree.{appended_from}
use Rattle.markdown_content.specs.Place.{start_of_content, ahead_at, Place}
use Rattle.markdown_engine.specs.PassesInOrder.{MayResolve, Resolves}
use Rattle.markdown_content.specs.Tree.{Forest, leaf_codes}
use Rattle.markdown_content.specs.declared.parser.ParseState.{ParseState}
use Rattle.markdown_content.specs.declared.parser.Piece.{Piece}
use Rattle.markdown_event.specs.declared.resolve.ResolveName.{ResolveName}
use Rattle.markdown_event.specs.declared.resolve.ResolveName.TheVariants as R
use Rattle.markdown_engine.specs.declared.tokenizer.Tokenizer.{Tokenizer}
use Rattle.markdown_engine.specs.declared.tokenizer.TokenizeState.{TokenizeState}
use Rattle.markdown_engine.proofs.PlaceBounds.{content_fits}
use Rattle.markdown_attention.specs.RunsOfTree.{IsOf, HasRuns}
use Rattle.markdown_attention.specs.AttentionPass.{IsProbed}
use Rattle.markdown_attention.proofs.LabelTreeMayPair.{tree-small}
use Rattle.markdown_attention.proofs.AttentionTreeLabels.{IsGood}
use Rattle.markdown_attention.proofs.RunPlaces.{MeetsPass, good-meets}
use Rattle.markdown_model.specs.Pairs.{pair_list}
use Rattle.markdown_model.specs.Passes.{no_breaks, hard_breaks, merged, trimmed}
use Rattle.markdown_model.specs.Setting.{Setting, within}
use Rattle.markdown_model.proofs.PassesKeepCodes.{codes-merged, codes-paired}
use Rattle.markdown_passes.specs.TrimmedEvents.{HasParts}
use Rattle.markdown_passes.proofs.TrimPassLaw.{places-of}
use Rattle.markdown_run_text.specs.RowStart.{passes_of}
use Rattle.markdown_run_text.specs.RowTreeNames.{HasRowLines, IsRunless}
use Rattle.markdown_run_text.specs.ContentPasses.{MayPair, PairsRuns, MergesData, MayFinish, mailed_where, may_resolve_of, resolves_of}
use Rattle.markdown_run.proofs.DataInDocument.{parts-of, HasLines-merged, HasLines-HasData}
use Rattle.markdown_run.proofs.PairsKeepLines.{HasLines-paired}
use Rattle.markdown_run.proofs.TreesWithoutRuns.{paired-runless, unprobed}
use Rattle.markdown_model.specs.InlineTree.{paired_whole}

-- these passes, before them that of runs if it is registered
abbrev pub passes_first : Bool → List ResolveName → List ResolveName
passes_first true ns = R.Attention ∷ ns
passes_first false ns = ns

-- and before these the pass of labels if it is
abbrev pub labels_first : Bool → List ResolveName → List ResolveName
labels_first true ns = R.Label ∷ ns
labels_first false ns = ns

-- the last pass, and what it leaves of a tree whose data is part of the document
pub record IsTrimming (last : ResolveName) (finish : ParseState → Forest → Forest) : Type 0 where
  pub may : (T : Tokenizer) → MayFinish T → may_resolve_of last T
  pub same : (T U : Tokenizer) → resolves_of last T U → U ≡ record T { events = U.events }
  pub leaves : (T U : Tokenizer) (t : Forest) → resolves_of last T U → HasParts T.parse_state.now.bytes.now t →
      T.events ≡ appended_from 0 None t → U.events ≡ appended_from 0 None (finish T.parse_state.now t)
  pub registers : (a b : Bool) (X : Tokenizer) → X.resolvers ≡ passes_of a b →
      registered last (registered R.Data X) ≡ record X { resolvers = labels_first a (passes_first b (R.Data ∷ last ∷ [])) }

-- a string is trimmed beside its line endings
abbrev pub string_finish : ParseState → Forest → Forest
string_finish p t = trimmed (no_breaks (rules_of p.options.now)) false false t

pub string-trims : IsTrimming R.String string_finish
unfolding registered
string-trims = grind (arith, places-of)

-- a text is trimmed at the start and the end of the whole too, with hard breaks found, and then its email literals are set apart, both where
-- they are looked for
abbrev pub text_finish : ParseState → Forest → Forest
text_finish p t =
    let on = p.options.now.constructs in mailed_where on.gfm_autolink_literal (trimmed (hard_breaks on.hard_break_trailing true (rules_of p.options.now)) true true t)

pub text-trims : IsTrimming R.Text text_finish
unfolding registered
text-trims = grind arith

-- the events of X are those of a tree over this content, and no edit is left
pub record HasTreeEvents (p : ParseState) (pieces : List Piece) (tree : Forest) (X : Tokenizer) : Type 0 where
  pub content : IsContent p.bytes.now pieces
  pub has_lines : HasRowLines tree
  pub codes : leaf_codes tree ≡ content_of p.bytes.now pieces
  pub map : X.map ≡ []
  pub events : X.events ≡ appended_from 0 None tree
  pub input : X.parse_state.now ≡ p
  pub reads : X.cursor.codes ≡ content_of p.bytes.now pieces

merged-parts : (p : ParseState) (pieces : List Piece) (tree : Forest) (X : Tokenizer) → HasTreeEvents p pieces tree X →
    HasParts p.bytes.now (merged tree)
merged-parts p pieces tree X h = grind (arith, parts-of, codes-merged, HasLines-merged)

-- what the first pass leaves
record IsMerged (p : ParseState) (tree : Forest) (V : Tokenizer) : Type 0 where
  pub map : V.map ≡ []
  pub events : V.events ≡ appended_from 0 None (merged tree)
  pub input : V.parse_state.now ≡ p

after-merging : (p : ParseState) (pieces : List Piece) (tree : Forest) (X V : Tokenizer) → HasTreeEvents p pieces tree X →
    MergesData X V → IsMerged p tree V
after-merging p pieces tree X V h m = grind (arith, HasLines-HasData)

merged-there : (p : ParseState) (pieces : List Piece) (tree : Forest) (X V : Tokenizer) → HasTreeEvents p pieces tree X →
    V.parse_state.now ≡ p → HasParts V.parse_state.now.bytes.now (merged tree)
merged-there p pieces tree X V h e = grind (arith, merged-parts p pieces tree X)

may-finish : (p : ParseState) (pieces : List Piece) (tree : Forest) (X V : Tokenizer) → HasTreeEvents p pieces tree X →
    MergesData X V → MayFinish V
may-finish p pieces tree X V h m = grind (arith, after-merging p pieces tree X V, merged-there p pieces tree X V)

-- the passes may be run
pub passes-may : (p : ParseState) (pieces : List Piece) (tree : Forest) (last : ResolveName) (finish : ParseState → Forest → Forest) (X : Tokenizer) →
    IsTrimming last finish → HasTreeEvents p pieces tree X → MayResolve may_resolve_of resolves_of (R.Data ∷ last ∷ []) X
passes-may p pieces tree last finish X t h = grind (arith, may-finish p pieces tree X)

-- what they leave
pub passes-leave : (p : ParseState) (pieces : List Piece) (tree : Forest) (last : ResolveName) (finish : ParseState → Forest → Forest) (X V : Tokenizer) →
    IsTrimming last finish → HasTreeEvents p pieces tree X → Resolves resolves_of (R.Data ∷ last ∷ []) X V →
    (V.events ≡ appended_from 0 None (finish p (merged tree))) × (V.tokenize_state ≡ X.tokenize_state)
passes-leave p pieces tree last finish X V t h r =
    let W : Tokenizer = r.0 in
    let U : Tokenizer = r.1.1.0 in
    let m : MergesData X W = r.1.0 in
    let same : V ≡ U = r.1.1.1.1 in
    let k : IsMerged p tree W = after-merging p pieces tree X W h m in (
      ap (λ (x : Tokenizer). x.events) same ∙ t.leaves W U (merged tree) r.1.1.1.0 (merged-there p pieces tree X W h k.input) k.events ∙ ap (λ (x : ParseState). appended_from 0 None (finish x (merged tree))) k.input,
      ap (λ (x : Tokenizer). x.tokenize_state) same ∙ ap (λ (x : Tokenizer). x.tokenize_state) (t.same W U r.1.1.1.0) ∙ ap (λ (x : Tokenizer). x.tokenize_state) m.same,
    )

-- The pass of runs, where it is registered.

-- a setting of what the run is given
pub record IsGiven (s : Setting) (p : ParseState) : Type 0 where
  pub bytes : s.bytes ≡ p.bytes.now
  pub options : s.options ≡ p.options.now

given-of : (s : Setting) (p : ParseState) (tree : Forest) (X : Tokenizer) → IsGiven s p → X.parse_state.now ≡ p → leaf_codes tree ≡ X.cursor.codes →
    IsOf s tree X
given-of s p tree X g e codes = grind arith

may-pair : (p : ParseState) (pieces : List Piece) (tree : Forest) (X : Tokenizer) → HasTreeEvents p pieces tree X →
    IsGood p.bytes.now tree → MayPair X
may-pair p pieces tree X h good = grind (arith, good-meets p.bytes.now tree, tree-small p.options.now p.bytes.now X.cursor.codes tree X.events, content_fits p.bytes.now pieces)

module _ (p : ParseState) (pieces : List Piece) (tree : Forest) (s : Setting) (given : IsGiven s p) (X V : Tokenizer) (h : HasTreeEvents p pieces tree X) (good : IsGood p.bytes.now tree) (m : PairsRuns X V) where
  meets : MeetsPass p.bytes.now tree
  meets = good-meets p.bytes.now tree h.content.is_text h.content.fits good

  runs : HasRuns X.parse_state.now.bytes.now tree
  runs = subst (λ (x : ParseState). HasRuns x.bytes.now tree) (sym h.input) meets.runs

  -- it is the pass of a tree of the content
  is_of : IsOf s tree X
  is_of = given-of s p tree X given h.input (h.codes ∙ sym h.reads)

  -- it leaves the events of the paired tree
  paired-read : HasTreeEvents p pieces (paired_whole s (pair_list s) tree) V
  paired-read = grind (arith, HasLines-paired, meets, codes-paired, is_of, runs)

  paired-probes : IsProbed s tree V.tokenize_state.probes
  paired-probes = m.probed s tree is_of runs h.events

-- what the passes of a run over a content leave of its tree: its pairs grouped, merged and finished, and the number of looks that pairing took
pub record IsResolved (s : Setting) (finish : Forest → Forest) (tree : Forest) (V : Tokenizer) : Type 0 where
  pub events : V.events ≡ appended_from 0 None (finish (merged (paired_whole s (pair_list s) tree)))
  pub probed : IsProbed s tree V.tokenize_state.probes

-- the passes behind that of labels: those of runs, if a run stands somewhere, of data and of the whole
module _ (p : ParseState) (pieces : List Piece) (tree : Forest) (s : Setting) (given : IsGiven s p) (last : ResolveName) (finish : ParseState → Forest → Forest) (X : Tokenizer) (t : IsTrimming last finish) (read : HasTreeEvents p pieces tree X) where
  pub first-may : (b : Bool) → (b ≡ true → IsGood p.bytes.now tree) →
      MayResolve may_resolve_of resolves_of (passes_first b (R.Data ∷ last ∷ [])) X
  first-may true good = (
    may-pair p pieces tree X read (good refl),
    λ V m. passes-may p pieces (paired_whole s (pair_list s) tree) last finish V t (paired-read p pieces tree s given X V read (good refl) m),
  )
  first-may false good = passes-may p pieces tree last finish X t read

  pub first-leaves : (b : Bool) → (b ≡ true → IsGood p.bytes.now tree) → (b ≡ false → IsRunless tree) → X.tokenize_state.probes ≡ 0 → (V : Tokenizer)
      → Resolves resolves_of (passes_first b (R.Data ∷ last ∷ [])) X V → IsResolved s (finish p) tree V
  first-leaves true good runless none V r =
      let m : PairsRuns X r.0 = r.1.0 in
      let l = passes-leave p pieces (paired_whole s (pair_list s) tree) last finish r.0 V t (paired-read p pieces tree s given X r.0 read (good refl) m) r.1.1 in
      record {
        events = l.0;
        probed = subst (λ (x : TokenizeState). IsProbed s tree x.probes) (sym l.1) (paired-probes p pieces tree s given X r.0 read (good refl) m);
      }
  first-leaves false good runless none V r =
      let l = passes-leave p pieces tree last finish X V t read r in
      record {
        events = l.0 ∙ ap (λ x. appended_from 0 None (finish p (merged x))) (sym (paired-runless (within (leaf_codes tree) s) (pair_list s) tree (runless refl)));
        probed = subst (λ (n : ℕ). IsProbed s tree n) (sym (ap (λ (x : TokenizeState). x.probes) l.1 ∙ none)) (unprobed s tree (runless refl));
      }

-- At the end of a run.

-- the start of a run over this content
pub record IsRunStart (p : ParseState) (pieces : List Piece) (S : Tokenizer) : Type 0 where
  pub content : IsContent p.bytes.now pieces
  pub place : S.cursor ≡ start_of_content p.bytes.now pieces
  pub input : S.parse_state.now ≡ p
  pub events : S.events ≡ []
  pub map : S.map ≡ []
  pub resolvers : S.resolvers ≡ []
  pub probes : S.tokenize_state.probes ≡ 0

pub codes-ahead : (p : ParseState) (pieces : List Piece) (S : Tokenizer) →
    S.cursor ≡ start_of_content p.bytes.now pieces → ahead S ≡ content_of p.bytes.now pieces
unfolding start_of_content ahead_at
codes-ahead p pieces S e = ap ahead_at e

pub codes-read : (p : ParseState) (pieces : List Piece) (S : Tokenizer) →
    S.cursor ≡ start_of_content p.bytes.now pieces → S.cursor.codes ≡ content_of p.bytes.now pieces
unfolding start_of_content
codes-read p pieces S e = ap (λ (x : Place). x.codes) e
