-- The end of a label is read as the definitions read it, where it is read what follows its `]`.
use Rattle.std.proofs.Common.{◌≡◌, ℕ, ◌&&◌, not, Bool, true, false, List, [], ◌∷◌, ◌++◌, Option, None, Some, refl, sym, ap, ◌∙◌, arith}
use Rattle.std.proofs.lemmas.Bool.{not-true}
use Rattle.markdown_content.specs.Codes.{Code}
use Rattle.markdown_content.specs.Tree.{Forest, leaf, leaf_codes}
use Rattle.markdown_event.specs.declared.event.Name.TheVariants as N
use Rattle.markdown_content.specs.declared.label_kind.LabelKind.{LabelKind}
use Rattle.markdown_engine.specs.Operations.{ahead, done, scratched}
use Rattle.markdown_engine.specs.PastTree.{past}
use Rattle.markdown_engine.specs.declared.tokenizer.LabelStart as Kept
use Rattle.markdown_engine.specs.declared.tokenizer.Tokenizer.{Tokenizer}
use Rattle.markdown_engine.proofs.ReadingSequences.{scratched-same}
use Rattle.markdown_engine.proofs.SolidTrees.{IsSolid-group, IsSolid-leaf}
use Rattle.markdown_engine.proofs.TreeEvents.{ahead-past, ops-past}
use Rattle.markdown_label.specs.LabelEnd.{Ends, end_made, end_ops, end_tree, ended, is_on, kind_set, made, made_here, outcome_by}
use Rattle.markdown_label_names.specs.LabelNames.{names_itself, place_at}
use Rattle.markdown_label.specs.LabelFields.{bars}
use Rattle.markdown_label_names.specs.LabelSetting.{setting_in}
use Rattle.markdown_label.proofs.LabelEndLemmas.{ahead-made}
use Rattle.markdown_label.proofs.LabelEndReadings.{outcome-tail}
use Rattle.markdown_label.proofs.LabelEndStartLaw.{reading-at}
use Rattle.markdown_model.specs.CodeTests.{is_value}
use Rattle.markdown_model.specs.Grammar.{gives}
use Rattle.markdown_model.specs.LabelEnd.{after_label, is_footnote, is_image, label_name, link_kind, names_definition}
use Rattle.markdown_model.specs.Setting.{Setting}
use Rattle.markdown_model.specs.SingleConstructs.{outcome}
use Rattle.markdown_model.proofs.GrammarSteps.{bind-some, switched-on}
use Rattle.markdown_partial.specs.LinkedTreeOps.{linked_ops}
use Rattle.markdown_partial.proofs.LinkedTreeLemmas.{CoversRow, linked-past}
use Rattle.markdown_run_text.specs.PlainResource.{may_make, takes_resource}

-- what follows a `]`, where the end makes a label of it: whatever is defined, or if the label itself is
pub record EndFollows (s : Setting) (asks : Bool) (read : Tokenizer → Tokenizer) (cs : List Code) : Type 0 where
  pub tree : Forest
  pub codes : List Code
  pub rest : List Code
  pub whole : cs ≡ codes ++ rest
  pub holds : (defined : Bool) → (asks ≡ true → defined ≡ true) → after_label s defined cs ≡ Some (tree, rest)
  pub covers : CoversRow tree codes
  pub reads : (T : Tokenizer) → ahead T ≡ cs → read T ≡ done (linked_ops false tree) T

-- The end of the label.

-- where the last start keeps its kind
kept-kind : (M : Tokenizer) (l : Kept.LabelStart) (ls : List Kept.LabelStart) → M.tokenize_state.label_starts ≡ l ∷ ls →
    link_kind l.kind ≡ l.kind → kind_set (link_kind l.kind) M ≡ M
kept-kind M l ls e same = grind (arith, scratched-same M)

-- such a start is not barred, and its label is a link's or an image's
record TakesStart (l : Kept.LabelStart) : Type 0 where
  active : bars l ≡ false
  plain : is_footnote l.kind ≡ false
  same : link_kind l.kind ≡ l.kind

takes-by : (kind : LabelKind) (inactive : Bool) → takes_resource kind inactive ≡ true →
    ((not (is_image kind) && inactive) ≡ false) × ((is_footnote kind ≡ false) × (link_kind kind ≡ kind))
takes-by kind inactive h = grind (arith, not-true)

takes : (l : Kept.LabelStart) → takes_resource l.kind l.inactive ≡ true → TakesStart l
takes l h = let p = takes-by l.kind l.inactive h in record { active = p.0; plain = p.1.0; same = p.1.1 }

-- without a caret the kind is no part of what the label names itself
itself-by : (kind : LabelKind) (s : Setting) (from to : ℕ) → is_footnote kind ≡ false →
    names_definition s kind (label_name s kind from to) ≡ names_itself s from to
itself-by kind s from to h = grind arith

-- the label of the last of these starts, whose `]` this is, is defined, if that is asked for
abbrev pub AnswersBy : Tokenizer → Bool → Code → List Kept.LabelStart → Type 0
AnswersBy T asks x [] = Unit {0}
AnswersBy T asks x (l ∷ ls) = asks ≡ true → names_itself (setting_in T) (place_at T.events l.start.1).index x.start.index ≡ true

-- nothing is asked of the label
pub asks-nothing : (T : Tokenizer) (x : Code) (ls : List Kept.LabelStart) → AnswersBy T false x ls
asks-nothing T x ls = grind arith

module _ (T : Tokenizer) (asks : Bool) (read : Tokenizer → Tokenizer) (x : Code) (later : List Code) (on : is_on T ≡ true) (bracket : is_value 93 x ≡ true) (codes : ahead T ≡ x ∷ later) (k : EndFollows (setting_in T) asks read later) where
  -- past the end's own events
  abbrev P : Tokenizer
  P = past None (end_tree (x ∷ [])) (ended T)

  end-past : done end_ops (ended T) ≡ P
  unfolding scratched
  end-past = grind (arith, ops-past (end_tree (x ∷ [])) later (ended T), IsSolid-group N.LabelEnd (leaf N.LabelMarker (x ∷ [])), IsSolid-leaf N.LabelMarker (x ∷ []))

  ahead-there : ahead P ≡ later
  unfolding scratched
  ahead-there = ahead-past None (end_tree (x ∷ [])) (ended T) later codes

  tree-codes : later ≡ leaf_codes k.tree ++ k.rest
  tree-codes = k.whole ∙ ap (λ xs. xs ++ k.rest) (sym k.covers.1)

  tail-past : read P ≡ past None k.tree P
  tail-past = k.reads P ahead-there ∙ linked-past false k.tree k.rest P k.covers.0 (ahead-there ∙ tree-codes)

  module _ (l : Kept.LabelStart) (ls : List Kept.LabelStart) (top : T.tokenize_state.label_starts ≡ l ∷ ls) (takes : TakesStart l) where
    abbrev s : Setting
    s = setting_in T

    abbrev name : Option (List ℕ)
    name = label_name s l.kind (place_at T.events l.start.1).index x.start.index

    -- the label is defined, if that is asked for
    abbrev Answers : Type 0
    Answers = asks ≡ true → names_itself s (place_at T.events l.start.1).index x.start.index ≡ true

    named : Answers → asks ≡ true → names_definition s l.kind name ≡ true
    named a h = itself-by l.kind s (place_at T.events l.start.1).index x.start.index takes.plain ∙ a h

    outcome-is : Answers → outcome_by T.tokenize_state.label_starts T (x ∷ []) later ≡ Some ((link_kind l.kind, k.tree), k.rest)
    outcome-is a = grind (arith, switched-on (outcome s l.kind name) (not (bars l)) later, outcome-tail s l.kind name later k.tree k.rest, named)

    starts-there : P.tokenize_state.label_starts ≡ l ∷ ls
    unfolding past scratched
    starts-there = top

    ends-by : (U : Tokenizer) → Answers → U ≡ made_here (read (done end_ops (ended T))) → Ends T U
    unfolding end_made made gives
    ends-by U a e =
        let there : read (done end_ops (ended T)) ≡ past None k.tree P = ap read end-past ∙ tail-past in
        record {
          back = x ∷ [];
          kind = link_kind l.kind;
          tail = k.tree;
          rest = k.rest;
          holds = reading-at T x later on codes bracket ∙ bind-some (outcome_by T.tokenize_state.label_starts T (x ∷ [])) _ later (link_kind l.kind, k.tree) k.rest _ (outcome-is a) refl;
          left = e ∙ ap made_here (there ∙ ap (past None k.tree) (sym (kept-kind P l ls starts-there takes.same)));
          whole = codes ∙ ap (λ xs. x ∷ xs) tree-codes;
          after = ap ahead (e ∙ ap made_here there) ∙ ahead-made (past None k.tree P) ∙ ahead-past None k.tree P k.rest (ahead-there ∙ tree-codes);
        }

  -- so where the last start may make a label
  pub ends-where : (U : Tokenizer) → may_make T.tokenize_state.label_starts ≡ true → AnswersBy T asks x T.tokenize_state.label_starts →
      U ≡ made_here (read (done end_ops (ended T))) → Ends T U
  ends-where U h a e = by-starts T.tokenize_state.label_starts refl h a
    where
      by-starts : (ls : List Kept.LabelStart) → T.tokenize_state.label_starts ≡ ls → may_make ls ≡ true → AnswersBy T asks x ls → Ends T U
      by-starts [] top h a = cc
      by-starts (l ∷ ls) top h a = ends-by l ls top (takes l h) U a e
