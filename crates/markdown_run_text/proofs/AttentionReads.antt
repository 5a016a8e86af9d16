-- A run of markers that is passed is read.
use Rattle.std.proofs.Common.{◌≡◌, ℕ, ◌+◌, ◌==◌, Bool, true, false, List, [], ◌∷◌, ◌++◌, Option, None, Some, refl, sym, ap, ◌∙◌, append-nil, length, arith}
use Rattle.std.specs.Option.{is_some}
use Rattle.std.proofs.lemmas.Bool.{eqb-true, eq-eqb}
use Rattle.markdown_content.specs.Codes.{Code}
use Rattle.markdown_content.specs.ListFunctions.{rest_of}
use Rattle.markdown_content.specs.Place.{Place, ahead_at, code_at, moved, point_of}
use Rattle.markdown_content.specs.Tree.{Forest, leaf, leaf_codes}
use Rattle.markdown_event.specs.declared.event.Name.TheVariants as N
use Rattle.markdown_content.proofs.PlaceRules.{IsAhead, ahead_none, ahead_some, left_moved}
use Rattle.markdown_notes.specs.RunIndex.{leading}
use Rattle.markdown_engine.specs.Operations.{ahead, applied, current_of, entered, exited, registered}
use Rattle.markdown_engine.specs.PastTree.{moved_by, passed, past}
use Rattle.markdown_event.specs.declared.resolve.ResolveName.TheVariants as R
use Rattle.markdown_engine.specs.declared.tokenizer.Tokenizer.{Tokenizer}
use Rattle.markdown_engine.proofs.OperationFields.{BeginsWithValue, ahead-some}
use Rattle.markdown_engine.proofs.ReadingSequences.{scratched-same}
use Rattle.markdown_engine.proofs.TreeEvents.{ahead-past, leaf-past}
use Rattle.markdown_attention.specs.Attention.{switches_of}
use Rattle.markdown_attention.proofs.AttentionLaws.{run-ahead}
use Rattle.markdown_leaf.proofs.RawTextWithoutEnd.{run-length}
use Rattle.markdown_model.specs.CodeTests.{is_value}
use Rattle.markdown_model.specs.Elements.{attention_run, switched}
use Rattle.markdown_model.specs.Grammar.{gives, span}
use Rattle.markdown_model.specs.LabelEnd.{plain}
use Rattle.markdown_model.specs.SingleConstructs.{attention_here, begins_run, plain_tree}
use Rattle.markdown_model.proofs.GrammarSteps.{bind-some, some-span, span-none, span-takes, switched-off, switched-on}
use Rattle.markdown_run_text.specs.PlacesPassed.{is_some_value, past_run, with_leaf}
use Rattle.markdown_run_text.specs.ReaderEnds.{ReadsWith, options_here}

-- Marker by marker.

pub marker-here : (m : ℕ) (o : Option ℕ) → is_some_value m o ≡ true → o ≡ Some m
marker-here m o h = grind (arith, eqb-true)

-- past a marker at the place
pub run-goes : (m : ℕ) (p : Place) → is_some_value m (code_at p) ≡ true → past_run m p ≡ past_run m (moved p)
run-goes m p h = grind (arith, ahead_some p m, marker-here m (code_at p), span-takes (is_value m), eq-eqb)

pub run-code : (m : ℕ) (p : Place) → is_some_value m (code_at p) ≡ true → is_some (code_at p) ≡ true
run-code m p h = ap is_some (marker-here m (code_at p) h)

pub run-less : (m : ℕ) (p : Place) → is_some_value m (code_at p) ≡ true → length (ahead_at (moved p)) + 1 ≡ length (ahead_at p)
run-less m p h = left_moved p m (marker-here m (code_at p) h)

pub run-stops : (m : ℕ) (p : Place) → is_some_value m (code_at p) ≡ false → past_run m p ≡ p
run-stops m p h = by_code (code_at p) refl h
  where
    by_code : (o : Option ℕ) → code_at p ≡ o → is_some_value m o ≡ false → past_run m p ≡ p
    by_code None e k = ap (λ cs. moved_by (span (is_value m) cs).0 p) (ahead_none p e)
    by_code (Some v) e k =
        let a : IsAhead p v = ahead_some p v e in
        ap (λ cs. moved_by (span (is_value m) cs).0 p) a.codes
        ∙ ap (λ (s : List Code × List Code). moved_by s.0 p) (span-none (is_value m) (a.code ∷ ahead_at (moved p)) (ap (λ x. x == m) a.value ∙ k))

-- The whole run.

pub at-moved : (cs : List Code) (p : Place) → (moved_by cs p).at ≡ p.at + length cs
unfolding moved
at-moved [] p = omega arith
at-moved (c ∷ cs) p = let more : (moved_by cs (moved p)).at ≡ (moved p).at + length cs = at-moved cs (moved p) in omega (arith, more)

-- it is as long as the codes that come next with its value
pub run-at : (m : ℕ) (p : Place) → (past_run m p).at ≡ p.at + leading m (ahead_at p)
run-at m p = at-moved (span (is_value m) (ahead_at p)).0 p ∙ ap (λ n. p.at + n) (run-length m (ahead_at p))

run-codes : (m : ℕ) (on : Bool) (c : Code) (cs : List Code) → on ≡ true → (c.value == m) ≡ true
    → switched on (attention_run m) (c ∷ cs) ≡ Some (plain (leaf N.AttentionSequence (c ∷ (span (is_value m) cs).0)), (span (is_value m) cs).1)
unfolding switched attention_run gives
run-codes m on c cs e h =
    switched-on (attention_run m) on (c ∷ cs) e
    ∙ bind-some _ _ _ _ _ _ (some-span (is_value m) (c ∷ cs) c (span (is_value m) cs).0 (span (is_value m) cs).1 (span-takes (is_value m) c cs h)) refl

pub span-parts : (p : Code → Bool) (cs : List Code) → (span p cs).0 ++ (span p cs).1 ≡ cs
span-parts p [] = refl
span-parts p (c ∷ cs) = grind (arith, span-takes, span-none, span-parts p cs)

-- past a run, with the events of its leaf
abbrev past_markers : ℕ → Tokenizer → Tokenizer
past_markers m T = with_leaf N.AttentionSequence (point_of T.cursor) (record T { cursor = past_run m T.cursor })

markers-past : (m : ℕ) (T : Tokenizer) →
    past_markers m T ≡ exited N.AttentionSequence (passed (span (is_value m) (ahead T)).0 (entered N.AttentionSequence T))
unfolding applied passed
markers-past m T = refl

pub run-reads : (T U V : Tokenizer) (m : ℕ) → current_of T ≡ Some m → begins_run (switches_of T) m ≡ true →
    U ≡ past_markers m T → V ≡ registered R.Attention U →
    ReadsWith (Some R.Attention) (attention_here (options_here T)) None T.tokenize_state T V
run-reads T U V m e on k l =
    let b : BeginsWithValue m (ahead T) = ahead-some T m e in
    let cs : List Code = rest_of (ahead T) in
    let s : List Code × List Code = span (is_value m) cs in
    let ms : List Code = b.code ∷ s.0 in
    let tree : Forest = leaf N.AttentionSequence ms in
    let marks : (b.code.value == m) ≡ true = eq-eqb b.code.value m b.value in
    let taken : span (is_value m) (ahead T) ≡ (ms, s.1) = ap (span (is_value m)) b.whole ∙ span-takes (is_value m) b.code cs marks in
    let codes : ahead T ≡ ms ++ s.1 = b.whole ∙ ap (λ xs. b.code ∷ xs) (sym (span-parts (is_value m) cs)) in
    let whole : ahead T ≡ leaf_codes tree ++ s.1 = codes ∙ ap (λ xs. xs ++ s.1) (sym (append-nil ms)) in
    let over : U ≡ past None tree T =
    k ∙ markers-past m T
    ∙ ap (λ (x : List Code × List Code). exited N.AttentionSequence (passed x.0 (entered N.AttentionSequence T))) taken
    ∙ leaf-past N.AttentionSequence None false b.code s.0 s.1 T codes in (
      U,
      (
        record {
          tree = tree;
          rest = s.1;
          holds = run-ahead T m e
              ∙ ap (λ xs. plain_tree (switched (begins_run (switches_of T) m) (attention_run m) xs)) b.whole
              ∙ ap plain_tree (run-codes m (begins_run (switches_of T) m) b.code cs on marks);
          left = over ∙ ap (past None tree) (sym (scratched-same T));
          whole = whole;
          after = ap ahead over ∙ ahead-past None tree T s.1 whole;
        },
        l,
      ),
    )

pub no-run : (T : Tokenizer) (m : ℕ) → current_of T ≡ Some m → begins_run (switches_of T) m ≡ false →
    attention_here (options_here T) (ahead T) ≡ None
unfolding switched
no-run T m e off = grind (arith, run-ahead T m, switched-off (attention_run m) (begins_run (switches_of T) m) (ahead T))
