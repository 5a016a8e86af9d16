use Rattle.std.proofs.Common.{◌≡◌, IfOk, OnOk, Result, Ok, Err, None, sym, subst}
use Rattle.markdown_engine.specs.PastTree.{appended_from}
use Rattle.markdown_content.specs.Tree.{Forest}
use Rattle.markdown_event.specs.declared.resolve.ResolveName.{ResolveName}
use Rattle.markdown_engine.specs.declared.tokenizer.Tokenizer.{Tokenizer}
use Rattle.markdown_attention.specs.RunsOfTree.{IsOf, HasRuns}
use Rattle.markdown_attention.specs.AttentionPass.{IsProbed}
use Rattle.markdown_attention.specs.AttentionTrees.{IsStriped}
use Rattle.markdown_model.specs.InlineTree.{paired_whole}
use Rattle.markdown_model.specs.Pairs.{pair_list}
use Rattle.markdown_model.specs.Setting.{Setting}
use Rattle.markdown_label.specs.Brackets.{Brackets, grouped}
use Rattle.markdown_label.specs.LabelsHandedOver.{HasBrackets, unlabelled}
use Rattle.markdown_run_text.specs.ContentPasses.{GroupsLabels, PairsRuns, resolves_of}
use Rattle.markdown_run.proofs.resolve.dispatch.Goals as goal

-- what the pass of runs ensures, put together
pairs-runs : {A E : Type 0} (o : Result A E) (T U : Tokenizer) → OnOk o (U ≡ record T { events = U.events; tokenize_state = record T.tokenize_state { probes = U.tokenize_state.probes } })
    → ((s : Setting) (t : Forest) → IsOf s t T → HasRuns T.parse_state.now.bytes.now t → IsStriped t → T.events ≡ appended_from 0 None t → OnOk o (U.events ≡ appended_from 0 None (paired_whole s (pair_list s) t)))
    → ((s : Setting) (t : Forest) → IsOf s t T → HasRuns T.parse_state.now.bytes.now t → T.events ≡ appended_from 0 None t → OnOk o (IsProbed s t U.tokenize_state.probes)) → IfOk o (λ _. PairsRuns T U)
pairs-runs (Ok x) T U same grouped probed = record { same = same; paired = grouped; probed = probed }
pairs-runs (Err e) T U same grouped probed = tt

pub returns-in-Attention-clause-ok : goal.returns-in-Attention-clause-ok
returns-in-Attention-clause-ok c =
    subst (λ (n : ResolveName). IfOk c.resolve-in-Attention.result (λ _. resolves_of n c.args.tokenizer.now c.resolve-in-Attention.new.tokenizer)) (sym c.in-Attention.is)
    (pairs-runs c.resolve-in-Attention.result c.args.tokenizer.now c.resolve-in-Attention.new.tokenizer c.resolve-in-Attention.ensures.same c.resolve-in-Attention.ensures.paired c.resolve-in-Attention.ensures.probed)

-- what the pass of labels ensures, put together
groups-labels : {A E : Type 0} (o : Result A E) (T U : Tokenizer) → OnOk o (U ≡ record T { events = U.events; tokenize_state = unlabelled T.tokenize_state })
    → ((b : Brackets) → HasBrackets b T.tokenize_state T.events → OnOk o (U.events ≡ appended_from 0 None (grouped b))) → IfOk o (λ _. GroupsLabels T U)
groups-labels (Ok x) T U same grouped = record { same = same; grouped = grouped }
groups-labels (Err e) T U same grouped = tt

pub returns-in-Label-clause-ok : goal.returns-in-Label-clause-ok
returns-in-Label-clause-ok c =
    subst (λ (n : ResolveName). IfOk c.resolve.result (λ _. resolves_of n c.args.tokenizer.now c.resolve.new.tokenizer)) (sym c.in-Label.is)
    (groups-labels c.resolve.result c.args.tokenizer.now c.resolve.new.tokenizer c.resolve.ensures.same c.resolve.ensures.grouped)
