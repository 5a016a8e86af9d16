use Rattle.std.proofs.Common.{◌∙◌, ap, subst}
use Rattle.std.proofs.lemmas.Result.{IfOk-weaker}
use Rattle.markdown_engine.specs.RestingFields.{at_rest}
use Rattle.markdown_content.specs.Content.{IsContent}
use Rattle.markdown_content.specs.Place.{start_of_content}
use Rattle.markdown_document.specs.ContentOfDocument.{ContentOf}
use Rattle.markdown_run.proofs.WholeRun.{StartsContent, content-starts}
use Rattle.markdown_run.proofs.StringRun.{string-may, string-probes, string-run}
use Rattle.markdown_run_text.specs.RunSetting.{setting_of}
use Rattle.markdown_innermost.proofs.LeavesAreStretches.{string-in-order, string-covers}
use Rattle.markdown_document.proofs.document.Content.string_list.Goals as goal

pub run_through-requires-clause-passes : goal.run_through-requires-clause-passes
run_through-requires-clause-passes c = λ held left ends.
    let v : ContentOf = c.args.self.now in
    let content : IsContent v.parse_state.bytes.now v.pieces = subst (λ (x : ContentOf). IsContent x.parse_state.bytes.now x.pieces) c.self.view_is c.self.invariant.0 in
    let start : StartsContent v.parse_state v.pieces at_rest c.starting_at-tokenizer.result = content-starts _ _ v.parse_state v.pieces _ c.starting_at-tokenizer.result c.starting_at-tokenizer.ensures (c.document.view_is ∙ ap (λ (x : ContentOf). x.parse_state) c.self.view_is) (c.save.ensures ∙ c.self.invariant.1 ∙ ap (λ (x : ContentOf). start_of_content x.parse_state.bytes.now x.pieces) c.self.view_is) in
    string-may v.parse_state v.pieces content c.starting_at-tokenizer.result left start held ends

pub returns-clause-events : goal.returns-clause-events
returns-clause-events c =
    let v : ContentOf = c.args.self.now in
    let content : IsContent v.parse_state.bytes.now v.pieces = subst (λ (x : ContentOf). IsContent x.parse_state.bytes.now x.pieces) c.self.view_is c.self.invariant.0 in
    let start : StartsContent v.parse_state v.pieces at_rest c.starting_at-tokenizer.result = content-starts _ _ v.parse_state v.pieces _ c.starting_at-tokenizer.result c.starting_at-tokenizer.ensures (c.document.view_is ∙ ap (λ (x : ContentOf). x.parse_state) c.self.view_is) (c.save.ensures ∙ c.self.invariant.1 ∙ ap (λ (x : ContentOf). start_of_content x.parse_state.bytes.now x.pieces) c.self.view_is) in
    IfOk-weaker c.run_through.result _ _
    (λ run k. k.found.events ∙ string-run v.parse_state v.pieces content c.starting_at-tokenizer.result k.left start k.held k.ends k.found.passed k.found.resolves)
    c.run_through.ensures

pub returns-clause-places : goal.returns-clause-places
returns-clause-places c =
    let v : ContentOf = c.args.self.now in
    let content : IsContent v.parse_state.bytes.now v.pieces = subst (λ (x : ContentOf). IsContent x.parse_state.bytes.now x.pieces) c.self.view_is c.self.invariant.0 in
    IfOk-weaker c.run_through.result _ _ (λ run e. string-in-order (setting_of v.parse_state) v.pieces _ content e) (returns-clause-events c)

pub returns-clause-leaves : goal.returns-clause-leaves
returns-clause-leaves c =
    let v : ContentOf = c.args.self.now in
    let content : IsContent v.parse_state.bytes.now v.pieces = subst (λ (x : ContentOf). IsContent x.parse_state.bytes.now x.pieces) c.self.view_is c.self.invariant.0 in
    IfOk-weaker c.run_through.result _ _ (λ run e. string-covers (setting_of v.parse_state) v.pieces _ content e) (returns-clause-events c)

pub returns-clause-probes : goal.returns-clause-probes
returns-clause-probes c =
    let v : ContentOf = c.args.self.now in
    let content : IsContent v.parse_state.bytes.now v.pieces = subst (λ (x : ContentOf). IsContent x.parse_state.bytes.now x.pieces) c.self.view_is c.self.invariant.0 in
    let start : StartsContent v.parse_state v.pieces at_rest c.starting_at-tokenizer.result = content-starts _ _ v.parse_state v.pieces _ c.starting_at-tokenizer.result c.starting_at-tokenizer.ensures (c.document.view_is ∙ ap (λ (x : ContentOf). x.parse_state) c.self.view_is) (c.save.ensures ∙ c.self.invariant.1 ∙ ap (λ (x : ContentOf). start_of_content x.parse_state.bytes.now x.pieces) c.self.view_is) in
    IfOk-weaker c.run_through.result _ _
    (λ run k. k.found.probes ∙ string-probes v.parse_state v.pieces content c.starting_at-tokenizer.result k.left start k.held k.ends k.found.passed k.found.resolves)
    c.run_through.ensures
