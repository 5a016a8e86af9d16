use Rattle.std.proofs.Common.{ℕ, ◌≡◌, ◌∙◌, Option, Some, sym, ap, subst}
use Rattle.std.proofs.lemmas.Result.{IfOk-weaker}
use Rattle.markdown_engine.specs.RestingFields.{at_rest}
use Rattle.markdown_engine.specs.declared.tokenizer.Tokenizer.{Tokenizer}
use Rattle.markdown_content.specs.Content.{content_of}
use Rattle.markdown_content.specs.Place.{start_of_content}
use Rattle.markdown_content.specs.declared.parser.ParseState.{ParseState}
use Rattle.markdown_notes.specs.declared.name_index.Names.{Names}
use Rattle.markdown_attention.specs.AttentionPass.{IsProbed}
use Rattle.markdown_model.specs.InlineTree.{label_tree}
use Rattle.markdown_model.specs.Setting.{Setting}
use Rattle.markdown_run_text.specs.RunSetting.{text_setting_of}
use Rattle.markdown_document.specs.ContentOfDocument.{ContentOf}
use Rattle.markdown_run.proofs.WholeRun.{StartsContent, content-starts}
use Rattle.markdown_run.proofs.TextRun.{text_start, document_names, document-lent, names-of-document, started-lent, text-ready, text-unknown, text-may, text-probes, text-no-probes, text-run}
use Rattle.markdown_innermost.proofs.LeavesAreStretches.{text-in-order, text-covers}
use Rattle.markdown_document.proofs.document.Content.text_list.Goals as goal

pub text_through-requires-clause-ready : goal.text_through-requires-clause-ready
text_through-requires-clause-ready c =
    let v : ContentOf = c.args.self.now in
    let lent : Option Names = Some c.lent-names.result in
    let begun : StartsContent v.parse_state v.pieces at_rest c.starting_at-tokenizer.result = content-starts _ _ v.parse_state v.pieces _ c.starting_at-tokenizer.result c.starting_at-tokenizer.ensures (c.document.view_is ∙ ap (λ (x : ContentOf). x.parse_state) c.self.view_is) (c.save.ensures ∙ c.self.invariant.1 ∙ ap (λ (x : ContentOf). start_of_content x.parse_state.bytes.now x.pieces) c.self.view_is) in
    let start : text_start v.parse_state v.pieces lent c.args.first_of_item c.tell.new.tokenizer = subst (λ (T : Tokenizer). text_start v.parse_state v.pieces lent c.args.first_of_item T) (sym c.tell.ensures) (started-lent v.parse_state v.pieces lent c.args.first_of_item c.starting_at-tokenizer.result begun) in
    let read : document_names c.document.inside.parse_state ≡ document_names v.parse_state = ap (λ (p : ParseState). document_names p) (c.document.view_is ∙ ap (λ (x : ContentOf). x.parse_state) c.self.view_is) in
    let names : c.lent-names.result ≡ document_names v.parse_state = c.lent-names.ensures ∙ names-of-document c.document.inside.parse_state c.document.inside.definitions c.document.inside.footnotes c.document.invariant.1.1.0 c.document.invariant.1.1.1 ∙ read in
    text-ready v.parse_state v.pieces lent c.args.first_of_item c.tell.new.tokenizer c.requires (document-lent v.parse_state c.lent-names.result names) start

pub text_through-requires-clause-unknown : goal.text_through-requires-clause-unknown
text_through-requires-clause-unknown c =
    let v : ContentOf = c.args.self.now in
    let lent : Option Names = Some c.lent-names.result in
    let begun : StartsContent v.parse_state v.pieces at_rest c.starting_at-tokenizer.result = content-starts _ _ v.parse_state v.pieces _ c.starting_at-tokenizer.result c.starting_at-tokenizer.ensures (c.document.view_is ∙ ap (λ (x : ContentOf). x.parse_state) c.self.view_is) (c.save.ensures ∙ c.self.invariant.1 ∙ ap (λ (x : ContentOf). start_of_content x.parse_state.bytes.now x.pieces) c.self.view_is) in
    let start : text_start v.parse_state v.pieces lent c.args.first_of_item c.tell.new.tokenizer = subst (λ (T : Tokenizer). text_start v.parse_state v.pieces lent c.args.first_of_item T) (sym c.tell.ensures) (started-lent v.parse_state v.pieces lent c.args.first_of_item c.starting_at-tokenizer.result begun) in
    text-unknown v.parse_state v.pieces lent c.args.first_of_item c.tell.new.tokenizer start

pub text_through-requires-clause-passes : goal.text_through-requires-clause-passes
text_through-requires-clause-passes c = λ left ends.
    let v : ContentOf = c.args.self.now in
    let lent : Option Names = Some c.lent-names.result in
    let begun : StartsContent v.parse_state v.pieces at_rest c.starting_at-tokenizer.result = content-starts _ _ v.parse_state v.pieces _ c.starting_at-tokenizer.result c.starting_at-tokenizer.ensures (c.document.view_is ∙ ap (λ (x : ContentOf). x.parse_state) c.self.view_is) (c.save.ensures ∙ c.self.invariant.1 ∙ ap (λ (x : ContentOf). start_of_content x.parse_state.bytes.now x.pieces) c.self.view_is) in
    let start : text_start v.parse_state v.pieces lent c.args.first_of_item c.tell.new.tokenizer = subst (λ (T : Tokenizer). text_start v.parse_state v.pieces lent c.args.first_of_item T) (sym c.tell.ensures) (started-lent v.parse_state v.pieces lent c.args.first_of_item c.starting_at-tokenizer.result begun) in
    text-may v.parse_state v.pieces lent c.args.first_of_item c.requires.is_content c.tell.new.tokenizer left start ends

pub returns-clause-events : goal.returns-clause-events
returns-clause-events c =
    let v : ContentOf = c.args.self.now in
    let lent : Option Names = Some c.lent-names.result in
    let begun : StartsContent v.parse_state v.pieces at_rest c.starting_at-tokenizer.result = content-starts _ _ v.parse_state v.pieces _ c.starting_at-tokenizer.result c.starting_at-tokenizer.ensures (c.document.view_is ∙ ap (λ (x : ContentOf). x.parse_state) c.self.view_is) (c.save.ensures ∙ c.self.invariant.1 ∙ ap (λ (x : ContentOf). start_of_content x.parse_state.bytes.now x.pieces) c.self.view_is) in
    let start : text_start v.parse_state v.pieces lent c.args.first_of_item c.tell.new.tokenizer = subst (λ (T : Tokenizer). text_start v.parse_state v.pieces lent c.args.first_of_item T) (sym c.tell.ensures) (started-lent v.parse_state v.pieces lent c.args.first_of_item c.starting_at-tokenizer.result begun) in
    IfOk-weaker c.text_through.result _ _
    (λ run k. k.found.events ∙ text-run v.parse_state v.pieces lent c.args.first_of_item c.requires.is_content c.tell.new.tokenizer k.left start k.ends k.found.passed k.found.resolves)
    c.text_through.ensures

pub returns-clause-places : goal.returns-clause-places
returns-clause-places c =
    IfOk-weaker c.text_through.result _ _ (λ run e. text-in-order (text_setting_of c.args.self.now.parse_state c.args.first_of_item) c.args.self.now.pieces _ c.requires.is_content e) (returns-clause-events c)

pub returns-clause-leaves : goal.returns-clause-leaves
returns-clause-leaves c =
    IfOk-weaker c.text_through.result _ _ (λ run e. text-covers (text_setting_of c.args.self.now.parse_state c.args.first_of_item) c.args.self.now.pieces _ c.requires.is_content e) (returns-clause-events c)

pub returns-clause-probes : goal.returns-clause-probes
returns-clause-probes c =
    let v : ContentOf = c.args.self.now in
    let lent : Option Names = Some c.lent-names.result in
    let begun : StartsContent v.parse_state v.pieces at_rest c.starting_at-tokenizer.result = content-starts _ _ v.parse_state v.pieces _ c.starting_at-tokenizer.result c.starting_at-tokenizer.ensures (c.document.view_is ∙ ap (λ (x : ContentOf). x.parse_state) c.self.view_is) (c.save.ensures ∙ c.self.invariant.1 ∙ ap (λ (x : ContentOf). start_of_content x.parse_state.bytes.now x.pieces) c.self.view_is) in
    let start : text_start v.parse_state v.pieces lent c.args.first_of_item c.tell.new.tokenizer = subst (λ (T : Tokenizer). text_start v.parse_state v.pieces lent c.args.first_of_item T) (sym c.tell.ensures) (started-lent v.parse_state v.pieces lent c.args.first_of_item c.starting_at-tokenizer.result begun) in
    let s : Setting = text_setting_of v.parse_state c.args.first_of_item in
    IfOk-weaker c.text_through.result _ _
    (λ run k.
    subst (λ (n : ℕ). IsProbed s (label_tree s (content_of s.bytes v.pieces)) n) (sym k.found.probes)
    (text-probes v.parse_state v.pieces lent c.args.first_of_item c.requires.is_content c.tell.new.tokenizer k.left start k.ends k.found.passed k.found.resolves))
    c.text_through.ensures

pub returns-clause-no_probes : goal.returns-clause-no_probes
returns-clause-no_probes c = λ off none.
    let v : ContentOf = c.args.self.now in
    let lent : Option Names = Some c.lent-names.result in
    let begun : StartsContent v.parse_state v.pieces at_rest c.starting_at-tokenizer.result = content-starts _ _ v.parse_state v.pieces _ c.starting_at-tokenizer.result c.starting_at-tokenizer.ensures (c.document.view_is ∙ ap (λ (x : ContentOf). x.parse_state) c.self.view_is) (c.save.ensures ∙ c.self.invariant.1 ∙ ap (λ (x : ContentOf). start_of_content x.parse_state.bytes.now x.pieces) c.self.view_is) in
    let start : text_start v.parse_state v.pieces lent c.args.first_of_item c.tell.new.tokenizer = subst (λ (T : Tokenizer). text_start v.parse_state v.pieces lent c.args.first_of_item T) (sym c.tell.ensures) (started-lent v.parse_state v.pieces lent c.args.first_of_item c.starting_at-tokenizer.result begun) in
    IfOk-weaker c.text_through.result _ _
    (λ run k.
    k.found.probes ∙ text-no-probes v.parse_state v.pieces lent c.args.first_of_item c.requires.is_content c.tell.new.tokenizer k.left start k.ends k.found.passed k.found.resolves off none)
    c.text_through.ensures
