use Rattle.std.proofs.Common.{◌≡◌, ap, sym, ◌∙◌, arith}
use Rattle.markdown_engine.specs.Operations.{current_of, done}
use Rattle.markdown_engine.specs.StateRuns.{Stepped}
use Rattle.markdown_engine.specs.declared.tokenizer.Tokenizer.{Tokenizer}
use Rattle.markdown_label.specs.LabelEnd.{end_ops, ended, made_here}
use Rattle.markdown_run_text.specs.PlacesPassed.{is_some_value}
use Rattle.markdown_run_text.specs.PlainReference.{reference_read}
use Rattle.markdown_run_text.specs.PlainResource.{resource_read}
use Rattle.markdown_run_text.proofs.PlainReferenceReads.{bracket-here, markers-there, plain-there, reference-ends, reference-state, reference-there}
use Rattle.markdown_run_text.proofs.PlainResourceReads.{ended-is, ordered-there, plain-ends, resource-follows, resource-state}
use Rattle.markdown_run_text.proofs.readers.label_end.read_here.Goals as goal
use Rattle.markdown_run_text.proofs.readers.label_end.read_here.Goals.{then-is_same+in_ok-read_resource, else-is_same+in_ok-read_reference}

pub read_marker_in-requires : goal.read_marker_in-requires
read_marker_in-requires c = bracket-here c.args.tokenizer.now c.requires.here

pub read_resource-requires : goal.read_resource-requires
read_resource-requires c = grind (arith, ended-is, resource-follows, plain-there, c.len-tokenizer.ensures, c.in_ok-read_marker_in.ensures.ok, c.requires.here, c.current.ensures, c.is_same.ensures, c.if-is_same.true)

pub read_reference-requires : goal.read_reference-requires
read_reference-requires c = grind (arith, ended-is, markers-there, reference-there, c.len-tokenizer.ensures, c.in_ok-read_marker_in.ensures.ok, c.requires.here, c.current.ensures, c.is_same.ensures, c.if-is_same.false)

pub ok-requires : goal.ok-requires
ok-requires c =
    let T : Tokenizer = c.args.tokenizer.now in
    let E : Tokenizer = c.read_marker_in.new.tokenizer in
    ordered-there T E c.if-is_same.tokenizer c.requires.ready.within.1 (ended-is T E c.len-tokenizer.result c.len-tokenizer.ensures c.in_ok-read_marker_in.ensures.ok)
    (elim c.if-is_same.branch [
      | then-is_same+in_ok-read_resource w ↦ ap (λ (x : Tokenizer). x.tokenize_state) (w.tokenizer-is ∙ w.in_ok-read_resource.ensures.ok) ∙ resource-state E
      | else-is_same+in_ok-read_reference w ↦ ap (λ (x : Tokenizer). x.tokenize_state) (w.tokenizer-is ∙ w.in_ok-read_reference.ensures.ok) ∙ reference-state E
    ])

pub returns-clause-ok : goal.returns-clause-ok
returns-clause-ok c =
    let T : Tokenizer = c.args.tokenizer.now in
    let E : Tokenizer = c.read_marker_in.new.tokenizer in
    let read : E ≡ done end_ops (ended T) = ended-is T E c.len-tokenizer.result c.len-tokenizer.ensures c.in_ok-read_marker_in.ensures.ok in
    let same : is_some_value 40 (current_of E) ≡ c.is_same.result = ap (is_some_value 40) (sym c.current.ensures) ∙ sym c.is_same.ensures in
    let left : c.ok.new.tokenizer ≡ made_here c.if-is_same.tokenizer = sym (ap (λ (x : Stepped). x.left) c.in_ok-_made.ensures.ok) in
    elim c.if-is_same.branch [
      | then-is_same+in_ok-read_resource w ↦
          plain-ends T c.ok.new.tokenizer (plain-there T E c.requires.here read (same ∙ w.if-is_same.true)) (left ∙ ap made_here (w.tokenizer-is ∙ w.in_ok-read_resource.ensures.ok ∙ ap resource_read read))
      | else-is_same+in_ok-read_reference w ↦
          reference-ends T c.ok.new.tokenizer (reference-there T E c.requires.here read (same ∙ w.if-is_same.false)) (left ∙ ap made_here (w.tokenizer-is ∙ w.in_ok-read_reference.ensures.ok ∙ ap reference_read read))
    ]
