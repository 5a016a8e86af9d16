use Rattle.std.proofs.Common.{◌∙◌, sym, ap}
use Rattle.std.specs.Option.{option_map}
use Rattle.markdown_passes.proofs.TrimWalks.{IsBegun, begun-where, stretch-next}
use Rattle.markdown_passes.specs.EmailScan.{literal_to}
use Rattle.markdown_passes.proofs.EmailAtSign.{no-literal, literal-by}
use Rattle.markdown_passes.proofs.literal.literal_here.Goals as goal

pub code_from-requires-clause-begins : goal.code_from-requires-clause-begins
code_from-requires-clause-begins c =
    (begun-where c.args.bytes.now c.args.scan.now.point c.args.to c.requires.stretch c.requires.begins).in_bytes

pub returns-then-not-is_sign : goal.returns-then-not-is_sign
returns-then-not-is_sign c =
    let b : IsBegun c.args.bytes.now c.args.scan.now.point c.args.to = begun-where c.args.bytes.now c.args.scan.now.point c.args.to c.requires.stretch c.requires.begins in
    no-literal c.args.bytes.now c.args.scan.now.point c.args.to c.args.scan.now c.code_from.result c.is_sign.result b c.code_from.ensures c.is_sign.ensures c.if-not-is_sign.true

pub past_code-requires-clause-begins : goal.past_code-requires-clause-begins
past_code-requires-clause-begins c =
    (begun-where c.args.bytes.now c.args.scan.now.point c.args.to c.requires.stretch c.requires.begins).in_bytes

pub domain_end-requires-clause-stretch : goal.domain_end-requires-clause-stretch
domain_end-requires-clause-stretch c =
    stretch-next c.args.bytes.now c.args.scan.now.point c.args.to c.past_code.result (begun-where c.args.bytes.now c.args.scan.now.point c.args.to c.requires.stretch c.requires.begins) c.past_code.ensures.next

pub returns-in_err-end : goal.returns-in_err-end
returns-in_err-end c =
    let b : IsBegun c.args.bytes.now c.args.scan.now.point c.args.to = begun-where c.args.bytes.now c.args.scan.now.point c.args.to c.requires.stretch c.requires.begins in
    c.from_residual.ensures
    ∙ ap (option_map (literal_to c.args.scan.now)) (sym c.in_err-end.was)
    ∙ literal-by c.args.bytes.now c.args.scan.now.point c.args.to c.args.scan.now c.code_from.result c.is_sign.result b c.code_from.ensures c.is_sign.ensures c.past_code.result c.is_xmpp.result c.domain_end.result c.if-not-is_sign.false c.past_code.ensures.next c.is_xmpp.ensures c.domain_end.ensures

pub returns : goal.returns
returns c =
    let b : IsBegun c.args.bytes.now c.args.scan.now.point c.args.to = begun-where c.args.bytes.now c.args.scan.now.point c.args.to c.requires.stretch c.requires.begins in
    ap (option_map (literal_to c.args.scan.now)) (sym c.in_ok-end.was)
    ∙ literal-by c.args.bytes.now c.args.scan.now.point c.args.to c.args.scan.now c.code_from.result c.is_sign.result b c.code_from.ensures c.is_sign.ensures c.past_code.result c.is_xmpp.result c.domain_end.result c.if-not-is_sign.false c.past_code.ensures.next c.is_xmpp.ensures c.domain_end.ensures
