use Rattle.std.proofs.Common.{◌∙◌, sym}
use Rattle.markdown_content.specs.DocumentWalk.{IsPoint}
use Rattle.markdown_passes.proofs.TrimWalks.{IsBegun, IsEnded, begun-where, ended-where}
use Rattle.markdown_passes.proofs.EmailAtSign.{under-first, end-place, under-literal, under-passed, under-end}
use Rattle.markdown_passes.proofs.literal.mailed_data.Goals as goal

pub loop-scan-init : goal.loop-scan-init
loop-scan-init c =
    under-first c.args.bytes.now c.args.from c.args.to c.scan_from-scan.result c.new-events.result.items c.requires.stretch (c.scan_from-scan.ensures c.args.bytes.now c.requires.stretch.from_place) c.new-events.ensures.items

pub loop-scan-smaller-in-Some : goal.loop-scan-smaller-in-Some
loop-scan-smaller-in-Some c =
    let b : IsBegun c.args.bytes.now c.loop-scan.scan.point c.args.to = begun-where c.args.bytes.now c.loop-scan.scan.point c.args.to c.loop-scan.invariant.1 (sym c.is_same_place.ensures ∙ c.loop-scan-test.true) in
    let end : IsPoint c.args.bytes.now c.in-Some.literal.end = end-place c.args.bytes.now c.args.to c.loop-scan.scan c.loop-scan.events.items _ c.loop-scan.invariant b c.in-Some.literal (sym c.literal_here.ensures ∙ c.in-Some.is) in
    (under-literal c.args.bytes.now c.args.to c.loop-scan.scan c.loop-scan.events.items _ c.loop-scan.invariant b c.in-Some.literal c.scan_from-scan-in-Some.result c.push_literal.new.events.items (sym c.literal_here.ensures ∙ c.in-Some.is) c.in_ok-push_literal.ensures (c.scan_from-scan-in-Some.ensures c.args.bytes.now end)).1

pub loop-scan-preserved-in-Some : goal.loop-scan-preserved-in-Some
loop-scan-preserved-in-Some c =
    let b : IsBegun c.args.bytes.now c.loop-scan.scan.point c.args.to = begun-where c.args.bytes.now c.loop-scan.scan.point c.args.to c.loop-scan.invariant.1 (sym c.is_same_place.ensures ∙ c.loop-scan-test.true) in
    let end : IsPoint c.args.bytes.now c.in-Some.literal.end = end-place c.args.bytes.now c.args.to c.loop-scan.scan c.loop-scan.events.items _ c.loop-scan.invariant b c.in-Some.literal (sym c.literal_here.ensures ∙ c.in-Some.is) in
    (under-literal c.args.bytes.now c.args.to c.loop-scan.scan c.loop-scan.events.items _ c.loop-scan.invariant b c.in-Some.literal c.scan_from-scan-in-Some.result c.push_literal.new.events.items (sym c.literal_here.ensures ∙ c.in-Some.is) c.in_ok-push_literal.ensures (c.scan_from-scan-in-Some.ensures c.args.bytes.now end)).0

pub passed-scan-requires-clause-begins : goal.passed-scan-requires-clause-begins
passed-scan-requires-clause-begins c =
    (begun-where c.args.bytes.now c.loop-scan.scan.point c.args.to c.loop-scan.invariant.1 (sym c.is_same_place.ensures ∙ c.loop-scan-test.true)).in_bytes

pub loop-scan-smaller : goal.loop-scan-smaller
loop-scan-smaller c =
    let b : IsBegun c.args.bytes.now c.loop-scan.scan.point c.args.to = begun-where c.args.bytes.now c.loop-scan.scan.point c.args.to c.loop-scan.invariant.1 (sym c.is_same_place.ensures ∙ c.loop-scan-test.true) in
    (under-passed c.args.bytes.now c.args.to c.loop-scan.scan c.loop-scan.events.items _ c.loop-scan.invariant b c.passed-scan.result (sym c.literal_here.ensures ∙ c.in_default.is) c.passed-scan.ensures).1

pub loop-scan-preserved : goal.loop-scan-preserved
loop-scan-preserved c =
    let b : IsBegun c.args.bytes.now c.loop-scan.scan.point c.args.to = begun-where c.args.bytes.now c.loop-scan.scan.point c.args.to c.loop-scan.invariant.1 (sym c.is_same_place.ensures ∙ c.loop-scan-test.true) in
    (under-passed c.args.bytes.now c.args.to c.loop-scan.scan c.loop-scan.events.items _ c.loop-scan.invariant b c.passed-scan.result (sym c.literal_here.ensures ∙ c.in_default.is) c.passed-scan.ensures).0

pub returns : goal.returns
returns c =
    let d : IsEnded c.args.bytes.now c.loop-scan.scan.point c.args.to = ended-where c.args.bytes.now c.loop-scan.scan.point c.args.to c.loop-scan.invariant.1 (sym c.is_same_place.ensures ∙ c.loop-scan-test.false) in
    under-end c.args.bytes.now c.args.to c.loop-scan.scan c.loop-scan.events.items _ c.push_leaf.new.events.items c.loop-scan.invariant d c.in_ok-push_leaf.ensures
