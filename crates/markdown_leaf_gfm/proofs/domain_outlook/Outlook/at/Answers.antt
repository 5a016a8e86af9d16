-- Code by code.
use Rattle.std.proofs.Common.{◌≡◌, ℕ, ◌+◌, ◌<◌, Bool, length, sym, ap, subst, ◌∙◌, arith}
use Rattle.markdown_content.specs.Place.{Place, ahead_at, code_at, moved}
use Rattle.markdown_content.proofs.PlaceRules.{left_moved}
use Rattle.markdown_leaf_gfm.specs.DomainScans.{goes_on, behind_code}
use Rattle.markdown_leaf_gfm.proofs.DomainScanLemmas.{DomainSoFar, reading-start, reading-on, reading-long, reading-found, code-some, code-none}
use Rattle.markdown_leaf_gfm.proofs.domain_outlook.Outlook.at.Goals as goal

pub loop-code-init : goal.loop-code-init
loop-code-init c = reading-start c.args.bytes.now c.args.cursor.now c.save-place.result c.save-place.ensures c.requires

pub loop-code-smaller : goal.loop-code-smaller
loop-code-smaller c =
    let p : Place = c.loop-code.place in
    let here = code-some (goes_on c.args.bytes.now p) (code_at p) c.in-Some.code (sym c.domain_code.ensures ∙ c.in-Some.is) in
    let less : length (ahead_at (moved p)) + 1 ≡ length (ahead_at p) = left_moved p c.in-Some.code here.1 in
    subst (λ (q : Place). length (ahead_at q) < length (ahead_at p)) (sym c.consume.ensures) (omega (arith, less))

pub loop-code-preserved : goal.loop-code-preserved
loop-code-preserved c =
    let p : Place = c.loop-code.place in
    let q : Place = c.consume.new.self in
    let here = code-some (goes_on c.args.bytes.now p) (code_at p) c.in-Some.code (sym c.domain_code.ensures ∙ c.in-Some.is) in
    let next : Bool = c.is_domain_mark-behind_mark.result in
    subst (λ (r : ℕ × ℕ). DomainSoFar c.args.bytes.now c.args.cursor.now q r.0 r.1 next)
    (sym (c.behind_code-behind.ensures ∙ ap (λ n. behind_code c.in-Some.code n c.loop-code.barred c.loop-code.dots) c.passed-at.ensures))
    (reading-on c.args.bytes.now c.args.cursor.now p q c.in-Some.code c.loop-code.barred c.loop-code.dots c.loop-code.behind_mark next here.1 here.0 c.consume.ensures c.is_domain_mark-behind_mark.ensures c.loop-code.invariant)

pub returns-clause-end : goal.returns-clause-end
returns-clause-end c =
    c.passed-end.ensures
    ∙ reading-long c.args.bytes.now c.args.cursor.now c.loop-code.place c.loop-code.barred c.loop-code.dots c.loop-code.behind_mark (code-none c.args.bytes.now c.loop-code.place (sym c.domain_code.ensures ∙ c.in_default.is)) c.loop-code.invariant

pub returns-clause-barred : goal.returns-clause-barred
returns-clause-barred c =
    c.near-barred.ensures
    ∙ reading-found c.args.bytes.now c.args.cursor.now c.loop-code.place c.loop-code.barred c.loop-code.dots c.loop-code.behind_mark (code-none c.args.bytes.now c.loop-code.place (sym c.domain_code.ensures ∙ c.in_default.is)) c.loop-code.invariant
