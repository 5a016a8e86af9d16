use Rattle.std.proofs.Common.{◌≡◌, ◌∙◌, ◌≤◌, ◌<◌, ◌++◌, ◌+◌, ap, arith, List, ℕ, nat_lt, true, false, drop, get_or}
use Rattle.std.specs.Prelude.{slice_range}
use Rattle.std.proofs.lemmas.Bool.Decides.{nat_tests}
use Rattle.std.proofs.lemmas.Result.{on_ok_weaker}
use Rattle.markdown_content.specs.Codes.{line_ending_len}
use Rattle.markdown_block_line.proofs.RestValues.{by_bool}
use Rattle.markdown_block_definitions.specs.TextCopies.{spot_place}
use Rattle.markdown_html_model.specs.Html.{Page}
use Rattle.markdown_page_model.specs.PageTexts.{own_ending, block_ending}
use Rattle.markdown_page.specs.CodeLines.{IsPastColumns}
use Rattle.markdown_page.specs.GivenPage.{page_of, bytes_of}
use Rattle.markdown_page.proofs.LineTexts.{byte-in, IsTextEnd, line-written, line-in, ending-own, ending-here}
use Rattle.markdown_page.proofs.lines.push_line.Goals as goal

pub text_end-to-requires-clause-from : goal.text_end-to-requires-clause-from
text_end-to-requires-clause-from c = byte-in _ _ c.in_ok-from.ensures.byte

pub returns : goal.returns
returns c =
    let whole : Page = page_of c.args.given.now in
    let bytes : List ℕ = c.parse_state.result.now.bytes.now in
    let same : bytes ≡ bytes_of c.args.given.now = let e = c.parse_state.ensures in cc in
    let p : Page = record whole { bytes = bytes } in
    let at : ℕ × ℕ = spot_place c.first_spot.result in
    let past : IsPastColumns bytes c.args.line c.args.raw at c.args.out.now.items c.push_columns.new.out.items c.in_ok-from.from = c.in_ok-from.ensures in
    let t = c.text_end-to.ensures in
    let b = c.bytes_before-stop.ensures in
    let h : IsTextEnd bytes c.args.line c.in_ok-from.from c.text_end-to.result c.bytes_before-stop.result =
    record { low = t.low; high = t.high; within = b.within; reached = t.before; before = b.before; behind = b.behind; plain = t.plain; ends = t.ending } in
    by_bool (nat_lt c.text_end-to.result c.bytes_before-stop.result)
    (λ (l : nat_lt c.text_end-to.result c.bytes_before-stop.result ≡ true).
    let lt : c.text_end-to.result < c.bytes_before-stop.result = grind (arith, nat_tests, l) in
    on_ok_weaker c.push_line_end.result
    (λ (e : c.push_line_end.new.out.items ≡ c.push_as.new.out.items ++ block_ending p (slice_range bytes c.text_end-to.result (c.text_end-to.result + line_ending_len (get_or bytes c.text_end-to.result 0) (drop (c.text_end-to.result + 1) bytes)))).
    line-written p c.args.line c.args.raw at c.in_ok-from.from c.text_end-to.result c.bytes_before-stop.result c.args.out.now.items c.push_columns.new.out.items c.push_as.new.out.items c.push_line_end.new.out.items _
    c.first_spot.ensures.left past h c.in_ok-push_as.ensures e (ending-here p c.args.line c.in_ok-from.from c.text_end-to.result c.bytes_before-stop.result past.byte past.started h lt)
    ∙ ap (λ (xs : List ℕ). c.args.out.now.items ++ xs) (line-in whole bytes c.args.line c.args.raw same))
    (c.push_line_end.ensures.ending lt))
    (λ (l : nat_lt c.text_end-to.result c.bytes_before-stop.result ≡ false).
    let le : c.bytes_before-stop.result ≤ c.text_end-to.result = grind (arith, nat_tests, l) in
    on_ok_weaker c.push_line_end.result
    (λ (e : c.push_line_end.new.out.items ≡ c.push_as.new.out.items ++ own_ending p).
    line-written p c.args.line c.args.raw at c.in_ok-from.from c.text_end-to.result c.bytes_before-stop.result c.args.out.now.items c.push_columns.new.out.items c.push_as.new.out.items c.push_line_end.new.out.items _
    c.first_spot.ensures.left past h c.in_ok-push_as.ensures e (ending-own p c.args.line c.in_ok-from.from c.text_end-to.result c.bytes_before-stop.result past.byte past.started h le)
    ∙ ap (λ (xs : List ℕ). c.args.out.now.items ++ xs) (line-in whole bytes c.args.line c.args.raw same))
    (c.push_line_end.ensures.own le))
