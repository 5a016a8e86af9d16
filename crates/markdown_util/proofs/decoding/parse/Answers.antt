use Rattle.std.proofs.Common.{◌≡◌, ◌∙◌, sym, ap, subst, ◌++◌, [], ◌∷◌, lit<, string_bytes}
use Rattle.std.specs.Str.{IsUtf8}
use Rattle.std.proofs.lemmas.Str.{encode_ascii}
use Rattle.markdown_util.specs.Reference.{html_4_rows}
use Rattle.markdown_util.proofs.StripPrefix.{split_once-some, split_once-none, utf8-behind}
use Rattle.markdown_util.proofs.ParseLemmas.{turn-plain, turn-reference, turn-lone, turn-end}
use Rattle.markdown_util.proofs.WholeReference.{behind_utf8}
use Rattle.markdown_util.proofs.decoding.parse.Goals as goal

pub loop-before-preserved-in-Some-2 : goal.loop-before-preserved-in-Some-2
loop-before-preserved-in-Some-2 c =
    let rest = c.loop-before.rest.now in
    let after = c.in-Some.after.now in
    let first = split_once-some rest c.split_once.result c.in-Some.before c.in-Some.after c.split_once.ensures.cases c.in-Some.is in
    let read = rw c.in-Some-2.is at c.in_ok-text.ensures in
    let bytes : string_bytes c.push_str-in-Some-2.new.self ≡ (string_bytes c.loop-before.parsed ++ c.in-Some.before.now) ++ string_bytes c.in-Some-2.text =
    c.in_ok-push_str-in-Some-2.ensures.bytes ∙ ap (λ bs. string_bytes c.push_str.new.self ++ bs) c.as_str.ensures.value
    ∙ ap (λ bs. bs ++ string_bytes c.in-Some-2.text) c.in_ok-push_str.ensures.bytes in
    let plain = turn-plain html_4_rows (string_bytes c.loop-before.parsed) c.in-Some.before.now after rest _ c.loop-before.invariant.whole first.is first.plain in
    record {
      utf8 = subst IsUtf8 (sym read.1) (behind_utf8 html_4_rows after _ read.0 (utf8-behind 38 rest c.in-Some.before.now after (lit< tt) c.loop-before.invariant.utf8 first.is));
      whole = rw (bytes, read.1) (turn-reference html_4_rows _ after (string_bytes c.in-Some-2.text) _ plain read.0);
    }

pub loop-before-preserved : goal.loop-before-preserved
loop-before-preserved c =
    let rest = c.loop-before.rest.now in
    let after = c.in-Some.after.now in
    let first = split_once-some rest c.split_once.result c.in-Some.before c.in-Some.after c.split_once.ensures.cases c.in-Some.is in
    let read = rw c.in-None.is at c.in_ok-text.ensures in
    let bytes : string_bytes c.push.new.self ≡ (string_bytes c.loop-before.parsed ++ c.in-Some.before.now) ++ 38 ∷ [] =
    c.in_ok-push-in-None.ensures.bytes ∙ ap (λ bs. string_bytes c.push_str.new.self ++ bs) (encode_ascii 38 (lit< tt))
    ∙ ap (λ bs. bs ++ 38 ∷ []) c.in_ok-push_str.ensures.bytes in
    let plain = turn-plain html_4_rows (string_bytes c.loop-before.parsed) c.in-Some.before.now after rest _ c.loop-before.invariant.whole first.is first.plain in
    record {
      utf8 = utf8-behind 38 rest c.in-Some.before.now after (lit< tt) c.loop-before.invariant.utf8 first.is;
      whole = rw bytes (turn-lone html_4_rows _ after _ plain read);
    }

pub returns : goal.returns
returns c =
    let rest = c.loop-before.rest.now in
    c.in_ok-push_str-2.ensures.bytes
    ∙ turn-end html_4_rows (string_bytes c.loop-before.parsed) rest _ c.loop-before.invariant.whole
    (split_once-none rest c.split_once.result c.split_once.ensures.cases c.in_default.is)
