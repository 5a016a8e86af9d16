use Rattle.std.proofs.Common.{◌≡◌, ◌∙◌, sym, ap, ℕ, List, Option, Some, None, Bor, MatchOption, option_map, string_bytes, inl, lit<, rules}
use Rattle.std.specs.Option.{IsSomeAnd}
use Rattle.markdown_util.specs.Reference.{html_4_rows}
use Rattle.markdown_util.specs.ReferenceParts.{LacksFirst}
use Rattle.markdown_util.proofs.ReferenceTables.{html_4_sound}
use Rattle.markdown_util.proofs.WholeReference.{read_value, read_none, number_from_value, body_utf8, value_boundary, marked}
use Rattle.markdown_util.proofs.StripPrefix.{strip_prefix-none, strip_prefix-some}
use Rattle.markdown_util.proofs.decoding.decode_after.Goals as goal

pub split_at-requires : goal.split_at-requires
split_at-requires c =
    let body = c.marker_of-marker.result.1.now in
    let marker = c.marker_of-marker.result.0 in
    value_boundary body marker c.value_len.result c.value_len.ensures (body_utf8 c.args.after.now body marker c.marker_of-marker.ensures c.utf8.after)

pub returns-in_default : goal.returns-in_default
returns-in_default c =
    let rest = c.split_at.result.1.now in
    let off : LacksFirst 59 rest = strip_prefix-none 59 rest c.strip_prefix.result (lit< tt) c.strip_prefix.ensures.cases c.in_default.is in
    read_none html_4_rows html_4_sound c.args.after.now c.marker_of-marker.result.1.now c.marker_of-marker.result.0 c.value_len.result c.marker_of-marker.ensures c.value_len.ensures
    (inl (λ more e. off more (c.split_at.ensures.back ∙ e)))

pub decode-requires-clause-number : goal.decode-requires-clause-number
decode-requires-clause-number c =
    let after = c.args.after.now in
    let marker = c.marker_of-marker.result.0 in
    let body = c.marker_of-marker.result.1.now in
    let value = c.split_at.result.0.now in
    let rest = c.split_at.result.1.now in
    let next = strip_prefix-some 59 rest c.strip_prefix.result c.in-Some.behind (lit< tt) c.strip_prefix.ensures.cases c.in-Some.is in
    let whole = read_value html_4_rows html_4_sound after body value c.in-Some.behind.now marker c.value_len.result c.marker_of-marker.ensures c.value_len.ensures c.split_at.ensures.front (sym c.split_at.ensures.back ∙ next) (sym c.is_empty.ensures ∙ c.if-is_empty.false) in
    number_from_value marker value (marked after body marker c.marker_of-marker.ensures) whole.valued

joined : {S : Type 0} (t : Option S) (bytes : S → List ℕ) (r : Option (S × Bor (List ℕ))) (text : Option (List ℕ)) (rest behind : List ℕ) → text ≡ option_map bytes t → rest ≡ behind
    → MatchOption t (r ≡ None) (λ x. IsSomeAnd r (λ p. (p.0 ≡ x) × (p.1.now ≡ rest))) → MatchOption r (text ≡ None) (λ p. (text ≡ Some (bytes p.0)) × (p.1.now ≡ behind))
joined None bytes None text rest behind e same h = e
joined None bytes (Some p) text rest behind e same h = cc
joined (Some x) bytes None text rest behind e same h = absurd h
joined (Some x) bytes (Some p) text rest behind e same h = (e ∙ ap (λ y. Some (bytes y)) (sym h.0), h.1 ∙ same)

pub returns : goal.returns
returns c =
    let after = c.args.after.now in
    let marker = c.marker_of-marker.result.0 in
    let body = c.marker_of-marker.result.1.now in
    let value = c.split_at.result.0.now in
    let rest = c.split_at.result.1.now in
    let next = strip_prefix-some 59 rest c.strip_prefix.result c.in-Some.behind (lit< tt) c.strip_prefix.ensures.cases c.in-Some.is in
    let whole = read_value html_4_rows html_4_sound after body value c.in-Some.behind.now marker c.value_len.result c.marker_of-marker.ensures c.value_len.ensures c.split_at.ensures.front (sym c.split_at.ensures.back ∙ next) (sym c.is_empty.ensures ∙ c.if-is_empty.false) in
    let text = whole.text ∙ sym c.in_ok-text.ensures in
    let behind = sym whole.behind in
    let mapped : MatchOption c.in_ok-text.text (c.map.result ≡ None) (λ x. IsSomeAnd c.map.result (λ r. (r.0 ≡ x) × (r.1.now ≡ c.in-Some.behind.now))) = search (rules, c.map.ensures.cases) in
    joined c.in_ok-text.text string_bytes c.map.result _ c.in-Some.behind.now _ text behind mapped
