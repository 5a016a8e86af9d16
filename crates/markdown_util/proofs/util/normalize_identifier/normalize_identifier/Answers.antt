use Rattle.std.proofs.Common.{◌≡◌, ◌∙◌, sym, ap, subst, List, ℕ, IfOk, string_bytes, arith}
use Rattle.std.specs.Str.{chars, encode_utf8_all}
use Rattle.std.proofs.lemmas.Str.{chars_from_encodes}
use Rattle.caseless.specs.Caseless.{default_case_fold}
use Rattle.markdown_util.specs.Identifier.{joined_words, identifier_of}
use Rattle.markdown_util.proofs.AsciiFold.{folded-ascii}
use Rattle.markdown_util.proofs.util.normalize_identifier.normalize_identifier.Goals as goal

pub returns-then-is_ascii : goal.returns-then-is_ascii
unfolding identifier_of
returns-then-is_ascii c = grind (arith, string_bytes, folded-ascii)

pub returns : goal.returns
unfolding identifier_of
returns c =
    let joined = joined_words (chars c.args.value.now) in
    let same : joined ≡ chars c.as_str-2.result.now =
    chars_from_encodes joined c.as_str-2.result.now c.as_str-2.utf8 (sym (c.as_str-2.ensures.value ∙ c.in_ok-joined.ensures)) in
    subst (λ (out : List ℕ). IfOk c.default_case_fold_str.result (λ t. string_bytes t ≡ out))
    (ap (λ cs. encode_utf8_all (default_case_fold cs)) (sym same)) c.default_case_fold_str.ensures
