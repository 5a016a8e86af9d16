-- The fold of a text of ASCII: each letter by itself.
use Rattle.std.proofs.Common.{◌≡◌, ◌∙◌, sym, ap, ℕ, List, map, IsAscii}
use Rattle.std.specs.Char.{to_ascii_lowercase}
use Rattle.std.specs.Str.{encode_utf8_all}
use Rattle.std.proofs.lemmas.Str.{chars_from_encodes, chars-IsAscii, encodes-IsAscii, IsUtf8-from_ascii}
use Rattle.std.proofs.lemmas.Str.Ascii.{IsAscii-map, All-from_ascii, lowercase_ascii}
use Rattle.caseless.specs.Caseless.{default_case_fold}
use Rattle.caseless.proofs.CaselessLemmas.{default_case_fold-ascii}

-- characters whose bytes are ASCII are folded by these bytes alone
pub folded-ascii : (cs bs : List ℕ) → bs ≡ encode_utf8_all cs → IsAscii bs →
    encode_utf8_all (default_case_fold cs) ≡ map to_ascii_lowercase bs
folded-ascii cs bs e ascii =
    let same : cs ≡ bs = chars_from_encodes cs bs (IsUtf8-from_ascii bs ascii) (sym e) ∙ chars-IsAscii bs ascii in
    ap (λ text. encode_utf8_all (default_case_fold text)) same ∙ ap encode_utf8_all (default_case_fold-ascii bs (All-from_ascii bs ascii))
    ∙ encodes-IsAscii (map to_ascii_lowercase bs) (IsAscii-map to_ascii_lowercase bs lowercase_ascii ascii)
