-- The scheme that a browser reads in the value of an attribute (the HTML Standard, "character reference state"; the URL Standard, "basic URL parser").
use Rattle.std.specs.Prelude.{ℕ, zero, suc, Bool, true, not, ◌&&◌, ◌||◌, ◌==◌, nat_lt, if◌then◌else◌, List, [], ◌∷◌, take, drop, codes, Option, None, Some}
use Rattle.std.specs.Char.{is_ascii_alphabetic, is_ascii_alphanumeric}
use Rattle.std.specs.List.{filter, prefix_len}
use Rattle.std.specs.Str.{byte, bytes_eq}
use Rattle.markdown_html_model.specs.Resolved.{begins_with}
use Rattle.markdown_html_model.specs.Schemes.{begins_with_colon, is_listed}

-- Character references. A browser reads `&amp;` as `&`, and nothing else begins so: no other name of HTML begins with `amp;`.

-- `&amp;` stands here, of which the `&` has been read
abbrev pub goes_on_ampersand : ℕ → List ℕ → Bool
goes_on_ampersand b rest = b == byte "&" && bytes_eq (take 4 rest) (codes "amp;")

-- each `&` begins `&amp;`: there is no other reference, with `;` or without
abbrev pub has_ampersands_alone : List ℕ → Bool
has_ampersands_alone [] = true
has_ampersands_alone (b ∷ rest) = (not (b == byte "&") || goes_on_ampersand b rest) && has_ampersands_alone rest

-- from the left; `skipped` more bytes belong to what was read last
abbrev pub read_after : ℕ → List ℕ → List ℕ
read_after skipped [] = []
read_after (suc skipped) (b ∷ rest) = read_after skipped rest
read_after zero (b ∷ rest) = b ∷ read_after (if goes_on_ampersand b rest then 4 else 0) rest

-- the value with `&` in place of each `&amp;`
abbrev pub value_read : List ℕ → List ℕ
value_read value = read_after 0 value

-- URLs. The parser drops control characters and spaces at the front, and tabs and line endings everywhere. What it drops at the end can't be part of a scheme.

abbrev pub is_control_or_space : ℕ → Bool
is_control_or_space b = nat_lt b 33

abbrev pub is_tab_or_newline : ℕ → Bool
is_tab_or_newline b = b == 9 || b == 10 || b == 13

abbrev pub url_input : List ℕ → List ℕ
url_input url = filter (λ b. not (is_tab_or_newline b)) (drop (prefix_len is_control_or_space url) url)

-- behind the letter with which a scheme begins
abbrev pub is_scheme_byte : ℕ → Bool
is_scheme_byte b = is_ascii_alphanumeric b || b == byte "+" || b == byte "-" || b == byte "."

-- what stands before the colon that ends a scheme; none where the URL is relative
abbrev pub scheme_of_input : List ℕ → Option (List ℕ)
scheme_of_input input =
    let n = prefix_len is_scheme_byte input in
    if begins_with is_ascii_alphabetic input && begins_with_colon (drop n input) then Some (take n input) else None

abbrev pub url_scheme : List ℕ → Option (List ℕ)
url_scheme url = scheme_of_input (url_input url)

-- the scheme that a browser reads in the value of an attribute, in any case
abbrev pub scheme_in_browser : List ℕ → Option (List ℕ)
scheme_in_browser value = url_scheme (value_read value)

-- With its references read and as it stands the value is relative, or has one of these schemes; and it holds no reference but `&amp;`.
unfoldable pub is_safe_value : List (List ℕ) → List ℕ → Bool
is_safe_value schemes value = has_ampersands_alone value && is_listed schemes (url_scheme value) && is_listed schemes (scheme_in_browser value)
