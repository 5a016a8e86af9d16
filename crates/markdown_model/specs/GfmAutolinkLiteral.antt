-- Autolink literals (GFM 6.9): addresses that stand bare in text, with a protocol or from `www.` on.
use Rattle.std.specs.Prelude.{ℕ, zero, suc, ◌+◌, ◌-◌, Bool, true, false, ◌&&◌, ◌||◌, not, nat_lt, ◌==◌, if◌then◌else◌, List, [], ◌∷◌, ◌++◌, length, filter, reverse, Option, Some, None, codes}
use Rattle.std.specs.Str.{byte}
use Rattle.std.specs.List.{list_any}
use Rattle.markdown_content.specs.Codes.{Code}
use Rattle.markdown_content.specs.Tree.{Forest, leaf}
use Rattle.markdown_event.specs.declared.event.Name.{Name}
use Rattle.markdown_util.specs.Neighbours.{class_of, after_index}
use Rattle.markdown_util.specs.declared.util.char.Kind.{Kind}
use Rattle.markdown_model.specs.CodeTests.{is_value, is_among, is_empty, next_is, is_whitespace_code, is_between, is_letter, is_later_byte, is_some_code}
use Rattle.markdown_model.specs.Grammar.{Reading, ◌>>=◌, ◌>>◌, gives, either, provided, one, some, ◌then_◌}

-- The schemes that a literal may begin with, in lower case.
abbrev pub schemes : List (List ℕ)
schemes = codes "https://" ∷ codes "http://" ∷ []

-- what a literal without a scheme begins with, in lower case
abbrev pub www : List ℕ
www = codes "www."

-- all words that literals begin with, but for email literals
abbrev pub literal_words : List (List ℕ)
literal_words = schemes ++ www ∷ []

-- a word whose letters stand in either case; it is given in lower case
unfoldable pub letters : List ℕ → Reading (List Code)
letters [] = gives []
letters (n ∷ ns) = do
  a ← one (λ c. c.value == n || (is_letter c && c.value + 32 == n))
  b ← letters ns
  gives (a ++ b)

-- the first of these words that stands here, its letters in either case
unfoldable pub one_word_of : List (List ℕ) → Reading (List Code)
one_word_of [] cs = None
one_word_of (word ∷ words) cs = either (letters word) (one_word_of words) cs

-- a letter that is given in lower case, in both cases, and any other code as it is
abbrev pub in_both_cases : ℕ → List ℕ
in_both_cases n = if is_between (byte "a") (byte "z") n then (n - 32) ∷ n ∷ [] else n ∷ []

-- the first letters of these words in both cases, each once
abbrev pub first_letters : List (List ℕ) → List ℕ
first_letters [] = []
first_letters ([] ∷ words) = first_letters words
first_letters ((n ∷ ns) ∷ words) = in_both_cases n ++ filter (λ m. not (list_any (λ k. m == k) (in_both_cases n))) (first_letters words)

abbrev pub is_other : Kind → Bool
is_other Kind.Other = true
is_other _ = false

abbrev pub is_space : Kind → Bool
is_space Kind.Whitespace = true
is_space _ = false

-- A domain holds a character of class other, and neither of its last two parts between dots holds `_`.

-- read from the back, `dots` dots so far
abbrev pub last_parts_plain : ℕ → List Code → Bool
last_parts_plain dots [] = true
last_parts_plain dots (c ∷ cs) =
    elim (is_value (byte ".") c) [
      | true ↦ dots == 1 || last_parts_plain (dots + 1) cs
      | false ↦ not (is_value (byte "_") c) && last_parts_plain dots cs
    ]

abbrev pub is_domain : List Code → Bool
is_domain cs = list_any (λ c. not (is_among (codes "._-") c)) cs && last_parts_plain 0 (reverse cs)

abbrev pub count_if : ℕ → Code → ℕ → ℕ
count_if n c k = elim (is_value n c) [ true ↦ k + 1 | false ↦ k ]

abbrev pub may_precede_www : Option Code → Bool
may_precede_www None = true
may_precede_www (Some c) = is_whitespace_code c || is_among (codes "(*_[]~") c

-- `www.`, and a code after it
abbrev pub begins_with_www : List Code → Bool
begins_with_www cs = elim (letters www cs) [ None ↦ false | Some r ↦ not (is_empty r.1) ]

-- A piece of trailing punctuation: a mark, or what looks like a named reference.
unfoldable pub trailing : Reading (List Code)
trailing = either (one (is_among (codes "!\"'),*.:;?]_~"))) (one (is_value (byte "&")) then_ some is_letter then_ one (is_value (byte ";")))

-- a code that may begin such a piece, and so is no whitespace
abbrev pub begins_trailing : Code → Bool
begins_trailing c = is_among (codes "!\"&'),*.:;?]_~") c

-- `bytes` is the document, and `end` the index where the content ends.
module _ (bytes : List ℕ) (end : ℕ) where
  abbrev pub index_of : List Code → ℕ
  index_of [] = end
  index_of (c ∷ cs) = c.start.index

  -- the document's character here is missing or whitespace
  abbrev pub stands_before_space : List Code → Bool
  stands_before_space cs = is_space (class_of (after_index bytes (index_of cs)))

  -- Trailing punctuation ends here: at whitespace, at a `<`, or at a `]` that the end, whitespace, `(` or `[` follows.
  abbrev pub ends_trail : List Code → Bool
  ends_trail [] = stands_before_space []
  ends_trail (c ∷ cs) =
      is_value (byte "<") c
      || (is_value (byte "]") c && (is_empty cs || next_is (λ d. is_whitespace_code d || is_among (codes "([") d) cs))
      || (not (begins_trailing c) && stands_before_space (c ∷ cs))

  -- it ends behind some number of pieces, n at most
  unfoldable pub trails_within : ℕ → List Code → Bool
  trails_within zero cs = ends_trail cs
  trails_within (suc n) cs = ends_trail cs || elim (trailing cs) [ None ↦ false | Some r ↦ trails_within n r.1 ]

  -- What stands here trails: some number of pieces of trailing punctuation, and then its end.
  unfoldable pub trails : List Code → Bool
  trails cs = trails_within (length cs) cs

  -- Domains go on over `.` and `_` that are not trailing, `-`, and characters of class other; the later
  -- bytes of a character stand with its first one.

  abbrev pub is_domain_code : List Code → Bool
  is_domain_code [] = false
  is_domain_code (c ∷ cs) =
      elim (is_among (codes "._") c) [
        | true ↦ not (trails (c ∷ cs))
        | false ↦ (is_value (byte "-") c || is_later_byte c) || is_other (class_of (after_index bytes c.start.index))
      ]

  -- the longest front each of whose codes passes where it stands
  abbrev pub domain_from : List Code → List Code × List Code
  domain_from [] = ([], [])
  domain_from (c ∷ cs) =
      elim (is_domain_code (c ∷ cs)) [
        | true ↦ let s = domain_from cs in (c ∷ s.0, s.1)
        | false ↦ ([], c ∷ cs)
      ]

  unfoldable pub domain : Reading (List Code)
  domain cs = elim (is_domain (domain_from cs).0) [ true ↦ Some (domain_from cs) | false ↦ None ]

  -- Paths: up to the end, whitespace or trailing punctuation, but a `)` that closes a `(` of the path
  -- belongs to it. So many parentheses of the path opened and closed before.

  abbrev pub ends_path : ℕ → ℕ → List Code → Bool
  ends_path opened closed [] = true
  ends_path opened closed (c ∷ cs) =
      (not (is_later_byte c) && is_space (class_of (after_index bytes c.start.index)))
      || ((is_among (codes "!\"&'),*.:;<?]_~") c && not (is_value (byte ")") c && nat_lt closed opened)) && trails (c ∷ cs))

  abbrev pub path_from : ℕ → ℕ → List Code → List Code × List Code
  path_from opened closed [] = ([], [])
  path_from opened closed (c ∷ cs) =
      elim (ends_path opened closed (c ∷ cs)) [
        | true ↦ ([], c ∷ cs)
        | false ↦ let s = path_from (count_if (byte "(") c opened) (count_if (byte ")") c closed) cs in (c ∷ s.0, s.1)
      ]

  unfoldable pub path : Reading (List Code)
  path cs = Some (path_from 0 0 cs)

  -- The literals. `previous` is the code before.

  unfoldable pub gfm_autolink_literal_protocol : Option Code → Reading Forest
  gfm_autolink_literal_protocol previous = do
    provided (not (is_some_code is_letter previous))
    scheme ← one_word_of schemes
    host ← domain
    further ← path
    gives (leaf Name.GfmAutolinkLiteralProtocol (scheme ++ host ++ further))

  -- the domain and the path begin with the first `w`
  unfoldable pub www_from_here : Reading Forest
  www_from_here = do
    host ← domain
    further ← path
    gives (leaf Name.GfmAutolinkLiteralWww (host ++ further))

  unfoldable pub gfm_autolink_literal_www : Option Code → Reading Forest
  gfm_autolink_literal_www previous cs = (provided (may_precede_www previous && begins_with_www cs) >> www_from_here) cs
