-- A small notation for grammars. A reading takes the codes at hand; where it holds it gives what it
-- read, with the codes after that. So a construct has one end at most.
use Rattle.std.specs.Prelude.{ℕ, zero, suc, Bool, true, false, ◌&&◌, ◌==◌, List, [], ◌∷◌, ◌++◌, length, Option, Some, None, codes}
use Rattle.std.specs.Str.{byte}
use Prim.Native.String.{String}
use Rattle.markdown_content.specs.Codes.{Code}
use Rattle.markdown_content.specs.Tree.{Forest, empty}
use Rattle.markdown_model.specs.CodeTests.{is_empty, next_is}

infixl 20 ◌>>◌ ◌>>=◌
abbrev pub Reading : Type 0 → Type 0
Reading A = List Code → Option (A × List Code)

-- One after the other, and the choice between readings.

unfoldable pub ◌>>=◌ : {A B : Type 0} → Reading A → (A → Reading B) → Reading B
◌>>=◌ a next cs = elim (a cs) [ None ↦ None | Some r ↦ next r.0 r.1 ]

unfoldable pub ◌>>◌ : {A B : Type 0} → Reading A → Reading B → Reading B
(a >> b) cs = elim (a cs) [ None ↦ None | Some r ↦ b r.1 ]

-- holds everywhere, and reads nothing
unfoldable pub gives : {A : Type 0} → A → Reading A
gives x cs = Some (x, cs)

-- holds where the test does, and reads nothing
unfoldable pub provided : Bool → Reading (List Code)
provided test cs = elim test [ true ↦ Some ([], cs) | false ↦ None ]

-- the first where it holds, else the second
unfoldable pub either : {A : Type 0} → Reading A → Reading A → Reading A
either a b cs = elim (a cs) [ None ↦ b cs | Some r ↦ Some r ]

-- the second, where the first does not hold
unfoldable pub unless : {A B : Type 0} → Reading A → Reading B → Reading B
unless a b cs = elim (a cs) [ None ↦ b cs | Some r ↦ None ]

-- the first where the next code passes, else the second
unfoldable pub if_next : {A : Type 0} → (Code → Bool) → Reading A → Reading A → Reading A
if_next p a b cs = elim (next_is p cs) [ true ↦ a cs | false ↦ b cs ]

-- the reading, where the codes after it pass, which are not read
unfoldable pub before : {A : Type 0} → Reading A → (List Code → Bool) → Reading A
before a p cs = elim (a cs) [ None ↦ None | Some r ↦ elim (p r.1) [ true ↦ Some r | false ↦ None ] ]

-- Readings of codes.

-- the codes that pass, as many as there are, and the codes after them
abbrev pub span : (Code → Bool) → List Code → List Code × List Code
span p [] = ([], [])
span p (c ∷ cs) = elim (p c) [ true ↦ let s = span p cs in (c ∷ s.0, s.1) | false ↦ ([], c ∷ cs) ]

-- the codes up to the first place at which what comes passes, and the codes from there on
abbrev pub until : (List Code → Bool) → List Code → List Code × List Code
until p [] = ([], [])
until p (c ∷ cs) = elim (p (c ∷ cs)) [ true ↦ ([], c ∷ cs) | false ↦ let s = until p cs in (c ∷ s.0, s.1) ]

-- one code that passes
unfoldable pub one : (Code → Bool) → Reading (List Code)
one p [] = None
one p (c ∷ cs) = elim (p c) [ true ↦ Some (c ∷ [], cs) | false ↦ None ]

-- all that pass, even if there is none
unfoldable pub any_number : (Code → Bool) → Reading (List Code)
any_number p cs = Some (span p cs)

-- all that pass, one at least
unfoldable pub some : (Code → Bool) → Reading (List Code)
some p cs = elim (is_empty (span p cs).0) [ true ↦ None | false ↦ Some (span p cs) ]

-- with a code before what was read
abbrev pub with_first : Code → Option (List Code × List Code) → Option (List Code × List Code)
with_first c None = None
with_first c (Some r) = Some (c ∷ r.0, r.1)

-- these values, one by one
unfoldable pub word_of : List ℕ → Reading (List Code)
word_of [] cs = Some ([], cs)
word_of (n ∷ ns) [] = None
word_of (n ∷ ns) (c ∷ cs) = elim (c.value == n) [ true ↦ with_first c (word_of ns cs) | false ↦ None ]

unfoldable pub word : String → Reading (List Code)
word text = word_of (codes text)

-- all up to the first place where the word stands, and the word
unfoldable pub up_to_word : List ℕ → Reading (List Code)
up_to_word ns [] = None
up_to_word ns (c ∷ cs) = elim (word_of ns (c ∷ cs)) [ Some r ↦ Some r | None ↦ with_first c (up_to_word ns cs) ]

unfoldable pub through : String → Reading (List Code)
through text = up_to_word (codes text)

-- both, one after the other
infixr 55 ◌then_◌
unfoldable pub ◌then_◌ : Reading (List Code) → Reading (List Code) → Reading (List Code)
(a then_ b) cs =
    elim (a cs) [
      | None ↦ None
      | Some r ↦ elim (b r.1) [ None ↦ None | Some s ↦ Some (r.0 ++ s.0, s.1) ]
    ]

-- as often as it holds, n times at most
unfoldable pub repeated : ℕ → Reading (List Code) → Reading (List Code)
repeated zero a cs = Some ([], cs)
repeated (suc n) a cs =
    elim (a cs) [
      | None ↦ Some ([], cs)
      | Some r ↦ elim (repeated n a r.1) [ None ↦ Some r | Some s ↦ Some (r.0 ++ s.0, s.1) ]
    ]

-- as often as it holds: no more often than there are codes
unfoldable pub repeatedly : Reading (List Code) → Reading (List Code)
repeatedly a cs = repeated (length cs) a cs

unfoldable pub optional : Reading (List Code) → Reading (List Code)
optional a = either a (gives [])

unfoldable pub optional_tree : Reading Forest → Reading Forest
optional_tree a = either a (gives empty)

-- Escapes (CommonMark 2.4) inside labels, destinations and titles: the codes up to one that passes
-- `stop` and is not escaped, which must come. A backslash escapes a following code that passes `takes`;
-- any other code that passes `refuses` makes it fail.
module _ (stop takes refuses : Code → Bool) where
  -- `slash` says that a backslash stands before that is not escaped itself
  unfoldable pub escaped_from : Bool → Reading (List Code)
  escaped_from slash [] = None
  escaped_from slash (c ∷ cs) =
      elim (slash && takes c) [
        | true ↦ with_first c (escaped_from false cs)
        | false ↦ elim (stop c) [
          | true ↦ Some ([], c ∷ cs)
          | false ↦ elim (refuses c) [
            | true ↦ None
            | false ↦ with_first c (escaped_from (c.value == byte "\\") cs)
          ]
        ]
      ]

  unfoldable pub up_to : Reading (List Code)
  up_to = escaped_from false
