-- A content as characters: where its codes begin and end between characters of the document.
use Rattle.std.specs.Prelude.{◌≡◌, ◌<◌, ◌+◌, ℕ, suc, get_or, Bool, true, false, nat_lt, Option, Some, None, List, slice_get, IsUtf8}
use Rattle.std.specs.Str.{IsCharBoundary}
use Rattle.markdown_content.specs.Codes.{Code}
use Rattle.markdown_content.specs.Place.{Place, start_or, value_of}
use Rattle.markdown_content.specs.PlaceInDocument.{IsPlaceOf}
use Rattle.markdown_engine.specs.declared.tokenizer.Tokenizer.{Tokenizer}
use Rattle.markdown_model.specs.CodeTests.{is_between, is_later_byte}

abbrev pub bytes_of : Tokenizer → List ℕ
bytes_of T = T.parse_state.now.bytes.now

abbrev pub later_value : ℕ → Bool
later_value v = is_between 128 191 v

-- a later byte of a character is at hand
abbrev pub at_later : Option ℕ → Bool
at_later None = false
at_later (Some v) = later_value v

-- The document is a text, and the place is one of a content of it. Its codes are those of the document's bytes: each but a later byte of a character begins where
-- one does, no later byte follows an ASCII code, a code ends between characters unless a later byte follows, and so does the content.
-- A code above the space is the byte at its place, it ends right behind that byte, and what comes next stands there.
pub record IsText (bytes : List ℕ) (p : Place) : Type 0 where
  pub text : IsUtf8 bytes
  pub own : IsPlaceOf bytes p
  pub end : IsCharBoundary bytes p.end.index
  pub first : (n : ℕ) (c : Code) → slice_get p.codes n ≡ Some c → is_later_byte c ≡ false → IsCharBoundary bytes c.start.index
  pub next : (n : ℕ) (c d : Code) → slice_get p.codes n ≡ Some c → slice_get p.codes (suc n) ≡ Some d → nat_lt c.value 128 ≡ true → is_later_byte d ≡ false
  pub stop : (n : ℕ) (c : Code) → slice_get p.codes n ≡ Some c → at_later (value_of (slice_get p.codes (suc n))) ≡ false → IsCharBoundary bytes c.stop.index
  pub byte : (n : ℕ) (c : Code) → slice_get p.codes n ≡ Some c → 32 < c.value → get_or bytes c.start.index 0 ≡ c.value
  pub past : (n : ℕ) (c : Code) → slice_get p.codes n ≡ Some c → 32 < c.value → c.stop.index ≡ c.start.index + 1
  pub behind : (n : ℕ) (c : Code) → slice_get p.codes n ≡ Some c → 32 < c.value → (start_or (slice_get p.codes (suc n)) p.end).index ≡ c.start.index + 1

abbrev pub ReadsText : Tokenizer → Type 0
ReadsText T = IsText (bytes_of T) T.cursor
