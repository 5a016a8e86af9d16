-- What is lent of a document for a position: bytes, and virtual spaces of tabs on either side.
use Rattle.std.specs.Prelude.{ℕ, ◌+◌, Bool, ◌&&◌, ◌==◌, nat_lt, List, if◌then◌else◌, count_by, slice_range}
use Rattle.markdown_event.specs.declared.event.Point.{Point}
use Rattle.markdown_content.specs.Codes.{Code, codes_of, is_at_or_after, place_of}
use Rattle.markdown_content.specs.Content.{piece_codes}

-- the codes from one place of a document to another
abbrev pub codes_between : List ℕ → Point → Point → List Code
codes_between bytes p q = piece_codes (codes_of bytes) (record { start = place_of p; end = place_of q })

-- Tabs (CommonMark 2.2): the code is a column of the tab at this index, but not its first
abbrev pub is_virtual_space : ℕ → Code → Bool
is_virtual_space index c = c.start.index == index && nat_lt 0 c.start.vs

-- how many of the codes are virtual spaces of the tab at this index
abbrev pub virtual_spaces : ℕ → List Code → ℕ
virtual_spaces index cs = count_by (is_virtual_space index) cs

-- the first byte that begins at a place or after it
abbrev pub byte_from : Point → ℕ
byte_from p = if nat_lt 0 p.vs then p.index + 1 else p.index

-- the bytes that begin in the position
abbrev pub position_bytes : List ℕ → Point → Point → List ℕ
position_bytes bytes p q = slice_range bytes (byte_from p) (byte_from q)

-- where the position starts inside a tab, the virtual spaces of that tab in it
unfoldable pub spaces_before : List ℕ → Point → Point → ℕ
spaces_before bytes p q = if nat_lt 0 p.vs then virtual_spaces p.index (codes_between bytes p q) else 0

-- where the position ends inside a tab that begins in it, the virtual spaces of that tab in it
unfoldable pub spaces_after : List ℕ → Point → Point → ℕ
spaces_after bytes p q =
    if is_at_or_after (place_of p) (q.index, 0) then virtual_spaces q.index (codes_between bytes p q) else 0
