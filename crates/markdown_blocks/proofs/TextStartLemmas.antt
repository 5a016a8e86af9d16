-- Where the text of a document begins.
use Rattle.std.proofs.Common.{◌≡◌, ℕ, ◌==◌, refl, sym, subst, List, [], ◌++◌, drop, Bool, true, false, IsUtf8, arith}
use Rattle.std.specs.List.{starts_with}
use Rattle.std.specs.Str.{IsCharBoundary}
use Rattle.std.proofs.Math.Utf8.{encode}
use Rattle.std.proofs.lemmas.Slice.Eq.{starts_is}
use Rattle.std.proofs.lemmas.Bool.Decides.{Decides-eqb}
use Rattle.std.proofs.lemmas.Str.{IsCharBoundary-start, IsCharBoundary-past_char}
use Rattle.markdown_event.specs.declared.event.Point.{Point}
use Rattle.markdown_content.specs.Codes.{codes_from, codes_of, document_start}
use Rattle.markdown_content.proofs.DocumentPlaces.{after-split, point-split, point_start}
use Rattle.markdown_block_model.specs.ByteOrderMark.{byte_order_mark}
use Rattle.markdown_blocks.specs.LinesLeft.{IsTextStart}

abbrev after_mark : Point
after_mark = record document_start { column = 4; index = 3 }

past-mark : (bytes rest : List ℕ) → bytes ≡ byte_order_mark ++ rest → IsUtf8 bytes → IsCharBoundary bytes 3
unfolding encode
past-mark bytes rest e u = IsCharBoundary-past_char bytes rest 0 65279 (omega arith) u e

-- some bytes behind a mark
marked : (rest : List ℕ) → IsTextStart (byte_order_mark ++ rest) after_mark
marked rest =
    let bytes : List ℕ = byte_order_mark ++ rest in
    let split : codes_of bytes ≡ codes_of byte_order_mark ++ codes_from 191 after_mark rest = refl in
    record {
      is_point = record { here = point-split bytes (codes_of byte_order_mark) (codes_from 191 after_mark rest) split };
      codes = after-split bytes (codes_of byte_order_mark) (codes_from 191 after_mark rest) split;
      between = past-mark bytes rest refl;
    }

pub start-marked : (bytes : List ℕ) (b : Bool) → b ≡ starts_with (λ x y. x == y) bytes byte_order_mark → b ≡ true → IsTextStart bytes after_mark
start-marked bytes b h e = subst (λ bs. IsTextStart bs after_mark) (sym ((starts_is Decides-eqb bytes byte_order_mark b h).0 e)) (marked (drop 3 bytes))

pub start-plain : (bytes : List ℕ) (b : Bool) → b ≡ starts_with (λ x y. x == y) bytes byte_order_mark → b ≡ false → IsTextStart bytes document_start
start-plain bytes b h e = record {
  is_point = point_start bytes;
  codes = rw (sym h, e) (after-split bytes [] (codes_of bytes) refl);
  between = λ u. IsCharBoundary-start bytes u;
}
