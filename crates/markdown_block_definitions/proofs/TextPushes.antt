-- The codes of pieces, pushed one by one.
use Rattle.std.proofs.Common.{◌≡◌, ℕ, suc, ◌+◌, ◌*◌, ◌≤◌, ◌<◌, refl, ap, ◌∙◌, sym, subst, List, [], ◌∷◌, ◌++◌, length, filter, Bool, true, false, ◌&&◌, ◌||◌, not, nat_lt, ◌==◌, arith, append_assoc, append-nil}
use Rattle.std.proofs.lemmas.Bool.Decides.{nat_tests}
use Rattle.std.proofs.lemmas.Grind.{flat_map-append}
use Rattle.markdown_event.specs.declared.event.Point.{Point}
use Rattle.markdown_content.specs.Codes.{Code, codes_of, place_of, is_code_before}
use Rattle.markdown_content.specs.Content.{piece_codes, is_in_piece, content_of}
use Rattle.markdown_content.specs.DocumentWalk.{codes_after}
use Rattle.markdown_content.specs.declared.parser.Piece.{Piece}
use Rattle.markdown_content.proofs.PlaceOrder.{is_before, not_before-trans}
use Rattle.markdown_content.proofs.DocumentWalkLemmas.{past-end}
use Rattle.markdown_content.proofs.DocumentPlaces.{stands-point, codes-point}
use Rattle.markdown_model.specs.CodeTests.{values_of}
use Rattle.markdown_block_line.proofs.RestValues.{by_bool}
use Rattle.markdown_block_definitions.specs.TextReadings.{is_first, firsts_of}
use Rattle.markdown_block_definitions.specs.TextCopies.{IsSpot, IsRead, IsLonger, IsCopied, codes_left, point_of, spot_place, line_spot, is_spot_before}
use Rattle.markdown_block_definitions.specs.declared.copy.Spot.{Spot}
use Rattle.markdown_block_definitions.proofs.SpotReads.{spot-small}

pub keep : (f : Code → Bool) (c : Code) (cs : List Code) → f c ≡ true → filter f (c ∷ cs) ≡ c ∷ filter f cs
keep f c cs h = rw h refl

pub leave : (f : Code → Bool) (c : Code) (cs : List Code) → f c ≡ false → filter f (c ∷ cs) ≡ filter f cs
leave f c cs h = rw h refl

-- Pieces.

pub not-started : (piece : Piece) (c : Code) → is_code_before piece.start c ≡ true → is_in_piece piece c ≡ false
not-started piece c e = ap (λ b. not b && is_code_before piece.end c) e

off : (b : Bool) → (b && false) ≡ false
off true = refl
off false = refl

ended : (piece : Piece) (c : Code) → is_code_before piece.end c ≡ false → is_in_piece piece c ≡ false
ended piece c e = ap (λ b. not (is_code_before piece.start c) && b) e ∙ off (not (is_code_before piece.start c))

pub inside : (piece : Piece) (c : Code) → is_code_before piece.start c ≡ false → is_code_before piece.end c ≡ true → is_in_piece piece c ≡ true
inside piece c e f = ap (λ b. not b && is_code_before piece.end c) e ∙ f

earlier : (i v a b n : ℕ) → (nat_lt i n || (i == n && nat_lt v 0)) ≡ true → n ≤ a → (nat_lt i a || (i == a && nat_lt v b)) ≡ true
earlier i v a b n h l = grind (arith, nat_tests, h, l)

-- no code of a piece stands before a line that begins before the piece
from-line : (piece : Piece) (n : ℕ) (cs : List Code) → n ≤ piece.start.0 → filter (is_in_piece piece) cs ≡ filter (is_in_piece piece) (filter (λ c. not (is_code_before (n, 0) c)) cs)
from-line piece n [] l = refl
from-line piece n (c ∷ cs) l = by_bool (is_code_before (n, 0) c)
    (λ (e : is_code_before (n, 0) c ≡ true).
    leave (is_in_piece piece) c cs (not-started piece c (earlier c.start.index c.start.vs piece.start.0 piece.start.1 n e l)) ∙ from-line piece n cs l
    ∙ ap (filter (is_in_piece piece)) (sym (leave (λ d. not (is_code_before (n, 0) d)) c cs (ap not e))))
    (λ (e : is_code_before (n, 0) c ≡ false).
    by_bool (is_in_piece piece c)
    (λ (f : is_in_piece piece c ≡ true).
    keep (is_in_piece piece) c cs f ∙ ap (λ (xs : List Code). c ∷ xs) (from-line piece n cs l) ∙ sym (keep (is_in_piece piece) c (filter (λ d. not (is_code_before (n, 0) d)) cs) f)
    ∙ ap (filter (is_in_piece piece)) (sym (keep (λ d. not (is_code_before (n, 0) d)) c cs (ap not e))))
    (λ (f : is_in_piece piece c ≡ false).
    leave (is_in_piece piece) c cs f ∙ from-line piece n cs l ∙ sym (leave (is_in_piece piece) c (filter (λ d. not (is_code_before (n, 0) d)) cs) f)
    ∙ ap (filter (is_in_piece piece)) (sym (keep (λ d. not (is_code_before (n, 0) d)) c cs (ap not e)))))

-- nor one from the end of the piece on
behind-end : (piece : Piece) (at : ℕ × ℕ) (cs : List Code) → is_before at piece.end ≡ false → filter (is_in_piece piece) (filter (λ c. not (is_code_before at c)) cs) ≡ []
behind-end piece at [] l = refl
behind-end piece at (c ∷ cs) l = by_bool (is_code_before at c)
    (λ (e : is_code_before at c ≡ true). ap (filter (is_in_piece piece)) (leave (λ d. not (is_code_before at d)) c cs (ap not e)) ∙ behind-end piece at cs l)
    (λ (e : is_code_before at c ≡ false).
    ap (filter (is_in_piece piece)) (keep (λ d. not (is_code_before at d)) c cs (ap not e))
    ∙ leave (is_in_piece piece) c (filter (λ d. not (is_code_before at d)) cs) (ended piece c (not_before-trans (place_of c.start) at piece.end e l))
    ∙ behind-end piece at cs l)

pub nothing-behind : (bytes : List ℕ) (piece : Piece) (s : Spot) → is_spot_before s piece.end ≡ false → filter (is_in_piece piece) (codes_after bytes (spot_place s)) ≡ []
nothing-behind bytes piece s e = behind-end piece (spot_place s) (codes_of bytes) e

pub nothing-left : (bytes : List ℕ) (piece : Piece) (s : Spot) → IsSpot bytes s → length bytes ≤ s.index → filter (is_in_piece piece) (codes_after bytes (spot_place s)) ≡ []
nothing-left bytes piece s h l =
    let p : Point = point_of s h.line h.column in
    ap (filter (is_in_piece piece)) (sym (codes-point bytes p h.is_point) ∙ past-end bytes p (stands-point bytes p h.is_point) l)

-- What is pushed.

pub values-append : (cs ds : List Code) → values_of (cs ++ ds) ≡ values_of cs ++ values_of ds
values-append [] ds = refl
values-append (c ∷ cs) ds = ap (λ (xs : List ℕ). c.value ∷ xs) (values-append cs ds)

firsts-append : (cs ds : List Code) → firsts_of (cs ++ ds) ≡ firsts_of cs ++ firsts_of ds
firsts-append [] ds = refl
firsts-append (c ∷ cs) ds = ap (λ (xs : List Bool). is_first c ∷ xs) (firsts-append cs ds)

pub record IsPushed (bytes : List ℕ) (piece : Piece) (v0 : List ℕ) (b0 : List Bool) (v : List ℕ) (b : List Bool) (s : Spot) : Type 0 where
  pub done : List Code
  pub split : piece_codes (codes_of bytes) piece ≡ done ++ codes_left bytes piece (spot_place s)
  pub longer : IsLonger v0 b0 v b done
  pub stands : IsSpot bytes s
  pub started : s.index < length bytes → is_spot_before s piece.start ≡ false

pub pushed-start : (bytes : List ℕ) (piece : Piece) (v : List ℕ) (b : List Bool) (s : Spot) → IsSpot bytes s → piece_codes (codes_of bytes) piece ≡ codes_left bytes piece (spot_place s)
    → (s.index < length bytes → is_spot_before s piece.start ≡ false) → IsPushed bytes piece v b v b s
pushed-start bytes piece v b s h e g = record { done = []; split = e; longer = record { values_more = sym (append-nil v); firsts_more = sym (append-nil b) }; stands = h; started = g }

longer-on : (v0 v v1 : List ℕ) (b0 b b1 : List Bool) (cs ds : List Code) → IsLonger v0 b0 v b cs → IsLonger v b v1 b1 ds → IsLonger v0 b0 v1 b1 (cs ++ ds)
longer-on v0 v v1 b0 b b1 cs ds h k = record {
  values_more = k.values_more ∙ ap (λ (x : List ℕ). x ++ values_of ds) h.values_more ∙ append_assoc v0 (values_of cs) (values_of ds) ∙ ap (λ (x : List ℕ). v0 ++ x) (sym (values-append cs ds));
  firsts_more = k.firsts_more ∙ ap (λ (x : List Bool). x ++ firsts_of ds) h.firsts_more ∙ append_assoc b0 (firsts_of cs) (firsts_of ds) ∙ ap (λ (x : List Bool). b0 ++ x) (sym (firsts-append cs ds));
}

module _ (bytes : List ℕ) (piece : Piece) (v0 : List ℕ) (b0 : List Bool) (v : List ℕ) (b : List Bool) (s : Spot) (h : IsPushed bytes piece v0 b0 v b s) where
  whole : codes_left bytes piece (spot_place s) ≡ [] → IsLonger v0 b0 v b (piece_codes (codes_of bytes) piece)
  whole e =
      let x : h.done ≡ piece_codes (codes_of bytes) piece = sym (h.split ∙ ap (λ (xs : List Code). h.done ++ xs) e ∙ append-nil h.done) in
      subst (λ (xs : List Code). IsLonger v0 b0 v b xs) x h.longer

  pub pushed-behind : is_spot_before s piece.end ≡ false → IsLonger v0 b0 v b (piece_codes (codes_of bytes) piece)
  pushed-behind e = whole (nothing-behind bytes piece s e)

  pub pushed-end : length bytes ≤ s.index → IsLonger v0 b0 v b (piece_codes (codes_of bytes) piece)
  pushed-end l = whole (nothing-left bytes piece s h.stands l)

  pub pushed-more : (v1 : List ℕ) (b1 : List Bool) (t : Spot) → IsCopied bytes piece s t v b v1 b1 → IsPushed bytes piece v0 b0 v1 b1 t
  pushed-more v1 b1 t k = record {
    done = h.done ++ k.codes;
    split = h.split ∙ ap (λ (xs : List Code). h.done ++ xs) k.left ∙ sym (append_assoc h.done k.codes (codes_left bytes piece (spot_place t)));
    longer = longer-on v0 v v1 b0 b b1 h.done k.codes h.longer k.longer;
    stands = k.stands;
    started = λ l. k.started;
  }

-- One code.

module _ (bytes : List ℕ) (piece : Piece) (s t : Spot) (value : ℕ) (r : IsRead bytes s value t) where
  at-place : (at : ℕ × ℕ) → is_code_before at r.code ≡ is_spot_before s at
  at-place at = ap (λ (x : ℕ × ℕ). is_before x at) r.starts

  pub left-more : is_spot_before s piece.start ≡ false → is_spot_before s piece.end ≡ true → codes_left bytes piece (spot_place s) ≡ r.code ∷ codes_left bytes piece (spot_place t)
  left-more e f = ap (filter (is_in_piece piece)) r.codes
      ∙ keep (is_in_piece piece) r.code (codes_after bytes (spot_place t)) (inside piece r.code (at-place piece.start ∙ e) (at-place piece.end ∙ f))

  pub still-behind : (at : ℕ × ℕ) → is_spot_before s at ≡ false → is_spot_before t at ≡ false
  still-behind at e = let k : t.vs ≤ 3 = (spot-small bytes t r.stands).0 in numbers s.index s.vs t.index t.vs at.0 at.1 e k r.later
    where
      numbers : (a b c d e f : ℕ) → is_before (a, b) (e, f) ≡ false → d ≤ 3 → 4 * a + b + 1 ≤ 4 * c + d → is_before (c, d) (e, f) ≡ false
      numbers a b c d e f h k l = grind (arith, nat_tests)

  pub first-later : piece_codes (codes_of bytes) piece ≡ codes_left bytes piece (spot_place s) → is_spot_before s piece.start ≡ true → piece_codes (codes_of bytes) piece ≡ codes_left bytes piece (spot_place t)
  first-later h e = h ∙ ap (filter (is_in_piece piece)) r.codes ∙ leave (is_in_piece piece) r.code (codes_after bytes (spot_place t)) (not-started piece r.code (at-place piece.start ∙ e))

  pub copied-one : (v : List ℕ) (b : List Bool) → is_spot_before s piece.start ≡ false → is_spot_before s piece.end ≡ true → IsCopied bytes piece s t v b (v ++ value ∷ []) (b ++ (s.vs == 0) ∷ [])
  copied-one v b e f = record {
    codes = r.code ∷ [];
    left = left-more e f;
    longer = record { values_more = ap (λ n. v ++ n ∷ []) (sym r.values); firsts_more = ap (λ (x : ℕ × ℕ). b ++ (x.1 == 0) ∷ []) (sym r.starts) };
    stands = r.stands;
    started = still-behind piece.start e;
    later = r.later;
  }

pub first-start : (bytes : List ℕ) (piece : Piece) (n : ℕ) → n ≤ piece.start.0 → piece_codes (codes_of bytes) piece ≡ codes_left bytes piece (spot_place (line_spot n))
first-start bytes piece n l = from-line piece n (codes_of bytes) l

-- A text.

pub longer-none : (v : List ℕ) (b : List Bool) → IsLonger v b v b []
longer-none v b = record { values_more = sym (append-nil v); firsts_more = sym (append-nil b) }

pub longer-more : (v0 v1 v2 : List ℕ) (b0 b1 b2 : List Bool) (bytes : List ℕ) (ps qs : List Piece) (piece : Piece) → IsLonger v0 b0 v1 b1 (content_of bytes ps) → IsLonger v1 b1 v2 b2 (piece_codes (codes_of bytes) piece) → qs ≡ ps ++ piece ∷ [] → IsLonger v0 b0 v2 b2 (content_of bytes qs)
longer-more v0 v1 v2 b0 b1 b2 bytes ps qs piece h k e =
    let cs : List Code = content_of bytes ps in
    let ds : List Code = piece_codes (codes_of bytes) piece in
    let whole : content_of bytes qs ≡ cs ++ ds = ap (content_of bytes) e ∙ flat_map-append (piece_codes (codes_of bytes)) ps (piece ∷ []) ∙ ap (λ (xs : List Code). cs ++ xs) (append-nil ds) in
    subst (λ (xs : List Code). IsLonger v0 b0 v2 b2 xs) (sym whole) (longer-on v0 v1 v2 b0 b1 b2 cs ds h k)

-- the codes of a text alone
module _ (v0 v : List ℕ) (b0 b : List Bool) (cs : List Code) (h : IsLonger v0 b0 v b cs) where
  pub values-alone : v0 ≡ [] → values_of cs ≡ v
  values-alone e = sym (h.values_more ∙ ap (λ (x : List ℕ). x ++ values_of cs) e)

  pub firsts-alone : b0 ≡ [] → firsts_of cs ≡ b
  firsts-alone e = sym (h.firsts_more ∙ ap (λ (x : List Bool). x ++ firsts_of cs) e)

  pub as-many : v0 ≡ [] → b0 ≡ [] → length b ≡ length v
  as-many e f = ap length (sym (firsts-alone f)) ∙ lengths cs ∙ ap length (values-alone e)
    where
      lengths : (cs : List Code) → length (firsts_of cs) ≡ length (values_of cs)
      lengths [] = refl
      lengths (c ∷ cs) = ap suc (lengths cs)
