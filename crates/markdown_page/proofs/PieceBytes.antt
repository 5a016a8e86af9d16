-- Whether a piece is blank, by its bytes.
use Rattle.std.proofs.Common.{◌≡◌, ◌≤◌, ◌<◌, ◌+◌, ◌-◌, ℕ, zero, suc, refl, sym, ap, ◌∙◌, List, [], ◌∷◌, ◌++◌, length, get_or, Bool, true, false, ◌&&◌, ◌||◌, not, ◌==◌, nat_lt, if◌then◌else◌, arith, min}
use Rattle.std.specs.List.{filter, list_all}
use Rattle.std.specs.Prelude.{cond}
use Rattle.std.proofs.lemmas.Bool.Decides.{nat_tests}
use Rattle.std.proofs.Math.Bool.{or-true, and-false, and-true}
use Rattle.std.proofs.lemmas.List.Elements.{filter-append}
use Rattle.std.proofs.lemmas.List.Folds.{list_all-append}
use Rattle.markdown_event.specs.declared.event.Point.{Point}
use Rattle.markdown_content.specs.declared.parser.Piece.{Piece}
use Rattle.markdown_content.specs.Codes.{Code, tab_value, line_feed, carriage_return, space_value, line_start, line_ending_len, next_column, tab_width, codes_of_tab, codes_of_byte, codes_from, codes_of, document_start, is_line_ending_byte, stop_of}
use Rattle.markdown_content.specs.Content.{is_in_piece, piece_codes}
use Rattle.markdown_model.specs.CodeTests.{is_whitespace_code}
use Rattle.markdown_block_model.specs.LineRests.{is_blank_line}
use Rattle.markdown_blocks.specs.TextTrims.{is_space_byte}
use Rattle.markdown_page.specs.BlankPieces.{first_from}

-- a byte stands outside of those from one number to another
abbrev is_out : ℕ → ℕ → ℕ → Bool
is_out s e i = not (not (nat_lt i s) && nat_lt i e)

-- the bytes from one number to another are whitespace, of bytes of which the first has this number
abbrev spaces : ℕ → ℕ → ℕ → List ℕ → Bool
spaces s e i [] = true
spaces s e i (b ∷ bs) = (is_out s e i || is_space_byte b) && spaces s e (suc i) bs

spaces-all : (s e i : ℕ) (bs : List ℕ) → ((k : ℕ) → k < length bs → s ≤ i + k → i + k < e → is_space_byte (get_or bs k 0) ≡ true) → spaces s e i bs ≡ true
spaces-all s e i [] h = refl
spaces-all s e i (b ∷ bs) h = first (nat_lt i s) refl (nat_lt i e) refl ∙ spaces-all s e (suc i) bs (λ k l a c. h (suc k) (omega arith) (omega arith) (omega arith))
  where
    first : (x : Bool) → nat_lt i s ≡ x → (y : Bool) → nat_lt i e ≡ y → spaces s e i (b ∷ bs) ≡ spaces s e (suc i) bs
    first true p y q = rw p refl
    first false p false q = rw (p, q) refl
    first false p true q = rw (p, q, h 0 (omega arith) (grind (arith, nat_tests, p)) (grind (arith, nat_tests, q))) refl

spaces-not : (s e i : ℕ) (bs : List ℕ) (k : ℕ) → k < length bs → s ≤ i + k → i + k < e → is_space_byte (get_or bs k 0) ≡ false → spaces s e i bs ≡ false
spaces-not s e i [] k l a c h = absurd (omega arith)
spaces-not s e i (b ∷ bs) zero l a c h =
    let x : nat_lt i s ≡ false = grind (arith, nat_tests) in
    let y : nat_lt i e ≡ true = grind (arith, nat_tests) in
    rw (x, y, h) refl
spaces-not s e i (b ∷ bs) (suc k) l a c h = ap (λ v. (is_out s e i || is_space_byte b) && v) (spaces-not s e (suc i) bs k (omega arith) (omega arith) (omega arith) h) ∙ and-false (is_out s e i || is_space_byte b)

-- Where a code stands that is whole.

before-first : (at : ℕ × ℕ) (i : ℕ) → (nat_lt i at.0 || (i == at.0 && nat_lt 0 at.1)) ≡ nat_lt i (first_from at)
before-first (n, zero) i = grind (arith, nat_tests)
before-first (n, suc m) i = grind (arith, nat_tests)

in-piece : (piece : Piece) (v i : ℕ) (p q : Point) → p.vs ≡ 0 → p.index ≡ i
    → is_in_piece piece (record { value = v; start = p; stop = q }) ≡ (not (nat_lt i (first_from piece.start)) && nat_lt i (first_from piece.end))
in-piece piece v i p q e h =
    rw (e, h) (ap (λ x. not x && (nat_lt i piece.end.0 || (i == piece.end.0 && nat_lt 0 piece.end.1))) (before-first piece.start i)
    ∙ ap (λ x. not (nat_lt i (first_from piece.start)) && x) (before-first piece.end i))

-- The codes of a byte.

abbrev blank_in : Piece → List Code → Bool
blank_in piece cs = list_all is_whitespace_code (filter (is_in_piece piece) cs)

one-code : (piece : Piece) (c : Code) → blank_in piece (c ∷ []) ≡ (not (is_in_piece piece c) || is_whitespace_code c)
one-code piece c = by_test (is_in_piece piece c)
  where
    by_test : (x : Bool) → list_all is_whitespace_code (cond x (c ∷ []) []) ≡ (not x || is_whitespace_code c)
    by_test true = and-true (is_whitespace_code c)
    by_test false = refl

filtered-more : (piece : Piece) (c : Code) (cs : List Code) → is_whitespace_code c ≡ true → blank_in piece (c ∷ cs) ≡ blank_in piece cs
filtered-more piece c cs h = by_test (is_in_piece piece c)
  where
    by_test : (x : Bool) → list_all is_whitespace_code (cond x (c ∷ filter (is_in_piece piece) cs) (filter (is_in_piece piece) cs)) ≡ blank_in piece cs
    by_test true = ap (λ v. v && blank_in piece cs) h
    by_test false = refl

-- the place behind the codes of a tab
tab-end : (n v : ℕ) (p r : Point) → ((stop_of r (codes_of_tab v n p)).vs ≡ 0) × ((stop_of r (codes_of_tab v n p)).index ≡ p.index + 1)
tab-end zero v p r = (refl, refl)
tab-end (suc n) v p r = tab-end n space_value (next_column p p.index (p.vs + 1)) (next_column p p.index (p.vs + 1))

tab-blank : (n v : ℕ) (p : Point) (piece : Piece) → ((v == space_value) || (v == tab_value)) ≡ true → blank_in piece (codes_of_tab v n p) ≡ true
tab-blank zero v p piece h = filtered-more piece (record { value = v; start = p; stop = next_column p (p.index + 1) 0 }) [] (ap (λ x. x || (v == line_feed)) h)
tab-blank (suc n) v p piece h =
    let q = next_column p p.index (p.vs + 1) in
    filtered-more piece (record { value = v; start = p; stop = q }) (codes_of_tab space_value n q) (ap (λ x. x || (v == line_feed)) h) ∙ tab-blank n space_value q piece refl

-- the codes of a byte, with the place behind them
pub record IsByte (piece : Piece) (i b : ℕ) (rest : List ℕ) (p : Point) (cs : List Code) : Type 0 where
  pub blank : blank_in piece cs ≡ (is_out (first_from piece.start) (first_from piece.end) i || is_space_byte b)
  pub vs : (stop_of p cs).vs ≡ 0
  pub index : (stop_of p cs).index ≡ p.index + (if is_line_ending_byte b then line_ending_len b rest else 1)

space-any : (out : Bool) (b : ℕ) → is_space_byte b ≡ true → (out || is_space_byte b) ≡ true
space-any out b h = ap (λ v. out || v) h ∙ or-true out

space-feed : (b : ℕ) → (b == line_feed) ≡ true → is_space_byte b ≡ true
space-feed b k = grind (arith, nat_tests)

space-line : (b : ℕ) → is_line_ending_byte b ≡ true → is_space_byte b ≡ true
space-line b k = grind (arith, nat_tests)

space-tab : (b : ℕ) → (b == tab_value) ≡ true → is_space_byte b ≡ true
space-tab b k = grind (arith, nat_tests)

space-plain : (b : ℕ) → is_line_ending_byte b ≡ false → (b == tab_value) ≡ false → (((b == space_value) || (b == tab_value)) || (b == line_feed)) ≡ is_space_byte b
space-plain b k t = grind (arith, nat_tests)

byte-codes : (piece : Piece) (i b : ℕ) (rest : List ℕ) (p : Point) → p.vs ≡ 0 → p.index ≡ i → IsByte piece i b rest p (codes_of_byte p b rest)
byte-codes piece i b rest p e h =
    by_line (is_line_ending_byte b) refl (b == tab_value) refl
  where
    by_line : (x : Bool) → is_line_ending_byte b ≡ x → (y : Bool) → (b == tab_value) ≡ y → IsByte piece i b rest p (codes_of_byte p b rest)
    by_line true k y t =
        let line : Code = record { value = line_feed; start = p; stop = line_start (p.line + 1) (p.index + line_ending_len b rest) } in
        rw k (record {
          blank = filtered-more piece line [] refl ∙ sym (space-any (is_out (first_from piece.start) (first_from piece.end) i) b (space-line b k));
          vs = refl;
          index = ap (λ x. p.index + (if x then line_ending_len b rest else 1)) (sym k);
        })
    by_line false k true t =
        rw (k, t) (record {
          blank = tab-blank (tab_width p - 1) tab_value p piece refl ∙ sym (space-any (is_out (first_from piece.start) (first_from piece.end) i) b (space-tab b t));
          vs = (tab-end (tab_width p - 1) tab_value p p).0;
          index = (tab-end (tab_width p - 1) tab_value p p).1 ∙ ap (λ x. p.index + (if x then line_ending_len b rest else 1)) (sym k);
        })
    by_line false k false t =
        let plain : Code = record { value = b; start = p; stop = next_column p (p.index + 1) 0 } in
        rw (k, t) (record {
          blank = one-code piece plain ∙ ap (λ v. not v || is_whitespace_code plain) (in-piece piece b i p plain.stop e h) ∙ ap (λ v. is_out (first_from piece.start) (first_from piece.end) i || v) (space-plain b k t);
          vs = refl;
          index = ap (λ x. p.index + (if x then line_ending_len b rest else 1)) (sym k);
        })

-- The codes of all bytes.

-- the code that begins next begins at this byte, or behind it where it is the line feed of a CR LF
abbrev StandsAt : ℕ → ℕ → Point → List ℕ → Type 0
StandsAt before i p [] = Unit {0}
StandsAt before i p (b ∷ rest) = p.index ≡ (if before == carriage_return && b == line_feed then i + 1 else i)

behind-feed : (b i : ℕ) (p : Point) (rest : List ℕ) → (b == line_feed) ≡ true → p.index ≡ i + 1 → StandsAt b (suc i) p rest
behind-feed b i p [] k h = tt
behind-feed b i p (c ∷ cs) k h =
    let e : (b == carriage_return) ≡ false = grind (arith, nat_tests) in
    rw e (omega (arith, h))

behind-byte : (b i : ℕ) (p q : Point) (rest : List ℕ) → p.index ≡ i → q.index ≡ p.index + (if is_line_ending_byte b then line_ending_len b rest else 1) → StandsAt b (suc i) q rest
behind-byte b i p q [] h k = tt
behind-byte b i p q (c ∷ cs) h k = k ∙ ap (λ n. n + (if is_line_ending_byte b then line_ending_len b (c ∷ cs) else 1)) h ∙ by_end (b == carriage_return) refl (c == line_feed)
  where
    by_end : (x : Bool) → (b == carriage_return) ≡ x → (y : Bool) → i + (if (b == line_feed) || x then (if x && y then 2 else 1) else 1) ≡ (if x && y then suc i + 1 else suc i)
    by_end true e true = ap (λ v. i + (if v then 2 else 1)) (or-true (b == line_feed)) ∙ omega arith
    by_end true e false = ap (λ v. i + (if v then 1 else 1)) (or-true (b == line_feed)) ∙ omega arith
    by_end false e y = same (b == line_feed)
      where
        same : (v : Bool) → i + (if v || false then 1 else 1) ≡ suc i
        same true = omega arith
        same false = omega arith

blank-append : (piece : Piece) (xs ys : List Code) → blank_in piece (xs ++ ys) ≡ (blank_in piece xs && blank_in piece ys)
blank-append piece xs ys = ap (list_all is_whitespace_code) (filter-append (is_in_piece piece) xs ys) ∙ list_all-append is_whitespace_code (filter (is_in_piece piece) xs) (filter (is_in_piece piece) ys)

and-second : (x y : Bool) → (x && y) ≡ true → y ≡ true
and-second true y h = h
and-second false y h = absurd (cc)

blank-from : (piece : Piece) (bs : List ℕ) (before i : ℕ) (p : Point) → p.vs ≡ 0 → StandsAt before i p bs → blank_in piece (codes_from before p bs) ≡ spaces (first_from piece.start) (first_from piece.end) i bs
blank-from piece [] before i p e h = refl
blank-from piece (b ∷ rest) before i p e h = by_skip (before == carriage_return && b == line_feed) refl (λ j q f k. blank-from piece rest b j q f k)
  where
    by_skip : (x : Bool) → (before == carriage_return && b == line_feed) ≡ x
        → ((j : ℕ) (q : Point) → q.vs ≡ 0 → StandsAt b j q rest → blank_in piece (codes_from b q rest) ≡ spaces (first_from piece.start) (first_from piece.end) j rest)
        → blank_in piece (elim x [ true ↦ codes_from b p rest | false ↦ codes_of_byte p b rest ++ codes_from b (stop_of p (codes_of_byte p b rest)) rest ]) ≡ spaces (first_from piece.start) (first_from piece.end) i (b ∷ rest)
    by_skip true k more =
        let feed : (b == line_feed) ≡ true = and-second (before == carriage_return) (b == line_feed) k in
        let at : p.index ≡ i + 1 = h ∙ ap (λ x. if x then i + 1 else i) k in
        more (suc i) p e (behind-feed b i p rest feed at)
        ∙ ap (λ v. v && spaces (first_from piece.start) (first_from piece.end) (suc i) rest) (sym (space-any (is_out (first_from piece.start) (first_from piece.end) i) b (space-feed b feed)))
    by_skip false k more =
        let at : p.index ≡ i = h ∙ ap (λ x. if x then i + 1 else i) k in
        let byte = byte-codes piece i b rest p e at in
        let q = stop_of p (codes_of_byte p b rest) in
        blank-append piece (codes_of_byte p b rest) (codes_from b q rest)
        ∙ ap (λ v. v && blank_in piece (codes_from b q rest)) byte.blank
        ∙ ap (λ v. (is_out (first_from piece.start) (first_from piece.end) i || is_space_byte b) && v) (more (suc i) q byte.vs (behind-byte b i p q rest at byte.index))

piece-spaces : (bytes : List ℕ) (piece : Piece) → is_blank_line (piece_codes (codes_of bytes) piece) ≡ spaces (first_from piece.start) (first_from piece.end) 0 bytes
piece-spaces [] piece = refl
piece-spaces (b ∷ bs) piece = blank-from piece (b ∷ bs) 0 0 document_start refl refl

pub piece-blank : (bytes : List ℕ) (piece : Piece) (low high : ℕ) → low ≡ min (first_from piece.start) (length bytes) → high ≡ min (first_from piece.end) (length bytes)
    → ((k : ℕ) → low ≤ k → k < high → is_space_byte (get_or bytes k 0) ≡ true) → true ≡ is_blank_line (piece_codes (codes_of bytes) piece)
piece-blank bytes piece low high l g h =
    sym (piece-spaces bytes piece ∙ spaces-all (first_from piece.start) (first_from piece.end) 0 bytes (λ k a b c. h k (omega arith) (omega arith)))

pub piece-not-blank : (bytes : List ℕ) (piece : Piece) (low high k : ℕ) → low ≡ min (first_from piece.start) (length bytes) → high ≡ min (first_from piece.end) (length bytes)
    → low ≤ k → k < high → is_space_byte (get_or bytes k 0) ≡ false → false ≡ is_blank_line (piece_codes (codes_of bytes) piece)
piece-not-blank bytes piece low high k l g a b h =
    sym (piece-spaces bytes piece ∙ spaces-not (first_from piece.start) (first_from piece.end) 0 bytes k (omega arith) (omega arith) (omega arith) h)
