-- Lines of HTML, code by code.
use Rattle.std.proofs.Common.{◌≡◌, ℕ, zero, suc, ◌-◌, ◌<◌, refl, sym, ap, ◌∙◌, Bool, true, false, not, ◌&&◌, ◌||◌, nat_lt, if◌then◌else◌, List, [], ◌∷◌, ◌++◌, length, get_or, drop, append_assoc, append-nil, arith, ◌<◌, ◌+◌}
use Rattle.std.specs.Prelude.{replicate, slice_range}
use Rattle.std.specs.List.{list_all}
use Rattle.std.proofs.lemmas.Bool.Decides.{nat_tests}
use Rattle.markdown_event.specs.declared.event.Point.{Point}
use Rattle.markdown_content.specs.Codes.{Code, is_line_ending, is_line_ending_byte, line_ending_len}
use Rattle.markdown_content.specs.declared.parser.Piece.{Piece}
use Rattle.markdown_content.proofs.DocumentCodes.{code_here}
use Rattle.markdown_content.proofs.DocumentPlaces.{next, IsNextPlace}
use Rattle.markdown_model.specs.CodeTests.{values_of}
use Rattle.markdown_model.specs.Grammar.{span}
use Rattle.markdown_block_line.proofs.RestValues.{by_bool}
use Rattle.markdown_block_definitions.specs.TextReadings.{is_first, firsts_of}
use Rattle.markdown_block_definitions.specs.TextCopies.{IsSpot, IsRead, IsPlainRun, codes_left, point_of, spot_place}
use Rattle.markdown_block_definitions.specs.declared.copy.Spot.{Spot}
use Rattle.markdown_block_model.specs.LineRests.{lines_of, onto_line}
use Rattle.markdown_html_model.specs.Escaped.{escaped, replaced}
use Rattle.markdown_html_model.specs.Html.{Page}
use Rattle.markdown_page_model.specs.PageTexts.{text_of, is_later_column, ending, own_ending, line_html, lines_html, block_ending}
use Rattle.markdown_page.specs.CodeLines.{text_as, kept}
use Rattle.markdown_page.specs.LinesByCode.{lines_from}
use Rattle.markdown_page.specs.declared.html.Line.{Line}
use Rattle.markdown_page.proofs.LineTexts.{text_as-append, text-later, text-first, keeps, drops, span-pass, span-stop, plain-value}

-- Marks.

head-of : (a b : Bool) (xs ys : List Bool) → a ∷ xs ≡ b ∷ ys → a ≡ b
head-of a b xs ys e = cc

tail-of : (a b : Bool) (xs ys : List Bool) → a ∷ xs ≡ b ∷ ys → xs ≡ ys
tail-of a b xs ys e = cc

some-of : (a : Bool) (xs : List Bool) → a ∷ xs ≡ [] → ⊥
some-of a xs e = omega (arith, ap length e)

first-above : (c : Code) (cs : List Code) → list_all (λ d. nat_lt 13 d.value) (c ∷ cs) ≡ true → nat_lt 13 c.value ≡ true
first-above c cs e = grind (arith, e)

rest-above : (c : Code) (cs : List Code) → list_all (λ d. nat_lt 13 d.value) (c ∷ cs) ≡ true → list_all (λ d. nat_lt 13 d.value) cs ≡ true
rest-above c cs e = grind (arith, e)

-- A line that is not ended.

abbrev has_no_ending : List Code → Bool
has_no_ending [] = true
has_no_ending (c ∷ cs) = not (is_line_ending c) && has_no_ending cs

abbrev all_later : List Code → Bool
all_later [] = true
all_later (c ∷ cs) = is_later_column c && all_later cs

-- these codes before the first line
abbrev prefixed : List Code → List (List Code) → List (List Code)
prefixed xs [] = xs ∷ []
prefixed xs (l ∷ ls) = (xs ++ l) ∷ ls

prefixed-twice : (xs : List Code) (c : Code) (ls : List (List Code)) → prefixed xs (prefixed (c ∷ []) ls) ≡ prefixed (xs ++ c ∷ []) ls
prefixed-twice xs c [] = refl
prefixed-twice xs c (l ∷ ls) = ap (λ (x : List Code). x ∷ ls) (sym (append_assoc xs (c ∷ []) l))

lines-ending : (c : Code) (cs : List Code) → is_line_ending c ≡ true → lines_of (c ∷ cs) ≡ (c ∷ []) ∷ lines_of cs
lines-ending c cs e = by-lines (lines_of cs)
  where
    by-lines : (ls : List (List Code)) → onto_line c ls ≡ (c ∷ []) ∷ ls
    by-lines [] = refl
    by-lines (l ∷ ls) = rw e refl

lines-other : (c : Code) (cs : List Code) → is_line_ending c ≡ false → lines_of (c ∷ cs) ≡ prefixed (c ∷ []) (lines_of cs)
lines-other c cs e = by-lines (lines_of cs)
  where
    by-lines : (ls : List (List Code)) → onto_line c ls ≡ prefixed (c ∷ []) ls
    by-lines [] = refl
    by-lines (l ∷ ls) = rw e refl

-- the ending of a line, behind codes that do not end it
ended-line : (xs cs : List Code) → has_no_ending xs ≡ true → span (λ d. not (is_line_ending d)) (xs ++ cs) ≡ (xs ++ (span (λ d. not (is_line_ending d)) cs).0, (span (λ d. not (is_line_ending d)) cs).1)
ended-line [] cs e = refl
ended-line (x ∷ xs) cs e =
    let f : not (is_line_ending x) ≡ true = grind (arith, e) in
    let g : has_no_ending xs ≡ true = grind (arith, e) in
    span-pass (λ d. not (is_line_ending d)) x (xs ++ cs) f ∙ ap (λ (s : List Code × List Code). (x ∷ s.0, s.1)) (ended-line xs cs g)

no-ending-more : (xs : List Code) (c : Code) → has_no_ending xs ≡ true → is_line_ending c ≡ false → has_no_ending (xs ++ c ∷ []) ≡ true
no-ending-more [] c e f = rw f refl
no-ending-more (x ∷ xs) c e f =
    let g : not (is_line_ending x) ≡ true = grind (arith, e) in
    let h : has_no_ending xs ≡ true = grind (arith, e) in
    let k : has_no_ending (xs ++ c ∷ []) ≡ true = no-ending-more xs c h f in
    rw (g, k) refl

later-more : (xs : List Code) (c : Code) → all_later (xs ++ c ∷ []) ≡ (all_later xs && is_later_column c)
later-more [] c = by_bool (is_later_column c) (λ (e : is_later_column c ≡ true). rw e refl) (λ (e : is_later_column c ≡ false). rw e refl)
later-more (x ∷ xs) c = by_bool (is_later_column x)
    (λ (e : is_later_column x ≡ true). rw e (later-more xs c))
    (λ (e : is_later_column x ≡ false). rw e refl)

kept-more : (xs : List Code) (c : Code) → values_of (kept (xs ++ c ∷ [])) ≡ values_of (kept xs) ++ (if not (is_later_column c) then c.value ∷ [] else [])
kept-more [] c = by_bool (is_later_column c)
    (λ (e : is_later_column c ≡ true). drops c [] e ∙ ap (λ (b : Bool). if not b then c.value ∷ [] else []) (sym e))
    (λ (e : is_later_column c ≡ false). keeps c [] e ∙ ap (λ (b : Bool). if not b then c.value ∷ [] else []) (sym e))
kept-more (x ∷ xs) c = by_bool (is_later_column x)
    (λ (e : is_later_column x ≡ true). drops x (xs ++ c ∷ []) e ∙ kept-more xs c ∙ ap (λ (ys : List ℕ). ys ++ (if not (is_later_column c) then c.value ∷ [] else [])) (sym (drops x xs e)))
    (λ (e : is_later_column x ≡ false).
    keeps x (xs ++ c ∷ []) e ∙ ap (λ (ys : List ℕ). x.value ∷ ys) (kept-more xs c)
    ∙ ap (λ (ys : List ℕ). ys ++ (if not (is_later_column c) then c.value ∷ [] else [])) (sym (keeps x xs e)))

text-more : (xs : List Code) (c : Code) → text_of (xs ++ c ∷ []) ≡ text_of xs ++ (if all_later xs || not (is_later_column c) then c.value ∷ [] else [])
text-more [] c = by_bool (is_later_column c) (λ (e : is_later_column c ≡ true). text-later c [] e) (λ (e : is_later_column c ≡ false). text-first c [] e ∙ keeps c [] e)
text-more (x ∷ xs) c = by_bool (is_later_column x)
    (λ (e : is_later_column x ≡ true).
    text-later x (xs ++ c ∷ []) e ∙ ap (λ (ys : List ℕ). x.value ∷ ys) (text-more xs c)
    ∙ ap (λ (ys : List ℕ). ys ++ (if all_later xs || not (is_later_column c) then c.value ∷ [] else [])) (sym (text-later x xs e))
    ∙ ap (λ (b : Bool). text_of (x ∷ xs) ++ (if (b && all_later xs) || not (is_later_column c) then c.value ∷ [] else [])) (sym e))
    (λ (e : is_later_column x ≡ false).
    text-first x (xs ++ c ∷ []) e ∙ kept-more (x ∷ xs) c
    ∙ ap (λ (ys : List ℕ). ys ++ (if not (is_later_column c) then c.value ∷ [] else [])) (sym (text-first x xs e))
    ∙ ap (λ (b : Bool). text_of (x ∷ xs) ++ (if (b && all_later xs) || not (is_later_column c) then c.value ∷ [] else [])) (sym e))

-- Lines.

nothing-as : (raw : Bool) → text_as raw [] ≡ []
unfolding escaped replaced
nothing-as true = refl
nothing-as false = refl

as-if : (raw b : Bool) (v : ℕ) → text_as raw (if b then v ∷ [] else []) ≡ (if b then text_as raw (v ∷ []) else [])
as-if raw true v = refl
as-if raw false v = nothing-as raw

-- the line that these codes are so far
abbrev line_of : List Code → Line
line_of xs = record { has_begun = true; is_leading = all_later xs }

module _ (p : Page) (raw : Bool) where
  abbrev whole : List (List Code) → List ℕ
  whole ls = lines_html p (text_as raw) ls

  abbrev fresh : Line
  fresh = record { has_begun = false; is_leading = true }

  last-line : (xs : List Code) → has_no_ending xs ≡ true → whole (xs ∷ []) ≡ text_as raw (text_of xs) ++ own_ending p
  last-line xs e =
      let s = ended-line xs [] e in
      append-nil (line_html p (text_as raw) xs) ∙ ap (line_html p (text_as raw)) (sym (append-nil xs)) ∙ ap (λ (s : List Code × List Code). text_as raw (text_of s.0) ++ ending p s.1) s
      ∙ ap (λ (ys : List Code). text_as raw (text_of ys) ++ own_ending p) (append-nil xs)

  ended : (xs : List Code) (c : Code) → has_no_ending xs ≡ true → is_line_ending c ≡ true
      → line_html p (text_as raw) (xs ++ c ∷ []) ≡ text_as raw (text_of xs) ++ block_ending p (slice_range p.bytes c.start.index c.stop.index)
  ended xs c e f =
      ap (λ (s : List Code × List Code). text_as raw (text_of s.0) ++ ending p s.1) (ended-line xs (c ∷ []) e ∙ ap (λ (s : List Code × List Code). (xs ++ s.0, s.1)) (span-stop (λ d. not (is_line_ending d)) c [] (ap not f)))
      ∙ ap (λ (ys : List Code). text_as raw (text_of ys) ++ block_ending p (slice_range p.bytes c.start.index c.stop.index)) (append-nil xs)

  from-ended : (line : Line) (c : Code) (cs : List Code) → is_line_ending c ≡ true
      → lines_from p raw line (c ∷ cs) ≡ block_ending p (slice_range p.bytes c.start.index c.stop.index) ++ lines_from p raw fresh cs
  from-ended line c cs e = rw e refl

  from-other : (line : Line) (c : Code) (cs : List Code) → is_line_ending c ≡ false
      → lines_from p raw line (c ∷ cs) ≡ (if line.is_leading || not (is_later_column c) then text_as raw (c.value ∷ []) else []) ++ lines_from p raw (record { has_begun = true; is_leading = line.is_leading && is_later_column c }) cs
  from-other line c cs e = rw e refl

  abbrev IsWrittenByCode : List Code → Type 0
  IsWrittenByCode cs = (whole (lines_of cs) ≡ lines_from p raw fresh cs)
      × ((xs : List Code) → has_no_ending xs ≡ true → whole (prefixed xs (lines_of cs)) ≡ text_as raw (text_of xs) ++ lines_from p raw (line_of xs) cs)

  rest-more : (c : Code) (cs : List Code) → IsWrittenByCode cs → IsWrittenByCode (c ∷ cs)
  rest-more c cs more = by_bool (is_line_ending c) at-ending behind
    where
      at-ending : is_line_ending c ≡ true → IsWrittenByCode (c ∷ cs)
      at-ending e =
          let here : List ℕ = block_ending p (slice_range p.bytes c.start.index c.stop.index) in (
            ap whole (lines-ending c cs e) ∙ ap (λ (x : List ℕ). x ++ whole (lines_of cs)) (ended [] c refl e) ∙ ap (λ (x : List ℕ). (x ++ here) ++ whole (lines_of cs)) (nothing-as raw)
                ∙ ap (λ (x : List ℕ). here ++ x) more.0 ∙ sym (from-ended fresh c cs e),
            λ xs f.
                ap (λ (ls : List (List Code)). whole (prefixed xs ls)) (lines-ending c cs e) ∙ ap (λ (x : List ℕ). x ++ whole (lines_of cs)) (ended xs c f e)
                ∙ append_assoc (text_as raw (text_of xs)) here (whole (lines_of cs))
                ∙ ap (λ (x : List ℕ). text_as raw (text_of xs) ++ x) (ap (λ (x : List ℕ). here ++ x) more.0 ∙ sym (from-ended (line_of xs) c cs e)),
          )

      step : (xs : List Code) → has_no_ending xs ≡ true → is_line_ending c ≡ false → (line : Line) → line.is_leading ≡ all_later xs
          → whole (prefixed (xs ++ c ∷ []) (lines_of cs)) ≡ text_as raw (text_of xs) ++ lines_from p raw line (c ∷ cs)
      step xs f e line l =
          let value : List ℕ = if all_later xs || not (is_later_column c) then text_as raw (c.value ∷ []) else [] in
          let text : text_as raw (text_of (xs ++ c ∷ [])) ≡ text_as raw (text_of xs) ++ value =
          ap (text_as raw) (text-more xs c) ∙ text_as-append raw (text_of xs) (if all_later xs || not (is_later_column c) then c.value ∷ [] else [])
          ∙ ap (λ (x : List ℕ). text_as raw (text_of xs) ++ x) (as-if raw (all_later xs || not (is_later_column c)) c.value) in
          let next : Line = record { has_begun = true; is_leading = all_later xs && is_later_column c } in
          more.1 (xs ++ c ∷ []) (no-ending-more xs c f e)
          ∙ ap (λ (x : List ℕ). x ++ lines_from p raw (line_of (xs ++ c ∷ [])) cs) text
          ∙ append_assoc (text_as raw (text_of xs)) value (lines_from p raw (line_of (xs ++ c ∷ [])) cs)
          ∙ ap (λ (b : Bool). text_as raw (text_of xs) ++ (value ++ lines_from p raw (record { has_begun = true; is_leading = b }) cs)) (later-more xs c)
          ∙ ap (λ (b : Bool). text_as raw (text_of xs) ++ ((if b || not (is_later_column c) then text_as raw (c.value ∷ []) else []) ++ lines_from p raw (record { has_begun = true; is_leading = b && is_later_column c }) cs)) (sym l)
          ∙ ap (λ (x : List ℕ). text_as raw (text_of xs) ++ x) (sym (from-other line c cs e))

      behind : is_line_ending c ≡ false → IsWrittenByCode (c ∷ cs)
      behind e = (
        ap whole (lines-other c cs e) ∙ step [] refl e fresh refl ∙ ap (λ (x : List ℕ). x ++ lines_from p raw fresh (c ∷ cs)) (nothing-as raw),
        λ xs f. ap (λ (ls : List (List Code)). whole (prefixed xs ls)) (lines-other c cs e) ∙ ap whole (prefixed-twice xs c (lines_of cs)) ∙ step xs f e (line_of xs) refl,
      )

  rest-is : (cs : List Code) → IsWrittenByCode cs
  rest-is [] = (refl, λ xs e. last-line xs e)
  rest-is (c ∷ cs) = rest-more c cs (rest-is cs)

  -- the HTML of lines, code by code
  pub lines-by-code : (cs : List Code) → lines_from p raw fresh cs ≡ whole (lines_of cs)
  lines-by-code cs = sym (rest-is cs).0

  -- one code
  pub ending-written : (bytes : List ℕ) (s t : Spot) (value : ℕ) (line : Line) (cs : List Code) (before after : List ℕ) → bytes ≡ p.bytes → IsSpot bytes s → s.index < length bytes → is_line_ending_byte (get_or bytes s.index 0) ≡ true
      → (r : IsRead bytes s value t)
      → after ≡ before ++ block_ending p (slice_range bytes s.index (s.index + line_ending_len (get_or bytes s.index 0) (drop (s.index + 1) bytes)))
      → after ++ lines_from p raw fresh cs ≡ before ++ lines_from p raw line (r.code ∷ cs)
  ending-written bytes s t value line cs before after e h lt b r w =
      let q : Point = point_of s h.line h.column in
      let one : IsNextPlace bytes q = next bytes q h.is_point lt in
      let same : r.code ≡ code_here bytes q = let k = sym r.codes ∙ one.codes in cc in
      let ends : is_line_ending r.code ≡ true = ap is_line_ending same ∙ rw b refl in
      let start : r.code.start.index ≡ s.index = ap (λ (c : Code). c.start.index) same in
      let stop : r.code.stop.index ≡ s.index + line_ending_len (get_or bytes s.index 0) (drop (s.index + 1) bytes) = ap (λ (c : Code). c.stop.index) same ∙ rw b refl in
      let text : block_ending p (slice_range bytes s.index (s.index + line_ending_len (get_or bytes s.index 0) (drop (s.index + 1) bytes)))
      ≡ block_ending p (slice_range p.bytes r.code.start.index r.code.stop.index) =
      ap (λ (n : ℕ). block_ending p (slice_range bytes n (s.index + line_ending_len (get_or bytes s.index 0) (drop (s.index + 1) bytes)))) (sym start)
      ∙ ap (λ (n : ℕ). block_ending p (slice_range bytes r.code.start.index n)) (sym stop)
      ∙ ap (λ (bs : List ℕ). block_ending p (slice_range bs r.code.start.index r.code.stop.index)) e in
      ap (λ (x : List ℕ). x ++ lines_from p raw fresh cs) (w ∙ ap (λ (x : List ℕ). before ++ x) text)
      ∙ append_assoc before (block_ending p (slice_range p.bytes r.code.start.index r.code.stop.index)) (lines_from p raw fresh cs)
      ∙ ap (λ (x : List ℕ). before ++ x) (sym (from-ended line r.code cs ends))

  pub other-written : (bytes : List ℕ) (s t : Spot) (value : ℕ) (line : Line) (leading : Bool) (cs : List Code) (before after : List ℕ) → IsSpot bytes s → s.index < length bytes → is_line_ending_byte (get_or bytes s.index 0) ≡ false
      → (r : IsRead bytes s value t) → leading ≡ (line.is_leading && nat_lt 0 s.vs)
      → after ≡ before ++ (if line.is_leading || not (nat_lt 0 s.vs) then text_as raw (value ∷ []) else [])
      → after ++ lines_from p raw (record { has_begun = true; is_leading = leading }) cs ≡ before ++ lines_from p raw line (r.code ∷ cs)
  other-written bytes s t value line leading cs before after h lt b r l w =
      let q : Point = point_of s h.line h.column in
      let one : IsNextPlace bytes q = next bytes q h.is_point lt in
      let same : r.code ≡ code_here bytes q = let k = sym r.codes ∙ one.codes in cc in
      let plain : is_line_ending r.code ≡ false = ap is_line_ending same ∙ plain-value bytes (record { start = (0, 0); end = (0, 0) }) q b in
      let later : is_later_column r.code ≡ nat_lt 0 s.vs = ap (λ (x : ℕ × ℕ). nat_lt 0 x.1) r.starts in
      ap (λ (x : List ℕ). x ++ lines_from p raw (record { has_begun = true; is_leading = leading }) cs) w
      ∙ append_assoc before (if line.is_leading || not (nat_lt 0 s.vs) then text_as raw (value ∷ []) else []) (lines_from p raw (record { has_begun = true; is_leading = leading }) cs)
      ∙ ap (λ (d : Bool). before ++ ((if line.is_leading || not (nat_lt 0 s.vs) then text_as raw (value ∷ []) else []) ++ lines_from p raw (record { has_begun = true; is_leading = d }) cs)) l
      ∙ ap (λ (v : ℕ). before ++ ((if line.is_leading || not (nat_lt 0 s.vs) then text_as raw (v ∷ []) else []) ++ lines_from p raw (record { has_begun = true; is_leading = line.is_leading && nat_lt 0 s.vs }) cs)) (sym r.values)
      ∙ ap (λ (d : Bool). before ++ ((if line.is_leading || not d then text_as raw (r.code.value ∷ []) else []) ++ lines_from p raw (record { has_begun = true; is_leading = line.is_leading && d }) cs)) (sym later)
      ∙ ap (λ (x : List ℕ). before ++ x) (sym (from-other line r.code cs plain))

  -- codes above 13 that are no later columns of a tab
  abbrev in-text : Line
  in-text = record { has_begun = true; is_leading = false }

  one-plain : (line : Line) (c : Code) (cs : List Code) → nat_lt 13 c.value ≡ true → is_first c ≡ true → lines_from p raw line (c ∷ cs) ≡ text_as raw (c.value ∷ []) ++ lines_from p raw in-text cs
  one-plain line c cs big f =
      let other : is_line_ending c ≡ false = grind (arith, nat_tests, big) in
      let first : is_later_column c ≡ false = grind (arith, nat_tests, f) in
      from-other line c cs other
      ∙ ap (λ (b : Bool). (if line.is_leading || not b then text_as raw (c.value ∷ []) else []) ++ lines_from p raw (record { has_begun = true; is_leading = line.is_leading && b }) cs) first
      ∙ whole line.is_leading
    where
      whole : (b : Bool) → (if b || true then text_as raw (c.value ∷ []) else []) ++ lines_from p raw (record { has_begun = true; is_leading = b && false }) cs ≡ text_as raw (c.value ∷ []) ++ lines_from p raw in-text cs
      whole true = refl
      whole false = refl

  step-plain : (line : Line) (c : Code) (codes : List Code) (n : ℕ) (cs : List Code) → list_all (λ c. nat_lt 13 c.value) (c ∷ codes) ≡ true → firsts_of (c ∷ codes) ≡ replicate (suc n) true
      → lines_from p raw in-text (codes ++ cs) ≡ text_as raw (values_of codes) ++ lines_from p raw in-text cs
      → lines_from p raw line (c ∷ codes ++ cs) ≡ text_as raw (values_of (c ∷ codes)) ++ lines_from p raw in-text cs
  step-plain line c codes n cs a f e =
      one-plain line c (codes ++ cs) (first-above c codes a) (head-of (is_first c) true (firsts_of codes) (replicate n true) f) ∙ ap (λ (x : List ℕ). text_as raw (c.value ∷ []) ++ x) e
      ∙ sym (append_assoc (text_as raw (c.value ∷ [])) (text_as raw (values_of codes)) (lines_from p raw in-text cs))
      ∙ ap (λ (x : List ℕ). x ++ lines_from p raw in-text cs) (sym (text_as-append raw (c.value ∷ []) (values_of codes)))

  more-plain : (codes : List Code) (n : ℕ) (cs : List Code) → list_all (λ c. nat_lt 13 c.value) codes ≡ true → firsts_of codes ≡ replicate n true
      → lines_from p raw in-text (codes ++ cs) ≡ text_as raw (values_of codes) ++ lines_from p raw in-text cs
  more-plain [] n cs a f = ap (λ (x : List ℕ). x ++ lines_from p raw in-text cs) (sym (nothing-as raw))
  more-plain (c ∷ codes) zero cs a f = absurd (some-of (is_first c) (firsts_of codes) f)
  more-plain (c ∷ codes) (suc n) cs a f = step-plain in-text c codes n cs a f (more-plain codes n cs (rest-above c codes a) (tail-of (is_first c) true (firsts_of codes) (replicate n true) f))

  pub plain-written : (bytes : List ℕ) (piece : Piece) (s t : Spot) (line : Line) (cs : List Code) (before after : List ℕ) → (r : IsPlainRun bytes piece s t) → s.index < t.index
      → after ≡ before ++ text_as raw (slice_range bytes s.index t.index)
      → after ++ lines_from p raw in-text (codes_left bytes piece (spot_place t) ++ cs) ≡ before ++ lines_from p raw line (codes_left bytes piece (spot_place s) ++ cs)
  plain-written bytes piece s t line cs before after r l w =
      let rest : List Code = codes_left bytes piece (spot_place t) ++ cs in
      ap (λ (x : List ℕ). x ++ lines_from p raw in-text rest) (w ∙ ap (λ (x : List ℕ). before ++ text_as raw x) (sym r.values))
      ∙ append_assoc before (text_as raw (values_of r.codes)) (lines_from p raw in-text rest)
      ∙ ap (λ (x : List ℕ). before ++ x) (sym (run r.codes (t.index - s.index) r.above r.firsts (omega (arith, l))))
      ∙ ap (λ (x : List Code). before ++ lines_from p raw line x) (sym (append_assoc r.codes (codes_left bytes piece (spot_place t)) cs) ∙ ap (λ (x : List Code). x ++ cs) (sym r.left))
    where
      run : (codes : List Code) (n : ℕ) → list_all (λ c. nat_lt 13 c.value) codes ≡ true → firsts_of codes ≡ replicate n true → 0 < n
          → lines_from p raw line (codes ++ (codes_left bytes piece (spot_place t) ++ cs)) ≡ text_as raw (values_of codes) ++ lines_from p raw in-text (codes_left bytes piece (spot_place t) ++ cs)
      run codes zero a f l = absurd (omega (arith, l))
      run [] (suc n) a f l = absurd (some-of true (replicate n true) (sym f))
      run (c ∷ codes) (suc n) a f l = step-plain line c codes n _ a f (more-plain codes n _ (rest-above c codes a) (tail-of (is_first c) true (firsts_of codes) (replicate n true) f))
