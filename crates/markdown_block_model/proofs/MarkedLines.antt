-- A marker before each line makes a container of the lines (CommonMark 5.1 and 5.2, the first rule of each).
use Rattle.std.proofs.Common.{◌≡◌, ◌⊎◌, inl, inr, ℕ, suc, ◌+◌, ◌<◌, refl, sym, ap, subst, ◌∙◌, List, [], ◌∷◌, length, drop, Bool, true, false, ◌&&◌, ◌||◌, not, ◌==◌, nat_lt, nat_le, Option, Some, None, if◌then◌else◌, arith}
use Rattle.std.proofs.lemmas.Bool.Decides.{nat_tests}
use Rattle.std.specs.Str.{byte}
use Rattle.std.specs.List.{list_any}
use Rattle.markdown_content.specs.Codes.{Code, is_blank, is_line_ending}
use Rattle.markdown_model.specs.CodeTests.{is_value, is_whitespace_code, next_is}
use Rattle.markdown_model.specs.Grammar.{span}
use Rattle.markdown_block_model.specs.LineRests.{lines_of, indent, trimmed, is_blank_line, past_blank, skip, count_first, trimmed_end, only_if}
use Rattle.markdown_block_model.specs.BlockTree.{Extensions, table, front_matter, footnote, Marker, bullet, Container, quote, item, Leaf, blank, thematic_break, heading, underlined, paragraph, indented_code, fenced_code, html, Tree, nothing, and_leaf, and_container}
use Rattle.markdown_block_model.specs.LeafStarts.{fence_least, is_break, heading_of, heading_at, may_be_info, fence_of, fence_at}
use Rattle.markdown_block_model.specs.HtmlStarts.{kind_of, kind_behind, html_kind, html_of, html_at}
use Rattle.markdown_block_model.specs.ContainerStarts.{label_from, is_closed_label, footnote_at, behind_quote, in_quote, quote_at, ordered_at, or_else, padding, item_by, item_at}
use Rattle.markdown_block_model.specs.Tables.{table_at}
use Rattle.markdown_block_model.specs.BlockStarts.{Begun, leaf_begins, container_begins, leaf_begun, container_begun, first_of, begun_near, begun_far, begun, with_found, with_rest, with_line}
use Rattle.markdown_block_model.specs.DocumentBlocks.{split_last, with_table, with_text_table, with_next, with_next_or_line, with_text_begun, with_text_level, heading_level, with_text_line, with_leaf_line, is_nothing, rest_in_item, rest_inside, with_lazy_line, is_lazy, with_rest_inside, read_line, read_lines}
use Rattle.markdown_block_model.specs.BlockLaws.{GoOn, Each, IsMarked, IsIndented, QuotesHold, ItemsHold}
use Rattle.markdown_block_model.proofs.ContainersHold.{containers_hold}
use Rattle.markdown_block_model.proofs.ContainersTakeACode.{steps_suffice}

span-pass : (p : Code → Bool) (c : Code) (cs : List Code) → p c ≡ true → span p (c ∷ cs) ≡ (c ∷ (span p cs).0, (span p cs).1)
span-pass p c cs e = rw (e, span) refl

span-stop : (p : Code → Bool) (c : Code) (cs : List Code) → p c ≡ false → span p (c ∷ cs) ≡ ([], c ∷ cs)
span-stop p c cs e = rw (e, span) refl

-- a line that is not blank makes of a document what begins with it
filled-line : (e : Extensions) → (cs : List Code) → is_blank_line cs ≡ false → with_line e cs nothing ≡ with_rest e (suc (length cs)) cs nothing
filled-line e cs h = ap (λ v. if v then and_leaf nothing blank else with_rest e (suc (length cs)) cs nothing) h

-- a container that begins with a line, and what is inside it
first-line : (e : Extensions) → (q l : List Code) (c : Container) → is_blank_line q ≡ false → is_blank_line l ≡ false → length l < length q → begun e false false q ≡ Some (container_begins c l)
    → with_line e q nothing ≡ and_container nothing c (with_line e l nothing)
first-line e q l c hq hl shorter h =
    filled-line e q hq
    ∙ ap (with_found (λ rest. with_rest e (length q) rest nothing) q nothing) h
    ∙ ap (and_container nothing c) (steps_suffice e (length q) l nothing shorter)
    ∙ ap (and_container nothing c) (sym (filled-line e l hl))

starts-other : (c : Code) (cs : List Code) → is_whitespace_code c ≡ false → is_blank_line (c ∷ cs) ≡ false
starts-other c cs h = ap (λ v. v && is_blank_line cs) h

-- What holds something holds something behind each line.

found-kept : (inner : List Code → Tree) (cs : List Code) (t : Tree) (o : Option Begun) → is_nothing t ≡ false → is_nothing (with_found inner cs t o) ≡ false
found-kept inner cs t (Some (leaf_begins l)) h = refl
found-kept inner cs t (Some (container_begins c rest)) h = refl
found-kept inner cs t None h = by_test (is_blank_line cs)
  where
    by_test : (b : Bool) → is_nothing (if b then t else and_leaf t (paragraph (trimmed cs))) ≡ false
    by_test true = h
    by_test false = refl

behind-kept : (e : Extensions) → (cs : List Code) (t : Tree) → is_nothing t ≡ false → is_nothing (with_line e cs t) ≡ false
behind-kept e cs t h = by_test (is_blank_line cs)
  where
    by_test : (b : Bool) → is_nothing (if b then and_leaf t blank else with_rest e (suc (length cs)) cs t) ≡ false
    by_test true = refl
    by_test false = found-kept (λ rest. with_rest e (length cs) rest nothing) cs t (begun e false false cs) h

next-kept : (e : Extensions) → (cs : List Code) (t : Tree) (l : Leaf) (o : Option Leaf) → is_nothing (with_next_or_line e cs t l o) ≡ false
next-kept e cs t l (Some next) = refl
next-kept e cs t l None = behind-kept e cs (and_leaf t l) refl

kept-behind : (t : Tree) (lines : List Code) (l : Leaf) → is_nothing (with_table t lines l) ≡ false
kept-behind t [] l = refl
kept-behind t (c ∷ cs) l = refl

table-kept : (cs : List Code) (t : Tree) (text : List Code) (o : Option Leaf) → is_nothing (with_text_table cs t text o) ≡ false
table-kept cs t text (Some l) = kept-behind t (split_last (lines_of text)).0 l
table-kept cs t text None = refl

begun-kept : (e : Extensions) → (cs : List Code) (t : Tree) (text : List Code) (o : Option Begun) → is_nothing (with_text_begun e cs t text o) ≡ false
begun-kept e cs t text None = table-kept cs t text (if e.tables then table_at (split_last (lines_of text)).1 cs else None)
begun-kept e cs t text (Some (leaf_begins l)) = refl
begun-kept e cs t text (Some (container_begins c rest)) = refl

level-kept : (e : Extensions) → (cs : List Code) (t : Tree) (text : List Code) (o : Option ℕ) → is_nothing (with_text_level e cs t text o) ≡ false
level-kept e cs t text (Some level) = refl
level-kept e cs t text None = begun-kept e cs t text (begun e true true cs)

text-kept : (e : Extensions) → (has_text : List Code → Bool) (cs : List Code) (t : Tree) (text : List Code) → is_nothing (with_text_line e has_text cs t text) ≡ false
text-kept e has_text cs t text = by_test (is_blank_line cs)
  where
    by_test : (b : Bool) → is_nothing (if b then and_leaf (and_leaf t (paragraph text)) blank else with_text_level e cs t text (heading_level has_text cs text)) ≡ false
    by_test true = refl
    by_test false = level-kept e cs t text (heading_level has_text cs text)

leaf-kept : (e : Extensions) → (has_text : List Code → Bool) (cs : List Code) (t : Tree) (l : Leaf) → is_nothing (with_leaf_line e has_text cs t l) ≡ false
leaf-kept e has_text cs t (paragraph text) = text-kept e has_text cs t text
leaf-kept e has_text cs t blank = next-kept e cs t blank (with_next e blank cs)
leaf-kept e has_text cs t thematic_break = next-kept e cs t thematic_break (with_next e thematic_break cs)
leaf-kept e has_text cs t (heading n text) = next-kept e cs t (heading n text) (with_next e (heading n text) cs)
leaf-kept e has_text cs t (underlined n text) = next-kept e cs t (underlined n text) (with_next e (underlined n text) cs)
leaf-kept e has_text cs t (indented_code ls) = next-kept e cs t (indented_code ls) (with_next e (indented_code ls) cs)
leaf-kept e has_text cs t (fenced_code f info ls ended) = next-kept e cs t (fenced_code f info ls ended) (with_next e (fenced_code f info ls ended) cs)
leaf-kept e has_text cs t (html k text ended) = next-kept e cs t (html k text ended) (with_next e (html k text ended) cs)
leaf-kept e has_text cs t (table columns rows) = next-kept e cs t (table columns rows) (with_next e (table columns rows) cs)
leaf-kept e has_text cs t (front_matter ls) = next-kept e cs t (front_matter ls) (with_next e (front_matter ls) cs)

container-kept : (e : Extensions) → (inner : List Code → Tree) (cs : List Code) (t : Tree) (c : Container) (inside : Tree) (o : Option (List Code)) → is_nothing (with_rest_inside e inner cs t c inside o) ≡ false
container-kept e inner cs t c inside (Some rest) = refl
container-kept e inner cs t c inside None = by_test (is_lazy e cs inside)
  where
    by_test : (b : Bool) → is_nothing (if b then and_container t c (with_lazy_line cs inside) else with_line e cs (and_container t c inside)) ≡ false
    by_test true = refl
    by_test false = behind-kept e cs (and_container t c inside) refl

line-kept : (e : Extensions) → (has_text : List Code → Bool) (cs : List Code) (t : Tree) → is_nothing t ≡ false → is_nothing (read_line e has_text cs t) ≡ false
line-kept e has_text cs nothing h = absurd (cc)
line-kept e has_text cs (and_leaf before l) h = leaf-kept e has_text cs before l
line-kept e has_text cs (and_container before c inside) h =
    container-kept e (λ rest. read_line e has_text rest inside) cs before c inside (rest_inside c inside cs)

-- and nothing holds something behind a line that is not blank
found-holds : (inner : List Code → Tree) (cs : List Code) (o : Option Begun) → is_blank_line cs ≡ false → is_nothing (with_found inner cs nothing o) ≡ false
found-holds inner cs (Some (leaf_begins l)) h = refl
found-holds inner cs (Some (container_begins c rest)) h = refl
found-holds inner cs None h = ap (λ v. is_nothing (if v then nothing else and_leaf nothing (paragraph (trimmed cs)))) h

line-holds : (e : Extensions) → (cs : List Code) → is_blank_line cs ≡ false → is_nothing (with_line e cs nothing) ≡ false
line-holds e cs h = ap is_nothing (filled-line e cs h) ∙ found-holds (λ rest. with_rest e (length cs) rest nothing) cs (begun e false false cs) h

-- Quotes.

quoted : (m s : Code) (l : List Code) → m.value ≡ byte ">" → is_blank s ≡ true → behind_quote (m ∷ s ∷ l) ≡ Some l
quoted m s l h b =
    let other : is_blank m ≡ false = ap (λ n. n == 32 || n == 9) h in
    let marks : is_value (byte ">") m ≡ true = ap (λ n. n == byte ">") h in
    ap (λ (x : List Code × List Code). only_if (nat_lt (length x.0) 4 && next_is (is_value (byte ">")) x.1) (skip 1 (drop 1 x.1))) (span-stop is_blank m (s ∷ l) other)
    ∙ ap (λ v. only_if v (past_blank (s ∷ l))) marks
    ∙ ap (λ v. Some (if v then l else s ∷ l)) b

goes-on-quote : (q l : List Code) → IsMarked (byte ">") q l → behind_quote q ≡ Some l
goes-on-quote q l h = ap behind_quote h.whole ∙ quoted h.marker h.space l h.marks h.is_space

go-on-quote : (e : Extensions) → (has_text : List Code → Bool) (inside : Tree) (qs ls : List (List Code)) → Each (IsMarked (byte ">")) qs ls → GoOn e has_text quote inside qs ls
go-on-quote e has_text inside [] [] h = tt
go-on-quote e has_text inside [] (l ∷ ls) h = absurd h
go-on-quote e has_text inside (q ∷ qs) [] h = absurd h
go-on-quote e has_text inside (q ∷ qs) (l ∷ ls) h = (goes-on-quote q l h.0, go-on-quote e has_text (read_line e has_text l inside) qs ls h.1)

first-quote : (o : Option (List Code)) (bs : List (Option Begun)) (l : List Code) → o ≡ Some l → first_of (container_begun (in_quote o) ∷ bs) ≡ Some (container_begins quote l)
first-quote o bs l h = ap (λ v. first_of (container_begun (in_quote v) ∷ bs)) h

marked-indent : (m : Code) (cs : List Code) → is_blank m ≡ false → indent (m ∷ cs) ≡ 0
marked-indent m cs h = ap (λ (x : List Code × List Code). length x.0) (span-stop is_blank m cs h)

marked-trimmed : (m : Code) (cs : List Code) → is_blank m ≡ false → trimmed (m ∷ cs) ≡ m ∷ cs
marked-trimmed m cs h = ap (λ (x : List Code × List Code). x.1) (span-stop is_blank m cs h)

begun-behind : (e : Extensions) → (m : Code) (cs : List Code) → is_blank m ≡ false → begun e false false (m ∷ cs) ≡ begun_near e false false (m ∷ cs)
begun-behind e m cs h = ap (λ n. if nat_lt n 4 then begun_near e false false (m ∷ cs) else begun_far false (m ∷ cs)) (marked-indent m cs h)

quote-begins : (e : Extensions) → (m s : Code) (l : List Code) → m.value ≡ byte ">" → is_blank s ≡ true → begun e false false (m ∷ s ∷ l) ≡ Some (container_begins quote l)
quote-begins e m s l h b =
    begun-behind e m (s ∷ l) (ap (λ n. n == 32 || n == 9) h) ∙ first-quote (behind_quote (m ∷ s ∷ l)) _ l (quoted m s l h b)

pub quotes_hold : QuotesHold
quotes_hold e has_text q l qs ls h hs f =
    ap (read_lines e has_text qs) (ap (λ x. with_line e x nothing) h.whole ∙ first-line e (h.marker ∷ h.space ∷ l) l quote filled f (omega arith) (quote-begins e h.marker h.space l h.marks h.is_space))
    ∙ containers_hold e has_text quote qs ls nothing (with_line e l nothing) (go-on-quote e has_text (with_line e l nothing) qs ls hs)
  where
    filled : is_blank_line (h.marker ∷ h.space ∷ l) ≡ false
    filled = starts-other h.marker (h.space ∷ l) (ap (λ n. (n == 32 || n == 9) || n == 10) h.marks)

-- Items.

-- a value that begins nothing else than a break or an item
record BeginsAnItem (v : ℕ) : Type 0 where
  is_bullet : (v == byte "-" || (v == byte "+" || v == byte "*")) ≡ true
  no_blank : (v == 32 || v == 9) ≡ false
  no_whitespace : ((v == 32 || v == 9) || v == 10) ≡ false
  no_quote : (v == byte ">") ≡ false
  no_heading : (v == byte "#") ≡ false
  no_tilde : (v == byte "~") ≡ false
  no_accent : (v == byte "`") ≡ false
  no_tag : (v == byte "<") ≡ false
  no_dollar : (v == byte "$") ≡ false
  no_bracket : (v == byte "[") ≡ false

bullets : (v : ℕ) → (v ≡ byte "-") ⊎ ((v ≡ byte "+") ⊎ (v ≡ byte "*")) → BeginsAnItem v
bullets v (inl h) = subst BeginsAnItem (sym h) (record { is_bullet = refl; no_blank = refl; no_whitespace = refl; no_quote = refl; no_heading = refl; no_tilde = refl; no_accent = refl; no_tag = refl; no_dollar = refl; no_bracket = refl })
bullets v (inr (inl h)) = subst BeginsAnItem (sym h) (record { is_bullet = refl; no_blank = refl; no_whitespace = refl; no_quote = refl; no_heading = refl; no_tilde = refl; no_accent = refl; no_tag = refl; no_dollar = refl; no_bracket = refl })
bullets v (inr (inr h)) = subst BeginsAnItem (sym h) (record { is_bullet = refl; no_blank = refl; no_whitespace = refl; no_quote = refl; no_heading = refl; no_tilde = refl; no_accent = refl; no_tag = refl; no_dollar = refl; no_bracket = refl })

and-false : (b : Bool) → (b && false) ≡ false
and-false true = refl
and-false false = refl

same-either : (b : Bool) (n : ℕ) → (if b then n else n) ≡ n
same-either true n = refl
same-either false n = refl

no-heading : (m : Code) (cs : List Code) → is_value (byte "#") m ≡ false → heading_at (m ∷ cs) ≡ None
no-heading m cs h = ap (λ (x : List Code × List Code). heading_of (length x.0) (drop (length x.0) (m ∷ cs))) (span-stop (is_value (byte "#")) m cs h)

no-fence : (e : Extensions) → (n count : ℕ) (info : List Code) → (n == byte "~") ≡ false → (n == byte "`") ≡ false → (n == byte "$") ≡ false → fence_of e 0 n count info ≡ None
no-fence e n count info h k d =
    let code : Leaf = fenced_code (record { value = n; count = count; columns = 0 }) (trimmed_end (trimmed info)) [] false in
    let barred : may_be_info e n info ≡ false =
    ap (λ v. v || ((n == byte "`" || (e.math && n == byte "$")) && not (list_any (is_value n) info))) h
    ∙ ap (λ v. (v || (e.math && n == byte "$")) && not (list_any (is_value n) info)) k
    ∙ ap (λ v. (e.math && v) && not (list_any (is_value n) info)) d
    ∙ ap (λ v. v && not (list_any (is_value n) info)) (and-false e.math) in
    ap (λ v. only_if (nat_le (fence_least n) count && v) code) barred ∙ ap (λ v. only_if v code) (and-false (nat_le (fence_least n) count))

no-footnote : (on : Bool) (m : Code) (cs : List Code) → is_value (byte "[") m ≡ false → (if on then footnote_at (m ∷ cs) else None) ≡ None
no-footnote false m cs h = refl
no-footnote true m cs h =
    let found = label_from false (drop 2 (m ∷ cs)) in
    ap (λ v. only_if ((v && next_is (is_value (byte "^")) cs) && is_closed_label found) (footnote found.0, trimmed (drop 2 found.1))) h

no-html : (m : Code) (cs : List Code) → is_value (byte "<") m ≡ false → html_kind (m ∷ cs) ≡ 0
no-html m cs h = ap (λ v. if v then kind_of (kind_behind cs) (m ∷ cs) else 0) h

first-item : (a g i : Option (Container × List Code)) (h f x : Option Leaf) (b : Bool) (c : Container) (l : List Code)
    → a ≡ None → h ≡ None → f ≡ None → x ≡ None → b ≡ false → g ≡ None → i ≡ Some (c, l)
    → first_of (container_begun a ∷ leaf_begun h ∷ leaf_begun f ∷ leaf_begun x ∷ leaf_begun (only_if b thematic_break) ∷ container_begun g ∷ container_begun i ∷ []) ≡ Some (container_begins c l)
first-item a g i h f x b c l e1 e2 e3 e4 e5 e6 e7 = rw (e1, e2, e3, e4, e5, e6, e7) refl

item-padding : (s c : Code) (l : List Code) → is_blank s ≡ true → is_blank c ≡ false → padding (s ∷ c ∷ l) ≡ 1
item-padding s c l b o =
    let one : indent (s ∷ c ∷ l) ≡ 1 = ap (λ (x : List Code × List Code). length x.0) (span-pass is_blank s (c ∷ l) b) ∙ ap suc (marked-indent c l o) in
    ap (λ n. if (is_blank_line (s ∷ c ∷ l) || nat_le 5 n) then 1 else n) one ∙ same-either (is_blank_line (s ∷ c ∷ l) || nat_le 5 1) 1

item-here : (v : ℕ) (m s c : Code) (l : List Code) → BeginsAnItem v → m.value ≡ v → is_blank s ≡ true → is_blank c ≡ false
    → item_at false 0 (m ∷ s ∷ c ∷ l) ≡ Some (item (bullet v) 2, c ∷ l)
item-here v m s c l i h b o =
    let q = m ∷ s ∷ c ∷ l in
    let after = s ∷ c ∷ l in
    ap (λ n. item_by false 0 q (or_else (only_if (n == byte "-" || (n == byte "+" || n == byte "*")) (bullet n, 1)) (ordered_at q))) h
    ∙ ap (λ w. item_by false 0 q (or_else (only_if w (bullet v, 1)) (ordered_at q))) i.is_bullet
    ∙ ap (λ w. only_if ((w || is_line_ending s) && true) (item (bullet v) (1 + padding after), skip (padding after) after)) b
    ∙ ap (λ n. Some (item (bullet v) (1 + n), skip n after)) (item-padding s c l b o)
    ∙ ap (λ w. Some (item (bullet v) 2, if w then c ∷ l else after)) b

item-begins : (e : Extensions) → (v : ℕ) (m s c : Code) (l : List Code) → BeginsAnItem v → m.value ≡ v → is_blank s ≡ true → is_whitespace_code c ≡ false → is_break (m ∷ s ∷ c ∷ l) ≡ false
    → begun e false false (m ∷ s ∷ c ∷ l) ≡ Some (container_begins (item (bullet v) 2) (c ∷ l))
item-begins e v m s c l i h b w k =
    let q : List Code = m ∷ s ∷ c ∷ l in
    let rest : List Code = s ∷ c ∷ l in
    let other : is_blank m ≡ false = ap (λ n. n == 32 || n == 9) h ∙ i.no_blank in
    let still : trimmed q ≡ q = marked-trimmed m rest other in
    let columns : indent q ≡ 0 = marked-indent m rest other in
    let is_none : behind_quote q ≡ None =
    ap (λ (x : List Code × List Code). only_if (nat_lt (length x.0) 4 && next_is (is_value (byte ">")) x.1) (skip 1 (drop 1 x.1))) (span-stop is_blank m rest other)
    ∙ ap (λ n. only_if (n == byte ">") (skip 1 rest)) h ∙ ap (λ v. only_if v (skip 1 rest)) i.no_quote in
    let not_blank : is_blank c ≡ false = or-left (is_blank c) (is_line_ending c) w in
    begun-behind e m rest other
    ∙ first-item (quote_at q) (if e.footnotes then footnote_at (trimmed q) else None) (item_at false (indent q) (trimmed q)) (heading_at (trimmed q)) (fence_at e (indent q) (trimmed q)) (html_at false q) (is_break (trimmed q)) (item (bullet v) 2) (c ∷ l)
    (ap in_quote is_none)
    (ap heading_at still ∙ no-heading m rest (ap (λ n. n == byte "#") h ∙ i.no_heading))
    (ap (λ n. fence_at e n (trimmed q)) columns ∙ ap (fence_at e 0) still
    ∙ no-fence e m.value (count_first m.value q) (drop (count_first m.value q) q) (ap (λ n. n == byte "~") h ∙ i.no_tilde) (ap (λ n. n == byte "`") h ∙ i.no_accent) (ap (λ n. n == byte "$") h ∙ i.no_dollar))
    (ap (λ x. html_of false (html_kind x) q) still ∙ ap (λ n. html_of false n q) (no-html m rest (ap (λ n. n == byte "<") h ∙ i.no_tag)))
    (ap is_break still ∙ k)
    (ap (λ x. if e.footnotes then footnote_at x else None) still ∙ no-footnote e.footnotes m rest (ap (λ n. n == byte "[") h ∙ i.no_bracket))
    (ap (λ n. item_at false n (trimmed q)) columns ∙ ap (item_at false 0) still ∙ item-here v m s c l i h b not_blank)
  where
    or-left : (a b : Bool) → (a || b) ≡ false → a ≡ false
    or-left true b e = e
    or-left false b e = refl

indented : (m : Marker) (inside : Tree) (a b : Code) (l : List Code) → is_nothing inside ≡ false → is_blank a ≡ true → is_blank b ≡ true
    → rest_inside (item m 2) inside (a ∷ b ∷ l) ≡ Some l
indented m inside a b l n f s =
    let columns : indent (a ∷ b ∷ l) ≡ suc (suc (indent l)) =
    ap (λ (x : List Code × List Code). length x.0) (span-pass is_blank a (b ∷ l) f) ∙ ap (λ (x : List Code × List Code). suc (length x.0)) (span-pass is_blank b l s) in
    let enough : nat_le 2 (indent (a ∷ b ∷ l)) ≡ true = grind (arith, nat_tests) in
    ap (λ v. if (v && is_blank_line (a ∷ b ∷ l)) then None else rest_in_item (nat_le 2 (indent (a ∷ b ∷ l))) 2 (a ∷ b ∷ l)) n
    ∙ ap (λ v. rest_in_item v 2 (a ∷ b ∷ l)) enough
    ∙ ap (λ v. Some (past_blank (if v then b ∷ l else a ∷ b ∷ l))) f
    ∙ ap (λ v. Some (if v then l else b ∷ l)) s

go-on-item : (e : Extensions) → (has_text : List Code → Bool) (m : Marker) (inside : Tree) (qs ls : List (List Code)) → is_nothing inside ≡ false → Each IsIndented qs ls
    → GoOn e has_text (item m 2) inside qs ls
go-on-item e has_text m inside [] [] n h = tt
go-on-item e has_text m inside [] (l ∷ ls) n h = absurd h
go-on-item e has_text m inside (q ∷ qs) [] n h = absurd h
go-on-item e has_text m inside (q ∷ qs) (l ∷ ls) n h = (
  ap (rest_inside (item m 2) inside) h.0.whole ∙ indented m inside h.0.first h.0.second l n h.0.first_blank h.0.second_blank,
  go-on-item e has_text m (read_line e has_text l inside) qs ls (line-kept e has_text l inside n) h.1,
)

pub items_hold : ItemsHold
items_hold e has_text v c q l qs ls is_bullet h other no_break hs =
    ap (read_lines e has_text qs)
    (ap (λ x. with_line e x nothing) h.whole
    ∙ first-line e whole (c ∷ l) (item (bullet v) 2) (starts-other h.marker (h.space ∷ c ∷ l) (ap (λ n. (n == 32 || n == 9) || n == 10) h.marks ∙ i.no_whitespace)) (starts-other c l other) (omega arith)
    (item-begins e v h.marker h.space c l i h.marks h.is_space other (ap is_break (sym h.whole) ∙ no_break)))
    ∙ containers_hold e has_text (item (bullet v) 2) qs ls nothing (with_line e (c ∷ l) nothing) (go-on-item e has_text (bullet v) (with_line e (c ∷ l) nothing) qs ls (line-holds e (c ∷ l) (starts-other c l other)) hs)
  where
    whole : List Code
    whole = h.marker ∷ h.space ∷ c ∷ l

    i : BeginsAnItem v
    i = bullets v is_bullet
