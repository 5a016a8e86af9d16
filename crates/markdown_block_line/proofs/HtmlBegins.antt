-- What begins HTML, and what ends it, from the parts of a line.
use Rattle.std.proofs.Common.{◌≡◌, ℕ, ◌≤◌, ◌<◌, refl, ap, ◌∙◌, sym, List, [], ◌∷◌, ◌++◌, take, drop, Bool, true, false, ◌&&◌, ◌||◌, not, Some, None, Option, is_some, arith}
use Rattle.std.specs.Prelude.{if◌then◌else◌, ◌==◌, nat_le}
use Rattle.std.specs.List.{list_any, starts_with}
use Rattle.std.proofs.lemmas.Bool.Decides.{nat_tests}
use Rattle.markdown_content.specs.Codes.{Code}
use Rattle.markdown_model.specs.CodeTests.{values_of, is_value, is_letter, next_is}
use Rattle.markdown_model.specs.Grammar.{either, one, word_of, word, ◌then_◌}
use Rattle.markdown_model.specs.HtmlText.{tag_name, open_tag, closing_tag}
use Rattle.markdown_model.specs.GfmAutolinkLiteral.{one_word_of}
use Rattle.markdown_model.proofs.GrammarSteps.{one-not, then-none}
use Rattle.markdown_block_model.specs.LineRests.{trimmed, is_blank_line, only_if}
use Rattle.markdown_block_model.specs.BlockTree.{no_extensions, html}
use Rattle.markdown_block_model.specs.HtmlStarts.{raw_tags, raw_ends, block_tags, is_named, ends_block_tag, is_tag_among, fills_line, begins_raw, begins_block_tag, kind_behind, is_other_tag, kind_of, html_kind, holds_within, ends_html, html_of, html_at}
use Rattle.markdown_block_model.specs.DocumentBlocks.{with_next}
use Rattle.markdown_block_line.specs.LineWords.{is_word, holds_value}
use Rattle.markdown_block_line.proofs.WordReadings.{is_same, word-here, holds-word, holds-one}
use Rattle.markdown_block_line.proofs.TagReadings.{spans-one, spans-then, none-then, word-spans, word-none}

-- Words.

pub empty-end : (cs : List Code) (vs : List ℕ) (b : Bool) → values_of cs ≡ vs → b ≡ starts_with is_same vs (47 ∷ 62 ∷ []) → is_some (word "/>" cs) ≡ b
unfolding word
empty-end cs vs b h e = word-here (47 ∷ 62 ∷ []) cs vs b h e

pub comment-begin : (cs : List Code) (vs : List ℕ) (b : Bool) → values_of cs ≡ vs → b ≡ starts_with is_same vs (33 ∷ 45 ∷ 45 ∷ []) → is_some (word "!--" cs) ≡ b
unfolding word
comment-begin cs vs b h e = word-here (33 ∷ 45 ∷ 45 ∷ []) cs vs b h e

pub instruction-begin : (cs : List Code) (vs : List ℕ) (b : Bool) → values_of cs ≡ vs → b ≡ starts_with is_same vs (63 ∷ []) → is_some (word "?" cs) ≡ b
unfolding word
instruction-begin cs vs b h e = word-here (63 ∷ []) cs vs b h e

pub cdata-begin : (cs : List Code) (vs : List ℕ) (b : Bool) → values_of cs ≡ vs → b ≡ starts_with is_same vs (33 ∷ 91 ∷ 67 ∷ 68 ∷ 65 ∷ 84 ∷ 65 ∷ 91 ∷ []) → is_some (word "![CDATA[" cs) ≡ b
unfolding word
cdata-begin cs vs b h e = word-here (33 ∷ 91 ∷ 67 ∷ 68 ∷ 65 ∷ 84 ∷ 65 ∷ 91 ∷ []) cs vs b h e

mark-is : word "!" ≡ word_of (33 ∷ [])
unfolding word
mark-is = refl

pub declaration-none : (cs : List Code) → next_is (is_value 33) cs ≡ false → is_some ((word "!" then_ one is_letter) cs) ≡ false
declaration-none cs h = ap is_some (then-none (word "!") (one is_letter) cs (word-none 33 (word "!") cs mark-is h))

pub declaration-is : (cs : List Code) (b : Bool) → next_is (is_value 33) cs ≡ true → next_is is_letter (drop 1 cs) ≡ b → is_some ((word "!" then_ one is_letter) cs) ≡ b
declaration-is cs true h e = ap is_some (spans-then (word "!") (one is_letter) cs 0 1 2 (word-spans 33 (word "!") cs 0 mark-is h) (spans-one is_letter cs 1 e)).reads
declaration-is cs false h e = ap is_some (none-then (word "!") (one is_letter) cs 0 1 (word-spans 33 (word "!") cs 0 mark-is h) (one-not is_letter (drop 1 cs) e))

-- The names of tags.

pub among-not : (names : List (List ℕ)) (ends : List Code → Bool) (cs : List Code) (k : ℕ) → tag_name cs ≡ Some (take k cs, drop k cs) → is_named names (take k cs) ≡ false → is_tag_among names ends (tag_name cs) ≡ false
among-not names ends cs k h e = ap (is_tag_among names ends) h ∙ ap (λ b. b && ends (drop k cs)) e

pub among-ends : (names : List (List ℕ)) (ends : List Code → Bool) (cs : List Code) (k : ℕ) → tag_name cs ≡ Some (take k cs, drop k cs) → is_named names (take k cs) ≡ true → is_tag_among names ends (tag_name cs) ≡ ends (drop k cs)
among-ends names ends cs k h e = ap (is_tag_among names ends) h ∙ ap (λ b. b && ends (drop k cs)) e

pub among-any : (names : List (List ℕ)) (cs : List Code) (k : ℕ) → tag_name cs ≡ Some (take k cs, drop k cs) → is_tag_among names (λ rest. true) (tag_name cs) ≡ is_named names (take k cs)
among-any names cs k h = ap (is_tag_among names (λ rest. true)) h ∙ kept (is_named names (take k cs))
  where
    kept : (b : Bool) → (b && true) ≡ b
    kept true = refl
    kept false = refl

pub block-behind : (cs : List Code) (n : ℕ) → n ≡ (if next_is (is_value 47) cs then 1 else 0) → is_tag_among block_tags ends_block_tag (tag_name (drop n cs)) ≡ begins_block_tag cs
block-behind cs n h = ap (λ k. is_tag_among block_tags ends_block_tag (tag_name (drop k cs))) h

-- Kinds.

abbrev kind_by : Bool → Bool → Bool → Bool → Bool → Bool → ℕ
kind_by raw comment instruction declaration cdata block =
    if raw then 1 else (if comment then 2 else (if instruction then 3 else (if declaration then 4 else (if cdata then 5 else (if block then 6 else 0)))))

pub kind-is : (cs : List Code) (a b c d e f : Bool) → begins_raw cs ≡ a → is_some (word "!--" cs) ≡ b → is_some (word "?" cs) ≡ c → is_some ((word "!" then_ one is_letter) cs) ≡ d → is_some (word "![CDATA[" cs) ≡ e
    → begins_block_tag cs ≡ f → kind_behind cs ≡ kind_by a b c d e f
kind-is cs a b c d e f p q r s t u =
    ap (λ v. kind_by v (is_some (word "!--" cs)) (is_some (word "?" cs)) (is_some ((word "!" then_ one is_letter) cs)) (is_some (word "![CDATA[" cs)) (begins_block_tag cs)) p
    ∙ ap (λ v. kind_by a v (is_some (word "?" cs)) (is_some ((word "!" then_ one is_letter) cs)) (is_some (word "![CDATA[" cs)) (begins_block_tag cs)) q
    ∙ ap (λ v. kind_by a b v (is_some ((word "!" then_ one is_letter) cs)) (is_some (word "![CDATA[" cs)) (begins_block_tag cs)) r
    ∙ ap (λ v. kind_by a b c v (is_some (word "![CDATA[" cs)) (begins_block_tag cs)) s
    ∙ ap (λ v. kind_by a b c d v (begins_block_tag cs)) t
    ∙ ap (kind_by a b c d e) u

pub other-none : (cs : List Code) → either (open_tag true) closing_tag cs ≡ None → is_other_tag cs ≡ false
other-none cs h = ap (λ (r : Option (List Code × List Code)). fills_line r && not (is_tag_among raw_tags (λ rest. true) (tag_name (drop 1 cs)))) h

pub other-not : (cs : List Code) (k : ℕ) → either (open_tag true) closing_tag cs ≡ Some (take k cs, drop k cs) → is_blank_line (drop k cs) ≡ false → is_other_tag cs ≡ false
other-not cs k h e =
    ap (λ (r : Option (List Code × List Code)). fills_line r && not (is_tag_among raw_tags (λ rest. true) (tag_name (drop 1 cs)))) h
    ∙ ap (λ b. b && not (is_tag_among raw_tags (λ rest. true) (tag_name (drop 1 cs)))) e

pub other-is : (cs : List Code) (k : ℕ) → either (open_tag true) closing_tag cs ≡ Some (take k cs, drop k cs) → is_blank_line (drop k cs) ≡ true
    → is_other_tag cs ≡ not (is_tag_among raw_tags (λ rest. true) (tag_name (drop 1 cs)))
other-is cs k h e =
    ap (λ (r : Option (List Code × List Code)). fills_line r && not (is_tag_among raw_tags (λ rest. true) (tag_name (drop 1 cs)))) h
    ∙ ap (λ b. b && not (is_tag_among raw_tags (λ rest. true) (tag_name (drop 1 cs)))) e

pub html-none : (cs : List Code) → next_is (is_value 60) cs ≡ false → html_kind cs ≡ 0
html-none cs h = ap (λ b. if b then kind_of (kind_behind (drop 1 cs)) cs else 0) h

pub html-first : (cs : List Code) (k : ℕ) → next_is (is_value 60) cs ≡ true → kind_behind (drop 1 cs) ≡ k → 0 < k → html_kind cs ≡ k
html-first cs k h e l =
    let x : nat_le 1 k ≡ true = grind (arith, nat_tests) in
    ap (λ b. if b then kind_of (kind_behind (drop 1 cs)) cs else 0) h ∙ ap (λ n. kind_of n cs) e ∙ ap (λ b. if b then k else (if is_other_tag cs then 7 else 0)) x

pub html-second : (cs : List Code) (k : ℕ) (b : Bool) → next_is (is_value 60) cs ≡ true → kind_behind (drop 1 cs) ≡ k → k ≤ 0 → is_other_tag cs ≡ b → html_kind cs ≡ (if b then 7 else 0)
html-second cs k b h e l o =
    let x : nat_le 1 k ≡ false = grind (arith, nat_tests) in
    ap (λ b. if b then kind_of (kind_behind (drop 1 cs)) cs else 0) h ∙ ap (λ n. kind_of n cs) e ∙ ap (λ b. if b then k else (if is_other_tag cs then 7 else 0)) x ∙ ap (λ v. if v then 7 else 0) o

-- Ends.

pub ends-raw : (k : ℕ) (cs : List Code) (vs : List ℕ) (b : Bool) → k ≡ 1 → values_of cs ≡ vs → b ≡ holds_value (λ us. list_any (is_word false us) raw_ends) vs → ends_html k cs ≡ b
ends-raw k cs vs b e h f = ap (λ n. ends_html n cs) e ∙ holds-one raw_ends cs vs h ∙ sym f

pub ends-comment : (k : ℕ) (cs : List Code) (vs : List ℕ) (b : Bool) → k ≡ 2 → values_of cs ≡ vs → b ≡ holds_value (λ us. starts_with is_same us (45 ∷ 45 ∷ 62 ∷ [])) vs → ends_html k cs ≡ b
unfolding word
ends-comment k cs vs b e h f = ap (λ n. ends_html n cs) e ∙ holds-word (45 ∷ 45 ∷ 62 ∷ []) cs vs h ∙ sym f

pub ends-instruction : (k : ℕ) (cs : List Code) (vs : List ℕ) (b : Bool) → k ≡ 3 → values_of cs ≡ vs → b ≡ holds_value (λ us. starts_with is_same us (63 ∷ 62 ∷ [])) vs → ends_html k cs ≡ b
unfolding word
ends-instruction k cs vs b e h f = ap (λ n. ends_html n cs) e ∙ holds-word (63 ∷ 62 ∷ []) cs vs h ∙ sym f

pub ends-declaration : (k : ℕ) (cs : List Code) (vs : List ℕ) (b : Bool) → k ≡ 4 → values_of cs ≡ vs → b ≡ holds_value (λ us. starts_with is_same us (62 ∷ [])) vs → ends_html k cs ≡ b
unfolding word
ends-declaration k cs vs b e h f = ap (λ n. ends_html n cs) e ∙ holds-word (62 ∷ []) cs vs h ∙ sym f

pub ends-cdata : (k : ℕ) (cs : List Code) (vs : List ℕ) (b : Bool) → k ≡ 5 → values_of cs ≡ vs → b ≡ holds_value (λ us. starts_with is_same us (93 ∷ 93 ∷ 62 ∷ [])) vs → ends_html k cs ≡ b
unfolding word
ends-cdata k cs vs b e h f = ap (λ n. ends_html n cs) e ∙ holds-word (93 ∷ 93 ∷ 62 ∷ []) cs vs h ∙ sym f

not-kind : (k n : ℕ) → (k ≡ n → ⊥) → (k == n) ≡ false
not-kind k n h = grind (arith, nat_tests)

pub ends-never : (k : ℕ) (cs : List Code) → (k ≡ 1 → ⊥) → (k ≡ 2 → ⊥) → (k ≡ 3 → ⊥) → (k ≡ 4 → ⊥) → (k ≡ 5 → ⊥) → ends_html k cs ≡ false
ends-never k cs a b c d e =
    no (k == 1) (k == 2) (k == 3) (k == 4) (k == 5) (holds_within (one_word_of raw_ends) cs) (holds_within (word "-->") cs) (holds_within (word "?>") cs) (holds_within (word ">") cs) (holds_within (word "]]>") cs)
    (not-kind k 1 a) (not-kind k 2 b) (not-kind k 3 c) (not-kind k 4 d) (not-kind k 5 e)
  where
    no : (a b c d e u v w x y : Bool) → a ≡ false → b ≡ false → c ≡ false → d ≡ false → e ≡ false → (if a then u else (if b then v else (if c then w else (if d then x else (if e then y else false))))) ≡ false
    no a b c d e u v w x y f g h i j =
        ap (λ z. if z then u else (if b then v else (if c then w else (if d then x else (if e then y else false))))) f
        ∙ ap (λ z. if z then v else (if c then w else (if d then x else (if e then y else false)))) g
        ∙ ap (λ z. if z then w else (if d then x else (if e then y else false))) h
        ∙ ap (λ z. if z then x else (if e then y else false)) i ∙ ap (λ z. if z then y else false) j

-- HTML that begins, and a further line of it.

html-by : (a : Bool) (cs : List Code) (k : ℕ) (b : Bool) → html_kind (trimmed cs) ≡ k → not (k == 0 || (k == 7 && a)) ≡ b → html_at a cs ≡ only_if b (html k cs (ends_html k cs))
html-by a cs k b h e = ap (λ n. html_of a n cs) h ∙ ap (λ v. only_if v (html k cs (ends_html k cs))) e

pub html-not : (a : Bool) (cs : List Code) (k : ℕ) (b : Bool) → k ≡ html_kind (trimmed cs) → b ≡ not (k == 0 || (k == 7 && a)) → b ≡ false → html_at a cs ≡ None
html-not a cs k b h e f = html-by a cs k false (sym h) (sym e ∙ f)

pub html-here : (a : Bool) (cs : List Code) (k : ℕ) (b ended : Bool) → k ≡ html_kind (trimmed cs) → b ≡ not (k == 0 || (k == 7 && a)) → b ≡ true → ended ≡ ends_html k cs → html_at a cs ≡ Some (html k cs ended)
html-here a cs k b ended h e f g = html-by a cs k true (sym h) (sym e ∙ f) ∙ ap (λ v. Some (html k cs v)) (sym g)

pub html-ends : (k : ℕ) (text cs : List Code) (b : Bool) → b ≡ (nat_le 6 k && is_blank_line cs) → b ≡ true → with_next no_extensions (html k text false) cs ≡ None
html-ends k text cs b e f = ap (λ v. only_if (not v) (html k (text ++ cs) (ends_html k cs))) (sym e ∙ f)

pub html-goes-on : (k : ℕ) (text cs : List Code) (b ended : Bool) → b ≡ (nat_le 6 k && is_blank_line cs) → b ≡ false → ended ≡ ends_html k cs → with_next no_extensions (html k text false) cs ≡ Some (html k (text ++ cs) ended)
html-goes-on k text cs b ended e f g = ap (λ v. only_if (not v) (html k (text ++ cs) (ends_html k cs))) (sym e ∙ f) ∙ ap (λ v. Some (html k (text ++ cs) v)) (sym g)
