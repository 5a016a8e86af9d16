-- The HTML of a tree of blocks is the writer's own markup.
use Rattle.std.proofs.Common.{◌≡◌, ◌∙◌, sym, ap, refl, subst, ℕ, decimal, Bool, true, false, ◌&&◌, ◌==◌, if◌then◌else◌, List, [], ◌∷◌, ◌++◌, append-nil, append_assoc, arith, codes, None, Some}
use Rattle.std.proofs.lemmas.List.Folds.{list_all-append}
use Rattle.std.specs.Str.{byte}
use Rattle.markdown_content.specs.Codes.{Code}
use Rattle.markdown_content.specs.declared.configuration.ParseOptions.{ParseOptions}
use Rattle.markdown_model.specs.InlineTree.{text_tree}
use Rattle.markdown_model.specs.Setting.{Setting}
use Rattle.markdown_html_model.specs.Escaped.{escaped, replaced, is_no_markup, has_no_markup}
use Rattle.markdown_html_model.specs.Html.{Page, page_of_content, line_ending, raw_html}
use Rattle.markdown_html_model.specs.OwnMarkup.{HasNoMarkup, IsOwnMarkup}
use Rattle.markdown_html_model.specs.Resolved.{resolved}
use Rattle.markdown_html_model.specs.declared.options.HtmlOptions.{HtmlOptions}
use Rattle.markdown_html_model.specs.declared.options.LineEnds.{LineEnds}
use Rattle.markdown_html_model.specs.declared.role.Within.{Within}
use Rattle.markdown_html_model.proofs.HtmlIsOwn.{html-is-own, html-is-safe}
use Rattle.markdown_html_model.proofs.NoMarkup.{escaped_quiet}
use Rattle.markdown_block_model.specs.BlockTree.{Extensions, Marker, bullet, ordered, quote, item, footnote, Leaf, blank, thematic_break, heading, underlined, paragraph, indented_code, fenced_code, html, table, front_matter, Tree, nothing, and_leaf, and_container}
use Rattle.markdown_block_model.specs.LineRests.{lines_of}
use Rattle.markdown_block_model.specs.LinkDefinitions.{document_tree}
use Rattle.markdown_block_model.specs.LooseLists.{are_alike, goes_on_list}
use Rattle.markdown_page_model.specs.PageTexts.{text_of, own_ending, ending, line_html, lines_html, filled, first_word}
use Rattle.markdown_page_model.specs.PageHtml.{Holder, no_item, tight_item, item_of, NextItem, text_html, on_line, code_html, leaf_html, line_begun, is_in_line, setting_behind, leaf_behind, quote_html, is_of_loose_list, list_opening, list_closing, before_item, item_html, tree_html, setting_of, page_of, document_html}
use Rattle.markdown_page_model.specs.PageMarkup as markup
use Rattle.markdown_page_model.specs.PageMarkup.{IsOwnPage}
use Rattle.markdown_page_model.proofs.HeadingLevels.{HasLevel, HaveLevels, document-levels}
use Rattle.markdown_page_model.proofs.PageMarkups.{own-nothing, own-append, own-markup, text-markup, own-break, own-text-element, own-block-element}

-- Lines.

quiet-append : (x y : List ℕ) → HasNoMarkup x → HasNoMarkup y → HasNoMarkup (x ++ y)
quiet-append x y h g = list_all-append is_no_markup x y ∙ ap (λ w. w && has_no_markup y) h ∙ g

quiet-line_ending : (ends : LineEnds) (text : List ℕ) → HasNoMarkup (line_ending ends text)
quiet-line_ending LineEnds.Kept text = escaped_quiet text
quiet-line_ending LineEnds.Lf text = refl
quiet-line_ending LineEnds.CrLf text = refl

quiet-ending : (p : Page) (cs : List Code) → HasNoMarkup (ending p cs)
quiet-ending p [] = quiet-line_ending p.options.line_ends _
quiet-ending p (c ∷ cs) = quiet-line_ending p.options.line_ends _

quiet-lines : (p : Page) (written : List ℕ → List ℕ) → ((text : List ℕ) → HasNoMarkup (written text)) → (ls : List (List Code)) → HasNoMarkup (lines_html p written ls)
quiet-lines p written each [] = refl
quiet-lines p written each (l ∷ ls) = quiet-append (line_html p written l) _ (quiet-append (written _) _ (each _) (quiet-ending p _)) (quiet-lines p written each ls)

quiet-raw : (c : Bool) (text : List ℕ) → c ≡ false → HasNoMarkup (if c then replaced text else escaped text)
quiet-raw c text off = subst (λ c. HasNoMarkup (if c then replaced text else escaped text)) (sym off) (escaped_quiet text)

own-quiet : (any : Bool) (text : List ℕ) → HasNoMarkup text → IsOwnPage any text
own-quiet any text h = own-markup any text (text-markup any text h)

own-ending : (any : Bool) (p : Page) → IsOwnPage any (own_ending p)
own-ending any p = own-quiet any _ (quiet-line_ending p.options.line_ends _)

own-on_line : (any : Bool) (p : Page) (x : List ℕ) → IsOwnPage any x → IsOwnPage any (on_line p x)
own-on_line any p x h = own-append any x (own_ending p) h (own-ending any p)

-- Leaves.

-- raw HTML is off, and the HTML of each text is the writer's own
abbrev pub IsBounded : Bool → Page → Type 0
IsBounded any p = (p.options.raw_html ≡ false) × ((s : Setting) (text : List Code) → IsOwnMarkup any (text_html s p text))

own-code : (any : Bool) (p : Page) (language : List ℕ) (ls : List (List Code)) → IsOwnPage any (code_html p language ls)
own-code any p [] ls = own-on_line any p _ (own-text-element any (markup.code None) _ tt (text-markup any _ (quiet-lines p escaped escaped_quiet ls)))
own-code any p (b ∷ bs) ls =
    own-on_line any p _ (own-text-element any (markup.code (Some (escaped (b ∷ bs)))) _ (escaped_quiet (b ∷ bs)) (text-markup any _ (quiet-lines p escaped escaped_quiet ls)))

own-leaf : (any : Bool) (s : Setting) (p : Page) → IsBounded any p → (leaf : Leaf) → HasLevel leaf → IsOwnPage any (leaf_html s p leaf)
own-leaf any s p b blank g = own-nothing any
own-leaf any s p b thematic_break g = own-on_line any p _ (own-break any)
own-leaf any s p b (heading level text) g = own-on_line any p _ (own-text-element any (markup.heading level) _ g (b.1 s text))
own-leaf any s p b (underlined level text) g = own-on_line any p _ (own-text-element any (markup.heading level) _ g (b.1 s text))
own-leaf any s p b (paragraph text) g = own-on_line any p _ (own-text-element any markup.paragraph _ tt (b.1 s text))
own-leaf any s p b (indented_code ls) g = own-code any p [] (filled ls)
own-leaf any s p b (fenced_code f info ls ended) g = own-code any p (if f.value == byte "$" then codes "math math-display" else first_word (resolved p.decoding (text_of info))) ls
own-leaf any s p b (html kind text ended) g = own-quiet any _ (quiet-lines p (raw_html p Within.Outside) (λ text. quiet-raw p.options.raw_html text b.0) (lines_of text))
own-leaf any s p b (table columns rows) g = own-nothing any
own-leaf any s p b (front_matter ls) g = own-nothing any

-- Siblings.

own-if : (any c : Bool) (x : List ℕ) → IsOwnPage any x → IsOwnPage any (if c then x else [])
own-if any true x h = h
own-if any false x h = own-nothing any

own-line_begun : (any : Bool) (p : Page) (holder : Holder) (before : Tree) → IsOwnPage any (line_begun p holder before)
own-line_begun any p holder before = own-if any (is_in_line holder before) (own_ending p) (own-ending any p)

own-begun : (any : Bool) (s : Setting) (p : Page) → IsBounded any p → (holder : Holder) (before : Tree) (leaf : Leaf) → HasLevel leaf
    → IsOwnPage any (line_begun p holder before ++ leaf_html (setting_behind s holder before leaf) p leaf)
own-begun any s p b holder before leaf g =
    own-append any _ _ (own-line_begun any p holder before) (own-leaf any (setting_behind s holder before leaf) p b leaf g)

own-leaf_behind : (any : Bool) (s : Setting) (p : Page) → IsBounded any p → (holder : Holder) (before : Tree) (leaf : Leaf) → HasLevel leaf → IsOwnPage any (leaf_behind s p holder before leaf)
own-leaf_behind any s p b holder before blank g = own-nothing any
own-leaf_behind any s p b holder before (paragraph []) g = own-nothing any
own-leaf_behind any s p b tight_item before (paragraph (c ∷ cs)) g = own-markup any _ (b.1 (setting_behind s tight_item before (paragraph (c ∷ cs))) (c ∷ cs))
own-leaf_behind any s p b holder before leaf g = own-begun any s p b holder before leaf g

quote-bytes : (a e i c : List ℕ) → ((a ++ (e ++ i)) ++ c) ++ e ≡ ((a ++ e) ++ i) ++ (c ++ e)
quote-bytes a e i c = simp append_assoc

own-quote : (any : Bool) (p : Page) (inside : List ℕ) → IsOwnPage any inside → IsOwnPage any (quote_html p inside)
own-quote any p inside h =
    subst (IsOwnPage any) (quote-bytes (codes "<blockquote>") (own_ending p) inside (codes "</blockquote>"))
    (own-on_line any p _ (own-block-element any markup.quote (own_ending p ++ inside) (own-append any _ inside (own-ending any p) h)))

-- Lists.

own-ordered : (any c : Bool) (n : ℕ) (inside : List ℕ) → IsOwnPage any inside
    → IsOwnPage any (codes "<ol" ++ (if c then [] else codes " start=\"" ++ decimal n ++ codes "\"") ++ codes ">" ++ inside ++ codes "</ol>")
own-ordered any true n inside h = own-block-element any (markup.ordered_list None) inside h
own-ordered any false n inside h = own-block-element any (markup.ordered_list (Some n)) inside h

own-list : (any : Bool) (m : Marker) (inside : List ℕ) → IsOwnPage any inside → IsOwnPage any (list_opening m ++ inside ++ list_closing m)
own-list any (bullet b) inside h = own-block-element any markup.bullet_list inside h
own-list any (ordered d n) inside h = own-ordered any _ n inside h

alike-closing : (m k : Marker) → are_alike m k ≡ true → list_closing k ≡ list_closing m
alike-closing (bullet n) (bullet k) e = refl
alike-closing (ordered d n) (ordered c k) e = refl
alike-closing m k e = grind arith

-- What is before an item is own by itself, or where its list goes on, with what the list still holds and its end.
abbrev pub IsOwnBefore : Bool → Bool → List ℕ → Marker → Type 0
IsOwnBefore any true x m = (y : List ℕ) → IsOwnPage any y → IsOwnPage any (x ++ y ++ list_closing m)
IsOwnBefore any false x m = IsOwnPage any x

goes-on-bytes : (x i y c : List ℕ) → (x ++ (i ++ y)) ++ c ≡ (((x ++ []) ++ i) ++ y) ++ c
goes-on-bytes x i y c = simp (append_assoc, append-nil)

begins-bytes : (x l o e i y c : List ℕ) → (x ++ l) ++ ((o ++ (e ++ (i ++ y))) ++ c) ≡ (((x ++ (l ++ (o ++ e))) ++ i) ++ y) ++ c
begins-bytes x l o e i y c = simp append_assoc

own-begun_item : (any c : Bool) (p : Page) (m : Marker) (x l i y : List ℕ) → IsOwnBefore any c x m → IsOwnPage any l → IsOwnPage any i → IsOwnPage any y
    → IsOwnPage any (x ++ (if c then [] else l ++ on_line p (list_opening m)) ++ i ++ y ++ list_closing m)
own-begun_item any true p m x l i y h k g f = subst (IsOwnPage any) (goes-on-bytes x i y (list_closing m)) (h (i ++ y) (own-append any i y g f))
own-begun_item any false p m x l i y h k g f =
    subst (IsOwnPage any) (begins-bytes x l (list_opening m) (own_ending p) i y (list_closing m))
    (own-append any (x ++ l) _ (own-append any x l h k)
    (own-list any m (own_ending p ++ (i ++ y)) (own-append any _ _ (own-ending any p) (own-append any i y g f))))

ends-bytes : (z c e : List ℕ) → ((z ++ []) ++ c) ++ e ≡ z ++ (c ++ e)
ends-bytes z c e = simp (append_assoc, append-nil)

-- an item with what stands before it, where it may be followed by more of its list
abbrev pub IsOwnItem : Bool → List ℕ → Marker → Type 0
IsOwnItem any z m = (y : List ℕ) → IsOwnPage any y → IsOwnPage any (z ++ y ++ list_closing m)

own-ended : (any : Bool) (p : Page) (z : List ℕ) (m : Marker) → IsOwnItem any z m → IsOwnPage any (z ++ on_line p (list_closing m))
own-ended any p z m h = subst (IsOwnPage any) (ends-bytes z (list_closing m) (own_ending p)) (own-on_line any p _ (h [] (own-nothing any)))

own-followed : (any : Bool) (p : Page) (z : List ℕ) (m k : Marker) (c : Bool) → are_alike k m ≡ c → IsOwnItem any z m
    → IsOwnBefore any c (z ++ (if c then [] else on_line p (list_closing m))) k
own-followed any p z m k true e h =
    λ y g. subst (λ x. IsOwnPage any (x ++ y ++ list_closing k)) (sym (append-nil z)) (subst (λ c. IsOwnPage any (z ++ y ++ c)) (alike-closing k m e) (h y g))
own-followed any p z m k false e h = own-ended any p z m h

-- Trees.

abbrev pub AreOwn : Bool → Setting → Page → Holder → Tree → Type 0
AreOwn any s p holder t =
    IsOwnPage any (tree_html s p holder None t)
    × ((next : NextItem) → IsOwnBefore any (goes_on_list next.marker t) (tree_html s p holder (Some next) t) next.marker)

own-item : (any : Bool) (s : Setting) (p : Page) (holder : Holder) (m : Marker) (loose : Bool) (before : Tree) (inside : List ℕ) → AreOwn any s p holder before → IsOwnPage any inside
    → IsOwnItem any (tree_html s p holder (Some (record { marker = m; is_loose = loose })) before ++ before_item p holder before m ++ item_html p inside) m
own-item any s p holder m loose before inside h g y f =
    own-begun_item any (goes_on_list m before) p m _ (line_begun p holder before) (item_html p inside) y (h.1 (record { marker = m; is_loose = loose }))
    (own-line_begun any p holder before) (own-on_line any p _ (own-block-element any markup.item inside g)) f

own-tree : (any : Bool) (s : Setting) (p : Page) → IsBounded any p → (t : Tree) → HaveLevels t → (holder : Holder) → AreOwn any s p holder t
own-tree any s p b nothing g holder = (own-nothing any, λ next. own-nothing any)
own-tree any s p b (and_leaf before blank) g holder = own-tree any s p b before g.0 holder
own-tree any s p b (and_leaf before leaf) g holder =
    let h = own-append any _ _ (own-tree any s p b before g.0 holder).0 (own-leaf_behind any s p b holder before leaf g.1) in
    (h, λ next. h)
own-tree any s p b (and_container before quote inside) g holder =
    let h = own-append any _ _ (own-append any _ _ (own-tree any s p b before g.0 holder).0 (own-line_begun any p holder before)) (own-quote any p _ (own-tree any s p b inside g.1 no_item).0) in
    (h, λ next. h)
own-tree any s p b (and_container before (footnote label) inside) g holder =
    let h = own-append any _ _ (own-append any _ _ (own-tree any s p b before g.0 holder).0 (own-line_begun any p holder before)) (own-tree any s p b inside g.1 no_item).0 in
    (h, λ next. h)
own-tree any s p b (and_container before (item m columns) inside) g holder =
    let t = and_container before (item m columns) inside in
    let own = λ (loose : Bool). own-item any s p holder m loose before (tree_html s p (item_of loose) None inside) (own-tree any s p b before g.0 holder) (own-tree any s p b inside g.1 (item_of loose)).0 in
    (own-ended any p _ m (own (is_of_loose_list None m t)), λ next. own-followed any p _ m next.marker (are_alike next.marker m) refl (own (is_of_loose_list (Some next) m t)))

pub document-is-own : (reading : ParseOptions) (extensions : Extensions) (options : HtmlOptions) (bytes : List ℕ) → options.raw_html ≡ false → IsOwnPage true (document_html reading extensions options bytes)
unfolding document_html
document-is-own reading extensions options bytes off =
    let p = page_of reading extensions options bytes in
    (own-tree true (setting_of reading extensions bytes) p (off, λ s text. html-is-own (page_of_content text p) [] (text_tree s text) off) (document_tree extensions bytes) (document-levels extensions bytes) no_item).0

pub document-is-safe : (reading : ParseOptions) (extensions : Extensions) (options : HtmlOptions) (bytes : List ℕ) → options.raw_html ≡ false → options.any_link ≡ false
    → IsOwnPage false (document_html reading extensions options bytes)
unfolding document_html
document-is-safe reading extensions options bytes off safe =
    let p = page_of reading extensions options bytes in
    (own-tree false (setting_of reading extensions bytes) p (off, λ s text. html-is-safe (page_of_content text p) [] (text_tree s text) off safe) (document_tree extensions bytes) (document-levels extensions bytes) no_item).0
