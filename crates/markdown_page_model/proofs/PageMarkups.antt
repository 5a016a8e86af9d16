-- Own markup of a page put together.
use Rattle.std.proofs.Common.{◌≡◌, ◌∙◌, sym, ap, refl, ℕ, Bool, List, [], ◌++◌, append-nil, append_assoc, codes}
use Rattle.markdown_html_model.specs.OwnMarkup.{nothing as no_markup, text_then, bytes_of, HasNoMarkup, IsOwnMarkup}
use Rattle.markdown_page_model.specs.PageMarkup.{TextElement, BlockElement, PageMarkup, nothing, markup_then, break_then, text_element_then, block_element_then, text_element_bytes, block_element_bytes, page_bytes, IsOwnTextElement, IsOwnPageMarkup, IsOwnPage}

joined : PageMarkup → PageMarkup → PageMarkup
joined nothing n = n
joined (markup_then markup rest) n = markup_then markup (joined rest n)
joined (break_then rest) n = break_then (joined rest n)
joined (text_element_then element inside rest) n = text_element_then element inside (joined rest n)
joined (block_element_then element inside rest) n = block_element_then element inside (joined rest n)

onto : (x a b c : List ℕ) → a ++ b ≡ c → (x ++ a) ++ b ≡ x ++ c
onto x a b c e = append_assoc x a b ∙ ap (λ w. x ++ w) e

joined-bytes : (m n : PageMarkup) → page_bytes m ++ page_bytes n ≡ page_bytes (joined m n)
unfolding joined
joined-bytes nothing n = refl
joined-bytes (markup_then markup rest) n = onto (bytes_of markup) _ _ _ (joined-bytes rest n)
joined-bytes (break_then rest) n = ap (λ w. codes "<hr />" ++ w) (joined-bytes rest n)
joined-bytes (text_element_then element inside rest) n = onto (text_element_bytes element (bytes_of inside)) _ _ _ (joined-bytes rest n)
joined-bytes (block_element_then element inside rest) n = onto (block_element_bytes element (page_bytes inside)) _ _ _ (joined-bytes rest n)

joined-own : (any : Bool) (m n : PageMarkup) → IsOwnPageMarkup any m → IsOwnPageMarkup any n → IsOwnPageMarkup any (joined m n)
unfolding joined
joined-own any nothing n h g = g
joined-own any (markup_then markup rest) n h g = (h.0, joined-own any rest n h.1 g)
joined-own any (break_then rest) n h g = joined-own any rest n h g
joined-own any (text_element_then element inside rest) n h g = (h.0, h.1, joined-own any rest n h.2 g)
joined-own any (block_element_then element inside rest) n h g = (h.0, joined-own any rest n h.1 g)

pub own-nothing : (any : Bool) → IsOwnPage any []
own-nothing any = (nothing, tt, refl)

pub own-append : (any : Bool) (x y : List ℕ) → IsOwnPage any x → IsOwnPage any y → IsOwnPage any (x ++ y)
own-append any x y h g =
    (joined h.0 g.0, joined-own any h.0 g.0 h.1 g.1, ap (λ w. w ++ y) h.2 ∙ ap (λ w. page_bytes h.0 ++ w) g.2 ∙ joined-bytes h.0 g.0)

pub own-markup : (any : Bool) (x : List ℕ) → IsOwnMarkup any x → IsOwnPage any x
own-markup any x h = (markup_then h.0 nothing, (h.1, tt), h.2 ∙ sym (append-nil (bytes_of h.0)))

pub text-markup : (any : Bool) (text : List ℕ) → HasNoMarkup text → IsOwnMarkup any text
text-markup any text h = (text_then text no_markup, (h, tt), sym (append-nil text))

pub own-break : (any : Bool) → IsOwnPage any (codes "<hr />")
own-break any = (break_then nothing, tt, refl)

pub own-text-element : (any : Bool) (element : TextElement) (inside : List ℕ) → IsOwnTextElement element → IsOwnMarkup any inside → IsOwnPage any (text_element_bytes element inside)
own-text-element any element inside h own =
    (text_element_then element own.0 nothing, (h, own.1, tt), ap (text_element_bytes element) own.2 ∙ sym (append-nil (text_element_bytes element (bytes_of own.0))))

pub own-block-element : (any : Bool) (element : BlockElement) (inside : List ℕ) → IsOwnPage any inside → IsOwnPage any (block_element_bytes element inside)
own-block-element any element inside own =
    (block_element_then element own.0 nothing, (own.1, tt), ap (block_element_bytes element) own.2 ∙ sym (append-nil (block_element_bytes element (page_bytes own.0))))
