-- Own markup put together.
use Rattle.std.proofs.Common.{◌≡◌, ◌∙◌, sym, ap, refl, ℕ, Bool, List, [], ◌++◌, append-nil, append_assoc, arith}
use Rattle.markdown_html_model.specs.OwnMarkup.{HoldingElement, Void, Markup, nothing, text_then, void_then, element_then, element_bytes, void_bytes, bytes_of, HasNoMarkup, IsOwn, IsOwnElement, IsOwnVoid, IsOwnMarkup}

joined : Markup → Markup → Markup
joined nothing n = n
joined (text_then text rest) n = text_then text (joined rest n)
joined (void_then void rest) n = void_then void (joined rest n)
joined (element_then element inside rest) n = element_then element inside (joined rest n)

joined-bytes : (m n : Markup) → bytes_of m ++ bytes_of n ≡ bytes_of (joined m n)
unfolding joined
joined-bytes nothing n = refl
joined-bytes (text_then text rest) n = append_assoc text (bytes_of rest) (bytes_of n) ∙ ap (λ x. text ++ x) (joined-bytes rest n)
joined-bytes (void_then void rest) n = append_assoc (void_bytes void) (bytes_of rest) (bytes_of n) ∙ ap (λ x. void_bytes void ++ x) (joined-bytes rest n)
joined-bytes (element_then element inside rest) n = grind (arith, append_assoc, joined-bytes rest n)

joined-own : (any : Bool) (m n : Markup) → IsOwn any m → IsOwn any n → IsOwn any (joined m n)
unfolding joined
joined-own any nothing n h g = g
joined-own any (text_then text rest) n h g = (h.0, joined-own any rest n h.1 g)
joined-own any (void_then void rest) n h g = (h.0, joined-own any rest n h.1 g)
joined-own any (element_then element inside rest) n h g = (h.0, h.1, joined-own any rest n h.2 g)

pub own-nothing : (any : Bool) → IsOwnMarkup any []
own-nothing any = (nothing, tt, refl)

pub own-text : (any : Bool) (text : List ℕ) → HasNoMarkup text → IsOwnMarkup any text
own-text any text h = (text_then text nothing, (h, tt), sym (append-nil text))

pub own-void : (any : Bool) (void : Void) → IsOwnVoid any void → IsOwnMarkup any (void_bytes void)
own-void any void h = (void_then void nothing, (h, tt), sym (append-nil (void_bytes void)))

pub own-element : (any : Bool) (element : HoldingElement) (inside : List ℕ) → IsOwnElement any element → IsOwnMarkup any inside → IsOwnMarkup any (element_bytes element inside)
own-element any element inside h own =
    (element_then element own.0 nothing, (h, own.1, tt), ap (element_bytes element) own.2 ∙ sym (append-nil (element_bytes element (bytes_of own.0))))

pub own-append : (any : Bool) (x y : List ℕ) → IsOwnMarkup any x → IsOwnMarkup any y → IsOwnMarkup any (x ++ y)
own-append any x y h g = grind (arith, joined-own, joined-bytes)
