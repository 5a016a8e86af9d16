-- Addresses as they are written are quiet, and safe where they have to be.
use Rattle.std.proofs.Common.{◌≡◌, ◌∙◌, ap, refl, ℕ, Bool, true, false, cond, not, nat_lt, if◌then◌else◌, ◌&&◌, ◌||◌, List, [], ◌∷◌, ◌++◌, drop, codes, arith, inl, inr}
use Rattle.std.specs.List.{filter, prefix_len}
use Rattle.std.proofs.lemmas.Bool.{and_parts}
use Rattle.std.proofs.lemmas.Bool.Decides.{nat_tests}
use Rattle.markdown_html_model.specs.Escaped.{addressed, address_byte}
use Rattle.markdown_html_model.specs.Schemes.{goes_on_scheme, is_listed, is_safe, link_schemes, scheme_of}
use Rattle.markdown_html_model.proofs.NoMarkup.{addressed_quiet}
use Rattle.markdown_html_model.specs.Html.{Page, address}
use Rattle.markdown_html_model.specs.BrowserScheme.{is_control_or_space, is_safe_value, is_scheme_byte, is_tab_or_newline, url_input, url_scheme}
use Rattle.markdown_html_model.specs.OwnMarkup.{IsAddress, HasNoMarkup}
use Rattle.markdown_html_model.proofs.SchemesRead.{before_colon, IsSameIfSome, follows-listed, input-listed, same-follows, scheme_of-is}
use Rattle.markdown_html_model.proofs.ValuesRead.{IsSpelling, address-spelling, address-visible, addressed-spelled, all-visible, ampersands-alone, is_visible, short-spelling, short-visible, short_byte, spelled, value-read}

visible-kept : (c : ℕ) → nat_lt 32 c ≡ true → (not (is_tab_or_newline c) ≡ true) × (is_control_or_space c ≡ false)
visible-kept c h = (grind (arith, nat_tests), grind (arith, nat_tests))

-- the parser of URLs drops nothing
kept : (bs : List ℕ) → is_visible bs ≡ true → filter (λ b. not (is_tab_or_newline b)) bs ≡ bs
kept [] h = refl
kept (c ∷ bs) h =
    let parts = and_parts (nat_lt 32 c) (is_visible bs) h in
    let v = visible-kept c parts.0 in
    ap (λ k. cond k (c ∷ filter (λ b. not (is_tab_or_newline b)) bs) (filter (λ b. not (is_tab_or_newline b)) bs)) v.0
    ∙ ap (λ w. c ∷ w) (kept bs parts.1)

front-kept : (bs : List ℕ) → is_visible bs ≡ true → prefix_len is_control_or_space bs ≡ 0
front-kept [] h = refl
front-kept (c ∷ bs) h = grind (arith, and_parts, visible-kept)

input-is : (bs : List ℕ) → is_visible bs ≡ true → url_input bs ≡ bs
input-is bs h = ap (λ n. filter (λ b. not (is_tab_or_newline b)) (drop n bs)) (front-kept bs h) ∙ kept bs h

-- The scheme of what is written is that of the address.

byte-follows : (b : ℕ) (bytes rest more : List ℕ) → IsSpelling b bytes → IsSameIfSome (before_colon is_scheme_byte rest) (before_colon goes_on_scheme more)
    → IsSameIfSome (before_colon is_scheme_byte (bytes ++ rest)) (before_colon goes_on_scheme (b ∷ more))
byte-follows b bytes rest more (inl e) f = grind (arith, same-follows)
byte-follows b bytes rest more (inr s) f = cc

spelled-follows : (f : ℕ → List ℕ → List ℕ) → ((b : ℕ) (rest : List ℕ) → IsSpelling b (f b rest)) → (a : List ℕ)
    → IsSameIfSome (before_colon is_scheme_byte (spelled f a)) (before_colon goes_on_scheme a)
spelled-follows f each [] = tt
spelled-follows f each (b ∷ rest) = byte-follows b (f b rest) (spelled f rest) rest (each b rest) (spelled-follows f each rest)

spelled-listed : (schemes : List (List ℕ)) (f : ℕ → List ℕ → List ℕ) → ((b : ℕ) (rest : List ℕ) → IsSpelling b (f b rest)) → ((b : ℕ) (rest : List ℕ) → is_visible (f b rest) ≡ true)
    → (a : List ℕ) → is_safe schemes a ≡ true → is_listed schemes (url_scheme (spelled f a)) ≡ true
unfolding is_safe
spelled-listed schemes f spells shows a safe = grind (arith, scheme_of-is, input-is, all-visible, input-listed, follows-listed, spelled-follows)

all-three : (a b c : Bool) → a ≡ true → b ≡ true → c ≡ true → (a && b && c) ≡ true
all-three a b c f g h = ap (λ x. x && b && c) f ∙ ap (λ x. true && x && c) g ∙ ap (λ x. true && true && x) h

spelled-safe : (schemes : List (List ℕ)) (a : List ℕ) → is_safe schemes a ≡ true → is_safe_value schemes (spelled address_byte a) ≡ true
unfolding is_safe_value
spelled-safe schemes a safe =
    all-three _ _ _
    (ampersands-alone a)
    (spelled-listed schemes address_byte address-spelling address-visible a safe)
    (ap (λ w. is_listed schemes (url_scheme w)) (value-read a) ∙ spelled-listed schemes short_byte short-spelling short-visible a safe)

written-safe : (schemes : List (List ℕ)) (a : List ℕ) (any safe : Bool) → any ≡ false → is_safe schemes a ≡ safe → is_safe_value schemes (if any || safe then addressed a else []) ≡ true
unfolding is_safe_value
written-safe schemes a any safe e s = grind (arith, addressed-spelled, spelled-safe)

written-quiet : (a : List ℕ) (c : Bool) → HasNoMarkup (if c then addressed a else [])
written-quiet a true = addressed_quiet a
written-quiet a false = refl

pub any-address : (p : Page) (schemes : List (List ℕ)) (a : List ℕ) → IsAddress true schemes (address p schemes a)
any-address p schemes a = (written-quiet a (p.options.any_link || is_safe schemes a), refl)

pub safe-address : (p : Page) → p.options.any_link ≡ false → (schemes : List (List ℕ)) (a : List ℕ) → IsAddress false schemes (address p schemes a)
safe-address p off schemes a = (written-quiet a (p.options.any_link || is_safe schemes a), written-safe schemes a p.options.any_link (is_safe schemes a) off refl)

-- the address of a footnote is relative
relative-call : (identifier : List ℕ) → is_safe link_schemes (codes "#user-content-fn-" ++ identifier) ≡ true
unfolding is_safe scheme_of
relative-call identifier = refl

pub call-address : (any : Bool) (identifier : List ℕ) → IsAddress any link_schemes (addressed (codes "#user-content-fn-" ++ identifier))
call-address true identifier = (addressed_quiet (codes "#user-content-fn-" ++ identifier), refl)
call-address false identifier =
    let a = codes "#user-content-fn-" ++ identifier in
    (addressed_quiet a, written-safe link_schemes a false true refl (relative-call identifier))
