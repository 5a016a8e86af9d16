-- The HTML of a tree is the writer's own markup.
use Rattle.std.proofs.Common.{◌≡◌, ◌∙◌, sym, ap, refl, subst, ℕ, decimal, Bool, true, false, if◌then◌else◌, List, [], ◌∷◌, ◌++◌, append-nil, append_assoc, codes, Option, None, Some, arith}
use Rattle.markdown_content.specs.Codes.{stop_of, document_start}
use Rattle.markdown_content.specs.Tree.{Forest, empty, leaf_then, group_then, start_of}
use Rattle.markdown_event.specs.declared.event.Name.{Name}
use Rattle.markdown_event.specs.declared.event.Point.{Point}
use Rattle.markdown_html_model.specs.Escaped.{addressed, escaped, replaced}
use Rattle.markdown_html_model.specs.Resolved.{resolved}
use Rattle.markdown_html_model.specs.Schemes.{link_schemes, image_schemes}
use Rattle.markdown_html_model.proofs.NoMarkup.{addressed_quiet, escaped_quiet}
use Rattle.markdown_html_model.specs.Html.{Page, PartsSoFar, Target, Written, address, around, beside, bytes_from, call_html, call_identifier, call_link, call_suffix, check_html, footnote_number, group_html, html, image_html}
use Rattle.markdown_html_model.specs.Html.{innermost, leaf_html, line_end, line_ending, link_html, own_link, own_link_outside, raw_html, span_html, span_text, tag, target_of, text_html, times_called, title_attribute, within_of, written}
use Rattle.markdown_html_model.specs.Roles.{role_of}
use Rattle.markdown_html_model.specs.declared.options.LineEnds.{LineEnds}
use Rattle.markdown_html_model.specs.declared.role.Role.{Role}
use Rattle.markdown_html_model.specs.declared.role.Within.{Within}
use Rattle.markdown_html_model.specs.OwnMarkup.{emphasis, strong, deleted, code, math, superscript, link, call, line_break, unchecked, checked, image, element_bytes, title_bytes, IsAddress, IsOwnMarkup, HasNoMarkup}
use Rattle.markdown_html_model.proofs.Addresses.{any-address, call-address, safe-address}
use Rattle.markdown_html_model.proofs.Markups.{own-nothing, own-text, own-void, own-element, own-append}

-- where tags are written, what is written is the writer's own
abbrev pub IsOwnIn : Bool → Within → List ℕ → Type 0
IsOwnIn any Within.InText bytes = Unit {0}
IsOwnIn any Within.Outside bytes = IsOwnMarkup any bytes
IsOwnIn any Within.InLink bytes = IsOwnMarkup any bytes

-- raw HTML is off, and each address is one that may be
abbrev pub IsBounded : Bool → Page → Type 0
IsBounded any p =
    (p.options.raw_html ≡ false)
    × ((a : List ℕ) → IsAddress any link_schemes (address p link_schemes a))
    × ((a : List ℕ) → IsAddress any image_schemes (address p image_schemes a))

in-append : (any : Bool) (within : Within) (x y : List ℕ) → IsOwnIn any within x → IsOwnIn any within y → IsOwnIn any within (x ++ y)
in-append any Within.InText x y h g = tt
in-append any within x y h g = own-append any x y h g

in-nothing : (any : Bool) (within : Within) → IsOwnIn any within []
in-nothing any Within.InText = tt
in-nothing any within = own-nothing any

in-kept : (any : Bool) (within : Within) (x : List ℕ) → IsOwnIn any within x → IsOwnIn any within (x ++ [])
in-kept any within x h = subst (IsOwnIn any within) (sym (append-nil x)) h

in-text : (any : Bool) (within : Within) (text : List ℕ) → IsOwnIn any within (text_html within text)
in-text any Within.InText text = tt
in-text any within text = own-text any (escaped text) (escaped_quiet text)

-- Innermost things.

raw-off : (any c : Bool) (text : List ℕ) → c ≡ false → IsOwnMarkup any (if c then replaced text else escaped text)
raw-off any c text off = subst (λ c. IsOwnMarkup any (if c then replaced text else escaped text)) (sym off) (own-text any (escaped text) (escaped_quiet text))

in-raw : (any : Bool) (p : Page) → IsBounded any p → (within : Within) (text : List ℕ) → IsOwnIn any within (raw_html p within text)
in-raw any p b Within.InText text = tt
in-raw any p b within text = raw-off any p.options.raw_html text b.0

untitled-end : (front : List ℕ) → front ++ codes "\"" ++ title_bytes None ++ codes ">" ≡ front ++ codes "\">"
untitled-end front = ap (λ x. x ++ codes ">") (append-nil (front ++ codes "\"")) ∙ append_assoc front (codes "\"") (codes ">")

untitled : (href inside : List ℕ) → element_bytes (link href None) inside ≡ codes "<a href=\"" ++ href ++ codes "\">" ++ inside ++ codes "</a>"
untitled href inside = ap (λ front. front ++ inside ++ codes "</a>") (untitled-end (codes "<a href=\"" ++ href))

own-address : (any : Bool) (p : Page) → IsBounded any p → (before text : List ℕ)
    → IsOwnMarkup any (codes "<a href=\"" ++ address p link_schemes (before ++ text) ++ codes "\">" ++ escaped text ++ codes "</a>")
own-address any p b before text =
    subst (IsOwnMarkup any) (untitled (address p link_schemes (before ++ text)) (escaped text))
    (own-element any (link (address p link_schemes (before ++ text)) None) (escaped text) (b.1 (before ++ text), tt) (own-text any (escaped text) (escaped_quiet text)))

in-own_link : (any : Bool) (p : Page) → IsBounded any p → (within : Within) (before text : List ℕ) → IsOwnIn any within (own_link p within before text)
in-own_link any p b Within.InText before text = tt
in-own_link any p b within before text = own-address any p b before text

in-literal : (any : Bool) (p : Page) → IsBounded any p → (within : Within) (before text : List ℕ) → IsOwnIn any within (own_link_outside p within before text)
in-literal any p b Within.InText before text = tt
in-literal any p b within before text = grind (arith, own-address, own-text, escaped_quiet)

in-break : (any : Bool) (within : Within) → IsOwnIn any within (tag within (codes "<br />"))
in-break any Within.InText = tt
in-break any within = own-void any line_break tt

quiet-line_ending : (ends : LineEnds) (text : List ℕ) → HasNoMarkup (line_ending ends text)
quiet-line_ending LineEnds.Kept text = escaped_quiet text
quiet-line_ending ends text = refl

in-line_end : (any : Bool) (p : Page) (within : Within) (text : List ℕ) → IsOwnIn any within (line_end p within text)
in-line_end any p Within.InText text = tt
in-line_end any p within text = own-text any _ (quiet-line_ending p.options.line_ends text)

in-leaf : (any : Bool) (p : Page) → IsBounded any p → (within : Within) (role : Role) (text : List ℕ) → IsOwnIn any within (leaf_html p within role text)
in-leaf any p b within Role.Plain text = in-text any within text
in-leaf any p b within Role.LineEnd text = in-line_end any p within text
in-leaf any p b within Role.Break text = in-break any within
in-leaf any p b within Role.Raw text = in-raw any p b within text
in-leaf any p b within Role.Uri text = in-own_link any p b within [] text
in-leaf any p b within Role.Email text = in-own_link any p b within (codes "mailto:") text
in-leaf any p b within Role.UriLiteral text = in-literal any p b within [] text
in-leaf any p b within Role.WwwLiteral text = in-literal any p b within (codes "http://") text
in-leaf any p b within Role.EmailLiteral text = in-literal any p b within (codes "mailto:") text
in-leaf any p b within role text = in-nothing any within

-- What holds others.

in-element : (any : Bool) (within : Within) (before after inside : List ℕ) → IsOwnIn any within inside
    → (IsOwnMarkup any inside → IsOwnMarkup any (before ++ inside ++ after)) → IsOwnIn any within (tag within before ++ inside ++ tag within after)
in-element any Within.InText before after inside h f = tt
in-element any within before after inside h f = f h

own-span : (any : Bool) (front text : List ℕ) → ((inside : List ℕ) → IsOwnMarkup any inside → IsOwnMarkup any (front ++ inside ++ codes "</code>")) → IsOwnMarkup any (front ++ escaped text ++ codes "</code>")
own-span any front text f = f (escaped text) (own-text any (escaped text) (escaped_quiet text))

in-span : (any : Bool) (within : Within) (front text : List ℕ) → ((inside : List ℕ) → IsOwnMarkup any inside → IsOwnMarkup any (front ++ inside ++ codes "</code>"))
    → IsOwnIn any within (span_html within front text)
in-span any Within.InText front text f = tt
in-span any within front text f = own-span any front text f

own-link : (any : Bool) (href : List ℕ) (title : Option (List ℕ)) (inside : List ℕ) → IsAddress any link_schemes href → IsOwnMarkup any inside
    → IsOwnMarkup any (codes "<a href=\"" ++ href ++ codes "\"" ++ title_attribute title ++ codes ">" ++ inside ++ codes "</a>")
own-link any href None inside h own = own-element any (link href None) inside (h, tt) own
own-link any href (Some title) inside h own = own-element any (link href (Some (escaped title))) inside (h, escaped_quiet title) own

own-image : (any : Bool) (src : List ℕ) (title : Option (List ℕ)) (alt : List ℕ) → IsAddress any image_schemes src
    → IsOwnMarkup any (codes "<img src=\"" ++ src ++ codes "\" alt=\"" ++ escaped alt ++ codes "\"" ++ title_attribute title ++ codes " />")
own-image any src None alt h = own-void any (image src (escaped alt) None) (h, escaped_quiet alt, tt)
own-image any src (Some title) alt h = own-void any (image src (escaped alt) (Some (escaped title))) (h, escaped_quiet alt, escaped_quiet title)

in-link : (any : Bool) (p : Page) → IsBounded any p → (within : Within) (to : Target) (inside : List ℕ) → IsOwnIn any (within_of within Role.Link) inside → IsOwnIn any within (link_html p within to inside)
in-link any p b Within.InText to inside h = tt
in-link any p b within to inside h = own-link any (address p link_schemes to.destination) to.title inside (b.1 to.destination) h

in-image : (any : Bool) (p : Page) → IsBounded any p → (within : Within) (to : Target) (inside : List ℕ) → IsOwnIn any within (image_html p within to inside)
in-image any p b Within.InText to inside = tt
in-image any p b within to inside = own-image any (address p image_schemes to.destination) to.title inside (b.2 to.destination)

in-check : (any : Bool) (within : Within) (inside : List ℕ) → IsOwnIn any within (check_html within inside)
in-check any Within.InText inside = tt
in-check any within (b ∷ bs) = own-void any checked tt
in-check any within [] = own-void any unchecked tt

own-call : (any : Bool) (identifier : List ℕ) (number times : ℕ) → IsOwnMarkup any (codes "<sup>" ++ call_link identifier number times ++ codes "</sup>")
own-call any identifier number times =
    own-element any superscript (call_link identifier number times) tt
    (own-element any (call (addressed (codes "#user-content-fn-" ++ identifier)) (addressed (codes "user-content-fnref-" ++ identifier ++ call_suffix times))) (escaped (decimal number))
    (call-address any identifier, addressed_quiet _)
    (own-text any (escaped (decimal number)) (escaped_quiet (decimal number))))

in-call : (any : Bool) (within : Within) (identifier : List ℕ) (before : List (List ℕ)) → IsOwnIn any within (call_html within identifier before)
in-call any Within.InText identifier before = tt
in-call any within identifier before = own-call any identifier (footnote_number identifier before) (times_called identifier before)

in-group : (any : Bool) (p : Page) → IsBounded any p →
    (before : List (List ℕ)) (within : Within) (role : Role) (a z : Point) (inside : List ℕ) (parts : PartsSoFar)
    → IsOwnIn any (within_of within role) inside → IsOwnIn any within (group_html p before within role a z inside parts)
in-group any p b before within Role.Code a z inside parts h = in-span any within (codes "<code>") (span_text inside) (λ x own. own-element any code x tt own)
in-group any p b before within Role.Math a z inside parts h =
    in-span any within (codes "<code class=\"language-math math-inline\">") (span_text inside) (λ x own. own-element any math x tt own)
in-group any p b before within Role.Reference a z inside parts h = in-text any within (resolved p.decoding (bytes_from p.bytes a.index z.index))
in-group any p b before within Role.Footnote a z inside parts h = in-call any within (call_identifier p parts.label) before
in-group any p b before within Role.Link a z inside parts h = in-link any p b within (target_of p parts) inside h
in-group any p b before within Role.Image a z inside parts h = in-image any p b within (target_of p parts) inside
in-group any p b before within Role.Check a z inside parts h = in-check any within inside
in-group any p b before within Role.Destination a z inside parts h = in-nothing any within
in-group any p b before within Role.TitleText a z inside parts h = in-nothing any within
in-group any p b before within Role.Resource a z inside parts h = in-nothing any within
in-group any p b before within Role.Tail a z inside parts h = in-nothing any within
in-group any p b before within Role.Emphasis a z inside parts h = in-element any within (codes "<em>") (codes "</em>") inside h (own-element any emphasis inside tt)
in-group any p b before within Role.Strong a z inside parts h = in-element any within (codes "<strong>") (codes "</strong>") inside h (own-element any strong inside tt)
in-group any p b before within Role.Strikethrough a z inside parts h = in-element any within (codes "<del>") (codes "</del>") inside h (own-element any deleted inside tt)
in-group any p b before within role a z inside parts h = in-kept any within inside h

-- Trees.

abbrev pub IsOwnHtml : Bool → Within → Written → Type 0
IsOwnHtml any within w = IsOwnIn any within w.html

own-innermost : (any : Bool) (p : Page) → IsBounded any p → (before : List (List ℕ)) (within : Within) (role : Role) (a z : Point) → IsOwnHtml any within (innermost p before within role a z)
own-innermost any p b before within role a z = grind (arith, in-group, in-leaf)

own-around : (any : Bool) (p : Page) → IsBounded any p → (before : List (List ℕ)) (within : Within) (role : Role) (a z : Point) (w : Written)
    → IsOwnHtml any (within_of within role) w → IsOwnHtml any within (around p before within role a z w)
own-around any p b before within role a z w h = in-group any p b (w.calls ++ before) within role a z w.html w.parts h

-- the HTML of trees is the writer's own
abbrev pub AreOwn : Bool → Page → Forest → Type 0
AreOwn any p t = (before : List (List ℕ)) (within : Within) → IsOwnHtml any within (written p before within t)

-- and with what stands before them
own-then : (any : Bool) (p : Page) (before : List (List ℕ)) (within : Within) (w : Written) (t : Forest) → IsOwnHtml any within w → AreOwn any p t
    → IsOwnHtml any within (beside w (written p (w.calls ++ before) within t))
own-then any p before within w t h later = in-append any within w.html _ h (later (w.calls ++ before) within)

in-around : (any : Bool) (p : Page) → IsBounded any p → (name : Name) (a z : Point) (inside t : Forest) → AreOwn any p inside → AreOwn any p t → AreOwn any p (group_then name a z inside t)
in-around any p b name a z empty t inner later before within =
    own-then any p before within (innermost p before within (role_of name) a z) t (own-innermost any p b before within (role_of name) a z) later
in-around any p b name a z (leaf_then x l cs more) t inner later before within =
    let w = written p before (within_of within (role_of name)) (leaf_then x l cs more) in
    own-then any p before within (around p before within (role_of name) a z w) t (own-around any p b before within (role_of name) a z w (inner before (within_of within (role_of name)))) later
in-around any p b name a z (group_then x c d more others) t inner later before within =
    let w = written p before (within_of within (role_of name)) (group_then x c d more others) in
    own-then any p before within (around p before within (role_of name) a z w) t (own-around any p b before within (role_of name) a z w (inner before (within_of within (role_of name)))) later

in-trees : (any : Bool) (p : Page) → IsBounded any p → (t : Forest) → AreOwn any p t
in-trees any p b empty before within = in-nothing any within
in-trees any p b (leaf_then name l cs t) before within =
    let a = start_of cs in
    let z = stop_of document_start cs in
    own-then any p before within (innermost p before within (role_of name) a z) t (own-innermost any p b before within (role_of name) a z) (in-trees any p b t)
in-trees any p b (group_then name a z inside t) before within = in-around any p b name a z inside t (in-trees any p b inside) (in-trees any p b t) before within

pub html-is-own : (p : Page) (before : List (List ℕ)) (t : Forest) → p.options.raw_html ≡ false → IsOwnMarkup true (html p before t)
unfolding html
html-is-own p before t off = in-trees true p (off, any-address p link_schemes, any-address p image_schemes) t before Within.Outside

pub html-is-safe : (p : Page) (before : List (List ℕ)) (t : Forest) → p.options.raw_html ≡ false → p.options.any_link ≡ false → IsOwnMarkup false (html p before t)
unfolding html
html-is-safe p before t off safe = in-trees false p (off, safe-address p safe link_schemes, safe-address p safe image_schemes) t before Within.Outside
