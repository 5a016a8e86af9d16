-- States that agree in all parts, and steps over a list of events.
use Rattle.std.proofs.Common.{◌≡◌, ◌∙◌, sym, ap, refl, subst, ℕ, List, [], ◌∷◌, length, Option, Bool, true, false, if◌then◌else◌, Bor, Result, Ok, Err, MatchResult, arith, rules}
use Rattle.std.specs.Str.{is_utf8, IsUtf8}
use Rattle.std.proofs.lemmas.Str.{is_utf8-from_IsUtf8, IsUtf8-from_is_utf8}
use Rattle.markdown_content.specs.Tree.{Forest, events_from}
use Rattle.markdown_event.specs.declared.event.Event.{Event}
use Rattle.markdown_content.specs.Codes.{Code}
use Rattle.markdown_content.specs.CommonMark.{rules_of}
use Rattle.markdown_content.specs.DefaultOptions.{default_options}
use Rattle.markdown_content.specs.declared.configuration.Rules.{Rules}
use Rattle.markdown_util.specs.declared.decoding.Decoding.{Decoding}
use Rattle.markdown_html_model.specs.Html.{Defined, Page, plain_text_by, text_page}
use Rattle.markdown_html_model.specs.declared.options.HtmlOptions.{HtmlOptions}
use Rattle.markdown_html_model.specs.declared.role.Within.{Within}
use Rattle.markdown_html.specs.EventWalk.{State, walked, beginning}
use Rattle.markdown_html.proofs.WalkTree.{IsWrittenAs, html_within, walk-html}

pub walked_end : (p : Page) (out : List ℕ) (before : List (List ℕ)) (within : Within) (n : ℕ) (previous : Option ℕ) (t : Forest) (events : List Event) (s : State) (left : List Event)
    → walked p s left ≡ walked p (beginning out before within) events → length left ≡ 0 → events ≡ events_from n previous t → IsWrittenAs p out before within t s
walked_end p out before within n previous t events s [] so_far none is =
    walk-html p out before within n previous t s (ap (walked p (beginning out before within)) (sym is) ∙ sym so_far)
walked_end p out before within n previous t events s (x ∷ left) so_far none is = cc

abbrev pub page-with : List ℕ → List Code → Rules → Decoding → List Defined → HtmlOptions → Page
page-with bytes cs rules decoding definitions options =
    record { bytes = bytes; content = cs; rules = rules; footnotes_on = false; decoding = decoding; definitions = definitions; options = options }

-- with no definitions, no calls and these options, what is written is plain text
pub text-alone : (how : Decoding) (bytes : List ℕ) (cs : List Code) (rules : Rules) (definitions : List Defined) (options : HtmlOptions) (before : List (List ℕ)) (t : Forest) → cs ≡ []
    → rules ≡ rules_of default_options → definitions ≡ [] → options ≡ Page.options (text_page how bytes) → before ≡ []
    → html_within (page-with bytes cs rules how definitions options) before Within.InText t ≡ plain_text_by how bytes t
unfolding plain_text_by
text-alone how bytes cs rules definitions options before t c r d o none = cc

-- what reading a label as UTF-8 answers
pub label_read : {E : Type 0} (r : Result (Bor (List ℕ)) E) (x : Bor (List ℕ)) (text : List ℕ) (Q : E → Type 0) → MatchResult r (λ s. (s.now ≡ text) × IsUtf8 text) Q → r ≡ Ok x
    → x.now ≡ (if is_utf8 text then text else [])
label_read r x text Q h e = grind (arith, is_utf8-from_IsUtf8)

unread : (b : Bool) (text : List ℕ) → (b ≡ true → ⊥) → [] ≡ (if b then text else [])
unread true text h = absurd (h refl)
unread false text h = refl

pub label_unread : {E : Type 0} (r : Result (Bor (List ℕ)) E) (e : E) (text : List ℕ) (P : Bor (List ℕ) → Type 0) (Q : E → Type 0) → MatchResult r P (λ e. (IsUtf8 text → ⊥) × Q e) → r ≡ Err e
    → [] ≡ (if is_utf8 text then text else [])
label_unread r e text P Q h is =
    let w = subst (λ r. MatchResult r P (λ e. (IsUtf8 text → ⊥) × Q e)) is h in
    unread (is_utf8 text) text (λ u. w.0 (IsUtf8-from_is_utf8 text u))
