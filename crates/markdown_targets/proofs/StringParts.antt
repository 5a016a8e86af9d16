-- The text of a string, part by part.
use Rattle.std.proofs.Common.{◌≡◌, ◌∙◌, sym, ap, ℕ, Bool, List, [], ◌∷◌, ◌++◌, append-nil, append_assoc, length}
use Rattle.markdown_event.specs.declared.event.Event.{Event}
use Rattle.markdown_targets.specs.declared.strings.Part.{Part}
use Rattle.markdown_targets.specs.LinkTargets.{is_in_behind, part, text_inside}

-- what is written, and what the rest gives, stay the whole
pub text_more : (bytes : List ℕ) (string : Part) (whole out out' : List ℕ) (is_in is_in' : Bool) (left : List Event) (e : Event) (rest : List Event)
    → out ++ text_inside bytes string is_in left ≡ whole → left ≡ e ∷ rest → out' ≡ out ++ part bytes is_in e rest → is_in' ≡ is_in_behind string e is_in
    → out' ++ text_inside bytes string is_in' rest ≡ whole
text_more bytes string whole out out' is_in is_in' left e rest so_far is read behind =
    ap (λ x. x ++ text_inside bytes string is_in' rest) read
    ∙ append_assoc out (part bytes is_in e rest) (text_inside bytes string is_in' rest)
    ∙ ap (λ b. out ++ (part bytes is_in e rest ++ text_inside bytes string b rest)) behind
    ∙ ap (λ es. out ++ text_inside bytes string is_in es) (sym is)
    ∙ so_far

pub text_end : (bytes : List ℕ) (string : Part) (whole out : List ℕ) (is_in : Bool) (left : List Event) → out ++ text_inside bytes string is_in left ≡ whole → length left ≡ 0 → out ≡ whole
text_end bytes string whole out is_in [] so_far none = sym (append-nil out) ∙ so_far
text_end bytes string whole out is_in (e ∷ left) so_far none = cc
