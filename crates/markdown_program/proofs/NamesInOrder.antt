-- The names of events in the order of their numbers, and tables that have a row for each.
use Rattle.std.proofs.Common.{◌≡◌, ◌∙◌, sym, ap, refl, ℕ, ◌<◌, List, [], ◌∷◌, map, get_or, length, arith}
use Rattle.std.proofs.lemmas.List.{get_or-map, length-map}
use Rattle.markdown_event.specs.declared.event.Name.{Name}
use Rattle.markdown_event.specs.contracts.event.Name.{the_type}
use denote.Enum.Declared.{tag_of}

abbrev pub names : List Name
names = Name.AttentionSequence ∷ Name.Autolink ∷ Name.AutolinkEmail ∷ Name.AutolinkMarker ∷ Name.AutolinkProtocol ∷ Name.CharacterEscape ∷ Name.CharacterEscapeMarker ∷ Name.CharacterEscapeValue ∷ Name.CharacterReference ∷ Name.CharacterReferenceMarker ∷ Name.CharacterReferenceMarkerHexadecimal ∷ Name.CharacterReferenceMarkerNumeric ∷ Name.CharacterReferenceMarkerSemi ∷ Name.CharacterReferenceValue ∷ Name.CodeText ∷ Name.CodeTextData ∷ Name.CodeTextSequence ∷ Name.Data ∷ Name.Emphasis ∷ Name.EmphasisSequence ∷ Name.EmphasisText ∷ Name.GfmAutolinkLiteralEmail ∷ Name.GfmAutolinkLiteralMailto ∷ Name.GfmAutolinkLiteralProtocol ∷ Name.GfmAutolinkLiteralWww ∷ Name.GfmAutolinkLiteralXmpp ∷ Name.GfmFootnoteCall ∷ Name.GfmFootnoteCallLabel ∷ Name.GfmFootnoteCallMarker ∷ Name.GfmStrikethrough ∷ Name.GfmStrikethroughSequence ∷ Name.GfmStrikethroughText ∷ Name.GfmTaskListItemCheck ∷ Name.GfmTaskListItemMarker ∷ Name.GfmTaskListItemValueChecked ∷ Name.GfmTaskListItemValueUnchecked ∷ Name.HardBreakEscape ∷ Name.HardBreakTrailing ∷ Name.HtmlText ∷ Name.HtmlTextData ∷ Name.Image ∷ Name.Label ∷ Name.LabelEnd ∷ Name.LabelImage ∷ Name.LabelImageMarker ∷ Name.LabelLink ∷ Name.LabelMarker ∷ Name.LabelText ∷ Name.LineEnding ∷ Name.Link ∷ Name.MathText ∷ Name.MathTextData ∷ Name.MathTextSequence ∷ Name.Reference ∷ Name.ReferenceMarker ∷ Name.ReferenceString ∷ Name.Resource ∷ Name.ResourceDestination ∷ Name.ResourceDestinationLiteral ∷ Name.ResourceDestinationLiteralMarker ∷ Name.ResourceDestinationRaw ∷ Name.ResourceDestinationString ∷ Name.ResourceMarker ∷ Name.ResourceTitle ∷ Name.ResourceTitleMarker ∷ Name.ResourceTitleString ∷ Name.SpaceOrTab ∷ Name.Strong ∷ Name.StrongSequence ∷ Name.StrongText ∷ []

abbrev pub number_of : Name → ℕ
number_of n = tag_of the_type n

stands : (n d : Name) → get_or names (number_of n) d ≡ n
stands Name.AttentionSequence d = refl
stands n d = refl

pub number-small : (n : Name) → number_of n < 70
number-small Name.AttentionSequence = omega arith
number-small n = omega arith

-- what a table holds for a name, by what it holds for all
pub at-name : {A X : Type 0} (f : A → X) (g : Name → X) (rows : List A) (n : Name) (d : A) → map f rows ≡ map g names →
    f (get_or rows (number_of n) d) ≡ g n
at-name f g rows n d e =
    let inside : number_of n < length rows = omega (arith, number-small n, sym (length-map rows f) ∙ ap length e ∙ length-map names g) in
    sym (get_or-map f rows (number_of n) d (g n) inside)
    ∙ ap (λ xs. get_or xs (number_of n) (g n)) e
    ∙ get_or-map g names (number_of n) n (g n) (number-small n)
    ∙ ap g (stands n n)

-- what is so for all names in order is so for each
pub same-at : {X : Type 0} (f g : Name → X) (n : Name) → map f names ≡ map g names → f n ≡ g n
same-at f g n e =
    sym (ap f (stands n n)) ∙ sym (get_or-map f names (number_of n) n (f n) (number-small n)) ∙ ap (λ xs. get_or xs (number_of n) (f n)) e ∙ get_or-map g names (number_of n) n (f n) (number-small n) ∙ ap g (stands n n)
