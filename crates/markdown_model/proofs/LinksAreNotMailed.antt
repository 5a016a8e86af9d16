-- Finding emails leaves what stands in a link as it is.
use Rattle.std.proofs.Common.{◌≡◌, List, [], ◌∷◌, ◌++◌, refl, sym, ◌∙◌, ap, None}
use Rattle.std.proofs.lemmas.List.{append_assoc}
use Rattle.markdown_event.specs.declared.event.Name.{Name}
use Rattle.markdown_content.specs.Codes.{Code}
use Rattle.markdown_content.specs.Tree.{Forest, empty, leaf_then, group_then, leaf, ◌⊕◌}
use Rattle.markdown_model.specs.GfmEmailLiteral.{with_emails}
use Rattle.markdown_model.specs.Passes.{with_emails_apart}
use Rattle.markdown_model.specs.Laws.{insides_of_links, LinksAreNotMailed}
use Rattle.markdown_model.proofs.PassedTrees.{with_emails-has}

links-leaf : (name : Name) (cs : List Code) → insides_of_links (leaf name cs) ≡ []
links-leaf name [] = refl
links-leaf name (c ∷ cs) = refl

links-join : (a b : Forest) → insides_of_links (a ⊕ b) ≡ insides_of_links a ++ insides_of_links b
links-join empty b = refl
links-join (leaf_then name link cs rest) b = links-join rest b
links-join (group_then Name.Link enter exit inside rest) b = ap (λ x. inside ∷ x) (links-join rest b)
links-join (group_then name enter exit inside rest) b =
    ap (λ x. insides_of_links inside ++ x) (links-join rest b) ∙ sym (append_assoc (insides_of_links inside) (insides_of_links rest) (insides_of_links b))

links-with_emails : (cs : List Code) → insides_of_links (with_emails cs) ≡ []
links-with_emails cs =
    with_emails-has (λ t. insides_of_links t ≡ []) (λ t u h k. links-join t u ∙ (λ i. h i ++ k i)) (links-leaf Name.Data) (λ before ds. links-leaf _ ds) cs

pub links_are_not_mailed : LinksAreNotMailed
unfolding with_emails_apart
links_are_not_mailed empty = refl
links_are_not_mailed (leaf_then Name.Data None cs rest) =
    links-join (with_emails cs) (with_emails_apart rest) ∙ (λ i. links-with_emails cs i ++ links_are_not_mailed rest i)
links_are_not_mailed (leaf_then name link cs rest) = links_are_not_mailed rest
links_are_not_mailed (group_then Name.Link enter exit inside rest) = ap (λ x. inside ∷ x) (links_are_not_mailed rest)
links_are_not_mailed (group_then name enter exit inside rest) =
    λ i. links_are_not_mailed inside i ++ links_are_not_mailed rest i
