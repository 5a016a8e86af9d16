-- A document without definitions has nothing brought to it.
use Rattle.std.proofs.Common.{◌≡◌, ℕ, refl, List, [], ◌∷◌, length, ◌==◌, Option, Some, None, Bool, true, false, if◌then◌else◌, arith}
use Rattle.std.proofs.lemmas.Bool.Decides.{Decides-eqb}
use Rattle.markdown_content.specs.declared.configuration.ParseOptions.{ParseOptions}
use Rattle.markdown_content.specs.Tree.{Forest, empty, leaf_then, group_then}
use Rattle.markdown_model.specs.Setting.{Setting}
use Rattle.markdown_model.specs.InlineTree.{text_tree}
use Rattle.markdown_html_model.specs.Html.{Defined, Page, PartsSoFar, defined, page_of_content, reference_target}
use Rattle.markdown_html_model.specs.Roles.{role_of}
use Rattle.markdown_html_model.specs.declared.options.HtmlOptions.{HtmlOptions}
use Rattle.markdown_html_model.specs.declared.role.Role.{Role}
use Rattle.markdown_html.specs.Brought.{brought, brought_by, own_brought, parts_inside, target_bytes}
use Rattle.markdown_block_model.specs.BlockTree.{Extensions, Leaf, blank, thematic_break, heading, underlined, paragraph, indented_code, fenced_code, html, table, front_matter, Tree, nothing, and_leaf, and_container}
use Rattle.markdown_block_model.specs.LinkDefinitions as link_definitions
use Rattle.markdown_block_model.specs.LinkDefinitions.{definitions, document_tree}
use Rattle.markdown_block_definitions.specs.declared.front.Definition.{Definition}
use Rattle.markdown_page.specs.DefinitionStrings.{AreTextsOf}
use Rattle.markdown_page_model.specs.PageHtml.{is_first_block, leaf_setting, page_of, setting_of}
use Rattle.markdown_page.specs.DocumentBrought.{IsBeyond, document_brought, leaf_brought, tree_brought}
use Rattle.markdown_page.specs.PlacedTree.{is_item}

nowhere-else : (q : List ℕ) (ds : List Defined) → ds ≡ [] → target_bytes (defined q ds) ≡ 0
nowhere-else q ds e = grind arith

to-reference : (p : Page) → p.definitions ≡ [] → (label reference : Option (ℕ × ℕ)) → target_bytes (reference_target p label reference) ≡ 0
to-reference p e None None = refl
to-reference p e (Some place) None = nowhere-else _ p.definitions e
to-reference p e label (Some place) = nowhere-else _ p.definitions e

to-parts : (p : Page) → p.definitions ≡ [] → (destination : Option (List ℕ)) (parts : PartsSoFar) → parts.destination ≡ destination → brought_by p parts ≡ 0
to-parts p e None parts d = rw d (to-reference p e parts.label parts.reference)
to-parts p e (Some to) parts d = rw d refl

to-own : (p : Page) → p.definitions ≡ [] → (role : Role) (parts : PartsSoFar) → own_brought p role parts ≡ 0
to-own p e role parts = let h = to-parts p e parts.destination parts refl in grind arith

to-trees : (p : Page) → p.definitions ≡ [] → (t : Forest) → brought p t ≡ 0
unfolding brought
to-trees p e empty = refl
to-trees p e (leaf_then name link cs rest) = to-trees p e rest
to-trees p e (group_then name a b inside rest) =
    let h = to-own p e (role_of name) (parts_inside p inside) in let i = to-trees p e inside in let r = to-trees p e rest in omega (arith, h, i, r)

to-leaf : (s : Setting) (p : Page) → p.definitions ≡ [] → (l : Leaf) → leaf_brought s p l ≡ 0
to-leaf s p e blank = refl
to-leaf s p e thematic_break = refl
to-leaf s p e (heading n text) = to-trees (page_of_content text p) e (text_tree s text)
to-leaf s p e (underlined n text) = to-trees (page_of_content text p) e (text_tree s text)
to-leaf s p e (paragraph []) = refl
to-leaf s p e (paragraph (c ∷ cs)) = to-trees (page_of_content (c ∷ cs) p) e (text_tree s (c ∷ cs))
to-leaf s p e (indented_code ls) = refl
to-leaf s p e (fenced_code f info ls ended) = refl
to-leaf s p e (html k text ended) = refl
to-leaf s p e (table columns rows) = refl
to-leaf s p e (front_matter ls) = refl

to-blocks : (s : Setting) (p : Page) → p.definitions ≡ [] → (i : Bool) (t : Tree) → tree_brought s p i t ≡ 0
to-blocks s p e i nothing = refl
to-blocks s p e i (and_leaf b l) = let h = to-blocks s p e i b in let k = to-leaf (leaf_setting s (is_first_block i b) l) p e l in omega (arith, h, k)
to-blocks s p e i (and_container b c x) = let h = to-blocks s p e i b in let k = to-blocks s p e (is_item c) x in omega (arith, h, k)

nothing-brought : (reading : ParseOptions) (x : Extensions) (options : HtmlOptions) (bytes : List ℕ) → definitions x bytes ≡ [] → document_brought reading x options bytes ≡ 0
unfolding document_brought
nothing-brought reading x options bytes e = to-blocks (setting_of reading x bytes) (page_of reading x options bytes) (rw e refl) false (document_tree x bytes)

-- So the limit is looked at only where there are definitions.

none-in : (ds : List link_definitions.Definition) (xs : List Definition) → AreTextsOf xs ds → (length xs == 0) ≡ true → ds ≡ []
none-in [] xs texts e = refl
none-in (d ∷ ds) [] texts e = absurd (cc)
none-in (d ∷ ds) (x ∷ xs) texts e = let eqb = Decides-eqb (length (x ∷ xs)) 0 in let none = eqb.0 e in absurd (omega (arith, none))

module _ (reading : ParseOptions) (x : Extensions) (options : HtmlOptions) (bytes : List ℕ) (xs : List Definition) (texts : AreTextsOf xs (definitions x bytes)) (limit : Option ℕ) where
  by-count : (none : Bool) → (length xs == 0) ≡ none → IsBeyond (if none then None else limit) (document_brought reading x options bytes) → IsBeyond limit (document_brought reading x options bytes)
  by-count true e h = absurd h
  by-count false e h = h

  pub beyond_with : IsBeyond (if length xs == 0 then None else limit) (document_brought reading x options bytes) → IsBeyond limit (document_brought reading x options bytes)
  beyond_with h = by-count (length xs == 0) refl h

  none-beyond : (l : Option ℕ) (n : ℕ) → n ≡ 0 → IsBeyond l n → ⊥
  none-beyond None n e h = h
  none-beyond (Some k) n e h = absurd (omega (arith, e, h))

  by-limit : (none : Bool) → (length xs == 0) ≡ none → (IsBeyond (if none then None else limit) (document_brought reading x options bytes) → ⊥) → IsBeyond limit (document_brought reading x options bytes) → ⊥
  by-limit true e h k = none-beyond limit (document_brought reading x options bytes) (nothing-brought reading x options bytes (none-in (definitions x bytes) xs texts e)) k
  by-limit false e h k = h k

  pub within_with : (IsBeyond (if length xs == 0 then None else limit) (document_brought reading x options bytes) → ⊥) → IsBeyond limit (document_brought reading x options bytes) → ⊥
  within_with h = by-limit (length xs == 0) refl h
