-- Whole HTML in text: the codes that its reading passes, and the operations of its tree.
use Rattle.std.proofs.Common.{◌≡◌, ◌+◌, Bool, true, false, ◌&&◌, Option, Some, None, List, [], ◌∷◌, ◌++◌, refl, ap, ◌∙◌}
use Rattle.markdown_content.specs.Codes.{Code, is_line_ending}
use Rattle.markdown_engine.specs.Operations.{Enter, Exit}
use Rattle.markdown_event.specs.declared.event.Name.TheVariants as N
use Rattle.markdown_model.specs.CodeTests.{is_value, is_letter, next_is}
use Rattle.markdown_model.specs.Grammar.{◌>>◌, gives, provided, either, one, with_first, word, through, ◌then_◌}
use Rattle.markdown_model.specs.HtmlText.{open_tag, closing_tag, comment, instruction, declaration, cdata, html_codes, html_text, tag_name}
use Rattle.markdown_plan.specs.Plan.{preceded, tree_ops, plan_of}
use Rattle.markdown_model.proofs.PlainConstructs.{reads_switched, reads_html_text}
use Rattle.markdown_plan.proofs.SolidReadings.{ReadsSolid, plain-reads}
use Rattle.markdown_leaf_html.specs.HtmlText.{opening}
use Rattle.markdown_leaf_html.specs.HtmlLines.{InLine, text_from, text_of}
use Rattle.markdown_leaf_html.specs.HtmlTextRests.{tag_rest, closing_between, open_rest}
use Rattle.markdown_leaf_html.proofs.HtmlLineLemmas.{ops-lines}
use Rattle.markdown_leaf_html.proofs.HtmlCodeReadings.{either-on, either-none, word-on, word-none, word-then, word-then-none, last-then}
use Rattle.markdown_model.proofs.GrammarSteps.{bind-some, bind-none, switched-on, switched-off}

module _ (slashes : Bool) where
  pub whole-html : (on : Bool) → ReadsSolid (provided on >> html_text slashes)
  whole-html on = plain-reads [] _ (reads_switched [] on (html_text slashes) (reads_html_text [] slashes))

  -- After `<`.

  text-on : (c : Code) (cs : List Code) → is_value 60 c ≡ true → html_codes slashes (c ∷ cs) ≡ with_first c (open_rest slashes cs)
  unfolding html_codes open_tag closing_tag comment instruction declaration cdata word
  text-on c cs e =
      either-on (open_tag slashes) (tag_name then_ tag_rest slashes) _ _ c cs (last-then 60 (tag_name then_ tag_rest slashes) c cs e)
      (either-on closing_tag (word "/" then_ tag_name then_ closing_between) _ _ c cs (word-then 60 _ (tag_name then_ closing_between) c cs e)
      (either-on comment (either (word "!-->") (either (word "!--->") (word "!--" then_ through "-->"))) _ _ c cs
      (either-on (word "<!-->") (word "!-->") _ _ c cs (word-on 60 _ c cs e) (either-on (word "<!--->") (word "!--->") _ _ c cs (word-on 60 _ c cs e) (word-then 60 _ (through "-->") c cs e)))
      (either-on instruction (word "?" then_ through "?>") _ _ c cs (word-then 60 _ (through "?>") c cs e)
      (either-on declaration (word "!" then_ one is_letter then_ through ">") cdata (word "![CDATA[" then_ through "]]>") c cs (word-then 60 _ (one is_letter then_ through ">") c cs e) (word-then 60 _ (through "]]>") c cs e)))))

  text-none : (cs : List Code) → next_is (is_value 60) cs ≡ false → html_codes slashes cs ≡ None
  unfolding html_codes open_tag closing_tag comment instruction declaration cdata word
  text-none cs e =
      either-none (open_tag slashes) _ cs (word-then-none 60 _ _ cs e)
      (either-none closing_tag _ cs (word-then-none 60 _ _ cs e)
      (either-none comment _ cs (either-none (word "<!-->") _ cs (word-none 60 _ cs e) (either-none (word "<!--->") _ cs (word-none 60 _ cs e) (word-then-none 60 _ _ cs e)))
      (either-none instruction _ cs (word-then-none 60 _ _ cs e) (either-none declaration cdata cs (word-then-none 60 _ _ cs e) (word-then-none 60 _ _ cs e)))))

  -- The operations of the tree.

  tree-by : (c : Code) (cs : List Code) (o : Option (List Code × List Code)) → is_line_ending c ≡ false →
      html_codes slashes (c ∷ cs) ≡ with_first c o → tree_ops (html_text slashes (c ∷ cs)) ≡ preceded opening (text_from InLine o)
  unfolding html_text gives
  tree-by c cs None h e = ap tree_ops (bind-none (html_codes slashes) _ (c ∷ cs) e)
  tree-by c cs (Some r) h e =
      ap tree_ops (bind-some (html_codes slashes) _ (c ∷ cs) (c ∷ r.0) r.1 _ e refl)
      ∙ ap (λ os. Some (Enter N.HtmlText ∷ (os ++ Exit N.HtmlText ∷ []))) (ops-lines c r.0 h)

  pub html-opens : (on : Bool) (c : Code) (cs : List Code) → on ≡ true → is_value 60 c ≡ true → is_line_ending c ≡ false →
      plan_of (provided on >> html_text slashes) (c ∷ cs) ≡ preceded opening (text_of (open_rest slashes) cs)
  html-opens on c cs e h k =
      ap tree_ops (switched-on (html_text slashes) on (c ∷ cs) e) ∙ tree-by c cs (open_rest slashes cs) k (text-on c cs h)

  html-none : (cs : List Code) → next_is (is_value 60) cs ≡ false → html_text slashes cs ≡ None
  unfolding html_text
  html-none cs e = bind-none (html_codes slashes) _ cs (text-none cs e)

  pub no-html : (on : Bool) (cs : List Code) → on && next_is (is_value 60) cs ≡ false →
      plan_of (provided on >> html_text slashes) cs ≡ None
  no-html false cs e = ap tree_ops (switched-off (html_text slashes) false cs refl)
  no-html true cs e = ap tree_ops (switched-on (html_text slashes) true cs refl ∙ html-none cs e)
