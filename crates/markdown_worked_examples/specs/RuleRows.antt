-- An example for each rule that the specification has none for, by itself: GFM, math spans, and the options.
use Rattle.std.specs.Prelude.{◌≡◌, true, false, [], ◌∷◌, codes, Some, None}
use Rattle.markdown_content.specs.DefaultOptions.{default_options, default_constructs}
use Rattle.markdown_worked_examples.specs.ExampleNotation.{default}
use Rattle.markdown_worked_examples.specs.HtmlNotation.{calls_answer, html_answer, html_behind, text_answer}
use Rattle.markdown_html_model.specs.declared.options.LineEnds.{LineEnds}

abbrev pub RuleRows : Type 0
RuleRows =
    -- «~~a~~»: «<del>a</del>»
    (html_answer (record default { options = record default_options { constructs = record default_constructs { gfm_strikethrough = true } } }) (record { raw_html = false; any_link = false; line_ends = LineEnds.Kept }) ([]) (codes "~~a~~") ≡ (codes "<del>a</del>")) ×
    -- «$ a $»: «<code class="language-math math-inline">a</code>»
    (html_answer (record default { options = record default_options { constructs = record default_constructs { math_text = true } } }) (record { raw_html = false; any_link = false; line_ends = LineEnds.Kept }) ([]) (codes "$ a $") ≡ (codes "<code class=\"language-math math-inline\">a</code>")) ×
    -- «[x] a»: «<input type="checkbox" disabled="" checked="" /> a»
    (html_answer (record default { options = record default_options { constructs = record default_constructs { gfm_task_list_item = true } }; first_of_item = true }) (record { raw_html = false; any_link = false; line_ends = LineEnds.Kept }) ([]) (codes "[x] a") ≡ (codes "<input type=\"checkbox\" disabled=\"\" checked=\"\" /> a")) ×
    -- «[ ] a»: «<input type="checkbox" disabled="" /> a»
    (html_answer (record default { options = record default_options { constructs = record default_constructs { gfm_task_list_item = true } }; first_of_item = true }) (record { raw_html = false; any_link = false; line_ends = LineEnds.Kept }) ([]) (codes "[ ] a") ≡ (codes "<input type=\"checkbox\" disabled=\"\" /> a")) ×
    -- «<b>»: «&lt;b&gt;»
    (html_answer (default) (record { raw_html = false; any_link = false; line_ends = LineEnds.Kept }) ([]) (codes "<b>") ≡ (codes "&lt;b&gt;")) ×
    -- «<b>»: «<b>»
    (html_answer (default) (record { raw_html = true; any_link = false; line_ends = LineEnds.Kept }) ([]) (codes "<b>") ≡ (codes "<b>")) ×
    -- «www.a.b»: «<a href="http://www.a.b">www.a.b</a>»
    (html_answer (record default { options = record default_options { constructs = record default_constructs { gfm_autolink_literal = true } } }) (record { raw_html = false; any_link = false; line_ends = LineEnds.Kept }) ([]) (codes "www.a.b") ≡ (codes "<a href=\"http://www.a.b\">www.a.b</a>")) ×
    -- «http://a.b»: «<a href="http://a.b">http://a.b</a>»
    (html_answer (record default { options = record default_options { constructs = record default_constructs { gfm_autolink_literal = true } } }) (record { raw_html = false; any_link = false; line_ends = LineEnds.Kept }) ([]) (codes "http://a.b") ≡ (codes "<a href=\"http://a.b\">http://a.b</a>")) ×
    -- «a@b.c»: «<a href="mailto:a@b.c">a@b.c</a>»
    (html_answer (record default { options = record default_options { constructs = record default_constructs { gfm_autolink_literal = true } } }) (record { raw_html = false; any_link = false; line_ends = LineEnds.Kept }) ([]) (codes "a@b.c") ≡ (codes "<a href=\"mailto:a@b.c\">a@b.c</a>")) ×
    -- «[a](javascript:b)»: «<a href="">a</a>»
    (html_answer (default) (record { raw_html = false; any_link = false; line_ends = LineEnds.Kept }) ([]) (codes "[a](javascript:b)") ≡ (codes "<a href=\"\">a</a>")) ×
    -- «[a](javascript:b)»: «<a href="javascript:b">a</a>»
    (html_answer (default) (record { raw_html = false; any_link = true; line_ends = LineEnds.Kept }) ([]) (codes "[a](javascript:b)") ≡ (codes "<a href=\"javascript:b\">a</a>")) ×
    -- «![a](mailto:b)»: «<img src="" alt="a" />»
    (html_answer (default) (record { raw_html = false; any_link = false; line_ends = LineEnds.Kept }) ([]) (codes "![a](mailto:b)") ≡ (codes "<img src=\"\" alt=\"a\" />")) ×
    -- «![a](HTTPS:b)»: «<img src="HTTPS:b" alt="a" />»
    (html_answer (default) (record { raw_html = false; any_link = false; line_ends = LineEnds.Kept }) ([]) (codes "![a](HTTPS:b)") ≡ (codes "<img src=\"HTTPS:b\" alt=\"a\" />")) ×
    -- «<irc:a>»: «<a href="irc:a">irc:a</a>»
    (html_answer (default) (record { raw_html = false; any_link = false; line_ends = LineEnds.Kept }) ([]) (codes "<irc:a>") ≡ (codes "<a href=\"irc:a\">irc:a</a>")) ×
    -- «![*a*<b>`c`](d)»: «<img src="d" alt="a&lt;b&gt;c" />»
    (html_answer (default) (record { raw_html = false; any_link = false; line_ends = LineEnds.Kept }) ([]) (codes "![*a*<b>`c`](d)") ≡ (codes "<img src=\"d\" alt=\"a&lt;b&gt;c\" />")) ×
    -- «[^a]»: «<sup><a href="#user-content-fn-a" id="user-content-fnref-a" data-footnote-ref="" aria-describedby="footnote-label">1</a></sup>»
    (html_answer (record default { options = record default_options { constructs = record default_constructs { gfm_label_start_footnote = true } }; footnotes = (codes "a") ∷ [] }) (record { raw_html = false; any_link = false; line_ends = LineEnds.Kept }) ([]) (codes "[^a]") ≡ (codes "<sup><a href=\"#user-content-fn-a\" id=\"user-content-fnref-a\" data-footnote-ref=\"\" aria-describedby=\"footnote-label\">1</a></sup>")) ×
    -- «[^A][^a]»: «<sup><a href="#user-content-fn-a" id="user-content-fnref-a" data-footnote-ref="" aria-describedby="footnote-label">1</a></sup><sup><a href="#user-content-fn-a" id="user-content-fnref-a-2" data-footnote-ref="" aria-describedby="footnote-label">1</a></sup>»
    (html_answer (record default { options = record default_options { constructs = record default_constructs { gfm_label_start_footnote = true } }; footnotes = (codes "a") ∷ [] }) (record { raw_html = false; any_link = false; line_ends = LineEnds.Kept }) ([]) (codes "[^A][^a]") ≡ (codes "<sup><a href=\"#user-content-fn-a\" id=\"user-content-fnref-a\" data-footnote-ref=\"\" aria-describedby=\"footnote-label\">1</a></sup><sup><a href=\"#user-content-fn-a\" id=\"user-content-fnref-a-2\" data-footnote-ref=\"\" aria-describedby=\"footnote-label\">1</a></sup>")) ×
    -- «*[^a][^b]*[^b]»: «<em><sup><a href="#user-content-fn-a" id="user-content-fnref-a" data-footnote-ref="" aria-describedby="footnote-label">1</a></sup><sup><a href="#user-content-fn-b" id="user-content-fnref-b" data-footnote-ref="" aria-describedby="footnote-label">2</a></sup></em><sup><a href="#user-content-fn-b" id="user-content-fnref-b-2" data-footnote-ref="" aria-describedby="footnote-label">2</a></sup>»
    (html_answer (record default { options = record default_options { constructs = record default_constructs { gfm_label_start_footnote = true } }; footnotes = (codes "a") ∷ (codes "b") ∷ [] }) (record { raw_html = false; any_link = false; line_ends = LineEnds.Kept }) ([]) (codes "*[^a][^b]*[^b]") ≡ (codes "<em><sup><a href=\"#user-content-fn-a\" id=\"user-content-fnref-a\" data-footnote-ref=\"\" aria-describedby=\"footnote-label\">1</a></sup><sup><a href=\"#user-content-fn-b\" id=\"user-content-fnref-b\" data-footnote-ref=\"\" aria-describedby=\"footnote-label\">2</a></sup></em><sup><a href=\"#user-content-fn-b\" id=\"user-content-fnref-b-2\" data-footnote-ref=\"\" aria-describedby=\"footnote-label\">2</a></sup>")) ×
    -- «![[^a]](c)[^a]»: «<img src="c" alt="" /><sup><a href="#user-content-fn-a" id="user-content-fnref-a-2" data-footnote-ref="" aria-describedby="footnote-label">1</a></sup>»
    (html_answer (record default { options = record default_options { constructs = record default_constructs { gfm_label_start_footnote = true } }; footnotes = (codes "a") ∷ [] }) (record { raw_html = false; any_link = false; line_ends = LineEnds.Kept }) ([]) (codes "![[^a]](c)[^a]") ≡ (codes "<img src=\"c\" alt=\"\" /><sup><a href=\"#user-content-fn-a\" id=\"user-content-fnref-a-2\" data-footnote-ref=\"\" aria-describedby=\"footnote-label\">1</a></sup>")) ×
    -- «[^"]»: «<sup><a href="#user-content-fn-%22" id="user-content-fnref-%22" data-footnote-ref="" aria-describedby="footnote-label">1</a></sup>»
    (html_answer (record default { options = record default_options { constructs = record default_constructs { gfm_label_start_footnote = true } }; footnotes = (codes "\"") ∷ [] }) (record { raw_html = false; any_link = false; line_ends = LineEnds.Kept }) ([]) (codes "[^\"]") ≡ (codes "<sup><a href=\"#user-content-fn-%22\" id=\"user-content-fnref-%22\" data-footnote-ref=\"\" aria-describedby=\"footnote-label\">1</a></sup>")) ×
    -- «[^a]*[^c]*»: «<sup><a href="#user-content-fn-a" id="user-content-fnref-a-2" data-footnote-ref="" aria-describedby="footnote-label">2</a></sup><em><sup><a href="#user-content-fn-c" id="user-content-fnref-c" data-footnote-ref="" aria-describedby="footnote-label">3</a></sup></em>»
    (html_behind ((codes "b") ∷ (codes "a") ∷ (codes "b") ∷ []) (record default { options = record default_options { constructs = record default_constructs { gfm_label_start_footnote = true } }; footnotes = (codes "a") ∷ (codes "c") ∷ [] }) (record { raw_html = false; any_link = false; line_ends = LineEnds.Kept }) (codes "[^a]*[^c]*") ≡ (codes "<sup><a href=\"#user-content-fn-a\" id=\"user-content-fnref-a-2\" data-footnote-ref=\"\" aria-describedby=\"footnote-label\">2</a></sup><em><sup><a href=\"#user-content-fn-c\" id=\"user-content-fnref-c\" data-footnote-ref=\"\" aria-describedby=\"footnote-label\">3</a></sup></em>")) ×
    -- «[^a]*[^B]*»: «b a c»
    (calls_answer ((codes "c") ∷ []) (record default { options = record default_options { constructs = record default_constructs { gfm_label_start_footnote = true } }; footnotes = (codes "a") ∷ (codes "b") ∷ [] }) (record { raw_html = false; any_link = false; line_ends = LineEnds.Kept }) (codes "[^a]*[^B]*") ≡ (codes "b") ∷ (codes "a") ∷ (codes "c") ∷ []) ×
    -- «a␍␊b␍c»: «a␍␊b␍c»
    (html_answer (default) (record { raw_html = false; any_link = false; line_ends = LineEnds.Kept }) ([]) (97 ∷ 13 ∷ 10 ∷ 98 ∷ 13 ∷ 99 ∷ []) ≡ (97 ∷ 13 ∷ 10 ∷ 98 ∷ 13 ∷ 99 ∷ [])) ×
    -- «a␍␊b»: «a␊b»
    (html_answer (default) (record { raw_html = false; any_link = false; line_ends = LineEnds.Lf }) ([]) (97 ∷ 13 ∷ 10 ∷ 98 ∷ []) ≡ (97 ∷ 10 ∷ 98 ∷ [])) ×
    -- «a\␊b»: «a<br />␍␊b»
    (html_answer (default) (record { raw_html = false; any_link = false; line_ends = LineEnds.CrLf }) ([]) (97 ∷ 92 ∷ 10 ∷ 98 ∷ []) ≡ (97 ∷ 60 ∷ 98 ∷ 114 ∷ 32 ∷ 47 ∷ 62 ∷ 13 ∷ 10 ∷ 98 ∷ [])) ×
    -- «![a␍␊b](c)»: «<img src="c" alt="a␊b" />»
    (html_answer (default) (record { raw_html = false; any_link = false; line_ends = LineEnds.CrLf }) ([]) (33 ∷ 91 ∷ 97 ∷ 13 ∷ 10 ∷ 98 ∷ 93 ∷ 40 ∷ 99 ∷ 41 ∷ []) ≡ (60 ∷ 105 ∷ 109 ∷ 103 ∷ 32 ∷ 115 ∷ 114 ∷ 99 ∷ 61 ∷ 34 ∷ 99 ∷ 34 ∷ 32 ∷ 97 ∷ 108 ∷ 116 ∷ 61 ∷ 34 ∷ 97 ∷ 10 ∷ 98 ∷ 34 ∷ 32 ∷ 47 ∷ 62 ∷ [])) ×
    -- «[a]»: «<a href="b">a</a>»
    (html_answer (record default { definitions = (codes "a") ∷ [] }) (record { raw_html = false; any_link = false; line_ends = LineEnds.Kept }) ((record { identifier = codes "a"; destination = codes "b"; title = None }) ∷ (record { identifier = codes "a"; destination = codes "c"; title = Some (codes "d") }) ∷ []) (codes "[a]") ≡ (codes "<a href=\"b\">a</a>")) ×
    -- «"&gt;<»: «&quot;&gt;&lt;»
    (html_answer (default) (record { raw_html = false; any_link = false; line_ends = LineEnds.Kept }) ([]) (codes "\"&gt;<") ≡ (codes "&quot;&gt;&lt;")) ×
    -- «mailto:a@b.c»: «<a href="mailto:a@b.c">mailto:a@b.c</a>»
    (html_answer (record default { options = record default_options { constructs = record default_constructs { gfm_autolink_literal = true } } }) (record { raw_html = false; any_link = false; line_ends = LineEnds.Kept }) ([]) (codes "mailto:a@b.c") ≡ (codes "<a href=\"mailto:a@b.c\">mailto:a@b.c</a>")) ×
    -- «xmpp:a@b.c»: «<a href="xmpp:a@b.c">xmpp:a@b.c</a>»
    (html_answer (record default { options = record default_options { constructs = record default_constructs { gfm_autolink_literal = true } } }) (record { raw_html = false; any_link = false; line_ends = LineEnds.Kept }) ([]) (codes "xmpp:a@b.c") ≡ (codes "<a href=\"xmpp:a@b.c\">xmpp:a@b.c</a>")) ×
    -- «[a](b "")»: «<a href="b" title="">a</a>»
    (html_answer (default) (record { raw_html = false; any_link = false; line_ends = LineEnds.Kept }) ([]) (codes "[a](b \"\")") ≡ (codes "<a href=\"b\" title=\"\">a</a>")) ×
    -- «[a]()»: «<a href="">a</a>»
    (html_answer (record default { definitions = (codes "a") ∷ [] }) (record { raw_html = false; any_link = false; line_ends = LineEnds.Kept }) ((record { identifier = codes "a"; destination = codes "b"; title = None }) ∷ []) (codes "[a]()") ≡ (codes "<a href=\"\">a</a>")) ×
    -- «[A]»: «<a href="b" title="c">A</a>»
    (html_answer (record default { definitions = (codes "a") ∷ [] }) (record { raw_html = false; any_link = false; line_ends = LineEnds.Kept }) ((record { identifier = codes "a"; destination = codes "b"; title = Some (codes "c") }) ∷ []) (codes "[A]") ≡ (codes "<a href=\"b\" title=\"c\">A</a>")) ×
    -- «![www.a.b $c$](d "e")»: «<img src="d" alt="www.a.b c" title="e" />»
    (html_answer (record default { options = record default_options { constructs = record default_constructs { gfm_autolink_literal = true; math_text = true } } }) (record { raw_html = false; any_link = false; line_ends = LineEnds.Kept }) ([]) (codes "![www.a.b $c$](d \"e\")") ≡ (codes "<img src=\"d\" alt=\"www.a.b c\" title=\"e\" />")) ×
    -- «[*a* <b> `c`](d)»: «<a href="d"><em>a</em> &lt;b&gt; <code>c</code></a>»
    (html_answer (default) (record { raw_html = false; any_link = false; line_ends = LineEnds.Kept }) ([]) (codes "[*a* <b> `c`](d)") ≡ (codes "<a href=\"d\"><em>a</em> &lt;b&gt; <code>c</code></a>")) ×
    -- «[`a`<bb:c>](d)»: «<a href="d"><code>a</code><a href="">bb:c</a></a>»
    (html_answer (default) (record { raw_html = false; any_link = false; line_ends = LineEnds.Kept }) ([]) (codes "[`a`<bb:c>](d)") ≡ (codes "<a href=\"d\"><code>a</code><a href=\"\">bb:c</a></a>")) ×
    -- «![a  ␊b](c)»: «<img src="c" alt="a␊b" />»
    (html_answer (default) (record { raw_html = false; any_link = false; line_ends = LineEnds.Kept }) ([]) (33 ∷ 91 ∷ 97 ∷ 32 ∷ 32 ∷ 10 ∷ 98 ∷ 93 ∷ 40 ∷ 99 ∷ 41 ∷ []) ≡ (60 ∷ 105 ∷ 109 ∷ 103 ∷ 32 ∷ 115 ∷ 114 ∷ 99 ∷ 61 ∷ 34 ∷ 99 ∷ 34 ∷ 32 ∷ 97 ∷ 108 ∷ 116 ∷ 61 ∷ 34 ∷ 97 ∷ 10 ∷ 98 ∷ 34 ∷ 32 ∷ 47 ∷ 62 ∷ [])) ×
    -- «![a\*&amp;](b)»: «<img src="b" alt="a*&amp;" />»
    (html_answer (default) (record { raw_html = false; any_link = false; line_ends = LineEnds.Kept }) ([]) (codes "![a\\*&amp;](b)") ≡ (codes "<img src=\"b\" alt=\"a*&amp;\" />")) ×
    -- «[a](b\&amp;&copy;)»: «<a href="b&amp;amp;%C2%A9">a</a>»
    (html_answer (default) (record { raw_html = false; any_link = false; line_ends = LineEnds.Kept }) ([]) (codes "[a](b\\&amp;&copy;)") ≡ (codes "<a href=\"b&amp;amp;%C2%A9\">a</a>")) ×
    -- «[a](?b:c)»: «<a href="?b:c">a</a>»
    (html_answer (default) (record { raw_html = false; any_link = false; line_ends = LineEnds.Kept }) ([]) (codes "[a](?b:c)") ≡ (codes "<a href=\"?b:c\">a</a>")) ×
    -- «[a](%20%a&amp;[)»: «<a href="%20%25a&amp;%5B">a</a>»
    (html_answer (default) (record { raw_html = false; any_link = false; line_ends = LineEnds.Kept }) ([]) (codes "[a](%20%a&amp;[)") ≡ (codes "<a href=\"%20%25a&amp;%5B\">a</a>")) ×
    -- «[^ a]»: «<a href="b">^ a</a>»
    (html_answer (record default { options = record default_options { constructs = record default_constructs { gfm_label_start_footnote = true } }; definitions = (codes "^a") ∷ [] }) (record { raw_html = false; any_link = false; line_ends = LineEnds.Kept }) ((record { identifier = codes "^a"; destination = codes "b"; title = None }) ∷ []) (codes "[^ a]") ≡ (codes "<a href=\"b\">^ a</a>")) ×
    -- «[^ a]»: «<a href="b">^ a</a>»
    (html_answer (record default { definitions = (codes "^ a") ∷ [] }) (record { raw_html = false; any_link = false; line_ends = LineEnds.Kept }) ((record { identifier = codes "^ a"; destination = codes "b"; title = None }) ∷ []) (codes "[^ a]") ≡ (codes "<a href=\"b\">^ a</a>")) ×
    -- «[c][^ a]»: «<a href="b">c</a>»
    (html_answer (record default { options = record default_options { constructs = record default_constructs { gfm_label_start_footnote = true } }; definitions = (codes "^ a") ∷ [] }) (record { raw_html = false; any_link = false; line_ends = LineEnds.Kept }) ((record { identifier = codes "^ a"; destination = codes "b"; title = None }) ∷ []) (codes "[c][^ a]") ≡ (codes "<a href=\"b\">c</a>")) ×
    -- «&Abreve;»: «&amp;Abreve;»
    (html_answer (default) (record { raw_html = false; any_link = false; line_ends = LineEnds.Kept }) ([]) (codes "&Abreve;") ≡ (codes "&amp;Abreve;")) ×
    -- «&Abreve; &NotEqualTilde;»: «Ă ≂̸»
    (html_answer (record default { options = record default_options { html_references = true } }) (record { raw_html = false; any_link = false; line_ends = LineEnds.Kept }) ([]) (codes "&Abreve; &NotEqualTilde;") ≡ (196 ∷ 130 ∷ 32 ∷ 226 ∷ 137 ∷ 130 ∷ 204 ∷ 184 ∷ [])) ×
    -- «&Abreve; [a](&Abreve;)»: «Ă <a href="%C4%82">a</a>»
    (html_answer (record default { options = record default_options { commonmark = true } }) (record { raw_html = false; any_link = false; line_ends = LineEnds.Kept }) ([]) (codes "&Abreve; [a](&Abreve;)") ≡ (196 ∷ 130 ∷ 32 ∷ 60 ∷ 97 ∷ 32 ∷ 104 ∷ 114 ∷ 101 ∷ 102 ∷ 61 ∷ 34 ∷ 37 ∷ 67 ∷ 52 ∷ 37 ∷ 56 ∷ 50 ∷ 34 ∷ 62 ∷ 97 ∷ 60 ∷ 47 ∷ 97 ∷ 62 ∷ [])) ×
    -- «&#1;&#x7F;&#xFFFE;»: «���»
    (html_answer (default) (record { raw_html = false; any_link = false; line_ends = LineEnds.Kept }) ([]) (codes "&#1;&#x7F;&#xFFFE;") ≡ (239 ∷ 191 ∷ 189 ∷ 239 ∷ 191 ∷ 189 ∷ 239 ∷ 191 ∷ 189 ∷ [])) ×
    -- «&#1;»: «�»
    (html_answer (record default { options = record default_options { html_references = true } }) (record { raw_html = false; any_link = false; line_ends = LineEnds.Kept }) ([]) (codes "&#1;") ≡ (239 ∷ 191 ∷ 189 ∷ [])) ×
    -- «&#1;&#x7F;&#xFFFE;»: «⟦U+0001⟧⟦U+007F⟧⟦U+FFFE⟧»
    (html_answer (record default { options = record default_options { commonmark = true } }) (record { raw_html = false; any_link = false; line_ends = LineEnds.Kept }) ([]) (codes "&#1;&#x7F;&#xFFFE;") ≡ (1 ∷ 127 ∷ 239 ∷ 191 ∷ 190 ∷ [])) ×
    -- «&#0;&#xD800;&#x110000;»: «���»
    (html_answer (default) (record { raw_html = false; any_link = false; line_ends = LineEnds.Kept }) ([]) (codes "&#0;&#xD800;&#x110000;") ≡ (239 ∷ 191 ∷ 189 ∷ 239 ∷ 191 ∷ 189 ∷ 239 ∷ 191 ∷ 189 ∷ [])) ×
    -- «&#0;&#xD800;&#x110000;&#65;»: «���A»
    (html_answer (record default { options = record default_options { commonmark = true } }) (record { raw_html = false; any_link = false; line_ends = LineEnds.Kept }) ([]) (codes "&#0;&#xD800;&#x110000;&#65;") ≡ (239 ∷ 191 ∷ 189 ∷ 239 ∷ 191 ∷ 189 ∷ 239 ∷ 191 ∷ 189 ∷ 65 ∷ [])) ×
    -- «*a* [b](c "d") ![e](f) &amp;\* <g> `h`»: «a b e &* <g> h»
    (text_answer (default) (codes "*a* [b](c \"d\") ![e](f) &amp;\\* <g> `h`") ≡ (codes "a b e &* <g> h"))
