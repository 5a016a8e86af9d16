-- Examples of CommonMark's specification, as HTML.
use Rattle.std.specs.Prelude.{◌≡◌, true, false, [], ◌∷◌, codes, Some}
use Rattle.markdown_worked_examples.specs.ExampleNotation.{default}
use Rattle.markdown_worked_examples.specs.HtmlNotation.{html_answer}
use Rattle.markdown_html_model.specs.declared.options.LineEnds.{LineEnds}

abbrev pub SpecificationRows : Type 0
SpecificationRows =
    -- «*foo bar*»: «<em>foo bar</em>»
    (html_answer (default) (record { raw_html = false; any_link = false; line_ends = LineEnds.Kept }) ([]) (codes "*foo bar*") ≡ (codes "<em>foo bar</em>")) ×
    -- «__foo bar__»: «<strong>foo bar</strong>»
    (html_answer (default) (record { raw_html = false; any_link = false; line_ends = LineEnds.Kept }) ([]) (codes "__foo bar__") ≡ (codes "<strong>foo bar</strong>")) ×
    -- «`` foo ` bar ``»: «<code>foo ` bar</code>»
    (html_answer (default) (record { raw_html = false; any_link = false; line_ends = LineEnds.Kept }) ([]) (codes "`` foo ` bar ``") ≡ (codes "<code>foo ` bar</code>")) ×
    -- «` `` `»: «<code>``</code>»
    (html_answer (default) (record { raw_html = false; any_link = false; line_ends = LineEnds.Kept }) ([]) (codes "` `` `") ≡ (codes "<code>``</code>")) ×
    -- «``␊foo ␊``»: «<code>foo </code>»
    (html_answer (default) (record { raw_html = false; any_link = false; line_ends = LineEnds.Kept }) ([]) (96 ∷ 96 ∷ 10 ∷ 102 ∷ 111 ∷ 111 ∷ 32 ∷ 10 ∷ 96 ∷ 96 ∷ []) ≡ (codes "<code>foo </code>")) ×
    -- «foo  ␊     bar»: «foo<br />␊bar»
    (html_answer (default) (record { raw_html = false; any_link = false; line_ends = LineEnds.Kept }) ([]) (102 ∷ 111 ∷ 111 ∷ 32 ∷ 32 ∷ 10 ∷ 32 ∷ 32 ∷ 32 ∷ 32 ∷ 32 ∷ 98 ∷ 97 ∷ 114 ∷ []) ≡ (102 ∷ 111 ∷ 111 ∷ 60 ∷ 98 ∷ 114 ∷ 32 ∷ 47 ∷ 62 ∷ 10 ∷ 98 ∷ 97 ∷ 114 ∷ [])) ×
    -- «foo\␊bar»: «foo<br />␊bar»
    (html_answer (default) (record { raw_html = false; any_link = false; line_ends = LineEnds.Kept }) ([]) (102 ∷ 111 ∷ 111 ∷ 92 ∷ 10 ∷ 98 ∷ 97 ∷ 114 ∷ []) ≡ (102 ∷ 111 ∷ 111 ∷ 60 ∷ 98 ∷ 114 ∷ 32 ∷ 47 ∷ 62 ∷ 10 ∷ 98 ∷ 97 ∷ 114 ∷ [])) ×
    -- «foo␊baz»: «foo␊baz»
    (html_answer (default) (record { raw_html = false; any_link = false; line_ends = LineEnds.Kept }) ([]) (102 ∷ 111 ∷ 111 ∷ 10 ∷ 98 ∷ 97 ∷ 122 ∷ []) ≡ (102 ∷ 111 ∷ 111 ∷ 10 ∷ 98 ∷ 97 ∷ 122 ∷ [])) ×
    -- «\*not emphasized*»: «*not emphasized*»
    (html_answer (default) (record { raw_html = false; any_link = false; line_ends = LineEnds.Kept }) ([]) (codes "\\*not emphasized*") ≡ (codes "*not emphasized*")) ×
    -- «&quot;»: «&quot;»
    (html_answer (default) (record { raw_html = false; any_link = false; line_ends = LineEnds.Kept }) ([]) (codes "&quot;") ≡ (codes "&quot;")) ×
    -- «[link](/uri "title")»: «<a href="/uri" title="title">link</a>»
    (html_answer (default) (record { raw_html = false; any_link = false; line_ends = LineEnds.Kept }) ([]) (codes "[link](/uri \"title\")") ≡ (codes "<a href=\"/uri\" title=\"title\">link</a>")) ×
    -- «[link]()»: «<a href="">link</a>»
    (html_answer (default) (record { raw_html = false; any_link = false; line_ends = LineEnds.Kept }) ([]) (codes "[link]()") ≡ (codes "<a href=\"\">link</a>")) ×
    -- «[link](</my uri>)»: «<a href="/my%20uri">link</a>»
    (html_answer (default) (record { raw_html = false; any_link = false; line_ends = LineEnds.Kept }) ([]) (codes "[link](</my uri>)") ≡ (codes "<a href=\"/my%20uri\">link</a>")) ×
    -- «[link](foo\)\:)»: «<a href="foo):">link</a>»
    (html_answer (default) (record { raw_html = false; any_link = true; line_ends = LineEnds.Kept }) ([]) (codes "[link](foo\\)\\:)") ≡ (codes "<a href=\"foo):\">link</a>")) ×
    -- «[link](/url "title \"&quot;")»: «<a href="/url" title="title &quot;&quot;">link</a>»
    (html_answer (default) (record { raw_html = false; any_link = false; line_ends = LineEnds.Kept }) ([]) (codes "[link](/url \"title \\\"&quot;\")") ≡ (codes "<a href=\"/url\" title=\"title &quot;&quot;\">link</a>")) ×
    -- «![foo](/url "title")»: «<img src="/url" alt="foo" title="title" />»
    (html_answer (default) (record { raw_html = false; any_link = false; line_ends = LineEnds.Kept }) ([]) (codes "![foo](/url \"title\")") ≡ (codes "<img src=\"/url\" alt=\"foo\" title=\"title\" />")) ×
    -- «![foo ![bar](/url)](/url2)»: «<img src="/url2" alt="foo bar" />»
    (html_answer (default) (record { raw_html = false; any_link = false; line_ends = LineEnds.Kept }) ([]) (codes "![foo ![bar](/url)](/url2)") ≡ (codes "<img src=\"/url2\" alt=\"foo bar\" />")) ×
    -- «<http://foo.bar.baz>»: «<a href="http://foo.bar.baz">http://foo.bar.baz</a>»
    (html_answer (default) (record { raw_html = false; any_link = false; line_ends = LineEnds.Kept }) ([]) (codes "<http://foo.bar.baz>") ≡ (codes "<a href=\"http://foo.bar.baz\">http://foo.bar.baz</a>")) ×
    -- «<foo@bar.example.com>»: «<a href="mailto:foo@bar.example.com">foo@bar.example.com</a>»
    (html_answer (default) (record { raw_html = false; any_link = false; line_ends = LineEnds.Kept }) ([]) (codes "<foo@bar.example.com>") ≡ (codes "<a href=\"mailto:foo@bar.example.com\">foo@bar.example.com</a>")) ×
    -- «[foo][bar]»: «<a href="/url" title="title">foo</a>»
    (html_answer (record default { definitions = (codes "bar") ∷ [] }) (record { raw_html = false; any_link = false; line_ends = LineEnds.Kept }) ((record { identifier = codes "bar"; destination = codes "/url"; title = Some (codes "title") }) ∷ []) (codes "[foo][bar]") ≡ (codes "<a href=\"/url\" title=\"title\">foo</a>"))
