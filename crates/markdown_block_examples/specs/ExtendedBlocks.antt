-- Blocks of GFM, math and front matter, written by tools/blocks.py from tools/extended.txt.
use Rattle.std.specs.Prelude.{◌≡◌, true, false, [], ◌∷◌, codes, None}
use Rattle.markdown_block_model.specs.BlockTree.{bullet, ordered, unaligned, left, right, center}
use Rattle.markdown_block_examples.specs.BlockNotation.{break, head, text, code, fenced, markup, in_quote, in_item, in_note, grid, math, matter, extended_answer, end, defined}

abbrev pub SpecTables : Type 0
SpecTables =
    -- «| foo | bar |␊| --- | --- |␊| baz | bim |␊»: table unaligned unaligned [«foo» «bar»] [«baz» «bim»]
    (extended_answer (124 ∷ 32 ∷ 102 ∷ 111 ∷ 111 ∷ 32 ∷ 124 ∷ 32 ∷ 98 ∷ 97 ∷ 114 ∷ 32 ∷ 124 ∷ 10 ∷ 124 ∷ 32 ∷ 45 ∷ 45 ∷ 45 ∷ 32 ∷ 124 ∷ 32 ∷ 45 ∷ 45 ∷ 45 ∷ 32 ∷ 124 ∷ 10 ∷ 124 ∷ 32 ∷ 98 ∷ 97 ∷ 122 ∷ 32 ∷ 124 ∷ 32 ∷ 98 ∷ 105 ∷ 109 ∷ 32 ∷ 124 ∷ 10 ∷ []) ≡ (grid (unaligned ∷ unaligned ∷ []) (((codes "foo") ∷ (codes "bar") ∷ []) ∷ ((codes "baz") ∷ (codes "bim") ∷ []) ∷ []) ∷ [])) ×
    -- «| abc | defghi |␊:-: | -----------:␊bar | baz␊»: table center right [«abc» «defghi»] [«bar» «baz»]
    (extended_answer (124 ∷ 32 ∷ 97 ∷ 98 ∷ 99 ∷ 32 ∷ 124 ∷ 32 ∷ 100 ∷ 101 ∷ 102 ∷ 103 ∷ 104 ∷ 105 ∷ 32 ∷ 124 ∷ 10 ∷ 58 ∷ 45 ∷ 58 ∷ 32 ∷ 124 ∷ 32 ∷ 45 ∷ 45 ∷ 45 ∷ 45 ∷ 45 ∷ 45 ∷ 45 ∷ 45 ∷ 45 ∷ 45 ∷ 45 ∷ 58 ∷ 10 ∷ 98 ∷ 97 ∷ 114 ∷ 32 ∷ 124 ∷ 32 ∷ 98 ∷ 97 ∷ 122 ∷ 10 ∷ []) ≡ (grid (center ∷ right ∷ []) (((codes "abc") ∷ (codes "defghi") ∷ []) ∷ ((codes "bar") ∷ (codes "baz") ∷ []) ∷ []) ∷ [])) ×
    -- «| f\|oo  |␊| ------ |␊| b `\|` az |␊| b **\|** im |␊»: table unaligned [«f\|oo»] [«b `\|` az»] [«b **\|** im»]
    (extended_answer (124 ∷ 32 ∷ 102 ∷ 92 ∷ 124 ∷ 111 ∷ 111 ∷ 32 ∷ 32 ∷ 124 ∷ 10 ∷ 124 ∷ 32 ∷ 45 ∷ 45 ∷ 45 ∷ 45 ∷ 45 ∷ 45 ∷ 32 ∷ 124 ∷ 10 ∷ 124 ∷ 32 ∷ 98 ∷ 32 ∷ 96 ∷ 92 ∷ 124 ∷ 96 ∷ 32 ∷ 97 ∷ 122 ∷ 32 ∷ 124 ∷ 10 ∷ 124 ∷ 32 ∷ 98 ∷ 32 ∷ 42 ∷ 42 ∷ 92 ∷ 124 ∷ 42 ∷ 42 ∷ 32 ∷ 105 ∷ 109 ∷ 32 ∷ 124 ∷ 10 ∷ []) ≡ (grid (unaligned ∷ []) (((codes "f\\|oo") ∷ []) ∷ ((codes "b `\\|` az") ∷ []) ∷ ((codes "b **\\|** im") ∷ []) ∷ []) ∷ [])) ×
    -- «| abc | def |␊| --- | --- |␊| bar | baz |␊> bar␊»: table unaligned unaligned [«abc» «def»] [«bar» «baz»], quote [text «bar»]
    (extended_answer (124 ∷ 32 ∷ 97 ∷ 98 ∷ 99 ∷ 32 ∷ 124 ∷ 32 ∷ 100 ∷ 101 ∷ 102 ∷ 32 ∷ 124 ∷ 10 ∷ 124 ∷ 32 ∷ 45 ∷ 45 ∷ 45 ∷ 32 ∷ 124 ∷ 32 ∷ 45 ∷ 45 ∷ 45 ∷ 32 ∷ 124 ∷ 10 ∷ 124 ∷ 32 ∷ 98 ∷ 97 ∷ 114 ∷ 32 ∷ 124 ∷ 32 ∷ 98 ∷ 97 ∷ 122 ∷ 32 ∷ 124 ∷ 10 ∷ 62 ∷ 32 ∷ 98 ∷ 97 ∷ 114 ∷ 10 ∷ []) ≡ (grid (unaligned ∷ unaligned ∷ []) (((codes "abc") ∷ (codes "def") ∷ []) ∷ ((codes "bar") ∷ (codes "baz") ∷ []) ∷ []) ∷ in_quote ∷ text (codes "bar") ∷ end ∷ [])) ×
    -- «| abc | def |␊| --- | --- |␊| bar | baz |␊bar␊␊bar␊»: table unaligned unaligned [«abc» «def»] [«bar» «baz»] [«bar» «»], text «bar»
    (extended_answer (124 ∷ 32 ∷ 97 ∷ 98 ∷ 99 ∷ 32 ∷ 124 ∷ 32 ∷ 100 ∷ 101 ∷ 102 ∷ 32 ∷ 124 ∷ 10 ∷ 124 ∷ 32 ∷ 45 ∷ 45 ∷ 45 ∷ 32 ∷ 124 ∷ 32 ∷ 45 ∷ 45 ∷ 45 ∷ 32 ∷ 124 ∷ 10 ∷ 124 ∷ 32 ∷ 98 ∷ 97 ∷ 114 ∷ 32 ∷ 124 ∷ 32 ∷ 98 ∷ 97 ∷ 122 ∷ 32 ∷ 124 ∷ 10 ∷ 98 ∷ 97 ∷ 114 ∷ 10 ∷ 10 ∷ 98 ∷ 97 ∷ 114 ∷ 10 ∷ []) ≡ (grid (unaligned ∷ unaligned ∷ []) (((codes "abc") ∷ (codes "def") ∷ []) ∷ ((codes "bar") ∷ (codes "baz") ∷ []) ∷ ((codes "bar") ∷ (codes "") ∷ []) ∷ []) ∷ text (codes "bar") ∷ [])) ×
    -- «| abc | def |␊| --- |␊| bar |␊»: text «| abc | def |␊| --- |␊| bar |»
    (extended_answer (124 ∷ 32 ∷ 97 ∷ 98 ∷ 99 ∷ 32 ∷ 124 ∷ 32 ∷ 100 ∷ 101 ∷ 102 ∷ 32 ∷ 124 ∷ 10 ∷ 124 ∷ 32 ∷ 45 ∷ 45 ∷ 45 ∷ 32 ∷ 124 ∷ 10 ∷ 124 ∷ 32 ∷ 98 ∷ 97 ∷ 114 ∷ 32 ∷ 124 ∷ 10 ∷ []) ≡ (text (124 ∷ 32 ∷ 97 ∷ 98 ∷ 99 ∷ 32 ∷ 124 ∷ 32 ∷ 100 ∷ 101 ∷ 102 ∷ 32 ∷ 124 ∷ 10 ∷ 124 ∷ 32 ∷ 45 ∷ 45 ∷ 45 ∷ 32 ∷ 124 ∷ 10 ∷ 124 ∷ 32 ∷ 98 ∷ 97 ∷ 114 ∷ 32 ∷ 124 ∷ []) ∷ [])) ×
    -- «| abc | def |␊| --- | --- |␊| bar |␊| bar | baz | boo |␊»: table unaligned unaligned [«abc» «def»] [«bar» «»] [«bar» «baz»]
    (extended_answer (124 ∷ 32 ∷ 97 ∷ 98 ∷ 99 ∷ 32 ∷ 124 ∷ 32 ∷ 100 ∷ 101 ∷ 102 ∷ 32 ∷ 124 ∷ 10 ∷ 124 ∷ 32 ∷ 45 ∷ 45 ∷ 45 ∷ 32 ∷ 124 ∷ 32 ∷ 45 ∷ 45 ∷ 45 ∷ 32 ∷ 124 ∷ 10 ∷ 124 ∷ 32 ∷ 98 ∷ 97 ∷ 114 ∷ 32 ∷ 124 ∷ 10 ∷ 124 ∷ 32 ∷ 98 ∷ 97 ∷ 114 ∷ 32 ∷ 124 ∷ 32 ∷ 98 ∷ 97 ∷ 122 ∷ 32 ∷ 124 ∷ 32 ∷ 98 ∷ 111 ∷ 111 ∷ 32 ∷ 124 ∷ 10 ∷ []) ≡ (grid (unaligned ∷ unaligned ∷ []) (((codes "abc") ∷ (codes "def") ∷ []) ∷ ((codes "bar") ∷ (codes "") ∷ []) ∷ ((codes "bar") ∷ (codes "baz") ∷ []) ∷ []) ∷ [])) ×
    -- «| abc | def |␊| --- | --- |␊»: table unaligned unaligned [«abc» «def»]
    (extended_answer (124 ∷ 32 ∷ 97 ∷ 98 ∷ 99 ∷ 32 ∷ 124 ∷ 32 ∷ 100 ∷ 101 ∷ 102 ∷ 32 ∷ 124 ∷ 10 ∷ 124 ∷ 32 ∷ 45 ∷ 45 ∷ 45 ∷ 32 ∷ 124 ∷ 32 ∷ 45 ∷ 45 ∷ 45 ∷ 32 ∷ 124 ∷ 10 ∷ []) ≡ (grid (unaligned ∷ unaligned ∷ []) (((codes "abc") ∷ (codes "def") ∷ []) ∷ []) ∷ []))

abbrev pub ExtensionTables : Type 0
ExtensionTables =
    -- «| abc | def |␊| --- | --- |␊| ghi | jkl |␊| mno | pqr |␊»: table unaligned unaligned [«abc» «def»] [«ghi» «jkl»] [«mno» «pqr»]
    (extended_answer (124 ∷ 32 ∷ 97 ∷ 98 ∷ 99 ∷ 32 ∷ 124 ∷ 32 ∷ 100 ∷ 101 ∷ 102 ∷ 32 ∷ 124 ∷ 10 ∷ 124 ∷ 32 ∷ 45 ∷ 45 ∷ 45 ∷ 32 ∷ 124 ∷ 32 ∷ 45 ∷ 45 ∷ 45 ∷ 32 ∷ 124 ∷ 10 ∷ 124 ∷ 32 ∷ 103 ∷ 104 ∷ 105 ∷ 32 ∷ 124 ∷ 32 ∷ 106 ∷ 107 ∷ 108 ∷ 32 ∷ 124 ∷ 10 ∷ 124 ∷ 32 ∷ 109 ∷ 110 ∷ 111 ∷ 32 ∷ 124 ∷ 32 ∷ 112 ∷ 113 ∷ 114 ∷ 32 ∷ 124 ∷ 10 ∷ []) ≡ (grid (unaligned ∷ unaligned ∷ []) (((codes "abc") ∷ (codes "def") ∷ []) ∷ ((codes "ghi") ∷ (codes "jkl") ∷ []) ∷ ((codes "mno") ∷ (codes "pqr") ∷ []) ∷ []) ∷ [])) ×
    -- «Hello!␊␊| _abc_ | セン |␊| ----- | ---- |␊| 1. Block elements inside cells don't work. | |␊| But _**inline elements do**_. | x |␊␊Hi!␊»: text «Hello!», table unaligned unaligned [«_abc_» «セン»] [«1. Block elements inside cells don't work.» «»] [«But _**inline elements do**_.» «x»], text «Hi!»
    (extended_answer (72 ∷ 101 ∷ 108 ∷ 108 ∷ 111 ∷ 33 ∷ 10 ∷ 10 ∷ 124 ∷ 32 ∷ 95 ∷ 97 ∷ 98 ∷ 99 ∷ 95 ∷ 32 ∷ 124 ∷ 32 ∷ 227 ∷ 130 ∷ 187 ∷ 227 ∷ 131 ∷ 179 ∷ 32 ∷ 124 ∷ 10 ∷ 124 ∷ 32 ∷ 45 ∷ 45 ∷ 45 ∷ 45 ∷ 45 ∷ 32 ∷ 124 ∷ 32 ∷ 45 ∷ 45 ∷ 45 ∷ 45 ∷ 32 ∷ 124 ∷ 10 ∷ 124 ∷ 32 ∷ 49 ∷ 46 ∷ 32 ∷ 66 ∷ 108 ∷ 111 ∷ 99 ∷ 107 ∷ 32 ∷ 101 ∷ 108 ∷ 101 ∷ 109 ∷ 101 ∷ 110 ∷ 116 ∷ 115 ∷ 32 ∷ 105 ∷ 110 ∷ 115 ∷ 105 ∷ 100 ∷ 101 ∷ 32 ∷ 99 ∷ 101 ∷ 108 ∷ 108 ∷ 115 ∷ 32 ∷ 100 ∷ 111 ∷ 110 ∷ 39 ∷ 116 ∷ 32 ∷ 119 ∷ 111 ∷ 114 ∷ 107 ∷ 46 ∷ 32 ∷ 124 ∷ 32 ∷ 124 ∷ 10 ∷ 124 ∷ 32 ∷ 66 ∷ 117 ∷ 116 ∷ 32 ∷ 95 ∷ 42 ∷ 42 ∷ 105 ∷ 110 ∷ 108 ∷ 105 ∷ 110 ∷ 101 ∷ 32 ∷ 101 ∷ 108 ∷ 101 ∷ 109 ∷ 101 ∷ 110 ∷ 116 ∷ 115 ∷ 32 ∷ 100 ∷ 111 ∷ 42 ∷ 42 ∷ 95 ∷ 46 ∷ 32 ∷ 124 ∷ 32 ∷ 120 ∷ 32 ∷ 124 ∷ 10 ∷ 10 ∷ 72 ∷ 105 ∷ 33 ∷ 10 ∷ []) ≡ (text (codes "Hello!") ∷ grid (unaligned ∷ unaligned ∷ []) (((codes "_abc_") ∷ (227 ∷ 130 ∷ 187 ∷ 227 ∷ 131 ∷ 179 ∷ []) ∷ []) ∷ ((codes "1. Block elements inside cells don't work.") ∷ (codes "") ∷ []) ∷ ((codes "But _**inline elements do**_.") ∷ (codes "x") ∷ []) ∷ []) ∷ text (codes "Hi!") ∷ [])) ×
    -- «| Not enough table | to be considered table |␊␊| Not enough table | to be considered table |␊| Not enough table | to be considered table |␊␊| Just enough table | to be considered table |␊| ----------------- | ---------------------- |␊␊| ---- | --- |␊␊|x|␊|-|␊␊| xyz |␊| --- |␊»: text «| Not enough table | to be considered table |», text «| Not enough table | to be considered table |␊| Not enough table | to be considered table |», table unaligned unaligned [«Just enough table» «to be considered table»], text «| ---- | --- |», table unaligned [«x»], table unaligned [«xyz»]
    (extended_answer (124 ∷ 32 ∷ 78 ∷ 111 ∷ 116 ∷ 32 ∷ 101 ∷ 110 ∷ 111 ∷ 117 ∷ 103 ∷ 104 ∷ 32 ∷ 116 ∷ 97 ∷ 98 ∷ 108 ∷ 101 ∷ 32 ∷ 124 ∷ 32 ∷ 116 ∷ 111 ∷ 32 ∷ 98 ∷ 101 ∷ 32 ∷ 99 ∷ 111 ∷ 110 ∷ 115 ∷ 105 ∷ 100 ∷ 101 ∷ 114 ∷ 101 ∷ 100 ∷ 32 ∷ 116 ∷ 97 ∷ 98 ∷ 108 ∷ 101 ∷ 32 ∷ 124 ∷ 10 ∷ 10 ∷ 124 ∷ 32 ∷ 78 ∷ 111 ∷ 116 ∷ 32 ∷ 101 ∷ 110 ∷ 111 ∷ 117 ∷ 103 ∷ 104 ∷ 32 ∷ 116 ∷ 97 ∷ 98 ∷ 108 ∷ 101 ∷ 32 ∷ 124 ∷ 32 ∷ 116 ∷ 111 ∷ 32 ∷ 98 ∷ 101 ∷ 32 ∷ 99 ∷ 111 ∷ 110 ∷ 115 ∷ 105 ∷ 100 ∷ 101 ∷ 114 ∷ 101 ∷ 100 ∷ 32 ∷ 116 ∷ 97 ∷ 98 ∷ 108 ∷ 101 ∷ 32 ∷ 124 ∷ 10 ∷ 124 ∷ 32 ∷ 78 ∷ 111 ∷ 116 ∷ 32 ∷ 101 ∷ 110 ∷ 111 ∷ 117 ∷ 103 ∷ 104 ∷ 32 ∷ 116 ∷ 97 ∷ 98 ∷ 108 ∷ 101 ∷ 32 ∷ 124 ∷ 32 ∷ 116 ∷ 111 ∷ 32 ∷ 98 ∷ 101 ∷ 32 ∷ 99 ∷ 111 ∷ 110 ∷ 115 ∷ 105 ∷ 100 ∷ 101 ∷ 114 ∷ 101 ∷ 100 ∷ 32 ∷ 116 ∷ 97 ∷ 98 ∷ 108 ∷ 101 ∷ 32 ∷ 124 ∷ 10 ∷ 10 ∷ 124 ∷ 32 ∷ 74 ∷ 117 ∷ 115 ∷ 116 ∷ 32 ∷ 101 ∷ 110 ∷ 111 ∷ 117 ∷ 103 ∷ 104 ∷ 32 ∷ 116 ∷ 97 ∷ 98 ∷ 108 ∷ 101 ∷ 32 ∷ 124 ∷ 32 ∷ 116 ∷ 111 ∷ 32 ∷ 98 ∷ 101 ∷ 32 ∷ 99 ∷ 111 ∷ 110 ∷ 115 ∷ 105 ∷ 100 ∷ 101 ∷ 114 ∷ 101 ∷ 100 ∷ 32 ∷ 116 ∷ 97 ∷ 98 ∷ 108 ∷ 101 ∷ 32 ∷ 124 ∷ 10 ∷ 124 ∷ 32 ∷ 45 ∷ 45 ∷ 45 ∷ 45 ∷ 45 ∷ 45 ∷ 45 ∷ 45 ∷ 45 ∷ 45 ∷ 45 ∷ 45 ∷ 45 ∷ 45 ∷ 45 ∷ 45 ∷ 45 ∷ 32 ∷ 124 ∷ 32 ∷ 45 ∷ 45 ∷ 45 ∷ 45 ∷ 45 ∷ 45 ∷ 45 ∷ 45 ∷ 45 ∷ 45 ∷ 45 ∷ 45 ∷ 45 ∷ 45 ∷ 45 ∷ 45 ∷ 45 ∷ 45 ∷ 45 ∷ 45 ∷ 45 ∷ 45 ∷ 32 ∷ 124 ∷ 10 ∷ 10 ∷ 124 ∷ 32 ∷ 45 ∷ 45 ∷ 45 ∷ 45 ∷ 32 ∷ 124 ∷ 32 ∷ 45 ∷ 45 ∷ 45 ∷ 32 ∷ 124 ∷ 10 ∷ 10 ∷ 124 ∷ 120 ∷ 124 ∷ 10 ∷ 124 ∷ 45 ∷ 124 ∷ 10 ∷ 10 ∷ 124 ∷ 32 ∷ 120 ∷ 121 ∷ 122 ∷ 32 ∷ 124 ∷ 10 ∷ 124 ∷ 32 ∷ 45 ∷ 45 ∷ 45 ∷ 32 ∷ 124 ∷ 10 ∷ []) ≡ (text (codes "| Not enough table | to be considered table |") ∷ text (124 ∷ 32 ∷ 78 ∷ 111 ∷ 116 ∷ 32 ∷ 101 ∷ 110 ∷ 111 ∷ 117 ∷ 103 ∷ 104 ∷ 32 ∷ 116 ∷ 97 ∷ 98 ∷ 108 ∷ 101 ∷ 32 ∷ 124 ∷ 32 ∷ 116 ∷ 111 ∷ 32 ∷ 98 ∷ 101 ∷ 32 ∷ 99 ∷ 111 ∷ 110 ∷ 115 ∷ 105 ∷ 100 ∷ 101 ∷ 114 ∷ 101 ∷ 100 ∷ 32 ∷ 116 ∷ 97 ∷ 98 ∷ 108 ∷ 101 ∷ 32 ∷ 124 ∷ 10 ∷ 124 ∷ 32 ∷ 78 ∷ 111 ∷ 116 ∷ 32 ∷ 101 ∷ 110 ∷ 111 ∷ 117 ∷ 103 ∷ 104 ∷ 32 ∷ 116 ∷ 97 ∷ 98 ∷ 108 ∷ 101 ∷ 32 ∷ 124 ∷ 32 ∷ 116 ∷ 111 ∷ 32 ∷ 98 ∷ 101 ∷ 32 ∷ 99 ∷ 111 ∷ 110 ∷ 115 ∷ 105 ∷ 100 ∷ 101 ∷ 114 ∷ 101 ∷ 100 ∷ 32 ∷ 116 ∷ 97 ∷ 98 ∷ 108 ∷ 101 ∷ 32 ∷ 124 ∷ []) ∷ grid (unaligned ∷ unaligned ∷ []) (((codes "Just enough table") ∷ (codes "to be considered table") ∷ []) ∷ []) ∷ text (codes "| ---- | --- |") ∷ grid (unaligned ∷ []) (((codes "x") ∷ []) ∷ []) ∷ grid (unaligned ∷ []) (((codes "xyz") ∷ []) ∷ []) ∷ [])) ×
    -- «abc | def␊--- | ---␊xyz | ghi␊»: table unaligned unaligned [«abc» «def»] [«xyz» «ghi»]
    (extended_answer (97 ∷ 98 ∷ 99 ∷ 32 ∷ 124 ∷ 32 ∷ 100 ∷ 101 ∷ 102 ∷ 10 ∷ 45 ∷ 45 ∷ 45 ∷ 32 ∷ 124 ∷ 32 ∷ 45 ∷ 45 ∷ 45 ∷ 10 ∷ 120 ∷ 121 ∷ 122 ∷ 32 ∷ 124 ∷ 32 ∷ 103 ∷ 104 ∷ 105 ∷ 10 ∷ []) ≡ (grid (unaligned ∷ unaligned ∷ []) (((codes "abc") ∷ (codes "def") ∷ []) ∷ ((codes "xyz") ∷ (codes "ghi") ∷ []) ∷ []) ∷ [])) ×
    -- «Hello!␊␊| _abc_ | セン |␊| ----- | ---- |␊| this row has a space at the end | | ␊| But _**inline elements do**_. | x |␊␊Hi!␊»: text «Hello!», table unaligned unaligned [«_abc_» «セン»] [«this row has a space at the end» «»] [«But _**inline elements do**_.» «x»], text «Hi!»
    (extended_answer (72 ∷ 101 ∷ 108 ∷ 108 ∷ 111 ∷ 33 ∷ 10 ∷ 10 ∷ 124 ∷ 32 ∷ 95 ∷ 97 ∷ 98 ∷ 99 ∷ 95 ∷ 32 ∷ 124 ∷ 32 ∷ 227 ∷ 130 ∷ 187 ∷ 227 ∷ 131 ∷ 179 ∷ 32 ∷ 124 ∷ 10 ∷ 124 ∷ 32 ∷ 45 ∷ 45 ∷ 45 ∷ 45 ∷ 45 ∷ 32 ∷ 124 ∷ 32 ∷ 45 ∷ 45 ∷ 45 ∷ 45 ∷ 32 ∷ 124 ∷ 10 ∷ 124 ∷ 32 ∷ 116 ∷ 104 ∷ 105 ∷ 115 ∷ 32 ∷ 114 ∷ 111 ∷ 119 ∷ 32 ∷ 104 ∷ 97 ∷ 115 ∷ 32 ∷ 97 ∷ 32 ∷ 115 ∷ 112 ∷ 97 ∷ 99 ∷ 101 ∷ 32 ∷ 97 ∷ 116 ∷ 32 ∷ 116 ∷ 104 ∷ 101 ∷ 32 ∷ 101 ∷ 110 ∷ 100 ∷ 32 ∷ 124 ∷ 32 ∷ 124 ∷ 32 ∷ 10 ∷ 124 ∷ 32 ∷ 66 ∷ 117 ∷ 116 ∷ 32 ∷ 95 ∷ 42 ∷ 42 ∷ 105 ∷ 110 ∷ 108 ∷ 105 ∷ 110 ∷ 101 ∷ 32 ∷ 101 ∷ 108 ∷ 101 ∷ 109 ∷ 101 ∷ 110 ∷ 116 ∷ 115 ∷ 32 ∷ 100 ∷ 111 ∷ 42 ∷ 42 ∷ 95 ∷ 46 ∷ 32 ∷ 124 ∷ 32 ∷ 120 ∷ 32 ∷ 124 ∷ 10 ∷ 10 ∷ 72 ∷ 105 ∷ 33 ∷ 10 ∷ []) ≡ (text (codes "Hello!") ∷ grid (unaligned ∷ unaligned ∷ []) (((codes "_abc_") ∷ (227 ∷ 130 ∷ 187 ∷ 227 ∷ 131 ∷ 179 ∷ []) ∷ []) ∷ ((codes "this row has a space at the end") ∷ (codes "") ∷ []) ∷ ((codes "But _**inline elements do**_.") ∷ (codes "x") ∷ []) ∷ []) ∷ text (codes "Hi!") ∷ [])) ×
    -- «aaa | bbb | ccc | ddd | eee␊:-- | --- | :-: | --- | --:␊fff | ggg | hhh | iii | jjj␊»: table left unaligned center unaligned right [«aaa» «bbb» «ccc» «ddd» «eee»] [«fff» «ggg» «hhh» «iii» «jjj»]
    (extended_answer (97 ∷ 97 ∷ 97 ∷ 32 ∷ 124 ∷ 32 ∷ 98 ∷ 98 ∷ 98 ∷ 32 ∷ 124 ∷ 32 ∷ 99 ∷ 99 ∷ 99 ∷ 32 ∷ 124 ∷ 32 ∷ 100 ∷ 100 ∷ 100 ∷ 32 ∷ 124 ∷ 32 ∷ 101 ∷ 101 ∷ 101 ∷ 10 ∷ 58 ∷ 45 ∷ 45 ∷ 32 ∷ 124 ∷ 32 ∷ 45 ∷ 45 ∷ 45 ∷ 32 ∷ 124 ∷ 32 ∷ 58 ∷ 45 ∷ 58 ∷ 32 ∷ 124 ∷ 32 ∷ 45 ∷ 45 ∷ 45 ∷ 32 ∷ 124 ∷ 32 ∷ 45 ∷ 45 ∷ 58 ∷ 10 ∷ 102 ∷ 102 ∷ 102 ∷ 32 ∷ 124 ∷ 32 ∷ 103 ∷ 103 ∷ 103 ∷ 32 ∷ 124 ∷ 32 ∷ 104 ∷ 104 ∷ 104 ∷ 32 ∷ 124 ∷ 32 ∷ 105 ∷ 105 ∷ 105 ∷ 32 ∷ 124 ∷ 32 ∷ 106 ∷ 106 ∷ 106 ∷ 10 ∷ []) ≡ (grid (left ∷ unaligned ∷ center ∷ unaligned ∷ right ∷ []) (((codes "aaa") ∷ (codes "bbb") ∷ (codes "ccc") ∷ (codes "ddd") ∷ (codes "eee") ∷ []) ∷ ((codes "fff") ∷ (codes "ggg") ∷ (codes "hhh") ∷ (codes "iii") ∷ (codes "jjj") ∷ []) ∷ []) ∷ [])) ×
    -- «| a | b | c |␊| --- | --- |␊| this | isn't | okay |␊»: text «| a | b | c |␊| --- | --- |␊| this | isn't | okay |»
    (extended_answer (124 ∷ 32 ∷ 97 ∷ 32 ∷ 124 ∷ 32 ∷ 98 ∷ 32 ∷ 124 ∷ 32 ∷ 99 ∷ 32 ∷ 124 ∷ 10 ∷ 124 ∷ 32 ∷ 45 ∷ 45 ∷ 45 ∷ 32 ∷ 124 ∷ 32 ∷ 45 ∷ 45 ∷ 45 ∷ 32 ∷ 124 ∷ 10 ∷ 124 ∷ 32 ∷ 116 ∷ 104 ∷ 105 ∷ 115 ∷ 32 ∷ 124 ∷ 32 ∷ 105 ∷ 115 ∷ 110 ∷ 39 ∷ 116 ∷ 32 ∷ 124 ∷ 32 ∷ 111 ∷ 107 ∷ 97 ∷ 121 ∷ 32 ∷ 124 ∷ 10 ∷ []) ≡ (text (124 ∷ 32 ∷ 97 ∷ 32 ∷ 124 ∷ 32 ∷ 98 ∷ 32 ∷ 124 ∷ 32 ∷ 99 ∷ 32 ∷ 124 ∷ 10 ∷ 124 ∷ 32 ∷ 45 ∷ 45 ∷ 45 ∷ 32 ∷ 124 ∷ 32 ∷ 45 ∷ 45 ∷ 45 ∷ 32 ∷ 124 ∷ 10 ∷ 124 ∷ 32 ∷ 116 ∷ 104 ∷ 105 ∷ 115 ∷ 32 ∷ 124 ∷ 32 ∷ 105 ∷ 115 ∷ 110 ∷ 39 ∷ 116 ∷ 32 ∷ 124 ∷ 32 ∷ 111 ∷ 107 ∷ 97 ∷ 121 ∷ 32 ∷ 124 ∷ []) ∷ [])) ×
    -- «| a | b | c |␊| --- | --- | ---␊| x␊| a | b␊| 1 | 2 | 3 | 4 | 5 |␊»: table unaligned unaligned unaligned [«a» «b» «c»] [«x» «» «»] [«a» «b» «»] [«1» «2» «3»]
    (extended_answer (124 ∷ 32 ∷ 97 ∷ 32 ∷ 124 ∷ 32 ∷ 98 ∷ 32 ∷ 124 ∷ 32 ∷ 99 ∷ 32 ∷ 124 ∷ 10 ∷ 124 ∷ 32 ∷ 45 ∷ 45 ∷ 45 ∷ 32 ∷ 124 ∷ 32 ∷ 45 ∷ 45 ∷ 45 ∷ 32 ∷ 124 ∷ 32 ∷ 45 ∷ 45 ∷ 45 ∷ 10 ∷ 124 ∷ 32 ∷ 120 ∷ 10 ∷ 124 ∷ 32 ∷ 97 ∷ 32 ∷ 124 ∷ 32 ∷ 98 ∷ 10 ∷ 124 ∷ 32 ∷ 49 ∷ 32 ∷ 124 ∷ 32 ∷ 50 ∷ 32 ∷ 124 ∷ 32 ∷ 51 ∷ 32 ∷ 124 ∷ 32 ∷ 52 ∷ 32 ∷ 124 ∷ 32 ∷ 53 ∷ 32 ∷ 124 ∷ 10 ∷ []) ≡ (grid (unaligned ∷ unaligned ∷ unaligned ∷ []) (((codes "a") ∷ (codes "b") ∷ (codes "c") ∷ []) ∷ ((codes "x") ∷ (codes "") ∷ (codes "") ∷ []) ∷ ((codes "a") ∷ (codes "b") ∷ (codes "") ∷ []) ∷ ((codes "1") ∷ (codes "2") ∷ (codes "3") ∷ []) ∷ []) ∷ [])) ×
    -- «| a | b |␊| --- | --- |␊| Escaped pipes are \|okay\|. | Like \| this. |␊| Within `\|code\| is okay` too. |␊| _**`c\|`**_ \| complex␊| don't **\_reparse\_**␊»: table unaligned unaligned [«a» «b»] [«Escaped pipes are \|okay\|.» «Like \| this.»] [«Within `\|code\| is okay` too.» «»] [«_**`c\|`**_ \| complex» «»] [«don't **\_reparse\_**» «»]
    (extended_answer (124 ∷ 32 ∷ 97 ∷ 32 ∷ 124 ∷ 32 ∷ 98 ∷ 32 ∷ 124 ∷ 10 ∷ 124 ∷ 32 ∷ 45 ∷ 45 ∷ 45 ∷ 32 ∷ 124 ∷ 32 ∷ 45 ∷ 45 ∷ 45 ∷ 32 ∷ 124 ∷ 10 ∷ 124 ∷ 32 ∷ 69 ∷ 115 ∷ 99 ∷ 97 ∷ 112 ∷ 101 ∷ 100 ∷ 32 ∷ 112 ∷ 105 ∷ 112 ∷ 101 ∷ 115 ∷ 32 ∷ 97 ∷ 114 ∷ 101 ∷ 32 ∷ 92 ∷ 124 ∷ 111 ∷ 107 ∷ 97 ∷ 121 ∷ 92 ∷ 124 ∷ 46 ∷ 32 ∷ 124 ∷ 32 ∷ 76 ∷ 105 ∷ 107 ∷ 101 ∷ 32 ∷ 92 ∷ 124 ∷ 32 ∷ 116 ∷ 104 ∷ 105 ∷ 115 ∷ 46 ∷ 32 ∷ 124 ∷ 10 ∷ 124 ∷ 32 ∷ 87 ∷ 105 ∷ 116 ∷ 104 ∷ 105 ∷ 110 ∷ 32 ∷ 96 ∷ 92 ∷ 124 ∷ 99 ∷ 111 ∷ 100 ∷ 101 ∷ 92 ∷ 124 ∷ 32 ∷ 105 ∷ 115 ∷ 32 ∷ 111 ∷ 107 ∷ 97 ∷ 121 ∷ 96 ∷ 32 ∷ 116 ∷ 111 ∷ 111 ∷ 46 ∷ 32 ∷ 124 ∷ 10 ∷ 124 ∷ 32 ∷ 95 ∷ 42 ∷ 42 ∷ 96 ∷ 99 ∷ 92 ∷ 124 ∷ 96 ∷ 42 ∷ 42 ∷ 95 ∷ 32 ∷ 92 ∷ 124 ∷ 32 ∷ 99 ∷ 111 ∷ 109 ∷ 112 ∷ 108 ∷ 101 ∷ 120 ∷ 10 ∷ 124 ∷ 32 ∷ 100 ∷ 111 ∷ 110 ∷ 39 ∷ 116 ∷ 32 ∷ 42 ∷ 42 ∷ 92 ∷ 95 ∷ 114 ∷ 101 ∷ 112 ∷ 97 ∷ 114 ∷ 115 ∷ 101 ∷ 92 ∷ 95 ∷ 42 ∷ 42 ∷ 10 ∷ []) ≡ (grid (unaligned ∷ unaligned ∷ []) (((codes "a") ∷ (codes "b") ∷ []) ∷ ((codes "Escaped pipes are \\|okay\\|.") ∷ (codes "Like \\| this.") ∷ []) ∷ ((codes "Within `\\|code\\| is okay` too.") ∷ (codes "") ∷ []) ∷ ((codes "_**`c\\|`**_ \\| complex") ∷ (codes "") ∷ []) ∷ ((codes "don't **\\_reparse\\_**") ∷ (codes "") ∷ []) ∷ []) ∷ [])) ×
    -- «| a |␊--- |␊»: table unaligned [«a»]
    (extended_answer (124 ∷ 32 ∷ 97 ∷ 32 ∷ 124 ∷ 10 ∷ 45 ∷ 45 ∷ 45 ∷ 32 ∷ 124 ∷ 10 ∷ []) ≡ (grid (unaligned ∷ []) (((codes "a") ∷ []) ∷ []) ∷ [])) ×
    -- «| a | b |␊| --- | --- |␊| \\ | `\\` |␊| \\\\ | `\\\\` |␊| \_ | `\_` |␊| \| | `\|` |␊| \a | `\a` |␊␊\\ `\\`␊␊\\\\ `\\\\`␊␊\_ `\_`␊␊\| `\|`␊␊\a `\a`␊»: table unaligned unaligned [«a» «b»] [«\\» «`\\`»] [«\\\\» «`\\\\`»] [«\_» «`\_`»] [«\|» «`\|`»] [«\a» «`\a`»], text «\\ `\\`», text «\\\\ `\\\\`», text «\_ `\_`», text «\| `\|`», text «\a `\a`»
    (extended_answer (124 ∷ 32 ∷ 97 ∷ 32 ∷ 124 ∷ 32 ∷ 98 ∷ 32 ∷ 124 ∷ 10 ∷ 124 ∷ 32 ∷ 45 ∷ 45 ∷ 45 ∷ 32 ∷ 124 ∷ 32 ∷ 45 ∷ 45 ∷ 45 ∷ 32 ∷ 124 ∷ 10 ∷ 124 ∷ 32 ∷ 92 ∷ 92 ∷ 32 ∷ 124 ∷ 32 ∷ 96 ∷ 92 ∷ 92 ∷ 96 ∷ 32 ∷ 124 ∷ 10 ∷ 124 ∷ 32 ∷ 92 ∷ 92 ∷ 92 ∷ 92 ∷ 32 ∷ 124 ∷ 32 ∷ 96 ∷ 92 ∷ 92 ∷ 92 ∷ 92 ∷ 96 ∷ 32 ∷ 124 ∷ 10 ∷ 124 ∷ 32 ∷ 92 ∷ 95 ∷ 32 ∷ 124 ∷ 32 ∷ 96 ∷ 92 ∷ 95 ∷ 96 ∷ 32 ∷ 124 ∷ 10 ∷ 124 ∷ 32 ∷ 92 ∷ 124 ∷ 32 ∷ 124 ∷ 32 ∷ 96 ∷ 92 ∷ 124 ∷ 96 ∷ 32 ∷ 124 ∷ 10 ∷ 124 ∷ 32 ∷ 92 ∷ 97 ∷ 32 ∷ 124 ∷ 32 ∷ 96 ∷ 92 ∷ 97 ∷ 96 ∷ 32 ∷ 124 ∷ 10 ∷ 10 ∷ 92 ∷ 92 ∷ 32 ∷ 96 ∷ 92 ∷ 92 ∷ 96 ∷ 10 ∷ 10 ∷ 92 ∷ 92 ∷ 92 ∷ 92 ∷ 32 ∷ 96 ∷ 92 ∷ 92 ∷ 92 ∷ 92 ∷ 96 ∷ 10 ∷ 10 ∷ 92 ∷ 95 ∷ 32 ∷ 96 ∷ 92 ∷ 95 ∷ 96 ∷ 10 ∷ 10 ∷ 92 ∷ 124 ∷ 32 ∷ 96 ∷ 92 ∷ 124 ∷ 96 ∷ 10 ∷ 10 ∷ 92 ∷ 97 ∷ 32 ∷ 96 ∷ 92 ∷ 97 ∷ 96 ∷ 10 ∷ []) ≡ (grid (unaligned ∷ unaligned ∷ []) (((codes "a") ∷ (codes "b") ∷ []) ∷ ((codes "\\\\") ∷ (codes "`\\\\`") ∷ []) ∷ ((codes "\\\\\\\\") ∷ (codes "`\\\\\\\\`") ∷ []) ∷ ((codes "\\_") ∷ (codes "`\\_`") ∷ []) ∷ ((codes "\\|") ∷ (codes "`\\|`") ∷ []) ∷ ((codes "\\a") ∷ (codes "`\\a`") ∷ []) ∷ []) ∷ text (codes "\\\\ `\\\\`") ∷ text (codes "\\\\\\\\ `\\\\\\\\`") ∷ text (codes "\\_ `\\_`") ∷ text (codes "\\| `\\|`") ∷ text (codes "\\a `\\a`") ∷ [])) ×
    -- «| a |␊| --- |␊| <strong>hello</strong> |␊| ok <br> sure |␊»: table unaligned [«a»] [«<strong>hello</strong>»] [«ok <br> sure»]
    (extended_answer (124 ∷ 32 ∷ 97 ∷ 32 ∷ 124 ∷ 10 ∷ 124 ∷ 32 ∷ 45 ∷ 45 ∷ 45 ∷ 32 ∷ 124 ∷ 10 ∷ 124 ∷ 32 ∷ 60 ∷ 115 ∷ 116 ∷ 114 ∷ 111 ∷ 110 ∷ 103 ∷ 62 ∷ 104 ∷ 101 ∷ 108 ∷ 108 ∷ 111 ∷ 60 ∷ 47 ∷ 115 ∷ 116 ∷ 114 ∷ 111 ∷ 110 ∷ 103 ∷ 62 ∷ 32 ∷ 124 ∷ 10 ∷ 124 ∷ 32 ∷ 111 ∷ 107 ∷ 32 ∷ 60 ∷ 98 ∷ 114 ∷ 62 ∷ 32 ∷ 115 ∷ 117 ∷ 114 ∷ 101 ∷ 32 ∷ 124 ∷ 10 ∷ []) ≡ (grid (unaligned ∷ []) (((codes "a") ∷ []) ∷ ((codes "<strong>hello</strong>") ∷ []) ∷ ((codes "ok <br> sure") ∷ []) ∷ []) ∷ [])) ×
    -- «Here's a link to [Freedom Planet 2][].␊␊| Here's a link to [Freedom Planet 2][] in a table header. |␊| --- |␊| Here's a link to [Freedom Planet 2][] in a table row. |␊␊[Freedom Planet 2]: http://www.freedomplanet2.com/␊»: text «Here's a link to [Freedom Planet 2][].», table unaligned [«Here's a link to [Freedom Planet 2][] in a table header.»] [«Here's a link to [Freedom Planet 2][] in a table row.»], definition «Freedom Planet 2» «http://www.freedomplanet2.com/»
    (extended_answer (72 ∷ 101 ∷ 114 ∷ 101 ∷ 39 ∷ 115 ∷ 32 ∷ 97 ∷ 32 ∷ 108 ∷ 105 ∷ 110 ∷ 107 ∷ 32 ∷ 116 ∷ 111 ∷ 32 ∷ 91 ∷ 70 ∷ 114 ∷ 101 ∷ 101 ∷ 100 ∷ 111 ∷ 109 ∷ 32 ∷ 80 ∷ 108 ∷ 97 ∷ 110 ∷ 101 ∷ 116 ∷ 32 ∷ 50 ∷ 93 ∷ 91 ∷ 93 ∷ 46 ∷ 10 ∷ 10 ∷ 124 ∷ 32 ∷ 72 ∷ 101 ∷ 114 ∷ 101 ∷ 39 ∷ 115 ∷ 32 ∷ 97 ∷ 32 ∷ 108 ∷ 105 ∷ 110 ∷ 107 ∷ 32 ∷ 116 ∷ 111 ∷ 32 ∷ 91 ∷ 70 ∷ 114 ∷ 101 ∷ 101 ∷ 100 ∷ 111 ∷ 109 ∷ 32 ∷ 80 ∷ 108 ∷ 97 ∷ 110 ∷ 101 ∷ 116 ∷ 32 ∷ 50 ∷ 93 ∷ 91 ∷ 93 ∷ 32 ∷ 105 ∷ 110 ∷ 32 ∷ 97 ∷ 32 ∷ 116 ∷ 97 ∷ 98 ∷ 108 ∷ 101 ∷ 32 ∷ 104 ∷ 101 ∷ 97 ∷ 100 ∷ 101 ∷ 114 ∷ 46 ∷ 32 ∷ 124 ∷ 10 ∷ 124 ∷ 32 ∷ 45 ∷ 45 ∷ 45 ∷ 32 ∷ 124 ∷ 10 ∷ 124 ∷ 32 ∷ 72 ∷ 101 ∷ 114 ∷ 101 ∷ 39 ∷ 115 ∷ 32 ∷ 97 ∷ 32 ∷ 108 ∷ 105 ∷ 110 ∷ 107 ∷ 32 ∷ 116 ∷ 111 ∷ 32 ∷ 91 ∷ 70 ∷ 114 ∷ 101 ∷ 101 ∷ 100 ∷ 111 ∷ 109 ∷ 32 ∷ 80 ∷ 108 ∷ 97 ∷ 110 ∷ 101 ∷ 116 ∷ 32 ∷ 50 ∷ 93 ∷ 91 ∷ 93 ∷ 32 ∷ 105 ∷ 110 ∷ 32 ∷ 97 ∷ 32 ∷ 116 ∷ 97 ∷ 98 ∷ 108 ∷ 101 ∷ 32 ∷ 114 ∷ 111 ∷ 119 ∷ 46 ∷ 32 ∷ 124 ∷ 10 ∷ 10 ∷ 91 ∷ 70 ∷ 114 ∷ 101 ∷ 101 ∷ 100 ∷ 111 ∷ 109 ∷ 32 ∷ 80 ∷ 108 ∷ 97 ∷ 110 ∷ 101 ∷ 116 ∷ 32 ∷ 50 ∷ 93 ∷ 58 ∷ 32 ∷ 104 ∷ 116 ∷ 116 ∷ 112 ∷ 58 ∷ 47 ∷ 47 ∷ 119 ∷ 119 ∷ 119 ∷ 46 ∷ 102 ∷ 114 ∷ 101 ∷ 101 ∷ 100 ∷ 111 ∷ 109 ∷ 112 ∷ 108 ∷ 97 ∷ 110 ∷ 101 ∷ 116 ∷ 50 ∷ 46 ∷ 99 ∷ 111 ∷ 109 ∷ 47 ∷ 10 ∷ []) ≡ (text (codes "Here's a link to [Freedom Planet 2][].") ∷ grid (unaligned ∷ []) (((codes "Here's a link to [Freedom Planet 2][] in a table header.") ∷ []) ∷ ((codes "Here's a link to [Freedom Planet 2][] in a table row.") ∷ []) ∷ []) ∷ defined (codes "Freedom Planet 2") (codes "http://www.freedomplanet2.com/") None ∷ [])) ×
    -- «| a | b | c |␊| --- | --- | --- |␊| d || e |␊»: table unaligned unaligned unaligned [«a» «b» «c»] [«d» «» «e»]
    (extended_answer (124 ∷ 32 ∷ 97 ∷ 32 ∷ 124 ∷ 32 ∷ 98 ∷ 32 ∷ 124 ∷ 32 ∷ 99 ∷ 32 ∷ 124 ∷ 10 ∷ 124 ∷ 32 ∷ 45 ∷ 45 ∷ 45 ∷ 32 ∷ 124 ∷ 32 ∷ 45 ∷ 45 ∷ 45 ∷ 32 ∷ 124 ∷ 32 ∷ 45 ∷ 45 ∷ 45 ∷ 32 ∷ 124 ∷ 10 ∷ 124 ∷ 32 ∷ 100 ∷ 32 ∷ 124 ∷ 124 ∷ 32 ∷ 101 ∷ 32 ∷ 124 ∷ 10 ∷ []) ≡ (grid (unaligned ∷ unaligned ∷ unaligned ∷ []) (((codes "a") ∷ (codes "b") ∷ (codes "c") ∷ []) ∷ ((codes "d") ∷ (codes "") ∷ (codes "e") ∷ []) ∷ []) ∷ []))

abbrev pub TableRows : Type 0
TableRows =
    -- «|a|␊|-|␊»: table unaligned [«a»]
    (extended_answer (124 ∷ 97 ∷ 124 ∷ 10 ∷ 124 ∷ 45 ∷ 124 ∷ 10 ∷ []) ≡ (grid (unaligned ∷ []) (((codes "a") ∷ []) ∷ []) ∷ [])) ×
    -- «a␊:-␊»: table left [«a»]
    (extended_answer (97 ∷ 10 ∷ 58 ∷ 45 ∷ 10 ∷ []) ≡ (grid (left ∷ []) (((codes "a") ∷ []) ∷ []) ∷ [])) ×
    -- «a␊-␊»: heading 2 «a»
    (extended_answer (97 ∷ 10 ∷ 45 ∷ 10 ∷ []) ≡ (head 2 (codes "a") ∷ [])) ×
    -- «a|b␊-|-␊»: table unaligned unaligned [«a» «b»]
    (extended_answer (97 ∷ 124 ∷ 98 ∷ 10 ∷ 45 ∷ 124 ∷ 45 ∷ 10 ∷ []) ≡ (grid (unaligned ∷ unaligned ∷ []) (((codes "a") ∷ (codes "b") ∷ []) ∷ []) ∷ [])) ×
    -- «|a|b|␊|:-|:-:|␊|c|d|e|␊|f|␊»: table left center [«a» «b»] [«c» «d»] [«f» «»]
    (extended_answer (124 ∷ 97 ∷ 124 ∷ 98 ∷ 124 ∷ 10 ∷ 124 ∷ 58 ∷ 45 ∷ 124 ∷ 58 ∷ 45 ∷ 58 ∷ 124 ∷ 10 ∷ 124 ∷ 99 ∷ 124 ∷ 100 ∷ 124 ∷ 101 ∷ 124 ∷ 10 ∷ 124 ∷ 102 ∷ 124 ∷ 10 ∷ []) ≡ (grid (left ∷ center ∷ []) (((codes "a") ∷ (codes "b") ∷ []) ∷ ((codes "c") ∷ (codes "d") ∷ []) ∷ ((codes "f") ∷ (codes "") ∷ []) ∷ []) ∷ [])) ×
    -- «a | b␊- | -␊»: text «a | b», item - tight [text «| -»]
    (extended_answer (97 ∷ 32 ∷ 124 ∷ 32 ∷ 98 ∷ 10 ∷ 45 ∷ 32 ∷ 124 ∷ 32 ∷ 45 ∷ 10 ∷ []) ≡ (text (codes "a | b") ∷ in_item (bullet 45) false ∷ text (codes "| -") ∷ end ∷ [])) ×
    -- «|a␊|-␊|b␊»: table unaligned [«a»] [«b»]
    (extended_answer (124 ∷ 97 ∷ 10 ∷ 124 ∷ 45 ∷ 10 ∷ 124 ∷ 98 ∷ 10 ∷ []) ≡ (grid (unaligned ∷ []) (((codes "a") ∷ []) ∷ ((codes "b") ∷ []) ∷ []) ∷ [])) ×
    -- «a|␊-|␊»: table unaligned [«a»]
    (extended_answer (97 ∷ 124 ∷ 10 ∷ 45 ∷ 124 ∷ 10 ∷ []) ≡ (grid (unaligned ∷ []) (((codes "a") ∷ []) ∷ []) ∷ [])) ×
    -- «||␊|-|␊»: table unaligned [«»]
    (extended_answer (124 ∷ 124 ∷ 10 ∷ 124 ∷ 45 ∷ 124 ∷ 10 ∷ []) ≡ (grid (unaligned ∷ []) (((codes "") ∷ []) ∷ []) ∷ [])) ×
    -- «|␊|-|␊»: text «|␊|-|»
    (extended_answer (124 ∷ 10 ∷ 124 ∷ 45 ∷ 124 ∷ 10 ∷ []) ≡ (text (124 ∷ 10 ∷ 124 ∷ 45 ∷ 124 ∷ []) ∷ [])) ×
    -- «|␊|␊»: text «|␊|»
    (extended_answer (124 ∷ 10 ∷ 124 ∷ 10 ∷ []) ≡ (text (124 ∷ 10 ∷ 124 ∷ []) ∷ [])) ×
    -- «| |␊|-|␊»: table unaligned [«»]
    (extended_answer (124 ∷ 32 ∷ 124 ∷ 10 ∷ 124 ∷ 45 ∷ 124 ∷ 10 ∷ []) ≡ (grid (unaligned ∷ []) (((codes "") ∷ []) ∷ []) ∷ [])) ×
    -- «|a||␊|-|-|␊»: table unaligned unaligned [«a» «»]
    (extended_answer (124 ∷ 97 ∷ 124 ∷ 124 ∷ 10 ∷ 124 ∷ 45 ∷ 124 ∷ 45 ∷ 124 ∷ 10 ∷ []) ≡ (grid (unaligned ∷ unaligned ∷ []) (((codes "a") ∷ (codes "") ∷ []) ∷ []) ∷ [])) ×
    -- «|a\|b|␊|-|␊»: table unaligned [«a\|b»]
    (extended_answer (124 ∷ 97 ∷ 92 ∷ 124 ∷ 98 ∷ 124 ∷ 10 ∷ 124 ∷ 45 ∷ 124 ∷ 10 ∷ []) ≡ (grid (unaligned ∷ []) (((codes "a\\|b") ∷ []) ∷ []) ∷ [])) ×
    -- «|a\\|b|␊|-|␊»: table unaligned [«a\\|b»]
    (extended_answer (124 ∷ 97 ∷ 92 ∷ 92 ∷ 124 ∷ 98 ∷ 124 ∷ 10 ∷ 124 ∷ 45 ∷ 124 ∷ 10 ∷ []) ≡ (grid (unaligned ∷ []) (((codes "a\\\\|b") ∷ []) ∷ []) ∷ [])) ×
    -- «|`a\|b`|␊|-|␊»: table unaligned [«`a\|b`»]
    (extended_answer (124 ∷ 96 ∷ 97 ∷ 92 ∷ 124 ∷ 98 ∷ 96 ∷ 124 ∷ 10 ∷ 124 ∷ 45 ∷ 124 ∷ 10 ∷ []) ≡ (grid (unaligned ∷ []) (((codes "`a\\|b`") ∷ []) ∷ []) ∷ [])) ×
    -- «\|a|␊-|-␊»: text «\|a|␊-|-»
    (extended_answer (92 ∷ 124 ∷ 97 ∷ 124 ∷ 10 ∷ 45 ∷ 124 ∷ 45 ∷ 10 ∷ []) ≡ (text (92 ∷ 124 ∷ 97 ∷ 124 ∷ 10 ∷ 45 ∷ 124 ∷ 45 ∷ []) ∷ [])) ×
    -- «\|a␊-|-␊»: text «\|a␊-|-»
    (extended_answer (92 ∷ 124 ∷ 97 ∷ 10 ∷ 45 ∷ 124 ∷ 45 ∷ 10 ∷ []) ≡ (text (92 ∷ 124 ∷ 97 ∷ 10 ∷ 45 ∷ 124 ∷ 45 ∷ []) ∷ [])) ×
    -- «|a|␊|--:|␊␊|b|␊»: table right [«a»], text «|b|»
    (extended_answer (124 ∷ 97 ∷ 124 ∷ 10 ∷ 124 ∷ 45 ∷ 45 ∷ 58 ∷ 124 ∷ 10 ∷ 10 ∷ 124 ∷ 98 ∷ 124 ∷ 10 ∷ []) ≡ (grid (right ∷ []) (((codes "a") ∷ []) ∷ []) ∷ text (codes "|b|") ∷ [])) ×
    -- «|a|␊|-|␊b␊# c␊»: table unaligned [«a»] [«b»], heading 1 «c»
    (extended_answer (124 ∷ 97 ∷ 124 ∷ 10 ∷ 124 ∷ 45 ∷ 124 ∷ 10 ∷ 98 ∷ 10 ∷ 35 ∷ 32 ∷ 99 ∷ 10 ∷ []) ≡ (grid (unaligned ∷ []) (((codes "a") ∷ []) ∷ ((codes "b") ∷ []) ∷ []) ∷ head 1 (codes "c") ∷ [])) ×
    -- «|a|␊|-|␊    b␊»: table unaligned [«a»], code «b␊»
    (extended_answer (124 ∷ 97 ∷ 124 ∷ 10 ∷ 124 ∷ 45 ∷ 124 ∷ 10 ∷ 32 ∷ 32 ∷ 32 ∷ 32 ∷ 98 ∷ 10 ∷ []) ≡ (grid (unaligned ∷ []) (((codes "a") ∷ []) ∷ []) ∷ code (98 ∷ 10 ∷ []) ∷ [])) ×
    -- «|a|␊   |-|␊»: table unaligned [«a»]
    (extended_answer (124 ∷ 97 ∷ 124 ∷ 10 ∷ 32 ∷ 32 ∷ 32 ∷ 124 ∷ 45 ∷ 124 ∷ 10 ∷ []) ≡ (grid (unaligned ∷ []) (((codes "a") ∷ []) ∷ []) ∷ [])) ×
    -- «|a|␊    |-|␊»: text «|a|␊|-|»
    (extended_answer (124 ∷ 97 ∷ 124 ∷ 10 ∷ 32 ∷ 32 ∷ 32 ∷ 32 ∷ 124 ∷ 45 ∷ 124 ∷ 10 ∷ []) ≡ (text (124 ∷ 97 ∷ 124 ∷ 10 ∷ 124 ∷ 45 ∷ 124 ∷ []) ∷ [])) ×
    -- «x␊y␊|a|␊|-|␊»: text «x␊y», table unaligned [«a»]
    (extended_answer (120 ∷ 10 ∷ 121 ∷ 10 ∷ 124 ∷ 97 ∷ 124 ∷ 10 ∷ 124 ∷ 45 ∷ 124 ∷ 10 ∷ []) ≡ (text (120 ∷ 10 ∷ 121 ∷ []) ∷ grid (unaligned ∷ []) (((codes "a") ∷ []) ∷ []) ∷ [])) ×
    -- «[r]: /u␊|a|␊|-|␊»: table unaligned [«a»], definition «r» «/u»
    (extended_answer (91 ∷ 114 ∷ 93 ∷ 58 ∷ 32 ∷ 47 ∷ 117 ∷ 10 ∷ 124 ∷ 97 ∷ 124 ∷ 10 ∷ 124 ∷ 45 ∷ 124 ∷ 10 ∷ []) ≡ (grid (unaligned ∷ []) (((codes "a") ∷ []) ∷ []) ∷ defined (codes "r") (codes "/u") None ∷ [])) ×
    -- «[r]: /u␊:-␊»: table left [«[r]: /u»]
    (extended_answer (91 ∷ 114 ∷ 93 ∷ 58 ∷ 32 ∷ 47 ∷ 117 ∷ 10 ∷ 58 ∷ 45 ∷ 10 ∷ []) ≡ (grid (left ∷ []) (((codes "[r]: /u") ∷ []) ∷ []) ∷ [])) ×
    -- «|a|␊|-|␊> b␊»: table unaligned [«a»], quote [text «b»]
    (extended_answer (124 ∷ 97 ∷ 124 ∷ 10 ∷ 124 ∷ 45 ∷ 124 ∷ 10 ∷ 62 ∷ 32 ∷ 98 ∷ 10 ∷ []) ≡ (grid (unaligned ∷ []) (((codes "a") ∷ []) ∷ []) ∷ in_quote ∷ text (codes "b") ∷ end ∷ [])) ×
    -- «> |a|␊> |-|␊|b|␊»: quote [table unaligned [«a»]], text «|b|»
    (extended_answer (62 ∷ 32 ∷ 124 ∷ 97 ∷ 124 ∷ 10 ∷ 62 ∷ 32 ∷ 124 ∷ 45 ∷ 124 ∷ 10 ∷ 124 ∷ 98 ∷ 124 ∷ 10 ∷ []) ≡ (in_quote ∷ grid (unaligned ∷ []) (((codes "a") ∷ []) ∷ []) ∷ end ∷ text (codes "|b|") ∷ [])) ×
    -- «> |a|␊|-|␊»: quote [text «|a|␊|-|»]
    (extended_answer (62 ∷ 32 ∷ 124 ∷ 97 ∷ 124 ∷ 10 ∷ 124 ∷ 45 ∷ 124 ∷ 10 ∷ []) ≡ (in_quote ∷ text (124 ∷ 97 ∷ 124 ∷ 10 ∷ 124 ∷ 45 ∷ 124 ∷ []) ∷ end ∷ [])) ×
    -- «- |a|␊  |-|␊  |b|␊- c␊»: item - tight [table unaligned [«a»] [«b»]], item - tight [text «c»]
    (extended_answer (45 ∷ 32 ∷ 124 ∷ 97 ∷ 124 ∷ 10 ∷ 32 ∷ 32 ∷ 124 ∷ 45 ∷ 124 ∷ 10 ∷ 32 ∷ 32 ∷ 124 ∷ 98 ∷ 124 ∷ 10 ∷ 45 ∷ 32 ∷ 99 ∷ 10 ∷ []) ≡ (in_item (bullet 45) false ∷ grid (unaligned ∷ []) (((codes "a") ∷ []) ∷ ((codes "b") ∷ []) ∷ []) ∷ end ∷ in_item (bullet 45) false ∷ text (codes "c") ∷ end ∷ [])) ×
    -- «|a|␊|-|␊|␊»: table unaligned [«a»], text «|»
    (extended_answer (124 ∷ 97 ∷ 124 ∷ 10 ∷ 124 ∷ 45 ∷ 124 ∷ 10 ∷ 124 ∷ 10 ∷ []) ≡ (grid (unaligned ∷ []) (((codes "a") ∷ []) ∷ []) ∷ text (codes "|") ∷ [])) ×
    -- «|a|␊|-|␊---␊»: table unaligned [«a»], break
    (extended_answer (124 ∷ 97 ∷ 124 ∷ 10 ∷ 124 ∷ 45 ∷ 124 ∷ 10 ∷ 45 ∷ 45 ∷ 45 ∷ 10 ∷ []) ≡ (grid (unaligned ∷ []) (((codes "a") ∷ []) ∷ []) ∷ break ∷ [])) ×
    -- «|a|␊|-|␊<b>␊»: table unaligned [«a»], html «<b>␊»
    (extended_answer (124 ∷ 97 ∷ 124 ∷ 10 ∷ 124 ∷ 45 ∷ 124 ∷ 10 ∷ 60 ∷ 98 ∷ 62 ∷ 10 ∷ []) ≡ (grid (unaligned ∷ []) (((codes "a") ∷ []) ∷ []) ∷ markup (60 ∷ 98 ∷ 62 ∷ 10 ∷ []) ∷ [])) ×
    -- «|a|␊|-|␊2. b␊»: table unaligned [«a»], item 2. tight [text «b»]
    (extended_answer (124 ∷ 97 ∷ 124 ∷ 10 ∷ 124 ∷ 45 ∷ 124 ∷ 10 ∷ 50 ∷ 46 ∷ 32 ∷ 98 ∷ 10 ∷ []) ≡ (grid (unaligned ∷ []) (((codes "a") ∷ []) ∷ []) ∷ in_item (ordered 46 2) false ∷ text (codes "b") ∷ end ∷ [])) ×
    -- «|a|␊|:|␊»: text «|a|␊|:|»
    (extended_answer (124 ∷ 97 ∷ 124 ∷ 10 ∷ 124 ∷ 58 ∷ 124 ∷ 10 ∷ []) ≡ (text (124 ∷ 97 ∷ 124 ∷ 10 ∷ 124 ∷ 58 ∷ 124 ∷ []) ∷ [])) ×
    -- «|a|␊|-:-|␊»: text «|a|␊|-:-|»
    (extended_answer (124 ∷ 97 ∷ 124 ∷ 10 ∷ 124 ∷ 45 ∷ 58 ∷ 45 ∷ 124 ∷ 10 ∷ []) ≡ (text (124 ∷ 97 ∷ 124 ∷ 10 ∷ 124 ∷ 45 ∷ 58 ∷ 45 ∷ 124 ∷ []) ∷ [])) ×
    -- «|a|␊|- -|␊»: text «|a|␊|- -|»
    (extended_answer (124 ∷ 97 ∷ 124 ∷ 10 ∷ 124 ∷ 45 ∷ 32 ∷ 45 ∷ 124 ∷ 10 ∷ []) ≡ (text (124 ∷ 97 ∷ 124 ∷ 10 ∷ 124 ∷ 45 ∷ 32 ∷ 45 ∷ 124 ∷ []) ∷ [])) ×
    -- «|a|b|␊|-|␊»: text «|a|b|␊|-|»
    (extended_answer (124 ∷ 97 ∷ 124 ∷ 98 ∷ 124 ∷ 10 ∷ 124 ∷ 45 ∷ 124 ∷ 10 ∷ []) ≡ (text (124 ∷ 97 ∷ 124 ∷ 98 ∷ 124 ∷ 10 ∷ 124 ∷ 45 ∷ 124 ∷ []) ∷ [])) ×
    -- «|a|␊|-|-|␊»: text «|a|␊|-|-|»
    (extended_answer (124 ∷ 97 ∷ 124 ∷ 10 ∷ 124 ∷ 45 ∷ 124 ∷ 45 ∷ 124 ∷ 10 ∷ []) ≡ (text (124 ∷ 97 ∷ 124 ∷ 10 ∷ 124 ∷ 45 ∷ 124 ∷ 45 ∷ 124 ∷ []) ∷ [])) ×
    -- «|a|␍␊|-|␍␊|b|␍␊»: table unaligned [«a»] [«b»]
    (extended_answer (124 ∷ 97 ∷ 124 ∷ 13 ∷ 10 ∷ 124 ∷ 45 ∷ 124 ∷ 13 ∷ 10 ∷ 124 ∷ 98 ∷ 124 ∷ 13 ∷ 10 ∷ []) ≡ (grid (unaligned ∷ []) (((codes "a") ∷ []) ∷ ((codes "b") ∷ []) ∷ []) ∷ [])) ×
    -- «|a|␍|-|␍|b|»: table unaligned [«a»] [«b»]
    (extended_answer (124 ∷ 97 ∷ 124 ∷ 13 ∷ 124 ∷ 45 ∷ 124 ∷ 13 ∷ 124 ∷ 98 ∷ 124 ∷ []) ≡ (grid (unaligned ∷ []) (((codes "a") ∷ []) ∷ ((codes "b") ∷ []) ∷ []) ∷ [])) ×
    -- «|a|␊|-|␊|b»: table unaligned [«a»] [«b»]
    (extended_answer (124 ∷ 97 ∷ 124 ∷ 10 ∷ 124 ∷ 45 ∷ 124 ∷ 10 ∷ 124 ∷ 98 ∷ []) ≡ (grid (unaligned ∷ []) (((codes "a") ∷ []) ∷ ((codes "b") ∷ []) ∷ []) ∷ [])) ×
    -- «`a|b`␊-|-␊»: table unaligned unaligned [«`a» «b`»]
    (extended_answer (96 ∷ 97 ∷ 124 ∷ 98 ∷ 96 ∷ 10 ∷ 45 ∷ 124 ∷ 45 ∷ 10 ∷ []) ≡ (grid (unaligned ∷ unaligned ∷ []) (((codes "`a") ∷ (codes "b`") ∷ []) ∷ []) ∷ [])) ×
    -- «|a|␊|-|␊=␊»: table unaligned [«a»] [«=»]
    (extended_answer (124 ∷ 97 ∷ 124 ∷ 10 ∷ 124 ∷ 45 ∷ 124 ∷ 10 ∷ 61 ∷ 10 ∷ []) ≡ (grid (unaligned ∷ []) (((codes "a") ∷ []) ∷ ((codes "=") ∷ []) ∷ []) ∷ [])) ×
    -- «a|b␊-|-␊\␊»: table unaligned unaligned [«a» «b»] [«\» «»]
    (extended_answer (97 ∷ 124 ∷ 98 ∷ 10 ∷ 45 ∷ 124 ∷ 45 ∷ 10 ∷ 92 ∷ 10 ∷ []) ≡ (grid (unaligned ∷ unaligned ∷ []) (((codes "a") ∷ (codes "b") ∷ []) ∷ ((codes "\\") ∷ (codes "") ∷ []) ∷ []) ∷ [])) ×
    -- «|a|␊|-|␊|b|␊|-|␊»: table unaligned [«a»] [«b»] [«-»]
    (extended_answer (124 ∷ 97 ∷ 124 ∷ 10 ∷ 124 ∷ 45 ∷ 124 ∷ 10 ∷ 124 ∷ 98 ∷ 124 ∷ 10 ∷ 124 ∷ 45 ∷ 124 ∷ 10 ∷ []) ≡ (grid (unaligned ∷ []) (((codes "a") ∷ []) ∷ ((codes "b") ∷ []) ∷ ((codes "-") ∷ []) ∷ []) ∷ []))

abbrev pub FootnoteDefinitions : Type 0
FootnoteDefinitions =
    -- «[^a]: b␊»: note «a» [text «b»]
    (extended_answer (91 ∷ 94 ∷ 97 ∷ 93 ∷ 58 ∷ 32 ∷ 98 ∷ 10 ∷ []) ≡ (in_note (codes "a") ∷ text (codes "b") ∷ end ∷ [])) ×
    -- «[^a]:␊»: note «a» []
    (extended_answer (91 ∷ 94 ∷ 97 ∷ 93 ∷ 58 ∷ 10 ∷ []) ≡ (in_note (codes "a") ∷ end ∷ [])) ×
    -- «[^a]:b␊»: note «a» [text «b»]
    (extended_answer (91 ∷ 94 ∷ 97 ∷ 93 ∷ 58 ∷ 98 ∷ 10 ∷ []) ≡ (in_note (codes "a") ∷ text (codes "b") ∷ end ∷ [])) ×
    -- «[^a]:     b␊»: note «a» [text «b»]
    (extended_answer (91 ∷ 94 ∷ 97 ∷ 93 ∷ 58 ∷ 32 ∷ 32 ∷ 32 ∷ 32 ∷ 32 ∷ 98 ∷ 10 ∷ []) ≡ (in_note (codes "a") ∷ text (codes "b") ∷ end ∷ [])) ×
    -- «[^a]: b␊c␊»: note «a» [text «b␊c»]
    (extended_answer (91 ∷ 94 ∷ 97 ∷ 93 ∷ 58 ∷ 32 ∷ 98 ∷ 10 ∷ 99 ∷ 10 ∷ []) ≡ (in_note (codes "a") ∷ text (98 ∷ 10 ∷ 99 ∷ []) ∷ end ∷ [])) ×
    -- «[^a]: b␊␊c␊»: note «a» [text «b»], text «c»
    (extended_answer (91 ∷ 94 ∷ 97 ∷ 93 ∷ 58 ∷ 32 ∷ 98 ∷ 10 ∷ 10 ∷ 99 ∷ 10 ∷ []) ≡ (in_note (codes "a") ∷ text (codes "b") ∷ end ∷ text (codes "c") ∷ [])) ×
    -- «[^a]: b␊␊    c␊»: note «a» [text «b», text «c»]
    (extended_answer (91 ∷ 94 ∷ 97 ∷ 93 ∷ 58 ∷ 32 ∷ 98 ∷ 10 ∷ 10 ∷ 32 ∷ 32 ∷ 32 ∷ 32 ∷ 99 ∷ 10 ∷ []) ≡ (in_note (codes "a") ∷ text (codes "b") ∷ text (codes "c") ∷ end ∷ [])) ×
    -- «[^a]: b␊␊   c␊»: note «a» [text «b»], text «c»
    (extended_answer (91 ∷ 94 ∷ 97 ∷ 93 ∷ 58 ∷ 32 ∷ 98 ∷ 10 ∷ 10 ∷ 32 ∷ 32 ∷ 32 ∷ 99 ∷ 10 ∷ []) ≡ (in_note (codes "a") ∷ text (codes "b") ∷ end ∷ text (codes "c") ∷ [])) ×
    -- «[^a]:␊␊    b␊»: note «a» [text «b»]
    (extended_answer (91 ∷ 94 ∷ 97 ∷ 93 ∷ 58 ∷ 10 ∷ 10 ∷ 32 ∷ 32 ∷ 32 ∷ 32 ∷ 98 ∷ 10 ∷ []) ≡ (in_note (codes "a") ∷ text (codes "b") ∷ end ∷ [])) ×
    -- «[^a]:␊  ␊    b␊»: note «a» [text «b»]
    (extended_answer (91 ∷ 94 ∷ 97 ∷ 93 ∷ 58 ∷ 10 ∷ 32 ∷ 32 ∷ 10 ∷ 32 ∷ 32 ∷ 32 ∷ 32 ∷ 98 ∷ 10 ∷ []) ≡ (in_note (codes "a") ∷ text (codes "b") ∷ end ∷ [])) ×
    -- «[^a]: b␊  ␊    c␊»: note «a» [text «b», text «c»]
    (extended_answer (91 ∷ 94 ∷ 97 ∷ 93 ∷ 58 ∷ 32 ∷ 98 ∷ 10 ∷ 32 ∷ 32 ∷ 10 ∷ 32 ∷ 32 ∷ 32 ∷ 32 ∷ 99 ∷ 10 ∷ []) ≡ (in_note (codes "a") ∷ text (codes "b") ∷ text (codes "c") ∷ end ∷ [])) ×
    -- «[^a]: # b␊»: note «a» [heading 1 «b»]
    (extended_answer (91 ∷ 94 ∷ 97 ∷ 93 ∷ 58 ∷ 32 ∷ 35 ∷ 32 ∷ 98 ∷ 10 ∷ []) ≡ (in_note (codes "a") ∷ head 1 (codes "b") ∷ end ∷ [])) ×
    -- «[^a]: > b␊    > c␊»: note «a» [quote [text «b␊c»]]
    (extended_answer (91 ∷ 94 ∷ 97 ∷ 93 ∷ 58 ∷ 32 ∷ 62 ∷ 32 ∷ 98 ∷ 10 ∷ 32 ∷ 32 ∷ 32 ∷ 32 ∷ 62 ∷ 32 ∷ 99 ∷ 10 ∷ []) ≡ (in_note (codes "a") ∷ in_quote ∷ text (98 ∷ 10 ∷ 99 ∷ []) ∷ end ∷ end ∷ [])) ×
    -- «[^a]: - b␊    - c␊»: note «a» [item - tight [text «b»], item - tight [text «c»]]
    (extended_answer (91 ∷ 94 ∷ 97 ∷ 93 ∷ 58 ∷ 32 ∷ 45 ∷ 32 ∷ 98 ∷ 10 ∷ 32 ∷ 32 ∷ 32 ∷ 32 ∷ 45 ∷ 32 ∷ 99 ∷ 10 ∷ []) ≡ (in_note (codes "a") ∷ in_item (bullet 45) false ∷ text (codes "b") ∷ end ∷ in_item (bullet 45) false ∷ text (codes "c") ∷ end ∷ end ∷ [])) ×
    -- «[^a]: [^b]: c␊»: note «a» [note «b» [text «c»]]
    (extended_answer (91 ∷ 94 ∷ 97 ∷ 93 ∷ 58 ∷ 32 ∷ 91 ∷ 94 ∷ 98 ∷ 93 ∷ 58 ∷ 32 ∷ 99 ∷ 10 ∷ []) ≡ (in_note (codes "a") ∷ in_note (codes "b") ∷ text (codes "c") ∷ end ∷ end ∷ [])) ×
    -- «[^a]: b␊[^c]: d␊»: note «a» [text «b»], note «c» [text «d»]
    (extended_answer (91 ∷ 94 ∷ 97 ∷ 93 ∷ 58 ∷ 32 ∷ 98 ∷ 10 ∷ 91 ∷ 94 ∷ 99 ∷ 93 ∷ 58 ∷ 32 ∷ 100 ∷ 10 ∷ []) ≡ (in_note (codes "a") ∷ text (codes "b") ∷ end ∷ in_note (codes "c") ∷ text (codes "d") ∷ end ∷ [])) ×
    -- «x␊[^a]: b␊»: text «x», note «a» [text «b»]
    (extended_answer (120 ∷ 10 ∷ 91 ∷ 94 ∷ 97 ∷ 93 ∷ 58 ∷ 32 ∷ 98 ∷ 10 ∷ []) ≡ (text (codes "x") ∷ in_note (codes "a") ∷ text (codes "b") ∷ end ∷ [])) ×
    -- «> [^a]: b␊c␊»: quote [note «a» [text «b␊c»]]
    (extended_answer (62 ∷ 32 ∷ 91 ∷ 94 ∷ 97 ∷ 93 ∷ 58 ∷ 32 ∷ 98 ∷ 10 ∷ 99 ∷ 10 ∷ []) ≡ (in_quote ∷ in_note (codes "a") ∷ text (98 ∷ 10 ∷ 99 ∷ []) ∷ end ∷ end ∷ [])) ×
    -- «- [^a]: b␊␊      c␊»: item - tight [note «a» [text «b», text «c»]]
    (extended_answer (45 ∷ 32 ∷ 91 ∷ 94 ∷ 97 ∷ 93 ∷ 58 ∷ 32 ∷ 98 ∷ 10 ∷ 10 ∷ 32 ∷ 32 ∷ 32 ∷ 32 ∷ 32 ∷ 32 ∷ 99 ∷ 10 ∷ []) ≡ (in_item (bullet 45) false ∷ in_note (codes "a") ∷ text (codes "b") ∷ text (codes "c") ∷ end ∷ end ∷ [])) ×
    -- «- [^a]: b␊- c␊»: item - tight [note «a» [text «b»]], item - tight [text «c»]
    (extended_answer (45 ∷ 32 ∷ 91 ∷ 94 ∷ 97 ∷ 93 ∷ 58 ∷ 32 ∷ 98 ∷ 10 ∷ 45 ∷ 32 ∷ 99 ∷ 10 ∷ []) ≡ (in_item (bullet 45) false ∷ in_note (codes "a") ∷ text (codes "b") ∷ end ∷ end ∷ in_item (bullet 45) false ∷ text (codes "c") ∷ end ∷ [])) ×
    -- «- [^a]:␊␊  c␊»: item - loose [note «a» [], text «c»]
    (extended_answer (45 ∷ 32 ∷ 91 ∷ 94 ∷ 97 ∷ 93 ∷ 58 ∷ 10 ∷ 10 ∷ 32 ∷ 32 ∷ 99 ∷ 10 ∷ []) ≡ (in_item (bullet 45) true ∷ in_note (codes "a") ∷ end ∷ text (codes "c") ∷ end ∷ [])) ×
    -- «- a␊␊  [^b]: c␊»: item - loose [text «a», note «b» [text «c»]]
    (extended_answer (45 ∷ 32 ∷ 97 ∷ 10 ∷ 10 ∷ 32 ∷ 32 ∷ 91 ∷ 94 ∷ 98 ∷ 93 ∷ 58 ∷ 32 ∷ 99 ∷ 10 ∷ []) ≡ (in_item (bullet 45) true ∷ text (codes "a") ∷ in_note (codes "b") ∷ text (codes "c") ∷ end ∷ end ∷ [])) ×
    -- «- a␊[^b]: c␊␊- d␊»: item - tight [text «a»], note «b» [text «c»], item - tight [text «d»]
    (extended_answer (45 ∷ 32 ∷ 97 ∷ 10 ∷ 91 ∷ 94 ∷ 98 ∷ 93 ∷ 58 ∷ 32 ∷ 99 ∷ 10 ∷ 10 ∷ 45 ∷ 32 ∷ 100 ∷ 10 ∷ []) ≡ (in_item (bullet 45) false ∷ text (codes "a") ∷ end ∷ in_note (codes "b") ∷ text (codes "c") ∷ end ∷ in_item (bullet 45) false ∷ text (codes "d") ∷ end ∷ [])) ×
    -- «    [^a]: b␊»: code «[^a]: b␊»
    (extended_answer (32 ∷ 32 ∷ 32 ∷ 32 ∷ 91 ∷ 94 ∷ 97 ∷ 93 ∷ 58 ∷ 32 ∷ 98 ∷ 10 ∷ []) ≡ (code (91 ∷ 94 ∷ 97 ∷ 93 ∷ 58 ∷ 32 ∷ 98 ∷ 10 ∷ []) ∷ [])) ×
    -- «   [^a]: b␊»: note «a» [text «b»]
    (extended_answer (32 ∷ 32 ∷ 32 ∷ 91 ∷ 94 ∷ 97 ∷ 93 ∷ 58 ∷ 32 ∷ 98 ∷ 10 ∷ []) ≡ (in_note (codes "a") ∷ text (codes "b") ∷ end ∷ [])) ×
    -- «[^]: b␊»: definition «^» «b»
    (extended_answer (91 ∷ 94 ∷ 93 ∷ 58 ∷ 32 ∷ 98 ∷ 10 ∷ []) ≡ (defined (codes "^") (codes "b") None ∷ [])) ×
    -- «[^a b]: c␊»: definition «^a b» «c»
    (extended_answer (91 ∷ 94 ∷ 97 ∷ 32 ∷ 98 ∷ 93 ∷ 58 ∷ 32 ∷ 99 ∷ 10 ∷ []) ≡ (defined (codes "^a b") (codes "c") None ∷ [])) ×
    -- «[^a\]: b␊»: text «[^a\]: b»
    (extended_answer (91 ∷ 94 ∷ 97 ∷ 92 ∷ 93 ∷ 58 ∷ 32 ∷ 98 ∷ 10 ∷ []) ≡ (text (codes "[^a\\]: b") ∷ [])) ×
    -- «[^a\]]: b␊»: note «a\]» [text «b»]
    (extended_answer (91 ∷ 94 ∷ 97 ∷ 92 ∷ 93 ∷ 93 ∷ 58 ∷ 32 ∷ 98 ∷ 10 ∷ []) ≡ (in_note (codes "a\\]") ∷ text (codes "b") ∷ end ∷ [])) ×
    -- «[^a[b]: c␊»: text «[^a[b]: c»
    (extended_answer (91 ∷ 94 ∷ 97 ∷ 91 ∷ 98 ∷ 93 ∷ 58 ∷ 32 ∷ 99 ∷ 10 ∷ []) ≡ (text (codes "[^a[b]: c") ∷ [])) ×
    -- «[^a] : b␊»: text «[^a] : b»
    (extended_answer (91 ∷ 94 ∷ 97 ∷ 93 ∷ 32 ∷ 58 ∷ 32 ∷ 98 ∷ 10 ∷ []) ≡ (text (codes "[^a] : b") ∷ [])) ×
    -- «[a]: /u␊[^a]: b␊»: note «a» [text «b»], definition «a» «/u»
    (extended_answer (91 ∷ 97 ∷ 93 ∷ 58 ∷ 32 ∷ 47 ∷ 117 ∷ 10 ∷ 91 ∷ 94 ∷ 97 ∷ 93 ∷ 58 ∷ 32 ∷ 98 ∷ 10 ∷ []) ≡ (in_note (codes "a") ∷ text (codes "b") ∷ end ∷ defined (codes "a") (codes "/u") None ∷ [])) ×
    -- «[^a]: [r]: /u␊»: note «a» [], definition «r» «/u»
    (extended_answer (91 ∷ 94 ∷ 97 ∷ 93 ∷ 58 ∷ 32 ∷ 91 ∷ 114 ∷ 93 ∷ 58 ∷ 32 ∷ 47 ∷ 117 ∷ 10 ∷ []) ≡ (in_note (codes "a") ∷ end ∷ defined (codes "r") (codes "/u") None ∷ [])) ×
    -- «[^a]: |b|␊    |-|␊»: note «a» [table unaligned [«b»]]
    (extended_answer (91 ∷ 94 ∷ 97 ∷ 93 ∷ 58 ∷ 32 ∷ 124 ∷ 98 ∷ 124 ∷ 10 ∷ 32 ∷ 32 ∷ 32 ∷ 32 ∷ 124 ∷ 45 ∷ 124 ∷ 10 ∷ []) ≡ (in_note (codes "a") ∷ grid (unaligned ∷ []) (((codes "b") ∷ []) ∷ []) ∷ end ∷ [])) ×
    -- «[^a]: b␊===␊»: note «a» [text «b␊===»]
    (extended_answer (91 ∷ 94 ∷ 97 ∷ 93 ∷ 58 ∷ 32 ∷ 98 ∷ 10 ∷ 61 ∷ 61 ∷ 61 ∷ 10 ∷ []) ≡ (in_note (codes "a") ∷ text (98 ∷ 10 ∷ 61 ∷ 61 ∷ 61 ∷ []) ∷ end ∷ [])) ×
    -- «[^a]: ```␊    c␊    ```␊»: note «a» [fenced «» «c␊»]
    (extended_answer (91 ∷ 94 ∷ 97 ∷ 93 ∷ 58 ∷ 32 ∷ 96 ∷ 96 ∷ 96 ∷ 10 ∷ 32 ∷ 32 ∷ 32 ∷ 32 ∷ 99 ∷ 10 ∷ 32 ∷ 32 ∷ 32 ∷ 32 ∷ 96 ∷ 96 ∷ 96 ∷ 10 ∷ []) ≡ (in_note (codes "a") ∷ fenced (codes "") (99 ∷ 10 ∷ []) ∷ end ∷ [])) ×
    -- «[^a]: b␊---␊»: note «a» [text «b»], break
    (extended_answer (91 ∷ 94 ∷ 97 ∷ 93 ∷ 58 ∷ 32 ∷ 98 ∷ 10 ∷ 45 ∷ 45 ∷ 45 ∷ 10 ∷ []) ≡ (in_note (codes "a") ∷ text (codes "b") ∷ end ∷ break ∷ [])) ×
    -- «[^\]: b␊»: text «[^\]: b»
    (extended_answer (91 ∷ 94 ∷ 92 ∷ 93 ∷ 58 ∷ 32 ∷ 98 ∷ 10 ∷ []) ≡ (text (codes "[^\\]: b") ∷ [])) ×
    -- «[^a]: b␊␊␊        c␊»: note «a» [text «b», code «c␊»]
    (extended_answer (91 ∷ 94 ∷ 97 ∷ 93 ∷ 58 ∷ 32 ∷ 98 ∷ 10 ∷ 10 ∷ 10 ∷ 32 ∷ 32 ∷ 32 ∷ 32 ∷ 32 ∷ 32 ∷ 32 ∷ 32 ∷ 99 ∷ 10 ∷ []) ≡ (in_note (codes "a") ∷ text (codes "b") ∷ code (99 ∷ 10 ∷ []) ∷ end ∷ [])) ×
    -- «[^*a*]: b␊»: note «*a*» [text «b»]
    (extended_answer (91 ∷ 94 ∷ 42 ∷ 97 ∷ 42 ∷ 93 ∷ 58 ∷ 32 ∷ 98 ∷ 10 ∷ []) ≡ (in_note (codes "*a*") ∷ text (codes "b") ∷ end ∷ [])) ×
    -- «[^⟦a×999⟧]: b␊»: note «⟦a×999⟧» [text «b»]
    (extended_answer (91 ∷ 94 ∷ 97 ∷ 97 ∷ 97 ∷ 97 ∷ 97 ∷ 97 ∷ 97 ∷ 97 ∷ 97 ∷ 97 ∷ 97 ∷ 97 ∷ 97 ∷ 97 ∷ 97 ∷ 97 ∷ 97 ∷ 97 ∷ 97 ∷ 97 ∷ 97 ∷ 97 ∷ 97 ∷ 97 ∷ 97 ∷ 97 ∷ 97 ∷ 97 ∷ 97 ∷ 97 ∷ 97 ∷ 97 ∷ 97 ∷ 97 ∷ 97 ∷ 97 ∷ 97 ∷ 97 ∷ 97 ∷ 97 ∷ 97 ∷ 97 ∷ 97 ∷ 97 ∷ 97 ∷ 97 ∷ 97 ∷ 97 ∷ 97 ∷ 97 ∷ 97 ∷ 97 ∷ 97 ∷ 97 ∷ 97 ∷ 97 ∷ 97 ∷ 97 ∷ 97 ∷ 97 ∷ 97 ∷ 97 ∷ 97 ∷ 97 ∷ 97 ∷ 97 ∷ 97 ∷ 97 ∷ 97 ∷ 97 ∷ 97 ∷ 97 ∷ 97 ∷ 97 ∷ 97 ∷ 97 ∷ 97 ∷ 97 ∷ 97 ∷ 97 ∷ 97 ∷ 97 ∷ 97 ∷ 97 ∷ 97 ∷ 97 ∷ 97 ∷ 97 ∷ 97 ∷ 97 ∷ 97 ∷ 97 ∷ 97 ∷ 97 ∷ 97 ∷ 97 ∷ 97 ∷ 97 ∷ 97 ∷ 97 ∷ 97 ∷ 97 ∷ 97 ∷ 97 ∷ 97 ∷ 97 ∷ 97 ∷ 97 ∷ 97 ∷ 97 ∷ 97 ∷ 97 ∷ 97 ∷ 97 ∷ 97 ∷ 97 ∷ 97 ∷ 97 ∷ 97 ∷ 97 ∷ 97 ∷ 97 ∷ 97 ∷ 97 ∷ 97 ∷ 97 ∷ 97 ∷ 97 ∷ 97 ∷ 97 ∷ 97 ∷ 97 ∷ 97 ∷ 97 ∷ 97 ∷ 97 ∷ 97 ∷ 97 ∷ 97 ∷ 97 ∷ 97 ∷ 97 ∷ 97 ∷ 97 ∷ 97 ∷ 97 ∷ 97 ∷ 97 ∷ 97 ∷ 97 ∷ 97 ∷ 97 ∷ 97 ∷ 97 ∷ 97 ∷ 97 ∷ 97 ∷ 97 ∷ 97 ∷ 97 ∷ 97 ∷ 97 ∷ 97 ∷ 97 ∷ 97 ∷ 97 ∷ 97 ∷ 97 ∷ 97 ∷ 97 ∷ 97 ∷ 97 ∷ 97 ∷ 97 ∷ 97 ∷ 97 ∷ 97 ∷ 97 ∷ 97 ∷ 97 ∷ 97 ∷ 97 ∷ 97 ∷ 97 ∷ 97 ∷ 97 ∷ 97 ∷ 97 ∷ 97 ∷ 97 ∷ 97 ∷ 97 ∷ 97 ∷ 97 ∷ 97 ∷ 97 ∷ 97 ∷ 97 ∷ 97 ∷ 97 ∷ 97 ∷ 97 ∷ 97 ∷ 97 ∷ 97 ∷ 97 ∷ 97 ∷ 97 ∷ 97 ∷ 97 ∷ 97 ∷ 97 ∷ 97 ∷ 97 ∷ 97 ∷ 97 ∷ 97 ∷ 97 ∷ 97 ∷ 97 ∷ 97 ∷ 97 ∷ 97 ∷ 97 ∷ 97 ∷ 97 ∷ 97 ∷ 97 ∷ 97 ∷ 97 ∷ 97 ∷ 97 ∷ 97 ∷ 97 ∷ 97 ∷ 97 ∷ 97 ∷ 97 ∷ 97 ∷ 97 ∷ 97 ∷ 97 ∷ 97 ∷ 97 ∷ 97 ∷ 97 ∷ 97 ∷ 97 ∷ 97 ∷ 97 ∷ 97 ∷ 97 ∷ 97 ∷ 97 ∷ 97 ∷ 97 ∷ 97 ∷ 97 ∷ 97 ∷ 97 ∷ 97 ∷ 97 ∷ 97 ∷ 97 ∷ 97 ∷ 97 ∷ 97 ∷ 97 ∷ 97 ∷ 97 ∷ 97 ∷ 97 ∷ 97 ∷ 97 ∷ 97 ∷ 97 ∷ 97 ∷ 97 ∷ 97 ∷ 97 ∷ 97 ∷ 97 ∷ 97 ∷ 97 ∷ 97 ∷ 97 ∷ 97 ∷ 97 ∷ 97 ∷ 97 ∷ 97 ∷ 97 ∷ 97 ∷ 97 ∷ 97 ∷ 97 ∷ 97 ∷ 97 ∷ 97 ∷ 97 ∷ 97 ∷ 97 ∷ 97 ∷ 97 ∷ 97 ∷ 97 ∷ 97 ∷ 97 ∷ 97 ∷ 97 ∷ 97 ∷ 97 ∷ 97 ∷ 97 ∷ 97 ∷ 97 ∷ 97 ∷ 97 ∷ 97 ∷ 97 ∷ 97 ∷ 97 ∷ 97 ∷ 97 ∷ 97 ∷ 97 ∷ 97 ∷ 97 ∷ 97 ∷ 97 ∷ 97 ∷ 97 ∷ 97 ∷ 97 ∷ 97 ∷ 97 ∷ 97 ∷ 97 ∷ 97 ∷ 97 ∷ 97 ∷ 97 ∷ 97 ∷ 97 ∷ 97 ∷ 97 ∷ 97 ∷ 97 ∷ 97 ∷ 97 ∷ 97 ∷ 97 ∷ 97 ∷ 97 ∷ 97 ∷ 97 ∷ 97 ∷ 97 ∷ 97 ∷ 97 ∷ 97 ∷ 97 ∷ 97 ∷ 97 ∷ 97 ∷ 97 ∷ 97 ∷ 97 ∷ 97 ∷ 97 ∷ 97 ∷ 97 ∷ 97 ∷ 97 ∷ 97 ∷ 97 ∷ 97 ∷ 97 ∷ 97 ∷ 97 ∷ 97 ∷ 97 ∷ 97 ∷ 97 ∷ 97 ∷ 97 ∷ 97 ∷ 97 ∷ 97 ∷ 97 ∷ 97 ∷ 97 ∷ 97 ∷ 97 ∷ 97 ∷ 97 ∷ 97 ∷ 97 ∷ 97 ∷ 97 ∷ 97 ∷ 97 ∷ 97 ∷ 97 ∷ 97 ∷ 97 ∷ 97 ∷ 97 ∷ 97 ∷ 97 ∷ 97 ∷ 97 ∷ 97 ∷ 97 ∷ 97 ∷ 97 ∷ 97 ∷ 97 ∷ 97 ∷ 97 ∷ 97 ∷ 97 ∷ 97 ∷ 97 ∷ 97 ∷ 97 ∷ 97 ∷ 97 ∷ 97 ∷ 97 ∷ 97 ∷ 97 ∷ 97 ∷ 97 ∷ 97 ∷ 97 ∷ 97 ∷ 97 ∷ 97 ∷ 97 ∷ 97 ∷ 97 ∷ 97 ∷ 97 ∷ 97 ∷ 97 ∷ 97 ∷ 97 ∷ 97 ∷ 97 ∷ 97 ∷ 97 ∷ 97 ∷ 97 ∷ 97 ∷ 97 ∷ 97 ∷ 97 ∷ 97 ∷ 97 ∷ 97 ∷ 97 ∷ 97 ∷ 97 ∷ 97 ∷ 97 ∷ 97 ∷ 97 ∷ 97 ∷ 97 ∷ 97 ∷ 97 ∷ 97 ∷ 97 ∷ 97 ∷ 97 ∷ 97 ∷ 97 ∷ 97 ∷ 97 ∷ 97 ∷ 97 ∷ 97 ∷ 97 ∷ 97 ∷ 97 ∷ 97 ∷ 97 ∷ 97 ∷ 97 ∷ 97 ∷ 97 ∷ 97 ∷ 97 ∷ 97 ∷ 97 ∷ 97 ∷ 97 ∷ 97 ∷ 97 ∷ 97 ∷ 97 ∷ 97 ∷ 97 ∷ 97 ∷ 97 ∷ 97 ∷ 97 ∷ 97 ∷ 97 ∷ 97 ∷ 97 ∷ 97 ∷ 97 ∷ 97 ∷ 97 ∷ 97 ∷ 97 ∷ 97 ∷ 97 ∷ 97 ∷ 97 ∷ 97 ∷ 97 ∷ 97 ∷ 97 ∷ 97 ∷ 97 ∷ 97 ∷ 97 ∷ 97 ∷ 97 ∷ 97 ∷ 97 ∷ 97 ∷ 97 ∷ 97 ∷ 97 ∷ 97 ∷ 97 ∷ 97 ∷ 97 ∷ 97 ∷ 97 ∷ 97 ∷ 97 ∷ 97 ∷ 97 ∷ 97 ∷ 97 ∷ 97 ∷ 97 ∷ 97 ∷ 97 ∷ 97 ∷ 97 ∷ 97 ∷ 97 ∷ 97 ∷ 97 ∷ 97 ∷ 97 ∷ 97 ∷ 97 ∷ 97 ∷ 97 ∷ 97 ∷ 97 ∷ 97 ∷ 97 ∷ 97 ∷ 97 ∷ 97 ∷ 97 ∷ 97 ∷ 97 ∷ 97 ∷ 97 ∷ 97 ∷ 97 ∷ 97 ∷ 97 ∷ 97 ∷ 97 ∷ 97 ∷ 97 ∷ 97 ∷ 97 ∷ 97 ∷ 97 ∷ 97 ∷ 97 ∷ 97 ∷ 97 ∷ 97 ∷ 97 ∷ 97 ∷ 97 ∷ 97 ∷ 97 ∷ 97 ∷ 97 ∷ 97 ∷ 97 ∷ 97 ∷ 97 ∷ 97 ∷ 97 ∷ 97 ∷ 97 ∷ 97 ∷ 97 ∷ 97 ∷ 97 ∷ 97 ∷ 97 ∷ 97 ∷ 97 ∷ 97 ∷ 97 ∷ 97 ∷ 97 ∷ 97 ∷ 97 ∷ 97 ∷ 97 ∷ 97 ∷ 97 ∷ 97 ∷ 97 ∷ 97 ∷ 97 ∷ 97 ∷ 97 ∷ 97 ∷ 97 ∷ 97 ∷ 97 ∷ 97 ∷ 97 ∷ 97 ∷ 97 ∷ 97 ∷ 97 ∷ 97 ∷ 97 ∷ 97 ∷ 97 ∷ 97 ∷ 97 ∷ 97 ∷ 97 ∷ 97 ∷ 97 ∷ 97 ∷ 97 ∷ 97 ∷ 97 ∷ 97 ∷ 97 ∷ 97 ∷ 97 ∷ 97 ∷ 97 ∷ 97 ∷ 97 ∷ 97 ∷ 97 ∷ 97 ∷ 97 ∷ 97 ∷ 97 ∷ 97 ∷ 97 ∷ 97 ∷ 97 ∷ 97 ∷ 97 ∷ 97 ∷ 97 ∷ 97 ∷ 97 ∷ 97 ∷ 97 ∷ 97 ∷ 97 ∷ 97 ∷ 97 ∷ 97 ∷ 97 ∷ 97 ∷ 97 ∷ 97 ∷ 97 ∷ 97 ∷ 97 ∷ 97 ∷ 97 ∷ 97 ∷ 97 ∷ 97 ∷ 97 ∷ 97 ∷ 97 ∷ 97 ∷ 97 ∷ 97 ∷ 97 ∷ 97 ∷ 97 ∷ 97 ∷ 97 ∷ 97 ∷ 97 ∷ 97 ∷ 97 ∷ 97 ∷ 97 ∷ 97 ∷ 97 ∷ 97 ∷ 97 ∷ 97 ∷ 97 ∷ 97 ∷ 97 ∷ 97 ∷ 97 ∷ 97 ∷ 97 ∷ 97 ∷ 97 ∷ 97 ∷ 97 ∷ 97 ∷ 97 ∷ 97 ∷ 97 ∷ 97 ∷ 97 ∷ 97 ∷ 97 ∷ 97 ∷ 97 ∷ 97 ∷ 97 ∷ 97 ∷ 97 ∷ 97 ∷ 97 ∷ 97 ∷ 97 ∷ 97 ∷ 97 ∷ 97 ∷ 97 ∷ 97 ∷ 97 ∷ 97 ∷ 97 ∷ 97 ∷ 97 ∷ 97 ∷ 97 ∷ 97 ∷ 97 ∷ 97 ∷ 97 ∷ 97 ∷ 97 ∷ 97 ∷ 97 ∷ 97 ∷ 97 ∷ 97 ∷ 97 ∷ 97 ∷ 97 ∷ 97 ∷ 97 ∷ 97 ∷ 97 ∷ 97 ∷ 97 ∷ 97 ∷ 97 ∷ 97 ∷ 97 ∷ 97 ∷ 97 ∷ 97 ∷ 97 ∷ 97 ∷ 97 ∷ 97 ∷ 97 ∷ 97 ∷ 97 ∷ 97 ∷ 97 ∷ 97 ∷ 97 ∷ 97 ∷ 97 ∷ 97 ∷ 97 ∷ 97 ∷ 97 ∷ 97 ∷ 97 ∷ 97 ∷ 97 ∷ 97 ∷ 97 ∷ 97 ∷ 97 ∷ 97 ∷ 97 ∷ 97 ∷ 97 ∷ 97 ∷ 97 ∷ 97 ∷ 97 ∷ 97 ∷ 97 ∷ 97 ∷ 97 ∷ 97 ∷ 97 ∷ 97 ∷ 97 ∷ 97 ∷ 97 ∷ 97 ∷ 97 ∷ 97 ∷ 97 ∷ 97 ∷ 97 ∷ 97 ∷ 97 ∷ 97 ∷ 97 ∷ 97 ∷ 97 ∷ 97 ∷ 97 ∷ 97 ∷ 97 ∷ 97 ∷ 97 ∷ 97 ∷ 97 ∷ 97 ∷ 97 ∷ 97 ∷ 97 ∷ 97 ∷ 97 ∷ 97 ∷ 97 ∷ 97 ∷ 97 ∷ 97 ∷ 97 ∷ 97 ∷ 97 ∷ 97 ∷ 97 ∷ 97 ∷ 97 ∷ 97 ∷ 97 ∷ 97 ∷ 97 ∷ 97 ∷ 97 ∷ 97 ∷ 97 ∷ 97 ∷ 97 ∷ 97 ∷ 97 ∷ 97 ∷ 97 ∷ 97 ∷ 97 ∷ 97 ∷ 97 ∷ 97 ∷ 97 ∷ 97 ∷ 97 ∷ 97 ∷ 97 ∷ 97 ∷ 97 ∷ 97 ∷ 97 ∷ 97 ∷ 97 ∷ 97 ∷ 97 ∷ 97 ∷ 97 ∷ 97 ∷ 97 ∷ 97 ∷ 97 ∷ 97 ∷ 97 ∷ 97 ∷ 97 ∷ 97 ∷ 97 ∷ 97 ∷ 97 ∷ 97 ∷ 97 ∷ 97 ∷ 97 ∷ 97 ∷ 97 ∷ 97 ∷ 97 ∷ 97 ∷ 97 ∷ 97 ∷ 97 ∷ 97 ∷ 97 ∷ 97 ∷ 97 ∷ 97 ∷ 97 ∷ 97 ∷ 97 ∷ 97 ∷ 97 ∷ 97 ∷ 97 ∷ 97 ∷ 97 ∷ 97 ∷ 97 ∷ 97 ∷ 97 ∷ 97 ∷ 97 ∷ 97 ∷ 97 ∷ 97 ∷ 97 ∷ 97 ∷ 97 ∷ 97 ∷ 97 ∷ 97 ∷ 97 ∷ 97 ∷ 97 ∷ 97 ∷ 97 ∷ 97 ∷ 97 ∷ 97 ∷ 97 ∷ 97 ∷ 97 ∷ 97 ∷ 97 ∷ 97 ∷ 97 ∷ 97 ∷ 97 ∷ 97 ∷ 97 ∷ 97 ∷ 97 ∷ 97 ∷ 97 ∷ 97 ∷ 97 ∷ 97 ∷ 97 ∷ 97 ∷ 97 ∷ 97 ∷ 97 ∷ 97 ∷ 97 ∷ 97 ∷ 97 ∷ 97 ∷ 97 ∷ 97 ∷ 97 ∷ 97 ∷ 93 ∷ 58 ∷ 32 ∷ 98 ∷ 10 ∷ []) ≡ (in_note (codes "aaaaaaaaaaaaaaaaaaaaaaaaaaaaaaaaaaaaaaaaaaaaaaaaaaaaaaaaaaaaaaaaaaaaaaaaaaaaaaaaaaaaaaaaaaaaaaaaaaaaaaaaaaaaaaaaaaaaaaaaaaaaaaaaaaaaaaaaaaaaaaaaaaaaaaaaaaaaaaaaaaaaaaaaaaaaaaaaaaaaaaaaaaaaaaaaaaaaaaaaaaaaaaaaaaaaaaaaaaaaaaaaaaaaaaaaaaaaaaaaaaaaaaaaaaaaaaaaaaaaaaaaaaaaaaaaaaaaaaaaaaaaaaaaaaaaaaaaaaaaaaaaaaaaaaaaaaaaaaaaaaaaaaaaaaaaaaaaaaaaaaaaaaaaaaaaaaaaaaaaaaaaaaaaaaaaaaaaaaaaaaaaaaaaaaaaaaaaaaaaaaaaaaaaaaaaaaaaaaaaaaaaaaaaaaaaaaaaaaaaaaaaaaaaaaaaaaaaaaaaaaaaaaaaaaaaaaaaaaaaaaaaaaaaaaaaaaaaaaaaaaaaaaaaaaaaaaaaaaaaaaaaaaaaaaaaaaaaaaaaaaaaaaaaaaaaaaaaaaaaaaaaaaaaaaaaaaaaaaaaaaaaaaaaaaaaaaaaaaaaaaaaaaaaaaaaaaaaaaaaaaaaaaaaaaaaaaaaaaaaaaaaaaaaaaaaaaaaaaaaaaaaaaaaaaaaaaaaaaaaaaaaaaaaaaaaaaaaaaaaaaaaaaaaaaaaaaaaaaaaaaaaaaaaaaaaaaaaaaaaaaaaaaaaaaaaaaaaaaaaaaaaaaaaaaaaaaaaaaaaaaaaaaaaaaaaaaaaaaaaaaaaaaaaaaaaaaaaaaaaaaaaaaaaaaaaaaaaaaaaaaaaaaaaaaaaaaaaaaaaaaaaaaaaaaaaaaaaaaaaaaaaaaaaaaaaaaaaaaaaaaaaaaaaaaaaaaaaaaaaaaaaaaaaaaaaaaaaaaaaaaaaaaaaaaaaaaaaaaaaaaaaaaaaaaaaaaaaaaaaaaaaaaaaaaaaaaaaaaa") ∷ text (codes "b") ∷ end ∷ [])) ×
    -- «[^⟦a×1000⟧]: b␊»: text «[^⟦a×1000⟧]: b»
    (extended_answer (91 ∷ 94 ∷ 97 ∷ 97 ∷ 97 ∷ 97 ∷ 97 ∷ 97 ∷ 97 ∷ 97 ∷ 97 ∷ 97 ∷ 97 ∷ 97 ∷ 97 ∷ 97 ∷ 97 ∷ 97 ∷ 97 ∷ 97 ∷ 97 ∷ 97 ∷ 97 ∷ 97 ∷ 97 ∷ 97 ∷ 97 ∷ 97 ∷ 97 ∷ 97 ∷ 97 ∷ 97 ∷ 97 ∷ 97 ∷ 97 ∷ 97 ∷ 97 ∷ 97 ∷ 97 ∷ 97 ∷ 97 ∷ 97 ∷ 97 ∷ 97 ∷ 97 ∷ 97 ∷ 97 ∷ 97 ∷ 97 ∷ 97 ∷ 97 ∷ 97 ∷ 97 ∷ 97 ∷ 97 ∷ 97 ∷ 97 ∷ 97 ∷ 97 ∷ 97 ∷ 97 ∷ 97 ∷ 97 ∷ 97 ∷ 97 ∷ 97 ∷ 97 ∷ 97 ∷ 97 ∷ 97 ∷ 97 ∷ 97 ∷ 97 ∷ 97 ∷ 97 ∷ 97 ∷ 97 ∷ 97 ∷ 97 ∷ 97 ∷ 97 ∷ 97 ∷ 97 ∷ 97 ∷ 97 ∷ 97 ∷ 97 ∷ 97 ∷ 97 ∷ 97 ∷ 97 ∷ 97 ∷ 97 ∷ 97 ∷ 97 ∷ 97 ∷ 97 ∷ 97 ∷ 97 ∷ 97 ∷ 97 ∷ 97 ∷ 97 ∷ 97 ∷ 97 ∷ 97 ∷ 97 ∷ 97 ∷ 97 ∷ 97 ∷ 97 ∷ 97 ∷ 97 ∷ 97 ∷ 97 ∷ 97 ∷ 97 ∷ 97 ∷ 97 ∷ 97 ∷ 97 ∷ 97 ∷ 97 ∷ 97 ∷ 97 ∷ 97 ∷ 97 ∷ 97 ∷ 97 ∷ 97 ∷ 97 ∷ 97 ∷ 97 ∷ 97 ∷ 97 ∷ 97 ∷ 97 ∷ 97 ∷ 97 ∷ 97 ∷ 97 ∷ 97 ∷ 97 ∷ 97 ∷ 97 ∷ 97 ∷ 97 ∷ 97 ∷ 97 ∷ 97 ∷ 97 ∷ 97 ∷ 97 ∷ 97 ∷ 97 ∷ 97 ∷ 97 ∷ 97 ∷ 97 ∷ 97 ∷ 97 ∷ 97 ∷ 97 ∷ 97 ∷ 97 ∷ 97 ∷ 97 ∷ 97 ∷ 97 ∷ 97 ∷ 97 ∷ 97 ∷ 97 ∷ 97 ∷ 97 ∷ 97 ∷ 97 ∷ 97 ∷ 97 ∷ 97 ∷ 97 ∷ 97 ∷ 97 ∷ 97 ∷ 97 ∷ 97 ∷ 97 ∷ 97 ∷ 97 ∷ 97 ∷ 97 ∷ 97 ∷ 97 ∷ 97 ∷ 97 ∷ 97 ∷ 97 ∷ 97 ∷ 97 ∷ 97 ∷ 97 ∷ 97 ∷ 97 ∷ 97 ∷ 97 ∷ 97 ∷ 97 ∷ 97 ∷ 97 ∷ 97 ∷ 97 ∷ 97 ∷ 97 ∷ 97 ∷ 97 ∷ 97 ∷ 97 ∷ 97 ∷ 97 ∷ 97 ∷ 97 ∷ 97 ∷ 97 ∷ 97 ∷ 97 ∷ 97 ∷ 97 ∷ 97 ∷ 97 ∷ 97 ∷ 97 ∷ 97 ∷ 97 ∷ 97 ∷ 97 ∷ 97 ∷ 97 ∷ 97 ∷ 97 ∷ 97 ∷ 97 ∷ 97 ∷ 97 ∷ 97 ∷ 97 ∷ 97 ∷ 97 ∷ 97 ∷ 97 ∷ 97 ∷ 97 ∷ 97 ∷ 97 ∷ 97 ∷ 97 ∷ 97 ∷ 97 ∷ 97 ∷ 97 ∷ 97 ∷ 97 ∷ 97 ∷ 97 ∷ 97 ∷ 97 ∷ 97 ∷ 97 ∷ 97 ∷ 97 ∷ 97 ∷ 97 ∷ 97 ∷ 97 ∷ 97 ∷ 97 ∷ 97 ∷ 97 ∷ 97 ∷ 97 ∷ 97 ∷ 97 ∷ 97 ∷ 97 ∷ 97 ∷ 97 ∷ 97 ∷ 97 ∷ 97 ∷ 97 ∷ 97 ∷ 97 ∷ 97 ∷ 97 ∷ 97 ∷ 97 ∷ 97 ∷ 97 ∷ 97 ∷ 97 ∷ 97 ∷ 97 ∷ 97 ∷ 97 ∷ 97 ∷ 97 ∷ 97 ∷ 97 ∷ 97 ∷ 97 ∷ 97 ∷ 97 ∷ 97 ∷ 97 ∷ 97 ∷ 97 ∷ 97 ∷ 97 ∷ 97 ∷ 97 ∷ 97 ∷ 97 ∷ 97 ∷ 97 ∷ 97 ∷ 97 ∷ 97 ∷ 97 ∷ 97 ∷ 97 ∷ 97 ∷ 97 ∷ 97 ∷ 97 ∷ 97 ∷ 97 ∷ 97 ∷ 97 ∷ 97 ∷ 97 ∷ 97 ∷ 97 ∷ 97 ∷ 97 ∷ 97 ∷ 97 ∷ 97 ∷ 97 ∷ 97 ∷ 97 ∷ 97 ∷ 97 ∷ 97 ∷ 97 ∷ 97 ∷ 97 ∷ 97 ∷ 97 ∷ 97 ∷ 97 ∷ 97 ∷ 97 ∷ 97 ∷ 97 ∷ 97 ∷ 97 ∷ 97 ∷ 97 ∷ 97 ∷ 97 ∷ 97 ∷ 97 ∷ 97 ∷ 97 ∷ 97 ∷ 97 ∷ 97 ∷ 97 ∷ 97 ∷ 97 ∷ 97 ∷ 97 ∷ 97 ∷ 97 ∷ 97 ∷ 97 ∷ 97 ∷ 97 ∷ 97 ∷ 97 ∷ 97 ∷ 97 ∷ 97 ∷ 97 ∷ 97 ∷ 97 ∷ 97 ∷ 97 ∷ 97 ∷ 97 ∷ 97 ∷ 97 ∷ 97 ∷ 97 ∷ 97 ∷ 97 ∷ 97 ∷ 97 ∷ 97 ∷ 97 ∷ 97 ∷ 97 ∷ 97 ∷ 97 ∷ 97 ∷ 97 ∷ 97 ∷ 97 ∷ 97 ∷ 97 ∷ 97 ∷ 97 ∷ 97 ∷ 97 ∷ 97 ∷ 97 ∷ 97 ∷ 97 ∷ 97 ∷ 97 ∷ 97 ∷ 97 ∷ 97 ∷ 97 ∷ 97 ∷ 97 ∷ 97 ∷ 97 ∷ 97 ∷ 97 ∷ 97 ∷ 97 ∷ 97 ∷ 97 ∷ 97 ∷ 97 ∷ 97 ∷ 97 ∷ 97 ∷ 97 ∷ 97 ∷ 97 ∷ 97 ∷ 97 ∷ 97 ∷ 97 ∷ 97 ∷ 97 ∷ 97 ∷ 97 ∷ 97 ∷ 97 ∷ 97 ∷ 97 ∷ 97 ∷ 97 ∷ 97 ∷ 97 ∷ 97 ∷ 97 ∷ 97 ∷ 97 ∷ 97 ∷ 97 ∷ 97 ∷ 97 ∷ 97 ∷ 97 ∷ 97 ∷ 97 ∷ 97 ∷ 97 ∷ 97 ∷ 97 ∷ 97 ∷ 97 ∷ 97 ∷ 97 ∷ 97 ∷ 97 ∷ 97 ∷ 97 ∷ 97 ∷ 97 ∷ 97 ∷ 97 ∷ 97 ∷ 97 ∷ 97 ∷ 97 ∷ 97 ∷ 97 ∷ 97 ∷ 97 ∷ 97 ∷ 97 ∷ 97 ∷ 97 ∷ 97 ∷ 97 ∷ 97 ∷ 97 ∷ 97 ∷ 97 ∷ 97 ∷ 97 ∷ 97 ∷ 97 ∷ 97 ∷ 97 ∷ 97 ∷ 97 ∷ 97 ∷ 97 ∷ 97 ∷ 97 ∷ 97 ∷ 97 ∷ 97 ∷ 97 ∷ 97 ∷ 97 ∷ 97 ∷ 97 ∷ 97 ∷ 97 ∷ 97 ∷ 97 ∷ 97 ∷ 97 ∷ 97 ∷ 97 ∷ 97 ∷ 97 ∷ 97 ∷ 97 ∷ 97 ∷ 97 ∷ 97 ∷ 97 ∷ 97 ∷ 97 ∷ 97 ∷ 97 ∷ 97 ∷ 97 ∷ 97 ∷ 97 ∷ 97 ∷ 97 ∷ 97 ∷ 97 ∷ 97 ∷ 97 ∷ 97 ∷ 97 ∷ 97 ∷ 97 ∷ 97 ∷ 97 ∷ 97 ∷ 97 ∷ 97 ∷ 97 ∷ 97 ∷ 97 ∷ 97 ∷ 97 ∷ 97 ∷ 97 ∷ 97 ∷ 97 ∷ 97 ∷ 97 ∷ 97 ∷ 97 ∷ 97 ∷ 97 ∷ 97 ∷ 97 ∷ 97 ∷ 97 ∷ 97 ∷ 97 ∷ 97 ∷ 97 ∷ 97 ∷ 97 ∷ 97 ∷ 97 ∷ 97 ∷ 97 ∷ 97 ∷ 97 ∷ 97 ∷ 97 ∷ 97 ∷ 97 ∷ 97 ∷ 97 ∷ 97 ∷ 97 ∷ 97 ∷ 97 ∷ 97 ∷ 97 ∷ 97 ∷ 97 ∷ 97 ∷ 97 ∷ 97 ∷ 97 ∷ 97 ∷ 97 ∷ 97 ∷ 97 ∷ 97 ∷ 97 ∷ 97 ∷ 97 ∷ 97 ∷ 97 ∷ 97 ∷ 97 ∷ 97 ∷ 97 ∷ 97 ∷ 97 ∷ 97 ∷ 97 ∷ 97 ∷ 97 ∷ 97 ∷ 97 ∷ 97 ∷ 97 ∷ 97 ∷ 97 ∷ 97 ∷ 97 ∷ 97 ∷ 97 ∷ 97 ∷ 97 ∷ 97 ∷ 97 ∷ 97 ∷ 97 ∷ 97 ∷ 97 ∷ 97 ∷ 97 ∷ 97 ∷ 97 ∷ 97 ∷ 97 ∷ 97 ∷ 97 ∷ 97 ∷ 97 ∷ 97 ∷ 97 ∷ 97 ∷ 97 ∷ 97 ∷ 97 ∷ 97 ∷ 97 ∷ 97 ∷ 97 ∷ 97 ∷ 97 ∷ 97 ∷ 97 ∷ 97 ∷ 97 ∷ 97 ∷ 97 ∷ 97 ∷ 97 ∷ 97 ∷ 97 ∷ 97 ∷ 97 ∷ 97 ∷ 97 ∷ 97 ∷ 97 ∷ 97 ∷ 97 ∷ 97 ∷ 97 ∷ 97 ∷ 97 ∷ 97 ∷ 97 ∷ 97 ∷ 97 ∷ 97 ∷ 97 ∷ 97 ∷ 97 ∷ 97 ∷ 97 ∷ 97 ∷ 97 ∷ 97 ∷ 97 ∷ 97 ∷ 97 ∷ 97 ∷ 97 ∷ 97 ∷ 97 ∷ 97 ∷ 97 ∷ 97 ∷ 97 ∷ 97 ∷ 97 ∷ 97 ∷ 97 ∷ 97 ∷ 97 ∷ 97 ∷ 97 ∷ 97 ∷ 97 ∷ 97 ∷ 97 ∷ 97 ∷ 97 ∷ 97 ∷ 97 ∷ 97 ∷ 97 ∷ 97 ∷ 97 ∷ 97 ∷ 97 ∷ 97 ∷ 97 ∷ 97 ∷ 97 ∷ 97 ∷ 97 ∷ 97 ∷ 97 ∷ 97 ∷ 97 ∷ 97 ∷ 97 ∷ 97 ∷ 97 ∷ 97 ∷ 97 ∷ 97 ∷ 97 ∷ 97 ∷ 97 ∷ 97 ∷ 97 ∷ 97 ∷ 97 ∷ 97 ∷ 97 ∷ 97 ∷ 97 ∷ 97 ∷ 97 ∷ 97 ∷ 97 ∷ 97 ∷ 97 ∷ 97 ∷ 97 ∷ 97 ∷ 97 ∷ 97 ∷ 97 ∷ 97 ∷ 97 ∷ 97 ∷ 97 ∷ 97 ∷ 97 ∷ 97 ∷ 97 ∷ 97 ∷ 97 ∷ 97 ∷ 97 ∷ 97 ∷ 97 ∷ 97 ∷ 97 ∷ 97 ∷ 97 ∷ 97 ∷ 97 ∷ 97 ∷ 97 ∷ 97 ∷ 97 ∷ 97 ∷ 97 ∷ 97 ∷ 97 ∷ 97 ∷ 97 ∷ 97 ∷ 97 ∷ 97 ∷ 97 ∷ 97 ∷ 97 ∷ 97 ∷ 97 ∷ 97 ∷ 97 ∷ 97 ∷ 97 ∷ 97 ∷ 97 ∷ 97 ∷ 97 ∷ 97 ∷ 97 ∷ 97 ∷ 97 ∷ 97 ∷ 97 ∷ 97 ∷ 97 ∷ 97 ∷ 97 ∷ 97 ∷ 97 ∷ 97 ∷ 97 ∷ 97 ∷ 97 ∷ 97 ∷ 97 ∷ 97 ∷ 97 ∷ 97 ∷ 97 ∷ 97 ∷ 97 ∷ 97 ∷ 97 ∷ 97 ∷ 97 ∷ 97 ∷ 97 ∷ 97 ∷ 97 ∷ 97 ∷ 97 ∷ 97 ∷ 97 ∷ 97 ∷ 97 ∷ 97 ∷ 97 ∷ 97 ∷ 97 ∷ 97 ∷ 97 ∷ 97 ∷ 97 ∷ 97 ∷ 97 ∷ 97 ∷ 97 ∷ 97 ∷ 97 ∷ 97 ∷ 97 ∷ 97 ∷ 97 ∷ 97 ∷ 97 ∷ 97 ∷ 97 ∷ 97 ∷ 97 ∷ 97 ∷ 97 ∷ 97 ∷ 97 ∷ 97 ∷ 97 ∷ 97 ∷ 97 ∷ 97 ∷ 97 ∷ 97 ∷ 97 ∷ 97 ∷ 97 ∷ 97 ∷ 97 ∷ 97 ∷ 97 ∷ 97 ∷ 97 ∷ 97 ∷ 97 ∷ 97 ∷ 97 ∷ 97 ∷ 97 ∷ 97 ∷ 97 ∷ 97 ∷ 97 ∷ 97 ∷ 97 ∷ 97 ∷ 97 ∷ 97 ∷ 97 ∷ 97 ∷ 97 ∷ 97 ∷ 97 ∷ 97 ∷ 97 ∷ 97 ∷ 97 ∷ 97 ∷ 97 ∷ 97 ∷ 97 ∷ 97 ∷ 97 ∷ 97 ∷ 97 ∷ 97 ∷ 97 ∷ 97 ∷ 97 ∷ 97 ∷ 97 ∷ 97 ∷ 97 ∷ 97 ∷ 97 ∷ 97 ∷ 97 ∷ 97 ∷ 97 ∷ 97 ∷ 97 ∷ 97 ∷ 97 ∷ 97 ∷ 97 ∷ 97 ∷ 97 ∷ 97 ∷ 97 ∷ 97 ∷ 97 ∷ 97 ∷ 97 ∷ 97 ∷ 97 ∷ 97 ∷ 97 ∷ 97 ∷ 97 ∷ 97 ∷ 97 ∷ 97 ∷ 97 ∷ 97 ∷ 97 ∷ 97 ∷ 97 ∷ 97 ∷ 97 ∷ 97 ∷ 97 ∷ 97 ∷ 97 ∷ 97 ∷ 97 ∷ 97 ∷ 97 ∷ 97 ∷ 93 ∷ 58 ∷ 32 ∷ 98 ∷ 10 ∷ []) ≡ (text (codes "[^aaaaaaaaaaaaaaaaaaaaaaaaaaaaaaaaaaaaaaaaaaaaaaaaaaaaaaaaaaaaaaaaaaaaaaaaaaaaaaaaaaaaaaaaaaaaaaaaaaaaaaaaaaaaaaaaaaaaaaaaaaaaaaaaaaaaaaaaaaaaaaaaaaaaaaaaaaaaaaaaaaaaaaaaaaaaaaaaaaaaaaaaaaaaaaaaaaaaaaaaaaaaaaaaaaaaaaaaaaaaaaaaaaaaaaaaaaaaaaaaaaaaaaaaaaaaaaaaaaaaaaaaaaaaaaaaaaaaaaaaaaaaaaaaaaaaaaaaaaaaaaaaaaaaaaaaaaaaaaaaaaaaaaaaaaaaaaaaaaaaaaaaaaaaaaaaaaaaaaaaaaaaaaaaaaaaaaaaaaaaaaaaaaaaaaaaaaaaaaaaaaaaaaaaaaaaaaaaaaaaaaaaaaaaaaaaaaaaaaaaaaaaaaaaaaaaaaaaaaaaaaaaaaaaaaaaaaaaaaaaaaaaaaaaaaaaaaaaaaaaaaaaaaaaaaaaaaaaaaaaaaaaaaaaaaaaaaaaaaaaaaaaaaaaaaaaaaaaaaaaaaaaaaaaaaaaaaaaaaaaaaaaaaaaaaaaaaaaaaaaaaaaaaaaaaaaaaaaaaaaaaaaaaaaaaaaaaaaaaaaaaaaaaaaaaaaaaaaaaaaaaaaaaaaaaaaaaaaaaaaaaaaaaaaaaaaaaaaaaaaaaaaaaaaaaaaaaaaaaaaaaaaaaaaaaaaaaaaaaaaaaaaaaaaaaaaaaaaaaaaaaaaaaaaaaaaaaaaaaaaaaaaaaaaaaaaaaaaaaaaaaaaaaaaaaaaaaaaaaaaaaaaaaaaaaaaaaaaaaaaaaaaaaaaaaaaaaaaaaaaaaaaaaaaaaaaaaaaaaaaaaaaaaaaaaaaaaaaaaaaaaaaaaaaaaaaaaaaaaaaaaaaaaaaaaaaaaaaaaaaaaaaaaaaaaaaaaaaaaaaaaaaaaaaaaaaaaaaaaaaaaaaaaaaaaaaaaaaaaaa]: b") ∷ []))

abbrev pub Math : Type 0
Math =
    -- «$$␊a␊$$␊»: math «» «a␊»
    (extended_answer (36 ∷ 36 ∷ 10 ∷ 97 ∷ 10 ∷ 36 ∷ 36 ∷ 10 ∷ []) ≡ (math (codes "") (97 ∷ 10 ∷ []) ∷ [])) ×
    -- «$$ x␊a␊$␊$$$␊»: math «x» «a␊$␊»
    (extended_answer (36 ∷ 36 ∷ 32 ∷ 120 ∷ 10 ∷ 97 ∷ 10 ∷ 36 ∷ 10 ∷ 36 ∷ 36 ∷ 36 ∷ 10 ∷ []) ≡ (math (codes "x") (97 ∷ 10 ∷ 36 ∷ 10 ∷ []) ∷ [])) ×
    -- «$␊a␊»: text «$␊a»
    (extended_answer (36 ∷ 10 ∷ 97 ∷ 10 ∷ []) ≡ (text (36 ∷ 10 ∷ 97 ∷ []) ∷ [])) ×
    -- «$$ $␊»: text «$$ $»
    (extended_answer (36 ∷ 36 ∷ 32 ∷ 36 ∷ 10 ∷ []) ≡ (text (codes "$$ $") ∷ [])) ×
    -- «a␊$$␊b␊»: text «a», math «» «b␊»
    (extended_answer (97 ∷ 10 ∷ 36 ∷ 36 ∷ 10 ∷ 98 ∷ 10 ∷ []) ≡ (text (codes "a") ∷ math (codes "") (98 ∷ 10 ∷ []) ∷ [])) ×
    -- «- $$␊  a␊␊b␊»: item - tight [math «» «a␊␊»], text «b»
    (extended_answer (45 ∷ 32 ∷ 36 ∷ 36 ∷ 10 ∷ 32 ∷ 32 ∷ 97 ∷ 10 ∷ 10 ∷ 98 ∷ 10 ∷ []) ≡ (in_item (bullet 45) false ∷ math (codes "") (97 ∷ 10 ∷ 10 ∷ []) ∷ end ∷ text (codes "b") ∷ [])) ×
    -- «$$a$$␊»: text «$$a$$»
    (extended_answer (36 ∷ 36 ∷ 97 ∷ 36 ∷ 36 ∷ 10 ∷ []) ≡ (text (codes "$$a$$") ∷ [])) ×
    -- «   $$␊    a␊»: math «» « a␊»
    (extended_answer (32 ∷ 32 ∷ 32 ∷ 36 ∷ 36 ∷ 10 ∷ 32 ∷ 32 ∷ 32 ∷ 32 ∷ 97 ∷ 10 ∷ []) ≡ (math (codes "") (32 ∷ 97 ∷ 10 ∷ []) ∷ []))

abbrev pub FrontMatterLines : Type 0
FrontMatterLines =
    -- «---␊a: b␊---␊»: matter «a: b␊»
    (extended_answer (45 ∷ 45 ∷ 45 ∷ 10 ∷ 97 ∷ 58 ∷ 32 ∷ 98 ∷ 10 ∷ 45 ∷ 45 ∷ 45 ∷ 10 ∷ []) ≡ (matter (97 ∷ 58 ∷ 32 ∷ 98 ∷ 10 ∷ []) ∷ [])) ×
    -- «---␊a␊---␊»: matter «a␊»
    (extended_answer (45 ∷ 45 ∷ 45 ∷ 10 ∷ 97 ∷ 10 ∷ 45 ∷ 45 ∷ 45 ∷ 10 ∷ []) ≡ (matter (97 ∷ 10 ∷ []) ∷ [])) ×
    -- «---␊a␊»: break, text «a»
    (extended_answer (45 ∷ 45 ∷ 45 ∷ 10 ∷ 97 ∷ 10 ∷ []) ≡ (break ∷ text (codes "a") ∷ [])) ×
    -- «+++␊a = 1␊+++␊b␊»: matter «a = 1␊», text «b»
    (extended_answer (43 ∷ 43 ∷ 43 ∷ 10 ∷ 97 ∷ 32 ∷ 61 ∷ 32 ∷ 49 ∷ 10 ∷ 43 ∷ 43 ∷ 43 ∷ 10 ∷ 98 ∷ 10 ∷ []) ≡ (matter (97 ∷ 32 ∷ 61 ∷ 32 ∷ 49 ∷ 10 ∷ []) ∷ text (codes "b") ∷ [])) ×
    -- «---␊---␊# a␊»: matter «», heading 1 «a»
    (extended_answer (45 ∷ 45 ∷ 45 ∷ 10 ∷ 45 ∷ 45 ∷ 45 ∷ 10 ∷ 35 ∷ 32 ∷ 97 ∷ 10 ∷ []) ≡ (matter (codes "") ∷ head 1 (codes "a") ∷ [])) ×
    -- «--- ␊a␊---  ␊b␊»: matter «a␊», text «b»
    (extended_answer (45 ∷ 45 ∷ 45 ∷ 32 ∷ 10 ∷ 97 ∷ 10 ∷ 45 ∷ 45 ∷ 45 ∷ 32 ∷ 32 ∷ 10 ∷ 98 ∷ 10 ∷ []) ≡ (matter (97 ∷ 10 ∷ []) ∷ text (codes "b") ∷ [])) ×
    -- «----␊a␊----␊»: break, heading 2 «a»
    (extended_answer (45 ∷ 45 ∷ 45 ∷ 45 ∷ 10 ∷ 97 ∷ 10 ∷ 45 ∷ 45 ∷ 45 ∷ 45 ∷ 10 ∷ []) ≡ (break ∷ head 2 (codes "a") ∷ [])) ×
    -- « ---␊a␊---␊»: break, heading 2 «a»
    (extended_answer (32 ∷ 45 ∷ 45 ∷ 45 ∷ 10 ∷ 97 ∷ 10 ∷ 45 ∷ 45 ∷ 45 ∷ 10 ∷ []) ≡ (break ∷ head 2 (codes "a") ∷ [])) ×
    -- «---␊a␊+++␊»: break, text «a␊+++»
    (extended_answer (45 ∷ 45 ∷ 45 ∷ 10 ∷ 97 ∷ 10 ∷ 43 ∷ 43 ∷ 43 ∷ 10 ∷ []) ≡ (break ∷ text (97 ∷ 10 ∷ 43 ∷ 43 ∷ 43 ∷ []) ∷ [])) ×
    -- «␊---␊a␊---␊»: break, heading 2 «a»
    (extended_answer (10 ∷ 45 ∷ 45 ∷ 45 ∷ 10 ∷ 97 ∷ 10 ∷ 45 ∷ 45 ∷ 45 ∷ 10 ∷ []) ≡ (break ∷ head 2 (codes "a") ∷ [])) ×
    -- «---␊a␊ ---␊---»: matter «a␊ ---␊»
    (extended_answer (45 ∷ 45 ∷ 45 ∷ 10 ∷ 97 ∷ 10 ∷ 32 ∷ 45 ∷ 45 ∷ 45 ∷ 10 ∷ 45 ∷ 45 ∷ 45 ∷ []) ≡ (matter (97 ∷ 10 ∷ 32 ∷ 45 ∷ 45 ∷ 45 ∷ 10 ∷ []) ∷ [])) ×
    -- «---␊␊---␊---␊»: matter «␊», break
    (extended_answer (45 ∷ 45 ∷ 45 ∷ 10 ∷ 10 ∷ 45 ∷ 45 ∷ 45 ∷ 10 ∷ 45 ∷ 45 ∷ 45 ∷ 10 ∷ []) ≡ (matter (10 ∷ []) ∷ break ∷ []))

-- all of them
abbrev pub ExtendedBlocks : Type 0
ExtendedBlocks =
    SpecTables ×
    ExtensionTables ×
    TableRows ×
    FootnoteDefinitions ×
    Math ×
    FrontMatterLines
