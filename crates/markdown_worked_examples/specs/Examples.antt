-- Worked examples, written by tools/examples.py from tools/rules.
use Rattle.std.specs.Prelude.{◌≡◌, true, false, [], ◌∷◌, codes, Some, None}
use Rattle.markdown_content.specs.DefaultOptions.{default_constructs, default_options}
use Rattle.markdown_event.specs.declared.event.Name.{Name}
use Rattle.markdown_event.specs.declared.event.Content.{Content}
use Rattle.markdown_worked_examples.specs.ExampleNotation.{default, piece, enter, exit, chained, text_answer, text_outline, string_answer, string_outline, label_answer, title_answer, destination_answer, spacing_answer, bounded_answer, data_answer, counts_answer, looks_answer}

abbrev pub Escapes : Type 0
Escapes =
    -- string «a\*»: Data 0-1, CharacterEscape 1-3 [CharacterEscapeMarker 1-2, CharacterEscapeValue 2-3]
    (string_answer (default) (codes "a\\*") (piece 0 0 3 0 ∷ []) ≡ (enter Name.Data 1 1 0 0 ∷ exit Name.Data 1 2 1 0 ∷ enter Name.CharacterEscape 1 2 1 0 ∷ enter Name.CharacterEscapeMarker 1 2 1 0 ∷ exit Name.CharacterEscapeMarker 1 3 2 0 ∷ enter Name.CharacterEscapeValue 1 3 2 0 ∷ exit Name.CharacterEscapeValue 1 4 3 0 ∷ exit Name.CharacterEscape 1 4 3 0 ∷ [])) ×
    -- text «»:
    (text_answer (default) (codes "") (piece 0 0 0 0 ∷ []) ≡ ([])) ×
    -- string «»:
    (string_answer (default) (codes "") (piece 0 0 0 0 ∷ []) ≡ ([])) ×
    -- string «&#12345678;»: Data 0-11
    (string_answer (default) (codes "&#12345678;") (piece 0 0 11 0 ∷ []) ≡ (enter Name.Data 1 1 0 0 ∷ exit Name.Data 1 12 11 0 ∷ [])) ×
    -- string «&nosuch;»: Data 0-8
    (string_answer (default) (codes "&nosuch;") (piece 0 0 8 0 ∷ []) ≡ (enter Name.Data 1 1 0 0 ∷ exit Name.Data 1 9 8 0 ∷ [])) ×
    -- string «a\b»: Data 0-3
    (string_answer (default) (codes "a\\b") (piece 0 0 3 0 ∷ []) ≡ (enter Name.Data 1 1 0 0 ∷ exit Name.Data 1 4 3 0 ∷ [])) ×
    -- string «\␊»: Data 0-1, LineEnding 1-2
    (string_answer (default) (92 ∷ 10 ∷ []) (piece 0 0 2 0 ∷ []) ≡ (enter Name.Data 1 1 0 0 ∷ exit Name.Data 1 2 1 0 ∷ enter Name.LineEnding 1 2 1 0 ∷ exit Name.LineEnding 2 1 2 0 ∷ [])) ×
    -- string «a␍␊b»: Data 0-1, LineEnding 1-3, Data 3-4
    (string_answer (default) (97 ∷ 13 ∷ 10 ∷ 98 ∷ []) (piece 0 0 4 0 ∷ []) ≡ (enter Name.Data 1 1 0 0 ∷ exit Name.Data 1 2 1 0 ∷ enter Name.LineEnding 1 2 1 0 ∷ exit Name.LineEnding 2 1 3 0 ∷ enter Name.Data 2 1 3 0 ∷ exit Name.Data 2 2 4 0 ∷ [])) ×
    -- string «&amp;»: CharacterReference 0-5 [CharacterReferenceMarker 0-1, CharacterReferenceValue 1-4, CharacterReferenceMarkerSemi 4-5]
    (string_answer (default) (codes "&amp;") (piece 0 0 5 0 ∷ []) ≡ (enter Name.CharacterReference 1 1 0 0 ∷ enter Name.CharacterReferenceMarker 1 1 0 0 ∷ exit Name.CharacterReferenceMarker 1 2 1 0 ∷ enter Name.CharacterReferenceValue 1 2 1 0 ∷ exit Name.CharacterReferenceValue 1 5 4 0 ∷ enter Name.CharacterReferenceMarkerSemi 1 5 4 0 ∷ exit Name.CharacterReferenceMarkerSemi 1 6 5 0 ∷ exit Name.CharacterReference 1 6 5 0 ∷ [])) ×
    -- string «&#x41;»: CharacterReference 0-6 [CharacterReferenceMarker 0-1, CharacterReferenceMarkerNumeric 1-2, CharacterReferenceMarkerHexadecimal 2-3, CharacterReferenceValue 3-5, CharacterReferenceMarkerSemi 5-6]
    (string_answer (default) (codes "&#x41;") (piece 0 0 6 0 ∷ []) ≡ (enter Name.CharacterReference 1 1 0 0 ∷ enter Name.CharacterReferenceMarker 1 1 0 0 ∷ exit Name.CharacterReferenceMarker 1 2 1 0 ∷ enter Name.CharacterReferenceMarkerNumeric 1 2 1 0 ∷ exit Name.CharacterReferenceMarkerNumeric 1 3 2 0 ∷ enter Name.CharacterReferenceMarkerHexadecimal 1 3 2 0 ∷ exit Name.CharacterReferenceMarkerHexadecimal 1 4 3 0 ∷ enter Name.CharacterReferenceValue 1 4 3 0 ∷ exit Name.CharacterReferenceValue 1 6 5 0 ∷ enter Name.CharacterReferenceMarkerSemi 1 6 5 0 ∷ exit Name.CharacterReferenceMarkerSemi 1 7 6 0 ∷ exit Name.CharacterReference 1 7 6 0 ∷ [])) ×
    -- string «␠a ␊b»: Data 0-2, SpaceOrTab 2-3, LineEnding 3-4, Data 4-5
    (string_answer (default) (32 ∷ 97 ∷ 32 ∷ 10 ∷ 98 ∷ []) (piece 0 0 5 0 ∷ []) ≡ (enter Name.Data 1 1 0 0 ∷ exit Name.Data 1 3 2 0 ∷ enter Name.SpaceOrTab 1 3 2 0 ∷ exit Name.SpaceOrTab 1 4 3 0 ∷ enter Name.LineEnding 1 4 3 0 ∷ exit Name.LineEnding 2 1 4 0 ∷ enter Name.Data 2 1 4 0 ∷ exit Name.Data 2 2 5 0 ∷ [])) ×
    -- text «a\␊b»: Data 0-1, HardBreakEscape 1-2, LineEnding 2-3, Data 3-4
    (text_answer (default) (97 ∷ 92 ∷ 10 ∷ 98 ∷ []) (piece 0 0 4 0 ∷ []) ≡ (enter Name.Data 1 1 0 0 ∷ exit Name.Data 1 2 1 0 ∷ enter Name.HardBreakEscape 1 2 1 0 ∷ exit Name.HardBreakEscape 1 3 2 0 ∷ enter Name.LineEnding 1 3 2 0 ∷ exit Name.LineEnding 2 1 3 0 ∷ enter Name.Data 2 1 3 0 ∷ exit Name.Data 2 2 4 0 ∷ [])) ×
    -- text outer «\!\"\#\$\%\&\'\(\)\*\+\,\-\.\/»: CharacterEscape 0-2, CharacterEscape 2-4, CharacterEscape 4-6, CharacterEscape 6-8, CharacterEscape 8-10, CharacterEscape 10-12, CharacterEscape 12-14, CharacterEscape 14-16, CharacterEscape 16-18, CharacterEscape 18-20, CharacterEscape 20-22, CharacterEscape 22-24, CharacterEscape 24-26, CharacterEscape 26-28, CharacterEscape 28-30
    (text_outline (default) (codes "\\!\\\"\\#\\$\\%\\&\\'\\(\\)\\*\\+\\,\\-\\.\\/") (piece 0 0 30 0 ∷ []) ≡ (enter Name.CharacterEscape 1 1 0 0 ∷ exit Name.CharacterEscape 1 3 2 0 ∷ enter Name.CharacterEscape 1 3 2 0 ∷ exit Name.CharacterEscape 1 5 4 0 ∷ enter Name.CharacterEscape 1 5 4 0 ∷ exit Name.CharacterEscape 1 7 6 0 ∷ enter Name.CharacterEscape 1 7 6 0 ∷ exit Name.CharacterEscape 1 9 8 0 ∷ enter Name.CharacterEscape 1 9 8 0 ∷ exit Name.CharacterEscape 1 11 10 0 ∷ enter Name.CharacterEscape 1 11 10 0 ∷ exit Name.CharacterEscape 1 13 12 0 ∷ enter Name.CharacterEscape 1 13 12 0 ∷ exit Name.CharacterEscape 1 15 14 0 ∷ enter Name.CharacterEscape 1 15 14 0 ∷ exit Name.CharacterEscape 1 17 16 0 ∷ enter Name.CharacterEscape 1 17 16 0 ∷ exit Name.CharacterEscape 1 19 18 0 ∷ enter Name.CharacterEscape 1 19 18 0 ∷ exit Name.CharacterEscape 1 21 20 0 ∷ enter Name.CharacterEscape 1 21 20 0 ∷ exit Name.CharacterEscape 1 23 22 0 ∷ enter Name.CharacterEscape 1 23 22 0 ∷ exit Name.CharacterEscape 1 25 24 0 ∷ enter Name.CharacterEscape 1 25 24 0 ∷ exit Name.CharacterEscape 1 27 26 0 ∷ enter Name.CharacterEscape 1 27 26 0 ∷ exit Name.CharacterEscape 1 29 28 0 ∷ enter Name.CharacterEscape 1 29 28 0 ∷ exit Name.CharacterEscape 1 31 30 0 ∷ [])) ×
    -- text outer «\:\;\<\=\>\?\@»: CharacterEscape 0-2, CharacterEscape 2-4, CharacterEscape 4-6, CharacterEscape 6-8, CharacterEscape 8-10, CharacterEscape 10-12, CharacterEscape 12-14
    (text_outline (default) (codes "\\:\\;\\<\\=\\>\\?\\@") (piece 0 0 14 0 ∷ []) ≡ (enter Name.CharacterEscape 1 1 0 0 ∷ exit Name.CharacterEscape 1 3 2 0 ∷ enter Name.CharacterEscape 1 3 2 0 ∷ exit Name.CharacterEscape 1 5 4 0 ∷ enter Name.CharacterEscape 1 5 4 0 ∷ exit Name.CharacterEscape 1 7 6 0 ∷ enter Name.CharacterEscape 1 7 6 0 ∷ exit Name.CharacterEscape 1 9 8 0 ∷ enter Name.CharacterEscape 1 9 8 0 ∷ exit Name.CharacterEscape 1 11 10 0 ∷ enter Name.CharacterEscape 1 11 10 0 ∷ exit Name.CharacterEscape 1 13 12 0 ∷ enter Name.CharacterEscape 1 13 12 0 ∷ exit Name.CharacterEscape 1 15 14 0 ∷ [])) ×
    -- text outer «\[\\\]\^\_\`»: CharacterEscape 0-2, CharacterEscape 2-4, CharacterEscape 4-6, CharacterEscape 6-8, CharacterEscape 8-10, CharacterEscape 10-12
    (text_outline (default) (codes "\\[\\\\\\]\\^\\_\\`") (piece 0 0 12 0 ∷ []) ≡ (enter Name.CharacterEscape 1 1 0 0 ∷ exit Name.CharacterEscape 1 3 2 0 ∷ enter Name.CharacterEscape 1 3 2 0 ∷ exit Name.CharacterEscape 1 5 4 0 ∷ enter Name.CharacterEscape 1 5 4 0 ∷ exit Name.CharacterEscape 1 7 6 0 ∷ enter Name.CharacterEscape 1 7 6 0 ∷ exit Name.CharacterEscape 1 9 8 0 ∷ enter Name.CharacterEscape 1 9 8 0 ∷ exit Name.CharacterEscape 1 11 10 0 ∷ enter Name.CharacterEscape 1 11 10 0 ∷ exit Name.CharacterEscape 1 13 12 0 ∷ [])) ×
    -- text outer «\{\|\}\~»: CharacterEscape 0-2, CharacterEscape 2-4, CharacterEscape 4-6, CharacterEscape 6-8
    (text_outline (default) (codes "\\{\\|\\}\\~") (piece 0 0 8 0 ∷ []) ≡ (enter Name.CharacterEscape 1 1 0 0 ∷ exit Name.CharacterEscape 1 3 2 0 ∷ enter Name.CharacterEscape 1 3 2 0 ∷ exit Name.CharacterEscape 1 5 4 0 ∷ enter Name.CharacterEscape 1 5 4 0 ∷ exit Name.CharacterEscape 1 7 6 0 ∷ enter Name.CharacterEscape 1 7 6 0 ∷ exit Name.CharacterEscape 1 9 8 0 ∷ [])) ×
    -- text «\ \0\9\A\Z\a\z\é»: Data 0-17
    (text_answer (default) (92 ∷ 32 ∷ 92 ∷ 48 ∷ 92 ∷ 57 ∷ 92 ∷ 65 ∷ 92 ∷ 90 ∷ 92 ∷ 97 ∷ 92 ∷ 122 ∷ 92 ∷ 195 ∷ 169 ∷ []) (piece 0 0 17 0 ∷ []) ≡ (enter Name.Data 1 1 0 0 ∷ exit Name.Data 1 18 17 0 ∷ [])) ×
    -- text «\⟦U+007F⟧»: Data 0-2
    (text_answer (default) (92 ∷ 127 ∷ []) (piece 0 0 2 0 ∷ []) ≡ (enter Name.Data 1 1 0 0 ∷ exit Name.Data 1 3 2 0 ∷ [])) ×
    -- text «\»: Data 0-1
    (text_answer (default) (codes "\\") (piece 0 0 1 0 ∷ []) ≡ (enter Name.Data 1 1 0 0 ∷ exit Name.Data 1 2 1 0 ∷ [])) ×
    -- text «\~»: CharacterEscape 0-2 [CharacterEscapeMarker 0-1, CharacterEscapeValue 1-2]
    (text_answer (default) (codes "\\~") (piece 0 0 2 0 ∷ []) ≡ (enter Name.CharacterEscape 1 1 0 0 ∷ enter Name.CharacterEscapeMarker 1 1 0 0 ∷ exit Name.CharacterEscapeMarker 1 2 1 0 ∷ enter Name.CharacterEscapeValue 1 2 1 0 ∷ exit Name.CharacterEscapeValue 1 3 2 0 ∷ exit Name.CharacterEscape 1 3 2 0 ∷ [])) ×
    -- string outer «\&amp;»: CharacterEscape 0-2, Data 2-6
    (string_outline (default) (codes "\\&amp;") (piece 0 0 6 0 ∷ []) ≡ (enter Name.CharacterEscape 1 1 0 0 ∷ exit Name.CharacterEscape 1 3 2 0 ∷ enter Name.Data 1 3 2 0 ∷ exit Name.Data 1 7 6 0 ∷ [])) ×
    -- string «a  ␊b»: Data 0-1, SpaceOrTab 1-3, LineEnding 3-4, Data 4-5
    (string_answer (default) (97 ∷ 32 ∷ 32 ∷ 10 ∷ 98 ∷ []) (piece 0 0 5 0 ∷ []) ≡ (enter Name.Data 1 1 0 0 ∷ exit Name.Data 1 2 1 0 ∷ enter Name.SpaceOrTab 1 2 1 0 ∷ exit Name.SpaceOrTab 1 4 3 0 ∷ enter Name.LineEnding 1 4 3 0 ∷ exit Name.LineEnding 2 1 4 0 ∷ enter Name.Data 2 1 4 0 ∷ exit Name.Data 2 2 5 0 ∷ [])) ×
    -- string «a␠»: Data 0-2
    (string_answer (default) (codes "a ") (piece 0 0 2 0 ∷ []) ≡ (enter Name.Data 1 1 0 0 ∷ exit Name.Data 1 3 2 0 ∷ [])) ×
    -- string «a*b_c~[d](e)<f>`g`»: Data 0-18
    (string_answer (default) (codes "a*b_c~[d](e)<f>`g`") (piece 0 0 18 0 ∷ []) ≡ (enter Name.Data 1 1 0 0 ∷ exit Name.Data 1 19 18 0 ∷ [])) ×
    -- string «␠ ␊␉»: SpaceOrTab 0-2, LineEnding 2-3, SpaceOrTab 3-4
    (string_answer (default) (32 ∷ 32 ∷ 10 ∷ 9 ∷ []) (piece 0 0 4 0 ∷ []) ≡ (enter Name.SpaceOrTab 1 1 0 0 ∷ exit Name.SpaceOrTab 1 3 2 0 ∷ enter Name.LineEnding 1 3 2 0 ∷ exit Name.LineEnding 2 1 3 0 ∷ enter Name.SpaceOrTab 2 1 3 0 ∷ exit Name.SpaceOrTab 2 5 4 0 ∷ [])) ×
    -- string «␍»: LineEnding 0-1
    (string_answer (default) (13 ∷ []) (piece 0 0 1 0 ∷ []) ≡ (enter Name.LineEnding 1 1 0 0 ∷ exit Name.LineEnding 2 1 1 0 ∷ [])) ×
    -- text «a\ ␊b»: Data 0-2, SpaceOrTab 2-3, LineEnding 3-4, Data 4-5
    (text_answer (default) (97 ∷ 92 ∷ 32 ∷ 10 ∷ 98 ∷ []) (piece 0 0 5 0 ∷ []) ≡ (enter Name.Data 1 1 0 0 ∷ exit Name.Data 1 3 2 0 ∷ enter Name.SpaceOrTab 1 3 2 0 ∷ exit Name.SpaceOrTab 1 4 3 0 ∷ enter Name.LineEnding 1 4 3 0 ∷ exit Name.LineEnding 2 1 4 0 ∷ enter Name.Data 2 1 4 0 ∷ exit Name.Data 2 2 5 0 ∷ []))

abbrev pub CharacterReferences : Type 0
CharacterReferences =
    -- string outer «&#1;»: CharacterReference 0-4
    (string_outline (default) (codes "&#1;") (piece 0 0 4 0 ∷ []) ≡ (enter Name.CharacterReference 1 1 0 0 ∷ exit Name.CharacterReference 1 5 4 0 ∷ [])) ×
    -- string outer «&#0123456;»: CharacterReference 0-10
    (string_outline (default) (codes "&#0123456;") (piece 0 0 10 0 ∷ []) ≡ (enter Name.CharacterReference 1 1 0 0 ∷ exit Name.CharacterReference 1 11 10 0 ∷ [])) ×
    -- string outer «&#789;»: CharacterReference 0-6
    (string_outline (default) (codes "&#789;") (piece 0 0 6 0 ∷ []) ≡ (enter Name.CharacterReference 1 1 0 0 ∷ exit Name.CharacterReference 1 7 6 0 ∷ [])) ×
    -- text «&#0000065;»: CharacterReference 0-10 [CharacterReferenceMarker 0-1, CharacterReferenceMarkerNumeric 1-2, CharacterReferenceValue 2-9, CharacterReferenceMarkerSemi 9-10]
    (text_answer (default) (codes "&#0000065;") (piece 0 0 10 0 ∷ []) ≡ (enter Name.CharacterReference 1 1 0 0 ∷ enter Name.CharacterReferenceMarker 1 1 0 0 ∷ exit Name.CharacterReferenceMarker 1 2 1 0 ∷ enter Name.CharacterReferenceMarkerNumeric 1 2 1 0 ∷ exit Name.CharacterReferenceMarkerNumeric 1 3 2 0 ∷ enter Name.CharacterReferenceValue 1 3 2 0 ∷ exit Name.CharacterReferenceValue 1 10 9 0 ∷ enter Name.CharacterReferenceMarkerSemi 1 10 9 0 ∷ exit Name.CharacterReferenceMarkerSemi 1 11 10 0 ∷ exit Name.CharacterReference 1 11 10 0 ∷ [])) ×
    -- text «&#x000041;»: CharacterReference 0-10 [CharacterReferenceMarker 0-1, CharacterReferenceMarkerNumeric 1-2, CharacterReferenceMarkerHexadecimal 2-3, CharacterReferenceValue 3-9, CharacterReferenceMarkerSemi 9-10]
    (text_answer (default) (codes "&#x000041;") (piece 0 0 10 0 ∷ []) ≡ (enter Name.CharacterReference 1 1 0 0 ∷ enter Name.CharacterReferenceMarker 1 1 0 0 ∷ exit Name.CharacterReferenceMarker 1 2 1 0 ∷ enter Name.CharacterReferenceMarkerNumeric 1 2 1 0 ∷ exit Name.CharacterReferenceMarkerNumeric 1 3 2 0 ∷ enter Name.CharacterReferenceMarkerHexadecimal 1 3 2 0 ∷ exit Name.CharacterReferenceMarkerHexadecimal 1 4 3 0 ∷ enter Name.CharacterReferenceValue 1 4 3 0 ∷ exit Name.CharacterReferenceValue 1 10 9 0 ∷ enter Name.CharacterReferenceMarkerSemi 1 10 9 0 ∷ exit Name.CharacterReferenceMarkerSemi 1 11 10 0 ∷ exit Name.CharacterReference 1 11 10 0 ∷ [])) ×
    -- text «&#x0000041;»: Data 0-11
    (text_answer (default) (codes "&#x0000041;") (piece 0 0 11 0 ∷ []) ≡ (enter Name.Data 1 1 0 0 ∷ exit Name.Data 1 12 11 0 ∷ [])) ×
    -- text «&#X41;»: CharacterReference 0-6 [CharacterReferenceMarker 0-1, CharacterReferenceMarkerNumeric 1-2, CharacterReferenceMarkerHexadecimal 2-3, CharacterReferenceValue 3-5, CharacterReferenceMarkerSemi 5-6]
    (text_answer (default) (codes "&#X41;") (piece 0 0 6 0 ∷ []) ≡ (enter Name.CharacterReference 1 1 0 0 ∷ enter Name.CharacterReferenceMarker 1 1 0 0 ∷ exit Name.CharacterReferenceMarker 1 2 1 0 ∷ enter Name.CharacterReferenceMarkerNumeric 1 2 1 0 ∷ exit Name.CharacterReferenceMarkerNumeric 1 3 2 0 ∷ enter Name.CharacterReferenceMarkerHexadecimal 1 3 2 0 ∷ exit Name.CharacterReferenceMarkerHexadecimal 1 4 3 0 ∷ enter Name.CharacterReferenceValue 1 4 3 0 ∷ exit Name.CharacterReferenceValue 1 6 5 0 ∷ enter Name.CharacterReferenceMarkerSemi 1 6 5 0 ∷ exit Name.CharacterReferenceMarkerSemi 1 7 6 0 ∷ exit Name.CharacterReference 1 7 6 0 ∷ [])) ×
    -- string outer «&#xABCDEF;&#xabcdef;»: CharacterReference 0-10, CharacterReference 10-20
    (string_outline (default) (codes "&#xABCDEF;&#xabcdef;") (piece 0 0 20 0 ∷ []) ≡ (enter Name.CharacterReference 1 1 0 0 ∷ exit Name.CharacterReference 1 11 10 0 ∷ enter Name.CharacterReference 1 11 10 0 ∷ exit Name.CharacterReference 1 21 20 0 ∷ [])) ×
    -- string «&#;&#x;&;»: Data 0-9
    (string_answer (default) (codes "&#;&#x;&;") (piece 0 0 9 0 ∷ []) ≡ (enter Name.Data 1 1 0 0 ∷ exit Name.Data 1 10 9 0 ∷ [])) ×
    -- string «&#a;&#F;»: Data 0-8
    (string_answer (default) (codes "&#a;&#F;") (piece 0 0 8 0 ∷ []) ≡ (enter Name.Data 1 1 0 0 ∷ exit Name.Data 1 9 8 0 ∷ [])) ×
    -- string «&#/;&#:;»: Data 0-8
    (string_answer (default) (codes "&#/;&#:;") (piece 0 0 8 0 ∷ []) ≡ (enter Name.Data 1 1 0 0 ∷ exit Name.Data 1 9 8 0 ∷ [])) ×
    -- string «&#xG;&#xg;&#x@;&#x`;»: Data 0-20
    (string_answer (default) (codes "&#xG;&#xg;&#x@;&#x`;") (piece 0 0 20 0 ∷ []) ≡ (enter Name.Data 1 1 0 0 ∷ exit Name.Data 1 21 20 0 ∷ [])) ×
    -- string «&amp &#65 &#x41»: Data 0-15
    (string_answer (default) (codes "&amp &#65 &#x41") (piece 0 0 15 0 ∷ []) ≡ (enter Name.Data 1 1 0 0 ∷ exit Name.Data 1 16 15 0 ∷ [])) ×
    -- string outer «&frac12;»: CharacterReference 0-8
    (string_outline (default) (codes "&frac12;") (piece 0 0 8 0 ∷ []) ≡ (enter Name.CharacterReference 1 1 0 0 ∷ exit Name.CharacterReference 1 9 8 0 ∷ [])) ×
    -- string outer «&AElig;»: CharacterReference 0-7
    (string_outline (default) (codes "&AElig;") (piece 0 0 7 0 ∷ []) ≡ (enter Name.CharacterReference 1 1 0 0 ∷ exit Name.CharacterReference 1 8 7 0 ∷ [])) ×
    -- string «&Amp;»: Data 0-5
    (string_answer (default) (codes "&Amp;") (piece 0 0 5 0 ∷ []) ≡ (enter Name.Data 1 1 0 0 ∷ exit Name.Data 1 6 5 0 ∷ [])) ×
    -- text outer «&#123456;7»: CharacterReference 0-9, Data 9-10
    (text_outline (default) (codes "&#123456;7") (piece 0 0 10 0 ∷ []) ≡ (enter Name.CharacterReference 1 1 0 0 ∷ exit Name.CharacterReference 1 10 9 0 ∷ enter Name.Data 1 10 9 0 ∷ exit Name.Data 1 11 10 0 ∷ [])) ×
    -- text «&Abreve;»: Data 0-8
    (text_answer (default) (codes "&Abreve;") (piece 0 0 8 0 ∷ []) ≡ (enter Name.Data 1 1 0 0 ∷ exit Name.Data 1 9 8 0 ∷ [])) ×
    -- string outer references «&Abreve;»: CharacterReference 0-8
    (string_outline (record default { options = record default_options { html_references = true } }) (codes "&Abreve;") (piece 0 0 8 0 ∷ []) ≡ (enter Name.CharacterReference 1 1 0 0 ∷ exit Name.CharacterReference 1 9 8 0 ∷ [])) ×
    -- text outer commonmark «&Abreve;»: CharacterReference 0-8
    (text_outline (record default { options = record default_options { commonmark = true } }) (codes "&Abreve;") (piece 0 0 8 0 ∷ []) ≡ (enter Name.CharacterReference 1 1 0 0 ∷ exit Name.CharacterReference 1 9 8 0 ∷ [])) ×
    -- text «&NotEqualTilde;»: Data 0-15
    (text_answer (default) (codes "&NotEqualTilde;") (piece 0 0 15 0 ∷ []) ≡ (enter Name.Data 1 1 0 0 ∷ exit Name.Data 1 16 15 0 ∷ [])) ×
    -- text outer references «&NotEqualTilde;»: CharacterReference 0-15
    (text_outline (record default { options = record default_options { html_references = true } }) (codes "&NotEqualTilde;") (piece 0 0 15 0 ∷ []) ≡ (enter Name.CharacterReference 1 1 0 0 ∷ exit Name.CharacterReference 1 16 15 0 ∷ [])) ×
    -- string outer commonmark «&NotEqualTilde;»: CharacterReference 0-15
    (string_outline (record default { options = record default_options { commonmark = true } }) (codes "&NotEqualTilde;") (piece 0 0 15 0 ∷ []) ≡ (enter Name.CharacterReference 1 1 0 0 ∷ exit Name.CharacterReference 1 16 15 0 ∷ [])) ×
    -- string outer commonmark «&CounterClockwiseContourIntegral;»: CharacterReference 0-33
    (string_outline (record default { options = record default_options { commonmark = true } }) (codes "&CounterClockwiseContourIntegral;") (piece 0 0 33 0 ∷ []) ≡ (enter Name.CharacterReference 1 1 0 0 ∷ exit Name.CharacterReference 1 34 33 0 ∷ [])) ×
    -- text outer commonmark «&amp;»: CharacterReference 0-5
    (text_outline (record default { options = record default_options { commonmark = true } }) (codes "&amp;") (piece 0 0 5 0 ∷ []) ≡ (enter Name.CharacterReference 1 1 0 0 ∷ exit Name.CharacterReference 1 6 5 0 ∷ [])) ×
    -- string outer references «&ngE;»: CharacterReference 0-5
    (string_outline (record default { options = record default_options { html_references = true } }) (codes "&ngE;") (piece 0 0 5 0 ∷ []) ≡ (enter Name.CharacterReference 1 1 0 0 ∷ exit Name.CharacterReference 1 6 5 0 ∷ [])) ×
    -- text commonmark «&amp»: Data 0-4
    (text_answer (record default { options = record default_options { commonmark = true } }) (codes "&amp") (piece 0 0 4 0 ∷ []) ≡ (enter Name.Data 1 1 0 0 ∷ exit Name.Data 1 5 4 0 ∷ [])) ×
    -- text commonmark «&nosuch;»: Data 0-8
    (text_answer (record default { options = record default_options { commonmark = true } }) (codes "&nosuch;") (piece 0 0 8 0 ∷ []) ≡ (enter Name.Data 1 1 0 0 ∷ exit Name.Data 1 9 8 0 ∷ [])) ×
    -- string references «&Amp;»: Data 0-5
    (string_answer (record default { options = record default_options { html_references = true } }) (codes "&Amp;") (piece 0 0 5 0 ∷ []) ≡ (enter Name.Data 1 1 0 0 ∷ exit Name.Data 1 6 5 0 ∷ [])) ×
    -- string commonmark no-character_reference «&Abreve;»: Data 0-8
    (string_answer (record default { options = record default_options { constructs = record default_constructs { character_reference = false }; commonmark = true } }) (codes "&Abreve;") (piece 0 0 8 0 ∷ []) ≡ (enter Name.Data 1 1 0 0 ∷ exit Name.Data 1 9 8 0 ∷ []))

abbrev pub Whitespace : Type 0
Whitespace =
    -- text «a  ␊b»: Data 0-1, HardBreakTrailing 1-3, LineEnding 3-4, Data 4-5
    (text_answer (default) (97 ∷ 32 ∷ 32 ∷ 10 ∷ 98 ∷ []) (piece 0 0 5 0 ∷ []) ≡ (enter Name.Data 1 1 0 0 ∷ exit Name.Data 1 2 1 0 ∷ enter Name.HardBreakTrailing 1 2 1 0 ∷ exit Name.HardBreakTrailing 1 4 3 0 ∷ enter Name.LineEnding 1 4 3 0 ∷ exit Name.LineEnding 2 1 4 0 ∷ enter Name.Data 2 1 4 0 ∷ exit Name.Data 2 2 5 0 ∷ [])) ×
    -- text «a ␉␊b»: Data 0-1, SpaceOrTab 1-3, LineEnding 3-4, Data 4-5
    (text_answer (default) (97 ∷ 32 ∷ 9 ∷ 10 ∷ 98 ∷ []) (piece 0 0 5 0 ∷ []) ≡ (enter Name.Data 1 1 0 0 ∷ exit Name.Data 1 2 1 0 ∷ enter Name.SpaceOrTab 1 2 1 0 ∷ exit Name.SpaceOrTab 1 5 3 0 ∷ enter Name.LineEnding 1 5 3 0 ∷ exit Name.LineEnding 2 1 4 0 ∷ enter Name.Data 2 1 4 0 ∷ exit Name.Data 2 2 5 0 ∷ [])) ×
    -- text «␉a» 0.2-2: SpaceOrTab 0.2-1, Data 1-2
    (text_answer (default) (9 ∷ 97 ∷ []) (piece 0 2 2 0 ∷ []) ≡ (enter Name.SpaceOrTab 1 3 0 2 ∷ exit Name.SpaceOrTab 1 5 1 0 ∷ enter Name.Data 1 5 1 0 ∷ exit Name.Data 1 6 2 0 ∷ [])) ×
    -- text «a␍␊b»: Data 0-1, LineEnding 1-3, Data 3-4
    (text_answer (default) (97 ∷ 13 ∷ 10 ∷ 98 ∷ []) (piece 0 0 4 0 ∷ []) ≡ (enter Name.Data 1 1 0 0 ∷ exit Name.Data 1 2 1 0 ∷ enter Name.LineEnding 1 2 1 0 ∷ exit Name.LineEnding 2 1 3 0 ∷ enter Name.Data 2 1 3 0 ∷ exit Name.Data 2 2 4 0 ∷ [])) ×
    -- text «é»: Data 0-2
    (text_answer (default) (195 ∷ 169 ∷ []) (piece 0 0 2 0 ∷ []) ≡ (enter Name.Data 1 1 0 0 ∷ exit Name.Data 1 3 2 0 ∷ [])) ×
    -- text «{a}»: Data 0-3
    (text_answer (default) (codes "{a}") (piece 0 0 3 0 ∷ []) ≡ (enter Name.Data 1 1 0 0 ∷ exit Name.Data 1 4 3 0 ∷ [])) ×
    -- text «␠a␠»: SpaceOrTab 0-1, Data 1-2, SpaceOrTab 2-3
    (text_answer (default) (codes " a ") (piece 0 0 3 0 ∷ []) ≡ (enter Name.SpaceOrTab 1 1 0 0 ∷ exit Name.SpaceOrTab 1 2 1 0 ∷ enter Name.Data 1 2 1 0 ∷ exit Name.Data 1 3 2 0 ∷ enter Name.SpaceOrTab 1 3 2 0 ∷ exit Name.SpaceOrTab 1 4 3 0 ∷ [])) ×
    -- text «*a  ␊b*»: Emphasis 0-7 [EmphasisSequence 0-1, EmphasisText 1-6 [Data 1-2, HardBreakTrailing 2-4, LineEnding 4-5, Data 5-6], EmphasisSequence 6-7]
    (text_answer (default) (42 ∷ 97 ∷ 32 ∷ 32 ∷ 10 ∷ 98 ∷ 42 ∷ []) (piece 0 0 7 0 ∷ []) ≡ (enter Name.Emphasis 1 1 0 0 ∷ enter Name.EmphasisSequence 1 1 0 0 ∷ exit Name.EmphasisSequence 1 2 1 0 ∷ enter Name.EmphasisText 1 2 1 0 ∷ enter Name.Data 1 2 1 0 ∷ exit Name.Data 1 3 2 0 ∷ enter Name.HardBreakTrailing 1 3 2 0 ∷ exit Name.HardBreakTrailing 1 5 4 0 ∷ enter Name.LineEnding 1 5 4 0 ∷ exit Name.LineEnding 2 1 5 0 ∷ enter Name.Data 2 1 5 0 ∷ exit Name.Data 2 2 6 0 ∷ exit Name.EmphasisText 2 2 6 0 ∷ enter Name.EmphasisSequence 2 2 6 0 ∷ exit Name.EmphasisSequence 2 3 7 0 ∷ exit Name.Emphasis 2 3 7 0 ∷ [])) ×
    -- text outer «`a`  ␊b»: CodeText 0-3, HardBreakTrailing 3-5, LineEnding 5-6, Data 6-7
    (text_outline (default) (96 ∷ 97 ∷ 96 ∷ 32 ∷ 32 ∷ 10 ∷ 98 ∷ []) (piece 0 0 7 0 ∷ []) ≡ (enter Name.CodeText 1 1 0 0 ∷ exit Name.CodeText 1 4 3 0 ∷ enter Name.HardBreakTrailing 1 4 3 0 ∷ exit Name.HardBreakTrailing 1 6 5 0 ∷ enter Name.LineEnding 1 6 5 0 ∷ exit Name.LineEnding 2 1 6 0 ∷ enter Name.Data 2 1 6 0 ∷ exit Name.Data 2 2 7 0 ∷ [])) ×
    -- text «a␀b»: Data 0-3
    (text_answer (default) (97 ∷ 0 ∷ 98 ∷ []) (piece 0 0 3 0 ∷ []) ≡ (enter Name.Data 1 1 0 0 ∷ exit Name.Data 1 4 3 0 ∷ [])) ×
    -- text «a␉b» 0-1.2: Data 0-1, SpaceOrTab 1-1.2
    (text_answer (default) (97 ∷ 9 ∷ 98 ∷ []) (piece 0 0 1 2 ∷ []) ≡ (enter Name.Data 1 1 0 0 ∷ exit Name.Data 1 2 1 0 ∷ enter Name.SpaceOrTab 1 2 1 0 ∷ exit Name.SpaceOrTab 1 4 1 2 ∷ [])) ×
    -- string «a␉b» 0-1.2: Data 0-1.2
    (string_answer (default) (97 ∷ 9 ∷ 98 ∷ []) (piece 0 0 1 2 ∷ []) ≡ (enter Name.Data 1 1 0 0 ∷ exit Name.Data 1 4 1 2 ∷ [])) ×
    -- string «␉» 0.1-0.3: Data 0.1-0.3
    (string_answer (default) (9 ∷ []) (piece 0 1 0 3 ∷ []) ≡ (enter Name.Data 1 2 0 1 ∷ exit Name.Data 1 4 0 3 ∷ [])) ×
    -- string «␉» 0-0.1: Data 0-0.1
    (string_answer (default) (9 ∷ []) (piece 0 0 0 1 ∷ []) ≡ (enter Name.Data 1 1 0 0 ∷ exit Name.Data 1 2 0 1 ∷ [])) ×
    -- string «␉»: Data 0-1
    (string_answer (default) (9 ∷ []) (piece 0 0 1 0 ∷ []) ≡ (enter Name.Data 1 1 0 0 ∷ exit Name.Data 1 5 1 0 ∷ [])) ×
    -- text «a ␊b»: Data 0-1, SpaceOrTab 1-2, LineEnding 2-3, Data 3-4
    (text_answer (default) (97 ∷ 32 ∷ 10 ∷ 98 ∷ []) (piece 0 0 4 0 ∷ []) ≡ (enter Name.Data 1 1 0 0 ∷ exit Name.Data 1 2 1 0 ∷ enter Name.SpaceOrTab 1 2 1 0 ∷ exit Name.SpaceOrTab 1 3 2 0 ∷ enter Name.LineEnding 1 3 2 0 ∷ exit Name.LineEnding 2 1 3 0 ∷ enter Name.Data 2 1 3 0 ∷ exit Name.Data 2 2 4 0 ∷ [])) ×
    -- text «a   ␊b»: Data 0-1, HardBreakTrailing 1-4, LineEnding 4-5, Data 5-6
    (text_answer (default) (97 ∷ 32 ∷ 32 ∷ 32 ∷ 10 ∷ 98 ∷ []) (piece 0 0 6 0 ∷ []) ≡ (enter Name.Data 1 1 0 0 ∷ exit Name.Data 1 2 1 0 ∷ enter Name.HardBreakTrailing 1 2 1 0 ∷ exit Name.HardBreakTrailing 1 5 4 0 ∷ enter Name.LineEnding 1 5 4 0 ∷ exit Name.LineEnding 2 1 5 0 ∷ enter Name.Data 2 1 5 0 ∷ exit Name.Data 2 2 6 0 ∷ [])) ×
    -- text «a␊ b»: Data 0-1, LineEnding 1-2, SpaceOrTab 2-3, Data 3-4
    (text_answer (default) (97 ∷ 10 ∷ 32 ∷ 98 ∷ []) (piece 0 0 4 0 ∷ []) ≡ (enter Name.Data 1 1 0 0 ∷ exit Name.Data 1 2 1 0 ∷ enter Name.LineEnding 1 2 1 0 ∷ exit Name.LineEnding 2 1 2 0 ∷ enter Name.SpaceOrTab 2 1 2 0 ∷ exit Name.SpaceOrTab 2 2 3 0 ∷ enter Name.Data 2 2 3 0 ∷ exit Name.Data 2 3 4 0 ∷ [])) ×
    -- text «a  »: Data 0-1, SpaceOrTab 1-3
    (text_answer (default) (codes "a  ") (piece 0 0 3 0 ∷ []) ≡ (enter Name.Data 1 1 0 0 ∷ exit Name.Data 1 2 1 0 ∷ enter Name.SpaceOrTab 1 2 1 0 ∷ exit Name.SpaceOrTab 1 4 3 0 ∷ [])) ×
    -- text outer «a`b` »: Data 0-1, CodeText 1-4, SpaceOrTab 4-5
    (text_outline (default) (codes "a`b` ") (piece 0 0 5 0 ∷ []) ≡ (enter Name.Data 1 1 0 0 ∷ exit Name.Data 1 2 1 0 ∷ enter Name.CodeText 1 2 1 0 ∷ exit Name.CodeText 1 5 4 0 ∷ enter Name.SpaceOrTab 1 5 4 0 ∷ exit Name.SpaceOrTab 1 6 5 0 ∷ [])) ×
    -- text outer «`a` b»: CodeText 0-3, Data 3-5
    (text_outline (default) (codes "`a` b") (piece 0 0 5 0 ∷ []) ≡ (enter Name.CodeText 1 1 0 0 ∷ exit Name.CodeText 1 4 3 0 ∷ enter Name.Data 1 4 3 0 ∷ exit Name.Data 1 6 5 0 ∷ [])) ×
    -- text outer gfm «http://a b»: GfmAutolinkLiteralProtocol 0-8, Data 8-10
    (text_outline (record default { options = record default_options { constructs = record default_constructs { gfm_autolink_literal = true; gfm_label_start_footnote = true; gfm_strikethrough = true; gfm_task_list_item = true } } }) (codes "http://a b") (piece 0 0 10 0 ∷ []) ≡ (enter Name.GfmAutolinkLiteralProtocol 1 1 0 0 ∷ exit Name.GfmAutolinkLiteralProtocol 1 9 8 0 ∷ enter Name.Data 1 9 8 0 ∷ exit Name.Data 1 11 10 0 ∷ [])) ×
    -- text outer «␠`a`»: SpaceOrTab 0-1, CodeText 1-4
    (text_outline (default) (codes " `a`") (piece 0 0 4 0 ∷ []) ≡ (enter Name.SpaceOrTab 1 1 0 0 ∷ exit Name.SpaceOrTab 1 2 1 0 ∷ enter Name.CodeText 1 2 1 0 ∷ exit Name.CodeText 1 5 4 0 ∷ [])) ×
    -- text outer «*a* ␊ *b*»: Emphasis 0-3, SpaceOrTab 3-4, LineEnding 4-5, SpaceOrTab 5-6, Emphasis 6-9
    (text_outline (default) (42 ∷ 97 ∷ 42 ∷ 32 ∷ 10 ∷ 32 ∷ 42 ∷ 98 ∷ 42 ∷ []) (piece 0 0 9 0 ∷ []) ≡ (enter Name.Emphasis 1 1 0 0 ∷ exit Name.Emphasis 1 4 3 0 ∷ enter Name.SpaceOrTab 1 4 3 0 ∷ exit Name.SpaceOrTab 1 5 4 0 ∷ enter Name.LineEnding 1 5 4 0 ∷ exit Name.LineEnding 2 1 5 0 ∷ enter Name.SpaceOrTab 2 1 5 0 ∷ exit Name.SpaceOrTab 2 2 6 0 ∷ enter Name.Emphasis 2 2 6 0 ∷ exit Name.Emphasis 2 5 9 0 ∷ [])) ×
    -- text «a␊  ␊b»: Data 0-1, LineEnding 1-2, HardBreakTrailing 2-4, LineEnding 4-5, Data 5-6
    (text_answer (default) (97 ∷ 10 ∷ 32 ∷ 32 ∷ 10 ∷ 98 ∷ []) (piece 0 0 6 0 ∷ []) ≡ (enter Name.Data 1 1 0 0 ∷ exit Name.Data 1 2 1 0 ∷ enter Name.LineEnding 1 2 1 0 ∷ exit Name.LineEnding 2 1 2 0 ∷ enter Name.HardBreakTrailing 2 1 2 0 ∷ exit Name.HardBreakTrailing 2 3 4 0 ∷ enter Name.LineEnding 2 3 4 0 ∷ exit Name.LineEnding 3 1 5 0 ∷ enter Name.Data 3 1 5 0 ∷ exit Name.Data 3 2 6 0 ∷ [])) ×
    -- text «a␊␉␊b» 0-2 2.1-5: Data 0-1, LineEnding 1-2, SpaceOrTab 2.1-3, LineEnding 3-4, Data 4-5
    (text_answer (default) (97 ∷ 10 ∷ 9 ∷ 10 ∷ 98 ∷ []) (piece 0 0 2 0 ∷ piece 2 1 5 0 ∷ []) ≡ (enter Name.Data 1 1 0 0 ∷ exit Name.Data 1 2 1 0 ∷ enter Name.LineEnding 1 2 1 0 ∷ exit Name.LineEnding 2 1 2 0 ∷ enter Name.SpaceOrTab 2 2 2 1 ∷ exit Name.SpaceOrTab 2 5 3 0 ∷ enter Name.LineEnding 2 5 3 0 ∷ exit Name.LineEnding 3 1 4 0 ∷ enter Name.Data 3 1 4 0 ∷ exit Name.Data 3 2 5 0 ∷ [])) ×
    -- text «a␍b␊c»: Data 0-1, LineEnding 1-2, Data 2-3, LineEnding 3-4, Data 4-5
    (text_answer (default) (97 ∷ 13 ∷ 98 ∷ 10 ∷ 99 ∷ []) (piece 0 0 5 0 ∷ []) ≡ (enter Name.Data 1 1 0 0 ∷ exit Name.Data 1 2 1 0 ∷ enter Name.LineEnding 1 2 1 0 ∷ exit Name.LineEnding 2 1 2 0 ∷ enter Name.Data 2 1 2 0 ∷ exit Name.Data 2 2 3 0 ∷ enter Name.LineEnding 2 2 3 0 ∷ exit Name.LineEnding 3 1 4 0 ∷ enter Name.Data 3 1 4 0 ∷ exit Name.Data 3 2 5 0 ∷ [])) ×
    -- text «␉␉a»: SpaceOrTab 0-2, Data 2-3
    (text_answer (default) (9 ∷ 9 ∷ 97 ∷ []) (piece 0 0 3 0 ∷ []) ≡ (enter Name.SpaceOrTab 1 1 0 0 ∷ exit Name.SpaceOrTab 1 9 2 0 ∷ enter Name.Data 1 9 2 0 ∷ exit Name.Data 1 10 3 0 ∷ [])) ×
    -- text outer «a&nbsp;␊b»: Data 0-1, CharacterReference 1-7, LineEnding 7-8, Data 8-9
    (text_outline (default) (97 ∷ 38 ∷ 110 ∷ 98 ∷ 115 ∷ 112 ∷ 59 ∷ 10 ∷ 98 ∷ []) (piece 0 0 9 0 ∷ []) ≡ (enter Name.Data 1 1 0 0 ∷ exit Name.Data 1 2 1 0 ∷ enter Name.CharacterReference 1 2 1 0 ∷ exit Name.CharacterReference 1 8 7 0 ∷ enter Name.LineEnding 1 8 7 0 ∷ exit Name.LineEnding 2 1 8 0 ∷ enter Name.Data 2 1 8 0 ∷ exit Name.Data 2 2 9 0 ∷ [])) ×
    -- text «ab ␉␊c»: Data 0-2, SpaceOrTab 2-4, LineEnding 4-5, Data 5-6
    (text_answer (default) (97 ∷ 98 ∷ 32 ∷ 9 ∷ 10 ∷ 99 ∷ []) (piece 0 0 6 0 ∷ []) ≡ (enter Name.Data 1 1 0 0 ∷ exit Name.Data 1 3 2 0 ∷ enter Name.SpaceOrTab 1 3 2 0 ∷ exit Name.SpaceOrTab 1 5 4 0 ∷ enter Name.LineEnding 1 5 4 0 ∷ exit Name.LineEnding 2 1 5 0 ∷ enter Name.Data 2 1 5 0 ∷ exit Name.Data 2 2 6 0 ∷ [])) ×
    -- text «a␉  ␊b»: Data 0-1, SpaceOrTab 1-4, LineEnding 4-5, Data 5-6
    (text_answer (default) (97 ∷ 9 ∷ 32 ∷ 32 ∷ 10 ∷ 98 ∷ []) (piece 0 0 6 0 ∷ []) ≡ (enter Name.Data 1 1 0 0 ∷ exit Name.Data 1 2 1 0 ∷ enter Name.SpaceOrTab 1 2 1 0 ∷ exit Name.SpaceOrTab 1 7 4 0 ∷ enter Name.LineEnding 1 7 4 0 ∷ exit Name.LineEnding 2 1 5 0 ∷ enter Name.Data 2 1 5 0 ∷ exit Name.Data 2 2 6 0 ∷ [])) ×
    -- text commonmark «a␉  ␊b»: Data 0-1, HardBreakTrailing 1-4, LineEnding 4-5, Data 5-6
    (text_answer (record default { options = record default_options { commonmark = true } }) (97 ∷ 9 ∷ 32 ∷ 32 ∷ 10 ∷ 98 ∷ []) (piece 0 0 6 0 ∷ []) ≡ (enter Name.Data 1 1 0 0 ∷ exit Name.Data 1 2 1 0 ∷ enter Name.HardBreakTrailing 1 2 1 0 ∷ exit Name.HardBreakTrailing 1 7 4 0 ∷ enter Name.LineEnding 1 7 4 0 ∷ exit Name.LineEnding 2 1 5 0 ∷ enter Name.Data 2 1 5 0 ∷ exit Name.Data 2 2 6 0 ∷ [])) ×
    -- text commonmark «a  ␊b»: Data 0-1, HardBreakTrailing 1-3, LineEnding 3-4, Data 4-5
    (text_answer (record default { options = record default_options { commonmark = true } }) (97 ∷ 32 ∷ 32 ∷ 10 ∷ 98 ∷ []) (piece 0 0 5 0 ∷ []) ≡ (enter Name.Data 1 1 0 0 ∷ exit Name.Data 1 2 1 0 ∷ enter Name.HardBreakTrailing 1 2 1 0 ∷ exit Name.HardBreakTrailing 1 4 3 0 ∷ enter Name.LineEnding 1 4 3 0 ∷ exit Name.LineEnding 2 1 4 0 ∷ enter Name.Data 2 1 4 0 ∷ exit Name.Data 2 2 5 0 ∷ [])) ×
    -- text commonmark «a ␉␊b»: Data 0-1, SpaceOrTab 1-3, LineEnding 3-4, Data 4-5
    (text_answer (record default { options = record default_options { commonmark = true } }) (97 ∷ 32 ∷ 9 ∷ 10 ∷ 98 ∷ []) (piece 0 0 5 0 ∷ []) ≡ (enter Name.Data 1 1 0 0 ∷ exit Name.Data 1 2 1 0 ∷ enter Name.SpaceOrTab 1 2 1 0 ∷ exit Name.SpaceOrTab 1 5 3 0 ∷ enter Name.LineEnding 1 5 3 0 ∷ exit Name.LineEnding 2 1 4 0 ∷ enter Name.Data 2 1 4 0 ∷ exit Name.Data 2 2 5 0 ∷ [])) ×
    -- text commonmark «a  ␉␊b»: Data 0-1, SpaceOrTab 1-4, LineEnding 4-5, Data 5-6
    (text_answer (record default { options = record default_options { commonmark = true } }) (97 ∷ 32 ∷ 32 ∷ 9 ∷ 10 ∷ 98 ∷ []) (piece 0 0 6 0 ∷ []) ≡ (enter Name.Data 1 1 0 0 ∷ exit Name.Data 1 2 1 0 ∷ enter Name.SpaceOrTab 1 2 1 0 ∷ exit Name.SpaceOrTab 1 5 4 0 ∷ enter Name.LineEnding 1 5 4 0 ∷ exit Name.LineEnding 2 1 5 0 ∷ enter Name.Data 2 1 5 0 ∷ exit Name.Data 2 2 6 0 ∷ [])) ×
    -- text commonmark «a␉ ␊b»: Data 0-1, SpaceOrTab 1-3, LineEnding 3-4, Data 4-5
    (text_answer (record default { options = record default_options { commonmark = true } }) (97 ∷ 9 ∷ 32 ∷ 10 ∷ 98 ∷ []) (piece 0 0 5 0 ∷ []) ≡ (enter Name.Data 1 1 0 0 ∷ exit Name.Data 1 2 1 0 ∷ enter Name.SpaceOrTab 1 2 1 0 ∷ exit Name.SpaceOrTab 1 6 3 0 ∷ enter Name.LineEnding 1 6 3 0 ∷ exit Name.LineEnding 2 1 4 0 ∷ enter Name.Data 2 1 4 0 ∷ exit Name.Data 2 2 5 0 ∷ [])) ×
    -- text commonmark «a ␉   ␊b»: Data 0-1, HardBreakTrailing 1-6, LineEnding 6-7, Data 7-8
    (text_answer (record default { options = record default_options { commonmark = true } }) (97 ∷ 32 ∷ 9 ∷ 32 ∷ 32 ∷ 32 ∷ 10 ∷ 98 ∷ []) (piece 0 0 8 0 ∷ []) ≡ (enter Name.Data 1 1 0 0 ∷ exit Name.Data 1 2 1 0 ∷ enter Name.HardBreakTrailing 1 2 1 0 ∷ exit Name.HardBreakTrailing 1 8 6 0 ∷ enter Name.LineEnding 1 8 6 0 ∷ exit Name.LineEnding 2 1 7 0 ∷ enter Name.Data 2 1 7 0 ∷ exit Name.Data 2 2 8 0 ∷ [])) ×
    -- text commonmark «a␉  »: Data 0-1, SpaceOrTab 1-4
    (text_answer (record default { options = record default_options { commonmark = true } }) (97 ∷ 9 ∷ 32 ∷ 32 ∷ []) (piece 0 0 4 0 ∷ []) ≡ (enter Name.Data 1 1 0 0 ∷ exit Name.Data 1 2 1 0 ∷ enter Name.SpaceOrTab 1 2 1 0 ∷ exit Name.SpaceOrTab 1 7 4 0 ∷ [])) ×
    -- text commonmark no-hard_break_trailing «a␉  ␊b»: Data 0-1, SpaceOrTab 1-4, LineEnding 4-5, Data 5-6
    (text_answer (record default { options = record default_options { constructs = record default_constructs { hard_break_trailing = false }; commonmark = true } }) (97 ∷ 9 ∷ 32 ∷ 32 ∷ 10 ∷ 98 ∷ []) (piece 0 0 6 0 ∷ []) ≡ (enter Name.Data 1 1 0 0 ∷ exit Name.Data 1 2 1 0 ∷ enter Name.SpaceOrTab 1 2 1 0 ∷ exit Name.SpaceOrTab 1 7 4 0 ∷ enter Name.LineEnding 1 7 4 0 ∷ exit Name.LineEnding 2 1 5 0 ∷ enter Name.Data 2 1 5 0 ∷ exit Name.Data 2 2 6 0 ∷ [])) ×
    -- string «c ␊d»: Data 0-1, SpaceOrTab 1-2, LineEnding 2-3, Data 3-4
    (string_answer (default) (99 ∷ 32 ∷ 10 ∷ 100 ∷ []) (piece 0 0 4 0 ∷ []) ≡ (enter Name.Data 1 1 0 0 ∷ exit Name.Data 1 2 1 0 ∷ enter Name.SpaceOrTab 1 2 1 0 ∷ exit Name.SpaceOrTab 1 3 2 0 ∷ enter Name.LineEnding 1 3 2 0 ∷ exit Name.LineEnding 2 1 3 0 ∷ enter Name.Data 2 1 3 0 ∷ exit Name.Data 2 2 4 0 ∷ [])) ×
    -- string commonmark «c ␊d»: Data 0-2, LineEnding 2-3, Data 3-4
    (string_answer (record default { options = record default_options { commonmark = true } }) (99 ∷ 32 ∷ 10 ∷ 100 ∷ []) (piece 0 0 4 0 ∷ []) ≡ (enter Name.Data 1 1 0 0 ∷ exit Name.Data 1 3 2 0 ∷ enter Name.LineEnding 1 3 2 0 ∷ exit Name.LineEnding 2 1 3 0 ∷ enter Name.Data 2 1 3 0 ∷ exit Name.Data 2 2 4 0 ∷ [])) ×
    -- string «c␊ d»: Data 0-1, LineEnding 1-2, SpaceOrTab 2-3, Data 3-4
    (string_answer (default) (99 ∷ 10 ∷ 32 ∷ 100 ∷ []) (piece 0 0 4 0 ∷ []) ≡ (enter Name.Data 1 1 0 0 ∷ exit Name.Data 1 2 1 0 ∷ enter Name.LineEnding 1 2 1 0 ∷ exit Name.LineEnding 2 1 2 0 ∷ enter Name.SpaceOrTab 2 1 2 0 ∷ exit Name.SpaceOrTab 2 2 3 0 ∷ enter Name.Data 2 2 3 0 ∷ exit Name.Data 2 3 4 0 ∷ [])) ×
    -- string commonmark «c␊ d»: Data 0-1, LineEnding 1-2, SpaceOrTab 2-3, Data 3-4
    (string_answer (record default { options = record default_options { commonmark = true } }) (99 ∷ 10 ∷ 32 ∷ 100 ∷ []) (piece 0 0 4 0 ∷ []) ≡ (enter Name.Data 1 1 0 0 ∷ exit Name.Data 1 2 1 0 ∷ enter Name.LineEnding 1 2 1 0 ∷ exit Name.LineEnding 2 1 2 0 ∷ enter Name.SpaceOrTab 2 1 2 0 ∷ exit Name.SpaceOrTab 2 2 3 0 ∷ enter Name.Data 2 2 3 0 ∷ exit Name.Data 2 3 4 0 ∷ [])) ×
    -- string «c␉ ␊ d»: Data 0-1, SpaceOrTab 1-3, LineEnding 3-4, SpaceOrTab 4-5, Data 5-6
    (string_answer (default) (99 ∷ 9 ∷ 32 ∷ 10 ∷ 32 ∷ 100 ∷ []) (piece 0 0 6 0 ∷ []) ≡ (enter Name.Data 1 1 0 0 ∷ exit Name.Data 1 2 1 0 ∷ enter Name.SpaceOrTab 1 2 1 0 ∷ exit Name.SpaceOrTab 1 6 3 0 ∷ enter Name.LineEnding 1 6 3 0 ∷ exit Name.LineEnding 2 1 4 0 ∷ enter Name.SpaceOrTab 2 1 4 0 ∷ exit Name.SpaceOrTab 2 2 5 0 ∷ enter Name.Data 2 2 5 0 ∷ exit Name.Data 2 3 6 0 ∷ [])) ×
    -- string commonmark «c␉ ␊ d»: Data 0-3, LineEnding 3-4, SpaceOrTab 4-5, Data 5-6
    (string_answer (record default { options = record default_options { commonmark = true } }) (99 ∷ 9 ∷ 32 ∷ 10 ∷ 32 ∷ 100 ∷ []) (piece 0 0 6 0 ∷ []) ≡ (enter Name.Data 1 1 0 0 ∷ exit Name.Data 1 6 3 0 ∷ enter Name.LineEnding 1 6 3 0 ∷ exit Name.LineEnding 2 1 4 0 ∷ enter Name.SpaceOrTab 2 1 4 0 ∷ exit Name.SpaceOrTab 2 2 5 0 ∷ enter Name.Data 2 2 5 0 ∷ exit Name.Data 2 3 6 0 ∷ [])) ×
    -- string commonmark «c  ␊d»: Data 0-3, LineEnding 3-4, Data 4-5
    (string_answer (record default { options = record default_options { commonmark = true } }) (99 ∷ 32 ∷ 32 ∷ 10 ∷ 100 ∷ []) (piece 0 0 5 0 ∷ []) ≡ (enter Name.Data 1 1 0 0 ∷ exit Name.Data 1 4 3 0 ∷ enter Name.LineEnding 1 4 3 0 ∷ exit Name.LineEnding 2 1 4 0 ∷ enter Name.Data 2 1 4 0 ∷ exit Name.Data 2 2 5 0 ∷ [])) ×
    -- string commonmark «c␠»: Data 0-2
    (string_answer (record default { options = record default_options { commonmark = true } }) (codes "c ") (piece 0 0 2 0 ∷ []) ≡ (enter Name.Data 1 1 0 0 ∷ exit Name.Data 1 3 2 0 ∷ [])) ×
    -- string «c␠»: Data 0-2
    (string_answer (default) (codes "c ") (piece 0 0 2 0 ∷ []) ≡ (enter Name.Data 1 1 0 0 ∷ exit Name.Data 1 3 2 0 ∷ [])) ×
    -- text commonmark «a ␊b»: Data 0-1, SpaceOrTab 1-2, LineEnding 2-3, Data 3-4
    (text_answer (record default { options = record default_options { commonmark = true } }) (97 ∷ 32 ∷ 10 ∷ 98 ∷ []) (piece 0 0 4 0 ∷ []) ≡ (enter Name.Data 1 1 0 0 ∷ exit Name.Data 1 2 1 0 ∷ enter Name.SpaceOrTab 1 2 1 0 ∷ exit Name.SpaceOrTab 1 3 2 0 ∷ enter Name.LineEnding 1 3 2 0 ∷ exit Name.LineEnding 2 1 3 0 ∷ enter Name.Data 2 1 3 0 ∷ exit Name.Data 2 2 4 0 ∷ []))

abbrev pub RawText : Type 0
RawText =
    -- text «``a`b``»: CodeText 0-7 [CodeTextSequence 0-2, CodeTextData 2-3, CodeTextData 3-4, CodeTextData 4-5, CodeTextSequence 5-7]
    (text_answer (default) (codes "``a`b``") (piece 0 0 7 0 ∷ []) ≡ (enter Name.CodeText 1 1 0 0 ∷ enter Name.CodeTextSequence 1 1 0 0 ∷ exit Name.CodeTextSequence 1 3 2 0 ∷ enter Name.CodeTextData 1 3 2 0 ∷ exit Name.CodeTextData 1 4 3 0 ∷ enter Name.CodeTextData 1 4 3 0 ∷ exit Name.CodeTextData 1 5 4 0 ∷ enter Name.CodeTextData 1 5 4 0 ∷ exit Name.CodeTextData 1 6 5 0 ∷ enter Name.CodeTextSequence 1 6 5 0 ∷ exit Name.CodeTextSequence 1 8 7 0 ∷ exit Name.CodeText 1 8 7 0 ∷ [])) ×
    -- text «Not code: ``x`.»: Data 0-15
    (text_answer (default) (codes "Not code: ``x`.") (piece 0 0 15 0 ∷ []) ≡ (enter Name.Data 1 1 0 0 ∷ exit Name.Data 1 16 15 0 ∷ [])) ×
    -- text «Not code: `x``.»: Data 0-15
    (text_answer (default) (codes "Not code: `x``.") (piece 0 0 15 0 ∷ []) ≡ (enter Name.Data 1 1 0 0 ∷ exit Name.Data 1 16 15 0 ∷ [])) ×
    -- text outer «`x`\`.»: CodeText 0-3, CharacterEscape 3-5, Data 5-6
    (text_outline (default) (codes "`x`\\`.") (piece 0 0 6 0 ∷ []) ≡ (enter Name.CodeText 1 1 0 0 ∷ exit Name.CodeText 1 4 3 0 ∷ enter Name.CharacterEscape 1 4 3 0 ∷ exit Name.CharacterEscape 1 6 5 0 ∷ enter Name.Data 1 6 5 0 ∷ exit Name.Data 1 7 6 0 ∷ [])) ×
    -- text outer «\``x`.»: CharacterEscape 0-2, CodeText 2-5, Data 5-6
    (text_outline (default) (codes "\\``x`.") (piece 0 0 6 0 ∷ []) ≡ (enter Name.CharacterEscape 1 1 0 0 ∷ exit Name.CharacterEscape 1 3 2 0 ∷ enter Name.CodeText 1 3 2 0 ∷ exit Name.CodeText 1 6 5 0 ∷ enter Name.Data 1 6 5 0 ∷ exit Name.Data 1 7 6 0 ∷ [])) ×
    -- text outer math «$a$»: MathText 0-3
    (text_outline (record default { options = record default_options { constructs = record default_constructs { math_text = true } } }) (codes "$a$") (piece 0 0 3 0 ∷ []) ≡ (enter Name.MathText 1 1 0 0 ∷ exit Name.MathText 1 4 3 0 ∷ [])) ×
    -- text math no-single-dollar «$a$»: Data 0-3
    (text_answer (record default { options = record default_options { constructs = record default_constructs { math_text = true }; math_text_single_dollar = false } }) (codes "$a$") (piece 0 0 3 0 ∷ []) ≡ (enter Name.Data 1 1 0 0 ∷ exit Name.Data 1 4 3 0 ∷ [])) ×
    -- text outer math no-single-dollar «$$a$$»: MathText 0-5
    (text_outline (record default { options = record default_options { constructs = record default_constructs { math_text = true }; math_text_single_dollar = false } }) (codes "$$a$$") (piece 0 0 5 0 ∷ []) ≡ (enter Name.MathText 1 1 0 0 ∷ exit Name.MathText 1 6 5 0 ∷ [])) ×
    -- text «`a``b```c»: Data 0-9
    (text_answer (default) (codes "`a``b```c") (piece 0 0 9 0 ∷ []) ≡ (enter Name.Data 1 1 0 0 ∷ exit Name.Data 1 10 9 0 ∷ [])) ×
    -- text «`a␊ b`»: CodeText 0-6 [CodeTextSequence 0-1, CodeTextData 1-2, LineEnding 2-3, CodeTextData 3-5, CodeTextSequence 5-6]
    (text_answer (default) (96 ∷ 97 ∷ 10 ∷ 32 ∷ 98 ∷ 96 ∷ []) (piece 0 0 6 0 ∷ []) ≡ (enter Name.CodeText 1 1 0 0 ∷ enter Name.CodeTextSequence 1 1 0 0 ∷ exit Name.CodeTextSequence 1 2 1 0 ∷ enter Name.CodeTextData 1 2 1 0 ∷ exit Name.CodeTextData 1 3 2 0 ∷ enter Name.LineEnding 1 3 2 0 ∷ exit Name.LineEnding 2 1 3 0 ∷ enter Name.CodeTextData 2 1 3 0 ∷ exit Name.CodeTextData 2 3 5 0 ∷ enter Name.CodeTextSequence 2 3 5 0 ∷ exit Name.CodeTextSequence 2 4 6 0 ∷ exit Name.CodeText 2 4 6 0 ∷ [])) ×
    -- text «` a `»: CodeText 0-5 [CodeTextSequence 0-1, CodeTextData 1-4, CodeTextSequence 4-5]
    (text_answer (default) (codes "` a `") (piece 0 0 5 0 ∷ []) ≡ (enter Name.CodeText 1 1 0 0 ∷ enter Name.CodeTextSequence 1 1 0 0 ∷ exit Name.CodeTextSequence 1 2 1 0 ∷ enter Name.CodeTextData 1 2 1 0 ∷ exit Name.CodeTextData 1 5 4 0 ∷ enter Name.CodeTextSequence 1 5 4 0 ∷ exit Name.CodeTextSequence 1 6 5 0 ∷ exit Name.CodeText 1 6 5 0 ∷ [])) ×
    -- text «`a``b`»: CodeText 0-6 [CodeTextSequence 0-1, CodeTextData 1-2, CodeTextData 2-4, CodeTextData 4-5, CodeTextSequence 5-6]
    (text_answer (default) (codes "`a``b`") (piece 0 0 6 0 ∷ []) ≡ (enter Name.CodeText 1 1 0 0 ∷ enter Name.CodeTextSequence 1 1 0 0 ∷ exit Name.CodeTextSequence 1 2 1 0 ∷ enter Name.CodeTextData 1 2 1 0 ∷ exit Name.CodeTextData 1 3 2 0 ∷ enter Name.CodeTextData 1 3 2 0 ∷ exit Name.CodeTextData 1 5 4 0 ∷ enter Name.CodeTextData 1 5 4 0 ∷ exit Name.CodeTextData 1 6 5 0 ∷ enter Name.CodeTextSequence 1 6 5 0 ∷ exit Name.CodeTextSequence 1 7 6 0 ∷ exit Name.CodeText 1 7 6 0 ∷ [])) ×
    -- text «`a ```b``»: Data 0-9
    (text_answer (default) (codes "`a ```b``") (piece 0 0 9 0 ∷ []) ≡ (enter Name.Data 1 1 0 0 ∷ exit Name.Data 1 10 9 0 ∷ [])) ×
    -- text math «$a$»: MathText 0-3 [MathTextSequence 0-1, MathTextData 1-2, MathTextSequence 2-3]
    (text_answer (record default { options = record default_options { constructs = record default_constructs { math_text = true } } }) (codes "$a$") (piece 0 0 3 0 ∷ []) ≡ (enter Name.MathText 1 1 0 0 ∷ enter Name.MathTextSequence 1 1 0 0 ∷ exit Name.MathTextSequence 1 2 1 0 ∷ enter Name.MathTextData 1 2 1 0 ∷ exit Name.MathTextData 1 3 2 0 ∷ enter Name.MathTextSequence 1 3 2 0 ∷ exit Name.MathTextSequence 1 4 3 0 ∷ exit Name.MathText 1 4 3 0 ∷ [])) ×
    -- text outer math «`$`$`$»: CodeText 0-3, MathText 3-6
    (text_outline (record default { options = record default_options { constructs = record default_constructs { math_text = true } } }) (codes "`$`$`$") (piece 0 0 6 0 ∷ []) ≡ (enter Name.CodeText 1 1 0 0 ∷ exit Name.CodeText 1 4 3 0 ∷ enter Name.MathText 1 4 3 0 ∷ exit Name.MathText 1 7 6 0 ∷ [])) ×
    -- text math «a$$b$»: Data 0-5
    (text_answer (record default { options = record default_options { constructs = record default_constructs { math_text = true } } }) (codes "a$$b$") (piece 0 0 5 0 ∷ []) ≡ (enter Name.Data 1 1 0 0 ∷ exit Name.Data 1 6 5 0 ∷ [])) ×
    -- text outer math «\$$a$»: CharacterEscape 0-2, MathText 2-5
    (text_outline (record default { options = record default_options { constructs = record default_constructs { math_text = true } } }) (codes "\\$$a$") (piece 0 0 5 0 ∷ []) ≡ (enter Name.CharacterEscape 1 1 0 0 ∷ exit Name.CharacterEscape 1 3 2 0 ∷ enter Name.MathText 1 3 2 0 ∷ exit Name.MathText 1 6 5 0 ∷ [])) ×
    -- text «`\`»: CodeText 0-3 [CodeTextSequence 0-1, CodeTextData 1-2, CodeTextSequence 2-3]
    (text_answer (default) (codes "`\\`") (piece 0 0 3 0 ∷ []) ≡ (enter Name.CodeText 1 1 0 0 ∷ enter Name.CodeTextSequence 1 1 0 0 ∷ exit Name.CodeTextSequence 1 2 1 0 ∷ enter Name.CodeTextData 1 2 1 0 ∷ exit Name.CodeTextData 1 3 2 0 ∷ enter Name.CodeTextSequence 1 3 2 0 ∷ exit Name.CodeTextSequence 1 4 3 0 ∷ exit Name.CodeText 1 4 3 0 ∷ [])) ×
    -- text outer «\!```a`»: CharacterEscape 0-2, Data 2-7
    (text_outline (default) (codes "\\!```a`") (piece 0 0 7 0 ∷ []) ≡ (enter Name.CharacterEscape 1 1 0 0 ∷ exit Name.CharacterEscape 1 3 2 0 ∷ enter Name.Data 1 3 2 0 ∷ exit Name.Data 1 8 7 0 ∷ []))

abbrev pub Autolinks : Type 0
Autolinks =
    -- text «<aaaaaaaaaaaaaaaaaaaaaaaaaaaaaaaaa:b>»: Data 0-37
    (text_answer (default) (codes "<aaaaaaaaaaaaaaaaaaaaaaaaaaaaaaaaa:b>") (piece 0 0 37 0 ∷ []) ≡ (enter Name.Data 1 1 0 0 ∷ exit Name.Data 1 38 37 0 ∷ [])) ×
    -- text «<aaaaaaaaaaaaaaaaaaaaaaaaaaaaaaaa:b>»: Autolink 0-36 [AutolinkMarker 0-1, AutolinkProtocol 1-35, AutolinkMarker 35-36]
    (text_answer (default) (codes "<aaaaaaaaaaaaaaaaaaaaaaaaaaaaaaaa:b>") (piece 0 0 36 0 ∷ []) ≡ (enter Name.Autolink 1 1 0 0 ∷ enter Name.AutolinkMarker 1 1 0 0 ∷ exit Name.AutolinkMarker 1 2 1 0 ∷ enter Name.AutolinkProtocol 1 2 1 0 ∷ exit Name.AutolinkProtocol 1 36 35 0 ∷ enter Name.AutolinkMarker 1 36 35 0 ∷ exit Name.AutolinkMarker 1 37 36 0 ∷ exit Name.Autolink 1 37 36 0 ∷ [])) ×
    -- text «<1a:b>»: Data 0-6
    (text_answer (default) (codes "<1a:b>") (piece 0 0 6 0 ∷ []) ≡ (enter Name.Data 1 1 0 0 ∷ exit Name.Data 1 7 6 0 ∷ [])) ×
    -- text outer «<a0:b><a9:b>»: Autolink 0-6, Autolink 6-12
    (text_outline (default) (codes "<a0:b><a9:b>") (piece 0 0 12 0 ∷ []) ≡ (enter Name.Autolink 1 1 0 0 ∷ exit Name.Autolink 1 7 6 0 ∷ enter Name.Autolink 1 7 6 0 ∷ exit Name.Autolink 1 13 12 0 ∷ [])) ×
    -- text outer «<Aa:b><Zz:b><aZ:b><zA:b>»: Autolink 0-6, Autolink 6-12, Autolink 12-18, Autolink 18-24
    (text_outline (default) (codes "<Aa:b><Zz:b><aZ:b><zA:b>") (piece 0 0 24 0 ∷ []) ≡ (enter Name.Autolink 1 1 0 0 ∷ exit Name.Autolink 1 7 6 0 ∷ enter Name.Autolink 1 7 6 0 ∷ exit Name.Autolink 1 13 12 0 ∷ enter Name.Autolink 1 13 12 0 ∷ exit Name.Autolink 1 19 18 0 ∷ enter Name.Autolink 1 19 18 0 ∷ exit Name.Autolink 1 25 24 0 ∷ [])) ×
    -- text outer «<a+b-c.d:e>»: Autolink 0-11
    (text_outline (default) (codes "<a+b-c.d:e>") (piece 0 0 11 0 ∷ []) ≡ (enter Name.Autolink 1 1 0 0 ∷ exit Name.Autolink 1 12 11 0 ∷ [])) ×
    -- text «<a_b:c><a/b:c><a/:b>»: Data 0-20
    (text_answer (default) (codes "<a_b:c><a/b:c><a/:b>") (piece 0 0 20 0 ∷ []) ≡ (enter Name.Data 1 1 0 0 ∷ exit Name.Data 1 21 20 0 ∷ [])) ×
    -- text «<@a:b><[a:b><{a:b><`a:b>»: Data 0-24
    (text_answer (default) (codes "<@a:b><[a:b><{a:b><`a:b>") (piece 0 0 24 0 ∷ []) ≡ (enter Name.Data 1 1 0 0 ∷ exit Name.Data 1 25 24 0 ∷ [])) ×
    -- text «<a@:b><a[:b><a{:b><a`:b>»: Data 0-24
    (text_answer (default) (codes "<a@:b><a[:b><a{:b><a`:b>") (piece 0 0 24 0 ∷ []) ≡ (enter Name.Data 1 1 0 0 ∷ exit Name.Data 1 25 24 0 ∷ [])) ×
    -- text «<ab:>»: Autolink 0-5 [AutolinkMarker 0-1, AutolinkProtocol 1-4, AutolinkMarker 4-5]
    (text_answer (default) (codes "<ab:>") (piece 0 0 5 0 ∷ []) ≡ (enter Name.Autolink 1 1 0 0 ∷ enter Name.AutolinkMarker 1 1 0 0 ∷ exit Name.AutolinkMarker 1 2 1 0 ∷ enter Name.AutolinkProtocol 1 2 1 0 ∷ exit Name.AutolinkProtocol 1 5 4 0 ∷ enter Name.AutolinkMarker 1 5 4 0 ∷ exit Name.AutolinkMarker 1 6 5 0 ∷ exit Name.Autolink 1 6 5 0 ∷ [])) ×
    -- text outer «<ab>»: HtmlText 0-4
    (text_outline (default) (codes "<ab>") (piece 0 0 4 0 ∷ []) ≡ (enter Name.HtmlText 1 1 0 0 ∷ exit Name.HtmlText 1 5 4 0 ∷ [])) ×
    -- text «<ab:c d>»: Data 0-8
    (text_answer (default) (codes "<ab:c d>") (piece 0 0 8 0 ∷ []) ≡ (enter Name.Data 1 1 0 0 ∷ exit Name.Data 1 9 8 0 ∷ [])) ×
    -- text «<ab:c␉d>»: Data 0-8
    (text_answer (default) (60 ∷ 97 ∷ 98 ∷ 58 ∷ 99 ∷ 9 ∷ 100 ∷ 62 ∷ []) (piece 0 0 8 0 ∷ []) ≡ (enter Name.Data 1 1 0 0 ∷ exit Name.Data 1 11 8 0 ∷ [])) ×
    -- text outer «<ab:c<d>»: Data 0-5, HtmlText 5-8
    (text_outline (default) (codes "<ab:c<d>") (piece 0 0 8 0 ∷ []) ≡ (enter Name.Data 1 1 0 0 ∷ exit Name.Data 1 6 5 0 ∷ enter Name.HtmlText 1 6 5 0 ∷ exit Name.HtmlText 1 9 8 0 ∷ [])) ×
    -- text outer «<ab:c>d>»: Autolink 0-6, Data 6-8
    (text_outline (default) (codes "<ab:c>d>") (piece 0 0 8 0 ∷ []) ≡ (enter Name.Autolink 1 1 0 0 ∷ exit Name.Autolink 1 7 6 0 ∷ enter Name.Data 1 7 6 0 ∷ exit Name.Data 1 9 8 0 ∷ [])) ×
    -- text «<ab:⟦U+0001⟧><ab:⟦U+001F⟧><ab:⟦U+007F⟧>»: Data 0-18
    (text_answer (default) (60 ∷ 97 ∷ 98 ∷ 58 ∷ 1 ∷ 62 ∷ 60 ∷ 97 ∷ 98 ∷ 58 ∷ 31 ∷ 62 ∷ 60 ∷ 97 ∷ 98 ∷ 58 ∷ 127 ∷ 62 ∷ []) (piece 0 0 18 0 ∷ []) ≡ (enter Name.Data 1 1 0 0 ∷ exit Name.Data 1 19 18 0 ∷ [])) ×
    -- text outer «<ab:!⟦U+0080⟧>»: Autolink 0-8
    (text_outline (default) (60 ∷ 97 ∷ 98 ∷ 58 ∷ 33 ∷ 194 ∷ 128 ∷ 62 ∷ []) (piece 0 0 8 0 ∷ []) ≡ (enter Name.Autolink 1 1 0 0 ∷ exit Name.Autolink 1 9 8 0 ∷ [])) ×
    -- text «<ab:c␊d>»: Data 0-5, LineEnding 5-6, Data 6-8
    (text_answer (default) (60 ∷ 97 ∷ 98 ∷ 58 ∷ 99 ∷ 10 ∷ 100 ∷ 62 ∷ []) (piece 0 0 8 0 ∷ []) ≡ (enter Name.Data 1 1 0 0 ∷ exit Name.Data 1 6 5 0 ∷ enter Name.LineEnding 1 6 5 0 ∷ exit Name.LineEnding 2 1 6 0 ∷ enter Name.Data 2 1 6 0 ∷ exit Name.Data 2 3 8 0 ∷ [])) ×
    -- text outer «<#$%&'*+-./=?^_`{|}~aZ0@b>»: Autolink 0-26
    (text_outline (default) (codes "<#$%&'*+-./=?^_`{|}~aZ0@b>") (piece 0 0 26 0 ∷ []) ≡ (enter Name.Autolink 1 1 0 0 ∷ exit Name.Autolink 1 27 26 0 ∷ [])) ×
    -- text «<a"@b.c><a(@b.c><a,@b.c><a:@b.c><a;@b.c>»: Data 0-40
    (text_answer (default) (codes "<a\"@b.c><a(@b.c><a,@b.c><a:@b.c><a;@b.c>") (piece 0 0 40 0 ∷ []) ≡ (enter Name.Data 1 1 0 0 ∷ exit Name.Data 1 41 40 0 ∷ [])) ×
    -- text «<a!@b.c>»: Data 0-8
    (text_answer (default) (codes "<a!@b.c>") (piece 0 0 8 0 ∷ []) ≡ (enter Name.Data 1 1 0 0 ∷ exit Name.Data 1 9 8 0 ∷ [])) ×
    -- text outer «<!a@b.c>»: HtmlText 0-8
    (text_outline (default) (codes "<!a@b.c>") (piece 0 0 8 0 ∷ []) ≡ (enter Name.HtmlText 1 1 0 0 ∷ exit Name.HtmlText 1 9 8 0 ∷ [])) ×
    -- text outer commonmark «<a!@b.c>»: Autolink 0-8
    (text_outline (record default { options = record default_options { commonmark = true } }) (codes "<a!@b.c>") (piece 0 0 8 0 ∷ []) ≡ (enter Name.Autolink 1 1 0 0 ∷ exit Name.Autolink 1 9 8 0 ∷ [])) ×
    -- text outer commonmark «<!a@b.c>»: Autolink 0-8
    (text_outline (record default { options = record default_options { commonmark = true } }) (codes "<!a@b.c>") (piece 0 0 8 0 ∷ []) ≡ (enter Name.Autolink 1 1 0 0 ∷ exit Name.Autolink 1 9 8 0 ∷ [])) ×
    -- text outer commonmark «<!a@b.c d>»: HtmlText 0-10
    (text_outline (record default { options = record default_options { commonmark = true } }) (codes "<!a@b.c d>") (piece 0 0 10 0 ∷ []) ≡ (enter Name.HtmlText 1 1 0 0 ∷ exit Name.HtmlText 1 11 10 0 ∷ [])) ×
    -- text commonmark «<a"@b.c>»: Data 0-8
    (text_answer (record default { options = record default_options { commonmark = true } }) (codes "<a\"@b.c>") (piece 0 0 8 0 ∷ []) ≡ (enter Name.Data 1 1 0 0 ∷ exit Name.Data 1 9 8 0 ∷ [])) ×
    -- text outer commonmark «<a@b.c>»: Autolink 0-7
    (text_outline (record default { options = record default_options { commonmark = true } }) (codes "<a@b.c>") (piece 0 0 7 0 ∷ []) ≡ (enter Name.Autolink 1 1 0 0 ∷ exit Name.Autolink 1 8 7 0 ∷ [])) ×
    -- text commonmark «<a@b!.c>»: Data 0-8
    (text_answer (record default { options = record default_options { commonmark = true } }) (codes "<a@b!.c>") (piece 0 0 8 0 ∷ []) ≡ (enter Name.Data 1 1 0 0 ∷ exit Name.Data 1 9 8 0 ∷ [])) ×
    -- text outer commonmark «<ab:␀>»: Autolink 0-6
    (text_outline (record default { options = record default_options { commonmark = true } }) (60 ∷ 97 ∷ 98 ∷ 58 ∷ 0 ∷ 62 ∷ []) (piece 0 0 6 0 ∷ []) ≡ (enter Name.Autolink 1 1 0 0 ∷ exit Name.Autolink 1 7 6 0 ∷ [])) ×
    -- text outer commonmark «<ab:c␀d>»: Autolink 0-8
    (text_outline (record default { options = record default_options { commonmark = true } }) (60 ∷ 97 ∷ 98 ∷ 58 ∷ 99 ∷ 0 ∷ 100 ∷ 62 ∷ []) (piece 0 0 8 0 ∷ []) ≡ (enter Name.Autolink 1 1 0 0 ∷ exit Name.Autolink 1 9 8 0 ∷ [])) ×
    -- text commonmark «<ab:␋>»: Data 0-6
    (text_answer (record default { options = record default_options { commonmark = true } }) (60 ∷ 97 ∷ 98 ∷ 58 ∷ 11 ∷ 62 ∷ []) (piece 0 0 6 0 ∷ []) ≡ (enter Name.Data 1 1 0 0 ∷ exit Name.Data 1 7 6 0 ∷ [])) ×
    -- text commonmark «<a␀:c>»: Data 0-6
    (text_answer (record default { options = record default_options { commonmark = true } }) (60 ∷ 97 ∷ 0 ∷ 58 ∷ 99 ∷ 62 ∷ []) (piece 0 0 6 0 ∷ []) ≡ (enter Name.Data 1 1 0 0 ∷ exit Name.Data 1 7 6 0 ∷ [])) ×
    -- text «<a)@b.c><a<@b.c><a[@b.c><a]@b.c>»: Data 0-32
    (text_answer (default) (codes "<a)@b.c><a<@b.c><a[@b.c><a]@b.c>") (piece 0 0 32 0 ∷ []) ≡ (enter Name.Data 1 1 0 0 ∷ exit Name.Data 1 33 32 0 ∷ [])) ×
    -- text «<@b.c>»: Data 0-6
    (text_answer (default) (codes "<@b.c>") (piece 0 0 6 0 ∷ []) ≡ (enter Name.Data 1 1 0 0 ∷ exit Name.Data 1 7 6 0 ∷ [])) ×
    -- text outer «<x@⟦a×63⟧>»: Autolink 0-67
    (text_outline (default) (codes "<x@aaaaaaaaaaaaaaaaaaaaaaaaaaaaaaaaaaaaaaaaaaaaaaaaaaaaaaaaaaaaaaa>") (piece 0 0 67 0 ∷ []) ≡ (enter Name.Autolink 1 1 0 0 ∷ exit Name.Autolink 1 68 67 0 ∷ [])) ×
    -- text «<x@⟦a×64⟧>»: Data 0-68
    (text_answer (default) (codes "<x@aaaaaaaaaaaaaaaaaaaaaaaaaaaaaaaaaaaaaaaaaaaaaaaaaaaaaaaaaaaaaaaa>") (piece 0 0 68 0 ∷ []) ≡ (enter Name.Data 1 1 0 0 ∷ exit Name.Data 1 69 68 0 ∷ [])) ×
    -- text «<x@a->»: Data 0-6
    (text_answer (default) (codes "<x@a->") (piece 0 0 6 0 ∷ []) ≡ (enter Name.Data 1 1 0 0 ∷ exit Name.Data 1 7 6 0 ∷ [])) ×
    -- text «<x@-a>»: Data 0-6
    (text_answer (default) (codes "<x@-a>") (piece 0 0 6 0 ∷ []) ≡ (enter Name.Data 1 1 0 0 ∷ exit Name.Data 1 7 6 0 ∷ [])) ×
    -- text outer «<x@a-b>»: Autolink 0-7
    (text_outline (default) (codes "<x@a-b>") (piece 0 0 7 0 ∷ []) ≡ (enter Name.Autolink 1 1 0 0 ∷ exit Name.Autolink 1 8 7 0 ∷ [])) ×
    -- text outer «<x@1.2>»: Autolink 0-7
    (text_outline (default) (codes "<x@1.2>") (piece 0 0 7 0 ∷ []) ≡ (enter Name.Autolink 1 1 0 0 ∷ exit Name.Autolink 1 8 7 0 ∷ [])) ×
    -- text «<x@a_b>»: Data 0-7
    (text_answer (default) (codes "<x@a_b>") (piece 0 0 7 0 ∷ []) ≡ (enter Name.Data 1 1 0 0 ∷ exit Name.Data 1 8 7 0 ∷ [])) ×
    -- text «<x@a.><x@a..b><x@.a><x@>»: Data 0-24
    (text_answer (default) (codes "<x@a.><x@a..b><x@.a><x@>") (piece 0 0 24 0 ∷ []) ≡ (enter Name.Data 1 1 0 0 ∷ exit Name.Data 1 25 24 0 ∷ [])) ×
    -- text «<x@a.-b><x@a.b->»: Data 0-16
    (text_answer (default) (codes "<x@a.-b><x@a.b->") (piece 0 0 16 0 ∷ []) ≡ (enter Name.Data 1 1 0 0 ∷ exit Name.Data 1 17 16 0 ∷ [])) ×
    -- text outer «<x@a.b.c.d>»: Autolink 0-11
    (text_outline (default) (codes "<x@a.b.c.d>") (piece 0 0 11 0 ∷ []) ≡ (enter Name.Autolink 1 1 0 0 ∷ exit Name.Autolink 1 12 11 0 ∷ [])) ×
    -- text outer «<x@a>»: Autolink 0-5
    (text_outline (default) (codes "<x@a>") (piece 0 0 5 0 ∷ []) ≡ (enter Name.Autolink 1 1 0 0 ∷ exit Name.Autolink 1 6 5 0 ∷ [])) ×
    -- text «<x@a b>»: Data 0-7
    (text_answer (default) (codes "<x@a b>") (piece 0 0 7 0 ∷ []) ≡ (enter Name.Data 1 1 0 0 ∷ exit Name.Data 1 8 7 0 ∷ []))

abbrev pub HtmlText : Type 0
HtmlText =
    -- text «<![CDA `a`»: Data 0-7, CodeText 7-10 [CodeTextSequence 7-8, CodeTextData 8-9, CodeTextSequence 9-10]
    (text_answer (default) (codes "<![CDA `a`") (piece 0 0 10 0 ∷ []) ≡ (enter Name.Data 1 1 0 0 ∷ exit Name.Data 1 8 7 0 ∷ enter Name.CodeText 1 8 7 0 ∷ enter Name.CodeTextSequence 1 8 7 0 ∷ exit Name.CodeTextSequence 1 9 8 0 ∷ enter Name.CodeTextData 1 9 8 0 ∷ exit Name.CodeTextData 1 10 9 0 ∷ enter Name.CodeTextSequence 1 10 9 0 ∷ exit Name.CodeTextSequence 1 11 10 0 ∷ exit Name.CodeText 1 11 10 0 ∷ [])) ×
    -- text «<a␊ b>»: HtmlText 0-6 [HtmlTextData 0-2, LineEnding 2-3, SpaceOrTab 3-4, HtmlTextData 4-6]
    (text_answer (default) (60 ∷ 97 ∷ 10 ∷ 32 ∷ 98 ∷ 62 ∷ []) (piece 0 0 6 0 ∷ []) ≡ (enter Name.HtmlText 1 1 0 0 ∷ enter Name.HtmlTextData 1 1 0 0 ∷ exit Name.HtmlTextData 1 3 2 0 ∷ enter Name.LineEnding 1 3 2 0 ∷ exit Name.LineEnding 2 1 3 0 ∷ enter Name.SpaceOrTab 2 1 3 0 ∷ exit Name.SpaceOrTab 2 2 4 0 ∷ enter Name.HtmlTextData 2 2 4 0 ∷ exit Name.HtmlTextData 2 4 6 0 ∷ exit Name.HtmlText 2 4 6 0 ∷ [])) ×
    -- text «<!-->»: HtmlText 0-5 [HtmlTextData 0-5]
    (text_answer (default) (codes "<!-->") (piece 0 0 5 0 ∷ []) ≡ (enter Name.HtmlText 1 1 0 0 ∷ enter Name.HtmlTextData 1 1 0 0 ∷ exit Name.HtmlTextData 1 6 5 0 ∷ exit Name.HtmlText 1 6 5 0 ∷ [])) ×
    -- text «<a:b>»: Data 0-5
    (text_answer (default) (codes "<a:b>") (piece 0 0 5 0 ∷ []) ≡ (enter Name.Data 1 1 0 0 ∷ exit Name.Data 1 6 5 0 ∷ [])) ×
    -- text «<ab:c>»: Autolink 0-6 [AutolinkMarker 0-1, AutolinkProtocol 1-5, AutolinkMarker 5-6]
    (text_answer (default) (codes "<ab:c>") (piece 0 0 6 0 ∷ []) ≡ (enter Name.Autolink 1 1 0 0 ∷ enter Name.AutolinkMarker 1 1 0 0 ∷ exit Name.AutolinkMarker 1 2 1 0 ∷ enter Name.AutolinkProtocol 1 2 1 0 ∷ exit Name.AutolinkProtocol 1 6 5 0 ∷ enter Name.AutolinkMarker 1 6 5 0 ∷ exit Name.AutolinkMarker 1 7 6 0 ∷ exit Name.Autolink 1 7 6 0 ∷ [])) ×
    -- text «<https://example.com/alpha%20bravo>»: Autolink 0-35 [AutolinkMarker 0-1, AutolinkProtocol 1-34, AutolinkMarker 34-35]
    (text_answer (default) (codes "<https://example.com/alpha%20bravo>") (piece 0 0 35 0 ∷ []) ≡ (enter Name.Autolink 1 1 0 0 ∷ enter Name.AutolinkMarker 1 1 0 0 ∷ exit Name.AutolinkMarker 1 2 1 0 ∷ enter Name.AutolinkProtocol 1 2 1 0 ∷ exit Name.AutolinkProtocol 1 35 34 0 ∷ enter Name.AutolinkMarker 1 35 34 0 ∷ exit Name.AutolinkMarker 1 36 35 0 ∷ exit Name.Autolink 1 36 35 0 ∷ [])) ×
    -- text outer «<https://a👍b%>»: Autolink 0-17
    (text_outline (default) (60 ∷ 104 ∷ 116 ∷ 116 ∷ 112 ∷ 115 ∷ 58 ∷ 47 ∷ 47 ∷ 97 ∷ 240 ∷ 159 ∷ 145 ∷ 141 ∷ 98 ∷ 37 ∷ 62 ∷ []) (piece 0 0 17 0 ∷ []) ≡ (enter Name.Autolink 1 1 0 0 ∷ exit Name.Autolink 1 18 17 0 ∷ [])) ×
    -- text «<a@b.c>»: Autolink 0-7 [AutolinkMarker 0-1, AutolinkEmail 1-6, AutolinkMarker 6-7]
    (text_answer (default) (codes "<a@b.c>") (piece 0 0 7 0 ∷ []) ≡ (enter Name.Autolink 1 1 0 0 ∷ enter Name.AutolinkMarker 1 1 0 0 ∷ exit Name.AutolinkMarker 1 2 1 0 ∷ enter Name.AutolinkEmail 1 2 1 0 ∷ exit Name.AutolinkEmail 1 7 6 0 ∷ enter Name.AutolinkMarker 1 7 6 0 ∷ exit Name.AutolinkMarker 1 8 7 0 ∷ exit Name.Autolink 1 8 7 0 ∷ [])) ×
    -- text «<a!@b.c>»: Data 0-8
    (text_answer (default) (codes "<a!@b.c>") (piece 0 0 8 0 ∷ []) ≡ (enter Name.Data 1 1 0 0 ∷ exit Name.Data 1 9 8 0 ∷ [])) ×
    -- text «<b>»: HtmlText 0-3 [HtmlTextData 0-3]
    (text_answer (default) (codes "<b>") (piece 0 0 3 0 ∷ []) ≡ (enter Name.HtmlText 1 1 0 0 ∷ enter Name.HtmlTextData 1 1 0 0 ∷ exit Name.HtmlTextData 1 4 3 0 ∷ exit Name.HtmlText 1 4 3 0 ∷ [])) ×
    -- text «</b >»: HtmlText 0-5 [HtmlTextData 0-5]
    (text_answer (default) (codes "</b >") (piece 0 0 5 0 ∷ []) ≡ (enter Name.HtmlText 1 1 0 0 ∷ enter Name.HtmlTextData 1 1 0 0 ∷ exit Name.HtmlTextData 1 6 5 0 ∷ exit Name.HtmlText 1 6 5 0 ∷ [])) ×
    -- text «<?a?>»: HtmlText 0-5 [HtmlTextData 0-5]
    (text_answer (default) (codes "<?a?>") (piece 0 0 5 0 ∷ []) ≡ (enter Name.HtmlText 1 1 0 0 ∷ enter Name.HtmlTextData 1 1 0 0 ∷ exit Name.HtmlTextData 1 6 5 0 ∷ exit Name.HtmlText 1 6 5 0 ∷ [])) ×
    -- text «<??>»: HtmlText 0-4 [HtmlTextData 0-4]
    (text_answer (default) (codes "<??>") (piece 0 0 4 0 ∷ []) ≡ (enter Name.HtmlText 1 1 0 0 ∷ enter Name.HtmlTextData 1 1 0 0 ∷ exit Name.HtmlTextData 1 5 4 0 ∷ exit Name.HtmlText 1 5 4 0 ∷ [])) ×
    -- text «<!a>»: HtmlText 0-4 [HtmlTextData 0-4]
    (text_answer (default) (codes "<!a>") (piece 0 0 4 0 ∷ []) ≡ (enter Name.HtmlText 1 1 0 0 ∷ enter Name.HtmlTextData 1 1 0 0 ∷ exit Name.HtmlTextData 1 5 4 0 ∷ exit Name.HtmlText 1 5 4 0 ∷ [])) ×
    -- text «<![CDATA[]]>»: HtmlText 0-12 [HtmlTextData 0-12]
    (text_answer (default) (codes "<![CDATA[]]>") (piece 0 0 12 0 ∷ []) ≡ (enter Name.HtmlText 1 1 0 0 ∷ enter Name.HtmlTextData 1 1 0 0 ∷ exit Name.HtmlTextData 1 13 12 0 ∷ exit Name.HtmlText 1 13 12 0 ∷ [])) ×
    -- text «<!--->»: HtmlText 0-6 [HtmlTextData 0-6]
    (text_answer (default) (codes "<!--->") (piece 0 0 6 0 ∷ []) ≡ (enter Name.HtmlText 1 1 0 0 ∷ enter Name.HtmlTextData 1 1 0 0 ∷ exit Name.HtmlTextData 1 7 6 0 ∷ exit Name.HtmlText 1 7 6 0 ∷ [])) ×
    -- text «<?>»: Data 0-3
    (text_answer (default) (codes "<?>") (piece 0 0 3 0 ∷ []) ≡ (enter Name.Data 1 1 0 0 ∷ exit Name.Data 1 4 3 0 ∷ [])) ×
    -- text «<a b=/c>»: HtmlText 0-8 [HtmlTextData 0-8]
    (text_answer (default) (codes "<a b=/c>") (piece 0 0 8 0 ∷ []) ≡ (enter Name.HtmlText 1 1 0 0 ∷ enter Name.HtmlTextData 1 1 0 0 ∷ exit Name.HtmlTextData 1 9 8 0 ∷ exit Name.HtmlText 1 9 8 0 ∷ [])) ×
    -- text «<a b=c/>»: HtmlText 0-8 [HtmlTextData 0-8]
    (text_answer (default) (codes "<a b=c/>") (piece 0 0 8 0 ∷ []) ≡ (enter Name.HtmlText 1 1 0 0 ∷ enter Name.HtmlTextData 1 1 0 0 ∷ exit Name.HtmlTextData 1 9 8 0 ∷ exit Name.HtmlText 1 9 8 0 ∷ [])) ×
    -- text «<a b=c/d>»: Data 0-9
    (text_answer (default) (codes "<a b=c/d>") (piece 0 0 9 0 ∷ []) ≡ (enter Name.Data 1 1 0 0 ∷ exit Name.Data 1 10 9 0 ∷ [])) ×
    -- text commonmark «<a b=c/d>»: HtmlText 0-9 [HtmlTextData 0-9]
    (text_answer (record default { options = record default_options { commonmark = true } }) (codes "<a b=c/d>") (piece 0 0 9 0 ∷ []) ≡ (enter Name.HtmlText 1 1 0 0 ∷ enter Name.HtmlTextData 1 1 0 0 ∷ exit Name.HtmlTextData 1 10 9 0 ∷ exit Name.HtmlText 1 10 9 0 ∷ [])) ×
    -- text «<a b="c"d>»: Data 0-10
    (text_answer (default) (codes "<a b=\"c\"d>") (piece 0 0 10 0 ∷ []) ≡ (enter Name.Data 1 1 0 0 ∷ exit Name.Data 1 11 10 0 ∷ [])) ×
    -- text «<!--a␊b-->»: HtmlText 0-10 [HtmlTextData 0-5, LineEnding 5-6, HtmlTextData 6-10]
    (text_answer (default) (60 ∷ 33 ∷ 45 ∷ 45 ∷ 97 ∷ 10 ∷ 98 ∷ 45 ∷ 45 ∷ 62 ∷ []) (piece 0 0 10 0 ∷ []) ≡ (enter Name.HtmlText 1 1 0 0 ∷ enter Name.HtmlTextData 1 1 0 0 ∷ exit Name.HtmlTextData 1 6 5 0 ∷ enter Name.LineEnding 1 6 5 0 ∷ exit Name.LineEnding 2 1 6 0 ∷ enter Name.HtmlTextData 2 1 6 0 ∷ exit Name.HtmlTextData 2 5 10 0 ∷ exit Name.HtmlText 2 5 10 0 ∷ [])) ×
    -- text «<a b="c»: Data 0-7
    (text_answer (default) (codes "<a b=\"c") (piece 0 0 7 0 ∷ []) ≡ (enter Name.Data 1 1 0 0 ∷ exit Name.Data 1 8 7 0 ∷ [])) ×
    -- text «<?a»: Data 0-3
    (text_answer (default) (codes "<?a") (piece 0 0 3 0 ∷ []) ≡ (enter Name.Data 1 1 0 0 ∷ exit Name.Data 1 4 3 0 ∷ [])) ×
    -- text «<!--a»: Data 0-5
    (text_answer (default) (codes "<!--a") (piece 0 0 5 0 ∷ []) ≡ (enter Name.Data 1 1 0 0 ∷ exit Name.Data 1 6 5 0 ∷ [])) ×
    -- text «<!a»: Data 0-3
    (text_answer (default) (codes "<!a") (piece 0 0 3 0 ∷ []) ≡ (enter Name.Data 1 1 0 0 ∷ exit Name.Data 1 4 3 0 ∷ [])) ×
    -- text «<![CDATA[a»: Data 0-10
    (text_answer (default) (codes "<![CDATA[a") (piece 0 0 10 0 ∷ []) ≡ (enter Name.Data 1 1 0 0 ∷ exit Name.Data 1 11 10 0 ∷ [])) ×
    -- text «<ab:␀>»: Data 0-6
    (text_answer (default) (60 ∷ 97 ∷ 98 ∷ 58 ∷ 0 ∷ 62 ∷ []) (piece 0 0 6 0 ∷ []) ≡ (enter Name.Data 1 1 0 0 ∷ exit Name.Data 1 7 6 0 ∷ [])) ×
    -- text outer «<?@a>?>»: Autolink 0-5, Data 5-7
    (text_outline (default) (codes "<?@a>?>") (piece 0 0 7 0 ∷ []) ≡ (enter Name.Autolink 1 1 0 0 ∷ exit Name.Autolink 1 6 5 0 ∷ enter Name.Data 1 6 5 0 ∷ exit Name.Data 1 8 7 0 ∷ [])) ×
    -- text outer «<!-->-->»: HtmlText 0-5, Data 5-8
    (text_outline (default) (codes "<!-->-->") (piece 0 0 8 0 ∷ []) ≡ (enter Name.HtmlText 1 1 0 0 ∷ exit Name.HtmlText 1 6 5 0 ∷ enter Name.Data 1 6 5 0 ∷ exit Name.Data 1 9 8 0 ∷ []))

abbrev pub HtmlTags : Type 0
HtmlTags =
    -- text «<1>< a><>»: Data 0-9
    (text_answer (default) (codes "<1>< a><>") (piece 0 0 9 0 ∷ []) ≡ (enter Name.Data 1 1 0 0 ∷ exit Name.Data 1 10 9 0 ∷ [])) ×
    -- text outer «<a1><a-b><Az><zA><ab/>»: HtmlText 0-4, HtmlText 4-9, HtmlText 9-13, HtmlText 13-17, HtmlText 17-22
    (text_outline (default) (codes "<a1><a-b><Az><zA><ab/>") (piece 0 0 22 0 ∷ []) ≡ (enter Name.HtmlText 1 1 0 0 ∷ exit Name.HtmlText 1 5 4 0 ∷ enter Name.HtmlText 1 5 4 0 ∷ exit Name.HtmlText 1 10 9 0 ∷ enter Name.HtmlText 1 10 9 0 ∷ exit Name.HtmlText 1 14 13 0 ∷ enter Name.HtmlText 1 14 13 0 ∷ exit Name.HtmlText 1 18 17 0 ∷ enter Name.HtmlText 1 18 17 0 ∷ exit Name.HtmlText 1 23 22 0 ∷ [])) ×
    -- text «<a_b><a.b><a@><a`>»: Data 0-18
    (text_answer (default) (codes "<a_b><a.b><a@><a`>") (piece 0 0 18 0 ∷ []) ≡ (enter Name.Data 1 1 0 0 ∷ exit Name.Data 1 19 18 0 ∷ [])) ×
    -- text outer «<a /><a ><a␊>»: HtmlText 0-5, HtmlText 5-9, HtmlText 9-13
    (text_outline (default) (60 ∷ 97 ∷ 32 ∷ 47 ∷ 62 ∷ 60 ∷ 97 ∷ 32 ∷ 62 ∷ 60 ∷ 97 ∷ 10 ∷ 62 ∷ []) (piece 0 0 13 0 ∷ []) ≡ (enter Name.HtmlText 1 1 0 0 ∷ exit Name.HtmlText 1 6 5 0 ∷ enter Name.HtmlText 1 6 5 0 ∷ exit Name.HtmlText 1 10 9 0 ∷ enter Name.HtmlText 1 10 9 0 ∷ exit Name.HtmlText 2 2 13 0 ∷ [])) ×
    -- text «<a / >»: Data 0-6
    (text_answer (default) (codes "<a / >") (piece 0 0 6 0 ∷ []) ≡ (enter Name.Data 1 1 0 0 ∷ exit Name.Data 1 7 6 0 ∷ [])) ×
    -- text «<a//>»: Data 0-5
    (text_answer (default) (codes "<a//>") (piece 0 0 5 0 ∷ []) ≡ (enter Name.Data 1 1 0 0 ∷ exit Name.Data 1 6 5 0 ∷ [])) ×
    -- text outer «<a :b><a _b><a B><a z>»: HtmlText 0-6, HtmlText 6-12, HtmlText 12-17, HtmlText 17-22
    (text_outline (default) (codes "<a :b><a _b><a B><a z>") (piece 0 0 22 0 ∷ []) ≡ (enter Name.HtmlText 1 1 0 0 ∷ exit Name.HtmlText 1 7 6 0 ∷ enter Name.HtmlText 1 7 6 0 ∷ exit Name.HtmlText 1 13 12 0 ∷ enter Name.HtmlText 1 13 12 0 ∷ exit Name.HtmlText 1 18 17 0 ∷ enter Name.HtmlText 1 18 17 0 ∷ exit Name.HtmlText 1 23 22 0 ∷ [])) ×
    -- text «<a 1><a -b><a .b><a @>»: Data 0-22
    (text_answer (default) (codes "<a 1><a -b><a .b><a @>") (piece 0 0 22 0 ∷ []) ≡ (enter Name.Data 1 1 0 0 ∷ exit Name.Data 1 23 22 0 ∷ [])) ×
    -- text outer «<a b1-.:_Z>»: HtmlText 0-11
    (text_outline (default) (codes "<a b1-.:_Z>") (piece 0 0 11 0 ∷ []) ≡ (enter Name.HtmlText 1 1 0 0 ∷ exit Name.HtmlText 1 12 11 0 ∷ [])) ×
    -- text «<a b@><a b/c><a b,>»: Data 0-19
    (text_answer (default) (codes "<a b@><a b/c><a b,>") (piece 0 0 19 0 ∷ []) ≡ (enter Name.Data 1 1 0 0 ∷ exit Name.Data 1 20 19 0 ∷ [])) ×
    -- text outer «<a b c d e>»: HtmlText 0-11
    (text_outline (default) (codes "<a b c d e>") (piece 0 0 11 0 ∷ []) ≡ (enter Name.HtmlText 1 1 0 0 ∷ exit Name.HtmlText 1 12 11 0 ∷ [])) ×
    -- text outer «<a b=c d=e f=g>»: HtmlText 0-15
    (text_outline (default) (codes "<a b=c d=e f=g>") (piece 0 0 15 0 ∷ []) ≡ (enter Name.HtmlText 1 1 0 0 ∷ exit Name.HtmlText 1 16 15 0 ∷ [])) ×
    -- text outer «<a b="" c='' d="e'f" g='h"i'>»: HtmlText 0-29
    (text_outline (default) (codes "<a b=\"\" c='' d=\"e'f\" g='h\"i'>") (piece 0 0 29 0 ∷ []) ≡ (enter Name.HtmlText 1 1 0 0 ∷ exit Name.HtmlText 1 30 29 0 ∷ [])) ×
    -- text «<a b = c>»: HtmlText 0-9 [HtmlTextData 0-9]
    (text_answer (default) (codes "<a b = c>") (piece 0 0 9 0 ∷ []) ≡ (enter Name.HtmlText 1 1 0 0 ∷ enter Name.HtmlTextData 1 1 0 0 ∷ exit Name.HtmlTextData 1 10 9 0 ∷ exit Name.HtmlText 1 10 9 0 ∷ [])) ×
    -- text outer «<a b =c><a b= c><a␉b␊=␊c>»: HtmlText 0-8, HtmlText 8-16, HtmlText 16-25
    (text_outline (default) (60 ∷ 97 ∷ 32 ∷ 98 ∷ 32 ∷ 61 ∷ 99 ∷ 62 ∷ 60 ∷ 97 ∷ 32 ∷ 98 ∷ 61 ∷ 32 ∷ 99 ∷ 62 ∷ 60 ∷ 97 ∷ 9 ∷ 98 ∷ 10 ∷ 61 ∷ 10 ∷ 99 ∷ 62 ∷ []) (piece 0 0 25 0 ∷ []) ≡ (enter Name.HtmlText 1 1 0 0 ∷ exit Name.HtmlText 1 9 8 0 ∷ enter Name.HtmlText 1 9 8 0 ∷ exit Name.HtmlText 1 17 16 0 ∷ enter Name.HtmlText 1 17 16 0 ∷ exit Name.HtmlText 3 3 25 0 ∷ [])) ×
    -- text «<a b='c'>»: HtmlText 0-9 [HtmlTextData 0-9]
    (text_answer (default) (codes "<a b='c'>") (piece 0 0 9 0 ∷ []) ≡ (enter Name.HtmlText 1 1 0 0 ∷ enter Name.HtmlTextData 1 1 0 0 ∷ exit Name.HtmlTextData 1 10 9 0 ∷ exit Name.HtmlText 1 10 9 0 ∷ [])) ×
    -- text «<a b="c␊ d">»: HtmlText 0-12 [HtmlTextData 0-7, LineEnding 7-8, SpaceOrTab 8-9, HtmlTextData 9-12]
    (text_answer (default) (60 ∷ 97 ∷ 32 ∷ 98 ∷ 61 ∷ 34 ∷ 99 ∷ 10 ∷ 32 ∷ 100 ∷ 34 ∷ 62 ∷ []) (piece 0 0 12 0 ∷ []) ≡ (enter Name.HtmlText 1 1 0 0 ∷ enter Name.HtmlTextData 1 1 0 0 ∷ exit Name.HtmlTextData 1 8 7 0 ∷ enter Name.LineEnding 1 8 7 0 ∷ exit Name.LineEnding 2 1 8 0 ∷ enter Name.SpaceOrTab 2 1 8 0 ∷ exit Name.SpaceOrTab 2 2 9 0 ∷ enter Name.HtmlTextData 2 2 9 0 ∷ exit Name.HtmlTextData 2 5 12 0 ∷ exit Name.HtmlText 2 5 12 0 ∷ [])) ×
    -- text outer «<a b=c d><a b=c /><a b=c␊>»: HtmlText 0-9, HtmlText 9-18, HtmlText 18-26
    (text_outline (default) (60 ∷ 97 ∷ 32 ∷ 98 ∷ 61 ∷ 99 ∷ 32 ∷ 100 ∷ 62 ∷ 60 ∷ 97 ∷ 32 ∷ 98 ∷ 61 ∷ 99 ∷ 32 ∷ 47 ∷ 62 ∷ 60 ∷ 97 ∷ 32 ∷ 98 ∷ 61 ∷ 99 ∷ 10 ∷ 62 ∷ []) (piece 0 0 26 0 ∷ []) ≡ (enter Name.HtmlText 1 1 0 0 ∷ exit Name.HtmlText 1 10 9 0 ∷ enter Name.HtmlText 1 10 9 0 ∷ exit Name.HtmlText 1 19 18 0 ∷ enter Name.HtmlText 1 19 18 0 ∷ exit Name.HtmlText 2 2 26 0 ∷ [])) ×
    -- text «<a b=>»: Data 0-6
    (text_answer (default) (codes "<a b=>") (piece 0 0 6 0 ∷ []) ≡ (enter Name.Data 1 1 0 0 ∷ exit Name.Data 1 7 6 0 ∷ [])) ×
    -- text «<a =b>»: Data 0-6
    (text_answer (default) (codes "<a =b>") (piece 0 0 6 0 ∷ []) ≡ (enter Name.Data 1 1 0 0 ∷ exit Name.Data 1 7 6 0 ∷ [])) ×
    -- text «<a b=c"d><a b=c'd><a b=c=d>»: Data 0-27
    (text_answer (default) (codes "<a b=c\"d><a b=c'd><a b=c=d>") (piece 0 0 27 0 ∷ []) ≡ (enter Name.Data 1 1 0 0 ∷ exit Name.Data 1 28 27 0 ∷ [])) ×
    -- text «<a b=c`>»: Data 0-8
    (text_answer (default) (codes "<a b=c`>") (piece 0 0 8 0 ∷ []) ≡ (enter Name.Data 1 1 0 0 ∷ exit Name.Data 1 9 8 0 ∷ [])) ×
    -- text «<a b=c/d e>»: Data 0-11
    (text_answer (default) (codes "<a b=c/d e>") (piece 0 0 11 0 ∷ []) ≡ (enter Name.Data 1 1 0 0 ∷ exit Name.Data 1 12 11 0 ∷ [])) ×
    -- text outer commonmark «<a b=c/d e>»: HtmlText 0-11
    (text_outline (record default { options = record default_options { commonmark = true } }) (codes "<a b=c/d e>") (piece 0 0 11 0 ∷ []) ≡ (enter Name.HtmlText 1 1 0 0 ∷ exit Name.HtmlText 1 12 11 0 ∷ [])) ×
    -- text outer commonmark «<a b=/c>»: HtmlText 0-8
    (text_outline (record default { options = record default_options { commonmark = true } }) (codes "<a b=/c>") (piece 0 0 8 0 ∷ []) ≡ (enter Name.HtmlText 1 1 0 0 ∷ exit Name.HtmlText 1 9 8 0 ∷ [])) ×
    -- text outer commonmark «<a b=c/>»: HtmlText 0-8
    (text_outline (record default { options = record default_options { commonmark = true } }) (codes "<a b=c/>") (piece 0 0 8 0 ∷ []) ≡ (enter Name.HtmlText 1 1 0 0 ∷ exit Name.HtmlText 1 9 8 0 ∷ [])) ×
    -- text «<a b=c/ >»: Data 0-9
    (text_answer (default) (codes "<a b=c/ >") (piece 0 0 9 0 ∷ []) ≡ (enter Name.Data 1 1 0 0 ∷ exit Name.Data 1 10 9 0 ∷ [])) ×
    -- text outer commonmark «<a b=c/ >»: HtmlText 0-9
    (text_outline (record default { options = record default_options { commonmark = true } }) (codes "<a b=c/ >") (piece 0 0 9 0 ∷ []) ≡ (enter Name.HtmlText 1 1 0 0 ∷ exit Name.HtmlText 1 10 9 0 ∷ [])) ×
    -- text outer commonmark «<a b=c /><a b=//><a b/>»: HtmlText 0-9, HtmlText 9-17, HtmlText 17-23
    (text_outline (record default { options = record default_options { commonmark = true } }) (codes "<a b=c /><a b=//><a b/>") (piece 0 0 23 0 ∷ []) ≡ (enter Name.HtmlText 1 1 0 0 ∷ exit Name.HtmlText 1 10 9 0 ∷ enter Name.HtmlText 1 10 9 0 ∷ exit Name.HtmlText 1 18 17 0 ∷ enter Name.HtmlText 1 18 17 0 ∷ exit Name.HtmlText 1 24 23 0 ∷ [])) ×
    -- text commonmark «<a b=c"d>»: Data 0-9
    (text_answer (record default { options = record default_options { commonmark = true } }) (codes "<a b=c\"d>") (piece 0 0 9 0 ∷ []) ≡ (enter Name.Data 1 1 0 0 ∷ exit Name.Data 1 10 9 0 ∷ [])) ×
    -- text commonmark «<a b=c/»: Data 0-7
    (text_answer (record default { options = record default_options { commonmark = true } }) (codes "<a b=c/") (piece 0 0 7 0 ∷ []) ≡ (enter Name.Data 1 1 0 0 ∷ exit Name.Data 1 8 7 0 ∷ [])) ×
    -- text outer «<a b=c<d>»: Data 0-6, HtmlText 6-9
    (text_outline (default) (codes "<a b=c<d>") (piece 0 0 9 0 ∷ []) ≡ (enter Name.Data 1 1 0 0 ∷ exit Name.Data 1 7 6 0 ∷ enter Name.HtmlText 1 7 6 0 ∷ exit Name.HtmlText 1 10 9 0 ∷ [])) ×
    -- text outer «<a b=c>d>»: HtmlText 0-7, Data 7-9
    (text_outline (default) (codes "<a b=c>d>") (piece 0 0 9 0 ∷ []) ≡ (enter Name.HtmlText 1 1 0 0 ∷ exit Name.HtmlText 1 8 7 0 ∷ enter Name.Data 1 8 7 0 ∷ exit Name.Data 1 10 9 0 ∷ [])) ×
    -- text «<a b=c 1>»: Data 0-9
    (text_answer (default) (codes "<a b=c 1>") (piece 0 0 9 0 ∷ []) ≡ (enter Name.Data 1 1 0 0 ∷ exit Name.Data 1 10 9 0 ∷ [])) ×
    -- text «<a b="c">»: HtmlText 0-9 [HtmlTextData 0-9]
    (text_answer (default) (codes "<a b=\"c\">") (piece 0 0 9 0 ∷ []) ≡ (enter Name.HtmlText 1 1 0 0 ∷ enter Name.HtmlTextData 1 1 0 0 ∷ exit Name.HtmlTextData 1 10 9 0 ∷ exit Name.HtmlText 1 10 9 0 ∷ [])) ×
    -- text «<a b.c>»: HtmlText 0-7 [HtmlTextData 0-7]
    (text_answer (default) (codes "<a b.c>") (piece 0 0 7 0 ∷ []) ≡ (enter Name.HtmlText 1 1 0 0 ∷ enter Name.HtmlTextData 1 1 0 0 ∷ exit Name.HtmlTextData 1 8 7 0 ∷ exit Name.HtmlText 1 8 7 0 ∷ [])) ×
    -- text «<ab"c">»: Data 0-7
    (text_answer (default) (codes "<ab\"c\">") (piece 0 0 7 0 ∷ []) ≡ (enter Name.Data 1 1 0 0 ∷ exit Name.Data 1 8 7 0 ∷ [])) ×
    -- text outer «</a></a-1>»: HtmlText 0-4, HtmlText 4-10
    (text_outline (default) (codes "</a></a-1>") (piece 0 0 10 0 ∷ []) ≡ (enter Name.HtmlText 1 1 0 0 ∷ exit Name.HtmlText 1 5 4 0 ∷ enter Name.HtmlText 1 5 4 0 ∷ exit Name.HtmlText 1 11 10 0 ∷ [])) ×
    -- text «</a b></1></ a></>»: Data 0-18
    (text_answer (default) (codes "</a b></1></ a></>") (piece 0 0 18 0 ∷ []) ≡ (enter Name.Data 1 1 0 0 ∷ exit Name.Data 1 19 18 0 ∷ [])) ×
    -- text outer «<!--a--b--><!--a->b--><!--a>b-->»: HtmlText 0-11, HtmlText 11-22, HtmlText 22-32
    (text_outline (default) (codes "<!--a--b--><!--a->b--><!--a>b-->") (piece 0 0 32 0 ∷ []) ≡ (enter Name.HtmlText 1 1 0 0 ∷ exit Name.HtmlText 1 12 11 0 ∷ enter Name.HtmlText 1 12 11 0 ∷ exit Name.HtmlText 1 23 22 0 ∷ enter Name.HtmlText 1 23 22 0 ∷ exit Name.HtmlText 1 33 32 0 ∷ [])) ×
    -- text outer «<!--a-->b-->»: HtmlText 0-8, Data 8-12
    (text_outline (default) (codes "<!--a-->b-->") (piece 0 0 12 0 ∷ []) ≡ (enter Name.HtmlText 1 1 0 0 ∷ exit Name.HtmlText 1 9 8 0 ∷ enter Name.Data 1 9 8 0 ∷ exit Name.Data 1 13 12 0 ∷ [])) ×
    -- text «<!-a-->»: Data 0-7
    (text_answer (default) (codes "<!-a-->") (piece 0 0 7 0 ∷ []) ≡ (enter Name.Data 1 1 0 0 ∷ exit Name.Data 1 8 7 0 ∷ [])) ×
    -- text outer «<?a>b?>»: HtmlText 0-7
    (text_outline (default) (codes "<?a>b?>") (piece 0 0 7 0 ∷ []) ≡ (enter Name.HtmlText 1 1 0 0 ∷ exit Name.HtmlText 1 8 7 0 ∷ [])) ×
    -- text outer «<?a?>b?>»: HtmlText 0-5, Data 5-8
    (text_outline (default) (codes "<?a?>b?>") (piece 0 0 8 0 ∷ []) ≡ (enter Name.HtmlText 1 1 0 0 ∷ exit Name.HtmlText 1 6 5 0 ∷ enter Name.Data 1 6 5 0 ∷ exit Name.Data 1 9 8 0 ∷ [])) ×
    -- text outer «<!a>b>»: HtmlText 0-4, Data 4-6
    (text_outline (default) (codes "<!a>b>") (piece 0 0 6 0 ∷ []) ≡ (enter Name.HtmlText 1 1 0 0 ∷ exit Name.HtmlText 1 5 4 0 ∷ enter Name.Data 1 5 4 0 ∷ exit Name.Data 1 7 6 0 ∷ [])) ×
    -- text «<!1><!>»: Data 0-7
    (text_answer (default) (codes "<!1><!>") (piece 0 0 7 0 ∷ []) ≡ (enter Name.Data 1 1 0 0 ∷ exit Name.Data 1 8 7 0 ∷ [])) ×
    -- text outer «<!Z a>»: HtmlText 0-6
    (text_outline (default) (codes "<!Z a>") (piece 0 0 6 0 ∷ []) ≡ (enter Name.HtmlText 1 1 0 0 ∷ exit Name.HtmlText 1 7 6 0 ∷ [])) ×
    -- text «<![CDATAa]]>»: Data 0-12
    (text_answer (default) (codes "<![CDATAa]]>") (piece 0 0 12 0 ∷ []) ≡ (enter Name.Data 1 1 0 0 ∷ exit Name.Data 1 13 12 0 ∷ [])) ×
    -- text «<![cdata[a]]>»: Data 0-13
    (text_answer (default) (codes "<![cdata[a]]>") (piece 0 0 13 0 ∷ []) ≡ (enter Name.Data 1 1 0 0 ∷ exit Name.Data 1 14 13 0 ∷ [])) ×
    -- text outer «<![CDATA[a]>b]]>»: HtmlText 0-16
    (text_outline (default) (codes "<![CDATA[a]>b]]>") (piece 0 0 16 0 ∷ []) ≡ (enter Name.HtmlText 1 1 0 0 ∷ exit Name.HtmlText 1 17 16 0 ∷ [])) ×
    -- text outer «<![CDATA[a]]>]]>»: HtmlText 0-13, Data 13-16
    (text_outline (default) (codes "<![CDATA[a]]>]]>") (piece 0 0 16 0 ∷ []) ≡ (enter Name.HtmlText 1 1 0 0 ∷ exit Name.HtmlText 1 14 13 0 ∷ enter Name.Data 1 14 13 0 ∷ exit Name.Data 1 17 16 0 ∷ [])) ×
    -- text «<!--a␊ b␊ c-->»: HtmlText 0-14 [HtmlTextData 0-5, LineEnding 5-6, SpaceOrTab 6-7, HtmlTextData 7-8, LineEnding 8-9, SpaceOrTab 9-10, HtmlTextData 10-14]
    (text_answer (default) (60 ∷ 33 ∷ 45 ∷ 45 ∷ 97 ∷ 10 ∷ 32 ∷ 98 ∷ 10 ∷ 32 ∷ 99 ∷ 45 ∷ 45 ∷ 62 ∷ []) (piece 0 0 14 0 ∷ []) ≡ (enter Name.HtmlText 1 1 0 0 ∷ enter Name.HtmlTextData 1 1 0 0 ∷ exit Name.HtmlTextData 1 6 5 0 ∷ enter Name.LineEnding 1 6 5 0 ∷ exit Name.LineEnding 2 1 6 0 ∷ enter Name.SpaceOrTab 2 1 6 0 ∷ exit Name.SpaceOrTab 2 2 7 0 ∷ enter Name.HtmlTextData 2 2 7 0 ∷ exit Name.HtmlTextData 2 3 8 0 ∷ enter Name.LineEnding 2 3 8 0 ∷ exit Name.LineEnding 3 1 9 0 ∷ enter Name.SpaceOrTab 3 1 9 0 ∷ exit Name.SpaceOrTab 3 2 10 0 ∷ enter Name.HtmlTextData 3 2 10 0 ∷ exit Name.HtmlTextData 3 6 14 0 ∷ exit Name.HtmlText 3 6 14 0 ∷ [])) ×
    -- text «<a⟦U+000C⟧b>»: Data 0-5
    (text_answer (default) (60 ∷ 97 ∷ 12 ∷ 98 ∷ 62 ∷ []) (piece 0 0 5 0 ∷ []) ≡ (enter Name.Data 1 1 0 0 ∷ exit Name.Data 1 6 5 0 ∷ [])) ×
    -- text «<a b="<">»: HtmlText 0-9 [HtmlTextData 0-9]
    (text_answer (default) (codes "<a b=\"<\">") (piece 0 0 9 0 ∷ []) ≡ (enter Name.HtmlText 1 1 0 0 ∷ enter Name.HtmlTextData 1 1 0 0 ∷ exit Name.HtmlTextData 1 10 9 0 ∷ exit Name.HtmlText 1 10 9 0 ∷ [])) ×
    -- text «<a␊ b␊ c>»: HtmlText 0-9 [HtmlTextData 0-2, LineEnding 2-3, SpaceOrTab 3-4, HtmlTextData 4-5, LineEnding 5-6, SpaceOrTab 6-7, HtmlTextData 7-9]
    (text_answer (default) (60 ∷ 97 ∷ 10 ∷ 32 ∷ 98 ∷ 10 ∷ 32 ∷ 99 ∷ 62 ∷ []) (piece 0 0 9 0 ∷ []) ≡ (enter Name.HtmlText 1 1 0 0 ∷ enter Name.HtmlTextData 1 1 0 0 ∷ exit Name.HtmlTextData 1 3 2 0 ∷ enter Name.LineEnding 1 3 2 0 ∷ exit Name.LineEnding 2 1 3 0 ∷ enter Name.SpaceOrTab 2 1 3 0 ∷ exit Name.SpaceOrTab 2 2 4 0 ∷ enter Name.HtmlTextData 2 2 4 0 ∷ exit Name.HtmlTextData 2 3 5 0 ∷ enter Name.LineEnding 2 3 5 0 ∷ exit Name.LineEnding 3 1 6 0 ∷ enter Name.SpaceOrTab 3 1 6 0 ∷ exit Name.SpaceOrTab 3 2 7 0 ∷ enter Name.HtmlTextData 3 2 7 0 ∷ exit Name.HtmlTextData 3 4 9 0 ∷ exit Name.HtmlText 3 4 9 0 ∷ []))

abbrev pub TaskListItemChecks : Type 0
TaskListItemChecks =
    -- text gfm first «- [␉] a» 2-7: GfmTaskListItemCheck 2-5 [GfmTaskListItemMarker 2-3, GfmTaskListItemValueUnchecked 3-4, GfmTaskListItemMarker 4-5], Data 5-7
    (text_answer (record default { options = record default_options { constructs = record default_constructs { gfm_autolink_literal = true; gfm_label_start_footnote = true; gfm_strikethrough = true; gfm_task_list_item = true } }; first_of_item = true }) (45 ∷ 32 ∷ 91 ∷ 9 ∷ 93 ∷ 32 ∷ 97 ∷ []) (piece 2 0 7 0 ∷ []) ≡ (enter Name.GfmTaskListItemCheck 1 3 2 0 ∷ enter Name.GfmTaskListItemMarker 1 3 2 0 ∷ exit Name.GfmTaskListItemMarker 1 4 3 0 ∷ enter Name.GfmTaskListItemValueUnchecked 1 4 3 0 ∷ exit Name.GfmTaskListItemValueUnchecked 1 5 4 0 ∷ enter Name.GfmTaskListItemMarker 1 5 4 0 ∷ exit Name.GfmTaskListItemMarker 1 6 5 0 ∷ exit Name.GfmTaskListItemCheck 1 6 5 0 ∷ enter Name.Data 1 6 5 0 ∷ exit Name.Data 1 8 7 0 ∷ [])) ×
    -- text gfm first «[␉] a»: Data 0-5
    (text_answer (record default { options = record default_options { constructs = record default_constructs { gfm_autolink_literal = true; gfm_label_start_footnote = true; gfm_strikethrough = true; gfm_task_list_item = true } }; first_of_item = true }) (91 ∷ 9 ∷ 93 ∷ 32 ∷ 97 ∷ []) (piece 0 0 5 0 ∷ []) ≡ (enter Name.Data 1 1 0 0 ∷ exit Name.Data 1 8 5 0 ∷ [])) ×
    -- text gfm first «[␊] a»: GfmTaskListItemCheck 0-3 [GfmTaskListItemMarker 0-1, GfmTaskListItemValueUnchecked 1-2, GfmTaskListItemMarker 2-3], Data 3-5
    (text_answer (record default { options = record default_options { constructs = record default_constructs { gfm_autolink_literal = true; gfm_label_start_footnote = true; gfm_strikethrough = true; gfm_task_list_item = true } }; first_of_item = true }) (91 ∷ 10 ∷ 93 ∷ 32 ∷ 97 ∷ []) (piece 0 0 5 0 ∷ []) ≡ (enter Name.GfmTaskListItemCheck 1 1 0 0 ∷ enter Name.GfmTaskListItemMarker 1 1 0 0 ∷ exit Name.GfmTaskListItemMarker 1 2 1 0 ∷ enter Name.GfmTaskListItemValueUnchecked 1 2 1 0 ∷ exit Name.GfmTaskListItemValueUnchecked 2 1 2 0 ∷ enter Name.GfmTaskListItemMarker 2 1 2 0 ∷ exit Name.GfmTaskListItemMarker 2 2 3 0 ∷ exit Name.GfmTaskListItemCheck 2 2 3 0 ∷ enter Name.Data 2 2 3 0 ∷ exit Name.Data 2 4 5 0 ∷ [])) ×
    -- text gfm first «[X] a»: GfmTaskListItemCheck 0-3 [GfmTaskListItemMarker 0-1, GfmTaskListItemValueChecked 1-2, GfmTaskListItemMarker 2-3], Data 3-5
    (text_answer (record default { options = record default_options { constructs = record default_constructs { gfm_autolink_literal = true; gfm_label_start_footnote = true; gfm_strikethrough = true; gfm_task_list_item = true } }; first_of_item = true }) (codes "[X] a") (piece 0 0 5 0 ∷ []) ≡ (enter Name.GfmTaskListItemCheck 1 1 0 0 ∷ enter Name.GfmTaskListItemMarker 1 1 0 0 ∷ exit Name.GfmTaskListItemMarker 1 2 1 0 ∷ enter Name.GfmTaskListItemValueChecked 1 2 1 0 ∷ exit Name.GfmTaskListItemValueChecked 1 3 2 0 ∷ enter Name.GfmTaskListItemMarker 1 3 2 0 ∷ exit Name.GfmTaskListItemMarker 1 4 3 0 ∷ exit Name.GfmTaskListItemCheck 1 4 3 0 ∷ enter Name.Data 1 4 3 0 ∷ exit Name.Data 1 6 5 0 ∷ [])) ×
    -- text outer gfm first «[x]␉a»: GfmTaskListItemCheck 0-3, Data 3-5
    (text_outline (record default { options = record default_options { constructs = record default_constructs { gfm_autolink_literal = true; gfm_label_start_footnote = true; gfm_strikethrough = true; gfm_task_list_item = true } }; first_of_item = true }) (91 ∷ 120 ∷ 93 ∷ 9 ∷ 97 ∷ []) (piece 0 0 5 0 ∷ []) ≡ (enter Name.GfmTaskListItemCheck 1 1 0 0 ∷ exit Name.GfmTaskListItemCheck 1 4 3 0 ∷ enter Name.Data 1 4 3 0 ∷ exit Name.Data 1 6 5 0 ∷ [])) ×
    -- text gfm first «[y] a»: Data 0-5
    (text_answer (record default { options = record default_options { constructs = record default_constructs { gfm_autolink_literal = true; gfm_label_start_footnote = true; gfm_strikethrough = true; gfm_task_list_item = true } }; first_of_item = true }) (codes "[y] a") (piece 0 0 5 0 ∷ []) ≡ (enter Name.Data 1 1 0 0 ∷ exit Name.Data 1 6 5 0 ∷ [])) ×
    -- text gfm first «[] a»: Data 0-4
    (text_answer (record default { options = record default_options { constructs = record default_constructs { gfm_autolink_literal = true; gfm_label_start_footnote = true; gfm_strikethrough = true; gfm_task_list_item = true } }; first_of_item = true }) (codes "[] a") (piece 0 0 4 0 ∷ []) ≡ (enter Name.Data 1 1 0 0 ∷ exit Name.Data 1 5 4 0 ∷ [])) ×
    -- text gfm first «a [x] b»: Data 0-7
    (text_answer (record default { options = record default_options { constructs = record default_constructs { gfm_autolink_literal = true; gfm_label_start_footnote = true; gfm_strikethrough = true; gfm_task_list_item = true } }; first_of_item = true }) (codes "a [x] b") (piece 0 0 7 0 ∷ []) ≡ (enter Name.Data 1 1 0 0 ∷ exit Name.Data 1 8 7 0 ∷ [])) ×
    -- text outer gfm first definition=x «[x] a [x]»: GfmTaskListItemCheck 0-3, Data 3-6, Link 6-9
    (text_outline (record default { options = record default_options { constructs = record default_constructs { gfm_autolink_literal = true; gfm_label_start_footnote = true; gfm_strikethrough = true; gfm_task_list_item = true } }; first_of_item = true; definitions = (codes "x") ∷ [] }) (codes "[x] a [x]") (piece 0 0 9 0 ∷ []) ≡ (enter Name.GfmTaskListItemCheck 1 1 0 0 ∷ exit Name.GfmTaskListItemCheck 1 4 3 0 ∷ enter Name.Data 1 4 3 0 ∷ exit Name.Data 1 7 6 0 ∷ enter Name.Link 1 7 6 0 ∷ exit Name.Link 1 10 9 0 ∷ [])) ×
    -- text gfm first «[x]  »: Data 0-3, SpaceOrTab 3-5
    (text_answer (record default { options = record default_options { constructs = record default_constructs { gfm_autolink_literal = true; gfm_label_start_footnote = true; gfm_strikethrough = true; gfm_task_list_item = true } }; first_of_item = true }) (codes "[x]  ") (piece 0 0 5 0 ∷ []) ≡ (enter Name.Data 1 1 0 0 ∷ exit Name.Data 1 4 3 0 ∷ enter Name.SpaceOrTab 1 4 3 0 ∷ exit Name.SpaceOrTab 1 6 5 0 ∷ [])) ×
    -- text outer gfm first «[x]   a»: GfmTaskListItemCheck 0-3, Data 3-7
    (text_outline (record default { options = record default_options { constructs = record default_constructs { gfm_autolink_literal = true; gfm_label_start_footnote = true; gfm_strikethrough = true; gfm_task_list_item = true } }; first_of_item = true }) (codes "[x]   a") (piece 0 0 7 0 ∷ []) ≡ (enter Name.GfmTaskListItemCheck 1 1 0 0 ∷ exit Name.GfmTaskListItemCheck 1 4 3 0 ∷ enter Name.Data 1 4 3 0 ∷ exit Name.Data 1 8 7 0 ∷ [])) ×
    -- text gfm first «␠[x] a»: SpaceOrTab 0-1, Data 1-6
    (text_answer (record default { options = record default_options { constructs = record default_constructs { gfm_autolink_literal = true; gfm_label_start_footnote = true; gfm_strikethrough = true; gfm_task_list_item = true } }; first_of_item = true }) (codes " [x] a") (piece 0 0 6 0 ∷ []) ≡ (enter Name.SpaceOrTab 1 1 0 0 ∷ exit Name.SpaceOrTab 1 2 1 0 ∷ enter Name.Data 1 2 1 0 ∷ exit Name.Data 1 7 6 0 ∷ [])) ×
    -- text outer gfm first «[x] ␊a»: GfmTaskListItemCheck 0-3, SpaceOrTab 3-4, LineEnding 4-5, Data 5-6
    (text_outline (record default { options = record default_options { constructs = record default_constructs { gfm_autolink_literal = true; gfm_label_start_footnote = true; gfm_strikethrough = true; gfm_task_list_item = true } }; first_of_item = true }) (91 ∷ 120 ∷ 93 ∷ 32 ∷ 10 ∷ 97 ∷ []) (piece 0 0 6 0 ∷ []) ≡ (enter Name.GfmTaskListItemCheck 1 1 0 0 ∷ exit Name.GfmTaskListItemCheck 1 4 3 0 ∷ enter Name.SpaceOrTab 1 4 3 0 ∷ exit Name.SpaceOrTab 1 5 4 0 ∷ enter Name.LineEnding 1 5 4 0 ∷ exit Name.LineEnding 2 1 5 0 ∷ enter Name.Data 2 1 5 0 ∷ exit Name.Data 2 2 6 0 ∷ []))

abbrev pub Emphasis : Type 0
Emphasis =
    -- text «# Hi *Earth*!» 2-13: Data 2-5, Emphasis 5-12 [EmphasisSequence 5-6, EmphasisText 6-11 [Data 6-11], EmphasisSequence 11-12], Data 12-13
    (text_answer (default) (codes "# Hi *Earth*!") (piece 2 0 13 0 ∷ []) ≡ (enter Name.Data 1 3 2 0 ∷ exit Name.Data 1 6 5 0 ∷ enter Name.Emphasis 1 6 5 0 ∷ enter Name.EmphasisSequence 1 6 5 0 ∷ exit Name.EmphasisSequence 1 7 6 0 ∷ enter Name.EmphasisText 1 7 6 0 ∷ enter Name.Data 1 7 6 0 ∷ exit Name.Data 1 12 11 0 ∷ exit Name.EmphasisText 1 12 11 0 ∷ enter Name.EmphasisSequence 1 12 11 0 ∷ exit Name.EmphasisSequence 1 13 12 0 ∷ exit Name.Emphasis 1 13 12 0 ∷ enter Name.Data 1 13 12 0 ∷ exit Name.Data 1 14 13 0 ∷ [])) ×
    -- text «***a***»: Emphasis 0-7 [EmphasisSequence 0-1, EmphasisText 1-6 [Strong 1-6 [StrongSequence 1-3, StrongText 3-4 [Data 3-4], StrongSequence 4-6]], EmphasisSequence 6-7]
    (text_answer (default) (codes "***a***") (piece 0 0 7 0 ∷ []) ≡ (enter Name.Emphasis 1 1 0 0 ∷ enter Name.EmphasisSequence 1 1 0 0 ∷ exit Name.EmphasisSequence 1 2 1 0 ∷ enter Name.EmphasisText 1 2 1 0 ∷ enter Name.Strong 1 2 1 0 ∷ enter Name.StrongSequence 1 2 1 0 ∷ exit Name.StrongSequence 1 4 3 0 ∷ enter Name.StrongText 1 4 3 0 ∷ enter Name.Data 1 4 3 0 ∷ exit Name.Data 1 5 4 0 ∷ exit Name.StrongText 1 5 4 0 ∷ enter Name.StrongSequence 1 5 4 0 ∷ exit Name.StrongSequence 1 7 6 0 ∷ exit Name.Strong 1 7 6 0 ∷ exit Name.EmphasisText 1 7 6 0 ∷ enter Name.EmphasisSequence 1 7 6 0 ∷ exit Name.EmphasisSequence 1 8 7 0 ∷ exit Name.Emphasis 1 8 7 0 ∷ [])) ×
    -- text «*a**b*»: Emphasis 0-6 [EmphasisSequence 0-1, EmphasisText 1-5 [Data 1-5], EmphasisSequence 5-6]
    (text_answer (default) (codes "*a**b*") (piece 0 0 6 0 ∷ []) ≡ (enter Name.Emphasis 1 1 0 0 ∷ enter Name.EmphasisSequence 1 1 0 0 ∷ exit Name.EmphasisSequence 1 2 1 0 ∷ enter Name.EmphasisText 1 2 1 0 ∷ enter Name.Data 1 2 1 0 ∷ exit Name.Data 1 6 5 0 ∷ exit Name.EmphasisText 1 6 5 0 ∷ enter Name.EmphasisSequence 1 6 5 0 ∷ exit Name.EmphasisSequence 1 7 6 0 ∷ exit Name.Emphasis 1 7 6 0 ∷ [])) ×
    -- text «**a*»: Data 0-1, Emphasis 1-4 [EmphasisSequence 1-2, EmphasisText 2-3 [Data 2-3], EmphasisSequence 3-4]
    (text_answer (default) (codes "**a*") (piece 0 0 4 0 ∷ []) ≡ (enter Name.Data 1 1 0 0 ∷ exit Name.Data 1 2 1 0 ∷ enter Name.Emphasis 1 2 1 0 ∷ enter Name.EmphasisSequence 1 2 1 0 ∷ exit Name.EmphasisSequence 1 3 2 0 ∷ enter Name.EmphasisText 1 3 2 0 ∷ enter Name.Data 1 3 2 0 ∷ exit Name.Data 1 4 3 0 ∷ exit Name.EmphasisText 1 4 3 0 ∷ enter Name.EmphasisSequence 1 4 3 0 ∷ exit Name.EmphasisSequence 1 5 4 0 ∷ exit Name.Emphasis 1 5 4 0 ∷ [])) ×
    -- text «>*a␊>*» 1-4 5-6: Emphasis 1-6 [EmphasisSequence 1-2, EmphasisText 2-5 [Data 2-3, LineEnding 3-4], EmphasisSequence 5-6]
    (text_answer (default) (62 ∷ 42 ∷ 97 ∷ 10 ∷ 62 ∷ 42 ∷ []) (piece 1 0 4 0 ∷ piece 5 0 6 0 ∷ []) ≡ (enter Name.Emphasis 1 2 1 0 ∷ enter Name.EmphasisSequence 1 2 1 0 ∷ exit Name.EmphasisSequence 1 3 2 0 ∷ enter Name.EmphasisText 1 3 2 0 ∷ enter Name.Data 1 3 2 0 ∷ exit Name.Data 1 4 3 0 ∷ enter Name.LineEnding 1 4 3 0 ∷ exit Name.LineEnding 2 1 4 0 ∷ exit Name.EmphasisText 2 2 5 0 ∷ enter Name.EmphasisSequence 2 2 5 0 ∷ exit Name.EmphasisSequence 2 3 6 0 ∷ exit Name.Emphasis 2 3 6 0 ∷ [])) ×
    -- text «a*_b_*»: Data 0-1, Emphasis 1-6 [EmphasisSequence 1-2, EmphasisText 2-5 [Emphasis 2-5 [EmphasisSequence 2-3, EmphasisText 3-4 [Data 3-4], EmphasisSequence 4-5]], EmphasisSequence 5-6]
    (text_answer (default) (codes "a*_b_*") (piece 0 0 6 0 ∷ []) ≡ (enter Name.Data 1 1 0 0 ∷ exit Name.Data 1 2 1 0 ∷ enter Name.Emphasis 1 2 1 0 ∷ enter Name.EmphasisSequence 1 2 1 0 ∷ exit Name.EmphasisSequence 1 3 2 0 ∷ enter Name.EmphasisText 1 3 2 0 ∷ enter Name.Emphasis 1 3 2 0 ∷ enter Name.EmphasisSequence 1 3 2 0 ∷ exit Name.EmphasisSequence 1 4 3 0 ∷ enter Name.EmphasisText 1 4 3 0 ∷ enter Name.Data 1 4 3 0 ∷ exit Name.Data 1 5 4 0 ∷ exit Name.EmphasisText 1 5 4 0 ∷ enter Name.EmphasisSequence 1 5 4 0 ∷ exit Name.EmphasisSequence 1 6 5 0 ∷ exit Name.Emphasis 1 6 5 0 ∷ exit Name.EmphasisText 1 6 5 0 ∷ enter Name.EmphasisSequence 1 6 5 0 ∷ exit Name.EmphasisSequence 1 7 6 0 ∷ exit Name.Emphasis 1 7 6 0 ∷ [])) ×
    -- text «_a_b_»: Emphasis 0-5 [EmphasisSequence 0-1, EmphasisText 1-4 [Data 1-4], EmphasisSequence 4-5]
    (text_answer (default) (codes "_a_b_") (piece 0 0 5 0 ∷ []) ≡ (enter Name.Emphasis 1 1 0 0 ∷ enter Name.EmphasisSequence 1 1 0 0 ∷ exit Name.EmphasisSequence 1 2 1 0 ∷ enter Name.EmphasisText 1 2 1 0 ∷ enter Name.Data 1 2 1 0 ∷ exit Name.Data 1 5 4 0 ∷ exit Name.EmphasisText 1 5 4 0 ∷ enter Name.EmphasisSequence 1 5 4 0 ∷ exit Name.EmphasisSequence 1 6 5 0 ∷ exit Name.Emphasis 1 6 5 0 ∷ [])) ×
    -- text «*a _b* c_»: Emphasis 0-6 [EmphasisSequence 0-1, EmphasisText 1-5 [Data 1-5], EmphasisSequence 5-6], Data 6-9
    (text_answer (default) (codes "*a _b* c_") (piece 0 0 9 0 ∷ []) ≡ (enter Name.Emphasis 1 1 0 0 ∷ enter Name.EmphasisSequence 1 1 0 0 ∷ exit Name.EmphasisSequence 1 2 1 0 ∷ enter Name.EmphasisText 1 2 1 0 ∷ enter Name.Data 1 2 1 0 ∷ exit Name.Data 1 6 5 0 ∷ exit Name.EmphasisText 1 6 5 0 ∷ enter Name.EmphasisSequence 1 6 5 0 ∷ exit Name.EmphasisSequence 1 7 6 0 ∷ exit Name.Emphasis 1 7 6 0 ∷ enter Name.Data 1 7 6 0 ∷ exit Name.Data 1 10 9 0 ∷ [])) ×
    -- text «x*****a* b**»: Data 0-4, Strong 4-12 [StrongSequence 4-6, StrongText 6-10 [Data 6-10], StrongSequence 10-12]
    (text_answer (default) (codes "x*****a* b**") (piece 0 0 12 0 ∷ []) ≡ (enter Name.Data 1 1 0 0 ∷ exit Name.Data 1 5 4 0 ∷ enter Name.Strong 1 5 4 0 ∷ enter Name.StrongSequence 1 5 4 0 ∷ exit Name.StrongSequence 1 7 6 0 ∷ enter Name.StrongText 1 7 6 0 ∷ enter Name.Data 1 7 6 0 ∷ exit Name.Data 1 11 10 0 ∷ exit Name.StrongText 1 11 10 0 ∷ enter Name.StrongSequence 1 11 10 0 ∷ exit Name.StrongSequence 1 13 12 0 ∷ exit Name.Strong 1 13 12 0 ∷ [])) ×
    -- text outer gfm «~a~»: GfmStrikethrough 0-3
    (text_outline (record default { options = record default_options { constructs = record default_constructs { gfm_autolink_literal = true; gfm_label_start_footnote = true; gfm_strikethrough = true; gfm_task_list_item = true } } }) (codes "~a~") (piece 0 0 3 0 ∷ []) ≡ (enter Name.GfmStrikethrough 1 1 0 0 ∷ exit Name.GfmStrikethrough 1 4 3 0 ∷ [])) ×
    -- text outer gfm «~~a~~»: GfmStrikethrough 0-5
    (text_outline (record default { options = record default_options { constructs = record default_constructs { gfm_autolink_literal = true; gfm_label_start_footnote = true; gfm_strikethrough = true; gfm_task_list_item = true } } }) (codes "~~a~~") (piece 0 0 5 0 ∷ []) ≡ (enter Name.GfmStrikethrough 1 1 0 0 ∷ exit Name.GfmStrikethrough 1 6 5 0 ∷ [])) ×
    -- text gfm no-single-tilde «~a~»: Data 0-3
    (text_answer (record default { options = record default_options { constructs = record default_constructs { gfm_autolink_literal = true; gfm_label_start_footnote = true; gfm_strikethrough = true; gfm_task_list_item = true }; gfm_strikethrough_single_tilde = false } }) (codes "~a~") (piece 0 0 3 0 ∷ []) ≡ (enter Name.Data 1 1 0 0 ∷ exit Name.Data 1 4 3 0 ∷ [])) ×
    -- text gfm «~~~a~~~»: Data 0-7
    (text_answer (record default { options = record default_options { constructs = record default_constructs { gfm_autolink_literal = true; gfm_label_start_footnote = true; gfm_strikethrough = true; gfm_task_list_item = true } } }) (codes "~~~a~~~") (piece 0 0 7 0 ∷ []) ≡ (enter Name.Data 1 1 0 0 ∷ exit Name.Data 1 8 7 0 ∷ [])) ×
    -- text gfm «~~a~»: Data 0-4
    (text_answer (record default { options = record default_options { constructs = record default_constructs { gfm_autolink_literal = true; gfm_label_start_footnote = true; gfm_strikethrough = true; gfm_task_list_item = true } } }) (codes "~~a~") (piece 0 0 4 0 ∷ []) ≡ (enter Name.Data 1 1 0 0 ∷ exit Name.Data 1 5 4 0 ∷ [])) ×
    -- text «x*****a* b** c*»: Data 0-3, Emphasis 3-15 [EmphasisSequence 3-4, EmphasisText 4-14 [Strong 4-12 [StrongSequence 4-6, StrongText 6-10 [Data 6-10], StrongSequence 10-12], Data 12-14], EmphasisSequence 14-15]
    (text_answer (default) (codes "x*****a* b** c*") (piece 0 0 15 0 ∷ []) ≡ (enter Name.Data 1 1 0 0 ∷ exit Name.Data 1 4 3 0 ∷ enter Name.Emphasis 1 4 3 0 ∷ enter Name.EmphasisSequence 1 4 3 0 ∷ exit Name.EmphasisSequence 1 5 4 0 ∷ enter Name.EmphasisText 1 5 4 0 ∷ enter Name.Strong 1 5 4 0 ∷ enter Name.StrongSequence 1 5 4 0 ∷ exit Name.StrongSequence 1 7 6 0 ∷ enter Name.StrongText 1 7 6 0 ∷ enter Name.Data 1 7 6 0 ∷ exit Name.Data 1 11 10 0 ∷ exit Name.StrongText 1 11 10 0 ∷ enter Name.StrongSequence 1 11 10 0 ∷ exit Name.StrongSequence 1 13 12 0 ∷ exit Name.Strong 1 13 12 0 ∷ enter Name.Data 1 13 12 0 ∷ exit Name.Data 1 15 14 0 ∷ exit Name.EmphasisText 1 15 14 0 ∷ enter Name.EmphasisSequence 1 15 14 0 ∷ exit Name.EmphasisSequence 1 16 15 0 ∷ exit Name.Emphasis 1 16 15 0 ∷ [])) ×
    -- text outer «x***a* b*»: Data 0-3, Emphasis 3-6, Data 6-9
    (text_outline (default) (codes "x***a* b*") (piece 0 0 9 0 ∷ []) ≡ (enter Name.Data 1 1 0 0 ∷ exit Name.Data 1 4 3 0 ∷ enter Name.Emphasis 1 4 3 0 ∷ exit Name.Emphasis 1 7 6 0 ∷ enter Name.Data 1 7 6 0 ∷ exit Name.Data 1 10 9 0 ∷ [])) ×
    -- text lengths «x***a* b*»: Data 0-2, Emphasis 2-9 [EmphasisSequence 2-3, EmphasisText 3-8 [Emphasis 3-6 [EmphasisSequence 3-4, EmphasisText 4-5 [Data 4-5], EmphasisSequence 5-6], Data 6-8], EmphasisSequence 8-9]
    (text_answer (record default { options = record default_options { attention_first_lengths = true } }) (codes "x***a* b*") (piece 0 0 9 0 ∷ []) ≡ (enter Name.Data 1 1 0 0 ∷ exit Name.Data 1 3 2 0 ∷ enter Name.Emphasis 1 3 2 0 ∷ enter Name.EmphasisSequence 1 3 2 0 ∷ exit Name.EmphasisSequence 1 4 3 0 ∷ enter Name.EmphasisText 1 4 3 0 ∷ enter Name.Emphasis 1 4 3 0 ∷ enter Name.EmphasisSequence 1 4 3 0 ∷ exit Name.EmphasisSequence 1 5 4 0 ∷ enter Name.EmphasisText 1 5 4 0 ∷ enter Name.Data 1 5 4 0 ∷ exit Name.Data 1 6 5 0 ∷ exit Name.EmphasisText 1 6 5 0 ∷ enter Name.EmphasisSequence 1 6 5 0 ∷ exit Name.EmphasisSequence 1 7 6 0 ∷ exit Name.Emphasis 1 7 6 0 ∷ enter Name.Data 1 7 6 0 ∷ exit Name.Data 1 9 8 0 ∷ exit Name.EmphasisText 1 9 8 0 ∷ enter Name.EmphasisSequence 1 9 8 0 ∷ exit Name.EmphasisSequence 1 10 9 0 ∷ exit Name.Emphasis 1 10 9 0 ∷ [])) ×
    -- text «x*****a** b*»: Data 0-3, Emphasis 3-12 [EmphasisSequence 3-4, EmphasisText 4-11 [Strong 4-9 [StrongSequence 4-6, StrongText 6-7 [Data 6-7], StrongSequence 7-9], Data 9-11], EmphasisSequence 11-12]
    (text_answer (default) (codes "x*****a** b*") (piece 0 0 12 0 ∷ []) ≡ (enter Name.Data 1 1 0 0 ∷ exit Name.Data 1 4 3 0 ∷ enter Name.Emphasis 1 4 3 0 ∷ enter Name.EmphasisSequence 1 4 3 0 ∷ exit Name.EmphasisSequence 1 5 4 0 ∷ enter Name.EmphasisText 1 5 4 0 ∷ enter Name.Strong 1 5 4 0 ∷ enter Name.StrongSequence 1 5 4 0 ∷ exit Name.StrongSequence 1 7 6 0 ∷ enter Name.StrongText 1 7 6 0 ∷ enter Name.Data 1 7 6 0 ∷ exit Name.Data 1 8 7 0 ∷ exit Name.StrongText 1 8 7 0 ∷ enter Name.StrongSequence 1 8 7 0 ∷ exit Name.StrongSequence 1 10 9 0 ∷ exit Name.Strong 1 10 9 0 ∷ enter Name.Data 1 10 9 0 ∷ exit Name.Data 1 12 11 0 ∷ exit Name.EmphasisText 1 12 11 0 ∷ enter Name.EmphasisSequence 1 12 11 0 ∷ exit Name.EmphasisSequence 1 13 12 0 ∷ exit Name.Emphasis 1 13 12 0 ∷ [])) ×
    -- text outer lengths «x*****a** b*»: Data 0-4, Strong 4-9, Data 9-12
    (text_outline (record default { options = record default_options { attention_first_lengths = true } }) (codes "x*****a** b*") (piece 0 0 12 0 ∷ []) ≡ (enter Name.Data 1 1 0 0 ∷ exit Name.Data 1 5 4 0 ∷ enter Name.Strong 1 5 4 0 ∷ exit Name.Strong 1 10 9 0 ∷ enter Name.Data 1 10 9 0 ∷ exit Name.Data 1 13 12 0 ∷ [])) ×
    -- text outer lengths «x*****a* b**»: Data 0-4, Strong 4-12
    (text_outline (record default { options = record default_options { attention_first_lengths = true } }) (codes "x*****a* b**") (piece 0 0 12 0 ∷ []) ≡ (enter Name.Data 1 1 0 0 ∷ exit Name.Data 1 5 4 0 ∷ enter Name.Strong 1 5 4 0 ∷ exit Name.Strong 1 13 12 0 ∷ [])) ×
    -- counts «a*_b_*»: 4 2 24
    (counts_answer (default) (codes "a*_b_*") (piece 0 0 6 0 ∷ []) ≡ (4 ∷ 2 ∷ 24 ∷ [])) ×
    -- counts «*a**b*»: 3 1 12
    (counts_answer (default) (codes "*a**b*") (piece 0 0 6 0 ∷ []) ≡ (3 ∷ 1 ∷ 12 ∷ [])) ×
    -- counts «_a_b_»: 3 1 12
    (counts_answer (default) (codes "_a_b_") (piece 0 0 5 0 ∷ []) ≡ (3 ∷ 1 ∷ 12 ∷ [])) ×
    -- counts «*a _b* c_»: 4 1 20
    (counts_answer (default) (codes "*a _b* c_") (piece 0 0 9 0 ∷ []) ≡ (4 ∷ 1 ∷ 20 ∷ [])) ×
    -- counts «x*****a* b**»: 3 1 12
    (counts_answer (default) (codes "x*****a* b**") (piece 0 0 12 0 ∷ []) ≡ (3 ∷ 1 ∷ 12 ∷ [])) ×
    -- counts gfm «~a~»: 2 1 6
    (counts_answer (record default { options = record default_options { constructs = record default_constructs { gfm_autolink_literal = true; gfm_label_start_footnote = true; gfm_strikethrough = true; gfm_task_list_item = true } } }) (codes "~a~") (piece 0 0 3 0 ∷ []) ≡ (2 ∷ 1 ∷ 6 ∷ [])) ×
    -- counts gfm «~~a~~»: 2 1 6
    (counts_answer (record default { options = record default_options { constructs = record default_constructs { gfm_autolink_literal = true; gfm_label_start_footnote = true; gfm_strikethrough = true; gfm_task_list_item = true } } }) (codes "~~a~~") (piece 0 0 5 0 ∷ []) ≡ (2 ∷ 1 ∷ 6 ∷ [])) ×
    -- counts gfm no-single-tilde «~a~»: 2 0 4
    (counts_answer (record default { options = record default_options { constructs = record default_constructs { gfm_autolink_literal = true; gfm_label_start_footnote = true; gfm_strikethrough = true; gfm_task_list_item = true }; gfm_strikethrough_single_tilde = false } }) (codes "~a~") (piece 0 0 3 0 ∷ []) ≡ (2 ∷ 0 ∷ 4 ∷ [])) ×
    -- counts gfm «~~~a~~~»: 2 0 4
    (counts_answer (record default { options = record default_options { constructs = record default_constructs { gfm_autolink_literal = true; gfm_label_start_footnote = true; gfm_strikethrough = true; gfm_task_list_item = true } } }) (codes "~~~a~~~") (piece 0 0 7 0 ∷ []) ≡ (2 ∷ 0 ∷ 4 ∷ [])) ×
    -- counts gfm «~~a~»: 2 0 4
    (counts_answer (record default { options = record default_options { constructs = record default_constructs { gfm_autolink_literal = true; gfm_label_start_footnote = true; gfm_strikethrough = true; gfm_task_list_item = true } } }) (codes "~~a~") (piece 0 0 4 0 ∷ []) ≡ (2 ∷ 0 ∷ 4 ∷ [])) ×
    -- counts «*a [*b*](c) d*»: 4 2 24
    (counts_answer (default) (codes "*a [*b*](c) d*") (piece 0 0 14 0 ∷ []) ≡ (4 ∷ 2 ∷ 24 ∷ [])) ×
    -- text «_a_b» 0-3: Data 0-3
    (text_answer (default) (codes "_a_b") (piece 0 0 3 0 ∷ []) ≡ (enter Name.Data 1 1 0 0 ∷ exit Name.Data 1 4 3 0 ∷ [])) ×
    -- text «a*~b~*»: Data 0-6
    (text_answer (default) (codes "a*~b~*") (piece 0 0 6 0 ∷ []) ≡ (enter Name.Data 1 1 0 0 ∷ exit Name.Data 1 7 6 0 ∷ [])) ×
    -- text gfm «a*~b~*»: Data 0-1, Emphasis 1-6 [EmphasisSequence 1-2, EmphasisText 2-5 [GfmStrikethrough 2-5 [GfmStrikethroughSequence 2-3, GfmStrikethroughText 3-4 [Data 3-4], GfmStrikethroughSequence 4-5]], EmphasisSequence 5-6]
    (text_answer (record default { options = record default_options { constructs = record default_constructs { gfm_autolink_literal = true; gfm_label_start_footnote = true; gfm_strikethrough = true; gfm_task_list_item = true } } }) (codes "a*~b~*") (piece 0 0 6 0 ∷ []) ≡ (enter Name.Data 1 1 0 0 ∷ exit Name.Data 1 2 1 0 ∷ enter Name.Emphasis 1 2 1 0 ∷ enter Name.EmphasisSequence 1 2 1 0 ∷ exit Name.EmphasisSequence 1 3 2 0 ∷ enter Name.EmphasisText 1 3 2 0 ∷ enter Name.GfmStrikethrough 1 3 2 0 ∷ enter Name.GfmStrikethroughSequence 1 3 2 0 ∷ exit Name.GfmStrikethroughSequence 1 4 3 0 ∷ enter Name.GfmStrikethroughText 1 4 3 0 ∷ enter Name.Data 1 4 3 0 ∷ exit Name.Data 1 5 4 0 ∷ exit Name.GfmStrikethroughText 1 5 4 0 ∷ enter Name.GfmStrikethroughSequence 1 5 4 0 ∷ exit Name.GfmStrikethroughSequence 1 6 5 0 ∷ exit Name.GfmStrikethrough 1 6 5 0 ∷ exit Name.EmphasisText 1 6 5 0 ∷ enter Name.EmphasisSequence 1 6 5 0 ∷ exit Name.EmphasisSequence 1 7 6 0 ∷ exit Name.Emphasis 1 7 6 0 ∷ [])) ×
    -- text outer gfm «a~*b*~»: Data 0-2, Emphasis 2-5, Data 5-6
    (text_outline (record default { options = record default_options { constructs = record default_constructs { gfm_autolink_literal = true; gfm_label_start_footnote = true; gfm_strikethrough = true; gfm_task_list_item = true } } }) (codes "a~*b*~") (piece 0 0 6 0 ∷ []) ≡ (enter Name.Data 1 1 0 0 ∷ exit Name.Data 1 3 2 0 ∷ enter Name.Emphasis 1 3 2 0 ∷ exit Name.Emphasis 1 6 5 0 ∷ enter Name.Data 1 6 5 0 ∷ exit Name.Data 1 7 6 0 ∷ [])) ×
    -- text «a*"b"*»: Data 0-6
    (text_answer (default) (codes "a*\"b\"*") (piece 0 0 6 0 ∷ []) ≡ (enter Name.Data 1 1 0 0 ∷ exit Name.Data 1 7 6 0 ∷ [])) ×
    -- text «*.[***~»: Emphasis 0-4 [EmphasisSequence 0-1, EmphasisText 1-3 [Data 1-3], EmphasisSequence 3-4], Data 4-7
    (text_answer (default) (codes "*.[***~") (piece 0 0 7 0 ∷ []) ≡ (enter Name.Emphasis 1 1 0 0 ∷ enter Name.EmphasisSequence 1 1 0 0 ∷ exit Name.EmphasisSequence 1 2 1 0 ∷ enter Name.EmphasisText 1 2 1 0 ∷ enter Name.Data 1 2 1 0 ∷ exit Name.Data 1 4 3 0 ∷ exit Name.EmphasisText 1 4 3 0 ∷ enter Name.EmphasisSequence 1 4 3 0 ∷ exit Name.EmphasisSequence 1 5 4 0 ∷ exit Name.Emphasis 1 5 4 0 ∷ enter Name.Data 1 5 4 0 ∷ exit Name.Data 1 8 7 0 ∷ [])) ×
    -- text «*a *b*»: Data 0-3, Emphasis 3-6 [EmphasisSequence 3-4, EmphasisText 4-5 [Data 4-5], EmphasisSequence 5-6]
    (text_answer (default) (codes "*a *b*") (piece 0 0 6 0 ∷ []) ≡ (enter Name.Data 1 1 0 0 ∷ exit Name.Data 1 4 3 0 ∷ enter Name.Emphasis 1 4 3 0 ∷ enter Name.EmphasisSequence 1 4 3 0 ∷ exit Name.EmphasisSequence 1 5 4 0 ∷ enter Name.EmphasisText 1 5 4 0 ∷ enter Name.Data 1 5 4 0 ∷ exit Name.Data 1 6 5 0 ∷ exit Name.EmphasisText 1 6 5 0 ∷ enter Name.EmphasisSequence 1 6 5 0 ∷ exit Name.EmphasisSequence 1 7 6 0 ∷ exit Name.Emphasis 1 7 6 0 ∷ [])) ×
    -- text «a***b***»: Data 0-1, Emphasis 1-8 [EmphasisSequence 1-2, EmphasisText 2-7 [Strong 2-7 [StrongSequence 2-4, StrongText 4-5 [Data 4-5], StrongSequence 5-7]], EmphasisSequence 7-8]
    (text_answer (default) (codes "a***b***") (piece 0 0 8 0 ∷ []) ≡ (enter Name.Data 1 1 0 0 ∷ exit Name.Data 1 2 1 0 ∷ enter Name.Emphasis 1 2 1 0 ∷ enter Name.EmphasisSequence 1 2 1 0 ∷ exit Name.EmphasisSequence 1 3 2 0 ∷ enter Name.EmphasisText 1 3 2 0 ∷ enter Name.Strong 1 3 2 0 ∷ enter Name.StrongSequence 1 3 2 0 ∷ exit Name.StrongSequence 1 5 4 0 ∷ enter Name.StrongText 1 5 4 0 ∷ enter Name.Data 1 5 4 0 ∷ exit Name.Data 1 6 5 0 ∷ exit Name.StrongText 1 6 5 0 ∷ enter Name.StrongSequence 1 6 5 0 ∷ exit Name.StrongSequence 1 8 7 0 ∷ exit Name.Strong 1 8 7 0 ∷ exit Name.EmphasisText 1 8 7 0 ∷ enter Name.EmphasisSequence 1 8 7 0 ∷ exit Name.EmphasisSequence 1 9 8 0 ∷ exit Name.Emphasis 1 9 8 0 ∷ [])) ×
    -- text gfm lengths «~~~a~»: Data 0-5
    (text_answer (record default { options = record default_options { constructs = record default_constructs { gfm_autolink_literal = true; gfm_label_start_footnote = true; gfm_strikethrough = true; gfm_task_list_item = true }; attention_first_lengths = true } }) (codes "~~~a~") (piece 0 0 5 0 ∷ []) ≡ (enter Name.Data 1 1 0 0 ∷ exit Name.Data 1 6 5 0 ∷ [])) ×
    -- text outer «*a\**b»: Emphasis 0-5, Data 5-6
    (text_outline (default) (codes "*a\\**b") (piece 0 0 6 0 ∷ []) ≡ (enter Name.Emphasis 1 1 0 0 ∷ exit Name.Emphasis 1 6 5 0 ∷ enter Name.Data 1 6 5 0 ∷ exit Name.Data 1 7 6 0 ∷ [])) ×
    -- text outer «a*\_b*»: Data 0-2, CharacterEscape 2-4, Data 4-6
    (text_outline (default) (codes "a*\\_b*") (piece 0 0 6 0 ∷ []) ≡ (enter Name.Data 1 1 0 0 ∷ exit Name.Data 1 3 2 0 ∷ enter Name.CharacterEscape 1 3 2 0 ∷ exit Name.CharacterEscape 1 5 4 0 ∷ enter Name.Data 1 5 4 0 ∷ exit Name.Data 1 7 6 0 ∷ [])) ×
    -- text outer «*a\_*b»: Emphasis 0-5, Data 5-6
    (text_outline (default) (codes "*a\\_*b") (piece 0 0 6 0 ∷ []) ≡ (enter Name.Emphasis 1 1 0 0 ∷ exit Name.Emphasis 1 6 5 0 ∷ enter Name.Data 1 6 5 0 ∷ exit Name.Data 1 7 6 0 ∷ [])) ×
    -- text «*"a"*»: Emphasis 0-5 [EmphasisSequence 0-1, EmphasisText 1-4 [Data 1-4], EmphasisSequence 4-5]
    (text_answer (default) (codes "*\"a\"*") (piece 0 0 5 0 ∷ []) ≡ (enter Name.Emphasis 1 1 0 0 ∷ enter Name.EmphasisSequence 1 1 0 0 ∷ exit Name.EmphasisSequence 1 2 1 0 ∷ enter Name.EmphasisText 1 2 1 0 ∷ enter Name.Data 1 2 1 0 ∷ exit Name.Data 1 5 4 0 ∷ exit Name.EmphasisText 1 5 4 0 ∷ enter Name.EmphasisSequence 1 5 4 0 ∷ exit Name.EmphasisSequence 1 6 5 0 ∷ exit Name.Emphasis 1 6 5 0 ∷ [])) ×
    -- text «"_"a"_"»: Data 0-1, Emphasis 1-6 [EmphasisSequence 1-2, EmphasisText 2-5 [Data 2-5], EmphasisSequence 5-6], Data 6-7
    (text_answer (default) (codes "\"_\"a\"_\"") (piece 0 0 7 0 ∷ []) ≡ (enter Name.Data 1 1 0 0 ∷ exit Name.Data 1 2 1 0 ∷ enter Name.Emphasis 1 2 1 0 ∷ enter Name.EmphasisSequence 1 2 1 0 ∷ exit Name.EmphasisSequence 1 3 2 0 ∷ enter Name.EmphasisText 1 3 2 0 ∷ enter Name.Data 1 3 2 0 ∷ exit Name.Data 1 6 5 0 ∷ exit Name.EmphasisText 1 6 5 0 ∷ enter Name.EmphasisSequence 1 6 5 0 ∷ exit Name.EmphasisSequence 1 7 6 0 ∷ exit Name.Emphasis 1 7 6 0 ∷ enter Name.Data 1 7 6 0 ∷ exit Name.Data 1 8 7 0 ∷ [])) ×
    -- text outer «_a_, _b_»: Emphasis 0-3, Data 3-5, Emphasis 5-8
    (text_outline (default) (codes "_a_, _b_") (piece 0 0 8 0 ∷ []) ≡ (enter Name.Emphasis 1 1 0 0 ∷ exit Name.Emphasis 1 4 3 0 ∷ enter Name.Data 1 4 3 0 ∷ exit Name.Data 1 6 5 0 ∷ enter Name.Emphasis 1 6 5 0 ∷ exit Name.Emphasis 1 9 8 0 ∷ [])) ×
    -- text «a_b_»: Data 0-4
    (text_answer (default) (codes "a_b_") (piece 0 0 4 0 ∷ []) ≡ (enter Name.Data 1 1 0 0 ∷ exit Name.Data 1 5 4 0 ∷ [])) ×
    -- text «_a_b»: Data 0-4
    (text_answer (default) (codes "_a_b") (piece 0 0 4 0 ∷ []) ≡ (enter Name.Data 1 1 0 0 ∷ exit Name.Data 1 5 4 0 ∷ [])) ×
    -- text outer «a*b*c»: Data 0-1, Emphasis 1-4, Data 4-5
    (text_outline (default) (codes "a*b*c") (piece 0 0 5 0 ∷ []) ≡ (enter Name.Data 1 1 0 0 ∷ exit Name.Data 1 2 1 0 ∷ enter Name.Emphasis 1 2 1 0 ∷ exit Name.Emphasis 1 5 4 0 ∷ enter Name.Data 1 5 4 0 ∷ exit Name.Data 1 6 5 0 ∷ [])) ×
    -- text «* a*»: Data 0-4
    (text_answer (default) (codes "* a*") (piece 0 0 4 0 ∷ []) ≡ (enter Name.Data 1 1 0 0 ∷ exit Name.Data 1 5 4 0 ∷ [])) ×
    -- text «*a *»: Data 0-4
    (text_answer (default) (codes "*a *") (piece 0 0 4 0 ∷ []) ≡ (enter Name.Data 1 1 0 0 ∷ exit Name.Data 1 5 4 0 ∷ [])) ×
    -- text «** a**»: Data 0-6
    (text_answer (default) (codes "** a**") (piece 0 0 6 0 ∷ []) ≡ (enter Name.Data 1 1 0 0 ∷ exit Name.Data 1 7 6 0 ∷ [])) ×
    -- text «*⟦U+00A0⟧a*»: Data 0-5
    (text_answer (default) (42 ∷ 194 ∷ 160 ∷ 97 ∷ 42 ∷ []) (piece 0 0 5 0 ∷ []) ≡ (enter Name.Data 1 1 0 0 ∷ exit Name.Data 1 6 5 0 ∷ [])) ×
    -- text «a*€b*»: Data 0-7
    (text_answer (default) (97 ∷ 42 ∷ 226 ∷ 130 ∷ 172 ∷ 98 ∷ 42 ∷ []) (piece 0 0 7 0 ∷ []) ≡ (enter Name.Data 1 1 0 0 ∷ exit Name.Data 1 8 7 0 ∷ [])) ×
    -- text outer «a*éb*»: Data 0-1, Emphasis 1-6
    (text_outline (default) (97 ∷ 42 ∷ 195 ∷ 169 ∷ 98 ∷ 42 ∷ []) (piece 0 0 6 0 ∷ []) ≡ (enter Name.Data 1 1 0 0 ∷ exit Name.Data 1 2 1 0 ∷ enter Name.Emphasis 1 2 1 0 ∷ exit Name.Emphasis 1 7 6 0 ∷ [])) ×
    -- text outer «a*⟦U+0001⟧*»: Data 0-1, Emphasis 1-4
    (text_outline (default) (97 ∷ 42 ∷ 1 ∷ 42 ∷ []) (piece 0 0 4 0 ∷ []) ≡ (enter Name.Data 1 1 0 0 ∷ exit Name.Data 1 2 1 0 ∷ enter Name.Emphasis 1 2 1 0 ∷ exit Name.Emphasis 1 5 4 0 ∷ [])) ×
    -- text «*a_»: Data 0-3
    (text_answer (default) (codes "*a_") (piece 0 0 3 0 ∷ []) ≡ (enter Name.Data 1 1 0 0 ∷ exit Name.Data 1 4 3 0 ∷ [])) ×
    -- text outer «*a* b*»: Emphasis 0-3, Data 3-6
    (text_outline (default) (codes "*a* b*") (piece 0 0 6 0 ∷ []) ≡ (enter Name.Emphasis 1 1 0 0 ∷ exit Name.Emphasis 1 4 3 0 ∷ enter Name.Data 1 4 3 0 ∷ exit Name.Data 1 7 6 0 ∷ [])) ×
    -- text outer «*a***b**»: Emphasis 0-3, Strong 3-8
    (text_outline (default) (codes "*a***b**") (piece 0 0 8 0 ∷ []) ≡ (enter Name.Emphasis 1 1 0 0 ∷ exit Name.Emphasis 1 4 3 0 ∷ enter Name.Strong 1 4 3 0 ∷ exit Name.Strong 1 9 8 0 ∷ [])) ×
    -- text «x**a b*»: Data 0-7
    (text_answer (default) (codes "x**a b*") (piece 0 0 7 0 ∷ []) ≡ (enter Name.Data 1 1 0 0 ∷ exit Name.Data 1 8 7 0 ∷ [])) ×
    -- text «**a*b»: Data 0-5
    (text_answer (default) (codes "**a*b") (piece 0 0 5 0 ∷ []) ≡ (enter Name.Data 1 1 0 0 ∷ exit Name.Data 1 6 5 0 ∷ [])) ×
    -- text «***a* b**»: Strong 0-9 [StrongSequence 0-2, StrongText 2-7 [Emphasis 2-5 [EmphasisSequence 2-3, EmphasisText 3-4 [Data 3-4], EmphasisSequence 4-5], Data 5-7], StrongSequence 7-9]
    (text_answer (default) (codes "***a* b**") (piece 0 0 9 0 ∷ []) ≡ (enter Name.Strong 1 1 0 0 ∷ enter Name.StrongSequence 1 1 0 0 ∷ exit Name.StrongSequence 1 3 2 0 ∷ enter Name.StrongText 1 3 2 0 ∷ enter Name.Emphasis 1 3 2 0 ∷ enter Name.EmphasisSequence 1 3 2 0 ∷ exit Name.EmphasisSequence 1 4 3 0 ∷ enter Name.EmphasisText 1 4 3 0 ∷ enter Name.Data 1 4 3 0 ∷ exit Name.Data 1 5 4 0 ∷ exit Name.EmphasisText 1 5 4 0 ∷ enter Name.EmphasisSequence 1 5 4 0 ∷ exit Name.EmphasisSequence 1 6 5 0 ∷ exit Name.Emphasis 1 6 5 0 ∷ enter Name.Data 1 6 5 0 ∷ exit Name.Data 1 8 7 0 ∷ exit Name.StrongText 1 8 7 0 ∷ enter Name.StrongSequence 1 8 7 0 ∷ exit Name.StrongSequence 1 10 9 0 ∷ exit Name.Strong 1 10 9 0 ∷ [])) ×
    -- text «**a *b***»: Strong 0-9 [StrongSequence 0-2, StrongText 2-7 [Data 2-4, Emphasis 4-7 [EmphasisSequence 4-5, EmphasisText 5-6 [Data 5-6], EmphasisSequence 6-7]], StrongSequence 7-9]
    (text_answer (default) (codes "**a *b***") (piece 0 0 9 0 ∷ []) ≡ (enter Name.Strong 1 1 0 0 ∷ enter Name.StrongSequence 1 1 0 0 ∷ exit Name.StrongSequence 1 3 2 0 ∷ enter Name.StrongText 1 3 2 0 ∷ enter Name.Data 1 3 2 0 ∷ exit Name.Data 1 5 4 0 ∷ enter Name.Emphasis 1 5 4 0 ∷ enter Name.EmphasisSequence 1 5 4 0 ∷ exit Name.EmphasisSequence 1 6 5 0 ∷ enter Name.EmphasisText 1 6 5 0 ∷ enter Name.Data 1 6 5 0 ∷ exit Name.Data 1 7 6 0 ∷ exit Name.EmphasisText 1 7 6 0 ∷ enter Name.EmphasisSequence 1 7 6 0 ∷ exit Name.EmphasisSequence 1 8 7 0 ∷ exit Name.Emphasis 1 8 7 0 ∷ exit Name.StrongText 1 8 7 0 ∷ enter Name.StrongSequence 1 8 7 0 ∷ exit Name.StrongSequence 1 10 9 0 ∷ exit Name.Strong 1 10 9 0 ∷ [])) ×
    -- text outer «*a****b*»: Emphasis 0-3, Data 3-5, Emphasis 5-8
    (text_outline (default) (codes "*a****b*") (piece 0 0 8 0 ∷ []) ≡ (enter Name.Emphasis 1 1 0 0 ∷ exit Name.Emphasis 1 4 3 0 ∷ enter Name.Data 1 4 3 0 ∷ exit Name.Data 1 6 5 0 ∷ enter Name.Emphasis 1 6 5 0 ∷ exit Name.Emphasis 1 9 8 0 ∷ [])) ×
    -- text outer «******a******»: Strong 0-13
    (text_outline (default) (codes "******a******") (piece 0 0 13 0 ∷ []) ≡ (enter Name.Strong 1 1 0 0 ∷ exit Name.Strong 1 14 13 0 ∷ [])) ×
    -- text outer «*a**b**c*»: Emphasis 0-9
    (text_outline (default) (codes "*a**b**c*") (piece 0 0 9 0 ∷ []) ≡ (enter Name.Emphasis 1 1 0 0 ∷ exit Name.Emphasis 1 10 9 0 ∷ [])) ×
    -- text outer gfm «~a~~b~~c~»: GfmStrikethrough 0-9
    (text_outline (record default { options = record default_options { constructs = record default_constructs { gfm_autolink_literal = true; gfm_label_start_footnote = true; gfm_strikethrough = true; gfm_task_list_item = true } } }) (codes "~a~~b~~c~") (piece 0 0 9 0 ∷ []) ≡ (enter Name.GfmStrikethrough 1 1 0 0 ∷ exit Name.GfmStrikethrough 1 10 9 0 ∷ [])) ×
    -- text outer gfm «~~a ~~b~~»: Data 0-4, GfmStrikethrough 4-9
    (text_outline (record default { options = record default_options { constructs = record default_constructs { gfm_autolink_literal = true; gfm_label_start_footnote = true; gfm_strikethrough = true; gfm_task_list_item = true } } }) (codes "~~a ~~b~~") (piece 0 0 9 0 ∷ []) ≡ (enter Name.Data 1 1 0 0 ∷ exit Name.Data 1 5 4 0 ∷ enter Name.GfmStrikethrough 1 5 4 0 ∷ exit Name.GfmStrikethrough 1 10 9 0 ∷ [])) ×
    -- text gfm «~a~~»: Data 0-4
    (text_answer (record default { options = record default_options { constructs = record default_constructs { gfm_autolink_literal = true; gfm_label_start_footnote = true; gfm_strikethrough = true; gfm_task_list_item = true } } }) (codes "~a~~") (piece 0 0 4 0 ∷ []) ≡ (enter Name.Data 1 1 0 0 ∷ exit Name.Data 1 5 4 0 ∷ [])) ×
    -- text outer gfm «a~b~»: Data 0-1, GfmStrikethrough 1-4
    (text_outline (record default { options = record default_options { constructs = record default_constructs { gfm_autolink_literal = true; gfm_label_start_footnote = true; gfm_strikethrough = true; gfm_task_list_item = true } } }) (codes "a~b~") (piece 0 0 4 0 ∷ []) ≡ (enter Name.Data 1 1 0 0 ∷ exit Name.Data 1 2 1 0 ∷ enter Name.GfmStrikethrough 1 2 1 0 ∷ exit Name.GfmStrikethrough 1 5 4 0 ∷ [])) ×
    -- text outer «[*a](b)*»: Link 0-7, Data 7-8
    (text_outline (default) (codes "[*a](b)*") (piece 0 0 8 0 ∷ []) ≡ (enter Name.Link 1 1 0 0 ∷ exit Name.Link 1 8 7 0 ∷ enter Name.Data 1 8 7 0 ∷ exit Name.Data 1 9 8 0 ∷ [])) ×
    -- counts «******a******»: 2 3 10
    (counts_answer (default) (codes "******a******") (piece 0 0 13 0 ∷ []) ≡ (2 ∷ 3 ∷ 10 ∷ [])) ×
    -- looks «*a*b c*»: 2 2 22
    (looks_answer (default) (codes "*a*b c*") (piece 0 0 7 0 ∷ []) ≡ (2 ∷ 2 ∷ 22 ∷ [])) ×
    -- looks «*a [*b*](c) d*»: 2 2 30
    (looks_answer (default) (codes "*a [*b*](c) d*") (piece 0 0 14 0 ∷ []) ≡ (2 ∷ 2 ∷ 30 ∷ [])) ×
    -- text lengths «***a***b»: Emphasis 0-7 [EmphasisSequence 0-1, EmphasisText 1-6 [Strong 1-6 [StrongSequence 1-3, StrongText 3-4 [Data 3-4], StrongSequence 4-6]], EmphasisSequence 6-7], Data 7-8
    (text_answer (record default { options = record default_options { attention_first_lengths = true } }) (codes "***a***b") (piece 0 0 8 0 ∷ []) ≡ (enter Name.Emphasis 1 1 0 0 ∷ enter Name.EmphasisSequence 1 1 0 0 ∷ exit Name.EmphasisSequence 1 2 1 0 ∷ enter Name.EmphasisText 1 2 1 0 ∷ enter Name.Strong 1 2 1 0 ∷ enter Name.StrongSequence 1 2 1 0 ∷ exit Name.StrongSequence 1 4 3 0 ∷ enter Name.StrongText 1 4 3 0 ∷ enter Name.Data 1 4 3 0 ∷ exit Name.Data 1 5 4 0 ∷ exit Name.StrongText 1 5 4 0 ∷ enter Name.StrongSequence 1 5 4 0 ∷ exit Name.StrongSequence 1 7 6 0 ∷ exit Name.Strong 1 7 6 0 ∷ exit Name.EmphasisText 1 7 6 0 ∷ enter Name.EmphasisSequence 1 7 6 0 ∷ exit Name.EmphasisSequence 1 8 7 0 ∷ exit Name.Emphasis 1 8 7 0 ∷ enter Name.Data 1 8 7 0 ∷ exit Name.Data 1 9 8 0 ∷ [])) ×
    -- looks «*a *b»: 2 0 12
    (looks_answer (default) (codes "*a *b") (piece 0 0 5 0 ∷ []) ≡ (2 ∷ 0 ∷ 12 ∷ [])) ×
    -- looks «a* b*»: 0 2 2
    (looks_answer (default) (codes "a* b*") (piece 0 0 5 0 ∷ []) ≡ (0 ∷ 2 ∷ 2 ∷ [])) ×
    -- text commonmark «a*_b_*»: Data 0-2, Emphasis 2-5 [EmphasisSequence 2-3, EmphasisText 3-4 [Data 3-4], EmphasisSequence 4-5], Data 5-6
    (text_answer (record default { options = record default_options { commonmark = true } }) (codes "a*_b_*") (piece 0 0 6 0 ∷ []) ≡ (enter Name.Data 1 1 0 0 ∷ exit Name.Data 1 3 2 0 ∷ enter Name.Emphasis 1 3 2 0 ∷ enter Name.EmphasisSequence 1 3 2 0 ∷ exit Name.EmphasisSequence 1 4 3 0 ∷ enter Name.EmphasisText 1 4 3 0 ∷ enter Name.Data 1 4 3 0 ∷ exit Name.Data 1 5 4 0 ∷ exit Name.EmphasisText 1 5 4 0 ∷ enter Name.EmphasisSequence 1 5 4 0 ∷ exit Name.EmphasisSequence 1 6 5 0 ∷ exit Name.Emphasis 1 6 5 0 ∷ enter Name.Data 1 6 5 0 ∷ exit Name.Data 1 7 6 0 ∷ [])) ×
    -- text outer commonmark «a*_b_*c»: Data 0-2, Emphasis 2-5, Data 5-7
    (text_outline (record default { options = record default_options { commonmark = true } }) (codes "a*_b_*c") (piece 0 0 7 0 ∷ []) ≡ (enter Name.Data 1 1 0 0 ∷ exit Name.Data 1 3 2 0 ∷ enter Name.Emphasis 1 3 2 0 ∷ exit Name.Emphasis 1 6 5 0 ∷ enter Name.Data 1 6 5 0 ∷ exit Name.Data 1 8 7 0 ∷ [])) ×
    -- text outer commonmark «*_b_*»: Emphasis 0-5
    (text_outline (record default { options = record default_options { commonmark = true } }) (codes "*_b_*") (piece 0 0 5 0 ∷ []) ≡ (enter Name.Emphasis 1 1 0 0 ∷ exit Name.Emphasis 1 6 5 0 ∷ [])) ×
    -- text outer commonmark «a *_b_* c»: Data 0-2, Emphasis 2-7, Data 7-9
    (text_outline (record default { options = record default_options { commonmark = true } }) (codes "a *_b_* c") (piece 0 0 9 0 ∷ []) ≡ (enter Name.Data 1 1 0 0 ∷ exit Name.Data 1 3 2 0 ∷ enter Name.Emphasis 1 3 2 0 ∷ exit Name.Emphasis 1 8 7 0 ∷ enter Name.Data 1 8 7 0 ∷ exit Name.Data 1 10 9 0 ∷ [])) ×
    -- text outer commonmark «*a _b_*c»: Data 0-3, Emphasis 3-6, Data 6-8
    (text_outline (record default { options = record default_options { commonmark = true } }) (codes "*a _b_*c") (piece 0 0 8 0 ∷ []) ≡ (enter Name.Data 1 1 0 0 ∷ exit Name.Data 1 4 3 0 ∷ enter Name.Emphasis 1 4 3 0 ∷ exit Name.Emphasis 1 7 6 0 ∷ enter Name.Data 1 7 6 0 ∷ exit Name.Data 1 9 8 0 ∷ [])) ×
    -- text outer commonmark «a**_b_**.»: Data 0-3, Emphasis 3-6, Data 6-9
    (text_outline (record default { options = record default_options { commonmark = true } }) (codes "a**_b_**.") (piece 0 0 9 0 ∷ []) ≡ (enter Name.Data 1 1 0 0 ∷ exit Name.Data 1 4 3 0 ∷ enter Name.Emphasis 1 4 3 0 ∷ exit Name.Emphasis 1 7 6 0 ∷ enter Name.Data 1 7 6 0 ∷ exit Name.Data 1 10 9 0 ∷ [])) ×
    -- text outer commonmark gfm «a*~b~*»: Data 0-2, GfmStrikethrough 2-5, Data 5-6
    (text_outline (record default { options = record default_options { constructs = record default_constructs { gfm_autolink_literal = true; gfm_label_start_footnote = true; gfm_strikethrough = true; gfm_task_list_item = true }; commonmark = true } }) (codes "a*~b~*") (piece 0 0 6 0 ∷ []) ≡ (enter Name.Data 1 1 0 0 ∷ exit Name.Data 1 3 2 0 ∷ enter Name.GfmStrikethrough 1 3 2 0 ∷ exit Name.GfmStrikethrough 1 6 5 0 ∷ enter Name.Data 1 6 5 0 ∷ exit Name.Data 1 7 6 0 ∷ [])) ×
    -- text outer «*␋a*»: Data 0-4
    (text_outline (default) (42 ∷ 11 ∷ 97 ∷ 42 ∷ []) (piece 0 0 4 0 ∷ []) ≡ (enter Name.Data 1 1 0 0 ∷ exit Name.Data 1 5 4 0 ∷ [])) ×
    -- text outer commonmark «*␋a*»: Emphasis 0-4
    (text_outline (record default { options = record default_options { commonmark = true } }) (42 ∷ 11 ∷ 97 ∷ 42 ∷ []) (piece 0 0 4 0 ∷ []) ≡ (enter Name.Emphasis 1 1 0 0 ∷ exit Name.Emphasis 1 5 4 0 ∷ [])) ×
    -- text outer commonmark «a*␋*b»: Data 0-1, Emphasis 1-4, Data 4-5
    (text_outline (record default { options = record default_options { commonmark = true } }) (97 ∷ 42 ∷ 11 ∷ 42 ∷ 98 ∷ []) (piece 0 0 5 0 ∷ []) ≡ (enter Name.Data 1 1 0 0 ∷ exit Name.Data 1 2 1 0 ∷ enter Name.Emphasis 1 2 1 0 ∷ exit Name.Emphasis 1 5 4 0 ∷ enter Name.Data 1 5 4 0 ∷ exit Name.Data 1 6 5 0 ∷ [])) ×
    -- text outer «*⟦U+0085⟧a*»: Data 0-5
    (text_outline (default) (42 ∷ 194 ∷ 133 ∷ 97 ∷ 42 ∷ []) (piece 0 0 5 0 ∷ []) ≡ (enter Name.Data 1 1 0 0 ∷ exit Name.Data 1 6 5 0 ∷ [])) ×
    -- text outer commonmark «*⟦U+0085⟧a*»: Emphasis 0-5
    (text_outline (record default { options = record default_options { commonmark = true } }) (42 ∷ 194 ∷ 133 ∷ 97 ∷ 42 ∷ []) (piece 0 0 5 0 ∷ []) ≡ (enter Name.Emphasis 1 1 0 0 ∷ exit Name.Emphasis 1 6 5 0 ∷ [])) ×
    -- text outer commonmark «*⟦U+2028⟧a*»: Emphasis 0-6
    (text_outline (record default { options = record default_options { commonmark = true } }) (42 ∷ 226 ∷ 128 ∷ 168 ∷ 97 ∷ 42 ∷ []) (piece 0 0 6 0 ∷ []) ≡ (enter Name.Emphasis 1 1 0 0 ∷ exit Name.Emphasis 1 7 6 0 ∷ [])) ×
    -- text outer commonmark «*⟦U+2029⟧a*»: Emphasis 0-6
    (text_outline (record default { options = record default_options { commonmark = true } }) (42 ∷ 226 ∷ 128 ∷ 169 ∷ 97 ∷ 42 ∷ []) (piece 0 0 6 0 ∷ []) ≡ (enter Name.Emphasis 1 1 0 0 ∷ exit Name.Emphasis 1 7 6 0 ∷ [])) ×
    -- text outer commonmark «*⟦U+00A0⟧a*»: Data 0-5
    (text_outline (record default { options = record default_options { commonmark = true } }) (42 ∷ 194 ∷ 160 ∷ 97 ∷ 42 ∷ []) (piece 0 0 5 0 ∷ []) ≡ (enter Name.Data 1 1 0 0 ∷ exit Name.Data 1 6 5 0 ∷ [])) ×
    -- text outer commonmark «*⟦U+3000⟧a*»: Data 0-6
    (text_outline (record default { options = record default_options { commonmark = true } }) (42 ∷ 227 ∷ 128 ∷ 128 ∷ 97 ∷ 42 ∷ []) (piece 0 0 6 0 ∷ []) ≡ (enter Name.Data 1 1 0 0 ∷ exit Name.Data 1 7 6 0 ∷ [])) ×
    -- text outer commonmark «*⟦U+000C⟧a*»: Data 0-4
    (text_outline (record default { options = record default_options { commonmark = true } }) (42 ∷ 12 ∷ 97 ∷ 42 ∷ []) (piece 0 0 4 0 ∷ []) ≡ (enter Name.Data 1 1 0 0 ∷ exit Name.Data 1 5 4 0 ∷ [])) ×
    -- text outer commonmark «*␉a*»: Data 0-4
    (text_outline (record default { options = record default_options { commonmark = true } }) (42 ∷ 9 ∷ 97 ∷ 42 ∷ []) (piece 0 0 4 0 ∷ []) ≡ (enter Name.Data 1 1 0 0 ∷ exit Name.Data 1 7 4 0 ∷ [])) ×
    -- text outer commonmark «*␊a*»: Data 0-1, LineEnding 1-2, Data 2-4
    (text_outline (record default { options = record default_options { commonmark = true } }) (42 ∷ 10 ∷ 97 ∷ 42 ∷ []) (piece 0 0 4 0 ∷ []) ≡ (enter Name.Data 1 1 0 0 ∷ exit Name.Data 1 2 1 0 ∷ enter Name.LineEnding 1 2 1 0 ∷ exit Name.LineEnding 2 1 2 0 ∷ enter Name.Data 2 1 2 0 ∷ exit Name.Data 2 3 4 0 ∷ [])) ×
    -- text outer commonmark «*␍a*»: Data 0-1, LineEnding 1-2, Data 2-4
    (text_outline (record default { options = record default_options { commonmark = true } }) (42 ∷ 13 ∷ 97 ∷ 42 ∷ []) (piece 0 0 4 0 ∷ []) ≡ (enter Name.Data 1 1 0 0 ∷ exit Name.Data 1 2 1 0 ∷ enter Name.LineEnding 1 2 1 0 ∷ exit Name.LineEnding 2 1 2 0 ∷ enter Name.Data 2 1 2 0 ∷ exit Name.Data 2 3 4 0 ∷ [])) ×
    -- text outer «a*␀b*»: Data 0-1, Emphasis 1-5
    (text_outline (default) (97 ∷ 42 ∷ 0 ∷ 98 ∷ 42 ∷ []) (piece 0 0 5 0 ∷ []) ≡ (enter Name.Data 1 1 0 0 ∷ exit Name.Data 1 2 1 0 ∷ enter Name.Emphasis 1 2 1 0 ∷ exit Name.Emphasis 1 6 5 0 ∷ [])) ×
    -- text outer commonmark «a*␀b*»: Data 0-5
    (text_outline (record default { options = record default_options { commonmark = true } }) (97 ∷ 42 ∷ 0 ∷ 98 ∷ 42 ∷ []) (piece 0 0 5 0 ∷ []) ≡ (enter Name.Data 1 1 0 0 ∷ exit Name.Data 1 6 5 0 ∷ [])) ×
    -- text outer commonmark «>*a␊>*» 1-4 5-6: Data 1-3, LineEnding 3-4, Data 5-6
    (text_outline (record default { options = record default_options { commonmark = true } }) (62 ∷ 42 ∷ 97 ∷ 10 ∷ 62 ∷ 42 ∷ []) (piece 1 0 4 0 ∷ piece 5 0 6 0 ∷ []) ≡ (enter Name.Data 1 2 1 0 ∷ exit Name.Data 1 4 3 0 ∷ enter Name.LineEnding 1 4 3 0 ∷ exit Name.LineEnding 2 1 4 0 ∷ enter Name.Data 2 2 5 0 ∷ exit Name.Data 2 3 6 0 ∷ [])) ×
    -- text outer «|*a*|» 1-4: Emphasis 1-4
    (text_outline (default) (codes "|*a*|") (piece 1 0 4 0 ∷ []) ≡ (enter Name.Emphasis 1 2 1 0 ∷ exit Name.Emphasis 1 5 4 0 ∷ [])) ×
    -- text outer commonmark «|*a*|» 1-4: Emphasis 1-4
    (text_outline (record default { options = record default_options { commonmark = true } }) (codes "|*a*|") (piece 1 0 4 0 ∷ []) ≡ (enter Name.Emphasis 1 2 1 0 ∷ exit Name.Emphasis 1 5 4 0 ∷ [])) ×
    -- text outer «a*b*c» 1-4: Emphasis 1-4
    (text_outline (default) (codes "a*b*c") (piece 1 0 4 0 ∷ []) ≡ (enter Name.Emphasis 1 2 1 0 ∷ exit Name.Emphasis 1 5 4 0 ∷ [])) ×
    -- text outer commonmark «a*b*c» 1-4: Emphasis 1-4
    (text_outline (record default { options = record default_options { commonmark = true } }) (codes "a*b*c") (piece 1 0 4 0 ∷ []) ≡ (enter Name.Emphasis 1 2 1 0 ∷ exit Name.Emphasis 1 5 4 0 ∷ [])) ×
    -- text «a_b_» 1-4: Data 1-4
    (text_answer (default) (codes "a_b_") (piece 1 0 4 0 ∷ []) ≡ (enter Name.Data 1 2 1 0 ∷ exit Name.Data 1 5 4 0 ∷ [])) ×
    -- text commonmark «a_b_» 1-4: Emphasis 1-4 [EmphasisSequence 1-2, EmphasisText 2-3 [Data 2-3], EmphasisSequence 3-4]
    (text_answer (record default { options = record default_options { commonmark = true } }) (codes "a_b_") (piece 1 0 4 0 ∷ []) ≡ (enter Name.Emphasis 1 2 1 0 ∷ enter Name.EmphasisSequence 1 2 1 0 ∷ exit Name.EmphasisSequence 1 3 2 0 ∷ enter Name.EmphasisText 1 3 2 0 ∷ enter Name.Data 1 3 2 0 ∷ exit Name.Data 1 4 3 0 ∷ exit Name.EmphasisText 1 4 3 0 ∷ enter Name.EmphasisSequence 1 4 3 0 ∷ exit Name.EmphasisSequence 1 5 4 0 ∷ exit Name.Emphasis 1 5 4 0 ∷ [])) ×
    -- text commonmark «_a_b» 0-3: Emphasis 0-3 [EmphasisSequence 0-1, EmphasisText 1-2 [Data 1-2], EmphasisSequence 2-3]
    (text_answer (record default { options = record default_options { commonmark = true } }) (codes "_a_b") (piece 0 0 3 0 ∷ []) ≡ (enter Name.Emphasis 1 1 0 0 ∷ enter Name.EmphasisSequence 1 1 0 0 ∷ exit Name.EmphasisSequence 1 2 1 0 ∷ enter Name.EmphasisText 1 2 1 0 ∷ enter Name.Data 1 2 1 0 ∷ exit Name.Data 1 3 2 0 ∷ exit Name.EmphasisText 1 3 2 0 ∷ enter Name.EmphasisSequence 1 3 2 0 ∷ exit Name.EmphasisSequence 1 4 3 0 ∷ exit Name.Emphasis 1 4 3 0 ∷ [])) ×
    -- text outer «# *a*» 2-5: Emphasis 2-5
    (text_outline (default) (codes "# *a*") (piece 2 0 5 0 ∷ []) ≡ (enter Name.Emphasis 1 3 2 0 ∷ exit Name.Emphasis 1 6 5 0 ∷ [])) ×
    -- text outer commonmark «# *a*» 2-5: Emphasis 2-5
    (text_outline (record default { options = record default_options { commonmark = true } }) (codes "# *a*") (piece 2 0 5 0 ∷ []) ≡ (enter Name.Emphasis 1 3 2 0 ∷ exit Name.Emphasis 1 6 5 0 ∷ [])) ×
    -- text outer «>a␊>_b_» 1-3 4-7: Data 1-2, LineEnding 2-3, Emphasis 4-7
    (text_outline (default) (62 ∷ 97 ∷ 10 ∷ 62 ∷ 95 ∷ 98 ∷ 95 ∷ []) (piece 1 0 3 0 ∷ piece 4 0 7 0 ∷ []) ≡ (enter Name.Data 1 2 1 0 ∷ exit Name.Data 1 3 2 0 ∷ enter Name.LineEnding 1 3 2 0 ∷ exit Name.LineEnding 2 1 3 0 ∷ enter Name.Emphasis 2 2 4 0 ∷ exit Name.Emphasis 2 5 7 0 ∷ [])) ×
    -- text outer «xa␊x_b_» 1-3 4-7: Data 1-2, LineEnding 2-3, Data 4-7
    (text_outline (default) (120 ∷ 97 ∷ 10 ∷ 120 ∷ 95 ∷ 98 ∷ 95 ∷ []) (piece 1 0 3 0 ∷ piece 4 0 7 0 ∷ []) ≡ (enter Name.Data 1 2 1 0 ∷ exit Name.Data 1 3 2 0 ∷ enter Name.LineEnding 1 3 2 0 ∷ exit Name.LineEnding 2 1 3 0 ∷ enter Name.Data 2 2 4 0 ∷ exit Name.Data 2 5 7 0 ∷ [])) ×
    -- text outer commonmark «xa␊x_b_» 1-3 4-7: Data 1-2, LineEnding 2-3, Emphasis 4-7
    (text_outline (record default { options = record default_options { commonmark = true } }) (120 ∷ 97 ∷ 10 ∷ 120 ∷ 95 ∷ 98 ∷ 95 ∷ []) (piece 1 0 3 0 ∷ piece 4 0 7 0 ∷ []) ≡ (enter Name.Data 1 2 1 0 ∷ exit Name.Data 1 3 2 0 ∷ enter Name.LineEnding 1 3 2 0 ∷ exit Name.LineEnding 2 1 3 0 ∷ enter Name.Emphasis 2 2 4 0 ∷ exit Name.Emphasis 2 5 7 0 ∷ [])) ×
    -- text outer commonmark «*a␊*b» 0-5: Data 0-2, LineEnding 2-3, Data 3-5
    (text_outline (record default { options = record default_options { commonmark = true } }) (42 ∷ 97 ∷ 10 ∷ 42 ∷ 98 ∷ []) (piece 0 0 5 0 ∷ []) ≡ (enter Name.Data 1 1 0 0 ∷ exit Name.Data 1 3 2 0 ∷ enter Name.LineEnding 1 3 2 0 ∷ exit Name.LineEnding 2 1 3 0 ∷ enter Name.Data 2 1 3 0 ∷ exit Name.Data 2 3 5 0 ∷ [])) ×
    -- looks commonmark «a*b*»: 1 2 16
    (looks_answer (record default { options = record default_options { commonmark = true } }) (codes "a*b*") (piece 0 0 4 0 ∷ []) ≡ (1 ∷ 2 ∷ 16 ∷ []))

abbrev pub Links : Type 0
Links =
    -- text «[](b)»: Link 0-5 [Label 0-2 [LabelLink 0-1, LabelText 1-1 [], LabelEnd 1-2], Resource 2-5 [ResourceMarker 2-3, Raw 3-4, ResourceMarker 4-5]]
    (text_answer (default) (codes "[](b)") (piece 0 0 5 0 ∷ []) ≡ (enter Name.Link 1 1 0 0 ∷ enter Name.Label 1 1 0 0 ∷ enter Name.LabelLink 1 1 0 0 ∷ enter Name.LabelMarker 1 1 0 0 ∷ exit Name.LabelMarker 1 2 1 0 ∷ exit Name.LabelLink 1 2 1 0 ∷ enter Name.LabelText 1 2 1 0 ∷ exit Name.LabelText 1 2 1 0 ∷ enter Name.LabelEnd 1 2 1 0 ∷ enter Name.LabelMarker 1 2 1 0 ∷ exit Name.LabelMarker 1 3 2 0 ∷ exit Name.LabelEnd 1 3 2 0 ∷ exit Name.Label 1 3 2 0 ∷ enter Name.Resource 1 3 2 0 ∷ enter Name.ResourceMarker 1 3 2 0 ∷ exit Name.ResourceMarker 1 4 3 0 ∷ enter Name.ResourceDestination 1 4 3 0 ∷ enter Name.ResourceDestinationRaw 1 4 3 0 ∷ enter Name.ResourceDestinationString 1 4 3 0 ∷ chained Name.Data 1 4 3 0 None None ∷ exit Name.Data 1 5 4 0 ∷ exit Name.ResourceDestinationString 1 5 4 0 ∷ exit Name.ResourceDestinationRaw 1 5 4 0 ∷ exit Name.ResourceDestination 1 5 4 0 ∷ enter Name.ResourceMarker 1 5 4 0 ∷ exit Name.ResourceMarker 1 6 5 0 ∷ exit Name.Resource 1 6 5 0 ∷ exit Name.Link 1 6 5 0 ∷ [])) ×
    -- text outer «a [b [c](#) d](#) e»: Data 0-5, Link 5-11, Data 11-19
    (text_outline (default) (codes "a [b [c](#) d](#) e") (piece 0 0 19 0 ∷ []) ≡ (enter Name.Data 1 1 0 0 ∷ exit Name.Data 1 6 5 0 ∷ enter Name.Link 1 6 5 0 ∷ exit Name.Link 1 12 11 0 ∷ enter Name.Data 1 12 11 0 ∷ exit Name.Data 1 20 19 0 ∷ [])) ×
    -- text «> [a␊> ](b)» 2-5 7-11: Link 2-11 [Label 2-8 [LabelLink 2-3, LabelText 3-7 [Data 3-4, LineEnding 4-5], LabelEnd 7-8], Resource 8-11 [ResourceMarker 8-9, Raw 9-10, ResourceMarker 10-11]]
    (text_answer (default) (62 ∷ 32 ∷ 91 ∷ 97 ∷ 10 ∷ 62 ∷ 32 ∷ 93 ∷ 40 ∷ 98 ∷ 41 ∷ []) (piece 2 0 5 0 ∷ piece 7 0 11 0 ∷ []) ≡ (enter Name.Link 1 3 2 0 ∷ enter Name.Label 1 3 2 0 ∷ enter Name.LabelLink 1 3 2 0 ∷ enter Name.LabelMarker 1 3 2 0 ∷ exit Name.LabelMarker 1 4 3 0 ∷ exit Name.LabelLink 1 4 3 0 ∷ enter Name.LabelText 1 4 3 0 ∷ enter Name.Data 1 4 3 0 ∷ exit Name.Data 1 5 4 0 ∷ enter Name.LineEnding 1 5 4 0 ∷ exit Name.LineEnding 2 1 5 0 ∷ exit Name.LabelText 2 3 7 0 ∷ enter Name.LabelEnd 2 3 7 0 ∷ enter Name.LabelMarker 2 3 7 0 ∷ exit Name.LabelMarker 2 4 8 0 ∷ exit Name.LabelEnd 2 4 8 0 ∷ exit Name.Label 2 4 8 0 ∷ enter Name.Resource 2 4 8 0 ∷ enter Name.ResourceMarker 2 4 8 0 ∷ exit Name.ResourceMarker 2 5 9 0 ∷ enter Name.ResourceDestination 2 5 9 0 ∷ enter Name.ResourceDestinationRaw 2 5 9 0 ∷ enter Name.ResourceDestinationString 2 5 9 0 ∷ chained Name.Data 2 5 9 0 None None ∷ exit Name.Data 2 6 10 0 ∷ exit Name.ResourceDestinationString 2 6 10 0 ∷ exit Name.ResourceDestinationRaw 2 6 10 0 ∷ exit Name.ResourceDestination 2 6 10 0 ∷ enter Name.ResourceMarker 2 6 10 0 ∷ exit Name.ResourceMarker 2 7 11 0 ∷ exit Name.Resource 2 7 11 0 ∷ exit Name.Link 2 7 11 0 ∷ [])) ×
    -- text «*[a*](b)»: Data 0-1, Link 1-8 [Label 1-5 [LabelLink 1-2, LabelText 2-4 [Data 2-4], LabelEnd 4-5], Resource 5-8 [ResourceMarker 5-6, Raw 6-7, ResourceMarker 7-8]]
    (text_answer (default) (codes "*[a*](b)") (piece 0 0 8 0 ∷ []) ≡ (enter Name.Data 1 1 0 0 ∷ exit Name.Data 1 2 1 0 ∷ enter Name.Link 1 2 1 0 ∷ enter Name.Label 1 2 1 0 ∷ enter Name.LabelLink 1 2 1 0 ∷ enter Name.LabelMarker 1 2 1 0 ∷ exit Name.LabelMarker 1 3 2 0 ∷ exit Name.LabelLink 1 3 2 0 ∷ enter Name.LabelText 1 3 2 0 ∷ enter Name.Data 1 3 2 0 ∷ exit Name.Data 1 5 4 0 ∷ exit Name.LabelText 1 5 4 0 ∷ enter Name.LabelEnd 1 5 4 0 ∷ enter Name.LabelMarker 1 5 4 0 ∷ exit Name.LabelMarker 1 6 5 0 ∷ exit Name.LabelEnd 1 6 5 0 ∷ exit Name.Label 1 6 5 0 ∷ enter Name.Resource 1 6 5 0 ∷ enter Name.ResourceMarker 1 6 5 0 ∷ exit Name.ResourceMarker 1 7 6 0 ∷ enter Name.ResourceDestination 1 7 6 0 ∷ enter Name.ResourceDestinationRaw 1 7 6 0 ∷ enter Name.ResourceDestinationString 1 7 6 0 ∷ chained Name.Data 1 7 6 0 None None ∷ exit Name.Data 1 8 7 0 ∷ exit Name.ResourceDestinationString 1 8 7 0 ∷ exit Name.ResourceDestinationRaw 1 8 7 0 ∷ exit Name.ResourceDestination 1 8 7 0 ∷ enter Name.ResourceMarker 1 8 7 0 ∷ exit Name.ResourceMarker 1 9 8 0 ∷ exit Name.Resource 1 9 8 0 ∷ exit Name.Link 1 9 8 0 ∷ [])) ×
    -- text outer «[a](⟦(×32⟧b⟦)×33⟧»: Link 0-70
    (text_outline (default) (codes "[a](((((((((((((((((((((((((((((((((b)))))))))))))))))))))))))))))))))") (piece 0 0 70 0 ∷ []) ≡ (enter Name.Link 1 1 0 0 ∷ exit Name.Link 1 71 70 0 ∷ [])) ×
    -- text «[a](⟦(×33⟧b⟦)×34⟧»: Data 0-72
    (text_answer (default) (codes "[a]((((((((((((((((((((((((((((((((((b))))))))))))))))))))))))))))))))))") (piece 0 0 72 0 ∷ []) ≡ (enter Name.Data 1 1 0 0 ∷ exit Name.Data 1 73 72 0 ∷ [])) ×
    -- text «[a *b* c](#)»: Link 0-12 [Label 0-9 [LabelLink 0-1, LabelText 1-8 [Data 1-3, Emphasis 3-6 [EmphasisSequence 3-4, EmphasisText 4-5 [Data 4-5], EmphasisSequence 5-6], Data 6-8], LabelEnd 8-9], Resource 9-12 [ResourceMarker 9-10, Raw 10-11, ResourceMarker 11-12]]
    (text_answer (default) (codes "[a *b* c](#)") (piece 0 0 12 0 ∷ []) ≡ (enter Name.Link 1 1 0 0 ∷ enter Name.Label 1 1 0 0 ∷ enter Name.LabelLink 1 1 0 0 ∷ enter Name.LabelMarker 1 1 0 0 ∷ exit Name.LabelMarker 1 2 1 0 ∷ exit Name.LabelLink 1 2 1 0 ∷ enter Name.LabelText 1 2 1 0 ∷ enter Name.Data 1 2 1 0 ∷ exit Name.Data 1 4 3 0 ∷ enter Name.Emphasis 1 4 3 0 ∷ enter Name.EmphasisSequence 1 4 3 0 ∷ exit Name.EmphasisSequence 1 5 4 0 ∷ enter Name.EmphasisText 1 5 4 0 ∷ enter Name.Data 1 5 4 0 ∷ exit Name.Data 1 6 5 0 ∷ exit Name.EmphasisText 1 6 5 0 ∷ enter Name.EmphasisSequence 1 6 5 0 ∷ exit Name.EmphasisSequence 1 7 6 0 ∷ exit Name.Emphasis 1 7 6 0 ∷ enter Name.Data 1 7 6 0 ∷ exit Name.Data 1 9 8 0 ∷ exit Name.LabelText 1 9 8 0 ∷ enter Name.LabelEnd 1 9 8 0 ∷ enter Name.LabelMarker 1 9 8 0 ∷ exit Name.LabelMarker 1 10 9 0 ∷ exit Name.LabelEnd 1 10 9 0 ∷ exit Name.Label 1 10 9 0 ∷ enter Name.Resource 1 10 9 0 ∷ enter Name.ResourceMarker 1 10 9 0 ∷ exit Name.ResourceMarker 1 11 10 0 ∷ enter Name.ResourceDestination 1 11 10 0 ∷ enter Name.ResourceDestinationRaw 1 11 10 0 ∷ enter Name.ResourceDestinationString 1 11 10 0 ∷ chained Name.Data 1 11 10 0 None None ∷ exit Name.Data 1 12 11 0 ∷ exit Name.ResourceDestinationString 1 12 11 0 ∷ exit Name.ResourceDestinationRaw 1 12 11 0 ∷ exit Name.ResourceDestination 1 12 11 0 ∷ enter Name.ResourceMarker 1 12 11 0 ∷ exit Name.ResourceMarker 1 13 12 0 ∷ exit Name.Resource 1 13 12 0 ∷ exit Name.Link 1 13 12 0 ∷ [])) ×
    -- text «![a *b* c](#)»: Image 0-13 [Label 0-10 [LabelImage 0-2 [LabelImageMarker 0-1, LabelMarker 1-2], LabelText 2-9 [Data 2-4, Emphasis 4-7 [EmphasisSequence 4-5, EmphasisText 5-6 [Data 5-6], EmphasisSequence 6-7], Data 7-9], LabelEnd 9-10], Resource 10-13 [ResourceMarker 10-11, Raw 11-12, ResourceMarker 12-13]]
    (text_answer (default) (codes "![a *b* c](#)") (piece 0 0 13 0 ∷ []) ≡ (enter Name.Image 1 1 0 0 ∷ enter Name.Label 1 1 0 0 ∷ enter Name.LabelImage 1 1 0 0 ∷ enter Name.LabelImageMarker 1 1 0 0 ∷ exit Name.LabelImageMarker 1 2 1 0 ∷ enter Name.LabelMarker 1 2 1 0 ∷ exit Name.LabelMarker 1 3 2 0 ∷ exit Name.LabelImage 1 3 2 0 ∷ enter Name.LabelText 1 3 2 0 ∷ enter Name.Data 1 3 2 0 ∷ exit Name.Data 1 5 4 0 ∷ enter Name.Emphasis 1 5 4 0 ∷ enter Name.EmphasisSequence 1 5 4 0 ∷ exit Name.EmphasisSequence 1 6 5 0 ∷ enter Name.EmphasisText 1 6 5 0 ∷ enter Name.Data 1 6 5 0 ∷ exit Name.Data 1 7 6 0 ∷ exit Name.EmphasisText 1 7 6 0 ∷ enter Name.EmphasisSequence 1 7 6 0 ∷ exit Name.EmphasisSequence 1 8 7 0 ∷ exit Name.Emphasis 1 8 7 0 ∷ enter Name.Data 1 8 7 0 ∷ exit Name.Data 1 10 9 0 ∷ exit Name.LabelText 1 10 9 0 ∷ enter Name.LabelEnd 1 10 9 0 ∷ enter Name.LabelMarker 1 10 9 0 ∷ exit Name.LabelMarker 1 11 10 0 ∷ exit Name.LabelEnd 1 11 10 0 ∷ exit Name.Label 1 11 10 0 ∷ enter Name.Resource 1 11 10 0 ∷ enter Name.ResourceMarker 1 11 10 0 ∷ exit Name.ResourceMarker 1 12 11 0 ∷ enter Name.ResourceDestination 1 12 11 0 ∷ enter Name.ResourceDestinationRaw 1 12 11 0 ∷ enter Name.ResourceDestinationString 1 12 11 0 ∷ chained Name.Data 1 12 11 0 None None ∷ exit Name.Data 1 13 12 0 ∷ exit Name.ResourceDestinationString 1 13 12 0 ∷ exit Name.ResourceDestinationRaw 1 13 12 0 ∷ exit Name.ResourceDestination 1 13 12 0 ∷ enter Name.ResourceMarker 1 13 12 0 ∷ exit Name.ResourceMarker 1 14 13 0 ∷ exit Name.Resource 1 14 13 0 ∷ exit Name.Image 1 14 13 0 ∷ [])) ×
    -- text «[<https://example.com>](#)»: Link 0-26 [Label 0-23 [LabelLink 0-1, LabelText 1-22 [Autolink 1-22 [AutolinkMarker 1-2, AutolinkProtocol 2-21, AutolinkMarker 21-22]], LabelEnd 22-23], Resource 23-26 [ResourceMarker 23-24, Raw 24-25, ResourceMarker 25-26]]
    (text_answer (default) (codes "[<https://example.com>](#)") (piece 0 0 26 0 ∷ []) ≡ (enter Name.Link 1 1 0 0 ∷ enter Name.Label 1 1 0 0 ∷ enter Name.LabelLink 1 1 0 0 ∷ enter Name.LabelMarker 1 1 0 0 ∷ exit Name.LabelMarker 1 2 1 0 ∷ exit Name.LabelLink 1 2 1 0 ∷ enter Name.LabelText 1 2 1 0 ∷ enter Name.Autolink 1 2 1 0 ∷ enter Name.AutolinkMarker 1 2 1 0 ∷ exit Name.AutolinkMarker 1 3 2 0 ∷ enter Name.AutolinkProtocol 1 3 2 0 ∷ exit Name.AutolinkProtocol 1 22 21 0 ∷ enter Name.AutolinkMarker 1 22 21 0 ∷ exit Name.AutolinkMarker 1 23 22 0 ∷ exit Name.Autolink 1 23 22 0 ∷ exit Name.LabelText 1 23 22 0 ∷ enter Name.LabelEnd 1 23 22 0 ∷ enter Name.LabelMarker 1 23 22 0 ∷ exit Name.LabelMarker 1 24 23 0 ∷ exit Name.LabelEnd 1 24 23 0 ∷ exit Name.Label 1 24 23 0 ∷ enter Name.Resource 1 24 23 0 ∷ enter Name.ResourceMarker 1 24 23 0 ∷ exit Name.ResourceMarker 1 25 24 0 ∷ enter Name.ResourceDestination 1 25 24 0 ∷ enter Name.ResourceDestinationRaw 1 25 24 0 ∷ enter Name.ResourceDestinationString 1 25 24 0 ∷ chained Name.Data 1 25 24 0 None None ∷ exit Name.Data 1 26 25 0 ∷ exit Name.ResourceDestinationString 1 26 25 0 ∷ exit Name.ResourceDestinationRaw 1 26 25 0 ∷ exit Name.ResourceDestination 1 26 25 0 ∷ enter Name.ResourceMarker 1 26 25 0 ∷ exit Name.ResourceMarker 1 27 26 0 ∷ exit Name.Resource 1 27 26 0 ∷ exit Name.Link 1 27 26 0 ∷ [])) ×
    -- text «[a](b c)»: Data 0-8
    (text_answer (default) (codes "[a](b c)") (piece 0 0 8 0 ∷ []) ≡ (enter Name.Data 1 1 0 0 ∷ exit Name.Data 1 9 8 0 ∷ [])) ×
    -- text «[a](b "c)»: Data 0-9
    (text_answer (default) (codes "[a](b \"c)") (piece 0 0 9 0 ∷ []) ≡ (enter Name.Data 1 1 0 0 ∷ exit Name.Data 1 10 9 0 ∷ [])) ×
    -- text outer «[a](<b>c)»: Data 0-4, HtmlText 4-7, Data 7-9
    (text_outline (default) (codes "[a](<b>c)") (piece 0 0 9 0 ∷ []) ≡ (enter Name.Data 1 1 0 0 ∷ exit Name.Data 1 5 4 0 ∷ enter Name.HtmlText 1 5 4 0 ∷ exit Name.HtmlText 1 8 7 0 ∷ enter Name.Data 1 8 7 0 ∷ exit Name.Data 1 10 9 0 ∷ [])) ×
    -- text «*a [*b*](c) d*»: Emphasis 0-14 [EmphasisSequence 0-1, EmphasisText 1-13 [Data 1-3, Link 3-11 [Label 3-8 [LabelLink 3-4, LabelText 4-7 [Emphasis 4-7 [EmphasisSequence 4-5, EmphasisText 5-6 [Data 5-6], EmphasisSequence 6-7]], LabelEnd 7-8], Resource 8-11 [ResourceMarker 8-9, Raw 9-10, ResourceMarker 10-11]], Data 11-13], EmphasisSequence 13-14]
    (text_answer (default) (codes "*a [*b*](c) d*") (piece 0 0 14 0 ∷ []) ≡ (enter Name.Emphasis 1 1 0 0 ∷ enter Name.EmphasisSequence 1 1 0 0 ∷ exit Name.EmphasisSequence 1 2 1 0 ∷ enter Name.EmphasisText 1 2 1 0 ∷ enter Name.Data 1 2 1 0 ∷ exit Name.Data 1 4 3 0 ∷ enter Name.Link 1 4 3 0 ∷ enter Name.Label 1 4 3 0 ∷ enter Name.LabelLink 1 4 3 0 ∷ enter Name.LabelMarker 1 4 3 0 ∷ exit Name.LabelMarker 1 5 4 0 ∷ exit Name.LabelLink 1 5 4 0 ∷ enter Name.LabelText 1 5 4 0 ∷ enter Name.Emphasis 1 5 4 0 ∷ enter Name.EmphasisSequence 1 5 4 0 ∷ exit Name.EmphasisSequence 1 6 5 0 ∷ enter Name.EmphasisText 1 6 5 0 ∷ enter Name.Data 1 6 5 0 ∷ exit Name.Data 1 7 6 0 ∷ exit Name.EmphasisText 1 7 6 0 ∷ enter Name.EmphasisSequence 1 7 6 0 ∷ exit Name.EmphasisSequence 1 8 7 0 ∷ exit Name.Emphasis 1 8 7 0 ∷ exit Name.LabelText 1 8 7 0 ∷ enter Name.LabelEnd 1 8 7 0 ∷ enter Name.LabelMarker 1 8 7 0 ∷ exit Name.LabelMarker 1 9 8 0 ∷ exit Name.LabelEnd 1 9 8 0 ∷ exit Name.Label 1 9 8 0 ∷ enter Name.Resource 1 9 8 0 ∷ enter Name.ResourceMarker 1 9 8 0 ∷ exit Name.ResourceMarker 1 10 9 0 ∷ enter Name.ResourceDestination 1 10 9 0 ∷ enter Name.ResourceDestinationRaw 1 10 9 0 ∷ enter Name.ResourceDestinationString 1 10 9 0 ∷ chained Name.Data 1 10 9 0 None None ∷ exit Name.Data 1 11 10 0 ∷ exit Name.ResourceDestinationString 1 11 10 0 ∷ exit Name.ResourceDestinationRaw 1 11 10 0 ∷ exit Name.ResourceDestination 1 11 10 0 ∷ enter Name.ResourceMarker 1 11 10 0 ∷ exit Name.ResourceMarker 1 12 11 0 ∷ exit Name.Resource 1 12 11 0 ∷ exit Name.Link 1 12 11 0 ∷ enter Name.Data 1 12 11 0 ∷ exit Name.Data 1 14 13 0 ∷ exit Name.EmphasisText 1 14 13 0 ∷ enter Name.EmphasisSequence 1 14 13 0 ∷ exit Name.EmphasisSequence 1 15 14 0 ∷ exit Name.Emphasis 1 15 14 0 ∷ [])) ×
    -- text outer «[a](␀)»: Link 0-6
    (text_outline (default) (91 ∷ 97 ∷ 93 ∷ 40 ∷ 0 ∷ 41 ∷ []) (piece 0 0 6 0 ∷ []) ≡ (enter Name.Link 1 1 0 0 ∷ exit Name.Link 1 7 6 0 ∷ [])) ×
    -- text outer «⟦![×100⟧a⟦](b)×100⟧»: Image 0-601
    (text_outline (default) (codes "![![![![![![![![![![![![![![![![![![![![![![![![![![![![![![![![![![![![![![![![![![![![![![![![![![![![![![![![![![![![![![![![![![![![![![![![![![![![![![![![![![![![![![![![![![![![![![![![![![![![a](b)](b)](b)](b)](b)](b)](b)](b)](b)](b)](b)](b)](b)](b)](b)](b)](b)](b)](b)](b)](b)](b)](b)](b)](b)](b)](b)](b)](b)](b)](b)](b)](b)](b)](b)](b)](b)](b)](b)](b)](b)](b)](b)](b)](b)](b)](b)](b)](b)](b)](b)](b)](b)](b)](b)](b)](b)](b)](b)](b)](b)](b)](b)](b)](b)](b)](b)](b)](b)](b)](b)](b)](b)](b)](b)](b)](b)](b)](b)](b)](b)](b)](b)](b)](b)](b)](b)](b)](b)](b)](b)](b)](b)](b)](b)](b)](b)](b)](b)](b)") (piece 0 0 601 0 ∷ []) ≡ (enter Name.Image 1 1 0 0 ∷ exit Name.Image 1 602 601 0 ∷ [])) ×
    -- text outer definition=a «⟦[×100⟧a⟦]×100⟧»: Data 0-99, Link 99-102, Data 102-201
    (text_outline (record default { definitions = (codes "a") ∷ [] }) (codes "[[[[[[[[[[[[[[[[[[[[[[[[[[[[[[[[[[[[[[[[[[[[[[[[[[[[[[[[[[[[[[[[[[[[[[[[[[[[[[[[[[[[[[[[[[[[[[[[[[[[a]]]]]]]]]]]]]]]]]]]]]]]]]]]]]]]]]]]]]]]]]]]]]]]]]]]]]]]]]]]]]]]]]]]]]]]]]]]]]]]]]]]]]]]]]]]]]]]]]]]]") (piece 0 0 201 0 ∷ []) ≡ (enter Name.Data 1 1 0 0 ∷ exit Name.Data 1 100 99 0 ∷ enter Name.Link 1 100 99 0 ∷ exit Name.Link 1 103 102 0 ∷ enter Name.Data 1 103 102 0 ∷ exit Name.Data 1 202 201 0 ∷ [])) ×
    -- text outer «[a [b](c)»: Data 0-3, Link 3-9
    (text_outline (default) (codes "[a [b](c)") (piece 0 0 9 0 ∷ []) ≡ (enter Name.Data 1 1 0 0 ∷ exit Name.Data 1 4 3 0 ∷ enter Name.Link 1 4 3 0 ∷ exit Name.Link 1 10 9 0 ∷ [])) ×
    -- text «[a](b "c" )»: Link 0-11 [Label 0-3 [LabelLink 0-1, LabelText 1-2 [Data 1-2], LabelEnd 2-3], Resource 3-11 [ResourceMarker 3-4, Raw 4-5, SpaceOrTab 5-6, ResourceTitle 6-9 [ResourceTitleMarker 6-7, ResourceTitleString 7-8 [Data 7-8], ResourceTitleMarker 8-9], SpaceOrTab 9-10, ResourceMarker 10-11]]
    (text_answer (default) (codes "[a](b \"c\" )") (piece 0 0 11 0 ∷ []) ≡ (enter Name.Link 1 1 0 0 ∷ enter Name.Label 1 1 0 0 ∷ enter Name.LabelLink 1 1 0 0 ∷ enter Name.LabelMarker 1 1 0 0 ∷ exit Name.LabelMarker 1 2 1 0 ∷ exit Name.LabelLink 1 2 1 0 ∷ enter Name.LabelText 1 2 1 0 ∷ enter Name.Data 1 2 1 0 ∷ exit Name.Data 1 3 2 0 ∷ exit Name.LabelText 1 3 2 0 ∷ enter Name.LabelEnd 1 3 2 0 ∷ enter Name.LabelMarker 1 3 2 0 ∷ exit Name.LabelMarker 1 4 3 0 ∷ exit Name.LabelEnd 1 4 3 0 ∷ exit Name.Label 1 4 3 0 ∷ enter Name.Resource 1 4 3 0 ∷ enter Name.ResourceMarker 1 4 3 0 ∷ exit Name.ResourceMarker 1 5 4 0 ∷ enter Name.ResourceDestination 1 5 4 0 ∷ enter Name.ResourceDestinationRaw 1 5 4 0 ∷ enter Name.ResourceDestinationString 1 5 4 0 ∷ chained Name.Data 1 5 4 0 None None ∷ exit Name.Data 1 6 5 0 ∷ exit Name.ResourceDestinationString 1 6 5 0 ∷ exit Name.ResourceDestinationRaw 1 6 5 0 ∷ exit Name.ResourceDestination 1 6 5 0 ∷ enter Name.SpaceOrTab 1 6 5 0 ∷ exit Name.SpaceOrTab 1 7 6 0 ∷ enter Name.ResourceTitle 1 7 6 0 ∷ enter Name.ResourceTitleMarker 1 7 6 0 ∷ exit Name.ResourceTitleMarker 1 8 7 0 ∷ enter Name.ResourceTitleString 1 8 7 0 ∷ chained Name.Data 1 8 7 0 None None ∷ exit Name.Data 1 9 8 0 ∷ exit Name.ResourceTitleString 1 9 8 0 ∷ enter Name.ResourceTitleMarker 1 9 8 0 ∷ exit Name.ResourceTitleMarker 1 10 9 0 ∷ exit Name.ResourceTitle 1 10 9 0 ∷ enter Name.SpaceOrTab 1 10 9 0 ∷ exit Name.SpaceOrTab 1 11 10 0 ∷ enter Name.ResourceMarker 1 11 10 0 ∷ exit Name.ResourceMarker 1 12 11 0 ∷ exit Name.Resource 1 12 11 0 ∷ exit Name.Link 1 12 11 0 ∷ [])) ×
    -- text «![a [b](c)](d)»: Image 0-14 [Label 0-11 [LabelImage 0-2 [LabelImageMarker 0-1, LabelMarker 1-2], LabelText 2-10 [Data 2-4, Link 4-10 [Label 4-7 [LabelLink 4-5, LabelText 5-6 [Data 5-6], LabelEnd 6-7], Resource 7-10 [ResourceMarker 7-8, Raw 8-9, ResourceMarker 9-10]]], LabelEnd 10-11], Resource 11-14 [ResourceMarker 11-12, Raw 12-13, ResourceMarker 13-14]]
    (text_answer (default) (codes "![a [b](c)](d)") (piece 0 0 14 0 ∷ []) ≡ (enter Name.Image 1 1 0 0 ∷ enter Name.Label 1 1 0 0 ∷ enter Name.LabelImage 1 1 0 0 ∷ enter Name.LabelImageMarker 1 1 0 0 ∷ exit Name.LabelImageMarker 1 2 1 0 ∷ enter Name.LabelMarker 1 2 1 0 ∷ exit Name.LabelMarker 1 3 2 0 ∷ exit Name.LabelImage 1 3 2 0 ∷ enter Name.LabelText 1 3 2 0 ∷ enter Name.Data 1 3 2 0 ∷ exit Name.Data 1 5 4 0 ∷ enter Name.Link 1 5 4 0 ∷ enter Name.Label 1 5 4 0 ∷ enter Name.LabelLink 1 5 4 0 ∷ enter Name.LabelMarker 1 5 4 0 ∷ exit Name.LabelMarker 1 6 5 0 ∷ exit Name.LabelLink 1 6 5 0 ∷ enter Name.LabelText 1 6 5 0 ∷ enter Name.Data 1 6 5 0 ∷ exit Name.Data 1 7 6 0 ∷ exit Name.LabelText 1 7 6 0 ∷ enter Name.LabelEnd 1 7 6 0 ∷ enter Name.LabelMarker 1 7 6 0 ∷ exit Name.LabelMarker 1 8 7 0 ∷ exit Name.LabelEnd 1 8 7 0 ∷ exit Name.Label 1 8 7 0 ∷ enter Name.Resource 1 8 7 0 ∷ enter Name.ResourceMarker 1 8 7 0 ∷ exit Name.ResourceMarker 1 9 8 0 ∷ enter Name.ResourceDestination 1 9 8 0 ∷ enter Name.ResourceDestinationRaw 1 9 8 0 ∷ enter Name.ResourceDestinationString 1 9 8 0 ∷ chained Name.Data 1 9 8 0 None None ∷ exit Name.Data 1 10 9 0 ∷ exit Name.ResourceDestinationString 1 10 9 0 ∷ exit Name.ResourceDestinationRaw 1 10 9 0 ∷ exit Name.ResourceDestination 1 10 9 0 ∷ enter Name.ResourceMarker 1 10 9 0 ∷ exit Name.ResourceMarker 1 11 10 0 ∷ exit Name.Resource 1 11 10 0 ∷ exit Name.Link 1 11 10 0 ∷ exit Name.LabelText 1 11 10 0 ∷ enter Name.LabelEnd 1 11 10 0 ∷ enter Name.LabelMarker 1 11 10 0 ∷ exit Name.LabelMarker 1 12 11 0 ∷ exit Name.LabelEnd 1 12 11 0 ∷ exit Name.Label 1 12 11 0 ∷ enter Name.Resource 1 12 11 0 ∷ enter Name.ResourceMarker 1 12 11 0 ∷ exit Name.ResourceMarker 1 13 12 0 ∷ enter Name.ResourceDestination 1 13 12 0 ∷ enter Name.ResourceDestinationRaw 1 13 12 0 ∷ enter Name.ResourceDestinationString 1 13 12 0 ∷ chained Name.Data 1 13 12 0 None None ∷ exit Name.Data 1 14 13 0 ∷ exit Name.ResourceDestinationString 1 14 13 0 ∷ exit Name.ResourceDestinationRaw 1 14 13 0 ∷ exit Name.ResourceDestination 1 14 13 0 ∷ enter Name.ResourceMarker 1 14 13 0 ∷ exit Name.ResourceMarker 1 15 14 0 ∷ exit Name.Resource 1 15 14 0 ∷ exit Name.Image 1 15 14 0 ∷ [])) ×
    -- text outer «[![a](b)](c)»: Link 0-12
    (text_outline (default) (codes "[![a](b)](c)") (piece 0 0 12 0 ∷ []) ≡ (enter Name.Link 1 1 0 0 ∷ exit Name.Link 1 13 12 0 ∷ [])) ×
    -- text outer «[![[a](b)](c)](d)»: Data 0-1, Image 1-13, Data 13-17
    (text_outline (default) (codes "[![[a](b)](c)](d)") (piece 0 0 17 0 ∷ []) ≡ (enter Name.Data 1 1 0 0 ∷ exit Name.Data 1 2 1 0 ∷ enter Name.Image 1 2 1 0 ∷ exit Name.Image 1 14 13 0 ∷ enter Name.Data 1 14 13 0 ∷ exit Name.Data 1 18 17 0 ∷ [])) ×
    -- text «[]](c)»: Data 0-6
    (text_answer (default) (codes "[]](c)") (piece 0 0 6 0 ∷ []) ≡ (enter Name.Data 1 1 0 0 ∷ exit Name.Data 1 7 6 0 ∷ [])) ×
    -- text outer «![a](b)](c)»: Image 0-7, Data 7-11
    (text_outline (default) (codes "![a](b)](c)") (piece 0 0 11 0 ∷ []) ≡ (enter Name.Image 1 1 0 0 ∷ exit Name.Image 1 8 7 0 ∷ enter Name.Data 1 8 7 0 ∷ exit Name.Data 1 12 11 0 ∷ [])) ×
    -- text outer «[a](b)](c)»: Link 0-6, Data 6-10
    (text_outline (default) (codes "[a](b)](c)") (piece 0 0 10 0 ∷ []) ≡ (enter Name.Link 1 1 0 0 ∷ exit Name.Link 1 7 6 0 ∷ enter Name.Data 1 7 6 0 ∷ exit Name.Data 1 11 10 0 ∷ [])) ×
    -- text outer «[a](b [c](d)»: Data 0-6, Link 6-12
    (text_outline (default) (codes "[a](b [c](d)") (piece 0 0 12 0 ∷ []) ≡ (enter Name.Data 1 1 0 0 ∷ exit Name.Data 1 7 6 0 ∷ enter Name.Link 1 7 6 0 ∷ exit Name.Link 1 13 12 0 ∷ [])) ×
    -- text outer «[a](<b>"c")»: Data 0-4, HtmlText 4-7, Data 7-11
    (text_outline (default) (codes "[a](<b>\"c\")") (piece 0 0 11 0 ∷ []) ≡ (enter Name.Data 1 1 0 0 ∷ exit Name.Data 1 5 4 0 ∷ enter Name.HtmlText 1 5 4 0 ∷ exit Name.HtmlText 1 8 7 0 ∷ enter Name.Data 1 8 7 0 ∷ exit Name.Data 1 12 11 0 ∷ [])) ×
    -- text outer «[a](b )[a]( b)[a]()[a]( )»: Link 0-7, Link 7-14, Link 14-19, Link 19-25
    (text_outline (default) (codes "[a](b )[a]( b)[a]()[a]( )") (piece 0 0 25 0 ∷ []) ≡ (enter Name.Link 1 1 0 0 ∷ exit Name.Link 1 8 7 0 ∷ enter Name.Link 1 8 7 0 ∷ exit Name.Link 1 15 14 0 ∷ enter Name.Link 1 15 14 0 ∷ exit Name.Link 1 20 19 0 ∷ enter Name.Link 1 20 19 0 ∷ exit Name.Link 1 26 25 0 ∷ [])) ×
    -- text «[a](b 'c')»: Link 0-10 [Label 0-3 [LabelLink 0-1, LabelText 1-2 [Data 1-2], LabelEnd 2-3], Resource 3-10 [ResourceMarker 3-4, Raw 4-5, SpaceOrTab 5-6, ResourceTitle 6-9 [ResourceTitleMarker 6-7, ResourceTitleString 7-8 [Data 7-8], ResourceTitleMarker 8-9], ResourceMarker 9-10]]
    (text_answer (default) (codes "[a](b 'c')") (piece 0 0 10 0 ∷ []) ≡ (enter Name.Link 1 1 0 0 ∷ enter Name.Label 1 1 0 0 ∷ enter Name.LabelLink 1 1 0 0 ∷ enter Name.LabelMarker 1 1 0 0 ∷ exit Name.LabelMarker 1 2 1 0 ∷ exit Name.LabelLink 1 2 1 0 ∷ enter Name.LabelText 1 2 1 0 ∷ enter Name.Data 1 2 1 0 ∷ exit Name.Data 1 3 2 0 ∷ exit Name.LabelText 1 3 2 0 ∷ enter Name.LabelEnd 1 3 2 0 ∷ enter Name.LabelMarker 1 3 2 0 ∷ exit Name.LabelMarker 1 4 3 0 ∷ exit Name.LabelEnd 1 4 3 0 ∷ exit Name.Label 1 4 3 0 ∷ enter Name.Resource 1 4 3 0 ∷ enter Name.ResourceMarker 1 4 3 0 ∷ exit Name.ResourceMarker 1 5 4 0 ∷ enter Name.ResourceDestination 1 5 4 0 ∷ enter Name.ResourceDestinationRaw 1 5 4 0 ∷ enter Name.ResourceDestinationString 1 5 4 0 ∷ chained Name.Data 1 5 4 0 None None ∷ exit Name.Data 1 6 5 0 ∷ exit Name.ResourceDestinationString 1 6 5 0 ∷ exit Name.ResourceDestinationRaw 1 6 5 0 ∷ exit Name.ResourceDestination 1 6 5 0 ∷ enter Name.SpaceOrTab 1 6 5 0 ∷ exit Name.SpaceOrTab 1 7 6 0 ∷ enter Name.ResourceTitle 1 7 6 0 ∷ enter Name.ResourceTitleMarker 1 7 6 0 ∷ exit Name.ResourceTitleMarker 1 8 7 0 ∷ enter Name.ResourceTitleString 1 8 7 0 ∷ chained Name.Data 1 8 7 0 None None ∷ exit Name.Data 1 9 8 0 ∷ exit Name.ResourceTitleString 1 9 8 0 ∷ enter Name.ResourceTitleMarker 1 9 8 0 ∷ exit Name.ResourceTitleMarker 1 10 9 0 ∷ exit Name.ResourceTitle 1 10 9 0 ∷ enter Name.ResourceMarker 1 10 9 0 ∷ exit Name.ResourceMarker 1 11 10 0 ∷ exit Name.Resource 1 11 10 0 ∷ exit Name.Link 1 11 10 0 ∷ [])) ×
    -- text outer «[a](b (c))[a](b "c")»: Link 0-10, Link 10-20
    (text_outline (default) (codes "[a](b (c))[a](b \"c\")") (piece 0 0 20 0 ∷ []) ≡ (enter Name.Link 1 1 0 0 ∷ exit Name.Link 1 11 10 0 ∷ enter Name.Link 1 11 10 0 ∷ exit Name.Link 1 21 20 0 ∷ [])) ×
    -- text «[a](b "c␠␊d")»: Link 0-13 [Label 0-3 [LabelLink 0-1, LabelText 1-2 [Data 1-2], LabelEnd 2-3], Resource 3-13 [ResourceMarker 3-4, Raw 4-5, SpaceOrTab 5-6, ResourceTitle 6-12 [ResourceTitleMarker 6-7, ResourceTitleString 7-11 [Data 7-9, LineEnding 9-10, Data 10-11], ResourceTitleMarker 11-12], ResourceMarker 12-13]]
    (text_answer (default) (91 ∷ 97 ∷ 93 ∷ 40 ∷ 98 ∷ 32 ∷ 34 ∷ 99 ∷ 32 ∷ 10 ∷ 100 ∷ 34 ∷ 41 ∷ []) (piece 0 0 13 0 ∷ []) ≡ (enter Name.Link 1 1 0 0 ∷ enter Name.Label 1 1 0 0 ∷ enter Name.LabelLink 1 1 0 0 ∷ enter Name.LabelMarker 1 1 0 0 ∷ exit Name.LabelMarker 1 2 1 0 ∷ exit Name.LabelLink 1 2 1 0 ∷ enter Name.LabelText 1 2 1 0 ∷ enter Name.Data 1 2 1 0 ∷ exit Name.Data 1 3 2 0 ∷ exit Name.LabelText 1 3 2 0 ∷ enter Name.LabelEnd 1 3 2 0 ∷ enter Name.LabelMarker 1 3 2 0 ∷ exit Name.LabelMarker 1 4 3 0 ∷ exit Name.LabelEnd 1 4 3 0 ∷ exit Name.Label 1 4 3 0 ∷ enter Name.Resource 1 4 3 0 ∷ enter Name.ResourceMarker 1 4 3 0 ∷ exit Name.ResourceMarker 1 5 4 0 ∷ enter Name.ResourceDestination 1 5 4 0 ∷ enter Name.ResourceDestinationRaw 1 5 4 0 ∷ enter Name.ResourceDestinationString 1 5 4 0 ∷ chained Name.Data 1 5 4 0 None None ∷ exit Name.Data 1 6 5 0 ∷ exit Name.ResourceDestinationString 1 6 5 0 ∷ exit Name.ResourceDestinationRaw 1 6 5 0 ∷ exit Name.ResourceDestination 1 6 5 0 ∷ enter Name.SpaceOrTab 1 6 5 0 ∷ exit Name.SpaceOrTab 1 7 6 0 ∷ enter Name.ResourceTitle 1 7 6 0 ∷ enter Name.ResourceTitleMarker 1 7 6 0 ∷ exit Name.ResourceTitleMarker 1 8 7 0 ∷ enter Name.ResourceTitleString 1 8 7 0 ∷ chained Name.Data 1 8 7 0 None (Some 34) ∷ exit Name.Data 1 10 9 0 ∷ chained Name.LineEnding 1 10 9 0 (Some 32) (Some 36) ∷ exit Name.LineEnding 2 1 10 0 ∷ chained Name.Data 2 1 10 0 (Some 34) None ∷ exit Name.Data 2 2 11 0 ∷ exit Name.ResourceTitleString 2 2 11 0 ∷ enter Name.ResourceTitleMarker 2 2 11 0 ∷ exit Name.ResourceTitleMarker 2 3 12 0 ∷ exit Name.ResourceTitle 2 3 12 0 ∷ enter Name.ResourceMarker 2 3 12 0 ∷ exit Name.ResourceMarker 2 4 13 0 ∷ exit Name.Resource 2 4 13 0 ∷ exit Name.Link 2 4 13 0 ∷ [])) ×
    -- text «[a](b "\"")»: Link 0-11 [Label 0-3 [LabelLink 0-1, LabelText 1-2 [Data 1-2], LabelEnd 2-3], Resource 3-11 [ResourceMarker 3-4, Raw 4-5, SpaceOrTab 5-6, ResourceTitle 6-10 [ResourceTitleMarker 6-7, ResourceTitleString 7-9 [Data 7-9], ResourceTitleMarker 9-10], ResourceMarker 10-11]]
    (text_answer (default) (codes "[a](b \"\\\"\")") (piece 0 0 11 0 ∷ []) ≡ (enter Name.Link 1 1 0 0 ∷ enter Name.Label 1 1 0 0 ∷ enter Name.LabelLink 1 1 0 0 ∷ enter Name.LabelMarker 1 1 0 0 ∷ exit Name.LabelMarker 1 2 1 0 ∷ exit Name.LabelLink 1 2 1 0 ∷ enter Name.LabelText 1 2 1 0 ∷ enter Name.Data 1 2 1 0 ∷ exit Name.Data 1 3 2 0 ∷ exit Name.LabelText 1 3 2 0 ∷ enter Name.LabelEnd 1 3 2 0 ∷ enter Name.LabelMarker 1 3 2 0 ∷ exit Name.LabelMarker 1 4 3 0 ∷ exit Name.LabelEnd 1 4 3 0 ∷ exit Name.Label 1 4 3 0 ∷ enter Name.Resource 1 4 3 0 ∷ enter Name.ResourceMarker 1 4 3 0 ∷ exit Name.ResourceMarker 1 5 4 0 ∷ enter Name.ResourceDestination 1 5 4 0 ∷ enter Name.ResourceDestinationRaw 1 5 4 0 ∷ enter Name.ResourceDestinationString 1 5 4 0 ∷ chained Name.Data 1 5 4 0 None None ∷ exit Name.Data 1 6 5 0 ∷ exit Name.ResourceDestinationString 1 6 5 0 ∷ exit Name.ResourceDestinationRaw 1 6 5 0 ∷ exit Name.ResourceDestination 1 6 5 0 ∷ enter Name.SpaceOrTab 1 6 5 0 ∷ exit Name.SpaceOrTab 1 7 6 0 ∷ enter Name.ResourceTitle 1 7 6 0 ∷ enter Name.ResourceTitleMarker 1 7 6 0 ∷ exit Name.ResourceTitleMarker 1 8 7 0 ∷ enter Name.ResourceTitleString 1 8 7 0 ∷ chained Name.Data 1 8 7 0 None None ∷ exit Name.Data 1 10 9 0 ∷ exit Name.ResourceTitleString 1 10 9 0 ∷ enter Name.ResourceTitleMarker 1 10 9 0 ∷ exit Name.ResourceTitleMarker 1 11 10 0 ∷ exit Name.ResourceTitle 1 11 10 0 ∷ enter Name.ResourceMarker 1 11 10 0 ∷ exit Name.ResourceMarker 1 12 11 0 ∷ exit Name.Resource 1 12 11 0 ∷ exit Name.Link 1 12 11 0 ∷ [])) ×
    -- text «[ a ](b)»: Link 0-8 [Label 0-5 [LabelLink 0-1, LabelText 1-4 [Data 1-4], LabelEnd 4-5], Resource 5-8 [ResourceMarker 5-6, Raw 6-7, ResourceMarker 7-8]]
    (text_answer (default) (codes "[ a ](b)") (piece 0 0 8 0 ∷ []) ≡ (enter Name.Link 1 1 0 0 ∷ enter Name.Label 1 1 0 0 ∷ enter Name.LabelLink 1 1 0 0 ∷ enter Name.LabelMarker 1 1 0 0 ∷ exit Name.LabelMarker 1 2 1 0 ∷ exit Name.LabelLink 1 2 1 0 ∷ enter Name.LabelText 1 2 1 0 ∷ enter Name.Data 1 2 1 0 ∷ exit Name.Data 1 5 4 0 ∷ exit Name.LabelText 1 5 4 0 ∷ enter Name.LabelEnd 1 5 4 0 ∷ enter Name.LabelMarker 1 5 4 0 ∷ exit Name.LabelMarker 1 6 5 0 ∷ exit Name.LabelEnd 1 6 5 0 ∷ exit Name.Label 1 6 5 0 ∷ enter Name.Resource 1 6 5 0 ∷ enter Name.ResourceMarker 1 6 5 0 ∷ exit Name.ResourceMarker 1 7 6 0 ∷ enter Name.ResourceDestination 1 7 6 0 ∷ enter Name.ResourceDestinationRaw 1 7 6 0 ∷ enter Name.ResourceDestinationString 1 7 6 0 ∷ chained Name.Data 1 7 6 0 None None ∷ exit Name.Data 1 8 7 0 ∷ exit Name.ResourceDestinationString 1 8 7 0 ∷ exit Name.ResourceDestinationRaw 1 8 7 0 ∷ exit Name.ResourceDestination 1 8 7 0 ∷ enter Name.ResourceMarker 1 8 7 0 ∷ exit Name.ResourceMarker 1 9 8 0 ∷ exit Name.Resource 1 9 8 0 ∷ exit Name.Link 1 9 8 0 ∷ [])) ×
    -- text «[a](<b␊c>)»: Data 0-4, HtmlText 4-9 [HtmlTextData 4-6, LineEnding 6-7, HtmlTextData 7-9], Data 9-10
    (text_answer (default) (91 ∷ 97 ∷ 93 ∷ 40 ∷ 60 ∷ 98 ∷ 10 ∷ 99 ∷ 62 ∷ 41 ∷ []) (piece 0 0 10 0 ∷ []) ≡ (enter Name.Data 1 1 0 0 ∷ exit Name.Data 1 5 4 0 ∷ enter Name.HtmlText 1 5 4 0 ∷ enter Name.HtmlTextData 1 5 4 0 ∷ exit Name.HtmlTextData 1 7 6 0 ∷ enter Name.LineEnding 1 7 6 0 ∷ exit Name.LineEnding 2 1 7 0 ∷ enter Name.HtmlTextData 2 1 7 0 ∷ exit Name.HtmlTextData 2 3 9 0 ∷ exit Name.HtmlText 2 3 9 0 ∷ enter Name.Data 2 3 9 0 ∷ exit Name.Data 2 4 10 0 ∷ [])) ×
    -- text «[a](<b<c>)»: Data 0-6, HtmlText 6-9 [HtmlTextData 6-9], Data 9-10
    (text_answer (default) (codes "[a](<b<c>)") (piece 0 0 10 0 ∷ []) ≡ (enter Name.Data 1 1 0 0 ∷ exit Name.Data 1 7 6 0 ∷ enter Name.HtmlText 1 7 6 0 ∷ enter Name.HtmlTextData 1 7 6 0 ∷ exit Name.HtmlTextData 1 10 9 0 ∷ exit Name.HtmlText 1 10 9 0 ∷ enter Name.Data 1 10 9 0 ∷ exit Name.Data 1 11 10 0 ∷ [])) ×
    -- text «[a»: Data 0-2
    (text_answer (default) (codes "[a") (piece 0 0 2 0 ∷ []) ≡ (enter Name.Data 1 1 0 0 ∷ exit Name.Data 1 3 2 0 ∷ [])) ×
    -- text «]a»: Data 0-2
    (text_answer (default) (codes "]a") (piece 0 0 2 0 ∷ []) ≡ (enter Name.Data 1 1 0 0 ∷ exit Name.Data 1 3 2 0 ∷ [])) ×
    -- text outer «*[a](b*c)»: Data 0-1, Link 1-9
    (text_outline (default) (codes "*[a](b*c)") (piece 0 0 9 0 ∷ []) ≡ (enter Name.Data 1 1 0 0 ∷ exit Name.Data 1 2 1 0 ∷ enter Name.Link 1 2 1 0 ∷ exit Name.Link 1 10 9 0 ∷ [])) ×
    -- text «![a]»: Data 0-4
    (text_answer (default) (codes "![a]") (piece 0 0 4 0 ∷ []) ≡ (enter Name.Data 1 1 0 0 ∷ exit Name.Data 1 5 4 0 ∷ [])) ×
    -- text «!a»: Data 0-2
    (text_answer (default) (codes "!a") (piece 0 0 2 0 ∷ []) ≡ (enter Name.Data 1 1 0 0 ∷ exit Name.Data 1 3 2 0 ∷ [])) ×
    -- text «[a](b\\)»: Link 0-8 [Label 0-3 [LabelLink 0-1, LabelText 1-2 [Data 1-2], LabelEnd 2-3], Resource 3-8 [ResourceMarker 3-4, Raw 4-7, ResourceMarker 7-8]]
    (text_answer (default) (codes "[a](b\\\\)") (piece 0 0 8 0 ∷ []) ≡ (enter Name.Link 1 1 0 0 ∷ enter Name.Label 1 1 0 0 ∷ enter Name.LabelLink 1 1 0 0 ∷ enter Name.LabelMarker 1 1 0 0 ∷ exit Name.LabelMarker 1 2 1 0 ∷ exit Name.LabelLink 1 2 1 0 ∷ enter Name.LabelText 1 2 1 0 ∷ enter Name.Data 1 2 1 0 ∷ exit Name.Data 1 3 2 0 ∷ exit Name.LabelText 1 3 2 0 ∷ enter Name.LabelEnd 1 3 2 0 ∷ enter Name.LabelMarker 1 3 2 0 ∷ exit Name.LabelMarker 1 4 3 0 ∷ exit Name.LabelEnd 1 4 3 0 ∷ exit Name.Label 1 4 3 0 ∷ enter Name.Resource 1 4 3 0 ∷ enter Name.ResourceMarker 1 4 3 0 ∷ exit Name.ResourceMarker 1 5 4 0 ∷ enter Name.ResourceDestination 1 5 4 0 ∷ enter Name.ResourceDestinationRaw 1 5 4 0 ∷ enter Name.ResourceDestinationString 1 5 4 0 ∷ chained Name.Data 1 5 4 0 None None ∷ exit Name.Data 1 8 7 0 ∷ exit Name.ResourceDestinationString 1 8 7 0 ∷ exit Name.ResourceDestinationRaw 1 8 7 0 ∷ exit Name.ResourceDestination 1 8 7 0 ∷ enter Name.ResourceMarker 1 8 7 0 ∷ exit Name.ResourceMarker 1 9 8 0 ∷ exit Name.Resource 1 9 8 0 ∷ exit Name.Link 1 9 8 0 ∷ []))

abbrev pub Labels : Type 0
Labels =
    -- text «[a]»: Data 0-3
    (text_answer (default) (codes "[a]") (piece 0 0 3 0 ∷ []) ≡ (enter Name.Data 1 1 0 0 ∷ exit Name.Data 1 4 3 0 ∷ [])) ×
    -- text footnote=a «[a]»: Data 0-3
    (text_answer (record default { footnotes = (codes "a") ∷ [] }) (codes "[a]") (piece 0 0 3 0 ∷ []) ≡ (enter Name.Data 1 1 0 0 ∷ exit Name.Data 1 4 3 0 ∷ [])) ×
    -- text gfm footnote=a «[a]»: Data 0-3
    (text_answer (record default { options = record default_options { constructs = record default_constructs { gfm_autolink_literal = true; gfm_label_start_footnote = true; gfm_strikethrough = true; gfm_task_list_item = true } }; footnotes = (codes "a") ∷ [] }) (codes "[a]") (piece 0 0 3 0 ∷ []) ≡ (enter Name.Data 1 1 0 0 ∷ exit Name.Data 1 4 3 0 ∷ [])) ×
    -- text gfm «[^a]»: Data 0-4
    (text_answer (record default { options = record default_options { constructs = record default_constructs { gfm_autolink_literal = true; gfm_label_start_footnote = true; gfm_strikethrough = true; gfm_task_list_item = true } } }) (codes "[^a]") (piece 0 0 4 0 ∷ []) ≡ (enter Name.Data 1 1 0 0 ∷ exit Name.Data 1 5 4 0 ∷ [])) ×
    -- text «[a][]»: Data 0-5
    (text_answer (default) (codes "[a][]") (piece 0 0 5 0 ∷ []) ≡ (enter Name.Data 1 1 0 0 ∷ exit Name.Data 1 6 5 0 ∷ [])) ×
    -- text definition=a «[a][x]»: Data 0-6
    (text_answer (record default { definitions = (codes "a") ∷ [] }) (codes "[a][x]") (piece 0 0 6 0 ∷ []) ≡ (enter Name.Data 1 1 0 0 ∷ exit Name.Data 1 7 6 0 ∷ [])) ×
    -- text outer definition=a «[a](b)»: Link 0-6
    (text_outline (record default { definitions = (codes "a") ∷ [] }) (codes "[a](b)") (piece 0 0 6 0 ∷ []) ≡ (enter Name.Link 1 1 0 0 ∷ exit Name.Link 1 7 6 0 ∷ [])) ×
    -- text outer definition=b «[a] [b]»: Data 0-4, Link 4-7
    (text_outline (record default { definitions = (codes "b") ∷ [] }) (codes "[a] [b]") (piece 0 0 7 0 ∷ []) ≡ (enter Name.Data 1 1 0 0 ∷ exit Name.Data 1 5 4 0 ∷ enter Name.Link 1 5 4 0 ∷ exit Name.Link 1 8 7 0 ∷ [])) ×
    -- text outer definition=b «[a] [b]» 0-7: Data 0-4, Link 4-7
    (text_outline (record default { definitions = (codes "b") ∷ [] }) (codes "[a] [b]") (piece 0 0 7 0 ∷ []) ≡ (enter Name.Data 1 1 0 0 ∷ exit Name.Data 1 5 4 0 ∷ enter Name.Link 1 5 4 0 ∷ exit Name.Link 1 8 7 0 ∷ [])) ×
    -- text outer definition=a␠b «[ a␊ b ]»: Link 0-8
    (text_outline (record default { definitions = (codes "a b") ∷ [] }) (91 ∷ 32 ∷ 97 ∷ 10 ∷ 32 ∷ 98 ∷ 32 ∷ 93 ∷ []) (piece 0 0 8 0 ∷ []) ≡ (enter Name.Link 1 1 0 0 ∷ exit Name.Link 2 5 8 0 ∷ [])) ×
    -- text outer definition=a «![A][]»: Image 0-6
    (text_outline (record default { definitions = (codes "a") ∷ [] }) (codes "![A][]") (piece 0 0 6 0 ∷ []) ≡ (enter Name.Image 1 1 0 0 ∷ exit Name.Image 1 7 6 0 ∷ [])) ×
    -- text outer definition=b «[a][B] [a][ b ]»: Link 0-6, Data 6-7, Link 7-15
    (text_outline (record default { definitions = (codes "b") ∷ [] }) (codes "[a][B] [a][ b ]") (piece 0 0 15 0 ∷ []) ≡ (enter Name.Link 1 1 0 0 ∷ exit Name.Link 1 7 6 0 ∷ enter Name.Data 1 7 6 0 ∷ exit Name.Data 1 8 7 0 ∷ enter Name.Link 1 8 7 0 ∷ exit Name.Link 1 16 15 0 ∷ [])) ×
    -- text definition=\\ «[x][\\]»: Link 0-7 [Label 0-3 [LabelLink 0-1, LabelText 1-2 [Data 1-2], LabelEnd 2-3], Reference 3-7 [ReferenceMarker 3-4, ReferenceString 4-6 [Data 4-6], ReferenceMarker 6-7]]
    (text_answer (record default { definitions = (codes "\\\\") ∷ [] }) (codes "[x][\\\\]") (piece 0 0 7 0 ∷ []) ≡ (enter Name.Link 1 1 0 0 ∷ enter Name.Label 1 1 0 0 ∷ enter Name.LabelLink 1 1 0 0 ∷ enter Name.LabelMarker 1 1 0 0 ∷ exit Name.LabelMarker 1 2 1 0 ∷ exit Name.LabelLink 1 2 1 0 ∷ enter Name.LabelText 1 2 1 0 ∷ enter Name.Data 1 2 1 0 ∷ exit Name.Data 1 3 2 0 ∷ exit Name.LabelText 1 3 2 0 ∷ enter Name.LabelEnd 1 3 2 0 ∷ enter Name.LabelMarker 1 3 2 0 ∷ exit Name.LabelMarker 1 4 3 0 ∷ exit Name.LabelEnd 1 4 3 0 ∷ exit Name.Label 1 4 3 0 ∷ enter Name.Reference 1 4 3 0 ∷ enter Name.ReferenceMarker 1 4 3 0 ∷ exit Name.ReferenceMarker 1 5 4 0 ∷ enter Name.ReferenceString 1 5 4 0 ∷ chained Name.Data 1 5 4 0 None None ∷ exit Name.Data 1 7 6 0 ∷ exit Name.ReferenceString 1 7 6 0 ∷ enter Name.ReferenceMarker 1 7 6 0 ∷ exit Name.ReferenceMarker 1 8 7 0 ∷ exit Name.Reference 1 8 7 0 ∷ exit Name.Link 1 8 7 0 ∷ [])) ×
    -- text definition=\[ «[x][\[]»: Link 0-7 [Label 0-3 [LabelLink 0-1, LabelText 1-2 [Data 1-2], LabelEnd 2-3], Reference 3-7 [ReferenceMarker 3-4, ReferenceString 4-6 [Data 4-6], ReferenceMarker 6-7]]
    (text_answer (record default { definitions = (codes "\\[") ∷ [] }) (codes "[x][\\[]") (piece 0 0 7 0 ∷ []) ≡ (enter Name.Link 1 1 0 0 ∷ enter Name.Label 1 1 0 0 ∷ enter Name.LabelLink 1 1 0 0 ∷ enter Name.LabelMarker 1 1 0 0 ∷ exit Name.LabelMarker 1 2 1 0 ∷ exit Name.LabelLink 1 2 1 0 ∷ enter Name.LabelText 1 2 1 0 ∷ enter Name.Data 1 2 1 0 ∷ exit Name.Data 1 3 2 0 ∷ exit Name.LabelText 1 3 2 0 ∷ enter Name.LabelEnd 1 3 2 0 ∷ enter Name.LabelMarker 1 3 2 0 ∷ exit Name.LabelMarker 1 4 3 0 ∷ exit Name.LabelEnd 1 4 3 0 ∷ exit Name.Label 1 4 3 0 ∷ enter Name.Reference 1 4 3 0 ∷ enter Name.ReferenceMarker 1 4 3 0 ∷ exit Name.ReferenceMarker 1 5 4 0 ∷ enter Name.ReferenceString 1 5 4 0 ∷ chained Name.Data 1 5 4 0 None None ∷ exit Name.Data 1 7 6 0 ∷ exit Name.ReferenceString 1 7 6 0 ∷ enter Name.ReferenceMarker 1 7 6 0 ∷ exit Name.ReferenceMarker 1 8 7 0 ∷ exit Name.Reference 1 8 7 0 ∷ exit Name.Link 1 8 7 0 ∷ [])) ×
    -- text outer definition=⟦a×998⟧␠a «[x][⟦a×998⟧␊  a]»: Link 0-1007
    (text_outline (record default { definitions = (codes "aaaaaaaaaaaaaaaaaaaaaaaaaaaaaaaaaaaaaaaaaaaaaaaaaaaaaaaaaaaaaaaaaaaaaaaaaaaaaaaaaaaaaaaaaaaaaaaaaaaaaaaaaaaaaaaaaaaaaaaaaaaaaaaaaaaaaaaaaaaaaaaaaaaaaaaaaaaaaaaaaaaaaaaaaaaaaaaaaaaaaaaaaaaaaaaaaaaaaaaaaaaaaaaaaaaaaaaaaaaaaaaaaaaaaaaaaaaaaaaaaaaaaaaaaaaaaaaaaaaaaaaaaaaaaaaaaaaaaaaaaaaaaaaaaaaaaaaaaaaaaaaaaaaaaaaaaaaaaaaaaaaaaaaaaaaaaaaaaaaaaaaaaaaaaaaaaaaaaaaaaaaaaaaaaaaaaaaaaaaaaaaaaaaaaaaaaaaaaaaaaaaaaaaaaaaaaaaaaaaaaaaaaaaaaaaaaaaaaaaaaaaaaaaaaaaaaaaaaaaaaaaaaaaaaaaaaaaaaaaaaaaaaaaaaaaaaaaaaaaaaaaaaaaaaaaaaaaaaaaaaaaaaaaaaaaaaaaaaaaaaaaaaaaaaaaaaaaaaaaaaaaaaaaaaaaaaaaaaaaaaaaaaaaaaaaaaaaaaaaaaaaaaaaaaaaaaaaaaaaaaaaaaaaaaaaaaaaaaaaaaaaaaaaaaaaaaaaaaaaaaaaaaaaaaaaaaaaaaaaaaaaaaaaaaaaaaaaaaaaaaaaaaaaaaaaaaaaaaaaaaaaaaaaaaaaaaaaaaaaaaaaaaaaaaaaaaaaaaaaaaaaaaaaaaaaaaaaaaaaaaaaaaaaaaaaaaaaaaaaaaaaaaaaaaaaaaaaaaaaaaaaaaaaaaaaaaaaaaaaaaaaaaaaaaaaaaaaaaaaaaaaaaaaaaaaaaaaaaaaaaaaaaaaaaaaaaaaaaaaaaaaaaaaaaaaaaaaaaaaaaaaaaaaaaaaaaaaaaaaaaaaaaaaaaaaaaaaaaaaaaaaaaaaaaaaaaaaaaaaaaaaaaaaaaaaaaaaaaa a") ∷ [] }) (91 ∷ 120 ∷ 93 ∷ 91 ∷ 97 ∷ 97 ∷ 97 ∷ 97 ∷ 97 ∷ 97 ∷ 97 ∷ 97 ∷ 97 ∷ 97 ∷ 97 ∷ 97 ∷ 97 ∷ 97 ∷ 97 ∷ 97 ∷ 97 ∷ 97 ∷ 97 ∷ 97 ∷ 97 ∷ 97 ∷ 97 ∷ 97 ∷ 97 ∷ 97 ∷ 97 ∷ 97 ∷ 97 ∷ 97 ∷ 97 ∷ 97 ∷ 97 ∷ 97 ∷ 97 ∷ 97 ∷ 97 ∷ 97 ∷ 97 ∷ 97 ∷ 97 ∷ 97 ∷ 97 ∷ 97 ∷ 97 ∷ 97 ∷ 97 ∷ 97 ∷ 97 ∷ 97 ∷ 97 ∷ 97 ∷ 97 ∷ 97 ∷ 97 ∷ 97 ∷ 97 ∷ 97 ∷ 97 ∷ 97 ∷ 97 ∷ 97 ∷ 97 ∷ 97 ∷ 97 ∷ 97 ∷ 97 ∷ 97 ∷ 97 ∷ 97 ∷ 97 ∷ 97 ∷ 97 ∷ 97 ∷ 97 ∷ 97 ∷ 97 ∷ 97 ∷ 97 ∷ 97 ∷ 97 ∷ 97 ∷ 97 ∷ 97 ∷ 97 ∷ 97 ∷ 97 ∷ 97 ∷ 97 ∷ 97 ∷ 97 ∷ 97 ∷ 97 ∷ 97 ∷ 97 ∷ 97 ∷ 97 ∷ 97 ∷ 97 ∷ 97 ∷ 97 ∷ 97 ∷ 97 ∷ 97 ∷ 97 ∷ 97 ∷ 97 ∷ 97 ∷ 97 ∷ 97 ∷ 97 ∷ 97 ∷ 97 ∷ 97 ∷ 97 ∷ 97 ∷ 97 ∷ 97 ∷ 97 ∷ 97 ∷ 97 ∷ 97 ∷ 97 ∷ 97 ∷ 97 ∷ 97 ∷ 97 ∷ 97 ∷ 97 ∷ 97 ∷ 97 ∷ 97 ∷ 97 ∷ 97 ∷ 97 ∷ 97 ∷ 97 ∷ 97 ∷ 97 ∷ 97 ∷ 97 ∷ 97 ∷ 97 ∷ 97 ∷ 97 ∷ 97 ∷ 97 ∷ 97 ∷ 97 ∷ 97 ∷ 97 ∷ 97 ∷ 97 ∷ 97 ∷ 97 ∷ 97 ∷ 97 ∷ 97 ∷ 97 ∷ 97 ∷ 97 ∷ 97 ∷ 97 ∷ 97 ∷ 97 ∷ 97 ∷ 97 ∷ 97 ∷ 97 ∷ 97 ∷ 97 ∷ 97 ∷ 97 ∷ 97 ∷ 97 ∷ 97 ∷ 97 ∷ 97 ∷ 97 ∷ 97 ∷ 97 ∷ 97 ∷ 97 ∷ 97 ∷ 97 ∷ 97 ∷ 97 ∷ 97 ∷ 97 ∷ 97 ∷ 97 ∷ 97 ∷ 97 ∷ 97 ∷ 97 ∷ 97 ∷ 97 ∷ 97 ∷ 97 ∷ 97 ∷ 97 ∷ 97 ∷ 97 ∷ 97 ∷ 97 ∷ 97 ∷ 97 ∷ 97 ∷ 97 ∷ 97 ∷ 97 ∷ 97 ∷ 97 ∷ 97 ∷ 97 ∷ 97 ∷ 97 ∷ 97 ∷ 97 ∷ 97 ∷ 97 ∷ 97 ∷ 97 ∷ 97 ∷ 97 ∷ 97 ∷ 97 ∷ 97 ∷ 97 ∷ 97 ∷ 97 ∷ 97 ∷ 97 ∷ 97 ∷ 97 ∷ 97 ∷ 97 ∷ 97 ∷ 97 ∷ 97 ∷ 97 ∷ 97 ∷ 97 ∷ 97 ∷ 97 ∷ 97 ∷ 97 ∷ 97 ∷ 97 ∷ 97 ∷ 97 ∷ 97 ∷ 97 ∷ 97 ∷ 97 ∷ 97 ∷ 97 ∷ 97 ∷ 97 ∷ 97 ∷ 97 ∷ 97 ∷ 97 ∷ 97 ∷ 97 ∷ 97 ∷ 97 ∷ 97 ∷ 97 ∷ 97 ∷ 97 ∷ 97 ∷ 97 ∷ 97 ∷ 97 ∷ 97 ∷ 97 ∷ 97 ∷ 97 ∷ 97 ∷ 97 ∷ 97 ∷ 97 ∷ 97 ∷ 97 ∷ 97 ∷ 97 ∷ 97 ∷ 97 ∷ 97 ∷ 97 ∷ 97 ∷ 97 ∷ 97 ∷ 97 ∷ 97 ∷ 97 ∷ 97 ∷ 97 ∷ 97 ∷ 97 ∷ 97 ∷ 97 ∷ 97 ∷ 97 ∷ 97 ∷ 97 ∷ 97 ∷ 97 ∷ 97 ∷ 97 ∷ 97 ∷ 97 ∷ 97 ∷ 97 ∷ 97 ∷ 97 ∷ 97 ∷ 97 ∷ 97 ∷ 97 ∷ 97 ∷ 97 ∷ 97 ∷ 97 ∷ 97 ∷ 97 ∷ 97 ∷ 97 ∷ 97 ∷ 97 ∷ 97 ∷ 97 ∷ 97 ∷ 97 ∷ 97 ∷ 97 ∷ 97 ∷ 97 ∷ 97 ∷ 97 ∷ 97 ∷ 97 ∷ 97 ∷ 97 ∷ 97 ∷ 97 ∷ 97 ∷ 97 ∷ 97 ∷ 97 ∷ 97 ∷ 97 ∷ 97 ∷ 97 ∷ 97 ∷ 97 ∷ 97 ∷ 97 ∷ 97 ∷ 97 ∷ 97 ∷ 97 ∷ 97 ∷ 97 ∷ 97 ∷ 97 ∷ 97 ∷ 97 ∷ 97 ∷ 97 ∷ 97 ∷ 97 ∷ 97 ∷ 97 ∷ 97 ∷ 97 ∷ 97 ∷ 97 ∷ 97 ∷ 97 ∷ 97 ∷ 97 ∷ 97 ∷ 97 ∷ 97 ∷ 97 ∷ 97 ∷ 97 ∷ 97 ∷ 97 ∷ 97 ∷ 97 ∷ 97 ∷ 97 ∷ 97 ∷ 97 ∷ 97 ∷ 97 ∷ 97 ∷ 97 ∷ 97 ∷ 97 ∷ 97 ∷ 97 ∷ 97 ∷ 97 ∷ 97 ∷ 97 ∷ 97 ∷ 97 ∷ 97 ∷ 97 ∷ 97 ∷ 97 ∷ 97 ∷ 97 ∷ 97 ∷ 97 ∷ 97 ∷ 97 ∷ 97 ∷ 97 ∷ 97 ∷ 97 ∷ 97 ∷ 97 ∷ 97 ∷ 97 ∷ 97 ∷ 97 ∷ 97 ∷ 97 ∷ 97 ∷ 97 ∷ 97 ∷ 97 ∷ 97 ∷ 97 ∷ 97 ∷ 97 ∷ 97 ∷ 97 ∷ 97 ∷ 97 ∷ 97 ∷ 97 ∷ 97 ∷ 97 ∷ 97 ∷ 97 ∷ 97 ∷ 97 ∷ 97 ∷ 97 ∷ 97 ∷ 97 ∷ 97 ∷ 97 ∷ 97 ∷ 97 ∷ 97 ∷ 97 ∷ 97 ∷ 97 ∷ 97 ∷ 97 ∷ 97 ∷ 97 ∷ 97 ∷ 97 ∷ 97 ∷ 97 ∷ 97 ∷ 97 ∷ 97 ∷ 97 ∷ 97 ∷ 97 ∷ 97 ∷ 97 ∷ 97 ∷ 97 ∷ 97 ∷ 97 ∷ 97 ∷ 97 ∷ 97 ∷ 97 ∷ 97 ∷ 97 ∷ 97 ∷ 97 ∷ 97 ∷ 97 ∷ 97 ∷ 97 ∷ 97 ∷ 97 ∷ 97 ∷ 97 ∷ 97 ∷ 97 ∷ 97 ∷ 97 ∷ 97 ∷ 97 ∷ 97 ∷ 97 ∷ 97 ∷ 97 ∷ 97 ∷ 97 ∷ 97 ∷ 97 ∷ 97 ∷ 97 ∷ 97 ∷ 97 ∷ 97 ∷ 97 ∷ 97 ∷ 97 ∷ 97 ∷ 97 ∷ 97 ∷ 97 ∷ 97 ∷ 97 ∷ 97 ∷ 97 ∷ 97 ∷ 97 ∷ 97 ∷ 97 ∷ 97 ∷ 97 ∷ 97 ∷ 97 ∷ 97 ∷ 97 ∷ 97 ∷ 97 ∷ 97 ∷ 97 ∷ 97 ∷ 97 ∷ 97 ∷ 97 ∷ 97 ∷ 97 ∷ 97 ∷ 97 ∷ 97 ∷ 97 ∷ 97 ∷ 97 ∷ 97 ∷ 97 ∷ 97 ∷ 97 ∷ 97 ∷ 97 ∷ 97 ∷ 97 ∷ 97 ∷ 97 ∷ 97 ∷ 97 ∷ 97 ∷ 97 ∷ 97 ∷ 97 ∷ 97 ∷ 97 ∷ 97 ∷ 97 ∷ 97 ∷ 97 ∷ 97 ∷ 97 ∷ 97 ∷ 97 ∷ 97 ∷ 97 ∷ 97 ∷ 97 ∷ 97 ∷ 97 ∷ 97 ∷ 97 ∷ 97 ∷ 97 ∷ 97 ∷ 97 ∷ 97 ∷ 97 ∷ 97 ∷ 97 ∷ 97 ∷ 97 ∷ 97 ∷ 97 ∷ 97 ∷ 97 ∷ 97 ∷ 97 ∷ 97 ∷ 97 ∷ 97 ∷ 97 ∷ 97 ∷ 97 ∷ 97 ∷ 97 ∷ 97 ∷ 97 ∷ 97 ∷ 97 ∷ 97 ∷ 97 ∷ 97 ∷ 97 ∷ 97 ∷ 97 ∷ 97 ∷ 97 ∷ 97 ∷ 97 ∷ 97 ∷ 97 ∷ 97 ∷ 97 ∷ 97 ∷ 97 ∷ 97 ∷ 97 ∷ 97 ∷ 97 ∷ 97 ∷ 97 ∷ 97 ∷ 97 ∷ 97 ∷ 97 ∷ 97 ∷ 97 ∷ 97 ∷ 97 ∷ 97 ∷ 97 ∷ 97 ∷ 97 ∷ 97 ∷ 97 ∷ 97 ∷ 97 ∷ 97 ∷ 97 ∷ 97 ∷ 97 ∷ 97 ∷ 97 ∷ 97 ∷ 97 ∷ 97 ∷ 97 ∷ 97 ∷ 97 ∷ 97 ∷ 97 ∷ 97 ∷ 97 ∷ 97 ∷ 97 ∷ 97 ∷ 97 ∷ 97 ∷ 97 ∷ 97 ∷ 97 ∷ 97 ∷ 97 ∷ 97 ∷ 97 ∷ 97 ∷ 97 ∷ 97 ∷ 97 ∷ 97 ∷ 97 ∷ 97 ∷ 97 ∷ 97 ∷ 97 ∷ 97 ∷ 97 ∷ 97 ∷ 97 ∷ 97 ∷ 97 ∷ 97 ∷ 97 ∷ 97 ∷ 97 ∷ 97 ∷ 97 ∷ 97 ∷ 97 ∷ 97 ∷ 97 ∷ 97 ∷ 97 ∷ 97 ∷ 97 ∷ 97 ∷ 97 ∷ 97 ∷ 97 ∷ 97 ∷ 97 ∷ 97 ∷ 97 ∷ 97 ∷ 97 ∷ 97 ∷ 97 ∷ 97 ∷ 97 ∷ 97 ∷ 97 ∷ 97 ∷ 97 ∷ 97 ∷ 97 ∷ 97 ∷ 97 ∷ 97 ∷ 97 ∷ 97 ∷ 97 ∷ 97 ∷ 97 ∷ 97 ∷ 97 ∷ 97 ∷ 97 ∷ 97 ∷ 97 ∷ 97 ∷ 97 ∷ 97 ∷ 97 ∷ 97 ∷ 97 ∷ 97 ∷ 97 ∷ 97 ∷ 97 ∷ 97 ∷ 97 ∷ 97 ∷ 97 ∷ 97 ∷ 97 ∷ 97 ∷ 97 ∷ 97 ∷ 97 ∷ 97 ∷ 97 ∷ 97 ∷ 97 ∷ 97 ∷ 97 ∷ 97 ∷ 97 ∷ 97 ∷ 97 ∷ 97 ∷ 97 ∷ 97 ∷ 97 ∷ 97 ∷ 97 ∷ 97 ∷ 97 ∷ 97 ∷ 97 ∷ 97 ∷ 97 ∷ 97 ∷ 97 ∷ 97 ∷ 97 ∷ 97 ∷ 97 ∷ 97 ∷ 97 ∷ 97 ∷ 97 ∷ 97 ∷ 97 ∷ 97 ∷ 97 ∷ 97 ∷ 97 ∷ 97 ∷ 97 ∷ 97 ∷ 97 ∷ 97 ∷ 97 ∷ 97 ∷ 97 ∷ 97 ∷ 97 ∷ 97 ∷ 97 ∷ 97 ∷ 97 ∷ 97 ∷ 97 ∷ 97 ∷ 97 ∷ 97 ∷ 97 ∷ 97 ∷ 97 ∷ 97 ∷ 97 ∷ 97 ∷ 97 ∷ 97 ∷ 97 ∷ 97 ∷ 97 ∷ 97 ∷ 97 ∷ 97 ∷ 97 ∷ 97 ∷ 97 ∷ 97 ∷ 97 ∷ 97 ∷ 97 ∷ 97 ∷ 97 ∷ 97 ∷ 97 ∷ 97 ∷ 97 ∷ 97 ∷ 97 ∷ 97 ∷ 97 ∷ 97 ∷ 97 ∷ 97 ∷ 97 ∷ 97 ∷ 97 ∷ 97 ∷ 97 ∷ 97 ∷ 97 ∷ 97 ∷ 97 ∷ 97 ∷ 97 ∷ 97 ∷ 97 ∷ 97 ∷ 97 ∷ 97 ∷ 97 ∷ 97 ∷ 97 ∷ 97 ∷ 97 ∷ 97 ∷ 97 ∷ 97 ∷ 97 ∷ 97 ∷ 97 ∷ 97 ∷ 97 ∷ 97 ∷ 97 ∷ 97 ∷ 97 ∷ 97 ∷ 97 ∷ 97 ∷ 97 ∷ 97 ∷ 97 ∷ 97 ∷ 97 ∷ 97 ∷ 97 ∷ 97 ∷ 97 ∷ 97 ∷ 97 ∷ 97 ∷ 97 ∷ 97 ∷ 97 ∷ 97 ∷ 97 ∷ 97 ∷ 97 ∷ 97 ∷ 97 ∷ 97 ∷ 97 ∷ 97 ∷ 97 ∷ 97 ∷ 97 ∷ 97 ∷ 97 ∷ 97 ∷ 97 ∷ 97 ∷ 97 ∷ 97 ∷ 97 ∷ 97 ∷ 97 ∷ 97 ∷ 97 ∷ 97 ∷ 97 ∷ 97 ∷ 97 ∷ 97 ∷ 97 ∷ 97 ∷ 97 ∷ 97 ∷ 97 ∷ 97 ∷ 97 ∷ 97 ∷ 97 ∷ 97 ∷ 97 ∷ 97 ∷ 97 ∷ 97 ∷ 97 ∷ 97 ∷ 97 ∷ 97 ∷ 97 ∷ 97 ∷ 97 ∷ 97 ∷ 97 ∷ 97 ∷ 97 ∷ 97 ∷ 97 ∷ 97 ∷ 97 ∷ 97 ∷ 97 ∷ 97 ∷ 97 ∷ 97 ∷ 97 ∷ 97 ∷ 97 ∷ 97 ∷ 97 ∷ 97 ∷ 97 ∷ 97 ∷ 97 ∷ 97 ∷ 97 ∷ 97 ∷ 97 ∷ 97 ∷ 97 ∷ 97 ∷ 97 ∷ 97 ∷ 97 ∷ 97 ∷ 97 ∷ 97 ∷ 97 ∷ 97 ∷ 10 ∷ 32 ∷ 32 ∷ 97 ∷ 93 ∷ []) (piece 0 0 1007 0 ∷ []) ≡ (enter Name.Link 1 1 0 0 ∷ exit Name.Link 2 5 1007 0 ∷ [])) ×
    -- text definition=a «[a][a]»: Link 0-6 [Label 0-3 [LabelLink 0-1, LabelText 1-2 [Data 1-2], LabelEnd 2-3], Reference 3-6 [ReferenceMarker 3-4, ReferenceString 4-5 [Data 4-5], ReferenceMarker 5-6]]
    (text_answer (record default { definitions = (codes "a") ∷ [] }) (codes "[a][a]") (piece 0 0 6 0 ∷ []) ≡ (enter Name.Link 1 1 0 0 ∷ enter Name.Label 1 1 0 0 ∷ enter Name.LabelLink 1 1 0 0 ∷ enter Name.LabelMarker 1 1 0 0 ∷ exit Name.LabelMarker 1 2 1 0 ∷ exit Name.LabelLink 1 2 1 0 ∷ enter Name.LabelText 1 2 1 0 ∷ enter Name.Data 1 2 1 0 ∷ exit Name.Data 1 3 2 0 ∷ exit Name.LabelText 1 3 2 0 ∷ enter Name.LabelEnd 1 3 2 0 ∷ enter Name.LabelMarker 1 3 2 0 ∷ exit Name.LabelMarker 1 4 3 0 ∷ exit Name.LabelEnd 1 4 3 0 ∷ exit Name.Label 1 4 3 0 ∷ enter Name.Reference 1 4 3 0 ∷ enter Name.ReferenceMarker 1 4 3 0 ∷ exit Name.ReferenceMarker 1 5 4 0 ∷ enter Name.ReferenceString 1 5 4 0 ∷ chained Name.Data 1 5 4 0 None None ∷ exit Name.Data 1 6 5 0 ∷ exit Name.ReferenceString 1 6 5 0 ∷ enter Name.ReferenceMarker 1 6 5 0 ∷ exit Name.ReferenceMarker 1 7 6 0 ∷ exit Name.Reference 1 7 6 0 ∷ exit Name.Link 1 7 6 0 ∷ [])) ×
    -- text definition=a «[A]»: Link 0-3 [Label 0-3 [LabelLink 0-1, LabelText 1-2 [Data 1-2], LabelEnd 2-3]]
    (text_answer (record default { definitions = (codes "a") ∷ [] }) (codes "[A]") (piece 0 0 3 0 ∷ []) ≡ (enter Name.Link 1 1 0 0 ∷ enter Name.Label 1 1 0 0 ∷ enter Name.LabelLink 1 1 0 0 ∷ enter Name.LabelMarker 1 1 0 0 ∷ exit Name.LabelMarker 1 2 1 0 ∷ exit Name.LabelLink 1 2 1 0 ∷ enter Name.LabelText 1 2 1 0 ∷ enter Name.Data 1 2 1 0 ∷ exit Name.Data 1 3 2 0 ∷ exit Name.LabelText 1 3 2 0 ∷ enter Name.LabelEnd 1 3 2 0 ∷ enter Name.LabelMarker 1 3 2 0 ∷ exit Name.LabelMarker 1 4 3 0 ∷ exit Name.LabelEnd 1 4 3 0 ∷ exit Name.Label 1 4 3 0 ∷ exit Name.Link 1 4 3 0 ∷ [])) ×
    -- text definition=ss «[ẞ]»: Link 0-5 [Label 0-5 [LabelLink 0-1, LabelText 1-4 [Data 1-4], LabelEnd 4-5]]
    (text_answer (record default { definitions = (codes "ss") ∷ [] }) (91 ∷ 225 ∷ 186 ∷ 158 ∷ 93 ∷ []) (piece 0 0 5 0 ∷ []) ≡ (enter Name.Link 1 1 0 0 ∷ enter Name.Label 1 1 0 0 ∷ enter Name.LabelLink 1 1 0 0 ∷ enter Name.LabelMarker 1 1 0 0 ∷ exit Name.LabelMarker 1 2 1 0 ∷ exit Name.LabelLink 1 2 1 0 ∷ enter Name.LabelText 1 2 1 0 ∷ enter Name.Data 1 2 1 0 ∷ exit Name.Data 1 5 4 0 ∷ exit Name.LabelText 1 5 4 0 ∷ enter Name.LabelEnd 1 5 4 0 ∷ enter Name.LabelMarker 1 5 4 0 ∷ exit Name.LabelMarker 1 6 5 0 ∷ exit Name.LabelEnd 1 6 5 0 ∷ exit Name.Label 1 6 5 0 ∷ exit Name.Link 1 6 5 0 ∷ [])) ×
    -- text outer definition=a[b] «[a[b]]»: Link 0-6
    (text_outline (record default { definitions = (codes "a[b]") ∷ [] }) (codes "[a[b]]") (piece 0 0 6 0 ∷ []) ≡ (enter Name.Link 1 1 0 0 ∷ exit Name.Link 1 7 6 0 ∷ [])) ×
    -- text outer definition=b «[a[b]]»: Data 0-2, Link 2-5, Data 5-6
    (text_outline (record default { definitions = (codes "b") ∷ [] }) (codes "[a[b]]") (piece 0 0 6 0 ∷ []) ≡ (enter Name.Data 1 1 0 0 ∷ exit Name.Data 1 3 2 0 ∷ enter Name.Link 1 3 2 0 ∷ exit Name.Link 1 6 5 0 ∷ enter Name.Data 1 6 5 0 ∷ exit Name.Data 1 7 6 0 ∷ [])) ×
    -- text shortcut definition=a «[a][b]»: Data 0-6
    (text_answer (record default { options = record default_options { label_shortcut_before_bracket = true }; definitions = (codes "a") ∷ [] }) (codes "[a][b]") (piece 0 0 6 0 ∷ []) ≡ (enter Name.Data 1 1 0 0 ∷ exit Name.Data 1 7 6 0 ∷ [])) ×
    -- text outer shortcut definition=a definition=b «[a][b]»: Link 0-6
    (text_outline (record default { options = record default_options { label_shortcut_before_bracket = true }; definitions = (codes "a") ∷ (codes "b") ∷ [] }) (codes "[a][b]") (piece 0 0 6 0 ∷ []) ≡ (enter Name.Link 1 1 0 0 ∷ exit Name.Link 1 7 6 0 ∷ [])) ×
    -- text outer shortcut definition=a «[a](b»: Link 0-3, Data 3-5
    (text_outline (record default { options = record default_options { label_shortcut_before_bracket = true }; definitions = (codes "a") ∷ [] }) (codes "[a](b") (piece 0 0 5 0 ∷ []) ≡ (enter Name.Link 1 1 0 0 ∷ exit Name.Link 1 4 3 0 ∷ enter Name.Data 1 4 3 0 ∷ exit Name.Data 1 6 5 0 ∷ [])) ×
    -- text outer definition= «[]»: Link 0-2
    (text_outline (record default { definitions = (codes "") ∷ [] }) (codes "[]") (piece 0 0 2 0 ∷ []) ≡ (enter Name.Link 1 1 0 0 ∷ exit Name.Link 1 3 2 0 ∷ [])) ×
    -- text commonmark definition=a[b] «[a[b]]»: Data 0-6
    (text_answer (record default { options = record default_options { commonmark = true }; definitions = (codes "a[b]") ∷ [] }) (codes "[a[b]]") (piece 0 0 6 0 ∷ []) ≡ (enter Name.Data 1 1 0 0 ∷ exit Name.Data 1 7 6 0 ∷ [])) ×
    -- text commonmark definition=a[b] «[a[b]][]»: Data 0-8
    (text_answer (record default { options = record default_options { commonmark = true }; definitions = (codes "a[b]") ∷ [] }) (codes "[a[b]][]") (piece 0 0 8 0 ∷ []) ≡ (enter Name.Data 1 1 0 0 ∷ exit Name.Data 1 9 8 0 ∷ [])) ×
    -- text commonmark definition= «[]»: Data 0-2
    (text_answer (record default { options = record default_options { commonmark = true }; definitions = (codes "") ∷ [] }) (codes "[]") (piece 0 0 2 0 ∷ []) ≡ (enter Name.Data 1 1 0 0 ∷ exit Name.Data 1 3 2 0 ∷ [])) ×
    -- text outer commonmark definition=a\[b «[a\[b]»: Link 0-6
    (text_outline (record default { options = record default_options { commonmark = true }; definitions = (codes "a\\[b") ∷ [] }) (codes "[a\\[b]") (piece 0 0 6 0 ∷ []) ≡ (enter Name.Link 1 1 0 0 ∷ exit Name.Link 1 7 6 0 ∷ [])) ×
    -- text outer commonmark definition=c definition=a[b] «[a[b]][c]»: Link 0-9
    (text_outline (record default { options = record default_options { commonmark = true }; definitions = (codes "c") ∷ (codes "a[b]") ∷ [] }) (codes "[a[b]][c]") (piece 0 0 9 0 ∷ []) ≡ (enter Name.Link 1 1 0 0 ∷ exit Name.Link 1 10 9 0 ∷ [])) ×
    -- text outer commonmark definition=a␠b «> [a␊> b]» 2-5 7-9: Link 2-9
    (text_outline (record default { options = record default_options { commonmark = true }; definitions = (codes "a b") ∷ [] }) (62 ∷ 32 ∷ 91 ∷ 97 ∷ 10 ∷ 62 ∷ 32 ∷ 98 ∷ 93 ∷ []) (piece 2 0 5 0 ∷ piece 7 0 9 0 ∷ []) ≡ (enter Name.Link 1 3 2 0 ∷ exit Name.Link 2 5 9 0 ∷ [])) ×
    -- text definition=a␠b «> [a␊> b]» 2-5 7-9: Data 2-4, LineEnding 4-5, Data 7-9
    (text_answer (record default { definitions = (codes "a b") ∷ [] }) (62 ∷ 32 ∷ 91 ∷ 97 ∷ 10 ∷ 62 ∷ 32 ∷ 98 ∷ 93 ∷ []) (piece 2 0 5 0 ∷ piece 7 0 9 0 ∷ []) ≡ (enter Name.Data 1 3 2 0 ∷ exit Name.Data 1 5 4 0 ∷ enter Name.LineEnding 1 5 4 0 ∷ exit Name.LineEnding 2 1 5 0 ∷ enter Name.Data 2 3 7 0 ∷ exit Name.Data 2 5 9 0 ∷ [])) ×
    -- text commonmark definition=a␠>␠b «> [a␊> b]» 2-5 7-9: Data 2-4, LineEnding 4-5, Data 7-9
    (text_answer (record default { options = record default_options { commonmark = true }; definitions = (codes "a > b") ∷ [] }) (62 ∷ 32 ∷ 91 ∷ 97 ∷ 10 ∷ 62 ∷ 32 ∷ 98 ∷ 93 ∷ []) (piece 2 0 5 0 ∷ piece 7 0 9 0 ∷ []) ≡ (enter Name.Data 1 3 2 0 ∷ exit Name.Data 1 5 4 0 ∷ enter Name.LineEnding 1 5 4 0 ∷ exit Name.LineEnding 2 1 5 0 ∷ enter Name.Data 2 3 7 0 ∷ exit Name.Data 2 5 9 0 ∷ [])) ×
    -- text outer definition=a␠>␠b «> [a␊> b]» 2-5 7-9: Link 2-9
    (text_outline (record default { definitions = (codes "a > b") ∷ [] }) (62 ∷ 32 ∷ 91 ∷ 97 ∷ 10 ∷ 62 ∷ 32 ∷ 98 ∷ 93 ∷ []) (piece 2 0 5 0 ∷ piece 7 0 9 0 ∷ []) ≡ (enter Name.Link 1 3 2 0 ∷ exit Name.Link 2 5 9 0 ∷ [])) ×
    -- text outer commonmark definition=a␠b «> [x][a␊> b]» 2-8 10-12: Link 2-12
    (text_outline (record default { options = record default_options { commonmark = true }; definitions = (codes "a b") ∷ [] }) (62 ∷ 32 ∷ 91 ∷ 120 ∷ 93 ∷ 91 ∷ 97 ∷ 10 ∷ 62 ∷ 32 ∷ 98 ∷ 93 ∷ []) (piece 2 0 8 0 ∷ piece 10 0 12 0 ∷ []) ≡ (enter Name.Link 1 3 2 0 ∷ exit Name.Link 2 5 12 0 ∷ [])) ×
    -- text outer commonmark definition=a␠b «> a␊> [a b]» 2-4 6-11: Data 2-3, LineEnding 3-4, Link 6-11
    (text_outline (record default { options = record default_options { commonmark = true }; definitions = (codes "a b") ∷ [] }) (62 ∷ 32 ∷ 97 ∷ 10 ∷ 62 ∷ 32 ∷ 91 ∷ 97 ∷ 32 ∷ 98 ∷ 93 ∷ []) (piece 2 0 4 0 ∷ piece 6 0 11 0 ∷ []) ≡ (enter Name.Data 1 3 2 0 ∷ exit Name.Data 1 4 3 0 ∷ enter Name.LineEnding 1 4 3 0 ∷ exit Name.LineEnding 2 1 4 0 ∷ enter Name.Link 2 3 6 0 ∷ exit Name.Link 2 8 11 0 ∷ [])) ×
    -- text outer commonmark definition=a␠b «[a␊b]»: Link 0-5
    (text_outline (record default { options = record default_options { commonmark = true }; definitions = (codes "a b") ∷ [] }) (91 ∷ 97 ∷ 10 ∷ 98 ∷ 93 ∷ []) (piece 0 0 5 0 ∷ []) ≡ (enter Name.Link 1 1 0 0 ∷ exit Name.Link 2 3 5 0 ∷ [])) ×
    -- text outer commonmark gfm footnote=a␠b «> [^a␊> b]» 2-6 8-10: GfmFootnoteCall 2-10
    (text_outline (record default { options = record default_options { constructs = record default_constructs { gfm_autolink_literal = true; gfm_label_start_footnote = true; gfm_strikethrough = true; gfm_task_list_item = true }; commonmark = true }; footnotes = (codes "a b") ∷ [] }) (62 ∷ 32 ∷ 91 ∷ 94 ∷ 97 ∷ 10 ∷ 62 ∷ 32 ∷ 98 ∷ 93 ∷ []) (piece 2 0 6 0 ∷ piece 8 0 10 0 ∷ []) ≡ (enter Name.GfmFootnoteCall 1 3 2 0 ∷ exit Name.GfmFootnoteCall 2 5 10 0 ∷ [])) ×
    -- text outer commonmark definition=⟦U+FFFD⟧ «[␀]»: Link 0-3
    (text_outline (record default { options = record default_options { commonmark = true }; definitions = (239 ∷ 191 ∷ 189 ∷ []) ∷ [] }) (91 ∷ 0 ∷ 93 ∷ []) (piece 0 0 3 0 ∷ []) ≡ (enter Name.Link 1 1 0 0 ∷ exit Name.Link 1 4 3 0 ∷ [])) ×
    -- text commonmark definition=␀ «[␀]»: Data 0-3
    (text_answer (record default { options = record default_options { commonmark = true }; definitions = (0 ∷ []) ∷ [] }) (91 ∷ 0 ∷ 93 ∷ []) (piece 0 0 3 0 ∷ []) ≡ (enter Name.Data 1 1 0 0 ∷ exit Name.Data 1 4 3 0 ∷ [])) ×
    -- text definition=⟦U+FFFD⟧ «[␀]»: Data 0-3
    (text_answer (record default { definitions = (239 ∷ 191 ∷ 189 ∷ []) ∷ [] }) (91 ∷ 0 ∷ 93 ∷ []) (piece 0 0 3 0 ∷ []) ≡ (enter Name.Data 1 1 0 0 ∷ exit Name.Data 1 4 3 0 ∷ [])) ×
    -- text outer commonmark definition=⟦U+FFFD⟧ «[x][␀]»: Link 0-6
    (text_outline (record default { options = record default_options { commonmark = true }; definitions = (239 ∷ 191 ∷ 189 ∷ []) ∷ [] }) (91 ∷ 120 ∷ 93 ∷ 91 ∷ 0 ∷ 93 ∷ []) (piece 0 0 6 0 ∷ []) ≡ (enter Name.Link 1 1 0 0 ∷ exit Name.Link 1 7 6 0 ∷ []))

abbrev pub References : Type 0
References =
    -- text definition=a «[a][b»: Data 0-5
    (text_answer (record default { definitions = (codes "a") ∷ [] }) (codes "[a][b") (piece 0 0 5 0 ∷ []) ≡ (enter Name.Data 1 1 0 0 ∷ exit Name.Data 1 6 5 0 ∷ [])) ×
    -- text outer shortcut definition=a «[a][b»: Link 0-3, Data 3-5
    (text_outline (record default { options = record default_options { label_shortcut_before_bracket = true }; definitions = (codes "a") ∷ [] }) (codes "[a][b") (piece 0 0 5 0 ∷ []) ≡ (enter Name.Link 1 1 0 0 ∷ exit Name.Link 1 4 3 0 ∷ enter Name.Data 1 4 3 0 ∷ exit Name.Data 1 6 5 0 ∷ [])) ×
    -- text outer definition=a&b «[x][a&amp;b], [a\&b][]»: Data 0-5, CharacterReference 5-10, Data 10-16, CharacterEscape 16-18, Data 18-22
    (text_outline (record default { definitions = (codes "a&b") ∷ [] }) (codes "[x][a&amp;b], [a\\&b][]") (piece 0 0 22 0 ∷ []) ≡ (enter Name.Data 1 1 0 0 ∷ exit Name.Data 1 6 5 0 ∷ enter Name.CharacterReference 1 6 5 0 ∷ exit Name.CharacterReference 1 11 10 0 ∷ enter Name.Data 1 11 10 0 ∷ exit Name.Data 1 17 16 0 ∷ enter Name.CharacterEscape 1 17 16 0 ∷ exit Name.CharacterEscape 1 19 18 0 ∷ enter Name.Data 1 19 18 0 ∷ exit Name.Data 1 23 22 0 ∷ [])) ×
    -- text outer definition=a «[a](b c)»: Link 0-3, Data 3-8
    (text_outline (record default { definitions = (codes "a") ∷ [] }) (codes "[a](b c)") (piece 0 0 8 0 ∷ []) ≡ (enter Name.Link 1 1 0 0 ∷ exit Name.Link 1 4 3 0 ∷ enter Name.Data 1 4 3 0 ∷ exit Name.Data 1 9 8 0 ∷ [])) ×
    -- text definition=a «[a][]»: Link 0-5 [Label 0-3 [LabelLink 0-1, LabelText 1-2 [Data 1-2], LabelEnd 2-3], Reference 3-5 [ReferenceMarker 3-4, ReferenceMarker 4-5]]
    (text_answer (record default { definitions = (codes "a") ∷ [] }) (codes "[a][]") (piece 0 0 5 0 ∷ []) ≡ (enter Name.Link 1 1 0 0 ∷ enter Name.Label 1 1 0 0 ∷ enter Name.LabelLink 1 1 0 0 ∷ enter Name.LabelMarker 1 1 0 0 ∷ exit Name.LabelMarker 1 2 1 0 ∷ exit Name.LabelLink 1 2 1 0 ∷ enter Name.LabelText 1 2 1 0 ∷ enter Name.Data 1 2 1 0 ∷ exit Name.Data 1 3 2 0 ∷ exit Name.LabelText 1 3 2 0 ∷ enter Name.LabelEnd 1 3 2 0 ∷ enter Name.LabelMarker 1 3 2 0 ∷ exit Name.LabelMarker 1 4 3 0 ∷ exit Name.LabelEnd 1 4 3 0 ∷ exit Name.Label 1 4 3 0 ∷ enter Name.Reference 1 4 3 0 ∷ enter Name.ReferenceMarker 1 4 3 0 ∷ exit Name.ReferenceMarker 1 5 4 0 ∷ enter Name.ReferenceMarker 1 5 4 0 ∷ exit Name.ReferenceMarker 1 6 5 0 ∷ exit Name.Reference 1 6 5 0 ∷ exit Name.Link 1 6 5 0 ∷ [])) ×
    -- text definition=a «[x][a]»: Link 0-6 [Label 0-3 [LabelLink 0-1, LabelText 1-2 [Data 1-2], LabelEnd 2-3], Reference 3-6 [ReferenceMarker 3-4, ReferenceString 4-5 [Data 4-5], ReferenceMarker 5-6]]
    (text_answer (record default { definitions = (codes "a") ∷ [] }) (codes "[x][a]") (piece 0 0 6 0 ∷ []) ≡ (enter Name.Link 1 1 0 0 ∷ enter Name.Label 1 1 0 0 ∷ enter Name.LabelLink 1 1 0 0 ∷ enter Name.LabelMarker 1 1 0 0 ∷ exit Name.LabelMarker 1 2 1 0 ∷ exit Name.LabelLink 1 2 1 0 ∷ enter Name.LabelText 1 2 1 0 ∷ enter Name.Data 1 2 1 0 ∷ exit Name.Data 1 3 2 0 ∷ exit Name.LabelText 1 3 2 0 ∷ enter Name.LabelEnd 1 3 2 0 ∷ enter Name.LabelMarker 1 3 2 0 ∷ exit Name.LabelMarker 1 4 3 0 ∷ exit Name.LabelEnd 1 4 3 0 ∷ exit Name.Label 1 4 3 0 ∷ enter Name.Reference 1 4 3 0 ∷ enter Name.ReferenceMarker 1 4 3 0 ∷ exit Name.ReferenceMarker 1 5 4 0 ∷ enter Name.ReferenceString 1 5 4 0 ∷ chained Name.Data 1 5 4 0 None None ∷ exit Name.Data 1 6 5 0 ∷ exit Name.ReferenceString 1 6 5 0 ∷ enter Name.ReferenceMarker 1 6 5 0 ∷ exit Name.ReferenceMarker 1 7 6 0 ∷ exit Name.Reference 1 7 6 0 ∷ exit Name.Link 1 7 6 0 ∷ [])) ×
    -- text outer shortcut definition=a «![a][b»: Image 0-4, Data 4-6
    (text_outline (record default { options = record default_options { label_shortcut_before_bracket = true }; definitions = (codes "a") ∷ [] }) (codes "![a][b") (piece 0 0 6 0 ∷ []) ≡ (enter Name.Image 1 1 0 0 ∷ exit Name.Image 1 5 4 0 ∷ enter Name.Data 1 5 4 0 ∷ exit Name.Data 1 7 6 0 ∷ [])) ×
    -- text definition=a «![a][b»: Data 0-6
    (text_answer (record default { definitions = (codes "a") ∷ [] }) (codes "![a][b") (piece 0 0 6 0 ∷ []) ≡ (enter Name.Data 1 1 0 0 ∷ exit Name.Data 1 7 6 0 ∷ [])) ×
    -- text outer shortcut definition=a «[a][ ]»: Link 0-3, Data 3-6
    (text_outline (record default { options = record default_options { label_shortcut_before_bracket = true }; definitions = (codes "a") ∷ [] }) (codes "[a][ ]") (piece 0 0 6 0 ∷ []) ≡ (enter Name.Link 1 1 0 0 ∷ exit Name.Link 1 4 3 0 ∷ enter Name.Data 1 4 3 0 ∷ exit Name.Data 1 7 6 0 ∷ [])) ×
    -- text definition=a «[a][ ]»: Data 0-6
    (text_answer (record default { definitions = (codes "a") ∷ [] }) (codes "[a][ ]") (piece 0 0 6 0 ∷ []) ≡ (enter Name.Data 1 1 0 0 ∷ exit Name.Data 1 7 6 0 ∷ [])) ×
    -- text outer shortcut definition=a «[a][[b]»: Link 0-3, Data 3-7
    (text_outline (record default { options = record default_options { label_shortcut_before_bracket = true }; definitions = (codes "a") ∷ [] }) (codes "[a][[b]") (piece 0 0 7 0 ∷ []) ≡ (enter Name.Link 1 1 0 0 ∷ exit Name.Link 1 4 3 0 ∷ enter Name.Data 1 4 3 0 ∷ exit Name.Data 1 8 7 0 ∷ [])) ×
    -- text definition=a «[a][[b]»: Data 0-7
    (text_answer (record default { definitions = (codes "a") ∷ [] }) (codes "[a][[b]") (piece 0 0 7 0 ∷ []) ≡ (enter Name.Data 1 1 0 0 ∷ exit Name.Data 1 8 7 0 ∷ [])) ×
    -- text shortcut definition=a «[a][b]»: Data 0-6
    (text_answer (record default { options = record default_options { label_shortcut_before_bracket = true }; definitions = (codes "a") ∷ [] }) (codes "[a][b]") (piece 0 0 6 0 ∷ []) ≡ (enter Name.Data 1 1 0 0 ∷ exit Name.Data 1 7 6 0 ∷ [])) ×
    -- text definition=a «[a][b]»: Data 0-6
    (text_answer (record default { definitions = (codes "a") ∷ [] }) (codes "[a][b]") (piece 0 0 6 0 ∷ []) ≡ (enter Name.Data 1 1 0 0 ∷ exit Name.Data 1 7 6 0 ∷ [])) ×
    -- text outer shortcut definition=a «[a][b](c)»: Data 0-3, Link 3-9
    (text_outline (record default { options = record default_options { label_shortcut_before_bracket = true }; definitions = (codes "a") ∷ [] }) (codes "[a][b](c)") (piece 0 0 9 0 ∷ []) ≡ (enter Name.Data 1 1 0 0 ∷ exit Name.Data 1 4 3 0 ∷ enter Name.Link 1 4 3 0 ∷ exit Name.Link 1 10 9 0 ∷ [])) ×
    -- text outer definition=a «[a][b](c)»: Data 0-3, Link 3-9
    (text_outline (record default { definitions = (codes "a") ∷ [] }) (codes "[a][b](c)") (piece 0 0 9 0 ∷ []) ≡ (enter Name.Data 1 1 0 0 ∷ exit Name.Data 1 4 3 0 ∷ enter Name.Link 1 4 3 0 ∷ exit Name.Link 1 10 9 0 ∷ [])) ×
    -- text outer shortcut definition=a «[a][]»: Link 0-5
    (text_outline (record default { options = record default_options { label_shortcut_before_bracket = true }; definitions = (codes "a") ∷ [] }) (codes "[a][]") (piece 0 0 5 0 ∷ []) ≡ (enter Name.Link 1 1 0 0 ∷ exit Name.Link 1 6 5 0 ∷ [])) ×
    -- text outer definition=⟦x×999⟧ «[a][⟦x×999⟧]»: Link 0-1004
    (text_outline (record default { definitions = (codes "xxxxxxxxxxxxxxxxxxxxxxxxxxxxxxxxxxxxxxxxxxxxxxxxxxxxxxxxxxxxxxxxxxxxxxxxxxxxxxxxxxxxxxxxxxxxxxxxxxxxxxxxxxxxxxxxxxxxxxxxxxxxxxxxxxxxxxxxxxxxxxxxxxxxxxxxxxxxxxxxxxxxxxxxxxxxxxxxxxxxxxxxxxxxxxxxxxxxxxxxxxxxxxxxxxxxxxxxxxxxxxxxxxxxxxxxxxxxxxxxxxxxxxxxxxxxxxxxxxxxxxxxxxxxxxxxxxxxxxxxxxxxxxxxxxxxxxxxxxxxxxxxxxxxxxxxxxxxxxxxxxxxxxxxxxxxxxxxxxxxxxxxxxxxxxxxxxxxxxxxxxxxxxxxxxxxxxxxxxxxxxxxxxxxxxxxxxxxxxxxxxxxxxxxxxxxxxxxxxxxxxxxxxxxxxxxxxxxxxxxxxxxxxxxxxxxxxxxxxxxxxxxxxxxxxxxxxxxxxxxxxxxxxxxxxxxxxxxxxxxxxxxxxxxxxxxxxxxxxxxxxxxxxxxxxxxxxxxxxxxxxxxxxxxxxxxxxxxxxxxxxxxxxxxxxxxxxxxxxxxxxxxxxxxxxxxxxxxxxxxxxxxxxxxxxxxxxxxxxxxxxxxxxxxxxxxxxxxxxxxxxxxxxxxxxxxxxxxxxxxxxxxxxxxxxxxxxxxxxxxxxxxxxxxxxxxxxxxxxxxxxxxxxxxxxxxxxxxxxxxxxxxxxxxxxxxxxxxxxxxxxxxxxxxxxxxxxxxxxxxxxxxxxxxxxxxxxxxxxxxxxxxxxxxxxxxxxxxxxxxxxxxxxxxxxxxxxxxxxxxxxxxxxxxxxxxxxxxxxxxxxxxxxxxxxxxxxxxxxxxxxxxxxxxxxxxxxxxxxxxxxxxxxxxxxxxxxxxxxxxxxxxxxxxxxxxxxxxxxxxxxxxxxxxxxxxxxxxxxxxxxxxxxxxxxxxxxxxxxxxxxxxxxxxxxxxxxxxxxxxxxxxxxxxxxxxxxxxxxx") ∷ [] }) (codes "[a][xxxxxxxxxxxxxxxxxxxxxxxxxxxxxxxxxxxxxxxxxxxxxxxxxxxxxxxxxxxxxxxxxxxxxxxxxxxxxxxxxxxxxxxxxxxxxxxxxxxxxxxxxxxxxxxxxxxxxxxxxxxxxxxxxxxxxxxxxxxxxxxxxxxxxxxxxxxxxxxxxxxxxxxxxxxxxxxxxxxxxxxxxxxxxxxxxxxxxxxxxxxxxxxxxxxxxxxxxxxxxxxxxxxxxxxxxxxxxxxxxxxxxxxxxxxxxxxxxxxxxxxxxxxxxxxxxxxxxxxxxxxxxxxxxxxxxxxxxxxxxxxxxxxxxxxxxxxxxxxxxxxxxxxxxxxxxxxxxxxxxxxxxxxxxxxxxxxxxxxxxxxxxxxxxxxxxxxxxxxxxxxxxxxxxxxxxxxxxxxxxxxxxxxxxxxxxxxxxxxxxxxxxxxxxxxxxxxxxxxxxxxxxxxxxxxxxxxxxxxxxxxxxxxxxxxxxxxxxxxxxxxxxxxxxxxxxxxxxxxxxxxxxxxxxxxxxxxxxxxxxxxxxxxxxxxxxxxxxxxxxxxxxxxxxxxxxxxxxxxxxxxxxxxxxxxxxxxxxxxxxxxxxxxxxxxxxxxxxxxxxxxxxxxxxxxxxxxxxxxxxxxxxxxxxxxxxxxxxxxxxxxxxxxxxxxxxxxxxxxxxxxxxxxxxxxxxxxxxxxxxxxxxxxxxxxxxxxxxxxxxxxxxxxxxxxxxxxxxxxxxxxxxxxxxxxxxxxxxxxxxxxxxxxxxxxxxxxxxxxxxxxxxxxxxxxxxxxxxxxxxxxxxxxxxxxxxxxxxxxxxxxxxxxxxxxxxxxxxxxxxxxxxxxxxxxxxxxxxxxxxxxxxxxxxxxxxxxxxxxxxxxxxxxxxxxxxxxxxxxxxxxxxxxxxxxxxxxxxxxxxxxxxxxxxxxxxxxxxxxxxxxxxxxxxxxxxxxxxxxxxxxxxxxxxxxxxxxxxxxxxxxxxxxxxxxxxxxxxxxxxxxxxxxxxxxxxxxxxxx]") (piece 0 0 1004 0 ∷ []) ≡ (enter Name.Link 1 1 0 0 ∷ exit Name.Link 1 1005 1004 0 ∷ [])) ×
    -- text definition=⟦x×999⟧ «[a][⟦x×1000⟧]»: Data 0-1005
    (text_answer (record default { definitions = (codes "xxxxxxxxxxxxxxxxxxxxxxxxxxxxxxxxxxxxxxxxxxxxxxxxxxxxxxxxxxxxxxxxxxxxxxxxxxxxxxxxxxxxxxxxxxxxxxxxxxxxxxxxxxxxxxxxxxxxxxxxxxxxxxxxxxxxxxxxxxxxxxxxxxxxxxxxxxxxxxxxxxxxxxxxxxxxxxxxxxxxxxxxxxxxxxxxxxxxxxxxxxxxxxxxxxxxxxxxxxxxxxxxxxxxxxxxxxxxxxxxxxxxxxxxxxxxxxxxxxxxxxxxxxxxxxxxxxxxxxxxxxxxxxxxxxxxxxxxxxxxxxxxxxxxxxxxxxxxxxxxxxxxxxxxxxxxxxxxxxxxxxxxxxxxxxxxxxxxxxxxxxxxxxxxxxxxxxxxxxxxxxxxxxxxxxxxxxxxxxxxxxxxxxxxxxxxxxxxxxxxxxxxxxxxxxxxxxxxxxxxxxxxxxxxxxxxxxxxxxxxxxxxxxxxxxxxxxxxxxxxxxxxxxxxxxxxxxxxxxxxxxxxxxxxxxxxxxxxxxxxxxxxxxxxxxxxxxxxxxxxxxxxxxxxxxxxxxxxxxxxxxxxxxxxxxxxxxxxxxxxxxxxxxxxxxxxxxxxxxxxxxxxxxxxxxxxxxxxxxxxxxxxxxxxxxxxxxxxxxxxxxxxxxxxxxxxxxxxxxxxxxxxxxxxxxxxxxxxxxxxxxxxxxxxxxxxxxxxxxxxxxxxxxxxxxxxxxxxxxxxxxxxxxxxxxxxxxxxxxxxxxxxxxxxxxxxxxxxxxxxxxxxxxxxxxxxxxxxxxxxxxxxxxxxxxxxxxxxxxxxxxxxxxxxxxxxxxxxxxxxxxxxxxxxxxxxxxxxxxxxxxxxxxxxxxxxxxxxxxxxxxxxxxxxxxxxxxxxxxxxxxxxxxxxxxxxxxxxxxxxxxxxxxxxxxxxxxxxxxxxxxxxxxxxxxxxxxxxxxxxxxxxxxxxxxxxxxxxxxxxxxxxxxxxxxxxxxxxxxxxxxxxxxxxxxxxxxxxxxx") ∷ [] }) (codes "[a][xxxxxxxxxxxxxxxxxxxxxxxxxxxxxxxxxxxxxxxxxxxxxxxxxxxxxxxxxxxxxxxxxxxxxxxxxxxxxxxxxxxxxxxxxxxxxxxxxxxxxxxxxxxxxxxxxxxxxxxxxxxxxxxxxxxxxxxxxxxxxxxxxxxxxxxxxxxxxxxxxxxxxxxxxxxxxxxxxxxxxxxxxxxxxxxxxxxxxxxxxxxxxxxxxxxxxxxxxxxxxxxxxxxxxxxxxxxxxxxxxxxxxxxxxxxxxxxxxxxxxxxxxxxxxxxxxxxxxxxxxxxxxxxxxxxxxxxxxxxxxxxxxxxxxxxxxxxxxxxxxxxxxxxxxxxxxxxxxxxxxxxxxxxxxxxxxxxxxxxxxxxxxxxxxxxxxxxxxxxxxxxxxxxxxxxxxxxxxxxxxxxxxxxxxxxxxxxxxxxxxxxxxxxxxxxxxxxxxxxxxxxxxxxxxxxxxxxxxxxxxxxxxxxxxxxxxxxxxxxxxxxxxxxxxxxxxxxxxxxxxxxxxxxxxxxxxxxxxxxxxxxxxxxxxxxxxxxxxxxxxxxxxxxxxxxxxxxxxxxxxxxxxxxxxxxxxxxxxxxxxxxxxxxxxxxxxxxxxxxxxxxxxxxxxxxxxxxxxxxxxxxxxxxxxxxxxxxxxxxxxxxxxxxxxxxxxxxxxxxxxxxxxxxxxxxxxxxxxxxxxxxxxxxxxxxxxxxxxxxxxxxxxxxxxxxxxxxxxxxxxxxxxxxxxxxxxxxxxxxxxxxxxxxxxxxxxxxxxxxxxxxxxxxxxxxxxxxxxxxxxxxxxxxxxxxxxxxxxxxxxxxxxxxxxxxxxxxxxxxxxxxxxxxxxxxxxxxxxxxxxxxxxxxxxxxxxxxxxxxxxxxxxxxxxxxxxxxxxxxxxxxxxxxxxxxxxxxxxxxxxxxxxxxxxxxxxxxxxxxxxxxxxxxxxxxxxxxxxxxxxxxxxxxxxxxxxxxxxxxxxxxxxxxxxxxxxxxxxxxxxxxxxxxxxxxxxxxxxxxx]") (piece 0 0 1005 0 ∷ []) ≡ (enter Name.Data 1 1 0 0 ∷ exit Name.Data 1 1006 1005 0 ∷ [])) ×
    -- text definition=a «[a][⟦x×1000⟧]»: Data 0-1005
    (text_answer (record default { definitions = (codes "a") ∷ [] }) (codes "[a][xxxxxxxxxxxxxxxxxxxxxxxxxxxxxxxxxxxxxxxxxxxxxxxxxxxxxxxxxxxxxxxxxxxxxxxxxxxxxxxxxxxxxxxxxxxxxxxxxxxxxxxxxxxxxxxxxxxxxxxxxxxxxxxxxxxxxxxxxxxxxxxxxxxxxxxxxxxxxxxxxxxxxxxxxxxxxxxxxxxxxxxxxxxxxxxxxxxxxxxxxxxxxxxxxxxxxxxxxxxxxxxxxxxxxxxxxxxxxxxxxxxxxxxxxxxxxxxxxxxxxxxxxxxxxxxxxxxxxxxxxxxxxxxxxxxxxxxxxxxxxxxxxxxxxxxxxxxxxxxxxxxxxxxxxxxxxxxxxxxxxxxxxxxxxxxxxxxxxxxxxxxxxxxxxxxxxxxxxxxxxxxxxxxxxxxxxxxxxxxxxxxxxxxxxxxxxxxxxxxxxxxxxxxxxxxxxxxxxxxxxxxxxxxxxxxxxxxxxxxxxxxxxxxxxxxxxxxxxxxxxxxxxxxxxxxxxxxxxxxxxxxxxxxxxxxxxxxxxxxxxxxxxxxxxxxxxxxxxxxxxxxxxxxxxxxxxxxxxxxxxxxxxxxxxxxxxxxxxxxxxxxxxxxxxxxxxxxxxxxxxxxxxxxxxxxxxxxxxxxxxxxxxxxxxxxxxxxxxxxxxxxxxxxxxxxxxxxxxxxxxxxxxxxxxxxxxxxxxxxxxxxxxxxxxxxxxxxxxxxxxxxxxxxxxxxxxxxxxxxxxxxxxxxxxxxxxxxxxxxxxxxxxxxxxxxxxxxxxxxxxxxxxxxxxxxxxxxxxxxxxxxxxxxxxxxxxxxxxxxxxxxxxxxxxxxxxxxxxxxxxxxxxxxxxxxxxxxxxxxxxxxxxxxxxxxxxxxxxxxxxxxxxxxxxxxxxxxxxxxxxxxxxxxxxxxxxxxxxxxxxxxxxxxxxxxxxxxxxxxxxxxxxxxxxxxxxxxxxxxxxxxxxxxxxxxxxxxxxxxxxxxxxxxxxxxxxxxxxxxxxxxxxxxxxxxxxxxxxxxx]") (piece 0 0 1005 0 ∷ []) ≡ (enter Name.Data 1 1 0 0 ∷ exit Name.Data 1 1006 1005 0 ∷ [])) ×
    -- text outer shortcut definition=a «[a][⟦x×1000⟧]»: Link 0-3, Data 3-1005
    (text_outline (record default { options = record default_options { label_shortcut_before_bracket = true }; definitions = (codes "a") ∷ [] }) (codes "[a][xxxxxxxxxxxxxxxxxxxxxxxxxxxxxxxxxxxxxxxxxxxxxxxxxxxxxxxxxxxxxxxxxxxxxxxxxxxxxxxxxxxxxxxxxxxxxxxxxxxxxxxxxxxxxxxxxxxxxxxxxxxxxxxxxxxxxxxxxxxxxxxxxxxxxxxxxxxxxxxxxxxxxxxxxxxxxxxxxxxxxxxxxxxxxxxxxxxxxxxxxxxxxxxxxxxxxxxxxxxxxxxxxxxxxxxxxxxxxxxxxxxxxxxxxxxxxxxxxxxxxxxxxxxxxxxxxxxxxxxxxxxxxxxxxxxxxxxxxxxxxxxxxxxxxxxxxxxxxxxxxxxxxxxxxxxxxxxxxxxxxxxxxxxxxxxxxxxxxxxxxxxxxxxxxxxxxxxxxxxxxxxxxxxxxxxxxxxxxxxxxxxxxxxxxxxxxxxxxxxxxxxxxxxxxxxxxxxxxxxxxxxxxxxxxxxxxxxxxxxxxxxxxxxxxxxxxxxxxxxxxxxxxxxxxxxxxxxxxxxxxxxxxxxxxxxxxxxxxxxxxxxxxxxxxxxxxxxxxxxxxxxxxxxxxxxxxxxxxxxxxxxxxxxxxxxxxxxxxxxxxxxxxxxxxxxxxxxxxxxxxxxxxxxxxxxxxxxxxxxxxxxxxxxxxxxxxxxxxxxxxxxxxxxxxxxxxxxxxxxxxxxxxxxxxxxxxxxxxxxxxxxxxxxxxxxxxxxxxxxxxxxxxxxxxxxxxxxxxxxxxxxxxxxxxxxxxxxxxxxxxxxxxxxxxxxxxxxxxxxxxxxxxxxxxxxxxxxxxxxxxxxxxxxxxxxxxxxxxxxxxxxxxxxxxxxxxxxxxxxxxxxxxxxxxxxxxxxxxxxxxxxxxxxxxxxxxxxxxxxxxxxxxxxxxxxxxxxxxxxxxxxxxxxxxxxxxxxxxxxxxxxxxxxxxxxxxxxxxxxxxxxxxxxxxxxxxxxxxxxxxxxxxxxxxxxxxxxxxxxxxxxxxxxxxxxxxxxxxxxxxxxxxxxxxxxxxxxxxxxx]") (piece 0 0 1005 0 ∷ []) ≡ (enter Name.Link 1 1 0 0 ∷ exit Name.Link 1 4 3 0 ∷ enter Name.Data 1 4 3 0 ∷ exit Name.Data 1 1006 1005 0 ∷ []))

abbrev pub Footnotes : Type 0
Footnotes =
    -- text gfm «[^](c)»: Link 0-6 [Label 0-3 [LabelLink 0-1, LabelText 1-2 [Data 1-2], LabelEnd 2-3], Resource 3-6 [ResourceMarker 3-4, Raw 4-5, ResourceMarker 5-6]]
    (text_answer (record default { options = record default_options { constructs = record default_constructs { gfm_autolink_literal = true; gfm_label_start_footnote = true; gfm_strikethrough = true; gfm_task_list_item = true } } }) (codes "[^](c)") (piece 0 0 6 0 ∷ []) ≡ (enter Name.Link 1 1 0 0 ∷ enter Name.Label 1 1 0 0 ∷ enter Name.LabelLink 1 1 0 0 ∷ enter Name.LabelMarker 1 1 0 0 ∷ exit Name.LabelMarker 1 2 1 0 ∷ exit Name.LabelLink 1 2 1 0 ∷ enter Name.LabelText 1 2 1 0 ∷ enter Name.Data 1 2 1 0 ∷ exit Name.Data 1 3 2 0 ∷ exit Name.LabelText 1 3 2 0 ∷ enter Name.LabelEnd 1 3 2 0 ∷ enter Name.LabelMarker 1 3 2 0 ∷ exit Name.LabelMarker 1 4 3 0 ∷ exit Name.LabelEnd 1 4 3 0 ∷ exit Name.Label 1 4 3 0 ∷ enter Name.Resource 1 4 3 0 ∷ enter Name.ResourceMarker 1 4 3 0 ∷ exit Name.ResourceMarker 1 5 4 0 ∷ enter Name.ResourceDestination 1 5 4 0 ∷ enter Name.ResourceDestinationRaw 1 5 4 0 ∷ enter Name.ResourceDestinationString 1 5 4 0 ∷ chained Name.Data 1 5 4 0 None None ∷ exit Name.Data 1 6 5 0 ∷ exit Name.ResourceDestinationString 1 6 5 0 ∷ exit Name.ResourceDestinationRaw 1 6 5 0 ∷ exit Name.ResourceDestination 1 6 5 0 ∷ enter Name.ResourceMarker 1 6 5 0 ∷ exit Name.ResourceMarker 1 7 6 0 ∷ exit Name.Resource 1 7 6 0 ∷ exit Name.Link 1 7 6 0 ∷ [])) ×
    -- text gfm «![^a](b)»: Data 0-1, Link 1-8 [Label 1-5 [LabelLink 1-2, LabelText 2-4 [Data 2-4], LabelEnd 4-5], Resource 5-8 [ResourceMarker 5-6, Raw 6-7, ResourceMarker 7-8]]
    (text_answer (record default { options = record default_options { constructs = record default_constructs { gfm_autolink_literal = true; gfm_label_start_footnote = true; gfm_strikethrough = true; gfm_task_list_item = true } } }) (codes "![^a](b)") (piece 0 0 8 0 ∷ []) ≡ (enter Name.Data 1 1 0 0 ∷ exit Name.Data 1 2 1 0 ∷ enter Name.Link 1 2 1 0 ∷ enter Name.Label 1 2 1 0 ∷ enter Name.LabelLink 1 2 1 0 ∷ enter Name.LabelMarker 1 2 1 0 ∷ exit Name.LabelMarker 1 3 2 0 ∷ exit Name.LabelLink 1 3 2 0 ∷ enter Name.LabelText 1 3 2 0 ∷ enter Name.Data 1 3 2 0 ∷ exit Name.Data 1 5 4 0 ∷ exit Name.LabelText 1 5 4 0 ∷ enter Name.LabelEnd 1 5 4 0 ∷ enter Name.LabelMarker 1 5 4 0 ∷ exit Name.LabelMarker 1 6 5 0 ∷ exit Name.LabelEnd 1 6 5 0 ∷ exit Name.Label 1 6 5 0 ∷ enter Name.Resource 1 6 5 0 ∷ enter Name.ResourceMarker 1 6 5 0 ∷ exit Name.ResourceMarker 1 7 6 0 ∷ enter Name.ResourceDestination 1 7 6 0 ∷ enter Name.ResourceDestinationRaw 1 7 6 0 ∷ enter Name.ResourceDestinationString 1 7 6 0 ∷ chained Name.Data 1 7 6 0 None None ∷ exit Name.Data 1 8 7 0 ∷ exit Name.ResourceDestinationString 1 8 7 0 ∷ exit Name.ResourceDestinationRaw 1 8 7 0 ∷ exit Name.ResourceDestination 1 8 7 0 ∷ enter Name.ResourceMarker 1 8 7 0 ∷ exit Name.ResourceMarker 1 9 8 0 ∷ exit Name.Resource 1 9 8 0 ∷ exit Name.Link 1 9 8 0 ∷ [])) ×
    -- text gfm footnote=a «[^a]»: GfmFootnoteCall 0-4 [Label 0-4 [GfmFootnoteCallLabel 0-2 [LabelMarker 0-1, GfmFootnoteCallMarker 1-2], LabelText 2-3 [Data 2-3], LabelEnd 3-4]]
    (text_answer (record default { options = record default_options { constructs = record default_constructs { gfm_autolink_literal = true; gfm_label_start_footnote = true; gfm_strikethrough = true; gfm_task_list_item = true } }; footnotes = (codes "a") ∷ [] }) (codes "[^a]") (piece 0 0 4 0 ∷ []) ≡ (enter Name.GfmFootnoteCall 1 1 0 0 ∷ enter Name.Label 1 1 0 0 ∷ enter Name.GfmFootnoteCallLabel 1 1 0 0 ∷ enter Name.LabelMarker 1 1 0 0 ∷ exit Name.LabelMarker 1 2 1 0 ∷ enter Name.GfmFootnoteCallMarker 1 2 1 0 ∷ exit Name.GfmFootnoteCallMarker 1 3 2 0 ∷ exit Name.GfmFootnoteCallLabel 1 3 2 0 ∷ enter Name.LabelText 1 3 2 0 ∷ enter Name.Data 1 3 2 0 ∷ exit Name.Data 1 4 3 0 ∷ exit Name.LabelText 1 4 3 0 ∷ enter Name.LabelEnd 1 4 3 0 ∷ enter Name.LabelMarker 1 4 3 0 ∷ exit Name.LabelMarker 1 5 4 0 ∷ exit Name.LabelEnd 1 5 4 0 ∷ exit Name.Label 1 5 4 0 ∷ exit Name.GfmFootnoteCall 1 5 4 0 ∷ [])) ×
    -- text outer gfm footnote=a «[^a](b)»: GfmFootnoteCall 0-4, Data 4-7
    (text_outline (record default { options = record default_options { constructs = record default_constructs { gfm_autolink_literal = true; gfm_label_start_footnote = true; gfm_strikethrough = true; gfm_task_list_item = true } }; footnotes = (codes "a") ∷ [] }) (codes "[^a](b)") (piece 0 0 7 0 ∷ []) ≡ (enter Name.GfmFootnoteCall 1 1 0 0 ∷ exit Name.GfmFootnoteCall 1 5 4 0 ∷ enter Name.Data 1 5 4 0 ∷ exit Name.Data 1 8 7 0 ∷ [])) ×
    -- text gfm definition=^a «[^a]»: Link 0-4 [Label 0-4 [LabelLink 0-1, LabelText 1-3 [Data 1-3], LabelEnd 3-4]]
    (text_answer (record default { options = record default_options { constructs = record default_constructs { gfm_autolink_literal = true; gfm_label_start_footnote = true; gfm_strikethrough = true; gfm_task_list_item = true } }; definitions = (codes "^a") ∷ [] }) (codes "[^a]") (piece 0 0 4 0 ∷ []) ≡ (enter Name.Link 1 1 0 0 ∷ enter Name.Label 1 1 0 0 ∷ enter Name.LabelLink 1 1 0 0 ∷ enter Name.LabelMarker 1 1 0 0 ∷ exit Name.LabelMarker 1 2 1 0 ∷ exit Name.LabelLink 1 2 1 0 ∷ enter Name.LabelText 1 2 1 0 ∷ enter Name.Data 1 2 1 0 ∷ exit Name.Data 1 4 3 0 ∷ exit Name.LabelText 1 4 3 0 ∷ enter Name.LabelEnd 1 4 3 0 ∷ enter Name.LabelMarker 1 4 3 0 ∷ exit Name.LabelMarker 1 5 4 0 ∷ exit Name.LabelEnd 1 5 4 0 ∷ exit Name.Label 1 5 4 0 ∷ exit Name.Link 1 5 4 0 ∷ [])) ×
    -- text outer gfm footnote=a «[b [^a] c](d)»: Data 0-3, GfmFootnoteCall 3-7, Data 7-13
    (text_outline (record default { options = record default_options { constructs = record default_constructs { gfm_autolink_literal = true; gfm_label_start_footnote = true; gfm_strikethrough = true; gfm_task_list_item = true } }; footnotes = (codes "a") ∷ [] }) (codes "[b [^a] c](d)") (piece 0 0 13 0 ∷ []) ≡ (enter Name.Data 1 1 0 0 ∷ exit Name.Data 1 4 3 0 ∷ enter Name.GfmFootnoteCall 1 4 3 0 ∷ exit Name.GfmFootnoteCall 1 8 7 0 ∷ enter Name.Data 1 8 7 0 ∷ exit Name.Data 1 14 13 0 ∷ [])) ×
    -- text gfm «[^![a](b)](c)»: Link 0-13 [Label 0-10 [LabelLink 0-1, LabelText 1-9 [Data 1-2, Image 2-9 [Label 2-6 [LabelImage 2-4 [LabelImageMarker 2-3, LabelMarker 3-4], LabelText 4-5 [Data 4-5], LabelEnd 5-6], Resource 6-9 [ResourceMarker 6-7, Raw 7-8, ResourceMarker 8-9]]], LabelEnd 9-10], Resource 10-13 [ResourceMarker 10-11, Raw 11-12, ResourceMarker 12-13]]
    (text_answer (record default { options = record default_options { constructs = record default_constructs { gfm_autolink_literal = true; gfm_label_start_footnote = true; gfm_strikethrough = true; gfm_task_list_item = true } } }) (codes "[^![a](b)](c)") (piece 0 0 13 0 ∷ []) ≡ (enter Name.Link 1 1 0 0 ∷ enter Name.Label 1 1 0 0 ∷ enter Name.LabelLink 1 1 0 0 ∷ enter Name.LabelMarker 1 1 0 0 ∷ exit Name.LabelMarker 1 2 1 0 ∷ exit Name.LabelLink 1 2 1 0 ∷ enter Name.LabelText 1 2 1 0 ∷ enter Name.Data 1 2 1 0 ∷ exit Name.Data 1 3 2 0 ∷ enter Name.Image 1 3 2 0 ∷ enter Name.Label 1 3 2 0 ∷ enter Name.LabelImage 1 3 2 0 ∷ enter Name.LabelImageMarker 1 3 2 0 ∷ exit Name.LabelImageMarker 1 4 3 0 ∷ enter Name.LabelMarker 1 4 3 0 ∷ exit Name.LabelMarker 1 5 4 0 ∷ exit Name.LabelImage 1 5 4 0 ∷ enter Name.LabelText 1 5 4 0 ∷ enter Name.Data 1 5 4 0 ∷ exit Name.Data 1 6 5 0 ∷ exit Name.LabelText 1 6 5 0 ∷ enter Name.LabelEnd 1 6 5 0 ∷ enter Name.LabelMarker 1 6 5 0 ∷ exit Name.LabelMarker 1 7 6 0 ∷ exit Name.LabelEnd 1 7 6 0 ∷ exit Name.Label 1 7 6 0 ∷ enter Name.Resource 1 7 6 0 ∷ enter Name.ResourceMarker 1 7 6 0 ∷ exit Name.ResourceMarker 1 8 7 0 ∷ enter Name.ResourceDestination 1 8 7 0 ∷ enter Name.ResourceDestinationRaw 1 8 7 0 ∷ enter Name.ResourceDestinationString 1 8 7 0 ∷ chained Name.Data 1 8 7 0 None None ∷ exit Name.Data 1 9 8 0 ∷ exit Name.ResourceDestinationString 1 9 8 0 ∷ exit Name.ResourceDestinationRaw 1 9 8 0 ∷ exit Name.ResourceDestination 1 9 8 0 ∷ enter Name.ResourceMarker 1 9 8 0 ∷ exit Name.ResourceMarker 1 10 9 0 ∷ exit Name.Resource 1 10 9 0 ∷ exit Name.Image 1 10 9 0 ∷ exit Name.LabelText 1 10 9 0 ∷ enter Name.LabelEnd 1 10 9 0 ∷ enter Name.LabelMarker 1 10 9 0 ∷ exit Name.LabelMarker 1 11 10 0 ∷ exit Name.LabelEnd 1 11 10 0 ∷ exit Name.Label 1 11 10 0 ∷ enter Name.Resource 1 11 10 0 ∷ enter Name.ResourceMarker 1 11 10 0 ∷ exit Name.ResourceMarker 1 12 11 0 ∷ enter Name.ResourceDestination 1 12 11 0 ∷ enter Name.ResourceDestinationRaw 1 12 11 0 ∷ enter Name.ResourceDestinationString 1 12 11 0 ∷ chained Name.Data 1 12 11 0 None None ∷ exit Name.Data 1 13 12 0 ∷ exit Name.ResourceDestinationString 1 13 12 0 ∷ exit Name.ResourceDestinationRaw 1 13 12 0 ∷ exit Name.ResourceDestination 1 13 12 0 ∷ enter Name.ResourceMarker 1 13 12 0 ∷ exit Name.ResourceMarker 1 14 13 0 ∷ exit Name.Resource 1 14 13 0 ∷ exit Name.Link 1 14 13 0 ∷ [])) ×
    -- text gfm «[^]»: Data 0-3
    (text_answer (record default { options = record default_options { constructs = record default_constructs { gfm_autolink_literal = true; gfm_label_start_footnote = true; gfm_strikethrough = true; gfm_task_list_item = true } } }) (codes "[^]") (piece 0 0 3 0 ∷ []) ≡ (enter Name.Data 1 1 0 0 ∷ exit Name.Data 1 4 3 0 ∷ [])) ×
    -- text gfm first «[x] y»: GfmTaskListItemCheck 0-3 [GfmTaskListItemMarker 0-1, GfmTaskListItemValueChecked 1-2, GfmTaskListItemMarker 2-3], Data 3-5
    (text_answer (record default { options = record default_options { constructs = record default_constructs { gfm_autolink_literal = true; gfm_label_start_footnote = true; gfm_strikethrough = true; gfm_task_list_item = true } }; first_of_item = true }) (codes "[x] y") (piece 0 0 5 0 ∷ []) ≡ (enter Name.GfmTaskListItemCheck 1 1 0 0 ∷ enter Name.GfmTaskListItemMarker 1 1 0 0 ∷ exit Name.GfmTaskListItemMarker 1 2 1 0 ∷ enter Name.GfmTaskListItemValueChecked 1 2 1 0 ∷ exit Name.GfmTaskListItemValueChecked 1 3 2 0 ∷ enter Name.GfmTaskListItemMarker 1 3 2 0 ∷ exit Name.GfmTaskListItemMarker 1 4 3 0 ∷ exit Name.GfmTaskListItemCheck 1 4 3 0 ∷ enter Name.Data 1 4 3 0 ∷ exit Name.Data 1 6 5 0 ∷ [])) ×
    -- text gfm first «[x]»: Data 0-3
    (text_answer (record default { options = record default_options { constructs = record default_constructs { gfm_autolink_literal = true; gfm_label_start_footnote = true; gfm_strikethrough = true; gfm_task_list_item = true } }; first_of_item = true }) (codes "[x]") (piece 0 0 3 0 ∷ []) ≡ (enter Name.Data 1 1 0 0 ∷ exit Name.Data 1 4 3 0 ∷ [])) ×
    -- text gfm first «[ ]␊a»: GfmTaskListItemCheck 0-3 [GfmTaskListItemMarker 0-1, GfmTaskListItemValueUnchecked 1-2, GfmTaskListItemMarker 2-3], LineEnding 3-4, Data 4-5
    (text_answer (record default { options = record default_options { constructs = record default_constructs { gfm_autolink_literal = true; gfm_label_start_footnote = true; gfm_strikethrough = true; gfm_task_list_item = true } }; first_of_item = true }) (91 ∷ 32 ∷ 93 ∷ 10 ∷ 97 ∷ []) (piece 0 0 5 0 ∷ []) ≡ (enter Name.GfmTaskListItemCheck 1 1 0 0 ∷ enter Name.GfmTaskListItemMarker 1 1 0 0 ∷ exit Name.GfmTaskListItemMarker 1 2 1 0 ∷ enter Name.GfmTaskListItemValueUnchecked 1 2 1 0 ∷ exit Name.GfmTaskListItemValueUnchecked 1 3 2 0 ∷ enter Name.GfmTaskListItemMarker 1 3 2 0 ∷ exit Name.GfmTaskListItemMarker 1 4 3 0 ∷ exit Name.GfmTaskListItemCheck 1 4 3 0 ∷ enter Name.LineEnding 1 4 3 0 ∷ exit Name.LineEnding 2 1 4 0 ∷ enter Name.Data 2 1 4 0 ∷ exit Name.Data 2 2 5 0 ∷ [])) ×
    -- text gfm first «[x]y»: Data 0-4
    (text_answer (record default { options = record default_options { constructs = record default_constructs { gfm_autolink_literal = true; gfm_label_start_footnote = true; gfm_strikethrough = true; gfm_task_list_item = true } }; first_of_item = true }) (codes "[x]y") (piece 0 0 4 0 ∷ []) ≡ (enter Name.Data 1 1 0 0 ∷ exit Name.Data 1 5 4 0 ∷ [])) ×
    -- text gfm first «[x]␠»: Data 0-3, SpaceOrTab 3-4
    (text_answer (record default { options = record default_options { constructs = record default_constructs { gfm_autolink_literal = true; gfm_label_start_footnote = true; gfm_strikethrough = true; gfm_task_list_item = true } }; first_of_item = true }) (codes "[x] ") (piece 0 0 4 0 ∷ []) ≡ (enter Name.Data 1 1 0 0 ∷ exit Name.Data 1 4 3 0 ∷ enter Name.SpaceOrTab 1 4 3 0 ∷ exit Name.SpaceOrTab 1 5 4 0 ∷ [])) ×
    -- text gfm «[x] y»: Data 0-5
    (text_answer (record default { options = record default_options { constructs = record default_constructs { gfm_autolink_literal = true; gfm_label_start_footnote = true; gfm_strikethrough = true; gfm_task_list_item = true } } }) (codes "[x] y") (piece 0 0 5 0 ∷ []) ≡ (enter Name.Data 1 1 0 0 ∷ exit Name.Data 1 6 5 0 ∷ [])) ×
    -- text gfm «[^b [b](c)](d)»: Data 0-4, Link 4-10 [Label 4-7 [LabelLink 4-5, LabelText 5-6 [Data 5-6], LabelEnd 6-7], Resource 7-10 [ResourceMarker 7-8, Raw 8-9, ResourceMarker 9-10]], Data 10-14
    (text_answer (record default { options = record default_options { constructs = record default_constructs { gfm_autolink_literal = true; gfm_label_start_footnote = true; gfm_strikethrough = true; gfm_task_list_item = true } } }) (codes "[^b [b](c)](d)") (piece 0 0 14 0 ∷ []) ≡ (enter Name.Data 1 1 0 0 ∷ exit Name.Data 1 5 4 0 ∷ enter Name.Link 1 5 4 0 ∷ enter Name.Label 1 5 4 0 ∷ enter Name.LabelLink 1 5 4 0 ∷ enter Name.LabelMarker 1 5 4 0 ∷ exit Name.LabelMarker 1 6 5 0 ∷ exit Name.LabelLink 1 6 5 0 ∷ enter Name.LabelText 1 6 5 0 ∷ enter Name.Data 1 6 5 0 ∷ exit Name.Data 1 7 6 0 ∷ exit Name.LabelText 1 7 6 0 ∷ enter Name.LabelEnd 1 7 6 0 ∷ enter Name.LabelMarker 1 7 6 0 ∷ exit Name.LabelMarker 1 8 7 0 ∷ exit Name.LabelEnd 1 8 7 0 ∷ exit Name.Label 1 8 7 0 ∷ enter Name.Resource 1 8 7 0 ∷ enter Name.ResourceMarker 1 8 7 0 ∷ exit Name.ResourceMarker 1 9 8 0 ∷ enter Name.ResourceDestination 1 9 8 0 ∷ enter Name.ResourceDestinationRaw 1 9 8 0 ∷ enter Name.ResourceDestinationString 1 9 8 0 ∷ chained Name.Data 1 9 8 0 None None ∷ exit Name.Data 1 10 9 0 ∷ exit Name.ResourceDestinationString 1 10 9 0 ∷ exit Name.ResourceDestinationRaw 1 10 9 0 ∷ exit Name.ResourceDestination 1 10 9 0 ∷ enter Name.ResourceMarker 1 10 9 0 ∷ exit Name.ResourceMarker 1 11 10 0 ∷ exit Name.Resource 1 11 10 0 ∷ exit Name.Link 1 11 10 0 ∷ enter Name.Data 1 11 10 0 ∷ exit Name.Data 1 15 14 0 ∷ [])) ×
    -- text gfm definition=^a footnote=a «[^a]»: GfmFootnoteCall 0-4 [Label 0-4 [GfmFootnoteCallLabel 0-2 [LabelMarker 0-1, GfmFootnoteCallMarker 1-2], LabelText 2-3 [Data 2-3], LabelEnd 3-4]]
    (text_answer (record default { options = record default_options { constructs = record default_constructs { gfm_autolink_literal = true; gfm_label_start_footnote = true; gfm_strikethrough = true; gfm_task_list_item = true } }; definitions = (codes "^a") ∷ []; footnotes = (codes "a") ∷ [] }) (codes "[^a]") (piece 0 0 4 0 ∷ []) ≡ (enter Name.GfmFootnoteCall 1 1 0 0 ∷ enter Name.Label 1 1 0 0 ∷ enter Name.GfmFootnoteCallLabel 1 1 0 0 ∷ enter Name.LabelMarker 1 1 0 0 ∷ exit Name.LabelMarker 1 2 1 0 ∷ enter Name.GfmFootnoteCallMarker 1 2 1 0 ∷ exit Name.GfmFootnoteCallMarker 1 3 2 0 ∷ exit Name.GfmFootnoteCallLabel 1 3 2 0 ∷ enter Name.LabelText 1 3 2 0 ∷ enter Name.Data 1 3 2 0 ∷ exit Name.Data 1 4 3 0 ∷ exit Name.LabelText 1 4 3 0 ∷ enter Name.LabelEnd 1 4 3 0 ∷ enter Name.LabelMarker 1 4 3 0 ∷ exit Name.LabelMarker 1 5 4 0 ∷ exit Name.LabelEnd 1 5 4 0 ∷ exit Name.Label 1 5 4 0 ∷ exit Name.GfmFootnoteCall 1 5 4 0 ∷ [])) ×
    -- text gfm definition=a «[^a]»: Data 0-4
    (text_answer (record default { options = record default_options { constructs = record default_constructs { gfm_autolink_literal = true; gfm_label_start_footnote = true; gfm_strikethrough = true; gfm_task_list_item = true } }; definitions = (codes "a") ∷ [] }) (codes "[^a]") (piece 0 0 4 0 ∷ []) ≡ (enter Name.Data 1 1 0 0 ∷ exit Name.Data 1 5 4 0 ∷ [])) ×
    -- text gfm footnote=a «[^ a]]»: GfmFootnoteCall 0-5 [Label 0-5 [GfmFootnoteCallLabel 0-2 [LabelMarker 0-1, GfmFootnoteCallMarker 1-2], LabelText 2-4 [Data 2-4], LabelEnd 4-5]], Data 5-6
    (text_answer (record default { options = record default_options { constructs = record default_constructs { gfm_autolink_literal = true; gfm_label_start_footnote = true; gfm_strikethrough = true; gfm_task_list_item = true } }; footnotes = (codes "a") ∷ [] }) (codes "[^ a]]") (piece 0 0 6 0 ∷ []) ≡ (enter Name.GfmFootnoteCall 1 1 0 0 ∷ enter Name.Label 1 1 0 0 ∷ enter Name.GfmFootnoteCallLabel 1 1 0 0 ∷ enter Name.LabelMarker 1 1 0 0 ∷ exit Name.LabelMarker 1 2 1 0 ∷ enter Name.GfmFootnoteCallMarker 1 2 1 0 ∷ exit Name.GfmFootnoteCallMarker 1 3 2 0 ∷ exit Name.GfmFootnoteCallLabel 1 3 2 0 ∷ enter Name.LabelText 1 3 2 0 ∷ enter Name.Data 1 3 2 0 ∷ exit Name.Data 1 5 4 0 ∷ exit Name.LabelText 1 5 4 0 ∷ enter Name.LabelEnd 1 5 4 0 ∷ enter Name.LabelMarker 1 5 4 0 ∷ exit Name.LabelMarker 1 6 5 0 ∷ exit Name.LabelEnd 1 6 5 0 ∷ exit Name.Label 1 6 5 0 ∷ exit Name.GfmFootnoteCall 1 6 5 0 ∷ enter Name.Data 1 6 5 0 ∷ exit Name.Data 1 7 6 0 ∷ [])) ×
    -- text outer gfm footnote=a «[^A]»: GfmFootnoteCall 0-4
    (text_outline (record default { options = record default_options { constructs = record default_constructs { gfm_autolink_literal = true; gfm_label_start_footnote = true; gfm_strikethrough = true; gfm_task_list_item = true } }; footnotes = (codes "a") ∷ [] }) (codes "[^A]") (piece 0 0 4 0 ∷ []) ≡ (enter Name.GfmFootnoteCall 1 1 0 0 ∷ exit Name.GfmFootnoteCall 1 5 4 0 ∷ [])) ×
    -- text outer gfm footnote=a «[^a][]»: GfmFootnoteCall 0-4, Data 4-6
    (text_outline (record default { options = record default_options { constructs = record default_constructs { gfm_autolink_literal = true; gfm_label_start_footnote = true; gfm_strikethrough = true; gfm_task_list_item = true } }; footnotes = (codes "a") ∷ [] }) (codes "[^a][]") (piece 0 0 6 0 ∷ []) ≡ (enter Name.GfmFootnoteCall 1 1 0 0 ∷ exit Name.GfmFootnoteCall 1 5 4 0 ∷ enter Name.Data 1 5 4 0 ∷ exit Name.Data 1 7 6 0 ∷ [])) ×
    -- text outer gfm definition=a definition=^a footnote=b «[^a][^b]»: Data 0-4, GfmFootnoteCall 4-8
    (text_outline (record default { options = record default_options { constructs = record default_constructs { gfm_autolink_literal = true; gfm_label_start_footnote = true; gfm_strikethrough = true; gfm_task_list_item = true } }; definitions = (codes "a") ∷ (codes "^a") ∷ []; footnotes = (codes "b") ∷ [] }) (codes "[^a][^b]") (piece 0 0 8 0 ∷ []) ≡ (enter Name.Data 1 1 0 0 ∷ exit Name.Data 1 5 4 0 ∷ enter Name.GfmFootnoteCall 1 5 4 0 ∷ exit Name.GfmFootnoteCall 1 9 8 0 ∷ [])) ×
    -- text outer gfm definition=^a «[^a][]»: Link 0-6
    (text_outline (record default { options = record default_options { constructs = record default_constructs { gfm_autolink_literal = true; gfm_label_start_footnote = true; gfm_strikethrough = true; gfm_task_list_item = true } }; definitions = (codes "^a") ∷ [] }) (codes "[^a][]") (piece 0 0 6 0 ∷ []) ≡ (enter Name.Link 1 1 0 0 ∷ exit Name.Link 1 7 6 0 ∷ [])) ×
    -- text outer gfm «[x [^b](c)](d)»: Data 0-3, Link 3-10, Data 10-14
    (text_outline (record default { options = record default_options { constructs = record default_constructs { gfm_autolink_literal = true; gfm_label_start_footnote = true; gfm_strikethrough = true; gfm_task_list_item = true } } }) (codes "[x [^b](c)](d)") (piece 0 0 14 0 ∷ []) ≡ (enter Name.Data 1 1 0 0 ∷ exit Name.Data 1 4 3 0 ∷ enter Name.Link 1 4 3 0 ∷ exit Name.Link 1 11 10 0 ∷ enter Name.Data 1 11 10 0 ∷ exit Name.Data 1 15 14 0 ∷ []))

abbrev pub GfmAutolinkLiterals : Type 0
GfmAutolinkLiterals =
    -- text gfm «https://a.|» 0-10: GfmAutolinkLiteralProtocol 0-10
    (text_answer (record default { options = record default_options { constructs = record default_constructs { gfm_autolink_literal = true; gfm_label_start_footnote = true; gfm_strikethrough = true; gfm_task_list_item = true } } }) (codes "https://a.|") (piece 0 0 10 0 ∷ []) ≡ (enter Name.GfmAutolinkLiteralProtocol 1 1 0 0 ∷ exit Name.GfmAutolinkLiteralProtocol 1 11 10 0 ∷ [])) ×
    -- text gfm «https://a.»: GfmAutolinkLiteralProtocol 0-9, Data 9-10
    (text_answer (record default { options = record default_options { constructs = record default_constructs { gfm_autolink_literal = true; gfm_label_start_footnote = true; gfm_strikethrough = true; gfm_task_list_item = true } } }) (codes "https://a.") (piece 0 0 10 0 ∷ []) ≡ (enter Name.GfmAutolinkLiteralProtocol 1 1 0 0 ∷ exit Name.GfmAutolinkLiteralProtocol 1 10 9 0 ∷ enter Name.Data 1 10 9 0 ∷ exit Name.Data 1 11 10 0 ∷ [])) ×
    -- text gfm «www.ab» 0-5: GfmAutolinkLiteralWww 0-5
    (text_answer (record default { options = record default_options { constructs = record default_constructs { gfm_autolink_literal = true; gfm_label_start_footnote = true; gfm_strikethrough = true; gfm_task_list_item = true } } }) (codes "www.ab") (piece 0 0 5 0 ∷ []) ≡ (enter Name.GfmAutolinkLiteralWww 1 1 0 0 ∷ exit Name.GfmAutolinkLiteralWww 1 6 5 0 ∷ [])) ×
    -- text gfm «a@b.c»: GfmAutolinkLiteralEmail 0-5
    (text_answer (record default { options = record default_options { constructs = record default_constructs { gfm_autolink_literal = true; gfm_label_start_footnote = true; gfm_strikethrough = true; gfm_task_list_item = true } } }) (codes "a@b.c") (piece 0 0 5 0 ∷ []) ≡ (enter Name.GfmAutolinkLiteralEmail 1 1 0 0 ∷ exit Name.GfmAutolinkLiteralEmail 1 6 5 0 ∷ [])) ×
    -- text gfm «[a@b.c](d)»: Link 0-10 [Label 0-7 [LabelLink 0-1, LabelText 1-6 [Data 1-6], LabelEnd 6-7], Resource 7-10 [ResourceMarker 7-8, Raw 8-9, ResourceMarker 9-10]]
    (text_answer (record default { options = record default_options { constructs = record default_constructs { gfm_autolink_literal = true; gfm_label_start_footnote = true; gfm_strikethrough = true; gfm_task_list_item = true } } }) (codes "[a@b.c](d)") (piece 0 0 10 0 ∷ []) ≡ (enter Name.Link 1 1 0 0 ∷ enter Name.Label 1 1 0 0 ∷ enter Name.LabelLink 1 1 0 0 ∷ enter Name.LabelMarker 1 1 0 0 ∷ exit Name.LabelMarker 1 2 1 0 ∷ exit Name.LabelLink 1 2 1 0 ∷ enter Name.LabelText 1 2 1 0 ∷ enter Name.Data 1 2 1 0 ∷ exit Name.Data 1 7 6 0 ∷ exit Name.LabelText 1 7 6 0 ∷ enter Name.LabelEnd 1 7 6 0 ∷ enter Name.LabelMarker 1 7 6 0 ∷ exit Name.LabelMarker 1 8 7 0 ∷ exit Name.LabelEnd 1 8 7 0 ∷ exit Name.Label 1 8 7 0 ∷ enter Name.Resource 1 8 7 0 ∷ enter Name.ResourceMarker 1 8 7 0 ∷ exit Name.ResourceMarker 1 9 8 0 ∷ enter Name.ResourceDestination 1 9 8 0 ∷ enter Name.ResourceDestinationRaw 1 9 8 0 ∷ enter Name.ResourceDestinationString 1 9 8 0 ∷ chained Name.Data 1 9 8 0 None None ∷ exit Name.Data 1 10 9 0 ∷ exit Name.ResourceDestinationString 1 10 9 0 ∷ exit Name.ResourceDestinationRaw 1 10 9 0 ∷ exit Name.ResourceDestination 1 10 9 0 ∷ enter Name.ResourceMarker 1 10 9 0 ∷ exit Name.ResourceMarker 1 11 10 0 ∷ exit Name.Resource 1 11 10 0 ∷ exit Name.Link 1 11 10 0 ∷ [])) ×
    -- text gfm «![a@b.c](d)»: Image 0-11 [Label 0-8 [LabelImage 0-2 [LabelImageMarker 0-1, LabelMarker 1-2], LabelText 2-7 [GfmAutolinkLiteralEmail 2-7], LabelEnd 7-8], Resource 8-11 [ResourceMarker 8-9, Raw 9-10, ResourceMarker 10-11]]
    (text_answer (record default { options = record default_options { constructs = record default_constructs { gfm_autolink_literal = true; gfm_label_start_footnote = true; gfm_strikethrough = true; gfm_task_list_item = true } } }) (codes "![a@b.c](d)") (piece 0 0 11 0 ∷ []) ≡ (enter Name.Image 1 1 0 0 ∷ enter Name.Label 1 1 0 0 ∷ enter Name.LabelImage 1 1 0 0 ∷ enter Name.LabelImageMarker 1 1 0 0 ∷ exit Name.LabelImageMarker 1 2 1 0 ∷ enter Name.LabelMarker 1 2 1 0 ∷ exit Name.LabelMarker 1 3 2 0 ∷ exit Name.LabelImage 1 3 2 0 ∷ enter Name.LabelText 1 3 2 0 ∷ enter Name.GfmAutolinkLiteralEmail 1 3 2 0 ∷ exit Name.GfmAutolinkLiteralEmail 1 8 7 0 ∷ exit Name.LabelText 1 8 7 0 ∷ enter Name.LabelEnd 1 8 7 0 ∷ enter Name.LabelMarker 1 8 7 0 ∷ exit Name.LabelMarker 1 9 8 0 ∷ exit Name.LabelEnd 1 9 8 0 ∷ exit Name.Label 1 9 8 0 ∷ enter Name.Resource 1 9 8 0 ∷ enter Name.ResourceMarker 1 9 8 0 ∷ exit Name.ResourceMarker 1 10 9 0 ∷ enter Name.ResourceDestination 1 10 9 0 ∷ enter Name.ResourceDestinationRaw 1 10 9 0 ∷ enter Name.ResourceDestinationString 1 10 9 0 ∷ chained Name.Data 1 10 9 0 None None ∷ exit Name.Data 1 11 10 0 ∷ exit Name.ResourceDestinationString 1 11 10 0 ∷ exit Name.ResourceDestinationRaw 1 11 10 0 ∷ exit Name.ResourceDestination 1 11 10 0 ∷ enter Name.ResourceMarker 1 11 10 0 ∷ exit Name.ResourceMarker 1 12 11 0 ∷ exit Name.Resource 1 12 11 0 ∷ exit Name.Image 1 12 11 0 ∷ [])) ×
    -- text gfm «contact ~Mercury~Venus at hi@venus.com!»: Data 0-8, GfmStrikethrough 8-17 [GfmStrikethroughSequence 8-9, GfmStrikethroughText 9-16 [Data 9-16], GfmStrikethroughSequence 16-17], Data 17-26, GfmAutolinkLiteralEmail 26-38, Data 38-39
    (text_answer (record default { options = record default_options { constructs = record default_constructs { gfm_autolink_literal = true; gfm_label_start_footnote = true; gfm_strikethrough = true; gfm_task_list_item = true } } }) (codes "contact ~Mercury~Venus at hi@venus.com!") (piece 0 0 39 0 ∷ []) ≡ (enter Name.Data 1 1 0 0 ∷ exit Name.Data 1 9 8 0 ∷ enter Name.GfmStrikethrough 1 9 8 0 ∷ enter Name.GfmStrikethroughSequence 1 9 8 0 ∷ exit Name.GfmStrikethroughSequence 1 10 9 0 ∷ enter Name.GfmStrikethroughText 1 10 9 0 ∷ enter Name.Data 1 10 9 0 ∷ exit Name.Data 1 17 16 0 ∷ exit Name.GfmStrikethroughText 1 17 16 0 ∷ enter Name.GfmStrikethroughSequence 1 17 16 0 ∷ exit Name.GfmStrikethroughSequence 1 18 17 0 ∷ exit Name.GfmStrikethrough 1 18 17 0 ∷ enter Name.Data 1 18 17 0 ∷ exit Name.Data 1 27 26 0 ∷ enter Name.GfmAutolinkLiteralEmail 1 27 26 0 ∷ exit Name.GfmAutolinkLiteralEmail 1 39 38 0 ∷ enter Name.Data 1 39 38 0 ∷ exit Name.Data 1 40 39 0 ∷ [])) ×
    -- text gfm «www.a👍b%»: GfmAutolinkLiteralWww 0-11
    (text_answer (record default { options = record default_options { constructs = record default_constructs { gfm_autolink_literal = true; gfm_label_start_footnote = true; gfm_strikethrough = true; gfm_task_list_item = true } } }) (119 ∷ 119 ∷ 119 ∷ 46 ∷ 97 ∷ 240 ∷ 159 ∷ 145 ∷ 141 ∷ 98 ∷ 37 ∷ []) (piece 0 0 11 0 ∷ []) ≡ (enter Name.GfmAutolinkLiteralWww 1 1 0 0 ∷ exit Name.GfmAutolinkLiteralWww 1 12 11 0 ∷ [])) ×
    -- text gfm «https://a.b/c(d)).»: GfmAutolinkLiteralProtocol 0-16, Data 16-18
    (text_answer (record default { options = record default_options { constructs = record default_constructs { gfm_autolink_literal = true; gfm_label_start_footnote = true; gfm_strikethrough = true; gfm_task_list_item = true } } }) (codes "https://a.b/c(d)).") (piece 0 0 18 0 ∷ []) ≡ (enter Name.GfmAutolinkLiteralProtocol 1 1 0 0 ∷ exit Name.GfmAutolinkLiteralProtocol 1 17 16 0 ∷ enter Name.Data 1 17 16 0 ∷ exit Name.Data 1 19 18 0 ∷ [])) ×
    -- text outer gfm «https://a.b&amp;»: GfmAutolinkLiteralProtocol 0-11, CharacterReference 11-16
    (text_outline (record default { options = record default_options { constructs = record default_constructs { gfm_autolink_literal = true; gfm_label_start_footnote = true; gfm_strikethrough = true; gfm_task_list_item = true } } }) (codes "https://a.b&amp;") (piece 0 0 16 0 ∷ []) ≡ (enter Name.GfmAutolinkLiteralProtocol 1 1 0 0 ∷ exit Name.GfmAutolinkLiteralProtocol 1 12 11 0 ∷ enter Name.CharacterReference 1 12 11 0 ∷ exit Name.CharacterReference 1 17 16 0 ∷ [])) ×
    -- text gfm «http://a_b.c»: Data 0-12
    (text_answer (record default { options = record default_options { constructs = record default_constructs { gfm_autolink_literal = true; gfm_label_start_footnote = true; gfm_strikethrough = true; gfm_task_list_item = true } } }) (codes "http://a_b.c") (piece 0 0 12 0 ∷ []) ≡ (enter Name.Data 1 1 0 0 ∷ exit Name.Data 1 13 12 0 ∷ [])) ×
    -- text gfm «xhttp://a»: Data 0-9
    (text_answer (record default { options = record default_options { constructs = record default_constructs { gfm_autolink_literal = true; gfm_label_start_footnote = true; gfm_strikethrough = true; gfm_task_list_item = true } } }) (codes "xhttp://a") (piece 0 0 9 0 ∷ []) ≡ (enter Name.Data 1 1 0 0 ∷ exit Name.Data 1 10 9 0 ∷ [])) ×
    -- text gfm «www.»: Data 0-4
    (text_answer (record default { options = record default_options { constructs = record default_constructs { gfm_autolink_literal = true; gfm_label_start_footnote = true; gfm_strikethrough = true; gfm_task_list_item = true } } }) (codes "www.") (piece 0 0 4 0 ∷ []) ≡ (enter Name.Data 1 1 0 0 ∷ exit Name.Data 1 5 4 0 ∷ [])) ×
    -- text gfm «mailto:a@b.c»: GfmAutolinkLiteralMailto 0-12
    (text_answer (record default { options = record default_options { constructs = record default_constructs { gfm_autolink_literal = true; gfm_label_start_footnote = true; gfm_strikethrough = true; gfm_task_list_item = true } } }) (codes "mailto:a@b.c") (piece 0 0 12 0 ∷ []) ≡ (enter Name.GfmAutolinkLiteralMailto 1 1 0 0 ∷ exit Name.GfmAutolinkLiteralMailto 1 13 12 0 ∷ [])) ×
    -- text gfm «xmpp:a@b.c/d»: GfmAutolinkLiteralXmpp 0-12
    (text_answer (record default { options = record default_options { constructs = record default_constructs { gfm_autolink_literal = true; gfm_label_start_footnote = true; gfm_strikethrough = true; gfm_task_list_item = true } } }) (codes "xmpp:a@b.c/d") (piece 0 0 12 0 ∷ []) ≡ (enter Name.GfmAutolinkLiteralXmpp 1 1 0 0 ∷ exit Name.GfmAutolinkLiteralXmpp 1 13 12 0 ∷ [])) ×
    -- text gfm «a@b.c.»: GfmAutolinkLiteralEmail 0-5, Data 5-6
    (text_answer (record default { options = record default_options { constructs = record default_constructs { gfm_autolink_literal = true; gfm_label_start_footnote = true; gfm_strikethrough = true; gfm_task_list_item = true } } }) (codes "a@b.c.") (piece 0 0 6 0 ∷ []) ≡ (enter Name.GfmAutolinkLiteralEmail 1 1 0 0 ∷ exit Name.GfmAutolinkLiteralEmail 1 6 5 0 ∷ enter Name.Data 1 6 5 0 ∷ exit Name.Data 1 7 6 0 ∷ [])) ×
    -- text gfm «a@b.c@d.e»: GfmAutolinkLiteralEmail 0-5, Data 5-9
    (text_answer (record default { options = record default_options { constructs = record default_constructs { gfm_autolink_literal = true; gfm_label_start_footnote = true; gfm_strikethrough = true; gfm_task_list_item = true } } }) (codes "a@b.c@d.e") (piece 0 0 9 0 ∷ []) ≡ (enter Name.GfmAutolinkLiteralEmail 1 1 0 0 ∷ exit Name.GfmAutolinkLiteralEmail 1 6 5 0 ∷ enter Name.Data 1 6 5 0 ∷ exit Name.Data 1 10 9 0 ∷ [])) ×
    -- text gfm «/a@b.c»: Data 0-6
    (text_answer (record default { options = record default_options { constructs = record default_constructs { gfm_autolink_literal = true; gfm_label_start_footnote = true; gfm_strikethrough = true; gfm_task_list_item = true } } }) (codes "/a@b.c") (piece 0 0 6 0 ∷ []) ≡ (enter Name.Data 1 1 0 0 ∷ exit Name.Data 1 7 6 0 ∷ [])) ×
    -- text gfm «a@b_c»: Data 0-5
    (text_answer (record default { options = record default_options { constructs = record default_constructs { gfm_autolink_literal = true; gfm_label_start_footnote = true; gfm_strikethrough = true; gfm_task_list_item = true } } }) (codes "a@b_c") (piece 0 0 5 0 ∷ []) ≡ (enter Name.Data 1 1 0 0 ∷ exit Name.Data 1 6 5 0 ∷ [])) ×
    -- text outer gfm «a\_b@c.d»: Data 0-1, CharacterEscape 1-3, GfmAutolinkLiteralEmail 3-8
    (text_outline (record default { options = record default_options { constructs = record default_constructs { gfm_autolink_literal = true; gfm_label_start_footnote = true; gfm_strikethrough = true; gfm_task_list_item = true } } }) (codes "a\\_b@c.d") (piece 0 0 8 0 ∷ []) ≡ (enter Name.Data 1 1 0 0 ∷ exit Name.Data 1 2 1 0 ∷ enter Name.CharacterEscape 1 2 1 0 ∷ exit Name.CharacterEscape 1 4 3 0 ∷ enter Name.GfmAutolinkLiteralEmail 1 4 3 0 ∷ exit Name.GfmAutolinkLiteralEmail 1 9 8 0 ∷ [])) ×
    -- text gfm «http://a/! http://a/" http://a/'»: GfmAutolinkLiteralProtocol 0-9, Data 9-11, GfmAutolinkLiteralProtocol 11-20, Data 20-22, GfmAutolinkLiteralProtocol 22-31, Data 31-32
    (text_answer (record default { options = record default_options { constructs = record default_constructs { gfm_autolink_literal = true; gfm_label_start_footnote = true; gfm_strikethrough = true; gfm_task_list_item = true } } }) (codes "http://a/! http://a/\" http://a/'") (piece 0 0 32 0 ∷ []) ≡ (enter Name.GfmAutolinkLiteralProtocol 1 1 0 0 ∷ exit Name.GfmAutolinkLiteralProtocol 1 10 9 0 ∷ enter Name.Data 1 10 9 0 ∷ exit Name.Data 1 12 11 0 ∷ enter Name.GfmAutolinkLiteralProtocol 1 12 11 0 ∷ exit Name.GfmAutolinkLiteralProtocol 1 21 20 0 ∷ enter Name.Data 1 21 20 0 ∷ exit Name.Data 1 23 22 0 ∷ enter Name.GfmAutolinkLiteralProtocol 1 23 22 0 ∷ exit Name.GfmAutolinkLiteralProtocol 1 32 31 0 ∷ enter Name.Data 1 32 31 0 ∷ exit Name.Data 1 33 32 0 ∷ [])) ×
    -- text gfm «http://a/, http://a/* http://a/.»: GfmAutolinkLiteralProtocol 0-9, Data 9-11, GfmAutolinkLiteralProtocol 11-20, Data 20-22, GfmAutolinkLiteralProtocol 22-31, Data 31-32
    (text_answer (record default { options = record default_options { constructs = record default_constructs { gfm_autolink_literal = true; gfm_label_start_footnote = true; gfm_strikethrough = true; gfm_task_list_item = true } } }) (codes "http://a/, http://a/* http://a/.") (piece 0 0 32 0 ∷ []) ≡ (enter Name.GfmAutolinkLiteralProtocol 1 1 0 0 ∷ exit Name.GfmAutolinkLiteralProtocol 1 10 9 0 ∷ enter Name.Data 1 10 9 0 ∷ exit Name.Data 1 12 11 0 ∷ enter Name.GfmAutolinkLiteralProtocol 1 12 11 0 ∷ exit Name.GfmAutolinkLiteralProtocol 1 21 20 0 ∷ enter Name.Data 1 21 20 0 ∷ exit Name.Data 1 23 22 0 ∷ enter Name.GfmAutolinkLiteralProtocol 1 23 22 0 ∷ exit Name.GfmAutolinkLiteralProtocol 1 32 31 0 ∷ enter Name.Data 1 32 31 0 ∷ exit Name.Data 1 33 32 0 ∷ [])) ×
    -- text gfm «http://a/: http://a/; http://a/?»: GfmAutolinkLiteralProtocol 0-9, Data 9-11, GfmAutolinkLiteralProtocol 11-20, Data 20-22, GfmAutolinkLiteralProtocol 22-31, Data 31-32
    (text_answer (record default { options = record default_options { constructs = record default_constructs { gfm_autolink_literal = true; gfm_label_start_footnote = true; gfm_strikethrough = true; gfm_task_list_item = true } } }) (codes "http://a/: http://a/; http://a/?") (piece 0 0 32 0 ∷ []) ≡ (enter Name.GfmAutolinkLiteralProtocol 1 1 0 0 ∷ exit Name.GfmAutolinkLiteralProtocol 1 10 9 0 ∷ enter Name.Data 1 10 9 0 ∷ exit Name.Data 1 12 11 0 ∷ enter Name.GfmAutolinkLiteralProtocol 1 12 11 0 ∷ exit Name.GfmAutolinkLiteralProtocol 1 21 20 0 ∷ enter Name.Data 1 21 20 0 ∷ exit Name.Data 1 23 22 0 ∷ enter Name.GfmAutolinkLiteralProtocol 1 23 22 0 ∷ exit Name.GfmAutolinkLiteralProtocol 1 32 31 0 ∷ enter Name.Data 1 32 31 0 ∷ exit Name.Data 1 33 32 0 ∷ [])) ×
    -- text gfm «http://a/_ http://a/~ http://a/]»: GfmAutolinkLiteralProtocol 0-9, Data 9-11, GfmAutolinkLiteralProtocol 11-20, Data 20-22, GfmAutolinkLiteralProtocol 22-31, Data 31-32
    (text_answer (record default { options = record default_options { constructs = record default_constructs { gfm_autolink_literal = true; gfm_label_start_footnote = true; gfm_strikethrough = true; gfm_task_list_item = true } } }) (codes "http://a/_ http://a/~ http://a/]") (piece 0 0 32 0 ∷ []) ≡ (enter Name.GfmAutolinkLiteralProtocol 1 1 0 0 ∷ exit Name.GfmAutolinkLiteralProtocol 1 10 9 0 ∷ enter Name.Data 1 10 9 0 ∷ exit Name.Data 1 12 11 0 ∷ enter Name.GfmAutolinkLiteralProtocol 1 12 11 0 ∷ exit Name.GfmAutolinkLiteralProtocol 1 21 20 0 ∷ enter Name.Data 1 21 20 0 ∷ exit Name.Data 1 23 22 0 ∷ enter Name.GfmAutolinkLiteralProtocol 1 23 22 0 ∷ exit Name.GfmAutolinkLiteralProtocol 1 32 31 0 ∷ enter Name.Data 1 32 31 0 ∷ exit Name.Data 1 33 32 0 ∷ [])) ×
    -- text gfm «http://a/< http://a/)»: GfmAutolinkLiteralProtocol 0-9, Data 9-11, GfmAutolinkLiteralProtocol 11-20, Data 20-21
    (text_answer (record default { options = record default_options { constructs = record default_constructs { gfm_autolink_literal = true; gfm_label_start_footnote = true; gfm_strikethrough = true; gfm_task_list_item = true } } }) (codes "http://a/< http://a/)") (piece 0 0 21 0 ∷ []) ≡ (enter Name.GfmAutolinkLiteralProtocol 1 1 0 0 ∷ exit Name.GfmAutolinkLiteralProtocol 1 10 9 0 ∷ enter Name.Data 1 10 9 0 ∷ exit Name.Data 1 12 11 0 ∷ enter Name.GfmAutolinkLiteralProtocol 1 12 11 0 ∷ exit Name.GfmAutolinkLiteralProtocol 1 21 20 0 ∷ enter Name.Data 1 21 20 0 ∷ exit Name.Data 1 22 21 0 ∷ [])) ×
    -- text gfm «http://a/!( http://a/!/ http://a/!-»: GfmAutolinkLiteralProtocol 0-11, Data 11-12, GfmAutolinkLiteralProtocol 12-23, Data 23-24, GfmAutolinkLiteralProtocol 24-35
    (text_answer (record default { options = record default_options { constructs = record default_constructs { gfm_autolink_literal = true; gfm_label_start_footnote = true; gfm_strikethrough = true; gfm_task_list_item = true } } }) (codes "http://a/!( http://a/!/ http://a/!-") (piece 0 0 35 0 ∷ []) ≡ (enter Name.GfmAutolinkLiteralProtocol 1 1 0 0 ∷ exit Name.GfmAutolinkLiteralProtocol 1 12 11 0 ∷ enter Name.Data 1 12 11 0 ∷ exit Name.Data 1 13 12 0 ∷ enter Name.GfmAutolinkLiteralProtocol 1 13 12 0 ∷ exit Name.GfmAutolinkLiteralProtocol 1 24 23 0 ∷ enter Name.Data 1 24 23 0 ∷ exit Name.Data 1 25 24 0 ∷ enter Name.GfmAutolinkLiteralProtocol 1 25 24 0 ∷ exit Name.GfmAutolinkLiteralProtocol 1 36 35 0 ∷ [])) ×
    -- text gfm «http://a/![ http://a/!+»: GfmAutolinkLiteralProtocol 0-11, Data 11-12, GfmAutolinkLiteralProtocol 12-23
    (text_answer (record default { options = record default_options { constructs = record default_constructs { gfm_autolink_literal = true; gfm_label_start_footnote = true; gfm_strikethrough = true; gfm_task_list_item = true } } }) (codes "http://a/![ http://a/!+") (piece 0 0 23 0 ∷ []) ≡ (enter Name.GfmAutolinkLiteralProtocol 1 1 0 0 ∷ exit Name.GfmAutolinkLiteralProtocol 1 12 11 0 ∷ enter Name.Data 1 12 11 0 ∷ exit Name.Data 1 13 12 0 ∷ enter Name.GfmAutolinkLiteralProtocol 1 13 12 0 ∷ exit Name.GfmAutolinkLiteralProtocol 1 24 23 0 ∷ [])) ×
    -- text gfm «http://a.b&;»: GfmAutolinkLiteralProtocol 0-11, Data 11-12
    (text_answer (record default { options = record default_options { constructs = record default_constructs { gfm_autolink_literal = true; gfm_label_start_footnote = true; gfm_strikethrough = true; gfm_task_list_item = true } } }) (codes "http://a.b&;") (piece 0 0 12 0 ∷ []) ≡ (enter Name.GfmAutolinkLiteralProtocol 1 1 0 0 ∷ exit Name.GfmAutolinkLiteralProtocol 1 12 11 0 ∷ enter Name.Data 1 12 11 0 ∷ exit Name.Data 1 13 12 0 ∷ [])) ×
    -- text gfm «http://a.b&1;»: GfmAutolinkLiteralProtocol 0-12, Data 12-13
    (text_answer (record default { options = record default_options { constructs = record default_constructs { gfm_autolink_literal = true; gfm_label_start_footnote = true; gfm_strikethrough = true; gfm_task_list_item = true } } }) (codes "http://a.b&1;") (piece 0 0 13 0 ∷ []) ≡ (enter Name.GfmAutolinkLiteralProtocol 1 1 0 0 ∷ exit Name.GfmAutolinkLiteralProtocol 1 13 12 0 ∷ enter Name.Data 1 13 12 0 ∷ exit Name.Data 1 14 13 0 ∷ [])) ×
    -- text gfm «http://a.b&c;»: GfmAutolinkLiteralProtocol 0-10, Data 10-13
    (text_answer (record default { options = record default_options { constructs = record default_constructs { gfm_autolink_literal = true; gfm_label_start_footnote = true; gfm_strikethrough = true; gfm_task_list_item = true } } }) (codes "http://a.b&c;") (piece 0 0 13 0 ∷ []) ≡ (enter Name.GfmAutolinkLiteralProtocol 1 1 0 0 ∷ exit Name.GfmAutolinkLiteralProtocol 1 11 10 0 ∷ enter Name.Data 1 11 10 0 ∷ exit Name.Data 1 14 13 0 ∷ [])) ×
    -- text gfm «http://a.b&cZ;d»: GfmAutolinkLiteralProtocol 0-15
    (text_answer (record default { options = record default_options { constructs = record default_constructs { gfm_autolink_literal = true; gfm_label_start_footnote = true; gfm_strikethrough = true; gfm_task_list_item = true } } }) (codes "http://a.b&cZ;d") (piece 0 0 15 0 ∷ []) ≡ (enter Name.GfmAutolinkLiteralProtocol 1 1 0 0 ∷ exit Name.GfmAutolinkLiteralProtocol 1 16 15 0 ∷ [])) ×
    -- text gfm «http://a.b&c»: GfmAutolinkLiteralProtocol 0-12
    (text_answer (record default { options = record default_options { constructs = record default_constructs { gfm_autolink_literal = true; gfm_label_start_footnote = true; gfm_strikethrough = true; gfm_task_list_item = true } } }) (codes "http://a.b&c") (piece 0 0 12 0 ∷ []) ≡ (enter Name.GfmAutolinkLiteralProtocol 1 1 0 0 ∷ exit Name.GfmAutolinkLiteralProtocol 1 13 12 0 ∷ [])) ×
    -- text gfm «http://a/&»: GfmAutolinkLiteralProtocol 0-10
    (text_answer (record default { options = record default_options { constructs = record default_constructs { gfm_autolink_literal = true; gfm_label_start_footnote = true; gfm_strikethrough = true; gfm_task_list_item = true } } }) (codes "http://a/&") (piece 0 0 10 0 ∷ []) ≡ (enter Name.GfmAutolinkLiteralProtocol 1 1 0 0 ∷ exit Name.GfmAutolinkLiteralProtocol 1 11 10 0 ∷ [])) ×
    -- text gfm «www.._]<.»: GfmAutolinkLiteralWww 0-3, Data 3-9
    (text_answer (record default { options = record default_options { constructs = record default_constructs { gfm_autolink_literal = true; gfm_label_start_footnote = true; gfm_strikethrough = true; gfm_task_list_item = true } } }) (codes "www.._]<.") (piece 0 0 9 0 ∷ []) ≡ (enter Name.GfmAutolinkLiteralWww 1 1 0 0 ∷ exit Name.GfmAutolinkLiteralWww 1 4 3 0 ∷ enter Name.Data 1 4 3 0 ∷ exit Name.Data 1 10 9 0 ∷ [])) ×
    -- text gfm «␉www.]b»: SpaceOrTab 0-1, GfmAutolinkLiteralWww 1-7
    (text_answer (record default { options = record default_options { constructs = record default_constructs { gfm_autolink_literal = true; gfm_label_start_footnote = true; gfm_strikethrough = true; gfm_task_list_item = true } } }) (9 ∷ 119 ∷ 119 ∷ 119 ∷ 46 ∷ 93 ∷ 98 ∷ []) (piece 0 0 7 0 ∷ []) ≡ (enter Name.SpaceOrTab 1 1 0 0 ∷ exit Name.SpaceOrTab 1 5 1 0 ∷ enter Name.GfmAutolinkLiteralWww 1 5 1 0 ∷ exit Name.GfmAutolinkLiteralWww 1 11 7 0 ∷ [])) ×
    -- text gfm «http://a/.<b»: GfmAutolinkLiteralProtocol 0-9, Data 9-12
    (text_answer (record default { options = record default_options { constructs = record default_constructs { gfm_autolink_literal = true; gfm_label_start_footnote = true; gfm_strikethrough = true; gfm_task_list_item = true } } }) (codes "http://a/.<b") (piece 0 0 12 0 ∷ []) ≡ (enter Name.GfmAutolinkLiteralProtocol 1 1 0 0 ∷ exit Name.GfmAutolinkLiteralProtocol 1 10 9 0 ∷ enter Name.Data 1 10 9 0 ∷ exit Name.Data 1 13 12 0 ∷ [])) ×
    -- text gfm «http://a/](b»: GfmAutolinkLiteralProtocol 0-9, Data 9-12
    (text_answer (record default { options = record default_options { constructs = record default_constructs { gfm_autolink_literal = true; gfm_label_start_footnote = true; gfm_strikethrough = true; gfm_task_list_item = true } } }) (codes "http://a/](b") (piece 0 0 12 0 ∷ []) ≡ (enter Name.GfmAutolinkLiteralProtocol 1 1 0 0 ∷ exit Name.GfmAutolinkLiteralProtocol 1 10 9 0 ∷ enter Name.Data 1 10 9 0 ∷ exit Name.Data 1 13 12 0 ∷ [])) ×
    -- text gfm «http://a/][b»: GfmAutolinkLiteralProtocol 0-9, Data 9-12
    (text_answer (record default { options = record default_options { constructs = record default_constructs { gfm_autolink_literal = true; gfm_label_start_footnote = true; gfm_strikethrough = true; gfm_task_list_item = true } } }) (codes "http://a/][b") (piece 0 0 12 0 ∷ []) ≡ (enter Name.GfmAutolinkLiteralProtocol 1 1 0 0 ∷ exit Name.GfmAutolinkLiteralProtocol 1 10 9 0 ∷ enter Name.Data 1 10 9 0 ∷ exit Name.Data 1 13 12 0 ∷ [])) ×
    -- text gfm «http://a/]b»: GfmAutolinkLiteralProtocol 0-11
    (text_answer (record default { options = record default_options { constructs = record default_constructs { gfm_autolink_literal = true; gfm_label_start_footnote = true; gfm_strikethrough = true; gfm_task_list_item = true } } }) (codes "http://a/]b") (piece 0 0 11 0 ∷ []) ≡ (enter Name.GfmAutolinkLiteralProtocol 1 1 0 0 ∷ exit Name.GfmAutolinkLiteralProtocol 1 12 11 0 ∷ [])) ×
    -- text gfm «http://a/].»: GfmAutolinkLiteralProtocol 0-9, Data 9-11
    (text_answer (record default { options = record default_options { constructs = record default_constructs { gfm_autolink_literal = true; gfm_label_start_footnote = true; gfm_strikethrough = true; gfm_task_list_item = true } } }) (codes "http://a/].") (piece 0 0 11 0 ∷ []) ≡ (enter Name.GfmAutolinkLiteralProtocol 1 1 0 0 ∷ exit Name.GfmAutolinkLiteralProtocol 1 10 9 0 ∷ enter Name.Data 1 10 9 0 ∷ exit Name.Data 1 12 11 0 ∷ [])) ×
    -- text gfm «http://a/]␊b»: GfmAutolinkLiteralProtocol 0-9, Data 9-10, LineEnding 10-11, Data 11-12
    (text_answer (record default { options = record default_options { constructs = record default_constructs { gfm_autolink_literal = true; gfm_label_start_footnote = true; gfm_strikethrough = true; gfm_task_list_item = true } } }) (104 ∷ 116 ∷ 116 ∷ 112 ∷ 58 ∷ 47 ∷ 47 ∷ 97 ∷ 47 ∷ 93 ∷ 10 ∷ 98 ∷ []) (piece 0 0 12 0 ∷ []) ≡ (enter Name.GfmAutolinkLiteralProtocol 1 1 0 0 ∷ exit Name.GfmAutolinkLiteralProtocol 1 10 9 0 ∷ enter Name.Data 1 10 9 0 ∷ exit Name.Data 1 11 10 0 ∷ enter Name.LineEnding 1 11 10 0 ∷ exit Name.LineEnding 2 1 11 0 ∷ enter Name.Data 2 1 11 0 ∷ exit Name.Data 2 2 12 0 ∷ [])) ×
    -- text gfm «http://a/]b» 0-10: GfmAutolinkLiteralProtocol 0-9, Data 9-10
    (text_answer (record default { options = record default_options { constructs = record default_constructs { gfm_autolink_literal = true; gfm_label_start_footnote = true; gfm_strikethrough = true; gfm_task_list_item = true } } }) (codes "http://a/]b") (piece 0 0 10 0 ∷ []) ≡ (enter Name.GfmAutolinkLiteralProtocol 1 1 0 0 ∷ exit Name.GfmAutolinkLiteralProtocol 1 10 9 0 ∷ enter Name.Data 1 10 9 0 ∷ exit Name.Data 1 11 10 0 ∷ [])) ×
    -- text gfm «http://a/. b»: GfmAutolinkLiteralProtocol 0-9, Data 9-12
    (text_answer (record default { options = record default_options { constructs = record default_constructs { gfm_autolink_literal = true; gfm_label_start_footnote = true; gfm_strikethrough = true; gfm_task_list_item = true } } }) (codes "http://a/. b") (piece 0 0 12 0 ∷ []) ≡ (enter Name.GfmAutolinkLiteralProtocol 1 1 0 0 ∷ exit Name.GfmAutolinkLiteralProtocol 1 10 9 0 ∷ enter Name.Data 1 10 9 0 ∷ exit Name.Data 1 13 12 0 ∷ [])) ×
    -- text gfm «http://a/.b»: GfmAutolinkLiteralProtocol 0-11
    (text_answer (record default { options = record default_options { constructs = record default_constructs { gfm_autolink_literal = true; gfm_label_start_footnote = true; gfm_strikethrough = true; gfm_task_list_item = true } } }) (codes "http://a/.b") (piece 0 0 11 0 ∷ []) ≡ (enter Name.GfmAutolinkLiteralProtocol 1 1 0 0 ∷ exit Name.GfmAutolinkLiteralProtocol 1 12 11 0 ∷ [])) ×
    -- text gfm «http://a/ b»: GfmAutolinkLiteralProtocol 0-9, Data 9-11
    (text_answer (record default { options = record default_options { constructs = record default_constructs { gfm_autolink_literal = true; gfm_label_start_footnote = true; gfm_strikethrough = true; gfm_task_list_item = true } } }) (codes "http://a/ b") (piece 0 0 11 0 ∷ []) ≡ (enter Name.GfmAutolinkLiteralProtocol 1 1 0 0 ∷ exit Name.GfmAutolinkLiteralProtocol 1 10 9 0 ∷ enter Name.Data 1 10 9 0 ∷ exit Name.Data 1 12 11 0 ∷ [])) ×
    -- text gfm «http://a/⟦U+00A0⟧b»: GfmAutolinkLiteralProtocol 0-9, Data 9-12
    (text_answer (record default { options = record default_options { constructs = record default_constructs { gfm_autolink_literal = true; gfm_label_start_footnote = true; gfm_strikethrough = true; gfm_task_list_item = true } } }) (104 ∷ 116 ∷ 116 ∷ 112 ∷ 58 ∷ 47 ∷ 47 ∷ 97 ∷ 47 ∷ 194 ∷ 160 ∷ 98 ∷ []) (piece 0 0 12 0 ∷ []) ≡ (enter Name.GfmAutolinkLiteralProtocol 1 1 0 0 ∷ exit Name.GfmAutolinkLiteralProtocol 1 10 9 0 ∷ enter Name.Data 1 10 9 0 ∷ exit Name.Data 1 13 12 0 ∷ [])) ×
    -- text gfm «http://a/.⟦U+00A0⟧b»: GfmAutolinkLiteralProtocol 0-9, Data 9-13
    (text_answer (record default { options = record default_options { constructs = record default_constructs { gfm_autolink_literal = true; gfm_label_start_footnote = true; gfm_strikethrough = true; gfm_task_list_item = true } } }) (104 ∷ 116 ∷ 116 ∷ 112 ∷ 58 ∷ 47 ∷ 47 ∷ 97 ∷ 47 ∷ 46 ∷ 194 ∷ 160 ∷ 98 ∷ []) (piece 0 0 13 0 ∷ []) ≡ (enter Name.GfmAutolinkLiteralProtocol 1 1 0 0 ∷ exit Name.GfmAutolinkLiteralProtocol 1 10 9 0 ∷ enter Name.Data 1 10 9 0 ∷ exit Name.Data 1 14 13 0 ∷ [])) ×
    -- text gfm «http://a/(b)»: GfmAutolinkLiteralProtocol 0-12
    (text_answer (record default { options = record default_options { constructs = record default_constructs { gfm_autolink_literal = true; gfm_label_start_footnote = true; gfm_strikethrough = true; gfm_task_list_item = true } } }) (codes "http://a/(b)") (piece 0 0 12 0 ∷ []) ≡ (enter Name.GfmAutolinkLiteralProtocol 1 1 0 0 ∷ exit Name.GfmAutolinkLiteralProtocol 1 13 12 0 ∷ [])) ×
    -- text gfm «http://a/(b))»: GfmAutolinkLiteralProtocol 0-12, Data 12-13
    (text_answer (record default { options = record default_options { constructs = record default_constructs { gfm_autolink_literal = true; gfm_label_start_footnote = true; gfm_strikethrough = true; gfm_task_list_item = true } } }) (codes "http://a/(b))") (piece 0 0 13 0 ∷ []) ≡ (enter Name.GfmAutolinkLiteralProtocol 1 1 0 0 ∷ exit Name.GfmAutolinkLiteralProtocol 1 13 12 0 ∷ enter Name.Data 1 13 12 0 ∷ exit Name.Data 1 14 13 0 ∷ [])) ×
    -- text gfm «http://a/b)c»: GfmAutolinkLiteralProtocol 0-12
    (text_answer (record default { options = record default_options { constructs = record default_constructs { gfm_autolink_literal = true; gfm_label_start_footnote = true; gfm_strikethrough = true; gfm_task_list_item = true } } }) (codes "http://a/b)c") (piece 0 0 12 0 ∷ []) ≡ (enter Name.GfmAutolinkLiteralProtocol 1 1 0 0 ∷ exit Name.GfmAutolinkLiteralProtocol 1 13 12 0 ∷ [])) ×
    -- text gfm «http://a/b_c"d»: GfmAutolinkLiteralProtocol 0-14
    (text_answer (record default { options = record default_options { constructs = record default_constructs { gfm_autolink_literal = true; gfm_label_start_footnote = true; gfm_strikethrough = true; gfm_task_list_item = true } } }) (codes "http://a/b_c\"d") (piece 0 0 14 0 ∷ []) ≡ (enter Name.GfmAutolinkLiteralProtocol 1 1 0 0 ∷ exit Name.GfmAutolinkLiteralProtocol 1 15 14 0 ∷ [])) ×
    -- text gfm «http://a_b.c.d»: GfmAutolinkLiteralProtocol 0-14
    (text_answer (record default { options = record default_options { constructs = record default_constructs { gfm_autolink_literal = true; gfm_label_start_footnote = true; gfm_strikethrough = true; gfm_task_list_item = true } } }) (codes "http://a_b.c.d") (piece 0 0 14 0 ∷ []) ≡ (enter Name.GfmAutolinkLiteralProtocol 1 1 0 0 ∷ exit Name.GfmAutolinkLiteralProtocol 1 15 14 0 ∷ [])) ×
    -- text gfm «http://a.b_c»: Data 0-12
    (text_answer (record default { options = record default_options { constructs = record default_constructs { gfm_autolink_literal = true; gfm_label_start_footnote = true; gfm_strikethrough = true; gfm_task_list_item = true } } }) (codes "http://a.b_c") (piece 0 0 12 0 ∷ []) ≡ (enter Name.Data 1 1 0 0 ∷ exit Name.Data 1 13 12 0 ∷ [])) ×
    -- text gfm «http://a_b»: Data 0-10
    (text_answer (record default { options = record default_options { constructs = record default_constructs { gfm_autolink_literal = true; gfm_label_start_footnote = true; gfm_strikethrough = true; gfm_task_list_item = true } } }) (codes "http://a_b") (piece 0 0 10 0 ∷ []) ≡ (enter Name.Data 1 1 0 0 ∷ exit Name.Data 1 11 10 0 ∷ [])) ×
    -- text gfm «http://a.b.c_»: GfmAutolinkLiteralProtocol 0-12, Data 12-13
    (text_answer (record default { options = record default_options { constructs = record default_constructs { gfm_autolink_literal = true; gfm_label_start_footnote = true; gfm_strikethrough = true; gfm_task_list_item = true } } }) (codes "http://a.b.c_") (piece 0 0 13 0 ∷ []) ≡ (enter Name.GfmAutolinkLiteralProtocol 1 1 0 0 ∷ exit Name.GfmAutolinkLiteralProtocol 1 13 12 0 ∷ enter Name.Data 1 13 12 0 ∷ exit Name.Data 1 14 13 0 ∷ [])) ×
    -- text gfm «http://»: Data 0-7
    (text_answer (record default { options = record default_options { constructs = record default_constructs { gfm_autolink_literal = true; gfm_label_start_footnote = true; gfm_strikethrough = true; gfm_task_list_item = true } } }) (codes "http://") (piece 0 0 7 0 ∷ []) ≡ (enter Name.Data 1 1 0 0 ∷ exit Name.Data 1 8 7 0 ∷ [])) ×
    -- text gfm «http://-»: Data 0-8
    (text_answer (record default { options = record default_options { constructs = record default_constructs { gfm_autolink_literal = true; gfm_label_start_footnote = true; gfm_strikethrough = true; gfm_task_list_item = true } } }) (codes "http://-") (piece 0 0 8 0 ∷ []) ≡ (enter Name.Data 1 1 0 0 ∷ exit Name.Data 1 9 8 0 ∷ [])) ×
    -- text gfm «http://.-»: Data 0-9
    (text_answer (record default { options = record default_options { constructs = record default_constructs { gfm_autolink_literal = true; gfm_label_start_footnote = true; gfm_strikethrough = true; gfm_task_list_item = true } } }) (codes "http://.-") (piece 0 0 9 0 ∷ []) ≡ (enter Name.Data 1 1 0 0 ∷ exit Name.Data 1 10 9 0 ∷ [])) ×
    -- text gfm «http://_.-.-»: Data 0-12
    (text_answer (record default { options = record default_options { constructs = record default_constructs { gfm_autolink_literal = true; gfm_label_start_footnote = true; gfm_strikethrough = true; gfm_task_list_item = true } } }) (codes "http://_.-.-") (piece 0 0 12 0 ∷ []) ≡ (enter Name.Data 1 1 0 0 ∷ exit Name.Data 1 13 12 0 ∷ [])) ×
    -- text gfm «http://+»: Data 0-8
    (text_answer (record default { options = record default_options { constructs = record default_constructs { gfm_autolink_literal = true; gfm_label_start_footnote = true; gfm_strikethrough = true; gfm_task_list_item = true } } }) (codes "http://+") (piece 0 0 8 0 ∷ []) ≡ (enter Name.Data 1 1 0 0 ∷ exit Name.Data 1 9 8 0 ∷ [])) ×
    -- text gfm «http://⟦U+0001⟧»: GfmAutolinkLiteralProtocol 0-8
    (text_answer (record default { options = record default_options { constructs = record default_constructs { gfm_autolink_literal = true; gfm_label_start_footnote = true; gfm_strikethrough = true; gfm_task_list_item = true } } }) (104 ∷ 116 ∷ 116 ∷ 112 ∷ 58 ∷ 47 ∷ 47 ∷ 1 ∷ []) (piece 0 0 8 0 ∷ []) ≡ (enter Name.GfmAutolinkLiteralProtocol 1 1 0 0 ∷ exit Name.GfmAutolinkLiteralProtocol 1 9 8 0 ∷ [])) ×
    -- text gfm «http://a-b.c»: GfmAutolinkLiteralProtocol 0-12
    (text_answer (record default { options = record default_options { constructs = record default_constructs { gfm_autolink_literal = true; gfm_label_start_footnote = true; gfm_strikethrough = true; gfm_task_list_item = true } } }) (codes "http://a-b.c") (piece 0 0 12 0 ∷ []) ≡ (enter Name.GfmAutolinkLiteralProtocol 1 1 0 0 ∷ exit Name.GfmAutolinkLiteralProtocol 1 13 12 0 ∷ [])) ×
    -- text gfm «http://a/b»: GfmAutolinkLiteralProtocol 0-10
    (text_answer (record default { options = record default_options { constructs = record default_constructs { gfm_autolink_literal = true; gfm_label_start_footnote = true; gfm_strikethrough = true; gfm_task_list_item = true } } }) (codes "http://a/b") (piece 0 0 10 0 ∷ []) ≡ (enter Name.GfmAutolinkLiteralProtocol 1 1 0 0 ∷ exit Name.GfmAutolinkLiteralProtocol 1 11 10 0 ∷ [])) ×
    -- text gfm «http://é»: GfmAutolinkLiteralProtocol 0-9
    (text_answer (record default { options = record default_options { constructs = record default_constructs { gfm_autolink_literal = true; gfm_label_start_footnote = true; gfm_strikethrough = true; gfm_task_list_item = true } } }) (104 ∷ 116 ∷ 116 ∷ 112 ∷ 58 ∷ 47 ∷ 47 ∷ 195 ∷ 169 ∷ []) (piece 0 0 9 0 ∷ []) ≡ (enter Name.GfmAutolinkLiteralProtocol 1 1 0 0 ∷ exit Name.GfmAutolinkLiteralProtocol 1 10 9 0 ∷ [])) ×
    -- text gfm «http://À»: GfmAutolinkLiteralProtocol 0-9
    (text_answer (record default { options = record default_options { constructs = record default_constructs { gfm_autolink_literal = true; gfm_label_start_footnote = true; gfm_strikethrough = true; gfm_task_list_item = true } } }) (104 ∷ 116 ∷ 116 ∷ 112 ∷ 58 ∷ 47 ∷ 47 ∷ 195 ∷ 128 ∷ []) (piece 0 0 9 0 ∷ []) ≡ (enter Name.GfmAutolinkLiteralProtocol 1 1 0 0 ∷ exit Name.GfmAutolinkLiteralProtocol 1 10 9 0 ∷ [])) ×
    -- text gfm «http://ÿ/À»: GfmAutolinkLiteralProtocol 0-12
    (text_answer (record default { options = record default_options { constructs = record default_constructs { gfm_autolink_literal = true; gfm_label_start_footnote = true; gfm_strikethrough = true; gfm_task_list_item = true } } }) (104 ∷ 116 ∷ 116 ∷ 112 ∷ 58 ∷ 47 ∷ 47 ∷ 195 ∷ 191 ∷ 47 ∷ 195 ∷ 128 ∷ []) (piece 0 0 12 0 ∷ []) ≡ (enter Name.GfmAutolinkLiteralProtocol 1 1 0 0 ∷ exit Name.GfmAutolinkLiteralProtocol 1 13 12 0 ∷ [])) ×
    -- text gfm «1http://a»: Data 0-1, GfmAutolinkLiteralProtocol 1-9
    (text_answer (record default { options = record default_options { constructs = record default_constructs { gfm_autolink_literal = true; gfm_label_start_footnote = true; gfm_strikethrough = true; gfm_task_list_item = true } } }) (codes "1http://a") (piece 0 0 9 0 ∷ []) ≡ (enter Name.Data 1 1 0 0 ∷ exit Name.Data 1 2 1 0 ∷ enter Name.GfmAutolinkLiteralProtocol 1 2 1 0 ∷ exit Name.GfmAutolinkLiteralProtocol 1 10 9 0 ∷ [])) ×
    -- text gfm «Zhttp://a»: Data 0-9
    (text_answer (record default { options = record default_options { constructs = record default_constructs { gfm_autolink_literal = true; gfm_label_start_footnote = true; gfm_strikethrough = true; gfm_task_list_item = true } } }) (codes "Zhttp://a") (piece 0 0 9 0 ∷ []) ≡ (enter Name.Data 1 1 0 0 ∷ exit Name.Data 1 10 9 0 ∷ [])) ×
    -- text gfm «*http://a»: Data 0-1, GfmAutolinkLiteralProtocol 1-9
    (text_answer (record default { options = record default_options { constructs = record default_constructs { gfm_autolink_literal = true; gfm_label_start_footnote = true; gfm_strikethrough = true; gfm_task_list_item = true } } }) (codes "*http://a") (piece 0 0 9 0 ∷ []) ≡ (enter Name.Data 1 1 0 0 ∷ exit Name.Data 1 2 1 0 ∷ enter Name.GfmAutolinkLiteralProtocol 1 2 1 0 ∷ exit Name.GfmAutolinkLiteralProtocol 1 10 9 0 ∷ [])) ×
    -- text gfm «HttP://a»: GfmAutolinkLiteralProtocol 0-8
    (text_answer (record default { options = record default_options { constructs = record default_constructs { gfm_autolink_literal = true; gfm_label_start_footnote = true; gfm_strikethrough = true; gfm_task_list_item = true } } }) (codes "HttP://a") (piece 0 0 8 0 ∷ []) ≡ (enter Name.GfmAutolinkLiteralProtocol 1 1 0 0 ∷ exit Name.GfmAutolinkLiteralProtocol 1 9 8 0 ∷ [])) ×
    -- text gfm «ftp://a»: Data 0-7
    (text_answer (record default { options = record default_options { constructs = record default_constructs { gfm_autolink_literal = true; gfm_label_start_footnote = true; gfm_strikethrough = true; gfm_task_list_item = true } } }) (codes "ftp://a") (piece 0 0 7 0 ∷ []) ≡ (enter Name.Data 1 1 0 0 ∷ exit Name.Data 1 8 7 0 ∷ [])) ×
    -- text gfm «http:/a»: Data 0-7
    (text_answer (record default { options = record default_options { constructs = record default_constructs { gfm_autolink_literal = true; gfm_label_start_footnote = true; gfm_strikethrough = true; gfm_task_list_item = true } } }) (codes "http:/a") (piece 0 0 7 0 ∷ []) ≡ (enter Name.Data 1 1 0 0 ∷ exit Name.Data 1 8 7 0 ∷ [])) ×
    -- text gfm «httpx://a»: Data 0-9
    (text_answer (record default { options = record default_options { constructs = record default_constructs { gfm_autolink_literal = true; gfm_label_start_footnote = true; gfm_strikethrough = true; gfm_task_list_item = true } } }) (codes "httpx://a") (piece 0 0 9 0 ∷ []) ≡ (enter Name.Data 1 1 0 0 ∷ exit Name.Data 1 10 9 0 ∷ [])) ×
    -- text gfm «http⟦U+001A⟧//a»: Data 0-8
    (text_answer (record default { options = record default_options { constructs = record default_constructs { gfm_autolink_literal = true; gfm_label_start_footnote = true; gfm_strikethrough = true; gfm_task_list_item = true } } }) (104 ∷ 116 ∷ 116 ∷ 112 ∷ 26 ∷ 47 ∷ 47 ∷ 97 ∷ []) (piece 0 0 8 0 ∷ []) ≡ (enter Name.Data 1 1 0 0 ∷ exit Name.Data 1 9 8 0 ∷ [])) ×
    -- text gfm «www⟦U+000E⟧a»: Data 0-5
    (text_answer (record default { options = record default_options { constructs = record default_constructs { gfm_autolink_literal = true; gfm_label_start_footnote = true; gfm_strikethrough = true; gfm_task_list_item = true } } }) (119 ∷ 119 ∷ 119 ∷ 14 ∷ 97 ∷ []) (piece 0 0 5 0 ∷ []) ≡ (enter Name.Data 1 1 0 0 ∷ exit Name.Data 1 6 5 0 ∷ [])) ×
    -- text gfm «WWW.a»: GfmAutolinkLiteralWww 0-5
    (text_answer (record default { options = record default_options { constructs = record default_constructs { gfm_autolink_literal = true; gfm_label_start_footnote = true; gfm_strikethrough = true; gfm_task_list_item = true } } }) (codes "WWW.a") (piece 0 0 5 0 ∷ []) ≡ (enter Name.GfmAutolinkLiteralWww 1 1 0 0 ∷ exit Name.GfmAutolinkLiteralWww 1 6 5 0 ∷ [])) ×
    -- text gfm «wWw.a»: GfmAutolinkLiteralWww 0-5
    (text_answer (record default { options = record default_options { constructs = record default_constructs { gfm_autolink_literal = true; gfm_label_start_footnote = true; gfm_strikethrough = true; gfm_task_list_item = true } } }) (codes "wWw.a") (piece 0 0 5 0 ∷ []) ≡ (enter Name.GfmAutolinkLiteralWww 1 1 0 0 ∷ exit Name.GfmAutolinkLiteralWww 1 6 5 0 ∷ [])) ×
    -- text gfm «awww.a»: Data 0-6
    (text_answer (record default { options = record default_options { constructs = record default_constructs { gfm_autolink_literal = true; gfm_label_start_footnote = true; gfm_strikethrough = true; gfm_task_list_item = true } } }) (codes "awww.a") (piece 0 0 6 0 ∷ []) ≡ (enter Name.Data 1 1 0 0 ∷ exit Name.Data 1 7 6 0 ∷ [])) ×
    -- text gfm «~www.a»: Data 0-1, GfmAutolinkLiteralWww 1-6
    (text_answer (record default { options = record default_options { constructs = record default_constructs { gfm_autolink_literal = true; gfm_label_start_footnote = true; gfm_strikethrough = true; gfm_task_list_item = true } } }) (codes "~www.a") (piece 0 0 6 0 ∷ []) ≡ (enter Name.Data 1 1 0 0 ∷ exit Name.Data 1 2 1 0 ∷ enter Name.GfmAutolinkLiteralWww 1 2 1 0 ∷ exit Name.GfmAutolinkLiteralWww 1 7 6 0 ∷ [])) ×
    -- text gfm «(www.a *www.a _www.a»: Data 0-1, GfmAutolinkLiteralWww 1-6, Data 6-8, GfmAutolinkLiteralWww 8-13, Data 13-15, GfmAutolinkLiteralWww 15-20
    (text_answer (record default { options = record default_options { constructs = record default_constructs { gfm_autolink_literal = true; gfm_label_start_footnote = true; gfm_strikethrough = true; gfm_task_list_item = true } } }) (codes "(www.a *www.a _www.a") (piece 0 0 20 0 ∷ []) ≡ (enter Name.Data 1 1 0 0 ∷ exit Name.Data 1 2 1 0 ∷ enter Name.GfmAutolinkLiteralWww 1 2 1 0 ∷ exit Name.GfmAutolinkLiteralWww 1 7 6 0 ∷ enter Name.Data 1 7 6 0 ∷ exit Name.Data 1 9 8 0 ∷ enter Name.GfmAutolinkLiteralWww 1 9 8 0 ∷ exit Name.GfmAutolinkLiteralWww 1 14 13 0 ∷ enter Name.Data 1 14 13 0 ∷ exit Name.Data 1 16 15 0 ∷ enter Name.GfmAutolinkLiteralWww 1 16 15 0 ∷ exit Name.GfmAutolinkLiteralWww 1 21 20 0 ∷ [])) ×
    -- text gfm «[www.a ]www.a ~www.a»: Data 0-1, GfmAutolinkLiteralWww 1-6, Data 6-8, GfmAutolinkLiteralWww 8-13, Data 13-15, GfmAutolinkLiteralWww 15-20
    (text_answer (record default { options = record default_options { constructs = record default_constructs { gfm_autolink_literal = true; gfm_label_start_footnote = true; gfm_strikethrough = true; gfm_task_list_item = true } } }) (codes "[www.a ]www.a ~www.a") (piece 0 0 20 0 ∷ []) ≡ (enter Name.Data 1 1 0 0 ∷ exit Name.Data 1 2 1 0 ∷ enter Name.GfmAutolinkLiteralWww 1 2 1 0 ∷ exit Name.GfmAutolinkLiteralWww 1 7 6 0 ∷ enter Name.Data 1 7 6 0 ∷ exit Name.Data 1 9 8 0 ∷ enter Name.GfmAutolinkLiteralWww 1 9 8 0 ∷ exit Name.GfmAutolinkLiteralWww 1 14 13 0 ∷ enter Name.Data 1 14 13 0 ∷ exit Name.Data 1 16 15 0 ∷ enter Name.GfmAutolinkLiteralWww 1 16 15 0 ∷ exit Name.GfmAutolinkLiteralWww 1 21 20 0 ∷ [])) ×
    -- text gfm «"www.a )www.a !www.a /www.a -www.a»: Data 0-34
    (text_answer (record default { options = record default_options { constructs = record default_constructs { gfm_autolink_literal = true; gfm_label_start_footnote = true; gfm_strikethrough = true; gfm_task_list_item = true } } }) (codes "\"www.a )www.a !www.a /www.a -www.a") (piece 0 0 34 0 ∷ []) ≡ (enter Name.Data 1 1 0 0 ∷ exit Name.Data 1 35 34 0 ∷ [])) ×
    -- text gfm «1www.a éwww.a .www.a»: Data 0-21
    (text_answer (record default { options = record default_options { constructs = record default_constructs { gfm_autolink_literal = true; gfm_label_start_footnote = true; gfm_strikethrough = true; gfm_task_list_item = true } } }) (49 ∷ 119 ∷ 119 ∷ 119 ∷ 46 ∷ 97 ∷ 32 ∷ 195 ∷ 169 ∷ 119 ∷ 119 ∷ 119 ∷ 46 ∷ 97 ∷ 32 ∷ 46 ∷ 119 ∷ 119 ∷ 119 ∷ 46 ∷ 97 ∷ []) (piece 0 0 21 0 ∷ []) ≡ (enter Name.Data 1 1 0 0 ∷ exit Name.Data 1 22 21 0 ∷ [])) ×
    -- text gfm «a www.b»: Data 0-2, GfmAutolinkLiteralWww 2-7
    (text_answer (record default { options = record default_options { constructs = record default_constructs { gfm_autolink_literal = true; gfm_label_start_footnote = true; gfm_strikethrough = true; gfm_task_list_item = true } } }) (codes "a www.b") (piece 0 0 7 0 ∷ []) ≡ (enter Name.Data 1 1 0 0 ∷ exit Name.Data 1 3 2 0 ∷ enter Name.GfmAutolinkLiteralWww 1 3 2 0 ∷ exit Name.GfmAutolinkLiteralWww 1 8 7 0 ∷ [])) ×
    -- text gfm «a␊www.b»: Data 0-1, LineEnding 1-2, GfmAutolinkLiteralWww 2-7
    (text_answer (record default { options = record default_options { constructs = record default_constructs { gfm_autolink_literal = true; gfm_label_start_footnote = true; gfm_strikethrough = true; gfm_task_list_item = true } } }) (97 ∷ 10 ∷ 119 ∷ 119 ∷ 119 ∷ 46 ∷ 98 ∷ []) (piece 0 0 7 0 ∷ []) ≡ (enter Name.Data 1 1 0 0 ∷ exit Name.Data 1 2 1 0 ∷ enter Name.LineEnding 1 2 1 0 ∷ exit Name.LineEnding 2 1 2 0 ∷ enter Name.GfmAutolinkLiteralWww 2 1 2 0 ∷ exit Name.GfmAutolinkLiteralWww 2 6 7 0 ∷ [])) ×
    -- text gfm «a␉www.b»: Data 0-2, GfmAutolinkLiteralWww 2-7
    (text_answer (record default { options = record default_options { constructs = record default_constructs { gfm_autolink_literal = true; gfm_label_start_footnote = true; gfm_strikethrough = true; gfm_task_list_item = true } } }) (97 ∷ 9 ∷ 119 ∷ 119 ∷ 119 ∷ 46 ∷ 98 ∷ []) (piece 0 0 7 0 ∷ []) ≡ (enter Name.Data 1 1 0 0 ∷ exit Name.Data 1 5 2 0 ∷ enter Name.GfmAutolinkLiteralWww 1 5 2 0 ∷ exit Name.GfmAutolinkLiteralWww 1 10 7 0 ∷ [])) ×
    -- text gfm «wwwa»: Data 0-4
    (text_answer (record default { options = record default_options { constructs = record default_constructs { gfm_autolink_literal = true; gfm_label_start_footnote = true; gfm_strikethrough = true; gfm_task_list_item = true } } }) (codes "wwwa") (piece 0 0 4 0 ∷ []) ≡ (enter Name.Data 1 1 0 0 ∷ exit Name.Data 1 5 4 0 ∷ [])) ×
    -- text gfm «www.a/b.»: GfmAutolinkLiteralWww 0-7, Data 7-8
    (text_answer (record default { options = record default_options { constructs = record default_constructs { gfm_autolink_literal = true; gfm_label_start_footnote = true; gfm_strikethrough = true; gfm_task_list_item = true } } }) (codes "www.a/b.") (piece 0 0 8 0 ∷ []) ≡ (enter Name.GfmAutolinkLiteralWww 1 1 0 0 ∷ exit Name.GfmAutolinkLiteralWww 1 8 7 0 ∷ enter Name.Data 1 8 7 0 ∷ exit Name.Data 1 9 8 0 ∷ [])) ×
    -- text gfm «www.a.»: GfmAutolinkLiteralWww 0-5, Data 5-6
    (text_answer (record default { options = record default_options { constructs = record default_constructs { gfm_autolink_literal = true; gfm_label_start_footnote = true; gfm_strikethrough = true; gfm_task_list_item = true } } }) (codes "www.a.") (piece 0 0 6 0 ∷ []) ≡ (enter Name.GfmAutolinkLiteralWww 1 1 0 0 ∷ exit Name.GfmAutolinkLiteralWww 1 6 5 0 ∷ enter Name.Data 1 6 5 0 ∷ exit Name.Data 1 7 6 0 ∷ [])) ×
    -- text gfm «www.a_b.c»: Data 0-9
    (text_answer (record default { options = record default_options { constructs = record default_constructs { gfm_autolink_literal = true; gfm_label_start_footnote = true; gfm_strikethrough = true; gfm_task_list_item = true } } }) (codes "www.a_b.c") (piece 0 0 9 0 ∷ []) ≡ (enter Name.Data 1 1 0 0 ∷ exit Name.Data 1 10 9 0 ∷ [])) ×
    -- text gfm «http://a.b)»: GfmAutolinkLiteralProtocol 0-10, Data 10-11
    (text_answer (record default { options = record default_options { constructs = record default_constructs { gfm_autolink_literal = true; gfm_label_start_footnote = true; gfm_strikethrough = true; gfm_task_list_item = true } } }) (codes "http://a.b)") (piece 0 0 11 0 ∷ []) ≡ (enter Name.GfmAutolinkLiteralProtocol 1 1 0 0 ∷ exit Name.GfmAutolinkLiteralProtocol 1 11 10 0 ∷ enter Name.Data 1 11 10 0 ∷ exit Name.Data 1 12 11 0 ∷ [])) ×
    -- text gfm «http://a/b*c*»: GfmAutolinkLiteralProtocol 0-12, Data 12-13
    (text_answer (record default { options = record default_options { constructs = record default_constructs { gfm_autolink_literal = true; gfm_label_start_footnote = true; gfm_strikethrough = true; gfm_task_list_item = true } } }) (codes "http://a/b*c*") (piece 0 0 13 0 ∷ []) ≡ (enter Name.GfmAutolinkLiteralProtocol 1 1 0 0 ∷ exit Name.GfmAutolinkLiteralProtocol 1 13 12 0 ∷ enter Name.Data 1 13 12 0 ∷ exit Name.Data 1 14 13 0 ∷ [])) ×
    -- text gfm outer «\*www.a.b»: CharacterEscape 0-2, GfmAutolinkLiteralWww 2-9
    (text_outline (record default { options = record default_options { constructs = record default_constructs { gfm_autolink_literal = true; gfm_label_start_footnote = true; gfm_strikethrough = true; gfm_task_list_item = true } } }) (codes "\\*www.a.b") (piece 0 0 9 0 ∷ []) ≡ (enter Name.CharacterEscape 1 1 0 0 ∷ exit Name.CharacterEscape 1 3 2 0 ∷ enter Name.GfmAutolinkLiteralWww 1 3 2 0 ∷ exit Name.GfmAutolinkLiteralWww 1 10 9 0 ∷ [])) ×
    -- text gfm outer «http://a_b.cÿ.d.e»: GfmAutolinkLiteralProtocol 0-18
    (text_outline (record default { options = record default_options { constructs = record default_constructs { gfm_autolink_literal = true; gfm_label_start_footnote = true; gfm_strikethrough = true; gfm_task_list_item = true } } }) (104 ∷ 116 ∷ 116 ∷ 112 ∷ 58 ∷ 47 ∷ 47 ∷ 97 ∷ 95 ∷ 98 ∷ 46 ∷ 99 ∷ 195 ∷ 191 ∷ 46 ∷ 100 ∷ 46 ∷ 101 ∷ []) (piece 0 0 18 0 ∷ []) ≡ (enter Name.GfmAutolinkLiteralProtocol 1 1 0 0 ∷ exit Name.GfmAutolinkLiteralProtocol 1 19 18 0 ∷ [])) ×
    -- text gfm outer «http://a_b.c-.d.e»: GfmAutolinkLiteralProtocol 0-17
    (text_outline (record default { options = record default_options { constructs = record default_constructs { gfm_autolink_literal = true; gfm_label_start_footnote = true; gfm_strikethrough = true; gfm_task_list_item = true } } }) (codes "http://a_b.c-.d.e") (piece 0 0 17 0 ∷ []) ≡ (enter Name.GfmAutolinkLiteralProtocol 1 1 0 0 ∷ exit Name.GfmAutolinkLiteralProtocol 1 18 17 0 ∷ []))

abbrev pub Emails : Type 0
Emails =
    -- text gfm «[^a@b.c]»: Data 0-2, GfmAutolinkLiteralEmail 2-7, Data 7-8
    (text_answer (record default { options = record default_options { constructs = record default_constructs { gfm_autolink_literal = true; gfm_label_start_footnote = true; gfm_strikethrough = true; gfm_task_list_item = true } } }) (codes "[^a@b.c]") (piece 0 0 8 0 ∷ []) ≡ (enter Name.Data 1 1 0 0 ∷ exit Name.Data 1 3 2 0 ∷ enter Name.GfmAutolinkLiteralEmail 1 3 2 0 ∷ exit Name.GfmAutolinkLiteralEmail 1 8 7 0 ∷ enter Name.Data 1 8 7 0 ∷ exit Name.Data 1 9 8 0 ∷ [])) ×
    -- text gfm footnote=a@b.c «[^a@b.c]»: GfmFootnoteCall 0-8 [Label 0-8 [GfmFootnoteCallLabel 0-2 [LabelMarker 0-1, GfmFootnoteCallMarker 1-2], LabelText 2-7 [GfmAutolinkLiteralEmail 2-7], LabelEnd 7-8]]
    (text_answer (record default { options = record default_options { constructs = record default_constructs { gfm_autolink_literal = true; gfm_label_start_footnote = true; gfm_strikethrough = true; gfm_task_list_item = true } }; footnotes = (codes "a@b.c") ∷ [] }) (codes "[^a@b.c]") (piece 0 0 8 0 ∷ []) ≡ (enter Name.GfmFootnoteCall 1 1 0 0 ∷ enter Name.Label 1 1 0 0 ∷ enter Name.GfmFootnoteCallLabel 1 1 0 0 ∷ enter Name.LabelMarker 1 1 0 0 ∷ exit Name.LabelMarker 1 2 1 0 ∷ enter Name.GfmFootnoteCallMarker 1 2 1 0 ∷ exit Name.GfmFootnoteCallMarker 1 3 2 0 ∷ exit Name.GfmFootnoteCallLabel 1 3 2 0 ∷ enter Name.LabelText 1 3 2 0 ∷ enter Name.GfmAutolinkLiteralEmail 1 3 2 0 ∷ exit Name.GfmAutolinkLiteralEmail 1 8 7 0 ∷ exit Name.LabelText 1 8 7 0 ∷ enter Name.LabelEnd 1 8 7 0 ∷ enter Name.LabelMarker 1 8 7 0 ∷ exit Name.LabelMarker 1 9 8 0 ∷ exit Name.LabelEnd 1 9 8 0 ∷ exit Name.Label 1 9 8 0 ∷ exit Name.GfmFootnoteCall 1 9 8 0 ∷ [])) ×
    -- text gfm «a+b@c.d»: GfmAutolinkLiteralEmail 0-7
    (text_answer (record default { options = record default_options { constructs = record default_constructs { gfm_autolink_literal = true; gfm_label_start_footnote = true; gfm_strikethrough = true; gfm_task_list_item = true } } }) (codes "a+b@c.d") (piece 0 0 7 0 ∷ []) ≡ (enter Name.GfmAutolinkLiteralEmail 1 1 0 0 ∷ exit Name.GfmAutolinkLiteralEmail 1 8 7 0 ∷ [])) ×
    -- text gfm «a-b@c.d»: GfmAutolinkLiteralEmail 0-7
    (text_answer (record default { options = record default_options { constructs = record default_constructs { gfm_autolink_literal = true; gfm_label_start_footnote = true; gfm_strikethrough = true; gfm_task_list_item = true } } }) (codes "a-b@c.d") (piece 0 0 7 0 ∷ []) ≡ (enter Name.GfmAutolinkLiteralEmail 1 1 0 0 ∷ exit Name.GfmAutolinkLiteralEmail 1 8 7 0 ∷ [])) ×
    -- text gfm «a.b@c.d»: GfmAutolinkLiteralEmail 0-7
    (text_answer (record default { options = record default_options { constructs = record default_constructs { gfm_autolink_literal = true; gfm_label_start_footnote = true; gfm_strikethrough = true; gfm_task_list_item = true } } }) (codes "a.b@c.d") (piece 0 0 7 0 ∷ []) ≡ (enter Name.GfmAutolinkLiteralEmail 1 1 0 0 ∷ exit Name.GfmAutolinkLiteralEmail 1 8 7 0 ∷ [])) ×
    -- text gfm «a_1@c.Z»: GfmAutolinkLiteralEmail 0-7
    (text_answer (record default { options = record default_options { constructs = record default_constructs { gfm_autolink_literal = true; gfm_label_start_footnote = true; gfm_strikethrough = true; gfm_task_list_item = true } } }) (codes "a_1@c.Z") (piece 0 0 7 0 ∷ []) ≡ (enter Name.GfmAutolinkLiteralEmail 1 1 0 0 ∷ exit Name.GfmAutolinkLiteralEmail 1 8 7 0 ∷ [])) ×
    -- text gfm «a!b@c.d»: Data 0-2, GfmAutolinkLiteralEmail 2-7
    (text_answer (record default { options = record default_options { constructs = record default_constructs { gfm_autolink_literal = true; gfm_label_start_footnote = true; gfm_strikethrough = true; gfm_task_list_item = true } } }) (codes "a!b@c.d") (piece 0 0 7 0 ∷ []) ≡ (enter Name.Data 1 1 0 0 ∷ exit Name.Data 1 3 2 0 ∷ enter Name.GfmAutolinkLiteralEmail 1 3 2 0 ∷ exit Name.GfmAutolinkLiteralEmail 1 8 7 0 ∷ [])) ×
    -- text gfm «a%b@c.d»: Data 0-2, GfmAutolinkLiteralEmail 2-7
    (text_answer (record default { options = record default_options { constructs = record default_constructs { gfm_autolink_literal = true; gfm_label_start_footnote = true; gfm_strikethrough = true; gfm_task_list_item = true } } }) (codes "a%b@c.d") (piece 0 0 7 0 ∷ []) ≡ (enter Name.Data 1 1 0 0 ∷ exit Name.Data 1 3 2 0 ∷ enter Name.GfmAutolinkLiteralEmail 1 3 2 0 ∷ exit Name.GfmAutolinkLiteralEmail 1 8 7 0 ∷ [])) ×
    -- text gfm «a:b@c.d»: Data 0-2, GfmAutolinkLiteralEmail 2-7
    (text_answer (record default { options = record default_options { constructs = record default_constructs { gfm_autolink_literal = true; gfm_label_start_footnote = true; gfm_strikethrough = true; gfm_task_list_item = true } } }) (codes "a:b@c.d") (piece 0 0 7 0 ∷ []) ≡ (enter Name.Data 1 1 0 0 ∷ exit Name.Data 1 3 2 0 ∷ enter Name.GfmAutolinkLiteralEmail 1 3 2 0 ∷ exit Name.GfmAutolinkLiteralEmail 1 8 7 0 ∷ [])) ×
    -- text gfm «a/b@c.d»: Data 0-7
    (text_answer (record default { options = record default_options { constructs = record default_constructs { gfm_autolink_literal = true; gfm_label_start_footnote = true; gfm_strikethrough = true; gfm_task_list_item = true } } }) (codes "a/b@c.d") (piece 0 0 7 0 ∷ []) ≡ (enter Name.Data 1 1 0 0 ∷ exit Name.Data 1 8 7 0 ∷ [])) ×
    -- text gfm «a!b.c»: Data 0-5
    (text_answer (record default { options = record default_options { constructs = record default_constructs { gfm_autolink_literal = true; gfm_label_start_footnote = true; gfm_strikethrough = true; gfm_task_list_item = true } } }) (codes "a!b.c") (piece 0 0 5 0 ∷ []) ≡ (enter Name.Data 1 1 0 0 ∷ exit Name.Data 1 6 5 0 ∷ [])) ×
    -- text gfm «xmailto:a@b.c»: Data 0-8, GfmAutolinkLiteralEmail 8-13
    (text_answer (record default { options = record default_options { constructs = record default_constructs { gfm_autolink_literal = true; gfm_label_start_footnote = true; gfm_strikethrough = true; gfm_task_list_item = true } } }) (codes "xmailto:a@b.c") (piece 0 0 13 0 ∷ []) ≡ (enter Name.Data 1 1 0 0 ∷ exit Name.Data 1 9 8 0 ∷ enter Name.GfmAutolinkLiteralEmail 1 9 8 0 ∷ exit Name.GfmAutolinkLiteralEmail 1 14 13 0 ∷ [])) ×
    -- text gfm «1mailto:a@b.c»: Data 0-8, GfmAutolinkLiteralEmail 8-13
    (text_answer (record default { options = record default_options { constructs = record default_constructs { gfm_autolink_literal = true; gfm_label_start_footnote = true; gfm_strikethrough = true; gfm_task_list_item = true } } }) (codes "1mailto:a@b.c") (piece 0 0 13 0 ∷ []) ≡ (enter Name.Data 1 1 0 0 ∷ exit Name.Data 1 9 8 0 ∷ enter Name.GfmAutolinkLiteralEmail 1 9 8 0 ∷ exit Name.GfmAutolinkLiteralEmail 1 14 13 0 ∷ [])) ×
    -- text gfm «mailtox:a@b.c»: Data 0-8, GfmAutolinkLiteralEmail 8-13
    (text_answer (record default { options = record default_options { constructs = record default_constructs { gfm_autolink_literal = true; gfm_label_start_footnote = true; gfm_strikethrough = true; gfm_task_list_item = true } } }) (codes "mailtox:a@b.c") (piece 0 0 13 0 ∷ []) ≡ (enter Name.Data 1 1 0 0 ∷ exit Name.Data 1 9 8 0 ∷ enter Name.GfmAutolinkLiteralEmail 1 9 8 0 ∷ exit Name.GfmAutolinkLiteralEmail 1 14 13 0 ∷ [])) ×
    -- text gfm «/mailto:a@b.c»: Data 0-1, GfmAutolinkLiteralMailto 1-13
    (text_answer (record default { options = record default_options { constructs = record default_constructs { gfm_autolink_literal = true; gfm_label_start_footnote = true; gfm_strikethrough = true; gfm_task_list_item = true } } }) (codes "/mailto:a@b.c") (piece 0 0 13 0 ∷ []) ≡ (enter Name.Data 1 1 0 0 ∷ exit Name.Data 1 2 1 0 ∷ enter Name.GfmAutolinkLiteralMailto 1 2 1 0 ∷ exit Name.GfmAutolinkLiteralMailto 1 14 13 0 ∷ [])) ×
    -- text gfm «mailto!a@b.c»: Data 0-7, GfmAutolinkLiteralEmail 7-12
    (text_answer (record default { options = record default_options { constructs = record default_constructs { gfm_autolink_literal = true; gfm_label_start_footnote = true; gfm_strikethrough = true; gfm_task_list_item = true } } }) (codes "mailto!a@b.c") (piece 0 0 12 0 ∷ []) ≡ (enter Name.Data 1 1 0 0 ∷ exit Name.Data 1 8 7 0 ∷ enter Name.GfmAutolinkLiteralEmail 1 8 7 0 ∷ exit Name.GfmAutolinkLiteralEmail 1 13 12 0 ∷ [])) ×
    -- text gfm «xmpp!a@b.c»: Data 0-5, GfmAutolinkLiteralEmail 5-10
    (text_answer (record default { options = record default_options { constructs = record default_constructs { gfm_autolink_literal = true; gfm_label_start_footnote = true; gfm_strikethrough = true; gfm_task_list_item = true } } }) (codes "xmpp!a@b.c") (piece 0 0 10 0 ∷ []) ≡ (enter Name.Data 1 1 0 0 ∷ exit Name.Data 1 6 5 0 ∷ enter Name.GfmAutolinkLiteralEmail 1 6 5 0 ∷ exit Name.GfmAutolinkLiteralEmail 1 11 10 0 ∷ [])) ×
    -- text gfm «MailTO:a@b.c»: GfmAutolinkLiteralMailto 0-12
    (text_answer (record default { options = record default_options { constructs = record default_constructs { gfm_autolink_literal = true; gfm_label_start_footnote = true; gfm_strikethrough = true; gfm_task_list_item = true } } }) (codes "MailTO:a@b.c") (piece 0 0 12 0 ∷ []) ≡ (enter Name.GfmAutolinkLiteralMailto 1 1 0 0 ∷ exit Name.GfmAutolinkLiteralMailto 1 13 12 0 ∷ [])) ×
    -- text gfm «XMPP:1-@b.c»: GfmAutolinkLiteralXmpp 0-11
    (text_answer (record default { options = record default_options { constructs = record default_constructs { gfm_autolink_literal = true; gfm_label_start_footnote = true; gfm_strikethrough = true; gfm_task_list_item = true } } }) (codes "XMPP:1-@b.c") (piece 0 0 11 0 ∷ []) ≡ (enter Name.GfmAutolinkLiteralXmpp 1 1 0 0 ∷ exit Name.GfmAutolinkLiteralXmpp 1 12 11 0 ∷ [])) ×
    -- text gfm «a@b.c/»: GfmAutolinkLiteralEmail 0-5, Data 5-6
    (text_answer (record default { options = record default_options { constructs = record default_constructs { gfm_autolink_literal = true; gfm_label_start_footnote = true; gfm_strikethrough = true; gfm_task_list_item = true } } }) (codes "a@b.c/") (piece 0 0 6 0 ∷ []) ≡ (enter Name.GfmAutolinkLiteralEmail 1 1 0 0 ∷ exit Name.GfmAutolinkLiteralEmail 1 6 5 0 ∷ enter Name.Data 1 6 5 0 ∷ exit Name.Data 1 7 6 0 ∷ [])) ×
    -- text gfm «mailto:a@b.c/d»: GfmAutolinkLiteralMailto 0-12, Data 12-14
    (text_answer (record default { options = record default_options { constructs = record default_constructs { gfm_autolink_literal = true; gfm_label_start_footnote = true; gfm_strikethrough = true; gfm_task_list_item = true } } }) (codes "mailto:a@b.c/d") (piece 0 0 14 0 ∷ []) ≡ (enter Name.GfmAutolinkLiteralMailto 1 1 0 0 ∷ exit Name.GfmAutolinkLiteralMailto 1 13 12 0 ∷ enter Name.Data 1 13 12 0 ∷ exit Name.Data 1 15 14 0 ∷ [])) ×
    -- text gfm «xmpp:a@b.c/d/e»: GfmAutolinkLiteralXmpp 0-14
    (text_answer (record default { options = record default_options { constructs = record default_constructs { gfm_autolink_literal = true; gfm_label_start_footnote = true; gfm_strikethrough = true; gfm_task_list_item = true } } }) (codes "xmpp:a@b.c/d/e") (piece 0 0 14 0 ∷ []) ≡ (enter Name.GfmAutolinkLiteralXmpp 1 1 0 0 ∷ exit Name.GfmAutolinkLiteralXmpp 1 15 14 0 ∷ [])) ×
    -- text gfm «xmpp:a@b.c/1»: Data 0-12
    (text_answer (record default { options = record default_options { constructs = record default_constructs { gfm_autolink_literal = true; gfm_label_start_footnote = true; gfm_strikethrough = true; gfm_task_list_item = true } } }) (codes "xmpp:a@b.c/1") (piece 0 0 12 0 ∷ []) ≡ (enter Name.Data 1 1 0 0 ∷ exit Name.Data 1 13 12 0 ∷ [])) ×
    -- text gfm «a@b-c.d»: GfmAutolinkLiteralEmail 0-7
    (text_answer (record default { options = record default_options { constructs = record default_constructs { gfm_autolink_literal = true; gfm_label_start_footnote = true; gfm_strikethrough = true; gfm_task_list_item = true } } }) (codes "a@b-c.d") (piece 0 0 7 0 ∷ []) ≡ (enter Name.GfmAutolinkLiteralEmail 1 1 0 0 ∷ exit Name.GfmAutolinkLiteralEmail 1 8 7 0 ∷ [])) ×
    -- text gfm «a@b_c.d»: GfmAutolinkLiteralEmail 0-7
    (text_answer (record default { options = record default_options { constructs = record default_constructs { gfm_autolink_literal = true; gfm_label_start_footnote = true; gfm_strikethrough = true; gfm_task_list_item = true } } }) (codes "a@b_c.d") (piece 0 0 7 0 ∷ []) ≡ (enter Name.GfmAutolinkLiteralEmail 1 1 0 0 ∷ exit Name.GfmAutolinkLiteralEmail 1 8 7 0 ∷ [])) ×
    -- text gfm «a@b+c.d»: Data 0-7
    (text_answer (record default { options = record default_options { constructs = record default_constructs { gfm_autolink_literal = true; gfm_label_start_footnote = true; gfm_strikethrough = true; gfm_task_list_item = true } } }) (codes "a@b+c.d") (piece 0 0 7 0 ∷ []) ≡ (enter Name.Data 1 1 0 0 ∷ exit Name.Data 1 8 7 0 ∷ [])) ×
    -- text gfm «a@b.-c»: Data 0-6
    (text_answer (record default { options = record default_options { constructs = record default_constructs { gfm_autolink_literal = true; gfm_label_start_footnote = true; gfm_strikethrough = true; gfm_task_list_item = true } } }) (codes "a@b.-c") (piece 0 0 6 0 ∷ []) ≡ (enter Name.Data 1 1 0 0 ∷ exit Name.Data 1 7 6 0 ∷ [])) ×
    -- text gfm «a@b..c»: Data 0-6
    (text_answer (record default { options = record default_options { constructs = record default_constructs { gfm_autolink_literal = true; gfm_label_start_footnote = true; gfm_strikethrough = true; gfm_task_list_item = true } } }) (codes "a@b..c") (piece 0 0 6 0 ∷ []) ≡ (enter Name.Data 1 1 0 0 ∷ exit Name.Data 1 7 6 0 ∷ [])) ×
    -- text gfm «a@b.1c»: GfmAutolinkLiteralEmail 0-6
    (text_answer (record default { options = record default_options { constructs = record default_constructs { gfm_autolink_literal = true; gfm_label_start_footnote = true; gfm_strikethrough = true; gfm_task_list_item = true } } }) (codes "a@b.1c") (piece 0 0 6 0 ∷ []) ≡ (enter Name.GfmAutolinkLiteralEmail 1 1 0 0 ∷ exit Name.GfmAutolinkLiteralEmail 1 7 6 0 ∷ [])) ×
    -- text gfm «a@b»: Data 0-3
    (text_answer (record default { options = record default_options { constructs = record default_constructs { gfm_autolink_literal = true; gfm_label_start_footnote = true; gfm_strikethrough = true; gfm_task_list_item = true } } }) (codes "a@b") (piece 0 0 3 0 ∷ []) ≡ (enter Name.Data 1 1 0 0 ∷ exit Name.Data 1 4 3 0 ∷ [])) ×
    -- text gfm «a@b.c1»: Data 0-6
    (text_answer (record default { options = record default_options { constructs = record default_constructs { gfm_autolink_literal = true; gfm_label_start_footnote = true; gfm_strikethrough = true; gfm_task_list_item = true } } }) (codes "a@b.c1") (piece 0 0 6 0 ∷ []) ≡ (enter Name.Data 1 1 0 0 ∷ exit Name.Data 1 7 6 0 ∷ [])) ×
    -- text gfm «a@b.c-»: Data 0-6
    (text_answer (record default { options = record default_options { constructs = record default_constructs { gfm_autolink_literal = true; gfm_label_start_footnote = true; gfm_strikethrough = true; gfm_task_list_item = true } } }) (codes "a@b.c-") (piece 0 0 6 0 ∷ []) ≡ (enter Name.Data 1 1 0 0 ∷ exit Name.Data 1 7 6 0 ∷ [])) ×
    -- text gfm «@b.c»: Data 0-4
    (text_answer (record default { options = record default_options { constructs = record default_constructs { gfm_autolink_literal = true; gfm_label_start_footnote = true; gfm_strikethrough = true; gfm_task_list_item = true } } }) (codes "@b.c") (piece 0 0 4 0 ∷ []) ≡ (enter Name.Data 1 1 0 0 ∷ exit Name.Data 1 5 4 0 ∷ [])) ×
    -- text gfm «a@.b»: GfmAutolinkLiteralEmail 0-4
    (text_answer (record default { options = record default_options { constructs = record default_constructs { gfm_autolink_literal = true; gfm_label_start_footnote = true; gfm_strikethrough = true; gfm_task_list_item = true } } }) (codes "a@.b") (piece 0 0 4 0 ∷ []) ≡ (enter Name.GfmAutolinkLiteralEmail 1 1 0 0 ∷ exit Name.GfmAutolinkLiteralEmail 1 5 4 0 ∷ [])) ×
    -- text gfm «a@b.c d@e.f»: GfmAutolinkLiteralEmail 0-5, Data 5-6, GfmAutolinkLiteralEmail 6-11
    (text_answer (record default { options = record default_options { constructs = record default_constructs { gfm_autolink_literal = true; gfm_label_start_footnote = true; gfm_strikethrough = true; gfm_task_list_item = true } } }) (codes "a@b.c d@e.f") (piece 0 0 11 0 ∷ []) ≡ (enter Name.GfmAutolinkLiteralEmail 1 1 0 0 ∷ exit Name.GfmAutolinkLiteralEmail 1 6 5 0 ∷ enter Name.Data 1 6 5 0 ∷ exit Name.Data 1 7 6 0 ∷ enter Name.GfmAutolinkLiteralEmail 1 7 6 0 ∷ exit Name.GfmAutolinkLiteralEmail 1 12 11 0 ∷ [])) ×
    -- text gfm «a@b.c+d@e.f»: GfmAutolinkLiteralEmail 0-5, GfmAutolinkLiteralEmail 5-11
    (text_answer (record default { options = record default_options { constructs = record default_constructs { gfm_autolink_literal = true; gfm_label_start_footnote = true; gfm_strikethrough = true; gfm_task_list_item = true } } }) (codes "a@b.c+d@e.f") (piece 0 0 11 0 ∷ []) ≡ (enter Name.GfmAutolinkLiteralEmail 1 1 0 0 ∷ exit Name.GfmAutolinkLiteralEmail 1 6 5 0 ∷ enter Name.GfmAutolinkLiteralEmail 1 6 5 0 ∷ exit Name.GfmAutolinkLiteralEmail 1 12 11 0 ∷ [])) ×
    -- text gfm «a@b.xmpp:c@d.e»: GfmAutolinkLiteralEmail 0-8, Data 8-9, GfmAutolinkLiteralEmail 9-14
    (text_answer (record default { options = record default_options { constructs = record default_constructs { gfm_autolink_literal = true; gfm_label_start_footnote = true; gfm_strikethrough = true; gfm_task_list_item = true } } }) (codes "a@b.xmpp:c@d.e") (piece 0 0 14 0 ∷ []) ≡ (enter Name.GfmAutolinkLiteralEmail 1 1 0 0 ∷ exit Name.GfmAutolinkLiteralEmail 1 9 8 0 ∷ enter Name.Data 1 9 8 0 ∷ exit Name.Data 1 10 9 0 ∷ enter Name.GfmAutolinkLiteralEmail 1 10 9 0 ∷ exit Name.GfmAutolinkLiteralEmail 1 15 14 0 ∷ [])) ×
    -- text gfm «a@b@c.d»: Data 0-2, GfmAutolinkLiteralEmail 2-7
    (text_answer (record default { options = record default_options { constructs = record default_constructs { gfm_autolink_literal = true; gfm_label_start_footnote = true; gfm_strikethrough = true; gfm_task_list_item = true } } }) (codes "a@b@c.d") (piece 0 0 7 0 ∷ []) ≡ (enter Name.Data 1 1 0 0 ∷ exit Name.Data 1 3 2 0 ∷ enter Name.GfmAutolinkLiteralEmail 1 3 2 0 ∷ exit Name.GfmAutolinkLiteralEmail 1 8 7 0 ∷ [])) ×
    -- text gfm «*a@b.c*»: Emphasis 0-7 [EmphasisSequence 0-1, EmphasisText 1-6 [GfmAutolinkLiteralEmail 1-6], EmphasisSequence 6-7]
    (text_answer (record default { options = record default_options { constructs = record default_constructs { gfm_autolink_literal = true; gfm_label_start_footnote = true; gfm_strikethrough = true; gfm_task_list_item = true } } }) (codes "*a@b.c*") (piece 0 0 7 0 ∷ []) ≡ (enter Name.Emphasis 1 1 0 0 ∷ enter Name.EmphasisSequence 1 1 0 0 ∷ exit Name.EmphasisSequence 1 2 1 0 ∷ enter Name.EmphasisText 1 2 1 0 ∷ enter Name.GfmAutolinkLiteralEmail 1 2 1 0 ∷ exit Name.GfmAutolinkLiteralEmail 1 7 6 0 ∷ exit Name.EmphasisText 1 7 6 0 ∷ enter Name.EmphasisSequence 1 7 6 0 ∷ exit Name.EmphasisSequence 1 8 7 0 ∷ exit Name.Emphasis 1 8 7 0 ∷ [])) ×
    -- text gfm «[*a@b.c*](d)»: Link 0-12 [Label 0-9 [LabelLink 0-1, LabelText 1-8 [Emphasis 1-8 [EmphasisSequence 1-2, EmphasisText 2-7 [Data 2-7], EmphasisSequence 7-8]], LabelEnd 8-9], Resource 9-12 [ResourceMarker 9-10, Raw 10-11, ResourceMarker 11-12]]
    (text_answer (record default { options = record default_options { constructs = record default_constructs { gfm_autolink_literal = true; gfm_label_start_footnote = true; gfm_strikethrough = true; gfm_task_list_item = true } } }) (codes "[*a@b.c*](d)") (piece 0 0 12 0 ∷ []) ≡ (enter Name.Link 1 1 0 0 ∷ enter Name.Label 1 1 0 0 ∷ enter Name.LabelLink 1 1 0 0 ∷ enter Name.LabelMarker 1 1 0 0 ∷ exit Name.LabelMarker 1 2 1 0 ∷ exit Name.LabelLink 1 2 1 0 ∷ enter Name.LabelText 1 2 1 0 ∷ enter Name.Emphasis 1 2 1 0 ∷ enter Name.EmphasisSequence 1 2 1 0 ∷ exit Name.EmphasisSequence 1 3 2 0 ∷ enter Name.EmphasisText 1 3 2 0 ∷ enter Name.Data 1 3 2 0 ∷ exit Name.Data 1 8 7 0 ∷ exit Name.EmphasisText 1 8 7 0 ∷ enter Name.EmphasisSequence 1 8 7 0 ∷ exit Name.EmphasisSequence 1 9 8 0 ∷ exit Name.Emphasis 1 9 8 0 ∷ exit Name.LabelText 1 9 8 0 ∷ enter Name.LabelEnd 1 9 8 0 ∷ enter Name.LabelMarker 1 9 8 0 ∷ exit Name.LabelMarker 1 10 9 0 ∷ exit Name.LabelEnd 1 10 9 0 ∷ exit Name.Label 1 10 9 0 ∷ enter Name.Resource 1 10 9 0 ∷ enter Name.ResourceMarker 1 10 9 0 ∷ exit Name.ResourceMarker 1 11 10 0 ∷ enter Name.ResourceDestination 1 11 10 0 ∷ enter Name.ResourceDestinationRaw 1 11 10 0 ∷ enter Name.ResourceDestinationString 1 11 10 0 ∷ chained Name.Data 1 11 10 0 None None ∷ exit Name.Data 1 12 11 0 ∷ exit Name.ResourceDestinationString 1 12 11 0 ∷ exit Name.ResourceDestinationRaw 1 12 11 0 ∷ exit Name.ResourceDestination 1 12 11 0 ∷ enter Name.ResourceMarker 1 12 11 0 ∷ exit Name.ResourceMarker 1 13 12 0 ∷ exit Name.Resource 1 13 12 0 ∷ exit Name.Link 1 13 12 0 ∷ [])) ×
    -- text outer gfm «[a](b) c@d.e»: Link 0-6, Data 6-7, GfmAutolinkLiteralEmail 7-12
    (text_outline (record default { options = record default_options { constructs = record default_constructs { gfm_autolink_literal = true; gfm_label_start_footnote = true; gfm_strikethrough = true; gfm_task_list_item = true } } }) (codes "[a](b) c@d.e") (piece 0 0 12 0 ∷ []) ≡ (enter Name.Link 1 1 0 0 ∷ exit Name.Link 1 7 6 0 ∷ enter Name.Data 1 7 6 0 ∷ exit Name.Data 1 8 7 0 ∷ enter Name.GfmAutolinkLiteralEmail 1 8 7 0 ∷ exit Name.GfmAutolinkLiteralEmail 1 13 12 0 ∷ [])) ×
    -- text gfm «![a](b@c.d)»: Image 0-11 [Label 0-4 [LabelImage 0-2 [LabelImageMarker 0-1, LabelMarker 1-2], LabelText 2-3 [Data 2-3], LabelEnd 3-4], Resource 4-11 [ResourceMarker 4-5, ResourceDestination 5-10 [ResourceDestinationRaw 5-10 [ResourceDestinationString 5-10 [Data 5-10]]], ResourceMarker 10-11]]
    (text_answer (record default { options = record default_options { constructs = record default_constructs { gfm_autolink_literal = true; gfm_label_start_footnote = true; gfm_strikethrough = true; gfm_task_list_item = true } } }) (codes "![a](b@c.d)") (piece 0 0 11 0 ∷ []) ≡ (enter Name.Image 1 1 0 0 ∷ enter Name.Label 1 1 0 0 ∷ enter Name.LabelImage 1 1 0 0 ∷ enter Name.LabelImageMarker 1 1 0 0 ∷ exit Name.LabelImageMarker 1 2 1 0 ∷ enter Name.LabelMarker 1 2 1 0 ∷ exit Name.LabelMarker 1 3 2 0 ∷ exit Name.LabelImage 1 3 2 0 ∷ enter Name.LabelText 1 3 2 0 ∷ enter Name.Data 1 3 2 0 ∷ exit Name.Data 1 4 3 0 ∷ exit Name.LabelText 1 4 3 0 ∷ enter Name.LabelEnd 1 4 3 0 ∷ enter Name.LabelMarker 1 4 3 0 ∷ exit Name.LabelMarker 1 5 4 0 ∷ exit Name.LabelEnd 1 5 4 0 ∷ exit Name.Label 1 5 4 0 ∷ enter Name.Resource 1 5 4 0 ∷ enter Name.ResourceMarker 1 5 4 0 ∷ exit Name.ResourceMarker 1 6 5 0 ∷ enter Name.ResourceDestination 1 6 5 0 ∷ enter Name.ResourceDestinationRaw 1 6 5 0 ∷ enter Name.ResourceDestinationString 1 6 5 0 ∷ chained Name.Data 1 6 5 0 None None ∷ exit Name.Data 1 11 10 0 ∷ exit Name.ResourceDestinationString 1 11 10 0 ∷ exit Name.ResourceDestinationRaw 1 11 10 0 ∷ exit Name.ResourceDestination 1 11 10 0 ∷ enter Name.ResourceMarker 1 11 10 0 ∷ exit Name.ResourceMarker 1 12 11 0 ∷ exit Name.Resource 1 12 11 0 ∷ exit Name.Image 1 12 11 0 ∷ [])) ×
    -- text gfm «`a@b.c`»: CodeText 0-7 [CodeTextSequence 0-1, CodeTextData 1-6, CodeTextSequence 6-7]
    (text_answer (record default { options = record default_options { constructs = record default_constructs { gfm_autolink_literal = true; gfm_label_start_footnote = true; gfm_strikethrough = true; gfm_task_list_item = true } } }) (codes "`a@b.c`") (piece 0 0 7 0 ∷ []) ≡ (enter Name.CodeText 1 1 0 0 ∷ enter Name.CodeTextSequence 1 1 0 0 ∷ exit Name.CodeTextSequence 1 2 1 0 ∷ enter Name.CodeTextData 1 2 1 0 ∷ exit Name.CodeTextData 1 7 6 0 ∷ enter Name.CodeTextSequence 1 7 6 0 ∷ exit Name.CodeTextSequence 1 8 7 0 ∷ exit Name.CodeText 1 8 7 0 ∷ [])) ×
    -- text gfm «<a@b.c>»: Autolink 0-7 [AutolinkMarker 0-1, AutolinkEmail 1-6, AutolinkMarker 6-7]
    (text_answer (record default { options = record default_options { constructs = record default_constructs { gfm_autolink_literal = true; gfm_label_start_footnote = true; gfm_strikethrough = true; gfm_task_list_item = true } } }) (codes "<a@b.c>") (piece 0 0 7 0 ∷ []) ≡ (enter Name.Autolink 1 1 0 0 ∷ enter Name.AutolinkMarker 1 1 0 0 ∷ exit Name.AutolinkMarker 1 2 1 0 ∷ enter Name.AutolinkEmail 1 2 1 0 ∷ exit Name.AutolinkEmail 1 7 6 0 ∷ enter Name.AutolinkMarker 1 7 6 0 ∷ exit Name.AutolinkMarker 1 8 7 0 ∷ exit Name.Autolink 1 8 7 0 ∷ []))

abbrev pub Resources : Type 0
Resources =
    -- destination «<a>b»: ResourceDestination 0-3 [ResourceDestinationLiteral 0-3 [ResourceDestinationLiteralMarker 0-1, ResourceDestinationString 1-2 [Data 1-2], ResourceDestinationLiteralMarker 2-3]]
    (destination_answer (codes "<a>b") ≡ Some (enter Name.ResourceDestination 1 1 0 0 ∷ enter Name.ResourceDestinationLiteral 1 1 0 0 ∷ enter Name.ResourceDestinationLiteralMarker 1 1 0 0 ∷ exit Name.ResourceDestinationLiteralMarker 1 2 1 0 ∷ enter Name.ResourceDestinationString 1 2 1 0 ∷ chained Name.Data 1 2 1 0 None None ∷ exit Name.Data 1 3 2 0 ∷ exit Name.ResourceDestinationString 1 3 2 0 ∷ enter Name.ResourceDestinationLiteralMarker 1 3 2 0 ∷ exit Name.ResourceDestinationLiteralMarker 1 4 3 0 ∷ exit Name.ResourceDestinationLiteral 1 4 3 0 ∷ exit Name.ResourceDestination 1 4 3 0 ∷ [])) ×
    -- destination «<>»: ResourceDestination 0-2 [ResourceDestinationLiteral 0-2 [ResourceDestinationLiteralMarker 0-1, ResourceDestinationLiteralMarker 1-2]]
    (destination_answer (codes "<>") ≡ Some (enter Name.ResourceDestination 1 1 0 0 ∷ enter Name.ResourceDestinationLiteral 1 1 0 0 ∷ enter Name.ResourceDestinationLiteralMarker 1 1 0 0 ∷ exit Name.ResourceDestinationLiteralMarker 1 2 1 0 ∷ enter Name.ResourceDestinationLiteralMarker 1 2 1 0 ∷ exit Name.ResourceDestinationLiteralMarker 1 3 2 0 ∷ exit Name.ResourceDestinationLiteral 1 3 2 0 ∷ exit Name.ResourceDestination 1 3 2 0 ∷ [])) ×
    -- destination «a(b)c d»: Raw 0-5
    (destination_answer (codes "a(b)c d") ≡ Some (enter Name.ResourceDestination 1 1 0 0 ∷ enter Name.ResourceDestinationRaw 1 1 0 0 ∷ enter Name.ResourceDestinationString 1 1 0 0 ∷ chained Name.Data 1 1 0 0 None None ∷ exit Name.Data 1 6 5 0 ∷ exit Name.ResourceDestinationString 1 6 5 0 ∷ exit Name.ResourceDestinationRaw 1 6 5 0 ∷ exit Name.ResourceDestination 1 6 5 0 ∷ [])) ×
    -- destination «a\)b»: Raw 0-4
    (destination_answer (codes "a\\)b") ≡ Some (enter Name.ResourceDestination 1 1 0 0 ∷ enter Name.ResourceDestinationRaw 1 1 0 0 ∷ enter Name.ResourceDestinationString 1 1 0 0 ∷ chained Name.Data 1 1 0 0 None None ∷ exit Name.Data 1 5 4 0 ∷ exit Name.ResourceDestinationString 1 5 4 0 ∷ exit Name.ResourceDestinationRaw 1 5 4 0 ∷ exit Name.ResourceDestination 1 5 4 0 ∷ [])) ×
    -- destination «<a»: no
    (destination_answer (codes "<a") ≡ None) ×
    -- destination «a(b»: no
    (destination_answer (codes "a(b") ≡ None) ×
    -- destination «)»: no
    (destination_answer (codes ")") ≡ None) ×
    -- destination «␠a»: no
    (destination_answer (codes " a") ≡ None) ×
    -- title «""»: ResourceTitle 0-2 [ResourceTitleMarker 0-1, ResourceTitleMarker 1-2]
    (title_answer false (codes "\"\"") ≡ Some (enter Name.ResourceTitle 1 1 0 0 ∷ enter Name.ResourceTitleMarker 1 1 0 0 ∷ exit Name.ResourceTitleMarker 1 2 1 0 ∷ enter Name.ResourceTitleMarker 1 2 1 0 ∷ exit Name.ResourceTitleMarker 1 3 2 0 ∷ exit Name.ResourceTitle 1 3 2 0 ∷ [])) ×
    -- title «(a(b)»: ResourceTitle 0-5 [ResourceTitleMarker 0-1, ResourceTitleString 1-4 [Data 1-4], ResourceTitleMarker 4-5]
    (title_answer false (codes "(a(b)") ≡ Some (enter Name.ResourceTitle 1 1 0 0 ∷ enter Name.ResourceTitleMarker 1 1 0 0 ∷ exit Name.ResourceTitleMarker 1 2 1 0 ∷ enter Name.ResourceTitleString 1 2 1 0 ∷ chained Name.Data 1 2 1 0 None None ∷ exit Name.Data 1 5 4 0 ∷ exit Name.ResourceTitleString 1 5 4 0 ∷ enter Name.ResourceTitleMarker 1 5 4 0 ∷ exit Name.ResourceTitleMarker 1 6 5 0 ∷ exit Name.ResourceTitle 1 6 5 0 ∷ [])) ×
    -- title «"a␊ b"»: ResourceTitle 0-6 [ResourceTitleMarker 0-1, ResourceTitleString 1-5 [Data 1-2, LineEnding 2-3, SpaceOrTab 3-4, Data 4-5], ResourceTitleMarker 5-6]
    (title_answer false (34 ∷ 97 ∷ 10 ∷ 32 ∷ 98 ∷ 34 ∷ []) ≡ Some (enter Name.ResourceTitle 1 1 0 0 ∷ enter Name.ResourceTitleMarker 1 1 0 0 ∷ exit Name.ResourceTitleMarker 1 2 1 0 ∷ enter Name.ResourceTitleString 1 2 1 0 ∷ chained Name.Data 1 2 1 0 None (Some 6) ∷ exit Name.Data 1 3 2 0 ∷ chained Name.LineEnding 1 3 2 0 (Some 4) (Some 8) ∷ exit Name.LineEnding 2 1 3 0 ∷ chained Name.SpaceOrTab 2 1 3 0 (Some 6) (Some 10) ∷ exit Name.SpaceOrTab 2 2 4 0 ∷ chained Name.Data 2 2 4 0 (Some 8) None ∷ exit Name.Data 2 3 5 0 ∷ exit Name.ResourceTitleString 2 3 5 0 ∷ enter Name.ResourceTitleMarker 2 3 5 0 ∷ exit Name.ResourceTitleMarker 2 4 6 0 ∷ exit Name.ResourceTitle 2 4 6 0 ∷ [])) ×
    -- title «"a»: no
    (title_answer false (codes "\"a") ≡ None) ×
    -- title «"a␊ ␊"»: no
    (title_answer false (34 ∷ 97 ∷ 10 ∷ 32 ∷ 10 ∷ 34 ∷ []) ≡ None) ×
    -- label «[a]»: Reference 0-3 [ReferenceMarker 0-1, ReferenceString 1-2 [Data 1-2], ReferenceMarker 2-3]
    (label_answer false (codes "[a]") ≡ Some (enter Name.Reference 1 1 0 0 ∷ enter Name.ReferenceMarker 1 1 0 0 ∷ exit Name.ReferenceMarker 1 2 1 0 ∷ enter Name.ReferenceString 1 2 1 0 ∷ chained Name.Data 1 2 1 0 None None ∷ exit Name.Data 1 3 2 0 ∷ exit Name.ReferenceString 1 3 2 0 ∷ enter Name.ReferenceMarker 1 3 2 0 ∷ exit Name.ReferenceMarker 1 4 3 0 ∷ exit Name.Reference 1 4 3 0 ∷ [])) ×
    -- label «[a\]b]»: Reference 0-6 [ReferenceMarker 0-1, ReferenceString 1-5 [Data 1-5], ReferenceMarker 5-6]
    (label_answer false (codes "[a\\]b]") ≡ Some (enter Name.Reference 1 1 0 0 ∷ enter Name.ReferenceMarker 1 1 0 0 ∷ exit Name.ReferenceMarker 1 2 1 0 ∷ enter Name.ReferenceString 1 2 1 0 ∷ chained Name.Data 1 2 1 0 None None ∷ exit Name.Data 1 6 5 0 ∷ exit Name.ReferenceString 1 6 5 0 ∷ enter Name.ReferenceMarker 1 6 5 0 ∷ exit Name.ReferenceMarker 1 7 6 0 ∷ exit Name.Reference 1 7 6 0 ∷ [])) ×
    -- label «[ ]»: no
    (label_answer false (codes "[ ]") ≡ None) ×
    -- label «[a[b]»: no
    (label_answer false (codes "[a[b]") ≡ None) ×
    -- label «[⟦a×999⟧]»: Reference 0-1001 [ReferenceMarker 0-1, ReferenceString 1-1000 [Data 1-1000], ReferenceMarker 1000-1001]
    (label_answer false (codes "[aaaaaaaaaaaaaaaaaaaaaaaaaaaaaaaaaaaaaaaaaaaaaaaaaaaaaaaaaaaaaaaaaaaaaaaaaaaaaaaaaaaaaaaaaaaaaaaaaaaaaaaaaaaaaaaaaaaaaaaaaaaaaaaaaaaaaaaaaaaaaaaaaaaaaaaaaaaaaaaaaaaaaaaaaaaaaaaaaaaaaaaaaaaaaaaaaaaaaaaaaaaaaaaaaaaaaaaaaaaaaaaaaaaaaaaaaaaaaaaaaaaaaaaaaaaaaaaaaaaaaaaaaaaaaaaaaaaaaaaaaaaaaaaaaaaaaaaaaaaaaaaaaaaaaaaaaaaaaaaaaaaaaaaaaaaaaaaaaaaaaaaaaaaaaaaaaaaaaaaaaaaaaaaaaaaaaaaaaaaaaaaaaaaaaaaaaaaaaaaaaaaaaaaaaaaaaaaaaaaaaaaaaaaaaaaaaaaaaaaaaaaaaaaaaaaaaaaaaaaaaaaaaaaaaaaaaaaaaaaaaaaaaaaaaaaaaaaaaaaaaaaaaaaaaaaaaaaaaaaaaaaaaaaaaaaaaaaaaaaaaaaaaaaaaaaaaaaaaaaaaaaaaaaaaaaaaaaaaaaaaaaaaaaaaaaaaaaaaaaaaaaaaaaaaaaaaaaaaaaaaaaaaaaaaaaaaaaaaaaaaaaaaaaaaaaaaaaaaaaaaaaaaaaaaaaaaaaaaaaaaaaaaaaaaaaaaaaaaaaaaaaaaaaaaaaaaaaaaaaaaaaaaaaaaaaaaaaaaaaaaaaaaaaaaaaaaaaaaaaaaaaaaaaaaaaaaaaaaaaaaaaaaaaaaaaaaaaaaaaaaaaaaaaaaaaaaaaaaaaaaaaaaaaaaaaaaaaaaaaaaaaaaaaaaaaaaaaaaaaaaaaaaaaaaaaaaaaaaaaaaaaaaaaaaaaaaaaaaaaaaaaaaaaaaaaaaaaaaaaaaaaaaaaaaaaaaaaaaaaaaaaaaaaaaaaaaaaaaaaaaaaaaaaaaaaaaaaaaaaaaaaaaaaaaaaaaaaaaaa]") ≡ Some (enter Name.Reference 1 1 0 0 ∷ enter Name.ReferenceMarker 1 1 0 0 ∷ exit Name.ReferenceMarker 1 2 1 0 ∷ enter Name.ReferenceString 1 2 1 0 ∷ chained Name.Data 1 2 1 0 None None ∷ exit Name.Data 1 1001 1000 0 ∷ exit Name.ReferenceString 1 1001 1000 0 ∷ enter Name.ReferenceMarker 1 1001 1000 0 ∷ exit Name.ReferenceMarker 1 1002 1001 0 ∷ exit Name.Reference 1 1002 1001 0 ∷ [])) ×
    -- label «[⟦a×1000⟧]»: no
    (label_answer false (codes "[aaaaaaaaaaaaaaaaaaaaaaaaaaaaaaaaaaaaaaaaaaaaaaaaaaaaaaaaaaaaaaaaaaaaaaaaaaaaaaaaaaaaaaaaaaaaaaaaaaaaaaaaaaaaaaaaaaaaaaaaaaaaaaaaaaaaaaaaaaaaaaaaaaaaaaaaaaaaaaaaaaaaaaaaaaaaaaaaaaaaaaaaaaaaaaaaaaaaaaaaaaaaaaaaaaaaaaaaaaaaaaaaaaaaaaaaaaaaaaaaaaaaaaaaaaaaaaaaaaaaaaaaaaaaaaaaaaaaaaaaaaaaaaaaaaaaaaaaaaaaaaaaaaaaaaaaaaaaaaaaaaaaaaaaaaaaaaaaaaaaaaaaaaaaaaaaaaaaaaaaaaaaaaaaaaaaaaaaaaaaaaaaaaaaaaaaaaaaaaaaaaaaaaaaaaaaaaaaaaaaaaaaaaaaaaaaaaaaaaaaaaaaaaaaaaaaaaaaaaaaaaaaaaaaaaaaaaaaaaaaaaaaaaaaaaaaaaaaaaaaaaaaaaaaaaaaaaaaaaaaaaaaaaaaaaaaaaaaaaaaaaaaaaaaaaaaaaaaaaaaaaaaaaaaaaaaaaaaaaaaaaaaaaaaaaaaaaaaaaaaaaaaaaaaaaaaaaaaaaaaaaaaaaaaaaaaaaaaaaaaaaaaaaaaaaaaaaaaaaaaaaaaaaaaaaaaaaaaaaaaaaaaaaaaaaaaaaaaaaaaaaaaaaaaaaaaaaaaaaaaaaaaaaaaaaaaaaaaaaaaaaaaaaaaaaaaaaaaaaaaaaaaaaaaaaaaaaaaaaaaaaaaaaaaaaaaaaaaaaaaaaaaaaaaaaaaaaaaaaaaaaaaaaaaaaaaaaaaaaaaaaaaaaaaaaaaaaaaaaaaaaaaaaaaaaaaaaaaaaaaaaaaaaaaaaaaaaaaaaaaaaaaaaaaaaaaaaaaaaaaaaaaaaaaaaaaaaaaaaaaaaaaaaaaaaaaaaaaaaaaaaaaaaaaaaaaaaaaaaaaaaaaaaaaaaaaaaaaaaaa]") ≡ None) ×
    -- label «[⟦a×999⟧␊]»: Reference 0-1002 [ReferenceMarker 0-1, ReferenceString 1-1001 [Data 1-1000, LineEnding 1000-1001], ReferenceMarker 1001-1002]
    (label_answer false (91 ∷ 97 ∷ 97 ∷ 97 ∷ 97 ∷ 97 ∷ 97 ∷ 97 ∷ 97 ∷ 97 ∷ 97 ∷ 97 ∷ 97 ∷ 97 ∷ 97 ∷ 97 ∷ 97 ∷ 97 ∷ 97 ∷ 97 ∷ 97 ∷ 97 ∷ 97 ∷ 97 ∷ 97 ∷ 97 ∷ 97 ∷ 97 ∷ 97 ∷ 97 ∷ 97 ∷ 97 ∷ 97 ∷ 97 ∷ 97 ∷ 97 ∷ 97 ∷ 97 ∷ 97 ∷ 97 ∷ 97 ∷ 97 ∷ 97 ∷ 97 ∷ 97 ∷ 97 ∷ 97 ∷ 97 ∷ 97 ∷ 97 ∷ 97 ∷ 97 ∷ 97 ∷ 97 ∷ 97 ∷ 97 ∷ 97 ∷ 97 ∷ 97 ∷ 97 ∷ 97 ∷ 97 ∷ 97 ∷ 97 ∷ 97 ∷ 97 ∷ 97 ∷ 97 ∷ 97 ∷ 97 ∷ 97 ∷ 97 ∷ 97 ∷ 97 ∷ 97 ∷ 97 ∷ 97 ∷ 97 ∷ 97 ∷ 97 ∷ 97 ∷ 97 ∷ 97 ∷ 97 ∷ 97 ∷ 97 ∷ 97 ∷ 97 ∷ 97 ∷ 97 ∷ 97 ∷ 97 ∷ 97 ∷ 97 ∷ 97 ∷ 97 ∷ 97 ∷ 97 ∷ 97 ∷ 97 ∷ 97 ∷ 97 ∷ 97 ∷ 97 ∷ 97 ∷ 97 ∷ 97 ∷ 97 ∷ 97 ∷ 97 ∷ 97 ∷ 97 ∷ 97 ∷ 97 ∷ 97 ∷ 97 ∷ 97 ∷ 97 ∷ 97 ∷ 97 ∷ 97 ∷ 97 ∷ 97 ∷ 97 ∷ 97 ∷ 97 ∷ 97 ∷ 97 ∷ 97 ∷ 97 ∷ 97 ∷ 97 ∷ 97 ∷ 97 ∷ 97 ∷ 97 ∷ 97 ∷ 97 ∷ 97 ∷ 97 ∷ 97 ∷ 97 ∷ 97 ∷ 97 ∷ 97 ∷ 97 ∷ 97 ∷ 97 ∷ 97 ∷ 97 ∷ 97 ∷ 97 ∷ 97 ∷ 97 ∷ 97 ∷ 97 ∷ 97 ∷ 97 ∷ 97 ∷ 97 ∷ 97 ∷ 97 ∷ 97 ∷ 97 ∷ 97 ∷ 97 ∷ 97 ∷ 97 ∷ 97 ∷ 97 ∷ 97 ∷ 97 ∷ 97 ∷ 97 ∷ 97 ∷ 97 ∷ 97 ∷ 97 ∷ 97 ∷ 97 ∷ 97 ∷ 97 ∷ 97 ∷ 97 ∷ 97 ∷ 97 ∷ 97 ∷ 97 ∷ 97 ∷ 97 ∷ 97 ∷ 97 ∷ 97 ∷ 97 ∷ 97 ∷ 97 ∷ 97 ∷ 97 ∷ 97 ∷ 97 ∷ 97 ∷ 97 ∷ 97 ∷ 97 ∷ 97 ∷ 97 ∷ 97 ∷ 97 ∷ 97 ∷ 97 ∷ 97 ∷ 97 ∷ 97 ∷ 97 ∷ 97 ∷ 97 ∷ 97 ∷ 97 ∷ 97 ∷ 97 ∷ 97 ∷ 97 ∷ 97 ∷ 97 ∷ 97 ∷ 97 ∷ 97 ∷ 97 ∷ 97 ∷ 97 ∷ 97 ∷ 97 ∷ 97 ∷ 97 ∷ 97 ∷ 97 ∷ 97 ∷ 97 ∷ 97 ∷ 97 ∷ 97 ∷ 97 ∷ 97 ∷ 97 ∷ 97 ∷ 97 ∷ 97 ∷ 97 ∷ 97 ∷ 97 ∷ 97 ∷ 97 ∷ 97 ∷ 97 ∷ 97 ∷ 97 ∷ 97 ∷ 97 ∷ 97 ∷ 97 ∷ 97 ∷ 97 ∷ 97 ∷ 97 ∷ 97 ∷ 97 ∷ 97 ∷ 97 ∷ 97 ∷ 97 ∷ 97 ∷ 97 ∷ 97 ∷ 97 ∷ 97 ∷ 97 ∷ 97 ∷ 97 ∷ 97 ∷ 97 ∷ 97 ∷ 97 ∷ 97 ∷ 97 ∷ 97 ∷ 97 ∷ 97 ∷ 97 ∷ 97 ∷ 97 ∷ 97 ∷ 97 ∷ 97 ∷ 97 ∷ 97 ∷ 97 ∷ 97 ∷ 97 ∷ 97 ∷ 97 ∷ 97 ∷ 97 ∷ 97 ∷ 97 ∷ 97 ∷ 97 ∷ 97 ∷ 97 ∷ 97 ∷ 97 ∷ 97 ∷ 97 ∷ 97 ∷ 97 ∷ 97 ∷ 97 ∷ 97 ∷ 97 ∷ 97 ∷ 97 ∷ 97 ∷ 97 ∷ 97 ∷ 97 ∷ 97 ∷ 97 ∷ 97 ∷ 97 ∷ 97 ∷ 97 ∷ 97 ∷ 97 ∷ 97 ∷ 97 ∷ 97 ∷ 97 ∷ 97 ∷ 97 ∷ 97 ∷ 97 ∷ 97 ∷ 97 ∷ 97 ∷ 97 ∷ 97 ∷ 97 ∷ 97 ∷ 97 ∷ 97 ∷ 97 ∷ 97 ∷ 97 ∷ 97 ∷ 97 ∷ 97 ∷ 97 ∷ 97 ∷ 97 ∷ 97 ∷ 97 ∷ 97 ∷ 97 ∷ 97 ∷ 97 ∷ 97 ∷ 97 ∷ 97 ∷ 97 ∷ 97 ∷ 97 ∷ 97 ∷ 97 ∷ 97 ∷ 97 ∷ 97 ∷ 97 ∷ 97 ∷ 97 ∷ 97 ∷ 97 ∷ 97 ∷ 97 ∷ 97 ∷ 97 ∷ 97 ∷ 97 ∷ 97 ∷ 97 ∷ 97 ∷ 97 ∷ 97 ∷ 97 ∷ 97 ∷ 97 ∷ 97 ∷ 97 ∷ 97 ∷ 97 ∷ 97 ∷ 97 ∷ 97 ∷ 97 ∷ 97 ∷ 97 ∷ 97 ∷ 97 ∷ 97 ∷ 97 ∷ 97 ∷ 97 ∷ 97 ∷ 97 ∷ 97 ∷ 97 ∷ 97 ∷ 97 ∷ 97 ∷ 97 ∷ 97 ∷ 97 ∷ 97 ∷ 97 ∷ 97 ∷ 97 ∷ 97 ∷ 97 ∷ 97 ∷ 97 ∷ 97 ∷ 97 ∷ 97 ∷ 97 ∷ 97 ∷ 97 ∷ 97 ∷ 97 ∷ 97 ∷ 97 ∷ 97 ∷ 97 ∷ 97 ∷ 97 ∷ 97 ∷ 97 ∷ 97 ∷ 97 ∷ 97 ∷ 97 ∷ 97 ∷ 97 ∷ 97 ∷ 97 ∷ 97 ∷ 97 ∷ 97 ∷ 97 ∷ 97 ∷ 97 ∷ 97 ∷ 97 ∷ 97 ∷ 97 ∷ 97 ∷ 97 ∷ 97 ∷ 97 ∷ 97 ∷ 97 ∷ 97 ∷ 97 ∷ 97 ∷ 97 ∷ 97 ∷ 97 ∷ 97 ∷ 97 ∷ 97 ∷ 97 ∷ 97 ∷ 97 ∷ 97 ∷ 97 ∷ 97 ∷ 97 ∷ 97 ∷ 97 ∷ 97 ∷ 97 ∷ 97 ∷ 97 ∷ 97 ∷ 97 ∷ 97 ∷ 97 ∷ 97 ∷ 97 ∷ 97 ∷ 97 ∷ 97 ∷ 97 ∷ 97 ∷ 97 ∷ 97 ∷ 97 ∷ 97 ∷ 97 ∷ 97 ∷ 97 ∷ 97 ∷ 97 ∷ 97 ∷ 97 ∷ 97 ∷ 97 ∷ 97 ∷ 97 ∷ 97 ∷ 97 ∷ 97 ∷ 97 ∷ 97 ∷ 97 ∷ 97 ∷ 97 ∷ 97 ∷ 97 ∷ 97 ∷ 97 ∷ 97 ∷ 97 ∷ 97 ∷ 97 ∷ 97 ∷ 97 ∷ 97 ∷ 97 ∷ 97 ∷ 97 ∷ 97 ∷ 97 ∷ 97 ∷ 97 ∷ 97 ∷ 97 ∷ 97 ∷ 97 ∷ 97 ∷ 97 ∷ 97 ∷ 97 ∷ 97 ∷ 97 ∷ 97 ∷ 97 ∷ 97 ∷ 97 ∷ 97 ∷ 97 ∷ 97 ∷ 97 ∷ 97 ∷ 97 ∷ 97 ∷ 97 ∷ 97 ∷ 97 ∷ 97 ∷ 97 ∷ 97 ∷ 97 ∷ 97 ∷ 97 ∷ 97 ∷ 97 ∷ 97 ∷ 97 ∷ 97 ∷ 97 ∷ 97 ∷ 97 ∷ 97 ∷ 97 ∷ 97 ∷ 97 ∷ 97 ∷ 97 ∷ 97 ∷ 97 ∷ 97 ∷ 97 ∷ 97 ∷ 97 ∷ 97 ∷ 97 ∷ 97 ∷ 97 ∷ 97 ∷ 97 ∷ 97 ∷ 97 ∷ 97 ∷ 97 ∷ 97 ∷ 97 ∷ 97 ∷ 97 ∷ 97 ∷ 97 ∷ 97 ∷ 97 ∷ 97 ∷ 97 ∷ 97 ∷ 97 ∷ 97 ∷ 97 ∷ 97 ∷ 97 ∷ 97 ∷ 97 ∷ 97 ∷ 97 ∷ 97 ∷ 97 ∷ 97 ∷ 97 ∷ 97 ∷ 97 ∷ 97 ∷ 97 ∷ 97 ∷ 97 ∷ 97 ∷ 97 ∷ 97 ∷ 97 ∷ 97 ∷ 97 ∷ 97 ∷ 97 ∷ 97 ∷ 97 ∷ 97 ∷ 97 ∷ 97 ∷ 97 ∷ 97 ∷ 97 ∷ 97 ∷ 97 ∷ 97 ∷ 97 ∷ 97 ∷ 97 ∷ 97 ∷ 97 ∷ 97 ∷ 97 ∷ 97 ∷ 97 ∷ 97 ∷ 97 ∷ 97 ∷ 97 ∷ 97 ∷ 97 ∷ 97 ∷ 97 ∷ 97 ∷ 97 ∷ 97 ∷ 97 ∷ 97 ∷ 97 ∷ 97 ∷ 97 ∷ 97 ∷ 97 ∷ 97 ∷ 97 ∷ 97 ∷ 97 ∷ 97 ∷ 97 ∷ 97 ∷ 97 ∷ 97 ∷ 97 ∷ 97 ∷ 97 ∷ 97 ∷ 97 ∷ 97 ∷ 97 ∷ 97 ∷ 97 ∷ 97 ∷ 97 ∷ 97 ∷ 97 ∷ 97 ∷ 97 ∷ 97 ∷ 97 ∷ 97 ∷ 97 ∷ 97 ∷ 97 ∷ 97 ∷ 97 ∷ 97 ∷ 97 ∷ 97 ∷ 97 ∷ 97 ∷ 97 ∷ 97 ∷ 97 ∷ 97 ∷ 97 ∷ 97 ∷ 97 ∷ 97 ∷ 97 ∷ 97 ∷ 97 ∷ 97 ∷ 97 ∷ 97 ∷ 97 ∷ 97 ∷ 97 ∷ 97 ∷ 97 ∷ 97 ∷ 97 ∷ 97 ∷ 97 ∷ 97 ∷ 97 ∷ 97 ∷ 97 ∷ 97 ∷ 97 ∷ 97 ∷ 97 ∷ 97 ∷ 97 ∷ 97 ∷ 97 ∷ 97 ∷ 97 ∷ 97 ∷ 97 ∷ 97 ∷ 97 ∷ 97 ∷ 97 ∷ 97 ∷ 97 ∷ 97 ∷ 97 ∷ 97 ∷ 97 ∷ 97 ∷ 97 ∷ 97 ∷ 97 ∷ 97 ∷ 97 ∷ 97 ∷ 97 ∷ 97 ∷ 97 ∷ 97 ∷ 97 ∷ 97 ∷ 97 ∷ 97 ∷ 97 ∷ 97 ∷ 97 ∷ 97 ∷ 97 ∷ 97 ∷ 97 ∷ 97 ∷ 97 ∷ 97 ∷ 97 ∷ 97 ∷ 97 ∷ 97 ∷ 97 ∷ 97 ∷ 97 ∷ 97 ∷ 97 ∷ 97 ∷ 97 ∷ 97 ∷ 97 ∷ 97 ∷ 97 ∷ 97 ∷ 97 ∷ 97 ∷ 97 ∷ 97 ∷ 97 ∷ 97 ∷ 97 ∷ 97 ∷ 97 ∷ 97 ∷ 97 ∷ 97 ∷ 97 ∷ 97 ∷ 97 ∷ 97 ∷ 97 ∷ 97 ∷ 97 ∷ 97 ∷ 97 ∷ 97 ∷ 97 ∷ 97 ∷ 97 ∷ 97 ∷ 97 ∷ 97 ∷ 97 ∷ 97 ∷ 97 ∷ 97 ∷ 97 ∷ 97 ∷ 97 ∷ 97 ∷ 97 ∷ 97 ∷ 97 ∷ 97 ∷ 97 ∷ 97 ∷ 97 ∷ 97 ∷ 97 ∷ 97 ∷ 97 ∷ 97 ∷ 97 ∷ 97 ∷ 97 ∷ 97 ∷ 97 ∷ 97 ∷ 97 ∷ 97 ∷ 97 ∷ 97 ∷ 97 ∷ 97 ∷ 97 ∷ 97 ∷ 97 ∷ 97 ∷ 97 ∷ 97 ∷ 97 ∷ 97 ∷ 97 ∷ 97 ∷ 97 ∷ 97 ∷ 97 ∷ 97 ∷ 97 ∷ 97 ∷ 97 ∷ 97 ∷ 97 ∷ 97 ∷ 97 ∷ 97 ∷ 97 ∷ 97 ∷ 97 ∷ 97 ∷ 97 ∷ 97 ∷ 97 ∷ 97 ∷ 97 ∷ 97 ∷ 97 ∷ 97 ∷ 97 ∷ 97 ∷ 97 ∷ 97 ∷ 97 ∷ 97 ∷ 97 ∷ 97 ∷ 97 ∷ 97 ∷ 97 ∷ 97 ∷ 97 ∷ 97 ∷ 97 ∷ 97 ∷ 97 ∷ 97 ∷ 97 ∷ 97 ∷ 97 ∷ 97 ∷ 97 ∷ 97 ∷ 97 ∷ 97 ∷ 97 ∷ 97 ∷ 97 ∷ 97 ∷ 97 ∷ 97 ∷ 97 ∷ 97 ∷ 97 ∷ 97 ∷ 97 ∷ 97 ∷ 97 ∷ 97 ∷ 97 ∷ 97 ∷ 97 ∷ 97 ∷ 97 ∷ 97 ∷ 97 ∷ 97 ∷ 97 ∷ 97 ∷ 97 ∷ 97 ∷ 97 ∷ 97 ∷ 97 ∷ 97 ∷ 97 ∷ 97 ∷ 97 ∷ 97 ∷ 97 ∷ 97 ∷ 97 ∷ 97 ∷ 97 ∷ 97 ∷ 97 ∷ 97 ∷ 97 ∷ 97 ∷ 97 ∷ 97 ∷ 97 ∷ 97 ∷ 97 ∷ 97 ∷ 97 ∷ 97 ∷ 97 ∷ 97 ∷ 97 ∷ 97 ∷ 97 ∷ 97 ∷ 97 ∷ 97 ∷ 97 ∷ 97 ∷ 97 ∷ 97 ∷ 97 ∷ 97 ∷ 97 ∷ 97 ∷ 97 ∷ 97 ∷ 97 ∷ 97 ∷ 97 ∷ 97 ∷ 97 ∷ 10 ∷ 93 ∷ []) ≡ Some (enter Name.Reference 1 1 0 0 ∷ enter Name.ReferenceMarker 1 1 0 0 ∷ exit Name.ReferenceMarker 1 2 1 0 ∷ enter Name.ReferenceString 1 2 1 0 ∷ chained Name.Data 1 2 1 0 None (Some 6) ∷ exit Name.Data 1 1001 1000 0 ∷ chained Name.LineEnding 1 1001 1000 0 (Some 4) None ∷ exit Name.LineEnding 2 1 1001 0 ∷ exit Name.ReferenceString 2 1 1001 0 ∷ enter Name.ReferenceMarker 2 1 1001 0 ∷ exit Name.ReferenceMarker 2 2 1002 0 ∷ exit Name.Reference 2 2 1002 0 ∷ [])) ×
    -- label «[⟦a×999⟧␊b]»: no
    (label_answer false (91 ∷ 97 ∷ 97 ∷ 97 ∷ 97 ∷ 97 ∷ 97 ∷ 97 ∷ 97 ∷ 97 ∷ 97 ∷ 97 ∷ 97 ∷ 97 ∷ 97 ∷ 97 ∷ 97 ∷ 97 ∷ 97 ∷ 97 ∷ 97 ∷ 97 ∷ 97 ∷ 97 ∷ 97 ∷ 97 ∷ 97 ∷ 97 ∷ 97 ∷ 97 ∷ 97 ∷ 97 ∷ 97 ∷ 97 ∷ 97 ∷ 97 ∷ 97 ∷ 97 ∷ 97 ∷ 97 ∷ 97 ∷ 97 ∷ 97 ∷ 97 ∷ 97 ∷ 97 ∷ 97 ∷ 97 ∷ 97 ∷ 97 ∷ 97 ∷ 97 ∷ 97 ∷ 97 ∷ 97 ∷ 97 ∷ 97 ∷ 97 ∷ 97 ∷ 97 ∷ 97 ∷ 97 ∷ 97 ∷ 97 ∷ 97 ∷ 97 ∷ 97 ∷ 97 ∷ 97 ∷ 97 ∷ 97 ∷ 97 ∷ 97 ∷ 97 ∷ 97 ∷ 97 ∷ 97 ∷ 97 ∷ 97 ∷ 97 ∷ 97 ∷ 97 ∷ 97 ∷ 97 ∷ 97 ∷ 97 ∷ 97 ∷ 97 ∷ 97 ∷ 97 ∷ 97 ∷ 97 ∷ 97 ∷ 97 ∷ 97 ∷ 97 ∷ 97 ∷ 97 ∷ 97 ∷ 97 ∷ 97 ∷ 97 ∷ 97 ∷ 97 ∷ 97 ∷ 97 ∷ 97 ∷ 97 ∷ 97 ∷ 97 ∷ 97 ∷ 97 ∷ 97 ∷ 97 ∷ 97 ∷ 97 ∷ 97 ∷ 97 ∷ 97 ∷ 97 ∷ 97 ∷ 97 ∷ 97 ∷ 97 ∷ 97 ∷ 97 ∷ 97 ∷ 97 ∷ 97 ∷ 97 ∷ 97 ∷ 97 ∷ 97 ∷ 97 ∷ 97 ∷ 97 ∷ 97 ∷ 97 ∷ 97 ∷ 97 ∷ 97 ∷ 97 ∷ 97 ∷ 97 ∷ 97 ∷ 97 ∷ 97 ∷ 97 ∷ 97 ∷ 97 ∷ 97 ∷ 97 ∷ 97 ∷ 97 ∷ 97 ∷ 97 ∷ 97 ∷ 97 ∷ 97 ∷ 97 ∷ 97 ∷ 97 ∷ 97 ∷ 97 ∷ 97 ∷ 97 ∷ 97 ∷ 97 ∷ 97 ∷ 97 ∷ 97 ∷ 97 ∷ 97 ∷ 97 ∷ 97 ∷ 97 ∷ 97 ∷ 97 ∷ 97 ∷ 97 ∷ 97 ∷ 97 ∷ 97 ∷ 97 ∷ 97 ∷ 97 ∷ 97 ∷ 97 ∷ 97 ∷ 97 ∷ 97 ∷ 97 ∷ 97 ∷ 97 ∷ 97 ∷ 97 ∷ 97 ∷ 97 ∷ 97 ∷ 97 ∷ 97 ∷ 97 ∷ 97 ∷ 97 ∷ 97 ∷ 97 ∷ 97 ∷ 97 ∷ 97 ∷ 97 ∷ 97 ∷ 97 ∷ 97 ∷ 97 ∷ 97 ∷ 97 ∷ 97 ∷ 97 ∷ 97 ∷ 97 ∷ 97 ∷ 97 ∷ 97 ∷ 97 ∷ 97 ∷ 97 ∷ 97 ∷ 97 ∷ 97 ∷ 97 ∷ 97 ∷ 97 ∷ 97 ∷ 97 ∷ 97 ∷ 97 ∷ 97 ∷ 97 ∷ 97 ∷ 97 ∷ 97 ∷ 97 ∷ 97 ∷ 97 ∷ 97 ∷ 97 ∷ 97 ∷ 97 ∷ 97 ∷ 97 ∷ 97 ∷ 97 ∷ 97 ∷ 97 ∷ 97 ∷ 97 ∷ 97 ∷ 97 ∷ 97 ∷ 97 ∷ 97 ∷ 97 ∷ 97 ∷ 97 ∷ 97 ∷ 97 ∷ 97 ∷ 97 ∷ 97 ∷ 97 ∷ 97 ∷ 97 ∷ 97 ∷ 97 ∷ 97 ∷ 97 ∷ 97 ∷ 97 ∷ 97 ∷ 97 ∷ 97 ∷ 97 ∷ 97 ∷ 97 ∷ 97 ∷ 97 ∷ 97 ∷ 97 ∷ 97 ∷ 97 ∷ 97 ∷ 97 ∷ 97 ∷ 97 ∷ 97 ∷ 97 ∷ 97 ∷ 97 ∷ 97 ∷ 97 ∷ 97 ∷ 97 ∷ 97 ∷ 97 ∷ 97 ∷ 97 ∷ 97 ∷ 97 ∷ 97 ∷ 97 ∷ 97 ∷ 97 ∷ 97 ∷ 97 ∷ 97 ∷ 97 ∷ 97 ∷ 97 ∷ 97 ∷ 97 ∷ 97 ∷ 97 ∷ 97 ∷ 97 ∷ 97 ∷ 97 ∷ 97 ∷ 97 ∷ 97 ∷ 97 ∷ 97 ∷ 97 ∷ 97 ∷ 97 ∷ 97 ∷ 97 ∷ 97 ∷ 97 ∷ 97 ∷ 97 ∷ 97 ∷ 97 ∷ 97 ∷ 97 ∷ 97 ∷ 97 ∷ 97 ∷ 97 ∷ 97 ∷ 97 ∷ 97 ∷ 97 ∷ 97 ∷ 97 ∷ 97 ∷ 97 ∷ 97 ∷ 97 ∷ 97 ∷ 97 ∷ 97 ∷ 97 ∷ 97 ∷ 97 ∷ 97 ∷ 97 ∷ 97 ∷ 97 ∷ 97 ∷ 97 ∷ 97 ∷ 97 ∷ 97 ∷ 97 ∷ 97 ∷ 97 ∷ 97 ∷ 97 ∷ 97 ∷ 97 ∷ 97 ∷ 97 ∷ 97 ∷ 97 ∷ 97 ∷ 97 ∷ 97 ∷ 97 ∷ 97 ∷ 97 ∷ 97 ∷ 97 ∷ 97 ∷ 97 ∷ 97 ∷ 97 ∷ 97 ∷ 97 ∷ 97 ∷ 97 ∷ 97 ∷ 97 ∷ 97 ∷ 97 ∷ 97 ∷ 97 ∷ 97 ∷ 97 ∷ 97 ∷ 97 ∷ 97 ∷ 97 ∷ 97 ∷ 97 ∷ 97 ∷ 97 ∷ 97 ∷ 97 ∷ 97 ∷ 97 ∷ 97 ∷ 97 ∷ 97 ∷ 97 ∷ 97 ∷ 97 ∷ 97 ∷ 97 ∷ 97 ∷ 97 ∷ 97 ∷ 97 ∷ 97 ∷ 97 ∷ 97 ∷ 97 ∷ 97 ∷ 97 ∷ 97 ∷ 97 ∷ 97 ∷ 97 ∷ 97 ∷ 97 ∷ 97 ∷ 97 ∷ 97 ∷ 97 ∷ 97 ∷ 97 ∷ 97 ∷ 97 ∷ 97 ∷ 97 ∷ 97 ∷ 97 ∷ 97 ∷ 97 ∷ 97 ∷ 97 ∷ 97 ∷ 97 ∷ 97 ∷ 97 ∷ 97 ∷ 97 ∷ 97 ∷ 97 ∷ 97 ∷ 97 ∷ 97 ∷ 97 ∷ 97 ∷ 97 ∷ 97 ∷ 97 ∷ 97 ∷ 97 ∷ 97 ∷ 97 ∷ 97 ∷ 97 ∷ 97 ∷ 97 ∷ 97 ∷ 97 ∷ 97 ∷ 97 ∷ 97 ∷ 97 ∷ 97 ∷ 97 ∷ 97 ∷ 97 ∷ 97 ∷ 97 ∷ 97 ∷ 97 ∷ 97 ∷ 97 ∷ 97 ∷ 97 ∷ 97 ∷ 97 ∷ 97 ∷ 97 ∷ 97 ∷ 97 ∷ 97 ∷ 97 ∷ 97 ∷ 97 ∷ 97 ∷ 97 ∷ 97 ∷ 97 ∷ 97 ∷ 97 ∷ 97 ∷ 97 ∷ 97 ∷ 97 ∷ 97 ∷ 97 ∷ 97 ∷ 97 ∷ 97 ∷ 97 ∷ 97 ∷ 97 ∷ 97 ∷ 97 ∷ 97 ∷ 97 ∷ 97 ∷ 97 ∷ 97 ∷ 97 ∷ 97 ∷ 97 ∷ 97 ∷ 97 ∷ 97 ∷ 97 ∷ 97 ∷ 97 ∷ 97 ∷ 97 ∷ 97 ∷ 97 ∷ 97 ∷ 97 ∷ 97 ∷ 97 ∷ 97 ∷ 97 ∷ 97 ∷ 97 ∷ 97 ∷ 97 ∷ 97 ∷ 97 ∷ 97 ∷ 97 ∷ 97 ∷ 97 ∷ 97 ∷ 97 ∷ 97 ∷ 97 ∷ 97 ∷ 97 ∷ 97 ∷ 97 ∷ 97 ∷ 97 ∷ 97 ∷ 97 ∷ 97 ∷ 97 ∷ 97 ∷ 97 ∷ 97 ∷ 97 ∷ 97 ∷ 97 ∷ 97 ∷ 97 ∷ 97 ∷ 97 ∷ 97 ∷ 97 ∷ 97 ∷ 97 ∷ 97 ∷ 97 ∷ 97 ∷ 97 ∷ 97 ∷ 97 ∷ 97 ∷ 97 ∷ 97 ∷ 97 ∷ 97 ∷ 97 ∷ 97 ∷ 97 ∷ 97 ∷ 97 ∷ 97 ∷ 97 ∷ 97 ∷ 97 ∷ 97 ∷ 97 ∷ 97 ∷ 97 ∷ 97 ∷ 97 ∷ 97 ∷ 97 ∷ 97 ∷ 97 ∷ 97 ∷ 97 ∷ 97 ∷ 97 ∷ 97 ∷ 97 ∷ 97 ∷ 97 ∷ 97 ∷ 97 ∷ 97 ∷ 97 ∷ 97 ∷ 97 ∷ 97 ∷ 97 ∷ 97 ∷ 97 ∷ 97 ∷ 97 ∷ 97 ∷ 97 ∷ 97 ∷ 97 ∷ 97 ∷ 97 ∷ 97 ∷ 97 ∷ 97 ∷ 97 ∷ 97 ∷ 97 ∷ 97 ∷ 97 ∷ 97 ∷ 97 ∷ 97 ∷ 97 ∷ 97 ∷ 97 ∷ 97 ∷ 97 ∷ 97 ∷ 97 ∷ 97 ∷ 97 ∷ 97 ∷ 97 ∷ 97 ∷ 97 ∷ 97 ∷ 97 ∷ 97 ∷ 97 ∷ 97 ∷ 97 ∷ 97 ∷ 97 ∷ 97 ∷ 97 ∷ 97 ∷ 97 ∷ 97 ∷ 97 ∷ 97 ∷ 97 ∷ 97 ∷ 97 ∷ 97 ∷ 97 ∷ 97 ∷ 97 ∷ 97 ∷ 97 ∷ 97 ∷ 97 ∷ 97 ∷ 97 ∷ 97 ∷ 97 ∷ 97 ∷ 97 ∷ 97 ∷ 97 ∷ 97 ∷ 97 ∷ 97 ∷ 97 ∷ 97 ∷ 97 ∷ 97 ∷ 97 ∷ 97 ∷ 97 ∷ 97 ∷ 97 ∷ 97 ∷ 97 ∷ 97 ∷ 97 ∷ 97 ∷ 97 ∷ 97 ∷ 97 ∷ 97 ∷ 97 ∷ 97 ∷ 97 ∷ 97 ∷ 97 ∷ 97 ∷ 97 ∷ 97 ∷ 97 ∷ 97 ∷ 97 ∷ 97 ∷ 97 ∷ 97 ∷ 97 ∷ 97 ∷ 97 ∷ 97 ∷ 97 ∷ 97 ∷ 97 ∷ 97 ∷ 97 ∷ 97 ∷ 97 ∷ 97 ∷ 97 ∷ 97 ∷ 97 ∷ 97 ∷ 97 ∷ 97 ∷ 97 ∷ 97 ∷ 97 ∷ 97 ∷ 97 ∷ 97 ∷ 97 ∷ 97 ∷ 97 ∷ 97 ∷ 97 ∷ 97 ∷ 97 ∷ 97 ∷ 97 ∷ 97 ∷ 97 ∷ 97 ∷ 97 ∷ 97 ∷ 97 ∷ 97 ∷ 97 ∷ 97 ∷ 97 ∷ 97 ∷ 97 ∷ 97 ∷ 97 ∷ 97 ∷ 97 ∷ 97 ∷ 97 ∷ 97 ∷ 97 ∷ 97 ∷ 97 ∷ 97 ∷ 97 ∷ 97 ∷ 97 ∷ 97 ∷ 97 ∷ 97 ∷ 97 ∷ 97 ∷ 97 ∷ 97 ∷ 97 ∷ 97 ∷ 97 ∷ 97 ∷ 97 ∷ 97 ∷ 97 ∷ 97 ∷ 97 ∷ 97 ∷ 97 ∷ 97 ∷ 97 ∷ 97 ∷ 97 ∷ 97 ∷ 97 ∷ 97 ∷ 97 ∷ 97 ∷ 97 ∷ 97 ∷ 97 ∷ 97 ∷ 97 ∷ 97 ∷ 97 ∷ 97 ∷ 97 ∷ 97 ∷ 97 ∷ 97 ∷ 97 ∷ 97 ∷ 97 ∷ 97 ∷ 97 ∷ 97 ∷ 97 ∷ 97 ∷ 97 ∷ 97 ∷ 97 ∷ 97 ∷ 97 ∷ 97 ∷ 97 ∷ 97 ∷ 97 ∷ 97 ∷ 97 ∷ 97 ∷ 97 ∷ 97 ∷ 97 ∷ 97 ∷ 97 ∷ 97 ∷ 97 ∷ 97 ∷ 97 ∷ 97 ∷ 97 ∷ 97 ∷ 97 ∷ 97 ∷ 97 ∷ 97 ∷ 97 ∷ 97 ∷ 97 ∷ 97 ∷ 97 ∷ 97 ∷ 97 ∷ 97 ∷ 97 ∷ 97 ∷ 97 ∷ 97 ∷ 97 ∷ 97 ∷ 97 ∷ 97 ∷ 97 ∷ 97 ∷ 97 ∷ 97 ∷ 97 ∷ 97 ∷ 97 ∷ 97 ∷ 97 ∷ 97 ∷ 97 ∷ 97 ∷ 97 ∷ 97 ∷ 97 ∷ 97 ∷ 97 ∷ 97 ∷ 97 ∷ 97 ∷ 97 ∷ 97 ∷ 97 ∷ 97 ∷ 97 ∷ 97 ∷ 97 ∷ 97 ∷ 97 ∷ 97 ∷ 97 ∷ 97 ∷ 97 ∷ 97 ∷ 97 ∷ 97 ∷ 97 ∷ 97 ∷ 97 ∷ 97 ∷ 97 ∷ 97 ∷ 97 ∷ 97 ∷ 97 ∷ 97 ∷ 97 ∷ 97 ∷ 97 ∷ 97 ∷ 97 ∷ 97 ∷ 97 ∷ 97 ∷ 97 ∷ 97 ∷ 97 ∷ 97 ∷ 97 ∷ 97 ∷ 97 ∷ 97 ∷ 97 ∷ 97 ∷ 97 ∷ 97 ∷ 97 ∷ 97 ∷ 97 ∷ 97 ∷ 97 ∷ 97 ∷ 97 ∷ 97 ∷ 97 ∷ 97 ∷ 97 ∷ 97 ∷ 97 ∷ 97 ∷ 97 ∷ 97 ∷ 97 ∷ 97 ∷ 97 ∷ 97 ∷ 97 ∷ 97 ∷ 97 ∷ 97 ∷ 97 ∷ 97 ∷ 97 ∷ 97 ∷ 97 ∷ 97 ∷ 97 ∷ 97 ∷ 97 ∷ 97 ∷ 97 ∷ 97 ∷ 97 ∷ 97 ∷ 97 ∷ 97 ∷ 97 ∷ 10 ∷ 98 ∷ 93 ∷ []) ≡ None) ×
    -- bounded min=1 max=2 «␠␠␠a»: SpaceOrTab 0-2
    (bounded_answer None 1 2 (codes "   a") ≡ Some (enter Name.SpaceOrTab 1 1 0 0 ∷ exit Name.SpaceOrTab 1 3 2 0 ∷ [])) ×
    -- bounded min=4 «␠␠␠a»: no
    (bounded_answer None 4 18446744073709551615 (codes "   a") ≡ None) ×
    -- bounded min=0 max=0 «␠␠␠a»:
    (bounded_answer None 0 0 (codes "   a") ≡ Some ([])) ×
    -- spacing «␠␊ b»: SpaceOrTab 0-1, LineEnding 1-2, SpaceOrTab 2-3
    (spacing_answer None (32 ∷ 10 ∷ 32 ∷ 98 ∷ []) ≡ Some (enter Name.SpaceOrTab 1 1 0 0 ∷ exit Name.SpaceOrTab 1 2 1 0 ∷ enter Name.LineEnding 1 2 1 0 ∷ exit Name.LineEnding 2 1 2 0 ∷ enter Name.SpaceOrTab 2 1 2 0 ∷ exit Name.SpaceOrTab 2 2 3 0 ∷ [])) ×
    -- spacing «b»: no
    (spacing_answer None (codes "b") ≡ None) ×
    -- spacing «␊␊b»: no
    (spacing_answer None (10 ∷ 10 ∷ 98 ∷ []) ≡ None) ×
    -- label «[\\]»: Reference 0-4 [ReferenceMarker 0-1, ReferenceString 1-3 [Data 1-3], ReferenceMarker 3-4]
    (label_answer false (codes "[\\\\]") ≡ Some (enter Name.Reference 1 1 0 0 ∷ enter Name.ReferenceMarker 1 1 0 0 ∷ exit Name.ReferenceMarker 1 2 1 0 ∷ enter Name.ReferenceString 1 2 1 0 ∷ chained Name.Data 1 2 1 0 None None ∷ exit Name.Data 1 4 3 0 ∷ exit Name.ReferenceString 1 4 3 0 ∷ enter Name.ReferenceMarker 1 4 3 0 ∷ exit Name.ReferenceMarker 1 5 4 0 ∷ exit Name.Reference 1 5 4 0 ∷ [])) ×
    -- label «[\[]»: Reference 0-4 [ReferenceMarker 0-1, ReferenceString 1-3 [Data 1-3], ReferenceMarker 3-4]
    (label_answer false (codes "[\\[]") ≡ Some (enter Name.Reference 1 1 0 0 ∷ enter Name.ReferenceMarker 1 1 0 0 ∷ exit Name.ReferenceMarker 1 2 1 0 ∷ enter Name.ReferenceString 1 2 1 0 ∷ chained Name.Data 1 2 1 0 None None ∷ exit Name.Data 1 4 3 0 ∷ exit Name.ReferenceString 1 4 3 0 ∷ enter Name.ReferenceMarker 1 4 3 0 ∷ exit Name.ReferenceMarker 1 5 4 0 ∷ exit Name.Reference 1 5 4 0 ∷ [])) ×
    -- label «[\a]»: Reference 0-4 [ReferenceMarker 0-1, ReferenceString 1-3 [Data 1-3], ReferenceMarker 3-4]
    (label_answer false (codes "[\\a]") ≡ Some (enter Name.Reference 1 1 0 0 ∷ enter Name.ReferenceMarker 1 1 0 0 ∷ exit Name.ReferenceMarker 1 2 1 0 ∷ enter Name.ReferenceString 1 2 1 0 ∷ chained Name.Data 1 2 1 0 None None ∷ exit Name.Data 1 4 3 0 ∷ exit Name.ReferenceString 1 4 3 0 ∷ enter Name.ReferenceMarker 1 4 3 0 ∷ exit Name.ReferenceMarker 1 5 4 0 ∷ exit Name.Reference 1 5 4 0 ∷ [])) ×
    -- label «[]»: no
    (label_answer false (codes "[]") ≡ None) ×
    -- label «[␊]»: no
    (label_answer false (91 ∷ 10 ∷ 93 ∷ []) ≡ None) ×
    -- label «[␉]»: no
    (label_answer false (91 ∷ 9 ∷ 93 ∷ []) ≡ None) ×
    -- label «[a␊␊b]»: no
    (label_answer false (91 ∷ 97 ∷ 10 ∷ 10 ∷ 98 ∷ 93 ∷ []) ≡ None) ×
    -- label «[a␊]»: Reference 0-4 [ReferenceMarker 0-1, ReferenceString 1-3 [Data 1-2, LineEnding 2-3], ReferenceMarker 3-4]
    (label_answer false (91 ∷ 97 ∷ 10 ∷ 93 ∷ []) ≡ Some (enter Name.Reference 1 1 0 0 ∷ enter Name.ReferenceMarker 1 1 0 0 ∷ exit Name.ReferenceMarker 1 2 1 0 ∷ enter Name.ReferenceString 1 2 1 0 ∷ chained Name.Data 1 2 1 0 None (Some 6) ∷ exit Name.Data 1 3 2 0 ∷ chained Name.LineEnding 1 3 2 0 (Some 4) None ∷ exit Name.LineEnding 2 1 3 0 ∷ exit Name.ReferenceString 2 1 3 0 ∷ enter Name.ReferenceMarker 2 1 3 0 ∷ exit Name.ReferenceMarker 2 2 4 0 ∷ exit Name.Reference 2 2 4 0 ∷ [])) ×
    -- label «[⟦a×998⟧␊ a]»: Reference 0-1003 [ReferenceMarker 0-1, ReferenceString 1-1002 [Data 1-999, LineEnding 999-1000, SpaceOrTab 1000-1001, Data 1001-1002], ReferenceMarker 1002-1003]
    (label_answer false (91 ∷ 97 ∷ 97 ∷ 97 ∷ 97 ∷ 97 ∷ 97 ∷ 97 ∷ 97 ∷ 97 ∷ 97 ∷ 97 ∷ 97 ∷ 97 ∷ 97 ∷ 97 ∷ 97 ∷ 97 ∷ 97 ∷ 97 ∷ 97 ∷ 97 ∷ 97 ∷ 97 ∷ 97 ∷ 97 ∷ 97 ∷ 97 ∷ 97 ∷ 97 ∷ 97 ∷ 97 ∷ 97 ∷ 97 ∷ 97 ∷ 97 ∷ 97 ∷ 97 ∷ 97 ∷ 97 ∷ 97 ∷ 97 ∷ 97 ∷ 97 ∷ 97 ∷ 97 ∷ 97 ∷ 97 ∷ 97 ∷ 97 ∷ 97 ∷ 97 ∷ 97 ∷ 97 ∷ 97 ∷ 97 ∷ 97 ∷ 97 ∷ 97 ∷ 97 ∷ 97 ∷ 97 ∷ 97 ∷ 97 ∷ 97 ∷ 97 ∷ 97 ∷ 97 ∷ 97 ∷ 97 ∷ 97 ∷ 97 ∷ 97 ∷ 97 ∷ 97 ∷ 97 ∷ 97 ∷ 97 ∷ 97 ∷ 97 ∷ 97 ∷ 97 ∷ 97 ∷ 97 ∷ 97 ∷ 97 ∷ 97 ∷ 97 ∷ 97 ∷ 97 ∷ 97 ∷ 97 ∷ 97 ∷ 97 ∷ 97 ∷ 97 ∷ 97 ∷ 97 ∷ 97 ∷ 97 ∷ 97 ∷ 97 ∷ 97 ∷ 97 ∷ 97 ∷ 97 ∷ 97 ∷ 97 ∷ 97 ∷ 97 ∷ 97 ∷ 97 ∷ 97 ∷ 97 ∷ 97 ∷ 97 ∷ 97 ∷ 97 ∷ 97 ∷ 97 ∷ 97 ∷ 97 ∷ 97 ∷ 97 ∷ 97 ∷ 97 ∷ 97 ∷ 97 ∷ 97 ∷ 97 ∷ 97 ∷ 97 ∷ 97 ∷ 97 ∷ 97 ∷ 97 ∷ 97 ∷ 97 ∷ 97 ∷ 97 ∷ 97 ∷ 97 ∷ 97 ∷ 97 ∷ 97 ∷ 97 ∷ 97 ∷ 97 ∷ 97 ∷ 97 ∷ 97 ∷ 97 ∷ 97 ∷ 97 ∷ 97 ∷ 97 ∷ 97 ∷ 97 ∷ 97 ∷ 97 ∷ 97 ∷ 97 ∷ 97 ∷ 97 ∷ 97 ∷ 97 ∷ 97 ∷ 97 ∷ 97 ∷ 97 ∷ 97 ∷ 97 ∷ 97 ∷ 97 ∷ 97 ∷ 97 ∷ 97 ∷ 97 ∷ 97 ∷ 97 ∷ 97 ∷ 97 ∷ 97 ∷ 97 ∷ 97 ∷ 97 ∷ 97 ∷ 97 ∷ 97 ∷ 97 ∷ 97 ∷ 97 ∷ 97 ∷ 97 ∷ 97 ∷ 97 ∷ 97 ∷ 97 ∷ 97 ∷ 97 ∷ 97 ∷ 97 ∷ 97 ∷ 97 ∷ 97 ∷ 97 ∷ 97 ∷ 97 ∷ 97 ∷ 97 ∷ 97 ∷ 97 ∷ 97 ∷ 97 ∷ 97 ∷ 97 ∷ 97 ∷ 97 ∷ 97 ∷ 97 ∷ 97 ∷ 97 ∷ 97 ∷ 97 ∷ 97 ∷ 97 ∷ 97 ∷ 97 ∷ 97 ∷ 97 ∷ 97 ∷ 97 ∷ 97 ∷ 97 ∷ 97 ∷ 97 ∷ 97 ∷ 97 ∷ 97 ∷ 97 ∷ 97 ∷ 97 ∷ 97 ∷ 97 ∷ 97 ∷ 97 ∷ 97 ∷ 97 ∷ 97 ∷ 97 ∷ 97 ∷ 97 ∷ 97 ∷ 97 ∷ 97 ∷ 97 ∷ 97 ∷ 97 ∷ 97 ∷ 97 ∷ 97 ∷ 97 ∷ 97 ∷ 97 ∷ 97 ∷ 97 ∷ 97 ∷ 97 ∷ 97 ∷ 97 ∷ 97 ∷ 97 ∷ 97 ∷ 97 ∷ 97 ∷ 97 ∷ 97 ∷ 97 ∷ 97 ∷ 97 ∷ 97 ∷ 97 ∷ 97 ∷ 97 ∷ 97 ∷ 97 ∷ 97 ∷ 97 ∷ 97 ∷ 97 ∷ 97 ∷ 97 ∷ 97 ∷ 97 ∷ 97 ∷ 97 ∷ 97 ∷ 97 ∷ 97 ∷ 97 ∷ 97 ∷ 97 ∷ 97 ∷ 97 ∷ 97 ∷ 97 ∷ 97 ∷ 97 ∷ 97 ∷ 97 ∷ 97 ∷ 97 ∷ 97 ∷ 97 ∷ 97 ∷ 97 ∷ 97 ∷ 97 ∷ 97 ∷ 97 ∷ 97 ∷ 97 ∷ 97 ∷ 97 ∷ 97 ∷ 97 ∷ 97 ∷ 97 ∷ 97 ∷ 97 ∷ 97 ∷ 97 ∷ 97 ∷ 97 ∷ 97 ∷ 97 ∷ 97 ∷ 97 ∷ 97 ∷ 97 ∷ 97 ∷ 97 ∷ 97 ∷ 97 ∷ 97 ∷ 97 ∷ 97 ∷ 97 ∷ 97 ∷ 97 ∷ 97 ∷ 97 ∷ 97 ∷ 97 ∷ 97 ∷ 97 ∷ 97 ∷ 97 ∷ 97 ∷ 97 ∷ 97 ∷ 97 ∷ 97 ∷ 97 ∷ 97 ∷ 97 ∷ 97 ∷ 97 ∷ 97 ∷ 97 ∷ 97 ∷ 97 ∷ 97 ∷ 97 ∷ 97 ∷ 97 ∷ 97 ∷ 97 ∷ 97 ∷ 97 ∷ 97 ∷ 97 ∷ 97 ∷ 97 ∷ 97 ∷ 97 ∷ 97 ∷ 97 ∷ 97 ∷ 97 ∷ 97 ∷ 97 ∷ 97 ∷ 97 ∷ 97 ∷ 97 ∷ 97 ∷ 97 ∷ 97 ∷ 97 ∷ 97 ∷ 97 ∷ 97 ∷ 97 ∷ 97 ∷ 97 ∷ 97 ∷ 97 ∷ 97 ∷ 97 ∷ 97 ∷ 97 ∷ 97 ∷ 97 ∷ 97 ∷ 97 ∷ 97 ∷ 97 ∷ 97 ∷ 97 ∷ 97 ∷ 97 ∷ 97 ∷ 97 ∷ 97 ∷ 97 ∷ 97 ∷ 97 ∷ 97 ∷ 97 ∷ 97 ∷ 97 ∷ 97 ∷ 97 ∷ 97 ∷ 97 ∷ 97 ∷ 97 ∷ 97 ∷ 97 ∷ 97 ∷ 97 ∷ 97 ∷ 97 ∷ 97 ∷ 97 ∷ 97 ∷ 97 ∷ 97 ∷ 97 ∷ 97 ∷ 97 ∷ 97 ∷ 97 ∷ 97 ∷ 97 ∷ 97 ∷ 97 ∷ 97 ∷ 97 ∷ 97 ∷ 97 ∷ 97 ∷ 97 ∷ 97 ∷ 97 ∷ 97 ∷ 97 ∷ 97 ∷ 97 ∷ 97 ∷ 97 ∷ 97 ∷ 97 ∷ 97 ∷ 97 ∷ 97 ∷ 97 ∷ 97 ∷ 97 ∷ 97 ∷ 97 ∷ 97 ∷ 97 ∷ 97 ∷ 97 ∷ 97 ∷ 97 ∷ 97 ∷ 97 ∷ 97 ∷ 97 ∷ 97 ∷ 97 ∷ 97 ∷ 97 ∷ 97 ∷ 97 ∷ 97 ∷ 97 ∷ 97 ∷ 97 ∷ 97 ∷ 97 ∷ 97 ∷ 97 ∷ 97 ∷ 97 ∷ 97 ∷ 97 ∷ 97 ∷ 97 ∷ 97 ∷ 97 ∷ 97 ∷ 97 ∷ 97 ∷ 97 ∷ 97 ∷ 97 ∷ 97 ∷ 97 ∷ 97 ∷ 97 ∷ 97 ∷ 97 ∷ 97 ∷ 97 ∷ 97 ∷ 97 ∷ 97 ∷ 97 ∷ 97 ∷ 97 ∷ 97 ∷ 97 ∷ 97 ∷ 97 ∷ 97 ∷ 97 ∷ 97 ∷ 97 ∷ 97 ∷ 97 ∷ 97 ∷ 97 ∷ 97 ∷ 97 ∷ 97 ∷ 97 ∷ 97 ∷ 97 ∷ 97 ∷ 97 ∷ 97 ∷ 97 ∷ 97 ∷ 97 ∷ 97 ∷ 97 ∷ 97 ∷ 97 ∷ 97 ∷ 97 ∷ 97 ∷ 97 ∷ 97 ∷ 97 ∷ 97 ∷ 97 ∷ 97 ∷ 97 ∷ 97 ∷ 97 ∷ 97 ∷ 97 ∷ 97 ∷ 97 ∷ 97 ∷ 97 ∷ 97 ∷ 97 ∷ 97 ∷ 97 ∷ 97 ∷ 97 ∷ 97 ∷ 97 ∷ 97 ∷ 97 ∷ 97 ∷ 97 ∷ 97 ∷ 97 ∷ 97 ∷ 97 ∷ 97 ∷ 97 ∷ 97 ∷ 97 ∷ 97 ∷ 97 ∷ 97 ∷ 97 ∷ 97 ∷ 97 ∷ 97 ∷ 97 ∷ 97 ∷ 97 ∷ 97 ∷ 97 ∷ 97 ∷ 97 ∷ 97 ∷ 97 ∷ 97 ∷ 97 ∷ 97 ∷ 97 ∷ 97 ∷ 97 ∷ 97 ∷ 97 ∷ 97 ∷ 97 ∷ 97 ∷ 97 ∷ 97 ∷ 97 ∷ 97 ∷ 97 ∷ 97 ∷ 97 ∷ 97 ∷ 97 ∷ 97 ∷ 97 ∷ 97 ∷ 97 ∷ 97 ∷ 97 ∷ 97 ∷ 97 ∷ 97 ∷ 97 ∷ 97 ∷ 97 ∷ 97 ∷ 97 ∷ 97 ∷ 97 ∷ 97 ∷ 97 ∷ 97 ∷ 97 ∷ 97 ∷ 97 ∷ 97 ∷ 97 ∷ 97 ∷ 97 ∷ 97 ∷ 97 ∷ 97 ∷ 97 ∷ 97 ∷ 97 ∷ 97 ∷ 97 ∷ 97 ∷ 97 ∷ 97 ∷ 97 ∷ 97 ∷ 97 ∷ 97 ∷ 97 ∷ 97 ∷ 97 ∷ 97 ∷ 97 ∷ 97 ∷ 97 ∷ 97 ∷ 97 ∷ 97 ∷ 97 ∷ 97 ∷ 97 ∷ 97 ∷ 97 ∷ 97 ∷ 97 ∷ 97 ∷ 97 ∷ 97 ∷ 97 ∷ 97 ∷ 97 ∷ 97 ∷ 97 ∷ 97 ∷ 97 ∷ 97 ∷ 97 ∷ 97 ∷ 97 ∷ 97 ∷ 97 ∷ 97 ∷ 97 ∷ 97 ∷ 97 ∷ 97 ∷ 97 ∷ 97 ∷ 97 ∷ 97 ∷ 97 ∷ 97 ∷ 97 ∷ 97 ∷ 97 ∷ 97 ∷ 97 ∷ 97 ∷ 97 ∷ 97 ∷ 97 ∷ 97 ∷ 97 ∷ 97 ∷ 97 ∷ 97 ∷ 97 ∷ 97 ∷ 97 ∷ 97 ∷ 97 ∷ 97 ∷ 97 ∷ 97 ∷ 97 ∷ 97 ∷ 97 ∷ 97 ∷ 97 ∷ 97 ∷ 97 ∷ 97 ∷ 97 ∷ 97 ∷ 97 ∷ 97 ∷ 97 ∷ 97 ∷ 97 ∷ 97 ∷ 97 ∷ 97 ∷ 97 ∷ 97 ∷ 97 ∷ 97 ∷ 97 ∷ 97 ∷ 97 ∷ 97 ∷ 97 ∷ 97 ∷ 97 ∷ 97 ∷ 97 ∷ 97 ∷ 97 ∷ 97 ∷ 97 ∷ 97 ∷ 97 ∷ 97 ∷ 97 ∷ 97 ∷ 97 ∷ 97 ∷ 97 ∷ 97 ∷ 97 ∷ 97 ∷ 97 ∷ 97 ∷ 97 ∷ 97 ∷ 97 ∷ 97 ∷ 97 ∷ 97 ∷ 97 ∷ 97 ∷ 97 ∷ 97 ∷ 97 ∷ 97 ∷ 97 ∷ 97 ∷ 97 ∷ 97 ∷ 97 ∷ 97 ∷ 97 ∷ 97 ∷ 97 ∷ 97 ∷ 97 ∷ 97 ∷ 97 ∷ 97 ∷ 97 ∷ 97 ∷ 97 ∷ 97 ∷ 97 ∷ 97 ∷ 97 ∷ 97 ∷ 97 ∷ 97 ∷ 97 ∷ 97 ∷ 97 ∷ 97 ∷ 97 ∷ 97 ∷ 97 ∷ 97 ∷ 97 ∷ 97 ∷ 97 ∷ 97 ∷ 97 ∷ 97 ∷ 97 ∷ 97 ∷ 97 ∷ 97 ∷ 97 ∷ 97 ∷ 97 ∷ 97 ∷ 97 ∷ 97 ∷ 97 ∷ 97 ∷ 97 ∷ 97 ∷ 97 ∷ 97 ∷ 97 ∷ 97 ∷ 97 ∷ 97 ∷ 97 ∷ 97 ∷ 97 ∷ 97 ∷ 97 ∷ 97 ∷ 97 ∷ 97 ∷ 97 ∷ 97 ∷ 97 ∷ 97 ∷ 97 ∷ 97 ∷ 97 ∷ 97 ∷ 97 ∷ 97 ∷ 97 ∷ 97 ∷ 97 ∷ 97 ∷ 97 ∷ 97 ∷ 97 ∷ 97 ∷ 97 ∷ 97 ∷ 97 ∷ 97 ∷ 97 ∷ 97 ∷ 97 ∷ 97 ∷ 97 ∷ 97 ∷ 97 ∷ 97 ∷ 97 ∷ 97 ∷ 97 ∷ 97 ∷ 97 ∷ 97 ∷ 97 ∷ 97 ∷ 97 ∷ 97 ∷ 97 ∷ 97 ∷ 97 ∷ 97 ∷ 97 ∷ 97 ∷ 97 ∷ 97 ∷ 97 ∷ 97 ∷ 97 ∷ 97 ∷ 97 ∷ 97 ∷ 97 ∷ 97 ∷ 97 ∷ 97 ∷ 97 ∷ 97 ∷ 97 ∷ 97 ∷ 97 ∷ 97 ∷ 97 ∷ 97 ∷ 97 ∷ 97 ∷ 97 ∷ 97 ∷ 97 ∷ 97 ∷ 97 ∷ 97 ∷ 97 ∷ 97 ∷ 97 ∷ 97 ∷ 97 ∷ 97 ∷ 97 ∷ 97 ∷ 97 ∷ 97 ∷ 97 ∷ 97 ∷ 97 ∷ 97 ∷ 97 ∷ 97 ∷ 97 ∷ 97 ∷ 97 ∷ 97 ∷ 97 ∷ 97 ∷ 97 ∷ 97 ∷ 97 ∷ 97 ∷ 97 ∷ 97 ∷ 97 ∷ 97 ∷ 97 ∷ 97 ∷ 97 ∷ 97 ∷ 97 ∷ 97 ∷ 97 ∷ 97 ∷ 97 ∷ 97 ∷ 97 ∷ 97 ∷ 97 ∷ 97 ∷ 97 ∷ 97 ∷ 97 ∷ 97 ∷ 97 ∷ 97 ∷ 97 ∷ 97 ∷ 97 ∷ 97 ∷ 97 ∷ 97 ∷ 10 ∷ 32 ∷ 97 ∷ 93 ∷ []) ≡ Some (enter Name.Reference 1 1 0 0 ∷ enter Name.ReferenceMarker 1 1 0 0 ∷ exit Name.ReferenceMarker 1 2 1 0 ∷ enter Name.ReferenceString 1 2 1 0 ∷ chained Name.Data 1 2 1 0 None (Some 6) ∷ exit Name.Data 1 1000 999 0 ∷ chained Name.LineEnding 1 1000 999 0 (Some 4) (Some 8) ∷ exit Name.LineEnding 2 1 1000 0 ∷ chained Name.SpaceOrTab 2 1 1000 0 (Some 6) (Some 10) ∷ exit Name.SpaceOrTab 2 2 1001 0 ∷ chained Name.Data 2 2 1001 0 (Some 8) None ∷ exit Name.Data 2 3 1002 0 ∷ exit Name.ReferenceString 2 3 1002 0 ∷ enter Name.ReferenceMarker 2 3 1002 0 ∷ exit Name.ReferenceMarker 2 4 1003 0 ∷ exit Name.Reference 2 4 1003 0 ∷ [])) ×
    -- label «[⟦a×999⟧ ]»: no
    (label_answer false (codes "[aaaaaaaaaaaaaaaaaaaaaaaaaaaaaaaaaaaaaaaaaaaaaaaaaaaaaaaaaaaaaaaaaaaaaaaaaaaaaaaaaaaaaaaaaaaaaaaaaaaaaaaaaaaaaaaaaaaaaaaaaaaaaaaaaaaaaaaaaaaaaaaaaaaaaaaaaaaaaaaaaaaaaaaaaaaaaaaaaaaaaaaaaaaaaaaaaaaaaaaaaaaaaaaaaaaaaaaaaaaaaaaaaaaaaaaaaaaaaaaaaaaaaaaaaaaaaaaaaaaaaaaaaaaaaaaaaaaaaaaaaaaaaaaaaaaaaaaaaaaaaaaaaaaaaaaaaaaaaaaaaaaaaaaaaaaaaaaaaaaaaaaaaaaaaaaaaaaaaaaaaaaaaaaaaaaaaaaaaaaaaaaaaaaaaaaaaaaaaaaaaaaaaaaaaaaaaaaaaaaaaaaaaaaaaaaaaaaaaaaaaaaaaaaaaaaaaaaaaaaaaaaaaaaaaaaaaaaaaaaaaaaaaaaaaaaaaaaaaaaaaaaaaaaaaaaaaaaaaaaaaaaaaaaaaaaaaaaaaaaaaaaaaaaaaaaaaaaaaaaaaaaaaaaaaaaaaaaaaaaaaaaaaaaaaaaaaaaaaaaaaaaaaaaaaaaaaaaaaaaaaaaaaaaaaaaaaaaaaaaaaaaaaaaaaaaaaaaaaaaaaaaaaaaaaaaaaaaaaaaaaaaaaaaaaaaaaaaaaaaaaaaaaaaaaaaaaaaaaaaaaaaaaaaaaaaaaaaaaaaaaaaaaaaaaaaaaaaaaaaaaaaaaaaaaaaaaaaaaaaaaaaaaaaaaaaaaaaaaaaaaaaaaaaaaaaaaaaaaaaaaaaaaaaaaaaaaaaaaaaaaaaaaaaaaaaaaaaaaaaaaaaaaaaaaaaaaaaaaaaaaaaaaaaaaaaaaaaaaaaaaaaaaaaaaaaaaaaaaaaaaaaaaaaaaaaaaaaaaaaaaaaaaaaaaaaaaaaaaaaaaaaaaaaaaaaaaaaaaaaaaaaaaaaaaaaaaaaaaaa ]") ≡ None) ×
    -- label «[␠⟦a×999⟧]»: no
    (label_answer false (codes "[ aaaaaaaaaaaaaaaaaaaaaaaaaaaaaaaaaaaaaaaaaaaaaaaaaaaaaaaaaaaaaaaaaaaaaaaaaaaaaaaaaaaaaaaaaaaaaaaaaaaaaaaaaaaaaaaaaaaaaaaaaaaaaaaaaaaaaaaaaaaaaaaaaaaaaaaaaaaaaaaaaaaaaaaaaaaaaaaaaaaaaaaaaaaaaaaaaaaaaaaaaaaaaaaaaaaaaaaaaaaaaaaaaaaaaaaaaaaaaaaaaaaaaaaaaaaaaaaaaaaaaaaaaaaaaaaaaaaaaaaaaaaaaaaaaaaaaaaaaaaaaaaaaaaaaaaaaaaaaaaaaaaaaaaaaaaaaaaaaaaaaaaaaaaaaaaaaaaaaaaaaaaaaaaaaaaaaaaaaaaaaaaaaaaaaaaaaaaaaaaaaaaaaaaaaaaaaaaaaaaaaaaaaaaaaaaaaaaaaaaaaaaaaaaaaaaaaaaaaaaaaaaaaaaaaaaaaaaaaaaaaaaaaaaaaaaaaaaaaaaaaaaaaaaaaaaaaaaaaaaaaaaaaaaaaaaaaaaaaaaaaaaaaaaaaaaaaaaaaaaaaaaaaaaaaaaaaaaaaaaaaaaaaaaaaaaaaaaaaaaaaaaaaaaaaaaaaaaaaaaaaaaaaaaaaaaaaaaaaaaaaaaaaaaaaaaaaaaaaaaaaaaaaaaaaaaaaaaaaaaaaaaaaaaaaaaaaaaaaaaaaaaaaaaaaaaaaaaaaaaaaaaaaaaaaaaaaaaaaaaaaaaaaaaaaaaaaaaaaaaaaaaaaaaaaaaaaaaaaaaaaaaaaaaaaaaaaaaaaaaaaaaaaaaaaaaaaaaaaaaaaaaaaaaaaaaaaaaaaaaaaaaaaaaaaaaaaaaaaaaaaaaaaaaaaaaaaaaaaaaaaaaaaaaaaaaaaaaaaaaaaaaaaaaaaaaaaaaaaaaaaaaaaaaaaaaaaaaaaaaaaaaaaaaaaaaaaaaaaaaaaaaaaaaaaaaaaaaaaaaaaaaaaaaaaaaaaaaaaaa]") ≡ None) ×
    -- title « »: no
    (title_answer false (codes " ") ≡ None) ×
    -- title «"\\"»: ResourceTitle 0-4 [ResourceTitleMarker 0-1, ResourceTitleString 1-3 [Data 1-3], ResourceTitleMarker 3-4]
    (title_answer false (codes "\"\\\\\"") ≡ Some (enter Name.ResourceTitle 1 1 0 0 ∷ enter Name.ResourceTitleMarker 1 1 0 0 ∷ exit Name.ResourceTitleMarker 1 2 1 0 ∷ enter Name.ResourceTitleString 1 2 1 0 ∷ chained Name.Data 1 2 1 0 None None ∷ exit Name.Data 1 4 3 0 ∷ exit Name.ResourceTitleString 1 4 3 0 ∷ enter Name.ResourceTitleMarker 1 4 3 0 ∷ exit Name.ResourceTitleMarker 1 5 4 0 ∷ exit Name.ResourceTitle 1 5 4 0 ∷ [])) ×
    -- title «"\""»: ResourceTitle 0-4 [ResourceTitleMarker 0-1, ResourceTitleString 1-3 [Data 1-3], ResourceTitleMarker 3-4]
    (title_answer false (codes "\"\\\"\"") ≡ Some (enter Name.ResourceTitle 1 1 0 0 ∷ enter Name.ResourceTitleMarker 1 1 0 0 ∷ exit Name.ResourceTitleMarker 1 2 1 0 ∷ enter Name.ResourceTitleString 1 2 1 0 ∷ chained Name.Data 1 2 1 0 None None ∷ exit Name.Data 1 4 3 0 ∷ exit Name.ResourceTitleString 1 4 3 0 ∷ enter Name.ResourceTitleMarker 1 4 3 0 ∷ exit Name.ResourceTitleMarker 1 5 4 0 ∷ exit Name.ResourceTitle 1 5 4 0 ∷ [])) ×
    -- title «"\a"»: ResourceTitle 0-4 [ResourceTitleMarker 0-1, ResourceTitleString 1-3 [Data 1-3], ResourceTitleMarker 3-4]
    (title_answer false (codes "\"\\a\"") ≡ Some (enter Name.ResourceTitle 1 1 0 0 ∷ enter Name.ResourceTitleMarker 1 1 0 0 ∷ exit Name.ResourceTitleMarker 1 2 1 0 ∷ enter Name.ResourceTitleString 1 2 1 0 ∷ chained Name.Data 1 2 1 0 None None ∷ exit Name.Data 1 4 3 0 ∷ exit Name.ResourceTitleString 1 4 3 0 ∷ enter Name.ResourceTitleMarker 1 4 3 0 ∷ exit Name.ResourceTitleMarker 1 5 4 0 ∷ exit Name.ResourceTitle 1 5 4 0 ∷ [])) ×
    -- title «'a'»: ResourceTitle 0-3 [ResourceTitleMarker 0-1, ResourceTitleString 1-2 [Data 1-2], ResourceTitleMarker 2-3]
    (title_answer false (codes "'a'") ≡ Some (enter Name.ResourceTitle 1 1 0 0 ∷ enter Name.ResourceTitleMarker 1 1 0 0 ∷ exit Name.ResourceTitleMarker 1 2 1 0 ∷ enter Name.ResourceTitleString 1 2 1 0 ∷ chained Name.Data 1 2 1 0 None None ∷ exit Name.Data 1 3 2 0 ∷ exit Name.ResourceTitleString 1 3 2 0 ∷ enter Name.ResourceTitleMarker 1 3 2 0 ∷ exit Name.ResourceTitleMarker 1 4 3 0 ∷ exit Name.ResourceTitle 1 4 3 0 ∷ [])) ×
    -- title «"'"»: ResourceTitle 0-3 [ResourceTitleMarker 0-1, ResourceTitleString 1-2 [Data 1-2], ResourceTitleMarker 2-3]
    (title_answer false (codes "\"'\"") ≡ Some (enter Name.ResourceTitle 1 1 0 0 ∷ enter Name.ResourceTitleMarker 1 1 0 0 ∷ exit Name.ResourceTitleMarker 1 2 1 0 ∷ enter Name.ResourceTitleString 1 2 1 0 ∷ chained Name.Data 1 2 1 0 None None ∷ exit Name.Data 1 3 2 0 ∷ exit Name.ResourceTitleString 1 3 2 0 ∷ enter Name.ResourceTitleMarker 1 3 2 0 ∷ exit Name.ResourceTitleMarker 1 4 3 0 ∷ exit Name.ResourceTitle 1 4 3 0 ∷ [])) ×
    -- title «'"'»: ResourceTitle 0-3 [ResourceTitleMarker 0-1, ResourceTitleString 1-2 [Data 1-2], ResourceTitleMarker 2-3]
    (title_answer false (codes "'\"'") ≡ Some (enter Name.ResourceTitle 1 1 0 0 ∷ enter Name.ResourceTitleMarker 1 1 0 0 ∷ exit Name.ResourceTitleMarker 1 2 1 0 ∷ enter Name.ResourceTitleString 1 2 1 0 ∷ chained Name.Data 1 2 1 0 None None ∷ exit Name.Data 1 3 2 0 ∷ exit Name.ResourceTitleString 1 3 2 0 ∷ enter Name.ResourceTitleMarker 1 3 2 0 ∷ exit Name.ResourceTitleMarker 1 4 3 0 ∷ exit Name.ResourceTitle 1 4 3 0 ∷ [])) ×
    -- title «(\))»: ResourceTitle 0-4 [ResourceTitleMarker 0-1, ResourceTitleString 1-3 [Data 1-3], ResourceTitleMarker 3-4]
    (title_answer false (codes "(\\))") ≡ Some (enter Name.ResourceTitle 1 1 0 0 ∷ enter Name.ResourceTitleMarker 1 1 0 0 ∷ exit Name.ResourceTitleMarker 1 2 1 0 ∷ enter Name.ResourceTitleString 1 2 1 0 ∷ chained Name.Data 1 2 1 0 None None ∷ exit Name.Data 1 4 3 0 ∷ exit Name.ResourceTitleString 1 4 3 0 ∷ enter Name.ResourceTitleMarker 1 4 3 0 ∷ exit Name.ResourceTitleMarker 1 5 4 0 ∷ exit Name.ResourceTitle 1 5 4 0 ∷ [])) ×
    -- title «"␠a"»: ResourceTitle 0-4 [ResourceTitleMarker 0-1, ResourceTitleString 1-3 [Data 1-3], ResourceTitleMarker 3-4]
    (title_answer false (codes "\" a\"") ≡ Some (enter Name.ResourceTitle 1 1 0 0 ∷ enter Name.ResourceTitleMarker 1 1 0 0 ∷ exit Name.ResourceTitleMarker 1 2 1 0 ∷ enter Name.ResourceTitleString 1 2 1 0 ∷ chained Name.Data 1 2 1 0 None None ∷ exit Name.Data 1 4 3 0 ∷ exit Name.ResourceTitleString 1 4 3 0 ∷ enter Name.ResourceTitleMarker 1 4 3 0 ∷ exit Name.ResourceTitleMarker 1 5 4 0 ∷ exit Name.ResourceTitle 1 5 4 0 ∷ [])) ×
    -- title «"a␊"»: ResourceTitle 0-4 [ResourceTitleMarker 0-1, ResourceTitleString 1-3 [Data 1-2, LineEnding 2-3], ResourceTitleMarker 3-4]
    (title_answer false (34 ∷ 97 ∷ 10 ∷ 34 ∷ []) ≡ Some (enter Name.ResourceTitle 1 1 0 0 ∷ enter Name.ResourceTitleMarker 1 1 0 0 ∷ exit Name.ResourceTitleMarker 1 2 1 0 ∷ enter Name.ResourceTitleString 1 2 1 0 ∷ chained Name.Data 1 2 1 0 None (Some 6) ∷ exit Name.Data 1 3 2 0 ∷ chained Name.LineEnding 1 3 2 0 (Some 4) None ∷ exit Name.LineEnding 2 1 3 0 ∷ exit Name.ResourceTitleString 2 1 3 0 ∷ enter Name.ResourceTitleMarker 2 1 3 0 ∷ exit Name.ResourceTitleMarker 2 2 4 0 ∷ exit Name.ResourceTitle 2 2 4 0 ∷ [])) ×
    -- title «"a␊ b␊ c"»: ResourceTitle 0-9 [ResourceTitleMarker 0-1, ResourceTitleString 1-8 [Data 1-2, LineEnding 2-3, SpaceOrTab 3-4, Data 4-5, LineEnding 5-6, SpaceOrTab 6-7, Data 7-8], ResourceTitleMarker 8-9]
    (title_answer false (34 ∷ 97 ∷ 10 ∷ 32 ∷ 98 ∷ 10 ∷ 32 ∷ 99 ∷ 34 ∷ []) ≡ Some (enter Name.ResourceTitle 1 1 0 0 ∷ enter Name.ResourceTitleMarker 1 1 0 0 ∷ exit Name.ResourceTitleMarker 1 2 1 0 ∷ enter Name.ResourceTitleString 1 2 1 0 ∷ chained Name.Data 1 2 1 0 None (Some 6) ∷ exit Name.Data 1 3 2 0 ∷ chained Name.LineEnding 1 3 2 0 (Some 4) (Some 8) ∷ exit Name.LineEnding 2 1 3 0 ∷ chained Name.SpaceOrTab 2 1 3 0 (Some 6) (Some 10) ∷ exit Name.SpaceOrTab 2 2 4 0 ∷ chained Name.Data 2 2 4 0 (Some 8) (Some 12) ∷ exit Name.Data 2 3 5 0 ∷ chained Name.LineEnding 2 3 5 0 (Some 10) (Some 14) ∷ exit Name.LineEnding 3 1 6 0 ∷ chained Name.SpaceOrTab 3 1 6 0 (Some 12) (Some 16) ∷ exit Name.SpaceOrTab 3 2 7 0 ∷ chained Name.Data 3 2 7 0 (Some 14) None ∷ exit Name.Data 3 3 8 0 ∷ exit Name.ResourceTitleString 3 3 8 0 ∷ enter Name.ResourceTitleMarker 3 3 8 0 ∷ exit Name.ResourceTitleMarker 3 4 9 0 ∷ exit Name.ResourceTitle 3 4 9 0 ∷ [])) ×
    -- title «"a␊␊b"»: no
    (title_answer false (34 ∷ 97 ∷ 10 ∷ 10 ∷ 98 ∷ 34 ∷ []) ≡ None) ×
    -- title «a»: no
    (title_answer false (codes "a") ≡ None) ×
    -- destination «<\<>»: ResourceDestination 0-4 [ResourceDestinationLiteral 0-4 [ResourceDestinationLiteralMarker 0-1, ResourceDestinationString 1-3 [Data 1-3], ResourceDestinationLiteralMarker 3-4]]
    (destination_answer (codes "<\\<>") ≡ Some (enter Name.ResourceDestination 1 1 0 0 ∷ enter Name.ResourceDestinationLiteral 1 1 0 0 ∷ enter Name.ResourceDestinationLiteralMarker 1 1 0 0 ∷ exit Name.ResourceDestinationLiteralMarker 1 2 1 0 ∷ enter Name.ResourceDestinationString 1 2 1 0 ∷ chained Name.Data 1 2 1 0 None None ∷ exit Name.Data 1 4 3 0 ∷ exit Name.ResourceDestinationString 1 4 3 0 ∷ enter Name.ResourceDestinationLiteralMarker 1 4 3 0 ∷ exit Name.ResourceDestinationLiteralMarker 1 5 4 0 ∷ exit Name.ResourceDestinationLiteral 1 5 4 0 ∷ exit Name.ResourceDestination 1 5 4 0 ∷ [])) ×
    -- destination «<\>>»: ResourceDestination 0-4 [ResourceDestinationLiteral 0-4 [ResourceDestinationLiteralMarker 0-1, ResourceDestinationString 1-3 [Data 1-3], ResourceDestinationLiteralMarker 3-4]]
    (destination_answer (codes "<\\>>") ≡ Some (enter Name.ResourceDestination 1 1 0 0 ∷ enter Name.ResourceDestinationLiteral 1 1 0 0 ∷ enter Name.ResourceDestinationLiteralMarker 1 1 0 0 ∷ exit Name.ResourceDestinationLiteralMarker 1 2 1 0 ∷ enter Name.ResourceDestinationString 1 2 1 0 ∷ chained Name.Data 1 2 1 0 None None ∷ exit Name.Data 1 4 3 0 ∷ exit Name.ResourceDestinationString 1 4 3 0 ∷ enter Name.ResourceDestinationLiteralMarker 1 4 3 0 ∷ exit Name.ResourceDestinationLiteralMarker 1 5 4 0 ∷ exit Name.ResourceDestinationLiteral 1 5 4 0 ∷ exit Name.ResourceDestination 1 5 4 0 ∷ [])) ×
    -- destination «<\\>»: ResourceDestination 0-4 [ResourceDestinationLiteral 0-4 [ResourceDestinationLiteralMarker 0-1, ResourceDestinationString 1-3 [Data 1-3], ResourceDestinationLiteralMarker 3-4]]
    (destination_answer (codes "<\\\\>") ≡ Some (enter Name.ResourceDestination 1 1 0 0 ∷ enter Name.ResourceDestinationLiteral 1 1 0 0 ∷ enter Name.ResourceDestinationLiteralMarker 1 1 0 0 ∷ exit Name.ResourceDestinationLiteralMarker 1 2 1 0 ∷ enter Name.ResourceDestinationString 1 2 1 0 ∷ chained Name.Data 1 2 1 0 None None ∷ exit Name.Data 1 4 3 0 ∷ exit Name.ResourceDestinationString 1 4 3 0 ∷ enter Name.ResourceDestinationLiteralMarker 1 4 3 0 ∷ exit Name.ResourceDestinationLiteralMarker 1 5 4 0 ∷ exit Name.ResourceDestinationLiteral 1 5 4 0 ∷ exit Name.ResourceDestination 1 5 4 0 ∷ [])) ×
    -- destination «<a b>»: ResourceDestination 0-5 [ResourceDestinationLiteral 0-5 [ResourceDestinationLiteralMarker 0-1, ResourceDestinationString 1-4 [Data 1-4], ResourceDestinationLiteralMarker 4-5]]
    (destination_answer (codes "<a b>") ≡ Some (enter Name.ResourceDestination 1 1 0 0 ∷ enter Name.ResourceDestinationLiteral 1 1 0 0 ∷ enter Name.ResourceDestinationLiteralMarker 1 1 0 0 ∷ exit Name.ResourceDestinationLiteralMarker 1 2 1 0 ∷ enter Name.ResourceDestinationString 1 2 1 0 ∷ chained Name.Data 1 2 1 0 None None ∷ exit Name.Data 1 5 4 0 ∷ exit Name.ResourceDestinationString 1 5 4 0 ∷ enter Name.ResourceDestinationLiteralMarker 1 5 4 0 ∷ exit Name.ResourceDestinationLiteralMarker 1 6 5 0 ∷ exit Name.ResourceDestinationLiteral 1 6 5 0 ∷ exit Name.ResourceDestination 1 6 5 0 ∷ [])) ×
    -- destination «<a<>»: no
    (destination_answer (codes "<a<>") ≡ None) ×
    -- destination «<a␊>»: no
    (destination_answer (60 ∷ 97 ∷ 10 ∷ 62 ∷ []) ≡ None) ×
    -- destination «<\␊>»: no
    (destination_answer (60 ∷ 92 ∷ 10 ∷ 62 ∷ []) ≡ None) ×
    -- destination «a\(b»: Raw 0-4
    (destination_answer (codes "a\\(b") ≡ Some (enter Name.ResourceDestination 1 1 0 0 ∷ enter Name.ResourceDestinationRaw 1 1 0 0 ∷ enter Name.ResourceDestinationString 1 1 0 0 ∷ chained Name.Data 1 1 0 0 None None ∷ exit Name.Data 1 5 4 0 ∷ exit Name.ResourceDestinationString 1 5 4 0 ∷ exit Name.ResourceDestinationRaw 1 5 4 0 ∷ exit Name.ResourceDestination 1 5 4 0 ∷ [])) ×
    -- destination «a\\(b»: no
    (destination_answer (codes "a\\\\(b") ≡ None) ×
    -- destination «a\\)»: Raw 0-3
    (destination_answer (codes "a\\\\)") ≡ Some (enter Name.ResourceDestination 1 1 0 0 ∷ enter Name.ResourceDestinationRaw 1 1 0 0 ∷ enter Name.ResourceDestinationString 1 1 0 0 ∷ chained Name.Data 1 1 0 0 None None ∷ exit Name.Data 1 4 3 0 ∷ exit Name.ResourceDestinationString 1 4 3 0 ∷ exit Name.ResourceDestinationRaw 1 4 3 0 ∷ exit Name.ResourceDestination 1 4 3 0 ∷ [])) ×
    -- destination «a\b(c)»: Raw 0-6
    (destination_answer (codes "a\\b(c)") ≡ Some (enter Name.ResourceDestination 1 1 0 0 ∷ enter Name.ResourceDestinationRaw 1 1 0 0 ∷ enter Name.ResourceDestinationString 1 1 0 0 ∷ chained Name.Data 1 1 0 0 None None ∷ exit Name.Data 1 7 6 0 ∷ exit Name.ResourceDestinationString 1 7 6 0 ∷ exit Name.ResourceDestinationRaw 1 7 6 0 ∷ exit Name.ResourceDestination 1 7 6 0 ∷ [])) ×
    -- destination «a(b c»: no
    (destination_answer (codes "a(b c") ≡ None) ×
    -- destination «a␊b»: Raw 0-1
    (destination_answer (97 ∷ 10 ∷ 98 ∷ []) ≡ Some (enter Name.ResourceDestination 1 1 0 0 ∷ enter Name.ResourceDestinationRaw 1 1 0 0 ∷ enter Name.ResourceDestinationString 1 1 0 0 ∷ chained Name.Data 1 1 0 0 None None ∷ exit Name.Data 1 2 1 0 ∷ exit Name.ResourceDestinationString 1 2 1 0 ∷ exit Name.ResourceDestinationRaw 1 2 1 0 ∷ exit Name.ResourceDestination 1 2 1 0 ∷ [])) ×
    -- destination «a␉b»: Raw 0-1
    (destination_answer (97 ∷ 9 ∷ 98 ∷ []) ≡ Some (enter Name.ResourceDestination 1 1 0 0 ∷ enter Name.ResourceDestinationRaw 1 1 0 0 ∷ enter Name.ResourceDestinationString 1 1 0 0 ∷ chained Name.Data 1 1 0 0 None None ∷ exit Name.Data 1 2 1 0 ∷ exit Name.ResourceDestinationString 1 2 1 0 ∷ exit Name.ResourceDestinationRaw 1 2 1 0 ∷ exit Name.ResourceDestination 1 2 1 0 ∷ [])) ×
    -- destination «a((b)c)d)»: Raw 0-8
    (destination_answer (codes "a((b)c)d)") ≡ Some (enter Name.ResourceDestination 1 1 0 0 ∷ enter Name.ResourceDestinationRaw 1 1 0 0 ∷ enter Name.ResourceDestinationString 1 1 0 0 ∷ chained Name.Data 1 1 0 0 None None ∷ exit Name.Data 1 9 8 0 ∷ exit Name.ResourceDestinationString 1 9 8 0 ∷ exit Name.ResourceDestinationRaw 1 9 8 0 ∷ exit Name.ResourceDestination 1 9 8 0 ∷ [])) ×
    -- destination «a⟦U+0001⟧»: no
    (destination_answer (97 ∷ 1 ∷ []) ≡ None) ×
    -- destination «a⟦U+001F⟧»: no
    (destination_answer (97 ∷ 31 ∷ []) ≡ None) ×
    -- destination «a⟦U+007F⟧»: no
    (destination_answer (97 ∷ 127 ∷ []) ≡ None) ×
    -- destination «⟦U+0080⟧»: Raw 0-2
    (destination_answer (194 ∷ 128 ∷ []) ≡ Some (enter Name.ResourceDestination 1 1 0 0 ∷ enter Name.ResourceDestinationRaw 1 1 0 0 ∷ enter Name.ResourceDestinationString 1 1 0 0 ∷ chained Name.Data 1 1 0 0 None None ∷ exit Name.Data 1 3 2 0 ∷ exit Name.ResourceDestinationString 1 3 2 0 ∷ exit Name.ResourceDestinationRaw 1 3 2 0 ∷ exit Name.ResourceDestination 1 3 2 0 ∷ [])) ×
    -- spacing «␠␊␊b»: no
    (spacing_answer None (32 ∷ 10 ∷ 10 ∷ 98 ∷ []) ≡ None) ×
    -- spacing «␊»: no
    (spacing_answer None (10 ∷ []) ≡ None) ×
    -- spacing «␠»: SpaceOrTab 0-1
    (spacing_answer None (codes " ") ≡ Some (enter Name.SpaceOrTab 1 1 0 0 ∷ exit Name.SpaceOrTab 1 2 1 0 ∷ [])) ×
    -- spacing «␠␉a»: SpaceOrTab 0-2
    (spacing_answer None (32 ∷ 9 ∷ 97 ∷ []) ≡ Some (enter Name.SpaceOrTab 1 1 0 0 ∷ exit Name.SpaceOrTab 1 5 2 0 ∷ [])) ×
    -- spacing «␊b»: LineEnding 0-1
    (spacing_answer None (10 ∷ 98 ∷ []) ≡ Some (enter Name.LineEnding 1 1 0 0 ∷ exit Name.LineEnding 2 1 1 0 ∷ [])) ×
    -- spacing «␊␠»: no
    (spacing_answer None (10 ∷ 32 ∷ []) ≡ None) ×
    -- spacing linked «␠␊ b»: SpaceOrTab 0-1, LineEnding 1-2, SpaceOrTab 2-3
    (spacing_answer (Some Content.String) (32 ∷ 10 ∷ 32 ∷ 98 ∷ []) ≡ Some (chained Name.SpaceOrTab 1 1 0 0 None (Some 2) ∷ exit Name.SpaceOrTab 1 2 1 0 ∷ chained Name.LineEnding 1 2 1 0 (Some 0) (Some 4) ∷ exit Name.LineEnding 2 1 2 0 ∷ chained Name.SpaceOrTab 2 1 2 0 (Some 2) None ∷ exit Name.SpaceOrTab 2 2 3 0 ∷ [])) ×
    -- spacing linked «␠b»: SpaceOrTab 0-1
    (spacing_answer (Some Content.String) (codes " b") ≡ Some (chained Name.SpaceOrTab 1 1 0 0 None None ∷ exit Name.SpaceOrTab 1 2 1 0 ∷ [])) ×
    -- bounded min=3 «␠␠␠a»: SpaceOrTab 0-3
    (bounded_answer None 3 18446744073709551615 (codes "   a") ≡ Some (enter Name.SpaceOrTab 1 1 0 0 ∷ exit Name.SpaceOrTab 1 4 3 0 ∷ [])) ×
    -- bounded max=2 «␉a»: SpaceOrTab 0-0.2
    (bounded_answer None 0 2 (9 ∷ 97 ∷ []) ≡ Some (enter Name.SpaceOrTab 1 1 0 0 ∷ exit Name.SpaceOrTab 1 3 0 2 ∷ [])) ×
    -- bounded linked «␠»: SpaceOrTab 0-1
    (bounded_answer (Some Content.String) 0 18446744073709551615 (codes " ") ≡ Some (chained Name.SpaceOrTab 1 1 0 0 None None ∷ exit Name.SpaceOrTab 1 2 1 0 ∷ [])) ×
    -- data upto=& «a&b»: Data 0-1
    (data_answer (codes "&") (codes "a&b") ≡ Some (enter Name.Data 1 1 0 0 ∷ exit Name.Data 1 2 1 0 ∷ [])) ×
    -- data upto=& «&a»: Data 0-2
    (data_answer (codes "&") (codes "&a") ≡ Some (enter Name.Data 1 1 0 0 ∷ exit Name.Data 1 3 2 0 ∷ [])) ×
    -- data upto=b «a␊ab»: Data 0-1, LineEnding 1-2, Data 2-3
    (data_answer (codes "b") (97 ∷ 10 ∷ 97 ∷ 98 ∷ []) ≡ Some (enter Name.Data 1 1 0 0 ∷ exit Name.Data 1 2 1 0 ∷ enter Name.LineEnding 1 2 1 0 ∷ exit Name.LineEnding 2 1 2 0 ∷ enter Name.Data 2 1 2 0 ∷ exit Name.Data 2 2 3 0 ∷ [])) ×
    -- data upto=␊ «a␊b»: Data 0-1
    (data_answer (10 ∷ []) (97 ∷ 10 ∷ 98 ∷ []) ≡ Some (enter Name.Data 1 1 0 0 ∷ exit Name.Data 1 2 1 0 ∷ [])) ×
    -- data upto=& «␊a»: LineEnding 0-1, Data 1-2
    (data_answer (codes "&") (10 ∷ 97 ∷ []) ≡ Some (enter Name.LineEnding 1 1 0 0 ∷ exit Name.LineEnding 2 1 1 0 ∷ enter Name.Data 2 1 1 0 ∷ exit Name.Data 2 2 2 0 ∷ [])) ×
    -- data upto=& «»:
    (data_answer (codes "&") (codes "") ≡ Some ([])) ×
    -- label «[⟦U+000C⟧]»: Reference 0-3 [ReferenceMarker 0-1, ReferenceString 1-2 [Data 1-2], ReferenceMarker 2-3]
    (label_answer false (91 ∷ 12 ∷ 93 ∷ []) ≡ Some (enter Name.Reference 1 1 0 0 ∷ enter Name.ReferenceMarker 1 1 0 0 ∷ exit Name.ReferenceMarker 1 2 1 0 ∷ enter Name.ReferenceString 1 2 1 0 ∷ chained Name.Data 1 2 1 0 None None ∷ exit Name.Data 1 3 2 0 ∷ exit Name.ReferenceString 1 3 2 0 ∷ enter Name.ReferenceMarker 1 3 2 0 ∷ exit Name.ReferenceMarker 1 4 3 0 ∷ exit Name.Reference 1 4 3 0 ∷ [])) ×
    -- title commonmark «(a(b)»: no
    (title_answer true (codes "(a(b)") ≡ None) ×
    -- title commonmark «(a\(b)»: ResourceTitle 0-6 [ResourceTitleMarker 0-1, ResourceTitleString 1-5 [Data 1-5], ResourceTitleMarker 5-6]
    (title_answer true (codes "(a\\(b)") ≡ Some (enter Name.ResourceTitle 1 1 0 0 ∷ enter Name.ResourceTitleMarker 1 1 0 0 ∷ exit Name.ResourceTitleMarker 1 2 1 0 ∷ enter Name.ResourceTitleString 1 2 1 0 ∷ chained Name.Data 1 2 1 0 None None ∷ exit Name.Data 1 6 5 0 ∷ exit Name.ResourceTitleString 1 6 5 0 ∷ enter Name.ResourceTitleMarker 1 6 5 0 ∷ exit Name.ResourceTitleMarker 1 7 6 0 ∷ exit Name.ResourceTitle 1 7 6 0 ∷ [])) ×
    -- title commonmark «(a\\(b)»: no
    (title_answer true (codes "(a\\\\(b)") ≡ None) ×
    -- title «(a\\(b)»: ResourceTitle 0-7 [ResourceTitleMarker 0-1, ResourceTitleString 1-6 [Data 1-6], ResourceTitleMarker 6-7]
    (title_answer false (codes "(a\\\\(b)") ≡ Some (enter Name.ResourceTitle 1 1 0 0 ∷ enter Name.ResourceTitleMarker 1 1 0 0 ∷ exit Name.ResourceTitleMarker 1 2 1 0 ∷ enter Name.ResourceTitleString 1 2 1 0 ∷ chained Name.Data 1 2 1 0 None None ∷ exit Name.Data 1 7 6 0 ∷ exit Name.ResourceTitleString 1 7 6 0 ∷ enter Name.ResourceTitleMarker 1 7 6 0 ∷ exit Name.ResourceTitleMarker 1 8 7 0 ∷ exit Name.ResourceTitle 1 8 7 0 ∷ [])) ×
    -- title commonmark «(()»: no
    (title_answer true (codes "(()") ≡ None) ×
    -- title commonmark «(a)»: ResourceTitle 0-3 [ResourceTitleMarker 0-1, ResourceTitleString 1-2 [Data 1-2], ResourceTitleMarker 2-3]
    (title_answer true (codes "(a)") ≡ Some (enter Name.ResourceTitle 1 1 0 0 ∷ enter Name.ResourceTitleMarker 1 1 0 0 ∷ exit Name.ResourceTitleMarker 1 2 1 0 ∷ enter Name.ResourceTitleString 1 2 1 0 ∷ chained Name.Data 1 2 1 0 None None ∷ exit Name.Data 1 3 2 0 ∷ exit Name.ResourceTitleString 1 3 2 0 ∷ enter Name.ResourceTitleMarker 1 3 2 0 ∷ exit Name.ResourceTitleMarker 1 4 3 0 ∷ exit Name.ResourceTitle 1 4 3 0 ∷ [])) ×
    -- title commonmark «(a\))»: ResourceTitle 0-5 [ResourceTitleMarker 0-1, ResourceTitleString 1-4 [Data 1-4], ResourceTitleMarker 4-5]
    (title_answer true (codes "(a\\))") ≡ Some (enter Name.ResourceTitle 1 1 0 0 ∷ enter Name.ResourceTitleMarker 1 1 0 0 ∷ exit Name.ResourceTitleMarker 1 2 1 0 ∷ enter Name.ResourceTitleString 1 2 1 0 ∷ chained Name.Data 1 2 1 0 None None ∷ exit Name.Data 1 5 4 0 ∷ exit Name.ResourceTitleString 1 5 4 0 ∷ enter Name.ResourceTitleMarker 1 5 4 0 ∷ exit Name.ResourceTitleMarker 1 6 5 0 ∷ exit Name.ResourceTitle 1 6 5 0 ∷ [])) ×
    -- title commonmark «"a(b"»: ResourceTitle 0-5 [ResourceTitleMarker 0-1, ResourceTitleString 1-4 [Data 1-4], ResourceTitleMarker 4-5]
    (title_answer true (codes "\"a(b\"") ≡ Some (enter Name.ResourceTitle 1 1 0 0 ∷ enter Name.ResourceTitleMarker 1 1 0 0 ∷ exit Name.ResourceTitleMarker 1 2 1 0 ∷ enter Name.ResourceTitleString 1 2 1 0 ∷ chained Name.Data 1 2 1 0 None None ∷ exit Name.Data 1 5 4 0 ∷ exit Name.ResourceTitleString 1 5 4 0 ∷ enter Name.ResourceTitleMarker 1 5 4 0 ∷ exit Name.ResourceTitleMarker 1 6 5 0 ∷ exit Name.ResourceTitle 1 6 5 0 ∷ [])) ×
    -- title commonmark «'('»: ResourceTitle 0-3 [ResourceTitleMarker 0-1, ResourceTitleString 1-2 [Data 1-2], ResourceTitleMarker 2-3]
    (title_answer true (codes "'('") ≡ Some (enter Name.ResourceTitle 1 1 0 0 ∷ enter Name.ResourceTitleMarker 1 1 0 0 ∷ exit Name.ResourceTitleMarker 1 2 1 0 ∷ enter Name.ResourceTitleString 1 2 1 0 ∷ chained Name.Data 1 2 1 0 None None ∷ exit Name.Data 1 3 2 0 ∷ exit Name.ResourceTitleString 1 3 2 0 ∷ enter Name.ResourceTitleMarker 1 3 2 0 ∷ exit Name.ResourceTitleMarker 1 4 3 0 ∷ exit Name.ResourceTitle 1 4 3 0 ∷ [])) ×
    -- label commonmark «[⟦a×999⟧]»: Reference 0-1001 [ReferenceMarker 0-1, ReferenceString 1-1000 [Data 1-1000], ReferenceMarker 1000-1001]
    (label_answer true (codes "[aaaaaaaaaaaaaaaaaaaaaaaaaaaaaaaaaaaaaaaaaaaaaaaaaaaaaaaaaaaaaaaaaaaaaaaaaaaaaaaaaaaaaaaaaaaaaaaaaaaaaaaaaaaaaaaaaaaaaaaaaaaaaaaaaaaaaaaaaaaaaaaaaaaaaaaaaaaaaaaaaaaaaaaaaaaaaaaaaaaaaaaaaaaaaaaaaaaaaaaaaaaaaaaaaaaaaaaaaaaaaaaaaaaaaaaaaaaaaaaaaaaaaaaaaaaaaaaaaaaaaaaaaaaaaaaaaaaaaaaaaaaaaaaaaaaaaaaaaaaaaaaaaaaaaaaaaaaaaaaaaaaaaaaaaaaaaaaaaaaaaaaaaaaaaaaaaaaaaaaaaaaaaaaaaaaaaaaaaaaaaaaaaaaaaaaaaaaaaaaaaaaaaaaaaaaaaaaaaaaaaaaaaaaaaaaaaaaaaaaaaaaaaaaaaaaaaaaaaaaaaaaaaaaaaaaaaaaaaaaaaaaaaaaaaaaaaaaaaaaaaaaaaaaaaaaaaaaaaaaaaaaaaaaaaaaaaaaaaaaaaaaaaaaaaaaaaaaaaaaaaaaaaaaaaaaaaaaaaaaaaaaaaaaaaaaaaaaaaaaaaaaaaaaaaaaaaaaaaaaaaaaaaaaaaaaaaaaaaaaaaaaaaaaaaaaaaaaaaaaaaaaaaaaaaaaaaaaaaaaaaaaaaaaaaaaaaaaaaaaaaaaaaaaaaaaaaaaaaaaaaaaaaaaaaaaaaaaaaaaaaaaaaaaaaaaaaaaaaaaaaaaaaaaaaaaaaaaaaaaaaaaaaaaaaaaaaaaaaaaaaaaaaaaaaaaaaaaaaaaaaaaaaaaaaaaaaaaaaaaaaaaaaaaaaaaaaaaaaaaaaaaaaaaaaaaaaaaaaaaaaaaaaaaaaaaaaaaaaaaaaaaaaaaaaaaaaaaaaaaaaaaaaaaaaaaaaaaaaaaaaaaaaaaaaaaaaaaaaaaaaaaaaaaaaaaaaaaaaaaaaaaaaaaaaaaaaaaaaaa]") ≡ Some (enter Name.Reference 1 1 0 0 ∷ enter Name.ReferenceMarker 1 1 0 0 ∷ exit Name.ReferenceMarker 1 2 1 0 ∷ enter Name.ReferenceString 1 2 1 0 ∷ chained Name.Data 1 2 1 0 None None ∷ exit Name.Data 1 1001 1000 0 ∷ exit Name.ReferenceString 1 1001 1000 0 ∷ enter Name.ReferenceMarker 1 1001 1000 0 ∷ exit Name.ReferenceMarker 1 1002 1001 0 ∷ exit Name.Reference 1 1002 1001 0 ∷ [])) ×
    -- label commonmark «[⟦a×1000⟧]»: no
    (label_answer true (codes "[aaaaaaaaaaaaaaaaaaaaaaaaaaaaaaaaaaaaaaaaaaaaaaaaaaaaaaaaaaaaaaaaaaaaaaaaaaaaaaaaaaaaaaaaaaaaaaaaaaaaaaaaaaaaaaaaaaaaaaaaaaaaaaaaaaaaaaaaaaaaaaaaaaaaaaaaaaaaaaaaaaaaaaaaaaaaaaaaaaaaaaaaaaaaaaaaaaaaaaaaaaaaaaaaaaaaaaaaaaaaaaaaaaaaaaaaaaaaaaaaaaaaaaaaaaaaaaaaaaaaaaaaaaaaaaaaaaaaaaaaaaaaaaaaaaaaaaaaaaaaaaaaaaaaaaaaaaaaaaaaaaaaaaaaaaaaaaaaaaaaaaaaaaaaaaaaaaaaaaaaaaaaaaaaaaaaaaaaaaaaaaaaaaaaaaaaaaaaaaaaaaaaaaaaaaaaaaaaaaaaaaaaaaaaaaaaaaaaaaaaaaaaaaaaaaaaaaaaaaaaaaaaaaaaaaaaaaaaaaaaaaaaaaaaaaaaaaaaaaaaaaaaaaaaaaaaaaaaaaaaaaaaaaaaaaaaaaaaaaaaaaaaaaaaaaaaaaaaaaaaaaaaaaaaaaaaaaaaaaaaaaaaaaaaaaaaaaaaaaaaaaaaaaaaaaaaaaaaaaaaaaaaaaaaaaaaaaaaaaaaaaaaaaaaaaaaaaaaaaaaaaaaaaaaaaaaaaaaaaaaaaaaaaaaaaaaaaaaaaaaaaaaaaaaaaaaaaaaaaaaaaaaaaaaaaaaaaaaaaaaaaaaaaaaaaaaaaaaaaaaaaaaaaaaaaaaaaaaaaaaaaaaaaaaaaaaaaaaaaaaaaaaaaaaaaaaaaaaaaaaaaaaaaaaaaaaaaaaaaaaaaaaaaaaaaaaaaaaaaaaaaaaaaaaaaaaaaaaaaaaaaaaaaaaaaaaaaaaaaaaaaaaaaaaaaaaaaaaaaaaaaaaaaaaaaaaaaaaaaaaaaaaaaaaaaaaaaaaaaaaaaaaaaaaaaaaaaaaaaaaaaaaaaaaaaaaaaaaaaaa]") ≡ None) ×
    -- label commonmark «[⟦é×999⟧]»: Reference 0-2000 [ReferenceMarker 0-1, ReferenceString 1-1999 [Data 1-1999], ReferenceMarker 1999-2000]
    (label_answer true (91 ∷ 195 ∷ 169 ∷ 195 ∷ 169 ∷ 195 ∷ 169 ∷ 195 ∷ 169 ∷ 195 ∷ 169 ∷ 195 ∷ 169 ∷ 195 ∷ 169 ∷ 195 ∷ 169 ∷ 195 ∷ 169 ∷ 195 ∷ 169 ∷ 195 ∷ 169 ∷ 195 ∷ 169 ∷ 195 ∷ 169 ∷ 195 ∷ 169 ∷ 195 ∷ 169 ∷ 195 ∷ 169 ∷ 195 ∷ 169 ∷ 195 ∷ 169 ∷ 195 ∷ 169 ∷ 195 ∷ 169 ∷ 195 ∷ 169 ∷ 195 ∷ 169 ∷ 195 ∷ 169 ∷ 195 ∷ 169 ∷ 195 ∷ 169 ∷ 195 ∷ 169 ∷ 195 ∷ 169 ∷ 195 ∷ 169 ∷ 195 ∷ 169 ∷ 195 ∷ 169 ∷ 195 ∷ 169 ∷ 195 ∷ 169 ∷ 195 ∷ 169 ∷ 195 ∷ 169 ∷ 195 ∷ 169 ∷ 195 ∷ 169 ∷ 195 ∷ 169 ∷ 195 ∷ 169 ∷ 195 ∷ 169 ∷ 195 ∷ 169 ∷ 195 ∷ 169 ∷ 195 ∷ 169 ∷ 195 ∷ 169 ∷ 195 ∷ 169 ∷ 195 ∷ 169 ∷ 195 ∷ 169 ∷ 195 ∷ 169 ∷ 195 ∷ 169 ∷ 195 ∷ 169 ∷ 195 ∷ 169 ∷ 195 ∷ 169 ∷ 195 ∷ 169 ∷ 195 ∷ 169 ∷ 195 ∷ 169 ∷ 195 ∷ 169 ∷ 195 ∷ 169 ∷ 195 ∷ 169 ∷ 195 ∷ 169 ∷ 195 ∷ 169 ∷ 195 ∷ 169 ∷ 195 ∷ 169 ∷ 195 ∷ 169 ∷ 195 ∷ 169 ∷ 195 ∷ 169 ∷ 195 ∷ 169 ∷ 195 ∷ 169 ∷ 195 ∷ 169 ∷ 195 ∷ 169 ∷ 195 ∷ 169 ∷ 195 ∷ 169 ∷ 195 ∷ 169 ∷ 195 ∷ 169 ∷ 195 ∷ 169 ∷ 195 ∷ 169 ∷ 195 ∷ 169 ∷ 195 ∷ 169 ∷ 195 ∷ 169 ∷ 195 ∷ 169 ∷ 195 ∷ 169 ∷ 195 ∷ 169 ∷ 195 ∷ 169 ∷ 195 ∷ 169 ∷ 195 ∷ 169 ∷ 195 ∷ 169 ∷ 195 ∷ 169 ∷ 195 ∷ 169 ∷ 195 ∷ 169 ∷ 195 ∷ 169 ∷ 195 ∷ 169 ∷ 195 ∷ 169 ∷ 195 ∷ 169 ∷ 195 ∷ 169 ∷ 195 ∷ 169 ∷ 195 ∷ 169 ∷ 195 ∷ 169 ∷ 195 ∷ 169 ∷ 195 ∷ 169 ∷ 195 ∷ 169 ∷ 195 ∷ 169 ∷ 195 ∷ 169 ∷ 195 ∷ 169 ∷ 195 ∷ 169 ∷ 195 ∷ 169 ∷ 195 ∷ 169 ∷ 195 ∷ 169 ∷ 195 ∷ 169 ∷ 195 ∷ 169 ∷ 195 ∷ 169 ∷ 195 ∷ 169 ∷ 195 ∷ 169 ∷ 195 ∷ 169 ∷ 195 ∷ 169 ∷ 195 ∷ 169 ∷ 195 ∷ 169 ∷ 195 ∷ 169 ∷ 195 ∷ 169 ∷ 195 ∷ 169 ∷ 195 ∷ 169 ∷ 195 ∷ 169 ∷ 195 ∷ 169 ∷ 195 ∷ 169 ∷ 195 ∷ 169 ∷ 195 ∷ 169 ∷ 195 ∷ 169 ∷ 195 ∷ 169 ∷ 195 ∷ 169 ∷ 195 ∷ 169 ∷ 195 ∷ 169 ∷ 195 ∷ 169 ∷ 195 ∷ 169 ∷ 195 ∷ 169 ∷ 195 ∷ 169 ∷ 195 ∷ 169 ∷ 195 ∷ 169 ∷ 195 ∷ 169 ∷ 195 ∷ 169 ∷ 195 ∷ 169 ∷ 195 ∷ 169 ∷ 195 ∷ 169 ∷ 195 ∷ 169 ∷ 195 ∷ 169 ∷ 195 ∷ 169 ∷ 195 ∷ 169 ∷ 195 ∷ 169 ∷ 195 ∷ 169 ∷ 195 ∷ 169 ∷ 195 ∷ 169 ∷ 195 ∷ 169 ∷ 195 ∷ 169 ∷ 195 ∷ 169 ∷ 195 ∷ 169 ∷ 195 ∷ 169 ∷ 195 ∷ 169 ∷ 195 ∷ 169 ∷ 195 ∷ 169 ∷ 195 ∷ 169 ∷ 195 ∷ 169 ∷ 195 ∷ 169 ∷ 195 ∷ 169 ∷ 195 ∷ 169 ∷ 195 ∷ 169 ∷ 195 ∷ 169 ∷ 195 ∷ 169 ∷ 195 ∷ 169 ∷ 195 ∷ 169 ∷ 195 ∷ 169 ∷ 195 ∷ 169 ∷ 195 ∷ 169 ∷ 195 ∷ 169 ∷ 195 ∷ 169 ∷ 195 ∷ 169 ∷ 195 ∷ 169 ∷ 195 ∷ 169 ∷ 195 ∷ 169 ∷ 195 ∷ 169 ∷ 195 ∷ 169 ∷ 195 ∷ 169 ∷ 195 ∷ 169 ∷ 195 ∷ 169 ∷ 195 ∷ 169 ∷ 195 ∷ 169 ∷ 195 ∷ 169 ∷ 195 ∷ 169 ∷ 195 ∷ 169 ∷ 195 ∷ 169 ∷ 195 ∷ 169 ∷ 195 ∷ 169 ∷ 195 ∷ 169 ∷ 195 ∷ 169 ∷ 195 ∷ 169 ∷ 195 ∷ 169 ∷ 195 ∷ 169 ∷ 195 ∷ 169 ∷ 195 ∷ 169 ∷ 195 ∷ 169 ∷ 195 ∷ 169 ∷ 195 ∷ 169 ∷ 195 ∷ 169 ∷ 195 ∷ 169 ∷ 195 ∷ 169 ∷ 195 ∷ 169 ∷ 195 ∷ 169 ∷ 195 ∷ 169 ∷ 195 ∷ 169 ∷ 195 ∷ 169 ∷ 195 ∷ 169 ∷ 195 ∷ 169 ∷ 195 ∷ 169 ∷ 195 ∷ 169 ∷ 195 ∷ 169 ∷ 195 ∷ 169 ∷ 195 ∷ 169 ∷ 195 ∷ 169 ∷ 195 ∷ 169 ∷ 195 ∷ 169 ∷ 195 ∷ 169 ∷ 195 ∷ 169 ∷ 195 ∷ 169 ∷ 195 ∷ 169 ∷ 195 ∷ 169 ∷ 195 ∷ 169 ∷ 195 ∷ 169 ∷ 195 ∷ 169 ∷ 195 ∷ 169 ∷ 195 ∷ 169 ∷ 195 ∷ 169 ∷ 195 ∷ 169 ∷ 195 ∷ 169 ∷ 195 ∷ 169 ∷ 195 ∷ 169 ∷ 195 ∷ 169 ∷ 195 ∷ 169 ∷ 195 ∷ 169 ∷ 195 ∷ 169 ∷ 195 ∷ 169 ∷ 195 ∷ 169 ∷ 195 ∷ 169 ∷ 195 ∷ 169 ∷ 195 ∷ 169 ∷ 195 ∷ 169 ∷ 195 ∷ 169 ∷ 195 ∷ 169 ∷ 195 ∷ 169 ∷ 195 ∷ 169 ∷ 195 ∷ 169 ∷ 195 ∷ 169 ∷ 195 ∷ 169 ∷ 195 ∷ 169 ∷ 195 ∷ 169 ∷ 195 ∷ 169 ∷ 195 ∷ 169 ∷ 195 ∷ 169 ∷ 195 ∷ 169 ∷ 195 ∷ 169 ∷ 195 ∷ 169 ∷ 195 ∷ 169 ∷ 195 ∷ 169 ∷ 195 ∷ 169 ∷ 195 ∷ 169 ∷ 195 ∷ 169 ∷ 195 ∷ 169 ∷ 195 ∷ 169 ∷ 195 ∷ 169 ∷ 195 ∷ 169 ∷ 195 ∷ 169 ∷ 195 ∷ 169 ∷ 195 ∷ 169 ∷ 195 ∷ 169 ∷ 195 ∷ 169 ∷ 195 ∷ 169 ∷ 195 ∷ 169 ∷ 195 ∷ 169 ∷ 195 ∷ 169 ∷ 195 ∷ 169 ∷ 195 ∷ 169 ∷ 195 ∷ 169 ∷ 195 ∷ 169 ∷ 195 ∷ 169 ∷ 195 ∷ 169 ∷ 195 ∷ 169 ∷ 195 ∷ 169 ∷ 195 ∷ 169 ∷ 195 ∷ 169 ∷ 195 ∷ 169 ∷ 195 ∷ 169 ∷ 195 ∷ 169 ∷ 195 ∷ 169 ∷ 195 ∷ 169 ∷ 195 ∷ 169 ∷ 195 ∷ 169 ∷ 195 ∷ 169 ∷ 195 ∷ 169 ∷ 195 ∷ 169 ∷ 195 ∷ 169 ∷ 195 ∷ 169 ∷ 195 ∷ 169 ∷ 195 ∷ 169 ∷ 195 ∷ 169 ∷ 195 ∷ 169 ∷ 195 ∷ 169 ∷ 195 ∷ 169 ∷ 195 ∷ 169 ∷ 195 ∷ 169 ∷ 195 ∷ 169 ∷ 195 ∷ 169 ∷ 195 ∷ 169 ∷ 195 ∷ 169 ∷ 195 ∷ 169 ∷ 195 ∷ 169 ∷ 195 ∷ 169 ∷ 195 ∷ 169 ∷ 195 ∷ 169 ∷ 195 ∷ 169 ∷ 195 ∷ 169 ∷ 195 ∷ 169 ∷ 195 ∷ 169 ∷ 195 ∷ 169 ∷ 195 ∷ 169 ∷ 195 ∷ 169 ∷ 195 ∷ 169 ∷ 195 ∷ 169 ∷ 195 ∷ 169 ∷ 195 ∷ 169 ∷ 195 ∷ 169 ∷ 195 ∷ 169 ∷ 195 ∷ 169 ∷ 195 ∷ 169 ∷ 195 ∷ 169 ∷ 195 ∷ 169 ∷ 195 ∷ 169 ∷ 195 ∷ 169 ∷ 195 ∷ 169 ∷ 195 ∷ 169 ∷ 195 ∷ 169 ∷ 195 ∷ 169 ∷ 195 ∷ 169 ∷ 195 ∷ 169 ∷ 195 ∷ 169 ∷ 195 ∷ 169 ∷ 195 ∷ 169 ∷ 195 ∷ 169 ∷ 195 ∷ 169 ∷ 195 ∷ 169 ∷ 195 ∷ 169 ∷ 195 ∷ 169 ∷ 195 ∷ 169 ∷ 195 ∷ 169 ∷ 195 ∷ 169 ∷ 195 ∷ 169 ∷ 195 ∷ 169 ∷ 195 ∷ 169 ∷ 195 ∷ 169 ∷ 195 ∷ 169 ∷ 195 ∷ 169 ∷ 195 ∷ 169 ∷ 195 ∷ 169 ∷ 195 ∷ 169 ∷ 195 ∷ 169 ∷ 195 ∷ 169 ∷ 195 ∷ 169 ∷ 195 ∷ 169 ∷ 195 ∷ 169 ∷ 195 ∷ 169 ∷ 195 ∷ 169 ∷ 195 ∷ 169 ∷ 195 ∷ 169 ∷ 195 ∷ 169 ∷ 195 ∷ 169 ∷ 195 ∷ 169 ∷ 195 ∷ 169 ∷ 195 ∷ 169 ∷ 195 ∷ 169 ∷ 195 ∷ 169 ∷ 195 ∷ 169 ∷ 195 ∷ 169 ∷ 195 ∷ 169 ∷ 195 ∷ 169 ∷ 195 ∷ 169 ∷ 195 ∷ 169 ∷ 195 ∷ 169 ∷ 195 ∷ 169 ∷ 195 ∷ 169 ∷ 195 ∷ 169 ∷ 195 ∷ 169 ∷ 195 ∷ 169 ∷ 195 ∷ 169 ∷ 195 ∷ 169 ∷ 195 ∷ 169 ∷ 195 ∷ 169 ∷ 195 ∷ 169 ∷ 195 ∷ 169 ∷ 195 ∷ 169 ∷ 195 ∷ 169 ∷ 195 ∷ 169 ∷ 195 ∷ 169 ∷ 195 ∷ 169 ∷ 195 ∷ 169 ∷ 195 ∷ 169 ∷ 195 ∷ 169 ∷ 195 ∷ 169 ∷ 195 ∷ 169 ∷ 195 ∷ 169 ∷ 195 ∷ 169 ∷ 195 ∷ 169 ∷ 195 ∷ 169 ∷ 195 ∷ 169 ∷ 195 ∷ 169 ∷ 195 ∷ 169 ∷ 195 ∷ 169 ∷ 195 ∷ 169 ∷ 195 ∷ 169 ∷ 195 ∷ 169 ∷ 195 ∷ 169 ∷ 195 ∷ 169 ∷ 195 ∷ 169 ∷ 195 ∷ 169 ∷ 195 ∷ 169 ∷ 195 ∷ 169 ∷ 195 ∷ 169 ∷ 195 ∷ 169 ∷ 195 ∷ 169 ∷ 195 ∷ 169 ∷ 195 ∷ 169 ∷ 195 ∷ 169 ∷ 195 ∷ 169 ∷ 195 ∷ 169 ∷ 195 ∷ 169 ∷ 195 ∷ 169 ∷ 195 ∷ 169 ∷ 195 ∷ 169 ∷ 195 ∷ 169 ∷ 195 ∷ 169 ∷ 195 ∷ 169 ∷ 195 ∷ 169 ∷ 195 ∷ 169 ∷ 195 ∷ 169 ∷ 195 ∷ 169 ∷ 195 ∷ 169 ∷ 195 ∷ 169 ∷ 195 ∷ 169 ∷ 195 ∷ 169 ∷ 195 ∷ 169 ∷ 195 ∷ 169 ∷ 195 ∷ 169 ∷ 195 ∷ 169 ∷ 195 ∷ 169 ∷ 195 ∷ 169 ∷ 195 ∷ 169 ∷ 195 ∷ 169 ∷ 195 ∷ 169 ∷ 195 ∷ 169 ∷ 195 ∷ 169 ∷ 195 ∷ 169 ∷ 195 ∷ 169 ∷ 195 ∷ 169 ∷ 195 ∷ 169 ∷ 195 ∷ 169 ∷ 195 ∷ 169 ∷ 195 ∷ 169 ∷ 195 ∷ 169 ∷ 195 ∷ 169 ∷ 195 ∷ 169 ∷ 195 ∷ 169 ∷ 195 ∷ 169 ∷ 195 ∷ 169 ∷ 195 ∷ 169 ∷ 195 ∷ 169 ∷ 195 ∷ 169 ∷ 195 ∷ 169 ∷ 195 ∷ 169 ∷ 195 ∷ 169 ∷ 195 ∷ 169 ∷ 195 ∷ 169 ∷ 195 ∷ 169 ∷ 195 ∷ 169 ∷ 195 ∷ 169 ∷ 195 ∷ 169 ∷ 195 ∷ 169 ∷ 195 ∷ 169 ∷ 195 ∷ 169 ∷ 195 ∷ 169 ∷ 195 ∷ 169 ∷ 195 ∷ 169 ∷ 195 ∷ 169 ∷ 195 ∷ 169 ∷ 195 ∷ 169 ∷ 195 ∷ 169 ∷ 195 ∷ 169 ∷ 195 ∷ 169 ∷ 195 ∷ 169 ∷ 195 ∷ 169 ∷ 195 ∷ 169 ∷ 195 ∷ 169 ∷ 195 ∷ 169 ∷ 195 ∷ 169 ∷ 195 ∷ 169 ∷ 195 ∷ 169 ∷ 195 ∷ 169 ∷ 195 ∷ 169 ∷ 195 ∷ 169 ∷ 195 ∷ 169 ∷ 195 ∷ 169 ∷ 195 ∷ 169 ∷ 195 ∷ 169 ∷ 195 ∷ 169 ∷ 195 ∷ 169 ∷ 195 ∷ 169 ∷ 195 ∷ 169 ∷ 195 ∷ 169 ∷ 195 ∷ 169 ∷ 195 ∷ 169 ∷ 195 ∷ 169 ∷ 195 ∷ 169 ∷ 195 ∷ 169 ∷ 195 ∷ 169 ∷ 195 ∷ 169 ∷ 195 ∷ 169 ∷ 195 ∷ 169 ∷ 195 ∷ 169 ∷ 195 ∷ 169 ∷ 195 ∷ 169 ∷ 195 ∷ 169 ∷ 195 ∷ 169 ∷ 195 ∷ 169 ∷ 195 ∷ 169 ∷ 195 ∷ 169 ∷ 195 ∷ 169 ∷ 195 ∷ 169 ∷ 195 ∷ 169 ∷ 195 ∷ 169 ∷ 195 ∷ 169 ∷ 195 ∷ 169 ∷ 195 ∷ 169 ∷ 195 ∷ 169 ∷ 195 ∷ 169 ∷ 195 ∷ 169 ∷ 195 ∷ 169 ∷ 195 ∷ 169 ∷ 195 ∷ 169 ∷ 195 ∷ 169 ∷ 195 ∷ 169 ∷ 195 ∷ 169 ∷ 195 ∷ 169 ∷ 195 ∷ 169 ∷ 195 ∷ 169 ∷ 195 ∷ 169 ∷ 195 ∷ 169 ∷ 195 ∷ 169 ∷ 195 ∷ 169 ∷ 195 ∷ 169 ∷ 195 ∷ 169 ∷ 195 ∷ 169 ∷ 195 ∷ 169 ∷ 195 ∷ 169 ∷ 195 ∷ 169 ∷ 195 ∷ 169 ∷ 195 ∷ 169 ∷ 195 ∷ 169 ∷ 195 ∷ 169 ∷ 195 ∷ 169 ∷ 195 ∷ 169 ∷ 195 ∷ 169 ∷ 195 ∷ 169 ∷ 195 ∷ 169 ∷ 195 ∷ 169 ∷ 195 ∷ 169 ∷ 195 ∷ 169 ∷ 195 ∷ 169 ∷ 195 ∷ 169 ∷ 195 ∷ 169 ∷ 195 ∷ 169 ∷ 195 ∷ 169 ∷ 195 ∷ 169 ∷ 195 ∷ 169 ∷ 195 ∷ 169 ∷ 195 ∷ 169 ∷ 195 ∷ 169 ∷ 195 ∷ 169 ∷ 195 ∷ 169 ∷ 195 ∷ 169 ∷ 195 ∷ 169 ∷ 195 ∷ 169 ∷ 195 ∷ 169 ∷ 195 ∷ 169 ∷ 195 ∷ 169 ∷ 195 ∷ 169 ∷ 195 ∷ 169 ∷ 195 ∷ 169 ∷ 195 ∷ 169 ∷ 195 ∷ 169 ∷ 195 ∷ 169 ∷ 195 ∷ 169 ∷ 195 ∷ 169 ∷ 195 ∷ 169 ∷ 195 ∷ 169 ∷ 195 ∷ 169 ∷ 195 ∷ 169 ∷ 195 ∷ 169 ∷ 195 ∷ 169 ∷ 195 ∷ 169 ∷ 195 ∷ 169 ∷ 195 ∷ 169 ∷ 195 ∷ 169 ∷ 195 ∷ 169 ∷ 195 ∷ 169 ∷ 195 ∷ 169 ∷ 195 ∷ 169 ∷ 195 ∷ 169 ∷ 195 ∷ 169 ∷ 195 ∷ 169 ∷ 195 ∷ 169 ∷ 195 ∷ 169 ∷ 195 ∷ 169 ∷ 195 ∷ 169 ∷ 195 ∷ 169 ∷ 195 ∷ 169 ∷ 195 ∷ 169 ∷ 195 ∷ 169 ∷ 195 ∷ 169 ∷ 195 ∷ 169 ∷ 195 ∷ 169 ∷ 195 ∷ 169 ∷ 195 ∷ 169 ∷ 195 ∷ 169 ∷ 195 ∷ 169 ∷ 195 ∷ 169 ∷ 195 ∷ 169 ∷ 195 ∷ 169 ∷ 195 ∷ 169 ∷ 195 ∷ 169 ∷ 195 ∷ 169 ∷ 195 ∷ 169 ∷ 195 ∷ 169 ∷ 195 ∷ 169 ∷ 195 ∷ 169 ∷ 195 ∷ 169 ∷ 195 ∷ 169 ∷ 195 ∷ 169 ∷ 195 ∷ 169 ∷ 195 ∷ 169 ∷ 195 ∷ 169 ∷ 195 ∷ 169 ∷ 195 ∷ 169 ∷ 195 ∷ 169 ∷ 195 ∷ 169 ∷ 195 ∷ 169 ∷ 195 ∷ 169 ∷ 195 ∷ 169 ∷ 195 ∷ 169 ∷ 195 ∷ 169 ∷ 195 ∷ 169 ∷ 195 ∷ 169 ∷ 195 ∷ 169 ∷ 195 ∷ 169 ∷ 195 ∷ 169 ∷ 195 ∷ 169 ∷ 195 ∷ 169 ∷ 195 ∷ 169 ∷ 195 ∷ 169 ∷ 195 ∷ 169 ∷ 195 ∷ 169 ∷ 195 ∷ 169 ∷ 195 ∷ 169 ∷ 195 ∷ 169 ∷ 195 ∷ 169 ∷ 195 ∷ 169 ∷ 195 ∷ 169 ∷ 195 ∷ 169 ∷ 195 ∷ 169 ∷ 195 ∷ 169 ∷ 195 ∷ 169 ∷ 195 ∷ 169 ∷ 195 ∷ 169 ∷ 195 ∷ 169 ∷ 195 ∷ 169 ∷ 195 ∷ 169 ∷ 195 ∷ 169 ∷ 195 ∷ 169 ∷ 195 ∷ 169 ∷ 195 ∷ 169 ∷ 195 ∷ 169 ∷ 195 ∷ 169 ∷ 195 ∷ 169 ∷ 195 ∷ 169 ∷ 195 ∷ 169 ∷ 195 ∷ 169 ∷ 195 ∷ 169 ∷ 195 ∷ 169 ∷ 195 ∷ 169 ∷ 195 ∷ 169 ∷ 195 ∷ 169 ∷ 195 ∷ 169 ∷ 195 ∷ 169 ∷ 195 ∷ 169 ∷ 195 ∷ 169 ∷ 195 ∷ 169 ∷ 195 ∷ 169 ∷ 195 ∷ 169 ∷ 195 ∷ 169 ∷ 195 ∷ 169 ∷ 195 ∷ 169 ∷ 195 ∷ 169 ∷ 195 ∷ 169 ∷ 195 ∷ 169 ∷ 195 ∷ 169 ∷ 195 ∷ 169 ∷ 195 ∷ 169 ∷ 195 ∷ 169 ∷ 195 ∷ 169 ∷ 195 ∷ 169 ∷ 195 ∷ 169 ∷ 195 ∷ 169 ∷ 195 ∷ 169 ∷ 195 ∷ 169 ∷ 195 ∷ 169 ∷ 195 ∷ 169 ∷ 195 ∷ 169 ∷ 195 ∷ 169 ∷ 195 ∷ 169 ∷ 195 ∷ 169 ∷ 195 ∷ 169 ∷ 195 ∷ 169 ∷ 195 ∷ 169 ∷ 195 ∷ 169 ∷ 195 ∷ 169 ∷ 195 ∷ 169 ∷ 195 ∷ 169 ∷ 195 ∷ 169 ∷ 195 ∷ 169 ∷ 195 ∷ 169 ∷ 195 ∷ 169 ∷ 195 ∷ 169 ∷ 195 ∷ 169 ∷ 195 ∷ 169 ∷ 195 ∷ 169 ∷ 195 ∷ 169 ∷ 195 ∷ 169 ∷ 195 ∷ 169 ∷ 195 ∷ 169 ∷ 195 ∷ 169 ∷ 195 ∷ 169 ∷ 195 ∷ 169 ∷ 195 ∷ 169 ∷ 195 ∷ 169 ∷ 195 ∷ 169 ∷ 195 ∷ 169 ∷ 195 ∷ 169 ∷ 195 ∷ 169 ∷ 195 ∷ 169 ∷ 195 ∷ 169 ∷ 195 ∷ 169 ∷ 195 ∷ 169 ∷ 195 ∷ 169 ∷ 195 ∷ 169 ∷ 195 ∷ 169 ∷ 195 ∷ 169 ∷ 195 ∷ 169 ∷ 195 ∷ 169 ∷ 195 ∷ 169 ∷ 195 ∷ 169 ∷ 195 ∷ 169 ∷ 195 ∷ 169 ∷ 195 ∷ 169 ∷ 195 ∷ 169 ∷ 195 ∷ 169 ∷ 195 ∷ 169 ∷ 195 ∷ 169 ∷ 195 ∷ 169 ∷ 195 ∷ 169 ∷ 195 ∷ 169 ∷ 195 ∷ 169 ∷ 195 ∷ 169 ∷ 195 ∷ 169 ∷ 195 ∷ 169 ∷ 195 ∷ 169 ∷ 195 ∷ 169 ∷ 195 ∷ 169 ∷ 195 ∷ 169 ∷ 195 ∷ 169 ∷ 195 ∷ 169 ∷ 195 ∷ 169 ∷ 195 ∷ 169 ∷ 195 ∷ 169 ∷ 195 ∷ 169 ∷ 195 ∷ 169 ∷ 195 ∷ 169 ∷ 195 ∷ 169 ∷ 195 ∷ 169 ∷ 195 ∷ 169 ∷ 195 ∷ 169 ∷ 195 ∷ 169 ∷ 195 ∷ 169 ∷ 195 ∷ 169 ∷ 195 ∷ 169 ∷ 195 ∷ 169 ∷ 195 ∷ 169 ∷ 195 ∷ 169 ∷ 195 ∷ 169 ∷ 195 ∷ 169 ∷ 195 ∷ 169 ∷ 195 ∷ 169 ∷ 195 ∷ 169 ∷ 195 ∷ 169 ∷ 195 ∷ 169 ∷ 195 ∷ 169 ∷ 195 ∷ 169 ∷ 195 ∷ 169 ∷ 195 ∷ 169 ∷ 195 ∷ 169 ∷ 195 ∷ 169 ∷ 195 ∷ 169 ∷ 195 ∷ 169 ∷ 195 ∷ 169 ∷ 195 ∷ 169 ∷ 195 ∷ 169 ∷ 195 ∷ 169 ∷ 195 ∷ 169 ∷ 195 ∷ 169 ∷ 195 ∷ 169 ∷ 195 ∷ 169 ∷ 195 ∷ 169 ∷ 195 ∷ 169 ∷ 195 ∷ 169 ∷ 195 ∷ 169 ∷ 195 ∷ 169 ∷ 195 ∷ 169 ∷ 195 ∷ 169 ∷ 195 ∷ 169 ∷ 195 ∷ 169 ∷ 195 ∷ 169 ∷ 195 ∷ 169 ∷ 195 ∷ 169 ∷ 195 ∷ 169 ∷ 195 ∷ 169 ∷ 195 ∷ 169 ∷ 195 ∷ 169 ∷ 195 ∷ 169 ∷ 195 ∷ 169 ∷ 195 ∷ 169 ∷ 195 ∷ 169 ∷ 195 ∷ 169 ∷ 195 ∷ 169 ∷ 195 ∷ 169 ∷ 195 ∷ 169 ∷ 195 ∷ 169 ∷ 195 ∷ 169 ∷ 195 ∷ 169 ∷ 195 ∷ 169 ∷ 195 ∷ 169 ∷ 195 ∷ 169 ∷ 195 ∷ 169 ∷ 195 ∷ 169 ∷ 195 ∷ 169 ∷ 195 ∷ 169 ∷ 195 ∷ 169 ∷ 195 ∷ 169 ∷ 195 ∷ 169 ∷ 195 ∷ 169 ∷ 195 ∷ 169 ∷ 195 ∷ 169 ∷ 195 ∷ 169 ∷ 195 ∷ 169 ∷ 195 ∷ 169 ∷ 195 ∷ 169 ∷ 195 ∷ 169 ∷ 195 ∷ 169 ∷ 195 ∷ 169 ∷ 195 ∷ 169 ∷ 195 ∷ 169 ∷ 195 ∷ 169 ∷ 195 ∷ 169 ∷ 195 ∷ 169 ∷ 195 ∷ 169 ∷ 195 ∷ 169 ∷ 195 ∷ 169 ∷ 195 ∷ 169 ∷ 195 ∷ 169 ∷ 195 ∷ 169 ∷ 195 ∷ 169 ∷ 195 ∷ 169 ∷ 195 ∷ 169 ∷ 195 ∷ 169 ∷ 195 ∷ 169 ∷ 195 ∷ 169 ∷ 195 ∷ 169 ∷ 195 ∷ 169 ∷ 195 ∷ 169 ∷ 195 ∷ 169 ∷ 195 ∷ 169 ∷ 195 ∷ 169 ∷ 195 ∷ 169 ∷ 195 ∷ 169 ∷ 195 ∷ 169 ∷ 195 ∷ 169 ∷ 195 ∷ 169 ∷ 195 ∷ 169 ∷ 195 ∷ 169 ∷ 195 ∷ 169 ∷ 195 ∷ 169 ∷ 195 ∷ 169 ∷ 195 ∷ 169 ∷ 195 ∷ 169 ∷ 195 ∷ 169 ∷ 195 ∷ 169 ∷ 195 ∷ 169 ∷ 195 ∷ 169 ∷ 195 ∷ 169 ∷ 195 ∷ 169 ∷ 195 ∷ 169 ∷ 195 ∷ 169 ∷ 195 ∷ 169 ∷ 195 ∷ 169 ∷ 195 ∷ 169 ∷ 195 ∷ 169 ∷ 195 ∷ 169 ∷ 195 ∷ 169 ∷ 195 ∷ 169 ∷ 195 ∷ 169 ∷ 195 ∷ 169 ∷ 195 ∷ 169 ∷ 195 ∷ 169 ∷ 195 ∷ 169 ∷ 195 ∷ 169 ∷ 195 ∷ 169 ∷ 195 ∷ 169 ∷ 195 ∷ 169 ∷ 195 ∷ 169 ∷ 195 ∷ 169 ∷ 195 ∷ 169 ∷ 195 ∷ 169 ∷ 195 ∷ 169 ∷ 195 ∷ 169 ∷ 195 ∷ 169 ∷ 195 ∷ 169 ∷ 195 ∷ 169 ∷ 195 ∷ 169 ∷ 195 ∷ 169 ∷ 195 ∷ 169 ∷ 195 ∷ 169 ∷ 195 ∷ 169 ∷ 195 ∷ 169 ∷ 195 ∷ 169 ∷ 195 ∷ 169 ∷ 195 ∷ 169 ∷ 195 ∷ 169 ∷ 195 ∷ 169 ∷ 195 ∷ 169 ∷ 195 ∷ 169 ∷ 195 ∷ 169 ∷ 195 ∷ 169 ∷ 195 ∷ 169 ∷ 195 ∷ 169 ∷ 195 ∷ 169 ∷ 195 ∷ 169 ∷ 195 ∷ 169 ∷ 195 ∷ 169 ∷ 195 ∷ 169 ∷ 195 ∷ 169 ∷ 195 ∷ 169 ∷ 195 ∷ 169 ∷ 195 ∷ 169 ∷ 195 ∷ 169 ∷ 195 ∷ 169 ∷ 195 ∷ 169 ∷ 195 ∷ 169 ∷ 195 ∷ 169 ∷ 195 ∷ 169 ∷ 195 ∷ 169 ∷ 195 ∷ 169 ∷ 195 ∷ 169 ∷ 195 ∷ 169 ∷ 195 ∷ 169 ∷ 195 ∷ 169 ∷ 195 ∷ 169 ∷ 195 ∷ 169 ∷ 195 ∷ 169 ∷ 195 ∷ 169 ∷ 195 ∷ 169 ∷ 195 ∷ 169 ∷ 195 ∷ 169 ∷ 195 ∷ 169 ∷ 195 ∷ 169 ∷ 195 ∷ 169 ∷ 195 ∷ 169 ∷ 195 ∷ 169 ∷ 195 ∷ 169 ∷ 195 ∷ 169 ∷ 195 ∷ 169 ∷ 195 ∷ 169 ∷ 195 ∷ 169 ∷ 195 ∷ 169 ∷ 195 ∷ 169 ∷ 195 ∷ 169 ∷ 195 ∷ 169 ∷ 195 ∷ 169 ∷ 195 ∷ 169 ∷ 195 ∷ 169 ∷ 195 ∷ 169 ∷ 195 ∷ 169 ∷ 93 ∷ []) ≡ Some (enter Name.Reference 1 1 0 0 ∷ enter Name.ReferenceMarker 1 1 0 0 ∷ exit Name.ReferenceMarker 1 2 1 0 ∷ enter Name.ReferenceString 1 2 1 0 ∷ chained Name.Data 1 2 1 0 None None ∷ exit Name.Data 1 2000 1999 0 ∷ exit Name.ReferenceString 1 2000 1999 0 ∷ enter Name.ReferenceMarker 1 2000 1999 0 ∷ exit Name.ReferenceMarker 1 2001 2000 0 ∷ exit Name.Reference 1 2001 2000 0 ∷ [])) ×
    -- label commonmark «[⟦é×1000⟧]»: no
    (label_answer true (91 ∷ 195 ∷ 169 ∷ 195 ∷ 169 ∷ 195 ∷ 169 ∷ 195 ∷ 169 ∷ 195 ∷ 169 ∷ 195 ∷ 169 ∷ 195 ∷ 169 ∷ 195 ∷ 169 ∷ 195 ∷ 169 ∷ 195 ∷ 169 ∷ 195 ∷ 169 ∷ 195 ∷ 169 ∷ 195 ∷ 169 ∷ 195 ∷ 169 ∷ 195 ∷ 169 ∷ 195 ∷ 169 ∷ 195 ∷ 169 ∷ 195 ∷ 169 ∷ 195 ∷ 169 ∷ 195 ∷ 169 ∷ 195 ∷ 169 ∷ 195 ∷ 169 ∷ 195 ∷ 169 ∷ 195 ∷ 169 ∷ 195 ∷ 169 ∷ 195 ∷ 169 ∷ 195 ∷ 169 ∷ 195 ∷ 169 ∷ 195 ∷ 169 ∷ 195 ∷ 169 ∷ 195 ∷ 169 ∷ 195 ∷ 169 ∷ 195 ∷ 169 ∷ 195 ∷ 169 ∷ 195 ∷ 169 ∷ 195 ∷ 169 ∷ 195 ∷ 169 ∷ 195 ∷ 169 ∷ 195 ∷ 169 ∷ 195 ∷ 169 ∷ 195 ∷ 169 ∷ 195 ∷ 169 ∷ 195 ∷ 169 ∷ 195 ∷ 169 ∷ 195 ∷ 169 ∷ 195 ∷ 169 ∷ 195 ∷ 169 ∷ 195 ∷ 169 ∷ 195 ∷ 169 ∷ 195 ∷ 169 ∷ 195 ∷ 169 ∷ 195 ∷ 169 ∷ 195 ∷ 169 ∷ 195 ∷ 169 ∷ 195 ∷ 169 ∷ 195 ∷ 169 ∷ 195 ∷ 169 ∷ 195 ∷ 169 ∷ 195 ∷ 169 ∷ 195 ∷ 169 ∷ 195 ∷ 169 ∷ 195 ∷ 169 ∷ 195 ∷ 169 ∷ 195 ∷ 169 ∷ 195 ∷ 169 ∷ 195 ∷ 169 ∷ 195 ∷ 169 ∷ 195 ∷ 169 ∷ 195 ∷ 169 ∷ 195 ∷ 169 ∷ 195 ∷ 169 ∷ 195 ∷ 169 ∷ 195 ∷ 169 ∷ 195 ∷ 169 ∷ 195 ∷ 169 ∷ 195 ∷ 169 ∷ 195 ∷ 169 ∷ 195 ∷ 169 ∷ 195 ∷ 169 ∷ 195 ∷ 169 ∷ 195 ∷ 169 ∷ 195 ∷ 169 ∷ 195 ∷ 169 ∷ 195 ∷ 169 ∷ 195 ∷ 169 ∷ 195 ∷ 169 ∷ 195 ∷ 169 ∷ 195 ∷ 169 ∷ 195 ∷ 169 ∷ 195 ∷ 169 ∷ 195 ∷ 169 ∷ 195 ∷ 169 ∷ 195 ∷ 169 ∷ 195 ∷ 169 ∷ 195 ∷ 169 ∷ 195 ∷ 169 ∷ 195 ∷ 169 ∷ 195 ∷ 169 ∷ 195 ∷ 169 ∷ 195 ∷ 169 ∷ 195 ∷ 169 ∷ 195 ∷ 169 ∷ 195 ∷ 169 ∷ 195 ∷ 169 ∷ 195 ∷ 169 ∷ 195 ∷ 169 ∷ 195 ∷ 169 ∷ 195 ∷ 169 ∷ 195 ∷ 169 ∷ 195 ∷ 169 ∷ 195 ∷ 169 ∷ 195 ∷ 169 ∷ 195 ∷ 169 ∷ 195 ∷ 169 ∷ 195 ∷ 169 ∷ 195 ∷ 169 ∷ 195 ∷ 169 ∷ 195 ∷ 169 ∷ 195 ∷ 169 ∷ 195 ∷ 169 ∷ 195 ∷ 169 ∷ 195 ∷ 169 ∷ 195 ∷ 169 ∷ 195 ∷ 169 ∷ 195 ∷ 169 ∷ 195 ∷ 169 ∷ 195 ∷ 169 ∷ 195 ∷ 169 ∷ 195 ∷ 169 ∷ 195 ∷ 169 ∷ 195 ∷ 169 ∷ 195 ∷ 169 ∷ 195 ∷ 169 ∷ 195 ∷ 169 ∷ 195 ∷ 169 ∷ 195 ∷ 169 ∷ 195 ∷ 169 ∷ 195 ∷ 169 ∷ 195 ∷ 169 ∷ 195 ∷ 169 ∷ 195 ∷ 169 ∷ 195 ∷ 169 ∷ 195 ∷ 169 ∷ 195 ∷ 169 ∷ 195 ∷ 169 ∷ 195 ∷ 169 ∷ 195 ∷ 169 ∷ 195 ∷ 169 ∷ 195 ∷ 169 ∷ 195 ∷ 169 ∷ 195 ∷ 169 ∷ 195 ∷ 169 ∷ 195 ∷ 169 ∷ 195 ∷ 169 ∷ 195 ∷ 169 ∷ 195 ∷ 169 ∷ 195 ∷ 169 ∷ 195 ∷ 169 ∷ 195 ∷ 169 ∷ 195 ∷ 169 ∷ 195 ∷ 169 ∷ 195 ∷ 169 ∷ 195 ∷ 169 ∷ 195 ∷ 169 ∷ 195 ∷ 169 ∷ 195 ∷ 169 ∷ 195 ∷ 169 ∷ 195 ∷ 169 ∷ 195 ∷ 169 ∷ 195 ∷ 169 ∷ 195 ∷ 169 ∷ 195 ∷ 169 ∷ 195 ∷ 169 ∷ 195 ∷ 169 ∷ 195 ∷ 169 ∷ 195 ∷ 169 ∷ 195 ∷ 169 ∷ 195 ∷ 169 ∷ 195 ∷ 169 ∷ 195 ∷ 169 ∷ 195 ∷ 169 ∷ 195 ∷ 169 ∷ 195 ∷ 169 ∷ 195 ∷ 169 ∷ 195 ∷ 169 ∷ 195 ∷ 169 ∷ 195 ∷ 169 ∷ 195 ∷ 169 ∷ 195 ∷ 169 ∷ 195 ∷ 169 ∷ 195 ∷ 169 ∷ 195 ∷ 169 ∷ 195 ∷ 169 ∷ 195 ∷ 169 ∷ 195 ∷ 169 ∷ 195 ∷ 169 ∷ 195 ∷ 169 ∷ 195 ∷ 169 ∷ 195 ∷ 169 ∷ 195 ∷ 169 ∷ 195 ∷ 169 ∷ 195 ∷ 169 ∷ 195 ∷ 169 ∷ 195 ∷ 169 ∷ 195 ∷ 169 ∷ 195 ∷ 169 ∷ 195 ∷ 169 ∷ 195 ∷ 169 ∷ 195 ∷ 169 ∷ 195 ∷ 169 ∷ 195 ∷ 169 ∷ 195 ∷ 169 ∷ 195 ∷ 169 ∷ 195 ∷ 169 ∷ 195 ∷ 169 ∷ 195 ∷ 169 ∷ 195 ∷ 169 ∷ 195 ∷ 169 ∷ 195 ∷ 169 ∷ 195 ∷ 169 ∷ 195 ∷ 169 ∷ 195 ∷ 169 ∷ 195 ∷ 169 ∷ 195 ∷ 169 ∷ 195 ∷ 169 ∷ 195 ∷ 169 ∷ 195 ∷ 169 ∷ 195 ∷ 169 ∷ 195 ∷ 169 ∷ 195 ∷ 169 ∷ 195 ∷ 169 ∷ 195 ∷ 169 ∷ 195 ∷ 169 ∷ 195 ∷ 169 ∷ 195 ∷ 169 ∷ 195 ∷ 169 ∷ 195 ∷ 169 ∷ 195 ∷ 169 ∷ 195 ∷ 169 ∷ 195 ∷ 169 ∷ 195 ∷ 169 ∷ 195 ∷ 169 ∷ 195 ∷ 169 ∷ 195 ∷ 169 ∷ 195 ∷ 169 ∷ 195 ∷ 169 ∷ 195 ∷ 169 ∷ 195 ∷ 169 ∷ 195 ∷ 169 ∷ 195 ∷ 169 ∷ 195 ∷ 169 ∷ 195 ∷ 169 ∷ 195 ∷ 169 ∷ 195 ∷ 169 ∷ 195 ∷ 169 ∷ 195 ∷ 169 ∷ 195 ∷ 169 ∷ 195 ∷ 169 ∷ 195 ∷ 169 ∷ 195 ∷ 169 ∷ 195 ∷ 169 ∷ 195 ∷ 169 ∷ 195 ∷ 169 ∷ 195 ∷ 169 ∷ 195 ∷ 169 ∷ 195 ∷ 169 ∷ 195 ∷ 169 ∷ 195 ∷ 169 ∷ 195 ∷ 169 ∷ 195 ∷ 169 ∷ 195 ∷ 169 ∷ 195 ∷ 169 ∷ 195 ∷ 169 ∷ 195 ∷ 169 ∷ 195 ∷ 169 ∷ 195 ∷ 169 ∷ 195 ∷ 169 ∷ 195 ∷ 169 ∷ 195 ∷ 169 ∷ 195 ∷ 169 ∷ 195 ∷ 169 ∷ 195 ∷ 169 ∷ 195 ∷ 169 ∷ 195 ∷ 169 ∷ 195 ∷ 169 ∷ 195 ∷ 169 ∷ 195 ∷ 169 ∷ 195 ∷ 169 ∷ 195 ∷ 169 ∷ 195 ∷ 169 ∷ 195 ∷ 169 ∷ 195 ∷ 169 ∷ 195 ∷ 169 ∷ 195 ∷ 169 ∷ 195 ∷ 169 ∷ 195 ∷ 169 ∷ 195 ∷ 169 ∷ 195 ∷ 169 ∷ 195 ∷ 169 ∷ 195 ∷ 169 ∷ 195 ∷ 169 ∷ 195 ∷ 169 ∷ 195 ∷ 169 ∷ 195 ∷ 169 ∷ 195 ∷ 169 ∷ 195 ∷ 169 ∷ 195 ∷ 169 ∷ 195 ∷ 169 ∷ 195 ∷ 169 ∷ 195 ∷ 169 ∷ 195 ∷ 169 ∷ 195 ∷ 169 ∷ 195 ∷ 169 ∷ 195 ∷ 169 ∷ 195 ∷ 169 ∷ 195 ∷ 169 ∷ 195 ∷ 169 ∷ 195 ∷ 169 ∷ 195 ∷ 169 ∷ 195 ∷ 169 ∷ 195 ∷ 169 ∷ 195 ∷ 169 ∷ 195 ∷ 169 ∷ 195 ∷ 169 ∷ 195 ∷ 169 ∷ 195 ∷ 169 ∷ 195 ∷ 169 ∷ 195 ∷ 169 ∷ 195 ∷ 169 ∷ 195 ∷ 169 ∷ 195 ∷ 169 ∷ 195 ∷ 169 ∷ 195 ∷ 169 ∷ 195 ∷ 169 ∷ 195 ∷ 169 ∷ 195 ∷ 169 ∷ 195 ∷ 169 ∷ 195 ∷ 169 ∷ 195 ∷ 169 ∷ 195 ∷ 169 ∷ 195 ∷ 169 ∷ 195 ∷ 169 ∷ 195 ∷ 169 ∷ 195 ∷ 169 ∷ 195 ∷ 169 ∷ 195 ∷ 169 ∷ 195 ∷ 169 ∷ 195 ∷ 169 ∷ 195 ∷ 169 ∷ 195 ∷ 169 ∷ 195 ∷ 169 ∷ 195 ∷ 169 ∷ 195 ∷ 169 ∷ 195 ∷ 169 ∷ 195 ∷ 169 ∷ 195 ∷ 169 ∷ 195 ∷ 169 ∷ 195 ∷ 169 ∷ 195 ∷ 169 ∷ 195 ∷ 169 ∷ 195 ∷ 169 ∷ 195 ∷ 169 ∷ 195 ∷ 169 ∷ 195 ∷ 169 ∷ 195 ∷ 169 ∷ 195 ∷ 169 ∷ 195 ∷ 169 ∷ 195 ∷ 169 ∷ 195 ∷ 169 ∷ 195 ∷ 169 ∷ 195 ∷ 169 ∷ 195 ∷ 169 ∷ 195 ∷ 169 ∷ 195 ∷ 169 ∷ 195 ∷ 169 ∷ 195 ∷ 169 ∷ 195 ∷ 169 ∷ 195 ∷ 169 ∷ 195 ∷ 169 ∷ 195 ∷ 169 ∷ 195 ∷ 169 ∷ 195 ∷ 169 ∷ 195 ∷ 169 ∷ 195 ∷ 169 ∷ 195 ∷ 169 ∷ 195 ∷ 169 ∷ 195 ∷ 169 ∷ 195 ∷ 169 ∷ 195 ∷ 169 ∷ 195 ∷ 169 ∷ 195 ∷ 169 ∷ 195 ∷ 169 ∷ 195 ∷ 169 ∷ 195 ∷ 169 ∷ 195 ∷ 169 ∷ 195 ∷ 169 ∷ 195 ∷ 169 ∷ 195 ∷ 169 ∷ 195 ∷ 169 ∷ 195 ∷ 169 ∷ 195 ∷ 169 ∷ 195 ∷ 169 ∷ 195 ∷ 169 ∷ 195 ∷ 169 ∷ 195 ∷ 169 ∷ 195 ∷ 169 ∷ 195 ∷ 169 ∷ 195 ∷ 169 ∷ 195 ∷ 169 ∷ 195 ∷ 169 ∷ 195 ∷ 169 ∷ 195 ∷ 169 ∷ 195 ∷ 169 ∷ 195 ∷ 169 ∷ 195 ∷ 169 ∷ 195 ∷ 169 ∷ 195 ∷ 169 ∷ 195 ∷ 169 ∷ 195 ∷ 169 ∷ 195 ∷ 169 ∷ 195 ∷ 169 ∷ 195 ∷ 169 ∷ 195 ∷ 169 ∷ 195 ∷ 169 ∷ 195 ∷ 169 ∷ 195 ∷ 169 ∷ 195 ∷ 169 ∷ 195 ∷ 169 ∷ 195 ∷ 169 ∷ 195 ∷ 169 ∷ 195 ∷ 169 ∷ 195 ∷ 169 ∷ 195 ∷ 169 ∷ 195 ∷ 169 ∷ 195 ∷ 169 ∷ 195 ∷ 169 ∷ 195 ∷ 169 ∷ 195 ∷ 169 ∷ 195 ∷ 169 ∷ 195 ∷ 169 ∷ 195 ∷ 169 ∷ 195 ∷ 169 ∷ 195 ∷ 169 ∷ 195 ∷ 169 ∷ 195 ∷ 169 ∷ 195 ∷ 169 ∷ 195 ∷ 169 ∷ 195 ∷ 169 ∷ 195 ∷ 169 ∷ 195 ∷ 169 ∷ 195 ∷ 169 ∷ 195 ∷ 169 ∷ 195 ∷ 169 ∷ 195 ∷ 169 ∷ 195 ∷ 169 ∷ 195 ∷ 169 ∷ 195 ∷ 169 ∷ 195 ∷ 169 ∷ 195 ∷ 169 ∷ 195 ∷ 169 ∷ 195 ∷ 169 ∷ 195 ∷ 169 ∷ 195 ∷ 169 ∷ 195 ∷ 169 ∷ 195 ∷ 169 ∷ 195 ∷ 169 ∷ 195 ∷ 169 ∷ 195 ∷ 169 ∷ 195 ∷ 169 ∷ 195 ∷ 169 ∷ 195 ∷ 169 ∷ 195 ∷ 169 ∷ 195 ∷ 169 ∷ 195 ∷ 169 ∷ 195 ∷ 169 ∷ 195 ∷ 169 ∷ 195 ∷ 169 ∷ 195 ∷ 169 ∷ 195 ∷ 169 ∷ 195 ∷ 169 ∷ 195 ∷ 169 ∷ 195 ∷ 169 ∷ 195 ∷ 169 ∷ 195 ∷ 169 ∷ 195 ∷ 169 ∷ 195 ∷ 169 ∷ 195 ∷ 169 ∷ 195 ∷ 169 ∷ 195 ∷ 169 ∷ 195 ∷ 169 ∷ 195 ∷ 169 ∷ 195 ∷ 169 ∷ 195 ∷ 169 ∷ 195 ∷ 169 ∷ 195 ∷ 169 ∷ 195 ∷ 169 ∷ 195 ∷ 169 ∷ 195 ∷ 169 ∷ 195 ∷ 169 ∷ 195 ∷ 169 ∷ 195 ∷ 169 ∷ 195 ∷ 169 ∷ 195 ∷ 169 ∷ 195 ∷ 169 ∷ 195 ∷ 169 ∷ 195 ∷ 169 ∷ 195 ∷ 169 ∷ 195 ∷ 169 ∷ 195 ∷ 169 ∷ 195 ∷ 169 ∷ 195 ∷ 169 ∷ 195 ∷ 169 ∷ 195 ∷ 169 ∷ 195 ∷ 169 ∷ 195 ∷ 169 ∷ 195 ∷ 169 ∷ 195 ∷ 169 ∷ 195 ∷ 169 ∷ 195 ∷ 169 ∷ 195 ∷ 169 ∷ 195 ∷ 169 ∷ 195 ∷ 169 ∷ 195 ∷ 169 ∷ 195 ∷ 169 ∷ 195 ∷ 169 ∷ 195 ∷ 169 ∷ 195 ∷ 169 ∷ 195 ∷ 169 ∷ 195 ∷ 169 ∷ 195 ∷ 169 ∷ 195 ∷ 169 ∷ 195 ∷ 169 ∷ 195 ∷ 169 ∷ 195 ∷ 169 ∷ 195 ∷ 169 ∷ 195 ∷ 169 ∷ 195 ∷ 169 ∷ 195 ∷ 169 ∷ 195 ∷ 169 ∷ 195 ∷ 169 ∷ 195 ∷ 169 ∷ 195 ∷ 169 ∷ 195 ∷ 169 ∷ 195 ∷ 169 ∷ 195 ∷ 169 ∷ 195 ∷ 169 ∷ 195 ∷ 169 ∷ 195 ∷ 169 ∷ 195 ∷ 169 ∷ 195 ∷ 169 ∷ 195 ∷ 169 ∷ 195 ∷ 169 ∷ 195 ∷ 169 ∷ 195 ∷ 169 ∷ 195 ∷ 169 ∷ 195 ∷ 169 ∷ 195 ∷ 169 ∷ 195 ∷ 169 ∷ 195 ∷ 169 ∷ 195 ∷ 169 ∷ 195 ∷ 169 ∷ 195 ∷ 169 ∷ 195 ∷ 169 ∷ 195 ∷ 169 ∷ 195 ∷ 169 ∷ 195 ∷ 169 ∷ 195 ∷ 169 ∷ 195 ∷ 169 ∷ 195 ∷ 169 ∷ 195 ∷ 169 ∷ 195 ∷ 169 ∷ 195 ∷ 169 ∷ 195 ∷ 169 ∷ 195 ∷ 169 ∷ 195 ∷ 169 ∷ 195 ∷ 169 ∷ 195 ∷ 169 ∷ 195 ∷ 169 ∷ 195 ∷ 169 ∷ 195 ∷ 169 ∷ 195 ∷ 169 ∷ 195 ∷ 169 ∷ 195 ∷ 169 ∷ 195 ∷ 169 ∷ 195 ∷ 169 ∷ 195 ∷ 169 ∷ 195 ∷ 169 ∷ 195 ∷ 169 ∷ 195 ∷ 169 ∷ 195 ∷ 169 ∷ 195 ∷ 169 ∷ 195 ∷ 169 ∷ 195 ∷ 169 ∷ 195 ∷ 169 ∷ 195 ∷ 169 ∷ 195 ∷ 169 ∷ 195 ∷ 169 ∷ 195 ∷ 169 ∷ 195 ∷ 169 ∷ 195 ∷ 169 ∷ 195 ∷ 169 ∷ 195 ∷ 169 ∷ 195 ∷ 169 ∷ 195 ∷ 169 ∷ 195 ∷ 169 ∷ 195 ∷ 169 ∷ 195 ∷ 169 ∷ 195 ∷ 169 ∷ 195 ∷ 169 ∷ 195 ∷ 169 ∷ 195 ∷ 169 ∷ 195 ∷ 169 ∷ 195 ∷ 169 ∷ 195 ∷ 169 ∷ 195 ∷ 169 ∷ 195 ∷ 169 ∷ 195 ∷ 169 ∷ 195 ∷ 169 ∷ 195 ∷ 169 ∷ 195 ∷ 169 ∷ 195 ∷ 169 ∷ 195 ∷ 169 ∷ 195 ∷ 169 ∷ 195 ∷ 169 ∷ 195 ∷ 169 ∷ 195 ∷ 169 ∷ 195 ∷ 169 ∷ 195 ∷ 169 ∷ 195 ∷ 169 ∷ 195 ∷ 169 ∷ 195 ∷ 169 ∷ 195 ∷ 169 ∷ 195 ∷ 169 ∷ 195 ∷ 169 ∷ 195 ∷ 169 ∷ 195 ∷ 169 ∷ 195 ∷ 169 ∷ 195 ∷ 169 ∷ 195 ∷ 169 ∷ 195 ∷ 169 ∷ 195 ∷ 169 ∷ 195 ∷ 169 ∷ 195 ∷ 169 ∷ 195 ∷ 169 ∷ 195 ∷ 169 ∷ 195 ∷ 169 ∷ 195 ∷ 169 ∷ 195 ∷ 169 ∷ 195 ∷ 169 ∷ 195 ∷ 169 ∷ 195 ∷ 169 ∷ 195 ∷ 169 ∷ 195 ∷ 169 ∷ 195 ∷ 169 ∷ 195 ∷ 169 ∷ 195 ∷ 169 ∷ 195 ∷ 169 ∷ 195 ∷ 169 ∷ 195 ∷ 169 ∷ 195 ∷ 169 ∷ 195 ∷ 169 ∷ 195 ∷ 169 ∷ 195 ∷ 169 ∷ 195 ∷ 169 ∷ 195 ∷ 169 ∷ 195 ∷ 169 ∷ 195 ∷ 169 ∷ 195 ∷ 169 ∷ 195 ∷ 169 ∷ 195 ∷ 169 ∷ 195 ∷ 169 ∷ 195 ∷ 169 ∷ 195 ∷ 169 ∷ 195 ∷ 169 ∷ 195 ∷ 169 ∷ 195 ∷ 169 ∷ 195 ∷ 169 ∷ 195 ∷ 169 ∷ 195 ∷ 169 ∷ 195 ∷ 169 ∷ 195 ∷ 169 ∷ 195 ∷ 169 ∷ 195 ∷ 169 ∷ 195 ∷ 169 ∷ 195 ∷ 169 ∷ 195 ∷ 169 ∷ 195 ∷ 169 ∷ 195 ∷ 169 ∷ 195 ∷ 169 ∷ 195 ∷ 169 ∷ 195 ∷ 169 ∷ 195 ∷ 169 ∷ 195 ∷ 169 ∷ 195 ∷ 169 ∷ 195 ∷ 169 ∷ 195 ∷ 169 ∷ 195 ∷ 169 ∷ 195 ∷ 169 ∷ 195 ∷ 169 ∷ 195 ∷ 169 ∷ 195 ∷ 169 ∷ 195 ∷ 169 ∷ 195 ∷ 169 ∷ 195 ∷ 169 ∷ 195 ∷ 169 ∷ 195 ∷ 169 ∷ 195 ∷ 169 ∷ 195 ∷ 169 ∷ 195 ∷ 169 ∷ 195 ∷ 169 ∷ 195 ∷ 169 ∷ 195 ∷ 169 ∷ 195 ∷ 169 ∷ 195 ∷ 169 ∷ 195 ∷ 169 ∷ 195 ∷ 169 ∷ 195 ∷ 169 ∷ 195 ∷ 169 ∷ 195 ∷ 169 ∷ 195 ∷ 169 ∷ 195 ∷ 169 ∷ 195 ∷ 169 ∷ 195 ∷ 169 ∷ 195 ∷ 169 ∷ 195 ∷ 169 ∷ 195 ∷ 169 ∷ 195 ∷ 169 ∷ 195 ∷ 169 ∷ 195 ∷ 169 ∷ 195 ∷ 169 ∷ 195 ∷ 169 ∷ 195 ∷ 169 ∷ 195 ∷ 169 ∷ 195 ∷ 169 ∷ 195 ∷ 169 ∷ 195 ∷ 169 ∷ 195 ∷ 169 ∷ 195 ∷ 169 ∷ 195 ∷ 169 ∷ 195 ∷ 169 ∷ 195 ∷ 169 ∷ 195 ∷ 169 ∷ 195 ∷ 169 ∷ 195 ∷ 169 ∷ 195 ∷ 169 ∷ 195 ∷ 169 ∷ 195 ∷ 169 ∷ 195 ∷ 169 ∷ 195 ∷ 169 ∷ 195 ∷ 169 ∷ 195 ∷ 169 ∷ 195 ∷ 169 ∷ 195 ∷ 169 ∷ 195 ∷ 169 ∷ 195 ∷ 169 ∷ 195 ∷ 169 ∷ 195 ∷ 169 ∷ 195 ∷ 169 ∷ 195 ∷ 169 ∷ 195 ∷ 169 ∷ 195 ∷ 169 ∷ 195 ∷ 169 ∷ 195 ∷ 169 ∷ 195 ∷ 169 ∷ 195 ∷ 169 ∷ 195 ∷ 169 ∷ 195 ∷ 169 ∷ 195 ∷ 169 ∷ 195 ∷ 169 ∷ 195 ∷ 169 ∷ 195 ∷ 169 ∷ 195 ∷ 169 ∷ 195 ∷ 169 ∷ 195 ∷ 169 ∷ 195 ∷ 169 ∷ 195 ∷ 169 ∷ 195 ∷ 169 ∷ 195 ∷ 169 ∷ 195 ∷ 169 ∷ 195 ∷ 169 ∷ 195 ∷ 169 ∷ 195 ∷ 169 ∷ 195 ∷ 169 ∷ 195 ∷ 169 ∷ 195 ∷ 169 ∷ 195 ∷ 169 ∷ 195 ∷ 169 ∷ 195 ∷ 169 ∷ 195 ∷ 169 ∷ 195 ∷ 169 ∷ 195 ∷ 169 ∷ 195 ∷ 169 ∷ 195 ∷ 169 ∷ 195 ∷ 169 ∷ 195 ∷ 169 ∷ 195 ∷ 169 ∷ 195 ∷ 169 ∷ 195 ∷ 169 ∷ 195 ∷ 169 ∷ 195 ∷ 169 ∷ 195 ∷ 169 ∷ 195 ∷ 169 ∷ 195 ∷ 169 ∷ 195 ∷ 169 ∷ 195 ∷ 169 ∷ 195 ∷ 169 ∷ 195 ∷ 169 ∷ 195 ∷ 169 ∷ 195 ∷ 169 ∷ 195 ∷ 169 ∷ 195 ∷ 169 ∷ 195 ∷ 169 ∷ 195 ∷ 169 ∷ 195 ∷ 169 ∷ 195 ∷ 169 ∷ 195 ∷ 169 ∷ 195 ∷ 169 ∷ 195 ∷ 169 ∷ 195 ∷ 169 ∷ 195 ∷ 169 ∷ 195 ∷ 169 ∷ 195 ∷ 169 ∷ 195 ∷ 169 ∷ 195 ∷ 169 ∷ 195 ∷ 169 ∷ 195 ∷ 169 ∷ 195 ∷ 169 ∷ 195 ∷ 169 ∷ 195 ∷ 169 ∷ 195 ∷ 169 ∷ 195 ∷ 169 ∷ 195 ∷ 169 ∷ 195 ∷ 169 ∷ 195 ∷ 169 ∷ 195 ∷ 169 ∷ 195 ∷ 169 ∷ 195 ∷ 169 ∷ 195 ∷ 169 ∷ 195 ∷ 169 ∷ 195 ∷ 169 ∷ 195 ∷ 169 ∷ 195 ∷ 169 ∷ 195 ∷ 169 ∷ 195 ∷ 169 ∷ 195 ∷ 169 ∷ 195 ∷ 169 ∷ 195 ∷ 169 ∷ 195 ∷ 169 ∷ 195 ∷ 169 ∷ 195 ∷ 169 ∷ 195 ∷ 169 ∷ 195 ∷ 169 ∷ 195 ∷ 169 ∷ 195 ∷ 169 ∷ 195 ∷ 169 ∷ 195 ∷ 169 ∷ 195 ∷ 169 ∷ 195 ∷ 169 ∷ 195 ∷ 169 ∷ 195 ∷ 169 ∷ 195 ∷ 169 ∷ 195 ∷ 169 ∷ 195 ∷ 169 ∷ 195 ∷ 169 ∷ 195 ∷ 169 ∷ 195 ∷ 169 ∷ 195 ∷ 169 ∷ 195 ∷ 169 ∷ 195 ∷ 169 ∷ 195 ∷ 169 ∷ 195 ∷ 169 ∷ 195 ∷ 169 ∷ 195 ∷ 169 ∷ 195 ∷ 169 ∷ 195 ∷ 169 ∷ 195 ∷ 169 ∷ 195 ∷ 169 ∷ 195 ∷ 169 ∷ 195 ∷ 169 ∷ 195 ∷ 169 ∷ 195 ∷ 169 ∷ 195 ∷ 169 ∷ 195 ∷ 169 ∷ 195 ∷ 169 ∷ 195 ∷ 169 ∷ 195 ∷ 169 ∷ 195 ∷ 169 ∷ 195 ∷ 169 ∷ 195 ∷ 169 ∷ 195 ∷ 169 ∷ 195 ∷ 169 ∷ 195 ∷ 169 ∷ 195 ∷ 169 ∷ 195 ∷ 169 ∷ 195 ∷ 169 ∷ 195 ∷ 169 ∷ 195 ∷ 169 ∷ 195 ∷ 169 ∷ 195 ∷ 169 ∷ 195 ∷ 169 ∷ 195 ∷ 169 ∷ 195 ∷ 169 ∷ 195 ∷ 169 ∷ 195 ∷ 169 ∷ 195 ∷ 169 ∷ 195 ∷ 169 ∷ 195 ∷ 169 ∷ 195 ∷ 169 ∷ 195 ∷ 169 ∷ 195 ∷ 169 ∷ 195 ∷ 169 ∷ 195 ∷ 169 ∷ 195 ∷ 169 ∷ 195 ∷ 169 ∷ 195 ∷ 169 ∷ 195 ∷ 169 ∷ 195 ∷ 169 ∷ 195 ∷ 169 ∷ 195 ∷ 169 ∷ 195 ∷ 169 ∷ 195 ∷ 169 ∷ 195 ∷ 169 ∷ 195 ∷ 169 ∷ 195 ∷ 169 ∷ 195 ∷ 169 ∷ 195 ∷ 169 ∷ 195 ∷ 169 ∷ 195 ∷ 169 ∷ 195 ∷ 169 ∷ 195 ∷ 169 ∷ 195 ∷ 169 ∷ 195 ∷ 169 ∷ 195 ∷ 169 ∷ 195 ∷ 169 ∷ 195 ∷ 169 ∷ 195 ∷ 169 ∷ 195 ∷ 169 ∷ 195 ∷ 169 ∷ 195 ∷ 169 ∷ 195 ∷ 169 ∷ 195 ∷ 169 ∷ 195 ∷ 169 ∷ 195 ∷ 169 ∷ 195 ∷ 169 ∷ 195 ∷ 169 ∷ 195 ∷ 169 ∷ 195 ∷ 169 ∷ 195 ∷ 169 ∷ 195 ∷ 169 ∷ 195 ∷ 169 ∷ 195 ∷ 169 ∷ 195 ∷ 169 ∷ 195 ∷ 169 ∷ 195 ∷ 169 ∷ 195 ∷ 169 ∷ 195 ∷ 169 ∷ 195 ∷ 169 ∷ 195 ∷ 169 ∷ 195 ∷ 169 ∷ 195 ∷ 169 ∷ 195 ∷ 169 ∷ 195 ∷ 169 ∷ 195 ∷ 169 ∷ 195 ∷ 169 ∷ 195 ∷ 169 ∷ 195 ∷ 169 ∷ 195 ∷ 169 ∷ 195 ∷ 169 ∷ 195 ∷ 169 ∷ 195 ∷ 169 ∷ 195 ∷ 169 ∷ 195 ∷ 169 ∷ 195 ∷ 169 ∷ 195 ∷ 169 ∷ 195 ∷ 169 ∷ 195 ∷ 169 ∷ 195 ∷ 169 ∷ 195 ∷ 169 ∷ 195 ∷ 169 ∷ 195 ∷ 169 ∷ 195 ∷ 169 ∷ 195 ∷ 169 ∷ 195 ∷ 169 ∷ 195 ∷ 169 ∷ 195 ∷ 169 ∷ 195 ∷ 169 ∷ 195 ∷ 169 ∷ 195 ∷ 169 ∷ 195 ∷ 169 ∷ 195 ∷ 169 ∷ 195 ∷ 169 ∷ 195 ∷ 169 ∷ 195 ∷ 169 ∷ 195 ∷ 169 ∷ 195 ∷ 169 ∷ 195 ∷ 169 ∷ 195 ∷ 169 ∷ 195 ∷ 169 ∷ 195 ∷ 169 ∷ 195 ∷ 169 ∷ 93 ∷ []) ≡ None) ×
    -- label «[⟦é×500⟧]»: no
    (label_answer false (91 ∷ 195 ∷ 169 ∷ 195 ∷ 169 ∷ 195 ∷ 169 ∷ 195 ∷ 169 ∷ 195 ∷ 169 ∷ 195 ∷ 169 ∷ 195 ∷ 169 ∷ 195 ∷ 169 ∷ 195 ∷ 169 ∷ 195 ∷ 169 ∷ 195 ∷ 169 ∷ 195 ∷ 169 ∷ 195 ∷ 169 ∷ 195 ∷ 169 ∷ 195 ∷ 169 ∷ 195 ∷ 169 ∷ 195 ∷ 169 ∷ 195 ∷ 169 ∷ 195 ∷ 169 ∷ 195 ∷ 169 ∷ 195 ∷ 169 ∷ 195 ∷ 169 ∷ 195 ∷ 169 ∷ 195 ∷ 169 ∷ 195 ∷ 169 ∷ 195 ∷ 169 ∷ 195 ∷ 169 ∷ 195 ∷ 169 ∷ 195 ∷ 169 ∷ 195 ∷ 169 ∷ 195 ∷ 169 ∷ 195 ∷ 169 ∷ 195 ∷ 169 ∷ 195 ∷ 169 ∷ 195 ∷ 169 ∷ 195 ∷ 169 ∷ 195 ∷ 169 ∷ 195 ∷ 169 ∷ 195 ∷ 169 ∷ 195 ∷ 169 ∷ 195 ∷ 169 ∷ 195 ∷ 169 ∷ 195 ∷ 169 ∷ 195 ∷ 169 ∷ 195 ∷ 169 ∷ 195 ∷ 169 ∷ 195 ∷ 169 ∷ 195 ∷ 169 ∷ 195 ∷ 169 ∷ 195 ∷ 169 ∷ 195 ∷ 169 ∷ 195 ∷ 169 ∷ 195 ∷ 169 ∷ 195 ∷ 169 ∷ 195 ∷ 169 ∷ 195 ∷ 169 ∷ 195 ∷ 169 ∷ 195 ∷ 169 ∷ 195 ∷ 169 ∷ 195 ∷ 169 ∷ 195 ∷ 169 ∷ 195 ∷ 169 ∷ 195 ∷ 169 ∷ 195 ∷ 169 ∷ 195 ∷ 169 ∷ 195 ∷ 169 ∷ 195 ∷ 169 ∷ 195 ∷ 169 ∷ 195 ∷ 169 ∷ 195 ∷ 169 ∷ 195 ∷ 169 ∷ 195 ∷ 169 ∷ 195 ∷ 169 ∷ 195 ∷ 169 ∷ 195 ∷ 169 ∷ 195 ∷ 169 ∷ 195 ∷ 169 ∷ 195 ∷ 169 ∷ 195 ∷ 169 ∷ 195 ∷ 169 ∷ 195 ∷ 169 ∷ 195 ∷ 169 ∷ 195 ∷ 169 ∷ 195 ∷ 169 ∷ 195 ∷ 169 ∷ 195 ∷ 169 ∷ 195 ∷ 169 ∷ 195 ∷ 169 ∷ 195 ∷ 169 ∷ 195 ∷ 169 ∷ 195 ∷ 169 ∷ 195 ∷ 169 ∷ 195 ∷ 169 ∷ 195 ∷ 169 ∷ 195 ∷ 169 ∷ 195 ∷ 169 ∷ 195 ∷ 169 ∷ 195 ∷ 169 ∷ 195 ∷ 169 ∷ 195 ∷ 169 ∷ 195 ∷ 169 ∷ 195 ∷ 169 ∷ 195 ∷ 169 ∷ 195 ∷ 169 ∷ 195 ∷ 169 ∷ 195 ∷ 169 ∷ 195 ∷ 169 ∷ 195 ∷ 169 ∷ 195 ∷ 169 ∷ 195 ∷ 169 ∷ 195 ∷ 169 ∷ 195 ∷ 169 ∷ 195 ∷ 169 ∷ 195 ∷ 169 ∷ 195 ∷ 169 ∷ 195 ∷ 169 ∷ 195 ∷ 169 ∷ 195 ∷ 169 ∷ 195 ∷ 169 ∷ 195 ∷ 169 ∷ 195 ∷ 169 ∷ 195 ∷ 169 ∷ 195 ∷ 169 ∷ 195 ∷ 169 ∷ 195 ∷ 169 ∷ 195 ∷ 169 ∷ 195 ∷ 169 ∷ 195 ∷ 169 ∷ 195 ∷ 169 ∷ 195 ∷ 169 ∷ 195 ∷ 169 ∷ 195 ∷ 169 ∷ 195 ∷ 169 ∷ 195 ∷ 169 ∷ 195 ∷ 169 ∷ 195 ∷ 169 ∷ 195 ∷ 169 ∷ 195 ∷ 169 ∷ 195 ∷ 169 ∷ 195 ∷ 169 ∷ 195 ∷ 169 ∷ 195 ∷ 169 ∷ 195 ∷ 169 ∷ 195 ∷ 169 ∷ 195 ∷ 169 ∷ 195 ∷ 169 ∷ 195 ∷ 169 ∷ 195 ∷ 169 ∷ 195 ∷ 169 ∷ 195 ∷ 169 ∷ 195 ∷ 169 ∷ 195 ∷ 169 ∷ 195 ∷ 169 ∷ 195 ∷ 169 ∷ 195 ∷ 169 ∷ 195 ∷ 169 ∷ 195 ∷ 169 ∷ 195 ∷ 169 ∷ 195 ∷ 169 ∷ 195 ∷ 169 ∷ 195 ∷ 169 ∷ 195 ∷ 169 ∷ 195 ∷ 169 ∷ 195 ∷ 169 ∷ 195 ∷ 169 ∷ 195 ∷ 169 ∷ 195 ∷ 169 ∷ 195 ∷ 169 ∷ 195 ∷ 169 ∷ 195 ∷ 169 ∷ 195 ∷ 169 ∷ 195 ∷ 169 ∷ 195 ∷ 169 ∷ 195 ∷ 169 ∷ 195 ∷ 169 ∷ 195 ∷ 169 ∷ 195 ∷ 169 ∷ 195 ∷ 169 ∷ 195 ∷ 169 ∷ 195 ∷ 169 ∷ 195 ∷ 169 ∷ 195 ∷ 169 ∷ 195 ∷ 169 ∷ 195 ∷ 169 ∷ 195 ∷ 169 ∷ 195 ∷ 169 ∷ 195 ∷ 169 ∷ 195 ∷ 169 ∷ 195 ∷ 169 ∷ 195 ∷ 169 ∷ 195 ∷ 169 ∷ 195 ∷ 169 ∷ 195 ∷ 169 ∷ 195 ∷ 169 ∷ 195 ∷ 169 ∷ 195 ∷ 169 ∷ 195 ∷ 169 ∷ 195 ∷ 169 ∷ 195 ∷ 169 ∷ 195 ∷ 169 ∷ 195 ∷ 169 ∷ 195 ∷ 169 ∷ 195 ∷ 169 ∷ 195 ∷ 169 ∷ 195 ∷ 169 ∷ 195 ∷ 169 ∷ 195 ∷ 169 ∷ 195 ∷ 169 ∷ 195 ∷ 169 ∷ 195 ∷ 169 ∷ 195 ∷ 169 ∷ 195 ∷ 169 ∷ 195 ∷ 169 ∷ 195 ∷ 169 ∷ 195 ∷ 169 ∷ 195 ∷ 169 ∷ 195 ∷ 169 ∷ 195 ∷ 169 ∷ 195 ∷ 169 ∷ 195 ∷ 169 ∷ 195 ∷ 169 ∷ 195 ∷ 169 ∷ 195 ∷ 169 ∷ 195 ∷ 169 ∷ 195 ∷ 169 ∷ 195 ∷ 169 ∷ 195 ∷ 169 ∷ 195 ∷ 169 ∷ 195 ∷ 169 ∷ 195 ∷ 169 ∷ 195 ∷ 169 ∷ 195 ∷ 169 ∷ 195 ∷ 169 ∷ 195 ∷ 169 ∷ 195 ∷ 169 ∷ 195 ∷ 169 ∷ 195 ∷ 169 ∷ 195 ∷ 169 ∷ 195 ∷ 169 ∷ 195 ∷ 169 ∷ 195 ∷ 169 ∷ 195 ∷ 169 ∷ 195 ∷ 169 ∷ 195 ∷ 169 ∷ 195 ∷ 169 ∷ 195 ∷ 169 ∷ 195 ∷ 169 ∷ 195 ∷ 169 ∷ 195 ∷ 169 ∷ 195 ∷ 169 ∷ 195 ∷ 169 ∷ 195 ∷ 169 ∷ 195 ∷ 169 ∷ 195 ∷ 169 ∷ 195 ∷ 169 ∷ 195 ∷ 169 ∷ 195 ∷ 169 ∷ 195 ∷ 169 ∷ 195 ∷ 169 ∷ 195 ∷ 169 ∷ 195 ∷ 169 ∷ 195 ∷ 169 ∷ 195 ∷ 169 ∷ 195 ∷ 169 ∷ 195 ∷ 169 ∷ 195 ∷ 169 ∷ 195 ∷ 169 ∷ 195 ∷ 169 ∷ 195 ∷ 169 ∷ 195 ∷ 169 ∷ 195 ∷ 169 ∷ 195 ∷ 169 ∷ 195 ∷ 169 ∷ 195 ∷ 169 ∷ 195 ∷ 169 ∷ 195 ∷ 169 ∷ 195 ∷ 169 ∷ 195 ∷ 169 ∷ 195 ∷ 169 ∷ 195 ∷ 169 ∷ 195 ∷ 169 ∷ 195 ∷ 169 ∷ 195 ∷ 169 ∷ 195 ∷ 169 ∷ 195 ∷ 169 ∷ 195 ∷ 169 ∷ 195 ∷ 169 ∷ 195 ∷ 169 ∷ 195 ∷ 169 ∷ 195 ∷ 169 ∷ 195 ∷ 169 ∷ 195 ∷ 169 ∷ 195 ∷ 169 ∷ 195 ∷ 169 ∷ 195 ∷ 169 ∷ 195 ∷ 169 ∷ 195 ∷ 169 ∷ 195 ∷ 169 ∷ 195 ∷ 169 ∷ 195 ∷ 169 ∷ 195 ∷ 169 ∷ 195 ∷ 169 ∷ 195 ∷ 169 ∷ 195 ∷ 169 ∷ 195 ∷ 169 ∷ 195 ∷ 169 ∷ 195 ∷ 169 ∷ 195 ∷ 169 ∷ 195 ∷ 169 ∷ 195 ∷ 169 ∷ 195 ∷ 169 ∷ 195 ∷ 169 ∷ 195 ∷ 169 ∷ 195 ∷ 169 ∷ 195 ∷ 169 ∷ 195 ∷ 169 ∷ 195 ∷ 169 ∷ 195 ∷ 169 ∷ 195 ∷ 169 ∷ 195 ∷ 169 ∷ 195 ∷ 169 ∷ 195 ∷ 169 ∷ 195 ∷ 169 ∷ 195 ∷ 169 ∷ 195 ∷ 169 ∷ 195 ∷ 169 ∷ 195 ∷ 169 ∷ 195 ∷ 169 ∷ 195 ∷ 169 ∷ 195 ∷ 169 ∷ 195 ∷ 169 ∷ 195 ∷ 169 ∷ 195 ∷ 169 ∷ 195 ∷ 169 ∷ 195 ∷ 169 ∷ 195 ∷ 169 ∷ 195 ∷ 169 ∷ 195 ∷ 169 ∷ 195 ∷ 169 ∷ 195 ∷ 169 ∷ 195 ∷ 169 ∷ 195 ∷ 169 ∷ 195 ∷ 169 ∷ 195 ∷ 169 ∷ 195 ∷ 169 ∷ 195 ∷ 169 ∷ 195 ∷ 169 ∷ 195 ∷ 169 ∷ 195 ∷ 169 ∷ 195 ∷ 169 ∷ 195 ∷ 169 ∷ 195 ∷ 169 ∷ 195 ∷ 169 ∷ 195 ∷ 169 ∷ 195 ∷ 169 ∷ 195 ∷ 169 ∷ 195 ∷ 169 ∷ 195 ∷ 169 ∷ 195 ∷ 169 ∷ 195 ∷ 169 ∷ 195 ∷ 169 ∷ 195 ∷ 169 ∷ 195 ∷ 169 ∷ 195 ∷ 169 ∷ 195 ∷ 169 ∷ 195 ∷ 169 ∷ 195 ∷ 169 ∷ 195 ∷ 169 ∷ 195 ∷ 169 ∷ 195 ∷ 169 ∷ 195 ∷ 169 ∷ 195 ∷ 169 ∷ 195 ∷ 169 ∷ 195 ∷ 169 ∷ 195 ∷ 169 ∷ 195 ∷ 169 ∷ 195 ∷ 169 ∷ 195 ∷ 169 ∷ 195 ∷ 169 ∷ 195 ∷ 169 ∷ 195 ∷ 169 ∷ 195 ∷ 169 ∷ 195 ∷ 169 ∷ 195 ∷ 169 ∷ 195 ∷ 169 ∷ 195 ∷ 169 ∷ 195 ∷ 169 ∷ 195 ∷ 169 ∷ 195 ∷ 169 ∷ 195 ∷ 169 ∷ 195 ∷ 169 ∷ 195 ∷ 169 ∷ 195 ∷ 169 ∷ 195 ∷ 169 ∷ 195 ∷ 169 ∷ 195 ∷ 169 ∷ 195 ∷ 169 ∷ 195 ∷ 169 ∷ 195 ∷ 169 ∷ 195 ∷ 169 ∷ 195 ∷ 169 ∷ 195 ∷ 169 ∷ 195 ∷ 169 ∷ 195 ∷ 169 ∷ 195 ∷ 169 ∷ 195 ∷ 169 ∷ 195 ∷ 169 ∷ 195 ∷ 169 ∷ 195 ∷ 169 ∷ 195 ∷ 169 ∷ 195 ∷ 169 ∷ 195 ∷ 169 ∷ 195 ∷ 169 ∷ 195 ∷ 169 ∷ 195 ∷ 169 ∷ 195 ∷ 169 ∷ 195 ∷ 169 ∷ 195 ∷ 169 ∷ 195 ∷ 169 ∷ 195 ∷ 169 ∷ 195 ∷ 169 ∷ 195 ∷ 169 ∷ 195 ∷ 169 ∷ 195 ∷ 169 ∷ 195 ∷ 169 ∷ 195 ∷ 169 ∷ 195 ∷ 169 ∷ 195 ∷ 169 ∷ 195 ∷ 169 ∷ 195 ∷ 169 ∷ 195 ∷ 169 ∷ 195 ∷ 169 ∷ 195 ∷ 169 ∷ 195 ∷ 169 ∷ 195 ∷ 169 ∷ 195 ∷ 169 ∷ 195 ∷ 169 ∷ 195 ∷ 169 ∷ 195 ∷ 169 ∷ 195 ∷ 169 ∷ 195 ∷ 169 ∷ 195 ∷ 169 ∷ 195 ∷ 169 ∷ 195 ∷ 169 ∷ 195 ∷ 169 ∷ 195 ∷ 169 ∷ 195 ∷ 169 ∷ 195 ∷ 169 ∷ 195 ∷ 169 ∷ 195 ∷ 169 ∷ 195 ∷ 169 ∷ 195 ∷ 169 ∷ 195 ∷ 169 ∷ 195 ∷ 169 ∷ 195 ∷ 169 ∷ 195 ∷ 169 ∷ 195 ∷ 169 ∷ 195 ∷ 169 ∷ 195 ∷ 169 ∷ 195 ∷ 169 ∷ 195 ∷ 169 ∷ 195 ∷ 169 ∷ 195 ∷ 169 ∷ 195 ∷ 169 ∷ 195 ∷ 169 ∷ 195 ∷ 169 ∷ 195 ∷ 169 ∷ 195 ∷ 169 ∷ 195 ∷ 169 ∷ 195 ∷ 169 ∷ 195 ∷ 169 ∷ 195 ∷ 169 ∷ 195 ∷ 169 ∷ 195 ∷ 169 ∷ 195 ∷ 169 ∷ 195 ∷ 169 ∷ 195 ∷ 169 ∷ 195 ∷ 169 ∷ 195 ∷ 169 ∷ 195 ∷ 169 ∷ 195 ∷ 169 ∷ 195 ∷ 169 ∷ 195 ∷ 169 ∷ 195 ∷ 169 ∷ 195 ∷ 169 ∷ 195 ∷ 169 ∷ 195 ∷ 169 ∷ 195 ∷ 169 ∷ 195 ∷ 169 ∷ 195 ∷ 169 ∷ 195 ∷ 169 ∷ 195 ∷ 169 ∷ 195 ∷ 169 ∷ 195 ∷ 169 ∷ 195 ∷ 169 ∷ 195 ∷ 169 ∷ 195 ∷ 169 ∷ 195 ∷ 169 ∷ 195 ∷ 169 ∷ 195 ∷ 169 ∷ 93 ∷ []) ≡ None) ×
    -- label commonmark «[⟦a×998⟧␊b]»: no
    (label_answer true (91 ∷ 97 ∷ 97 ∷ 97 ∷ 97 ∷ 97 ∷ 97 ∷ 97 ∷ 97 ∷ 97 ∷ 97 ∷ 97 ∷ 97 ∷ 97 ∷ 97 ∷ 97 ∷ 97 ∷ 97 ∷ 97 ∷ 97 ∷ 97 ∷ 97 ∷ 97 ∷ 97 ∷ 97 ∷ 97 ∷ 97 ∷ 97 ∷ 97 ∷ 97 ∷ 97 ∷ 97 ∷ 97 ∷ 97 ∷ 97 ∷ 97 ∷ 97 ∷ 97 ∷ 97 ∷ 97 ∷ 97 ∷ 97 ∷ 97 ∷ 97 ∷ 97 ∷ 97 ∷ 97 ∷ 97 ∷ 97 ∷ 97 ∷ 97 ∷ 97 ∷ 97 ∷ 97 ∷ 97 ∷ 97 ∷ 97 ∷ 97 ∷ 97 ∷ 97 ∷ 97 ∷ 97 ∷ 97 ∷ 97 ∷ 97 ∷ 97 ∷ 97 ∷ 97 ∷ 97 ∷ 97 ∷ 97 ∷ 97 ∷ 97 ∷ 97 ∷ 97 ∷ 97 ∷ 97 ∷ 97 ∷ 97 ∷ 97 ∷ 97 ∷ 97 ∷ 97 ∷ 97 ∷ 97 ∷ 97 ∷ 97 ∷ 97 ∷ 97 ∷ 97 ∷ 97 ∷ 97 ∷ 97 ∷ 97 ∷ 97 ∷ 97 ∷ 97 ∷ 97 ∷ 97 ∷ 97 ∷ 97 ∷ 97 ∷ 97 ∷ 97 ∷ 97 ∷ 97 ∷ 97 ∷ 97 ∷ 97 ∷ 97 ∷ 97 ∷ 97 ∷ 97 ∷ 97 ∷ 97 ∷ 97 ∷ 97 ∷ 97 ∷ 97 ∷ 97 ∷ 97 ∷ 97 ∷ 97 ∷ 97 ∷ 97 ∷ 97 ∷ 97 ∷ 97 ∷ 97 ∷ 97 ∷ 97 ∷ 97 ∷ 97 ∷ 97 ∷ 97 ∷ 97 ∷ 97 ∷ 97 ∷ 97 ∷ 97 ∷ 97 ∷ 97 ∷ 97 ∷ 97 ∷ 97 ∷ 97 ∷ 97 ∷ 97 ∷ 97 ∷ 97 ∷ 97 ∷ 97 ∷ 97 ∷ 97 ∷ 97 ∷ 97 ∷ 97 ∷ 97 ∷ 97 ∷ 97 ∷ 97 ∷ 97 ∷ 97 ∷ 97 ∷ 97 ∷ 97 ∷ 97 ∷ 97 ∷ 97 ∷ 97 ∷ 97 ∷ 97 ∷ 97 ∷ 97 ∷ 97 ∷ 97 ∷ 97 ∷ 97 ∷ 97 ∷ 97 ∷ 97 ∷ 97 ∷ 97 ∷ 97 ∷ 97 ∷ 97 ∷ 97 ∷ 97 ∷ 97 ∷ 97 ∷ 97 ∷ 97 ∷ 97 ∷ 97 ∷ 97 ∷ 97 ∷ 97 ∷ 97 ∷ 97 ∷ 97 ∷ 97 ∷ 97 ∷ 97 ∷ 97 ∷ 97 ∷ 97 ∷ 97 ∷ 97 ∷ 97 ∷ 97 ∷ 97 ∷ 97 ∷ 97 ∷ 97 ∷ 97 ∷ 97 ∷ 97 ∷ 97 ∷ 97 ∷ 97 ∷ 97 ∷ 97 ∷ 97 ∷ 97 ∷ 97 ∷ 97 ∷ 97 ∷ 97 ∷ 97 ∷ 97 ∷ 97 ∷ 97 ∷ 97 ∷ 97 ∷ 97 ∷ 97 ∷ 97 ∷ 97 ∷ 97 ∷ 97 ∷ 97 ∷ 97 ∷ 97 ∷ 97 ∷ 97 ∷ 97 ∷ 97 ∷ 97 ∷ 97 ∷ 97 ∷ 97 ∷ 97 ∷ 97 ∷ 97 ∷ 97 ∷ 97 ∷ 97 ∷ 97 ∷ 97 ∷ 97 ∷ 97 ∷ 97 ∷ 97 ∷ 97 ∷ 97 ∷ 97 ∷ 97 ∷ 97 ∷ 97 ∷ 97 ∷ 97 ∷ 97 ∷ 97 ∷ 97 ∷ 97 ∷ 97 ∷ 97 ∷ 97 ∷ 97 ∷ 97 ∷ 97 ∷ 97 ∷ 97 ∷ 97 ∷ 97 ∷ 97 ∷ 97 ∷ 97 ∷ 97 ∷ 97 ∷ 97 ∷ 97 ∷ 97 ∷ 97 ∷ 97 ∷ 97 ∷ 97 ∷ 97 ∷ 97 ∷ 97 ∷ 97 ∷ 97 ∷ 97 ∷ 97 ∷ 97 ∷ 97 ∷ 97 ∷ 97 ∷ 97 ∷ 97 ∷ 97 ∷ 97 ∷ 97 ∷ 97 ∷ 97 ∷ 97 ∷ 97 ∷ 97 ∷ 97 ∷ 97 ∷ 97 ∷ 97 ∷ 97 ∷ 97 ∷ 97 ∷ 97 ∷ 97 ∷ 97 ∷ 97 ∷ 97 ∷ 97 ∷ 97 ∷ 97 ∷ 97 ∷ 97 ∷ 97 ∷ 97 ∷ 97 ∷ 97 ∷ 97 ∷ 97 ∷ 97 ∷ 97 ∷ 97 ∷ 97 ∷ 97 ∷ 97 ∷ 97 ∷ 97 ∷ 97 ∷ 97 ∷ 97 ∷ 97 ∷ 97 ∷ 97 ∷ 97 ∷ 97 ∷ 97 ∷ 97 ∷ 97 ∷ 97 ∷ 97 ∷ 97 ∷ 97 ∷ 97 ∷ 97 ∷ 97 ∷ 97 ∷ 97 ∷ 97 ∷ 97 ∷ 97 ∷ 97 ∷ 97 ∷ 97 ∷ 97 ∷ 97 ∷ 97 ∷ 97 ∷ 97 ∷ 97 ∷ 97 ∷ 97 ∷ 97 ∷ 97 ∷ 97 ∷ 97 ∷ 97 ∷ 97 ∷ 97 ∷ 97 ∷ 97 ∷ 97 ∷ 97 ∷ 97 ∷ 97 ∷ 97 ∷ 97 ∷ 97 ∷ 97 ∷ 97 ∷ 97 ∷ 97 ∷ 97 ∷ 97 ∷ 97 ∷ 97 ∷ 97 ∷ 97 ∷ 97 ∷ 97 ∷ 97 ∷ 97 ∷ 97 ∷ 97 ∷ 97 ∷ 97 ∷ 97 ∷ 97 ∷ 97 ∷ 97 ∷ 97 ∷ 97 ∷ 97 ∷ 97 ∷ 97 ∷ 97 ∷ 97 ∷ 97 ∷ 97 ∷ 97 ∷ 97 ∷ 97 ∷ 97 ∷ 97 ∷ 97 ∷ 97 ∷ 97 ∷ 97 ∷ 97 ∷ 97 ∷ 97 ∷ 97 ∷ 97 ∷ 97 ∷ 97 ∷ 97 ∷ 97 ∷ 97 ∷ 97 ∷ 97 ∷ 97 ∷ 97 ∷ 97 ∷ 97 ∷ 97 ∷ 97 ∷ 97 ∷ 97 ∷ 97 ∷ 97 ∷ 97 ∷ 97 ∷ 97 ∷ 97 ∷ 97 ∷ 97 ∷ 97 ∷ 97 ∷ 97 ∷ 97 ∷ 97 ∷ 97 ∷ 97 ∷ 97 ∷ 97 ∷ 97 ∷ 97 ∷ 97 ∷ 97 ∷ 97 ∷ 97 ∷ 97 ∷ 97 ∷ 97 ∷ 97 ∷ 97 ∷ 97 ∷ 97 ∷ 97 ∷ 97 ∷ 97 ∷ 97 ∷ 97 ∷ 97 ∷ 97 ∷ 97 ∷ 97 ∷ 97 ∷ 97 ∷ 97 ∷ 97 ∷ 97 ∷ 97 ∷ 97 ∷ 97 ∷ 97 ∷ 97 ∷ 97 ∷ 97 ∷ 97 ∷ 97 ∷ 97 ∷ 97 ∷ 97 ∷ 97 ∷ 97 ∷ 97 ∷ 97 ∷ 97 ∷ 97 ∷ 97 ∷ 97 ∷ 97 ∷ 97 ∷ 97 ∷ 97 ∷ 97 ∷ 97 ∷ 97 ∷ 97 ∷ 97 ∷ 97 ∷ 97 ∷ 97 ∷ 97 ∷ 97 ∷ 97 ∷ 97 ∷ 97 ∷ 97 ∷ 97 ∷ 97 ∷ 97 ∷ 97 ∷ 97 ∷ 97 ∷ 97 ∷ 97 ∷ 97 ∷ 97 ∷ 97 ∷ 97 ∷ 97 ∷ 97 ∷ 97 ∷ 97 ∷ 97 ∷ 97 ∷ 97 ∷ 97 ∷ 97 ∷ 97 ∷ 97 ∷ 97 ∷ 97 ∷ 97 ∷ 97 ∷ 97 ∷ 97 ∷ 97 ∷ 97 ∷ 97 ∷ 97 ∷ 97 ∷ 97 ∷ 97 ∷ 97 ∷ 97 ∷ 97 ∷ 97 ∷ 97 ∷ 97 ∷ 97 ∷ 97 ∷ 97 ∷ 97 ∷ 97 ∷ 97 ∷ 97 ∷ 97 ∷ 97 ∷ 97 ∷ 97 ∷ 97 ∷ 97 ∷ 97 ∷ 97 ∷ 97 ∷ 97 ∷ 97 ∷ 97 ∷ 97 ∷ 97 ∷ 97 ∷ 97 ∷ 97 ∷ 97 ∷ 97 ∷ 97 ∷ 97 ∷ 97 ∷ 97 ∷ 97 ∷ 97 ∷ 97 ∷ 97 ∷ 97 ∷ 97 ∷ 97 ∷ 97 ∷ 97 ∷ 97 ∷ 97 ∷ 97 ∷ 97 ∷ 97 ∷ 97 ∷ 97 ∷ 97 ∷ 97 ∷ 97 ∷ 97 ∷ 97 ∷ 97 ∷ 97 ∷ 97 ∷ 97 ∷ 97 ∷ 97 ∷ 97 ∷ 97 ∷ 97 ∷ 97 ∷ 97 ∷ 97 ∷ 97 ∷ 97 ∷ 97 ∷ 97 ∷ 97 ∷ 97 ∷ 97 ∷ 97 ∷ 97 ∷ 97 ∷ 97 ∷ 97 ∷ 97 ∷ 97 ∷ 97 ∷ 97 ∷ 97 ∷ 97 ∷ 97 ∷ 97 ∷ 97 ∷ 97 ∷ 97 ∷ 97 ∷ 97 ∷ 97 ∷ 97 ∷ 97 ∷ 97 ∷ 97 ∷ 97 ∷ 97 ∷ 97 ∷ 97 ∷ 97 ∷ 97 ∷ 97 ∷ 97 ∷ 97 ∷ 97 ∷ 97 ∷ 97 ∷ 97 ∷ 97 ∷ 97 ∷ 97 ∷ 97 ∷ 97 ∷ 97 ∷ 97 ∷ 97 ∷ 97 ∷ 97 ∷ 97 ∷ 97 ∷ 97 ∷ 97 ∷ 97 ∷ 97 ∷ 97 ∷ 97 ∷ 97 ∷ 97 ∷ 97 ∷ 97 ∷ 97 ∷ 97 ∷ 97 ∷ 97 ∷ 97 ∷ 97 ∷ 97 ∷ 97 ∷ 97 ∷ 97 ∷ 97 ∷ 97 ∷ 97 ∷ 97 ∷ 97 ∷ 97 ∷ 97 ∷ 97 ∷ 97 ∷ 97 ∷ 97 ∷ 97 ∷ 97 ∷ 97 ∷ 97 ∷ 97 ∷ 97 ∷ 97 ∷ 97 ∷ 97 ∷ 97 ∷ 97 ∷ 97 ∷ 97 ∷ 97 ∷ 97 ∷ 97 ∷ 97 ∷ 97 ∷ 97 ∷ 97 ∷ 97 ∷ 97 ∷ 97 ∷ 97 ∷ 97 ∷ 97 ∷ 97 ∷ 97 ∷ 97 ∷ 97 ∷ 97 ∷ 97 ∷ 97 ∷ 97 ∷ 97 ∷ 97 ∷ 97 ∷ 97 ∷ 97 ∷ 97 ∷ 97 ∷ 97 ∷ 97 ∷ 97 ∷ 97 ∷ 97 ∷ 97 ∷ 97 ∷ 97 ∷ 97 ∷ 97 ∷ 97 ∷ 97 ∷ 97 ∷ 97 ∷ 97 ∷ 97 ∷ 97 ∷ 97 ∷ 97 ∷ 97 ∷ 97 ∷ 97 ∷ 97 ∷ 97 ∷ 97 ∷ 97 ∷ 97 ∷ 97 ∷ 97 ∷ 97 ∷ 97 ∷ 97 ∷ 97 ∷ 97 ∷ 97 ∷ 97 ∷ 97 ∷ 97 ∷ 97 ∷ 97 ∷ 97 ∷ 97 ∷ 97 ∷ 97 ∷ 97 ∷ 97 ∷ 97 ∷ 97 ∷ 97 ∷ 97 ∷ 97 ∷ 97 ∷ 97 ∷ 97 ∷ 97 ∷ 97 ∷ 97 ∷ 97 ∷ 97 ∷ 97 ∷ 97 ∷ 97 ∷ 97 ∷ 97 ∷ 97 ∷ 97 ∷ 97 ∷ 97 ∷ 97 ∷ 97 ∷ 97 ∷ 97 ∷ 97 ∷ 97 ∷ 97 ∷ 97 ∷ 97 ∷ 97 ∷ 97 ∷ 97 ∷ 97 ∷ 97 ∷ 97 ∷ 97 ∷ 97 ∷ 97 ∷ 97 ∷ 97 ∷ 97 ∷ 97 ∷ 97 ∷ 97 ∷ 97 ∷ 97 ∷ 97 ∷ 97 ∷ 97 ∷ 97 ∷ 97 ∷ 97 ∷ 97 ∷ 97 ∷ 97 ∷ 97 ∷ 97 ∷ 97 ∷ 97 ∷ 97 ∷ 97 ∷ 97 ∷ 97 ∷ 97 ∷ 97 ∷ 97 ∷ 97 ∷ 97 ∷ 97 ∷ 97 ∷ 97 ∷ 97 ∷ 97 ∷ 97 ∷ 97 ∷ 97 ∷ 97 ∷ 97 ∷ 97 ∷ 97 ∷ 97 ∷ 97 ∷ 97 ∷ 97 ∷ 97 ∷ 97 ∷ 97 ∷ 97 ∷ 97 ∷ 97 ∷ 97 ∷ 97 ∷ 97 ∷ 97 ∷ 97 ∷ 97 ∷ 97 ∷ 97 ∷ 97 ∷ 97 ∷ 97 ∷ 97 ∷ 97 ∷ 97 ∷ 97 ∷ 97 ∷ 97 ∷ 97 ∷ 97 ∷ 97 ∷ 97 ∷ 97 ∷ 97 ∷ 97 ∷ 97 ∷ 97 ∷ 97 ∷ 97 ∷ 97 ∷ 97 ∷ 97 ∷ 97 ∷ 97 ∷ 97 ∷ 97 ∷ 97 ∷ 97 ∷ 97 ∷ 97 ∷ 97 ∷ 97 ∷ 97 ∷ 97 ∷ 97 ∷ 97 ∷ 97 ∷ 97 ∷ 97 ∷ 97 ∷ 97 ∷ 97 ∷ 97 ∷ 97 ∷ 97 ∷ 97 ∷ 97 ∷ 97 ∷ 97 ∷ 97 ∷ 97 ∷ 97 ∷ 97 ∷ 97 ∷ 97 ∷ 97 ∷ 97 ∷ 97 ∷ 97 ∷ 97 ∷ 97 ∷ 97 ∷ 97 ∷ 97 ∷ 97 ∷ 97 ∷ 97 ∷ 97 ∷ 97 ∷ 97 ∷ 97 ∷ 97 ∷ 97 ∷ 97 ∷ 97 ∷ 97 ∷ 97 ∷ 97 ∷ 97 ∷ 10 ∷ 98 ∷ 93 ∷ []) ≡ None) ×
    -- label commonmark «[⟦a×997⟧␊ b]»: Reference 0-1002 [ReferenceMarker 0-1, ReferenceString 1-1001 [Data 1-998, LineEnding 998-999, SpaceOrTab 999-1000, Data 1000-1001], ReferenceMarker 1001-1002]
    (label_answer true (91 ∷ 97 ∷ 97 ∷ 97 ∷ 97 ∷ 97 ∷ 97 ∷ 97 ∷ 97 ∷ 97 ∷ 97 ∷ 97 ∷ 97 ∷ 97 ∷ 97 ∷ 97 ∷ 97 ∷ 97 ∷ 97 ∷ 97 ∷ 97 ∷ 97 ∷ 97 ∷ 97 ∷ 97 ∷ 97 ∷ 97 ∷ 97 ∷ 97 ∷ 97 ∷ 97 ∷ 97 ∷ 97 ∷ 97 ∷ 97 ∷ 97 ∷ 97 ∷ 97 ∷ 97 ∷ 97 ∷ 97 ∷ 97 ∷ 97 ∷ 97 ∷ 97 ∷ 97 ∷ 97 ∷ 97 ∷ 97 ∷ 97 ∷ 97 ∷ 97 ∷ 97 ∷ 97 ∷ 97 ∷ 97 ∷ 97 ∷ 97 ∷ 97 ∷ 97 ∷ 97 ∷ 97 ∷ 97 ∷ 97 ∷ 97 ∷ 97 ∷ 97 ∷ 97 ∷ 97 ∷ 97 ∷ 97 ∷ 97 ∷ 97 ∷ 97 ∷ 97 ∷ 97 ∷ 97 ∷ 97 ∷ 97 ∷ 97 ∷ 97 ∷ 97 ∷ 97 ∷ 97 ∷ 97 ∷ 97 ∷ 97 ∷ 97 ∷ 97 ∷ 97 ∷ 97 ∷ 97 ∷ 97 ∷ 97 ∷ 97 ∷ 97 ∷ 97 ∷ 97 ∷ 97 ∷ 97 ∷ 97 ∷ 97 ∷ 97 ∷ 97 ∷ 97 ∷ 97 ∷ 97 ∷ 97 ∷ 97 ∷ 97 ∷ 97 ∷ 97 ∷ 97 ∷ 97 ∷ 97 ∷ 97 ∷ 97 ∷ 97 ∷ 97 ∷ 97 ∷ 97 ∷ 97 ∷ 97 ∷ 97 ∷ 97 ∷ 97 ∷ 97 ∷ 97 ∷ 97 ∷ 97 ∷ 97 ∷ 97 ∷ 97 ∷ 97 ∷ 97 ∷ 97 ∷ 97 ∷ 97 ∷ 97 ∷ 97 ∷ 97 ∷ 97 ∷ 97 ∷ 97 ∷ 97 ∷ 97 ∷ 97 ∷ 97 ∷ 97 ∷ 97 ∷ 97 ∷ 97 ∷ 97 ∷ 97 ∷ 97 ∷ 97 ∷ 97 ∷ 97 ∷ 97 ∷ 97 ∷ 97 ∷ 97 ∷ 97 ∷ 97 ∷ 97 ∷ 97 ∷ 97 ∷ 97 ∷ 97 ∷ 97 ∷ 97 ∷ 97 ∷ 97 ∷ 97 ∷ 97 ∷ 97 ∷ 97 ∷ 97 ∷ 97 ∷ 97 ∷ 97 ∷ 97 ∷ 97 ∷ 97 ∷ 97 ∷ 97 ∷ 97 ∷ 97 ∷ 97 ∷ 97 ∷ 97 ∷ 97 ∷ 97 ∷ 97 ∷ 97 ∷ 97 ∷ 97 ∷ 97 ∷ 97 ∷ 97 ∷ 97 ∷ 97 ∷ 97 ∷ 97 ∷ 97 ∷ 97 ∷ 97 ∷ 97 ∷ 97 ∷ 97 ∷ 97 ∷ 97 ∷ 97 ∷ 97 ∷ 97 ∷ 97 ∷ 97 ∷ 97 ∷ 97 ∷ 97 ∷ 97 ∷ 97 ∷ 97 ∷ 97 ∷ 97 ∷ 97 ∷ 97 ∷ 97 ∷ 97 ∷ 97 ∷ 97 ∷ 97 ∷ 97 ∷ 97 ∷ 97 ∷ 97 ∷ 97 ∷ 97 ∷ 97 ∷ 97 ∷ 97 ∷ 97 ∷ 97 ∷ 97 ∷ 97 ∷ 97 ∷ 97 ∷ 97 ∷ 97 ∷ 97 ∷ 97 ∷ 97 ∷ 97 ∷ 97 ∷ 97 ∷ 97 ∷ 97 ∷ 97 ∷ 97 ∷ 97 ∷ 97 ∷ 97 ∷ 97 ∷ 97 ∷ 97 ∷ 97 ∷ 97 ∷ 97 ∷ 97 ∷ 97 ∷ 97 ∷ 97 ∷ 97 ∷ 97 ∷ 97 ∷ 97 ∷ 97 ∷ 97 ∷ 97 ∷ 97 ∷ 97 ∷ 97 ∷ 97 ∷ 97 ∷ 97 ∷ 97 ∷ 97 ∷ 97 ∷ 97 ∷ 97 ∷ 97 ∷ 97 ∷ 97 ∷ 97 ∷ 97 ∷ 97 ∷ 97 ∷ 97 ∷ 97 ∷ 97 ∷ 97 ∷ 97 ∷ 97 ∷ 97 ∷ 97 ∷ 97 ∷ 97 ∷ 97 ∷ 97 ∷ 97 ∷ 97 ∷ 97 ∷ 97 ∷ 97 ∷ 97 ∷ 97 ∷ 97 ∷ 97 ∷ 97 ∷ 97 ∷ 97 ∷ 97 ∷ 97 ∷ 97 ∷ 97 ∷ 97 ∷ 97 ∷ 97 ∷ 97 ∷ 97 ∷ 97 ∷ 97 ∷ 97 ∷ 97 ∷ 97 ∷ 97 ∷ 97 ∷ 97 ∷ 97 ∷ 97 ∷ 97 ∷ 97 ∷ 97 ∷ 97 ∷ 97 ∷ 97 ∷ 97 ∷ 97 ∷ 97 ∷ 97 ∷ 97 ∷ 97 ∷ 97 ∷ 97 ∷ 97 ∷ 97 ∷ 97 ∷ 97 ∷ 97 ∷ 97 ∷ 97 ∷ 97 ∷ 97 ∷ 97 ∷ 97 ∷ 97 ∷ 97 ∷ 97 ∷ 97 ∷ 97 ∷ 97 ∷ 97 ∷ 97 ∷ 97 ∷ 97 ∷ 97 ∷ 97 ∷ 97 ∷ 97 ∷ 97 ∷ 97 ∷ 97 ∷ 97 ∷ 97 ∷ 97 ∷ 97 ∷ 97 ∷ 97 ∷ 97 ∷ 97 ∷ 97 ∷ 97 ∷ 97 ∷ 97 ∷ 97 ∷ 97 ∷ 97 ∷ 97 ∷ 97 ∷ 97 ∷ 97 ∷ 97 ∷ 97 ∷ 97 ∷ 97 ∷ 97 ∷ 97 ∷ 97 ∷ 97 ∷ 97 ∷ 97 ∷ 97 ∷ 97 ∷ 97 ∷ 97 ∷ 97 ∷ 97 ∷ 97 ∷ 97 ∷ 97 ∷ 97 ∷ 97 ∷ 97 ∷ 97 ∷ 97 ∷ 97 ∷ 97 ∷ 97 ∷ 97 ∷ 97 ∷ 97 ∷ 97 ∷ 97 ∷ 97 ∷ 97 ∷ 97 ∷ 97 ∷ 97 ∷ 97 ∷ 97 ∷ 97 ∷ 97 ∷ 97 ∷ 97 ∷ 97 ∷ 97 ∷ 97 ∷ 97 ∷ 97 ∷ 97 ∷ 97 ∷ 97 ∷ 97 ∷ 97 ∷ 97 ∷ 97 ∷ 97 ∷ 97 ∷ 97 ∷ 97 ∷ 97 ∷ 97 ∷ 97 ∷ 97 ∷ 97 ∷ 97 ∷ 97 ∷ 97 ∷ 97 ∷ 97 ∷ 97 ∷ 97 ∷ 97 ∷ 97 ∷ 97 ∷ 97 ∷ 97 ∷ 97 ∷ 97 ∷ 97 ∷ 97 ∷ 97 ∷ 97 ∷ 97 ∷ 97 ∷ 97 ∷ 97 ∷ 97 ∷ 97 ∷ 97 ∷ 97 ∷ 97 ∷ 97 ∷ 97 ∷ 97 ∷ 97 ∷ 97 ∷ 97 ∷ 97 ∷ 97 ∷ 97 ∷ 97 ∷ 97 ∷ 97 ∷ 97 ∷ 97 ∷ 97 ∷ 97 ∷ 97 ∷ 97 ∷ 97 ∷ 97 ∷ 97 ∷ 97 ∷ 97 ∷ 97 ∷ 97 ∷ 97 ∷ 97 ∷ 97 ∷ 97 ∷ 97 ∷ 97 ∷ 97 ∷ 97 ∷ 97 ∷ 97 ∷ 97 ∷ 97 ∷ 97 ∷ 97 ∷ 97 ∷ 97 ∷ 97 ∷ 97 ∷ 97 ∷ 97 ∷ 97 ∷ 97 ∷ 97 ∷ 97 ∷ 97 ∷ 97 ∷ 97 ∷ 97 ∷ 97 ∷ 97 ∷ 97 ∷ 97 ∷ 97 ∷ 97 ∷ 97 ∷ 97 ∷ 97 ∷ 97 ∷ 97 ∷ 97 ∷ 97 ∷ 97 ∷ 97 ∷ 97 ∷ 97 ∷ 97 ∷ 97 ∷ 97 ∷ 97 ∷ 97 ∷ 97 ∷ 97 ∷ 97 ∷ 97 ∷ 97 ∷ 97 ∷ 97 ∷ 97 ∷ 97 ∷ 97 ∷ 97 ∷ 97 ∷ 97 ∷ 97 ∷ 97 ∷ 97 ∷ 97 ∷ 97 ∷ 97 ∷ 97 ∷ 97 ∷ 97 ∷ 97 ∷ 97 ∷ 97 ∷ 97 ∷ 97 ∷ 97 ∷ 97 ∷ 97 ∷ 97 ∷ 97 ∷ 97 ∷ 97 ∷ 97 ∷ 97 ∷ 97 ∷ 97 ∷ 97 ∷ 97 ∷ 97 ∷ 97 ∷ 97 ∷ 97 ∷ 97 ∷ 97 ∷ 97 ∷ 97 ∷ 97 ∷ 97 ∷ 97 ∷ 97 ∷ 97 ∷ 97 ∷ 97 ∷ 97 ∷ 97 ∷ 97 ∷ 97 ∷ 97 ∷ 97 ∷ 97 ∷ 97 ∷ 97 ∷ 97 ∷ 97 ∷ 97 ∷ 97 ∷ 97 ∷ 97 ∷ 97 ∷ 97 ∷ 97 ∷ 97 ∷ 97 ∷ 97 ∷ 97 ∷ 97 ∷ 97 ∷ 97 ∷ 97 ∷ 97 ∷ 97 ∷ 97 ∷ 97 ∷ 97 ∷ 97 ∷ 97 ∷ 97 ∷ 97 ∷ 97 ∷ 97 ∷ 97 ∷ 97 ∷ 97 ∷ 97 ∷ 97 ∷ 97 ∷ 97 ∷ 97 ∷ 97 ∷ 97 ∷ 97 ∷ 97 ∷ 97 ∷ 97 ∷ 97 ∷ 97 ∷ 97 ∷ 97 ∷ 97 ∷ 97 ∷ 97 ∷ 97 ∷ 97 ∷ 97 ∷ 97 ∷ 97 ∷ 97 ∷ 97 ∷ 97 ∷ 97 ∷ 97 ∷ 97 ∷ 97 ∷ 97 ∷ 97 ∷ 97 ∷ 97 ∷ 97 ∷ 97 ∷ 97 ∷ 97 ∷ 97 ∷ 97 ∷ 97 ∷ 97 ∷ 97 ∷ 97 ∷ 97 ∷ 97 ∷ 97 ∷ 97 ∷ 97 ∷ 97 ∷ 97 ∷ 97 ∷ 97 ∷ 97 ∷ 97 ∷ 97 ∷ 97 ∷ 97 ∷ 97 ∷ 97 ∷ 97 ∷ 97 ∷ 97 ∷ 97 ∷ 97 ∷ 97 ∷ 97 ∷ 97 ∷ 97 ∷ 97 ∷ 97 ∷ 97 ∷ 97 ∷ 97 ∷ 97 ∷ 97 ∷ 97 ∷ 97 ∷ 97 ∷ 97 ∷ 97 ∷ 97 ∷ 97 ∷ 97 ∷ 97 ∷ 97 ∷ 97 ∷ 97 ∷ 97 ∷ 97 ∷ 97 ∷ 97 ∷ 97 ∷ 97 ∷ 97 ∷ 97 ∷ 97 ∷ 97 ∷ 97 ∷ 97 ∷ 97 ∷ 97 ∷ 97 ∷ 97 ∷ 97 ∷ 97 ∷ 97 ∷ 97 ∷ 97 ∷ 97 ∷ 97 ∷ 97 ∷ 97 ∷ 97 ∷ 97 ∷ 97 ∷ 97 ∷ 97 ∷ 97 ∷ 97 ∷ 97 ∷ 97 ∷ 97 ∷ 97 ∷ 97 ∷ 97 ∷ 97 ∷ 97 ∷ 97 ∷ 97 ∷ 97 ∷ 97 ∷ 97 ∷ 97 ∷ 97 ∷ 97 ∷ 97 ∷ 97 ∷ 97 ∷ 97 ∷ 97 ∷ 97 ∷ 97 ∷ 97 ∷ 97 ∷ 97 ∷ 97 ∷ 97 ∷ 97 ∷ 97 ∷ 97 ∷ 97 ∷ 97 ∷ 97 ∷ 97 ∷ 97 ∷ 97 ∷ 97 ∷ 97 ∷ 97 ∷ 97 ∷ 97 ∷ 97 ∷ 97 ∷ 97 ∷ 97 ∷ 97 ∷ 97 ∷ 97 ∷ 97 ∷ 97 ∷ 97 ∷ 97 ∷ 97 ∷ 97 ∷ 97 ∷ 97 ∷ 97 ∷ 97 ∷ 97 ∷ 97 ∷ 97 ∷ 97 ∷ 97 ∷ 97 ∷ 97 ∷ 97 ∷ 97 ∷ 97 ∷ 97 ∷ 97 ∷ 97 ∷ 97 ∷ 97 ∷ 97 ∷ 97 ∷ 97 ∷ 97 ∷ 97 ∷ 97 ∷ 97 ∷ 97 ∷ 97 ∷ 97 ∷ 97 ∷ 97 ∷ 97 ∷ 97 ∷ 97 ∷ 97 ∷ 97 ∷ 97 ∷ 97 ∷ 97 ∷ 97 ∷ 97 ∷ 97 ∷ 97 ∷ 97 ∷ 97 ∷ 97 ∷ 97 ∷ 97 ∷ 97 ∷ 97 ∷ 97 ∷ 97 ∷ 97 ∷ 97 ∷ 97 ∷ 97 ∷ 97 ∷ 97 ∷ 97 ∷ 97 ∷ 97 ∷ 97 ∷ 97 ∷ 97 ∷ 97 ∷ 97 ∷ 97 ∷ 97 ∷ 97 ∷ 97 ∷ 97 ∷ 97 ∷ 97 ∷ 97 ∷ 97 ∷ 97 ∷ 97 ∷ 97 ∷ 97 ∷ 97 ∷ 97 ∷ 97 ∷ 97 ∷ 97 ∷ 97 ∷ 97 ∷ 97 ∷ 97 ∷ 97 ∷ 97 ∷ 97 ∷ 97 ∷ 97 ∷ 97 ∷ 97 ∷ 97 ∷ 97 ∷ 97 ∷ 97 ∷ 97 ∷ 97 ∷ 97 ∷ 97 ∷ 97 ∷ 97 ∷ 97 ∷ 97 ∷ 97 ∷ 97 ∷ 97 ∷ 97 ∷ 97 ∷ 97 ∷ 97 ∷ 97 ∷ 97 ∷ 97 ∷ 97 ∷ 97 ∷ 97 ∷ 97 ∷ 97 ∷ 97 ∷ 97 ∷ 97 ∷ 97 ∷ 97 ∷ 97 ∷ 97 ∷ 97 ∷ 97 ∷ 97 ∷ 97 ∷ 97 ∷ 97 ∷ 97 ∷ 97 ∷ 97 ∷ 97 ∷ 97 ∷ 97 ∷ 97 ∷ 97 ∷ 97 ∷ 97 ∷ 97 ∷ 97 ∷ 97 ∷ 97 ∷ 97 ∷ 97 ∷ 97 ∷ 97 ∷ 97 ∷ 97 ∷ 97 ∷ 97 ∷ 97 ∷ 97 ∷ 97 ∷ 97 ∷ 10 ∷ 32 ∷ 98 ∷ 93 ∷ []) ≡ Some (enter Name.Reference 1 1 0 0 ∷ enter Name.ReferenceMarker 1 1 0 0 ∷ exit Name.ReferenceMarker 1 2 1 0 ∷ enter Name.ReferenceString 1 2 1 0 ∷ chained Name.Data 1 2 1 0 None (Some 6) ∷ exit Name.Data 1 999 998 0 ∷ chained Name.LineEnding 1 999 998 0 (Some 4) (Some 8) ∷ exit Name.LineEnding 2 1 999 0 ∷ chained Name.SpaceOrTab 2 1 999 0 (Some 6) (Some 10) ∷ exit Name.SpaceOrTab 2 2 1000 0 ∷ chained Name.Data 2 2 1000 0 (Some 8) None ∷ exit Name.Data 2 3 1001 0 ∷ exit Name.ReferenceString 2 3 1001 0 ∷ enter Name.ReferenceMarker 2 3 1001 0 ∷ exit Name.ReferenceMarker 2 4 1002 0 ∷ exit Name.Reference 2 4 1002 0 ∷ [])) ×
    -- label commonmark «[⟦a×997⟧␉b]»: Reference 0-1001 [ReferenceMarker 0-1, ReferenceString 1-1000 [Data 1-1000], ReferenceMarker 1000-1001]
    (label_answer true (91 ∷ 97 ∷ 97 ∷ 97 ∷ 97 ∷ 97 ∷ 97 ∷ 97 ∷ 97 ∷ 97 ∷ 97 ∷ 97 ∷ 97 ∷ 97 ∷ 97 ∷ 97 ∷ 97 ∷ 97 ∷ 97 ∷ 97 ∷ 97 ∷ 97 ∷ 97 ∷ 97 ∷ 97 ∷ 97 ∷ 97 ∷ 97 ∷ 97 ∷ 97 ∷ 97 ∷ 97 ∷ 97 ∷ 97 ∷ 97 ∷ 97 ∷ 97 ∷ 97 ∷ 97 ∷ 97 ∷ 97 ∷ 97 ∷ 97 ∷ 97 ∷ 97 ∷ 97 ∷ 97 ∷ 97 ∷ 97 ∷ 97 ∷ 97 ∷ 97 ∷ 97 ∷ 97 ∷ 97 ∷ 97 ∷ 97 ∷ 97 ∷ 97 ∷ 97 ∷ 97 ∷ 97 ∷ 97 ∷ 97 ∷ 97 ∷ 97 ∷ 97 ∷ 97 ∷ 97 ∷ 97 ∷ 97 ∷ 97 ∷ 97 ∷ 97 ∷ 97 ∷ 97 ∷ 97 ∷ 97 ∷ 97 ∷ 97 ∷ 97 ∷ 97 ∷ 97 ∷ 97 ∷ 97 ∷ 97 ∷ 97 ∷ 97 ∷ 97 ∷ 97 ∷ 97 ∷ 97 ∷ 97 ∷ 97 ∷ 97 ∷ 97 ∷ 97 ∷ 97 ∷ 97 ∷ 97 ∷ 97 ∷ 97 ∷ 97 ∷ 97 ∷ 97 ∷ 97 ∷ 97 ∷ 97 ∷ 97 ∷ 97 ∷ 97 ∷ 97 ∷ 97 ∷ 97 ∷ 97 ∷ 97 ∷ 97 ∷ 97 ∷ 97 ∷ 97 ∷ 97 ∷ 97 ∷ 97 ∷ 97 ∷ 97 ∷ 97 ∷ 97 ∷ 97 ∷ 97 ∷ 97 ∷ 97 ∷ 97 ∷ 97 ∷ 97 ∷ 97 ∷ 97 ∷ 97 ∷ 97 ∷ 97 ∷ 97 ∷ 97 ∷ 97 ∷ 97 ∷ 97 ∷ 97 ∷ 97 ∷ 97 ∷ 97 ∷ 97 ∷ 97 ∷ 97 ∷ 97 ∷ 97 ∷ 97 ∷ 97 ∷ 97 ∷ 97 ∷ 97 ∷ 97 ∷ 97 ∷ 97 ∷ 97 ∷ 97 ∷ 97 ∷ 97 ∷ 97 ∷ 97 ∷ 97 ∷ 97 ∷ 97 ∷ 97 ∷ 97 ∷ 97 ∷ 97 ∷ 97 ∷ 97 ∷ 97 ∷ 97 ∷ 97 ∷ 97 ∷ 97 ∷ 97 ∷ 97 ∷ 97 ∷ 97 ∷ 97 ∷ 97 ∷ 97 ∷ 97 ∷ 97 ∷ 97 ∷ 97 ∷ 97 ∷ 97 ∷ 97 ∷ 97 ∷ 97 ∷ 97 ∷ 97 ∷ 97 ∷ 97 ∷ 97 ∷ 97 ∷ 97 ∷ 97 ∷ 97 ∷ 97 ∷ 97 ∷ 97 ∷ 97 ∷ 97 ∷ 97 ∷ 97 ∷ 97 ∷ 97 ∷ 97 ∷ 97 ∷ 97 ∷ 97 ∷ 97 ∷ 97 ∷ 97 ∷ 97 ∷ 97 ∷ 97 ∷ 97 ∷ 97 ∷ 97 ∷ 97 ∷ 97 ∷ 97 ∷ 97 ∷ 97 ∷ 97 ∷ 97 ∷ 97 ∷ 97 ∷ 97 ∷ 97 ∷ 97 ∷ 97 ∷ 97 ∷ 97 ∷ 97 ∷ 97 ∷ 97 ∷ 97 ∷ 97 ∷ 97 ∷ 97 ∷ 97 ∷ 97 ∷ 97 ∷ 97 ∷ 97 ∷ 97 ∷ 97 ∷ 97 ∷ 97 ∷ 97 ∷ 97 ∷ 97 ∷ 97 ∷ 97 ∷ 97 ∷ 97 ∷ 97 ∷ 97 ∷ 97 ∷ 97 ∷ 97 ∷ 97 ∷ 97 ∷ 97 ∷ 97 ∷ 97 ∷ 97 ∷ 97 ∷ 97 ∷ 97 ∷ 97 ∷ 97 ∷ 97 ∷ 97 ∷ 97 ∷ 97 ∷ 97 ∷ 97 ∷ 97 ∷ 97 ∷ 97 ∷ 97 ∷ 97 ∷ 97 ∷ 97 ∷ 97 ∷ 97 ∷ 97 ∷ 97 ∷ 97 ∷ 97 ∷ 97 ∷ 97 ∷ 97 ∷ 97 ∷ 97 ∷ 97 ∷ 97 ∷ 97 ∷ 97 ∷ 97 ∷ 97 ∷ 97 ∷ 97 ∷ 97 ∷ 97 ∷ 97 ∷ 97 ∷ 97 ∷ 97 ∷ 97 ∷ 97 ∷ 97 ∷ 97 ∷ 97 ∷ 97 ∷ 97 ∷ 97 ∷ 97 ∷ 97 ∷ 97 ∷ 97 ∷ 97 ∷ 97 ∷ 97 ∷ 97 ∷ 97 ∷ 97 ∷ 97 ∷ 97 ∷ 97 ∷ 97 ∷ 97 ∷ 97 ∷ 97 ∷ 97 ∷ 97 ∷ 97 ∷ 97 ∷ 97 ∷ 97 ∷ 97 ∷ 97 ∷ 97 ∷ 97 ∷ 97 ∷ 97 ∷ 97 ∷ 97 ∷ 97 ∷ 97 ∷ 97 ∷ 97 ∷ 97 ∷ 97 ∷ 97 ∷ 97 ∷ 97 ∷ 97 ∷ 97 ∷ 97 ∷ 97 ∷ 97 ∷ 97 ∷ 97 ∷ 97 ∷ 97 ∷ 97 ∷ 97 ∷ 97 ∷ 97 ∷ 97 ∷ 97 ∷ 97 ∷ 97 ∷ 97 ∷ 97 ∷ 97 ∷ 97 ∷ 97 ∷ 97 ∷ 97 ∷ 97 ∷ 97 ∷ 97 ∷ 97 ∷ 97 ∷ 97 ∷ 97 ∷ 97 ∷ 97 ∷ 97 ∷ 97 ∷ 97 ∷ 97 ∷ 97 ∷ 97 ∷ 97 ∷ 97 ∷ 97 ∷ 97 ∷ 97 ∷ 97 ∷ 97 ∷ 97 ∷ 97 ∷ 97 ∷ 97 ∷ 97 ∷ 97 ∷ 97 ∷ 97 ∷ 97 ∷ 97 ∷ 97 ∷ 97 ∷ 97 ∷ 97 ∷ 97 ∷ 97 ∷ 97 ∷ 97 ∷ 97 ∷ 97 ∷ 97 ∷ 97 ∷ 97 ∷ 97 ∷ 97 ∷ 97 ∷ 97 ∷ 97 ∷ 97 ∷ 97 ∷ 97 ∷ 97 ∷ 97 ∷ 97 ∷ 97 ∷ 97 ∷ 97 ∷ 97 ∷ 97 ∷ 97 ∷ 97 ∷ 97 ∷ 97 ∷ 97 ∷ 97 ∷ 97 ∷ 97 ∷ 97 ∷ 97 ∷ 97 ∷ 97 ∷ 97 ∷ 97 ∷ 97 ∷ 97 ∷ 97 ∷ 97 ∷ 97 ∷ 97 ∷ 97 ∷ 97 ∷ 97 ∷ 97 ∷ 97 ∷ 97 ∷ 97 ∷ 97 ∷ 97 ∷ 97 ∷ 97 ∷ 97 ∷ 97 ∷ 97 ∷ 97 ∷ 97 ∷ 97 ∷ 97 ∷ 97 ∷ 97 ∷ 97 ∷ 97 ∷ 97 ∷ 97 ∷ 97 ∷ 97 ∷ 97 ∷ 97 ∷ 97 ∷ 97 ∷ 97 ∷ 97 ∷ 97 ∷ 97 ∷ 97 ∷ 97 ∷ 97 ∷ 97 ∷ 97 ∷ 97 ∷ 97 ∷ 97 ∷ 97 ∷ 97 ∷ 97 ∷ 97 ∷ 97 ∷ 97 ∷ 97 ∷ 97 ∷ 97 ∷ 97 ∷ 97 ∷ 97 ∷ 97 ∷ 97 ∷ 97 ∷ 97 ∷ 97 ∷ 97 ∷ 97 ∷ 97 ∷ 97 ∷ 97 ∷ 97 ∷ 97 ∷ 97 ∷ 97 ∷ 97 ∷ 97 ∷ 97 ∷ 97 ∷ 97 ∷ 97 ∷ 97 ∷ 97 ∷ 97 ∷ 97 ∷ 97 ∷ 97 ∷ 97 ∷ 97 ∷ 97 ∷ 97 ∷ 97 ∷ 97 ∷ 97 ∷ 97 ∷ 97 ∷ 97 ∷ 97 ∷ 97 ∷ 97 ∷ 97 ∷ 97 ∷ 97 ∷ 97 ∷ 97 ∷ 97 ∷ 97 ∷ 97 ∷ 97 ∷ 97 ∷ 97 ∷ 97 ∷ 97 ∷ 97 ∷ 97 ∷ 97 ∷ 97 ∷ 97 ∷ 97 ∷ 97 ∷ 97 ∷ 97 ∷ 97 ∷ 97 ∷ 97 ∷ 97 ∷ 97 ∷ 97 ∷ 97 ∷ 97 ∷ 97 ∷ 97 ∷ 97 ∷ 97 ∷ 97 ∷ 97 ∷ 97 ∷ 97 ∷ 97 ∷ 97 ∷ 97 ∷ 97 ∷ 97 ∷ 97 ∷ 97 ∷ 97 ∷ 97 ∷ 97 ∷ 97 ∷ 97 ∷ 97 ∷ 97 ∷ 97 ∷ 97 ∷ 97 ∷ 97 ∷ 97 ∷ 97 ∷ 97 ∷ 97 ∷ 97 ∷ 97 ∷ 97 ∷ 97 ∷ 97 ∷ 97 ∷ 97 ∷ 97 ∷ 97 ∷ 97 ∷ 97 ∷ 97 ∷ 97 ∷ 97 ∷ 97 ∷ 97 ∷ 97 ∷ 97 ∷ 97 ∷ 97 ∷ 97 ∷ 97 ∷ 97 ∷ 97 ∷ 97 ∷ 97 ∷ 97 ∷ 97 ∷ 97 ∷ 97 ∷ 97 ∷ 97 ∷ 97 ∷ 97 ∷ 97 ∷ 97 ∷ 97 ∷ 97 ∷ 97 ∷ 97 ∷ 97 ∷ 97 ∷ 97 ∷ 97 ∷ 97 ∷ 97 ∷ 97 ∷ 97 ∷ 97 ∷ 97 ∷ 97 ∷ 97 ∷ 97 ∷ 97 ∷ 97 ∷ 97 ∷ 97 ∷ 97 ∷ 97 ∷ 97 ∷ 97 ∷ 97 ∷ 97 ∷ 97 ∷ 97 ∷ 97 ∷ 97 ∷ 97 ∷ 97 ∷ 97 ∷ 97 ∷ 97 ∷ 97 ∷ 97 ∷ 97 ∷ 97 ∷ 97 ∷ 97 ∷ 97 ∷ 97 ∷ 97 ∷ 97 ∷ 97 ∷ 97 ∷ 97 ∷ 97 ∷ 97 ∷ 97 ∷ 97 ∷ 97 ∷ 97 ∷ 97 ∷ 97 ∷ 97 ∷ 97 ∷ 97 ∷ 97 ∷ 97 ∷ 97 ∷ 97 ∷ 97 ∷ 97 ∷ 97 ∷ 97 ∷ 97 ∷ 97 ∷ 97 ∷ 97 ∷ 97 ∷ 97 ∷ 97 ∷ 97 ∷ 97 ∷ 97 ∷ 97 ∷ 97 ∷ 97 ∷ 97 ∷ 97 ∷ 97 ∷ 97 ∷ 97 ∷ 97 ∷ 97 ∷ 97 ∷ 97 ∷ 97 ∷ 97 ∷ 97 ∷ 97 ∷ 97 ∷ 97 ∷ 97 ∷ 97 ∷ 97 ∷ 97 ∷ 97 ∷ 97 ∷ 97 ∷ 97 ∷ 97 ∷ 97 ∷ 97 ∷ 97 ∷ 97 ∷ 97 ∷ 97 ∷ 97 ∷ 97 ∷ 97 ∷ 97 ∷ 97 ∷ 97 ∷ 97 ∷ 97 ∷ 97 ∷ 97 ∷ 97 ∷ 97 ∷ 97 ∷ 97 ∷ 97 ∷ 97 ∷ 97 ∷ 97 ∷ 97 ∷ 97 ∷ 97 ∷ 97 ∷ 97 ∷ 97 ∷ 97 ∷ 97 ∷ 97 ∷ 97 ∷ 97 ∷ 97 ∷ 97 ∷ 97 ∷ 97 ∷ 97 ∷ 97 ∷ 97 ∷ 97 ∷ 97 ∷ 97 ∷ 97 ∷ 97 ∷ 97 ∷ 97 ∷ 97 ∷ 97 ∷ 97 ∷ 97 ∷ 97 ∷ 97 ∷ 97 ∷ 97 ∷ 97 ∷ 97 ∷ 97 ∷ 97 ∷ 97 ∷ 97 ∷ 97 ∷ 97 ∷ 97 ∷ 97 ∷ 97 ∷ 97 ∷ 97 ∷ 97 ∷ 97 ∷ 97 ∷ 97 ∷ 97 ∷ 97 ∷ 97 ∷ 97 ∷ 97 ∷ 97 ∷ 97 ∷ 97 ∷ 97 ∷ 97 ∷ 97 ∷ 97 ∷ 97 ∷ 97 ∷ 97 ∷ 97 ∷ 97 ∷ 97 ∷ 97 ∷ 97 ∷ 97 ∷ 97 ∷ 97 ∷ 97 ∷ 97 ∷ 97 ∷ 97 ∷ 97 ∷ 97 ∷ 97 ∷ 97 ∷ 97 ∷ 97 ∷ 97 ∷ 97 ∷ 97 ∷ 97 ∷ 97 ∷ 97 ∷ 97 ∷ 97 ∷ 97 ∷ 97 ∷ 97 ∷ 97 ∷ 97 ∷ 97 ∷ 97 ∷ 97 ∷ 97 ∷ 97 ∷ 97 ∷ 97 ∷ 97 ∷ 97 ∷ 97 ∷ 97 ∷ 97 ∷ 97 ∷ 97 ∷ 97 ∷ 97 ∷ 97 ∷ 97 ∷ 97 ∷ 97 ∷ 97 ∷ 97 ∷ 97 ∷ 97 ∷ 97 ∷ 97 ∷ 97 ∷ 97 ∷ 97 ∷ 97 ∷ 97 ∷ 97 ∷ 97 ∷ 97 ∷ 97 ∷ 97 ∷ 97 ∷ 97 ∷ 97 ∷ 97 ∷ 97 ∷ 97 ∷ 97 ∷ 97 ∷ 97 ∷ 97 ∷ 97 ∷ 97 ∷ 97 ∷ 97 ∷ 97 ∷ 97 ∷ 97 ∷ 97 ∷ 97 ∷ 97 ∷ 97 ∷ 97 ∷ 97 ∷ 97 ∷ 97 ∷ 97 ∷ 97 ∷ 97 ∷ 97 ∷ 97 ∷ 97 ∷ 97 ∷ 97 ∷ 97 ∷ 97 ∷ 97 ∷ 97 ∷ 97 ∷ 97 ∷ 97 ∷ 97 ∷ 97 ∷ 97 ∷ 97 ∷ 97 ∷ 97 ∷ 97 ∷ 97 ∷ 97 ∷ 97 ∷ 97 ∷ 97 ∷ 97 ∷ 97 ∷ 97 ∷ 97 ∷ 97 ∷ 97 ∷ 97 ∷ 97 ∷ 97 ∷ 97 ∷ 97 ∷ 97 ∷ 97 ∷ 97 ∷ 97 ∷ 97 ∷ 97 ∷ 97 ∷ 97 ∷ 97 ∷ 97 ∷ 97 ∷ 97 ∷ 9 ∷ 98 ∷ 93 ∷ []) ≡ Some (enter Name.Reference 1 1 0 0 ∷ enter Name.ReferenceMarker 1 1 0 0 ∷ exit Name.ReferenceMarker 1 2 1 0 ∷ enter Name.ReferenceString 1 2 1 0 ∷ chained Name.Data 1 2 1 0 None None ∷ exit Name.Data 1 1002 1000 0 ∷ exit Name.ReferenceString 1 1002 1000 0 ∷ enter Name.ReferenceMarker 1 1002 1000 0 ∷ exit Name.ReferenceMarker 1 1003 1001 0 ∷ exit Name.Reference 1 1003 1001 0 ∷ [])) ×
    -- label «[⟦a×997⟧␉b]»: no
    (label_answer false (91 ∷ 97 ∷ 97 ∷ 97 ∷ 97 ∷ 97 ∷ 97 ∷ 97 ∷ 97 ∷ 97 ∷ 97 ∷ 97 ∷ 97 ∷ 97 ∷ 97 ∷ 97 ∷ 97 ∷ 97 ∷ 97 ∷ 97 ∷ 97 ∷ 97 ∷ 97 ∷ 97 ∷ 97 ∷ 97 ∷ 97 ∷ 97 ∷ 97 ∷ 97 ∷ 97 ∷ 97 ∷ 97 ∷ 97 ∷ 97 ∷ 97 ∷ 97 ∷ 97 ∷ 97 ∷ 97 ∷ 97 ∷ 97 ∷ 97 ∷ 97 ∷ 97 ∷ 97 ∷ 97 ∷ 97 ∷ 97 ∷ 97 ∷ 97 ∷ 97 ∷ 97 ∷ 97 ∷ 97 ∷ 97 ∷ 97 ∷ 97 ∷ 97 ∷ 97 ∷ 97 ∷ 97 ∷ 97 ∷ 97 ∷ 97 ∷ 97 ∷ 97 ∷ 97 ∷ 97 ∷ 97 ∷ 97 ∷ 97 ∷ 97 ∷ 97 ∷ 97 ∷ 97 ∷ 97 ∷ 97 ∷ 97 ∷ 97 ∷ 97 ∷ 97 ∷ 97 ∷ 97 ∷ 97 ∷ 97 ∷ 97 ∷ 97 ∷ 97 ∷ 97 ∷ 97 ∷ 97 ∷ 97 ∷ 97 ∷ 97 ∷ 97 ∷ 97 ∷ 97 ∷ 97 ∷ 97 ∷ 97 ∷ 97 ∷ 97 ∷ 97 ∷ 97 ∷ 97 ∷ 97 ∷ 97 ∷ 97 ∷ 97 ∷ 97 ∷ 97 ∷ 97 ∷ 97 ∷ 97 ∷ 97 ∷ 97 ∷ 97 ∷ 97 ∷ 97 ∷ 97 ∷ 97 ∷ 97 ∷ 97 ∷ 97 ∷ 97 ∷ 97 ∷ 97 ∷ 97 ∷ 97 ∷ 97 ∷ 97 ∷ 97 ∷ 97 ∷ 97 ∷ 97 ∷ 97 ∷ 97 ∷ 97 ∷ 97 ∷ 97 ∷ 97 ∷ 97 ∷ 97 ∷ 97 ∷ 97 ∷ 97 ∷ 97 ∷ 97 ∷ 97 ∷ 97 ∷ 97 ∷ 97 ∷ 97 ∷ 97 ∷ 97 ∷ 97 ∷ 97 ∷ 97 ∷ 97 ∷ 97 ∷ 97 ∷ 97 ∷ 97 ∷ 97 ∷ 97 ∷ 97 ∷ 97 ∷ 97 ∷ 97 ∷ 97 ∷ 97 ∷ 97 ∷ 97 ∷ 97 ∷ 97 ∷ 97 ∷ 97 ∷ 97 ∷ 97 ∷ 97 ∷ 97 ∷ 97 ∷ 97 ∷ 97 ∷ 97 ∷ 97 ∷ 97 ∷ 97 ∷ 97 ∷ 97 ∷ 97 ∷ 97 ∷ 97 ∷ 97 ∷ 97 ∷ 97 ∷ 97 ∷ 97 ∷ 97 ∷ 97 ∷ 97 ∷ 97 ∷ 97 ∷ 97 ∷ 97 ∷ 97 ∷ 97 ∷ 97 ∷ 97 ∷ 97 ∷ 97 ∷ 97 ∷ 97 ∷ 97 ∷ 97 ∷ 97 ∷ 97 ∷ 97 ∷ 97 ∷ 97 ∷ 97 ∷ 97 ∷ 97 ∷ 97 ∷ 97 ∷ 97 ∷ 97 ∷ 97 ∷ 97 ∷ 97 ∷ 97 ∷ 97 ∷ 97 ∷ 97 ∷ 97 ∷ 97 ∷ 97 ∷ 97 ∷ 97 ∷ 97 ∷ 97 ∷ 97 ∷ 97 ∷ 97 ∷ 97 ∷ 97 ∷ 97 ∷ 97 ∷ 97 ∷ 97 ∷ 97 ∷ 97 ∷ 97 ∷ 97 ∷ 97 ∷ 97 ∷ 97 ∷ 97 ∷ 97 ∷ 97 ∷ 97 ∷ 97 ∷ 97 ∷ 97 ∷ 97 ∷ 97 ∷ 97 ∷ 97 ∷ 97 ∷ 97 ∷ 97 ∷ 97 ∷ 97 ∷ 97 ∷ 97 ∷ 97 ∷ 97 ∷ 97 ∷ 97 ∷ 97 ∷ 97 ∷ 97 ∷ 97 ∷ 97 ∷ 97 ∷ 97 ∷ 97 ∷ 97 ∷ 97 ∷ 97 ∷ 97 ∷ 97 ∷ 97 ∷ 97 ∷ 97 ∷ 97 ∷ 97 ∷ 97 ∷ 97 ∷ 97 ∷ 97 ∷ 97 ∷ 97 ∷ 97 ∷ 97 ∷ 97 ∷ 97 ∷ 97 ∷ 97 ∷ 97 ∷ 97 ∷ 97 ∷ 97 ∷ 97 ∷ 97 ∷ 97 ∷ 97 ∷ 97 ∷ 97 ∷ 97 ∷ 97 ∷ 97 ∷ 97 ∷ 97 ∷ 97 ∷ 97 ∷ 97 ∷ 97 ∷ 97 ∷ 97 ∷ 97 ∷ 97 ∷ 97 ∷ 97 ∷ 97 ∷ 97 ∷ 97 ∷ 97 ∷ 97 ∷ 97 ∷ 97 ∷ 97 ∷ 97 ∷ 97 ∷ 97 ∷ 97 ∷ 97 ∷ 97 ∷ 97 ∷ 97 ∷ 97 ∷ 97 ∷ 97 ∷ 97 ∷ 97 ∷ 97 ∷ 97 ∷ 97 ∷ 97 ∷ 97 ∷ 97 ∷ 97 ∷ 97 ∷ 97 ∷ 97 ∷ 97 ∷ 97 ∷ 97 ∷ 97 ∷ 97 ∷ 97 ∷ 97 ∷ 97 ∷ 97 ∷ 97 ∷ 97 ∷ 97 ∷ 97 ∷ 97 ∷ 97 ∷ 97 ∷ 97 ∷ 97 ∷ 97 ∷ 97 ∷ 97 ∷ 97 ∷ 97 ∷ 97 ∷ 97 ∷ 97 ∷ 97 ∷ 97 ∷ 97 ∷ 97 ∷ 97 ∷ 97 ∷ 97 ∷ 97 ∷ 97 ∷ 97 ∷ 97 ∷ 97 ∷ 97 ∷ 97 ∷ 97 ∷ 97 ∷ 97 ∷ 97 ∷ 97 ∷ 97 ∷ 97 ∷ 97 ∷ 97 ∷ 97 ∷ 97 ∷ 97 ∷ 97 ∷ 97 ∷ 97 ∷ 97 ∷ 97 ∷ 97 ∷ 97 ∷ 97 ∷ 97 ∷ 97 ∷ 97 ∷ 97 ∷ 97 ∷ 97 ∷ 97 ∷ 97 ∷ 97 ∷ 97 ∷ 97 ∷ 97 ∷ 97 ∷ 97 ∷ 97 ∷ 97 ∷ 97 ∷ 97 ∷ 97 ∷ 97 ∷ 97 ∷ 97 ∷ 97 ∷ 97 ∷ 97 ∷ 97 ∷ 97 ∷ 97 ∷ 97 ∷ 97 ∷ 97 ∷ 97 ∷ 97 ∷ 97 ∷ 97 ∷ 97 ∷ 97 ∷ 97 ∷ 97 ∷ 97 ∷ 97 ∷ 97 ∷ 97 ∷ 97 ∷ 97 ∷ 97 ∷ 97 ∷ 97 ∷ 97 ∷ 97 ∷ 97 ∷ 97 ∷ 97 ∷ 97 ∷ 97 ∷ 97 ∷ 97 ∷ 97 ∷ 97 ∷ 97 ∷ 97 ∷ 97 ∷ 97 ∷ 97 ∷ 97 ∷ 97 ∷ 97 ∷ 97 ∷ 97 ∷ 97 ∷ 97 ∷ 97 ∷ 97 ∷ 97 ∷ 97 ∷ 97 ∷ 97 ∷ 97 ∷ 97 ∷ 97 ∷ 97 ∷ 97 ∷ 97 ∷ 97 ∷ 97 ∷ 97 ∷ 97 ∷ 97 ∷ 97 ∷ 97 ∷ 97 ∷ 97 ∷ 97 ∷ 97 ∷ 97 ∷ 97 ∷ 97 ∷ 97 ∷ 97 ∷ 97 ∷ 97 ∷ 97 ∷ 97 ∷ 97 ∷ 97 ∷ 97 ∷ 97 ∷ 97 ∷ 97 ∷ 97 ∷ 97 ∷ 97 ∷ 97 ∷ 97 ∷ 97 ∷ 97 ∷ 97 ∷ 97 ∷ 97 ∷ 97 ∷ 97 ∷ 97 ∷ 97 ∷ 97 ∷ 97 ∷ 97 ∷ 97 ∷ 97 ∷ 97 ∷ 97 ∷ 97 ∷ 97 ∷ 97 ∷ 97 ∷ 97 ∷ 97 ∷ 97 ∷ 97 ∷ 97 ∷ 97 ∷ 97 ∷ 97 ∷ 97 ∷ 97 ∷ 97 ∷ 97 ∷ 97 ∷ 97 ∷ 97 ∷ 97 ∷ 97 ∷ 97 ∷ 97 ∷ 97 ∷ 97 ∷ 97 ∷ 97 ∷ 97 ∷ 97 ∷ 97 ∷ 97 ∷ 97 ∷ 97 ∷ 97 ∷ 97 ∷ 97 ∷ 97 ∷ 97 ∷ 97 ∷ 97 ∷ 97 ∷ 97 ∷ 97 ∷ 97 ∷ 97 ∷ 97 ∷ 97 ∷ 97 ∷ 97 ∷ 97 ∷ 97 ∷ 97 ∷ 97 ∷ 97 ∷ 97 ∷ 97 ∷ 97 ∷ 97 ∷ 97 ∷ 97 ∷ 97 ∷ 97 ∷ 97 ∷ 97 ∷ 97 ∷ 97 ∷ 97 ∷ 97 ∷ 97 ∷ 97 ∷ 97 ∷ 97 ∷ 97 ∷ 97 ∷ 97 ∷ 97 ∷ 97 ∷ 97 ∷ 97 ∷ 97 ∷ 97 ∷ 97 ∷ 97 ∷ 97 ∷ 97 ∷ 97 ∷ 97 ∷ 97 ∷ 97 ∷ 97 ∷ 97 ∷ 97 ∷ 97 ∷ 97 ∷ 97 ∷ 97 ∷ 97 ∷ 97 ∷ 97 ∷ 97 ∷ 97 ∷ 97 ∷ 97 ∷ 97 ∷ 97 ∷ 97 ∷ 97 ∷ 97 ∷ 97 ∷ 97 ∷ 97 ∷ 97 ∷ 97 ∷ 97 ∷ 97 ∷ 97 ∷ 97 ∷ 97 ∷ 97 ∷ 97 ∷ 97 ∷ 97 ∷ 97 ∷ 97 ∷ 97 ∷ 97 ∷ 97 ∷ 97 ∷ 97 ∷ 97 ∷ 97 ∷ 97 ∷ 97 ∷ 97 ∷ 97 ∷ 97 ∷ 97 ∷ 97 ∷ 97 ∷ 97 ∷ 97 ∷ 97 ∷ 97 ∷ 97 ∷ 97 ∷ 97 ∷ 97 ∷ 97 ∷ 97 ∷ 97 ∷ 97 ∷ 97 ∷ 97 ∷ 97 ∷ 97 ∷ 97 ∷ 97 ∷ 97 ∷ 97 ∷ 97 ∷ 97 ∷ 97 ∷ 97 ∷ 97 ∷ 97 ∷ 97 ∷ 97 ∷ 97 ∷ 97 ∷ 97 ∷ 97 ∷ 97 ∷ 97 ∷ 97 ∷ 97 ∷ 97 ∷ 97 ∷ 97 ∷ 97 ∷ 97 ∷ 97 ∷ 97 ∷ 97 ∷ 97 ∷ 97 ∷ 97 ∷ 97 ∷ 97 ∷ 97 ∷ 97 ∷ 97 ∷ 97 ∷ 97 ∷ 97 ∷ 97 ∷ 97 ∷ 97 ∷ 97 ∷ 97 ∷ 97 ∷ 97 ∷ 97 ∷ 97 ∷ 97 ∷ 97 ∷ 97 ∷ 97 ∷ 97 ∷ 97 ∷ 97 ∷ 97 ∷ 97 ∷ 97 ∷ 97 ∷ 97 ∷ 97 ∷ 97 ∷ 97 ∷ 97 ∷ 97 ∷ 97 ∷ 97 ∷ 97 ∷ 97 ∷ 97 ∷ 97 ∷ 97 ∷ 97 ∷ 97 ∷ 97 ∷ 97 ∷ 97 ∷ 97 ∷ 97 ∷ 97 ∷ 97 ∷ 97 ∷ 97 ∷ 97 ∷ 97 ∷ 97 ∷ 97 ∷ 97 ∷ 97 ∷ 97 ∷ 97 ∷ 97 ∷ 97 ∷ 97 ∷ 97 ∷ 97 ∷ 97 ∷ 97 ∷ 97 ∷ 97 ∷ 97 ∷ 97 ∷ 97 ∷ 97 ∷ 97 ∷ 97 ∷ 97 ∷ 97 ∷ 97 ∷ 97 ∷ 97 ∷ 97 ∷ 97 ∷ 97 ∷ 97 ∷ 97 ∷ 97 ∷ 97 ∷ 97 ∷ 97 ∷ 97 ∷ 97 ∷ 97 ∷ 97 ∷ 97 ∷ 97 ∷ 97 ∷ 97 ∷ 97 ∷ 97 ∷ 97 ∷ 97 ∷ 97 ∷ 97 ∷ 97 ∷ 97 ∷ 97 ∷ 97 ∷ 97 ∷ 97 ∷ 97 ∷ 97 ∷ 97 ∷ 97 ∷ 97 ∷ 97 ∷ 97 ∷ 97 ∷ 97 ∷ 97 ∷ 97 ∷ 97 ∷ 97 ∷ 97 ∷ 97 ∷ 97 ∷ 97 ∷ 97 ∷ 97 ∷ 97 ∷ 97 ∷ 97 ∷ 97 ∷ 97 ∷ 97 ∷ 97 ∷ 97 ∷ 97 ∷ 97 ∷ 97 ∷ 97 ∷ 97 ∷ 97 ∷ 97 ∷ 97 ∷ 97 ∷ 97 ∷ 97 ∷ 97 ∷ 97 ∷ 97 ∷ 97 ∷ 97 ∷ 97 ∷ 97 ∷ 97 ∷ 97 ∷ 97 ∷ 97 ∷ 97 ∷ 97 ∷ 97 ∷ 97 ∷ 97 ∷ 97 ∷ 97 ∷ 97 ∷ 97 ∷ 97 ∷ 97 ∷ 97 ∷ 97 ∷ 97 ∷ 97 ∷ 97 ∷ 97 ∷ 97 ∷ 97 ∷ 97 ∷ 97 ∷ 97 ∷ 97 ∷ 97 ∷ 97 ∷ 97 ∷ 97 ∷ 97 ∷ 97 ∷ 97 ∷ 97 ∷ 97 ∷ 97 ∷ 97 ∷ 97 ∷ 97 ∷ 97 ∷ 97 ∷ 97 ∷ 97 ∷ 97 ∷ 97 ∷ 97 ∷ 97 ∷ 97 ∷ 97 ∷ 97 ∷ 97 ∷ 97 ∷ 97 ∷ 97 ∷ 97 ∷ 97 ∷ 97 ∷ 97 ∷ 97 ∷ 97 ∷ 97 ∷ 97 ∷ 97 ∷ 97 ∷ 97 ∷ 97 ∷ 97 ∷ 97 ∷ 97 ∷ 97 ∷ 97 ∷ 97 ∷ 97 ∷ 97 ∷ 97 ∷ 97 ∷ 97 ∷ 97 ∷ 97 ∷ 97 ∷ 97 ∷ 97 ∷ 97 ∷ 97 ∷ 97 ∷ 97 ∷ 97 ∷ 97 ∷ 97 ∷ 97 ∷ 97 ∷ 97 ∷ 97 ∷ 97 ∷ 97 ∷ 97 ∷ 97 ∷ 97 ∷ 97 ∷ 97 ∷ 97 ∷ 9 ∷ 98 ∷ 93 ∷ []) ≡ None) ×
    -- text commonmark «[a](b (c(d))»: Data 0-12
    (text_answer (record default { options = record default_options { commonmark = true } }) (codes "[a](b (c(d))") (piece 0 0 12 0 ∷ []) ≡ (enter Name.Data 1 1 0 0 ∷ exit Name.Data 1 13 12 0 ∷ [])) ×
    -- text commonmark «[a](b (c\\(d))»: Data 0-8, CharacterEscape 8-10 [CharacterEscapeMarker 8-9, CharacterEscapeValue 9-10], Data 10-14
    (text_answer (record default { options = record default_options { commonmark = true } }) (codes "[a](b (c\\\\(d))") (piece 0 0 14 0 ∷ []) ≡ (enter Name.Data 1 1 0 0 ∷ exit Name.Data 1 9 8 0 ∷ enter Name.CharacterEscape 1 9 8 0 ∷ enter Name.CharacterEscapeMarker 1 9 8 0 ∷ exit Name.CharacterEscapeMarker 1 10 9 0 ∷ enter Name.CharacterEscapeValue 1 10 9 0 ∷ exit Name.CharacterEscapeValue 1 11 10 0 ∷ exit Name.CharacterEscape 1 11 10 0 ∷ enter Name.Data 1 11 10 0 ∷ exit Name.Data 1 15 14 0 ∷ [])) ×
    -- text outer commonmark «[a](b (c\(d))»: Link 0-13
    (text_outline (record default { options = record default_options { commonmark = true } }) (codes "[a](b (c\\(d))") (piece 0 0 13 0 ∷ []) ≡ (enter Name.Link 1 1 0 0 ∷ exit Name.Link 1 14 13 0 ∷ [])) ×
    -- text outer commonmark «[a](b "c(d")»: Link 0-12
    (text_outline (record default { options = record default_options { commonmark = true } }) (codes "[a](b \"c(d\")") (piece 0 0 12 0 ∷ []) ≡ (enter Name.Link 1 1 0 0 ∷ exit Name.Link 1 13 12 0 ∷ [])) ×
    -- text outer commonmark «[a](b (c))»: Link 0-10
    (text_outline (record default { options = record default_options { commonmark = true } }) (codes "[a](b (c))") (piece 0 0 10 0 ∷ []) ≡ (enter Name.Link 1 1 0 0 ∷ exit Name.Link 1 11 10 0 ∷ [])) ×
    -- text outer «[a](b (c(d))»: Link 0-12
    (text_outline (default) (codes "[a](b (c(d))") (piece 0 0 12 0 ∷ []) ≡ (enter Name.Link 1 1 0 0 ∷ exit Name.Link 1 13 12 0 ∷ [])) ×
    -- text outer «[a](b (c\\(d))»: Link 0-14
    (text_outline (default) (codes "[a](b (c\\\\(d))") (piece 0 0 14 0 ∷ []) ≡ (enter Name.Link 1 1 0 0 ∷ exit Name.Link 1 15 14 0 ∷ []))

abbrev pub Switches : Type 0
Switches =
    -- text no-attention «*a*_b_»: Data 0-6
    (text_answer (record default { options = record default_options { constructs = record default_constructs { attention = false } } }) (codes "*a*_b_") (piece 0 0 6 0 ∷ []) ≡ (enter Name.Data 1 1 0 0 ∷ exit Name.Data 1 7 6 0 ∷ [])) ×
    -- text outer gfm no-attention «~a~»: GfmStrikethrough 0-3
    (text_outline (record default { options = record default_options { constructs = record default_constructs { gfm_autolink_literal = true; gfm_label_start_footnote = true; gfm_strikethrough = true; gfm_task_list_item = true; attention = false } } }) (codes "~a~") (piece 0 0 3 0 ∷ []) ≡ (enter Name.GfmStrikethrough 1 1 0 0 ∷ exit Name.GfmStrikethrough 1 4 3 0 ∷ [])) ×
    -- text gfm no-gfm_strikethrough «~a~»: Data 0-3
    (text_answer (record default { options = record default_options { constructs = record default_constructs { gfm_autolink_literal = true; gfm_label_start_footnote = true; gfm_task_list_item = true; gfm_strikethrough = false } } }) (codes "~a~") (piece 0 0 3 0 ∷ []) ≡ (enter Name.Data 1 1 0 0 ∷ exit Name.Data 1 4 3 0 ∷ [])) ×
    -- text outer gfm no-gfm_strikethrough «*a*_b_»: Emphasis 0-3, Emphasis 3-6
    (text_outline (record default { options = record default_options { constructs = record default_constructs { gfm_autolink_literal = true; gfm_label_start_footnote = true; gfm_task_list_item = true; gfm_strikethrough = false } } }) (codes "*a*_b_") (piece 0 0 6 0 ∷ []) ≡ (enter Name.Emphasis 1 1 0 0 ∷ exit Name.Emphasis 1 4 3 0 ∷ enter Name.Emphasis 1 4 3 0 ∷ exit Name.Emphasis 1 7 6 0 ∷ [])) ×
    -- text no-autolink «<ab:c>»: Data 0-6
    (text_answer (record default { options = record default_options { constructs = record default_constructs { autolink = false } } }) (codes "<ab:c>") (piece 0 0 6 0 ∷ []) ≡ (enter Name.Data 1 1 0 0 ∷ exit Name.Data 1 7 6 0 ∷ [])) ×
    -- text outer no-autolink «<b>»: HtmlText 0-3
    (text_outline (record default { options = record default_options { constructs = record default_constructs { autolink = false } } }) (codes "<b>") (piece 0 0 3 0 ∷ []) ≡ (enter Name.HtmlText 1 1 0 0 ∷ exit Name.HtmlText 1 4 3 0 ∷ [])) ×
    -- text no-html_text «<b>»: Data 0-3
    (text_answer (record default { options = record default_options { constructs = record default_constructs { html_text = false } } }) (codes "<b>") (piece 0 0 3 0 ∷ []) ≡ (enter Name.Data 1 1 0 0 ∷ exit Name.Data 1 4 3 0 ∷ [])) ×
    -- text outer no-html_text «<ab:c>»: Autolink 0-6
    (text_outline (record default { options = record default_options { constructs = record default_constructs { html_text = false } } }) (codes "<ab:c>") (piece 0 0 6 0 ∷ []) ≡ (enter Name.Autolink 1 1 0 0 ∷ exit Name.Autolink 1 7 6 0 ∷ [])) ×
    -- text no-character_escape «\*»: Data 0-2
    (text_answer (record default { options = record default_options { constructs = record default_constructs { character_escape = false } } }) (codes "\\*") (piece 0 0 2 0 ∷ []) ≡ (enter Name.Data 1 1 0 0 ∷ exit Name.Data 1 3 2 0 ∷ [])) ×
    -- text outer no-character_escape «\␊a»: HardBreakEscape 0-1, LineEnding 1-2, Data 2-3
    (text_outline (record default { options = record default_options { constructs = record default_constructs { character_escape = false } } }) (92 ∷ 10 ∷ 97 ∷ []) (piece 0 0 3 0 ∷ []) ≡ (enter Name.HardBreakEscape 1 1 0 0 ∷ exit Name.HardBreakEscape 1 2 1 0 ∷ enter Name.LineEnding 1 2 1 0 ∷ exit Name.LineEnding 2 1 2 0 ∷ enter Name.Data 2 1 2 0 ∷ exit Name.Data 2 2 3 0 ∷ [])) ×
    -- text outer no-character_escape «\``a`»: Data 0-5
    (text_outline (record default { options = record default_options { constructs = record default_constructs { character_escape = false } } }) (codes "\\``a`") (piece 0 0 5 0 ∷ []) ≡ (enter Name.Data 1 1 0 0 ∷ exit Name.Data 1 6 5 0 ∷ [])) ×
    -- text no-hard_break_escape «a\␊b»: Data 0-2, LineEnding 2-3, Data 3-4
    (text_answer (record default { options = record default_options { constructs = record default_constructs { hard_break_escape = false } } }) (97 ∷ 92 ∷ 10 ∷ 98 ∷ []) (piece 0 0 4 0 ∷ []) ≡ (enter Name.Data 1 1 0 0 ∷ exit Name.Data 1 3 2 0 ∷ enter Name.LineEnding 1 3 2 0 ∷ exit Name.LineEnding 2 1 3 0 ∷ enter Name.Data 2 1 3 0 ∷ exit Name.Data 2 2 4 0 ∷ [])) ×
    -- text outer no-hard_break_escape «\*»: CharacterEscape 0-2
    (text_outline (record default { options = record default_options { constructs = record default_constructs { hard_break_escape = false } } }) (codes "\\*") (piece 0 0 2 0 ∷ []) ≡ (enter Name.CharacterEscape 1 1 0 0 ∷ exit Name.CharacterEscape 1 3 2 0 ∷ [])) ×
    -- text no-character_reference «&amp;»: Data 0-5
    (text_answer (record default { options = record default_options { constructs = record default_constructs { character_reference = false } } }) (codes "&amp;") (piece 0 0 5 0 ∷ []) ≡ (enter Name.Data 1 1 0 0 ∷ exit Name.Data 1 6 5 0 ∷ [])) ×
    -- string no-character_escape «\*»: Data 0-2
    (string_answer (record default { options = record default_options { constructs = record default_constructs { character_escape = false } } }) (codes "\\*") (piece 0 0 2 0 ∷ []) ≡ (enter Name.Data 1 1 0 0 ∷ exit Name.Data 1 3 2 0 ∷ [])) ×
    -- string no-character_reference «&amp;»: Data 0-5
    (string_answer (record default { options = record default_options { constructs = record default_constructs { character_reference = false } } }) (codes "&amp;") (piece 0 0 5 0 ∷ []) ≡ (enter Name.Data 1 1 0 0 ∷ exit Name.Data 1 6 5 0 ∷ [])) ×
    -- string outer no-character_escape «&amp;»: CharacterReference 0-5
    (string_outline (record default { options = record default_options { constructs = record default_constructs { character_escape = false } } }) (codes "&amp;") (piece 0 0 5 0 ∷ []) ≡ (enter Name.CharacterReference 1 1 0 0 ∷ exit Name.CharacterReference 1 6 5 0 ∷ [])) ×
    -- string outer no-character_reference «\*»: CharacterEscape 0-2
    (string_outline (record default { options = record default_options { constructs = record default_constructs { character_reference = false } } }) (codes "\\*") (piece 0 0 2 0 ∷ []) ≡ (enter Name.CharacterEscape 1 1 0 0 ∷ exit Name.CharacterEscape 1 3 2 0 ∷ [])) ×
    -- text no-code_text «`a`»: Data 0-3
    (text_answer (record default { options = record default_options { constructs = record default_constructs { code_text = false } } }) (codes "`a`") (piece 0 0 3 0 ∷ []) ≡ (enter Name.Data 1 1 0 0 ∷ exit Name.Data 1 4 3 0 ∷ [])) ×
    -- text outer math no-code_text «$a$»: MathText 0-3
    (text_outline (record default { options = record default_options { constructs = record default_constructs { math_text = true; code_text = false } } }) (codes "$a$") (piece 0 0 3 0 ∷ []) ≡ (enter Name.MathText 1 1 0 0 ∷ exit Name.MathText 1 4 3 0 ∷ [])) ×
    -- text «$a$»: Data 0-3
    (text_answer (default) (codes "$a$") (piece 0 0 3 0 ∷ []) ≡ (enter Name.Data 1 1 0 0 ∷ exit Name.Data 1 4 3 0 ∷ [])) ×
    -- text no-hard_break_trailing «a  ␊b»: Data 0-1, SpaceOrTab 1-3, LineEnding 3-4, Data 4-5
    (text_answer (record default { options = record default_options { constructs = record default_constructs { hard_break_trailing = false } } }) (97 ∷ 32 ∷ 32 ∷ 10 ∷ 98 ∷ []) (piece 0 0 5 0 ∷ []) ≡ (enter Name.Data 1 1 0 0 ∷ exit Name.Data 1 2 1 0 ∷ enter Name.SpaceOrTab 1 2 1 0 ∷ exit Name.SpaceOrTab 1 4 3 0 ∷ enter Name.LineEnding 1 4 3 0 ∷ exit Name.LineEnding 2 1 4 0 ∷ enter Name.Data 2 1 4 0 ∷ exit Name.Data 2 2 5 0 ∷ [])) ×
    -- text no-label_end «[a](b)»: Data 0-6
    (text_answer (record default { options = record default_options { constructs = record default_constructs { label_end = false } } }) (codes "[a](b)") (piece 0 0 6 0 ∷ []) ≡ (enter Name.Data 1 1 0 0 ∷ exit Name.Data 1 7 6 0 ∷ [])) ×
    -- text no-label_start_link «[a](b)»: Data 0-6
    (text_answer (record default { options = record default_options { constructs = record default_constructs { label_start_link = false } } }) (codes "[a](b)") (piece 0 0 6 0 ∷ []) ≡ (enter Name.Data 1 1 0 0 ∷ exit Name.Data 1 7 6 0 ∷ [])) ×
    -- text outer no-label_start_link «![a](b)»: Image 0-7
    (text_outline (record default { options = record default_options { constructs = record default_constructs { label_start_link = false } } }) (codes "![a](b)") (piece 0 0 7 0 ∷ []) ≡ (enter Name.Image 1 1 0 0 ∷ exit Name.Image 1 8 7 0 ∷ [])) ×
    -- text outer no-label_start_image «![a](b)»: Data 0-1, Link 1-7
    (text_outline (record default { options = record default_options { constructs = record default_constructs { label_start_image = false } } }) (codes "![a](b)") (piece 0 0 7 0 ∷ []) ≡ (enter Name.Data 1 1 0 0 ∷ exit Name.Data 1 2 1 0 ∷ enter Name.Link 1 2 1 0 ∷ exit Name.Link 1 8 7 0 ∷ [])) ×
    -- text outer «![^a](b)»: Image 0-8
    (text_outline (default) (codes "![^a](b)") (piece 0 0 8 0 ∷ []) ≡ (enter Name.Image 1 1 0 0 ∷ exit Name.Image 1 9 8 0 ∷ [])) ×
    -- text gfm no-gfm_label_start_footnote footnote=a «[^a]»: Data 0-4
    (text_answer (record default { options = record default_options { constructs = record default_constructs { gfm_autolink_literal = true; gfm_strikethrough = true; gfm_task_list_item = true; gfm_label_start_footnote = false } }; footnotes = (codes "a") ∷ [] }) (codes "[^a]") (piece 0 0 4 0 ∷ []) ≡ (enter Name.Data 1 1 0 0 ∷ exit Name.Data 1 5 4 0 ∷ [])) ×
    -- text outer gfm no-gfm_label_start_footnote «![^a](b)»: Image 0-8
    (text_outline (record default { options = record default_options { constructs = record default_constructs { gfm_autolink_literal = true; gfm_strikethrough = true; gfm_task_list_item = true; gfm_label_start_footnote = false } } }) (codes "![^a](b)") (piece 0 0 8 0 ∷ []) ≡ (enter Name.Image 1 1 0 0 ∷ exit Name.Image 1 9 8 0 ∷ [])) ×
    -- text outer gfm no-label_start_link footnote=a «[^a]»: GfmFootnoteCall 0-4
    (text_outline (record default { options = record default_options { constructs = record default_constructs { gfm_autolink_literal = true; gfm_label_start_footnote = true; gfm_strikethrough = true; gfm_task_list_item = true; label_start_link = false } }; footnotes = (codes "a") ∷ [] }) (codes "[^a]") (piece 0 0 4 0 ∷ []) ≡ (enter Name.GfmFootnoteCall 1 1 0 0 ∷ exit Name.GfmFootnoteCall 1 5 4 0 ∷ [])) ×
    -- text outer gfm no-label_start_image footnote=a «![^a]»: Data 0-1, GfmFootnoteCall 1-5
    (text_outline (record default { options = record default_options { constructs = record default_constructs { gfm_autolink_literal = true; gfm_label_start_footnote = true; gfm_strikethrough = true; gfm_task_list_item = true; label_start_image = false } }; footnotes = (codes "a") ∷ [] }) (codes "![^a]") (piece 0 0 5 0 ∷ []) ≡ (enter Name.Data 1 1 0 0 ∷ exit Name.Data 1 2 1 0 ∷ enter Name.GfmFootnoteCall 1 2 1 0 ∷ exit Name.GfmFootnoteCall 1 6 5 0 ∷ [])) ×
    -- text gfm no-gfm_autolink_literal «https://a.b www.a.b a@b.c»: Data 0-25
    (text_answer (record default { options = record default_options { constructs = record default_constructs { gfm_label_start_footnote = true; gfm_strikethrough = true; gfm_task_list_item = true; gfm_autolink_literal = false } } }) (codes "https://a.b www.a.b a@b.c") (piece 0 0 25 0 ∷ []) ≡ (enter Name.Data 1 1 0 0 ∷ exit Name.Data 1 26 25 0 ∷ [])) ×
    -- text gfm no-gfm_task_list_item first «[x] y»: Data 0-5
    (text_answer (record default { options = record default_options { constructs = record default_constructs { gfm_autolink_literal = true; gfm_label_start_footnote = true; gfm_strikethrough = true; gfm_task_list_item = false } }; first_of_item = true }) (codes "[x] y") (piece 0 0 5 0 ∷ []) ≡ (enter Name.Data 1 1 0 0 ∷ exit Name.Data 1 6 5 0 ∷ [])) ×
    -- text outer gfm no-attention no-gfm_strikethrough «a@b.c *d*»: GfmAutolinkLiteralEmail 0-5, Data 5-9
    (text_outline (record default { options = record default_options { constructs = record default_constructs { gfm_autolink_literal = true; gfm_label_start_footnote = true; gfm_task_list_item = true; attention = false; gfm_strikethrough = false } } }) (codes "a@b.c *d*") (piece 0 0 9 0 ∷ []) ≡ (enter Name.GfmAutolinkLiteralEmail 1 1 0 0 ∷ exit Name.GfmAutolinkLiteralEmail 1 6 5 0 ∷ enter Name.Data 1 6 5 0 ∷ exit Name.Data 1 10 9 0 ∷ []))

abbrev pub Choices : Type 0
Choices =
    -- text definition=a␠b «> [a␊> b]» 2-5 7-9: Data 2-4, LineEnding 4-5, Data 7-9
    (text_answer (record default { definitions = (codes "a b") ∷ [] }) (62 ∷ 32 ∷ 91 ∷ 97 ∷ 10 ∷ 62 ∷ 32 ∷ 98 ∷ 93 ∷ []) (piece 2 0 5 0 ∷ piece 7 0 9 0 ∷ []) ≡ (enter Name.Data 1 3 2 0 ∷ exit Name.Data 1 5 4 0 ∷ enter Name.LineEnding 1 5 4 0 ∷ exit Name.LineEnding 2 1 5 0 ∷ enter Name.Data 2 3 7 0 ∷ exit Name.Data 2 5 9 0 ∷ [])) ×
    -- text outer definition=a␠>␠b «> [a␊> b]» 2-5 7-9: Link 2-9
    (text_outline (record default { definitions = (codes "a > b") ∷ [] }) (62 ∷ 32 ∷ 91 ∷ 97 ∷ 10 ∷ 62 ∷ 32 ∷ 98 ∷ 93 ∷ []) (piece 2 0 5 0 ∷ piece 7 0 9 0 ∷ []) ≡ (enter Name.Link 1 3 2 0 ∷ exit Name.Link 2 5 9 0 ∷ [])) ×
    -- text outer definition=a «> [x][a␊> ]» 2-8 10-11: Link 2-11
    (text_outline (record default { definitions = (codes "a") ∷ [] }) (62 ∷ 32 ∷ 91 ∷ 120 ∷ 93 ∷ 91 ∷ 97 ∷ 10 ∷ 62 ∷ 32 ∷ 93 ∷ []) (piece 2 0 8 0 ∷ piece 10 0 11 0 ∷ []) ≡ (enter Name.Link 1 3 2 0 ∷ exit Name.Link 2 4 11 0 ∷ [])) ×
    -- text outer «[a](b (c(d))»: Link 0-12
    (text_outline (default) (codes "[a](b (c(d))") (piece 0 0 12 0 ∷ []) ≡ (enter Name.Link 1 1 0 0 ∷ exit Name.Link 1 13 12 0 ∷ [])) ×
    -- text outer definition=⟦x×999⟧ «[a][⟦x×999⟧␊]»: Link 0-1005
    (text_outline (record default { definitions = (codes "xxxxxxxxxxxxxxxxxxxxxxxxxxxxxxxxxxxxxxxxxxxxxxxxxxxxxxxxxxxxxxxxxxxxxxxxxxxxxxxxxxxxxxxxxxxxxxxxxxxxxxxxxxxxxxxxxxxxxxxxxxxxxxxxxxxxxxxxxxxxxxxxxxxxxxxxxxxxxxxxxxxxxxxxxxxxxxxxxxxxxxxxxxxxxxxxxxxxxxxxxxxxxxxxxxxxxxxxxxxxxxxxxxxxxxxxxxxxxxxxxxxxxxxxxxxxxxxxxxxxxxxxxxxxxxxxxxxxxxxxxxxxxxxxxxxxxxxxxxxxxxxxxxxxxxxxxxxxxxxxxxxxxxxxxxxxxxxxxxxxxxxxxxxxxxxxxxxxxxxxxxxxxxxxxxxxxxxxxxxxxxxxxxxxxxxxxxxxxxxxxxxxxxxxxxxxxxxxxxxxxxxxxxxxxxxxxxxxxxxxxxxxxxxxxxxxxxxxxxxxxxxxxxxxxxxxxxxxxxxxxxxxxxxxxxxxxxxxxxxxxxxxxxxxxxxxxxxxxxxxxxxxxxxxxxxxxxxxxxxxxxxxxxxxxxxxxxxxxxxxxxxxxxxxxxxxxxxxxxxxxxxxxxxxxxxxxxxxxxxxxxxxxxxxxxxxxxxxxxxxxxxxxxxxxxxxxxxxxxxxxxxxxxxxxxxxxxxxxxxxxxxxxxxxxxxxxxxxxxxxxxxxxxxxxxxxxxxxxxxxxxxxxxxxxxxxxxxxxxxxxxxxxxxxxxxxxxxxxxxxxxxxxxxxxxxxxxxxxxxxxxxxxxxxxxxxxxxxxxxxxxxxxxxxxxxxxxxxxxxxxxxxxxxxxxxxxxxxxxxxxxxxxxxxxxxxxxxxxxxxxxxxxxxxxxxxxxxxxxxxxxxxxxxxxxxxxxxxxxxxxxxxxxxxxxxxxxxxxxxxxxxxxxxxxxxxxxxxxxxxxxxxxxxxxxxxxxxxxxxxxxxxxxxxxxxxxxxxxxxxxxxxxxxxxxxxxxxxxxxxxxxxxxxxxxxxxxxxxxx") ∷ [] }) (91 ∷ 97 ∷ 93 ∷ 91 ∷ 120 ∷ 120 ∷ 120 ∷ 120 ∷ 120 ∷ 120 ∷ 120 ∷ 120 ∷ 120 ∷ 120 ∷ 120 ∷ 120 ∷ 120 ∷ 120 ∷ 120 ∷ 120 ∷ 120 ∷ 120 ∷ 120 ∷ 120 ∷ 120 ∷ 120 ∷ 120 ∷ 120 ∷ 120 ∷ 120 ∷ 120 ∷ 120 ∷ 120 ∷ 120 ∷ 120 ∷ 120 ∷ 120 ∷ 120 ∷ 120 ∷ 120 ∷ 120 ∷ 120 ∷ 120 ∷ 120 ∷ 120 ∷ 120 ∷ 120 ∷ 120 ∷ 120 ∷ 120 ∷ 120 ∷ 120 ∷ 120 ∷ 120 ∷ 120 ∷ 120 ∷ 120 ∷ 120 ∷ 120 ∷ 120 ∷ 120 ∷ 120 ∷ 120 ∷ 120 ∷ 120 ∷ 120 ∷ 120 ∷ 120 ∷ 120 ∷ 120 ∷ 120 ∷ 120 ∷ 120 ∷ 120 ∷ 120 ∷ 120 ∷ 120 ∷ 120 ∷ 120 ∷ 120 ∷ 120 ∷ 120 ∷ 120 ∷ 120 ∷ 120 ∷ 120 ∷ 120 ∷ 120 ∷ 120 ∷ 120 ∷ 120 ∷ 120 ∷ 120 ∷ 120 ∷ 120 ∷ 120 ∷ 120 ∷ 120 ∷ 120 ∷ 120 ∷ 120 ∷ 120 ∷ 120 ∷ 120 ∷ 120 ∷ 120 ∷ 120 ∷ 120 ∷ 120 ∷ 120 ∷ 120 ∷ 120 ∷ 120 ∷ 120 ∷ 120 ∷ 120 ∷ 120 ∷ 120 ∷ 120 ∷ 120 ∷ 120 ∷ 120 ∷ 120 ∷ 120 ∷ 120 ∷ 120 ∷ 120 ∷ 120 ∷ 120 ∷ 120 ∷ 120 ∷ 120 ∷ 120 ∷ 120 ∷ 120 ∷ 120 ∷ 120 ∷ 120 ∷ 120 ∷ 120 ∷ 120 ∷ 120 ∷ 120 ∷ 120 ∷ 120 ∷ 120 ∷ 120 ∷ 120 ∷ 120 ∷ 120 ∷ 120 ∷ 120 ∷ 120 ∷ 120 ∷ 120 ∷ 120 ∷ 120 ∷ 120 ∷ 120 ∷ 120 ∷ 120 ∷ 120 ∷ 120 ∷ 120 ∷ 120 ∷ 120 ∷ 120 ∷ 120 ∷ 120 ∷ 120 ∷ 120 ∷ 120 ∷ 120 ∷ 120 ∷ 120 ∷ 120 ∷ 120 ∷ 120 ∷ 120 ∷ 120 ∷ 120 ∷ 120 ∷ 120 ∷ 120 ∷ 120 ∷ 120 ∷ 120 ∷ 120 ∷ 120 ∷ 120 ∷ 120 ∷ 120 ∷ 120 ∷ 120 ∷ 120 ∷ 120 ∷ 120 ∷ 120 ∷ 120 ∷ 120 ∷ 120 ∷ 120 ∷ 120 ∷ 120 ∷ 120 ∷ 120 ∷ 120 ∷ 120 ∷ 120 ∷ 120 ∷ 120 ∷ 120 ∷ 120 ∷ 120 ∷ 120 ∷ 120 ∷ 120 ∷ 120 ∷ 120 ∷ 120 ∷ 120 ∷ 120 ∷ 120 ∷ 120 ∷ 120 ∷ 120 ∷ 120 ∷ 120 ∷ 120 ∷ 120 ∷ 120 ∷ 120 ∷ 120 ∷ 120 ∷ 120 ∷ 120 ∷ 120 ∷ 120 ∷ 120 ∷ 120 ∷ 120 ∷ 120 ∷ 120 ∷ 120 ∷ 120 ∷ 120 ∷ 120 ∷ 120 ∷ 120 ∷ 120 ∷ 120 ∷ 120 ∷ 120 ∷ 120 ∷ 120 ∷ 120 ∷ 120 ∷ 120 ∷ 120 ∷ 120 ∷ 120 ∷ 120 ∷ 120 ∷ 120 ∷ 120 ∷ 120 ∷ 120 ∷ 120 ∷ 120 ∷ 120 ∷ 120 ∷ 120 ∷ 120 ∷ 120 ∷ 120 ∷ 120 ∷ 120 ∷ 120 ∷ 120 ∷ 120 ∷ 120 ∷ 120 ∷ 120 ∷ 120 ∷ 120 ∷ 120 ∷ 120 ∷ 120 ∷ 120 ∷ 120 ∷ 120 ∷ 120 ∷ 120 ∷ 120 ∷ 120 ∷ 120 ∷ 120 ∷ 120 ∷ 120 ∷ 120 ∷ 120 ∷ 120 ∷ 120 ∷ 120 ∷ 120 ∷ 120 ∷ 120 ∷ 120 ∷ 120 ∷ 120 ∷ 120 ∷ 120 ∷ 120 ∷ 120 ∷ 120 ∷ 120 ∷ 120 ∷ 120 ∷ 120 ∷ 120 ∷ 120 ∷ 120 ∷ 120 ∷ 120 ∷ 120 ∷ 120 ∷ 120 ∷ 120 ∷ 120 ∷ 120 ∷ 120 ∷ 120 ∷ 120 ∷ 120 ∷ 120 ∷ 120 ∷ 120 ∷ 120 ∷ 120 ∷ 120 ∷ 120 ∷ 120 ∷ 120 ∷ 120 ∷ 120 ∷ 120 ∷ 120 ∷ 120 ∷ 120 ∷ 120 ∷ 120 ∷ 120 ∷ 120 ∷ 120 ∷ 120 ∷ 120 ∷ 120 ∷ 120 ∷ 120 ∷ 120 ∷ 120 ∷ 120 ∷ 120 ∷ 120 ∷ 120 ∷ 120 ∷ 120 ∷ 120 ∷ 120 ∷ 120 ∷ 120 ∷ 120 ∷ 120 ∷ 120 ∷ 120 ∷ 120 ∷ 120 ∷ 120 ∷ 120 ∷ 120 ∷ 120 ∷ 120 ∷ 120 ∷ 120 ∷ 120 ∷ 120 ∷ 120 ∷ 120 ∷ 120 ∷ 120 ∷ 120 ∷ 120 ∷ 120 ∷ 120 ∷ 120 ∷ 120 ∷ 120 ∷ 120 ∷ 120 ∷ 120 ∷ 120 ∷ 120 ∷ 120 ∷ 120 ∷ 120 ∷ 120 ∷ 120 ∷ 120 ∷ 120 ∷ 120 ∷ 120 ∷ 120 ∷ 120 ∷ 120 ∷ 120 ∷ 120 ∷ 120 ∷ 120 ∷ 120 ∷ 120 ∷ 120 ∷ 120 ∷ 120 ∷ 120 ∷ 120 ∷ 120 ∷ 120 ∷ 120 ∷ 120 ∷ 120 ∷ 120 ∷ 120 ∷ 120 ∷ 120 ∷ 120 ∷ 120 ∷ 120 ∷ 120 ∷ 120 ∷ 120 ∷ 120 ∷ 120 ∷ 120 ∷ 120 ∷ 120 ∷ 120 ∷ 120 ∷ 120 ∷ 120 ∷ 120 ∷ 120 ∷ 120 ∷ 120 ∷ 120 ∷ 120 ∷ 120 ∷ 120 ∷ 120 ∷ 120 ∷ 120 ∷ 120 ∷ 120 ∷ 120 ∷ 120 ∷ 120 ∷ 120 ∷ 120 ∷ 120 ∷ 120 ∷ 120 ∷ 120 ∷ 120 ∷ 120 ∷ 120 ∷ 120 ∷ 120 ∷ 120 ∷ 120 ∷ 120 ∷ 120 ∷ 120 ∷ 120 ∷ 120 ∷ 120 ∷ 120 ∷ 120 ∷ 120 ∷ 120 ∷ 120 ∷ 120 ∷ 120 ∷ 120 ∷ 120 ∷ 120 ∷ 120 ∷ 120 ∷ 120 ∷ 120 ∷ 120 ∷ 120 ∷ 120 ∷ 120 ∷ 120 ∷ 120 ∷ 120 ∷ 120 ∷ 120 ∷ 120 ∷ 120 ∷ 120 ∷ 120 ∷ 120 ∷ 120 ∷ 120 ∷ 120 ∷ 120 ∷ 120 ∷ 120 ∷ 120 ∷ 120 ∷ 120 ∷ 120 ∷ 120 ∷ 120 ∷ 120 ∷ 120 ∷ 120 ∷ 120 ∷ 120 ∷ 120 ∷ 120 ∷ 120 ∷ 120 ∷ 120 ∷ 120 ∷ 120 ∷ 120 ∷ 120 ∷ 120 ∷ 120 ∷ 120 ∷ 120 ∷ 120 ∷ 120 ∷ 120 ∷ 120 ∷ 120 ∷ 120 ∷ 120 ∷ 120 ∷ 120 ∷ 120 ∷ 120 ∷ 120 ∷ 120 ∷ 120 ∷ 120 ∷ 120 ∷ 120 ∷ 120 ∷ 120 ∷ 120 ∷ 120 ∷ 120 ∷ 120 ∷ 120 ∷ 120 ∷ 120 ∷ 120 ∷ 120 ∷ 120 ∷ 120 ∷ 120 ∷ 120 ∷ 120 ∷ 120 ∷ 120 ∷ 120 ∷ 120 ∷ 120 ∷ 120 ∷ 120 ∷ 120 ∷ 120 ∷ 120 ∷ 120 ∷ 120 ∷ 120 ∷ 120 ∷ 120 ∷ 120 ∷ 120 ∷ 120 ∷ 120 ∷ 120 ∷ 120 ∷ 120 ∷ 120 ∷ 120 ∷ 120 ∷ 120 ∷ 120 ∷ 120 ∷ 120 ∷ 120 ∷ 120 ∷ 120 ∷ 120 ∷ 120 ∷ 120 ∷ 120 ∷ 120 ∷ 120 ∷ 120 ∷ 120 ∷ 120 ∷ 120 ∷ 120 ∷ 120 ∷ 120 ∷ 120 ∷ 120 ∷ 120 ∷ 120 ∷ 120 ∷ 120 ∷ 120 ∷ 120 ∷ 120 ∷ 120 ∷ 120 ∷ 120 ∷ 120 ∷ 120 ∷ 120 ∷ 120 ∷ 120 ∷ 120 ∷ 120 ∷ 120 ∷ 120 ∷ 120 ∷ 120 ∷ 120 ∷ 120 ∷ 120 ∷ 120 ∷ 120 ∷ 120 ∷ 120 ∷ 120 ∷ 120 ∷ 120 ∷ 120 ∷ 120 ∷ 120 ∷ 120 ∷ 120 ∷ 120 ∷ 120 ∷ 120 ∷ 120 ∷ 120 ∷ 120 ∷ 120 ∷ 120 ∷ 120 ∷ 120 ∷ 120 ∷ 120 ∷ 120 ∷ 120 ∷ 120 ∷ 120 ∷ 120 ∷ 120 ∷ 120 ∷ 120 ∷ 120 ∷ 120 ∷ 120 ∷ 120 ∷ 120 ∷ 120 ∷ 120 ∷ 120 ∷ 120 ∷ 120 ∷ 120 ∷ 120 ∷ 120 ∷ 120 ∷ 120 ∷ 120 ∷ 120 ∷ 120 ∷ 120 ∷ 120 ∷ 120 ∷ 120 ∷ 120 ∷ 120 ∷ 120 ∷ 120 ∷ 120 ∷ 120 ∷ 120 ∷ 120 ∷ 120 ∷ 120 ∷ 120 ∷ 120 ∷ 120 ∷ 120 ∷ 120 ∷ 120 ∷ 120 ∷ 120 ∷ 120 ∷ 120 ∷ 120 ∷ 120 ∷ 120 ∷ 120 ∷ 120 ∷ 120 ∷ 120 ∷ 120 ∷ 120 ∷ 120 ∷ 120 ∷ 120 ∷ 120 ∷ 120 ∷ 120 ∷ 120 ∷ 120 ∷ 120 ∷ 120 ∷ 120 ∷ 120 ∷ 120 ∷ 120 ∷ 120 ∷ 120 ∷ 120 ∷ 120 ∷ 120 ∷ 120 ∷ 120 ∷ 120 ∷ 120 ∷ 120 ∷ 120 ∷ 120 ∷ 120 ∷ 120 ∷ 120 ∷ 120 ∷ 120 ∷ 120 ∷ 120 ∷ 120 ∷ 120 ∷ 120 ∷ 120 ∷ 120 ∷ 120 ∷ 120 ∷ 120 ∷ 120 ∷ 120 ∷ 120 ∷ 120 ∷ 120 ∷ 120 ∷ 120 ∷ 120 ∷ 120 ∷ 120 ∷ 120 ∷ 120 ∷ 120 ∷ 120 ∷ 120 ∷ 120 ∷ 120 ∷ 120 ∷ 120 ∷ 120 ∷ 120 ∷ 120 ∷ 120 ∷ 120 ∷ 120 ∷ 120 ∷ 120 ∷ 120 ∷ 120 ∷ 120 ∷ 120 ∷ 120 ∷ 120 ∷ 120 ∷ 120 ∷ 120 ∷ 120 ∷ 120 ∷ 120 ∷ 120 ∷ 120 ∷ 120 ∷ 120 ∷ 120 ∷ 120 ∷ 120 ∷ 120 ∷ 120 ∷ 120 ∷ 120 ∷ 120 ∷ 120 ∷ 120 ∷ 120 ∷ 120 ∷ 120 ∷ 120 ∷ 120 ∷ 120 ∷ 120 ∷ 120 ∷ 120 ∷ 120 ∷ 120 ∷ 120 ∷ 120 ∷ 120 ∷ 120 ∷ 120 ∷ 120 ∷ 120 ∷ 120 ∷ 120 ∷ 120 ∷ 120 ∷ 120 ∷ 120 ∷ 120 ∷ 120 ∷ 120 ∷ 120 ∷ 120 ∷ 120 ∷ 120 ∷ 120 ∷ 120 ∷ 120 ∷ 120 ∷ 120 ∷ 120 ∷ 120 ∷ 120 ∷ 120 ∷ 120 ∷ 120 ∷ 120 ∷ 120 ∷ 120 ∷ 120 ∷ 120 ∷ 120 ∷ 120 ∷ 120 ∷ 120 ∷ 120 ∷ 120 ∷ 120 ∷ 120 ∷ 120 ∷ 120 ∷ 120 ∷ 120 ∷ 120 ∷ 120 ∷ 120 ∷ 120 ∷ 120 ∷ 120 ∷ 120 ∷ 120 ∷ 120 ∷ 120 ∷ 120 ∷ 120 ∷ 120 ∷ 120 ∷ 120 ∷ 120 ∷ 120 ∷ 120 ∷ 120 ∷ 120 ∷ 120 ∷ 120 ∷ 120 ∷ 120 ∷ 120 ∷ 120 ∷ 120 ∷ 120 ∷ 120 ∷ 120 ∷ 120 ∷ 120 ∷ 120 ∷ 120 ∷ 120 ∷ 120 ∷ 120 ∷ 120 ∷ 120 ∷ 120 ∷ 120 ∷ 120 ∷ 120 ∷ 120 ∷ 120 ∷ 120 ∷ 120 ∷ 120 ∷ 120 ∷ 120 ∷ 120 ∷ 120 ∷ 120 ∷ 120 ∷ 120 ∷ 120 ∷ 120 ∷ 120 ∷ 120 ∷ 120 ∷ 120 ∷ 120 ∷ 120 ∷ 120 ∷ 120 ∷ 120 ∷ 120 ∷ 120 ∷ 120 ∷ 120 ∷ 120 ∷ 120 ∷ 120 ∷ 120 ∷ 120 ∷ 120 ∷ 120 ∷ 120 ∷ 120 ∷ 120 ∷ 120 ∷ 120 ∷ 120 ∷ 120 ∷ 120 ∷ 120 ∷ 120 ∷ 120 ∷ 120 ∷ 120 ∷ 120 ∷ 120 ∷ 120 ∷ 120 ∷ 120 ∷ 120 ∷ 120 ∷ 120 ∷ 120 ∷ 120 ∷ 120 ∷ 120 ∷ 120 ∷ 120 ∷ 120 ∷ 120 ∷ 120 ∷ 120 ∷ 120 ∷ 120 ∷ 120 ∷ 120 ∷ 120 ∷ 120 ∷ 120 ∷ 120 ∷ 120 ∷ 120 ∷ 120 ∷ 120 ∷ 120 ∷ 10 ∷ 93 ∷ []) (piece 0 0 1005 0 ∷ []) ≡ (enter Name.Link 1 1 0 0 ∷ exit Name.Link 2 2 1005 0 ∷ [])) ×
    -- text outer definition=⟦a×1000⟧ «[⟦a×1000⟧]»: Link 0-1002
    (text_outline (record default { definitions = (codes "aaaaaaaaaaaaaaaaaaaaaaaaaaaaaaaaaaaaaaaaaaaaaaaaaaaaaaaaaaaaaaaaaaaaaaaaaaaaaaaaaaaaaaaaaaaaaaaaaaaaaaaaaaaaaaaaaaaaaaaaaaaaaaaaaaaaaaaaaaaaaaaaaaaaaaaaaaaaaaaaaaaaaaaaaaaaaaaaaaaaaaaaaaaaaaaaaaaaaaaaaaaaaaaaaaaaaaaaaaaaaaaaaaaaaaaaaaaaaaaaaaaaaaaaaaaaaaaaaaaaaaaaaaaaaaaaaaaaaaaaaaaaaaaaaaaaaaaaaaaaaaaaaaaaaaaaaaaaaaaaaaaaaaaaaaaaaaaaaaaaaaaaaaaaaaaaaaaaaaaaaaaaaaaaaaaaaaaaaaaaaaaaaaaaaaaaaaaaaaaaaaaaaaaaaaaaaaaaaaaaaaaaaaaaaaaaaaaaaaaaaaaaaaaaaaaaaaaaaaaaaaaaaaaaaaaaaaaaaaaaaaaaaaaaaaaaaaaaaaaaaaaaaaaaaaaaaaaaaaaaaaaaaaaaaaaaaaaaaaaaaaaaaaaaaaaaaaaaaaaaaaaaaaaaaaaaaaaaaaaaaaaaaaaaaaaaaaaaaaaaaaaaaaaaaaaaaaaaaaaaaaaaaaaaaaaaaaaaaaaaaaaaaaaaaaaaaaaaaaaaaaaaaaaaaaaaaaaaaaaaaaaaaaaaaaaaaaaaaaaaaaaaaaaaaaaaaaaaaaaaaaaaaaaaaaaaaaaaaaaaaaaaaaaaaaaaaaaaaaaaaaaaaaaaaaaaaaaaaaaaaaaaaaaaaaaaaaaaaaaaaaaaaaaaaaaaaaaaaaaaaaaaaaaaaaaaaaaaaaaaaaaaaaaaaaaaaaaaaaaaaaaaaaaaaaaaaaaaaaaaaaaaaaaaaaaaaaaaaaaaaaaaaaaaaaaaaaaaaaaaaaaaaaaaaaaaaaaaaaaaaaaaaaaaaaaaaaaaaaaaaaaaaaaaaaaaaaaaaaaaaaaaaaaaaaaaaaaaaaaa") ∷ [] }) (codes "[aaaaaaaaaaaaaaaaaaaaaaaaaaaaaaaaaaaaaaaaaaaaaaaaaaaaaaaaaaaaaaaaaaaaaaaaaaaaaaaaaaaaaaaaaaaaaaaaaaaaaaaaaaaaaaaaaaaaaaaaaaaaaaaaaaaaaaaaaaaaaaaaaaaaaaaaaaaaaaaaaaaaaaaaaaaaaaaaaaaaaaaaaaaaaaaaaaaaaaaaaaaaaaaaaaaaaaaaaaaaaaaaaaaaaaaaaaaaaaaaaaaaaaaaaaaaaaaaaaaaaaaaaaaaaaaaaaaaaaaaaaaaaaaaaaaaaaaaaaaaaaaaaaaaaaaaaaaaaaaaaaaaaaaaaaaaaaaaaaaaaaaaaaaaaaaaaaaaaaaaaaaaaaaaaaaaaaaaaaaaaaaaaaaaaaaaaaaaaaaaaaaaaaaaaaaaaaaaaaaaaaaaaaaaaaaaaaaaaaaaaaaaaaaaaaaaaaaaaaaaaaaaaaaaaaaaaaaaaaaaaaaaaaaaaaaaaaaaaaaaaaaaaaaaaaaaaaaaaaaaaaaaaaaaaaaaaaaaaaaaaaaaaaaaaaaaaaaaaaaaaaaaaaaaaaaaaaaaaaaaaaaaaaaaaaaaaaaaaaaaaaaaaaaaaaaaaaaaaaaaaaaaaaaaaaaaaaaaaaaaaaaaaaaaaaaaaaaaaaaaaaaaaaaaaaaaaaaaaaaaaaaaaaaaaaaaaaaaaaaaaaaaaaaaaaaaaaaaaaaaaaaaaaaaaaaaaaaaaaaaaaaaaaaaaaaaaaaaaaaaaaaaaaaaaaaaaaaaaaaaaaaaaaaaaaaaaaaaaaaaaaaaaaaaaaaaaaaaaaaaaaaaaaaaaaaaaaaaaaaaaaaaaaaaaaaaaaaaaaaaaaaaaaaaaaaaaaaaaaaaaaaaaaaaaaaaaaaaaaaaaaaaaaaaaaaaaaaaaaaaaaaaaaaaaaaaaaaaaaaaaaaaaaaaaaaaaaaaaaaaaaaaaaaaaaaaaaaaaaaaaaaaaaaaaaaaaaaaaaaa]") (piece 0 0 1002 0 ∷ []) ≡ (enter Name.Link 1 1 0 0 ∷ exit Name.Link 1 1003 1002 0 ∷ [])) ×
    -- text «*␋a*»: Data 0-4
    (text_answer (default) (42 ∷ 11 ∷ 97 ∷ 42 ∷ []) (piece 0 0 4 0 ∷ []) ≡ (enter Name.Data 1 1 0 0 ∷ exit Name.Data 1 5 4 0 ∷ [])) ×
    -- text «a␉  ␊b»: Data 0-1, SpaceOrTab 1-4, LineEnding 4-5, Data 5-6
    (text_answer (default) (97 ∷ 9 ∷ 32 ∷ 32 ∷ 10 ∷ 98 ∷ []) (piece 0 0 6 0 ∷ []) ≡ (enter Name.Data 1 1 0 0 ∷ exit Name.Data 1 2 1 0 ∷ enter Name.SpaceOrTab 1 2 1 0 ∷ exit Name.SpaceOrTab 1 7 4 0 ∷ enter Name.LineEnding 1 7 4 0 ∷ exit Name.LineEnding 2 1 5 0 ∷ enter Name.Data 2 1 5 0 ∷ exit Name.Data 2 2 6 0 ∷ [])) ×
    -- text «a \␊b»: Data 0-2, HardBreakEscape 2-3, LineEnding 3-4, Data 4-5
    (text_answer (default) (97 ∷ 32 ∷ 92 ∷ 10 ∷ 98 ∷ []) (piece 0 0 5 0 ∷ []) ≡ (enter Name.Data 1 1 0 0 ∷ exit Name.Data 1 3 2 0 ∷ enter Name.HardBreakEscape 1 3 2 0 ∷ exit Name.HardBreakEscape 1 4 3 0 ∷ enter Name.LineEnding 1 4 3 0 ∷ exit Name.LineEnding 2 1 4 0 ∷ enter Name.Data 2 1 4 0 ∷ exit Name.Data 2 2 5 0 ∷ [])) ×
    -- text «&Abreve;»: Data 0-8
    (text_answer (default) (codes "&Abreve;") (piece 0 0 8 0 ∷ []) ≡ (enter Name.Data 1 1 0 0 ∷ exit Name.Data 1 9 8 0 ∷ [])) ×
    -- text outer gfm definition=^a «[^ a]»: Link 0-5
    (text_outline (record default { options = record default_options { constructs = record default_constructs { gfm_autolink_literal = true; gfm_label_start_footnote = true; gfm_strikethrough = true; gfm_task_list_item = true } }; definitions = (codes "^a") ∷ [] }) (codes "[^ a]") (piece 0 0 5 0 ∷ []) ≡ (enter Name.Link 1 1 0 0 ∷ exit Name.Link 1 6 5 0 ∷ [])) ×
    -- text outer definition= «[]»: Link 0-2
    (text_outline (record default { definitions = (codes "") ∷ [] }) (codes "[]") (piece 0 0 2 0 ∷ []) ≡ (enter Name.Link 1 1 0 0 ∷ exit Name.Link 1 3 2 0 ∷ [])) ×
    -- text outer definition= «[ ]»: Link 0-3
    (text_outline (record default { definitions = (codes "") ∷ [] }) (codes "[ ]") (piece 0 0 3 0 ∷ []) ≡ (enter Name.Link 1 1 0 0 ∷ exit Name.Link 1 4 3 0 ∷ [])) ×
    -- text gfm «http://a»: GfmAutolinkLiteralProtocol 0-8
    (text_answer (record default { options = record default_options { constructs = record default_constructs { gfm_autolink_literal = true; gfm_label_start_footnote = true; gfm_strikethrough = true; gfm_task_list_item = true } } }) (codes "http://a") (piece 0 0 8 0 ∷ []) ≡ (enter Name.GfmAutolinkLiteralProtocol 1 1 0 0 ∷ exit Name.GfmAutolinkLiteralProtocol 1 9 8 0 ∷ [])) ×
    -- text gfm «HTTPS://a.b»: GfmAutolinkLiteralProtocol 0-11
    (text_answer (record default { options = record default_options { constructs = record default_constructs { gfm_autolink_literal = true; gfm_label_start_footnote = true; gfm_strikethrough = true; gfm_task_list_item = true } } }) (codes "HTTPS://a.b") (piece 0 0 11 0 ∷ []) ≡ (enter Name.GfmAutolinkLiteralProtocol 1 1 0 0 ∷ exit Name.GfmAutolinkLiteralProtocol 1 12 11 0 ∷ [])) ×
    -- text gfm «www.a.b"»: GfmAutolinkLiteralWww 0-7, Data 7-8
    (text_answer (record default { options = record default_options { constructs = record default_constructs { gfm_autolink_literal = true; gfm_label_start_footnote = true; gfm_strikethrough = true; gfm_task_list_item = true } } }) (codes "www.a.b\"") (piece 0 0 8 0 ∷ []) ≡ (enter Name.GfmAutolinkLiteralWww 1 1 0 0 ∷ exit Name.GfmAutolinkLiteralWww 1 8 7 0 ∷ enter Name.Data 1 8 7 0 ∷ exit Name.Data 1 9 8 0 ∷ [])) ×
    -- text gfm «www.)»: GfmAutolinkLiteralWww 0-3, Data 3-5
    (text_answer (record default { options = record default_options { constructs = record default_constructs { gfm_autolink_literal = true; gfm_label_start_footnote = true; gfm_strikethrough = true; gfm_task_list_item = true } } }) (codes "www.)") (piece 0 0 5 0 ∷ []) ≡ (enter Name.GfmAutolinkLiteralWww 1 1 0 0 ∷ exit Name.GfmAutolinkLiteralWww 1 4 3 0 ∷ enter Name.Data 1 4 3 0 ∷ exit Name.Data 1 6 5 0 ∷ [])) ×
    -- text gfm «www. x»: GfmAutolinkLiteralWww 0-3, Data 3-6
    (text_answer (record default { options = record default_options { constructs = record default_constructs { gfm_autolink_literal = true; gfm_label_start_footnote = true; gfm_strikethrough = true; gfm_task_list_item = true } } }) (codes "www. x") (piece 0 0 6 0 ∷ []) ≡ (enter Name.GfmAutolinkLiteralWww 1 1 0 0 ∷ exit Name.GfmAutolinkLiteralWww 1 4 3 0 ∷ enter Name.Data 1 4 3 0 ∷ exit Name.Data 1 7 6 0 ∷ [])) ×
    -- text gfm «www..»: GfmAutolinkLiteralWww 0-3, Data 3-5
    (text_answer (record default { options = record default_options { constructs = record default_constructs { gfm_autolink_literal = true; gfm_label_start_footnote = true; gfm_strikethrough = true; gfm_task_list_item = true } } }) (codes "www..") (piece 0 0 5 0 ∷ []) ≡ (enter Name.GfmAutolinkLiteralWww 1 1 0 0 ∷ exit Name.GfmAutolinkLiteralWww 1 4 3 0 ∷ enter Name.Data 1 4 3 0 ∷ exit Name.Data 1 6 5 0 ∷ [])) ×
    -- text gfm «a@b.1»: Data 0-5
    (text_answer (record default { options = record default_options { constructs = record default_constructs { gfm_autolink_literal = true; gfm_label_start_footnote = true; gfm_strikethrough = true; gfm_task_list_item = true } } }) (codes "a@b.1") (piece 0 0 5 0 ∷ []) ≡ (enter Name.Data 1 1 0 0 ∷ exit Name.Data 1 6 5 0 ∷ [])) ×
    -- text gfm «[www.a.b](c)»: Link 0-12 [Label 0-9 [LabelLink 0-1, LabelText 1-8 [GfmAutolinkLiteralWww 1-8], LabelEnd 8-9], Resource 9-12 [ResourceMarker 9-10, Raw 10-11, ResourceMarker 11-12]]
    (text_answer (record default { options = record default_options { constructs = record default_constructs { gfm_autolink_literal = true; gfm_label_start_footnote = true; gfm_strikethrough = true; gfm_task_list_item = true } } }) (codes "[www.a.b](c)") (piece 0 0 12 0 ∷ []) ≡ (enter Name.Link 1 1 0 0 ∷ enter Name.Label 1 1 0 0 ∷ enter Name.LabelLink 1 1 0 0 ∷ enter Name.LabelMarker 1 1 0 0 ∷ exit Name.LabelMarker 1 2 1 0 ∷ exit Name.LabelLink 1 2 1 0 ∷ enter Name.LabelText 1 2 1 0 ∷ enter Name.GfmAutolinkLiteralWww 1 2 1 0 ∷ exit Name.GfmAutolinkLiteralWww 1 9 8 0 ∷ exit Name.LabelText 1 9 8 0 ∷ enter Name.LabelEnd 1 9 8 0 ∷ enter Name.LabelMarker 1 9 8 0 ∷ exit Name.LabelMarker 1 10 9 0 ∷ exit Name.LabelEnd 1 10 9 0 ∷ exit Name.Label 1 10 9 0 ∷ enter Name.Resource 1 10 9 0 ∷ enter Name.ResourceMarker 1 10 9 0 ∷ exit Name.ResourceMarker 1 11 10 0 ∷ enter Name.ResourceDestination 1 11 10 0 ∷ enter Name.ResourceDestinationRaw 1 11 10 0 ∷ enter Name.ResourceDestinationString 1 11 10 0 ∷ chained Name.Data 1 11 10 0 None None ∷ exit Name.Data 1 12 11 0 ∷ exit Name.ResourceDestinationString 1 12 11 0 ∷ exit Name.ResourceDestinationRaw 1 12 11 0 ∷ exit Name.ResourceDestination 1 12 11 0 ∷ enter Name.ResourceMarker 1 12 11 0 ∷ exit Name.ResourceMarker 1 13 12 0 ∷ exit Name.Resource 1 13 12 0 ∷ exit Name.Link 1 13 12 0 ∷ [])) ×
    -- text outer «[a](b␊"c")»: Link 0-10
    (text_outline (default) (91 ∷ 97 ∷ 93 ∷ 40 ∷ 98 ∷ 10 ∷ 34 ∷ 99 ∷ 34 ∷ 41 ∷ []) (piece 0 0 10 0 ∷ []) ≡ (enter Name.Link 1 1 0 0 ∷ exit Name.Link 2 5 10 0 ∷ [])) ×
    -- text outer «**a*b*c**»: Strong 0-9
    (text_outline (default) (codes "**a*b*c**") (piece 0 0 9 0 ∷ []) ≡ (enter Name.Strong 1 1 0 0 ∷ exit Name.Strong 1 10 9 0 ∷ [])) ×
    -- text gfm «"http://a.b»: Data 0-1, GfmAutolinkLiteralProtocol 1-11
    (text_answer (record default { options = record default_options { constructs = record default_constructs { gfm_autolink_literal = true; gfm_label_start_footnote = true; gfm_strikethrough = true; gfm_task_list_item = true } } }) (codes "\"http://a.b") (piece 0 0 11 0 ∷ []) ≡ (enter Name.Data 1 1 0 0 ∷ exit Name.Data 1 2 1 0 ∷ enter Name.GfmAutolinkLiteralProtocol 1 2 1 0 ∷ exit Name.GfmAutolinkLiteralProtocol 1 12 11 0 ∷ [])) ×
    -- text outer definition=a[b] «[a[b]]»: Link 0-6
    (text_outline (record default { definitions = (codes "a[b]") ∷ [] }) (codes "[a[b]]") (piece 0 0 6 0 ∷ []) ≡ (enter Name.Link 1 1 0 0 ∷ exit Name.Link 1 7 6 0 ∷ [])) ×
    -- text outer gfm «xmpp:a@b.c/d/e»: GfmAutolinkLiteralXmpp 0-14
    (text_outline (record default { options = record default_options { constructs = record default_constructs { gfm_autolink_literal = true; gfm_label_start_footnote = true; gfm_strikethrough = true; gfm_task_list_item = true } } }) (codes "xmpp:a@b.c/d/e") (piece 0 0 14 0 ∷ []) ≡ (enter Name.GfmAutolinkLiteralXmpp 1 1 0 0 ∷ exit Name.GfmAutolinkLiteralXmpp 1 15 14 0 ∷ []))

abbrev pub LabelSizes : Type 0
LabelSizes =
    -- text outer definition=`⟦a×998⟧` «[`⟦a×998⟧`]»: Link 0-1002
    (text_outline (record default { definitions = (codes "`aaaaaaaaaaaaaaaaaaaaaaaaaaaaaaaaaaaaaaaaaaaaaaaaaaaaaaaaaaaaaaaaaaaaaaaaaaaaaaaaaaaaaaaaaaaaaaaaaaaaaaaaaaaaaaaaaaaaaaaaaaaaaaaaaaaaaaaaaaaaaaaaaaaaaaaaaaaaaaaaaaaaaaaaaaaaaaaaaaaaaaaaaaaaaaaaaaaaaaaaaaaaaaaaaaaaaaaaaaaaaaaaaaaaaaaaaaaaaaaaaaaaaaaaaaaaaaaaaaaaaaaaaaaaaaaaaaaaaaaaaaaaaaaaaaaaaaaaaaaaaaaaaaaaaaaaaaaaaaaaaaaaaaaaaaaaaaaaaaaaaaaaaaaaaaaaaaaaaaaaaaaaaaaaaaaaaaaaaaaaaaaaaaaaaaaaaaaaaaaaaaaaaaaaaaaaaaaaaaaaaaaaaaaaaaaaaaaaaaaaaaaaaaaaaaaaaaaaaaaaaaaaaaaaaaaaaaaaaaaaaaaaaaaaaaaaaaaaaaaaaaaaaaaaaaaaaaaaaaaaaaaaaaaaaaaaaaaaaaaaaaaaaaaaaaaaaaaaaaaaaaaaaaaaaaaaaaaaaaaaaaaaaaaaaaaaaaaaaaaaaaaaaaaaaaaaaaaaaaaaaaaaaaaaaaaaaaaaaaaaaaaaaaaaaaaaaaaaaaaaaaaaaaaaaaaaaaaaaaaaaaaaaaaaaaaaaaaaaaaaaaaaaaaaaaaaaaaaaaaaaaaaaaaaaaaaaaaaaaaaaaaaaaaaaaaaaaaaaaaaaaaaaaaaaaaaaaaaaaaaaaaaaaaaaaaaaaaaaaaaaaaaaaaaaaaaaaaaaaaaaaaaaaaaaaaaaaaaaaaaaaaaaaaaaaaaaaaaaaaaaaaaaaaaaaaaaaaaaaaaaaaaaaaaaaaaaaaaaaaaaaaaaaaaaaaaaaaaaaaaaaaaaaaaaaaaaaaaaaaaaaaaaaaaaaaaaaaaaaaaaaaaaaaaaaaaaaaaaaaaaaaaaaaaaaaaaaaaaa`") ∷ [] }) (codes "[`aaaaaaaaaaaaaaaaaaaaaaaaaaaaaaaaaaaaaaaaaaaaaaaaaaaaaaaaaaaaaaaaaaaaaaaaaaaaaaaaaaaaaaaaaaaaaaaaaaaaaaaaaaaaaaaaaaaaaaaaaaaaaaaaaaaaaaaaaaaaaaaaaaaaaaaaaaaaaaaaaaaaaaaaaaaaaaaaaaaaaaaaaaaaaaaaaaaaaaaaaaaaaaaaaaaaaaaaaaaaaaaaaaaaaaaaaaaaaaaaaaaaaaaaaaaaaaaaaaaaaaaaaaaaaaaaaaaaaaaaaaaaaaaaaaaaaaaaaaaaaaaaaaaaaaaaaaaaaaaaaaaaaaaaaaaaaaaaaaaaaaaaaaaaaaaaaaaaaaaaaaaaaaaaaaaaaaaaaaaaaaaaaaaaaaaaaaaaaaaaaaaaaaaaaaaaaaaaaaaaaaaaaaaaaaaaaaaaaaaaaaaaaaaaaaaaaaaaaaaaaaaaaaaaaaaaaaaaaaaaaaaaaaaaaaaaaaaaaaaaaaaaaaaaaaaaaaaaaaaaaaaaaaaaaaaaaaaaaaaaaaaaaaaaaaaaaaaaaaaaaaaaaaaaaaaaaaaaaaaaaaaaaaaaaaaaaaaaaaaaaaaaaaaaaaaaaaaaaaaaaaaaaaaaaaaaaaaaaaaaaaaaaaaaaaaaaaaaaaaaaaaaaaaaaaaaaaaaaaaaaaaaaaaaaaaaaaaaaaaaaaaaaaaaaaaaaaaaaaaaaaaaaaaaaaaaaaaaaaaaaaaaaaaaaaaaaaaaaaaaaaaaaaaaaaaaaaaaaaaaaaaaaaaaaaaaaaaaaaaaaaaaaaaaaaaaaaaaaaaaaaaaaaaaaaaaaaaaaaaaaaaaaaaaaaaaaaaaaaaaaaaaaaaaaaaaaaaaaaaaaaaaaaaaaaaaaaaaaaaaaaaaaaaaaaaaaaaaaaaaaaaaaaaaaaaaaaaaaaaaaaaaaaaaaaaaaaaaaaaaaaaaaaaaaaaaaaaaaaaaaaaaaaaaaaaaaaaaaa`]") (piece 0 0 1002 0 ∷ []) ≡ (enter Name.Link 1 1 0 0 ∷ exit Name.Link 1 1003 1002 0 ∷ [])) ×
    -- text outer commonmark definition=`⟦a×998⟧` «[`⟦a×998⟧`]»: Data 0-1, CodeText 1-1001, Data 1001-1002
    (text_outline (record default { options = record default_options { commonmark = true }; definitions = (codes "`aaaaaaaaaaaaaaaaaaaaaaaaaaaaaaaaaaaaaaaaaaaaaaaaaaaaaaaaaaaaaaaaaaaaaaaaaaaaaaaaaaaaaaaaaaaaaaaaaaaaaaaaaaaaaaaaaaaaaaaaaaaaaaaaaaaaaaaaaaaaaaaaaaaaaaaaaaaaaaaaaaaaaaaaaaaaaaaaaaaaaaaaaaaaaaaaaaaaaaaaaaaaaaaaaaaaaaaaaaaaaaaaaaaaaaaaaaaaaaaaaaaaaaaaaaaaaaaaaaaaaaaaaaaaaaaaaaaaaaaaaaaaaaaaaaaaaaaaaaaaaaaaaaaaaaaaaaaaaaaaaaaaaaaaaaaaaaaaaaaaaaaaaaaaaaaaaaaaaaaaaaaaaaaaaaaaaaaaaaaaaaaaaaaaaaaaaaaaaaaaaaaaaaaaaaaaaaaaaaaaaaaaaaaaaaaaaaaaaaaaaaaaaaaaaaaaaaaaaaaaaaaaaaaaaaaaaaaaaaaaaaaaaaaaaaaaaaaaaaaaaaaaaaaaaaaaaaaaaaaaaaaaaaaaaaaaaaaaaaaaaaaaaaaaaaaaaaaaaaaaaaaaaaaaaaaaaaaaaaaaaaaaaaaaaaaaaaaaaaaaaaaaaaaaaaaaaaaaaaaaaaaaaaaaaaaaaaaaaaaaaaaaaaaaaaaaaaaaaaaaaaaaaaaaaaaaaaaaaaaaaaaaaaaaaaaaaaaaaaaaaaaaaaaaaaaaaaaaaaaaaaaaaaaaaaaaaaaaaaaaaaaaaaaaaaaaaaaaaaaaaaaaaaaaaaaaaaaaaaaaaaaaaaaaaaaaaaaaaaaaaaaaaaaaaaaaaaaaaaaaaaaaaaaaaaaaaaaaaaaaaaaaaaaaaaaaaaaaaaaaaaaaaaaaaaaaaaaaaaaaaaaaaaaaaaaaaaaaaaaaaaaaaaaaaaaaaaaaaaaaaaaaaaaaaaaaaaaaaaaaaaaaaaaaaaaaaaaaaaaaaaaaaaaaaaaaaaaaaaaaaaaaaaaaaaaaaaaaaa`") ∷ [] }) (codes "[`aaaaaaaaaaaaaaaaaaaaaaaaaaaaaaaaaaaaaaaaaaaaaaaaaaaaaaaaaaaaaaaaaaaaaaaaaaaaaaaaaaaaaaaaaaaaaaaaaaaaaaaaaaaaaaaaaaaaaaaaaaaaaaaaaaaaaaaaaaaaaaaaaaaaaaaaaaaaaaaaaaaaaaaaaaaaaaaaaaaaaaaaaaaaaaaaaaaaaaaaaaaaaaaaaaaaaaaaaaaaaaaaaaaaaaaaaaaaaaaaaaaaaaaaaaaaaaaaaaaaaaaaaaaaaaaaaaaaaaaaaaaaaaaaaaaaaaaaaaaaaaaaaaaaaaaaaaaaaaaaaaaaaaaaaaaaaaaaaaaaaaaaaaaaaaaaaaaaaaaaaaaaaaaaaaaaaaaaaaaaaaaaaaaaaaaaaaaaaaaaaaaaaaaaaaaaaaaaaaaaaaaaaaaaaaaaaaaaaaaaaaaaaaaaaaaaaaaaaaaaaaaaaaaaaaaaaaaaaaaaaaaaaaaaaaaaaaaaaaaaaaaaaaaaaaaaaaaaaaaaaaaaaaaaaaaaaaaaaaaaaaaaaaaaaaaaaaaaaaaaaaaaaaaaaaaaaaaaaaaaaaaaaaaaaaaaaaaaaaaaaaaaaaaaaaaaaaaaaaaaaaaaaaaaaaaaaaaaaaaaaaaaaaaaaaaaaaaaaaaaaaaaaaaaaaaaaaaaaaaaaaaaaaaaaaaaaaaaaaaaaaaaaaaaaaaaaaaaaaaaaaaaaaaaaaaaaaaaaaaaaaaaaaaaaaaaaaaaaaaaaaaaaaaaaaaaaaaaaaaaaaaaaaaaaaaaaaaaaaaaaaaaaaaaaaaaaaaaaaaaaaaaaaaaaaaaaaaaaaaaaaaaaaaaaaaaaaaaaaaaaaaaaaaaaaaaaaaaaaaaaaaaaaaaaaaaaaaaaaaaaaaaaaaaaaaaaaaaaaaaaaaaaaaaaaaaaaaaaaaaaaaaaaaaaaaaaaaaaaaaaaaaaaaaaaaaaaaaaaaaaaaaaaaaaaaaaaaaaa`]") (piece 0 0 1002 0 ∷ []) ≡ (enter Name.Data 1 1 0 0 ∷ exit Name.Data 1 2 1 0 ∷ enter Name.CodeText 1 2 1 0 ∷ exit Name.CodeText 1 1002 1001 0 ∷ enter Name.Data 1 1002 1001 0 ∷ exit Name.Data 1 1003 1002 0 ∷ [])) ×
    -- text outer commonmark definition=`⟦a×998⟧` «[`⟦a×998⟧`][]»: Data 0-1, CodeText 1-1001, Data 1001-1004
    (text_outline (record default { options = record default_options { commonmark = true }; definitions = (codes "`aaaaaaaaaaaaaaaaaaaaaaaaaaaaaaaaaaaaaaaaaaaaaaaaaaaaaaaaaaaaaaaaaaaaaaaaaaaaaaaaaaaaaaaaaaaaaaaaaaaaaaaaaaaaaaaaaaaaaaaaaaaaaaaaaaaaaaaaaaaaaaaaaaaaaaaaaaaaaaaaaaaaaaaaaaaaaaaaaaaaaaaaaaaaaaaaaaaaaaaaaaaaaaaaaaaaaaaaaaaaaaaaaaaaaaaaaaaaaaaaaaaaaaaaaaaaaaaaaaaaaaaaaaaaaaaaaaaaaaaaaaaaaaaaaaaaaaaaaaaaaaaaaaaaaaaaaaaaaaaaaaaaaaaaaaaaaaaaaaaaaaaaaaaaaaaaaaaaaaaaaaaaaaaaaaaaaaaaaaaaaaaaaaaaaaaaaaaaaaaaaaaaaaaaaaaaaaaaaaaaaaaaaaaaaaaaaaaaaaaaaaaaaaaaaaaaaaaaaaaaaaaaaaaaaaaaaaaaaaaaaaaaaaaaaaaaaaaaaaaaaaaaaaaaaaaaaaaaaaaaaaaaaaaaaaaaaaaaaaaaaaaaaaaaaaaaaaaaaaaaaaaaaaaaaaaaaaaaaaaaaaaaaaaaaaaaaaaaaaaaaaaaaaaaaaaaaaaaaaaaaaaaaaaaaaaaaaaaaaaaaaaaaaaaaaaaaaaaaaaaaaaaaaaaaaaaaaaaaaaaaaaaaaaaaaaaaaaaaaaaaaaaaaaaaaaaaaaaaaaaaaaaaaaaaaaaaaaaaaaaaaaaaaaaaaaaaaaaaaaaaaaaaaaaaaaaaaaaaaaaaaaaaaaaaaaaaaaaaaaaaaaaaaaaaaaaaaaaaaaaaaaaaaaaaaaaaaaaaaaaaaaaaaaaaaaaaaaaaaaaaaaaaaaaaaaaaaaaaaaaaaaaaaaaaaaaaaaaaaaaaaaaaaaaaaaaaaaaaaaaaaaaaaaaaaaaaaaaaaaaaaaaaaaaaaaaaaaaaaaaaaaaaaaaaaaaaaaaaaaaaaaaaaaaaaaaaaaaaa`") ∷ [] }) (codes "[`aaaaaaaaaaaaaaaaaaaaaaaaaaaaaaaaaaaaaaaaaaaaaaaaaaaaaaaaaaaaaaaaaaaaaaaaaaaaaaaaaaaaaaaaaaaaaaaaaaaaaaaaaaaaaaaaaaaaaaaaaaaaaaaaaaaaaaaaaaaaaaaaaaaaaaaaaaaaaaaaaaaaaaaaaaaaaaaaaaaaaaaaaaaaaaaaaaaaaaaaaaaaaaaaaaaaaaaaaaaaaaaaaaaaaaaaaaaaaaaaaaaaaaaaaaaaaaaaaaaaaaaaaaaaaaaaaaaaaaaaaaaaaaaaaaaaaaaaaaaaaaaaaaaaaaaaaaaaaaaaaaaaaaaaaaaaaaaaaaaaaaaaaaaaaaaaaaaaaaaaaaaaaaaaaaaaaaaaaaaaaaaaaaaaaaaaaaaaaaaaaaaaaaaaaaaaaaaaaaaaaaaaaaaaaaaaaaaaaaaaaaaaaaaaaaaaaaaaaaaaaaaaaaaaaaaaaaaaaaaaaaaaaaaaaaaaaaaaaaaaaaaaaaaaaaaaaaaaaaaaaaaaaaaaaaaaaaaaaaaaaaaaaaaaaaaaaaaaaaaaaaaaaaaaaaaaaaaaaaaaaaaaaaaaaaaaaaaaaaaaaaaaaaaaaaaaaaaaaaaaaaaaaaaaaaaaaaaaaaaaaaaaaaaaaaaaaaaaaaaaaaaaaaaaaaaaaaaaaaaaaaaaaaaaaaaaaaaaaaaaaaaaaaaaaaaaaaaaaaaaaaaaaaaaaaaaaaaaaaaaaaaaaaaaaaaaaaaaaaaaaaaaaaaaaaaaaaaaaaaaaaaaaaaaaaaaaaaaaaaaaaaaaaaaaaaaaaaaaaaaaaaaaaaaaaaaaaaaaaaaaaaaaaaaaaaaaaaaaaaaaaaaaaaaaaaaaaaaaaaaaaaaaaaaaaaaaaaaaaaaaaaaaaaaaaaaaaaaaaaaaaaaaaaaaaaaaaaaaaaaaaaaaaaaaaaaaaaaaaaaaaaaaaaaaaaaaaaaaaaaaaaaaaaaaaaaaaaaaa`][]") (piece 0 0 1004 0 ∷ []) ≡ (enter Name.Data 1 1 0 0 ∷ exit Name.Data 1 2 1 0 ∷ enter Name.CodeText 1 2 1 0 ∷ exit Name.CodeText 1 1002 1001 0 ∷ enter Name.Data 1 1002 1001 0 ∷ exit Name.Data 1 1005 1004 0 ∷ [])) ×
    -- text outer commonmark definition=`⟦a×997⟧` «[`⟦a×997⟧`]»: Link 0-1001
    (text_outline (record default { options = record default_options { commonmark = true }; definitions = (codes "`aaaaaaaaaaaaaaaaaaaaaaaaaaaaaaaaaaaaaaaaaaaaaaaaaaaaaaaaaaaaaaaaaaaaaaaaaaaaaaaaaaaaaaaaaaaaaaaaaaaaaaaaaaaaaaaaaaaaaaaaaaaaaaaaaaaaaaaaaaaaaaaaaaaaaaaaaaaaaaaaaaaaaaaaaaaaaaaaaaaaaaaaaaaaaaaaaaaaaaaaaaaaaaaaaaaaaaaaaaaaaaaaaaaaaaaaaaaaaaaaaaaaaaaaaaaaaaaaaaaaaaaaaaaaaaaaaaaaaaaaaaaaaaaaaaaaaaaaaaaaaaaaaaaaaaaaaaaaaaaaaaaaaaaaaaaaaaaaaaaaaaaaaaaaaaaaaaaaaaaaaaaaaaaaaaaaaaaaaaaaaaaaaaaaaaaaaaaaaaaaaaaaaaaaaaaaaaaaaaaaaaaaaaaaaaaaaaaaaaaaaaaaaaaaaaaaaaaaaaaaaaaaaaaaaaaaaaaaaaaaaaaaaaaaaaaaaaaaaaaaaaaaaaaaaaaaaaaaaaaaaaaaaaaaaaaaaaaaaaaaaaaaaaaaaaaaaaaaaaaaaaaaaaaaaaaaaaaaaaaaaaaaaaaaaaaaaaaaaaaaaaaaaaaaaaaaaaaaaaaaaaaaaaaaaaaaaaaaaaaaaaaaaaaaaaaaaaaaaaaaaaaaaaaaaaaaaaaaaaaaaaaaaaaaaaaaaaaaaaaaaaaaaaaaaaaaaaaaaaaaaaaaaaaaaaaaaaaaaaaaaaaaaaaaaaaaaaaaaaaaaaaaaaaaaaaaaaaaaaaaaaaaaaaaaaaaaaaaaaaaaaaaaaaaaaaaaaaaaaaaaaaaaaaaaaaaaaaaaaaaaaaaaaaaaaaaaaaaaaaaaaaaaaaaaaaaaaaaaaaaaaaaaaaaaaaaaaaaaaaaaaaaaaaaaaaaaaaaaaaaaaaaaaaaaaaaaaaaaaaaaaaaaaaaaaaaaaaaaaaaaaaaaaaaaaaaaaaaaaaaaaaaaaaaaaaaaaaaa`") ∷ [] }) (codes "[`aaaaaaaaaaaaaaaaaaaaaaaaaaaaaaaaaaaaaaaaaaaaaaaaaaaaaaaaaaaaaaaaaaaaaaaaaaaaaaaaaaaaaaaaaaaaaaaaaaaaaaaaaaaaaaaaaaaaaaaaaaaaaaaaaaaaaaaaaaaaaaaaaaaaaaaaaaaaaaaaaaaaaaaaaaaaaaaaaaaaaaaaaaaaaaaaaaaaaaaaaaaaaaaaaaaaaaaaaaaaaaaaaaaaaaaaaaaaaaaaaaaaaaaaaaaaaaaaaaaaaaaaaaaaaaaaaaaaaaaaaaaaaaaaaaaaaaaaaaaaaaaaaaaaaaaaaaaaaaaaaaaaaaaaaaaaaaaaaaaaaaaaaaaaaaaaaaaaaaaaaaaaaaaaaaaaaaaaaaaaaaaaaaaaaaaaaaaaaaaaaaaaaaaaaaaaaaaaaaaaaaaaaaaaaaaaaaaaaaaaaaaaaaaaaaaaaaaaaaaaaaaaaaaaaaaaaaaaaaaaaaaaaaaaaaaaaaaaaaaaaaaaaaaaaaaaaaaaaaaaaaaaaaaaaaaaaaaaaaaaaaaaaaaaaaaaaaaaaaaaaaaaaaaaaaaaaaaaaaaaaaaaaaaaaaaaaaaaaaaaaaaaaaaaaaaaaaaaaaaaaaaaaaaaaaaaaaaaaaaaaaaaaaaaaaaaaaaaaaaaaaaaaaaaaaaaaaaaaaaaaaaaaaaaaaaaaaaaaaaaaaaaaaaaaaaaaaaaaaaaaaaaaaaaaaaaaaaaaaaaaaaaaaaaaaaaaaaaaaaaaaaaaaaaaaaaaaaaaaaaaaaaaaaaaaaaaaaaaaaaaaaaaaaaaaaaaaaaaaaaaaaaaaaaaaaaaaaaaaaaaaaaaaaaaaaaaaaaaaaaaaaaaaaaaaaaaaaaaaaaaaaaaaaaaaaaaaaaaaaaaaaaaaaaaaaaaaaaaaaaaaaaaaaaaaaaaaaaaaaaaaaaaaaaaaaaaaaaaaaaaaaaaaaaaaaaaaaaaaaaaaaaaaaaaaaaaaaaa`]") (piece 0 0 1001 0 ∷ []) ≡ (enter Name.Link 1 1 0 0 ∷ exit Name.Link 1 1002 1001 0 ∷ [])) ×
    -- text outer commonmark «[`⟦a×998⟧`](b)»: Link 0-1005
    (text_outline (record default { options = record default_options { commonmark = true } }) (codes "[`aaaaaaaaaaaaaaaaaaaaaaaaaaaaaaaaaaaaaaaaaaaaaaaaaaaaaaaaaaaaaaaaaaaaaaaaaaaaaaaaaaaaaaaaaaaaaaaaaaaaaaaaaaaaaaaaaaaaaaaaaaaaaaaaaaaaaaaaaaaaaaaaaaaaaaaaaaaaaaaaaaaaaaaaaaaaaaaaaaaaaaaaaaaaaaaaaaaaaaaaaaaaaaaaaaaaaaaaaaaaaaaaaaaaaaaaaaaaaaaaaaaaaaaaaaaaaaaaaaaaaaaaaaaaaaaaaaaaaaaaaaaaaaaaaaaaaaaaaaaaaaaaaaaaaaaaaaaaaaaaaaaaaaaaaaaaaaaaaaaaaaaaaaaaaaaaaaaaaaaaaaaaaaaaaaaaaaaaaaaaaaaaaaaaaaaaaaaaaaaaaaaaaaaaaaaaaaaaaaaaaaaaaaaaaaaaaaaaaaaaaaaaaaaaaaaaaaaaaaaaaaaaaaaaaaaaaaaaaaaaaaaaaaaaaaaaaaaaaaaaaaaaaaaaaaaaaaaaaaaaaaaaaaaaaaaaaaaaaaaaaaaaaaaaaaaaaaaaaaaaaaaaaaaaaaaaaaaaaaaaaaaaaaaaaaaaaaaaaaaaaaaaaaaaaaaaaaaaaaaaaaaaaaaaaaaaaaaaaaaaaaaaaaaaaaaaaaaaaaaaaaaaaaaaaaaaaaaaaaaaaaaaaaaaaaaaaaaaaaaaaaaaaaaaaaaaaaaaaaaaaaaaaaaaaaaaaaaaaaaaaaaaaaaaaaaaaaaaaaaaaaaaaaaaaaaaaaaaaaaaaaaaaaaaaaaaaaaaaaaaaaaaaaaaaaaaaaaaaaaaaaaaaaaaaaaaaaaaaaaaaaaaaaaaaaaaaaaaaaaaaaaaaaaaaaaaaaaaaaaaaaaaaaaaaaaaaaaaaaaaaaaaaaaaaaaaaaaaaaaaaaaaaaaaaaaaaaaaaaaaaaaaaaaaaaaaaaaaaaaaaaaaaaaaaaaaaaaaaaaaaaaaaaaaaaaaaaaaaa`](b)") (piece 0 0 1005 0 ∷ []) ≡ (enter Name.Link 1 1 0 0 ∷ exit Name.Link 1 1006 1005 0 ∷ [])) ×
    -- text outer commonmark definition=`⟦é×997⟧` «[`⟦é×997⟧`]»: Link 0-1998
    (text_outline (record default { options = record default_options { commonmark = true }; definitions = (96 ∷ 195 ∷ 169 ∷ 195 ∷ 169 ∷ 195 ∷ 169 ∷ 195 ∷ 169 ∷ 195 ∷ 169 ∷ 195 ∷ 169 ∷ 195 ∷ 169 ∷ 195 ∷ 169 ∷ 195 ∷ 169 ∷ 195 ∷ 169 ∷ 195 ∷ 169 ∷ 195 ∷ 169 ∷ 195 ∷ 169 ∷ 195 ∷ 169 ∷ 195 ∷ 169 ∷ 195 ∷ 169 ∷ 195 ∷ 169 ∷ 195 ∷ 169 ∷ 195 ∷ 169 ∷ 195 ∷ 169 ∷ 195 ∷ 169 ∷ 195 ∷ 169 ∷ 195 ∷ 169 ∷ 195 ∷ 169 ∷ 195 ∷ 169 ∷ 195 ∷ 169 ∷ 195 ∷ 169 ∷ 195 ∷ 169 ∷ 195 ∷ 169 ∷ 195 ∷ 169 ∷ 195 ∷ 169 ∷ 195 ∷ 169 ∷ 195 ∷ 169 ∷ 195 ∷ 169 ∷ 195 ∷ 169 ∷ 195 ∷ 169 ∷ 195 ∷ 169 ∷ 195 ∷ 169 ∷ 195 ∷ 169 ∷ 195 ∷ 169 ∷ 195 ∷ 169 ∷ 195 ∷ 169 ∷ 195 ∷ 169 ∷ 195 ∷ 169 ∷ 195 ∷ 169 ∷ 195 ∷ 169 ∷ 195 ∷ 169 ∷ 195 ∷ 169 ∷ 195 ∷ 169 ∷ 195 ∷ 169 ∷ 195 ∷ 169 ∷ 195 ∷ 169 ∷ 195 ∷ 169 ∷ 195 ∷ 169 ∷ 195 ∷ 169 ∷ 195 ∷ 169 ∷ 195 ∷ 169 ∷ 195 ∷ 169 ∷ 195 ∷ 169 ∷ 195 ∷ 169 ∷ 195 ∷ 169 ∷ 195 ∷ 169 ∷ 195 ∷ 169 ∷ 195 ∷ 169 ∷ 195 ∷ 169 ∷ 195 ∷ 169 ∷ 195 ∷ 169 ∷ 195 ∷ 169 ∷ 195 ∷ 169 ∷ 195 ∷ 169 ∷ 195 ∷ 169 ∷ 195 ∷ 169 ∷ 195 ∷ 169 ∷ 195 ∷ 169 ∷ 195 ∷ 169 ∷ 195 ∷ 169 ∷ 195 ∷ 169 ∷ 195 ∷ 169 ∷ 195 ∷ 169 ∷ 195 ∷ 169 ∷ 195 ∷ 169 ∷ 195 ∷ 169 ∷ 195 ∷ 169 ∷ 195 ∷ 169 ∷ 195 ∷ 169 ∷ 195 ∷ 169 ∷ 195 ∷ 169 ∷ 195 ∷ 169 ∷ 195 ∷ 169 ∷ 195 ∷ 169 ∷ 195 ∷ 169 ∷ 195 ∷ 169 ∷ 195 ∷ 169 ∷ 195 ∷ 169 ∷ 195 ∷ 169 ∷ 195 ∷ 169 ∷ 195 ∷ 169 ∷ 195 ∷ 169 ∷ 195 ∷ 169 ∷ 195 ∷ 169 ∷ 195 ∷ 169 ∷ 195 ∷ 169 ∷ 195 ∷ 169 ∷ 195 ∷ 169 ∷ 195 ∷ 169 ∷ 195 ∷ 169 ∷ 195 ∷ 169 ∷ 195 ∷ 169 ∷ 195 ∷ 169 ∷ 195 ∷ 169 ∷ 195 ∷ 169 ∷ 195 ∷ 169 ∷ 195 ∷ 169 ∷ 195 ∷ 169 ∷ 195 ∷ 169 ∷ 195 ∷ 169 ∷ 195 ∷ 169 ∷ 195 ∷ 169 ∷ 195 ∷ 169 ∷ 195 ∷ 169 ∷ 195 ∷ 169 ∷ 195 ∷ 169 ∷ 195 ∷ 169 ∷ 195 ∷ 169 ∷ 195 ∷ 169 ∷ 195 ∷ 169 ∷ 195 ∷ 169 ∷ 195 ∷ 169 ∷ 195 ∷ 169 ∷ 195 ∷ 169 ∷ 195 ∷ 169 ∷ 195 ∷ 169 ∷ 195 ∷ 169 ∷ 195 ∷ 169 ∷ 195 ∷ 169 ∷ 195 ∷ 169 ∷ 195 ∷ 169 ∷ 195 ∷ 169 ∷ 195 ∷ 169 ∷ 195 ∷ 169 ∷ 195 ∷ 169 ∷ 195 ∷ 169 ∷ 195 ∷ 169 ∷ 195 ∷ 169 ∷ 195 ∷ 169 ∷ 195 ∷ 169 ∷ 195 ∷ 169 ∷ 195 ∷ 169 ∷ 195 ∷ 169 ∷ 195 ∷ 169 ∷ 195 ∷ 169 ∷ 195 ∷ 169 ∷ 195 ∷ 169 ∷ 195 ∷ 169 ∷ 195 ∷ 169 ∷ 195 ∷ 169 ∷ 195 ∷ 169 ∷ 195 ∷ 169 ∷ 195 ∷ 169 ∷ 195 ∷ 169 ∷ 195 ∷ 169 ∷ 195 ∷ 169 ∷ 195 ∷ 169 ∷ 195 ∷ 169 ∷ 195 ∷ 169 ∷ 195 ∷ 169 ∷ 195 ∷ 169 ∷ 195 ∷ 169 ∷ 195 ∷ 169 ∷ 195 ∷ 169 ∷ 195 ∷ 169 ∷ 195 ∷ 169 ∷ 195 ∷ 169 ∷ 195 ∷ 169 ∷ 195 ∷ 169 ∷ 195 ∷ 169 ∷ 195 ∷ 169 ∷ 195 ∷ 169 ∷ 195 ∷ 169 ∷ 195 ∷ 169 ∷ 195 ∷ 169 ∷ 195 ∷ 169 ∷ 195 ∷ 169 ∷ 195 ∷ 169 ∷ 195 ∷ 169 ∷ 195 ∷ 169 ∷ 195 ∷ 169 ∷ 195 ∷ 169 ∷ 195 ∷ 169 ∷ 195 ∷ 169 ∷ 195 ∷ 169 ∷ 195 ∷ 169 ∷ 195 ∷ 169 ∷ 195 ∷ 169 ∷ 195 ∷ 169 ∷ 195 ∷ 169 ∷ 195 ∷ 169 ∷ 195 ∷ 169 ∷ 195 ∷ 169 ∷ 195 ∷ 169 ∷ 195 ∷ 169 ∷ 195 ∷ 169 ∷ 195 ∷ 169 ∷ 195 ∷ 169 ∷ 195 ∷ 169 ∷ 195 ∷ 169 ∷ 195 ∷ 169 ∷ 195 ∷ 169 ∷ 195 ∷ 169 ∷ 195 ∷ 169 ∷ 195 ∷ 169 ∷ 195 ∷ 169 ∷ 195 ∷ 169 ∷ 195 ∷ 169 ∷ 195 ∷ 169 ∷ 195 ∷ 169 ∷ 195 ∷ 169 ∷ 195 ∷ 169 ∷ 195 ∷ 169 ∷ 195 ∷ 169 ∷ 195 ∷ 169 ∷ 195 ∷ 169 ∷ 195 ∷ 169 ∷ 195 ∷ 169 ∷ 195 ∷ 169 ∷ 195 ∷ 169 ∷ 195 ∷ 169 ∷ 195 ∷ 169 ∷ 195 ∷ 169 ∷ 195 ∷ 169 ∷ 195 ∷ 169 ∷ 195 ∷ 169 ∷ 195 ∷ 169 ∷ 195 ∷ 169 ∷ 195 ∷ 169 ∷ 195 ∷ 169 ∷ 195 ∷ 169 ∷ 195 ∷ 169 ∷ 195 ∷ 169 ∷ 195 ∷ 169 ∷ 195 ∷ 169 ∷ 195 ∷ 169 ∷ 195 ∷ 169 ∷ 195 ∷ 169 ∷ 195 ∷ 169 ∷ 195 ∷ 169 ∷ 195 ∷ 169 ∷ 195 ∷ 169 ∷ 195 ∷ 169 ∷ 195 ∷ 169 ∷ 195 ∷ 169 ∷ 195 ∷ 169 ∷ 195 ∷ 169 ∷ 195 ∷ 169 ∷ 195 ∷ 169 ∷ 195 ∷ 169 ∷ 195 ∷ 169 ∷ 195 ∷ 169 ∷ 195 ∷ 169 ∷ 195 ∷ 169 ∷ 195 ∷ 169 ∷ 195 ∷ 169 ∷ 195 ∷ 169 ∷ 195 ∷ 169 ∷ 195 ∷ 169 ∷ 195 ∷ 169 ∷ 195 ∷ 169 ∷ 195 ∷ 169 ∷ 195 ∷ 169 ∷ 195 ∷ 169 ∷ 195 ∷ 169 ∷ 195 ∷ 169 ∷ 195 ∷ 169 ∷ 195 ∷ 169 ∷ 195 ∷ 169 ∷ 195 ∷ 169 ∷ 195 ∷ 169 ∷ 195 ∷ 169 ∷ 195 ∷ 169 ∷ 195 ∷ 169 ∷ 195 ∷ 169 ∷ 195 ∷ 169 ∷ 195 ∷ 169 ∷ 195 ∷ 169 ∷ 195 ∷ 169 ∷ 195 ∷ 169 ∷ 195 ∷ 169 ∷ 195 ∷ 169 ∷ 195 ∷ 169 ∷ 195 ∷ 169 ∷ 195 ∷ 169 ∷ 195 ∷ 169 ∷ 195 ∷ 169 ∷ 195 ∷ 169 ∷ 195 ∷ 169 ∷ 195 ∷ 169 ∷ 195 ∷ 169 ∷ 195 ∷ 169 ∷ 195 ∷ 169 ∷ 195 ∷ 169 ∷ 195 ∷ 169 ∷ 195 ∷ 169 ∷ 195 ∷ 169 ∷ 195 ∷ 169 ∷ 195 ∷ 169 ∷ 195 ∷ 169 ∷ 195 ∷ 169 ∷ 195 ∷ 169 ∷ 195 ∷ 169 ∷ 195 ∷ 169 ∷ 195 ∷ 169 ∷ 195 ∷ 169 ∷ 195 ∷ 169 ∷ 195 ∷ 169 ∷ 195 ∷ 169 ∷ 195 ∷ 169 ∷ 195 ∷ 169 ∷ 195 ∷ 169 ∷ 195 ∷ 169 ∷ 195 ∷ 169 ∷ 195 ∷ 169 ∷ 195 ∷ 169 ∷ 195 ∷ 169 ∷ 195 ∷ 169 ∷ 195 ∷ 169 ∷ 195 ∷ 169 ∷ 195 ∷ 169 ∷ 195 ∷ 169 ∷ 195 ∷ 169 ∷ 195 ∷ 169 ∷ 195 ∷ 169 ∷ 195 ∷ 169 ∷ 195 ∷ 169 ∷ 195 ∷ 169 ∷ 195 ∷ 169 ∷ 195 ∷ 169 ∷ 195 ∷ 169 ∷ 195 ∷ 169 ∷ 195 ∷ 169 ∷ 195 ∷ 169 ∷ 195 ∷ 169 ∷ 195 ∷ 169 ∷ 195 ∷ 169 ∷ 195 ∷ 169 ∷ 195 ∷ 169 ∷ 195 ∷ 169 ∷ 195 ∷ 169 ∷ 195 ∷ 169 ∷ 195 ∷ 169 ∷ 195 ∷ 169 ∷ 195 ∷ 169 ∷ 195 ∷ 169 ∷ 195 ∷ 169 ∷ 195 ∷ 169 ∷ 195 ∷ 169 ∷ 195 ∷ 169 ∷ 195 ∷ 169 ∷ 195 ∷ 169 ∷ 195 ∷ 169 ∷ 195 ∷ 169 ∷ 195 ∷ 169 ∷ 195 ∷ 169 ∷ 195 ∷ 169 ∷ 195 ∷ 169 ∷ 195 ∷ 169 ∷ 195 ∷ 169 ∷ 195 ∷ 169 ∷ 195 ∷ 169 ∷ 195 ∷ 169 ∷ 195 ∷ 169 ∷ 195 ∷ 169 ∷ 195 ∷ 169 ∷ 195 ∷ 169 ∷ 195 ∷ 169 ∷ 195 ∷ 169 ∷ 195 ∷ 169 ∷ 195 ∷ 169 ∷ 195 ∷ 169 ∷ 195 ∷ 169 ∷ 195 ∷ 169 ∷ 195 ∷ 169 ∷ 195 ∷ 169 ∷ 195 ∷ 169 ∷ 195 ∷ 169 ∷ 195 ∷ 169 ∷ 195 ∷ 169 ∷ 195 ∷ 169 ∷ 195 ∷ 169 ∷ 195 ∷ 169 ∷ 195 ∷ 169 ∷ 195 ∷ 169 ∷ 195 ∷ 169 ∷ 195 ∷ 169 ∷ 195 ∷ 169 ∷ 195 ∷ 169 ∷ 195 ∷ 169 ∷ 195 ∷ 169 ∷ 195 ∷ 169 ∷ 195 ∷ 169 ∷ 195 ∷ 169 ∷ 195 ∷ 169 ∷ 195 ∷ 169 ∷ 195 ∷ 169 ∷ 195 ∷ 169 ∷ 195 ∷ 169 ∷ 195 ∷ 169 ∷ 195 ∷ 169 ∷ 195 ∷ 169 ∷ 195 ∷ 169 ∷ 195 ∷ 169 ∷ 195 ∷ 169 ∷ 195 ∷ 169 ∷ 195 ∷ 169 ∷ 195 ∷ 169 ∷ 195 ∷ 169 ∷ 195 ∷ 169 ∷ 195 ∷ 169 ∷ 195 ∷ 169 ∷ 195 ∷ 169 ∷ 195 ∷ 169 ∷ 195 ∷ 169 ∷ 195 ∷ 169 ∷ 195 ∷ 169 ∷ 195 ∷ 169 ∷ 195 ∷ 169 ∷ 195 ∷ 169 ∷ 195 ∷ 169 ∷ 195 ∷ 169 ∷ 195 ∷ 169 ∷ 195 ∷ 169 ∷ 195 ∷ 169 ∷ 195 ∷ 169 ∷ 195 ∷ 169 ∷ 195 ∷ 169 ∷ 195 ∷ 169 ∷ 195 ∷ 169 ∷ 195 ∷ 169 ∷ 195 ∷ 169 ∷ 195 ∷ 169 ∷ 195 ∷ 169 ∷ 195 ∷ 169 ∷ 195 ∷ 169 ∷ 195 ∷ 169 ∷ 195 ∷ 169 ∷ 195 ∷ 169 ∷ 195 ∷ 169 ∷ 195 ∷ 169 ∷ 195 ∷ 169 ∷ 195 ∷ 169 ∷ 195 ∷ 169 ∷ 195 ∷ 169 ∷ 195 ∷ 169 ∷ 195 ∷ 169 ∷ 195 ∷ 169 ∷ 195 ∷ 169 ∷ 195 ∷ 169 ∷ 195 ∷ 169 ∷ 195 ∷ 169 ∷ 195 ∷ 169 ∷ 195 ∷ 169 ∷ 195 ∷ 169 ∷ 195 ∷ 169 ∷ 195 ∷ 169 ∷ 195 ∷ 169 ∷ 195 ∷ 169 ∷ 195 ∷ 169 ∷ 195 ∷ 169 ∷ 195 ∷ 169 ∷ 195 ∷ 169 ∷ 195 ∷ 169 ∷ 195 ∷ 169 ∷ 195 ∷ 169 ∷ 195 ∷ 169 ∷ 195 ∷ 169 ∷ 195 ∷ 169 ∷ 195 ∷ 169 ∷ 195 ∷ 169 ∷ 195 ∷ 169 ∷ 195 ∷ 169 ∷ 195 ∷ 169 ∷ 195 ∷ 169 ∷ 195 ∷ 169 ∷ 195 ∷ 169 ∷ 195 ∷ 169 ∷ 195 ∷ 169 ∷ 195 ∷ 169 ∷ 195 ∷ 169 ∷ 195 ∷ 169 ∷ 195 ∷ 169 ∷ 195 ∷ 169 ∷ 195 ∷ 169 ∷ 195 ∷ 169 ∷ 195 ∷ 169 ∷ 195 ∷ 169 ∷ 195 ∷ 169 ∷ 195 ∷ 169 ∷ 195 ∷ 169 ∷ 195 ∷ 169 ∷ 195 ∷ 169 ∷ 195 ∷ 169 ∷ 195 ∷ 169 ∷ 195 ∷ 169 ∷ 195 ∷ 169 ∷ 195 ∷ 169 ∷ 195 ∷ 169 ∷ 195 ∷ 169 ∷ 195 ∷ 169 ∷ 195 ∷ 169 ∷ 195 ∷ 169 ∷ 195 ∷ 169 ∷ 195 ∷ 169 ∷ 195 ∷ 169 ∷ 195 ∷ 169 ∷ 195 ∷ 169 ∷ 195 ∷ 169 ∷ 195 ∷ 169 ∷ 195 ∷ 169 ∷ 195 ∷ 169 ∷ 195 ∷ 169 ∷ 195 ∷ 169 ∷ 195 ∷ 169 ∷ 195 ∷ 169 ∷ 195 ∷ 169 ∷ 195 ∷ 169 ∷ 195 ∷ 169 ∷ 195 ∷ 169 ∷ 195 ∷ 169 ∷ 195 ∷ 169 ∷ 195 ∷ 169 ∷ 195 ∷ 169 ∷ 195 ∷ 169 ∷ 195 ∷ 169 ∷ 195 ∷ 169 ∷ 195 ∷ 169 ∷ 195 ∷ 169 ∷ 195 ∷ 169 ∷ 195 ∷ 169 ∷ 195 ∷ 169 ∷ 195 ∷ 169 ∷ 195 ∷ 169 ∷ 195 ∷ 169 ∷ 195 ∷ 169 ∷ 195 ∷ 169 ∷ 195 ∷ 169 ∷ 195 ∷ 169 ∷ 195 ∷ 169 ∷ 195 ∷ 169 ∷ 195 ∷ 169 ∷ 195 ∷ 169 ∷ 195 ∷ 169 ∷ 195 ∷ 169 ∷ 195 ∷ 169 ∷ 195 ∷ 169 ∷ 195 ∷ 169 ∷ 195 ∷ 169 ∷ 195 ∷ 169 ∷ 195 ∷ 169 ∷ 195 ∷ 169 ∷ 195 ∷ 169 ∷ 195 ∷ 169 ∷ 195 ∷ 169 ∷ 195 ∷ 169 ∷ 195 ∷ 169 ∷ 195 ∷ 169 ∷ 195 ∷ 169 ∷ 195 ∷ 169 ∷ 195 ∷ 169 ∷ 195 ∷ 169 ∷ 195 ∷ 169 ∷ 195 ∷ 169 ∷ 195 ∷ 169 ∷ 195 ∷ 169 ∷ 195 ∷ 169 ∷ 195 ∷ 169 ∷ 195 ∷ 169 ∷ 195 ∷ 169 ∷ 195 ∷ 169 ∷ 195 ∷ 169 ∷ 195 ∷ 169 ∷ 195 ∷ 169 ∷ 195 ∷ 169 ∷ 195 ∷ 169 ∷ 195 ∷ 169 ∷ 195 ∷ 169 ∷ 195 ∷ 169 ∷ 195 ∷ 169 ∷ 195 ∷ 169 ∷ 195 ∷ 169 ∷ 195 ∷ 169 ∷ 195 ∷ 169 ∷ 195 ∷ 169 ∷ 195 ∷ 169 ∷ 195 ∷ 169 ∷ 195 ∷ 169 ∷ 195 ∷ 169 ∷ 195 ∷ 169 ∷ 195 ∷ 169 ∷ 195 ∷ 169 ∷ 195 ∷ 169 ∷ 195 ∷ 169 ∷ 195 ∷ 169 ∷ 195 ∷ 169 ∷ 195 ∷ 169 ∷ 195 ∷ 169 ∷ 195 ∷ 169 ∷ 195 ∷ 169 ∷ 195 ∷ 169 ∷ 195 ∷ 169 ∷ 195 ∷ 169 ∷ 195 ∷ 169 ∷ 195 ∷ 169 ∷ 195 ∷ 169 ∷ 195 ∷ 169 ∷ 195 ∷ 169 ∷ 195 ∷ 169 ∷ 195 ∷ 169 ∷ 195 ∷ 169 ∷ 195 ∷ 169 ∷ 195 ∷ 169 ∷ 195 ∷ 169 ∷ 195 ∷ 169 ∷ 195 ∷ 169 ∷ 195 ∷ 169 ∷ 195 ∷ 169 ∷ 195 ∷ 169 ∷ 195 ∷ 169 ∷ 195 ∷ 169 ∷ 195 ∷ 169 ∷ 195 ∷ 169 ∷ 195 ∷ 169 ∷ 195 ∷ 169 ∷ 195 ∷ 169 ∷ 195 ∷ 169 ∷ 195 ∷ 169 ∷ 195 ∷ 169 ∷ 195 ∷ 169 ∷ 195 ∷ 169 ∷ 195 ∷ 169 ∷ 195 ∷ 169 ∷ 195 ∷ 169 ∷ 195 ∷ 169 ∷ 195 ∷ 169 ∷ 195 ∷ 169 ∷ 195 ∷ 169 ∷ 195 ∷ 169 ∷ 195 ∷ 169 ∷ 195 ∷ 169 ∷ 195 ∷ 169 ∷ 195 ∷ 169 ∷ 195 ∷ 169 ∷ 195 ∷ 169 ∷ 195 ∷ 169 ∷ 195 ∷ 169 ∷ 195 ∷ 169 ∷ 195 ∷ 169 ∷ 195 ∷ 169 ∷ 195 ∷ 169 ∷ 195 ∷ 169 ∷ 195 ∷ 169 ∷ 195 ∷ 169 ∷ 195 ∷ 169 ∷ 195 ∷ 169 ∷ 195 ∷ 169 ∷ 195 ∷ 169 ∷ 195 ∷ 169 ∷ 195 ∷ 169 ∷ 195 ∷ 169 ∷ 195 ∷ 169 ∷ 195 ∷ 169 ∷ 195 ∷ 169 ∷ 195 ∷ 169 ∷ 195 ∷ 169 ∷ 195 ∷ 169 ∷ 195 ∷ 169 ∷ 195 ∷ 169 ∷ 195 ∷ 169 ∷ 195 ∷ 169 ∷ 195 ∷ 169 ∷ 195 ∷ 169 ∷ 195 ∷ 169 ∷ 195 ∷ 169 ∷ 195 ∷ 169 ∷ 195 ∷ 169 ∷ 195 ∷ 169 ∷ 195 ∷ 169 ∷ 195 ∷ 169 ∷ 195 ∷ 169 ∷ 195 ∷ 169 ∷ 195 ∷ 169 ∷ 195 ∷ 169 ∷ 195 ∷ 169 ∷ 195 ∷ 169 ∷ 195 ∷ 169 ∷ 195 ∷ 169 ∷ 195 ∷ 169 ∷ 195 ∷ 169 ∷ 195 ∷ 169 ∷ 195 ∷ 169 ∷ 195 ∷ 169 ∷ 195 ∷ 169 ∷ 195 ∷ 169 ∷ 195 ∷ 169 ∷ 195 ∷ 169 ∷ 195 ∷ 169 ∷ 195 ∷ 169 ∷ 195 ∷ 169 ∷ 195 ∷ 169 ∷ 195 ∷ 169 ∷ 195 ∷ 169 ∷ 195 ∷ 169 ∷ 195 ∷ 169 ∷ 195 ∷ 169 ∷ 195 ∷ 169 ∷ 195 ∷ 169 ∷ 195 ∷ 169 ∷ 195 ∷ 169 ∷ 195 ∷ 169 ∷ 195 ∷ 169 ∷ 195 ∷ 169 ∷ 195 ∷ 169 ∷ 195 ∷ 169 ∷ 195 ∷ 169 ∷ 195 ∷ 169 ∷ 195 ∷ 169 ∷ 195 ∷ 169 ∷ 195 ∷ 169 ∷ 195 ∷ 169 ∷ 195 ∷ 169 ∷ 195 ∷ 169 ∷ 195 ∷ 169 ∷ 195 ∷ 169 ∷ 195 ∷ 169 ∷ 195 ∷ 169 ∷ 195 ∷ 169 ∷ 195 ∷ 169 ∷ 195 ∷ 169 ∷ 195 ∷ 169 ∷ 195 ∷ 169 ∷ 195 ∷ 169 ∷ 195 ∷ 169 ∷ 195 ∷ 169 ∷ 195 ∷ 169 ∷ 195 ∷ 169 ∷ 195 ∷ 169 ∷ 195 ∷ 169 ∷ 195 ∷ 169 ∷ 195 ∷ 169 ∷ 195 ∷ 169 ∷ 195 ∷ 169 ∷ 195 ∷ 169 ∷ 195 ∷ 169 ∷ 195 ∷ 169 ∷ 195 ∷ 169 ∷ 195 ∷ 169 ∷ 195 ∷ 169 ∷ 195 ∷ 169 ∷ 195 ∷ 169 ∷ 195 ∷ 169 ∷ 195 ∷ 169 ∷ 195 ∷ 169 ∷ 195 ∷ 169 ∷ 195 ∷ 169 ∷ 195 ∷ 169 ∷ 195 ∷ 169 ∷ 195 ∷ 169 ∷ 195 ∷ 169 ∷ 195 ∷ 169 ∷ 195 ∷ 169 ∷ 195 ∷ 169 ∷ 195 ∷ 169 ∷ 195 ∷ 169 ∷ 195 ∷ 169 ∷ 195 ∷ 169 ∷ 195 ∷ 169 ∷ 195 ∷ 169 ∷ 195 ∷ 169 ∷ 195 ∷ 169 ∷ 195 ∷ 169 ∷ 195 ∷ 169 ∷ 195 ∷ 169 ∷ 195 ∷ 169 ∷ 195 ∷ 169 ∷ 195 ∷ 169 ∷ 195 ∷ 169 ∷ 195 ∷ 169 ∷ 195 ∷ 169 ∷ 195 ∷ 169 ∷ 195 ∷ 169 ∷ 195 ∷ 169 ∷ 195 ∷ 169 ∷ 195 ∷ 169 ∷ 195 ∷ 169 ∷ 195 ∷ 169 ∷ 195 ∷ 169 ∷ 195 ∷ 169 ∷ 195 ∷ 169 ∷ 195 ∷ 169 ∷ 195 ∷ 169 ∷ 195 ∷ 169 ∷ 195 ∷ 169 ∷ 195 ∷ 169 ∷ 195 ∷ 169 ∷ 195 ∷ 169 ∷ 195 ∷ 169 ∷ 195 ∷ 169 ∷ 195 ∷ 169 ∷ 195 ∷ 169 ∷ 195 ∷ 169 ∷ 195 ∷ 169 ∷ 195 ∷ 169 ∷ 195 ∷ 169 ∷ 195 ∷ 169 ∷ 195 ∷ 169 ∷ 195 ∷ 169 ∷ 195 ∷ 169 ∷ 195 ∷ 169 ∷ 195 ∷ 169 ∷ 195 ∷ 169 ∷ 195 ∷ 169 ∷ 195 ∷ 169 ∷ 195 ∷ 169 ∷ 195 ∷ 169 ∷ 195 ∷ 169 ∷ 195 ∷ 169 ∷ 195 ∷ 169 ∷ 195 ∷ 169 ∷ 195 ∷ 169 ∷ 195 ∷ 169 ∷ 195 ∷ 169 ∷ 195 ∷ 169 ∷ 195 ∷ 169 ∷ 195 ∷ 169 ∷ 195 ∷ 169 ∷ 195 ∷ 169 ∷ 195 ∷ 169 ∷ 195 ∷ 169 ∷ 195 ∷ 169 ∷ 195 ∷ 169 ∷ 195 ∷ 169 ∷ 195 ∷ 169 ∷ 195 ∷ 169 ∷ 195 ∷ 169 ∷ 195 ∷ 169 ∷ 195 ∷ 169 ∷ 195 ∷ 169 ∷ 195 ∷ 169 ∷ 195 ∷ 169 ∷ 195 ∷ 169 ∷ 195 ∷ 169 ∷ 195 ∷ 169 ∷ 195 ∷ 169 ∷ 195 ∷ 169 ∷ 195 ∷ 169 ∷ 195 ∷ 169 ∷ 195 ∷ 169 ∷ 195 ∷ 169 ∷ 195 ∷ 169 ∷ 195 ∷ 169 ∷ 195 ∷ 169 ∷ 195 ∷ 169 ∷ 195 ∷ 169 ∷ 195 ∷ 169 ∷ 195 ∷ 169 ∷ 195 ∷ 169 ∷ 195 ∷ 169 ∷ 195 ∷ 169 ∷ 195 ∷ 169 ∷ 195 ∷ 169 ∷ 195 ∷ 169 ∷ 195 ∷ 169 ∷ 195 ∷ 169 ∷ 195 ∷ 169 ∷ 195 ∷ 169 ∷ 195 ∷ 169 ∷ 195 ∷ 169 ∷ 195 ∷ 169 ∷ 195 ∷ 169 ∷ 195 ∷ 169 ∷ 195 ∷ 169 ∷ 195 ∷ 169 ∷ 195 ∷ 169 ∷ 195 ∷ 169 ∷ 195 ∷ 169 ∷ 195 ∷ 169 ∷ 195 ∷ 169 ∷ 195 ∷ 169 ∷ 195 ∷ 169 ∷ 195 ∷ 169 ∷ 195 ∷ 169 ∷ 195 ∷ 169 ∷ 195 ∷ 169 ∷ 195 ∷ 169 ∷ 195 ∷ 169 ∷ 195 ∷ 169 ∷ 195 ∷ 169 ∷ 195 ∷ 169 ∷ 195 ∷ 169 ∷ 195 ∷ 169 ∷ 195 ∷ 169 ∷ 195 ∷ 169 ∷ 195 ∷ 169 ∷ 195 ∷ 169 ∷ 195 ∷ 169 ∷ 195 ∷ 169 ∷ 195 ∷ 169 ∷ 195 ∷ 169 ∷ 195 ∷ 169 ∷ 195 ∷ 169 ∷ 195 ∷ 169 ∷ 195 ∷ 169 ∷ 195 ∷ 169 ∷ 195 ∷ 169 ∷ 195 ∷ 169 ∷ 195 ∷ 169 ∷ 195 ∷ 169 ∷ 195 ∷ 169 ∷ 195 ∷ 169 ∷ 195 ∷ 169 ∷ 195 ∷ 169 ∷ 195 ∷ 169 ∷ 195 ∷ 169 ∷ 195 ∷ 169 ∷ 195 ∷ 169 ∷ 195 ∷ 169 ∷ 195 ∷ 169 ∷ 195 ∷ 169 ∷ 195 ∷ 169 ∷ 195 ∷ 169 ∷ 195 ∷ 169 ∷ 195 ∷ 169 ∷ 195 ∷ 169 ∷ 195 ∷ 169 ∷ 195 ∷ 169 ∷ 195 ∷ 169 ∷ 195 ∷ 169 ∷ 195 ∷ 169 ∷ 195 ∷ 169 ∷ 195 ∷ 169 ∷ 195 ∷ 169 ∷ 195 ∷ 169 ∷ 195 ∷ 169 ∷ 195 ∷ 169 ∷ 195 ∷ 169 ∷ 195 ∷ 169 ∷ 195 ∷ 169 ∷ 195 ∷ 169 ∷ 195 ∷ 169 ∷ 195 ∷ 169 ∷ 195 ∷ 169 ∷ 195 ∷ 169 ∷ 195 ∷ 169 ∷ 195 ∷ 169 ∷ 195 ∷ 169 ∷ 195 ∷ 169 ∷ 195 ∷ 169 ∷ 195 ∷ 169 ∷ 195 ∷ 169 ∷ 195 ∷ 169 ∷ 195 ∷ 169 ∷ 195 ∷ 169 ∷ 195 ∷ 169 ∷ 195 ∷ 169 ∷ 195 ∷ 169 ∷ 195 ∷ 169 ∷ 195 ∷ 169 ∷ 195 ∷ 169 ∷ 195 ∷ 169 ∷ 195 ∷ 169 ∷ 195 ∷ 169 ∷ 195 ∷ 169 ∷ 195 ∷ 169 ∷ 195 ∷ 169 ∷ 195 ∷ 169 ∷ 195 ∷ 169 ∷ 195 ∷ 169 ∷ 195 ∷ 169 ∷ 195 ∷ 169 ∷ 195 ∷ 169 ∷ 195 ∷ 169 ∷ 195 ∷ 169 ∷ 195 ∷ 169 ∷ 195 ∷ 169 ∷ 195 ∷ 169 ∷ 195 ∷ 169 ∷ 195 ∷ 169 ∷ 195 ∷ 169 ∷ 195 ∷ 169 ∷ 195 ∷ 169 ∷ 195 ∷ 169 ∷ 195 ∷ 169 ∷ 195 ∷ 169 ∷ 195 ∷ 169 ∷ 195 ∷ 169 ∷ 195 ∷ 169 ∷ 195 ∷ 169 ∷ 195 ∷ 169 ∷ 195 ∷ 169 ∷ 96 ∷ []) ∷ [] }) (91 ∷ 96 ∷ 195 ∷ 169 ∷ 195 ∷ 169 ∷ 195 ∷ 169 ∷ 195 ∷ 169 ∷ 195 ∷ 169 ∷ 195 ∷ 169 ∷ 195 ∷ 169 ∷ 195 ∷ 169 ∷ 195 ∷ 169 ∷ 195 ∷ 169 ∷ 195 ∷ 169 ∷ 195 ∷ 169 ∷ 195 ∷ 169 ∷ 195 ∷ 169 ∷ 195 ∷ 169 ∷ 195 ∷ 169 ∷ 195 ∷ 169 ∷ 195 ∷ 169 ∷ 195 ∷ 169 ∷ 195 ∷ 169 ∷ 195 ∷ 169 ∷ 195 ∷ 169 ∷ 195 ∷ 169 ∷ 195 ∷ 169 ∷ 195 ∷ 169 ∷ 195 ∷ 169 ∷ 195 ∷ 169 ∷ 195 ∷ 169 ∷ 195 ∷ 169 ∷ 195 ∷ 169 ∷ 195 ∷ 169 ∷ 195 ∷ 169 ∷ 195 ∷ 169 ∷ 195 ∷ 169 ∷ 195 ∷ 169 ∷ 195 ∷ 169 ∷ 195 ∷ 169 ∷ 195 ∷ 169 ∷ 195 ∷ 169 ∷ 195 ∷ 169 ∷ 195 ∷ 169 ∷ 195 ∷ 169 ∷ 195 ∷ 169 ∷ 195 ∷ 169 ∷ 195 ∷ 169 ∷ 195 ∷ 169 ∷ 195 ∷ 169 ∷ 195 ∷ 169 ∷ 195 ∷ 169 ∷ 195 ∷ 169 ∷ 195 ∷ 169 ∷ 195 ∷ 169 ∷ 195 ∷ 169 ∷ 195 ∷ 169 ∷ 195 ∷ 169 ∷ 195 ∷ 169 ∷ 195 ∷ 169 ∷ 195 ∷ 169 ∷ 195 ∷ 169 ∷ 195 ∷ 169 ∷ 195 ∷ 169 ∷ 195 ∷ 169 ∷ 195 ∷ 169 ∷ 195 ∷ 169 ∷ 195 ∷ 169 ∷ 195 ∷ 169 ∷ 195 ∷ 169 ∷ 195 ∷ 169 ∷ 195 ∷ 169 ∷ 195 ∷ 169 ∷ 195 ∷ 169 ∷ 195 ∷ 169 ∷ 195 ∷ 169 ∷ 195 ∷ 169 ∷ 195 ∷ 169 ∷ 195 ∷ 169 ∷ 195 ∷ 169 ∷ 195 ∷ 169 ∷ 195 ∷ 169 ∷ 195 ∷ 169 ∷ 195 ∷ 169 ∷ 195 ∷ 169 ∷ 195 ∷ 169 ∷ 195 ∷ 169 ∷ 195 ∷ 169 ∷ 195 ∷ 169 ∷ 195 ∷ 169 ∷ 195 ∷ 169 ∷ 195 ∷ 169 ∷ 195 ∷ 169 ∷ 195 ∷ 169 ∷ 195 ∷ 169 ∷ 195 ∷ 169 ∷ 195 ∷ 169 ∷ 195 ∷ 169 ∷ 195 ∷ 169 ∷ 195 ∷ 169 ∷ 195 ∷ 169 ∷ 195 ∷ 169 ∷ 195 ∷ 169 ∷ 195 ∷ 169 ∷ 195 ∷ 169 ∷ 195 ∷ 169 ∷ 195 ∷ 169 ∷ 195 ∷ 169 ∷ 195 ∷ 169 ∷ 195 ∷ 169 ∷ 195 ∷ 169 ∷ 195 ∷ 169 ∷ 195 ∷ 169 ∷ 195 ∷ 169 ∷ 195 ∷ 169 ∷ 195 ∷ 169 ∷ 195 ∷ 169 ∷ 195 ∷ 169 ∷ 195 ∷ 169 ∷ 195 ∷ 169 ∷ 195 ∷ 169 ∷ 195 ∷ 169 ∷ 195 ∷ 169 ∷ 195 ∷ 169 ∷ 195 ∷ 169 ∷ 195 ∷ 169 ∷ 195 ∷ 169 ∷ 195 ∷ 169 ∷ 195 ∷ 169 ∷ 195 ∷ 169 ∷ 195 ∷ 169 ∷ 195 ∷ 169 ∷ 195 ∷ 169 ∷ 195 ∷ 169 ∷ 195 ∷ 169 ∷ 195 ∷ 169 ∷ 195 ∷ 169 ∷ 195 ∷ 169 ∷ 195 ∷ 169 ∷ 195 ∷ 169 ∷ 195 ∷ 169 ∷ 195 ∷ 169 ∷ 195 ∷ 169 ∷ 195 ∷ 169 ∷ 195 ∷ 169 ∷ 195 ∷ 169 ∷ 195 ∷ 169 ∷ 195 ∷ 169 ∷ 195 ∷ 169 ∷ 195 ∷ 169 ∷ 195 ∷ 169 ∷ 195 ∷ 169 ∷ 195 ∷ 169 ∷ 195 ∷ 169 ∷ 195 ∷ 169 ∷ 195 ∷ 169 ∷ 195 ∷ 169 ∷ 195 ∷ 169 ∷ 195 ∷ 169 ∷ 195 ∷ 169 ∷ 195 ∷ 169 ∷ 195 ∷ 169 ∷ 195 ∷ 169 ∷ 195 ∷ 169 ∷ 195 ∷ 169 ∷ 195 ∷ 169 ∷ 195 ∷ 169 ∷ 195 ∷ 169 ∷ 195 ∷ 169 ∷ 195 ∷ 169 ∷ 195 ∷ 169 ∷ 195 ∷ 169 ∷ 195 ∷ 169 ∷ 195 ∷ 169 ∷ 195 ∷ 169 ∷ 195 ∷ 169 ∷ 195 ∷ 169 ∷ 195 ∷ 169 ∷ 195 ∷ 169 ∷ 195 ∷ 169 ∷ 195 ∷ 169 ∷ 195 ∷ 169 ∷ 195 ∷ 169 ∷ 195 ∷ 169 ∷ 195 ∷ 169 ∷ 195 ∷ 169 ∷ 195 ∷ 169 ∷ 195 ∷ 169 ∷ 195 ∷ 169 ∷ 195 ∷ 169 ∷ 195 ∷ 169 ∷ 195 ∷ 169 ∷ 195 ∷ 169 ∷ 195 ∷ 169 ∷ 195 ∷ 169 ∷ 195 ∷ 169 ∷ 195 ∷ 169 ∷ 195 ∷ 169 ∷ 195 ∷ 169 ∷ 195 ∷ 169 ∷ 195 ∷ 169 ∷ 195 ∷ 169 ∷ 195 ∷ 169 ∷ 195 ∷ 169 ∷ 195 ∷ 169 ∷ 195 ∷ 169 ∷ 195 ∷ 169 ∷ 195 ∷ 169 ∷ 195 ∷ 169 ∷ 195 ∷ 169 ∷ 195 ∷ 169 ∷ 195 ∷ 169 ∷ 195 ∷ 169 ∷ 195 ∷ 169 ∷ 195 ∷ 169 ∷ 195 ∷ 169 ∷ 195 ∷ 169 ∷ 195 ∷ 169 ∷ 195 ∷ 169 ∷ 195 ∷ 169 ∷ 195 ∷ 169 ∷ 195 ∷ 169 ∷ 195 ∷ 169 ∷ 195 ∷ 169 ∷ 195 ∷ 169 ∷ 195 ∷ 169 ∷ 195 ∷ 169 ∷ 195 ∷ 169 ∷ 195 ∷ 169 ∷ 195 ∷ 169 ∷ 195 ∷ 169 ∷ 195 ∷ 169 ∷ 195 ∷ 169 ∷ 195 ∷ 169 ∷ 195 ∷ 169 ∷ 195 ∷ 169 ∷ 195 ∷ 169 ∷ 195 ∷ 169 ∷ 195 ∷ 169 ∷ 195 ∷ 169 ∷ 195 ∷ 169 ∷ 195 ∷ 169 ∷ 195 ∷ 169 ∷ 195 ∷ 169 ∷ 195 ∷ 169 ∷ 195 ∷ 169 ∷ 195 ∷ 169 ∷ 195 ∷ 169 ∷ 195 ∷ 169 ∷ 195 ∷ 169 ∷ 195 ∷ 169 ∷ 195 ∷ 169 ∷ 195 ∷ 169 ∷ 195 ∷ 169 ∷ 195 ∷ 169 ∷ 195 ∷ 169 ∷ 195 ∷ 169 ∷ 195 ∷ 169 ∷ 195 ∷ 169 ∷ 195 ∷ 169 ∷ 195 ∷ 169 ∷ 195 ∷ 169 ∷ 195 ∷ 169 ∷ 195 ∷ 169 ∷ 195 ∷ 169 ∷ 195 ∷ 169 ∷ 195 ∷ 169 ∷ 195 ∷ 169 ∷ 195 ∷ 169 ∷ 195 ∷ 169 ∷ 195 ∷ 169 ∷ 195 ∷ 169 ∷ 195 ∷ 169 ∷ 195 ∷ 169 ∷ 195 ∷ 169 ∷ 195 ∷ 169 ∷ 195 ∷ 169 ∷ 195 ∷ 169 ∷ 195 ∷ 169 ∷ 195 ∷ 169 ∷ 195 ∷ 169 ∷ 195 ∷ 169 ∷ 195 ∷ 169 ∷ 195 ∷ 169 ∷ 195 ∷ 169 ∷ 195 ∷ 169 ∷ 195 ∷ 169 ∷ 195 ∷ 169 ∷ 195 ∷ 169 ∷ 195 ∷ 169 ∷ 195 ∷ 169 ∷ 195 ∷ 169 ∷ 195 ∷ 169 ∷ 195 ∷ 169 ∷ 195 ∷ 169 ∷ 195 ∷ 169 ∷ 195 ∷ 169 ∷ 195 ∷ 169 ∷ 195 ∷ 169 ∷ 195 ∷ 169 ∷ 195 ∷ 169 ∷ 195 ∷ 169 ∷ 195 ∷ 169 ∷ 195 ∷ 169 ∷ 195 ∷ 169 ∷ 195 ∷ 169 ∷ 195 ∷ 169 ∷ 195 ∷ 169 ∷ 195 ∷ 169 ∷ 195 ∷ 169 ∷ 195 ∷ 169 ∷ 195 ∷ 169 ∷ 195 ∷ 169 ∷ 195 ∷ 169 ∷ 195 ∷ 169 ∷ 195 ∷ 169 ∷ 195 ∷ 169 ∷ 195 ∷ 169 ∷ 195 ∷ 169 ∷ 195 ∷ 169 ∷ 195 ∷ 169 ∷ 195 ∷ 169 ∷ 195 ∷ 169 ∷ 195 ∷ 169 ∷ 195 ∷ 169 ∷ 195 ∷ 169 ∷ 195 ∷ 169 ∷ 195 ∷ 169 ∷ 195 ∷ 169 ∷ 195 ∷ 169 ∷ 195 ∷ 169 ∷ 195 ∷ 169 ∷ 195 ∷ 169 ∷ 195 ∷ 169 ∷ 195 ∷ 169 ∷ 195 ∷ 169 ∷ 195 ∷ 169 ∷ 195 ∷ 169 ∷ 195 ∷ 169 ∷ 195 ∷ 169 ∷ 195 ∷ 169 ∷ 195 ∷ 169 ∷ 195 ∷ 169 ∷ 195 ∷ 169 ∷ 195 ∷ 169 ∷ 195 ∷ 169 ∷ 195 ∷ 169 ∷ 195 ∷ 169 ∷ 195 ∷ 169 ∷ 195 ∷ 169 ∷ 195 ∷ 169 ∷ 195 ∷ 169 ∷ 195 ∷ 169 ∷ 195 ∷ 169 ∷ 195 ∷ 169 ∷ 195 ∷ 169 ∷ 195 ∷ 169 ∷ 195 ∷ 169 ∷ 195 ∷ 169 ∷ 195 ∷ 169 ∷ 195 ∷ 169 ∷ 195 ∷ 169 ∷ 195 ∷ 169 ∷ 195 ∷ 169 ∷ 195 ∷ 169 ∷ 195 ∷ 169 ∷ 195 ∷ 169 ∷ 195 ∷ 169 ∷ 195 ∷ 169 ∷ 195 ∷ 169 ∷ 195 ∷ 169 ∷ 195 ∷ 169 ∷ 195 ∷ 169 ∷ 195 ∷ 169 ∷ 195 ∷ 169 ∷ 195 ∷ 169 ∷ 195 ∷ 169 ∷ 195 ∷ 169 ∷ 195 ∷ 169 ∷ 195 ∷ 169 ∷ 195 ∷ 169 ∷ 195 ∷ 169 ∷ 195 ∷ 169 ∷ 195 ∷ 169 ∷ 195 ∷ 169 ∷ 195 ∷ 169 ∷ 195 ∷ 169 ∷ 195 ∷ 169 ∷ 195 ∷ 169 ∷ 195 ∷ 169 ∷ 195 ∷ 169 ∷ 195 ∷ 169 ∷ 195 ∷ 169 ∷ 195 ∷ 169 ∷ 195 ∷ 169 ∷ 195 ∷ 169 ∷ 195 ∷ 169 ∷ 195 ∷ 169 ∷ 195 ∷ 169 ∷ 195 ∷ 169 ∷ 195 ∷ 169 ∷ 195 ∷ 169 ∷ 195 ∷ 169 ∷ 195 ∷ 169 ∷ 195 ∷ 169 ∷ 195 ∷ 169 ∷ 195 ∷ 169 ∷ 195 ∷ 169 ∷ 195 ∷ 169 ∷ 195 ∷ 169 ∷ 195 ∷ 169 ∷ 195 ∷ 169 ∷ 195 ∷ 169 ∷ 195 ∷ 169 ∷ 195 ∷ 169 ∷ 195 ∷ 169 ∷ 195 ∷ 169 ∷ 195 ∷ 169 ∷ 195 ∷ 169 ∷ 195 ∷ 169 ∷ 195 ∷ 169 ∷ 195 ∷ 169 ∷ 195 ∷ 169 ∷ 195 ∷ 169 ∷ 195 ∷ 169 ∷ 195 ∷ 169 ∷ 195 ∷ 169 ∷ 195 ∷ 169 ∷ 195 ∷ 169 ∷ 195 ∷ 169 ∷ 195 ∷ 169 ∷ 195 ∷ 169 ∷ 195 ∷ 169 ∷ 195 ∷ 169 ∷ 195 ∷ 169 ∷ 195 ∷ 169 ∷ 195 ∷ 169 ∷ 195 ∷ 169 ∷ 195 ∷ 169 ∷ 195 ∷ 169 ∷ 195 ∷ 169 ∷ 195 ∷ 169 ∷ 195 ∷ 169 ∷ 195 ∷ 169 ∷ 195 ∷ 169 ∷ 195 ∷ 169 ∷ 195 ∷ 169 ∷ 195 ∷ 169 ∷ 195 ∷ 169 ∷ 195 ∷ 169 ∷ 195 ∷ 169 ∷ 195 ∷ 169 ∷ 195 ∷ 169 ∷ 195 ∷ 169 ∷ 195 ∷ 169 ∷ 195 ∷ 169 ∷ 195 ∷ 169 ∷ 195 ∷ 169 ∷ 195 ∷ 169 ∷ 195 ∷ 169 ∷ 195 ∷ 169 ∷ 195 ∷ 169 ∷ 195 ∷ 169 ∷ 195 ∷ 169 ∷ 195 ∷ 169 ∷ 195 ∷ 169 ∷ 195 ∷ 169 ∷ 195 ∷ 169 ∷ 195 ∷ 169 ∷ 195 ∷ 169 ∷ 195 ∷ 169 ∷ 195 ∷ 169 ∷ 195 ∷ 169 ∷ 195 ∷ 169 ∷ 195 ∷ 169 ∷ 195 ∷ 169 ∷ 195 ∷ 169 ∷ 195 ∷ 169 ∷ 195 ∷ 169 ∷ 195 ∷ 169 ∷ 195 ∷ 169 ∷ 195 ∷ 169 ∷ 195 ∷ 169 ∷ 195 ∷ 169 ∷ 195 ∷ 169 ∷ 195 ∷ 169 ∷ 195 ∷ 169 ∷ 195 ∷ 169 ∷ 195 ∷ 169 ∷ 195 ∷ 169 ∷ 195 ∷ 169 ∷ 195 ∷ 169 ∷ 195 ∷ 169 ∷ 195 ∷ 169 ∷ 195 ∷ 169 ∷ 195 ∷ 169 ∷ 195 ∷ 169 ∷ 195 ∷ 169 ∷ 195 ∷ 169 ∷ 195 ∷ 169 ∷ 195 ∷ 169 ∷ 195 ∷ 169 ∷ 195 ∷ 169 ∷ 195 ∷ 169 ∷ 195 ∷ 169 ∷ 195 ∷ 169 ∷ 195 ∷ 169 ∷ 195 ∷ 169 ∷ 195 ∷ 169 ∷ 195 ∷ 169 ∷ 195 ∷ 169 ∷ 195 ∷ 169 ∷ 195 ∷ 169 ∷ 195 ∷ 169 ∷ 195 ∷ 169 ∷ 195 ∷ 169 ∷ 195 ∷ 169 ∷ 195 ∷ 169 ∷ 195 ∷ 169 ∷ 195 ∷ 169 ∷ 195 ∷ 169 ∷ 195 ∷ 169 ∷ 195 ∷ 169 ∷ 195 ∷ 169 ∷ 195 ∷ 169 ∷ 195 ∷ 169 ∷ 195 ∷ 169 ∷ 195 ∷ 169 ∷ 195 ∷ 169 ∷ 195 ∷ 169 ∷ 195 ∷ 169 ∷ 195 ∷ 169 ∷ 195 ∷ 169 ∷ 195 ∷ 169 ∷ 195 ∷ 169 ∷ 195 ∷ 169 ∷ 195 ∷ 169 ∷ 195 ∷ 169 ∷ 195 ∷ 169 ∷ 195 ∷ 169 ∷ 195 ∷ 169 ∷ 195 ∷ 169 ∷ 195 ∷ 169 ∷ 195 ∷ 169 ∷ 195 ∷ 169 ∷ 195 ∷ 169 ∷ 195 ∷ 169 ∷ 195 ∷ 169 ∷ 195 ∷ 169 ∷ 195 ∷ 169 ∷ 195 ∷ 169 ∷ 195 ∷ 169 ∷ 195 ∷ 169 ∷ 195 ∷ 169 ∷ 195 ∷ 169 ∷ 195 ∷ 169 ∷ 195 ∷ 169 ∷ 195 ∷ 169 ∷ 195 ∷ 169 ∷ 195 ∷ 169 ∷ 195 ∷ 169 ∷ 195 ∷ 169 ∷ 195 ∷ 169 ∷ 195 ∷ 169 ∷ 195 ∷ 169 ∷ 195 ∷ 169 ∷ 195 ∷ 169 ∷ 195 ∷ 169 ∷ 195 ∷ 169 ∷ 195 ∷ 169 ∷ 195 ∷ 169 ∷ 195 ∷ 169 ∷ 195 ∷ 169 ∷ 195 ∷ 169 ∷ 195 ∷ 169 ∷ 195 ∷ 169 ∷ 195 ∷ 169 ∷ 195 ∷ 169 ∷ 195 ∷ 169 ∷ 195 ∷ 169 ∷ 195 ∷ 169 ∷ 195 ∷ 169 ∷ 195 ∷ 169 ∷ 195 ∷ 169 ∷ 195 ∷ 169 ∷ 195 ∷ 169 ∷ 195 ∷ 169 ∷ 195 ∷ 169 ∷ 195 ∷ 169 ∷ 195 ∷ 169 ∷ 195 ∷ 169 ∷ 195 ∷ 169 ∷ 195 ∷ 169 ∷ 195 ∷ 169 ∷ 195 ∷ 169 ∷ 195 ∷ 169 ∷ 195 ∷ 169 ∷ 195 ∷ 169 ∷ 195 ∷ 169 ∷ 195 ∷ 169 ∷ 195 ∷ 169 ∷ 195 ∷ 169 ∷ 195 ∷ 169 ∷ 195 ∷ 169 ∷ 195 ∷ 169 ∷ 195 ∷ 169 ∷ 195 ∷ 169 ∷ 195 ∷ 169 ∷ 195 ∷ 169 ∷ 195 ∷ 169 ∷ 195 ∷ 169 ∷ 195 ∷ 169 ∷ 195 ∷ 169 ∷ 195 ∷ 169 ∷ 195 ∷ 169 ∷ 195 ∷ 169 ∷ 195 ∷ 169 ∷ 195 ∷ 169 ∷ 195 ∷ 169 ∷ 195 ∷ 169 ∷ 195 ∷ 169 ∷ 195 ∷ 169 ∷ 195 ∷ 169 ∷ 195 ∷ 169 ∷ 195 ∷ 169 ∷ 195 ∷ 169 ∷ 195 ∷ 169 ∷ 195 ∷ 169 ∷ 195 ∷ 169 ∷ 195 ∷ 169 ∷ 195 ∷ 169 ∷ 195 ∷ 169 ∷ 195 ∷ 169 ∷ 195 ∷ 169 ∷ 195 ∷ 169 ∷ 195 ∷ 169 ∷ 195 ∷ 169 ∷ 195 ∷ 169 ∷ 195 ∷ 169 ∷ 195 ∷ 169 ∷ 195 ∷ 169 ∷ 195 ∷ 169 ∷ 195 ∷ 169 ∷ 195 ∷ 169 ∷ 195 ∷ 169 ∷ 195 ∷ 169 ∷ 195 ∷ 169 ∷ 195 ∷ 169 ∷ 195 ∷ 169 ∷ 195 ∷ 169 ∷ 195 ∷ 169 ∷ 195 ∷ 169 ∷ 195 ∷ 169 ∷ 195 ∷ 169 ∷ 195 ∷ 169 ∷ 195 ∷ 169 ∷ 195 ∷ 169 ∷ 195 ∷ 169 ∷ 195 ∷ 169 ∷ 195 ∷ 169 ∷ 195 ∷ 169 ∷ 195 ∷ 169 ∷ 195 ∷ 169 ∷ 195 ∷ 169 ∷ 195 ∷ 169 ∷ 195 ∷ 169 ∷ 195 ∷ 169 ∷ 195 ∷ 169 ∷ 195 ∷ 169 ∷ 195 ∷ 169 ∷ 195 ∷ 169 ∷ 195 ∷ 169 ∷ 195 ∷ 169 ∷ 195 ∷ 169 ∷ 195 ∷ 169 ∷ 195 ∷ 169 ∷ 195 ∷ 169 ∷ 195 ∷ 169 ∷ 195 ∷ 169 ∷ 195 ∷ 169 ∷ 195 ∷ 169 ∷ 195 ∷ 169 ∷ 195 ∷ 169 ∷ 195 ∷ 169 ∷ 195 ∷ 169 ∷ 195 ∷ 169 ∷ 195 ∷ 169 ∷ 195 ∷ 169 ∷ 195 ∷ 169 ∷ 195 ∷ 169 ∷ 195 ∷ 169 ∷ 195 ∷ 169 ∷ 195 ∷ 169 ∷ 195 ∷ 169 ∷ 195 ∷ 169 ∷ 195 ∷ 169 ∷ 195 ∷ 169 ∷ 195 ∷ 169 ∷ 195 ∷ 169 ∷ 195 ∷ 169 ∷ 195 ∷ 169 ∷ 195 ∷ 169 ∷ 195 ∷ 169 ∷ 195 ∷ 169 ∷ 195 ∷ 169 ∷ 195 ∷ 169 ∷ 195 ∷ 169 ∷ 195 ∷ 169 ∷ 195 ∷ 169 ∷ 195 ∷ 169 ∷ 195 ∷ 169 ∷ 195 ∷ 169 ∷ 195 ∷ 169 ∷ 195 ∷ 169 ∷ 195 ∷ 169 ∷ 195 ∷ 169 ∷ 195 ∷ 169 ∷ 195 ∷ 169 ∷ 195 ∷ 169 ∷ 195 ∷ 169 ∷ 195 ∷ 169 ∷ 195 ∷ 169 ∷ 195 ∷ 169 ∷ 195 ∷ 169 ∷ 195 ∷ 169 ∷ 195 ∷ 169 ∷ 195 ∷ 169 ∷ 195 ∷ 169 ∷ 195 ∷ 169 ∷ 195 ∷ 169 ∷ 195 ∷ 169 ∷ 195 ∷ 169 ∷ 195 ∷ 169 ∷ 195 ∷ 169 ∷ 195 ∷ 169 ∷ 195 ∷ 169 ∷ 195 ∷ 169 ∷ 195 ∷ 169 ∷ 195 ∷ 169 ∷ 195 ∷ 169 ∷ 195 ∷ 169 ∷ 195 ∷ 169 ∷ 195 ∷ 169 ∷ 195 ∷ 169 ∷ 195 ∷ 169 ∷ 195 ∷ 169 ∷ 195 ∷ 169 ∷ 195 ∷ 169 ∷ 195 ∷ 169 ∷ 195 ∷ 169 ∷ 195 ∷ 169 ∷ 195 ∷ 169 ∷ 195 ∷ 169 ∷ 195 ∷ 169 ∷ 195 ∷ 169 ∷ 195 ∷ 169 ∷ 195 ∷ 169 ∷ 195 ∷ 169 ∷ 195 ∷ 169 ∷ 195 ∷ 169 ∷ 195 ∷ 169 ∷ 195 ∷ 169 ∷ 195 ∷ 169 ∷ 195 ∷ 169 ∷ 195 ∷ 169 ∷ 195 ∷ 169 ∷ 195 ∷ 169 ∷ 195 ∷ 169 ∷ 195 ∷ 169 ∷ 195 ∷ 169 ∷ 195 ∷ 169 ∷ 195 ∷ 169 ∷ 195 ∷ 169 ∷ 195 ∷ 169 ∷ 195 ∷ 169 ∷ 195 ∷ 169 ∷ 195 ∷ 169 ∷ 195 ∷ 169 ∷ 195 ∷ 169 ∷ 195 ∷ 169 ∷ 195 ∷ 169 ∷ 195 ∷ 169 ∷ 195 ∷ 169 ∷ 195 ∷ 169 ∷ 195 ∷ 169 ∷ 195 ∷ 169 ∷ 195 ∷ 169 ∷ 195 ∷ 169 ∷ 195 ∷ 169 ∷ 195 ∷ 169 ∷ 195 ∷ 169 ∷ 195 ∷ 169 ∷ 195 ∷ 169 ∷ 195 ∷ 169 ∷ 195 ∷ 169 ∷ 195 ∷ 169 ∷ 195 ∷ 169 ∷ 195 ∷ 169 ∷ 195 ∷ 169 ∷ 195 ∷ 169 ∷ 195 ∷ 169 ∷ 195 ∷ 169 ∷ 195 ∷ 169 ∷ 195 ∷ 169 ∷ 195 ∷ 169 ∷ 195 ∷ 169 ∷ 195 ∷ 169 ∷ 195 ∷ 169 ∷ 195 ∷ 169 ∷ 195 ∷ 169 ∷ 195 ∷ 169 ∷ 195 ∷ 169 ∷ 195 ∷ 169 ∷ 195 ∷ 169 ∷ 195 ∷ 169 ∷ 195 ∷ 169 ∷ 195 ∷ 169 ∷ 195 ∷ 169 ∷ 195 ∷ 169 ∷ 195 ∷ 169 ∷ 195 ∷ 169 ∷ 195 ∷ 169 ∷ 195 ∷ 169 ∷ 195 ∷ 169 ∷ 195 ∷ 169 ∷ 195 ∷ 169 ∷ 195 ∷ 169 ∷ 195 ∷ 169 ∷ 195 ∷ 169 ∷ 195 ∷ 169 ∷ 195 ∷ 169 ∷ 195 ∷ 169 ∷ 195 ∷ 169 ∷ 195 ∷ 169 ∷ 195 ∷ 169 ∷ 195 ∷ 169 ∷ 195 ∷ 169 ∷ 195 ∷ 169 ∷ 195 ∷ 169 ∷ 195 ∷ 169 ∷ 195 ∷ 169 ∷ 195 ∷ 169 ∷ 195 ∷ 169 ∷ 195 ∷ 169 ∷ 195 ∷ 169 ∷ 195 ∷ 169 ∷ 195 ∷ 169 ∷ 195 ∷ 169 ∷ 195 ∷ 169 ∷ 195 ∷ 169 ∷ 195 ∷ 169 ∷ 195 ∷ 169 ∷ 195 ∷ 169 ∷ 195 ∷ 169 ∷ 195 ∷ 169 ∷ 195 ∷ 169 ∷ 195 ∷ 169 ∷ 195 ∷ 169 ∷ 195 ∷ 169 ∷ 195 ∷ 169 ∷ 195 ∷ 169 ∷ 195 ∷ 169 ∷ 195 ∷ 169 ∷ 195 ∷ 169 ∷ 195 ∷ 169 ∷ 195 ∷ 169 ∷ 195 ∷ 169 ∷ 195 ∷ 169 ∷ 195 ∷ 169 ∷ 195 ∷ 169 ∷ 195 ∷ 169 ∷ 195 ∷ 169 ∷ 195 ∷ 169 ∷ 195 ∷ 169 ∷ 195 ∷ 169 ∷ 195 ∷ 169 ∷ 195 ∷ 169 ∷ 195 ∷ 169 ∷ 195 ∷ 169 ∷ 195 ∷ 169 ∷ 195 ∷ 169 ∷ 195 ∷ 169 ∷ 195 ∷ 169 ∷ 195 ∷ 169 ∷ 195 ∷ 169 ∷ 195 ∷ 169 ∷ 195 ∷ 169 ∷ 195 ∷ 169 ∷ 195 ∷ 169 ∷ 195 ∷ 169 ∷ 195 ∷ 169 ∷ 195 ∷ 169 ∷ 195 ∷ 169 ∷ 195 ∷ 169 ∷ 195 ∷ 169 ∷ 195 ∷ 169 ∷ 195 ∷ 169 ∷ 195 ∷ 169 ∷ 195 ∷ 169 ∷ 195 ∷ 169 ∷ 195 ∷ 169 ∷ 195 ∷ 169 ∷ 195 ∷ 169 ∷ 195 ∷ 169 ∷ 195 ∷ 169 ∷ 195 ∷ 169 ∷ 195 ∷ 169 ∷ 195 ∷ 169 ∷ 195 ∷ 169 ∷ 195 ∷ 169 ∷ 195 ∷ 169 ∷ 195 ∷ 169 ∷ 195 ∷ 169 ∷ 195 ∷ 169 ∷ 195 ∷ 169 ∷ 195 ∷ 169 ∷ 195 ∷ 169 ∷ 195 ∷ 169 ∷ 195 ∷ 169 ∷ 195 ∷ 169 ∷ 195 ∷ 169 ∷ 195 ∷ 169 ∷ 195 ∷ 169 ∷ 195 ∷ 169 ∷ 195 ∷ 169 ∷ 195 ∷ 169 ∷ 195 ∷ 169 ∷ 195 ∷ 169 ∷ 195 ∷ 169 ∷ 195 ∷ 169 ∷ 195 ∷ 169 ∷ 195 ∷ 169 ∷ 195 ∷ 169 ∷ 195 ∷ 169 ∷ 195 ∷ 169 ∷ 195 ∷ 169 ∷ 195 ∷ 169 ∷ 195 ∷ 169 ∷ 195 ∷ 169 ∷ 195 ∷ 169 ∷ 195 ∷ 169 ∷ 195 ∷ 169 ∷ 195 ∷ 169 ∷ 195 ∷ 169 ∷ 195 ∷ 169 ∷ 195 ∷ 169 ∷ 195 ∷ 169 ∷ 195 ∷ 169 ∷ 195 ∷ 169 ∷ 195 ∷ 169 ∷ 195 ∷ 169 ∷ 195 ∷ 169 ∷ 195 ∷ 169 ∷ 195 ∷ 169 ∷ 195 ∷ 169 ∷ 195 ∷ 169 ∷ 195 ∷ 169 ∷ 195 ∷ 169 ∷ 195 ∷ 169 ∷ 195 ∷ 169 ∷ 195 ∷ 169 ∷ 195 ∷ 169 ∷ 195 ∷ 169 ∷ 195 ∷ 169 ∷ 195 ∷ 169 ∷ 195 ∷ 169 ∷ 195 ∷ 169 ∷ 195 ∷ 169 ∷ 195 ∷ 169 ∷ 195 ∷ 169 ∷ 195 ∷ 169 ∷ 195 ∷ 169 ∷ 195 ∷ 169 ∷ 195 ∷ 169 ∷ 195 ∷ 169 ∷ 195 ∷ 169 ∷ 195 ∷ 169 ∷ 195 ∷ 169 ∷ 195 ∷ 169 ∷ 195 ∷ 169 ∷ 195 ∷ 169 ∷ 195 ∷ 169 ∷ 195 ∷ 169 ∷ 195 ∷ 169 ∷ 195 ∷ 169 ∷ 195 ∷ 169 ∷ 195 ∷ 169 ∷ 195 ∷ 169 ∷ 195 ∷ 169 ∷ 195 ∷ 169 ∷ 195 ∷ 169 ∷ 195 ∷ 169 ∷ 195 ∷ 169 ∷ 195 ∷ 169 ∷ 195 ∷ 169 ∷ 195 ∷ 169 ∷ 195 ∷ 169 ∷ 195 ∷ 169 ∷ 195 ∷ 169 ∷ 195 ∷ 169 ∷ 96 ∷ 93 ∷ []) (piece 0 0 1998 0 ∷ []) ≡ (enter Name.Link 1 1 0 0 ∷ exit Name.Link 1 1999 1998 0 ∷ [])) ×
    -- text outer commonmark definition=`⟦a×995⟧␠a` «[`⟦a×995⟧␊  a`]»: Link 0-1003
    (text_outline (record default { options = record default_options { commonmark = true }; definitions = (codes "`aaaaaaaaaaaaaaaaaaaaaaaaaaaaaaaaaaaaaaaaaaaaaaaaaaaaaaaaaaaaaaaaaaaaaaaaaaaaaaaaaaaaaaaaaaaaaaaaaaaaaaaaaaaaaaaaaaaaaaaaaaaaaaaaaaaaaaaaaaaaaaaaaaaaaaaaaaaaaaaaaaaaaaaaaaaaaaaaaaaaaaaaaaaaaaaaaaaaaaaaaaaaaaaaaaaaaaaaaaaaaaaaaaaaaaaaaaaaaaaaaaaaaaaaaaaaaaaaaaaaaaaaaaaaaaaaaaaaaaaaaaaaaaaaaaaaaaaaaaaaaaaaaaaaaaaaaaaaaaaaaaaaaaaaaaaaaaaaaaaaaaaaaaaaaaaaaaaaaaaaaaaaaaaaaaaaaaaaaaaaaaaaaaaaaaaaaaaaaaaaaaaaaaaaaaaaaaaaaaaaaaaaaaaaaaaaaaaaaaaaaaaaaaaaaaaaaaaaaaaaaaaaaaaaaaaaaaaaaaaaaaaaaaaaaaaaaaaaaaaaaaaaaaaaaaaaaaaaaaaaaaaaaaaaaaaaaaaaaaaaaaaaaaaaaaaaaaaaaaaaaaaaaaaaaaaaaaaaaaaaaaaaaaaaaaaaaaaaaaaaaaaaaaaaaaaaaaaaaaaaaaaaaaaaaaaaaaaaaaaaaaaaaaaaaaaaaaaaaaaaaaaaaaaaaaaaaaaaaaaaaaaaaaaaaaaaaaaaaaaaaaaaaaaaaaaaaaaaaaaaaaaaaaaaaaaaaaaaaaaaaaaaaaaaaaaaaaaaaaaaaaaaaaaaaaaaaaaaaaaaaaaaaaaaaaaaaaaaaaaaaaaaaaaaaaaaaaaaaaaaaaaaaaaaaaaaaaaaaaaaaaaaaaaaaaaaaaaaaaaaaaaaaaaaaaaaaaaaaaaaaaaaaaaaaaaaaaaaaaaaaaaaaaaaaaaaaaaaaaaaaaaaaaaaaaaaaaaaaaaaaaaaaaaaaaaaaaaaaaaaaaaaaaaaaaaaaaaaaaaaaaaaaaaaaaaaaaa a`") ∷ [] }) (91 ∷ 96 ∷ 97 ∷ 97 ∷ 97 ∷ 97 ∷ 97 ∷ 97 ∷ 97 ∷ 97 ∷ 97 ∷ 97 ∷ 97 ∷ 97 ∷ 97 ∷ 97 ∷ 97 ∷ 97 ∷ 97 ∷ 97 ∷ 97 ∷ 97 ∷ 97 ∷ 97 ∷ 97 ∷ 97 ∷ 97 ∷ 97 ∷ 97 ∷ 97 ∷ 97 ∷ 97 ∷ 97 ∷ 97 ∷ 97 ∷ 97 ∷ 97 ∷ 97 ∷ 97 ∷ 97 ∷ 97 ∷ 97 ∷ 97 ∷ 97 ∷ 97 ∷ 97 ∷ 97 ∷ 97 ∷ 97 ∷ 97 ∷ 97 ∷ 97 ∷ 97 ∷ 97 ∷ 97 ∷ 97 ∷ 97 ∷ 97 ∷ 97 ∷ 97 ∷ 97 ∷ 97 ∷ 97 ∷ 97 ∷ 97 ∷ 97 ∷ 97 ∷ 97 ∷ 97 ∷ 97 ∷ 97 ∷ 97 ∷ 97 ∷ 97 ∷ 97 ∷ 97 ∷ 97 ∷ 97 ∷ 97 ∷ 97 ∷ 97 ∷ 97 ∷ 97 ∷ 97 ∷ 97 ∷ 97 ∷ 97 ∷ 97 ∷ 97 ∷ 97 ∷ 97 ∷ 97 ∷ 97 ∷ 97 ∷ 97 ∷ 97 ∷ 97 ∷ 97 ∷ 97 ∷ 97 ∷ 97 ∷ 97 ∷ 97 ∷ 97 ∷ 97 ∷ 97 ∷ 97 ∷ 97 ∷ 97 ∷ 97 ∷ 97 ∷ 97 ∷ 97 ∷ 97 ∷ 97 ∷ 97 ∷ 97 ∷ 97 ∷ 97 ∷ 97 ∷ 97 ∷ 97 ∷ 97 ∷ 97 ∷ 97 ∷ 97 ∷ 97 ∷ 97 ∷ 97 ∷ 97 ∷ 97 ∷ 97 ∷ 97 ∷ 97 ∷ 97 ∷ 97 ∷ 97 ∷ 97 ∷ 97 ∷ 97 ∷ 97 ∷ 97 ∷ 97 ∷ 97 ∷ 97 ∷ 97 ∷ 97 ∷ 97 ∷ 97 ∷ 97 ∷ 97 ∷ 97 ∷ 97 ∷ 97 ∷ 97 ∷ 97 ∷ 97 ∷ 97 ∷ 97 ∷ 97 ∷ 97 ∷ 97 ∷ 97 ∷ 97 ∷ 97 ∷ 97 ∷ 97 ∷ 97 ∷ 97 ∷ 97 ∷ 97 ∷ 97 ∷ 97 ∷ 97 ∷ 97 ∷ 97 ∷ 97 ∷ 97 ∷ 97 ∷ 97 ∷ 97 ∷ 97 ∷ 97 ∷ 97 ∷ 97 ∷ 97 ∷ 97 ∷ 97 ∷ 97 ∷ 97 ∷ 97 ∷ 97 ∷ 97 ∷ 97 ∷ 97 ∷ 97 ∷ 97 ∷ 97 ∷ 97 ∷ 97 ∷ 97 ∷ 97 ∷ 97 ∷ 97 ∷ 97 ∷ 97 ∷ 97 ∷ 97 ∷ 97 ∷ 97 ∷ 97 ∷ 97 ∷ 97 ∷ 97 ∷ 97 ∷ 97 ∷ 97 ∷ 97 ∷ 97 ∷ 97 ∷ 97 ∷ 97 ∷ 97 ∷ 97 ∷ 97 ∷ 97 ∷ 97 ∷ 97 ∷ 97 ∷ 97 ∷ 97 ∷ 97 ∷ 97 ∷ 97 ∷ 97 ∷ 97 ∷ 97 ∷ 97 ∷ 97 ∷ 97 ∷ 97 ∷ 97 ∷ 97 ∷ 97 ∷ 97 ∷ 97 ∷ 97 ∷ 97 ∷ 97 ∷ 97 ∷ 97 ∷ 97 ∷ 97 ∷ 97 ∷ 97 ∷ 97 ∷ 97 ∷ 97 ∷ 97 ∷ 97 ∷ 97 ∷ 97 ∷ 97 ∷ 97 ∷ 97 ∷ 97 ∷ 97 ∷ 97 ∷ 97 ∷ 97 ∷ 97 ∷ 97 ∷ 97 ∷ 97 ∷ 97 ∷ 97 ∷ 97 ∷ 97 ∷ 97 ∷ 97 ∷ 97 ∷ 97 ∷ 97 ∷ 97 ∷ 97 ∷ 97 ∷ 97 ∷ 97 ∷ 97 ∷ 97 ∷ 97 ∷ 97 ∷ 97 ∷ 97 ∷ 97 ∷ 97 ∷ 97 ∷ 97 ∷ 97 ∷ 97 ∷ 97 ∷ 97 ∷ 97 ∷ 97 ∷ 97 ∷ 97 ∷ 97 ∷ 97 ∷ 97 ∷ 97 ∷ 97 ∷ 97 ∷ 97 ∷ 97 ∷ 97 ∷ 97 ∷ 97 ∷ 97 ∷ 97 ∷ 97 ∷ 97 ∷ 97 ∷ 97 ∷ 97 ∷ 97 ∷ 97 ∷ 97 ∷ 97 ∷ 97 ∷ 97 ∷ 97 ∷ 97 ∷ 97 ∷ 97 ∷ 97 ∷ 97 ∷ 97 ∷ 97 ∷ 97 ∷ 97 ∷ 97 ∷ 97 ∷ 97 ∷ 97 ∷ 97 ∷ 97 ∷ 97 ∷ 97 ∷ 97 ∷ 97 ∷ 97 ∷ 97 ∷ 97 ∷ 97 ∷ 97 ∷ 97 ∷ 97 ∷ 97 ∷ 97 ∷ 97 ∷ 97 ∷ 97 ∷ 97 ∷ 97 ∷ 97 ∷ 97 ∷ 97 ∷ 97 ∷ 97 ∷ 97 ∷ 97 ∷ 97 ∷ 97 ∷ 97 ∷ 97 ∷ 97 ∷ 97 ∷ 97 ∷ 97 ∷ 97 ∷ 97 ∷ 97 ∷ 97 ∷ 97 ∷ 97 ∷ 97 ∷ 97 ∷ 97 ∷ 97 ∷ 97 ∷ 97 ∷ 97 ∷ 97 ∷ 97 ∷ 97 ∷ 97 ∷ 97 ∷ 97 ∷ 97 ∷ 97 ∷ 97 ∷ 97 ∷ 97 ∷ 97 ∷ 97 ∷ 97 ∷ 97 ∷ 97 ∷ 97 ∷ 97 ∷ 97 ∷ 97 ∷ 97 ∷ 97 ∷ 97 ∷ 97 ∷ 97 ∷ 97 ∷ 97 ∷ 97 ∷ 97 ∷ 97 ∷ 97 ∷ 97 ∷ 97 ∷ 97 ∷ 97 ∷ 97 ∷ 97 ∷ 97 ∷ 97 ∷ 97 ∷ 97 ∷ 97 ∷ 97 ∷ 97 ∷ 97 ∷ 97 ∷ 97 ∷ 97 ∷ 97 ∷ 97 ∷ 97 ∷ 97 ∷ 97 ∷ 97 ∷ 97 ∷ 97 ∷ 97 ∷ 97 ∷ 97 ∷ 97 ∷ 97 ∷ 97 ∷ 97 ∷ 97 ∷ 97 ∷ 97 ∷ 97 ∷ 97 ∷ 97 ∷ 97 ∷ 97 ∷ 97 ∷ 97 ∷ 97 ∷ 97 ∷ 97 ∷ 97 ∷ 97 ∷ 97 ∷ 97 ∷ 97 ∷ 97 ∷ 97 ∷ 97 ∷ 97 ∷ 97 ∷ 97 ∷ 97 ∷ 97 ∷ 97 ∷ 97 ∷ 97 ∷ 97 ∷ 97 ∷ 97 ∷ 97 ∷ 97 ∷ 97 ∷ 97 ∷ 97 ∷ 97 ∷ 97 ∷ 97 ∷ 97 ∷ 97 ∷ 97 ∷ 97 ∷ 97 ∷ 97 ∷ 97 ∷ 97 ∷ 97 ∷ 97 ∷ 97 ∷ 97 ∷ 97 ∷ 97 ∷ 97 ∷ 97 ∷ 97 ∷ 97 ∷ 97 ∷ 97 ∷ 97 ∷ 97 ∷ 97 ∷ 97 ∷ 97 ∷ 97 ∷ 97 ∷ 97 ∷ 97 ∷ 97 ∷ 97 ∷ 97 ∷ 97 ∷ 97 ∷ 97 ∷ 97 ∷ 97 ∷ 97 ∷ 97 ∷ 97 ∷ 97 ∷ 97 ∷ 97 ∷ 97 ∷ 97 ∷ 97 ∷ 97 ∷ 97 ∷ 97 ∷ 97 ∷ 97 ∷ 97 ∷ 97 ∷ 97 ∷ 97 ∷ 97 ∷ 97 ∷ 97 ∷ 97 ∷ 97 ∷ 97 ∷ 97 ∷ 97 ∷ 97 ∷ 97 ∷ 97 ∷ 97 ∷ 97 ∷ 97 ∷ 97 ∷ 97 ∷ 97 ∷ 97 ∷ 97 ∷ 97 ∷ 97 ∷ 97 ∷ 97 ∷ 97 ∷ 97 ∷ 97 ∷ 97 ∷ 97 ∷ 97 ∷ 97 ∷ 97 ∷ 97 ∷ 97 ∷ 97 ∷ 97 ∷ 97 ∷ 97 ∷ 97 ∷ 97 ∷ 97 ∷ 97 ∷ 97 ∷ 97 ∷ 97 ∷ 97 ∷ 97 ∷ 97 ∷ 97 ∷ 97 ∷ 97 ∷ 97 ∷ 97 ∷ 97 ∷ 97 ∷ 97 ∷ 97 ∷ 97 ∷ 97 ∷ 97 ∷ 97 ∷ 97 ∷ 97 ∷ 97 ∷ 97 ∷ 97 ∷ 97 ∷ 97 ∷ 97 ∷ 97 ∷ 97 ∷ 97 ∷ 97 ∷ 97 ∷ 97 ∷ 97 ∷ 97 ∷ 97 ∷ 97 ∷ 97 ∷ 97 ∷ 97 ∷ 97 ∷ 97 ∷ 97 ∷ 97 ∷ 97 ∷ 97 ∷ 97 ∷ 97 ∷ 97 ∷ 97 ∷ 97 ∷ 97 ∷ 97 ∷ 97 ∷ 97 ∷ 97 ∷ 97 ∷ 97 ∷ 97 ∷ 97 ∷ 97 ∷ 97 ∷ 97 ∷ 97 ∷ 97 ∷ 97 ∷ 97 ∷ 97 ∷ 97 ∷ 97 ∷ 97 ∷ 97 ∷ 97 ∷ 97 ∷ 97 ∷ 97 ∷ 97 ∷ 97 ∷ 97 ∷ 97 ∷ 97 ∷ 97 ∷ 97 ∷ 97 ∷ 97 ∷ 97 ∷ 97 ∷ 97 ∷ 97 ∷ 97 ∷ 97 ∷ 97 ∷ 97 ∷ 97 ∷ 97 ∷ 97 ∷ 97 ∷ 97 ∷ 97 ∷ 97 ∷ 97 ∷ 97 ∷ 97 ∷ 97 ∷ 97 ∷ 97 ∷ 97 ∷ 97 ∷ 97 ∷ 97 ∷ 97 ∷ 97 ∷ 97 ∷ 97 ∷ 97 ∷ 97 ∷ 97 ∷ 97 ∷ 97 ∷ 97 ∷ 97 ∷ 97 ∷ 97 ∷ 97 ∷ 97 ∷ 97 ∷ 97 ∷ 97 ∷ 97 ∷ 97 ∷ 97 ∷ 97 ∷ 97 ∷ 97 ∷ 97 ∷ 97 ∷ 97 ∷ 97 ∷ 97 ∷ 97 ∷ 97 ∷ 97 ∷ 97 ∷ 97 ∷ 97 ∷ 97 ∷ 97 ∷ 97 ∷ 97 ∷ 97 ∷ 97 ∷ 97 ∷ 97 ∷ 97 ∷ 97 ∷ 97 ∷ 97 ∷ 97 ∷ 97 ∷ 97 ∷ 97 ∷ 97 ∷ 97 ∷ 97 ∷ 97 ∷ 97 ∷ 97 ∷ 97 ∷ 97 ∷ 97 ∷ 97 ∷ 97 ∷ 97 ∷ 97 ∷ 97 ∷ 97 ∷ 97 ∷ 97 ∷ 97 ∷ 97 ∷ 97 ∷ 97 ∷ 97 ∷ 97 ∷ 97 ∷ 97 ∷ 97 ∷ 97 ∷ 97 ∷ 97 ∷ 97 ∷ 97 ∷ 97 ∷ 97 ∷ 97 ∷ 97 ∷ 97 ∷ 97 ∷ 97 ∷ 97 ∷ 97 ∷ 97 ∷ 97 ∷ 97 ∷ 97 ∷ 97 ∷ 97 ∷ 97 ∷ 97 ∷ 97 ∷ 97 ∷ 97 ∷ 97 ∷ 97 ∷ 97 ∷ 97 ∷ 97 ∷ 97 ∷ 97 ∷ 97 ∷ 97 ∷ 97 ∷ 97 ∷ 97 ∷ 97 ∷ 97 ∷ 97 ∷ 97 ∷ 97 ∷ 97 ∷ 97 ∷ 97 ∷ 97 ∷ 97 ∷ 97 ∷ 97 ∷ 97 ∷ 97 ∷ 97 ∷ 97 ∷ 97 ∷ 97 ∷ 97 ∷ 97 ∷ 97 ∷ 97 ∷ 97 ∷ 97 ∷ 97 ∷ 97 ∷ 97 ∷ 97 ∷ 97 ∷ 97 ∷ 97 ∷ 97 ∷ 97 ∷ 97 ∷ 97 ∷ 97 ∷ 97 ∷ 97 ∷ 97 ∷ 97 ∷ 97 ∷ 97 ∷ 97 ∷ 97 ∷ 97 ∷ 97 ∷ 97 ∷ 97 ∷ 97 ∷ 97 ∷ 97 ∷ 97 ∷ 97 ∷ 97 ∷ 97 ∷ 97 ∷ 97 ∷ 97 ∷ 97 ∷ 97 ∷ 97 ∷ 97 ∷ 97 ∷ 97 ∷ 97 ∷ 97 ∷ 97 ∷ 97 ∷ 97 ∷ 97 ∷ 97 ∷ 97 ∷ 97 ∷ 97 ∷ 97 ∷ 97 ∷ 97 ∷ 97 ∷ 97 ∷ 97 ∷ 97 ∷ 97 ∷ 97 ∷ 97 ∷ 97 ∷ 97 ∷ 97 ∷ 97 ∷ 97 ∷ 97 ∷ 97 ∷ 97 ∷ 97 ∷ 97 ∷ 97 ∷ 97 ∷ 97 ∷ 97 ∷ 97 ∷ 97 ∷ 97 ∷ 97 ∷ 97 ∷ 97 ∷ 97 ∷ 97 ∷ 97 ∷ 97 ∷ 97 ∷ 97 ∷ 97 ∷ 97 ∷ 97 ∷ 97 ∷ 97 ∷ 97 ∷ 97 ∷ 97 ∷ 97 ∷ 97 ∷ 97 ∷ 97 ∷ 97 ∷ 97 ∷ 97 ∷ 97 ∷ 97 ∷ 97 ∷ 97 ∷ 97 ∷ 97 ∷ 97 ∷ 97 ∷ 97 ∷ 97 ∷ 97 ∷ 97 ∷ 97 ∷ 97 ∷ 97 ∷ 97 ∷ 97 ∷ 97 ∷ 97 ∷ 97 ∷ 97 ∷ 97 ∷ 97 ∷ 97 ∷ 97 ∷ 97 ∷ 97 ∷ 97 ∷ 97 ∷ 97 ∷ 97 ∷ 97 ∷ 97 ∷ 97 ∷ 97 ∷ 97 ∷ 97 ∷ 97 ∷ 97 ∷ 97 ∷ 97 ∷ 97 ∷ 97 ∷ 97 ∷ 97 ∷ 97 ∷ 97 ∷ 97 ∷ 97 ∷ 97 ∷ 97 ∷ 97 ∷ 97 ∷ 97 ∷ 97 ∷ 97 ∷ 97 ∷ 10 ∷ 32 ∷ 32 ∷ 97 ∷ 96 ∷ 93 ∷ []) (piece 0 0 1003 0 ∷ []) ≡ (enter Name.Link 1 1 0 0 ∷ exit Name.Link 2 6 1003 0 ∷ [])) ×
    -- text outer commonmark definition=`⟦a×996⟧␠a` «[`⟦a×996⟧␊  a`]»: Data 0-1, CodeText 1-1003, Data 1003-1004
    (text_outline (record default { options = record default_options { commonmark = true }; definitions = (codes "`aaaaaaaaaaaaaaaaaaaaaaaaaaaaaaaaaaaaaaaaaaaaaaaaaaaaaaaaaaaaaaaaaaaaaaaaaaaaaaaaaaaaaaaaaaaaaaaaaaaaaaaaaaaaaaaaaaaaaaaaaaaaaaaaaaaaaaaaaaaaaaaaaaaaaaaaaaaaaaaaaaaaaaaaaaaaaaaaaaaaaaaaaaaaaaaaaaaaaaaaaaaaaaaaaaaaaaaaaaaaaaaaaaaaaaaaaaaaaaaaaaaaaaaaaaaaaaaaaaaaaaaaaaaaaaaaaaaaaaaaaaaaaaaaaaaaaaaaaaaaaaaaaaaaaaaaaaaaaaaaaaaaaaaaaaaaaaaaaaaaaaaaaaaaaaaaaaaaaaaaaaaaaaaaaaaaaaaaaaaaaaaaaaaaaaaaaaaaaaaaaaaaaaaaaaaaaaaaaaaaaaaaaaaaaaaaaaaaaaaaaaaaaaaaaaaaaaaaaaaaaaaaaaaaaaaaaaaaaaaaaaaaaaaaaaaaaaaaaaaaaaaaaaaaaaaaaaaaaaaaaaaaaaaaaaaaaaaaaaaaaaaaaaaaaaaaaaaaaaaaaaaaaaaaaaaaaaaaaaaaaaaaaaaaaaaaaaaaaaaaaaaaaaaaaaaaaaaaaaaaaaaaaaaaaaaaaaaaaaaaaaaaaaaaaaaaaaaaaaaaaaaaaaaaaaaaaaaaaaaaaaaaaaaaaaaaaaaaaaaaaaaaaaaaaaaaaaaaaaaaaaaaaaaaaaaaaaaaaaaaaaaaaaaaaaaaaaaaaaaaaaaaaaaaaaaaaaaaaaaaaaaaaaaaaaaaaaaaaaaaaaaaaaaaaaaaaaaaaaaaaaaaaaaaaaaaaaaaaaaaaaaaaaaaaaaaaaaaaaaaaaaaaaaaaaaaaaaaaaaaaaaaaaaaaaaaaaaaaaaaaaaaaaaaaaaaaaaaaaaaaaaaaaaaaaaaaaaaaaaaaaaaaaaaaaaaaaaaaaaaaaaaaaaaaaaaaaaaaaaaaaaaaaaaaaaaaaaa a`") ∷ [] }) (91 ∷ 96 ∷ 97 ∷ 97 ∷ 97 ∷ 97 ∷ 97 ∷ 97 ∷ 97 ∷ 97 ∷ 97 ∷ 97 ∷ 97 ∷ 97 ∷ 97 ∷ 97 ∷ 97 ∷ 97 ∷ 97 ∷ 97 ∷ 97 ∷ 97 ∷ 97 ∷ 97 ∷ 97 ∷ 97 ∷ 97 ∷ 97 ∷ 97 ∷ 97 ∷ 97 ∷ 97 ∷ 97 ∷ 97 ∷ 97 ∷ 97 ∷ 97 ∷ 97 ∷ 97 ∷ 97 ∷ 97 ∷ 97 ∷ 97 ∷ 97 ∷ 97 ∷ 97 ∷ 97 ∷ 97 ∷ 97 ∷ 97 ∷ 97 ∷ 97 ∷ 97 ∷ 97 ∷ 97 ∷ 97 ∷ 97 ∷ 97 ∷ 97 ∷ 97 ∷ 97 ∷ 97 ∷ 97 ∷ 97 ∷ 97 ∷ 97 ∷ 97 ∷ 97 ∷ 97 ∷ 97 ∷ 97 ∷ 97 ∷ 97 ∷ 97 ∷ 97 ∷ 97 ∷ 97 ∷ 97 ∷ 97 ∷ 97 ∷ 97 ∷ 97 ∷ 97 ∷ 97 ∷ 97 ∷ 97 ∷ 97 ∷ 97 ∷ 97 ∷ 97 ∷ 97 ∷ 97 ∷ 97 ∷ 97 ∷ 97 ∷ 97 ∷ 97 ∷ 97 ∷ 97 ∷ 97 ∷ 97 ∷ 97 ∷ 97 ∷ 97 ∷ 97 ∷ 97 ∷ 97 ∷ 97 ∷ 97 ∷ 97 ∷ 97 ∷ 97 ∷ 97 ∷ 97 ∷ 97 ∷ 97 ∷ 97 ∷ 97 ∷ 97 ∷ 97 ∷ 97 ∷ 97 ∷ 97 ∷ 97 ∷ 97 ∷ 97 ∷ 97 ∷ 97 ∷ 97 ∷ 97 ∷ 97 ∷ 97 ∷ 97 ∷ 97 ∷ 97 ∷ 97 ∷ 97 ∷ 97 ∷ 97 ∷ 97 ∷ 97 ∷ 97 ∷ 97 ∷ 97 ∷ 97 ∷ 97 ∷ 97 ∷ 97 ∷ 97 ∷ 97 ∷ 97 ∷ 97 ∷ 97 ∷ 97 ∷ 97 ∷ 97 ∷ 97 ∷ 97 ∷ 97 ∷ 97 ∷ 97 ∷ 97 ∷ 97 ∷ 97 ∷ 97 ∷ 97 ∷ 97 ∷ 97 ∷ 97 ∷ 97 ∷ 97 ∷ 97 ∷ 97 ∷ 97 ∷ 97 ∷ 97 ∷ 97 ∷ 97 ∷ 97 ∷ 97 ∷ 97 ∷ 97 ∷ 97 ∷ 97 ∷ 97 ∷ 97 ∷ 97 ∷ 97 ∷ 97 ∷ 97 ∷ 97 ∷ 97 ∷ 97 ∷ 97 ∷ 97 ∷ 97 ∷ 97 ∷ 97 ∷ 97 ∷ 97 ∷ 97 ∷ 97 ∷ 97 ∷ 97 ∷ 97 ∷ 97 ∷ 97 ∷ 97 ∷ 97 ∷ 97 ∷ 97 ∷ 97 ∷ 97 ∷ 97 ∷ 97 ∷ 97 ∷ 97 ∷ 97 ∷ 97 ∷ 97 ∷ 97 ∷ 97 ∷ 97 ∷ 97 ∷ 97 ∷ 97 ∷ 97 ∷ 97 ∷ 97 ∷ 97 ∷ 97 ∷ 97 ∷ 97 ∷ 97 ∷ 97 ∷ 97 ∷ 97 ∷ 97 ∷ 97 ∷ 97 ∷ 97 ∷ 97 ∷ 97 ∷ 97 ∷ 97 ∷ 97 ∷ 97 ∷ 97 ∷ 97 ∷ 97 ∷ 97 ∷ 97 ∷ 97 ∷ 97 ∷ 97 ∷ 97 ∷ 97 ∷ 97 ∷ 97 ∷ 97 ∷ 97 ∷ 97 ∷ 97 ∷ 97 ∷ 97 ∷ 97 ∷ 97 ∷ 97 ∷ 97 ∷ 97 ∷ 97 ∷ 97 ∷ 97 ∷ 97 ∷ 97 ∷ 97 ∷ 97 ∷ 97 ∷ 97 ∷ 97 ∷ 97 ∷ 97 ∷ 97 ∷ 97 ∷ 97 ∷ 97 ∷ 97 ∷ 97 ∷ 97 ∷ 97 ∷ 97 ∷ 97 ∷ 97 ∷ 97 ∷ 97 ∷ 97 ∷ 97 ∷ 97 ∷ 97 ∷ 97 ∷ 97 ∷ 97 ∷ 97 ∷ 97 ∷ 97 ∷ 97 ∷ 97 ∷ 97 ∷ 97 ∷ 97 ∷ 97 ∷ 97 ∷ 97 ∷ 97 ∷ 97 ∷ 97 ∷ 97 ∷ 97 ∷ 97 ∷ 97 ∷ 97 ∷ 97 ∷ 97 ∷ 97 ∷ 97 ∷ 97 ∷ 97 ∷ 97 ∷ 97 ∷ 97 ∷ 97 ∷ 97 ∷ 97 ∷ 97 ∷ 97 ∷ 97 ∷ 97 ∷ 97 ∷ 97 ∷ 97 ∷ 97 ∷ 97 ∷ 97 ∷ 97 ∷ 97 ∷ 97 ∷ 97 ∷ 97 ∷ 97 ∷ 97 ∷ 97 ∷ 97 ∷ 97 ∷ 97 ∷ 97 ∷ 97 ∷ 97 ∷ 97 ∷ 97 ∷ 97 ∷ 97 ∷ 97 ∷ 97 ∷ 97 ∷ 97 ∷ 97 ∷ 97 ∷ 97 ∷ 97 ∷ 97 ∷ 97 ∷ 97 ∷ 97 ∷ 97 ∷ 97 ∷ 97 ∷ 97 ∷ 97 ∷ 97 ∷ 97 ∷ 97 ∷ 97 ∷ 97 ∷ 97 ∷ 97 ∷ 97 ∷ 97 ∷ 97 ∷ 97 ∷ 97 ∷ 97 ∷ 97 ∷ 97 ∷ 97 ∷ 97 ∷ 97 ∷ 97 ∷ 97 ∷ 97 ∷ 97 ∷ 97 ∷ 97 ∷ 97 ∷ 97 ∷ 97 ∷ 97 ∷ 97 ∷ 97 ∷ 97 ∷ 97 ∷ 97 ∷ 97 ∷ 97 ∷ 97 ∷ 97 ∷ 97 ∷ 97 ∷ 97 ∷ 97 ∷ 97 ∷ 97 ∷ 97 ∷ 97 ∷ 97 ∷ 97 ∷ 97 ∷ 97 ∷ 97 ∷ 97 ∷ 97 ∷ 97 ∷ 97 ∷ 97 ∷ 97 ∷ 97 ∷ 97 ∷ 97 ∷ 97 ∷ 97 ∷ 97 ∷ 97 ∷ 97 ∷ 97 ∷ 97 ∷ 97 ∷ 97 ∷ 97 ∷ 97 ∷ 97 ∷ 97 ∷ 97 ∷ 97 ∷ 97 ∷ 97 ∷ 97 ∷ 97 ∷ 97 ∷ 97 ∷ 97 ∷ 97 ∷ 97 ∷ 97 ∷ 97 ∷ 97 ∷ 97 ∷ 97 ∷ 97 ∷ 97 ∷ 97 ∷ 97 ∷ 97 ∷ 97 ∷ 97 ∷ 97 ∷ 97 ∷ 97 ∷ 97 ∷ 97 ∷ 97 ∷ 97 ∷ 97 ∷ 97 ∷ 97 ∷ 97 ∷ 97 ∷ 97 ∷ 97 ∷ 97 ∷ 97 ∷ 97 ∷ 97 ∷ 97 ∷ 97 ∷ 97 ∷ 97 ∷ 97 ∷ 97 ∷ 97 ∷ 97 ∷ 97 ∷ 97 ∷ 97 ∷ 97 ∷ 97 ∷ 97 ∷ 97 ∷ 97 ∷ 97 ∷ 97 ∷ 97 ∷ 97 ∷ 97 ∷ 97 ∷ 97 ∷ 97 ∷ 97 ∷ 97 ∷ 97 ∷ 97 ∷ 97 ∷ 97 ∷ 97 ∷ 97 ∷ 97 ∷ 97 ∷ 97 ∷ 97 ∷ 97 ∷ 97 ∷ 97 ∷ 97 ∷ 97 ∷ 97 ∷ 97 ∷ 97 ∷ 97 ∷ 97 ∷ 97 ∷ 97 ∷ 97 ∷ 97 ∷ 97 ∷ 97 ∷ 97 ∷ 97 ∷ 97 ∷ 97 ∷ 97 ∷ 97 ∷ 97 ∷ 97 ∷ 97 ∷ 97 ∷ 97 ∷ 97 ∷ 97 ∷ 97 ∷ 97 ∷ 97 ∷ 97 ∷ 97 ∷ 97 ∷ 97 ∷ 97 ∷ 97 ∷ 97 ∷ 97 ∷ 97 ∷ 97 ∷ 97 ∷ 97 ∷ 97 ∷ 97 ∷ 97 ∷ 97 ∷ 97 ∷ 97 ∷ 97 ∷ 97 ∷ 97 ∷ 97 ∷ 97 ∷ 97 ∷ 97 ∷ 97 ∷ 97 ∷ 97 ∷ 97 ∷ 97 ∷ 97 ∷ 97 ∷ 97 ∷ 97 ∷ 97 ∷ 97 ∷ 97 ∷ 97 ∷ 97 ∷ 97 ∷ 97 ∷ 97 ∷ 97 ∷ 97 ∷ 97 ∷ 97 ∷ 97 ∷ 97 ∷ 97 ∷ 97 ∷ 97 ∷ 97 ∷ 97 ∷ 97 ∷ 97 ∷ 97 ∷ 97 ∷ 97 ∷ 97 ∷ 97 ∷ 97 ∷ 97 ∷ 97 ∷ 97 ∷ 97 ∷ 97 ∷ 97 ∷ 97 ∷ 97 ∷ 97 ∷ 97 ∷ 97 ∷ 97 ∷ 97 ∷ 97 ∷ 97 ∷ 97 ∷ 97 ∷ 97 ∷ 97 ∷ 97 ∷ 97 ∷ 97 ∷ 97 ∷ 97 ∷ 97 ∷ 97 ∷ 97 ∷ 97 ∷ 97 ∷ 97 ∷ 97 ∷ 97 ∷ 97 ∷ 97 ∷ 97 ∷ 97 ∷ 97 ∷ 97 ∷ 97 ∷ 97 ∷ 97 ∷ 97 ∷ 97 ∷ 97 ∷ 97 ∷ 97 ∷ 97 ∷ 97 ∷ 97 ∷ 97 ∷ 97 ∷ 97 ∷ 97 ∷ 97 ∷ 97 ∷ 97 ∷ 97 ∷ 97 ∷ 97 ∷ 97 ∷ 97 ∷ 97 ∷ 97 ∷ 97 ∷ 97 ∷ 97 ∷ 97 ∷ 97 ∷ 97 ∷ 97 ∷ 97 ∷ 97 ∷ 97 ∷ 97 ∷ 97 ∷ 97 ∷ 97 ∷ 97 ∷ 97 ∷ 97 ∷ 97 ∷ 97 ∷ 97 ∷ 97 ∷ 97 ∷ 97 ∷ 97 ∷ 97 ∷ 97 ∷ 97 ∷ 97 ∷ 97 ∷ 97 ∷ 97 ∷ 97 ∷ 97 ∷ 97 ∷ 97 ∷ 97 ∷ 97 ∷ 97 ∷ 97 ∷ 97 ∷ 97 ∷ 97 ∷ 97 ∷ 97 ∷ 97 ∷ 97 ∷ 97 ∷ 97 ∷ 97 ∷ 97 ∷ 97 ∷ 97 ∷ 97 ∷ 97 ∷ 97 ∷ 97 ∷ 97 ∷ 97 ∷ 97 ∷ 97 ∷ 97 ∷ 97 ∷ 97 ∷ 97 ∷ 97 ∷ 97 ∷ 97 ∷ 97 ∷ 97 ∷ 97 ∷ 97 ∷ 97 ∷ 97 ∷ 97 ∷ 97 ∷ 97 ∷ 97 ∷ 97 ∷ 97 ∷ 97 ∷ 97 ∷ 97 ∷ 97 ∷ 97 ∷ 97 ∷ 97 ∷ 97 ∷ 97 ∷ 97 ∷ 97 ∷ 97 ∷ 97 ∷ 97 ∷ 97 ∷ 97 ∷ 97 ∷ 97 ∷ 97 ∷ 97 ∷ 97 ∷ 97 ∷ 97 ∷ 97 ∷ 97 ∷ 97 ∷ 97 ∷ 97 ∷ 97 ∷ 97 ∷ 97 ∷ 97 ∷ 97 ∷ 97 ∷ 97 ∷ 97 ∷ 97 ∷ 97 ∷ 97 ∷ 97 ∷ 97 ∷ 97 ∷ 97 ∷ 97 ∷ 97 ∷ 97 ∷ 97 ∷ 97 ∷ 97 ∷ 97 ∷ 97 ∷ 97 ∷ 97 ∷ 97 ∷ 97 ∷ 97 ∷ 97 ∷ 97 ∷ 97 ∷ 97 ∷ 97 ∷ 97 ∷ 97 ∷ 97 ∷ 97 ∷ 97 ∷ 97 ∷ 97 ∷ 97 ∷ 97 ∷ 97 ∷ 97 ∷ 97 ∷ 97 ∷ 97 ∷ 97 ∷ 97 ∷ 97 ∷ 97 ∷ 97 ∷ 97 ∷ 97 ∷ 97 ∷ 97 ∷ 97 ∷ 97 ∷ 97 ∷ 97 ∷ 97 ∷ 97 ∷ 97 ∷ 97 ∷ 97 ∷ 97 ∷ 97 ∷ 97 ∷ 97 ∷ 97 ∷ 97 ∷ 97 ∷ 97 ∷ 97 ∷ 97 ∷ 97 ∷ 97 ∷ 97 ∷ 97 ∷ 97 ∷ 97 ∷ 97 ∷ 97 ∷ 97 ∷ 97 ∷ 97 ∷ 97 ∷ 97 ∷ 97 ∷ 97 ∷ 97 ∷ 97 ∷ 97 ∷ 97 ∷ 97 ∷ 97 ∷ 97 ∷ 97 ∷ 97 ∷ 97 ∷ 97 ∷ 97 ∷ 97 ∷ 97 ∷ 97 ∷ 97 ∷ 97 ∷ 97 ∷ 97 ∷ 97 ∷ 97 ∷ 97 ∷ 97 ∷ 97 ∷ 97 ∷ 97 ∷ 97 ∷ 97 ∷ 97 ∷ 97 ∷ 97 ∷ 97 ∷ 97 ∷ 97 ∷ 97 ∷ 97 ∷ 97 ∷ 97 ∷ 97 ∷ 97 ∷ 97 ∷ 97 ∷ 97 ∷ 97 ∷ 97 ∷ 97 ∷ 97 ∷ 97 ∷ 97 ∷ 97 ∷ 97 ∷ 97 ∷ 97 ∷ 97 ∷ 97 ∷ 97 ∷ 97 ∷ 97 ∷ 97 ∷ 97 ∷ 97 ∷ 97 ∷ 97 ∷ 97 ∷ 97 ∷ 97 ∷ 97 ∷ 97 ∷ 97 ∷ 97 ∷ 97 ∷ 97 ∷ 97 ∷ 97 ∷ 97 ∷ 97 ∷ 97 ∷ 97 ∷ 97 ∷ 97 ∷ 97 ∷ 97 ∷ 97 ∷ 97 ∷ 97 ∷ 97 ∷ 97 ∷ 97 ∷ 97 ∷ 97 ∷ 97 ∷ 97 ∷ 97 ∷ 97 ∷ 97 ∷ 97 ∷ 97 ∷ 97 ∷ 97 ∷ 97 ∷ 97 ∷ 97 ∷ 97 ∷ 97 ∷ 97 ∷ 97 ∷ 97 ∷ 97 ∷ 97 ∷ 97 ∷ 97 ∷ 97 ∷ 97 ∷ 97 ∷ 97 ∷ 97 ∷ 97 ∷ 97 ∷ 10 ∷ 32 ∷ 32 ∷ 97 ∷ 96 ∷ 93 ∷ []) (piece 0 0 1004 0 ∷ []) ≡ (enter Name.Data 1 1 0 0 ∷ exit Name.Data 1 2 1 0 ∷ enter Name.CodeText 1 2 1 0 ∷ exit Name.CodeText 2 5 1003 0 ∷ enter Name.Data 2 5 1003 0 ∷ exit Name.Data 2 6 1004 0 ∷ [])) ×
    -- text outer commonmark definition=`⟦a×995⟧␠a` «[`⟦a×995⟧␍␊a`]»: Link 0-1002
    (text_outline (record default { options = record default_options { commonmark = true }; definitions = (codes "`aaaaaaaaaaaaaaaaaaaaaaaaaaaaaaaaaaaaaaaaaaaaaaaaaaaaaaaaaaaaaaaaaaaaaaaaaaaaaaaaaaaaaaaaaaaaaaaaaaaaaaaaaaaaaaaaaaaaaaaaaaaaaaaaaaaaaaaaaaaaaaaaaaaaaaaaaaaaaaaaaaaaaaaaaaaaaaaaaaaaaaaaaaaaaaaaaaaaaaaaaaaaaaaaaaaaaaaaaaaaaaaaaaaaaaaaaaaaaaaaaaaaaaaaaaaaaaaaaaaaaaaaaaaaaaaaaaaaaaaaaaaaaaaaaaaaaaaaaaaaaaaaaaaaaaaaaaaaaaaaaaaaaaaaaaaaaaaaaaaaaaaaaaaaaaaaaaaaaaaaaaaaaaaaaaaaaaaaaaaaaaaaaaaaaaaaaaaaaaaaaaaaaaaaaaaaaaaaaaaaaaaaaaaaaaaaaaaaaaaaaaaaaaaaaaaaaaaaaaaaaaaaaaaaaaaaaaaaaaaaaaaaaaaaaaaaaaaaaaaaaaaaaaaaaaaaaaaaaaaaaaaaaaaaaaaaaaaaaaaaaaaaaaaaaaaaaaaaaaaaaaaaaaaaaaaaaaaaaaaaaaaaaaaaaaaaaaaaaaaaaaaaaaaaaaaaaaaaaaaaaaaaaaaaaaaaaaaaaaaaaaaaaaaaaaaaaaaaaaaaaaaaaaaaaaaaaaaaaaaaaaaaaaaaaaaaaaaaaaaaaaaaaaaaaaaaaaaaaaaaaaaaaaaaaaaaaaaaaaaaaaaaaaaaaaaaaaaaaaaaaaaaaaaaaaaaaaaaaaaaaaaaaaaaaaaaaaaaaaaaaaaaaaaaaaaaaaaaaaaaaaaaaaaaaaaaaaaaaaaaaaaaaaaaaaaaaaaaaaaaaaaaaaaaaaaaaaaaaaaaaaaaaaaaaaaaaaaaaaaaaaaaaaaaaaaaaaaaaaaaaaaaaaaaaaaaaaaaaaaaaaaaaaaaaaaaaaaaaaaaaaaaaaaaaaaaaaaaaaaaaaaaaaaaaaaaaaa a`") ∷ [] }) (91 ∷ 96 ∷ 97 ∷ 97 ∷ 97 ∷ 97 ∷ 97 ∷ 97 ∷ 97 ∷ 97 ∷ 97 ∷ 97 ∷ 97 ∷ 97 ∷ 97 ∷ 97 ∷ 97 ∷ 97 ∷ 97 ∷ 97 ∷ 97 ∷ 97 ∷ 97 ∷ 97 ∷ 97 ∷ 97 ∷ 97 ∷ 97 ∷ 97 ∷ 97 ∷ 97 ∷ 97 ∷ 97 ∷ 97 ∷ 97 ∷ 97 ∷ 97 ∷ 97 ∷ 97 ∷ 97 ∷ 97 ∷ 97 ∷ 97 ∷ 97 ∷ 97 ∷ 97 ∷ 97 ∷ 97 ∷ 97 ∷ 97 ∷ 97 ∷ 97 ∷ 97 ∷ 97 ∷ 97 ∷ 97 ∷ 97 ∷ 97 ∷ 97 ∷ 97 ∷ 97 ∷ 97 ∷ 97 ∷ 97 ∷ 97 ∷ 97 ∷ 97 ∷ 97 ∷ 97 ∷ 97 ∷ 97 ∷ 97 ∷ 97 ∷ 97 ∷ 97 ∷ 97 ∷ 97 ∷ 97 ∷ 97 ∷ 97 ∷ 97 ∷ 97 ∷ 97 ∷ 97 ∷ 97 ∷ 97 ∷ 97 ∷ 97 ∷ 97 ∷ 97 ∷ 97 ∷ 97 ∷ 97 ∷ 97 ∷ 97 ∷ 97 ∷ 97 ∷ 97 ∷ 97 ∷ 97 ∷ 97 ∷ 97 ∷ 97 ∷ 97 ∷ 97 ∷ 97 ∷ 97 ∷ 97 ∷ 97 ∷ 97 ∷ 97 ∷ 97 ∷ 97 ∷ 97 ∷ 97 ∷ 97 ∷ 97 ∷ 97 ∷ 97 ∷ 97 ∷ 97 ∷ 97 ∷ 97 ∷ 97 ∷ 97 ∷ 97 ∷ 97 ∷ 97 ∷ 97 ∷ 97 ∷ 97 ∷ 97 ∷ 97 ∷ 97 ∷ 97 ∷ 97 ∷ 97 ∷ 97 ∷ 97 ∷ 97 ∷ 97 ∷ 97 ∷ 97 ∷ 97 ∷ 97 ∷ 97 ∷ 97 ∷ 97 ∷ 97 ∷ 97 ∷ 97 ∷ 97 ∷ 97 ∷ 97 ∷ 97 ∷ 97 ∷ 97 ∷ 97 ∷ 97 ∷ 97 ∷ 97 ∷ 97 ∷ 97 ∷ 97 ∷ 97 ∷ 97 ∷ 97 ∷ 97 ∷ 97 ∷ 97 ∷ 97 ∷ 97 ∷ 97 ∷ 97 ∷ 97 ∷ 97 ∷ 97 ∷ 97 ∷ 97 ∷ 97 ∷ 97 ∷ 97 ∷ 97 ∷ 97 ∷ 97 ∷ 97 ∷ 97 ∷ 97 ∷ 97 ∷ 97 ∷ 97 ∷ 97 ∷ 97 ∷ 97 ∷ 97 ∷ 97 ∷ 97 ∷ 97 ∷ 97 ∷ 97 ∷ 97 ∷ 97 ∷ 97 ∷ 97 ∷ 97 ∷ 97 ∷ 97 ∷ 97 ∷ 97 ∷ 97 ∷ 97 ∷ 97 ∷ 97 ∷ 97 ∷ 97 ∷ 97 ∷ 97 ∷ 97 ∷ 97 ∷ 97 ∷ 97 ∷ 97 ∷ 97 ∷ 97 ∷ 97 ∷ 97 ∷ 97 ∷ 97 ∷ 97 ∷ 97 ∷ 97 ∷ 97 ∷ 97 ∷ 97 ∷ 97 ∷ 97 ∷ 97 ∷ 97 ∷ 97 ∷ 97 ∷ 97 ∷ 97 ∷ 97 ∷ 97 ∷ 97 ∷ 97 ∷ 97 ∷ 97 ∷ 97 ∷ 97 ∷ 97 ∷ 97 ∷ 97 ∷ 97 ∷ 97 ∷ 97 ∷ 97 ∷ 97 ∷ 97 ∷ 97 ∷ 97 ∷ 97 ∷ 97 ∷ 97 ∷ 97 ∷ 97 ∷ 97 ∷ 97 ∷ 97 ∷ 97 ∷ 97 ∷ 97 ∷ 97 ∷ 97 ∷ 97 ∷ 97 ∷ 97 ∷ 97 ∷ 97 ∷ 97 ∷ 97 ∷ 97 ∷ 97 ∷ 97 ∷ 97 ∷ 97 ∷ 97 ∷ 97 ∷ 97 ∷ 97 ∷ 97 ∷ 97 ∷ 97 ∷ 97 ∷ 97 ∷ 97 ∷ 97 ∷ 97 ∷ 97 ∷ 97 ∷ 97 ∷ 97 ∷ 97 ∷ 97 ∷ 97 ∷ 97 ∷ 97 ∷ 97 ∷ 97 ∷ 97 ∷ 97 ∷ 97 ∷ 97 ∷ 97 ∷ 97 ∷ 97 ∷ 97 ∷ 97 ∷ 97 ∷ 97 ∷ 97 ∷ 97 ∷ 97 ∷ 97 ∷ 97 ∷ 97 ∷ 97 ∷ 97 ∷ 97 ∷ 97 ∷ 97 ∷ 97 ∷ 97 ∷ 97 ∷ 97 ∷ 97 ∷ 97 ∷ 97 ∷ 97 ∷ 97 ∷ 97 ∷ 97 ∷ 97 ∷ 97 ∷ 97 ∷ 97 ∷ 97 ∷ 97 ∷ 97 ∷ 97 ∷ 97 ∷ 97 ∷ 97 ∷ 97 ∷ 97 ∷ 97 ∷ 97 ∷ 97 ∷ 97 ∷ 97 ∷ 97 ∷ 97 ∷ 97 ∷ 97 ∷ 97 ∷ 97 ∷ 97 ∷ 97 ∷ 97 ∷ 97 ∷ 97 ∷ 97 ∷ 97 ∷ 97 ∷ 97 ∷ 97 ∷ 97 ∷ 97 ∷ 97 ∷ 97 ∷ 97 ∷ 97 ∷ 97 ∷ 97 ∷ 97 ∷ 97 ∷ 97 ∷ 97 ∷ 97 ∷ 97 ∷ 97 ∷ 97 ∷ 97 ∷ 97 ∷ 97 ∷ 97 ∷ 97 ∷ 97 ∷ 97 ∷ 97 ∷ 97 ∷ 97 ∷ 97 ∷ 97 ∷ 97 ∷ 97 ∷ 97 ∷ 97 ∷ 97 ∷ 97 ∷ 97 ∷ 97 ∷ 97 ∷ 97 ∷ 97 ∷ 97 ∷ 97 ∷ 97 ∷ 97 ∷ 97 ∷ 97 ∷ 97 ∷ 97 ∷ 97 ∷ 97 ∷ 97 ∷ 97 ∷ 97 ∷ 97 ∷ 97 ∷ 97 ∷ 97 ∷ 97 ∷ 97 ∷ 97 ∷ 97 ∷ 97 ∷ 97 ∷ 97 ∷ 97 ∷ 97 ∷ 97 ∷ 97 ∷ 97 ∷ 97 ∷ 97 ∷ 97 ∷ 97 ∷ 97 ∷ 97 ∷ 97 ∷ 97 ∷ 97 ∷ 97 ∷ 97 ∷ 97 ∷ 97 ∷ 97 ∷ 97 ∷ 97 ∷ 97 ∷ 97 ∷ 97 ∷ 97 ∷ 97 ∷ 97 ∷ 97 ∷ 97 ∷ 97 ∷ 97 ∷ 97 ∷ 97 ∷ 97 ∷ 97 ∷ 97 ∷ 97 ∷ 97 ∷ 97 ∷ 97 ∷ 97 ∷ 97 ∷ 97 ∷ 97 ∷ 97 ∷ 97 ∷ 97 ∷ 97 ∷ 97 ∷ 97 ∷ 97 ∷ 97 ∷ 97 ∷ 97 ∷ 97 ∷ 97 ∷ 97 ∷ 97 ∷ 97 ∷ 97 ∷ 97 ∷ 97 ∷ 97 ∷ 97 ∷ 97 ∷ 97 ∷ 97 ∷ 97 ∷ 97 ∷ 97 ∷ 97 ∷ 97 ∷ 97 ∷ 97 ∷ 97 ∷ 97 ∷ 97 ∷ 97 ∷ 97 ∷ 97 ∷ 97 ∷ 97 ∷ 97 ∷ 97 ∷ 97 ∷ 97 ∷ 97 ∷ 97 ∷ 97 ∷ 97 ∷ 97 ∷ 97 ∷ 97 ∷ 97 ∷ 97 ∷ 97 ∷ 97 ∷ 97 ∷ 97 ∷ 97 ∷ 97 ∷ 97 ∷ 97 ∷ 97 ∷ 97 ∷ 97 ∷ 97 ∷ 97 ∷ 97 ∷ 97 ∷ 97 ∷ 97 ∷ 97 ∷ 97 ∷ 97 ∷ 97 ∷ 97 ∷ 97 ∷ 97 ∷ 97 ∷ 97 ∷ 97 ∷ 97 ∷ 97 ∷ 97 ∷ 97 ∷ 97 ∷ 97 ∷ 97 ∷ 97 ∷ 97 ∷ 97 ∷ 97 ∷ 97 ∷ 97 ∷ 97 ∷ 97 ∷ 97 ∷ 97 ∷ 97 ∷ 97 ∷ 97 ∷ 97 ∷ 97 ∷ 97 ∷ 97 ∷ 97 ∷ 97 ∷ 97 ∷ 97 ∷ 97 ∷ 97 ∷ 97 ∷ 97 ∷ 97 ∷ 97 ∷ 97 ∷ 97 ∷ 97 ∷ 97 ∷ 97 ∷ 97 ∷ 97 ∷ 97 ∷ 97 ∷ 97 ∷ 97 ∷ 97 ∷ 97 ∷ 97 ∷ 97 ∷ 97 ∷ 97 ∷ 97 ∷ 97 ∷ 97 ∷ 97 ∷ 97 ∷ 97 ∷ 97 ∷ 97 ∷ 97 ∷ 97 ∷ 97 ∷ 97 ∷ 97 ∷ 97 ∷ 97 ∷ 97 ∷ 97 ∷ 97 ∷ 97 ∷ 97 ∷ 97 ∷ 97 ∷ 97 ∷ 97 ∷ 97 ∷ 97 ∷ 97 ∷ 97 ∷ 97 ∷ 97 ∷ 97 ∷ 97 ∷ 97 ∷ 97 ∷ 97 ∷ 97 ∷ 97 ∷ 97 ∷ 97 ∷ 97 ∷ 97 ∷ 97 ∷ 97 ∷ 97 ∷ 97 ∷ 97 ∷ 97 ∷ 97 ∷ 97 ∷ 97 ∷ 97 ∷ 97 ∷ 97 ∷ 97 ∷ 97 ∷ 97 ∷ 97 ∷ 97 ∷ 97 ∷ 97 ∷ 97 ∷ 97 ∷ 97 ∷ 97 ∷ 97 ∷ 97 ∷ 97 ∷ 97 ∷ 97 ∷ 97 ∷ 97 ∷ 97 ∷ 97 ∷ 97 ∷ 97 ∷ 97 ∷ 97 ∷ 97 ∷ 97 ∷ 97 ∷ 97 ∷ 97 ∷ 97 ∷ 97 ∷ 97 ∷ 97 ∷ 97 ∷ 97 ∷ 97 ∷ 97 ∷ 97 ∷ 97 ∷ 97 ∷ 97 ∷ 97 ∷ 97 ∷ 97 ∷ 97 ∷ 97 ∷ 97 ∷ 97 ∷ 97 ∷ 97 ∷ 97 ∷ 97 ∷ 97 ∷ 97 ∷ 97 ∷ 97 ∷ 97 ∷ 97 ∷ 97 ∷ 97 ∷ 97 ∷ 97 ∷ 97 ∷ 97 ∷ 97 ∷ 97 ∷ 97 ∷ 97 ∷ 97 ∷ 97 ∷ 97 ∷ 97 ∷ 97 ∷ 97 ∷ 97 ∷ 97 ∷ 97 ∷ 97 ∷ 97 ∷ 97 ∷ 97 ∷ 97 ∷ 97 ∷ 97 ∷ 97 ∷ 97 ∷ 97 ∷ 97 ∷ 97 ∷ 97 ∷ 97 ∷ 97 ∷ 97 ∷ 97 ∷ 97 ∷ 97 ∷ 97 ∷ 97 ∷ 97 ∷ 97 ∷ 97 ∷ 97 ∷ 97 ∷ 97 ∷ 97 ∷ 97 ∷ 97 ∷ 97 ∷ 97 ∷ 97 ∷ 97 ∷ 97 ∷ 97 ∷ 97 ∷ 97 ∷ 97 ∷ 97 ∷ 97 ∷ 97 ∷ 97 ∷ 97 ∷ 97 ∷ 97 ∷ 97 ∷ 97 ∷ 97 ∷ 97 ∷ 97 ∷ 97 ∷ 97 ∷ 97 ∷ 97 ∷ 97 ∷ 97 ∷ 97 ∷ 97 ∷ 97 ∷ 97 ∷ 97 ∷ 97 ∷ 97 ∷ 97 ∷ 97 ∷ 97 ∷ 97 ∷ 97 ∷ 97 ∷ 97 ∷ 97 ∷ 97 ∷ 97 ∷ 97 ∷ 97 ∷ 97 ∷ 97 ∷ 97 ∷ 97 ∷ 97 ∷ 97 ∷ 97 ∷ 97 ∷ 97 ∷ 97 ∷ 97 ∷ 97 ∷ 97 ∷ 97 ∷ 97 ∷ 97 ∷ 97 ∷ 97 ∷ 97 ∷ 97 ∷ 97 ∷ 97 ∷ 97 ∷ 97 ∷ 97 ∷ 97 ∷ 97 ∷ 97 ∷ 97 ∷ 97 ∷ 97 ∷ 97 ∷ 97 ∷ 97 ∷ 97 ∷ 97 ∷ 97 ∷ 97 ∷ 97 ∷ 97 ∷ 97 ∷ 97 ∷ 97 ∷ 97 ∷ 97 ∷ 97 ∷ 97 ∷ 97 ∷ 97 ∷ 97 ∷ 97 ∷ 97 ∷ 97 ∷ 97 ∷ 97 ∷ 97 ∷ 97 ∷ 97 ∷ 97 ∷ 97 ∷ 97 ∷ 97 ∷ 97 ∷ 97 ∷ 97 ∷ 97 ∷ 97 ∷ 97 ∷ 97 ∷ 97 ∷ 97 ∷ 97 ∷ 97 ∷ 97 ∷ 97 ∷ 97 ∷ 97 ∷ 97 ∷ 97 ∷ 97 ∷ 97 ∷ 97 ∷ 97 ∷ 97 ∷ 97 ∷ 97 ∷ 97 ∷ 97 ∷ 97 ∷ 97 ∷ 97 ∷ 97 ∷ 97 ∷ 97 ∷ 97 ∷ 97 ∷ 97 ∷ 97 ∷ 97 ∷ 97 ∷ 97 ∷ 97 ∷ 97 ∷ 97 ∷ 97 ∷ 97 ∷ 97 ∷ 97 ∷ 97 ∷ 97 ∷ 97 ∷ 97 ∷ 97 ∷ 97 ∷ 97 ∷ 97 ∷ 97 ∷ 97 ∷ 97 ∷ 97 ∷ 97 ∷ 97 ∷ 97 ∷ 97 ∷ 97 ∷ 97 ∷ 97 ∷ 97 ∷ 97 ∷ 97 ∷ 97 ∷ 97 ∷ 97 ∷ 97 ∷ 97 ∷ 97 ∷ 97 ∷ 97 ∷ 97 ∷ 97 ∷ 97 ∷ 97 ∷ 97 ∷ 97 ∷ 97 ∷ 97 ∷ 97 ∷ 97 ∷ 97 ∷ 97 ∷ 97 ∷ 97 ∷ 97 ∷ 97 ∷ 97 ∷ 97 ∷ 97 ∷ 97 ∷ 97 ∷ 97 ∷ 97 ∷ 97 ∷ 97 ∷ 97 ∷ 97 ∷ 97 ∷ 97 ∷ 97 ∷ 97 ∷ 97 ∷ 97 ∷ 97 ∷ 97 ∷ 97 ∷ 97 ∷ 97 ∷ 97 ∷ 97 ∷ 97 ∷ 13 ∷ 10 ∷ 97 ∷ 96 ∷ 93 ∷ []) (piece 0 0 1002 0 ∷ []) ≡ (enter Name.Link 1 1 0 0 ∷ exit Name.Link 2 4 1002 0 ∷ [])) ×
    -- text outer commonmark definition=`⟦a×993⟧␠a␠a` «[`⟦a×993⟧␊a  a`]»: Data 0-1, CodeText 1-1001, Data 1001-1002
    (text_outline (record default { options = record default_options { commonmark = true }; definitions = (codes "`aaaaaaaaaaaaaaaaaaaaaaaaaaaaaaaaaaaaaaaaaaaaaaaaaaaaaaaaaaaaaaaaaaaaaaaaaaaaaaaaaaaaaaaaaaaaaaaaaaaaaaaaaaaaaaaaaaaaaaaaaaaaaaaaaaaaaaaaaaaaaaaaaaaaaaaaaaaaaaaaaaaaaaaaaaaaaaaaaaaaaaaaaaaaaaaaaaaaaaaaaaaaaaaaaaaaaaaaaaaaaaaaaaaaaaaaaaaaaaaaaaaaaaaaaaaaaaaaaaaaaaaaaaaaaaaaaaaaaaaaaaaaaaaaaaaaaaaaaaaaaaaaaaaaaaaaaaaaaaaaaaaaaaaaaaaaaaaaaaaaaaaaaaaaaaaaaaaaaaaaaaaaaaaaaaaaaaaaaaaaaaaaaaaaaaaaaaaaaaaaaaaaaaaaaaaaaaaaaaaaaaaaaaaaaaaaaaaaaaaaaaaaaaaaaaaaaaaaaaaaaaaaaaaaaaaaaaaaaaaaaaaaaaaaaaaaaaaaaaaaaaaaaaaaaaaaaaaaaaaaaaaaaaaaaaaaaaaaaaaaaaaaaaaaaaaaaaaaaaaaaaaaaaaaaaaaaaaaaaaaaaaaaaaaaaaaaaaaaaaaaaaaaaaaaaaaaaaaaaaaaaaaaaaaaaaaaaaaaaaaaaaaaaaaaaaaaaaaaaaaaaaaaaaaaaaaaaaaaaaaaaaaaaaaaaaaaaaaaaaaaaaaaaaaaaaaaaaaaaaaaaaaaaaaaaaaaaaaaaaaaaaaaaaaaaaaaaaaaaaaaaaaaaaaaaaaaaaaaaaaaaaaaaaaaaaaaaaaaaaaaaaaaaaaaaaaaaaaaaaaaaaaaaaaaaaaaaaaaaaaaaaaaaaaaaaaaaaaaaaaaaaaaaaaaaaaaaaaaaaaaaaaaaaaaaaaaaaaaaaaaaaaaaaaaaaaaaaaaaaaaaaaaaaaaaaaaaaaaaaaaaaaaaaaaaaaaaaaaaaaaaaaaaaaaaaaaaaaaaaaaaaaaaaaaaaaa a a`") ∷ [] }) (91 ∷ 96 ∷ 97 ∷ 97 ∷ 97 ∷ 97 ∷ 97 ∷ 97 ∷ 97 ∷ 97 ∷ 97 ∷ 97 ∷ 97 ∷ 97 ∷ 97 ∷ 97 ∷ 97 ∷ 97 ∷ 97 ∷ 97 ∷ 97 ∷ 97 ∷ 97 ∷ 97 ∷ 97 ∷ 97 ∷ 97 ∷ 97 ∷ 97 ∷ 97 ∷ 97 ∷ 97 ∷ 97 ∷ 97 ∷ 97 ∷ 97 ∷ 97 ∷ 97 ∷ 97 ∷ 97 ∷ 97 ∷ 97 ∷ 97 ∷ 97 ∷ 97 ∷ 97 ∷ 97 ∷ 97 ∷ 97 ∷ 97 ∷ 97 ∷ 97 ∷ 97 ∷ 97 ∷ 97 ∷ 97 ∷ 97 ∷ 97 ∷ 97 ∷ 97 ∷ 97 ∷ 97 ∷ 97 ∷ 97 ∷ 97 ∷ 97 ∷ 97 ∷ 97 ∷ 97 ∷ 97 ∷ 97 ∷ 97 ∷ 97 ∷ 97 ∷ 97 ∷ 97 ∷ 97 ∷ 97 ∷ 97 ∷ 97 ∷ 97 ∷ 97 ∷ 97 ∷ 97 ∷ 97 ∷ 97 ∷ 97 ∷ 97 ∷ 97 ∷ 97 ∷ 97 ∷ 97 ∷ 97 ∷ 97 ∷ 97 ∷ 97 ∷ 97 ∷ 97 ∷ 97 ∷ 97 ∷ 97 ∷ 97 ∷ 97 ∷ 97 ∷ 97 ∷ 97 ∷ 97 ∷ 97 ∷ 97 ∷ 97 ∷ 97 ∷ 97 ∷ 97 ∷ 97 ∷ 97 ∷ 97 ∷ 97 ∷ 97 ∷ 97 ∷ 97 ∷ 97 ∷ 97 ∷ 97 ∷ 97 ∷ 97 ∷ 97 ∷ 97 ∷ 97 ∷ 97 ∷ 97 ∷ 97 ∷ 97 ∷ 97 ∷ 97 ∷ 97 ∷ 97 ∷ 97 ∷ 97 ∷ 97 ∷ 97 ∷ 97 ∷ 97 ∷ 97 ∷ 97 ∷ 97 ∷ 97 ∷ 97 ∷ 97 ∷ 97 ∷ 97 ∷ 97 ∷ 97 ∷ 97 ∷ 97 ∷ 97 ∷ 97 ∷ 97 ∷ 97 ∷ 97 ∷ 97 ∷ 97 ∷ 97 ∷ 97 ∷ 97 ∷ 97 ∷ 97 ∷ 97 ∷ 97 ∷ 97 ∷ 97 ∷ 97 ∷ 97 ∷ 97 ∷ 97 ∷ 97 ∷ 97 ∷ 97 ∷ 97 ∷ 97 ∷ 97 ∷ 97 ∷ 97 ∷ 97 ∷ 97 ∷ 97 ∷ 97 ∷ 97 ∷ 97 ∷ 97 ∷ 97 ∷ 97 ∷ 97 ∷ 97 ∷ 97 ∷ 97 ∷ 97 ∷ 97 ∷ 97 ∷ 97 ∷ 97 ∷ 97 ∷ 97 ∷ 97 ∷ 97 ∷ 97 ∷ 97 ∷ 97 ∷ 97 ∷ 97 ∷ 97 ∷ 97 ∷ 97 ∷ 97 ∷ 97 ∷ 97 ∷ 97 ∷ 97 ∷ 97 ∷ 97 ∷ 97 ∷ 97 ∷ 97 ∷ 97 ∷ 97 ∷ 97 ∷ 97 ∷ 97 ∷ 97 ∷ 97 ∷ 97 ∷ 97 ∷ 97 ∷ 97 ∷ 97 ∷ 97 ∷ 97 ∷ 97 ∷ 97 ∷ 97 ∷ 97 ∷ 97 ∷ 97 ∷ 97 ∷ 97 ∷ 97 ∷ 97 ∷ 97 ∷ 97 ∷ 97 ∷ 97 ∷ 97 ∷ 97 ∷ 97 ∷ 97 ∷ 97 ∷ 97 ∷ 97 ∷ 97 ∷ 97 ∷ 97 ∷ 97 ∷ 97 ∷ 97 ∷ 97 ∷ 97 ∷ 97 ∷ 97 ∷ 97 ∷ 97 ∷ 97 ∷ 97 ∷ 97 ∷ 97 ∷ 97 ∷ 97 ∷ 97 ∷ 97 ∷ 97 ∷ 97 ∷ 97 ∷ 97 ∷ 97 ∷ 97 ∷ 97 ∷ 97 ∷ 97 ∷ 97 ∷ 97 ∷ 97 ∷ 97 ∷ 97 ∷ 97 ∷ 97 ∷ 97 ∷ 97 ∷ 97 ∷ 97 ∷ 97 ∷ 97 ∷ 97 ∷ 97 ∷ 97 ∷ 97 ∷ 97 ∷ 97 ∷ 97 ∷ 97 ∷ 97 ∷ 97 ∷ 97 ∷ 97 ∷ 97 ∷ 97 ∷ 97 ∷ 97 ∷ 97 ∷ 97 ∷ 97 ∷ 97 ∷ 97 ∷ 97 ∷ 97 ∷ 97 ∷ 97 ∷ 97 ∷ 97 ∷ 97 ∷ 97 ∷ 97 ∷ 97 ∷ 97 ∷ 97 ∷ 97 ∷ 97 ∷ 97 ∷ 97 ∷ 97 ∷ 97 ∷ 97 ∷ 97 ∷ 97 ∷ 97 ∷ 97 ∷ 97 ∷ 97 ∷ 97 ∷ 97 ∷ 97 ∷ 97 ∷ 97 ∷ 97 ∷ 97 ∷ 97 ∷ 97 ∷ 97 ∷ 97 ∷ 97 ∷ 97 ∷ 97 ∷ 97 ∷ 97 ∷ 97 ∷ 97 ∷ 97 ∷ 97 ∷ 97 ∷ 97 ∷ 97 ∷ 97 ∷ 97 ∷ 97 ∷ 97 ∷ 97 ∷ 97 ∷ 97 ∷ 97 ∷ 97 ∷ 97 ∷ 97 ∷ 97 ∷ 97 ∷ 97 ∷ 97 ∷ 97 ∷ 97 ∷ 97 ∷ 97 ∷ 97 ∷ 97 ∷ 97 ∷ 97 ∷ 97 ∷ 97 ∷ 97 ∷ 97 ∷ 97 ∷ 97 ∷ 97 ∷ 97 ∷ 97 ∷ 97 ∷ 97 ∷ 97 ∷ 97 ∷ 97 ∷ 97 ∷ 97 ∷ 97 ∷ 97 ∷ 97 ∷ 97 ∷ 97 ∷ 97 ∷ 97 ∷ 97 ∷ 97 ∷ 97 ∷ 97 ∷ 97 ∷ 97 ∷ 97 ∷ 97 ∷ 97 ∷ 97 ∷ 97 ∷ 97 ∷ 97 ∷ 97 ∷ 97 ∷ 97 ∷ 97 ∷ 97 ∷ 97 ∷ 97 ∷ 97 ∷ 97 ∷ 97 ∷ 97 ∷ 97 ∷ 97 ∷ 97 ∷ 97 ∷ 97 ∷ 97 ∷ 97 ∷ 97 ∷ 97 ∷ 97 ∷ 97 ∷ 97 ∷ 97 ∷ 97 ∷ 97 ∷ 97 ∷ 97 ∷ 97 ∷ 97 ∷ 97 ∷ 97 ∷ 97 ∷ 97 ∷ 97 ∷ 97 ∷ 97 ∷ 97 ∷ 97 ∷ 97 ∷ 97 ∷ 97 ∷ 97 ∷ 97 ∷ 97 ∷ 97 ∷ 97 ∷ 97 ∷ 97 ∷ 97 ∷ 97 ∷ 97 ∷ 97 ∷ 97 ∷ 97 ∷ 97 ∷ 97 ∷ 97 ∷ 97 ∷ 97 ∷ 97 ∷ 97 ∷ 97 ∷ 97 ∷ 97 ∷ 97 ∷ 97 ∷ 97 ∷ 97 ∷ 97 ∷ 97 ∷ 97 ∷ 97 ∷ 97 ∷ 97 ∷ 97 ∷ 97 ∷ 97 ∷ 97 ∷ 97 ∷ 97 ∷ 97 ∷ 97 ∷ 97 ∷ 97 ∷ 97 ∷ 97 ∷ 97 ∷ 97 ∷ 97 ∷ 97 ∷ 97 ∷ 97 ∷ 97 ∷ 97 ∷ 97 ∷ 97 ∷ 97 ∷ 97 ∷ 97 ∷ 97 ∷ 97 ∷ 97 ∷ 97 ∷ 97 ∷ 97 ∷ 97 ∷ 97 ∷ 97 ∷ 97 ∷ 97 ∷ 97 ∷ 97 ∷ 97 ∷ 97 ∷ 97 ∷ 97 ∷ 97 ∷ 97 ∷ 97 ∷ 97 ∷ 97 ∷ 97 ∷ 97 ∷ 97 ∷ 97 ∷ 97 ∷ 97 ∷ 97 ∷ 97 ∷ 97 ∷ 97 ∷ 97 ∷ 97 ∷ 97 ∷ 97 ∷ 97 ∷ 97 ∷ 97 ∷ 97 ∷ 97 ∷ 97 ∷ 97 ∷ 97 ∷ 97 ∷ 97 ∷ 97 ∷ 97 ∷ 97 ∷ 97 ∷ 97 ∷ 97 ∷ 97 ∷ 97 ∷ 97 ∷ 97 ∷ 97 ∷ 97 ∷ 97 ∷ 97 ∷ 97 ∷ 97 ∷ 97 ∷ 97 ∷ 97 ∷ 97 ∷ 97 ∷ 97 ∷ 97 ∷ 97 ∷ 97 ∷ 97 ∷ 97 ∷ 97 ∷ 97 ∷ 97 ∷ 97 ∷ 97 ∷ 97 ∷ 97 ∷ 97 ∷ 97 ∷ 97 ∷ 97 ∷ 97 ∷ 97 ∷ 97 ∷ 97 ∷ 97 ∷ 97 ∷ 97 ∷ 97 ∷ 97 ∷ 97 ∷ 97 ∷ 97 ∷ 97 ∷ 97 ∷ 97 ∷ 97 ∷ 97 ∷ 97 ∷ 97 ∷ 97 ∷ 97 ∷ 97 ∷ 97 ∷ 97 ∷ 97 ∷ 97 ∷ 97 ∷ 97 ∷ 97 ∷ 97 ∷ 97 ∷ 97 ∷ 97 ∷ 97 ∷ 97 ∷ 97 ∷ 97 ∷ 97 ∷ 97 ∷ 97 ∷ 97 ∷ 97 ∷ 97 ∷ 97 ∷ 97 ∷ 97 ∷ 97 ∷ 97 ∷ 97 ∷ 97 ∷ 97 ∷ 97 ∷ 97 ∷ 97 ∷ 97 ∷ 97 ∷ 97 ∷ 97 ∷ 97 ∷ 97 ∷ 97 ∷ 97 ∷ 97 ∷ 97 ∷ 97 ∷ 97 ∷ 97 ∷ 97 ∷ 97 ∷ 97 ∷ 97 ∷ 97 ∷ 97 ∷ 97 ∷ 97 ∷ 97 ∷ 97 ∷ 97 ∷ 97 ∷ 97 ∷ 97 ∷ 97 ∷ 97 ∷ 97 ∷ 97 ∷ 97 ∷ 97 ∷ 97 ∷ 97 ∷ 97 ∷ 97 ∷ 97 ∷ 97 ∷ 97 ∷ 97 ∷ 97 ∷ 97 ∷ 97 ∷ 97 ∷ 97 ∷ 97 ∷ 97 ∷ 97 ∷ 97 ∷ 97 ∷ 97 ∷ 97 ∷ 97 ∷ 97 ∷ 97 ∷ 97 ∷ 97 ∷ 97 ∷ 97 ∷ 97 ∷ 97 ∷ 97 ∷ 97 ∷ 97 ∷ 97 ∷ 97 ∷ 97 ∷ 97 ∷ 97 ∷ 97 ∷ 97 ∷ 97 ∷ 97 ∷ 97 ∷ 97 ∷ 97 ∷ 97 ∷ 97 ∷ 97 ∷ 97 ∷ 97 ∷ 97 ∷ 97 ∷ 97 ∷ 97 ∷ 97 ∷ 97 ∷ 97 ∷ 97 ∷ 97 ∷ 97 ∷ 97 ∷ 97 ∷ 97 ∷ 97 ∷ 97 ∷ 97 ∷ 97 ∷ 97 ∷ 97 ∷ 97 ∷ 97 ∷ 97 ∷ 97 ∷ 97 ∷ 97 ∷ 97 ∷ 97 ∷ 97 ∷ 97 ∷ 97 ∷ 97 ∷ 97 ∷ 97 ∷ 97 ∷ 97 ∷ 97 ∷ 97 ∷ 97 ∷ 97 ∷ 97 ∷ 97 ∷ 97 ∷ 97 ∷ 97 ∷ 97 ∷ 97 ∷ 97 ∷ 97 ∷ 97 ∷ 97 ∷ 97 ∷ 97 ∷ 97 ∷ 97 ∷ 97 ∷ 97 ∷ 97 ∷ 97 ∷ 97 ∷ 97 ∷ 97 ∷ 97 ∷ 97 ∷ 97 ∷ 97 ∷ 97 ∷ 97 ∷ 97 ∷ 97 ∷ 97 ∷ 97 ∷ 97 ∷ 97 ∷ 97 ∷ 97 ∷ 97 ∷ 97 ∷ 97 ∷ 97 ∷ 97 ∷ 97 ∷ 97 ∷ 97 ∷ 97 ∷ 97 ∷ 97 ∷ 97 ∷ 97 ∷ 97 ∷ 97 ∷ 97 ∷ 97 ∷ 97 ∷ 97 ∷ 97 ∷ 97 ∷ 97 ∷ 97 ∷ 97 ∷ 97 ∷ 97 ∷ 97 ∷ 97 ∷ 97 ∷ 97 ∷ 97 ∷ 97 ∷ 97 ∷ 97 ∷ 97 ∷ 97 ∷ 97 ∷ 97 ∷ 97 ∷ 97 ∷ 97 ∷ 97 ∷ 97 ∷ 97 ∷ 97 ∷ 97 ∷ 97 ∷ 97 ∷ 97 ∷ 97 ∷ 97 ∷ 97 ∷ 97 ∷ 97 ∷ 97 ∷ 97 ∷ 97 ∷ 97 ∷ 97 ∷ 97 ∷ 97 ∷ 97 ∷ 97 ∷ 97 ∷ 97 ∷ 97 ∷ 97 ∷ 97 ∷ 97 ∷ 97 ∷ 97 ∷ 97 ∷ 97 ∷ 97 ∷ 97 ∷ 97 ∷ 97 ∷ 97 ∷ 97 ∷ 97 ∷ 97 ∷ 97 ∷ 97 ∷ 97 ∷ 97 ∷ 97 ∷ 97 ∷ 97 ∷ 97 ∷ 97 ∷ 97 ∷ 97 ∷ 97 ∷ 97 ∷ 97 ∷ 97 ∷ 97 ∷ 97 ∷ 97 ∷ 97 ∷ 97 ∷ 97 ∷ 97 ∷ 97 ∷ 97 ∷ 97 ∷ 97 ∷ 97 ∷ 97 ∷ 97 ∷ 97 ∷ 97 ∷ 97 ∷ 97 ∷ 97 ∷ 97 ∷ 97 ∷ 97 ∷ 97 ∷ 97 ∷ 97 ∷ 97 ∷ 97 ∷ 97 ∷ 97 ∷ 97 ∷ 97 ∷ 97 ∷ 97 ∷ 97 ∷ 97 ∷ 97 ∷ 97 ∷ 97 ∷ 97 ∷ 97 ∷ 97 ∷ 97 ∷ 97 ∷ 97 ∷ 97 ∷ 97 ∷ 97 ∷ 97 ∷ 97 ∷ 97 ∷ 97 ∷ 97 ∷ 97 ∷ 97 ∷ 97 ∷ 97 ∷ 97 ∷ 97 ∷ 97 ∷ 97 ∷ 97 ∷ 97 ∷ 97 ∷ 97 ∷ 97 ∷ 97 ∷ 97 ∷ 97 ∷ 97 ∷ 97 ∷ 97 ∷ 97 ∷ 97 ∷ 97 ∷ 97 ∷ 97 ∷ 97 ∷ 10 ∷ 97 ∷ 32 ∷ 32 ∷ 97 ∷ 96 ∷ 93 ∷ []) (piece 0 0 1002 0 ∷ []) ≡ (enter Name.Data 1 1 0 0 ∷ exit Name.Data 1 2 1 0 ∷ enter Name.CodeText 1 2 1 0 ∷ exit Name.CodeText 2 6 1001 0 ∷ enter Name.Data 2 6 1001 0 ∷ exit Name.Data 2 7 1002 0 ∷ []))

abbrev pub FootnoteSizes : Type 0
FootnoteSizes =
    -- text outer commonmark definition=^`⟦a×996⟧` «[^`⟦a×996⟧`]»: Link 0-1001
    (text_outline (record default { options = record default_options { commonmark = true }; definitions = (codes "^`aaaaaaaaaaaaaaaaaaaaaaaaaaaaaaaaaaaaaaaaaaaaaaaaaaaaaaaaaaaaaaaaaaaaaaaaaaaaaaaaaaaaaaaaaaaaaaaaaaaaaaaaaaaaaaaaaaaaaaaaaaaaaaaaaaaaaaaaaaaaaaaaaaaaaaaaaaaaaaaaaaaaaaaaaaaaaaaaaaaaaaaaaaaaaaaaaaaaaaaaaaaaaaaaaaaaaaaaaaaaaaaaaaaaaaaaaaaaaaaaaaaaaaaaaaaaaaaaaaaaaaaaaaaaaaaaaaaaaaaaaaaaaaaaaaaaaaaaaaaaaaaaaaaaaaaaaaaaaaaaaaaaaaaaaaaaaaaaaaaaaaaaaaaaaaaaaaaaaaaaaaaaaaaaaaaaaaaaaaaaaaaaaaaaaaaaaaaaaaaaaaaaaaaaaaaaaaaaaaaaaaaaaaaaaaaaaaaaaaaaaaaaaaaaaaaaaaaaaaaaaaaaaaaaaaaaaaaaaaaaaaaaaaaaaaaaaaaaaaaaaaaaaaaaaaaaaaaaaaaaaaaaaaaaaaaaaaaaaaaaaaaaaaaaaaaaaaaaaaaaaaaaaaaaaaaaaaaaaaaaaaaaaaaaaaaaaaaaaaaaaaaaaaaaaaaaaaaaaaaaaaaaaaaaaaaaaaaaaaaaaaaaaaaaaaaaaaaaaaaaaaaaaaaaaaaaaaaaaaaaaaaaaaaaaaaaaaaaaaaaaaaaaaaaaaaaaaaaaaaaaaaaaaaaaaaaaaaaaaaaaaaaaaaaaaaaaaaaaaaaaaaaaaaaaaaaaaaaaaaaaaaaaaaaaaaaaaaaaaaaaaaaaaaaaaaaaaaaaaaaaaaaaaaaaaaaaaaaaaaaaaaaaaaaaaaaaaaaaaaaaaaaaaaaaaaaaaaaaaaaaaaaaaaaaaaaaaaaaaaaaaaaaaaaaaaaaaaaaaaaaaaaaaaaaaaaaaaaaaaaaaaaaaaaaaaaaaaaaaaaaaaaaaaaaaaaaaaaaaaaaaaaaaaaaaaaaaaa`") ∷ [] }) (codes "[^`aaaaaaaaaaaaaaaaaaaaaaaaaaaaaaaaaaaaaaaaaaaaaaaaaaaaaaaaaaaaaaaaaaaaaaaaaaaaaaaaaaaaaaaaaaaaaaaaaaaaaaaaaaaaaaaaaaaaaaaaaaaaaaaaaaaaaaaaaaaaaaaaaaaaaaaaaaaaaaaaaaaaaaaaaaaaaaaaaaaaaaaaaaaaaaaaaaaaaaaaaaaaaaaaaaaaaaaaaaaaaaaaaaaaaaaaaaaaaaaaaaaaaaaaaaaaaaaaaaaaaaaaaaaaaaaaaaaaaaaaaaaaaaaaaaaaaaaaaaaaaaaaaaaaaaaaaaaaaaaaaaaaaaaaaaaaaaaaaaaaaaaaaaaaaaaaaaaaaaaaaaaaaaaaaaaaaaaaaaaaaaaaaaaaaaaaaaaaaaaaaaaaaaaaaaaaaaaaaaaaaaaaaaaaaaaaaaaaaaaaaaaaaaaaaaaaaaaaaaaaaaaaaaaaaaaaaaaaaaaaaaaaaaaaaaaaaaaaaaaaaaaaaaaaaaaaaaaaaaaaaaaaaaaaaaaaaaaaaaaaaaaaaaaaaaaaaaaaaaaaaaaaaaaaaaaaaaaaaaaaaaaaaaaaaaaaaaaaaaaaaaaaaaaaaaaaaaaaaaaaaaaaaaaaaaaaaaaaaaaaaaaaaaaaaaaaaaaaaaaaaaaaaaaaaaaaaaaaaaaaaaaaaaaaaaaaaaaaaaaaaaaaaaaaaaaaaaaaaaaaaaaaaaaaaaaaaaaaaaaaaaaaaaaaaaaaaaaaaaaaaaaaaaaaaaaaaaaaaaaaaaaaaaaaaaaaaaaaaaaaaaaaaaaaaaaaaaaaaaaaaaaaaaaaaaaaaaaaaaaaaaaaaaaaaaaaaaaaaaaaaaaaaaaaaaaaaaaaaaaaaaaaaaaaaaaaaaaaaaaaaaaaaaaaaaaaaaaaaaaaaaaaaaaaaaaaaaaaaaaaaaaaaaaaaaaaaaaaaaaaaaaaaaaaaaaaaaaaaaaaaaaaaaaaaaaaaaaa`]") (piece 0 0 1001 0 ∷ []) ≡ (enter Name.Link 1 1 0 0 ∷ exit Name.Link 1 1002 1001 0 ∷ [])) ×
    -- text outer commonmark definition=^`⟦a×997⟧` «[^`⟦a×997⟧`]»: Data 0-2, CodeText 2-1001, Data 1001-1002
    (text_outline (record default { options = record default_options { commonmark = true }; definitions = (codes "^`aaaaaaaaaaaaaaaaaaaaaaaaaaaaaaaaaaaaaaaaaaaaaaaaaaaaaaaaaaaaaaaaaaaaaaaaaaaaaaaaaaaaaaaaaaaaaaaaaaaaaaaaaaaaaaaaaaaaaaaaaaaaaaaaaaaaaaaaaaaaaaaaaaaaaaaaaaaaaaaaaaaaaaaaaaaaaaaaaaaaaaaaaaaaaaaaaaaaaaaaaaaaaaaaaaaaaaaaaaaaaaaaaaaaaaaaaaaaaaaaaaaaaaaaaaaaaaaaaaaaaaaaaaaaaaaaaaaaaaaaaaaaaaaaaaaaaaaaaaaaaaaaaaaaaaaaaaaaaaaaaaaaaaaaaaaaaaaaaaaaaaaaaaaaaaaaaaaaaaaaaaaaaaaaaaaaaaaaaaaaaaaaaaaaaaaaaaaaaaaaaaaaaaaaaaaaaaaaaaaaaaaaaaaaaaaaaaaaaaaaaaaaaaaaaaaaaaaaaaaaaaaaaaaaaaaaaaaaaaaaaaaaaaaaaaaaaaaaaaaaaaaaaaaaaaaaaaaaaaaaaaaaaaaaaaaaaaaaaaaaaaaaaaaaaaaaaaaaaaaaaaaaaaaaaaaaaaaaaaaaaaaaaaaaaaaaaaaaaaaaaaaaaaaaaaaaaaaaaaaaaaaaaaaaaaaaaaaaaaaaaaaaaaaaaaaaaaaaaaaaaaaaaaaaaaaaaaaaaaaaaaaaaaaaaaaaaaaaaaaaaaaaaaaaaaaaaaaaaaaaaaaaaaaaaaaaaaaaaaaaaaaaaaaaaaaaaaaaaaaaaaaaaaaaaaaaaaaaaaaaaaaaaaaaaaaaaaaaaaaaaaaaaaaaaaaaaaaaaaaaaaaaaaaaaaaaaaaaaaaaaaaaaaaaaaaaaaaaaaaaaaaaaaaaaaaaaaaaaaaaaaaaaaaaaaaaaaaaaaaaaaaaaaaaaaaaaaaaaaaaaaaaaaaaaaaaaaaaaaaaaaaaaaaaaaaaaaaaaaaaaaaaaaaaaaaaaaaaaaaaaaaaaaaaaaaaaaaaa`") ∷ [] }) (codes "[^`aaaaaaaaaaaaaaaaaaaaaaaaaaaaaaaaaaaaaaaaaaaaaaaaaaaaaaaaaaaaaaaaaaaaaaaaaaaaaaaaaaaaaaaaaaaaaaaaaaaaaaaaaaaaaaaaaaaaaaaaaaaaaaaaaaaaaaaaaaaaaaaaaaaaaaaaaaaaaaaaaaaaaaaaaaaaaaaaaaaaaaaaaaaaaaaaaaaaaaaaaaaaaaaaaaaaaaaaaaaaaaaaaaaaaaaaaaaaaaaaaaaaaaaaaaaaaaaaaaaaaaaaaaaaaaaaaaaaaaaaaaaaaaaaaaaaaaaaaaaaaaaaaaaaaaaaaaaaaaaaaaaaaaaaaaaaaaaaaaaaaaaaaaaaaaaaaaaaaaaaaaaaaaaaaaaaaaaaaaaaaaaaaaaaaaaaaaaaaaaaaaaaaaaaaaaaaaaaaaaaaaaaaaaaaaaaaaaaaaaaaaaaaaaaaaaaaaaaaaaaaaaaaaaaaaaaaaaaaaaaaaaaaaaaaaaaaaaaaaaaaaaaaaaaaaaaaaaaaaaaaaaaaaaaaaaaaaaaaaaaaaaaaaaaaaaaaaaaaaaaaaaaaaaaaaaaaaaaaaaaaaaaaaaaaaaaaaaaaaaaaaaaaaaaaaaaaaaaaaaaaaaaaaaaaaaaaaaaaaaaaaaaaaaaaaaaaaaaaaaaaaaaaaaaaaaaaaaaaaaaaaaaaaaaaaaaaaaaaaaaaaaaaaaaaaaaaaaaaaaaaaaaaaaaaaaaaaaaaaaaaaaaaaaaaaaaaaaaaaaaaaaaaaaaaaaaaaaaaaaaaaaaaaaaaaaaaaaaaaaaaaaaaaaaaaaaaaaaaaaaaaaaaaaaaaaaaaaaaaaaaaaaaaaaaaaaaaaaaaaaaaaaaaaaaaaaaaaaaaaaaaaaaaaaaaaaaaaaaaaaaaaaaaaaaaaaaaaaaaaaaaaaaaaaaaaaaaaaaaaaaaaaaaaaaaaaaaaaaaaaaaaaaaaaaaaaaaaaaaaaaaaaaaaaaaaaaaaaa`]") (piece 0 0 1002 0 ∷ []) ≡ (enter Name.Data 1 1 0 0 ∷ exit Name.Data 1 3 2 0 ∷ enter Name.CodeText 1 3 2 0 ∷ exit Name.CodeText 1 1002 1001 0 ∷ enter Name.Data 1 1002 1001 0 ∷ exit Name.Data 1 1003 1002 0 ∷ [])) ×
    -- text outer gfm commonmark definition=^`⟦a×996⟧` «[^`⟦a×996⟧`]»: Link 0-1001
    (text_outline (record default { options = record default_options { constructs = record default_constructs { gfm_autolink_literal = true; gfm_label_start_footnote = true; gfm_strikethrough = true; gfm_task_list_item = true }; commonmark = true }; definitions = (codes "^`aaaaaaaaaaaaaaaaaaaaaaaaaaaaaaaaaaaaaaaaaaaaaaaaaaaaaaaaaaaaaaaaaaaaaaaaaaaaaaaaaaaaaaaaaaaaaaaaaaaaaaaaaaaaaaaaaaaaaaaaaaaaaaaaaaaaaaaaaaaaaaaaaaaaaaaaaaaaaaaaaaaaaaaaaaaaaaaaaaaaaaaaaaaaaaaaaaaaaaaaaaaaaaaaaaaaaaaaaaaaaaaaaaaaaaaaaaaaaaaaaaaaaaaaaaaaaaaaaaaaaaaaaaaaaaaaaaaaaaaaaaaaaaaaaaaaaaaaaaaaaaaaaaaaaaaaaaaaaaaaaaaaaaaaaaaaaaaaaaaaaaaaaaaaaaaaaaaaaaaaaaaaaaaaaaaaaaaaaaaaaaaaaaaaaaaaaaaaaaaaaaaaaaaaaaaaaaaaaaaaaaaaaaaaaaaaaaaaaaaaaaaaaaaaaaaaaaaaaaaaaaaaaaaaaaaaaaaaaaaaaaaaaaaaaaaaaaaaaaaaaaaaaaaaaaaaaaaaaaaaaaaaaaaaaaaaaaaaaaaaaaaaaaaaaaaaaaaaaaaaaaaaaaaaaaaaaaaaaaaaaaaaaaaaaaaaaaaaaaaaaaaaaaaaaaaaaaaaaaaaaaaaaaaaaaaaaaaaaaaaaaaaaaaaaaaaaaaaaaaaaaaaaaaaaaaaaaaaaaaaaaaaaaaaaaaaaaaaaaaaaaaaaaaaaaaaaaaaaaaaaaaaaaaaaaaaaaaaaaaaaaaaaaaaaaaaaaaaaaaaaaaaaaaaaaaaaaaaaaaaaaaaaaaaaaaaaaaaaaaaaaaaaaaaaaaaaaaaaaaaaaaaaaaaaaaaaaaaaaaaaaaaaaaaaaaaaaaaaaaaaaaaaaaaaaaaaaaaaaaaaaaaaaaaaaaaaaaaaaaaaaaaaaaaaaaaaaaaaaaaaaaaaaaaaaaaaaaaaaaaaaaaaaaaaaaaaaaaaaaaaaaaaaaaaaaaaaaaaaaaaaaaaaaaaaaaaaaa`") ∷ [] }) (codes "[^`aaaaaaaaaaaaaaaaaaaaaaaaaaaaaaaaaaaaaaaaaaaaaaaaaaaaaaaaaaaaaaaaaaaaaaaaaaaaaaaaaaaaaaaaaaaaaaaaaaaaaaaaaaaaaaaaaaaaaaaaaaaaaaaaaaaaaaaaaaaaaaaaaaaaaaaaaaaaaaaaaaaaaaaaaaaaaaaaaaaaaaaaaaaaaaaaaaaaaaaaaaaaaaaaaaaaaaaaaaaaaaaaaaaaaaaaaaaaaaaaaaaaaaaaaaaaaaaaaaaaaaaaaaaaaaaaaaaaaaaaaaaaaaaaaaaaaaaaaaaaaaaaaaaaaaaaaaaaaaaaaaaaaaaaaaaaaaaaaaaaaaaaaaaaaaaaaaaaaaaaaaaaaaaaaaaaaaaaaaaaaaaaaaaaaaaaaaaaaaaaaaaaaaaaaaaaaaaaaaaaaaaaaaaaaaaaaaaaaaaaaaaaaaaaaaaaaaaaaaaaaaaaaaaaaaaaaaaaaaaaaaaaaaaaaaaaaaaaaaaaaaaaaaaaaaaaaaaaaaaaaaaaaaaaaaaaaaaaaaaaaaaaaaaaaaaaaaaaaaaaaaaaaaaaaaaaaaaaaaaaaaaaaaaaaaaaaaaaaaaaaaaaaaaaaaaaaaaaaaaaaaaaaaaaaaaaaaaaaaaaaaaaaaaaaaaaaaaaaaaaaaaaaaaaaaaaaaaaaaaaaaaaaaaaaaaaaaaaaaaaaaaaaaaaaaaaaaaaaaaaaaaaaaaaaaaaaaaaaaaaaaaaaaaaaaaaaaaaaaaaaaaaaaaaaaaaaaaaaaaaaaaaaaaaaaaaaaaaaaaaaaaaaaaaaaaaaaaaaaaaaaaaaaaaaaaaaaaaaaaaaaaaaaaaaaaaaaaaaaaaaaaaaaaaaaaaaaaaaaaaaaaaaaaaaaaaaaaaaaaaaaaaaaaaaaaaaaaaaaaaaaaaaaaaaaaaaaaaaaaaaaaaaaaaaaaaaaaaaaaaaaaaaaaaaaaaaaaaaaaaaaaaaaaaaaaaaaaa`]") (piece 0 0 1001 0 ∷ []) ≡ (enter Name.Link 1 1 0 0 ∷ exit Name.Link 1 1002 1001 0 ∷ [])) ×
    -- text outer gfm commonmark definition=^`⟦a×997⟧` «[^`⟦a×997⟧`]»: Data 0-2, CodeText 2-1001, Data 1001-1002
    (text_outline (record default { options = record default_options { constructs = record default_constructs { gfm_autolink_literal = true; gfm_label_start_footnote = true; gfm_strikethrough = true; gfm_task_list_item = true }; commonmark = true }; definitions = (codes "^`aaaaaaaaaaaaaaaaaaaaaaaaaaaaaaaaaaaaaaaaaaaaaaaaaaaaaaaaaaaaaaaaaaaaaaaaaaaaaaaaaaaaaaaaaaaaaaaaaaaaaaaaaaaaaaaaaaaaaaaaaaaaaaaaaaaaaaaaaaaaaaaaaaaaaaaaaaaaaaaaaaaaaaaaaaaaaaaaaaaaaaaaaaaaaaaaaaaaaaaaaaaaaaaaaaaaaaaaaaaaaaaaaaaaaaaaaaaaaaaaaaaaaaaaaaaaaaaaaaaaaaaaaaaaaaaaaaaaaaaaaaaaaaaaaaaaaaaaaaaaaaaaaaaaaaaaaaaaaaaaaaaaaaaaaaaaaaaaaaaaaaaaaaaaaaaaaaaaaaaaaaaaaaaaaaaaaaaaaaaaaaaaaaaaaaaaaaaaaaaaaaaaaaaaaaaaaaaaaaaaaaaaaaaaaaaaaaaaaaaaaaaaaaaaaaaaaaaaaaaaaaaaaaaaaaaaaaaaaaaaaaaaaaaaaaaaaaaaaaaaaaaaaaaaaaaaaaaaaaaaaaaaaaaaaaaaaaaaaaaaaaaaaaaaaaaaaaaaaaaaaaaaaaaaaaaaaaaaaaaaaaaaaaaaaaaaaaaaaaaaaaaaaaaaaaaaaaaaaaaaaaaaaaaaaaaaaaaaaaaaaaaaaaaaaaaaaaaaaaaaaaaaaaaaaaaaaaaaaaaaaaaaaaaaaaaaaaaaaaaaaaaaaaaaaaaaaaaaaaaaaaaaaaaaaaaaaaaaaaaaaaaaaaaaaaaaaaaaaaaaaaaaaaaaaaaaaaaaaaaaaaaaaaaaaaaaaaaaaaaaaaaaaaaaaaaaaaaaaaaaaaaaaaaaaaaaaaaaaaaaaaaaaaaaaaaaaaaaaaaaaaaaaaaaaaaaaaaaaaaaaaaaaaaaaaaaaaaaaaaaaaaaaaaaaaaaaaaaaaaaaaaaaaaaaaaaaaaaaaaaaaaaaaaaaaaaaaaaaaaaaaaaaaaaaaaaaaaaaaaaaaaaaaaaaaaaaaaaa`") ∷ [] }) (codes "[^`aaaaaaaaaaaaaaaaaaaaaaaaaaaaaaaaaaaaaaaaaaaaaaaaaaaaaaaaaaaaaaaaaaaaaaaaaaaaaaaaaaaaaaaaaaaaaaaaaaaaaaaaaaaaaaaaaaaaaaaaaaaaaaaaaaaaaaaaaaaaaaaaaaaaaaaaaaaaaaaaaaaaaaaaaaaaaaaaaaaaaaaaaaaaaaaaaaaaaaaaaaaaaaaaaaaaaaaaaaaaaaaaaaaaaaaaaaaaaaaaaaaaaaaaaaaaaaaaaaaaaaaaaaaaaaaaaaaaaaaaaaaaaaaaaaaaaaaaaaaaaaaaaaaaaaaaaaaaaaaaaaaaaaaaaaaaaaaaaaaaaaaaaaaaaaaaaaaaaaaaaaaaaaaaaaaaaaaaaaaaaaaaaaaaaaaaaaaaaaaaaaaaaaaaaaaaaaaaaaaaaaaaaaaaaaaaaaaaaaaaaaaaaaaaaaaaaaaaaaaaaaaaaaaaaaaaaaaaaaaaaaaaaaaaaaaaaaaaaaaaaaaaaaaaaaaaaaaaaaaaaaaaaaaaaaaaaaaaaaaaaaaaaaaaaaaaaaaaaaaaaaaaaaaaaaaaaaaaaaaaaaaaaaaaaaaaaaaaaaaaaaaaaaaaaaaaaaaaaaaaaaaaaaaaaaaaaaaaaaaaaaaaaaaaaaaaaaaaaaaaaaaaaaaaaaaaaaaaaaaaaaaaaaaaaaaaaaaaaaaaaaaaaaaaaaaaaaaaaaaaaaaaaaaaaaaaaaaaaaaaaaaaaaaaaaaaaaaaaaaaaaaaaaaaaaaaaaaaaaaaaaaaaaaaaaaaaaaaaaaaaaaaaaaaaaaaaaaaaaaaaaaaaaaaaaaaaaaaaaaaaaaaaaaaaaaaaaaaaaaaaaaaaaaaaaaaaaaaaaaaaaaaaaaaaaaaaaaaaaaaaaaaaaaaaaaaaaaaaaaaaaaaaaaaaaaaaaaaaaaaaaaaaaaaaaaaaaaaaaaaaaaaaaaaaaaaaaaaaaaaaaaaaaaaaaaaaaaaa`]") (piece 0 0 1002 0 ∷ []) ≡ (enter Name.Data 1 1 0 0 ∷ exit Name.Data 1 3 2 0 ∷ enter Name.CodeText 1 3 2 0 ∷ exit Name.CodeText 1 1002 1001 0 ∷ enter Name.Data 1 1002 1001 0 ∷ exit Name.Data 1 1003 1002 0 ∷ [])) ×
    -- text outer gfm commonmark footnote=`⟦a×996⟧` «[^`⟦a×996⟧`]»: GfmFootnoteCall 0-1001
    (text_outline (record default { options = record default_options { constructs = record default_constructs { gfm_autolink_literal = true; gfm_label_start_footnote = true; gfm_strikethrough = true; gfm_task_list_item = true }; commonmark = true }; footnotes = (codes "`aaaaaaaaaaaaaaaaaaaaaaaaaaaaaaaaaaaaaaaaaaaaaaaaaaaaaaaaaaaaaaaaaaaaaaaaaaaaaaaaaaaaaaaaaaaaaaaaaaaaaaaaaaaaaaaaaaaaaaaaaaaaaaaaaaaaaaaaaaaaaaaaaaaaaaaaaaaaaaaaaaaaaaaaaaaaaaaaaaaaaaaaaaaaaaaaaaaaaaaaaaaaaaaaaaaaaaaaaaaaaaaaaaaaaaaaaaaaaaaaaaaaaaaaaaaaaaaaaaaaaaaaaaaaaaaaaaaaaaaaaaaaaaaaaaaaaaaaaaaaaaaaaaaaaaaaaaaaaaaaaaaaaaaaaaaaaaaaaaaaaaaaaaaaaaaaaaaaaaaaaaaaaaaaaaaaaaaaaaaaaaaaaaaaaaaaaaaaaaaaaaaaaaaaaaaaaaaaaaaaaaaaaaaaaaaaaaaaaaaaaaaaaaaaaaaaaaaaaaaaaaaaaaaaaaaaaaaaaaaaaaaaaaaaaaaaaaaaaaaaaaaaaaaaaaaaaaaaaaaaaaaaaaaaaaaaaaaaaaaaaaaaaaaaaaaaaaaaaaaaaaaaaaaaaaaaaaaaaaaaaaaaaaaaaaaaaaaaaaaaaaaaaaaaaaaaaaaaaaaaaaaaaaaaaaaaaaaaaaaaaaaaaaaaaaaaaaaaaaaaaaaaaaaaaaaaaaaaaaaaaaaaaaaaaaaaaaaaaaaaaaaaaaaaaaaaaaaaaaaaaaaaaaaaaaaaaaaaaaaaaaaaaaaaaaaaaaaaaaaaaaaaaaaaaaaaaaaaaaaaaaaaaaaaaaaaaaaaaaaaaaaaaaaaaaaaaaaaaaaaaaaaaaaaaaaaaaaaaaaaaaaaaaaaaaaaaaaaaaaaaaaaaaaaaaaaaaaaaaaaaaaaaaaaaaaaaaaaaaaaaaaaaaaaaaaaaaaaaaaaaaaaaaaaaaaaaaaaaaaaaaaaaaaaaaaaaaaaaaaaaaaaaaaaaaaaaaaaaaaaaaaaaaaaaaaaaaaa`") ∷ [] }) (codes "[^`aaaaaaaaaaaaaaaaaaaaaaaaaaaaaaaaaaaaaaaaaaaaaaaaaaaaaaaaaaaaaaaaaaaaaaaaaaaaaaaaaaaaaaaaaaaaaaaaaaaaaaaaaaaaaaaaaaaaaaaaaaaaaaaaaaaaaaaaaaaaaaaaaaaaaaaaaaaaaaaaaaaaaaaaaaaaaaaaaaaaaaaaaaaaaaaaaaaaaaaaaaaaaaaaaaaaaaaaaaaaaaaaaaaaaaaaaaaaaaaaaaaaaaaaaaaaaaaaaaaaaaaaaaaaaaaaaaaaaaaaaaaaaaaaaaaaaaaaaaaaaaaaaaaaaaaaaaaaaaaaaaaaaaaaaaaaaaaaaaaaaaaaaaaaaaaaaaaaaaaaaaaaaaaaaaaaaaaaaaaaaaaaaaaaaaaaaaaaaaaaaaaaaaaaaaaaaaaaaaaaaaaaaaaaaaaaaaaaaaaaaaaaaaaaaaaaaaaaaaaaaaaaaaaaaaaaaaaaaaaaaaaaaaaaaaaaaaaaaaaaaaaaaaaaaaaaaaaaaaaaaaaaaaaaaaaaaaaaaaaaaaaaaaaaaaaaaaaaaaaaaaaaaaaaaaaaaaaaaaaaaaaaaaaaaaaaaaaaaaaaaaaaaaaaaaaaaaaaaaaaaaaaaaaaaaaaaaaaaaaaaaaaaaaaaaaaaaaaaaaaaaaaaaaaaaaaaaaaaaaaaaaaaaaaaaaaaaaaaaaaaaaaaaaaaaaaaaaaaaaaaaaaaaaaaaaaaaaaaaaaaaaaaaaaaaaaaaaaaaaaaaaaaaaaaaaaaaaaaaaaaaaaaaaaaaaaaaaaaaaaaaaaaaaaaaaaaaaaaaaaaaaaaaaaaaaaaaaaaaaaaaaaaaaaaaaaaaaaaaaaaaaaaaaaaaaaaaaaaaaaaaaaaaaaaaaaaaaaaaaaaaaaaaaaaaaaaaaaaaaaaaaaaaaaaaaaaaaaaaaaaaaaaaaaaaaaaaaaaaaaaaaaaaaaaaaaaaaaaaaaaaaaaaaaaaaaaaaa`]") (piece 0 0 1001 0 ∷ []) ≡ (enter Name.GfmFootnoteCall 1 1 0 0 ∷ exit Name.GfmFootnoteCall 1 1002 1001 0 ∷ [])) ×
    -- text outer gfm commonmark footnote=`⟦a×997⟧` «[^`⟦a×997⟧`]»: Data 0-2, CodeText 2-1001, Data 1001-1002
    (text_outline (record default { options = record default_options { constructs = record default_constructs { gfm_autolink_literal = true; gfm_label_start_footnote = true; gfm_strikethrough = true; gfm_task_list_item = true }; commonmark = true }; footnotes = (codes "`aaaaaaaaaaaaaaaaaaaaaaaaaaaaaaaaaaaaaaaaaaaaaaaaaaaaaaaaaaaaaaaaaaaaaaaaaaaaaaaaaaaaaaaaaaaaaaaaaaaaaaaaaaaaaaaaaaaaaaaaaaaaaaaaaaaaaaaaaaaaaaaaaaaaaaaaaaaaaaaaaaaaaaaaaaaaaaaaaaaaaaaaaaaaaaaaaaaaaaaaaaaaaaaaaaaaaaaaaaaaaaaaaaaaaaaaaaaaaaaaaaaaaaaaaaaaaaaaaaaaaaaaaaaaaaaaaaaaaaaaaaaaaaaaaaaaaaaaaaaaaaaaaaaaaaaaaaaaaaaaaaaaaaaaaaaaaaaaaaaaaaaaaaaaaaaaaaaaaaaaaaaaaaaaaaaaaaaaaaaaaaaaaaaaaaaaaaaaaaaaaaaaaaaaaaaaaaaaaaaaaaaaaaaaaaaaaaaaaaaaaaaaaaaaaaaaaaaaaaaaaaaaaaaaaaaaaaaaaaaaaaaaaaaaaaaaaaaaaaaaaaaaaaaaaaaaaaaaaaaaaaaaaaaaaaaaaaaaaaaaaaaaaaaaaaaaaaaaaaaaaaaaaaaaaaaaaaaaaaaaaaaaaaaaaaaaaaaaaaaaaaaaaaaaaaaaaaaaaaaaaaaaaaaaaaaaaaaaaaaaaaaaaaaaaaaaaaaaaaaaaaaaaaaaaaaaaaaaaaaaaaaaaaaaaaaaaaaaaaaaaaaaaaaaaaaaaaaaaaaaaaaaaaaaaaaaaaaaaaaaaaaaaaaaaaaaaaaaaaaaaaaaaaaaaaaaaaaaaaaaaaaaaaaaaaaaaaaaaaaaaaaaaaaaaaaaaaaaaaaaaaaaaaaaaaaaaaaaaaaaaaaaaaaaaaaaaaaaaaaaaaaaaaaaaaaaaaaaaaaaaaaaaaaaaaaaaaaaaaaaaaaaaaaaaaaaaaaaaaaaaaaaaaaaaaaaaaaaaaaaaaaaaaaaaaaaaaaaaaaaaaaaaaaaaaaaaaaaaaaaaaaaaaaaaaaaaaaaa`") ∷ [] }) (codes "[^`aaaaaaaaaaaaaaaaaaaaaaaaaaaaaaaaaaaaaaaaaaaaaaaaaaaaaaaaaaaaaaaaaaaaaaaaaaaaaaaaaaaaaaaaaaaaaaaaaaaaaaaaaaaaaaaaaaaaaaaaaaaaaaaaaaaaaaaaaaaaaaaaaaaaaaaaaaaaaaaaaaaaaaaaaaaaaaaaaaaaaaaaaaaaaaaaaaaaaaaaaaaaaaaaaaaaaaaaaaaaaaaaaaaaaaaaaaaaaaaaaaaaaaaaaaaaaaaaaaaaaaaaaaaaaaaaaaaaaaaaaaaaaaaaaaaaaaaaaaaaaaaaaaaaaaaaaaaaaaaaaaaaaaaaaaaaaaaaaaaaaaaaaaaaaaaaaaaaaaaaaaaaaaaaaaaaaaaaaaaaaaaaaaaaaaaaaaaaaaaaaaaaaaaaaaaaaaaaaaaaaaaaaaaaaaaaaaaaaaaaaaaaaaaaaaaaaaaaaaaaaaaaaaaaaaaaaaaaaaaaaaaaaaaaaaaaaaaaaaaaaaaaaaaaaaaaaaaaaaaaaaaaaaaaaaaaaaaaaaaaaaaaaaaaaaaaaaaaaaaaaaaaaaaaaaaaaaaaaaaaaaaaaaaaaaaaaaaaaaaaaaaaaaaaaaaaaaaaaaaaaaaaaaaaaaaaaaaaaaaaaaaaaaaaaaaaaaaaaaaaaaaaaaaaaaaaaaaaaaaaaaaaaaaaaaaaaaaaaaaaaaaaaaaaaaaaaaaaaaaaaaaaaaaaaaaaaaaaaaaaaaaaaaaaaaaaaaaaaaaaaaaaaaaaaaaaaaaaaaaaaaaaaaaaaaaaaaaaaaaaaaaaaaaaaaaaaaaaaaaaaaaaaaaaaaaaaaaaaaaaaaaaaaaaaaaaaaaaaaaaaaaaaaaaaaaaaaaaaaaaaaaaaaaaaaaaaaaaaaaaaaaaaaaaaaaaaaaaaaaaaaaaaaaaaaaaaaaaaaaaaaaaaaaaaaaaaaaaaaaaaaaaaaaaaaaaaaaaaaaaaaaaaaaaaaaaaaaaa`]") (piece 0 0 1002 0 ∷ []) ≡ (enter Name.Data 1 1 0 0 ∷ exit Name.Data 1 3 2 0 ∷ enter Name.CodeText 1 3 2 0 ∷ exit Name.CodeText 1 1002 1001 0 ∷ enter Name.Data 1 1002 1001 0 ∷ exit Name.Data 1 1003 1002 0 ∷ [])) ×
    -- text outer gfm footnote=`⟦a×997⟧` «[^`⟦a×997⟧`]»: GfmFootnoteCall 0-1002
    (text_outline (record default { options = record default_options { constructs = record default_constructs { gfm_autolink_literal = true; gfm_label_start_footnote = true; gfm_strikethrough = true; gfm_task_list_item = true } }; footnotes = (codes "`aaaaaaaaaaaaaaaaaaaaaaaaaaaaaaaaaaaaaaaaaaaaaaaaaaaaaaaaaaaaaaaaaaaaaaaaaaaaaaaaaaaaaaaaaaaaaaaaaaaaaaaaaaaaaaaaaaaaaaaaaaaaaaaaaaaaaaaaaaaaaaaaaaaaaaaaaaaaaaaaaaaaaaaaaaaaaaaaaaaaaaaaaaaaaaaaaaaaaaaaaaaaaaaaaaaaaaaaaaaaaaaaaaaaaaaaaaaaaaaaaaaaaaaaaaaaaaaaaaaaaaaaaaaaaaaaaaaaaaaaaaaaaaaaaaaaaaaaaaaaaaaaaaaaaaaaaaaaaaaaaaaaaaaaaaaaaaaaaaaaaaaaaaaaaaaaaaaaaaaaaaaaaaaaaaaaaaaaaaaaaaaaaaaaaaaaaaaaaaaaaaaaaaaaaaaaaaaaaaaaaaaaaaaaaaaaaaaaaaaaaaaaaaaaaaaaaaaaaaaaaaaaaaaaaaaaaaaaaaaaaaaaaaaaaaaaaaaaaaaaaaaaaaaaaaaaaaaaaaaaaaaaaaaaaaaaaaaaaaaaaaaaaaaaaaaaaaaaaaaaaaaaaaaaaaaaaaaaaaaaaaaaaaaaaaaaaaaaaaaaaaaaaaaaaaaaaaaaaaaaaaaaaaaaaaaaaaaaaaaaaaaaaaaaaaaaaaaaaaaaaaaaaaaaaaaaaaaaaaaaaaaaaaaaaaaaaaaaaaaaaaaaaaaaaaaaaaaaaaaaaaaaaaaaaaaaaaaaaaaaaaaaaaaaaaaaaaaaaaaaaaaaaaaaaaaaaaaaaaaaaaaaaaaaaaaaaaaaaaaaaaaaaaaaaaaaaaaaaaaaaaaaaaaaaaaaaaaaaaaaaaaaaaaaaaaaaaaaaaaaaaaaaaaaaaaaaaaaaaaaaaaaaaaaaaaaaaaaaaaaaaaaaaaaaaaaaaaaaaaaaaaaaaaaaaaaaaaaaaaaaaaaaaaaaaaaaaaaaaaaaaaaaaaaaaaaaaaaaaaaaaaaaaaaaaaaaaaaa`") ∷ [] }) (codes "[^`aaaaaaaaaaaaaaaaaaaaaaaaaaaaaaaaaaaaaaaaaaaaaaaaaaaaaaaaaaaaaaaaaaaaaaaaaaaaaaaaaaaaaaaaaaaaaaaaaaaaaaaaaaaaaaaaaaaaaaaaaaaaaaaaaaaaaaaaaaaaaaaaaaaaaaaaaaaaaaaaaaaaaaaaaaaaaaaaaaaaaaaaaaaaaaaaaaaaaaaaaaaaaaaaaaaaaaaaaaaaaaaaaaaaaaaaaaaaaaaaaaaaaaaaaaaaaaaaaaaaaaaaaaaaaaaaaaaaaaaaaaaaaaaaaaaaaaaaaaaaaaaaaaaaaaaaaaaaaaaaaaaaaaaaaaaaaaaaaaaaaaaaaaaaaaaaaaaaaaaaaaaaaaaaaaaaaaaaaaaaaaaaaaaaaaaaaaaaaaaaaaaaaaaaaaaaaaaaaaaaaaaaaaaaaaaaaaaaaaaaaaaaaaaaaaaaaaaaaaaaaaaaaaaaaaaaaaaaaaaaaaaaaaaaaaaaaaaaaaaaaaaaaaaaaaaaaaaaaaaaaaaaaaaaaaaaaaaaaaaaaaaaaaaaaaaaaaaaaaaaaaaaaaaaaaaaaaaaaaaaaaaaaaaaaaaaaaaaaaaaaaaaaaaaaaaaaaaaaaaaaaaaaaaaaaaaaaaaaaaaaaaaaaaaaaaaaaaaaaaaaaaaaaaaaaaaaaaaaaaaaaaaaaaaaaaaaaaaaaaaaaaaaaaaaaaaaaaaaaaaaaaaaaaaaaaaaaaaaaaaaaaaaaaaaaaaaaaaaaaaaaaaaaaaaaaaaaaaaaaaaaaaaaaaaaaaaaaaaaaaaaaaaaaaaaaaaaaaaaaaaaaaaaaaaaaaaaaaaaaaaaaaaaaaaaaaaaaaaaaaaaaaaaaaaaaaaaaaaaaaaaaaaaaaaaaaaaaaaaaaaaaaaaaaaaaaaaaaaaaaaaaaaaaaaaaaaaaaaaaaaaaaaaaaaaaaaaaaaaaaaaaaaaaaaaaaaaaaaaaaaaaaaaaaaaaaaaaaa`]") (piece 0 0 1002 0 ∷ []) ≡ (enter Name.GfmFootnoteCall 1 1 0 0 ∷ exit Name.GfmFootnoteCall 1 1003 1002 0 ∷ [])) ×
    -- text outer gfm commonmark footnote=[ «[^`⟦a×998⟧`]»: Data 0-2, CodeText 2-1002, Data 1002-1003
    (text_outline (record default { options = record default_options { constructs = record default_constructs { gfm_autolink_literal = true; gfm_label_start_footnote = true; gfm_strikethrough = true; gfm_task_list_item = true }; commonmark = true }; footnotes = (codes "[") ∷ [] }) (codes "[^`aaaaaaaaaaaaaaaaaaaaaaaaaaaaaaaaaaaaaaaaaaaaaaaaaaaaaaaaaaaaaaaaaaaaaaaaaaaaaaaaaaaaaaaaaaaaaaaaaaaaaaaaaaaaaaaaaaaaaaaaaaaaaaaaaaaaaaaaaaaaaaaaaaaaaaaaaaaaaaaaaaaaaaaaaaaaaaaaaaaaaaaaaaaaaaaaaaaaaaaaaaaaaaaaaaaaaaaaaaaaaaaaaaaaaaaaaaaaaaaaaaaaaaaaaaaaaaaaaaaaaaaaaaaaaaaaaaaaaaaaaaaaaaaaaaaaaaaaaaaaaaaaaaaaaaaaaaaaaaaaaaaaaaaaaaaaaaaaaaaaaaaaaaaaaaaaaaaaaaaaaaaaaaaaaaaaaaaaaaaaaaaaaaaaaaaaaaaaaaaaaaaaaaaaaaaaaaaaaaaaaaaaaaaaaaaaaaaaaaaaaaaaaaaaaaaaaaaaaaaaaaaaaaaaaaaaaaaaaaaaaaaaaaaaaaaaaaaaaaaaaaaaaaaaaaaaaaaaaaaaaaaaaaaaaaaaaaaaaaaaaaaaaaaaaaaaaaaaaaaaaaaaaaaaaaaaaaaaaaaaaaaaaaaaaaaaaaaaaaaaaaaaaaaaaaaaaaaaaaaaaaaaaaaaaaaaaaaaaaaaaaaaaaaaaaaaaaaaaaaaaaaaaaaaaaaaaaaaaaaaaaaaaaaaaaaaaaaaaaaaaaaaaaaaaaaaaaaaaaaaaaaaaaaaaaaaaaaaaaaaaaaaaaaaaaaaaaaaaaaaaaaaaaaaaaaaaaaaaaaaaaaaaaaaaaaaaaaaaaaaaaaaaaaaaaaaaaaaaaaaaaaaaaaaaaaaaaaaaaaaaaaaaaaaaaaaaaaaaaaaaaaaaaaaaaaaaaaaaaaaaaaaaaaaaaaaaaaaaaaaaaaaaaaaaaaaaaaaaaaaaaaaaaaaaaaaaaaaaaaaaaaaaaaaaaaaaaaaaaaaaaaaaaaaaaaaaaaaaaaaaaaaaaaaaaaaaaaaaa`]") (piece 0 0 1003 0 ∷ []) ≡ (enter Name.Data 1 1 0 0 ∷ exit Name.Data 1 3 2 0 ∷ enter Name.CodeText 1 3 2 0 ∷ exit Name.CodeText 1 1003 1002 0 ∷ enter Name.Data 1 1003 1002 0 ∷ exit Name.Data 1 1004 1003 0 ∷ []))

abbrev pub LabelCharacters : Type 0
LabelCharacters =
    -- text outer commonmark definition=`⟦à×500⟧` «[`⟦À×500⟧`]»: Link 0-1004
    (text_outline (record default { options = record default_options { commonmark = true }; definitions = (96 ∷ 195 ∷ 160 ∷ 195 ∷ 160 ∷ 195 ∷ 160 ∷ 195 ∷ 160 ∷ 195 ∷ 160 ∷ 195 ∷ 160 ∷ 195 ∷ 160 ∷ 195 ∷ 160 ∷ 195 ∷ 160 ∷ 195 ∷ 160 ∷ 195 ∷ 160 ∷ 195 ∷ 160 ∷ 195 ∷ 160 ∷ 195 ∷ 160 ∷ 195 ∷ 160 ∷ 195 ∷ 160 ∷ 195 ∷ 160 ∷ 195 ∷ 160 ∷ 195 ∷ 160 ∷ 195 ∷ 160 ∷ 195 ∷ 160 ∷ 195 ∷ 160 ∷ 195 ∷ 160 ∷ 195 ∷ 160 ∷ 195 ∷ 160 ∷ 195 ∷ 160 ∷ 195 ∷ 160 ∷ 195 ∷ 160 ∷ 195 ∷ 160 ∷ 195 ∷ 160 ∷ 195 ∷ 160 ∷ 195 ∷ 160 ∷ 195 ∷ 160 ∷ 195 ∷ 160 ∷ 195 ∷ 160 ∷ 195 ∷ 160 ∷ 195 ∷ 160 ∷ 195 ∷ 160 ∷ 195 ∷ 160 ∷ 195 ∷ 160 ∷ 195 ∷ 160 ∷ 195 ∷ 160 ∷ 195 ∷ 160 ∷ 195 ∷ 160 ∷ 195 ∷ 160 ∷ 195 ∷ 160 ∷ 195 ∷ 160 ∷ 195 ∷ 160 ∷ 195 ∷ 160 ∷ 195 ∷ 160 ∷ 195 ∷ 160 ∷ 195 ∷ 160 ∷ 195 ∷ 160 ∷ 195 ∷ 160 ∷ 195 ∷ 160 ∷ 195 ∷ 160 ∷ 195 ∷ 160 ∷ 195 ∷ 160 ∷ 195 ∷ 160 ∷ 195 ∷ 160 ∷ 195 ∷ 160 ∷ 195 ∷ 160 ∷ 195 ∷ 160 ∷ 195 ∷ 160 ∷ 195 ∷ 160 ∷ 195 ∷ 160 ∷ 195 ∷ 160 ∷ 195 ∷ 160 ∷ 195 ∷ 160 ∷ 195 ∷ 160 ∷ 195 ∷ 160 ∷ 195 ∷ 160 ∷ 195 ∷ 160 ∷ 195 ∷ 160 ∷ 195 ∷ 160 ∷ 195 ∷ 160 ∷ 195 ∷ 160 ∷ 195 ∷ 160 ∷ 195 ∷ 160 ∷ 195 ∷ 160 ∷ 195 ∷ 160 ∷ 195 ∷ 160 ∷ 195 ∷ 160 ∷ 195 ∷ 160 ∷ 195 ∷ 160 ∷ 195 ∷ 160 ∷ 195 ∷ 160 ∷ 195 ∷ 160 ∷ 195 ∷ 160 ∷ 195 ∷ 160 ∷ 195 ∷ 160 ∷ 195 ∷ 160 ∷ 195 ∷ 160 ∷ 195 ∷ 160 ∷ 195 ∷ 160 ∷ 195 ∷ 160 ∷ 195 ∷ 160 ∷ 195 ∷ 160 ∷ 195 ∷ 160 ∷ 195 ∷ 160 ∷ 195 ∷ 160 ∷ 195 ∷ 160 ∷ 195 ∷ 160 ∷ 195 ∷ 160 ∷ 195 ∷ 160 ∷ 195 ∷ 160 ∷ 195 ∷ 160 ∷ 195 ∷ 160 ∷ 195 ∷ 160 ∷ 195 ∷ 160 ∷ 195 ∷ 160 ∷ 195 ∷ 160 ∷ 195 ∷ 160 ∷ 195 ∷ 160 ∷ 195 ∷ 160 ∷ 195 ∷ 160 ∷ 195 ∷ 160 ∷ 195 ∷ 160 ∷ 195 ∷ 160 ∷ 195 ∷ 160 ∷ 195 ∷ 160 ∷ 195 ∷ 160 ∷ 195 ∷ 160 ∷ 195 ∷ 160 ∷ 195 ∷ 160 ∷ 195 ∷ 160 ∷ 195 ∷ 160 ∷ 195 ∷ 160 ∷ 195 ∷ 160 ∷ 195 ∷ 160 ∷ 195 ∷ 160 ∷ 195 ∷ 160 ∷ 195 ∷ 160 ∷ 195 ∷ 160 ∷ 195 ∷ 160 ∷ 195 ∷ 160 ∷ 195 ∷ 160 ∷ 195 ∷ 160 ∷ 195 ∷ 160 ∷ 195 ∷ 160 ∷ 195 ∷ 160 ∷ 195 ∷ 160 ∷ 195 ∷ 160 ∷ 195 ∷ 160 ∷ 195 ∷ 160 ∷ 195 ∷ 160 ∷ 195 ∷ 160 ∷ 195 ∷ 160 ∷ 195 ∷ 160 ∷ 195 ∷ 160 ∷ 195 ∷ 160 ∷ 195 ∷ 160 ∷ 195 ∷ 160 ∷ 195 ∷ 160 ∷ 195 ∷ 160 ∷ 195 ∷ 160 ∷ 195 ∷ 160 ∷ 195 ∷ 160 ∷ 195 ∷ 160 ∷ 195 ∷ 160 ∷ 195 ∷ 160 ∷ 195 ∷ 160 ∷ 195 ∷ 160 ∷ 195 ∷ 160 ∷ 195 ∷ 160 ∷ 195 ∷ 160 ∷ 195 ∷ 160 ∷ 195 ∷ 160 ∷ 195 ∷ 160 ∷ 195 ∷ 160 ∷ 195 ∷ 160 ∷ 195 ∷ 160 ∷ 195 ∷ 160 ∷ 195 ∷ 160 ∷ 195 ∷ 160 ∷ 195 ∷ 160 ∷ 195 ∷ 160 ∷ 195 ∷ 160 ∷ 195 ∷ 160 ∷ 195 ∷ 160 ∷ 195 ∷ 160 ∷ 195 ∷ 160 ∷ 195 ∷ 160 ∷ 195 ∷ 160 ∷ 195 ∷ 160 ∷ 195 ∷ 160 ∷ 195 ∷ 160 ∷ 195 ∷ 160 ∷ 195 ∷ 160 ∷ 195 ∷ 160 ∷ 195 ∷ 160 ∷ 195 ∷ 160 ∷ 195 ∷ 160 ∷ 195 ∷ 160 ∷ 195 ∷ 160 ∷ 195 ∷ 160 ∷ 195 ∷ 160 ∷ 195 ∷ 160 ∷ 195 ∷ 160 ∷ 195 ∷ 160 ∷ 195 ∷ 160 ∷ 195 ∷ 160 ∷ 195 ∷ 160 ∷ 195 ∷ 160 ∷ 195 ∷ 160 ∷ 195 ∷ 160 ∷ 195 ∷ 160 ∷ 195 ∷ 160 ∷ 195 ∷ 160 ∷ 195 ∷ 160 ∷ 195 ∷ 160 ∷ 195 ∷ 160 ∷ 195 ∷ 160 ∷ 195 ∷ 160 ∷ 195 ∷ 160 ∷ 195 ∷ 160 ∷ 195 ∷ 160 ∷ 195 ∷ 160 ∷ 195 ∷ 160 ∷ 195 ∷ 160 ∷ 195 ∷ 160 ∷ 195 ∷ 160 ∷ 195 ∷ 160 ∷ 195 ∷ 160 ∷ 195 ∷ 160 ∷ 195 ∷ 160 ∷ 195 ∷ 160 ∷ 195 ∷ 160 ∷ 195 ∷ 160 ∷ 195 ∷ 160 ∷ 195 ∷ 160 ∷ 195 ∷ 160 ∷ 195 ∷ 160 ∷ 195 ∷ 160 ∷ 195 ∷ 160 ∷ 195 ∷ 160 ∷ 195 ∷ 160 ∷ 195 ∷ 160 ∷ 195 ∷ 160 ∷ 195 ∷ 160 ∷ 195 ∷ 160 ∷ 195 ∷ 160 ∷ 195 ∷ 160 ∷ 195 ∷ 160 ∷ 195 ∷ 160 ∷ 195 ∷ 160 ∷ 195 ∷ 160 ∷ 195 ∷ 160 ∷ 195 ∷ 160 ∷ 195 ∷ 160 ∷ 195 ∷ 160 ∷ 195 ∷ 160 ∷ 195 ∷ 160 ∷ 195 ∷ 160 ∷ 195 ∷ 160 ∷ 195 ∷ 160 ∷ 195 ∷ 160 ∷ 195 ∷ 160 ∷ 195 ∷ 160 ∷ 195 ∷ 160 ∷ 195 ∷ 160 ∷ 195 ∷ 160 ∷ 195 ∷ 160 ∷ 195 ∷ 160 ∷ 195 ∷ 160 ∷ 195 ∷ 160 ∷ 195 ∷ 160 ∷ 195 ∷ 160 ∷ 195 ∷ 160 ∷ 195 ∷ 160 ∷ 195 ∷ 160 ∷ 195 ∷ 160 ∷ 195 ∷ 160 ∷ 195 ∷ 160 ∷ 195 ∷ 160 ∷ 195 ∷ 160 ∷ 195 ∷ 160 ∷ 195 ∷ 160 ∷ 195 ∷ 160 ∷ 195 ∷ 160 ∷ 195 ∷ 160 ∷ 195 ∷ 160 ∷ 195 ∷ 160 ∷ 195 ∷ 160 ∷ 195 ∷ 160 ∷ 195 ∷ 160 ∷ 195 ∷ 160 ∷ 195 ∷ 160 ∷ 195 ∷ 160 ∷ 195 ∷ 160 ∷ 195 ∷ 160 ∷ 195 ∷ 160 ∷ 195 ∷ 160 ∷ 195 ∷ 160 ∷ 195 ∷ 160 ∷ 195 ∷ 160 ∷ 195 ∷ 160 ∷ 195 ∷ 160 ∷ 195 ∷ 160 ∷ 195 ∷ 160 ∷ 195 ∷ 160 ∷ 195 ∷ 160 ∷ 195 ∷ 160 ∷ 195 ∷ 160 ∷ 195 ∷ 160 ∷ 195 ∷ 160 ∷ 195 ∷ 160 ∷ 195 ∷ 160 ∷ 195 ∷ 160 ∷ 195 ∷ 160 ∷ 195 ∷ 160 ∷ 195 ∷ 160 ∷ 195 ∷ 160 ∷ 195 ∷ 160 ∷ 195 ∷ 160 ∷ 195 ∷ 160 ∷ 195 ∷ 160 ∷ 195 ∷ 160 ∷ 195 ∷ 160 ∷ 195 ∷ 160 ∷ 195 ∷ 160 ∷ 195 ∷ 160 ∷ 195 ∷ 160 ∷ 195 ∷ 160 ∷ 195 ∷ 160 ∷ 195 ∷ 160 ∷ 195 ∷ 160 ∷ 195 ∷ 160 ∷ 195 ∷ 160 ∷ 195 ∷ 160 ∷ 195 ∷ 160 ∷ 195 ∷ 160 ∷ 195 ∷ 160 ∷ 195 ∷ 160 ∷ 195 ∷ 160 ∷ 195 ∷ 160 ∷ 195 ∷ 160 ∷ 195 ∷ 160 ∷ 195 ∷ 160 ∷ 195 ∷ 160 ∷ 195 ∷ 160 ∷ 195 ∷ 160 ∷ 195 ∷ 160 ∷ 195 ∷ 160 ∷ 195 ∷ 160 ∷ 195 ∷ 160 ∷ 195 ∷ 160 ∷ 195 ∷ 160 ∷ 195 ∷ 160 ∷ 195 ∷ 160 ∷ 195 ∷ 160 ∷ 195 ∷ 160 ∷ 195 ∷ 160 ∷ 195 ∷ 160 ∷ 195 ∷ 160 ∷ 195 ∷ 160 ∷ 195 ∷ 160 ∷ 195 ∷ 160 ∷ 195 ∷ 160 ∷ 195 ∷ 160 ∷ 195 ∷ 160 ∷ 195 ∷ 160 ∷ 195 ∷ 160 ∷ 195 ∷ 160 ∷ 195 ∷ 160 ∷ 195 ∷ 160 ∷ 195 ∷ 160 ∷ 195 ∷ 160 ∷ 195 ∷ 160 ∷ 195 ∷ 160 ∷ 195 ∷ 160 ∷ 195 ∷ 160 ∷ 195 ∷ 160 ∷ 195 ∷ 160 ∷ 195 ∷ 160 ∷ 195 ∷ 160 ∷ 195 ∷ 160 ∷ 195 ∷ 160 ∷ 195 ∷ 160 ∷ 195 ∷ 160 ∷ 195 ∷ 160 ∷ 195 ∷ 160 ∷ 195 ∷ 160 ∷ 195 ∷ 160 ∷ 195 ∷ 160 ∷ 195 ∷ 160 ∷ 195 ∷ 160 ∷ 195 ∷ 160 ∷ 195 ∷ 160 ∷ 195 ∷ 160 ∷ 195 ∷ 160 ∷ 195 ∷ 160 ∷ 195 ∷ 160 ∷ 195 ∷ 160 ∷ 195 ∷ 160 ∷ 195 ∷ 160 ∷ 195 ∷ 160 ∷ 195 ∷ 160 ∷ 195 ∷ 160 ∷ 195 ∷ 160 ∷ 195 ∷ 160 ∷ 195 ∷ 160 ∷ 195 ∷ 160 ∷ 195 ∷ 160 ∷ 195 ∷ 160 ∷ 195 ∷ 160 ∷ 195 ∷ 160 ∷ 195 ∷ 160 ∷ 195 ∷ 160 ∷ 195 ∷ 160 ∷ 195 ∷ 160 ∷ 195 ∷ 160 ∷ 195 ∷ 160 ∷ 195 ∷ 160 ∷ 195 ∷ 160 ∷ 195 ∷ 160 ∷ 195 ∷ 160 ∷ 195 ∷ 160 ∷ 195 ∷ 160 ∷ 195 ∷ 160 ∷ 195 ∷ 160 ∷ 195 ∷ 160 ∷ 195 ∷ 160 ∷ 195 ∷ 160 ∷ 195 ∷ 160 ∷ 195 ∷ 160 ∷ 195 ∷ 160 ∷ 195 ∷ 160 ∷ 195 ∷ 160 ∷ 195 ∷ 160 ∷ 195 ∷ 160 ∷ 195 ∷ 160 ∷ 195 ∷ 160 ∷ 195 ∷ 160 ∷ 195 ∷ 160 ∷ 195 ∷ 160 ∷ 195 ∷ 160 ∷ 195 ∷ 160 ∷ 195 ∷ 160 ∷ 195 ∷ 160 ∷ 195 ∷ 160 ∷ 195 ∷ 160 ∷ 195 ∷ 160 ∷ 195 ∷ 160 ∷ 195 ∷ 160 ∷ 195 ∷ 160 ∷ 195 ∷ 160 ∷ 195 ∷ 160 ∷ 195 ∷ 160 ∷ 195 ∷ 160 ∷ 195 ∷ 160 ∷ 195 ∷ 160 ∷ 195 ∷ 160 ∷ 195 ∷ 160 ∷ 195 ∷ 160 ∷ 195 ∷ 160 ∷ 195 ∷ 160 ∷ 195 ∷ 160 ∷ 195 ∷ 160 ∷ 195 ∷ 160 ∷ 195 ∷ 160 ∷ 195 ∷ 160 ∷ 195 ∷ 160 ∷ 195 ∷ 160 ∷ 195 ∷ 160 ∷ 195 ∷ 160 ∷ 195 ∷ 160 ∷ 195 ∷ 160 ∷ 195 ∷ 160 ∷ 195 ∷ 160 ∷ 195 ∷ 160 ∷ 195 ∷ 160 ∷ 195 ∷ 160 ∷ 195 ∷ 160 ∷ 195 ∷ 160 ∷ 195 ∷ 160 ∷ 195 ∷ 160 ∷ 195 ∷ 160 ∷ 195 ∷ 160 ∷ 195 ∷ 160 ∷ 195 ∷ 160 ∷ 195 ∷ 160 ∷ 195 ∷ 160 ∷ 195 ∷ 160 ∷ 195 ∷ 160 ∷ 195 ∷ 160 ∷ 195 ∷ 160 ∷ 195 ∷ 160 ∷ 195 ∷ 160 ∷ 195 ∷ 160 ∷ 195 ∷ 160 ∷ 195 ∷ 160 ∷ 195 ∷ 160 ∷ 195 ∷ 160 ∷ 195 ∷ 160 ∷ 195 ∷ 160 ∷ 195 ∷ 160 ∷ 195 ∷ 160 ∷ 195 ∷ 160 ∷ 195 ∷ 160 ∷ 96 ∷ []) ∷ [] }) (91 ∷ 96 ∷ 195 ∷ 128 ∷ 195 ∷ 128 ∷ 195 ∷ 128 ∷ 195 ∷ 128 ∷ 195 ∷ 128 ∷ 195 ∷ 128 ∷ 195 ∷ 128 ∷ 195 ∷ 128 ∷ 195 ∷ 128 ∷ 195 ∷ 128 ∷ 195 ∷ 128 ∷ 195 ∷ 128 ∷ 195 ∷ 128 ∷ 195 ∷ 128 ∷ 195 ∷ 128 ∷ 195 ∷ 128 ∷ 195 ∷ 128 ∷ 195 ∷ 128 ∷ 195 ∷ 128 ∷ 195 ∷ 128 ∷ 195 ∷ 128 ∷ 195 ∷ 128 ∷ 195 ∷ 128 ∷ 195 ∷ 128 ∷ 195 ∷ 128 ∷ 195 ∷ 128 ∷ 195 ∷ 128 ∷ 195 ∷ 128 ∷ 195 ∷ 128 ∷ 195 ∷ 128 ∷ 195 ∷ 128 ∷ 195 ∷ 128 ∷ 195 ∷ 128 ∷ 195 ∷ 128 ∷ 195 ∷ 128 ∷ 195 ∷ 128 ∷ 195 ∷ 128 ∷ 195 ∷ 128 ∷ 195 ∷ 128 ∷ 195 ∷ 128 ∷ 195 ∷ 128 ∷ 195 ∷ 128 ∷ 195 ∷ 128 ∷ 195 ∷ 128 ∷ 195 ∷ 128 ∷ 195 ∷ 128 ∷ 195 ∷ 128 ∷ 195 ∷ 128 ∷ 195 ∷ 128 ∷ 195 ∷ 128 ∷ 195 ∷ 128 ∷ 195 ∷ 128 ∷ 195 ∷ 128 ∷ 195 ∷ 128 ∷ 195 ∷ 128 ∷ 195 ∷ 128 ∷ 195 ∷ 128 ∷ 195 ∷ 128 ∷ 195 ∷ 128 ∷ 195 ∷ 128 ∷ 195 ∷ 128 ∷ 195 ∷ 128 ∷ 195 ∷ 128 ∷ 195 ∷ 128 ∷ 195 ∷ 128 ∷ 195 ∷ 128 ∷ 195 ∷ 128 ∷ 195 ∷ 128 ∷ 195 ∷ 128 ∷ 195 ∷ 128 ∷ 195 ∷ 128 ∷ 195 ∷ 128 ∷ 195 ∷ 128 ∷ 195 ∷ 128 ∷ 195 ∷ 128 ∷ 195 ∷ 128 ∷ 195 ∷ 128 ∷ 195 ∷ 128 ∷ 195 ∷ 128 ∷ 195 ∷ 128 ∷ 195 ∷ 128 ∷ 195 ∷ 128 ∷ 195 ∷ 128 ∷ 195 ∷ 128 ∷ 195 ∷ 128 ∷ 195 ∷ 128 ∷ 195 ∷ 128 ∷ 195 ∷ 128 ∷ 195 ∷ 128 ∷ 195 ∷ 128 ∷ 195 ∷ 128 ∷ 195 ∷ 128 ∷ 195 ∷ 128 ∷ 195 ∷ 128 ∷ 195 ∷ 128 ∷ 195 ∷ 128 ∷ 195 ∷ 128 ∷ 195 ∷ 128 ∷ 195 ∷ 128 ∷ 195 ∷ 128 ∷ 195 ∷ 128 ∷ 195 ∷ 128 ∷ 195 ∷ 128 ∷ 195 ∷ 128 ∷ 195 ∷ 128 ∷ 195 ∷ 128 ∷ 195 ∷ 128 ∷ 195 ∷ 128 ∷ 195 ∷ 128 ∷ 195 ∷ 128 ∷ 195 ∷ 128 ∷ 195 ∷ 128 ∷ 195 ∷ 128 ∷ 195 ∷ 128 ∷ 195 ∷ 128 ∷ 195 ∷ 128 ∷ 195 ∷ 128 ∷ 195 ∷ 128 ∷ 195 ∷ 128 ∷ 195 ∷ 128 ∷ 195 ∷ 128 ∷ 195 ∷ 128 ∷ 195 ∷ 128 ∷ 195 ∷ 128 ∷ 195 ∷ 128 ∷ 195 ∷ 128 ∷ 195 ∷ 128 ∷ 195 ∷ 128 ∷ 195 ∷ 128 ∷ 195 ∷ 128 ∷ 195 ∷ 128 ∷ 195 ∷ 128 ∷ 195 ∷ 128 ∷ 195 ∷ 128 ∷ 195 ∷ 128 ∷ 195 ∷ 128 ∷ 195 ∷ 128 ∷ 195 ∷ 128 ∷ 195 ∷ 128 ∷ 195 ∷ 128 ∷ 195 ∷ 128 ∷ 195 ∷ 128 ∷ 195 ∷ 128 ∷ 195 ∷ 128 ∷ 195 ∷ 128 ∷ 195 ∷ 128 ∷ 195 ∷ 128 ∷ 195 ∷ 128 ∷ 195 ∷ 128 ∷ 195 ∷ 128 ∷ 195 ∷ 128 ∷ 195 ∷ 128 ∷ 195 ∷ 128 ∷ 195 ∷ 128 ∷ 195 ∷ 128 ∷ 195 ∷ 128 ∷ 195 ∷ 128 ∷ 195 ∷ 128 ∷ 195 ∷ 128 ∷ 195 ∷ 128 ∷ 195 ∷ 128 ∷ 195 ∷ 128 ∷ 195 ∷ 128 ∷ 195 ∷ 128 ∷ 195 ∷ 128 ∷ 195 ∷ 128 ∷ 195 ∷ 128 ∷ 195 ∷ 128 ∷ 195 ∷ 128 ∷ 195 ∷ 128 ∷ 195 ∷ 128 ∷ 195 ∷ 128 ∷ 195 ∷ 128 ∷ 195 ∷ 128 ∷ 195 ∷ 128 ∷ 195 ∷ 128 ∷ 195 ∷ 128 ∷ 195 ∷ 128 ∷ 195 ∷ 128 ∷ 195 ∷ 128 ∷ 195 ∷ 128 ∷ 195 ∷ 128 ∷ 195 ∷ 128 ∷ 195 ∷ 128 ∷ 195 ∷ 128 ∷ 195 ∷ 128 ∷ 195 ∷ 128 ∷ 195 ∷ 128 ∷ 195 ∷ 128 ∷ 195 ∷ 128 ∷ 195 ∷ 128 ∷ 195 ∷ 128 ∷ 195 ∷ 128 ∷ 195 ∷ 128 ∷ 195 ∷ 128 ∷ 195 ∷ 128 ∷ 195 ∷ 128 ∷ 195 ∷ 128 ∷ 195 ∷ 128 ∷ 195 ∷ 128 ∷ 195 ∷ 128 ∷ 195 ∷ 128 ∷ 195 ∷ 128 ∷ 195 ∷ 128 ∷ 195 ∷ 128 ∷ 195 ∷ 128 ∷ 195 ∷ 128 ∷ 195 ∷ 128 ∷ 195 ∷ 128 ∷ 195 ∷ 128 ∷ 195 ∷ 128 ∷ 195 ∷ 128 ∷ 195 ∷ 128 ∷ 195 ∷ 128 ∷ 195 ∷ 128 ∷ 195 ∷ 128 ∷ 195 ∷ 128 ∷ 195 ∷ 128 ∷ 195 ∷ 128 ∷ 195 ∷ 128 ∷ 195 ∷ 128 ∷ 195 ∷ 128 ∷ 195 ∷ 128 ∷ 195 ∷ 128 ∷ 195 ∷ 128 ∷ 195 ∷ 128 ∷ 195 ∷ 128 ∷ 195 ∷ 128 ∷ 195 ∷ 128 ∷ 195 ∷ 128 ∷ 195 ∷ 128 ∷ 195 ∷ 128 ∷ 195 ∷ 128 ∷ 195 ∷ 128 ∷ 195 ∷ 128 ∷ 195 ∷ 128 ∷ 195 ∷ 128 ∷ 195 ∷ 128 ∷ 195 ∷ 128 ∷ 195 ∷ 128 ∷ 195 ∷ 128 ∷ 195 ∷ 128 ∷ 195 ∷ 128 ∷ 195 ∷ 128 ∷ 195 ∷ 128 ∷ 195 ∷ 128 ∷ 195 ∷ 128 ∷ 195 ∷ 128 ∷ 195 ∷ 128 ∷ 195 ∷ 128 ∷ 195 ∷ 128 ∷ 195 ∷ 128 ∷ 195 ∷ 128 ∷ 195 ∷ 128 ∷ 195 ∷ 128 ∷ 195 ∷ 128 ∷ 195 ∷ 128 ∷ 195 ∷ 128 ∷ 195 ∷ 128 ∷ 195 ∷ 128 ∷ 195 ∷ 128 ∷ 195 ∷ 128 ∷ 195 ∷ 128 ∷ 195 ∷ 128 ∷ 195 ∷ 128 ∷ 195 ∷ 128 ∷ 195 ∷ 128 ∷ 195 ∷ 128 ∷ 195 ∷ 128 ∷ 195 ∷ 128 ∷ 195 ∷ 128 ∷ 195 ∷ 128 ∷ 195 ∷ 128 ∷ 195 ∷ 128 ∷ 195 ∷ 128 ∷ 195 ∷ 128 ∷ 195 ∷ 128 ∷ 195 ∷ 128 ∷ 195 ∷ 128 ∷ 195 ∷ 128 ∷ 195 ∷ 128 ∷ 195 ∷ 128 ∷ 195 ∷ 128 ∷ 195 ∷ 128 ∷ 195 ∷ 128 ∷ 195 ∷ 128 ∷ 195 ∷ 128 ∷ 195 ∷ 128 ∷ 195 ∷ 128 ∷ 195 ∷ 128 ∷ 195 ∷ 128 ∷ 195 ∷ 128 ∷ 195 ∷ 128 ∷ 195 ∷ 128 ∷ 195 ∷ 128 ∷ 195 ∷ 128 ∷ 195 ∷ 128 ∷ 195 ∷ 128 ∷ 195 ∷ 128 ∷ 195 ∷ 128 ∷ 195 ∷ 128 ∷ 195 ∷ 128 ∷ 195 ∷ 128 ∷ 195 ∷ 128 ∷ 195 ∷ 128 ∷ 195 ∷ 128 ∷ 195 ∷ 128 ∷ 195 ∷ 128 ∷ 195 ∷ 128 ∷ 195 ∷ 128 ∷ 195 ∷ 128 ∷ 195 ∷ 128 ∷ 195 ∷ 128 ∷ 195 ∷ 128 ∷ 195 ∷ 128 ∷ 195 ∷ 128 ∷ 195 ∷ 128 ∷ 195 ∷ 128 ∷ 195 ∷ 128 ∷ 195 ∷ 128 ∷ 195 ∷ 128 ∷ 195 ∷ 128 ∷ 195 ∷ 128 ∷ 195 ∷ 128 ∷ 195 ∷ 128 ∷ 195 ∷ 128 ∷ 195 ∷ 128 ∷ 195 ∷ 128 ∷ 195 ∷ 128 ∷ 195 ∷ 128 ∷ 195 ∷ 128 ∷ 195 ∷ 128 ∷ 195 ∷ 128 ∷ 195 ∷ 128 ∷ 195 ∷ 128 ∷ 195 ∷ 128 ∷ 195 ∷ 128 ∷ 195 ∷ 128 ∷ 195 ∷ 128 ∷ 195 ∷ 128 ∷ 195 ∷ 128 ∷ 195 ∷ 128 ∷ 195 ∷ 128 ∷ 195 ∷ 128 ∷ 195 ∷ 128 ∷ 195 ∷ 128 ∷ 195 ∷ 128 ∷ 195 ∷ 128 ∷ 195 ∷ 128 ∷ 195 ∷ 128 ∷ 195 ∷ 128 ∷ 195 ∷ 128 ∷ 195 ∷ 128 ∷ 195 ∷ 128 ∷ 195 ∷ 128 ∷ 195 ∷ 128 ∷ 195 ∷ 128 ∷ 195 ∷ 128 ∷ 195 ∷ 128 ∷ 195 ∷ 128 ∷ 195 ∷ 128 ∷ 195 ∷ 128 ∷ 195 ∷ 128 ∷ 195 ∷ 128 ∷ 195 ∷ 128 ∷ 195 ∷ 128 ∷ 195 ∷ 128 ∷ 195 ∷ 128 ∷ 195 ∷ 128 ∷ 195 ∷ 128 ∷ 195 ∷ 128 ∷ 195 ∷ 128 ∷ 195 ∷ 128 ∷ 195 ∷ 128 ∷ 195 ∷ 128 ∷ 195 ∷ 128 ∷ 195 ∷ 128 ∷ 195 ∷ 128 ∷ 195 ∷ 128 ∷ 195 ∷ 128 ∷ 195 ∷ 128 ∷ 195 ∷ 128 ∷ 195 ∷ 128 ∷ 195 ∷ 128 ∷ 195 ∷ 128 ∷ 195 ∷ 128 ∷ 195 ∷ 128 ∷ 195 ∷ 128 ∷ 195 ∷ 128 ∷ 195 ∷ 128 ∷ 195 ∷ 128 ∷ 195 ∷ 128 ∷ 195 ∷ 128 ∷ 195 ∷ 128 ∷ 195 ∷ 128 ∷ 195 ∷ 128 ∷ 195 ∷ 128 ∷ 195 ∷ 128 ∷ 195 ∷ 128 ∷ 195 ∷ 128 ∷ 195 ∷ 128 ∷ 195 ∷ 128 ∷ 195 ∷ 128 ∷ 195 ∷ 128 ∷ 195 ∷ 128 ∷ 195 ∷ 128 ∷ 195 ∷ 128 ∷ 195 ∷ 128 ∷ 195 ∷ 128 ∷ 195 ∷ 128 ∷ 195 ∷ 128 ∷ 195 ∷ 128 ∷ 195 ∷ 128 ∷ 195 ∷ 128 ∷ 195 ∷ 128 ∷ 195 ∷ 128 ∷ 195 ∷ 128 ∷ 195 ∷ 128 ∷ 195 ∷ 128 ∷ 195 ∷ 128 ∷ 195 ∷ 128 ∷ 195 ∷ 128 ∷ 195 ∷ 128 ∷ 195 ∷ 128 ∷ 195 ∷ 128 ∷ 195 ∷ 128 ∷ 195 ∷ 128 ∷ 195 ∷ 128 ∷ 195 ∷ 128 ∷ 195 ∷ 128 ∷ 195 ∷ 128 ∷ 195 ∷ 128 ∷ 195 ∷ 128 ∷ 195 ∷ 128 ∷ 195 ∷ 128 ∷ 195 ∷ 128 ∷ 195 ∷ 128 ∷ 195 ∷ 128 ∷ 195 ∷ 128 ∷ 195 ∷ 128 ∷ 195 ∷ 128 ∷ 195 ∷ 128 ∷ 195 ∷ 128 ∷ 195 ∷ 128 ∷ 195 ∷ 128 ∷ 195 ∷ 128 ∷ 195 ∷ 128 ∷ 195 ∷ 128 ∷ 195 ∷ 128 ∷ 195 ∷ 128 ∷ 195 ∷ 128 ∷ 195 ∷ 128 ∷ 195 ∷ 128 ∷ 195 ∷ 128 ∷ 195 ∷ 128 ∷ 195 ∷ 128 ∷ 195 ∷ 128 ∷ 195 ∷ 128 ∷ 195 ∷ 128 ∷ 195 ∷ 128 ∷ 195 ∷ 128 ∷ 195 ∷ 128 ∷ 195 ∷ 128 ∷ 195 ∷ 128 ∷ 195 ∷ 128 ∷ 195 ∷ 128 ∷ 195 ∷ 128 ∷ 195 ∷ 128 ∷ 195 ∷ 128 ∷ 195 ∷ 128 ∷ 195 ∷ 128 ∷ 195 ∷ 128 ∷ 195 ∷ 128 ∷ 195 ∷ 128 ∷ 195 ∷ 128 ∷ 195 ∷ 128 ∷ 195 ∷ 128 ∷ 195 ∷ 128 ∷ 195 ∷ 128 ∷ 195 ∷ 128 ∷ 195 ∷ 128 ∷ 195 ∷ 128 ∷ 195 ∷ 128 ∷ 195 ∷ 128 ∷ 195 ∷ 128 ∷ 195 ∷ 128 ∷ 195 ∷ 128 ∷ 195 ∷ 128 ∷ 195 ∷ 128 ∷ 195 ∷ 128 ∷ 195 ∷ 128 ∷ 195 ∷ 128 ∷ 195 ∷ 128 ∷ 195 ∷ 128 ∷ 195 ∷ 128 ∷ 195 ∷ 128 ∷ 195 ∷ 128 ∷ 195 ∷ 128 ∷ 195 ∷ 128 ∷ 195 ∷ 128 ∷ 96 ∷ 93 ∷ []) (piece 0 0 1004 0 ∷ []) ≡ (enter Name.Link 1 1 0 0 ∷ exit Name.Link 1 1005 1004 0 ∷ [])) ×
    -- text outer commonmark definition=`⟦ÿ×500⟧` «[`⟦ÿ×500⟧`]»: Link 0-1004
    (text_outline (record default { options = record default_options { commonmark = true }; definitions = (96 ∷ 195 ∷ 191 ∷ 195 ∷ 191 ∷ 195 ∷ 191 ∷ 195 ∷ 191 ∷ 195 ∷ 191 ∷ 195 ∷ 191 ∷ 195 ∷ 191 ∷ 195 ∷ 191 ∷ 195 ∷ 191 ∷ 195 ∷ 191 ∷ 195 ∷ 191 ∷ 195 ∷ 191 ∷ 195 ∷ 191 ∷ 195 ∷ 191 ∷ 195 ∷ 191 ∷ 195 ∷ 191 ∷ 195 ∷ 191 ∷ 195 ∷ 191 ∷ 195 ∷ 191 ∷ 195 ∷ 191 ∷ 195 ∷ 191 ∷ 195 ∷ 191 ∷ 195 ∷ 191 ∷ 195 ∷ 191 ∷ 195 ∷ 191 ∷ 195 ∷ 191 ∷ 195 ∷ 191 ∷ 195 ∷ 191 ∷ 195 ∷ 191 ∷ 195 ∷ 191 ∷ 195 ∷ 191 ∷ 195 ∷ 191 ∷ 195 ∷ 191 ∷ 195 ∷ 191 ∷ 195 ∷ 191 ∷ 195 ∷ 191 ∷ 195 ∷ 191 ∷ 195 ∷ 191 ∷ 195 ∷ 191 ∷ 195 ∷ 191 ∷ 195 ∷ 191 ∷ 195 ∷ 191 ∷ 195 ∷ 191 ∷ 195 ∷ 191 ∷ 195 ∷ 191 ∷ 195 ∷ 191 ∷ 195 ∷ 191 ∷ 195 ∷ 191 ∷ 195 ∷ 191 ∷ 195 ∷ 191 ∷ 195 ∷ 191 ∷ 195 ∷ 191 ∷ 195 ∷ 191 ∷ 195 ∷ 191 ∷ 195 ∷ 191 ∷ 195 ∷ 191 ∷ 195 ∷ 191 ∷ 195 ∷ 191 ∷ 195 ∷ 191 ∷ 195 ∷ 191 ∷ 195 ∷ 191 ∷ 195 ∷ 191 ∷ 195 ∷ 191 ∷ 195 ∷ 191 ∷ 195 ∷ 191 ∷ 195 ∷ 191 ∷ 195 ∷ 191 ∷ 195 ∷ 191 ∷ 195 ∷ 191 ∷ 195 ∷ 191 ∷ 195 ∷ 191 ∷ 195 ∷ 191 ∷ 195 ∷ 191 ∷ 195 ∷ 191 ∷ 195 ∷ 191 ∷ 195 ∷ 191 ∷ 195 ∷ 191 ∷ 195 ∷ 191 ∷ 195 ∷ 191 ∷ 195 ∷ 191 ∷ 195 ∷ 191 ∷ 195 ∷ 191 ∷ 195 ∷ 191 ∷ 195 ∷ 191 ∷ 195 ∷ 191 ∷ 195 ∷ 191 ∷ 195 ∷ 191 ∷ 195 ∷ 191 ∷ 195 ∷ 191 ∷ 195 ∷ 191 ∷ 195 ∷ 191 ∷ 195 ∷ 191 ∷ 195 ∷ 191 ∷ 195 ∷ 191 ∷ 195 ∷ 191 ∷ 195 ∷ 191 ∷ 195 ∷ 191 ∷ 195 ∷ 191 ∷ 195 ∷ 191 ∷ 195 ∷ 191 ∷ 195 ∷ 191 ∷ 195 ∷ 191 ∷ 195 ∷ 191 ∷ 195 ∷ 191 ∷ 195 ∷ 191 ∷ 195 ∷ 191 ∷ 195 ∷ 191 ∷ 195 ∷ 191 ∷ 195 ∷ 191 ∷ 195 ∷ 191 ∷ 195 ∷ 191 ∷ 195 ∷ 191 ∷ 195 ∷ 191 ∷ 195 ∷ 191 ∷ 195 ∷ 191 ∷ 195 ∷ 191 ∷ 195 ∷ 191 ∷ 195 ∷ 191 ∷ 195 ∷ 191 ∷ 195 ∷ 191 ∷ 195 ∷ 191 ∷ 195 ∷ 191 ∷ 195 ∷ 191 ∷ 195 ∷ 191 ∷ 195 ∷ 191 ∷ 195 ∷ 191 ∷ 195 ∷ 191 ∷ 195 ∷ 191 ∷ 195 ∷ 191 ∷ 195 ∷ 191 ∷ 195 ∷ 191 ∷ 195 ∷ 191 ∷ 195 ∷ 191 ∷ 195 ∷ 191 ∷ 195 ∷ 191 ∷ 195 ∷ 191 ∷ 195 ∷ 191 ∷ 195 ∷ 191 ∷ 195 ∷ 191 ∷ 195 ∷ 191 ∷ 195 ∷ 191 ∷ 195 ∷ 191 ∷ 195 ∷ 191 ∷ 195 ∷ 191 ∷ 195 ∷ 191 ∷ 195 ∷ 191 ∷ 195 ∷ 191 ∷ 195 ∷ 191 ∷ 195 ∷ 191 ∷ 195 ∷ 191 ∷ 195 ∷ 191 ∷ 195 ∷ 191 ∷ 195 ∷ 191 ∷ 195 ∷ 191 ∷ 195 ∷ 191 ∷ 195 ∷ 191 ∷ 195 ∷ 191 ∷ 195 ∷ 191 ∷ 195 ∷ 191 ∷ 195 ∷ 191 ∷ 195 ∷ 191 ∷ 195 ∷ 191 ∷ 195 ∷ 191 ∷ 195 ∷ 191 ∷ 195 ∷ 191 ∷ 195 ∷ 191 ∷ 195 ∷ 191 ∷ 195 ∷ 191 ∷ 195 ∷ 191 ∷ 195 ∷ 191 ∷ 195 ∷ 191 ∷ 195 ∷ 191 ∷ 195 ∷ 191 ∷ 195 ∷ 191 ∷ 195 ∷ 191 ∷ 195 ∷ 191 ∷ 195 ∷ 191 ∷ 195 ∷ 191 ∷ 195 ∷ 191 ∷ 195 ∷ 191 ∷ 195 ∷ 191 ∷ 195 ∷ 191 ∷ 195 ∷ 191 ∷ 195 ∷ 191 ∷ 195 ∷ 191 ∷ 195 ∷ 191 ∷ 195 ∷ 191 ∷ 195 ∷ 191 ∷ 195 ∷ 191 ∷ 195 ∷ 191 ∷ 195 ∷ 191 ∷ 195 ∷ 191 ∷ 195 ∷ 191 ∷ 195 ∷ 191 ∷ 195 ∷ 191 ∷ 195 ∷ 191 ∷ 195 ∷ 191 ∷ 195 ∷ 191 ∷ 195 ∷ 191 ∷ 195 ∷ 191 ∷ 195 ∷ 191 ∷ 195 ∷ 191 ∷ 195 ∷ 191 ∷ 195 ∷ 191 ∷ 195 ∷ 191 ∷ 195 ∷ 191 ∷ 195 ∷ 191 ∷ 195 ∷ 191 ∷ 195 ∷ 191 ∷ 195 ∷ 191 ∷ 195 ∷ 191 ∷ 195 ∷ 191 ∷ 195 ∷ 191 ∷ 195 ∷ 191 ∷ 195 ∷ 191 ∷ 195 ∷ 191 ∷ 195 ∷ 191 ∷ 195 ∷ 191 ∷ 195 ∷ 191 ∷ 195 ∷ 191 ∷ 195 ∷ 191 ∷ 195 ∷ 191 ∷ 195 ∷ 191 ∷ 195 ∷ 191 ∷ 195 ∷ 191 ∷ 195 ∷ 191 ∷ 195 ∷ 191 ∷ 195 ∷ 191 ∷ 195 ∷ 191 ∷ 195 ∷ 191 ∷ 195 ∷ 191 ∷ 195 ∷ 191 ∷ 195 ∷ 191 ∷ 195 ∷ 191 ∷ 195 ∷ 191 ∷ 195 ∷ 191 ∷ 195 ∷ 191 ∷ 195 ∷ 191 ∷ 195 ∷ 191 ∷ 195 ∷ 191 ∷ 195 ∷ 191 ∷ 195 ∷ 191 ∷ 195 ∷ 191 ∷ 195 ∷ 191 ∷ 195 ∷ 191 ∷ 195 ∷ 191 ∷ 195 ∷ 191 ∷ 195 ∷ 191 ∷ 195 ∷ 191 ∷ 195 ∷ 191 ∷ 195 ∷ 191 ∷ 195 ∷ 191 ∷ 195 ∷ 191 ∷ 195 ∷ 191 ∷ 195 ∷ 191 ∷ 195 ∷ 191 ∷ 195 ∷ 191 ∷ 195 ∷ 191 ∷ 195 ∷ 191 ∷ 195 ∷ 191 ∷ 195 ∷ 191 ∷ 195 ∷ 191 ∷ 195 ∷ 191 ∷ 195 ∷ 191 ∷ 195 ∷ 191 ∷ 195 ∷ 191 ∷ 195 ∷ 191 ∷ 195 ∷ 191 ∷ 195 ∷ 191 ∷ 195 ∷ 191 ∷ 195 ∷ 191 ∷ 195 ∷ 191 ∷ 195 ∷ 191 ∷ 195 ∷ 191 ∷ 195 ∷ 191 ∷ 195 ∷ 191 ∷ 195 ∷ 191 ∷ 195 ∷ 191 ∷ 195 ∷ 191 ∷ 195 ∷ 191 ∷ 195 ∷ 191 ∷ 195 ∷ 191 ∷ 195 ∷ 191 ∷ 195 ∷ 191 ∷ 195 ∷ 191 ∷ 195 ∷ 191 ∷ 195 ∷ 191 ∷ 195 ∷ 191 ∷ 195 ∷ 191 ∷ 195 ∷ 191 ∷ 195 ∷ 191 ∷ 195 ∷ 191 ∷ 195 ∷ 191 ∷ 195 ∷ 191 ∷ 195 ∷ 191 ∷ 195 ∷ 191 ∷ 195 ∷ 191 ∷ 195 ∷ 191 ∷ 195 ∷ 191 ∷ 195 ∷ 191 ∷ 195 ∷ 191 ∷ 195 ∷ 191 ∷ 195 ∷ 191 ∷ 195 ∷ 191 ∷ 195 ∷ 191 ∷ 195 ∷ 191 ∷ 195 ∷ 191 ∷ 195 ∷ 191 ∷ 195 ∷ 191 ∷ 195 ∷ 191 ∷ 195 ∷ 191 ∷ 195 ∷ 191 ∷ 195 ∷ 191 ∷ 195 ∷ 191 ∷ 195 ∷ 191 ∷ 195 ∷ 191 ∷ 195 ∷ 191 ∷ 195 ∷ 191 ∷ 195 ∷ 191 ∷ 195 ∷ 191 ∷ 195 ∷ 191 ∷ 195 ∷ 191 ∷ 195 ∷ 191 ∷ 195 ∷ 191 ∷ 195 ∷ 191 ∷ 195 ∷ 191 ∷ 195 ∷ 191 ∷ 195 ∷ 191 ∷ 195 ∷ 191 ∷ 195 ∷ 191 ∷ 195 ∷ 191 ∷ 195 ∷ 191 ∷ 195 ∷ 191 ∷ 195 ∷ 191 ∷ 195 ∷ 191 ∷ 195 ∷ 191 ∷ 195 ∷ 191 ∷ 195 ∷ 191 ∷ 195 ∷ 191 ∷ 195 ∷ 191 ∷ 195 ∷ 191 ∷ 195 ∷ 191 ∷ 195 ∷ 191 ∷ 195 ∷ 191 ∷ 195 ∷ 191 ∷ 195 ∷ 191 ∷ 195 ∷ 191 ∷ 195 ∷ 191 ∷ 195 ∷ 191 ∷ 195 ∷ 191 ∷ 195 ∷ 191 ∷ 195 ∷ 191 ∷ 195 ∷ 191 ∷ 195 ∷ 191 ∷ 195 ∷ 191 ∷ 195 ∷ 191 ∷ 195 ∷ 191 ∷ 195 ∷ 191 ∷ 195 ∷ 191 ∷ 195 ∷ 191 ∷ 195 ∷ 191 ∷ 195 ∷ 191 ∷ 195 ∷ 191 ∷ 195 ∷ 191 ∷ 195 ∷ 191 ∷ 195 ∷ 191 ∷ 195 ∷ 191 ∷ 195 ∷ 191 ∷ 195 ∷ 191 ∷ 195 ∷ 191 ∷ 195 ∷ 191 ∷ 195 ∷ 191 ∷ 195 ∷ 191 ∷ 195 ∷ 191 ∷ 195 ∷ 191 ∷ 195 ∷ 191 ∷ 195 ∷ 191 ∷ 195 ∷ 191 ∷ 195 ∷ 191 ∷ 195 ∷ 191 ∷ 195 ∷ 191 ∷ 195 ∷ 191 ∷ 195 ∷ 191 ∷ 195 ∷ 191 ∷ 195 ∷ 191 ∷ 195 ∷ 191 ∷ 195 ∷ 191 ∷ 195 ∷ 191 ∷ 195 ∷ 191 ∷ 195 ∷ 191 ∷ 195 ∷ 191 ∷ 195 ∷ 191 ∷ 195 ∷ 191 ∷ 195 ∷ 191 ∷ 195 ∷ 191 ∷ 195 ∷ 191 ∷ 195 ∷ 191 ∷ 195 ∷ 191 ∷ 195 ∷ 191 ∷ 195 ∷ 191 ∷ 195 ∷ 191 ∷ 195 ∷ 191 ∷ 195 ∷ 191 ∷ 195 ∷ 191 ∷ 195 ∷ 191 ∷ 195 ∷ 191 ∷ 195 ∷ 191 ∷ 195 ∷ 191 ∷ 195 ∷ 191 ∷ 195 ∷ 191 ∷ 195 ∷ 191 ∷ 195 ∷ 191 ∷ 195 ∷ 191 ∷ 195 ∷ 191 ∷ 195 ∷ 191 ∷ 195 ∷ 191 ∷ 195 ∷ 191 ∷ 195 ∷ 191 ∷ 195 ∷ 191 ∷ 195 ∷ 191 ∷ 195 ∷ 191 ∷ 195 ∷ 191 ∷ 195 ∷ 191 ∷ 195 ∷ 191 ∷ 195 ∷ 191 ∷ 195 ∷ 191 ∷ 195 ∷ 191 ∷ 195 ∷ 191 ∷ 195 ∷ 191 ∷ 195 ∷ 191 ∷ 195 ∷ 191 ∷ 195 ∷ 191 ∷ 195 ∷ 191 ∷ 195 ∷ 191 ∷ 195 ∷ 191 ∷ 195 ∷ 191 ∷ 195 ∷ 191 ∷ 195 ∷ 191 ∷ 195 ∷ 191 ∷ 195 ∷ 191 ∷ 195 ∷ 191 ∷ 195 ∷ 191 ∷ 195 ∷ 191 ∷ 195 ∷ 191 ∷ 195 ∷ 191 ∷ 195 ∷ 191 ∷ 195 ∷ 191 ∷ 195 ∷ 191 ∷ 195 ∷ 191 ∷ 195 ∷ 191 ∷ 195 ∷ 191 ∷ 195 ∷ 191 ∷ 195 ∷ 191 ∷ 195 ∷ 191 ∷ 195 ∷ 191 ∷ 195 ∷ 191 ∷ 195 ∷ 191 ∷ 195 ∷ 191 ∷ 195 ∷ 191 ∷ 195 ∷ 191 ∷ 195 ∷ 191 ∷ 195 ∷ 191 ∷ 195 ∷ 191 ∷ 195 ∷ 191 ∷ 195 ∷ 191 ∷ 195 ∷ 191 ∷ 195 ∷ 191 ∷ 195 ∷ 191 ∷ 195 ∷ 191 ∷ 195 ∷ 191 ∷ 195 ∷ 191 ∷ 195 ∷ 191 ∷ 195 ∷ 191 ∷ 195 ∷ 191 ∷ 195 ∷ 191 ∷ 195 ∷ 191 ∷ 195 ∷ 191 ∷ 195 ∷ 191 ∷ 195 ∷ 191 ∷ 195 ∷ 191 ∷ 195 ∷ 191 ∷ 195 ∷ 191 ∷ 195 ∷ 191 ∷ 195 ∷ 191 ∷ 195 ∷ 191 ∷ 195 ∷ 191 ∷ 195 ∷ 191 ∷ 195 ∷ 191 ∷ 195 ∷ 191 ∷ 195 ∷ 191 ∷ 195 ∷ 191 ∷ 195 ∷ 191 ∷ 195 ∷ 191 ∷ 195 ∷ 191 ∷ 195 ∷ 191 ∷ 195 ∷ 191 ∷ 195 ∷ 191 ∷ 195 ∷ 191 ∷ 195 ∷ 191 ∷ 195 ∷ 191 ∷ 96 ∷ []) ∷ [] }) (91 ∷ 96 ∷ 195 ∷ 191 ∷ 195 ∷ 191 ∷ 195 ∷ 191 ∷ 195 ∷ 191 ∷ 195 ∷ 191 ∷ 195 ∷ 191 ∷ 195 ∷ 191 ∷ 195 ∷ 191 ∷ 195 ∷ 191 ∷ 195 ∷ 191 ∷ 195 ∷ 191 ∷ 195 ∷ 191 ∷ 195 ∷ 191 ∷ 195 ∷ 191 ∷ 195 ∷ 191 ∷ 195 ∷ 191 ∷ 195 ∷ 191 ∷ 195 ∷ 191 ∷ 195 ∷ 191 ∷ 195 ∷ 191 ∷ 195 ∷ 191 ∷ 195 ∷ 191 ∷ 195 ∷ 191 ∷ 195 ∷ 191 ∷ 195 ∷ 191 ∷ 195 ∷ 191 ∷ 195 ∷ 191 ∷ 195 ∷ 191 ∷ 195 ∷ 191 ∷ 195 ∷ 191 ∷ 195 ∷ 191 ∷ 195 ∷ 191 ∷ 195 ∷ 191 ∷ 195 ∷ 191 ∷ 195 ∷ 191 ∷ 195 ∷ 191 ∷ 195 ∷ 191 ∷ 195 ∷ 191 ∷ 195 ∷ 191 ∷ 195 ∷ 191 ∷ 195 ∷ 191 ∷ 195 ∷ 191 ∷ 195 ∷ 191 ∷ 195 ∷ 191 ∷ 195 ∷ 191 ∷ 195 ∷ 191 ∷ 195 ∷ 191 ∷ 195 ∷ 191 ∷ 195 ∷ 191 ∷ 195 ∷ 191 ∷ 195 ∷ 191 ∷ 195 ∷ 191 ∷ 195 ∷ 191 ∷ 195 ∷ 191 ∷ 195 ∷ 191 ∷ 195 ∷ 191 ∷ 195 ∷ 191 ∷ 195 ∷ 191 ∷ 195 ∷ 191 ∷ 195 ∷ 191 ∷ 195 ∷ 191 ∷ 195 ∷ 191 ∷ 195 ∷ 191 ∷ 195 ∷ 191 ∷ 195 ∷ 191 ∷ 195 ∷ 191 ∷ 195 ∷ 191 ∷ 195 ∷ 191 ∷ 195 ∷ 191 ∷ 195 ∷ 191 ∷ 195 ∷ 191 ∷ 195 ∷ 191 ∷ 195 ∷ 191 ∷ 195 ∷ 191 ∷ 195 ∷ 191 ∷ 195 ∷ 191 ∷ 195 ∷ 191 ∷ 195 ∷ 191 ∷ 195 ∷ 191 ∷ 195 ∷ 191 ∷ 195 ∷ 191 ∷ 195 ∷ 191 ∷ 195 ∷ 191 ∷ 195 ∷ 191 ∷ 195 ∷ 191 ∷ 195 ∷ 191 ∷ 195 ∷ 191 ∷ 195 ∷ 191 ∷ 195 ∷ 191 ∷ 195 ∷ 191 ∷ 195 ∷ 191 ∷ 195 ∷ 191 ∷ 195 ∷ 191 ∷ 195 ∷ 191 ∷ 195 ∷ 191 ∷ 195 ∷ 191 ∷ 195 ∷ 191 ∷ 195 ∷ 191 ∷ 195 ∷ 191 ∷ 195 ∷ 191 ∷ 195 ∷ 191 ∷ 195 ∷ 191 ∷ 195 ∷ 191 ∷ 195 ∷ 191 ∷ 195 ∷ 191 ∷ 195 ∷ 191 ∷ 195 ∷ 191 ∷ 195 ∷ 191 ∷ 195 ∷ 191 ∷ 195 ∷ 191 ∷ 195 ∷ 191 ∷ 195 ∷ 191 ∷ 195 ∷ 191 ∷ 195 ∷ 191 ∷ 195 ∷ 191 ∷ 195 ∷ 191 ∷ 195 ∷ 191 ∷ 195 ∷ 191 ∷ 195 ∷ 191 ∷ 195 ∷ 191 ∷ 195 ∷ 191 ∷ 195 ∷ 191 ∷ 195 ∷ 191 ∷ 195 ∷ 191 ∷ 195 ∷ 191 ∷ 195 ∷ 191 ∷ 195 ∷ 191 ∷ 195 ∷ 191 ∷ 195 ∷ 191 ∷ 195 ∷ 191 ∷ 195 ∷ 191 ∷ 195 ∷ 191 ∷ 195 ∷ 191 ∷ 195 ∷ 191 ∷ 195 ∷ 191 ∷ 195 ∷ 191 ∷ 195 ∷ 191 ∷ 195 ∷ 191 ∷ 195 ∷ 191 ∷ 195 ∷ 191 ∷ 195 ∷ 191 ∷ 195 ∷ 191 ∷ 195 ∷ 191 ∷ 195 ∷ 191 ∷ 195 ∷ 191 ∷ 195 ∷ 191 ∷ 195 ∷ 191 ∷ 195 ∷ 191 ∷ 195 ∷ 191 ∷ 195 ∷ 191 ∷ 195 ∷ 191 ∷ 195 ∷ 191 ∷ 195 ∷ 191 ∷ 195 ∷ 191 ∷ 195 ∷ 191 ∷ 195 ∷ 191 ∷ 195 ∷ 191 ∷ 195 ∷ 191 ∷ 195 ∷ 191 ∷ 195 ∷ 191 ∷ 195 ∷ 191 ∷ 195 ∷ 191 ∷ 195 ∷ 191 ∷ 195 ∷ 191 ∷ 195 ∷ 191 ∷ 195 ∷ 191 ∷ 195 ∷ 191 ∷ 195 ∷ 191 ∷ 195 ∷ 191 ∷ 195 ∷ 191 ∷ 195 ∷ 191 ∷ 195 ∷ 191 ∷ 195 ∷ 191 ∷ 195 ∷ 191 ∷ 195 ∷ 191 ∷ 195 ∷ 191 ∷ 195 ∷ 191 ∷ 195 ∷ 191 ∷ 195 ∷ 191 ∷ 195 ∷ 191 ∷ 195 ∷ 191 ∷ 195 ∷ 191 ∷ 195 ∷ 191 ∷ 195 ∷ 191 ∷ 195 ∷ 191 ∷ 195 ∷ 191 ∷ 195 ∷ 191 ∷ 195 ∷ 191 ∷ 195 ∷ 191 ∷ 195 ∷ 191 ∷ 195 ∷ 191 ∷ 195 ∷ 191 ∷ 195 ∷ 191 ∷ 195 ∷ 191 ∷ 195 ∷ 191 ∷ 195 ∷ 191 ∷ 195 ∷ 191 ∷ 195 ∷ 191 ∷ 195 ∷ 191 ∷ 195 ∷ 191 ∷ 195 ∷ 191 ∷ 195 ∷ 191 ∷ 195 ∷ 191 ∷ 195 ∷ 191 ∷ 195 ∷ 191 ∷ 195 ∷ 191 ∷ 195 ∷ 191 ∷ 195 ∷ 191 ∷ 195 ∷ 191 ∷ 195 ∷ 191 ∷ 195 ∷ 191 ∷ 195 ∷ 191 ∷ 195 ∷ 191 ∷ 195 ∷ 191 ∷ 195 ∷ 191 ∷ 195 ∷ 191 ∷ 195 ∷ 191 ∷ 195 ∷ 191 ∷ 195 ∷ 191 ∷ 195 ∷ 191 ∷ 195 ∷ 191 ∷ 195 ∷ 191 ∷ 195 ∷ 191 ∷ 195 ∷ 191 ∷ 195 ∷ 191 ∷ 195 ∷ 191 ∷ 195 ∷ 191 ∷ 195 ∷ 191 ∷ 195 ∷ 191 ∷ 195 ∷ 191 ∷ 195 ∷ 191 ∷ 195 ∷ 191 ∷ 195 ∷ 191 ∷ 195 ∷ 191 ∷ 195 ∷ 191 ∷ 195 ∷ 191 ∷ 195 ∷ 191 ∷ 195 ∷ 191 ∷ 195 ∷ 191 ∷ 195 ∷ 191 ∷ 195 ∷ 191 ∷ 195 ∷ 191 ∷ 195 ∷ 191 ∷ 195 ∷ 191 ∷ 195 ∷ 191 ∷ 195 ∷ 191 ∷ 195 ∷ 191 ∷ 195 ∷ 191 ∷ 195 ∷ 191 ∷ 195 ∷ 191 ∷ 195 ∷ 191 ∷ 195 ∷ 191 ∷ 195 ∷ 191 ∷ 195 ∷ 191 ∷ 195 ∷ 191 ∷ 195 ∷ 191 ∷ 195 ∷ 191 ∷ 195 ∷ 191 ∷ 195 ∷ 191 ∷ 195 ∷ 191 ∷ 195 ∷ 191 ∷ 195 ∷ 191 ∷ 195 ∷ 191 ∷ 195 ∷ 191 ∷ 195 ∷ 191 ∷ 195 ∷ 191 ∷ 195 ∷ 191 ∷ 195 ∷ 191 ∷ 195 ∷ 191 ∷ 195 ∷ 191 ∷ 195 ∷ 191 ∷ 195 ∷ 191 ∷ 195 ∷ 191 ∷ 195 ∷ 191 ∷ 195 ∷ 191 ∷ 195 ∷ 191 ∷ 195 ∷ 191 ∷ 195 ∷ 191 ∷ 195 ∷ 191 ∷ 195 ∷ 191 ∷ 195 ∷ 191 ∷ 195 ∷ 191 ∷ 195 ∷ 191 ∷ 195 ∷ 191 ∷ 195 ∷ 191 ∷ 195 ∷ 191 ∷ 195 ∷ 191 ∷ 195 ∷ 191 ∷ 195 ∷ 191 ∷ 195 ∷ 191 ∷ 195 ∷ 191 ∷ 195 ∷ 191 ∷ 195 ∷ 191 ∷ 195 ∷ 191 ∷ 195 ∷ 191 ∷ 195 ∷ 191 ∷ 195 ∷ 191 ∷ 195 ∷ 191 ∷ 195 ∷ 191 ∷ 195 ∷ 191 ∷ 195 ∷ 191 ∷ 195 ∷ 191 ∷ 195 ∷ 191 ∷ 195 ∷ 191 ∷ 195 ∷ 191 ∷ 195 ∷ 191 ∷ 195 ∷ 191 ∷ 195 ∷ 191 ∷ 195 ∷ 191 ∷ 195 ∷ 191 ∷ 195 ∷ 191 ∷ 195 ∷ 191 ∷ 195 ∷ 191 ∷ 195 ∷ 191 ∷ 195 ∷ 191 ∷ 195 ∷ 191 ∷ 195 ∷ 191 ∷ 195 ∷ 191 ∷ 195 ∷ 191 ∷ 195 ∷ 191 ∷ 195 ∷ 191 ∷ 195 ∷ 191 ∷ 195 ∷ 191 ∷ 195 ∷ 191 ∷ 195 ∷ 191 ∷ 195 ∷ 191 ∷ 195 ∷ 191 ∷ 195 ∷ 191 ∷ 195 ∷ 191 ∷ 195 ∷ 191 ∷ 195 ∷ 191 ∷ 195 ∷ 191 ∷ 195 ∷ 191 ∷ 195 ∷ 191 ∷ 195 ∷ 191 ∷ 195 ∷ 191 ∷ 195 ∷ 191 ∷ 195 ∷ 191 ∷ 195 ∷ 191 ∷ 195 ∷ 191 ∷ 195 ∷ 191 ∷ 195 ∷ 191 ∷ 195 ∷ 191 ∷ 195 ∷ 191 ∷ 195 ∷ 191 ∷ 195 ∷ 191 ∷ 195 ∷ 191 ∷ 195 ∷ 191 ∷ 195 ∷ 191 ∷ 195 ∷ 191 ∷ 195 ∷ 191 ∷ 195 ∷ 191 ∷ 195 ∷ 191 ∷ 195 ∷ 191 ∷ 195 ∷ 191 ∷ 195 ∷ 191 ∷ 195 ∷ 191 ∷ 195 ∷ 191 ∷ 195 ∷ 191 ∷ 195 ∷ 191 ∷ 195 ∷ 191 ∷ 195 ∷ 191 ∷ 195 ∷ 191 ∷ 195 ∷ 191 ∷ 195 ∷ 191 ∷ 195 ∷ 191 ∷ 195 ∷ 191 ∷ 195 ∷ 191 ∷ 195 ∷ 191 ∷ 195 ∷ 191 ∷ 195 ∷ 191 ∷ 195 ∷ 191 ∷ 195 ∷ 191 ∷ 195 ∷ 191 ∷ 195 ∷ 191 ∷ 195 ∷ 191 ∷ 195 ∷ 191 ∷ 195 ∷ 191 ∷ 195 ∷ 191 ∷ 195 ∷ 191 ∷ 195 ∷ 191 ∷ 195 ∷ 191 ∷ 195 ∷ 191 ∷ 195 ∷ 191 ∷ 195 ∷ 191 ∷ 195 ∷ 191 ∷ 195 ∷ 191 ∷ 195 ∷ 191 ∷ 195 ∷ 191 ∷ 195 ∷ 191 ∷ 195 ∷ 191 ∷ 195 ∷ 191 ∷ 195 ∷ 191 ∷ 195 ∷ 191 ∷ 195 ∷ 191 ∷ 195 ∷ 191 ∷ 195 ∷ 191 ∷ 195 ∷ 191 ∷ 195 ∷ 191 ∷ 195 ∷ 191 ∷ 195 ∷ 191 ∷ 195 ∷ 191 ∷ 195 ∷ 191 ∷ 195 ∷ 191 ∷ 195 ∷ 191 ∷ 195 ∷ 191 ∷ 195 ∷ 191 ∷ 195 ∷ 191 ∷ 195 ∷ 191 ∷ 195 ∷ 191 ∷ 195 ∷ 191 ∷ 195 ∷ 191 ∷ 195 ∷ 191 ∷ 195 ∷ 191 ∷ 195 ∷ 191 ∷ 195 ∷ 191 ∷ 195 ∷ 191 ∷ 195 ∷ 191 ∷ 195 ∷ 191 ∷ 195 ∷ 191 ∷ 195 ∷ 191 ∷ 195 ∷ 191 ∷ 195 ∷ 191 ∷ 195 ∷ 191 ∷ 195 ∷ 191 ∷ 195 ∷ 191 ∷ 195 ∷ 191 ∷ 195 ∷ 191 ∷ 195 ∷ 191 ∷ 195 ∷ 191 ∷ 195 ∷ 191 ∷ 195 ∷ 191 ∷ 195 ∷ 191 ∷ 195 ∷ 191 ∷ 195 ∷ 191 ∷ 195 ∷ 191 ∷ 195 ∷ 191 ∷ 195 ∷ 191 ∷ 195 ∷ 191 ∷ 195 ∷ 191 ∷ 195 ∷ 191 ∷ 195 ∷ 191 ∷ 195 ∷ 191 ∷ 195 ∷ 191 ∷ 195 ∷ 191 ∷ 195 ∷ 191 ∷ 195 ∷ 191 ∷ 195 ∷ 191 ∷ 195 ∷ 191 ∷ 195 ∷ 191 ∷ 195 ∷ 191 ∷ 195 ∷ 191 ∷ 195 ∷ 191 ∷ 195 ∷ 191 ∷ 195 ∷ 191 ∷ 195 ∷ 191 ∷ 195 ∷ 191 ∷ 195 ∷ 191 ∷ 195 ∷ 191 ∷ 195 ∷ 191 ∷ 195 ∷ 191 ∷ 195 ∷ 191 ∷ 195 ∷ 191 ∷ 195 ∷ 191 ∷ 195 ∷ 191 ∷ 195 ∷ 191 ∷ 195 ∷ 191 ∷ 195 ∷ 191 ∷ 195 ∷ 191 ∷ 195 ∷ 191 ∷ 195 ∷ 191 ∷ 195 ∷ 191 ∷ 195 ∷ 191 ∷ 195 ∷ 191 ∷ 195 ∷ 191 ∷ 195 ∷ 191 ∷ 195 ∷ 191 ∷ 195 ∷ 191 ∷ 195 ∷ 191 ∷ 195 ∷ 191 ∷ 195 ∷ 191 ∷ 195 ∷ 191 ∷ 195 ∷ 191 ∷ 195 ∷ 191 ∷ 195 ∷ 191 ∷ 195 ∷ 191 ∷ 195 ∷ 191 ∷ 195 ∷ 191 ∷ 195 ∷ 191 ∷ 195 ∷ 191 ∷ 195 ∷ 191 ∷ 195 ∷ 191 ∷ 195 ∷ 191 ∷ 195 ∷ 191 ∷ 195 ∷ 191 ∷ 195 ∷ 191 ∷ 195 ∷ 191 ∷ 195 ∷ 191 ∷ 195 ∷ 191 ∷ 195 ∷ 191 ∷ 96 ∷ 93 ∷ []) (piece 0 0 1004 0 ∷ []) ≡ (enter Name.Link 1 1 0 0 ∷ exit Name.Link 1 1005 1004 0 ∷ [])) ×
    -- text outer commonmark definition=⟦ÿ×500⟧ «[x][⟦ÿ×500⟧]»: Link 0-1005
    (text_outline (record default { options = record default_options { commonmark = true }; definitions = (195 ∷ 191 ∷ 195 ∷ 191 ∷ 195 ∷ 191 ∷ 195 ∷ 191 ∷ 195 ∷ 191 ∷ 195 ∷ 191 ∷ 195 ∷ 191 ∷ 195 ∷ 191 ∷ 195 ∷ 191 ∷ 195 ∷ 191 ∷ 195 ∷ 191 ∷ 195 ∷ 191 ∷ 195 ∷ 191 ∷ 195 ∷ 191 ∷ 195 ∷ 191 ∷ 195 ∷ 191 ∷ 195 ∷ 191 ∷ 195 ∷ 191 ∷ 195 ∷ 191 ∷ 195 ∷ 191 ∷ 195 ∷ 191 ∷ 195 ∷ 191 ∷ 195 ∷ 191 ∷ 195 ∷ 191 ∷ 195 ∷ 191 ∷ 195 ∷ 191 ∷ 195 ∷ 191 ∷ 195 ∷ 191 ∷ 195 ∷ 191 ∷ 195 ∷ 191 ∷ 195 ∷ 191 ∷ 195 ∷ 191 ∷ 195 ∷ 191 ∷ 195 ∷ 191 ∷ 195 ∷ 191 ∷ 195 ∷ 191 ∷ 195 ∷ 191 ∷ 195 ∷ 191 ∷ 195 ∷ 191 ∷ 195 ∷ 191 ∷ 195 ∷ 191 ∷ 195 ∷ 191 ∷ 195 ∷ 191 ∷ 195 ∷ 191 ∷ 195 ∷ 191 ∷ 195 ∷ 191 ∷ 195 ∷ 191 ∷ 195 ∷ 191 ∷ 195 ∷ 191 ∷ 195 ∷ 191 ∷ 195 ∷ 191 ∷ 195 ∷ 191 ∷ 195 ∷ 191 ∷ 195 ∷ 191 ∷ 195 ∷ 191 ∷ 195 ∷ 191 ∷ 195 ∷ 191 ∷ 195 ∷ 191 ∷ 195 ∷ 191 ∷ 195 ∷ 191 ∷ 195 ∷ 191 ∷ 195 ∷ 191 ∷ 195 ∷ 191 ∷ 195 ∷ 191 ∷ 195 ∷ 191 ∷ 195 ∷ 191 ∷ 195 ∷ 191 ∷ 195 ∷ 191 ∷ 195 ∷ 191 ∷ 195 ∷ 191 ∷ 195 ∷ 191 ∷ 195 ∷ 191 ∷ 195 ∷ 191 ∷ 195 ∷ 191 ∷ 195 ∷ 191 ∷ 195 ∷ 191 ∷ 195 ∷ 191 ∷ 195 ∷ 191 ∷ 195 ∷ 191 ∷ 195 ∷ 191 ∷ 195 ∷ 191 ∷ 195 ∷ 191 ∷ 195 ∷ 191 ∷ 195 ∷ 191 ∷ 195 ∷ 191 ∷ 195 ∷ 191 ∷ 195 ∷ 191 ∷ 195 ∷ 191 ∷ 195 ∷ 191 ∷ 195 ∷ 191 ∷ 195 ∷ 191 ∷ 195 ∷ 191 ∷ 195 ∷ 191 ∷ 195 ∷ 191 ∷ 195 ∷ 191 ∷ 195 ∷ 191 ∷ 195 ∷ 191 ∷ 195 ∷ 191 ∷ 195 ∷ 191 ∷ 195 ∷ 191 ∷ 195 ∷ 191 ∷ 195 ∷ 191 ∷ 195 ∷ 191 ∷ 195 ∷ 191 ∷ 195 ∷ 191 ∷ 195 ∷ 191 ∷ 195 ∷ 191 ∷ 195 ∷ 191 ∷ 195 ∷ 191 ∷ 195 ∷ 191 ∷ 195 ∷ 191 ∷ 195 ∷ 191 ∷ 195 ∷ 191 ∷ 195 ∷ 191 ∷ 195 ∷ 191 ∷ 195 ∷ 191 ∷ 195 ∷ 191 ∷ 195 ∷ 191 ∷ 195 ∷ 191 ∷ 195 ∷ 191 ∷ 195 ∷ 191 ∷ 195 ∷ 191 ∷ 195 ∷ 191 ∷ 195 ∷ 191 ∷ 195 ∷ 191 ∷ 195 ∷ 191 ∷ 195 ∷ 191 ∷ 195 ∷ 191 ∷ 195 ∷ 191 ∷ 195 ∷ 191 ∷ 195 ∷ 191 ∷ 195 ∷ 191 ∷ 195 ∷ 191 ∷ 195 ∷ 191 ∷ 195 ∷ 191 ∷ 195 ∷ 191 ∷ 195 ∷ 191 ∷ 195 ∷ 191 ∷ 195 ∷ 191 ∷ 195 ∷ 191 ∷ 195 ∷ 191 ∷ 195 ∷ 191 ∷ 195 ∷ 191 ∷ 195 ∷ 191 ∷ 195 ∷ 191 ∷ 195 ∷ 191 ∷ 195 ∷ 191 ∷ 195 ∷ 191 ∷ 195 ∷ 191 ∷ 195 ∷ 191 ∷ 195 ∷ 191 ∷ 195 ∷ 191 ∷ 195 ∷ 191 ∷ 195 ∷ 191 ∷ 195 ∷ 191 ∷ 195 ∷ 191 ∷ 195 ∷ 191 ∷ 195 ∷ 191 ∷ 195 ∷ 191 ∷ 195 ∷ 191 ∷ 195 ∷ 191 ∷ 195 ∷ 191 ∷ 195 ∷ 191 ∷ 195 ∷ 191 ∷ 195 ∷ 191 ∷ 195 ∷ 191 ∷ 195 ∷ 191 ∷ 195 ∷ 191 ∷ 195 ∷ 191 ∷ 195 ∷ 191 ∷ 195 ∷ 191 ∷ 195 ∷ 191 ∷ 195 ∷ 191 ∷ 195 ∷ 191 ∷ 195 ∷ 191 ∷ 195 ∷ 191 ∷ 195 ∷ 191 ∷ 195 ∷ 191 ∷ 195 ∷ 191 ∷ 195 ∷ 191 ∷ 195 ∷ 191 ∷ 195 ∷ 191 ∷ 195 ∷ 191 ∷ 195 ∷ 191 ∷ 195 ∷ 191 ∷ 195 ∷ 191 ∷ 195 ∷ 191 ∷ 195 ∷ 191 ∷ 195 ∷ 191 ∷ 195 ∷ 191 ∷ 195 ∷ 191 ∷ 195 ∷ 191 ∷ 195 ∷ 191 ∷ 195 ∷ 191 ∷ 195 ∷ 191 ∷ 195 ∷ 191 ∷ 195 ∷ 191 ∷ 195 ∷ 191 ∷ 195 ∷ 191 ∷ 195 ∷ 191 ∷ 195 ∷ 191 ∷ 195 ∷ 191 ∷ 195 ∷ 191 ∷ 195 ∷ 191 ∷ 195 ∷ 191 ∷ 195 ∷ 191 ∷ 195 ∷ 191 ∷ 195 ∷ 191 ∷ 195 ∷ 191 ∷ 195 ∷ 191 ∷ 195 ∷ 191 ∷ 195 ∷ 191 ∷ 195 ∷ 191 ∷ 195 ∷ 191 ∷ 195 ∷ 191 ∷ 195 ∷ 191 ∷ 195 ∷ 191 ∷ 195 ∷ 191 ∷ 195 ∷ 191 ∷ 195 ∷ 191 ∷ 195 ∷ 191 ∷ 195 ∷ 191 ∷ 195 ∷ 191 ∷ 195 ∷ 191 ∷ 195 ∷ 191 ∷ 195 ∷ 191 ∷ 195 ∷ 191 ∷ 195 ∷ 191 ∷ 195 ∷ 191 ∷ 195 ∷ 191 ∷ 195 ∷ 191 ∷ 195 ∷ 191 ∷ 195 ∷ 191 ∷ 195 ∷ 191 ∷ 195 ∷ 191 ∷ 195 ∷ 191 ∷ 195 ∷ 191 ∷ 195 ∷ 191 ∷ 195 ∷ 191 ∷ 195 ∷ 191 ∷ 195 ∷ 191 ∷ 195 ∷ 191 ∷ 195 ∷ 191 ∷ 195 ∷ 191 ∷ 195 ∷ 191 ∷ 195 ∷ 191 ∷ 195 ∷ 191 ∷ 195 ∷ 191 ∷ 195 ∷ 191 ∷ 195 ∷ 191 ∷ 195 ∷ 191 ∷ 195 ∷ 191 ∷ 195 ∷ 191 ∷ 195 ∷ 191 ∷ 195 ∷ 191 ∷ 195 ∷ 191 ∷ 195 ∷ 191 ∷ 195 ∷ 191 ∷ 195 ∷ 191 ∷ 195 ∷ 191 ∷ 195 ∷ 191 ∷ 195 ∷ 191 ∷ 195 ∷ 191 ∷ 195 ∷ 191 ∷ 195 ∷ 191 ∷ 195 ∷ 191 ∷ 195 ∷ 191 ∷ 195 ∷ 191 ∷ 195 ∷ 191 ∷ 195 ∷ 191 ∷ 195 ∷ 191 ∷ 195 ∷ 191 ∷ 195 ∷ 191 ∷ 195 ∷ 191 ∷ 195 ∷ 191 ∷ 195 ∷ 191 ∷ 195 ∷ 191 ∷ 195 ∷ 191 ∷ 195 ∷ 191 ∷ 195 ∷ 191 ∷ 195 ∷ 191 ∷ 195 ∷ 191 ∷ 195 ∷ 191 ∷ 195 ∷ 191 ∷ 195 ∷ 191 ∷ 195 ∷ 191 ∷ 195 ∷ 191 ∷ 195 ∷ 191 ∷ 195 ∷ 191 ∷ 195 ∷ 191 ∷ 195 ∷ 191 ∷ 195 ∷ 191 ∷ 195 ∷ 191 ∷ 195 ∷ 191 ∷ 195 ∷ 191 ∷ 195 ∷ 191 ∷ 195 ∷ 191 ∷ 195 ∷ 191 ∷ 195 ∷ 191 ∷ 195 ∷ 191 ∷ 195 ∷ 191 ∷ 195 ∷ 191 ∷ 195 ∷ 191 ∷ 195 ∷ 191 ∷ 195 ∷ 191 ∷ 195 ∷ 191 ∷ 195 ∷ 191 ∷ 195 ∷ 191 ∷ 195 ∷ 191 ∷ 195 ∷ 191 ∷ 195 ∷ 191 ∷ 195 ∷ 191 ∷ 195 ∷ 191 ∷ 195 ∷ 191 ∷ 195 ∷ 191 ∷ 195 ∷ 191 ∷ 195 ∷ 191 ∷ 195 ∷ 191 ∷ 195 ∷ 191 ∷ 195 ∷ 191 ∷ 195 ∷ 191 ∷ 195 ∷ 191 ∷ 195 ∷ 191 ∷ 195 ∷ 191 ∷ 195 ∷ 191 ∷ 195 ∷ 191 ∷ 195 ∷ 191 ∷ 195 ∷ 191 ∷ 195 ∷ 191 ∷ 195 ∷ 191 ∷ 195 ∷ 191 ∷ 195 ∷ 191 ∷ 195 ∷ 191 ∷ 195 ∷ 191 ∷ 195 ∷ 191 ∷ 195 ∷ 191 ∷ 195 ∷ 191 ∷ 195 ∷ 191 ∷ 195 ∷ 191 ∷ 195 ∷ 191 ∷ 195 ∷ 191 ∷ 195 ∷ 191 ∷ 195 ∷ 191 ∷ 195 ∷ 191 ∷ 195 ∷ 191 ∷ 195 ∷ 191 ∷ 195 ∷ 191 ∷ 195 ∷ 191 ∷ 195 ∷ 191 ∷ 195 ∷ 191 ∷ 195 ∷ 191 ∷ 195 ∷ 191 ∷ 195 ∷ 191 ∷ 195 ∷ 191 ∷ 195 ∷ 191 ∷ 195 ∷ 191 ∷ 195 ∷ 191 ∷ 195 ∷ 191 ∷ 195 ∷ 191 ∷ 195 ∷ 191 ∷ 195 ∷ 191 ∷ 195 ∷ 191 ∷ 195 ∷ 191 ∷ 195 ∷ 191 ∷ 195 ∷ 191 ∷ 195 ∷ 191 ∷ 195 ∷ 191 ∷ 195 ∷ 191 ∷ 195 ∷ 191 ∷ 195 ∷ 191 ∷ 195 ∷ 191 ∷ 195 ∷ 191 ∷ 195 ∷ 191 ∷ 195 ∷ 191 ∷ 195 ∷ 191 ∷ 195 ∷ 191 ∷ 195 ∷ 191 ∷ 195 ∷ 191 ∷ 195 ∷ 191 ∷ 195 ∷ 191 ∷ 195 ∷ 191 ∷ 195 ∷ 191 ∷ 195 ∷ 191 ∷ 195 ∷ 191 ∷ 195 ∷ 191 ∷ 195 ∷ 191 ∷ 195 ∷ 191 ∷ 195 ∷ 191 ∷ 195 ∷ 191 ∷ 195 ∷ 191 ∷ 195 ∷ 191 ∷ 195 ∷ 191 ∷ 195 ∷ 191 ∷ 195 ∷ 191 ∷ 195 ∷ 191 ∷ 195 ∷ 191 ∷ 195 ∷ 191 ∷ 195 ∷ 191 ∷ 195 ∷ 191 ∷ 195 ∷ 191 ∷ 195 ∷ 191 ∷ 195 ∷ 191 ∷ 195 ∷ 191 ∷ 195 ∷ 191 ∷ 195 ∷ 191 ∷ 195 ∷ 191 ∷ 195 ∷ 191 ∷ 195 ∷ 191 ∷ 195 ∷ 191 ∷ 195 ∷ 191 ∷ 195 ∷ 191 ∷ 195 ∷ 191 ∷ 195 ∷ 191 ∷ 195 ∷ 191 ∷ 195 ∷ 191 ∷ 195 ∷ 191 ∷ 195 ∷ 191 ∷ 195 ∷ 191 ∷ 195 ∷ 191 ∷ 195 ∷ 191 ∷ 195 ∷ 191 ∷ 195 ∷ 191 ∷ 195 ∷ 191 ∷ 195 ∷ 191 ∷ 195 ∷ 191 ∷ 195 ∷ 191 ∷ 195 ∷ 191 ∷ 195 ∷ 191 ∷ 195 ∷ 191 ∷ 195 ∷ 191 ∷ 195 ∷ 191 ∷ 195 ∷ 191 ∷ 195 ∷ 191 ∷ 195 ∷ 191 ∷ 195 ∷ 191 ∷ 195 ∷ 191 ∷ 195 ∷ 191 ∷ 195 ∷ 191 ∷ 195 ∷ 191 ∷ 195 ∷ 191 ∷ 195 ∷ 191 ∷ 195 ∷ 191 ∷ 195 ∷ 191 ∷ 195 ∷ 191 ∷ 195 ∷ 191 ∷ 195 ∷ 191 ∷ 195 ∷ 191 ∷ 195 ∷ 191 ∷ 195 ∷ 191 ∷ 195 ∷ 191 ∷ 195 ∷ 191 ∷ 195 ∷ 191 ∷ 195 ∷ 191 ∷ 195 ∷ 191 ∷ 195 ∷ 191 ∷ 195 ∷ 191 ∷ 195 ∷ 191 ∷ 195 ∷ 191 ∷ 195 ∷ 191 ∷ 195 ∷ 191 ∷ 195 ∷ 191 ∷ 195 ∷ 191 ∷ 195 ∷ 191 ∷ 195 ∷ 191 ∷ 195 ∷ 191 ∷ 195 ∷ 191 ∷ 195 ∷ 191 ∷ 195 ∷ 191 ∷ 195 ∷ 191 ∷ 195 ∷ 191 ∷ 195 ∷ 191 ∷ 195 ∷ 191 ∷ 195 ∷ 191 ∷ 195 ∷ 191 ∷ 195 ∷ 191 ∷ 195 ∷ 191 ∷ 195 ∷ 191 ∷ 195 ∷ 191 ∷ 195 ∷ 191 ∷ 195 ∷ 191 ∷ 195 ∷ 191 ∷ 195 ∷ 191 ∷ 195 ∷ 191 ∷ 195 ∷ 191 ∷ 195 ∷ 191 ∷ 195 ∷ 191 ∷ 195 ∷ 191 ∷ 195 ∷ 191 ∷ 195 ∷ 191 ∷ 195 ∷ 191 ∷ 195 ∷ 191 ∷ 195 ∷ 191 ∷ 195 ∷ 191 ∷ 195 ∷ 191 ∷ 195 ∷ 191 ∷ 195 ∷ 191 ∷ 195 ∷ 191 ∷ 195 ∷ 191 ∷ 195 ∷ 191 ∷ 195 ∷ 191 ∷ []) ∷ [] }) (91 ∷ 120 ∷ 93 ∷ 91 ∷ 195 ∷ 191 ∷ 195 ∷ 191 ∷ 195 ∷ 191 ∷ 195 ∷ 191 ∷ 195 ∷ 191 ∷ 195 ∷ 191 ∷ 195 ∷ 191 ∷ 195 ∷ 191 ∷ 195 ∷ 191 ∷ 195 ∷ 191 ∷ 195 ∷ 191 ∷ 195 ∷ 191 ∷ 195 ∷ 191 ∷ 195 ∷ 191 ∷ 195 ∷ 191 ∷ 195 ∷ 191 ∷ 195 ∷ 191 ∷ 195 ∷ 191 ∷ 195 ∷ 191 ∷ 195 ∷ 191 ∷ 195 ∷ 191 ∷ 195 ∷ 191 ∷ 195 ∷ 191 ∷ 195 ∷ 191 ∷ 195 ∷ 191 ∷ 195 ∷ 191 ∷ 195 ∷ 191 ∷ 195 ∷ 191 ∷ 195 ∷ 191 ∷ 195 ∷ 191 ∷ 195 ∷ 191 ∷ 195 ∷ 191 ∷ 195 ∷ 191 ∷ 195 ∷ 191 ∷ 195 ∷ 191 ∷ 195 ∷ 191 ∷ 195 ∷ 191 ∷ 195 ∷ 191 ∷ 195 ∷ 191 ∷ 195 ∷ 191 ∷ 195 ∷ 191 ∷ 195 ∷ 191 ∷ 195 ∷ 191 ∷ 195 ∷ 191 ∷ 195 ∷ 191 ∷ 195 ∷ 191 ∷ 195 ∷ 191 ∷ 195 ∷ 191 ∷ 195 ∷ 191 ∷ 195 ∷ 191 ∷ 195 ∷ 191 ∷ 195 ∷ 191 ∷ 195 ∷ 191 ∷ 195 ∷ 191 ∷ 195 ∷ 191 ∷ 195 ∷ 191 ∷ 195 ∷ 191 ∷ 195 ∷ 191 ∷ 195 ∷ 191 ∷ 195 ∷ 191 ∷ 195 ∷ 191 ∷ 195 ∷ 191 ∷ 195 ∷ 191 ∷ 195 ∷ 191 ∷ 195 ∷ 191 ∷ 195 ∷ 191 ∷ 195 ∷ 191 ∷ 195 ∷ 191 ∷ 195 ∷ 191 ∷ 195 ∷ 191 ∷ 195 ∷ 191 ∷ 195 ∷ 191 ∷ 195 ∷ 191 ∷ 195 ∷ 191 ∷ 195 ∷ 191 ∷ 195 ∷ 191 ∷ 195 ∷ 191 ∷ 195 ∷ 191 ∷ 195 ∷ 191 ∷ 195 ∷ 191 ∷ 195 ∷ 191 ∷ 195 ∷ 191 ∷ 195 ∷ 191 ∷ 195 ∷ 191 ∷ 195 ∷ 191 ∷ 195 ∷ 191 ∷ 195 ∷ 191 ∷ 195 ∷ 191 ∷ 195 ∷ 191 ∷ 195 ∷ 191 ∷ 195 ∷ 191 ∷ 195 ∷ 191 ∷ 195 ∷ 191 ∷ 195 ∷ 191 ∷ 195 ∷ 191 ∷ 195 ∷ 191 ∷ 195 ∷ 191 ∷ 195 ∷ 191 ∷ 195 ∷ 191 ∷ 195 ∷ 191 ∷ 195 ∷ 191 ∷ 195 ∷ 191 ∷ 195 ∷ 191 ∷ 195 ∷ 191 ∷ 195 ∷ 191 ∷ 195 ∷ 191 ∷ 195 ∷ 191 ∷ 195 ∷ 191 ∷ 195 ∷ 191 ∷ 195 ∷ 191 ∷ 195 ∷ 191 ∷ 195 ∷ 191 ∷ 195 ∷ 191 ∷ 195 ∷ 191 ∷ 195 ∷ 191 ∷ 195 ∷ 191 ∷ 195 ∷ 191 ∷ 195 ∷ 191 ∷ 195 ∷ 191 ∷ 195 ∷ 191 ∷ 195 ∷ 191 ∷ 195 ∷ 191 ∷ 195 ∷ 191 ∷ 195 ∷ 191 ∷ 195 ∷ 191 ∷ 195 ∷ 191 ∷ 195 ∷ 191 ∷ 195 ∷ 191 ∷ 195 ∷ 191 ∷ 195 ∷ 191 ∷ 195 ∷ 191 ∷ 195 ∷ 191 ∷ 195 ∷ 191 ∷ 195 ∷ 191 ∷ 195 ∷ 191 ∷ 195 ∷ 191 ∷ 195 ∷ 191 ∷ 195 ∷ 191 ∷ 195 ∷ 191 ∷ 195 ∷ 191 ∷ 195 ∷ 191 ∷ 195 ∷ 191 ∷ 195 ∷ 191 ∷ 195 ∷ 191 ∷ 195 ∷ 191 ∷ 195 ∷ 191 ∷ 195 ∷ 191 ∷ 195 ∷ 191 ∷ 195 ∷ 191 ∷ 195 ∷ 191 ∷ 195 ∷ 191 ∷ 195 ∷ 191 ∷ 195 ∷ 191 ∷ 195 ∷ 191 ∷ 195 ∷ 191 ∷ 195 ∷ 191 ∷ 195 ∷ 191 ∷ 195 ∷ 191 ∷ 195 ∷ 191 ∷ 195 ∷ 191 ∷ 195 ∷ 191 ∷ 195 ∷ 191 ∷ 195 ∷ 191 ∷ 195 ∷ 191 ∷ 195 ∷ 191 ∷ 195 ∷ 191 ∷ 195 ∷ 191 ∷ 195 ∷ 191 ∷ 195 ∷ 191 ∷ 195 ∷ 191 ∷ 195 ∷ 191 ∷ 195 ∷ 191 ∷ 195 ∷ 191 ∷ 195 ∷ 191 ∷ 195 ∷ 191 ∷ 195 ∷ 191 ∷ 195 ∷ 191 ∷ 195 ∷ 191 ∷ 195 ∷ 191 ∷ 195 ∷ 191 ∷ 195 ∷ 191 ∷ 195 ∷ 191 ∷ 195 ∷ 191 ∷ 195 ∷ 191 ∷ 195 ∷ 191 ∷ 195 ∷ 191 ∷ 195 ∷ 191 ∷ 195 ∷ 191 ∷ 195 ∷ 191 ∷ 195 ∷ 191 ∷ 195 ∷ 191 ∷ 195 ∷ 191 ∷ 195 ∷ 191 ∷ 195 ∷ 191 ∷ 195 ∷ 191 ∷ 195 ∷ 191 ∷ 195 ∷ 191 ∷ 195 ∷ 191 ∷ 195 ∷ 191 ∷ 195 ∷ 191 ∷ 195 ∷ 191 ∷ 195 ∷ 191 ∷ 195 ∷ 191 ∷ 195 ∷ 191 ∷ 195 ∷ 191 ∷ 195 ∷ 191 ∷ 195 ∷ 191 ∷ 195 ∷ 191 ∷ 195 ∷ 191 ∷ 195 ∷ 191 ∷ 195 ∷ 191 ∷ 195 ∷ 191 ∷ 195 ∷ 191 ∷ 195 ∷ 191 ∷ 195 ∷ 191 ∷ 195 ∷ 191 ∷ 195 ∷ 191 ∷ 195 ∷ 191 ∷ 195 ∷ 191 ∷ 195 ∷ 191 ∷ 195 ∷ 191 ∷ 195 ∷ 191 ∷ 195 ∷ 191 ∷ 195 ∷ 191 ∷ 195 ∷ 191 ∷ 195 ∷ 191 ∷ 195 ∷ 191 ∷ 195 ∷ 191 ∷ 195 ∷ 191 ∷ 195 ∷ 191 ∷ 195 ∷ 191 ∷ 195 ∷ 191 ∷ 195 ∷ 191 ∷ 195 ∷ 191 ∷ 195 ∷ 191 ∷ 195 ∷ 191 ∷ 195 ∷ 191 ∷ 195 ∷ 191 ∷ 195 ∷ 191 ∷ 195 ∷ 191 ∷ 195 ∷ 191 ∷ 195 ∷ 191 ∷ 195 ∷ 191 ∷ 195 ∷ 191 ∷ 195 ∷ 191 ∷ 195 ∷ 191 ∷ 195 ∷ 191 ∷ 195 ∷ 191 ∷ 195 ∷ 191 ∷ 195 ∷ 191 ∷ 195 ∷ 191 ∷ 195 ∷ 191 ∷ 195 ∷ 191 ∷ 195 ∷ 191 ∷ 195 ∷ 191 ∷ 195 ∷ 191 ∷ 195 ∷ 191 ∷ 195 ∷ 191 ∷ 195 ∷ 191 ∷ 195 ∷ 191 ∷ 195 ∷ 191 ∷ 195 ∷ 191 ∷ 195 ∷ 191 ∷ 195 ∷ 191 ∷ 195 ∷ 191 ∷ 195 ∷ 191 ∷ 195 ∷ 191 ∷ 195 ∷ 191 ∷ 195 ∷ 191 ∷ 195 ∷ 191 ∷ 195 ∷ 191 ∷ 195 ∷ 191 ∷ 195 ∷ 191 ∷ 195 ∷ 191 ∷ 195 ∷ 191 ∷ 195 ∷ 191 ∷ 195 ∷ 191 ∷ 195 ∷ 191 ∷ 195 ∷ 191 ∷ 195 ∷ 191 ∷ 195 ∷ 191 ∷ 195 ∷ 191 ∷ 195 ∷ 191 ∷ 195 ∷ 191 ∷ 195 ∷ 191 ∷ 195 ∷ 191 ∷ 195 ∷ 191 ∷ 195 ∷ 191 ∷ 195 ∷ 191 ∷ 195 ∷ 191 ∷ 195 ∷ 191 ∷ 195 ∷ 191 ∷ 195 ∷ 191 ∷ 195 ∷ 191 ∷ 195 ∷ 191 ∷ 195 ∷ 191 ∷ 195 ∷ 191 ∷ 195 ∷ 191 ∷ 195 ∷ 191 ∷ 195 ∷ 191 ∷ 195 ∷ 191 ∷ 195 ∷ 191 ∷ 195 ∷ 191 ∷ 195 ∷ 191 ∷ 195 ∷ 191 ∷ 195 ∷ 191 ∷ 195 ∷ 191 ∷ 195 ∷ 191 ∷ 195 ∷ 191 ∷ 195 ∷ 191 ∷ 195 ∷ 191 ∷ 195 ∷ 191 ∷ 195 ∷ 191 ∷ 195 ∷ 191 ∷ 195 ∷ 191 ∷ 195 ∷ 191 ∷ 195 ∷ 191 ∷ 195 ∷ 191 ∷ 195 ∷ 191 ∷ 195 ∷ 191 ∷ 195 ∷ 191 ∷ 195 ∷ 191 ∷ 195 ∷ 191 ∷ 195 ∷ 191 ∷ 195 ∷ 191 ∷ 195 ∷ 191 ∷ 195 ∷ 191 ∷ 195 ∷ 191 ∷ 195 ∷ 191 ∷ 195 ∷ 191 ∷ 195 ∷ 191 ∷ 195 ∷ 191 ∷ 195 ∷ 191 ∷ 195 ∷ 191 ∷ 195 ∷ 191 ∷ 195 ∷ 191 ∷ 195 ∷ 191 ∷ 195 ∷ 191 ∷ 195 ∷ 191 ∷ 195 ∷ 191 ∷ 195 ∷ 191 ∷ 195 ∷ 191 ∷ 195 ∷ 191 ∷ 195 ∷ 191 ∷ 195 ∷ 191 ∷ 195 ∷ 191 ∷ 195 ∷ 191 ∷ 195 ∷ 191 ∷ 195 ∷ 191 ∷ 195 ∷ 191 ∷ 195 ∷ 191 ∷ 195 ∷ 191 ∷ 195 ∷ 191 ∷ 195 ∷ 191 ∷ 195 ∷ 191 ∷ 195 ∷ 191 ∷ 195 ∷ 191 ∷ 195 ∷ 191 ∷ 195 ∷ 191 ∷ 195 ∷ 191 ∷ 195 ∷ 191 ∷ 195 ∷ 191 ∷ 195 ∷ 191 ∷ 195 ∷ 191 ∷ 195 ∷ 191 ∷ 195 ∷ 191 ∷ 195 ∷ 191 ∷ 195 ∷ 191 ∷ 195 ∷ 191 ∷ 195 ∷ 191 ∷ 195 ∷ 191 ∷ 195 ∷ 191 ∷ 195 ∷ 191 ∷ 195 ∷ 191 ∷ 195 ∷ 191 ∷ 195 ∷ 191 ∷ 195 ∷ 191 ∷ 195 ∷ 191 ∷ 195 ∷ 191 ∷ 195 ∷ 191 ∷ 195 ∷ 191 ∷ 195 ∷ 191 ∷ 195 ∷ 191 ∷ 195 ∷ 191 ∷ 195 ∷ 191 ∷ 195 ∷ 191 ∷ 195 ∷ 191 ∷ 195 ∷ 191 ∷ 195 ∷ 191 ∷ 195 ∷ 191 ∷ 195 ∷ 191 ∷ 195 ∷ 191 ∷ 195 ∷ 191 ∷ 195 ∷ 191 ∷ 195 ∷ 191 ∷ 195 ∷ 191 ∷ 195 ∷ 191 ∷ 195 ∷ 191 ∷ 195 ∷ 191 ∷ 195 ∷ 191 ∷ 195 ∷ 191 ∷ 195 ∷ 191 ∷ 195 ∷ 191 ∷ 195 ∷ 191 ∷ 195 ∷ 191 ∷ 195 ∷ 191 ∷ 195 ∷ 191 ∷ 195 ∷ 191 ∷ 195 ∷ 191 ∷ 195 ∷ 191 ∷ 195 ∷ 191 ∷ 195 ∷ 191 ∷ 195 ∷ 191 ∷ 195 ∷ 191 ∷ 195 ∷ 191 ∷ 195 ∷ 191 ∷ 195 ∷ 191 ∷ 195 ∷ 191 ∷ 195 ∷ 191 ∷ 195 ∷ 191 ∷ 195 ∷ 191 ∷ 195 ∷ 191 ∷ 195 ∷ 191 ∷ 195 ∷ 191 ∷ 195 ∷ 191 ∷ 195 ∷ 191 ∷ 195 ∷ 191 ∷ 195 ∷ 191 ∷ 195 ∷ 191 ∷ 195 ∷ 191 ∷ 195 ∷ 191 ∷ 195 ∷ 191 ∷ 195 ∷ 191 ∷ 195 ∷ 191 ∷ 195 ∷ 191 ∷ 195 ∷ 191 ∷ 195 ∷ 191 ∷ 195 ∷ 191 ∷ 195 ∷ 191 ∷ 195 ∷ 191 ∷ 195 ∷ 191 ∷ 195 ∷ 191 ∷ 195 ∷ 191 ∷ 195 ∷ 191 ∷ 195 ∷ 191 ∷ 195 ∷ 191 ∷ 195 ∷ 191 ∷ 195 ∷ 191 ∷ 195 ∷ 191 ∷ 195 ∷ 191 ∷ 195 ∷ 191 ∷ 195 ∷ 191 ∷ 195 ∷ 191 ∷ 195 ∷ 191 ∷ 195 ∷ 191 ∷ 195 ∷ 191 ∷ 195 ∷ 191 ∷ 195 ∷ 191 ∷ 195 ∷ 191 ∷ 195 ∷ 191 ∷ 195 ∷ 191 ∷ 195 ∷ 191 ∷ 195 ∷ 191 ∷ 195 ∷ 191 ∷ 195 ∷ 191 ∷ 195 ∷ 191 ∷ 195 ∷ 191 ∷ 195 ∷ 191 ∷ 195 ∷ 191 ∷ 195 ∷ 191 ∷ 195 ∷ 191 ∷ 195 ∷ 191 ∷ 195 ∷ 191 ∷ 195 ∷ 191 ∷ 195 ∷ 191 ∷ 195 ∷ 191 ∷ 195 ∷ 191 ∷ 195 ∷ 191 ∷ 195 ∷ 191 ∷ 195 ∷ 191 ∷ 195 ∷ 191 ∷ 195 ∷ 191 ∷ 195 ∷ 191 ∷ 195 ∷ 191 ∷ 195 ∷ 191 ∷ 195 ∷ 191 ∷ 195 ∷ 191 ∷ 195 ∷ 191 ∷ 195 ∷ 191 ∷ 195 ∷ 191 ∷ 195 ∷ 191 ∷ 195 ∷ 191 ∷ 195 ∷ 191 ∷ 195 ∷ 191 ∷ 195 ∷ 191 ∷ 195 ∷ 191 ∷ 195 ∷ 191 ∷ 195 ∷ 191 ∷ 195 ∷ 191 ∷ 195 ∷ 191 ∷ 93 ∷ []) (piece 0 0 1005 0 ∷ []) ≡ (enter Name.Link 1 1 0 0 ∷ exit Name.Link 1 1006 1005 0 ∷ []))

-- all of them
abbrev pub Examples : Type 0
Examples =
    Escapes ×
    CharacterReferences ×
    Whitespace ×
    RawText ×
    Autolinks ×
    HtmlText ×
    HtmlTags ×
    TaskListItemChecks ×
    Emphasis ×
    Links ×
    Labels ×
    References ×
    Footnotes ×
    GfmAutolinkLiterals ×
    Emails ×
    Resources ×
    Switches ×
    Choices ×
    LabelSizes ×
    FootnoteSizes ×
    LabelCharacters
