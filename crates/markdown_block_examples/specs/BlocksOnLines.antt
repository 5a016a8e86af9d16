-- On which lines the blocks of some documents begin.
use Rattle.std.specs.Prelude.{◌≡◌, [], ◌∷◌}
use Rattle.markdown_block_examples.specs.BlockNotation.{all_extensions}
use Rattle.markdown_block_model.specs.BlockLines.{begins_of}
use Rattle.markdown_block_model.specs.BlockTree.{no_extensions}
use Rattle.markdown_block_model.specs.LinkDefinitions.{has_text}

abbrev pub BlocksOnLines : Type 0
BlocksOnLines =
    -- «»
    (begins_of no_extensions has_text [] ≡ []) ×
    -- «⟦U+FEFF⟧# a␊b»
    (begins_of no_extensions has_text (239 ∷ 187 ∷ 191 ∷ 35 ∷ 32 ∷ 97 ∷ 10 ∷ 98 ∷ []) ≡ (1 ∷ 2 ∷ [])) ×
    -- «> a␊b␊- c»
    (begins_of no_extensions has_text (62 ∷ 32 ∷ 97 ∷ 10 ∷ 98 ∷ 10 ∷ 45 ∷ 32 ∷ 99 ∷ []) ≡ (1 ∷ 1 ∷ 3 ∷ 3 ∷ [])) ×
    -- «a␊=␊b»
    (begins_of no_extensions has_text (97 ∷ 10 ∷ 61 ∷ 10 ∷ 98 ∷ []) ≡ (1 ∷ 3 ∷ [])) ×
    -- «a␊␊-␊␊- b»
    (begins_of no_extensions has_text (97 ∷ 10 ∷ 10 ∷ 45 ∷ 10 ∷ 10 ∷ 45 ∷ 32 ∷ 98 ∷ []) ≡ (1 ∷ 2 ∷ 3 ∷ 4 ∷ 5 ∷ 5 ∷ [])) ×
    -- «```␊a␊```␊b»
    (begins_of no_extensions has_text (96 ∷ 96 ∷ 96 ∷ 10 ∷ 97 ∷ 10 ∷ 96 ∷ 96 ∷ 96 ∷ 10 ∷ 98 ∷ []) ≡ (1 ∷ 4 ∷ [])) ×
    -- «- > a␊+ b␍␊c␍***»
    (begins_of no_extensions has_text (45 ∷ 32 ∷ 62 ∷ 32 ∷ 97 ∷ 10 ∷ 43 ∷ 32 ∷ 98 ∷ 13 ∷ 10 ∷ 99 ∷ 13 ∷ 42 ∷ 42 ∷ 42 ∷ []) ≡ (1 ∷ 1 ∷ 1 ∷ 2 ∷ 2 ∷ 4 ∷ [])) ×
    -- «[a]: /b␊␊c»
    (begins_of no_extensions has_text (91 ∷ 97 ∷ 93 ∷ 58 ∷ 32 ∷ 47 ∷ 98 ∷ 10 ∷ 10 ∷ 99 ∷ []) ≡ (1 ∷ 2 ∷ 3 ∷ [])) ×
    -- «a␊|b|␊|-|␊c␊»
    (begins_of all_extensions has_text (97 ∷ 10 ∷ 124 ∷ 98 ∷ 124 ∷ 10 ∷ 124 ∷ 45 ∷ 124 ∷ 10 ∷ 99 ∷ 10 ∷ []) ≡ (1 ∷ 2 ∷ [])) ×
    -- «|b|␊|-|␊␊c␊»
    (begins_of all_extensions has_text (124 ∷ 98 ∷ 124 ∷ 10 ∷ 124 ∷ 45 ∷ 124 ∷ 10 ∷ 10 ∷ 99 ∷ 10 ∷ []) ≡ (1 ∷ 3 ∷ 4 ∷ [])) ×
    -- «> x␊> b␊> :-␊> c␊»
    (begins_of all_extensions has_text (62 ∷ 32 ∷ 120 ∷ 10 ∷ 62 ∷ 32 ∷ 98 ∷ 10 ∷ 62 ∷ 32 ∷ 58 ∷ 45 ∷ 10 ∷ 62 ∷ 32 ∷ 99 ∷ 10 ∷ []) ≡ (1 ∷ 1 ∷ 2 ∷ [])) ×
    -- «---␊a␊---␊b␊»
    (begins_of all_extensions has_text (45 ∷ 45 ∷ 45 ∷ 10 ∷ 97 ∷ 10 ∷ 45 ∷ 45 ∷ 45 ∷ 10 ∷ 98 ∷ 10 ∷ []) ≡ (1 ∷ 4 ∷ [])) ×
    -- «[^a]: b␊␊    c␊»
    (begins_of all_extensions has_text (91 ∷ 94 ∷ 97 ∷ 93 ∷ 58 ∷ 32 ∷ 98 ∷ 10 ∷ 10 ∷ 32 ∷ 32 ∷ 32 ∷ 32 ∷ 99 ∷ 10 ∷ []) ≡ (1 ∷ 1 ∷ 2 ∷ 3 ∷ []))
