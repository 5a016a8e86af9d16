-- Where data of a text stops.
use Rattle.std.specs.Prelude.{Bool, ◌&&◌, ◌||◌, not, List, is_none}
use Rattle.std.specs.Str.{byte}
use Rattle.markdown_content.specs.Codes.{Code}
use Rattle.markdown_content.specs.ListFunctions.{rest_of}
use Rattle.markdown_model.specs.CodeTests.{is_among, is_value, is_alphanumeric, is_some_code, next_is}
use Rattle.markdown_model.specs.Elements.{code_before}
use Rattle.markdown_model.specs.GfmAutolinkLiteral.{literal_words, one_word_of}
use Rattle.markdown_run_text.specs.TextContent.{plain_markers}

-- a word stands here with which literals begin (GFM 6.9)
abbrev pub begins_word : List Code → Bool
begins_word cs = not (is_none (one_word_of literal_words cs))

-- a code stands here at which something other than a literal is tried; or, where literals are on, a word with which they begin
abbrev pub text_stops : Bool → List Code → Bool
text_stops literals cs = next_is (is_among plain_markers) cs || (literals && begins_word cs)

-- an underscore is the first of these codes, with an ASCII letter or digit before it in the content and one behind it
abbrev pub is_inner_underscore : List Code → List Code → Bool
is_inner_underscore whole cs =
    next_is (is_value (byte "_")) cs && (is_some_code is_alphanumeric (code_before whole cs) && next_is is_alphanumeric (rest_of cs))

-- the reader of data stops here, which goes on past such underscores
abbrev pub reader_stops : List Code → Bool → List Code → Bool
reader_stops whole literals cs = text_stops literals cs && not (is_inner_underscore whole cs)
