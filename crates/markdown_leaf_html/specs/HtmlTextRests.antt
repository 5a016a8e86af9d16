-- What is still to be read of HTML in text, from each of its states.
use Rattle.std.specs.Prelude.{ℕ, Bool, ◌||◌, not, List, ◌∷◌, codes, drop}
use Rattle.std.specs.Str.{byte}
use Rattle.markdown_content.specs.Codes.{Code}
use Rattle.markdown_event.specs.declared.state.StateName.{StateName}
use Rattle.markdown_event.specs.declared.state.StateName.TheVariants as H
use Rattle.markdown_model.specs.CodeTests.{is_value, is_among, next_is, is_whitespace_code, is_letter, is_alphanumeric}
use Rattle.markdown_model.specs.Grammar.{Reading, either, one, any_number, before, word, word_of, up_to_word, through, if_next, ◌then_◌, repeatedly, optional}
use Rattle.markdown_model.specs.HtmlText.{spaces, optional_spaces, tag_name, attribute_value, attribute, is_later_code}

abbrev pub is_name_code : Code → Bool
is_name_code c = is_alphanumeric c || is_value (byte "-") c

abbrev pub is_attribute_first : Code → Bool
is_attribute_first c = is_letter c || is_among (codes ":_") c

abbrev pub is_attribute_code : Code → Bool
is_attribute_code c = is_alphanumeric c || is_among (codes "-.:_") c

-- Opening tags; the Bool says that slashes may stand in unquoted values.

abbrev pub tag_end : Reading (List Code)
tag_end = optional (word "/") then_ word ">"

-- after the name, a value, or an attribute without one
abbrev pub tag_rest : Bool → Reading (List Code)
tag_rest slashes = repeatedly (spaces then_ attribute slashes) then_ optional_spaces then_ tag_end

-- after whitespace: another attribute, or the end
abbrev pub tag_next : Bool → Reading (List Code)
tag_next slashes = if_next is_attribute_first (attribute slashes then_ tag_rest slashes) tag_end

abbrev pub tag_between : Bool → Reading (List Code)
tag_between slashes = optional_spaces then_ tag_next slashes

abbrev pub initializer : Bool → Reading (List Code)
initializer slashes = optional_spaces then_ one (is_value (byte "=")) then_ optional_spaces then_ attribute_value slashes

-- in the name of an attribute
abbrev pub name_rest : Bool → Reading (List Code)
name_rest slashes = (any_number is_attribute_code then_ optional (initializer slashes)) then_ tag_rest slashes

-- after the `=` of an attribute
abbrev pub value_rest : Bool → Reading (List Code)
value_rest slashes = (optional_spaces then_ attribute_value slashes) then_ tag_rest slashes

-- after the name of an attribute and whitespace
abbrev pub name_next : Bool → Reading (List Code)
name_next slashes = if_next (is_value (byte "=")) (one (is_value (byte "=")) then_ value_rest slashes) (tag_next slashes)

abbrev pub name_after : Bool → Reading (List Code)
name_after slashes = optional_spaces then_ name_next slashes

-- in a value in quotes of this value
abbrev pub quoted_rest : Bool → ℕ → Reading (List Code)
quoted_rest slashes quote = (any_number (λ c. not (is_value quote c)) then_ one (is_value quote)) then_ tag_rest slashes

abbrev pub is_after_value : Code → Bool
is_after_value c = is_whitespace_code c || is_among (codes "/>") c

abbrev pub unquoted_rest : Bool → Reading (List Code)
unquoted_rest slashes = before (any_number (is_later_code slashes)) (next_is is_after_value) then_ tag_rest slashes

-- The other kinds.

abbrev pub closing_between : Reading (List Code)
closing_between = optional_spaces then_ word ">"

-- what ends with a mark twice and a `>`, as comments (`-`) and CDATA sections (`]`) do
abbrev pub marked : ℕ → Reading (List Code)
marked mark = up_to_word (mark ∷ mark ∷ codes ">")

-- after one mark of the end
abbrev pub after_mark : ℕ → Reading (List Code)
after_mark mark = either (word_of (mark ∷ codes ">")) (marked mark)

-- after two
abbrev pub after_two_marks : ℕ → Reading (List Code)
after_two_marks mark = either (word ">") (after_mark mark)

-- after `<!-`
abbrev pub comment_inside : Reading (List Code)
comment_inside = either (word "->") (either (word "-->") (word "-" then_ through "-->"))

-- after so many codes of `CDATA[`
abbrev pub cdata_opening : ℕ → Reading (List Code)
cdata_opening size = word_of (drop size (codes "CDATA[")) then_ through "]]>"

abbrev pub instruction_after_one : Reading (List Code)
instruction_after_one = either (word ">") (through "?>")

-- after `<!`
abbrev pub declaration_rest : Reading (List Code)
declaration_rest =
    either (either (word "-->") (either (word "--->") (word "--" then_ through "-->")))
    (either (one is_letter then_ through ">") (word "[CDATA[" then_ through "]]>"))

-- after `<`
abbrev pub open_rest : Bool → Reading (List Code)
open_rest slashes =
    either (tag_name then_ tag_rest slashes)
    (either (word "/" then_ tag_name then_ closing_between)
    (either (either (word "!-->") (either (word "!--->") (word "!--" then_ through "-->")))
    (either (word "?" then_ through "?>") (either (word "!" then_ one is_letter then_ through ">") (word "![CDATA[" then_ through "]]>")))))

-- The states that leave the scratch fields alone.

pub data HtmlPart : Type 0 where
  Open DeclarationOpen CommentOpenInside Comment CommentClose CommentEnd Cdata CdataClose CdataEnd : HtmlPart
  Declaration Instruction InstructionClose TagCloseStart TagClose TagCloseBetween : HtmlPart
  TagOpen TagOpenBetween AttributeName AttributeNameAfter ValueBefore ValueQuotedAfter ValueUnquoted End : HtmlPart

abbrev pub state_of : HtmlPart → StateName
state_of Open = H.HtmlTextOpen
state_of DeclarationOpen = H.HtmlTextDeclarationOpen
state_of CommentOpenInside = H.HtmlTextCommentOpenInside
state_of Comment = H.HtmlTextComment
state_of CommentClose = H.HtmlTextCommentClose
state_of CommentEnd = H.HtmlTextCommentEnd
state_of Cdata = H.HtmlTextCdata
state_of CdataClose = H.HtmlTextCdataClose
state_of CdataEnd = H.HtmlTextCdataEnd
state_of Declaration = H.HtmlTextDeclaration
state_of Instruction = H.HtmlTextInstruction
state_of InstructionClose = H.HtmlTextInstructionClose
state_of TagCloseStart = H.HtmlTextTagCloseStart
state_of TagClose = H.HtmlTextTagClose
state_of TagCloseBetween = H.HtmlTextTagCloseBetween
state_of TagOpen = H.HtmlTextTagOpen
state_of TagOpenBetween = H.HtmlTextTagOpenBetween
state_of AttributeName = H.HtmlTextTagOpenAttributeName
state_of AttributeNameAfter = H.HtmlTextTagOpenAttributeNameAfter
state_of ValueBefore = H.HtmlTextTagOpenAttributeValueBefore
state_of ValueQuotedAfter = H.HtmlTextTagOpenAttributeValueQuotedAfter
state_of ValueUnquoted = H.HtmlTextTagOpenAttributeValueUnquoted
state_of End = H.HtmlTextEnd

-- what is still to be read
abbrev pub reading_of : Bool → HtmlPart → Reading (List Code)
reading_of slashes Open = open_rest slashes
reading_of slashes DeclarationOpen = declaration_rest
reading_of slashes CommentOpenInside = comment_inside
reading_of slashes Comment = marked (byte "-")
reading_of slashes CommentClose = after_mark (byte "-")
reading_of slashes CommentEnd = after_two_marks (byte "-")
reading_of slashes Cdata = marked (byte "]")
reading_of slashes CdataClose = after_mark (byte "]")
reading_of slashes CdataEnd = after_two_marks (byte "]")
reading_of slashes Declaration = through ">"
reading_of slashes Instruction = through "?>"
reading_of slashes InstructionClose = instruction_after_one
reading_of slashes TagCloseStart = tag_name then_ closing_between
reading_of slashes TagClose = any_number is_name_code then_ closing_between
reading_of slashes TagCloseBetween = closing_between
reading_of slashes TagOpen = any_number is_name_code then_ tag_rest slashes
reading_of slashes TagOpenBetween = tag_between slashes
reading_of slashes AttributeName = name_rest slashes
reading_of slashes AttributeNameAfter = name_after slashes
reading_of slashes ValueBefore = value_rest slashes
reading_of slashes ValueQuotedAfter = tag_rest slashes
reading_of slashes ValueUnquoted = unquoted_rest slashes
reading_of slashes End = word ">"

-- each state goes on at the same code with lower ones alone
abbrev pub rank_of : HtmlPart → ℕ
rank_of End = 1
rank_of Open = 2
rank_of DeclarationOpen = 2
rank_of CommentOpenInside = 2
rank_of Comment = 2
rank_of CommentClose = 3
rank_of CommentEnd = 4
rank_of Cdata = 2
rank_of CdataClose = 3
rank_of CdataEnd = 4
rank_of Declaration = 2
rank_of Instruction = 2
rank_of InstructionClose = 3
rank_of TagCloseStart = 2
rank_of TagClose = 3
rank_of TagCloseBetween = 2
rank_of TagOpen = 3
rank_of TagOpenBetween = 2
rank_of AttributeName = 4
rank_of AttributeNameAfter = 3
rank_of ValueBefore = 2
rank_of ValueQuotedAfter = 3
rank_of ValueUnquoted = 3
