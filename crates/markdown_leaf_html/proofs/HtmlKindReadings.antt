-- What is still to be read of comments, instructions, declarations, CDATA sections and closing tags, from one code on.
use Rattle.std.proofs.Common.{◌≡◌, Bool, ℕ, true, false, Some, None, List, [], ◌∷◌, refl, sym, ◌∙◌}
use Rattle.markdown_content.specs.Codes.{Code}
use Rattle.markdown_model.specs.CodeTests.{is_value, is_letter, is_whitespace_code, next_is}
use Rattle.markdown_model.specs.Grammar.{Reading, either, one, any_number, with_first, word, word_of, through, ◌then_◌}
use Rattle.markdown_model.specs.HtmlText.{optional_spaces, tag_name}
use Rattle.markdown_model.proofs.ReadingsCover.{takes_then, takes_word, takes_optional_spaces}
use Rattle.markdown_model.proofs.ReadsACode.{any_takes, text_takes}
use Rattle.markdown_leaf_html.specs.HtmlTextRests.{tag_rest, closing_between, is_name_code, marked, after_mark, after_two_marks, comment_inside, cdata_opening, instruction_after_one, declaration_rest, open_rest}
use Rattle.markdown_leaf_html.proofs.HtmlLineBreaks.{PassesItsCodes}
use Rattle.markdown_leaf_html.proofs.HtmlCodeReadings.{then-first, then-nothing, either-on, either-left, either-right, either-none, either-same, either-here, one-on, one-none, any-on, any-none, word-on, word-none, word-here, word-then, word-then-none, last-then, up-other, up-first, up-end, up-here, second_takes, up-goes}
use Rattle.markdown_model.proofs.GrammarSteps.{then-none}

-- The end.

pub end-here : (c : Code) (cs : List Code) → is_value 62 c ≡ true → word ">" (c ∷ cs) ≡ Some (c ∷ [], cs)
unfolding word
end-here c cs e = word-here 62 c cs e

pub end-none : (cs : List Code) → next_is (is_value 62) cs ≡ false → word ">" cs ≡ None
unfolding word
end-none cs e = word-none 62 [] cs e

-- What ends with a mark twice and a `>`.

pub marked-end : (mark : ℕ) → marked mark [] ≡ None
marked-end mark = up-end (mark ∷ mark ∷ 62 ∷ [])

pub marked-on : (mark : ℕ) (c : Code) (cs : List Code) → is_value mark c ≡ true →
    marked mark (c ∷ cs) ≡ with_first c (after_mark mark cs)
marked-on mark c cs e = up-first mark (mark ∷ 62 ∷ []) c cs e

pub marked-other : (mark : ℕ) (c : Code) (cs : List Code) → is_value mark c ≡ false →
    marked mark (c ∷ cs) ≡ with_first c (marked mark cs)
marked-other mark c cs e = up-other mark (mark ∷ 62 ∷ []) c cs e

pub after-mark-on : (mark : ℕ) (c : Code) (cs : List Code) → is_value mark c ≡ true →
    after_mark mark (c ∷ cs) ≡ with_first c (after_two_marks mark cs)
unfolding word
after-mark-on mark c cs e =
    either-on (word_of (mark ∷ 62 ∷ [])) (word ">") (marked mark) (after_mark mark) c cs (word-on mark (62 ∷ []) c cs e) (marked-on mark c cs e)

pub after-mark-other : (mark : ℕ) (cs : List Code) → next_is (is_value mark) cs ≡ false →
    after_mark mark cs ≡ marked mark cs
after-mark-other mark cs e = either-right (word_of (mark ∷ 62 ∷ [])) (marked mark) cs (word-none mark (62 ∷ []) cs e)

pub after-two-end : (mark : ℕ) (c : Code) (cs : List Code) → is_value 62 c ≡ true →
    after_two_marks mark (c ∷ cs) ≡ word ">" (c ∷ cs)
after-two-end mark c cs e = either-here (word ">") (after_mark mark) (c ∷ cs) (c ∷ [], cs) (end-here c cs e)

pub after-two-one : (mark : ℕ) (cs : List Code) → next_is (is_value 62) cs ≡ false →
    after_two_marks mark cs ≡ after_mark mark cs
after-two-one mark cs e = either-right (word ">") (after_mark mark) cs (end-none cs e)

-- The beginning of a comment.

pub comment-inside-dash : (c : Code) (cs : List Code) → is_value 45 c ≡ true →
    comment_inside (c ∷ cs) ≡ with_first c (after_two_marks 45 cs)
unfolding word through
comment-inside-dash c cs e =
    either-on (word "->") (word ">") (either (word "-->") (word "-" then_ through "-->")) (after_mark 45) c cs (word-on 45 (62 ∷ []) c cs e)
    (either-on (word "-->") (word "->") (word "-" then_ through "-->") (through "-->") c cs (word-on 45 (45 ∷ 62 ∷ []) c cs e) (last-then 45 (through "-->") c cs e))

pub comment-inside-none : (cs : List Code) → next_is (is_value 45) cs ≡ false → comment_inside cs ≡ None
unfolding word
comment-inside-none cs e =
    either-none (word "->") (either (word "-->") (word "-" then_ through "-->")) cs (word-none 45 (62 ∷ []) cs e)
    (either-none (word "-->") (word "-" then_ through "-->") cs (word-none 45 (45 ∷ 62 ∷ []) cs e) (word-then-none 45 [] (through "-->") cs e))

-- Declarations and instructions.

pub declaration-goes : PassesItsCodes (through ">")
unfolding through
declaration-goes = up-goes 62 [] refl

pub declaration-end : through ">" [] ≡ word ">" []
unfolding through word
declaration-end = up-end (62 ∷ []) ∙ sym (word-none 62 [] [] refl)

pub declaration-here : (c : Code) (cs : List Code) → is_value 62 c ≡ true → through ">" (c ∷ cs) ≡ word ">" (c ∷ cs)
unfolding through word
declaration-here c cs e = up-here 62 c cs e

pub declaration-other : (c : Code) (cs : List Code) → is_value 62 c ≡ false →
    through ">" (c ∷ cs) ≡ with_first c (through ">" cs)
unfolding through
declaration-other c cs e = up-other 62 [] c cs e

pub instruction-goes : PassesItsCodes (through "?>")
unfolding through
instruction-goes = up-goes 63 (62 ∷ []) refl

pub instruction-end : through "?>" [] ≡ None
unfolding through
instruction-end = up-end (63 ∷ 62 ∷ [])

pub instruction-mark : (c : Code) (cs : List Code) → is_value 63 c ≡ true →
    through "?>" (c ∷ cs) ≡ with_first c (instruction_after_one cs)
unfolding through word
instruction-mark c cs e = up-first 63 (62 ∷ []) c cs e

pub instruction-other : (c : Code) (cs : List Code) → is_value 63 c ≡ false →
    through "?>" (c ∷ cs) ≡ with_first c (through "?>" cs)
unfolding through
instruction-other c cs e = up-other 63 (62 ∷ []) c cs e

pub instruction-one-end : (c : Code) (cs : List Code) → is_value 62 c ≡ true →
    instruction_after_one (c ∷ cs) ≡ word ">" (c ∷ cs)
instruction-one-end c cs e = either-here (word ">") (through "?>") (c ∷ cs) (c ∷ [], cs) (end-here c cs e)

pub instruction-one-other : (cs : List Code) → next_is (is_value 62) cs ≡ false →
    instruction_after_one cs ≡ through "?>" cs
instruction-one-other cs e = either-right (word ">") (through "?>") cs (end-none cs e)

-- Closing tags.

-- whitespace before a reading
pub spaces-first : (b : Reading (List Code)) (c : Code) (cs : List Code) → is_whitespace_code c ≡ true →
    (optional_spaces then_ b) (c ∷ cs) ≡ with_first c ((optional_spaces then_ b) cs)
unfolding optional_spaces
spaces-first b c cs e = then-first optional_spaces optional_spaces b c cs (any-on is_whitespace_code c cs e)

pub spaces-none : (b : Reading (List Code)) (cs : List Code) → next_is is_whitespace_code cs ≡ false →
    (optional_spaces then_ b) cs ≡ b cs
unfolding optional_spaces
spaces-none b cs e = then-nothing optional_spaces b cs (any-none is_whitespace_code cs e)

pub closing-goes : PassesItsCodes closing_between
unfolding optional_spaces
closing-goes =
    record {
      takes = takes_then _ _ takes_optional_spaces (takes_word ">");
      consumes = second_takes _ _ (any_takes is_whitespace_code) (text_takes ">" 62 [] refl);
      skips = λ c cs e. spaces-first (word ">") c cs e;
    }

pub name-on : (b : Reading (List Code)) (c : Code) (cs : List Code) → is_name_code c ≡ true →
    (any_number is_name_code then_ b) (c ∷ cs) ≡ with_first c ((any_number is_name_code then_ b) cs)
name-on b c cs e = then-first (any_number is_name_code) (any_number is_name_code) b c cs (any-on is_name_code c cs e)

pub name-none : (b : Reading (List Code)) (cs : List Code) → next_is is_name_code cs ≡ false →
    (any_number is_name_code then_ b) cs ≡ b cs
name-none b cs e = then-nothing (any_number is_name_code) b cs (any-none is_name_code cs e)

pub name-first : (b : Reading (List Code)) (c : Code) (cs : List Code) → is_letter c ≡ true →
    (tag_name then_ b) (c ∷ cs) ≡ with_first c ((any_number is_name_code then_ b) cs)
unfolding tag_name
name-first b c cs e =
    then-first tag_name (any_number is_name_code) b c cs (one-on is_letter (any_number is_name_code) c cs e)

pub name-not : (b : Reading (List Code)) (cs : List Code) → next_is is_letter cs ≡ false → (tag_name then_ b) cs ≡ None
unfolding tag_name
name-not b cs e = then-none tag_name b cs (one-none is_letter (any_number is_name_code) cs e)

-- After `<!`.

abbrev comments : Reading (List Code)
comments = either (word "-->") (either (word "--->") (word "--" then_ through "-->"))

abbrev declarations : Reading (List Code)
declarations = one is_letter then_ through ">"

abbrev sections : Reading (List Code)
sections = word "[CDATA[" then_ through "]]>"

comments-none : (cs : List Code) → next_is (is_value 45) cs ≡ false → comments cs ≡ None
unfolding word
comments-none cs e =
    either-none (word "-->") (either (word "--->") (word "--" then_ through "-->")) cs (word-none 45 (45 ∷ 62 ∷ []) cs e)
    (either-none (word "--->") (word "--" then_ through "-->") cs (word-none 45 (45 ∷ 45 ∷ 62 ∷ []) cs e) (word-then-none 45 (45 ∷ []) (through "-->") cs e))

comments-dash : (c : Code) (cs : List Code) → is_value 45 c ≡ true →
    comments (c ∷ cs) ≡ with_first c (comment_inside cs)
unfolding word
comments-dash c cs e =
    either-on (word "-->") (word "->") (either (word "--->") (word "--" then_ through "-->")) (either (word "-->") (word "-" then_ through "-->")) c cs (word-on 45 (45 ∷ 62 ∷ []) c cs e)
    (either-on (word "--->") (word "-->") (word "--" then_ through "-->") (word "-" then_ through "-->") c cs (word-on 45 (45 ∷ 45 ∷ 62 ∷ []) c cs e) (word-then 45 (45 ∷ []) (through "-->") c cs e))

declarations-none : (cs : List Code) → next_is is_letter cs ≡ false → declarations cs ≡ None
declarations-none cs e = one-none is_letter (through ">") cs e

sections-none : (cs : List Code) → next_is (is_value 91) cs ≡ false → sections cs ≡ None
unfolding word
sections-none cs e = word-then-none 91 _ (through "]]>") cs e

pub marked-none : (cs : List Code) → next_is (is_value 45) cs ≡ false → next_is is_letter cs ≡ false →
    next_is (is_value 91) cs ≡ false → declaration_rest cs ≡ None
marked-none cs e h k =
    either-none comments (either declarations sections) cs (comments-none cs e) (either-none declarations sections cs (declarations-none cs h) (sections-none cs k))

pub marked-dash : (c : Code) (cs : List Code) → is_value 45 c ≡ true → is_letter c ≡ false → is_value 91 c ≡ false →
    declaration_rest (c ∷ cs) ≡ with_first c (comment_inside cs)
marked-dash c cs e h k =
    either-left comments (either declarations sections) (c ∷ cs) (either-none declarations sections (c ∷ cs) (declarations-none (c ∷ cs) h) (sections-none (c ∷ cs) k)) ∙ comments-dash c cs e

pub marked-letter : (c : Code) (cs : List Code) → is_value 45 c ≡ false → is_letter c ≡ true → is_value 91 c ≡ false →
    declaration_rest (c ∷ cs) ≡ with_first c (through ">" cs)
marked-letter c cs e h k =
    either-right comments (either declarations sections) (c ∷ cs) (comments-none (c ∷ cs) e)
    ∙ either-left declarations sections (c ∷ cs) (sections-none (c ∷ cs) k)
    ∙ one-on is_letter (through ">") c cs h

pub marked-bracket : (c : Code) (cs : List Code) → is_value 45 c ≡ false → is_letter c ≡ false → is_value 91 c ≡ true →
    declaration_rest (c ∷ cs) ≡ with_first c (cdata_opening 0 cs)
unfolding word
marked-bracket c cs e h k =
    either-right comments (either declarations sections) (c ∷ cs) (comments-none (c ∷ cs) e)
    ∙ either-right declarations sections (c ∷ cs) (declarations-none (c ∷ cs) h)
    ∙ word-then 91 _ (through "]]>") c cs k

-- After `<`; the Bool says that slashes may stand in unquoted values.

module _ (slashes : Bool) where
  abbrev openings : Reading (List Code)
  openings = tag_name then_ tag_rest slashes

  abbrev closings : Reading (List Code)
  closings = word "/" then_ tag_name then_ closing_between

  abbrev marked_comments : Reading (List Code)
  marked_comments = either (word "!-->") (either (word "!--->") (word "!--" then_ through "-->"))

  abbrev instructions : Reading (List Code)
  instructions = word "?" then_ through "?>"

  abbrev marked_declarations : Reading (List Code)
  marked_declarations = word "!" then_ declarations

  abbrev marked_sections : Reading (List Code)
  marked_sections = word "![CDATA[" then_ through "]]>"

  closings-none : (cs : List Code) → next_is (is_value 47) cs ≡ false → closings cs ≡ None
  unfolding word
  closings-none cs e = word-then-none 47 [] (tag_name then_ closing_between) cs e

  instructions-none : (cs : List Code) → next_is (is_value 63) cs ≡ false → instructions cs ≡ None
  unfolding word
  instructions-none cs e = word-then-none 63 [] (through "?>") cs e

  marked-comments-none : (cs : List Code) → next_is (is_value 33) cs ≡ false → marked_comments cs ≡ None
  unfolding word
  marked-comments-none cs e =
      either-none (word "!-->") (either (word "!--->") (word "!--" then_ through "-->")) cs (word-none 33 _ cs e)
      (either-none (word "!--->") (word "!--" then_ through "-->") cs (word-none 33 _ cs e) (word-then-none 33 _ (through "-->") cs e))

  marked-declarations-none : (cs : List Code) → next_is (is_value 33) cs ≡ false → marked_declarations cs ≡ None
  unfolding word
  marked-declarations-none cs e = word-then-none 33 [] declarations cs e

  marked-sections-none : (cs : List Code) → next_is (is_value 33) cs ≡ false → marked_sections cs ≡ None
  unfolding word
  marked-sections-none cs e = word-then-none 33 _ (through "]]>") cs e

  abbrev ends : Reading (List Code)
  ends = either marked_declarations marked_sections

  abbrev last_kinds : Reading (List Code)
  last_kinds = either instructions ends

  abbrev marked_kinds : Reading (List Code)
  marked_kinds = either marked_comments last_kinds

  ends-none : (cs : List Code) → next_is (is_value 33) cs ≡ false → ends cs ≡ None
  ends-none cs e =
      either-none marked_declarations marked_sections cs (marked-declarations-none cs e) (marked-sections-none cs e)

  marked-kinds-none : (cs : List Code) → next_is (is_value 33) cs ≡ false → next_is (is_value 63) cs ≡ false →
      marked_kinds cs ≡ None
  marked-kinds-none cs e h =
      either-none marked_comments last_kinds cs (marked-comments-none cs e) (either-none instructions ends cs (instructions-none cs h) (ends-none cs e))

  pub open-none : (cs : List Code) → next_is is_letter cs ≡ false → next_is (is_value 47) cs ≡ false →
      next_is (is_value 33) cs ≡ false → next_is (is_value 63) cs ≡ false → open_rest slashes cs ≡ None
  open-none cs l s b m =
      either-none openings (either closings marked_kinds) cs (name-not (tag_rest slashes) cs l) (either-none closings marked_kinds cs (closings-none cs s) (marked-kinds-none cs b m))

  pub open-letter : (c : Code) (cs : List Code) → is_letter c ≡ true → is_value 47 c ≡ false → is_value 33 c ≡ false →
      is_value 63 c ≡ false → open_rest slashes (c ∷ cs) ≡ with_first c ((any_number is_name_code then_ tag_rest slashes) cs)
  open-letter c cs l s b m =
      either-left openings (either closings marked_kinds) (c ∷ cs) (either-none closings marked_kinds (c ∷ cs) (closings-none (c ∷ cs) s) (marked-kinds-none (c ∷ cs) b m))
      ∙ name-first (tag_rest slashes) c cs l

  pub open-slash : (c : Code) (cs : List Code) → is_letter c ≡ false → is_value 47 c ≡ true → is_value 33 c ≡ false →
      is_value 63 c ≡ false → open_rest slashes (c ∷ cs) ≡ with_first c ((tag_name then_ closing_between) cs)
  unfolding word
  open-slash c cs l s b m =
      either-right openings (either closings marked_kinds) (c ∷ cs) (name-not (tag_rest slashes) (c ∷ cs) l)
      ∙ either-left closings marked_kinds (c ∷ cs) (marked-kinds-none (c ∷ cs) b m)
      ∙ last-then 47 (tag_name then_ closing_between) c cs s

  pub open-question : (c : Code) (cs : List Code) → is_letter c ≡ false → is_value 47 c ≡ false → is_value 33 c ≡ false →
      is_value 63 c ≡ true → open_rest slashes (c ∷ cs) ≡ with_first c (through "?>" cs)
  unfolding word
  open-question c cs l s b m =
      either-right openings (either closings marked_kinds) (c ∷ cs) (name-not (tag_rest slashes) (c ∷ cs) l)
      ∙ either-right closings marked_kinds (c ∷ cs) (closings-none (c ∷ cs) s)
      ∙ either-right marked_comments last_kinds (c ∷ cs) (marked-comments-none (c ∷ cs) b)
      ∙ either-left instructions ends (c ∷ cs) (ends-none (c ∷ cs) b)
      ∙ last-then 63 (through "?>") c cs m

  pub open-bang : (c : Code) (cs : List Code) → is_letter c ≡ false → is_value 47 c ≡ false → is_value 33 c ≡ true →
      is_value 63 c ≡ false → open_rest slashes (c ∷ cs) ≡ with_first c (declaration_rest cs)
  unfolding word
  open-bang c cs l s b m =
      either-right openings (either closings marked_kinds) (c ∷ cs) (name-not (tag_rest slashes) (c ∷ cs) l)
      ∙ either-right closings marked_kinds (c ∷ cs) (closings-none (c ∷ cs) s)
      ∙ either-same marked_comments last_kinds ends (c ∷ cs) (either-right instructions ends (c ∷ cs) (instructions-none (c ∷ cs) m))
      ∙ either-on marked_comments comments ends (either declarations sections) c cs
      (either-on (word "!-->") (word "-->") (either (word "!--->") (word "!--" then_ through "-->")) (either (word "--->") (word "--" then_ through "-->")) c cs (word-on 33 _ c cs b)
      (either-on (word "!--->") (word "--->") (word "!--" then_ through "-->") (word "--" then_ through "-->") c cs (word-on 33 _ c cs b) (word-then 33 _ (through "-->") c cs b)))
      (either-on marked_declarations declarations marked_sections sections c cs (last-then 33 declarations c cs b) (word-then 33 _ (through "]]>") c cs b))
