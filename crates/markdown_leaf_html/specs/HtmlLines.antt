-- The operations that pass the lines of a text: data of each line, line endings, and the blank codes at the start of each later line.
use Rattle.std.specs.Prelude.{Bool, true, false, ◌&&◌, if◌then◌else◌, Option, Some, None, List, [], ◌∷◌, ◌++◌}
use Rattle.markdown_content.specs.Codes.{Code, is_line_ending, is_blank}
use Rattle.markdown_engine.specs.Operations.{Op, Enter, Exit, Consume}
use Rattle.markdown_event.specs.declared.event.Name.TheVariants as N
use Rattle.markdown_plan.specs.Plan.{Plan}
use Rattle.markdown_model.specs.Grammar.{Reading}

-- Where a text goes on: in the data of a line, at the start of a later line, or in the blank codes there.
pub data Mode : Type 0 where
  InLine AtStart InBlank : Mode

-- blank codes are whitespace, and no data
abbrev pub takes_blank : Mode → Bool
takes_blank InLine = false
takes_blank _ = true

-- what stands open is left
abbrev pub left_open : Mode → List Op
left_open InLine = Exit N.HtmlTextData ∷ []
left_open AtStart = []
left_open InBlank = Exit N.SpaceOrTab ∷ []

-- on to data
abbrev pub to_data : Mode → List Op
to_data InLine = []
to_data AtStart = Enter N.HtmlTextData ∷ []
to_data InBlank = Exit N.SpaceOrTab ∷ Enter N.HtmlTextData ∷ []

-- on to blank codes
abbrev pub to_blank : Mode → List Op
to_blank AtStart = Enter N.SpaceOrTab ∷ []
to_blank _ = []

abbrev pub ending_ops : List Op
ending_ops = Enter N.LineEnding ∷ Consume ∷ Exit N.LineEnding ∷ []

-- the rest of a text
abbrev pub ops_from : Mode → List Code → List Op
ops_from m [] = left_open m
ops_from m (c ∷ cs) =
    if is_line_ending c then left_open m ++ (ending_ops ++ ops_from AtStart cs)
    else (if takes_blank m && is_blank c then to_blank m ++ Consume ∷ ops_from InBlank cs
    else to_data m ++ Consume ∷ ops_from InLine cs)

-- up to the data of the next line that has some
abbrev pub break_from : Mode → List Code → List Op
break_from m [] = to_data m
break_from m (c ∷ cs) =
    if is_line_ending c then left_open m ++ (ending_ops ++ break_from AtStart cs)
    else (if takes_blank m && is_blank c then to_blank m ++ Consume ∷ break_from InBlank cs
    else to_data m)

-- the same, after the blank codes at the start of a line
abbrev pub prefix_from : List Code → List Op
prefix_from [] = to_data AtStart
prefix_from (c ∷ cs) = if is_line_ending c then ending_ops ++ break_from AtStart cs else to_data AtStart

-- a text that a reading gives, from here on, and the end of the HTML
abbrev pub text_from : Mode → Option (List Code × List Code) → Option (List Op)
text_from m None = None
text_from m (Some r) = Some (ops_from m r.0 ++ Exit N.HtmlText ∷ [])

-- the rest of the HTML, in the data of a line
abbrev pub text_of : Reading (List Code) → Plan
text_of r cs = text_from InLine (r cs)
