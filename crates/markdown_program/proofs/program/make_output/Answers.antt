use Rattle.std.proofs.Common.{◌≡◌, subst, ℕ, List, Option, None, Some, IfSome, IsUtf8}
use Rattle.std.proofs.lemmas.Result.{IfErr-weaker, IfOk-weaker}
use Rattle.markdown_program.specs.PrintedLines.{lines_of}
use Rattle.markdown_program.specs.ProgramWords.{MayRead, IsTextDocument, without_line_ending}
use Rattle.markdown_program.specs.ProgramOutput.{found_events}
use Rattle.markdown_program.proofs.program.make_output.Goals as goal

-- what holds of the document holds of what was read, without its line ending
of-read : (P : List ℕ → Type 0) (read : Option (List ℕ)) (bytes slice : List ℕ) → slice ≡ bytes
    → IfSome read (λ xs. bytes ≡ without_line_ending xs) → P slice → IfSome read (λ xs. P (without_line_ending xs))
of-read P None bytes slice s e p = tt
of-read P (Some xs) bytes slice s e p = subst P e (subst P s p)

pub returns-clause-lines : goal.returns-clause-lines
returns-clause-lines g c =
    IfOk-weaker c.output_of.result _ _
    (λ text h. of-read (λ bs. text.items ≡ lines_of (found_events c.args.words.now bs)) (g.R.Read.remaining c.args.reader.now) _ c.as_slice.result.now c.as_slice.ensures.value c.in_ok-bytes.ensures.bytes h)
    c.output_of.ensures.lines

pub returns-clause-reads : goal.returns-clause-reads
returns-clause-reads g c =
    IfOk-weaker c.output_of.result _ _
    (λ text h. of-read (MayRead c.args.words.now) (g.R.Read.remaining c.args.reader.now) _ c.as_slice.result.now c.as_slice.ensures.value c.in_ok-bytes.ensures.bytes h)
    c.output_of.ensures.reads

pub returns-clause-not_text : goal.returns-clause-not_text
returns-clause-not_text g c =
    IfErr-weaker c.output_of.result _ _
    (λ fault h e. of-read (λ bs. IsUtf8 bs → ⊥) (g.R.Read.remaining c.args.reader.now) _ c.as_slice.result.now c.as_slice.ensures.value c.in_ok-bytes.ensures.bytes (h e))
    c.output_of.ensures.not_text

pub returns-clause-blank_line : goal.returns-clause-blank_line
returns-clause-blank_line g c =
    IfErr-weaker c.output_of.result _ _
    (λ fault h e. ((h e).0, of-read (λ bs. IsTextDocument bs → ⊥) (g.R.Read.remaining c.args.reader.now) _ c.as_slice.result.now c.as_slice.ensures.value c.in_ok-bytes.ensures.bytes (h e).1))
    c.output_of.ensures.blank_line
