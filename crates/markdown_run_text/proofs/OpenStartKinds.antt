-- The kinds of the starts that wait for an end, past a row.
use Rattle.std.proofs.Common.{◌≡◌, List, map, arith}
use Rattle.markdown_content.specs.ListFunctions.{rest_of}
use Rattle.markdown_content.specs.declared.label_kind.LabelKind.{LabelKind}
use Rattle.markdown_engine.specs.declared.tokenizer.LabelStart as Kept
use Rattle.markdown_label.specs.LabelEnd.{lost_starts}

abbrev pub kinds_in : List Kept.LabelStart → List LabelKind
kinds_in ls = map (λ (l : Kept.LabelStart). l.kind) ls

-- an end that fails takes the last of them

pub rest-lost : (ls : List Kept.LabelStart) → rest_of (lost_starts ls) ≡ rest_of ls
rest-lost ls = grind arith
