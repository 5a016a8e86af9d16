-- The faults that the program ends with, and their statuses.
use Rattle.std.specs.Prelude.{ℕ}
use Rattle.std.specs.declared.io.ErrorKind.{ErrorKind}
use Rattle.markdown_program.specs.declared.program.Fault.{Fault}

abbrev pub status_of : Fault → ℕ
status_of Fault.Usage = 2
status_of Fault.NotText = 3
status_of Fault.BlankLine = 4
status_of Fault.OutOfMemory = 5
status_of Fault.Read = 6
status_of Fault.Write = 6

-- the fault that an error of this kind is: refused memory is that wherever it comes
abbrev pub fault_of : ErrorKind → Fault → Fault
fault_of ErrorKind.OutOfMemory otherwise = Fault.OutOfMemory
fault_of _ otherwise = otherwise
