-- The exit statuses: 0 done, 1 refused, 2 wrong arguments, 3 input or output failed, 4 out of memory.
use Rattle.std.specs.Prelude.{ℕ, Result, Ok, Err}
use Rattle.clap.specs.Values.{kind_of}
use Rattle.clap.specs.declared.error.kind.ErrorKind.{ErrorKind}
use Rattle.clap.specs.declared.error.kind.ErrorKind.TheVariants.{DisplayHelp, DisplayVersion, OutOfMemory}
use Rattle.wm_command.specs.declared.status.Status.{Status}
use Rattle.wm_command.specs.declared.status.Status.TheVariants.{Done, Refused, Io, Memory}
use Rattle.wm_command.specs.declared.arguments.LineFault.{LineFault}
use Rattle.wm_command.specs.declared.arguments.LineFault.TheVariants as fault

-- The exit status of a run.
abbrev pub exit_status : Status → ℕ
exit_status Done = 0
exit_status Refused = 1
exit_status Io = 3
exit_status Memory = 4

-- The exit status for a fault that `clap` found. A request for help or for the version gives 0.
abbrev pub kind_code : ErrorKind → ℕ
kind_code OutOfMemory = 4
kind_code DisplayHelp = 0
kind_code DisplayVersion = 0
kind_code _ = 2

-- The exit status for arguments that describe no line.
abbrev pub fault_code : LineFault → ℕ
fault_code (fault.Parser e) = kind_code (kind_of e)
fault_code fault.Words = 2
fault_code fault.Memory = 4

-- The exit status of the program.
abbrev pub end_code : Result Status LineFault → ℕ
end_code (Ok status) = exit_status status
end_code (Err fault) = fault_code fault
