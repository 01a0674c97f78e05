-- Why the hall opens no file for a load.
use Rattle.std.specs.Prelude.{Option, Some, None}
use Rattle.cool_frame.specs.declared.kind.ErrorKind.TheVariants.{DocsFull, BookFull}
use Rattle.hall_machine.specs.declared.words.HallFault.{HallFault}
use Rattle.hall_machine.specs.declared.words.HallFault.TheVariants as fault
use Rattle.poll_machine.specs.House.{Refusal}

-- the refusal, where the fault is one of those by which a file is refused
abbrev pub enter_refusal : HallFault → Option Refusal
enter_refusal fault.HallFull = Some (record { kind = DocsFull; code = None })
enter_refusal fault.BookFull = Some (record { kind = BookFull; code = None })
enter_refusal _ = None
