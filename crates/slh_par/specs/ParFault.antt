-- The refusals of parallel calls, by number and name: ours.
use Rattle.std.specs.Prelude.{ℕ, List, codes}
use Rattle.slh_workers.specs.declared.fault.RunFault.{RunFault}
use Rattle.slh_workers.specs.declared.fault.RunFault.TheVariants.{NoMemory as RunNoMemory, Stopped as RunStopped}
use Rattle.slh_par.specs.declared.fault.ParFault.{ParFault}
use Rattle.slh_par.specs.declared.fault.ParFault.TheVariants.{NoMemory, ContextTooLong, Stopped}

abbrev pub fault_number : ParFault → ℕ
fault_number NoMemory = 1
fault_number ContextTooLong = 2
fault_number Stopped = 6

abbrev pub fault_name : ParFault → List ℕ
fault_name NoMemory = codes "NoMemory"
fault_name ContextTooLong = codes "ContextTooLong"
fault_name Stopped = codes "Stopped"

-- the refusal of a run, as that of the call that made the run
abbrev pub fault_of_run : RunFault → ParFault
fault_of_run RunNoMemory = NoMemory
fault_of_run RunStopped = Stopped
