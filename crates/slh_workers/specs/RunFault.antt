-- The refusals of a run, by number and name.
use Rattle.std.specs.Prelude.{ℕ, List, codes}
use Rattle.slh_workers.specs.declared.fault.RunFault.{RunFault}
use Rattle.slh_workers.specs.declared.fault.RunFault.TheVariants.{NoMemory, Stopped}

abbrev pub fault_number : RunFault → ℕ
fault_number NoMemory = 1
fault_number Stopped = 6

abbrev pub fault_name : RunFault → List ℕ
fault_name NoMemory = codes "NoMemory"
fault_name Stopped = codes "Stopped"
