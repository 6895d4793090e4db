-- The refusals of jobs and of joining, by number and name: ours.
use Rattle.std.specs.Prelude.{ℕ, List, codes}
use Rattle.slh_jobs.specs.declared.fault.JobFault.{JobFault}
use Rattle.slh_jobs.specs.declared.fault.JobFault.TheVariants.{BadAnswersLength, AnswersDisagree, BadStart}

abbrev pub fault_number : JobFault → ℕ
fault_number BadAnswersLength = 20
fault_number AnswersDisagree = 25
fault_number BadStart = 28

abbrev pub fault_name : JobFault → List ℕ
fault_name BadAnswersLength = codes "BadAnswersLength"
fault_name AnswersDisagree = codes "AnswersDisagree"
fault_name BadStart = codes "BadStart"
