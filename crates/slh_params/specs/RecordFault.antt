-- The reasons why six numbers are no valid record: ours.
use Rattle.std.specs.Prelude.{ℕ, List}
use Rattle.slh_params.specs.declared.param_set.custom.RecordFault.{RecordFault}
use Rattle.slh_params.specs.declared.param_set.custom.RecordFault.TheVariants.{BadRecord}

-- the member that is invalid
abbrev pub member_of : RecordFault → List ℕ
member_of (BadRecord member) = member.now
