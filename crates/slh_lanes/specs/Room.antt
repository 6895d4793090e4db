-- Room for arrays of a type (ours).
use Rattle.std.specs.Prelude.{◌*◌, ◌<◌}
use Rattle.std.specs.Borrow.{RattleType}
use Rattle.std.specs.Mem.{type_size}

-- an array of sixteen is no longer than an object may be
abbrev pub HasRoom : RattleType → Type 0
HasRoom r = 16 * type_size r < 9223372036854775808
