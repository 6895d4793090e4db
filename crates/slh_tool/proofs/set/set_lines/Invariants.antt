use Rattle.std.proofs.Common.{◌≡◌, ◌++◌, drop, string_bytes}
use Rattle.slh_tool.specs.Sets.{lines}
use Rattle.slh_tool.proofs.set.set_lines.Given as goal

-- the lines so far, and the lines of the sets that are left
abbrev pub invariant-loop-set : goal.invariant-loop-set
invariant-loop-set g l = string_bytes l.text ++ lines (drop l.set-index l.sets) ≡ lines l.sets
