use Rattle.std.proofs.Common.{◌≡◌, ℕ, ◌<◌, Bool, length, get_or}
use Rattle.slh_c.specs.Many.{number_of}
use Rattle.slh_c.proofs.many.numbers_of.Given as goal

abbrev pub invariant-loop-j : goal.invariant-loop-j
invariant-loop-j l = record {
  count : length l.verdicts ≡ 8;
  each : (i verdict : ℕ) (is : Bool) → i < l.j → get_or l.verdicts i verdict ≡ number_of (get_or l.valid i is);
}
