-- The refusals of the calls (ours): their numbers in the one table of docs/FORMATS.md.
use Rattle.std.specs.Prelude.{ℕ}
use Rattle.slh_c_verify.specs.declared.refusal.Refusal.{Refusal}
use Rattle.slh_c_verify.specs.declared.refusal.Refusal.TheVariants.{BadLength, NoSuchSet, NoSuchFunction, BadDigestLength}

abbrev pub number : Refusal → ℕ
number BadLength = 3
number NoSuchSet = 8
number NoSuchFunction = 9
number BadDigestLength = 16
