use Rattle.std.proofs.Common.{◌≡◌, ◌≤◌, ◌-◌, ◌*◌, map, take}
use Rattle.std.specs.Prelude.{sum}
use Rattle.slh_params.specs.ParamSet.{params}
use Rattle.slh_params.specs.Params.{w}
use Rattle.slh_few.proofs.wots_digits.checksum.Given as goal

abbrev pub invariant-loop-digit : goal.invariant-loop-digit
invariant-loop-digit l = record {
  value : l.sum ≡ sum (map (λ d. w (params l.fn.set) - 1 - d) (take l.digit-index l.digits));
  small : l.sum ≤ 255 * l.digit-index;
}
