use Rattle.std.proofs.Common.{◌≡◌, ℕ, ◌-◌, ◌≤◌, ◌<◌, length, slice_index}
use Rattle.slh_params.specs.ParamSet.{params}
use Rattle.slh_params.specs.Params.{w}
use Rattle.slh_few.proofs.wots.steps_left.Given as goal

abbrev pub invariant-loop-c : goal.invariant-loop-c
invariant-loop-c l = record {
  long : length l.left ≡ 136;
  left : (i : ℕ) → i < l.c → slice_index l.left i ≡ w (params l.fn.set) - 1 - slice_index l.digits i;
  rest : (i : ℕ) → l.c ≤ i → slice_index l.left i ≡ 0;
}
