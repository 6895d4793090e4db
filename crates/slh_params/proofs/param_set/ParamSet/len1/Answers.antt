-- Each width of a digit divides 8 or 16, so that rounding is by a number that is known.
use Rattle.std.proofs.Common.{◌≡◌, ℕ, ◌*◌, ◌⊎◌, inl, inr, arith}
use Rattle.std.specs.Int.{div_ceil}
use Rattle.slh_params.specs.ParamSet.{params}
use Rattle.slh_params.specs.Params.{ceil_div}
use Rattle.slh_params.proofs.Bounds.{lg_w_cases}
use Rattle.slh_params.proofs.param_set.ParamSet.len1.Goals as goal

rounded : (x y : ℕ) → (y ≡ 2) ⊎ (y ≡ 4) ⊎ (y ≡ 8) → div_ceil x y ≡ ceil_div x y
rounded x y (inl e) = rw e (omega arith)
rounded x y (inr (inl e)) = rw e (omega arith)
rounded x y (inr (inr e)) = rw e (omega arith)

pub returns : goal.returns
returns c = rw (c.div_ceil.ensures, c.n.ensures, c.lg_w.ensures) (rounded (8 * (params c.args.self.now).n) (params c.args.self.now).lg_w (lg_w_cases c.args.self.now))
