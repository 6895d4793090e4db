-- A tree of a layer has at most 4096 leaves, so that no bit of their number is lost.
use Rattle.std.proofs.Common.{◌≡◌, ℕ, ◌*◌, ◌%◌, ◌/◌, ◌^◌, ◌<◌, ap, arith}
use Rattle.std.proofs.Math.Nat.{mod-lt}
use Rattle.slh_params.specs.declared.param_set.ParamSet.{ParamSet}
use Rattle.slh_params.specs.ParamSet.{params}
use Rattle.slh_params.proofs.Bounds.{leaves_low, leaves_high}
use Rattle.slh_few.specs.Xmss.{place}
use Rattle.slh_few.proofs.hypertree.place_above.Goals as goal

shifted : (s : ParamSet) (hp : ℕ) → hp ≡ (params s).hp → 1 * 2 ^ hp % 18446744073709551616 ≡ 2 ^ (params s).hp
shifted s hp e = rw e (omega (arith, leaves_high s))

some : (s : ParamSet) (hp : ℕ) → hp ≡ (params s).hp → 0 < 1 * 2 ^ hp % 18446744073709551616
some s hp e = rw (shifted s hp e) (omega (arith, leaves_low s))

pub nonzero_div-result : goal.nonzero_div-result
nonzero_div-result c = some c.args.set c.hp.result c.hp.ensures

pub nonzero_rem-result : goal.nonzero_rem-result
nonzero_rem-result c = some c.args.set c.hp.result c.hp.ensures

pub overflow_cast-result : goal.overflow_cast-result
overflow_cast-result c =
    let below = mod-lt c.args.at.tree (some c.args.set c.hp.result c.hp.ensures) in
    omega (arith, below, shifted c.args.set c.hp.result c.hp.ensures, leaves_high c.args.set)

pub returns-clause-place : goal.returns-clause-place
returns-clause-place c = ap (λ leaves. place c.args.layer (c.args.at.tree / leaves) (c.args.at.tree % leaves)) (shifted c.args.set c.hp.result c.hp.ensures)
