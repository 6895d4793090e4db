-- Each turn writes one block more, the last one cut to what is left of the output.
use Rattle.std.proofs.Common.{ℕ, ◌≡◌, ◌*◌, ◌+◌, ◌-◌, ◌<◌, ◌≤◌, arith, ◌∙◌, ap, length, take, min, List, sym, subst}
use Rattle.std.proofs.Math.Nat.{mul-le-mul_left}
use borrow.Rule.Slice.PartMut.{put_mid}
use Rattle.std.proofs.lemmas.Grind.{div_ceil_times}
use Rattle.slh_params.specs.Params.{ceil_div}
use Rattle.slh_hash.specs.HashFunctions.{HashFunction, IsSized}
use Rattle.slh_hash.specs.Keyed.{joined, mgf1_blocks}
use Rattle.slh_hash.proofs.Keys.{mgf1_more, mgf1_done, rounded_up}
use Rattle.slh_hash.proofs.mgf1.mgf1_of.Goals as goal

pub loop-number-preserved : goal.loop-number-preserved
loop-number-preserved g c =
    let f : HashFunction = g.D.HashFunctionOf.function in
    let sized : IsSized f = g.met.D.HashFunctionOf.sized in
    let out : List ℕ = c.loop-number.out in
    let number : ℕ = c.loop-number.number in
    let new : List ℕ = c.copy_from_slice.new.self in
    let Step : ℕ → Type 0 = λ size. size * number < length out
    → (k : ℕ) → k ≡ min (length out - size * number) size → new ≡ take k c.mgf1_block-block.result.items
    → take (size * number) out ≡ take (length out) (mgf1_blocks f (joined c.args.parts.now) number)
    → take (size * (number + 1)) (put_mid (size * number) k out new)
    ≡ take (length (put_mid (size * number) k out new)) (mgf1_blocks f (joined c.args.parts.now) (number + 1)) in
    let step : Step f.size = λ l k e n inv. mgf1_more f sized (joined c.args.parts.now) out new _ number k l inv c.mgf1_block-block.ensures e n in
    let size : f.size ≡ c.digest_len-size.result = sym c.digest_len-size.ensures in
    let a : ℕ = c.digest_len-size.result * number in
    let k : ℕ = (a + c.min-len.result) - a in
    let e : k ≡ c.min-len.result = omega arith in
    let some_bytes : 0 < f.size = omega (arith, sized.low) in
    let some : 0 < c.digest_len-size.result = rw size at some_bytes in
    let t = div_ceil_times (length c.args.out.now) c.digest_len-size.result some in
    let last : c.digest_len-size.result * (number + 1) ≤ c.digest_len-size.result * c.div_ceil-count.result = mul-le-mul_left c.digest_len-size.result (omega arith) in
    let past : c.digest_len-size.result * c.div_ceil-count.result < length c.args.out.now + c.digest_len-size.result = rw c.div_ceil-count.ensures (omega (arith, t.1)) in
    let low : a < length out = omega (arith, last, past, c.loop-number.auto.out) in
    let copied = c.copy_from_slice.ensures.after ∙ ap (λ xs. take c.min-len.result xs) c.as_slice.ensures.value in
    (subst Step size step) low k (e ∙ c.min-len.ensures) (rw e copied) c.loop-number.invariant

pub returns : goal.returns
returns g c =
    let f : HashFunction = g.D.HashFunctionOf.function in
    let sized : IsSized f = g.met.D.HashFunctionOf.sized in
    let size : c.digest_len-size.result ≡ f.size = c.digest_len-size.ensures in
    let some : 0 < f.size = omega (arith, sized.low) in
    let long : length c.loop-number.out ≡ length c.args.out.now = c.loop-number.auto.out in
    let count : c.div_ceil-count.result ≡ ceil_div (length c.loop-number.out) f.size =
    rw (long, ← size) (c.div_ceil-count.ensures ∙ rounded_up (length c.args.out.now) c.digest_len-size.result (rw size some)) in
    let room : length c.loop-number.out ≤ f.size * c.div_ceil-count.result =
    let t = div_ceil_times (length c.args.out.now) c.digest_len-size.result (rw size some) in
    rw (long, ← size) (rw c.div_ceil-count.ensures (omega (arith, t.0))) in
    rw (← long) (mgf1_done f (joined c.args.parts.now) c.loop-number.out c.loop-number.number c.div_ceil-count.result
    c.loop-number-test.false c.loop-number.auto.number-end count room (rw size at c.loop-number.invariant))
