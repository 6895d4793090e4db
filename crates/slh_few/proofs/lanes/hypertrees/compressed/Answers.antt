-- After each turn the stream in each lane has absorbed one end more.
use Rattle.std.proofs.Common.{◌≡◌, ℕ, ◌+◌, ◌*◌, ◌^◌, ◌<◌, ◌++◌, List, length, slice_index_or, take, ap, sym, subst, ◌∙◌, arith}
use Rattle.std.proofs.Math.Nat.{mul-le-mul}
use Rattle.std.proofs.lemmas.List.{length-take}
use Rattle.slh_params.specs.Address.{Address, WOTS_PK}
use Rattle.slh_params.specs.Params.{len}
use Rattle.slh_params.specs.ParamSet.{params}
use Rattle.slh_params.proofs.Bounds.{len_high, n_high}
use Rattle.slh_hash.specs.Hash.{T}
use Rattle.slh_lanes.specs.Lanes.{value_at}
use Rattle.slh_lanes.specs.LaneStreams.{HasAbsorbedAt}
use Rattle.slh_few.specs.Wots.{wots_address}
use Rattle.slh_few.proofs.Ends.{take-chunk_more}
use Rattle.slh_few.proofs.lanes.hypertrees.compressed.Goals as goal

pub loop-c-init : goal.loop-c-init
loop-c-init c = λ j pk at e lane seed.
    let none : 0 * (params c.args.set).n ≡ 0 = omega arith in
    rw none (rw c.requires.set at (c.under-stream.ensures j pk _ lane seed (c.place_adrs.ensures j at lane)))

pub loop-c-preserved : goal.loop-c-preserved
loop-c-preserved c = λ j pk at e lane seed.
    let p = params c.args.set in
    let a : Address = wots_address (slice_index_or c.args.places.now j at) WOTS_PK 0 0 in
    let xs : List ℕ = slice_index_or c.args.ends.now j e in
    let k : ℕ = c.loop-c.c in
    let more : take (k * p.n) xs ++ value_at c.ends_at.result j p.n ≡ take ((k + 1) * p.n) xs =
    ap (λ (v : List ℕ). take (k * p.n) xs ++ v) (c.ends_at.ensures j e lane) ∙ sym (take-chunk_more p.n xs k) in
    subst (HasAbsorbedAt c.absorb.new.self j p pk a) more (c.absorb.ensures p pk j a _ lane (c.loop-c.invariant j pk at e lane seed))

pub returns : goal.returns
returns c = λ j pk at e lane seed.
    let s = c.args.set in
    let p = params s in
    let a : Address = wots_address (slice_index_or c.args.places.now j at) WOTS_PK 0 0 in
    let xs : List ℕ = slice_index_or c.args.ends.now j e in
    let all : c.loop-c.c ≡ len p = omega (arith, c.len-c-end.ensures, c.loop-c-test.false) in
    let small = mul-le-mul (len_high s) (n_high s) in
    let few : length (take (c.loop-c.c * p.n) xs) < 2 ^ 28 = omega (arith, length-take (c.loop-c.c * p.n) xs, ap (λ (k : ℕ). k * p.n) all, small) in
    c.finish.ensures p pk j a _ lane (c.loop-c.invariant j pk at e lane seed) few ∙ ap (λ (k : ℕ). T p pk a (take (k * p.n) xs)) all
