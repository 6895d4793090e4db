use Rattle.std.proofs.Common.{◌≡◌, ℕ, ◌-◌, ◌*◌, ◌%◌, ◌^◌, take, replicate, arith, refl}
use Rattle.std.proofs.lemmas.List.{take-replicate}
use Rattle.slh_lanes.proofs.hmac_lanes.padding_of.Goals as goal

pub returns : goal.returns
returns c =
    let z : ℕ = (119 - c.args.len % 64) % 64 in
    let zeros : take {A = ℕ} z (replicate {A = ℕ} 64 0) ≡ replicate {A = ℕ} z 0 = take-replicate z 64 0 (omega arith) in
    let bits : c.args.len * 8 % 2 ^ 64 ≡ c.args.len * 8 = omega (arith, c.requires.small) in
    rw bits (rw (c.append-3.ensures, c.append-2.ensures, c.append.ensures, c.new-padding.ensures, c.to_be_bytes.ensures, zeros) refl)
