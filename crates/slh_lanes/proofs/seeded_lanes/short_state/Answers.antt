use Rattle.std.proofs.Common.{◌≡◌, ℕ, ◌-◌, ◌/◌, List, ◌++◌, length, drop, replicate, arith, refl, sym, ap, ap₂, ◌∙◌}
use Rattle.std.proofs.lemmas.List.{drop-replicate, take_all}
use Rattle.sha2.specs.Sha256.{compress, hash_after, initial_hash_256}
use Rattle.slh_params.specs.Bits.{to_byte}
use Rattle.slh_hash.proofs.Zeros.{to_byte-zero}
use Rattle.slh_lanes.specs.Block.{first_block}
use Rattle.slh_lanes.proofs.Tweaked.{length-first_block}
use Rattle.slh_lanes.proofs.seeded_lanes.short_state.Goals as goal

after_one_block : (h b : List ℕ) → length b ≡ 64 → hash_after h b (length b / 64) ≡ compress h b
unfolding hash_after
after_one_block h b size =
    let one : length b / 64 ≡ 1 = omega (arith, size) in
    rw (one, take_all 64 b (omega (arith, size))) refl

pub returns : goal.returns
returns c = λ p long.
    let pk : List ℕ = c.args.pk_seed.now in
    let zeros : drop (length pk) (replicate 64 0) ≡ to_byte 0 (64 - p.n) =
    drop-replicate (length pk) 64 0 ∙ ap (λ (k : ℕ). replicate (64 - k) 0) long ∙ sym (to_byte-zero (64 - p.n)) in
    c.hash_after.ensures
    ∙ ap (λ (b : List ℕ). hash_after initial_hash_256 b (length b / 64)) (ap₂ (λ (x y : List ℕ). x ++ y) c.copy_from_slice.ensures.after zeros)
    ∙ after_one_block initial_hash_256 (first_block p pk) (length-first_block 64 p pk long (omega (arith, long, c.requires)))
