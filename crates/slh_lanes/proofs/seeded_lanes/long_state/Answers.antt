use Rattle.std.proofs.Common.{◌≡◌, ℕ, ◌-◌, ◌*◌, ◌<◌, List, ◌++◌, length, drop, replicate, arith, sym, ap, ap₂, ◌∙◌}
use Rattle.std.proofs.lemmas.List.{drop-replicate}
use Rattle.sha2.specs.Sha512.{compress, word_at}
use Rattle.slh_params.specs.Bits.{to_byte}
use Rattle.slh_hash.proofs.Zeros.{to_byte-zero}
use Rattle.slh_lanes.specs.LongBlock.{long_first_block}
use Rattle.slh_lanes.proofs.seeded_lanes.long_state.Goals as goal

pub returns : goal.returns
returns c = λ p long.
    let pk : List ℕ = c.args.pk_seed.now in
    let lane : 0 < 8 = omega arith in
    let zeros : drop (length pk) (replicate 128 0) ≡ to_byte 0 (128 - p.n) =
    drop-replicate (length pk) 128 0 ∙ ap (λ (k : ℕ). replicate (128 - k) 0) long ∙ sym (to_byte-zero (128 - p.n)) in
    c.first_lane.ensures
    ∙ c.compress_long.ensures 0 lane (long_first_block p pk) (λ k lt.
    ap (λ (b : List ℕ). word_at b (8 * k)) (sym (ap₂ (λ (x y : List ℕ). x ++ y) c.copy_from_slice.ensures.after zeros)) ∙ sym (c.load_all_long.ensures.words 0 lane k lt))
    ∙ ap (λ (h : List ℕ). compress h (long_first_block p pk)) (c.initial-state.ensures 0 lane)
