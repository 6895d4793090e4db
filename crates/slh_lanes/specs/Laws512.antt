-- SHA-512's rounds (FIPS 180-4, section 6.4.2) are those of the text over words of either width.
use Rattle.std.proofs.Common.{◌≡◌, ℕ, ◌+◌, ◌*◌, ◌%◌, ◌<◌, ◌≤◌, List, length, slice_index, slice_set, refl, sym, ◌∙◌, arith}
use Rattle.std.specs.Int.{w64}
use Rattle.slh_lanes.specs.Sha2.{IsWindow, add_state, round, window_word}
use Rattle.sha2.specs.Sha512.{big_sigma0, big_sigma1, small_sigma0, small_sigma1, round_constants, word_at, schedule, rounds, compress}
use Rattle.sha2.proofs.Schedule512 as kit

pub some_turns : 4 ≤ 5 × 5 < 6
some_turns = (omega arith, omega arith)

pub begins : (h b : List ℕ) → rounds h (schedule b 64) 0 ≡ h
unfolding rounds
begins h b = refl

-- a round of the first sixteen, whose word is the block's
pub first_rounds : (b h v : List ℕ) (t k x : ℕ) (next : List ℕ) → t < 16 → v ≡ rounds h (schedule b 64) t
    → k ≡ slice_index round_constants t → word_at b (8 * t) ≡ x → next ≡ round w64 big_sigma0 big_sigma1 v k x
    → next ≡ rounds h (schedule b 64) (t + 1)
first_rounds b h v t k x next lt ev ek ex en =
    let at : x ≡ slice_index (schedule b 64) t = sym ex ∙ sym (kit.slice_index-schedule_first b 64 t lt) in
    rw en (rw (kit.rounds_next h (schedule b 64) t, ← ev, ek, at) refl)

pub first_window : (b w : List ℕ) → length w ≡ 16 → ((k : ℕ) → k < 16 → word_at b (8 * k) ≡ slice_index w k) → IsWindow w (schedule b 64) 16
first_window b w l h = kit.IsWindow_first b w l (λ k lt. sym (h k lt))

pub next_rounds : (b h w v : List ℕ) (t k x : ℕ) (next_w next_v : List ℕ) → 16 ≤ t → t < 16 * 5 → IsWindow w (schedule b 64) t
    → v ≡ rounds h (schedule b 64) t → x ≡ window_word w64 small_sigma0 small_sigma1 w t → next_w ≡ slice_set w (t % 16) x
    → k ≡ slice_index round_constants t → next_v ≡ round w64 big_sigma0 big_sigma1 v k x
    → IsWindow next_w (schedule b 64) (t + 1) × (next_v ≡ rounds h (schedule b 64) (t + 1))
next_rounds b h w v t k x next_w next_v g lt win ev ex ew ek en = kit.rounds_window b h w v t k x next_w next_v g lt win ev ex ew ek en

pub ends : (h b : List ℕ) → compress h b ≡ add_state w64 h (rounds h (schedule b 64) (16 * 5))
unfolding compress
ends h b = refl
