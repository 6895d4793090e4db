-- SHA-256's rounds (FIPS 180-4, section 6.2.2) are those of the text over words of either width.
use Rattle.std.proofs.Common.{◌≡◌, ℕ, ◌+◌, ◌*◌, ◌%◌, ◌<◌, ◌≤◌, List, length, slice_index, slice_set, refl, sym, ◌∙◌, arith}
use Rattle.std.specs.Int.{w32}
use Rattle.slh_lanes.specs.Sha2.{IsWindow, add_state, round, window_word}
use Rattle.sha2.specs.Sha256.{big_sigma0, big_sigma1, small_sigma0, small_sigma1, round_constants, word_at, schedule, rounds, compress}
use Rattle.sha2.proofs.Schedule256 as kit

pub some_turns : 4 ≤ 4 × 4 < 6
some_turns = (omega arith, omega arith)

pub begins : (h b : List ℕ) → rounds h (schedule b 48) 0 ≡ h
unfolding rounds
begins h b = refl

-- a round of the first sixteen, whose word is the block's
pub first_rounds : (b h v : List ℕ) (t k x : ℕ) (next : List ℕ) → t < 16 → v ≡ rounds h (schedule b 48) t
    → k ≡ slice_index round_constants t → word_at b (4 * t) ≡ x → next ≡ round w32 big_sigma0 big_sigma1 v k x
    → next ≡ rounds h (schedule b 48) (t + 1)
first_rounds b h v t k x next lt ev ek ex en =
    let at : x ≡ slice_index (schedule b 48) t = sym ex ∙ sym (kit.slice_index-schedule_first b 48 t lt) in
    rw en (rw (kit.rounds_next h (schedule b 48) t, ← ev, ek, at) refl)

pub first_window : (b w : List ℕ) → length w ≡ 16 → ((k : ℕ) → k < 16 → word_at b (4 * k) ≡ slice_index w k) → IsWindow w (schedule b 48) 16
first_window b w l h = kit.IsWindow_first b w l (λ k lt. sym (h k lt))

pub next_rounds : (b h w v : List ℕ) (t k x : ℕ) (next_w next_v : List ℕ) → 16 ≤ t → t < 16 * 4 → IsWindow w (schedule b 48) t
    → v ≡ rounds h (schedule b 48) t → x ≡ window_word w32 small_sigma0 small_sigma1 w t → next_w ≡ slice_set w (t % 16) x
    → k ≡ slice_index round_constants t → next_v ≡ round w32 big_sigma0 big_sigma1 v k x
    → IsWindow next_w (schedule b 48) (t + 1) × (next_v ≡ rounds h (schedule b 48) (t + 1))
next_rounds b h w v t k x next_w next_v g lt win ev ex ew ek en = kit.rounds_window b h w v t k x next_w next_v g lt win ev ex ew ek en

pub ends : (h b : List ℕ) → compress h b ≡ add_state w32 h (rounds h (schedule b 48) (16 * 4))
unfolding compress
ends h b = refl

pub four_turns : ◌≡◌ {A = ℕ} 4 4
four_turns = refl

pub word_is : (b : List ℕ) (k : ℕ) → word_at b (4 * k) ≡ word_at b (4 * k)
word_is b k = refl

pub compress_is : (h b : List ℕ) → compress h b ≡ compress h b
compress_is h b = refl
