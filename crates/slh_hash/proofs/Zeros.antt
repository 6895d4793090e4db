use Rattle.std.proofs.Common.{◌≡◌, ℕ, zero, suc, ◌^◌, ◌≤◌, ◌∷◌, take, replicate, refl, ap, sym, ◌∙◌}
use Rattle.std.proofs.Math.Nat.{zero-div}
use Rattle.std.proofs.lemmas.List.{take-replicate}
use Rattle.slh_params.specs.Bits.{to_byte}

pub to_byte-zero : (l : ℕ) → to_byte 0 l ≡ replicate l 0
to_byte-zero zero = refl
to_byte-zero (suc zero) = refl
to_byte-zero (suc (suc l)) = rw (zero-div (256 ^ suc l)) (ap (λ xs. 0 ∷ xs) (to_byte-zero (suc l)))

pub take-zeros : (l : ℕ) → l ≤ 128 → take l (replicate 128 0) ≡ to_byte 0 l
take-zeros l h = take-replicate l 128 0 h ∙ sym (to_byte-zero l)
