-- The digits of a message: how many, and how large.
use Rattle.std.proofs.Common.{◌≡◌, ℕ, ◌-◌, ◌<◌, ◌≤◌, List, length, ◌∙◌, arith, length-append}
use Rattle.std.specs.List.{All}
use Rattle.std.proofs.lemmas.List.Elements.{All-append}
use Rattle.std.proofs.lemmas.Nat.{pow_pos}
use Rattle.slh_params.specs.Params.{Params, w, len, len1, len2}
use Rattle.slh_params.proofs.Groups.{base_2b-small, length-base_2b, small-at}
use Rattle.slh_few.specs.Wots.{digits, digit, message_digits, checksum_digits, checksum}

-- the digits are below w
pub digits-small : (p : Params) (m : List ℕ) → All (λ d. d < w p) (digits p m)
unfolding digits
digits-small p m = All-append (λ d. d < w p) (message_digits p m) (checksum_digits p (checksum p (message_digits p m)))
    (base_2b-small _ p.lg_w (len1 p)) (base_2b-small _ p.lg_w (len2 p))

-- each is at most w - 1, also past the end
pub digit-small : (p : Params) (m : List ℕ) (c : ℕ) → digit p m c ≤ w p - 1
digit-small p m c = omega (arith, small-at (w p) (digits p m) c (pow_pos p.lg_w) (digits-small p m))

-- there are len digits
pub length-digits : (p : Params) (m : List ℕ) → length (digits p m) ≡ len p
unfolding digits len
length-digits p m =
    let front : length (message_digits p m) ≡ len1 p = length-base_2b m p.lg_w (len1 p) in
    let back : length (checksum_digits p (checksum p (message_digits p m))) ≡ len2 p = length-base_2b _ p.lg_w (len2 p) in
    length-append (message_digits p m) (checksum_digits p (checksum p (message_digits p m))) ∙ omega (arith, front, back)
