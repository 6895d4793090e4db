-- Texts put one after the other.
use Rattle.std.proofs.Common.{◌<◌, ◌≤◌, ◌+◌, ◌/◌, ◌%◌, ◌^◌, ℕ, List, [], ◌∷◌, ◌++◌, Option, Result, Ok, Err, length, take, inl, inr, arith}
use Rattle.std.specs.Prelude.{IsErr}
use Rattle.std.proofs.lemmas.Bool.{cases_lt}
use Rattle.std.proofs.Math.Seq.{take-append_seam, take-append-add}
use Rattle.std.proofs.lemmas.List.{take-append-le, take_all}
use Rattle.std.specs.Fmt.{decimal}
use Rattle.std.proofs.lemmas.Fmt.{decimal_digit, decimal_step}
use Rattle.std.specs.Io.KnownBytes.{Appends}
use Rattle.std.proofs.KnownBytes.{Appends-trans}
use Rattle.slh_io.specs.Devices.{LetsThrough, Puts}

-- what was written of a text, with more text to come
through_more : (a b : Option (List ℕ)) (x y : List ℕ) → LetsThrough a b x → LetsThrough a b (x ++ y)
through_more a b x y p = elim (cases_lt p.0 (length x)) [
  | inl lt ↦ (p.0, rw (take-append-le p.0 x y (omega arith)) p.1)
  | inr ge ↦ (length x, rw (take-append_seam x y) (rw (take_all p.0 x ge) at p.1))
]

-- what was written after a whole text
through_after : (a b c : Option (List ℕ)) (x y : List ℕ) → Appends a b x → LetsThrough b c y → LetsThrough a c (x ++ y)
through_after a b c x y p q = (length x + q.0, rw (take-append-add x y q.0) (Appends-trans a b c x (take q.0 y) p q.1))

-- a text, and then another
puts_after : {T E : Type 0} (r : Result T E) (a b c : Option (List ℕ)) (x y : List ℕ) → Appends a b x → Puts b c r y → Puts a c r (x ++ y)
puts_after (Ok v) a b c x y p q = Appends-trans a b c x y p q
puts_after (Err e) a b c x y p q = through_after a b c x y p q

pub stopped : {T E : Type 0} (r : Result T E) (a b : Option (List ℕ)) (x y : List ℕ) → IsErr r → LetsThrough a b x → Puts a b r (x ++ y)
stopped (Ok v) a b x y is p = absurd cc
stopped (Err e) a b x y is p = through_more a b x y p

pub ended : {T E : Type 0} (r : Result T E) (a b c : Option (List ℕ)) (x y : List ℕ) → Appends a b x → Puts b c r y → Puts a c r (x ++ y)
ended r a b c x y p q = puts_after r a b c x y p q

-- a text was put whole, and of the next a prefix
pub stopped_after : {T E : Type 0} (r : Result T E) (a b c : Option (List ℕ)) (x y z : List ℕ) → IsErr r → Appends a b x → LetsThrough b c y → Puts a c r (x ++ y ++ z)
stopped_after r a b c x y z is p q = stopped r a c (x ++ y) z is (through_after a b c x y p q)

-- ---- of three texts

pub third_ended : {T E : Type 0} (r : Result T E) (a b c d : Option (List ℕ)) (x y z : List ℕ) → Appends a b x → Appends b c y → Puts c d r z → Puts a d r (x ++ y ++ z)
third_ended r a b c d x y z p q s = ended r a c d (x ++ y) z (Appends-trans a b c x y p q) s

pub first_of_three : {T E : Type 0} (r : Result T E) (a b : Option (List ℕ)) (x y z : List ℕ) → IsErr r → LetsThrough a b x → Puts a b r (x ++ y ++ z)
first_of_three r a b x y z is p = stopped r a b (x ++ y) z is (through_more a b x y p)

-- ---- of four

pub first_of_four : {T E : Type 0} (r : Result T E) (a b : Option (List ℕ)) (x y z w : List ℕ) → IsErr r → LetsThrough a b x → Puts a b r (x ++ y ++ z ++ w)
first_of_four r a b x y z w is p = stopped r a b (x ++ y ++ z) w is (through_more a b (x ++ y) z (through_more a b x y p))

pub second_of_four : {T E : Type 0} (r : Result T E) (a b c : Option (List ℕ)) (x y z w : List ℕ) → IsErr r → Appends a b x → LetsThrough b c y → Puts a c r (x ++ y ++ z ++ w)
second_of_four r a b c x y z w is p q = stopped r a c (x ++ y ++ z) w is (through_more a c (x ++ y) z (through_after a b c x y p q))

pub third_of_four : {T E : Type 0} (r : Result T E) (a b c d : Option (List ℕ)) (x y z w : List ℕ) → IsErr r → Appends a b x → Appends b c y → LetsThrough c d z → Puts a d r (x ++ y ++ z ++ w)
third_of_four r a b c d x y z w is p q s = stopped r a d (x ++ y ++ z) w is (through_after a c d (x ++ y) z (Appends-trans a b c x y p q) s)

pub fourth_ended : {T E : Type 0} (r : Result T E) (a b c d e : Option (List ℕ)) (x y z w : List ℕ) → Appends a b x → Appends b c y → Appends c d z → Puts d e r w → Puts a e r (x ++ y ++ z ++ w)
fourth_ended r a b c d e x y z w p q s t = ended r a d e (x ++ y ++ z) w (Appends-trans a c d (x ++ y) z (Appends-trans a b c x y p q) s) t

-- ---- digits

pub decimal_ended : {T E : Type 0} (r : Result T E) (a b : Option (List ℕ)) (n : ℕ) → n < 10 → Puts a b r ((48 + n) ∷ []) → Puts a b r (decimal n)
decimal_ended r a b n lt h = rw (decimal_digit n lt) h

pub decimal_stopped : {T E : Type 0} (r : Result T E) (a b : Option (List ℕ)) (n : ℕ) → IsErr r → 10 ≤ n → n < 2 ^ 64 → LetsThrough a b (decimal (n / 10)) → Puts a b r (decimal n)
decimal_stopped r a b n is ge lt p = rw (decimal_step n ge lt) (stopped r a b (decimal (n / 10)) ((48 + n % 10) ∷ []) is p)

pub decimal_went_on : {T E : Type 0} (r : Result T E) (a b c : Option (List ℕ)) (n : ℕ) → 10 ≤ n → n < 2 ^ 64 → Appends a b (decimal (n / 10)) → Puts b c r ((48 + n % 10) ∷ []) → Puts a c r (decimal n)
decimal_went_on r a b c n ge lt p q = rw (decimal_step n ge lt) (puts_after r a b c (decimal (n / 10)) ((48 + n % 10) ∷ []) p q)
