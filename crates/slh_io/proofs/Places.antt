-- What is left of a file after a read.
use Rattle.std.proofs.Common.{◌≡◌, ◌∙◌, ◌+◌, ℕ, List, ◌++◌, length, take, drop, Option, Some, None, Result, Ok, Err, MatchResult, sym, ap, arith}
use Rattle.std.proofs.Math.Seq.{drop-append_seam}
use Rattle.std.proofs.lemmas.Grind.{common_steps}
use Rattle.std.specs.Io.{ReadsAtMost}
use Rattle.std.specs.Io.KnownBytes.{ReadConsumes}
use Rattle.slh_io.specs.Places.{IsLeftFrom}

-- after the prefix of the rest, the rest of the rest
rest_after : (whole front rest : List ℕ) (at : ℕ) → drop at whole ≡ front ++ rest → rest ≡ drop (at + length front) whole
rest_after whole front rest at e = sym (drop-append_seam front rest) ∙ ap (λ (xs : List ℕ). drop (length front) xs) (sym e) ∙ grind (arith, common_steps)

-- what was left from a place on is left from the place after a read
pub left_after : {E : Type 0} (r : Result ℕ E) (known old new : Option (List ℕ)) (out : List ℕ) (at next : ℕ) → IsLeftFrom known at old → ReadsAtMost r out
    → ReadConsumes old new r out → MatchResult r (λ n. next ≡ at + n) (λ _. next ≡ at) → IsLeftFrom known next new
left_after r None old new out at next l b c p = tt
left_after (Ok n) (Some whole) (Some xs) (Some ys) out at next l b c p =
    let same : n ≡ length (take n out) = b.1 in
    ap (λ (zs : List ℕ). Some zs) (rest_after whole (take n out) ys at (cc (l, c.0)) ∙ ap (λ (k : ℕ). drop k whole) (ap (λ (k : ℕ). at + k) (sym same) ∙ sym p))
left_after (Ok n) (Some whole) (Some xs) None out at next l b c p = absurd c.0
left_after (Ok n) (Some whole) None new out at next l b c p = cc
left_after (Err e) (Some whole) (Some xs) (Some ys) out at next l b c p = rw (p, c) l
left_after (Err e) (Some whole) (Some xs) None out at next l b c p = absurd c
left_after (Err e) (Some whole) None new out at next l b c p = cc
