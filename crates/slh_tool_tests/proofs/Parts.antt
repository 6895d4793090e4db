-- Parts of files that are known.
use Rattle.std.proofs.Common.{◌≡◌, ◌≤◌, ◌<◌, ◌+◌, ◌-◌, ℕ, min, List, ◌++◌, length, take, drop, Option, Some, subst, ap, ◌∙◌, arith}
use Rattle.std.proofs.lemmas.List.{length-append, length-drop, length-take-le, take_all, take-append-le}
use Rattle.std.proofs.lemmas.Grind.{common_steps}
use Rattle.slh_io.specs.Devices.{EndsBy, HasPart}

-- a place past the end stands for the end
same_part : (whole : List ℕ) (at from n : ℕ) → from ≡ min at (length whole) → n ≤ length whole - from → take n (drop from whole) ≡ take n (drop at whole)
same_part whole at from n f few = grind (arith, common_steps)

in_place : (whole part rest : List ℕ) (at from n : ℕ) → from ≡ min at (length whole) → n ≤ length whole - from → part ≡ take n (drop from whole)
    → take n (part ++ rest) ≡ take (length (take n (part ++ rest))) (drop at whole)
in_place whole part rest at from n f few e =
    let len : length part ≡ n = ap length e ∙ length-take-le n (drop from whole) (omega (arith, length-drop from whole)) in
    let front : take n (part ++ rest) ≡ part = take-append-le n part rest (omega arith) ∙ take_all n part (omega arith) in
    rw front (rw len (e ∙ same_part whole at from n f few))

-- what a fetch put at the front of its buffer is a part of the file
pub part_of : (known : Option (List ℕ)) (whole part rest : List ℕ) (at from n k : ℕ) → Some whole ≡ known → from ≡ min at (length whole) → n ≡ min k (length whole - from)
    → part ≡ take (from + n - from) (drop from whole) → HasPart known at (take n (part ++ rest))
part_of known whole part rest at from n k is f m e =
    let same : from + n - from ≡ n = omega arith in
    let few : n ≤ length whole - from = omega arith in
    subst (λ (known : Option (List ℕ)). HasPart known at (take n (part ++ rest))) is
    (in_place whole part rest at from n f few (e ∙ ap (λ (i : ℕ). take i (drop from whole)) same))

-- a fetch that put nothing into a room was at the end
pub end_of : (known : Option (List ℕ)) (whole part out : List ℕ) (at from n : ℕ) → Some whole ≡ known → from ≡ min at (length whole) → n ≡ min (length out) (length whole - from)
    → part ≡ take (from + n - from) (drop from whole) → n ≡ 0 → 0 < length (part ++ drop n out) → EndsBy known at
end_of known whole part out at from n is f m e none some =
    let less : length part ≤ n = grind (arith, common_steps) in
    let all : length whole ≤ at = omega (arith, length-append part (drop n out), length-drop n out) in
    subst (λ (known : Option (List ℕ)). EndsBy known at) is all
