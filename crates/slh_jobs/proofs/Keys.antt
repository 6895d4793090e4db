-- HMAC fills up no shorter key to the key of the tags.
use Rattle.std.proofs.Common.{◌≡◌, ℕ, ◌+◌, ◌-◌, ◌*◌, ◌≤◌, ◌==◌, nat_le, if◌then◌else◌, true, ◌⊎◌, inl, inr, List, [], ◌∷◌, ◌++◌, length, replicate, get_or, ap, sym, ◌∙◌, arith, rules, length-append, lit≤}
use Rattle.std.proofs.lemmas.Bool.{cond-true}
use Rattle.std.proofs.lemmas.List.{append_assoc, get_or-append-add}
use Rattle.slh_params.specs.ParamSet.{params}
use Rattle.slh_params.specs.declared.param_set.ParamSet.{ParamSet}
use Rattle.slh_params.proofs.Bounds.{n_cases}
use Rattle.slh_hash.specs.HashFunctions.{HashFunction, SHA_256, SHA_512, category_function}
use Rattle.slh_hash.specs.Keyed.{filled, key_block}
use Rattle.slh_few.proofs.Ends.{replicate_below}
use Rattle.slh_jobs.specs.Tags.{tag_key}

-- a test of two numbers
le_true : (a b : ℕ) → a ≤ b → nat_le a b ≡ true
le_true a b h = search rules

-- a key that fits a block is filled up as it is
as_it_is : (f : HashFunction) (key : List ℕ) → length key ≤ f.block → key_block f key ≡ filled f.block key
as_it_is f key le = cond-true (nat_le (length key) f.block) _ _ (le_true (length key) f.block le)

-- the key of the tags fits the block of each category
room_of : (n : ℕ) → (n ≡ 16) ⊎ (n ≡ 24) ⊎ (n ≡ 32) → 3 * n + 1 ≤ (if n == 16 then SHA_256 else SHA_512).block
room_of n (inl e) = rw e (lit≤ tt)
room_of n (inr (inl e)) = rw e (lit≤ tt)
room_of n (inr (inr e)) = rw e (lit≤ tt)

room : (set : ParamSet) → 3 * (params set).n + 1 ≤ (category_function (params set)).block
room set = room_of (params set).n (n_cases set)

-- The byte at place 3n of the block: in that of the key of the tags its last byte, in that of a shorter key a zero.
end_byte : (block at : ℕ) (front : List ℕ) → length front ≡ at → get_or (filled block (front ++ (1 ∷ []))) at 0 ≡ 1
end_byte block at front len =
    let zeros : List ℕ = replicate (block - length (front ++ (1 ∷ []))) 0 in
    let place : at ≡ length front + 0 = omega (arith, len) in
    ap (λ (xs : List ℕ). get_or xs at 0) (append_assoc front (1 ∷ []) zeros)
    ∙ ap (λ (k : ℕ). get_or (front ++ ((1 ∷ []) ++ zeros)) k 0) place
    ∙ get_or-append-add front ((1 ∷ []) ++ zeros) 0 0

zero_byte : (block at : ℕ) (key : List ℕ) → length key ≤ at → get_or (filled block key) at 0 ≡ 0
zero_byte block at key le =
    let zeros : List ℕ = replicate (block - length key) 0 in
    let i : ℕ = at - length key in
    let place : at ≡ length key + i = omega arith in
    let none : get_or zeros i 0 ≤ 0 = replicate_below (block - length key) 0 i 0 (omega arith) in
    ap (λ (k : ℕ). get_or (key ++ zeros) k 0) place ∙ get_or-append-add key zeros i 0 ∙ omega (arith, none)

pub no_other_key : (set : ParamSet) (sk prf pk other : List ℕ) → length sk ≡ (params set).n → length prf ≡ (params set).n → length pk ≡ (params set).n
    → length other ≤ 3 * (params set).n → key_block (category_function (params set)) (tag_key sk prf pk) ≡ key_block (category_function (params set)) other → ⊥
no_other_key set sk prf pk other ls lp lk lo e =
    let n = (params set).n in
    let f = category_function (params set) in
    let front : List ℕ = prf ++ sk ++ pk in
    let len : length front ≡ 3 * n = omega (arith, length-append (prf ++ sk) pk, length-append prf sk, ls, lp, lk) in
    let whole : length (tag_key sk prf pk) ≡ 3 * n + 1 = omega (arith, length-append front (1 ∷ []), len) in
    let own = as_it_is f (tag_key sk prf pk) (omega (arith, whole, room set)) in
    let others = as_it_is f other (omega (arith, lo, room set)) in
    let same : filled f.block (tag_key sk prf pk) ≡ filled f.block other = sym own ∙ e ∙ others in
    let clash : 1 ≡ 0 = sym (end_byte f.block (3 * n) front len) ∙ ap (λ (xs : List ℕ). get_or xs (3 * n) 0) same ∙ zero_byte f.block (3 * n) other lo in
    absurd (omega (arith, clash))
