-- Checkpoints of chains: how many, how long, and that the chains run on from them.
use Rattle.std.proofs.Common.{◌≡◌, ℕ, ◌+◌, ◌-◌, ◌*◌, ◌/◌, ◌%◌, ◌<◌, ◌≤◌, inl, inr, List, length, drop, refl, ap, ◌∙◌, lit≤, arith}
use Rattle.std.specs.Int.{div_ceil}
use Rattle.std.proofs.Math.Nat.{div-lt_iff_lt-mul}
use Rattle.std.proofs.lemmas.List.{length-drop, length-take-le}
use Rattle.slh_params.specs.declared.param_set.ParamSet.{ParamSet}
use Rattle.slh_params.specs.ParamSet.{params}
use Rattle.slh_params.specs.Params.{Params, w, len, ceil_div}
use Rattle.slh_params.proofs.Bounds.{lg_w_cases, n_high, w_low}
use Rattle.slh_few.specs.Chunks.{chunk}
use Rattle.slh_few.specs.Wots.{chain, digit, secret, signed_chain, wots_sig}
use Rattle.slh_few.specs.KeyCheckpoints.{spacing, checkpoint_count, checkpoint, chain_checkpoints, key_checkpoints, chain_checkpoints_len, key_checkpoints_len, chain_from_checkpoints, wots_sig_from}
use Rattle.slh_few.specs.declared.place.Place.{Place}
use Rattle.slh_few.proofs.Chains.{length-chain, chain-on}
use Rattle.slh_few.proofs.DigitBounds.{digit-small}
use Rattle.slh_few.proofs.Ends.{chunk-end_to_end, length-end_to_end, end_to_end-same, chunk_fits}
use Rattle.slh_few.proofs.ChunkWrites.{all_chunks}
use Rattle.slh_few.proofs.WotsLaw.{length-secret}

-- the checkpoints and the steps between them make up a chain
pub count_times_spacing : (s : ParamSet) → checkpoint_count (params s) * spacing (params s) ≡ w (params s)
unfolding checkpoint_count spacing
count_times_spacing s = elim (lg_w_cases s) [ inl e ↦ rw e refl | inr (inl e) ↦ rw e refl | inr (inr e) ↦ rw e refl ]

pub spacing_low : (s : ParamSet) → 1 ≤ spacing (params s)
unfolding spacing
spacing_low s = elim (lg_w_cases s) [ inl e ↦ rw e (lit≤ tt) | inr (inl e) ↦ rw e (lit≤ tt) | inr (inr e) ↦ rw e (lit≤ tt) ]

pub count_low : (s : ParamSet) → 1 ≤ checkpoint_count (params s)
unfolding checkpoint_count spacing
count_low s = elim (lg_w_cases s) [ inl e ↦ rw e (lit≤ tt) | inr (inl e) ↦ rw e (lit≤ tt) | inr (inr e) ↦ rw e (lit≤ tt) ]

pub count_high : (s : ParamSet) → checkpoint_count (params s) ≤ 16
unfolding checkpoint_count spacing
count_high s = elim (lg_w_cases s) [ inl e ↦ rw e (lit≤ tt) | inr (inl e) ↦ rw e (lit≤ tt) | inr (inr e) ↦ rw e (lit≤ tt) ]

-- the next checkpoints value
pub checkpoint-more : (p : Params) (sk pk : List ℕ) (at : Place) (c j : ℕ)
    → chain p pk at c (checkpoint p sk pk at c j) (j * spacing p) (spacing p) ≡ checkpoint p sk pk at c (j + 1)
checkpoint-more p sk pk at c j =
    let next : j * spacing p + spacing p ≡ (j + 1) * spacing p = omega arith in
    chain-on p pk at c (secret p sk pk at c) (j * spacing p) (spacing p) ∙ ap (λ k. chain p pk at c (secret p sk pk at c) 0 k) next

-- a checkpoints value has n bytes
pub length-checkpoint : (p : Params) (sk pk : List ℕ) (at : Place) (c j : ℕ) → p.n ≤ 32 → length (checkpoint p sk pk at c j) ≡ p.n
length-checkpoint p sk pk at c j h = length-chain p pk at c (secret p sk pk at c) 0 (j * spacing p) h (length-secret p sk pk at c h)

pub length-chain_checkpoints : (p : Params) (sk pk : List ℕ) (at : Place) (c : ℕ) → p.n ≤ 32 → length (chain_checkpoints p sk pk at c) ≡ chain_checkpoints_len p
unfolding chain_checkpoints
length-chain_checkpoints p sk pk at c h = length-end_to_end (checkpoint p sk pk at c) p.n (checkpoint_count p) (λ j l. length-checkpoint p sk pk at c j h)

-- the last checkpoints value before a step, and the steps that are left
pub checkpoint_below : (s : ParamSet) (steps : ℕ) → steps ≤ w (params s) - 1 → steps / spacing (params s) < checkpoint_count (params s)
checkpoint_below s steps h =
    let room : steps < checkpoint_count (params s) * spacing (params s) = omega (arith, count_times_spacing s, w_low s) in
    (div-lt_iff_lt-mul {k = spacing (params s)} {x = steps} {y = checkpoint_count (params s)} (spacing_low s)).1 room

pub checkpoint_run : (p : Params) (sk pk : List ℕ) (at : Place) (c steps : ℕ) → 1 ≤ spacing p
    → chain p pk at c (checkpoint p sk pk at c (steps / spacing p)) (steps / spacing p * spacing p) (steps % spacing p) ≡ chain p pk at c (secret p sk pk at c) 0 steps
checkpoint_run p sk pk at c steps some =
    let all : steps / spacing p * spacing p + steps % spacing p ≡ steps = omega arith in
    chain-on p pk at c (secret p sk pk at c) (steps / spacing p * spacing p) (steps % spacing p) ∙ ap (λ k. chain p pk at c (secret p sk pk at c) 0 k) all

-- each checkpoints value stands at its place, and so do those of each chain
pub chunk-chain_checkpoints : (p : Params) (sk pk : List ℕ) (at : Place) (c j : ℕ) → p.n ≤ 32 → j < checkpoint_count p → chunk p.n (chain_checkpoints p sk pk at c) j ≡ checkpoint p sk pk at c j
unfolding chain_checkpoints
chunk-chain_checkpoints p sk pk at c j h l = chunk-end_to_end (checkpoint p sk pk at c) p.n (checkpoint_count p) j l (λ i b. length-checkpoint p sk pk at c i h)

pub chunk-key_checkpoints : (p : Params) (sk pk : List ℕ) (at : Place) (c : ℕ) → p.n ≤ 32 → c < len p → chunk (chain_checkpoints_len p) (key_checkpoints p sk pk at) c ≡ chain_checkpoints p sk pk at c
unfolding key_checkpoints
chunk-key_checkpoints p sk pk at c h l = chunk-end_to_end (chain_checkpoints p sk pk at) (chain_checkpoints_len p) (len p) c l (λ i b. length-chain_checkpoints p sk pk at i h)

pub length-key_checkpoints : (p : Params) (sk pk : List ℕ) (at : Place) → p.n ≤ 32 → length (key_checkpoints p sk pk at) ≡ key_checkpoints_len p
unfolding key_checkpoints
length-key_checkpoints p sk pk at h = length-end_to_end (chain_checkpoints p sk pk at) (chain_checkpoints_len p) (len p) (λ c l. length-chain_checkpoints p sk pk at c h)

-- values of a chain that are all at the places of its checkpoints are the checkpoints of the chain
pub chain_checkpoints-values : (p : Params) (sk pk : List ℕ) (at : Place) (c : ℕ) (checkpoints : List ℕ) → c < len p → length checkpoints ≡ key_checkpoints_len p
    → ((j : ℕ) → j < checkpoint_count p → chunk p.n (chunk (chain_checkpoints_len p) checkpoints c) j ≡ checkpoint p sk pk at c j)
    → chunk (chain_checkpoints_len p) checkpoints c ≡ chain_checkpoints p sk pk at c
unfolding chain_checkpoints
chain_checkpoints-values p sk pk at c checkpoints few size values =
    let room = chunk_fits c (len p) (chain_checkpoints_len p) (length checkpoints) few size in
    let long : length (chunk (chain_checkpoints_len p) checkpoints c) ≡ checkpoint_count p * p.n =
    length-take-le (chain_checkpoints_len p) (drop (c * chain_checkpoints_len p) checkpoints) (simp length-drop (omega (arith, room))) in
    all_chunks (checkpoint p sk pk at c) p.n (checkpoint_count p) (chunk (chain_checkpoints_len p) checkpoints c) long values

-- from the last checkpoints value on the chain is run to its end
pub last_checkpoint : (s : ParamSet) → (checkpoint_count (params s) - 1) * spacing (params s) + (spacing (params s) - 1) ≡ w (params s) - 1
last_checkpoint s =
    let more : (checkpoint_count (params s) - 1 + 1) * spacing (params s) ≡ checkpoint_count (params s) * spacing (params s) =
    ap (λ k. k * spacing (params s)) (let e : checkpoint_count (params s) - 1 + 1 ≡ checkpoint_count (params s) = omega (arith, count_low s) in e) in
    omega (arith, more, count_times_spacing s, spacing_low s)

-- a count rounded up, as a program does it
pub ceil_16 : (x : ℕ) → div_ceil x 16 ≡ ceil_div x 16
ceil_16 x = omega arith

-- the key's own values make the key's signature
pub wots_sig_from-own : (s : ParamSet) (sk pk : List ℕ) (at : Place) (m : List ℕ)
    → wots_sig_from (params s) pk at (key_checkpoints (params s) sk pk at) m ≡ wots_sig (params s) sk pk at m
unfolding wots_sig_from wots_sig
wots_sig_from-own s sk pk at m =
    let p = params s in
    let checkpoints = key_checkpoints p sk pk at in
    end_to_end-same (chain_from_checkpoints p pk at checkpoints m) (signed_chain p sk pk at m) (len p) (λ c l.
    let d = digit p m c in
    let j = d / spacing p in
    let high : d ≤ w p - 1 = omega (arith, digit-small p m c) in
    ap (λ (xs : List ℕ). chain p pk at c (chunk p.n xs j) (j * spacing p) (d % spacing p)) (chunk-key_checkpoints p sk pk at c (n_high s) l)
    ∙ ap (λ (y : List ℕ). chain p pk at c y (j * spacing p) (d % spacing p)) (chunk-chain_checkpoints p sk pk at c j (n_high s) (checkpoint_below s d high))
    ∙ checkpoint_run p sk pk at c d (spacing_low s))
