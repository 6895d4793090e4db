-- Checkpoints of a key's chains, stored from the making of the key until it signs: ours. A chain has w of them if w is
-- 4 or 16, and 16 if w is 256. So those of a key are as long as w or 16 WOTS+ signatures.
use Rattle.std.specs.Prelude.{ℕ, ◌*◌, ◌/◌, ◌%◌, List}
use Rattle.slh_params.specs.Params.{Params, ceil_div, w, len}
use Rattle.slh_few.specs.Chunks.{end_to_end, chunk}
use Rattle.slh_few.specs.Wots.{chain, digit, secret}
use Rattle.slh_few.specs.declared.place.Place.{Place}

-- the number of steps between two checkpoints of a chain: 1 if w is 4 or 16, and 16 if w is 256
unfoldable pub spacing : Params → ℕ
spacing p = ceil_div (w p) 16

-- the number of checkpoints of a chain
unfoldable pub checkpoint_count : Params → ℕ
checkpoint_count p = w p / spacing p

-- the length of the checkpoints of one chain, and of all chains of a key
abbrev pub chain_checkpoints_len : Params → ℕ
chain_checkpoints_len p = checkpoint_count p * p.n

abbrev pub key_checkpoints_len : Params → ℕ
key_checkpoints_len p = len p * chain_checkpoints_len p

-- checkpoint j of chain c
abbrev pub checkpoint : Params → List ℕ → List ℕ → Place → ℕ → ℕ → List ℕ
checkpoint p sk_seed pk_seed at c j = chain p pk_seed at c (secret p sk_seed pk_seed at c) 0 (j * spacing p)

-- the checkpoints of chain c
unfoldable pub chain_checkpoints : Params → List ℕ → List ℕ → Place → ℕ → List ℕ
chain_checkpoints p sk_seed pk_seed at c = end_to_end (checkpoint p sk_seed pk_seed at c) (checkpoint_count p)

-- those of all chains of a key
unfoldable pub key_checkpoints : Params → List ℕ → List ℕ → Place → List ℕ
key_checkpoints p sk_seed pk_seed at = end_to_end (chain_checkpoints p sk_seed pk_seed at) (len p)

-- the value of chain c after so many steps, run on from the last value before it among those that are given for the
-- chain, whatever bytes these are
abbrev pub run_from_checkpoint : Params → List ℕ → Place → ℕ → List ℕ → ℕ → List ℕ
run_from_checkpoint p pk_seed at c checkpoints steps =
    chain p pk_seed at c (chunk p.n checkpoints (steps / spacing p)) (steps / spacing p * spacing p) (steps % spacing p)

-- chunk c of the signature of a message that given values make
abbrev pub chain_from_checkpoints : Params → List ℕ → Place → List ℕ → List ℕ → ℕ → List ℕ
chain_from_checkpoints p pk_seed at checkpoints m c = run_from_checkpoint p pk_seed at c (chunk (chain_checkpoints_len p) checkpoints c) (digit p m c)

-- the signature of a message from given values; from the key's values, the key's signature
unfoldable pub wots_sig_from : Params → List ℕ → Place → List ℕ → List ℕ → List ℕ
wots_sig_from p pk_seed at checkpoints m = end_to_end (chain_from_checkpoints p pk_seed at checkpoints m) (len p)
