use Rattle.std.proofs.Common.{◌≡◌, ℕ, ◌≤◌, ◌⊎◌, ◌==◌, ◌++◌, List, if◌then◌else◌, length, take, inl, inr, arith, sym, ap, ap₂, ◌∙◌, length-append}
use Rattle.std.proofs.lemmas.List.{length-take-le}
use Rattle.sha2.specs.Sha256.{digest_bytes}
use Rattle.sha2.specs.Sha512.{compress, digest_bytes as long_digest_bytes}
use Rattle.slh_params.specs.Address.{Address}
use Rattle.slh_params.specs.Params.{Params}
use Rattle.slh_hash.specs.Hash.{T, tweaked_hash}
use Rattle.slh_hash.specs.HashFunctions.{SHA_256, SHA_512}
use Rattle.slh_lanes.specs.Columns.{column}
use Rattle.slh_lanes.specs.Lanes.{HasAddress, value_at}
use Rattle.slh_lanes.specs.LongBlock.{long_second_block}
use Rattle.slh_lanes.proofs.LongTweaked.{long_tweaked_is}
use Rattle.slh_lanes.proofs.WordBytes.{length-digest_bytes}
use Rattle.slh_lanes.proofs.seeded_lanes.long_digests.Goals as goal

-- where n is 24 or 32, T hashes by SHA-512
long : (p : Params) (pk : List ℕ) (a : Address) (x : List ℕ) → (p.n ≡ 24) ⊎ (p.n ≡ 32) → tweaked_hash SHA_512 p pk a x ≡ T p pk a x
unfolding T
long p pk a x cases =
    let by : ℕ → List ℕ = λ m. tweaked_hash (if m == 16 then SHA_256 else SHA_512) p pk a x in
    elim cases [ inl e ↦ ap by (sym e) | inr e ↦ ap by (sym e) ]

low : (n : ℕ) → (n ≡ 24) ⊎ (n ≡ 32) → n ≤ 32
low n cases = elim cases [ inl e ↦ omega (arith, e) | inr e ↦ omega (arith, e) ]

-- two nodes are not longer than a block has room for
pair_fits : (x y : List ℕ) (n : ℕ) → n ≤ 32 → length (take n (digest_bytes x 8) ++ take n (digest_bytes y 8)) ≤ 64
pair_fits x y n high =
    let first = take n (digest_bytes x 8) in
    let last = take n (digest_bytes y 8) in
    let lx = length-take-le n (digest_bytes x 8) (omega (arith, length-digest_bytes x 8, high)) in
    let ly = length-take-le n (digest_bytes y 8) (omega (arith, length-digest_bytes y 8, high)) in
    omega (arith, length-append first last, lx, ly, high)

pub returns : goal.returns
unfolding HasAddress value_at
returns c = λ p pk j a e len lane state held.
    let x : List ℕ = column j c.args.left.now in
    let y : List ℕ = column j c.args.right.now in
    let cases : (p.n ≡ 24) ⊎ (p.n ≡ 32) = rw e c.requires in
    let high : p.n ≤ 32 = low p.n cases in
    let both : List ℕ = take p.n (digest_bytes x 8) ++ take p.n (digest_bytes y 8) in
    let back : c.args.n ≡ p.n = sym e in
    let block = ap₂ (λ (b : List ℕ) (k : ℕ). long_second_block b (take k (digest_bytes x 8) ++ take k (digest_bytes y 8))) held back in
    c.truncated.ensures j p.n lane high
    ∙ ap (λ (h : List ℕ). take p.n (long_digest_bytes h 8))
    (c.compress_long.ensures j lane _ (c.second_block.ensures j lane) ∙ ap₂ compress state block)
    ∙ sym (long_tweaked_is p pk a both len high (pair_fits x y p.n high))
    ∙ long p pk a both cases
