-- Tags, by which it is known that a start or an answer was made under a key: ours, over the HMAC of FIPS 205, section 11.2.
use Rattle.std.specs.Prelude.{◌≡◌, ℕ, ◌+◌, ◌^◌, ◌<◌, List, [], ◌∷◌, ◌++◌, length, take}
use Rattle.slh_params.specs.Bits.{to_byte}
use Rattle.slh_params.specs.Params.{Params, m}
use Rattle.slh_hash.specs.HashFunctions.{category_function}
use Rattle.slh_hash.specs.Keyed.{hmac}

-- The tagged values: R and the digest of a message, which begin a signature under the key with this PK.root; the node
-- that a job of a signature answers; the node that a job of key generation answers.
pub data Tagged : Type 0 where
  OfStart : (pk_root begun : List ℕ) → Tagged
  OfAnswer : (start : List ℕ) (xmss fors job : ℕ) (node : List ℕ) → Tagged
  OfKeyAnswer : (xmss job : ℕ) (node : List ℕ) → Tagged

-- the number of the encoding: another if the bytes of a start or of an answer mean something else
abbrev pub encoding : ℕ
encoding = 2

-- the six numbers of the record, a byte each
abbrev pub six : Params → List ℕ
six p = p.n ∷ p.lg_w ∷ p.hp ∷ p.d ∷ p.a ∷ p.k ∷ []

-- the beginning of a text: a byte for the kind, the number of the encoding, and the six numbers
abbrev pub head : ℕ → Params → List ℕ
head kind p = kind ∷ encoding ∷ six p

-- The text: its beginning, and the parts.
abbrev pub text : Params → Tagged → List ℕ
text p (OfStart pk_root begun) = head 1 p ++ pk_root ++ begun
text p (OfAnswer start xmss fors job node) = head 2 p ++ start ++ (xmss ∷ fors ∷ []) ++ to_byte job 4 ++ node
text p (OfKeyAnswer xmss job node) = head 3 p ++ (xmss ∷ []) ++ to_byte job 4 ++ node

-- The key of the tags: SK.prf ‖ SK.seed ‖ PK.seed ‖ 1. HMAC fills a key up with zeros, so that a key that ends with a
-- zero byte has the tags of the key without this byte. This key ends with a byte that is not zero.
abbrev pub tag_key : List ℕ → List ℕ → List ℕ → List ℕ
tag_key sk_seed sk_prf pk_seed = sk_prf ++ sk_seed ++ pk_seed ++ (1 ∷ [])

-- The tag of a job's node, by the key and by the part of the text before the number of the job.
abbrev pub node_tag : Params → List ℕ → List ℕ → ℕ → List ℕ → List ℕ
node_tag p key front job node = take p.n (hmac (category_function p) key (front ++ to_byte job 4 ++ node))

-- The tag: Trunc_n(HMAC(SK.prf ‖ SK.seed ‖ PK.seed ‖ 1, text)).
abbrev pub tag : Params → List ℕ → List ℕ → List ℕ → Tagged → List ℕ
tag p sk_seed sk_prf pk_seed what = take p.n (hmac (category_function p) (tag_key sk_seed sk_prf pk_seed) (text p what))

-- R and the digest of a message, and with their tag a start
abbrev pub begun_len : Params → ℕ
begun_len p = p.n + m p

abbrev pub start_len : Params → ℕ
start_len p = begun_len p + p.n

-- the parts have the lengths of their kind and the record
abbrev pub IsSized : Params → Tagged → Type 0
IsSized p (OfStart pk_root begun) = length pk_root ≡ p.n
IsSized p (OfAnswer start xmss fors job node) = (length start ≡ start_len p) × (job < 2 ^ 32)
IsSized p (OfKeyAnswer xmss job node) = job < 2 ^ 32
