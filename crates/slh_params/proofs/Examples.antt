-- Worked examples of the definitions, by computing.
use Rattle.std.proofs.Common.{◌≡◌, ℕ, List, [], ◌∷◌, refl}
use Rattle.slh_params.specs.Bits.{base_2b, to_int, to_byte}
use Rattle.slh_params.specs.Params.{Params, numbers, h, md_len, tree_len, leaf_len, m, len, sig_len}
use Rattle.slh_params.specs.ParamSet.{params}
use Rattle.slh_params.specs.Address.{address, full, compressed}
use Rattle.slh_params.specs.ParamSet.{S128f, S192f, S256s}

four : base_2b (0x12 ∷ 0x34 ∷ 0xab ∷ []) 4 6 ≡ 1 ∷ 2 ∷ 3 ∷ 4 ∷ 10 ∷ 11 ∷ []
unfolding base_2b
four = refl

twelve : base_2b (0x12 ∷ 0x34 ∷ 0xab ∷ []) 12 2 ≡ 291 ∷ 1195 ∷ []
unfolding base_2b
twelve = refl

six : base_2b (0x12 ∷ 0x34 ∷ 0xab ∷ []) 6 4 ≡ 4 ∷ 35 ∷ 18 ∷ 43 ∷ []
unfolding base_2b
six = refl

nine : base_2b (0x12 ∷ 0x34 ∷ 0xab ∷ []) 9 2 ≡ 36 ∷ 210 ∷ []
unfolding base_2b
nine = refl

high : to_int (255 ∷ 255 ∷ 255 ∷ 255 ∷ 255 ∷ 255 ∷ 255 ∷ 255 ∷ []) ≡ 18446744073709551615
high = refl

low : to_byte 4294967301 2 ≡ 0 ∷ 5 ∷ []
low = refl

sizes_128f : sig_len (params S128f) ≡ 17088
unfolding sig_len len params
sizes_128f = refl

sizes_256s : sig_len (params S256s) ≡ 29792
unfolding sig_len len params
sizes_256s = refl

m_192f : m (params S192f) ≡ 42
unfolding params
m_192f = refl

-- the chains of each width of a hash value and of a digit
len_16_2 : len (numbers 16 2 1 1 1 1) ≡ 68
unfolding len
len_16_2 = refl

len_24_2 : len (numbers 24 2 1 1 1 1) ≡ 101
unfolding len
len_24_2 = refl

len_32_2 : len (numbers 32 2 1 1 1 1) ≡ 133
unfolding len
len_32_2 = refl

len_16_4 : len (numbers 16 4 1 1 1 1) ≡ 35
unfolding len
len_16_4 = refl

len_24_4 : len (numbers 24 4 1 1 1 1) ≡ 51
unfolding len
len_24_4 = refl

len_32_4 : len (numbers 32 4 1 1 1 1) ≡ 67
unfolding len
len_32_4 = refl

len_16_8 : len (numbers 16 8 1 1 1 1) ≡ 18
unfolding len
len_16_8 = refl

len_24_8 : len (numbers 24 8 1 1 1 1) ≡ 26
unfolding len
len_24_8 = refl

len_32_8 : len (numbers 32 8 1 1 1 1) ≡ 34
unfolding len
len_32_8 = refl

-- h, the lengths of the parts of a message digest and of the whole, and the length of a signature
abbrev sizes : Params → List ℕ
sizes p = h p ∷ md_len p ∷ tree_len p ∷ leaf_len p ∷ m p ∷ sig_len p ∷ []

-- records at the bounds
least : sizes (numbers 16 2 1 1 1 1) ≡ 1 ∷ 1 ∷ 0 ∷ 1 ∷ 2 ∷ 1152 ∷ []
unfolding sig_len len
least = refl

most_layers : sizes (numbers 24 2 1 65 1 8) ≡ 65 ∷ 1 ∷ 8 ∷ 1 ∷ 10 ∷ 159528 ∷ []
unfolding sig_len len
most_layers = refl

layers_13 : sizes (numbers 32 8 5 13 3 5) ≡ 65 ∷ 2 ∷ 8 ∷ 1 ∷ 11 ∷ 16896 ∷ []
unfolding sig_len len
layers_13 = refl

most_levels : sizes (numbers 32 8 12 6 14 64) ≡ 72 ∷ 112 ∷ 8 ∷ 2 ∷ 122 ∷ 39584 ∷ []
unfolding sig_len len
most_levels = refl

short : compressed (address 6 0x0123456789abcdef 5 511 34 0) ≡ 6 ∷ 0x01 ∷ 0x23 ∷ 0x45 ∷ 0x67 ∷ 0x89 ∷ 0xab ∷ 0xcd ∷ 0xef ∷ 5 ∷ 0 ∷ 0 ∷ 1 ∷ 255 ∷ 0 ∷ 0 ∷ 0 ∷ 34 ∷ 0 ∷ 0 ∷ 0 ∷ 0 ∷ []
short = refl

long : full (address 6 0x0123456789abcdef 5 511 34 0) ≡ 0 ∷ 0 ∷ 0 ∷ 6 ∷ 0 ∷ 0 ∷ 0 ∷ 0 ∷ 0x01 ∷ 0x23 ∷ 0x45 ∷ 0x67 ∷ 0x89 ∷ 0xab ∷ 0xcd ∷ 0xef ∷ 0 ∷ 0 ∷ 0 ∷ 5 ∷ 0 ∷ 0 ∷ 1 ∷ 255 ∷ 0 ∷ 0 ∷ 0 ∷ 34 ∷ 0 ∷ 0 ∷ 0 ∷ 0 ∷ []
long = refl

-- the address above after its type was set to WOTS_HASH
cleared : compressed (address 6 0x0123456789abcdef 0 0 0 0) ≡ 6 ∷ 0x01 ∷ 0x23 ∷ 0x45 ∷ 0x67 ∷ 0x89 ∷ 0xab ∷ 0xcd ∷ 0xef ∷ 0 ∷ 0 ∷ 0 ∷ 0 ∷ 0 ∷ 0 ∷ 0 ∷ 0 ∷ 0 ∷ 0 ∷ 0 ∷ 0 ∷ 0 ∷ []
cleared = refl
