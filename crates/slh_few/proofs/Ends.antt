-- Chunks put end to end.
use Rattle.std.proofs.Common.{◌≡◌, ℕ, zero, suc, ◌+◌, ◌-◌, ◌*◌, ◌<◌, ◌≤◌, List, [], ◌++◌, length, take, drop, replicate, get_or, refl, ap, sym, subst, ◌∙◌, arith, add-one, inl, inr}
use Rattle.std.proofs.lemmas.Bool.{cases_lt}
use Rattle.std.proofs.lemmas.List.{take-append-drop, take-take, drop-take, take-append-le, drop-append-le, length-append, length-drop, drop_at, take_all, get_or-append-add, get_or-replicate, get_or_past, length-replicate, drop-replicate}
use Rattle.std.proofs.Math.Nat.{mul-le-mul_right}
use Rattle.slh_tree.specs.Tree.{MerkleTree, sibling}
use Rattle.slh_tree.specs.Climb.{path_below}
use Rattle.slh_few.specs.Chunks.{end_to_end, chunk}

-- no chunk
pub end_to_end-none : (f : ℕ → List ℕ) → end_to_end f 0 ≡ []
unfolding end_to_end
end_to_end-none f = refl

-- one chunk more
pub end_to_end-more : (f : ℕ → List ℕ) (c : ℕ) → end_to_end f (c + 1) ≡ end_to_end f c ++ f c
unfolding end_to_end
end_to_end-more f c = rw (add-one c) refl

-- the same chunks end to end
pub end_to_end-same : (f g : ℕ → List ℕ) (k : ℕ) → ((c : ℕ) → c < k → f c ≡ g c) → end_to_end f k ≡ end_to_end g k
unfolding end_to_end
end_to_end-same f g zero h = refl
end_to_end-same f g (suc k) h =
    ap (λ xs. xs ++ f k) (end_to_end-same f g k (λ c l. h c (omega arith))) ∙ ap (λ x. end_to_end g k ++ x) (h k (omega arith))

-- the length of chunks of one length
pub length-end_to_end : (f : ℕ → List ℕ) (n k : ℕ) → ((c : ℕ) → c < k → length (f c) ≡ n) → length (end_to_end f k) ≡ k * n
unfolding end_to_end
length-end_to_end f n zero h = omega arith
length-end_to_end f n (suc k) h =
    length-append (end_to_end f k) (f k) ∙ omega (arith, length-end_to_end f n k (λ c l. h c (omega arith)), h k (omega arith))

-- each chunk stands at its place
pub chunk-end_to_end : (f : ℕ → List ℕ) (n k c : ℕ) → c < k → ((j : ℕ) → j < k → length (f j) ≡ n) → chunk n (end_to_end f k) c ≡ f c
unfolding end_to_end
chunk-end_to_end f n zero c l h = absurd (omega arith)
chunk-end_to_end f n (suc k) c l h =
    let len = length-end_to_end f n k (λ j i. h j (omega arith)) in
    let last = h k (omega arith) in
    elim (cases_lt c k) [
      | inl lt ↦
          let room : (c + 1) * n ≤ k * n = mul-le-mul_right n (let le : c + 1 ≤ k = omega arith in le) in
          let start : c * n ≤ length (end_to_end f k) = omega arith in
          let size : n ≤ length (drop (c * n) (end_to_end f k)) = simp length-drop (omega arith) in
          ap (take n) (drop-append-le (c * n) (end_to_end f k) (f k) start)
          ∙ take-append-le n (drop (c * n) (end_to_end f k)) (f k) size
          ∙ chunk-end_to_end f n k c lt (λ j i. h j (omega arith))
      | inr ge ↦
          let same : k ≡ c = omega arith in
          let here : take n (drop (k * n) (end_to_end f k ++ f k)) ≡ f k =
          ap (take n) (drop_at (end_to_end f k) (f k) (k * n) len) ∙ take_all n (f k) (omega arith) in
          let At : ℕ → Type 0 = λ j. take n (drop (j * n) (end_to_end f k ++ f k)) ≡ f j in
          subst At same here
    ]

-- writing one chunk more
pub writes-more : (f : ℕ → List ℕ) (c n : ℕ) (out new x : List ℕ)
    → x ≡ f c → length x ≡ n → take (c * n) out ≡ end_to_end f c → take (c * n + length x) new ≡ take (c * n) out ++ x
    → take ((c + 1) * n) new ≡ end_to_end f (c + 1)
writes-more f c n out new x e l h t =
    let s : (c + 1) * n ≡ c * n + length x = omega (arith, l) in
    rw (s, t, h, e) (sym (end_to_end-more f c))

-- one more chunk fits below the whole
pub chunk_fits : (c k n m : ℕ) → c < k → m ≡ k * n → c * n + n ≤ m
chunk_fits c k n m h e =
    let room : (c + 1) * n ≤ k * n = mul-le-mul_right n (let le : c + 1 ≤ k = omega arith in le) in
    omega (arith, room)

-- when all chunks are written, nothing else is there
pub written_all : (f : ℕ → List ℕ) (k n c : ℕ) (out : List ℕ) → c ≡ k → length out ≡ k * n → take (c * n) out ≡ end_to_end f c → out ≡ end_to_end f k
written_all f k n c out e l h =
    let s : take (k * n) out ≡ end_to_end f k = rw (sym e) h in
    sym (take_all (k * n) out (omega (arith, l))) ∙ s

-- a list of numbers that was written over the front of zeros: zeros follow it
pub zeros_after : (xs : List ℕ) (k n j : ℕ) → length xs ≡ k → k ≤ j → get_or (xs ++ drop k (replicate n 0)) j 0 ≡ 0
zeros_after xs k n j e h =
    let i : ℕ = j - k in
    let at : j ≡ length xs + i = omega arith in
    let zeros : get_or (replicate (n - k) 0) i 0 ≡ 0 =
    elim (cases_lt i (n - k)) [
      | inl lt ↦ get_or-replicate (n - k) i 0 0 lt
      | inr ge ↦ get_or_past (replicate (n - k) 0) i 0 (omega (arith, length-replicate {A = ℕ} (n - k) 0))
    ] in
    ap (λ c. get_or (xs ++ drop k (replicate n 0)) c 0) at ∙ get_or-append-add xs (drop k (replicate n 0)) i 0
    ∙ ap (λ ys. get_or ys i 0) (drop-replicate k n 0) ∙ zeros

-- a path is its siblings end to end
pub path_below-siblings : (t : MerkleTree) (i k : ℕ) → path_below t i k ≡ end_to_end (sibling t i) k
unfolding path_below end_to_end
path_below-siblings t i zero = refl
path_below-siblings t i (suc k) = ap (λ xs. xs ++ sibling t i k) (path_below-siblings t i k)

-- the front of bytes with one chunk more
pub take-chunk_more : (n : ℕ) (xs : List ℕ) (c : ℕ) → take ((c + 1) * n) xs ≡ take (c * n) xs ++ chunk n xs c
take-chunk_more n xs c =
    let m : ℕ = c * n in
    let more : (c + 1) * n ≡ m + n = omega arith in
    let le : m ≤ m + n = omega arith in
    ap (λ k. take k xs) more ∙ sym (take-append-drop m (take (m + n) xs))
    ∙ ap (λ ys. ys ++ drop m (take (m + n) xs)) (take-take m (m + n) xs le) ∙ ap (λ ys. take m xs ++ ys) (drop-take m n xs)

-- a number that stands in each place
pub replicate_below : (k v i b : ℕ) → v ≤ b → get_or (replicate k v) i 0 ≤ b
replicate_below k v i b le = elim (cases_lt i k) [
  | inl lt ↦ rw (get_or-replicate k i v 0 lt) le
  | inr ge ↦ rw (get_or_past (replicate k v) i 0 (omega (arith, ge, length-replicate {A = ℕ} k v))) (omega arith)
]
