-- No two different things have one text of a tag.
use Rattle.std.proofs.Common.{◌≡◌, ℕ, ◌%◌, ◌^◌, ◌<◌, List, [], ◌∷◌, ◌++◌, length, take, drop, get_or, refl, ap, sym, subst, ◌∙◌}
use Rattle.std.proofs.Math.Nat.{mod-eq_of_lt}
use Rattle.std.proofs.lemmas.List.{append_assoc, drop_at, take_at}
use Rattle.slh_params.specs.Bits.{to_byte, to_int}
use Rattle.slh_params.specs.Params.{Params, numbers}
use Rattle.slh_params.proofs.Bytes.{to_int-to_byte}
use Rattle.slh_jobs.specs.Tags.{Tagged, OfStart, OfAnswer, OfKeyAnswer, IsSized, head, start_len, text}

-- two texts of which the fronts have one length
pub fronts : (n : ℕ) (a b c d : List ℕ) → length a ≡ n → length c ≡ n → a ++ b ≡ c ++ d → a ≡ c
fronts n a b c d la lc e = sym (take_at a b n la) ∙ ap (λ (x : List ℕ). take n x) e ∙ take_at c d n lc

pub backs : (n : ℕ) (a b c d : List ℕ) → length a ≡ n → length c ≡ n → a ++ b ≡ c ++ d → b ≡ d
backs n a b c d la lc e = sym (drop_at a b n la) ∙ ap (λ (x : List ℕ). drop n x) e ∙ drop_at c d n lc

-- a text is its first eight bytes, and the rest
abbrev kind : Tagged → ℕ
kind (OfStart pk_root begun) = 1
kind (OfAnswer start xmss fors job node) = 2
kind (OfKeyAnswer xmss job node) = 3

abbrev rest : Tagged → List ℕ
rest (OfStart pk_root begun) = pk_root ++ begun
rest (OfAnswer start xmss fors job node) = start ++ ((xmss ∷ fors ∷ []) ++ (to_byte job 4 ++ node))
rest (OfKeyAnswer xmss job node) = (xmss ∷ []) ++ (to_byte job 4 ++ node)

parts : (p : Params) (x : Tagged) → text p x ≡ head (kind x) p ++ rest x
parts p (OfStart pk_root begun) = append_assoc (head 1 p) pk_root begun
parts p (OfAnswer start xmss fors job node) =
    let front = (head 2 p) ++ start in
    let cut = xmss ∷ fors ∷ [] in
    append_assoc (front ++ cut) (to_byte job 4) node
    ∙ append_assoc front cut (to_byte job 4 ++ node)
    ∙ append_assoc (head 2 p) start (cut ++ (to_byte job 4 ++ node))
parts p (OfKeyAnswer xmss job node) =
    let cut = xmss ∷ [] in
    append_assoc ((head 3 p) ++ cut) (to_byte job 4) node
    ∙ append_assoc (head 3 p) cut (to_byte job 4 ++ node)

-- the eight bytes tell the kind and the record
kind_of : (p q : Params) (x y : Tagged) → head (kind x) p ≡ head (kind y) q → kind x ≡ kind y
kind_of p q x y e = ap (λ (bytes : List ℕ). get_or bytes 0 0) e

record_of : (p q : Params) (j k : ℕ) → head j p ≡ head k q → p ≡ q
record_of p q j k e = ap (λ (bytes : List ℕ). numbers (get_or bytes 2 0) (get_or bytes 3 0) (get_or bytes 4 0) (get_or bytes 5 0) (get_or bytes 6 0) (get_or bytes 7 0)) e

-- the number of a job
job_of : (i j : ℕ) → i < 2 ^ 32 → j < 2 ^ 32 → to_byte i 4 ≡ to_byte j 4 → i ≡ j
job_of i j hi hj e =
    let read : i % 2 ^ 32 ≡ j % 2 ^ 32 = sym (to_int-to_byte i 4) ∙ ap to_int e ∙ to_int-to_byte j 4 in
    sym (mod-eq_of_lt hi) ∙ read ∙ mod-eq_of_lt hj

-- number and node
last_of : (i j : ℕ) (a b : List ℕ) → i < 2 ^ 32 → j < 2 ^ 32 → to_byte i 4 ++ a ≡ to_byte j 4 ++ b → (i ≡ j) × (a ≡ b)
last_of i j a b hi hj e = (job_of i j hi hj (fronts 4 (to_byte i 4) a (to_byte j 4) b refl refl e), backs 4 (to_byte i 4) a (to_byte j 4) b refl refl e)

-- things of one kind, in one record, whose texts have one rest
start_same : (p : Params) (a b c d : List ℕ) → length a ≡ p.n → length c ≡ p.n → a ++ b ≡ c ++ d → OfStart a b ≡ OfStart c d
start_same p a b c d la lc e =
    ap (λ (x : List ℕ). OfStart x b) (fronts p.n a b c d la lc e) ∙ ap (OfStart c) (backs p.n a b c d la lc e)

key_same : (x y i j : ℕ) (a b : List ℕ) → i < 2 ^ 32 → j < 2 ^ 32 → (x ∷ []) ++ (to_byte i 4 ++ a) ≡ (y ∷ []) ++ (to_byte j 4 ++ b)
    → OfKeyAnswer x i a ≡ OfKeyAnswer y j b
key_same x y i j a b hi hj e =
    let cut : x ≡ y = ap (λ (bytes : List ℕ). get_or bytes 0 0) e in
    let last = last_of i j a b hi hj (backs 1 (x ∷ []) (to_byte i 4 ++ a) (y ∷ []) (to_byte j 4 ++ b) refl refl e) in
    ap (λ (k : ℕ). OfKeyAnswer k i a) cut ∙ ap (λ (k : ℕ). OfKeyAnswer y k a) last.0 ∙ ap (OfKeyAnswer y j) last.1

answer_same : (n x y f g i j : ℕ) (s t a b : List ℕ) → length s ≡ n → length t ≡ n → i < 2 ^ 32 → j < 2 ^ 32
    → s ++ ((x ∷ f ∷ []) ++ (to_byte i 4 ++ a)) ≡ t ++ ((y ∷ g ∷ []) ++ (to_byte j 4 ++ b))
    → OfAnswer s x f i a ≡ OfAnswer t y g j b
answer_same n x y f g i j s t a b ls lt hi hj e =
    let same : s ≡ t = fronts n s _ t _ ls lt e in
    let back : (x ∷ f ∷ []) ++ (to_byte i 4 ++ a) ≡ (y ∷ g ∷ []) ++ (to_byte j 4 ++ b) = backs n s _ t _ ls lt e in
    let xmss : x ≡ y = ap (λ (bytes : List ℕ). get_or bytes 0 0) back in
    let fors : f ≡ g = ap (λ (bytes : List ℕ). get_or bytes 1 0) back in
    let last = last_of i j a b hi hj (backs 2 (x ∷ f ∷ []) (to_byte i 4 ++ a) (y ∷ g ∷ []) (to_byte j 4 ++ b) refl refl back) in
    ap (λ (k : List ℕ). OfAnswer k x f i a) same ∙ ap (λ (k : ℕ). OfAnswer t k f i a) xmss ∙ ap (λ (k : ℕ). OfAnswer t y k i a) fors
    ∙ ap (λ (k : ℕ). OfAnswer t y g k a) last.0 ∙ ap (OfAnswer t y g j) last.1

one_of_rest : (p : Params) (x y : Tagged) → IsSized p x → IsSized p y → kind x ≡ kind y → rest x ≡ rest y → x ≡ y
one_of_rest p (OfStart a b) (OfStart c d) hx hy k e = start_same p a b c d hx hy e
one_of_rest p (OfStart a b) (OfAnswer t y g j d) hx hy k e = absurd cc
one_of_rest p (OfStart a b) (OfKeyAnswer y j d) hx hy k e = absurd cc
one_of_rest p (OfAnswer s x f i a) (OfStart c d) hx hy k e = absurd cc
one_of_rest p (OfAnswer s x f i a) (OfAnswer t y g j b) hx hy k e = answer_same (start_len p) x y f g i j s t a b hx.0 hy.0 hx.1 hy.1 e
one_of_rest p (OfAnswer s x f i a) (OfKeyAnswer y j d) hx hy k e = absurd cc
one_of_rest p (OfKeyAnswer x i a) (OfStart c d) hx hy k e = absurd cc
one_of_rest p (OfKeyAnswer x i a) (OfAnswer t y g j d) hx hy k e = absurd cc
one_of_rest p (OfKeyAnswer x i a) (OfKeyAnswer y j b) hx hy k e = key_same x y i j a b hx hy e

-- one text, one record and one thing
pub one_text : (p q : Params) (x y : Tagged) → IsSized p x → IsSized q y → text p x ≡ text q y → (p ≡ q) × (x ≡ y)
one_text p q x y hx hy e =
    let both : head (kind x) p ++ rest x ≡ head (kind y) q ++ rest y = sym (parts p x) ∙ e ∙ parts q y in
    let heads : head (kind x) p ≡ head (kind y) q = fronts 8 (head (kind x) p) (rest x) (head (kind y) q) (rest y) refl refl both in
    let same : p ≡ q = record_of p q (kind x) (kind y) heads in
    let sized : IsSized p y = subst (λ (r : Params). IsSized r y) (sym same) hy in
    (same, one_of_rest p x y hx sized (kind_of p q x y heads) (backs 8 (head (kind x) p) (rest x) (head (kind y) q) (rest y) refl refl both))
