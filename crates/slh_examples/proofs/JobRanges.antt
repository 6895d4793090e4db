-- Parts put end to end, of two lengths, and the answers of ranges of jobs.
use Rattle.std.proofs.Common.{◌≡◌, ℕ, zero, suc, ◌+◌, ◌-◌, ◌*◌, ◌^◌, ◌<◌, ◌≤◌, if◌then◌else◌, nat_lt, true, false, List, ◌++◌, take, drop, length, inl, inr, refl, ap, sym, subst, ◌∙◌, arith, add-one, rules}
use Rattle.std.proofs.Math.Nat.{mul-le-mul_right}
use Rattle.std.proofs.Math.Seq.{drop-append-add}
use Rattle.std.proofs.lemmas.Bool.{cases_lt}
use Rattle.std.proofs.lemmas.List.{take-append-le, drop-append-le, length-drop, take_all, length-take-le}
use Rattle.std.proofs.lemmas.Nat.{pow_pos}
use Rattle.slh_params.specs.ParamSet.{params}
use Rattle.slh_params.proofs.Bounds.{d_low}
use Rattle.slh_core.specs.Keys.{Key}
use Rattle.slh_jobs.specs.Ranges.{answer_len}
use Rattle.slh_jobs.specs.Jobs.{xmss_shape, fors_shape, xmss_jobs, fors_jobs, jobs, start_of, len_of, answer_of, answers_len, AreAnswers}
use Rattle.slh_jobs.specs.declared.levels.Levels.{Levels}
use Rattle.slh_examples.specs.JobRanges.{AreAnswersOf, IsRoomFor}

-- a test of two numbers
lt_true : (a b : ℕ) → a < b → nat_lt a b ≡ true
lt_true a b h = search rules

lt_false : (a b : ℕ) → b ≤ a → nat_lt a b ≡ false
lt_false a b h = search rules

-- where part n stands, of x parts of a bytes and then parts of b bytes, and its length
abbrev place : ℕ → ℕ → ℕ → ℕ → ℕ
place x a b n = if nat_lt n x then n * a else x * a + (n - x) * b

abbrev size : ℕ → ℕ → ℕ → ℕ → ℕ
size x a b n = if nat_lt n x then a else b

-- the next part stands after it
place_next : (x a b n : ℕ) → place x a b (n + 1) ≡ place x a b n + size x a b n
place_next x a b n =
    elim (cases_lt n x) [
      | inl lt ↦
          elim (cases_lt (n + 1) x) [
            | inl more ↦ rw (lt_true n x lt, lt_true (n + 1) x more) (let e : (n + 1) * a ≡ n * a + a = omega arith in e)
            | inr ge ↦
                let none : n + 1 - x ≡ 0 = omega arith in
                let whole : x ≡ n + 1 = omega arith in
                let rows : x * a ≡ n * a + a = ap (λ k. k * a) whole ∙ (let e : (n + 1) * a ≡ n * a + a = omega arith in e) in
                rw (lt_true n x lt, lt_false (n + 1) x ge, none) (omega (arith, rows))
          ]
      | inr ge ↦
          let past : n + 1 - x ≡ (n - x) + 1 = omega arith in
          let next : x ≤ n + 1 = omega arith in
          let rows : ((n - x) + 1) * b ≡ (n - x) * b + b = omega arith in
          rw (lt_false n x ge, lt_false (n + 1) x next, past, rows) (omega arith)
    ]

place_zero : (x a b : ℕ) → place x a b 0 ≡ 0
place_zero x a b =
    elim (cases_lt 0 x) [
      | inl lt ↦ rw (lt_true 0 x lt) (omega arith)
      | inr ge ↦ let none : x ≡ 0 = omega arith in rw (lt_false 0 x ge, none) (omega arith)
    ]

place_end : (x y a b : ℕ) → place x a b (x + y) ≡ x * a + y * b
place_end x y a b =
    let past : x + y - x ≡ y = omega arith in
    let no : nat_lt (x + y) x ≡ false = lt_false (x + y) x (omega arith) in
    rw (no, past) refl

-- what grows at each step grows
grows : (S : ℕ → ℕ) → ((n : ℕ) → S n ≤ S (n + 1)) → (m n : ℕ) → m ≤ n → S m ≤ S n
grows S step m zero le = let same : m ≡ 0 = omega arith in let e : S m ≡ S 0 = ap S same in omega (arith, e)
grows S step m (suc n) le =
    elim (cases_lt m (suc n)) [
      | inl lt ↦
          let next : S (n + 1) ≡ S (suc n) = ap S (add-one n) in
          omega (arith, grows S step m n (omega arith), step n, next)
      | inr ge ↦ let same : m ≡ suc n = omega arith in let e : S m ≡ S (suc n) = ap S same in omega (arith, e)
    ]

-- the parts from first on, below end, which have the lengths L and stand at S
abbrev AreParts : (ℕ → ℕ) → (ℕ → ℕ) → (ℕ → List ℕ) → ℕ → ℕ → List ℕ → Type 0
AreParts S L A first end bytes = (n : ℕ) → first ≤ n → n < end → take (L n) (drop (S n - S first) bytes) ≡ A n

-- parts, and more parts after them
both_parts : (S L : ℕ → ℕ) (A : ℕ → List ℕ) → ((n : ℕ) → S (n + 1) ≡ S n + L n) → ((m n : ℕ) → m ≤ n → S m ≤ S n)
    → (first middle end : ℕ) (xs ys : List ℕ) → first ≤ middle → S first + length xs ≡ S middle
    → AreParts S L A first middle xs → AreParts S L A middle end ys → AreParts S L A first end (xs ++ ys)
both_parts S L A next up first middle end xs ys le len front back n from to =
    let low : S first ≤ S n = up first n from in
    let at : ℕ = S n - S first in
    elim (cases_lt n middle) [
      | inl lt ↦
          let past : S (n + 1) ≤ S middle = up (n + 1) middle (omega arith) in
          let own : S (n + 1) ≡ S n + L n = next n in
          let inside : at + L n ≤ length xs = omega (arith, low, past, own, len) in
          let begins : at ≤ length xs = omega (arith, inside) in
          let room : L n ≤ length (drop at xs) = simp length-drop (omega (arith, inside)) in
          ap (take (L n)) (drop-append-le at xs ys begins) ∙ take-append-le (L n) (drop at xs) ys room ∙ front n from lt
      | inr ge ↦
          let above : S middle ≤ S n = up middle n ge in
          let k : ℕ = S n - S middle in
          let place : at ≡ length xs + k = omega (arith, low, above, len) in
          ap (λ (i : ℕ). take (L n) (drop i (xs ++ ys))) place ∙ ap (take (L n)) (drop-append-add xs ys k) ∙ back n ge to
    ]

-- one part
one_part : (S L : ℕ → ℕ) (A : ℕ → List ℕ) (n : ℕ) → length (A n) ≡ L n → AreParts S L A n (n + 1) (A n)
one_part S L A n len m from to =
    let same : n ≡ m = omega arith in
    let none : S n - S n ≡ 0 = omega arith in
    let P : ℕ → Type 0 = λ j. take (L j) (drop (S j - S n) (A n)) ≡ A j in
    let here : P n = rw none (take_all (L n) (A n) (omega (arith, len))) in
    subst P same here

-- one part more, written after those that are there
next_part : (S L : ℕ → ℕ) (A : ℕ → List ℕ) → ((n : ℕ) → S (n + 1) ≡ S n + L n) → ((m n : ℕ) → m ≤ n → S m ≤ S n)
    → (first job at : ℕ) (out new : List ℕ) → first ≤ job → at ≡ S job - S first → at ≤ length out → length (A job) ≡ L job
    → take (at + L job) new ≡ take at out ++ A job
    → AreParts S L A first job (take (S job - S first) out) → AreParts S L A first (job + 1) (take (S (job + 1) - S first) new)
next_part S L A next up first job at out new le is room len writes front =
    let low : S first ≤ S job = up first job le in
    let past : S (job + 1) - S first ≡ at + L job = omega (arith, is, low, next job) in
    let front_len : length (take at out) ≡ at = length-take-le at out room in
    let done : AreParts S L A first job (take at out) = rw is front in
    let both : AreParts S L A first (job + 1) (take at out ++ A job) =
    both_parts S L A next up first job (job + 1) (take at out) (A job) le (omega (arith, is, low, front_len)) done (one_part S L A job len) in
    let P : List ℕ → Type 0 = λ xs. AreParts S L A first (job + 1) xs in
    subst P (sym (ap (λ (i : ℕ). take i new) past ∙ writes)) both

-- no part
no_parts : (S L : ℕ → ℕ) (A : ℕ → List ℕ) (first : ℕ) (xs : List ℕ) → AreParts S L A first first xs
no_parts S L A first xs n from to = absurd (omega arith)

-- the answer of the next job stands after that of this one
pub start_next : (c : Levels) (n : ℕ) → start_of c (n + 1) ≡ start_of c n + len_of c n
start_next c n = place_next (xmss_jobs c) (answer_len (xmss_shape c)) (answer_len (fors_shape c)) n

-- later answers stand later
pub start_grows : (c : Levels) (m n : ℕ) → m ≤ n → start_of c m ≤ start_of c n
start_grows c m n le =
    let S : ℕ → ℕ = λ j. start_of c j in
    grows S (λ j. let next : S (j + 1) ≡ S j + len_of c j = start_next c j in omega (arith, next)) m n le

-- the first stands first, and past the last is the end
pub start_zero : (c : Levels) → start_of c 0 ≡ 0
start_zero c = place_zero (xmss_jobs c) (answer_len (xmss_shape c)) (answer_len (fors_shape c))

pub start_end : (c : Levels) → start_of c (jobs c) ≡ answers_len c
start_end c = place_end (xmss_jobs c) (fors_jobs c) (answer_len (xmss_shape c)) (answer_len (fors_shape c))

-- room for the answer of a job of the range, and where it stands
pub room_inside : (c : Levels) (first end job : ℕ) (bytes : List ℕ) → IsRoomFor c first end bytes → first ≤ job → job < end
    → start_of c job - start_of c first + len_of c job ≤ length bytes
room_inside c first end job bytes room from to =
    let S : ℕ → ℕ = λ j. start_of c j in
    let next : S (job + 1) ≡ S job + len_of c job = start_next c job in
    let past : S (job + 1) ≤ S end = start_grows c (job + 1) end (omega arith) in
    let low : S first ≤ S job = start_grows c first job from in
    let len : S first + length bytes ≡ S end = room.len in
    let inside : S job - S first + len_of c job ≤ length bytes = omega (arith, next, past, low, len) in
    inside

-- no answer yet
pub none_yet : (c : Levels) (sk : Key) (start : List ℕ) (first : ℕ) (bytes : List ℕ) → AreAnswersOf c sk start first first bytes
none_yet c sk start first bytes = no_parts (λ j. start_of c j) (λ j. len_of c j) (λ j. answer_of c sk start j) first bytes

-- the answer of one job more, written after those that are there
pub next_answer : (c : Levels) (sk : Key) (start : List ℕ) (first job at : ℕ) (out new : List ℕ) → first ≤ job → at ≡ start_of c job - start_of c first
    → at ≤ length out → length (answer_of c sk start job) ≡ len_of c job → take (at + len_of c job) new ≡ take at out ++ answer_of c sk start job
    → AreAnswersOf c sk start first job (take (start_of c job - start_of c first) out)
    → AreAnswersOf c sk start first (job + 1) (take (start_of c (job + 1) - start_of c first) new)
next_answer c sk start first job at out new le is room len writes front =
    next_part (λ j. start_of c j) (λ j. len_of c j) (λ j. answer_of c sk start j) (start_next c) (start_grows c) first job at out new le is room len writes front

-- all of them
pub all_written : (c : Levels) (sk : Key) (start : List ℕ) (first end job : ℕ) (bytes : List ℕ) → IsRoomFor c first end bytes → job ≡ end
    → AreAnswersOf c sk start first job (take (start_of c job - start_of c first) bytes) → AreAnswersOf c sk start first end bytes
all_written c sk start first end job bytes room last are =
    let S : ℕ → ℕ = λ j. start_of c j in
    let low : S first ≤ S end = start_grows c first end room.ordered in
    let len : S first + length bytes ≡ S end = room.len in
    let all : length bytes ≤ S end - S first = omega (arith, low, len) in
    let whole : take (S end - S first) bytes ≡ bytes = take_all (S end - S first) bytes all in
    let P : List ℕ → Type 0 = λ xs. AreAnswersOf c sk start first end xs in
    let Q : ℕ → Type 0 = λ e. AreAnswersOf c sk start first e (take (start_of c e - start_of c first) bytes) in
    subst P whole (subst Q last are)

-- the answers of two ranges
pub both_ranges : (c : Levels) (sk : Key) (start : List ℕ) (first middle end : ℕ) (bytes xs ys : List ℕ) → first ≤ middle
    → IsRoomFor c first middle xs → bytes ≡ xs ++ ys
    → AreAnswersOf c sk start first middle xs → AreAnswersOf c sk start middle end ys → AreAnswersOf c sk start first end bytes
both_ranges c sk start first middle end bytes xs ys le room is front back =
    let P : List ℕ → Type 0 = λ zs. AreAnswersOf c sk start first end zs in
    let both : P (xs ++ ys) =
    both_parts (λ j. start_of c j) (λ j. len_of c j) (λ j. answer_of c sk start j) (start_next c) (start_grows c) first middle end xs ys le room.len front back in
    subst P (sym is) both

-- the answers of all jobs
pub all_jobs : (c : Levels) (sk : Key) (start bytes : List ℕ) → AreAnswersOf c sk start 0 (jobs c) bytes → AreAnswers c sk start bytes
all_jobs c sk start bytes are n lt =
    let S : ℕ → ℕ = λ j. start_of c j in
    let zero : S 0 ≡ 0 = start_zero c in
    let none : S n - S 0 ≡ S n = omega (arith, zero) in
    let P : ℕ → Type 0 = λ i. take (len_of c n) (drop i bytes) ≡ answer_of c sk start n in
    subst P none (are n (omega arith) lt)

pub room_for_all : (c : Levels) (bytes : List ℕ) → length bytes ≡ answers_len c → IsRoomFor c 0 (jobs c) bytes
room_for_all c bytes len =
    let S : ℕ → ℕ = λ j. start_of c j in
    let zero : S 0 ≡ 0 = start_zero c in
    let end : length bytes ≡ S (jobs c) = len ∙ sym (start_end c) in
    let whole : S 0 + length bytes ≡ S (jobs c) = omega (arith, zero, end) in
    record { ordered = omega arith; last = omega arith; len = whole }

-- the room of a range is cut where the answer of a job of the range stands
pub cut_inside : (c : Levels) (first middle end : ℕ) (bytes : List ℕ) → IsRoomFor c first end bytes → first ≤ middle → middle ≤ end
    → start_of c middle - start_of c first ≤ length bytes
cut_inside c first middle end bytes room from to =
    let S : ℕ → ℕ = λ j. start_of c j in
    let low : S first ≤ S middle = start_grows c first middle from in
    let high : S middle ≤ S end = start_grows c middle end to in
    let len : S first + length bytes ≡ S end = room.len in
    let inside : S middle - S first ≤ length bytes = omega (arith, low, high, len) in
    inside

pub room_front : (c : Levels) (first middle end cut : ℕ) (bytes xs : List ℕ) → IsRoomFor c first end bytes → first ≤ middle → middle ≤ end
    → cut ≡ start_of c middle - start_of c first → length xs ≡ cut → IsRoomFor c first middle xs
room_front c first middle end cut bytes xs room from to is front =
    let S : ℕ → ℕ = λ j. start_of c j in
    let at : cut ≡ S middle - S first = is in
    let low : S first ≤ S middle = start_grows c first middle from in
    let len : S first + length xs ≡ S middle = omega (arith, at, low, front) in
    let last : end ≤ jobs c = room.last in
    record { ordered = from; last = omega (arith, last); len = len }

pub room_back : (c : Levels) (first middle end cut : ℕ) (bytes ys : List ℕ) → IsRoomFor c first end bytes → first ≤ middle → middle ≤ end
    → cut ≡ start_of c middle - start_of c first → length ys + cut ≡ length bytes → IsRoomFor c middle end ys
room_back c first middle end cut bytes ys room from to is back =
    let S : ℕ → ℕ = λ j. start_of c j in
    let at : cut ≡ S middle - S first = is in
    let low : S first ≤ S middle = start_grows c first middle from in
    let high : S middle ≤ S end = start_grows c middle end to in
    let whole : S first + length bytes ≡ S end = room.len in
    let len : S middle + length ys ≡ S end = omega (arith, at, low, high, whole, back) in
    record { ordered = to; last = room.last; len = len }

-- there is a job
pub some_job : (c : Levels) → 0 < jobs c
some_job c =
    let rows : 1 * 2 ^ c.xmss ≤ (params c.set).d * 2 ^ c.xmss = mul-le-mul_right (2 ^ c.xmss) (d_low c.set) in
    omega (arith, rows, pow_pos c.xmss)

-- what was written over the whole of a list
pub over_all : (n : ℕ) (new old : List ℕ) → length new ≡ n → take n (new ++ drop (length new) old) ≡ new
over_all n new old len =
    take-append-le n new (drop (length new) old) (omega (arith, len)) ∙ take_all n new (omega (arith, len))
