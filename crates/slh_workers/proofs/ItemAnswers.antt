-- Answers of several runs, or about several batches, put end to end.
use Rattle.std.proofs.Common.{◌≡◌, ℕ, suc, ◌+◌, ◌-◌, ◌<◌, ◌≤◌, List, [], ◌∷◌, ◌++◌, Vec, length, take, drop, get_or, inl, inr, subst, sym, ap, ◌∙◌, refl, arith}
use Rattle.std.proofs.lemmas.Bool.{cases_lt}
use Rattle.std.proofs.Math.Seq.{take-add}
use Rattle.std.proofs.lemmas.List.{length-append, length-take-le, length-drop, take_all, get_or_append_left, get_or-append_right, get_or-take, get_or-drop, get_or_default}
use Rattle.std.specs.Borrow.{Bor}
use Rattle.std.specs.List.{flat_map}
use Rattle.slh_workers.specs.Items.{AreAnswers, joined}

-- answers about the first items
pub record Answered {T A : Type 0} (IsAnswer : T → A → Type 0) (items : List T) (answers : List A) : Type 0 where
  pub within : length answers ≤ length items
  pub right : AreAnswers IsAnswer (take (length answers) items) answers

-- of two lists put end to end
both : {T A : Type 0} (P : T → A → Type 0) (xs ys : List T) (us vs : List A) → AreAnswers P xs us → AreAnswers P ys vs → AreAnswers P (xs ++ ys) (us ++ vs)
both {T} {A} P xs ys us vs front back = record {
  len = length-append us vs ∙ omega (arith, front.len, back.len, length-append xs ys);
  each = λ i item answer h. elim (cases_lt i (length xs)) [
    | inl low ↦
        let a : get_or (us ++ vs) i answer ≡ get_or us i answer = get_or_append_left us vs answer i (omega (arith, front.len)) in
        let x : get_or (xs ++ ys) i item ≡ get_or xs i item = get_or_append_left xs ys item i low in
        rw (a, x) (front.each i item answer low)
    | inr high ↦
        let a : get_or (us ++ vs) i answer ≡ get_or vs (i - length xs) answer = get_or-append_right us vs (length xs) i answer front.len (omega arith) in
        let x : get_or (xs ++ ys) i item ≡ get_or ys (i - length xs) item = get_or-append_right xs ys (length xs) i item refl (omega arith) in
        rw (a, x) (back.each (i - length xs) item answer (omega (arith, length-append xs ys)))
  ];
}

-- none yet
pub answered_none : {T A : Type 0} (P : T → A → Type 0) (items : List T) → Answered {A = A} P items []
answered_none P items = record { within = omega arith; right = record { len = refl; each = λ i item answer h. absurd (omega arith) } }

-- one run more, of the next k items
pub answered_more : {T A : Type 0} (P : T → A → Type 0) (items : List T) (answers more : List A) (k : ℕ) → Answered P items answers
    → length answers + k ≤ length items → AreAnswers P (take k (drop (length answers) items)) more → Answered P items (answers ++ more)
answered_more {T} {A} P items answers more k before fits now =
    let n : ℕ = length answers in
    let run : length more ≡ k = now.len ∙ length-take-le k (drop n items) (omega (arith, length-drop n items)) in
    let total : length (answers ++ more) ≡ n + k = length-append answers more ∙ ap (λ j. n + j) run in
    let whole : take (n + k) items ≡ take n items ++ take k (drop n items) = take-add n k items in
    record {
      within = omega (arith, total);
      right = subst (λ (xs : List T). AreAnswers P xs (answers ++ more)) (sym (ap (λ j. take j items) total ∙ whole))
          (both P (take n items) (take k (drop n items)) answers more before.right now);
    }

-- one answer more, about the next item
pub answered_one : {T A : Type 0} (P : T → A → Type 0) (items : List T) (answers : List A) (i : ℕ) (item : T) (answer : A) → Answered P items answers
    → length answers ≡ i → i < length items → P (get_or items i item) answer → Answered P items (answers ++ answer ∷ [])
answered_one {T} P items answers i item answer before count below right =
    let n : ℕ = length answers in
    let next : List T = take 1 (drop n items) in
    let one : length next ≡ 1 = length-take-le 1 (drop n items) (omega (arith, count, length-drop n items)) in
    let place : n + 0 ≡ i = omega (arith, count) in
    let first : (x : T) → get_or next 0 x ≡ get_or items i item = λ x. get_or-take 1 (drop n items) 0 x (omega arith) ∙ get_or-drop n items 0 x
    ∙ ap (λ m. get_or items m x) place ∙ get_or_default items i x item below in
    answered_more P items answers (answer ∷ []) 1 before (omega (arith, count)) (record {
      len = sym one;
      each = λ k x a h. let zero_is : k ≡ 0 = omega (arith, h, one) in rw (zero_is, first x) right;
    })

-- all of them
pub answered_all : {T A : Type 0} (P : T → A → Type 0) (items : List T) (answers : List A) → Answered P items answers
    → length items ≤ length answers → AreAnswers P items answers
answered_all {T} {A} P items answers now all =
    subst (λ (xs : List T). AreAnswers P xs answers) (take_all (length answers) items all) now.right

-- lists of answers, each about the batch in its place
pub answered_batches : {T A Z : Type 0} (P : T → A → Type 0) (batches : List (Bor (List T))) (lists : List (Vec A Z))
    → AreAnswers (λ batch list. AreAnswers P batch.now list.items) batches lists → AreAnswers P (joined batches) (flat_map (λ list. list.items) lists)
answered_batches P [] [] all = record { len = refl; each = λ i item answer h. absurd (omega arith) }
answered_batches P (batch ∷ batches) (list ∷ lists) all =
    both P batch.now (joined batches) list.items (flat_map (λ list. list.items) lists) (all.each 0 batch list (omega arith))
    (answered_batches P batches lists (record {
      len = omega (arith, all.len);
      each = λ i b l h. all.each (suc i) b l (omega (arith, h));
    }))
answered_batches P [] (list ∷ lists) all = absurd (omega (arith, all.len))
answered_batches P (batch ∷ batches) [] all = absurd (omega (arith, all.len))
