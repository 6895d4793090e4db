-- Numbers that a seat drew, and their answers.
use Rattle.std.proofs.Common.{◌≡◌, ℕ, ◌+◌, ◌<◌, ◌≤◌, List, [], ◌∷◌, ◌++◌, append_assoc, sym, refl, ap, ◌∙◌, arith, subst}
use Rattle.std.specs.List.{All}
use Rattle.std.proofs.lemmas.List.{map-append, append-nil}
use Rattle.std.proofs.lemmas.List.Elements.{All-push, All-tail}
use Rattle.slh_workers.specs.Answers.{numbers, AllRight, AddsAnswer}
use Rattle.slh_workers.specs.Ends.{IsAnswered, IsTold}

-- one above the last number, or low where there is none
abbrev pub next_above : ℕ → List ℕ → ℕ
next_above low [] = low
next_above low (x ∷ xs) = next_above (x + 1) xs

pub next_above-push : (low : ℕ) (xs : List ℕ) (x : ℕ) → next_above low (xs ++ x ∷ []) ≡ x + 1
next_above-push low [] x = refl
next_above-push low (y ∷ ys) x = next_above-push (y + 1) ys x

pub next_above-le : (low x : ℕ) (xs : List ℕ) → low ≤ x → All (λ y. y < x) xs → next_above low xs ≤ x
next_above-le low x [] h all = h
next_above-le low x (y ∷ ys) h all =
    let first : y < x = all 0 y (omega arith) in
    next_above-le (y + 1) x ys (omega (arith, first)) (All-tail (λ z. z < x) y ys all)

-- one number more was drawn, and answered
pub answered_more : {T : Type 0} (right : ℕ → T → Type 0) (number : ℕ) (before after later : List ℕ) (xs ys : List (ℕ × T))
    → after ≡ before ++ numbers xs → later ≡ after ++ number ∷ [] → AddsAnswer right number xs ys → later ≡ before ++ numbers ys
answered_more right number before after later xs ys was e (out, good, f) =
    e ∙ ap (λ v. v ++ number ∷ []) was ∙ append_assoc before (numbers xs) (number ∷ [])
    ∙ ap (λ v. before ++ v) (sym (map-append (λ a. a.0) xs ((number, out) ∷ []))) ∙ ap (λ v. before ++ numbers v) (sym f)

pub right_more : {T : Type 0} (right : ℕ → T → Type 0) (n number : ℕ) (xs ys : List (ℕ × T))
    → AllRight right n xs → number < n → AddsAnswer right number xs ys → AllRight right n ys
right_more right n number xs ys was below (out, good, f) =
    subst (λ v. AllRight right n v) (sym f) (All-push (λ a. (a.0 < n) × right a.0 a.1) xs (number, out) was (below, good))

-- one job more was reported, and answered
pub reported_more : {T : Type 0} (right : ℕ → T → Type 0) (P : ℕ → Type 0) (number : ℕ) (xs ys : List (ℕ × T))
    → All P (numbers xs) → P number → AddsAnswer right number xs ys → All P (numbers ys)
reported_more right P number xs ys was told (out, good, f) =
    subst (λ v. All P (numbers v)) (sym f) (subst (λ v. All P v) (sym (map-append (λ a. a.0) xs ((number, out) ∷ []))) (All-push P (numbers xs) number was told))

-- all that was drawn is answered
pub all_answered : (before after answered : List ℕ) → after ≡ before ++ answered → IsAnswered 0 before after answered
all_answered before after answered e = ([], omega arith, e ∙ sym (append-nil (before ++ answered)))

-- and so is all but at most one number
pub all_but_few : (before after answered : List ℕ) → after ≡ before ++ answered → IsAnswered 1 before after answered
all_but_few before after answered e = ([], omega arith, e ∙ sym (append-nil (before ++ answered)))

-- all but the last number
pub last_lost : (number : ℕ) (before after later answered : List ℕ) → after ≡ before ++ answered → later ≡ after ++ number ∷ [] → IsAnswered 1 before later answered
last_lost number before after later answered was e =
    (number ∷ [], omega arith, e ∙ ap (λ v. v ++ number ∷ []) was)

-- all that was drawn was reported
pub all_told : (reported : ℕ → Type 0) (before after answered : List ℕ) → All reported answered → after ≡ before ++ answered → IsTold reported 0 before after
all_told reported before after answered told e = (answered, told, all_answered before after answered e)

-- and so was the last number, which has no answer
pub last_told : (reported : ℕ → Type 0) (number : ℕ) (before after later answered : List ℕ) → All reported answered → reported number
    → after ≡ before ++ answered → later ≡ after ++ number ∷ [] → IsTold reported 0 before later
last_told reported number before after later answered told last was e =
    all_told reported before later (answered ++ number ∷ []) (All-push reported answered number told last)
    (e ∙ ap (λ v. v ++ number ∷ []) was ∙ append_assoc before answered (number ∷ []))

-- all but the last number were reported
pub last_hidden : (reported : ℕ → Type 0) (number : ℕ) (before after later answered : List ℕ) → All reported answered
    → after ≡ before ++ answered → later ≡ after ++ number ∷ [] → IsTold reported 1 before later
last_hidden reported number before after later answered told was e = (answered, told, last_lost number before after later answered was e)
