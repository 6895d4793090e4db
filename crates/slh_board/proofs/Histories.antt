-- Rising lists that hold the numbers below n, each once, are the jobs of the seats' own draws in one legal history.
use Rattle.std.proofs.Common.{◌≡◌, ◌≢◌, ℕ, zero, suc, ◌+◌, ◌<◌, ◌≤◌, ◌==◌, List, [], ◌∷◌, ◌++◌, map, length, set, Bool, true, false, cond, nat_lt, Some, eq-eqb, ne_eqb, refl, sym, ap, ◌∙◌, subst, ⊎_elim, arith, length-set}
use Rattle.std.specs.Prelude.{slice_get}
use Rattle.std.specs.List.{All, sum_by}
use Rattle.std.proofs.lemmas.List.{append-nil, length-map}
use Rattle.std.proofs.lemmas.List.Elements.{All-push}
use Rattle.std.proofs.lemmas.Bool.Decides.{nat_tests}
use mathlib.Core.Option.{some, some-ne-none, some-injective}
use mathlib.Core.Logic.{dite}
use native.Mathlib.Decide.{ℕ_discrete}
use lib.ListN.{get_elem?}
use Rattle.atomic_table.proofs.Lists.{at_set, set_else}
use Rattle.slh_board.specs.Seats.{SeatState}
use Rattle.slh_board.specs.Counts.{times, once_below}
use Rattle.slh_board.specs.Kept.{IsRising}
use Rattle.slh_board.specs.History.{Machine, Exchange, Draw, Look, Stop, Event, opened, after, IsAnswer, IsLegal, own, jobs_of, OneHistory}
use Rattle.slh_board.proofs.Totals.{put_at, sum_set, part, some_part, sum_map, times_push, times-cons, All-drawn}
use Rattle.slh_board.proofs.Rising.{ends_with}

-- the machine after a history
abbrev run : Machine → List Event → Machine
run m [] = m
run m (e ∷ es) = run (after m e.exchange) es

-- one event more
legal_push : (m : Machine) (h : List Event) (e : Event) → IsLegal m h → IsAnswer (run m h) e.exchange → IsLegal m (h ++ e ∷ [])
legal_push m [] e l is = (is, tt)
legal_push m (d ∷ ds) e l is = (l.0, legal_push (after m d.exchange) ds e l.1 is)

-- the machine after one event more
run_push : (m : Machine) (h : List Event) (e : Event) → run m (h ++ e ∷ []) ≡ after (run m h) e.exchange
run_push m [] e = refl
run_push m (d ∷ ds) e = run_push (after m d.exchange) ds e

-- the own exchanges of a seat after one event more
own_push : (i : ℕ) (h : List Event) (e : Event) → own i (h ++ e ∷ []) ≡ own i h ++ cond (e.seat == i) (e.exchange ∷ []) []
own_push i [] e = ends (e.seat == i)
  where
    ends : (b : Bool) → cond b (e.exchange ∷ []) [] ≡ [] ++ cond b (e.exchange ∷ []) []
    ends b = refl
own_push i (d ∷ ds) e = more (d.seat == i) (own_push i ds e)
  where
    more : (b : Bool) → own i (ds ++ e ∷ []) ≡ own i ds ++ cond (e.seat == i) (e.exchange ∷ []) [] → cond b (d.exchange ∷ own i (ds ++ e ∷ [])) (own i (ds ++ e ∷ [])) ≡ cond b (d.exchange ∷ own i ds) (own i ds) ++ cond (e.seat == i) (e.exchange ∷ []) []
    more true rest = ap (λ l. d.exchange ∷ l) rest
    more false rest = rest

-- the jobs of two lists of exchanges, end to end
jobs_of-append : (jobs : ℕ) (xs ys : List Exchange) → jobs_of jobs (xs ++ ys) ≡ jobs_of jobs xs ++ jobs_of jobs ys
jobs_of-append jobs [] ys = refl
jobs_of-append jobs (Draw n ∷ xs) ys = more (nat_lt n jobs) (jobs_of-append jobs xs ys)
  where
    more : (b : Bool) → jobs_of jobs (xs ++ ys) ≡ jobs_of jobs xs ++ jobs_of jobs ys → cond b (n ∷ jobs_of jobs (xs ++ ys)) (jobs_of jobs (xs ++ ys)) ≡ cond b (n ∷ jobs_of jobs xs) (jobs_of jobs xs) ++ jobs_of jobs ys
    more true rest = ap (λ l. n ∷ l) rest
    more false rest = rest
jobs_of-append jobs (Look b ∷ xs) ys = jobs_of-append jobs xs ys
jobs_of-append jobs (Stop ∷ xs) ys = jobs_of-append jobs xs ys

-- one draw of a job more
jobs_push : (jobs i n j : ℕ) (h : List Event) → n < jobs → jobs_of jobs (own j (h ++ record { seat = i; exchange = Draw n } ∷ [])) ≡ jobs_of jobs (own j h) ++ cond (i == j) (n ∷ []) []
jobs_push jobs i n j h lt = ap (jobs_of jobs) (own_push j h (record { seat = i; exchange = Draw n })) ∙ (jobs_of-append jobs (own j h) (cond (i == j) (Draw n ∷ []) []) ∙ ap (λ l. jobs_of jobs (own j h) ++ l) (last (i == j)))
  where
    job : nat_lt n jobs ≡ true
    job = grind (arith, nat_tests)

    last : (b : Bool) → jobs_of jobs (cond b (Draw n ∷ []) []) ≡ cond b (n ∷ []) []
    last true = ap (λ t. cond t (n ∷ []) []) job
    last false = refl

-- a number is itself
itself : (x : ℕ) → 1 ≤ cond (x == x) 1 0
itself x = grind (arith, nat_tests)

-- a list with no numbers
no_numbers : (ys : List ℕ) → ((x : ℕ) → times x ys ≤ 0) → ys ≡ []
no_numbers [] h = refl
no_numbers (y ∷ ys) h = absurd (omega (arith, h y, times-cons y y ys, itself y))

-- each list with the number n at the end of the list i, after the draw of n by the seat i
jobs_after : (jobs i j n : ℕ) (h : List Event) (lists : List (List ℕ)) (ys zs us : List ℕ) → get_elem? lists i ≡ some ys → ys ≡ zs ++ n ∷ []
    → ((k : ℕ) (vs : List ℕ) → get_elem? (set lists i zs) k ≡ some vs → jobs_of jobs (own k h) ≡ vs) → get_elem? lists j ≡ some us → jobs_of jobs (own j h) ++ cond (i == j) (n ∷ []) [] ≡ us
jobs_after jobs i j n h lists ys zs us at end before is = dite (ℕ_discrete i j) same other
  where
    same : i ≡ j → jobs_of jobs (own j h) ++ cond (i == j) (n ∷ []) [] ≡ us
    same e =
        let here_is : cond (i == j) (n ∷ []) [] ≡ n ∷ [] = ap (λ (b : Bool). cond b (n ∷ []) []) (eq-eqb i j e) in
        let us_is : ys ≡ us = some-injective ys us (sym at ∙ (ap (λ (k : ℕ). get_elem? lists k) e ∙ is)) in
        let then : jobs_of jobs (own j h) ≡ zs = before j zs (ap (λ (k : ℕ). get_elem? (set lists i zs) k) (sym e) ∙ put_at lists i ys zs at) in
        ap (λ l. jobs_of jobs (own j h) ++ l) here_is ∙ (ap (λ l. l ++ n ∷ []) then ∙ (sym end ∙ us_is))

    other : i ≢ j → jobs_of jobs (own j h) ++ cond (i == j) (n ∷ []) [] ≡ us
    other ne =
        let not_it : cond (i == j) (n ∷ []) [] ≡ [] = ap (λ (b : Bool). cond b (n ∷ []) []) (ne_eqb i j ne) in
        ap (λ l. jobs_of jobs (own j h) ++ l) not_it ∙ (append-nil (jobs_of jobs (own j h)) ∙ before j us (set_else lists i j zs (λ x. ne (sym x)) ∙ is))

-- an element's place is below the length
place_below : {X : Type 0} (xs : List X) (i : ℕ) (v : X) → get_elem? xs i ≡ some v → i < length xs
place_below [] i v e = absurd (some-ne-none v (sym e))
place_below (x ∷ xs) zero v e = omega arith
place_below (x ∷ xs) (suc i) v e = let l = place_below xs i v e in omega arith

-- A legal history of n draws, all of jobs, by as many seats as there are lists, whose own jobs are the lists
record Told (jobs n : ℕ) (lists : List (List ℕ)) (h : List Event) : Type 0 where
  legal : IsLegal opened h
  ends : run opened h ≡ record { next = n; halt = false }
  seats : All (λ (e : Event). e.seat < length lists) h
  own_jobs : (i : ℕ) (ys : List ℕ) → get_elem? lists i ≡ some ys → jobs_of jobs (own i h) ≡ ys

-- rising lists that hold the numbers below n, each once
told : (jobs n : ℕ) (lists : List (List ℕ)) → n ≤ jobs → ((i : ℕ) (ys : List ℕ) → get_elem? lists i ≡ some ys → IsRising ys) → ((x : ℕ) → sum_by (times x) lists ≡ once_below x n)
    → (h : List Event) × Told jobs n lists h
told jobs zero lists le rising once = (
  [],
  record {
    legal = tt;
    ends = refl;
    seats = λ k d lt. absurd (omega arith);
    own_jobs = λ i ys e. sym (no_numbers ys (λ x. let p = part (times x) lists i ys e in let o = once x in let z : once_below x 0 ≡ 0 = never x in omega (arith, p, o, z)));
  },
)
  where
    never : (x : ℕ) → once_below x 0 ≡ 0
    never x = grind (arith, nat_tests)
told jobs (suc n) lists le rising once =
    let here : once_below n (suc n) ≡ suc 0 = now n in
    let f = some_part (times n) lists (omega (arith, here, once n)) in
    let i = f.0 in
    let ys = f.1 in
    let at = f.2 in
    let below = All-drawn (suc n) ys (λ x. let p = part (times x) lists i ys at in let o = once x in omega (arith, p, o)) in
    let t = ends_with n ys (rising i ys at) below f.3 in
    let zs = t.0 in
    let e : Event = record { seat = i; exchange = Draw n } in
    let r = told jobs n (set lists i zs) (omega arith)
    (λ j us is. ⊎_elim (λ (x : (j ≡ i) × (zs ≡ us)). subst IsRising x.1 t.2) (λ (x : (j ≢ i) × (get_elem? lists j ≡ some us)). rising j us x.1) (at_set lists i j zs us is))
    (λ x.
    let s = sum_set (times x) lists i ys zs at in
    let o = once x in
    let c : times x ys ≡ times x zs + cond (n == x) 1 0 = ap (times x) t.1 ∙ times_push x n zs in
    let m : once_below x (suc n) ≡ once_below x n + cond (n == x) 1 0 = more x n in
    omega (arith, s, o, c, m)) in
    let h = r.0 in
    let k = r.1 in (
      h ++ e ∷ [],
      record {
        legal = legal_push opened h e k.legal (sym (ap (λ (m : Machine). m.next) k.ends));
        ends = run_push opened h e ∙ grows n (run opened h) k.ends;
        seats = All-push (λ (d : Event). d.seat < length lists) h e (subst (λ (l : ℕ). All (λ (d : Event). d.seat < l) h) (length-set lists i zs) k.seats) (place_below lists i ys at);
        own_jobs = λ j us is. jobs_push jobs i n j h (omega arith) ∙ jobs_after jobs i j n h lists ys zs us at t.1 k.own_jobs is;
      },
    )
  where
    now : (n : ℕ) → once_below n (suc n) ≡ suc 0
    now n = grind (arith, nat_tests)

    more : (x n : ℕ) → once_below x (suc n) ≡ once_below x n + cond (n == x) 1 0
    more x n = grind (arith, nat_tests)

    grows : (n : ℕ) (m : Machine) → m ≡ record { next = n; halt = false } → after m (Draw n) ≡ record { next = suc n; halt = false }
    grows n m e = ap (λ (o : Machine). after o (Draw n)) e ∙ ap (λ (k : ℕ). record { next = k; halt = false }) (omega arith)

-- the list of a seat is in its place among the lists
got : (xs : List SeatState) (i : ℕ) (s : SeatState) → slice_get xs i ≡ Some s → get_elem? (map (λ (t : SeatState). t.drawn) xs) i ≡ some s.drawn
got [] i s e = absurd (cc)
got (x ∷ xs) zero s e = let same : x ≡ s = cc in ap (λ (t : SeatState). some t.drawn) same
got (x ∷ xs) (suc i) s e = got xs i s e

-- the history law
pub one_history : (jobs n : ℕ) (seats : List SeatState) → n ≤ jobs → All (λ (s : SeatState). IsRising s.drawn) seats → ((x : ℕ) → sum_by (λ (s : SeatState). times x s.drawn) seats ≡ once_below x n) → OneHistory jobs seats
one_history jobs n seats le rising once =
    let r = told jobs n (map (λ (t : SeatState). t.drawn) seats) le (rises seats rising) (λ x. sum_map (times x) (λ (t : SeatState). t.drawn) seats ∙ once x) in
    let t = r.1 in
    (r.0, t.legal, subst (λ (l : ℕ). All (λ (e : Event). e.seat < l) r.0) (length-map seats (λ (t : SeatState). t.drawn)) t.seats, λ i s e. t.own_jobs i s.drawn (got seats i s e))
  where
    rises : (seats : List SeatState) → All (λ (s : SeatState). IsRising s.drawn) seats → (i : ℕ) (ys : List ℕ) → get_elem? (map (λ (t : SeatState). t.drawn) seats) i ≡ some ys → IsRising ys
    rises [] h i ys e = absurd (some-ne-none ys (sym e))
    rises (s ∷ ss) h zero ys e = subst IsRising (some-injective s.drawn ys e) (h 0 s (omega arith))
    rises (s ∷ ss) h (suc i) ys e = rises ss (λ k d lt. h (suc k) d (omega arith)) i ys e
