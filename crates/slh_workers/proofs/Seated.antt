-- What the workers at some seats have.
use Rattle.std.proofs.Common.{◌≡◌, ◌≢◌, ℕ, ◌+◌, ◌<◌, ◌≤◌, List, [], ◌∷◌, ◌++◌, length, length-append, set, true, false, sym, refl, ap, ◌∙◌, arith, subst, IfOk, IfErr, Ok, Err, Result, Vec}
use Rattle.std.specs.List.{All, sum_by}
use Rattle.std.proofs.lemmas.List.{map-append, append-nil}
use Rattle.std.proofs.lemmas.List.Elements.{All-append, All-cons, All-nil, All-tail}
use Rattle.std.proofs.lemmas.List.Sums.{sum_by-append, sum_by-cons}
use Rattle.slh_board.specs.Seats.{BoardState, SeatState, new_seat}
use Rattle.slh_board.specs.Counts.{times}
use Rattle.slh_board.specs.declared.seat.Mark.TheVariants.{Fresh as FreshMark, Done as DoneMark, Stopped as StoppedMark}
use Rattle.slh_board.proofs.Totals.{times-append, All-front}
use Rattle.slh_workers.specs.Answers.{numbers}
use Rattle.slh_workers.specs.Ends.{EndFits, IsAnswered, HasWorked, may_lack}
use Rattle.slh_workers.specs.Runs.{IsReady, AreTogether, HasEnded, HaveWorked, IsReported, RanSeats}
use Rattle.slh_workers.specs.declared.worker.End.{End}
use Rattle.slh_workers.specs.declared.worker.End.TheVariants.{Done, Stopped, GateStop, NoMemory}

-- the elements after the first ones
All-back : {X : Type 0} (P : X → Type 0) (xs ys : List X) → All P (xs ++ ys) → All P ys
All-back P [] ys h = h
All-back P (x ∷ xs) ys h = All-back P xs ys (All-tail P x (xs ++ ys) h)

-- a worker that has memory leaves its seat marked, or raised by its gate
pub has_ended : (may_stop : Type 0) (end : End) (seat : SeatState) → end ≢ NoMemory → EndFits may_stop end seat → HasEnded may_stop seat
has_ended may_stop Done seat memory (mark, calm) = (λ up. absurd (let differ : true ≡ false = sym up ∙ calm in cc), λ down same. let differ : DoneMark ≡ FreshMark = sym mark ∙ same in cc)
has_ended may_stop Stopped seat memory (mark, calm) = (λ up. absurd (let differ : true ≡ false = sym up ∙ calm in cc), λ down same. let differ : StoppedMark ≡ FreshMark = sym mark ∙ same in cc)
has_ended may_stop GateStop seat memory (mark, up, may) = (λ _. may, λ down. absurd (let differ : true ≡ false = sym up ∙ down in cc))
has_ended may_stop NoMemory seat memory fits = absurd (memory refl)

-- nothing is lost where nothing may be
none_lost : (few : ℕ) (after answered : List ℕ) → few ≡ 0 → IsAnswered few [] after answered → answered ≡ after
none_lost few after answered none ([], short, e) = sym (e ∙ append-nil answered)
none_lost few after answered none (x ∷ xs, short, e) = absurd (omega (arith, none, short))

-- a seat that is not raised has all its answers
answers_all : (may_stop : Type 0) (end : End) (seat : SeatState) (answered : List ℕ) → EndFits may_stop end seat → IsAnswered (may_lack end) [] seat.drawn answered
    → seat.raised ≡ false → answered ≡ seat.drawn
answers_all may_stop Done seat answered fits is calm = none_lost 0 seat.drawn answered refl is
answers_all may_stop Stopped seat answered fits is calm = none_lost 0 seat.drawn answered refl is
answers_all may_stop GateStop seat answered (mark, up, may) is calm = absurd (let differ : true ≡ false = sym up ∙ calm in cc)
answers_all may_stop NoMemory seat answered (mark, up) is calm = absurd (let differ : true ≡ false = sym up ∙ calm in cc)

-- what some of the workers have reported, these have
reported_by_more : (reported : ℕ → ℕ → Type 0) (first low next high : ℕ) (jobs : List ℕ) → first ≤ next → next + high ≤ first + low
    → All (IsReported reported next high) jobs → All (IsReported reported first low) jobs
reported_by_more reported first low next high jobs from to all k d lt =
    let (worker, above, below, told) = all k d lt in (worker, omega arith, omega arith, told)

-- the only seat's worker has ended
pub ran_one : {T : Type 0} (board : BoardState) (may_stop : Type 0) (reported : ℕ → ℕ → Type 0) (right : ℕ → T → Type 0) (jobs first : ℕ) (before : SeatState) (seats : List SeatState) (end : End)
    (seat : SeatState) (answers : List (ℕ × T)) → length seats ≡ 1 → before.drawn ≡ [] → HasWorked board may_stop (reported first) right jobs before seat end answers → end ≢ NoMemory
    → RanSeats board may_stop reported right jobs first (length seats) (set seats 0 seat) answers
ran_one board may_stop reported right jobs first before [] end seat answers one begun worked memory = absurd (omega (arith, one))
ran_one board may_stop reported right jobs first before (s ∷ t ∷ ts) end seat answers one begun worked memory = absurd (omega (arith, one))
ran_one board may_stop reported right jobs first before (s ∷ []) end seat answers one begun worked memory =
    let all : IsAnswered (may_lack end) [] seat.drawn (numbers answers) = subst (λ v. IsAnswered (may_lack end) v seat.drawn (numbers answers)) begun worked.answered in
    record {
      count_is = refl;
      mine = All-cons (λ (v : SeatState). v.board ≡ board) seat [] worked.mine (All-nil (λ (v : SeatState). v.board ≡ board));
      ended = All-cons (HasEnded may_stop) seat [] (has_ended may_stop end seat memory worked.ended) (All-nil (HasEnded may_stop));
      all_right = worked.all_right;
      all_reported = λ k d lt. (first, omega arith, omega arith, worked.all_reported k d lt);
      draws = λ calm x.
          let same : numbers answers ≡ seat.drawn = answers_all may_stop end seat (numbers answers) worked.ended all (calm 0 seat (omega arith)) in
          omega (arith, ap (times x) same, sum_by-cons (λ (v : SeatState). times x v.drawn) seat []);
    }

-- the front part of the seats is ready for the same workers
pub ready_front : (board : BoardState) (count first : ℕ) (seats front back : List SeatState) → IsReady board count first seats → seats ≡ front ++ back
    → 1 ≤ length front → IsReady board count first front
ready_front board count first seats front back ready e some =
    record {
      some = some;
      few = omega (arith, ready.few, ap length e, length-append front back);
      new = All-front (λ s. s ≡ new_seat board) front back (subst (λ v. All (λ s. s ≡ new_seat board) v) e ready.new);
      jobs = ready.jobs;
    }

-- and the rest for those after them
pub ready_back : (board : BoardState) (count first next : ℕ) (seats front back : List SeatState) → IsReady board count first seats → seats ≡ front ++ back
    → 1 ≤ length back → next ≡ first + length front → IsReady board count next back
ready_back board count first next seats front back ready e some at =
    record {
      some = some;
      few = omega (arith, ready.few, ap length e, length-append front back, at);
      new = All-back (λ s. s ≡ new_seat board) front back (subst (λ v. All (λ s. s ≡ new_seat board) v) e ready.new);
      jobs = ready.jobs;
    }

-- two lists of seats, one after the other
pub ran_both : {T : Type 0} (board : BoardState) (may_stop : Type 0) (reported : ℕ → ℕ → Type 0) (right : ℕ → T → Type 0) (jobs first next low high count : ℕ) (kept others seats : List SeatState)
    (xs ys answers : List (ℕ × T)) → RanSeats board may_stop reported right jobs first low kept xs → RanSeats board may_stop reported right jobs next high others ys
    → next ≡ first + low → count ≡ low + high → seats ≡ kept ++ others → answers ≡ xs ++ ys → RanSeats board may_stop reported right jobs first count seats answers
ran_both board may_stop reported right jobs first next low high count kept others seats xs ys answers a b at e f h =
    rw e (rw f (rw h (record {
      count_is = length-append kept others ∙ ap (λ v. v + length others) a.count_is ∙ ap (λ v. low + v) b.count_is;
      mine = All-append (λ (s : SeatState). s.board ≡ board) kept others a.mine b.mine;
      ended = All-append (HasEnded may_stop) kept others a.ended b.ended;
      all_right = All-append (λ p. (p.0 < jobs) × right p.0 p.1) xs ys a.all_right b.all_right;
      all_reported =
          let both : All (IsReported reported first (low + high)) (numbers xs ++ numbers ys)
          = All-append (IsReported reported first (low + high)) (numbers xs) (numbers ys)
          (reported_by_more reported first (low + high) first low (numbers xs) (omega arith) (omega arith) a.all_reported)
          (reported_by_more reported first (low + high) next high (numbers ys) (omega (arith, at)) (omega (arith, at)) b.all_reported) in
          subst (λ v. All (IsReported reported first (low + high)) v) (sym (map-append (λ p. p.0) xs ys)) both;
      draws = λ calm x.
          let front : All (λ (s : SeatState). s.raised ≡ false) kept = All-front (λ (s : SeatState). s.raised ≡ false) kept others calm in
          let back : All (λ (s : SeatState). s.raised ≡ false) others = All-back (λ (s : SeatState). s.raised ≡ false) kept others calm in
          ap (times x) (map-append (λ p. p.0) xs ys) ∙ times-append x (numbers xs) (numbers ys)
          ∙ ap (λ v. v + times x (numbers ys)) (a.draws front x) ∙ ap (λ v. sum_by (λ (s : SeatState). times x s.drawn) kept + v) (b.draws back x)
          ∙ sym (sum_by-append (λ (s : SeatState). times x s.drawn) kept others);
    })))

-- what the worker at the only seat gives by its end
pub gives_one : {T Z : Type 0} (board : BoardState) (may_stop : Type 0) (reported : ℕ → ℕ → Type 0) (right : ℕ → T → Type 0) (jobs first : ℕ) (before : SeatState) (seats after : List SeatState) (end : End)
    (seat : SeatState) (answers : List (ℕ × T)) (worked : Result (Vec SeatState Z × Vec (ℕ × T) Z) SeatState)
    → length seats ≡ 1 → before.drawn ≡ [] → HasWorked board may_stop (reported first) right jobs before seat end answers → after ≡ set seats 0 seat
    → IfOk worked (λ w. end ≢ NoMemory) → IfOk worked (λ w. w.0.items ≡ after) → IfOk worked (λ w. w.1.items ≡ answers) → IfErr worked (λ s. (end ≡ NoMemory) × (after ≡ s ∷ []))
    → HaveWorked board may_stop reported right jobs first (length seats) worked
gives_one board may_stop reported right jobs first before seats after end seat answers (Ok w) one begun has_worked e memory same_seats same_answers refused =
    (rw (same_seats ∙ e) (rw same_answers (ran_one board may_stop reported right jobs first before seats end seat answers one begun has_worked memory)), tt)
gives_one board may_stop reported right jobs first before (x ∷ []) after end seat answers (Err s) one begun has_worked e memory same_seats same_answers (none, only) =
    let same : s ∷ [] ≡ seat ∷ [] = sym only ∙ e in
    let it : s ≡ seat = cc in
    (tt, rw it (has_worked.mine, (subst (λ v. EndFits may_stop v seat) none has_worked.ended).1))
gives_one board may_stop reported right jobs first before [] after end seat answers (Err s) one begun has_worked e memory same_seats same_answers refused = absurd (omega (arith, one))
gives_one board may_stop reported right jobs first before (x ∷ y ∷ zs) after end seat answers (Err s) one begun has_worked e memory same_seats same_answers refused = absurd (omega (arith, one))

-- and what both halves of the seats give, put together
pub worked_both : {T Z : Type 0} (board : BoardState) (may_stop : Type 0) (reported : ℕ → ℕ → Type 0) (right : ℕ → T → Type 0) (jobs first next low high count : ℕ)
    (front back worked : Result (Vec SeatState Z × Vec (ℕ × T) Z) SeatState)
    → HaveWorked board may_stop reported right jobs first low front → HaveWorked board may_stop reported right jobs next high back
    → next ≡ first + low → count ≡ low + high → AreTogether board front back worked → HaveWorked board may_stop reported right jobs first count worked
unfolding AreTogether
worked_both board may_stop reported right jobs first next low high count (Ok f) (Ok b) (Ok w) (low_ran, _) (high_ran, _) at e (seats, answers) =
    (ran_both board may_stop reported right jobs first next low high count f.0.items b.0.items w.0.items f.1.items b.1.items w.1.items low_ran high_ran at e seats answers, tt)
worked_both board may_stop reported right jobs first next low high count front back (Err seat) low_ran high_ran at e stopped = (tt, stopped)
worked_both board may_stop reported right jobs first next low high count (Err f) back (Ok w) low_ran high_ran at e never = elim never [ ]
worked_both board may_stop reported right jobs first next low high count (Ok f) (Err b) (Ok w) low_ran high_ran at e never = elim never [ ]
