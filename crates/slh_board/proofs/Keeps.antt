-- Each kind of step keeps what the rule says of the words and the views.
use Rattle.std.proofs.Common.{◌≡◌, ◌≢◌, ◌⊎◌, ℕ, ◌+◌, ◌<◌, ◌≤◌, ◌^◌, ◌||◌, List, [], ◌∷◌, ◌++◌, length, set, Bool, true, false, min, refl, sym, ap, ◌∙◌, subst, inl, inr, ⊎_elim, arith, length-append}
use Rattle.std.specs.List.{sum_by}
use Rattle.std.proofs.lemmas.List.Sums.{sum_by_push}
use mathlib.Core.Option.{some}
use lib.ListN.{get_elem?}
use Rattle.atomic_table.proofs.Lists.{at_set, at_snoc, set_else}
use Rattle.slh_board.specs.declared.view.View.{View}
use Rattle.slh_board.specs.declared.view.Plan.{Plan}
use Rattle.slh_board.specs.Counts.{times, once_below}
use Rattle.slh_board.specs.Views.{spent, one_less, one_seat, both, with_number, with_done, with_stopped, with_raised}
use Rattle.slh_board.specs.Rule.{one_if, Sits, Keeps}
use Rattle.slh_board.proofs.Totals.{put_at, sum_set, part, sum_le, times_push, times-append, once_below_more}

-- a view that stands for a seat is not spent
pub sitting : (plan : Plan) (next halt : ℕ) (views : List View) (i : ℕ) (v : View) → Keeps plan next halt views → get_elem? views i ≡ some v → 1 ≤ v.seats → Sits plan halt v
sitting plan next halt views i v k e some_seat =
    ⊎_elim
    (λ (s : v ≡ spent). let none : v.seats ≡ 0 = ap (λ (u : View). u.seats) s in absurd (omega arith))
    (λ (s : Sits plan halt v). s)
    (k.sits i v e)

-- the rule of each view, after one changed and halt perhaps too
pub sits_set : (plan : Plan) (halt halt' : ℕ) (views : List View) (i : ℕ) (w : View) → (halt ≡ 1 → halt' ≡ 1) → ((j : ℕ) (u : View) → get_elem? views j ≡ some u → (u ≡ spent) ⊎ Sits plan halt u) → (w ≡ spent) ⊎ Sits plan halt' w
    → (j : ℕ) (u : View) → get_elem? (set views i w) j ≡ some u → (u ≡ spent) ⊎ Sits plan halt' u
sits_set plan halt halt' views i w up all mine j u e =
    ⊎_elim
    (λ (x : (j ≡ i) × (w ≡ u)). subst (λ (y : View). (y ≡ spent) ⊎ Sits plan halt' y) x.1 mine)
    (λ (x : (j ≢ i) × (get_elem? views j ≡ some u)).
    ⊎_elim
    (λ (s : u ≡ spent). inl s)
    (λ (s : Sits plan halt u). inr (record { jobs = s.jobs; board_seats = s.board_seats; stands = s.stands; marks = s.marks; halted = λ h. up (s.halted h) }))
    (all j u x.1))
    (at_set views i j w u e)

-- next can't wrap
pub next_small : (plan : Plan) (next halt : ℕ) (views : List View) → Keeps plan next halt views → next < 2 ^ 33
next_small plan next halt views k =
    let le : sum_by (λ (v : View). v.done) views ≤ sum_by (λ (v : View). v.seats) views
    = sum_le (λ (v : View). v.done) (λ (v : View). v.seats) views (λ i v e. ⊎_elim (λ (s : v ≡ spent). let d : v.done ≡ 0 = ap (λ (u : View). u.done) s in omega arith) (λ (s : Sits plan halt v). s.marks) (k.sits i v e)) in
    let m = k.marks in
    let s = k.seats in
    let b = k.small in
    omega arith

-- a draw that finds a job
pub draw_hits : (plan : Plan) (n halt : ℕ) (views : List View) (i : ℕ) (v : View) → Keeps plan n halt views → get_elem? views i ≡ some v → Sits plan halt v → n < plan.jobs
    → Keeps plan (n + 1) halt (set views i (with_number v n))
draw_hits plan n halt views i v k e s lt =
    let w : View = with_number v n in
    let m : min n plan.jobs ≡ n = omega arith in
    let m' : min (n + 1) plan.jobs ≡ n + 1 = omega arith in
    record {
      each_once = λ x.
          let a : sum_by (λ (u : View). times x u.drawn) views ≡ once_below x n = k.each_once x ∙ ap (once_below x) m in
          let g : sum_by (λ (u : View). times x u.drawn) (set views i w) ≡ once_below x (n + 1) = omega (arith, a, sum_set (λ (u : View). times x u.drawn) views i v w e, times_push x n v.drawn, once_below_more x n) in
          g ∙ sym (ap (once_below x) m');
      drawn = omega (arith, k.drawn, sum_set (λ (u : View). length u.drawn) views i v w e, length-append v.drawn (n ∷ []));
      marks = omega (arith, k.marks, sum_set (λ (u : View). u.done) views i v w e, sum_set (λ (u : View). length u.drawn) views i v w e, length-append v.drawn (n ∷ []));
      seats = omega (arith, k.seats, sum_set (λ (u : View). u.seats) views i v w e);
      raised = let t = sum_set (λ (u : View). one_if u.raised) views i v w e in let o = k.raised in omega arith;
      sits = sits_set plan halt halt views i w (λ h. h) k.sits (inr (record { jobs = s.jobs; board_seats = s.board_seats; stands = s.stands; marks = s.marks; halted = s.halted }));
      small = k.small;
    }

-- a draw that finds no job left
pub draw_misses : (plan : Plan) (n halt : ℕ) (views : List View) (i : ℕ) (v : View) → Keeps plan n halt views → get_elem? views i ≡ some v → Sits plan halt v → v.done ≡ 0 → plan.jobs ≤ n
    → Keeps plan (n + 1) halt (set views i (with_done v))
draw_misses plan n halt views i v k e s fresh ge =
    let w : View = with_done v in
    let m : min n plan.jobs ≡ plan.jobs = omega arith in
    let m' : min (n + 1) plan.jobs ≡ plan.jobs = omega arith in
    record {
      each_once = λ x.
          let a : sum_by (λ (u : View). times x u.drawn) views ≡ once_below x plan.jobs = k.each_once x ∙ ap (once_below x) m in
          let g : sum_by (λ (u : View). times x u.drawn) (set views i w) ≡ once_below x plan.jobs = omega (arith, a, sum_set (λ (u : View). times x u.drawn) views i v w e) in
          g ∙ sym (ap (once_below x) m');
      drawn = omega (arith, k.drawn, sum_set (λ (u : View). length u.drawn) views i v w e);
      marks = omega (arith, k.marks, sum_set (λ (u : View). u.done) views i v w e, sum_set (λ (u : View). length u.drawn) views i v w e);
      seats = omega (arith, k.seats, sum_set (λ (u : View). u.seats) views i v w e);
      raised = let t = sum_set (λ (u : View). one_if u.raised) views i v w e in let o = k.raised in omega arith;
      sits = sits_set plan halt halt views i w (λ h. h) k.sits (inr (record { jobs = s.jobs; board_seats = s.board_seats; stands = s.stands; marks = let one = s.stands in omega (arith, fresh); halted = s.halted }));
      small = k.small;
    }

-- a look that finds halt set
pub look_keeps : (plan : Plan) (n halt : ℕ) (views : List View) (i : ℕ) (v : View) → Keeps plan n halt views → get_elem? views i ≡ some v → Sits plan halt v → halt ≡ 1
    → Keeps plan n halt (set views i (with_stopped v))
look_keeps plan n halt views i v k e s one =
    let w : View = with_stopped v in
    record {
      each_once = λ x. let t = sum_set (λ (u : View). times x u.drawn) views i v w e in let o = k.each_once x in omega (arith, t, o);
      drawn = omega (arith, k.drawn, sum_set (λ (u : View). length u.drawn) views i v w e);
      marks = omega (arith, k.marks, sum_set (λ (u : View). u.done) views i v w e, sum_set (λ (u : View). length u.drawn) views i v w e);
      seats = omega (arith, k.seats, sum_set (λ (u : View). u.seats) views i v w e);
      raised = let t = sum_set (λ (u : View). one_if u.raised) views i v w e in let o = k.raised in omega arith;
      sits = sits_set plan halt halt views i w (λ h. h) k.sits (inr (record { jobs = s.jobs; board_seats = s.board_seats; stands = s.stands; marks = s.marks; halted = λ h. one }));
      small = k.small;
    }

-- a stop
pub raise_keeps : (plan : Plan) (n halt : ℕ) (views : List View) (i : ℕ) (v : View) → Keeps plan n halt views → get_elem? views i ≡ some v → Sits plan halt v
    → Keeps plan n 1 (set views i (with_raised v))
raise_keeps plan n halt views i v k e s =
    let w : View = with_raised v in
    record {
      each_once = λ x. let t = sum_set (λ (u : View). times x u.drawn) views i v w e in let o = k.each_once x in omega (arith, t, o);
      drawn = omega (arith, k.drawn, sum_set (λ (u : View). length u.drawn) views i v w e);
      marks = omega (arith, k.marks, sum_set (λ (u : View). u.done) views i v w e, sum_set (λ (u : View). length u.drawn) views i v w e);
      seats = omega (arith, k.seats, sum_set (λ (u : View). u.seats) views i v w e);
      raised =
          let t = part (λ (u : View). one_if u.raised) (set views i w) i w (put_at views i v w e) in
          omega arith;
      sits = sits_set plan halt 1 views i w (λ h. refl) k.sits (inr (record { jobs = s.jobs; board_seats = s.board_seats; stands = s.stands; marks = s.marks; halted = λ h. refl }));
      small = k.small;
    }

-- a split
pub split_keeps : (plan : Plan) (n halt : ℕ) (views : List View) (i : ℕ) (v : View) → Keeps plan n halt views → get_elem? views i ≡ some v → 2 ≤ v.seats → v.done ≡ 0
    → Keeps plan n halt (set views i (one_less v) ++ one_seat v ∷ [])
split_keeps plan n halt views i v k e two fresh =
    let s = sitting plan n halt views i v k e (omega arith) in
    let w : View = one_less v in
    let l : List View = set views i w in
    record {
      each_once = λ x. let t = sum_set (λ (u : View). times x u.drawn) views i v w e in let p = sum_by_push (λ (u : View). times x u.drawn) l (one_seat v) in let o = k.each_once x in omega (arith, t, p, o);
      drawn = omega (arith, k.drawn, sum_set (λ (u : View). length u.drawn) views i v w e, sum_by_push (λ (u : View). length u.drawn) l (one_seat v));
      marks = omega (arith, k.marks, sum_set (λ (u : View). u.done) views i v w e, sum_by_push (λ (u : View). u.done) l (one_seat v), sum_set (λ (u : View). length u.drawn) views i v w e, sum_by_push (λ (u : View). length u.drawn) l (one_seat v));
      seats = omega (arith, k.seats, sum_set (λ (u : View). u.seats) views i v w e, sum_by_push (λ (u : View). u.seats) l (one_seat v));
      raised = let t = sum_set (λ (u : View). one_if u.raised) views i v w e in let p = sum_by_push (λ (u : View). one_if u.raised) l (one_seat v) in let o = k.raised in omega arith;
      sits = λ j u at.
          ⊎_elim
          (λ (was : get_elem? l j ≡ some u).
          sits_set plan halt halt views i w (λ h. h) k.sits (inr (record { jobs = s.jobs; board_seats = s.board_seats; stands = omega arith; marks = omega (arith, fresh); halted = s.halted })) j u was)
          (λ (new : one_seat v ≡ u).
          subst (λ (y : View). (y ≡ spent) ⊎ Sits plan halt y) new
          (inr (record { jobs = s.jobs; board_seats = s.board_seats; stands = omega arith; marks = omega arith; halted = λ h. absurd (cc) })))
          (at_snoc l (one_seat v) u j at);
      small = k.small;
    }

-- a fact that follows from either test
or_true : (a b : Bool) (P : Type 0) → (a ≡ true → P) → (b ≡ true → P) → (a || b) ≡ true → P
or_true true b P p q h = p refl
or_true false b P p q h = q h

-- the tests of two joined views, as numbers
or_ones : (a b : Bool) → (one_if (a || b) ≤ 1) × (one_if a ≤ one_if (a || b)) × (one_if b ≤ one_if (a || b)) × (one_if (a || b) ≤ one_if a + one_if b)
or_ones true true = (omega arith, omega arith, omega arith, omega arith)
or_ones true false = (omega arith, omega arith, omega arith, omega arith)
or_ones false true = (omega arith, omega arith, omega arith, omega arith)
or_ones false false = (omega arith, omega arith, omega arith, omega arith)

-- a join
pub join_keeps : (plan : Plan) (n halt : ℕ) (views : List View) (i : ℕ) (v : View) (j : ℕ) (u : View) → Keeps plan n halt views → get_elem? views i ≡ some v → get_elem? (set views i (both v u)) j ≡ some u → j ≢ i → 1 ≤ v.seats → 1 ≤ u.seats
    → Keeps plan n halt (set (set views i (both v u)) j spent)
join_keeps plan n halt views i v j u k e e' apart some_v some_u =
    let w : View = both v u in
    let l : List View = set views i w in
    let s = sitting plan n halt views i v k e some_v in
    let theirs : get_elem? views j ≡ some u = ⊎_elim (λ (t : (j ≡ i) × (w ≡ u)). absurd (apart t.0)) (λ (t : (j ≢ i) × (get_elem? views j ≡ some u)). t.1) (at_set views i j w u e') in
    let s' = sitting plan n halt views j u k theirs some_u in
    record {
      each_once = λ x. let t = sum_set (λ (u : View). times x u.drawn) views i v w e in let p = sum_set (λ (u : View). times x u.drawn) l j u spent e' in let o = k.each_once x in
          let c : times x (v.drawn ++ u.drawn) ≡ times x v.drawn + times x u.drawn = times-append x v.drawn u.drawn in omega (arith, t, p, o, c);
      drawn = omega (arith, k.drawn, sum_set (λ (u : View). length u.drawn) views i v w e, sum_set (λ (u : View). length u.drawn) l j u spent e', length-append v.drawn u.drawn);
      marks = omega (arith, k.marks, sum_set (λ (u : View). u.done) views i v w e, sum_set (λ (u : View). u.done) l j u spent e', sum_set (λ (u : View). length u.drawn) views i v w e, sum_set (λ (u : View). length u.drawn) l j u spent e', length-append v.drawn u.drawn);
      seats = omega (arith, k.seats, sum_set (λ (u : View). u.seats) views i v w e, sum_set (λ (u : View). u.seats) l j u spent e');
      raised =
          let t = sum_set (λ (u : View). one_if u.raised) views i v w e in
          let p = sum_set (λ (u : View). one_if u.raised) l j u spent e' in
          let here : get_elem? (set l j spent) i ≡ some w = set_else l j i spent (λ h. apart (sym h)) ∙ put_at views i v w e in
          let q = part (λ (u : View). one_if u.raised) (set l j spent) i w here in
          let o = or_ones v.raised u.raised in
          let h = k.raised in
          omega arith;
      sits = sits_set plan halt halt l j spent (λ h. h)
          (sits_set plan halt halt views i w (λ h. h) k.sits
          (inr (record { jobs = s.jobs; board_seats = s.board_seats; stands = omega arith; marks = let a = s.marks in let b = s'.marks in omega arith; halted = or_true v.stopped u.stopped (halt ≡ 1) s.halted s'.halted })))
          (inl refl);
      small = k.small;
    }
