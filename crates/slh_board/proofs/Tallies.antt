-- What the seats of a board come to, once they are all joined.
use Rattle.std.proofs.Common.{◌≡◌, ℕ, ◌+◌, ◌≤◌, ◌||◌, not, nat_eq, List, [], ◌∷◌, ◌++◌, length, get_or, Bool, true, false, min, length-append, refl, sym, ap, ◌∙◌, subst, arith}
use Rattle.std.specs.Prelude.{IsTrue, ◌↔◌}
use Rattle.std.specs.List.{All, Any, sum_by, list_any}
use Rattle.std.proofs.lemmas.List.Sums.{sum_by_push, get_or-le-sum_by}
use Rattle.std.proofs.lemmas.List.Elements.{All-push}
use Rattle.std.proofs.lemmas.List.Folds.{Any-from_list_any, list_any-from_Any}
use Rattle.slh_board.specs.declared.view.View.{View}
use Rattle.slh_board.specs.declared.view.Plan.{Plan}
use Rattle.slh_board.specs.declared.seat.Mark.TheVariants.{Done, Stopped}
use Rattle.slh_board.specs.Seats.{BoardState, SeatState}
use Rattle.slh_board.specs.Views.{both}
use Rattle.slh_board.specs.Kept.{IsRising, done_marks, is_stopped}
use Rattle.slh_board.specs.Counts.{times, once_below}
use Rattle.slh_board.specs.Rule.{one_if}
use Rattle.slh_board.specs.History.{OneHistory}
use Rattle.slh_board.proofs.Totals.{All-front, any_push, times-append}
use Rattle.slh_board.proofs.Settles.{Settled}
use Rattle.slh_board.proofs.Histories.{one_history}

-- The view v knows what all seats knew but those that are left
pub record Gathers (board : BoardState) (v : View) (left all : List SeatState) : Type 0 where
  pub stands : v.seats + length left ≡ board.seats
  pub some_seat : 1 ≤ v.seats
  pub mine : All (λ (s : SeatState). s.board ≡ board) left
  pub drawn : (x : ℕ) → times x v.drawn + sum_by (λ (s : SeatState). times x s.drawn) left ≡ sum_by (λ (s : SeatState). times x s.drawn) all
  pub done : v.done + sum_by (λ (s : SeatState). done_marks s.mark) left ≡ sum_by (λ (s : SeatState). done_marks s.mark) all
  pub raised : (v.raised || list_any (λ (s : SeatState). s.raised) left) ≡ list_any (λ (s : SeatState). s.raised) all
  pub stopped : (v.stopped || list_any (λ (s : SeatState). is_stopped s.mark) left) ≡ list_any (λ (s : SeatState). is_stopped s.mark) all
  pub rising : All (λ (s : SeatState). IsRising s.drawn) left → All (λ (s : SeatState). IsRising s.drawn) all

-- the view u of a seat with the state s
pub record Shows (u : View) (s : SeatState) : Type 0 where
  pub drawn : u.drawn ≡ s.drawn
  pub one : u.seats ≡ 1
  pub done : u.done ≡ done_marks s.mark
  pub raised : u.raised ≡ s.raised
  pub stopped : u.stopped ≡ is_stopped s.mark
  pub rising : IsRising s.drawn

-- three tests
or_assoc : (a b c : Bool) → ((a || b) || c) ≡ (a || (b || c))
or_assoc true b c = refl
or_assoc false b c = refl

-- a seat is the first
pub gathers_first : (board : BoardState) (u : View) (rest all : List SeatState) (s : SeatState) → all ≡ rest ++ s ∷ [] → Shows u s → length all ≡ board.seats → All (λ (t : SeatState). t.board ≡ board) all → Gathers board u rest all
gathers_first board u rest all s is shows every mine =
    subst (λ l. Gathers board u rest l) (sym is)
    (record {
      stands = let o = shows.one in let n : length all ≡ length rest + 1 = ap length is ∙ length-append rest (s ∷ []) in omega arith;
      some_seat = let o = shows.one in omega arith;
      mine = All-front (λ (t : SeatState). t.board ≡ board) rest (s ∷ []) (subst (All (λ (t : SeatState). t.board ≡ board)) is mine);
      drawn = λ x. let t : times x u.drawn ≡ times x s.drawn = ap (times x) shows.drawn in omega (arith, t, sum_by_push (λ (s : SeatState). times x s.drawn) rest s);
      done = let d = shows.done in omega (arith, d, sum_by_push (λ (s : SeatState). done_marks s.mark) rest s);
      raised = ap (λ b. b || list_any (λ (s : SeatState). s.raised) rest) shows.raised ∙ sym (any_push (λ (s : SeatState). s.raised) rest s);
      rising = λ h. All-push (λ (s : SeatState). IsRising s.drawn) rest s h shows.rising;
      stopped = ap (λ b. b || list_any (λ (s : SeatState). is_stopped s.mark) rest) shows.stopped ∙ sym (any_push (λ (s : SeatState). is_stopped s.mark) rest s);
    })

-- a seat is joined
pub gathers_more : (board : BoardState) (v u : View) (rest left all : List SeatState) (s : SeatState) → left ≡ rest ++ s ∷ [] → Shows u s → Gathers board v left all → Gathers board (both v u) rest all
gathers_more board v u rest left all s is shows g = record {
  stands = let o = shows.one in let n : length left ≡ length rest + 1 = ap length is ∙ length-append rest (s ∷ []) in omega (arith, g.stands);
  some_seat = omega (arith, g.some_seat);
  mine = All-front (λ (t : SeatState). t.board ≡ board) rest (s ∷ []) (subst (All (λ (t : SeatState). t.board ≡ board)) is g.mine);
  drawn = λ x.
      let t : times x u.drawn ≡ times x s.drawn = ap (times x) shows.drawn in
      let c : times x (v.drawn ++ u.drawn) ≡ times x v.drawn + times x u.drawn = times-append x v.drawn u.drawn in
      let l : sum_by (λ (s : SeatState). times x s.drawn) left ≡ sum_by (λ (s : SeatState). times x s.drawn) rest + times x s.drawn = ap (sum_by (λ (s : SeatState). times x s.drawn)) is ∙ sum_by_push (λ (s : SeatState). times x s.drawn) rest s in
      let d = g.drawn x in
      omega (arith, t, c, l, d);
  done =
      let l : sum_by (λ (s : SeatState). done_marks s.mark) left ≡ sum_by (λ (s : SeatState). done_marks s.mark) rest + done_marks s.mark = ap (sum_by (λ (s : SeatState). done_marks s.mark)) is ∙ sum_by_push (λ (s : SeatState). done_marks s.mark) rest s in
      omega (arith, l, g.done, shows.done);
  raised = more_any (λ (s : SeatState). s.raised) v.raised u.raised shows.raised ∙ g.raised;
  rising = λ h. g.rising (subst (All (λ (s : SeatState). IsRising s.drawn)) (sym is) (All-push (λ (s : SeatState). IsRising s.drawn) rest s h shows.rising));
  stopped = more_any (λ (s : SeatState). is_stopped s.mark) v.stopped u.stopped shows.stopped ∙ g.stopped;
}
  where
    more_any : (p : SeatState → Bool) (a b : Bool) → b ≡ p s → ((a || b) || list_any p rest) ≡ (a || list_any p left)
    more_any p a b e = or_assoc a b (list_any p rest) ∙ ap (λ x. a || x) (ap (λ y. y || list_any p rest) e ∙ (sym (any_push p rest s) ∙ ap (list_any p) (sym is)))

-- What the tally says of the seats
pub record Tallied (jobs drawn : ℕ) (halted : Bool) (all : List SeatState) : Type 0 where
  pub each_once : (x : ℕ) → sum_by (λ (s : SeatState). times x s.drawn) all ≡ once_below x drawn
  pub done : Any (λ (s : SeatState). s.mark ≡ Done) all → drawn ≡ jobs
  pub stopped : IsTrue halted ↔ Any (λ (s : SeatState). IsTrue s.raised) all
  pub seen : Any (λ (s : SeatState). s.mark ≡ Stopped) all → IsTrue halted
  pub history : OneHistory jobs all

-- halt as a test
set_word : (halt : ℕ) (b : Bool) → halt ≡ one_if b → not (nat_eq halt 0) ≡ b
set_word halt true e = ap (λ (n : ℕ). not (nat_eq n 0)) e
set_word halt false e = ap (λ (n : ℕ). not (nat_eq n 0)) e

-- a test or nothing
or_false : (b : Bool) → (b || false) ≡ b
or_false true = refl
or_false false = refl

-- a done seat counts among the done marks
some_done : (all : List SeatState) → Any (λ (s : SeatState). s.mark ≡ Done) all → 1 ≤ sum_by (λ (s : SeatState). done_marks s.mark) all
some_done all h =
    let s : SeatState = h.1 in
    let here : done_marks (get_or all h.0 s).mark ≡ 1 = ap (λ (t : SeatState). done_marks t.mark) h.3 ∙ ap done_marks h.4 in
    omega (arith, here, get_or-le-sum_by (λ (t : SeatState). done_marks t.mark) all h.0 s h.2)

-- every seat was joined
pub tallies : (plan : Plan) (next halt : ℕ) (board : BoardState) (v : View) (left all : List SeatState) → Settled plan next halt v → Gathers board v left all → length left ≡ 0
    → Tallied plan.jobs (min next plan.jobs) (not (nat_eq halt 0)) all
tallies plan next halt board v [] all s g none_left =
    let once : (x : ℕ) → sum_by (λ (s : SeatState). times x s.drawn) all ≡ once_below x (min next plan.jobs)
    = λ x. let d : times x v.drawn + 0 ≡ sum_by (λ (s : SeatState). times x s.drawn) all = g.drawn x in omega (arith, d, s.each_once x) in
    let stopped : not (nat_eq halt 0) ≡ list_any (λ (s : SeatState). s.raised) all = set_word halt v.raised s.raised ∙ (sym (or_false v.raised) ∙ g.raised) in
    record {
      each_once = once;
      done = λ h. let d : v.done + 0 ≡ sum_by (λ (s : SeatState). done_marks s.mark) all = g.done in let m = s.marks in let one = some_done all h in omega arith;
      stopped = (λ h. Any-from_list_any (λ (s : SeatState). s.raised) all (sym stopped ∙ h), λ h. stopped ∙ list_any-from_Any (λ (s : SeatState). s.raised) all h);
      seen = λ h.
          let some : list_any (λ (s : SeatState). is_stopped s.mark) all ≡ true = list_any-from_Any (λ (s : SeatState). is_stopped s.mark) all (h.0, h.1, h.2, h.3, ap is_stopped h.4) in
          ap (λ (n : ℕ). not (nat_eq n 0)) (s.halted (sym (or_false v.stopped) ∙ (g.stopped ∙ some)));
      history = one_history plan.jobs (min next plan.jobs) all (omega arith) (g.rising (λ k d lt. absurd (omega arith))) once;
    }
tallies plan next halt board v (t ∷ left) all s g none_left = absurd (omega arith)
