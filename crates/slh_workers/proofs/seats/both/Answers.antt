use Rattle.std.proofs.Common.{◌≡◌, length, ◌≤◌, subst, sym}
use Rattle.std.specs.List.{All}
use Rattle.std.proofs.lemmas.List.Elements.{All-append}
use Rattle.std.proofs.lemmas.Result.{IfOk-at_ok, IfErr-at_err, err_from_is_err_and}
use Rattle.slh_board.specs.Seats.{SeatState}
use Rattle.slh_workers.specs.Runs.{AreTogether, HasStopped}
use Rattle.slh_workers.proofs.seats.both.Goals as goal

pub returns : goal.returns
unfolding AreTogether
returns g c =
    rw c.in_ok-seats.was (rw c.in_ok-more_seats.was (c.in-Ok.ensures.items, c.in-Ok-append.ensures.items))

pub returns-in_err-seats : goal.returns-in_err-seats
unfolding AreTogether
returns-in_err-seats g c =
    let (seat, is, same) = err_from_is_err_and c.from_residual.result c.from_residual.ensures.1 in
    let stop : HasStopped c.args.board.now c.in_err-seats.field-0.0 = IfErr-at_err (HasStopped c.args.board.now) c.in_err-seats.was c.requires.refused.0 in
    rw (is, same) stop

pub returns-in_err-more_seats : goal.returns-in_err-more_seats
unfolding AreTogether
returns-in_err-more_seats g c =
    let (seat, is, same) = err_from_is_err_and c.from_residual-in_err-more_seats.result c.from_residual-in_err-more_seats.ensures.1 in
    let stop : HasStopped c.args.board.now c.in_err-more_seats.field-0.0 = IfErr-at_err (HasStopped c.args.board.now) c.in_err-more_seats.was c.requires.refused.1 in
    rw (is, same) stop

pub returns-in_default : goal.returns-in_default
unfolding AreTogether
returns-in_default g c = c.stopped.ensures

pub returns-in_default-append : goal.returns-in_default-append
unfolding AreTogether
returns-in_default-append g c = c.stopped-in_default-append.ensures

pub stopped-requires-in_default-append-clause-mine : goal.stopped-requires-in_default-append-clause-mine
stopped-requires-in_default-append-clause-mine g c =
    subst (λ v. All (λ (s : SeatState). s.board ≡ c.args.board.now) v) (sym c.in-Ok.ensures.items)
    (All-append (λ (s : SeatState). s.board ≡ c.args.board.now) c.in_ok-seats.seats.items c.in_ok-more_seats.more_seats.items
    (IfOk-at_ok (λ f. (1 ≤ length f.0.items) × All (λ (s : SeatState). s.board ≡ c.args.board.now) f.0.items) c.in_ok-seats.was c.requires.front).1
    (IfOk-at_ok (λ b. All (λ (s : SeatState). s.board ≡ c.args.board.now) b.0.items) c.in_ok-more_seats.was c.requires.back))
