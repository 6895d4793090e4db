-- Both halves of the seats are ready, and what both ran is what all ran.
use Rattle.std.proofs.Common.{rules, arith, length, length-append, ◌≡◌, ◌+◌, ap, ◌∙◌}
use Rattle.std.proofs.lemmas.Grind.{common_steps}
use Rattle.slh_workers.specs.Runs.{IsReady}
use Rattle.slh_workers.specs.Ends.{HasWorked}
use Rattle.slh_workers.proofs.Seated.{gives_one, worked_both, ready_front, ready_back}
use Rattle.slh_workers.proofs.seats.+run_seats.Goals as goal

pub run_seats-join-back-requires-after_bounds : goal.run_seats-join-back-requires-after_bounds
run_seats-join-back-requires-after_bounds g t c κs within =
    let more : length c.args.seats.items ≡ length c.second_half.new.seats.items + length c.in-Ok.others.items
    = ap length c.in-Ok.ensures.parts ∙ length-append c.second_half.new.seats.items c.in-Ok.others.items in
    let front : IsReady c.args.board.now (g.W.Work.jobs c.args.work.now) c.args.first c.second_half.new.seats.items
    = ready_front _ _ _ _ _ _ c.requires c.in-Ok.ensures.parts c.in-Ok.ensures.some.0 in
    let back : IsReady c.args.board.now (g.W.Work.jobs c.args.work.now) (c.args.first + c.len-2.result) c.in-Ok.others.items
    = ready_back c.args.board.now (g.W.Work.jobs c.args.work.now) c.args.first (c.args.first + c.len-2.result) c.args.seats.items c.second_half.new.seats.items
    c.in-Ok.others.items c.requires c.in-Ok.ensures.parts c.in-Ok.ensures.some.1 (omega (arith, c.len-2.ensures)) in
    search rules

pub run_seats-returns : goal.run_seats-returns
run_seats-returns g t c =
    worked_both c.args.board.now (g.G.Gate.may_stop c.args.gate.now) (g.G.Gate.reported c.args.gate.now) (g.W.Work.is_right c.args.work.now) (g.W.Work.jobs c.args.work.now) c.args.first
    _ _ _ (length c.args.seats.items) _ _ c.both.result c.join-back.ensures.second c.join-back.ensures.first
    (omega (arith, c.len-2.ensures)) (grind (arith, common_steps)) c.both.ensures

pub run_seats-returns-then-len-eq1 : goal.run_seats-returns-then-len-eq1
run_seats-returns-then-len-eq1 g t c =
    let worked : HasWorked c.args.board.now (g.G.Gate.may_stop c.args.gate.now) (λ i. g.G.Gate.reported c.args.gate.now c.args.first i) (λ i out. g.W.Work.is_right c.args.work.now i out)
    (g.W.Work.jobs c.args.work.now) c.index_mut.result.now c.run_steps-answers.new.seat c.run_steps-answers.result.end c.run_steps-answers.result.answers.items
    = rw (c.new-steps.ensures.0, c.new-steps.ensures.1, c.new-steps.ensures.2) at c.run_steps-answers.ensures in
    gives_one c.args.board.now (g.G.Gate.may_stop c.args.gate.now) (g.G.Gate.reported c.args.gate.now) (g.W.Work.is_right c.args.work.now) (g.W.Work.jobs c.args.work.now) c.args.first c.index_mut.result.now
    c.args.seats.items _ c.run_steps-answers.result.end c.run_steps-answers.new.seat c.run_steps-answers.result.answers.items c.ended.result
    (search rules) (search rules) worked (search rules) c.ended.ensures.memory c.ended.ensures.seats c.ended.ensures.answers c.ended.ensures.refused
