-- The seats joined so far have their draws together; with all of them joined these are the board's, each once.
use Rattle.std.proofs.Common.{rules, arith, ap, sym, subst, ◌∙◌, ◌≡◌, ℕ, min, not, nat_eq, length}
use Rattle.atomic_table.specs.Table.{Me}
use Rattle.slh_board.specs.declared.view.View.{View}
use Rattle.slh_board.specs.Seats.{BoardState}
use Rattle.slh_board.specs.Views.{both}
use Rattle.slh_board.proofs.Settles.{settles}
use Rattle.slh_board.proofs.Tallies.{Gathers, gathers_first, gathers_more, Tallied, tallies}
use Rattle.slh_board.proofs.Seating.{shows, same_table, last_mine}
use Rattle.slh_board.proofs.board.Board.finish.Given.{Over}
use Rattle.slh_board.proofs.board.Board.finish.Goals as goal

pub loop-seat-init : goal.loop-seat-init
loop-seat-init g c =
    let items = c.in-Some.ensures.items in
    let mine = last_mine _ _ _ _ items c.requires.mine in
    record {
      table = same_table c.first.inside _ _ _ c.first.view_is c.self.view_is mine;
      gathers = gathers_first _ _ _ _ _ items (shows c.first.inside _ c.first.invariant c.first.view_is) (search rules) c.requires.mine;
    }

pub join-requires-clause-table : goal.join-requires-clause-table
join-requires-clause-table g c =
    let items = c.in-Some-pop.ensures.items in
    let k = c.loop-seat.invariant.gathers in
    let mine = last_mine _ _ _ _ items k.mine in
    (c.self.invariant.words, c.loop-seat.invariant.table, same_table c.seat.inside _ _ _ c.seat.view_is c.self.view_is mine)

pub loop-seat-preserved : goal.loop-seat-preserved
loop-seat-preserved g c =
    let items = c.in-Some-pop.ensures.items in
    let k = c.loop-seat.invariant.gathers in
    let joined : c.join.new.first.me.0 ≡ both c.loop-seat.whole.me.0 c.seat.inside.seat.me.0 = ap (λ (m : Me ℕ View). m.0) c.join.ensures.joined in
    record {
      table = c.join.ensures.same_table ∙ c.loop-seat.invariant.table;
      gathers = subst (λ (v : View). Gathers c.args.self v c.pop-in-loop-seat.new.self.items c.args.seats.items) (sym joined)
          (gathers_more _ _ _ _ _ _ _ items (shows c.seat.inside _ c.seat.invariant c.seat.view_is) k);
    }

tally : (g : Over) (c : goal.After-drop-seats g) → Tallied c.args.self.jobs c.min-drawn.result (not (nat_eq c.word-halt.result 0)) c.args.seats.items
tally g c =
    let k = c.loop-seat.invariant.gathers in
    let none_left : length c.loop-seat.seats.items ≡ 0 = omega (arith, c.in_default-pop.ensures.cases.0, c.loop-seat.seats.ok.0) in
    let seats : c.self.inside.table.shared.key.seats ≡ c.args.self.seats = ap (λ (b : BoardState). b.seats) c.self.view_is in
    let jobs : c.self.inside.table.shared.key.jobs ≡ c.args.self.jobs = ap (λ (b : BoardState). b.jobs) c.self.view_is in
    let every : c.loop-seat.whole.me.0.seats ≡ c.self.inside.table.shared.key.seats = omega (arith, k.stands, none_left, seats) in
    let drawn : min c.word-next.result c.self.inside.table.shared.key.jobs ≡ c.min-drawn.result = omega (arith, c.min-drawn.ensures, c.from.ensures, c.self.invariant.jobs) in
    subst (λ (t : ℕ × ℕ). Tallied t.0 t.1 (not (nat_eq c.word-halt.result 0)) c.args.seats.items) (λ i. (jobs i, drawn i))
    (tallies _ _ _ _ _ _ _ (settles _ _ _ _ _ _ _ c.close_with-closed.ensures.values.2 every k.some_seat c.word-next.ensures c.word-halt.ensures) k none_left)

pub returns-clause-each_once : goal.returns-clause-each_once
returns-clause-each_once g c = (tally g c).each_once

pub returns-clause-done : goal.returns-clause-done
returns-clause-done g c = (tally g c).done

pub returns-clause-stopped : goal.returns-clause-stopped
returns-clause-stopped g c = (tally g c).stopped

pub returns-clause-seen : goal.returns-clause-seen
returns-clause-seen g c = (tally g c).seen

pub returns-clause-history : goal.returns-clause-history
returns-clause-history g c = (tally g c).history
