-- The points read so far are those of the parts so far; one part that is no number, or a 257th, refuses the list.
use Rattle.std.proofs.Common.{lit<, ◌≡◌, ◌≢◌, Some, ◌+◌, length, rules, arith, ◌∙◌}
use Rattle.std.proofs.lemmas.Iterator.Consumers.{YieldsList-end, YieldsList-turn}
use Rattle.std.proofs.lemmas.Iterator.Splits.{YieldsList-from_str_split}
use Rattle.std.proofs.lemmas.List.{length_push}
use Rattle.slh_tool.proofs.CutLists.{all_read, more_read, part_fails, too_many}
use Rattle.slh_tool.specs.Cuts.{number_in, parts_of}
use Rattle.slh_tool.proofs.cuts.points_in.Goals as goal

pub returns-then-is_full : goal.returns-then-is_full
returns-then-is_full c =
    let t = YieldsList-turn (YieldsList-from_str_split 44 c.args.list.now (lit< tt) (cc) (cc) (cc)) c.loop-part.yielded _ c.loop-part.yielded_by _ _ c.in-Some.part c.in-Some.is c.next.ensures.steps in
    let full : length c.loop-part.points.items ≡ 256 = search rules in
    too_many c.args.list.now c.loop-part.points.items full (omega (arith, t.0, c.loop-part.invariant.count))

pub returns-in_err-number_in : goal.returns-in_err-number_in
returns-in_err-number_in c =
    let t = YieldsList-turn (YieldsList-from_str_split 44 c.args.list.now (lit< tt) (cc) (cc) (cc)) c.loop-part.yielded _ c.loop-part.yielded_by _ _ c.in-Some.part c.in-Some.is c.next.ensures.steps in
    let count = c.loop-part.invariant.count in
    let is = rw (← count) at t.1 in
    rw c.from_residual.ensures (part_fails c.args.list.now c.loop-part.points.items c.in-Some.part.now c.loop-part.invariant.read (omega (arith, t.0, count)) is (search rules))

pub loop-part-preserved : goal.loop-part-preserved
loop-part-preserved c =
    let t = YieldsList-turn (YieldsList-from_str_split 44 c.args.list.now (lit< tt) (cc) (cc) (cc)) c.loop-part.yielded _ c.loop-part.yielded_by _ _ c.in-Some.part c.in-Some.is c.next.ensures.steps in
    let count = c.loop-part.invariant.count in
    let is = rw (← count) at t.1 in
    let value : number_in c.in-Some.part.now ≡ Some c.in_ok-number_in.field-0 = search rules in
    let size : length c.push.new.self.items ≡ length c.loop-part.points.items + 1 = search rules in
    let room : length c.loop-part.points.items ≢ 256 = search rules in
    record {
      next = c.loop-part.invariant.next;
      ends = c.loop-part.invariant.ends;
      few = omega (arith, size, room, c.loop-part.invariant.few);
      count = omega (arith, size, count, length_push c.loop-part.yielded c.in-Some.part);
      read = rw c.push.ensures.items (more_read (parts_of c.args.list.now) c.loop-part.points.items c.in-Some.part.now c.in_ok-number_in.field-0
          c.loop-part.invariant.read (omega (arith, t.0, count)) is value);
    }

pub returns : goal.returns
returns c =
    let t = YieldsList-end (YieldsList-from_str_split 44 c.args.list.now (lit< tt) (cc) (cc) (cc)) c.loop-part.yielded _ c.loop-part.yielded_by _ _ c.in-None.is c.next.ensures.steps in
    all_read c.args.list.now c.loop-part.points.items c.loop-part.invariant.read (c.loop-part.invariant.count ∙ t.1) c.loop-part.invariant.few
