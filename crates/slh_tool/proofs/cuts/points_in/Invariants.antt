use Rattle.std.proofs.Common.{◌≡◌, ◌≤◌, length}
use Rattle.slh_tool.proofs.CutLists.{HasRead}
use Rattle.slh_tool.specs.Cuts.{parts_of}
use Rattle.slh_tool.proofs.cuts.points_in.Given as goal

abbrev pub invariant-loop-part : goal.invariant-loop-part
invariant-loop-part l = record {
  next : (goal.iterator-loop-part).can_next l.part-iterator;
  ends : (goal.iterator-loop-part).is_finite l.part-iterator;
  few : length l.points.items ≤ 256;
  count : length l.points.items ≡ length l.yielded;
  read : HasRead (parts_of l.list) l.points.items;
}
