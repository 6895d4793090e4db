use Rattle.std.proofs.Common.{◌≡◌, ◌+◌, ◌-◌, ◌≤◌}
use Rattle.slh_tool.specs.Reading.{file_limit}
use Rattle.slh_tool.proofs.Pieces.{HasRead}
use Rattle.slh_tool.proofs.reading.read_through.Given as goal

abbrev pub invariant-loop-at : goal.invariant-loop-at
invariant-loop-at g l = record {
  few : l.at ≤ file_limit + 1;
  read : HasRead (g.R.Receiver.has_received l.fn.receiver l.receiver) (g.F.Files.state l.fn.files) l.path l.at;
  kept : g.F.Files.state l.files ≡ g.F.Files.state l.fn.files;
}

abbrev pub decreases-loop-at : goal.decreases-loop-at
decreases-loop-at g l = file_limit + 1 - l.at
