-- The receiver has received the bytes of the file so far, and at its end all of them.
use Rattle.std.proofs.Common.{◌∙◌, ◌++◌, [], refl, sym, arith, length-append}
use Rattle.slh_tool.proofs.Pieces.{grew_since, is_zero, later_failed, later_kept, none_read, read_more, read_whole, same_state, too_long}
use Rattle.slh_tool.proofs.reading.read_through.Goals as goal

pub loop-at-init : goal.loop-at-init
loop-at-init g c = record {
  few = omega arith;
  read = record { bytes = []; received = c.requires.none; sized = refl; begins = none_read _ _ refl };
  kept = refl;
}

pub receive-requires : goal.receive-requires
receive-requires g c = let old = c.loop-at.invariant.read in (c.args.receiver.now, old.bytes, old.received)

pub returns-in_default-clause-refused : goal.returns-in_default-clause-refused
returns-in_default-clause-refused g c =
    grew_since (g.F.Files.state c.args.files.now) (g.F.Files.state c.loop-at.files) (g.F.Files.state c.next_part.new.files)
    c.loop-at.invariant.kept c.in_default.ensures.failed

pub returns-in_default-clause-later : goal.returns-in_default-clause-later
returns-in_default-clause-later g c =
    later_failed (g.F.Files.state c.args.files.now) (g.F.Files.state c.loop-at.files) (g.F.Files.state c.next_part.new.files)
    c.loop-at.invariant.kept c.next_part.ensures.same c.in_default.ensures.failed

pub returns-then-is_empty-clause-done : goal.returns-then-is_empty-clause-done
returns-then-is_empty-clause-done g c =
    let old = c.loop-at.invariant.read in (
      old.bytes,
      read_whole (g.F.Files.state c.args.files.now) (g.F.Files.state c.loop-at.files) c.args.path.now old.bytes c.in-Ok.part.now c.loop-at.at
          c.loop-at.invariant.kept (sym old.sized) old.begins c.in-Ok.ensures.end (is_zero _ _ c.is_empty.ensures c.if-is_empty.true)
          (omega (arith, c.loop-at-test.true, old.sized)),
      old.received,
    )

pub returns-then-is_empty-clause-kept : goal.returns-then-is_empty-clause-kept
returns-then-is_empty-clause-kept g c =
    same_state (g.F.Files.state c.loop-at.files) (g.F.Files.state c.next_part.new.files) c.in-Ok.ensures.same c.in-Ok.ensures.failed ∙ c.loop-at.invariant.kept

pub returns-then-is_empty-clause-later : goal.returns-then-is_empty-clause-later
returns-then-is_empty-clause-later g c = later_kept _ _ (returns-then-is_empty-clause-kept g c)

pub loop-at-preserved : goal.loop-at-preserved
loop-at-preserved g c =
    let old = c.loop-at.invariant.read in
    record {
      few = omega (arith, c.in-Ok.ensures.count);
      read = record {
        bytes = old.bytes ++ c.in-Ok.part.now;
        received = c.in_ok-receive.ensures c.args.receiver.now old.bytes old.received;
        sized = length-append old.bytes c.in-Ok.part.now ∙ omega (arith, old.sized);
        begins = read_more (g.F.Files.state c.args.files.now) (g.F.Files.state c.loop-at.files) c.args.path.now old.bytes c.in-Ok.part.now c.loop-at.at
            c.loop-at.invariant.kept (sym old.sized) old.begins c.in-Ok.ensures.part;
      };
      kept = same_state (g.F.Files.state c.loop-at.files) (g.F.Files.state c.next_part.new.files) c.in-Ok.ensures.same c.in-Ok.ensures.failed ∙ c.loop-at.invariant.kept;
    }

pub returns-clause-refused : goal.returns-clause-refused
returns-clause-refused g c =
    let old = c.loop-at.invariant.read in too_long _ old.bytes old.begins (omega (arith, c.loop-at-test.false, old.sized))

pub returns-clause-later : goal.returns-clause-later
returns-clause-later g c = later_kept _ _ c.loop-at.invariant.kept
