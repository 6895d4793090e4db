-- The key that was read is that of the file, so the text is what upgrading the file gives.
use Rattle.std.proofs.Common.{refl}
use Rattle.slh_tool.proofs.keys.upgrade.Goals as goal

pub returns-clause-done : goal.returns-clause-done
returns-clause-done g c =
    let held = c.in_ok-key.ensures.done in
    (held.0, held.1, rw (held.2, c.in-Ok.ensures.written) refl)
