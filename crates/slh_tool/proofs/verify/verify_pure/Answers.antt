-- The verdict is that of the bytes read: the front of the signature's file, and the message's.
use Rattle.slh_tool.specs.Requests.{verify_asked}
use Rattle.slh_tool.proofs.Refusals.{judged_files}
use Rattle.slh_tool.proofs.verify.verify_pure.Goals as goal

pub returns-in-Ok-clause-done : goal.returns-in-Ok-clause-done
returns-in-Ok-clause-done g c =
    judged_files (verify_asked c.args.words) (g.F.Files.state c.args.files.now) (g.F.Files.state c.signature_in.new.files)
    c.args.key.now c.args.context.now c.in-Ok.signature.items c.verdict_on.result c.in-Ok.ensures.kept c.in-Ok.ensures.done
    (rw c.as_slice.ensures.value at c.verdict_on.ensures.done)
