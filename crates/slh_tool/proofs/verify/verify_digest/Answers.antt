-- The verdict is that of the bytes read: the digest of the message's file, and the front of the signature's.
use Rattle.std.proofs.Common.{subst}
use Rattle.slh_io.specs.Devices.{FilesState}
use Rattle.slh_tool.specs.Reading.{IsFile}
use Rattle.slh_tool.proofs.Pieces.{judged_by_front}
use Rattle.slh_tool.proofs.verify.verify_digest.Goals as goal

pub returns-clause-done : goal.returns-clause-done
returns-clause-done g c =
    let read = c.in_ok-digest.ensures.done in
    let signature = c.in_ok-signature.ensures.done in
    record {
      message = read.0;
      signature = signature.0;
      read = read.1;
      signature_read = subst (λ (s : FilesState). IsFile s c.args.words.signature.now signature.0) c.in_ok-digest.ensures.kept signature.1;
      truth = judged_by_front c.hash_verify_digest.result c.args.context.now c.args.key.now _ signature.0 c.in_ok-signature.signature.items signature.2
          (rw (← c.as_slice.ensures.value) (rw read.2 at c.hash_verify_digest.ensures));
    }
