-- What is held of a key file that was read is read as the whole file is.
use Rattle.slh_tool.proofs.Pieces.{alike_whole}
use Rattle.slh_tool.proofs.reading.read_key_file.Goals as goal

pub returns-clause-done : goal.returns-clause-done
returns-clause-done g c =
    let read = c.in_ok-read_through.ensures.done in
    record {
      whole = read.0;
      read = read.1;
      alike = alike_whole c.read_through.new.receiver.bytes.items read.0 read.2.1;
      held = read.2.0;
    }
