use Rattle.slh_tool.proofs.Pieces.{file_whole}
use Rattle.slh_tool.proofs.reading.read_file.Goals as goal

pub returns-clause-done : goal.returns-clause-done
returns-clause-done g c = file_whole (g.F.Files.state c.args.files.now) c.args.path.now _ c.read_front.result c.read_front.ensures.done
