use Rattle.slh_tool_tests.proofs.Parts.{end_of, part_of}
use Rattle.slh_tool_tests.proofs.folder.FolderFiles.fetch.Goals as goal

pub returns-in-Some-clause-bytes : goal.returns-in-Some-clause-bytes
returns-in-Some-clause-bytes c = part_of _ _ _ _ _ _ _ _ c.in-Some.ensures c.min-from.ensures c.min-n.ensures c.copy_from_slice.ensures.after

pub returns-in-Some-clause-end : goal.returns-in-Some-clause-end
returns-in-Some-clause-end c = λ none some. end_of _ _ _ _ _ _ _ c.in-Some.ensures c.min-from.ensures c.min-n.ensures c.copy_from_slice.ensures.after none some
