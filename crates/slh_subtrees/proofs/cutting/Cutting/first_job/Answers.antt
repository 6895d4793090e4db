use Rattle.std.proofs.Common.{rules}
use Rattle.slh_subtrees.proofs.Numbered.{slice_get-first}
use Rattle.slh_subtrees.proofs.cutting.Cutting.first_job.Goals as goal

pub returns-in-Xmss-clause-ranges : goal.returns-in-Xmss-clause-ranges
returns-in-Xmss-clause-ranges c = λ r here. slice_get-first c.args.self.now c.args.tree _ r (search rules) c.requires here

pub returns-in-Fors-clause-ranges : goal.returns-in-Fors-clause-ranges
returns-in-Fors-clause-ranges c = λ r here. slice_get-first c.args.self.now c.args.tree _ r (search rules) c.requires here
