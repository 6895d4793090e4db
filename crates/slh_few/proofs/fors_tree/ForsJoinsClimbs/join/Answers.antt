use Rattle.std.proofs.Common.{arith}
use Rattle.slh_params.proofs.Bounds.{a_high}
use Rattle.slh_few.proofs.fors_tree.ForsJoinsClimbs.join.Goals as goal

pub adrs-adrs-requires-clause-depth : goal.adrs-adrs-requires-clause-depth
adrs-adrs-requires-clause-depth c = omega (arith, c.a.ensures, a_high c.args.self.now.context.now.set)
