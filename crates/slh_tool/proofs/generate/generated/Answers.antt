use Rattle.std.proofs.Common.{◌≡◌, Some, rules}
use Rattle.slh_params.specs.Label.{set_of_label}
use Rattle.slh_tool.specs.Keys.{RefusesSeedsOf}
use Rattle.slh_tool.proofs.Refusals.{handed_on, seeds_refused}
use Rattle.slh_tool.proofs.generate.generated.Goals as goal

pub returns-in_err-seeds-clause-refused : goal.returns-in_err-seeds-clause-refused
returns-in_err-seeds-clause-refused g c =
    let named : set_of_label c.args.name.now ≡ Some c.in-Some.set = search rules in
    let old = g.S.Source.state c.args.input.now in
    let new = g.S.Source.state c.read_seeds.new.input in
    handed_on (RefusesSeedsOf c.args.name.now old new) _ c.in_err-seeds.field-0.0 c.from_residual.ensures.1
    (seeds_refused c.args.name.now c.in-Some.set old new c.in_err-seeds.field-0.0 named c.in_err-seeds.ensures.refused)
