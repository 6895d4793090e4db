use Rattle.std.proofs.Common.{◌≡◌, Some, rules}
use Rattle.slh_params.specs.Label.{set_of_label}
use Rattle.slh_tool.proofs.params.named_set.Goals as goal

pub returns-clause-done : goal.returns-clause-done
returns-clause-done g c =
    let named : set_of_label c.args.name.now ≡ Some c.in-Some.set = search rules in
    (c.in-Some.set, named, c.in_ok-set_lines.ensures)
