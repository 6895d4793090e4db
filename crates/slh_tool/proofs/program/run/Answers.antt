-- Each command's output is the reply to its request.
use Rattle.std.proofs.Common.{◌≡◌, Some, refl, rules}
use Rattle.slh_tool.proofs.program.run.Goals as goal

pub returns-in_ok-named_set-in-Params-Some-clause-done : goal.returns-in_ok-named_set-in-Params-Some-clause-done
returns-in_ok-named_set-in-Params-Some-clause-done g c =
    let named : c.in-Params-Some.field-0 ≡ Some c.in-Params-Some.name = first_of (search rules, cc) in
    rw (c.in-Params-Some.is, named, c.text.ensures.status, c.text.ensures.output) (refl, c.in_ok-named_set-in-Params-Some.ensures.done)

pub returns-in_ok-root-in-Root-clause-done : goal.returns-in_ok-root-in-Root-clause-done
returns-in_ok-root-in-Root-clause-done g c = rw (c.in-Root.is, c.text-in-Root.ensures.status, c.text-in-Root.ensures.output) (refl, c.in_ok-root-in-Root.ensures.done)

pub returns-in_ok-keygen-in-Keygen-clause-done : goal.returns-in_ok-keygen-in-Keygen-clause-done
returns-in_ok-keygen-in-Keygen-clause-done g c = rw (c.in-Keygen.is, c.text-in-Keygen.ensures.status, c.text-in-Keygen.ensures.output) (refl, c.in_ok-keygen-in-Keygen.ensures.done)

pub returns-in_ok-public-in-Public-clause-done : goal.returns-in_ok-public-in-Public-clause-done
returns-in_ok-public-in-Public-clause-done g c = rw (c.in-Public.is, c.text-in-Public.ensures.status, c.text-in-Public.ensures.output) (refl, c.in_ok-public-in-Public.ensures.done)

pub returns-in_ok-upgrade-in-Upgrade-clause-done : goal.returns-in_ok-upgrade-in-Upgrade-clause-done
returns-in_ok-upgrade-in-Upgrade-clause-done g c = rw (c.in-Upgrade.is, c.text-in-Upgrade.ensures.status, c.text-in-Upgrade.ensures.output) (refl, c.in_ok-upgrade-in-Upgrade.ensures.done)

pub returns-in_ok-sign_file-in-Sign-clause-done : goal.returns-in_ok-sign_file-in-Sign-clause-done
returns-in_ok-sign_file-in-Sign-clause-done g c = rw (c.in-Sign.is, c.done.ensures.status, c.done.ensures.output) (refl, c.in_ok-sign_file-in-Sign.ensures.done)
