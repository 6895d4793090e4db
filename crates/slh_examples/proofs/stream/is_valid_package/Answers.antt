use Rattle.std.proofs.Common.{arith}
use Rattle.slh_examples.proofs.stream.is_valid_package.Goals as goal

pub returns : goal.returns
returns c =
    let verdict = rw c.package_digest-digest.ensures at c.hash_verify_digest.ensures in
    (λ t. (verdict.0 t).1, λ valid. verdict.1 (omega arith, valid))
