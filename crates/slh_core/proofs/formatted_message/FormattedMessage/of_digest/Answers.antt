-- The length of the context fits a byte.
use Rattle.std.proofs.Common.{◌≡◌, ◌≤◌, length, rules}
use Rattle.slh_core.specs.Messages.{bytes_of}
use Rattle.slh_core.specs.PreHash.{oid}
use Rattle.slh_core.proofs.Messages.{pre_hash_parts}
use Rattle.slh_core.proofs.formatted_message.FormattedMessage.of_digest.Goals as goal

pub returns-clause-bytes : goal.returns-clause-bytes
unfolding bytes_of
returns-clause-bytes c =
    let short : length c.args.ctx.now ≤ 255 = search rules in
    let digest = c.args.digest.now in
    let named : c.oid.result ≡ oid digest.function = search rules in
    rw (named, c.copy.ensures) (pre_hash_parts c.in_ok-head.head c.args.ctx.now (oid digest.function) digest.bytes short c.in_ok-head.ensures.head)
