use Rattle.std.proofs.Common.{◌≡◌, subst, sym, rules}
use Rattle.slh_core.specs.Keys.{Key, generated_key, IsGeneratedKey}
use Rattle.slh_core.proofs.Parts.{generated}
use Rattle.slh_core.proofs.generation.keygen_internal.Goals as goal

pub returns-clause-generated : goal.returns-clause-generated
returns-clause-generated c =
    let e : c.from_parts.result ≡ generated_key c.args.set c.args.sk_seed.now c.args.sk_prf.now c.args.pk_seed.now = search rules in
    subst (λ (k : Key). IsGeneratedKey k) (sym e) (generated c.args.set _ _ _ c.requires.sk_seed c.requires.sk_prf c.requires.pk_seed)
