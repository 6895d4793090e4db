use Rattle.slh_few.specs.Xmss.{xmss_pk_from_sig}
use Rattle.slh_few.specs.Trees.{xmss_joins_of}
use Rattle.slh_few.proofs.context.HashContext.xmss_pk_from_sig.Goals as goal

pub returns-clause-value : goal.returns-clause-value
unfolding xmss_pk_from_sig xmss_joins_of
returns-clause-value c =
    rw (c.wots_pk_from_sig-leaf.ensures.value, c.split_at.ensures.front, c.split_at.ensures.back, c.len.ensures, c.n.ensures) at c.climb.ensures.climbs
