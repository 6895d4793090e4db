-- The seeds and the states of the source between the draws are those of the calls.
use Rattle.slh_core.proofs.random.keygen.Goals as goal

pub returns-clause-key : goal.returns-clause-key
returns-clause-key g c = record {
  sk_seed = c.in_ok-sk_seed.sk_seed.items;
  sk_prf = c.in_ok-sk_prf.sk_prf.items;
  pk_seed = c.in_ok-pk_seed.pk_seed.items;
  second = c.draw_seed.new.source;
  third = c.draw_seed-2.new.source;
  sk_seed_drawn = c.in_ok-sk_seed.ensures.drawn;
  sk_prf_drawn = c.in_ok-sk_prf.ensures.drawn;
  pk_seed_drawn = c.in_ok-pk_seed.ensures.drawn;
  sk_seed_len = c.in_ok-sk_seed.ensures.len;
  sk_prf_len = c.in_ok-sk_prf.ensures.len;
  pk_seed_len = c.in_ok-pk_seed.ensures.len;
  generated = rw (c.as_slice.ensures.value, c.as_slice-2.ensures.value, c.as_slice-3.ensures.value) at c.keygen_internal.ensures.key;
}
