-- What the loop keeps: the place, what is signed there, and the parts of the signature written so far.
use Rattle.std.proofs.Common.{◌≡◌, ◌<◌, ◌^◌, ◌*◌, length, take}
use Rattle.slh_params.specs.ParamSet.{params}
use Rattle.slh_few.specs.Chunks.{end_to_end}
use Rattle.slh_few.specs.Xmss.{xmss_sig_len}
use Rattle.slh_few.specs.Hypertree.{layer_place, signed_at, layer_sig}
use Rattle.slh_few.proofs.context.SigningContext.ht_sign.Given as goal

abbrev pub invariant-loop-layer : goal.invariant-loop-layer
invariant-loop-layer l = record {
  place : l.at ≡ layer_place (params l.self.public.set) l.idx_tree l.idx_leaf l.layer;
  pair : l.at.pair < 2 ^ (params l.self.public.set).hp;
  root : l.root.items ≡ signed_at (params l.self.public.set) l.self.sk_seed.now l.self.public.pk_seed.now l.msg.items l.idx_tree l.idx_leaf l.layer;
  len : length l.root.items ≡ (params l.self.public.set).n;
  done : take (l.layer * xmss_sig_len (params l.self.public.set)) l.out
      ≡ end_to_end (layer_sig (params l.self.public.set) l.self.sk_seed.now l.self.public.pk_seed.now l.msg.items l.idx_tree l.idx_leaf) l.layer;
}
