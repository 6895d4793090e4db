use Rattle.std.proofs.Common.{◌≡◌, ℕ, ◌<◌, List, length, slice_index_or, take}
use Rattle.slh_params.specs.Params.{len}
use Rattle.slh_params.specs.ParamSet.{params}
use Rattle.slh_lanes.specs.Lanes.{value_at}
use Rattle.slh_few.specs.Chunks.{chunk, end_to_end}
use Rattle.slh_few.specs.HtSignatures.{pk_seed_of}
use Rattle.slh_few.specs.Wots.{finished_chain}
use Rattle.slh_few.specs.Xmss.{wots_sig_len, xmss_sig_len}
use Rattle.slh_few.specs.declared.hypertree.HtSignature.{HtSignature}
use Rattle.slh_few.specs.declared.place.Place.{Place}
use Rattle.slh_few.proofs.lanes.hypertrees.put_all_ends.Given as goal

abbrev pub invariant-loop-j : goal.invariant-loop-j
invariant-loop-j l = record {
  count : length l.ends ≡ 8;
  ends : (i : ℕ) (x : HtSignature) (at : Place) (e : List ℕ) → i < l.j
      → let p = params l.set in let x = slice_index_or l.signed i x in
      take (wots_sig_len p) (slice_index_or l.ends i e) ≡ end_to_end (finished_chain p (pk_seed_of x)
      (slice_index_or l.places i at) (value_at l.nodes i p.n)
      (take (wots_sig_len p) (chunk (xmss_sig_len p) x.sig.now l.layer))) (len p);
}
