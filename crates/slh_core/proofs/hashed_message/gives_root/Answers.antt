-- A signature of the right length has room for R, and the buffer for the digest of any set.
use Rattle.std.proofs.Common.{◌≡◌, ◌≤◌, length, length-take-le, arith, rules, sym, ◌∙◌}
use Rattle.slh_params.specs.ParamSet.{params}
use Rattle.slh_params.proofs.Bounds.{m_high}
use Rattle.slh_core.proofs.Lengths.{r_fits}
use Rattle.slh_core.proofs.hashed_message.gives_root.Goals as goal

pub slice_bounds-r-end : goal.slice_bounds-r-end
slice_bounds-r-end c =
    let p = params c.args.pk.now.set in
    let n : c.n.result ≡ p.n = search rules in
    sym (length-take-le c.n.result _ (r_fits p c.n.result (length c.args.sig.now) n c.requires))

pub slice_bounds-buffer-end : goal.slice_bounds-buffer-end
slice_bounds-buffer-end c = omega (arith, c.m.ensures, m_high c.set-set.result)

pub slice_bounds-digest-end : goal.slice_bounds-digest-end
slice_bounds-digest-end c =
    let fits : c.m.result ≤ 122 = omega (arith, c.m.ensures, m_high c.set-set.result) in
    sym (length-take-le c.m.result _ fits)

pub h_msg_by_hash-requires : goal.h_msg_by_hash-requires
h_msg_by_hash-requires c =
    let fits : c.m.result ≤ 122 = omega (arith, c.m.ensures, m_high c.set-set.result) in
    length-take-le c.m.result _ fits ∙ c.m.ensures

pub verify_by_digest-requires-clause-digest : goal.verify_by_digest-requires-clause-digest
verify_by_digest-requires-clause-digest c =
    let fits : c.m.result ≤ 122 = omega (arith, c.m.ensures, m_high c.set-set.result) in
    c.h_msg_by_hash.auto.out ∙ length-take-le c.m.result _ fits ∙ rw c.set-set.ensures at c.m.ensures
