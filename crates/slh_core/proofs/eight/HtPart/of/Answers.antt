-- A signature of the right length has room for its three parts, and the buffer for the digest of any set.
use Rattle.std.proofs.Common.{◌≡◌, ◌≤◌, length, length-take-le, arith, rules, sym, ◌∙◌}
use Rattle.slh_params.specs.ParamSet.{params}
use Rattle.slh_params.proofs.Bounds.{m_high}
use Rattle.slh_core.proofs.Lengths.{r_fits, fors_fits, tree_fits}
use Rattle.slh_core.proofs.eight.HtPart.of.Goals as goal

pub split_at-requires : goal.split_at-requires
split_at-requires c = r_fits (params c.args.item.now.pk.now.set) c.n.result (length c.args.item.now.sig.now) (search rules) c.requires

pub split_at-requires-2 : goal.split_at-requires-2
split_at-requires-2 c =
    let p = params c.args.item.now.pk.now.set in
    let n : c.n.result ≡ p.n = search rules in
    fors_fits p c.fors_sig_len.result (length c.split_at.result.1.now) (search rules) (omega (arith, c.split_at.ensures.back_len, n, c.requires))

pub slice_bounds-buffer-end : goal.slice_bounds-buffer-end
slice_bounds-buffer-end c = omega (arith, c.m.ensures, m_high c.set-set.result)

pub slice_bounds-digest-end : goal.slice_bounds-digest-end
slice_bounds-digest-end c =
    let fits : c.m.result ≤ 122 = omega (arith, c.m.ensures, m_high c.set-set.result) in
    sym (length-take-le c.m.result _ fits)

pub h_msg-requires : goal.h_msg-requires
h_msg-requires c =
    let fits : c.m.result ≤ 122 = omega (arith, c.m.ensures, m_high c.set-set.result) in
    length-take-le c.m.result _ fits ∙ c.m.ensures

pub of_digest-requires-clause-digest : goal.of_digest-requires-clause-digest
of_digest-requires-clause-digest c =
    let fits : c.m.result ≤ 122 = omega (arith, c.m.ensures, m_high c.set-set.result) in
    c.h_msg.auto.out ∙ length-take-le c.m.result _ fits ∙ rw c.set-set.ensures at c.m.ensures

pub of_digest-requires-clause-sig_ht : goal.of_digest-requires-clause-sig_ht
of_digest-requires-clause-sig_ht c =
    let p = params c.args.item.now.pk.now.set in
    let n : c.n.result ≡ p.n = search rules in
    tree_fits p c.fors_sig_len.result (length c.split_at.result.1.now) _ (search rules) (omega (arith, c.split_at.ensures.back_len, n, c.requires)) (search rules)
