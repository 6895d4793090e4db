-- The buffer has room for the part of any set, and what is in it is the layer's part.
use Rattle.std.proofs.Common.{◌≤◌, length-take-le, arith, sym}
use Rattle.slh_few.proofs.Sizes.{xmss_sig_len_small}
use Rattle.slh_jobs.proofs.all_answers.AllAnswers.layer_root.Goals as goal

pub slice_bounds-part-end : goal.slice_bounds-part-end
slice_bounds-part-end c =
    let fits : c.xmss_sig_len.result ≤ 4640 = omega (arith, c.xmss_sig_len.ensures.value, xmss_sig_len_small c.args.self.now.signing.trees.signer.now.public.set) in
    sym (length-take-le c.xmss_sig_len.result _ fits)

pub slice_bounds-buffer-end : goal.slice_bounds-buffer-end
slice_bounds-buffer-end c = omega (arith, c.xmss_sig_len.ensures.value, xmss_sig_len_small c.args.self.now.signing.trees.signer.now.public.set)
