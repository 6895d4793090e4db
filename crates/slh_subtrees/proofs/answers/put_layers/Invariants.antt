-- What the loop keeps: what this layer signs, and the parts of the layers before it.
use Rattle.std.proofs.Common.{◌≡◌, ◌*◌, length, take}
use Rattle.slh_params.specs.ParamSet.{params}
use Rattle.slh_few.specs.Chunks.{end_to_end}
use Rattle.slh_few.specs.Xmss.{xmss_sig_len}
use Rattle.slh_subtrees.specs.SigningTrees.{source_of}
use Rattle.slh_subtrees.specs.Assembled.{signed_by, layer_part_by}
use Rattle.slh_subtrees.proofs.answers.put_layers.Given as goal

abbrev pub invariant-loop-layer : goal.invariant-loop-layer
invariant-loop-layer g l =
    let s = source_of l.trees in
    let a = g.A.Answers.says l.answers in
    (l.msg.items ≡ signed_by s a l.layer)
    × (length l.msg.items ≡ (params s.set).n)
    × (take (l.layer * xmss_sig_len (params s.set)) l.out ≡ end_to_end (λ i. layer_part_by s a i (signed_by s a i)) l.layer)
