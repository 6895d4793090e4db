-- What the loop keeps: what this layer signs, what was written of it and of the paths, and that the layers before it have
-- their tags and give what the next one signs.
use Rattle.std.proofs.Common.{◌≡◌, ℕ, ◌<◌, ◌*◌, length, take}
use Rattle.slh_few.specs.Chunks.{end_to_end}
use Rattle.slh_few.specs.Xmss.{xmss_sig_len}
use Rattle.slh_subtrees.specs.Assembled.{signed_by, layer_part_by}
use Rattle.slh_subtrees.specs.declared.range.JobTree.TheVariants.{Xmss}
use Rattle.slh_jobs.specs.AllAnswers.{params_in, source_in, answers_in, path_in, path_len_in}
use Rattle.slh_jobs.specs.Joined.{NodesFit, LayerFits}
use Rattle.slh_jobs.proofs.all_answers.AllAnswers.judge_layers.Given as goal

abbrev pub invariant-loop-layer : goal.invariant-loop-layer
invariant-loop-layer v =
    let p = params_in v.self in
    let s = source_in v.self in
    let a = answers_in v.self in
    (v.msg.items ≡ signed_by s a v.layer)
    × (length v.msg.items ≡ p.n)
    × (take (v.layer * p.n) v.signed ≡ end_to_end (signed_by s a) v.layer)
    × (take (v.layer * path_len_in v.self) v.paths ≡ end_to_end (path_in v.self) v.layer)
    × ((l : ℕ) → l < v.layer → length (path_in v.self l) ≡ path_len_in v.self)
    × ((l : ℕ) → l < v.layer → length (layer_part_by s a l (signed_by s a l)) ≡ xmss_sig_len p)
    × ((l : ℕ) → l < v.layer → NodesFit v.self.signing.levels v.self.signing.sk.now v.self.signing.start.now v.self.xmss.bytes.now (Xmss l))
    × ((l : ℕ) → l < v.layer → LayerFits s a l)
