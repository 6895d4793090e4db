-- What a layer signs stands at its place.
use Rattle.std.proofs.Common.{◌≡◌, ℕ, ◌+◌, ◌-◌, ◌*◌, List, length, ap, ◌∙◌, arith}
use Rattle.slh_few.specs.Chunks.{chunk}
use Rattle.slh_few.proofs.Ends.{chunk-end_to_end, chunk_fits}
use Rattle.slh_subtrees.specs.Assembled.{signed_by}
use Rattle.slh_jobs.specs.AllAnswers.{params_in, source_in, answers_in}
use Rattle.slh_jobs.proofs.Signed.{length-signed}
use Rattle.slh_jobs.proofs.joining.Judged.signed.Goals as goal

pub slice_bounds-node_of-end : goal.slice_bounds-node_of-end
slice_bounds-node_of-end c =
    let x = c.args.self.now in
    let p = params_in x.answered.now in
    rw c.n-n.ensures (chunk_fits c.args.layer p.d p.n (length x.signed.now) c.requires x.signed_len)

pub returns-clause-value : goal.returns-clause-value
returns-clause-value c =
    let x = c.args.self.now in
    let p = params_in x.answered.now in
    let signed : ℕ → List ℕ = signed_by (source_in x.answered.now) (answers_in x.answered.now) in
    let own : ℕ = c.args.layer * c.n-n.result in
    let size : own + c.n-n.result - own ≡ p.n = omega (arith, c.n-n.ensures) in
    let at : own ≡ c.args.layer * p.n = ap (λ (n : ℕ). c.args.layer * n) c.n-n.ensures in
    let read : c.node_of.result.items ≡ chunk p.n x.signed.now c.args.layer = rw (size, at) at c.node_of.ensures in
    read ∙ ap (λ (xs : List ℕ). chunk p.n xs c.args.layer) x.signed_is
    ∙ chunk-end_to_end signed p.n p.d c.args.layer c.requires (λ j lt. length-signed x.answered.now.signing.levels (source_in x.answered.now) x.answered.now.xmss.bytes.now x.answered.now.signing.tree_set j)
