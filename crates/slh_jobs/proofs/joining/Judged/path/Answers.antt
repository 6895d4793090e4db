-- The path of a layer's leaf stands at its place.
use Rattle.std.proofs.Common.{◌≡◌, ℕ, ◌+◌, ◌-◌, ◌*◌, List, length, refl, ap, ◌∙◌, arith}
use Rattle.slh_few.specs.Chunks.{chunk}
use Rattle.slh_few.proofs.Ends.{chunk-end_to_end, chunk_fits}
use Rattle.slh_jobs.specs.AllAnswers.{params_in, path_in, path_len_in}
use Rattle.slh_jobs.proofs.joining.Judged.path.Goals as goal

pub returns-clause-value : goal.returns-clause-value
returns-clause-value c =
    let x = c.args.self.now in
    let p = params_in x.answered.now in
    let size : c.hp.result * c.n.result ≡ path_len_in x.answered.now = rw (c.hp.ensures, c.n.ensures) refl in
    let own : ℕ = c.args.layer * (c.hp.result * c.n.result) in
    let len : own + c.hp.result * c.n.result - own ≡ path_len_in x.answered.now = omega (arith, size) in
    let at : own ≡ c.args.layer * path_len_in x.answered.now = ap (λ (n : ℕ). c.args.layer * n) size in
    rw (len, at) (ap (λ (xs : List ℕ). chunk (path_len_in x.answered.now) xs c.args.layer) x.paths_is
    ∙ chunk-end_to_end (path_in x.answered.now) (path_len_in x.answered.now) p.d c.args.layer c.requires x.path_lens)

pub slice_bounds-result-end : goal.slice_bounds-result-end
slice_bounds-result-end c =
    let x = c.args.self.now in
    let size : c.hp.result * c.n.result ≡ path_len_in x.answered.now = rw (c.hp.ensures, c.n.ensures) refl in
    rw size (chunk_fits c.args.layer (params_in x.answered.now).d (path_len_in x.answered.now) (length x.paths.now) c.requires x.paths_len)
