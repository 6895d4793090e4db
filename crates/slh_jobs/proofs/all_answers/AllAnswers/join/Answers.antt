-- The buffers have room for any set.
use Rattle.std.proofs.Common.{◌≡◌, ◌*◌, ◌≤◌, length-take-le, arith, refl, sym, ◌∙◌}
use Rattle.std.proofs.Math.Nat.{mul-le-mul}
use Rattle.slh_params.specs.Params.{h}
use Rattle.slh_params.specs.ParamSet.{params}
use Rattle.slh_params.specs.declared.param_set.ParamSet.{ParamSet}
use Rattle.slh_params.proofs.Bounds.{n_high, d_high, k_high, h_high}
use Rattle.slh_few.specs.Fors.{fors_part_len}
use Rattle.slh_jobs.specs.AllAnswers.{path_len_in}
use Rattle.slh_jobs.proofs.Indices.{fors_part_few}
use Rattle.slh_jobs.proofs.all_answers.AllAnswers.join.Goals as goal

fors_few : (s : ParamSet) → (params s).k * fors_part_len (params s) ≤ 30720
fors_few s = mul-le-mul {n₂ = 64} {m₂ = 480} (k_high s) (fors_part_few s)

signed_few : (s : ParamSet) → (params s).d * (params s).n ≤ 2080
signed_few s = mul-le-mul {n₂ = 65} {m₂ = 32} (d_high s) (n_high s)

paths_few : (s : ParamSet) → (params s).d * ((params s).hp * (params s).n) ≤ 2432
paths_few s =
    let whole : (params s).d * ((params s).hp * (params s).n) ≡ h (params s) * (params s).n = omega arith in
    omega (arith, whole, mul-le-mul {n₂ = 76} {m₂ = 32} (h_high s) (n_high s))

pub slice_bounds-paths-end : goal.slice_bounds-paths-end
slice_bounds-paths-end c = rw (c.d-2.ensures, c.hp.ensures, c.n-2.ensures) (paths_few c.args.self.now.signing.trees.signer.now.public.set)

pub slice_bounds-paths-end-2 : goal.slice_bounds-paths-end-2
slice_bounds-paths-end-2 c =
    let fits : c.d-2.result * (c.hp.result * c.n-2.result) ≤ 2432 = rw (c.d-2.ensures, c.hp.ensures, c.n-2.ensures) (paths_few c.args.self.now.signing.trees.signer.now.public.set) in
    sym (length-take-le (c.d-2.result * (c.hp.result * c.n-2.result)) _ fits)

pub judge-requires-clause-paths : goal.judge-requires-clause-paths
judge-requires-clause-paths c =
    let fits : c.d-2.result * (c.hp.result * c.n-2.result) ≤ 2432 = rw (c.d-2.ensures, c.hp.ensures, c.n-2.ensures) (paths_few c.args.self.now.signing.trees.signer.now.public.set) in
    let size : c.d-2.result * (c.hp.result * c.n-2.result) ≡ (params c.args.self.now.signing.trees.signer.now.public.set).d * path_len_in c.args.self.now = rw (c.d-2.ensures, c.hp.ensures, c.n-2.ensures) refl in
    length-take-le (c.d-2.result * (c.hp.result * c.n-2.result)) _ fits ∙ size

pub invariant_of-judged-clause-paths_len : goal.invariant_of-judged-clause-paths_len
invariant_of-judged-clause-paths_len c =
    let fits : c.d-2.result * (c.hp.result * c.n-2.result) ≤ 2432 = rw (c.d-2.ensures, c.hp.ensures, c.n-2.ensures) (paths_few c.args.self.now.signing.trees.signer.now.public.set) in
    let size : c.d-2.result * (c.hp.result * c.n-2.result) ≡ (params c.args.self.now.signing.trees.signer.now.public.set).d * path_len_in c.args.self.now = rw (c.d-2.ensures, c.hp.ensures, c.n-2.ensures) refl in
    c.judge.auto.paths ∙ length-take-le (c.d-2.result * (c.hp.result * c.n-2.result)) _ fits ∙ size

pub slice_bounds-fors-end-2 : goal.slice_bounds-fors-end-2
slice_bounds-fors-end-2 c =
    let fits : c.fors_sig_len.result ≤ 30720 = omega (arith, c.fors_sig_len.ensures, fors_few c.args.self.now.signing.trees.signer.now.public.set) in
    sym (length-take-le c.fors_sig_len.result _ fits)

pub slice_bounds-signed-end-2 : goal.slice_bounds-signed-end-2
slice_bounds-signed-end-2 c =
    let fits : c.d.result * c.n.result ≤ 2080 = rw (c.d.ensures, c.n.ensures) (signed_few c.args.self.now.signing.trees.signer.now.public.set) in
    sym (length-take-le (c.d.result * c.n.result) _ fits)

pub judge-requires-clause-sig_fors : goal.judge-requires-clause-sig_fors
judge-requires-clause-sig_fors c =
    let fits : c.fors_sig_len.result ≤ 30720 = omega (arith, c.fors_sig_len.ensures, fors_few c.args.self.now.signing.trees.signer.now.public.set) in
    length-take-le c.fors_sig_len.result _ fits ∙ c.fors_sig_len.ensures

pub judge-requires-clause-signed : goal.judge-requires-clause-signed
judge-requires-clause-signed c =
    let fits : c.d.result * c.n.result ≤ 2080 = rw (c.d.ensures, c.n.ensures) (signed_few c.args.self.now.signing.trees.signer.now.public.set) in
    let size : c.d.result * c.n.result ≡ (params c.args.self.now.signing.trees.signer.now.public.set).d * (params c.args.self.now.signing.trees.signer.now.public.set).n = rw (c.d.ensures, c.n.ensures) refl in
    length-take-le (c.d.result * c.n.result) _ fits ∙ size

pub invariant_of-judged-clause-sig_fors_len : goal.invariant_of-judged-clause-sig_fors_len
invariant_of-judged-clause-sig_fors_len c =
    let fits : c.fors_sig_len.result ≤ 30720 = omega (arith, c.fors_sig_len.ensures, fors_few c.args.self.now.signing.trees.signer.now.public.set) in
    c.judge.auto.sig_fors ∙ length-take-le c.fors_sig_len.result _ fits ∙ c.fors_sig_len.ensures

pub invariant_of-judged-clause-signed_len : goal.invariant_of-judged-clause-signed_len
invariant_of-judged-clause-signed_len c =
    let fits : c.d.result * c.n.result ≤ 2080 = rw (c.d.ensures, c.n.ensures) (signed_few c.args.self.now.signing.trees.signer.now.public.set) in
    let size : c.d.result * c.n.result ≡ (params c.args.self.now.signing.trees.signer.now.public.set).d * (params c.args.self.now.signing.trees.signer.now.public.set).n = rw (c.d.ensures, c.n.ensures) refl in
    c.judge.auto.signed ∙ length-take-le (c.d.result * c.n.result) _ fits ∙ size
