-- The two strings of roots are the same exactly where each root is.
use Rattle.std.proofs.Common.{◌≡◌, ℕ, ◌*◌, ◌<◌, ◌≤◌, List, length, length-take-le, refl, ap, sym, ◌∙◌, arith}
use Rattle.std.proofs.Math.Nat.{mul-le-mul}
use Rattle.slh_params.specs.declared.param_set.ParamSet.{ParamSet}
use Rattle.slh_params.specs.ParamSet.{params}
use Rattle.slh_params.proofs.Bounds.{k_high, n_high}
use Rattle.slh_few.specs.Fors.{fors_part_len, fors_root}
use Rattle.slh_few.specs.Chunks.{end_to_end, chunk}
use Rattle.slh_few.proofs.Ends.{length-end_to_end, chunk-end_to_end, end_to_end-same}
use Rattle.slh_few.proofs.ForsClimb.{length-climbed}
use Rattle.slh_subtrees.specs.Assembled.{fors_part_by}
use Rattle.slh_subtrees.specs.declared.range.JobTree.TheVariants.{Fors}
use Rattle.slh_jobs.specs.AllAnswers.{params_in, source_in, answers_in}
use Rattle.slh_jobs.proofs.all_answers.AllAnswers.fors_roots_fit.Goals as goal

few : (s : ParamSet) (len : ℕ) → len ≡ (params s).k * (params s).n → len ≤ 2048
few s len is = omega (arith, is, mul-le-mul {n₂ = 64} {m₂ = 32} (k_high s) (n_high s))

pub slice_bounds-climbed-end : goal.slice_bounds-climbed-end
slice_bounds-climbed-end c =
    sym (length-take-le (length c.args.tops.now) _ (few c.args.self.now.signing.trees.signer.now.public.set (length c.args.tops.now) c.requires.len))

pub put_fors_roots-requires-clause-sig : goal.put_fors_roots-requires-clause-sig
put_fors_roots-requires-clause-sig c =
    let p = params_in c.args.self.now in
    let size : length c.args.sig_fors.now ≡ p.k * fors_part_len p =
    ap length c.requires.sig_fors ∙ length-end_to_end (fors_part_by (answers_in c.args.self.now)) (fors_part_len p) p.k c.requires.parts in
    size

pub put_fors_roots-requires-clause-out : goal.put_fors_roots-requires-clause-out
put_fors_roots-requires-clause-out c =
    length-take-le (length c.args.tops.now) _ (few c.args.self.now.signing.trees.signer.now.public.set (length c.args.tops.now) c.requires.len) ∙ c.requires.len

pub returns : goal.returns
returns c =
    let x = c.args.self.now in
    let p = params_in x in
    let s = source_in x in
    let own : ℕ → List ℕ = fors_part_by (answers_in x) in
    let roots : ℕ → List ℕ = λ j. (answers_in x).root (Fors j) in
    let Root : ℕ → List ℕ → List ℕ = λ j xs. fors_root p s.pk_seed s.idx_tree s.idx_leaf s.md j xs in
    let given : ℕ → List ℕ = λ j. Root j (chunk (fors_part_len p) c.args.sig_fors.now j) in
    let wide : (j : ℕ) → j < p.k → length (given j) ≡ p.n = λ j lt. length-climbed s.set _ s.pk_seed s.idx_tree s.idx_leaf j _ _ p.a in
    let same : (j : ℕ) → j < p.k → given j ≡ Root j (own j) = λ j lt.
    ap (Root j) (ap (λ (xs : List ℕ). chunk (fors_part_len p) xs j) c.requires.sig_fors ∙ chunk-end_to_end own (fors_part_len p) p.k j lt c.requires.parts) in
    let climbed : c.put_fors_roots.new.out ≡ end_to_end given p.k = c.put_fors_roots.ensures in (
      λ yes j lt.
          sym (same j lt) ∙ sym (chunk-end_to_end given p.n p.k j lt wide)
          ∙ ap (λ (xs : List ℕ). chunk p.n xs j) (sym climbed ∙ c.are_same.ensures.0 yes ∙ c.requires.tops)
          ∙ chunk-end_to_end roots p.n p.k j lt c.requires.widths,
      λ fit. c.are_same.ensures.1 (climbed ∙ end_to_end-same given roots p.k (λ j lt. same j lt ∙ fit j lt) ∙ sym c.requires.tops),
    )
