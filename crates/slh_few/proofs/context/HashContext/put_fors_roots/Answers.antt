-- After each tree one root more stands at its place.
use Rattle.std.proofs.Common.{◌≡◌, ℕ, ◌^◌, ◌<◌, length, ap, sym, subst, ◌∙◌, inl, inr, arith}
use Rattle.std.proofs.lemmas.Bool.{cases_lt}
use Rattle.slh_params.specs.ParamSet.{params}
use Rattle.slh_few.specs.Chunks.{chunk}
use Rattle.slh_few.specs.Fors.{fors_root, fors_part_len}
use Rattle.slh_few.proofs.ForsClimb.{length-climbed}
use Rattle.slh_few.proofs.ForsLaw.{index_lt}
use Rattle.slh_few.proofs.ChunkWrites.{all_chunks}
use Rattle.slh_few.specs.Trees.{fors_joins_of}
use Rattle.slh_few.proofs.context.HashContext.put_fors_roots.Goals as goal

pub put_first_roots-done-requires-clause-leaves : goal.put_first_roots-done-requires-clause-leaves
put_first_roots-done-requires-clause-leaves c = λ j.
    let p = params c.args.self.now.set in
    let At : ℕ → Type 0 = λ i. i < 2 ^ p.a in
    elim (cases_lt j p.k) [
      | inl lt ↦ subst At (sym (c.fors_indices-indices.ensures.indices j lt)) (index_lt p c.args.md.now j)
      | inr ge ↦ omega (arith, c.fors_indices-indices.ensures.rest j ge, index_lt p c.args.md.now j)
    ]

pub root_at-root-requires-clause-leaf : goal.root_at-root-requires-clause-leaf
root_at-root-requires-clause-leaf c =
    let p = params c.args.self.now.set in
    let At : ℕ → Type 0 = λ i. i < 2 ^ p.a in
    let b : c.loop-j.j < p.k = omega (arith, c.k-j-end.ensures) in
    subst At (sym (c.fors_indices-indices.ensures.indices c.loop-j.j b)) (index_lt p c.args.md.now c.loop-j.j)

pub put_chunk-requires-clause-value : goal.put_chunk-requires-clause-value
unfolding fors_joins_of
put_chunk-requires-clause-value c =
    let s = c.args.self.now.set in
    let p = params s in
    let pk = c.args.self.now.pk_seed.now in
    let j = c.loop-j.j in
    let b : c.loop-j.j < p.k = omega (arith, c.k-j-end.ensures) in
    let x : c.root_at-root.result.items ≡ fors_root p pk c.args.idx_tree c.args.idx_leaf c.args.md.now j (chunk (fors_part_len p) c.args.sig.now j) =
    rw (c.fors_indices-indices.ensures.indices j b) at c.root_at-root.ensures in
    ap length (c.deref.ensures.0 ∙ x) ∙ length-climbed s _ pk c.args.idx_tree c.args.idx_leaf j _ _ p.a ∙ sym c.n.ensures

pub returns : goal.returns
returns c =
    let p = params c.args.self.now.set in
    all_chunks _ p.n p.k c.loop-j.out (omega (arith, c.requires.out))
    (λ i low. c.loop-j.invariant i (omega (arith, low, c.k-j-end.ensures, c.loop-j-test.false)))
