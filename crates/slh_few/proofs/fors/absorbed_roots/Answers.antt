-- After each turn T's stream has absorbed one root more.
use Rattle.std.proofs.Common.{◌≡◌, ℕ, List, ◌^◌, ◌<◌, ap, sym, subst, ◌∙◌, arith}
use Rattle.std.proofs.Math.Logic.{∥∥₁_elim, ∥∥₁_map}
use Rattle.std.proofs.Props.{props}
use Rattle.slh_params.specs.Address.{address}
use Rattle.slh_params.specs.ParamSet.{params}
use Rattle.slh_hash.specs.Hash.{T}
use Rattle.slh_few.specs.Chunks.{end_to_end, chunk}
use Rattle.slh_few.specs.Fors.{fors_root, fors_part_len, fors_pk_from_sig}
use Rattle.slh_few.specs.Trees.{fors_joins_of}
use Rattle.slh_few.proofs.Ends.{end_to_end-more, end_to_end-none}
use Rattle.slh_few.proofs.ForsLaw.{index_lt}
use Rattle.slh_few.proofs.fors.absorbed_roots.Goals as goal

pub loop-j-init : goal.loop-j-init
loop-j-init c =
    let a = c.args in
    let p = params a.context.now.set in
    let f : ℕ → List ℕ = λ j. fors_root p a.context.now.pk_seed.now a.idx_tree a.idx_leaf a.md.now j (chunk (fors_part_len p) a.sig.now j) in
    rw (end_to_end-none f) (rw c.fors_adrs.ensures at c.t_stream-stream.ensures)

pub root_at-requires-clause-leaf : goal.root_at-requires-clause-leaf
root_at-requires-clause-leaf c =
    let p = params c.args.context.now.set in
    let At : ℕ → Type 0 = λ i. i < 2 ^ p.a in
    let b : c.loop-j.j < p.k = omega (arith, c.k-j-end.ensures) in
    subst At (sym (c.fors_indices-indices.ensures.indices c.loop-j.j b)) (index_lt p c.args.md.now c.loop-j.j)

pub loop-j-preserved : goal.loop-j-preserved
unfolding fors_joins_of
loop-j-preserved c =
    let a = c.args in
    let p = params a.context.now.set in
    let pk = a.context.now.pk_seed.now in
    let j = c.loop-j.j in
    let f : ℕ → List ℕ = λ j. fors_root p pk a.idx_tree a.idx_leaf a.md.now j (chunk (fors_part_len p) a.sig.now j) in
    let b : c.loop-j.j < p.k = omega (arith, c.k-j-end.ensures) in
    let own : c.root_at.result.items ≡ f j = rw (c.fors_indices-indices.ensures.indices j b) at c.root_at.ensures in
    ∥∥₁_map c.loop-j.invariant (λ h. rw (end_to_end-more f j) (rw own at c.absorb.ensures _ _ _ _ h))

pub returns-clause-value : goal.returns-clause-value
unfolding fors_pk_from_sig
returns-clause-value c =
    let a = c.args in
    let p = params a.context.now.set in
    let pk = a.context.now.pk_seed.now in
    let f : ℕ → List ℕ = λ j. fors_root p pk a.idx_tree a.idx_leaf a.md.now j (chunk (fors_part_len p) a.sig.now j) in
    let all : c.loop-j.j ≡ p.k = omega (arith, c.k-j-end.ensures, c.loop-j-test.false) in
    ∥∥₁_elim c.loop-j.invariant (hlevel props) (λ h.
    c.finish.ensures.value _ _ _ _ h ∙ ap (λ k. T p pk (address 0 a.idx_tree 4 a.idx_leaf 0 0) (end_to_end f k)) all)

pub returns-clause-len : goal.returns-clause-len
returns-clause-len c = ∥∥₁_elim c.loop-j.invariant (hlevel props) (λ h. c.finish.ensures.len _ _ _ _ h)
