-- The roots of the first group stand before those of the second.
use Rattle.std.proofs.Common.{[], ◌≡◌, ℕ, ◌+◌, ◌<◌, ◌≤◌, List, arith, ap, sym, ◌∙◌}
use Rattle.std.proofs.Math.Nat.{mul-le-mul_right}
use Rattle.slh_params.specs.ParamSet.{params}
use Rattle.slh_lanes.specs.Lanes.{group, value_at}
use Rattle.slh_few.specs.Chunks.{chunk}
use Rattle.slh_few.specs.ForsRoots.{node_given, root_given}
use Rattle.slh_few.specs.declared.fors_tree.ForsPlace.{ForsPlace}
use Rattle.slh_few.proofs.lanes.fors_climbs.put_roots.Goals as goal

pub put_nodes-requires-2-clause-out : goal.put_nodes-requires-2-clause-out
put_nodes-requires-2-clause-out c =
    let y = c.new-y.result in
    let p = params c.args.lanes.now.set in
    let after = ap (λ (t : ForsPlace). t.tree_no) c.new-y.ensures.first in
    let all : y.first.tree_no + y.used ≤ p.k = omega (arith, after, c.new-y.ensures.used, c.min-x_used.ensures, c.requires.trees) in
    rw c.n-2.ensures (omega (arith, mul-le-mul_right p.n all, c.requires.out, c.put_nodes.auto.out))

pub returns : goal.returns
returns c = λ before.
    let x = c.new-x.result in
    let y = c.new-y.result in
    let p = params c.args.lanes.now.set in
    let pk = c.args.lanes.now.pk_seed.now in
    let indices = c.args.indices.now in
    let sig = c.args.sig.now in
    let f : ℕ → List ℕ = root_given p [] pk c.args.first.idx_tree c.args.first.idx_leaf indices sig in
    let all : c.loop-z.z ≡ p.a = omega (arith, c.a-z-end.ensures) in
    let x_is = c.new-x.ensures.first in
    let y_is = c.new-y.ensures.first in
    let x_at = ap (λ (t : ForsPlace). t.tree_no) x_is in
    let y_at = ap (λ (t : ForsPlace). t.tree_no) y_is in
    let x_roots : (j : ℕ) → j < x.used → value_at (group c.loop-z.nodes 0) j c.n.result ≡ f (x.first.tree_no + j) = λ j low.
    ap (value_at (group c.loop-z.nodes 0) j) c.n.ensures ∙ c.loop-z.invariant.x j low
    ∙ (λ q. node_given p [] pk (x_is q).idx_tree (x_is q).idx_leaf indices sig (all q) (x.first.tree_no + j)) in
    let y_roots : (j : ℕ) → j < y.used → value_at (group c.loop-z.nodes 1) j c.n-2.result ≡ f (y.first.tree_no + j) = λ j low.
    ap (value_at (group c.loop-z.nodes 1) j) c.n-2.ensures ∙ c.loop-z.invariant.y j low
    ∙ (λ q. node_given p [] pk (y_is q).idx_tree (y_is q).idx_leaf indices sig (all q) (y.first.tree_no + j)) in
    let first = c.put_nodes.ensures f x_roots (λ i low. ap (λ (n : ℕ). chunk n c.args.out.now i) c.n.ensures ∙ before i (omega (arith, low, x_at))) in
    let both = c.put_nodes-2.ensures f y_roots (λ i low.
    ap (λ (n : ℕ). chunk n c.put_nodes.new.out i) (c.n-2.ensures ∙ sym c.n.ensures)
    ∙ first i (omega (arith, low, x_at, y_at, c.new-x.ensures.used))) in
    λ i low.
    ap (λ (n : ℕ). chunk n c.put_nodes-2.new.out i) (sym c.n-2.ensures)
    ∙ both i (omega (arith, low, y_at, c.new-y.ensures.used, c.min-x_used.ensures))
