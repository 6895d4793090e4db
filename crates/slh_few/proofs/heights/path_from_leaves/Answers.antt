-- At each height the path has one node more, and the nodes of the next height stand in front.
use Rattle.std.proofs.Common.{◌≡◌, ℕ, ◌-◌, ◌/◌, ◌^◌, ◌<◌, bit_xor, length, sym, subst, ◌∙◌, inl, inr, arith}
use Rattle.std.proofs.lemmas.Bool.{cases_lt}
use Rattle.slh_tree.specs.Tree.{sibling}
use Rattle.slh_tree.proofs.Authentic.{node-leaf}
use Rattle.slh_few.specs.Chunks.{chunk}
use Rattle.slh_few.proofs.Ends.{path_below-siblings}
use Rattle.slh_few.proofs.ChunkWrites.{all_chunks}
use Rattle.slh_few.proofs.HeightNodes.{height_fits, height_up, sibling_below, sibling_fits}
use Rattle.slh_few.proofs.heights.path_from_leaves.Goals as goal

pub loop-z-init : goal.loop-z-init
loop-z-init g c =
    let t = g.T.Climbs.tree c.args.tree.now in
    let whole : t.height - 0 ≡ t.height = omega arith in
    record {
      nodes = λ i lt. c.requires.leaves i (subst (λ (h : ℕ). i < 2 ^ h) whole lt) ∙ sym (node-leaf t i);
      path = λ i lt. absurd (omega (arith, lt));
    }

pub chunk_at-requires : goal.chunk_at-requires
chunk_at-requires g c =
    let t = g.T.Climbs.tree c.args.tree.now in
    sibling_fits c.args.idx t.height c.loop-z.z c.args.n (length c.loop-z.nodes) c.requires.index
    (omega (arith, c.height-z-end.ensures.value)) (omega (arith, c.requires.len))

pub put_height-requires-clause-nodes : goal.put_height-requires-clause-nodes
put_height-requires-clause-nodes g c =
    let t = g.T.Climbs.tree c.args.tree.now in
    height_fits t.height c.loop-z.z c.args.n (length c.loop-z.nodes) (omega (arith, c.height-z-end.ensures.value)) (omega (arith, c.requires.len))

pub loop-z-preserved : goal.loop-z-preserved
loop-z-preserved g c =
    let t = g.T.Climbs.tree c.args.tree.now in
    let z : ℕ = c.loop-z.z in
    let high : z < t.height = omega (arith, c.height-z-end.ensures.value) in
    let own = sibling_below c.args.idx t.height z c.requires.index high in
    record {
      nodes = height_up t c.args.n z t.height c.loop-z.nodes c.put_height.new.nodes high c.put_height.ensures c.loop-z.invariant.nodes;
      path = λ i lt. elim (cases_lt i z) [
        | inl less ↦ c.put_chunk.ensures.others i (λ e. omega (arith, e, less)) ∙ c.loop-z.invariant.path i less
        | inr ge ↦
            let same : z ≡ i = omega (arith, lt, ge) in
            subst (λ (k : ℕ). chunk c.args.n c.put_chunk.new.bytes k ≡ sibling t c.args.idx k) same
            (c.put_chunk.ensures.set ∙ c.chunk_at.ensures.value ∙ c.loop-z.invariant.nodes (bit_xor (c.args.idx / 2 ^ z) 1) own)
      ];
    }

pub returns-clause-path : goal.returns-clause-path
returns-clause-path g c =
    let t = g.T.Climbs.tree c.args.tree.now in
    let all : c.loop-z.z ≡ t.height = omega (arith, c.height-z-end.ensures.value) in
    all_chunks (sibling t c.args.idx) c.args.n t.height c.loop-z.out (omega (arith, c.requires.out))
    (λ i lt. c.loop-z.invariant.path i (omega (arith, lt, all)))
    ∙ sym (path_below-siblings t c.args.idx t.height)
