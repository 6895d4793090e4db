-- After each tree one part and one root more are written.
use Rattle.std.proofs.Common.{◌≡◌, ℕ, ◌+◌, ◌*◌, ◌<◌, ◌++◌, List, length, take, refl, ap, sym, ◌∙◌, arith}
use Rattle.slh_params.specs.ParamSet.{params}
use Rattle.slh_few.specs.Fors.{fors_part_len}
use Rattle.slh_few.proofs.Ends.{end_to_end-none, writes-more, chunk_fits, written_all}
use Rattle.slh_subtrees.specs.Assembled.{fors_part_by}
use Rattle.slh_subtrees.specs.declared.range.JobTree.TheVariants.{Fors}
use Rattle.slh_subtrees.proofs.answers.put_fors_parts.Goals as goal

pub put_fors_part-root-requires-clause-out : goal.put_fors_part-root-requires-clause-out
put_fors_part-root-requires-clause-out g c =
    let p = params c.args.set in
    let b : c.loop-j.j < p.k = omega (arith, c.k-j-end.ensures) in
    let q : length c.loop-j.out ≡ p.k * fors_part_len p = omega (arith, c.requires.out) in
    rw c.fors_part_len-size.ensures.value (chunk_fits c.loop-j.j p.k (fors_part_len p) (length c.loop-j.out) b q)

pub put_node-requires : goal.put_node-requires
put_node-requires g c =
    let p = params c.args.set in
    let b : c.loop-j.j < p.k = omega (arith, c.k-j-end.ensures) in
    let q : length c.loop-j.roots ≡ p.k * p.n = omega (arith, c.requires.roots) in
    rw (c.n-n.ensures, c.put_fors_part-root.ensures.len) (chunk_fits c.loop-j.j p.k p.n (length c.loop-j.roots) b q)

pub loop-j-init : goal.loop-j-init
loop-j-init g c =
    let zero : 0 * fors_part_len (params c.args.set) ≡ 0 = omega arith in
    let none : 0 * (params c.args.set).n ≡ 0 = omega arith in (
      ap (λ k. take k c.args.out.now) zero ∙ sym (end_to_end-none _),
      ap (λ k. take k c.args.roots.now) none ∙ sym (end_to_end-none _),
    )

pub loop-j-preserved : goal.loop-j-preserved
loop-j-preserved g c =
    let a = g.A.Answers.says c.args.answers.now in
    let p = params c.args.set in
    let n = fors_part_len p in
    let j = c.loop-j.j in
    let part : ℕ → List ℕ = fors_part_by a in
    let roots : ℕ → List ℕ = λ i. a.root (Fors i) in
    let size : length (part j) ≡ n = c.put_fors_part-root.ensures.part_len in
    let put : take (j * n + n) c.put_fors_part-root.new.out ≡ take (j * n) c.loop-j.out ++ part j =
    rw c.fors_part_len-size.ensures.value at c.put_fors_part-root.ensures.part in
    let root : List ℕ = c.put_fors_part-root.result.items in
    let top : take (j * p.n + length root) c.put_node.new.out ≡ take (j * p.n) c.loop-j.roots ++ root =
    rw c.n-n.ensures at c.put_node.ensures.written in (
      writes-more part j n c.loop-j.out c.put_fors_part-root.new.out (part j) refl size c.loop-j.invariant.0
          (ap (λ k. take (j * n + k) c.put_fors_part-root.new.out) size ∙ put),
      writes-more roots j p.n c.loop-j.roots c.put_node.new.out root c.put_fors_part-root.ensures.root c.put_fors_part-root.ensures.len c.loop-j.invariant.1 top,
    )

pub returns-clause-sig_fors : goal.returns-clause-sig_fors
returns-clause-sig_fors g c =
    let p = params c.args.set in
    written_all _ p.k (fors_part_len p) c.loop-j.j c.loop-j.out (omega (arith, c.k-j-end.ensures)) (omega (arith, c.requires.out)) c.loop-j.invariant.0

pub returns-clause-roots : goal.returns-clause-roots
returns-clause-roots g c =
    let p = params c.args.set in
    written_all _ p.k p.n c.loop-j.j c.loop-j.roots (omega (arith, c.k-j-end.ensures)) (omega (arith, c.requires.roots)) c.loop-j.invariant.1
