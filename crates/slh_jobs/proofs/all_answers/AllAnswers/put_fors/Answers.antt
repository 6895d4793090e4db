-- After each tree one part and one root more are written.
use Rattle.std.proofs.Common.{◌≡◌, ℕ, ◌+◌, ◌*◌, ◌<◌, ◌++◌, List, length, take, refl, arith, sym, ap, ◌∙◌}
use Rattle.slh_few.specs.Fors.{fors_part_len}
use Rattle.slh_few.proofs.Ends.{end_to_end-none, writes-more, chunk_fits, written_all}
use Rattle.slh_subtrees.specs.Assembled.{fors_part_by}
use Rattle.slh_subtrees.specs.declared.range.JobTree.TheVariants.{Fors}
use Rattle.slh_jobs.specs.AllAnswers.{params_in, answers_in}
use Rattle.slh_jobs.specs.Joined.{NodesFit}
use Rattle.slh_jobs.proofs.Indices.{below_more}
use Rattle.slh_jobs.proofs.all_answers.AllAnswers.put_fors.Goals as goal

pub put_fors_part_at-requires-clause-out : goal.put_fors_part_at-requires-clause-out
put_fors_part_at-requires-clause-out c =
    let p = params_in c.args.self.now in
    let b : c.loop-j.j < p.k = omega (arith, c.k-j-end.ensures) in
    let q : length c.loop-j.sig_fors ≡ p.k * fors_part_len p = omega (arith, c.requires.sig_fors) in
    rw c.fors_part_len-size.ensures.value (chunk_fits c.loop-j.j p.k (fors_part_len p) (length c.loop-j.sig_fors) b q)

pub put_node-requires : goal.put_node-requires
put_node-requires c =
    let p = params_in c.args.self.now in
    let b : c.loop-j.j < p.k = omega (arith, c.k-j-end.ensures) in
    let q : length c.loop-j.tops ≡ p.k * p.n = omega (arith, c.requires.tops) in
    rw (c.n-n.ensures, c.in-Some.ensures.len) (chunk_fits c.loop-j.j p.k p.n (length c.loop-j.tops) b q)

pub loop-j-init : goal.loop-j-init
loop-j-init c =
    let zero : 0 * fors_part_len (params_in c.args.self.now) ≡ 0 = omega arith in
    let none : 0 * (params_in c.args.self.now).n ≡ 0 = omega arith in (
      ap (λ k. take k c.args.sig_fors.now) zero ∙ sym (end_to_end-none _),
      λ i lt. absurd (omega (arith, lt)),
      λ i lt. absurd (omega (arith, lt)),
      ap (λ k. take k c.args.tops.now) none ∙ sym (end_to_end-none _),
      λ i lt. absurd (omega (arith, lt)),
    )

pub loop-j-preserved : goal.loop-j-preserved
loop-j-preserved c =
    let p = params_in c.args.self.now in
    let a = answers_in c.args.self.now in
    let n = fors_part_len p in
    let j = c.loop-j.j in
    let roots : ℕ → List ℕ = λ i. a.root (Fors i) in
    let part : ℕ → List ℕ = fors_part_by a in
    let Sized : ℕ → Type 0 = λ i. length (part i) ≡ n in
    let size : length (part j) ≡ n = c.in-Some.ensures.part_len refl in
    let put : take (j * n + n) c.put_fors_part_at.new.out ≡ take (j * n) c.loop-j.sig_fors ++ part j = rw c.fors_part_len-size.ensures.value at (c.in-Some.ensures.part refl) in
    let t = c.args.self.now.signing in
    let Tagged : ℕ → Type 0 = λ i. NodesFit t.levels t.sk.now t.start.now c.args.self.now.xmss.bytes.now (Fors i) in
    let Rooted : ℕ → Type 0 = λ i. length (roots i) ≡ p.n in
    let wide : length (roots j) ≡ p.n = ap length (sym c.in-Some.ensures.root) ∙ c.in-Some.ensures.len in
    let at : c.n-n.result ≡ p.n = c.n-n.ensures in
    let top : take (j * p.n + length c.in-Some.root.items) c.put_node.new.out ≡ take (j * p.n) c.loop-j.tops ++ c.in-Some.root.items = rw at at c.put_node.ensures.written in (
      writes-more part j n c.loop-j.sig_fors c.put_fors_part_at.new.out (part j) refl size c.loop-j.invariant.0 (ap (λ k. take (j * n + k) c.put_fors_part_at.new.out) size ∙ put),
      below_more Sized j c.loop-j.invariant.1 size,
      below_more Tagged j c.loop-j.invariant.2 (c.in-Some.ensures.tags.0 refl),
      writes-more roots j p.n c.loop-j.tops c.put_node.new.out c.in-Some.root.items c.in-Some.ensures.root c.in-Some.ensures.len c.loop-j.invariant.3 top,
      below_more Rooted j c.loop-j.invariant.4 wide,
    )

pub returns-clause-sig_fors : goal.returns-clause-sig_fors
returns-clause-sig_fors c = λ some.
    let p = params_in c.args.self.now in
    written_all _ p.k (fors_part_len p) c.loop-j.j c.loop-j.sig_fors (omega (arith, c.k-j-end.ensures)) (omega (arith, c.requires.sig_fors)) c.loop-j.invariant.0

pub returns-clause-tops : goal.returns-clause-tops
returns-clause-tops c = λ some.
    let p = params_in c.args.self.now in
    written_all _ p.k p.n c.loop-j.j c.loop-j.tops (omega (arith, c.k-j-end.ensures)) (omega (arith, c.requires.tops)) c.loop-j.invariant.3
