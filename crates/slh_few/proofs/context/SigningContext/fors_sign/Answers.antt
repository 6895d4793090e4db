-- After each tree the first parts of the signature are written.
use Rattle.std.proofs.Common.{◌≡◌, ℕ, ◌+◌, ◌*◌, ◌^◌, ◌<◌, ◌++◌, length, take, refl, ap, sym, subst, ◌∙◌, arith}
use Rattle.slh_params.specs.ParamSet.{params}
use Rattle.slh_few.specs.Fors.{fors_part, fors_part_len, fors_sig, fors_pk_from_sig}
use Rattle.slh_params.proofs.Bounds.{k_high}
use Rattle.slh_few.proofs.Ends.{end_to_end-none, writes-more, chunk_fits, written_all}
use Rattle.slh_few.proofs.ForsLaw.{index_lt, length-fors_part, fors_pk_from_sig-fors_sig}
use Rattle.slh_few.specs.Trees.{fors_nodes_of}
use Rattle.slh_few.proofs.context.SigningContext.fors_sign.Goals as goal

pub bounds-indices-j : goal.bounds-indices-j
bounds-indices-j c = omega (arith, c.k-j-end.ensures, k_high c.args.self.now.public.set)

pub put_fors_part-requires-clause-leaf : goal.put_fors_part-requires-clause-leaf
put_fors_part-requires-clause-leaf c =
    let p = params c.args.self.now.public.set in
    let At : ℕ → Type 0 = λ i. i < 2 ^ p.a in
    let b : c.loop-j.j < p.k = omega (arith, c.k-j-end.ensures) in
    (subst At (sym (c.fors_indices-indices.ensures.indices c.loop-j.j b)) (index_lt p c.args.md.now c.loop-j.j))

pub put_fors_part-requires-clause-out : goal.put_fors_part-requires-clause-out
put_fors_part-requires-clause-out c =
    let p = params c.args.self.now.public.set in
    let b : c.loop-j.j < p.k = omega (arith, c.k-j-end.ensures) in
    let q : length c.loop-j.out ≡ p.k * fors_part_len p = omega (arith, c.requires.out) in
    rw c.fors_part_len-size.ensures.value (chunk_fits c.loop-j.j p.k (fors_part_len p) (length c.loop-j.out) b q)

pub loop-j-init : goal.loop-j-init
loop-j-init c =
    let zero : 0 * fors_part_len (params c.args.self.now.public.set) ≡ 0 = omega arith in
    ap (λ k. take k c.args.out.now) zero ∙ sym (end_to_end-none _)

pub loop-j-preserved : goal.loop-j-preserved
unfolding fors_nodes_of
loop-j-preserved c =
    let s = c.args.self.now.public.set in
    let p = params s in
    let sk = c.args.self.now.sk_seed.now in
    let pk = c.args.self.now.public.pk_seed.now in
    let md = c.args.md.now in
    let j = c.loop-j.j in
    let size = length-fors_part s sk pk c.args.idx_tree c.args.idx_leaf md j in
    let b : c.loop-j.j < p.k = omega (arith, c.k-j-end.ensures) in
    let put : take (j * fors_part_len p + fors_part_len p) c.put_fors_part.new.out ≡ take (j * fors_part_len p) c.loop-j.out ++ fors_part p sk pk c.args.idx_tree c.args.idx_leaf md j =
    rw (c.fors_indices-indices.ensures.indices c.loop-j.j b, c.fors_part_len-size.ensures.value) at c.put_fors_part.ensures in
    writes-more (fors_part p sk pk c.args.idx_tree c.args.idx_leaf md) j (fors_part_len p) c.loop-j.out c.put_fors_part.new.out (fors_part p sk pk c.args.idx_tree c.args.idx_leaf md j)
    refl size c.loop-j.invariant (ap (λ k. take (j * fors_part_len p + k) c.put_fors_part.new.out) size ∙ put)

pub returns-clause-signature : goal.returns-clause-signature
unfolding fors_sig
returns-clause-signature c =
    let p = params c.args.self.now.public.set in
    written_all _ p.k (fors_part_len p) c.loop-j.j c.loop-j.out (omega (arith, c.k-j-end.ensures)) (omega (arith, c.requires.out)) c.loop-j.invariant

pub returns-clause-key : goal.returns-clause-key
returns-clause-key c =
    let s = c.args.self.now.public.set in
    let pk = c.args.self.now.public.pk_seed.now in
    ap (fors_pk_from_sig (params s) pk c.args.idx_tree c.args.idx_leaf c.args.md.now) (returns-clause-signature c)
    ∙ fors_pk_from_sig-fors_sig s c.args.self.now.sk_seed.now pk c.args.idx_tree c.args.idx_leaf c.args.md.now
