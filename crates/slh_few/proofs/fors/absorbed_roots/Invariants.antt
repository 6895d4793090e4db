use Rattle.slh_params.specs.Address.{address}
use Rattle.slh_params.specs.ParamSet.{params}
use Rattle.slh_hash.specs.Stream.{HasAbsorbed}
use Rattle.slh_few.specs.Chunks.{end_to_end, chunk}
use Rattle.slh_few.specs.Fors.{fors_root, fors_part_len}
use Rattle.slh_few.proofs.fors.absorbed_roots.Given as goal

abbrev pub invariant-loop-j : goal.invariant-loop-j
invariant-loop-j l =
    let p = params l.context.set in
    let pk = l.context.pk_seed.now in
    ∥ HasAbsorbed l.stream p pk (address 0 l.idx_tree 4 l.idx_leaf 0 0)
    (end_to_end (λ j. fors_root p pk l.idx_tree l.idx_leaf l.md j (chunk (fors_part_len p) l.sig j)) l.j) ∥₁
