use Rattle.std.proofs.Common.{◌≡◌, ◌*◌, take}
use Rattle.slh_params.specs.ParamSet.{params}
use Rattle.slh_few.specs.Chunks.{end_to_end}
use Rattle.slh_few.specs.Fors.{fors_part, fors_part_len}
use Rattle.slh_few.proofs.context.SigningContext.fors_sign.Given as goal

abbrev pub invariant-loop-j : goal.invariant-loop-j
invariant-loop-j l = take (l.j * fors_part_len (params l.self.public.set)) l.out
    ≡ end_to_end (fors_part (params l.self.public.set) l.self.sk_seed.now l.self.public.pk_seed.now l.idx_tree l.idx_leaf l.md) l.j
