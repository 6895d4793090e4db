-- Right answers have their tags, and give the key's root.
use Rattle.std.proofs.Common.{◌≡◌, ℕ, List, ◌++◌, rules, ap, sym, subst, ◌∙◌}
use Rattle.std.specs.Option.{IsSome}
use Rattle.slh_core.specs.Keys.{Key, IsGeneratedKey}
use Rattle.slh_core.proofs.Parts.{generated}
use Rattle.slh_jobs.specs.KeyJobs.{key_root}
use Rattle.slh_jobs.proofs.KeyLaw.{keys_tagged, key_root-right}
use Rattle.slh_jobs.proofs.generation.keygen_join.Goals as goal

pub returns-in_default-clause-right : goal.returns-in_default-clause-right
returns-in_default-clause-right c = λ are len.
    let fits : IsSome c.judged_root.result = c.judged_root.ensures.fit.1 (keys_tagged c.args.levels.now c.args.sk_seed.now c.args.sk_prf.now c.args.pk_seed.now c.args.answers.now are) in
    search rules

pub returns-clause-key : goal.returns-clause-key
returns-clause-key c = λ are.
    let l = c.args.levels.now in
    let sk : List ℕ = c.args.sk_seed.now in
    let prf : List ℕ = c.args.sk_prf.now in
    let pk : List ℕ = c.args.pk_seed.now in
    let given : c.deref.result.now ≡ key_root l sk pk c.args.answers.now = search rules in
    let Made : List ℕ → Key = λ xs. record { set = l.set; bytes = sk ++ prf ++ pk ++ xs } in
    c.from_parts.ensures ∙ ap Made (given ∙ key_root-right l sk prf pk c.args.answers.now are)

pub returns-clause-generated : goal.returns-clause-generated
returns-clause-generated c = λ are.
    subst (λ (k : Key). IsGeneratedKey k) (sym (returns-clause-key c are))
    (generated c.args.levels.now.set c.args.sk_seed.now c.args.sk_prf.now c.args.pk_seed.now c.requires.sk_seed c.requires.sk_prf c.requires.pk_seed)
