-- What `sign_job` says of the levels and the key holds of the numbers and bytes that they were made of.
use Rattle.std.proofs.Common.{◌≡◌, ℕ, List, refl, sym, subst, arith}
use Rattle.std.proofs.lemmas.Bool.{false≢true}
use Rattle.slh_jobs.specs.Jobs.{answer_of}
use Rattle.slh_jobs.specs.Starts.{IsStart}
use Rattle.slh_core.specs.Keys.{Key}
use Rattle.slh_c.proofs.Numbered.{with_levels}
use Rattle.slh_c.proofs.jobs.slh_sign_job.Goals as goal

begun_under : {sk sk' : Key} (start : List ℕ) → sk ≡ sk' → IsStart sk start → IsStart sk' start
begun_under start e is = subst (λ (k : Key). IsStart k start) e is

pub returns-in-Ok-sign_job-clause-start : goal.returns-in-Ok-sign_job-clause-start
returns-in-Ok-sign_job-clause-start c = λ _. with_levels _ c.args.set c.args.xmss_levels c.args.fors_levels c.in-Ok.ensures.set c.in-Ok.ensures.levels (
  λ e. absurd (omega (arith, e)),
  λ otherwise. absurd (otherwise (begun_under c.args.start.now c.in-Ok.ensures.key (c.in-Ok-sign_job.ensures.accepted.0 refl))),
)

pub returns-in-Ok-sign_job-clause-accepted : goal.returns-in-Ok-sign_job-clause-accepted
returns-in-Ok-sign_job-clause-accepted c = λ _. with_levels _ c.args.set c.args.xmss_levels c.args.fors_levels c.in-Ok.ensures.set c.in-Ok.ensures.levels
    (λ _. begun_under c.args.start.now c.in-Ok.ensures.key (c.in-Ok-sign_job.ensures.accepted.0 refl), λ _. refl)

pub returns-in-Ok-sign_job-clause-written : goal.returns-in-Ok-sign_job-clause-written
returns-in-Ok-sign_job-clause-written c = λ _. with_levels _ c.args.set c.args.xmss_levels c.args.fors_levels c.in-Ok.ensures.set c.in-Ok.ensures.levels
    (subst (λ (k : Key). c.sign_job.new.answer ≡ answer_of c.in-Ok.value.0 k c.args.start.now c.args.job) c.in-Ok.ensures.key c.in-Ok-sign_job.ensures.answer)

pub returns-in-Err-sign_job-clause-start : goal.returns-in-Err-sign_job-clause-start
returns-in-Err-sign_job-clause-start c = λ _. with_levels _ c.args.set c.args.xmss_levels c.args.fors_levels c.in-Ok.ensures.set c.in-Ok.ensures.levels (
  λ _ is. false≢true (c.in-Err-sign_job.ensures.accepted.1 (begun_under c.args.start.now (sym c.in-Ok.ensures.key) is)),
  λ _. c.number-in-Err-sign_job.ensures,
)

pub returns-in-Err-sign_job-clause-accepted : goal.returns-in-Err-sign_job-clause-accepted
returns-in-Err-sign_job-clause-accepted c = λ _. with_levels _ c.args.set c.args.xmss_levels c.args.fors_levels c.in-Ok.ensures.set c.in-Ok.ensures.levels (
  λ e. absurd (omega (arith, c.number-in-Err-sign_job.ensures, e)),
  λ is. absurd (false≢true (c.in-Err-sign_job.ensures.accepted.1 (begun_under c.args.start.now (sym c.in-Ok.ensures.key) is))),
)
