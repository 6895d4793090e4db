-- What `sign_join` says of the levels and the key holds of the numbers and bytes that they were made of.
use Rattle.std.proofs.Common.{◌≡◌, ◌↔◌, ℕ, List, subst, ◌∙◌, arith}
use Rattle.std.proofs.lemmas.Bool.{false≢true}
use Rattle.slh_jobs.specs.Jobs.{AreAnswers}
use Rattle.slh_jobs.specs.Starts.{start_by, IsStart}
use Rattle.slh_jobs.specs.declared.levels.Levels.{Levels}
use Rattle.slh_core.specs.Keys.{Key, public_of, IsGeneratedKey}
use Rattle.slh_core.specs.Signatures.{IsValid, signature_by}
use Rattle.slh_core.specs.declared.randomizer.Randomizer.{Randomizer}
use Rattle.slh_c.specs.Keys.{start_under, signature_under}
use Rattle.slh_c.proofs.Numbered.{with_levels}
use Rattle.slh_c.proofs.Begun.{of_bytes, start_of_bytes, signature_of_bytes}
use Rattle.slh_c.proofs.joining.slh_sign_join.Goals as goal

authentic : {sk sk' : Key} (start sig : List ℕ) → sk ≡ sk'
    → ((msg : List ℕ) (randomizer : Randomizer) → start ≡ start_by sk msg randomizer → IsValid (public_of sk) msg sig)
    → (msg bytes : List ℕ) → start ≡ start_under sk' msg bytes → IsValid (public_of sk') msg sig
authentic {sk} {sk'} start sig e valid msg bytes is =
    subst (λ k. (msg : List ℕ) (randomizer : Randomizer) → start ≡ start_by k msg randomizer → IsValid (public_of k) msg sig) e valid
    msg (of_bytes bytes) (is ∙ start_of_bytes sk' msg bytes)

signature : (c : Levels) {sk sk' : Key} (start answers sig : List ℕ) → sk ≡ sk'
    → ((msg : List ℕ) (randomizer : Randomizer) → start ≡ start_by sk msg randomizer → AreAnswers c sk start answers → sig ≡ signature_by sk msg randomizer)
    → (msg bytes : List ℕ) → start ≡ start_under sk' msg bytes → AreAnswers c sk' start answers → sig ≡ signature_under sk' msg bytes
signature c {sk} {sk'} start answers sig e made msg bytes is are =
    subst (λ k. (msg : List ℕ) (randomizer : Randomizer) → start ≡ start_by k msg randomizer → AreAnswers c k start answers → sig ≡ signature_by k msg randomizer) e made
    msg (of_bytes bytes) (is ∙ start_of_bytes sk' msg bytes) are
    ∙ signature_of_bytes sk' msg bytes

not_start : {sk sk' : Key} (start : List ℕ) {len refused : Type 0} → sk ≡ sk' → (refused ↔ (len × (IsStart sk start → ⊥)))
    → len → (IsStart sk' start → ⊥) → refused
not_start start e start_of there otherwise = start_of.1 (there, λ is. otherwise (subst (λ k. IsStart k start) e is))

right : (c : Levels) {sk sk' : Key} (start answers : List ℕ) {len ok : Type 0} → sk ≡ sk'
    → (IsGeneratedKey sk → IsStart sk start → AreAnswers c sk start answers → len → ok)
    → len → IsGeneratedKey sk' → IsStart sk' start → AreAnswers c sk' start answers → ok
right c start answers {len} {ok} e right_of there generated is are =
    subst (λ k. IsGeneratedKey k → IsStart k start → AreAnswers c k start answers → len → ok) e right_of generated is are there

pub returns-in-Ok-sign_join-clause-authentic : goal.returns-in-Ok-sign_join-clause-authentic
returns-in-Ok-sign_join-clause-authentic c = λ _. with_levels _ c.args.set c.args.xmss_levels c.args.fors_levels c.in-Ok.ensures.set c.in-Ok.ensures.levels
    (authentic c.args.start.now c.sign_join.new.out c.in-Ok.ensures.key c.in-Ok-sign_join.ensures.authentic)

pub returns-in-Ok-sign_join-clause-signature : goal.returns-in-Ok-sign_join-clause-signature
returns-in-Ok-sign_join-clause-signature c = λ _. with_levels _ c.args.set c.args.xmss_levels c.args.fors_levels c.in-Ok.ensures.set c.in-Ok.ensures.levels
    (signature c.in-Ok.value.0 c.args.start.now c.args.answers.now c.sign_join.new.out c.in-Ok.ensures.key c.in-Ok-sign_join.ensures.message)

pub returns-in-Err-AnswersDisagree-clause-start : goal.returns-in-Err-AnswersDisagree-clause-start
returns-in-Err-AnswersDisagree-clause-start c = λ _. with_levels _ c.args.set c.args.xmss_levels c.args.fors_levels c.in-Ok.ensures.set c.in-Ok.ensures.levels (
  λ e. absurd (omega (arith, c.number-in-Err-AnswersDisagree.ensures, e)),
  λ otherwise. let same = not_start c.args.start.now c.in-Ok.ensures.key c.in-Err-AnswersDisagree.ensures.start c.in-Ok.ensures.answers otherwise in absurd (cc),
)

pub returns-in-Err-AnswersDisagree-clause-right : goal.returns-in-Err-AnswersDisagree-clause-right
returns-in-Err-AnswersDisagree-clause-right c = λ _. with_levels _ c.args.set c.args.xmss_levels c.args.fors_levels c.in-Ok.ensures.set c.in-Ok.ensures.levels
    (λ generated is are. absurd (false≢true (right c.in-Ok.value.0 c.args.start.now c.args.answers.now c.in-Ok.ensures.key c.in-Err-AnswersDisagree.ensures.right c.in-Ok.ensures.answers generated is are)))
