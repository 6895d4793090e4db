-- Each turn answers about the next item.
use Rattle.std.proofs.Common.{◌≡◌, ◌↔◌, ◌∙◌, ◌+◌, ◌∷◌, ◌++◌, [], ◌<◌, IsTrue, get_or, length, ap, sym, subst, arith, rules}
use Rattle.std.proofs.lemmas.List.{length_push}
use Rattle.slh_workers.proofs.ItemAnswers.{Answered, answered_all, answered_one}
use Rattle.slh_par.specs.Verdicts.{IsVerified}
use Rattle.slh_par.proofs.verifying.verdicts_one_by_one.Goals as goal

pub loop-item-preserved : goal.loop-item-preserved
loop-item-preserved g c =
    let items = c.args.items.now in
    let answers = c.loop-item.answers.items in
    let answer = c.is_valid.result in
    let i = c.loop-item.item-index in
    let count : length answers ≡ i = c.loop-item.invariant.0 in
    let below : i < length items = search rules in
    let here : get_or items i c.item-item.result ≡ c.item-item.result = search rules in
    let pushed : c.push.new.self.items ≡ answers ++ answer ∷ [] = search rules in (
      ap length pushed ∙ length_push answers answer ∙ ap (λ n. n + 1) count,
      subst (λ xs. Answered (λ item answer. IsTrue answer ↔ IsVerified item) items xs) (sym pushed)
          (answered_one (λ item answer. IsTrue answer ↔ IsVerified item) items answers i c.item-item.result answer c.loop-item.invariant.1 count below (rw here c.is_valid.ensures)),
    )

pub returns : goal.returns
returns g c = answered_all _ c.args.items.now c.loop-item.answers.items c.loop-item.invariant.1 (search (rules, arith))
