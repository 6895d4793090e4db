use Rattle.std.proofs.Common.{◌≡◌, ℕ, ◌*◌, List, sym, ap, ap₂, ◌∙◌, arith}
use Rattle.std.proofs.lemmas.List.{length-map}
use Rattle.std.specs.Int.{w64}
use Rattle.sha2.specs.Sha512.{rounds, schedule}
use Rattle.slh_lanes.specs.Columns.{column}
use Rattle.slh_lanes.specs.Laws512 as laws
use Rattle.slh_lanes.specs.Sha2.{add_state}
use Rattle.slh_lanes.proofs.Quads.{below_one}
use Rattle.slh_lanes.proofs.WindowPlace.{at_same}
use Rattle.slh_lanes.proofs.single_long_block.InstructionsCompressionLongWord.compress.Goals as goal

pub schedule-init : goal.schedule-init
schedule-init c = λ b words. (
  laws.first_window b (column 0 c.args.block.now) (length-map _ _ ∙ c.told-block) words,
  c.first_rounds-v.ensures b words ∙ ap (λ (h : List ℕ). rounds h (schedule b 64) 16) c.long_state_of-from.ensures,
)

pub schedule-preserved : goal.schedule-preserved
schedule-preserved c = λ b words.
    let h : List ℕ = column 0 c.args.state.now in
    let after = rounds h (schedule b 64) in
    let s1 = c.four_pair_steps-v.ensures b h (at_same _ _ after _ _ _ (omega arith) (c.schedule.invariant b words)) in
    let s2 = c.four_pair_steps-v-in-schedule.ensures b h s1 in
    at_same _ _ after _ _ _ (omega arith) s2

pub returns : goal.returns
returns c =
    let h : List ℕ = column 0 c.args.state.now in
    let done : 16 * c.schedule.turn ≡ 16 * 5 = omega (arith, c.schedule.auto.turn-end, c.schedule-test.false) in
    below_one _ (λ b words.
    let held = (c.schedule.invariant b words).1 ∙ ap (λ (t : ℕ). rounds h (schedule b 64) t) done in
    c.words_of_long.ensures
    ∙ rw (
      c.sum.ensures 0 (omega arith),
      c.sum.ensures 1 (omega arith),
      c.sum-2.ensures 0 (omega arith),
      c.sum-2.ensures 1 (omega arith),
      c.sum-3.ensures 0 (omega arith),
      c.sum-3.ensures 1 (omega arith),
      c.sum-4.ensures 0 (omega arith),
      c.sum-4.ensures 1 (omega arith),
    )
    (ap₂ (add_state w64) c.long_state_of-from.ensures held)
    ∙ sym (laws.ends h b))
