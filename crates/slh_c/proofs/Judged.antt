-- Where no rule is refused, all are met.
use Rattle.std.proofs.Common.{◌≡◌, ℕ, if◌then◌else◌, Bool, true, false, List, [], ◌∷◌, refl, arith}
use Rattle.slh_c.specs.Refusals.{number}
use Rattle.slh_c.specs.Rules.{first_refusal, AreMet}
use Rattle.slh_c.specs.declared.refusal.Refusal.{Refusal}
use Rattle.slh_c.specs.declared.refusal.Refusal.TheVariants.{ContextTooLong, BadLength, BadCutting, NoSuchSet, NoSuchFunction, BadSeedLength, NotAKeyFile, UnknownSet, BadHex, BadKeyLength, TrailingBytes, BadDigestLength, BadRandomizerLength, BadOutputLength, NoSuchRefusal, BadAnswersLength, AnswersDisagree, NoSuchJob, BadStartLength, BadStart, Fault, SelfTestFailed, NoSuchKind}
use Rattle.slh_c.specs.declared.rules.Rule.{Rule}

-- no refusal has the number 0
pub number_some : (refusal : Refusal) → number refusal ≡ 0 → ⊥
number_some ContextTooLong e = omega (arith, e)
number_some BadLength e = omega (arith, e)
number_some BadCutting e = omega (arith, e)
number_some NoSuchSet e = omega (arith, e)
number_some NoSuchFunction e = omega (arith, e)
number_some BadSeedLength e = omega (arith, e)
number_some NotAKeyFile e = omega (arith, e)
number_some UnknownSet e = omega (arith, e)
number_some BadHex e = omega (arith, e)
number_some BadKeyLength e = omega (arith, e)
number_some TrailingBytes e = omega (arith, e)
number_some BadDigestLength e = omega (arith, e)
number_some BadRandomizerLength e = omega (arith, e)
number_some BadOutputLength e = omega (arith, e)
number_some NoSuchRefusal e = omega (arith, e)
number_some BadAnswersLength e = omega (arith, e)
number_some AnswersDisagree e = omega (arith, e)
number_some NoSuchJob e = omega (arith, e)
number_some BadStartLength e = omega (arith, e)
number_some BadStart e = omega (arith, e)
number_some Fault e = omega (arith, e)
number_some SelfTestFailed e = omega (arith, e)
number_some NoSuchKind e = omega (arith, e)

by_test : (is_met : Bool) (refusal : Refusal) (rest : ℕ) → (if is_met then rest else number refusal) ≡ 0 → (is_met ≡ true) × (rest ≡ 0)
by_test true refusal rest e = (refl, e)
by_test false refusal rest e = absurd (number_some refusal e)

pub all_met : (rules : List Rule) → first_refusal rules ≡ 0 → AreMet rules
all_met [] e = tt
all_met (rule ∷ rules) e =
    let both = by_test rule.is_met rule.refusal (first_refusal rules) e in
    (both.0, all_met rules both.1)
