-- The name that each branch answers: the tests before it were false and its own is true.
use Rattle.std.proofs.Common.{sym, refl, ◌∙◌}
use Rattle.slh_params.specs.ParamSet.{is, name}
use Rattle.slh_params.proofs.param_set.ParamSet.name.Goals as goal

pub returns-then-is : goal.returns-then-is
unfolding name is
returns-then-is c = rw (sym c.is.ensures ∙ c.if-is.true) refl

pub returns-then-is-2 : goal.returns-then-is-2
unfolding name is
returns-then-is-2 c =
    rw (
      sym c.is.ensures ∙ c.if-is.false,
      sym c.is-else-is.ensures ∙ c.if-is-2.true,
    ) refl

pub returns-then-is-3 : goal.returns-then-is-3
unfolding name is
returns-then-is-3 c =
    rw (
      sym c.is.ensures ∙ c.if-is.false,
      sym c.is-else-is.ensures ∙ c.if-is-2.false,
      sym c.is-else-is-2.ensures ∙ c.if-is-3.true,
    ) refl

pub returns-then-is-4 : goal.returns-then-is-4
unfolding name is
returns-then-is-4 c =
    rw (
      sym c.is.ensures ∙ c.if-is.false,
      sym c.is-else-is.ensures ∙ c.if-is-2.false,
      sym c.is-else-is-2.ensures ∙ c.if-is-3.false,
      sym c.is-else-is-3.ensures ∙ c.if-is-4.true,
    ) refl

pub returns-then-is-5 : goal.returns-then-is-5
unfolding name is
returns-then-is-5 c =
    rw (
      sym c.is.ensures ∙ c.if-is.false,
      sym c.is-else-is.ensures ∙ c.if-is-2.false,
      sym c.is-else-is-2.ensures ∙ c.if-is-3.false,
      sym c.is-else-is-3.ensures ∙ c.if-is-4.false,
      sym c.is-else-is-4.ensures ∙ c.if-is-5.true,
    ) refl

pub returns-then-is-6 : goal.returns-then-is-6
unfolding name is
returns-then-is-6 c =
    rw (
      sym c.is.ensures ∙ c.if-is.false,
      sym c.is-else-is.ensures ∙ c.if-is-2.false,
      sym c.is-else-is-2.ensures ∙ c.if-is-3.false,
      sym c.is-else-is-3.ensures ∙ c.if-is-4.false,
      sym c.is-else-is-4.ensures ∙ c.if-is-5.false,
      sym c.is-else-is-5.ensures ∙ c.if-is-6.true,
    ) refl

pub returns-else-is-6 : goal.returns-else-is-6
unfolding name is
returns-else-is-6 c =
    rw (
      sym c.is.ensures ∙ c.if-is.false,
      sym c.is-else-is.ensures ∙ c.if-is-2.false,
      sym c.is-else-is-2.ensures ∙ c.if-is-3.false,
      sym c.is-else-is-3.ensures ∙ c.if-is-4.false,
      sym c.is-else-is-4.ensures ∙ c.if-is-5.false,
      sym c.is-else-is-5.ensures ∙ c.if-is-6.false,
    ) refl
