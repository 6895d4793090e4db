-- The constants have the numbers of the table.
use Rattle.std.proofs.Common.{◌≡◌, [], ◌∷◌, refl}
use Rattle.slh_params.specs.declared.param_set.ParamSet.{ParamSet}
use Rattle.slh_params.specs.ParamSet.{is}
use Rattle.slh_params.proofs.Same.{is-same}
use Rattle.slh_params.proofs.param_set.ParamSet.all.Goals as goal

six : (a b c d e f a' b' c' d' e' f' : ParamSet) → a ≡ a' → b ≡ b' → c ≡ c' → d ≡ d' → e ≡ e' → f ≡ f'
    → (a ∷ b ∷ c ∷ d ∷ e ∷ f ∷ []) ≡ (a' ∷ b' ∷ c' ∷ d' ∷ e' ∷ f' ∷ [])
six a b c d e f a' b' c' d' e' f' p q r s t u = rw (p, q, r, s, t, u) refl

pub returns : goal.returns
unfolding is
returns c = six _ _ _ _ _ _ _ _ _ _ _ _ (is-same _ _ refl) (is-same _ _ refl) (is-same _ _ refl) (is-same _ _ refl) (is-same _ _ refl) (is-same _ _ refl)
