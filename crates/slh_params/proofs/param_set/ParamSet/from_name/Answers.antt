-- Each text stands for the constant of that name, and no other text for any.
use Rattle.std.proofs.Common.{◌≡◌, List, ℕ, Some, refl, sym, ap, ◌∙◌, codes}
use Rattle.slh_params.specs.declared.param_set.ParamSet.{ParamSet}
use Rattle.slh_params.specs.ParamSet.{is, name, set_named, S128s, S128f, S192s, S192f, S256s, S256f}
use Rattle.slh_params.proofs.Same.{is-same}
use Rattle.slh_params.proofs.Names.{set_named-none, standard-named}
use Rattle.slh_params.proofs.param_set.ParamSet.from_name.Goals as goal

-- a set with the numbers of one that a text stands for
found : (text : List ℕ) (s t : ParamSet) → set_named text ≡ Some t → s ≡ t → Some s ≡ set_named text
found text s t e same = ap Some same ∙ sym e

at_128s : (text : List ℕ) → text ≡ codes "SLH-DSA-SHA2-128s" → set_named text ≡ Some S128s
unfolding set_named name is
at_128s text e = rw e refl

at_128f : (text : List ℕ) → text ≡ codes "SLH-DSA-SHA2-128f" → set_named text ≡ Some S128f
unfolding set_named name is
at_128f text e = rw e refl

at_192s : (text : List ℕ) → text ≡ codes "SLH-DSA-SHA2-192s" → set_named text ≡ Some S192s
unfolding set_named name is
at_192s text e = rw e refl

at_192f : (text : List ℕ) → text ≡ codes "SLH-DSA-SHA2-192f" → set_named text ≡ Some S192f
unfolding set_named name is
at_192f text e = rw e refl

at_256s : (text : List ℕ) → text ≡ codes "SLH-DSA-SHA2-256s" → set_named text ≡ Some S256s
unfolding set_named name is
at_256s text e = rw e refl

at_256f : (text : List ℕ) → text ≡ codes "SLH-DSA-SHA2-256f" → set_named text ≡ Some S256f
unfolding set_named name is
at_256f text e = rw e refl

pub returns-in-text-clause-named : goal.returns-in-text-clause-named
unfolding is
returns-in-text-clause-named c = found c.args.text.now _ S128s (at_128s c.args.text.now c.in-text.is) (is-same _ _ refl)

pub returns-in-text-2-clause-named : goal.returns-in-text-2-clause-named
unfolding is
returns-in-text-2-clause-named c = found c.args.text.now _ S128f (at_128f c.args.text.now c.in-text-2.is) (is-same _ _ refl)

pub returns-in-text-3-clause-named : goal.returns-in-text-3-clause-named
unfolding is
returns-in-text-3-clause-named c = found c.args.text.now _ S192s (at_192s c.args.text.now c.in-text-3.is) (is-same _ _ refl)

pub returns-in-text-4-clause-named : goal.returns-in-text-4-clause-named
unfolding is
returns-in-text-4-clause-named c = found c.args.text.now _ S192f (at_192f c.args.text.now c.in-text-4.is) (is-same _ _ refl)

pub returns-in-text-5-clause-named : goal.returns-in-text-5-clause-named
unfolding is
returns-in-text-5-clause-named c = found c.args.text.now _ S256s (at_256s c.args.text.now c.in-text-5.is) (is-same _ _ refl)

pub returns-in-text-6-clause-named : goal.returns-in-text-6-clause-named
unfolding is
returns-in-text-6-clause-named c = found c.args.text.now _ S256f (at_256f c.args.text.now c.in-text-6.is) (is-same _ _ refl)

pub returns-in_default-clause-none : goal.returns-in_default-clause-none
returns-in_default-clause-none c = λ _ set standard named.
    standard-named c.args.text.now set standard named c.in_default.not-text c.in_default.not-text-2 c.in_default.not-text-3 c.in_default.not-text-4 c.in_default.not-text-5 c.in_default.not-text-6

pub returns-in_default-clause-named : goal.returns-in_default-clause-named
returns-in_default-clause-named c = sym (set_named-none c.args.text.now (returns-in_default-clause-none c refl))
