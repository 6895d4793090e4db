-- The meaning of a gate's answer.
use Rattle.slh_workers.specs.declared.gate.Go.{Go}
use Rattle.slh_workers.specs.declared.gate.Go.TheVariants.{On, Stop}

-- if a gate answers On, it admits; it answers Stop only if it may stop
abbrev pub GoFits : Type 0 → Type 0 → Go → Type 0
GoFits may_stop admitted On = admitted
GoFits may_stop admitted Stop = may_stop
