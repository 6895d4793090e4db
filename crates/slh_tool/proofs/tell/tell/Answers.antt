-- Where one of the three parts can't be written, what is there is a prefix of the whole; else it is the whole.
use Rattle.std.proofs.Common.{rules, codes}
use Rattle.slh_io.proofs.Texts.{first_of_three, stopped_after, third_ended}
use Rattle.slh_tool.specs.Faults.{place}
use Rattle.slh_tool.proofs.tell.tell.Goals as goal

pub returns-in_err-put_text-clause-puts : goal.returns-in_err-put_text-clause-puts
returns-in_err-put_text-clause-puts g c =
    rw (← c.head.ensures) (first_of_three c.from_residual.result _ _ c.head.result.now (place c.args.fault) (codes "\n") (search rules) c.in_err-put_text.ensures.puts)

pub returns-in_err-put_place-clause-puts : goal.returns-in_err-put_place-clause-puts
returns-in_err-put_place-clause-puts g c =
    rw (← c.head.ensures) (stopped_after c.from_residual-in_err-put_place.result _ _ _ c.head.result.now (place c.args.fault) (codes "\n") (search rules) c.in_ok-put_text.ensures.puts c.in_err-put_place.ensures.puts)

pub returns-clause-puts : goal.returns-clause-puts
returns-clause-puts g c =
    rw (← c.head.ensures) (third_ended c.put_text-2.result _ _ _ _ c.head.result.now (place c.args.fault) (codes "\n") c.in_ok-put_text.ensures.puts c.in_ok-put_place.ensures.puts c.put_text-2.ensures.puts)
