-- Where one of the three parts can't be written, what is there is a prefix of the whole; else it is the whole.
use Rattle.std.proofs.Common.{rules}
use Rattle.std.specs.Fmt.{decimal}
use Rattle.slh_io.proofs.Texts.{first_of_three, stopped_after, third_ended}
use Rattle.slh_io.proofs.text.put_number.Goals as goal

pub returns-in_err-put_bytes-clause-puts : goal.returns-in_err-put_bytes-clause-puts
returns-in_err-put_bytes-clause-puts g c =
    rw (← c.as_bytes.ensures.value) (first_of_three c.from_residual.result _ _ c.as_bytes.result.now (decimal c.args.n) c.args.after.now (search rules) c.in_err-put_bytes.ensures.puts)

pub returns-in_err-put_decimal-clause-puts : goal.returns-in_err-put_decimal-clause-puts
returns-in_err-put_decimal-clause-puts g c =
    rw (← c.as_bytes.ensures.value) (stopped_after c.from_residual-in_err-put_decimal.result _ _ _ c.as_bytes.result.now (decimal c.args.n) c.args.after.now (search rules) c.in_ok-put_bytes.ensures.puts c.in_err-put_decimal.ensures.puts)

pub returns-clause-puts : goal.returns-clause-puts
returns-clause-puts g c =
    rw (← c.as_bytes.ensures.value, ← c.as_bytes-2.ensures.value) (third_ended c.put_bytes-2.result _ _ _ _ c.as_bytes.result.now (decimal c.args.n) c.as_bytes-2.result.now c.in_ok-put_bytes.ensures.puts c.in_ok-put_decimal.ensures.puts c.put_bytes-2.ensures.puts)
