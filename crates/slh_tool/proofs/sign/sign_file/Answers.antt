use Rattle.slh_tool.specs.Requests.{sign_asked}
use Rattle.slh_tool.proofs.Refusals.{sign_refused, signed_with}
use Rattle.slh_tool.proofs.sign.sign_file.Goals as goal

pub returns-clause-refused : goal.returns-clause-refused
returns-clause-refused g c =
    sign_refused (sign_asked c.args.words) (g.F.Files.state c.args.files.now) (g.F.Files.state c.secret_key.new.files) (g.F.Files.state c.sign_with.new.files)
    c.in_ok-key.key c.sign_with.result c.in_ok-key.ensures.done c.in_ok-key.ensures.kept c.sign_with.ensures.refused

pub returns-clause-done : goal.returns-clause-done
returns-clause-done g c =
    signed_with (λ bytes. bytes.items) (sign_asked c.args.words) (g.F.Files.state c.args.files.now) (g.F.Files.state c.secret_key.new.files)
    c.in_ok-key.key c.sign_with.result c.in_ok-key.ensures.done c.in_ok-key.ensures.kept c.sign_with.ensures.done
