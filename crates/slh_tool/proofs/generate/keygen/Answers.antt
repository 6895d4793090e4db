-- The set that was found is the label's, so the refusal or the key is what the arguments ask for.
use Rattle.std.proofs.Common.{◌≡◌, Some, rules, string_bytes}
use Rattle.slh_params.specs.Label.{set_of_label}
use Rattle.slh_tool.specs.Keys.{key_of_seeds}
use Rattle.slh_tool.specs.Requests.{keygen_asked}
use Rattle.slh_tool.specs.Replies.{RefusesKeygen}
use Rattle.slh_tool.proofs.Generation.{key_written}
use Rattle.slh_tool.proofs.Refusals.{handed_on, cutting_refused, keygen_refused}
use Rattle.slh_tool.proofs.generate.keygen.Goals as goal

pub returns-in_err-cutting-clause-refused : goal.returns-in_err-cutting-clause-refused
returns-in_err-cutting-clause-refused g c =
    let named : set_of_label c.args.words.set.now ≡ Some c.in-Some.set = search rules in
    let old = g.S.Source.state c.args.input.now in
    handed_on (RefusesKeygen (keygen_asked c.args.words) old old) _ c.in_err-cutting.field-0.0 c.from_residual.ensures.1
    (cutting_refused (keygen_asked c.args.words) c.in-Some.set old old c.in_err-cutting.field-0.0 named c.in_err-cutting.ensures.refused)

pub returns-in_err-seeds-clause-refused : goal.returns-in_err-seeds-clause-refused
returns-in_err-seeds-clause-refused g c =
    let named : set_of_label c.args.words.set.now ≡ Some c.in-Some.set = search rules in
    let old = g.S.Source.state c.args.input.now in
    let new = g.S.Source.state c.read_seeds.new.input in
    handed_on (RefusesKeygen (keygen_asked c.args.words) old new) _ c.in_err-seeds.field-0.0 c.from_residual-in_err-seeds.ensures.1
    (keygen_refused (keygen_asked c.args.words) c.in-Some.set old new c.in_err-seeds.field-0.0 named (c.in_ok-cutting.cutting, c.in_ok-cutting.ensures.done) c.in_err-seeds.ensures.refused)

pub returns-clause-done : goal.returns-clause-done
returns-clause-done g c =
    let named : set_of_label c.args.words.set.now ≡ Some c.in-Some.set = search rules in
    let generated : c.in_ok-key.key ≡ key_of_seeds c.in-Some.set c.in_ok-seeds.seeds.items = rw c.as_slice.ensures.value at c.in_ok-key.ensures.generated in
    key_written (keygen_asked c.args.words) (g.S.Source.state c.args.input.now) (g.S.Source.state c.read_seeds.new.input) c.in-Some.set c.in_ok-cutting.cutting
    c.in_ok-seeds.seeds.items c.in_ok-key.key (string_bytes c.in-Ok.text) named c.in_ok-cutting.ensures.done c.in_ok-seeds.ensures.seeds c.in_ok-key.ensures.set
    generated c.in-Ok.ensures.written
