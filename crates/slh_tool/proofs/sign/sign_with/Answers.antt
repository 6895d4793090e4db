-- Options that were read are the arguments', so the refusal or the signature is what the arguments ask for.
use Rattle.std.proofs.Common.{◌≡◌, Some, option_map, sym, subst}
use Rattle.slh_params.specs.declared.param_set.ParamSet.{ParamSet}
use Rattle.slh_tool.specs.Cuts.{IsCutting}
use Rattle.slh_tool.specs.Options.{random_of}
use Rattle.slh_tool.specs.Requests.{sign_asked, work_asked}
use Rattle.slh_tool.specs.Replies.{RefusesSigning}
use Rattle.slh_tool.proofs.Refusals.{file_refused, handed_on, made, message_refused}
use Rattle.slh_tool.proofs.sign.sign_with.Goals as goal

pub returns-clause-refused : goal.returns-clause-refused
returns-clause-refused g c =
    let set = c.args.key.now.set in
    let random : random_of set (sign_asked c.args.words).random ≡ Some (option_map (λ bytes. bytes.items) c.in-Some.random) =
    subst (λ (s : ParamSet). random_of s (sign_asked c.args.words).random ≡ Some (option_map (λ bytes. bytes.items) c.in-Some.random)) c.set.ensures (sym c.in-Some.ensures.value) in
    let cut : IsCutting (work_asked c.args.words.work) set c.in_ok-cutting.cutting =
    subst (λ (s : ParamSet). IsCutting (work_asked c.args.words.work) s c.in_ok-cutting.cutting) c.set-2.ensures c.in_ok-cutting.ensures.done in
    message_refused (sign_asked c.args.words) set c.in_ok-form.form.context.items c.in_ok-content.ensures.done.0 (g.F.Files.state c.args.files.now)
    (g.F.Files.state c.content_of.new.files) c.signature_of.result ((c.in_ok-form.form.form, c.in_ok-form.ensures.done), (_, random))
    (c.in_ok-cutting.cutting, cut) c.in_ok-content.ensures.done.1 (rw c.as_slice-context.ensures.value at c.signature_of.ensures.refused)

pub returns-in_err-content-clause-refused : goal.returns-in_err-content-clause-refused
returns-in_err-content-clause-refused g c =
    let set = c.args.key.now.set in
    let random : random_of set (sign_asked c.args.words).random ≡ Some (option_map (λ bytes. bytes.items) c.in-Some.random) =
    subst (λ (s : ParamSet). random_of s (sign_asked c.args.words).random ≡ Some (option_map (λ bytes. bytes.items) c.in-Some.random)) c.set.ensures (sym c.in-Some.ensures.value) in
    let cut : IsCutting (work_asked c.args.words.work) set c.in_ok-cutting.cutting =
    subst (λ (s : ParamSet). IsCutting (work_asked c.args.words.work) s c.in_ok-cutting.cutting) c.set-2.ensures c.in_ok-cutting.ensures.done in
    let old = g.F.Files.state c.args.files.now in
    let new = g.F.Files.state c.content_of.new.files in
    handed_on (RefusesSigning (sign_asked c.args.words) set old new) _ c.in_err-content.field-0.0 c.from_residual-in_err-content.ensures.1
    (file_refused (sign_asked c.args.words) set c.in_ok-form.form.context.items old new c.in_err-content.field-0.0
    ((c.in_ok-form.form.form, c.in_ok-form.ensures.done), (_, random)) (c.in_ok-cutting.cutting, cut) c.in_err-content.ensures.refused)

pub returns-clause-done : goal.returns-clause-done
returns-clause-done g c =
    let set = c.args.key.now.set in
    let random : random_of set (sign_asked c.args.words).random ≡ Some (option_map (λ bytes. bytes.items) c.in-Some.random) =
    subst (λ (s : ParamSet). random_of s (sign_asked c.args.words).random ≡ Some (option_map (λ bytes. bytes.items) c.in-Some.random)) c.set.ensures (sym c.in-Some.ensures.value) in
    let cut : IsCutting (work_asked c.args.words.work) set c.in_ok-cutting.cutting =
    subst (λ (s : ParamSet). IsCutting (work_asked c.args.words.work) s c.in_ok-cutting.cutting) c.set-2.ensures c.in_ok-cutting.ensures.done in
    let content = c.in_ok-content.ensures.done in
    made (λ bytes. bytes.items) (sign_asked c.args.words) (g.F.Files.state c.args.files.now) c.args.key.now c.in_ok-form.form.context.items c.in_ok-form.form.form
    (option_map (λ r. r.items) c.in-Some.random) content.0 c.in_ok-cutting.cutting c.signature_of.result c.in_ok-form.ensures.done random cut content.1
    (rw c.as_slice-context.ensures.value at c.signature_of.ensures.short)
    (rw (← content.2 c.in_ok-form.form.context.items, ← c.as_slice-context.ensures.value) c.signature_of.ensures.done)
