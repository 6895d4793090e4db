-- The digits written are those of the definition, and no other message's are nowhere below them.
use Rattle.std.proofs.Common.{◌≡◌, ℕ, ◌^◌, ◌++◌, ◌<◌, get_or, List, subst, refl, ap, ◌∙◌, arith}
use Rattle.slh_params.specs.ParamSet.{params}
use Rattle.slh_params.specs.Params.{len}
use Rattle.slh_params.proofs.Bounds.{len1_exact}
use Rattle.slh_params.proofs.Groups.{base_2b-digit}
use Rattle.slh_few.specs.Wots.{digits, checksum, message_digits, checksum_digits, NowhereBelow}
use Rattle.slh_few.proofs.NowhereBelowLaw.{no_other_message}
use Rattle.slh_few.proofs.wots_digits.digits.Goals as goal

pub split_at_mut-message-requires : goal.split_at_mut-message-requires
unfolding len
split_at_mut-message-requires c = omega (arith, c.len1.ensures, c.requires.out)

pub base_2b-requires-clause-enough : goal.base_2b-requires-clause-enough
base_2b-requires-clause-enough c =
    rw (c.lg_w.ensures, c.split_at_mut-message.ensures.front_len, c.len1.ensures, c.bytes_of.ensures.value, c.requires.msg)
    (omega (arith, len1_exact c.args.set))

pub checksum-requires-clause-small : goal.checksum-requires-clause-small
checksum-requires-clause-small c = λ i.
    let p = params c.args.set in
    let e : get_or c.base_2b.new.out i 0 < 2 ^ p.lg_w = rw (c.base_2b.ensures, c.lg_w.ensures) (base_2b-digit c.bytes_of.result.now p.lg_w _ i) in
    omega (arith, e)

pub checksum_digits-requires-clause-out : goal.checksum_digits-requires-clause-out
unfolding len
checksum_digits-requires-clause-out c = omega (arith, c.split_at_mut-message.ensures.back_len, c.len1.ensures, c.requires.out)

pub returns-clause-digits : goal.returns-clause-digits
unfolding digits
returns-clause-digits c =
    let p = params c.args.set in
    let m = c.args.msg.now.items in
    let front : c.base_2b.new.out ≡ message_digits p m =
    c.base_2b.ensures ∙ rw (c.split_at_mut-message.ensures.front_len, c.len1.ensures, c.lg_w.ensures, c.bytes_of.ensures.value) refl in
    let sum : c.checksum.result ≡ checksum p (message_digits p m) = c.checksum.ensures.value ∙ ap (checksum p) front in
    let back : c.checksum_digits.new.out ≡ checksum_digits p (checksum p (message_digits p m)) = c.checksum_digits.ensures ∙ ap (checksum_digits p) sum in
    ap (λ xs. xs ++ c.checksum_digits.new.out) front ∙ ap (λ ys. message_digits p m ++ ys) back

pub returns-clause-no_other : goal.returns-clause-no_other
returns-clause-no_other c = λ o l a h.
    let At : List ℕ → Type 0 = λ ds. NowhereBelow (digits (params c.args.set) o) ds in
    no_other_message c.args.set c.args.msg.now.items o c.requires.msg l c.bytes_of.ensures.bytes a (subst At (returns-clause-digits c) h)
