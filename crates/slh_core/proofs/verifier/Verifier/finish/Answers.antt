-- A signature of the right length is judged by the digest of the message in pieces.
use Rattle.std.proofs.Common.{◌≡◌, ◌↔◌, ◌≤◌, ℕ, IsTrue, List, length, length-take-le, arith, rules, sym, subst, ap, ◌∙◌}
use Rattle.slh_params.specs.Params.{sig_len}
use Rattle.slh_params.specs.ParamSet.{params}
use Rattle.slh_params.proofs.Bounds.{m_high}
use Rattle.slh_hash.specs.HashFunctions.{category_function}
use Rattle.slh_hash.specs.Keyed.{h_msg_seed, mgf1, H_msg}
use Rattle.slh_core.specs.Keys.{Key, pk_seed, pk_root}
use Rattle.slh_core.specs.Messages.{pure_message}
use Rattle.slh_core.specs.Signatures.{IsValid, get_r}
use Rattle.slh_core.specs.Verifying.{HoldsFirst, IsVerifierOf}
use Rattle.slh_core.proofs.Verdicts.{judged_by_digest}
use Rattle.slh_core.proofs.verifier.Verifier.finish.Goals as goal

pub slice_bounds-buffer-end : goal.slice_bounds-buffer-end
slice_bounds-buffer-end c = omega (arith, c.m.ensures, m_high c.set-set.result)

pub slice_bounds-digest-end : goal.slice_bounds-digest-end
slice_bounds-digest-end c =
    let fits : c.m.result ≤ 122 = omega (arith, c.m.ensures, m_high c.set-set.result) in
    sym (length-take-le c.m.result _ fits)

pub verify_by_digest-requires-clause-digest : goal.verify_by_digest-requires-clause-digest
verify_by_digest-requires-clause-digest c =
    let fits : c.m.result ≤ 122 = omega (arith, c.m.ensures, m_high c.set-set.result) in
    c.finish.auto.out ∙ length-take-le c.m.result _ fits ∙ rw c.set-set.ensures at c.m.ensures

pub returns : goal.returns
unfolding IsVerifierOf H_msg
returns c = λ pk ctx sig msg of.
    let held = c.args.self.pk.now in
    let bytes = c.args.self.sig.now in
    let p = params held.set in
    let of_these : HoldsFirst c.args.self.hash held ctx bytes msg = rw (← of.0, ← of.1.0) at of.1.1 in
    let fed = rw c.in-Some.is at of_these in
    let whole : length bytes ≡ sig_len p = search rules in
    let fits : c.m.result ≤ 122 = omega (arith, c.m.ensures, m_high c.set-set.result) in
    let size = length-take-le c.m.result _ fits ∙ rw c.set-set.ensures at c.m.ensures in
    let seed = h_msg_seed (category_function p) (get_r p bytes) (pk_seed held) (pk_root held) (pure_message ctx msg) in
    let digest = c.finish.ensures p _ _ _ _ fed.1 ∙ ap (mgf1 (category_function p) seed) size in
    let judged = judged_by_digest held ctx bytes msg c.finish.new.out c.verify_by_digest.result fed.0 whole digest c.verify_by_digest.ensures in
    let Judged : Key → List ℕ → Type 0 = λ key s. IsTrue c.verify_by_digest.result ↔ ((length ctx ≤ 255) × IsValid key (pure_message ctx msg) s) in
    subst (λ (key : Key). Judged key sig) of.0 (subst (λ (s : List ℕ). Judged held s) of.1.0 judged)
