-- After each turn T's stream has absorbed one end more.
use Rattle.std.proofs.Common.{◌≡◌, ◌-◌, ◌<◌, slice_index, ap, ap₂, ◌∙◌, arith}
use Rattle.std.proofs.Math.Logic.{∥∥₁_elim, ∥∥₁_map}
use Rattle.std.proofs.Props.{props}
use Rattle.slh_params.specs.Params.{len}
use Rattle.slh_params.specs.ParamSet.{params}
use Rattle.slh_hash.specs.Hash.{T}
use Rattle.slh_few.specs.Chunks.{end_to_end, chunk}
use Rattle.slh_few.specs.Wots.{chain, finished_chain, wots_address, wots_pk_from_sig}
use Rattle.slh_few.proofs.Ends.{end_to_end-more, end_to_end-none}
use Rattle.slh_few.proofs.wots.absorbed_ends.Goals as goal

pub loop-c-init : goal.loop-c-init
loop-c-init c =
    let a = c.args in
    let f = finished_chain (params a.context.now.set) a.context.now.pk_seed.now a.at a.msg.now.items a.sig.now in
    rw (end_to_end-none f) (rw c.wots_adrs.ensures at c.t_stream-stream.ensures)

pub loop-c-preserved : goal.loop-c-preserved
loop-c-preserved c =
    let a = c.args in
    let p = params a.context.now.set in
    let pk = a.context.now.pk_seed.now in
    let i = c.loop-c.c in
    let f = finished_chain p pk a.at a.msg.now.items a.sig.now in
    let low : c.loop-c.c < len p = omega (arith, c.len-c-end.ensures) in
    let d = c.digits_of-digits.ensures.digits i low in
    let value = c.node_at-value.ensures.value ∙ ap (λ q. chunk q a.sig.now i) c.n-n.ensures in
    let from = slice_index c.digits_of-digits.result i in
    let own =
    c.run_chain.ensures.value
    ∙ ap (λ x. chain p pk a.at i x from (c.w-last.result - 1 - from)) value
    ∙ ap₂ (chain p pk a.at i (chunk p.n a.sig.now i)) d (ap₂ (λ q k. q - 1 - k) c.w-last.ensures d) in
    ∥∥₁_map c.loop-c.invariant (λ h. rw (end_to_end-more f i) (rw own at c.absorb.ensures _ _ _ _ h))

pub returns-clause-value : goal.returns-clause-value
unfolding wots_pk_from_sig
returns-clause-value c =
    let a = c.args in
    let p = params a.context.now.set in
    let pk = a.context.now.pk_seed.now in
    let f = finished_chain p pk a.at a.msg.now.items a.sig.now in
    let all : c.loop-c.c ≡ len p = omega (arith, c.len-c-end.ensures, c.loop-c-test.false) in
    ∥∥₁_elim c.loop-c.invariant (hlevel props) (λ h.
    c.finish.ensures.value _ _ _ _ h ∙ ap (λ k. T p pk (wots_address a.at 1 0 0) (end_to_end f k)) all)

pub returns-clause-len : goal.returns-clause-len
returns-clause-len c = ∥∥₁_elim c.loop-c.invariant (hlevel props) (λ h. c.finish.ensures.len _ _ _ _ h)
