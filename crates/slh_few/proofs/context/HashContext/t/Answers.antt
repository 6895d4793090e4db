-- After each turn the stream has absorbed the nodes so far.
use Rattle.std.proofs.Common.{◌≡◌, ◌*◌, take, sym, ap, ◌∙◌, arith}
use Rattle.std.proofs.lemmas.List.{take_all}
use Rattle.std.proofs.Math.Logic.{∥∥₁_elim, ∥∥₁_map}
use Rattle.std.proofs.Props.{props}
use Rattle.slh_params.specs.ParamSet.{params}
use Rattle.slh_hash.specs.Hash.{T}
use Rattle.slh_few.specs.Chunks.{chunk}
use Rattle.slh_few.proofs.Ends.{take-chunk_more}
use Rattle.slh_few.proofs.context.HashContext.t.Goals as goal

pub loop-c-init : goal.loop-c-init
loop-c-init c =
    let none : 0 * (params c.args.self.now.set).n ≡ 0 = omega arith in
    rw none c.t_stream-stream.ensures

pub loop-c-preserved : goal.loop-c-preserved
loop-c-preserved c =
    let n = (params c.args.self.now.set).n in
    let nodes = c.args.nodes.now in
    let own = c.node_at.ensures.value ∙ ap (λ q. chunk q nodes c.loop-c.c) c.n-n.ensures in
    ∥∥₁_map c.loop-c.invariant (λ h. rw (take-chunk_more n nodes c.loop-c.c, sym own) (c.absorb.ensures _ _ _ _ h))

pub returns-clause-value : goal.returns-clause-value
returns-clause-value c =
    let p = params c.args.self.now.set in
    let nodes = c.args.nodes.now in
    let e : c.loop-c.c ≡ c.args.count = omega (arith, c.loop-c-test.false) in
    let all : take (c.args.count * p.n) nodes ≡ nodes = take_all _ nodes (omega (arith, c.requires)) in
    ∥∥₁_elim c.loop-c.invariant (hlevel props) (λ h.
    c.finish.ensures.value _ _ _ _ h ∙ ap (T p c.args.self.now.pk_seed.now c.args.adrs.now) (ap (λ k. take (k * p.n) nodes) e ∙ all))

pub returns-clause-len : goal.returns-clause-len
returns-clause-len c = ∥∥₁_elim c.loop-c.invariant (hlevel props) (λ h. c.finish.ensures.len _ _ _ _ h)
