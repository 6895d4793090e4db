-- After each chain the first values of the signature are written.
use Rattle.std.proofs.Common.{◌≡◌, ◌*◌, ◌<◌, ℕ, List, length, ap, sym, ◌∙◌, arith}
use Rattle.slh_params.specs.ParamSet.{params}
use Rattle.slh_params.specs.Params.{len}
use Rattle.slh_few.specs.Chunks.{chunk}
use Rattle.slh_few.specs.Wots.{digit}
use Rattle.slh_few.specs.KeyCheckpoints.{chain_checkpoints_len, run_from_checkpoint, chain_from_checkpoints, wots_sig_from}
use Rattle.slh_few.proofs.Ends.{end_to_end-none, writes-more, chunk_fits, written_all}
use Rattle.slh_few.proofs.KeyCheckpoints.{wots_sig_from-own}
use Rattle.slh_few.proofs.context.HashContext.wots_sign_from_checkpoints.Goals as goal
use Rattle.slh_few.proofs.context.HashContext.wots_sign_from_checkpoints.Goals.{After-value_from_checkpoint-node}

pub loop-c-init : goal.loop-c-init
loop-c-init c = let e : 0 * (params c.args.self.now.set).n ≡ 0 = omega arith in rw e (sym (end_to_end-none _))

pub chunk_at-values-requires : goal.chunk_at-values-requires
chunk_at-values-requires c =
    let p = params c.args.self.now.set in
    let b : c.loop-c.c < len p = omega (arith, c.len-c-end.ensures) in
    rw c.chain_checkpoints_len-size.ensures.value (chunk_fits c.loop-c.c (len p) (chain_checkpoints_len p) (length c.args.checkpoints.now) b c.requires.checkpoints)

-- the value that is put
value_there : (c : After-value_from_checkpoint-node)
    → c.value_from_checkpoint-node.result.items
    ≡ chain_from_checkpoints (params c.args.self.now.set) c.args.self.now.pk_seed.now c.args.at c.args.checkpoints.now c.args.msg.now.items c.loop-c.c
value_there c =
    let p = params c.args.self.now.set in
    let pk = c.args.self.now.pk_seed.now in
    let b : c.loop-c.c < len p = omega (arith, c.len-c-end.ensures) in
    let values : c.chunk_at-values.result.now ≡ chunk (chain_checkpoints_len p) c.args.checkpoints.now c.loop-c.c = rw c.chain_checkpoints_len-size.ensures.value at c.chunk_at-values.ensures.value in
    c.value_from_checkpoint-node.ensures.value
    ∙ ap (λ s. run_from_checkpoint p pk c.args.at c.loop-c.c c.chunk_at-values.result.now s) (c.digits_of-digits.ensures.digits c.loop-c.c b)
    ∙ ap (λ (xs : List ℕ). run_from_checkpoint p pk c.args.at c.loop-c.c xs (digit p c.args.msg.now.items c.loop-c.c)) values

pub put_node-requires : goal.put_node-requires
put_node-requires c =
    let p = params c.args.self.now.set in
    let b : c.loop-c.c < len p = omega (arith, c.len-c-end.ensures) in
    let q : length c.loop-c.out ≡ len p * p.n = omega (arith, c.requires.out) in
    rw (c.n-n.ensures, c.value_from_checkpoint-node.ensures.len) (chunk_fits c.loop-c.c (len p) p.n (length c.loop-c.out) b q)

pub loop-c-preserved : goal.loop-c-preserved
loop-c-preserved c =
    let p = params c.args.self.now.set in
    let there = (goal.at.loop-c-preserved c).After-value_from_checkpoint-node in
    writes-more (chain_from_checkpoints p c.args.self.now.pk_seed.now c.args.at c.args.checkpoints.now c.args.msg.now.items) c.loop-c.c p.n c.loop-c.out c.put_node.new.out _
    (value_there there) c.value_from_checkpoint-node.ensures.len c.loop-c.invariant (rw c.n-n.ensures at c.put_node.ensures.written)

pub returns-clause-value : goal.returns-clause-value
unfolding wots_sig_from
returns-clause-value c =
    let p = params c.args.self.now.set in
    written_all _ (len p) p.n c.loop-c.c c.loop-c.out (omega (arith, c.len-c-end.ensures)) (omega (arith, c.requires.out)) c.loop-c.invariant

pub returns-clause-signature : goal.returns-clause-signature
returns-clause-signature c sk own =
    let s = c.args.self.now.set in
    returns-clause-value c
    ∙ ap (λ (xs : List ℕ). wots_sig_from (params s) c.args.self.now.pk_seed.now c.args.at xs c.args.msg.now.items) own
    ∙ wots_sig_from-own s sk c.args.self.now.pk_seed.now c.args.at c.args.msg.now.items
