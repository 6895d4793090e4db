-- After each height the first nodes of the path are written.
use Rattle.std.proofs.Common.{◌≡◌, ◌*◌, length, take, refl, ap, sym, ◌∙◌, arith}
use Rattle.slh_few.proofs.Ends.{end_to_end-none, writes-more, chunk_fits, written_all}
use Rattle.slh_few.specs.Paths.{node_bytes}
use Rattle.slh_few.proofs.path_bytes.put_known_nodes.Goals as goal

pub loop-z-init : goal.loop-z-init
loop-z-init c = let zero : 0 * c.args.n ≡ 0 = omega arith in ap (λ k. take k c.args.out.now) zero ∙ sym (end_to_end-none _)

pub loop-z-preserved : goal.loop-z-preserved
loop-z-preserved c =
    writes-more (node_bytes c.args.path.now) c.loop-z.z c.args.n c.loop-z.out c.put_known_node.new.out (node_bytes c.args.path.now c.loop-z.z) refl
    (c.requires.nodes c.loop-z.z (omega arith)) c.loop-z.invariant c.put_known_node.ensures

pub put_known_node-requires : goal.put_known_node-requires
put_known_node-requires c =
    let own : length (node_bytes c.args.path.now c.loop-z.z) ≡ c.args.n = c.requires.nodes c.loop-z.z (omega arith) in
    rw own (chunk_fits c.loop-z.z c.args.height c.args.n (length c.loop-z.out) (omega arith) (omega (arith, c.requires.out)))

pub returns : goal.returns
returns c = written_all (node_bytes c.args.path.now) c.args.height c.args.n c.loop-z.z c.loop-z.out (omega arith) (omega (arith, c.requires.out)) c.loop-z.invariant
