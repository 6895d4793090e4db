use Rattle.std.proofs.Common.{ℕ, List, [], sym, ap, ◌∙◌}
use Rattle.std.proofs.lemmas.List.{get_or-replicate}
use Rattle.slh_params.specs.ParamSet.{params}
use Rattle.slh_hash.specs.Hash.{F, PRF}
use Rattle.slh_lanes.specs.Lanes.{value_at}
use Rattle.slh_lanes.proofs.NodeLengths.{n_whole}
use Rattle.slh_lanes.proofs.seeded_lanes.SeededLanes.prf.Goals as goal

pub node_lanes-secrets-requires-clause-whole : goal.node_lanes-secrets-requires-clause-whole
node_lanes-secrets-requires-clause-whole over c = rw (sym c.requires.sk_seed) at (n_whole c.args.self.now.set)

pub returns : goal.returns
unfolding F PRF
returns over c = λ g j in_batch lane a held.
    let lanes = c.args.self.now in
    c.f.ensures g j in_batch lane a held
    ∙ ap (F (params lanes.set) lanes.pk_seed.now a)
    (ap (λ (x : List (List ℕ)). value_at x j (params lanes.set).n) (get_or-replicate over.row.G g c.node_lanes-secrets.result [] in_batch)
    ∙ ap (value_at c.node_lanes-secrets.result j) (sym c.requires.sk_seed) ∙ c.node_lanes-secrets.ensures.value j lane)
