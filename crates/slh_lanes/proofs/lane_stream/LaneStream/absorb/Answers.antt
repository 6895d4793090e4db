use Rattle.std.proofs.Common.{◌≡◌, ℕ, ◌%◌, ◌≤◌, List, ◌++◌, subst, ap, ◌∙◌, append_assoc}
use Rattle.slh_params.specs.Address.{compressed}
use Rattle.slh_params.specs.Params.{Params}
use Rattle.slh_params.proofs.Bounds.{n_high}
use Rattle.slh_lanes.specs.Block.{first_block}
use Rattle.slh_lanes.specs.Columns.{column}
use Rattle.slh_lanes.specs.Lanes.{value_at}
use Rattle.slh_lanes.specs.LaneStreams.{HasAbsorbedAt, HoldsForAt}
use Rattle.slh_lanes.specs.LongBlock.{long_first_block}
use Rattle.slh_lanes.specs.Streams.{HoldsAt, HoldsLongAt}
use Rattle.slh_lanes.specs.declared.lane_stream.CategoryStream.{CategoryStream}
use Rattle.slh_lanes.proofs.LaneStreams.{digest_of_n}
use Rattle.slh_lanes.proofs.NodeLengths.{n_whole}
use Rattle.slh_lanes.proofs.lane_stream.LaneStream.absorb.Goals as goal

pub returns-in-Short : goal.returns-in-Short
unfolding HasAbsorbedAt value_at
returns-in-Short c = λ p pk j a x lane held.
    let high : p.n ≤ 32 = rw held.0 at (n_high c.args.self.now.set) in
    let whole : p.n % 4 ≡ 0 = rw held.0 at (n_whole c.args.self.now.set) in
    let n : c.n-count.result ≡ p.n = c.n-count.ensures ∙ ap (λ (q : Params). q.n) held.0 in
    let s = subst (λ (q : CategoryStream). HoldsForAt q j p pk a x) c.in-Short.is held.2 in
    let head : List ℕ = first_block p pk ++ compressed a in
    let more = append_assoc head x _ ∙ ap (λ (l : List ℕ). head ++ (x ++ l)) (digest_of_n (column j c.args.nodes.now) c.n-count.result p.n n whole high) in
    (held.0, held.1, (s.0, subst (HoldsAt c.absorb.new.self j) more (c.absorb.ensures j lane (head ++ x) s.1)))

pub returns-in-Long : goal.returns-in-Long
unfolding HasAbsorbedAt value_at
returns-in-Long c = λ p pk j a x lane held.
    let high : p.n ≤ 32 = rw held.0 at (n_high c.args.self.now.set) in
    let whole : p.n % 4 ≡ 0 = rw held.0 at (n_whole c.args.self.now.set) in
    let n : c.n-count.result ≡ p.n = c.n-count.ensures ∙ ap (λ (q : Params). q.n) held.0 in
    let s = subst (λ (q : CategoryStream). HoldsForAt q j p pk a x) c.in-Long.is held.2 in
    let head : List ℕ = long_first_block p pk ++ compressed a in
    let more = append_assoc head x _ ∙ ap (λ (l : List ℕ). head ++ (x ++ l)) (digest_of_n (column j c.args.nodes.now) c.n-count.result p.n n whole high) in
    (held.0, held.1, (s.0, subst (HoldsLongAt c.absorb-in-Long.new.self j) more (c.absorb-in-Long.ensures j lane (head ++ x) s.1)))
