use Rattle.std.proofs.Common.{◌≡◌, ℕ, ◌*◌, List}
use Rattle.sha2.specs.Sha256.{rounds, schedule}
use Rattle.slh_lanes.specs.Quads.{eight, HasQuad}
use Rattle.slh_lanes.proofs.Quads.{IsTurn}
use Rattle.slh_lanes.proofs.single_block.rest_of_rounds.Given as goal

abbrev pub invariant-schedule : goal.invariant-schedule
invariant-schedule l = (b h : List ℕ) → HasQuad b l.fn.w0 0 → HasQuad b l.fn.w1 4 → HasQuad b l.fn.w2 8 → HasQuad b l.fn.w3 12
    → eight l.fn.begun.abcd l.fn.begun.efgh ≡ rounds h (schedule b 48) 4
    → IsTurn b h (eight l.v.abcd l.v.efgh) l.x0 l.x1 l.x2 l.x3 (16 * l.turn)
