use Rattle.std.proofs.Common.{ℕ, List, ◌++◌, take}
use Rattle.slh_params.specs.Params.{Params}
use Rattle.slh_hash.specs.Keyed.{joined}
use Rattle.slh_hash.specs.Stream.{IsKeyed}
use Rattle.slh_hash.proofs.category_hmac.CategoryHmac.absorb.Given as goal

abbrev pub invariant-loop-part : goal.invariant-loop-part
invariant-loop-part l =
    (p : Params) (key text : List ℕ) → IsKeyed l.initial.self p key text → IsKeyed l.self p key (text ++ joined (take l.part-index l.parts))
