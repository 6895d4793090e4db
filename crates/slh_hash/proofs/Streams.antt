-- Parts of what a stream holds.
use Rattle.std.proofs.Common.{◌≡◌, ℕ, List, ◌++◌}
use Rattle.std.proofs.lemmas.List.{append_assoc}
use Rattle.slh_params.specs.Address.{Address}
use Rattle.slh_params.specs.Params.{Params}
use Rattle.slh_hash.specs.Hash.{tweaked}

-- more bytes after X
pub tweaked-append : (b : ℕ) (p : Params) (s : List ℕ) (a : Address) (x y : List ℕ) → tweaked b p s a x ++ y ≡ tweaked b p s a (x ++ y)
tweaked-append b p s a x y = append_assoc _ x y
