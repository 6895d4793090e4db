use Rattle.slh_tree.proofs.FromEnd.{from_end, cover_of}
use Rattle.slh_tree.proofs.cover.covers_read_from_the_end.Goals as goal

pub returns : goal.returns
returns c = λ t lo hi nodes. (λ cover. from_end cover, λ read. cover_of read)
