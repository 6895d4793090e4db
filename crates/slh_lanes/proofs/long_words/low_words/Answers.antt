use Rattle.slh_lanes.proofs.LongWordLanes.{low_words_fit, low_words_lanes}
use Rattle.slh_lanes.proofs.long_words.low_words.Goals as goal

pub returns : goal.returns
returns c = low_words_lanes c.args.x c.fits-x.0

pub overflow_cast-result : goal.overflow_cast-result
overflow_cast-result c = low_words_fit c.args.x c.fits-x.0
