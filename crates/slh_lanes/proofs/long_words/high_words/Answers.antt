use Rattle.slh_lanes.proofs.LongWordLanes.{high_words_fit, high_words_lanes}
use Rattle.slh_lanes.proofs.long_words.high_words.Goals as goal

pub returns : goal.returns
returns c = high_words_lanes c.args.x c.fits-x.0

pub overflow_cast-result : goal.overflow_cast-result
overflow_cast-result c = high_words_fit c.args.x c.fits-x
