use Rattle.slh_lanes.proofs.LongWordLanes.{long_word_lanes}
use Rattle.slh_lanes.proofs.long_words.long_word.Goals as goal

pub returns : goal.returns
returns c = long_word_lanes c.args.p c.args.q c.fits-p c.fits-q
