use Rattle.std.proofs.Common.{ap₂, ◌∙◌}
use Rattle.slh_lanes.specs.LongBlock.{long_word}
use Rattle.slh_lanes.proofs.long_words.long_word_of_halves.Goals as goal

pub returns : goal.returns
returns c = λ j lane. c.long_word.ensures j lane ∙ ap₂ long_word (c.halves.ensures j lane) (c.halves-2.ensures j lane)
