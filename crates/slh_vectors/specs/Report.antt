-- The report on the tests of a vector file.
use Rattle.std.specs.Prelude.{◌+◌, ℕ, List, [], ◌∷◌, ◌++◌, Bool, true, false, codes}
use Rattle.std.specs.Fmt.{decimal}
use Rattle.std.specs.List.{count_by}
use Rattle.slh_params.specs.ParamSet.{name}
use Rattle.slh_vectors.specs.Cases.{Case, kind_of, set_of}
use Rattle.slh_vectors.specs.Names.{kind_name}
use Rattle.slh_vectors.specs.declared.outcome.Outcome.{Outcome}
use Rattle.slh_vectors.specs.declared.outcome.Outcome.TheVariants.{Pass, Fail}

abbrev pub outcome_name : Outcome → List ℕ
outcome_name Pass = codes "pass"
outcome_name Fail = codes "fail"

abbrev pub passes : Outcome → Bool
passes Pass = true
passes Fail = false

abbrev pub fails : Outcome → Bool
fails Pass = false
fails Fail = true

-- the line of test n, as `test N KIND SET OUTCOME`
unfoldable pub line_text : ℕ → Case → Outcome → List ℕ
line_text n c o = (codes "test " ++ decimal n ++ codes " ") ++ (kind_name (kind_of c) ++ codes " ") ++ (name (set_of c) ++ codes " ") ++ (outcome_name o ++ codes "\n")

-- the lines of the tests, the first of them with number n
unfoldable pub lines_from : ℕ → List Case → List Outcome → List ℕ
lines_from n (c ∷ cs) (o ∷ os) = line_text n c o ++ lines_from (n + 1) cs os
lines_from n [] os = []
lines_from n (c ∷ cs) [] = []

-- the last line, as `passed P failed F`
unfoldable pub counts_text : ℕ → ℕ → List ℕ
counts_text passed failed = (codes "passed " ++ decimal passed ++ codes " ") ++ (codes "failed " ++ decimal failed ++ codes "\n")

-- a line for each test, in their order and counted from 1, and the counts of those that passed and failed
abbrev pub report_text : List Case → List Outcome → List ℕ
report_text cs os = lines_from 1 cs os ++ counts_text (count_by passes os) (count_by fails os)
