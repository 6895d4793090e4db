-- The tests of a vector file, and the report on them.
use Rattle.std.specs.Prelude.{◌≡◌, ◌⊎◌, ℕ, List}
use Rattle.std.specs.List.{All}
use Rattle.clap.specs.Words.{Text}
use Rattle.slh_io.specs.Devices.{FilesState}
use Rattle.slh_tool.specs.Faults.{of_vectors}
use Rattle.slh_tool.specs.Reading.{IsFile, RefusesFile}
use Rattle.slh_tool.specs.declared.fault.Fault.{Fault}
use Rattle.slh_vectors.specs.Cases.{Case}
use Rattle.slh_vectors.specs.Grammar.{IsVectorFile}
use Rattle.slh_vectors.specs.Outcomes.{AreOutcomes}
use Rattle.slh_vectors.specs.Reading.{Fails, tests_in}
use Rattle.slh_vectors.specs.Report.{report_text}
use Rattle.slh_vectors.specs.declared.fault.VectorFault.{VectorFault}
use Rattle.slh_vectors.specs.declared.outcome.Outcome.{Outcome}
use Rattle.slh_vectors.specs.declared.outcome.Outcome.TheVariants.{Pass}

abbrev pub HaveAllPassed : List Outcome → Type 0
HaveAllPassed outcomes = All (λ o. o ≡ Pass) outcomes

-- the status of a report: 0 if all tests passed, else 1
abbrev pub IsStatus : List Outcome → ℕ → Type 0
IsStatus outcomes status = (HaveAllPassed outcomes × (status ≡ 0)) ⊎ ((¬ (HaveAllPassed outcomes)) × (status ≡ 1))

-- the report on these tests, by the outcomes that FIPS 205 gives them
pub record ReportsOn (tests : List Case) (status : ℕ) (text : Text) : Type 0 where
  pub outcomes : List Outcome
  pub judged : AreOutcomes tests outcomes
  pub shown : text ≡ report_text tests outcomes
  pub status_is : IsStatus outcomes status

-- `vectors`: the report on the tests of a vector file
abbrev pub RunsVectors : Text → FilesState → ℕ → Text → Type 0
RunsVectors path files status text = (bytes : Text) × IsFile files path bytes
    × ((tests : List Case) × IsVectorFile bytes tests × ReportsOn tests status text)

-- why the tests of a vector file are not run: the file is not read, or has a fault, or memory ran out
abbrev pub RefusesVectors : Text → FilesState → FilesState → Fault → Type 0
RefusesVectors path old new fault = RefusesFile old new path fault
    ⊎ ((bytes : Text) × IsFile old path bytes × ((e : VectorFault) × Fails e (tests_in bytes) × (fault ≡ of_vectors e)))
