-- Answers of a range of the jobs of a signature.
use Rattle.std.specs.Prelude.{◌≡◌, ℕ, ◌+◌, ◌-◌, ◌<◌, ◌≤◌, List, take, drop, length}
use Rattle.slh_core.specs.Keys.{Key}
use Rattle.slh_jobs.specs.Jobs.{jobs, start_of, len_of, answer_of}
use Rattle.slh_jobs.specs.declared.levels.Levels.{Levels}

-- the bytes are as many as those of the answers of the jobs from first on, below end
pub record IsRoomFor (c : Levels) (first end : ℕ) (bytes : List ℕ) : Type 0 where
  pub ordered : first ≤ end
  pub last : end ≤ jobs c
  pub len : start_of c first + length bytes ≡ start_of c end

-- the bytes are the answers of the jobs from first on, below end, put end to end
abbrev pub AreAnswersOf : Levels → Key → List ℕ → ℕ → ℕ → List ℕ → Type 0
AreAnswersOf c sk start first end bytes =
    (n : ℕ) → first ≤ n → n < end → take (len_of c n) (drop (start_of c n - start_of c first) bytes) ≡ answer_of c sk start n
