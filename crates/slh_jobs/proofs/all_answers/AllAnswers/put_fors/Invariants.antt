-- What the loop keeps: the parts and the roots that are written, and that the FORS trees before number j have their tags.
use Rattle.std.proofs.Common.{◌≡◌, ℕ, ◌<◌, ◌*◌, length, take}
use Rattle.slh_few.specs.Fors.{fors_part_len}
use Rattle.slh_few.specs.Chunks.{end_to_end}
use Rattle.slh_subtrees.specs.Assembled.{fors_part_by}
use Rattle.slh_subtrees.specs.declared.range.JobTree.TheVariants.{Fors}
use Rattle.slh_jobs.specs.AllAnswers.{params_in, answers_in}
use Rattle.slh_jobs.specs.Joined.{NodesFit}
use Rattle.slh_jobs.proofs.all_answers.AllAnswers.put_fors.Given as goal

abbrev pub invariant-loop-j : goal.invariant-loop-j
invariant-loop-j l =
    let p = params_in l.self in
    let a = answers_in l.self in
    (take (l.j * fors_part_len p) l.sig_fors ≡ end_to_end (fors_part_by a) l.j)
    × ((i : ℕ) → i < l.j → length (fors_part_by a i) ≡ fors_part_len p)
    × ((i : ℕ) → i < l.j → NodesFit l.self.signing.levels l.self.signing.sk.now l.self.signing.start.now l.self.xmss.bytes.now (Fors i))
    × (take (l.j * p.n) l.tops ≡ end_to_end (λ j. a.root (Fors j)) l.j)
    × ((i : ℕ) → i < l.j → length (a.root (Fors i)) ≡ p.n)
