-- The answers of all jobs, with the covers, the records and the checkpoints apart.
use Rattle.std.proofs.Common.{◌≡◌, ℕ, ◌<◌, List, Option, Some, None, length, map, get_or, arith, sym, ◌∙◌, ap, subst}
use Rattle.std.specs.List.{slice_get}
use Rattle.std.proofs.lemmas.List.{get_or-map, length-map}
use Rattle.std.proofs.lemmas.Option.{slice_get_within}
use Rattle.slh_tree.specs.Record.{KnownPath}
use Rattle.slh_tree.specs.declared.cover.Cover.{Cover}
use Rattle.slh_subtrees.specs.CutTrees.{CutTrees}
use Rattle.slh_subtrees.specs.Jobs.{signing_jobs}
use Rattle.slh_subtrees.specs.declared.range.JobRange.{JobRange}
use Rattle.slh_par.specs.JobAnswers.{IsAnswer, AreRangeAnswers, job_checkpoints}
use Rattle.slh_subtrees.specs.declared.hashed_range.HashedRange.{HashedRange}
use Rattle.slh_subtrees.specs.declared.signing_trees.SigningTrees.{SigningTrees}

-- what the answers of jobs are, as contracts see them
abbrev pub Answer : Type 0
Answer = HashedRange × Option (List ℕ)

-- each answer is right for its job
abbrev pub AllRight : SigningTrees → CutTrees → List Answer → Type 0
AllRight s cut xs =
    (n : ℕ) (d : Answer) → n < length xs → (job : JobRange) → slice_get (signing_jobs cut) n ≡ Some job
    → IsAnswer s job (get_or xs n d).0.cover (get_or xs n d).0.path × ((get_or xs n d).1 ≡ job_checkpoints s job)

pub answers_split :
    (s : SigningTrees) (cut : CutTrees) (xs : List Answer) (cs : List Cover) (rs : List KnownPath) →
    length xs ≡ length (signing_jobs cut) →
    AllRight s cut xs →
    cs ≡ map (λ x. x.0.cover) xs →
    rs ≡ map (λ x. x.0.path) xs →
    AreRangeAnswers s cut cs rs
answers_split s cut xs cs rs count right covers records =
    let cover_of : Answer → Cover = λ x. x.0.cover in
    let path_of : Answer → KnownPath = λ x. x.0.path in
    record {
      covers = ap (λ (ys : List Cover). length ys) covers ∙ length-map xs cover_of ∙ count;
      records = ap (λ (ys : List KnownPath). length ys) records ∙ length-map xs path_of ∙ count;
      each = λ n job c p read.
          let d : Answer = (record { cover = c; path = p }, None) in
          let within : n < length xs = omega (arith, slice_get_within (signing_jobs cut) n job read) in
          let cover_is : (get_or xs n d).0.cover ≡ get_or cs n c = sym (ap (λ (ys : List Cover). get_or ys n c) covers ∙ get_or-map cover_of xs n d c within) in
          let path_is : (get_or xs n d).0.path ≡ get_or rs n p = sym (ap (λ (ys : List KnownPath). get_or ys n p) records ∙ get_or-map path_of xs n d p within) in
          let Of : Cover → Type 0 = λ x. IsAnswer s job x (get_or xs n d).0.path in
          subst (IsAnswer s job (get_or cs n c)) path_is (subst Of cover_is (right n d within job read).0);
    }
