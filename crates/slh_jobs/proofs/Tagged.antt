-- The nodes of all trees of a kind have their tags exactly where those of each tree have them.
use Rattle.std.proofs.Common.{◌≡◌, ℕ, ◌+◌, ◌*◌, ◌/◌, ◌%◌, ◌^◌, ◌<◌, List, ap, sym, subst, ◌∙◌, arith}
use Rattle.std.proofs.Math.Nat.{mod-lt}
use Rattle.std.proofs.lemmas.Nat.{pow_pos}
use Rattle.slh_params.specs.ParamSet.{params}
use Rattle.slh_params.specs.declared.param_set.ParamSet.{ParamSet}
use Rattle.slh_core.specs.Keys.{Key}
use Rattle.slh_subtrees.specs.declared.range.JobTree.TheVariants.{Xmss, Fors}
use Rattle.slh_jobs.specs.Jobs.{params_of, xmss_shape, fors_shape, xmss_jobs, fors_jobs, tag_of}
use Rattle.slh_jobs.specs.Joined.{fors_answers, NodesFit, TagsFit}
use Rattle.slh_jobs.specs.Ranges.{node_given, tag_given}
use Rattle.slh_jobs.specs.declared.levels.Levels.{Levels}
use Rattle.slh_jobs.proofs.Indices.{tree_of_job, number_below}

-- what holds of each range of each tree
by_trees : (P : ℕ → Type 0) (trees levels : ℕ) → ((j : ℕ) → j < trees → (r : ℕ) → r < 2 ^ levels → P (j * 2 ^ levels + r))
    → (n : ℕ) → n < trees * 2 ^ levels → P n
by_trees P trees levels all n lt =
    let whole : n / 2 ^ levels * 2 ^ levels + n % 2 ^ levels ≡ n = omega arith in
    subst P whole (all (n / 2 ^ levels) (tree_of_job n trees levels lt) (n % 2 ^ levels) (mod-lt n (pow_pos levels)))

-- the tag of an answer, where the number of the job is computed in another way
xmss_at : (c : Levels) (sk : Key) (start bytes : List ℕ) (n job other : ℕ) → job ≡ other
    → tag_of c sk start job (node_given (xmss_shape c) bytes n) ≡ tag_given (xmss_shape c) bytes n
    → tag_of c sk start other (node_given (xmss_shape c) bytes n) ≡ tag_given (xmss_shape c) bytes n
xmss_at c sk start bytes n job other e h = ap (λ (k : ℕ). tag_of c sk start k (node_given (xmss_shape c) bytes n)) (sym e) ∙ h

fors_at : (c : Levels) (sk : Key) (start bytes : List ℕ) (n job other : ℕ) → job ≡ other
    → tag_of c sk start job (node_given (fors_shape c) bytes n) ≡ tag_given (fors_shape c) bytes n
    → tag_of c sk start other (node_given (fors_shape c) bytes n) ≡ tag_given (fors_shape c) bytes n
fors_at c sk start bytes n job other e h = ap (λ (k : ℕ). tag_of c sk start k (node_given (fors_shape c) bytes n)) (sym e) ∙ h

-- the XMSS trees
pub xmss_tags : (c : Levels) (sk : Key) (start bytes : List ℕ) (set : ParamSet) → set ≡ c.set
    → ((l : ℕ) → l < (params set).d → NodesFit c sk start bytes (Xmss l)) → TagsFit c sk start (xmss_shape c) bytes 0 (xmss_jobs c)
xmss_tags c sk start bytes set same all =
    by_trees (λ n. tag_of c sk start (0 + n) (node_given (xmss_shape c) bytes n) ≡ tag_given (xmss_shape c) bytes n) (params_of c).d c.xmss
    (λ l lt r lr.
    let job : l * 2 ^ c.xmss + r ≡ 0 + (l * 2 ^ c.xmss + r) = omega arith in
    xmss_at c sk start bytes (l * 2 ^ c.xmss + r) _ _ job (all l (subst (λ (s : ParamSet). l < (params s).d) (sym same) lt) r lr))

pub xmss_tags_of : (c : Levels) (sk : Key) (start bytes : List ℕ) (set : ParamSet) → set ≡ c.set
    → TagsFit c sk start (xmss_shape c) bytes 0 (xmss_jobs c) → (l : ℕ) → l < (params set).d → NodesFit c sk start bytes (Xmss l)
xmss_tags_of c sk start bytes set same all l lt r lr =
    let job : 0 + (l * 2 ^ c.xmss + r) ≡ l * 2 ^ c.xmss + r = omega arith in
    xmss_at c sk start bytes (l * 2 ^ c.xmss + r) _ _ job
    (all (l * 2 ^ c.xmss + r) (number_below l r c.xmss (params_of c).d (subst (λ (s : ParamSet). l < (params s).d) same lt) lr))

-- the FORS trees
pub fors_tags : (c : Levels) (sk : Key) (start bytes : List ℕ) (set : ParamSet) → set ≡ c.set
    → ((j : ℕ) → j < (params set).k → NodesFit c sk start bytes (Fors j)) → TagsFit c sk start (fors_shape c) (fors_answers c bytes) (xmss_jobs c) (fors_jobs c)
fors_tags c sk start bytes set same all =
    by_trees (λ n. tag_of c sk start (xmss_jobs c + n) (node_given (fors_shape c) (fors_answers c bytes) n) ≡ tag_given (fors_shape c) (fors_answers c bytes) n) (params_of c).k c.fors
    (λ j lt r lr.
    let job : xmss_jobs c + j * 2 ^ c.fors + r ≡ xmss_jobs c + (j * 2 ^ c.fors + r) = omega arith in
    fors_at c sk start (fors_answers c bytes) (j * 2 ^ c.fors + r) _ _ job (all j (subst (λ (s : ParamSet). j < (params s).k) (sym same) lt) r lr))

pub fors_tags_of : (c : Levels) (sk : Key) (start bytes : List ℕ) (set : ParamSet) → set ≡ c.set
    → TagsFit c sk start (fors_shape c) (fors_answers c bytes) (xmss_jobs c) (fors_jobs c) → (j : ℕ) → j < (params set).k → NodesFit c sk start bytes (Fors j)
fors_tags_of c sk start bytes set same all j lt r lr =
    let job : xmss_jobs c + (j * 2 ^ c.fors + r) ≡ xmss_jobs c + j * 2 ^ c.fors + r = omega arith in
    fors_at c sk start (fors_answers c bytes) (j * 2 ^ c.fors + r) _ _ job
    (all (j * 2 ^ c.fors + r) (number_below j r c.fors (params_of c).k (subst (λ (s : ParamSet). j < (params s).k) same lt) lr))
