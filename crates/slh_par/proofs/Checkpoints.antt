-- The checkpoints of the jobs: in their order, those of the layers, from layer 0 on.
use Rattle.std.proofs.Common.{◌≡◌, ℕ, suc, ◌^◌, ◌<◌, ◌≤◌, List, [], ◌∷◌, ◌++◌, Some, None, Bool, true, false, ◌&&◌, if◌then◌else◌, length, map, get_or, refl, arith, ◌∙◌, ap, inl, inr}
use Rattle.std.specs.List.{flat_map, range_with_len}
use Rattle.std.specs.Prelude.{nat_le, nat_lt}
use Rattle.std.proofs.Math.Bool.{and-false}
use Rattle.std.proofs.lemmas.Bool.{cases_lt, lt-ltb, le-ltb, le-leb, lt-leb}
use Rattle.std.proofs.lemmas.Grind.{flat_map-append}
use Rattle.std.proofs.lemmas.List.{append-nil}
use Rattle.std.proofs.lemmas.List.Concat.{flat_map_single}
use Rattle.std.proofs.lemmas.List.FromFn.{length-map-range_with_len, get_or-map-range_with_len}
use Rattle.std.proofs.lemmas.Option.{slice_get-get_or}
use Rattle.slh_params.specs.ParamSet.{params}
use Rattle.slh_few.proofs.Layers.{layer_place-pair}
use Rattle.slh_subtrees.specs.Points.{EndToEnd}
use Rattle.slh_subtrees.specs.CutTrees.{CutTrees}
use Rattle.slh_subtrees.specs.Jobs.{tree_ranges, tree_jobs, signing_jobs}
use Rattle.slh_subtrees.specs.declared.range.JobTree.TheVariants.{Xmss, Fors}
use Rattle.slh_subtrees.specs.declared.range.JobRange.{JobRange}
use Rattle.slh_subtrees.specs.SigningTrees.{source_of, checkpoints_in, signs_in, leaf_in}
use Rattle.slh_subtrees.specs.declared.signing_trees.SigningTrees.{SigningTrees}
use Rattle.slh_par.specs.JobAnswers.{job_checkpoints, as_list, AreCheckpoints}
use Rattle.slh_par.proofs.SplitAnswers.{Answer, AllRight}
use Rattle.slh_subtrees.proofs.Numbered.{in_tree}

-- two lists of which any two elements in one place give the same
flat_map_same : {X Y Z : Type 0} (f : X → List Z) (g : Y → List Z) (xs : List X) (ys : List Y) → length xs ≡ length ys
    → ((n : ℕ) (d : X) (e : Y) → n < length xs → f (get_or xs n d) ≡ g (get_or ys n e)) → flat_map f xs ≡ flat_map g ys
flat_map_same f g [] [] len each = refl
flat_map_same f g [] (y ∷ ys) len each = absurd (omega arith)
flat_map_same f g (x ∷ xs) [] len each = absurd (omega arith)
flat_map_same f g (x ∷ xs) (y ∷ ys) len each =
    ap (λ v. v ++ flat_map f xs) (each 0 x y (omega arith))
    ∙ ap (λ v. g y ++ v) (flat_map_same f g xs ys (omega arith) (λ n d e below. each (suc n) d e (omega arith)))

-- functions that give the same of each element
flat_map_each : {X Z : Type 0} (f g : X → List Z) → ((x : X) → f x ≡ g x) → (xs : List X) → flat_map f xs ≡ flat_map g xs
flat_map_each f g same [] = refl
flat_map_each f g same (x ∷ xs) = ap (λ v. v ++ flat_map f xs) (same x) ∙ ap (λ v. g x ++ v) (flat_map_each f g same xs)

-- nothing of each element
flat_map_none : {X Z : Type 0} (f : X → List Z) → ((x : X) → f x ≡ []) → (xs : List X) → flat_map f xs ≡ []
flat_map_none f none [] = refl
flat_map_none f none (x ∷ xs) = ap (λ v. v ++ flat_map f xs) (none x) ∙ flat_map_none f none xs

-- the parts of parts
flat_map_parts : {X Y Z : Type 0} (g : Y → List Z) (h : X → List Y) (xs : List X) → flat_map g (flat_map h xs) ≡ flat_map (λ x. flat_map g (h x)) xs
flat_map_parts g h [] = refl
flat_map_parts g h (x ∷ xs) = flat_map-append g (h x) (flat_map h xs) ∙ ap (λ v. flat_map g (h x) ++ v) (flat_map_parts g h xs)

-- the checkpoints of a job, as a list
abbrev checkpoints_list : SigningTrees → JobRange → List (List ℕ)
checkpoints_list s job = as_list (job_checkpoints s job)

-- what the ranges of an XMSS tree keep
abbrev checkpoints_xmss : SigningTrees → ℕ → List (ℕ × ℕ) → List (List ℕ)
checkpoints_xmss s l rs = flat_map (checkpoints_list s) (map (in_tree (Xmss l)) rs)

-- one range more, whether or not the leaf that signs is one of it
abbrev one_more : (s : SigningTrees) (l : ℕ) (rs : List (ℕ × ℕ)) → Bool → List (List ℕ)
one_more s l rs signs = as_list (if signs then Some (checkpoints_in s l) else None) ++ checkpoints_xmss s l rs

-- ranges after that leaf keep nothing
checkpoints_after : (s : SigningTrees) (l lo hi : ℕ) (rs : List (ℕ × ℕ)) → EndToEnd lo hi rs → leaf_in s (Xmss l) < lo → checkpoints_xmss s l rs ≡ []
checkpoints_after s l lo hi [] ends before = refl
checkpoints_after s l lo hi (r ∷ rs) ends before =
    let apart : signs_in s l r.0 r.1 ≡ false
    = ap (λ b. b && nat_lt (leaf_in s (Xmss l)) r.1) (lt-leb r.0 (leaf_in s (Xmss l)) (omega (arith, ends.0))) in
    ap (one_more s l rs) apart ∙ checkpoints_after s l r.1 hi rs ends.2 (omega (arith, ends.0, ends.1))

-- ranges around it keep the chains of its key once
checkpoints_once : (s : SigningTrees) (l lo hi : ℕ) (rs : List (ℕ × ℕ)) → EndToEnd lo hi rs → lo ≤ leaf_in s (Xmss l) → leaf_in s (Xmss l) < hi
    → checkpoints_xmss s l rs ≡ checkpoints_in s l ∷ []
checkpoints_once s l lo hi [] ends from to = absurd (omega arith)
checkpoints_once s l lo hi (r ∷ rs) ends from to =
    elim (cases_lt (leaf_in s (Xmss l)) r.1) [
      | inl here ↦
          let signs : signs_in s l r.0 r.1 ≡ true
          = ap (λ b. b && nat_lt (leaf_in s (Xmss l)) r.1) (le-leb r.0 (leaf_in s (Xmss l)) (omega (arith, ends.0))) ∙ lt-ltb (leaf_in s (Xmss l)) r.1 here in
          ap (one_more s l rs) signs ∙ ap (λ v. checkpoints_in s l ∷ v) (checkpoints_after s l r.1 hi rs ends.2 here)
      | inr later ↦
          let apart : signs_in s l r.0 r.1 ≡ false
          = ap (λ b. nat_le r.0 (leaf_in s (Xmss l)) && b) (le-ltb (leaf_in s (Xmss l)) r.1 later) ∙ and-false (nat_le r.0 (leaf_in s (Xmss l))) in
          ap (one_more s l rs) apart ∙ checkpoints_once s l r.1 hi rs ends.2 later to
    ]

-- the ranges of a FORS tree keep nothing
checkpoints_fors : (s : SigningTrees) (j : ℕ) (rs : List (ℕ × ℕ)) → flat_map (checkpoints_list s) (map (in_tree (Fors j)) rs) ≡ []
checkpoints_fors s j [] = refl
checkpoints_fors s j (r ∷ rs) = checkpoints_fors s j rs

-- all jobs keep the chains of each layer, from 0 on
checkpoints_all : (s : SigningTrees) (cut : CutTrees) → cut.set ≡ s.signer.now.public.set → EndToEnd 0 (2 ^ (params cut.set).hp) (tree_ranges cut (Xmss 0))
    → flat_map (checkpoints_list s) (signing_jobs cut) ≡ map (checkpoints_in s) (range_with_len 0 (params cut.set).d)
checkpoints_all s cut same ends =
    let has = checkpoints_list s in
    let layers = range_with_len 0 (params cut.set).d in
    let trees = range_with_len 0 (params cut.set).k in
    let xmss : List JobRange = flat_map (λ l. tree_jobs cut (Xmss l)) layers in
    let fors : List JobRange = flat_map (λ j. tree_jobs cut (Fors j)) trees in
    let no_fors : flat_map has fors ≡ []
    = flat_map_parts has (λ j. tree_jobs cut (Fors j)) trees
    ∙ flat_map_none (λ j. flat_map has (tree_jobs cut (Fors j))) (λ j. checkpoints_fors s j (tree_ranges cut (Fors j))) trees in
    let there : (l : ℕ) → leaf_in s (Xmss l) < 2 ^ (params cut.set).hp
    = λ l. rw same (layer_place-pair (params s.signer.now.public.set) s.idx_tree s.idx_leaf l s.leaf) in
    let each : (l : ℕ) → flat_map has (tree_jobs cut (Xmss l)) ≡ checkpoints_in s l ∷ []
    = λ l. checkpoints_once s l 0 (2 ^ (params cut.set).hp) (tree_ranges cut (Xmss l)) ends (omega arith) (there l) in
    flat_map-append has xmss fors
    ∙ ap (λ v. flat_map has xmss ++ v) no_fors
    ∙ append-nil (flat_map has xmss)
    ∙ flat_map_parts has (λ l. tree_jobs cut (Xmss l)) layers
    ∙ flat_map_each (λ l. flat_map has (tree_jobs cut (Xmss l))) (λ l. checkpoints_in s l ∷ []) each layers
    ∙ flat_map_single (checkpoints_in s) layers

-- so what all answers keep is what each layer signs from
pub checkpoints_right : (s : SigningTrees) (cut : CutTrees) (xs : List Answer) (checkpoints : List (List ℕ)) → length xs ≡ length (signing_jobs cut) → AllRight s cut xs
    → cut.set ≡ s.signer.now.public.set → EndToEnd 0 (2 ^ (params cut.set).hp) (tree_ranges cut (Xmss 0)) → checkpoints ≡ flat_map (λ x. as_list x.1) xs → AreCheckpoints (source_of s) checkpoints
checkpoints_right s cut xs checkpoints count right same ends is =
    let own : (n : ℕ) (d : Answer) (job : JobRange) → n < length xs → as_list (get_or xs n d).1 ≡ checkpoints_list s (get_or (signing_jobs cut) n job)
    = λ n d job below.
    ap (λ o. as_list o) (right n d below (get_or (signing_jobs cut) n job) (slice_get-get_or (signing_jobs cut) n job (omega (arith, count)))).1 in
    let all : checkpoints ≡ map (checkpoints_in s) (range_with_len 0 (params cut.set).d)
    = is ∙ flat_map_same (λ (x : Answer). as_list x.1) (checkpoints_list s) xs (signing_jobs cut) count own ∙ checkpoints_all s cut same ends in
    record {
      len = ap (λ (v : List (List ℕ)). length v) all ∙ length-map-range_with_len (checkpoints_in s) 0 (params cut.set).d ∙ ap (λ x. (params x).d) same;
      each = λ l d below.
          ap (λ (v : List (List ℕ)). get_or v l d) all
          ∙ get_or-map-range_with_len (checkpoints_in s) 0 (params cut.set).d l l d (rw same below) (omega arith);
    }
