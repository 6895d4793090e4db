-- Chains that run in lanes: they end where they did after some steps of all, and with another chain in a lane.
use Rattle.std.proofs.Common.{◌≡◌, ◌≢◌, ℕ, ◌+◌, ◌-◌, ◌^◌, ◌<◌, ◌≤◌, List, [], ◌∷◌, length, map, set, slice_index, Bool, false, cond, inl, inr, ap, ap₂, sym, ◌∙◌, arith}
use Rattle.std.specs.Simd.Lanes.{zip2, sel_l, top}
use Rattle.std.proofs.Math.Dec.{eqb}
use Rattle.std.proofs.lemmas.Bool.{cases_eq, cases_lt}
use Rattle.std.proofs.lemmas.List.{get_or-set_same, get_or-set_other, length-set}
use Rattle.std.proofs.lemmas.Simd.{get_or-sel_l, get_or-zip2, length-zip2, tops_compared}
use mir.Syntax.{w32}
use Rattle.slh_params.specs.Params.{Params}
use Rattle.slh_lanes.specs.Lanes.{value_at}
use Rattle.slh_lanes.proofs.Columns.{splat_lane}
use Rattle.slh_few.specs.RunningChains.{EndAt, IsAdvanced, IsSameChain, running_at}
use Rattle.slh_few.specs.Wots.{chain}
use Rattle.slh_few.specs.declared.lanes.running_chains.RunningChains.{RunningChains}
use Rattle.slh_few.specs.declared.place.Place.{Place}
use Rattle.slh_few.proofs.Chains.{chain-split, chain-start}

module _ (f : ℕ → List ℕ) (p : Params) (pk : List ℕ) (at : Place) where
  -- after so many steps of each chain
  pub ends_advanced : (old new : RunningChains) (nodes next : List (List ℕ)) (count : ℕ) → IsAdvanced count old new
      → ((j : ℕ) → j < 8 → count ≤ slice_index old.left j)
      → ((j : ℕ) → j < 8 → value_at next j p.n ≡ chain p pk at (slice_index old.numbers j) (value_at nodes j p.n) (slice_index old.steps j) count)
      → EndAt f p pk at old nodes → EndAt f p pk at new next
  ends_advanced old new nodes next count taken enough run ends = λ j lane.
      let q : ℕ = slice_index old.numbers j in
      let s : ℕ = slice_index old.steps j in
      let rest : ℕ = slice_index old.left j - count in
      let x = value_at nodes j p.n in
      let number : slice_index new.numbers j ≡ q = ap (λ (v : List ℕ). slice_index v j) taken.numbers in
      let total : count + rest ≡ slice_index old.left j = omega (arith, enough j lane) in
      ap (λ c. chain p pk at c (value_at next j p.n) (slice_index new.steps j) (slice_index new.left j)) number
      ∙ ap (λ v. chain p pk at q v (slice_index new.steps j) (slice_index new.left j)) (run j lane)
      ∙ ap₂ (λ a b. chain p pk at q (chain p pk at q x s count) a b) (taken.steps j lane) (taken.left j lane)
      ∙ chain-split p pk at q x s count rest ∙ ap (chain p pk at q x s) total ∙ ends j lane ∙ ap f (sym number)

  -- a chain with no step left is at its end
  pub ended : (running : RunningChains) (nodes : List (List ℕ)) (j : ℕ) → j < 8 → slice_index running.left j ≡ 0
      → EndAt f p pk at running nodes → value_at nodes j p.n ≡ f (slice_index running.numbers j)
  ended running nodes j lane none ends =
      chain-start p pk at (slice_index running.numbers j) (value_at nodes j p.n) (slice_index running.steps j)
      ∙ ap (chain p pk at (slice_index running.numbers j) (value_at nodes j p.n) (slice_index running.steps j)) (sym none) ∙ ends j lane

  -- with another chain in a lane
  pub ends_put : (old new : RunningChains) (nodes next : List (List ℕ)) (j number step left : ℕ) (x : List ℕ)
      → slice_index new.numbers j ≡ number → slice_index new.steps j ≡ step → slice_index new.left j ≡ left
      → ((i : ℕ) → i < 8 → i ≢ j → IsSameChain old new i)
      → value_at next j p.n ≡ x → ((i : ℕ) → i < 8 → i ≢ j → value_at next i p.n ≡ value_at nodes i p.n)
      → chain p pk at number x step left ≡ f number
      → EndAt f p pk at old nodes → EndAt f p pk at new next
  ends_put old new nodes next j number step left x en es el same ex others end ends = λ i lane. elim (cases_eq i j) [
    | inl e ↦
        rw (e, en, es, el, ex) end
    | inr ne ↦
        let s = same i lane ne in
        rw (s.number, s.step, s.left, others i lane ne) (ends i lane)
  ]

-- ---- one word of eight

-- the choice between two vectors by which words of two others are equal
abbrev pub chosen : (a b x y : List ℕ) → List ℕ
chosen a b x y = sel_l (map (top 31) (zip2 (λ p q. cond (eqb p q) (2 ^ 32 - 1) 0) a b)) x y

pub chosen_lane : (a b x y : List ℕ) → length a ≡ 8 → length b ≡ 8 → length x ≡ 8 → length y ≡ 8 → (j : ℕ) → j < 8
    → slice_index (chosen a b x y) j ≡ cond (eqb (slice_index a j) (slice_index b j)) (slice_index x j) (slice_index y j)
chosen_lane a b x y la lb lx ly j lane =
    let tests : List Bool = zip2 eqb a b in
    let long : length tests ≡ 8 = length-zip2 eqb a b (la ∙ sym lb) ∙ la in
    ap (λ ms. slice_index (sel_l ms x y) j) (tops_compared w32 eqb a b)
    ∙ get_or-sel_l tests x y j 0 (omega (arith, long)) (omega arith) (omega arith)
    ∙ ap (λ m. cond m (slice_index x j) (slice_index y j)) (get_or-zip2 eqb a b j 0 0 false (omega arith) (omega arith))

-- one word in all lanes
abbrev pub in_all : ℕ → List ℕ
in_all k = k ∷ k ∷ k ∷ k ∷ k ∷ k ∷ k ∷ k ∷ []

-- a function of a word and a number, lane by lane
pub with_number : (f : ℕ → ℕ → ℕ) (x : List ℕ) (k : ℕ) → length x ≡ 8 → (j : ℕ) → j < 8 → slice_index (zip2 f x (in_all k)) j ≡ f (slice_index x j) k
with_number f x k long j lane = get_or-zip2 f x (in_all k) j 0 0 0 (omega arith) (omega arith) ∙ ap (f (slice_index x j)) (splat_lane k j lane)

-- ---- groups of a batch that change one after another

-- the groups before g are as they shall be, and the others as they were
abbrev pub Changed : (ℕ → RunningChains → Type 0) → ℕ → List RunningChains → List RunningChains → Type 0
Changed P g old new =
    (length new ≡ length old) × ((i : ℕ) → i < g → P i (running_at new i)) × ((i : ℕ) → g ≤ i → running_at new i ≡ running_at old i)

pub put_same : (batch : List RunningChains) (g : ℕ) (y : RunningChains) → g < length batch → running_at (set batch g y) g ≡ y
put_same batch g y within = get_or-set_same batch g y _ within

pub put_other : (batch : List RunningChains) (g : ℕ) (y : RunningChains) (i : ℕ) → i ≢ g → running_at (set batch g y) i ≡ running_at batch i
put_other batch g y i other = get_or-set_other batch g i y _ other

-- the next group is changed
pub changed_next : (P : ℕ → RunningChains → Type 0) (g : ℕ) (old new : List RunningChains) (y : RunningChains)
    → g < length old → P g y → Changed P g old new → Changed P (g + 1) old (set new g y)
changed_next P g old new y within here done =
    let within' : g < length new = omega (arith, within, done.0) in (
      length-set new g y ∙ done.0,
      λ i lt. elim (cases_lt i g) [
        | inl low ↦ rw (put_other new g y i (λ e. omega (arith, e, low))) (done.1 i low)
        | inr ge ↦ let e : i ≡ g = omega (arith, ge, lt) in rw (e, put_same new g y within') here
      ],
      λ i above. put_other new g y i (λ e. omega (arith, e, above)) ∙ done.2 i (omega (arith, above)),
    )
