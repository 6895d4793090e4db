-- Covers put end to end, pushed one after another.
use Rattle.std.proofs.Common.{◌≡◌, ℕ, zero, suc, ◌+◌, ◌^◌, ◌<◌, ◌≤◌, ◌⊎◌, List, [], ◌∷◌, Some, length, reverse, drop, get_or, inl, inr, arith, sym, ◌∙◌, ap, subst}
use Rattle.std.proofs.lemmas.Bool.{cases_lt}
use Rattle.std.proofs.lemmas.List.{drop_more, drop_all}
use Rattle.slh_tree.specs.declared.cover.Cover.{Cover}
use Rattle.slh_tree.specs.declared.cover.Placed.{Placed}
use Rattle.slh_tree.specs.Tree.{MerkleTree, sibling, sibling_index}
use Rattle.slh_tree.specs.Cover.{first_leaf, past_leaf, IsCover, AreCovers}
use Rattle.slh_tree.specs.Record.{KnownPath, known, LiesInRange, LiesInOne, Crosses}
use Rattle.slh_tree.proofs.FromEnd.{from_end}
use Rattle.slh_tree.proofs.Blocks.{first-lt-past}
use Rattle.slh_tree.proofs.Branch.{sibling_within}
use Rattle.slh_tree.proofs.Covers.{cover-le}
use Rattle.slh_tree.proofs.NodeByNode.{Crossed}

-- a cover of the list begins no earlier than the list
later_from : (t : MerkleTree) (b : ℕ) (cs : List Cover) (k : ℕ) (c : Cover) → AreCovers t b cs → k < length cs → c ≡ get_or cs k c → b ≤ c.lo
later_from t b [] k c all within read = absurd (omega arith)
later_from t b (d ∷ ds) zero c all within read = omega (arith, all.0, ap (λ (x : Cover). x.lo) read)
later_from t b (d ∷ ds) (suc k) c all within read =
    omega (arith, all.0, cover-le t d.lo d.hi (reverse d.nodes.items) (from_end all.1), later_from t d.hi ds k c all.2 (omega arith) read)

-- what lies in one of the ranges begins no earlier than the list
lies_later : (t : MerkleTree) (b : ℕ) (cs : List Cover) (i j : ℕ) → AreCovers t b cs → LiesInOne cs i j → b ≤ first_leaf j (sibling_index i j)
lies_later t b [] i j all lies = absurd lies
lies_later t b (d ∷ ds) i j all (inl here) = omega (arith, all.0, here.from)
lies_later t b (d ∷ ds) i j all (inr later) =
    omega (arith, all.0, cover-le t d.lo d.hi (reverse d.nodes.items) (from_end all.1), lies_later t d.hi ds i j all.2 later)

-- what crosses into one range lies in none
crosses_no_other : (t : MerkleTree) (b : ℕ) (cs : List Cover) (k : ℕ) (c : Cover) (i j : ℕ) → AreCovers t b cs → k < length cs → c ≡ get_or cs k c → LiesInOne cs i j → Crosses c.lo c.hi i j → ⊥
crosses_no_other t b [] k c i j all within read lies cross = lies
crosses_no_other t b (d ∷ ds) zero c i j all within read (inl here) cross = omega (arith, ap (λ (x : Cover). x.lo) read, here.from, cross.before)
crosses_no_other t b (d ∷ ds) zero c i j all within read (inr later) cross =
    omega (arith, ap (λ (x : Cover). x.hi) read, lies_later t d.hi ds i j all.2 later, cross.to, first-lt-past j (sibling_index i j))
crosses_no_other t b (d ∷ ds) (suc k) c i j all within read (inl here) cross =
    omega (arith, later_from t d.hi ds k c all.2 (omega arith) read, here.to, cross.after)
crosses_no_other t b (d ∷ ds) (suc k) c i j all within read (inr later) cross = crosses_no_other t d.hi ds k c i j all.2 (omega arith) read later cross

-- what lies in the range of the cover at a place lies in one of the ranges
lies_at : (cs : List Cover) (k : ℕ) (c : Cover) (i j : ℕ) → k < length cs → c ≡ get_or cs k c → LiesInRange c.lo c.hi i j → LiesInOne cs i j
lies_at [] k c i j within read lies = absurd (omega arith)
lies_at (d ∷ ds) zero c i j within read lies = let At : Cover → Type 0 = λ x. LiesInRange x.lo x.hi i j in inl (subst At read lies)
lies_at (d ∷ ds) (suc k) c i j within read lies = inr (lies_at ds k c i j (omega arith) read lies)

-- the covers before place k are on the stack
pub record Gathered (t : MerkleTree) (cs : List Cover) (k : ℕ) (s : List Placed) (r0 r : KnownPath) : Type 0 where
  pub end : ℕ
  pub rest : AreCovers t end (drop k cs)
  pub stacked : IsCover t 0 end s
  pub height : r.height ≡ r0.height
  pub leaf : r.leaf ≡ r0.leaf
  pub noted : (j : ℕ) → j < r0.height → past_leaf j (sibling_index r0.leaf j) ≤ end → (LiesInOne cs r0.leaf j → ⊥) → known r j ≡ Some (sibling t r0.leaf j)
  pub kept : (j : ℕ) → (j < r0.height → LiesInOne cs r0.leaf j) → known r j ≡ known r0 j

module _ (t : MerkleTree) (cs : List Cover) (all : AreCovers t 0 cs) (k : ℕ) (s : List Placed) (r0 r : KnownPath) (now : Gathered t cs k s r0 r) where
  -- the covers from place k on
  at_cover : (c : Cover) → k < length cs → c ≡ get_or cs k c → AreCovers t now.end (c ∷ drop (k + 1) cs)
  at_cover c within read =
      let At : List Cover → Type 0 = λ xs. AreCovers t now.end xs in
      subst At (drop_more cs k c within ∙ ap (λ (x : Cover). x ∷ drop (k + 1) cs) (sym read)) now.rest

  -- one cover more
  pub gathered_more : (c : Cover) (s2 : List Placed) (r2 : KnownPath) → k < length cs → c ≡ get_or cs k c → IsCover t 0 c.hi s2 → Crossed t c.lo c.hi r r2 → Gathered t cs (k + 1) s2 r0 r2
  gathered_more c s2 r2 within read cover cross =
      let here = at_cover c within read in
      let Cr : (j : ℕ) → (l : ℕ) → Type 0 = λ j l. Crosses c.lo c.hi l j in
      record {
        end = c.hi;
        rest = here.2;
        stacked = cover;
        height = cross.height ∙ now.height;
        leaf = cross.leaf ∙ now.leaf;
        noted = λ j below to off.
            elim (cases_lt c.lo (past_leaf j (sibling_index r0.leaf j))) [
              | inr early ↦
                  cross.kept j (λ _ done. let d = subst (Cr j) now.leaf done in omega (arith, d.after))
                  ∙ now.noted j below (omega (arith, here.0)) off
              | inl late ↦
                  elim (cases_lt (first_leaf j (sibling_index r0.leaf j)) c.lo) [
                    | inr inside ↦ absurd (off (lies_at cs k c r0.leaf j within read (record { from = inside; to = to })))
                    | inl before ↦
                        let done : Crosses c.lo c.hi r0.leaf j = record { before = before; after = late; to = to } in
                        cross.noted j (omega (arith, now.height)) (subst (Cr j) (sym now.leaf) done) ∙ ap (λ (l : ℕ). Some (sibling t l j)) now.leaf
                  ]
            ];
        kept = λ j lies.
            cross.kept j (λ low done. crosses_no_other t 0 cs k c r0.leaf j all within read (lies (omega (arith, now.height))) (subst (Cr j) now.leaf done))
            ∙ now.kept j lies;
      }

  -- all covers reach the end of the tree
  pub gathered_all : length cs ≤ k → now.end ≡ 2 ^ t.height
  gathered_all le = let At : List Cover → Type 0 = λ xs. AreCovers t now.end xs in subst At (drop_all k cs le) now.rest

  -- after all covers each node that lies in no range is known
  pub gathered_noted : length cs ≤ k → r0.height ≡ t.height → r0.leaf < 2 ^ r0.height → (j : ℕ) → j < r0.height → (LiesInOne cs r0.leaf j → ⊥) → known r j ≡ Some (sibling t r0.leaf j)
  gathered_noted le height leaf j below off =
      let bound = sibling_within r0.leaf r0.height j leaf below in
      let whole : 2 ^ r0.height ≡ 2 ^ t.height = ap (λ (h : ℕ). 2 ^ h) height in
      now.noted j below (omega (arith, gathered_all le)) off

-- a node lies in a range or not
pub lies_in_or_not : (lo hi i j : ℕ) → LiesInRange lo hi i j ⊎ (LiesInRange lo hi i j → ⊥)
lies_in_or_not lo hi i j =
    elim (cases_lt (first_leaf j (sibling_index i j)) lo) [
      | inl before ↦ inr (λ lies. omega (arith, lies.from))
      | inr from ↦
          elim (cases_lt hi (past_leaf j (sibling_index i j))) [
            | inl past ↦ inr (λ lies. omega (arith, lies.to))
            | inr to ↦ inl (record { from = from; to = to })
          ]
    ]

-- a node lies in one of the ranges or not
pub lies_in_one_or_not : (cs : List Cover) (i j : ℕ) → LiesInOne cs i j ⊎ (LiesInOne cs i j → ⊥)
lies_in_one_or_not [] i j = inr (λ none. none)
lies_in_one_or_not (c ∷ cs) i j =
    elim (lies_in_or_not c.lo c.hi i j) [
      | inl here ↦ inl (inl here)
      | inr not_here ↦
          elim (lies_in_one_or_not cs i j) [
            | inl later ↦ inl (inr later)
            | inr not_later ↦ inr (λ one. elim one [ inl h ↦ not_here h | inr l ↦ not_later l ])
          ]
    ]

-- once the record knows the nodes that lie in the ranges, it knows the path
pub path_complete :
    (t : MerkleTree) (cs : List Cover) (i h : ℕ) (r0 r : KnownPath) →
    ((j : ℕ) → j < h → (LiesInOne cs i j → ⊥) → known r j ≡ Some (sibling t i j)) →
    ((j : ℕ) → LiesInOne cs i j → known r j ≡ known r0 j) →
    ((j : ℕ) → j < h → LiesInOne cs i j → known r0 j ≡ Some (sibling t i j)) →
    (j : ℕ) →
    j < h →
    known r j ≡ Some (sibling t i j)
path_complete t cs i h r0 r noted kept before j below =
    elim (lies_in_one_or_not cs i j) [ inl lies ↦ kept j lies ∙ before j below lies | inr off ↦ noted j below off ]
