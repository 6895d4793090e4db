-- The nodes of one cover, pushed one after another onto those of the covers before.
use Rattle.std.proofs.Common.{◌≡◌, ℕ, ◌+◌, ◌<◌, ◌≤◌, List, [], ◌∷◌, ◌++◌, Some, length, reverse, take, get_or, inl, inr, arith, sym, ◌∙◌, ap, subst, refl}
use Rattle.std.proofs.lemmas.Bool.{cases_lt}
use Rattle.std.proofs.lemmas.List.{take_all, take_more}
use Rattle.slh_tree.specs.declared.cover.Placed.{Placed}
use Rattle.slh_tree.specs.Tree.{MerkleTree, sibling, sibling_index}
use Rattle.slh_tree.specs.Cover.{first_leaf, past_leaf, IsCoverFromEnd, IsCover}
use Rattle.slh_tree.specs.Record.{KnownPath, Gains, Completes, Crosses}
use Rattle.slh_tree.proofs.FromEnd.{from_end, cover_of}
use Rattle.slh_tree.proofs.Blocks.{first-lt-past, higher, lies_inside, ends_with}
use Rattle.slh_tree.proofs.Covers.{LastAtLeast, last_at_least, cover-le}
use Rattle.slh_tree.proofs.CoverParts.{CoverAt, cover_at}
use Rattle.slh_tree.proofs.Hashing.{Pushed}
use Rattle.slh_tree.proofs.Pushing.{reverse_push}

-- the record r knows what r0 did, and the path's nodes that end in lo .. hi and begin before
abbrev pub Crossed : MerkleTree → ℕ → ℕ → KnownPath → KnownPath → Type 0
Crossed t lo hi r0 r = Gains t (Crosses lo hi r0.leaf) r0 r

-- no node was pushed yet
pub crossed_none : (t : MerkleTree) (lo : ℕ) (r0 : KnownPath) → Crossed t lo lo r0 r0
crossed_none t lo r0 = record {
  height = refl;
  leaf = refl;
  noted = λ j below cross. absurd (omega (arith, cross.after, cross.to));
  kept = λ j off. refl;
}

-- a node that begins before a cover's last one, and ends with it, begins before the cover
begins_outside : (t : MerkleTree) (lo j s : ℕ) (p : Placed) (ps : List Placed) → IsCoverFromEnd t lo (past_leaf p.z p.i) (p ∷ ps) → first_leaf j s < first_leaf p.z p.i → past_leaf j s ≡ past_leaf p.z p.i → first_leaf j s < lo
unfolding LastAtLeast
begins_outside t lo j s p ps c before ends =
    elim (cases_lt (first_leaf j s) lo) [
      | inl lt ↦ lt
      | inr ge ↦
          let At : ℕ → Type 0 = λ hi. IsCoverFromEnd t lo hi (p ∷ ps) in
          let low = last_at_least t lo j s (p ∷ ps) (subst At (sym ends) c) ge in
          let high = higher p.z p.i j s (sym ends) before in
          absurd (omega arith)
    ]

-- one node more of the cover is pushed
pub crossed_more : (t : MerkleTree) (lo hi : ℕ) (ps : List Placed) (k : ℕ) (p : Placed) (r0 r r2 : KnownPath) → CoverAt t lo hi ps k p → Crossed t lo (first_leaf p.z p.i) r0 r → Pushed t 0 p r r2 → Crossed t lo (past_leaf p.z p.i) r0 r2
crossed_more t lo hi ps k p r0 r r2 at now push =
    let At : (j : ℕ) → (l : ℕ) → Type 0 = λ j l. Completes 0 p l j in
    let low : lo ≤ first_leaf p.z p.i = cover-le t lo (first_leaf p.z p.i) (reverse (take k ps)) (from_end at.before) in
    record {
      height = push.height ∙ now.height;
      leaf = push.leaf ∙ now.leaf;
      noted = λ j below cross.
          elim (cases_lt (first_leaf p.z p.i) (past_leaf j (sibling_index r0.leaf j))) [
            | inr early ↦
                push.kept j (λ _ done. let d = subst (At j) now.leaf done in omega (arith, d.ends, first-lt-past p.z p.i))
                ∙ now.noted j below (record { before = cross.before; after = cross.after; to = early })
            | inl late ↦
                let wide : p.z ≤ j =
                elim (cases_lt j p.z) [
                  | inl lt ↦ absurd (let b = lies_inside p.z p.i j (sibling_index r0.leaf j) (omega arith) late in omega (arith, cross.before))
                  | inr ge ↦ ge
                ]
                in
                let done : Completes 0 p r0.leaf j = record {
                  from = omega arith;
                  before = omega (arith, cross.before);
                  ends = ends_with p.z p.i j (sibling_index r0.leaf j) wide late cross.to;
                } in
                push.noted j (omega (arith, now.height)) (subst (At j) (sym now.leaf) done) ∙ ap (λ (l : ℕ). Some (sibling t l j)) now.leaf
          ];
      kept = λ j off.
          push.kept j (λ below done.
          let d = subst (At j) now.leaf done in
          off (omega (arith, now.height)) (record {
            before = begins_outside t lo j (sibling_index r0.leaf j) p (reverse (take k ps)) at.upto d.before d.ends;
            after = omega (arith, d.ends, first-lt-past p.z p.i);
            to = omega (arith, d.ends);
          }))
          ∙ now.kept j (λ below cross. off below (record { before = cross.before; after = cross.after; to = omega (arith, cross.to, first-lt-past p.z p.i) }));
    }

-- the nodes of a cover before place k are on the stack
pub record Gathering (t : MerkleTree) (lo : ℕ) (ps : List Placed) (k : ℕ) (s : List Placed) (r0 r : KnownPath) : Type 0 where
  pub end : ℕ
  pub upto : IsCover t lo end (take k ps)
  pub stacked : IsCover t 0 end s
  pub crossed : Crossed t lo end r0 r

-- the same nodes end at the same leaf
same_end : (t : MerkleTree) (lo a b : ℕ) (ps : List Placed) → IsCoverFromEnd t lo a ps → IsCoverFromEnd t lo b ps → a ≡ b
same_end t lo a b [] c d = sym c ∙ d
same_end t lo a b (p ∷ ps) c d = sym c.1 ∙ d.1

module _ (t : MerkleTree) (lo hi : ℕ) (ps : List Placed) (whole : IsCover t lo hi ps) (k : ℕ) (s : List Placed) (r0 r : KnownPath) (now : Gathering t lo ps k s r0 r) where
  -- the next node begins where the stack ends
  pub gathering_next : (p : Placed) → k < length ps → p ≡ get_or ps k p → IsCover t 0 (first_leaf p.z p.i) s
  gathering_next p within read =
      let at = cover_at t lo hi ps k p whole within read in
      let At : ℕ → Type 0 = λ x. IsCover t 0 x s in
      subst At (same_end t lo now.end (first_leaf p.z p.i) (reverse (take k ps)) (from_end now.upto) (from_end at.before)) now.stacked

  -- one node more is on the stack
  pub gathering_more : (p : Placed) (s2 : List Placed) (r2 : KnownPath) → k < length ps → p ≡ get_or ps k p → IsCover t 0 (past_leaf p.z p.i) s2 → Pushed t 0 p r r2 → Gathering t lo ps (k + 1) s2 r0 r2
  gathering_more p s2 r2 within read cover push =
      let at = cover_at t lo hi ps k p whole within read in
      let here : now.end ≡ first_leaf p.z p.i = same_end t lo now.end (first_leaf p.z p.i) (reverse (take k ps)) (from_end now.upto) (from_end at.before) in
      let Cr : ℕ → Type 0 = λ x. Crossed t lo x r0 r in
      let one_more : take (k + 1) ps ≡ take k ps ++ p ∷ [] = take_more ps k p within ∙ ap (λ (x : Placed). take k ps ++ x ∷ []) (sym read) in
      let Back : List Placed → Type 0 = λ xs. IsCoverFromEnd t lo (past_leaf p.z p.i) xs in
      record {
        end = past_leaf p.z p.i;
        upto = cover_of (subst Back (sym (reverse_push (take k ps) p) ∙ ap reverse (sym one_more)) at.upto);
        stacked = cover;
        crossed = crossed_more t lo hi ps k p r0 r r2 at (subst Cr here now.crossed) push;
      }

  -- the whole cover is on the stack
  pub gathering_all : length ps ≤ k → (hi ≡ now.end)
  gathering_all le =
      let At : List Placed → Type 0 = λ xs. IsCoverFromEnd t lo now.end (reverse xs) in
      same_end t lo hi now.end (reverse ps) (from_end whole) (subst At (take_all k ps le) (from_end now.upto))
