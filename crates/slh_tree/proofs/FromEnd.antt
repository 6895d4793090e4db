-- A cover read from its last node.
use Rattle.std.proofs.Common.{◌≡◌, ℕ, List, [], ◌∷◌, ◌++◌, reverse, All, sym, ◌∙◌, ap, subst, refl}
use Rattle.std.proofs.lemmas.List.{reverse-append, reverse-reverse, append_assoc, append-nil}
use Rattle.std.proofs.lemmas.List.Elements.{All-nil, All-cons, All-head, All-tail}
use Rattle.slh_tree.specs.declared.cover.Placed.{Placed}
use Rattle.slh_tree.specs.Tree.{MerkleTree}
use Rattle.slh_tree.specs.Cover.{first_leaf, past_leaf, IsNodeOf, EndsApart, Spans, NoSiblingsMeet, IsCover, IsCoverFromEnd}

-- the last node read, the first of `qs`, and the next one, the first of `ps`, are apart
abbrev Apart : List Placed → List Placed → Type 0
Apart qs [] = Unit {0}
Apart qs (p ∷ ps) = EndsApart qs p

-- the first node is read
apart_next : (p : Placed) (qs ps : List Placed) → NoSiblingsMeet (p ∷ ps) → Apart (p ∷ qs) ps
apart_next p qs [] apart = tt
apart_next p qs (q ∷ ps) apart = apart.0

-- what follows the first node
apart_rest : (p : Placed) (ps : List Placed) → NoSiblingsMeet (p ∷ ps) → NoSiblingsMeet ps
apart_rest p [] apart = tt
apart_rest p (q ∷ ps) apart = apart.1

-- a node is put before the list
apart_more : (p : Placed) (qs ps : List Placed) → Apart (p ∷ qs) ps → NoSiblingsMeet ps → NoSiblingsMeet (p ∷ ps)
apart_more p qs [] here rest = tt
apart_more p qs (q ∷ ps) here rest = (here, rest)

-- one node more is read
reverse_more : (p : Placed) (ps qs : List Placed) → reverse ps ++ p ∷ qs ≡ reverse (p ∷ ps) ++ qs
reverse_more p ps qs = sym (append_assoc (reverse ps) (p ∷ []) qs) ∙ ap (λ (xs : List Placed). xs ++ qs) (sym (reverse-append (p ∷ []) ps))

-- the nodes `qs` were read, the nodes `ps` follow
read_on :
    (t : MerkleTree) (lo at hi : ℕ) (qs ps : List Placed) →
    IsCoverFromEnd t lo at qs →
    All (IsNodeOf t) ps →
    Spans at hi ps →
    NoSiblingsMeet ps →
    Apart qs ps →
    IsCoverFromEnd t lo hi (reverse ps ++ qs)
read_on t lo at hi qs [] read own spans apart here =
    let At : ℕ → Type 0 = λ x. IsCoverFromEnd t lo x qs in subst At spans read
read_on t lo at hi qs (p ∷ ps) read own spans apart here =
    let At : ℕ → Type 0 = λ x. IsCoverFromEnd t lo x qs in
    let more : IsCoverFromEnd t lo (past_leaf p.z p.i) (p ∷ qs) =
    (All-head (IsNodeOf t) p ps own, refl, here, subst At (sym spans.0) read)
    in
    let Whole : List Placed → Type 0 = λ xs. IsCoverFromEnd t lo hi xs in
    subst Whole (reverse_more p ps qs)
    (read_on t lo (past_leaf p.z p.i) hi (p ∷ qs) ps more (All-tail (IsNodeOf t) p ps own) spans.1 (apart_rest p ps apart) (apart_next p qs ps apart))

-- the nodes `qs` are put back before a cover
put_back : (t : MerkleTree) (lo at hi : ℕ) (qs ps : List Placed) → IsCoverFromEnd t lo at qs → IsCover t at hi ps → Apart qs ps → IsCover t lo hi (reverse qs ++ ps)
put_back t lo at hi [] ps read c here = let At : ℕ → Type 0 = λ x. IsCover t x hi ps in subst At (sym read) c
put_back t lo at hi (q ∷ qs) ps read c here =
    let At : ℕ → Type 0 = λ x. Spans x hi ps in
    let more : IsCover t (first_leaf q.z q.i) hi (q ∷ ps) =
    record {
      own = All-cons (IsNodeOf t) q ps read.0 c.own;
      spans = (refl, subst At (sym read.1) c.spans);
      apart = apart_more q qs ps here c.apart;
    }
    in
    let Whole : List Placed → Type 0 = λ xs. IsCover t lo hi xs in
    subst Whole (reverse_more q qs ps) (put_back t lo (first_leaf q.z q.i) hi qs (q ∷ ps) read.3 more read.2)

-- no nodes cover no leaves
pub no_nodes : (t : MerkleTree) (lo : ℕ) → IsCover t lo lo []
no_nodes t lo = record { own = All-nil (IsNodeOf t); spans = refl; apart = tt }

-- a cover can be read from its last node
pub from_end : {t : MerkleTree} {lo hi : ℕ} {ps : List Placed} → IsCover t lo hi ps → IsCoverFromEnd t lo hi (reverse ps)
from_end {t} {lo} {hi} {ps} c =
    let At : List Placed → Type 0 = λ xs. IsCoverFromEnd t lo hi xs in
    subst At (append-nil (reverse ps)) (read_on t lo lo hi [] ps refl c.own c.spans c.apart (nothing_read ps))
  where
    nothing_read : (ps : List Placed) → Apart [] ps
    nothing_read [] = tt
    nothing_read (p ∷ ps) = tt

-- what is read so from its last node is a cover
pub cover_of : {t : MerkleTree} {lo hi : ℕ} {ps : List Placed} → IsCoverFromEnd t lo hi (reverse ps) → IsCover t lo hi ps
cover_of {t} {lo} {hi} {ps} read =
    let At : List Placed → Type 0 = λ xs. IsCover t lo hi xs in
    subst At (append-nil (reverse (reverse ps)) ∙ reverse-reverse ps)
    (put_back t lo hi hi (reverse ps) [] read (no_nodes t hi) (nothing_follows (reverse ps)))
  where
    nothing_follows : (qs : List Placed) → Apart qs []
    nothing_follows qs = tt
