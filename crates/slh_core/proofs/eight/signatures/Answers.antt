-- Each signature is that of its part.
use Rattle.std.proofs.Common.{◌≡◌, List, [], ◌∷◌, slice_index_or, sym, subst, arith}
use Rattle.slh_lanes.proofs.Lanes8.{below_eight}
use Rattle.slh_few.specs.HtSignatures.{IsUnder, top_root}
use Rattle.slh_few.specs.declared.hypertree.HtSignature.{HtSignature}
use Rattle.slh_core.specs.EightSignatures.{Gives}
use Rattle.slh_core.proofs.eight.signatures.Goals as goal

pub returns-clause-under : goal.returns-clause-under
returns-clause-under c = λ set root giving j x lane.
    let all : List HtSignature = c.signature.result ∷ c.signature-2.result ∷ c.signature-3.result ∷ c.signature-4.result
    ∷ c.signature-5.result ∷ c.signature-6.result ∷ c.signature-7.result ∷ c.signature-8.result ∷ [] in
    below_eight (λ k. IsUnder set (slice_index_or all k x))
    (c.signature.ensures.under set (root 0) (subst (Gives set (root 0)) (sym c.index-parts-0.is) (giving 0 c.index-parts-0.result (omega arith))))
    (c.signature-2.ensures.under set (root 1) (subst (Gives set (root 1)) (sym c.index-parts-1.is) (giving 1 c.index-parts-1.result (omega arith))))
    (c.signature-3.ensures.under set (root 2) (subst (Gives set (root 2)) (sym c.index-parts-2.is) (giving 2 c.index-parts-2.result (omega arith))))
    (c.signature-4.ensures.under set (root 3) (subst (Gives set (root 3)) (sym c.index-parts-3.is) (giving 3 c.index-parts-3.result (omega arith))))
    (c.signature-5.ensures.under set (root 4) (subst (Gives set (root 4)) (sym c.index-parts-4.is) (giving 4 c.index-parts-4.result (omega arith))))
    (c.signature-6.ensures.under set (root 5) (subst (Gives set (root 5)) (sym c.index-parts-5.is) (giving 5 c.index-parts-5.result (omega arith))))
    (c.signature-7.ensures.under set (root 6) (subst (Gives set (root 6)) (sym c.index-parts-6.is) (giving 6 c.index-parts-6.result (omega arith))))
    (c.signature-8.ensures.under set (root 7) (subst (Gives set (root 7)) (sym c.index-parts-7.is) (giving 7 c.index-parts-7.result (omega arith)))) j lane

pub returns-clause-roots : goal.returns-clause-roots
returns-clause-roots c = λ set root giving j x lane.
    let all : List HtSignature = c.signature.result ∷ c.signature-2.result ∷ c.signature-3.result ∷ c.signature-4.result
    ∷ c.signature-5.result ∷ c.signature-6.result ∷ c.signature-7.result ∷ c.signature-8.result ∷ [] in
    below_eight (λ k. top_root set (slice_index_or all k x) ≡ root k)
    (c.signature.ensures.root set (root 0) (subst (Gives set (root 0)) (sym c.index-parts-0.is) (giving 0 c.index-parts-0.result (omega arith))))
    (c.signature-2.ensures.root set (root 1) (subst (Gives set (root 1)) (sym c.index-parts-1.is) (giving 1 c.index-parts-1.result (omega arith))))
    (c.signature-3.ensures.root set (root 2) (subst (Gives set (root 2)) (sym c.index-parts-2.is) (giving 2 c.index-parts-2.result (omega arith))))
    (c.signature-4.ensures.root set (root 3) (subst (Gives set (root 3)) (sym c.index-parts-3.is) (giving 3 c.index-parts-3.result (omega arith))))
    (c.signature-5.ensures.root set (root 4) (subst (Gives set (root 4)) (sym c.index-parts-4.is) (giving 4 c.index-parts-4.result (omega arith))))
    (c.signature-6.ensures.root set (root 5) (subst (Gives set (root 5)) (sym c.index-parts-5.is) (giving 5 c.index-parts-5.result (omega arith))))
    (c.signature-7.ensures.root set (root 6) (subst (Gives set (root 6)) (sym c.index-parts-6.is) (giving 6 c.index-parts-6.result (omega arith))))
    (c.signature-8.ensures.root set (root 7) (subst (Gives set (root 7)) (sym c.index-parts-7.is) (giving 7 c.index-parts-7.result (omega arith)))) j lane
