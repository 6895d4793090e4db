-- Each part gives the root of its item, and so does its hypertree signature.
use Rattle.std.proofs.Common.{◌<◌, List, [], ◌∷◌, length, sym, ap, ◌∙◌, arith}
use Rattle.std.proofs.lemmas.List.{get_or_default}
use Rattle.slh_few.specs.declared.hypertree.HtSignature.{HtSignature}
use Rattle.slh_core.specs.EightSignatures.{root_of}
use Rattle.slh_core.proofs.eight.verify_side_by_side.Goals as goal

head_of : {X : Type 0} → (xs : List X) → 0 < length xs → X
head_of [] some = absurd (omega arith)
head_of (x ∷ _) _ = x

pub parts_of-parts-requires : goal.parts_of-parts-requires
parts_of-parts-requires c = λ j item lane.
    let of_set = c.requires j item lane in
    rw (sym of_set.0) at of_set.1

pub ht_roots_from_sigs-requires : goal.ht_roots_from_sigs-requires
ht_roots_from_sigs-requires c =
    let first = head_of c.args.items.now (omega (arith, c.told-items)) in
    c.signatures.ensures.under c.args.set _ (c.parts_of-parts.ensures c.args.set first c.requires)

pub returns : goal.returns
returns c = λ j valid item lane.
    let set = c.args.set in
    let first = head_of c.args.items.now (omega (arith, c.told-items)) in
    let giving = c.parts_of-parts.ensures set first c.requires in
    let part = head_of c.parts_of-parts.result (omega (arith, c.parts_of-parts.type_inv)) in
    let x : HtSignature = record {
      context = record { ref_ptr = part.sig_ht.ref_ptr; now = part.context };
      idx_tree = 0;
      idx_leaf = 0;
      msg = record { ref_ptr = part.sig_ht.ref_ptr; now = part.pk_fors };
      sig = part.sig_ht;
    } in
    let d = part.pk_fors in
    let own = get_or_default c.args.items.now j first item (omega (arith, lane, c.told-items)) in
    let root = c.ht_roots_from_sigs.ensures.roots j x d lane ∙ c.signatures.ensures.roots set _ giving j x lane ∙ ap root_of own in
    let of_set = c.requires j item lane in
    let long = rw (sym of_set.0) at of_set.1 in
    let verdict = c.verdicts.ensures j valid item d lane in
    (λ is. record { len = long; root = sym root ∙ verdict.0 is }, λ v. verdict.1 (root ∙ v.root))
