-- The first k places have the digest's groups of a bits, and the others their zeros.
use Rattle.std.proofs.Common.{◌≡◌, ◌≤◌, length, get_or, refl, ap, sym, ◌∙◌, arith}
use Rattle.std.proofs.lemmas.List.{length-take-le}
use Rattle.std.proofs.Math.ListN.{get_or-append}
use Rattle.slh_params.specs.Bits.{base_2b}
use Rattle.slh_params.specs.ParamSet.{params}
use Rattle.slh_params.proofs.Groups.{length-base_2b}
use Rattle.slh_params.proofs.Bounds.{k_high}
use Rattle.slh_few.proofs.Ends.{zeros_after}
use Rattle.slh_few.proofs.fors_parts.fors_indices.Goals as goal

pub slice_bounds-base_2b-end : goal.slice_bounds-base_2b-end
slice_bounds-base_2b-end c =
    let few : c.k-count.result ≤ 64 = omega (arith, c.k-count.ensures, k_high c.args.set) in
    sym (length-take-le c.k-count.result _ few)

pub returns-clause-rest : goal.returns-clause-rest
returns-clause-rest c = λ j l.
    let few : c.k-count.result ≤ 64 = omega (arith, c.k-count.ensures, k_high c.args.set) in
    let s : length c.base_2b.new.out ≡ c.k-count.result = ap length c.base_2b.ensures ∙ length-base_2b c.args.md.now _ _ ∙ length-take-le c.k-count.result _ few in
    zeros_after c.base_2b.new.out c.k-count.result 64 j s (omega (arith, c.k-count.ensures))

pub returns-clause-indices : goal.returns-clause-indices
returns-clause-indices c = λ j l.
    let p = params c.args.set in
    let few : c.k-count.result ≤ 64 = omega (arith, c.k-count.ensures, k_high c.args.set) in
    let s : length c.base_2b.new.out ≡ c.k-count.result = ap length c.base_2b.ensures ∙ length-base_2b c.args.md.now _ _ ∙ length-take-le c.k-count.result _ few in
    let e : c.base_2b.new.out ≡ base_2b c.args.md.now p.a p.k =
    c.base_2b.ensures ∙ rw (length-take-le c.k-count.result _ few, c.a.ensures, c.k-count.ensures) refl in
    get_or-append c.base_2b.new.out _ 0 j (omega (arith, s, c.k-count.ensures, l)) ∙ ap (λ xs. get_or xs j 0) e
