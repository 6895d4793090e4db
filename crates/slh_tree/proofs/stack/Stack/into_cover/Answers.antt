-- The ends of the first and the last node are those of the cover.
use Rattle.std.proofs.Common.{◌≡◌, ℕ, ◌-◌, List, length, get_or, arith, ap, sym, subst, ◌∙◌}
use Rattle.slh_tree.specs.declared.cover.Placed.{Placed}
use Rattle.slh_tree.proofs.CoverParts.{IsLow, cover-first, cover-last}
use Rattle.slh_tree.proofs.stack.Stack.into_cover.Goals as goal

pub first_leaf-lo-requires : goal.first_leaf-lo-requires
first_leaf-lo-requires c =
    let p = c.index-deref-0.result in
    let read : p ≡ get_or c.self.inside.nodes.items 0 p = c.index-deref-0.is ∙ ap (λ (xs : List Placed). get_or xs 0 p) c.deref.ensures.0 in
    let low : IsLow p = subst IsLow (sym read) (c.self.invariant 0 p (omega (arith, c.requires, ap length c.self.view_is))) in
    record { height = low.0; within = low.1 }

pub past_leaf-hi-requires : goal.past_leaf-hi-requires
past_leaf-hi-requires c =
    let p = c.index-deref-len.result in
    let k = c.len.result - 1 in
    let read : p ≡ get_or c.self.inside.nodes.items k p = c.index-deref-len.is ∙ ap (λ (xs : List Placed). get_or xs k p) c.deref-2.ensures.0 in
    let low : IsLow p =
    subst IsLow (sym read) (c.self.invariant k p (omega (arith, c.requires, c.len.ensures.value, ap length c.self.view_is)))
    in
    record { height = low.0; within = low.1 }

pub returns-clause-range : goal.returns-clause-range
returns-clause-range c t lo hi cover =
    let p = c.index-deref-0.result in
    let q = c.index-deref-len.result in
    let size : c.len.result ≡ length c.args.self = c.len.ensures.value ∙ ap length c.self.view_is in
    let read : p ≡ get_or c.args.self 0 p = c.index-deref-0.is ∙ ap (λ (xs : List Placed). get_or xs 0 p) (c.deref.ensures.0 ∙ c.self.view_is) in
    let read' : q ≡ get_or c.args.self (length c.args.self - 1) q =
    c.index-deref-len.is
    ∙ ap (λ (xs : List Placed). get_or xs (c.len.result - 1) q) (c.deref-2.ensures.0 ∙ c.self.view_is)
    ∙ ap (λ (n : ℕ). get_or c.args.self (n - 1) q) size
    in (
      c.first_leaf-lo.ensures ∙ cover-first t lo hi c.args.self p cover c.requires read,
      c.past_leaf-hi.ensures ∙ cover-last t lo hi c.args.self q cover c.requires read',
    )
