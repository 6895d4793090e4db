-- While the last node is the left sibling, both are joined; then the stack is a cover again, and has room.
use Rattle.std.proofs.Common.{◌≡◌, List, [], ◌∷◌, ◌++◌, length, arith, sym, ◌∙◌, ap, subst, lit<}
use Rattle.slh_tree.specs.declared.cover.Placed.{Placed}
use Rattle.slh_tree.specs.Cover.{past_leaf, IsCover}
use Rattle.std.proofs.lemmas.List.{length_push}
use Rattle.std.proofs.lemmas.List.Elements.{All-push}
use Rattle.slh_tree.proofs.CoverParts.{IsLow, low_enough}
use Rattle.slh_tree.proofs.Covers.{cover-length}
use Rattle.slh_tree.proofs.Pushing.{Notes, joining_none, left_own, joining_more, joining_cover, joining_gained}
use Rattle.slh_tree.proofs.stack.Stack.push.Goals as goal

pub loop-left-init : goal.loop-left-init
loop-left-init g c = joining_none (g.T.Climbs.tree c.args.tree.now) c.args.placed c.args.self.now c.args.rec.now c.requires.own

pub join_siblings-top-requires-clause-left : goal.join_siblings-top-requires-clause-left
join_siblings-top-requires-clause-left g c =
    left_own (g.T.Climbs.tree c.args.tree.now) c.args.placed c.args.self.now c.args.rec.now c.loop-left.self c.loop-left.top c.loop-left.rec c.loop-left.invariant
    c.requires.follows.0 c.requires.follows.1 c.take_left.new.self c.in-Some.left c.in-Some.ensures.some.0

pub loop-left-preserved : goal.loop-left-preserved
loop-left-preserved g c =
    let notes : Notes c.join_siblings-top.result c.loop-left.rec c.note.new.self = record {
      height = c.note.ensures.height;
      leaf = c.note.ensures.leaf;
      noted = c.note.ensures.noted;
      kept = c.note.ensures.kept;
    } in
    joining_more (g.T.Climbs.tree c.args.tree.now) c.args.placed c.args.self.now c.args.rec.now c.loop-left.self c.loop-left.top c.loop-left.rec c.loop-left.invariant
    c.take_left.new.self c.in-Some.left c.join_siblings-top.result c.note.new.self
    c.in-Some.ensures.some.0 c.in-Some.ensures.some.1 c.join_siblings-top.ensures.node c.join_siblings-top.ensures.height c.join_siblings-top.ensures.index notes

pub push-requires : goal.push-requires
push-requires g c =
    let t = g.T.Climbs.tree c.args.tree.now in
    let cover = joining_cover t c.args.placed c.args.self.now c.args.rec.now c.loop-left.self c.loop-left.top c.loop-left.rec c.loop-left.invariant
    c.requires.follows.0 c.requires.follows.1 c.in_default.ensures.none.1 in
    let few = cover-length t _ _ _ cover c.requires.own.within (omega arith) in
    (lit< tt, omega (arith, few, length_push c.loop-left.self c.loop-left.top, ap length c.self.view_is, ap length c.in_default.ensures.none.0))

pub invariant_of-self : goal.invariant_of-self
invariant_of-self g c =
    let top : IsLow c.loop-left.top = low_enough (g.T.Climbs.tree c.args.tree.now) c.loop-left.top c.loop-left.invariant.own (omega arith) in
    rw c.push.ensures.items (All-push IsLow c.self.inside.nodes.items c.loop-left.top c.self.invariant top)

pub returns-clause-cover : goal.returns-clause-cover
returns-clause-cover g c lo cover =
    let t = g.T.Climbs.tree c.args.tree.now in
    let Whole : List Placed → Type 0 = λ xs. IsCover t lo (past_leaf c.args.placed.z c.args.placed.i) xs in
    let left : c.self.inside.nodes.items ≡ c.loop-left.self = c.self.view_is ∙ c.in_default.ensures.none.0 in
    let pushed = c.push.ensures.items ∙ ap (λ (xs : List Placed). xs ++ c.loop-left.top ∷ []) left in
    subst Whole (sym pushed)
    (joining_cover t c.args.placed c.args.self.now c.args.rec.now c.loop-left.self c.loop-left.top c.loop-left.rec c.loop-left.invariant
    lo cover c.in_default.ensures.none.1)

pub returns-clause-gained : goal.returns-clause-gained
returns-clause-gained g c lo cover =
    joining_gained (g.T.Climbs.tree c.args.tree.now) c.args.placed c.args.self.now c.args.rec.now c.loop-left.self c.loop-left.top c.loop-left.rec c.loop-left.invariant
    lo cover c.in_default.ensures.none.1
