-- A tree that is not cut has one range, whose node is its root. Else the copies are the leaves of the tree above.
use Rattle.std.proofs.Common.{◌≡◌, ℕ, ◌+◌, ◌*◌, ◌^◌, List, ◌++◌, length, ap, ◌∙◌, arith}
use Rattle.std.proofs.lemmas.List.{nil_from_length}
use Rattle.slh_tree.specs.Tree.{node}
use Rattle.slh_tree.specs.Climb.{path_below}
use Rattle.slh_few.specs.Chunks.{end_to_end, chunk}
use Rattle.slh_few.proofs.Ends.{end_to_end-none, end_to_end-more, length-end_to_end, chunk-end_to_end}
use Rattle.slh_jobs.specs.Ranges.{node_given}
use Rattle.slh_jobs.specs.UpperTrees.{length-node_given}
use Rattle.slh_jobs.specs.declared.shape.Shape.{Shape}
use Rattle.slh_jobs.proofs.upper_tree.put_upper.Goals as goal

-- the nodes of the ranges
abbrev nodes : Shape → List ℕ → ℕ → ℕ → List ℕ
nodes s bytes first r = node_given s bytes (first + r)

-- one range
one_copy : (s : Shape) (bytes : List ℕ) (first : ℕ) → s.levels ≡ 0 → end_to_end (nodes s bytes first) (2 ^ s.levels) ≡ node_given s bytes (first + 0)
one_copy s bytes first none =
    ap (λ (l : ℕ). end_to_end (nodes s bytes first) (2 ^ l)) none ∙ end_to_end-more (nodes s bytes first) 0
    ∙ ap (λ (xs : List ℕ). xs ++ nodes s bytes first 0) (end_to_end-none (nodes s bytes first))

pub node_of-requires : goal.node_of-requires
node_of-requires g c =
    let x = c.args.ranges.now in
    let none : x.given.shape.levels ≡ 0 = omega arith in
    let one : c.args.copies.now ≡ node_given x.given.shape x.given.bytes.now (x.first + 0) = c.requires.copies ∙ one_copy x.given.shape x.given.bytes.now x.first none in
    omega (arith, c.requires.shape.n_high, ap length one ∙ length-node_given x.given.shape x.given.bytes.now (x.first + 0))

pub returns-then-ranges-eq0-clause-path : goal.returns-then-ranges-eq0-clause-path
unfolding path_below
returns-then-ranges-eq0-clause-path g c =
    let s = c.args.ranges.now.given.shape in
    let none : s.levels ≡ 0 = omega arith in
    let short : s.levels * s.n ≡ 0 = ap (λ l. l * s.n) none ∙ omega arith in
    rw none (nil_from_length c.args.out.now (c.requires.out ∙ short))

pub returns-then-ranges-eq0-clause-root : goal.returns-then-ranges-eq0-clause-root
unfolding node
returns-then-ranges-eq0-clause-root g c =
    let x = c.args.ranges.now in
    let none : x.given.shape.levels ≡ 0 = omega arith in
    rw none (c.node_of.ensures ∙ c.requires.copies ∙ one_copy x.given.shape x.given.bytes.now x.first none)

pub returns-then-ranges-eq0-clause-len : goal.returns-then-ranges-eq0-clause-len
returns-then-ranges-eq0-clause-len g c =
    let x = c.args.ranges.now in
    let none : x.given.shape.levels ≡ 0 = omega arith in
    ap length (c.node_of.ensures ∙ c.requires.copies ∙ one_copy x.given.shape x.given.bytes.now x.first none)
    ∙ length-node_given x.given.shape x.given.bytes.now (x.first + 0)

pub path_from_leaves-requires-clause-len : goal.path_from_leaves-requires-clause-len
path_from_leaves-requires-clause-len g c =
    let x = c.args.ranges.now in
    let s = x.given.shape in
    ap length c.requires.copies
    ∙ length-end_to_end (nodes s x.given.bytes.now x.first) s.n (2 ^ s.levels) (λ j lt. length-node_given s x.given.bytes.now (x.first + j))

pub path_from_leaves-requires-clause-leaves : goal.path_from_leaves-requires-clause-leaves
path_from_leaves-requires-clause-leaves g c = λ i lt.
    let x = c.args.ranges.now in
    let s = x.given.shape in
    ap (λ (xs : List ℕ). chunk s.n xs i) c.requires.copies
    ∙ chunk-end_to_end (nodes s x.given.bytes.now x.first) s.n (2 ^ s.levels) i lt (λ j less. length-node_given s x.given.bytes.now (x.first + j))
