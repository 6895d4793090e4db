-- The steps of a board are allowed by its rule, and what each tells the seat that makes it.
use Rattle.std.proofs.Common.{◌≡◌, ℕ, zero, suc, ◌+◌, ◌<◌, ◌≤◌, ◌^◌, ◌%◌, List, [], ◌∷◌, set, Bool, true, false, cond, min, nat_lt, slice_index, slice_set, bit_or, refl, sym, ap, ◌∙◌, subst, arith}
use Rattle.std.specs.List.{All, sum_by}
use Rattle.std.proofs.lemmas.Bool.Decides.{nat_tests}
use mathlib.Core.Option.{some, none}
use lib.ListN.{get_elem?}
use Rattle.atomic_table.specs.Table.{Me, Allows, Splits, Joins, keeps, step}
use Rattle.atomic_table.proofs.Lists.{set_again}
use Rattle.slh_board.specs.declared.view.View.{View}
use Rattle.slh_board.specs.declared.view.Plan.{Plan}
use Rattle.slh_board.specs.Counts.{times, once_below}
use Rattle.slh_board.specs.Views.{spent, one_less, one_seat, both, looked, drew, with_number, with_done, with_raised}
use Rattle.slh_board.specs.Rule.{one_if, Keeps, Holds, Looks, Draws, Raises}
use Rattle.slh_board.proofs.Totals.{part, All-drawn}
use Rattle.slh_board.proofs.Keeps.{sitting, next_small, draw_hits, draw_misses, look_keeps, raise_keeps, split_keeps, join_keeps}

-- halt is 0 or 1
pub halt_small : (plan : Plan) (next halt : ℕ) (views : List View) → Keeps plan next halt views → halt ≤ 1
halt_small plan next halt views k = let r = k.raised in omega arith

-- a raised view has set halt
pub raised_sets : (plan : Plan) (next halt : ℕ) (views : List View) (i : ℕ) (v : View) → Keeps plan next halt views → get_elem? views i ≡ some v → v.raised ≡ true → halt ≡ 1
raised_sets plan next halt views i v k e r =
    let p : one_if v.raised ≤ sum_by (λ (u : View). one_if u.raised) views = part (λ (u : View). one_if u.raised) views i v e in
    let o : one_if v.raised ≡ 1 = ap one_if r in
    let h = k.raised in
    omega arith

-- each number that a view drew is below next
pub drawn_below : (plan : Plan) (n halt : ℕ) (views : List View) (i : ℕ) (v : View) → Keeps plan n halt views → get_elem? views i ≡ some v → All (λ y. y < n) v.drawn
drawn_below plan n halt views i v k e =
    All-drawn n v.drawn
    (λ x.
    let p = part (λ (u : View). times x u.drawn) views i v e in
    let o = k.each_once x in
    let m = once_below_min x n plan.jobs in
    omega (arith, p, o, m))
  where
    once_below_min : (x n m : ℕ) → once_below x (min n m) ≤ once_below x n
    once_below_min x n m = grind (arith, nat_tests)

-- the words of a state
first_word : (ws : List ℕ) (a b : ℕ) → ws ≡ a ∷ b ∷ [] → slice_index ws 0 ≡ a
first_word ws a b e = ap (λ (l : List ℕ). slice_index l 0) e

second_word : (ws : List ℕ) (a b : ℕ) → ws ≡ a ∷ b ∷ [] → slice_index ws 1 ≡ b
second_word ws a b e = ap (λ (l : List ℕ). slice_index l 1) e

-- a look, whatever halt is
look_cases : (plan : Plan) (next halt : ℕ) (views : List View) (i : ℕ) (v : View) → Keeps plan next halt views → get_elem? views i ≡ some v → 1 ≤ v.seats → Keeps plan next halt (set views i (looked v halt))
look_cases plan next zero views i v k e some_seat = subst (λ l. Keeps plan next zero l) (sym (set_again views i v e)) k
look_cases plan next (suc h) views i v k e some_seat =
    let small = halt_small plan next (suc h) views k in
    let none_more : h ≡ 0 = omega arith in
    let one : suc h ≡ 1 = ap suc none_more in
    subst (λ w. Keeps plan next (suc h) (set views i w)) (sym (ap (λ (m : ℕ). looked v (suc m)) none_more))
    (look_keeps plan next (suc h) views i v k e (sitting plan next (suc h) views i v k e some_seat) one)

-- a look is allowed
pub may_look : (plan : Plan) (id : ℕ) (me : Me ℕ View) (slots : ℕ) → 1 ≤ me.0.seats → Allows (Holds plan) slots id me 1 (λ n. n) (Looks (step slots 1 0 0 none) me)
may_look plan id me slots some_seat = λ s h len at small.
    let v = me.0 in
    let next = h.0 in
    let halt = h.1 in
    let at1 = second_word s.words next halt h.2 in
    let w = looked v halt in (
      w,
      keeps,
      tt,
      (
        next,
        halt,
        ap (λ (l : List ℕ). slice_set l 1 (slice_index l 1)) h.2,
        look_cases plan next halt s.views id v h.3 at some_seat,
      ),
      (ap (looked v) (sym at1), refl, λ r z. let one = raised_sets plan next halt s.views id v h.3 at r in absurd (omega (arith, one, z, at1))),
    )

-- a draw, whatever next is
draw_cases : (plan : Plan) (next halt : ℕ) (views : List View) (i : ℕ) (v : View) → Keeps plan next halt views → get_elem? views i ≡ some v → v.seats ≡ 1 → v.done ≡ 0
    → (b : Bool) → nat_lt next v.jobs ≡ b → Keeps plan (next + 1) halt (set views i (cond b (with_number v next) (with_done v)))
draw_cases plan next halt views i v k e one fresh true is =
    let s = sitting plan next halt views i v k e (omega arith) in
    let lt : next < v.jobs = grind (arith, nat_tests) in
    draw_hits plan next halt views i v k e s (let j = s.jobs in omega arith)
draw_cases plan next halt views i v k e one fresh false is =
    let s = sitting plan next halt views i v k e (omega arith) in
    let ge : v.jobs ≤ next = grind (arith, nat_tests) in
    draw_misses plan next halt views i v k e s fresh (let j = s.jobs in omega arith)

-- a draw is allowed
pub may_draw : (plan : Plan) (id : ℕ) (me : Me ℕ View) (slots : ℕ) → me.0.seats ≡ 1 → me.0.done ≡ 0 → Allows (Holds plan) slots id me 0 (λ n. (n + 1) % 2 ^ 64) (Draws (step slots 0 1 0 none) me)
may_draw plan id me slots one fresh = λ s h len at small.
    let v = me.0 in
    let next = h.0 in
    let halt = h.1 in
    let at0 = first_word s.words next halt h.2 in
    let w = drew v next in
    let le = next_small plan next halt s.views h.3 in
    let stays : (next + 1) % 2 ^ 64 ≡ next + 1 = mod_small (next + 1) (omega arith) in (
      w,
      keeps,
      tt,
      (
        next + 1,
        halt,
        ap (λ (l : List ℕ). slice_set l 0 ((slice_index l 0 + 1) % 2 ^ 64)) h.2 ∙ ap (λ (n : ℕ). n ∷ halt ∷ []) stays,
        draw_cases plan next halt s.views id v h.3 at one fresh (nat_lt next v.jobs) refl,
      ),
      (ap (drew v) (sym at0), refl, subst (λ n. All (λ y. y < n) v.drawn) (sym at0) (drawn_below plan next halt s.views id v h.3 at)),
    )
  where
    mod_small : (n : ℕ) → n < 2 ^ 64 → n % 2 ^ 64 ≡ n
    mod_small n h = omega arith

-- a bit that is set
bit_or_one : (n : ℕ) → n ≤ 1 → bit_or n 1 ≡ 1
bit_or_one zero h = refl
bit_or_one (suc n) h = let z : n ≡ 0 = omega arith in ap (λ m. bit_or (suc m) 1) z

-- a stop is allowed
pub may_raise : (plan : Plan) (id : ℕ) (me : Me ℕ View) (slots : ℕ) → 1 ≤ me.0.seats → Allows (Holds plan) slots id me 1 (λ n. bit_or n 1) (Raises (step slots 1 1 0 none) me)
may_raise plan id me slots some_seat = λ s h len at small.
    let v = me.0 in
    let next = h.0 in
    let halt = h.1 in
    let w = with_raised v in
    let set1 : bit_or halt 1 ≡ 1 = bit_or_one halt (halt_small plan next halt s.views h.3) in (
      w,
      keeps,
      tt,
      (
        next,
        1,
        ap (λ (l : List ℕ). slice_set l 1 (bit_or (slice_index l 1) 1)) h.2 ∙ ap (λ (n : ℕ). next ∷ n ∷ []) set1,
        raise_keeps plan next halt s.views id v h.3 at (sitting plan next halt s.views id v h.3 at some_seat),
      ),
      (refl, refl),
    )

-- a split is allowed
pub may_split : (plan : Plan) (id : ℕ) (v : View) → 2 ≤ v.seats → v.done ≡ 0 → Splits (Holds plan) id v (one_less v) (one_seat v)
may_split plan id v two fresh = λ s h at. (h.0, h.1, h.2, split_keeps plan h.0 h.1 s.views id v h.3 at two fresh)

-- a join is allowed
pub may_join : (plan : Plan) (id : ℕ) (v : View) (other : ℕ) (u : View) → 1 ≤ v.seats → 1 ≤ u.seats → Joins (Holds plan) id v other u (both v u) spent
may_join plan id v other u some_v some_u = λ s h at apart there. (h.0, h.1, h.2, join_keeps plan h.0 h.1 s.views id v other u h.3 at there apart some_v some_u)
