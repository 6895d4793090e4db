-- Eight verdicts more, or one.
use Rattle.std.proofs.Common.{◌≡◌, ℕ, ◌+◌, ◌-◌, ◌<◌, ◌≤◌, List, length, take, drop, ◌++◌, get_or, sym, ap, ◌∙◌, arith}
use Rattle.std.proofs.lemmas.List.{get_or-drop, get_or-take, get_or_append_left, get_or-append-add, get_or_default, length-take, length-take-le, length-drop}
use borrow.Rule.Slice.PartMut.{post_of}
use Rattle.slh_c.proofs.VerdictsOfMany.{next_eight, next_one}
use Rattle.slh_c.proofs.many.put_next.Goals as goal

-- a part of a list written over: what is before it stays, and what is in it is the part
before_part : (at : ℕ) (xs part rest : List ℕ) (j d : ℕ) → at ≤ length xs → j < at → get_or (take at xs ++ (part ++ rest)) j d ≡ get_or xs j d
before_part at xs part rest j d le low =
    let long = length-take-le at xs le in
    get_or_append_left (take at xs) (part ++ rest) d j (omega (arith, long, low)) ∙ get_or-take at xs j d low

in_part : (at : ℕ) (xs part rest : List ℕ) (k d : ℕ) → at ≤ length xs → k < length part
    → get_or (take at xs ++ (part ++ rest)) (at + k) d ≡ get_or part k d
in_part at xs part rest k d le few =
    let long : length (take at xs) + k ≡ at + k = omega (arith, length-take-le at xs le) in
    ap (λ (n : ℕ). get_or (take at xs ++ (part ++ rest)) n d) (sym long) ∙ get_or-append-add (take at xs) (part ++ rest) k d
    ∙ get_or_append_left part rest d k few

pub returns-in-Some-clause-verdicts : goal.returns-in-Some-clause-verdicts
returns-in-Some-clause-verdicts c = λ before.
    let at : ℕ = c.args.at in
    let old = c.args.verdicts.now in
    let items = c.args.items.now in
    let enough = c.in-Some.ensures.enough in
    let inside : at ≤ length old = omega (arith, c.requires.at, c.requires.len) in
    let made = c.copy_from_slice.new.self in
    let rest = post_of at (at + 8 - at) old in
    let same : made ≡ c.in-Some.eight = c.copy_from_slice.ensures.after in
    let left : length (take (length items - at) (drop at items)) ≤ length items - at = omega (arith, length-take (length items - at) (drop at items)) in
    let long : length made ≡ 8 = omega (arith, c.copy_from_slice.ensures.len, length-take (at + 8 - at) (drop at old), length-drop at old, enough, left, c.requires.len) in
    next_eight c.args.set at items (take (length items - at) (drop at items)) old _ c.in-Some.eight
    (λ j d low. before_part at old made rest j d inside low)
    (λ k d few. in_part at old made rest k d inside (omega (arith, long, few)) ∙ ap (λ (xs : List ℕ). get_or xs k d) same)
    (λ k item few. get_or-take (length items - at) (drop at items) k item (omega (arith, left, enough, few)) ∙ get_or-drop at items k item)
    (λ k d item few. c.in-Some.ensures.verdicts k d item few) before

pub returns-in-None-clause-verdicts : goal.returns-in-None-clause-verdicts
returns-in-None-clause-verdicts c = λ before.
    let items = c.args.items.now in
    let told = c.slh_verify.ensures in
    next_one c.args.set c.args.at items c.args.verdicts.now (get_or items c.args.at _) c.slh_verify.result c.requires.at c.requires.len
    (get_or_default items c.args.at _ _ c.requires.at) (told.valid, told.refused, told.judged) before
