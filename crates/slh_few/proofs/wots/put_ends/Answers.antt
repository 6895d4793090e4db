-- Each chain is run on from its digit to its end.
use Rattle.std.proofs.Common.{ℕ, List, ◌≡◌, ◌<◌, ◌-◌, inl, inr, ap, ap₂, slice_index, ◌∙◌, arith}
use Rattle.std.proofs.lemmas.Bool.{cases_lt}
use Rattle.slh_params.specs.ParamSet.{params}
use Rattle.slh_params.specs.Params.{Params, len, w}
use Rattle.slh_params.proofs.Bounds.{w_high}
use Rattle.slh_few.specs.Chunks.{end_to_end, chunk}
use Rattle.slh_few.specs.declared.place.Place.{Place}
use Rattle.slh_few.specs.Wots.{chain, digit, finished_chain}
use Rattle.slh_few.proofs.Ends.{end_to_end-same}
use Rattle.slh_few.proofs.wots.put_ends.Goals as goal

pub run_values-requires-clause-steps : goal.run_values-requires-clause-steps
run_values-requires-clause-steps c = λ i lt.
    let s = c.args.lanes.now.set in
    elim (cases_lt i (len (params s))) [
      | inl low ↦ omega (arith, c.steps_left-left.ensures.left i low, w_high s, c.digits_of-digits.ensures.small i low)
      | inr ge ↦ omega (arith, c.steps_left-left.ensures.rest i ge, c.digits_of-digits.ensures.rest i ge)
    ]

-- each chain ends where the message's digit leaves it steps to go
same : (p : Params) (pk sig m : List ℕ) (at : Place) (digits left : ℕ → ℕ) → ((i : ℕ) → i < len p → digits i ≡ digit p m i)
    → ((i : ℕ) → i < len p → left i ≡ w p - 1 - digits i)
    → end_to_end (λ i. chain p pk at i (chunk p.n sig i) (digits i) (left i)) (len p) ≡ end_to_end (finished_chain p pk at m sig) (len p)
same p pk sig m at digits left ds ls =
    end_to_end-same (λ i. chain p pk at i (chunk p.n sig i) (digits i) (left i)) (finished_chain p pk at m sig) (len p) (λ i low.
    let d = ds i low in
    ap₂ (chain p pk at i (chunk p.n sig i)) d (ls i low ∙ ap (λ k. w p - 1 - k) d))

pub returns : goal.returns
returns c =
    let p = params c.args.lanes.now.set in
    let pk = c.args.lanes.now.pk_seed.now in
    let digits = slice_index c.digits_of-digits.result in
    let left = slice_index c.steps_left-left.result in
    let copied : c.copy_from_slice.new.self ≡ c.args.sig.now = c.copy_from_slice.ensures.after in
    c.run_values.ensures
    ∙ ap (λ (xs : List ℕ). end_to_end (λ i. chain p pk c.args.at i (chunk p.n xs i) (digits i) (left i)) (len p)) copied
    ∙ same p pk c.args.sig.now c.args.msg.now.items c.args.at digits left
    c.digits_of-digits.ensures.digits c.steps_left-left.ensures.left
