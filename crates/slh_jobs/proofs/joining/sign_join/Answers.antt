-- Right answers fit together, and give the standard's signature; what fits together gives a valid one.
use Rattle.std.proofs.Common.{◌≡◌, ℕ, List, ◌++◌, length, refl, ap, sym, subst, rules, ◌∙◌}
use Rattle.std.specs.Bool.{IsTrue}
use Rattle.slh_params.specs.ParamSet.{params}
use Rattle.slh_subtrees.specs.Assembled.{sig_fors_by, sig_ht_by}
use Rattle.slh_subtrees.specs.Trees.{TreeSource}
use Rattle.slh_jobs.specs.AllAnswers.{source_in, answers_in}
use Rattle.slh_jobs.specs.Jobs.{source, r_in}
use Rattle.slh_jobs.specs.Joined.{answers_given, signature_given, AreFitting, FitTogether}
use Rattle.slh_jobs.specs.declared.levels.Levels.{Levels}
use Rattle.slh_jobs.specs.Tags.{start_len}
use Rattle.slh_jobs.proofs.Assembled.{answers_fit, signature-right}
use Rattle.slh_jobs.proofs.Begun.{begun}
use Rattle.slh_jobs.proofs.Verified.{AreSized, joined_valid}
use Rattle.slh_jobs.proofs.joining.sign_join.Goals as goal
use Rattle.slh_jobs.proofs.joining.sign_join.Goals.{Then-join}

-- the copy of the start is the start
same : (c : Then-join) → c.as_slice.result.now ≡ c.args.start.now
same c = c.as_slice.ensures.value ∙ c.copy_of_start-start.ensures

-- what is written
made : (c : Then-join) → c.join.new.out ≡ signature_given c.args.levels.now c.args.sk.now c.args.start.now c.args.answers.now
made c =
    let x = c.in-Some.answered in
    let copy : List ℕ = c.as_slice.result.now in
    let s : TreeSource = source c.args.levels.now c.args.sk.now copy in
    let Made : TreeSource → Levels → List ℕ → List ℕ → List ℕ = λ t l start bytes.
    r_in (params t.set) start ++ (sig_fors_by t (answers_given l t bytes) ++ sig_ht_by t (answers_given l t bytes)) in
    c.if-join.ensures.joined refl
    ∙ ap (λ (t : TreeSource). Made t x.signing.levels x.signing.start.now x.xmss.bytes.now) c.in-Some.ensures.source
    ∙ ap (λ (l : Levels). Made s l x.signing.start.now x.xmss.bytes.now) c.in-Some.ensures.levels
    ∙ ap (λ (start : List ℕ). Made s c.args.levels.now start x.xmss.bytes.now) c.in-Some.ensures.start
    ∙ ap (λ (bytes : List ℕ). Made s c.args.levels.now copy bytes) c.in-Some.ensures.answers
    ∙ ap (λ (start : List ℕ). signature_given c.args.levels.now c.args.sk.now start c.args.answers.now) (same c)

-- the start has its length under the key's set
start_size : (c : Then-join) → length c.args.start.now ≡ start_len (params c.args.sk.now.set)
start_size c = rw c.requires.set c.requires.start

pub returns-then-join-clause-authentic : goal.returns-then-join-clause-authentic
returns-then-join-clause-authentic c = λ msg randomizer is.
    let there = (goal.at.returns-then-join-clause-authentic c).Then-join in
    let l = c.args.levels.now in
    let sk = c.args.sk.now in
    let start = c.args.start.now in
    let bytes = c.args.answers.now in
    let x = c.in-Some.answered in
    let copy : List ℕ = c.as_slice.result.now in
    let own : AreFitting l (source_in x) sk copy bytes =
    rw (c.in-Some.ensures.levels, c.in-Some.ensures.sk, c.in-Some.ensures.start, c.in-Some.ensures.answers) at (c.join.ensures.fit.0 (search rules)) in
    let fit : FitTogether l sk start bytes =
    subst (λ (st : List ℕ). FitTogether l sk st bytes) (same there) (subst (λ (s : TreeSource). AreFitting l s sk copy bytes) c.in-Some.ensures.source own) in
    let parts : AreSized (source_in x) (answers_in x) = record { fors = c.if-join.ensures.fors_parts refl; layers = c.if-join.ensures.layer_parts refl } in
    let Sized : TreeSource → Levels → List ℕ → Type 0 = λ s k bs. AreSized s (answers_given k s bs) in
    let sized : Sized (source l sk start) l bytes =
    subst (λ (st : List ℕ). Sized (source l sk st) l bytes) (same there)
    (subst (λ (bs : List ℕ). Sized (source l sk copy) l bs) c.in-Some.ensures.answers
    (subst (λ (k : Levels). Sized (source l sk copy) k x.xmss.bytes.now) c.in-Some.ensures.levels
    (subst (λ (s : TreeSource). Sized s x.signing.levels x.xmss.bytes.now) c.in-Some.ensures.source parts))) in
    joined_valid l sk start bytes msg randomizer c.join.new.out c.requires.set (start_size there) is fit sized (made there) (rw c.requires.set (c.join.auto.out ∙ c.requires.out))

pub returns-then-join-clause-signature : goal.returns-then-join-clause-signature
returns-then-join-clause-signature c = λ are.
    made (goal.at.returns-then-join-clause-signature c).Then-join ∙ signature-right c.args.levels.now c.args.sk.now c.args.start.now c.args.answers.now c.requires.set are

pub returns-then-join-clause-message : goal.returns-then-join-clause-message
returns-then-join-clause-message c = λ msg randomizer is are.
    let there = (goal.at.returns-then-join-clause-message c).Then-join in
    made there ∙ signature-right c.args.levels.now c.args.sk.now c.args.start.now c.args.answers.now c.requires.set are
    ∙ begun c.args.sk.now msg randomizer c.args.start.now (start_size there) is

pub returns-else-join-clause-right : goal.returns-else-join-clause-right
returns-else-join-clause-right c = λ gen tagged are len.
    let l = c.args.levels.now in
    let sk = c.args.sk.now in
    let start = c.args.start.now in
    let bytes = c.args.answers.now in
    let copy : List ℕ = c.as_slice.result.now in
    let is : copy ≡ start = c.as_slice.ensures.value ∙ c.copy_of_start-start.ensures in
    let own : FitTogether l sk copy bytes = subst (λ (st : List ℕ). FitTogether l sk st bytes) (sym is) (answers_fit l sk start bytes c.requires.set gen are) in
    let fit : AreFitting l (source_in c.in-Some.answered) sk copy bytes =
    subst (λ (s : TreeSource). AreFitting l s sk copy bytes) (sym c.in-Some.ensures.source) own in
    let fits : IsTrue c.join.result =
    c.join.ensures.fit.1 (rw (c.in-Some.ensures.levels, c.in-Some.ensures.sk, c.in-Some.ensures.start, c.in-Some.ensures.answers) fit) in
    search rules
