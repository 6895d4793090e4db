-- After each layer the roots so far are the same, and the next layer signs the last of them.
use Rattle.std.proofs.Common.{◌≡◌, ℕ, ◌+◌, ◌*◌, ◌++◌, List, length, take, refl, arith, add-one, ap, ◌∙◌, sym}
use Rattle.slh_few.specs.Xmss.{xmss_sig_len}
use Rattle.slh_few.proofs.Ends.{end_to_end-none, writes-more, written_all}
use Rattle.slh_subtrees.specs.Assembled.{signed_by, layer_part_by}
use Rattle.slh_subtrees.specs.declared.range.JobTree.TheVariants.{Xmss}
use Rattle.slh_jobs.specs.AllAnswers.{params_in, source_in, answers_in, path_in, path_len_in}
use Rattle.slh_jobs.specs.Joined.{NodesFit, LayerFits}
use Rattle.slh_jobs.proofs.Indices.{below_more}
use Rattle.slh_jobs.proofs.all_answers.AllAnswers.judge_layers.Goals as goal

pub loop-layer-init : goal.loop-layer-init
loop-layer-init c =
    let zero : 0 * (params_in c.args.self.now).n ≡ 0 = omega arith in
    let none : 0 * path_len_in c.args.self.now ≡ 0 = omega arith in (
      c.copy_of-msg.ensures ∙ c.requires.pk_fors,
      ap length c.copy_of-msg.ensures ∙ c.requires.len,
      ap (λ k. take k c.args.signed.now) zero ∙ sym (end_to_end-none _),
      ap (λ k. take k c.args.paths.now) none ∙ sym (end_to_end-none _),
      λ l lt. absurd (omega (arith, lt)),
      λ l lt. absurd (omega (arith, lt)),
      λ l lt. absurd (omega (arith, lt)),
      λ l lt. absurd (omega (arith, lt)),
    )

pub loop-layer-preserved : goal.loop-layer-preserved
loop-layer-preserved c =
    let s = source_in c.args.self.now in
    let a = answers_in c.args.self.now in
    let size = (params_in c.args.self.now).n in
    let n = c.loop-layer.layer in
    let signed : ℕ → List ℕ = signed_by s a in
    let Sized : ℕ → Type 0 = λ i. length (layer_part_by s a i (signed i)) ≡ xmss_sig_len (params_in c.args.self.now) in
    let next : c.in-Some.root.items ≡ signed (n + 1) = rw (add-one n) c.in-Some.ensures.root in
    let t = c.args.self.now.signing in
    let Tagged : ℕ → Type 0 = λ i. NodesFit t.levels t.sk.now t.start.now c.args.self.now.xmss.bytes.now (Xmss i) in
    let path : ℕ → List ℕ = path_in c.args.self.now in
    let long = path_len_in c.args.self.now in
    let Long : ℕ → Type 0 = λ i. length (path i) ≡ long in
    let here : Tagged n × LayerFits s a n = c.in-Some.ensures.fits.0 refl in
    let path_size : length (path n) ≡ long = c.in-Some.ensures.path_len refl in
    let path_len : c.hp.result * c.n-n.result ≡ long = rw (c.hp.ensures, c.n-n.ensures) refl in
    let put_judged_path : take (n * long + long) c.layer_root_at.new.paths ≡ take (n * long) c.loop-layer.paths ++ path n =
    rw path_len at (c.in-Some.ensures.path refl) in
    let msg : List ℕ = c.loop-layer.msg.items in
    let put : take (n * size + length msg) c.put_node.new.out ≡ take (n * size) c.loop-layer.signed ++ msg = rw c.n-n.ensures at c.put_node.ensures.written in (
      next,
      c.in-Some.ensures.len,
      writes-more signed n size c.loop-layer.signed c.put_node.new.out msg c.loop-layer.invariant.0 c.loop-layer.invariant.1 c.loop-layer.invariant.2 put,
      writes-more path n long c.loop-layer.paths c.layer_root_at.new.paths (path n) refl path_size c.loop-layer.invariant.3 (ap (λ k. take (n * long + k) c.layer_root_at.new.paths) path_size ∙ put_judged_path),
      below_more Long n c.loop-layer.invariant.4 path_size,
      below_more Sized n c.loop-layer.invariant.5 (c.in-Some.ensures.part_len refl),
      below_more Tagged n c.loop-layer.invariant.6 here.0,
      below_more (LayerFits s a) n c.loop-layer.invariant.7 here.1,
    )

pub returns-clause-signed : goal.returns-clause-signed
returns-clause-signed c = λ fits.
    let p = params_in c.args.self.now in
    written_all _ p.d p.n c.loop-layer.layer c.loop-layer.signed (omega (arith, c.d-layer-end.ensures)) (omega (arith, c.requires.signed)) c.loop-layer.invariant.2

pub returns-clause-paths : goal.returns-clause-paths
returns-clause-paths c = λ fits.
    let x = c.args.self.now in
    written_all _ (params_in x).d (path_len_in x) c.loop-layer.layer c.loop-layer.paths (omega (arith, c.d-layer-end.ensures)) (omega (arith, c.requires.paths)) c.loop-layer.invariant.3

pub returns-clause-fit : goal.returns-clause-fit
returns-clause-fit c =
    let x = c.args.self.now in
    let p = params_in x in
    let end : c.loop-layer.layer ≡ p.d = omega (arith, c.d-layer-end.ensures) in
    let signed : ℕ → List ℕ = signed_by (source_in x) (answers_in x) in
    let msg : c.loop-layer.msg.items ≡ signed p.d = c.loop-layer.invariant.0 ∙ ap signed end in
    let own = c.as_slice.ensures.value ∙ msg in
    let root = c.pk_root.ensures.value in (
      λ yes. (
        λ l lt. c.loop-layer.invariant.6 l (omega (arith, lt, end)),
        λ l lt. c.loop-layer.invariant.7 l (omega (arith, lt, end)),
        sym own ∙ c.are_same.ensures.0 yes ∙ root,
      ),
      λ fit. c.are_same.ensures.1 (own ∙ fit.2 ∙ sym root),
    )
