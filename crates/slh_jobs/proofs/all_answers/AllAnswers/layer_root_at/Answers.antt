-- The path stands in the middle of the buffer, and all else stays.
use Rattle.std.proofs.Common.{◌≡◌, ◌+◌, ◌-◌, ◌*◌, ◌++◌, length, take, refl, ap, ◌∙◌, arith, rules}
use Rattle.std.proofs.lemmas.Slice.{take-put_mid}
use Rattle.slh_jobs.specs.AllAnswers.{path_len_in}
use Rattle.slh_jobs.proofs.all_answers.AllAnswers.layer_root_at.Goals as goal

pub returns-clause-path : goal.returns-clause-path
returns-clause-path c = λ some.
    let size : c.hp.result * c.n.result ≡ path_len_in c.args.self.now = rw (c.hp.ensures, c.n.ensures) refl in
    let own : length c.layer_root.new.path ≡ path_len_in c.args.self.now = search rules in
    take-put_mid c.args.start (c.args.start + c.hp.result * c.n.result - c.args.start) c.args.paths.now c.layer_root.new.path _ (omega (arith, own, size)) (omega (arith, c.requires.paths, size))
    ∙ ap (λ ys. take c.args.start c.args.paths.now ++ ys) (c.layer_root.ensures.path some)
