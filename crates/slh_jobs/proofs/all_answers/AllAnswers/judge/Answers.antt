-- The trees have their tags and fit exactly where all answers do.
use Rattle.std.proofs.Common.{refl, rules}
use Rattle.std.specs.Option.{IsSome}
use Rattle.slh_jobs.proofs.Tagged.{xmss_tags, xmss_tags_of, fors_tags, fors_tags_of}
use Rattle.slh_jobs.proofs.all_answers.AllAnswers.judge.Goals as goal

pub returns-in_default-clause-fit : goal.returns-in_default-clause-fit
returns-in_default-clause-fit c =
    let x = c.args.self.now in
    let t = x.signing in (
      λ no. absurd cc,
      λ fit. absurd (let some : IsSome c.judge_fors.result =
          c.judge_fors.ensures.some (λ j lt. (fors_tags_of t.levels t.sk.now t.start.now x.xmss.bytes.now t.trees.signer.now.public.set t.tree_set fit.fors_tags j lt, fit.fors j lt)) in search rules),
    )

pub returns-clause-fit : goal.returns-clause-fit
returns-clause-fit c =
    let x = c.args.self.now in
    let t = x.signing in (
      λ yes. let all = c.judge_layers.ensures.fit.0 yes in record {
        xmss_tags = xmss_tags t.levels t.sk.now t.start.now x.xmss.bytes.now t.trees.signer.now.public.set t.tree_set all.0;
        fors_tags = fors_tags t.levels t.sk.now t.start.now x.xmss.bytes.now t.trees.signer.now.public.set t.tree_set (c.in-Some.ensures.tags refl);
        fors = c.in-Some.ensures.fit refl;
        layers = all.1;
        top = all.2;
      },
      λ fit. c.judge_layers.ensures.fit.1 (xmss_tags_of t.levels t.sk.now t.start.now x.xmss.bytes.now t.trees.signer.now.public.set t.tree_set fit.xmss_tags, fit.layers, fit.top),
    )
