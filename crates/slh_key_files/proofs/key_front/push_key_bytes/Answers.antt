-- What is held after a push is read as all the bytes are: by the lemmas on a front and the byte after it.
use Rattle.std.proofs.Common.{◌++◌, ◌∷◌, [], arith, ap, sym, ◌∙◌}
use Rattle.slh_key_files.specs.KeyFile.{IsKeyFront}
use Rattle.slh_key_files.specs.Lines.{Text}
use Rattle.std.proofs.Common.{subst}
use Rattle.slh_key_files.proofs.Front.{held_alike, pushed_found, pushed_none, still_front}
use Rattle.slh_key_files.proofs.key_front.push_key_bytes.Goals as goal

pub returns-then-len-gt-MOST-clause-alike : goal.returns-then-len-gt-MOST-clause-alike
returns-then-len-gt-MOST-clause-alike g c = held_alike c.args.front.now.items c.args.part.now c.requires.front (omega arith)

pub returns-in_ok-push-in-Some-clause-front : goal.returns-in_ok-push-in-Some-clause-front
returns-in_ok-push-in-Some-clause-front g c =
    subst IsKeyFront (sym c.in_ok-push-in-Some.ensures.items)
    (still_front c.extend_from_slice.new.self.items c.split_at.result.1.now c.in-Some.byte
    (omega (arith, c.in_ok-extend_from_slice.ensures.len, c.split_at.ensures.front_len)) (sym c.in-Some.ensures))

pub returns-in_ok-push-in-Some-clause-alike : goal.returns-in_ok-push-in-Some-clause-alike
returns-in_ok-push-in-Some-clause-alike g c =
    pushed_found c.args.front.now.items c.args.part.now c.split_at.result.0.now c.split_at.result.1.now _ c.min.result c.in-Some.byte (record {
      near_is = c.split_at.ensures.front;
      far_is = c.split_at.ensures.back;
      few = omega arith;
      full = λ cut. omega arith;
    }) (sym c.in-Some.ensures)
    (c.in_ok-push-in-Some.ensures.items ∙ ap (λ (t : Text). t ++ c.in-Some.byte ∷ []) c.in_ok-extend_from_slice.ensures.items)

pub returns-in-None-clause-alike : goal.returns-in-None-clause-alike
returns-in-None-clause-alike g c =
    pushed_none c.args.front.now.items c.args.part.now c.split_at.result.0.now c.split_at.result.1.now _ c.min.result (record {
      near_is = c.split_at.ensures.front;
      far_is = c.split_at.ensures.back;
      few = omega arith;
      full = λ cut. omega arith;
    }) (sym c.in-None.ensures) c.in_ok-extend_from_slice.ensures.items
