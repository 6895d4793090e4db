use Rattle.std.proofs.Common.{◌++◌, refl, sym}
use Rattle.std.proofs.lemmas.List.{append-nil}
use Rattle.slh_hash.specs.Stream.{HasMessage}
use Rattle.slh_hash.proofs.message.HMsg.new.Goals as goal

pub returns : goal.returns
unfolding HasMessage
returns c =
    let front = c.args.r.now ++ c.args.pk_seed.now ++ c.args.pk_root.now in
    (refl, (refl, rw (sym (append-nil front)) at (c.update-3.ensures _ _ (c.update-2.ensures _ _ (c.update.ensures _ _ c.new-inner.ensures)))))
