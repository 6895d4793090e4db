use Rattle.slh_key_files.proofs.PemReading.{shorter_is}
use Rattle.slh_key_files.proofs.pkix.is_pem.Goals as goal

pub returns-then-file-pem : goal.returns-then-file-pem
returns-then-file-pem c = shorter_is c.args.kind (record { set = c.args.set; bytes = c.args.key.now }) c.args.file.now c.put_pem.new.pem _ c.put_pem.ensures c.if-file-pem.true c.are_same.ensures
