use Rattle.slh_params.proofs.Labels.{put_one, put_two}
use Rattle.slh_params.proofs.param_set.label.put_number.Goals.{then-number-ge10, else-number-ge10}
use Rattle.slh_params.proofs.param_set.label.put_number.Goals as goal

pub returns-clause-text : goal.returns-clause-text
returns-clause-text c = elim c.if-number-ge10.branch [
  | then-number-ge10 w ↦
      let e = put_two c.args.label.now.bytes c.args.separator c.args.number w.if-number-ge10.true c.requires.two_digits in
      rw (c.put-2.ensures, w.label-is, w.put-then-number-ge10.ensures, c.put.ensures) e
  | else-number-ge10 w ↦
      let e = put_one c.args.label.now.bytes c.args.separator c.args.number w.if-number-ge10.false in
      rw (c.put-2.ensures, w.label-is, c.put.ensures) e
]
