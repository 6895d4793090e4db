use Rattle.slh_lanes.proofs.Picks.{picked_below, picked_others}
use Rattle.slh_lanes.proofs.short_lanes.pick_lanes.Goals as goal

pub returns : goal.returns
returns g c = record {
  below = picked_below g.row.N c.args.a c.args.b c.args.x c.args.y c.fits-a.0 c.fits-b.0 c.fits-x.0 c.fits-y.0;
  others = picked_others g.row.N c.args.a c.args.b c.args.x c.args.y c.fits-a.0 c.fits-b.0 c.fits-x.0 c.fits-y.0;
}
