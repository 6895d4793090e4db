use Rattle.slh_io.proofs.Places.{left_after}
use Rattle.slh_io.proofs.disk.Disk.read.Goals as goal

pub invariant_of-self : goal.invariant_of-self
invariant_of-self g c =
    let stood = rw c.in-Some.is at c.go_to.new.self.stands in
    record {
      stands = left_after c.read_on.result _ (g.O.File.Read.remaining c.in-Some.open.file) _ c.read_on.new.out c.in-Some.open.at _ (rw c.read_on.ensures.path stood) c.read_on.ensures.bound c.read_on.ensures.bytes c.read_on.ensures.place;
    }
