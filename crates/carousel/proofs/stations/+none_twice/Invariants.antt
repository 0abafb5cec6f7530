use Rattle.std.proofs.Common.{length}
use Rattle.carousel.proofs.stations.+none_twice.Given as goal

abbrev pub decreases-none_twice : goal.decreases-none_twice
decreases-none_twice l = length l.stations.now
