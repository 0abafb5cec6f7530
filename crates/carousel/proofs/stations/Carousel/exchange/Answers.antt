use Rattle.carousel.specs.Tools.{in_any_order}
use Rattle.carousel.proofs.stations.Carousel.exchange.Goals as goal

pub invariant_of-self : goal.invariant_of-self
invariant_of-self c = record { each_once = in_any_order _ _ c.swap.ensures.permutation c.args.self.now.each_once }
