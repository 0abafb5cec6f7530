use Rattle.service.specs.Meant.{meant_by}
use Rattle.law.proofs.Laws.{law}
use Rattle.law.proofs.live.Goals as goal

-- the law unfolds to tuples of facts, which `using(..)` does not find whole
pub returns-clause-law : goal.returns-clause-law
returns-clause-law g c = law (meant_by g.S.Service) g.met.S.Service.means
