-- The carousel and its verb as values, and the floor on which its sheets begin.
use Rattle.std.specs.Prelude.{ℕ, true, if◌then◌else◌, List, [], Some, None, Option, ◌==◌}
use Rattle.service.specs.Meant.{Meant}
use Rattle.config.specs.Configured.{Configured}
use Rattle.carousel.specs.declared.CarouselRow.{CarouselRow}
use Rattle.carousel.specs.declared.CarouselCommand.{CarouselCommand}
use Rattle.carousel.specs.declared.CarouselCommand.TheVariants.{Fetch}
use Rattle.carousel.specs.declared.CarouselUpdate.{CarouselUpdate}
use Rattle.carousel.specs.declared.CarouselUpdate.TheVariants.{Swap}
use Rattle.carousel.specs.Stations.{straight}
use Rattle.carousel.specs.Served.{mean, worked, applied, next}
use Rattle.sheet.specs.Verbs.{Verbs}
use Rattle.sheet.specs.Playing.{World}
use Rattle.sheet.specs.Fresh.{fresh_world}
use Rattle.carousel_sheet.specs.declared.CarouselVerb.{CarouselVerb}
use Rattle.carousel_sheet.specs.declared.CarouselVerb.TheVariants as verb

abbrev pub carousel : Meant
carousel = record {
  Row = CarouselRow;
  Meaning = List ℕ;
  mean = mean;
  Command = CarouselCommand;
  Update = CarouselUpdate;
  worked = worked;
  applied = applied;
  opening = record { tools = straight };
  next = next;
}

-- t fetches
abbrev pub known : ℕ → Option CarouselVerb
known b = if b == 116 then Some verb.Fetch else None

abbrev pub says : CarouselVerb → ℕ → CarouselCommand
says verb.Fetch n = Fetch n

abbrev pub verbs : Verbs CarouselCommand
verbs = record { Kind = CarouselVerb; known = known; says = says }

-- three empty copies, all up
abbrev pub empty_triple : Configured
empty_triple = record { all = []; limit = 32; is_open = true }

-- a new floor over blank tables, with an empty triple
abbrev pub new_world : World CarouselRow CarouselUpdate
new_world = fresh_world carousel (Swap 0) empty_triple
