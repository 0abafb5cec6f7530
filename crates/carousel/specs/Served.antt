-- The carousel as a service.
use Rattle.std.specs.Prelude.{ℕ, if◌then◌else◌, List, Ok, Err, Result, nat_lt}
use Rattle.service.specs.declared.ServiceFault.{ServiceFault}
use Rattle.service.specs.declared.Worked.{Worked}
use Rattle.carousel.specs.declared.CarouselRow.{CarouselRow}
use Rattle.carousel.specs.declared.CarouselCommand.{CarouselCommand}
use Rattle.carousel.specs.declared.CarouselCommand.TheVariants.{Fetch}
use Rattle.carousel.specs.declared.CarouselUpdate.{CarouselUpdate}
use Rattle.carousel.specs.declared.CarouselUpdate.TheVariants.{Swap}
use Rattle.carousel.specs.declared.CarouselFault.{CarouselFault}
use Rattle.carousel.specs.declared.CarouselFault.TheVariants.{NoTool}
use Rattle.carousel.specs.Stations.{is_carousel, straight, station, exchanged}

-- the carousel's number
abbrev pub number : CarouselFault → ServiceFault
number NoTool = record { number = 1 }

-- a row means its tools, station by station; one that is no carousel means the first carousel
abbrev pub mean : CarouselRow → List ℕ
mean r = if is_carousel r.tools then r.tools else straight

-- a fetch of a tool below 8 replies its station, which is to be exchanged with station 0
abbrev pub worked : List ℕ → CarouselCommand → Result (Worked CarouselUpdate) ServiceFault
worked xs (Fetch t) =
    if nat_lt t 8 then Ok (record { reply = station xs t; update = Swap (station xs t) }) else Err (number NoTool)

abbrev pub applied : List ℕ → CarouselUpdate → List ℕ
applied xs (Swap s) = exchanged xs s

-- the row after an update holds the tools after it
abbrev pub next : CarouselRow → CarouselUpdate → CarouselRow
next r u = record { tools = applied (mean r) u }
