-- What is made of a row that is to be a carousel.
use Rattle.std.specs.Prelude.{◌≡◌, if◌then◌else◌, Some, None, Option, Result}
use Rattle.std.specs.Result.{result_ok}
use Rattle.carousel.specs.declared.CarouselRow.{CarouselRow}
use Rattle.carousel.specs.declared.stations.Carousel.{Carousel}
use Rattle.carousel.specs.declared.stations.NoCarousel.{NoCarousel}
use Rattle.carousel.specs.Stations.{is_carousel}

-- a carousel's row
abbrev pub row_of : Carousel → CarouselRow
row_of c = record { tools = c.tools }

abbrev pub rows_of : Option Carousel → Option CarouselRow
rows_of None = None
rows_of (Some c) = Some (row_of c)

-- a row makes a carousel where it holds each tool exactly once
abbrev pub checked : CarouselRow → Option CarouselRow
checked r = if is_carousel r.tools then Some r else None

-- what a row is turned into: its carousel, or the refusal where it holds none
abbrev pub Makes : CarouselRow → Result Carousel NoCarousel → Type 0
Makes r made = rows_of (result_ok made) ≡ checked r
