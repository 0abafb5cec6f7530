-- The refusals of a row by their numbers: its own, the floor's, and the one carried inside; 0 where there is none.
use Rattle.std.specs.Prelude.{ℕ, Ok, Err, Result}
use Rattle.machine.specs.declared.fault.Fault.{Fault}
use Rattle.machine.specs.Faults.{number as floor_number, inside as floor_inside}
use Rattle.rows.specs.declared.line.Line.{Line}
use Rattle.sheet.specs.declared.fault.SheetFault.{SheetFault}
use Rattle.sheet.specs.declared.fault.SheetFault.TheVariants.{Unprintable, UnknownLetter, WrongCount, BadNumber, Floor, TooLong}

abbrev pub number : SheetFault → ℕ
number Unprintable = 1
number UnknownLetter = 2
number WrongCount = 3
number BadNumber = 4
number (Floor f) = 5
number TooLong = 6

abbrev pub at_floor : SheetFault → ℕ
at_floor (Floor f) = floor_number f
at_floor _ = 0

abbrev pub inside : SheetFault → ℕ
inside (Floor f) = floor_inside f
inside _ = 0

-- the floor's refusal as the row's
abbrev pub of_floor : Fault → SheetFault
of_floor f = Floor f

-- the line of row n, by what it was answered
abbrev pub refused_line : ℕ → SheetFault → Line
refused_line n f = record { row = n; sheet = number f; floor = at_floor f; inside = inside f; answer = 0 }

abbrev pub line_of : ℕ → Result ℕ SheetFault → Line
line_of n (Ok a) = record { row = n; sheet = 0; floor = 0; inside = 0; answer = a }
line_of n (Err f) = refused_line n f
