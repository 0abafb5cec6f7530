-- What a row says: a call with its arguments, or why it is refused. Each question is asked of the whole row before the next.
use Rattle.std.specs.Prelude.{ℕ, cond, List, [], ◌∷◌, Some, None, Ok, Err, Result, ◌==◌}
use Rattle.machine.specs.declared.call.Call.{Call}
use Rattle.machine.specs.declared.call.Call.TheVariants.{Start, Order, Settle, Hand}
use Rattle.rows.specs.Sheet.{printable, fields, Said, letter, number, said_of}
use Rattle.sheet.specs.declared.fault.SheetFault.{SheetFault}
use Rattle.sheet.specs.declared.fault.SheetFault.TheVariants.{Unprintable, UnknownLetter, WrongCount, BadNumber}
use Rattle.sheet.specs.Verbs.{Verbs}

-- S4: the number that a field says
abbrev pub number_in : Said → Result ℕ SheetFault
number_in (number n) = Ok n
number_in _ = Err BadNumber

-- goes on with what was read, where it was read
abbrev pub then : {A B : Type 0} → Result A SheetFault → (A → Result B SheetFault) → Result B SheetFault
then (Ok x) k = k x
then (Err f) k = Err f

-- S3, S4: exactly one number, and exactly two
abbrev pub one_number : List (List ℕ) → Result ℕ SheetFault
one_number (a ∷ []) = number_in (said_of a)
one_number _ = Err WrongCount

abbrev pub two_numbers : List (List ℕ) → Result (ℕ × ℕ) SheetFault
two_numbers (a ∷ b ∷ []) = then (number_in (said_of a)) (λ x. then (number_in (said_of b)) (λ y. Ok (x, y)))
two_numbers _ = Err WrongCount

module _ {C : Type 0} (V : Verbs C) where
  -- S2: the verb that a field says
  abbrev pub verb_in : Said → Result V.Kind SheetFault
  verb_in (letter b) = elim (V.known b) [ None ↦ Err UnknownLetter | Some v ↦ Ok v ]
  verb_in _ = Err UnknownLetter

  -- an order's three numbers, once its verb is known: S3, then S4
  abbrev pub order_with : Said → Said → V.Kind → List (List ℕ) → Result (Call C) SheetFault
  order_with c s v (n ∷ []) =
      then (number_in c) (λ x. then (number_in s) (λ y. then (number_in (said_of n)) (λ z. Ok (Order x y (V.says v z)))))
  order_with c s v _ = Err WrongCount

  -- the arguments of an order: where the command's letter is there, it must be known, whatever the count
  abbrev pub order_of : List (List ℕ) → Result (Call C) SheetFault
  order_of (c ∷ s ∷ v ∷ rest) = then (verb_in (said_of v)) (λ k. order_with (said_of c) (said_of s) k rest)
  order_of _ = Err WrongCount

  -- the call that a letter chooses: f start, o order, s settle, h hand
  abbrev pub call_of : ℕ → List (List ℕ) → Result (Call C) SheetFault
  call_of b args =
      cond (b == 102) (then (two_numbers args) (λ p. Ok (Start p.0 p.1)))
      (cond (b == 111) (order_of args)
      (cond (b == 115) (then (one_number args) (λ c. Ok (Settle c)))
      (cond (b == 104) (then (two_numbers args) (λ p. Ok (Hand p.0 p.1))) (Err UnknownLetter))))

  abbrev pub said_call : Said → List (List ℕ) → Result (Call C) SheetFault
  said_call (letter b) args = call_of b args
  said_call _ args = Err UnknownLetter

  -- S2: the first field is one letter
  abbrev pub fields_call : List (List ℕ) → Result (Call C) SheetFault
  fields_call [] = Err UnknownLetter
  fields_call (f ∷ args) = said_call (said_of f) args

  -- S1: each byte is printable
  abbrev pub read : List ℕ → Result (Call C) SheetFault
  read row = cond (printable row) (fields_call (fields row)) (Err Unprintable)
