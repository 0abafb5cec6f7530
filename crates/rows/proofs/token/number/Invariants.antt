use Rattle.std.proofs.Common.{◌≡◌, ◌^◌, ◌<◌, drop}
use Rattle.rows.specs.Sheet.{all_digits, value_after}
use Rattle.rows.proofs.token.number.Given as goal

abbrev pub invariant-loop-b : goal.invariant-loop-b
invariant-loop-b l = record {
  digits : all_digits (drop l.b-index l.part) ≡ all_digits l.part;
  value : value_after l.value (drop l.b-index l.part) ≡ value_after 0 l.part;
  small : l.value < 10 ^ l.b-index;
}
