use Rattle.std.proofs.Common.{◌+◌, ◌≤◌, length, string_bytes}
use Rattle.service.specs.Meant.{meant_by}
use Rattle.rows.specs.Left.{rows_left}
use Rattle.rows.specs.Sheet.{rows}
use Rattle.sheet.specs.Verbs.{verbs_by}
use Rattle.sheet.specs.Seated.{world}
use Rattle.sheet.proofs.Going.{Going}
use Rattle.sheet.proofs.player.Player.play_rows.Given as goal

abbrev pub invariant-loop-row : goal.invariant-loop-row
invariant-loop-row g l = record {
  short : l.tally.rows + length l.row-iterator.left.now ≤ 65536;
  going : Going (meant_by g.S.Service) (verbs_by g.V.Verb) (world g.C.ConfigService.meaning l.initial.self) (rows l.sheet) (string_bytes l.initial.out)
      (world g.C.ConfigService.meaning l.self) (rows_left l.row-iterator) (string_bytes l.out) l.tally.rows l.tally.granted;
}
