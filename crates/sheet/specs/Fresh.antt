-- A new floor over blank tables.
use Rattle.std.specs.Prelude.{◌≡◌, ℕ, false, List, replicate, string_bytes}
use Rattle.service.specs.Meant.{Meant}
use Rattle.config.specs.Configured.{Configured}
use Rattle.machine.specs.Blank.{no_entry, blank}
use Rattle.machine.specs.Machine.{no_envelope}
use Rattle.machine.specs.declared.seat.Seat.TheVariants.{Idle}
use Rattle.floor.specs.New.{fresh}
use Rattle.sheet.specs.declared.output.Output.{Output}
use Rattle.sheet.specs.Verbs.{Verbs}
use Rattle.sheet.specs.Playing.{World, sheet_text, sheet_tally}

abbrev pub fresh_world : (M : Meant) → M.Update → Configured → World M.Row M.Update
fresh_world M u s = record {
  floor = record {
    started = false;
    controllers = replicate 8 fresh;
    seats = replicate 4 Idle;
    lengths = replicate 32 0;
    sent = 0;
    entries = blank 512 (no_entry u);
    openings = blank 2048 (no_entry u);
    committed = blank 8 M.opening;
    speculative = blank 8 M.opening;
    envelopes = blank 1024 no_envelope;
  };
  config = s;
}

-- what is made of the sheet bs, played on w
pub record Gives (M : Meant) (V : Verbs M.Command) (w : World M.Row M.Update) (bs : List ℕ) (o : Output) : Type 0 where
  pub text : string_bytes o.text ≡ sheet_text M V w bs
  pub tally : o.tally ≡ sheet_tally M V w bs
