-- A player's floor, tables and configuration service as the machine sees them.
use Rattle.config.specs.Configured.{Configured}
use Rattle.floor.specs.Seen.{seen}
use Rattle.sheet.specs.declared.player.Player.{Player}
use Rattle.sheet.specs.Playing.{World}

abbrev pub world : {S K C U : Type 0} → (K → Configured) → Player S K C U → World S U
world meaning p = record { floor = seen p.floor p.tables; config = meaning p.config }
