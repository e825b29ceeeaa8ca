-- A replay's state in bytes: settings, table, the next height, tally. docs/VECTORS.md, "Bytes".
-- Assumes nothing.
use Rattle.std.specs.Prelude.{ℕ, ◌+◌, List, ◌++◌}
use Rattle.archive.specs.declared.replay.Replay.{Replay}
use Rattle.wire.specs.Numbers.{number_at, number_bytes}
use Rattle.wire.specs.Values.{table_bytes, table_at, settings_bytes, settings_at, tally_bytes, tally_at}

-- a state: 95 bytes
unfoldable pub state_bytes : Replay → List ℕ
state_bytes s = settings_bytes s.settings ++ table_bytes s.table ++ number_bytes s.next ++ tally_bytes s.tally

unfoldable pub state_at : List ℕ → ℕ → Replay
state_at bytes at =
    record {
      settings = settings_at bytes at;
      table = table_at bytes (at + 16);
      next = number_at bytes (at + 76);
      tally = tally_at bytes (at + 80);
    }
