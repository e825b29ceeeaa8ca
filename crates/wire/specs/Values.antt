-- Values, tables, settings and tallies in bytes, at a position. docs/VECTORS.md, "Bytes".
-- Assumes nothing.
use Rattle.std.specs.Prelude.{ℕ, zero, suc, ◌+◌, List, [], ◌∷◌, ◌++◌, get_or, None, Some}
use Rattle.codec.specs.Signed.{bits_of, signed_of}
use Rattle.voting.specs.declared.settings.VotingConfig.{VotingConfig}
use Rattle.voting.specs.Value.{Value}
use Rattle.voting.specs.declared.table.Fork.{Fork}
use Rattle.voting.specs.declared.table.Table.{Table}
use Rattle.voting.specs.declared.tally.Entry.{Entry}
use Rattle.voting.specs.declared.tally.Tally.{Tally}
use Rattle.voting.specs.Table.{fork_entries}
use Rattle.voting.specs.Settings.{settings, voting_length, vote_epochs, activation_epochs, version2_height}
use Rattle.wire.specs.Numbers.{number_at, number_bytes, four_bytes}

-- a byte, and a number after it: 5 bytes
unfoldable pub marked : ℕ → ℕ → List ℕ
marked mark n = mark ∷ number_bytes n

-- a value: 5 bytes, 0 and four zeros, or 1 and the number; read, any first byte but 0 is a number
unfoldable pub value_bytes : Value → List ℕ
value_bytes None = marked 0 0
value_bytes (Some z) = marked 1 (bits_of 32 z)

unfoldable pub value_of : ℕ → ℕ → Value
value_of zero n = None
value_of (suc f) n = Some (signed_of 32 n)

unfoldable pub value_at : List ℕ → ℕ → Value
value_at bytes at = value_of (get_or bytes at 0) (number_at bytes (at + 1))

-- slots, one after another
unfoldable pub slots_bytes : List Value → List ℕ
slots_bytes [] = []
slots_bytes (s ∷ ss) = value_bytes s ++ slots_bytes ss

unfoldable pub slots_at : ℕ → List ℕ → ℕ → List Value
slots_at zero bytes at = []
slots_at (suc n) bytes at = value_at bytes at ∷ slots_at n bytes (at + 5)

-- the fork entries: 15 bytes
unfoldable pub fork_bytes : Fork → List ℕ
fork_bytes f = value_bytes f.votes ++ value_bytes f.start ++ value_bytes f.version

unfoldable pub fork_at : List ℕ → ℕ → Fork
fork_at bytes at = fork_entries (value_at bytes at) (value_at bytes (at + 5)) (value_at bytes (at + 10))

-- a table: 60 bytes, entries 1 to 9, 121, 122, 123
unfoldable pub table_bytes : Table → List ℕ
table_bytes t = slots_bytes t.ordinary ++ fork_bytes t.fork

unfoldable pub table_at : List ℕ → ℕ → Table
table_at bytes at = record { ordinary = slots_at 9 bytes at; fork = fork_at bytes (at + 45) }

-- settings: 16 bytes, L, V, A and the version-2 height
unfoldable pub settings_bytes : VotingConfig → List ℕ
settings_bytes g = four_bytes (voting_length g) (vote_epochs g) (activation_epochs g) (version2_height g)

unfoldable pub settings_at : List ℕ → ℕ → VotingConfig
settings_at bytes at = settings (number_at bytes at) (number_at bytes (at + 4)) (number_at bytes (at + 8)) (number_at bytes (at + 12))

-- an entry of a tally: 5 bytes, the id and the count
unfoldable pub entry_bytes : Entry → List ℕ
entry_bytes e = marked (bits_of 8 e.id) e.count

unfoldable pub entry_at : List ℕ → ℕ → Entry
entry_at bytes at = record { id = signed_of 8 (get_or bytes at 0); count = number_at bytes (at + 1) }

-- a tally: 15 bytes, three entries
unfoldable pub tally_bytes : Tally → List ℕ
tally_bytes y = entry_bytes y.first ++ entry_bytes y.second ++ entry_bytes y.third

unfoldable pub tally_at : List ℕ → ℕ → Tally
tally_at bytes at = record { first = entry_at bytes at; second = entry_at bytes (at + 5); third = entry_at bytes (at + 10) }
