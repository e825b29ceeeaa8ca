-- The table of twelve entries, the first tables of the networks, and the check of a block's version.
-- docs/RULES.md, "Table and settings" and "Writers and rest".
-- Assumes nothing.
use Rattle.std.specs.Prelude.{Err, ℕ, ◌-◌, cond, [], ◌∷◌, ℤ, pos, ◌==◌, nat_lt, slice_index_or, slice_set, None, Some}
use Rattle.codec.specs.declared.refusal.Refusal.TheVariants.{BlockVersionAbsent, BlockVersionDiffers}
use Rattle.voting.specs.declared.settings.Network.{Network}
use Rattle.voting.specs.declared.settings.Network.TheVariants.{Mainnet, Testnet}
use Rattle.voting.specs.Value.{Value}
use Rattle.voting.specs.declared.table.Fork.{Fork}
use Rattle.voting.specs.declared.table.Table.{Table}
use Rattle.codec.specs.Check.{Check, passed}
use Rattle.voting.specs.Common.{eq_z}

-- the ids of the entries beside the parameters 1 to 8
abbrev pub id_subblocks_per_block : ℕ
id_subblocks_per_block = 9

abbrev pub id_votes_collected : ℕ
id_votes_collected = 121

abbrev pub id_starting_height : ℕ
id_starting_height = 122

abbrev pub id_block_version : ℕ
id_block_version = 123

abbrev pub fork_entries : Value → Value → Value → Fork
fork_entries votes start version = record { votes = votes; start = start; version = version }

-- the same ordinary entries beside other fork entries
abbrev pub with_fork : Table → Fork → Table
with_fork t f = record { ordinary = t.ordinary; fork = f }

-- the entry of an id: 121 votes collected, 122 starting height, 123 block version, 1 to 9 the ordinary parameters; no other id has one
unfoldable pub lookup : Table → ℕ → Value
lookup t id =
    cond (id == id_votes_collected) t.fork.votes
    (cond (id == id_starting_height) t.fork.start
    (cond (id == id_block_version) t.fork.version
    (cond (nat_lt id 1) None (cond (nat_lt id_subblocks_per_block id) None (slice_index_or t.ordinary (id - 1) None)))))

-- the table with one entry written; an id that has none changes nothing
unfoldable pub update : Table → ℕ → Value → Table
update t id v =
    cond (id == id_votes_collected) (with_fork t (fork_entries v t.fork.start t.fork.version))
    (cond (id == id_starting_height) (with_fork t (fork_entries t.fork.votes v t.fork.version))
    (cond (id == id_block_version) (with_fork t (fork_entries t.fork.votes t.fork.start v))
    (cond (nat_lt id 1) t
    (cond (nat_lt id_subblocks_per_block id) t (record { ordinary = slice_set t.ordinary (id - 1) v; fork = t.fork })))))

-- the table that a network begins with: entry 9 and the version differ
unfoldable pub beginning : Value → ℤ → Table
beginning nine version =
    record {
      ordinary = Some (pos 1250000) ∷ Some (pos 360) ∷ Some (pos 524288) ∷ Some (pos 1000000) ∷ Some (pos 100) ∷ Some (pos 2000) ∷ Some (pos 100) ∷ Some (pos 100) ∷ nine ∷ [];
      fork = fork_entries None None (Some version);
    }

unfoldable pub default_parameters : Network → Table
default_parameters Mainnet = beginning None (pos 1)
default_parameters Testnet = beginning (Some (pos 30)) (pos 4)

-- 20 where there is no version, 16 where it is another one
unfoldable pub has_version : Value → ℕ → Check
has_version None v = Err BlockVersionAbsent
has_version (Some z) v = cond (eq_z z (pos v)) passed (Err BlockVersionDiffers)

unfoldable pub check_block_version : Table → ℕ → Check
check_block_version t v = has_version (lookup t id_block_version) v
