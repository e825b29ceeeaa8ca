-- Every way of handing an input to the calls writes the same. docs/RULES.md, "Replay".
-- Assumes nothing.
use Rattle.std.specs.Prelude.{◌≡◌, ℕ, ◌≤◌, List, [], ◌∷◌, ◌++◌, length, drop}
use Rattle.voting.specs.declared.settings.Network.TheVariants.{Mainnet}
use Rattle.voting.specs.Settings.{voting_length, mainnet}
use Rattle.voting.specs.Table.{default_parameters}
use Rattle.archive.specs.declared.replay.Replay.{Replay}
use Rattle.voting.specs.Tally.{no_tally}
use Rattle.stream.specs.declared.run.Run.{Run}
use Rattle.stream.specs.Lines.{head_line, line_most}
use Rattle.stream.specs.Stream.{joined}
use Rattle.stream.specs.Run.{prints, ahead, Ready, feed_of, finish_of}

-- The state that program `replay` opens with (`open_of` gives it, by the law `opens-so`): at mainnet's first epoch, with mainnet's first table.
unfoldable pub mainnet_start : Replay
mainnet_start = record { settings = mainnet; table = default_parameters Mainnet; next = voting_length mainnet; tally = no_tally }

-- What program `replay` prints for an input.
unfoldable pub replay_prints : List ℕ → List ℕ
replay_prints input = prints mainnet_start input

-- A way of handing pieces to `feed`, one after another: whatever room each call has for its lines, from one line up; what it left of a piece is
-- handed to it again, until the piece is used up. Then `finish`. The text is all that the calls write.
pub data Driven : Run → List ℕ → List (List ℕ) → List ℕ → Type 0 where
  finished : {r : Run} {cells : List ℕ} (room : ℕ) → line_most ≤ room → Driven r cells [] (finish_of r cells room).text
  next : {r : Run} {cells : List ℕ} {pieces : List (List ℕ)} {text : List ℕ} → Driven r cells pieces text → Driven r cells ([] ∷ pieces) text
  fed : {r : Run} {cells piece : List ℕ} {pieces : List (List ℕ)} {text : List ℕ} (room : ℕ) → line_most ≤ room
      → Driven (feed_of r cells piece room).run (feed_of r cells piece room).cells (drop (feed_of r cells piece room).used piece ∷ pieces) text
      → Driven r cells (piece ∷ pieces) ((feed_of r cells piece room).text ++ text)

-- there is a way
pub data Drivable (r : Run) (cells : List ℕ) (pieces : List (List ℕ)) : Type 0 where
  drivable : (text : List ℕ) → Driven r cells pieces text → Drivable r cells pieces

-- A run as it begins, of which an input prints a text, and a record has at most so many bytes. With a buffer for the longest record it is
-- ready. However the input is cut into pieces, and whatever room each call has for its lines: the first line, and then all that the calls
-- write, are what is printed for the whole input. And every list of pieces can be handed over to its end.
pub record Begins (printed : List ℕ → List ℕ) (longest : ℕ) (r : Run) : Type 0 where
  pub ready : (cells : List ℕ) → longest ≤ length cells → Ready r cells
  pub opens : (cells input : List ℕ) → printed input ≡ head_line ++ ahead r cells input
  pub all-drivable : (cells : List ℕ) → longest ≤ length cells → (pieces : List (List ℕ)) → Drivable r cells pieces
  pub all-printed : (cells : List ℕ) → longest ≤ length cells → (pieces : List (List ℕ)) (text : List ℕ) → Driven r cells pieces text
      → head_line ++ text ≡ printed (joined pieces)
