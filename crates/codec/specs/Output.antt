-- Writing into a lent buffer: the answer, and what the buffer then holds. docs/RULES.md, "Who can be turned away, and by which number".
-- Assumes nothing.
use Rattle.std.specs.Prelude.{ℕ, cond, List, ◌++◌, length, drop, nat_le, Result, Ok, Err}
use Rattle.codec.specs.declared.refusal.Refusal.TheVariants.{OutputShort}
use Rattle.codec.specs.declared.refusal.Refusal.{Refusal}
use Rattle.codec.specs.Check.{Check}

-- how many bytes were written, or the refusal; and the buffer's cells when the call returns
pub data Outcome : Type 0 where
  wrote : ℕ → List ℕ → Outcome
  refused : Refusal → List ℕ → Outcome

-- the outcome of a call that answered so and left the buffer so
abbrev pub outcome : Result ℕ Refusal → List ℕ → Outcome
outcome (Ok n) cells = wrote n cells
outcome (Err e) cells = refused e cells

-- the bytes stand from the buffer's start, and no other cell changes
abbrev pub written : List ℕ → List ℕ → List ℕ
written bytes cells = bytes ++ drop (length bytes) cells

-- where they do not fit, 21 and the buffer as it was
unfoldable pub writes : List ℕ → List ℕ → Outcome
writes bytes cells =
    cond (nat_le (length bytes) (length cells)) (wrote (length bytes) (written bytes cells)) (refused OutputShort cells)

-- a check that comes before the test of the length
unfoldable pub writing : Check → List ℕ → List ℕ → Outcome
writing (Ok _) bytes cells = writes bytes cells
writing (Err e) bytes cells = refused e cells
