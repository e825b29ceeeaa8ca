-- What is handed to a descriptor. docs/RULES.md, "Every legal header".
-- Assumes nothing.
use Rattle.std.specs.Prelude.{ℕ, ◌≡◌, false, List, ◌++◌, Option}
use Rattle.ports.specs.declared.Output.{Output}
use Rattle.ports.specs.declared.Sent.{Sent}
use Rattle.ports.specs.Ports.{unwritten, wrote, sent}
use Rattle.legal.specs.declared.next.Votes.{Votes}
use Rattle.legal.specs.Listing.{lines_of, listing, rest_of}

-- The text that was handed over; that a write failed is what `ports` said. Where every write succeeded, it is the listing; where one failed, the
-- text up to and with that write is a beginning of it.
pub record Prints (to : ℕ) (r : Sent) : Type 0 where
  pub text : List ℕ
  pub rest : List ℕ
  pub is-output : r.output ≡ sent r.failed (wrote (unwritten to) text)
  pub whole : r.failed ≡ false → text ≡ listing
  pub begun : listing ≡ text ++ rest

-- on the way: the text that was handed over, and the lines from the position on, are the listing; and what is told of the text
pub record Printing (taken : List ℕ → Type 0) (to : ℕ) (at : Option Votes) (output : Output) : Type 0 where
  pub text : List ℕ
  pub is-output : output ≡ wrote (unwritten to) text
  pub goes_on : text ++ lines_of (rest_of at) ≡ listing
  pub took : taken text
