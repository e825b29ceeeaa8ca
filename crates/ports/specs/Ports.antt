-- What went through a descriptor so far. No contract can speak of a descriptor, so a value that only the calls of this crate make stands for the
-- bytes, and for how it ended. Its definitions are shut: all that is known of them outside is how one call follows another. What is proved by
-- these laws alone holds as well where the value is the list of the bytes themselves.
-- Assumes nothing.
use Rattle.std.specs.Prelude.{◌≡◌, ℕ, ◌+◌, ◌%◌, ◌^◌, Bool, true, false, cond, List, [], ◌++◌, length, ◌==◌, refl}
use Rattle.std.proofs.Common.{ap, length-append, arith}
use Rattle.ports.specs.declared.End.{End}
use Rattle.ports.specs.declared.End.TheVariants.{Open, Met, Broken}
use Rattle.ports.specs.declared.Input.{Input}
use Rattle.ports.specs.declared.Output.{Output}

-- nothing was read of a descriptor, nothing was handed to it
pub unread : ℕ → Input
unread fd = record { descriptor = fd; bytes = 0; end = Open }

pub unwritten : ℕ → Output
unwritten fd = record { descriptor = fd; bytes = 0; cut = false }

-- after further bytes: the code carries their number, modulo 2^64
abbrev pub read_by : Input → ℕ → Input
read_by i n = record { descriptor = i.descriptor; bytes = (i.bytes + n) % 2 ^ 64; end = i.end }

pub read : Input → List ℕ → Input
read i bytes = read_by i (length bytes)

abbrev pub handed_by : Output → ℕ → Bool → Output
handed_by o n cut = record { descriptor = o.descriptor; bytes = (o.bytes + n) % 2 ^ 64; cut = cut }

pub wrote : Output → List ℕ → Output
wrote o text = handed_by o (length text) o.cut

-- the end of the input was met; a read failed; a write failed, of which nobody knows how much it wrote
abbrev pub stopped_by : Input → End → Input
stopped_by i end = record { descriptor = i.descriptor; bytes = i.bytes; end = end }

pub ended : Input → Input
ended i = stopped_by i Met

pub broken : Input → Input
broken i = stopped_by i Broken

pub cut : Output → Output
cut o = record { descriptor = o.descriptor; bytes = o.bytes; cut = true }

-- what a read did: it failed, or met the end, or brought bytes
unfoldable pub came : (failed : Bool) → (count : ℕ) → Input → List ℕ → Input
came failed count i bytes = cond failed (broken i) (cond (count == 0) (ended i) (read i bytes))

-- what a write did
abbrev pub sent : (failed : Bool) → Output → Output
sent true o = cut o
sent false o = o

-- one call after the other
more_bytes : (n : ℕ) (a b : List ℕ) → ((n + length a) % 2 ^ 64 + length b) % 2 ^ 64 ≡ (n + length (a ++ b)) % 2 ^ 64
more_bytes n a b = let l = length-append a b in omega (arith, l)

pub read-on : (i : Input) (a b : List ℕ) → read (read i a) b ≡ read i (a ++ b)
unfolding read
read-on i a b = ap (λ (n : ℕ). record { descriptor = i.descriptor; bytes = n; end = i.end }) (more_bytes i.bytes a b)

pub wrote_on : (o : Output) (a b : List ℕ) → wrote (wrote o a) b ≡ wrote o (a ++ b)
unfolding wrote
wrote_on o a b = ap (λ (n : ℕ). record { descriptor = o.descriptor; bytes = n; cut = o.cut }) (more_bytes o.bytes a b)

-- no bytes
pub read_none : (fd : ℕ) → read (unread fd) [] ≡ unread fd
unfolding read unread
read_none fd = refl

pub wrote_none : (fd : ℕ) → wrote (unwritten fd) [] ≡ unwritten fd
unfolding wrote unwritten
wrote_none fd = refl

-- for the proofs of this crate alone: cited elsewhere, they would let a text be exchanged for another of its length, or an end be claimed
pub unread-is : (fd : ℕ) → record { descriptor = fd; bytes = 0; end = Open } ≡ unread fd
unfolding unread
unread-is fd = refl

pub unwritten-is : (fd : ℕ) → record { descriptor = fd; bytes = 0; cut = false } ≡ unwritten fd
unfolding unwritten
unwritten-is fd = refl

pub read_is : (i : Input) (n : ℕ) (bytes : List ℕ) → n ≡ length bytes → read_by i n ≡ read i bytes
unfolding read
read_is i n bytes e = ap (read_by i) e

pub ended_is : (i : Input) → stopped_by i Met ≡ ended i
unfolding ended
ended_is i = refl

pub broken-is : (i : Input) → stopped_by i Broken ≡ broken i
unfolding broken
broken-is i = refl

pub wrote-is : (o : Output) (text : List ℕ) → handed_by o (length text) o.cut ≡ wrote o text
unfolding wrote
wrote-is o text = refl

pub cut-is : (o : Output) (text : List ℕ) → handed_by o (length text) true ≡ cut (wrote o text)
unfolding cut wrote
cut-is o text = refl
