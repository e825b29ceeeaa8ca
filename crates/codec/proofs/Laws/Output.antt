-- Stores at a position of a list, and how they join: the laws that serve every writer into a lent buffer.
-- Assumes nothing.
use Rattle.std.proofs.Common.{Err, ◌≡◌, ℕ, ◌+◌, suc, ◌<◌, ◌≤◌, List, [], ◌∷◌, ◌++◌, length, get_or, drop, set, sym, refl, ap, ◌∙◌, add-zero, zero-add, add-one, arith, drop_of_length-le, drop-cons, le-leb}
use borrow.Author.Tests.{lt-leb}
use lib.Seq.{sets, sets-eq, set_out}
use Rattle.codec.specs.declared.refusal.Refusal.TheVariants.{OutputShort}
use Rattle.codec.specs.declared.refusal.Refusal.{Refusal}
use Rattle.codec.specs.Check.{Check, passed}
use Rattle.codec.specs.Output.{wrote, refused, writes, writing}

-- a run of stores, and then another
pub sets-append : (a b cells : List ℕ) (at : ℕ) → sets cells at (a ++ b) ≡ sets (sets cells at a) (at + length a) b
sets-append [] b cells at = rw add-zero
sets-append (x ∷ a) b cells at =
    let e : at + suc (length a) ≡ suc at + length a = omega arith in
    rw e (sets-append a b (set cells at x) (suc at))

-- stores past the end change nothing
pub sets-out : (bytes cells : List ℕ) (at : ℕ) → length cells ≤ at → sets cells at bytes ≡ cells
sets-out [] cells at h = refl
sets-out (b ∷ bytes) cells at h =
    let h' : length cells ≤ suc at = omega arith in
    rw (set_out cells at b h) (sets-out bytes cells (suc at) h')

-- the stores that are left after i of them: none, or one and then the others
module _ (bytes : List ℕ) (i : ℕ) where
  pub sets-none : length bytes ≤ i → (cells : List ℕ) (k : ℕ) → sets cells k (drop i bytes) ≡ cells
  sets-none h cells k = rw (drop_of_length-le bytes h)

  pub sets-one : i < length bytes → (cells : List ℕ) (k : ℕ) → sets cells k (drop i bytes) ≡ sets (set cells k (get_or bytes i 0)) (k + 1) (drop (i + 1) bytes)
  sets-one h cells k = rw (drop-cons bytes i 0 h, add-one k, add-one i)

-- a writer's outcome, by its test of the buffer's length: n is the number of bytes that it wants to write
module _ (bytes cells : List ℕ) (n : ℕ) (e : n ≡ length bytes) where
  pub short : length cells < n → refused OutputShort cells ≡ writes bytes cells
  unfolding writes
  short h = let h' : length cells < length bytes = omega arith in rw (lt-leb _ _ h')

  pub done : n ≤ length cells → (after : List ℕ) → after ≡ sets cells 0 bytes → wrote n after ≡ writes bytes cells
  unfolding writes
  done h after q =
      let h' : length bytes ≤ length cells = omega arith in
      let h'' : 0 + length bytes ≤ length cells = omega arith in
      rw (q, le-leb _ _ h', sets-eq bytes cells 0 h'', zero-add, e)

-- a writer's outcome, by a check that comes before the test of the length
module _ (bytes cells : List ℕ) (c : Check) where
  pub writing-stop : (e : Refusal) → c ≡ Err e → refused e cells ≡ writing c bytes cells
  unfolding writing
  writing-stop e q = rw q

  pub writing-go : c ≡ passed → writing c bytes cells ≡ writes bytes cells
  unfolding writing
  writing-go q = rw q
