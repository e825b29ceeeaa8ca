-- What a call answers in one number, and what the lent cells then hold. docs/RULES.md, "Who can be turned away, and by which number".
-- Assumes nothing.
use Rattle.std.specs.Prelude.{Result, Ok, Err, ℕ, ◌+◌, ◌*◌, ◌/◌, ◌%◌, ◌≡◌, List, pos, neg_ℤ}
use Rattle.codec.specs.Signed.{bits_of}
use Rattle.codec.specs.Output.{Outcome, wrote, refused}
use Rattle.codec.specs.declared.refusal.Refusal.{Refusal}
use Rattle.codec.specs.Refusal.{number}

-- the answer, and the cells when the call returns
pub data Reply : Type 0 where
  reply : ℕ → List ℕ → Reply

-- one answer by how many bytes were written, the other by the refusal's number
unfoldable pub answered : (bytes refusal : ℕ → ℕ) → Outcome → Reply
answered f g (wrote n cells) = reply (f n) cells
answered f g (refused e cells) = reply (g (number e)) cells

-- minus a number, as a signed number of 64 bits
unfoldable pub minus : ℕ → ℕ
minus e = bits_of 64 (neg_ℤ (pos e))

-- 0, or the refusal's number
abbrev pub numbered : Outcome → Reply
numbered = answered (λ n. 0) (λ e. e)

-- how many bytes were written, or minus the refusal's number
abbrev pub sized : Outcome → Reply
sized = answered (λ n. n) minus

-- 0, or minus the refusal's number
abbrev pub placed : Outcome → Reply
placed = answered (λ n. 0) minus

-- the same of an answer, by what it is where it is not refused
unfoldable pub answer_of : {A : Type 0} → (A → ℕ) → (refusal : ℕ → ℕ) → Result A Refusal → ℕ
answer_of f g (Ok x) = f x
answer_of f g (Err e) = g (number e)

abbrev pub number_of : {A : Type 0} → Result A Refusal → ℕ
number_of = answer_of (λ x. 0) (λ e. e)

abbrev pub size_of : Result ℕ Refusal → ℕ
size_of = answer_of (λ n. n) minus

abbrev pub place_of : Result ℕ Refusal → ℕ
place_of = answer_of (λ n. 0) minus

-- a refusal's number, and 256 times the id of 15
abbrev pub with_id : ℕ → ℕ → ℕ
with_id number id = number + 256 * id

-- both are told by the answer
pub record Told (r number id : ℕ) : Type 0 where
  pub number_is : r % 256 ≡ number
  pub id-is : r / 256 ≡ id
