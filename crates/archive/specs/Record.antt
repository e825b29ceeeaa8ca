-- The record of an epoch: three tagged fields. docs/RULES.md, "Replay".
-- Assumes nothing.
use Rattle.std.specs.Prelude.{Result, Ok, Err, ℕ, ◌+◌, ◌-◌, ◌^◌, ◌≤◌, ◌<◌, cond, ◌||◌, ◌≡◌, List, [], ◌∷◌, ◌++◌, ltb, leb, eqb, length, get_or}
use Rattle.codec.specs.BigEndian.{big_endian, big_endian_bytes}
use Rattle.extension.specs.Section.{part}
use Rattle.codec.specs.Check.{and_then}
use Rattle.archive.specs.declared.record.Unread.{Unread}
use Rattle.archive.specs.declared.record.Unread.TheVariants.{Short, Malformed}
use Rattle.archive.specs.declared.record.RecordPlace.{RecordPlace}

-- a tag, the length of the value in two bytes, and the value
unfoldable pub tagged_bytes : ℕ → List ℕ → List ℕ
tagged_bytes tag value = tag ∷ big_endian_bytes 2 (length value) ++ value

-- 1 the height in four bytes, 2 the body, 3 the votes
unfoldable pub record_bytes : ℕ → List ℕ → List ℕ → List ℕ
record_bytes height body votes = tagged_bytes 1 (big_endian_bytes 4 height) ++ tagged_bytes 2 body ++ tagged_bytes 3 votes

-- the most bytes of a body in a record
abbrev pub body_most : ℕ
body_most = 32768

-- a value of n bytes that begins at a position: where it ends, or how many bytes are missing; another length than asked for is wrong
unfoldable pub sized_at : List ℕ → (start least most n : ℕ) → Result ℕ Unread
sized_at s start least most n =
    cond (ltb n least || ltb most n) (Err Malformed) (cond (ltb (length s) (start + n)) (Err (Short (start + n - length s))) (Ok (start + n)))

-- a tagged field at a position
unfoldable pub tagged_at : List ℕ → (at tag least most : ℕ) → Result ℕ Unread
tagged_at s at tag least most =
    cond (leb (length s) at) (Err (Short 3))
    (cond (eqb (get_or s at 0) tag)
    (cond (ltb (length s) (at + 3)) (Err (Short (at + 3 - length s)))
    (sized_at s (at + 3) least most (big_endian (get_or s (at + 1) 0 ∷ get_or s (at + 2) 0 ∷ []))))
    (Err Malformed))

-- the record that bytes begin with, whose votes have so many bytes: its parts and where it ends; or at least how many bytes are missing; or
-- it is malformed, whatever follows. The three fields, one after the other
unfoldable pub record_at : List ℕ → ℕ → Result RecordPlace Unread
record_at s size =
    and_then (tagged_at s 0 1 4 4)
    (λ height_end. and_then (tagged_at s height_end 2 0 body_most)
    (λ body_end. and_then (tagged_at s body_end 3 size size)
    (λ end.
    Ok
    (record {
      height = big_endian (get_or s 3 0 ∷ get_or s 4 0 ∷ get_or s 5 0 ∷ get_or s 6 0 ∷ []);
      body = 10;
      body_end = body_end;
      votes = body_end + 3;
      end = end;
    }))))

-- where the parts of an encoded record stand
abbrev pub place_of : ℕ → (body_size votes_size : ℕ) → RecordPlace
place_of height body_size votes_size =
    record { height = height; body = 10; body_end = 10 + body_size; votes = 10 + body_size + 3; end = 10 + body_size + 3 + votes_size }

-- the bytes up to where a record ends are the encoding of the parts that it says
pub record Encodes (s : List ℕ) (size : ℕ) (p : RecordPlace) : Type 0 where
  pub height-fits : p.height < 2 ^ 32
  pub body-most : length (part s p.body p.body_end) ≤ body_most
  pub votes-size : length (part s p.votes p.end) ≡ size
  pub bytes : record_bytes p.height (part s p.body p.body_end) (part s p.votes p.end) ≡ part s 0 p.end

-- a record is read exactly where the bytes begin with the encoding of its parts
pub record RecordExact (s : List ℕ) (size : ℕ) : Type 0 where
  pub is-encoded : (p : RecordPlace) → record_at s size ≡ Ok p → Encodes s size p
  pub is_read : (height : ℕ) (body votes after : List ℕ) → height < 2 ^ 32 → length body ≤ body_most → length votes ≡ size → size < 2 ^ 16
      → s ≡ record_bytes height body votes ++ after → record_at s size ≡ Ok (place_of height (length body) size)
