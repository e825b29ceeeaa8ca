-- Parts of a list of bytes, from a start to an end; and what stands at a position.
-- Assumes nothing.
use mathlib.Core.Path.{◌≡◌, sym, ap, ◌∙◌}
use mathlib.Core.List.{List, ◌∷◌, ◌++◌}
use Prim.Native.Nat.{ℕ, suc, ◌+◌, ◌-◌, ◌≤◌, ◌<◌}
use native.Mathlib.Numerals.{add-one}
use native.Mathlib.Omega.{arith}
use lib.ListN.{length, get_or, take, drop, length-drop}
use lib.Seq.{length-take-le, take-add, take_all, drop-drop, drop-cons, drop-append_seam}
use Rattle.extension.specs.Section.{part}

-- a part has as many bytes as its place
pub part_length : (s : List ℕ) (start end : ℕ) → end ≤ length s → length (part s start end) ≡ end - start
part_length s start end h =
    let l : length (drop start s) ≡ length s - start = length-drop start s in
    length-take-le (end - start) (drop start s) (omega arith)

-- parts side by side, the whole, and a part by its first byte
pub part_join : (s : List ℕ) (a b c : ℕ) → a ≤ b → b ≤ c → part s a b ++ part s b c ≡ part s a c
part_join s a b c h k =
    let e : c - a ≡ b - a + (c - b) = omega arith in
    let d : a + (b - a) ≡ b = omega arith in
    sym (ap (λ (n : ℕ). take n (drop a s)) e ∙ take-add (b - a) (c - b) (drop a s) ∙ ap (λ (t : List ℕ). part s a b ++ take (c - b) t) (drop-drop (b - a) a s ∙ ap (λ (n : ℕ). drop n s) d))

pub part-all : (s : List ℕ) (end : ℕ) → end ≡ length s → part s 0 end ≡ s
part-all s end e = take_all (end - 0) s (omega arith)

pub part-cons : (s : List ℕ) (at n : ℕ) → at < length s → part s at (at + 1 + n) ≡ get_or s at 0 ∷ part s (at + 1) (at + 1 + n)
part-cons s at n h =
    let e : at + 1 + n - at ≡ suc n = omega arith in
    let d : at + 1 + n - (at + 1) ≡ n = omega arith in
    rw (e, d, drop-cons s at 0 h, add-one at)

-- after what stands at a position
pub drop_past : (at : ℕ) (s a t : List ℕ) → drop at s ≡ a ++ t → drop (at + length a) s ≡ t
drop_past at s a t e = sym (drop-drop (length a) at s) ∙ ap (drop (length a)) e ∙ drop-append_seam a t
