-- A line in the rest of a buffer, behind what stands there.
-- Assumes nothing.
use Rattle.std.proofs.Common.{Result, Ok, Err, ◌≡◌, ℕ, ◌+◌, ◌-◌, ◌≤◌, List, ◌++◌, length, take, drop, sym, refl, ap, ◌∙◌, append_assoc, append-nil, arith, length-append, length-drop, drop_of_length-le, length-take-le, take_all, drop-drop, take_at, drop_at, le-leb}
use Rattle.codec.specs.declared.refusal.Refusal.{Refusal}
use Rattle.codec.specs.Output.{Outcome, wrote, refused, outcome, writes}
use Rattle.stream.specs.Lines.{line_most}
use Rattle.stream.specs.Added.{Added}

abbrev count : Outcome → ℕ
count (wrote n cells) = n
count (refused e cells) = 0

abbrev after : Outcome → List ℕ
after (wrote n cells) = cells
after (refused e cells) = cells

abbrev stopped : Outcome → ℕ
stopped (wrote n cells) = 0
stopped (refused e cells) = 1

-- a text that fits is written
module _ (text cells : List ℕ) (h : length text ≤ length cells) (w : Result ℕ Refusal) (cells' : List ℕ) (q : outcome w cells' ≡ writes text cells) where
  fits : writes text cells ≡ wrote (length text) (text ++ drop (length text) cells)
  unfolding writes
  fits = rw (le-leb (length text) (length cells) h)

  pub never : (e : Refusal) → w ≡ Err e → ⊥
  never e r = let z : ◌≡◌ {A = ℕ} 1 0 = ap (λ (x : Result ℕ Refusal). stopped (outcome x cells')) (sym r) ∙ ap stopped (q ∙ fits) in omega (arith, z)

  module _ (n : ℕ) (r : w ≡ Ok n) where
    pub written_is : n ≡ length text
    written_is = ap (λ (x : Result ℕ Refusal). count (outcome x cells')) (sym r) ∙ ap count (q ∙ fits)

    pub after_is : cells' ≡ text ++ drop (length text) cells
    after_is = ap (λ (x : Result ℕ Refusal). after (outcome x cells')) (sym r) ∙ ap after (q ∙ fits)

    pub front-is : take n cells' ≡ text
    front-is = ap (λ (k : ℕ). take k cells') written_is ∙ ap (take (length text)) after_is ∙ take_at text (drop (length text) cells) (length text) refl

module _ (out : List ℕ) (at : ℕ) (h : at + line_most ≤ length out) (text : List ℕ) (short : length text ≤ line_most) where
  abbrev part : List ℕ
  part = take (length out - at) (drop at out)

  part-is : part ≡ drop at out
  part-is = take_all (length out - at) (drop at out) (omega (arith, length-drop at out))

  room : length text ≤ length part
  room = omega (arith, h, short, ap length part-is, length-drop at out)

  module _ (w : Result ℕ Refusal) (cells' : List ℕ) (q : outcome w cells' ≡ writes text part) where
    pub added-never : (e : Refusal) → w ≡ Err e → ⊥
    added-never = never text part room w cells' q

    module _ (n : ℕ) (r : w ≡ Ok n) where
      pub added-most : n ≤ line_most
      added-most = omega (arith, short, written_is text part room w cells' q n r)

      rest : cells' ++ drop (length out - at) (drop at out) ≡ text ++ drop (at + length text) out
      rest =
          ap (λ (x : List ℕ). cells' ++ x) (drop_of_length-le (drop at out) {i = length out - at} (omega (arith, length-drop at out)))
          ∙ append-nil cells'
          ∙ after_is text part room w cells' q n r
          ∙ ap (λ (x : List ℕ). text ++ drop (length text) x) part-is
          ∙ ap (λ (x : List ℕ). text ++ x) (drop-drop (length text) at out)

      pub added : Added text at (at + n) out (take at out ++ (cells' ++ drop (length out - at) (drop at out)))
      added =
          record {
            is = ap (λ (x : List ℕ). take at out ++ x) rest;
            ends = ap (λ (k : ℕ). at + k) (written_is text part room w cells' q n r);
            small = short;
          }

-- what an added text did to the buffer
module _ (text : List ℕ) (at next : ℕ) (out out' : List ℕ) (a : Added text at next out out') (h : at + length text ≤ length out) where
  front : length (take at out) ≡ at
  front = length-take-le at out (omega (arith, h))

  pub added-long : length out' ≡ length out
  added-long =
      let d = drop (at + length text) out in
      omega (arith, ap length a.is, length-append (take at out) (text ++ d), length-append text d, length-drop (at + length text) out, front, h)

  regrouped : out' ≡ (take at out ++ text) ++ drop (at + length text) out
  regrouped = a.is ∙ sym (append_assoc (take at out) text (drop (at + length text) out))

  front_long : length (take at out ++ text) ≡ next
  front_long = omega (arith, length-append (take at out) text, front, a.ends)

  pub added-front : take next out' ≡ take at out ++ text
  added-front = ap (take next) regrouped ∙ take_at (take at out ++ text) (drop (at + length text) out) next front_long

  pub added-rest : drop next out' ≡ drop next out
  added-rest = ap (drop next) regrouped ∙ drop_at (take at out ++ text) (drop (at + length text) out) next front_long ∙ ap (λ (n : ℕ). drop n out) (sym a.ends)
