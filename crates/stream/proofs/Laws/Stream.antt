-- What is printed for an input, by the record that it begins with: over any reading that keeps six laws, any state and any step.
-- Assumes nothing.
use Rattle.std.proofs.Common.{◌≡◌, ℕ, zero, suc, ◌+◌, ◌-◌, ◌<◌, ◌≤◌, List, [], ◌∷◌, ◌++◌, length, take, drop, sym, refl, ap, ◌∙◌, subst, append_assoc, append-nil, arith, length-append, length-drop}
use lib.Seq.{take-append-le, drop-append-le, drop-append-add}
use Rattle.codec.specs.declared.refusal.Refusal.TheVariants.{RecordMalformed}
use Rattle.codec.specs.Refusal.{number}
use Rattle.stream.specs.Lines.{end_line}
use Rattle.stream.specs.Stream.{At, whole, unless, short, malformed, Step, goes, stops, after_step, after_at, printed_from, printed_after, missing, Held, of-short, of-unless}

-- the first bytes of a list, and the rest after them
taken-split : (k : ℕ) (l : List ℕ) → take k l ++ drop (length (take k l)) l ≡ l
taken-split zero l = refl
taken-split (suc k) [] = refl
taken-split (suc k) (x ∷ l) = ap (λ (t : List ℕ). x ∷ t) (taken-split k l)

pub taken-most : (k : ℕ) (l : List ℕ) → (length (take k l) ≤ k) × (length (take k l) ≤ length l)
taken-most zero l = (omega arith, omega arith)
taken-most (suc k) [] = (omega arith, omega arith)
taken-most (suc k) (x ∷ l) = let h = taken-most k l in (omega (arith, h.0), omega (arith, h.1))

taken-some : (k : ℕ) (l : List ℕ) → 0 < k → 0 < length l → 0 < length (take k l)
taken-some zero l h g = absurd (omega arith)
taken-some (suc k) [] h g = absurd (omega arith)
taken-some (suc k) (x ∷ l) h g = omega arith

-- all that the stream asks of a reading: no bytes are no record, more bytes change nothing of one that is whole or malformed, a whole one has
-- bytes and lies inside, and something is missing of a short one
pub record Lawful (at : List ℕ → At) : Type 0 where
  pub none : short 3 ≡ at []
  pub whole-stays : (s t : List ℕ) (e : ℕ) → whole e ≡ at s → whole e ≡ at (s ++ t)
  pub malformed-stays : (s t : List ℕ) → malformed ≡ at s → malformed ≡ at (s ++ t)
  pub whole-inside : (s : List ℕ) (e : ℕ) → whole e ≡ at s → (0 < e) × (e ≤ length s)
  pub unless-ends : (s : List ℕ) (e : ℕ) → unless e ≡ at s → (0 < e) × (e ≡ length s)
  pub short-some : (s : List ℕ) (k : ℕ) → short k ≡ at s → 0 < k

module _ {S : Type 0} (at : List ℕ → At) (law : Lawful at) (step : S → List ℕ → Step S) where
  abbrev from : ℕ → S → ℕ → List ℕ → List ℕ
  from = printed_from at step

  abbrev left : S → ℕ → List ℕ → List ℕ
  left = printed_after at step

  -- by the record that the input begins with
  left-some : (s : S) (n : ℕ) (input : List ℕ) → 0 < length input → left s n input ≡ after_at at step (at input) s n (from (length input)) input
  unfolding printed_from
  left-some s n [] h = absurd (omega arith)
  left-some s n (b ∷ input) h = refl

  -- the number that bounds the records is of no account
  abbrev Same : ℕ → ℕ → Type 0
  Same k j = (s : S) (n : ℕ) (input : List ℕ) → length input < k → length input < j → from k s n input ≡ from j s n input

  same_step : (k j : ℕ) → Same k j → (x : Step S) (n : ℕ) (rest : List ℕ) → length rest < k → length rest < j → after_step x n (from k) rest ≡ after_step x n (from j) rest
  unfolding after_step
  same_step k j same (goes s line) n rest h g = ap (λ (t : List ℕ). line ++ t) (same s (n + 1) rest h g)
  same_step k j same (stops e) n rest h g = refl

  -- a record that ends there
  same_end : (k j : ℕ) → Same k j → (s : S) (n : ℕ) (input : List ℕ) (e : ℕ) → (0 < e) × (e ≤ length input) → length input ≤ k → length input ≤ j
      → after_step (step s (take e input)) n (from k) (drop e input) ≡ after_step (step s (take e input)) n (from j) (drop e input)
  same_end k j same s n input e i h g =
      let l = length-drop e input in
      same_step k j same (step s (take e input)) n (drop e input) (omega (arith, i.0, i.1, l)) (omega (arith, i.0, i.1, l))

  same_at : (k j : ℕ) → Same k j → (r : At) (s : S) (n : ℕ) (input : List ℕ) → r ≡ at input → length input ≤ k → length input ≤ j
      → after_at at step r s n (from k) input ≡ after_at at step r s n (from j) input
  unfolding after_at
  same_at k j same (whole e) s n input q h g = same_end k j same s n input e (law.whole-inside input e q) h g
  same_at k j same (unless e) s n input q h g = let i = law.unless-ends input e q in same_end k j same s n input e (i.0, omega (arith, i.1)) h g
  same_at k j same (short x) s n input q h g = refl
  same_at k j same malformed s n input q h g = refl

  same : (k j : ℕ) → Same k j
  unfolding printed_from
  same zero j s n input h g = absurd (omega arith)
  same (suc k) zero s n input h g = absurd (omega arith)
  same (suc k) (suc j) s n [] h g = refl
  same (suc k) (suc j) s n (b ∷ input) h g = same_at k j (same k j) (at (b ∷ input)) s n (b ∷ input) refl (omega arith) (omega arith)

  -- the end of the input: after a record, and inside one
  pub left-none : (s : S) (n : ℕ) → left s n [] ≡ end_line n 0
  unfolding printed_from
  left-none s n = refl

  pub left-short : (s : S) (n : ℕ) (bytes : List ℕ) (k : ℕ) → short k ≡ at bytes → 0 < length bytes → left s n (bytes ++ []) ≡ end_line n (number RecordMalformed)
  unfolding after_at
  left-short s n bytes k q h = ap (left s n) (append-nil bytes) ∙ left-some s n bytes h ∙ rw (← q)

  -- bytes that begin with a record, and what follows them
  module _ (s : S) (n : ℕ) (bytes rest : List ℕ) (h : 0 < length bytes) where
    long : length (bytes ++ rest) ≡ length bytes + length rest
    long = length-append bytes rest

    left-malformed : malformed ≡ at bytes → left s n (bytes ++ rest) ≡ end_line n (number RecordMalformed)
    unfolding after_at
    left-malformed q = left-some s n (bytes ++ rest) (omega (arith, long)) ∙ rw (← law.malformed-stays bytes rest q)

    module _ (e : ℕ) (q : whole e ≡ at bytes) where
      inside : (0 < e) × (e ≤ length bytes)
      inside = law.whole-inside bytes e q

      left-whole : left s n (bytes ++ rest) ≡ after_step (step s (take e bytes)) n (from (length (bytes ++ rest))) (drop e bytes ++ rest)
      unfolding after_at
      left-whole =
          left-some s n (bytes ++ rest) (omega (arith, long))
          ∙ rw (← law.whole-stays bytes rest e q, take-append-le e bytes rest inside.1, drop-append-le e bytes rest inside.1)

      left-goes : (t : S) (line : List ℕ) → step s (take e bytes) ≡ goes t line → left s n (bytes ++ rest) ≡ line ++ left t (n + 1) (drop e bytes ++ rest)
      unfolding after_step
      left-goes t line g =
          let l : length (drop e bytes ++ rest) < length (bytes ++ rest) = omega (arith, long, length-append (drop e bytes) rest, length-drop e bytes, inside.0, inside.1) in
          left-whole
          ∙ rw g (ap (λ (x : List ℕ). line ++ x) (same (length (bytes ++ rest)) (suc (length (drop e bytes ++ rest))) t (n + 1) (drop e bytes ++ rest) l (omega arith)))

      left-stops : (f : ℕ) → step s (take e bytes) ≡ stops f → left s n (bytes ++ rest) ≡ end_line n f
      unfolding after_step
      left-stops f g = left-whole ∙ rw g

  pub held-some : (bytes : List ℕ) → Held at bytes → 0 < missing (at bytes)
  unfolding missing
  held-some bytes (of-short k p) = subst (λ (x : At). 0 < missing x) p (law.short-some bytes k p)
  held-some bytes (of-unless e p) = subst (λ (x : At). 0 < missing x) p (omega arith)

  -- bytes that wait, and a piece of which as many bytes are looked at as are missing
  module _ (s : S) (n : ℕ) (bytes piece more : List ℕ) (w : Held at bytes) (some : 0 < length piece) where
    abbrev t : List ℕ
    t = take (missing (at bytes)) piece

    abbrev rest : List ℕ
    rest = drop (length t) piece

    pub looked-some : 0 < length t
    looked-some = taken-some (missing (at bytes)) piece (held-some bytes w) some

    pub looked-most : length t ≤ length piece
    looked-most = (taken-most (missing (at bytes)) piece).1

    new-long : length (bytes ++ t) ≡ length bytes + length t
    new-long = length-append bytes t

    new-some : 0 < length (bytes ++ t)
    new-some = omega (arith, new-long, looked-some)

    -- nothing is known yet
    pub goes-waiting : left s n (bytes ++ (piece ++ more)) ≡ left s n ((bytes ++ t) ++ (rest ++ more))
    goes-waiting =
        ap (left s n)
        (ap (λ (x : List ℕ). bytes ++ (x ++ more)) (sym (taken-split (missing (at bytes)) piece)) ∙ ap (λ (x : List ℕ). bytes ++ x) (append_assoc t rest more) ∙ sym (append_assoc bytes t (rest ++ more)))

    pub goes-malformed : malformed ≡ at (bytes ++ t) → left s n (bytes ++ (piece ++ more)) ≡ end_line n (number RecordMalformed)
    goes-malformed q = goes-waiting ∙ left-malformed s n (bytes ++ t) (rest ++ more) new-some q

    -- a whole record, which ends among the bytes that were looked at
    module _ (e : ℕ) (q : whole e ≡ at (bytes ++ t)) (beyond : length bytes ≤ e) where
      after_is : drop e (bytes ++ t) ++ (rest ++ more) ≡ drop (e - length bytes) piece ++ more
      after_is =
          let k = e - length bytes in
          let z : length bytes + (e - length bytes) ≡ e = omega (arith, beyond) in
          let l : k ≤ length t = omega (arith, beyond, (law.whole-inside (bytes ++ t) e q).1, new-long) in
          ap (λ (i : ℕ). drop i (bytes ++ t) ++ (rest ++ more)) (sym z)
          ∙ ap (λ (x : List ℕ). x ++ (rest ++ more)) (drop-append-add bytes t k)
          ∙ sym (append_assoc (drop k t) rest more)
          ∙ ap (λ (x : List ℕ). x ++ more) (sym (drop-append-le k t rest l) ∙ ap (drop k) (taken-split (missing (at bytes)) piece))

      pub goes-accepted : (s' : S) (line : List ℕ) → step s (take e (bytes ++ t)) ≡ goes s' line
          → left s n (bytes ++ (piece ++ more)) ≡ line ++ left s' (n + 1) (drop (e - length bytes) piece ++ more)
      goes-accepted s' line g =
          goes-waiting ∙ left-goes s n (bytes ++ t) (rest ++ more) new-some e q s' line g ∙ ap (λ (x : List ℕ). line ++ left s' (n + 1) x) after_is

      pub goes-refused : (f : ℕ) → step s (take e (bytes ++ t)) ≡ stops f → left s n (bytes ++ (piece ++ more)) ≡ end_line n f
      goes-refused f g = goes-waiting ∙ left-stops s n (bytes ++ t) (rest ++ more) new-some e q f g
