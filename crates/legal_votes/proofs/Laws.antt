-- The listing, handed over piece by piece.
-- Assumes nothing.
use Rattle.std.proofs.Common.{◌≡◌, sym, ap, ◌∙◌, Bool, true, false, true≢false, cond, ltb, le-ltb, List, [], ◌++◌, append_assoc, append-nil, ℕ, ◌-◌, ◌≤◌, ◌<◌, arith, length, take, subst}
use Rattle.std.specs.Prelude.{Result, Ok, Err, IsOk, Option, Some, None}
use Rattle.codec.specs.declared.refusal.Refusal.{Refusal}
use Rattle.codec.specs.declared.refusal.Refusal.TheVariants.{OutputShort}
use Rattle.codec.specs.Output.{written}
use Rattle.ports.specs.declared.Output.{Output}
use Rattle.ports.specs.Ports.{unwritten, wrote, sent, wrote_on, wrote_none}
use Rattle.ports.proofs.Laws.{text-fits, text-sent}
use Rattle.legal.specs.declared.next.Votes.{Votes}
use Rattle.legal.specs.Legal.{votes}
use Rattle.legal.specs.declared.listing.Filled.{Filled}
use Rattle.legal.specs.Listing.{lines_of, listing, line_most, rest_of, text_of, next_of, fill_of, GoesOn}
use Rattle.legal.proofs.Laws.Listing.{one_piece, begins}
use Rattle.legal_votes.specs.Prints.{Prints, Printing}

-- nothing was handed over
pub printing-starts : (T : List ℕ → Type 0) (to : ℕ) (at : Option Votes) (o : Output) → at ≡ Some (votes 0 0 0) → o ≡ unwritten to → T [] → Printing T to at o
printing-starts T to at o p q t = record {
  text = [];
  is-output = q ∙ sym (wrote_none to);
  goes_on = ap (λ (v : Option Votes). lines_of (rest_of v)) p ∙ begins;
  took = t;
}

-- a buffer with room for a line is filled
pub fills : (at : Option Votes) (room : ℕ) {r : Result Filled Refusal} → r ≡ fill_of at room → line_most ≤ room → IsOk r
unfolding fill_of
fills at room e h = rw (e, le-ltb room line_most h)

-- a piece that was filled in
module _ (at : Option Votes) (out : List ℕ) (f : Filled) (is-filled : Ok f ≡ fill_of at (length out)) (out' : List ℕ)
    (lines : out' ≡ written (text_of at (length out)) out) where
  piece-is : f ≡ record { next = next_of at (length out); wrote = length (text_of at (length out)) }
  unfolding fill_of
  piece-is = go (ltb (length out) line_most) is-filled
    where
      go : (t : Bool) → Ok f ≡ cond t (Err OutputShort) (Ok (record { next = next_of at (length out); wrote = length (text_of at (length out)) })) → f ≡ record { next = next_of at (length out); wrote = length (text_of at (length out)) }
      go true e = cc
      go false e = cc

  next-is : f.next ≡ next_of at (length out)
  next-is = ap (λ (x : Filled). x.next) piece-is

  wrote-is : f.wrote ≡ length (text_of at (length out))
  wrote-is = ap (λ (x : Filled). x.wrote) piece-is

  -- and handed over, behind what was
  module _ (T : List ℕ → Type 0) (to : ℕ) (o : Output) (g : Printing T to at o) (failed : Bool) (o' : Output) (s : o' ≡ sent failed (wrote o (take (f.wrote - 0) out')))
      (A T' : List ℕ → Type 0) (told : failed ≡ false → A (take (f.wrote - 0) out')) (join : (x y : List ℕ) → T x → A y → T' (x ++ y)) where
    handed : o' ≡ sent failed (wrote (unwritten to) (g.text ++ text_of at (length out)))
    handed =
        text-sent (text_of at (length out)) out out' lines f.wrote wrote-is o failed o' s
        ∙ ap (λ (x : Output). sent failed (wrote x (text_of at (length out)))) g.is-output
        ∙ ap (sent failed) (wrote_on (unwritten to) g.text (text_of at (length out)))

    behind : (g.text ++ text_of at (length out)) ++ lines_of (rest_of f.next) ≡ listing
    behind =
        append_assoc g.text (text_of at (length out)) (lines_of (rest_of f.next))
        ∙ ap (λ (v : Option Votes). g.text ++ (text_of at (length out) ++ lines_of (rest_of v))) next-is
        ∙ ap (λ (l : List ℕ). g.text ++ l) (one_piece at (length out))
        ∙ g.goes_on

    -- the write failed
    pub prints-begun : failed ≡ true → Prints to (record { output = o'; failed = true })
    prints-begun e = record {
      text = g.text ++ text_of at (length out);
      rest = lines_of (rest_of f.next);
      is-output = handed ∙ ap (λ (b : Bool). sent b (wrote (unwritten to) (g.text ++ text_of at (length out)))) e;
      whole = λ x. absurd (true≢false x);
      begun = sym behind;
    }

    -- it succeeded, and nothing is left, or the next piece begins at the next position
    module _ (e : failed ≡ false) where
      handed-whole : o' ≡ wrote (unwritten to) (g.text ++ text_of at (length out))
      handed-whole = handed ∙ ap (λ (b : Bool). sent b (wrote (unwritten to) (g.text ++ text_of at (length out)))) e

      joined : T' (g.text ++ text_of at (length out))
      joined = join g.text (text_of at (length out)) g.took (subst A (text-fits (text_of at (length out)) out out' lines f.wrote wrote-is) (told e))

      pub printed-all : f.next ≡ None → T' listing
      unfolding rest_of lines_of
      printed-all n = subst T' (sym (append-nil (g.text ++ text_of at (length out))) ∙ ap (λ (v : Option Votes). (g.text ++ text_of at (length out)) ++ lines_of (rest_of v)) (sym n) ∙ behind) joined

      pub prints-all : f.next ≡ None → Prints to (record { output = o'; failed = false })
      unfolding rest_of lines_of
      prints-all n =
          let all : g.text ++ text_of at (length out) ≡ listing =
          sym (append-nil (g.text ++ text_of at (length out)))
          ∙ ap (λ (v : Option Votes). (g.text ++ text_of at (length out)) ++ lines_of (rest_of v)) (sym n)
          ∙ behind in
          record {
            text = g.text ++ text_of at (length out);
            rest = [];
            is-output = handed-whole;
            whole = λ x. all;
            begun = sym all ∙ sym (append-nil (g.text ++ text_of at (length out)));
          }

      pub printing-on : (at' : Option Votes) → f.next ≡ at' → Printing T' to at' o'
      printing-on at' q = record {
        text = g.text ++ text_of at (length out);
        is-output = handed-whole;
        goes_on = ap (λ (v : Option Votes). (g.text ++ text_of at (length out)) ++ lines_of (rest_of v)) (sym q) ∙ behind;
        took = joined;
      }

  -- the next piece leaves fewer numbers
  pub printing-less : line_most ≤ length out → GoesOn at (length out) → (v : Votes) → f.next ≡ Some v → length (rest_of (Some v)) < length (rest_of at)
  printing-less h g v q =
      let e : next_of at (length out) ≡ Some v = sym next-is ∙ q in
      let l = g h (λ x. not-nothing v (sym e ∙ x)) in
      omega (arith, l, ap (λ (v : Option Votes). length (rest_of v)) e)
    where
      not-nothing : (v : Votes) → Some v ≡ None → ⊥
      not-nothing v x = let z : ◌≡◌ {A = ℕ} 0 1 = cc in omega arith
