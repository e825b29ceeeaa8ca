-- What was put is read back: pieces one after another, and each kind of value. Assumes nothing.
use mathlib.Core.Path.{◌≡◌, refl, sym, ap, subst, ◌∙◌}
use mathlib.Core.List.{List, [], ◌∷◌, ◌++◌}
use mathlib.Core.Bool.{Bool, true, false, cond}
use lib.Dec.{leb}
use Rattle.codec.specs.declared.refusal.Refusal.TheVariants.{OutputShort}
use Rattle.codec.specs.Output.{Outcome, wrote, refused, outcome, writes}
use Rattle.codec.specs.declared.refusal.Refusal.{Refusal}
use Prim.Native.Nat.{ℕ, zero, suc, ◌+◌, ◌/◌, ◌%◌, ◌^◌, ◌<◌}
use native.Mathlib.Nat.{add_assoc, add-zero, zero-add, mod-eq_of_lt}
use native.Mathlib.Omega.{arith}
use lib.IntN.{ℤ}
use lib.ListN.{length, get_or, drop, length-append, get_or-append}
use lib.Seq.{get_or-append-add}
use mir.Syntax.{w8, w32}
use mir.Val.{SFits}
use Rattle.codec.specs.BigEndian.{big_endian_bytes}
use Rattle.codec.specs.Signed.{bits_of}
use Rattle.codec.proofs.Laws.BigEndian.{number-of-bytes, bytes-length}
use Rattle.codec.proofs.Laws.Signed.{bits_back, bits_fit}
use Rattle.voting.specs.declared.settings.VotingConfig.{VotingConfig}
use Rattle.voting.specs.Value.{Value}
use Rattle.std.specs.Prelude.{None, Some, Result, Ok, Err}
use Rattle.voting.specs.declared.table.Fork.{Fork}
use Rattle.voting.specs.declared.table.Table.{Table}
use Rattle.voting.specs.declared.tally.Entry.{Entry}
use Rattle.voting.specs.declared.tally.Tally.{Tally}
use Rattle.archive.specs.declared.replay.Replay.{Replay}
use Rattle.extension.specs.declared.section.Section.{Section}
use Rattle.extension.specs.declared.update.Update.{Update}
use Rattle.wire.specs.Put.{Stands, Back, Written}
use Rattle.wire.specs.Numbers.{number_bytes, number_at, four_bytes}
use Rattle.wire.specs.Values.{marked, value_bytes, value_of, value_at, slots_bytes, slots_at, fork_bytes, fork_at, table_bytes, table_at, settings_bytes, settings_at, entry_bytes, entry_at, tally_bytes, tally_at}
use Rattle.wire.specs.State.{state_bytes, state_at}
use Rattle.wire.specs.Places.{section_bytes, section_at, update_bytes, update_at, Narrow}
use Rattle.wire.proofs.Laws.{value-long}

-- two pieces that stand one after the other
pub cut : {a b s : List ℕ} {n at : ℕ} → length a ≡ n → Stands s at (a ++ b) → Stands s at a × Stands s (at + n) b
cut {a} {b} {s} {n} {at} l h = (
  record { here = λ k q. h.here k (inside k q) ∙ get_or-append a b 0 k q },
  record { here = λ k q. ap (λ (m : ℕ). get_or s m 0) (over k) ∙ h.here (length a + k) (behind k q) ∙ get_or-append-add a b k 0 },
)
  where
    inside : (k : ℕ) → k < length a → k < length (a ++ b)
    inside k q = rw (length-append a b) (omega arith)

    behind : (k : ℕ) → k < length b → length a + k < length (a ++ b)
    behind k q = rw (length-append a b) (omega arith)

    over : (k : ℕ) → at + n + k ≡ at + (length a + k)
    over k = rw (← l) (add_assoc at (length a) k)

-- a number
pub number-back : (n : ℕ) → n < 2 ^ 32 → Back number_at (number_bytes n) n
unfolding number_at number_bytes big_endian_bytes
number-back n f s at h =
    let e : get_or s at 0 ≡ n / 256 ^ 3 % 256 = ap (λ (m : ℕ). get_or s m 0) (sym (add-zero at)) ∙ h.here 0 (omega arith) in
    rw (e, h.here 1 (omega arith), h.here 2 (omega arith), h.here 3 (omega arith)) (number-of-bytes 4 n ∙ mod-eq_of_lt f)

-- a byte, and a number after it
pub marked-back : (mark n : ℕ) {s : List ℕ} {at : ℕ} → Stands s at (marked mark n) → (get_or s at 0 ≡ mark) × Stands s (at + 1) (number_bytes n)
unfolding marked
marked-back mark n {s} {at} h = (
  ap (λ (m : ℕ). get_or s m 0) (sym (add-zero at)) ∙ h.here 0 (omega arith),
  record { here = λ k q. ap (λ (m : ℕ). get_or s m 0) (over k) ∙ h.here (suc k) (omega arith) },
)
  where
    over : (k : ℕ) → at + 1 + k ≡ at + suc k
    over k = omega arith

-- a value
pub absent-back : (v : Value) → v ≡ None → Back value_at (value_bytes v) v
unfolding value_at value_of value_bytes
absent-back v e = rw e (λ s at h. rw (marked-back 0 0 h).0)

pub present-back : (v : Value) (z : ℤ) → v ≡ Some z → SFits w32 z → Back value_at (value_bytes v) v
unfolding value_at value_of value_bytes
present-back v z e f = rw e (λ s at h. let m = marked-back 1 (bits_of 32 z) h in rw (m.0, number-back (bits_of 32 z) (bits_fit w32 z f) s (at + 1) m.1, bits_back w32 z f))

-- an entry
pub entry-back : (e : Entry) → SFits w8 e.id → e.count < 2 ^ 32 → Back entry_at (entry_bytes e) e
unfolding entry_at entry_bytes
entry-back e f g s at h = let m = marked-back (bits_of 8 e.id) e.count h in rw (m.0, number-back e.count g s (at + 1) m.1, bits_back w8 e.id f)

-- three pieces, and four
long2 : (a b : List ℕ) {n m : ℕ} → length a ≡ n → length b ≡ m → length (a ++ b) ≡ n + m
long2 a b p q = rw (length-append a b, p, q)

pub three : {a b c s : List ℕ} {n m at : ℕ} → length a ≡ n → length b ≡ m → Stands s at (a ++ b ++ c) → Stands s at a × Stands s (at + n) b × Stands s (at + (n + m)) c
three {a} {b} p q h = let y = cut (long2 a b p q) h in let x = cut p y.0 in (x.0, x.1, y.1)

pub four : {a b c d s : List ℕ} {n m k at : ℕ} → length a ≡ n → length b ≡ m → length c ≡ k → Stands s at (a ++ b ++ c ++ d) → Stands s at a × Stands s (at + n) b × Stands s (at + (n + m)) c × Stands s (at + (n + m + k)) d
four {a} {b} {c} p q r h = let y = cut (long2 (a ++ b) c (long2 a b p q) r) h in let x = three p q y.0 in (x.0, x.1, x.2, y.1)

pub number-long : (n : ℕ) → length (number_bytes n) ≡ 4
unfolding number_bytes
number-long n = bytes-length 4 n

pub entry-long : (e : Entry) → length (entry_bytes e) ≡ 5
unfolding entry_bytes marked
entry-long e = ap suc (number-long e.count)

-- slots, as many as there are
pub slots-back : (n : ℕ) (slots : List Value) → length slots ≡ n → ((j : ℕ) → j < n → Back value_at (value_bytes (get_or slots j None)) (get_or slots j None)) → Back (slots_at n) (slots_bytes slots) slots
unfolding slots_at slots_bytes
slots-back zero [] l r s at h = refl
slots-back zero (x ∷ xs) l r s at h = absurd (omega arith)
slots-back (suc n) [] l r s at h = absurd (omega arith)
slots-back (suc n) (x ∷ xs) l r s at h =
    let y = cut (value-long x) h in
    rw (r 0 (omega arith) s at y.0, slots-back n xs (omega arith) (λ j q. r (suc j) (omega arith)) s (at + 5) y.1)

-- structs, field by field
pub fork-back : (f : Fork) → Back value_at (value_bytes f.votes) f.votes → Back value_at (value_bytes f.start) f.start → Back value_at (value_bytes f.version) f.version → Back fork_at (fork_bytes f) f
unfolding fork_at fork_bytes
fork-back f p q r s at h =
    let x = three (value-long f.votes) (value-long f.start) h in
    rw (p s at x.0, q s (at + 5) x.1, r s (at + 10) x.2)

pub table-back : (t : Table) → length (slots_bytes t.ordinary) ≡ 45 → Back (slots_at 9) (slots_bytes t.ordinary) t.ordinary → Back fork_at (fork_bytes t.fork) t.fork → Back table_at (table_bytes t) t
unfolding table_at table_bytes
table-back t l p q s at h = let x = cut l h in rw (p s at x.0, q s (at + 45) x.1)

pub settings-back : (g : VotingConfig) → g.voting_length < 2 ^ 32 → g.soft_fork_epochs < 2 ^ 32 → g.activation_epochs < 2 ^ 32 → g.version2_activation_height < 2 ^ 32 → Back settings_at (settings_bytes g) g
unfolding settings_at settings_bytes four_bytes
settings-back g a b c d s at h =
    let x = four (number-long g.voting_length) (number-long g.soft_fork_epochs) (number-long g.activation_epochs) h in
    rw (number-back _ a s at x.0, number-back _ b s (at + 4) x.1, number-back _ c s (at + 8) x.2, number-back _ d s (at + 12) x.3)

pub tally-back : (y : Tally) → Back entry_at (entry_bytes y.first) y.first → Back entry_at (entry_bytes y.second) y.second → Back entry_at (entry_bytes y.third) y.third → Back tally_at (tally_bytes y) y
unfolding tally_at tally_bytes
tally-back y p q r s at h =
    let x = three (entry-long y.first) (entry-long y.second) h in
    rw (p s at x.0, q s (at + 5) x.1, r s (at + 10) x.2)

pub state-back : (x : Replay) → length (settings_bytes x.settings) ≡ 16 → length (table_bytes x.table) ≡ 60 → Back settings_at (settings_bytes x.settings) x.settings → Back table_at (table_bytes x.table) x.table → Back number_at (number_bytes x.next) x.next → Back tally_at (tally_bytes x.tally) x.tally → Back state_at (state_bytes x) x
unfolding state_at state_bytes
state-back x l m p q r t s at h =
    let y = four l m (number-long x.next) h in
    rw (p s at y.0, q s (at + 16) y.1, r s (at + 76) y.2, t s (at + 80) y.3)

pub section-back : (s : Section) → s.count < 2 ^ 32 → Narrow s → Back section_at (section_bytes s) s
unfolding section_at section_bytes
section-back x f n s at h =
    let y = three (number-long x.count) (number-long x.begin) h in
    rw (number-back _ f s at y.0, number-back _ n.begin-fits s (at + 4) y.1, number-back _ n.end_fits s (at + 8) y.2)

pub update-back : (u : Update) → length (section_bytes u.rules) ≡ 12 → Back section_at (section_bytes u.rules) u.rules → Back section_at (section_bytes u.statuses) u.statuses → Back update_at (update_bytes u) u
unfolding update_at update_bytes
update-back u l p q s at h = let y = cut l h in rw (p s at y.0, q s (at + 12) y.1)

-- what was written stands from the start of the cells, and is read back
abbrev pub cells_of : Outcome → List ℕ
cells_of (wrote n cells) = cells
cells_of (refused e cells) = cells

abbrev pub IsWrote : Outcome → Type 0
IsWrote (wrote n cells) = Unit {0}
IsWrote (refused e cells) = ⊥

at-start : (b : Bool) (n m : ℕ) (e : Refusal) (after piece rest cells : List ℕ) → wrote n after ≡ cond b (wrote m (piece ++ rest)) (refused e cells) → Stands after 0 piece
at-start true n m e after piece rest cells q =
    let a : after ≡ piece ++ rest = ap cells_of q in
    record { here = λ k f. ap (λ (l : List ℕ). get_or l (0 + k) 0) a ∙ ap (λ (j : ℕ). get_or (piece ++ rest) j 0) (zero-add k) ∙ get_or-append piece rest 0 k f }
at-start false n m e after piece rest cells q = absurd (subst IsWrote q tt)

pub reads-back : {X : Type 0} {read_at : List ℕ → ℕ → X} {piece : List ℕ} {x : X} → Back read_at piece x → (w : Result ℕ Refusal) (after cells : List ℕ) → outcome w after ≡ writes piece cells → Written w → read_at after 0 ≡ x
unfolding writes
reads-back {piece = piece} b (Ok n) after cells e t =
    b after 0 (at-start (leb (length piece) (length cells)) n (length piece) OutputShort after piece (drop (length piece) cells) cells e)
reads-back b (Err e) after cells q t = cc
