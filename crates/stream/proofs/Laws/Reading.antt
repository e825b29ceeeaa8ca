-- The archive's reading of a record keeps the laws that the stream asks for. Assumes nothing.
use Rattle.std.proofs.Common.{Result, Ok, Err, ◌≡◌, ℕ, ◌<◌, ◌≤◌, List, [], ◌++◌, length, sym, refl, ap, ◌∙◌, subst, arith}
use Rattle.voting.specs.declared.settings.VotingConfig.{VotingConfig}
use Rattle.archive.specs.declared.record.RecordPlace.{RecordPlace}
use Rattle.archive.specs.declared.record.Unread.{Unread}
use Rattle.archive.specs.declared.record.Unread.TheVariants.{Short, Malformed}
use Rattle.archive.specs.Record.{tagged_at, record_at}
use Rattle.archive.specs.Replay.{votes_size}
use Rattle.archive.proofs.Laws.RecordTrip.{whole-stays, malformed-stays, whole-inside, short-room}
use Rattle.stream.specs.Stream.{At, whole, unless, short, malformed}
use Rattle.stream.specs.Run.{end_of, end_at}
use Rattle.stream.proofs.Laws.Stream.{Lawful}

module _ (g : VotingConfig) (s : List ℕ) where
  pub data WholeAt (e : ℕ) : Type 0 where
    ends : (p : RecordPlace) → Ok p ≡ record_at s (votes_size g) → e ≡ p.end → WholeAt e

  -- what an answer says of the record
  abbrev pub Says : At → Type 0
  Says (whole e) = WholeAt e
  Says (unless e) = ⊥
  Says (short k) = Err (Short k) ≡ record_at s (votes_size g)
  Says malformed = Err Malformed ≡ record_at s (votes_size g)

  says-by : (r : Result RecordPlace Unread) → r ≡ record_at s (votes_size g) → Says (end_of r)
  unfolding end_of
  says-by (Ok p) q = ends p q refl
  says-by (Err (Short k)) q = q
  says-by (Err Malformed) q = q

  pub says : (x : At) → x ≡ end_at g s → Says x
  unfolding end_at
  says x q = subst Says (sym q) (says-by (record_at s (votes_size g)) refl)

  pub at-whole : (p : RecordPlace) → Ok p ≡ record_at s (votes_size g) → whole p.end ≡ end_at g s
  unfolding end_of end_at
  at-whole p q = ap end_of q

  pub at-short : (k : ℕ) → Err (Short k) ≡ record_at s (votes_size g) → short k ≡ end_at g s
  unfolding end_of end_at
  at-short k q = ap end_of q

  pub at-malformed : Err Malformed ≡ record_at s (votes_size g) → malformed ≡ end_at g s
  unfolding end_of end_at
  at-malformed q = ap end_of q

module _ (g : VotingConfig) where
  stays : (s t : List ℕ) (e : ℕ) → WholeAt g s e → whole e ≡ end_at g (s ++ t)
  stays s t e (ends p q f) = ap whole f ∙ at-whole g (s ++ t) p (whole-stays s t (votes_size g) p q)

  inside : (s : List ℕ) (e : ℕ) → WholeAt g s e → (0 < e) × (e ≤ length s)
  inside s e (ends p q f) = let i = whole-inside s (votes_size g) p q in (omega (arith, i.0, f), omega (arith, i.1, f))

  none : Err (Short 3) ≡ record_at [] (votes_size g)
  unfolding record_at tagged_at
  none = refl

  pub lawful : Lawful (end_at g)
  lawful =
      record {
        none = at-short g [] 3 none;
        whole-stays = λ s t e q. stays s t e (says g s (whole e) q);
        malformed-stays = λ s t q. at-malformed g (s ++ t) (malformed-stays s t (votes_size g) (says g s malformed q));
        whole-inside = λ s e q. inside s e (says g s (whole e) q);
        unless-ends = λ s e q. absurd (says g s (unless e) q);
        short-some = λ s k q. (short-room s (votes_size g) k (says g s (short k) q)).0;
      }
