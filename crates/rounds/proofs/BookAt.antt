-- The book's steps at the boundary S + L·j of an open round, as tests on j.
-- Assumes nothing.
use mathlib.Core.Path.{◌≡◌, ap}
use mathlib.Core.Bool.{not, cond, ◌&&◌, ◌||◌}
use Prim.Native.Nat.{ℕ, ◌+◌, ◌*◌, ◌<◌}
use native.Mathlib.Omega.{arith}
use borrow.Author.Tests.{leb-false}
use lib.Dec.{leb, ltb, eqb}
use Rattle.voting.proofs.Laws.Tests.{by-test}
use Rattle.voting.specs.declared.settings.VotingConfig.{VotingConfig}
use Rattle.voting.specs.Settings.{voting_length, vote_epochs, activation_epochs, fork_limit}
use Rattle.rounds.specs.Book.{idle, since, epochs_since, book_add, book_rise, book_close}
use Rattle.rounds.specs.Claim.{Sound}
use Rattle.rounds.proofs.Scaled.{epoch-is}

module _ (g : VotingConfig) (sound : Sound g) (S j : ℕ) where
  -- past V the epoch before brings nothing
  pub add_at : (n c : ℕ) → (vote_epochs g < j → c ≡ 0) → book_add g (S + voting_length g * j) c (since S n) ≡ since S (c + n)
  unfolding book_add epochs_since
  add_at n c quiet =
      rw (epoch-is (voting_length g) S sound.length-positive j)
      (by-test (leb j (vote_epochs g))
      (λ e. simp e (ap (since S) (let q : n + c ≡ c + n = omega arith in q)))
      (λ e.
      let z = quiet (leb-false j (vote_epochs g) e) in
      simp e (ap (since S) (let q : n ≡ c + n = omega arith in q))))

  pub rise-at : (m v : ℕ) → book_rise g (S + voting_length g * j) (since S m) v
      ≡ cond (eqb j (vote_epochs g + activation_epochs g) && ltb (fork_limit g) m) (v + 1) v
  unfolding book_rise epochs_since
  rise-at m v = rw (epoch-is (voting_length g) S sound.length-positive j)

  pub close_at : (m : ℕ) → book_close g (S + voting_length g * j) (since S m)
      ≡ cond ((eqb j (vote_epochs g + 1) && not (ltb (fork_limit g) m)) || eqb j (vote_epochs g + activation_epochs g + 1)) idle (since S m)
  unfolding book_close epochs_since
  close_at m = rw (epoch-is (voting_length g) S sound.length-positive j)
