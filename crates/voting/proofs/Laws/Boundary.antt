-- The boundary's parts in order, and the check of a block's version.
-- Assumes nothing.
use Rattle.std.proofs.Common.{◌≡◌, ℕ, ◌<◌, Bool, true, not, ◌&&◌, List, ℤ, pos, refl, ap, ◌∙◌, arith, w32, SFits, of_z, eq-eqb, ne_eqb}
use Rattle.voting.specs.declared.settings.VotingConfig.{VotingConfig}
use Rattle.std.specs.Prelude.{None, Some, Result, Ok, Err}
use Rattle.std.specs.Result.{result_unwrap_or}
use Rattle.codec.specs.declared.refusal.Refusal.{Refusal}
use Rattle.codec.specs.declared.refusal.Refusal.TheVariants.{BlockVersionAbsent, BlockVersionDiffers}
use Rattle.codec.specs.Check.{passed}
use Rattle.voting.specs.declared.table.Table.{Table}
use Rattle.voting.specs.declared.tally.Entry.{Entry}
use Rattle.voting.specs.declared.fork.Round.{Round}
use Rattle.voting.specs.declared.fork.ForkPart.{ForkPart}
use Rattle.voting.specs.declared.boundary.Boundary.{Boundary}
use Rattle.voting.specs.Table.{lookup, with_fork, has_version, check_block_version}
use Rattle.voting.specs.Header.{soft_fork_vote}
use Rattle.voting.specs.Tally.{first_count}
use Rattle.voting.specs.ForkPart.{no_round, fork_part}
use Rattle.voting.specs.Ordinary.{known, ordinary_votes}
use Rattle.voting.specs.Boundary.{is_number, is_absent, with_subblocks, boundary_of, goes_on}
use Rattle.voting.proofs.Laws.Integers.{is-number}
use Rattle.voting.proofs.Laws.Tests.{by-test, then_ok}
use Rattle.voting.proofs.Laws.Table.{update-keeps}
use Rattle.voting.proofs.Laws.Ordinary.{ordinary-keeps-read}

-- ---- the version of a block

module _ (t : Table) (v : ℕ) where
  pub version-none : t.fork.version ≡ None → Err BlockVersionAbsent ≡ check_block_version t v
  unfolding check_block_version has_version lookup
  version-none e = rw e

  pub version-same : (z : ℤ) → t.fork.version ≡ Some z → SFits w32 z → v < 256 → of_z w32 z ≡ v → passed ≡ check_block_version t v
  unfolding check_block_version has_version lookup
  version-same z e f l q = rw (e, is-number w32 z v f (omega arith), eq-eqb (of_z w32 z) v q)

  pub version-other : (z : ℤ) → t.fork.version ≡ Some z → SFits w32 z → v < 256 → (of_z w32 z ≡ v → ⊥) → Err BlockVersionDiffers ≡ check_block_version t v
  unfolding check_block_version has_version lookup
  version-other z e f l q = rw (e, is-number w32 z v f (omega arith), ne_eqb (of_z w32 z) v q)

-- ---- what is left alone

nine-known : known 9 ≡ true
unfolding known
nine-known = refl

pub subblocks-keeps : (disabled : Bool) (t : Table) → (with_subblocks disabled t).fork ≡ t.fork
unfolding with_subblocks
subblocks-keeps disabled t =
    by-test (is_number (lookup t 123) (pos 4) && is_absent (lookup t 9) && not disabled) (λ e. rw e (update-keeps t 9 (Some (pos 30)) nine-known)) (λ e. rw e)

-- ---- what goes on after a boundary that is refused, or not

pub goes-on-is : (t : Table) (x : Result Boundary Refusal) (r : Round) → r ≡ no_round → result_unwrap_or x (record { table = t; round = r }) ≡ goes_on t x
unfolding goes_on
goes-on-is t (Ok b) r e = refl
goes-on-is t (Err n) r e = rw e

-- ---- a boundary that is not refused, taken apart

-- neither the fork part nor the votes were refused; the new table has the fork part's entries, and is that of the votes but for entry 9
pub record Passed (g : VotingConfig) (height : ℕ) (t : Table) (tally : List Entry) (vote disables : Bool) (b : Boundary) : Type 0 where
  pub part : ForkPart
  pub part-passes : fork_part g height vote (first_count (pos soft_fork_vote) tally) t.fork ≡ Ok part
  pub voted : Table
  pub votes-pass : ordinary_votes g (with_fork t part.fork) tally (with_fork t part.fork) ≡ Ok voted
  pub new-table : b.table ≡ with_subblocks (part.round.rose && disables) voted
  pub new-fork : b.table.fork ≡ part.fork
  pub same-round : b.round ≡ part.round

pub passes : (g : VotingConfig) (height : ℕ) (t : Table) (tally : List Entry) (vote disables : Bool) (b : Boundary) → boundary_of g height t tally vote disables ≡ Ok b
    → Passed g height t tally vote disables b
unfolding boundary_of
passes g height t tally vote disables b e =
    let p = then_ok (fork_part g height vote (first_count (pos soft_fork_vote) tally) t.fork) _ e in
    let part = p.0 in
    let from = with_fork t part.fork in
    let q = then_ok (ordinary_votes g from tally from) _ p.2 in
    let last : Boundary = record { table = with_subblocks (part.round.rose && disables) q.0; round = part.round } in
    let r : Ok last ≡ Ok b = q.2 in
    let i : b ≡ last = cc in
    record {
      part = part;
      part-passes = p.1;
      voted = q.0;
      votes-pass = q.1;
      new-table = ap (λ (x : Boundary). x.table) i;
      new-fork = ap (λ (x : Boundary). x.table.fork) i ∙ subblocks-keeps (part.round.rose && disables) q.0 ∙ ordinary-keeps-read g from tally from q.0 q.1;
      same-round = ap (λ (x : Boundary). x.round) i;
    }
