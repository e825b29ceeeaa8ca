-- The promise on mainnet, from the promise for all settings.
-- Assumes nothing.
use mathlib.Core.Path.{◌≡◌, refl, ap, ◌∙◌}
use mathlib.Core.Bool.{Bool, cond}
use mathlib.Core.List.{List, ◌∷◌}
use Prim.Native.Nat.{ℕ, ◌+◌, ◌*◌}
use native.Mathlib.Omega.{arith}
use lib.Dec.{lit<}
use lib.IntN.{pos}
use lib.ListN.{length}
use Rattle.std.specs.Prelude.{Some}
use Rattle.voting.specs.declared.table.Fork.{Fork}
use Rattle.voting.specs.Settings.{mainnet, fork_limit, settings_large}
use Rattle.rounds.specs.Epochs.{boundary_votes, forced_version}
use Rattle.rounds.specs.Replay.{Replay, run, epochs, Lawful}
use Rattle.rounds.specs.Claim.{Sound, Opening, won, span}
use Rattle.rounds.specs.Claim as All
use Rattle.rounds.specs.Mainnet as Main
use Rattle.rounds.specs.Mainnet.{wins, lasts, forced}
use Rattle.rounds.proofs.Promise.{heights-rise, promise}
use Rattle.voting.proofs.Laws.Tests.{by-test}

pub mainnet-sound : Sound mainnet
unfolding mainnet settings_large
mainnet-sound = record { length-positive = lit< tt; votes-positive = lit< tt; moderate = refl }

-- mainnet's numbers
won-is : (es : List (List ℕ)) → won mainnet es ≡ wins es
unfolding won mainnet fork_limit
won-is es = refl

span-is : (es : List (List ℕ)) → 1024 * span mainnet es ≡ lasts es
unfolding span won mainnet fork_limit
span-is es = by-test (wins es) (λ q. simp q) (λ q. simp q)

forced-is : (h v : ℕ) → forced_version mainnet h v ≡ forced h v
unfolding forced_version mainnet
forced-is h v = refl

module _ (m : Replay) (lawful : Lawful mainnet m) where
  boundary-in-numbers : (h : ℕ) (vote : Bool) (old new : Fork) → All.Boundary mainnet h vote old new → Main.Boundary h vote old new
  unfolding mainnet
  boundary-in-numbers h vote old new b =
      record {
        opens = b.opens;
        stays = λ away v is. b.stays (λ S q at. away S q (at ∙ (let e : S + 1024 * 64 ≡ S + 64 * 1024 = omega arith in e))) v is ∙ ap (λ (k : ℕ). Some (pos k)) (forced-is h v);
      }

  life-in-numbers : (S : ℕ) (e : List ℕ) (t : m.State) (rs : List m.Record) → m.next (run m t rs) ≡ S + 1024 + 1024 * length (epochs m t rs) → All.Life mainnet m S e t rs → Main.Life m S e t rs
  unfolding mainnet
  life-in-numbers S e t rs at l =
      record {
        stands = λ h is lt. let s = span-is (e ∷ epochs m t rs) in l.stands (omega arith);
        closes = λ h is le. let s = span-is (e ∷ epochs m t rs) in l.closes (omega arith);
        rises = λ r u q is v w.
            let x = (lawful (run m t rs) r u q).height in
            l.rises r u q (omega arith) v w ∙ ap (λ (k : ℕ). Some (pos k)) (forced-is (m.height r) (cond (won mainnet (e ∷ epochs m t rs)) (v + 1) v) ∙ ap (λ (b : Bool). forced (m.height r) (cond b (v + 1) v)) (won-is (e ∷ epochs m t rs)));
      }

  -- the theorem on mainnet
  pub mainnet-promise : (s : m.State) (v : ℕ) (before : List ℕ) → Opening mainnet m s v before → (rs : List m.Record) → Main.Promise m s v before rs
  unfolding mainnet
  mainnet-promise s v before o rs =
      let p = promise mainnet m s v before mainnet-sound lawful o rs in
      record {
        heights = p.heights;
        book = p.book;
        boundary = λ r t q. let b = p.boundary r t q in (b.0, boundary-in-numbers (m.height r) (boundary_votes (m.votes r)) (m.fork (run m s rs)) (m.fork t) b.1);
        life = λ r t q opens after.
            life-in-numbers (m.height r) (m.votes r) t after
            (heights-rise mainnet m lawful t after ∙ ap (λ (n : ℕ). n + 1024 * length (epochs m t after)) (lawful (run m s rs) r t q).next)
            (p.life r t q opens after);
      }
