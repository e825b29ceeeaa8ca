-- Examples at the edges of the rules, as one table. docs/RULES.md, "Examples at the edges". The proof of the whole table is in
-- proofs/Examples.antt: each line is computed from the definitions that the promises cite.
-- Assumes nothing.
use Rattle.std.specs.Prelude.{Ok, Err, true, false, ◌≡◌, [], ◌∷◌, pos, negsuc}
use Rattle.codec.specs.declared.refusal.Refusal.TheVariants.{TooManyVotes, RepeatedVote, ContradictoryVote, MandatoryDisabled}
use Rattle.codec.specs.Check.{passed, and_then}
use Rattle.codec.specs.Rule.{rule_of}
use Rattle.voting.specs.Settings.{mainnet, soft_fork_approved, change_approved}
use Rattle.voting.specs.Header.{check_header_votes}
use Rattle.voting.specs.ForkPart.{fork_total}
use Rattle.voting.specs.Ordinary.{moved}
use Rattle.extension.specs.Update.{update_of, rules_in}

-- negsuc n is -(n + 1)
pub record Examples : Type 0 where
  pub two-votes-and-fork : check_header_votes (1 ∷ 2 ∷ 120 ∷ []) ≡ passed
  pub three-votes : check_header_votes (1 ∷ 2 ∷ 3 ∷ []) ≡ Err TooManyVotes
  pub fork-twice : check_header_votes (120 ∷ 120 ∷ 1 ∷ []) ≡ Err RepeatedVote
  pub own-negation : check_header_votes (128 ∷ 0 ∷ 0 ∷ []) ≡ Err ContradictoryVote
  pub total-at-limit : soft_fork_approved mainnet (pos 29491) ≡ false
  pub total-above-limit : soft_fork_approved mainnet (pos 29492) ≡ true
  pub count-at-half : change_approved mainnet 512 ≡ false
  pub count-above-half : change_approved mainnet 513 ≡ true
  pub up-past-greatest : moved (pos 1) (pos 2499999) ≡ pos 2524999
  pub up-at-greatest : moved (pos 1) (pos 2500000) ≡ pos 2500000
  pub up-by-hundredth : moved (pos 3) (pos 524288) ≡ pos 529530
  pub down-past-least : moved (negsuc 2) (pos 16385) ≡ pos 16222
  pub total-wraps : fork_total 1 (pos 2147483647) ≡ negsuc 2147483647
  pub wrapped-total : soft_fork_approved mainnet (fork_total 1 (pos 2147483647)) ≡ false
  pub disables-215 : and_then (update_of (0x01 ∷ 0xD7 ∷ 0x01 ∷ 0x00 ∷ [])) (λ u. Ok (rules_in (0x01 ∷ 0xD7 ∷ 0x01 ∷ 0x00 ∷ []) u)) ≡ Ok (215 ∷ [])
  pub disables-214 : update_of (0x01 ∷ 0xD6 ∷ 0x01 ∷ 0x00 ∷ []) ≡ Err MandatoryDisabled
  pub offset-wraps : rule_of 32000 ≡ negsuc 32535
