use Rattle.std.proofs.Common.{[], ◌∷◌, rules}
use Rattle.voting.proofs.Laws.Header.{vote-repeated, vote-opposed, vote-fine}
use Rattle.voting.proofs.header.check_vote.Goals as goal

pub returns-then-times-gt1 : goal.returns-then-times-gt1
returns-then-times-gt1 c = let a = c.args in
    vote-repeated a.v (search rules) c.if-v-eq0.false (a.a ∷ a.b ∷ a.c ∷ []) (search rules) c.times.ensures c.if-times-gt1.true

pub returns-then-times-gt0 : goal.returns-then-times-gt0
returns-then-times-gt0 c = let a = c.args in
    vote-opposed a.v (search rules) c.if-v-eq0.false (a.a ∷ a.b ∷ a.c ∷ []) (search rules) c.times.ensures c.if-times-gt1.false c.negated.ensures c.times-2.ensures c.if-times-gt0.true

pub returns : goal.returns
returns c = let a = c.args in
    vote-fine a.v (search rules) c.if-v-eq0.false (a.a ∷ a.b ∷ a.c ∷ []) (search rules) c.times.ensures c.if-times-gt1.false c.negated.ensures c.times-2.ensures c.if-times-gt0.false
