use Rattle.std.proofs.Common.{[], ◌∷◌, sym, ◌∙◌}
use Rattle.voting.proofs.Laws.Tests.{early, and-stop, and-pass}
use Rattle.voting.proofs.Laws.Header.{many-votes, three-checks}
use Rattle.voting.proofs.header.check_votes.Goals as goal

pub returns-then-ordinary-gt-PARAM_VOTES_COUNT : goal.returns-then-ordinary-gt-PARAM_VOTES_COUNT
returns-then-ordinary-gt-PARAM_VOTES_COUNT c = let a = c.args in
    many-votes (a.a ∷ a.b ∷ a.c ∷ []) c.ordinary.ensures c.if-ordinary-gt-PARAM_VOTES_COUNT.true

pub returns : goal.returns
returns c = c.check_vote-3.ensures
    ∙ sym (and-pass _ _ (sym c.check_vote-2.ensures ∙ c.in_ok-check_vote-2.was))
    ∙ sym (and-pass _ _ (sym c.check_vote.ensures ∙ c.in_ok-check_vote.was))
    ∙ three-checks c.args.a c.args.b c.args.c c.ordinary.ensures c.if-ordinary-gt-PARAM_VOTES_COUNT.false

pub returns-in_err-check_vote : goal.returns-in_err-check_vote
returns-in_err-check_vote c = early _ c.from_residual.ensures.1
    ∙ sym (and-stop _ _ (sym c.check_vote.ensures ∙ c.in_err-check_vote.was))
    ∙ three-checks c.args.a c.args.b c.args.c c.ordinary.ensures c.if-ordinary-gt-PARAM_VOTES_COUNT.false

pub returns-in_err-check_vote-2 : goal.returns-in_err-check_vote-2
returns-in_err-check_vote-2 c = early _ c.from_residual-in_err-check_vote-2.ensures.1
    ∙ sym (and-stop _ _ (sym c.check_vote-2.ensures ∙ c.in_err-check_vote-2.was))
    ∙ sym (and-pass _ _ (sym c.check_vote.ensures ∙ c.in_ok-check_vote.was))
    ∙ three-checks c.args.a c.args.b c.args.c c.ordinary.ensures c.if-ordinary-gt-PARAM_VOTES_COUNT.false
