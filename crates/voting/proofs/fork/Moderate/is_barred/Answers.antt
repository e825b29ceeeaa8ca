use Rattle.std.proofs.Common.{◌+◌, ap, ◌∙◌, w32}
use mir.ValLaws.{to_z-of_z}
use Rattle.voting.specs.declared.settings.VotingConfig.{VotingConfig}
use Rattle.voting.specs.Settings.{vote_epochs, activation_epochs, soft_fork_approved}
use Rattle.voting.specs.ForkCheck.{barred}
use Rattle.voting.proofs.Laws.Fork.{plain, barred-by}
use Rattle.voting.proofs.fork.Moderate.is_barred.Goals as goal

pub returns : goal.returns
returns c = let a = c.args in
    let g = c.self.inside.0 in
    let f = c.ranges.start in
    barred-by g a.height a.start a.votes _ _ _ _
    (plain g a.start (vote_epochs g) _ f c.epochs_after-from.ensures)
    (plain g a.start (vote_epochs g + 1) _ f c.epochs_after-early.ensures)
    (plain g a.start (vote_epochs g + activation_epochs g + 1) _ f c.epochs_after-late.ensures)
    (c.soft_fork_approved-approved.ensures ∙ ap (soft_fork_approved g) (to_z-of_z w32 a.votes c.ranges.votes))
    ∙ ap (λ (m : VotingConfig). barred m a.height a.start a.votes) c.self.view_is
