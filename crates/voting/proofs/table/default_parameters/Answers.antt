use Rattle.std.proofs.Common.{sym, ap, ◌∙◌}
use Rattle.voting.specs.Table.{default_parameters}
use Rattle.voting.proofs.table.default_parameters.Goals as goal

pub returns-in-Mainnet : goal.returns-in-Mainnet
unfolding default_parameters
returns-in-Mainnet c = c.beginning.ensures ∙ ap default_parameters (sym c.in-Mainnet.is)

pub returns-in-Testnet : goal.returns-in-Testnet
unfolding default_parameters
returns-in-Testnet c = c.beginning-in-Testnet.ensures ∙ ap default_parameters (sym c.in-Testnet.is)
