use Rattle.voting.specs.declared.settings.VotingConfig.{VotingConfig}
use Rattle.exports.specs.Calls.{settings_of}
use Rattle.wire.specs.Values.{settings_bytes}
use Rattle.codec.specs.Output.{writes}
use mathlib.Core.Path.{ap, ◌∙◌}
use Rattle.exports.proofs.Laws.{numbered_is}
use Rattle.exports.proofs.tables.ergo_voting_config.Goals as goal

pub returns : goal.returns
returns c = numbered_is c.write_settings.result c.number_of.ensures (c.write_settings.ensures.out_after ∙ ap (λ (g : VotingConfig). writes (settings_bytes g) c.args.out.now) (c.config_of-g.ensures ∙ ap settings_of c.network_of.ensures))
