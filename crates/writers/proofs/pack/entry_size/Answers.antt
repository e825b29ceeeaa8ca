use Rattle.std.proofs.Common.{length, sym, ap}
use Rattle.writers.proofs.Laws.Pack.{entry_absent, entry-dropped, entry-seven}
use Rattle.writers.proofs.pack.entry_size.Goals as goal

pub returns-in-None : goal.returns-in-None
returns-in-None c = sym (ap length (entry_absent _ _ c.in-None.is))

pub returns-then-id-eq-ID_SOFT_FORK_DISABLING_RULES : goal.returns-then-id-eq-ID_SOFT_FORK_DISABLING_RULES
returns-then-id-eq-ID_SOFT_FORK_DISABLING_RULES c = sym (ap length (entry-dropped _ _ _ c.in-Some.is c.if-id-eq-ID_SOFT_FORK_DISABLING_RULES.true))

pub returns-else-id-eq-ID_SOFT_FORK_DISABLING_RULES : goal.returns-else-id-eq-ID_SOFT_FORK_DISABLING_RULES
returns-else-id-eq-ID_SOFT_FORK_DISABLING_RULES c = entry-seven _ _ _ c.in-Some.is c.if-id-eq-ID_SOFT_FORK_DISABLING_RULES.false
