use Rattle.std.proofs.Common.{◌<◌, w32, SFits, rules}
use Rattle.voting.proofs.Laws.Boundary.{version-none, version-same, version-other}
use Rattle.voting.proofs.table.check_block_version.Goals as goal

pub returns-in-None : goal.returns-in-None
returns-in-None c = version-none _ _ c.in-None.is

pub returns-in-Some : goal.returns-in-Some
returns-in-Some c = let f : SFits w32 c.in-Some.z = search rules in
    let l : c.args.version < 256 = search rules in
    version-same c.args.table c.args.version c.in-Some.z c.in-Some.is f l c.if-z-version.true

pub returns-in-Some-2 : goal.returns-in-Some-2
returns-in-Some-2 c = let f : SFits w32 c.in-Some.z = search rules in
    let l : c.args.version < 256 = search rules in
    version-other c.args.table c.args.version c.in-Some.z c.in-Some.is f l c.if-z-version.false
