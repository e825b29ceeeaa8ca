use mathlib.Core.Path.{sym, ap, ◌∙◌}
use lib.Seq.{sets}
use mir.Syntax.{w32}
use mir.Val.{SFits}
use borrow.Author.Rules.{rules}
use Rattle.wire.proofs.MapLaws.{present-none, present-stored}
use Rattle.wire.proofs.map.put_present.Goals as goal

pub returns-in-None : goal.returns-in-None
returns-in-None c = sym (ap (sets c.args.out.now c.args.at) (present-none _ _ c.in-None.is))

pub returns-in-Some : goal.returns-in-Some
returns-in-Some c = let f : SFits w32 c.in-Some.z = search rules in
    c.put_bytes.ensures ∙ present-stored _ _ _ f c.in-Some.is c.i32_to_be_bytes-b.ensures.value _ _
