use mir.Val.{SFits}
use Rattle.wire.proofs.Back.{absent-back, present-back}
use mir.Syntax.{w32}
use Rattle.wire.proofs.Laws.{renamed, absent-bytes, number-bytes, bits-are}
use borrow.Author.Rules.{rules}
use Rattle.wire.proofs.values.put_value.Goals as goal

pub returns-in-None : goal.returns-in-None
returns-in-None c = let e = c.in-None.is in
    record {
      put = renamed (absent-bytes _ e) c.put_marked.ensures;
      back = absent-back _ e;
    }

pub returns-in-Some : goal.returns-in-Some
returns-in-Some c = let z = c.in-Some.z in
    let e = c.in-Some.is in
    let f : SFits w32 z = search rules in
    record {
      put = renamed (number-bytes _ z _ e (bits-are w32 z f c.cast_unsigned.ensures)) c.put_marked-in-Some.ensures;
      back = present-back _ z e f;
    }
