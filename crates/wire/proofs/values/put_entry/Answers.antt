use mir.Val.{SFits}
use Rattle.wire.proofs.Back.{entry-back}
use mir.Syntax.{w8}
use Rattle.wire.proofs.Laws.{renamed, entry-bytes, bits-are}
use borrow.Author.Rules.{rules}
use Rattle.wire.proofs.values.put_entry.Goals as goal

pub returns : goal.returns
returns c = let e = c.args.e in
    let f : SFits w8 e.id = search rules in
    record {
      put = renamed (entry-bytes e _ (bits-are w8 e.id f c.cast_unsigned.ensures)) c.put_marked.ensures;
      back = entry-back e f (search rules);
    }
