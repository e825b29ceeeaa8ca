use Rattle.std.proofs.Common.{true, false, refl, subst, sym}
use Rattle.std.proofs.KnownBytes.{Appends-nil, Consumes-nil}
use Rattle.std.specs.Io.KnownBytes.{Appends, Consumes, IsAtEnd}
use Rattle.replay_io.specs.Replays.{IsEmpty, Moves}
use Rattle.replay_io.proofs.Laws.{answered, cells-enough, ends-met, room-part, piece-part, moved-as, printed-known}
use Rattle.replay_io.proofs.replay.Goals as goal

pub returns-then-too_short : goal.returns-then-too_short
returns-then-too_short g c =
    let a = c.args in
    let s = g.R.Read.remaining a.source.now in
    let k = g.W.Write.contents a.sink.now in
    let m : Moves (Consumes s s) (Appends k k) (IsAtEnd s) a.from a.to c.unmoved.result =
    moved-as IsEmpty IsEmpty (Consumes s s) (Appends k k) ⊥ (IsAtEnd s) a.from a.to _ (λ l e. subst (Consumes s s) (sym e) (Consumes-nil s)) (λ l e. subst (Appends k k) (sym e) (Appends-nil k))
    (λ e. absurd e) c.unmoved.ensures.0 in
    record {
      replays = m.replays;
      moves = m;
      printed = printed-known s s k k a.from a.to _ m;
      refused = answered a.piece a.room _ c.too_short.ensures true c.if-too_short.true _ c.unmoved.ensures.1;
    }

pub replay_from-requires : goal.replay_from-requires
replay_from-requires g c = let a = c.args in (cells-enough, room-part a.piece a.room _ c.too_short.ensures c.if-too_short.false _ c.min-2.ensures _ refl)

pub returns : goal.returns
returns g c =
    let a = c.args in
    let s = g.R.Read.remaining a.source.now in
    let s1 = g.R.Read.remaining c.replay_from.new.source in
    let k = g.W.Write.contents a.sink.now in
    let k1 = g.W.Write.contents c.replay_from.new.sink in
    let m : Moves (Consumes s s1) (Appends k k1) (IsAtEnd s1) a.from a.to c.replay_from.result =
    ends-met (Consumes s s1) (Appends k k1) _ (IsAtEnd s1) a.from a.to _ c.replay_from.ensures.0 (piece-part a.piece a.room _ c.too_short.ensures c.if-too_short.false _ c.min.ensures _ refl) in
    record {
      replays = m.replays;
      moves = m;
      printed = printed-known s s1 k k1 a.from a.to _ m;
      refused = answered a.piece a.room _ c.too_short.ensures false c.if-too_short.false _ c.replay_from.ensures.1;
    }
