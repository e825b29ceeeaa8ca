use Rattle.std.proofs.Common.{◌≡◌, ◌<◌, length, refl, rules}
use Rattle.std.proofs.KnownBytes.{Consumes-nil}
use Rattle.std.specs.Io.KnownBytes.{Appends, Consumes, IsAtEnd}
use Rattle.stream.specs.Lines.{head_line}
use Rattle.replay_io.specs.Replays.{GoesOn, IsEmpty}
use Rattle.replay_io.proofs.Laws.{head-failed, reading-starts, moved-as}
use Rattle.replay_io.proofs.replay_from.Goals as goal

pub returns-then-sent : goal.returns-then-sent
returns-then-sent g c =
    let a = c.args in
    let s = g.R.Read.remaining a.source.now in
    let k = g.W.Write.contents a.sink.now in
    let k1 = g.W.Write.contents c.send_head-sent.new.sink in
    head-failed (Consumes s s) (Appends k k1) (0 < length a.buf.now → IsAtEnd s) _ _ _ c.begin_mainnet-run.ensures.value c.begin_mainnet-run.ensures.begins _ c.no_input-input.ensures
    c.send_head-sent.result.failed _ _ c.no_output.ensures c.send_head-sent.ensures.booked (Consumes-nil s) c.send_head-sent.ensures.bytes c.if-sent.true _ c.stopped.ensures

pub read_all-requires : goal.read_all-requires
read_all-requires g c = (
  reading-starts IsEmpty (λ t. t ≡ head_line) ⊥ _ _ _ c.begin_mainnet-run.ensures.value c.begin_mainnet-run.ensures.begins _ c.no_input-input.ensures
      c.send_head-sent.result.failed _ _ c.no_output.ensures c.send_head-sent.ensures.booked refl (λ f. refl) c.if-sent.false _ c.requires.0,
  search rules,
)

pub returns : goal.returns
returns g c =
    let a = c.args in
    let s = g.R.Read.remaining a.source.now in
    let s1 = g.R.Read.remaining c.read_all.new.source in
    let k = g.W.Write.contents a.sink.now in
    let k1 = g.W.Write.contents c.send_head-sent.new.sink in
    let k2 = g.W.Write.contents c.read_all.new.sink in
    let E = 0 < length a.buf.now → IsAtEnd s1 in (
      moved-as (Consumes s s1) (GoesOn head_line k1 k2) (Consumes s s1) (Appends k k2) E E a.from a.to _ (λ l h. h) (λ l h. h k (c.send_head-sent.ensures.bytes c.if-sent.false)) (λ e. e)
          c.read_all.ensures.0,
      c.read_all.ensures.1,
    )
