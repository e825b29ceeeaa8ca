use Rattle.std.proofs.Common.{refl, sym, ◌∙◌, rules, true≢false}
use Rattle.std.proofs.KnownBytes.{Appends-nil, Appends-trans}
use Rattle.std.specs.Io.KnownBytes.{Appends}
use Rattle.legal_votes.proofs.Laws.{fills, printing-starts, prints-begun, prints-all, printed-all, printing-on, printing-less}
use Rattle.legal_votes.proofs.print_all.Goals as goal

pub loop-filled-init : goal.loop-filled-init
loop-filled-init g c =
    let k = g.W.Write.contents c.args.sink.now in
    (printing-starts (Appends k k) _ _ _ c.begin-at.ensures.value c.no_output-handed.ensures (Appends-nil k), refl, search rules)

pub unwrap-filled-requires : goal.unwrap-filled-requires
unwrap-filled-requires g c = fills _ _ c.fill.ensures.value c.loop-filled.invariant.2

pub returns-then-sent : goal.returns-then-sent
returns-then-sent g c =
    let l = c.loop-filled in
    let f = c.fill in
    let made = c.unwrap-filled in
    let m = c.send-sent in
    let k = g.W.Write.contents c.args.sink.now in
    let k1 = g.W.Write.contents l.sink in
    let k2 = g.W.Write.contents m.new.sink in
    record {
      prints = prints-begun l.at l.out made.result (sym made.ensures ∙ f.ensures.value) f.new.out f.ensures.lines (Appends k k1) _ _ l.invariant.0 m.result.failed _ m.ensures.booked (Appends k1 k2) (Appends k k2) m.ensures.bytes
          (λ x y. Appends-trans k k1 k2 x y) (search rules);
      printed = λ e. absurd (true≢false e);
    }

pub returns-in-None : goal.returns-in-None
returns-in-None g c =
    let l = c.loop-filled in
    let f = c.fill in
    let made = c.unwrap-filled in
    let m = c.send-sent in
    let k = g.W.Write.contents c.args.sink.now in
    let k1 = g.W.Write.contents l.sink in
    let k2 = g.W.Write.contents m.new.sink in
    record {
      prints = prints-all l.at l.out made.result (sym made.ensures ∙ f.ensures.value) f.new.out f.ensures.lines (Appends k k1) _ _ l.invariant.0 m.result.failed _ m.ensures.booked (Appends k1 k2) (Appends k k2) m.ensures.bytes
          (λ x y. Appends-trans k k1 k2 x y) (search rules) c.in-None.is;
      printed = λ e. printed-all l.at l.out made.result (sym made.ensures ∙ f.ensures.value) f.new.out f.ensures.lines (Appends k k1) _ _ l.invariant.0 m.result.failed _ m.ensures.booked (Appends k1 k2) (Appends k k2) m.ensures.bytes
          (λ x y. Appends-trans k k1 k2 x y) (search rules) c.in-None.is;
    }

pub loop-filled-preserved : goal.loop-filled-preserved
loop-filled-preserved g c =
    let l = c.loop-filled in
    let f = c.fill in
    let made = c.unwrap-filled in
    let m = c.send-sent in
    let k = g.W.Write.contents c.args.sink.now in
    let k1 = g.W.Write.contents l.sink in
    let k2 = g.W.Write.contents m.new.sink in (
      printing-on l.at l.out made.result (sym made.ensures ∙ f.ensures.value) f.new.out f.ensures.lines (Appends k k1) _ _ l.invariant.0 m.result.failed _ m.ensures.booked (Appends k1 k2) (Appends k k2) m.ensures.bytes
          (λ x y. Appends-trans k k1 k2 x y) (search rules) _ c.in-Some.is,
      search rules,
      search rules,
    )

pub loop-filled-smaller : goal.loop-filled-smaller
loop-filled-smaller g c = printing-less c.loop-filled.at c.loop-filled.out c.unwrap-filled.result (sym c.unwrap-filled.ensures ∙ c.fill.ensures.value) _ c.fill.ensures.lines c.loop-filled.invariant.2 c.fill.ensures.goes_on _ c.in-Some.is
