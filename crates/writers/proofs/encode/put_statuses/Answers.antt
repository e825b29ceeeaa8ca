use Rattle.std.proofs.Common.{◌≡◌, inl, inr, length, drop, sym, refl, ap, ◌∙◌, arith, w16}
use mir.ValLaws.{to_z-of_z}
use Rattle.codec.proofs.Laws.Output.{sets-out}
use Rattle.extension.specs.Encode.{sum, status_list, statuses_bytes}
use Rattle.writers.proofs.Laws.Encode.{agreed, statuses-end, statuses-put}
use Rattle.writers.proofs.encode.put_statuses.Goals as goal

pub loop-id-init : goal.loop-id-init
loop-id-init c = let r = c.into_iter-id-iterator.result in
    let a = c.args in
    let ids : r.a.a.rest.now ≡ a.ids.now = cc in
    let codes : r.a.b.rest.now ≡ a.codes.now = cc (c.zip.ensures.second.0) in
    let sizes : r.b.rest.now ≡ a.sizes.now = cc (c.zip-id-items.ensures.second.0) in
    let g = agreed a.ids.now a.codes.now a.sizes.now a.raw.now c.requires in
    rw (ids, codes, sizes) (g.0, g.1, omega (arith, g), refl)

pub returns-then-out-k : goal.returns-then-out-k
returns-then-out-k c = let l = c.loop-id in
    let r = l.id-iterator in
    sym (sets-out (statuses_bytes (status_list r.a.a.rest.now r.a.b.rest.now r.b.rest.now (drop l.p c.args.raw.now))) l.out l.k c.if-out-k.true) ∙ l.invariant.3

pub slice_bounds-put_status-end : goal.slice_bounds-put_status-end
unfolding sum
slice_bounds-put_status-end c = let l = c.loop-id in
    let bytes = rw c.in-Some.ensures.steps.1 at l.invariant.2 in
    omega (arith, bytes)

pub loop-id-preserved : goal.loop-id-preserved
unfolding sum
loop-id-preserved c = let l = c.loop-id in
    let x = c.in-Some in
    let st = x.ensures.steps in
    let rest = c.next.new.self in
    let bytes = rw st.1 at l.invariant.2 in
    let stored = rw (st.0.0, st.0.1, st.1) at l.invariant.3 in
    let e = to_z-of_z w16 x.id.now (record { sfits = c.rule-1.given }) in
    let one = statuses-put x.id.now x.code.now x.size.now rest.a.a.rest.now rest.a.b.rest.now rest.b.rest.now c.args.raw.now l.p (omega (arith, bytes)) e c.status_size-k.ensures.0 l.out l.k in
    (omega (arith, l.invariant.0, ap length st.0.0, ap length st.0.1), omega (arith, l.invariant.1, ap length st.0.0, ap length st.1), omega (arith, bytes), rw c.put_status.ensures (sym one ∙ stored))

pub returns : goal.returns
returns c = let l = c.loop-id in
    let r = l.id-iterator in
    let none : length r.a.a.rest.now ≡ 0 = elim c.in-None.ensures.steps [
      | inl x ↦ elim x.1 [ inl y ↦ y.1.0 | inr y ↦ omega (arith, y.1.0, l.invariant.0) ]
      | inr x ↦ omega (arith, x.1.0, l.invariant.1)
    ] in
    rw (statuses-end r.a.a.rest.now r.a.b.rest.now r.b.rest.now (drop l.p c.args.raw.now) none) at l.invariant.3
