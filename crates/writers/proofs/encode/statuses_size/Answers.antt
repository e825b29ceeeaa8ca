use Rattle.std.proofs.Common.{◌≡◌, arith, w16}
use mir.ValLaws.{to_z-of_z}
use Rattle.std.proofs.lemmas.Slice.Zip.{either_empty_from_Zip}
use Rattle.writers.proofs.Laws.Encode.{statuses-size-next, statuses-size-none}
use Rattle.writers.proofs.encode.statuses_size.Goals as goal

pub loop-id-init : goal.loop-id-init
loop-id-init c = let r = c.into_iter-id-iterator.result in
    let a : r.a.rest.now ≡ c.args.ids.now = cc in
    let b : r.b.rest.now ≡ c.args.sizes.now = cc (c.zip-id-items.ensures.second.0) in
    rw (a, b) (omega arith, omega arith)

pub loop-id-preserved : goal.loop-id-preserved
loop-id-preserved c = let l = c.loop-id in
    let x = c.in-Some in
    let rest = c.next.new.self in
    let one = statuses-size-next x.size.now rest.a.rest.now rest.b.rest.now (to_z-of_z w16 x.id.now (record { sfits = c.status_size-arg-1.given })) in
    let all = rw (x.ensures.steps.0, x.ensures.steps.1) at l.invariant in
    omega (arith, one, all, c.status_size-n.ensures)

pub returns : goal.returns
returns c = let l = c.loop-id in
    let none = either_empty_from_Zip l.id-iterator c.next.new.self c.next.result c.in-None.is c.next.ensures.steps in
    omega (arith, l.invariant, statuses-size-none l.id-iterator.a.rest.now l.id-iterator.b.rest.now none)
