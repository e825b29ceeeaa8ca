use Rattle.std.proofs.Common.{◌≡◌, ◌-◌, ℕ, take, subst, sym, ap, ◌∙◌, arith}
use Rattle.ports.specs.Cause.{CauseOf}
use Rattle.ports.specs.Cause.CauseOf.{whole, before}
use Rattle.ports.proofs.cause_of.Goals as goal

pub returns-in-Some : goal.returns-in-Some
returns-in-Some c =
    let s = c.args.text.now in
    let found = c.in-Some.ensures.cases in
    let from_start : c.in-Some.end - 0 ≡ c.in-Some.end = omega arith in
    subst (CauseOf s) (sym (c.range.ensures.value ∙ ap (λ (n : ℕ). take n s) from_start)) (before c.in-Some.end found.0 found.1)

pub returns-in-None : goal.returns-in-None
returns-in-None c = whole c.in-None.ensures.cases
