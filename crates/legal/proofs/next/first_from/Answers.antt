use mathlib.Core.Path.{sym, ap, ◌∙◌}
use Prim.Native.Nat.{ℕ, ◌+◌}
use native.Mathlib.Omega.{arith}
use Rattle.legal.specs.Search.{legal_from}
use Rattle.legal.proofs.Laws.Next.{finds, finds-none, skips-step, step-some}
use borrow.Author.Rules.{rules}
use Rattle.legal.proofs.next.first_from.Goals as goal

pub returns-then-is_legal : goal.returns-then-is_legal
returns-then-is_legal c = finds _ _ c.loop-m.invariant (search rules) (sym c.is_legal.ensures ∙ c.if-is_legal.true)

pub overflow_add-m : goal.overflow_add-m
overflow_add-m c = record { fits = omega (arith, c.loop-m-test.true, c.step-m.ensures, step-some c.loop-m.m) }

pub loop-m-smaller : goal.loop-m-smaller
loop-m-smaller c = omega (arith, c.loop-m-test.true, c.step-m.ensures, step-some c.loop-m.m)

pub loop-m-preserved : goal.loop-m-preserved
loop-m-preserved c = let m = c.loop-m.m in
    ap (λ (k : ℕ). legal_from (m + k)) c.step-m.ensures ∙ sym (skips-step m c.loop-m-test.true (sym c.is_legal.ensures ∙ c.if-is_legal.false)) ∙ c.loop-m.invariant

pub returns : goal.returns
returns c = finds-none _ _ c.loop-m.invariant c.loop-m-test.false
