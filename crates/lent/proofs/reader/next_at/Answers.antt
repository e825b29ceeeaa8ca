use mathlib.Core.Path.{sym, subst, ◌∙◌}
use native.Mathlib.Omega.{arith}
use Prim.Native.Nat.{◌<◌}
use Rattle.voting.proofs.Laws.Tests.{early}
use Rattle.lent.specs.Reader.{Reads}
use Rattle.lent.proofs.Laws.Reader.{next-told, reads-told, next-done, reads-done, next-found, reads-found, next-refused, reads-refused}
use Rattle.lent.proofs.reader.next_at.Goals as goal

pub returns-in_err-c : goal.returns-in_err-c
returns-in_err-c c = let r = early _ c.from_residual.ensures.1 in
    record {
      value = r ∙ next-told _ _ _ c.in_err-c.was;
      reads = λ h. subst (Reads _ _) (sym r) (reads-told _ _ _ c.in_err-c.was);
    }

pub returns-then-c-eq0 : goal.returns-then-c-eq0
returns-then-c-eq0 c = record {
  value = next-done _ _ _ c.in_ok-c.was c.if-c-eq0.true;
  reads = λ h. reads-done _ _ _ c.in_ok-c.was c.if-c-eq0.true;
}

pub returns-in_err-place : goal.returns-in_err-place
returns-in_err-place c =
    let more : 0 < c.in_ok-c.c.left = omega arith in
    let r = early _ c.from_residual-in_err-place.ensures.1 in
    let q = sym c.in_err-place.was ∙ c.field_at.ensures in
    record {
      value = r ∙ next-refused _ _ _ c.in_ok-c.was more _ q;
      reads = λ h. subst (Reads _ _) (sym r) (reads-refused _ _ _ c.in_ok-c.was more _ q h);
    }

pub returns : goal.returns
returns c =
    let more : 0 < c.in_ok-c.c.left = omega arith in
    let e = sym c.in_ok-place.was ∙ c.field_at.ensures in
    record {
      value = next-found _ _ _ c.in_ok-c.was more _ e;
      reads = reads-found _ _ _ c.in_ok-c.was more _ e;
    }
