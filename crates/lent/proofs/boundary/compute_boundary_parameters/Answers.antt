use mathlib.Core.Bool.{Bool}
use mathlib.Core.List.{List}
use mathlib.Core.Path.{◌≡◌, sym, ap, ◌∙◌}
use Prim.Native.Nat.{ℕ}
use Rattle.std.specs.Prelude.{Result, Ok}
use Rattle.codec.specs.declared.refusal.Refusal.{Refusal}
use Rattle.voting.specs.declared.settings.VotingConfig.{VotingConfig}
use Rattle.voting.specs.declared.table.Table.{Table}
use Rattle.voting.specs.declared.tally.Entry.{Entry}
use Rattle.voting.specs.declared.boundary.Sweep.{Sweep}
use Rattle.voting.specs.declared.boundary.Boundary.{Boundary}
use Rattle.voting.specs.Boundary.{boundary_of}
use Rattle.voting.specs.Sweep.{begin_sweep, sweep_entries, finish_sweep}
use Rattle.voting.proofs.Laws.Tests.{early}
use Rattle.voting.proofs.Laws.Sweep.{swept_all}
use Rattle.extension.proofs.Laws.Update.{update-refused, update-read, update-disables}
use Rattle.extension.proofs.Laws.Boundary.{update-stop, boundary-stop, boundary-pass}
use Rattle.extension.proofs.Laws.Order.{in-any-order}
use Rattle.lent.proofs.boundary.compute_boundary_parameters.Goals as goal

-- the pass over the entries gives the boundary of the rules
finished : (g : VotingConfig) (height : ℕ) (t : Table) (tally : List Entry) (vote d : Bool) (s : Sweep) → s ≡ sweep_entries g t (begin_sweep t) tally
    → (r : Result Boundary Refusal) → r ≡ finish_sweep g height t vote d s → r ≡ boundary_of g height t tally vote d
finished g height t tally vote d s is-s r is-r = is-r ∙ ap (finish_sweep g height t vote d) is-s ∙ swept_all g t height tally vote d

pub returns-in_err-p : goal.returns-in_err-p
returns-in_err-p c =
    in-any-order _ _ _ _ _ _ _
    (early _ c.from_residual.ensures.1 ∙ update-stop _ _ _ _ _ _ _ (update-refused _ _ _ (sym c.in_err-p.was ∙ c.parse_proposed.ensures)))

pub returns-in_err-b : goal.returns-in_err-b
returns-in_err-b c =
    let proposed = sym c.in_ok-p.was ∙ c.parse_proposed.ensures in
    in-any-order _ _ _ _ _ _ _
    (early _ c.from_residual-in_err-b.ensures.1
    ∙ boundary-stop _ _ _ _ _ _ _ (update-read _ _ c.in_ok-p.p proposed) _ (update-disables _ _ c.in_ok-p.p proposed)
    _ (sym c.in_err-b.was ∙ finished _ _ _ _ _ _ _ c.swept-sweep.ensures _ c.finish.ensures))

pub returns : goal.returns
returns c =
    let proposed = sym c.in_ok-p.was ∙ c.parse_proposed.ensures in
    in-any-order _ _ _ _ _ _ _
    (ap Ok c.activates.ensures
    ∙ boundary-pass _ _ _ _ _ _ _ (update-read _ _ c.in_ok-p.p proposed) _ (update-disables _ _ c.in_ok-p.p proposed)
    _ (sym c.in_ok-b.was ∙ finished _ _ _ _ _ _ _ c.swept-sweep.ensures _ c.finish.ensures))
