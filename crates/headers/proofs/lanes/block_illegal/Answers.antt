use Rattle.std.proofs.Common.{ℕ, ◌+◌, ◌<◌, rules}
use Rattle.headers.specs.Lanes.{Legal, place}
use Rattle.headers.proofs.Laws.Lanes.{none-from_fold, lane-legal}
use Rattle.headers.proofs.lanes.block_illegal.Goals as goal

pub returns : goal.returns
returns c = λ e l below. let s = c.args.votes.now in
    let at = c.args.at in
    none-from_fold (λ (l : ℕ). l < 16 → Legal s (at + place l)) _ _ 16 (λ a l b h k. (λ e. (search rules, λ below. lane-legal s at l below (search rules)), search rules)) _ c.fold.ensures.ran e l below below
