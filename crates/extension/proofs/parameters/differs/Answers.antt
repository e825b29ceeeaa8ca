use mathlib.Core.Path.{◌≡◌, refl, ap, ◌∙◌}
use mathlib.Core.Bool.{not, true, false}
use mir.Syntax.{w32}
use mir.Val.{SFits, of_z}
use lib.Dec.{eqb}
use Rattle.std.specs.Prelude.{Some, None}
use Rattle.voting.proofs.Laws.Integers.{same_number}
use Rattle.voting.specs.Value.{Value}
use Rattle.extension.specs.Parameters.{agrees}
use borrow.Author.Rules.{rules}
use Rattle.extension.proofs.parameters.differs.Goals as goal
use Rattle.extension.proofs.parameters.differs.Goals.{After-is_some_and}

none : (c : After-is_some_and) → c.args.computed ≡ None → c.is_some_and.result ≡ false
none c e = search rules

some_none : (c : After-is_some_and) → (x : _) → c.args.computed ≡ Some x → c.args.found ≡ None → c.is_some_and.result ≡ true
some_none c x e q = search rules

some_some : (c : After-is_some_and) → (x : _) → c.args.computed ≡ Some x → (y : _) → c.args.found ≡ Some y → c.is_some_and.result ≡ not (eqb (of_z w32 x) (of_z w32 y))
some_some c x e y q = search rules

pub returns : goal.returns
unfolding agrees
returns c = go c.args.computed c.args.found refl refl
  where
    go : (x y : Value) → c.args.computed ≡ x → c.args.found ≡ y → c.is_some_and.result ≡ not (agrees x y)
    go None y e q = none c e
    go (Some x) None e q = some_none c x e q
    go (Some x) (Some y) e q = some_some c x e y q ∙ ap not (same_number w32 x y f g)
      where
        f : SFits w32 x
        f = search rules

        g : SFits w32 y
        g = search rules
