-- The first k of an array's actions are no more than all.
use Rattle.std.specs.Prelude.{ℕ, min, List, ◌≡◌, length, take}
use Rattle.std.proofs.lemmas.List.{take_min}
use Rattle.model.specs.Limits.{most_actions}
use Rattle.model.specs.declared.Action.{Action}

pub first_min : (k : ℕ) (list : List Action) → length list ≡ most_actions → take (min k most_actions) list ≡ take k list
first_min k list len = rw len at (take_min k list)
