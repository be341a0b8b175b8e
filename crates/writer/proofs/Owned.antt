-- What owning a gathered list tells: the values read and written of its actions are numbers of 32 bits.
use Prim.Native.Nat.{ℕ, zero, suc}
use mathlib.Core.List.{List, [], ◌∷◌}
use native.Mathlib.Omega.{arith}
use mir.Val.{Val}
use denote.Array.{each}
use denote.Laws.{Is}
use denote.Shadow.{shadow}
use Rattle.model.specs.declared.Action.{Action}
use Rattle.model.specs.Candidates.{Values}
use Rattle.model.specs.contracts.Action as X
use Rattle.lists.specs.declared.Gathered.{Gathered}
use Rattle.lists.specs.Lists.{action_at}
use Rattle.lists.specs.contracts.Gathered as D

-- an array's elements, one by one
each_values : (list : List Action) (us : List Val) → shadow (each (X.the_row).Denot (X.the_row).own_val list us) → (i : ℕ) → Values (action_at list i)
each_values [] us s i = (omega arith, omega arith)
each_values (x ∷ list) [] s i = absurd s
each_values (x ∷ list) (u ∷ us) s zero = (s.0.1.1.1.1.1.0.1, s.0.1.1.1.1.1.1.0.1)
each_values (x ∷ list) (u ∷ us) s (suc i) = each_values list us s.1 i

pub owned_values : (g : Gathered) (vs : List Val) → Is D.the_row g vs → (i : ℕ) → Values (action_at g.list i)
owned_values g vs p = each_values g.list p.1.1.0.0 p.1.1.0.1.1
