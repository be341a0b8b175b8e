-- The words laid pair by pair: what stands at a pair of each part, and a part with its rows laid.
use Rattle.std.specs.Prelude.{ℕ, Bool, ◌&&◌, cond, List, eqb, ltb, get_or}
use Rattle.rows.specs.Sets.{Set, Rel, when, before}
use Rattle.model.specs.declared.Action.{Action}
use Rattle.model.specs.Actions.{no_action}
use Rattle.model.specs.Words.{word, placed}

-- what stands at (a,b) of part k, where a is the action x and b the action y, at a place of kind q: in part 18 whether y has word a; in 19, 20 and 21 whether x and y have one place, one thread, one value
abbrev pub entry : ℕ → ℕ → Action → Action → ℕ → Bool
entry k a x y q =
    cond (eqb k 18) (word a y q)
    (cond (eqb k 19) (placed x y) (cond (eqb k 20) (eqb x.thread y.thread) (eqb k 21 && eqb x.written y.read)))

module _ (acts : List Action) (places : List ℕ) where
  -- row a of part k
  abbrev pub row : ℕ → ℕ → Set
  row k a b = entry k a (get_or acts a no_action) (get_or acts b no_action) (get_or places (get_or acts b no_action).place 3)

-- part k with the first m of its rows, of n actions
abbrev pub laid : ℕ → List Action → List ℕ → ℕ → ℕ → Rel
laid n acts places k m a = when (ltb a m) (before (row acts places k a) n)
