-- The places and the actions of a text, as code lists them: those whose lines begin at `at`, and what stands past their end. Definitions only.
use Rattle.std.specs.Prelude.{ℕ, cond, List, eqb, ltb, get_or}
use Rattle.rows.specs.Sets.{Rel}
use Rattle.model.specs.declared.Action.{Action}
use Rattle.model.specs.Actions.{no_action}
use Rattle.spelling.specs.Spelling.{place_at, action_read}
use Rattle.text.specs.Texts.{along, place_step, action_step, barred}

unfoldable pub place_no : List ℕ → ℕ → ℕ → ℕ → ℕ
place_no s at p i = cond (ltb i p) (place_at s (along (place_step s) at i)) 0

unfoldable pub action_no : List ℕ → ℕ → ℕ → ℕ → Action
action_no s at n i = cond (ltb i n) (action_read s (along (action_step s) at i)) no_action

-- ---- what is barred, by a list of actions

abbrev pub same_thread : List Action → Rel
same_thread list a b = eqb (get_or list a no_action).thread (get_or list b no_action).thread

abbrev pub bars_of : List Action → ℕ → Rel
bars_of list = barred λ i. get_or list i no_action
