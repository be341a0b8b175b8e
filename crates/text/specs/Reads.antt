-- What is told of lines that were read: where they end, or the refusal of the first bad one.
use Rattle.std.specs.Prelude.{ℕ, Result, Ok}
use Rattle.model.specs.declared.refusals.Refusal.{Refusal}
use Rattle.text.specs.declared.Beginning.{Beginning}

abbrev pub Reached : Type 0
Reached = Result ℕ Refusal

-- of the first line, the places and the actions: what the first line says, and where places, actions and edges begin
abbrev pub Begun : Type 0
Begun = Result Beginning Refusal

abbrev pub Good : ℕ → ℕ → ℕ → ℕ → ℕ → ℕ → ℕ → Begun
Good e n t p places actions edges =
    Ok (record { head = record { edition = e; n = n; t = t; p = p }; places = places; actions = actions; edges = edges })
