-- What is told of a text that was checked: T and P, and where its steps begin; or its refusal.
use Rattle.std.specs.Prelude.{ℕ, Result, Ok}
use Rattle.model.specs.declared.refusals.Refusal.{Refusal}
use Rattle.trace.specs.declared.Beginning.{Beginning}

abbrev pub Begun : Type 0
Begun = Result Beginning Refusal

abbrev pub Good : ℕ → ℕ → ℕ → Begun
Good t p at = Ok (record { t = t; p = p; at = at })
