-- What a table that is read says.
use Rattle.std.specs.Prelude.{ℕ}
use Rattle.rows.specs.Numbers.{held}
use Rattle.model.specs.Model.{Book}
use Rattle.table.specs.declared.Table.{Table}

-- a relation, or a set, of the book that is on the table
abbrev pub on {ℓ} : {A : Type ℓ} → Table → (ℕ → Book → A) → A
on t f = f t.n (held t.numbers.now)
