-- The runs of a row.
use Rattle.std.specs.Prelude.{ℕ, ◌≡◌}
use Rattle.rows.specs.Numbers.{numbers}
use Rattle.rows.specs.declared.Row.{Row}
use Rattle.rows.specs.declared.Run.{Run}

-- r is the run of number i of a row
abbrev pub RunOf : Row → ℕ → Run → Type 0
RunOf row i r = (r.index ≡ i) × (r.word ≡ numbers row i)
