-- Relations kept to one place. Definitions only.
use Rattle.std.specs.Prelude.{ℕ, ◌&&◌}
use Rattle.rows.specs.Sets.{Rel}
use Rattle.model.specs.Model.{Book}

-- relation k kept to one place of the kind w: sc kept to one mutex's actions (13, 5), mo kept to one atomic place's (15, 6)
abbrev pub kept : Book → ℕ → ℕ → Rel
kept ρ w k a b = (ρ 18 w a && ρ 19 a b) && ρ k a b
