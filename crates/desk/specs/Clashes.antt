-- Two actions at one place, one of them a write. Definitions only.
use Rattle.std.specs.Prelude.{ℕ, not, ◌&&◌, ◌||◌}
use Rattle.rows.specs.Sets.{Rel}
use Rattle.model.specs.Model.{Book, Sb, write, same_place, same_thread}

module _ (n : ℕ) (ρ : Book) where
  -- same place, one a write
  abbrev pub clash : Rel
  clash a b = same_place n ρ a b && (write n ρ a || write n ρ b)

  -- and same thread, no sb either way
  abbrev pub unsequenced_clash : Rel
  unsequenced_clash a b = clash a b && same_thread n ρ a b && not (Sb n ρ a b) && not (Sb n ρ b a)
