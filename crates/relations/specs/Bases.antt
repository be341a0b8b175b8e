-- What relations 7 to 17 are worked out by: the rows that are filled, and what some of them are made of.
use Rattle.std.specs.Prelude.{ℕ, not, ◌&&◌, List, [], ◌∷◌}
use Rattle.rows.specs.Sets.{Rel, any, never}
use Rattle.model.specs.Model.{Book, Sb, Mo, Hb, write, atomic, same_place, rs, hrs, sw, cad_step, dob, r, hb, vse, data_races, unsequenced_races}
use Rattle.desk.specs.Notes.{heard}

module _ (n : ℕ) (ρ : Book) where
  -- y reads from the hypothetical release sequence of an atomic write after a, at that write's place
  abbrev pub told : Rel
  told a y = any n λ x. (Sb n ρ a x && (atomic n ρ x && write n ρ x)) && (heard n ρ x y && same_place n ρ x y)

  -- read b, to which v is visible, may see c too: v mo c, not b hb c, and no a with v mo a mo c and b hb a
  abbrev pub visible : ℕ → Rel
  visible b v c = Mo n ρ v c && not (Hb n ρ b c) && not (any n λ a. Mo n ρ v a && Mo n ρ a c && Hb n ρ b a)

  -- of relations 7 to 17, the rows that are filled: before a closure in 10, before an sb step and a closure in 12, none in 15, which is filled by columns
  unfoldable pub bases : List Rel
  bases = rs n ρ ∷ hrs n ρ ∷ sw n ρ ∷ cad_step n ρ ∷ dob n ρ ∷ r n ρ ∷ hb n ρ ∷ vse n ρ ∷ never ∷ data_races n ρ ∷ unsequenced_races n ρ ∷ []
