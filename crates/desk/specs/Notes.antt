-- What is worked out once beside the book, and read by relations and rules: the notes.
use Rattle.std.specs.Prelude.{ℕ, ◌*◌, ◌<◌, not, ◌&&◌, List, [], ◌∷◌, ◌≡◌, get_or}
use Rattle.rows.specs.Sets.{Set, Rel, never, any, within}
use Rattle.rows.specs.Numbers.{area}
use Rattle.model.specs.Model.{Book, Sb, Rf, Sc, hrs, immediate, mutex_sc, sc_fence, up_to}

module _ (n : ℕ) (ρ : Book) where
  -- hrs;rf
  abbrev pub heard : Rel
  heard a b = any n λ z. hrs n ρ a z && Rf n ρ z b

  -- rf turned around: from a read to its sources
  abbrev pub fed : Rel
  fed a b = Rf n ρ b a

  -- neither x=y nor x mo y
  abbrev pub late : Rel
  late x y = not (up_to n ρ x y)

  -- sc to a seq_cst fence, and sb from there
  abbrev pub sc_fence_sb : Rel
  sc_fence_sb a b = any n λ f. (Sc n ρ a f && sc_fence n ρ f) && Sb n ρ f b

  -- sb to a seq_cst fence, and sc from there
  abbrev pub sb_fence_sc : Rel
  sb_fence_sc a b = any n λ f. (Sb n ρ a f && sc_fence n ρ f) && Sc n ρ f b

  -- one mutex's action and the next
  abbrev pub handover : Rel
  handover = immediate n ρ (mutex_sc n ρ)

  -- sb;(sc between these fences);sb
  abbrev pub sb_fences_sb : Set → Rel
  sb_fences_sb fences a b = any n λ f. any n λ g. Sb n ρ a f && (fences f && fences g && Sc n ρ f g) && Sb n ρ g b

  unfoldable pub notes : List Rel
  notes = heard ∷ fed ∷ late ∷ sc_fence_sb ∷ sb_fence_sc ∷ handover ∷ sb_fences_sb (sc_fence n ρ) ∷ []

abbrev pub note_count : ℕ
note_count = 7

-- numbers that the notes fill
abbrev pub notes_length : ℕ
notes_length = area * note_count

-- the notes that the slice e holds are those of the book
pub record Noted (n : ℕ) (ρ ε : Book) : Type 0 where
  pub is : (j : ℕ) → j < note_count → ε j ≡ within n (get_or (notes n ρ) j never)
