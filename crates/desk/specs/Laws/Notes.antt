-- What a desk's notes tell of it.
use Rattle.std.specs.Prelude.{ℕ, ◌≤◌, ◌<◌, List, ◌≡◌, get_or}
use Rattle.std.proofs.Common.{ap, ◌∙◌, ⊎_elim, le_refl, arith, lt-ltb}
use Rattle.rows.specs.Sets.{Set, Rel, never}
use Rattle.rows.specs.Numbers.{size, held}
use Rattle.rows.specs.Laws.Truth.{not_both, lt_or_le}
use Rattle.rows.specs.Laws.Sets.{within_at}
use Rattle.rows.proofs.Laws.Parts.{held_out}
use Rattle.model.specs.Model.{Book, entered, filled, hrs}
use Rattle.desk.specs.Notes.{notes, note_count, Noted}

-- notes of a desk are of no more actions than a part has rows: past them mo leads nowhere, so every action would be late
pub noted_size : (n : ℕ) (d e : List ℕ) → Noted n (held d) (held e) → n ≤ size
unfolding notes
noted_size n d e h =
    ⊎_elim
    (λ (l : size < n). let z : 0 < n = omega arith in
    not_both (rw (lt-ltb size n l, lt-ltb 0 n z, held_out d 6 size (le_refl size)) at (ap (λ (r : Rel). r size 0) (h.is 2 (omega arith)))) (ap (λ (s : Set). s 0) (held_out e 2 size (le_refl size))))
    (λ (l : n ≤ size). l)
    (lt_or_le size n)

-- a note between two actions
pub noted_at : (n : ℕ) (ρ ε : Book) → Noted n ρ ε → (j : ℕ) → j < note_count → (a b : ℕ) → a < n → b < n → ε j a b ≡ get_or (notes n ρ) j never a b
noted_at n ρ ε h j k a b la lb = ap (λ (r : Rel). r a b) (h.is j k) ∙ within_at n (get_or (notes n ρ) j never) a b la lb

-- the notes read relations 0 to 6 and the words, so they stay true of the filled book
pub noted_filled : (n : ℕ) (ρ ε : Book) → Noted n ρ ε → Noted n (filled n ρ) ε
unfolding entered notes hrs
noted_filled n ρ ε h = record { is = h.is }
