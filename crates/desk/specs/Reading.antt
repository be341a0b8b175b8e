-- What a desk that is read has on it.
use Rattle.std.specs.Prelude.{ℕ, List}
use Rattle.rows.specs.Numbers.{held}
use Rattle.model.specs.Model.{Book}
use Rattle.desk.specs.declared.Desk.{Desk}

-- a relation, or a set, of the book that is on the desk
abbrev pub on {ℓ} : {A : Type ℓ} → Desk → (ℕ → Book → A) → A
on desk f = f desk.n (held desk.book.now)

-- what is said of the n actions of a book and of the notes beside it
abbrev pub over {ℓ} : {A : Type ℓ} → Desk → (ℕ → List ℕ → List ℕ → A) → A
over desk f = f desk.n desk.book.now desk.notes.now
