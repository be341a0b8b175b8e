-- What was put somewhere: the new value there, and the old ones elsewhere.
use Rattle.std.specs.Prelude.{ℕ, ◌≡◌, refl}
use Rattle.std.proofs.Common.{eq-eqb, ne_eqb}
use Rattle.machine.specs.Machine.{put}

pub put_same : {A : Type 0} (f : ℕ → A) (k : ℕ) (v : A) → put f k v k ≡ v
put_same f k v = rw (eq-eqb k k refl)

pub put_other : {A : Type 0} (f : ℕ → A) (k : ℕ) (v : A) (a : ℕ) → (a ≡ k → ⊥) → put f k v a ≡ f a
put_other f k v a ne = rw (ne_eqb a k ne)
