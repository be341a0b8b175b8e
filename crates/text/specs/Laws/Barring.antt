-- Where the edges of a text are walked, what is barred matters only below N.
use Rattle.std.specs.Prelude.{ℕ, zero, suc, ◌<◌, ◌≤◌, List, ◌≡◌, refl}
use Rattle.std.proofs.Common.{ap, ◌∙◌, le_refl, arith}
use Rattle.rows.specs.Sets.{Set, Rel}
use Rattle.text.specs.Texts.{along, edge_next, edge_step, row_taken, rows_step, relation_step, edge_taken}

-- a walk depends on its steps only
along_ext : (f g : ℕ → ℕ → ℕ) (q m : ℕ) → ((i z : ℕ) → i < m → f i z ≡ g i z) → along f q m ≡ along g q m
unfolding along
along_ext f g q zero h = refl
along_ext f g q (suc m) h = ap (f m) (along_ext f g q m (λ i z l. h i z (omega arith))) ∙ h m (along g q m) (le_refl (suc m))

-- ---- of one row

module _ (s : List ℕ) (n k a : ℕ) (u v : Set) (same : (b : ℕ) → b < n → u b ≡ v b) where
  next_ext : (b z : ℕ) → b < n → edge_next s u k a b z ≡ edge_next s v k a b z
  next_ext b z j = rw (same b j)

  edge_ext : (b z : ℕ) → b < n → edge_step s u k a b z ≡ edge_step s v k a b z
  unfolding edge_step
  edge_ext b z j = rw (next_ext b z j)

  pub members_ext : (z m : ℕ) → m ≤ n → along (edge_step s u k a) z m ≡ along (edge_step s v k a) z m
  members_ext z m l = along_ext _ _ z m (λ b y j. edge_ext b y (omega arith))

  pub member_ext : (z b : ℕ) → b < n → row_taken s u k a z b ≡ row_taken s v k a z b
  member_ext z b j = rw (members_ext z b (omega arith), next_ext b (along (edge_step s v k a) z b) j)

-- ---- of every row

module _ (s : List ℕ) (n : ℕ) (u v : ℕ → Rel) (same : (k a b : ℕ) → a < n → b < n → u k a b ≡ v k a b) where
  rows_ext : (k z m : ℕ) → m ≤ n → rows_step s n u k z m ≡ rows_step s n v k z m
  rows_ext k z m l = along_ext _ _ z m (λ a y i. members_ext s n k a (u k a) (v k a) (λ b. same k a b (omega arith)) y n (le_refl n))

  pub relations_ext : (q m : ℕ) → along (relation_step s n u) q m ≡ along (relation_step s n v) q m
  relations_ext q m = along_ext _ _ q m (λ k z i. rows_ext k z n (le_refl n))

  pub taken_ext : (q k a b : ℕ) → a < n → b < n → edge_taken s n u q k a b ≡ edge_taken s n v q k a b
  unfolding edge_taken
  taken_ext q k a b i j =
      let start = along (relation_step s n v) q k in
      rw (relations_ext q k, rows_ext k start a (omega arith)) (member_ext s n k a (u k a) (v k a) (λ c. same k a c i) (rows_step s n v k start a) b j)
