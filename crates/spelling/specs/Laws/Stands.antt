-- What stands in a text.
use Rattle.std.specs.Prelude.{ℕ, ◌+◌, ◌<◌, ◌≤◌, Bool, true, false, cond, List, [], ◌∷◌, ◌++◌, ◌≡◌, refl, eqb, ltb, length, drop}
use Rattle.std.proofs.Common.{append_assoc, sym, ap, ◌∙◌, arith, length-append, length-drop, drop-drop, eqb-true, eq-eqb, lt-ltb, le-ltb}
use Rattle.std.proofs.Math.Seq.{drop-append_seam}
use Rattle.rows.specs.Laws.Truth.{both_true, not_both}
use Rattle.spelling.specs.Spelling.{starts, stands, word_end}

-- what starts with u is u and the rest
pub starts_split : (u s : List ℕ) → starts u s ≡ true → s ≡ u ++ drop (length u) s
unfolding starts
starts_split [] s e = refl
starts_split (x ∷ u) [] e = not_both e refl
starts_split (x ∷ u) (y ∷ s) e =
    let p = both_true (eqb x y) (starts u s) e in
    rw (eqb-true x y p.0) (ap (λ (l : List ℕ). y ∷ l) (starts_split u s p.1))

pub starts_own : (u r : List ℕ) → starts u (u ++ r) ≡ true
unfolding starts
starts_own [] r = refl
starts_own (x ∷ u) r = rw (eq-eqb x x refl) (starts_own u r)

-- what starts with a text starts with its first part
pub starts_first : (u v s : List ℕ) → starts (u ++ v) s ≡ true → starts u s ≡ true
starts_first u v s e = ap (starts u) (starts_split (u ++ v) s e ∙ append_assoc u v (drop (length (u ++ v)) s)) ∙ starts_own u (v ++ drop (length (u ++ v)) s)

pub stands_split : (s : List ℕ) (q : ℕ) (u : List ℕ) → stands s q u ≡ true → drop q s ≡ u ++ drop (q + length u) s
stands_split s q u e = starts_split u (drop q s) e ∙ ap (λ (l : List ℕ). u ++ l) (drop-drop (length u) q s)

pub after_line : (s : List ℕ) (q : ℕ) (u r : List ℕ) → drop q s ≡ u ++ r → drop (q + length u) s ≡ r
after_line s q u r e = sym (drop-drop (length u) q s) ∙ ap (drop (length u)) e ∙ drop-append_seam u r

-- what stands in a text ends in it
pub stands_room : (s : List ℕ) (q : ℕ) (u : List ℕ) → 0 < length u → stands s q u ≡ true → q + length u ≤ length s
stands_room s q u some e =
    omega (arith, length-drop q s, ap (λ (l : List ℕ). length l) (stands_split s q u e) ∙ length-append u (drop (q + length u) s))

-- ---- a line that stands moves the place

pub moves : (s : List ℕ) (q : ℕ) (u : List ℕ) → 0 < length u → ltb q (word_end s q u) ≡ stands s q u
unfolding word_end
moves s q u some = go (stands s q u)
  where
    go : (t : Bool) → ltb q (cond t (q + length u) q) ≡ t
    go true = lt-ltb q (q + length u) (omega (arith, some))
    go false = le-ltb q q (omega arith)

pub stands_moves : (s : List ℕ) (q : ℕ) (u : List ℕ) → 0 < length u → q < word_end s q u → (stands s q u ≡ true) × (word_end s q u ≡ q + length u)
unfolding word_end
stands_moves s q u some l = go (stands s q u) refl l
  where
    go : (t : Bool) → stands s q u ≡ t → q < cond t (q + length u) q → (stands s q u ≡ true) × (cond t (q + length u) q ≡ q + length u)
    go true e l = (e, refl)
    go false e l = absurd (let x : ⊥ = omega arith in x)

pub stays_not : (s : List ℕ) (q : ℕ) (u : List ℕ) → 0 < length u → word_end s q u ≤ q → stands s q u ≡ false
unfolding word_end
stays_not s q u some l = go (stands s q u) refl l
  where
    go : (t : Bool) → stands s q u ≡ t → cond t (q + length u) q ≤ q → stands s q u ≡ false
    go true e l = absurd (let x : ⊥ = omega (arith, some) in x)
    go false e l = e
