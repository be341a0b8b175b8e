-- What the loops that read need, step by step.
use Rattle.std.specs.Prelude.{ℕ, ◌+◌, ◌*◌, ◌-◌, ◌<◌, ◌≤◌, Bool, true, false, cond, ◌||◌, List, ◌∷◌, ◌≡◌, refl, leb, length, drop, get_or}
use Rattle.std.proofs.Common.{sym, ◌∙◌, add-one, drop-cons}
use Rattle.std.proofs.Math.Path.{ap}
use Rattle.std.proofs.Math.ListN.{drop_of_length-le}
use borrow.Author.Tests.{leb-true, ltb-true, eq-eqb, ne_eqb}
use Rattle.rows.specs.Laws.Truth.{both_true}
use Rattle.spelling.specs.Spelling.{starts, longer, scan, digit}

pub longer_digit : (x d : ℕ) → longer x d ≡ true → (48 ≤ d) × (d ≤ 57) × (x < 4294967296)
unfolding longer
longer_digit x d e =
    let p = both_true (digit d) _ e in
    let q = both_true (leb 48 d) _ p.0 in
    (leb-true 48 d q.0, leb-true d 57 q.1, ltb-true x 4294967296 p.1)

module _ (s : List ℕ) (x i : ℕ) where
  abbrev here : ℕ
  here = get_or s i 0

  cons : i < length s → drop i s ≡ here ∷ drop (i + 1) s
  cons l = drop-cons s i 0 l ∙ ap (λ (j : ℕ). here ∷ drop j s) (sym (add-one i))

  pub scan_go : i < length s → longer x here ≡ true → scan x i (drop i s) ≡ scan (x * 10 + (here - 48)) (i + 1) (drop (i + 1) s)
  unfolding scan
  scan_go l e = ap (scan x i) (cons l) ∙ rw e

  pub scan_stop : i < length s → longer x here ≡ false → scan x i (drop i s) ≡ record { value = x; next = i }
  unfolding scan
  scan_stop l e = ap (scan x i) (cons l) ∙ rw e

  pub scan_over : length s ≤ i → scan x i (drop i s) ≡ record { value = x; next = i }
  unfolding scan
  scan_over l = ap (scan x i) (drop_of_length-le s l)

module _ (u s : List ℕ) (i q : ℕ) (h : i < length u) where
  pub starts_go : q < length s → get_or s q 0 ≡ get_or u i 0 → starts (drop i u) (drop q s) ≡ starts (drop (i + 1) u) (drop (q + 1) s)
  unfolding starts
  starts_go l e = rw (cons u 0 i h, cons s 0 q l, eq-eqb (get_or u i 0) (get_or s q 0) (sym e))

  pub starts_stop : q < length s → (get_or s q 0 ≡ get_or u i 0 → ⊥) → starts (drop i u) (drop q s) ≡ false
  unfolding starts
  starts_stop l e = rw (cons u 0 i h, cons s 0 q l, ne_eqb (get_or u i 0) (get_or s q 0) (λ w. e (sym w)))

  pub starts_over : length s ≤ q → starts (drop i u) (drop q s) ≡ false
  unfolding starts
  starts_over l = rw (cons u 0 i h, drop_of_length-le s l)

pub starts_done : (u s : List ℕ) (i q : ℕ) → length u ≤ i → starts (drop i u) (drop q s) ≡ true
unfolding starts
starts_done u s i q l = rw (drop_of_length-le u l)

-- ---- one test after another: t is what was found of b

pub found : (t b : Bool) (r x y : ℕ) → t ≡ b → t ≡ true → r ≡ x → r ≡ cond b x y
found t b r x y e f g = rw (sym e ∙ f) g

pub missed : (t b : Bool) (r x y : ℕ) → t ≡ b → t ≡ false → r ≡ y → r ≡ cond b x y
missed t b r x y e f g = rw (sym e ∙ f) g

-- ---- tests of four numbers

pub four : (a b c d : Bool) → (a || (b || (c || (d || false)))) ≡ ((a || (b || (c || false))) || d)
four true b c d = refl
four false true c d = refl
four false false true d = refl
four false false false true = refl
four false false false false = refl
