-- Lists made of functions: their length, what stands at each place, and one place changed; lists one after another.
use Prim.Native.Nat.{ℕ, zero, suc, ◌+◌, ◌*◌, ◌≤◌, ◌<◌}
use mathlib.Core.List.{List, [], ◌∷◌, ◌++◌, append-nil}
use Rattle.std.proofs.Math.Logic.{⊎_elim}
use Rattle.std.specs.Prelude.{◌≡◌, get_or, length, set, take}
use Rattle.std.proofs.Math.Path.{refl, ap}
use Rattle.std.proofs.Common.{sym, ap₂, ◌∙◌, mul-zero, mul-suc, le_refl, not-suc-le-zero, le_of_suc-le-suc, arith, length-set, length-take-le, get_or-take, get_or-set_same, get_or-set_other, ext_get_or}
use Rattle.std.proofs.Math.Decide.{le_ind}
use Rattle.std.proofs.Math.Numerals.{add-one}
use Rattle.std.proofs.Math.ListN.{length-append, get_or-append, get_or-eq_default}
use Rattle.std.proofs.lemmas.List.{get_or_at}
use Rattle.rows.specs.Laws.Truth.{lt_or_le, eq_or_ne, top}
use Rattle.rows.specs.Numbers.{listed, joined}
use Rattle.rows.specs.Sets.{sum}

module _ {A : Type 0} (f : ℕ → A) where
  pub listed_length : (n : ℕ) → length (listed n f) ≡ n
  unfolding listed
  listed_length zero = refl
  listed_length (suc n) = length-append (listed n f) (f n ∷ []) ∙ ap (λ (k : ℕ). k + 1) (listed_length n) ∙ add-one n

  pub listed_at : (n i : ℕ) (d : A) → i < n → get_or (listed n f) i d ≡ f i
  unfolding listed
  listed_at zero i d l = absurd (not-suc-le-zero l)
  listed_at (suc n) i d l =
      ⊎_elim
      (λ (e : i ≡ n). rw e (get_or_at (listed n f) (f n) [] d n (listed_length n)))
      (λ (h : i < n). get_or-append (listed n f) (f n ∷ []) d i (omega (arith, listed_length n)) ∙ listed_at n i d h)
      (top i n l)

  -- where f is d past the end, the list is f at every place
  pub listed_all : (n : ℕ) (d : A) → ((i : ℕ) → n ≤ i → f i ≡ d) → (i : ℕ) → get_or (listed n f) i d ≡ f i
  listed_all n d h i =
      ⊎_elim
      (λ (l : i < n). listed_at n i d l)
      (λ (l : n ≤ i). get_or-eq_default (listed n f) d (rw (listed_length n) l) ∙ sym (h i l))
      (lt_or_le i n)

  -- the first n of more
  pub listed_take : (n m : ℕ) → n ≤ m → take n (listed m f) ≡ listed n f
  listed_take n m l =
      let e : length (take n (listed m f)) ≡ n = length-take-le n (listed m f) (rw (listed_length m) l) in
      ext_get_or (f 0) (take n (listed m f)) (listed n f) (e ∙ sym (listed_length n))
      (λ i h. let k : i < n = omega arith in get_or-take n (listed m f) i (f 0) k ∙ listed_at m i (f 0) (omega arith) ∙ sym (listed_at n i (f 0) k))

-- functions that are equal below n have one list, and only those
pub listed_ext : {A : Type 0} (n : ℕ) (f g : ℕ → A) → ((i : ℕ) → i < n → f i ≡ g i) → listed n f ≡ listed n g
unfolding listed
listed_ext zero f g h = refl
listed_ext (suc n) f g h = ap₂ (λ (l : List _) (x : _). l ++ (x ∷ [])) (listed_ext n f g (λ i l. h i (omega arith))) (h n (le_refl (suc n)))

pub listed_same : {A : Type 0} (n : ℕ) (f g : ℕ → A) → listed n f ≡ listed n g → (i : ℕ) → i < n → f i ≡ g i
listed_same n f g e i l = sym (listed_at f n i (f i) l) ∙ ap (λ (t : List _). get_or t i (f i)) e ∙ listed_at g n i (f i) l

-- place i of a list written anew
pub listed_change : {A : Type 0} (f g : ℕ → A) (n i : ℕ) → i < n → ((j : ℕ) → (j ≡ i → ⊥) → f j ≡ g j) → set (listed n f) i (g i) ≡ listed n g
listed_change f g n i l h =
    ext_get_or (g i) (set (listed n f) i (g i)) (listed n g)
    (length-set (listed n f) i (g i) ∙ listed_length f n ∙ sym (listed_length g n))
    (λ j k.
    let m : j < n = omega (arith, length-set (listed n f) i (g i), listed_length f n) in
    ⊎_elim
    (λ (e : j ≡ i). rw e (get_or-set_same (listed n f) i (g i) (g i) (omega (arith, listed_length f n)) ∙ sym (listed_at g n i (g i) l)))
    (λ (d : j ≡ i → ⊥). get_or-set_other (listed n f) i j (g i) (g i) d ∙ listed_at f n j (g i) m ∙ h j d ∙ sym (listed_at g n j (g i) m))
    (eq_or_ne j i))

-- inside a list the default does not matter
pub get_d_any : {A : Type 0} (l : List A) (i : ℕ) (d e : A) → i < length l → get_or l i d ≡ get_or l i e
get_d_any [] i d e h = absurd (not-suc-le-zero h)
get_d_any (x ∷ l) zero d e h = refl
get_d_any (x ∷ l) (suc i) d e h = get_d_any l i d e (le_of_suc-le-suc h)

-- ---- lists one after another

pub joined_one : {A : Type 0} (n : ℕ) (f : ℕ → List A) → joined (n + 1) f ≡ joined n f ++ f n
unfolding joined
joined_one n f = ap (λ (k : ℕ). joined k f) (add-one n)

pub joined_ext : {A : Type 0} (n : ℕ) (f g : ℕ → List A) → ((c : ℕ) → c < n → f c ≡ g c) → joined n f ≡ joined n g
unfolding joined
joined_ext zero f g h = refl
joined_ext (suc n) f g h = ap₂ (λ (x y : List _). x ++ y) (joined_ext n f g (λ c l. h c (omega arith))) (h n (le_refl (suc n)))

pub joined_length : {A : Type 0} (n : ℕ) (f : ℕ → List A) → length (joined n f) ≡ sum n (λ c. length (f c))
unfolding joined sum
joined_length zero f = refl
joined_length (suc n) f = length-append (joined n f) (f n) ∙ ap (λ (k : ℕ). k + length (f n)) (joined_length n f)

-- where each has w elements
pub joined_width : {A : Type 0} (f : ℕ → List A) (w : ℕ) → ((c : ℕ) → length (f c) ≡ w) → (n : ℕ) → length (joined n f) ≡ w * n
unfolding joined
joined_width f w e zero = sym (mul-zero w)
joined_width f w e (suc n) = omega (arith, length-append (joined n f) (f n), joined_width f w e n, e n, mul-suc w n)

pub joined_none : {A : Type 0} (n : ℕ) (f : ℕ → List A) → ((c : ℕ) → c < n → f c ≡ []) → joined n f ≡ []
unfolding joined
joined_none zero f h = refl
joined_none (suc n) f h = rw (h n (le_refl (suc n)), joined_none n f (λ c l. h c (omega arith)))

-- past n there is nothing: the same up to more
pub joined_short : {A : Type 0} (n m : ℕ) (f : ℕ → List A) → n ≤ m → ((c : ℕ) → n ≤ c → f c ≡ []) → joined m f ≡ joined n f
unfolding joined
joined_short n m f l h = le_ind (λ (k : ℕ). joined k f ≡ joined n f) refl (λ k g ih. ap₂ (λ (x y : List _). x ++ y) ih (h k g) ∙ append-nil (joined n f)) m l
