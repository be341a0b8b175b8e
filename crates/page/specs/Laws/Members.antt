-- The members of a set: what they are, and their lines.
use Rattle.std.specs.Prelude.{ℕ, zero, suc, ◌<◌, ◌≤◌, Bool, true, false, cond, List, [], ◌∷◌, ◌++◌, map, ◌≡◌, refl}
use Rattle.std.proofs.Math.Bool.{and-true, and-false}
use Rattle.std.proofs.Common.{append_assoc, append-nil, ⊎_elim, sym, ap, ap₂, ◌∙◌, le_refl, arith, lt-ltb, le-ltb, ne_eqb, eq-eqb}
use Rattle.rows.specs.Sets.{Set, any, least, without, before}
use Rattle.rows.specs.Numbers.{joined}
use Rattle.rows.specs.Laws.Lists.{joined_ext, joined_none, joined_short}
use Rattle.rows.proofs.Laws.Quantifiers.{any_no, least_is, least_any, least_hit}
use Rattle.rows.specs.Laws.Truth.{test, not_both}
use Rattle.page.specs.Lines.{lines, members}

-- ---- the members of a set

abbrev pub one : Bool → ℕ → List ℕ
one t b = cond t (b ∷ []) []

pub members_ext : (n : ℕ) (s t : Set) → ((c : ℕ) → c < n → s c ≡ t c) → members n s ≡ members n t
members_ext n s t h = joined_ext n (λ b. one (s b) b) (λ b. one (t b) b) (λ c l. ap (λ (x : Bool). one x c) (h c l))

pub members_none : (n : ℕ) (s : Set) → any n s ≡ false → members n s ≡ []
members_none n s e = joined_none n (λ b. one (s b) b) (λ c l. rw (any_no n s e c l))

-- a bound is a test
pub members_before : (n m : ℕ) (s : Set) → n ≤ m → members m (before s n) ≡ members n s
members_before n m s l =
    joined_short n m (λ b. one (before s n b) b) l (λ c g. rw (le-ltb c n g, and-false (s c)))
    ∙ members_ext n (before s n) s (λ c k. rw (lt-ltb c n k) (and-true (s c)))

-- the least comes first
pub members_first : (n : ℕ) (s : Set) → any n s ≡ true → members n s ≡ least n s ∷ members n (without s (least n s))
unfolding joined any
members_first zero s some = not_both some refl
members_first (suc n) s some = ⊎_elim
    (λ (e : any n s ≡ true).
    let k = least n s in
    let l : k < n = least_any n s e in
    let q = least_is n s in
    let f : least (suc n) s ≡ k = least_hit (suc n) s k (omega arith) (q.hit l) q.miss in
    rw (f, ne_eqb n k (λ w. omega arith), and-true (s n)) (ap (λ (x : List ℕ). x ++ one (s n) n) (members_first n s e)))
    (λ (e : any n s ≡ false).
    let t : s n ≡ true = rw e at some in
    let f : least (suc n) s ≡ n = least_hit (suc n) s n (le_refl (suc n)) t (any_no n s e) in
    rw (f, t, eq-eqb n n refl, members_none n s e)
    (ap (λ (x : List ℕ). n ∷ x) (sym (append-nil (members n (without s n)) ∙ members_ext n (without s n) s (λ c l. rw (ne_eqb c n (λ w. omega arith)) (and-true (s c))) ∙ members_none n s e))))
    (test (any n s))

-- ---- lines

pub lines_append : {A : Type 0} (f : A → List ℕ) (xs ys : List A) → lines f (xs ++ ys) ≡ lines f xs ++ lines f ys
unfolding lines
lines_append f [] ys = refl
lines_append f (x ∷ xs) ys = rw (lines_append f xs ys) (sym (append_assoc (f x) (lines f xs) (lines f ys)))

pub lines_map : {A B : Type 0} (f : B → List ℕ) (g : A → B) (xs : List A) → lines f (map g xs) ≡ lines (λ x. f (g x)) xs
unfolding lines
lines_map f g [] = refl
lines_map f g (x ∷ xs) = ap (λ (l : List ℕ). f (g x) ++ l) (lines_map f g xs)

-- the lines of a row's members, each for itself
lines_one : (f : ℕ → List ℕ) (t : Bool) (b : ℕ) → lines f (cond t (b ∷ []) []) ≡ cond t (f b) []
unfolding lines
lines_one f true b = append-nil (f b)
lines_one f false b = refl

lines_joined : (f : ℕ → List ℕ) (s : Set) (n : ℕ) → lines f (members n s) ≡ joined n (λ b. cond (s b) (f b) [])
unfolding lines joined
lines_joined f s zero = refl
lines_joined f s (suc n) =
    lines_append f (members n s) (cond (s n) (n ∷ []) []) ∙ ap₂ (λ (x y : List ℕ). x ++ y) (lines_joined f s n) (lines_one f (s n) n)

pub row_is : (f : ℕ → List ℕ) (s : Set) (n m : ℕ) → n ≤ m → lines f (members m (before s n)) ≡ joined n (λ b. cond (s b) (f b) [])
row_is f s n m l = ap (lines f) (members_before n m s l) ∙ lines_joined f s n
