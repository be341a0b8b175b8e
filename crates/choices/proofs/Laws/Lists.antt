-- What holds of the list of candidates: members come one after another, lowest first; the walk makes the list; a choice that adds nothing may be left out.
use Prim.Native.Nat.{ℕ, zero, suc, ◌+◌, ◌-◌, ◌^◌, ◌<◌, ◌≤◌}
use Rattle.std.specs.Prelude.{Bool, false, cond, ◌||◌, ◌≡◌, eqb, ltb}
use Rattle.std.proofs.Math.Bool.{true, and-true}
use mathlib.Core.List.{List, [], ◌∷◌, ◌++◌, map, map-map, map-append, append-nil, append_assoc}
use Rattle.std.proofs.Math.Logic.{⊎_elim}
use Rattle.std.proofs.Math.Path.{refl, ap, fun_ext}
use Rattle.std.proofs.Common.{sym, ap₂, ◌∙◌, le_refl}
use native.Mathlib.Omega.{arith}
use borrow.Author.Tests.{eq-eqb, ne_eqb, lt-ltb, le-ltb}
use Rattle.rows.specs.Sets.{Set, Rel, any, least, count, single, without, never}
use Rattle.rows.specs.Numbers.{size, joined, number, listed, rows_of}
use Rattle.rows.specs.Laws.Lists.{joined_ext, joined_none}
use Rattle.rows.proofs.Laws.Quantifiers.{any_no, any_none, count_no, count_none, count_without, least_is, least_any, least_hit}
use Rattle.rows.specs.Laws.Truth.{test, not_both}
use Rattle.model.specs.Model.{Book}
use Rattle.choices.specs.Lists.{each_of, over, product, orders, Option, adds, chained, sources, arrangements, taken, books}
use Rattle.choices.specs.Walks.{ordering, choice, choices, sourced, arranged, each_next, chosen, spread}

-- ---- f of each, one after another

each_of_append : {A B : Type 0} (f : A → List B) (xs ys : List A) → each_of f (xs ++ ys) ≡ each_of f xs ++ each_of f ys
unfolding each_of
each_of_append f [] ys = refl
each_of_append f (x ∷ xs) ys = rw (each_of_append f xs ys) (sym (append_assoc (f x) (each_of f xs) (each_of f ys)))

each_of_map : {A B C : Type 0} (f : B → List C) (g : A → B) (xs : List A) → each_of f (map g xs) ≡ each_of (λ x. f (g x)) xs
unfolding each_of
each_of_map f g [] = refl
each_of_map f g (x ∷ xs) = rw (each_of_map f g xs)

map_each_of : {A B C : Type 0} (g : B → C) (f : A → List B) (xs : List A) → map g (each_of f xs) ≡ each_of (λ x. map g (f x)) xs
unfolding each_of
map_each_of g f [] = refl
map_each_of g f (x ∷ xs) = map-append g (f x) (each_of f xs) ∙ ap (λ (l : List _). map g (f x) ++ l) (map_each_of g f xs)

each_of_each_of : {A B C : Type 0} (g : B → List C) (f : A → List B) (xs : List A) → each_of g (each_of f xs) ≡ each_of (λ x. each_of g (f x)) xs
unfolding each_of
each_of_each_of g f [] = refl
each_of_each_of g f (x ∷ xs) = each_of_append g (f x) (each_of f xs) ∙ ap (λ (l : List _). each_of g (f x) ++ l) (each_of_each_of g f xs)

-- ---- members, lowest first

each_of_over : {A B : Type 0} (g : A → List B) (n : ℕ) (s : Set) (f : ℕ → List A) → each_of g (over n s f) ≡ over n s (λ w. each_of g (f w))
unfolding joined each_of
each_of_over g zero s f = refl
each_of_over g (suc n) s f =
    each_of_append g (over n s f) (cond (s n) (f n) []) ∙ ap₂ (λ (x y : List _). x ++ y) (each_of_over g n s f) (go (s n))
  where
    go : (t : Bool) → each_of g (cond t (f n) []) ≡ cond t (each_of g (f n)) []
    go true = refl
    go false = refl

module _ {A : Type 0} where
  -- functions that agree at the members
  over_ext : (n : ℕ) (s : Set) (f g : ℕ → List A) → ((c : ℕ) → c < n → s c ≡ true → f c ≡ g c) → over n s f ≡ over n s g
  over_ext n s f g h = joined_ext n (λ a. cond (s a) (f a) []) (λ a. cond (s a) (g a) []) (λ c l. go c (s c) (h c l))
    where
      go : (c : ℕ) (t : Bool) → (t ≡ true → f c ≡ g c) → cond t (f c) [] ≡ cond t (g c) []
      go c true e = e refl
      go c false e = refl

  pub over_none : (n : ℕ) (s : Set) (f : ℕ → List A) → any n s ≡ false → over n s f ≡ []
  over_none n s f e = joined_none n (λ a. cond (s a) (f a) []) (λ c l. rw (any_no n s e c l))

  -- the least comes first
  pub over_least : (n : ℕ) (s : Set) (f : ℕ → List A) → any n s ≡ true → over n s f ≡ f (least n s) ++ over n (without s (least n s)) f
  unfolding joined any
  over_least zero s f some = not_both some refl
  over_least (suc n) s f some = ⊎_elim
      (λ (e : any n s ≡ true).
      let k = least n s in
      let l : k < n = least_any n s e in
      let q : least (suc n) s ≡ k = least_hit (suc n) s k (omega arith) ((least_is n s).hit l) (least_is n s).miss in
      rw (q, ne_eqb n k (λ w. omega arith), and-true (s n), over_least n s f e) (append_assoc (f k) (over n (without s k) f) (cond (s n) (f n) [])))
      (λ (e : any n s ≡ false).
      let t : s n ≡ true = rw e at some in
      let q : least (suc n) s ≡ n = least_hit (suc n) s n (le_refl (suc n)) t (any_no n s e) in
      let r : over n (without s n) f ≡ [] = over_none n (without s n) f (any_none n (without s n) (λ c l. rw (any_no n s e c l))) in
      rw (q, t, eq-eqb n n refl, over_none n s f e, r) (sym (append-nil (f n))))
      (test (any n s))

-- ---- the orders of a set, one member at a time

module _ (k : ℕ) (s : Set) (rest : Book → List Book) (σ : Book) where
  pub arranged_some : any size s ≡ true → each_next k s rest σ ≡ arranged (count size s) k s rest σ
  unfolding arranged
  arranged_some some = go (count size s) refl
    where
      next : ℕ → ℕ → List Book
      next m w = arranged m k (without s w) rest (adds k w (without s w) σ)

      go : (m : ℕ) → count size s ≡ m → (over size s λ w. next (count size (without s w)) w) ≡ arranged m k s rest σ
      go zero e = not_both some (any_none size s (count_no size s e))
      go (suc m) e = over_ext size s (λ w. next (count size (without s w)) w) (next m) (λ w l h.
          let left : count size (without s w) ≡ m = omega (arith, count_without size s w l h) in ap (λ (i : ℕ). next i w) left)

  pub arranged_none : any size s ≡ false → rest σ ≡ arranged (count size s) k s rest σ
  unfolding arranged
  arranged_none e = rw (count_none size s (any_no size s e))

-- ---- the books of a list of choices

-- The empty list of choices still has one candidate.
pub one_candidate : (σ : Book) → books [] σ ≡ σ ∷ []
unfolding product taken
one_candidate σ = refl

pub books_cons : (c : List Option) (cs : List (List Option)) (σ : Book) → books (c ∷ cs) σ ≡ each_of (λ (x : Option). books cs (x σ)) c
unfolding product taken
books_cons c cs σ =
    map_each_of (λ (fs : List Option). taken fs σ) (λ (x : Option). map (λ (l : List Option). x ∷ l) (product cs)) c
    ∙ ap (λ (g : Option → List Book). each_of g c) (fun_ext λ x. map-map (λ (fs : List Option). taken fs σ) (λ (l : List Option). x ∷ l) (product cs))

pub books_append : (cs ds : List (List Option)) (σ : Book) → books (cs ++ ds) σ ≡ each_of (books ds) (books cs σ)
unfolding each_of
books_append [] ds σ = rw (one_candidate σ) (sym (append-nil (books ds σ)))
books_append (c ∷ cs) ds σ =
    books_cons c (cs ++ ds) σ
    ∙ ap (λ (g : Option → List Book). each_of g c) (fun_ext λ x. books_append cs ds (x σ))
    ∙ sym (ap (each_of (books ds)) (books_cons c cs σ) ∙ each_of_each_of (books ds) (λ (x : Option). books cs (x σ)) c)

-- a choice with one option that adds nothing may be left out
pub books_idle : (cs : List (List Option)) (σ : Book) → books (((λ (τ : Book). τ) ∷ []) ∷ cs) σ ≡ books cs σ
unfolding each_of
books_idle cs σ = books_cons ((λ (τ : Book). τ) ∷ []) cs σ ∙ append-nil (books cs σ)

-- of no members there is one source, none, and one order, the empty one: each adds nothing
pub no_sources : (b : ℕ) (s : Set) → any size s ≡ false → sources b s ≡ (λ (σ : Book). σ) ∷ []
no_sources b s e = ap (λ (l : List Option). (λ (σ : Book). σ) ∷ l) (over_none size s (λ w. adds 4 w (single b) ∷ []) e)

pub no_order : (k : ℕ) (s : Set) → any size s ≡ false → arrangements k s ≡ (λ (σ : Book). σ) ∷ []
unfolding orders chained
no_order k s e = rw (count_none size s (any_no size s e))

-- ---- the walk makes the list

module _ (rest : Book → List Book) where
  -- the rest, with an option taken
  abbrev onward : Book → Option → List Book
  onward σ x = rest (x σ)

  sourced_is : (b : ℕ) (s : Set) (σ : Book) → each_of (onward σ) (sources b s) ≡ sourced b s rest σ
  unfolding each_of
  sourced_is b s σ =
      ap (λ (l : List Book). rest σ ++ l) (
      each_of_over (onward σ) size s (λ w. adds 4 w (single b) ∷ [])
      ∙ ap (over size s) (fun_ext λ w. append-nil (rest (adds 4 w (single b) σ))))

  ordered_is : (m k : ℕ) (s : Set) (σ : Book) → each_of (λ (l : List ℕ). rest (chained k s l σ)) (orders m s) ≡ arranged m k s rest σ
  unfolding each_of orders arranged chained
  ordered_is zero k s σ = append-nil (rest σ)
  ordered_is (suc m) k s σ =
      each_of_over (λ (l : List ℕ). rest (chained k s l σ)) size s (λ w. map (λ (l : List ℕ). w ∷ l) (orders m (without s w)))
      ∙ ap (over size s) (fun_ext λ w.
      each_of_map (λ (l : List ℕ). rest (chained k s l σ)) (λ (l : List ℕ). w ∷ l) (orders m (without s w))
      ∙ ordered_is m k (without s w) (adds k w (without s w) σ))

  arranged_is : (k : ℕ) (s : Set) (σ : Book) → each_of (onward σ) (arrangements k s) ≡ arranged (count size s) k s rest σ
  arranged_is k s σ = each_of_map (onward σ) (chained k s) (orders (count size s) s) ∙ ordered_is (count size s) k s σ

  chosen_is : (n p : ℕ) (π : Rel) (i : ℕ) (σ : Book) → each_of (onward σ) (choice n p π i) ≡ chosen n p π i rest σ
  chosen_is n p π i σ = go (ltb i n)
    where
      go : (t : Bool)
          → each_of (onward σ) (cond t (sources i (π i)) (arrangements (ordering n p i) (π i)))
          ≡ cond t (sourced i (π i) rest) (arranged (count size (π i)) (ordering n p i) (π i) rest) σ
      go true = sourced_is i (π i) σ
      go false = arranged_is (ordering n p i) (π i) σ

-- the books of the last o choices
pub spread_is : (n p : ℕ) (π : Rel) (o : ℕ) → spread n p π o ≡ books (choices n p π o)
unfolding spread choices product taken
spread_is n p π zero = refl
spread_is n p π (suc o) = fun_ext λ σ.
    sym (books_cons (choice n p π (n + p - o)) (choices n p π o) σ
    ∙ ap (λ (r : Book → List Book). each_of (onward r σ) (choice n p π (n + p - o))) (sym (spread_is n p π o))
    ∙ chosen_is (spread n p π o) n p π (n + p - o) σ)

-- one choice more
module _ (n p : ℕ) (π : Rel) (σ : Book) where
  spread_more : (o : ℕ) → (o ≡ 0 → ⊥) → chosen n p π (n + p - (o - 1)) (spread n p π (o - 1)) σ ≡ spread n p π o σ
  unfolding spread
  spread_more zero some = absurd (some refl)
  spread_more (suc o) some = let e : suc o - 1 ≡ o = omega arith in rw e

  pub spread_source : (o : ℕ) → (o ≡ 0 → ⊥) → n + p - (o - 1) < n → sourced (n + p - (o - 1)) (π (n + p - (o - 1))) (spread n p π (o - 1)) σ ≡ spread n p π o σ
  spread_source o some l = rw (lt-ltb (n + p - (o - 1)) n l) at (spread_more o some)

  pub spread_order : (o : ℕ) → (o ≡ 0 → ⊥) → n ≤ n + p - (o - 1)
      → arranged (count size (π (n + p - (o - 1)))) (ordering n p (n + p - (o - 1))) (π (n + p - (o - 1))) (spread n p π (o - 1)) σ ≡ spread n p π o σ
  spread_order o some l = rw (le-ltb (n + p - (o - 1)) n l) at (spread_more o some)

-- ---- by computation

abbrev three : Set
three a = eqb a 1 || eqb a 4 || eqb a 6

-- the orders of a set stand in dictionary order
pub orders_three : orders 3 three ≡ (1 ∷ 4 ∷ 6 ∷ []) ∷ (1 ∷ 6 ∷ 4 ∷ []) ∷ (4 ∷ 1 ∷ 6 ∷ []) ∷ (4 ∷ 6 ∷ 1 ∷ []) ∷ (6 ∷ 1 ∷ 4 ∷ []) ∷ (6 ∷ 4 ∷ 1 ∷ []) ∷ []
unfolding orders joined
orders_three = refl

-- the last of two choices varies fastest
pub product_two : product {A = ℕ} ((0 ∷ 1 ∷ []) ∷ (5 ∷ 6 ∷ 7 ∷ []) ∷ []) ≡ (0 ∷ 5 ∷ []) ∷ (0 ∷ 6 ∷ []) ∷ (0 ∷ 7 ∷ []) ∷ (1 ∷ 5 ∷ []) ∷ (1 ∷ 6 ∷ []) ∷ (1 ∷ 7 ∷ []) ∷ []
unfolding product each_of
product_two = refl

-- the order 4, 1, 6 of them adds the edges 1→6, 4→1 and 4→6 and no other: among 8 actions, bit b of number a for a→b
pub chained_three : rows_of 8 (chained 6 three (4 ∷ 1 ∷ 6 ∷ []) (λ j. never) 6) ≡ 0 ∷ (2 ^ 6) ∷ 0 ∷ 0 ∷ (2 ^ 1 + 2 ^ 6) ∷ 0 ∷ 0 ∷ 0 ∷ []
unfolding chained listed number
chained_three = refl
