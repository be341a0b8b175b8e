-- What the code's pieces come to: the actions that are free, the next one, the stores of the order, the test of the words, and that of the plain accesses.
use Prim.Native.Nat.{ℕ, zero, suc, ◌+◌, ◌-◌, ◌≤◌, ◌<◌}
use mathlib.Core.Bool.{Bool, true, false, not, ◌&&◌, ◌||◌, cond, and_assoc, and-false, and-or_distrib_left}
use mathlib.Core.List.{List, [], ◌∷◌, ◌++◌}
use mathlib.Core.Path.{◌≡◌, refl, sym, ap, ◌∙◌, fun_ext}
use mathlib.Core.Logic.{⊎_elim}
use native.Mathlib.Numerals.{add-one}
use native.Mathlib.Omega.{arith}
use lib.Dec.{ltb}
use lib.ListN.{length, set, drop}
use lib.Seq.{sets, sets-eq}
use borrow.Author.Tests.{lt-ltb, le-ltb, eq-eqb, ne_eqb}
use Rattle.rows.specs.Sets.{Set, Rel, any, least, both, either, less, before, without, image, any_pair}
use Rattle.rows.specs.Numbers.{size}
use Rattle.rows.specs.Laws.Truth.{not_or, lt_or_le, Conj}
use Rattle.rows.proofs.Laws.Quantifiers.{any_and, any_or, any_ext, any_before, not_any, all_ext, least_under}
use Rattle.rows.proofs.Laws.Loops.{Seeking, seek_none, seek_done, seek_cut}
use Rattle.rows.proofs.Laws.Turns.{seek_turn, seek_found}
use Rattle.rows.specs.Members.{TakesLeast}
use Rattle.model.specs.Model.{Book, fence, plain, atomic, seq_cst, at_atomic}
use Rattle.model.specs.Judge.{strong_actions, none_loose, loose, next, greedy}
use Rattle.desk.specs.Clashes.{unsequenced_clash}
use Rattle.order.specs.Steps.{unpreceded, onto, strong, suited}

-- ---- the free ones

pub free_is : (n : ℕ) (h s : Rel) (left : Set) → less left (either (image n left h) (image n left s)) ≡ unpreceded n (λ z a. h z a || s z a) left
free_is n h s left =
    fun_ext λ a.
    ap (λ (t : Bool). left a && not t)
    (sym (any_or n (λ z. left z && h z a) (λ z. left z && s z a)) ∙ any_ext n (λ z. left z && h z a || left z && s z a) (λ z. left z && (h z a || s z a)) (λ z l. sym (and-or_distrib_left (left z) (h z a) (s z a))))

-- the least of the free ones below m: the next one if it is below n, and else there is none
module _ (n m : ℕ) (r : Rel) (left : Set) (a : ℕ) (h : n ≤ m) (e : a ≡ least m (unpreceded n r left)) where
  next_is : cond (ltb a n) a n ≡ next n r left
  unfolding next
  next_is = rw e (sym (least_under n m (unpreceded n r left) h))

  pub next_found : a < n → a ≡ next n r left
  next_found l = rw (lt-ltb a n l) at next_is

  pub next_none : n ≤ a → n ≡ next n r left
  next_none l = rw (le-ltb a n l) at next_is

-- ---- the order, store by store

greedy_length : (n : ℕ) (r : Rel) (k : ℕ) (left : Set) → length (greedy n r k left) ≤ k
unfolding greedy
greedy_length n r zero left = omega arith
greedy_length n r (suc k) left = go (ltb (next n r left) n) (greedy_length n r k (without left (next n r left)))
  where
    go : (t : Bool) → length (greedy n r k (without left (next n r left))) ≤ k → length (cond t (next n r left ∷ greedy n r k (without left (next n r left))) []) ≤ suc k
    go true h = omega arith
    go false h = omega arith

-- what is left to store, from position i on, of the n actions
abbrev pub rest : ℕ → Rel → ℕ → Set → List ℕ
rest n r i left = greedy n r (n - i) left

module _ (n : ℕ) (r : Rel) (i : ℕ) (left : Set) where
  pub store_next : (s : List ℕ) (a : ℕ) → i < n → a ≡ next n r left → a < n → sets s i (rest n r i left) ≡ sets (set s i a) (i + 1) (rest n r (i + 1) (without left a))
  unfolding greedy
  store_next s a l e h =
      let k : n - i ≡ suc (n - (i + 1)) = omega arith in
      rw (k, ← e, lt-ltb a n h, add-one i)

  pub store_none : (s : List ℕ) (a : ℕ) → i < n → a ≡ next n r left → n ≤ a → sets s i (rest n r i left) ≡ s
  unfolding greedy
  store_none s a l e h =
      let k : n - i ≡ suc (n - (i + 1)) = omega arith in
      rw (k, ← e, le-ltb a n h)

  pub store_done : (s : List ℕ) → n ≤ i → sets s i (rest n r i left) ≡ s
  unfolding greedy
  store_done s l = let k : n - i ≡ 0 = omega arith in rw k

-- all of them stored
pub stored : (n : ℕ) (r : Rel) (left : Set) (s : List ℕ) → n ≤ length s → sets s 0 (rest n r 0 left) ≡ onto (greedy n r n left) s
stored n r left s h =
    let o : List ℕ = greedy n r n left in
    let z : n - 0 ≡ n = omega arith in
    let k : 0 + length o ≡ length o = omega arith in
    rw z (sets-eq o s 0 (omega (arith, greedy_length n r n left)) ∙ ap (λ (m : ℕ). o ++ drop m s) k)

-- all of the n actions
pub all_left : (n m : ℕ) → n ≤ m → before (λ a. ltb a m) n ≡ (λ a. ltb a n)
all_left n m h =
    fun_ext λ a.
    ⊎_elim
    (λ (l : a < n). rw (lt-ltb a n l) (ap (λ (t : Bool). t && true) (lt-ltb a m (omega arith))))
    (λ (l : n ≤ a). rw (le-ltb a n l) (and-false (ltb a m)))
    (lt_or_le a n)

-- ---- the words

no_unfit : (p q : Bool) → not (p && not q) ≡ (not p || q)
no_unfit true true = refl
no_unfit true false = refl
no_unfit false q = refl

pub strong_is : (n m : ℕ) (ρ : Book) (these those : Set) → n ≤ m → not (any m (before (either (fence n ρ) (less these those)) n)) ≡ strong n ρ these those
strong_is n m ρ these those h =
    let unfit : Set = less these those in
    ap not (any_before n m (either (fence n ρ) unfit) h ∙ any_or n (fence n ρ) unfit) ∙ not_or (any n (fence n ρ)) (any n unfit)
    ∙ ap (λ (t : Bool). not (any n (fence n ρ)) && t)
    (not_any n unfit ∙ all_ext n (λ a. not (unfit a)) (λ a. not (these a) || those a) (λ a l. no_unfit (these a) (those a)))

-- ---- the plain accesses, each asked for an atomic one with which nothing sequences it

module _ (n : ℕ) (ρ : Book) where
  -- nothing sequences a with some atomic access of its thread and place, one of the two a write
  abbrev loose_at : Set
  loose_at a = any n (both (atomic n ρ) (unsequenced_clash n ρ a))

  loose_by : any n (both (plain n ρ) loose_at) ≡ any_pair n (loose n ρ)
  unfolding loose
  loose_by = any_ext n (both (plain n ρ) loose_at) (λ a. any n (loose n ρ a)) λ a l.
      sym (any_and n (plain n ρ a) (both (atomic n ρ) (unsequenced_clash n ρ a)))
      ∙ any_ext n (λ b. plain n ρ a && both (atomic n ρ) (unsequenced_clash n ρ a) b) (loose n ρ a) λ b m. simp Conj

  -- the walk asks the plain accesses alone, and that is enough
  asked : n ≤ size → any size (both (before (plain n ρ) n) loose_at) ≡ any_pair n (loose n ρ)
  asked few = seek_cut n size (plain n ρ) loose_at few ∙ loose_by

  -- those left decide
  abbrev pub Asking : Set → Type 0
  Asking left = Seeking size (before (plain n ρ) n) loose_at left

  pub asking_none : Asking (before (plain n ρ) n)
  asking_none = seek_none size (before (plain n ρ) n) loose_at

  module _ (few : n ≤ size) where
    -- the row of a: its atomic accesses that nothing sequences with it
    module _ (a : ℕ) (row : Set) (its : row ≡ both (before (atomic n ρ) n) (unsequenced_clash n ρ a)) where
      row_is : loose_at a ≡ any size row
      row_is = rw its (sym (seek_cut n size (atomic n ρ) (unsequenced_clash n ρ a) few))

      module _ {left others : Set} (h : TakesLeast left a others) (g : Asking left) where
        pub asking_more : any size row ≡ false → Asking others
        asking_more none = seek_turn h (before (plain n ρ) n) loose_at g (row_is ∙ none)

        pub asking_hit : any size row ≡ true → false ≡ none_loose n ρ
        asking_hit hit = ap not (sym (seek_found h (before (plain n ρ) n) loose_at g (row_is ∙ hit)) ∙ asked few)

    pub asking_done : (left : Set) → Asking left → any size left ≡ false → true ≡ none_loose n ρ
    asking_done left g none = ap not (sym (seek_done size (before (plain n ρ) n) loose_at left g none) ∙ asked few)

-- ---- no fence, and the accesses are as the edition asks

pub suited_final : (e n : ℕ) (ρ : Book) → e ≡ 2 → suited e n ρ ≡ (strong n ρ (atomic n ρ) (seq_cst n ρ) && none_loose n ρ)
suited_final e n ρ new = rw (eq-eqb e 2 new) (sym (and_assoc (not (any n (fence n ρ))) (strong_actions n ρ) (none_loose n ρ)))

pub suited_first : (e n : ℕ) (ρ : Book) → (e ≡ 2 → ⊥) → suited e n ρ ≡ strong n ρ (at_atomic n ρ) (both (atomic n ρ) (seq_cst n ρ))
suited_first e n ρ old = rw (ne_eqb e 2 old)
