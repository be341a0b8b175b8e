-- The rows of rules 17 to 26, as the code works them out, are those of the rules.
use Rattle.std.specs.Prelude.{ℕ, ◌≤◌, ◌<◌, Bool, true, false, ◌&&◌, ◌||◌, cond, ◌≡◌, refl, eqb}
use Rattle.std.proofs.Math.Bool.{not, and-true, and-false, and_comm, and_assoc, or-false}
use Rattle.std.proofs.Math.Path.{sym, ap, fun_ext}
use Rattle.std.proofs.Common.{◌∙◌, lt_of_lt_of_le, arith}
use Rattle.std.proofs.Math.Dec.{ltb}
use borrow.Author.Tests.{lt-ltb}
use Rattle.rows.specs.Sets.{Set, Rel, any, both, either, less, when, at, without, before, image, converse}
use Rattle.rows.specs.Numbers.{size}
use Rattle.rows.specs.Laws.Truth.{and_left, Conj}
use Rattle.rows.proofs.Laws.Quantifiers.{any_ext, any_before}
use Rattle.rows.specs.Laws.Sets.{before_ext, at_single}
use Rattle.rows.proofs.Laws.Joins.{asked, image_full, start_first, prenex}
use Rattle.model.specs.Model.{Book, Sb, Rf, Sc, Mo, Hb, read, write, atomic, lock, unlock, rmw, seq_cst, at_mutex, at_atomic, same_place, same_value, one, unfed, sc_fence, rule17, rule18, rule21, rule22, rule23, rule24, rule25, rule26}
use Rattle.desk.specs.Notes.{Noted, notes, note_count, late}
use Rattle.desk.specs.Laws.Notes.{noted_at}
use Rattle.rules.specs.Promises.{overtaken}

-- one of two, by a test
choose : (m u v : Bool) → ((m && u) || (not m && v)) ≡ cond m u v
choose true u v = or-false u
choose false u v = refl

-- from a source if there is one, else from nothing
feed : (s f g : Bool) → ((s && not f) || (g && not s)) ≡ cond s (not f) g
feed true f g = rw (and-false g) (or-false (not f))
feed false f g = and-true g

-- ---- the shapes of rules 21 and 24 to 26: the code's order of choices, and the paper's

module _ (n : ℕ) where
  -- rule 21: the two sources
  two_sources : (atom hb place : Bool) (s : Set) (r : Rel) (t : Set) →
      ((atom && (hb && place)) && any n (λ y. (any n λ x. s x && r x y) && t y)) ≡ (any n (λ x. any n (λ y. s x && t y && r x y)) && hb && (atom && place))
  two_sources atom hb place s r t = rw (start_first n s r t) (simp prenex)

  -- rule 24: the write and the fence
  sc_fence_sb_lem : (rf atom : Bool) (writes lates : Set) (sc : Rel) (fences sb place : Set) →
      ((rf && atom) && any n (λ a. (writes a && lates a) && (any n (λ f. (sc a f && fences f) && sb f) && place a)))
      ≡ any n (λ a. any n (λ f. rf && (fences f && sb f) && atom && (writes a && place a) && sc a f && lates a))
  sc_fence_sb_lem rf atom writes lates sc fences sb place = simp prenex

  -- rule 25: the write and the fence
  sb_fence_sc_lem : (rf atom : Bool) (writes lates : Set) (sb : Rel) (fences sc place : Set) →
      ((rf && atom) && any n (λ a. (writes a && lates a) && (any n (λ f. (sb a f && fences f) && sc f) && place a)))
      ≡ any n (λ a. any n (λ f. rf && atom && (writes a && place a) && sb a f && fences f && sc f && lates a))
  sb_fence_sc_lem rf atom writes lates sb fences sc place = simp prenex

  -- rule 26: the write and the two fences
  sb_fences_sb_lem : (rf atom : Bool) (writes lates : Set) (sb : Rel) (fences : Set) (sc : Rel) (to place : Set) →
      ((rf && atom) && any n (λ a. (writes a && lates a) && (any n (λ f. any n (λ g. sb a f && (fences f && fences g && sc f g) && to g)) && place a)))
      ≡ any n (λ a. any n (λ f. any n (λ g. rf && atom && (writes a && place a) && sb a f && sc f g && to g && (fences f && fences g) && lates a)))
  sb_fences_sb_lem rf atom writes lates sb fences sc to place = simp prenex

-- ---- rule by rule

-- of a rule about one action, the row of a
pub one_row : (n : ℕ) (ρ : Book) (q : Rel) (bad row : Set) (a : ℕ) → q ≡ one n ρ bad → row ≡ one n ρ bad a → before row n ≡ before (q a) n
one_row n ρ q bad row a rule here = ap (λ (s : Set). before s n) (here ∙ sym (ap (λ (r : Rel). r a) rule))

-- a rule about one action, kept to its place
pub at_one : (n : ℕ) (ρ : Book) (f : Set) (a : ℕ) → at f a ≡ one n ρ f a
at_one n ρ f a = at_single f a ∙ fun_ext λ b. and_comm (f a) (eqb b a)

module _ (n : ℕ) (ρ : Book) where
  pub rule17_by : (a : ℕ) →
      before
      (less (Rf n ρ a) (both (without (same_place n ρ a) a)
      (either (when (at_mutex n ρ a) (when (unlock n ρ a) (lock n ρ))) (when (not (at_mutex n ρ a)) (when (write n ρ a) (both (same_value n ρ a) (read n ρ))))))) n
      ≡ before (rule17 n ρ a) n
  unfolding rule17
  rule17_by a =
      before_ext n _ (rule17 n ρ a) λ b l. ap (λ (t : Bool). Rf n ρ a b && not (same_place n ρ a b && not (eqb b a) && t))
      (choose (at_mutex n ρ a) (unlock n ρ a && lock n ρ b) (write n ρ a && (same_value n ρ a b && read n ρ b))
      ∙ ap (cond (at_mutex n ρ a) (unlock n ρ a && lock n ρ b)) (and_left (write n ρ a) (same_value n ρ a b) (read n ρ b) ∙ sym (and_assoc (same_value n ρ a b) (write n ρ a) (read n ρ b))))

  pub rule24_by_lem : overtaken (write n ρ) 3 n ρ ≡ rule24 n ρ
  unfolding overtaken rule24 notes
  rule24_by_lem = fun_ext λ y. fun_ext λ b.
      sc_fence_sb_lem n (Rf n ρ y b) (atomic n ρ b) (write n ρ) (converse (late n ρ) y) (Sc n ρ) (sc_fence n ρ) (converse (Sb n ρ) b) (converse (same_place n ρ) b)

  pub rule25_by_lem : overtaken (both (atomic n ρ) (write n ρ)) 4 n ρ ≡ rule25 n ρ
  unfolding overtaken rule25 notes
  rule25_by_lem = fun_ext λ y. fun_ext λ b.
      sb_fence_sc_lem n (Rf n ρ y b) (atomic n ρ b) (both (atomic n ρ) (write n ρ)) (converse (late n ρ) y) (Sb n ρ) (sc_fence n ρ) (converse (Sc n ρ) b) (converse (same_place n ρ) b)

  pub rule26_by_lem : overtaken (both (atomic n ρ) (write n ρ)) 6 n ρ ≡ rule26 n ρ
  unfolding overtaken rule26 notes
  rule26_by_lem = fun_ext λ y. fun_ext λ b.
      sb_fences_sb_lem n (Rf n ρ y b) (atomic n ρ b) (both (atomic n ρ) (write n ρ)) (converse (late n ρ) y) (Sb n ρ) (sc_fence n ρ) (Sc n ρ) (converse (Sb n ρ) b) (converse (same_place n ρ) b)

  module _ (h : n ≤ size) where
    pub unfed_by : (k : ℕ) (reads : Set) →
        let all : Set = λ c. ltb c size in
        both reads (either (less (image n all (ρ k)) (image n all (λ c. both (ρ k c) (Rf n ρ c)))) (less (image n all (Rf n ρ)) (image n all (ρ k))))
        ≡ λ b. reads b && unfed n ρ (ρ k) b
    unfed_by k reads =
        rw (image_full n size true (ρ k) h, image_full n size true (λ c. both (ρ k c) (Rf n ρ c)) h, image_full n size true (Rf n ρ) h)
        (fun_ext λ b. ap (λ (t : Bool). reads b && t) (feed (any n λ c. ρ k c b) (any n λ c. ρ k c b && Rf n ρ c b) (any n λ c. Rf n ρ c b)))

    pub rule22_by : (a : ℕ) →
        let b : Set = both (Rf n ρ a) (rmw n ρ) in
        before (less b (less (Mo n ρ a) (image n (when (not (not (any size b))) (Mo n ρ a)) (Mo n ρ)))) n ≡ before (rule22 n ρ a) n
    unfolding rule22
    rule22_by a =
        asked n size (both (Rf n ρ a) (rmw n ρ)) (λ p b. not (less (Mo n ρ a) (image n (when p (Mo n ρ a)) (Mo n ρ)) b)) (rule22 n ρ a) h
        λ b l. rw (and_comm (Rf n ρ a b) (rmw n ρ b))

    pub rule23_by : (a : ℕ) →
        let b : Set = when (seq_cst n ρ a) (both (Rf n ρ a) (seq_cst n ρ)) in
        before (less b (less (Sc n ρ a) (image n (when (not (not (any size b))) (both (Sc n ρ a) (write n ρ))) (λ c. both (same_place n ρ c) (Sc n ρ c))))) n ≡ before (rule23 n ρ a) n
    unfolding rule23
    rule23_by a =
        asked n size (when (seq_cst n ρ a) (both (Rf n ρ a) (seq_cst n ρ))) (λ p b. not (less (Sc n ρ a) (image n (when p (both (Sc n ρ a) (write n ρ))) (λ c. both (same_place n ρ c) (Sc n ρ c))) b)) (rule23 n ρ a) h
        λ b l. simp prenex

    module _ (ε : Book) (noted : Noted n ρ ε) where
      -- whether b has a source in s
      source_in : (s : Set) (b : ℕ) → b < n → any size (both (ε 1 b) s) ≡ any n (λ c. Rf n ρ c b && s c)
      unfolding notes
      source_in s b l =
          any_ext size _ (before (λ c. Rf n ρ c b && s c) n) (λ c k. rw (noted.is 1 (omega arith), lt-ltb b n l) (simp Conj))
          ∙ any_before n size (λ c. Rf n ρ c b && s c) h

      pub rule18_by : (a : ℕ) → before (both (Rf n ρ a) (λ b. any size (both (ε 1 b) (without (λ c. ltb c size) a)))) n ≡ before (rule18 n ρ a) n
      unfolding rule18
      rule18_by a =
          before_ext n _ (rule18 n ρ a) λ b l. ap (λ (t : Bool). Rf n ρ a b && t)
          (source_in (without (λ c. ltb c size) a) b l ∙ any_ext n _ _ λ c k. rw (lt-ltb c size (lt_of_lt_of_le k h)) (and_comm (Rf n ρ c b) (not (eqb c a))))

      pub rule21_by : (a : ℕ) → a < n →
          let b : Set = when (at_atomic n ρ a) (both (Hb n ρ a) (same_place n ρ a)) in
          before (both b (λ c. any size (both (ε 1 c) (image n (when (not (not (any size b))) (ε 1 a)) (ε 2))))) n ≡ before (rule21 n ρ a) n
      unfolding rule21 notes
      rule21_by a la =
          asked n size (when (at_atomic n ρ a) (both (Hb n ρ a) (same_place n ρ a))) (λ p c. any size (both (ε 1 c) (image n (when p (ε 1 a)) (ε 2)))) (rule21 n ρ a) h
          λ b l. ap (λ (t : Bool). (at_atomic n ρ a && (Hb n ρ a b && same_place n ρ a b)) && t)
          (source_in (image n (ε 1 a) (ε 2)) b l
          ∙ any_ext n _ (λ y. (any n λ x. Rf n ρ x a && late n ρ x y) && Rf n ρ y b) λ y ly. and_comm (Rf n ρ y b) (image n (ε 1 a) (ε 2) y) ∙ ap (λ (t : Bool). t && Rf n ρ y b)
          (any_ext n _ (λ x. Rf n ρ x a && late n ρ x y) λ x lx. rw (noted_at n ρ ε noted 1 (omega arith) a x la lx, noted_at n ρ ε noted 2 (omega arith) x y lx ly)))
          ∙ two_sources n (at_atomic n ρ a) (Hb n ρ a b) (same_place n ρ a b) (λ x. Rf n ρ x a) (late n ρ) (λ y. Rf n ρ y b)

      -- rules 24 to 26
      pub overtaken_by : (k : ℕ) → k < note_count → (writes : Set) (y : ℕ) → y < n →
          let b : Set = both (Rf n ρ y) (atomic n ρ) in
          before (both b (image n (both (when (not (not (any size b))) writes) (converse (ε 2) y)) (λ a. both (ε k a) (same_place n ρ a)))) n ≡ before (overtaken writes k n ρ y) n
      unfolding overtaken notes
      overtaken_by k lk writes y ly =
          asked n size (both (Rf n ρ y) (atomic n ρ)) (λ p. image n (both (when p writes) (converse (ε 2) y)) (λ a. both (ε k a) (same_place n ρ a))) (overtaken writes k n ρ y) h
          λ b lb. ap (λ (t : Bool). (Rf n ρ y b && atomic n ρ b) && t)
          (any_ext n _ _ λ a la. rw (noted_at n ρ ε noted 2 (omega arith) a y la ly, noted_at n ρ ε noted k lk a b la lb))
