-- The actions in whose rows a rule can offend, as the code finds them: each law has the rule on the left and the code's set on the right.
use Rattle.std.specs.Prelude.{ℕ, suc, ◌≤◌, ◌<◌, Bool, true, false, not, ◌&&◌, ◌⊎◌, ◌≡◌, refl, eqb, get_or}
use Rattle.std.proofs.Math.Bool.{and-false}
use Rattle.std.proofs.Common.{inl, inr, ⊎_elim, sym, ◌∙◌, lt_of_lt_of_le, arith}
use Rattle.std.proofs.Math.Dec.{T, ltb}
use borrow.Author.Tests.{lt-ltb}
use Rattle.rows.specs.Sets.{Set, Rel, any, both, when, image, converse, never, Covers}
use Rattle.rows.specs.Numbers.{size}
use Rattle.rows.proofs.Laws.Covers.{covers_by, covers_only}
use Rattle.rows.specs.Laws.Truth.{T_true, true_T, and_1, and_2, and_l, and_r, both_true, and_both, not_both, top}
use Rattle.rows.proofs.Laws.Quantifiers.{any_in, any_e, any_mono, any_none}
use Rattle.model.specs.Model.{Book, Rf, Mo, Hb, write, atomic, unlock, rmw, seq_cst, sc_action, at_mutex, at_plain, at_atomic, same_place, writes_of, rule6, rule7, rule8, rule11, rule12, rule14, rule15, rule16, rule17, rule18, rule21, rule22, rule23, rule29, rule30, rule31, rule32, rule33, rule34, rule35, rule36}
use Rattle.desk.specs.Notes.{notes, note_count, late, Noted}
use Rattle.desk.specs.Laws.Notes.{noted_at}
use Rattle.rules.specs.Promises.{Settled, overtaken}

-- a number between bounds is one of two, or of three
pub two : {k : ℕ} (m : ℕ) → m ≤ k → k < suc (suc m) → (k ≡ m) ⊎ (k ≡ suc m)
two {k} m l u = ⊎_elim (λ (e : k ≡ suc m). inr e) (λ (v : k < suc m). inl (omega arith)) (top k (suc m) u)

pub three : {k : ℕ} (m : ℕ) → m ≤ k → k < suc (suc (suc m)) → (k ≡ m) ⊎ ((k ≡ suc m) ⊎ (k ≡ suc (suc m)))
three {k} m l u = ⊎_elim (λ (e : k ≡ suc (suc m)). inr (inr e)) (λ (v : k < suc (suc m)). ⊎_elim (λ (e : k ≡ m). inl e) (λ (e : k ≡ suc m). inr (inl e)) (two m l v)) (top k (suc (suc m)) u)

-- what fails wherever a test fails passes only where the test does
unless : (p test : Bool) → (test ≡ false → p ≡ false) → p ≡ true → test ≡ true
unless p true h e = refl
unless p false h e = not_both e (h refl)

-- a choice from nothing
any_false : (n : ℕ) → any n (λ c. false) ≡ false
any_false n = any_none n (λ c. false) (λ c l. refl)

-- a rule, once one of its tests fails
ruleset Silent = (and-false, any_false)

-- a rule about one action: those that it finds bad
pub covers_one : (n : ℕ) (r : Rel) (bad : Set) → r ≡ (λ a b. eqb b a && bad a) → Covers n r bad
covers_one n r bad e = covers_only n r bad λ a b t. rw (e, t) (and-false (eqb b a))

-- ---- of relations between a source and what reads from it

module _ (n : ℕ) (ρ ε : Book) (noted : Noted n ρ ε) where
  -- r is about what these read from
  pub covers_sources : (r : Rel) (these : Set) → ((a b : ℕ) → Rf n ρ a b ≡ false → r a b ≡ false) → ((a b : ℕ) → b < n → r a b ≡ true → these b ≡ true) → Covers n r (image n these (ε 1))
  unfolding notes
  covers_sources r these f g = covers_by n r (image n these (ε 1)) λ a b l m e. any_in n (λ c. these c && ε 1 c a) b m
      (and_both (g a b m e) (noted_at n ρ ε noted 1 (omega arith) b a m l ∙ unless (r a b) (Rf n ρ a b) (f a b) e))

  -- rules 24 to 26: what the atomic actions read from that note k leads to from one of the writes of their place
  pub covers_overtaken : (k : ℕ) → k < note_count → (writes : Set) →
      Covers n (overtaken writes k n ρ) (image n (both (image n writes (λ a. both (ε k a) (same_place n ρ a))) (atomic n ρ)) (ε 1))
  unfolding overtaken
  covers_overtaken k lk writes =
      let near : Rel = λ a. both (get_or (notes n ρ) k never a) (same_place n ρ a) in
      covers_sources (overtaken writes k n ρ) (both (image n writes (λ a. both (ε k a) (same_place n ρ a))) (atomic n ρ))
      (λ y b e. rw e)
      (λ y b m e. let (p, q) = both_true (Rf n ρ y b && atomic n ρ b) (image n (both writes (converse (late n ρ) y)) near b) e in
      and_both (any_mono n (λ a. (writes a && late n ρ a y) && near a b) (λ a. writes a && (ε k a b && same_place n ρ a b))
      (λ a l u. let (w, v) = both_true (writes a && late n ρ a y) (near a b) u in rw (noted_at n ρ ε noted k lk a b l m) (and_both (and_1 (writes a) (late n ρ a y) w) v)) q)
      (and_2 (Rf n ρ y b) (atomic n ρ b) p))

-- ---- rule by rule

module _ (n : ℕ) (ρ : Book) where
  -- 6. sc kept to one mutex's actions
  pub suspects6 : Covers n (rule6 n ρ) (at_mutex n ρ)
  unfolding rule6
  suspects6 = covers_only n (rule6 n ρ) (at_mutex n ρ) λ a b e. simp (e, Silent)

  -- 7. an unlock
  pub suspects7 : Covers n (rule7 n ρ) (unlock n ρ)
  unfolding rule7
  suspects7 = covers_only n (rule7 n ρ) (unlock n ρ) λ a b e. simp (e, Silent)

  -- 8. a lock's immediate predecessor there
  pub suspects8 : Covers n (rule8 n ρ) (at_mutex n ρ)
  unfolding rule8
  suspects8 = covers_only n (rule8 n ρ) (at_mutex n ρ) λ a b e. simp (e, Silent)

  -- 11. hb between SC actions
  pub suspects11 : Covers n (rule11 n ρ) (sc_action n ρ)
  unfolding rule11
  suspects11 = covers_only n (rule11 n ρ) (sc_action n ρ) λ a b e. rw e

  -- 12. mo between SC actions
  pub suspects12 : Covers n (rule12 n ρ) (sc_action n ρ)
  unfolding rule12
  suspects12 = covers_only n (rule12 n ρ) (sc_action n ρ) λ a b e. rw e

  -- 14. mo kept to one atomic place's actions
  pub suspects14 : Covers n (rule14 n ρ) (at_atomic n ρ)
  unfolding rule14
  suspects14 = covers_only n (rule14 n ρ) (at_atomic n ρ) λ a b e. simp (e, Silent)

  -- 15. hb between writes of one atomic place
  pub suspects15 : Covers n (rule15 n ρ) (at_atomic n ρ)
  unfolding rule15
  suspects15 = covers_only n (rule15 n ρ) (at_atomic n ρ) λ a b e. rw e

  -- 16. sb;(sc between fences);sb between those writes
  pub suspects16 : Covers n (rule16 n ρ) (at_atomic n ρ)
  unfolding rule16
  suspects16 = covers_only n (rule16 n ρ) (at_atomic n ρ) λ a b e. rw e

  module _ (ε : Book) (noted : Noted n ρ ε) (h : n ≤ size) where
    -- 17. rf edge
    pub suspects17 : Covers n (rule17 n ρ) (image n (λ b. ltb b size) (ε 1))
    unfolding rule17
    suspects17 = covers_sources n ρ ε noted (rule17 n ρ) (λ b. ltb b size) (λ a b e. rw e) (λ a b m e. lt-ltb b size (lt_of_lt_of_le m h))

    -- 18. rf edge into a target with two
    pub suspects18 : Covers n (rule18 n ρ) (image n (λ b. ltb b size) (ε 1))
    unfolding rule18
    suspects18 = covers_sources n ρ ε noted (rule18 n ρ) (λ b. ltb b size) (λ a b e. rw e) (λ a b m e. lt-ltb b size (lt_of_lt_of_le m h))

  -- 21. a hb b, one atomic place
  pub suspects21 : Covers n (rule21 n ρ) (at_atomic n ρ)
  unfolding rule21
  suspects21 = covers_only n (rule21 n ρ) (at_atomic n ρ) λ a b e. simp (e, Silent)

  module _ (ε : Book) (noted : Noted n ρ ε) where
    -- 22. RMW b, a rf b
    pub suspects22 : Covers n (rule22 n ρ) (image n (rmw n ρ) (ε 1))
    unfolding rule22
    suspects22 = covers_sources n ρ ε noted (rule22 n ρ) (rmw n ρ) (λ a b e. simp (e, Silent)) (λ a b m. unless (rule22 n ρ a b) (rmw n ρ b) λ e. rw e)

    -- 23. a rf b, both seq_cst
    pub suspects23 : Covers n (rule23 n ρ) (image n (seq_cst n ρ) (ε 1))
    unfolding rule23
    suspects23 = covers_sources n ρ ε noted (rule23 n ρ) (seq_cst n ρ) (λ a b e. rw e) (λ a b m. unless (rule23 n ρ a b) (seq_cst n ρ b) λ e. simp (e, Silent))

  -- ---- of edition 2

  module _ (ε : Book) (noted : Noted n ρ ε) where
    -- 29. a source of what reads at a non-atomic place
    pub suspects29 : Covers n (rule29 n ρ) (image n (at_plain n ρ) (ε 1))
    unfolding rule29
    suspects29 = covers_sources n ρ ε noted (rule29 n ρ) (at_plain n ρ) (λ w r e. rw e) (λ w r m. unless (rule29 n ρ w r) (at_plain n ρ r) λ e. simp (e, Silent))

    -- 30. at an atomic place
    pub suspects30 : Covers n (rule30 n ρ) (image n (at_atomic n ρ) (ε 1))
    unfolding rule30
    suspects30 = covers_sources n ρ ε noted (rule30 n ρ) (at_atomic n ρ) (λ w r e. rw e) (λ w r m. unless (rule30 n ρ w r) (at_atomic n ρ r) λ e. simp (e, Silent))

    -- 32. of what is seq_cst
    pub suspects32 : Covers n (rule32 n ρ) (image n (seq_cst n ρ) (ε 1))
    unfolding rule32 rule23
    suspects32 = covers_sources n ρ ε noted (rule32 n ρ) (seq_cst n ρ) (λ w r e. rw e) (λ w r m. unless (rule32 n ρ w r) (seq_cst n ρ r) λ e. simp (e, Silent))

    module _ (h : n ≤ size) where
      -- 34, 35. of anything
      pub suspects34 : Covers n (rule34 n ρ) (image n (λ b. ltb b size) (ε 1))
      unfolding rule34
      suspects34 = covers_sources n ρ ε noted (rule34 n ρ) (λ b. ltb b size) (λ w r e. simp (e, Silent)) (λ w r m e. lt-ltb r size (lt_of_lt_of_le m h))

      pub suspects35 : Covers n (rule35 n ρ) (image n (λ b. ltb b size) (ε 1))
      unfolding rule35
      suspects35 = covers_sources n ρ ε noted (rule35 n ρ) (λ b. ltb b size) (λ w r e. simp (e, Silent)) (λ w r m e. lt-ltb r size (lt_of_lt_of_le m h))

  -- 31. any action, if there is an RMW
  pub suspects31 : n ≤ size → Covers n (rule31 n ρ) (when (not (not (any size (rmw n ρ)))) (λ w. ltb w size))
  unfolding rule31
  suspects31 h = covers_by n (rule31 n ρ) _ λ w b lw lb e.
      let here = any_in size (rmw n ρ) b (lt_of_lt_of_le lb h) (unless (rule31 n ρ w b) (rmw n ρ b) (λ q. rw q) e) in
      rw (here, lt-ltb w size (lt_of_lt_of_le lw h))

  module _ (S : Settled n ρ) where
    -- what mo leads to is a write at an atomic place
    after_mo : (a b : ℕ) → a < n → b < n → Mo n ρ b a ≡ true → (at_atomic n ρ a ≡ true) × (write n ρ a ≡ true)
    after_mo a b la lb e =
        let t : T (writes_of n ρ a b && not (eqb b a) && not (Mo n ρ a b)) = true_T (sym (S.earlier a b la lb) ∙ e) in
        (T_true (at_atomic n ρ a) (search (and_l, and_r)), T_true (write n ρ a) (search (and_l, and_r)))

    -- 33. w' mo w
    pub suspects33 : Covers n (rule33 n ρ) (both (at_atomic n ρ) (write n ρ))
    unfolding rule33
    suspects33 = covers_by n (rule33 n ρ) _ λ w w' l l' e. let (here, writes) = after_mo w w' l l' (and_2 (Hb n ρ w w') (Mo n ρ w' w) e) in and_both here writes

    -- 36. w rf r, w' mo w
    pub suspects36 : Covers n (rule36 n ρ) (image n (at_atomic n ρ) (Rf n ρ))
    unfolding rule36
    suspects36 = covers_by n (rule36 n ρ) _ λ r r' lr lr' e.
        let (w, lw, inner) = any_e n _ (true_T e) in
        let (w', lw', t) = any_e n (λ w'. Rf n ρ w r && Mo n ρ w' w && Hb n ρ r r' && Rf n ρ w' r') inner in
        let source : T (Rf n ρ w r) = search (and_l, and_r) in
        let mo : T (Mo n ρ w' w) = search (and_l, and_r) in
        any_in n (λ c. at_atomic n ρ c && Rf n ρ c r) w lw (and_both (after_mo w w' lw lw' (T_true _ mo)).0 (T_true _ source))
