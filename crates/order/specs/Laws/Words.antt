-- How the words of the model hang together in a candidate's book: words that exclude one another or come together.
use Prim.Native.Nat.{ℕ, zero, suc, ◌<◌}
use Rattle.std.specs.Prelude.{Bool, not, ◌||◌, List, [], ◌∷◌, ◌≡◌, refl, ◌⊎◌, eqb, ltb, length}
use Rattle.std.proofs.Math.Bool.{false}
use Rattle.std.proofs.Common.{sym, arith, not-suc-le-zero, le_of_suc-le-suc, eqb→eq, lt→ltb}
use Rattle.std.proofs.Math.Path.{subst}
use Rattle.std.proofs.Math.Logic.{inl, inr, ⊎_elim}
use Rattle.std.proofs.Math.Dec.{T, T_not, not_T, ltb→lt}
use Rattle.std.proofs.Math.ListN.{get_or}
use Rattle.rows.specs.Sets.{Rel}
use Rattle.rows.specs.Numbers.{rel}
use Rattle.rows.specs.Laws.Truth.{and_l, and_r, and_i, or_e, or_l, or_r, eqb_i, T_true, T_false, true_T}
use Rattle.model.specs.declared.Action.{Action}
use Rattle.model.specs.declared.ActionKind.{ActionKind}
use Rattle.model.specs.declared.ActionKind.TheVariants.{Lock, Unlock, AtomicLoad, AtomicStore, ReadModifyWrite, Load, Store, Fence}
use Rattle.model.specs.Actions.{kind_number, order_in}
use Rattle.model.specs.Candidates.{Candidate, given, among, kind_is, order_is, is_fence, place_ok, action_ok, well_formed}
use Rattle.model.specs.Words.{word, act, place_kind, book_from}
use Rattle.model.specs.Model.{Book, entered, read, atomic, plain, fence, lock, unlock, seq_cst, sc_action, consume, at_mutex, at_plain, at_atomic, same_thread}
use Rattle.model.specs.Judge.{book}
use Rattle.model.specs.Laws.Formed.{Parts, parts}
use Rattle.model.specs.Laws.Placing.{Placing, placing, word_out, word_below, word_in}

pub record Wording (n : ℕ) (ρ : Book) : Type 0 where
  -- a place is a mutex, non-atomic or atomic
  pub place_cases : (a : ℕ) → a < n → T (not (fence n ρ a)) → T (at_mutex n ρ a) ⊎ (T (at_plain n ρ a) ⊎ T (at_atomic n ρ a))
  -- kinds
  pub read_mutex : (a : ℕ) → T (read n ρ a) → T (lock n ρ a || unlock n ρ a) → ⊥
  pub unlock_plain : (a : ℕ) → T (unlock n ρ a) → T (plain n ρ a) → ⊥
  pub atomic_mutex : (a : ℕ) → T (atomic n ρ a) → T (lock n ρ a || unlock n ρ a) → ⊥
  pub atomic_plain : (a : ℕ) → T (atomic n ρ a) → T (plain n ρ a) → ⊥
  -- kinds and orders
  pub consume_atomic : (a : ℕ) → T (consume n ρ a) → T (atomic n ρ a)
  pub consume_seq_cst : (a : ℕ) → T (consume n ρ a) → T (seq_cst n ρ a) → ⊥
  pub seq_cst_atomic : (a : ℕ) → T (not (fence n ρ a)) → T (seq_cst n ρ a) → T (atomic n ρ a)
  pub seq_cst_sc : (a : ℕ) → T (seq_cst n ρ a) → T (sc_action n ρ a)
  pub mutex_sc_lem : (a : ℕ) → T (lock n ρ a || unlock n ρ a) → T (sc_action n ρ a)
  -- threads
  pub thread_sym : (a b : ℕ) → T (same_thread n ρ a b) → T (same_thread n ρ b a)

-- ---- lists of kinds: on written lists the test computes

among_e : (k x : ℕ) (xs : List ℕ) → T (among k (x ∷ xs)) → (k ≡ x) ⊎ T (among k xs)
among_e k x xs t = ⊎_elim (λ e. inl (eqb→eq k x e)) inr (or_e (eqb k x) (among k xs) t)

abbrev meet : List ℕ → List ℕ → Bool
meet [] ys = false
meet (x ∷ xs) ys = among x ys || meet xs ys

-- a number of both lists is a number that they share
among_meet : (k : ℕ) (xs ys : List ℕ) → T (among k xs) → T (among k ys) → T (meet xs ys)
among_meet k [] ys p q = p
among_meet k (x ∷ xs) ys p q =
    ⊎_elim
    (λ (e : k ≡ x). or_l (among x ys) (meet xs ys) (subst (λ (z : ℕ). T (among z ys)) e q))
    (λ t. or_r (among x ys) (meet xs ys) (among_meet k xs ys t q))
    (among_e k x xs p)

-- Kinds 1, 2, 6, 7 have order 0: what has another is an atomic action or a fence
with_order : (k : ActionKind) (os : List ℕ) → T (not (among 0 os)) → T (among (order_in k) os) → T (among (kind_number k) (3 ∷ 4 ∷ 5 ∷ [])) ⊎ T (among (kind_number k) (8 ∷ []))
with_order Lock os z p = absurd (T_not (among 0 os) z p)
with_order Unlock os z p = absurd (T_not (among 0 os) z p)
with_order (AtomicLoad m) os z p = inl tt
with_order (AtomicStore m) os z p = inl tt
with_order (ReadModifyWrite m) os z p = inl tt
with_order Load os z p = absurd (T_not (among 0 os) z p)
with_order Store os z p = absurd (T_not (among 0 os) z p)
with_order (Fence m) os z p = inr tt

-- what is read inside a list does not depend on what is read past its end
get_d_inside : (l : List ℕ) (i d e : ℕ) → i < length l → get_or l i d ≡ get_or l i e
get_d_inside [] i d e h = absurd (not-suc-le-zero h)
get_d_inside (x ∷ xs) zero d e h = refl
get_d_inside (x ∷ xs) (suc i) d e h = get_d_inside xs i d e (le_of_suc-le-suc h)

below_three : (k : ℕ) → k < 3 → T (eqb k 0) ⊎ (T (eqb k 1) ⊎ T (eqb k 2))
below_three zero h = inl tt
below_three (suc zero) h = inr (inl tt)
below_three (suc (suc zero)) h = inr (inr tt)
below_three (suc (suc (suc k))) h = absurd (omega arith)

-- ---- the book of a candidate

module _ (X : Candidate) where
  abbrev n : ℕ
  n = X.n

  abbrev action : ℕ → Action
  action = act X.n X.acts X.places

  abbrev kind_at : ℕ → ℕ
  kind_at = place_kind X.n X.acts X.places

  abbrev given_rows : ℕ → Rel
  given_rows k = rel (get_or (given X) k [])

  -- the word of a number that the book has is the action's
  its_word : (w a : ℕ) → T (book X 18 w a) → T (word w (action a) (kind_at a))
  its_word = word_out X.n X.acts X.places given_rows

  its_number : (w a : ℕ) → T (book X 18 w a) → T (ltb a n)
  its_number = word_below X.n X.acts X.places given_rows

  has_word : (w a : ℕ) → T (ltb a n) → T (word w (action a) (kind_at a)) → T (book X 18 w a)
  has_word = word_in X.n X.acts X.places given_rows

  -- lock or unlock
  mutex_kind : (a : ℕ) → T (lock n (book X) a || unlock n (book X) a) → T (kind_is (1 ∷ 2 ∷ []) (action a))
  unfolding word
  mutex_kind a t =
      let k : ℕ = kind_number (action a).what in
      ⊎_elim
      (λ p. or_l (eqb k 1) (among k (2 ∷ [])) (⊎_elim (λ q. q) absurd (or_e (eqb k 1) false (its_word 5 a p))))
      (λ p. or_r (eqb k 1) (among k (2 ∷ [])) (its_word 6 a p))
      (or_e (lock n (book X) a) (unlock n (book X) a) t)

  mutex_below : (a : ℕ) → T (lock n (book X) a || unlock n (book X) a) → T (ltb a n)
  mutex_below a t = ⊎_elim (its_number 5 a) (its_number 6 a) (or_e (lock n (book X) a) (unlock n (book X) a) t)

  thread_turned : (a b : ℕ) → T (same_thread n (book X) a b) → T (same_thread n (book X) b a)
  unfolding book_from entered
  thread_turned a b t =
      let e : T (eqb (action a).thread (action b).thread) = search (and_l, and_r) in
      let la : T (ltb a n) = search (and_l, and_r) in
      let lb : T (ltb b n) = search (and_l, and_r) in
      let u : T (eqb (action b).thread (action a).thread) = eqb_i (action b).thread (action a).thread (sym (eqb→eq (action a).thread (action b).thread e)) in
      search (and_i)

  place_kind_lem : T (well_formed X) → (a : ℕ) → a < n → T (not (fence n (book X) a)) → kind_at a < 3
  unfolding action_ok word
  place_kind_lem W a la nf =
      let x : Action = action a in
      let f : Parts X = parts X (T_true (well_formed X) W) in
      let ok : T (action_ok X.t X.p x) = true_T (f.action a la) in
      let at : T (place_ok X.p x) = search (and_l, and_r) in
      let placed : is_fence x ≡ false = T_false (is_fence x) (not_T (is_fence x) λ t. T_not (fence n (book X) a) nf (has_word 4 a (lt→ltb a n la) t)) in
      let low : x.place < X.p = ltb→lt x.place X.p (rw placed at at) in
      let byte : get_or X.places x.place 0 < 3 = ltb→lt (get_or X.places x.place 0) 3 (true_T (f.byte x.place low)) in
      subst (λ (k : ℕ). k < 3) (get_d_inside X.places x.place 0 3 (omega (arith, low, f.bytes))) byte

  -- what two actions of one place share
  pub its_places : Placing n (book X)
  its_places = placing X.n X.acts X.places given_rows

  pub wording : T (well_formed X) → Wording n (book X)
  unfolding word
  wording W =
      record {
        place_cases = λ a la nf.
            ⊎_elim
            (λ t. inl (has_word 13 a (lt→ltb a n la) t))
            (λ t. inr (⊎_elim (λ u. inl (has_word 14 a (lt→ltb a n la) u)) (λ u. inr (has_word 15 a (lt→ltb a n la) u)) t))
            (below_three (kind_at a) (place_kind_lem W a la nf));
        read_mutex = λ a p q. among_meet (kind a) (3 ∷ 5 ∷ 6 ∷ []) (1 ∷ 2 ∷ []) (its_word 0 a p) (mutex_kind a q);
        unlock_plain = λ a p q. among_meet (kind a) (2 ∷ []) (6 ∷ 7 ∷ []) (its_word 6 a p) (its_word 3 a q);
        atomic_mutex = λ a p q. among_meet (kind a) (3 ∷ 4 ∷ 5 ∷ []) (1 ∷ 2 ∷ []) (its_word 2 a p) (mutex_kind a q);
        atomic_plain = λ a p q. among_meet (kind a) (3 ∷ 4 ∷ 5 ∷ []) (6 ∷ 7 ∷ []) (its_word 2 a p) (its_word 3 a q);
        consume_atomic = λ a t.
            ⊎_elim
            (has_word 2 a (its_number 12 a t))
            (λ f. absurd (among_meet (kind a) (3 ∷ 5 ∷ 6 ∷ []) (8 ∷ []) (consume_read a t) f))
            (with_order (action a).what (2 ∷ []) tt (consume_order a t));
        consume_seq_cst = λ a p q. among_meet (order_in (action a).what) (2 ∷ []) (6 ∷ []) (consume_order a p) (its_word 8 a q);
        seq_cst_atomic = λ a nf t.
            ⊎_elim
            (has_word 2 a (its_number 8 a t))
            (λ f. absurd (T_not (fence n (book X) a) nf (has_word 4 a (its_number 8 a t) f)))
            (with_order (action a).what (6 ∷ []) tt (its_word 8 a t));
        seq_cst_sc = λ a t. has_word 9 a (its_number 8 a t) (let s = its_word 8 a t in search (or_l, or_r));
        mutex_sc_lem = λ a t. has_word 9 a (mutex_below a t) (sc_of a t);
        thread_sym = thread_turned;
      }
    where
      kind : ℕ → ℕ
      kind a = kind_number (action a).what

      consume_read : (a : ℕ) → T (consume n (book X) a) → T (kind_is (3 ∷ 5 ∷ 6 ∷ []) (action a))
      consume_read a t = and_l (kind_is (3 ∷ 5 ∷ 6 ∷ []) (action a)) (order_is (2 ∷ []) (action a)) (its_word 12 a t)

      consume_order : (a : ℕ) → T (consume n (book X) a) → T (order_is (2 ∷ []) (action a))
      consume_order a t = and_r (kind_is (3 ∷ 5 ∷ 6 ∷ []) (action a)) (order_is (2 ∷ []) (action a)) (its_word 12 a t)

      sc_of : (a : ℕ) → T (lock n (book X) a || unlock n (book X) a) → T (word 9 (action a) (kind_at a))
      sc_of a t =
          ⊎_elim
          (λ p. let q = its_word 5 a p in search (or_l, or_r))
          (λ p. let q = its_word 6 a p in search (or_l, or_r))
          (or_e (lock n (book X) a) (unlock n (book X) a) t)
