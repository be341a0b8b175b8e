-- The candidate that a machine is drawn as: its relations row by row, a store that gets them one after another, and its actions and place bytes.
use Rattle.model.specs.declared.refusals.Reason.TheVariants.{ShortBuffer}
use Rattle.std.specs.Prelude.{ℕ, ◌+◌, ◌*◌, ◌-◌, ◌<◌, ◌≤◌, ◌&&◌, cond, List, [], ◌≡◌, eqb, ltb, length, take, drop, replicate}
use Rattle.std.proofs.Common.{⊎_elim, sym, ap, ◌∙◌, arith, ext_get_or, get_or-take, length-take-le, eq-eqb, ne_eqb, lt-ltb, le-ltb, le-leb, zero-le}
use Rattle.std.proofs.Math.Bool.{and-true, and_comm, and_assoc}
use Rattle.std.proofs.Math.Path.{refl, fun_ext}
use Rattle.std.proofs.Math.ListN.{get_or, get_or-append, get_or-eq_default}
use Rattle.std.proofs.lemmas.List.{get_or-replicate}
use borrow.Rule.Slice.PartMut.{put_mid, same_len_mid, mid_len, drop_put}
use Rattle.rows.specs.Sets.{Set, Rel, any, none, never, before, after, when}
use Rattle.rows.specs.Numbers.{bit, number, listed, rel, rows_of, size, area, held}
use Rattle.rows.proofs.Laws.Bits.{bit_zero, number_bits}
use Rattle.rows.specs.Laws.Lists.{listed_length, listed_at, listed_same}
use Rattle.rows.proofs.Laws.Loops.{fill_done, below_none, fill_more}
use Rattle.rows.proofs.Laws.Parts.{held_same}
use Rattle.rows.proofs.Laws.Quantifiers.{any_ext, any_before}
use Rattle.rows.specs.Laws.Truth.{Conj, eqb_sym, eq_or_ne, same_lt}
use Rattle.model.specs.Limits.{most_places, given_relations, given_length, store_length}
use Rattle.model.specs.Actions.{no_action}
use Rattle.model.specs.Candidates.{given}
use Rattle.model.specs.Refusals.{Passed, Refused}
use Rattle.machine.specs.declared.Machine.{Machine}
use Rattle.machine.specs.Machine.{State, thread_at, sb_of, asw_of, rf_of, mo_of, last_of_zero, first_of_other, candidate}
use Rattle.machine.specs.Code.{state_of, Fit, Lists, Draws}

-- ---- the rows that the code makes

-- whether f has a member below b
pub any_earlier : (f : Set) (b n m : ℕ) → b ≤ n → n ≤ m → any m (before f b) ≡ any n (λ c. ltb c b && f c)
any_earlier f b n m h l =
    any_before b m f (omega arith) ∙ sym (any_ext n (λ c. ltb c b && f c) (before f b) (λ c i. and_comm (ltb c b) (f c)) ∙ any_before b n f h)

-- whether f has one after a
after_before : (f : Set) (a n : ℕ) → after (before f n) a ≡ before (λ c. ltb a c && f c) n
after_before f a n = fun_ext λ c. simp Conj

pub any_later : (f : Set) (a n m : ℕ) → n ≤ m → any m (after (before f n) a) ≡ any n (λ c. ltb a c && f c)
any_later f a n m l = ap (any m) (after_before f a n) ∙ any_before n m (λ c. ltb a c && f c) l

-- whether a, which is below n, is a member
pub before_at : (s f : Set) (n a : ℕ) → s ≡ before f n → a < n → s a ≡ f a
before_at s f n a e l = rw (e, lt-ltb a n l) (and-true (f a))

-- a row of sb is those of a's thread after a
pub sb_after : (σ : State) (a : ℕ) → after (before (λ b. eqb (thread_at σ b) (thread_at σ a)) σ.n) a ≡ before (sb_of σ a) σ.n
sb_after σ a = fun_ext λ b. rw (eqb_sym (thread_at σ b) (thread_at σ a)) (simp Conj)

-- ---- the rows of the candidate's relations

-- row a of n rows
rows_at : (n : ℕ) (r : Rel) (a : ℕ) → a < n → before (r a) n ≡ rel (rows_of n r) a
rows_at n r a l = sym (ap bit (listed_at (λ a. number n (r a)) n a 0 l) ∙ number_bits n (r a))

-- there is none from n on
rows_past : (n : ℕ) (r : Rel) (a : ℕ) → n ≤ a → none ≡ rel (rows_of n r) a
rows_past n r a l = sym (ap bit (get_or-eq_default (rows_of n r) 0 (rw (listed_length (λ a. number n (r a)) n) l)) ∙ fun_ext bit_zero)

-- relation k of the candidate of a state
abbrev pub drawn : State → ℕ → Rel
drawn σ k = rel (get_or (given (candidate σ)) k [])

module _ (σ : State) where
  -- what it has the rows of
  abbrev pub edges : ℕ → Rel
  edges k = cond (eqb k 0) (sb_of σ) (cond (eqb k 1) (asw_of σ) (cond (eqb k 4) (rf_of σ) (cond (eqb k 6) (mo_of σ) never)))

  given_at : (k : ℕ) → k < given_relations → get_or (given (candidate σ)) k [] ≡ rows_of σ.n (edges k)
  unfolding candidate listed
  given_at k l = listed_same given_relations (λ k. get_or (given (candidate σ)) k []) (λ k. rows_of σ.n (edges k)) refl k l

  -- its row a below n, and from n on
  pub row_at : (k a : ℕ) → k < given_relations → a < σ.n → before (edges k a) σ.n ≡ drawn σ k a
  row_at k a l h = rows_at σ.n (edges k) a h ∙ ap (λ (rows : List ℕ). rel rows a) (sym (given_at k l))

  pub row_past : (k a : ℕ) → k < given_relations → σ.n ≤ a → none ≡ drawn σ k a
  row_past k a l h = rows_past σ.n (edges k) a h ∙ ap (λ (rows : List ℕ). rel rows a) (sym (given_at k l))

  -- dd, cd and sc have no edges
  pub edges_none : (k : ℕ) → (k ≡ 0 → ⊥) → (k ≡ 1 → ⊥) → (k ≡ 4 → ⊥) → (k ≡ 6 → ⊥) → never ≡ edges k
  edges_none k sb asw rf mo = rw (ne_eqb k 0 sb, ne_eqb k 1 asw, ne_eqb k 4 rf, ne_eqb k 6 mo)

  -- a row of asw is all first actions, or none
  pub asw_firsts : (a : ℕ) → when (last_of_zero σ a) (before (first_of_other σ) σ.n) ≡ before (asw_of σ a) σ.n
  asw_firsts a = fun_ext λ b. sym (and_assoc (last_of_zero σ a) (first_of_other σ b) (ltb b σ.n))

-- ---- a store that gets them one after another

-- of relation k the rows below a are put
pub record Putting (σ : State) (k : ℕ) (start : ℕ → Rel) (a : ℕ) (now : ℕ → Rel) : Type 0 where
  pub rows : (x : ℕ) → x < a → now k x ≡ drawn σ k x
  pub others : (j : ℕ) → (j ≡ k → ⊥) → now j ≡ start j

module _ {σ : State} {k : ℕ} {start : ℕ → Rel} where
  pub put_start : Putting σ k start 0 start
  put_start = record { rows = below_none _; others = λ j ne. refl }

  pub put_go : {a : ℕ} {row : Set} {old new : ℕ → Rel} → Putting σ k start a old → row ≡ drawn σ k a → ((j x : ℕ) → new j x ≡ cond (eqb j k && eqb x a) row (old j x)) → Putting σ k start (a + 1) new
  put_go {a} {row} {old} {new} l e put =
      record {
        rows = fill_more (drawn σ k) (old k) (new k) a row (λ x. put k x ∙ rw (eq-eqb k k refl)) e l.rows;
        others = λ j ne. fun_ext (λ x. put j x ∙ rw (ne_eqb j k ne)) ∙ l.others j ne;
      }

  pub put_done : {now : ℕ → Rel} → k < given_relations → σ.n ≤ size → Putting σ k start size now → ((x : ℕ) → size ≤ x → now k x ≡ none) → (j : ℕ) → now j ≡ cond (eqb j k) (drawn σ j) (start j)
  put_done {now} l few p out j = ⊎_elim
      (λ (e : j ≡ k). rw (e, eq-eqb k k refl) (fill_done size (now k) (drawn σ k) out (λ x h. sym (row_past σ k x l (omega arith))) p.rows))
      (λ (ne : j ≡ k → ⊥). rw (ne_eqb j k ne) (p.others j ne))
      (eq_or_ne j k)

-- the relations below k are put
pub record Drawing (σ : State) (start : ℕ → Rel) (k : ℕ) (now : ℕ → Rel) : Type 0 where
  pub parts : (j : ℕ) → now j ≡ cond (ltb j k) (drawn σ j) (start j)

-- ---- the whole store

module _ {σ : State} {start : ℕ → Rel} where
  pub draw_start : Drawing σ start 0 start
  draw_start = record { parts = λ j. rw (le-ltb j 0 zero-le) }

  pub draw_go : {k : ℕ} {old new : ℕ → Rel} → Drawing σ start k old → ((j : ℕ) → new j ≡ cond (eqb j k) (drawn σ j) (old j)) → Drawing σ start (k + 1) new
  draw_go {k} l put =
      record {
        parts = λ j. put j ∙ ⊎_elim
            (λ (e : j ≡ k). let m : k < k + 1 = omega arith in rw (e, eq-eqb k k refl, lt-ltb k (k + 1) m))
            (λ (ne : j ≡ k → ⊥). rw (ne_eqb j k ne, ← same_lt j k j (k + 1) (λ m. omega arith) (λ m. omega arith)) (l.parts j))
            (eq_or_ne j k);
      }

-- ---- the whole store

-- with no room all of it stays
pub draws_short : (σ : State) (s : List ℕ) → length s < store_length → Draws σ s (Refused ShortBuffer 0) s
draws_short σ s l = record { answer = rw (lt-ltb (length s) store_length l); kept = λ h. refl; size = refl; beyond = refl; relations = λ h. absurd (omega arith) }

-- else its front is lent and comes back with the relations
pub draws_front : (σ : State) (s ys : List ℕ) → store_length ≤ length s → length ys ≡ given_length
    → ((k : ℕ) → held ys k ≡ cond (ltb k given_relations) (drawn σ k) (held (take given_length s) k)) → Draws σ s Passed (put_mid 0 (given_length - 0) s ys)
draws_front σ s ys room long put =
    let back : length (put_mid 0 (given_length - 0) s ys) ≡ length s = same_len_mid 0 (given_length - 0) s ys (long ∙ sym (mid_len 0 given_length s (omega arith))) in
    record {
      answer = rw (le-ltb (length s) store_length room);
      kept = λ h. absurd (omega arith);
      size = back;
      beyond = drop_put 0 given_length s ys (omega arith) (omega arith) long;
      relations = λ h k l.
          held_same (put_mid 0 (given_length - 0) s ys) ys k k
          (le-leb (area * k + area) (length (put_mid 0 (given_length - 0) s ys)) (omega arith) ∙ sym (le-leb (area * k + area) (length ys) (omega arith)))
          (λ m lm. get_or-append ys (drop given_length s) 0 (area * k + m) (omega arith))
          ∙ put k ∙ rw (lt-ltb k given_relations l);
    }

-- ---- actions and place bytes in front of arrays

-- the first n elements of a longer list
take_listed : {A : Type 0} (l : List A) (d : A) (n : ℕ) (f : ℕ → A) → n ≤ length l → ((i : ℕ) → i < n → get_or l i d ≡ f i) → take n l ≡ listed n f
take_listed l d n f h same =
    ext_get_or d (take n l) (listed n f) (length-take-le n l h ∙ sym (listed_length f n))
    (λ i b. let c : i < n = rw (length-take-le n l h) at b in get_or-take n l i d c ∙ same i c ∙ sym (listed_at f n i d c))

-- what the arrays of a machine have in front is its candidate's
pub lists_front : (m : Machine) → Fit m → Lists (state_of m) (record { acts = m.acts; places = replicate most_places 2; head = record { edition = 2; n = m.n; t = m.t; p = m.p } })
unfolding state_of candidate
lists_front m f =
    record {
      actions = f.actions;
      bytes = refl;
      acts = take_listed m.acts no_action m.n (λ a. get_or m.acts a no_action) (omega (arith, f.few, f.actions)) (λ i l. refl);
      places = take_listed (replicate most_places 2) 0 m.p (λ i. 2) f.narrow (λ i l. get_or-replicate most_places i 2 0 (omega (arith, f.narrow)));
      edition = refl;
      n = refl;
      t = refl;
      p = refl;
    }
