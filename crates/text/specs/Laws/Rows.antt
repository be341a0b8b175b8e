-- What loops over the edges of a text need: the members of a row, what is barred of it, and the rows that are stored.
use Prim.Native.Nat.{ℕ, zero, suc, ◌+◌, ◌<◌, zero-le}
use Rattle.std.specs.Prelude.{Bool, true, false, cond, not, ◌&&◌, List, [], ◌∷◌, ◌++◌, ◌≡◌, eqb, ltb, drop}
use Rattle.std.proofs.Math.Bool.{and-true, and-false}
use Rattle.std.proofs.Common.{append_assoc, sym, ap, ◌∙◌, le_refl}
use Rattle.std.proofs.Math.Logic.{⊎_elim}
use Rattle.std.proofs.Math.Path.{refl, fun_ext}
use native.Mathlib.Omega.{arith}
use borrow.Author.Tests.{lt-ltb, le-ltb, eq-eqb, ne_eqb}
use Rattle.rows.proofs.Laws.Loops.{collect_none, collect_more}
use Rattle.rows.specs.Laws.Sets.{before_ext}
use Rattle.rows.specs.Laws.Truth.{test, is_false, not_both, eq_or_ne, same_lt}
use Rattle.rows.specs.Numbers.{size}
use Rattle.rows.specs.Sets.{Set, Rel, none, before, either, when, single}
use Rattle.model.specs.declared.Action.{Action}
use Rattle.page.specs.Lines.{space, decimal, ending}
use Rattle.spelling.specs.Spelling.{relation_word, edge_line, stands}
use Rattle.spelling.proofs.Laws.Lengths.{edge_some}
use Rattle.spelling.specs.Laws.Stands.{starts_first}
use Rattle.text.specs.Parts.{same_thread, bars_of}
use Rattle.text.specs.Texts.{along, edge_next, edge_step, row_step, row_taken, rows_step, relation_step, edge_taken}
use Rattle.text.specs.Laws.Barring.{members_ext, member_ext}
use Rattle.text.specs.Laws.Walks.{along_none, along_more}

-- ---- the members of a row, collected one after another

-- t says whether m is one more
pub row_more : (f old : Set) (m : ℕ) (t : Bool) → m < size → t ≡ f m → old ≡ before f m → either old (when t (when (ltb m size) (single m))) ≡ before f (m + 1)
row_more f old m t h is e = rw (is, lt-ltb m size h, e) (collect_more f m)

-- the place moves exactly if the edge is taken
edge_moves : (s : List ℕ) (bar : Set) (k a b q : ℕ) → ltb q (edge_step s bar k a b q) ≡ edge_next s bar k a b q
unfolding edge_step
edge_moves s bar k a b q = ⊎_elim
    (λ (e : edge_next s bar k a b q ≡ true). rw e (lt-ltb q _ (omega (arith, edge_some k a b))))
    (λ (e : edge_next s bar k a b q ≡ false). rw e (le-ltb q q (le_refl q)))
    (test (edge_next s bar k a b q))

-- the row has those taken below b, and the next one is looked for at q
pub record Taking (s : List ℕ) (bar : Set) (k a at b q : ℕ) (row : Set) : Type 0 where
  pub next : q ≡ along (edge_step s bar k a) at b
  pub is : row ≡ before (row_taken s bar k a at) b

module _ {s : List ℕ} {bar : Set} {k a at : ℕ} where
  pub take_start : {row : Set} → row ≡ none → Taking s bar k a at 0 at row
  take_start e = record { next = along_none _ at; is = e ∙ collect_none (row_taken s bar k a at) }

  pub take_go : {b q z : ℕ} {old new : Set} → Taking s bar k a at b q old → b < size → z ≡ edge_step s bar k a b q → new ≡ either old (when (ltb q z) (when (ltb b size) (single b))) → Taking s bar k a at (b + 1) z new
  take_go {b} {q} {z} {old} l h e put =
      record {
        next = e ∙ along_more (edge_step s bar k a) at b q l.next;
        is = put ∙ row_more (row_taken s bar k a at) old b (ltb q z) h (ap (ltb q) e ∙ edge_moves s bar k a b q ∙ ap (edge_next s bar k a b) l.next) l.is;
      }

-- ---- a row that doesn't begin at q

edge_lead : (k a b : ℕ) → edge_line k a b ≡ (relation_word k ++ (space ∷ decimal a)) ++ ending (b ∷ [])
unfolding edge_line ending
edge_lead k a b = sym (append_assoc (relation_word k) (space ∷ decimal a) (ending (b ∷ [])))

module _ (s : List ℕ) (bar : Set) (k a q : ℕ) (no : stands s q (relation_word k ++ (space ∷ decimal a)) ≡ false) where
  -- no line of an edge from a stands there
  no_edge : (b : ℕ) → stands s q (edge_line k a b) ≡ false
  no_edge b = is_false _ (λ e. not_both (starts_first (relation_word k ++ (space ∷ decimal a)) (ending (b ∷ [])) (drop q s) (rw (edge_lead k a b) at e)) no)

  -- so its place stays
  pub no_row_stays : (n : ℕ) → q ≡ row_step s n bar k a q
  unfolding along edge_step
  no_row_stays zero = refl
  no_row_stays (suc n) = rw (sym (no_row_stays n), no_edge n, and-false (not (bar n)))

  -- and it has no members
  pub no_row_members : (n : ℕ) → none ≡ before (row_taken s bar k a q) n
  no_row_members n = fun_ext λ b. sym (rw (sym (no_row_stays b), no_edge b, and-false (not (bar b))))

-- ---- what is barred

pub bars_one : (list : List Action) (k a : ℕ) → k ≡ 1 → same_thread list a ≡ bars_of list k a
bars_one list k a e = fun_ext λ b. sym (rw (eq-eqb k 1 e))

pub bars_none : (list : List Action) (k a n : ℕ) → (k ≡ 1 → ⊥) → none ≡ before (bars_of list k a) n
bars_none list k a n e = fun_ext λ b. sym (rw (ne_eqb k 1 e))

-- ---- rows stored one after another

-- the members of row a of relation k, which begins at q
abbrev taken : List ℕ → ℕ → (ℕ → Rel) → ℕ → ℕ → Rel
taken s n bars k q a = before (row_taken s (bars k a) k a (rows_step s n bars k q a)) n

-- of relation k the rows below a are stored, and the next one stands at q
pub record Storing (s : List ℕ) (n : ℕ) (bars : ℕ → Rel) (k at : ℕ) (start : ℕ → Rel) (a q : ℕ) (now : ℕ → Rel) : Type 0 where
  pub next : q ≡ rows_step s n bars k at a
  pub rows : (j x : ℕ) → now j x ≡ cond (eqb j k && ltb x a) (taken s n bars k at x) (start j x)

-- the relations below k are stored, and the next one stands at q
pub record Filling (s : List ℕ) (n : ℕ) (bars : ℕ → Rel) (at : ℕ) (start : ℕ → Rel) (k q : ℕ) (now : ℕ → Rel) : Type 0 where
  pub next : q ≡ along (relation_step s n bars) at k
  pub rows : (j x : ℕ) → now j x ≡ cond (ltb j k && ltb x n) (before (edge_taken s n bars at j x) n) (start j x)

module _ {s : List ℕ} {n : ℕ} {bars : ℕ → Rel} {k at : ℕ} {start : ℕ → Rel} where
  pub store_start : Storing s n bars k at start 0 at start
  store_start = record { next = along_none _ at; rows = λ j x. rw (le-ltb x 0 zero-le, and-false (eqb j k)) }

  pub store_go : {a q z : ℕ} {old new : ℕ → Rel} {bar row : Set} → Storing s n bars k at start a q old → bar ≡ before (bars k a) n → (z ≡ row_step s n bar k a q) × (row ≡ before (row_taken s bar k a q) n)
      → ((j x : ℕ) → new j x ≡ cond (eqb j k && eqb x a) row (old j x)) → Storing s n bars k at start (a + 1) z new
  store_go {a} {q} {bar = bar} {row = row} l e read put =
      let same : (b : ℕ) → b < n → bar b ≡ bars k a b = λ b m. rw (e, lt-ltb b n m) (and-true (bars k a b)) in
      let this : row ≡ taken s n bars k at a = read.1 ∙ rw (before_ext n _ _ (member_ext s n k a bar (bars k a) same q), l.next) in
      record {
        next = read.0 ∙ members_ext s n k a bar (bars k a) same q n (le_refl n) ∙ along_more (λ x. row_step s n (bars k x) k x) at a q l.next;
        rows = λ j x. put j x ∙ ⊎_elim
            (λ (e : x ≡ a). let m : a < a + 1 = omega arith in rw (l.rows j x, this, e, eq-eqb a a refl, lt-ltb a (a + 1) m, le-ltb a a (le_refl a), and-false (eqb j k)))
            (λ (ne : x ≡ a → ⊥). rw (ne_eqb x a ne, and-false (eqb j k), ← same_lt x a x (a + 1) (λ m. omega arith) (λ m. omega arith)) (l.rows j x))
            (eq_or_ne x a);
      }

module _ {s : List ℕ} {n : ℕ} {bars : ℕ → Rel} {at : ℕ} {start : ℕ → Rel} where
  pub fill_start : Filling s n bars at start 0 at start
  fill_start = record { next = along_none _ at; rows = λ j x. rw (le-ltb j 0 zero-le) }

  pub fill_go : {k q z : ℕ} {old new : ℕ → Rel} → Filling s n bars at start k q old → z ≡ relation_step s n bars k q → ((j x : ℕ) → new j x ≡ cond (eqb j k && ltb x n) (taken s n bars k q x) (old j x))
      → Filling s n bars at start (k + 1) z new
  unfolding edge_taken
  fill_go {k} {q} l e put =
      record {
        next = e ∙ along_more (relation_step s n bars) at k q l.next;
        rows = λ j x. put j x ∙ ⊎_elim
            (λ (e : j ≡ k). let m : k < k + 1 = omega arith in rw (l.rows j x, e, eq-eqb k k refl, lt-ltb k (k + 1) m, le-ltb k k (le_refl k), l.next))
            (λ (ne : j ≡ k → ⊥). rw (ne_eqb j k ne, ← same_lt j k j (k + 1) (λ m. omega arith) (λ m. omega arith)) (l.rows j x))
            (eq_or_ne j k);
      }
