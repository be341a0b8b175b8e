-- The report of the judge's answer to a candidate is at most longestReport bytes long.
use Rattle.std.specs.Prelude.{ℕ, zero, suc, ◌<◌, ◌≤◌, Bool, true, false, not, ◌&&◌, ◌||◌, cond, [], ◌∷◌, ◌≡◌, refl, eqb, ltb, length, get_or}
use Rattle.std.proofs.Common.{zero-le, arith, ltb-true}
use Rattle.std.proofs.lemmas.Bool.{not-true}
use Rattle.rows.specs.Sets.{Set, Rel, without, within}
use Rattle.rows.specs.Laws.Truth.{and_1, and_2, not_both}
use Rattle.model.specs.Limits.{most_actions}
use Rattle.model.specs.Candidates.{Candidate}
use Rattle.model.specs.Judge.{book, indeterminate, due, judged_of, order_of, next, greedy, precedes}
use Rattle.model.proofs.Laws.Verdicts.{broken_first, given_due}
use Rattle.model.specs.Model.{Book, entered, derived, data_races, unsequenced_races, same_thread, same_place, plain, atomic, write, Sb, Hb}
use Rattle.model.specs.Words.{book_of}
use Rattle.report.proofs.Laws.Lengths.{Answer, report_length}
use Rattle.report.specs.Report.{report_of, longest_report}

-- the order's numbers are actions, and there are no more than actions
greedy_length : (n : ℕ) (r : Rel) (k : ℕ) (left : Set) → length (greedy n r k left) ≤ k
unfolding greedy
greedy_length n r zero left = zero-le
greedy_length n r (suc k) left = go (ltb (next n r left) n) (greedy_length n r k (without left (next n r left)))
  where
    go : (t : Bool) → length (greedy n r k (without left (next n r left))) ≤ k → length (cond t (next n r left ∷ greedy n r k (without left (next n r left))) []) ≤ suc k
    go true h = omega arith
    go false h = zero-le

greedy_below : (m n : ℕ) (r : Rel) (k : ℕ) (left : Set) → n ≤ m → 0 < m → (i : ℕ) → get_or (greedy n r k left) i 0 < m
unfolding greedy
greedy_below m n r zero left h z i = z
greedy_below m n r (suc k) left h z i = go (ltb (next n r left) n) refl i (greedy_below m n r k (without left (next n r left)) h z)
  where
    go : (t : Bool) → ltb (next n r left) n ≡ t → (i : ℕ) → ((i : ℕ) → get_or (greedy n r k (without left (next n r left))) i 0 < m) → get_or (cond t (next n r left ∷ greedy n r k (without left (next n r left))) []) i 0 < m
    go true e zero f = omega (arith, ltb-true (next n r left) n e)
    go true e (suc i) f = f i
    go false e i f = z

-- unsequenced races are in one thread,
one_thread_lem : (n : ℕ) (ρ : Book) (a b : ℕ) → unsequenced_races n ρ a b ≡ true → same_thread n ρ a b ≡ true
unfolding unsequenced_races
one_thread_lem n ρ a b h =
    fourth (not (eqb b a) && plain n ρ a && plain n ρ b) (same_thread n ρ a b) (same_place n ρ a b) (write n ρ a || write n ρ b) (not (Sb n ρ a b)) (not (Sb n ρ b a)) h
  where
    fourth : (x s p w u v : Bool) → (x && s && p && w && u && v) ≡ true → s ≡ true
    fourth x s p w u v h = and_2 x s (and_1 (x && s) p (and_1 (x && s && p) w (and_1 (x && s && p && w) u (and_1 (x && s && p && w && u) v h))))

-- data races in two
two_threads : (n : ℕ) (ρ : Book) (a b : ℕ) → data_races n ρ a b ≡ true → same_thread n ρ a b ≡ false
unfolding data_races
two_threads n ρ a b h =
    not-true (same_thread n ρ a b) (first (not (same_thread n ρ a b)) (same_place n ρ a b) (write n ρ a || write n ρ b) (not (atomic n ρ a && atomic n ρ b)) (not (Hb n ρ a b)) (not (Hb n ρ b a)) h)
  where
    first : (s p w t u v : Bool) → (s && p && w && t && u && v) ≡ true → s ≡ true
    first s p w t u v h = and_1 s p (and_1 (s && p) w (and_1 (s && p && w) t (and_1 (s && p && w && t) u (and_1 (s && p && w && t && u) v h))))

inside : (n : ℕ) (r : Rel) (a b : ℕ) → within n r a b ≡ true → r a b ≡ true
inside n r a b h = and_2 (ltb a n) (r a b) (and_1 (ltb a n && r a b) (ltb b n) h)

never_both : (X : Candidate) (a b : ℕ) → book X 17 a b ≡ true → book X 16 a b ≡ true → ⊥
unfolding entered derived
never_both X a b u d =
    let n = X.n in
    let ρ = book_of X in
    not_both
    (one_thread_lem n (entered n ρ 10) a b (inside n (unsequenced_races n (entered n ρ 10)) a b u))
    (two_threads n (entered n ρ 9) a b (inside n (data_races n (entered n ρ 9)) a b d))

pub candidate_answer : (X : Candidate) → X.n ≤ most_actions → Answer X.n (judged_of X) (indeterminate X.n (book X)) (book X 17) (book X 16) (order_of X)
unfolding judged_of order_of
candidate_answer X h = record {
  actions = h;
  broken = λ k a b m e. let f = broken_first X.edition X.n (book X) k a b m e in (omega (arith, f.rule_lt), omega (arith, f.pair.row_lt), omega (arith, f.pair.column_lt), λ z q. omega (arith, (f.middle.first z q).0));
  reads = refl;
  sequences = refl;
  data_races_lem = refl;
  apart = λ a b l lb u d. never_both X a b u d;
  numbers = λ e. rw (given_due (due X.edition X.n (book X)) e) (omega (arith, greedy_length X.n (precedes X.n (book X)) X.n (λ a. ltb a X.n)), greedy_below 1000 X.n (precedes X.n (book X)) X.n (λ a. ltb a X.n) (omega arith) (omega arith));
}

pub candidate_length : (X : Candidate) → X.n ≤ most_actions → length (report_of X) ≤ longest_report
unfolding report_of
candidate_length X h = report_length (candidate_answer X h)
