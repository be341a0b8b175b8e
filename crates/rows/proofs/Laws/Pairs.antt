-- The least pair of a relation below n, and how many pairs a<b there are.
use Rattle.std.specs.Prelude.{ℕ, zero, suc, ◌+◌, map, refl, ◌*◌, ◌<◌, ◌≤◌, true, false, ◌&&◌, ◌≡◌, ltb}
use Rattle.std.proofs.Math.Bool.{and_comm}
use Rattle.std.proofs.Common.{⊎_elim, ap, sym, add-one, zero-add, ◌∙◌, arith, lt-ltb, le-ltb}
use Rattle.rows.proofs.Laws.Quantifiers.{any_in, any_none, any_no, least_is, least_any, least_hit, count_none, count_no, count_le, count_ext, count_before, sum_zero, sum_no, sum_le}
use Rattle.rows.specs.Laws.Truth.{lt_or_le}
use Rattle.rows.specs.Sets.{Set, Rel, any, least, count, sum, any_pair, least_row, least_column, pairs, before, after}
use Rattle.rows.specs.Laws.Pairs.{LeastPair}
use Rattle.std.specs.List.{range_with_len, sum_by}
use Rattle.std.proofs.lemmas.List.FromFn.{sum_by-map-range_with_len_more}

-- no pair is found: there is none
pub no_pair : (n : ℕ) (r : Rel) → any_pair n r ≡ false → (a b : ℕ) → a < n → b < n → r a b ≡ false
no_pair n r e a b la lb = any_no n (r a) (any_no n (λ x. any n (r x)) e a la) b lb

pub pair_none : (n : ℕ) (r : Rel) → ((a b : ℕ) → a < n → b < n → r a b ≡ false) → any_pair n r ≡ false
pair_none n r h = any_none n (λ x. any n (r x)) (λ a la. any_none n (r a) (λ b lb. h a b la lb))

pub pair_in : (n : ℕ) (r : Rel) (a b : ℕ) → a < n → b < n → r a b ≡ true → any_pair n r ≡ true
pair_in n r a b la lb e = any_in n (λ x. any n (r x)) a la (any_in n (r a) b lb e)

-- a pair is found: it is the least
pub least_pair : (n : ℕ) (r : Rel) → any_pair n r ≡ true → LeastPair n r (least_row n r) (least_column n r)
least_pair n r e =
    let a = least_row n r in
    let row = least_is n (λ x. any n (r x)) in
    let la : a < n = least_any n (λ x. any n (r x)) e in
    let column = least_is n (r a) in
    let lb : least_column n r < n = least_any n (r a) (row.hit la) in
    record {
      row_lt = la;
      column_lt = lb;
      hit = column.hit lb;
      rows = λ x y lx ly. any_no n (r x) (row.miss x lx) y ly;
      columns = column.miss;
    }

-- what is like the least pair is the least pair
pub least_pair_is : (n : ℕ) (r : Rel) (a b : ℕ) → LeastPair n r a b → (least_row n r ≡ a) × (least_column n r ≡ b)
least_pair_is n r a b p =
    let e : least_row n r ≡ a = least_hit n (λ x. any n (r x)) a p.row_lt (any_in n (r a) b p.column_lt p.hit) (λ x l. any_none n (r x) (λ y ly. p.rows x y l ly)) in
    (e, ap (λ (x : ℕ). least n (r x)) e ∙ least_hit n (r a) b p.column_lt p.hit p.columns)

-- ---- counts

-- one row's pairs, as the members after a and before n
pub row_pairs_lem : (m n a : ℕ) (s : Set) → n ≤ m → count m (before (after s a) n) ≡ count n (λ b. ltb a b && s b)
row_pairs_lem m n a s l = count_before n m (after s a) l ∙ count_ext n (after s a) (λ b. ltb a b && s b) (λ b h. and_comm (s b) (ltb a b))

-- they fit into a machine's number
pub pairs_small : (m n k : ℕ) (r : Rel) → n ≤ m → sum k (λ a. count n (λ b. ltb a b && r a b)) ≤ m * k
pairs_small m n k r l = sum_le k m (λ a. count n (λ b. ltb a b && r a b)) (λ a h. omega (arith, count_le n (λ b. ltb a b && r a b)))

pub pairs_none : (n : ℕ) (r : Rel) → ((a b : ℕ) → a < b → b < n → r a b ≡ false) → pairs n r ≡ 0
pairs_none n r h = sum_zero n (λ a. count n (λ b. ltb a b && r a b)) (λ a la. count_none n (λ b. ltb a b && r a b) (λ b lb.
    ⊎_elim (λ (l : a < b). rw (lt-ltb a b l) (h a b l lb)) (λ (l : b ≤ a). rw (le-ltb a b l)) (lt_or_le a b)))

pub no_pairs : (n : ℕ) (r : Rel) → pairs n r ≡ 0 → (a b : ℕ) → a < b → b < n → r a b ≡ false
no_pairs n r e a b l lb =
    let la : a < n = omega arith in
    rw (lt-ltb a b l) at (count_no n (λ b. ltb a b && r a b) (sum_no n (λ a. count n (λ b. ltb a b && r a b)) e a la) b lb)

-- a sum over the list of the numbers below n
pub sum_listed : (n : ℕ) (h : ℕ → ℕ) → sum_by (λ x. x) (map h (range_with_len 0 n)) ≡ sum n h
unfolding sum
sum_listed zero h = refl
sum_listed (suc n) h =
    ap (λ (k : ℕ). sum_by (λ x. x) (map h (range_with_len 0 k))) (sym (add-one n)) ∙ sum_by-map-range_with_len_more (λ x. x) h 0 n n (zero-add n) ∙ ap (λ (k : ℕ). k + h n) (sum_listed n h)
