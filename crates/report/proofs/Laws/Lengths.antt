-- How long a report can be.
use Rattle.std.specs.Prelude.{ℕ, zero, suc, ◌+◌, ◌*◌, ◌^◌, ◌<◌, ◌≤◌, Bool, true, false, ◌&&◌, cond, List, [], ◌∷◌, ◌≡◌, refl, ltb, leb, length, get_or, Option, Some, None}
use Rattle.std.proofs.Common.{zero-le, append-nil, ap, le_refl, le_trans, mul-add, add-le-add, arith, length-append, ltb-true, leb-true, leb-false}
use Rattle.rows.specs.Sets.{Set, Rel, count, sum, pairs}
use Rattle.rows.specs.Numbers.{joined}
use Rattle.rows.proofs.Laws.Quantifiers.{count_le}
use Rattle.page.specs.Lines.{ascii, decimal, ending, line, lines, members}
use Rattle.page.specs.Page.{Offered}
use Rattle.page.specs.Laws.Lengths.{decimal_length, ending_more, sum_up}
use Rattle.page.specs.Laws.Members.{lines_append, lines_map}
use Rattle.model.specs.Limits.{most_actions}
use Rattle.model.specs.declared.Judged.{Judged}
use Rattle.model.specs.declared.OrderPart.{OrderPart}
use Rattle.model.specs.declared.OrderPart.TheVariants.{Given, Refused}
use Rattle.model.specs.declared.Verdict.{Verdict}
use Rattle.model.specs.declared.Verdict.TheVariants.{Passed, Broken}
use Rattle.report.specs.Report.{pair, row_pairs, pair_line, pair_lines, middle_numbers, verdict_line, order_line, judged_text, refused_text, most_pairs, longest_report, Roomy}

-- ---- numbers

-- a number of an action
abbrev Three : ℕ → Type 0
Three n = n < 1000

three : (n : ℕ) → Three n → length (decimal n) ≤ 3
three n h = decimal_length 2 n h

-- ---- endings

ending_one : (a : ℕ) → Three a → length (ending (a ∷ [])) ≤ 5
unfolding ending
ending_one a h = omega (arith, ending_more 3 a [] (three a h))

ending_two : (a b : ℕ) → Three a → Three b → length (ending (a ∷ b ∷ [])) ≤ 9
ending_two a b h i = omega (arith, ending_more 3 a (b ∷ []) (three a h), ending_one b i)

-- every number has at most three digits
ending_all : (ns : List ℕ) → ((i : ℕ) → Three (get_or ns i 0)) → length (ending ns) ≤ 4 * length ns + 1
unfolding ending
ending_all [] h = omega arith
ending_all (n ∷ ns) h = omega (arith, ending_more 3 n ns (three n (h 0)), ending_all ns (λ i. h (suc i)))

-- ---- a line for each

joined_lines : {A : Type 0} (m n : ℕ) (f : A → List ℕ) (g : ℕ → List A) (w : ℕ → ℕ) → ((c : ℕ) → c < n → length (lines f (g c)) ≤ m * w c) → length (lines f (joined n g)) ≤ m * sum n w
unfolding joined sum lines
joined_lines m zero f g w h = zero-le
joined_lines m (suc n) f g w h =
    rw (lines_append f (joined n g) (g n), length-append (lines f (joined n g)) (lines f (g n)), mul-add m (sum n w) (w n))
    (add-le-add (joined_lines m n f g w (λ c l. h c (omega arith))) (h n (le_refl (suc n))))

count_sum : (n : ℕ) (s : Set) → count n s ≡ sum n (λ c. cond (s c) 1 0)
unfolding count sum
count_sum zero s = refl
count_sum (suc n) s = ap (λ (k : ℕ). k + cond (s n) 1 0) (count_sum n s)

member_lines : (m n : ℕ) (f : ℕ → List ℕ) (s : Set) → ((c : ℕ) → c < n → length (f c) ≤ m) → length (lines f (members n s)) ≤ m * count n s
unfolding lines
member_lines m n f s h = rw (count_sum n s) (joined_lines m n f (λ b. cond (s b) (b ∷ []) []) (λ c. cond (s c) 1 0) (λ c l. each c (s c) (h c l)))
  where
    each : (c : ℕ) (t : Bool) → length (f c) ≤ m → length (lines f (cond t (c ∷ []) [])) ≤ m * cond t 1 0
    each c true h = rw (append-nil (f c)) (omega arith)
    each c false h = zero-le

pair_lines_lem : (m n : ℕ) (word : List ℕ) (r : Rel) → ((a b : ℕ) → a < n → b < n → length (line word (a ∷ b ∷ [])) ≤ m) → length (pair_lines word n r) ≤ m * pairs n r
pair_lines_lem m n word r h =
    joined_lines m n (pair_line word) (row_pairs n r) (λ a. count n λ b. ltb a b && r a b)
    (λ a la. rw (lines_map (pair_line word) (pair a) (members n λ b. ltb a b && r a b)) (member_lines m n (λ b. line word (a ∷ b ∷ [])) (λ b. ltb a b && r a b) (λ b lb. h a b la lb)))

-- ---- how many pairs two relations have that share none

sum_both : (n : ℕ) (f g h : ℕ → ℕ) → ((c : ℕ) → c < n → f c + g c ≤ h c) → sum n f + sum n g ≤ sum n h
unfolding sum
sum_both zero f g h l = omega arith
sum_both (suc n) f g h l = omega (arith, sum_both n f g h (λ c k. l c (omega arith)), l n (le_refl (suc n)))

-- a<b of the most actions
all_pairs : sum most_actions (λ a. sum most_actions (λ b. cond (ltb a b) 1 0)) ≡ most_pairs
unfolding sum
all_pairs = refl

pub pairs_apart : (n : ℕ) (r q : Rel) → n ≤ most_actions → ((a b : ℕ) → a < b → b < n → r a b ≡ true → q a b ≡ true → ⊥) → pairs n r + pairs n q ≤ most_pairs
pairs_apart n r q l apart =
    rw (← all_pairs) (le_trans (sum_both n (λ a. count n λ b. ltb a b && r a b) (λ a. count n λ b. ltb a b && q a b) (λ a. sum most_actions (λ b. cond (ltb a b) 1 0)) row) (sum_up n most_actions (λ a. sum most_actions (λ b. cond (ltb a b) 1 0)) l))
  where
    cell : (t x y : Bool) → (t ≡ true → x ≡ true → y ≡ true → ⊥) → cond (t && x) 1 0 + cond (t && y) 1 0 ≤ cond t 1 0
    cell true true true h = absurd (h refl refl refl)
    cell true true false h = omega arith
    cell true false true h = omega arith
    cell true false false h = omega arith
    cell false x y h = omega arith

    row : (a : ℕ) → a < n → count n (λ b. ltb a b && r a b) + count n (λ b. ltb a b && q a b) ≤ sum most_actions (λ b. cond (ltb a b) 1 0)
    row a la =
        rw (count_sum n (λ b. ltb a b && r a b), count_sum n (λ b. ltb a b && q a b))
        (le_trans (sum_both n (λ b. cond (ltb a b && r a b) 1 0) (λ b. cond (ltb a b && q a b) 1 0) (λ b. cond (ltb a b) 1 0) (λ b lb. cell (ltb a b) (r a b) (q a b) (λ t. apart a b (ltb-true a b t) lb)))
        (sum_up n most_actions (λ b. cond (ltb a b) 1 0) l))

-- ---- the whole report

-- what holds of every answer of the judge: its numbers are small, its counts count, and no pair is both kinds of race
pub record Answer (n : ℕ) (j : Judged) (indeterminate : Set) (unsequenced races : Rel) (order : List ℕ) : Type 0 where
  pub actions : n ≤ most_actions
  pub broken : (k a b : ℕ) (m : Option ℕ) → j.verdict ≡ Broken k a b m → (k < 100) × Three a × Three b × ((z : ℕ) → m ≡ Some z → Three z)
  pub reads : j.indeterminate ≡ count n indeterminate
  pub sequences : j.unsequenced ≡ pairs n unsequenced
  pub data_races_lem : j.races ≡ pairs n races
  pub apart : (a b : ℕ) → a < b → b < n → unsequenced a b ≡ true → races a b ≡ true → ⊥
  pub numbers : j.order ≡ Given → (length order ≤ most_actions) × ((i : ℕ) → Three (get_or order i 0))

middle_length : (m : Option ℕ) → ((z : ℕ) → m ≡ Some z → Three z) → length (ending (middle_numbers m)) ≤ 5
unfolding ending
middle_length None h = omega arith
middle_length (Some z) h = ending_one z (h z refl)

verdict_length : (v : Verdict) → ((k a b : ℕ) (m : Option ℕ) → v ≡ Broken k a b m → (k < 100) × Three a × Three b × ((z : ℕ) → m ≡ Some z → Three z)) → length (verdict_line v) ≤ 28
unfolding verdict_line ending
verdict_length Passed h = omega arith
verdict_length (Broken k a b m) h =
    let s = h k a b m refl in
    let ns = middle_numbers m in
    omega (arith, ending_more 2 k (a ∷ b ∷ ns) (decimal_length 1 k s.0), ending_more 3 a (b ∷ ns) (three a s.1), ending_more 3 b ns (three b s.2), middle_length m s.3)

order_length_lem : (p : OrderPart) (order : List ℕ) → (p ≡ Given → (length order ≤ most_actions) × ((i : ℕ) → Three (get_or order i 0))) → length (order_line p order) ≤ 6 + 4 * most_actions
unfolding ending
order_length_lem Refused order h = omega arith
order_length_lem Given order h = let s = h refl in omega (arith, ending_all order s.1, s.0)

found_length : (a b c : ℕ) → Three a → b < 10000 → c < 10000 → length (line (ascii "found") (a ∷ b ∷ c ∷ [])) ≤ 20
unfolding ending
found_length a b c la lb lc =
    omega (arith, ending_more 3 a (b ∷ c ∷ []) (three a la), ending_more 4 b (c ∷ []) (decimal_length 3 b lb), ending_more 4 c [] (decimal_length 3 c lc))

-- No report of the judge is longer than longestReport.
pub report_length : {n : ℕ} {j : Judged} {s : Set} {u d : Rel} {order : List ℕ} → Answer n j s u d order → length (judged_text n j s u d order) ≤ longest_report
unfolding judged_text
report_length {n} {j} {s} {u} {d} {order} h =
    let l = h.actions in
    let few = pairs_apart n u d l h.apart in
    let c = count_le n s in
    let v = verdict_length j.verdict h.broken in
    let f = found_length j.indeterminate j.unsequenced j.races (omega (arith, h.reads)) (omega (arith, h.sequences)) (omega (arith, h.data_races_lem)) in
    let i = member_lines 18 n (λ a. line (ascii "indeterminate") (a ∷ [])) s (λ a la. omega (arith, ending_one a (omega arith))) in
    let p = pair_lines_lem 20 n (ascii "unsequenced") u (λ a b la lb. omega (arith, ending_two a b (omega arith) (omega arith))) in
    let q = pair_lines_lem 13 n (ascii "data") d (λ a b la lb. omega (arith, ending_two a b (omega arith) (omega arith))) in
    let o = order_length_lem j.order order h.numbers in
    simp length-append (omega arith)

-- No refusal is longer, whose numbers fit in 64 bits.
pub refused_length : (k at : ℕ) → k < 2 ^ 64 → at < 2 ^ 64 → length (refused_text k at) ≤ longest_report
unfolding refused_text ending
refused_length k at hk ha = omega (arith, ending_more 20 k (at ∷ []) (decimal_length 19 k (omega arith)), ending_more 20 at [] (decimal_length 19 at (omega arith)))

-- ---- what the answer tells of the buffer's room

-- where the text is no longer than longestReport
pub offered_roomy : {text old new : List ℕ} {r : Option ℕ} → Offered true text old new r → length text ≤ longest_report → Roomy (length old) r
offered_roomy {text} {old} {new} {r} h short = go (leb (length text) (length old)) refl h.answer
  where
    go : (b : Bool) → leb (length text) (length old) ≡ b → r ≡ cond b (Some (length text)) None → Roomy (length old) r
    go true e told = record {
      fits = λ k f. let same : length text ≡ k = cc in omega (arith, leb-true (length text) (length old) e);
      enough = λ room f. let z : ◌≡◌ {A = ℕ} 0 1 = cc in omega arith;
    }
    go false e told = record {
      fits = λ k f. let z : ◌≡◌ {A = ℕ} 0 1 = cc in omega arith;
      enough = λ room f. omega (arith, leb-false (length text) (length old) e);
    }
