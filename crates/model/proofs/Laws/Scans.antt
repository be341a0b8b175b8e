-- A scan over the rules, row by row: what it has cleared, what each turn adds, and how it ends.
use Rattle.std.specs.Prelude.{ℕ, ◌+◌, ◌<◌, true, false, ◌≡◌, refl}
use Rattle.std.proofs.Common.{arith, below_more, lt-ltb}
use Rattle.rows.specs.Sets.{Rel, any, least, any_pair, least_row}
use Rattle.rows.specs.Laws.Truth.{and_both}
use Rattle.rows.proofs.Laws.Quantifiers.{any_in, any_none, least_hit, least_none}
use Rattle.model.specs.declared.Verdict.TheVariants.{Passed}
use Rattle.model.specs.Limits.{rules_end}
use Rattle.model.specs.Model.{Book, rules, in_force}
use Rattle.model.specs.Judge.{rule, lowest, broken_at, verdict}
use Rattle.model.proofs.Laws.Verdicts.{offends, unoffending}

-- no rule below k that edition e has offends
abbrev pub Clear : ℕ → ℕ → Book → ℕ → Type 0
Clear e n ρ k = (j : ℕ) → j < k → in_force e j ≡ true → any_pair n (rule n ρ j) ≡ false

-- no row of r below a leads anywhere
abbrev pub Blank : ℕ → Rel → ℕ → Type 0
Blank n r a = (x : ℕ) → x < a → any n (r x) ≡ false

pub clear_none : (e n : ℕ) (ρ : Book) → Clear e n ρ 1
unfolding rules
clear_none e n ρ j l force = let z : j ≡ 0 = omega arith in rw z (any_none n (λ a. any n (λ b. false)) (λ a k. any_none n (λ b. false) (λ b i. refl)))

-- rule k does not offend, or is not in force
pub clear_more : (e n : ℕ) (ρ : Book) (k : ℕ) → Clear e n ρ k → (in_force e k ≡ true → Blank n (rule n ρ k) n) → Clear e n ρ (k + 1)
clear_more e n ρ k clear blank =
    below_more (λ (j : ℕ). in_force e j ≡ true → any_pair n (rule n ρ j) ≡ false) k clear λ force. any_none n (λ a. any n (rule n ρ k a)) (blank force)

pub scan_done : (e n : ℕ) (ρ : Book) → Clear e n ρ rules_end → Passed ≡ verdict e n ρ
unfolding verdict lowest
scan_done e n ρ clear = rw (least_none rules_end (offends e n ρ) (any_none rules_end (offends e n ρ) λ k l. unoffending e n ρ k (clear k l)))

-- the least column of the least row of the lowest rule
pub scan_found : (e n : ℕ) (ρ : Book) (k a b : ℕ) → k < rules_end → in_force e k ≡ true → a < n → b < n → rule n ρ k a b ≡ true → ((y : ℕ) → y < b → rule n ρ k a y ≡ false) → Clear e n ρ k → Blank n (rule n ρ k) a
    → broken_at n ρ k a b ≡ verdict e n ρ
unfolding verdict lowest
scan_found e n ρ k a b below force inside within hit miss clear blank =
    let column : least n (rule n ρ k a) ≡ b = least_hit n (rule n ρ k a) b within hit miss in
    let leads : any n (rule n ρ k a) ≡ true = any_in n (rule n ρ k a) b within hit in
    let row : least_row n (rule n ρ k) ≡ a = least_hit n (λ x. any n (rule n ρ k x)) a inside leads blank in
    let low : lowest e n ρ ≡ k = least_hit rules_end (offends e n ρ) k below (and_both force (any_in n (λ x. any n (rule n ρ k x)) a inside leads)) (λ j lj. unoffending e n ρ j (clear j lj)) in
    rw (low, lt-ltb k rules_end below, row, column)
