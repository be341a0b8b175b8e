-- What the dispatch over the rules and the counts need: no rule has another number, and one more is counted.
use Rattle.std.specs.Prelude.{ℕ, ◌+◌, ◌≤◌, cond, ◌≡◌, T, eqb}
use Rattle.std.proofs.Common.{⊎_elim, sym, ap, add-one, eqb→eq}
use Rattle.std.proofs.Math.ListN.{get_or-eq_default}
use Rattle.rows.specs.Sets.{Set, never, all, count}
use Rattle.model.specs.Limits.{rules_end}
use Rattle.model.specs.Model.{Book, rules}
use Rattle.model.specs.Judge.{rule}
use Rattle.model.specs.Laws.Arms.{Missed, singles, missed_rest}

-- none of the arms of 1 to 36
pub no_rule : (n : ℕ) (ρ : Book) (k : ℕ) → Missed k Unit (singles 1 36) → rule n ρ k ≡ never
unfolding rules all
no_rule n ρ k missed =
    ⊎_elim
    (λ (h : T (eqb k 0)). rw (eqb→eq k 0 h))
    (λ (l : rules_end ≤ k). get_or-eq_default (rules n ρ) never l)
    (missed_rest k rules_end (λ j. eqb j 0) (singles 1 36) tt missed)

-- a count goes on by 1 for what holds
pub count_more : (f : Set) (k total one : ℕ) → total ≡ count k f → one ≡ cond (f k) 1 0 → total + one ≡ count (k + 1) f
unfolding count
count_more f k total one so_far here = rw (so_far, here) (sym (ap (λ (i : ℕ). count i f) (add-one k)))
