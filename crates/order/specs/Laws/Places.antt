-- What both editions rest on: the filled book of a candidate that an edition passes, with no fence; and what stands at which place there.
use Rattle.std.specs.Prelude.{ℕ, ◌<◌, not, ◌||◌, ◌⊎◌, T}
use Rattle.std.proofs.Math.Logic.{⊎_elim}
use Rattle.std.proofs.Common.{arith}
use Rattle.std.proofs.Math.Dec.{eqb_refl}
use Rattle.rows.specs.Laws.Truth.{and_i, or_l, or_r, dec}
use Rattle.model.specs.Limits.{rules_end}
use Rattle.model.specs.Model.{Book, fence, lock, unlock, plain, atomic, at_mutex, at_plain, at_atomic, in_force, rules, rule2}
use Rattle.model.specs.Laws.Holds.{Holds}
use Rattle.model.specs.Laws.Filled.{Filled}
use Rattle.model.specs.Laws.Placing.{Placing}
use Rattle.model.specs.Laws.Verdicts.{Clean}
use Rattle.order.specs.Laws.Words.{Wording}

pub record Base (n : ℕ) (ρ : Book) : Type 0 where
  pub filled : Filled n ρ
  pub words : Wording n ρ
  pub places : Placing n ρ
  -- an edition none of whose rules offends
  pub edition : ℕ
  pub clean : Clean edition n ρ
  pub no_fence : (a : ℕ) → a < n → T (not (fence n ρ a))

module _ (n : ℕ) (ρ : Book) (B : Base n ρ) where
  -- a rule in force holds. (A written number that both editions have is in force by computation: `tt`.)
  pub off : (k : ℕ) → k < rules_end → T (in_force B.edition k) → Holds n ρ k
  off = B.clean.never_offends

  -- ---- rule 2: what stands at which place

  pub place_cases : (a : ℕ) → a < n → T (at_mutex n ρ a) ⊎ (T (at_plain n ρ a) ⊎ T (at_atomic n ρ a))
  place_cases a l = B.words.place_cases a l (B.no_fence a l)

  pub at_mutex_lem : (a : ℕ) → a < n → T (at_mutex n ρ a) → T (lock n ρ a || unlock n ρ a)
  unfolding rules rule2
  at_mutex_lem a l t =
      ⊎_elim (λ q. q) (λ q. absurd (off 2 (omega arith) tt a a l l (search (and_i, or_l, or_r, eqb_refl)))) (dec (lock n ρ a || unlock n ρ a))

  pub at_plain_lem : (a : ℕ) → a < n → T (at_plain n ρ a) → T (plain n ρ a)
  unfolding rules rule2
  at_plain_lem a l t = ⊎_elim (λ q. q) (λ q. absurd (off 2 (omega arith) tt a a l l (search (and_i, or_l, or_r, eqb_refl)))) (dec (plain n ρ a))

  pub at_atomic_lem : (a : ℕ) → a < n → T (at_atomic n ρ a) → T (atomic n ρ a || plain n ρ a)
  unfolding rules rule2
  at_atomic_lem a l t =
      ⊎_elim (λ q. q) (λ q. absurd (off 2 (omega arith) tt a a l l (search (and_i, or_l, or_r, eqb_refl)))) (dec (atomic n ρ a || plain n ρ a))

  pub atomic_place_lem : (a : ℕ) → a < n → T (atomic n ρ a) → T (at_atomic n ρ a)
  atomic_place_lem a l t =
      ⊎_elim
      (λ m. absurd (B.words.atomic_mutex a t (at_mutex_lem a l m)))
      (⊎_elim (λ m. absurd (B.words.atomic_plain a t (at_plain_lem a l m))) (λ m. m))
      (place_cases a l)
