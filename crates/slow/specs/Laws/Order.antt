-- The order: what is asked of each action, and what is left once one more is given.
use Rattle.std.specs.Prelude.{ℕ, Bool, not, ◌&&◌, ◌≡◌, ltb, eqb}
use Rattle.std.proofs.Math.Bool.{and_assoc, and-true}
use Rattle.std.proofs.Common.{sym, ap, ◌∙◌}
use Rattle.std.proofs.Math.Path.{fun_ext}
use Rattle.rows.specs.Sets.{Set, none, both, either, less, single, without, any}
use Rattle.rows.specs.Laws.Truth.{not_or}
use Rattle.model.specs.Model.{Book, atomic, seq_cst, at_atomic}
use Rattle.model.specs.Judge.{strong_places, strong_actions}
use Rattle.slow.specs.Searches.{left}
use Rattle.slow.specs.Laws.Loops.{each_by}

module _ (n : ℕ) (ρ : Book) where
  abbrev pub weak_place : Set
  weak_place = less (at_atomic n ρ) (both (atomic n ρ) (seq_cst n ρ))

  abbrev pub weak_action : Set
  weak_action = less (atomic n ρ) (seq_cst n ρ)

  pub places_by : not (any n weak_place) ≡ strong_places n ρ
  places_by = each_by n (at_atomic n ρ) (both (atomic n ρ) (seq_cst n ρ))

  pub actions_by : not (any n weak_action) ≡ strong_actions n ρ
  actions_by = each_by n (atomic n ρ) (seq_cst n ρ)

-- nothing given, all are left
pub left_all : (n : ℕ) (given : Set) → given ≡ none → left n given ≡ (λ a. ltb a n)
left_all n given e = rw e (fun_ext λ a. and-true (ltb a n))

-- one more given
pub left_more : (n : ℕ) (given : Set) (a : ℕ) → left n (either given (single a)) ≡ without (left n given) a
left_more n given a = fun_ext λ b. ap (λ (t : Bool). ltb b n && t) (not_or (given b) (eqb b a)) ∙ sym (and_assoc (ltb b n) (not (given b)) (not (eqb b a)))
