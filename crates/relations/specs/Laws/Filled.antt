-- Which rows of what relations 7 to 17 are made of can have members.
use Rattle.std.specs.Prelude.{ℕ, false, refl}
use Rattle.std.proofs.Math.Bool.{and-false}
use Rattle.rows.specs.Sets.{Covers}
use Rattle.rows.proofs.Laws.Covers.{covers_only}
use Rattle.rows.proofs.Laws.Quantifiers.{any_none}
use Rattle.model.specs.Model.{Book, write, plain, release, rs, dob, vse, unsequenced_races}

module _ (n : ℕ) (ρ : Book) where
  -- a release sequence is from a release
  pub rs_filled : Covers n (rs n ρ) (release n ρ)
  unfolding rs
  rs_filled = covers_only n (rs n ρ) (release n ρ) λ a b e. rw e (simp and-false)

  -- so is dob
  pub dob_filled : Covers n (dob n ρ) (release n ρ)
  unfolding dob
  dob_filled = covers_only n (dob n ρ) (release n ρ) λ a d e. rw e (any_none n (λ b. false) (λ b l. refl))

  -- what is visible is a write
  pub vse_filled : Covers n (vse n ρ) (write n ρ)
  unfolding vse
  vse_filled = covers_only n (vse n ρ) (write n ρ) λ a b e. rw e (simp and-false)

  -- unsequenced races are between plain accesses
  pub unsequenced_filled : Covers n (unsequenced_races n ρ) (plain n ρ)
  unfolding unsequenced_races
  unsequenced_filled = covers_only n (unsequenced_races n ρ) (plain n ρ) λ a b e. rw e (simp and-false)

-- all of them
pub ruleset filling = (rs_filled, dob_filled, vse_filled, unsequenced_filled)
