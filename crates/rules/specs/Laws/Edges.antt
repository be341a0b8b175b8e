-- Rules 1 to 16, but for the orders, as the code walks them: each law has the walk's set on the left and the model's on the right.
use Rattle.std.specs.Prelude.{ℕ, ◌<◌, Bool, true, false, ◌&&◌, ◌≡◌, eqb}
use Rattle.std.proofs.Math.Bool.{not, and_comm, and_assoc}
use Rattle.std.proofs.Math.Path.{sym, ap, fun_ext}
use Rattle.std.proofs.Common.{◌∙◌, ⊎_elim, arith}
use Rattle.std.proofs.Math.Dec.{ltb}
use Rattle.rows.specs.Sets.{any, before}
use Rattle.rows.specs.Laws.Truth.{test, and_left}
use Rattle.rows.proofs.Laws.Quantifiers.{any_ext}
use Rattle.rows.specs.Laws.Sets.{before_ext}
use Rattle.model.specs.Model.{Book, Mo, lock, unlock, write, at_atomic, same_place, same_thread, writes_of, rule7, rule8, rule13}
use Rattle.desk.specs.Notes.{notes, handover, Noted}
use Rattle.desk.specs.Laws.Notes.{noted_at}

-- the note of handovers between two actions
noted_handover : (n : ℕ) (ρ ε : Book) → Noted n ρ ε → (a b : ℕ) → a < n → b < n → ε 5 a b ≡ handover n ρ a b
unfolding notes
noted_handover n ρ ε h = noted_at n ρ ε h 5 (omega arith)

module _ (n : ℕ) (ρ : Book) (a : ℕ) where
  pub rule7_by : (ε : Book) → Noted n ρ ε → a < n →
      before (λ b. eqb b a && (unlock n ρ a && not (any n λ p. (unlock n ρ a && lock n ρ p) && (ε 5 p a && same_thread n ρ p a)))) n ≡ before (rule7 n ρ a) n
  unfolding rule7
  rule7_by ε h l = fun_ext λ b. ap (λ (t : Bool). (eqb b a && t) && ltb b n) (⊎_elim
      (λ (u : unlock n ρ a ≡ true). rw u (ap not (any_ext n (λ p. lock n ρ p && (ε 5 p a && same_thread n ρ p a)) (λ p. handover n ρ p a && lock n ρ p && same_thread n ρ p a)
      λ p m. rw (noted_handover n ρ ε h p a m l) (and_left (lock n ρ p) (handover n ρ p a) (same_thread n ρ p a) ∙ sym (and_assoc (handover n ρ p a) (lock n ρ p) (same_thread n ρ p a))))))
      (λ (u : unlock n ρ a ≡ false). rw u)
      (test (unlock n ρ a)))

  pub rule8_by : (ε : Book) → Noted n ρ ε → a < n → before (λ b. not (unlock n ρ a) && (ε 5 a b && lock n ρ b)) n ≡ before (rule8 n ρ a) n
  unfolding rule8
  rule8_by ε h l = before_ext n (λ b. not (unlock n ρ a) && (ε 5 a b && lock n ρ b)) (rule8 n ρ a) λ b m.
      rw (noted_handover n ρ ε h a b l m) (and_comm (not (unlock n ρ a)) (handover n ρ a b && lock n ρ b) ∙ ap (λ (t : Bool). t && not (unlock n ρ a)) (and_comm (handover n ρ a b) (lock n ρ b)))

  pub writes_by : (λ b. (write n ρ a && (at_atomic n ρ a && same_place n ρ a b)) && write n ρ b) ≡ writes_of n ρ a
  writes_by = fun_ext λ b. ap (λ (t : Bool). t && write n ρ b) (and_comm (write n ρ a) (at_atomic n ρ a && same_place n ρ a b))

  pub rule13_by : (λ b. Mo n ρ a b && not (writes_of n ρ a b && not (eqb b a))) ≡ rule13 n ρ a
  unfolding rule13
  rule13_by = fun_ext λ b. ap (λ (t : Bool). Mo n ρ a b && not t) (and_comm (writes_of n ρ a b) (not (eqb b a)))
