-- Relations 14 to 17: the rows, and the columns of vsse, as the code works them out are the paper's.
use Rattle.std.specs.Prelude.{ℕ, ◌≤◌, ◌<◌, Bool, ◌&&◌, ◌||◌, ◌≡◌, eqb}
use Rattle.std.proofs.Math.Bool.{true, false, not, and-false}
use Rattle.std.proofs.Math.Path.{sym, ap, fun_ext}
use Rattle.std.proofs.Common.{◌∙◌, lt-ltb}
use Rattle.rows.specs.Sets.{Set, Rel, any, within, both, either, less, when, without, before, image, converse, Covers}
use Rattle.rows.specs.Numbers.{size}
use Rattle.rows.proofs.Laws.Covers.{covers_only}
use Rattle.rows.specs.Laws.Truth.{eqb_sym, Conj}
use Rattle.rows.proofs.Laws.Quantifiers.{any_ext, any_and, any_before}
use Rattle.rows.specs.Laws.Sets.{less_both, within_at, within_ext}
use Rattle.rows.proofs.Laws.Joins.{image_reflexive}
use Rattle.model.specs.Model.{Book, Sb, Mo, Hb, Vse, read, write, atomic, plain, at_atomic, same_place, same_thread, vse, vsse, data_races, unsequenced_races}
use Rattle.desk.specs.Clashes.{clash, unsequenced_clash}
use Rattle.relations.specs.Bases.{visible}

module _ (n : ℕ) (ρ : Book) (a : ℕ) where
  -- a hb b, a write, b read, same place, b not after another write that a is before there
  pub vse_by :
      let there = when (write n ρ a) (both (Hb n ρ a) (same_place n ρ a)) in
      less (both there (read n ρ)) (image n (without (both there (write n ρ)) a) (λ c. without (Hb n ρ c) c)) ≡ vse n ρ a
  unfolding vse
  vse_by = fun_ext λ b.
      ap (λ (t : Bool). (write n ρ a && (Hb n ρ a b && same_place n ρ a b)) && read n ρ b && not t) (
      any_ext n _ _ (λ c m. rw (eqb_sym b c) (simp Conj))
      ∙ any_and n (write n ρ a) (λ c. write n ρ c && same_place n ρ a c && not (eqb c a) && not (eqb c b) && Hb n ρ a c && Hb n ρ c b))
      ∙ turn (write n ρ a) (Hb n ρ a b) (read n ρ b) (same_place n ρ a b) (any n λ c. write n ρ c && same_place n ρ a c && not (eqb c a) && not (eqb c b) && Hb n ρ a c && Hb n ρ c b)
    where
      turn : (x h r p k : Bool) → ((x && (h && p)) && r && not (x && k)) ≡ (h && x && r && p && not k)
      turn true h r p k = simp Conj
      turn false h r p k = rw (and-false h)

  pub data_by :
      let apart = less (less (less (clash n ρ a) (same_thread n ρ a)) (when (atomic n ρ a) (atomic n ρ))) (Hb n ρ a) in
      less apart (both apart (λ b. Hb n ρ b a)) ≡ data_races n ρ a
  unfolding data_races
  data_by =
      let apart = less (less (less (clash n ρ a) (same_thread n ρ a)) (when (atomic n ρ a) (atomic n ρ))) (Hb n ρ a) in
      less_both apart (λ b. Hb n ρ b a) ∙ fun_ext λ b. simp Conj

  pub unsequenced_by : both (when (plain n ρ a) (without (plain n ρ) a)) (unsequenced_clash n ρ a) ≡ unsequenced_races n ρ a
  unfolding unsequenced_races
  unsequenced_by = fun_ext λ b. turn (plain n ρ a) (plain n ρ b) (eqb b a) (same_place n ρ a b) (write n ρ a || write n ρ b) (same_thread n ρ a b) (Sb n ρ a b) (Sb n ρ b a)
    where
      turn : (x y e p w t s z : Bool) → ((x && (y && not e)) && (p && w && t && not s && not z)) ≡ (not e && x && y && t && p && w && not s && not z)
      turn x y e p w t s z = simp Conj

module _ (n : ℕ) (ρ : Book) (b : ℕ) where
  pub visible_by : (v : ℕ) → less (less (Mo n ρ v) (Hb n ρ b)) (image n (both (Mo n ρ v) (Hb n ρ b)) (Mo n ρ)) ≡ visible n ρ b v
  visible_by v = fun_ext λ c. simp Conj

  -- column b, a read at an atomic place: the v with vse(v,b), and what b may see after each
  pub vsse_by : n ≤ size → b < n → both (read n ρ) (at_atomic n ρ) b ≡ true
      → let heads = within n (converse (Vse n ρ)) b in
      either heads (image size heads (visible n ρ b)) ≡ converse (vsse n ρ) b
  unfolding vsse
  vsse_by small low here = fun_ext λ c.
      let s : Set = converse (Vse n ρ) b in
      rw (lt-ltb b n low, here) (
      ap (λ (t : Bool). before s n c || t) (any_ext size _ _ (λ v l. simp Conj) ∙ any_before n size (λ v. s v && visible n ρ b v c) small)
      ∙ sym (ap (λ (f : Set). f c) (image_reflexive n s (visible n ρ b))))

-- only reads at atomic places have columns in vsse
pub vsse_columns : (n : ℕ) (ρ : Book) → Covers n (converse (vsse n ρ)) (both (read n ρ) (at_atomic n ρ))
unfolding vsse
vsse_columns n ρ = covers_only n (converse (vsse n ρ)) (both (read n ρ) (at_atomic n ρ)) λ b c e. rw e

-- a relation whose columns are filled as rows, turned around
pub by_columns : (n : ℕ) (q : Rel) → within n (converse (within n (converse q))) ≡ within n q
by_columns n q = within_ext n (converse (within n (converse q))) q λ a b l m. within_at n (converse q) b a m l
