-- The candidate of a good file, field by field; it is well-formed.
use Prim.Native.Nat.{ℕ, zero, suc, ◌+◌, ◌-◌, ◌^◌, ◌<◌}
use Rattle.std.specs.Prelude.{◌≡◌, true, List, [], ltb, length, get_or, take, drop}
use Rattle.std.proofs.Math.Path.{refl}
use Rattle.std.proofs.Common.{sym, ap, ◌∙◌, length-take, length-drop, lt-ltb, eq-eqb}
use native.Mathlib.Omega.{arith}
use Rattle.std.proofs.Math.Seq.{get_or-take, get_or-drop}
use Rattle.rows.specs.Numbers.{bit, listed, rel}
use Rattle.rows.specs.Laws.Lists.{listed_length, listed_at, listed_take}
use Rattle.rows.proofs.Laws.Quantifiers.{all_in}
use Rattle.model.specs.Actions.{no_action}
use Rattle.model.specs.Candidates.{given, action_in, rows_ok, to_others, well_formed, Within}
use Rattle.model.specs.Limits.{most_actions, given_relations}
use Rattle.model.specs.Laws.Others.{others_ext}
use Rattle.model.specs.Laws.Formed.{Parts, parts_formed}
use Rattle.model.specs.Refusals.{Good}
use Rattle.drawing.specs.Files.{place_bytes, relation_at, row_in, recorded, action_no, row_no, rows_of, candidate_with, candidate_of, check_of}
use Rattle.drawing.proofs.Laws.Good.{Taken, good_taken, good_candidate}

-- action i of n, and row a of n
pub action_is : (s : List ℕ) (n p i : ℕ) → i < n → action_no s n p i ≡ recorded s p i
unfolding action_no
action_is s n p i l = simp (lt-ltb i n l)

pub row_is : (s : List ℕ) (n p k a : ℕ) → a < n → row_no s n p k a ≡ row_in s n (relation_at n p k) a
unfolding row_no
row_is s n p k a l = simp (lt-ltb a n l)

module _ (s : List ℕ) (e n t p : ℕ) where
  pub acts_at : (i : ℕ) → i < n → get_or (candidate_with s e n t p).acts i no_action ≡ recorded s p i
  unfolding candidate_with
  acts_at i l = listed_at (action_no s n p) n i no_action l ∙ action_is s n p i l

  pub rows_at : (k a : ℕ) → a < n → get_or (rows_of s n p k) a 0 ≡ row_in s n (relation_at n p k) a
  rows_at k a l = listed_at (row_no s n p k) n a 0 l ∙ row_is s n p k a l

  pub places_at : (i : ℕ) → i < p → get_or (candidate_with s e n t p).places i 0 ≡ get_or s (place_bytes + i) 0
  unfolding candidate_with
  places_at i l = get_or-take p (drop place_bytes s) i 0 l ∙ get_or-drop place_bytes s i 0

  pub given_at : (k : ℕ) → k < given_relations → get_or (given (candidate_with s e n t p)) k [] ≡ rows_of s n p k
  unfolding candidate_with
  given_at zero l = refl
  given_at (suc zero) l = refl
  given_at (suc (suc zero)) l = refl
  given_at (suc (suc (suc zero))) l = refl
  given_at (suc (suc (suc (suc zero)))) l = refl
  given_at (suc (suc (suc (suc (suc zero))))) l = refl
  given_at (suc (suc (suc (suc (suc (suc zero)))))) l = refl
  given_at (suc (suc (suc (suc (suc (suc (suc k))))))) l = absurd (let z : ⊥ = omega arith in z)

module _ (s : List ℕ) (e n t p : ℕ) (good : Taken s e n t p) where
  pub places_length : length (candidate_with s e n t p).places ≡ p
  unfolding candidate_with
  places_length = simp (length-take, length-drop) (omega (arith, good.size))

  pub acts_length : length (candidate_with s e n t p).acts ≡ n
  unfolding candidate_with
  acts_length = listed_length (action_no s n p) n

  rows_formed : (k : ℕ) → k < given_relations → rows_ok n (rows_of s n p k) ≡ true
  rows_formed k l =
      rw (eq-eqb _ _ (listed_length (row_no s n p k) n))
      (all_in n (λ a. ltb (get_or (rows_of s n p k) a 0) (2 ^ n)) (λ a h. rw (rows_at s e n t p k a h) ((good.relation k l).row a h)))

  others_formed : (a : ℕ) → a < n → to_others n (action_in (candidate_with s e n t p)) (rel (rows_of s n p 1) a) a ≡ true
  others_formed a l =
      others_ext n (action_in (candidate_with s e n t p)) (recorded s p) (rel (rows_of s n p 1) a) (bit (row_in s n (relation_at n p 1) a)) a l (acts_at s e n t p) (ap bit (rows_at s e n t p 1 a l))
      ∙ good.others a l

  formed : Parts (candidate_with s e n t p)
  unfolding candidate_with
  formed =
      record {
        edition = good.edition;
        bytes = places_length;
        byte = λ i l. rw (places_at s e n t p i l) (good.place i l);
        actions = acts_length;
        action = λ i l. rw (acts_at s e n t p i l) (good.action i l).kept;
        rows = λ k l. rw (given_at s e n t p k l) (rows_formed k l);
        others = others_formed;
      }

-- a candidate that the reader takes is well-formed
pub taken_formed : (s : List ℕ) (e n t p : ℕ) → check_of s ≡ Good e n t p → well_formed (candidate_of s) ≡ true
taken_formed s e n t p h =
    let good = good_taken s e n t p h in
    rw (good_candidate s e n t p good) (parts_formed (candidate_with s e n t p) (formed s e n t p good))

-- and within the limits
pub taken_within : (s : List ℕ) (e n t p : ℕ) → check_of s ≡ Good e n t p → Within (candidate_of s)
unfolding candidate_with
taken_within s e n t p h =
    let good = good_taken s e n t p h in
    rw (good_candidate s e n t p good) (record { actions = good.actions; threads = good.threads; places = good.places })

-- its place bytes are those of the file from `placeBytes` on, as they are lent
pub places_lent : (s : List ℕ) (e n t p : ℕ) → Taken s e n t p → (candidate_of s).places ≡ take (place_bytes + p - place_bytes) (drop place_bytes s)
unfolding candidate_with
places_lent s e n t p good = let same : place_bytes + p - place_bytes ≡ p = omega arith in rw (good_candidate s e n t p good, same)

-- and its actions the first N of an array of the most
pub acts_lent : (s : List ℕ) (e n t p : ℕ) → Taken s e n t p → (candidate_of s).acts ≡ take n (listed most_actions (action_no s n p))
unfolding candidate_with
acts_lent s e n t p good = rw (good_candidate s e n t p good) (sym (listed_take (action_no s n p) n most_actions good.actions))
