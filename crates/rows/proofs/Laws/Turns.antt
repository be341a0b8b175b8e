-- A `for a in row`, turn by turn: what the loop's invariant becomes with each member (-turn) and after the last (-end), and what is known of the member.
-- In an answer the `TakesLeast` is `c.in-Some.ensures.steps`, and after the last member none is left by `c.in-None.ensures.steps.0`.
use Rattle.std.specs.Prelude.{ℕ, ◌+◌, ◌<◌, true, false, cond, ◌≡◌, eqb}
use Rattle.std.proofs.Common.{sym}
use Rattle.rows.proofs.Laws.Loops.{Gather, gather_more, gather_done, Gaining, gain_more, gain_done, less_left, Going, go_next, go_more, Seeking, seek_low, seek_more, seek_hit, Placing, place_more}
use Rattle.rows.proofs.Laws.Quantifiers.{least_any, least_is}
use Rattle.rows.specs.Laws.Loops.{gained}
use Rattle.rows.specs.Members.{TakesLeast}
use Rattle.rows.specs.Numbers.{size}
use Rattle.rows.specs.Sets.{Set, Rel, any, count, both, either, before}

module _ {s t : Set} {a : ℕ} (h : TakesLeast s a t) where
  -- a member is a number of a row
  pub turn_below : a < size
  turn_below = rw h.first (least_any size s h.some)

  -- of the set
  pub turn_member : s a ≡ true
  turn_member = rw h.first ((least_is size s).hit (least_any size s h.some))

  -- and fewer are left
  pub turn_less : count size t < count size s
  turn_less = rw h.others (less_left size s h.some)

  pub gather_turn : (total got : Set) (r : Rel) → Gather size total r got s → Gather size total r (either got (r a)) t
  gather_turn total got r g = rw (h.others, h.first) (gather_more size total r got s g h.some)

  pub gain_turn : (g : Set → Set) (r : Rel) (all : Set) (now new : Rel) → Gaining size g r all now s → ((x : ℕ) → new x ≡ cond (eqb x a) (either (now a) (g (now a))) (now x)) → Gaining size g r all new t
  gain_turn g r all now new k put = rw h.others (gain_more size g r all now new s k h.some (rw h.first at put))

  pub place_turn : (r : Rel) (all : Set) (old now new : Rel) → Placing size r all old now s → ((x : ℕ) → new x ≡ cond (eqb x a) (r a) (now x)) → Placing size r all old new t
  place_turn r all old now new k put = rw h.others (place_more size r all old now new s k h.some (rw h.first at put))

  module _ (n : ℕ) (all : Set) (Q : ℕ → Type 0) (over : (k : ℕ) → k < n → all k ≡ false → Q k → Q (k + 1)) (g : Going n all Q s) where
    pub go_at : (a < n) × (all a ≡ true) × Q a
    go_at = rw h.first (go_next size n all Q over s g h.some)

    pub go_turn : (P : ℕ → Type 0) → P (a + 1) → Going n all P t
    go_turn P p = rw h.others (go_more size n all Q over s g P h.some (rw h.first at p))

  module _ (all f : Set) (g : Seeking size all f s) where
    pub seek_at : (q : Set) (n : ℕ) → all ≡ before q n → a < n
    seek_at q n e = rw h.first (seek_low size all f s g q n e h.some)

    pub seek_turn : f a ≡ false → Seeking size all f t
    seek_turn miss = rw h.others (seek_more size all f s g (rw h.first at miss))

    pub seek_found : f a ≡ true → any size (both all f) ≡ true
    seek_found hit = seek_hit size all f s g h.some (rw h.first at hit)

pub gather_end : (s total got : Set) (r : Rel) → any size s ≡ false → Gather size total r got s → got ≡ total
gather_end s total got r h g = sym (gather_done size total r got s g h)

pub gain_end : (s : Set) (g : Set → Set) (r : Rel) (all : Set) (now : Rel) → any size s ≡ false → Gaining size g r all now s → now ≡ gained g r all
gain_end s g r all now h k = gain_done size g r all now s k h
