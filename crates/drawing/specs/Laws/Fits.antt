-- The numbers of a well-formed candidate fit the bytes that a file has for them.
use Rattle.std.specs.Prelude.{ℕ, ◌^◌, ◌<◌, ◌≤◌, ◌≡◌, Bool, true, false, cond, ◌&&◌, List, leb, ltb, eqb, length, get_or}
use Rattle.std.proofs.Common.{⊎_elim, arith, lt_of_lt_of_le, leb-true, lt-ltb, le-ltb, ltb-true, eqb-true}
use Rattle.std.proofs.Math.Nat.{pow-le-pow_right}
use Rattle.rows.proofs.Laws.Quantifiers.{all_out}
use Rattle.rows.specs.Laws.Truth.{both_true, lt_or_le}
use Rattle.rows.specs.Numbers.{width}
use Rattle.model.specs.declared.Action.{Action}
use Rattle.model.specs.Actions.{no_action}
use Rattle.model.specs.Candidates.{Candidate, edition_ok, is_fence, place_ok, values_ok, action_ok, rows_ok, Within, Values, Valued}
use Rattle.model.specs.Limits.{newest_edition, most_actions, most_threads, most_places}
use Rattle.model.specs.Laws.Formed.{Parts}
use Rattle.drawing.specs.Files.{row_bytes}

-- an edition that this build knows
pub edition_known : (e : ℕ) → edition_ok newest_edition e ≡ true → e ≤ newest_edition
edition_known e h = leb-true e newest_edition (both_true (leb 1 e) _ h).1

-- n rows, each below 2 to the n
pub rows_length_lem : (n : ℕ) (rows : List ℕ) → rows_ok n rows ≡ true → length rows ≡ n
rows_length_lem n rows e = eqb-true (length rows) n (both_true (eqb (length rows) n) _ e).0

pub row_low : (n : ℕ) (rows : List ℕ) → rows_ok n rows ≡ true → (a : ℕ) → a < n → ltb (get_or rows a 0) (2 ^ n) ≡ true
row_low n rows e = all_out n (λ a. ltb (get_or rows a 0) (2 ^ n)) (both_true (eqb (length rows) n) _ e).1

-- a row is a number of so many bytes
pub row_fits : (n : ℕ) → n ≤ most_actions → (x : ℕ) → ltb x (2 ^ n) ≡ true → x < 256 ^ row_bytes n
row_fits n h x e =
    let below : (j : ℕ) → n ≤ j → x < 2 ^ j = λ j l. lt_of_lt_of_le (ltb-true x (2 ^ n) e) (pow-le-pow_right {n = 2} (omega arith) {j = j} l) in
    ⊎_elim (λ (l : width < n). rw (lt-ltb width n l) (below most_actions h)) (λ (l : n ≤ width). rw (le-ltb width n l) (below width l)) (lt_or_le width n)

-- the numbers of an action have two bytes, or four
pub record Fits (x : Action) : Type 0 where
  pub thread : x.thread < 256 ^ 2
  pub place : x.place < 256 ^ 2
  pub read : x.read < 256 ^ 4
  pub written : x.written < 256 ^ 4

place_fits : (p q : ℕ) → p ≤ most_places → (fence : Bool) → cond fence (eqb q 65535) (ltb q p) ≡ true → q < 256 ^ 2
place_fits p q l true e = omega (arith, eqb-true q 65535 e)
place_fits p q l false e = omega (arith, ltb-true q p e)

pub action_fits : (t p : ℕ) (x : Action) → t ≤ most_threads → p ≤ most_places → action_ok t p x ≡ true → Values x → Fits x
unfolding action_ok
action_fits t p x ht hp e v =
    let a = (both_true (ltb x.thread t && place_ok p x) (values_ok x) e).0 in
    let b = both_true (ltb x.thread t) (place_ok p x) a in
    record {
      thread = omega (arith, ltb-true x.thread t b.0);
      place = place_fits p x.place hp (is_fence x) b.1;
      read = v.0;
      written = v.1;
    }

-- the actions of a well-formed candidate
pub actions_fit : (X : Candidate) → Within X → Valued X → Parts X → (i : ℕ) → i < X.n → Fits (get_or X.acts i no_action)
actions_fit X w v f i l = action_fits X.t X.p (get_or X.acts i no_action) w.threads w.places (f.action i l) (v.each i l)
