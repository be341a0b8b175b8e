-- The first line and the line of a place are read back.
use Rattle.std.specs.Prelude.{ℕ, zero, suc, ◌+◌, ◌<◌, true, List, ◌∷◌, ◌++◌, ◌≡◌, refl, length, drop}
use Rattle.std.proofs.Common.{append_assoc, ap, ◌∙◌, arith}
use Rattle.page.specs.Lines.{ascii, space, newline, ending}
use Rattle.spelling.specs.declared.Number.{Number}
use Rattle.spelling.specs.Spelling.{header_line, place_line, part, starts, edition_number, actions_number, threads_number, places_number, edition_in, actions_in, threads_in, places_in, place_at}
use Rattle.spelling.specs.Laws.Stands.{after_line}
use Rattle.spelling.specs.Laws.Scans.{stops}
use Rattle.spelling.specs.Laws.Actions.{true_false, field_read}

-- ---- the first line

header_is : (e n t p : ℕ) (r : List ℕ) → header_line e n t p ++ r ≡ ascii "drawing" ++ (part true e ++ (part true n ++ (part true t ++ (part true p ++ (newline ∷ r)))))
unfolding ending part
header_is e n t p r = ap (λ (l : List ℕ). ascii "drawing" ++ (space ∷ l)) (simp (append_assoc))

pub part_stops : (n : ℕ) (r : List ℕ) → stops (part true n ++ r) ≡ true
unfolding part
part_stops n r = refl

-- its numbers, below 2 to the 32
module _ (s : List ℕ) (e n t p : ℕ) (r : List ℕ) (he : e < 4294967296) (hn : n < 4294967296) (ht : t < 4294967296) (hp : p < 4294967296) (is : s ≡ header_line e n t p ++ r) where
  abbrev after_t : List ℕ
  after_t = part true p ++ (newline ∷ r)

  abbrev after_n : List ℕ
  after_n = part true t ++ after_t

  abbrev after_e : List ℕ
  after_e = part true n ++ after_n

  abbrev q1 : ℕ
  q1 = 7 + length (part true e)

  abbrev q2 : ℕ
  q2 = q1 + length (part true n)

  abbrev q3 : ℕ
  q3 = q2 + length (part true t)

  d0 : drop 7 s ≡ part true e ++ after_e
  d0 = after_line s 0 (ascii "drawing") _ (is ∙ header_is e n t p r)

  f0 : edition_number s ≡ record { value = e; next = q1 }
  f0 = field_read s true 0 e 7 _ d0 he true_false (part_stops n after_n)

  d1 : drop q1 s ≡ after_e
  d1 = after_line s 7 (part true e) _ d0

  f1 : actions_number s ≡ record { value = n; next = q2 }
  f1 = rw f0 (field_read s true 0 n q1 _ d1 hn true_false (part_stops t after_t))

  d2 : drop q2 s ≡ after_n
  d2 = after_line s q1 (part true n) _ d1

  f2 : threads_number s ≡ record { value = t; next = q3 }
  f2 = rw f1 (field_read s true 0 t q2 _ d2 ht true_false (part_stops p (newline ∷ r)))

  d3 : drop q3 s ≡ after_t
  d3 = after_line s q2 (part true t) _ d2

  f3 : places_number s ≡ record { value = p; next = q3 + length (part true p) }
  f3 = rw f2 (field_read s true 0 p q3 _ d3 hp true_false refl)

  pub header_read : (edition_in s ≡ e) × (actions_in s ≡ n) × (threads_in s ≡ t) × (places_in s ≡ p)
  header_read = (ap (λ (x : Number). x.value) f0, ap (λ (x : Number). x.value) f1, ap (λ (x : Number). x.value) f2, ap (λ (x : Number). x.value) f3)

-- ---- places

pub place_read : (s : List ℕ) (q : ℕ) (r : List ℕ) (k : ℕ) → k < 3 → drop q s ≡ place_line k ++ r → place_at s q ≡ k
unfolding place_at place_line starts
place_read s q r zero l d = rw d
place_read s q r (suc zero) l d = rw d
place_read s q r (suc (suc zero)) l d = rw d
place_read s q r (suc (suc (suc k))) l d = absurd (omega arith)
