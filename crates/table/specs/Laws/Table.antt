-- One pair read and marked, and a row marked pair by pair.
use Rattle.std.specs.Prelude.{ℕ, ◌+◌, ◌*◌, ◌/◌, ◌%◌, ◌^◌, ◌≤◌, ◌<◌, Bool, true, false, ◌&&◌, ◌||◌, cond, List, ◌≡◌, refl, eqb, get_or, length, set}
use Rattle.std.proofs.Math.Bool.{or-false, or_assoc}
use Rattle.std.proofs.Common.{⊎_elim, sym, ap, ◌∙◌, arith, length-set, get_or-set_same, get_or-set_other, eq-eqb, ne_eqb, eqb-true}
use Rattle.std.proofs.Math.Path.{fun_ext}
use Rattle.std.specs.Int.Bits.{bit_or}
use Rattle.rows.specs.Sets.{Set, Rel, either, when, single, before}
use Rattle.rows.specs.Numbers.{bit, width, member, wide, size, area, cell, held}
use Rattle.rows.specs.Laws.Truth.{eq_or_ne, lt_or_le, test, both_true}
use Rattle.rows.proofs.Laws.Bits.{bit_of_or, bit_shl}
use Rattle.rows.proofs.Laws.Members.{member_at, member_bit, member_is, member_same}
use Rattle.rows.proofs.Laws.Loops.{collect_none, collect_more}
use Rattle.rows.proofs.Laws.Parts.{held_at, held_out, held_short, held_wide}
use Rattle.model.specs.Model.{Book}

-- a pair is a bit of its number
pub held_pair : (t : List ℕ) (k a b : ℕ) → a < size → b < size → area * k + area ≤ length t → held t k a b ≡ bit (get_or t (area * k + wide * a + b / width) 0) (b % width)
held_pair t k a b la lb fits = ap (λ (s : Set). s b) (held_at t k a la fits) ∙ member_at wide (cell t k a) b lb

-- ---- number i of row a of part k changed to v

module _ (t : List ℕ) (k a i v : ℕ) (la : a < size) (li : i < wide) (fits : area * k + area ≤ length t) where
  abbrev changed : List ℕ
  changed = set t (area * k + wide * a + i) v

  same_size : length changed ≡ length t
  same_size = length-set t (area * k + wide * a + i) v

  -- a row that does not have this number
  other_row : (j x : ℕ) → ((m : ℕ) → m < wide → area * j + wide * x + m ≡ area * k + wide * a + i → ⊥) → x < size → held changed j x ≡ held t j x
  other_row j x apart l = ⊎_elim
      (λ (short : length t < area * j + area). ap (λ (r : Rel). r x) (held_short changed j (omega (arith, same_size)) ∙ sym (held_short t j short)))
      (λ (whole : area * j + area ≤ length t).
      held_at changed j x l (omega (arith, same_size)) ∙ member_same wide (cell changed j x) (cell t j x) (λ m lm. get_or-set_other t (area * k + wide * a + i) (area * j + wide * x + m) v 0 (apart m lm)) ∙ sym (held_at t j x l whole))
      (lt_or_le (length t) (area * j + area))

  this_row : held changed k a ≡ member wide (λ m. cond (eqb m i) v (cell t k a m))
  this_row = held_at changed k a la (omega (arith, same_size)) ∙ member_same wide (cell changed k a) _ (λ m lm. ⊎_elim
      (λ (e : m ≡ i). rw (e, eq-eqb i i refl) (get_or-set_same t (area * k + wide * a + i) v 0 (omega arith)))
      (λ (ne : m ≡ i → ⊥). rw (ne_eqb m i ne) (get_or-set_other t (area * k + wide * a + i) (area * k + wide * a + m) v 0 (λ q. ne (omega arith))))
      (eq_or_ne m i))

  held_changed : (s : Set) → member wide (λ m. cond (eqb m i) v (cell t k a m)) ≡ s → (j x : ℕ) → held changed j x ≡ cond (eqb j k && eqb x a) s (held t j x)
  held_changed s is j x = ⊎_elim
      (λ (l : x < size). ⊎_elim
      (λ (e : j ≡ k). ⊎_elim
      (λ (g : x ≡ a). rw (e, g, eq-eqb k k refl, eq-eqb a a refl) (this_row ∙ is))
      (λ (g : x ≡ a → ⊥). rw (e, eq-eqb k k refl, ne_eqb x a g) (other_row k x (λ m lm q. g (omega arith)) l))
      (eq_or_ne x a))
      (λ (e : j ≡ k → ⊥). rw (ne_eqb j k e) (other_row j x (λ m lm q. e (omega arith)) l))
      (eq_or_ne j k))
      (λ (l : size ≤ x). let g : x ≡ a → ⊥ = λ q. omega arith in
      ⊎_elim (λ (p : eqb j k ≡ true). rw (p, ne_eqb x a g) (held_out changed j x l ∙ sym (held_out t j x l))) (λ (p : eqb j k ≡ false). rw p (held_out changed j x l ∙ sym (held_out t j x l))) (test (eqb j k)))
      (lt_or_le x size)

-- ---- a pair marked

module _ (t : List ℕ) (k a b : ℕ) (p : Bool) (la : a < size) (lb : b < size) (fits : area * k + area ≤ length t) where
  abbrev at : ℕ
  at = area * k + wide * a + b / width

  abbrev bit_of : ℕ
  bit_of = 1 * 2 ^ (b % width) % 2 ^ width

  -- the numbers of the row with the bit of b
  with_bit : member wide (λ m. cond (eqb m (b / width)) (bit_or (get_or t at 0) bit_of) (cell t k a m)) ≡ either (held t k a) (single b)
  with_bit = member_is wide _ _
      (λ c l. let ne : c ≡ b → ⊥ = λ q. omega arith in rw (held_wide t k a c l, ne_eqb c b ne))
      (λ i c li lc.
      let old : held t k a (width * i + c) ≡ bit (cell t k a i) c = ap (λ (s : Set). s (width * i + c)) (held_at t k a la fits) ∙ member_bit wide (cell t k a) i c li lc in
      ⊎_elim
      (λ (e : i ≡ b / width).
      let low : b % width < width = omega arith in
      let here : eqb c (b % width) ≡ eqb (width * i + c) b = ⊎_elim
      (λ (q : c ≡ b % width). let w : width * i + c ≡ b = omega arith in eq-eqb c (b % width) q ∙ sym (eq-eqb (width * i + c) b w))
      (λ (ne : c ≡ b % width → ⊥). ne_eqb c (b % width) ne ∙ sym (ne_eqb (width * i + c) b (λ w. ne (omega arith))))
      (eq_or_ne c (b % width)) in
      rw (eq-eqb i (b / width) e, old) (ap (λ (m : ℕ). bit (bit_or (get_or t (area * k + wide * a + m) 0) bit_of) c) (sym e) ∙ bit_of_or (cell t k a i) bit_of c ∙ ap (λ (q : Bool). bit (cell t k a i) c || q) (bit_shl width (b % width) c low ∙ here)))
      (λ (ne : i ≡ b / width → ⊥).
      rw (ne_eqb i (b / width) ne, old, ne_eqb (width * i + c) b (λ w. ne (omega arith))) (sym (or-false (bit (cell t k a i) c))))
      (eq_or_ne i (b / width)))

  pub mark_hit : p ≡ true → (j x : ℕ) → held (set t at (bit_or (get_or t at 0) bit_of)) j x ≡ cond (eqb j k && eqb x a) (either (held t k a) (when p (single b))) (held t j x)
  mark_hit e = rw e (held_changed t k a (b / width) (bit_or (get_or t at 0) bit_of) la (omega arith) fits (either (held t k a) (single b)) with_bit)

  pub mark_miss : p ≡ false → (j x : ℕ) → held t j x ≡ cond (eqb j k && eqb x a) (either (held t k a) (when p (single b))) (held t j x)
  mark_miss e j x = rw e (⊎_elim
      (λ (h : eqb j k && eqb x a ≡ true). let q = both_true (eqb j k) (eqb x a) h in rw (h, eqb-true j k q.0, eqb-true x a q.1) (fun_ext λ y. sym (or-false (held t k a y))))
      (λ (h : eqb j k && eqb x a ≡ false). rw h)
      (test (eqb j k && eqb x a)))

-- ---- a row marked pair by pair

-- ρ where row a of relation k also has the members of s below b
abbrev pub reaching : Book → ℕ → ℕ → Set → ℕ → Book
reaching ρ k a s b j x = cond (eqb j k && eqb x a) (either (ρ k a) (before s b)) (ρ j x)

-- this row, and every other
by_row : (P : Bool → Type 0) (j x k a : ℕ) → ((j ≡ k) → (x ≡ a) → P true) → P false → P (eqb j k && eqb x a)
by_row P j x k a here there = ⊎_elim
    (λ (h : eqb j k && eqb x a ≡ true). let q = both_true (eqb j k) (eqb x a) h in rw h (here (eqb-true j k q.0) (eqb-true x a q.1)))
    (λ (h : eqb j k && eqb x a ≡ false). rw h there)
    (test (eqb j k && eqb x a))

pub reach_none : (ρ : Book) (k a : ℕ) (s : Set) (j x : ℕ) → ρ j x ≡ reaching ρ k a s 0 j x
reach_none ρ k a s j x = by_row (λ t. ρ j x ≡ cond t (either (ρ k a) (before s 0)) (ρ j x)) j x k a
    (λ e f. rw (e, f) (fun_ext λ y. sym (or-false (ρ k a y)) ∙ ap (λ (q : Set). ρ k a y || q y) (collect_none s)))
    refl

pub reach_more : (ρ now new : Book) (k a : ℕ) (s : Set) (b : ℕ) → ((j x : ℕ) → now j x ≡ reaching ρ k a s b j x)
    → ((j x : ℕ) → new j x ≡ cond (eqb j k && eqb x a) (either (now k a) (when (s b) (single b))) (now j x)) → (j x : ℕ) → new j x ≡ reaching ρ k a s (b + 1) j x
reach_more ρ now new k a s b inv put j x = put j x ∙ rw (inv j x, inv k a, eq-eqb k k refl, eq-eqb a a refl) (by_row (λ t. cond t (either (either (ρ k a) (before s b)) (when (s b) (single b))) (cond t (either (ρ k a) (before s b)) (ρ j x)) ≡ cond t (either (ρ k a) (before s (b + 1))) (ρ j x)) j x k a
    (λ e f. fun_ext λ y. or_assoc (ρ k a y) (before s b y) (when (s b) (single b) y) ∙ ap (λ (q : Set). ρ k a y || q y) (collect_more s b))
    refl)
