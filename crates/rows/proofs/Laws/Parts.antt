-- Rows and parts: the numbers of a row as its members, what a slice holds after a store, and after a part of it was lent.
use Rattle.std.specs.Prelude.{ℕ, zero, suc, ◌+◌, ◌*◌, ◌-◌, ◌/◌, ◌%◌, ◌^◌, ◌≤◌, ◌<◌, Bool, true, false, not, ◌&&◌, ◌||◌, cond, List, [], ◌∷◌, ◌++◌, ◌≡◌, refl, eqb, ltb, leb, get_or, length, set, take, drop, replicate}
use Rattle.std.proofs.Math.Bool.{and-true, and-false, and_comm, or-false}
use Rattle.std.proofs.Math.Logic.{⊎_elim}
use Rattle.std.proofs.Common.{sym, ap₂, ◌∙◌, zero-add, add-zero, arith, lit<, length-set, get_or-set_same, get_or-set_other, get_or-take, get_or-drop, get_or-append-add, length-take-le, lt-ltb, le-ltb, le-leb, leb-true, leb-false, slice_range, eq-eqb, ne_eqb}
use Rattle.std.proofs.Math.Path.{ap, fun_ext}
use Rattle.std.specs.Int.Bits.{bit_and, bit_or, or_add_and}
use Rattle.std.proofs.lemmas.Nat.{and_le_l, and_le_r}
use Rattle.std.specs.Int.Count.{ones, count_trailing_zeros}
use Rattle.std.proofs.Math.ListN.{get_or-eq_default, get_or-append}
use Rattle.std.proofs.lemmas.Bool.{lt-leb, not-true, not-false}
use borrow.Rule.Slice.PartMut.{put_mid, same_len_mid, mid_len, take_put, drop_put}
use Rattle.rows.proofs.Laws.Bits.{bit_zero, bit_above, bit_low_half, bit_high_half}
use Rattle.rows.proofs.Laws.Joins.{image_or, image_before}
use Rattle.rows.proofs.Laws.Members.{alone_none, alone_some, alone_least, alone_rest, lowered, member_listed, member_rest, member_at, member_bit, member_out, member_is, member_same, member_zero, member_digit, digit_member, member_no, member_least, member_count}
use Rattle.rows.proofs.Laws.Quantifiers.{any_none, any_no, any_at, any_ext}
use Rattle.rows.specs.Laws.Truth.{test, not_both, same_lt, lt_or_le, eq_or_ne, top}
use Rattle.rows.specs.Numbers.{bit, listed, width, member, digit, alone, wide, size, area, numbers, has, ran, whole, cell, held}
use Rattle.rows.specs.Sets.{Set, Rel, any, least, count, sum, none, never, both, either, single, without, before, image}
use Rattle.rows.specs.declared.Row.{Row}
use Rattle.rows.specs.declared.Run.{Run}
use Rattle.rows.specs.Laws.Parts.{RunOf}
use Rattle.rows.specs.Members.{TakesLeast}

-- ---- the numbers of a row

-- a fact of each number of a row is two facts
two : (P : ℕ → Type 0) → P 0 → P 1 → (i : ℕ) → i < wide → P i
two P p q zero l = p
two P p q (suc zero) l = q
two P p q (suc (suc i)) l = absurd (omega arith)

-- a row has nothing past its columns
pub has_out : (r : Row) (b : ℕ) → size ≤ b → has r b ≡ false
unfolding has
has_out r b l = member_out wide (numbers r) b l

pub has_bit : (r : Row) (b : ℕ) → has r b ≡ bit (numbers r (b / width)) (b % width)
unfolding has
has_bit r b = ⊎_elim
    (λ (l : b < size). member_at wide (numbers r) b l)
    (λ (l : size ≤ b). member_out wide (numbers r) b l ∙ sym (ap (λ (x : ℕ). bit x (b % width)) (get_or-eq_default (r.low ∷ r.high ∷ []) 0 {n = b / width} (omega arith)) ∙ bit_zero (b % width)))
    (lt_or_le b size)

pub has_digits : (r : Row) (s : Set) → r.low ≡ digit s 0 → r.high ≡ digit s 1 → has r ≡ before s size
unfolding has
has_digits r s e f = member_same wide (numbers r) (digit s) (two (λ i. numbers r i ≡ digit s i) e f) ∙ member_digit wide s

-- the row of a number of two halves
pub has_of_halves : (lo hi : ℕ) → lo < 2 ^ width → hi < 2 ^ width → has (record { low = lo; high = hi }) ≡ bit (hi * 2 ^ width + lo)
unfolding has
has_of_halves lo hi l h =
    member_is wide _ (bit (hi * 2 ^ width + lo))
    (λ b m. let q : width + (b - width) ≡ b = omega arith in ap (bit (hi * 2 ^ width + lo)) (sym q) ∙ bit_high_half width hi lo (b - width) l ∙ bit_above width hi (b - width) h (omega arith))
    (λ i b li lb. two (λ i. bit (get_or (lo ∷ hi ∷ []) i 0) b ≡ bit (hi * 2 ^ width + lo) (width * i + b))
    (sym (ap (bit (hi * 2 ^ width + lo)) (zero-add b) ∙ bit_low_half width hi lo b l lb))
    (sym (bit_high_half width hi lo b l)) i li)

pub has_of : (x : ℕ) → x < 2 ^ width → has (record { low = x; high = 0 }) ≡ bit x
has_of x l = has_of_halves x 0 l (lit< tt) ∙ ap bit (zero-add x)

pub has_zero : (r : Row) → r.low ≡ 0 → r.high ≡ 0 → has r ≡ none
unfolding has
has_zero r e f = member_zero wide (numbers r) (two (λ i. numbers r i ≡ 0) e f)

pub has_none : has (record { low = 0; high = 0 }) ≡ none
has_none = has_zero (record { low = 0; high = 0 }) refl refl

module _ (r : Row) (l : r.low < 2 ^ width) (h : r.high < 2 ^ width) where
  pub numbers_low : (i : ℕ) → i < wide → numbers r i < 2 ^ width
  numbers_low = two (λ i. numbers r i < 2 ^ width) l h

  pub has_some : (bit_or r.low r.high ≡ 0 → ⊥) → any size (has r) ≡ true
  unfolding has
  has_some some = ⊎_elim (λ e. e) (λ e. let zero_at = member_no wide (numbers r) e in absurd (some (ap₂ bit_or (zero_at 0 (lit< tt) l) (zero_at 1 (lit< tt) h)))) (test (any size (has r)))

  pub has_count : ones r.low + ones r.high ≡ count size (has r)
  unfolding has sum
  has_count = ap (λ (x : ℕ). x + ones r.high) (sym (zero-add (ones r.low))) ∙ member_count wide (numbers r) numbers_low

pub has_empty : (r : Row) → bit_or r.low r.high ≡ 0 → any size (has r) ≡ false
has_empty r e =
    let sum_is_lem = or_add_and r.low r.high in
    let low : r.low ≡ 0 = omega (arith, sum_is_lem, and_le_r r.low r.high) in
    let high : r.high ≡ 0 = omega (arith, sum_is_lem, and_le_l r.low r.high) in
    rw (has_zero r low high) (any_none size none (λ b l. refl))

-- whether any number of a row is not 0
pub has_empty_test : (r : Row) → r.low < 2 ^ width → r.high < 2 ^ width → eqb (bit_or r.low r.high) 0 ≡ not (any size (has r))
has_empty_test r l h = ⊎_elim
    (λ (e : bit_or r.low r.high ≡ 0). rw (has_empty r e) (eq-eqb _ 0 e))
    (λ (ne : bit_or r.low r.high ≡ 0 → ⊥). rw (has_some r l h ne) (ne_eqb _ 0 ne))
    (eq_or_ne (bit_or r.low r.high) 0)

pub has_least_high : (r : Row) → r.high < 2 ^ width → r.low ≡ 0 → width + count_trailing_zeros width r.high ≡ least size (has r)
unfolding has
has_least_high r h e = member_least wide (numbers r) 1 (lit< tt) h (λ j l. let q : j ≡ 0 = omega arith in rw q e) (λ z. refl)

pub has_least_low : (r : Row) → r.low < 2 ^ width → (r.low ≡ 0 → ⊥) → count_trailing_zeros width r.low ≡ least size (has r)
unfolding has
has_least_low r h ne = sym (zero-add (count_trailing_zeros width r.low)) ∙ member_least wide (numbers r) 0 (lit< tt) h (λ j l. absurd (omega arith)) (λ z. absurd (ne z))

pub has_rest_low : (r : Row) → r.low < 2 ^ width → (r.low ≡ 0 → ⊥) → has (record { low = bit_and r.low (r.low - 1); high = r.high }) ≡ without (has r) (least size (has r))
unfolding has listed
has_rest_low r h ne = member_listed wide _ (lowered 0 (numbers r)) refl ∙ member_rest wide (numbers r) 0 (lit< tt) h ne (λ j l. absurd (omega arith))

pub has_rest_high : (r : Row) → r.high < 2 ^ width → r.low ≡ 0 → (r.high ≡ 0 → ⊥) → has (record { low = 0; high = bit_and r.high (r.high - 1) }) ≡ without (has r) (least size (has r))
unfolding has listed
has_rest_high r h e ne = member_same wide _ (lowered 1 (numbers r)) (two (λ i. get_or (0 ∷ bit_and r.high (r.high - 1) ∷ []) i 0 ≡ lowered 1 (numbers r) i) (sym e) refl) ∙ member_rest wide (numbers r) 1 (lit< tt) h ne (λ j l. let q : j ≡ 0 = omega arith in rw q e)

pub has_rest_none : (r : Row) → r.low ≡ 0 → r.high ≡ 0 → has r ≡ without (has r) (least size (has r))
has_rest_none r e f = rw (has_zero r e f)

-- ---- runs

-- a row is its runs
pub has_runs : (row : Row) (r s : Run) → RunOf row 0 r → RunOf row 1 s → has row ≡ either (ran r) (ran s)
unfolding has ran
has_runs row r s p q =
    rw (p.0, p.1, q.0, q.1)
    (member_is wide (numbers row) (either (member wide (alone 0 row.low)) (member wide (alone 1 row.high)))
    (λ b l. rw (member_out wide (alone 0 row.low) b l, member_out wide (alone 1 row.high) b l))
    (λ i b li lb. rw (member_bit wide (alone 0 row.low) i b li lb, member_bit wide (alone 1 row.high) i b li lb)
    (two (λ i. bit (numbers row i) b ≡ (bit (alone 0 row.low i) b || bit (alone 1 row.high i) b))
    (rw (bit_zero b) (sym (or-false (bit row.low b)))) (rw (bit_zero b)) i li)))

-- what is joined run by run is joined from the whole row
pub joined_row : (row : Row) (r s : Run) (q : Rel) (out x y : Set) → RunOf row 0 r → RunOf row 1 s → out ≡ either x y → x ≡ image size (ran r) q → y ≡ image size (ran s) q → out ≡ image size (has row) q
joined_row row r s q out x y p w e f g = e ∙ rw (f, g) (sym (image_or size (ran r) (ran s) q)) ∙ ap (λ (t : Set). image size t q) (sym (has_runs row r s p w))

-- and what is joined from the members below n, where the others are left out first
pub joined_before : (n : ℕ) (from these : Row) (q : Rel) (out : Set) → has these ≡ before (has from) n → out ≡ image size (has these) q → out ≡ image n (has from) q
joined_before n from these q out cut e = e ∙ rw cut (image_before size n (has from) q (has_out from))

pub joined_runs : (n : ℕ) (from these : Row) (r s : Run) (q : Rel) (out x y : Set) → has these ≡ before (has from) n → RunOf these 0 r → RunOf these 1 s
    → out ≡ either x y → x ≡ image size (ran r) q → y ≡ image size (ran s) q → out ≡ image n (has from) q
joined_runs n from these r s q out x y cut p w e f g = joined_before n from these q out cut (joined_row these r s q out x y p w e f g)

module _ (r : Run) (inside : r.index < wide) where
  pub ran_none : r.word ≡ 0 → any size (ran r) ≡ false
  unfolding ran
  ran_none e = alone_none wide r.index r.word inside e

  pub ran_out : (b : ℕ) → size ≤ b → ran r b ≡ false
  unfolding ran
  ran_out b l = member_out wide (alone r.index r.word) b l

  module _ (low : r.word < 2 ^ width) where
    pub ran_some : (r.word ≡ 0 → ⊥) → any size (ran r) ≡ true
    unfolding ran
    ran_some ne = alone_some wide r.index r.word inside low ne

    pub ran_least : any size (ran r) ≡ true → width * r.index + count_trailing_zeros width r.word ≡ least size (ran r)
    unfolding ran
    ran_least some = alone_least wide r.index r.word inside low (λ e. not_both some (ran_none e))

    pub ran_rest : (r.word ≡ 0 → ⊥) → ran (record { word = bit_and r.word (r.word - 1); index = r.index }) ≡ without (ran r) (least size (ran r))
    unfolding ran
    ran_rest ne = alone_rest wide r.index r.word inside low ne

    -- a run gives its lowest bit
    pub ran_takes : (r.word ≡ 0 → ⊥) → TakesLeast (ran r) (width * r.index + count_trailing_zeros width r.word) (ran (record { word = bit_and r.word (r.word - 1); index = r.index }))
    ran_takes ne = record { some = ran_some ne; first = ran_least (ran_some ne); others = ran_rest ne }

  pub ran_rest_none : r.word ≡ 0 → ran r ≡ without (ran r) (least size (ran r))
  ran_rest_none e = fun_ext λ b. ⊎_elim
      (λ (l : b < size). rw (any_no size (ran r) (ran_none e) b l))
      (λ (l : size ≤ b). rw (ran_out b l))
      (lt_or_le b size)

-- ---- the rows of a part

-- past its rows a part has nothing
pub held_out : (d : List ℕ) (k a : ℕ) → size ≤ a → held d k a ≡ none
unfolding held
held_out d k a l = rw (le-ltb a size l, and-false (whole d k))

-- nor has a part that is not whole
pub held_short : (d : List ℕ) (k : ℕ) → length d < area * k + area → held d k ≡ never
unfolding held
held_short d k l = fun_ext λ a. rw (lt-leb (area * k + area) (length d) l)

-- where a test says so
pub held_untold : (d : List ℕ) (k : ℕ) {r : Bool} → r ≡ whole d k → not r ≡ true → held d k ≡ never
held_untold d k {r} e h = held_short d k (leb-false (area * k + area) (length d) (sym e ∙ not-true r h))

pub told_whole : (d : List ℕ) (k : ℕ) {r : Bool} → r ≡ whole d k → not r ≡ false → area * k + area ≤ length d
told_whole d k {r} e h = leb-true (area * k + area) (length d) (sym e ∙ not-false r h)

-- a row is the members of its numbers
pub held_at : (d : List ℕ) (k a : ℕ) → a < size → area * k + area ≤ length d → held d k a ≡ member wide (cell d k a)
unfolding held
held_at d k a l fits = rw (le-leb (area * k + area) (length d) fits, lt-ltb a size l)

pub held_two : (d : List ℕ) (k a : ℕ) (r : Row) → a < size → area * k + area ≤ length d → r.low ≡ get_or d (area * k + wide * a) 0 → r.high ≡ get_or d (area * k + wide * a + 1) 0 → has r ≡ held d k a
unfolding has
held_two d k a r l fits e f =
    member_same wide (numbers r) (cell d k a) (two (λ i. numbers r i ≡ cell d k a i) (e ∙ ap (λ (m : ℕ). get_or d m 0) (sym (add-zero (area * k + wide * a)))) f) ∙ sym (held_at d k a l fits)

-- past its columns a part has nothing
pub held_wide : (d : List ℕ) (k a b : ℕ) → size ≤ b → held d k a b ≡ false
unfolding held
held_wide d k a b l = rw (member_out wide (cell d k a) b l) (and-false (whole d k && ltb a size))

pub held_empty : (d : List ℕ) (k a : ℕ) → any size (held d k a) ≡ false → held d k a ≡ none
held_empty d k a e = fun_ext λ b. ⊎_elim (any_no size (held d k a) e b) (held_wide d k a b) (lt_or_le b size)

-- a slice of zeros holds nothing, however long
zeros_at : (m i : ℕ) → get_or {A = ℕ} (replicate m 0) i 0 ≡ 0
zeros_at zero i = refl
zeros_at (suc m) zero = refl
zeros_at (suc m) (suc i) = zeros_at m i

pub zeros_none : (m k a : ℕ) → held (replicate m 0) k a ≡ none
unfolding held
zeros_none m k a = rw (member_zero wide (cell (replicate m 0) k a) (λ i l. zeros_at m (area * k + wide * a + i))) (fun_ext λ b. and-false (whole (replicate m 0) k && ltb a size))

-- a part's row leads to one of a alone: it leads to a
pub held_to : (d : List ℕ) (k c a : ℕ) → any size (both (held d k c) (before (single a) size)) ≡ held d k c a
held_to d k c a = ⊎_elim
    (λ (l : a < size). any_ext size _ _ (λ b m. rw (lt-ltb b size m, and-true (eqb b a)) (and_comm (held d k c b) (eqb b a))) ∙ any_at size a (held d k c) l)
    (λ (l : size ≤ a). any_none size _ (λ b m. rw (ne_eqb b a (λ q. omega arith)) (and-false (held d k c b))) ∙ sym (held_wide d k c a l))
    (lt_or_le a size)

-- two parts with the same numbers
pub held_same : (s t : List ℕ) (j k : ℕ) → whole s j ≡ whole t k → ((m : ℕ) → m < area → get_or s (area * j + m) 0 ≡ get_or t (area * k + m) 0) → held s j ≡ held t k
unfolding held
held_same s t j k there h = fun_ext λ a. ⊎_elim
    (λ (l : a < size). rw (
      there,
      member_same wide (cell s j a) (cell t k a)
          (λ i li.
          let p : area * j + wide * a + i ≡ area * j + (wide * a + i) = omega arith in
          let q : area * k + wide * a + i ≡ area * k + (wide * a + i) = omega arith in
          rw (p, q) (h (wide * a + i) (omega arith))),
    ))
    (λ (l : size ≤ a). held_out s j a l ∙ sym (held_out t k a l))
    (lt_or_le a size)

-- ---- a row stored

-- f 0 .. f (w - 1) written from i on
unfoldable wrote : ℕ → (ℕ → ℕ) → ℕ → List ℕ → List ℕ
wrote zero f i d = d
wrote (suc w) f i d = set (wrote w f i d) (i + w) (f w)

wrote_length : (w : ℕ) (f : ℕ → ℕ) (i : ℕ) (d : List ℕ) → length (wrote w f i d) ≡ length d
unfolding wrote
wrote_length zero f i d = refl
wrote_length (suc w) f i d = length-set (wrote w f i d) (i + w) (f w) ∙ wrote_length w f i d

wrote_here : (w : ℕ) (f : ℕ → ℕ) (i : ℕ) (d : List ℕ) → i + w ≤ length d → (m : ℕ) → m < w → get_or (wrote w f i d) (i + m) 0 ≡ f m
unfolding wrote
wrote_here zero f i d h m l = absurd (omega arith)
wrote_here (suc w) f i d h m l = ⊎_elim
    (λ (e : m ≡ w). rw e (get_or-set_same (wrote w f i d) (i + w) (f w) 0 (omega (arith, wrote_length w f i d))))
    (λ (k : m < w). get_or-set_other (wrote w f i d) (i + w) (i + m) (f w) 0 (λ q. omega arith) ∙ wrote_here w f i d (omega arith) m k)
    (top m w l)

wrote_other : (w : ℕ) (f : ℕ → ℕ) (i : ℕ) (d : List ℕ) (m : ℕ) → ((x : ℕ) → x < w → m ≡ i + x → ⊥) → get_or (wrote w f i d) m 0 ≡ get_or d m 0
unfolding wrote
wrote_other zero f i d m h = refl
wrote_other (suc w) f i d m h =
    get_or-set_other (wrote w f i d) (i + w) m (f w) 0 (h w (omega arith)) ∙ wrote_other w f i d m (λ x l. h x (omega arith))

module _ (d : List ℕ) (k a : ℕ) (f : ℕ → ℕ) (la : a < size) (fits : area * k + area ≤ length d) where
  abbrev after_write : List ℕ
  after_write = wrote wide f (area * k + wide * a) d

  -- a row of which no number was written
  held_else : (j x : ℕ) → ((i : ℕ) → i < wide → cell after_write j x i ≡ cell d j x i) → held after_write j x ≡ held d j x
  unfolding held
  held_else j x h = rw (wrote_length wide f (area * k + wide * a) d, member_same wide (cell after_write j x) (cell d j x) h)

  held_wrote : (j x : ℕ) → held after_write j x ≡ cond (eqb j k && eqb x a) (member wide f) (held d j x)
  held_wrote j x = ⊎_elim
      (λ (l : x < size). ⊎_elim
      (λ (e : j ≡ k). ⊎_elim
      (λ (g : x ≡ a). rw (e, g, eq-eqb k k refl, eq-eqb a a refl)
      (held_at after_write k a la (omega (arith, wrote_length wide f (area * k + wide * a) d)) ∙ member_same wide (cell after_write k a) f (wrote_here wide f (area * k + wide * a) d (omega arith))))
      (λ (g : x ≡ a → ⊥). rw (e, eq-eqb k k refl, ne_eqb x a g) (held_else k x (λ i li. wrote_other wide f (area * k + wide * a) d (area * k + wide * x + i) (λ y ly q. g (omega arith)))))
      (eq_or_ne x a))
      (λ (e : j ≡ k → ⊥). rw (ne_eqb j k e) (held_else j x (λ i li. wrote_other wide f (area * k + wide * a) d (area * j + wide * x + i) (λ y ly q. e (omega arith)))))
      (eq_or_ne j k))
      (λ (l : size ≤ x). let g : x ≡ a → ⊥ = λ q. omega arith in rw (held_out after_write j x l, held_out d j x l, ne_eqb x a g, and-false (eqb j k)))
      (lt_or_le x size)

pub held_put : (d : List ℕ) (k a : ℕ) (r : Row) → a < size → area * k + area ≤ length d → (j x : ℕ)
    → held (set (set d (area * k + wide * a) r.low) (area * k + wide * a + 1) r.high) j x ≡ cond (eqb j k && eqb x a) (has r) (held d j x)
unfolding has wrote
held_put d k a r la fits j x =
    ap (λ (m : ℕ). held (set (set d m r.low) (area * k + wide * a + 1) r.high) j x) (sym (add-zero (area * k + wide * a)))
    ∙ held_wrote d k a (numbers r) la fits j x

-- ---- a part's numbers written one after another

-- the first m numbers of part k are those of part i of s, all others as in d
abbrev pub Copied : List ℕ → ℕ → List ℕ → ℕ → ℕ → List ℕ → Type 0
Copied s i d k m now = (x : ℕ) → get_or now x 0 ≡ cond (leb (area * k) x && ltb x (area * k + m)) (get_or s (area * i + (x - area * k)) 0) (get_or d x 0)

module _ (s : List ℕ) (i : ℕ) (d : List ℕ) (k : ℕ) where
  pub copied_none : Copied s i d k 0 d
  copied_none x = ⊎_elim
      (λ (l : x < area * k). rw (lt-leb (area * k) x l))
      (λ (l : area * k ≤ x). let p : area * k + 0 ≤ x = omega arith in rw (le-ltb x (area * k + 0) p, and-false (leb (area * k) x)))
      (lt_or_le x (area * k))

  pub copied_more : (m : ℕ) (now : List ℕ) → area * k + m < length now → Copied s i d k m now → Copied s i d k (m + 1) (set now (area * k + m) (get_or s (area * i + m) 0))
  copied_more m now inside h x = ⊎_elim
      (λ (e : x ≡ area * k + m).
      let p : area * k ≤ area * k + m = omega arith in
      let q : area * k + m < area * k + (m + 1) = omega arith in
      let z : area * k + m - area * k ≡ m = omega arith in
      rw (e, le-leb (area * k) (area * k + m) p, lt-ltb (area * k + m) (area * k + (m + 1)) q, z) (get_or-set_same now (area * k + m) (get_or s (area * i + m) 0) 0 inside))
      (λ (ne : x ≡ area * k + m → ⊥).
      let same : ltb x (area * k + m) ≡ ltb x (area * k + (m + 1)) = same_lt x (area * k + m) x (area * k + (m + 1)) (λ l. omega arith) (λ l. omega arith) in
      get_or-set_other now (area * k + m) x (get_or s (area * i + m) 0) 0 ne ∙ h x ∙ rw same)
      (eq_or_ne x (area * k + m))

  pub copied_done : (now : List ℕ) → length now ≡ length d → area * i + area ≤ length s → area * k + area ≤ length d → Copied s i d k area now → (j : ℕ) → held now j ≡ cond (eqb j k) (held s i) (held d j)
  copied_done now e from to h j = ⊎_elim
      (λ (q : j ≡ k). rw (q, eq-eqb k k refl) (held_same now s k i (le-leb (area * k + area) (length now) (omega arith) ∙ sym (le-leb (area * i + area) (length s) from)) (λ m l.
      let p : area * k ≤ area * k + m = omega arith in
      let r : area * k + m < area * k + area = omega arith in
      let z : area * k + m - area * k ≡ m = omega arith in
      h (area * k + m) ∙ rw (le-leb (area * k) (area * k + m) p, lt-ltb (area * k + m) (area * k + area) r, z))))
      (λ (ne : j ≡ k → ⊥). rw (ne_eqb j k ne) (held_same now d j j (ap (leb (area * j + area)) e) (λ m l. h (area * j + m) ∙ ⊎_elim
      (λ (b : j < k). let p : area * j + m < area * k = omega arith in rw (lt-leb (area * k) (area * j + m) p))
      (λ (b : k ≤ j). let p : area * k + area ≤ area * j + m = omega arith in rw (le-ltb (area * j + m) (area * k + area) p, and-false (leb (area * k) (area * j + m))))
      (lt_or_le j k))))
      (eq_or_ne j k)

-- ---- a part lent as `&mut s[area * z .. area * z + area]`

-- the store s with ys in the place of its part z, as it comes back
abbrev pub back : ℕ → List ℕ → List ℕ → List ℕ
back z s ys = put_mid (area * z) (area * z + area - area * z) s ys

module _ (z : ℕ) (s ys : List ℕ) (fits : area * z + area ≤ length s) (long : length ys ≡ area) where
  back_here : (a : ℕ) → a < area → get_or (back z s ys) (area * z + a) 0 ≡ get_or ys a 0
  back_here a l =
      let e : length (take (area * z) s) ≡ area * z = length-take-le (area * z) s (omega arith) in
      ap (λ (k : ℕ). get_or (back z s ys) (k + a) 0) (sym e) ∙ get_or-append-add (take (area * z) s) (ys ++ drop (area * z + area - area * z) (drop (area * z) s)) a 0
      ∙ get_or-append ys (drop (area * z + area - area * z) (drop (area * z) s)) 0 a (omega arith)

  back_length : length (back z s ys) ≡ length s
  back_length =
      let e : area * z + area - area * z ≡ area = omega arith in
      same_len_mid (area * z) (area * z + area - area * z) s ys (long ∙ sym (mid_len (area * z) (area * z + area) s fits ∙ e))

  back_before : (i : ℕ) → i < area * z → get_or (back z s ys) i 0 ≡ get_or s i 0
  back_before i h =
      sym (get_or-take (area * z) (back z s ys) i 0 h) ∙ ap (λ (l : List ℕ). get_or l i 0) (take_put (area * z) (area * z + area - area * z) s ys (omega arith)) ∙ get_or-take (area * z) s i 0 h

  back_after : (i : ℕ) → area * z + area ≤ i → get_or (back z s ys) i 0 ≡ get_or s i 0
  back_after i h =
      let e = area * z + area in
      let q : i ≡ e + (i - e) = omega arith in
      ap (λ (k : ℕ). get_or (back z s ys) k 0) q ∙ sym (get_or-drop e (back z s ys) (i - e) 0)
      ∙ ap (λ (l : List ℕ). get_or l (i - e) 0) (drop_put (area * z) e s ys (omega arith) fits (omega arith))
      ∙ get_or-drop e s (i - e) 0 ∙ ap (λ (k : ℕ). get_or s k 0) (sym q)

  -- part z is what was put there, and the others are as they were
  pub held_lent : (j : ℕ) → held (back z s ys) j ≡ cond (eqb j z) (held ys 0) (held s j)
  held_lent j = ⊎_elim
      (λ (e : j ≡ z). rw (e, eq-eqb z z refl) (held_same (back z s ys) ys z 0 (le-leb (area * z + area) (length (back z s ys)) (omega (arith, back_length)) ∙ sym (le-leb (area * 0 + area) (length ys) (omega arith)))
      (λ a l. let q : area * 0 + a ≡ a = omega arith in rw (q, back_here a l))))
      (λ (ne : j ≡ z → ⊥). rw (ne_eqb j z ne) (held_same (back z s ys) s j j (ap (leb (area * j + area)) back_length) (λ a l.
      ⊎_elim (λ (h : j < z). back_before (area * j + a) (omega arith)) (λ (h : z ≤ j). back_after (area * j + a) (omega arith)) (lt_or_le j z))))
      (eq_or_ne j z)

-- a part read as `&s[area * z .. area * z + area]`
module _ (z : ℕ) (s : List ℕ) (fits : area * z + area ≤ length s) where
  abbrev part : List ℕ
  part = slice_range s (area * z) (area * z + area)

  pub part_length : length part ≡ area
  part_length = mid_len (area * z) (area * z + area) s fits ∙ omega arith

  pub held_part : held part 0 ≡ held s z
  held_part = held_same part s 0 z (le-leb area (length part) (omega (arith, part_length)) ∙ sym (le-leb (area * z + area) (length s) fits))
      (λ m l. rw (zero-add m) (get_or-take (area * z + area - area * z) (drop (area * z) s) m 0 (omega arith) ∙ get_or-drop (area * z) s m 0))

-- ---- the numbers of a slice from what it holds

-- every number of the slice is a machine's
abbrev pub Words : List ℕ → Type 0
Words s = (i : ℕ) → get_or s i 0 < 2 ^ width

-- a row is the bits of its two halves
pub held_halves : (s : List ℕ) → Words s → (k a : ℕ) → a < size → area * k + area ≤ length s → held s k a ≡ bit (get_or s (area * k + wide * a + 1) 0 * 2 ^ width + get_or s (area * k + wide * a) 0)
held_halves s w k a l fits =
    let lo = get_or s (area * k + wide * a) 0 in
    let hi = get_or s (area * k + wide * a + 1) 0 in
    sym (held_two s k a (record { low = lo; high = hi }) l fits refl refl) ∙ has_of_halves lo hi (w (area * k + wide * a)) (w (area * k + wide * a + 1))

-- number i of a slice is that of row i % area / wide of part i / area
place_of : (i : ℕ) → area * (i / area) + wide * (i % area / wide) + i % area % wide ≡ i
place_of i = omega arith

pub held_number : (s : List ℕ) → Words s → (i : ℕ) → area * (i / area) + area ≤ length s → get_or s i 0 ≡ digit (held s (i / area) (i % area / wide)) (i % area % wide)
held_number s w i fits =
    let k = i / area in
    let a = i % area / wide in
    let h = i % area % wide in
    let la : a < size = omega arith in
    ap (λ (m : ℕ). get_or s m 0) (sym (place_of i)) ∙ digit_member wide (cell s k a) h (omega arith) (w (area * k + wide * a + h)) ∙ ap (λ (t : Set). digit t h) (sym (held_at s k a la fits))
