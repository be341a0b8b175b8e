-- Rows of w numbers, for every w: the machine's operations number by number as set operations.
use Rattle.std.specs.Prelude.{ℕ, zero, suc, ◌+◌, ◌-◌, ◌*◌, ◌/◌, ◌%◌, ◌^◌, ◌≤◌, ◌<◌, Bool, true, false, not, ◌&&◌, ◌||◌, cond, ◌≡◌, refl, eqb, ltb}
use Rattle.std.proofs.Math.Bool.{and-true, and-false}
use Rattle.std.proofs.Common.{⊎_elim, sym, ap, ap₂, ◌∙◌, mod-lt, mul-suc, arith, lit<, pow_pos, lt-ltb, le-ltb, eq-eqb, ne_eqb}
use Rattle.std.proofs.Math.Path.{fun_ext}
use Rattle.std.specs.Int.Bits.{bit_and, bit_or}
use Rattle.std.specs.Int.Count.{ones, count_trailing_zeros}
use Rattle.std.proofs.Math.Pow.{pow-lt}
use Rattle.rows.proofs.Laws.Bits.{bit_rest, bit_zero, shl_one, bit_shl, bit_ones, bit_of_or, bit_of_and, bit_not, bit_ext, number_lt, number_bit, ones_count, trailing_least, zero_none}
use Rattle.rows.specs.Laws.Lists.{listed_same}
use Rattle.rows.proofs.Laws.Quantifiers.{any_none, any_no, least_is, least_eq, count_ext, count_split}
use Rattle.rows.specs.Laws.Truth.{same_lt, same_eq, test, lt_or_le, eq_or_ne}
use Rattle.rows.specs.Numbers.{bit, listed, width, member, digit, alone}
use Rattle.rows.specs.Sets.{Set, any, least, count, sum, none, both, either, less, single, without, before}

-- ---- one member

pub member_at : (w : ℕ) (f : ℕ → ℕ) (b : ℕ) → b < width * w → member w f b ≡ bit (f (b / width)) (b % width)
unfolding member
member_at w f b l = rw (lt-ltb b (width * w) l)

pub member_out : (w : ℕ) (f : ℕ → ℕ) (b : ℕ) → width * w ≤ b → member w f b ≡ false
unfolding member
member_out w f b l = rw (le-ltb b (width * w) l)

-- bit b of number i
pub member_bit : (w : ℕ) (f : ℕ → ℕ) (i b : ℕ) → i < w → b < width → member w f (width * i + b) ≡ bit (f i) b
member_bit w f i b li lb =
    let q : (width * i + b) / width ≡ i = omega arith in
    let m : (width * i + b) % width ≡ b = omega arith in
    member_at w f (width * i + b) (omega arith) ∙ rw (q, m)

-- what holds of a set bit by bit
pub member_is : (w : ℕ) (f : ℕ → ℕ) (s : Set) → ((b : ℕ) → width * w ≤ b → s b ≡ false) → ((i b : ℕ) → i < w → b < width → bit (f i) b ≡ s (width * i + b)) → member w f ≡ s
member_is w f s out h = fun_ext λ b. ⊎_elim
    (λ (l : b < width * w).
    let q : width * (b / width) + b % width ≡ b = omega arith in
    member_at w f b l ∙ h (b / width) (b % width) (omega arith) (mod-lt b (lit< tt)) ∙ ap s q)
    (λ (l : width * w ≤ b). member_out w f b l ∙ sym (out b l))
    (lt_or_le b (width * w))

-- rows of the same numbers
pub member_same : (w : ℕ) (f g : ℕ → ℕ) → ((i : ℕ) → i < w → f i ≡ g i) → member w f ≡ member w g
member_same w f g h = member_is w f (member w g) (member_out w g) (λ i b li lb. rw (h i li) (sym (member_bit w g i b li lb)))

-- .. listed
pub member_listed : (w : ℕ) (f g : ℕ → ℕ) → listed w f ≡ listed w g → member w f ≡ member w g
member_listed w f g e = member_same w f g (listed_same w f g e)

-- ---- number by number

member_op : (op : Bool → Bool → Bool) (w : ℕ) (f g h : ℕ → ℕ) → op false false ≡ false → ((i b : ℕ) → i < w → b < width → bit (h i) b ≡ op (bit (f i) b) (bit (g i) b)) → member w h ≡ λ b. op (member w f b) (member w g b)
member_op op w f g h e each =
    member_is w h (λ b. op (member w f b) (member w g b))
    (λ b l. rw (member_out w f b l, member_out w g b l) e)
    (λ i b li lb. rw (member_bit w f i b li lb, member_bit w g i b li lb) (each i b li lb))

pub member_and : (w : ℕ) (f g : ℕ → ℕ) → member w (λ i. bit_and (f i) (g i)) ≡ both (member w f) (member w g)
member_and w f g = member_op ◌&&◌ w f g _ refl (λ i b li lb. bit_of_and (f i) (g i) b)

pub member_or : (w : ℕ) (f g : ℕ → ℕ) → member w (λ i. bit_or (f i) (g i)) ≡ either (member w f) (member w g)
member_or w f g = member_op ◌||◌ w f g _ refl (λ i b li lb. bit_of_or (f i) (g i) b)

-- `x & !y`
pub member_less : (w : ℕ) (f g : ℕ → ℕ) → ((i : ℕ) → i < w → g i < 2 ^ width) → member w (λ i. bit_and (f i) (2 ^ width - 1 - g i)) ≡ less (member w f) (member w g)
member_less w f g low =
    member_op (λ s t. s && not t) w f g _ refl
    (λ i b li lb. bit_of_and (f i) (2 ^ width - 1 - g i) b ∙ ap (λ (t : Bool). bit (f i) b && t) (bit_not width (g i) b (low i li) lb))

pub member_zero : (w : ℕ) (f : ℕ → ℕ) → ((i : ℕ) → i < w → f i ≡ 0) → member w f ≡ none
member_zero w f h = member_is w f none (λ b l. refl) (λ i b li lb. rw (h i li) (bit_zero b))

-- ---- from sets to numbers and back

pub digit_lt : (s : Set) (i : ℕ) → digit s i < 2 ^ width
unfolding digit
digit_lt s i = number_lt width (λ b. s (width * i + b))

pub digit_bit : (s : Set) (i b : ℕ) → b < width → bit (digit s i) b ≡ s (width * i + b)
unfolding digit
digit_bit s i b l = number_bit width (λ b. s (width * i + b)) b l

-- a number with the set's bits is the set's
pub digit_is : (s : Set) (i x : ℕ) → x < 2 ^ width → ((b : ℕ) → b < width → bit x b ≡ s (width * i + b)) → x ≡ digit s i
digit_is s i x low h = bit_ext width x (digit s i) low (digit_lt s i) (λ b l. h b l ∙ sym (digit_bit s i b l))

pub member_digit : (w : ℕ) (s : Set) → member w (digit s) ≡ before s (width * w)
member_digit w s =
    member_is w (digit s) (before s (width * w))
    (λ b l. rw (le-ltb b (width * w) l) (and-false (s b)))
    (λ i b li lb. let m : width * i + b < width * w = omega arith in digit_bit s i b lb ∙ rw (lt-ltb (width * i + b) (width * w) m) (sym (and-true (s (width * i + b)))))

pub digit_member : (w : ℕ) (f : ℕ → ℕ) (i : ℕ) → i < w → f i < 2 ^ width → f i ≡ digit (member w f) i
digit_member w f i li low = digit_is (member w f) i (f i) low (λ b lb. sym (member_bit w f i b li lb))

-- ---- none, the lowest, how many

pub member_none : (w : ℕ) (f : ℕ → ℕ) → ((i : ℕ) → i < w → f i ≡ 0) → any (width * w) (member w f) ≡ false
member_none w f h = rw (member_zero w f h) (any_none (width * w) none (λ b l. refl))

pub member_no : (w : ℕ) (f : ℕ → ℕ) → any (width * w) (member w f) ≡ false → (i : ℕ) → i < w → f i < 2 ^ width → f i ≡ 0
member_no w f e i li low =
    zero_none width (f i) low (any_none width (bit (f i)) (λ b lb. sym (member_bit w f i b li lb) ∙ any_no (width * w) (member w f) e (width * i + b) (omega arith)))

-- number i is the first that is not 0, or the last
pub member_least : (w : ℕ) (f : ℕ → ℕ) (i : ℕ) → i < w → f i < 2 ^ width → ((j : ℕ) → j < i → f j ≡ 0) → ((f i ≡ 0) → suc i ≡ w) → width * i + count_trailing_zeros width (f i) ≡ least (width * w) (member w f)
member_least w f i li low zeros last =
    let q = least_is width (bit (f i)) in
    let t = least width (bit (f i)) in
    ap (λ (x : ℕ). width * i + x) (trailing_least width (f i))
    ∙ sym (least_eq (width * w) (member w f) (width * i + t) (record {
      bound = omega (arith, q.bound);
      hit = λ l. ⊎_elim
          (λ (k : t < width). member_bit w f i t li k ∙ q.hit k)
          (λ (k : width ≤ t). let e : suc i ≡ w = last (zero_none width (f i) low (any_none width (bit (f i)) (λ b lb. q.miss b (omega arith)))) in absurd (omega arith))
          (lt_or_le t width);
      miss = λ b l.
          let m : b < width * w = omega (arith, q.bound) in
          member_at w f b m ∙ ⊎_elim
          (λ (k : b / width < i). rw (zeros (b / width) k) (bit_zero (b % width)))
          (λ (k : i ≤ b / width). let e : b / width ≡ i = omega (arith, q.bound) in rw e (q.miss (b % width) (omega arith)))
          (lt_or_le (b / width) i);
    }))

pub member_count : (w : ℕ) (f : ℕ → ℕ) → ((i : ℕ) → i < w → f i < 2 ^ width) → sum w (λ i. ones (f i)) ≡ count (width * w) (member w f)
unfolding sum count
member_count zero f low = refl
member_count (suc w) f low =
    ap₂ (λ (x y : ℕ). x + y)
    (member_count w f (λ i l. low i (omega arith))
    ∙ count_ext (width * w) (member w f) (member (suc w) f) (λ b l. member_at w f b l ∙ sym (member_at (suc w) f b (omega arith))))
    (ones_count width (f w) (low w (omega arith))
    ∙ count_ext width (bit (f w)) (λ b. member (suc w) f (width * w + b)) (λ b l. sym (member_bit (suc w) f w b (omega arith) l)))
    ∙ sym (count_split (width * w) width (member (suc w) f))
    ∙ ap (λ (n : ℕ). count n (member (suc w) f)) (sym (mul-suc width w))

-- ---- the rows of one number, and of the numbers below one

pub one_here : (b i : ℕ) → b / width ≡ i → 1 * 2 ^ (b % width) % 2 ^ width ≡ digit (single b) i
one_here b i e =
    let l : b % width < width = mod-lt b (lit< tt) in
    digit_is (single b) i (1 * 2 ^ (b % width) % 2 ^ width) (mod-lt _ (pow_pos width)) (λ x lx. bit_shl width (b % width) x l ∙ same_eq x (b % width) (width * i + x) b (λ q. omega arith) (λ q. omega arith))

pub one_there : (b i : ℕ) → (b / width ≡ i → ⊥) → 0 ≡ digit (single b) i
one_there b i ne = digit_is (single b) i 0 (pow_pos width) (λ x lx. bit_zero x ∙ sym (ne_eqb (width * i + x) b (λ q. ne (omega arith))))

pub ones_past : (n i : ℕ) → n / width < i → 0 ≡ digit (λ b. ltb b n) i
ones_past n i l = digit_is (λ b. ltb b n) i 0 (pow_pos width) (λ x lx. bit_zero x ∙ sym (le-ltb (width * i + x) n (omega arith)))

pub ones_here : (n i : ℕ) → n / width ≡ i → 1 * 2 ^ (n % width) % 2 ^ width - 1 ≡ digit (λ b. ltb b n) i
ones_here n i e =
    let l : n % width < width = mod-lt n (lit< tt) in
    let q : 1 * 2 ^ (n % width) % 2 ^ width - 1 ≡ 2 ^ (n % width) - 1 = ap (λ (x : ℕ). x - 1) (shl_one width (n % width) l) in
    q ∙ digit_is (λ b. ltb b n) i (2 ^ (n % width) - 1) (omega (arith, pow-lt l, pow_pos (n % width)))
    (λ x lx. bit_ones (n % width) x ∙ same_lt x (n % width) (width * i + x) n (λ h. omega arith) (λ h. omega arith))

pub ones_all : (n i : ℕ) → i < n / width → 2 ^ width - 1 ≡ digit (λ b. ltb b n) i
ones_all n i l =
    digit_is (λ b. ltb b n) i (2 ^ width - 1) (omega (arith, pow_pos width))
    (λ x lx. let m : width * i + x < n = omega arith in bit_ones width x ∙ lt-ltb x width lx ∙ sym (lt-ltb (width * i + x) n m))

-- ---- without the lowest member

-- number i without its lowest bit, the others as they are
abbrev pub lowered : ℕ → (ℕ → ℕ) → ℕ → ℕ
lowered i f j = cond (eqb j i) (bit_and (f j) (f j - 1)) (f j)

pub member_rest : (w : ℕ) (f : ℕ → ℕ) (i : ℕ) → i < w → f i < 2 ^ width → (f i ≡ 0 → ⊥) → ((j : ℕ) → j < i → f j ≡ 0) → member w (lowered i f) ≡ without (member w f) (least (width * w) (member w f))
member_rest w f i li low some zeros =
    let t = least width (bit (f i)) in
    let m : least (width * w) (member w f) ≡ width * i + t = sym (member_least w f i li low zeros (λ z. absurd (some z))) ∙ ap (λ (x : ℕ). width * i + x) (trailing_least width (f i)) in
    let inside : t < width = ⊎_elim (λ (l : t < width). l) (λ (l : width ≤ t). absurd (some (zero_none width (f i) low (any_none width (bit (f i)) (λ b lb. (least_is width (bit (f i))).miss b (omega arith)))))) (lt_or_le t width) in
    rw m (member_is w (lowered i f) (without (member w f) (width * i + t))
    (λ b l. rw (member_out w f b l))
    (λ j b lj lb. rw (member_bit w f j b lj lb) (⊎_elim
    (λ (e : j ≡ i). rw (e, eq-eqb i i refl) (bit_rest width (f i) b some low ∙ ap (λ (s : Bool). bit (f i) b && not s) (same_eq b t (width * i + b) (width * i + t) (λ q. omega arith) (λ q. omega arith))))
    (λ (ne : j ≡ i → ⊥). rw (ne_eqb j i ne, ne_eqb (width * j + b) (width * i + t) (λ q. ne (omega arith))) (sym (and-true (bit (f j) b))))
    (eq_or_ne j i))))

-- ---- one number of a row by itself

module _ (w i x : ℕ) (li : i < w) where
  alone_here : alone i x i ≡ x
  alone_here = rw (eq-eqb i i refl)

  alone_zero : (j : ℕ) → j < i → alone i x j ≡ 0
  alone_zero j l = rw (ne_eqb j i (λ q. omega arith))

  pub alone_none : x ≡ 0 → any (width * w) (member w (alone i x)) ≡ false
  alone_none e = member_none w (alone i x) (λ j l. ⊎_elim (λ (q : j ≡ i). rw (q, eq-eqb i i refl) e) (λ (ne : j ≡ i → ⊥). rw (ne_eqb j i ne)) (eq_or_ne j i))

  pub alone_some : x < 2 ^ width → (x ≡ 0 → ⊥) → any (width * w) (member w (alone i x)) ≡ true
  alone_some low ne = ⊎_elim (λ e. e) (λ e. absurd (ne (sym alone_here ∙ member_no w (alone i x) e i li (rw alone_here low)))) (test (any (width * w) (member w (alone i x))))

  pub alone_least : x < 2 ^ width → (x ≡ 0 → ⊥) → width * i + count_trailing_zeros width x ≡ least (width * w) (member w (alone i x))
  alone_least low ne = ap (λ (y : ℕ). width * i + count_trailing_zeros width y) (sym alone_here) ∙ member_least w (alone i x) i li (rw alone_here low) alone_zero (λ z. absurd (ne (sym alone_here ∙ z)))

  pub alone_rest : x < 2 ^ width → (x ≡ 0 → ⊥) → member w (alone i (bit_and x (x - 1))) ≡ without (member w (alone i x)) (least (width * w) (member w (alone i x)))
  alone_rest low ne =
      member_same w (alone i (bit_and x (x - 1))) (lowered i (alone i x)) (λ j l. ⊎_elim (λ (q : j ≡ i). rw (q, eq-eqb i i refl)) (λ (d : j ≡ i → ⊥). rw (ne_eqb j i d)) (eq_or_ne j i))
      ∙ member_rest w (alone i x) i li (rw alone_here low) (rw alone_here ne) alone_zero
