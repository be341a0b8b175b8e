-- The bits of a number: the machine's operations as set operations, numbers made of sets.
use Rattle.std.specs.Prelude.{ℕ, zero, suc, ◌+◌, ◌-◌, ◌*◌, ◌/◌, ◌%◌, ◌^◌, ◌≤◌, ◌<◌, Bool, true, false, not, ◌&&◌, ◌||◌, cond, ◌⊎◌, ◌≡◌, refl, ltb}
use Rattle.std.proofs.Common.{suc-le-suc, zero-le, true≢false, inl, inr, ⊎_elim, sym, ap₂, ◌∙◌, subst, le_of_suc-le-suc, not-suc-le-zero, lt_of_lt_of_le, mod-lt, div-add-mod', zero-lt-suc, pow-suc, mul-div_cancel, div-one, one-mul, mod-eq_of_lt, le_refl, add-zero, add-one, one-add, arith, pow_mono, shr-shr, shr_lt, pow_pos, lt-ltb, le-ltb}
use Rattle.std.proofs.Math.Bool.{and-true, and_self, or-false}
use Rattle.std.proofs.lemmas.Bool.{false≢true}
use Rattle.std.proofs.Math.Path.{ap, fun_ext}
use Rattle.std.proofs.Math.Nat.{div-eq_of_lt, mul-mod_left}
use Rattle.std.proofs.Math.Arith.{lt-one}
use Rattle.std.specs.Int.Bits.{bit_and, bit_or, or_shifted_r}
use Rattle.std.proofs.lemmas.Nat.{and_shr, or_shr, and_mod, or_mod}
use Rattle.std.specs.Int.Count.{ones, ones_step, count_trailing_zeros, under}
use Rattle.std.proofs.Math.Dec.{eqb, eqb-suc-suc, eqb-zero-suc, eqb-suc-zero}
use Rattle.std.proofs.Math.Pow.{pow-lt, high, low, field, mod-mod-pow}
use Rattle.rows.specs.Laws.Lists.{listed_at}
use Rattle.rows.proofs.Laws.Loops.{collect_none, collect_more}
use Rattle.rows.proofs.Laws.Quantifiers.{any_no, least_ext, least_front, count_ext, count_front}
use Rattle.rows.specs.Laws.Truth.{lt_or_le}
use Rattle.rows.specs.Numbers.{bit, number, rel, rows_of}
use Rattle.rows.specs.Sets.{Set, Rel, any, least, count, without, before}

-- ---- one bit

digit : (k : ℕ) → k < 2 → (k ≡ 0) ⊎ (k ≡ 1)
digit zero h = inl refl
digit (suc zero) h = inr refl
digit (suc (suc k)) h = absurd (not-suc-le-zero (le_of_suc-le-suc (le_of_suc-le-suc h)))

odd : (x : ℕ) → (x % 2 ≡ 0) ⊎ (x % 2 ≡ 1)
odd x = digit (x % 2) (mod-lt x (zero-lt-suc 1))

pub bit_low : (x : ℕ) → bit x 0 ≡ eqb (x % 2) 1
unfolding bit
bit_low x = ap (λ (y : ℕ). eqb (y % 2) 1) (div-one x)

pub bit_suc : (x b : ℕ) → bit x (suc b) ≡ bit (x / 2) b
unfolding bit
bit_suc x b = ap (λ (y : ℕ). eqb (y % 2) 1) (ap (λ (k : ℕ). x / 2 ^ k) (sym (one-add b)) ∙ sym (shr-shr x 1 b))

pub bit_shr : (x k b : ℕ) → bit (x / 2 ^ k) b ≡ bit x (k + b)
unfolding bit
bit_shr x k b = ap (λ (y : ℕ). eqb (y % 2) 1) (shr-shr x k b)

pub bit_zero : (b : ℕ) → bit 0 b ≡ false
unfolding bit
bit_zero zero = refl
bit_zero (suc b) = bit_suc 0 b ∙ bit_zero b

-- a number of k bits has none from k on
pub bit_above : (k x b : ℕ) → x < 2 ^ k → k ≤ b → bit x b ≡ false
unfolding bit
bit_above k x b h l = ap (λ (y : ℕ). eqb (y % 2) 1) (div-eq_of_lt (lt_of_lt_of_le h (pow_mono l)))

-- a number of two halves, the low one of k bits
pub bit_high_half : (k hi lo b : ℕ) → lo < 2 ^ k → bit (hi * 2 ^ k + lo) (k + b) ≡ bit hi b
bit_high_half k hi lo b h = sym (bit_shr (hi * 2 ^ k + lo) k b) ∙ ap (λ (y : ℕ). bit y b) (high hi k h)

bit_mod : (k x b : ℕ) → b < k → bit (x % 2 ^ k) b ≡ bit x b
unfolding bit
bit_mod k x b l =
    let j = k - 1 - b in
    let e : k ≡ j + 1 + b = omega arith in
    ap (λ (y : ℕ). eqb (y % 2) 1) (ap (λ (i : ℕ). x % 2 ^ i / 2 ^ b) e ∙ field x (j + 1) b) ∙ ap (λ (y : ℕ). eqb y 1) (mod-mod-pow (x / 2 ^ b) j 1)

pub bit_low_half : (k hi lo b : ℕ) → lo < 2 ^ k → b < k → bit (hi * 2 ^ k + lo) b ≡ bit lo b
bit_low_half k hi lo b h l = sym (bit_mod k (hi * 2 ^ k + lo) b l) ∙ ap (λ (y : ℕ). bit y b) (low hi k h)

-- 2 ^ k has bit k alone
pub bit_pow : (k b : ℕ) → bit (2 ^ k) b ≡ eqb b k
unfolding bit
bit_pow zero zero = refl
bit_pow zero (suc b) = bit_suc 1 b ∙ bit_zero b ∙ sym (eqb-suc-zero b)
bit_pow (suc k) zero = ap (λ (y : ℕ). eqb (y % 2) 1) (div-one (2 ^ suc k) ∙ pow-suc 2 k) ∙ ap (λ (y : ℕ). eqb y 1) (mul-mod_left (2 ^ k) 2) ∙ sym (eqb-zero-suc k)
bit_pow (suc k) (suc b) = bit_suc (2 ^ suc k) b ∙ ap (λ (y : ℕ). bit (y / 2) b) (pow-suc 2 k) ∙ ap (λ (y : ℕ). bit y b) (mul-div_cancel (2 ^ k) (zero-lt-suc 1)) ∙ bit_pow k b ∙ sym (eqb-suc-suc b k)

low_same : (x y : ℕ) → bit x 0 ≡ bit y 0 → x % 2 ≡ y % 2
low_same x y e = go (odd x) (odd y) (sym (bit_low x) ∙ e ∙ bit_low y)
  where
    go : (x % 2 ≡ 0) ⊎ (x % 2 ≡ 1) → (y % 2 ≡ 0) ⊎ (y % 2 ≡ 1) → eqb (x % 2) 1 ≡ eqb (y % 2) 1 → x % 2 ≡ y % 2
    go (inl p) (inl q) e = p ∙ sym q
    go (inl p) (inr q) e = absurd (false≢true (rw (p, q) at e))
    go (inr p) (inl q) e = absurd (true≢false (rw (p, q) at e))
    go (inr p) (inr q) e = p ∙ sym q

half : (k x : ℕ) → x < 2 ^ suc k → x / 2 < 2 ^ k
half k x h = shr_lt k 1 (subst (λ (j : ℕ). x < 2 ^ j) (sym (add-one k)) h)

-- two numbers of k bits with the same bits are equal
pub bit_ext : (k x y : ℕ) → x < 2 ^ k → y < 2 ^ k → ((b : ℕ) → b < k → bit x b ≡ bit y b) → x ≡ y
bit_ext zero x y hx hy h = lt-one hx ∙ sym (lt-one hy)
bit_ext (suc k) x y hx hy h =
    let same_half : x / 2 ≡ y / 2 = bit_ext k (x / 2) (y / 2) (half k x hx) (half k y hy) (λ b l. sym (bit_suc x b) ∙ h (suc b) (suc-le-suc l) ∙ bit_suc y b) in
    sym (div-add-mod' x 2) ∙ ap₂ (λ (p q : ℕ). p * 2 + q) same_half (low_same x y (h 0 (zero-lt-suc k))) ∙ div-add-mod' y 2

-- ---- the machine's operations

two : (x b : ℕ) → (x / 2 ^ b % 2 ≡ 0) ⊎ (x / 2 ^ b % 2 ≡ 1)
two x b = odd (x / 2 ^ b)

-- an operation on the digits, bit by bit
module _ (op : ℕ → ℕ → ℕ) (fun : Bool → Bool → Bool) (shr : (x y k : ℕ) → op x y / 2 ^ k ≡ op (x / 2 ^ k) (y / 2 ^ k)) (low : (x y k : ℕ) → op x y % 2 ^ k ≡ op (x % 2 ^ k) (y % 2 ^ k))
    (p00 : eqb (op 0 0) 1 ≡ fun false false) (p01 : eqb (op 0 1) 1 ≡ fun false true) (p10 : eqb (op 1 0) 1 ≡ fun true false) (p11 : eqb (op 1 1) 1 ≡ fun true true) where
  op_bit : (x y b : ℕ) → bit (op x y) b ≡ fun (bit x b) (bit y b)
  unfolding bit
  op_bit x y b = ap (λ (z : ℕ). eqb (z % 2) 1) (shr x y b) ∙ ap (λ (z : ℕ). eqb z 1) (low (x / 2 ^ b) (y / 2 ^ b) 1) ∙ go (two x b) (two y b)
    where
      go : (x / 2 ^ b % 2 ≡ 0) ⊎ (x / 2 ^ b % 2 ≡ 1) → (y / 2 ^ b % 2 ≡ 0) ⊎ (y / 2 ^ b % 2 ≡ 1)
          → eqb (op (x / 2 ^ b % 2) (y / 2 ^ b % 2)) 1 ≡ fun (eqb (x / 2 ^ b % 2) 1) (eqb (y / 2 ^ b % 2) 1)
      go (inl p) (inl q) = rw (p, q) p00
      go (inl p) (inr q) = rw (p, q) p01
      go (inr p) (inl q) = rw (p, q) p10
      go (inr p) (inr q) = rw (p, q) p11

pub bit_of_or : (x y b : ℕ) → bit (bit_or x y) b ≡ (bit x b || bit y b)
bit_of_or = op_bit bit_or ◌||◌ or_shr or_mod refl refl refl refl

pub bit_of_and : (x y b : ℕ) → bit (bit_and x y) b ≡ (bit x b && bit y b)
bit_of_and = op_bit bit_and ◌&&◌ and_shr and_mod refl refl refl refl

not_low : (p x : ℕ) → x < p * 2 → eqb ((p * 2 - 1 - x) % 2) 1 ≡ not (eqb (x % 2) 1)
not_low p x h =
    ⊎_elim (λ (e : x % 2 ≡ 0). let f : (p * 2 - 1 - x) % 2 ≡ 1 = omega arith in rw (e, f))
    (λ (e : x % 2 ≡ 1). let f : (p * 2 - 1 - x) % 2 ≡ 0 = omega arith in rw (e, f)) (odd x)

not_half : (p x : ℕ) → x < p * 2 → (p * 2 - 1 - x) / 2 ≡ p - 1 - x / 2
not_half p x h = omega arith

-- `!x` of a word of k bits
pub bit_not : (k x b : ℕ) → x < 2 ^ k → b < k → bit (2 ^ k - 1 - x) b ≡ not (bit x b)
bit_not zero x b h l = absurd (not-suc-le-zero l)
bit_not (suc k) x zero h l =
    ap (λ (q : ℕ). bit (q - 1 - x) 0) (pow-suc 2 k) ∙ bit_low (2 ^ k * 2 - 1 - x) ∙ not_low (2 ^ k) x (subst (λ (q : ℕ). x < q) (pow-suc 2 k) h) ∙ ap not (sym (bit_low x))
bit_not (suc k) x (suc b) h l =
    let h₂ : x < 2 ^ k * 2 = subst (λ (q : ℕ). x < q) (pow-suc 2 k) h in
    ap (λ (q : ℕ). bit (q - 1 - x) (suc b)) (pow-suc 2 k) ∙ bit_suc (2 ^ k * 2 - 1 - x) b ∙ ap (λ (q : ℕ). bit q b) (not_half (2 ^ k) x h₂)
    ∙ bit_not k (x / 2) b (half k x h) (le_of_suc-le-suc l) ∙ ap not (sym (bit_suc x b))

-- `1 << b` has bit b alone
pub shl_one : (k b : ℕ) → b < k → 1 * 2 ^ b % 2 ^ k ≡ 2 ^ b
shl_one k b l = ap (λ (x : ℕ). x % 2 ^ k) (one-mul (2 ^ b)) ∙ mod-eq_of_lt (pow-lt l)

pub bit_shl : (k b c : ℕ) → b < k → bit (1 * 2 ^ b % 2 ^ k) c ≡ eqb c b
bit_shl k b c l = ap (λ (z : ℕ). bit z c) (shl_one k b l) ∙ bit_pow b c

-- all ones
pub bit_ones : (k b : ℕ) → bit (2 ^ k - 1) b ≡ ltb b k
bit_ones k b =
    ⊎_elim
    (λ (l : b < k). let z : 2 ^ k - 1 ≡ 2 ^ k - 1 - 0 = omega arith in ap (λ (y : ℕ). bit y b) z ∙ bit_not k 0 b (pow_pos k) l ∙ ap not (bit_zero b) ∙ sym (lt-ltb b k l))
    (λ (l : k ≤ b). bit_above k (2 ^ k - 1) b (omega (arith, pow_pos k)) l ∙ sym (le-ltb b k l))
    (lt_or_le b k)

low_digit : (x : ℕ) → x % 2 ≡ cond (bit x 0) 1 0
low_digit x = ⊎_elim (λ (e : x % 2 ≡ 0). rw (bit_low x, e)) (λ (e : x % 2 ≡ 1). rw (bit_low x, e)) (odd x)

-- count of ones
pub ones_count : (k x : ℕ) → x < 2 ^ k → ones x ≡ count k (bit x)
unfolding ones count
ones_count zero x h = ap ones (lt-one h)
ones_count (suc k) x h =
    ones_step x
    ∙ ap₂ (λ (p q : ℕ). p + q) (low_digit x) (ones_count k (x / 2) (half k x h) ∙ count_ext k (bit (x / 2)) (λ c. bit x (suc c)) (λ c l. sym (bit_suc x c)))
    ∙ sym (count_front k (bit x))

-- trailing zeros
pub trailing_least : (k x : ℕ) → count_trailing_zeros k x ≡ least k (bit x)
unfolding count_trailing_zeros least
trailing_least zero x = refl
trailing_least (suc k) x =
    ap (under (x % 2)) (trailing_least k (x / 2) ∙ least_ext k (bit (x / 2)) (λ c. bit x (suc c)) (λ c l. sym (bit_suc x c)))
    ∙ pick (least k (λ c. bit x (suc c))) ∙ sym (least_front k (bit x))
  where
    pick : (t : ℕ) → under (x % 2) t ≡ cond (bit x 0) 0 (suc t)
    pick t = ⊎_elim (λ (e : x % 2 ≡ 0). rw (bit_low x, e)) (λ (e : x % 2 ≡ 1). rw (bit_low x, e)) (odd x)

-- a number is 0 just where it has no bit
pub zero_none : (k x : ℕ) → x < 2 ^ k → any k (bit x) ≡ false → x ≡ 0
zero_none k x h e = bit_ext k x 0 h (pow_pos k) (λ b l. any_no k (bit x) e b l ∙ sym (bit_zero b))

-- `x & (x - 1)` is without the lowest bit
pub bit_rest : (k x b : ℕ) → (x ≡ 0 → ⊥) → x < 2 ^ k → bit (bit_and x (x - 1)) b ≡ without (bit x) (least k (bit x)) b
bit_rest zero x b some h = absurd (some (lt-one h))
bit_rest (suc k) x b some h = bit_of_and x (x - 1) b ∙ rw (least_front k (bit x), bit_low x) (⊎_elim (even b (bit_rest k (x / 2))) (uneven b) (odd x))
  where
    later : ℕ
    later = least k (λ c. bit x (suc c))

    uneven : (b : ℕ) → x % 2 ≡ 1 → (bit x b && bit (x - 1) b) ≡ (bit x b && not (eqb b (cond (eqb (x % 2) 1) 0 (suc later))))
    uneven zero e = let f : (x - 1) % 2 ≡ 0 = omega arith in rw (bit_low x, bit_low (x - 1), e, f)
    uneven (suc b) e =
        let f : (x - 1) / 2 ≡ x / 2 = omega arith in
        rw (e, bit_suc (x - 1) b, f, ← bit_suc x b, eqb-suc-zero b, and-true (bit x (suc b))) (and_self (bit x (suc b)))

    even : (b : ℕ) → ((b : ℕ) → (x / 2 ≡ 0 → ⊥) → x / 2 < 2 ^ k → bit (bit_and (x / 2) (x / 2 - 1)) b ≡ without (bit (x / 2)) (least k (bit (x / 2))) b)
        → x % 2 ≡ 0 → (bit x b && bit (x - 1) b) ≡ (bit x b && not (eqb b (cond (eqb (x % 2) 1) 0 (suc later))))
    even zero ih e = rw (bit_low x, e)
    even (suc b) ih e =
        let f : (x - 1) / 2 ≡ x / 2 - 1 = omega arith in
        rw (e, bit_suc (x - 1) b, bit_suc x b, f, eqb-suc-suc b later, least_ext k (λ c. bit x (suc c)) (bit (x / 2)) (λ c l. bit_suc x c))
        (sym (bit_of_and (x / 2) (x / 2 - 1) b) ∙ ih b (λ z. some (omega arith)) (half k x h))

-- ---- numbers made of sets

pub number_lt : (n : ℕ) (s : Set) → number n s < 2 ^ n
unfolding number
number_lt zero s = le_refl 1
number_lt (suc n) s = rw (pow-suc 2 n) (omega (arith, number_lt n s, one_le (s n)))
  where
    one_le : (t : Bool) → cond t (2 ^ n) 0 ≤ 2 ^ n
    one_le true = le_refl (2 ^ n)
    one_le false = zero-le

-- one more bit on top
number_top : (n x : ℕ) (t : Bool) (b : ℕ) → x < 2 ^ n → bit (x + cond t (2 ^ n) 0) b ≡ (bit x b || (t && eqb b n))
number_top n x true b h =
    let e : x + 2 ^ n ≡ 1 * 2 ^ n + x = omega (arith, one-mul (2 ^ n)) in
    ap (λ (y : ℕ). bit y b) (e ∙ sym (or_shifted_r 1 n x h)) ∙ bit_of_or x (1 * 2 ^ n) b
    ∙ ap (λ (t : Bool). bit x b || t) (ap (λ (y : ℕ). bit y b) (one-mul (2 ^ n)) ∙ bit_pow n b)
number_top n x false b h = ap (λ (y : ℕ). bit y b) (add-zero x) ∙ sym (or-false (bit x b))

-- its bits are the members below n
pub number_bits : (n : ℕ) (s : Set) → bit (number n s) ≡ before s n
unfolding number
number_bits zero s = fun_ext bit_zero ∙ collect_none s
number_bits (suc n) s =
    (fun_ext λ b. number_top n (number n s) (s n) b (number_lt n s) ∙ ap (λ (f : Set). f b || (s n && eqb b n)) (number_bits n s))
    ∙ collect_more s n ∙ ap (before s) (add-one n)

pub number_bit : (n : ℕ) (s : Set) (b : ℕ) → b < n → bit (number n s) b ≡ s b
number_bit n s b l = ap (λ (f : Set). f b) (number_bits n s) ∙ rw (lt-ltb b n l) (and-true (s b))

-- a number of m bits with none from n on is one of n bits
pub bit_few : (m n x : ℕ) → x < 2 ^ m → ((b : ℕ) → n ≤ b → b < m → bit x b ≡ false) → x < 2 ^ n
bit_few m n x low none = ⊎_elim
    (λ (l : m < n). lt_of_lt_of_le low (pow_mono (omega arith)))
    (λ (l : n ≤ m).
    let y = number_lt n (bit x) in
    let same : x ≡ number n (bit x) = bit_ext m x (number n (bit x)) low (lt_of_lt_of_le y (pow_mono l))
    (λ b lb. ⊎_elim (λ (k : b < n). sym (number_bit n (bit x) b k)) (λ (k : n ≤ b). none b k lb ∙ sym (bit_above n (number n (bit x)) b y k)) (lt_or_le b n)) in
    omega (arith, y))
    (lt_or_le m n)

-- the rows of a relation hold it
pub rows_bit : (n : ℕ) (r : Rel) (a b : ℕ) → a < n → b < n → rel (rows_of n r) a b ≡ r a b
rows_bit n r a b la lb = ap (λ (x : ℕ). bit x b) (listed_at (λ a. number n (r a)) n a 0 la) ∙ number_bit n (r a) b lb
