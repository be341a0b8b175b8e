-- Sets of numbers and relations between them, and what is asked of them over the numbers below a bound. Definitions only; Laws has what holds of them.
use Rattle.std.specs.Prelude.{ℕ, zero, suc, ◌+◌, ◌<◌, Bool, true, false, not, ◌&&◌, ◌||◌, cond, ◌≡◌, eqb, ltb}

abbrev pub Set : Type 0
Set = ℕ → Bool

abbrev pub Rel : Type 0
Rel = ℕ → ℕ → Bool

-- ---- over the numbers below n

-- f holds at some number below n
unfoldable pub any : ℕ → Set → Bool
any zero f = false
any (suc n) f = any n f || f n

-- f holds at every number below n
unfoldable pub all : ℕ → Set → Bool
all zero f = true
all (suc n) f = all n f && f n

-- the least number below n at which f holds, or n
unfoldable pub least : ℕ → Set → ℕ
least zero f = zero
least (suc n) f =
    let r = least n f in
    cond (ltb r n) r (cond (f n) n (suc n))

-- how many numbers below n are in f
unfoldable pub count : ℕ → Set → ℕ
count zero f = 0
count (suc n) f = count n f + cond (f n) 1 0

-- the sum of g over the numbers below n
unfoldable pub sum : ℕ → (ℕ → ℕ) → ℕ
sum zero g = 0
sum (suc n) g = sum n g + g n

-- ---- sets

abbrev pub none : Set
none b = false

abbrev pub both : Set → Set → Set
both s t b = s b && t b

abbrev pub either : Set → Set → Set
either s t b = s b || t b

abbrev pub less : Set → Set → Set
less s t b = s b && not (t b)

abbrev pub when : Bool → Set → Set
when p s b = p && s b

abbrev pub single : ℕ → Set
single k b = eqb b k

abbrev pub at : Set → ℕ → Set
at s k b = s b && eqb b k

abbrev pub without : Set → ℕ → Set
without s k b = s b && not (eqb b k)

abbrev pub before : Set → ℕ → Set
before s n b = s b && ltb b n

abbrev pub after : Set → ℕ → Set
after s a b = s b && ltb a b

-- what r leads to from the members of s below n
abbrev pub image : ℕ → Set → Rel → Set
image n s r b = any n λ c. s c && r c b

-- ---- relations

abbrev pub never : Rel
never a b = false

abbrev pub converse : Rel → Rel
converse r a b = r b a

-- r between numbers below n
abbrev pub within : ℕ → Rel → Rel
within n r a b = ltb a n && r a b && ltb b n

-- paths of r whose stops on the way are below k
unfoldable pub via : Rel → ℕ → Rel
via r zero a b = r a b
via r (suc k) a b = via r k a b || (via r k a k && via r k k b)

-- the transitive closure over the numbers below n
abbrev pub closure : ℕ → Rel → Rel
closure n r = via r n

-- some pair below n is in r
abbrev pub any_pair : ℕ → Rel → Bool
any_pair n r = any n λ a. any n (r a)

-- the least pair of r below n, in dictionary order: the least row that leads anywhere, and the least column there
abbrev pub least_row : ℕ → Rel → ℕ
least_row n r = least n λ a. any n (r a)

abbrev pub least_column : ℕ → Rel → ℕ
least_column n r = least n (r (least_row n r))

-- s has every number below n whose row leads anywhere below n
abbrev pub Covers : ℕ → Rel → Set → Type 0
Covers n r s = (a : ℕ) → a < n → any n (r a) ≡ true → s a ≡ true

-- how many pairs a<b below n are in r
abbrev pub pairs : ℕ → Rel → ℕ
pairs n r = sum n λ a. count n λ b. ltb a b && r a b
