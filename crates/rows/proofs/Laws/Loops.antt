-- Loops over the numbers below a bound. The one fact that they share is `below_more`, over any P: what holds of each number below i, and of i, holds of each below i + 1.
-- Each kind of loop has here its start (-none), its turn (-more) and its end (-done).
use Rattle.std.specs.Prelude.{ℕ, suc, ◌+◌, ◌≤◌, ◌<◌, Bool, true, false, not, ◌&&◌, ◌||◌, cond, ◌≡◌, refl, eqb, leb, ltb}
use Rattle.std.proofs.Common.{zero-le, ⊎_elim, sym, ap, ◌∙◌, subst, le_refl, add-one, arith, lt-ltb, le-ltb, ltb-true, leb-true, le-leb, eqb-true, eq-eqb, ne_eqb}
use Rattle.std.proofs.Math.Bool.{and-true, and-false, or-false, or_assoc, and-or_distrib_right}
use Rattle.std.proofs.Math.Path.{fun_ext}
use Rattle.std.proofs.Math.Decide.{le_ind}
use Rattle.std.proofs.Math.Nat.{le_step}
pub use Rattle.std.proofs.Common.{below_none, below_more}
use Rattle.std.proofs.lemmas.Bool.{lt-leb}
use Rattle.rows.proofs.Laws.Quantifiers.{any_in, any_none, any_no, any_or, any_at, any_ext, any_before, least_is, least_any, count_without}
use Rattle.rows.specs.Laws.Truth.{and_1, and_2, and_both, same_lt, eqb_sym, not_both, some_left, lt_or_le, eq_or_ne, Conj}
use Rattle.rows.specs.Sets.{Set, Rel, any, least, count, none, never, both, either, when, single, without, before, image}
use Rattle.rows.specs.Members.{placed}
use Rattle.rows.specs.Laws.Loops.{gained, marked}

-- ---- the numbers of a set, collected one after another

pub collect_none : (f : Set) → none ≡ before f 0
collect_none f = fun_ext λ b. rw (le-ltb b 0 zero-le) (sym (and-false (f b)))

pub collect_more : (f : Set) (c : ℕ) → either (before f c) (when (f c) (single c)) ≡ before f (c + 1)
collect_more f c = fun_ext λ b. ⊎_elim
    (λ (e : b ≡ c). let l : c < c + 1 = omega arith in rw (e, eq-eqb c c refl, lt-ltb c (c + 1) l, le-ltb c c (le_refl c), and-false (f c)))
    (λ (ne : b ≡ c → ⊥). rw (ne_eqb b c ne, and-false (f c), or-false (f b && ltb b c)) (ap (λ (t : Bool). f b && t) (same_lt b c b (c + 1) (λ l. omega arith) (λ l. omega arith))))
    (eq_or_ne b c)

pub collect_done : (f : Set) (n : ℕ) → ((b : ℕ) → n ≤ b → f b ≡ false) → before f n ≡ f
collect_done f n h = fun_ext λ b. ⊎_elim (λ (l : b < n). rw (lt-ltb b n l) (and-true (f b))) (λ (l : n ≤ b). rw (h b l)) (lt_or_le b n)

-- ---- rows filled one after another

-- two relations with no row from n on are equal if they are row by row below n
pub fill_done : (n : ℕ) (r q : Rel) → ((x : ℕ) → n ≤ x → r x ≡ none) → ((x : ℕ) → n ≤ x → q x ≡ none) → ((x : ℕ) → x < n → r x ≡ q x) → r ≡ q
fill_done n r q out out' all = fun_ext λ x. ⊎_elim (λ (l : x < n). all x l) (λ (l : n ≤ x). out x l ∙ sym (out' x l)) (lt_or_le x n)

pub fill_more : (P old new : Rel) (a : ℕ) (s : Set) → ((x : ℕ) → new x ≡ cond (eqb x a) s (old x)) → s ≡ P a → ((x : ℕ) → x < a → old x ≡ P x) → (x : ℕ) → x < a + 1 → new x ≡ P x
fill_more P old new a s put here all =
    below_more (λ (x : ℕ). new x ≡ P x) a
    (λ x l. let ne : x ≡ a → ⊥ = λ e. omega arith in put x ∙ rw (ne_eqb x a ne) (all x l))
    (put a ∙ rw (eq-eqb a a refl) here)

-- ---- the members of a set below m, lowest first: what is got, with what the members left lead to, is the whole

abbrev pub Gather : ℕ → Set → Rel → Set → Set → Type 0
Gather m total r got left = total ≡ either got (image m left r)

-- one member apart
split : (x q e : Bool) → (q ≡ true → x ≡ true) → (x && e) ≡ ((q && e) || ((x && not q) && e))
split true true e h = sym (or-false e)
split true false e h = refl
split false true e h = not_both (h refl) refl
split false false e h = refl

pub gather_more : (m : ℕ) (total : Set) (r : Rel) (got left : Set) → Gather m total r got left → any m left ≡ true → Gather m total r (either got (r (least m left))) (without left (least m left))
gather_more m total r got left g some =
    let k = least m left in
    let l : k < m = least_any m left some in
    g ∙ fun_ext λ b.
    ap (λ (t : Bool). got b || t) (
    any_ext m (λ c. left c && r c b) (λ c. (eqb c k && r c b) || (without left k c && r c b)) (λ c h. split (left c) (eqb c k) (r c b) (λ e. ap left (eqb-true c k e) ∙ (least_is m left).hit l))
    ∙ any_or m (λ c. eqb c k && r c b) (λ c. without left k c && r c b)
    ∙ ap (λ (t : Bool). t || image m (without left k) r b) (any_at m k (λ c. r c b) l))
    ∙ sym (or_assoc (got b) (r k b) (image m (without left k) r b))

-- fewer are left without the least
pub less_left : (m : ℕ) (left : Set) → any m left ≡ true → count m (without left (least m left)) < count m left
less_left m left some = let l = least_any m left some in omega (arith, count_without m left (least m left) l ((least_is m left).hit l))

-- where the test r, whether none is left, fails, fewer are left without the least
pub gather_less : (m : ℕ) (left : Set) {r : Bool} → r ≡ not (any m left) → not r ≡ true → count m (without left (least m left)) < count m left
gather_less m left e h = less_left m left (some_left e h)

pub gather_done : (m : ℕ) (total : Set) (r : Rel) (got left : Set) → Gather m total r got left → any m left ≡ false → total ≡ got
gather_done m total r got left g empty =
    g ∙ fun_ext λ b. ap (λ (t : Bool). got b || t) (any_none m (λ c. left c && r c b) (λ c l. rw (any_no m left empty c l))) ∙ or-false (got b)

-- the members that pass f, gathered one by one
pub gather_passing : (m : ℕ) (s f : Set) → ((c : ℕ) → m ≤ c → s c ≡ false) → image m s (λ c. when (f c) (before (single c) m)) ≡ both s f
gather_passing m s f out = fun_ext λ b. ⊎_elim
    (λ (l : b < m).
    any_ext m (λ c. s c && (f c && (eqb b c && ltb b m))) (λ c. eqb c b && (s c && f c)) (λ c h. rw (lt-ltb b m l, eqb_sym b c) (simp Conj))
    ∙ any_at m b (λ c. s c && f c) l)
    (λ (l : m ≤ b).
    any_none m (λ c. s c && (f c && (eqb b c && ltb b m))) (λ c h. rw (le-ltb b m l) (simp (and-false)))
    ∙ ap (λ (t : Bool). t && f b) (sym (out b l)))
    (lt_or_le b m)

-- ---- the rows of the members changed, lowest first

-- `now`, once the rows left have gained too, is r where those of s have gained
pub record Gaining (m : ℕ) (g : Set → Set) (r : Rel) (s : Set) (now : Rel) (left : Set) : Type 0 where
  pub out : (x : ℕ) → m ≤ x → left x ≡ false
  pub same : gained g r s ≡ gained g now left

pub gain_none : (m : ℕ) (g : Set → Set) (r : Rel) (s : Set) → ((x : ℕ) → m ≤ x → s x ≡ false) → Gaining m g r s r s
gain_none m g r s out = record { out = out; same = refl }

pub gain_more : (m : ℕ) (g : Set → Set) (r : Rel) (s : Set) (now new : Rel) (left : Set) → Gaining m g r s now left → any m left ≡ true
    → ((x : ℕ) → new x ≡ cond (eqb x (least m left)) (either (now (least m left)) (g (now (least m left)))) (now x)) → Gaining m g r s new (without left (least m left))
gain_more m g r s now new left h some put =
    let k = least m left in
    let hit : left k ≡ true = (least_is m left).hit (least_any m left some) in
    record {
      out = λ x l. rw (h.out x l);
      same = h.same ∙ fun_ext λ x. sym (⊎_elim
          (λ (q : x ≡ k). rw (put x, q, eq-eqb k k refl, hit) (fun_ext λ y. or-false (now k y || g (now k) y)))
          (λ (ne : x ≡ k → ⊥). rw (put x, ne_eqb x k ne, and-true (left x)))
          (eq_or_ne x k));
    }

pub gain_done : (m : ℕ) (g : Set → Set) (r : Rel) (s : Set) (now : Rel) (left : Set) → Gaining m g r s now left → any m left ≡ false → now ≡ gained g r s
gain_done m g r s now left h empty = sym (h.same ∙ fun_ext λ x. fun_ext λ y. ⊎_elim
    (λ (l : x < m). rw (any_no m left empty x l) (or-false (now x y)))
    (λ (l : m ≤ x). rw (h.out x l) (or-false (now x y)))
    (lt_or_le x m))

-- first in the rows of s and then in those of t
pub marked_either : (r : Rel) (s t : Set) (b : ℕ) → marked (marked r s b) t b ≡ marked r (either s t) b
marked_either r s t b = fun_ext λ x. fun_ext λ y. or_assoc (r x y) (s x && eqb y b) (t x && eqb y b) ∙ ap (λ (u : Bool). r x y || u) (sym (and-or_distrib_right (s x) (t x) (eqb y b)))

-- ---- the rows of the members replaced, lowest first

-- `now`, once the rows left are replaced too, is old where those of s are those of r
pub record Placing (m : ℕ) (r : Rel) (s : Set) (old now : Rel) (left : Set) : Type 0 where
  pub out : (x : ℕ) → m ≤ x → left x ≡ false
  pub members : (x : ℕ) → left x ≡ true → s x ≡ true
  pub same : placed r s old ≡ placed r left now

pub place_none : (m : ℕ) (r : Rel) (s : Set) (old : Rel) → ((x : ℕ) → m ≤ x → s x ≡ false) → Placing m r s old old s
place_none m r s old out = record { out = out; members = λ x e. e; same = refl }

pub place_more : (m : ℕ) (r : Rel) (s : Set) (old now new : Rel) (left : Set) → Placing m r s old now left → any m left ≡ true
    → ((x : ℕ) → new x ≡ cond (eqb x (least m left)) (r (least m left)) (now x)) → Placing m r s old new (without left (least m left))
place_more m r s old now new left h some put =
    let k = least m left in
    let hit : left k ≡ true = (least_is m left).hit (least_any m left some) in
    record {
      out = λ x l. rw (h.out x l);
      members = λ x e. h.members x (and_1 (left x) (not (eqb x k)) e);
      same = h.same ∙ fun_ext λ x. ⊎_elim
          (λ (q : x ≡ k). rw (q, put k, hit, eq-eqb k k refl))
          (λ (ne : x ≡ k → ⊥). rw (put x, ne_eqb x k ne, and-true (left x)))
          (eq_or_ne x k);
    }

pub place_done : (m : ℕ) (r : Rel) (s : Set) (old now : Rel) (left : Set) → Placing m r s old now left → any m left ≡ false → now ≡ placed r s old
place_done m r s old now left h empty = sym (h.same ∙ fun_ext λ x. ⊎_elim
    (λ (l : x < m). rw (any_no m left empty x l))
    (λ (l : m ≤ x). rw (h.out x l))
    (lt_or_le x m))

-- on an empty part
pub placed_never : (r : Rel) (s : Set) → placed r s never ≡ (λ a. when (s a) (r a))
placed_never r s = fun_ext λ a. go (s a) (r a)
  where
    go : (p : Bool) (x : Set) → cond p x none ≡ when p x
    go true x = refl
    go false x = refl

-- ---- the members of a set, lowest first: those from j on are left

abbrev pub from : Set → ℕ → Set
from s j b = s b && leb j b

pub from_none : (s : Set) → s ≡ from s 0
from_none s = fun_ext λ b. rw (le-leb 0 b zero-le) (sym (and-true (s b)))

pub from_at : (s : Set) (j i : ℕ) → j ≤ i → from s j i ≡ s i
from_at s j i l = rw (le-leb j i l) (and-true (s i))

-- the lowest that is left is the next member
pub from_next : (m : ℕ) (s : Set) (j : ℕ) → any m (from s j) ≡ true → let k = least m (from s j) in (s k ≡ true) × (j ≤ k) × ((i : ℕ) → j ≤ i → i < k → s i ≡ false)
from_next m s j some =
    let k = least m (from s j) in
    let h = least_is m (from s j) in
    let hit = h.hit (least_any m (from s j) some) in
    (and_1 (s k) (leb j k) hit, leb-true j k (and_2 (s k) (leb j k) hit), λ i p q. sym (from_at s j i p) ∙ h.miss i q)

pub from_more : (m : ℕ) (s : Set) (j : ℕ) → any m (from s j) ≡ true → let k = least m (from s j) in without (from s j) k ≡ from s (k + 1)
from_more m s j some =
    let k = least m (from s j) in
    let first = (from_next m s j some).1 in
    fun_ext λ b. ⊎_elim
    (λ (l : b < k). let p : b < k + 1 = omega arith in rw ((least_is m (from s j)).miss b l, lt-leb (k + 1) b p) (sym (and-false (s b))))
    (λ (l : k ≤ b). ⊎_elim
    (λ (e : b ≡ k). let p : k < k + 1 = omega arith in rw (e, eq-eqb k k refl, lt-leb (k + 1) k p, and-false (from s j k)) (sym (and-false (s k))))
    (λ (ne : b ≡ k → ⊥). let p : j ≤ b = omega arith in let q : k + 1 ≤ b = omega arith in rw (ne_eqb b k ne, le-leb j b p, le-leb (k + 1) b q) (and-true (s b && true)))
    (eq_or_ne b k))
    (lt_or_le b k)

-- Q has come to j on its way over the members of s below n, and those from j on are left
pub record Going (n : ℕ) (s : Set) (Q : ℕ → Type 0) (left : Set) : Type 0 where
  pub j : ℕ
  pub bound : j ≤ n
  pub so_far : Q j
  pub due : left ≡ from (before s n) j

pub go_none : (n : ℕ) (s : Set) (Q : ℕ → Type 0) → Q 0 → Going n s Q (before s n)
go_none n s Q q = record { j = 0; bound = zero-le; so_far = q; due = from_none (before s n) }

-- where Q goes over a number that is no member by itself, it comes to the next member, and at last to n
module _ (m n : ℕ) (s : Set) (Q : ℕ → Type 0) (over : (k : ℕ) → k < n → s k ≡ false → Q k → Q (k + 1)) (left : Set) (g : Going n s Q left) where
  going_over : (k : ℕ) → g.j ≤ k → k ≤ n → ((i : ℕ) → g.j ≤ i → i < k → before s n i ≡ false) → Q k
  going_over k l =
      le_ind (λ (k : ℕ). k ≤ n → ((i : ℕ) → g.j ≤ i → i < k → before s n i ≡ false) → Q k) (λ h miss. g.so_far)
      (λ k p ih h miss.
      let no : s k ≡ false = rw (lt-ltb k n h, and-true (s k)) at (miss k p (le_refl (suc k))) in
      subst Q (add-one k) (over k h no (ih (omega arith) (λ i a b. miss i a (le_step b))))) k l

  pub go_next : any m left ≡ true → let k = least m left in (k < n) × (s k ≡ true) × Q k
  go_next some =
      let t = before s n in
      let (hit, first, miss) = from_next m t g.j (ap (any m) (sym g.due) ∙ some) in
      let k = least m (from t g.j) in
      let low : k < n = ltb-true k n (and_2 (s k) (ltb k n) hit) in
      rw g.due (low, and_1 (s k) (ltb k n) hit, going_over k first (omega arith) miss)

  pub go_more : (P : ℕ → Type 0) → any m left ≡ true → P (least m left + 1) → Going n s P (without left (least m left))
  go_more P some p =
      let low = (go_next some).0 in
      record {
        j = least m left + 1;
        bound = omega arith;
        so_far = p;
        due = rw g.due (from_more m (before s n) g.j (ap (any m) (sym g.due) ∙ some));
      }

  pub go_done : n ≤ m → any m left ≡ false → Q n
  go_done h none = going_over n g.bound (le_refl n) λ i a b. let l : i < m = omega arith in rw (g.due, from_at (before s n) g.j i a) at (any_no m left none i l)

-- ---- the members of a set tested, lowest first, for one at which f holds: those left decide

pub record Seeking (m : ℕ) (s f left : Set) : Type 0 where
  pub members : (b : ℕ) → left b ≡ true → s b ≡ true
  pub same : any m (both s f) ≡ any m (both left f)

pub seek_none : (m : ℕ) (s f : Set) → Seeking m s f s
seek_none m s f = record { members = λ b e. e; same = refl }

module _ (m : ℕ) (s f left : Set) (g : Seeking m s f left) where
  -- the lowest is a member, of a set cut at n below it
  pub seek_low : (q : Set) (n : ℕ) → s ≡ before q n → any m left ≡ true → least m left < n
  seek_low q n e some =
      let k = least m left in
      let hit : s k ≡ true = g.members k ((least_is m left).hit (least_any m left some)) in
      ltb-true k n (and_2 (q k) (ltb k n) (ap (λ (t : Set). t k) (sym e) ∙ hit))

  -- the lowest is none
  pub seek_more : f (least m left) ≡ false → Seeking m s f (without left (least m left))
  seek_more miss =
      let k = least m left in
      record {
        members = λ b e. g.members b (and_1 (left b) (not (eqb b k)) e);
        same = g.same ∙ any_ext m (both left f) (both (without left k) f) λ b l. ⊎_elim
            (λ (e : b ≡ k). rw (e, miss, and-false (left k), and-false (left k && not (eqb k k))))
            (λ (ne : b ≡ k → ⊥). rw (ne_eqb b k ne, and-true (left b)))
            (eq_or_ne b k);
      }

  -- the lowest is one
  pub seek_hit : any m left ≡ true → f (least m left) ≡ true → any m (both s f) ≡ true
  seek_hit some hit = let low = least_any m left some in g.same ∙ any_in m (both left f) (least m left) low (and_both ((least_is m left).hit low) hit)

  pub seek_done : any m left ≡ false → any m (both s f) ≡ false
  seek_done empty = g.same ∙ any_none m (both left f) (λ b l. rw (any_no m left empty b l))

-- a set cut at n was tested up to m
pub seek_cut : (n m : ℕ) (s f : Set) → n ≤ m → any m (both (before s n) f) ≡ any n (both s f)
seek_cut n m s f h = any_ext m (both (before s n) f) (before (both s f) n) (λ b l. simp Conj) ∙ any_before n m (both s f) h
