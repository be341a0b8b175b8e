-- What the functions of the rules promise, in names: of a rule, of the n actions of a desk d and of its notes e.
use Rattle.std.specs.Prelude.{ℕ, ◌<◌, ◌≤◌, ◌&&◌, ◌||◌, not, cond, List, ◌≡◌, T, eqb, leb, ltb, get_or, Option, Some, None}
use Rattle.rows.specs.Sets.{Set, Rel, any, least, never, before, Covers}
use Rattle.rows.specs.Numbers.{size, has, held}
use Rattle.rows.specs.declared.Row.{Row}
use Rattle.model.specs.Model.{Book, Rf, Mo, atomic, same_place, one, of_mutex, sc_pair, writes_of, strict, total, middle, middle_at}
use Rattle.model.specs.Judge.{rule}
use Rattle.model.specs.Laws.Holds.{Holds}
use Rattle.desk.specs.Kept.{kept}
use Rattle.desk.specs.Notes.{late, notes, Noted}
use Rattle.rules.specs.declared.Tested.{Tested}
use Rattle.rules.specs.declared.Tested.TheVariants.{Whole, Kept}
use Rattle.rules.specs.declared.Found.{Found}

-- the rule of a number
abbrev pub numbered : ℕ → ℕ → Book → Rel
numbered k n ρ = rule n ρ k

-- the row r has, of the n actions, those at which the rule offends in the row of a
abbrev pub Offences : (ℕ → Book → Rel) → ℕ → List ℕ → List ℕ → ℕ → Row → Type 0
Offences ruling n d e a r = Noted n (held d) (held e) → a < n → before (has r) n ≡ before (ruling n (held d) a) n

-- the row r has every action in whose row the rule offends
abbrev pub Suspects : (ℕ → Book → Rel) → ℕ → List ℕ → List ℕ → Row → Type 0
Suspects ruling n d e r = Noted n (held d) (held e) → Covers n (ruling n (held d)) (has r)

-- the rule is about one action, and the row r has those that it finds bad
abbrev pub Bad : (ℕ → Book → Rel) → ℕ → List ℕ → List ℕ → Row → Type 0
Bad ruling n d e r = Noted n (held d) (held e) → ruling n (held d) ≡ one n (held d) (has r)

-- what rules 24 to 26 forbid: y rf b, b atomic, note k leads to b from one of the writes of b's place, which is neither y nor before y in mo
unfoldable pub overtaken : Set → ℕ → ℕ → Book → Rel
overtaken writes k n ρ y b = (Rf n ρ y b && atomic n ρ b) && any n λ a. (writes a && late n ρ a y) && (get_or (notes n ρ) k never a b && same_place n ρ a b)

-- ---- what rules that both editions have come to

-- no rule, rule 27 or a later one
abbrev pub beyond : Set
beyond k = eqb k 0 || leb 27 k

-- where the rules below 27 that both editions have hold:
pub record Settled (n : ℕ) (ρ : Book) : Type 0 where
  -- hb has no cycle (4, 9);
  pub acyclic : Holds n ρ 27
  -- b comes before a in mo just if they are different writes of one atomic place and a does not come before b (13, 14);
  pub earlier : (a b : ℕ) → a < n → b < n → Mo n ρ b a ≡ (writes_of n ρ a b && not (eqb b a) && not (Mo n ρ a b))
  -- what two actions lead to in rf has one of them as its source (18).
  pub one_source : (a b c : ℕ) → a < n → b < n → c < n → T (Rf n ρ a c) → T (Rf n ρ b c) → a ≡ b

-- ---- the tests of an order

-- the relation tested, of a book
abbrev pub relation : Book → Tested → Rel
relation ρ (Whole k) = ρ k
relation ρ (Kept w k) = kept ρ w k

-- the relation that is to be total by rule 6, 10 or 14, and on which actions: sc kept to one mutex's actions (13, 5), all of sc, mo kept to one atomic place's (15, 6)
abbrev pub tested_by : ℕ → Tested
tested_by k = cond (eqb k 6) (Kept 13 5) (cond (eqb k 10) (Whole 5) (Kept 15 6))

abbrev pub inside_of : ℕ → ℕ → Book → Rel
inside_of k n ρ = cond (eqb k 6) (of_mutex n ρ) (cond (eqb k 10) (sc_pair n ρ) (writes_of n ρ))

-- the middle at b by a row of s: the least action of the row that leads to b, unless b is in the row itself
abbrev pub middle_by : ℕ → Set → Rel → ℕ → Option ℕ
middle_by n row s b =
    let z = least n λ z. row z && s z b && not (row b) in
    cond (ltb z n) (Some z) None

-- the middle that r tells
abbrev pub told : ℕ → Book → Found → ℕ → Option ℕ
told n ρ r = middle_by n (has r.row) (relation ρ r.tested)

-- what m gives the first member of s below n, or none
abbrev pub at_first : ℕ → Set → (ℕ → Option ℕ) → Option ℕ
at_first n s m =
    let b = least n s in
    cond (ltb b n) (m b) None

-- r has, of the n actions, those in s, and tells the middle that m gives the first of them: offences and middle together
pub record Finds (n : ℕ) (ρ : Book) (s : Set) (m : ℕ → Option ℕ) (r : Found) : Type 0 where
  pub offences : before (has r.offences) n ≡ before s n
  pub middle : at_first n s (told n ρ r) ≡ at_first n s m

-- where s has an action l decides, elsewhere m
abbrev pub decided : Set → (ℕ → Option ℕ) → (ℕ → Option ℕ) → ℕ → Option ℕ
decided s l m b = cond (s b) (l b) (m b)

-- r is what the test of a strict order s finds in the row of a
abbrev pub FindsStrict : ℕ → Book → Rel → ℕ → Found → Type 0
FindsStrict n ρ s a r = Finds n ρ (strict n ρ s a) (middle n ρ s a) r

-- and that of an order that is total on the actions inside
abbrev pub FindsTotal : ℕ → Book → Set → Rel → ℕ → Found → Type 0
FindsTotal n ρ inside s a r = n ≤ size → Finds n ρ (total n ρ (λ _. inside) s a) (middle n ρ s a) r

-- r is what the rule k finds in the row of a
abbrev pub FindsRule : ℕ → ℕ → List ℕ → List ℕ → ℕ → Found → Type 0
FindsRule k n d e a r = Noted n (held d) (held e) → a < n → Finds n (held d) (rule n (held d) k a) (middle_at n (held d) k a) r
