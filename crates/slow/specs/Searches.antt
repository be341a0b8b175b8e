-- What the loops of the second engine look for, in the order in which they test.
use Rattle.std.specs.Prelude.{ℕ, ◌<◌, not, ◌&&◌, ◌||◌, cond, List, [], ◌∷◌, ◌≡◌, eqb, ltb}
use Rattle.rows.specs.Sets.{Set, Rel, any}
use Rattle.model.specs.Model.{Book, Sb, Asw, Rf, Mo, Sc, Hb, Vse, Cad, write, atomic, release, acquire, consume, fence, lock, unlock, read, at_mutex, same_place, same_thread, same_value, element, hrs, rs, sw_mutex, cad_step, r, ithb_step, hb, vse, vsse, data_races, unsequenced_races, immediate, mutex_sc, place_mo, sc_fence, up_to}
use Rattle.model.specs.Judge.{precedes}

-- one of the n actions that is not yet given
abbrev pub left : ℕ → Set → Set
left n given a = ltb a n && not (given a)

module _ (n : ℕ) (ρ : Book) where
  -- ---- relations by number

  -- those of the book, and after them sc kept to one mutex's actions (22) and mo kept to one atomic place's (23)
  abbrev pub relation : ℕ → Rel
  relation k = cond (eqb k 22) (mutex_sc n ρ) (cond (eqb k 23) (place_mo n ρ) (ρ k))

  -- k;l joins a k step and then an l step.
  abbrev pub joined : ℕ → ℕ → Rel
  joined k l a b = any n (λ z. relation k a z && relation l z b)

  -- ---- relations 7 to 17: sw and dob read 7 and 8 off the book

  -- some c with a mo c mo b is neither in a's thread nor an RMW
  abbrev pub broken : Rel
  broken a b = any n (λ c. Mo n ρ a c && Mo n ρ c b && not (element n ρ a c))

  -- hrs(x,z), z rf y for some z
  abbrev pub heard : Rel
  heard x y = any n (λ z. ρ 8 x z && Rf n ρ z y)

  -- rs(a,z), z rf b for some z
  abbrev pub released : Rel
  released a b = any n (λ z. ρ 7 a z && Rf n ρ z b)

  -- sw, between a release and an acquire of one place
  abbrev pub atomic_by : Rel
  atomic_by a b = same_place n ρ a b && release n ρ a && acquire n ρ b && not (same_thread n ρ a b) && released a b

  -- sw, between two fences
  abbrev pub fences_by : Rel
  fences_by a b = (release n ρ a && fence n ρ a && acquire n ρ b && fence n ρ b) && any n (λ x. (atomic n ρ x && write n ρ x && Sb n ρ a x) && any n (λ y. (atomic n ρ y && same_place n ρ x y && Sb n ρ y b) && heard x y))

  -- sw, from a fence to an atomic action
  abbrev pub fence_atomic_by : Rel
  fence_atomic_by a b = (release n ρ a && fence n ρ a && acquire n ρ b && atomic n ρ b) && any n (λ x. (atomic n ρ x && write n ρ x && same_place n ρ x b && Sb n ρ a x) && heard x b)

  -- sw, from an atomic action to a fence
  abbrev pub atomic_fence_by : Rel
  atomic_fence_by a b = (release n ρ a && atomic n ρ a && acquire n ρ b && fence n ρ b) && any n (λ x. (atomic n ρ x && same_place n ρ a x && Sb n ρ x b) && released a x)

  -- sw(a,b): asw; or one of the five cases
  abbrev pub sw_by : Rel
  sw_by a b = Asw n ρ a b || sw_mutex n ρ a b || atomic_by a b || fences_by a b || fence_atomic_by a b || atomic_fence_by a b

  -- dob(a,d)
  abbrev pub dob_by : Rel
  dob_by a d = any n (λ b. (release n ρ a && consume n ρ b && (eqb d b || Cad n ρ b d)) && released a b)

  -- sb;r
  abbrev pub sb_then_r : Rel
  sb_then_r a b = any n (λ z. Sb n ρ a z && r n ρ z b)

  -- some write c of a's place, neither a nor b, with a hb c hb b
  abbrev pub hidden : Rel
  hidden a b = any n (λ c. write n ρ c && same_place n ρ a c && not (eqb c a) && not (eqb c b) && Hb n ρ a c && Hb n ρ c b)

  -- some a with v mo a mo c and b hb a
  abbrev pub passed_by : ℕ → Rel
  passed_by v c b = any n (λ a. Mo n ρ v a && Mo n ρ a c && Hb n ρ b a)

  -- c=v, or v mo c, not b hb c, and no a with v mo a mo c and b hb a
  abbrev pub sees : ℕ → Rel
  sees v c b = eqb c v || (Mo n ρ v c && not (Hb n ρ b c) && not (passed_by v c b))

  -- for some v with vse(v,b) the above
  abbrev pub seen : Rel
  seen c b = any n (λ v. Vse n ρ v b && sees v c b)

  -- of relations 7 to 17, what is filled pair by pair, before the walks (10, 12)
  unfoldable pub steps : List Rel
  steps = rs n ρ ∷ hrs n ρ ∷ sw_by ∷ cad_step n ρ ∷ dob_by ∷ ithb_step n ρ ∷ hb n ρ ∷ vse n ρ ∷ vsse n ρ ∷ data_races n ρ ∷ unsequenced_races n ρ ∷ []

  -- relations 7 and 8 stand in the book
  pub record Sequences : Type 0 where
    pub rs_is : (a b : ℕ) → a < n → b < n → ρ 7 a b ≡ rs n ρ a b
    pub hrs_is : (a b : ℕ) → a < n → b < n → ρ 8 a b ≡ hrs n ρ a b

  -- ---- the rules

  -- some p immediately before a among its mutex's actions is a lock of a's thread
  abbrev pub locked : Set
  locked a = any n (λ p. immediate n ρ (mutex_sc n ρ) p a && lock n ρ p && same_thread n ρ p a)

  -- sb;(sc between fences);sb
  abbrev pub fenced : Rel
  fenced a b = any n (λ f. (Sb n ρ a f && fence n ρ f) && any n (λ g. fence n ρ g && Sc n ρ f g && Sb n ρ g b))

  -- mutex: unlock to lock; elsewhere value written = value read, and write to read
  abbrev pub fitting : Rel
  fitting a b = (at_mutex n ρ a && (unlock n ρ a && lock n ρ b)) || (not (at_mutex n ρ a) && (same_value n ρ a b && write n ρ a && read n ρ b))

  -- some source of b other than a
  abbrev pub other_source : Rel
  other_source a b = any n (λ c. not (eqb c a) && Rf n ρ c b)

  -- some a with a→b in relation k
  abbrev pub reached : ℕ → Set
  reached k b = any n (λ a. ρ k a b)

  -- b reads from some a with a→b in relation k
  abbrev pub fed : ℕ → Set
  fed k b = any n (λ a. ρ k a b && Rf n ρ a b)

  -- x rf a, y rf b for some x and y, and neither x=y nor x mo y
  abbrev pub stale : Rel
  stale a b = any n (λ x. Rf n ρ x a && any n (λ y. Rf n ρ y b && not (up_to n ρ x y)))

  -- some write of b's place between a and b in sc
  abbrev pub write_between : Rel
  write_between a b = any n (λ c. write n ρ c && same_place n ρ c b && Sc n ρ a c && Sc n ρ c b)

  -- rules 24 to 26, each test as early as its loop allows
  abbrev pub rule24_by : Rel
  rule24_by y b = (Rf n ρ y b && atomic n ρ b) && any n (λ a. (write n ρ a && same_place n ρ a b && not (up_to n ρ a y)) && any n (λ f. sc_fence n ρ f && Sb n ρ f b && Sc n ρ a f))

  abbrev pub rule25_by : Rel
  rule25_by y b = (Rf n ρ y b && atomic n ρ b) && any n (λ a. (atomic n ρ a && write n ρ a && same_place n ρ a b && not (up_to n ρ a y)) && any n (λ f. Sb n ρ a f && sc_fence n ρ f && Sc n ρ f b))

  abbrev pub rule26_by : Rel
  rule26_by y b = (Rf n ρ y b && atomic n ρ b) && any n (λ a. (atomic n ρ a && write n ρ a && same_place n ρ a b && not (up_to n ρ a y)) && any n (λ f. (Sb n ρ a f && sc_fence n ρ f) && any n (λ g. Sc n ρ f g && sc_fence n ρ g && Sb n ρ g b)))

  -- some write v of r's place with w hb v and v sc r
  abbrev pub overwritten : Rel
  overwritten w r = any n (λ v. write n ρ v && same_place n ρ v r && Hb n ρ w v && Sc n ρ v r)

  -- rule 36, likewise
  abbrev pub rule36_by : Rel
  rule36_by r s = Hb n ρ r s && any n (λ w. Rf n ρ w r && any n (λ v. Mo n ρ v w && Rf n ρ v s))

  -- ---- the order

  -- some action left precedes a under hb ∪ sc
  abbrev pub preceded : Set → Set
  preceded given a = any n (λ z. left n given z && precedes n ρ z a)
