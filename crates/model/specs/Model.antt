-- The words of the model, relations 7 to 17 and the rules of both editions, of n actions and a book ρ that holds a relation for each number.
use Rattle.std.specs.Prelude.{ℕ, zero, suc, ◌+◌, Bool, not, ◌&&◌, ◌||◌, cond, List, [], ◌∷◌, eqb, ltb, get_or, Option, Some, None}
use Rattle.rows.specs.Sets.{Set, Rel, never, within, any, all, least, closure}
use Rattle.model.specs.Candidates.{among}

abbrev pub Book : Type 0
Book = ℕ → Rel

-- exactly one of the two
abbrev pub differ : Bool → Bool → Bool
differ p q = (p && not q) || (not p && q)

module _ (n : ℕ) (ρ : Book) where
  -- ---- what the book holds: relations 0 to 17, the words (18), same place (19), same thread (20), value written = value read (21)

  abbrev pub Sb : Rel
  Sb = ρ 0

  abbrev pub Asw : Rel
  Asw = ρ 1

  abbrev pub Dd : Rel
  Dd = ρ 2

  abbrev pub Cd : Rel
  Cd = ρ 3

  abbrev pub Rf : Rel
  Rf = ρ 4

  abbrev pub Sc : Rel
  Sc = ρ 5

  abbrev pub Mo : Rel
  Mo = ρ 6

  abbrev pub Sw : Rel
  Sw = ρ 9

  abbrev pub Cad : Rel
  Cad = ρ 10

  abbrev pub Dob : Rel
  Dob = ρ 11

  abbrev pub Ithb : Rel
  Ithb = ρ 12

  abbrev pub Hb : Rel
  Hb = ρ 13

  abbrev pub Vse : Rel
  Vse = ρ 14

  abbrev pub Vsse : Rel
  Vsse = ρ 15

  abbrev pub DataRaces : Rel
  DataRaces = ρ 16

  abbrev pub UnsequencedRaces : Rel
  UnsequencedRaces = ρ 17

  abbrev pub read : Set
  read = ρ 18 0

  abbrev pub write : Set
  write = ρ 18 1

  abbrev pub atomic : Set
  atomic = ρ 18 2

  abbrev pub plain : Set
  plain = ρ 18 3

  abbrev pub fence : Set
  fence = ρ 18 4

  abbrev pub lock : Set
  lock = ρ 18 5

  abbrev pub unlock : Set
  unlock = ρ 18 6

  abbrev pub rmw : Set
  rmw = ρ 18 7

  abbrev pub seq_cst : Set
  seq_cst = ρ 18 8

  abbrev pub sc_action : Set
  sc_action = ρ 18 9

  abbrev pub acquire : Set
  acquire = ρ 18 10

  abbrev pub release : Set
  release = ρ 18 11

  abbrev pub consume : Set
  consume = ρ 18 12

  abbrev pub at_mutex : Set
  at_mutex = ρ 18 13

  abbrev pub at_plain : Set
  at_plain = ρ 18 14

  abbrev pub at_atomic : Set
  at_atomic = ρ 18 15

  abbrev pub atomic_load : Set
  atomic_load = ρ 18 16

  abbrev pub atomic_store : Set
  atomic_store = ρ 18 17

  abbrev pub load_order : Set
  load_order = ρ 18 18

  abbrev pub store_order : Set
  store_order = ρ 18 19

  abbrev pub same_place : Rel
  same_place = ρ 19

  abbrev pub same_thread : Rel
  same_thread = ρ 20

  abbrev pub same_value : Rel
  same_value = ρ 21

  -- ---- words

  abbrev pub some : Set → Bool
  some f = any n f

  abbrev pub each : Set → Bool
  each f = all n f

  -- r;s joins an r step and then an s step.
  infixl 60 ◌⨾◌
  abbrev pub ◌⨾◌ : Rel → Rel → Rel
  ◌⨾◌ r s a b = some λ z. r a z && s z b

  -- Immediate: no third element between.
  abbrev pub immediate : Rel → Rel
  immediate r a b = r a b && not ((r ⨾ r) a b)

  -- ---- relations 7 to 17

  -- hrs(a,b): b at an atomic place and (b=a, or a mo b where b, and each c with a mo c mo b, is in a's thread or an RMW).
  abbrev pub element : Rel
  element a c = same_thread a c || rmw c

  unfoldable pub hrs : Rel
  hrs a b = at_atomic b && (eqb b a || (Mo a b && element a b && (each λ c. not (Mo a c && Mo c b) || element a c)))

  -- rs: hrs with a release.
  unfoldable pub rs : Rel
  rs a b = hrs a b && release a

  -- sw(a,b): asw;
  abbrev pub sw_start : Rel
  sw_start a b = Asw a b

  -- or same place and (unlock a, lock b, a sc b);
  abbrev pub sw_mutex : Rel
  sw_mutex a b = same_place a b && (unlock a && lock b && Sc a b)

  -- or same place, release a, acquire b, different threads, and rs(a,c), c rf b for some c;
  abbrev pub sw_atomic : Rel
  sw_atomic a b = same_place a b && release a && acquire b && not (same_thread a b) && (some λ c. rs a c && Rf c b)

  -- or the three fence cases: release fence a and acquire fence b with atomic write x, atomic y of x's place, a sb x, y sb b, hrs(x,z), z rf y;
  abbrev pub sw_fences : Rel
  sw_fences a b =
      release a && fence a && acquire b && fence b
      && (some λ x. some λ y. atomic x && write x && atomic y && same_place x y && Sb a x && Sb y b && (some λ z. hrs x z && Rf z y))

  -- release fence a and acquire atomic b with atomic write x of b's place, a sb x, hrs(x,z), z rf b;
  abbrev pub sw_fence_atomic : Rel
  sw_fence_atomic a b =
      release a && fence a && acquire b && atomic b
      && (some λ x. atomic x && write x && same_place x b && Sb a x && (some λ z. hrs x z && Rf z b))

  -- release atomic a and acquire fence b with atomic x of a's place, x sb b, rs(a,z), z rf x.
  abbrev pub sw_atomic_fence : Rel
  sw_atomic_fence a b =
      release a && atomic a && acquire b && fence b
      && (some λ x. atomic x && same_place a x && Sb x b && (some λ z. rs a z && Rf z x))

  unfoldable pub sw : Rel
  sw a b = sw_start a b || sw_mutex a b || sw_atomic a b || sw_fences a b || sw_fence_atomic a b || sw_atomic_fence a b

  -- cad: transitive closure of (rf∩sb) ∪ dd.
  abbrev pub cad_step : Rel
  cad_step a b = (Rf a b && Sb a b) || Dd a b

  unfoldable pub cad : Rel
  cad = closure n cad_step

  -- dob(a,d): release a, consume b, rs(a,e), e rf b, and d=b or cad(b,d).
  unfoldable pub dob : Rel
  dob a d = some λ b. release a && consume b && (some λ e. rs a e && Rf e b) && (eqb d b || Cad b d)

  -- r = sw ∪ dob ∪ sw;sb.
  abbrev pub r : Rel
  r a b = Sw a b || Dob a b || (Sw ⨾ Sb) a b

  -- ithb: transitive closure of r ∪ sb;r.
  abbrev pub ithb_step : Rel
  ithb_step a b = r a b || (Sb ⨾ r) a b

  unfoldable pub ithb : Rel
  ithb = closure n ithb_step

  -- hb = sb ∪ ithb. hb need not be transitive.
  unfoldable pub hb : Rel
  hb a b = Sb a b || Ithb a b

  -- vse(a,b): a hb b, a write, b read, same place, no write c of that place, neither a nor b, with a hb c hb b.
  unfoldable pub vse : Rel
  vse a b =
      Hb a b && write a && read b && same_place a b
      && not (some λ c. write c && same_place a c && not (eqb c a) && not (eqb c b) && Hb a c && Hb c b)

  -- vsse(c,b): b a read at an atomic place and for some v with vse(v,b): c=v, or v mo c, not b hb c, and no a with v mo a mo c and b hb a.
  unfoldable pub vsse : Rel
  vsse c b =
      read b && at_atomic b
      && (some λ v. Vse v b && (eqb c v || (Mo v c && not (Hb b c) && not (some λ a. Mo v a && Mo a c && Hb b a))))

  -- Data race: different threads, same place, one a write, not both atomic actions, no hb either way.
  unfoldable pub data_races : Rel
  data_races a b =
      not (same_thread a b) && same_place a b && (write a || write b) && not (atomic a && atomic b)
      && not (Hb a b) && not (Hb b a)

  -- Unsequenced race: two different plain accesses (6, 7), same thread and place, one a write, no sb either way.
  unfoldable pub unsequenced_races : Rel
  unsequenced_races a b =
      not (eqb b a) && plain a && plain b && same_thread a b && same_place a b && (write a || write b)
      && not (Sb a b) && not (Sb b a)

  -- 7 release sequence, 8 hypothetical release sequence, 9 sw, 10 cad, 11 dob, 12 ithb, 13 hb, 14 vse, 15 vsse, 16 data races, 17 unsequenced races
  unfoldable pub derived : List Rel
  derived = rs ∷ hrs ∷ sw ∷ cad ∷ dob ∷ ithb ∷ hb ∷ vse ∷ vsse ∷ data_races ∷ unsequenced_races ∷ []

  -- ---- the rules: 1 to 26 are the paper's

  -- "Strict order" offends at (a,b) if a→a with a=b, or a→z→b without a→b.
  abbrev pub strict : Rel → Rel
  strict s a b = (s a b && eqb b a) || ((s ⨾ s) a b && not (s a b))

  -- "Total on S" adds edges with an end outside S, and a<b in S with no edge either way. (inside a b: a and b are both in S)
  abbrev pub total : Rel → Rel → Rel
  total inside s a b = strict s a b || (s a b && not (inside a b)) || (ltb a b && inside a b && not (s a b) && not (s b a))

  -- The middle of s at (a,b): the least z with a→z→b where there is no a→b, or none. (From request Q-4.)
  abbrev pub between : Rel → ℕ → ℕ → Set
  between s a b z = s a z && s z b && not (s a b)

  unfoldable pub middle : Rel → ℕ → ℕ → Option ℕ
  middle s a b =
      let z = least n (between s a b) in
      cond (ltb z n) (Some z) None

  -- A rule about one action a offends at (a,a).
  abbrev pub one : Set → Rel
  one f a b = eqb b a && f a

  -- two actions of one mutex; of one atomic place; two writes of one atomic place
  abbrev pub of_mutex : Rel
  of_mutex a b = at_mutex a && same_place a b

  abbrev pub of_atomic : Rel
  of_atomic a b = at_atomic a && same_place a b

  abbrev pub writes_of : Rel
  writes_of a b = of_atomic a b && write a && write b

  abbrev pub sc_pair : Rel
  sc_pair a b = sc_action a && sc_action b

  -- sc kept to one mutex's actions; mo kept to one atomic place's
  abbrev pub mutex_sc : Rel
  mutex_sc a b = of_mutex a b && Sc a b

  abbrev pub place_mo : Rel
  place_mo a b = of_atomic a b && Mo a b

  abbrev pub sc_fence : Set
  sc_fence f = fence f && seq_cst f

  -- y=a or a mo y
  abbrev pub up_to : Rel
  up_to a y = eqb a y || Mo a y

  -- b reads from one of the sources, if there are any; else from nothing
  abbrev pub unfed : Rel → Set
  unfed source b = cond (some λ a. source a b) (not (some λ a. source a b && Rf a b)) (some λ a. Rf a b)

  -- 1. Atomic load has order 1, 2, 3 or 6; atomic store 1, 4 or 6.
  unfoldable pub rule1 : Rel
  rule1 = one λ a. (atomic_load a && not (load_order a)) || (atomic_store a && not (store_order a))

  -- 2. Mutex place: only 1, 2. Non-atomic: 6, 7. Atomic: 3 to 7.
  unfoldable pub rule2 : Rel
  rule2 = one λ a.
      (at_mutex a && not (lock a || unlock a)) || (at_plain a && not (plain a)) || (at_atomic a && not (atomic a || plain a))

  -- 3. sb, dd, cd edges stay in a thread.
  unfoldable pub rule3 : Rel
  rule3 a b = (Sb a b || Dd a b || Cd a b) && not (same_thread a b)

  -- 4. sb, dd, cd strict orders.
  unfoldable pub rule4 : Rel
  rule4 a b = strict Sb a b || strict Dd a b || strict Cd a b

  -- 5. dd ⊆ sb.
  unfoldable pub rule5 : Rel
  rule5 a b = Dd a b && not (Sb a b)

  -- 6. sc kept to one mutex's actions is total on them.
  unfoldable pub rule6 : Rel
  rule6 = total of_mutex mutex_sc

  -- 7. An unlock's immediate predecessor there exists and is a lock of its thread.
  unfoldable pub rule7 : Rel
  rule7 = one λ a. unlock a && not (some λ p. immediate mutex_sc p a && lock p && same_thread p a)

  -- 8. A lock's immediate predecessor p there, if any, is an unlock: offends at (p,lock).
  unfoldable pub rule8 : Rel
  rule8 p a = lock a && immediate mutex_sc p a && not (unlock p)

  -- 9. ithb has no a→a.
  unfoldable pub rule9 : Rel
  rule9 = one λ a. Ithb a a

  -- 10. sc total on the SC actions.
  unfoldable pub rule10 : Rel
  rule10 = total sc_pair Sc

  -- 11. hb between SC actions ⊆ sc.
  unfoldable pub rule11 : Rel
  rule11 a b = sc_pair a b && Hb a b && not (Sc a b)

  -- 12. mo between SC actions ⊆ sc.
  unfoldable pub rule12 : Rel
  rule12 a b = sc_pair a b && Mo a b && not (Sc a b)

  -- 13. mo edges join different writes of one atomic place.
  unfoldable pub rule13 : Rel
  rule13 a b = Mo a b && not (not (eqb b a) && writes_of a b)

  -- 14. mo kept to one atomic place's actions is total on its writes.
  unfoldable pub rule14 : Rel
  rule14 = total writes_of place_mo

  -- 15. hb between those writes ⊆ mo.
  unfoldable pub rule15 : Rel
  rule15 a b = writes_of a b && Hb a b && not (Mo a b)

  -- 16. sb;(sc between fences);sb between those writes ⊆ mo.
  unfoldable pub rule16 : Rel
  rule16 a b = writes_of a b && (some λ f. some λ g. Sb a f && (fence f && fence g && Sc f g) && Sb g b) && not (Mo a b)

  -- 17. rf edge: same place, different ends, value written = value read (absent on both for a mutex); mutex: unlock to lock; elsewhere write to read.
  unfoldable pub rule17 : Rel
  rule17 a b =
      Rf a b && not (same_place a b && not (eqb b a) && cond (at_mutex a) (unlock a && lock b) (same_value a b && write a && read b))

  -- 18. One rf source at most: every edge into a target with two offends.
  unfoldable pub rule18 : Rel
  rule18 a b = Rf a b && (some λ c. not (eqb c a) && Rf c b)

  -- 19. Read b at a non-atomic place: if some vse(a,b), b reads from such an a; else from nothing.
  unfoldable pub rule19 : Rel
  rule19 = one λ b. read b && at_plain b && unfed Vse b

  -- 20. Read b at an atomic place: the same with vsse, nothing if it has no vse.
  unfoldable pub rule20 : Rel
  rule20 = one λ b. read b && at_atomic b && unfed Vsse b

  -- 21. x rf a, y rf b, a hb b, one atomic place: x=y or x mo y. Offends at (a,b).
  unfoldable pub rule21 : Rel
  rule21 a b = (some λ x. some λ y. Rf x a && Rf y b && not (up_to x y)) && Hb a b && of_atomic a b

  -- 22. RMW b, a rf b: a is the immediate mo predecessor.
  unfoldable pub rule22 : Rel
  rule22 a b = rmw b && Rf a b && not (immediate Mo a b)

  -- 23. a rf b, both seq_cst: a sc b and no write of that place between in sc.
  unfoldable pub rule23 : Rel
  rule23 a b =
      Rf a b && seq_cst a && seq_cst b
      && not (Sc a b && not (some λ c. write c && same_place c b && Sc a c && Sc c b))

  -- 24. y rf b, seq_cst fence f sb b, b atomic, write a of b's place, a sc f: y=a or a mo y.
  unfoldable pub rule24 : Rel
  rule24 y b =
      some λ a. some λ f.
      Rf y b && (sc_fence f && Sb f b) && atomic b && (write a && same_place a b) && Sc a f && not (up_to a y)

  -- 25. y rf b, b atomic, atomic write a of b's place, a sb f, f a seq_cst fence, f sc b: the same.
  unfoldable pub rule25 : Rel
  rule25 y b =
      some λ a. some λ f.
      Rf y b && atomic b && (atomic a && write a && same_place a b) && Sb a f && sc_fence f && Sc f b && not (up_to a y)

  -- 26. y rf b, b atomic, atomic write a of b's place, a sb f, f sc g, g sb b, both seq_cst fences: the same. ("Of b's place" is from request Q-3.)
  unfoldable pub rule26 : Rel
  rule26 y b =
      some λ a. some λ f. some λ g.
      Rf y b && atomic b && (atomic a && write a && same_place a b) && Sb a f && Sc f g && Sb g b && (sc_fence f && sc_fence g) && not (up_to a y)

  -- ---- 27 to 36 are from request Q-6, by the axioms of source document 004, whose names stand in brackets: edition 2 has them in place of rules 15 and 19 to 23

  -- a load (3 or 6)
  abbrev pub load : Set
  load b = atomic_load b || (plain b && read b)

  -- 27. hb is acyclic: a cycle of one or more hb steps offends at each a on it. [consistent_hb]
  unfoldable pub rule27 : Rel
  rule27 = one λ a. closure n Hb a a

  -- 28. A load (3 or 6) has a source exactly if it has a vse. [det_read]
  unfoldable pub rule28 : Rel
  rule28 = one λ b. load b && differ (some λ a. Rf a b) (some λ a. Vse a b)

  -- 29. At a non-atomic place the source is a vse. [consistent_non_atomic_rf]
  unfoldable pub rule29 : Rel
  rule29 w r = Rf w r && at_plain r && not (Vse w r)

  -- 30. At an atomic place the source is not hb-later than the read. [consistent_atomic_rf]
  unfoldable pub rule30 : Rel
  rule30 w r = Rf w r && at_atomic r && Hb r w

  -- 31. An RMW reads from w exactly if w is its immediate mo predecessor. Offends at (w,RMW). [rmw_atomicity]
  unfoldable pub rule31 : Rel
  rule31 w b = rmw b && differ (Rf w b) (immediate Mo w b)

  -- 32. A seq_cst read of a seq_cst write keeps rule 23, and one of any other write w has no write w' of that place with w hb w' and w' sc the read. [sc_reads_restricted]
  unfoldable pub rule32 : Rel
  rule32 w r =
      rule23 w r
      || (Rf w r && seq_cst r && not (seq_cst w) && (some λ w'. write w' && same_place w' r && Hb w w' && Sc w' r))

  -- 33. Forbidden: w hb w' and w' mo w. Offends at (w,w'). [33 to 36: coherent_memory_use]
  unfoldable pub rule33 : Rel
  rule33 w w' = Hb w w' && Mo w' w

  -- 34. Forbidden: w' mo w, w hb r, w' rf r.
  unfoldable pub rule34 : Rel
  rule34 w' r = (some λ w. Mo w' w && Hb w r) && Rf w' r

  -- 35. Forbidden: r hb w, w mo w', w' rf r.
  unfoldable pub rule35 : Rel
  rule35 w' r = (some λ w. Hb r w && Mo w w') && Rf w' r

  -- 36. Forbidden: w rf r, w' mo w, r hb r', w' rf r'. Offends at (r,r').
  unfoldable pub rule36 : Rel
  rule36 r r' = some λ w. some λ w'. Rf w r && Mo w' w && Hb r r' && Rf w' r'

  -- the rule of each number, from 1, whatever the edition
  unfoldable pub rules : List Rel
  rules =
      never ∷ rule1 ∷ rule2 ∷ rule3 ∷ rule4 ∷ rule5 ∷ rule6 ∷ rule7 ∷ rule8 ∷ rule9 ∷ rule10 ∷ rule11 ∷ rule12 ∷ rule13
      ∷ rule14 ∷ rule15 ∷ rule16 ∷ rule17 ∷ rule18 ∷ rule19 ∷ rule20 ∷ rule21 ∷ rule22 ∷ rule23 ∷ rule24 ∷ rule25 ∷ rule26
      ∷ rule27 ∷ rule28 ∷ rule29 ∷ rule30 ∷ rule31 ∷ rule32 ∷ rule33 ∷ rule34 ∷ rule35 ∷ rule36 ∷ []

  -- ---- the middle where a rule fails, from request Q-4

  -- In rule 4 the first of sb, dd, cd to offend there decides.
  abbrev pub deciding : ℕ → ℕ → Rel
  deciding a b = cond (strict Sb a b) Sb (cond (strict Dd a b) Dd Cd)

  -- The relation tested where rules 4, 6, 10 or 14 fail at (a,b). All other failures return no middle: nothing leads anywhere in theirs.
  unfoldable pub tested : ℕ → ℕ → ℕ → Rel
  tested k a b =
      cond (eqb k 4) (deciding a b) (cond (eqb k 6) mutex_sc (cond (eqb k 10) Sc (cond (eqb k 14) place_mo never)))

  -- the middle where the rule k fails at (a,b)
  abbrev pub middle_at : ℕ → ℕ → ℕ → Option ℕ
  middle_at k a b = middle (tested k a b) a b

-- Edition 2 replaces rules 15 and 19 to 23
abbrev pub replaced : Set
replaced k = among k (15 ∷ 19 ∷ 20 ∷ 21 ∷ 22 ∷ 23 ∷ [])

-- by rules 27 to 36. (At a written number k that both editions have, this computes to true for any e.)
abbrev pub in_force : ℕ → Set
in_force e k = (not (replaced k) || not (eqb e 2)) && (ltb k 27 || eqb e 2)

-- rules 4, 6, 10 and 14 test an order
abbrev pub tests_order : Set
tests_order k = among k (4 ∷ 6 ∷ 10 ∷ 14 ∷ [])

-- the book once relation k is worked out: r between the n actions in its place
abbrev pub enter : ℕ → ℕ → Rel → Book → Book
enter n k r ρ j = cond (eqb j k) (within n r) (ρ j)

-- the book once the first m of relations 7 to 17 are worked out, each from those before it
unfoldable pub entered : ℕ → Book → ℕ → Book
entered n ρ zero = ρ
entered n ρ (suc m) = enter n (7 + m) (get_or (derived n (entered n ρ m)) m never) (entered n ρ m)

-- relations 7 to 17 worked out
abbrev pub filled : ℕ → Book → Book
filled n ρ = entered n ρ 11
