-- The arrays of a machine after a step hold the state after it, and stay as long as they were; and those of a machine that is made.
use Prim.Native.Nat.{ℕ, zero, suc, ◌+◌, ◌<◌, ◌≤◌}
use Rattle.std.specs.Prelude.{Bool, true, false, ◌&&◌, List, [], ◌∷◌, ltb, length, set, replicate}
use Rattle.std.proofs.Math.Bool.{cond, and-true, and-false, or-false}
use Rattle.std.proofs.Common.{⊎_elim, sym, ◌∙◌, arith, get_or-set_same, get_or-set_other, eq-eqb, ne_eqb, lt-ltb}
use Rattle.std.proofs.Math.Path.{◌≡◌, refl, ap, fun_ext}
use Rattle.std.proofs.Math.Numerals.{add-one}
use Rattle.std.proofs.Math.Dec.{eqb}
use Rattle.std.proofs.Math.ListN.{get_or, get_or-eq_default}
use Rattle.std.proofs.lemmas.List.{length-replicate, get_or-replicate}
use Rattle.rows.specs.Sets.{Set, none, either, when, single, without, before}
use Rattle.rows.specs.Numbers.{size, has, listed}
use Rattle.rows.specs.Laws.Truth.{lt_or_le, eq_or_ne}
use Rattle.rows.specs.Laws.Lists.{listed_length, listed_all}
use Rattle.rows.proofs.Laws.Parts.{has_none}
use Rattle.rows.specs.declared.Row.{Row}
use Rattle.model.specs.declared.Action.{Action}
use Rattle.model.specs.declared.ActionKind.{ActionKind}
use Rattle.model.specs.Actions.{kind_number, no_action}
use Rattle.model.specs.Limits.{most_actions, most_places}
use Rattle.machine.specs.declared.Machine.{Machine}
use Rattle.machine.specs.Machine.{put, is_kind, most_traced, State, start, worth, reading, done, arrived}
use Rattle.machine.specs.Code.{stays, worth_in, state_of, Fit, fitting, noted, moved}
use Rattle.machine.specs.Fields.{no_row, state_in}

-- ---- one element written

-- an element of an array
get_d_put : {A : Type 0} (l : List A) (k : ℕ) (v d : A) → k < length l → (λ a. get_or (set l k v) a d) ≡ put (λ a. get_or l a d) k v
get_d_put l k v d h = fun_ext λ a.
    ⊎_elim
    (λ (e : a ≡ k). rw (eq-eqb a k e, e) (get_or-set_same l k v d h))
    (λ ne. rw (ne_eqb a k ne) (get_or-set_other l k a v d ne))
    (eq_or_ne a k)

-- a row written among rows
rows_put : (l : List Row) (k : ℕ) (row : Row) (s : Set) → k < length l → has row ≡ s
    → ◌≡◌ {A = ℕ → Set} (λ b. has (get_or (set l k row) b no_row)) (put (λ b. has (get_or l b no_row)) k s)
rows_put l k row s h e = fun_ext λ b.
    ⊎_elim
    (λ (q : b ≡ k). rw (eq-eqb b k q, q, get_or-set_same l k row no_row h) e)
    (λ ne. rw (ne_eqb b k ne, get_or-set_other l k b row no_row ne))
    (eq_or_ne b k)

-- a member taken away is one at which the set no longer holds
without_put : (s : Set) (w : ℕ) → without s w ≡ put s w false
without_put s w = fun_ext λ b. ⊎_elim (λ (e : b ≡ w). rw (eq-eqb b w e) (and-false (s b))) (λ ne. rw (ne_eqb b w ne) (and-true (s b))) (eq_or_ne b w)

-- a member that is put in or not
with_put : (s : Set) (n : ℕ) (p : Bool) → n < size → either (without s n) (when p (when (ltb n size) (single n))) ≡ put s n p
with_put s n p l = fun_ext λ b.
    ⊎_elim
    (λ (e : b ≡ n). rw (eq-eqb b n e, lt-ltb n size l, and-false (s b)) (and-true p))
    (λ ne. rw (ne_eqb b n ne, lt-ltb n size l, and-true (s b), and-false p) (or-false (s b)))
    (eq_or_ne b n)

-- states with the same fields
state_same : {x₁ y₁ : ℕ → ℕ} {x₂ y₂ : ℕ → Set} {x₃ y₃ : Set} {x₄ y₄ : ℕ → Action} {x₅ y₅ : ℕ → ℕ} {x₆ y₆ x₇ y₇ x₈ y₈ : ℕ}
    → x₁ ≡ y₁ → x₂ ≡ y₂ → x₃ ≡ y₃ → x₄ ≡ y₄ → x₅ ≡ y₅ → x₆ ≡ y₆ → x₇ ≡ y₇ → x₈ ≡ y₈
    → ◌≡◌ {A = State} (record { t = x₇; p = x₈; n = x₆; act = x₄; waiting = x₃; source = x₅; memory = x₁; before = x₂ })
    (record { t = y₇; p = y₈; n = y₆; act = y₄; waiting = y₃; source = y₅; memory = y₁; before = y₂ })
state_same a b c d e f g h = cc

-- ---- a store arrives

-- the state after it
pub moved_state : (m : Machine) (w pl : ℕ) (row : Row) → w < m.n → pl ≡ (get_or m.acts w no_action).place
    → has row ≡ before (stays m.acts (has m.waiting) pl) m.n → moved m w pl row ≡ arrived (state_of m) w
unfolding state_of arrived
moved_state m w pl row l q h =
    let f₁ : ◌≡◌ {A = ℕ → ℕ} (λ a. get_or (set m.memory pl (w + 1)) a 0) (put (λ a. get_or m.memory a 0) (get_or m.acts w no_action).place (suc w)) =
    rw (q, add-one w) (get_d_put m.memory (get_or m.acts w no_action).place (suc w) 0 (omega (arith, m.cells, m.placed w l))) in
    let f₂ : ◌≡◌ {A = ℕ → Set} (λ b. has (get_or (set m.before w row) b no_row)) (put (λ b. has (get_or m.before b no_row)) w (before (stays m.acts (has m.waiting) (get_or m.acts w no_action).place) m.n)) =
    rw (← q) (rows_put m.before w row (before (stays m.acts (has m.waiting) pl) m.n) (omega (arith, m.rows, m.few)) h) in
    state_same f₁ f₂ (without_put (has m.waiting) w) refl refl refl refl refl

-- a machine in which it is written
module _ (m r : Machine) (w pl : ℕ) (row : Row) where
  -- what is written: memory, what was there before, what waits
  abbrev pub Arrival : Type 0
  Arrival =
      (r.memory ≡ set m.memory pl (w + 1)) × (r.before ≡ set m.before w row) × (has r.waiting ≡ without (has m.waiting) w)
      × (r.acts ≡ m.acts) × (r.source ≡ m.source) × (r.n ≡ m.n) × (r.t ≡ m.t) × (r.p ≡ m.p)

  -- it holds the state after it
  pub arrival_state : w < m.n → pl ≡ (get_or m.acts w no_action).place → has row ≡ before (stays m.acts (has m.waiting) pl) m.n → Arrival
      → state_of r ≡ arrived (state_of m) w
  unfolding state_of
  arrival_state l q h (e₁, e₂, e₃, e₄, e₅, e₆, e₇, e₈) =
      state_same (rw e₁) (rw e₂) e₃ (rw e₄) (rw e₅) e₆ e₇ e₈ ∙ moved_state m w pl row l q h

  -- the arrays are as long as they were
  pub arrival_fit : Arrival → Fit r
  arrival_fit _ = fitting r

-- ---- an action is done

-- the value that is found there
worth_is : (m : Machine) (s : ℕ) → worth_in m.acts s ≡ worth (state_of m) s
unfolding worth state_of
worth_is m zero = refl
worth_is m (suc w) = refl

-- one kind, by its number
kind_one : (n i : ℕ) (k : ActionKind) → n ≡ kind_number k → eqb n i ≡ is_kind (i ∷ []) k
kind_one n i k e = rw e (sym (or-false (eqb (kind_number k) i)))

-- memory k after an action, from l before it
module _ (l k : List ℕ) (n pl : ℕ) (b : Bool) where
  -- with the write of an RMW
  pub memory_rmw : b ≡ true → pl < length l → k ≡ set l pl (n + 1) → ◌≡◌ {A = ℕ → ℕ} (λ q. get_or k q 0) (λ q. cond (b && eqb q pl) (suc n) (get_or l q 0))
  memory_rmw e h w = rw (w, e, add-one n) (get_d_put l pl (suc n) 0 h)

  -- of any other action it is the same
  pub memory_same : b ≡ false → k ≡ l → ◌≡◌ {A = ℕ → ℕ} (λ q. get_or k q 0) (λ q. cond (b && eqb q pl) (suc n) (get_or l q 0))
  memory_same e w = rw (w, e)

-- one or the other
memory_after : (l k : List ℕ) (n pl : ℕ) (b : Bool) → pl < length l → k ≡ cond b (set l pl (n + 1)) l
    → ◌≡◌ {A = ℕ → ℕ} (λ q. get_or k q 0) (λ q. cond (b && eqb q pl) (suc n) (get_or l q 0))
memory_after l k n pl true h w = memory_rmw l k n pl true refl h w
memory_after l k n pl false h w = memory_same l k n pl false refl w

module _ (m : Machine) (x : Action) (s : ℕ) (row w : Row) (memory : List ℕ) (room : m.n < most_traced) where
  -- the state after it
  pub noted_done : (k : ActionKind) (kn th pl v : ℕ) → kn ≡ kind_number k
      → s ≡ reading (state_of m) k th pl → x ≡ record { what = k; thread = th; place = pl; read = worth_in m.acts s; written = v }
      → has row ≡ when (eqb kn 5) (before (stays m.acts (has m.waiting) pl) m.n)
      → has w ≡ either (without (has m.waiting) m.n) (when (eqb kn 4) (when (ltb m.n size) (single m.n)))
      → ◌≡◌ {A = ℕ → ℕ} (λ q. get_or memory q 0) (λ q. cond (eqb kn 5 && eqb q pl) (suc m.n) (get_or m.memory q 0))
      → noted m x s row w memory ≡ done (state_of m) k th pl v
  unfolding state_of done
  noted_done k kn th pl v ek es ex er ew em =
      let X : Action = record { what = k; thread = th; place = pl; read = worth (state_of m) (reading (state_of m) k th pl); written = v } in
      let ex' : x ≡ X = ex ∙ ap (λ (y : ℕ). record { what = k; thread = th; place = pl; read = y; written = v }) (worth_is m s ∙ ap (worth (state_of m)) es) in
      let S : Set = before (stays m.acts (has m.waiting) pl) m.n in
      let f₁ : ◌≡◌ {A = ℕ → Set} (λ b. has (get_or (set m.before m.n row) b no_row)) (put (λ b. has (get_or m.before b no_row)) m.n (when (is_kind (5 ∷ []) k) S)) =
      rw (← kind_one kn 5 k ek) (rows_put m.before m.n row (when (eqb kn 5) S) (omega (arith, m.rows)) er) in
      let f₂ : has w ≡ put (has m.waiting) m.n (is_kind (4 ∷ []) k) =
      rw (← kind_one kn 4 k ek) (ew ∙ with_put (has m.waiting) m.n (eqb kn 4) (omega arith)) in
      let f₃ : ◌≡◌ {A = ℕ → Action} (λ a. get_or (set m.acts m.n x) a no_action) (put (λ a. get_or m.acts a no_action) m.n X) =
      rw (← ex') (get_d_put m.acts m.n x no_action (omega (arith, m.actions))) in
      let f₄ : ◌≡◌ {A = ℕ → ℕ} (λ a. get_or (set m.source m.n s) a 0) (put (λ a. get_or m.source a 0) m.n (reading (state_of m) k th pl)) =
      rw (← es) (get_d_put m.source m.n s 0 (omega (arith, m.sources))) in
      let f₅ : ◌≡◌ {A = ℕ → ℕ} (λ q. get_or memory q 0) (λ q. cond (is_kind (5 ∷ []) k && eqb q pl) (suc m.n) (get_or m.memory q 0)) =
      rw (← kind_one kn 5 k ek) em in
      state_same f₅ f₁ f₂ f₃ f₄ (add-one m.n) refl refl

  -- where memory is written as an RMW does
  pub noted_written : (k : ActionKind) (kn th pl v : ℕ) → kn ≡ kind_number k
      → s ≡ reading (state_of m) k th pl → x ≡ record { what = k; thread = th; place = pl; read = worth_in m.acts s; written = v }
      → has row ≡ when (eqb kn 5) (before (stays m.acts (has m.waiting) pl) m.n)
      → has w ≡ either (without (has m.waiting) m.n) (when (eqb kn 4) (when (ltb m.n size) (single m.n)))
      → pl < most_places → memory ≡ cond (eqb kn 5) (set m.memory pl (m.n + 1)) m.memory
      → noted m x s row w memory ≡ done (state_of m) k th pl v
  noted_written k kn th pl v ek es ex er ew lp em =
      noted_done k kn th pl v ek es ex er ew (memory_after m.memory memory m.n pl (eqb kn 5) (omega (arith, m.cells)) em)

-- a machine in which it is noted
module _ (m r : Machine) (x : Action) (s : ℕ) (row w : Row) where
  -- what is written but for memory: what was there before, what waits, the action and where it read from
  abbrev pub Noted : Type 0
  Noted =
      (r.before ≡ set m.before m.n row) × (r.waiting ≡ w) × (r.acts ≡ set m.acts m.n x) × (r.source ≡ set m.source m.n s)
      × (r.n ≡ m.n + 1) × (r.t ≡ m.t) × (r.p ≡ m.p)

  -- it holds the state after it
  pub noted_state : m.n < most_traced → (k : ActionKind) (kn th pl v : ℕ) → kn ≡ kind_number k
      → s ≡ reading (state_of m) k th pl → x ≡ record { what = k; thread = th; place = pl; read = worth_in m.acts s; written = v }
      → has row ≡ when (eqb kn 5) (before (stays m.acts (has m.waiting) pl) m.n)
      → has w ≡ either (without (has m.waiting) m.n) (when (eqb kn 4) (when (ltb m.n size) (single m.n)))
      → ◌≡◌ {A = ℕ → ℕ} (λ q. get_or r.memory q 0) (λ q. cond (eqb kn 5 && eqb q pl) (suc m.n) (get_or m.memory q 0))
      → Noted → state_of r ≡ done (state_of m) k th pl v
  unfolding state_of
  noted_state room k kn th pl v ek es ex er ew em (e₁, e₂, e₃, e₄, e₅, e₆, e₇) =
      state_same refl (rw e₁) (ap has e₂) (rw e₃) (rw e₄) e₅ e₆ e₇
      ∙ noted_done m x s row w r.memory room k kn th pl v ek es ex er ew em

  -- the arrays are as long as they were, and its place is one of the places
  pub noted_fit : Noted → Fit r
  noted_fit _ = fitting r

-- ---- a machine that has done nothing

-- an array that is the same everywhere
same_all : {A : Type 0} (k : ℕ) (d : A) → ◌≡◌ {A = ℕ → A} (λ a. get_or (replicate k d) a d) (λ a. d)
same_all {A} k d = fun_ext λ a.
    ⊎_elim (λ (l : a < k). get_or-replicate k a d d l) (λ (l : k ≤ a). get_or-eq_default (replicate k d) d (rw (length-replicate {A = A} k d) l)) (lt_or_le a k)

-- rows without a member
rows_all : (k : ℕ) (row : Row) → has row ≡ none → ◌≡◌ {A = ℕ → Set} (λ b. has (get_or (replicate k row) b no_row)) (λ b. none)
rows_all k row e = fun_ext λ b.
    ⊎_elim
    (λ (l : b < k). ap has (get_or-replicate k b row no_row l) ∙ e)
    (λ (l : k ≤ b). ap has (get_or-eq_default (replicate k row) no_row (rw (length-replicate {A = Row} k row) l)) ∙ has_none)
    (lt_or_le b k)

-- it holds the start
pub made_state : (t p : ℕ) (acts : List Action) (row : Row) → acts ≡ listed most_actions (λ _. no_action) → has row ≡ none
    → state_in acts (replicate most_traced 0) (replicate most_places 0) (replicate most_traced row) (has row) t p 0 ≡ start t p
unfolding start
made_state t p acts row ea er =
    state_same (same_all most_places 0) (rows_all most_traced row er) er (rw ea (fun_ext (listed_all (λ _. no_action) most_actions no_action (λ i l. refl)))) (same_all most_traced 0) refl refl refl

-- its arrays are as long as they should be
pub made_fit : (acts : List Action) (row : Row) → acts ≡ listed most_actions (λ _. no_action)
    → (length (replicate most_traced row) ≡ most_traced) × (length (replicate {A = ℕ} most_traced 0) ≡ most_traced)
    × (length acts ≡ most_actions) × (length (replicate {A = ℕ} most_places 0) ≡ most_places)
made_fit acts row ea =
    (length-replicate {A = Row} most_traced row, length-replicate {A = ℕ} most_traced 0, rw ea (listed_length (λ _. no_action) most_actions), length-replicate {A = ℕ} most_places 0)
