-- A state after a drain keeps what every state keeps.
use Rattle.std.specs.Prelude.{ℕ, suc, ◌<◌, ◌≤◌, Bool, not, [], ◌∷◌, ◌≡◌, refl, ◌⊎◌, eqb, ltb}
use Rattle.std.proofs.Math.Bool.{false}
use Rattle.std.proofs.Common.{sym, ◌∙◌, ltb→lt, T_not}
use Rattle.std.proofs.Math.Path.{subst, ap}
use Rattle.std.proofs.Math.Logic.{inl, inr, ⊎_elim}
use native.Mathlib.Omega.{arith}
use Rattle.std.proofs.Math.Dec.{T, eqb→eq, lt→ltb}
use Rattle.rows.specs.Sets.{Set}
use Rattle.rows.specs.Laws.Truth.{and_l, and_r, and_i, eqb_i, eq_or_ne}
use Rattle.machine.specs.Machine.{is_kind, State, there, arrived, thread_at, place_at, write_at, read_at, in_memory}
use Rattle.machine.specs.Laws.Taken.{Moved}
use Rattle.machine.specs.Laws.Puts.{put_same, put_other}
use Rattle.console.specs.Laws.Kept.{store_writes, store_not_read, Clock, moved_clock, Ahead, Unwritten, Written, Mine, Fresh, FromQueue, FromMemory, FromNothing, Source, Kept}

-- w is the oldest store that waits in its thread
module _ (σ : State) (κ : Clock) (I : Kept σ κ) (th w : ℕ) (M : Moved σ th w) where
  abbrev n : ℕ
  n = σ.n

  -- w is an action
  lw : w < n
  lw = M.below

  -- the state and the clock afterwards
  abbrev σ' : State
  σ' = arrived σ w

  abbrev κ' : Clock
  κ' = moved_clock κ w

  -- when an action was settled
  settled_new : κ'.settled w ≡ κ.now
  settled_new = put_same κ.settled w κ.now

  settled_old : (a : ℕ) → (a ≡ w → ⊥) → κ'.settled a ≡ κ.settled a
  settled_old a ne = put_other κ.settled w κ.now a ne

  -- whether it waits
  waiting_new : σ'.waiting w ≡ false
  unfolding arrived
  waiting_new = put_same σ.waiting w false

  waiting_old : (a : ℕ) → (a ≡ w → ⊥) → σ'.waiting a ≡ σ.waiting a
  unfolding arrived
  waiting_old a ne = put_other σ.waiting w false a ne

  -- what memory holds
  memory_new : σ'.memory (place_at σ w) ≡ suc w
  unfolding arrived
  memory_new = put_same σ.memory (place_at σ w) (suc w)

  memory_old : (q : ℕ) → (q ≡ place_at σ w → ⊥) → σ'.memory q ≡ σ.memory q
  unfolding arrived
  memory_old q ne = put_other σ.memory (place_at σ w) (suc w) q ne

  -- w writes
  writes_w : T (write_at σ w)
  writes_w = store_writes (σ.act w).what (I.good w lw).takes (I.waits w lw M.waits)

  -- what does not wait is not w
  not_w : (a : ℕ) → T (not (σ.waiting a)) → a ≡ w → ⊥
  not_w a t e = T_not (σ.waiting a) t (subst (λ (y : ℕ). T (σ.waiting y)) (sym e) M.waits)

  -- any other write is in memory if it was
  memory_back : (a : ℕ) → (a ≡ w → ⊥) → T (in_memory σ' a) → T (in_memory σ a)
  unfolding arrived
  memory_back a ne t =
      let s : T (not (σ'.waiting a)) = and_r (write_at σ a) (not (σ'.waiting a)) t in
      and_i (write_at σ a) (not (σ.waiting a)) (and_l (write_at σ a) (not (σ'.waiting a)) t) (subst (λ (y : Bool). T (not y)) (waiting_old a ne) s)

  -- and stays there
  memory_on : (a : ℕ) → T (in_memory σ a) → T (in_memory σ' a)
  unfolding arrived
  memory_on a t =
      let s : T (not (σ.waiting a)) = and_r (write_at σ a) (not (σ.waiting a)) t in
      and_i (write_at σ a) (not (σ'.waiting a)) (and_l (write_at σ a) (not (σ.waiting a)) t) (subst (λ (y : Bool). T (not y)) (sym (waiting_old a (not_w a s))) s)

  -- and now w is
  there_w : T (in_memory σ' w)
  unfolding arrived
  there_w = and_i (write_at σ w) (not (σ'.waiting w)) writes_w (subst (λ (y : Bool). T (not y)) (sym waiting_new) tt)

  -- ---- the fields, one by one

  -- all were settled before now
  settled_now' : (a : ℕ) → a < n → κ'.settled a < suc κ.now
  settled_now' a l =
      ⊎_elim
      (λ (e : a ≡ w). rw (e, settled_new) (omega arith))
      (λ ne. rw (settled_old a ne) (omega (arith, I.settled_now a l)))
      (eq_or_ne a w)

  -- nothing is settled before it is done
  late' : (a : ℕ) → a < n → κ.issued a ≤ κ'.settled a
  late' a l =
      ⊎_elim
      (λ (e : a ≡ w). rw (e, settled_new) (omega (arith, I.issued_now w lw)))
      (λ ne. rw (settled_old a ne) (I.late a l))
      (eq_or_ne a w)

  -- reads are settled when they are done
  at_once' : (a : ℕ) → a < n → T (read_at σ a) → κ'.settled a ≡ κ.issued a
  at_once' a l t =
      ⊎_elim
      (λ (e : a ≡ w). absurd (store_not_read (σ.act w).what (I.good w lw).takes (I.waits w lw M.waits) (subst (λ (y : ℕ). T (read_at σ y)) e t)))
      (λ ne. settled_old a ne ∙ I.at_once a l t)
      (eq_or_ne a w)

  -- only stores wait
  waits' : (a : ℕ) → a < n → T (σ'.waiting a) → T (is_kind (4 ∷ []) (σ.act a).what)
  waits' a l t =
      ⊎_elim
      (λ (e : a ≡ w). let u : T (σ'.waiting w) = subst (λ (y : ℕ). T (σ'.waiting y)) e t in absurd (subst T waiting_new u))
      (λ ne. I.waits a l (subst T (waiting_old a ne) t))
      (eq_or_ne a w)

  -- what did not wait does not
  still : (a : ℕ) → T (not (σ.waiting a)) → T (not (σ'.waiting a))
  still a t = subst (λ (y : Bool). T (not y)) (sym (waiting_old a (not_w a t))) t

  -- w comes after all of its thread before it
  fifo_new : (a : ℕ) → a < w → thread_at σ a ≡ thread_at σ w → T (not (σ'.waiting a)) × (κ'.settled a < κ'.settled w)
  fifo_new a l e =
      let la : a < n = omega arith in
      (still a (M.oldest a l e), rw (settled_new, settled_old a (λ z. omega arith)) (I.settled_now a la))

  -- a thread's writes arrive in order
  fifo' : (a b : ℕ) → a < b → b < n → thread_at σ a ≡ thread_at σ b → T (write_at σ b) → T (not (σ'.waiting b)) → T (not (σ'.waiting a)) × (κ'.settled a < κ'.settled b)
  fifo' a b l h e wr s =
      ⊎_elim
      (λ (z : b ≡ w). subst (λ (y : ℕ). T (not (σ'.waiting a)) × (κ'.settled a < κ'.settled y)) (sym z) (fifo_new a (omega arith) (subst (λ (y : ℕ). thread_at σ a ≡ thread_at σ y) z e)))
      (λ (ne : b ≡ w → ⊥).
      let (p, q) = I.fifo a b l h e wr (subst (λ (y : Bool). T (not y)) (waiting_old b ne) s) in
      (still a p, rw (settled_old a (not_w a p), settled_old b ne) q))
      (eq_or_ne b w)

  -- w arrives last of all
  after_w : (a : ℕ) → a < n → (a ≡ w → ⊥) → κ'.settled a < κ'.settled w
  after_w a l ne = rw (settled_old a ne, settled_new) (I.settled_now a l)

  -- no two arrive at once
  apart' : (a b : ℕ) → a < b → b < n → T (in_memory σ' a) → T (in_memory σ' b) → κ'.settled a ≡ κ'.settled b → ⊥
  apart' a b l h s t e =
      let la : a < n = omega arith in
      ⊎_elim
      (λ (z : b ≡ w). let u : κ'.settled a ≡ κ'.settled w = subst (λ (y : ℕ). κ'.settled a ≡ κ'.settled y) z e in omega (arith, after_w a la (λ y. omega arith)))
      (λ (ne : b ≡ w → ⊥).
      ⊎_elim
      (λ (z : a ≡ w). let u : κ'.settled w ≡ κ'.settled b = subst (λ (y : ℕ). κ'.settled y ≡ κ'.settled b) z e in omega (arith, after_w b h ne))
      (λ (me : a ≡ w → ⊥). I.apart a b l h (memory_back a me s) (memory_back b ne t) (sym (settled_old a me) ∙ e ∙ settled_old b ne))
      (eq_or_ne a w))
      (eq_or_ne b w)

  -- ---- memory

  -- w's place holds w
  memory_hit : Written σ' κ' (place_at σ w) w
  unfolding arrived
  memory_hit =
      record {
        holds = memory_new;
        below = lw;
        there = there_w;
        place = refl;
        last = λ a l s e. ⊎_elim (λ (z : a ≡ w). subst (λ (y : ℕ). κ'.settled y ≤ κ'.settled w) (sym z) (omega arith)) (λ ne. omega (arith, after_w a l ne)) (eq_or_ne a w);
      }

  module _ (q : ℕ) (ne : q ≡ place_at σ w → ⊥) where
    -- at another place w has not arrived
    elsewhere : (a : ℕ) → place_at σ a ≡ q → a ≡ w → ⊥
    elsewhere a e z = ne (sym e ∙ ap (λ (y : ℕ). place_at σ y) z)

    -- it is unwritten if it was
    unwritten_on : Unwritten σ q → Unwritten σ' q
    unfolding arrived
    unwritten_on U = record { holds = memory_old q ne ∙ U.holds; none = λ a l s e. U.none a l (memory_back a (elsewhere a e) s) e }

    -- or has the writer that it had
    written_on : (c : ℕ) → Written σ κ q c → Written σ' κ' q c
    unfolding arrived
    written_on c W =
        let e₂ : κ'.settled c ≡ κ.settled c = settled_old c (elsewhere c W.place) in
        record {
          holds = memory_old q ne ∙ W.holds;
          below = W.below;
          there = memory_on c W.there;
          place = W.place;
          last = λ a l s e. let e₁ : κ'.settled a ≡ κ.settled a = settled_old a (elsewhere a e) in let b = W.last a l (memory_back a (elsewhere a e) s) e in omega arith;
        }

  -- so every place holds what arrived last
  memory' : (q : ℕ) → Unwritten σ' q ⊎ ((c : ℕ) × Written σ' κ' q c)
  memory' q =
      ⊎_elim
      (λ (e : q ≡ place_at σ w). inr (w, rw e memory_hit))
      (λ (ne : q ≡ place_at σ w → ⊥). ⊎_elim (λ U. inl (unwritten_on q ne U)) (λ (W : (c : ℕ) × Written σ κ q c). inr (W.0, written_on q ne W.0 W.1)) (I.memory_is q))
      (eq_or_ne q (place_at σ w))

  -- ---- sources

  -- writes of a read's thread and place stay so
  mine_back : (r c : ℕ) → Mine σ' κ' r c → Mine σ κ r c
  unfolding arrived
  mine_back r c M = record { writes = M.writes; thread = M.thread; place = M.place }

  mine_on : (r c : ℕ) → Mine σ κ r c → Mine σ' κ' r c
  unfolding arrived
  mine_on r c M = record { writes = M.writes; thread = M.thread; place = M.place }

  module _ (r : ℕ) (lr : r < n) where
    -- w was not in memory by then
    not_then : (c : ℕ) → κ'.settled c < κ.issued r → c ≡ w → ⊥
    not_then c l e =
        let u : κ'.settled w < κ.issued r = subst (λ (y : ℕ). κ'.settled y < κ.issued r) e l in
        omega (arith, settled_new, I.issued_now r lr)

    -- no store waited then
    fresh_on : Fresh σ κ r → Fresh σ' κ' r
    fresh_on f c l M = let (p, q) = f c l (mine_back r c M) in (still c p, rw (settled_old c (not_w c p)) q)

    -- a read from its own queue
    queue_on : (c : ℕ) → FromQueue σ κ r c → FromQueue σ' κ' r c
    unfolding arrived
    queue_on c Q =
        record {
          from = Q.from;
          value = Q.value;
          before = Q.before;
          mine = mine_on r c Q.mine;
          pending =
              ⊎_elim
              (λ (e : c ≡ w). inr (subst (λ (y : ℕ). κ.issued r < κ'.settled y) (sym e) (let z : κ'.settled w ≡ κ.now = settled_new in omega (arith, I.issued_now r lr))))
              (λ (ne : c ≡ w → ⊥). ⊎_elim (λ (t : T (σ.waiting c)). inl (subst T (sym (waiting_old c ne)) t)) (λ (l : κ.issued r < κ.settled c). inr (let z : κ'.settled c ≡ κ.settled c = settled_old c ne in omega arith)) Q.pending)
              (eq_or_ne c w);
          newest = λ d l h M. Q.newest d l h (mine_back r d M);
        }

    -- a read from memory
    from_memory_on : (c : ℕ) → FromMemory σ κ r c → FromMemory σ' κ' r c
    unfolding arrived
    from_memory_on c Q =
        let e₂ : κ'.settled c ≡ κ.settled c = settled_old c (not_w c (and_r (write_at σ c) (not (σ.waiting c)) Q.there)) in
        record {
          from = Q.from;
          value = Q.value;
          below = Q.below;
          there = memory_on c Q.there;
          place = Q.place;
          by_then = let b = Q.by_then in omega arith;
          last = λ d l s e u.
              let ne = not_then d u in
              let e₁ : κ'.settled d ≡ κ.settled d = settled_old d ne in
              let u₂ : κ.settled d < κ.issued r = omega arith in
              let b = Q.last d l (memory_back d ne s) e u₂ in
              omega arith;
          fresh = fresh_on Q.fresh;
        }

    -- a read of unwritten memory
    nothing_on : FromNothing σ κ r → FromNothing σ' κ' r
    unfolding arrived
    nothing_on Q =
        record {
          from = Q.from;
          value = Q.value;
          none = λ d l s e u.
              let ne = not_then d u in
              let e₁ : κ'.settled d ≡ κ.settled d = settled_old d ne in
              let u₂ : κ.settled d < κ.issued r = omega arith in
              Q.none d l (memory_back d ne s) e u₂;
          fresh = fresh_on Q.fresh;
        }

    -- so each has the source that it had
    source_on : T (read_at σ r) → Source σ' κ' r
    source_on t =
        ⊎_elim
        (λ (Q : (c : ℕ) × FromQueue σ κ r c). inl (Q.0, queue_on Q.0 Q.1))
        (⊎_elim
        (λ (Q : (c : ℕ) × FromMemory σ κ r c). inr (inl (Q.0, from_memory_on Q.0 Q.1)))
        (λ (Q : FromNothing σ κ r). inr (inr (nothing_on Q))))
        (I.source_is r lr t)

  -- ---- what was there before

  -- what w finds at its place
  before_new : (a : ℕ) → σ'.before w a ≡ there σ (place_at σ w) a
  unfolding arrived
  before_new a = ap (λ (f : Set). f a) (put_same σ.before w (there σ (place_at σ w)))

  -- what another write found
  before_old : (a b : ℕ) → (b ≡ w → ⊥) → σ'.before b a ≡ σ.before b a
  unfolding arrived
  before_old a b ne = ap (λ (f : Set). f a) (put_other σ.before w (there σ (place_at σ w)) b ne)

  -- w had not arrived
  w_waits : T (in_memory σ w) → ⊥
  w_waits t = T_not (σ.waiting w) (and_r (write_at σ w) (not (σ.waiting w)) t) M.waits

  -- what w finds is an action, as is what a write found
  before_lt_new : (a : ℕ) → T (σ'.before w a) → a < n
  before_lt_new a t = let u : T (there σ (place_at σ w) a) = subst T (before_new a) t in ltb→lt a n (search (and_l, and_r))

  before_lt' : (a b : ℕ) → b < n → T (σ'.before b a) → a < n
  before_lt' a b l =
      ⊎_elim
      (λ (e : b ≡ w). rw e (before_lt_new a))
      (λ (ne : b ≡ w → ⊥) t. I.before_lt a b l (subst T (before_old a b ne) t))
      (eq_or_ne b w)

  -- what w finds arrived before it
  before_e_new : (a : ℕ) → T (σ'.before w a) → Ahead σ' κ' a w
  unfolding arrived
  before_e_new a t =
      let u : T (there σ (place_at σ w) a) = subst T (before_new a) t in
      let la : a < n = before_lt_new a t in
      let i : T (in_memory σ a) = search (and_l, and_r) in
      let p : T (eqb (place_at σ a) (place_at σ w)) = search (and_l, and_r) in
      record {
        from = memory_on a i;
        to = there_w;
        place = eqb→eq (place_at σ a) (place_at σ w) p;
        sooner = after_w a la (λ e. w_waits (subst (λ (y : ℕ). T (in_memory σ y)) e i));
      }

  -- what a write found arrived before it
  before_e' : (a b : ℕ) → a < n → b < n → T (σ'.before b a) → Ahead σ' κ' a b
  unfolding arrived
  before_e' a b l h =
      ⊎_elim
      (λ (e : b ≡ w). rw e (before_e_new a))
      (λ (ne : b ≡ w → ⊥) t.
      let H = I.before_e a b l h (subst T (before_old a b ne) t) in
      let me : a ≡ w → ⊥ = λ e. w_waits (subst (λ (y : ℕ). T (in_memory σ y)) e H.from) in
      record {
        from = memory_on a H.from;
        to = memory_on b H.to;
        place = H.place;
        sooner = let e₁ : κ'.settled a ≡ κ.settled a = settled_old a me in let e₂ : κ'.settled b ≡ κ.settled b = settled_old b ne in let s = H.sooner in omega arith;
      })
      (eq_or_ne b w)

  -- all that arrived before w is found
  before_i_new : (a : ℕ) → a < n → Ahead σ' κ' a w → T (σ'.before w a)
  unfolding arrived
  before_i_new a la H =
      let me : a ≡ w → ⊥ = λ e. let s : κ'.settled w < κ'.settled w = subst (λ (y : ℕ). κ'.settled y < κ'.settled w) e H.sooner in omega arith in
      let l : T (ltb a n) = lt→ltb a n la in
      let i : T (in_memory σ a) = memory_back a me H.from in
      let p : T (eqb (place_at σ a) (place_at σ w)) = eqb_i (place_at σ a) (place_at σ w) H.place in
      let u : T (there σ (place_at σ w) a) = search (and_i) in
      subst T (sym (before_new a)) u

  -- all that arrived before a write was found
  before_i' : (a b : ℕ) → a < n → b < n → Ahead σ' κ' a b → T (σ'.before b a)
  unfolding arrived
  before_i' a b l h H =
      ⊎_elim
      (λ (e : b ≡ w). subst (λ (y : ℕ). T (σ'.before y a)) (sym e) (before_i_new a l (subst (λ (y : ℕ). Ahead σ' κ' a y) e H)))
      (λ (ne : b ≡ w → ⊥).
      let me : a ≡ w → ⊥ = λ e. let s : κ'.settled w < κ'.settled b = subst (λ (y : ℕ). κ'.settled y < κ'.settled b) e H.sooner in let z = after_w b h ne in omega arith in
      subst T (sym (before_old a b ne)) (I.before_i a b l h (record {
        from = memory_back a me H.from;
        to = memory_back b ne H.to;
        place = H.place;
        sooner = let e₁ : κ'.settled a ≡ κ.settled a = settled_old a me in let e₂ : κ'.settled b ≡ κ.settled b = settled_old b ne in let s = H.sooner in omega arith;
      })))
      (eq_or_ne b w)

  -- the state after the drain
  pub drained : Kept σ' κ'
  unfolding arrived
  drained =
      record {
        few = I.few;
        good = λ a l. let G = I.good a l in record { takes = G.takes; orders = G.orders; thread_lt = G.thread_lt; place_lt = G.place_lt; written_ok = G.written_ok; read_ok = G.read_ok; values = G.values };
        issued_now = λ a l. omega (arith, I.issued_now a l);
        settled_now = settled_now';
        rises = I.rises;
        late = late';
        at_once = at_once';
        waits = waits';
        fifo = fifo';
        apart = apart';
        memory_is = memory';
        source_is = source_on;
        no_source = I.no_source;
        before_lt = before_lt';
        before_e = before_e';
        before_i = before_i';
      }
