-- A state after an action keeps what every state keeps.
use Prim.Native.Nat.{ℕ, zero, suc, ◌<◌, ◌≤◌}
use Rattle.std.specs.Prelude.{Bool, ◌&&◌, ◌||◌, not, [], ◌∷◌, ◌≡◌, ◌⊎◌, ltb}
use Rattle.std.proofs.Math.Bool.{true, false, cond}
use Rattle.std.proofs.Math.Path.{refl, sym, subst, ap}
use Rattle.std.proofs.Common.{◌∙◌, inl, inr, lt→ltb, T_not}
use Rattle.std.proofs.Math.Logic.{⊎_elim}
use native.Mathlib.Omega.{arith}
use Rattle.std.proofs.Math.Dec.{T, eqb, eqb→eq, ltb→lt, not_T, eqb-suc-zero}
use Rattle.rows.specs.Sets.{Set}
use Rattle.rows.specs.Laws.Truth.{dec, top, T_true, T_false, and_l, and_r, and_i, eqb_i}
use Rattle.model.specs.declared.Action.{Action}
use Rattle.model.specs.declared.ActionKind.{ActionKind}
use Rattle.machine.specs.Machine.{latest, is_kind, value_limit, State, queued_at, there, found, worth, fits, reading, done, thread_at, place_at, write_at, read_at, in_memory}
use Rattle.machine.specs.Laws.Taken.{Acted}
use Rattle.machine.specs.Laws.Puts.{put_same, put_other}
use Rattle.console.specs.Laws.Kept.{Latest, latest_is, write_rmw, store_writes, rmw_writes, rmw_not_store, read_kinds, Good, Clock, acted_clock, Ahead, Unwritten, Written, Mine, Fresh, FromQueue, FromMemory, FromNothing, Source, Kept}

module _ (σ : State) (κ : Clock) (I : Kept σ κ) (k : ActionKind) (th pl v : ℕ) (A : Acted σ k th pl v) where
  abbrev n : ℕ
  n = σ.n

  -- the state, its new action and the clock afterwards
  abbrev σ' : State
  σ' = done σ k th pl v

  abbrev x : Action
  x = record { what = k; thread = th; place = pl; read = worth σ (reading σ k th pl); written = v }

  abbrev κ' : Clock
  κ' = acted_clock κ σ.n

  -- ---- what is new and what is old

  -- the action
  act_new : σ'.act n ≡ x
  unfolding done
  act_new = put_same σ.act n x

  act_old : (a : ℕ) → a < n → σ'.act a ≡ σ.act a
  unfolding done
  act_old a l = put_other σ.act n x a (λ e. omega arith)

  -- when it was done
  issued_new : κ'.issued n ≡ κ.now
  issued_new = put_same κ.issued n κ.now

  issued_old : (a : ℕ) → a < n → κ'.issued a ≡ κ.issued a
  issued_old a l = put_other κ.issued n κ.now a (λ e. omega arith)

  -- when it was settled
  settled_new : κ'.settled n ≡ κ.now
  settled_new = put_same κ.settled n κ.now

  settled_old : (a : ℕ) → a < n → κ'.settled a ≡ κ.settled a
  settled_old a l = put_other κ.settled n κ.now a (λ e. omega arith)

  -- whether it waits
  waiting_new : σ'.waiting n ≡ is_kind (4 ∷ []) k
  unfolding done
  waiting_new = put_same σ.waiting n (is_kind (4 ∷ []) k)

  waiting_old : (a : ℕ) → a < n → σ'.waiting a ≡ σ.waiting a
  unfolding done
  waiting_old a l = put_other σ.waiting n (is_kind (4 ∷ []) k) a (λ e. omega arith)

  -- where it read from
  source_new : σ'.source n ≡ reading σ k th pl
  unfolding done
  source_new = put_same σ.source n (reading σ k th pl)

  source_old : (a : ℕ) → a < n → σ'.source a ≡ σ.source a
  unfolding done
  source_old a l = put_other σ.source n (reading σ k th pl) a (λ e. omega arith)

  -- what memory holds
  memory_at : (q : ℕ) → σ'.memory q ≡ cond (is_kind (5 ∷ []) k && eqb q pl) (suc n) (σ.memory q)
  unfolding done
  memory_at q = refl

  -- ---- what a read finds

  -- the newest entry for the place in the thread's queue
  abbrev own : ℕ
  own = latest n (queued_at σ th pl)

  -- what it says of the queue
  own_is : Latest n (queued_at σ th pl) own
  own_is = latest_is n (queued_at σ th pl)

  -- an entry of the queue is found
  found_own : (w : ℕ) → own ≡ suc w → found σ th pl ≡ suc w
  unfolding found
  found_own w e = rw (e, eqb-suc-zero w)

  -- no entry: memory is
  found_memory : own ≡ 0 → found σ th pl ≡ σ.memory pl
  unfolding found
  found_memory e = rw e

  -- what an action wrote; and 0 if there is none
  worth_suc : (w : ℕ) → worth σ (suc w) ≡ (σ.act w).written
  unfolding worth
  worth_suc w = refl

  worth_zero : worth σ 0 ≡ 0
  unfolding worth
  worth_zero = refl

  -- a value that some action wrote, or 0: below the limit as all are
  found_lt : (m : ℕ) → own ≡ m → worth σ (found σ th pl) < value_limit
  found_lt zero e =
      ⊎_elim
      (λ (U : Unwritten σ pl). rw (found_memory e, U.holds, worth_zero) (omega arith))
      (λ (W : (w : ℕ) × Written σ κ pl w). rw (found_memory e, W.1.holds, worth_suc W.0) (I.good W.0 W.1.below).values.1)
      (I.memory_is pl)
  found_lt (suc w) e = rw (found_own w e, worth_suc w) (I.good w (own_is.hit w e).0).values.1

  -- whether the action reads or not
  read_lt : (b : Bool) → worth σ (cond b (found σ th pl) 0) < value_limit
  read_lt true = found_lt own refl
  read_lt false = rw worth_zero (omega arith)

  -- ---- the fields, one by one

  -- what is read by no read is 0
  read_zero : (b : Bool) (f : ℕ) → T (b || eqb (worth σ (cond b f 0)) 0)
  unfolding worth
  read_zero true f = tt
  read_zero false f = tt

  -- of the new action
  new_thread : (σ'.act n).thread ≡ th
  new_thread = rw act_new

  new_place : (σ'.act n).place ≡ pl
  new_place = rw act_new

  -- the new action is one that is taken
  good_new : Good σ' n
  unfolding done fits
  good_new =
      let fit = A.fit in
      record {
        takes = rw act_new A.ok;
        orders = rw act_new (search (and_l, and_r));
        thread_lt = subst (λ (y : ℕ). y < σ.t) (sym new_thread) (ltb→lt th σ.t (search (and_l, and_r)));
        place_lt = subst (λ (y : ℕ). y < σ.p) (sym new_place) (ltb→lt pl σ.p (search (and_l, and_r)));
        written_ok = rw act_new (search (and_l, and_r));
        read_ok = rw act_new (read_zero (is_kind (3 ∷ 5 ∷ []) k) (found σ th pl));
        values = rw act_new (read_lt (is_kind (3 ∷ 5 ∷ []) k), ltb→lt v value_limit (search (and_l, and_r)));
      }

  -- the old ones still are
  good_old : (a : ℕ) → a < n → Good σ' a
  unfolding done
  good_old a h =
      let G = I.good a h in
      record {
        takes = rw (act_old a h) G.takes;
        orders = rw (act_old a h) G.orders;
        thread_lt = subst (λ (y : Action). y.thread < σ.t) (sym (act_old a h)) G.thread_lt;
        place_lt = subst (λ (y : Action). y.place < σ.p) (sym (act_old a h)) G.place_lt;
        written_ok = rw (act_old a h) G.written_ok;
        read_ok = rw (act_old a h) G.read_ok;
        values = rw (act_old a h) G.values;
      }

  -- so all are
  good' : (a : ℕ) → a < suc n → Good σ' a
  good' a l = ⊎_elim (λ (e : a ≡ n). rw e good_new) (λ (h : a < n). good_old a h) (top a n l)

  -- all were done before now
  issued_now' : (a : ℕ) → a < suc n → κ'.issued a < suc κ.now
  issued_now' a l = ⊎_elim (λ (e : a ≡ n). rw (e, issued_new) (omega arith)) (λ (h : a < n). rw (issued_old a h) (omega (arith, I.issued_now a h))) (top a n l)

  -- and settled before now
  settled_now' : (a : ℕ) → a < suc n → κ'.settled a < suc κ.now
  settled_now' a l = ⊎_elim (λ (e : a ≡ n). rw (e, settled_new) (omega arith)) (λ (h : a < n). rw (settled_old a h) (omega (arith, I.settled_now a h))) (top a n l)

  -- numbers are in the order of issue
  rises' : (a b : ℕ) → a < b → b < suc n → κ'.issued a < κ'.issued b
  rises' a b l h =
      let la : a < n = omega arith in
      ⊎_elim
      (λ (e : b ≡ n). rw (e, issued_new, issued_old a la) (I.issued_now a la))
      (λ (q : b < n). rw (issued_old a la, issued_old b q) (I.rises a b l q))
      (top b n h)

  -- nothing is settled before it is done
  late' : (a : ℕ) → a < suc n → κ'.issued a ≤ κ'.settled a
  late' a l = ⊎_elim (λ (e : a ≡ n). rw (e, issued_new, settled_new) (omega arith)) (λ (h : a < n). rw (issued_old a h, settled_old a h) (I.late a h)) (top a n l)

  -- reads are settled when they are done
  at_once' : (a : ℕ) → a < suc n → T (read_at σ' a) → κ'.settled a ≡ κ'.issued a
  at_once' a l t =
      ⊎_elim (λ (e : a ≡ n). rw (e, issued_new, settled_new)) (λ (h : a < n). rw (issued_old a h, settled_old a h) (I.at_once a h (rw (act_old a h) at t))) (top a n l)

  -- only stores wait
  waits' : (a : ℕ) → a < suc n → T (σ'.waiting a) → T (is_kind (4 ∷ []) (σ'.act a).what)
  waits' a l =
      ⊎_elim (λ (e : a ≡ n). rw (e, act_new, waiting_new) (λ t. t)) (λ (h : a < n) t. rw (act_old a h) (I.waits a h (rw (waiting_old a h) at t))) (top a n l)

  -- ---- words of old and new actions

  -- writes stay writes
  write_back : (a : ℕ) → a < n → T (write_at σ' a) → T (write_at σ a)
  write_back a l t = rw (act_old a l) at t

  write_on : (a : ℕ) → a < n → T (write_at σ a) → T (write_at σ' a)
  write_on a l t = rw (act_old a l) t

  -- the new action's kind
  write_new : T (write_at σ' n) → T (is_kind (4 ∷ 5 ∷ 7 ∷ []) k)
  write_new t = rw act_new at t

  -- of an old action
  thread_is : (a : ℕ) → a < n → thread_at σ' a ≡ thread_at σ a
  thread_is a l = ap (λ (y : Action). y.thread) (act_old a l)

  place_is : (a : ℕ) → a < n → place_at σ' a ≡ place_at σ a
  place_is a l = ap (λ (y : Action). y.place) (act_old a l)

  -- an old write is in memory if it was
  memory_back : (a : ℕ) → a < n → T (in_memory σ' a) → T (in_memory σ a)
  memory_back a l t = rw (act_old a l, waiting_old a l) at t

  memory_on : (a : ℕ) → a < n → T (in_memory σ a) → T (in_memory σ' a)
  memory_on a l t = rw (act_old a l, waiting_old a l) t

  -- a new action in memory is an RMW
  memory_new : T (in_memory σ' n) → T (is_kind (5 ∷ []) k)
  memory_new t =
      let w : T (write_at σ' n) = and_l (write_at σ' n) (not (σ'.waiting n)) t in
      let s : T (not (σ'.waiting n)) = and_r (write_at σ' n) (not (σ'.waiting n)) t in
      write_rmw k A.ok (write_new w) (rw waiting_new at s)

  -- and a new RMW is there
  rmw_there : T (is_kind (5 ∷ []) k) → T (in_memory σ' n)
  rmw_there m =
      let w : T (write_at σ' n) = subst (λ (y : Action). T (is_kind (4 ∷ 5 ∷ 7 ∷ []) y.what)) (sym act_new) (rmw_writes k A.ok m) in
      let s : T (not (σ'.waiting n)) = subst (λ (y : Bool). T (not y)) (sym waiting_new) (rmw_not_store k A.ok m) in
      and_i (write_at σ' n) (not (σ'.waiting n)) w s

  -- nothing of an RMW's thread waits
  rmw_free : T (is_kind (5 ∷ []) k) → (a : ℕ) → a < n → thread_at σ a ≡ th → T (not (σ.waiting a))
  rmw_free m a l e = not_T (σ.waiting a) (λ t. A.free m a l (and_i (σ.waiting a) (eqb (thread_at σ a) th) t (eqb_i (thread_at σ a) th e)))

  -- a new write in memory comes after all of its thread
  fifo_new : (a : ℕ) → a < n → thread_at σ' a ≡ thread_at σ' n → T (write_at σ' n) → T (not (σ'.waiting n)) → T (not (σ'.waiting a)) × (κ'.settled a < κ'.settled n)
  fifo_new a l e w s =
      let m : T (is_kind (5 ∷ []) k) = memory_new (and_i (write_at σ' n) (not (σ'.waiting n)) w s) in
      let q : thread_at σ a ≡ th = sym (thread_is a l) ∙ e ∙ new_thread in
      (rw (waiting_old a l) (rmw_free m a l q), rw (settled_old a l, settled_new) (I.settled_now a l))

  -- old writes stay in order
  fifo_old : (a b : ℕ) → a < b → b < n → thread_at σ' a ≡ thread_at σ' b → T (write_at σ' b) → T (not (σ'.waiting b)) → T (not (σ'.waiting a)) × (κ'.settled a < κ'.settled b)
  fifo_old a b l h e w s =
      let la : a < n = omega arith in
      let (p, q) = I.fifo a b l h (sym (thread_is a la) ∙ e ∙ thread_is b h) (write_back b h w) (rw (waiting_old b h) at s) in
      (rw (waiting_old a la) p, rw (settled_old a la, settled_old b h) q)

  -- a thread's writes arrive in order
  fifo' : (a b : ℕ) → a < b → b < suc n → thread_at σ' a ≡ thread_at σ' b → T (write_at σ' b) → T (not (σ'.waiting b)) → T (not (σ'.waiting a)) × (κ'.settled a < κ'.settled b)
  fifo' a b l h = ⊎_elim (λ (e : b ≡ n). rw e (fifo_new a (omega arith))) (λ (q : b < n). fifo_old a b l q) (top b n h)

  -- no two arrive at once
  apart' : (a b : ℕ) → a < b → b < suc n → T (in_memory σ' a) → T (in_memory σ' b) → κ'.settled a ≡ κ'.settled b → ⊥
  apart' a b l h s t e =
      let la : a < n = omega arith in
      ⊎_elim
      (λ (q : b ≡ n). let u : κ'.settled a ≡ κ'.settled n = subst (λ (y : ℕ). κ'.settled a ≡ κ'.settled y) q e in omega (arith, settled_new, settled_old a la, I.settled_now a la))
      (λ (q : b < n). I.apart a b l q (memory_back a la s) (memory_back b q t) (sym (settled_old a la) ∙ e ∙ settled_old b q))
      (top b n h)

  -- ---- memory

  -- an RMW's place holds the RMW
  memory_hit : (q : ℕ) → T (is_kind (5 ∷ []) k && eqb q pl) → Written σ' κ' q n
  unfolding done
  memory_hit q t =
      let m : T (is_kind (5 ∷ []) k) = and_l (is_kind (5 ∷ []) k) (eqb q pl) t in
      let e : q ≡ pl = eqb→eq q pl (and_r (is_kind (5 ∷ []) k) (eqb q pl) t) in
      let c : (is_kind (5 ∷ []) k && eqb q pl) ≡ true = T_true (is_kind (5 ∷ []) k && eqb q pl) t in
      record {
        holds = memory_at q ∙ ap (λ (y : Bool). cond y (suc n) (σ.memory q)) c;
        below = omega arith;
        there = rmw_there m;
        place = new_place ∙ sym e;
        last = λ a l u p. let b : κ'.settled a < suc κ.now = settled_now' a l in let z : κ'.settled n ≡ κ.now = settled_new in omega arith;
      }

  module _ (q : ℕ) (t : T (not (is_kind (5 ∷ []) k && eqb q pl))) where
    -- any other place holds what it held
    memory_miss : σ'.memory q ≡ σ.memory q
    memory_miss = memory_at q ∙ ap (λ (y : Bool). cond y (suc n) (σ.memory q)) (T_false (is_kind (5 ∷ []) k && eqb q pl) t)

    -- where the new action has not arrived
    new_out : T (in_memory σ' n) → place_at σ' n ≡ q → ⊥
    new_out s e =
        let m : T (is_kind (5 ∷ []) k) = memory_new s in
        T_not (is_kind (5 ∷ []) k && eqb q pl) t (and_i (is_kind (5 ∷ []) k) (eqb q pl) m (eqb_i q pl (sym e ∙ new_place)))

    new_out_at : (a : ℕ) → a ≡ n → T (in_memory σ' a) → place_at σ' a ≡ q → ⊥
    new_out_at a e = rw e new_out

    -- it is unwritten if it was
    unwritten_on : Unwritten σ q → Unwritten σ' q
    unfolding done
    unwritten_on U =
        record {
          holds = memory_miss ∙ U.holds;
          none = λ a l s e.
              ⊎_elim (λ (z : a ≡ n). new_out_at a z s e) (λ (h : a < n). U.none a h (memory_back a h s) (sym (place_is a h) ∙ e)) (top a n l);
        }

    -- or has the writer that it had
    written_on : (w : ℕ) → Written σ κ q w → Written σ' κ' q w
    unfolding done
    written_on w W =
        let lw : w < n = W.below in
        record {
          holds = memory_miss ∙ W.holds;
          below = omega arith;
          there = memory_on w lw W.there;
          place = place_is w lw ∙ W.place;
          last = λ a l s e.
              ⊎_elim (λ (z : a ≡ n). absurd (new_out_at a z s e))
              (λ (h : a < n). let b = W.last a h (memory_back a h s) (sym (place_is a h) ∙ e) in
              let e₁ : κ'.settled a ≡ κ.settled a = settled_old a h in
              let e₂ : κ'.settled w ≡ κ.settled w = settled_old w lw in
              omega arith)
              (top a n l);
        }

  -- so every place holds what arrived last
  memory' : (q : ℕ) → Unwritten σ' q ⊎ ((w : ℕ) × Written σ' κ' q w)
  memory' q =
      ⊎_elim
      (λ t. inr (n, memory_hit q t))
      (λ t. ⊎_elim (λ U. inl (unwritten_on q t U)) (λ (W : (w : ℕ) × Written σ κ q w). inr (W.0, written_on q t W.0 W.1)) (I.memory_is q))
      (dec (is_kind (5 ∷ []) k && eqb q pl))

  -- ---- sources of old reads

  -- writes of a read's thread and place stay so
  mine_back : (r c : ℕ) → r < n → c < n → Mine σ' κ' r c → Mine σ κ r c
  mine_back r c lr lc M =
      record {
        writes = write_back c lc M.writes;
        thread = sym (thread_is c lc) ∙ M.thread ∙ thread_is r lr;
        place = sym (place_is c lc) ∙ M.place ∙ place_is r lr;
      }

  mine_on : (r c : ℕ) → r < n → c < n → Mine σ κ r c → Mine σ' κ' r c
  mine_on r c lr lc M =
      record {
        writes = write_on c lc M.writes;
        thread = thread_is c lc ∙ M.thread ∙ sym (thread_is r lr);
        place = place_is c lc ∙ M.place ∙ sym (place_is r lr);
      }

  module _ (r : ℕ) (lr : r < n) where
    -- nothing new was in memory by then
    not_then : (c : ℕ) → c ≡ n → κ'.settled c < κ'.issued r → ⊥
    not_then c e l =
        let u : κ'.settled n < κ'.issued r = subst (λ (y : ℕ). κ'.settled y < κ'.issued r) e l in
        omega (arith, settled_new, issued_old r lr, I.issued_now r lr)

    -- no store waited then
    fresh_on : Fresh σ κ r → Fresh σ' κ' r
    fresh_on f c l M =
        let lc : c < n = omega arith in
        let (p, q) = f c l (mine_back r c lr lc M) in
        (rw (waiting_old c lc) p, rw (settled_old c lc, issued_old r lr) q)

    -- the value read is the source's still
    value_on : (w : ℕ) → w < n → (σ.act r).read ≡ (σ.act w).written → (σ'.act r).read ≡ (σ'.act w).written
    value_on w lw e = ap (λ (y : Action). y.read) (act_old r lr) ∙ e ∙ sym (ap (λ (y : Action). y.written) (act_old w lw))

    -- a read from its own queue
    queue_on : (w : ℕ) → FromQueue σ κ r w → FromQueue σ' κ' r w
    queue_on w Q =
        let lw : w < n = omega (arith, Q.before) in
        record {
          from = source_old r lr ∙ Q.from;
          value = value_on w lw Q.value;
          before = Q.before;
          mine = mine_on r w lr lw Q.mine;
          pending = ⊎_elim (λ (t : T (σ.waiting w)). inl (rw (waiting_old w lw) t)) (λ (l : κ.issued r < κ.settled w). inr (rw (settled_old w lw, issued_old r lr) l)) Q.pending;
          newest = λ c l h M. Q.newest c l h (mine_back r c lr (omega arith) M);
        }

    -- a read from memory
    from_memory_on : (w : ℕ) → FromMemory σ κ r w → FromMemory σ' κ' r w
    unfolding done
    from_memory_on w Q =
        let lw : w < n = Q.below in
        let e₂ : κ'.settled w ≡ κ.settled w = settled_old w lw in
        let e₃ : κ'.issued r ≡ κ.issued r = issued_old r lr in
        record {
          from = source_old r lr ∙ Q.from;
          value = value_on w lw Q.value;
          below = omega arith;
          there = memory_on w lw Q.there;
          place = place_is w lw ∙ Q.place ∙ sym (place_is r lr);
          by_then = let b = Q.by_then in omega arith;
          last = λ c l s e u.
              ⊎_elim (λ (z : c ≡ n). absurd (not_then c z u))
              (λ (h : c < n).
              let e₁ : κ'.settled c ≡ κ.settled c = settled_old c h in
              let u₂ : κ.settled c < κ.issued r = omega arith in
              let b = Q.last c h (memory_back c h s) (sym (place_is c h) ∙ e ∙ place_is r lr) u₂ in
              omega arith)
              (top c n l);
          fresh = fresh_on Q.fresh;
        }

    -- a read of unwritten memory
    nothing_on : FromNothing σ κ r → FromNothing σ' κ' r
    unfolding done
    nothing_on Q =
        let e₃ : κ'.issued r ≡ κ.issued r = issued_old r lr in
        record {
          from = source_old r lr ∙ Q.from;
          value = ap (λ (y : Action). y.read) (act_old r lr) ∙ Q.value;
          none = λ c l s e u.
              ⊎_elim (λ (z : c ≡ n). not_then c z u)
              (λ (h : c < n).
              let e₁ : κ'.settled c ≡ κ.settled c = settled_old c h in
              let u₂ : κ.settled c < κ.issued r = omega arith in
              Q.none c h (memory_back c h s) (sym (place_is c h) ∙ e ∙ place_is r lr) u₂)
              (top c n l);
          fresh = fresh_on Q.fresh;
        }

    -- so each has the source that it had
    source_on : T (read_at σ' r) → Source σ' κ' r
    source_on t =
        ⊎_elim
        (λ (Q : (w : ℕ) × FromQueue σ κ r w). inl (Q.0, queue_on Q.0 Q.1))
        (⊎_elim
        (λ (Q : (w : ℕ) × FromMemory σ κ r w). inr (inl (Q.0, from_memory_on Q.0 Q.1)))
        (λ (Q : FromNothing σ κ r). inr (inr (nothing_on Q))))
        (I.source_is r lr (rw (act_old r lr) at t))

  -- ---- the source of the new read

  -- c, below n, is a write of the new read's thread and place
  new_mine : (c : ℕ) → c < n → Mine σ' κ' n c → (thread_at σ c ≡ th) × (place_at σ c ≡ pl)
  new_mine c l M = (sym (thread_is c l) ∙ M.thread ∙ new_thread, sym (place_is c l) ∙ M.place ∙ new_place)

  -- if it waits, it is in the queue that is looked at
  queued_in : (c : ℕ) → c < n → Mine σ' κ' n c → T (σ.waiting c) → T (queued_at σ th pl c)
  queued_in c l M t =
      let (p, q) = new_mine c l M in
      let e₁ : T (eqb (thread_at σ c) th) = eqb_i (thread_at σ c) th p in
      let e₂ : T (eqb (place_at σ c) pl) = eqb_i (place_at σ c) pl q in
      search (and_i)

  module _ (reads : T (read_at σ' n)) where
    -- the new action reads
    reads_k : is_kind (3 ∷ 5 ∷ []) k ≡ true
    reads_k = read_kinds k A.ok ∙ T_true (is_kind (3 ∷ 5 ∷ 6 ∷ []) k) (rw act_new at reads)

    -- from what is found
    source_found : σ'.source n ≡ found σ th pl
    source_found = source_new ∙ ap (λ (y : Bool). cond y (found σ th pl) 0) reads_k

    -- the value that is found
    value_found : (σ'.act n).read ≡ worth σ (found σ th pl)
    value_found = ap (λ (y : Action). y.read) act_new ∙ ap (λ (y : Bool). worth σ (cond y (found σ th pl) 0)) reads_k

    -- which its source wrote
    value_of : (w : ℕ) → w < n → found σ th pl ≡ suc w → (σ'.act n).read ≡ (σ'.act w).written
    value_of w lw e = value_found ∙ ap (worth σ) e ∙ worth_suc w ∙ sym (ap (λ (y : Action). y.written) (act_old w lw))

    -- out of its own queue: the newest entry for the place
    from_queue : (w : ℕ) → own ≡ suc w → FromQueue σ' κ' n w
    from_queue w e =
        let (lw, t) = own_is.hit w e in
        let wait : T (σ.waiting w) = search (and_l, and_r) in
        let e₁ : T (eqb (thread_at σ w) th) = search (and_l, and_r) in
        let e₂ : T (eqb (place_at σ w) pl) = search (and_r) in
        let f : found σ th pl ≡ suc w = found_own w e in
        let wr : T (write_at σ w) = store_writes (σ.act w).what (I.good w lw).takes (I.waits w lw wait) in
        record {
          from = source_found ∙ f;
          value = value_of w lw f;
          before = lw;
          mine = record { writes = write_on w lw wr; thread = thread_is w lw ∙ eqb→eq (thread_at σ w) th e₁ ∙ sym new_thread; place = place_is w lw ∙ eqb→eq (place_at σ w) pl e₂ ∙ sym new_place };
          pending = inl (rw (waiting_old w lw) wait);
          newest = λ c l h M.
              ⊎_elim
              (λ (s : T (σ.waiting c)). own_is.miss c (omega arith) h (queued_in c h M s))
              (λ (s : T (not (σ.waiting c))).
              let (p, q) = I.fifo w c l h (eqb→eq (thread_at σ w) th e₁ ∙ sym (new_mine c h M).0) (write_back c h M.writes) s in
              T_not (σ.waiting w) p wait)
              (dec (σ.waiting c));
        }

    module _ (e : own ≡ 0) where
      -- with no entry there, none of its own waits
      not_mine : (c : ℕ) → c < n → Mine σ' κ' n c → T (not (σ.waiting c))
      not_mine c l M = not_T (σ.waiting c) (λ t. own_is.miss c (omega arith) l (queued_in c l M t))

      -- all have arrived
      fresh_new : Fresh σ' κ' n
      fresh_new c l M = (rw (waiting_old c l) (not_mine c l M), rw (settled_old c l, issued_new) (I.settled_now c l))

      -- what is in memory then was there before
      was_there : (c : ℕ) → c < suc n → κ'.settled c < κ'.issued n → c < n
      was_there c l u =
          ⊎_elim (λ (z : c ≡ n). let y : κ'.settled n < κ'.issued n = subst (λ (y : ℕ). κ'.settled y < κ'.issued n) z u in absurd (omega (arith, settled_new, issued_new))) (λ h. h) (top c n l)

      -- out of memory
      from_memory : (w : ℕ) → Written σ κ pl w → FromMemory σ' κ' n w
      unfolding done
      from_memory w W =
          let lw : w < n = W.below in
          let f : found σ th pl ≡ suc w = found_memory e ∙ W.holds in
          record {
            from = source_found ∙ f;
            value = value_of w lw f;
            below = omega arith;
            there = memory_on w lw W.there;
            place = place_is w lw ∙ W.place ∙ sym new_place;
            by_then = let e₁ : κ'.settled w ≡ κ.settled w = settled_old w lw in let e₂ : κ'.issued n ≡ κ.now = issued_new in let b = I.settled_now w lw in omega arith;
            last = λ c l s p u.
                let lc : c < n = was_there c l u in
                let e₁ : κ'.settled c ≡ κ.settled c = settled_old c lc in
                let e₂ : κ'.settled w ≡ κ.settled w = settled_old w lw in
                let b = W.last c lc (memory_back c lc s) (sym (place_is c lc) ∙ p ∙ new_place) in
                omega arith;
            fresh = fresh_new;
          }

      -- unwritten memory
      from_nothing : Unwritten σ pl → FromNothing σ' κ' n
      unfolding done
      from_nothing U =
          let f : found σ th pl ≡ 0 = found_memory e ∙ U.holds in
          record {
            from = source_found ∙ f;
            value = value_found ∙ ap (worth σ) f ∙ worth_zero;
            none = λ c l s p u. let lc : c < n = was_there c l u in U.none c lc (memory_back c lc s) (sym (place_is c lc) ∙ p ∙ new_place);
            fresh = fresh_new;
          }

    -- one of the three
    source_of : (m : ℕ) → own ≡ m → Source σ' κ' n
    source_of zero e =
        ⊎_elim (λ U. inr (inr (from_nothing e U))) (λ (W : (w : ℕ) × Written σ κ pl w). inr (inl (W.0, from_memory e W.0 W.1))) (I.memory_is pl)
    source_of (suc w) e = inl (w, from_queue w e)

  source_first : T (read_at σ' n) → Source σ' κ' n
  source_first t = source_of t own refl

  -- so every read has its source
  source' : (r : ℕ) → r < suc n → T (read_at σ' r) → Source σ' κ' r
  source' r l = ⊎_elim (λ (e : r ≡ n). rw e source_first) (λ (h : r < n). source_on r h) (top r n l)

  -- a new action that does not read has none
  no_source_new : T (not (read_at σ' n)) → σ'.source n ≡ 0
  no_source_new t =
      let u : T (not (is_kind (3 ∷ 5 ∷ 6 ∷ []) k)) = rw act_new at t in
      source_new ∙ ap (λ (y : Bool). cond y (found σ th pl) 0) (read_kinds k A.ok ∙ T_false (is_kind (3 ∷ 5 ∷ 6 ∷ []) k) u)

  -- nor has an old one
  no_source' : (a : ℕ) → a < suc n → T (not (read_at σ' a)) → σ'.source a ≡ 0
  no_source' a l =
      ⊎_elim (λ (e : a ≡ n). rw e no_source_new) (λ (h : a < n) t. source_old a h ∙ I.no_source a h (rw (act_old a h) at t)) (top a n l)

  -- ---- what was there before

  -- what an RMW finds at its place
  before_new : (a : ℕ) → σ'.before n a ≡ (is_kind (5 ∷ []) k && there σ pl a)
  unfolding done
  before_new a = ap (λ (f : Set). f a) (put_same σ.before n (λ a. is_kind (5 ∷ []) k && there σ pl a))

  -- what an old write found
  before_old : (a b : ℕ) → b < n → σ'.before b a ≡ σ.before b a
  unfolding done
  before_old a b l = ap (λ (f : Set). f a) (put_other σ.before n (λ a. is_kind (5 ∷ []) k && there σ pl a) b (λ e. omega arith))

  -- arrivals of old writes stay in order
  ahead_back : (a b : ℕ) → a < n → b < n → Ahead σ' κ' a b → Ahead σ κ a b
  ahead_back a b la lb H =
      record {
        from = memory_back a la H.from;
        to = memory_back b lb H.to;
        place = sym (place_is a la) ∙ H.place ∙ place_is b lb;
        sooner = let e₁ = settled_old a la in let e₂ = settled_old b lb in let h = H.sooner in omega arith;
      }

  ahead_on : (a b : ℕ) → a < n → b < n → Ahead σ κ a b → Ahead σ' κ' a b
  ahead_on a b la lb H =
      record {
        from = memory_on a la H.from;
        to = memory_on b lb H.to;
        place = place_is a la ∙ H.place ∙ sym (place_is b lb);
        sooner = let e₁ = settled_old a la in let e₂ = settled_old b lb in let h = H.sooner in omega arith;
      }

  -- what an RMW finds is an action, as is what a write found
  before_lt_new : (a : ℕ) → T (σ'.before n a) → a < n
  before_lt_new a t = let u : T (is_kind (5 ∷ []) k && there σ pl a) = subst T (before_new a) t in ltb→lt a n (search (and_l, and_r))

  before_lt' : (a b : ℕ) → b < suc n → T (σ'.before b a) → a < suc n
  before_lt' a b l =
      ⊎_elim
      (λ (e : b ≡ n). rw e (λ t. let h = before_lt_new a t in omega arith))
      (λ (h : b < n) t. let z = I.before_lt a b h (subst T (before_old a b h) t) in omega arith)
      (top b n l)

  -- what an RMW finds arrived before it
  before_e_new : (a : ℕ) → T (σ'.before n a) → Ahead σ' κ' a n
  before_e_new a t =
      let u : T (is_kind (5 ∷ []) k && there σ pl a) = subst T (before_new a) t in
      let la : a < n = before_lt_new a t in
      let i : T (in_memory σ a) = search (and_l, and_r) in
      let p : T (eqb (place_at σ a) pl) = search (and_l, and_r) in
      record {
        from = memory_on a la i;
        to = rmw_there (search (and_l));
        place = place_is a la ∙ eqb→eq (place_at σ a) pl p ∙ sym new_place;
        sooner = let e₁ = settled_old a la in let e₂ = settled_new in let h = I.settled_now a la in omega arith;
      }

  -- and all that did is found
  before_i_new : (a : ℕ) → a < n → Ahead σ' κ' a n → T (σ'.before n a)
  before_i_new a la H =
      let m : T (is_kind (5 ∷ []) k) = memory_new H.to in
      let l : T (ltb a n) = lt→ltb a n la in
      let i : T (in_memory σ a) = memory_back a la H.from in
      let p : T (eqb (place_at σ a) pl) = eqb_i (place_at σ a) pl (sym (place_is a la) ∙ H.place ∙ new_place) in
      let u : T (is_kind (5 ∷ []) k && there σ pl a) = search (and_i) in
      subst T (sym (before_new a)) u

  -- what a write found arrived before it
  before_e' : (a b : ℕ) → a < suc n → b < suc n → T (σ'.before b a) → Ahead σ' κ' a b
  before_e' a b l h =
      ⊎_elim
      (λ (e : b ≡ n). rw e (before_e_new a))
      (λ (q : b < n) t.
      let u : T (σ.before b a) = subst T (before_old a b q) t in
      let la : a < n = I.before_lt a b q u in
      ahead_on a b la q (I.before_e a b la q u))
      (top b n h)

  -- n comes last
  not_ahead : (b : ℕ) → b < suc n → κ'.settled n < κ'.settled b → ⊥
  not_ahead b h l = let z = settled_now' b h in omega (arith, settled_new)

  -- and all that did was found
  before_i' : (a b : ℕ) → a < suc n → b < suc n → Ahead σ' κ' a b → T (σ'.before b a)
  before_i' a b l h H =
      ⊎_elim
      (λ (e : a ≡ n). absurd (not_ahead b h (subst (λ (y : ℕ). κ'.settled y < κ'.settled b) e H.sooner)))
      (λ (la : a < n).
      ⊎_elim
      (λ (e : b ≡ n). subst (λ (y : ℕ). T (σ'.before y a)) (sym e) (before_i_new a la (subst (λ (y : ℕ). Ahead σ' κ' a y) e H)))
      (λ (q : b < n). subst T (sym (before_old a b q)) (I.before_i a b la q (ahead_back a b la q H)))
      (top b n h))
      (top a n l)

  -- the state after the action
  pub grown : Kept σ' κ'
  unfolding done
  grown =
      record {
        few = omega (arith, A.room);
        good = good';
        issued_now = issued_now';
        settled_now = settled_now';
        rises = rises';
        late = late';
        at_once = at_once';
        waits = waits';
        fifo = fifo';
        apart = apart';
        memory_is = memory';
        source_is = source';
        no_source = no_source';
        before_lt = before_lt';
        before_e = before_e';
        before_i = before_i';
      }
