-- The theorem: if thread 0 does nothing but store once, relaxed, to each place and drain, all before any other thread steps, and all stores are in memory at the end,
-- then edition 2 passes the candidate. Neither that the stores are relaxed nor that they are one to a place is needed.
use Rattle.std.specs.Prelude.{ℕ, suc, ◌<◌, ◌≤◌, ◌-◌, true, not, ◌&&◌, ◌||◌, ◌⊎◌, ◌≡◌, eqb, ltb}
use mathlib.Core.List.{List, [], ◌∷◌, ◌++◌}
use Rattle.std.proofs.Common.{inl, inr, ⊎_elim, sym, ap, ◌∙◌, arith, ltb→lt, lt→ltb, T_not}
use Rattle.std.proofs.Math.Path.{subst}
use Rattle.std.proofs.Math.Dec.{T, eqb→eq, not_T, eqb_refl}
use Rattle.rows.specs.Sets.{Set, any, least}
use Rattle.rows.specs.Laws.Truth.{dec, T_true, true_T, and_l, and_r, and_i, eqb_i, neqb_i, neqb_e, lt_or_le, eq_or_ne, order3, not_both}
use Rattle.rows.proofs.Laws.Quantifiers.{any_e, all_e, least_is, least_below}
use Rattle.model.specs.declared.Action.{Action}
use Rattle.model.specs.declared.Verdict.TheVariants.{Passed}
use Rattle.model.specs.Candidates.{reads, writes, is_fence, order_is}
use Rattle.model.specs.Words.{locks, unlocks, is_seq_cst, word, placed, book_of}
use Rattle.model.specs.Model.{Book, Sb, Asw, Rf, Mo, read, write, plain, fence, lock, unlock, seq_cst, sc_action, release, consume, atomic_load, same_place}
use Rattle.model.specs.Judge.{book, judged_of}
use Rattle.model.proofs.Laws.Verdicts.{clean_passed}
use Rattle.model.specs.Laws.Verdicts.{Clean}
use Rattle.model.specs.Laws.Filled.{filled_is}
use Rattle.machine.specs.declared.Step.{Step}
use Rattle.machine.specs.Machine.{is_kind, State, owner, start, run, thread_at, place_at, write_at, read_at, in_memory, sb_of, last_of_zero, first_of_other, asw_of, candidate}
use Rattle.machine.specs.Laws.Reaching.{run_on}
use Rattle.console.specs.Consoles.{every_step, stores_first, settled, set_up, ending, zero_first, prepared, initialised}
use Rattle.console.specs.Laws.Timed.{Timed}
use Rattle.console.specs.Laws.Late.{either}
use Rattle.console.specs.Laws.Clean.{clean}
use Rattle.console.specs.Laws.Kept.{store_writes, store_not_read, Clock, Ahead, Fresh, FromQueue, FromMemory, FromNothing, Kept}
use Rattle.console.specs.Laws.Runs.{Begun, begun, once_first, After, Going, run_kept, run_going}
use Rattle.console.specs.Laws.Drawn.{taking, kinds_in, atomic_kind, no_seq_cst, no_consume, load_allowed, store_allowed, word_is, place_is, thread_is, value_is, sb_is, asw_is, dd_is, cd_is, rf_is, sc_is, mo_is}

-- τ is the state after thread 0's steps, σ the state at the end, in which no store waits
module _ (τ : State) (ι : Clock) (σ : State) (κ : Clock) (S : Begun τ) (G : Going τ ι σ κ) (all_in : (a : ℕ) → a < σ.n → T (not (σ.waiting a))) where
  abbrev n : ℕ
  n = σ.n

  abbrev ρ : Book
  ρ = book (candidate σ)

  abbrev K : Kept σ κ
  K = G.kept

  abbrev A : After τ ι σ κ
  A = G.after

  -- ---- the words of an action

  -- out of the book, and into it
  out : (w a : ℕ) → a < n → T (ρ 18 w a) → T (word w (σ.act a) 2)
  out w a l t = subst T (word_is σ w a l (K.good a l).place_lt) t

  into : (w a : ℕ) → a < n → T (word w (σ.act a) 2) → T (ρ 18 w a)
  into w a l t = subst T (sym (word_is σ w a l (K.good a l).place_lt)) t

  -- reads, writes and loads
  writes_out : (a : ℕ) → a < n → T (write n ρ a) → T (write_at σ a)
  unfolding word
  writes_out = out 1

  reads_out : (a : ℕ) → a < n → T (read n ρ a) → T (read_at σ a)
  unfolding word
  reads_out = out 0

  writes_in : (a : ℕ) → a < n → T (write_at σ a) → T (write n ρ a)
  unfolding word
  writes_in = into 1

  reads_in : (a : ℕ) → a < n → T (read_at σ a) → T (read n ρ a)
  unfolding word
  reads_in = into 0

  load_out : (a : ℕ) → a < n → T (atomic_load n ρ a) → T (is_kind (3 ∷ []) (σ.act a).what)
  unfolding word
  load_out = out 16

  -- every write is in memory
  there : (a : ℕ) → a < n → T (write_at σ a) → T (in_memory σ a)
  there a l t = and_i (write_at σ a) (not (σ.waiting a)) t (all_in a l)

  -- an action of one of the kinds ks is of one of the kinds ls
  kinds : (ks ls : List ℕ) → T (taking ks ls) → (a : ℕ) → a < n → T (is_kind ks (σ.act a).what) → T (is_kind ls (σ.act a).what)
  kinds ks ls c a l = kinds_in (σ.act a).what ks ls c (K.good a l).takes

  -- ---- words that no action has

  -- neither lock, unlock, plain access nor fence
  lock_out : (a : ℕ) → a < n → T (lock n ρ a) → ⊥
  unfolding word
  lock_out a l t = kinds (1 ∷ []) [] tt a l (out 5 a l t)

  unlock_out : (a : ℕ) → a < n → T (unlock n ρ a) → ⊥
  unfolding word
  unlock_out a l t = kinds (2 ∷ []) [] tt a l (out 6 a l t)

  plain_out : (a : ℕ) → a < n → T (plain n ρ a) → ⊥
  unfolding word
  plain_out a l t = kinds (6 ∷ 7 ∷ []) [] tt a l (out 3 a l t)

  fence_out : (a : ℕ) → a < n → T (fence n ρ a) → ⊥
  unfolding word
  fence_out a l t = kinds (8 ∷ []) [] tt a l (out 4 a l t)

  -- neither seq_cst, SC action nor consume
  seq_cst_out : (a : ℕ) → a < n → T (seq_cst n ρ a) → ⊥
  unfolding word
  seq_cst_out a l t = no_seq_cst (σ.act a).what (K.good a l).takes (out 8 a l t)

  sc_out : (a : ℕ) → a < n → T (sc_action n ρ a) → ⊥
  unfolding word
  sc_out a l t =
      let x : Action = σ.act a in
      either (is_seq_cst x || locks x) (unlocks x)
      (either (is_seq_cst x) (locks x) (no_seq_cst x.what (K.good a l).takes) (kinds (1 ∷ []) [] tt a l))
      (kinds (2 ∷ []) [] tt a l)
      (out 9 a l t)

  consume_out : (a : ℕ) → a < n → T (consume n ρ a) → ⊥
  unfolding word
  consume_out a l t = no_consume (σ.act a).what (K.good a l).takes (and_r (reads (σ.act a)) (order_is (2 ∷ []) (σ.act a)) (out 12 a l t))

  -- a release is a write
  release_write : (a : ℕ) → a < n → T (release n ρ a) → T (write n ρ a)
  unfolding word
  release_write a l t =
      let x : Action = σ.act a in
      writes_in a l
      (either ((writes x || is_fence x) && order_is (4 ∷ 5 ∷ 6 ∷ []) x) (unlocks x)
      (λ u. either (writes x) (is_fence x) (λ w. w) (kinds (8 ∷ []) (4 ∷ 5 ∷ 7 ∷ []) tt a l) (and_l (writes x || is_fence x) (order_is (4 ∷ 5 ∷ 6 ∷ []) x) u))
      (kinds (2 ∷ []) (4 ∷ 5 ∷ 7 ∷ []) tt a l)
      (out 11 a l t))

  -- ---- same place

  -- out of the book, and into it: every action has a place
  same_place_e : (a b : ℕ) → a < n → b < n → T (same_place n ρ a b) → place_at σ a ≡ place_at σ b
  same_place_e a b la lb t =
      let u : T (placed (σ.act a) (σ.act b)) = subst T (place_is σ a b la lb) t in
      eqb→eq (place_at σ a) (place_at σ b) (search (and_r))

  no_fence : (a : ℕ) → a < n → T (not (is_fence (σ.act a)))
  no_fence a l = not_T (is_fence (σ.act a)) (kinds (8 ∷ []) [] tt a l)

  same_place_i : (a b : ℕ) → a < n → b < n → place_at σ a ≡ place_at σ b → T (same_place n ρ a b)
  same_place_i a b la lb e =
      let fa = no_fence a la in
      let fb = no_fence b lb in
      let p : T (eqb (place_at σ a) (place_at σ b)) = eqb_i (place_at σ a) (place_at σ b) e in
      let u : T (placed (σ.act a) (σ.act b)) = search (and_i) in
      subst T (sym (place_is σ a b la lb)) u

  -- ---- sb

  -- by number in each thread
  sb_e : (a b : ℕ) → a < n → b < n → T (Sb n ρ a b) → (thread_at σ a ≡ thread_at σ b) × (a < b)
  sb_e a b la lb t =
      let u : T (sb_of σ a b) = subst T (sb_is σ a b la lb) t in
      (eqb→eq (thread_at σ a) (thread_at σ b) (search (and_l)), ltb→lt a b (search (and_r)))

  sb_i : (a b : ℕ) → b < n → thread_at σ a ≡ thread_at σ b → a < b → T (Sb n ρ a b)
  sb_i a b lb e l =
      subst T (sym (sb_is σ a b (omega arith) lb)) (and_i (eqb (thread_at σ a) (thread_at σ b)) (ltb a b) (eqb_i (thread_at σ a) (thread_at σ b) e) (lt→ltb a b l))

  -- ---- the source of a read

  -- c was in memory before b, or is before it in its thread
  abbrev Seen : ℕ → ℕ → Type 0
  Seen c b = (κ.settled c < κ.issued b) ⊎ ((thread_at σ c ≡ thread_at σ b) × (c < b))

  -- a is what read b reads: of the writes of the place that b saw the last in memory
  record Reads (b a : ℕ) : Type 0 where
    below : a < n
    writes : T (write_at σ a)
    place : place_at σ a ≡ place_at σ b
    value : (σ.act b).read ≡ (σ.act a).written
    seen : Seen a b
    last : (c : ℕ) → c < n → T (write_at σ c) → place_at σ c ≡ place_at σ b → Seen c b → κ.settled c ≤ κ.settled a

  -- a thread's actions are settled before its later writes
  fifo : (a b : ℕ) → a < b → b < n → thread_at σ a ≡ thread_at σ b → T (write_at σ b) → κ.settled a < κ.settled b
  fifo a b l h e w = (K.fifo a b l h e w (all_in b h)).1

  -- a read out of its own queue, which has been drained since, saw nothing later
  queue_reads : (b a : ℕ) → b < n → FromQueue σ κ b a → Reads b a
  queue_reads b a lb Q =
      let la : a < n = omega (arith, Q.before) in
      let after : κ.issued b < κ.settled a = ⊎_elim (λ (t : T (σ.waiting a)). absurd (T_not (σ.waiting a) (all_in a la) t)) (λ l. l) Q.pending in
      record {
        below = la;
        writes = Q.mine.writes;
        place = Q.mine.place;
        value = Q.value;
        seen = inr (Q.mine.thread, Q.before);
        last = λ c lc w p s.
            ⊎_elim
            (λ (l : κ.settled c < κ.issued b). omega arith)
            (λ ((e, l) : (thread_at σ c ≡ thread_at σ b) × (c < b)).
            ⊎_elim
            (λ (h : a < c). absurd (Q.newest c h l (record { writes = w; thread = e; place = p })))
            (λ (h : c ≤ a).
            ⊎_elim
            (λ (z : c ≡ a). subst (λ (y : ℕ). κ.settled y ≤ κ.settled a) (sym z) (omega arith))
            (λ ne. let lt : c < a = omega arith in omega (arith, fifo c a lt la (e ∙ sym Q.mine.thread) Q.mine.writes))
            (eq_or_ne c a))
            (lt_or_le a c))
            s;
      }

  -- what a fresh read saw was in memory
  fresh_seen : (b c : ℕ) → Fresh σ κ b → T (write_at σ c) → place_at σ c ≡ place_at σ b → Seen c b → κ.settled c < κ.issued b
  fresh_seen b c f w p s = ⊎_elim (λ l. l) (λ ((e, l) : (thread_at σ c ≡ thread_at σ b) × (c < b)). (f c l (record { writes = w; thread = e; place = p })).1) s

  -- a read of memory saw nothing later
  memory_reads : (b a : ℕ) → FromMemory σ κ b a → Reads b a
  memory_reads b a Q =
      record {
        below = Q.below;
        writes = and_l (write_at σ a) (not (σ.waiting a)) Q.there;
        place = Q.place;
        value = Q.value;
        seen = inl Q.by_then;
        last = λ c lc w p s. Q.last c lc (there c lc w) p (fresh_seen b c Q.fresh w p s);
      }

  -- b has no source, and saw no write of its place
  abbrev Unfed : ℕ → Type 0
  Unfed b = (σ.source b ≡ 0) × ((c : ℕ) → c < n → T (write_at σ c) → place_at σ c ≡ place_at σ b → Seen c b → ⊥)

  -- a read has a source that is as said, or none
  source_cases : (b : ℕ) → b < n → T (read_at σ b) → ((a : ℕ) × (σ.source b ≡ suc a) × Reads b a) ⊎ Unfed b
  source_cases b lb t =
      ⊎_elim
      (λ (Q : (a : ℕ) × FromQueue σ κ b a). inl (Q.0, Q.1.from, queue_reads b Q.0 lb Q.1))
      (⊎_elim
      (λ (Q : (a : ℕ) × FromMemory σ κ b a). inl (Q.0, Q.1.from, memory_reads b Q.0 Q.1))
      (λ (Q : FromNothing σ κ b). inr (Q.from, λ c lc w p s. Q.none c lc (there c lc w) p (fresh_seen b c Q.fresh w p s))))
      (K.source_is b lb t)

  -- an rf edge leads from what a read reads to that read
  rf_e : (a b : ℕ) → a < n → b < n → T (Rf n ρ a b) → T (read_at σ b) × Reads b a
  rf_e a b la lb t =
      let e : σ.source b ≡ suc a = eqb→eq (σ.source b) (suc a) (subst T (rf_is σ a b la lb) t) in
      ⊎_elim
      (λ (r : T (read_at σ b)).
      ⊎_elim
      (λ ((c, f, R) : (c : ℕ) × (σ.source b ≡ suc c) × Reads b c). let z : c ≡ a = cc in (r, subst (λ (y : ℕ). Reads b y) z R))
      (λ Q. absurd (let z : suc a ≡ 0 = sym e ∙ Q.0 in omega arith))
      (source_cases b lb r))
      (λ (r : T (not (read_at σ b))). absurd (let z : suc a ≡ 0 = sym e ∙ K.no_source b lb r in omega arith))
      (dec (read_at σ b))

  -- a read that saw a write of its place has a source
  rf_some : (b c : ℕ) → b < n → c < n → T (read_at σ b) → T (write_at σ c) → place_at σ c ≡ place_at σ b → Seen c b → (a : ℕ) × (a < n) × T (Rf n ρ a b)
  rf_some b c lb lc r w p s =
      ⊎_elim
      (λ ((a, f, R) : (a : ℕ) × (σ.source b ≡ suc a) × Reads b a). (a, R.below, subst T (sym (rf_is σ a b R.below lb)) (eqb_i (σ.source b) (suc a) f)))
      (λ Q. absurd (Q.1 c lc w p s))
      (source_cases b lb r)

  -- ---- mo

  -- by arrival in memory
  mo_e : (a b : ℕ) → a < n → b < n → T (Mo n ρ a b) → Ahead σ κ a b
  mo_e a b la lb t = K.before_e a b la lb (subst T (mo_is σ a b la lb) t)

  mo_i : (a b : ℕ) → a < n → b < n → T (write_at σ a) → T (write_at σ b) → place_at σ a ≡ place_at σ b → κ.settled a < κ.settled b → T (Mo n ρ a b)
  mo_i a b la lb wa wb e l =
      subst T (sym (mo_is σ a b la lb)) (K.before_i a b la lb (record { from = there a la wa; to = there b lb wb; place = e; sooner = l }))

  -- no two writes arrive at once
  apart : (a b : ℕ) → a < n → b < n → T (write_at σ a) → T (write_at σ b) → κ.settled a ≡ κ.settled b → a ≡ b
  apart a b la lb wa wb e =
      ⊎_elim
      (λ (l : a < b). absurd (K.apart a b l lb (there a la wa) (there b lb wb) e))
      (⊎_elim (λ z. z) (λ (l : b < a). absurd (K.apart b a l la (there b lb wb) (there a la wa) (sym e))))
      (order3 a b)

  -- ---- thread 0 came first

  -- what thread 0 did came before the others: stores and nothing else
  zero_early : (a : ℕ) → a < n → thread_at σ a ≡ 0 → a < τ.n
  zero_early a l e = ⊎_elim (λ h. h) (λ (h : τ.n ≤ a). absurd (A.other a h l e)) (lt_or_le a τ.n)

  early_zero : (a : ℕ) → a < τ.n → thread_at σ a ≡ 0
  early_zero a l = ap (λ (y : Action). y.thread) (A.act_same a l) ∙ S.of_zero a l

  early_store : (a : ℕ) → a < τ.n → T (is_kind (4 ∷ []) (σ.act a).what)
  early_store a l = subst (λ (y : Action). T (is_kind (4 ∷ []) y.what)) (sym (A.act_same a l)) (S.stores a l)

  -- what is not thread 0's came after it; so did every load
  other_late : (b : ℕ) → (thread_at σ b ≡ 0 → ⊥) → τ.n ≤ b
  other_late b ne = ⊎_elim (λ (h : b < τ.n). absurd (ne (early_zero b h))) (λ h. h) (lt_or_le b τ.n)

  load_late : (b : ℕ) → b < n → T (is_kind (3 ∷ []) (σ.act b).what) → τ.n ≤ b
  load_late b lb t =
      ⊎_elim
      (λ (h : b < τ.n). absurd (store_not_read (σ.act b).what (K.good b lb).takes (early_store b h) (kinds (3 ∷ []) (3 ∷ 5 ∷ 6 ∷ []) tt b lb t)))
      (λ h. h)
      (lt_or_le b τ.n)

  -- where b is started from a, all of a's thread up to a was settled before b was issued
  started : (a b c : ℕ) → a < n → b < n → c ≤ a → thread_at σ c ≡ thread_at σ a → T (Asw n ρ a b) → κ.settled c < κ.issued b
  started a b c la lb l e t =
      let u : T (asw_of σ a b) = subst T (asw_is σ a b la lb) t in
      let za : T (eqb (thread_at σ a) 0) = search (and_l, and_r) in
      let zb : T (not (eqb (thread_at σ b) 0)) = search (and_l, and_r) in
      let early : c < τ.n = zero_early c (omega arith) (e ∙ eqb→eq (thread_at σ a) 0 za) in
      omega (arith, A.settled_then c early, A.issued_then b (other_late b (neqb_e (thread_at σ b) 0 zb)) lb)

  -- y is thread 0's last action
  last_zero : (y : ℕ) → τ.n ≡ suc y → T (last_of_zero σ y)
  last_zero y e =
      let later : Set = λ c. ltb y c && eqb (thread_at σ c) 0 in
      and_i (eqb (thread_at σ y) 0) (not (any n later)) (eqb_i (thread_at σ y) 0 (early_zero y (omega arith)))
      (not_T (any n later) λ u.
      let (c, lc, v) = any_e n later u in
      let up : y < c = ltb→lt y c (search (and_l)) in
      let early : c < τ.n = zero_early c lc (eqb→eq (thread_at σ c) 0 (search (and_r))) in
      omega arith)

  -- the first action of b's thread
  abbrev mates : ℕ → Set
  mates b c = eqb (thread_at σ c) (thread_at σ b)

  abbrev first_in : ℕ → ℕ
  first_in b = least n (mates b)

  -- where that is not thread 0
  record Leads (b z : ℕ) : Type 0 where
    upto : z ≤ b
    thread : thread_at σ z ≡ thread_at σ b
    other : T (first_of_other σ z)

  first_leads : (b : ℕ) → b < n → (thread_at σ b ≡ 0 → ⊥) → Leads b (first_in b)
  first_leads b lb ne =
      let z : ℕ = first_in b in
      let L = least_is n (mates b) in
      let hit : mates b b ≡ true = T_true (mates b b) (eqb_refl (thread_at σ b)) in
      let own : thread_at σ z ≡ thread_at σ b = eqb→eq (thread_at σ z) (thread_at σ b) (true_T (L.hit (least_below n (mates b) b lb hit))) in
      let sooner : Set = λ c. ltb c z && eqb (thread_at σ c) (thread_at σ z) in
      record {
        upto = ⊎_elim (λ (h : b < z). not_both hit (L.miss b h)) (λ h. h) (lt_or_le b z);
        thread = own;
        other = and_i (not (eqb (thread_at σ z) 0)) (not (any n sooner)) (neqb_i (thread_at σ z) 0 λ q. ne (sym own ∙ q))
            (not_T (any n sooner) λ u.
            let (c, lc, v) = any_e n sooner u in
            let same : thread_at σ c ≡ thread_at σ z = eqb→eq (thread_at σ c) (thread_at σ z) (search (and_r)) in
            not_both (T_true (mates b c) (eqb_i (thread_at σ c) (thread_at σ b) (same ∙ own))) (L.miss c (ltb→lt c z (search (and_l)))));
      }

  -- every load comes after a first write of its place: w up to y, y asw z, z up to the load
  abbrev First : ℕ → Type 0
  First b = (w : ℕ) × (y : ℕ) × (z : ℕ) × (w ≤ y) × (y < n) × (z ≤ b) × T (write n ρ w) × (place_at σ w ≡ place_at σ b) × (thread_at σ w ≡ thread_at σ y) × T (Asw n ρ y z) × (thread_at σ z ≡ thread_at σ b)

  first : (b : ℕ) → b < n → T (is_kind (3 ∷ []) (σ.act b).what) → First b
  first b lb t =
      let late : τ.n ≤ b = load_late b lb t in
      let more : τ.n ≤ n = A.more in
      let (w, lw, e) = S.each_place (place_at σ b) (subst (λ (y : ℕ). place_at σ b < y) A.p_same (K.good b lb).place_lt) in
      let lwn : w < n = omega arith in
      let y : ℕ = τ.n - 1 in
      let ly : y < n = omega arith in
      let z : ℕ = first_in b in
      let L = first_leads b lb (A.other b late lb) in
      let lz : z < n = omega (arith, L.upto) in
      let writes : T (write n ρ w) = writes_in w lwn (store_writes (σ.act w).what (K.good w lwn).takes (early_store w lw)) in
      let place : place_at σ w ≡ place_at σ b = ap (λ (x : Action). x.place) (A.act_same w lw) ∙ e in
      let thread : thread_at σ w ≡ thread_at σ y = early_zero w lw ∙ sym (early_zero y (omega arith)) in
      let edge : T (asw_of σ y z) = and_i (last_of_zero σ y) (first_of_other σ z) (last_zero y (omega arith)) L.other in
      (w, y, z, omega arith, ly, L.upto, writes, place, thread, subst T (sym (asw_is σ y z ly lz)) edge, L.thread)

  -- ---- all together

  -- each action has its times
  timed : Timed n ρ
  unfolding word
  timed =
      record {
        thread = thread_at σ;
        place = place_at σ;
        issued = κ.issued;
        settled = κ.settled;
        atomic_all = λ a l. into 2 a l (atomic_kind (σ.act a).what (K.good a l).takes);
        at_atomic_lem = λ a l. into 15 a l tt;
        no_mutex = out 13;
        no_plain_place = out 14;
        no_plain = plain_out;
        no_fence = fence_out;
        no_lock = lock_out;
        no_unlock = unlock_out;
        no_sc_action = sc_out;
        no_seq_cst = seq_cst_out;
        no_consume = consume_out;
        load_order_lem = λ a l t. into 18 a l (load_allowed (σ.act a).what (K.good a l).orders (out 16 a l t));
        store_order_lem = λ a l t. into 19 a l (store_allowed (σ.act a).what (K.good a l).orders (out 17 a l t));
        load_reads = λ a l t. into 0 a l (kinds (3 ∷ []) (3 ∷ 5 ∷ 6 ∷ []) tt a l (out 16 a l t));
        rmw_reads = λ a l t. into 0 a l (kinds (5 ∷ []) (3 ∷ 5 ∷ 6 ∷ []) tt a l (out 7 a l t));
        rmw_writes = λ a l t. into 1 a l (kinds (5 ∷ []) (4 ∷ 5 ∷ 7 ∷ []) tt a l (out 7 a l t));
        release_writes = release_write;
        place_e = same_place_e;
        place_i = same_place_i;
        thread_e = λ a b la lb t. eqb→eq (thread_at σ a) (thread_at σ b) (subst T (thread_is σ a b la lb) t);
        thread_i = λ a b la lb e. subst T (sym (thread_is σ a b la lb)) (eqb_i (thread_at σ a) (thread_at σ b) e);
        no_dd = λ a b la lb. subst T (dd_is σ a b la lb);
        no_cd = λ a b la lb. subst T (cd_is σ a b la lb);
        no_sc = λ a b la lb. subst T (sc_is σ a b la lb);
        sb_thread = λ a b la lb t. (sb_e a b la lb t).0;
        sb_up = λ a b la lb t. (sb_e a b la lb t).1;
        sb_i = sb_i;
        rises = K.rises;
        late = K.late;
        at_once = λ a l t. K.at_once a l (reads_out a l t);
        fifo = λ a b l h e w. fifo a b l h e (writes_out b h w);
        apart = λ a b la lb wa wb e. apart a b la lb (writes_out a la wa) (writes_out b lb wb) e;
        mo_from = λ a b la lb t. writes_in a la (and_l (write_at σ a) (not (σ.waiting a)) (mo_e a b la lb t).from);
        mo_to = λ a b la lb t. writes_in b lb (and_l (write_at σ b) (not (σ.waiting b)) (mo_e a b la lb t).to);
        mo_place = λ a b la lb t. (mo_e a b la lb t).place;
        mo_up = λ a b la lb t. (mo_e a b la lb t).sooner;
        mo_i = λ a b la lb wa wb e l. mo_i a b la lb (writes_out a la wa) (writes_out b lb wb) e l;
        rf_from = λ a b la lb t. writes_in a la (rf_e a b la lb t).1.writes;
        rf_to = λ a b la lb t. reads_in b lb (rf_e a b la lb t).0;
        rf_place = λ a b la lb t. (rf_e a b la lb t).1.place;
        rf_value = λ a b la lb t. subst T (sym (value_is σ a b la lb)) (eqb_i (σ.act a).written (σ.act b).read (sym (rf_e a b la lb t).1.value));
        rf_seen = λ a b la lb t. (rf_e a b la lb t).1.seen;
        rf_last = λ a b c la lb lc t w p s. (rf_e a b la lb t).1.last c lc (writes_out c lc w) p s;
        rf_some = λ b c lb lc r w p s. rf_some b c lb lc (reads_out b lb r) (writes_out c lc w) p s;
        started = started;
        first = λ b lb t. first b lb (load_out b lb t);
      }

  -- so no rule of edition 2 offends
  clean_at : Clean 2 n ρ
  unfolding candidate
  clean_at = clean n ρ (filled_is n (book_of (candidate σ))) timed

-- ---- the theorem

-- If thread 0 does nothing but store to each place and drain, all before any other thread steps, and all stores are in memory at the end, then edition 2 passes the candidate.
pub sound : (t p : ℕ) (first rest : List Step) → T (prepared t p first rest) → Clean 2 (candidate (ending t p first rest)).n (book (candidate (ending t p first rest)))
unfolding candidate prepared settled
sound t p first rest I =
    let τ : State = set_up t p first in
    let σ : State = ending t p first rest in
    let theirs : T (every_step (λ s. not (eqb (owner s) 0)) rest) = search (and_l, and_r) in
    let stores : T (stores_first τ) = search (and_l, and_r) in
    let all_in_memory : T (settled σ) = search (and_r) in
    let (ι, K) = run_kept t p first in
    let S = begun τ stores in
    let (κ, G) = run_going τ ι rest S K theirs in
    clean_at τ ι σ κ S G (all_e σ.n (λ a. not (σ.waiting a)) all_in_memory)

-- a trace that stores once, relaxed, to each place stores to each place
pub initialised_prepared : (t p : ℕ) (first rest : List Step) → T (initialised t p first rest) → T (prepared t p first rest)
unfolding initialised prepared
initialised_prepared t p first rest I =
    let stores : T (stores_first (set_up t p first)) = once_first (set_up t p first) (search (and_l, and_r)) in
    let zero : T (zero_first first rest) = search (and_l) in
    let all_in_memory : T (settled (ending t p first rest)) = search (and_r) in
    search (and_i)

-- As request Q-11 asks: the same, where thread 0 stores once, relaxed, to each place.
pub initialised_sound : (t p : ℕ) (first rest : List Step) → T (initialised t p first rest) → Clean 2 (candidate (ending t p first rest)).n (book (candidate (ending t p first rest)))
initialised_sound t p first rest I = sound t p first rest (initialised_prepared t p first rest I)

-- in the judge's words
pub prepared_passed : (t p : ℕ) (first rest : List Step) → T (prepared t p first rest) → (judged_of (candidate (ending t p first rest))).verdict ≡ Passed
unfolding judged_of candidate
prepared_passed t p first rest I = clean_passed 2 (ending t p first rest).n (book (candidate (ending t p first rest))) (sound t p first rest I)

pub initialised_passed : (t p : ℕ) (first rest : List Step) → T (initialised t p first rest) → (judged_of (candidate (ending t p first rest))).verdict ≡ Passed
initialised_passed t p first rest I = prepared_passed t p first rest (initialised_prepared t p first rest I)

-- the two parts are one trace
pub whole_trace : (t p : ℕ) (first rest : List Step) → ending t p first rest ≡ run (start t p) (first ++ rest)
whole_trace t p first rest = run_on (start t p) first rest
