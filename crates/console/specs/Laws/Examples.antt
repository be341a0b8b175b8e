-- Traces, by computation: store buffering with a read out of one's own queue and an RMW; the refusals in their order; and traces that lack just one part of the theorem's condition, whose candidates
-- edition 2 does not pass.
use Rattle.std.specs.Prelude.{ℕ, zero, suc, ◌+◌, Bool, true, false, ◌&&◌, cond, List, [], ◌∷◌, ◌++◌, map, ◌≡◌, refl, eqb, replicate, None}
use Rattle.rows.specs.Sets.{all, count, least}
use Rattle.rows.specs.Numbers.{listed}
use Rattle.rows.specs.Laws.Truth.{true_T}
use Rattle.model.specs.declared.MemoryOrder.{MemoryOrder}
use Rattle.model.specs.declared.MemoryOrder.TheVariants.{Relaxed, Consume, Acquire, Release, AcqRel, SeqCst}
use Rattle.model.specs.declared.ActionKind.TheVariants.{Lock, Unlock, AtomicLoad, AtomicStore, ReadModifyWrite, Load, Store, Fence}
use Rattle.model.specs.declared.Verdict.{Verdict}
use Rattle.model.specs.declared.Verdict.TheVariants.{Passed, Broken}
use Rattle.model.specs.declared.refusals.Reason.TheVariants.{NotTraced, OutOfLimit, TooManyActions, WrongQueue}
use Rattle.model.specs.Refusals.{Passed as Good, Refused}
use Rattle.model.specs.Judge.{judged_of}
use Rattle.model.specs.Drawings.{computing}
use Rattle.machine.specs.declared.Step.{Step}
use Rattle.machine.specs.declared.Step.TheVariants.{Does, Drains}
use Rattle.machine.specs.Machine.{is_kind, is_order, value_limit, State, thread_at, place_at, start, latest, taken, ordered, found, worth, fits, refusal, done, arrived, step, run, candidate}
use Rattle.console.specs.Consoles.{stores_first, stores_once, settled, set_up, ending, zero_first, prepared, initialised}
use Rattle.console.specs.Laws.Sound.{prepared_passed, initialised_passed}

-- all that is opened to compute a trace and what is said of its candidate
unfoldable tracing : ℕ
unfolding computing latest taken ordered start found worth fits refusal done arrived step run candidate stores_first stores_once settled prepared initialised
tracing = 0

-- ---- how a trace is written down here

-- order, thread, place, value
abbrev stores : MemoryOrder → ℕ → ℕ → ℕ → Step
stores m th pl v = Does (AtomicStore m) th pl v

abbrev loads : MemoryOrder → ℕ → ℕ → Step
loads m th pl = Does (AtomicLoad m) th pl 0

abbrev rmws : MemoryOrder → ℕ → ℕ → ℕ → Step
rmws m th pl v = Does (ReadModifyWrite m) th pl v

-- T, P, thread 0's steps, the steps from the first other thread's on
pub record Trace : Type 0 where
  pub t : ℕ
  pub p : ℕ
  pub first : List Step
  pub rest : List Step

abbrev end_of : Trace → State
end_of x = ending x.t x.p x.first x.rest

-- the condition that is asked of it, and the weaker one that is enough
abbrev asked : Trace → Bool
asked x = initialised x.t x.p x.first x.rest

abbrev enough : Trace → Bool
enough x = prepared x.t x.p x.first x.rest

-- what the judge says of its candidate
abbrev verdict_of : Trace → Verdict
verdict_of x = (judged_of (candidate (end_of x))).verdict

-- ---- store buffering

-- 0, 1 thread 0 stores x=0, y=0; 2 T1 x=1; 3 T2 y=1, and both wait; 4 T1 reads x=1 out of its own queue; 5 T1 reads y=0; 6 T2 reads x=0; both drain; 7 T1 RMW of y, from 1 to 2
abbrev pub buffering : Trace
buffering =
    record {
      t = 3;
      p = 2;
      first = stores Relaxed 0 0 0 ∷ stores Relaxed 0 1 0 ∷ Drains 0 ∷ Drains 0 ∷ [];
      rest =
          stores Release 1 0 1 ∷ stores Release 2 1 1 ∷ loads Relaxed 1 0 ∷ loads Acquire 1 1 ∷ loads Acquire 2 0
          ∷ Drains 1 ∷ Drains 2 ∷ rmws AcqRel 1 1 2 ∷ [];
    }

pub buffering_asked : asked buffering ≡ true
unfolding tracing
buffering_asked = refl

-- the theorem, of this trace
pub buffering_passed : verdict_of buffering ≡ Passed
buffering_passed = initialised_passed buffering.t buffering.p buffering.first buffering.rest (true_T buffering_asked)

-- what each action read
pub buffering_reads : listed 8 (λ a. ((end_of buffering).act a).read) ≡ 0 ∷ 0 ∷ 0 ∷ 0 ∷ 1 ∷ 0 ∷ 0 ∷ 1 ∷ []
unfolding tracing
buffering_reads = refl

-- rf 0→6, 1→5, 2→4, 3→7
pub buffering_rf : (candidate (end_of buffering)).rf ≡ 64 ∷ 32 ∷ 16 ∷ 128 ∷ 0 ∷ 0 ∷ 0 ∷ 0 ∷ []
unfolding tracing
buffering_rf = refl

-- mo 0→2, 1→3, 1→7, 3→7
pub buffering_mo : (candidate (end_of buffering)).mo ≡ 4 ∷ 136 ∷ 0 ∷ 128 ∷ 0 ∷ 0 ∷ 0 ∷ 0 ∷ []
unfolding tracing
buffering_mo = refl

-- asw 1→2, 1→3
pub buffering_asw : (candidate (end_of buffering)).asw ≡ 0 ∷ 12 ∷ 0 ∷ 0 ∷ 0 ∷ 0 ∷ 0 ∷ 0 ∷ []
unfolding tracing
buffering_asw = refl

-- sb 0→1; 2→4, 2→5, 2→7, 4→5, 4→7, 5→7; 3→6
pub buffering_sb : (candidate (end_of buffering)).sb ≡ 2 ∷ 0 ∷ 176 ∷ 64 ∷ 160 ∷ 128 ∷ 0 ∷ 0 ∷ []
unfolding tracing
buffering_sb = refl

-- ---- message passing

-- each way that the steps of two threads can come, where k are enough for both
unfoldable pub ways : ℕ → List Step → List Step → List (List Step)
ways zero l m = []
ways (suc k) [] m = m ∷ []
ways (suc k) (x ∷ l) [] = (x ∷ l) ∷ []
ways (suc k) (x ∷ l) (y ∷ m) = map (λ z. x ∷ z) (ways k l (y ∷ m)) ++ map (λ z. y ∷ z) (ways k (x ∷ l) m)

-- T1 stores 1 to place 0, then to place 1, and drains both last, or each at once; T2 loads place 1, then place 0
abbrev sends_late : List Step
sends_late = stores Relaxed 1 0 1 ∷ stores Release 1 1 1 ∷ Drains 1 ∷ Drains 1 ∷ []

abbrev sends_early : List Step
sends_early = stores Relaxed 1 0 1 ∷ Drains 1 ∷ stores Release 1 1 1 ∷ Drains 1 ∷ []

abbrev gets : List Step
gets = loads Acquire 2 1 ∷ loads Relaxed 2 0 ∷ []

-- what T2 reads from a place
abbrev reads_at : ℕ → State → ℕ
reads_at pl σ = (σ.act (least σ.n λ a. is_kind (3 ∷ []) (σ.act a).what && eqb (place_at σ a) pl)).read

-- it reads `flag` from place 1 and then `datum` from place 0
abbrev passed_on : ℕ → ℕ → List Step → Bool
passed_on flag datum l = let σ = ending 3 2 buffering.first l in eqb (reads_at 1 σ) flag && eqb (reads_at 0 σ) datum

-- in how many of the ways
unfoldable pub tally : (List Step → Bool) → List (List Step) → ℕ
tally f [] = 0
tally f (l ∷ ls) = cond (f l) 1 0 + tally f ls

abbrev seen : ℕ → ℕ → ℕ
seen flag datum = tally (passed_on flag datum) (ways 6 sends_late gets ++ ways 6 sends_early gets)

-- Of all thirty ways none reads 1 and then the stale 0.
pub never_stale : seen 0 0 ∷ seen 0 1 ∷ seen 1 1 ∷ seen 1 0 ∷ [] ≡ 9 ∷ 19 ∷ 2 ∷ 0 ∷ []
unfolding tracing ways tally
never_stale = refl

-- ---- the refusals

-- three threads and two places; a store of thread 1 waits
abbrev half : State
half = run (start 3 2) (stores Relaxed 1 0 1 ∷ [])

-- and 63 loads after it: 64 actions
abbrev full : State
full = run half (replicate 63 (loads Relaxed 0 0))

-- By their numbers 14 to 17, then steps that are not refused; a step with several grounds is told the first of them, in this order. A drain is no 65th action.
pub refused :
    map (refusal half)
    (Does Lock 9 9 9 ∷ Does Unlock 0 0 0 ∷ Does Load 0 0 0 ∷ Does Store 0 0 0 ∷ Does (Fence Acquire) 0 0 0 ∷ loads Consume 0 0 ∷ stores SeqCst 0 0 0 ∷ rmws SeqCst 0 0 0 ∷ [])
    ∷ map (refusal half)
    (loads Relaxed 3 0 ∷ loads Relaxed 0 2 ∷ stores Relaxed 0 0 value_limit ∷ Does (AtomicLoad Relaxed) 0 0 1 ∷ loads Release 0 0 ∷ stores Acquire 0 0 0 ∷ rmws Relaxed 1 2 0 ∷ Drains 3 ∷ [])
    ∷ map (refusal full) (loads Relaxed 0 0 ∷ rmws Relaxed 1 0 0 ∷ [])
    ∷ map (refusal half) (rmws Relaxed 1 0 0 ∷ Drains 2 ∷ [])
    ∷ map (refusal half) (rmws Relaxed 2 0 0 ∷ Drains 1 ∷ [])
    ∷ map (refusal full) (Does Lock 9 9 9 ∷ loads Relaxed 3 0 ∷ Drains 2 ∷ Drains 1 ∷ [])
    ∷ []
    ≡ replicate 8 (Refused NotTraced 0)
    ∷ replicate 8 (Refused OutOfLimit 0)
    ∷ replicate 2 (Refused TooManyActions 0)
    ∷ replicate 2 (Refused WrongQueue 0)
    ∷ replicate 2 Good
    ∷ (Refused NotTraced 0 ∷ Refused OutOfLimit 0 ∷ Refused WrongQueue 0 ∷ Good ∷ [])
    ∷ []
unfolding tracing
refused = refl

-- ---- the parts of the condition

-- thread 0's steps come before all others; its actions are relaxed stores; it stores once to each place; all stores are in memory at the end
pub record Parts : Type 0 where
  pub zero_is_first : Bool
  pub only_stores : Bool
  pub each_place : Bool
  pub all_in_memory : Bool

abbrev parts_of : Trace → Parts
parts_of x =
    let τ = set_up x.t x.p x.first in
    record {
      zero_is_first = zero_first x.first x.rest;
      only_stores = all τ.n λ a. is_kind (4 ∷ []) (τ.act a).what && is_order (1 ∷ []) (τ.act a).what && eqb (thread_at τ a) 0;
      each_place = all τ.p λ q. eqb (count τ.n λ a. eqb (place_at τ a) q) 1;
      all_in_memory = settled (end_of x);
    }

abbrev together : Parts → Bool
together c = c.zero_is_first && (c.only_stores && c.each_place) && c.all_in_memory

-- together they are the condition
pub parts_are : (x : Trace) → asked x ≡ together (parts_of x)
unfolding initialised stores_once
parts_are x = refl

-- Place 1 has no first store: 1 T1 stores to it, and 2 T2 reads that with nothing that happens before it.
abbrev unstored : Trace
unstored =
    record { t = 3; p = 2; first = stores Relaxed 0 0 0 ∷ Drains 0 ∷ []; rest = stores Relaxed 1 1 1 ∷ Drains 1 ∷ loads Relaxed 2 1 ∷ [] }

-- Thread 0 drains after another thread's step: 1 T1 reads 0 from nothing, though 0 happens before it;
abbrev undrained : Trace
undrained = record { t = 2; p = 1; first = stores Relaxed 0 0 0 ∷ []; rest = loads Relaxed 1 0 ∷ Drains 0 ∷ [] }

-- 1 T1's store arrives before 0, though 0 happens before it.
abbrev overtaken : Trace
overtaken = record { t = 2; p = 1; first = stores Relaxed 0 0 0 ∷ []; rest = stores Relaxed 1 0 1 ∷ Drains 1 ∷ Drains 0 ∷ [] }

-- Thread 0 stores after another thread's step: 1 T1 reads 0, though 2 happens before it.
abbrev restored : Trace
restored =
    record { t = 2; p = 1; first = stores Relaxed 0 0 0 ∷ Drains 0 ∷ []; rest = loads Relaxed 1 0 ∷ stores Relaxed 0 0 1 ∷ Drains 0 ∷ [] }

-- A store is left in a queue at the end: there is no mo between 0 and 1.
abbrev unsettled : Trace
unsettled = record { t = 2; p = 1; first = stores Relaxed 0 0 0 ∷ Drains 0 ∷ []; rest = stores Relaxed 1 0 1 ∷ [] }

-- what a trace has of the condition, and what the judge says of its candidate
pub record Said : Type 0 where
  pub parts : Parts
  pub verdict : Verdict

abbrev said : Bool → Bool → Bool → Bool → Verdict → Said
said z s e m v = record { parts = record { zero_is_first = z; only_stores = s; each_place = e; all_in_memory = m }; verdict = v }

-- With all parts the candidate passes; without any one of three, and with all the others, it need not. (Of the fourth, that thread 0's actions are relaxed stores, no such trace is known.)
pub needed : map (λ x. record { parts = parts_of x; verdict = verdict_of x }) (buffering ∷ unstored ∷ undrained ∷ overtaken ∷ restored ∷ unsettled ∷ [])
    ≡ said true true true true Passed
    ∷ said true true false true (Broken 28 2 2 None)
    ∷ said false true true true (Broken 28 1 1 None)
    ∷ said false true true true (Broken 33 0 1 None)
    ∷ said false true true true (Broken 34 0 1 None)
    ∷ said true true true false (Broken 14 0 1 None)
    ∷ []
unfolding tracing
needed = refl

-- ---- the weaker condition

-- Thread 0 stores twice to a place, and not relaxed.
abbrev repeated : Trace
repeated =
    record { t = 2; p = 1; first = stores Release 0 0 0 ∷ stores Release 0 0 1 ∷ Drains 0 ∷ Drains 0 ∷ []; rest = loads Relaxed 1 0 ∷ [] }

pub repeated_enough : (asked repeated ≡ false) × (enough repeated ≡ true)
unfolding tracing
repeated_enough = (refl, refl)

-- the theorem, of this trace
pub repeated_passed : verdict_of repeated ≡ Passed
repeated_passed = prepared_passed repeated.t repeated.p repeated.first repeated.rest (true_T repeated_enough.1)
