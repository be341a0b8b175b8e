-- The paper's marked drawings A to L, that of request Q-3, five of broken orders for request Q-4, and five more that those alone would miss; for request Q-6 the marked ones by edition 2, and eight that show its own rules; for request Q-7 four, one of them by both editions: as a table for each edition under one statement.
use Rattle.std.specs.Prelude.{ℕ, true, false, ◌&&◌, ◌||◌, List, [], ◌∷◌, ◌++◌, map, ◌≡◌, refl, eqb, length, Some, None}
use Rattle.rows.specs.Sets.{Rel, any, all, least, count, sum, via}
use Rattle.rows.specs.Numbers.{bit, number, listed, rows_of}
use Rattle.model.specs.declared.Action.{Action}
use Rattle.model.specs.declared.MemoryOrder.{MemoryOrder}
use Rattle.model.specs.declared.MemoryOrder.TheVariants.{Relaxed, Consume, Acquire, Release, SeqCst}
use Rattle.model.specs.declared.ActionKind.{ActionKind}
use Rattle.model.specs.declared.ActionKind.TheVariants.{Lock, Unlock, AtomicLoad, AtomicStore, ReadModifyWrite, Load, Store, Fence}
use Rattle.model.specs.declared.Verdict.{Verdict}
use Rattle.model.specs.declared.Verdict.TheVariants.{Passed, Broken}
use Rattle.model.specs.declared.OrderPart.{OrderPart}
use Rattle.model.specs.declared.OrderPart.TheVariants.{Given, Refused}
use Rattle.model.specs.declared.Judged.{Judged}
use Rattle.model.specs.Candidates.{Candidate, action_ok, to_others, well_formed}
use Rattle.model.specs.Words.{word, book_from}
use Rattle.model.specs.Model.{hrs, rs, sw, cad, dob, ithb, hb, vse, vsse, data_races, unsequenced_races, derived, entered, rules, rule1, rule2, rule3, rule4, rule5, rule6, rule7, rule8, rule9, rule10, rule11, rule12, rule13, rule14, rule15, rule16, rule17, rule18, rule19, rule20, rule21, rule22, rule23, rule24, rule25, rule26, rule27, rule28, rule29, rule30, rule31, rule32, rule33, rule34, rule35, rule36, middle, tested}
use Rattle.model.specs.Judge.{loose, lowest, verdict, due, next, greedy, order_of, judged_of}

-- ---- how a drawing is written down here

infixr 70 ◌⟶◌
pub record Edge : Type 0 where
  pub tail : ℕ
  pub head : ℕ

abbrev pub ◌⟶◌ : ℕ → ℕ → Edge
a ⟶ b = record { tail = a; head = b }

abbrev pub linked : List Edge → Rel
linked [] a b = false
linked (e ∷ es) a b = (eqb e.tail a && eqb e.head b) || linked es a b

-- every earlier number of the list to every later one
abbrev to_all : ℕ → List ℕ → List Edge
to_all a [] = []
to_all a (b ∷ bs) = (a ⟶ b) ∷ to_all a bs

abbrev pub in_turn : List ℕ → List Edge
in_turn [] = []
in_turn (a ∷ bs) = to_all a bs ++ in_turn bs

-- actions: thread, place, value read, value written
abbrev act : ActionKind → ℕ → ℕ → ℕ → ℕ → Action
act k t p v w = record { what = k; thread = t; place = p; read = v; written = w }

abbrev pub store : ℕ → ℕ → ℕ → Action
store t p w = act Store t p 0 w

abbrev pub load : ℕ → ℕ → ℕ → Action
load t p v = act Load t p v 0

abbrev pub stores : MemoryOrder → ℕ → ℕ → ℕ → Action
stores m t p w = act (AtomicStore m) t p 0 w

abbrev pub loads : MemoryOrder → ℕ → ℕ → ℕ → Action
loads m t p v = act (AtomicLoad m) t p v 0

abbrev pub rmws : MemoryOrder → ℕ → ℕ → ℕ → ℕ → Action
rmws m t p v w = act (ReadModifyWrite m) t p v w

abbrev pub locks : ℕ → ℕ → Action
locks t p = act Lock t p 0 0

abbrev pub unlocks : ℕ → ℕ → Action
unlocks t p = act Unlock t p 0 0

abbrev pub fences : MemoryOrder → ℕ → Action
fences m t = act (Fence m) t 65535 0 0

-- place bytes, actions, threads; sb, asw, dd, rf, sc, mo by their edges (no drawing has cd)
abbrev pub drawing : List ℕ → List Action → ℕ → List Edge → List Edge → List Edge → List Edge → List Edge → List Edge → Candidate
drawing places acts t sb asw dd rf sc mo =
    let n = length acts in
    record {
      edition = 1;
      n = n;
      t = t;
      p = length places;
      places = places;
      acts = acts;
      sb = rows_of n (linked sb);
      asw = rows_of n (linked asw);
      dd = rows_of n (linked dd);
      cd = rows_of n (linked []);
      rf = rows_of n (linked rf);
      sc = rows_of n (linked sc);
      mo = rows_of n (linked mo);
    }

-- ---- the paper's drawings

-- Basis M: 0 T0 store d=0; 1 T0 relaxed store f=0; 2 T1 store d=1; 3 T1 release f=1; 4 T2 load f=1; 5 T2 load d=1. sb 0→1, 2→3, 4→5;
-- asw 1→2, 1→4; mo 1→3; rf 3→4. f atomic, d not. (Here: 4's order, dd, 5's source and the value that it reads; d is place 0, f place 1.)
abbrev M : MemoryOrder → List Edge → ℕ → ℕ → Candidate
M m dd s v =
    drawing
    (1 ∷ 2 ∷ [])
    (store 0 0 0 ∷ stores Relaxed 0 1 0 ∷ store 1 0 1 ∷ stores Release 1 1 1 ∷ loads m 2 1 1 ∷ load 2 0 v ∷ [])
    3
    ((0 ⟶ 1) ∷ (2 ⟶ 3) ∷ (4 ⟶ 5) ∷ [])
    ((1 ⟶ 2) ∷ (1 ⟶ 4) ∷ [])
    dd
    ((3 ⟶ 4) ∷ (s ⟶ 5) ∷ [])
    []
    ((1 ⟶ 3) ∷ [])

-- N=0
abbrev pub A : Candidate
A = drawing [] [] 0 [] [] [] [] [] []

-- M, 4 acquire, 2 rf 5
abbrev pub B : Candidate
B = M Acquire [] 2 1

-- M, 4 relaxed, 2 rf 5
abbrev pub C : Candidate
C = M Relaxed [] 2 1

-- M, 4 relaxed, 0 rf 5 (reads 0)
abbrev pub D : Candidate
D = M Relaxed [] 0 0

-- M, 4 consume, dd 4→5, 2 rf 5
abbrev pub E : Candidate
E = M Consume ((4 ⟶ 5) ∷ []) 2 1

-- without dd
abbrev pub F : Candidate
F = M Consume [] 2 1

-- x, y atomic. 0, 1 T0 write x=0, y=0; 2 T1 x=1, 3 T1 reads y=0; 4 T2 y=1, 5 T2 reads x=0; all seq_cst; sb in each thread; asw 1→2, 1→4;
-- mo 0→2, 1→4; rf 1→3, 0→5; sc by number. (Here: the first two, and sc.)
abbrev Gh : Action → Action → List ℕ → Candidate
Gh x y sc =
    drawing
    (2 ∷ 2 ∷ [])
    (x ∷ y ∷ stores SeqCst 1 0 1 ∷ loads SeqCst 1 1 0 ∷ stores SeqCst 2 1 1 ∷ loads SeqCst 2 0 0 ∷ [])
    3
    ((0 ⟶ 1) ∷ (2 ⟶ 3) ∷ (4 ⟶ 5) ∷ [])
    ((1 ⟶ 2) ∷ (1 ⟶ 4) ∷ [])
    []
    ((1 ⟶ 3) ∷ (0 ⟶ 5) ∷ [])
    (in_turn sc)
    ((0 ⟶ 2) ∷ (1 ⟶ 4) ∷ [])

abbrev pub G : Candidate
G = Gh (stores SeqCst 0 0 0) (stores SeqCst 0 1 0) (0 ∷ 1 ∷ 2 ∷ 3 ∷ 4 ∷ 5 ∷ [])

-- G with 0, 1 plain stores, sc 2, 3, 4, 5
abbrev pub H : Candidate
H = Gh (store 0 0 0) (store 0 1 0) (2 ∷ 3 ∷ 4 ∷ 5 ∷ [])

-- 0 T0 store d=0; T1: 1 lock, 2 store d=1, 3 unlock; T2: 4 lock, 5 load d=1, 6 unlock; asw 0→1, 0→4; rf 2→5; sb by number in each thread. (Here: sc; d is place 0.)
abbrev IJ : List ℕ → Candidate
IJ sc =
    drawing
    (1 ∷ 0 ∷ [])
    (store 0 0 0 ∷ locks 1 1 ∷ store 1 0 1 ∷ unlocks 1 1 ∷ locks 2 1 ∷ load 2 0 1 ∷ unlocks 2 1 ∷ [])
    3
    (in_turn (1 ∷ 2 ∷ 3 ∷ []) ++ in_turn (4 ∷ 5 ∷ 6 ∷ []))
    ((0 ⟶ 1) ∷ (0 ⟶ 4) ∷ [])
    []
    ((2 ⟶ 5) ∷ [])
    (in_turn sc)
    []

abbrev pub I : Candidate
I = IJ (1 ∷ 3 ∷ 4 ∷ 6 ∷ [])

abbrev pub J : Candidate
J = IJ (1 ∷ 4 ∷ 3 ∷ 6 ∷ [])

-- 0 load x=5, 1 store x=5, one thread, x non-atomic, sb 1→0, rf 1→0
abbrev pub K : Candidate
K = drawing (1 ∷ []) (load 0 0 5 ∷ store 0 0 5 ∷ []) 1 ((1 ⟶ 0) ∷ []) [] [] ((1 ⟶ 0) ∷ []) [] []

-- x atomic; 0 T0 store x=0; 1 T1, 2 T2 relaxed RMW, each 0 to 1; asw 0→1, 0→2; rf 0→1, 0→2; mo 0, 1, 2
abbrev pub L : Candidate
L =
    drawing
    (2 ∷ [])
    (store 0 0 0 ∷ rmws Relaxed 1 0 0 1 ∷ rmws Relaxed 2 0 0 1 ∷ [])
    3
    []
    ((0 ⟶ 1) ∷ (0 ⟶ 2) ∷ [])
    []
    ((0 ⟶ 1) ∷ (0 ⟶ 2) ∷ [])
    []
    (in_turn (0 ∷ 1 ∷ 2 ∷ []))

-- ---- the drawing of request Q-3

-- 0 T0 store x=0, 1 T0 store z=0, 2 T1 relaxed x=1, 3 T1 seq_cst fence, 4 T2 seq_cst fence, 5 T2 relaxed load z=0, both places atomic; sb in each thread;
-- asw 1→2, 1→4; mo 0→2; rf 1→5; sc 3→4. (Here: 5's place and its source; x is place 0, z place 1.)
abbrev fenced : ℕ → ℕ → Candidate
fenced p s =
    drawing
    (2 ∷ 2 ∷ [])
    (store 0 0 0 ∷ store 0 1 0 ∷ stores Relaxed 1 0 1 ∷ fences SeqCst 1 ∷ fences SeqCst 2 ∷ loads Relaxed 2 p 0 ∷ [])
    3
    ((0 ⟶ 1) ∷ (2 ⟶ 3) ∷ (4 ⟶ 5) ∷ [])
    ((1 ⟶ 2) ∷ (1 ⟶ 4) ∷ [])
    []
    ((s ⟶ 5) ∷ [])
    ((3 ⟶ 4) ∷ [])
    ((0 ⟶ 2) ∷ [])

abbrev pub two_places : Candidate
two_places = fenced 1 1

-- ---- drawings of broken orders, for request Q-4

-- n relaxed stores of x=0 in one thread, with sb and dd
abbrev one_thread : ℕ → List Edge → List Edge → Candidate
one_thread n sb dd = drawing (2 ∷ []) (listed n λ a. stores Relaxed 0 0 0) 1 sb [] dd [] [] []

-- 0 T0, 1 T1, 2 T2 store x, each of its order, with sc and mo
abbrev three_threads : MemoryOrder → MemoryOrder → MemoryOrder → List Edge → List Edge → Candidate
three_threads k l m sc mo = drawing (2 ∷ []) (stores k 0 0 0 ∷ stores l 1 0 0 ∷ stores m 2 0 0 ∷ []) 3 [] [] [] [] sc mo

-- sb leads from 0 to 4 by 2 and by 3 only, and dd by 1 only: sb decides, and 2 is the least
abbrev pub gap_in_sb : Candidate
gap_in_sb = one_thread 5 ((0 ⟶ 2) ∷ (2 ⟶ 4) ∷ (0 ⟶ 3) ∷ (3 ⟶ 4) ∷ []) ((0 ⟶ 1) ∷ (1 ⟶ 4) ∷ [])

-- sb has 0→0, and dd 0→1→0: sb decides, and has no middle, though 0→0→0
abbrev pub loop_in_sb : Candidate
loop_in_sb = one_thread 2 ((0 ⟶ 0) ∷ []) ((0 ⟶ 1) ∷ (1 ⟶ 0) ∷ [])

-- 0 T0 lock m, 1 T1 lock of another mutex, 2 T0 unlock m, 3 T2 lock m: sc leads from 0 to 3 by 1 and by 2 only, of which 2 is at m
abbrev pub gap_in_turns : Candidate
gap_in_turns =
    drawing
    (0 ∷ 0 ∷ [])
    (locks 0 0 ∷ locks 1 1 ∷ unlocks 0 0 ∷ locks 2 0 ∷ [])
    3
    []
    []
    []
    []
    ((0 ⟶ 1) ∷ (1 ⟶ 3) ∷ (0 ⟶ 2) ∷ (2 ⟶ 3) ∷ [])
    []

-- sc leads from 0 to 1 by 2 only, which is no SC action
abbrev pub gap_in_sc : Candidate
gap_in_sc = three_threads SeqCst SeqCst Relaxed ((0 ⟶ 2) ∷ (2 ⟶ 1) ∷ []) []

-- mo leads from 0 to 2 by 1 only
abbrev pub gap_in_mo : Candidate
gap_in_mo = three_threads Relaxed Relaxed Relaxed [] ((0 ⟶ 1) ∷ (1 ⟶ 2) ∷ [])

-- ---- what these alone would miss

-- the drawing of request Q-3, but 5 loads x=0 from 0: write and read at one place
abbrev pub one_place : Candidate
one_place = fenced 0 0

-- relaxed load buffering: x, y atomic; 0, 1 T0 store x=0, y=0; 2 T1 reads x=1, 3 T1 y=1; 4 T2 reads y=1, 5 T2 x=1
abbrev pub load_buffering : Candidate
load_buffering =
    drawing
    (2 ∷ 2 ∷ [])
    (store 0 0 0 ∷ store 0 1 0 ∷ loads Relaxed 1 0 1 ∷ stores Relaxed 1 1 1 ∷ loads Relaxed 2 1 1 ∷ stores Relaxed 2 0 1 ∷ [])
    3
    ((0 ⟶ 1) ∷ (2 ⟶ 3) ∷ (4 ⟶ 5) ∷ [])
    ((1 ⟶ 2) ∷ (1 ⟶ 4) ∷ [])
    []
    ((3 ⟶ 4) ∷ (5 ⟶ 2) ∷ [])
    []
    ((0 ⟶ 5) ∷ (1 ⟶ 3) ∷ [])

-- B's message, but 4 reads f=2 from 6, another thread's relaxed store after 3: no release sequence reaches it
abbrev pub sequence_broken : Candidate
sequence_broken =
    drawing
    (1 ∷ 2 ∷ [])
    (store 0 0 0 ∷ stores Relaxed 0 1 0 ∷ store 1 0 1 ∷ stores Release 1 1 1 ∷ loads Acquire 2 1 2 ∷ load 2 0 1 ∷ stores Relaxed 3 1 2 ∷ [])
    4
    ((0 ⟶ 1) ∷ (2 ⟶ 3) ∷ (4 ⟶ 5) ∷ [])
    ((1 ⟶ 2) ∷ (1 ⟶ 4) ∷ (1 ⟶ 6) ∷ [])
    []
    ((2 ⟶ 5) ∷ (6 ⟶ 4) ∷ [])
    []
    ((1 ⟶ 3) ∷ (1 ⟶ 6) ∷ (3 ⟶ 6) ∷ [])

-- x atomic; 0 T0 store x=0; 1 T1 a plain store x=1; 2 T2 an atomic load of 0
abbrev pub plain_against_atomic : Candidate
plain_against_atomic =
    drawing
    (2 ∷ [])
    (store 0 0 0 ∷ store 1 0 1 ∷ loads Relaxed 2 0 0 ∷ [])
    3
    []
    ((0 ⟶ 1) ∷ (0 ⟶ 2) ∷ [])
    []
    ((0 ⟶ 2) ∷ [])
    []
    ((0 ⟶ 1) ∷ [])

-- x atomic, all of x seq_cst: 0 T0 store x=0; 1 T1 store x=1; 2 T2 reads x=1; and 3 T3 a plain store y=1 that nothing orders
abbrev pub strong_message : Candidate
strong_message =
    drawing
    (2 ∷ 1 ∷ [])
    (stores SeqCst 0 0 0 ∷ stores SeqCst 1 0 1 ∷ loads SeqCst 2 0 1 ∷ store 3 1 1 ∷ [])
    4
    []
    ((0 ⟶ 1) ∷ (0 ⟶ 2) ∷ [])
    []
    ((1 ⟶ 2) ∷ [])
    (in_turn (0 ∷ 1 ∷ 2 ∷ []))
    ((0 ⟶ 1) ∷ [])

-- ---- edition 2, for request Q-6

-- the same drawing as a candidate of edition 2
abbrev pub revised : Candidate → Candidate
revised X =
    record {
      edition = 2;
      n = X.n;
      t = X.t;
      p = X.p;
      places = X.places;
      acts = X.acts;
      sb = X.sb;
      asw = X.asw;
      dd = X.dd;
      cd = X.cd;
      rf = X.rf;
      sc = X.sc;
      mo = X.mo;
    }

-- at x, atomic: actions, threads, sb, asw, rf, mo
abbrev at_x : List Action → ℕ → List Edge → List Edge → List Edge → List Edge → Candidate
at_x acts t sb asw rf mo = revised (drawing (2 ∷ []) acts t sb asw [] rf [] mo)

-- 0 T0 x=1; 1 T1 reads it, though nothing leads from 0 to 1
abbrev pub unseen_source : Candidate
unseen_source = at_x (stores Relaxed 0 0 1 ∷ loads Relaxed 1 0 1 ∷ []) 2 [] [] ((0 ⟶ 1) ∷ []) []

-- the same with an RMW, which goes by mo alone
abbrev pub unseen_rmw : Candidate
unseen_rmw = at_x (stores Relaxed 0 0 1 ∷ rmws Relaxed 1 0 1 2 ∷ []) 2 [] [] ((0 ⟶ 1) ∷ []) ((0 ⟶ 1) ∷ [])

-- and with one that reads from nothing
abbrev pub rmw_of_nothing : Candidate
rmw_of_nothing = at_x (stores Relaxed 0 0 1 ∷ rmws Relaxed 1 0 1 2 ∷ []) 2 [] [] [] ((0 ⟶ 1) ∷ [])

-- 0 T0 store x=0; 1 T1 reads what 2 T1, its own later store, writes
abbrev pub reads_its_future : Candidate
reads_its_future =
    at_x (store 0 0 0 ∷ loads Relaxed 1 0 1 ∷ stores Relaxed 1 0 1 ∷ []) 2 ((1 ⟶ 2) ∷ []) ((0 ⟶ 1) ∷ []) ((2 ⟶ 1) ∷ []) ((0 ⟶ 2) ∷ [])

-- 0, 1 T0 store x=0, x=1, but mo has 1 before 0
abbrev pub mo_turned : Candidate
mo_turned = at_x (stores Relaxed 0 0 0 ∷ stores Relaxed 0 0 1 ∷ []) 1 ((0 ⟶ 1) ∷ []) [] [] ((1 ⟶ 0) ∷ [])

-- 0, 1 T0 store x=0, x=1, and 2 T0 reads 0
abbrev pub stale_read : Candidate
stale_read =
    at_x (stores Relaxed 0 0 0 ∷ stores Relaxed 0 0 1 ∷ loads Relaxed 0 0 0 ∷ []) 1 (in_turn (0 ∷ 1 ∷ 2 ∷ [])) [] ((0 ⟶ 2) ∷ []) ((0 ⟶ 1) ∷ [])

-- 0 T0 store x=0; 1 T1 reads what 3 T2 writes after 2 T1, which comes after 1
abbrev pub reads_past_its_write : Candidate
reads_past_its_write =
    at_x
    (store 0 0 0 ∷ loads Relaxed 1 0 2 ∷ stores Relaxed 1 0 1 ∷ stores Relaxed 2 0 2 ∷ [])
    3
    ((1 ⟶ 2) ∷ [])
    ((0 ⟶ 1) ∷ (0 ⟶ 3) ∷ [])
    ((3 ⟶ 1) ∷ [])
    (in_turn (0 ∷ 2 ∷ 3 ∷ []))

-- 0 T0 store x=0; 1 T1 x=1; 2 T2 reads 1, and then 3 T2 reads 0
abbrev pub reads_back : Candidate
reads_back =
    at_x
    (store 0 0 0 ∷ stores Relaxed 1 0 1 ∷ loads Relaxed 2 0 1 ∷ loads Relaxed 2 0 0 ∷ [])
    3
    ((2 ⟶ 3) ∷ [])
    ((0 ⟶ 1) ∷ (0 ⟶ 2) ∷ [])
    ((1 ⟶ 2) ∷ (0 ⟶ 3) ∷ [])
    ((0 ⟶ 1) ∷ [])

-- ---- edition 2, for request Q-7

-- d non-atomic, f atomic. T0: 0 store d=0, 1 store f=0, 2 store d=1, 3 seq_cst f=1; T1: 4 seq_cst load f=1, 5 load d=1; sb 4→5; asw 1→4; mo 1→3;
-- rf 3→4, 2→5; sc 3→4. (Here: sb of T0, and what comes after with its asw and rf; d is place 0, f place 1.)
abbrev ring_of : List Edge → List Action → List Edge → List Edge → Candidate
ring_of sb after asw rf =
    drawing
    (1 ∷ 2 ∷ [])
    ((store 0 0 0 ∷ store 0 1 0 ∷ store 0 0 1 ∷ stores SeqCst 0 1 1 ∷ loads SeqCst 1 1 1 ∷ load 1 0 1 ∷ []) ++ after)
    3
    (sb ++ (4 ⟶ 5) ∷ [])
    ((1 ⟶ 4) ∷ asw)
    []
    ((3 ⟶ 4) ∷ (2 ⟶ 5) ∷ rf)
    ((3 ⟶ 4) ∷ [])
    ((1 ⟶ 3) ∷ [])

-- a ring set up by plain stores
abbrev pub ring : Candidate
ring = ring_of (in_turn (0 ∷ 1 ∷ 2 ∷ 3 ∷ [])) [] [] []

-- the same, but nothing sequences 1 with 2 and 3, of which 3 is an atomic access of f
abbrev pub ring_loose : Candidate
ring_loose = ring_of ((0 ⟶ 1) ∷ in_turn (0 ∷ 2 ∷ 3 ∷ [])) [] [] []

-- the ring, and then 6 T2 a plain load of f=1 after 5
abbrev pub ring_read_after : Candidate
ring_read_after = ring_of (in_turn (0 ∷ 1 ∷ 2 ∷ 3 ∷ [])) (load 2 1 1 ∷ []) ((5 ⟶ 6) ∷ []) ((3 ⟶ 6) ∷ [])

-- x, y atomic, one thread: 0 store x=0; 1 store x=1, then 2 seq_cst y=1; and 3 a seq_cst load of x=0, which sc alone puts after 2
abbrev pub stale_in_thread : Candidate
stale_in_thread =
    drawing
    (2 ∷ 2 ∷ [])
    (store 0 0 0 ∷ store 0 0 1 ∷ stores SeqCst 0 1 1 ∷ loads SeqCst 0 0 0 ∷ [])
    1
    (in_turn (0 ∷ 1 ∷ 2 ∷ []) ++ (0 ⟶ 3) ∷ [])
    []
    []
    ((0 ⟶ 3) ∷ [])
    ((2 ⟶ 3) ∷ [])
    ((0 ⟶ 1) ∷ [])

-- ---- the tables

-- verdict; indeterminate reads, unsequenced races, data races; the order, if one is given
pub record Said : Type 0 where
  pub judged : Judged
  pub order : List ℕ

abbrev said : Verdict → ℕ → ℕ → OrderPart → List ℕ → Said
said v bare races part o =
    record {
      judged = record { verdict = v; indeterminate = bare; unsequenced = 0; races = races; order = part };
      order = o;
    }

-- refusal 10 beside a verdict with so many data races
abbrev no_order : Verdict → ℕ → Said
no_order v races = said v 0 races Refused []

-- and with a read that has no source
abbrev no_source : Verdict → Said
no_source v = said v 1 0 Refused []

-- passed with no race, and an order
abbrev in_order : List ℕ → Said
in_order o = said Passed 0 0 Given o

pub record Line : Type 0 where
  pub drawn : Candidate
  pub due : Said

infixr 68 ◌↣◌
abbrev ◌↣◌ : Candidate → Said → Line
X ↣ w = record { drawn = X; due = w }

-- by edition 1
abbrev pub first_table : List Line
first_table =
    (A ↣ in_order [])
    ∷ (B ↣ no_order Passed 0)
    ∷ (C ↣ no_order (Broken 19 5 5 None) 1)
    ∷ (D ↣ no_order Passed 1)
    ∷ (E ↣ no_order Passed 0)
    ∷ (F ↣ no_order (Broken 19 5 5 None) 1)
    ∷ (G ↣ no_order (Broken 23 0 5 None) 0)
    ∷ (H ↣ no_order Passed 0)
    ∷ (I ↣ in_order (0 ∷ 1 ∷ 2 ∷ 3 ∷ 4 ∷ 5 ∷ 6 ∷ []))
    ∷ (J ↣ no_order (Broken 7 3 3 None) 1)
    ∷ (K ↣ in_order (1 ∷ 0 ∷ []))
    ∷ (L ↣ no_order (Broken 22 0 2 None) 0)
    ∷ (two_places ↣ no_order Passed 0)
    ∷ (gap_in_sb ↣ no_order (Broken 4 0 4 (Some 2)) 0)
    ∷ (loop_in_sb ↣ no_order (Broken 4 0 0 None) 0)
    ∷ (gap_in_turns ↣ no_order (Broken 6 0 3 (Some 2)) 0)
    ∷ (gap_in_sc ↣ no_order (Broken 10 0 1 (Some 2)) 0)
    ∷ (gap_in_mo ↣ no_order (Broken 14 0 2 (Some 1)) 0)
    ∷ (one_place ↣ no_order (Broken 26 0 5 None) 0)
    ∷ (load_buffering ↣ no_order Passed 0)
    ∷ (sequence_broken ↣ no_order (Broken 19 5 5 None) 1)
    ∷ (plain_against_atomic ↣ no_order Passed 1)
    ∷ (strong_message ↣ in_order (0 ∷ 1 ∷ 2 ∷ 3 ∷ []))
    ∷ (ring ↣ no_order Passed 0)
    ∷ []

-- by edition 2
abbrev pub final_table : List Line
final_table =
    (revised A ↣ in_order [])
    ∷ (revised B ↣ no_order Passed 0)
    ∷ (revised C ↣ no_order (Broken 29 2 5 None) 1)
    ∷ (revised D ↣ no_order Passed 1)
    ∷ (revised E ↣ no_order Passed 0)
    ∷ (revised F ↣ no_order (Broken 29 2 5 None) 1)
    ∷ (revised G ↣ no_order (Broken 32 0 5 None) 0)
    ∷ (revised H ↣ no_order (Broken 32 0 5 None) 0)
    ∷ (revised I ↣ in_order (0 ∷ 1 ∷ 2 ∷ 3 ∷ 4 ∷ 5 ∷ 6 ∷ []))
    ∷ (revised J ↣ no_order (Broken 7 3 3 None) 1)
    ∷ (revised K ↣ in_order (1 ∷ 0 ∷ []))
    ∷ (revised L ↣ no_order (Broken 31 0 2 None) 0)
    ∷ (unseen_source ↣ no_order (Broken 28 1 1 None) 0)
    ∷ (unseen_rmw ↣ no_order Passed 0)
    ∷ (rmw_of_nothing ↣ no_source (Broken 31 0 1 None))
    ∷ (reads_its_future ↣ no_order (Broken 30 2 1 None) 0)
    ∷ (mo_turned ↣ no_order (Broken 33 0 1 None) 0)
    ∷ (stale_read ↣ no_order (Broken 34 0 2 None) 0)
    ∷ (reads_past_its_write ↣ no_order (Broken 35 3 1 None) 0)
    ∷ (reads_back ↣ no_order (Broken 36 2 3 None) 0)
    ∷ (revised ring ↣ in_order (0 ∷ 1 ∷ 2 ∷ 3 ∷ 4 ∷ 5 ∷ []))
    ∷ (revised ring_loose ↣ no_order Passed 0)
    ∷ (revised ring_read_after ↣ in_order (0 ∷ 1 ∷ 2 ∷ 3 ∷ 4 ∷ 5 ∷ 6 ∷ []))
    ∷ (revised stale_in_thread ↣ no_order Passed 0)
    ∷ []

-- all that is opened to compute an answer
unfoldable pub computing : ℕ
unfolding any all least count sum via bit number listed word book_from hrs rs sw cad dob ithb hb vse vsse data_races unsequenced_races derived entered rules rule1 rule2 rule3 rule4 rule5 rule6 rule7 rule8 rule9 rule10 rule11 rule12 rule13 rule14 rule15 rule16 rule17 rule18 rule19 rule20 rule21 rule22 rule23 rule24 rule25 rule26 rule27 rule28 rule29 rule30 rule31 rule32 rule33 rule34 rule35 rule36 middle tested loose lowest verdict due next greedy order_of judged_of action_ok to_others well_formed
computing = 0

-- each drawing of a table is judged as the paper and the requests say,
abbrev pub Judges : List Line → Type 0
Judges lines = map (λ l. record { judged = judged_of l.drawn; order = order_of l.drawn }) lines ≡ map (λ l. l.due) lines

-- and each is a candidate that the reader would take
abbrev pub Formed : List Line → Type 0
Formed lines = map (λ l. well_formed l.drawn) lines ≡ map (λ l. true) lines

pub judged : Judges first_table
unfolding computing
judged = refl

pub judged_final : Judges final_table
unfolding computing
judged_final = refl

pub formed : Formed first_table × Formed final_table
unfolding computing
formed = (refl, refl)
