-- The paper's numbers of action kinds and memory orders.
use Rattle.std.specs.Prelude.{ℕ}
use Rattle.model.specs.declared.Action.{Action}
use Rattle.model.specs.declared.MemoryOrder.{MemoryOrder}
use Rattle.model.specs.declared.MemoryOrder.TheVariants.{Relaxed, Consume, Acquire, Release, AcqRel, SeqCst}
use Rattle.model.specs.declared.ActionKind.{ActionKind}
use Rattle.model.specs.declared.ActionKind.TheVariants.{Lock, Unlock, AtomicLoad, AtomicStore, ReadModifyWrite, Load, Store, Fence}

-- Orders: 0 none, 1 relaxed, 2 consume, 3 acquire, 4 release, 5 acq_rel, 6 seq_cst.
abbrev pub order_number : MemoryOrder → ℕ
order_number Relaxed = 1
order_number Consume = 2
order_number Acquire = 3
order_number Release = 4
order_number AcqRel = 5
order_number SeqCst = 6

-- Action kinds: 1 lock, 2 unlock, 3 atomic load, 4 atomic store, 5 atomic read-modify-write (RMW), 6 load, 7 store, 8 fence.
abbrev pub kind_number : ActionKind → ℕ
kind_number Lock = 1
kind_number Unlock = 2
kind_number (AtomicLoad m) = 3
kind_number (AtomicStore m) = 4
kind_number (ReadModifyWrite m) = 5
kind_number Load = 6
kind_number Store = 7
kind_number (Fence m) = 8

-- Kinds 1, 2, 6, 7 have order 0; the others 1 to 6.
abbrev pub order_in : ActionKind → ℕ
order_in Lock = 0
order_in Unlock = 0
order_in (AtomicLoad m) = order_number m
order_in (AtomicStore m) = order_number m
order_in (ReadModifyWrite m) = order_number m
order_in Load = 0
order_in Store = 0
order_in (Fence m) = order_number m

-- what is read past the end of a list of actions
abbrev pub no_action : Action
no_action = record { what = Lock; thread = 0; place = 0; read = 0; written = 0 }
