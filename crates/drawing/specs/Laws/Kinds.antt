-- Two bytes are taken as a kind and its order exactly if they are the numbers of one, and of that one.
use Rattle.std.specs.Prelude.{ℕ, ◌%◌, ◌≡◌, refl, true, eqb}
use Rattle.std.proofs.Common.{ap, eqb-true, eq-eqb}
use Rattle.rows.specs.Laws.Truth.{both_true}
use Rattle.model.specs.declared.MemoryOrder.{MemoryOrder}
use Rattle.model.specs.declared.MemoryOrder.TheVariants.{Relaxed, Consume, Acquire, Release, AcqRel, SeqCst}
use Rattle.model.specs.declared.ActionKind.{ActionKind}
use Rattle.model.specs.declared.ActionKind.TheVariants.{Lock, Unlock, AtomicLoad, AtomicStore, ReadModifyWrite, Load, Store, Fence}
use Rattle.model.specs.Actions.{order_number, kind_number, order_in}
use Rattle.drawing.specs.Files.{order_of, kind_of, kind_ok}

order_found : (m : MemoryOrder) → order_of (order_number m) ≡ m
unfolding order_of
order_found Relaxed = refl
order_found Consume = refl
order_found Acquire = refl
order_found Release = refl
order_found AcqRel = refl
order_found SeqCst = refl

-- the numbers of a kind give that kind
pub kind_found : (w : ActionKind) → kind_of (kind_number w) (order_in w) ≡ w
unfolding kind_of
kind_found Lock = refl
kind_found Unlock = refl
kind_found (AtomicLoad m) = ap AtomicLoad (order_found m)
kind_found (AtomicStore m) = ap AtomicStore (order_found m)
kind_found (ReadModifyWrite m) = ap ReadModifyWrite (order_found m)
kind_found Load = refl
kind_found Store = refl
kind_found (Fence m) = ap Fence (order_found m)

-- and they are taken
pub kind_taken : (w : ActionKind) → kind_ok (kind_number w) (order_in w) ≡ true
unfolding kind_ok
kind_taken w = rw (kind_found w, eq-eqb (kind_number w) (kind_number w) refl, eq-eqb (order_in w) (order_in w) refl)

-- numbers that are taken are those of the kind that they give
pub kind_again : (k o : ℕ) → kind_ok k o ≡ true → (kind_number (kind_of k o) ≡ k) × (order_in (kind_of k o) ≡ o)
unfolding kind_ok
kind_again k o e =
    let b = both_true (eqb (kind_number (kind_of k o)) k) (eqb (order_in (kind_of k o)) o) e in
    (eqb-true _ _ b.0, eqb-true _ _ b.1)

-- ---- in a byte each

order_byte : (m : MemoryOrder) → order_number m % 256 ≡ order_number m
order_byte Relaxed = refl
order_byte Consume = refl
order_byte Acquire = refl
order_byte Release = refl
order_byte AcqRel = refl
order_byte SeqCst = refl

-- the numbers of a kind are bytes
pub kind_bytes : (w : ActionKind) → (kind_number w % 256 ≡ kind_number w) × (order_in w % 256 ≡ order_in w)
kind_bytes Lock = (refl, refl)
kind_bytes Unlock = (refl, refl)
kind_bytes (AtomicLoad m) = (refl, order_byte m)
kind_bytes (AtomicStore m) = (refl, order_byte m)
kind_bytes (ReadModifyWrite m) = (refl, order_byte m)
kind_bytes Load = (refl, refl)
kind_bytes Store = (refl, refl)
kind_bytes (Fence m) = (refl, order_byte m)
