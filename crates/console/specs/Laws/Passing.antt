-- The call of the judge: every machine's candidate is taken where there is room, and passed where its trace is as the theorem asks.
use Rattle.std.specs.Prelude.{ℕ, ◌≤◌, List, ◌≡◌, T, length, Ok}
use Rattle.std.proofs.Common.{le-ltb}
use Rattle.model.specs.declared.Judged.{Judged}
use Rattle.model.specs.declared.Verdict.TheVariants.{Passed}
use Rattle.model.specs.Limits.{store_length, order_length}
use Rattle.model.specs.Judge.{judged_of}
use Rattle.model.specs.Refusals.{Answer}
use Rattle.machine.specs.declared.Step.{Step}
use Rattle.machine.specs.Machine.{State, candidate}
use Rattle.console.specs.Consoles.{JudgesMachine, PassesMachine, ending, prepared}
use Rattle.console.specs.Laws.Sound.{initialised_prepared, prepared_passed}

-- Called with any machine and with room, the judge refuses nothing: it takes the candidate.
pub judge_takes : (σ : State) (s o : List ℕ) (r : Answer) (s' o' : List ℕ) → store_length ≤ length s → order_length ≤ length o → JudgesMachine σ s o r s' o' → r ≡ Ok (judged_of (candidate σ))
judge_takes σ s o r s' o' store_room order_room told = rw (le-ltb (length s) store_length store_room, le-ltb (length o) order_length order_room) at told.answer

-- If thread 0 did nothing but store to each place and drain, all before any other thread stepped, and all stores are in memory, then the judge, called with the machine and with room, answers passed.
pub judge_passes_prepared : (t p : ℕ) (first rest : List Step) → T (prepared t p first rest) → (s o : List ℕ) (r : Answer) (s' o' : List ℕ) → store_length ≤ length s → order_length ≤ length o → JudgesMachine (ending t p first rest) s o r s' o'
    → (j : Judged) × (r ≡ Ok j) × (j.verdict ≡ Passed)
judge_passes_prepared t p first rest asked s o r s' o' store_room order_room told =
    (judged_of (candidate (ending t p first rest)), judge_takes (ending t p first rest) s o r s' o' store_room order_room told, prepared_passed t p first rest asked)

-- As request Q-11 asks: the same, where thread 0 stored once, relaxed, to each place.
pub judge_passes : (σ : State) (s o : List ℕ) (r : Answer) (s' o' : List ℕ) → JudgesMachine σ s o r s' o' → JudgesMachine σ s o r s' o' × PassesMachine σ s o r
judge_passes σ s o r s' o' told =
    (told, λ t p first rest from asked store_room order_room. judge_passes_prepared t p first rest (initialised_prepared t p first rest asked) s o r s' o' store_room order_room (rw from at told))
