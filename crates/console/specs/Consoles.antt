-- What is asked of the judge and of the writer for a machine; and the traces of the theorem. Definitions only.
use Rattle.std.specs.Prelude.{ℕ, ◌≤◌, Bool, true, not, ◌&&◌, cond, List, [], ◌∷◌, ◌≡◌, T, eqb, ltb, length, Ok}
use Rattle.rows.specs.Sets.{any, all, count}
use Rattle.model.specs.declared.Judged.{Judged}
use Rattle.model.specs.declared.Verdict.TheVariants.{Passed}
use Rattle.model.specs.Limits.{store_length, order_length}
use Rattle.model.specs.declared.refusals.Reason.TheVariants.{ShortBuffer}
use Rattle.model.specs.Refusals.{Answer, Passed as Good, Refused, Saved}
use Rattle.drawing.specs.Files.{short_of, file_of}
use Rattle.second.specs.Door.{Answers}
use Rattle.writer.specs.Saves.{Told}
use Rattle.machine.specs.declared.Step.{Step}
use Rattle.machine.specs.Machine.{is_kind, is_order, State, thread_at, place_at, owner, start, run, candidate}

-- ---- the calls

-- 9 where the store or the order buffer is too short; else the second door's answer to the candidate, the store with all its relations, and the order
abbrev pub JudgesMachine : State → List ℕ → List ℕ → Answer → List ℕ → List ℕ → Type 0
JudgesMachine σ s o r s' o' = Answers (cond (short_of (length s) (length o)) (Refused ShortBuffer 0) Good) (candidate σ) s o r s' o'

-- 9 where the buffer is too short; else the candidate's file in front of it
abbrev pub SavesMachine : State → List ℕ → Saved → List ℕ → Type 0
SavesMachine σ o r o' = Told (cond (ltb (length o) (length (file_of (candidate σ)))) (Refused ShortBuffer 0) Good) (file_of (candidate σ)) o r o'

-- ---- the traces of the theorem

-- f holds of every step
abbrev pub every_step : (Step → Bool) → List Step → Bool
every_step f [] = true
every_step f (s ∷ l) = f s && every_step f l

-- every action is a store of thread 0, and there is one to each place
unfoldable pub stores_first : State → Bool
stores_first σ = (all σ.n λ a. is_kind (4 ∷ []) (σ.act a).what && eqb (thread_at σ a) 0) && (all σ.p λ q. any σ.n λ a. eqb (place_at σ a) q)

-- every action is a relaxed store of thread 0, and there is just one to each place
unfoldable pub stores_once : State → Bool
stores_once σ =
    (all σ.n λ a. is_kind (4 ∷ []) (σ.act a).what && is_order (1 ∷ []) (σ.act a).what && eqb (thread_at σ a) 0)
    && (all σ.p λ q. eqb (count σ.n λ a. eqb (place_at σ a) q) 1)

-- all stores are in memory
unfoldable pub settled : State → Bool
settled σ = all σ.n λ a. not (σ.waiting a)

-- the state after thread 0's steps, and after those of the other threads
abbrev pub set_up : ℕ → ℕ → List Step → State
set_up t p first = run (start t p) first

abbrev pub ending : ℕ → ℕ → List Step → List Step → State
ending t p first rest = run (set_up t p first) rest

-- the first steps are thread 0's, all before any other thread steps
abbrev pub zero_first : List Step → List Step → Bool
zero_first first rest = every_step (λ s. eqb (owner s) 0) first && every_step (λ s. not (eqb (owner s) 0)) rest

-- Thread 0 does nothing but store to each place and drain, all before any other thread steps, and all stores are in memory at the end.
unfoldable pub prepared : ℕ → ℕ → List Step → List Step → Bool
prepared t p first rest = zero_first first rest && stores_first (set_up t p first) && settled (ending t p first rest)

-- Thread 0 does nothing but store once, relaxed, to each place and drain, all before any other thread steps, and all stores are in memory at the end.
unfoldable pub initialised : ℕ → ℕ → List Step → List Step → Bool
initialised t p first rest = zero_first first rest && stores_once (set_up t p first) && settled (ending t p first rest)

-- Then the judge, called with the machine that such a trace leads to and with room for its answer, answers passed.
abbrev pub PassesMachine : State → List ℕ → List ℕ → Answer → Type 0
PassesMachine σ s o r =
    (t p : ℕ) (first rest : List Step) → σ ≡ ending t p first rest → T (initialised t p first rest) → store_length ≤ length s → order_length ≤ length o
    → (j : Judged) × (r ≡ Ok j) × (j.verdict ≡ Passed)
