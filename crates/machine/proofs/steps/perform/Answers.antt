-- The action is noted, and memory written if it is an RMW, so the arrays hold the state after it.
use Rattle.std.proofs.Common.{ℕ, ◌≡◌, refl, ap, ◌∙◌, eqb}
use Rattle.std.proofs.Math.Bool.{or-false}
use Rattle.model.specs.Actions.{kind_number}
use Rattle.model.specs.declared.Action.{Action}
use Rattle.model.specs.declared.ActionKind.{ActionKind}
use Rattle.machine.specs.Laws.Arrays.{noted_written}
use Rattle.machine.proofs.steps.perform.Goals as goal

-- the action that is noted
abbrev action : (what : ActionKind) (thread place read written : ℕ) → Action
action what thread place read written = record { what = what; thread = thread; place = place; read = read; written = written }

pub note-requires : goal.note-requires
note-requires c =
    let a = c.args in
    let m = a.m in
    let h = c.requires in
    let k = kind_number a.what in
    let x : Action = action a.what a.thread a.place c.value_of.result a.written in
    let rmw : c.is_rmw.result ≡ eqb k 5 = c.is_rmw.ensures ∙ or-false (eqb k 5) in
    let rmw-2 : c.is_rmw-2.result ≡ eqb k 5 = c.is_rmw-2.ensures ∙ or-false (eqb k 5) in
    let store : c.is_store.result ≡ eqb k 4 = c.is_store.ensures ∙ or-false (eqb k 4) in
    let e = noted_written m x c.source_of-s.result c.only_if-b.result c.with_if-w.result c.remember-memory.result h.0 a.what k a.thread a.place a.written
    refl
    c.source_of-s.ensures
    (ap (λ (y : ℕ). action a.what a.thread a.place y a.written) c.value_of.ensures)
    (rw (c.only_if-b.ensures, rmw, c.there.ensures))
    (rw (c.with_if-w.ensures, store, c.without.ensures))
    h.2
    (rw (c.remember-memory.ensures, rmw-2)) in
    (h.0, h.2, rw e h.4)

pub returns : goal.returns
returns c =
    let a = c.args in
    let m = a.m in
    let h = c.requires in
    let k = kind_number a.what in
    let x : Action = action a.what a.thread a.place c.value_of.result a.written in
    let rmw : c.is_rmw.result ≡ eqb k 5 = c.is_rmw.ensures ∙ or-false (eqb k 5) in
    let rmw-2 : c.is_rmw-2.result ≡ eqb k 5 = c.is_rmw-2.ensures ∙ or-false (eqb k 5) in
    let store : c.is_store.result ≡ eqb k 4 = c.is_store.ensures ∙ or-false (eqb k 4) in
    c.note.ensures ∙ noted_written m x c.source_of-s.result c.only_if-b.result c.with_if-w.result c.remember-memory.result h.0 a.what k a.thread a.place a.written
    refl
    c.source_of-s.ensures
    (ap (λ (y : ℕ). action a.what a.thread a.place y a.written) c.value_of.ensures)
    (rw (c.only_if-b.ensures, rmw, c.there.ensures))
    (rw (c.with_if-w.ensures, store, c.without.ensures))
    h.2
    (rw (c.remember-memory.ensures, rmw-2))
