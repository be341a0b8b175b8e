-- The machine stays one that calls take.
use Rattle.machine.specs.Code.{Keeps}
use Rattle.traces.proofs.calls.full.Given as goal

abbrev pub invariant-loop : goal.invariant-loop
invariant-loop l = Keeps l.m
