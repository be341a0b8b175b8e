use mathlib.Core.Path.{◌≡◌}
use lib.ListN.{take}
use Rattle.page.specs.Page.{page, write}
use Rattle.page.proofs.put_word.Given as goal

abbrev pub invariant-loop-b : goal.invariant-loop-b
invariant-loop-b l = page l.out l.next ≡ write l.most (page l.initial.out l.at) (take l.b-index l.word)
