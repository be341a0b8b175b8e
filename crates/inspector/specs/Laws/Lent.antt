-- The actions and places of a good file, as they are lent, are those of its candidate.
use Rattle.std.specs.Prelude.{ℕ, ◌+◌, ◌-◌, List, ◌≡◌, get_or, take, drop}
use Rattle.std.proofs.Common.{sym, ap, ◌∙◌, get_or-take}
use Rattle.rows.specs.Sets.{Rel}
use Rattle.rows.specs.Numbers.{listed}
use Rattle.model.specs.Limits.{most_actions}
use Rattle.model.specs.Actions.{no_action}
use Rattle.model.specs.Words.{book_from}
use Rattle.model.specs.Laws.Books.{book_acts}
use Rattle.model.specs.declared.Action.{Action}
use Rattle.model.specs.Refusals.{Good}
use Rattle.drawing.specs.Files.{place_bytes, action_no, check_of, candidate_of}
use Rattle.drawing.proofs.Laws.Good.{Taken, good_taken}
use Rattle.drawing.proofs.Laws.Formed.{acts_lent, places_lent}

pub book_lent : (s : List ℕ) (e n t p : ℕ) (σ : ℕ → Rel) → check_of s ≡ Good e n t p
    → book_from n (listed most_actions (action_no s n p)) (take (place_bytes + p - place_bytes) (drop place_bytes s)) σ ≡ book_from n (candidate_of s).acts (candidate_of s).places σ
book_lent s e n t p σ good =
    let g : Taken s e n t p = good_taken s e n t p good in
    let list : List Action = listed most_actions (action_no s n p) in
    ap (λ (places : List ℕ). book_from n list places σ) (sym (places_lent s e n t p g))
    ∙ book_acts n list (candidate_of s).acts (candidate_of s).places σ (λ a l. sym (ap (λ (acts : List Action). get_or acts a no_action) (acts_lent s e n t p g) ∙ get_or-take n list a no_action l))
