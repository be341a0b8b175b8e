-- What the first record of a good file says of its candidate.
use Rattle.std.specs.Prelude.{◌≡◌, ◌≤◌}
use Rattle.model.specs.Candidates.{Candidate}
use Rattle.model.specs.Limits.{most_actions, most_threads, most_places}
use Rattle.model.specs.declared.Header.{Header}

-- its edition, N, T and P, within the limits
pub record Heads (X : Candidate) (h : Header) : Type 0 where
  pub edition : X.edition ≡ h.edition
  pub n : X.n ≡ h.n
  pub t : X.t ≡ h.t
  pub p : X.p ≡ h.p
  pub actions : h.n ≤ most_actions
  pub threads : h.t ≤ most_threads
  pub places : h.p ≤ most_places
