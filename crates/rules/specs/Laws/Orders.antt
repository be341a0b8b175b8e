-- The tests of an order, as the code makes them: where they offend, and the middle at the first of these.
use Rattle.std.specs.Prelude.{ℕ, ◌≤◌, ◌<◌, min, Bool, true, false, not, ◌&&◌, ◌||◌, cond, List, ◌⊎◌, ◌≡◌, refl, ltb, Option, Some, None}
use Rattle.std.proofs.Math.Bool.{and-true, and_comm, and_assoc}
use Rattle.std.proofs.Common.{inl, inr, ⊎_elim, sym, ap, ◌∙◌, le_refl, lt_of_lt_of_le, arith, lt-ltb, le-ltb}
use Rattle.std.proofs.Math.Path.{ap₂, fun_ext}
use Rattle.rows.specs.Sets.{Set, Rel, none, any, least, both, either, less, when, before, image, converse}
use Rattle.rows.specs.declared.Row.{Row}
use Rattle.rows.specs.Numbers.{size, has, held}
use Rattle.rows.specs.Laws.Sets.{before_ext, before_either}
use Rattle.rows.specs.Laws.Truth.{lt_or_le}
use Rattle.rows.proofs.Laws.Quantifiers.{any_none, any_no, least_is, least_eq, least_none, least_ext, least_under}
use Rattle.model.specs.Model.{Book, Sb, Dd, Cd, strict, total, middle, rules, rule6, rule10, rule14, deciding, tests_order, tested, middle_at}
use Rattle.model.specs.Judge.{rule}
use Rattle.model.proofs.Laws.Middles.{middle_others}
use Rattle.desk.specs.Kept.{kept}
use Rattle.rules.specs.declared.Found.{Found}
use Rattle.rules.specs.Promises.{numbered, Offences, relation, tested_by, inside_of, middle_by, told, at_first, Finds, decided, FindsTotal, FindsRule}

-- ---- the least action of a set that the code has below n

-- s has the same actions as t below n
before_at : (n : ℕ) (s t : Set) → before s n ≡ before t n → (b : ℕ) → b < n → s b ≡ t b
before_at n s t e b l = rw (lt-ltb b n l, and-true (s b), and-true (t b)) at (ap (λ (u : Set). u b) e)

pub same_least : (n m : ℕ) (s t : Set) → n ≤ m → before s n ≡ before t n → least n t ≡ min (least m s) n
same_least n m s t l e =
    least_ext n t s (λ c k. sym (before_at n s t e c k))
    ∙ least_under n m s l
    ∙ ⊎_elim (λ (k : least m s < n). rw (lt-ltb (least m s) n k) (omega arith)) (λ (k : n ≤ least m s). rw (le-ltb (least m s) n k) (omega arith)) (lt_or_le (least m s) n)

-- ---- what is given the first action of a set

module _ (n : ℕ) (s : Set) (g : ℕ → Option ℕ) where
  pub at_found : (b : ℕ) → least n s ≡ b → b < n → at_first n s g ≡ g b
  at_found b e l = rw (e, lt-ltb b n l)

  at_past : n ≤ least n s → at_first n s g ≡ None
  at_past l = rw (le-ltb (least n s) n l)

-- ---- two findings together: the first decides where both offend

module _ (n : ℕ) (s t : Set) where
  -- the first offends no later: it is the first of both
  earlier : least n s ≤ least n t → least n (either s t) ≡ least n s
  earlier h = least_eq n (either s t) (least n s) (record {
    bound = (least_is n s).bound;
    hit = λ k. rw ((least_is n s).hit k);
    miss = λ c k. rw ((least_is n s).miss c k) ((least_is n t).miss c (omega arith));
  })

  -- the second does
  later : least n t < least n s → least n (either s t) ≡ least n t
  later h = least_eq n (either s t) (least n t) (record {
    bound = (least_is n t).bound;
    hit = λ k. rw ((least_is n s).miss (least n t) h) ((least_is n t).hit k);
    miss = λ c k. rw ((least_is n s).miss c (omega arith)) ((least_is n t).miss c k);
  })

  -- what is given the first of both, where s decides and t elsewhere
  module _ (l m : ℕ → Option ℕ) where
    decided_first : least n s ≤ least n t → at_first n (either s t) (decided s l m) ≡ at_first n s l
    decided_first h = ⊎_elim
        (λ (k : least n s < n). at_found n (either s t) (decided s l m) (least n s) (earlier h) k ∙ rw ((least_is n s).hit k) (sym (at_found n s l (least n s) refl k)))
        (λ (k : n ≤ least n s). at_past n (either s t) (decided s l m) (rw (earlier h) k) ∙ sym (at_past n s l k))
        (lt_or_le (least n s) n)

    decided_second : least n t < least n s → at_first n (either s t) (decided s l m) ≡ at_first n t m
    decided_second h =
        let k : least n t < n = omega (arith, (least_is n s).bound) in
        at_found n (either s t) (decided s l m) (least n t) (later h) k ∙ rw ((least_is n s).miss (least n t) h) (sym (at_found n t m (least n t) refl k))

-- p and q are the least offences of x and y, and r tells what y tells if it offends earlier, and else what x tells
pub either_found : (n : ℕ) (ρ : Book) (s t : Set) (l m : ℕ → Option ℕ) (x y r : Found) (p q : ℕ) → n ≤ size → Finds n ρ s l x → Finds n ρ t m y
    → p ≡ least size (has x.offences) → q ≡ least size (has y.offences) → has r.offences ≡ either (has x.offences) (has y.offences)
    → told n ρ r ≡ cond (ltb q p) (told n ρ y) (told n ρ x) → Finds n ρ (either s t) (decided s l m) r
either_found n ρ s t l m x y r p q small f g ep eq row tells =
    record {
      offences = rw row (before_either n (has x.offences) (has y.offences) s t f.offences g.offences);
      middle = ap (at_first n (either s t)) tells ∙ ⊎_elim
          (λ (k : q < p). rw (lt-ltb q p k) (second k))
          (λ (k : p ≤ q). let h : least n s ≤ least n t = omega (arith, i, j) in rw (le-ltb q p k, earlier n s t h) f.middle ∙ sym (decided_first n s t l m h))
          (lt_or_le q p);
    }
  where
    i : least n s ≡ min p n
    i = rw ep (same_least n size (has x.offences) s small f.offences)

    j : least n t ≡ min q n
    j = rw eq (same_least n size (has y.offences) t small g.offences)

    second : q < p → at_first n (either s t) (told n ρ y) ≡ at_first n (either s t) (decided s l m)
    second k = ⊎_elim
        (λ (h : q < n). let first : least n t < least n s = omega (arith, i, j) in rw (later n s t first) g.middle ∙ sym (decided_second n s t l m first))
        (λ (h : n ≤ q). let past : n ≤ least n (either s t) = rw (earlier n s t (omega (arith, i, j))) (omega (arith, i)) in at_past n (either s t) (told n ρ y) past ∙ sym (at_past n (either s t) (decided s l m) past))
        (lt_or_le q n)

-- ---- the relation tested, kept to one place: what it leads to, and what leads to an action by it

module _ (ρ : Book) (w k : ℕ) (from : Set) where
  pub kept_onward : (n : ℕ) → image n (both from (ρ 18 w)) (λ c. both (ρ 19 c) (ρ k c)) ≡ image n from (kept ρ w k)
  kept_onward n = fun_ext λ b. simp and_assoc

  pub kept_leading : (b : ℕ) → both (both (both from (ρ 18 w)) (converse (ρ 19) b)) (converse (ρ k) b) ≡ both from (converse (kept ρ w k) b)
  kept_leading b = fun_ext λ c. simp and_assoc

-- ---- the middle that is told

-- the least of those in the row that lead to b, if b is not in it
pub told_by : (n : ℕ) (ρ : Book) (x : Found) (b z : ℕ) → n ≤ size → z ≡ least size (both (when (not (has x.row b)) (has x.row)) (converse (relation ρ x.tested) b)) → told n ρ x b ≡ cond (ltb z n) (Some z) None
told_by n ρ x b z small first =
    let row : Set = has x.row in
    let r : Rel = relation ρ x.tested in
    let code : Set = both (when (not (row b)) row) (converse r b) in
    let due : Set = λ c. row c && r c b && not (row b) in
    let alike : code ≡ due = fun_ext λ c. and_assoc (not (row b)) (row c) (r c b) ∙ and_comm (not (row b)) (row c && r c b) in
    let same : least n due ≡ min z n = rw first (same_least n size code due small (ap (λ (u : Set). before u n) alike)) in
    ⊎_elim
    (λ (l : z < n). let here : least n due ≡ z = omega (arith, same) in rw (here, lt-ltb z n l))
    (λ (l : n ≤ z). let past : least n due ≡ n = omega (arith, same) in rw (past, le-ltb z n l, le-ltb n n (le_refl n)))
    (lt_or_le z n)

-- of a row that leads nowhere none is told
told_none : (n : ℕ) (ρ : Book) (x : Found) → has x.row ≡ none → told n ρ x ≡ λ b. None
told_none n ρ x e = fun_ext λ b. rw (e, least_none n (λ z. false) (any_none n (λ z. false) (λ z l. refl)), le-ltb n n (le_refl n))

-- ---- the tests

-- only those apart are asked for an edge back
no_edge : (later inside row back : Bool) → (later && (inside && (not row && not (later && (inside && (not row && back)))))) ≡ (later && (inside && (not row && not back)))
no_edge true true false back = refl
no_edge true true true back = refl
no_edge true false row back = refl
no_edge false inside row back = refl

-- none is apart
pub unpaired_none : (n : ℕ) (apart back : Set) → n ≤ size → any size apart ≡ false → before apart n ≡ before (less apart (both apart back)) n
unpaired_none n apart back small empty = before_ext n apart (less apart (both apart back)) λ b l. rw (any_no size apart empty b (lt_of_lt_of_le l small))

module _ (n : ℕ) (ρ : Book) (s : Rel) (a : ℕ) where
  -- the row of a tells the middles of s
  told_middle : (x : Found) → has x.row ≡ s a → relation ρ x.tested ≡ s → told n ρ x ≡ middle n ρ s a
  unfolding middle
  told_middle x e f = ap₂ (middle_by n) e f

  pub row_found : (u : Set) (x : Found) → has x.row ≡ s a → relation ρ x.tested ≡ s → before (has x.offences) n ≡ before u n → Finds n ρ u (middle n ρ s a) x
  row_found u x e f offences = record { offences = offences; middle = ap (at_first n u) (told_middle x e f) }

  -- a total order
  pub total_by : (strictly inside row unpaired : Set) → before strictly n ≡ before (strict n ρ s a) n → row ≡ s a
      → (let apart : Set = λ b. ltb a b && inside b && not (row b) in before unpaired n ≡ before (less apart (both apart (converse s a))) n)
      → before (either (either strictly (less row inside)) unpaired) n ≡ before (total n ρ (λ _. inside) s a) n
  total_by strictly inside row unpaired h e f =
      let apart : Set = λ b. ltb a b && inside b && not (row b) in
      before_ext n (either (either strictly (less row inside)) unpaired) (total n ρ (λ _. inside) s a) λ b l.
      rw (before_at n strictly (strict n ρ s a) h b l, before_at n unpaired (less apart (both apart (converse s a))) f b l, e) (simp (and_assoc, no_edge))

-- in rule 4 the first of three decides
pub first_found : (n : ℕ) (ρ : Book) (a : ℕ) (x : Found) → let sb = strict n ρ (Sb n ρ) a in let dd = strict n ρ (Dd n ρ) a in let cd = strict n ρ (Cd n ρ) a in
    Finds n ρ (either (either sb dd) cd) (decided (either sb dd) (decided sb (middle n ρ (Sb n ρ) a) (middle n ρ (Dd n ρ) a)) (middle n ρ (Cd n ρ) a)) x
    → Finds n ρ (either (either sb dd) cd) (λ b. middle n ρ (deciding n ρ a b) a b) x
first_found n ρ a x f = rw (fun_ext λ b. three (strict n ρ (Sb n ρ) a b) (strict n ρ (Dd n ρ) a b) (λ r. middle n ρ r a b) (Sb n ρ) (Dd n ρ) (Cd n ρ)) at f
  where
    three : (s d : Bool) (g : Rel → Option ℕ) (sb dd cd : Rel) → cond (s || d) (cond s (g sb) (g dd)) (g cd) ≡ g (cond s sb (cond d dd cd))
    three true d g sb dd cd = refl
    three false true g sb dd cd = refl
    three false false g sb dd cd = refl

-- rules 6, 10 and 14
pub total_finding : (k n : ℕ) (ρ : Book) (a : ℕ) (x : Found) → (k ≡ 6) ⊎ ((k ≡ 10) ⊎ (k ≡ 14)) → FindsTotal n ρ (inside_of k n ρ a) (relation ρ (tested_by k)) a x
    → n ≤ size → Finds n ρ (rule n ρ k a) (middle_at n ρ k a) x
unfolding rules rule6 rule10 rule14 tested
total_finding k n ρ a x (inl e) f small = rw e (rw e at (f small))
total_finding k n ρ a x (inr (inl e)) f small = rw e (rw e at (f small))
total_finding k n ρ a x (inr (inr e)) f small = rw e (rw e at (f small))

-- ---- the rules that test no order

module _ (k n : ℕ) (d e : List ℕ) (a : ℕ) (offences : Row) (x : Found) (same : has x.offences ≡ has offences) (bare : has x.row ≡ none) where
  -- they have no middle
  pub bare_finding : tests_order k ≡ false → Offences (numbered k) n d e a offences → FindsRule k n d e a x
  bare_finding t h noted l = record {
    offences = rw same (h noted l);
    middle = ap (at_first n (rule n (held d) k a)) (told_none n (held d) x bare ∙ fun_ext λ b. sym (middle_others n (held d) k a b t));
  }
