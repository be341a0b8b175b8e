use Rattle.rules.specs.Laws.Scan.{missed_beyond, beyond_bare}
use Rattle.rules.specs.Laws.Orders.{total_finding, bare_finding}
use Rattle.model.specs.Model.{rules}
use Rattle.desk.specs.Laws.Notes.{noted_size}
use Rattle.rows.specs.Sets.{all}
use Prim.Native.Nat.{ℕ}
use mathlib.Core.Path.{refl}
use mathlib.Core.List.{List, [], ◌∷◌}
use Rattle.rules.proofs.find.Goals as goal

-- the numbers of the arms, in their order
abbrev arms : List (List ℕ)
arms =
    (1 ∷ []) ∷ (2 ∷ []) ∷ (3 ∷ []) ∷ (4 ∷ []) ∷ (5 ∷ []) ∷ (6 ∷ 10 ∷ 14 ∷ []) ∷ (7 ∷ []) ∷ (8 ∷ []) ∷ (9 ∷ []) ∷ (11 ∷ []) ∷ (12 ∷ []) ∷ (13 ∷ []) ∷ (15 ∷ []) ∷ (16 ∷ []) ∷ (17 ∷ []) ∷ (18 ∷ []) ∷ (19 ∷ []) ∷ (20 ∷ []) ∷ (21 ∷ []) ∷ (22 ∷ []) ∷ (23 ∷ []) ∷ (24 ∷ []) ∷ (25 ∷ []) ∷ (26 ∷ []) ∷ []

pub returns-in-1 : goal.returns-in-1
unfolding rules
returns-in-1 c = rw c.in-1.is λ S. bare_finding 1 _ _ _ _ _ _ c.bare.ensures.0 c.bare.ensures.1 refl c.rule1_row.ensures

pub returns-in-2 : goal.returns-in-2
unfolding rules
returns-in-2 c = rw c.in-2.is λ S. bare_finding 2 _ _ _ _ _ _ c.bare-in-2.ensures.0 c.bare-in-2.ensures.1 refl c.rule2_row.ensures

pub returns-in-3 : goal.returns-in-3
unfolding rules
returns-in-3 c = rw c.in-3.is λ S. bare_finding 3 _ _ _ _ _ _ c.bare-in-3.ensures.0 c.bare-in-3.ensures.1 refl c.rule3_row.ensures

pub returns-in-4 : goal.returns-in-4
unfolding rules
returns-in-4 c = rw c.in-4.is λ S. c.rule4_test.ensures

pub returns-in-5 : goal.returns-in-5
unfolding rules
returns-in-5 c = rw c.in-5.is λ S. bare_finding 5 _ _ _ _ _ _ c.bare-in-5.ensures.0 c.bare-in-5.ensures.1 refl c.rule5_row.ensures

pub returns-in-6 : goal.returns-in-6
returns-in-6 c =
    let s = c.args in
    λ S h l. total_finding _ _ _ _ _ c.in-6.is c.total_rule_test.ensures (noted_size s.desk.now.n s.desk.now.book.now s.desk.now.notes.now h)

pub returns-in-7 : goal.returns-in-7
unfolding rules
returns-in-7 c = rw c.in-7.is λ S. bare_finding 7 _ _ _ _ _ _ c.bare-in-7.ensures.0 c.bare-in-7.ensures.1 refl c.rule7_row.ensures

pub returns-in-8 : goal.returns-in-8
unfolding rules
returns-in-8 c = rw c.in-8.is λ S. bare_finding 8 _ _ _ _ _ _ c.bare-in-8.ensures.0 c.bare-in-8.ensures.1 refl c.rule8_row.ensures

pub returns-in-9 : goal.returns-in-9
unfolding rules
returns-in-9 c = rw c.in-9.is λ S. bare_finding 9 _ _ _ _ _ _ c.bare-in-9.ensures.0 c.bare-in-9.ensures.1 refl c.rule9_row.ensures

pub returns-in-11 : goal.returns-in-11
unfolding rules
returns-in-11 c = rw c.in-11.is λ S. bare_finding 11 _ _ _ _ _ _ c.bare-in-11.ensures.0 c.bare-in-11.ensures.1 refl c.rule11_row.ensures

pub returns-in-12 : goal.returns-in-12
unfolding rules
returns-in-12 c = rw c.in-12.is λ S. bare_finding 12 _ _ _ _ _ _ c.bare-in-12.ensures.0 c.bare-in-12.ensures.1 refl c.rule12_row.ensures

pub returns-in-13 : goal.returns-in-13
unfolding rules
returns-in-13 c = rw c.in-13.is λ S. bare_finding 13 _ _ _ _ _ _ c.bare-in-13.ensures.0 c.bare-in-13.ensures.1 refl c.rule13_row.ensures

pub returns-in-15 : goal.returns-in-15
unfolding rules
returns-in-15 c = rw c.in-15.is λ S. bare_finding 15 _ _ _ _ _ _ c.bare-in-15.ensures.0 c.bare-in-15.ensures.1 refl c.rule15_row.ensures

pub returns-in-16 : goal.returns-in-16
unfolding rules
returns-in-16 c = rw c.in-16.is λ S. bare_finding 16 _ _ _ _ _ _ c.bare-in-16.ensures.0 c.bare-in-16.ensures.1 refl c.rule16_row.ensures

pub returns-in-17 : goal.returns-in-17
unfolding rules
returns-in-17 c = rw c.in-17.is λ S. bare_finding 17 _ _ _ _ _ _ c.bare-in-17.ensures.0 c.bare-in-17.ensures.1 refl c.rule17_row.ensures

pub returns-in-18 : goal.returns-in-18
unfolding rules
returns-in-18 c = rw c.in-18.is λ S. bare_finding 18 _ _ _ _ _ _ c.bare-in-18.ensures.0 c.bare-in-18.ensures.1 refl c.rule18_row.ensures

pub returns-in-19 : goal.returns-in-19
unfolding rules
returns-in-19 c = rw c.in-19.is λ S. bare_finding 19 _ _ _ _ _ _ c.bare-in-19.ensures.0 c.bare-in-19.ensures.1 refl c.rule19_row.ensures

pub returns-in-20 : goal.returns-in-20
unfolding rules
returns-in-20 c = rw c.in-20.is λ S. bare_finding 20 _ _ _ _ _ _ c.bare-in-20.ensures.0 c.bare-in-20.ensures.1 refl c.rule20_row.ensures

pub returns-in-21 : goal.returns-in-21
unfolding rules
returns-in-21 c = rw c.in-21.is λ S. bare_finding 21 _ _ _ _ _ _ c.bare-in-21.ensures.0 c.bare-in-21.ensures.1 refl c.rule21_row.ensures

pub returns-in-22 : goal.returns-in-22
unfolding rules
returns-in-22 c = rw c.in-22.is λ S. bare_finding 22 _ _ _ _ _ _ c.bare-in-22.ensures.0 c.bare-in-22.ensures.1 refl c.rule22_row.ensures

pub returns-in-23 : goal.returns-in-23
unfolding rules
returns-in-23 c = rw c.in-23.is λ S. bare_finding 23 _ _ _ _ _ _ c.bare-in-23.ensures.0 c.bare-in-23.ensures.1 refl c.rule23_row.ensures

pub returns-in-24 : goal.returns-in-24
unfolding rules
returns-in-24 c = rw c.in-24.is λ S. bare_finding 24 _ _ _ _ _ _ c.bare-in-24.ensures.0 c.bare-in-24.ensures.1 refl c.rule24_row.ensures

pub returns-in-25 : goal.returns-in-25
unfolding rules
returns-in-25 c = rw c.in-25.is λ S. bare_finding 25 _ _ _ _ _ _ c.bare-in-25.ensures.0 c.bare-in-25.ensures.1 refl c.rule25_row.ensures

pub returns-in-26 : goal.returns-in-26
unfolding rules
returns-in-26 c = rw c.in-26.is λ S. bare_finding 26 _ _ _ _ _ _ c.bare-in-26.ensures.0 c.bare-in-26.ensures.1 refl c.rule26_row.ensures

pub returns-in_default : goal.returns-in_default
unfolding all
returns-in_default c = λ S.
    let k = c.args.rule in
    let past = missed_beyond k arms tt c.in_default.in_default-own.rest in
    bare_finding k _ _ _ _ _ _ c.bare-in_default.ensures.0 c.bare-in_default.ensures.1 (beyond_bare k past) (c.row.ensures past S)
