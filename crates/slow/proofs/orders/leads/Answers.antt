use Rattle.slow.proofs.orders.leads.Goals as goal

pub returns-in-22 : goal.returns-in-22
returns-in-22 c = rw c.in-22.is c.mutex_sc.ensures

pub returns-in-23 : goal.returns-in-23
returns-in-23 c = rw c.in-23.is c.place_mo.ensures
