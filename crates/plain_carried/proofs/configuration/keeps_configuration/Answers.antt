use Rattle.plain_carried.proofs.configuration.keeps_configuration.Goals as goal

pub returns-in-Wire : goal.returns-in-Wire
returns-in-Wire c = rw (c.in-Wire.is, ← c.root_of-in-Wire.ensures) c.is_carried_down.ensures

pub returns-in-Down : goal.returns-in-Down
returns-in-Down c = rw (c.in-CrossOut.is, c.in-Down.is, ← c.root_of-in-Down.ensures) c.is_carried_down-in-Down.ensures

pub returns-in-Deliver : goal.returns-in-Deliver
returns-in-Deliver c = rw (c.in-Deliver.is, ← c.root_of-in-Deliver.ensures) c.is_carried_up.ensures
