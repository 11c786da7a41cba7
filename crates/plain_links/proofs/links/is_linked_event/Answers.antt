use Rattle.plain_links.proofs.links.is_linked_event.Goals as goal

pub returns-in-CrossPut : goal.returns-in-CrossPut
returns-in-CrossPut c = rw c.in-CrossPut.is c.is_crossing_down.ensures

pub returns-in-CrossPutUp : goal.returns-in-CrossPutUp
returns-in-CrossPutUp c = rw c.in-CrossPutUp.is c.is_crossing.ensures
