use Rattle.std.proofs.Common.{◌∷◌, ap, ◌∙◌}
use Rattle.agenda_items.specs.Views.{kept_as}
use Rattle.driver_tray.specs.Tray.{TrayView}
use Rattle.binding_work.proofs.Firsts.{no_status, no_answer}
use Rattle.delivery_work.proofs.bindings.take_list.Goals as goal

pub unreachable-requires : goal.unreachable-requires
unreachable-requires c = no_status c.requires (ap (λ (t : TrayView). t.queue) (c.dequeue.ensures.some c.in-Some-Status.field-0 c.in-Some-Status.is)) c.in-Some-Status.field-0-is

pub unreachable-requires-in-Some-Answer : goal.unreachable-requires-in-Some-Answer
unreachable-requires-in-Some-Answer c = no_answer c.requires (ap (λ (t : TrayView). t.queue) (c.dequeue.ensures.some c.in-Some-Answer.field-0 c.in-Some-Answer.is)) c.in-Some-Answer.field-0-is

pub returns : goal.returns
returns c = c.dequeue.ensures.some c.in-Some-List.field-0 c.in-Some-List.is ∙ ap (λ i. record c.dequeue.new.self { queue = kept_as i ∷ c.dequeue.new.self.queue }) c.in-Some-List.field-0-is
