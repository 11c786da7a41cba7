-- Rows onwards and homewards: the list is on its way as the row says, from the front of the queue, from those that were
-- issued in this turn, or from those that a module keeps.
use Rattle.std.proofs.Common.{◌≡◌, ℕ, List, [], ◌∷◌, ◌++◌}
use Rattle.ndis_base.specs.declared.ListStatus.{ListStatus}
use Rattle.ndis_base.specs.declared.Direction.{Direction}
use Rattle.ndis_base.specs.declared.Direction.TheVariants as direction
use Rattle.ndis_base.specs.declared.ModuleId.{ModuleId}
use Rattle.journal_types.specs.declared.PassWay.{PassWay}
use Rattle.journal_types.specs.declared.Target.{Target}
use Rattle.buffer_pools.specs.Views.{ListView}
use Rattle.stack_rules.specs.Net.{Net, Modules, after}
use Rattle.stack_rules.specs.Targets.{onward, homeward_by}
use Rattle.agenda_items.specs.declared.Carried.{Carried}
use Rattle.agenda_items.specs.declared.Carried.TheVariants.{List as a_list}
use Rattle.agenda_items.specs.Views.{passed_by}
use Rattle.hand_lemmas.specs.Hands.{Hands, Agrees, put_at}
use Rattle.hand_lemmas.proofs.Steps.{passed_first, passed_loose, passed_kept}

-- rows onwards and homewards pass the list
pub onward_first : (ms : Modules) (net : Net) (l : ListView) (was : PassWay) (from : Target) (d : Direction) (i : ℕ) (h : Hands) (queue : List Carried) → Agrees net h → h.queue ≡ a_list l was from ∷ queue
    → Agrees (after net (onward ms l.label.number d i)) (record h { queue = queue ++ passed_by l (onward ms l.label.number d i) })
onward_first ms net l was from direction.Down i h queue a e = passed_first net l was from _ _ h queue a e
onward_first ms net l was from direction.Up i h queue a e = passed_first net l was from _ _ h queue a e
onward_first ms net l was from direction.Lent i h queue a e = passed_first net l was from _ _ h queue a e

pub homeward_first : (ms : Modules) (net : Net) (l : ListView) (was : PassWay) (from : Target) (owner : ModuleId) (d : Direction) (i : ℕ) (status : ListStatus) (h : Hands) (queue : List Carried) → Agrees net h → h.queue ≡ a_list l was from ∷ queue
    → Agrees (after net (homeward_by ms l.label.number owner d i status)) (record h { queue = queue ++ passed_by l (homeward_by ms l.label.number owner d i status) })
homeward_first ms net l was from owner direction.Down i status h queue a e = passed_first net l was from _ _ h queue a e
homeward_first ms net l was from owner direction.Up i status h queue a e = passed_first net l was from _ _ h queue a e
homeward_first ms net l was from owner direction.Lent i status h queue a e = passed_first net l was from _ _ h queue a e

pub onward_loose : (ms : Modules) (net : Net) (l : ListView) (d : Direction) (i : ℕ) (h : Hands) (front back : List ListView) → Agrees net h → h.loose ≡ front ++ l ∷ back
    → Agrees (after net (onward ms l.label.number d i)) (record h { queue = h.queue ++ passed_by l (onward ms l.label.number d i); loose = front ++ back })
onward_loose ms net l direction.Down i h front back a e = passed_loose net l _ _ h front back a e
onward_loose ms net l direction.Up i h front back a e = passed_loose net l _ _ h front back a e
onward_loose ms net l direction.Lent i h front back a e = passed_loose net l _ _ h front back a e

-- a kept list goes onwards or homewards
pub onward_kept : (ms : Modules) (net : Net) (m : ModuleId) (l : ListView) (d : Direction) (i : ℕ) (h : Hands) (front back : List ListView) → Agrees net h → h.kept m ≡ front ++ l ∷ back
    → Agrees (after net (onward ms l.label.number d i)) (record h { queue = h.queue ++ passed_by l (onward ms l.label.number d i); kept = put_at m (front ++ back) h.kept })
onward_kept ms net m l direction.Down i h front back a e = passed_kept net m l _ _ h front back a e
onward_kept ms net m l direction.Up i h front back a e = passed_kept net m l _ _ h front back a e
onward_kept ms net m l direction.Lent i h front back a e = passed_kept net m l _ _ h front back a e

pub homeward_kept : (ms : Modules) (net : Net) (m : ModuleId) (l : ListView) (owner : ModuleId) (d : Direction) (i : ℕ) (status : ListStatus) (h : Hands) (front back : List ListView) → Agrees net h → h.kept m ≡ front ++ l ∷ back
    → Agrees (after net (homeward_by ms l.label.number owner d i status)) (record h { queue = h.queue ++ passed_by l (homeward_by ms l.label.number owner d i status); kept = put_at m (front ++ back) h.kept })
homeward_kept ms net m l owner direction.Down i status h front back a e = passed_kept net m l _ _ h front back a e
homeward_kept ms net m l owner direction.Up i status h front back a e = passed_kept net m l _ _ h front back a e
homeward_kept ms net m l owner direction.Lent i status h front back a e = passed_kept net m l _ _ h front back a e
