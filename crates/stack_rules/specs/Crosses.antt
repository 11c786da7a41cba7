-- Messages between stacks that MUX intermediate drivers join (WDK, "NDIS MUX Intermediate Drivers"; IEEE
-- 802.1Q for the tags): what a virtual miniport was sent goes down tagged, and what a mux binding got with a
-- tag of one of its VLANs goes up without it.
use Rattle.std.specs.Prelude.{ℕ, ◌+◌, ◌==◌, not, Bool, false, List, [], ◌∷◌, Option, Some, None, if◌then◌else◌, length, nat_lt, map, find, unwrap_or}
use Rattle.std.specs.List.{list_any}
use Rattle.ndis_base.specs.declared.ModuleId.TheVariants.{Miniport, Binding}
use Rattle.ndis_base.specs.declared.Direction.TheVariants as direction
use Rattle.ndis_base.specs.declared.CrossNo.{CrossNo}
use Rattle.ndis_base.specs.declared.ListStatus.{ListStatus}
use Rattle.journal_types.specs.declared.StackHead.{StackHead}
use Rattle.journal_types.specs.declared.OutWay.TheVariants as out
use Rattle.journal_types.specs.declared.Way.TheVariants as crossing
use Rattle.journal_types.specs.declared.Row.{Row}
use Rattle.journal_types.specs.declared.Row.TheVariants as row
use Rattle.journal_types.specs.declared.Reply.TheVariants as reply
use Rattle.journal_types.specs.declared.Refusal.TheVariants as refusal
use Rattle.program_types.specs.Apply.{pushed}
use Rattle.stack_rules.specs.declared.LiveList.{LiveList}
use Rattle.stack_rules.specs.declared.Message.{Message}
use Rattle.stack_rules.specs.Tests.{phase_is_running, is_virtual, is_mux, is_running}
use Rattle.stack_rules.specs.Heads.{kind_of_binding, binding_numbers}
use Rattle.stack_rules.specs.Messages.{is_for}
use Rattle.stack_rules.specs.Net.{Net, lists}
use Rattle.stack_rules.specs.Places.{position, is_full, kept_lists, is_crossed}
use Rattle.stack_rules.specs.Targets.{onward, homeward}
use Rattle.stack_rules.specs.Outcome.{Outcome, answered, refused, root, list_no, cross_no, max_frame}
use Rattle.stack_rules.specs.Receives.{indicated}

-- the oldest list of a virtual miniport that isn't with the other stack
abbrev pub first_uncrossed : Net → Option LiveList
first_uncrossed net = if is_virtual net.head.kind then find (λ l. not (is_crossed l.crossed)) (kept_lists net Miniport) else None

abbrev pub take_of : Net → Option LiveList → Outcome
take_of net None = answered reply.Nothing
take_of net (Some l) = record {
  reply = reply.Taken (cross_no net.next.message) l.frames;
  rows = row.CrossOut (cross_no net.next.message) (out.Down l.list) l.frames ∷ [];
}

abbrev pub take_outcome : Net → Outcome
take_outcome net = take_of net (first_uncrossed net)

-- the mux binding that a virtual miniport stands on, else the lowest one
abbrev pub is_link_from : ℕ → (ℕ × ℕ × ℕ) → Bool
is_link_from stack link = link.0 == stack

abbrev pub lowest_mux : StackHead → ℕ
lowest_mux head = unwrap_or (find (λ b. is_mux (kind_of_binding head b)) (binding_numbers head)) 0

abbrev pub binding_of_link : StackHead → Option (ℕ × ℕ × ℕ) → ℕ
binding_of_link head None = lowest_mux head
binding_of_link head (Some link) = link.1

abbrev pub mux_binding_for : StackHead → ℕ → ℕ
mux_binding_for head stack = binding_of_link head (find (is_link_from stack) head.uppers)

abbrev pub is_too_long_tagged : StackHead → List ℕ → Bool
is_too_long_tagged head frame = nat_lt (max_frame head) (length frame + 4)

abbrev pub put_rows : Net → ℕ → CrossNo → ℕ → List (List ℕ) → List Row
put_rows net stack message vlan frames =
    row.CrossIn stack message crossing.Down frames
    ∷ root net net.next.list (Binding (mux_binding_for net.head stack)) direction.Down None (map (pushed vlan) frames)
    ∷ onward net.modules (list_no net.next.list) direction.Down 0
    ∷ []

abbrev pub put_outcome : Net → ℕ → CrossNo → ℕ → List (List ℕ) → Outcome
put_outcome net stack message vlan frames =
    if phase_is_running net.phase
    then (if list_any (is_too_long_tagged net.head) frames
    then refused refusal.TooLong
    else (if is_full net (Binding (mux_binding_for net.head stack))
    then refused refusal.NoList
    else record { reply = reply.Crossed (list_no net.next.list); rows = put_rows net stack message vlan frames }))
    else refused (refusal.Paused net.phase)

-- the list that was taken in a message
abbrev pub is_in_message : ℕ → Option CrossNo → Bool
is_in_message n None = false
is_in_message n (Some message) = message.0 == n

abbrev pub done_of : Net → ListStatus → Option LiveList → Outcome
done_of net status None = refused refusal.NotTaken
done_of net status (Some l) = record {
  reply = reply.Ok;
  rows = homeward net.modules l (position net.modules.order Miniport) status ∷ [];
}

abbrev pub done_outcome : Net → CrossNo → ListStatus → Outcome
done_outcome net message status = done_of net status (find (λ l. is_in_message message.0 l.crossed) (lists net.things))

abbrev pub take_up_of : Net → Option Message → Outcome
take_up_of net None = answered reply.Nothing
take_up_of net (Some m) = record {
  reply = reply.Taken (cross_no net.next.message) m.frames;
  rows = row.CrossOut (cross_no net.next.message) out.Up m.frames ∷ [];
}

abbrev pub take_up_outcome : Net → ℕ → ℕ → Outcome
take_up_outcome net binding vlan = take_up_of net (find (is_for binding vlan) net.messages)

abbrev pub put_up_outcome : Net → ℕ → CrossNo → List (List ℕ) → Outcome
put_up_outcome net stack message frames =
    if is_running net.modules.miniport
    then (if is_full net Miniport
    then refused refusal.NoList
    else record {
      reply = reply.Indicated (list_no net.next.list);
      rows = row.CrossIn stack message crossing.Up frames ∷ indicated net frames;
    })
    else refused refusal.NotRunning
