-- The ends of calls of the usual form.
use Rattle.std.proofs.Common.{◌≡◌, ℕ, Bool, Option, List, codes, Some, None, Ok, ◌∷◌, arith}
use Rattle.json.specs.Token.{Token}
use Rattle.json.specs.Json.{read_key}
use Rattle.serde_json.specs.Data.{Data, unsigned, number, object, Members, no_members, put}
use Rattle.json_tokens.specs.Tokens.{IsValueAt, AreMembersAt, IsMemberAt}
use Rattle.json_tokens.proofs.Steps.{object_at, no_more_members, one_more_member, member_at}
use Rattle.script_types.specs.declared.Call.{Call}
use Rattle.script_types.specs.declared.StackSetup.{StackSetup}
use Rattle.script_forms.specs.Call.{call_in}
use Rattle.script_tokens.specs.Usual.{laned_members, placed_members, pumped_members, send_members, EndsCall, EndsCallBehind}

module _ (lanes : ℕ) (stacks : List StackSetup) (call : Call) where
  -- no member follows
  pub nothing-ends : (before : Members) (ts rest : List Token) → read_key ts ≡ Some (None, rest) → call_in lanes stacks (object before) ≡ Ok call → EndsCall lanes stacks before ts rest call
  nothing-ends before ts rest over is = (before, no_more_members 124 before ts rest over, is)

  -- one more member, and then the rest
  pub member-ends : (before : Members) (name : List ℕ) (d : Data) (ts next rest : List Token) → IsMemberAt 124 ts name d next → EndsCall lanes stacks (put name d before) next rest call → EndsCall lanes stacks before ts rest call
  member-ends before name d ts next rest here ends = (ends.0, one_more_member 124 before ts name d next ends.0 rest here ends.1, ends.2)

  -- the value of a member, whose name was passed, and then the rest
  pub value-ends : (before : Members) (name : List ℕ) (d : Data) (ts next rest : List Token) → IsValueAt 124 ts d next → EndsCall lanes stacks (put name d before) next rest call → EndsCallBehind lanes stacks before name ts rest call
  value-ends before name d ts next rest here ends from named = member-ends before name d from next rest (member_at 124 from name ts d next named here) ends

  -- a send, behind the name of its binding
  pub send-ends : (lane stack binding : ℕ) (frames : Data) (pump : Option Bool) (ts t1 t2 t3 rest : List Token)
      → IsValueAt 124 ts (number (unsigned binding)) t1 → read_key t1 ≡ Some (Some (codes "frames"), t2) → IsValueAt 124 t2 frames t3
      → AreMembersAt 124 (send_members lane stack binding frames) t3 (pumped_members pump (send_members lane stack binding frames)) rest
      → call_in lanes stacks (object (pumped_members pump (send_members lane stack binding frames))) ≡ Ok call → EndsCallBehind lanes stacks (placed_members lane (codes "send") stack) (codes "binding") ts rest call
  send-ends lane stack binding frames pump ts t1 t2 t3 rest at_binding frames_named at_frames over is =
      let last : EndsCall lanes stacks (send_members lane stack binding frames) t3 rest call = (pumped_members pump (send_members lane stack binding frames), over, is) in
      let bound = put (codes "binding") (number (unsigned binding)) (placed_members lane (codes "send") stack) in
      value-ends (placed_members lane (codes "send") stack) (codes "binding") (number (unsigned binding)) ts t1 rest at_binding (value-ends bound (codes "frames") frames t2 t3 rest at_frames last t1 frames_named)

  -- a whole call, from its lane on
  pub call-whole : (lane : ℕ) (name : List ℕ) (ts t1 t2 t3 rest : List Token) → ts ≡ Token.begin_object ∷ t1
      → IsMemberAt 124 t1 (codes "lane") (number (unsigned lane)) t2 → read_key t2 ≡ Some (Some name, t3) → EndsCallBehind lanes stacks (laned_members lane) name t3 rest call
      → (d : Data) × IsValueAt 125 ts d rest × (call_in lanes stacks d ≡ Ok call)
  call-whole lane name ts t1 t2 t3 rest begun at_lane named behind =
      let ends = member-ends no_members (codes "lane") (number (unsigned lane)) t1 t2 rest at_lane (behind t2 named) in
      (object ends.0, object_at 125 ts t1 ends.0 rest (omega arith) begun ends.1, ends.2)
