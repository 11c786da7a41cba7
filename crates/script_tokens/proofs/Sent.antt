-- Sends of the usual form are the calls that their members tell.
use Rattle.std.proofs.Common.{◌≡◌, ℕ, Bool, List, length, true, Option, Some, None, unwrap_or, Ok}
use Rattle.serde_json.specs.Data.{Data, unsigned, number, object}
use Rattle.script_types.specs.declared.CallKind.TheVariants as ask
use Rattle.script_types.specs.declared.StackSetup.{StackSetup}
use Rattle.script_forms.specs.Call.{call_in}
use Rattle.script_forms.specs.Stack.{bindings_at}
use Rattle.script_forms.specs.Values.{frames_in, place_in}
use Rattle.script_tokens.specs.Usual.{pumped_members, send_members}

pub send-is : (pump : Option Bool) (pumped : Bool) → pumped ≡ unwrap_or pump true → (lanes : ℕ) (stacks : List StackSetup) (lane stack binding : ℕ) (d : Data) (frames : List (List ℕ))
    → place_in 7 lanes (number (unsigned lane)) ≡ Ok lane → place_in 3 (length stacks) (number (unsigned stack)) ≡ Ok stack
    → place_in 7 (length (bindings_at stacks stack)) (number (unsigned binding)) ≡ Ok binding → frames_in d ≡ Ok frames
    → call_in lanes stacks (object (pumped_members pump (send_members lane stack binding d))) ≡ Ok (record { lane = record { 0 = lane }; stack = stack; pump = pumped; kind = ask.Send binding None frames })
send-is None pumped same lanes stacks lane stack binding d frames in_lanes in_stacks in_bindings in_frames = rw (same, in_lanes, in_stacks, in_bindings, in_frames)
send-is (Some pump) pumped same lanes stacks lane stack binding d frames in_lanes in_stacks in_bindings in_frames = rw (same, in_lanes, in_stacks, in_bindings, in_frames)
