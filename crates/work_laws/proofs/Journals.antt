-- After every sound journal of a stack with a binding: which turns lower the work, and what others add.
use Rattle.std.proofs.Common.{◌≡◌, ℕ, ◌+◌, ◌≤◌, ◌⊎◌, inl, inr, Bool, true, List, length, refl, arith, ap, sym, ◌∙◌}
use Rattle.ndis_base.specs.declared.Phase.{Phase}
use Rattle.ndis_base.specs.declared.Phase.TheVariants.{Halted, Paused, Restarting, Running, Pausing}
use Rattle.journal_types.specs.declared.Event.{Event}
use Rattle.journal_types.specs.declared.Event.TheVariants as event
use Rattle.journal_types.specs.declared.Reply.TheVariants as reply
use Rattle.journal_types.specs.declared.StackHead.{StackHead}
use Rattle.journal_types.specs.declared.Turn.{Turn}
use Rattle.stack_rules.specs.declared.Choice.{Choice}
use Rattle.stack_rules.specs.Net.{Net, after_turn, seen}
use Rattle.stack_rules.specs.Outcome.{Outcome}
use Rattle.stack_rules.specs.Sound.{outcome, Sound}
use Rattle.stack_rules.specs.Work.{bottom, work}
use Rattle.place_laws.specs.Kept.{IsInPlace}
use Rattle.work_laws.specs.Bounds.{receive_room, is_give_back, is_cancelling, is_done, is_transmit, is_drain, EachLowers, EachLowersWhileStill, EachPumpLowers, EachBoundAdds, EachQuietAddsNothing}
use Rattle.work_laws.proofs.Halted.{HasNothing, is_silent, nothing_while_halted, pump_rests, drain_rests, silent_turn}
use Rattle.work_laws.proofs.InPlace.{all_in_place}
use Rattle.work_laws.proofs.Movements.{EachAddsInPlace, each_pump, each_drain, each_still_drain, each_cancel, each_give_back, each_done, each_transmit, each_drain_adds, each_quiet_transmit}

-- a sound journal leaves a stack that has nothing, or in which everything stands in its place
placed_or_nothing : (head : StackHead) (turns : List Turn) → Sound head turns → 1 ≤ length head.bindings → HasNothing (seen head turns) ⊎ IsInPlace (seen head turns)
placed_or_nothing head turns s bound = by (seen head turns).phase refl
  where
    by : (p : Phase) → (seen head turns).phase ≡ p → HasNothing (seen head turns) ⊎ IsInPlace (seen head turns)
    by Halted e = inl (nothing_while_halted head turns s e)
    by Paused e = inr (all_in_place head turns s bound (λ h. cc))
    by Restarting e = inr (all_in_place head turns s bound (λ h. cc))
    by Running e = inr (all_in_place head turns s bound (λ h. cc))
    by Pausing e = inr (all_in_place head turns s bound (λ h. cc))

-- while the stack has nothing, neither a pump nor a drain moves anything
no_pump : (net : Net) (e : Event) (c : Choice) → HasNothing net → e ≡ event.Pump → (outcome net e c).reply ≡ reply.Moved → ⊥
no_pump net event.Pump c h e m = let idle : (outcome net event.Pump c).reply ≡ reply.Idle = ap (λ (o : Outcome). o.reply) (pump_rests net c.keeps h) in cc
no_pump net _ c h e m = cc

no_drain : (net : Net) (e : Event) (c : Choice) → HasNothing net → e ≡ event.Drain → (outcome net e c).reply ≡ reply.Moved → ⊥
no_drain net event.Drain c h e m = let idle : (outcome net event.Drain c).reply ≡ reply.Idle = ap (λ (o : Outcome). o.reply) (drain_rests net c.keeps h) in cc
no_drain net _ c h e m = cc

-- pumps and drains lower the work
pub sound_pump : EachPumpLowers
sound_pump head turns turn s bound n e m = by (placed_or_nothing head turns s bound)
  where
    by : HasNothing (seen head turns) ⊎ IsInPlace (seen head turns) → work (after_turn (seen head turns) turn) + 1 ≤ work (seen head turns)
    by (inl h) = absurd (no_pump (seen head turns) turn.event n.choice h e (sym n.reply ∙ m))
    by (inr h) = each_pump (seen head turns) turn h n e m

pub sound_drain : EachLowers event.Drain
sound_drain head turns turn s bound n e m q = by (placed_or_nothing head turns s bound)
  where
    by : HasNothing (seen head turns) ⊎ IsInPlace (seen head turns) → work (after_turn (seen head turns) turn) + 1 ≤ work (seen head turns)
    by (inl h) = absurd (no_drain (seen head turns) turn.event n.choice h e (sym n.reply ∙ m))
    by (inr h) = each_drain (seen head turns) turn h n e m q

pub sound_still_drain : EachLowersWhileStill event.Drain
sound_still_drain head turns turn s bound still n e m = by (placed_or_nothing head turns s bound)
  where
    by : HasNothing (seen head turns) ⊎ IsInPlace (seen head turns) → work (after_turn (seen head turns) turn) + 1 ≤ work (seen head turns)
    by (inl h) = absurd (no_drain (seen head turns) turn.event n.choice h e (sym n.reply ∙ m))
    by (inr h) = each_still_drain (seen head turns) turn h still n e m

-- an event that writes nothing while the stack has nothing
abbrev AreSilent : (Event → Bool) → Type 0
AreSilent test = (e : Event) → test e ≡ true → is_silent e ≡ true

-- events that are silent then, and add little where everything stands in its place
sound_adds : (test : Event → Bool) (room : Net → ℕ) → AreSilent test → EachAddsInPlace test room → EachBoundAdds test room
sound_adds test room silent adds head turns turn s bound n q = by (placed_or_nothing head turns s bound)
  where
    by : HasNothing (seen head turns) ⊎ IsInPlace (seen head turns) → work (after_turn (seen head turns) turn) ≤ work (seen head turns) + room (seen head turns)
    by (inl h) = let same : work (after_turn (seen head turns) turn) ≡ work (seen head turns) = ap work (silent_turn (seen head turns) turn h n (silent turn.event q)) in omega (arith, same)
    by (inr h) = adds (seen head turns) turn h n q

-- returns, cancels, transmits and drains are silent
give_back_silent : AreSilent is_give_back
give_back_silent (event.GiveBack binding list) q = refl
give_back_silent _ q = cc

cancel_silent : AreSilent is_cancelling
cancel_silent (event.Cancel id) q = refl
cancel_silent _ q = cc

done_silent : AreSilent is_done
done_silent (event.CrossDone message status) q = refl
done_silent _ q = cc

transmit_silent : AreSilent is_transmit
transmit_silent event.Transmit q = refl
transmit_silent _ q = cc

drain_silent : AreSilent is_drain
drain_silent event.Drain q = refl
drain_silent _ q = cc

-- what they add
pub sound_give_back : EachBoundAdds is_give_back (λ net. 0)
sound_give_back = sound_adds is_give_back (λ net. 0) give_back_silent each_give_back

pub sound_cancel : EachBoundAdds is_cancelling (λ net. 0)
sound_cancel = sound_adds is_cancelling (λ net. 0) cancel_silent each_cancel

pub sound_done : EachBoundAdds is_done (λ net. bottom net)
sound_done = sound_adds is_done (λ net. bottom net) done_silent each_done

pub sound_transmit : EachBoundAdds is_transmit receive_room
sound_transmit = sound_adds is_transmit receive_room transmit_silent each_transmit

pub sound_drain_adds : EachBoundAdds is_drain receive_room
sound_drain_adds = sound_adds is_drain receive_room drain_silent each_drain_adds

pub sound_quiet_transmit : EachQuietAddsNothing is_transmit
sound_quiet_transmit head turns turn s bound n q o = by (placed_or_nothing head turns s bound)
  where
    by : HasNothing (seen head turns) ⊎ IsInPlace (seen head turns) → work (after_turn (seen head turns) turn) ≤ work (seen head turns)
    by (inl h) = let same : work (after_turn (seen head turns) turn) ≡ work (seen head turns) = ap work (silent_turn (seen head turns) turn h n (transmit_silent turn.event q)) in omega (arith, same)
    by (inr h) = each_quiet_transmit (seen head turns) turn h n q o
