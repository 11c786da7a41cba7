-- The rows of messages between stacks fit.
use Rattle.std.proofs.Common.{◌≡◌, ℕ, not, Bool, true, false, cond, List, [], Option, Some, None, find, map, refl}
use Rattle.std.specs.List.{list_any}
use Rattle.ndis_base.specs.declared.CrossNo.{CrossNo}
use Rattle.ndis_base.specs.declared.Direction.TheVariants as direction
use Rattle.ndis_base.specs.declared.ListStatus.{ListStatus}
use Rattle.ndis_base.specs.declared.ModuleId.TheVariants.{Miniport, Binding}
use Rattle.program_types.specs.Apply.{pushed}
use Rattle.stack_rules.specs.declared.LiveList.{LiveList}
use Rattle.stack_rules.specs.declared.Message.{Message}
use Rattle.stack_rules.specs.Tests.{phase_is_running, is_running, is_virtual}
use Rattle.stack_rules.specs.Messages.{is_for}
use Rattle.stack_rules.specs.Net.{Net, lists}
use Rattle.stack_rules.specs.Places.{position, kept_lists, is_full, is_crossed}
use Rattle.stack_rules.specs.Crosses.{first_uncrossed, take_of, take_outcome, mux_binding_for, is_too_long_tagged, put_outcome, is_in_message, done_of, done_outcome, take_up_of, take_up_outcome, put_up_outcome}
use Rattle.home_laws.proofs.Fits.{Register}
use Rattle.home_laws.proofs.Agreed.{Agrees}
use Rattle.home_laws.proofs.Known.{by_test, Knows, knows_all, Each-find, framed_as, homeward_fits}
use Rattle.home_laws.proofs.Issues.{issued_fits, FitOutcome, KnowsFound, kept_known}

take_of_fits : (net : Net) (reg : Register) (o : Option LiveList) → KnowsFound reg o → FitOutcome reg (take_of net o)
take_of_fits net reg None k = tt
take_of_fits net reg (Some l) k = (framed_as reg l (k l refl), tt)

when_known : (reg : Register) (b : Bool) (o : Option LiveList) → KnowsFound reg o → KnowsFound reg (cond b o None)
when_known reg true o k l e = k l e
when_known reg false o k l e = absurd (none_some l e)
  where
    none_some : (l : LiveList) → None ≡ Some l → ⊥
    none_some l e = cc

pub take_fits : (net : Net) (reg : Register) → Agrees net reg → FitOutcome reg (take_outcome net)
take_fits net reg h =
    let test : LiveList → Bool = λ l. not (is_crossed l.crossed) in
    take_of_fits net reg (first_uncrossed net) (when_known reg (is_virtual net.head.kind) (find test (kept_lists net Miniport))
    (λ l e. Each-find (Knows reg) test (kept_lists net Miniport) l (kept_known net reg Miniport h) e))

pub put_fits : (net : Net) (reg : Register) (stack : ℕ) (message : CrossNo) (vlan : ℕ) (frames : List (List ℕ)) → Agrees net reg → FitOutcome reg (put_outcome net stack message vlan frames)
put_fits net reg stack message vlan frames h =
    by_test (FitOutcome reg) (phase_is_running net.phase) _ _
    (λ _. by_test (FitOutcome reg) (list_any (is_too_long_tagged net.head) frames) _ _
    (λ _. tt)
    (λ _. by_test (FitOutcome reg) (is_full net (Binding (mux_binding_for net.head stack))) _ _
    (λ _. tt)
    (λ _. (tt, issued_fits net reg net.next.list (Binding (mux_binding_for net.head stack)) direction.Down None (map (pushed vlan) frames) 0 [] h.next tt))))
    (λ _. tt)

done_of_fits : (net : Net) (reg : Register) (status : ListStatus) (o : Option LiveList) → KnowsFound reg o → FitOutcome reg (done_of net status o)
done_of_fits net reg status None k = tt
done_of_fits net reg status (Some l) k = homeward_fits reg net.modules l (position net.modules.order Miniport) status [] (k l refl) tt

pub done_fits : (net : Net) (reg : Register) (message : CrossNo) (status : ListStatus) → Agrees net reg → FitOutcome reg (done_outcome net message status)
done_fits net reg message status h =
    let test : LiveList → Bool = λ l. is_in_message message.0 l.crossed in
    done_of_fits net reg status (find test (lists net.things)) (λ l e. Each-find (Knows reg) test (lists net.things) l (knows_all net reg h) e)

take_up_of_fits : (net : Net) (reg : Register) (o : Option Message) → FitOutcome reg (take_up_of net o)
take_up_of_fits net reg None = tt
take_up_of_fits net reg (Some m) = (tt, tt)

pub take_up_fits : (net : Net) (reg : Register) (binding vlan : ℕ) → FitOutcome reg (take_up_outcome net binding vlan)
take_up_fits net reg binding vlan = take_up_of_fits net reg (find (is_for binding vlan) net.messages)

pub put_up_fits : (net : Net) (reg : Register) (stack : ℕ) (message : CrossNo) (frames : List (List ℕ)) → Agrees net reg → FitOutcome reg (put_up_outcome net stack message frames)
put_up_fits net reg stack message frames h =
    by_test (FitOutcome reg) (is_running net.modules.miniport) _ _
    (λ _. by_test (FitOutcome reg) (is_full net Miniport) _ _
    (λ _. tt)
    (λ _. (tt, issued_fits net reg net.next.list Miniport direction.Up None frames (position net.modules.order Miniport) [] h.next tt)))
    (λ _. tt)
