-- What a halt's function asks of its last step, and what it ensures.
use Rattle.std.proofs.Common.{◌≡◌, ℕ, ◌+◌, ◌≤◌, ◌<◌, ◌^◌, List, [], ◌∷◌, Some, None, length, refl, sym, ap, ◌∙◌, subst, arith}
use Rattle.std.proofs.lemmas.List.Elements.{All-nil, All-cons}
use Rattle.journal_types.specs.declared.Event.TheVariants as event
use Rattle.journal_types.specs.declared.Refusal.{Refusal}
use Rattle.flat_journal.specs.declared.types.FlatReply.TheVariants as flat_reply
use Rattle.stack_rules.specs.Net.{Net}
use Rattle.state_laws.specs.Shape.{AllBelow}
use Rattle.driver_tray.specs.Tray.{TrayView}
use Rattle.book_lemmas.specs.Views.{BookView}
use Rattle.book_parts.specs.Events.{IsBook, IsIdle}
use Rattle.rewire_work.specs.Rested.{IsAtRest, IsRoomed}
use Rattle.rewire_work.proofs.AskedToo.{with_shelf}
use Rattle.rewire_work.proofs.Begun.{roomed, begins_room, roomed_book, roomed_idle}
use Rattle.rewire_work.proofs.Done.{IsDone, book_is, done_at}
use Rattle.rewire_work.proofs.Rested.{at_rest}
use Rattle.halt_work.specs.Halted.{halt_refusal, shut_down, AreNumbers, MayShut, Halts}
use Rattle.halt_work.proofs.Halting.{did_not_halt, shelf_not_halted, is_paused, did_halt, shelf_halt, may_shut}
use Rattle.halt_work.proofs.Written.{halted_written}

-- the numbers of the order leave room for another one
pub are_numbers : (next : ℕ) (fs : List ℕ) → AllBelow next fs → next < 2 ^ 64 → AreNumbers fs
are_numbers next [] below fits = All-nil (λ f. f + 1 < 2 ^ 64)
are_numbers next (f ∷ fs) below fits = All-cons (λ f. f + 1 < 2 ^ 64) f fs (omega (arith, below.0, fits)) (are_numbers next fs below.1 fits)

module _ (old : BookView) (t : TrayView) (shelf : List ℕ) (k : IsBook old) (i : IsIdle old) (room : IsRoomed old.tray t) (same : shelf ≡ old.held.shelf) where
  book : IsBook (roomed old t)
  book = roomed_book old t k (begins_room old.tray t room)

  idle : IsIdle (roomed old t)
  idle = roomed_idle old t i (begins_room old.tray t room)

  at_rest_here : halt_refusal t.net ≡ None → IsAtRest t.net
  at_rest_here quiet = at_rest (roomed old t) book idle (is_paused t.net quiet)

  pub not_halted : 1 ≤ t.room.turns → (cause : Refusal) → halt_refusal t.net ≡ Some cause → IsDone old (with_shelf old t shelf) event.Halt (flat_reply.Refused cause)
  not_halted turns cause e =
      subst (λ ss. IsDone old (with_shelf old t ss) event.Halt (flat_reply.Refused cause)) (sym same)
      (done_at old t (roomed old t) (roomed old t) event.Halt (flat_reply.Refused cause) (flat_reply.Refused cause) (begins_room old.tray t room) refl refl
      (record { did = did_not_halt (roomed old t) cause book idle e; shelf = shelf_not_halted (roomed old t) cause idle; within = record {}; turn = record { room = turns } }))

  pub may_here : halt_refusal t.net ≡ None → (n : ℕ) → n ≡ length old.tray.net.modules.bindings → MayShut (with_shelf old t shelf).held t.net.modules.order
  may_here quiet n all =
      subst (λ ss. MayShut (with_shelf old t ss).held t.net.modules.order) (sym same)
      (may_shut (roomed old t) n book idle (at_rest_here quiet) quiet (all ∙ ap (λ (x : TrayView). length x.net.modules.bindings) (sym room.same)))

  pub numbers_here : halt_refusal t.net ≡ None → old.tray.net.next.filter < 2 ^ 64 → AreNumbers t.net.modules.order
  numbers_here quiet fits = are_numbers t.net.next.filter t.net.modules.order (at_rest_here quiet).wired.below (subst (λ (x : Net). x.next.filter < 2 ^ 64) (sym (ap (λ (x : TrayView). x.net) room.same)) fits)

  pub few_here : halt_refusal t.net ≡ None → length t.net.modules.order ≤ 16
  few_here quiet = (at_rest_here quiet).few

  pub was_halted : 1 ≤ t.room.turns → (new : BookView) (n : ℕ) → n ≡ length old.tray.net.modules.bindings → halt_refusal t.net ≡ None → Halts n (with_shelf old t shelf) new → IsDone old new event.Halt flat_reply.Halted
  was_halted turns new n all quiet h =
      let held_is : new.held ≡ shut_down old.held t.net.modules.order = h.held ∙ ap (λ ss. shut_down (record old.held { shelf = ss }) t.net.modules.order) same in
      let many : n ≡ length t.net.modules.bindings = all ∙ ap (λ (x : TrayView). length x.net.modules.bindings) (sym room.same) in
      let rest : IsAtRest t.net = at_rest_here quiet in
      let used = (halted_written n t.net.modules.order t).used.turns in
      done_at old t new _ event.Halt flat_reply.Halted flat_reply.Halted (begins_room old.tray t room) (book_is new _ _ h.tray held_is) refl
      (record {
        did = did_halt (roomed old t) n book idle rest quiet many;
        shelf = shelf_halt (roomed old t) n book idle rest quiet many;
        within = record {};
        turn = record { room = omega (arith, turns, used) };
      })
