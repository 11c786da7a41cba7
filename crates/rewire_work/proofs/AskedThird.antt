-- What a replacement's function asks of its last step, and what it ensures.
use Rattle.std.proofs.Common.{◌≡◌, ℕ, ◌≤◌, List, Some, None, find, sym, ap, ◌∙◌, subst}
use Rattle.ndis_base.specs.declared.FilterKind.{FilterKind}
use Rattle.journal_types.specs.declared.Event.TheVariants as event
use Rattle.journal_types.specs.declared.Refusal.{Refusal}
use Rattle.journal_types.specs.declared.Refusal.TheVariants as refusal
use Rattle.journal_types.specs.declared.Setup.{Setup}
use Rattle.flat_journal.specs.declared.types.FlatReply.{FlatReply}
use Rattle.flat_journal.specs.declared.types.FlatReply.TheVariants as flat_reply
use Rattle.flat_journal.specs.declared.types.SetupNo.{SetupNo}
use Rattle.flat_journal.specs.Payloads.{Payloads, setup_at}
use Rattle.driver_tray.specs.Tray.{TrayView}
use Rattle.book_lemmas.specs.Views.{BookView}
use Rattle.book_parts.specs.Events.{IsBook, IsIdle, IsUnmoved}
use Rattle.rewire_work.specs.Refusals.{rewire_refusal}
use Rattle.rewire_work.specs.Rested.{IsAtRest, IsRoomed}
use Rattle.rewire_work.specs.Seated.{is_kind_at, Replaces}
use Rattle.rewire_work.proofs.Begun.{roomed, begins_room, roomed_book, roomed_idle}
use Rattle.rewire_work.proofs.Causes.{paused_first}
use Rattle.rewire_work.proofs.Done.{IsDone, still_unmoved}
use Rattle.rewire_work.proofs.DoneToo.{replace_refused, replace_lacks, replace_done}
use Rattle.rewire_work.proofs.Rested.{at_rest}

-- the book with more room, and these seats and this shelf
abbrev pub both : BookView → TrayView → List (ℕ × ℕ) → List ℕ → BookView
both old t seats shelf = record { tray = t; held = record old.held { seats = seats; shelf = shelf } }

pub both_is : (old : BookView) (t : TrayView) (seats : List (ℕ × ℕ)) (shelf : List ℕ) → seats ≡ old.held.seats → shelf ≡ old.held.shelf → both old t seats shelf ≡ roomed old t
both_is old t seats shelf same also = ap (λ ss. both old t ss shelf) same ∙ ap (both old t old.held.seats) also

module _ (old : BookView) (t : TrayView) (seats : List (ℕ × ℕ)) (shelf : List ℕ) (k : IsBook old) (room : IsRoomed old.tray t) (same : seats ≡ old.held.seats) (also : shelf ≡ old.held.shelf) where
  is : both old t seats shelf ≡ roomed old t
  is = both_is old t seats shelf same also

  pub both_unmoved : IsUnmoved old (both old t seats shelf)
  both_unmoved = subst (IsUnmoved old) (sym is) (still_unmoved old t k room)

  pub both_book : IsBook (both old t seats shelf)
  both_book = subst IsBook (sym is) (roomed_book old t k (begins_room old.tray t room))

  pub both_idle : IsIdle old → IsIdle (both old t seats shelf)
  both_idle i = subst IsIdle (sym is) (roomed_idle old t i (begins_room old.tray t room))

  pub still_rest : IsIdle old → (f : ℕ) → rewire_refusal t.net f ≡ None → IsAtRest t.net
  still_rest i f e = at_rest (roomed old t) (roomed_book old t k (begins_room old.tray t room)) (roomed_idle old t i (begins_room old.tray t room)) (paused_first t.net _ e)

  pub not_replaced : IsIdle old → 1 ≤ t.room.turns → (f : ℕ) (kind : FilterKind) (setup : Setup) (cause : Refusal) → rewire_refusal t.net f ≡ Some cause
      → IsDone old (both old t seats shelf) (event.Replace f kind setup) (flat_reply.Refused cause)
  not_replaced i turns f kind setup cause e =
      subst (λ v. IsDone old v (event.Replace f kind setup) (flat_reply.Refused cause)) (sym is) (replace_refused old t f kind setup cause k i room turns e)

  pub lacks_one : IsIdle old → 1 ≤ t.room.turns → (f : ℕ) (kind : FilterKind) (setup : Setup) → rewire_refusal t.net f ≡ None
      → IsDone old (both old t seats shelf) (event.Replace f kind setup) (flat_reply.Refused refusal.ShelfEmpty)
  lacks_one i turns f kind setup e =
      subst (λ v. IsDone old v (event.Replace f kind setup) (flat_reply.Refused refusal.ShelfEmpty)) (sym is) (replace_lacks old t f kind setup k i room turns e)

  pub was_replaced : IsIdle old → 1 ≤ t.room.turns → (new : BookView) (f : ℕ) (kind : FilterKind) (setup : SetupNo) (place : ℕ) (r : FlatReply) → rewire_refusal t.net f ≡ None
      → find (is_kind_at kind old.held.filters) old.held.shelf ≡ Some place → Replaces f kind (setup_at t.payloads.setups setup) place (both old t seats shelf) new r
      → IsDone old new (event.Replace f kind (setup_at old.tray.payloads.setups setup)) r
  was_replaced i turns new f kind setup place r e found done =
      let payloads : t.payloads ≡ old.tray.payloads = ap (λ (x : TrayView). x.payloads) room.same in
      replace_done old t new f kind (setup_at old.tray.payloads.setups setup) place r k i room turns e found
      (subst (λ (p : Payloads). Replaces f kind (setup_at p.setups setup) place (roomed old t) new r) payloads
      (subst (λ v. Replaces f kind (setup_at t.payloads.setups setup) place v new r) is done))
