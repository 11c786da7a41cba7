-- What an insertion's function asks of its last step, and what it ensures.
use Rattle.std.proofs.Common.{◌≡◌, ℕ, ◌≤◌, List, Option, Some, None, find, map, refl, sym, ap, ◌∙◌, subst}
use Rattle.std.specs.Prelude.{Result, Ok, Err, OnErr}
use Rattle.ndis_base.specs.declared.FilterKind.{FilterKind}
use Rattle.journal_types.specs.declared.Event.TheVariants as event
use Rattle.journal_types.specs.declared.Refusal.{Refusal}
use Rattle.journal_types.specs.declared.Refusal.TheVariants as refusal
use Rattle.journal_types.specs.declared.Setup.{Setup}
use Rattle.flat_journal.specs.declared.types.FlatReply.{FlatReply}
use Rattle.flat_journal.specs.declared.types.FlatReply.TheVariants as flat_reply
use Rattle.flat_journal.specs.declared.types.SetupNo.{SetupNo}
use Rattle.flat_journal.specs.Payloads.{Payloads, setup_at}
use Rattle.flat_journal.specs.Within.{SetupWithin}
use Rattle.driver_views.specs.States.{FilterState}
use Rattle.driver_tray.specs.Tray.{TrayView}
use Rattle.book_lemmas.specs.Views.{BookView}
use Rattle.book_lemmas.proofs.Goes.{used_none}
use Rattle.book_parts.specs.Events.{IsBook, IsIdle, IsUnmoved}
use Rattle.book_parts.proofs.Events.{unmoved}
use Rattle.rewire_work.specs.Refusals.{insert_refusal}
use Rattle.rewire_work.specs.Rested.{IsAtRest, IsRoomed}
use Rattle.rewire_work.specs.Seated.{is_kind_at, Inserts}
use Rattle.rewire_work.proofs.Begun.{roomed, begins_room, roomed_book, roomed_idle}
use Rattle.rewire_work.proofs.Causes.{paused_first}
use Rattle.rewire_work.proofs.Done.{IsDone, insert_refused, insert_lacks, insert_done, still_unmoved}
use Rattle.rewire_work.proofs.Rested.{at_rest}

-- the book with more room, and these seats
abbrev pub mid : BookView → TrayView → List (ℕ × ℕ) → BookView
mid old t seats = record { tray = t; held = record old.held { seats = seats } }

pub on_err_any : {A E : Type 0} (r : Result A E) (Q : Type 0) → Q → OnErr r Q
on_err_any (Ok a) Q q = record {}
on_err_any (Err e) Q q = q

pub same_unmoved : (old : BookView) → IsBook old → IsUnmoved old old
same_unmoved old k = unmoved old.tray k (record { head = refl; turns = refl; told_by = refl; net = refl; rows = refl; queue = refl; used = used_none old.tray })

module _ (old : BookView) (t : TrayView) (seats : List (ℕ × ℕ)) (k : IsBook old) (room : IsRoomed old.tray t) (same : seats ≡ old.held.seats) where
  pub mid_unmoved : IsUnmoved old (mid old t seats)
  mid_unmoved = subst (λ ss. IsUnmoved old (mid old t ss)) (sym same) (still_unmoved old t k room)

  pub mid_book : IsBook (mid old t seats)
  mid_book = subst (λ ss. IsBook (mid old t ss)) (sym same) (roomed_book old t k (begins_room old.tray t room))

  pub mid_idle : IsIdle old → IsIdle (mid old t seats)
  mid_idle i = subst (λ ss. IsIdle (mid old t ss)) (sym same) (roomed_idle old t i (begins_room old.tray t room))

  pub mid_rest : IsIdle old → (position : ℕ) → insert_refusal t.net position ≡ None → IsAtRest t.net
  mid_rest i position e = at_rest (roomed old t) (roomed_book old t k (begins_room old.tray t room)) (roomed_idle old t i (begins_room old.tray t room)) (paused_first t.net _ e)

  pub mid_setup : (setup : SetupNo) → SetupWithin old.tray.payloads setup → SetupWithin t.payloads setup
  mid_setup setup w = subst (λ p. SetupWithin p setup) (sym (ap (λ (x : TrayView). x.payloads) room.same)) w

  pub mid_refused : IsIdle old → 1 ≤ t.room.turns → (kind : FilterKind) (position : ℕ) (setup : Setup) (cause : Refusal) → insert_refusal t.net position ≡ Some cause
      → IsDone old (mid old t seats) (event.Insert kind position setup) (flat_reply.Refused cause)
  mid_refused i turns kind position setup cause e =
      subst (λ ss. IsDone old (mid old t ss) (event.Insert kind position setup) (flat_reply.Refused cause)) (sym same) (insert_refused old t kind position setup cause k i room turns e)

  pub mid_lacks : IsIdle old → 1 ≤ t.room.turns → (kind : FilterKind) (position : ℕ) (setup : Setup) → insert_refusal t.net position ≡ None
      → IsDone old (mid old t seats) (event.Insert kind position setup) (flat_reply.Refused refusal.ShelfEmpty)
  mid_lacks i turns kind position setup e =
      subst (λ ss. IsDone old (mid old t ss) (event.Insert kind position setup) (flat_reply.Refused refusal.ShelfEmpty)) (sym same) (insert_lacks old t kind position setup k i room turns e)

  pub mid_done : IsIdle old → 1 ≤ t.room.turns → (new : BookView) (kind : FilterKind) (position : ℕ) (setup : SetupNo) (place : ℕ) (r : FlatReply) → insert_refusal t.net position ≡ None
      → find (is_kind_at kind old.held.filters) old.held.shelf ≡ Some place → Inserts kind position (setup_at t.payloads.setups setup) place (mid old t seats) new r
      → IsDone old new (event.Insert kind position (setup_at old.tray.payloads.setups setup)) r
  mid_done i turns new kind position setup place r e found done =
      let payloads : t.payloads ≡ old.tray.payloads = ap (λ (x : TrayView). x.payloads) room.same in
      insert_done old t new kind position (setup_at old.tray.payloads.setups setup) place r k i room turns e found
      (subst (λ (p : Payloads). Inserts kind position (setup_at p.setups setup) place (roomed old t) new r) payloads
      (subst (λ ss. Inserts kind position (setup_at t.payloads.setups setup) place (mid old t ss) new r) same done))

-- the place that was found
pub found_there : {X : Type 0} (f : X → FilterState) (kind : FilterKind) (xs ys : List X) (shelf others : List ℕ) (r o : Option ℕ) → ys ≡ xs → others ≡ shelf → r ≡ find (is_kind_at kind (map f ys)) others → r ≡ o
    → find (is_kind_at kind (map f xs)) shelf ≡ o
found_there f kind xs ys shelf others r o same also is e = ap (λ zs. find (is_kind_at kind (map f zs)) shelf) (sym same) ∙ ap (find (is_kind_at kind (map f ys))) (sym also) ∙ sym is ∙ e
