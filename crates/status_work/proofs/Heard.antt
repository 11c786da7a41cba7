-- One binding after the other sees a status, and its protocol counts that.
use Rattle.std.proofs.Common.{◌≡◌, ℕ, zero, suc, ◌+◌, ◌-◌, ◌≤◌, ◌<◌, List, length, map, slice_index_or, slice_set, length-set, get_or-set_other, refl, sym, ap, ◌∙◌, subst, arith, ◌⊎◌, inl, inr}
use Rattle.std.specs.List.{All, AllWithin}
use Rattle.std.proofs.Math.Seq.{map-set}
use Rattle.std.proofs.lemmas.Bool.{cases_eq}
use Rattle.ndis_base.specs.declared.ModuleId.TheVariants.{Binding}
use Rattle.ndis_base.specs.declared.StatusNo.{StatusNo}
use Rattle.driver_views.specs.States.{ProtocolState}
use Rattle.driver_tray.specs.Tray.{TrayView, seen_at}
use Rattle.book_lemmas.specs.Views.{no_protocol}
use Rattle.binding_work.proofs.Homing.{old_at}
use Rattle.status_work.specs.Rooms.{CanHear}
use Rattle.status_work.specs.Told.{seen_by_first, heard, heard_by_first}

pub heard_length : (b : ℕ) (ss : List ProtocolState) → length (heard_by_first b ss) ≡ length ss
heard_length zero ss = refl
heard_length (suc b) ss = length-set (heard_by_first b ss) b _ ∙ heard_length b ss

-- the later ones are what they were
pub heard_above : (b j : ℕ) (ss : List ProtocolState) (d : ProtocolState) → b ≤ j → slice_index_or (heard_by_first b ss) j d ≡ slice_index_or ss j d
heard_above zero j ss d low = refl
heard_above (suc b) j ss d low = get_or-set_other (heard_by_first b ss) b j _ d (λ same. omega (arith, same, low)) ∙ heard_above b j ss d (omega (arith, low))

-- each uses one row
pub seen_rows : (b : ℕ) (number : StatusNo) (t : TrayView) → (seen_by_first b number t).room.rows ≡ t.room.rows - b
seen_rows zero number t = omega arith
seen_rows (suc b) number t = let so_far = seen_rows b number t in omega (arith, so_far)

pub seen_turns : (b : ℕ) (number : StatusNo) (t : TrayView) → (seen_by_first b number t).room.turns ≡ t.room.turns
seen_turns zero number t = refl
seen_turns (suc b) number t = seen_turns b number t

-- one more protocol can count a status
pub one_more : {P : Type 0} (f : P → ProtocolState) (items : List P) (i : ℕ) (item : P) → AllWithin CanHear (map f items) 0 i → item ≡ slice_index_or items i item → i < length items → CanHear (f item) → AllWithin CanHear (map f items) 0 (i + 1)
one_more f items i item all place within so k d low high = by_place (cases_eq k i)
  where
    by_place : (k ≡ i) ⊎ (k ≡ i → ⊥) → CanHear (slice_index_or (map f items) k d)
    by_place (inl same) = subst (λ j. CanHear (slice_index_or (map f items) j d)) (sym same) (subst CanHear (sym (old_at f items i d item within place)) so)
    by_place (inr ne) = all k d low (omega (arith, high, ne))

-- the protocol that is told next can count it
pub can_hear : {P : Type 0} (f : P → ProtocolState) (items : List P) (b : ℕ) (item : P) (ss : List ProtocolState) → map f items ≡ heard_by_first b ss → All CanHear ss → item ≡ slice_index_or items b item → b < length items → b < length ss → CanHear (f item)
can_hear f items b item ss so_far all place within below =
    subst CanHear (sym (heard_above b b ss no_protocol (omega arith)) ∙ ap (λ xs. slice_index_or xs b no_protocol) (sym so_far) ∙ old_at f items b no_protocol item within place) (all b no_protocol below)

-- and it counts it
pub hears : {P : Type 0} (f : P → ProtocolState) (items : List P) (b : ℕ) (old new : P) (ss : List ProtocolState) → map f items ≡ heard_by_first b ss → old ≡ slice_index_or items b old → b < length items → f new ≡ heard (f old)
    → map f (slice_set items b new) ≡ heard_by_first (b + 1) ss
hears f items b old new ss so_far place within same =
    let next : suc b ≡ b + 1 = omega arith in
    map-set f items b new
    ∙ ap (slice_set (map f items) b) (same ∙ ap heard (sym (old_at f items b no_protocol old within place)))
    ∙ ap (λ xs. slice_set xs b (heard (slice_index_or xs b no_protocol))) so_far
    ∙ ap (λ n. heard_by_first n ss) next

pub sees : (number : StatusNo) (b : ℕ) (t now : TrayView) → now ≡ seen_by_first b number t → seen_at now number (Binding b) ≡ seen_by_first (b + 1) number t
sees number b t now so_far =
    let next : suc b ≡ b + 1 = omega arith in
    ap (λ x. seen_at x number (Binding b)) so_far ∙ ap (λ n. seen_by_first n number t) next
