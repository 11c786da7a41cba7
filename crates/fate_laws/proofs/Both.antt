-- The fate of sends and the fate of receives are the promise as a whole.
use Rattle.std.proofs.Common.{◌≡◌, ◌&&◌, Bool, true, false, List, [], ◌∷◌, refl}
use Rattle.std.specs.List.{list_all}
use Rattle.ndis_base.specs.declared.Direction.TheVariants as direction
use Rattle.ndis_base.specs.declared.Origin.TheVariants as origin
use Rattle.journal_types.specs.declared.Row.{Row}
use Rattle.journal_types.specs.declared.Row.TheVariants as row
use Rattle.journal_types.specs.declared.StackHead.{StackHead}
use Rattle.journal_types.specs.declared.Turn.{Turn}
use Rattle.promise_rules.specs.Rows.{all_rows}
use Rattle.promise_rules.specs.Fates.{has_fate_at}
use Rattle.send_fates.specs.Sends.{has_fate_below}
use Rattle.send_fates.proofs.Chain.{each_send_meets_its_fate}
use Rattle.receive_fates.specs.Received.{is_received_at}
use Rattle.receive_fates.proofs.Received.{each_is_received}
use Rattle.fate_laws.specs.Fated.{AllMeetTheirFates}

and_first : (a b : Bool) → (a && b) ≡ true → a ≡ true
and_first true b h = refl
and_first false b h = cc

and_later : (a b : Bool) → (a && b) ≡ true → b ≡ true
and_later true b h = h
and_later false b h = cc

both_true : (a b : Bool) → a ≡ true → b ≡ true → (a && b) ≡ true
both_true a b h k = cc

module _ (head : StackHead) (whole : List Turn) where
  both_rows : (r : Row) → has_fate_below head whole r ≡ true → is_received_at head whole r ≡ true → has_fate_at head whole r ≡ true
  both_rows (row.Issue list owner config direction.Down cancel origin.Root frames) down up = down
  both_rows (row.Issue list owner config direction.Up cancel origin.Root frames) down up = up
  both_rows (row.Issue list owner config direction.Lent cancel origin.Root frames) down up = up
  both_rows (row.Issue list owner config d cancel (origin.Clone o) frames) down up = refl
  both_rows (row.Issue list owner config d cancel (origin.Copy o) frames) down up = refl
  both_rows _ down up = refl

  all_both : (rows : List Row) → list_all (has_fate_below head whole) rows ≡ true → list_all (is_received_at head whole) rows ≡ true → list_all (has_fate_at head whole) rows ≡ true
  all_both [] down up = refl
  all_both (r ∷ rows) down up =
      both_true _ _ (both_rows r (and_first (has_fate_below head whole r) _ down) (and_first (is_received_at head whole r) _ up))
      (all_both rows (and_later (has_fate_below head whole r) _ down) (and_later (is_received_at head whole r) _ up))

  turns_both : (turns : List Turn) → all_rows (has_fate_below head whole) turns ≡ true → all_rows (is_received_at head whole) turns ≡ true → all_rows (has_fate_at head whole) turns ≡ true
  turns_both [] down up = refl
  turns_both (t ∷ ts) down up =
      both_true _ _ (all_both t.rows (and_first (list_all (has_fate_below head whole) t.rows) _ down) (and_first (list_all (is_received_at head whole) t.rows) _ up))
      (turns_both ts (and_later (list_all (has_fate_below head whole) t.rows) _ down) (and_later (list_all (is_received_at head whole) t.rows) _ up))

pub all_meet_their_fates : AllMeetTheirFates
all_meet_their_fates head turns s = turns_both head turns turns (each_send_meets_its_fate head turns s) (each_is_received head turns s)
