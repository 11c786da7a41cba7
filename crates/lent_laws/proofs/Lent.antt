-- After every sound journal no live list is lent.
use Rattle.std.proofs.Common.{◌≡◌, ℕ, ◌==◌, false, List, [], ◌∷◌, All, refl, sym, subst, eq-eqb}
use Rattle.std.specs.List.{Contains}
use Rattle.std.proofs.lemmas.List.Elements.{All-nil, All-cons, All-contains}
use Rattle.ndis_base.specs.declared.Direction.{Direction}
use Rattle.ndis_base.specs.declared.Direction.TheVariants as direction
use Rattle.ndis_base.specs.declared.Origin.{Origin}
use Rattle.ndis_base.specs.declared.Origin.TheVariants as origin
use Rattle.journal_types.specs.declared.Row.{Row}
use Rattle.journal_types.specs.declared.Row.TheVariants as row
use Rattle.journal_types.specs.declared.StackHead.{StackHead}
use Rattle.journal_types.specs.declared.Turn.{Turn}
use Rattle.stack_rules.specs.declared.LiveList.{LiveList}
use Rattle.stack_rules.specs.Net.{Net, seen, lists, start, after_turn}
use Rattle.stack_rules.specs.Sound.{Sound, SoundFrom}
use Rattle.rule_basics.specs.Live.{Each}
use Rattle.home_laws.specs.Rows.{IsIssued, IsAway, IsHome, is_home_of, rows_of}
use Rattle.home_laws.specs.Standing.{label_of}
use Rattle.home_laws.proofs.Standing.{lists_stand}
use Rattle.receive_fates.proofs.Steps.{Kin, AreKin}
use Rattle.receive_fates.proofs.Chain.{all_claimed}
use Rattle.lent_laws.specs.Lent.{is_lent, IsOwned, NoneIsLent}
use Rattle.lent_laws.proofs.Fair.{Closes, closes-append, outcome_closes}

none_in : (r : Row) → Contains [] r → ⊥
none_in r c = All-contains (λ x. ⊥) [] r (All-nil (λ x. ⊥)) c

closes_turns : (net : Net) (turns : List Turn) → SoundFrom net turns → Closes (rows_of turns)
closes_turns net [] s = λ list owner config cancel frames c. absurd (none_in (row.Issue list owner config direction.Lent cancel origin.Root frames) c)
closes_turns net (t ∷ ts) s =
    closes-append t.rows (rows_of ts) (subst Closes (sym s.0.rows) (outcome_closes net t.event s.0.choice)) (closes_turns (after_turn net t) ts s.1)

away_not : (rows : List Row) (l : LiveList) → IsHome rows l.list → IsAway rows l.list → ⊥
away_not rows l h away = clash (All-contains (λ r. is_home_of l.list r ≡ false) rows (row.Home l.list h.owner h.status) away h.here)
  where
    clash : is_home_of l.list (row.Home l.list h.owner h.status) ≡ false → ⊥
    clash e = same l.list.0 e
      where
        same : (n : ℕ) → (n == n) ≡ false → ⊥
        same n e = cc (sym (eq-eqb n n refl), e)

-- a list that was made of another isn't lent
kin_at : (head : StackHead) (whole : List Turn) (rows : List Row) (r : Row) → AreKin head whole rows → Contains rows r → Kin head whole r
kin_at head whole rows r k c = All-contains (Kin head whole) rows r (all rows k) c
  where
    all : (rows : List Row) → AreKin head whole rows → All (Kin head whole) rows
    all [] k = All-nil (Kin head whole)
    all (x ∷ xs) k = All-cons (Kin head whole) x xs k.0 (all xs k.1)

module _ (head : StackHead) (turns : List Turn) (s : Sound head turns) where
  owned : (l : LiveList) → IsIssued (rows_of turns) l.list (label_of l) → IsAway (rows_of turns) l.list → IsOwned l
  owned l i away = by l.direction l.origin i.here
    where
      by : (d : Direction) (made : Origin) → Contains (rows_of turns) (row.Issue l.list l.owner i.config d l.cancel made l.frames) → is_lent d ≡ false
      by direction.Down made c = refl
      by direction.Up made c = refl
      by direction.Lent origin.Root c = absurd (away_not (rows_of turns) l (closes_turns (start head) turns s l.list l.owner i.config l.cancel l.frames c) away)
      by direction.Lent (origin.Clone o) c = let kin = (kin_at head turns (rows_of turns) _ (all_claimed head turns s).kin c).owned in absurd (cc kin)
      by direction.Lent (origin.Copy o) c = let kin = (kin_at head turns (rows_of turns) _ (all_claimed head turns s).kin c).owned in absurd (cc kin)

  each : (ls : List LiveList) → Each (λ l. IsIssued (rows_of turns) l.list (label_of l)) ls → Each (λ l. IsAway (rows_of turns) l.list) ls → Each IsOwned ls
  each [] i a = tt
  each (l ∷ ls) i a = (owned l i.0 a.0, each ls i.1 a.1)

pub none_is_lent : NoneIsLent
none_is_lent head turns s = let st = lists_stand head turns s in each head turns s (lists (seen head turns).things) st.issued st.away
