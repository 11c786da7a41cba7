-- What is known of the live lists after each turn of a sound journal.
use Rattle.std.proofs.Common.{◌≡◌, ℕ, ◌<◌, true, List, [], ◌∷◌, ◌++◌, Option, Some, None, refl, arith, ◌∙◌, ◌⊎◌, inl, inr}
use Rattle.ndis_base.specs.declared.ListNo.{ListNo}
use Rattle.journal_types.specs.declared.Row.{Row}
use Rattle.journal_types.specs.declared.StackHead.{StackHead}
use Rattle.journal_types.specs.declared.Turn.{Turn}
use Rattle.stack_rules.specs.declared.LiveList.{LiveList}
use Rattle.stack_rules.specs.Net.{Net, start, after_turn, lists, list_of, seen}
use Rattle.stack_rules.specs.Outcome.{list_no}
use Rattle.stack_rules.specs.Sound.{Sound, SoundFrom}
use Rattle.rule_basics.specs.Live.{is_live}
use Rattle.rule_basics.proofs.Each.{Each-implies}
use Rattle.rule_basics.proofs.Lives.{find_is}
use Rattle.home_laws.specs.Rows.{Label, IsAway, IsHome, rows_of}
use Rattle.home_laws.proofs.Fits.{Register, empty, registered_rows, IsSane}
use Rattle.home_laws.specs.Standing.{label_of, StandsByRows, ListsStand}
use Rattle.home_laws.proofs.Registers.{sane_empty, sane_rows}
use Rattle.home_laws.proofs.Histories.{Tells, tells_rows}
use Rattle.home_laws.proofs.Homes.{away_rows}
use Rattle.home_laws.proofs.Agreed.{Agrees, label_in}
use Rattle.home_laws.proofs.Known.{Knows, knows_all}
use Rattle.home_laws.proofs.Events.{FitsAfter, journal_fits}

labelled_live : (n : ℕ) (ls : List LiveList) (o : Option LiveList) (label : Label) → list_of n ls ≡ o → label_in o ≡ Some label → is_live n ls ≡ true
labelled_live n ls None label e f = absurd (none_some label f)
  where
    none_some : (l : Label) → None ≡ Some l → ⊥
    none_some l e = cc
labelled_live n ls (Some l) label e f = (find_is n ls l e).1

stands : (rows : List Row) (net : Net) (reg : Register) → Agrees net reg → IsSane reg → Tells rows reg → ((list : ListNo) (label : Label) → reg.live list.0 ≡ Some label → IsAway rows list) → StandsByRows rows net
stands rows net reg h s t away = record {
  numbered = h.numbered;
  issued = Each-implies (Knows reg) _ (λ l k. t.issued l.list.0 (label_of l) k) (lists net.things) (knows_all net reg h);
  away = Each-implies (Knows reg) _ (λ l k. away l.list (label_of l) k) (lists net.things) (knows_all net reg h);
  younger = Each-implies (Knows reg) _ (λ l k. s.younger l.list.0 (label_of l) k) (lists net.things) (knows_all net reg h);
  all = λ n some low. live_or_home n (t.all n some (below n low));
}
  where
    below : (n : ℕ) → n < net.next.list → n < reg.next
    below n low = let same : net.next.list ≡ reg.next = h.next in omega arith

    live_or_home : (n : ℕ) → ((label : Label) × (reg.live n ≡ Some label)) ⊎ IsHome rows (list_no n) → (is_live n (lists net.things) ≡ true) ⊎ IsHome rows (list_no n)
    live_or_home n (inl live) = inl (labelled_live n (lists net.things) (list_of n (lists net.things)) live.0 refl (h.live n ∙ live.1))
    live_or_home n (inr home) = inr home

pub lists_stand : (head : StackHead) (turns : List Turn) → Sound head turns → ListsStand head turns
lists_stand head turns n =
    let f : FitsAfter empty (rows_of turns) (seen head turns) = journal_fits head turns n in
    stands (rows_of turns) (seen head turns) (registered_rows empty (rows_of turns)) f.agrees (sane_rows empty (rows_of turns) sane_empty f.fit) (tells_rows (rows_of turns) f.fit)
    (λ list label k. away_rows empty (rows_of turns) list label sane_empty f.fit k)

-- the first turns of a sound journal are a sound journal
front_from : (net : Net) (turns more : List Turn) → SoundFrom net (turns ++ more) → SoundFrom net turns
front_from net [] more s = tt
front_from net (turn ∷ turns) more s = (s.0, front_from (after_turn net turn) turns more s.1)

pub sound_front : (head : StackHead) (turns more : List Turn) → Sound head (turns ++ more) → Sound head turns
sound_front head turns more s = front_from (start head) turns more s
