-- What lists that come back, are transmitted or drained add to the work, where everything stands in its place.
use Rattle.std.proofs.Common.{◌≡◌, ℕ, ◌+◌, ◌-◌, ◌≤◌, ◌<◌, ◌==◌, ◌||◌, Bool, true, false, cond, List, [], ◌∷◌, ◌++◌, Option, Some, None, refl, arith, sym, subst, ◌⊎◌, inl, inr, find, map}
use Rattle.std.proofs.lemmas.Bool.Decides.{nat_tests}
use Rattle.ndis_base.specs.declared.CrossNo.{CrossNo}
use Rattle.ndis_base.specs.declared.ListNo.{ListNo}
use Rattle.ndis_base.specs.declared.ListStatus.{ListStatus}
use Rattle.ndis_base.specs.declared.ListStatus.TheVariants.{Success}
use Rattle.ndis_base.specs.declared.ModuleId.TheVariants.{Miniport, Binding}
use Rattle.ndis_base.specs.declared.Direction.TheVariants as direction
use Rattle.ndis_base.specs.declared.Origin.TheVariants as origin
use Rattle.journal_types.specs.declared.PassWay.TheVariants as way
use Rattle.journal_types.specs.declared.Target.{Target}
use Rattle.journal_types.specs.declared.Row.{Row}
use Rattle.journal_types.specs.declared.Row.TheVariants as row
use Rattle.stack_rules.specs.declared.LiveList.{LiveList}
use Rattle.stack_rules.specs.declared.Stand.TheVariants as stand
use Rattle.stack_rules.specs.declared.Thing.TheVariants as thing
use Rattle.stack_rules.specs.Tests.{is_down, is_virtual, phase_is_running}
use Rattle.stack_rules.specs.Heads.{binding_numbers}
use Rattle.stack_rules.specs.Net.{Net, after, lists, list_of}
use Rattle.stack_rules.specs.Places.{position, is_crossed, is_kept_by, has_clone, kept_lists, ready_lists}
use Rattle.stack_rules.specs.Targets.{next_up, next_done, homeward}
use Rattle.stack_rules.specs.Outcome.{root, list_no, config_no}
use Rattle.stack_rules.specs.Sends.{first_of, loops, transmitted, transmit_of, transmit_outcome}
use Rattle.stack_rules.specs.Receives.{give_back_of, give_back_outcome}
use Rattle.stack_rules.specs.Crosses.{is_in_message, done_of, done_outcome}
use Rattle.stack_rules.specs.Pumps.{is_pump_moving}
use Rattle.stack_rules.specs.Drains.{returned_by, returns_all, passes_all, empties, empties_ring, first_rows, drain_rows, drained, drain_outcome}
use Rattle.stack_rules.specs.Work.{bottom, work}
use Rattle.rule_basics.specs.Live.{Each}
use Rattle.rule_basics.specs.Numbers.{IsNumbered}
use Rattle.rule_basics.proofs.Each.{Each-found}
use Rattle.home_laws.proofs.Known.{by_test, Each-find, Each-first_of}
use Rattle.work_laws.specs.Bounds.{originates, receive_room}
use Rattle.place_laws.specs.Kept.{StandsPlaced, IsInPlace}
use Rattle.work_laws.proofs.Weights.{Stay, weight, load, work_least, work_after, load_pass, load_moved, load_issue, passed_work}
use Rattle.work_laws.proofs.Clones.{clones_after, clones_rows}
use Rattle.work_laws.proofs.Ways.{done_near}
use Rattle.work_laws.proofs.Adds.{AddsAtMost, OutcomeAdds, adds_none, up_room}
use Rattle.work_laws.proofs.Hands.{Found, found_issue, found_pass}
use Rattle.work_laws.proofs.Lowers.{full_weight}
use Rattle.work_laws.proofs.Filters.{Lowers, homeward_done}
use Rattle.work_laws.proofs.Pumps.{IsFine, all_fine, no_clone, find_passes, pump_adds}
use Rattle.work_laws.proofs.Drains.{IsReady, all_ready, kept_is, passing, Each-map, returned_less, passes_lower, returns_good, passes_good, turned_lowers, ring_work, wired_lowers}

neither : (a b : Bool) → a ≡ false → b ≡ false → (a || b) ≡ false
neither true b e g = cc
neither false b e g = g

not_true : (b : Bool) → (b ≡ true → ⊥) → b ≡ false
not_true true h = absurd (h refl)
not_true false h = refl

-- a list that a binding keeps, or an adapter that isn't virtual, doesn't wait
binding_ready : (net : Net) (b : ℕ) (l : LiveList) → IsInPlace net → IsFine net l → l.stand ≡ stand.Kept (Binding b) → IsReady net (Binding b) l
binding_ready net b l h f at = record {
  fine = f;
  kept = at;
  free = neither (is_crossed l.crossed) (has_clone net l.list.0)
      (not_true (is_crossed l.crossed) (λ t. let other = (f.placed.crossed t).0 in cc))
      (no_clone net l (lists net.things) f.found (λ i e. cc) h.originals);
}

miniport_ready : (net : Net) (l : LiveList) → IsInPlace net → is_virtual net.head.kind ≡ false → IsFine net l → l.stand ≡ stand.Kept Miniport → IsReady net Miniport l
miniport_ready net l h v f at = record {
  fine = f;
  kept = at;
  free = neither (is_crossed l.crossed) (has_clone net l.list.0)
      (not_true (is_crossed l.crossed) (λ t. let other = (f.placed.crossed t).1 in cc))
      (no_clone net l (lists net.things) f.found (λ i e. cc) h.originals);
}

-- a list that is given back
given_back : (net : Net) (binding : ℕ) (o : Option LiveList) → IsInPlace net → ((l : LiveList) → o ≡ Some l → IsFine net l) → OutcomeAdds net 0 (give_back_of net binding o)
given_back net binding None h f = adds_none net 0
given_back net binding (Some l) h f =
    by_test (OutcomeAdds net 0) (is_kept_by (Binding binding) l.stand) _ _
    (λ t.
    let fine : IsFine net l = f l refl in
    let ready = binding_ready net binding l h fine (kept_is (Binding binding) l.stand t) in
    let less = passes_lower net (returned_by net) l [] h.numbered (fine.found, tt) (refl, tt) (returned_less net binding l ready, tt) in
    omega (arith, less))
    (λ _. adds_none net 0)

pub give_back_adds : (net : Net) (binding : ℕ) (list : ListNo) → IsInPlace net → OutcomeAdds net 0 (give_back_outcome net binding list)
give_back_adds net binding list h = given_back net binding (list_of list.0 (lists net.things)) h (λ l e. Each-found (IsFine net) list.0 (lists net.things) l (all_fine net h) e)

-- a list that was taken to the other stack is done
in_message : (n : ℕ) (o : Option CrossNo) → is_in_message n o ≡ true → is_crossed o ≡ true
in_message n None e = cc
in_message n (Some m) e = refl

done_adds_of : (net : Net) (status : ListStatus) (o : Option LiveList) → IsInPlace net → ((l : LiveList) → o ≡ Some l → IsFine net l × (is_crossed l.crossed ≡ true)) → OutcomeAdds net (bottom net) (done_of net status o)
done_adds_of net status None h f = adds_none net (bottom net)
done_adds_of net status (Some l) h f =
    let known = f l refl in
    let at : l.stand ≡ stand.Kept Miniport = (known.0.placed.crossed known.1).0 in
    let down : is_down l.direction ≡ true = subst (StandsPlaced net.modules l) at known.0.placed.stands in
    let i : ℕ = position net.modules.order Miniport in
    let above = known.0.placed.down down in
    let to : Target = next_done net.modules i l.owner in
    let near = done_near net.modules i (i - 1) l.owner (omega arith) (omega (arith, above)) in
    let pass : Row = row.Pass l.list (way.Done status) to in
    let stay : Stay (has_clone net) (has_clone (after net pass)) = clones_after net pass h.numbered refl in
    let moved = load_pass net (has_clone net) l.list (way.Done status) to in
    let most = work_after (after net pass) (has_clone net) stay in
    let start = work_least net in
    subst (λ (r : Row). AddsAtMost net (bottom net) (r ∷ [])) (sym (homeward_done net.modules l.list l.owner l.direction i status down)) (omega (arith, near, moved, most, start))

pub done_adds : (net : Net) (message : CrossNo) (status : ListStatus) → IsInPlace net → OutcomeAdds net (bottom net) (done_outcome net message status)
done_adds net message status h =
    done_adds_of net status (find (λ l. is_in_message message.0 l.crossed) (lists net.things)) h
    (λ l e. (Each-find (IsFine net) (λ l. is_in_message message.0 l.crossed) (lists net.things) l (all_fine net h) e, in_message message.0 l.crossed (find_passes (λ l. is_in_message message.0 l.crossed) (lists net.things) l e)))

-- a loop adapter indicates what it transmits
other_number : (n m : ℕ) → n < m → (n == m) ≡ false
other_number n m h = grind (arith, nat_tests)

looped_adds : (net : Net) (l : LiveList) → IsNumbered net → IsReady net Miniport l →
    AddsAtMost net (receive_room net)
    (row.Wire l.list l.frames ∷ root net net.next.list Miniport direction.Up None l.frames ∷ row.Pass (list_no net.next.list) way.Up (next_up net.modules (position net.modules.order Miniport)) ∷ homeward net.modules l (position net.modules.order Miniport) Success ∷ [])
looped_adds net l n r =
    let i : ℕ = position net.modules.order Miniport in
    let ring = ring_work net l r in
    let above = r.fine.placed.down ring.0 in
    let near = done_near net.modules i (i - 1) l.owner (omega arith) (omega (arith, above)) in
    let room = up_room net i (omega arith) in
    let issue : Row = root net net.next.list Miniport direction.Up None l.frames in
    let up : Row = row.Pass (list_no net.next.list) way.Up (next_up net.modules i) in
    let to : Target = next_done net.modules i l.owner in
    let one : Net = after net (row.Wire l.list l.frames) in
    let two : Net = after one issue in
    let three : Net = after two up in
    let four : Net = after three (row.Pass l.list (way.Done Success) to) in
    let numbered : IsNumbered one = record { apart = n.apart; below = n.below } in
    let stay : Stay (has_clone one) (has_clone four) = clones_rows one (issue ∷ up ∷ row.Pass l.list (way.Done Success) to ∷ []) numbered (refl, (tt, (tt, tt))) (refl, (refl, (refl, tt))) in
    let low : l.list.0 < net.next.list = Each-found (λ x. x.list.0 < net.next.list) l.list.0 (lists net.things) l n.below r.fine.found in
    let found2 : Found two l = found_issue one l (list_no net.next.list) Miniport (config_no net.modules.config) direction.Up None origin.Root l.frames r.fine.found in
    let found3 : Found three l = found_pass two l (list_no net.next.list) way.Up (next_up net.modules i) (other_number l.list.0 net.next.list low) found2 in
    let issued : load two (has_clone net) ≤ load net (has_clone net) = load_issue one (has_clone net) (list_no net.next.list) Miniport (config_no net.modules.config) direction.Up None origin.Root l.frames in
    let passed : load three (has_clone net) ≤ load two (has_clone net) + passed_work net way.Up (next_up net.modules i) = load_pass two (has_clone net) (list_no net.next.list) way.Up (next_up net.modules i) in
    let moved : load four (has_clone net) + weight net (has_clone net) (thing.List l) ≤ load three (has_clone net) + passed_work net (way.Done Success) to = load_moved three (has_clone net) l.list (way.Done Success) to l found3 in
    let full = full_weight net l r.free in
    let most : work four ≤ load four (has_clone net) = work_after four (has_clone net) stay in
    let start = work_least net in
    let old = ring.1 in
    subst (λ (h : Row). AddsAtMost net (receive_room net) (row.Wire l.list l.frames ∷ issue ∷ up ∷ h ∷ [])) (sym (homeward_done net.modules l.list l.owner l.direction i Success ring.0)) (omega (arith, near, room, issued, passed, moved, full, most, start, old))

-- what is transmitted: nothing is added unless the miniport originates
abbrev pub TransmitAdds : Net → List Row → Type 0
TransmitAdds net rows = AddsAtMost net (receive_room net) rows × (originates rows ≡ false → AddsAtMost net 0 rows)

transmitted_adds : (net : Net) (l : LiveList) → IsNumbered net → IsReady net Miniport l → TransmitAdds net (transmitted net l)
transmitted_adds net l n r =
    let last : Row = homeward net.modules l (position net.modules.order Miniport) Success in
    by_test (λ rows. TransmitAdds net (row.Wire l.list l.frames ∷ (rows ++ last ∷ []))) (loops net) _ _
    (λ _. (looped_adds net l n r, λ q. cc))
    (λ _. let less = wired_lowers net l n r in (omega (arith, less), λ q. omega (arith, less)))

transmit_adds_of : (net : Net) (o : Option LiveList) → IsNumbered net → ((l : LiveList) → o ≡ Some l → IsReady net Miniport l) → TransmitAdds net (transmit_of net o).rows
transmit_adds_of net None n r = (adds_none net (receive_room net), λ q. adds_none net 0)
transmit_adds_of net (Some l) n r = transmitted_adds net l n (r l refl)

pub transmit_adds : (net : Net) → IsInPlace net → TransmitAdds net (transmit_outcome net).rows
transmit_adds net h = cases (is_virtual net.head.kind) refl
  where
    kept : is_virtual net.head.kind ≡ false → Each (IsReady net Miniport) (kept_lists net Miniport)
    kept v = Each-map _ (IsReady net Miniport) (λ l k. miniport_ready net l h v k.0 (kept_is Miniport l.stand k.1)) (kept_lists net Miniport) (passing (IsFine net) (λ l. is_kept_by Miniport l.stand) (lists net.things) (all_fine net h))

    cases : (v : Bool) → is_virtual net.head.kind ≡ v → TransmitAdds net (transmit_of net (cond v None (first_of (kept_lists net Miniport)))).rows
    cases true v = (adds_none net (receive_room net), λ q. adds_none net 0)
    cases false v = transmit_adds_of net (first_of (kept_lists net Miniport)) h.numbered (λ l e. Each-first_of (IsReady net Miniport) (kept_lists net Miniport) l (kept v) e)

-- a drain
empties_adds : (net : Net) (o : Option LiveList) → IsNumbered net → ((l : LiveList) → o ≡ Some l → IsReady net Miniport l) → AddsAtMost net (receive_room net) (empties net o)
empties_adds net None n r = adds_none net (receive_room net)
empties_adds net (Some l) n r =
    by_test (AddsAtMost net (receive_room net)) (is_virtual net.head.kind) _ _
    (λ _. by_test (AddsAtMost net (receive_room net)) (phase_is_running net.phase) _ _ (λ _. adds_none net (receive_room net)) (λ _. let less = turned_lowers net l n (r l refl) in omega (arith, less)))
    (λ _. (transmitted_adds net l n (r l refl)).0)

abbrev EachBounded : Net → List (List Row) → Type 0
EachBounded net [] = Unit {0}
EachBounded net (rows ∷ others) = AddsAtMost net (receive_room net) rows × EachBounded net others

first_bounded : (net : Net) (all : List (List Row)) → EachBounded net all → AddsAtMost net (receive_room net) (first_rows all)
first_bounded net [] g = adds_none net (receive_room net)
first_bounded net ([] ∷ others) g = first_bounded net others g.1
first_bounded net ((r ∷ rows) ∷ others) g = g.0

bounded-append : (net : Net) (all others : List (List Row)) → EachBounded net all → EachBounded net others → EachBounded net (all ++ others)
bounded-append net [] others f g = g
bounded-append net (rows ∷ all) others f g = (f.0, bounded-append net all others f.1 g)

good_bounded : (net : Net) (rows : List Row) → (rows ≡ []) ⊎ Lowers net rows → AddsAtMost net (receive_room net) rows
good_bounded net rows (inl e) = subst (AddsAtMost net (receive_room net)) (sym e) (adds_none net (receive_room net))
good_bounded net rows (inr less) = omega (arith, less)

bounded-map : (net : Net) (rows : ℕ → List Row) → ((n : ℕ) → (rows n ≡ []) ⊎ Lowers net (rows n)) → (ns : List ℕ) → EachBounded net (map rows ns)
bounded-map net rows f [] = tt
bounded-map net rows f (n ∷ ns) = (good_bounded net (rows n) (f n), bounded-map net rows f ns)

drain_rows_add : (net : Net) → IsInPlace net → AddsAtMost net (receive_room net) (drain_rows net)
drain_rows_add net h =
    let returns = map (returns_all net) (binding_numbers net.head) in
    let passes = map (passes_all net) net.modules.order in
    let ring = empties_adds net (first_of (ready_lists net Miniport)) h.numbered (λ l e. Each-first_of (IsReady net Miniport) (ready_lists net Miniport) l (all_ready net Miniport h) e) in
    first_bounded net (returns ++ (passes ++ empties_ring net ∷ []))
    (bounded-append net returns (passes ++ empties_ring net ∷ []) (bounded-map net (returns_all net) (λ b. returns_good net b h) (binding_numbers net.head))
    (bounded-append net passes (empties_ring net ∷ []) (bounded-map net (passes_all net) (λ f. passes_good net f h) net.modules.order) (ring, tt)))

drained_adds : (net : Net) (rows : List Row) → AddsAtMost net (receive_room net) rows → OutcomeAdds net (receive_room net) (drained rows)
drained_adds net [] a = a
drained_adds net (r ∷ rows) a = a

pub drain_adds : (net : Net) (keeps : Bool) → IsInPlace net → OutcomeAdds net (receive_room net) (drain_outcome net keeps)
drain_adds net keeps h =
    by_test (OutcomeAdds net (receive_room net)) (is_pump_moving net) _ _
    (λ _. let none = pump_adds net keeps h in omega (arith, none))
    (λ _. drained_adds net (drain_rows net) (drain_rows_add net h))
