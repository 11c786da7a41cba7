-- The register agrees with the state after each row that fits.
use Rattle.std.proofs.Common.{◌≡◌, ℕ, ◌+◌, ◌==◌, Bool, true, false, cond, List, [], ◌∷◌, ◌++◌, Option, Some, None, refl, arith, sym, ap, ◌∙◌}
use Rattle.std.proofs.lemmas.Bool.Decides.{nat_tests}
use Rattle.ndis_base.specs.declared.ModuleId.{ModuleId}
use Rattle.journal_types.specs.declared.Event.{Event}
use Rattle.journal_types.specs.declared.Event.TheVariants as event
use Rattle.journal_types.specs.declared.OutWay.TheVariants as out
use Rattle.journal_types.specs.declared.PassWay.{PassWay}
use Rattle.journal_types.specs.declared.PhaseOf.TheVariants as of
use Rattle.journal_types.specs.declared.Reply.{Reply}
use Rattle.journal_types.specs.declared.Reply.TheVariants as reply
use Rattle.journal_types.specs.declared.Row.{Row}
use Rattle.journal_types.specs.declared.Row.TheVariants as row
use Rattle.journal_types.specs.declared.StackHead.{StackHead}
use Rattle.journal_types.specs.declared.Target.{Target}
use Rattle.stack_rules.specs.declared.LiveList.{LiveList}
use Rattle.stack_rules.specs.declared.Stand.TheVariants as stand
use Rattle.stack_rules.specs.declared.Thing.TheVariants as thing
use Rattle.stack_rules.specs.Net.{Net, start, after, after_rows, told, lists, list_of, had_by, taken_by, as_kept, as_passed, request_of}
use Rattle.rule_basics.specs.Live.{others, retouched, with_last}
use Rattle.rule_basics.specs.Numbers.{IsNumbered, IssuesNext}
use Rattle.rule_basics.proofs.Lists.{lists-append, lists-without, lists-changed, lists-kept, lists-passed}
use Rattle.rule_basics.proofs.Lives.{find_is}
use Rattle.rule_basics.proofs.Numbered.{numbered_after, numbered_start, lists-without_status, lists-status, lists-things_done}
use Rattle.home_laws.specs.Rows.{Label}
use Rattle.home_laws.proofs.Fits.{Register, empty, registered, registered_rows, Fits, AllFit, IsSane}
use Rattle.home_laws.specs.Standing.{label_of}
use Rattle.home_laws.proofs.Registers.{is_same, sane_after, next_is_free}

-- the label of the live list of a number
abbrev pub label_in : Option LiveList → Option Label
label_in None = None
label_in (Some l) = Some (label_of l)

abbrev pub label_at : ℕ → List LiveList → Option Label
label_at n ls = label_in (list_of n ls)

-- the register has the next number and the labels of the live lists
pub record Agrees (net : Net) (reg : Register) : Type 0 where
  pub numbered : IsNumbered net
  pub next : net.next.list ≡ reg.next
  pub live : (n : ℕ) → label_at n (lists net.things) ≡ reg.live n

-- labels after each change of the live lists
label_at-append : (n : ℕ) (ls : List LiveList) (l : LiveList) → label_at l.list.0 ls ≡ None → label_at n (ls ++ l ∷ []) ≡ cond (n == l.list.0) (Some (label_of l)) (label_at n ls)
label_at-append n [] l h = grind (arith, nat_tests)
label_at-append n (x ∷ ls) l h = grind (arith, nat_tests, label_at-append n ls l)

label_at-others : (n m : ℕ) (ls : List LiveList) → label_at n (others m ls) ≡ cond (n == m) None (label_at n ls)
label_at-others n m [] = grind (arith, nat_tests)
label_at-others n m (x ∷ ls) = grind (arith, nat_tests, label_at-others n m ls)

-- a change that keeps the number and the label of each list
pub record KeepsLabel (f : LiveList → LiveList) : Type 0 where
  pub number : (l : LiveList) → (f l).list.0 ≡ l.list.0
  pub label : (l : LiveList) → label_of (f l) ≡ label_of l

label_at-retouched : (n m : ℕ) (f : LiveList → LiveList) → KeepsLabel f → (ls : List LiveList) → label_at n (retouched m f ls) ≡ label_at n ls
label_at-retouched n m f k [] = refl
label_at-retouched n m f k (x ∷ ls) = grind (arith, nat_tests, k.number x, k.label x, label_at-retouched n m f k ls)

-- a list that is moved to the end keeps its label
moved_none : (n m : ℕ) (ls : List LiveList) → list_of m ls ≡ None → label_at n (others m ls) ≡ label_at n ls
moved_none n m ls h =
    let there : label_at m ls ≡ None = ap label_in h in
    label_at-others n m ls ∙ cases (n == m) refl there
  where
    cases : (b : Bool) → (n == m) ≡ b → label_at m ls ≡ None → cond b None (label_at n ls) ≡ label_at n ls
    cases true t there = let same : n ≡ m = is_same n m t in sym (ap (λ k. label_at k ls) same ∙ there)
    cases false t there = refl

moved_some : (n m : ℕ) (ls : List LiveList) (l k : LiveList) → list_of m ls ≡ Some l → k.list.0 ≡ l.list.0 → label_of k ≡ label_of l → label_at n (others m ls ++ k ∷ []) ≡ label_at n ls
moved_some n m ls l k h same label =
    let number : k.list.0 ≡ m = same ∙ (find_is m ls l h).0 in
    let out : label_at k.list.0 (others m ls) ≡ None = label_at-others k.list.0 m ls ∙ struck k.list.0 m (label_at k.list.0 ls) number in
    label_at-append n (others m ls) k out ∙ ap (cond (n == k.list.0) (Some (label_of k))) (label_at-others n m ls) ∙ cases (n == k.list.0) refl number (ap label_in h) label
  where
    struck : (a b : ℕ) (o : Option Label) → a ≡ b → cond (a == b) None o ≡ None
    struck a b o e = grind (arith, nat_tests)

    not_m : (a b c : ℕ) (o : Option Label) → (a == b) ≡ false → b ≡ c → cond (a == c) None o ≡ o
    not_m a b c o t e = grind (arith, nat_tests)

    cases : (b : Bool) → (n == k.list.0) ≡ b → k.list.0 ≡ m → label_at m ls ≡ Some (label_of l) → label_of k ≡ label_of l → cond b (Some (label_of k)) (cond (n == m) None (label_at n ls)) ≡ label_at n ls
    cases true t e there label = let at : n ≡ m = is_same n k.list.0 t ∙ e in ap (λ x. Some x) label ∙ sym (ap (λ i. label_at i ls) at ∙ there)
    cases false t e there label = not_m n k.list.0 m (label_at n ls) t e

label_at-kept : (n m : ℕ) (by : ModuleId) (ls : List LiveList) (found : Option LiveList) → list_of m ls ≡ found → label_at n (with_last (others m ls) (as_kept by found)) ≡ label_at n ls
label_at-kept n m by ls None h = moved_none n m ls h
label_at-kept n m by ls (Some l) h = moved_some n m ls l (record l { last = by; stand = stand.Kept by }) h refl refl

label_at-passed : (n m : ℕ) (way : PassWay) (to : Target) (ls : List LiveList) (found : Option LiveList) → list_of m ls ≡ found → label_at n (with_last (others m ls) (as_passed way to found)) ≡ label_at n ls
label_at-passed n m way to ls None h = moved_none n m ls h
label_at-passed n m way to ls (Some l) h = moved_some n m ls l (record l { stand = stand.Passed way to; crossed = None }) h refl refl

-- an Issue row that fits takes the next number
takes_next : (net : Net) (reg : Register) (r : Row) → Agrees net reg → Fits reg r → IssuesNext net r
takes_next net reg (row.Issue list owner config direction cancel made frames) h f = f.0 ∙ sym h.next
takes_next net reg _ h f = tt

-- the lists have the same labels
same_labels : (n : ℕ) (ls ms : List LiveList) (o : Option Label) → ms ≡ ls → label_at n ls ≡ o → label_at n ms ≡ o
same_labels n ls ms o e h = ap (label_at n) e ∙ h

abbrev Labelled : Net → (ℕ → Option Label) → Type 0
Labelled net live = (n : ℕ) → label_at n (lists net.things) ≡ live n

labels_after : (net : Net) (reg : Register) (r : Row) → Agrees net reg → IsSane reg → Fits reg r → Labelled (after net r) (registered reg r).live
labels_after net reg (row.Issue list owner config direction cancel made frames) h s f =
    let new : LiveList = record { list = list; owner = owner; direction = direction; cancel = cancel; origin = made; frames = frames; last = owner; stand = stand.Unplaced; crossed = None } in
    let free : label_at list.0 (lists net.things) ≡ None = h.live list.0 ∙ ap reg.live f.0 ∙ next_is_free reg s in
    λ n. same_labels n (lists net.things ++ new ∷ []) _ _ (lists-append net.things (thing.List new ∷ []))
    (label_at-append n (lists net.things) new free ∙ ap (cond (n == list.0) (Some (label_of new))) (h.live n))
labels_after net reg (row.Give list m by) h s f =
    λ n. same_labels n (retouched list.0 (had_by m) (lists net.things)) _ _ (lists-changed list.0 (had_by m) net.things)
    (label_at-retouched n list.0 (had_by m) (record { number = λ l. refl; label = λ l. refl }) (lists net.things) ∙ h.live n)
labels_after net reg (row.TurnBack list m status) h s f =
    λ n. same_labels n (retouched list.0 (had_by m) (lists net.things)) _ _ (lists-changed list.0 (had_by m) net.things)
    (label_at-retouched n list.0 (had_by m) (record { number = λ l. refl; label = λ l. refl }) (lists net.things) ∙ h.live n)
labels_after net reg (row.Pass list way to) h s f =
    λ n. same_labels n _ _ _ (lists-passed list.0 way to net.things) (label_at-passed n list.0 way to (lists net.things) _ refl ∙ h.live n)
labels_after net reg (row.Keep list m) h s f =
    λ n. same_labels n _ _ _ (lists-kept list.0 m net.things) (label_at-kept n list.0 m (lists net.things) _ refl ∙ h.live n)
labels_after net reg (row.Home list owner status) h s f =
    λ n. same_labels n (others list.0 (lists net.things)) _ _ (lists-without list.0 net.things)
    (label_at-others n list.0 (lists net.things) ∙ ap (cond (n == list.0) None) (h.live n))
labels_after net reg (row.Wire list frames) h s f = h.live
labels_after net reg (row.Deliver list binding how frames) h s f = h.live
labels_after net reg (row.Phase (of.Module m state)) h s f = h.live
labels_after net reg (row.Phase (of.Stack phase)) h s f = h.live
labels_after net reg (row.Config config filters) h s f = h.live
labels_after net reg (row.OidIssue request parent binding kind code value) h s f = h.live
labels_after net reg (row.OidGive request m) h s f = h.live
labels_after net reg (row.OidDone request status value) h s f =
    λ n. same_labels n _ _ _ (lists-things_done (request_of request.0 net.requests) request status value net.things) (h.live n)
labels_after net reg (row.Status number name to) h s f = λ n. same_labels n _ _ _ (lists-status number.0 net.things _ refl) (h.live n)
labels_after net reg (row.Seen number m) h s f = λ n. same_labels n _ _ _ (lists-without_status number.0 net.things) (h.live n)
labels_after net reg (row.CrossOut message (out.Down list) frames) h s f =
    λ n. same_labels n (retouched list.0 (taken_by message.0) (lists net.things)) _ _ (lists-changed list.0 (taken_by message.0) net.things)
    (label_at-retouched n list.0 (taken_by message.0) (record { number = λ l. refl; label = λ l. refl }) (lists net.things) ∙ h.live n)
labels_after net reg (row.CrossOut message out.Up frames) h s f = h.live
labels_after net reg (row.CrossIn stack message way frames) h s f = h.live

counts_next : (net : Net) (reg : Register) (r : Row) → net.next.list ≡ reg.next → (after net r).next.list ≡ (registered reg r).next
counts_next net reg (row.Issue list owner config direction cancel made frames) e = ap (λ n. n + 1) e
counts_next net reg (row.Give list m by) e = e
counts_next net reg (row.TurnBack list m status) e = e
counts_next net reg (row.Pass list way to) e = e
counts_next net reg (row.Keep list m) e = e
counts_next net reg (row.Home list owner status) e = e
counts_next net reg (row.Wire list frames) e = e
counts_next net reg (row.Deliver list binding how frames) e = e
counts_next net reg (row.Phase (of.Module m state)) e = e
counts_next net reg (row.Phase (of.Stack phase)) e = e
counts_next net reg (row.Config config filters) e = e
counts_next net reg (row.OidIssue request parent binding kind code value) e = e
counts_next net reg (row.OidGive request m) e = e
counts_next net reg (row.OidDone request status value) e = e
counts_next net reg (row.Status number name to) e = e
counts_next net reg (row.Seen number m) e = e
counts_next net reg (row.CrossOut message way frames) e = e
counts_next net reg (row.CrossIn stack message way frames) e = e

pub agrees_after : (net : Net) (reg : Register) (r : Row) → Agrees net reg → IsSane reg → Fits reg r → Agrees (after net r) (registered reg r)
agrees_after net reg r h s f = record {
  numbered = numbered_after net r (takes_next net reg r h f) h.numbered;
  next = counts_next net reg r h.next;
  live = labels_after net reg r h s f;
}

pub agrees_rows : (net : Net) (reg : Register) (rows : List Row) → Agrees net reg → IsSane reg → AllFit reg rows → Agrees (after_rows net rows) (registered_rows reg rows)
agrees_rows net reg [] h s f = h
agrees_rows net reg (r ∷ rows) h s f = agrees_rows (after net r) (registered reg r) rows (agrees_after net reg r h s f.0) (sane_after reg r s f.0) f.1

pub agrees_start : (head : StackHead) → Agrees (start head) empty
agrees_start head = record { numbered = numbered_start head; next = refl; live = λ n. refl }

-- what an event and its reply tell beside the rows changes no list
pub agrees_told : (net : Net) (reg : Register) (e : Event) (r : Reply) → Agrees net reg → Agrees (told net e r) reg
agrees_told net reg (event.Insert kind position setup) (reply.Inserted f) h = record { numbered = record { apart = h.numbered.apart; below = h.numbered.below }; next = h.next; live = h.live }
agrees_told net reg (event.Replace old kind setup) (reply.Replaced f) h = record { numbered = record { apart = h.numbered.apart; below = h.numbered.below }; next = h.next; live = h.live }
agrees_told net reg (event.CrossTakeUp binding vlan) (reply.Taken message frames) h = record { numbered = record { apart = h.numbered.apart; below = h.numbered.below }; next = h.next; live = h.live }
agrees_told net reg _ _ h = h
