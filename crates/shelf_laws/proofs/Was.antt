-- Rows attach no filter that wasn't attached.
use Rattle.std.proofs.Common.{◌≡◌, ℕ, ◌==◌, not, Bool, true, false, cond, List, [], ◌∷◌, Some, map, filter, refl, ap, sym, ◌∙◌, subst}
use Rattle.ndis_base.specs.declared.ModuleId.TheVariants.{Miniport, Filter, Binding}
use Rattle.ndis_base.specs.declared.ModuleState.{ModuleState}
use Rattle.journal_types.specs.declared.Event.{Event}
use Rattle.journal_types.specs.declared.Event.TheVariants as event
use Rattle.journal_types.specs.declared.PhaseOf.TheVariants as of
use Rattle.journal_types.specs.declared.Reply.{Reply}
use Rattle.journal_types.specs.declared.Reply.TheVariants as reply
use Rattle.journal_types.specs.declared.Row.{Row}
use Rattle.journal_types.specs.declared.Row.TheVariants as row
use Rattle.stack_rules.specs.declared.Attached.{Attached}
use Rattle.stack_rules.specs.Net.{Net, after, after_rows, told, attached, with_state, is_detached, filters_after}
use Rattle.shelf_laws.specs.Shelves.{is_rewire, EachWasAttached}

-- a filter of this number is among these
pub record IsAmong (f : ℕ) (entries : List Attached) : Type 0 where
  pub entry : Attached
  pub there : attached f entries ≡ Some entry

pub among_later : (f : ℕ) (x : Attached) (entries : List Attached) → IsAmong f entries → IsAmong f (x ∷ entries)
among_later f x entries a = by_number (x.filter == f) refl
  where
    by_number : (b : Bool) → (x.filter == f) ≡ b → IsAmong f (x ∷ entries)
    by_number true e = record { entry = x; there = ap (λ b. cond b (Some x) (attached f entries)) e }
    by_number false e = record { entry = a.entry; there = ap (λ b. cond b (Some x) (attached f entries)) e ∙ a.there }

pub among_here : (f : ℕ) (x : Attached) (entries : List Attached) → (x.filter == f) ≡ true → IsAmong f (x ∷ entries)
among_here f x entries e = record { entry = x; there = ap (λ b. cond b (Some x) (attached f entries)) e }

pub same_number : (g : ℕ) (s : ModuleState) (x : Attached) → (with_state g s x).filter ≡ x.filter
same_number g s x = by_number (x.filter == g)
  where
    by_number : (b : Bool) → (cond b (record x { state = s }) x).filter ≡ x.filter
    by_number true = refl
    by_number false = refl

among_state : (g : ℕ) (s : ModuleState) (f : ℕ) (entries : List Attached) → IsAmong f (map (with_state g s) entries) → IsAmong f entries
among_state g s f [] a = record { entry = a.entry; there = a.there }
among_state g s f (x ∷ entries) a = by_number (among_state g s f entries) (x.filter == f) refl
  where
    here : ((with_state g s x).filter == f) ≡ (x.filter == f)
    here = ap (λ n. n == f) (same_number g s x)

    by_number : (IsAmong f (map (with_state g s) entries) → IsAmong f entries) → (b : Bool) → (x.filter == f) ≡ b → IsAmong f (x ∷ entries)
    by_number rest true e = among_here f x entries e
    by_number rest false e = among_later f x entries (rest
        (record { entry = a.entry; there = sym (ap (λ b. cond b (Some (with_state g s x)) (attached f (map (with_state g s) entries))) (here ∙ e)) ∙ a.there }))

abbrev pub less : ℕ → List Attached → List Attached
less g entries = filter (λ a. not (a.filter == g)) entries

among_fewer : (g f : ℕ) (entries : List Attached) → IsAmong f (filter (λ a. not (a.filter == g)) entries) → IsAmong f entries
among_fewer g f [] a = record { entry = a.entry; there = a.there }
among_fewer g f (x ∷ entries) a = by_test (among_fewer g f entries) (x.filter == g) refl
  where
    by_number : (IsAmong f (less g entries) → IsAmong f entries) → IsAmong f (x ∷ (less g entries)) → (b : Bool) → (x.filter == f) ≡ b → IsAmong f (x ∷ entries)
    by_number those now true e = among_here f x entries e
    by_number those now false e = among_later f x entries (those (record { entry = now.entry; there = sym (ap (λ b. cond b (Some x) (attached f (less g entries))) e) ∙ now.there }))

    by_test : (IsAmong f (less g entries) → IsAmong f entries) → (b : Bool) → (x.filter == g) ≡ b → IsAmong f (x ∷ entries)
    by_test those true e = among_later f x entries (those (subst (λ c. IsAmong f (cond (not c) (x ∷ (less g entries)) (less g entries))) e (record { entry = a.entry; there = a.there })))
    by_test those false e = by_number those (subst (λ c. IsAmong f (cond (not c) (x ∷ (less g entries)) (less g entries))) e (record { entry = a.entry; there = a.there })) (x.filter == f) refl

among_after : (g : ℕ) (s : ModuleState) (f : ℕ) (entries : List Attached) → IsAmong f (filters_after g s entries) → IsAmong f entries
among_after g s f entries a = by_test (is_detached s) a
  where
    by_test : (b : Bool) → IsAmong f (cond b (filter (λ a. not (a.filter == g)) entries) (map (with_state g s) entries)) → IsAmong f entries
    by_test true a = among_fewer g f entries a
    by_test false a = among_state g s f entries a

among_row : (net : Net) (r : Row) (f : ℕ) → IsAmong f (after net r).modules.filters → IsAmong f net.modules.filters
among_row net (row.Issue list owner config direction cancel origin frames) f a = a
among_row net (row.Give list m handler) f a = a
among_row net (row.TurnBack list m status) f a = a
among_row net (row.Pass list way to) f a = a
among_row net (row.Keep list m) f a = a
among_row net (row.Home list owner status) f a = a
among_row net (row.Wire list frames) f a = a
among_row net (row.Deliver list binding how frames) f a = a
among_row net (row.Phase (of.Module Miniport s)) f a = a
among_row net (row.Phase (of.Module (Binding b) s)) f a = a
among_row net (row.Phase (of.Module (Filter g) s)) f a = among_after g s f net.modules.filters a
among_row net (row.Phase (of.Stack p)) f a = a
among_row net (row.Config config filters) f a = a
among_row net (row.OidIssue request parent binding kind code value) f a = a
among_row net (row.OidGive request m) f a = a
among_row net (row.OidDone request status value) f a = a
among_row net (row.Status number name to) f a = a
among_row net (row.Seen number m) f a = a
among_row net (row.CrossOut message way frames) f a = a
among_row net (row.CrossIn stack message way frames) f a = a

among_rows : (net : Net) (rows : List Row) (f : ℕ) → IsAmong f (after_rows net rows).modules.filters → IsAmong f net.modules.filters
among_rows net [] f a = a
among_rows net (r ∷ rows) f a = among_row net r f (among_rows (after net r) rows f a)

told_same : (net : Net) (e : Event) (answer : Reply) → is_rewire e ≡ false → (told net e answer).modules ≡ net.modules
told_same net (event.CrossTakeUp binding vlan) (reply.Taken message frames) other = refl
told_same net (event.Insert kind position setup) answer other = absurd cc
told_same net (event.Replace old kind setup) answer other = absurd cc
told_same net e answer other = refl

pub each_was : EachWasAttached
each_was net e answer rows f other a =
    let now : IsAmong f (told net e answer).modules.filters = among_rows (told net e answer) rows f (record { entry = a.entry; there = a.there }) in
    let was : IsAmong f net.modules.filters = subst (λ ms. IsAmong f ms.filters) (told_same net e answer other) now in
    record { entry = was.entry; there = was.there }
