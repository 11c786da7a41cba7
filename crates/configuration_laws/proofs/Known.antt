-- What is known of the lists where a turn begins, and of those that it issues.
use Rattle.std.proofs.Common.{◌≡◌, ℕ, ◌+◌, ◌==◌, ◌||◌, Bool, true, false, List, [], ◌∷◌, Option, Some, None, ◌-◌, cond, length, take, reverse, refl, arith, ap, sym, subst, ◌∙◌}
use Rattle.std.proofs.lemmas.Bool.Decides.{nat_tests}
use Rattle.ndis_base.specs.declared.Direction.{Direction}
use Rattle.ndis_base.specs.declared.Direction.TheVariants as direction
use Rattle.ndis_base.specs.declared.ListNo.{ListNo}
use Rattle.ndis_base.specs.declared.ListStatus.{ListStatus}
use Rattle.ndis_base.specs.declared.ModuleId.{ModuleId}
use Rattle.ndis_base.specs.declared.ModuleId.TheVariants.{Miniport, Filter, Binding}
use Rattle.ndis_base.specs.declared.Phase.TheVariants as phase
use Rattle.journal_types.specs.declared.Row.{Row}
use Rattle.journal_types.specs.declared.Target.{Target}
use Rattle.journal_types.specs.declared.Target.TheVariants.{Module, Bindings}
use Rattle.journal_types.specs.declared.Turn.{Turn}
use Rattle.stack_rules.specs.declared.LiveList.{LiveList}
use Rattle.stack_rules.specs.Tests.{is_down, is_running}
use Rattle.stack_rules.specs.Net.{Net, Modules, below, handlers_of}
use Rattle.stack_rules.specs.Outcome.{root, list_no}
use Rattle.stack_rules.specs.Rewires.{is_in}
use Rattle.stack_rules.specs.Targets.{has_receive, first_filter, filters_above, onward, homeward_by, homeward, turned_back}
use Rattle.stack_rules.specs.Places.{position, above}
use Rattle.std.proofs.lemmas.List.{take_all}
use Rattle.place_laws.proofs.Spots.{in_reverse}
use Rattle.place_laws.proofs.Keepers.{Facts}
use Rattle.place_laws.proofs.Looks.{look}
use Rattle.promise_rules.specs.Rows.{issue_of, frames_in}
use Rattle.promise_rules.specs.Carried.{carried_up, filters_in, config_of}
use Rattle.family_laws.proofs.Known.{longest, Looks, AllLook}
use Rattle.family_laws.specs.Claims.{from_filter, frames_of, HasSetup, AllSetUp}
use Rattle.configuration_laws.specs.Claims.{left_up, IsLeft}
use Rattle.family_laws.proofs.Known.{set_of}
use Rattle.configuration_laws.proofs.Carries.{first_has, goes_onward, back_is, above_reverse, from_below_same, distinct_reverse}
use Rattle.configuration_laws.proofs.Rows.{sends_in, ReceivesTo, Owes, AllOwe, Claimed}

pub record IsKnown (turns : List Turn) (net : Net) : Type 0 where
  pub facts : Facts net
  pub set_up : (net.phase ≡ phase.Halted → ⊥) → AllSetUp turns net.modules net.modules.order
  pub live : (l : LiveList) → look net l.list.0 ≡ Some l → net.phase ≡ phase.Halted → ⊥
  pub indicates : is_running net.modules.miniport ≡ true → net.phase ≡ phase.Halted → ⊥
  pub claimed : Claimed longest turns (reverse net.modules.order) net

module _ (turns : List Turn) (net : Net) (k : IsKnown turns net) where
  abbrev pub OweAll : List Row → Type 0
  OweAll = AllOwe longest turns (reverse net.modules.order)

  abbrev pub Owe : Row → Type 0
  Owe = Owes longest turns (reverse net.modules.order)

  abbrev pub LookAll : List Row → Type 0
  LookAll = AllLook turns net.modules.order

  pub frames_told : (l : LiveList) → look net l.list.0 ≡ Some l → frames_of turns l.list.0 ≡ l.frames
  frames_told l f = ap frames_in (k.claimed.told l.list.0 l f).is

  pub sends_told : (l : LiveList) → look net l.list.0 ≡ Some l → sends_in (issue_of turns l.list.0) ≡ is_down l.direction
  sends_told l f = ap sends_in (k.claimed.told l.list.0 l f).is

  -- the filters that a list passes on its way up from a position end the order from the bottom
  pub record AreEnd (fs : List ℕ) : Type 0 where
    pub within : (g : ℕ) → is_in g fs ≡ true → is_in g net.modules.order ≡ true
    pub ends : (g : ℕ) → is_in g fs ≡ true → from_filter g fs ≡ from_filter g (reverse net.modules.order)

  end_set : (fs : List ℕ) → ((g : ℕ) → is_in g fs ≡ true → is_in g net.modules.order ≡ true) → (net.phase ≡ phase.Halted → ⊥) → AllSetUp turns net.modules fs
  end_set [] h runs = tt
  end_set (f ∷ fs) h runs = (set_of turns net.modules f net.modules.order (h f (ap (λ b. b || is_in f fs) (itself f))) (k.set_up runs), end_set fs (λ g i. h g (more (f == g) (is_in g fs) i)) runs)
    where
      itself : (n : ℕ) → (n == n) ≡ true
      itself n = grind (arith, nat_tests)

      more : (a b : Bool) → b ≡ true → (a || b) ≡ true
      more true b i = refl
      more false b i = i

  -- the target of a list on its way up has the receive pair
  pub receives_to : (fs : List ℕ) → AreEnd fs → (net.phase ≡ phase.Halted → ⊥) → ReceivesTo longest turns (reverse net.modules.order) (first_filter (has_receive net.modules) fs Bindings)
  receives_to fs end runs = by (first_filter (has_receive net.modules) fs Bindings) refl
    where
      by : (to : Target) → first_filter (has_receive net.modules) fs Bindings ≡ to → ReceivesTo longest turns (reverse net.modules.order) to
      by (Module (Filter g)) e =
          let has = first_has (has_receive net.modules) fs g e in
          let s : HasSetup turns net.modules g = set_of turns net.modules g net.modules.order (end.within g has.1) (k.set_up runs) in
          record { setup = s.entry.setup; told = s.setup; pair = sym (ap (λ o. (handlers_of o).receive) s.found) ∙ has.0 }
      by (Module Miniport) e = tt
      by (Module (Binding b)) e = tt
      by Bindings e = tt

  -- onwards
  up_owes : (list : ListNo) (fs : List ℕ) → AreEnd fs → (net.phase ≡ phase.Halted → ⊥) → IsLeft longest turns fs list.0 → IsLeft longest turns (left_up (reverse net.modules.order) (first_filter (has_receive net.modules) fs Bindings)) list.0 × ReceivesTo longest turns (reverse net.modules.order) (first_filter (has_receive net.modules) fs Bindings)
  up_owes list fs end runs h =
      (sym (goes_onward longest turns net.modules (reverse net.modules.order) fs (frames_of turns list.0) (end_set fs end.within runs) end.ends) ∙ h, receives_to fs end runs)

  pub onward_owes : (list : ListNo) (d : Direction) (i : ℕ) → (net.phase ≡ phase.Halted → ⊥) → AreEnd (reverse (filters_above net.modules i)) → (is_down d ≡ false → IsLeft longest turns (reverse (filters_above net.modules i)) list.0) → Owe (onward net.modules list d i)
  onward_owes list direction.Down i runs end h = tt
  onward_owes list direction.Up i runs end h = up_owes list (reverse (filters_above net.modules i)) end runs (h refl)
  onward_owes list direction.Lent i runs end h = up_owes list (reverse (filters_above net.modules i)) end runs (h refl)

  -- above a filter, and above the miniport
  pub above_is : (f : ℕ) → is_in f net.modules.order ≡ true → reverse (filters_above net.modules (above f net.modules.order + 1)) ≡ below f (reverse net.modules.order)
  above_is f i = let less : above f net.modules.order + 1 - 1 ≡ above f net.modules.order = omega arith in ap (λ n. reverse (take n net.modules.order)) less ∙ above_reverse f net.modules.order k.facts.distinct i

  in_below : (f g : ℕ) (xs : List ℕ) → is_in g (below f xs) ≡ true → is_in g xs ≡ true
  in_below f g [] h = h
  in_below f g (y ∷ ys) h =
      let cases : (b : Bool) → is_in g (cond b ys (below f ys)) ≡ true → ((y == g) || is_in g ys) ≡ true = elim [
        | true ↦ λ i. more (y == g) (is_in g ys) i
        | false ↦ λ i. more (y == g) (is_in g ys) (in_below f g ys i)
      ] in
      cases (y == f) h
    where
      more : (a b : Bool) → b ≡ true → (a || b) ≡ true
      more true b i = refl
      more false b i = i

  pub below_end : (f : ℕ) → AreEnd (below f (reverse net.modules.order))
  below_end f = record {
    within = λ g i. sym (in_reverse g net.modules.order) ∙ in_below f g (reverse net.modules.order) i;
    ends = λ g i. from_below_same f g (reverse net.modules.order) (distinct_reverse net.modules.order k.facts.distinct) i;
  }

  pub above_end : (f : ℕ) → is_in f net.modules.order ≡ true → AreEnd (reverse (filters_above net.modules (above f net.modules.order + 1)))
  above_end f i = subst AreEnd (sym (above_is f i)) (below_end f)

  pub all_above : reverse (filters_above net.modules (length net.modules.order + 1)) ≡ reverse net.modules.order
  all_above = ap reverse (take_all (length net.modules.order + 1 - 1) net.modules.order (omega arith))

  pub all_end : AreEnd (reverse (filters_above net.modules (length net.modules.order + 1)))
  all_end = subst AreEnd (sym all_above) record { within = λ g i. sym (in_reverse g net.modules.order) ∙ i; ends = λ g i. refl }

  -- homewards
  homeward_by_owes : (ms : Modules) (list : ListNo) (owner : ModuleId) (d : Direction) (i : ℕ) (s : ListStatus) → Owe (homeward_by ms list owner d i s)
  homeward_by_owes ms list owner direction.Down i s = tt
  homeward_by_owes ms list owner direction.Up i s = tt
  homeward_by_owes ms list owner direction.Lent i s = tt

  pub homeward_owes : (l : LiveList) (i : ℕ) (s : ListStatus) → Owe (homeward net.modules l i s)
  homeward_owes l i s = homeward_by_owes net.modules l.list l.owner l.direction i s

  pub back_owes : (l : LiveList) (m : ModuleId) (s : ListStatus) → OweAll (turned_back net.modules l m s)
  back_owes l m s = (tt, (homeward_owes l (position net.modules.order m) s, tt))

  -- a list of its own that a module issues
  pub root_left : (n : ℕ) (owner : ModuleId) (d : Direction) (cancel : Option ℕ) (frames : List (List ℕ)) → Looks turns net.modules.order (root net n owner d cancel frames) → IsLeft longest turns (reverse net.modules.order) n
  root_left n owner d cancel frames h =
      sym (ap (λ r. carried_up longest turns (filters_in (config_of turns r)) (frames_of turns r)) h.root ∙ ap (λ fs. carried_up longest turns fs (frames_of turns n)) h.filters ∙ back_is longest turns net.modules.order (frames_of turns n))

  pub sent_owes : (n : ℕ) (owner : ModuleId) (cancel : Option ℕ) (frames : List (List ℕ)) → (net.phase ≡ phase.Halted → ⊥) → Looks turns net.modules.order (root net n owner direction.Down cancel frames) →
      Owe (root net n owner direction.Down cancel frames) × Owe (onward net.modules (list_no n) direction.Down 0)
  sent_owes n owner cancel frames runs h = (h.issue, tt)

  pub risen_owes : (n : ℕ) (owner : ModuleId) (frames : List (List ℕ)) → (net.phase ≡ phase.Halted → ⊥) → Looks turns net.modules.order (root net n owner direction.Up None frames) →
      Owe (root net n owner direction.Up None frames) × Owe (onward net.modules (list_no n) direction.Up (length net.modules.order + 1))
  risen_owes n owner frames runs h =
      (h.issue, onward_owes (list_no n) direction.Up (length net.modules.order + 1) runs all_end (λ d. subst (λ fs. IsLeft longest turns fs n) (sym all_above) (root_left n owner direction.Up None frames h)))
