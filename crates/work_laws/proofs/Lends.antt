-- What a list that is lent for one turn adds to the work.
use Rattle.std.proofs.Common.{◌≡◌, ℕ, ◌+◌, ◌*◌, ◌≤◌, ◌==◌, Bool, true, false, List, [], ◌∷◌, ◌++◌, Option, Some, None, length, refl, arith, ap, sym, subst, ◌∙◌, count_by, filter, reverse, mul-le-mul_left}
use Rattle.std.proofs.lemmas.Bool.Decides.{nat_tests}
use Rattle.ndis_base.specs.declared.ListNo.{ListNo}
use Rattle.ndis_base.specs.declared.ListStatus.{ListStatus}
use Rattle.ndis_base.specs.declared.ListStatus.TheVariants.{Success, Paused, Dropped, Resources}
use Rattle.ndis_base.specs.declared.ModuleId.{ModuleId}
use Rattle.ndis_base.specs.declared.ModuleId.TheVariants.{Miniport, Filter, Binding}
use Rattle.ndis_base.specs.declared.Direction.TheVariants as direction
use Rattle.ndis_base.specs.declared.Origin.TheVariants as origin
use Rattle.journal_types.specs.declared.Handler.TheVariants as handler
use Rattle.journal_types.specs.declared.How.TheVariants as how
use Rattle.journal_types.specs.declared.PassWay.TheVariants as way
use Rattle.journal_types.specs.declared.Target.{Target}
use Rattle.journal_types.specs.declared.Row.{Row}
use Rattle.journal_types.specs.declared.Row.TheVariants as row
use Rattle.program_types.specs.Apply.{applied}
use Rattle.stack_rules.specs.declared.Attached.{Attached}
use Rattle.stack_rules.specs.declared.LiveList.{LiveList}
use Rattle.stack_rules.specs.declared.Stand.TheVariants as stand
use Rattle.stack_rules.specs.declared.Thing.TheVariants as thing
use Rattle.stack_rules.specs.Tests.{is_running, phase_is_running, same_frames}
use Rattle.stack_rules.specs.Net.{Net, Modules, after, after_rows, attached, lists, list_of, had_by}
use Rattle.stack_rules.specs.Places.{position, position_of_target, has_clone, is_full, is_clone_of}
use Rattle.stack_rules.specs.Targets.{next_up, has_receive}
use Rattle.stack_rules.specs.Outcome.{root, list_no, config_no, max_frame}
use Rattle.stack_rules.specs.Deliveries.{takers, delivered, echoes}
use Rattle.stack_rules.specs.Receives.{lent_home, lent_back, copied, lent_handled, lent_at, lent_delivery, lent_up, lent_rows, lend_outcome}
use Rattle.stack_rules.specs.Work.{bottom, echo_count, work}
use Rattle.rule_basics.specs.Live.{is_live}
use Rattle.rule_basics.specs.Numbers.{IsNumbered}
use Rattle.rule_basics.proofs.Lists.{lists-append}
use Rattle.rule_basics.proofs.Numbered.{numbered_after, next_is_free}
use Rattle.home_laws.proofs.Known.{by_test}
use Rattle.work_laws.specs.Bounds.{receive_room}
use Rattle.work_laws.proofs.Weights.{Stay, load, work_least, work_after, load_pass, load_issue, load_give, load_back, load_home, passed_work}
use Rattle.work_laws.proofs.Clones.{clones_after}
use Rattle.work_laws.proofs.Ways.{position_most}
use Rattle.work_laws.proofs.Adds.{OutcomeAdds, adds_none, up_room}
use Rattle.work_laws.proofs.Hands.{Found, found_give, found_back, found_issue, found_pass}
use Rattle.work_laws.proofs.Lowers.{stay_home}
use Rattle.work_laws.proofs.Deliveries.{Delivers, delivered_most, echoes_most, after_rows-append}

-- the lent list is there, and nothing but lists has changed
record IsLent (net s : Net) (l : LiveList) : Type 0 where
  modules : s.modules ≡ net.modules
  echo : echo_count s ≡ echo_count net
  numbered : IsNumbered s
  found : Found s l
  number : l.list ≡ list_no net.next.list
  root : l.origin ≡ origin.Root
  next : s.next.list ≡ net.next.list + 1

-- what rows add from a state on
record Lends (net : Net) (cloned : ℕ → Bool) (s : Net) (rows : List Row) : Type 0 where
  stays : Stay (has_clone s) (has_clone (after_rows s rows))
  most : load (after_rows s rows) cloned ≤ load s cloned + receive_room net

found_new : (n : ℕ) (ls : List LiveList) (l : LiveList) → l.list.0 ≡ n → is_live n ls ≡ false → list_of n (ls ++ l ∷ []) ≡ Some l
found_new n [] l e h = let t : (l.list.0 == n) ≡ true = grind (arith, nat_tests) in rw t refl
found_new n (x ∷ ls) l e h =
    let t : (x.list.0 == n) ≡ false = grind (arith, nat_tests) in
    let u : is_live n ls ≡ false = grind (arith, nat_tests) in
    rw t (found_new n ls l e u)

no_root : (l : LiveList) (n : ℕ) → l.origin ≡ origin.Root → is_clone_of n l.origin ≡ false
no_root l n e = ap (is_clone_of n) e

module _ (net : Net) (cloned : ℕ → Bool) where
  home_stays : (s : Net) (l : LiveList) (status : ListStatus) → IsLent net s l → Stay (has_clone s) (has_clone (after s (row.Home (list_no net.next.list) Miniport status)))
  home_stays s l status h =
      subst (λ (n : ListNo). Stay (has_clone s) (has_clone (after s (row.Home n Miniport status)))) h.number
      (stay_home s l Miniport status (has_clone s) h.numbered h.found (λ n t. (t, no_root l n h.root)))

  home_lends : (s : Net) (l : LiveList) (status : ListStatus) → IsLent net s l → Lends net cloned s (lent_home (list_no net.next.list) status)
  home_lends s l status h = record {
    stays = home_stays s l status h;
    most = let less = load_home s cloned (list_no net.next.list) Miniport status in omega (arith, less);
  }

  given_lent : (s : Net) (l : LiveList) (m : ModuleId) → IsLent net s l → IsLent net (after s (row.Give (list_no net.next.list) m handler.ReceiveLent)) (had_by m l)
  given_lent s l m h =
      subst (λ (n : ListNo). IsLent net (after s (row.Give n m handler.ReceiveLent)) (had_by m l)) h.number
      record {
        modules = h.modules;
        echo = h.echo;
        numbered = numbered_after s (row.Give l.list m handler.ReceiveLent) tt h.numbered;
        found = found_give s l m handler.ReceiveLent h.found;
        number = h.number;
        root = h.root;
        next = h.next;
      }

  turned_lent : (s : Net) (l : LiveList) (m : ModuleId) (status : ListStatus) → IsLent net s l → IsLent net (after s (row.TurnBack (list_no net.next.list) m status)) (had_by m l)
  turned_lent s l m status h =
      subst (λ (n : ListNo). IsLent net (after s (row.TurnBack n m status)) (had_by m l)) h.number
      record {
        modules = h.modules;
        echo = h.echo;
        numbered = numbered_after s (row.TurnBack l.list m status) tt h.numbered;
        found = found_back s l m status h.found;
        number = h.number;
        root = h.root;
        next = h.next;
      }

  back_lends : (s : Net) (l : LiveList) (m : ModuleId) (status : ListStatus) → IsLent net s l → Lends net cloned s (lent_back (list_no net.next.list) m status)
  back_lends s l m status h =
      let next : Net = after s (row.TurnBack (list_no net.next.list) m status) in
      let rest : Lends net cloned next (lent_home (list_no net.next.list) status) = home_lends next (had_by m l) status (turned_lent s l m status h) in
      let first = load_back s cloned (list_no net.next.list) m status in
      let last = rest.most in
      record { stays = λ n t. rest.stays n (clones_after s (row.TurnBack (list_no net.next.list) m status) h.numbered refl n t); most = omega (arith, first, last) }

  same_up : (s : Net) (l : LiveList) (to : Target) → IsLent net s l → passed_work s way.Up to ≡ passed_work net way.Up to
  same_up s l to h =
      ap (λ (ms : Modules). 2 * position_of_target ms.order to + (length ms.order + 1) + 1 + 3 * (length ms.order + 1) * echo_count s + 1) h.modules
      ∙ ap (λ e. 2 * position_of_target net.modules.order to + bottom net + 1 + 3 * bottom net * e + 1) h.echo

  less_than : (n : ℕ) → (n == n + 1) ≡ false
  less_than n = grind (arith, nat_tests)

  copied_lends : (s : Net) (l : LiveList) (a : Attached) (frames : List (List ℕ)) → IsLent net s l → Lends net cloned s (copied net a (list_no net.next.list) frames)
  copied_lends s l a frames h =
      let n : ListNo = list_no (net.next.list + 1) in
      let i : ℕ = position net.modules.order (Filter a.filter) in
      let to : Target = next_up net.modules i in
      let issue : Row = row.Issue n (Filter a.filter) (config_no net.modules.config) direction.Up None (origin.Copy (list_no net.next.list)) frames in
      let two : Net = after s issue in
      let three : Net = after two (row.Pass n way.Up to) in
      let numbered2 : IsNumbered two = numbered_after s issue (sym h.next) h.numbered in
      let found2 : Found two l = found_issue s l n (Filter a.filter) (config_no net.modules.config) direction.Up None (origin.Copy (list_no net.next.list)) frames h.found in
      let apart : (l.list.0 == n.0) ≡ false = ap (λ (k : ListNo). k.0 == net.next.list + 1) h.number ∙ less_than net.next.list in
      let found3 : Found three l = found_pass two l n way.Up to apart found2 in
      let numbered3 : IsNumbered three = numbered_after two (row.Pass n way.Up to) tt numbered2 in
      let issued = load_issue s cloned n (Filter a.filter) (config_no net.modules.config) direction.Up None (origin.Copy (list_no net.next.list)) frames in
      let passed : load three cloned ≤ load two cloned + passed_work s way.Up to = load_pass two cloned n way.Up to in
      let same = same_up s l to h in
      let most = position_most net.modules.order (Filter a.filter) in
      let room = up_room net i most in
      let less : load (after three (row.Home (list_no net.next.list) Miniport Success)) cloned ≤ load three cloned = load_home three cloned (list_no net.next.list) Miniport Success in
      let last : Stay (has_clone three) (has_clone (after three (row.Home (list_no net.next.list) Miniport Success))) =
      subst (λ (k : ListNo). Stay (has_clone three) (has_clone (after three (row.Home k Miniport Success)))) h.number
      (stay_home three l Miniport Success (has_clone three) numbered3 found3 (λ k t. (t, no_root l k h.root))) in
      record {
        stays = λ k t. last k (clones_after two (row.Pass n way.Up to) numbered2 refl k (clones_after s issue h.numbered refl k t));
        most = omega (arith, issued, passed, same, room, less);
      }

  delivery_lends : (s : Net) (l : LiveList) (frames : List (List ℕ)) → IsLent net s l → Lends net cloned s (lent_delivery net (list_no net.next.list) frames)
  delivery_lends s l frames h =
      by_test (Lends net cloned s) (phase_is_running net.phase) _ _
      (λ running.
      let bs : List ℕ = takers net frames in
      let rows : List Row = delivered net (list_no net.next.list) frames how.Lent (net.next.list + 1) bs in
      let first : Delivers net cloned l s rows (count_by (echoes net) bs) = delivered_most net cloned l (list_no net.next.list) frames how.Lent bs (net.next.list + 1) s h.modules h.numbered h.found (sym h.next) in
      let next : Net = after_rows s rows in
      let count = echoes_most net frames running in
      let times : 3 * bottom net * count_by (echoes net) bs ≤ 3 * bottom net * echo_count net = mul-le-mul_left (3 * bottom net) count in
      let whole : 3 * bottom net * (1 + echo_count net) ≡ 3 * bottom net + 3 * bottom net * echo_count net = omega arith in
      let less : load (after next (row.Home (list_no net.next.list) Miniport Success)) cloned ≤ load next cloned = load_home next cloned (list_no net.next.list) Miniport Success in
      let delivered = first.most in
      let last : Stay (has_clone next) (has_clone (after next (row.Home (list_no net.next.list) Miniport Success))) =
      subst (λ (k : ListNo). Stay (has_clone next) (has_clone (after next (row.Home k Miniport Success)))) h.number
      (stay_home next l Miniport Success (has_clone next) first.numbered first.found (λ k t. (t, no_root l k h.root))) in
      let end : load (after next (row.Home (list_no net.next.list) Miniport Success)) cloned ≤ load s cloned + receive_room net = omega (arith, times, whole, less, delivered) in
      let same : after_rows s (rows ++ lent_home (list_no net.next.list) Success) ≡ after next (row.Home (list_no net.next.list) Miniport Success) = after_rows-append s rows (lent_home (list_no net.next.list) Success) in
      record {
        stays = subst (λ (n : Net). Stay (has_clone s) (has_clone n)) (sym same) (λ k t. last k (first.stays k t));
        most = subst (λ (n : Net). load n cloned ≤ load s cloned + receive_room net) (sym same) end;
      })
      (λ _. back_lends s l (Binding 0) Paused h)

  -- from each state with the lent list
  abbrev AllLend : List Row → Type 0
  AllLend rows = (s : Net) (l : LiveList) → IsLent net s l → Lends net cloned s rows

  handled_lends : (a : Attached) (frames : List (List ℕ)) (further : List Row) (made : Option (List (List ℕ))) → AllLend further → AllLend (lent_handled net a (list_no net.next.list) frames further made)
  handled_lends a frames further None f s l h = back_lends s l (Filter a.filter) Dropped h
  handled_lends a frames further (Some made) f s l h =
      by_test (Lends net cloned s) (same_frames made frames) _ _
      (λ _. f s l h)
      (λ _. by_test (Lends net cloned s) (is_full net (Filter a.filter)) _ _ (λ _. back_lends s l (Filter a.filter) Resources h) (λ _. copied_lends s l a made h))

  at_lends : (o : Option Attached) (frames : List (List ℕ)) (further : List Row) → AllLend further → AllLend (lent_at net o (list_no net.next.list) frames further)
  at_lends None frames further f s l h = f s l h
  at_lends (Some a) frames further f s l h =
      by_test (Lends net cloned s) (is_running a.state) _ _
      (λ _.
      let give : Row = row.Give (list_no net.next.list) (Filter a.filter) handler.ReceiveLent in
      let next : Net = after s give in
      let made : Option (List (List ℕ)) = applied (max_frame net.head) a.setup.receive frames in
      let rest : Lends net cloned next (lent_handled net a (list_no net.next.list) frames further made) = handled_lends a frames further made f next (had_by (Filter a.filter) l) (given_lent s l (Filter a.filter) h) in
      let first = load_give s cloned (list_no net.next.list) (Filter a.filter) handler.ReceiveLent in
      let last = rest.most in
      record { stays = λ k t. rest.stays k (clones_after s give h.numbered refl k t); most = omega (arith, first, last) })
      (λ _. back_lends s l (Filter a.filter) Paused h)

  up_lends : (frames : List (List ℕ)) (fs : List ℕ) → AllLend (lent_up net (list_no net.next.list) frames fs)
  up_lends frames [] s l h = delivery_lends s l frames h
  up_lends frames (f ∷ fs) s l h = at_lends (attached f net.modules.filters) frames (lent_up net (list_no net.next.list) frames fs) (up_lends frames fs) s l h

lent_adds : (net : Net) (frames : List (List ℕ)) → IsNumbered net → work (after_rows net (lent_rows net frames)) ≤ work net + receive_room net
lent_adds net frames h =
    let issue : Row = root net net.next.list Miniport direction.Lent None frames in
    let s : Net = after net issue in
    let fs : List ℕ = filter (has_receive net.modules) (reverse net.modules.order) in
    let rows : List Row = lent_up net (list_no net.next.list) frames fs in
    let l : LiveList = record { list = list_no net.next.list; owner = Miniport; direction = direction.Lent; cancel = None; origin = origin.Root; frames = frames; last = Miniport; stand = stand.Unplaced; crossed = None } in
    let lent : IsLent net s l = record {
      modules = refl;
      echo = refl;
      numbered = numbered_after net issue refl h;
      found = ap (list_of net.next.list) (lists-append net.things (thing.List l ∷ [])) ∙ found_new net.next.list (lists net.things) l refl (next_is_free net h);
      number = refl;
      root = refl;
      next = refl;
    } in
    let rest : Lends net (has_clone net) s rows = up_lends net (has_clone net) frames fs s l lent in
    let issued = load_issue net (has_clone net) (list_no net.next.list) Miniport (config_no net.modules.config) direction.Lent None origin.Root frames in
    let last = rest.most in
    let most = work_after (after_rows s rows) (has_clone net) (λ n t. rest.stays n (clones_after net issue h refl n t)) in
    let start = work_least net in
    omega (arith, issued, last, most, start)

pub lend_adds : (net : Net) (frames : List (List ℕ)) → IsNumbered net → OutcomeAdds net (receive_room net) (lend_outcome net frames)
lend_adds net frames h =
    by_test (OutcomeAdds net (receive_room net)) (is_running net.modules.miniport) _ _
    (λ _. by_test (OutcomeAdds net (receive_room net)) (is_full net Miniport) _ _ (λ _. adds_none net (receive_room net)) (λ _. lent_adds net frames h))
    (λ _. adds_none net (receive_room net))
