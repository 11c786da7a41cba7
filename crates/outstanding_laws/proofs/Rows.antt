-- What each row of a turn leaves of how the live lists were passed: by whom, and to which target.
use Rattle.std.proofs.Common.{◌≡◌, ℕ, ◌+◌, ◌<◌, ◌≤◌, ◌==◌, ◌⊎◌, Bool, true, false, List, Option, Some, None, option_map, length, refl, arith, ap, sym, subst, ◌∙◌}
use Rattle.std.proofs.lemmas.Bool.Decides.{nat_tests}
use Rattle.ndis_base.specs.declared.ModuleId.{ModuleId}
use Rattle.ndis_base.specs.declared.ModuleId.TheVariants.{Miniport, Filter, Binding}
use Rattle.ndis_base.specs.declared.ListNo.{ListNo}
use Rattle.ndis_base.specs.declared.ListStatus.{ListStatus}
use Rattle.ndis_base.specs.declared.ConfigNo.{ConfigNo}
use Rattle.ndis_base.specs.declared.Direction.{Direction}
use Rattle.ndis_base.specs.declared.Origin.{Origin}
use Rattle.journal_types.specs.declared.Handler.{Handler}
use Rattle.journal_types.specs.declared.PassWay.{PassWay}
use Rattle.journal_types.specs.declared.PassWay.TheVariants as way
use Rattle.journal_types.specs.declared.Target.{Target}
use Rattle.journal_types.specs.declared.Target.TheVariants.{Module, Bindings}
use Rattle.journal_types.specs.declared.OutWay.TheVariants as out
use Rattle.journal_types.specs.declared.Row.{Row}
use Rattle.journal_types.specs.declared.Row.TheVariants as row
use Rattle.stack_rules.specs.declared.LiveList.{LiveList}
use Rattle.stack_rules.specs.declared.Stand.{Stand}
use Rattle.stack_rules.specs.declared.Stand.TheVariants as stand
use Rattle.stack_rules.specs.Tests.{is_down}
use Rattle.stack_rules.specs.Net.{Net, Modules, after, lists, list_of, had_by, taken_by, request_of}
use Rattle.stack_rules.specs.Places.{position}
use Rattle.stack_rules.specs.Targets.{next_up, next_done}
use Rattle.rule_basics.specs.Live.{is_live}
use Rattle.rule_basics.proofs.Numbered.{lists-things_done, lists-status, lists-without_status}
use Rattle.place_laws.proofs.Good.{by_number, some_same, one_found, changed_is}
use Rattle.place_laws.proofs.Looks.{look, IsUpdate, passing, keeping, issued, look_pass, look_keep, look_give, look_back, look_out, look_home, look_issue, not_live}
use Rattle.state_laws.specs.Laws.{IsThere}
use Rattle.pause_laws.proofs.Hands.{is_skipped}
use Rattle.outstanding_laws.specs.Outstanding.{passes_sends, passes_receives}

-- a module that passes such lists of an owner: sends of an owner above it, receives of one below it
pub record May (ms : Modules) (sends : Bool) (owner m : ModuleId) : Type 0 where
  pub sent : sends ≡ true → (passes_sends ms m ≡ true) × (position ms.order owner < position ms.order m)
  pub risen : sends ≡ false → (passes_receives ms m ≡ true) × (position ms.order m < position ms.order owner)

-- a binding keeps receives only, any other module what it passes
abbrev pub MayKeep : Modules → Bool → ModuleId → ModuleId → Type 0
MayKeep ms sends owner Miniport = May ms sends owner Miniport
MayKeep ms sends owner (Filter f) = May ms sends owner (Filter f)
MayKeep ms sends owner (Binding b) = (sends ≡ false) × ((b < length ms.bindings) × (0 < position ms.order owner))

-- a send goes down to a module that passes it
abbrev pub GoesDown : Modules → ModuleId → Target → Type 0
GoesDown ms owner Bindings = Unit {0}
GoesDown ms owner (Module m) = (passes_sends ms m ≡ true) × (position ms.order owner < position ms.order m)

-- a receive goes back to its owner, or to a filter of the order that passes receives
abbrev pub GoesBack : Modules → ModuleId → Target → Type 0
GoesBack ms owner to = (to ≡ Module owner) ⊎ ((f : ℕ) × (to ≡ Module (Filter f)) × (passes_receives ms (Filter f) ≡ true))

-- how a list of an owner stands that a module had last
abbrev pub Fits : Modules → Bool → ModuleId → ModuleId → Stand → Type 0
Fits ms sends owner last stand.Unplaced = Unit {0}
Fits ms sends owner last (stand.Kept m) = (last ≡ m) × MayKeep ms sends owner m
Fits ms sends owner last (stand.Passed way.Down to) = (sends ≡ true) × GoesDown ms owner to
Fits ms sends owner last (stand.Passed way.Up to) = (sends ≡ false) × ((passes_receives ms last ≡ true) × ((to ≡ next_up ms (position ms.order last)) × (position ms.order last ≤ position ms.order owner)))
Fits ms sends owner last (stand.Passed (way.Done status) to) =
    (sends ≡ true) × ((passes_sends ms last ≡ true) × ((to ≡ next_done ms (position ms.order last) owner) × (position ms.order owner < position ms.order last)))
Fits ms sends owner last (stand.Passed (way.Back status) to) = (sends ≡ false) × GoesBack ms owner to

abbrev pub IsRight : Modules → LiveList → Type 0
IsRight ms l = Fits ms (is_down l.direction) l.owner l.last l.stand

-- a fact of each live list by its number
abbrev pub All : (ℕ → LiveList → Type 0) → Net → Type 0
All P net = (k : ℕ) (x : LiveList) → look net k ≡ Some x → P k x

-- one list is now this one
all_update : (P Q : ℕ → LiveList → Type 0) (net next : Net) (n : ℕ) (o : Option LiveList) → IsUpdate net next n o → ((k : ℕ) (x : LiveList) → (n == k) ≡ false → P k x → Q k x) → ((x : LiveList) → o ≡ Some x → Q n x) → All P net → All Q next
all_update P Q net next n o u go here h k x f =
    by_number n k (Q k x) (λ t. go k x t (h k x (sym (u.others k t) ∙ f))) (λ e. subst (λ i. Q i x) e (here x (sym u.here ∙ ap (look next) e ∙ f)))

-- one list has changed
all_changed : (P Q : ℕ → LiveList → Type 0) (net next : Net) (n : ℕ) (g : LiveList → LiveList) → IsUpdate net next n (option_map g (look net n)) → ((k : ℕ) (x : LiveList) → (n == k) ≡ false → P k x → Q k x) → ((y : LiveList) → look net n ≡ Some y → P n y → Q n (g y)) → All P net → All Q next
all_changed P Q net next n g u go here h =
    all_update P Q net next n (option_map g (look net n)) u go
    (λ x e. let c = changed_is g (look net n) x e in subst (Q n) (sym c.2) (here c.0 c.1 (h n c.0 c.1))) h

all_gone : (P : ℕ → LiveList → Type 0) (net next : Net) (n : ℕ) → IsUpdate net next n None → All P net → All P next
all_gone P net next n u h = all_update P P net next n None u (λ k x t p. p) (λ x e. cc) h

all_same : (P : ℕ → LiveList → Type 0) (net next : Net) → lists next.things ≡ lists net.things → All P net → All P next
all_same P net next e h k x f = h k x (ap (list_of k) (sym e) ∙ f)

apart_not : (n k : ℕ) → (n == k) ≡ false → n ≡ k → ⊥
apart_not n k t e = grind (arith, nat_tests)

module _ (ms : Modules) (start : Net) (begun : All (λ k x. k < start.next.list) start) where
  -- the list is of the owner and the direction that it had, and the owner is a module of the configuration
  pub record IsSame (k : ℕ) (x : LiveList) : Type 0 where
    pub owner : (l : LiveList) → look start k ≡ Some l → x.owner ≡ l.owner
    pub direction : (l : LiveList) → look start k ≡ Some l → x.direction ≡ l.direction
    pub there : IsThere start x.owner

  pub record IsGood (k : ℕ) (x : LiveList) : Type 0 where
    pub same : IsSame k x
    pub right : IsRight ms x

  -- one list is in a module's hand
  pub record IsHeld (n : ℕ) (m : ModuleId) (k : ℕ) (x : LiveList) : Type 0 where
    pub same : IsSame k x
    pub right : (n == k) ≡ false → IsRight ms x
    pub had : n ≡ k → x.last ≡ m

  -- the module that had it last still did
  abbrev pub IsKin : ℕ → LiveList → Type 0
  IsKin k x = (l : LiveList) → look start k ≡ Some l → x.last ≡ l.last

  abbrev pub IsLow : ℕ → ℕ → LiveList → Type 0
  IsLow n k x = k < n

  -- a state inside a turn: no list is in a hand, or one is
  pub record Goes (net : Net) : Type 0 where
    pub all : All IsGood net
    pub below : All (IsLow net.next.list) net
    pub more : start.next.list ≤ net.next.list

  pub record Has (n : ℕ) (m : ModuleId) (net : Net) : Type 0 where
    pub all : All (IsHeld n m) net
    pub below : All (IsLow net.next.list) net
    pub more : start.next.list ≤ net.next.list

  below_changed : (net next : Net) (n : ℕ) (g : LiveList → LiveList) → IsUpdate net next n (option_map g (look net n)) → All (IsLow net.next.list) net → All (IsLow net.next.list) next
  below_changed net next n g u h = all_changed (IsLow net.next.list) (IsLow net.next.list) net next n g u (λ k x t p. p) (λ y f p. p) h

  -- a module has a list, or is known to have had it last
  give_by : (net next : Net) (n : ℕ) (m : ModuleId) → IsUpdate net next n (option_map (had_by m) (look net n)) → All IsGood net → All (IsHeld n m) next
  give_by net next n m u h =
      all_changed IsGood (IsHeld n m) net next n (had_by m) u
      (λ k x t p. record { same = p.same; right = λ _. p.right; had = λ e. absurd (apart_not n k t e) })
      (λ y f p. record { same = record { owner = p.same.owner; direction = p.same.direction; there = p.same.there }; right = λ t. absurd (apart_not n n t refl); had = λ e. refl }) h

  pub has_give : (net : Net) (list : ListNo) (m : ModuleId) (handler : Handler) → Goes net → Has list.0 m (after net (row.Give list m handler))
  has_give net list m handler h =
      let u = look_give net list m handler in
      record { all = give_by net (after net (row.Give list m handler)) list.0 m u h.all; below = below_changed net (after net (row.Give list m handler)) list.0 (had_by m) u h.below; more = h.more }

  pub has_back : (net : Net) (list : ListNo) (m : ModuleId) (status : ListStatus) → Goes net → Has list.0 m (after net (row.TurnBack list m status))
  has_back net list m status h =
      let u = look_back net list m status in
      record { all = give_by net (after net (row.TurnBack list m status)) list.0 m u h.all; below = below_changed net (after net (row.TurnBack list m status)) list.0 (had_by m) u h.below; more = h.more }

  pub has_again : (net : Net) (list : ListNo) (m k : ModuleId) (status : ListStatus) → Has list.0 k net → Has list.0 m (after net (row.TurnBack list m status))
  has_again net list m k status h =
      let next : Net = after net (row.TurnBack list m status) in
      let u = look_back net list m status in
      record {
        all = all_changed (IsHeld list.0 k) (IsHeld list.0 m) net next list.0 (had_by m) u
            (λ i x t p. record { same = p.same; right = p.right; had = λ e. absurd (apart_not list.0 i t e) })
            (λ y f p. record { same = record { owner = p.same.owner; direction = p.same.direction; there = p.same.there }; right = λ t. absurd (apart_not list.0 list.0 t refl); had = λ e. refl }) h.all;
        below = below_changed net next list.0 (had_by m) u h.below;
        more = h.more;
      }

  pub has_known : (net : Net) (n : ℕ) (m : ModuleId) → ((x : LiveList) → look net n ≡ Some x → x.last ≡ m) → Goes net → Has n m net
  has_known net n m is h = record {
    all = λ k x f. let p : IsGood k x = h.all k x f in record { same = p.same; right = λ _. p.right; had = λ e. is x (ap (look net) e ∙ f) };
    below = h.below;
    more = h.more;
  }

  -- a list that is in a hand is passed on, or kept
  pub pass_held : (net : Net) (list : ListNo) (m : ModuleId) (way : PassWay) (to : Target) → ((x : LiveList) → look net list.0 ≡ Some x → Fits ms (is_down x.direction) x.owner m (stand.Passed way to)) → Has list.0 m net → Goes (after net (row.Pass list way to))
  pass_held net list m way to may h =
      let next : Net = after net (row.Pass list way to) in
      let u = look_pass net list way to in
      record {
        all = all_changed (IsHeld list.0 m) IsGood net next list.0 (passing way to) u
            (λ k x t p. record { same = p.same; right = p.right t })
            (λ y f p. record { same = record { owner = p.same.owner; direction = p.same.direction; there = p.same.there }; right = subst (λ k. Fits ms (is_down y.direction) y.owner k (stand.Passed way to)) (sym (p.had refl)) (may y f) }) h.all;
        below = below_changed net next list.0 (passing way to) u h.below;
        more = h.more;
      }

  pub keep_held : (net : Net) (list : ListNo) (k m : ModuleId) → ((x : LiveList) → look net list.0 ≡ Some x → MayKeep ms (is_down x.direction) x.owner m) → Has list.0 k net → Goes (after net (row.Keep list m))
  keep_held net list k m may h =
      let next : Net = after net (row.Keep list m) in
      let u = look_keep net list m in
      record {
        all = all_changed (IsHeld list.0 k) IsGood net next list.0 (keeping m) u
            (λ i x t p. record { same = p.same; right = p.right t })
            (λ y f p. record { same = record { owner = p.same.owner; direction = p.same.direction; there = p.same.there }; right = (refl, may y f) }) h.all;
        below = below_changed net next list.0 (keeping m) u h.below;
        more = h.more;
      }

  pub keep_good : (net : Net) (list : ListNo) (m : ModuleId) → ((x : LiveList) → look net list.0 ≡ Some x → MayKeep ms (is_down x.direction) x.owner m) → Goes net → Goes (after net (row.Keep list m))
  keep_good net list m may h =
      let next : Net = after net (row.Keep list m) in
      let u = look_keep net list m in
      record {
        all = all_changed IsGood IsGood net next list.0 (keeping m) u (λ i x t p. p)
            (λ y f p. record { same = record { owner = p.same.owner; direction = p.same.direction; there = p.same.there }; right = (refl, may y f) }) h.all;
        below = below_changed net next list.0 (keeping m) u h.below;
        more = h.more;
      }

  -- a receive goes back from wherever it is
  pub back_good : (net : Net) (list : ListNo) (status : ListStatus) (to : Target) → ((x : LiveList) → look net list.0 ≡ Some x → (is_down x.direction ≡ false) × GoesBack ms x.owner to) → Goes net → Goes (after net (row.Pass list (way.Back status) to))
  back_good net list status to up h =
      let next : Net = after net (row.Pass list (way.Back status) to) in
      let u = look_pass net list (way.Back status) to in
      record {
        all = all_changed IsGood IsGood net next list.0 (passing (way.Back status) to) u (λ k x t p. p)
            (λ y f p. record { same = record { owner = p.same.owner; direction = p.same.direction; there = p.same.there }; right = up y f }) h.all;
        below = below_changed net next list.0 (passing (way.Back status) to) u h.below;
        more = h.more;
      }

  -- a new list
  free_by : (net : Net) (list : ListNo) → list.0 ≡ net.next.list → All (IsLow net.next.list) net → is_live list.0 (lists net.things) ≡ false
  free_by net list e h = by (look net list.0) refl
    where
      by : (o : Option LiveList) → look net list.0 ≡ o → is_live list.0 (lists net.things) ≡ false
      by None f = not_live list.0 (lists net.things) f
      by (Some x) f = absurd (omega (arith, e, h list.0 x f))

  new_same : (net : Net) (list : ListNo) (x : LiveList) → list.0 ≡ net.next.list → IsThere start x.owner → start.next.list ≤ net.next.list → IsSame list.0 x
  new_same net list x e there more = record {
    owner = λ l f. absurd (omega (arith, e, more, begun list.0 l f));
    direction = λ l f. absurd (omega (arith, e, more, begun list.0 l f));
    there = there;
  }

  below_new : (net : Net) (list : ListNo) (next : Net) (new : LiveList) → IsUpdate net next list.0 (Some new) → list.0 ≡ net.next.list → All (IsLow net.next.list) net → All (IsLow (net.next.list + 1)) next
  below_new net list next new u e h =
      all_update (IsLow net.next.list) (IsLow (net.next.list + 1)) net next list.0 (Some new) u (λ k x t p. omega (arith, p)) (λ x f. omega (arith, e)) h

  pub issue_good : (net : Net) (list : ListNo) (owner : ModuleId) (config : ConfigNo) (way_of : Direction) (cancel : Option ℕ) (origin : Origin) (frames : List (List ℕ)) → list.0 ≡ net.next.list → IsThere start owner → Goes net → Goes (after net (row.Issue list owner config way_of cancel origin frames))
  issue_good net list owner config way_of cancel origin frames e there h =
      let next : Net = after net (row.Issue list owner config way_of cancel origin frames) in
      let new : LiveList = issued list owner way_of cancel origin frames in
      let u = look_issue net list owner config way_of cancel origin frames (free_by net list e h.below) in
      record {
        all = all_update IsGood IsGood net next list.0 (Some new) u (λ k x t p. p) (λ x f. subst (IsGood list.0) (some_same new x f) record { same = new_same net list new e there h.more; right = tt }) h.all;
        below = below_new net list next new u e h.below;
        more = omega (arith, h.more);
      }

  -- it is found
  pub look_new : (net : Net) (list : ListNo) (owner : ModuleId) (config : ConfigNo) (way_of : Direction) (cancel : Option ℕ) (origin : Origin) (frames : List (List ℕ)) → list.0 ≡ net.next.list → All (IsLow net.next.list) net → look (after net (row.Issue list owner config way_of cancel origin frames)) list.0 ≡ Some (issued list owner way_of cancel origin frames)
  look_new net list owner config way_of cancel origin frames e h = (look_issue net list owner config way_of cancel origin frames (free_by net list e h)).here

  pub issue_held : (net : Net) (n : ℕ) (m : ModuleId) (list : ListNo) (owner : ModuleId) (config : ConfigNo) (way_of : Direction) (cancel : Option ℕ) (origin : Origin) (frames : List (List ℕ)) → list.0 ≡ net.next.list → IsThere start owner → n < net.next.list → Has n m net →
      Has n m (after net (row.Issue list owner config way_of cancel origin frames))
  issue_held net n m list owner config way_of cancel origin frames e there less h =
      let next : Net = after net (row.Issue list owner config way_of cancel origin frames) in
      let new : LiveList = issued list owner way_of cancel origin frames in
      let u = look_issue net list owner config way_of cancel origin frames (free_by net list e h.below) in
      record {
        all = all_update (IsHeld n m) (IsHeld n m) net next list.0 (Some new) u (λ k x t p. p)
            (λ x f. subst (IsHeld n m list.0) (some_same new x f) record { same = new_same net list new e there h.more; right = λ _. tt; had = λ i. absurd (omega (arith, e, less, i)) }) h.all;
        below = below_new net list next new u e h.below;
        more = omega (arith, h.more);
      }

  -- a list is home
  pub home_good : (net : Net) (list : ListNo) (owner : ModuleId) (status : ListStatus) → Goes net → Goes (after net (row.Home list owner status))
  home_good net list owner status h =
      let next : Net = after net (row.Home list owner status) in
      let u = look_home net list owner status in
      record { all = all_gone IsGood net next list.0 u h.all; below = all_gone (IsLow net.next.list) net next list.0 u h.below; more = h.more }

  pub home_held : (net : Net) (list : ListNo) (m owner : ModuleId) (status : ListStatus) → Has list.0 m net → Goes (after net (row.Home list owner status))
  home_held net list m owner status h =
      let next : Net = after net (row.Home list owner status) in
      let u = look_home net list owner status in
      record {
        all = all_update (IsHeld list.0 m) IsGood net next list.0 None u (λ k x t p. record { same = p.same; right = p.right t }) (λ x e. cc) h.all;
        below = all_gone (IsLow net.next.list) net next list.0 u h.below;
        more = h.more;
      }

  -- a list that stands nowhere is given to a module
  abbrev pub IsLoose : Net → ℕ → Type 0
  IsLoose net n = (x : LiveList) → look net n ≡ Some x → x.stand ≡ stand.Unplaced

  pub give_loose : (net : Net) (list : ListNo) (m : ModuleId) (handler : Handler) → IsLoose net list.0 → Goes net → Goes (after net (row.Give list m handler))
  give_loose net list m handler loose h =
      let next : Net = after net (row.Give list m handler) in
      let u = look_give net list m handler in
      record {
        all = all_changed IsGood IsGood net next list.0 (had_by m) u (λ k x t p. p)
            (λ y f p. record { same = record { owner = p.same.owner; direction = p.same.direction; there = p.same.there }; right = subst (λ s. Fits ms (is_down y.direction) y.owner m s) (sym (loose y f)) tt }) h.all;
        below = below_changed net next list.0 (had_by m) u h.below;
        more = h.more;
      }

  pub still_loose : (net : Net) (list : ListNo) (m : ModuleId) (handler : Handler) → IsLoose net list.0 → IsLoose (after net (row.Give list m handler)) list.0
  still_loose net list m handler loose x f =
      let u = look_give net list m handler in
      let c = changed_is (had_by m) (look net list.0) x (sym u.here ∙ f) in
      ap (λ (y : LiveList). y.stand) c.2 ∙ loose c.0 c.1

  -- the same lists
  same_goes : (net next : Net) → next.next.list ≡ net.next.list → lists next.things ≡ lists net.things → Goes net → Goes next
  same_goes net next e ls h = record {
    all = all_same IsGood net next ls h.all;
    below = subst (λ n. All (IsLow n) next) (sym e) (all_same (IsLow net.next.list) net next ls h.below);
    more = omega (arith, e, h.more);
  }

  -- rows that move no list
  pub skip_good : (net : Net) (r : Row) → is_skipped r ≡ true → Goes net → Goes (after net r)
  skip_good net (row.Wire list frames) q h = same_goes net (after net (row.Wire list frames)) refl refl h
  skip_good net (row.Deliver list binding how frames) q h = same_goes net (after net (row.Deliver list binding how frames)) refl refl h
  skip_good net (row.OidIssue request parent binding kind code value) q h = same_goes net (after net (row.OidIssue request parent binding kind code value)) refl refl h
  skip_good net (row.OidGive request m) q h = same_goes net (after net (row.OidGive request m)) refl refl h
  skip_good net (row.OidDone request status value) q h = same_goes net (after net (row.OidDone request status value)) refl (lists-things_done (request_of request.0 net.requests) request status value net.things) h
  skip_good net (row.Status number name to) q h = same_goes net (after net (row.Status number name to)) refl (lists-status number.0 net.things _ refl) h
  skip_good net (row.Seen number m) q h = same_goes net (after net (row.Seen number m)) refl (lists-without_status number.0 net.things) h
  skip_good net (row.CrossOut message (out.Down list) frames) q h =
      let next : Net = after net (row.CrossOut message (out.Down list) frames) in
      let u = look_out net message list frames in
      record {
        all = all_changed IsGood IsGood net next list.0 (taken_by message.0) u (λ k x t p. p) (λ y f p. record { same = record { owner = p.same.owner; direction = p.same.direction; there = p.same.there }; right = p.right }) h.all;
        below = below_changed net next list.0 (taken_by message.0) u h.below;
        more = h.more;
      }
  skip_good net (row.CrossOut message out.Up frames) q h = same_goes net (after net (row.CrossOut message out.Up frames)) refl refl h
  skip_good net (row.CrossIn stack message way frames) q h = same_goes net (after net (row.CrossIn stack message way frames)) refl refl h
  skip_good net (row.Home list owner status) q h = home_good net list owner status h
  skip_good net (row.Issue list owner config direction cancel origin frames) q h = cc
  skip_good net (row.Give list m handler) q h = cc
  skip_good net (row.Pass list way to) q h = cc
  skip_good net (row.Keep list m) q h = cc
  skip_good net (row.TurnBack list m status) q h = cc
  skip_good net (row.Phase of) q h = cc
  skip_good net (row.Config config filters) q h = cc

  -- who had a list last, after each row that doesn't give it
  pub kin_pass : (net : Net) (list : ListNo) (way : PassWay) (to : Target) → All IsKin net → All IsKin (after net (row.Pass list way to))
  kin_pass net list way to h = all_changed IsKin IsKin net (after net (row.Pass list way to)) list.0 (passing way to) (look_pass net list way to) (λ k x t p. p) (λ y f p. p) h

  pub kin_home : (net : Net) (list : ListNo) (owner : ModuleId) (status : ListStatus) → All IsKin net → All IsKin (after net (row.Home list owner status))
  kin_home net list owner status h = all_gone IsKin net (after net (row.Home list owner status)) list.0 (look_home net list owner status) h

  pub kin_issue : (net : Net) (list : ListNo) (owner : ModuleId) (config : ConfigNo) (way_of : Direction) (cancel : Option ℕ) (origin : Origin) (frames : List (List ℕ)) → list.0 ≡ net.next.list → Goes net → All IsKin net → All IsKin (after net (row.Issue list owner config way_of cancel origin frames))
  kin_issue net list owner config way_of cancel origin frames e g h =
      let next : Net = after net (row.Issue list owner config way_of cancel origin frames) in
      let u = look_issue net list owner config way_of cancel origin frames (free_by net list e g.below) in
      all_update IsKin IsKin net next list.0 (Some (issued list owner way_of cancel origin frames)) u (λ k x t p. p) (λ x f l s. absurd (omega (arith, e, g.more, begun list.0 l s))) h

  pub starts : All (λ k x. IsRight ms x) start → All (λ k x. IsThere start x.owner) start → Goes start
  starts h there = record {
    all = λ k x f. record { same = record { owner = λ l e. ap (λ (y : LiveList). y.owner) (one_found (look start k) x l f e); direction = λ l e. ap (λ (y : LiveList). y.direction) (one_found (look start k) x l f e); there = there k x f }; right = h k x f };
    below = begun;
    more = omega arith;
  }

  pub kin_starts : All IsKin start
  kin_starts k x f l e = ap (λ (y : LiveList). y.last) (one_found (look start k) x l f e)
