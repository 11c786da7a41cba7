-- What a delivery to the bindings leaves to do.
use Rattle.std.proofs.Common.{◌≡◌, ℕ, ◌+◌, ◌-◌, ◌*◌, ◌≤◌, ◌<◌, ◌==◌, ◌&&◌, not, Bool, true, false, cond, List, [], ◌∷◌, ◌++◌, Option, Some, None, length, refl, arith, ap, sym, subst, ◌∙◌, count_by, mul-le-mul_left}
use Rattle.std.proofs.lemmas.Bool.Decides.{nat_tests}
use Rattle.ndis_base.specs.declared.ListNo.{ListNo}
use Rattle.ndis_base.specs.declared.ListStatus.TheVariants.{Success}
use Rattle.ndis_base.specs.declared.ModuleId.TheVariants.{Binding}
use Rattle.ndis_base.specs.declared.Direction.TheVariants as direction
use Rattle.ndis_base.specs.declared.Origin.TheVariants as origin
use Rattle.journal_types.specs.declared.How.{How}
use Rattle.journal_types.specs.declared.How.TheVariants as how
use Rattle.journal_types.specs.declared.PassWay.TheVariants as way
use Rattle.journal_types.specs.declared.Row.{Row}
use Rattle.journal_types.specs.declared.Row.TheVariants as row
use Rattle.stack_rules.specs.declared.LiveList.{LiveList}
use Rattle.stack_rules.specs.declared.Thing.TheVariants as thing
use Rattle.stack_rules.specs.Tests.{is_down, is_echo, is_retain, phase_is_running}
use Rattle.stack_rules.specs.Heads.{kind_of_binding, binding_numbers}
use Rattle.stack_rules.specs.Net.{Net, Modules, after, after_rows, lists}
use Rattle.stack_rules.specs.Places.{has_clone, is_full, is_crossed, position_of_target}
use Rattle.stack_rules.specs.Targets.{next_down, next_back, homeward}
use Rattle.stack_rules.specs.Outcome.{root, list_no, config_no}
use Rattle.stack_rules.specs.Deliveries.{is_taken_by, takers, echoes, how_for, delivered, settled, last_of, delivery_rows}
use Rattle.stack_rules.specs.Work.{bottom, echo_count, up_work, kept_work, work}
use Rattle.rule_basics.specs.Numbers.{IsNumbered}
use Rattle.rule_basics.proofs.Counts.{one_if, count_by-cons}
use Rattle.rule_basics.proofs.Each.{Each-found}
use Rattle.rule_basics.proofs.Numbered.{numbered_after}
use Rattle.home_laws.proofs.Known.{by_test}
use Rattle.work_laws.proofs.Weights.{Stay, weight, load, work_least, work_after, load_pass, load_moved, load_keep, load_issue, passed_work}
use Rattle.work_laws.proofs.Clones.{clones_after}
use Rattle.work_laws.proofs.Ways.{down_least}
use Rattle.journal_types.specs.declared.Target.{Target}
use Rattle.journal_types.specs.declared.Target.TheVariants.{Bindings}
use Rattle.stack_rules.specs.declared.Stand.TheVariants as stand
use Rattle.std.specs.Prelude.{slice_index_or}
use Rattle.std.proofs.Common.{get_or, ◌||◌}
use Rattle.std.proofs.lemmas.List.Sums.{sum_by-le-sum_by}
use Rattle.work_laws.proofs.Sums.{sum_filter}
use Rattle.work_laws.proofs.Lowers.{IsFree}
use Rattle.work_laws.proofs.Filters.{Lowers, homeward_back}
use Rattle.work_laws.proofs.Hands.{Found, found_issue, found_pass}

-- after some rows the list is still there, and what is left to do
pub record Delivers (net : Net) (cloned : ℕ → Bool) (l : LiveList) (s : Net) (rows : List Row) (echoing : ℕ) : Type 0 where
  pub modules : (after_rows s rows).modules ≡ net.modules
  pub echo : echo_count (after_rows s rows) ≡ echo_count s
  pub numbered : IsNumbered (after_rows s rows)
  pub found : Found (after_rows s rows) l
  pub stays : Stay (has_clone s) (has_clone (after_rows s rows))
  pub most : load (after_rows s rows) cloned ≤ load s cloned + 3 * bottom net * echoing

other_number : (n m : ℕ) → n < m → (n == m) ≡ false
other_number n m h = grind (arith, nat_tests)

echo_room : (net s : Net) → s.modules ≡ net.modules → passed_work s way.Down (next_down net.modules 0) ≤ 3 * bottom net
echo_room net s e =
    let least = down_least net.modules 0 in
    let here : 2 * (length net.modules.order + 1 - position_of_target net.modules.order (next_down net.modules 0)) + (length net.modules.order + 1) + 2 ≤ 3 * bottom net = omega (arith, least) in
    subst (λ (ms : Modules). 2 * (length ms.order + 1 - position_of_target ms.order (next_down net.modules 0)) + (length ms.order + 1) + 2 ≤ 3 * bottom net) (sym e) here

pub delivered_most : (net : Net) (cloned : ℕ → Bool) (l : LiveList) (list : ListNo) (frames : List (List ℕ)) (own : How) (bs : List ℕ) (n : ℕ) (s : Net) → s.modules ≡ net.modules → IsNumbered s → Found s l → n ≡ s.next.list →
    Delivers net cloned l s (delivered net list frames own n bs) (count_by (echoes net) bs)
delivered_most net cloned l list frames own [] n s e h f k = record { modules = e; echo = refl; numbered = h; found = f; stays = λ n t. t; most = omega arith }
delivered_most net cloned l list frames own (b ∷ bs) n s e h f k =
    let deliver : Row = row.Deliver list b (how_for own bs) frames in
    let one : Net = after s deliver in
    let numbered : IsNumbered one = record { apart = h.apart; below = h.below } in
    let many = count_by-cons (echoes net) b bs in
    let cases : (c : Bool) → echoes net b ≡ c → Delivers net cloned l s (deliver ∷ cond c (root net n (Binding b) direction.Down None frames ∷ row.Pass (list_no n) way.Down (next_down net.modules 0) ∷ delivered net list frames own (n + 1) bs) (delivered net list frames own n bs)) (count_by (echoes net) (b ∷ bs)) = elim [
      | true ↦ λ t.
          let issue : Row = root net n (Binding b) direction.Down None frames in
          let pass : Row = row.Pass (list_no n) way.Down (next_down net.modules 0) in
          let two : Net = after one issue in
          let three : Net = after two pass in
          let numbered2 : IsNumbered two = numbered_after one issue k numbered in
          let numbered3 : IsNumbered three = numbered_after two pass tt numbered2 in
          let low : l.list.0 < s.next.list = Each-found (λ x. x.list.0 < s.next.list) l.list.0 (lists s.things) l h.below f in
          let apart : (l.list.0 == n) ≡ false = other_number l.list.0 n (omega (arith, low, k)) in
          let found2 : Found two l = found_issue one l (list_no n) (Binding b) (config_no net.modules.config) direction.Down None origin.Root frames f in
          let found3 : Found three l = found_pass two l (list_no n) way.Down (next_down net.modules 0) apart found2 in
          let rest = delivered_most net cloned l list frames own bs (n + 1) three e numbered3 found3 (ap (λ i. i + 1) k) in
          let issued : load two cloned ≤ load s cloned = load_issue one cloned (list_no n) (Binding b) (config_no net.modules.config) direction.Down None origin.Root frames in
          let passed : load three cloned ≤ load two cloned + passed_work two way.Down (next_down net.modules 0) = load_pass two cloned (list_no n) way.Down (next_down net.modules 0) in
          let room = echo_room net two e in
          let last = rest.most in
          let count : count_by (echoes net) (b ∷ bs) ≡ 1 + count_by (echoes net) bs = many ∙ ap (λ c. one_if c + count_by (echoes net) bs) t in
          let times : 3 * bottom net * count_by (echoes net) (b ∷ bs) ≡ 3 * bottom net + 3 * bottom net * count_by (echoes net) bs = rw count (omega arith) in
          record {
            modules = rest.modules;
            echo = rest.echo;
            numbered = rest.numbered;
            found = rest.found;
            stays = λ i u. rest.stays i (clones_after two pass numbered2 refl i (clones_after one issue numbered refl i u));
            most = omega (arith, issued, passed, room, last, times);
          }
      | false ↦ λ t.
          let rest = delivered_most net cloned l list frames own bs n one e numbered f k in
          let last = rest.most in
          let count : count_by (echoes net) (b ∷ bs) ≡ 0 + count_by (echoes net) bs = many ∙ ap (λ c. one_if c + count_by (echoes net) bs) t in
          let times : 3 * bottom net * count_by (echoes net) (b ∷ bs) ≡ 3 * bottom net * count_by (echoes net) bs = rw count (omega arith) in
          record { modules = rest.modules; echo = rest.echo; numbered = rest.numbered; found = rest.found; stays = rest.stays; most = omega (arith, last, times) }
    ] in
    cases (echoes net b) refl

pub after_rows-append : (net : Net) (rows others : List Row) → after_rows net (rows ++ others) ≡ after_rows (after_rows net rows) others
after_rows-append net [] others = refl
after_rows-append net (r ∷ rows) others = after_rows-append (after net r) rows others

-- while the stack runs no more bindings echo than there are echo bindings
fewer_echo : (a b c : Bool) → cond (a && (b && c)) 1 0 ≤ cond a 1 0
fewer_echo true true true = omega arith
fewer_echo true true false = omega arith
fewer_echo true false c = omega arith
fewer_echo false b c = omega arith

pub echoes_most : (net : Net) (frames : List (List ℕ)) → phase_is_running net.phase ≡ true → count_by (echoes net) (takers net frames) ≤ echo_count net
echoes_most net frames e =
    let some = sum_filter (λ b. cond (echoes net b) 1 0) (λ b. is_taken_by (get_or net.port.delivers_by b 0) net.head.port.address (slice_index_or frames 0 [])) (binding_numbers net.head) in
    let all = sum_by-le-sum_by (λ b. cond (echoes net b) 1 0) (λ b. cond (is_echo (kind_of_binding net.head b)) 1 0) (binding_numbers net.head)
    (λ b. fewer_echo (is_echo (kind_of_binding net.head b)) (phase_is_running net.phase) (not (is_full net (Binding b)))) in
    let on : echo_count net ≡ count_by (λ b. is_echo (kind_of_binding net.head b)) (binding_numbers net.head) = ap (λ b. cond b (count_by (λ c. is_echo (kind_of_binding net.head c)) (binding_numbers net.head)) 0) e in
    omega (arith, some, all, on)

-- the last binding keeps the list or returns it
pub record Settles (net : Net) (cloned : ℕ → Bool) (l : LiveList) (s : Net) (rows : List Row) : Type 0 where
  pub stays : Stay (has_clone s) (has_clone (after_rows s rows))
  pub most : load (after_rows s rows) cloned + weight s cloned (thing.List l) ≤ load s cloned + (bottom net + 1)

returned : (net : Net) (cloned : ℕ → Bool) (l : LiveList) (s : Net) → s.modules ≡ net.modules → IsNumbered s → Found s l → is_down l.direction ≡ false → Settles net cloned l s (homeward net.modules l 0 Success ∷ [])
returned net cloned l s e h f d =
    let to : Target = next_back net.modules 0 l.owner in
    let moved = load_moved s cloned l.list (way.Back Success) to l f in
    let same : bottom s ≡ bottom net = ap (λ (ms : Modules). length ms.order + 1) e in
    subst (λ (r : Row). Settles net cloned l s (r ∷ [])) (sym (homeward_back net.modules l.list l.owner l.direction 0 Success d))
    record { stays = clones_after s (row.Pass l.list (way.Back Success) to) h refl; most = omega (arith, moved, same) }

kept_up : (s : Net) (d : Bool) (b : ℕ) → d ≡ false → kept_work s d (Binding b) ≤ bottom s + 1
kept_up s true b e = cc
kept_up s false b e = omega arith

settles : (net : Net) (cloned : ℕ → Bool) (l : LiveList) (keeps : Bool) (o : Option ℕ) (s : Net) → s.modules ≡ net.modules → IsNumbered s → Found s l → is_down l.direction ≡ false → Settles net cloned l s (settled net l keeps o)
settles net cloned l keeps None s e h f d = returned net cloned l s e h f d
settles net cloned l keeps (Some b) s e h f d =
    by_test (Settles net cloned l s) (keeps && is_retain (kind_of_binding net.head b)) _ _
    (λ _.
    let kept = load_keep s cloned l.list (Binding b) l f in
    let weighs = kept_up s (is_down l.direction) b d in
    let same : bottom s ≡ bottom net = ap (λ (ms : Modules). length ms.order + 1) e in
    record { stays = clones_after s (row.Keep l.list (Binding b)) h refl; most = omega (arith, kept, weighs, same) })
    (λ _. returned net cloned l s e h f d)

full_up : (s : Net) (cloned : ℕ → Bool) (l : LiveList) → (is_crossed l.crossed || cloned l.list.0) ≡ false → l.stand ≡ stand.Passed way.Up Bindings → up_work s 0 + 1 ≤ weight s cloned (thing.List l)
full_up s cloned l free e = rw e (weighs (is_crossed l.crossed || cloned l.list.0) (up_work s 0 + 1) free)
  where
    weighs : (b : Bool) (k : ℕ) → b ≡ false → k ≤ cond b 0 k
    weighs true k e = cc
    weighs false k e = omega arith

pub delivery_lowers : (net : Net) (l : LiveList) (keeps : Bool) → IsFree net l → l.stand ≡ stand.Passed way.Up Bindings → is_down l.direction ≡ false → phase_is_running net.phase ≡ true → Lowers net (delivery_rows net l keeps)
delivery_lowers net l keeps h at d running =
    let cloned : ℕ → Bool = has_clone net in
    let bs : List ℕ = takers net l.frames in
    let rows : List Row = delivered net l.list l.frames how.Own net.next.list bs in
    let s : Net = after_rows net rows in
    let last : List Row = settled net l keeps (last_of bs) in
    let first = delivered_most net cloned l l.list l.frames how.Own bs net.next.list net refl h.numbered h.found refl in
    let second = settles net cloned l keeps (last_of bs) s first.modules first.numbered first.found d in
    let count = echoes_most net l.frames running in
    let times : 3 * bottom net * count_by (echoes net) bs ≤ 3 * bottom net * echo_count net = mul-le-mul_left (3 * bottom net) count in
    let most = work_after (after_rows s last) cloned (λ n t. second.stays n (first.stays n t)) in
    let least = work_least net in
    let full = full_up s cloned l h.free at in
    let same : bottom s ≡ bottom net = ap (λ (ms : Modules). length ms.order + 1) first.modules in
    let echo : 3 * bottom s * echo_count s ≡ 3 * bottom net * echo_count net = ap (λ n. 3 * n * echo_count s) same ∙ ap (λ e. 3 * bottom net * e) first.echo in
    let delivered = first.most in
    let settled = second.most in
    let end : work (after_rows s last) + 1 ≤ work net = omega (arith, times, most, least, full, same, echo, delivered, settled) in
    subst (λ (n : Net). work n + 1 ≤ work net) (sym (after_rows-append net rows last)) end
