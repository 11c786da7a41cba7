-- The rows of deliveries are those of the rules.
use Rattle.std.proofs.Common.{◌≡◌, ℕ, ◌+◌, ◌&&◌, not, Bool, true, false, cond, List, [], ◌∷◌, ◌++◌, Some, None, refl, sym, ap, ◌∙◌, append-nil}
use Rattle.ndis_base.specs.declared.Direction.TheVariants.{Down}
use Rattle.ndis_base.specs.declared.ListNo.{ListNo}
use Rattle.ndis_base.specs.declared.ModuleId.TheVariants.{Binding}
use Rattle.ndis_base.specs.declared.Origin.TheVariants as origin
use Rattle.ndis_base.specs.declared.ProtocolKind.{ProtocolKind}
use Rattle.journal_types.specs.declared.How.{How}
use Rattle.journal_types.specs.declared.How.TheVariants.{Own, Lent}
use Rattle.journal_types.specs.declared.Row.{Row}
use Rattle.journal_types.specs.declared.Row.TheVariants as row
use Rattle.buffer_pools.specs.Views.{ListView}
use Rattle.stack_rules.specs.declared.LiveList.{LiveList}
use Rattle.stack_rules.specs.Deliveries.{echoes, echoed, delivered, settled, last_of, takers, delivery_rows}
use Rattle.stack_rules.specs.Heads.{kind_of_binding}
use Rattle.stack_rules.specs.Net.{Net, Modules, after_rows}
use Rattle.stack_rules.specs.Outcome.{list_no, config_no}
use Rattle.stack_rules.specs.Places.{is_full}
use Rattle.stack_rules.specs.Targets.{onward}
use Rattle.stack_rules.specs.Tests.{phase_is_running, is_echo, is_retain}
use Rattle.hand_lemmas.specs.Hands.{Common, in_hand, in_state}
use Rattle.call_lemmas.proofs.Deliveries.{taker_rows, settle_rows}

-- what a state says of modules and numbers after one delivery
pub record IsAfterOne (net now : Net) (n : ℕ) : Type 0 where
  pub head : now.head ≡ net.head
  pub modules : now.modules ≡ net.modules
  pub list : now.next.list ≡ n

pub after_one : (net : Net) (l : ListView) (b : ℕ) (how : How) (does : Bool) → IsAfterOne net (after_rows net (taker_rows net l b how does)) (cond does (net.next.list + 1) net.next.list)
after_one net l b how true = record { head = refl; modules = refl; list = refl }
after_one net l b how false = record { head = refl; modules = refl; list = refl }

-- the rows of one delivery, in the words of the rules
abbrev one_delivery : Net → ListNo → List (List ℕ) → ℕ → ℕ → How → Bool → List Row
one_delivery net list frames n b how does = row.Deliver list b how frames ∷ cond does (echoed net n b frames) []

abbrev echoed_in : Modules → ℕ → ℕ → List (List ℕ) → List Row
echoed_in ms n b frames =
    row.Issue (list_no n) (Binding b) (config_no ms.config) Down None origin.Root frames ∷ onward ms (list_no n) Down 0 ∷ []

pub taker_is : (net now : Net) (l : ListView) (b : ℕ) (how : How) (does : Bool) (n : ℕ) → now.modules ≡ net.modules → now.next.list ≡ n → taker_rows now l b how does ≡ one_delivery net l.label.number l.frames n b how does
taker_is net now l b how does n modules list =
    ap (λ (ms : Modules). row.Deliver l.label.number b how l.frames ∷ cond does (echoed_in ms now.next.list b l.frames) []) modules
    ∙ ap (λ k. row.Deliver l.label.number b how l.frames ∷ cond does (echoed_in net.modules k b l.frames) []) list

-- a delivery and those after it
pub more_delivered : (net : Net) (list : ListNo) (frames : List (List ℕ)) (n b c : ℕ) (bs : List ℕ) (does : Bool) → echoes net b ≡ does
    → one_delivery net list frames n b Lent does ++ delivered net list frames Own (cond does (n + 1) n) (c ∷ bs) ≡ delivered net list frames Own n (b ∷ c ∷ bs)
more_delivered net list frames n b c bs true echo =
    ap (λ e. row.Deliver list b Lent frames ∷ cond e (echoed net n b frames ++ delivered net list frames Own (n + 1) (c ∷ bs)) (delivered net list frames Own n (c ∷ bs))) (sym echo)
more_delivered net list frames n b c bs false echo =
    ap (λ e. row.Deliver list b Lent frames ∷ cond e (echoed net n b frames ++ delivered net list frames Own (n + 1) (c ∷ bs)) (delivered net list frames Own n (c ∷ bs))) (sym echo)

-- the last delivery
pub last_delivered : (net : Net) (list : ListNo) (frames : List (List ℕ)) (n b : ℕ) (does : Bool) → echoes net b ≡ does → one_delivery net list frames n b Own does ≡ delivered net list frames Own n (b ∷ [])
last_delivered net list frames n b true echo =
    ap (λ es. row.Deliver list b Own frames ∷ es) (sym (append-nil (echoed net n b frames)))
    ∙ ap (λ e. row.Deliver list b Own frames ∷ cond e (echoed net n b frames ++ []) []) (sym echo)
last_delivered net list frames n b false echo = ap (λ e. row.Deliver list b Own frames ∷ cond e (echoed net n b frames ++ []) []) (sym echo)

-- the last of some bindings
abbrev pub last : ℕ → List ℕ → ℕ
last b [] = b
last b (c ∷ bs) = last c bs

last_is : (b : ℕ) (bs : List ℕ) → last_of (b ∷ bs) ≡ Some (last b bs)
last_is b [] = refl
last_is b (c ∷ bs) = last_is c bs

keeps_so : (keeps retain : Bool) → (keeps ≡ true → retain ≡ true) → (keeps && retain) ≡ keeps
keeps_so true retain may = may refl
keeps_so false retain may = refl

-- how the list is settled
settled_is : (net : Net) (x : LiveList) (b : ℕ) (keeps : Bool) → (keeps ≡ true → is_retain (kind_of_binding net.head b) ≡ true) → settle_rows net.modules b keeps (in_state x) ≡ settled net x keeps (Some b)
settled_is net x b keeps may = ap (λ k. settle_rows net.modules b k (in_state x)) (sym (keeps_so keeps (is_retain (kind_of_binding net.head b)) may))

-- all rows
pub all_rows : (net : Net) (x : LiveList) (l : ListView) (b : ℕ) (bs : List ℕ) (keeps : Bool) → in_state x ≡ in_hand l → takers net l.frames ≡ b ∷ bs
    → (keeps ≡ true → is_retain (kind_of_binding net.head (last b bs)) ≡ true)
    → delivered net l.label.number l.frames Own net.next.list (b ∷ bs) ++ settle_rows net.modules (last b bs) keeps (in_hand l) ≡ delivery_rows net x keeps
all_rows net x l b bs keeps same taken may =
    ap (λ (c : Common). delivered net c.list c.frames Own net.next.list (b ∷ bs) ++ settle_rows net.modules (last b bs) keeps c) (sym same)
    ∙ ap (λ rs. delivered net x.list x.frames Own net.next.list (b ∷ bs) ++ rs) (settled_is net x (last b bs) keeps may ∙ ap (settled net x keeps) (sym (last_is b bs)))
    ∙ ap (λ ts. delivered net x.list x.frames Own net.next.list ts ++ settled net x keeps (last_of ts)) (sym (ap (λ (c : Common). takers net c.frames) same ∙ taken))

-- whether a binding sends an echo
pub echoes_is : (net : Net) (b : ℕ) (kind : ProtocolKind) (full : Bool) → kind ≡ kind_of_binding net.head b → phase_is_running net.phase ≡ true → is_full net (Binding b) ≡ full → echoes net b ≡ (is_echo kind && not full)
echoes_is net b kind full same running is =
    ap (λ k. is_echo k && (phase_is_running net.phase && not (is_full net (Binding b)))) (sym same)
    ∙ ap (λ r. is_echo kind && (r && not (is_full net (Binding b)))) running
    ∙ ap (λ f. is_echo kind && not f) is
