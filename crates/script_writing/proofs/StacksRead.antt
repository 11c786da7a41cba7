-- A stack is read as it was written.
use Rattle.std.proofs.Common.{◌≡◌, ℕ, zero, suc, ◌<◌, ◌≤◌, true, List, [], ◌∷◌, ◌++◌, length, map, Option, Some, None, Result, Ok, Err, refl, sym, ap, subst, arith, append_assoc}
use Rattle.std.specs.Prelude.{nat_lt, nat_le, slice_get, ◌&&◌}
use Rattle.std.specs.List.{list_any, list_all}
use Rattle.std.proofs.lemmas.Bool.{false≢true}
use Rattle.std.proofs.lemmas.Bool.Decides.{nat_tests}
use Rattle.std.proofs.lemmas.List.{append-nil}
use Rattle.ndis_base.specs.Names.{miniport_kind_text, protocol_kind_text}
use Rattle.ndis_base.specs.declared.MiniportKind.{MiniportKind}
use Rattle.ndis_base.specs.declared.MiniportKind.TheVariants as miniport_kind
use Rattle.ndis_base.specs.declared.ProtocolKind.{ProtocolKind}
use Rattle.ndis_base.specs.declared.ProtocolKind.TheVariants as protocol_kind
use Rattle.journal_types.specs.declared.PortSetup.{PortSetup}
use Rattle.serde_json.specs.Data.{Data, string}
use Rattle.json_forms.specs.Lists.{read_all}
use Rattle.program_forms.specs.Written.{number_data, hex_data, is_address}
use Rattle.program_forms.proofs.RoundTrip.{and-left, and-right}
use Rattle.script_types.specs.declared.FilterSetup.{FilterSetup}
use Rattle.script_types.specs.declared.MiniportSetup.{MiniportSetup}
use Rattle.script_types.specs.declared.StackSetup.{StackSetup}
use Rattle.script_types.specs.declared.ScriptCause.{ScriptCause}
use Rattle.script_types.specs.declared.ScriptCause.TheVariants as cause
use Rattle.script_forms.specs.declared.words.Link.{Link}
use Rattle.script_forms.specs.Filter.{filter_in}
use Rattle.script_forms.specs.Results.{◌>>=◌}
use Rattle.script_forms.specs.Stack.{miniport_kind_in, protocol_kind_in, earlier, mux_or_fault, bindings_at, mux_at, stands_there, free_vlan, link_in, unlinked, linked, miniport_in, binding_in, stack_in}
use Rattle.script_forms.specs.Values.{number_in, address_in}
use Rattle.script_writing.specs.Limits.{is_within, is_filter, is_binding, is_port, is_stack, is_mux, may_stand, is_linked, are_linked}
use Rattle.script_writing.specs.Written.{filter_data, plain_port_data, linked_port_data, port_data, binding_data, stack_data}
use Rattle.script_writing.proofs.FiltersRead.{filter_in-filter_data}
use Rattle.script_writing.proofs.ValuesRead.{at_most, up_to, le-from_test, lt-from_test, unless, number_in-number_data, list_in-written, read_all-each, address_in-hex_data}

miniport_kind_in-written : (k : MiniportKind) → miniport_kind_in (string (miniport_kind_text k)) ≡ Ok k
miniport_kind_in-written miniport_kind.Ring = refl
miniport_kind_in-written miniport_kind.Loop = refl
miniport_kind_in-written miniport_kind.Virtual = refl

protocol_kind_in-written : (k : ProtocolKind) → protocol_kind_in (string (protocol_kind_text k)) ≡ Ok k
protocol_kind_in-written protocol_kind.Log = refl
protocol_kind_in-written protocol_kind.Retain = refl
protocol_kind_in-written protocol_kind.Echo = refl
protocol_kind_in-written protocol_kind.Mux = refl

-- ---- where a virtual miniport stands

earlier-good : (count own lower : ℕ) → lower < own → own < count → earlier count own lower ≡ Ok lower
earlier-good count own lower h k = grind (arith, nat_tests)

mux_or_fault-good : (binding : ℕ) (o : Option (ProtocolKind × ℕ)) → is_mux o ≡ true → mux_or_fault binding o ≡ Ok binding
mux_or_fault-good binding None h = absurd (false≢true h)
mux_or_fault-good binding (Some (protocol_kind.Mux, pool)) h = refl
mux_or_fault-good binding (Some (protocol_kind.Log, pool)) h = absurd (false≢true h)
mux_or_fault-good binding (Some (protocol_kind.Retain, pool)) h = absurd (false≢true h)
mux_or_fault-good binding (Some (protocol_kind.Echo, pool)) h = absurd (false≢true h)

mux-within : (bindings : List (ProtocolKind × ℕ)) (i : ℕ) → is_mux (slice_get bindings i) ≡ true → i < length bindings
mux-within [] i h = absurd (false≢true h)
mux-within (b ∷ bs) zero h = omega arith
mux-within (b ∷ bs) (suc i) h = let more : i < length bs = mux-within bs i h in omega arith

few-bindings : (stack : StackSetup) → is_stack stack ≡ true → length stack.bindings ≤ 8
few-bindings stack h =
    at_most 1 8 (length stack.bindings) (and-left _ _ (and-left _ _ (and-right (is_port stack.miniport.port) _ h)))

-- a stack has at most 8 bindings
pub bindings_at-few : (stacks : List StackSetup) (place : ℕ) → list_all is_stack stacks ≡ true → length (bindings_at stacks place) ≤ 8
bindings_at-few [] place h = omega arith
bindings_at-few (s ∷ ss) zero h = few-bindings s (and-left (is_stack s) _ h)
bindings_at-few (s ∷ ss) (suc place) h = bindings_at-few ss place (and-right (is_stack s) _ h)

abbrev link_from : Result ℕ ScriptCause → (ℕ → Result ℕ ScriptCause) → Result ℕ ScriptCause → (ℕ → ℕ → Result ℕ ScriptCause) → Result ℕ ScriptCause → (ℕ → ℕ → ℕ → Result ℕ ScriptCause) → Result Link ScriptCause
link_from told_low told_lower told_place told_binding told_number told_vlan = do
  low ← told_low
  lower ← told_lower low
  place ← told_place
  binding ← told_binding lower place
  number ← told_number
  vlan ← told_vlan lower binding number
  Ok (record { lower = lower; binding = binding; vlan = vlan })

link_from-good : (low : Result ℕ ScriptCause) (earlier_one : ℕ → Result ℕ ScriptCause) (place : Result ℕ ScriptCause) (mux : ℕ → ℕ → Result ℕ ScriptCause) (number : Result ℕ ScriptCause) (free : ℕ → ℕ → ℕ → Result ℕ ScriptCause) (lower binding vlan : ℕ)
    → low ≡ Ok lower → earlier_one lower ≡ Ok lower → place ≡ Ok binding → mux lower binding ≡ Ok binding → number ≡ Ok vlan → free lower binding vlan ≡ Ok vlan
    → link_from low earlier_one place mux number free ≡ Ok (record { lower = lower; binding = binding; vlan = vlan })
link_from-good low earlier_one place mux number free lower binding vlan e1 e2 e3 e4 e5 e6 = rw (e1, e2, e3, e4, e5, e6)

link_in-written : (count : ℕ) (before : List StackSetup) (kind : MiniportKind) (port : PortSetup) (lower binding vlan : ℕ) → length before < count → count ≤ 4 → list_all is_stack before ≡ true → may_stand before lower binding vlan ≡ true
    → link_in count before (linked_port_data kind port (lower, binding) vlan) ≡ Ok (record { lower = lower; binding = binding; vlan = vlan })
link_in-written count before kind port lower binding vlan own few good h =
    let own_lower : lower < length before = lt-from_test lower (length before) (and-left _ _ h) in
    let rest = and-right (nat_lt lower (length before)) _ h in
    let mux : is_mux (slice_get (bindings_at before lower) binding) ≡ true = and-left _ _ rest in
    let vlans = and-right (is_mux (slice_get (bindings_at before lower) binding)) _ rest in
    let all = bindings_at-few before lower good in
    let in_all = mux-within (bindings_at before lower) binding mux in
    link_from-good _ (earlier count (length before)) _ (mux_at before) _ (free_vlan before) lower binding vlan
    (number_in-number_data 0 3 lower (up_to 3 lower (omega arith))) (earlier-good count (length before) lower own_lower own)
    (number_in-number_data 0 7 binding (up_to 7 binding (omega arith))) (mux_or_fault-good binding (slice_get (bindings_at before lower) binding) mux)
    (number_in-number_data 1 4094 vlan (and-left _ _ vlans))
    (unless (list_any (stands_there lower binding vlan) before) (Err cause.BadLink) (Ok vlan) (and-right (is_within 1 4094 vlan) _ vlans))

-- ---- miniports

abbrev port_from : Result (List ℕ) ScriptCause → Result ℕ ScriptCause → Result ℕ ScriptCause → (List ℕ → ℕ → ℕ → Result MiniportSetup ScriptCause) → Result MiniportSetup ScriptCause
port_from told_address told_ring told_pool more = do
  address ← told_address
  ring ← told_ring
  pool ← told_pool
  more address ring pool

port_from-good : (a : Result (List ℕ) ScriptCause) (r p : Result ℕ ScriptCause) (more : List ℕ → ℕ → ℕ → Result MiniportSetup ScriptCause) (port : PortSetup) (whole : Result MiniportSetup ScriptCause)
    → a ≡ Ok port.address → r ≡ Ok port.ring → p ≡ Ok port.pool → more port.address port.ring port.pool ≡ whole → port_from a r p more ≡ whole
port_from-good a r p more port whole ea er ep e = rw (ea, er, ep) e

-- the ports that stand on no stack
abbrev unlinked_in : MiniportKind → Type 0
unlinked_in kind = (count : ℕ) (before : List StackSetup) (port : PortSetup) → is_port port ≡ true → miniport_in count before (plain_port_data kind port) ≡ Ok (unlinked kind port.address port.ring port.pool)

port-good : (port : PortSetup) (more : List ℕ → ℕ → ℕ → Result MiniportSetup ScriptCause) (whole : Result MiniportSetup ScriptCause) → is_port port ≡ true → more port.address port.ring port.pool ≡ whole
    → port_from (address_in (hex_data port.address)) (number_in 1 256 (number_data port.ring)) (number_in 1 256 (number_data port.pool)) more ≡ whole
port-good port more whole h e =
    let sizes = and-right (is_address port.address) _ h in
    port_from-good _ _ _ more port whole (address_in-hex_data port.address (and-left _ _ h)) (number_in-number_data 1 256 port.ring (and-left _ _ sizes))
    (number_in-number_data 1 256 port.pool (and-right (is_within 1 256 port.ring) _ sizes)) e

unlinked-ring : unlinked_in miniport_kind.Ring
unlinked-ring count before port h = port-good port (λ a r p. Ok (unlinked miniport_kind.Ring a r p)) _ h refl

unlinked-loop : unlinked_in miniport_kind.Loop
unlinked-loop count before port h = port-good port (λ a r p. Ok (unlinked miniport_kind.Loop a r p)) _ h refl

linked-virtual : (count : ℕ) (before : List StackSetup) (port : PortSetup) (lower binding vlan : ℕ) → length before < count → count ≤ 4 → list_all is_stack before ≡ true → is_port port ≡ true → may_stand before lower binding vlan ≡ true
    → miniport_in count before (linked_port_data miniport_kind.Virtual port (lower, binding) vlan) ≡ Ok (linked port.address port.ring port.pool (record { lower = lower; binding = binding; vlan = vlan }))
linked-virtual count before port lower binding vlan own few good h k =
    let d : Data = linked_port_data miniport_kind.Virtual port (lower, binding) vlan in
    port-good port (λ a r p. link_in count before d >>= (λ link. Ok (linked a r p link))) _ h
    (ap (λ told. told >>= (λ link. Ok (linked port.address port.ring port.pool link))) (link_in-written count before miniport_kind.Virtual port lower binding vlan own few good k))

abbrev port_of : List ℕ → ℕ → ℕ → Option ℕ → PortSetup
port_of address ring pool vlan = record { address = address; ring = ring; pool = pool; vlan = vlan }

abbrev miniport_of : MiniportKind → PortSetup → Option (ℕ × ℕ) → MiniportSetup
miniport_of kind port link = record { kind = kind; port = port; link = link }

port_in-written : (count : ℕ) (before : List StackSetup) → length before < count → count ≤ 4 → list_all is_stack before ≡ true
    → (kind : MiniportKind) (address : List ℕ) (ring pool : ℕ) (link : Option (ℕ × ℕ)) (vlan : Option ℕ) → is_port (port_of address ring pool vlan) ≡ true → is_linked before kind link vlan ≡ true
    → miniport_in count before (port_data kind (port_of address ring pool vlan) link vlan) ≡ Ok (miniport_of kind (port_of address ring pool vlan) link)
port_in-written count before own few good miniport_kind.Ring address ring pool None None h k = unlinked-ring count before (port_of address ring pool None) h
port_in-written count before own few good miniport_kind.Ring address ring pool None (Some vlan) h k = absurd (false≢true k)
port_in-written count before own few good miniport_kind.Ring address ring pool (Some link) vlan h k = absurd (false≢true k)
port_in-written count before own few good miniport_kind.Loop address ring pool None None h k = unlinked-loop count before (port_of address ring pool None) h
port_in-written count before own few good miniport_kind.Loop address ring pool None (Some vlan) h k = absurd (false≢true k)
port_in-written count before own few good miniport_kind.Loop address ring pool (Some link) vlan h k = absurd (false≢true k)
port_in-written count before own few good miniport_kind.Virtual address ring pool None vlan h k = absurd (false≢true k)
port_in-written count before own few good miniport_kind.Virtual address ring pool (Some link) None h k = absurd (false≢true k)
port_in-written count before own few good miniport_kind.Virtual address ring pool (Some (lower, binding)) (Some vlan) h k =
    linked-virtual count before (port_of address ring pool (Some vlan)) lower binding vlan own few good h k

-- ---- stacks

abbrev binding_from : Result ProtocolKind ScriptCause → Result ℕ ScriptCause → Result (ProtocolKind × ℕ) ScriptCause
binding_from told_kind told_pool = do
  kind ← told_kind
  pool ← told_pool
  Ok (kind, pool)

binding_from-good : (k : Result ProtocolKind ScriptCause) (p : Result ℕ ScriptCause) (kind : ProtocolKind) (pool : ℕ) → k ≡ Ok kind → p ≡ Ok pool → binding_from k p ≡ Ok (kind, pool)
binding_from-good k p kind pool ek ep = rw (ek, ep)

binding_in-binding_data : (binding : ProtocolKind × ℕ) → is_binding binding ≡ true → binding_in (binding_data binding) ≡ Ok binding
binding_in-binding_data binding h = binding_from-good _ _ binding.0 binding.1 (protocol_kind_in-written binding.0) (number_in-number_data 1 256 binding.1 h)

abbrev stack_from : Result MiniportSetup ScriptCause → Result (List Data) ScriptCause → (List Data → Result (List (ProtocolKind × ℕ)) ScriptCause) → Result (List Data) ScriptCause → (List Data → Result (List FilterSetup) ScriptCause) → Result StackSetup ScriptCause
stack_from told_miniport told_bindings each_binding told_filters each_filter = do
  miniport ← told_miniport
  binding_datas ← told_bindings
  bindings ← each_binding binding_datas
  filter_datas ← told_filters
  filters ← each_filter filter_datas
  Ok (record { miniport = miniport; bindings = bindings; filters = filters })

stack_from-good : (m : Result MiniportSetup ScriptCause) (b : Result (List Data) ScriptCause) (each_b : List Data → Result (List (ProtocolKind × ℕ)) ScriptCause) (f : Result (List Data) ScriptCause) (each_f : List Data → Result (List FilterSetup) ScriptCause)
    (stack : StackSetup) (bs fs : List Data) → m ≡ Ok stack.miniport → b ≡ Ok bs → each_b bs ≡ Ok stack.bindings → f ≡ Ok fs → each_f fs ≡ Ok stack.filters
    → stack_from m b each_b f each_f ≡ Ok stack
stack_from-good m b each_b f each_f stack bs fs em eb ebs ef efs = rw (em, eb, ebs, ef, efs)

abbrev one_filter_data : FilterSetup → Data
one_filter_data filter = filter_data filter.kind filter.setup

one_filter-back : (filter : FilterSetup) → is_filter filter ≡ true → filter_in (one_filter_data filter) ≡ Ok filter
one_filter-back filter h = filter_in-filter_data filter.kind filter.setup h

pub stack_in-stack_data : (count : ℕ) (before : List StackSetup) (stack : StackSetup) → length before < count → count ≤ 4 → list_all is_stack before ≡ true → is_stack stack ≡ true
    → is_linked before stack.miniport.kind stack.miniport.link stack.miniport.port.vlan ≡ true → stack_in count before (stack_data stack) ≡ Ok stack
stack_in-stack_data count before stack own few good h k =
    let port = stack.miniport.port in
    let lists = and-right (is_port port) _ h in
    let bindings = and-left _ _ lists in
    let filters = and-right (is_within 1 8 (length stack.bindings) && list_all is_binding stack.bindings) _ lists in
    stack_from-good _ _ (read_all (λ earlier. binding_in) []) _ (read_all (λ earlier. filter_in) []) stack (map binding_data stack.bindings) (map one_filter_data stack.filters)
    (port_in-written count before own few good stack.miniport.kind port.address port.ring port.pool stack.miniport.link port.vlan (and-left _ _ h) k)
    (list_in-written 1 8 binding_data stack.bindings (and-left _ _ bindings))
    (read_all-each binding_in binding_data is_binding binding_in-binding_data stack.bindings (and-right (is_within 1 8 (length stack.bindings)) _ bindings))
    (list_in-written 0 16 one_filter_data stack.filters (up_to 16 (length stack.filters) (le-from_test (length stack.filters) 16 (and-left _ _ filters))))
    (read_all-each filter_in one_filter_data is_filter one_filter-back stack.filters (and-right (nat_le (length stack.filters) 16) _ filters))

-- each stack stands where it may, behind those before it
pub are_linked-at : (before done : List StackSetup) (stack : StackSetup) (rest : List StackSetup) → are_linked before (done ++ stack ∷ rest) ≡ true
    → is_linked (before ++ done) stack.miniport.kind stack.miniport.link stack.miniport.port.vlan ≡ true
are_linked-at before [] stack rest h =
    subst (λ those. is_linked those stack.miniport.kind stack.miniport.link stack.miniport.port.vlan ≡ true) (sym (append-nil before)) (and-left _ _ h)
are_linked-at before (s ∷ done) stack rest h =
    subst (λ those. is_linked those stack.miniport.kind stack.miniport.link stack.miniport.port.vlan ≡ true) (append_assoc before (s ∷ []) done)
    (are_linked-at (before ++ s ∷ []) done stack rest (and-right (is_linked before s.miniport.kind s.miniport.link s.miniport.port.vlan) _ h))
