-- The OID requests that a stack and its drivers have in hand: those at the stack's entry, those that wait at each
-- module, and those that each module was given. They agree with the requests of the state, apart from all lists.
use Rattle.std.specs.Prelude.{◌≡◌, ℕ, ◌==◌, not, List, [], ◌∷◌, ◌++◌, Option, map, filter}
use Rattle.ndis_base.specs.declared.OidNo.{OidNo}
use Rattle.ndis_base.specs.declared.OidKind.{OidKind}
use Rattle.ndis_base.specs.declared.ModuleId.{ModuleId}
use Rattle.stack_rules.specs.declared.Request.{Request}
use Rattle.stack_rules.specs.Requests.{is_at_entry, is_waiting_at, is_given_to}
use Rattle.hand_lemmas.specs.Hands.{put_at}

-- a request in hand
pub record Asked : Type 0 where
  pub number : OidNo
  pub parent : Option OidNo
  pub binding : ℕ
  pub kind : OidKind
  pub code : ℕ
  pub value : List ℕ

-- how a request of the state looks in hand
abbrev pub asked_as : Request → Asked
asked_as r = record { number = r.request; parent = r.parent; binding = r.binding; kind = r.kind; code = r.code; value = r.value }

-- all requests in hand
pub record Asks : Type 0 where
  pub entry : List Asked
  pub waiting : ModuleId → List Asked
  pub given : ModuleId → List Asked

-- the requests in hand are those of the state, each where the state says that it is
pub record AsksAgree (rs : List Request) (h : Asks) : Type 0 where
  pub entry_is : h.entry ≡ map asked_as (filter (λ r. is_at_entry r.at) rs)
  pub waiting_is : (m : ModuleId) → h.waiting m ≡ map asked_as (filter (λ r. is_waiting_at m r.at) rs)
  pub given_is : (m : ModuleId) → h.given m ≡ map asked_as (filter (λ r. is_given_to m r.at) rs)

-- the requests but the one of this number
abbrev pub but : ℕ → List Asked → List Asked
but n qs = filter (λ q. not (q.number.0 == n)) qs

-- the request of this number is taken from where it is
abbrev pub taken_out : ℕ → Asks → Asks
taken_out n h = record { entry = but n h.entry; waiting = λ m. but n (h.waiting m); given = λ m. but n (h.given m) }

-- one more request at the entry
abbrev pub at_entry : Asked → Asks → Asks
at_entry q h = record h { entry = h.entry ++ q ∷ [] }

-- one more request waits at a module
abbrev pub put_waiting : ModuleId → Asked → Asks → Asks
put_waiting m q h = record h { waiting = put_at m (h.waiting m ++ q ∷ []) h.waiting }

-- a module was given this request
abbrev pub put_given : ModuleId → Asked → Asks → Asks
put_given m q h = record h { given = put_at m (q ∷ []) h.given }
