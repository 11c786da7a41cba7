-- The bindings that take a list, one after the other.
use Rattle.std.proofs.Common.{◌≡◌, ℕ, suc, ◌+◌, ◌-◌, ◌<◌, Bool, false, cond, List, [], ◌∷◌, filter, length, slice_index, slice_index_or, refl, ap, ◌∙◌, arith}
use Rattle.std.specs.Prelude.{Option, Some, None, IfSome}
use Rattle.std.proofs.lemmas.Bool.{cond-false}
use Rattle.ndis_base.specs.declared.ProtocolKind.{ProtocolKind}
use Rattle.journal_types.specs.declared.StackHead.{StackHead}
use Rattle.stack_rules.specs.Deliveries.{takers, is_taken_by}
use Rattle.stack_rules.specs.Heads.{numbers_from}
use Rattle.stack_rules.specs.Net.{Net}
use Rattle.stack_rules.specs.Port.{Port}
use Rattle.delivery_work.specs.Takers.{passing, is_taker}

one_more : (p : ℕ → Bool) (from many : ℕ) → from < many → passing p from (many - from) ≡ cond (p from) (from ∷ passing p (from + 1) (many - (from + 1))) (passing p (from + 1) (many - (from + 1)))
one_more p from many within =
    let left : many - from ≡ suc (many - (from + 1)) = omega (arith, within) in
    ap (passing p from) left

-- the first one doesn't pass
passing_later : (p : ℕ → Bool) (from many : ℕ) → from < many → p from ≡ false → passing p from (many - from) ≡ passing p (from + 1) (many - (from + 1))
passing_later p from many within e = one_more p from many within ∙ cond-false (p from) _ _ e

numbers_passing : (p : ℕ → Bool) (b : ℕ) (setups : List (ProtocolKind × ℕ)) → filter p (numbers_from b setups) ≡ passing p b (length setups)
numbers_passing p b [] = refl
numbers_passing p b (s ∷ setups) = ap (λ bs. cond (p b) (b ∷ bs) bs) (numbers_passing p (b + 1) setups)

-- these are the takers of the rules
pub takers_passing : (net : Net) (frames : List (List ℕ)) → takers net frames ≡ passing (is_taker net frames) 0 (length net.head.bindings)
takers_passing net frames = numbers_passing (is_taker net frames) 0 net.head.bindings

abbrev taken_by : List (List ℕ) → Port → StackHead → ℕ → Bool
taken_by frames port head b = is_taken_by (slice_index port.delivers_by b) head.port.address (slice_index_or frames 0 [])

-- the bindings take the same while the packet filters and the address are the same
pub passing_same : (net now : Net) (frames : List (List ℕ)) (from many : ℕ) → now.port ≡ net.port → now.head ≡ net.head → passing (is_taker now frames) from many ≡ passing (is_taker net frames) from many
passing_same net now frames from many port head =
    ap (λ (q : Port). passing (taken_by frames q now.head) from many) port ∙ ap (λ (h : StackHead). passing (taken_by frames net.port h) from many) head

-- then the next one of the rest is the next one of all
pub later_taken : (p : ℕ → Bool) (from many : ℕ) (r : Option ℕ) → from < many → p from ≡ false
    → IfSome r (λ b. passing p (from + 1) (many - (from + 1)) ≡ b ∷ passing p (b + 1) (many - (b + 1))) → IfSome r (λ b. passing p from (many - from) ≡ b ∷ passing p (b + 1) (many - (b + 1)))
later_taken p from many None within e so = tt
later_taken p from many (Some b) within e so = passing_later p from many within e ∙ so
