-- The words of the command.
use Rattle.std.specs.Prelude.{ℕ, ◌-◌, ◌==◌, ◌&&◌, nat_le, Bool, false, List, [], ◌∷◌, Option, Some, None, option_map, is_some, unwrap_or, length, take, drop, codes, bytes_eq, if◌then◌else◌}

-- the byte is a digit of a lane, 0 to 7
abbrev pub is_lane : ℕ → Bool
is_lane byte = nat_le 48 byte && nat_le byte 55

-- digits of lanes, joined by commas
abbrev pub joined_lanes : List ℕ → Option (List ℕ)
joined_lanes [] = None
joined_lanes (digit ∷ []) = if is_lane digit then Some ((digit - 48) ∷ []) else None
joined_lanes (digit ∷ comma ∷ others) = if is_lane digit && comma == 44 then option_map (λ lanes. (digit - 48) ∷ lanes) (joined_lanes others) else None

-- 1 to 16,384 of them
abbrev pub lanes_in : List ℕ → Option (List ℕ)
lanes_in text = if nat_le (length text) 32767 then joined_lanes text else None

-- the same behind its name
abbrev pub named_in : List ℕ → Option (List ℕ)
named_in word = if bytes_eq (take 8 word) (codes "--order=") then lanes_in (drop 8 word) else None

-- the words ask for a replay, in this order of lanes: `replay` alone, or with an order in a word of its own or in one
-- word with its name
abbrev pub order_in : List (List ℕ) → Option (List ℕ)
order_in (word ∷ []) = if bytes_eq word (codes "replay") then Some [] else None
order_in (word ∷ order ∷ []) = if bytes_eq word (codes "replay") then named_in order else None
order_in (word ∷ name ∷ lanes ∷ []) = if bytes_eq word (codes "replay") && bytes_eq name (codes "--order") then lanes_in lanes else None
order_in _ = None

-- the words are a form of the command
abbrev pub is_form : List (List ℕ) → Bool
is_form words = is_some (order_in words)

-- the order of lanes that they ask for; none where they aren't a form
abbrev pub order_told : List (List ℕ) → List ℕ
order_told words = unwrap_or (order_in words) []
